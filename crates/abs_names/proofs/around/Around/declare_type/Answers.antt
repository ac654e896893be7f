use Rattle.std.proofs.Common.{ap}
use Rattle.std.proofs.lemmas.Result.{on_ok_weaker}
use Rattle.abs_program.specs.Tables.{Table}
use Rattle.abs_program.specs.declared.name_spaces.TypeMeaning.{TypeMeaning}
use Rattle.abs_names.specs.TypeNames.{Around}
use Rattle.abs_program.specs.KeptSpaces.{named}
use Rattle.abs_names.proofs.SpaceLemmas.{taken_name, proper_first, named_first}
use Rattle.abs_names.proofs.around.Around.declare_type.Goals as goal

pub invariant_of-self : goal.invariant_of-self
invariant_of-self c =
    let names = c.self.inside.symbols.now in (
      c.self.invariant.0,
      c.self.invariant.1,
      record {
        types = proper_first names c.self.inside.spaces.types c.push_first.new.self c.number-number.result
            c.kept-name.result c.args.meaning c.push_first.result c.push_first.ensures.added
            c.push_first.ensures.err c.number-number.ensures.number c.self.invariant.2.types;
        constructors = c.self.invariant.2.constructors;
        functions = c.self.invariant.2.functions;
        classes = c.self.invariant.2.classes;
      },
    )

pub returns-clause-taken : goal.returns-clause-taken
returns-clause-taken c =
    let known = c.self.inside.spaces.types in
    let is = rw (← c.self.view_is) at c.kept-name.ensures in
    rw (← c.self.view_is) (taken_name c.self.inside.symbols.now (λ (one : TypeMeaning). one) known
    c.number-number.result c.kept-name.result _ c.push_first.result c.push_first.ensures.known
    c.number-number.ensures.number is c.self.invariant.2.types)

pub returns-clause-around : goal.returns-clause-around
returns-clause-around c =
    let names = c.self.inside.symbols.now in
    let known = c.self.inside.spaces.types in
    let is = rw (← c.self.view_is) at c.kept-name.ensures in
    let around : Table TypeMeaning → Around = λ pairs. record {
      spaces = record {
        types = pairs;
        constructors = named names (λ one. one) c.self.inside.spaces.constructors;
        functions = named names (λ one. one) c.self.inside.spaces.functions;
        classes = named names (λ one. one) c.self.inside.spaces.classes;
      };
      type_params = named names (λ index. index) c.self.inside.type_params;
    } in
    rw (← c.self.view_is) (on_ok_weaker c.push_first.result (λ e. ap around e)
    (named_first names (λ (one : TypeMeaning). one) known c.push_first.new.self c.number-number.result
    c.kept-name.result _ c.args.meaning c.push_first.result c.push_first.ensures.added
    c.number-number.ensures.number is c.self.invariant.2.types))
