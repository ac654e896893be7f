use Rattle.std.proofs.Common.{ap}
use Rattle.std.proofs.lemmas.Result.{on_ok_weaker}
use Rattle.abs_program.specs.Tables.{Table}
use Rattle.abs_program.specs.declared.name_spaces.ConstructorMeaning.{ConstructorMeaning}
use Rattle.abs_names.specs.TypeNames.{Around}
use Rattle.abs_program.specs.KeptSpaces.{named}
use Rattle.abs_names.proofs.SpaceLemmas.{taken_name, proper_first, named_first}
use Rattle.abs_names.proofs.around.Around.declare_constructor.Goals as goal

pub invariant_of-self : goal.invariant_of-self
invariant_of-self c =
    let names = c.self.inside.symbols.now in (
      c.self.invariant.0,
      c.self.invariant.1,
      record {
        types = c.self.invariant.2.types;
        constructors = proper_first names c.self.inside.spaces.constructors c.push_first.new.self c.number-number.result
            c.kept-name.result c.args.meaning c.push_first.result c.push_first.ensures.added
            c.push_first.ensures.err c.number-number.ensures.number c.self.invariant.2.constructors;
        functions = c.self.invariant.2.functions;
        classes = c.self.invariant.2.classes;
      },
    )

pub returns-clause-taken : goal.returns-clause-taken
returns-clause-taken c =
    let known = c.self.inside.spaces.constructors in
    let is = rw (← c.self.view_is) at c.kept-name.ensures in
    rw (← c.self.view_is) (taken_name c.self.inside.symbols.now (λ (one : ConstructorMeaning). one) known
    c.number-number.result c.kept-name.result _ c.push_first.result c.push_first.ensures.known
    c.number-number.ensures.number is c.self.invariant.2.constructors)

pub returns-clause-around : goal.returns-clause-around
returns-clause-around c =
    let names = c.self.inside.symbols.now in
    let known = c.self.inside.spaces.constructors in
    let is = rw (← c.self.view_is) at c.kept-name.ensures in
    let around : Table ConstructorMeaning → Around = λ pairs. record {
      spaces = record {
        types = named names (λ one. one) c.self.inside.spaces.types;
        constructors = pairs;
        functions = named names (λ one. one) c.self.inside.spaces.functions;
        classes = named names (λ one. one) c.self.inside.spaces.classes;
      };
      type_params = named names (λ index. index) c.self.inside.type_params;
    } in
    rw (← c.self.view_is) (on_ok_weaker c.push_first.result (λ e. ap around e)
    (named_first names (λ (one : ConstructorMeaning). one) known c.push_first.new.self c.number-number.result
    c.kept-name.result _ c.args.meaning c.push_first.result c.push_first.ensures.added
    c.number-number.ensures.number is c.self.invariant.2.constructors))
