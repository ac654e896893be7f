use Rattle.std.proofs.Common.{ℕ, Ok, ap}
use Rattle.abs_program.specs.Tables.{Table}
use Rattle.abs_names.specs.TypeNames.{Around}
use Rattle.abs_program.specs.KeptSpaces.{spaces_by_name}
use Rattle.abs_names.proofs.SpaceLemmas.{proper_first, named_first}
use Rattle.abs_names.proofs.around.Around.add_type_param.Goals as goal

pub invariant_of-self-2 : goal.invariant_of-self-2
invariant_of-self-2 c = (
  c.self.invariant.0,
  proper_first c.self.inside.symbols.now c.self.inside.type_params c.push_first.new.self c.number-number.result
      c.kept-name.result c.args.index c.push_first.result c.push_first.ensures.added c.push_first.ensures.err
      c.number-number.ensures.number c.self.invariant.1,
  c.self.invariant.2,
)

pub returns-clause-around : goal.returns-clause-around
returns-clause-around c =
    let names = c.self.inside.symbols.now in
    let is = rw (← c.self.view_is) at c.kept-name.ensures in
    let around : Table ℕ → Around =
    λ known. record { spaces = spaces_by_name names c.self.inside.spaces; type_params = known } in
    rw (← c.self.view_is) (ap around (named_first {E = Unit} names (λ (one : ℕ). one) c.self.inside.type_params
    c.push_first.new.self c.number-number.result c.kept-name.result _ c.args.index (Ok c.in_ok-push_first.field-0)
    c.in_ok-push_first.ensures.added c.number-number.ensures.number is c.self.invariant.1))
