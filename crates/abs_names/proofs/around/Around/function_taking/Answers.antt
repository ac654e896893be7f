use Rattle.std.proofs.Common.{◌∙◌, sym, ap}
use Rattle.std.specs.Prelude.{option_map}
use Rattle.abs_program.specs.KeptSpaces.{named}
use Rattle.abs_program.specs.NameSpaces.{function_arity}
use Rattle.abs_program.specs.Tables.{meaning_of}
use Rattle.abs_names.proofs.around.Around.function_taking.Goals as goal

pub function-requires : goal.function-requires
function-requires c = c.self.invariant.2

pub returns-in-Some : goal.returns-in-Some
returns-in-Some c =
    let known = named c.self.inside.symbols.now (λ x. x) c.self.inside.spaces.functions in
    let is = rw (← c.self.view_is) at c.kept.ensures in
    rw c.function_arity.ensures (rw (← c.self.view_is) (ap (option_map function_arity)
    (sym c.in-Some.is ∙ (c.function.ensures ∙ ap (meaning_of known) is))))

pub returns-in-None : goal.returns-in-None
returns-in-None c =
    let known = named c.self.inside.symbols.now (λ x. x) c.self.inside.spaces.functions in
    let is = rw (← c.self.view_is) at c.kept.ensures in
    (rw (← c.self.view_is) (ap (option_map function_arity)
    (sym c.in-None.is ∙ (c.function.ensures ∙ ap (meaning_of known) is))))
