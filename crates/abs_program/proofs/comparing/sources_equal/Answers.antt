use Rattle.std.proofs.Common.{◌&&◌, sym, ap, ◌∙◌}
use Rattle.std.proofs.lemmas.Bool.Decides.{Decides-at}
use Rattle.abs_tree.specs.contracts.syntax.declaration.BodyPartialEq.TheImpl as body_impl
use Rattle.abs_program.proofs.EqualDeclarationLemmas.{program_equal-Decides}
use Rattle.abs_program.proofs.comparing.sources_equal.Goals as goal

pub returns-then-eq : goal.returns-then-eq
returns-then-eq c =
    let left = c.args.left.now in
    let right = c.args.right.now in
    let same_main = body_impl.ghosts.eq left.main right.main in
    let reported = c.eq-then-eq.ensures ∙ ap (λ same. same && same_main) (sym c.if-eq.true ∙ c.eq.ensures) in
    Decides-at _ _ reported
    (program_equal-Decides left.declarations.items right.declarations.items left.main right.main)

pub returns-else-eq : goal.returns-else-eq
returns-else-eq c =
    let left = c.args.left.now in
    let right = c.args.right.now in
    let same_main = body_impl.ghosts.eq left.main right.main in
    let reported = c.if-eq.false ∙ ap (λ same. same && same_main) (sym c.if-eq.false ∙ c.eq.ensures) in
    Decides-at _ _ reported
    (program_equal-Decides left.declarations.items right.declarations.items left.main right.main)
