use Rattle.std.proofs.Common.{◌≡◌, ◌∙◌, ◌++◌, List, refl, ap, fold, map, take}
use Rattle.std.specs.Prelude.{None}
use Rattle.abs_program.specs.NameSpaces.{built_in}
use Rattle.abs_tree.specs.Offences.{earlier}
use Rattle.abs_tree.specs.Syntax.{DeclTree}
use Rattle.abs_tree.specs.SyntaxViews.{decl_tree}
use Rattle.abs_names.specs.Repeats.{declarations_repeats}
use Rattle.abs_names.specs.Spaces.{spaces_offences}
use Rattle.abs_names.specs.Visible.{Names}
use Rattle.abs_names.proofs.FormLemmas.{both_noted}
use Rattle.abs_names.proofs.BothLemmas.{both_are}
use Rattle.abs_names.proofs.resolver.noted_walk.Goals as goal

pub returns-clause-first : goal.returns-clause-first
returns-clause-first c =
    let names = c.args.symbols.now in
    let walk = c.in_ok-walk.walk in
    let start : walk.scope.names.after ≡ names = ap (λ (ns : Names). ns.after) c.in_ok-walk.ensures.names in
    let all = map (decl_tree names) c.args.prelude.now
    ++ map (decl_tree (take c.args.readable names)) c.args.source.now in
    both_noted None walk.first c.note_both.new.self.first (spaces_offences 0 built_in all) (declarations_repeats all)
    c.in_ok-walk.ensures.first
    (c.in_ok-note_both.ensures.noted
    ∙ ap (λ (ds : List DeclTree). fold earlier walk.first (declarations_repeats ds))
    (both_are {first = c.args.prelude.now} {second = c.args.source.now} start (ap (take c.args.readable) start) refl
    refl refl))
