use Rattle.std.proofs.Common.{refl}
use Rattle.abs_tree.specs.SyntaxViews.{decl_tree}
use Rattle.abs_profile.proofs.NotedLemmas.{noted_step, noted_all}
use Rattle.abs_profile.specs.Profile.{decl_offences}
use Rattle.abs_profile.proofs.declarations.note_in_declarations.Goals as goal

pub loop-decl-preserved : goal.loop-decl-preserved
loop-decl-preserved c names =
    noted_step c.decl-item.result (decl_offences (decl_tree names c.decl-item.result)) (c.loop-decl.invariant names)
    c.loop-decl-test.true c.decl-item.is (λ others. refl) (c.note_in_declaration.ensures names)

pub returns : goal.returns
returns c names = noted_all (c.loop-decl.invariant names) c.loop-decl-test.false
