use Rattle.std.proofs.Common.{◌∙◌, ℕ, ap, arith, length, drop}
use Rattle.std.proofs.lemmas.List.{drop-drop}
use Rattle.abs_program.proofs.LinkLemmas.{length-pairs_of}
use Rattle.abs_program.proofs.meanings.Meanings.shorten.Goals as goal

pub loop-preserved : goal.loop-preserved
loop-preserved o c =
    c.pop.ensures ∙ (ap (drop 1) c.loop.invariant ∙ drop-drop 1 c.loop.counter c.args.self.now)

pub returns : goal.returns
returns o c =
    let entries = c.self.inside.entries in
    c.loop.invariant
    ∙ ap (λ (n : ℕ). drop n c.args.self.now) (omega (
      arith,
      c.loop-test.false,
      c.loop.auto.counter-end,
      c.saturating_sub-excess.ensures,
      c.len.ensures,
      entries.ok.0,
      length-pairs_of entries.items,
      ap length c.self.view_is,
    ))
