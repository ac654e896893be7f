-- The part has the number at which it was put, and the others keep theirs.
use Rattle.std.proofs.Common.{◌≡◌, ◌∙◌, Some, slice_get, refl, ap, sym, subst}
use Rattle.circularity_test.proofs.NodeLemmas.{key_kept}
use Rattle.circularity_test.proofs.StepLemmas.{part_eq, part_eq_decides}
use Rattle.circularity_test.proofs.parts.Parts.number.Goals as goal

pub returns-in-Ok : goal.returns-in-Ok
returns-in-Ok c =
    let stored = c.in_ok-number.ensures.stored in
    let keys = c.insert_full.new.self.keys in
    record {
      keys = λ index one there. subst (λ now. slice_get now index ≡ Some one) (sym c.in_ok-number.ensures.keys)
          (key_kept part_eq c.args.self.now.parts.keys c.args.part index one there);
      there = subst (λ number. slice_get keys number ≡ Some c.args.part) (sym c.in-Ok.ensures.1)
          (stored.1 ∙ ap Some (sym ((part_eq_decides c.args.part stored.0).0 stored.2)));
      edges = refl;
    }
