use Rattle.std.proofs.Common.{Contains, sym, subst, ◌∙◌}
use Rattle.circularity_test.proofs.StepLemmas.{one_sign, sign_added, sign_kept}
use Rattle.circularity_test.proofs.steps.add_sign.Goals as goal

pub returns-in_ok-insert-in-Await-Method : goal.returns-in_ok-insert-in-Await-Method
returns-in_ok-insert-in-Await-Method c =
    let old = c.args.signs.now.keys in
    let own = c.in-Await-Method.sign in
    let keys = c.in_ok-insert-in-Await-Method.ensures.keys in
    record {
      kept = λ sign there. subst (λ list. Contains list sign) (sym keys) (sign_kept old c.copied.result sign there);
      added = λ sign method awaits source.
          subst (Contains c.insert.new.self.keys)
          (c.copied.ensures ∙ one_sign c.args.pair.now.source own sign _ method c.in-Await-Method.is-1 source)
          (subst (λ list. Contains list c.copied.result) (sym keys) (sign_added old c.copied.result));
    }
