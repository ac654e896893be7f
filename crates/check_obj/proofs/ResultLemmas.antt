-- Calls whose result is passed on.
--
--   `passed_stays`             a checker that stays before a call and in it stays
--   `passed_noted`             what is noted in a call is noted after other offences
use Rattle.std.proofs.Common.{List, ◌++◌, Option, OnOk}
use Rattle.std.proofs.lemmas.Result.{on_ok_weaker}
use Rattle.std.specs.declared.result.Result.{Result}
use Rattle.abs_tree.specs.declared.refusal.Offence.{Offence}
use Rattle.check_fun.proofs.ContextLemmas.{noted_after, stays_transitive}
use Rattle.check_fun.specs.Contexts.{Noted, Stays}
use Rattle.check_fun.specs.declared.checker.Checker.{Checker}

-- a checker that stays before a call and in it stays
pub passed_stays : {T E : Type 0} {before between : Checker} (result : Result T E) (now : Checker)
    → Stays before between → OnOk result (Stays between now) → OnOk result (Stays before now)
passed_stays {between = between} result now first stays =
    on_ok_weaker result (λ (last : Stays between now). stays_transitive first last) stays

-- what is noted in a call is noted after other offences
pub passed_noted : {T E : Type 0} {before between : Option Offence} (result : Result T E) (now : Option Offence)
    (xs ys : List Offence) → Noted before xs between → OnOk result (Noted between ys now)
    → OnOk result (Noted before (xs ++ ys) now)
passed_noted {between = between} result now xs ys first noted =
    on_ok_weaker result (λ (last : Noted between ys now). noted_after xs ys first last) noted
