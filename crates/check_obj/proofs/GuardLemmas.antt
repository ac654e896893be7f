-- Guards, whose parts are checked one by one.
--
--   `GuardSoFar`                       the first parts were checked
--   `guard_begins`, `guard_next`, `guard_ends`     before the first part, after one more, and after all
use Rattle.std.proofs.Common.{◌≡◌, ℕ, ◌+◌, ◌<◌, ◌≤◌, List, [], ◌∷◌, ◌++◌, get_or, length, take, sym, ap, ◌∙◌, subst, append_assoc, append-nil}
use Rattle.std.proofs.lemmas.List.{take_all, take_more}
use Rattle.abs_tree.specs.SyntaxViews.{expr_tree}
use Rattle.abs_tree.specs.declared.refusal.Offence.{Offence}
use Rattle.abs_tree.specs.declared.syntax.statement.Test.{Test}
use Rattle.abs_types.specs.StatementOffences.{part_offences}
use Rattle.check_fun.proofs.ContextLemmas.{noted_after, noted_nothing, stays_reflexive, stays_transitive, knows_stays}
use Rattle.check_fun.specs.Contexts.{Context, Knows, Noted, Stays}
use Rattle.check_fun.specs.declared.checker.Checker.{Checker}
use Rattle.check_obj.specs.Bodies.{guard_offends, unbound}

-- the offences of a part
abbrev pub part_offends : Context → Test → List Offence
part_offends context test =
    part_offences context.declarations context.frame test.place (expr_tree context.names test.value.value) test.asks

-- those of several parts and of one more
offends_push : (context : Context) (tests : List Test) (last : Test)
    → guard_offends context (tests ++ last ∷ []) ≡ guard_offends context tests ++ part_offends context last
offends_push context [] last = append-nil (part_offends context last)
offends_push context (first ∷ others) last =
    ap (λ (rest : List Offence). part_offends context first ++ rest) (offends_push context others last)
    ∙ sym (append_assoc (part_offends context first) (guard_offends context others) (part_offends context last))

-- The parts before an index were checked from a start on.
pub record GuardSoFar (start now : Checker) (tests : List Test) (index : ℕ) : Type 0 where
  pub stays : Stays start now
  pub noted : (context : Context) → Knows start (unbound context)
      → Noted start.first (guard_offends context (take index tests)) now.first

-- none were before the first one
pub guard_begins : {start : Checker} {tests : List Test} → GuardSoFar start start tests 0
guard_begins = record { stays = stays_reflexive; noted = λ context knows. noted_nothing }

-- one more was
pub guard_next : {start now after : Checker} {tests : List Test} {index : ℕ} (test : Test)
    → GuardSoFar start now tests index → index < length tests → test ≡ get_or tests index test
    → ((context : Context) → Knows now (unbound context)
    → Noted now.first (part_offends context test) after.first)
    → Stays now after → GuardSoFar start after tests (index + 1)
guard_next {start} {now} {after} {tests} {index} test so there at noted stays = record {
  stays = stays_transitive so.stays stays;
  noted = λ context knows.
      let more : take (index + 1) tests ≡ take index tests ++ test ∷ [] =
      take_more tests index test there ∙ ap (λ (one : Test). take index tests ++ one ∷ []) (sym at) in
      rw (more, offends_push)
      (noted_after (guard_offends context (take index tests)) (part_offends context test) (so.noted context knows)
      (noted context (knows_stays so.stays knows)));
}

-- all were
pub guard_ends : {start now : Checker} {tests : List Test} {index : ℕ} → GuardSoFar start now tests index
    → length tests ≤ index → (context : Context) → Knows start (unbound context)
    → Noted start.first (guard_offends context tests) now.first
guard_ends {start} {now} {tests} {index} so over context knows =
    subst (λ (checked : List Test). Noted start.first (guard_offends context checked) now.first)
    (take_all index tests over) (so.noted context knows)
