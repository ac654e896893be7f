-- What a walk knows after a statement, from what it knows after each part of it.
use Rattle.std.proofs.Common.{◌≡◌, ℕ, false, List, [], ◌∷◌, ◌++◌, get_or, refl, sym, ap, ◌∙◌, append_assoc}
use Rattle.std.proofs.Math.Path.{fun_ext}
use Rattle.std.proofs.lemmas.List.{append-nil}
use Rattle.std.specs.List.{flat_map}
use Rattle.std.specs.Prelude.{Bool, not, ◌&&◌, ◌||◌, true, Option, option_to_list}
use Rattle.std.specs.declared.alloc.Global.{Global}
use Rattle.std.specs.declared.vec.Vec.{Vec}
use Rattle.abs_program.specs.Flows.{Slots, fact_after}
use Rattle.abs_program.specs.Instructions.{EffectTree, effect_of}
use Rattle.abs_tree.proofs.StatementLemmas.{HoldsNone}
use Rattle.abs_tree.specs.Syntax.{Name, ExprTree, Statement, BlockOf, IfOf, WhileOf, MaybeStatements, NoElse, Statements}
use Rattle.abs_tree.specs.SyntaxViews.{expr_tree, statement, statements, tests}
use Rattle.abs_tree.specs.declared.place.Place.{Place}
use Rattle.contract_terms.specs.Settled.{assigned_in, assigned_by, assigned_in_else, assigns, named_slots, settles}
use Rattle.contract_infer.proofs.SettledEffectLemmas.{among-append, assigns-given, named_slots-given, named_slots_in-next, or-false, settles-named}
use Rattle.contract_infer.proofs.SettledStepLemmas.{added_both, and-true, cleared_both, does_both, does_both_as, does_nothing, known_same, IsLoop}
use Rattle.contract_infer.specs.SettledRows.{rows_of}
use Rattle.contract_infer.specs.SettledWalk.{added, among, awaited_by, cleared, done, future_of, hidden_of, kept, known_by, named_in, named_slots_in, passed, passed_one, passed_else, passed_if, passed_loop, rows_in, rows_in_else, target_of, with_row, Does, Known, Takes}
use Rattle.contract_infer.specs.declared.settled.Walk.{Walk}

-- making settled what a guard names is a loop over its parts
pub settles_loop : (names : List Name)
    → IsLoop (λ guard. added (among (named_slots_in (tests names guard))))
    (λ test. added (among (option_to_list (named_in test.asks (expr_tree names test.value.value)))))
settles_loop names = record {
  none = λ known. known_same _ _ (λ slot. or-false (known.slots slot)) refl;
  next = λ test others known.
      let first = option_to_list (named_in test.asks (expr_tree names test.value.value)) in
      let rest = named_slots_in (tests names others) in
      ap (λ (slots : List ℕ). added (among slots) known)
      (named_slots_in-next test.place (expr_tree names test.value.value) test.asks (tests names others))
      ∙ (ap (λ (more : Slots). added more known) (fun_ext (among-append first rest))
      ∙ sym (added_both (among first) (among rest) known));
}

-- making unsettled what statements assign is a loop over them
pub forgets_loop : (names : List Name)
    → IsLoop (λ stmts. cleared (assigned_in (statements names stmts)))
    (λ stmt. cleared (assigned_by (statement names stmt)))
unfolding assigned_in
forgets_loop names = record {
  none = λ known. known_same _ _ (λ slot. and-true (known.slots slot)) refl;
  next = λ stmt others known.
      sym (cleared_both (assigned_by (statement names stmt)) (assigned_in (statements names others)) known);
}

-- passing statements is a loop over them
pub passes_loop : (names : List Name)
    → IsLoop (λ stmts. passed (statements names stmts)) (λ stmt. passed_one (statement names stmt))
unfolding fact_after rows_in
passes_loop names = record {
  none = λ known. known_same _ _ (λ slot. refl) (append-nil known.rows);
  next = λ stmt others known. known_same _ _ (λ slot. refl) (sym (append_assoc known.rows _ _));
}

-- what a statement names is made settled, part by part
pub settled_both : {old mid new : Walk} (effect : EffectTree) (waits : List (Option ℕ)) (future : Option ℕ)
    → waits ≡ awaited_by effect → future ≡ future_of effect
    → Does (added (among (flat_map option_to_list waits))) old mid
    → Does (added (among (option_to_list future))) mid new → Does (added (settles effect)) old new
settled_both effect waits future waits_are future_is first second =
    let one = flat_map option_to_list waits in
    let other = option_to_list future in
    let same = named_slots-given effect waits future waits_are future_is in
    does_both_as
    (λ known. added_both (among one) (among other) known
    ∙ ap (λ (more : Slots). added more known)
    (fun_ext (λ slot. sym (among-append one other slot)
    ∙ (ap (λ (slots : List ℕ). among slots slot) same ∙ sym (settles-named effect slot)))))
    first second

-- what a statement assigns is made unsettled, part by part
pub assigned_both : {old mid new : Walk} (effect : EffectTree) (hidden target : Option ℕ) → hidden ≡ hidden_of effect
    → target ≡ target_of effect → Does (cleared (among (option_to_list hidden))) old mid
    → Does (cleared (among (option_to_list target))) mid new → Does (cleared (assigns effect)) old new
assigned_both effect hidden target hidden_is target_is first second =
    does_both_as
    (λ known. cleared_both (among (option_to_list hidden)) (among (option_to_list target)) known
    ∙ ap (λ (gone : Slots). cleared gone known) (fun_ext (assigns-given effect hidden target hidden_is target_is)))
    first second

-- what is taken out of a set and put back
and_not_back : (test gone : Bool) → ((test && not gone) || gone) ≡ (test || gone)
and_not_back true true = refl
and_not_back true false = refl
and_not_back false gone = refl

-- a statement by itself: its row is made of the slots that it names, which are settled after it unless it assigns them
pub done_alone : {old taken pushed more new : Walk} {row : List ℕ} (effect : EffectTree)
    → Takes (named_slots effect) old taken [] row → Does (with_row row) taken pushed
    → Does (added (settles effect)) pushed more → Does (cleared (assigns effect)) more new
    → Does (done effect) old new
done_alone {old} {taken} {pushed} {more} {new} {row} effect takes pushes adds clears = record {
  does = λ well.
      let before = known_by old in
      let gone = λ (slot : ℕ). assigns effect slot in
      let row_is = takes.adds (pushes.does (adds.does (clears.does well).0).0).0 in
      let all = (does_both (does_both (does_both takes.does pushes) adds) clears).does well in (
        all.0,
        all.1 ∙ known_same _ (done effect before)
            (λ slot. ap (λ (test : Bool). test && not (assigns effect slot))
            (ap (λ (named : Bool). (before.slots slot && not named) || settles effect slot)
            (sym (settles-named effect slot))
            ∙ and_not_back (before.slots slot) (settles effect slot)))
            (ap (λ (own : List ℕ). before.rows ++ own ∷ []) row_is),
      );
}

-- a statement that holds no others assigns what its effect does
pub forgets_alone : {old new : Walk} (one : Statement) → HoldsNone one
    → Does (cleared (assigns (effect_of one))) old new → Does (cleared (assigned_by one)) old new
unfolding assigned_in
forgets_alone (BlockOf place block) alone does = absurd alone
forgets_alone (IfOf index place condition first second) alone does = absurd alone
forgets_alone (WhileOf index place condition body) alone does = absurd alone
forgets_alone one alone does = does

-- the branches of an `if` assign what they do together
pub forgets_if : {old mid new : Walk} (index : ℕ) (place : Place) (condition : ExprTree) (first : Statements)
    (second : MaybeStatements) → Does (cleared (assigned_in first)) old mid
    → Does (cleared (assigned_in_else second)) mid new
    → Does (cleared (assigned_by (IfOf index place condition first second))) old new
unfolding assigned_in
forgets_if index place condition first second one other =
    does_both_as (cleared_both (assigned_in first) (assigned_in_else second)) one other

-- where there is no other branch nothing is assigned, and nothing is passed
pub forgets_no_else : (walk : Walk) → Does (cleared (assigned_in_else NoElse)) walk walk
unfolding assigned_in
forgets_no_else walk =
    does_nothing (cleared (assigned_in_else NoElse)) walk
    (known_same _ _ (λ slot. and-true ((known_by walk).slots slot)) refl)

pub passes_no_else : (walk : Walk) → Does (passed_else NoElse) walk walk
unfolding fact_after rows_in
passes_no_else walk =
    does_nothing (passed_else NoElse) walk (known_same _ _ (λ slot. refl) (append-nil (known_by walk).rows))

-- a statement that holds no others is passed by its effect
pub passes_alone : {old new : Walk} (one : Statement) → HoldsNone one → Does (done (effect_of one)) old new
    → Does (passed_one one) old new
unfolding fact_after rows_in
passes_alone (BlockOf place block) alone does = absurd alone
passes_alone (IfOf index place condition first second) alone does = absurd alone
passes_alone (WhileOf index place condition body) alone does = absurd alone
passes_alone one alone does = does

-- One walk shows the bits that another one shows, and is otherwise as a third one.
pub record TakesUp (bits rest now : Walk) : Type 0 where
  pub settled_are : now.settled.items ≡ bits.settled.items
  pub rows_are : now.rows ≡ rest.rows
  pub failed_is : now.failed ≡ rest.failed

-- what such a walk knows
known-taken_up : {bits rest now : Walk} → TakesUp bits rest now
    → known_by now ≡ record { slots = (known_by bits).slots; rows = (known_by rest).rows }
known-taken_up {bits} {rest} {now} up =
    known_same (known_by now) (record { slots = (known_by bits).slots; rows = (known_by rest).rows })
    (λ slot. ap (λ (shown : List Bool). get_or shown slot false) up.settled_are)
    (ap (λ (rows : Vec (Vec ℕ Global) Global). rows_of rows.items) up.rows_are)

-- the branches of an `if`: the second one begins with what was settled before the first
pub passes_branches : {old before one swapped other new : Walk} (first : Statements) (second : MaybeStatements)
    → Does (with_row []) old before → Does (passed first) before one → TakesUp before one swapped
    → Does (passed_else second) swapped other → Does (kept (known_by one).slots) other new
    → Does (passed_if first second) old new
passes_branches {old} {before} {one} {swapped} {other} {new} first second pushes passes up others keeps = record {
  does = λ well.
      let joined = λ (begun done_first : Known). kept done_first.slots
      (passed_else second (record { slots = begun.slots; rows = done_first.rows })) in
      let last = keeps.does well in
      let later = others.does last.0 in
      let earlier = passes.does (sym up.failed_is ∙ later.0) in
      let begun = pushes.does earlier.0 in
      let start = known_by old in
      let rows_first = rows_in start.slots first in
      let rows_second = rows_in_else start.slots second in (
        begun.0,
        last.1
            ∙ (ap (kept (known_by one).slots) (later.1 ∙ ap (passed_else second) (known-taken_up up))
            ∙ (ap (joined (known_by before)) earlier.1
            ∙ (ap (λ (known : Known). joined known (passed first known)) begun.1
            ∙ known_same (joined (with_row [] start) (passed first (with_row [] start))) (passed_if first second start)
            (λ slot. refl)
            (ap (λ (rows : List (List ℕ)). rows ++ rows_second) (append_assoc start.rows ([] ∷ []) rows_first)
            ∙ append_assoc start.rows ([] ∷ rows_first) rows_second)))),
      );
}

-- a loop: after it that is settled which was at it
pub passes_body : {old before at_loop inside new : Walk} (body : Statements) → Does (with_row []) old before
    → Does (cleared (assigned_in body)) before at_loop → Does (passed body) at_loop inside
    → TakesUp at_loop inside new → Does (passed_loop body) old new
passes_body {old} {before} {at_loop} {inside} {new} body pushes forgets passes up = record {
  does = λ well.
      let last = passes.does (sym up.failed_is ∙ well) in
      let begun = (does_both pushes forgets).does last.0 in
      let start = known_by old in
      let looped = cleared (assigned_in body) (with_row [] start) in (
        begun.0,
        known-taken_up up
            ∙ (ap (λ (known : Known). record { slots = (known_by at_loop).slots; rows = known.rows }) last.1
            ∙ (ap (λ (known : Known). record { slots = known.slots; rows = (passed body known).rows }) begun.1
            ∙ known_same (record { slots = looped.slots; rows = (passed body looped).rows }) (passed_loop body start)
            (λ slot. refl) (append_assoc start.rows ([] ∷ []) (rows_in looped.slots body)))),
      );
}
