-- Fine items are read to the end from their completion: by rounds over the nonterminals, of which twelve are enough.
use Rattle.std.proofs.Common.{◌≡◌, ℕ, zero, suc, ◌+◌, Bool, true, false, List, [], ◌∷◌, ◌++◌, Option, Some, refl, sym, ap, subst, ◌∙◌}
use Rattle.std.specs.Prelude.{option_map, if◌then◌else◌}
use Rattle.std.specs.List.{list_all}
use Rattle.std.proofs.lemmas.Bool.{and_parts}
use Rattle.std.proofs.lemmas.List.{append_assoc}
use Rattle.abs_parser.specs.TokenKinds.{Mark, TokenKind, next}
use Rattle.abs_parser.specs.Productions.{Nonterminal, Program, Item, Of, Part, Opt, Many, Inside}
use Rattle.abs_parser.specs.Readings.{Goal, One, Optional, Repeated, Wanted, Terminal, Subgoal, place_item, place, inner_depth, opened, Empty, Nothing}
use Rattle.abs_parser.proofs.grammar.ReadingLemmas.{WholeReading, part_closed, token_put}
use Rattle.abs_parser.proofs.stop.CompletionLemmas.{Fine, begins_not, chosen_is_fine, chosen_shortly, continues, fine_tail, finish, goal_tokens, item_tokens, items_fine, items_tokens, short, simplest, tokens_shortly}

-- the items are read from their completion, to its end
pub record Finishes (items : List Wanted) : Type 0 where
  pub depths : List ℕ
  pub whole : WholeReading items (finish items) depths

-- A token is read, followed by items that are read to the end.
token_finishes : (kind : TokenKind) (depth : ℕ) (items : List Wanted) → Fine (Terminal kind depth ∷ items)
    → Finishes items → Finishes (Terminal kind depth ∷ items)
token_finishes kind depth items fine rest = record {
  depths = depth ∷ rest.depths;
  whole = token_put fine.0 rest.whole;
}

-- A part that opens to nothing is left out, followed by items that are read to the end.
left_out : (goal : Goal) (depth : ℕ) (items : List Wanted) → goal_tokens goal ≡ []
    → opened goal (next (finish items)) depth ≡ Some [] → Finishes items
    → Finishes (Subgoal goal depth ∷ items)
left_out goal depth items none e rest = record {
  depths = rest.depths;
  whole = subst (λ (ts : List Mark). WholeReading (Subgoal goal depth ∷ items) (ts ++ finish items) rest.depths)
      (sym none)
      (part_closed e rest.whole);
}

-- A fine optional part is left out.
optional_finishes : (nonterminal : Nonterminal) (depth : ℕ) (items : List Wanted)
    → Fine (Subgoal (Optional nonterminal) depth ∷ items) → Finishes items
    → Finishes (Subgoal (Optional nonterminal) depth ∷ items)
optional_finishes nonterminal depth items fine rest =
    left_out (Optional nonterminal) depth items refl
    (ap (λ b. if b then Some (Subgoal (One nonterminal) depth ∷ []) else Some []) (begins_not nonterminal _ fine.0))
    rest

-- A fine repeated part is left out.
repeated_finishes : (nonterminal : Nonterminal) (depth : ℕ) (items : List Wanted)
    → Fine (Subgoal (Repeated nonterminal) depth ∷ items) → Finishes items
    → Finishes (Subgoal (Repeated nonterminal) depth ∷ items)
repeated_finishes nonterminal depth items fine rest =
    left_out (Repeated nonterminal) depth items refl
    (ap (λ b. if b then Some (Subgoal (One nonterminal) depth ∷ Subgoal (Repeated nonterminal) depth ∷ []) else Some [])
    (begins_not nonterminal _ fine.0)) rest

-- whether an item that is a nonterminal passes a test; other items pass
abbrev item_passes : (Nonterminal → Bool) → Item → Bool
item_passes test (Part nonterminal) = test nonterminal
item_passes test (Inside more item) = item_passes test item
item_passes test item = true

-- whether this many rounds are enough for the short list of a nonterminal
unfoldable enough : ℕ → Nonterminal → Bool
enough zero nonterminal = false
enough (suc rounds) nonterminal = list_all (λ (item : Item). item_passes (enough rounds) item) (simplest nonterminal)

-- 12 rounds are enough for each nonterminal.
twelve_are_enough : (nonterminal : Nonterminal) → enough 12 nonterminal ≡ true
unfolding enough
twelve_are_enough Program = refl
twelve_are_enough _ = refl

-- a nonterminal is read to the end, followed by items that are
abbrev Completes : Nonterminal → Type 0
Completes nonterminal = (depth : ℕ) (items : List Wanted) → Fine (Subgoal (One nonterminal) depth ∷ items)
    → Finishes items → Finishes (Subgoal (One nonterminal) depth ∷ items)

-- An item is read to the end if its nonterminal is.
item_finishes : (test : Nonterminal → Bool)
    → ((nonterminal : Nonterminal) → test nonterminal ≡ true → Completes nonterminal) → (item : Item)
    → item_passes test item ≡ true
    → (depth : ℕ) (items : List Wanted) → Fine (place_item depth item ∷ items) → Finishes items
    → Finishes (place_item depth item ∷ items)
item_finishes test complete (Of kind) e depth items fine rest = token_finishes kind depth items fine rest
item_finishes test complete (Part nonterminal) e depth items fine rest = complete nonterminal e depth items fine rest
item_finishes test complete (Opt nonterminal) e depth items fine rest =
    optional_finishes nonterminal depth items fine rest
item_finishes test complete (Many nonterminal) e depth items fine rest =
    repeated_finishes nonterminal depth items fine rest
item_finishes test complete (Inside more item) e depth items fine rest =
    item_finishes test complete item e (depth + more) items fine rest

-- An alternative is read to the end if its nonterminals are.
items_finish : (test : Nonterminal → Bool)
    → ((nonterminal : Nonterminal) → test nonterminal ≡ true → Completes nonterminal)
    → (others : List Item) → list_all (λ (item : Item). item_passes test item) others ≡ true
    → (depth : ℕ) (items : List Wanted) → Fine (place depth others ++ items) → Finishes items
    → Finishes (place depth others ++ items)
items_finish test complete [] e depth items fine rest = rest
items_finish test complete (item ∷ others) e depth items fine rest =
    let parts = and_parts _ _ e in
    item_finishes test complete item parts.0 depth (place depth others ++ items) fine
    (items_finish test complete others parts.1 depth items (fine_tail _ _ fine) rest)

-- The completion of an item, followed by others, is the item's tokens followed by the completion of the others.
item_completed : (item : Item) (depth : ℕ) (items : List Wanted)
    → finish (place_item depth item ∷ items) ≡ item_tokens short item ++ finish items
item_completed (Inside more item) depth items = item_completed item (depth + more) items
item_completed _ depth items = refl

-- The completion of an alternative, followed by others, is its tokens followed by the completion of the others.
items_completed : (others : List Item) (depth : ℕ) (items : List Wanted)
    → finish (place depth others ++ items) ≡ items_tokens short others ++ finish items
items_completed [] depth items = refl
items_completed (item ∷ others) depth items =
    item_completed item depth (place depth others ++ items)
    ∙ (ap (λ (l : List Mark). item_tokens short item ++ l) (items_completed others depth items)
    ∙ sym (append_assoc (item_tokens short item) (items_tokens short others) (finish items)))

-- A nonterminal is read to the end if its simplest alternative is.
symbol_finishes : (nonterminal : Nonterminal) (depth : ℕ) (items : List Wanted)
    → Finishes (place (inner_depth nonterminal depth) (simplest nonterminal) ++ items)
    → Finishes (Subgoal (One nonterminal) depth ∷ items)
symbol_finishes nonterminal depth items inside =
    let same : finish (place (inner_depth nonterminal depth) (simplest nonterminal) ++ items) ≡ short nonterminal
    ++ finish items =
    items_completed (simplest nonterminal) (inner_depth nonterminal depth) items
    ∙ ap (λ (l : List Mark). l ++ finish items) (tokens_shortly nonterminal) in
    record {
      depths = inside.depths;
      whole = part_closed
          (ap (λ (o : Option (List Item)). option_map (place (inner_depth nonterminal depth)) o)
          (chosen_shortly nonterminal (finish items)))
          (subst (λ (ts : List Mark). WholeReading
          (place (inner_depth nonterminal depth) (simplest nonterminal) ++ items) ts inside.depths) same inside.whole);
    }

-- Each nonterminal for which this many rounds are enough is read to the end.
completes : (rounds : ℕ) (nonterminal : Nonterminal) → enough rounds nonterminal ≡ true → Completes nonterminal
unfolding enough
completes zero nonterminal e depth items fine rest = absurd cc
completes (suc rounds) nonterminal e depth items fine rest =
    let inside : Fine (place (inner_depth nonterminal depth) (simplest nonterminal) ++ items) =
    items_fine (continues nonterminal) (simplest nonterminal) (inner_depth nonterminal depth) items
    (chosen_is_fine nonterminal (next (short nonterminal ++ [])) (simplest nonterminal) (chosen_shortly nonterminal []))
    fine.0 fine.1 in
    symbol_finishes nonterminal depth items
    (items_finish (enough rounds) (λ inner e. completes rounds inner e) (simplest nonterminal) e
    (inner_depth nonterminal depth) items inside rest)

-- Fine items are read from their completion, to its end.
pub finishes : (items : List Wanted) → Fine items → Finishes items
finishes [] fine = record { depths = []; whole = record { forest = Empty; reads = Nothing; are = refl } }
finishes (Terminal kind depth ∷ items) fine = token_finishes kind depth items fine (finishes items fine.1)
finishes (Subgoal (One nonterminal) depth ∷ items) fine =
    completes 12 nonterminal (twelve_are_enough nonterminal) depth items fine (finishes items fine.1)
finishes (Subgoal (Optional nonterminal) depth ∷ items) fine =
    optional_finishes nonterminal depth items fine (finishes items fine.1)
finishes (Subgoal (Repeated nonterminal) depth ∷ items) fine =
    repeated_finishes nonterminal depth items fine (finishes items fine.1)
