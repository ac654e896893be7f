-- Each token list is read as the wanted items, within the limit, or refused somewhere. The proof is by recursion on the
-- list and, at its first token, by opening parts until a token is wanted. That ends, since no nonterminal begins with
-- itself. Each alternative reaches a token within a few rounds, and what follows that token is decided for the shorter
-- list.
use Rattle.std.proofs.Common.{◌≡◌, ◌≤◌, ◌<◌, ℕ, zero, suc, Bool, true, false, ◌&&◌, List, [], ◌∷◌, ◌++◌, ◌+◌, Option, Some, None, option_map, refl, ap}
use mathlib.Core.Logic.{◌⊎◌, inl, inr}
use Rattle.std.specs.List.{list_all}
use Rattle.std.proofs.lemmas.Bool.{cases_Bool, cases_lt, and_parts, cond-true, cond-false}
use Rattle.abs_tree.specs.declared.refusal.Code.{Code}
use Rattle.abs_tree.specs.declared.refusal.Code.TheVariants.{S1}
use Rattle.abs_parser.specs.TokenKinds.{Mark, TokenKind, token_kind, fits}
use Rattle.abs_parser.specs.Productions.{Nonterminal, Program, Item, Of, Part, Opt, Many, Inside, rule, begins, chosen}
use Rattle.abs_parser.specs.Readings.{Goal, One, Optional, Repeated, Wanted, Terminal, Subgoal, place_item, place, inner_depth, opened, Empty, Nothing}
use Rattle.abs_parser.specs.Stops.{limit}
use Rattle.abs_parser.specs.Refusing.{Refuses, Beyond, Other, Below, Past, Shut, Open, Cut, AllWithin}
use Rattle.abs_parser.proofs.grammar.ReadingLemmas.{WholeReading, part_closed, token_put}
use Rattle.list_facts.proofs.FindLemmas.{find-list_all}

-- whether an item reaches a token, given which nonterminals do, and whether the items after it do
abbrev item_leads : (Nonterminal → Bool) → Item → Bool → Bool
item_leads leads (Of kind) after = true
item_leads leads (Part nonterminal) after = leads nonterminal
item_leads leads (Opt nonterminal) after = leads nonterminal && after
item_leads leads (Many nonterminal) after = leads nonterminal && after
item_leads leads (Inside more item) after = item_leads leads item after

-- whether the items of an alternative reach a token
abbrev items_lead : (Nonterminal → Bool) → List Item → Bool
items_lead leads [] = false
items_lead leads (item ∷ others) = item_leads leads item (items_lead leads others)

-- whether each alternative of a nonterminal reaches a token within this many rounds of opening the first part
leads_within : ℕ → Nonterminal → Bool
leads_within zero nonterminal = false
leads_within (suc rounds) nonterminal = list_all (items_lead (leads_within rounds)) (rule nonterminal)

-- Each nonterminal reaches a token within 12 rounds.
all_lead : (nonterminal : Nonterminal) → leads_within 12 nonterminal ≡ true
unfolding leads_within
all_lead Program = refl
all_lead _ = refl

-- A token list is read as the wanted items, within the limit, or refused somewhere.
pub data Decided (items : List Wanted) (ts : List Mark) : Type 0 where
  read : (depths : List ℕ) → WholeReading items ts depths → AllWithin depths → Decided items ts
  refused : (rest : List Mark) (code : Code) → Refuses items ts rest code → Decided items ts

module _ (mark : Mark) (ts : List Mark) (after : (items : List Wanted) → Decided items ts) where
  -- A wanted token is decided, since any items are decided after it.
  at_token : (kind : TokenKind) (depth : ℕ) (items : List Wanted) → Decided (Terminal kind depth ∷ items) (mark ∷ ts)
  at_token kind depth items = go (cases_Bool (fits kind (token_kind mark))) (cases_lt limit depth) (after items)
    where
      go : (fits kind (token_kind mark) ≡ true) ⊎ (fits kind (token_kind mark) ≡ false)
          → (limit < depth) ⊎ (depth ≤ limit) → Decided items ts
          → Decided (Terminal kind depth ∷ items) (mark ∷ ts)
      go (inr other) room x = refused _ _ (Other other refl)
      go (inl fit) (inl deep) x = refused _ _ (Below fit deep)
      go (inl fit) (inr within) (read depths whole all) = read (depth ∷ depths) (token_put fit whole) (within, all)
      go (inl fit) (inr within) (refused rest code no_reading) = refused rest code (Past fit within no_reading)

  -- A part is decided if what it opens to is.
  at_opened : (goal : Goal) (depth : ℕ) (inner items : List Wanted) → opened goal (token_kind mark) depth ≡ Some inner
      → Decided (inner ++ items) (mark ∷ ts)
      → Decided (Subgoal goal depth ∷ items) (mark ∷ ts)
  at_opened goal depth inner items e (read depths whole all) = read depths (part_closed e whole) all
  at_opened goal depth inner items e (refused rest code no_reading) = refused rest code (Open e no_reading)

  -- An optional part is decided if the items with it and the items without it are.
  at_optional : (nonterminal : Nonterminal) (depth : ℕ) (items : List Wanted)
      → Decided (Subgoal (One nonterminal) depth ∷ items) (mark ∷ ts) → Decided items (mark ∷ ts)
      → Decided (Subgoal (Optional nonterminal) depth ∷ items) (mark ∷ ts)
  at_optional nonterminal depth items with_it without = go (cases_Bool (begins nonterminal (token_kind mark)))
    where
      go : (begins nonterminal (token_kind mark) ≡ true) ⊎ (begins nonterminal (token_kind mark) ≡ false)
          → Decided (Subgoal (Optional nonterminal) depth ∷ items) (mark ∷ ts)
      go (inl stands) = at_opened (Optional nonterminal) depth (Subgoal (One nonterminal) depth ∷ []) items
          (cond-true _ _ _ stands) with_it
      go (inr missing) = at_opened (Optional nonterminal) depth [] items (cond-false _ _ _ missing) without

  -- A repeated part is decided if the items with one more of it and the items without it are.
  at_repeated : (nonterminal : Nonterminal) (depth : ℕ) (items : List Wanted)
      → Decided (Subgoal (One nonterminal) depth ∷ Subgoal (Repeated nonterminal) depth ∷ items) (mark ∷ ts)
      → Decided items (mark ∷ ts)
      → Decided (Subgoal (Repeated nonterminal) depth ∷ items) (mark ∷ ts)
  at_repeated nonterminal depth items with_one without = go (cases_Bool (begins nonterminal (token_kind mark)))
    where
      go : (begins nonterminal (token_kind mark) ≡ true) ⊎ (begins nonterminal (token_kind mark) ≡ false)
          → Decided (Subgoal (Repeated nonterminal) depth ∷ items) (mark ∷ ts)
      go (inl stands) =
          at_opened (Repeated nonterminal) depth
          (Subgoal (One nonterminal) depth ∷ Subgoal (Repeated nonterminal) depth ∷ []) items (cond-true _ _ _ stands)
          with_one
      go (inr missing) = at_opened (Repeated nonterminal) depth [] items (cond-false _ _ _ missing) without

  -- these nonterminals are decided, whatever follows them
  abbrev Decides : (Nonterminal → Bool) → Type 0
  Decides leads = (nonterminal : Nonterminal) → leads nonterminal ≡ true → (depth : ℕ) (items : List Wanted)
      → Decided (Subgoal (One nonterminal) depth ∷ items) (mark ∷ ts)

  -- An item that reaches a token is decided.
  at_item : (leads : Nonterminal → Bool) → Decides leads → (item : Item) (others_lead : Bool)
      → item_leads leads item others_lead ≡ true → (depth : ℕ) (items : List Wanted)
      → (others_lead ≡ true → Decided items (mark ∷ ts)) → Decided (place_item depth item ∷ items) (mark ∷ ts)
  at_item leads each (Of kind) others_lead e depth items others = at_token kind depth items
  at_item leads each (Part nonterminal) others_lead e depth items others = each nonterminal e depth items
  at_item leads each (Opt nonterminal) others_lead e depth items others =
      let both = and_parts (leads nonterminal) others_lead e in
      at_optional nonterminal depth items (each nonterminal both.0 depth items) (others both.1)
  at_item leads each (Many nonterminal) others_lead e depth items others =
      let both = and_parts (leads nonterminal) others_lead e in
      at_repeated nonterminal depth items (each nonterminal both.0 depth (Subgoal (Repeated nonterminal) depth ∷ items))
      (others both.1)
  at_item leads each (Inside more item) others_lead e depth items others =
      at_item leads each item others_lead e (depth + more) items others

  -- An alternative that reaches a token is decided, whatever follows it.
  at_alternative : (leads : Nonterminal → Bool) → Decides leads → (alternative : List Item)
      → items_lead leads alternative ≡ true → (depth : ℕ) (items : List Wanted)
      → Decided (place depth alternative ++ items) (mark ∷ ts)
  at_alternative leads each [] e depth items = cc
  at_alternative leads each (item ∷ alternative) e depth items =
      at_item leads each item (items_lead leads alternative) e depth (place depth alternative ++ items)
      (λ others_lead. at_alternative leads each alternative others_lead depth items)

  -- A nonterminal whose alternatives all reach a token is decided.
  at_symbol : (rounds : ℕ) → Decides (leads_within rounds)
  unfolding leads_within chosen
  at_symbol zero nonterminal e depth items = cc
  at_symbol (suc rounds) nonterminal e depth items = go (at_symbol rounds) (chosen nonterminal (token_kind mark)) refl
    where
      go : Decides (leads_within rounds) → (choice : Option (List Item)) → chosen nonterminal (token_kind mark) ≡ choice
          → Decided (Subgoal (One nonterminal) depth ∷ items) (mark ∷ ts)
      go each None shut = refused _ _ (Shut (ap (option_map (place (inner_depth nonterminal depth))) shut) refl)
      go each (Some alternative) is =
          let deeper = inner_depth nonterminal depth in
          let leads = find-list_all _ (items_lead (leads_within rounds)) (rule nonterminal) alternative e is in
          let inside = at_alternative (leads_within rounds) each alternative leads deeper items in
          at_opened (One nonterminal) depth (place deeper alternative) items (ap (option_map (place deeper)) is) inside

  -- Any wanted items are decided.
  at_stack : (items : List Wanted) → Decided items (mark ∷ ts)
  at_stack [] = refused _ _ (Beyond refl)
  at_stack (Terminal kind depth ∷ items) = at_token kind depth items
  at_stack (Subgoal (One nonterminal) depth ∷ items) = at_symbol 12 nonterminal (all_lead nonterminal) depth items
  at_stack (Subgoal (Optional nonterminal) depth ∷ items) =
      at_optional nonterminal depth items (at_symbol 12 nonterminal (all_lead nonterminal) depth items) (at_stack items)
  at_stack (Subgoal (Repeated nonterminal) depth ∷ items) =
      at_repeated nonterminal depth items
      (at_symbol 12 nonterminal (all_lead nonterminal) depth (Subgoal (Repeated nonterminal) depth ∷ items))
      (at_stack items)

-- Each token list is read as the wanted items, or refused.
pub decided : (ts : List Mark) (items : List Wanted) → Decided items ts
decided [] [] = read [] record { forest = Empty; reads = Nothing; are = refl } tt
decided [] (item ∷ items) = refused [] S1 (Cut refl)
decided (mark ∷ ts) items = at_stack mark ts (λ others. decided ts others) items
