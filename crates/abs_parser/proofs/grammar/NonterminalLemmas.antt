-- What the grammar says of any nonterminal, given the next token: where it begins and what it opens to. The nonterminal
-- may also be optional or repeated.
use Rattle.std.proofs.Common.{◌≡◌, ℕ, Bool, true, false, cond, List, [], ◌∷◌, ◌+◌, Some, None, refl, sym, ap, ◌∙◌}
use Rattle.std.proofs.Math.Bool.{or-false}
use Rattle.std.specs.Prelude.{option_map}
use Rattle.std.specs.List.{list_any, find}
use Rattle.abs_parser.specs.TokenKinds.{TokenKind, fits}
use Rattle.abs_parser.specs.Productions.{Nonterminal, Program, Item, Of, Part, rule, counts, items_begin, begins, begins_within, chosen}
use Rattle.abs_parser.specs.Readings.{One, Optional, Repeated, Wanted, Subgoal, place, inner_depth, opened}
use Rattle.list_facts.proofs.FindLemmas.{find-none}

-- a nonterminal begins where one of its alternatives does
pub begins_by_rule : (nonterminal : Nonterminal) (kind : TokenKind)
    → begins nonterminal kind ≡ list_any (λ (items : List Item). items_begin begins items kind) (rule nonterminal)
unfolding begins begins_within
begins_by_rule Program kind = refl
begins_by_rule _ kind = refl

-- a nonterminal with one alternative begins where that does
pub begins_by : (nonterminal : Nonterminal) {items : List Item} (kind : TokenKind) → rule nonterminal ≡ items ∷ []
    → begins nonterminal kind ≡ items_begin begins items kind
begins_by nonterminal {items} kind is =
    begins_by_rule nonterminal kind
    ∙ (ap (λ (a : List (List Item)). list_any (λ (i : List Item). items_begin begins i kind) a) is
    ∙ or-false (items_begin begins items kind))

-- a nonterminal whose only alternative begins with a token begins with that token
pub begins_with_token : (nonterminal : Nonterminal) {asked : TokenKind} {items : List Item} (kind : TokenKind)
    → rule nonterminal ≡ (Of asked ∷ items) ∷ [] → begins nonterminal kind ≡ fits asked kind
begins_with_token nonterminal kind is = begins_by nonterminal kind is

-- a nonterminal whose only alternative begins with another nonterminal begins where that does
pub begins_with_part : (nonterminal : Nonterminal) {first : Nonterminal} {items : List Item} (kind : TokenKind)
    → rule nonterminal ≡ (Part first ∷ items) ∷ [] → begins nonterminal kind ≡ begins first kind
begins_with_part nonterminal kind is = begins_by nonterminal kind is

-- a nonterminal does not open where it may not begin
pub part_shut : (nonterminal : Nonterminal) (kind : TokenKind) (depth : ℕ) → begins nonterminal kind ≡ false
    → opened (One nonterminal) kind depth ≡ None
unfolding chosen
part_shut nonterminal kind depth none =
    ap (option_map (place (inner_depth nonterminal depth)))
    (find-none (λ (items : List Item). items_begin begins items kind) (rule nonterminal)
    (sym (begins_by_rule nonterminal kind) ∙ none))

-- a nonterminal may begin where it opens, by cases of whether it may
begun_by : (may : Bool) (nonterminal : Nonterminal) (kind : TokenKind) (depth : ℕ) {inner : List Wanted}
    → begins nonterminal kind ≡ may → opened (One nonterminal) kind depth ≡ Some inner → begins nonterminal kind ≡ true
begun_by true nonterminal kind depth is some = is
begun_by false nonterminal kind depth is some = let none = part_shut nonterminal kind depth is in cc

-- a nonterminal may begin where it opens
pub part_begun : (nonterminal : Nonterminal) (kind : TokenKind) (depth : ℕ) {inner : List Wanted}
    → opened (One nonterminal) kind depth ≡ Some inner → begins nonterminal kind ≡ true
part_begun nonterminal kind depth some = begun_by (begins nonterminal kind) nonterminal kind depth refl some

-- an uncounted nonterminal opens to the first alternative that may begin with the token
by_rule : (nonterminal : Nonterminal) {alternatives : List (List Item)} (kind : TokenKind) (depth : ℕ)
    → rule nonterminal ≡ alternatives → counts nonterminal ≡ false
    → opened (One nonterminal) kind depth
    ≡ option_map (place depth) (find (λ (items : List Item). items_begin begins items kind) alternatives)
unfolding chosen
by_rule nonterminal kind depth is free =
    ap (λ (b : Bool). option_map (place (cond b (depth + 1) depth))
    (find (λ (items : List Item). items_begin begins items kind) (rule nonterminal))) free
    ∙ ap (λ (a : List (List Item)).
    option_map (place depth) (find (λ (items : List Item). items_begin begins items kind) a)) is

-- an uncounted nonterminal with one alternative opens to that where it may begin
pub part_opened : (nonterminal : Nonterminal) {items : List Item} (kind : TokenKind) (depth : ℕ)
    → rule nonterminal ≡ items ∷ [] → counts nonterminal ≡ false → begins nonterminal kind ≡ true
    → opened (One nonterminal) kind depth ≡ Some (place depth items)
part_opened nonterminal kind depth is free may =
    by_rule nonterminal kind depth is free ∙ rw (sym (begins_by nonterminal kind is) ∙ may) refl

-- an optional nonterminal is not left out where it may begin
pub optional_opened : (nonterminal : Nonterminal) (kind : TokenKind) (depth : ℕ) → begins nonterminal kind ≡ true
    → opened (Optional nonterminal) kind depth ≡ Some (Subgoal (One nonterminal) depth ∷ [])
optional_opened nonterminal kind depth may = rw may refl

-- an optional nonterminal is left out where it may not begin
pub optional_left_out : (nonterminal : Nonterminal) (kind : TokenKind) (depth : ℕ) → begins nonterminal kind ≡ false
    → opened (Optional nonterminal) kind depth ≡ Some []
optional_left_out nonterminal kind depth none = rw none refl

-- a repeated nonterminal is read once more where it may begin
pub repeated_opened : (nonterminal : Nonterminal) (kind : TokenKind) (depth : ℕ) → begins nonterminal kind ≡ true
    → opened (Repeated nonterminal) kind depth
    ≡ Some (Subgoal (One nonterminal) depth ∷ Subgoal (Repeated nonterminal) depth ∷ [])
repeated_opened nonterminal kind depth may = rw may refl

-- a repeated nonterminal ends where it may not begin
pub repeated_ends : (nonterminal : Nonterminal) (kind : TokenKind) (depth : ℕ) → begins nonterminal kind ≡ false
    → opened (Repeated nonterminal) kind depth ≡ Some []
repeated_ends nonterminal kind depth none = rw none refl
