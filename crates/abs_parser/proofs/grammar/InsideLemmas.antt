-- What is inside a part, from how it was read. A forest that was read as some items begins with what was read as the
-- first of them. What is inside a nonterminal with one alternative was read as its items. What is inside a repeated
-- nonterminal is empty, or was read as one more and a repetition.
use Rattle.std.proofs.Common.{◌≡◌, ℕ, Bool, true, false, cond, List, [], ◌∷◌, Some, refl}
use Rattle.abs_parser.specs.TokenKinds.{Mark, TokenKind, token_kind, fits, next}
use Rattle.abs_parser.specs.Productions.{Nonterminal, Item, rule, counts, begins}
use Rattle.abs_parser.specs.Readings.{Goal, One, Repeated, Wanted, Terminal, Subgoal, place, opened, Forest, Empty, Leaf, Node, Reads, Nothing, Taken, Opened}
use Rattle.abs_parser.proofs.grammar.NonterminalLemmas.{part_begun, part_opened}

-- this forest was read as these items
pub record IsReadAs (items : List Wanted) (forest : Forest) : Type 0 where
  pub ts : List Mark
  pub rest : List Mark
  pub reads : Reads items ts forest rest

-- this forest was read inside a part with this nesting depth
pub record IsInside (goal : Goal) (depth : ℕ) (forest : Forest) : Type 0 where
  pub inner : List Wanted
  pub ts : List Mark
  pub rest : List Mark
  pub is : opened goal (next ts) depth ≡ Some inner
  pub reads : Reads inner ts forest rest

-- this forest was read inside a nonterminal with this nesting depth, after a first token of this kind
pub record IsAfterFirst (nonterminal : Nonterminal) (kind : TokenKind) (depth : ℕ) (forest : Forest) : Type 0 where
  pub first : Wanted
  pub items : List Wanted
  pub is : opened (One nonterminal) kind depth ≡ Some (first ∷ items)
  pub others : IsReadAs items forest

-- The first item

-- a token that was read fits
fits_taken : {kind : TokenKind} {at depth : ℕ} {items : List Wanted} {mark : Mark} {others : Forest}
    {ts rest : List Mark} → Reads (Terminal kind at ∷ items) ts (Leaf mark depth others) rest
    → fits kind (token_kind mark) ≡ true
fits_taken (Taken fit reads) = fit

-- the first token of what was read fits
pub token_fits : {kind : TokenKind} {at depth : ℕ} {items : List Wanted} {mark : Mark} {others : Forest}
    → IsReadAs (Terminal kind at ∷ items) (Leaf mark depth others) → fits kind (token_kind mark) ≡ true
token_fits read = fits_taken read.reads

-- what follows a token was read as the other items
others_taken : {kind : TokenKind} {at depth : ℕ} {items : List Wanted} {mark : Mark} {others : Forest}
    {ts rest : List Mark} → Reads (Terminal kind at ∷ items) ts (Leaf mark depth others) rest → IsReadAs items others
others_taken (Taken fit reads) = record { ts = _; rest = _; reads = reads }

-- what follows the first token was read as the other items
pub after_token : {kind : TokenKind} {at depth : ℕ} {items : List Wanted} {mark : Mark} {others : Forest}
    → IsReadAs (Terminal kind at ∷ items) (Leaf mark depth others) → IsReadAs items others
after_token read = others_taken read.reads

-- what is inside a part was read inside it
inside_opened : {goal other : Goal} {depth : ℕ} {items : List Wanted} {inside others : Forest} {ts rest : List Mark}
    → Reads (Subgoal goal depth ∷ items) ts (Node other inside others) rest → IsInside goal depth inside
inside_opened (Opened is within reads) = record { inner = _; ts = _; rest = _; is = is; reads = within }

-- what is inside the first part was read inside it
pub in_part : {goal other : Goal} {depth : ℕ} {items : List Wanted} {inside others : Forest}
    → IsReadAs (Subgoal goal depth ∷ items) (Node other inside others) → IsInside goal depth inside
in_part read = inside_opened read.reads

-- what follows a part was read as the other items
others_opened : {goal other : Goal} {depth : ℕ} {items : List Wanted} {inside others : Forest} {ts rest : List Mark}
    → Reads (Subgoal goal depth ∷ items) ts (Node other inside others) rest → IsReadAs items others
others_opened (Opened is within reads) = record { ts = _; rest = _; reads = reads }

-- what follows the first part was read as the other items
pub after_part : {goal other : Goal} {depth : ℕ} {items : List Wanted} {inside others : Forest}
    → IsReadAs (Subgoal goal depth ∷ items) (Node other inside others) → IsReadAs items others
after_part read = others_opened read.reads

-- nothing was read as no items
none_read : {ts rest : List Mark} {forest : Forest} → Reads [] ts forest rest → forest ≡ Empty
none_read Nothing = refl

-- Inside a nonterminal

-- what is inside an uncounted nonterminal with one alternative was read as its items
pub in_one : (nonterminal : Nonterminal) {items : List Item} {depth : ℕ} {forest : Forest}
    → rule nonterminal ≡ items ∷ [] → counts nonterminal ≡ false → IsInside (One nonterminal) depth forest
    → IsReadAs (place depth items) forest
in_one nonterminal {items} {depth} is free within =
    let opens = part_opened nonterminal (next within.ts) depth is free
    (part_begun nonterminal (next within.ts) depth within.is) in
    let alike : within.inner ≡ place depth items = cc (opens, within.is) in
    record { ts = within.ts; rest = within.rest; reads = rw alike at within.reads }

-- what follows a token that a nonterminal began with was read inside it, after that token
first_taken : {nonterminal : Nonterminal} {depth at : ℕ} {inner : List Wanted} {mark : Mark} {others : Forest}
    {ts rest : List Mark} → opened (One nonterminal) (next ts) depth ≡ Some inner
    → Reads inner ts (Leaf mark at others) rest → IsAfterFirst nonterminal (token_kind mark) depth others
first_taken is (Taken fit reads) =
    record { first = _; items = _; is = is; others = record { ts = _; rest = _; reads = reads } }

-- what follows the first token inside a nonterminal was read inside it, after that token
pub after_first : {nonterminal : Nonterminal} {depth at : ℕ} {mark : Mark} {others : Forest}
    → IsInside (One nonterminal) depth (Leaf mark at others) → IsAfterFirst nonterminal (token_kind mark) depth others
after_first within = first_taken within.is within.reads

-- what follows the first token was read as the items to which its kind opens the nonterminal
pub as_opened : {nonterminal : Nonterminal} {kind : TokenKind} {depth : ℕ} {first : Wanted} {items : List Wanted}
    {forest : Forest} → opened (One nonterminal) kind depth ≡ Some (first ∷ items)
    → IsAfterFirst nonterminal kind depth forest → IsReadAs items forest
as_opened {items = items} opens after =
    let alike : after.items ≡ items = cc (opens, after.is) in
    let others = after.others in
    record { ts = others.ts; rest = others.rest; reads = rw alike at others.reads }

-- what a repeated nonterminal opens to, by cases of whether it may begin
repeats_by : (may : Bool) (nonterminal : Nonterminal) (kind : TokenKind) (depth : ℕ) {inner : List Wanted}
    → begins nonterminal kind ≡ may → opened (Repeated nonterminal) kind depth ≡ Some inner
    → inner ≡ cond may (Subgoal (One nonterminal) depth ∷ Subgoal (Repeated nonterminal) depth ∷ []) []
repeats_by true nonterminal kind depth is opens = let same = rw is at opens in cc same
repeats_by false nonterminal kind depth is opens = let same = rw is at opens in cc same

-- the next lemma, by cases of whether the nonterminal may begin
one_by : (may : Bool) (nonterminal : Nonterminal) {depth : ℕ} {goal : Goal} {inside others : Forest}
    {ts rest : List Mark}
    → Reads (cond may (Subgoal (One nonterminal) depth ∷ Subgoal (Repeated nonterminal) depth ∷ []) []) ts
    (Node goal inside others) rest
    → IsReadAs (Subgoal (One nonterminal) depth ∷ Subgoal (Repeated nonterminal) depth ∷ []) (Node goal inside others)
one_by true nonterminal reads = record { ts = _; rest = _; reads = reads }
one_by false nonterminal reads = let none = none_read reads in cc none

-- where something was read inside a repeated nonterminal, it was read as one more and a repetition
pub in_repeated : (nonterminal : Nonterminal) {depth : ℕ} {goal : Goal} {inside others : Forest}
    → IsInside (Repeated nonterminal) depth (Node goal inside others)
    → IsReadAs (Subgoal (One nonterminal) depth ∷ Subgoal (Repeated nonterminal) depth ∷ []) (Node goal inside others)
in_repeated nonterminal {depth} within =
    let kind = next within.ts in
    let is = repeats_by (begins nonterminal kind) nonterminal kind depth refl within.is in
    one_by (begins nonterminal kind) nonterminal (rw is at within.reads)
