-- The first token of a parsed nonterminal. Its place is that of the tree and of the spot where the reader began. Its
-- depth is at least that of the nonterminal, and fewer tokens are left after it. The proof follows the wanted items up
-- to the first one that is not left out.
use Rattle.std.proofs.Common.{◌≡◌, ◌≤◌, ◌<◌, ℕ, ◌+◌, length, Bool, true, false, ◌||◌, cond, List, [], ◌∷◌, Option, Some, None, option_map, refl, ap, ◌∙◌, arith}
use mathlib.Core.Logic.{◌⊎◌, inl, inr}
use Rattle.std.specs.Prelude.{⊤}
use Rattle.std.proofs.lemmas.Bool.{cases_Bool, cond-true, cond-false}
use Rattle.abs_tree.specs.Places.{start}
use Rattle.abs_tree.specs.declared.place.Place.{Place}
use Rattle.abs_lexer.specs.Tokens.{Lexed}
use Rattle.abs_parser.specs.TokenKinds.{Mark, TokenKind, place_of_mark, fits, next}
use Rattle.abs_parser.specs.Productions.{Nonterminal, Item, Of, Part, Opt, Many, Inside, rule, counts, items_begin, begins, chosen}
use Rattle.abs_parser.specs.Readings.{Goal, One, Optional, Repeated, Wanted, Terminal, Subgoal, place_item, place, inner_depth, opened, Forest, Node, Reads, Nothing, Taken, Opened, depths}
use Rattle.abs_parser.specs.ReaderAnswers.{left_at, FoundAs}
use Rattle.abs_parser.specs.Refusing.{AllWithin}
use Rattle.abs_parser.specs.Stops.{limit}
use Rattle.abs_parser.specs.Tokens.{Spot, place_of}
use Rattle.abs_parser.specs.TreesOf.{first_place, place_in}
use Rattle.abs_parser.proofs.stop.MoveLemmas.{within_first}
use Rattle.abs_parser.proofs.reader.FoundLemmas.{reads_shorter, left_length}
use Rattle.list_facts.proofs.FindLemmas.{find-passes}

-- whether a wanted item may begin with a token of this kind, given whether the items after it may
abbrev pub one_may : Wanted → TokenKind → Bool → Bool
one_may (Terminal asked depth) kind after = fits asked kind
one_may (Subgoal (One nonterminal) depth) kind after = begins nonterminal kind
one_may (Subgoal (Optional nonterminal) depth) kind after = begins nonterminal kind || after
one_may (Subgoal (Repeated nonterminal) depth) kind after = begins nonterminal kind || after

-- whether a list of wanted items may begin with a token of this kind
abbrev pub may : List Wanted → TokenKind → Bool
may [] kind = false
may (item ∷ others) kind = one_may item kind (may others kind)

-- an item, followed by others, may begin with the tokens that its wanted item may begin with
item_may : (item : Item) (others : List Item) (depth : ℕ) (kind : TokenKind)
    → one_may (place_item depth item) kind (items_begin begins others kind) ≡ items_begin begins (item ∷ others) kind
item_may (Of asked) others depth kind = refl
item_may (Part nonterminal) others depth kind = refl
item_may (Opt nonterminal) others depth kind = refl
item_may (Many nonterminal) others depth kind = refl
item_may (Inside more item) others depth kind = item_may item others (depth + more) kind

-- the items of an alternative may begin with the tokens that their wanted items may begin with
items_may : (items : List Item) (depth : ℕ) (kind : TokenKind)
    → may (place depth items) kind ≡ items_begin begins items kind
items_may [] depth kind = refl
items_may (item ∷ others) depth kind =
    ap (one_may (place_item depth item) kind) (items_may others depth kind) ∙ item_may item others depth kind

-- the nesting depth of a wanted item
abbrev pub depth_of : Wanted → ℕ
depth_of (Terminal kind depth) = depth
depth_of (Subgoal goal depth) = depth

-- each wanted item has at least this nesting depth
abbrev pub AllBelow : ℕ → List Wanted → Type 0
AllBelow least [] = ⊤
AllBelow least (item ∷ others) = (least ≤ depth_of item) × AllBelow least others

-- an item is at least as deeply nested as its alternative
item_below : (item : Item) (least depth : ℕ) → least ≤ depth → least ≤ depth_of (place_item depth item)
item_below (Of asked) least depth below = below
item_below (Part nonterminal) least depth below = below
item_below (Opt nonterminal) least depth below = below
item_below (Many nonterminal) least depth below = below
item_below (Inside more item) least depth below = item_below item least (depth + more) (omega (arith, below))

-- all items of an alternative are at least as deeply nested as the alternative
items_below : (items : List Item) (least depth : ℕ) → least ≤ depth → AllBelow least (place depth items)
items_below [] least depth below = tt
items_below (item ∷ others) least depth below =
    (item_below item least depth below, items_below others least depth below)

-- the inside of a nonterminal is at least as deeply nested as the nonterminal
inner_below : (is_counted : Bool) (least depth : ℕ) → least ≤ depth → least ≤ cond is_counted (depth + 1) depth
inner_below true least depth below = omega (arith, below)
inner_below false least depth below = below

-- a nonterminal opens to items that may begin with the next token and are at least as deeply nested
pub one_opened : (nonterminal : Nonterminal) (kind : TokenKind) (least depth : ℕ) (inner : List Wanted) → least ≤ depth
    → opened (One nonterminal) kind depth ≡ Some inner
    → (may inner kind ≡ true) × AllBelow least inner
unfolding chosen
one_opened nonterminal kind least depth inner below is = at (chosen nonterminal kind) refl
  where
    at : (choice : Option (List Item)) → chosen nonterminal kind ≡ choice
        → (may inner kind ≡ true) × AllBelow least inner
    at None none = let shut = ap (option_map (place (inner_depth nonterminal depth))) none in absurd cc
    at (Some items) some =
        let deeper = inner_depth nonterminal depth in
        let opens = ap (option_map (place deeper)) some in
        let same : inner ≡ place deeper items = cc in
        rw same (
          items_may items deeper kind
              ∙ find-passes (λ (list : List Item). items_begin begins list kind) (rule nonterminal) items some,
          items_below
              items least deeper (inner_below (counts nonterminal) least depth below),
        )

-- A part opens to items that may begin with the next token, or it is left out and the items after it may.
pub data OpenedTo (least : ℕ) (kind : TokenKind) (after : Bool) (inner : List Wanted) : Type 0 where
  Standing : may inner kind ≡ true → AllBelow least inner → OpenedTo least kind after inner
  LeftOut : inner ≡ [] → after ≡ true → OpenedTo least kind after inner

-- an optional or repeated part opens to its nonterminal first, where that may begin, and is left out elsewhere
maybe_opened : {inner : List Wanted} (nonterminal : Nonterminal) (kind : TokenKind) (least depth : ℕ) (after : Bool)
    (others : List Wanted) → least ≤ depth → AllBelow least others
    → cond (begins nonterminal kind) (Some (Subgoal (One nonterminal) depth ∷ others)) (Some []) ≡ Some inner
    → (begins nonterminal kind || after) ≡ true → OpenedTo least kind after inner
maybe_opened {inner} nonterminal kind least depth after others below all is starts =
    at (cases_Bool (begins nonterminal kind))
  where
    at : (begins nonterminal kind ≡ true) ⊎ (begins nonterminal kind ≡ false) → OpenedTo least kind after inner
    at (inl stands) =
        let opens = cond-true (begins nonterminal kind) (Some (Subgoal (One nonterminal) depth ∷ others)) (Some [])
        stands in
        let same : inner ≡ Subgoal (One nonterminal) depth ∷ others = cc in
        rw same (Standing stands (below, all))
    at (inr missing) =
        let opens = cond-false (begins nonterminal kind) (Some (Subgoal (One nonterminal) depth ∷ others)) (Some [])
        missing in
        let same : inner ≡ [] = cc in
        LeftOut same (rw missing at starts)

-- each part opens to items that may begin with the next token, or is left out
pub part_opened : (goal : Goal) (kind : TokenKind) (least depth : ℕ) (after : Bool) (inner : List Wanted)
    → least ≤ depth → opened goal kind depth ≡ Some inner
    → one_may (Subgoal goal depth) kind after ≡ true → OpenedTo least kind after inner
part_opened (One nonterminal) kind least depth after inner below is starts = let inside =
    one_opened nonterminal kind least depth inner below is in Standing inside.0 inside.1
part_opened (Optional nonterminal) kind least depth after inner below is starts =
    maybe_opened nonterminal kind least depth after [] below tt is starts
part_opened (Repeated nonterminal) kind least depth after inner below is starts =
    maybe_opened nonterminal kind least depth after (Subgoal (Repeated nonterminal) depth ∷ []) below (below, tt) is
    starts

-- the place of the first token of a list
abbrev place_first : List Mark → Place
place_first [] = start
place_first (mark ∷ others) = place_of_mark mark

-- The forest begins with the first token; `least` is within the limit if all its tokens are; and fewer tokens are left.
pub record BeginsWith (least : ℕ) (ts rest : List Mark) (forest : Forest) : Type 0 where
  pub place_is : (after : Place) → first_place forest after ≡ place_first ts
  pub within : AllWithin (depths forest) → least ≤ limit
  pub fewer : length rest < length ts

-- a part that is left out before a forest does not change what the forest begins with
left_out : (items : List Wanted) {least : ℕ} {goal : Goal} {ts middle rest : List Mark} {inside forest : Forest}
    → Reads [] ts inside middle → may items (next ts) ≡ true
    → (may items (next middle) ≡ true → BeginsWith least middle rest forest)
    → BeginsWith least ts rest (Node goal inside forest)
left_out items Nothing starts after =
    record {
      place_is = λ place. (after starts).place_is place;
      within = λ all. (after starts).within all;
      fewer =
          (after starts).fewer;
    }

-- a part and what follows it begin with the first token
part_first : (items : List Wanted) {least : ℕ} {goal : Goal} {inner : List Wanted} {ts middle rest : List Mark}
    {inside forest : Forest} → OpenedTo least (next ts) (may items (next ts)) inner
    → Reads inner ts inside middle → Reads items middle forest rest
    → (may inner (next ts) ≡ true → AllBelow least inner → BeginsWith least ts middle inside)
    → (may items (next middle) ≡ true → BeginsWith least middle rest forest)
    → BeginsWith least ts rest (Node goal inside forest)
part_first items {inside = inside} {forest = forest} (Standing starts below) reads others first after = record {
  place_is = λ place. (first starts below).place_is (first_place forest place);
  within = λ all. (first starts below).within (within_first (depths inside) (depths forest) all);
  fewer = omega (arith, (first starts below).fewer, reads_shorter others);
}
part_first items (LeftOut none starts) reads others first after = left_out items (rw none at reads) starts after

-- what was read as items that may begin with the next token begins with it
pub first_read : {wanted : List Wanted} {ts rest : List Mark} {forest : Forest} (least : ℕ)
    → may wanted (next ts) ≡ true → AllBelow least wanted → Reads wanted ts forest rest
    → BeginsWith least ts rest forest
first_read least starts below Nothing = absurd cc
first_read least starts below (Taken fit reads) =
    record {
      place_is = λ place. refl;
      within = λ all. omega (arith, below.0, all.0);
      fewer =
          omega (arith, reads_shorter reads);
    }
first_read least starts below (Opened {goal = goal} {depth = depth} {inner = inner} {items = items} {ts = ts} is inside
    reads) =
    part_first items (part_opened goal (next ts) least depth _ inner below.0 is starts) inside reads
    (λ begun all. first_read least begun all inside) (λ begun. first_read least begun below.1 reads)

-- the tokens that are left at a spot begin at its place; the end of the source counts as one
left_first : (rest : List Lexed) (end : Place)
    → place_first (left_at (record { rest = rest; end = end })) ≡ place_of (record { rest = rest; end = end })
left_first [] end = refl
left_first (token ∷ others) end = refl

-- a nonterminal that was found begins with the token at which its reader began
found_first : {nonterminal : Nonterminal} {depth : ℕ} {old new : List (List ℕ)} {from to : Spot}
    {is_read : List (List ℕ) → Forest → Type 0} → (found : FoundAs (One nonterminal) depth old new from to is_read)
    → BeginsWith depth (left_at from) (left_at to) found.inside
found_first {nonterminal} {depth} {from = from} found =
    let inside = one_opened nonterminal (next (left_at from)) depth depth found.inner (omega arith) found.rule_is in
    first_read depth inside.0 inside.1 found.reads

-- a nonterminal that was found has the place at which its reader began
pub first_place_found : {nonterminal : Nonterminal} {depth : ℕ} {old new : List (List ℕ)} {from to : Spot}
    {is_read : List (List ℕ) → Forest → Type 0} → (found : FoundAs (One nonterminal) depth old new from to is_read)
    → place_in found.inside ≡ place_of from
first_place_found {from = from} found = (found_first found).place_is start ∙ left_first from.rest from.end

-- the nesting depth of a nonterminal that was found is within the limit
pub found_within : {nonterminal : Nonterminal} {depth : ℕ} {old new : List (List ℕ)} {from to : Spot}
    {is_read : List (List ℕ) → Forest → Type 0} → FoundAs (One nonterminal) depth old new from to is_read
    → depth ≤ limit
found_within found = (found_first found).within found.within

-- fewer tokens are left after a nonterminal that was found
pub found_fewer : {nonterminal : Nonterminal} {depth : ℕ} {old new : List (List ℕ)} {from to : Spot}
    {is_read : List (List ℕ) → Forest → Type 0} → FoundAs (One nonterminal) depth old new from to is_read
    → length to.rest < length from.rest
found_fewer {from = from} {to} found = omega (arith, (found_first found).fewer, left_length from, left_length to)
