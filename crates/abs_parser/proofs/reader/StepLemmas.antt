-- The steps of a parsing function through the items of a part, generic in the productions. `HasRead` says what was read
-- of the part so far. Whatever is read as the items that are left completes the part, and whatever refuses them refuses
-- the part. Reading begins where the part is opened. It continues with a token, a name, or a part that was found. In
-- the end the part is found, or refused by what refuses the next item.
use Rattle.std.proofs.Common.{◌≡◌, ◌≤◌, ◌<◌, ℕ, Bool, true, false, List, [], ◌∷◌, ◌++◌, ◌+◌, length, Some, None, refl, sym, ap, subst, ◌∙◌, fold, map, arith, append_assoc}
use Rattle.std.proofs.lemmas.Option.{same_Some}
use Rattle.abs_tree.specs.Names.{with_name}
use Rattle.abs_tree.specs.Refusals.{refusal_of}
use Rattle.abs_tree.specs.declared.refusal.Code.{Code}
use Rattle.abs_tree.specs.declared.refusal.Code.TheVariants.{S2}
use Rattle.abs_tree.specs.declared.place.Place.{Place}
use Rattle.abs_lexer.specs.declared.lexeme.Lexeme.{Lexeme}
use Rattle.abs_lexer.specs.Tokens.{Lexed}
use Rattle.abs_parser.specs.Answers.{GoesOn}
use Rattle.abs_parser.specs.TokenKinds.{Mark, Token, TextEnd, TokenKind, place_of_mark, token_kind, fits, next}
use Rattle.abs_parser.specs.Readings.{Goal, Wanted, Terminal, Subgoal, opened, Forest, Empty, Leaf, Node, Reads, Nothing, Taken, Opened, depths}
use Rattle.abs_parser.specs.Refusing.{Refuses, Other, Below, Past, Shut, Open, Cut, AllWithin}
use Rattle.abs_parser.specs.Stops.{limit, wrong_code}
use Rattle.abs_parser.specs.Tokens.{Spot, place_of, TakesToken}
use Rattle.abs_parser.specs.ReaderAnswers.{left_at, name_first, names_before, asked, fixed_kind, refusal_at, wrong_at, TakesKind, TakesFixed, FoundAs, RefusedAt, IsRefused, AreRefused, is_asked}
use Rattle.abs_parser.specs.declared.cursor.FixedName.{FixedName}
use Rattle.abs_parser.specs.declared.cursor.FixedName.TheVariants as fixed
use Rattle.abs_tree.specs.declared.source_error.SourceError.{SourceError}
use Rattle.abs_tree.specs.declared.source_error.SourceError.TheVariants.{Refused, Memory}
use Rattle.abs_parser.proofs.grammar.NameLemmas.{goes_on_itself, goes_on_further, goes_on_all, few_more}
use Rattle.abs_parser.proofs.stop.MoveLemmas.{refuses_after, within_first}
use Rattle.abs_parser.proofs.reader.FoundLemmas.{asked_fits, found_few, found_goes_on, found_shorter, is_name, left_of, named_first, table_of_both, token_shorter, unnamed_first, within_both}

-- A part was read from `from` up to `here`, and the items `left` are still to be read. `make` puts what is read as them
-- into the forest of the part. `now` is the table of names so far, and no more names were added to it than tokens were
-- taken.
pub record HasRead (goal : Goal) (depth : ℕ) (old now : List (List ℕ)) (from : Spot) (make : Forest → Forest)
    (left : List Wanted) (here : Spot) : Type 0 where
  pub inner : List Wanted
  pub rule_is : opened goal (next (left_at from)) depth ≡ Some inner
  pub reads : (rest : Forest) (to : List Mark) → Reads left (left_at here) rest to
      → Reads inner (left_at from) (make rest) to
  pub within : (rest : Forest) → AllWithin (depths rest) → AllWithin (depths (make rest))
  pub refuses : (items : List Wanted) (to : List Mark) (code : Code) → Refuses (left ++ items) (left_at here) to code
      → Refuses (Subgoal goal depth ∷ items) (left_at from) to code
  pub table : (rest : Forest) → fold with_name old (names_before (make rest) [])
      ≡ fold with_name now (names_before rest [])
  pub goes_on : GoesOn old now
  pub few : length now + length here.rest ≤ length old + length from.rest
  pub shorter : length here.rest ≤ length from.rest

-- nothing of a part that the next token opens was read so far
pub opens : (goal : Goal) (depth : ℕ) (table : List (List ℕ)) (from : Spot) (inner : List Wanted)
    → opened goal (next (left_at from)) depth ≡ Some inner
    → HasRead goal depth table table from (λ rest. rest) inner from
opens goal depth table from inner is = record {
  inner = inner;
  rule_is = is;
  reads = λ rest to reads. reads;
  within = λ rest within. within;
  refuses = λ items to code refused. Open is refused;
  table = λ rest. refl;
  goes_on = goes_on_itself table;
  few = omega arith;
  shorter = omega arith;
}

-- the inside of a part that is alone in a forest
abbrev pub inside_alone : Forest → Forest
inside_alone (Node part inside Empty) = inside
inside_alone forest = forest

-- the inside of a part that is read alone is read as what the part opens to
alone_reads : {goal : Goal} {depth : ℕ} {inner : List Wanted} {ts to : List Mark} {rest : Forest}
    → opened goal (next ts) depth ≡ Some inner
    → Reads (Subgoal goal depth ∷ []) ts rest to → Reads inner ts (inside_alone rest) to
alone_reads is (Opened e first Nothing) = rw (same_Some _ _ (sym is ∙ e)) first

-- no token inside it is too deeply nested if none in the forest is
alone_within : (rest : Forest) → AllWithin (depths rest) → AllWithin (depths (inside_alone rest))
alone_within (Node part inside Empty) within = within_first (depths inside) [] within
alone_within Empty within = within
alone_within (Leaf mark depth others) within = within
alone_within (Node part inside (Leaf mark depth others)) within = within
alone_within (Node part inside (Node goal first others)) within = within

-- the inside has the same names as the forest
alone_names : (rest : Forest) → names_before (inside_alone rest) [] ≡ names_before rest []
alone_names Empty = refl
alone_names (Leaf mark depth others) = refl
alone_names (Node part inside Empty) = refl
alone_names (Node part inside (Leaf mark depth others)) = refl
alone_names (Node part inside (Node goal first others)) = refl

-- a part that the next token opens is left as a whole where nothing of it was read
pub left_whole : (goal : Goal) (depth : ℕ) (table : List (List ℕ)) (from : Spot) (inner : List Wanted)
    → opened goal (next (left_at from)) depth ≡ Some inner
    → HasRead goal depth table table from inside_alone (Subgoal goal depth ∷ []) from
left_whole goal depth table from inner is = record {
  inner = inner;
  rule_is = is;
  reads = λ rest to reads. alone_reads is reads;
  within = λ rest within. alone_within rest within;
  refuses = λ items to code refused. refused;
  table = λ rest. ap (fold with_name table) (alone_names rest);
  goes_on = goes_on_itself table;
  few = omega arith;
  shorter = omega arith;
}

-- a token fits where its lexeme is asked for
kind_fits : {kind : Lexeme} {token : Lexed} {from to : Spot} → is_asked kind ≡ true → TakesKind kind token from to
    → fits (asked kind) (token_kind (Token token)) ≡ true
kind_fits {kind} {token} wanted takes = rw takes.kind_is (asked_fits kind token.bytes wanted)

-- the next token kind is that of the next token
pub next_is : {token : Lexed} {from to : Spot} → TakesToken token from to
    → next (left_at from) ≡ token_kind (Token token)
next_is takes = ap next (left_of takes)

-- the next token fits where its lexeme is asked for
pub fits_next : {kind : Lexeme} {token : Lexed} {from to : Spot} → is_asked kind ≡ true → TakesKind kind token from to
    → fits (asked kind) (next (left_at from)) ≡ true
fits_next {kind} wanted takes = ap (fits (asked kind)) (next_is takes.takes) ∙ kind_fits wanted takes

-- a name with a spelling of its own fits where it is asked for
fits_itself : (name : FixedName) → fits (fixed_kind name) (fixed_kind name) ≡ true
fits_itself fixed.Local = refl
fits_itself fixed.Abs = refl
fits_itself fixed.StdLib = refl

-- so does a token that is this name
fixed_fits : {name : FixedName} {token : Lexed} {from to : Spot} → TakesFixed name token from to
    → fits (fixed_kind name) (token_kind (Token token)) ≡ true
fixed_fits {name} takes = ap (fits (fixed_kind name)) takes.kind_is ∙ fits_itself name

-- the next token kind is that of such a name
pub next_fixed : {name : FixedName} {token : Lexed} {from to : Spot} → TakesFixed name token from to
    → next (left_at from) ≡ fixed_kind name
next_fixed takes = next_is takes.takes ∙ takes.kind_is

-- a token that is no name leaves the others as they are
token_unnamed : {kind : Lexeme} {token : Lexed} {from to : Spot} → TakesKind kind token from to → is_name kind ≡ false
    → (others : List (List ℕ))
    → name_first (token_kind (Token token)) token.bytes others ≡ others
token_unnamed {kind} {token} takes is others = rw takes.kind_is (unnamed_first kind token.bytes others is)

-- a token that is a name is put before others
token_named : {kind : Lexeme} {token : Lexed} {from to : Spot} → TakesKind kind token from to → is_name kind ≡ true
    → (others : List (List ℕ))
    → name_first (token_kind (Token token)) token.bytes others ≡ token.bytes ∷ others
token_named {kind} {token} takes is others = rw takes.kind_is (named_first kind token.bytes others is)

-- a name with a spelling of its own is put before others
fixed_first : (name : FixedName) (bytes : List ℕ) (others : List (List ℕ))
    → name_first (fixed_kind name) bytes others ≡ bytes ∷ others
fixed_first fixed.Local bytes others = refl
fixed_first fixed.Abs bytes others = refl
fixed_first fixed.StdLib bytes others = refl

-- so is a token that is this name
fixed_named : {name : FixedName} {token : Lexed} {from to : Spot} → TakesFixed name token from to
    → (others : List (List ℕ))
    → name_first (token_kind (Token token)) token.bytes others ≡ token.bytes ∷ others
fixed_named {name} {token} takes others =
    ap (λ (kind : TokenKind). name_first kind token.bytes others) takes.kind_is ∙ fixed_first name token.bytes others

-- a token that fits was read, with what it adds to the table
over_fitting : {goal : Goal} {depth at : ℕ} {old now table : List (List ℕ)} {from here after : Spot}
    {make : Forest → Forest} {left : List Wanted} {kind : TokenKind} {token : Lexed}
    → HasRead goal depth old now from make (Terminal kind at ∷ left) here → TakesToken token here after
    → fits kind (token_kind (Token token)) ≡ true → at ≤ limit
    → ((others : List (List ℕ)) → fold with_name now (name_first (token_kind (Token token)) token.bytes others)
    ≡ fold with_name table others)
    → GoesOn now table → length table ≤ length now + 1
    → HasRead goal depth old table from (λ rest. make (Leaf (Token token) at rest)) left after
over_fitting {at = at} {token = token} so takes fit within is goes_on few = record {
  inner = so.inner;
  rule_is = so.rule_is;
  reads = λ rest to reads. so.reads (Leaf (Token token) at rest) to (rw (left_of takes) (Taken fit reads));
  within = λ rest others. so.within (Leaf (Token token) at rest) (within, others);
  refuses = λ items to code refused. so.refuses items to code (rw (left_of takes) (Past fit within refused));
  table = λ rest. so.table (Leaf (Token token) at rest) ∙ is (names_before rest []);
  goes_on = goes_on_further so.goes_on goes_on;
  few = omega (arith, so.few, token_shorter takes, few);
  shorter = omega (arith, so.shorter, token_shorter takes);
}

-- a token that is no name was read
pub over_token : {goal : Goal} {depth at : ℕ} {old now : List (List ℕ)} {from here after : Spot}
    {make : Forest → Forest} {left : List Wanted} {kind : Lexeme} {token : Lexed}
    → HasRead goal depth old now from make (Terminal (asked kind) at ∷ left) here → TakesKind kind token here after
    → is_asked kind ≡ true → is_name kind ≡ false → at ≤ limit
    → HasRead goal depth old now from (λ rest. make (Leaf (Token token) at rest)) left after
over_token {now = now} so takes wanted no_name within =
    over_fitting so takes.takes (kind_fits wanted takes) within
    (λ others. ap (fold with_name now) (token_unnamed takes no_name others)) (goes_on_itself now) (omega arith)

-- a token that fits and is a name was read and added to the table
over_named : {goal : Goal} {depth at : ℕ} {old now table : List (List ℕ)} {from here after : Spot}
    {make : Forest → Forest} {left : List Wanted} {kind : TokenKind} {token : Lexed}
    → HasRead goal depth old now from make (Terminal kind at ∷ left) here → TakesToken token here after
    → fits kind (token_kind (Token token)) ≡ true
    → ((others : List (List ℕ)) → name_first (token_kind (Token token)) token.bytes others ≡ token.bytes ∷ others)
    → at ≤ limit → table ≡ with_name now token.bytes
    → HasRead goal depth old table from (λ rest. make (Leaf (Token token) at rest)) left after
over_named {now = now} {token = token} so takes fit named within is =
    over_fitting so takes fit within
    (λ others. ap (fold with_name now) (named others)
    ∙ ap (λ (names : List (List ℕ)). fold with_name names others) (sym is))
    (rw is (goes_on_all now (token.bytes ∷ []))) (omega (arith, ap length is, few_more now (token.bytes ∷ [])))

-- a name was read and added to the table
pub over_name : {goal : Goal} {depth at : ℕ} {old now table : List (List ℕ)} {from here after : Spot}
    {make : Forest → Forest} {left : List Wanted} {kind : Lexeme} {token : Lexed}
    → HasRead goal depth old now from make (Terminal (asked kind) at ∷ left) here → TakesKind kind token here after
    → is_asked kind ≡ true → is_name kind ≡ true → at ≤ limit
    → table ≡ with_name now token.bytes
    → HasRead goal depth old table from (λ rest. make (Leaf (Token token) at rest)) left after
over_name so takes wanted named within is =
    over_named so takes.takes (kind_fits wanted takes) (token_named takes named) within is

-- a name with a spelling of its own was read and added to the table
pub over_fixed : {goal : Goal} {depth at : ℕ} {old now table : List (List ℕ)} {from here after : Spot}
    {make : Forest → Forest} {left : List Wanted} {name : FixedName} {token : Lexed}
    → HasRead goal depth old now from make (Terminal (fixed_kind name) at ∷ left) here
    → TakesFixed name token here after → at ≤ limit → table ≡ with_name now token.bytes
    → HasRead goal depth old table from (λ rest. make (Leaf (Token token) at rest)) left after
over_fixed so takes within is = over_named so takes.takes (fixed_fits takes) (fixed_named takes) within is

-- a part that was found was read
pub over_part : {goal part : Goal} {depth at : ℕ} {old now new : List (List ℕ)} {from here after : Spot}
    {make : Forest → Forest} {left : List Wanted} {is_read : List (List ℕ) → Forest → Type 0}
    → HasRead goal depth old now from make (Subgoal part at ∷ left) here
    → (found : FoundAs part at now new here after is_read)
    → HasRead goal depth old new from (λ rest. make (Node part found.inside rest)) left after
over_part {part = part} {now = now} {left = left} so found = record {
  inner = so.inner;
  rule_is = so.rule_is;
  reads = λ rest to reads. so.reads (Node part found.inside rest) to (Opened found.rule_is found.reads reads);
  within = λ rest others. so.within (Node part found.inside rest)
      (within_both (depths found.inside) (depths rest) found.within others);
  refuses = λ items to code refused.
      so.refuses items to code (Open found.rule_is (refuses_after found.reads found.within refused));
  table = λ rest. so.table (Node part found.inside rest)
      ∙ (table_of_both now found.inside (names_before rest [])
      ∙ ap (λ (names : List (List ℕ)). fold with_name names (names_before rest [])) (sym found.table));
  goes_on = goes_on_further so.goes_on (found_goes_on found);
  few = omega (arith, so.few, found_few found);
  shorter = omega (arith, so.shorter, found_shorter found);
}

-- what was read of the last part was read of the whole, with the same items left
pub into_last : {goal last : Goal} {depth at : ℕ} {old now new : List (List ℕ)} {from here after : Spot}
    {make make_last : Forest → Forest} {left : List Wanted}
    → HasRead goal depth old now from make (Subgoal last at ∷ []) here
    → HasRead last at now new here make_last left after
    → HasRead goal depth old new from (λ rest. make (Node last (make_last rest) Empty)) left after
into_last {last = last} {make_last = make_last} so inside = record {
  inner = so.inner;
  rule_is = so.rule_is;
  reads = λ rest to reads. so.reads (Node last (make_last rest) Empty) to
      (Opened inside.rule_is (inside.reads rest to reads) Nothing);
  within = λ rest others. so.within (Node last (make_last rest) Empty)
      (within_both (depths (make_last rest)) [] (inside.within rest others) tt);
  refuses = λ items to code refused. so.refuses items to code (inside.refuses items to code refused);
  table = λ rest. so.table (Node last (make_last rest) Empty) ∙ inside.table rest;
  goes_on = goes_on_further so.goes_on inside.goes_on;
  few = omega (arith, so.few, inside.few);
  shorter = omega (arith, so.shorter, inside.shorter);
}

-- where nothing is left, the part is found
pub all_read : {goal : Goal} {depth : ℕ} {old now : List (List ℕ)} {from here : Spot} {make : Forest → Forest}
    {is_read : List (List ℕ) → Forest → Type 0}
    → HasRead goal depth old now from make [] here
    → ((names : List (List ℕ)) → GoesOn now names → is_read names (make Empty))
    → FoundAs goal depth old now from here is_read
all_read {here = here} {make = make} so is = record {
  inside = make Empty;
  inner = so.inner;
  rule_is = so.rule_is;
  reads = so.reads Empty (left_at here) Nothing;
  within = so.within Empty tt;
  table = sym (so.table Empty);
  is = is;
}

-- what refuses the next items together refuses the part
pub refused_row : {goal : Goal} {depth : ℕ} {old now : List (List ℕ)} {from here : Spot} {make : Forest → Forest}
    (wanted left : List Wanted)
    → HasRead goal depth old now from make (wanted ++ left) here → (error : SourceError) → AreRefused wanted here error
    → IsRefused (Subgoal goal depth) from error
refused_row wanted left so (Refused refusal) refused = λ items.
    let found = refused (left ++ items) in
    record {
      mark = found.mark;
      after = found.after;
      code = found.code;
      refuses = so.refuses items (found.mark ∷ found.after) found.code (rw append_assoc found.refuses);
      refusal_is = found.refusal_is;
    }
refused_row wanted left so Memory refused = λ items. tt

-- what refuses the next item refuses the part
pub refused_inside : {goal : Goal} {depth : ℕ} {old now : List (List ℕ)} {from here : Spot} {make : Forest → Forest}
    {item : Wanted} {left : List Wanted}
    → HasRead goal depth old now from make (item ∷ left) here → (error : SourceError) → IsRefused item here error
    → IsRefused (Subgoal goal depth) from error
refused_inside {item = item} {left} so error refused = refused_row (item ∷ []) left so error refused

-- after a token, what refuses the next items refuses them with the token before them
pub refused_past : {kind : Lexeme} {token : Lexed} {from here : Spot} {at : ℕ} (wanted : List Wanted)
    → TakesKind kind token from here → is_asked kind ≡ true → at ≤ limit → (error : SourceError)
    → AreRefused wanted here error → AreRefused (Terminal (asked kind) at ∷ wanted) from error
refused_past wanted takes asks within (Refused refusal) refused = λ items.
    let found = refused items in
    record {
      mark = found.mark;
      after = found.after;
      code = found.code;
      refuses = rw (left_of takes.takes) (Past (kind_fits asks takes) within found.refuses);
      refusal_is = found.refusal_is;
    }
refused_past wanted takes asks within Memory refused = λ items. tt

-- after a part that was found, what refuses the next items refuses them with the part before them
pub refused_past_part : {part : Goal} {at : ℕ} {old new : List (List ℕ)} {from here : Spot}
    {is_read : List (List ℕ) → Forest → Type 0} (wanted : List Wanted)
    → FoundAs part at old new from here is_read → (error : SourceError) → AreRefused wanted here error
    → AreRefused (Subgoal part at ∷ wanted) from error
refused_past_part wanted found_part (Refused refusal) refused = λ items.
    let found = refused items in
    record {
      mark = found.mark;
      after = found.after;
      code = found.code;
      refuses = Open found_part.rule_is (refuses_after found_part.reads found_part.within found.refuses);
      refusal_is = found.refusal_is;
    }
refused_past_part wanted found_part Memory refused = λ items. tt

-- where the whole part is read, what refuses the item after it refuses the part together with this item
pub refused_after : {goal part : Goal} {depth at : ℕ} {old now new : List (List ℕ)} {from here after : Spot}
    {make : Forest → Forest} {is_read : List (List ℕ) → Forest → Type 0} (second : Wanted)
    → HasRead goal depth old now from make (Subgoal part at ∷ []) here → FoundAs part at now new here after is_read
    → (error : SourceError) → IsRefused second after error
    → AreRefused (Subgoal goal depth ∷ second ∷ []) from error
refused_after second so found (Refused refusal) refused = λ items.
    let over = over_part so found in
    let at = refused items in
    record {
      mark = at.mark;
      after = at.after;
      code = at.code;
      refuses =
          over.refuses (second ∷ items) (at.mark ∷ at.after) at.code at.refuses;
      refusal_is = at.refusal_is;
    }
refused_after second so found Memory refused = λ items. tt

-- the next token at a spot, and its place; the end of the source counts as one
record NextMark (spot : Spot) : Type 0 where
  mark : Mark
  after : List Mark
  is : left_at spot ≡ mark ∷ after
  place_is : place_of_mark mark ≡ place_of spot

-- each spot has a next token, by cases of whether a token is left
next_by : (rest : List Lexed) (end : Place) → NextMark (record { rest = rest; end = end })
next_by [] end = record { mark = TextEnd end; after = []; is = refl; place_is = refl }
next_by (token ∷ others) end = record {
  mark = Token token;
  after = map Token others ++ TextEnd end ∷ [];
  is =
      refl;
  place_is = refl;
}

-- so each spot has a next token
next_mark : (spot : Spot) → NextMark spot
next_mark spot = next_by spot.rest spot.end

-- items that are refused at the next token of a spot are refused with the place of the spot
pub refused_here : {items : List Wanted} (spot : Spot) (code : Code)
    → ((mark : Mark) (after : List Mark) → left_at spot ≡ mark ∷ after → token_kind mark ≡ next (left_at spot)
    → Refuses items (mark ∷ after) (mark ∷ after) code)
    → RefusedAt items (left_at spot) (refusal_at code spot)
refused_here {items} spot code refuses =
    let here = next_mark spot in
    record {
      mark = here.mark;
      after = here.after;
      code = code;
      refuses = subst (λ (ts : List Mark). Refuses items ts (here.mark ∷ here.after) code) (sym here.is)
          (refuses here.mark here.after here.is (sym (ap next here.is)));
      refusal_is = ap (λ (place : Place). refusal_of (record { code = code; place = place })) (sym here.place_is);
    }

-- a part that the next token does not open is refused there
pub refused_shut : (goal : Goal) (depth : ℕ) (spot : Spot) → opened goal (next (left_at spot)) depth ≡ None
    → IsRefused (Subgoal goal depth) spot (Refused (wrong_at spot))
refused_shut goal depth spot shut = λ items.
    refused_here spot (wrong_code (next (left_at spot))) (λ mark after is same.
    Shut (ap (λ (kind : TokenKind). opened goal kind depth) same ∙ shut) (ap wrong_code (sym same)))

-- a token that fits and is too deeply nested is refused
pub deep_refused : (kind : TokenKind) (depth : ℕ) (spot : Spot) (error : SourceError)
    → error ≡ Refused (refusal_at S2 spot) → fits kind (next (left_at spot)) ≡ true → limit < depth
    → IsRefused (Terminal kind depth) spot error
deep_refused kind depth spot error is fit deep =
    rw is (λ items. refused_here spot S2 (λ mark after is_left same. Below (ap (fits kind) same ∙ fit) deep))

-- a refusal of a token that does not fit is also one of a part that it does not open, with other items after it
other_by : {kind : TokenKind} {at : ℕ} {items others : List Wanted} {goal : Goal} {depth : ℕ} {ts rest : List Mark}
    {code : Code} → fits kind (next ts) ≡ false
    → opened goal (next ts) depth ≡ None → Refuses (Terminal kind at ∷ items) ts rest code
    → Refuses (Subgoal goal depth ∷ others) ts rest code
other_by differs shut (Other e is) = Shut shut is
other_by differs shut (Below e deep) = absurd cc
other_by differs shut (Past e within refused) = absurd cc
other_by differs shut (Cut is) = Cut is

-- what refuses a token that does not fit refuses a part that it does not open
pub refused_other : (kind : TokenKind) (at : ℕ) (goal : Goal) (depth : ℕ) (spot : Spot) (error : SourceError)
    → fits kind (next (left_at spot)) ≡ false
    → opened goal (next (left_at spot)) depth ≡ None → IsRefused (Terminal kind at) spot error
    → IsRefused (Subgoal goal depth) spot error
refused_other kind at goal depth spot (Refused refusal) differs shut refused = λ items.
    let found = refused items in
    record {
      mark = found.mark;
      after = found.after;
      code = found.code;
      refuses =
          other_by differs shut found.refuses;
      refusal_is = found.refusal_is;
    }
refused_other kind at goal depth spot Memory differs shut refused = λ items. tt

-- the next lemma, by cases of whether the next token fits
by_fit : (fit : Bool) (kind : TokenKind) (at : ℕ) (goal : Goal) (depth : ℕ) {inner : List Wanted} (spot : Spot)
    (error : SourceError) → fits kind (next (left_at spot)) ≡ fit
    → (fits kind (next (left_at spot)) ≡ true
    → opened goal (next (left_at spot)) depth ≡ Some (Terminal kind at ∷ inner))
    → (fits kind (next (left_at spot)) ≡ false → opened goal (next (left_at spot)) depth ≡ None)
    → IsRefused (Terminal kind at) spot error → IsRefused (Subgoal goal depth) spot error
by_fit true kind at goal depth spot error e is_opened is_shut refused =
    refused_inside (opens goal depth [] spot _ (is_opened e)) error refused
by_fit false kind at goal depth spot error e is_opened is_shut refused =
    refused_other kind at goal depth spot error e (is_shut e) refused

-- if a part begins with a token of one kind and with nothing else, what refuses this token refuses the part
pub refused_first_token : (kind : TokenKind) (at : ℕ) (goal : Goal) (depth : ℕ) {inner : List Wanted} (spot : Spot)
    (error : SourceError)
    → (fits kind (next (left_at spot)) ≡ true
    → opened goal (next (left_at spot)) depth ≡ Some (Terminal kind at ∷ inner))
    → (fits kind (next (left_at spot)) ≡ false → opened goal (next (left_at spot)) depth ≡ None)
    → IsRefused (Terminal kind at) spot error → IsRefused (Subgoal goal depth) spot error
refused_first_token kind at goal depth spot error is_opened is_shut refused =
    by_fit (fits kind (next (left_at spot))) kind at goal depth spot error refl is_opened is_shut refused

-- a refusal of a part that is not opened is also one of another such part, with other items after it
shut_by : {part : Goal} {at : ℕ} {items others : List Wanted} {goal : Goal} {depth : ℕ} {ts rest : List Mark}
    {code : Code} → opened part (next ts) at ≡ None
    → opened goal (next ts) depth ≡ None → Refuses (Subgoal part at ∷ items) ts rest code
    → Refuses (Subgoal goal depth ∷ others) ts rest code
shut_by closed shut (Shut e is) = Shut shut is
shut_by closed shut (Open e refused) = absurd cc
shut_by closed shut (Cut is) = Cut is

-- what refuses a part that is not opened refuses another one that is not
pub refused_alike : (part : Goal) (at : ℕ) (goal : Goal) (depth : ℕ) (spot : Spot) (error : SourceError)
    → opened part (next (left_at spot)) at ≡ None
    → opened goal (next (left_at spot)) depth ≡ None → IsRefused (Subgoal part at) spot error
    → IsRefused (Subgoal goal depth) spot error
refused_alike part at goal depth spot (Refused refusal) closed shut refused = λ items.
    let found = refused items in
    record {
      mark = found.mark;
      after = found.after;
      code = found.code;
      refuses =
          shut_by closed shut found.refuses;
      refusal_is = found.refusal_is;
    }
refused_alike part at goal depth spot Memory closed shut refused = λ items. tt
