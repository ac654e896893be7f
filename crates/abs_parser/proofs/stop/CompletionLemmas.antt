-- Any wanted items can be completed. Their completion is a short token list: the tokens of one alternative of each
-- nonterminal, without optional and repeated parts. It is read as the items if they are fine: no part may continue with
-- what completes the items after it. Items stay fine when parts open, since each alternative of the grammar passes a
-- test. In it no item may continue with what completes the next ones. An item that may be the last continues only with
-- tokens with which the nonterminal may continue.
use Rattle.std.proofs.Common.{◌≡◌, ℕ, zero, suc, ◌+◌, Bool, true, false, not, ◌&&◌, ◌||◌, List, [], ◌∷◌, ◌++◌, Option, Some, None, codes, refl, sym, ap, subst, ◌∙◌}
use Rattle.std.specs.Prelude.{option_map, if◌then◌else◌}
use Rattle.std.specs.List.{list_any, list_all}
use Rattle.std.specs.Str.{bytes_eq}
use Rattle.std.proofs.Math.Bool.{or-false}
use Rattle.std.proofs.lemmas.Bool.{and_parts, or_parts, not-true}
use Rattle.std.proofs.lemmas.List.Folds.{list_any-append}
use Rattle.std.proofs.lemmas.Slice.Eq.{bytes_eq-Decides}
use Rattle.abs_tree.specs.Places.{start}
use Rattle.abs_lexer.specs.declared.lexeme.Lexeme.{Lexeme}
use Rattle.abs_lexer.specs.declared.lexeme.Lexeme.TheVariants as lexeme
use Rattle.abs_lexer.specs.declared.lexeme.Keyword.TheVariants as keyword
use Rattle.abs_lexer.specs.declared.lexeme.Punctuator.TheVariants as punctuator
use Rattle.abs_lexer.specs.Words.{spelling, punctuator_bytes}
use Rattle.abs_parser.specs.TokenKinds.{Mark, Token, TextEnd, TokenKind, LowerName, LocalName, UpperName, AbsName, StdLibName, Number, Text, KeywordKind, Foreign, PunctuatorKind, End, token_kind, fits, next}
use Rattle.abs_parser.specs.Productions.{Nonterminal, Program, Path, Constructor, NextConstructor, Params, Extends, Implements, Type', Types, CommaType, Stmt, Else, Initial, Guard, AndTest, Test, Rhs, Args, CommaExpr, Expr, Or, OrTail, And, AndTail, Equal, EqualTail, Compare, CompareTail, Sum, SumTail, Mul, MulTail, Unary, Primary, ThisTail, Pattern, Patterns, CommaPattern, Item, Of, Part, Opt, Many, Inside, rule, items_begin, begins_within, begins, chosen}
use Rattle.abs_parser.specs.Readings.{Goal, One, Optional, Repeated, Wanted, Terminal, Subgoal, place_item, place, inner_depth, opened}
use Rattle.abs_parser.proofs.grammar.ReadingLemmas.{a_program}
use Rattle.abs_parser.proofs.stop.MoveLemmas.{Moves, Stays, Takes, Opens}
use Rattle.list_facts.proofs.FindLemmas.{find-list_all}

-- a token at the start of the source
abbrev token : Lexeme → List ℕ → Mark
token kind bytes = Token record { kind = kind; place = start; bytes = bytes }

-- a token of this token kind
abbrev sample : TokenKind → Mark
sample LowerName = token lexeme.LowerName (codes "x")
sample LocalName = token lexeme.LowerName (codes "local")
sample UpperName = token lexeme.UpperName (codes "U")
sample AbsName = token lexeme.UpperName (codes "ABS")
sample StdLibName = token lexeme.UpperName (codes "StdLib")
sample Number = token lexeme.Number (codes "1")
sample Text = token lexeme.Text (34 ∷ 34 ∷ [])
sample (KeywordKind keyword) = token (lexeme.Keyword keyword) (spelling keyword)
sample Foreign = token lexeme.Foreign (codes "try")
sample (PunctuatorKind punctuator) = token (lexeme.Punctuator punctuator) (punctuator_bytes punctuator)
sample End = TextEnd start

-- the first of these alternatives
abbrev first_alternative : List (List Item) → List Item
first_alternative [] = []
first_alternative (items ∷ others) = items

-- the simplest alternative of a nonterminal: its first one, unless that leads back to the nonterminal
abbrev pub simplest : Nonterminal → List Item
simplest Expr = Part Or ∷ []
simplest Unary = Part Primary ∷ []
simplest nonterminal = first_alternative (rule nonterminal)

-- the tokens of an item, given those of each nonterminal; optional and repeated parts have none
abbrev pub item_tokens : (Nonterminal → List Mark) → Item → List Mark
item_tokens tokens (Of kind) = sample kind ∷ []
item_tokens tokens (Part nonterminal) = tokens nonterminal
item_tokens tokens (Opt nonterminal) = []
item_tokens tokens (Many nonterminal) = []
item_tokens tokens (Inside more item) = item_tokens tokens item

-- the tokens of the items of an alternative, one after the other
abbrev pub items_tokens : (Nonterminal → List Mark) → List Item → List Mark
items_tokens tokens [] = []
items_tokens tokens (item ∷ others) = item_tokens tokens item ++ items_tokens tokens others

-- a short token list that is read as the nonterminal, in at most this many rounds; 12 are enough, as for `begins`
unfoldable pub short_within : ℕ → Nonterminal → List Mark
short_within zero nonterminal = []
short_within (suc rounds) nonterminal = items_tokens (short_within rounds) (simplest nonterminal)

-- a short token list that is read as the nonterminal
unfoldable pub short : Nonterminal → List Mark
short nonterminal = short_within 12 nonterminal

-- a short token list for a part: that of its nonterminal, and none if it is optional or repeated
abbrev pub goal_tokens : Goal → List Mark
goal_tokens (One nonterminal) = short nonterminal
goal_tokens (Optional nonterminal) = []
goal_tokens (Repeated nonterminal) = []

-- the completion of the wanted items: a short token list that is read as them
abbrev pub finish : List Wanted → List Mark
finish [] = []
finish (Terminal kind depth ∷ items) = sample kind ∷ finish items
finish (Subgoal goal depth ∷ items) = goal_tokens goal ++ finish items

-- the token kinds that an item may begin with, given those of each nonterminal and of the items after it
abbrev item_starts : (Nonterminal → List TokenKind) → Item → List TokenKind → List TokenKind
item_starts first (Of asked) after = asked ∷ []
item_starts first (Part nonterminal) after = first nonterminal
item_starts first (Opt nonterminal) after = first nonterminal ++ after
item_starts first (Many nonterminal) after = first nonterminal ++ after
item_starts first (Inside more item) after = item_starts first item after

-- the token kinds that the items of an alternative may begin with
abbrev items_start : (Nonterminal → List TokenKind) → List Item → List TokenKind
items_start first [] = []
items_start first (item ∷ others) = item_starts first item (items_start first others)

-- the token kinds that one of these alternatives may begin with
abbrev alternatives_start : (Nonterminal → List TokenKind) → List (List Item) → List TokenKind
alternatives_start first [] = []
alternatives_start first (items ∷ others) = items_start first items ++ alternatives_start first others

-- the token kinds that a nonterminal may begin with, in at most this many rounds
unfoldable pub starts_within : ℕ → Nonterminal → List TokenKind
starts_within zero nonterminal = []
starts_within (suc rounds) nonterminal = alternatives_start (starts_within rounds) (rule nonterminal)

-- the token kinds that a nonterminal may begin with
unfoldable pub starts : Nonterminal → List TokenKind
starts nonterminal = starts_within 12 nonterminal

-- The token kinds that the precedences of an expression may continue with where they could end: after a primary
abbrev after_primary : List TokenKind
after_primary = PunctuatorKind punctuator.Dot ∷ PunctuatorKind punctuator.OpenParen ∷ []

-- after a product
abbrev after_mul : List TokenKind
after_mul = PunctuatorKind punctuator.Star ∷ PunctuatorKind punctuator.Slash ∷ PunctuatorKind punctuator.Percent
    ∷ after_primary

-- after a sum
abbrev after_sum : List TokenKind
after_sum = PunctuatorKind punctuator.Plus ∷ PunctuatorKind punctuator.Minus ∷ after_mul

-- after a comparison
abbrev after_compare : List TokenKind
after_compare =
    PunctuatorKind punctuator.Less ∷ PunctuatorKind punctuator.LessEqual ∷ PunctuatorKind punctuator.Greater
    ∷ PunctuatorKind punctuator.GreaterEqual ∷ after_sum

-- after an equality
abbrev after_equal : List TokenKind
after_equal = PunctuatorKind punctuator.Equal ∷ PunctuatorKind punctuator.NotEqual ∷ after_compare

-- after a conjunction
abbrev after_and : List TokenKind
after_and = PunctuatorKind punctuator.And ∷ after_equal

-- after an expression
abbrev after_expr : List TokenKind
after_expr = PunctuatorKind punctuator.Or ∷ after_and

-- after a test of a guard
abbrev after_test : List TokenKind
after_test = PunctuatorKind punctuator.Question ∷ after_equal

-- after a right side
abbrev after_rhs : List TokenKind
after_rhs = PunctuatorKind punctuator.Not ∷ after_expr

-- the token kinds that each nonterminal may continue with where it could end
abbrev pub continues : Nonterminal → List TokenKind
continues Path = PunctuatorKind punctuator.Dot ∷ []
continues Constructor = PunctuatorKind punctuator.OpenParen ∷ []
continues NextConstructor = PunctuatorKind punctuator.OpenParen ∷ []
continues Params = PunctuatorKind punctuator.Comma ∷ []
continues Extends = PunctuatorKind punctuator.Comma ∷ []
continues Implements = PunctuatorKind punctuator.Comma ∷ []
continues Type' = PunctuatorKind punctuator.Less ∷ []
continues Types = PunctuatorKind punctuator.Comma ∷ PunctuatorKind punctuator.Less ∷ []
continues CommaType = PunctuatorKind punctuator.Less ∷ []
continues Stmt = KeywordKind keyword.Else ∷ []
continues Else = KeywordKind keyword.Else ∷ []
continues Initial = after_rhs
continues Guard = PunctuatorKind punctuator.And ∷ after_test
continues AndTest = after_test
continues Test = after_test
continues Rhs = after_rhs
continues Args = PunctuatorKind punctuator.Comma ∷ after_expr
continues CommaExpr = after_expr
continues Expr = after_expr
continues Or = after_expr
continues OrTail = after_and
continues And = after_and
continues AndTail = after_equal
continues Equal = after_equal
continues EqualTail = after_compare
continues Compare = after_compare
continues CompareTail = after_sum
continues Sum = after_sum
continues SumTail = after_mul
continues Mul = after_mul
continues MulTail = after_primary
continues Unary = after_primary
continues Primary = after_primary
continues ThisTail = PunctuatorKind punctuator.OpenParen ∷ []
continues Pattern = PunctuatorKind punctuator.OpenParen ∷ []
continues Patterns = PunctuatorKind punctuator.Comma ∷ PunctuatorKind punctuator.OpenParen ∷ []
continues CommaPattern = PunctuatorKind punctuator.OpenParen ∷ []
continues nonterminal = []

-- whether a token kind fits one of these
abbrev meets : List TokenKind → TokenKind → Bool
meets kinds kind = list_any (λ (asked : TokenKind). fits asked kind) kinds

-- whether a part may continue with this token kind, or begin with it if the part is optional or repeated
abbrev goes_on : Goal → TokenKind → Bool
goes_on (One nonterminal) kind = meets (continues nonterminal) kind
goes_on (Optional nonterminal) kind = meets (starts nonterminal ++ continues nonterminal) kind
goes_on (Repeated nonterminal) kind = meets (starts nonterminal ++ continues nonterminal) kind

-- no part may continue with what completes the items after it, and the sample token of a token kind fits it
abbrev pub Fine : List Wanted → Type 0
Fine [] = Unit {0}
Fine (Terminal kind depth ∷ items) = (fits kind (token_kind (sample kind)) ≡ true) × Fine items
Fine (Subgoal goal depth ∷ items) = (goes_on goal (next (finish items)) ≡ false) × Fine items

-- The wanted program is fine.
pub fine_start : Fine a_program
fine_start = (refl, tt)

-- Fine items stay fine without the first one.
pub fine_tail : (item : Wanted) (items : List Wanted) → Fine (item ∷ items) → Fine items
fine_tail (Terminal kind depth) items fine = fine.1
fine_tail (Subgoal goal depth) items fine = fine.1

-- Fine items that begin with a token stay fine without it.
pub fine_after : (kind : TokenKind) (depth : ℕ) (items : List Wanted) → Fine (Terminal kind depth ∷ items) → Fine items
fine_after kind depth items fine = fine.1

-- A token kind that does not meet two lists together meets neither.
meets_neither : (front after : List TokenKind) (kind : TokenKind) → meets (front ++ after) kind ≡ false
    → (meets front kind ≡ false) × (meets after kind ≡ false)
meets_neither front after kind e =
    or_parts _ _ (sym (list_any-append (λ (asked : TokenKind). fits asked kind) front after) ∙ e)

-- An item, followed by others, begins with the token kinds that are listed for it.
item_tells : (first : Nonterminal → TokenKind → Bool) (kinds : Nonterminal → List TokenKind) (kind : TokenKind)
    → ((nonterminal : Nonterminal) → first nonterminal kind ≡ meets (kinds nonterminal) kind)
    → (item : Item) (others : List Item) → items_begin first others kind ≡ meets (items_start kinds others) kind
    → items_begin first (item ∷ others) kind ≡ meets (items_start kinds (item ∷ others)) kind
item_tells first kinds kind tells (Of asked) others e = sym (or-false (fits asked kind))
item_tells first kinds kind tells (Part nonterminal) others e = tells nonterminal
item_tells first kinds kind tells (Opt nonterminal) others e =
    ap (λ b. b || items_begin first others kind) (tells nonterminal)
    ∙ (ap (λ b. meets (kinds nonterminal) kind || b) e
    ∙ sym (list_any-append (λ (asked : TokenKind). fits asked kind) (kinds nonterminal) (items_start kinds others)))
item_tells first kinds kind tells (Many nonterminal) others e =
    ap (λ b. b || items_begin first others kind) (tells nonterminal)
    ∙ (ap (λ b. meets (kinds nonterminal) kind || b) e
    ∙ sym (list_any-append (λ (asked : TokenKind). fits asked kind) (kinds nonterminal) (items_start kinds others)))
item_tells first kinds kind tells (Inside more item) others e = item_tells first kinds kind tells item others e

-- An alternative begins with the token kinds that are listed for it.
items_tell : (first : Nonterminal → TokenKind → Bool) (kinds : Nonterminal → List TokenKind) (kind : TokenKind)
    → ((nonterminal : Nonterminal) → first nonterminal kind ≡ meets (kinds nonterminal) kind)
    → (items : List Item) → items_begin first items kind ≡ meets (items_start kinds items) kind
items_tell first kinds kind tells [] = refl
items_tell first kinds kind tells (item ∷ others) =
    item_tells first kinds kind tells item others (items_tell first kinds kind tells others)

-- Some alternatives begin with the token kinds that are listed for them.
alternatives_tell : (first : Nonterminal → TokenKind → Bool) (kinds : Nonterminal → List TokenKind) (kind : TokenKind)
    → ((nonterminal : Nonterminal) → first nonterminal kind ≡ meets (kinds nonterminal) kind)
    → (alternatives : List (List Item))
    → list_any (λ (items : List Item). items_begin first items kind) alternatives
    ≡ meets (alternatives_start kinds alternatives) kind
alternatives_tell first kinds kind tells [] = refl
alternatives_tell first kinds kind tells (items ∷ others) =
    ap (λ b. b || list_any (λ (items : List Item). items_begin first items kind) others)
    (items_tell first kinds kind tells items)
    ∙ (ap (λ b. meets (items_start kinds items) kind || b) (alternatives_tell first kinds kind tells others)
    ∙ sym (list_any-append (λ (asked : TokenKind). fits asked kind) (items_start kinds items)
    (alternatives_start kinds others)))

-- A nonterminal begins with the token kinds that are listed for it, in any number of rounds.
rounds_tell : (rounds : ℕ) (nonterminal : Nonterminal) (kind : TokenKind)
    → begins_within rounds nonterminal kind ≡ meets (starts_within rounds nonterminal) kind
unfolding begins_within starts_within
rounds_tell zero nonterminal kind = refl
rounds_tell (suc rounds) nonterminal kind =
    alternatives_tell (begins_within rounds) (starts_within rounds) kind
    (λ nonterminal. rounds_tell rounds nonterminal kind) (rule nonterminal)

-- A nonterminal begins with the token kinds that are listed for it.
starts_tell : (nonterminal : Nonterminal) (kind : TokenKind) → begins nonterminal kind ≡ meets (starts nonterminal) kind
unfolding begins starts
starts_tell nonterminal kind = rounds_tell 12 nonterminal kind

-- A nonterminal does not begin with a token kind that neither starts nor continues it.
pub begins_not : (nonterminal : Nonterminal) (kind : TokenKind)
    → meets (starts nonterminal ++ continues nonterminal) kind ≡ false → begins nonterminal kind ≡ false
begins_not nonterminal kind e =
    starts_tell nonterminal kind ∙ (meets_neither (starts nonterminal) (continues nonterminal) kind e).0

-- whether two token kinds are the same keyword or the same punctuator
abbrev is_same : TokenKind → TokenKind → Bool
is_same (KeywordKind one) (KeywordKind other) = bytes_eq (spelling one) (spelling other)
is_same (PunctuatorKind one) (PunctuatorKind other) = bytes_eq (punctuator_bytes one) (punctuator_bytes other)
is_same one other = false

-- A token kind that does not fit one of two equal token kinds does not fit the other.
same_fits : (one other kind : TokenKind) → is_same one other ≡ true → fits other kind ≡ false → fits one kind ≡ false
same_fits (KeywordKind one) (KeywordKind other) (KeywordKind keyword) same e =
    ap (λ bytes. bytes_eq bytes (spelling keyword)) ((bytes_eq-Decides (spelling one) (spelling other)).0 same) ∙ e
same_fits (PunctuatorKind one) (PunctuatorKind other) (PunctuatorKind punctuator) same e =
    ap (λ bytes. bytes_eq bytes (punctuator_bytes punctuator))
    ((bytes_eq-Decides (punctuator_bytes one) (punctuator_bytes other)).0 same) ∙ e
same_fits (KeywordKind one) (KeywordKind other) kind same e = refl
same_fits (PunctuatorKind one) (PunctuatorKind other) kind same e = refl
same_fits one other kind same e = absurd cc

-- whether the completion of an item, followed by others, begins with none of these token kinds
abbrev item_clears : Item → List TokenKind → Bool → Bool
item_clears (Of kind) kinds after = not (meets kinds (token_kind (sample kind)))
item_clears (Part nonterminal) kinds after = not (meets kinds (next (short nonterminal)))
item_clears (Opt nonterminal) kinds after = after
item_clears (Many nonterminal) kinds after = after
item_clears (Inside more item) kinds after = item_clears item kinds after

-- whether the completion of these items begins with none of `kinds`, if what follows them begins with none of `last`
abbrev clears : List TokenKind → List Item → List TokenKind → Bool
clears last [] kinds = list_all (λ (one : TokenKind). list_any (λ (other : TokenKind). is_same one other) last) kinds
clears last (item ∷ others) kinds = item_clears item kinds (clears last others kinds)

-- whether an item of an alternative is fine before the others
abbrev item_is_fine : Item → (List TokenKind → Bool) → Bool
item_is_fine (Of kind) after = fits kind (token_kind (sample kind))
item_is_fine (Part nonterminal) after = after (continues nonterminal)
item_is_fine (Opt nonterminal) after = after (starts nonterminal ++ continues nonterminal)
item_is_fine (Many nonterminal) after = after (starts nonterminal ++ continues nonterminal)
item_is_fine (Inside more item) after = item_is_fine item after

-- whether all items of an alternative are fine, if what follows them begins with none of `last`
abbrev items_are_fine : List TokenKind → List Item → Bool
items_are_fine last [] = true
items_are_fine last (item ∷ others) = item_is_fine item (clears last others) && items_are_fine last others

-- Each alternative of the grammar passes the test.
table_is_fine : (nonterminal : Nonterminal)
    → list_all (λ (items : List Item). items_are_fine (continues nonterminal) items) (rule nonterminal) ≡ true
unfolding short short_within starts starts_within
table_is_fine Program = refl
table_is_fine _ = refl

-- The first token of a nonterminal's short list chooses the simplest alternative.
pub chosen_shortly : (nonterminal : Nonterminal) (ts : List Mark)
    → chosen nonterminal (next (short nonterminal ++ ts)) ≡ Some (simplest nonterminal)
unfolding short short_within chosen begins begins_within
chosen_shortly Program ts = refl
chosen_shortly _ ts = refl

-- The first token of a nonterminal's short list does not depend on what follows the list.
next_shortly : (nonterminal : Nonterminal) (ts : List Mark) → next (short nonterminal ++ ts) ≡ next (short nonterminal)
unfolding short short_within
next_shortly Program ts = refl
next_shortly _ ts = refl

-- The tokens of the simplest alternative are the nonterminal's short list.
pub tokens_shortly : (nonterminal : Nonterminal) → items_tokens short (simplest nonterminal) ≡ short nonterminal
unfolding short short_within
tokens_shortly Program = refl
tokens_shortly _ = refl

-- Token kinds that the short list does not begin with are not met if more tokens follow it.
meets_shortly : (nonterminal : Nonterminal) (kinds : List TokenKind) (ts : List Mark)
    → meets kinds (next (short nonterminal)) ≡ false
    → meets kinds (next (short nonterminal ++ ts)) ≡ false
meets_shortly nonterminal kinds ts e = ap (meets kinds) (next_shortly nonterminal ts) ∙ e

-- The completion of an item that passes the test, followed by others, begins with none of the token kinds.
item_clear : (item : Item) (kinds : List TokenKind) (after : Bool) (depth : ℕ) (items : List Wanted)
    → item_clears item kinds after ≡ true
    → (after ≡ true → meets kinds (next (finish items)) ≡ false)
    → meets kinds (next (finish (place_item depth item ∷ items))) ≡ false
item_clear (Of kind) kinds after depth items e others = not-true _ e
item_clear (Part nonterminal) kinds after depth items e others =
    meets_shortly nonterminal kinds (finish items) (not-true _ e)
item_clear (Opt nonterminal) kinds after depth items e others = others e
item_clear (Many nonterminal) kinds after depth items e others = others e
item_clear (Inside more item) kinds after depth items e others =
    item_clear item kinds after (depth + more) items e others

-- A token kind that is the same as one of `last` is not met where none of `last` is met.
one_clear : (last : List TokenKind) (one kind : TokenKind)
    → list_any (λ (other : TokenKind). is_same one other) last ≡ true → meets last kind ≡ false → fits one kind ≡ false
one_clear [] one kind e none = absurd cc
one_clear (other ∷ last) one kind e none =
    let parts = or_parts (fits other kind) (meets last kind) none in
    go (is_same one other) refl parts.0 (λ e. one_clear last one kind e parts.1) e
  where
    go : (same : Bool) → is_same one other ≡ same → fits other kind ≡ false
        → (list_any (λ (other : TokenKind). is_same one other) last ≡ true → fits one kind ≡ false)
        → (same || list_any (λ (other : TokenKind). is_same one other) last) ≡ true → fits one kind ≡ false
    go true is none further e = same_fits one other kind is none
    go false is none further e = further e

-- No token kind of a list is met if each is the same as one of `last`, of which none is met.
all_clear : (last kinds : List TokenKind) (kind : TokenKind)
    → list_all (λ (one : TokenKind). list_any (λ (other : TokenKind). is_same one other) last) kinds ≡ true
    → meets last kind ≡ false → meets kinds kind ≡ false
all_clear last [] kind e none = refl
all_clear last (one ∷ kinds) kind e none =
    let parts = and_parts _ _ e in
    ap (λ b. b || meets kinds kind) (one_clear last one kind parts.0 none) ∙ all_clear last kinds kind parts.1 none

-- The completion of items that pass the test begins with none of the token kinds.
items_clear : (last : List TokenKind) (others : List Item) (kinds : List TokenKind) (depth : ℕ) (items : List Wanted)
    → clears last others kinds ≡ true
    → meets last (next (finish items)) ≡ false → meets kinds (next (finish (place depth others ++ items))) ≡ false
items_clear last [] kinds depth items e none = all_clear last kinds (next (finish items)) e none
items_clear last (item ∷ others) kinds depth items e none =
    item_clear item kinds (clears last others kinds) depth (place depth others ++ items) e
    (λ e. items_clear last others kinds depth items e none)

-- An item that passes the test is fine before others.
item_fine : (item : Item) (after : List TokenKind → Bool) (depth : ℕ) (items : List Wanted)
    → item_is_fine item after ≡ true
    → ((kinds : List TokenKind) → after kinds ≡ true → meets kinds (next (finish items)) ≡ false) → Fine items
    → Fine (place_item depth item ∷ items)
item_fine (Of kind) after depth items e others fine = (e, fine)
item_fine (Part nonterminal) after depth items e others fine = (others _ e, fine)
item_fine (Opt nonterminal) after depth items e others fine = (others _ e, fine)
item_fine (Many nonterminal) after depth items e others fine = (others _ e, fine)
item_fine (Inside more item) after depth items e others fine = item_fine item after (depth + more) items e others fine

-- An alternative that passes the test is fine before others.
pub items_fine : (last : List TokenKind) (others : List Item) (depth : ℕ) (items : List Wanted)
    → items_are_fine last others ≡ true
    → meets last (next (finish items)) ≡ false → Fine items → Fine (place depth others ++ items)
items_fine last [] depth items e none fine = fine
items_fine last (item ∷ others) depth items e none fine =
    let parts = and_parts _ _ e in
    item_fine item (clears last others) depth (place depth others ++ items) parts.0
    (λ kinds e. items_clear last others kinds depth items e none)
    (items_fine last others depth items parts.1 none fine)

-- The chosen alternative passes the test.
pub chosen_is_fine : (nonterminal : Nonterminal) (kind : TokenKind) (items : List Item)
    → chosen nonterminal kind ≡ Some items → items_are_fine (continues nonterminal) items ≡ true
unfolding chosen
chosen_is_fine nonterminal kind items e =
    find-list_all _ (λ (items : List Item). items_are_fine (continues nonterminal) items) (rule nonterminal) items
    (table_is_fine nonterminal) e

-- What a nonterminal opens to is fine where the nonterminal was.
chosen_fine : (nonterminal : Nonterminal) (kind : TokenKind) (depth : ℕ) (alternative : Option (List Item))
    (inner items : List Wanted) → chosen nonterminal kind ≡ alternative
    → option_map (place (inner_depth nonterminal depth)) alternative ≡ Some inner
    → Fine (Subgoal (One nonterminal) depth ∷ items) → Fine (inner ++ items)
chosen_fine nonterminal kind depth None inner items is e fine = absurd cc
chosen_fine nonterminal kind depth (Some alternative) inner items is e fine =
    let same : place (inner_depth nonterminal depth) alternative ≡ inner = cc in
    subst (λ (l : List Wanted). Fine (l ++ items)) same
    (items_fine (continues nonterminal) alternative (inner_depth nonterminal depth) items
    (chosen_is_fine nonterminal kind alternative is) fine.0 fine.1)

-- What an optional part opens to is fine where the part was.
optional_fine : (nonterminal : Nonterminal) (depth : ℕ) (begin : Bool) (inner items : List Wanted)
    → (if begin then Some (Subgoal (One nonterminal) depth ∷ []) else Some []) ≡ Some inner
    → Fine (Subgoal (Optional nonterminal) depth ∷ items) → Fine (inner ++ items)
optional_fine nonterminal depth true inner items e fine =
    let same : Subgoal (One nonterminal) depth ∷ [] ≡ inner = cc in
    subst (λ (l : List Wanted). Fine (l ++ items)) same
    ((meets_neither (starts nonterminal) (continues nonterminal) _ fine.0).1, fine.1)
optional_fine nonterminal depth false inner items e fine =
    let same : [] ≡ inner = cc in
    subst (λ (l : List Wanted). Fine (l ++ items)) same fine.1

-- What a repeated part opens to is fine where the part was.
repeated_fine : (nonterminal : Nonterminal) (depth : ℕ) (begin : Bool) (inner items : List Wanted)
    → (if begin then Some (Subgoal (One nonterminal) depth ∷ Subgoal (Repeated nonterminal) depth ∷ []) else Some [])
    ≡ Some inner
    → Fine (Subgoal (Repeated nonterminal) depth ∷ items) → Fine (inner ++ items)
repeated_fine nonterminal depth true inner items e fine =
    let same : Subgoal (One nonterminal) depth ∷ Subgoal (Repeated nonterminal) depth ∷ [] ≡ inner = cc in
    subst (λ (l : List Wanted). Fine (l ++ items)) same
    ((meets_neither (starts nonterminal) (continues nonterminal) _ fine.0).1, fine)
repeated_fine nonterminal depth false inner items e fine =
    let same : [] ≡ inner = cc in
    subst (λ (l : List Wanted). Fine (l ++ items)) same fine.1

-- What any part opens to is fine where the part was.
opened_fine : (goal : Goal) (kind : TokenKind) (depth : ℕ) (inner items : List Wanted)
    → opened goal kind depth ≡ Some inner
    → Fine (Subgoal goal depth ∷ items) → Fine (inner ++ items)
opened_fine (One nonterminal) kind depth inner items e fine =
    chosen_fine nonterminal kind depth (chosen nonterminal kind) inner items refl e fine
opened_fine (Optional nonterminal) kind depth inner items e fine =
    optional_fine nonterminal depth (begins nonterminal kind) inner items e fine
opened_fine (Repeated nonterminal) kind depth inner items e fine =
    repeated_fine nonterminal depth (begins nonterminal kind) inner items e fine

-- Fine items stay fine as they move over the tokens.
pub fine_moves : {items others : List Wanted} {ts rest : List Mark} → Moves items ts others rest → Fine items
    → Fine others
fine_moves Stays fine = fine
fine_moves (Takes e within moves) fine = fine_moves moves fine.1
fine_moves (Opens {goal = goal} {depth = depth} {inner = inner} {items = items} {ts = ts} e moves) fine =
    fine_moves moves (opened_fine goal (next ts) depth inner items e fine)
