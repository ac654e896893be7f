-- The steps of the parsing function of `Rest`, which follows the first operand of a right side. It reads the operators
-- of each precedence, and then what may follow an expression, up to `;`. All that comes before `;` may be left out. So
-- where the next token does not open `Rest`, no token was read, and `Rest` is refused where the next item is.
use Rattle.std.proofs.Common.{◌≡◌, ◌≤◌, ℕ, ◌+◌, Bool, true, false, List, [], ◌∷◌, ◌++◌, map, Some, None, refl, sym, ap, subst, ◌∙◌}
use Rattle.std.proofs.lemmas.Bool.{or_parts}
use Rattle.std.proofs.lemmas.Option.{same_Some}
use Rattle.abs_tree.specs.SyntaxViews.{expr_tree, side_tree}
use Rattle.abs_tree.specs.declared.place.Place.{Place}
use Rattle.abs_tree.specs.declared.syntax.expression.Expr.{Expr}
use Rattle.abs_tree.specs.declared.syntax.statement.RightSide.{RightSide}
use Rattle.abs_tree.specs.declared.refusal.Code.{Code}
use Rattle.abs_lexer.specs.declared.lexeme.Lexeme.TheVariants as lexeme
use Rattle.abs_lexer.specs.declared.lexeme.Punctuator.TheVariants as punctuator
use Rattle.abs_lexer.specs.Tokens.{Lexed}
use Rattle.abs_parser.specs.TokenKinds.{Mark, Token, TokenKind, PunctuatorKind, fits, next}
use Rattle.abs_parser.specs.Answers.{GoesOn}
use Rattle.abs_parser.specs.Climbing.{FoundAfter, Climbs, Last, Further, FailsToClimb, Here, Later}
use Rattle.abs_parser.specs.Precedences.{looser, rest_of}
use Rattle.abs_parser.specs.Productions.{Rest, MulTail, SumTail, CompareTail, EqualTail, AndTail, OrTail, RhsTail, begins}
use Rattle.abs_parser.specs.Readings.{Goal, One, Optional, Wanted, Terminal, Subgoal, opened, Forest, Leaf, Node, Reads, Nothing, Taken, Opened}
use Rattle.abs_parser.specs.Refusing.{Refuses, Shut, Open, Cut}
use Rattle.abs_parser.specs.ReaderAnswers.{left_at, TakesKind, FoundAs, RefusedAs, IsRefused, AreRefused}
use Rattle.abs_parser.specs.Stops.{limit}
use Rattle.abs_parser.specs.Tokens.{Spot}
use Rattle.abs_parser.specs.TreesOf.{tail_in, rest_in}
use Rattle.abs_parser.specs.declared.operators.Precedence.{Precedence}
use Rattle.abs_parser.specs.declared.operators.Precedence.TheVariants as precedence
use Rattle.abs_tree.specs.declared.source_error.SourceError.{SourceError}
use Rattle.abs_tree.specs.declared.source_error.SourceError.TheVariants.{Refused, Memory}
use Rattle.abs_parser.proofs.grammar.NameLemmas.{goes_on_further}
use Rattle.abs_parser.proofs.reader.FoundLemmas.{found_goes_on}
use Rattle.abs_parser.proofs.reader.StepLemmas.{HasRead, opens, over_token, over_part, all_read, refused_inside, refused_row, refused_other, fits_next}
use Rattle.abs_parser.proofs.grammar.NonterminalLemmas.{begins_by, part_opened, part_shut, optional_left_out}

-- What was left out

-- a reading of no items takes no token
reads_nothing : {items : List Wanted} {ts to : List Mark} {forest : Forest} → items ≡ [] → Reads items ts forest to
    → to ≡ ts
reads_nothing none Nothing = refl
reads_nothing none (Taken fit reads) = absurd cc
reads_nothing none (Opened is first reads) = absurd cc

-- a part that is left out leaves the tokens that there were
nothing_left_out : {goal : Goal} {depth : ℕ} {old new : List (List ℕ)} {from to : Spot}
    {is_read : List (List ℕ) → Forest → Type 0}
    → FoundAs goal depth old new from to is_read → opened goal (next (left_at from)) depth ≡ Some []
    → left_at to ≡ left_at from
nothing_left_out found none = reads_nothing (same_Some _ _ (sym found.rule_is ∙ none)) found.reads

-- a refusal of a part that is left out, with items after it, is one of these items
after_by : {part : Goal} {at : ℕ} {item : Wanted} {items : List Wanted} {ts rest : List Mark} {code : Code}
    → opened part (next ts) at ≡ Some []
    → Refuses (Subgoal part at ∷ item ∷ items) ts rest code → Refuses (item ∷ items) ts rest code
after_by none (Shut shut is) = absurd cc
after_by {item = item} {items} {ts} {rest} {code} none (Open is refused) =
    subst (λ (inner : List Wanted). Refuses (inner ++ item ∷ items) ts rest code) (same_Some _ _ (sym is ∙ none))
    refused
after_by none (Cut is) = Cut is

-- what refuses a part that is left out refuses any item after it
refused_later : (part : Goal) (at : ℕ) (item : Wanted) (spot : Spot) (error : SourceError)
    → opened part (next (left_at spot)) at ≡ Some []
    → IsRefused (Subgoal part at) spot error → IsRefused item spot error
refused_later part at item spot (Refused refusal) none refused = λ items.
    let found = refused (item ∷ items) in
    record {
      mark = found.mark;
      after = found.after;
      code = found.code;
      refuses =
          after_by none found.refuses;
      refusal_is = found.refusal_is;
    }
refused_later part at item spot Memory none refused = λ items. tt

-- what refuses such a part together with an item after it refuses this item
refused_second : (part : Goal) (at : ℕ) (item : Wanted) (spot : Spot) (error : SourceError)
    → opened part (next (left_at spot)) at ≡ Some []
    → AreRefused (Subgoal part at ∷ item ∷ []) spot error → IsRefused item spot error
refused_second part at item spot (Refused refusal) none refused = λ items.
    let found = refused items in
    record {
      mark = found.mark;
      after = found.after;
      code = found.code;
      refuses =
          after_by none found.refuses;
      refusal_is = found.refusal_is;
    }
refused_second part at item spot Memory none refused = λ items. tt

-- an item that is refused at a spot is refused at each spot with the same tokens
pub refused_there : (item : Wanted) (here there : Spot) (error : SourceError) → left_at here ≡ left_at there
    → IsRefused item here error → IsRefused item there error
refused_there item here there error same refused =
    λ items. subst (λ (ts : List Mark). RefusedAs (item ∷ items) ts error) same (refused items)

-- A part that not every token opens was read up to here, with these items left. If the next token may open the part,
-- this was read of it. If not, no token was read.
pub record MayHaveRead (may : Bool) (goal : Goal) (depth : ℕ) (old now : List (List ℕ)) (from : Spot)
    (make : Forest → Forest) (left : List Wanted) (here : Spot) : Type 0 where
  pub read : may ≡ true → HasRead goal depth old now from make left here
  pub still : may ≡ false → left_at here ≡ left_at from

-- nothing of the part was read
pub may_open : {may : Bool} (goal : Goal) (depth : ℕ) (table : List (List ℕ)) (from : Spot) (inner : List Wanted)
    → (may ≡ true → opened goal (next (left_at from)) depth ≡ Some inner)
    → MayHaveRead may goal depth table table from (λ rest. rest) inner from
may_open goal depth table from inner is = record {
  read = λ begun. opens goal depth table from inner (is begun);
  still = λ none. refl;
}

-- a part inside was read, which is left out where the whole is not opened
pub over_left_out : {may : Bool} {goal part : Goal} {depth at : ℕ} {old now new : List (List ℕ)}
    {from here after : Spot} {make : Forest → Forest} {left : List Wanted}
    {is_read : List (List ℕ) → Forest → Type 0}
    → MayHaveRead may goal depth old now from make (Subgoal part at ∷ left) here
    → (may ≡ false → opened part (next (left_at from)) at ≡ Some [])
    → (found : FoundAs part at now new here after is_read)
    → MayHaveRead may goal depth old new from (λ rest. make (Node part found.inside rest)) left after
over_left_out {part = part} {at = at} so left_out found = record {
  read = λ begun. over_part (so.read begun) found;
  still = λ none. nothing_left_out found
      (ap (λ (ts : List Mark). opened part (next ts) at) (so.still none) ∙ left_out none) ∙ so.still none;
}

-- the next lemma, by cases of whether the next token may open the part
refused_by : (is : Bool) {may : Bool} {goal : Goal} {depth : ℕ} {old now : List (List ℕ)} {from here : Spot}
    {make : Forest → Forest} {item : Wanted} {left : List Wanted} → may ≡ is
    → MayHaveRead may goal depth old now from make (item ∷ left) here → (error : SourceError)
    → IsRefused item here error
    → (may ≡ false → left_at here ≡ left_at from → IsRefused (Subgoal goal depth) from error)
    → IsRefused (Subgoal goal depth) from error
refused_by true e so error refused otherwise = refused_inside (so.read e) error refused
refused_by false e so error refused otherwise = otherwise e (so.still e)

-- what refuses the next item refuses the part, if the part is also refused where no token opens it
pub refused_either_way : {may : Bool} {goal : Goal} {depth : ℕ} {old now : List (List ℕ)} {from here : Spot}
    {make : Forest → Forest} {item : Wanted} {left : List Wanted}
    → MayHaveRead may goal depth old now from make (item ∷ left) here → (error : SourceError)
    → IsRefused item here error
    → (may ≡ false → left_at here ≡ left_at from → IsRefused (Subgoal goal depth) from error)
    → IsRefused (Subgoal goal depth) from error
refused_either_way {may} so error refused otherwise = refused_by may refl so error refused otherwise

-- the next lemma, by cases of whether the next token may open the part
both_by : (is : Bool) {may : Bool} {goal part : Goal} {depth at : ℕ} {old now : List (List ℕ)} {from here : Spot}
    {make : Forest → Forest} {second : Wanted} {left : List Wanted} → may ≡ is
    → MayHaveRead may goal depth old now from make (Subgoal part at ∷ second ∷ left) here
    → (may ≡ false → opened part (next (left_at from)) at ≡ Some []) → (error : SourceError)
    → AreRefused (Subgoal part at ∷ second ∷ []) here error
    → (may ≡ false → IsRefused second from error → IsRefused (Subgoal goal depth) from error)
    → IsRefused (Subgoal goal depth) from error
both_by true {part = part} {at = at} {second = second} e so left_out error refused otherwise =
    refused_row (Subgoal part at ∷ second ∷ []) _ (so.read e) error refused
both_by false {part = part} {at = at} {from = from} {second = second} e so left_out error refused otherwise =
    otherwise e (refused_second part at second from error (left_out e)
    (λ items. subst (λ (ts : List Mark). RefusedAs (Subgoal part at ∷ second ∷ items) ts error) (so.still e)
    (refused items)))

-- what refuses the next two items refuses the part, if the first of them is left out where the part is not opened
pub refused_both_either_way : {may : Bool} {goal part : Goal} {depth at : ℕ} {old now : List (List ℕ)}
    {from here : Spot} {make : Forest → Forest} {second : Wanted} {left : List Wanted}
    → MayHaveRead may goal depth old now from make (Subgoal part at ∷ second ∷ left) here
    → (may ≡ false → opened part (next (left_at from)) at ≡ Some []) → (error : SourceError)
    → AreRefused (Subgoal part at ∷ second ∷ []) here error
    → (may ≡ false → IsRefused second from error → IsRefused (Subgoal goal depth) from error)
    → IsRefused (Subgoal goal depth) from error
refused_both_either_way {may} so left_out error refused otherwise = both_by may refl so left_out error refused otherwise

-- what refuses the next part refuses the whole, if that part is left out where the whole is not opened
pub refused_left_out : {may : Bool} {goal part : Goal} {depth at : ℕ} {old now : List (List ℕ)} {from here : Spot}
    {make : Forest → Forest} {left : List Wanted}
    → MayHaveRead may goal depth old now from make (Subgoal part at ∷ left) here
    → (may ≡ false → opened part (next (left_at from)) at ≡ Some []) → (error : SourceError)
    → IsRefused (Subgoal part at) here error → IsRefused (Subgoal goal depth) from error
refused_left_out {goal = goal} {part} {depth} {at} {from = from} so left_out error refused =
    refused_either_way so error refused (λ none same.
    refused_later part at (Subgoal goal depth) from error (left_out none)
    (refused_there (Subgoal part at) _ from error same refused))

-- what refuses the next item, a token, refuses the whole, if that does not fit where the whole is not opened
pub refused_unfit_either_way : {may : Bool} {kind : TokenKind} {goal : Goal} {depth at : ℕ} {old now : List (List ℕ)}
    {from here : Spot} {make : Forest → Forest} {left : List Wanted}
    → MayHaveRead may goal depth old now from make (Terminal kind at ∷ left) here
    → (may ≡ false → fits kind (next (left_at from)) ≡ false)
    → (may ≡ false → opened goal (next (left_at from)) depth ≡ None) → (error : SourceError)
    → IsRefused (Terminal kind at) here error
    → IsRefused (Subgoal goal depth) from error
refused_unfit_either_way {kind = kind} {goal} {depth} {at} {from = from} so differs shut error refused =
    refused_either_way so error refused
    (λ none same. refused_other kind at goal depth from error (differs none) (shut none)
    (refused_there (Terminal kind at) _ from error same refused))

-- the next lemma, by cases of whether the next token may open the part
has_read_by : (is : Bool) {may : Bool} {goal : Goal} {depth : ℕ} {old now : List (List ℕ)} {from here : Spot}
    {make : Forest → Forest} {left : List Wanted} → may ≡ is
    → MayHaveRead may goal depth old now from make left here → (may ≡ false → left_at here ≡ left_at from → ⊥)
    → HasRead goal depth old now from make left here
has_read_by true e so never = so.read e
has_read_by false e so never = absurd (never e (so.still e))

-- where the next token must open the part, the part was read up to here
pub has_read : {may : Bool} {goal : Goal} {depth : ℕ} {old now : List (List ℕ)} {from here : Spot}
    {make : Forest → Forest} {left : List Wanted}
    → MayHaveRead may goal depth old now from make left here → (may ≡ false → left_at here ≡ left_at from → ⊥)
    → HasRead goal depth old now from make left here
has_read {may} so never = has_read_by may refl so never

-- After a first operand

-- This token kind begins nothing that may follow a first operand: no operator, nothing that may follow an expression,
-- and no `;`.
record BeginsNone (kind : TokenKind) : Type 0 where
  mul : begins MulTail kind ≡ false
  sum : begins SumTail kind ≡ false
  compare : begins CompareTail kind ≡ false
  equal : begins EqualTail kind ≡ false
  and : begins AndTail kind ≡ false
  or : begins OrTail kind ≡ false
  tail : begins RhsTail kind ≡ false
  semicolon : fits (PunctuatorKind punctuator.Semicolon) kind ≡ false

-- a token kind that does not begin `Rest` begins none of its items
begins_none : (kind : TokenKind) → begins Rest kind ≡ false → BeginsNone kind
begins_none kind none =
    let muls = or_parts _ _ (sym (begins_by Rest kind refl) ∙ none) in
    let sums = or_parts _ _ muls.1 in
    let compared = or_parts _ _ sums.1 in
    let equal = or_parts _ _ compared.1 in
    let ands = or_parts _ _ equal.1 in
    let ors = or_parts _ _ ands.1 in
    let tail = or_parts _ _ ors.1 in
    record {
      mul = muls.0;
      sum = sums.0;
      compare = compared.0;
      equal = equal.0;
      and = ands.0;
      or = ors.0;
      tail =
          tail.0;
      semicolon = tail.1;
    }

-- where `Rest` is not opened, the operators of each precedence are left out
precedence_left_out : (precedence : Precedence) (kind : TokenKind) (depth : ℕ) → begins Rest kind ≡ false
    → opened (rest_of precedence) kind depth ≡ Some []
precedence_left_out precedence.Or kind depth none = rw ((begins_none kind none).or) refl
precedence_left_out precedence.And kind depth none = rw ((begins_none kind none).and) refl
precedence_left_out precedence.Equal kind depth none = rw ((begins_none kind none).equal) refl
precedence_left_out precedence.Compare kind depth none = rw ((begins_none kind none).compare) refl
precedence_left_out precedence.Sum kind depth none = rw ((begins_none kind none).sum) refl
precedence_left_out precedence.Mul kind depth none = rw ((begins_none kind none).mul) refl

-- `Rest` was read up to here, with these items left, where the next token may open it.
abbrev pub RestRead : ℕ → List (List ℕ) → List (List ℕ) → Spot → (Forest → Forest) → List Wanted → Spot → Type 0
RestRead depth old now from make left here =
    MayHaveRead (begins Rest (next (left_at from))) (One Rest) depth old now from make left here

-- what is wanted after the operators
abbrev pub after_operators : ℕ → List Wanted
after_operators depth = Subgoal (Optional RhsTail) depth ∷ Terminal (PunctuatorKind punctuator.Semicolon) depth ∷ []

-- `Rest` begins with the operators of each precedence
rest_begins : (depth : ℕ) (table : List (List ℕ)) (from : Spot)
    → RestRead depth table table from (λ rest. rest)
    (Subgoal (rest_of precedence.Mul) (depth + 1) ∷ Subgoal (rest_of precedence.Sum) (depth + 1)
    ∷ Subgoal (rest_of precedence.Compare) (depth + 1)
    ∷ Subgoal (rest_of precedence.Equal) (depth + 1) ∷ Subgoal (rest_of precedence.And) (depth + 1)
    ∷ Subgoal (rest_of precedence.Or) (depth + 1) ∷ after_operators depth) from
rest_begins depth table from = may_open (One Rest) depth table from _
    (λ begun. part_opened Rest _ depth refl refl begun)

-- the operators of a precedence were read
over_precedence : {depth : ℕ} {old now new : List (List ℕ)} {from here after : Spot} {make : Forest → Forest}
    {left : List Wanted}
    {is_read : List (List ℕ) → Forest → Type 0} (precedence : Precedence)
    → RestRead depth old now from make (Subgoal (rest_of precedence) (depth + 1) ∷ left) here
    → (found : FoundAs (rest_of precedence) (depth + 1) now new here after is_read)
    → RestRead depth old new from (λ rest. make (Node (rest_of precedence) found.inside rest)) left after
over_precedence {depth} precedence so found = over_left_out so (precedence_left_out precedence _ (depth + 1)) found

-- `Rest` is refused where these operators are
precedence_refused : {depth : ℕ} {old now : List (List ℕ)} {from here : Spot} {make : Forest → Forest}
    {left : List Wanted} (precedence : Precedence) (error : SourceError)
    → RestRead depth old now from make (Subgoal (rest_of precedence) (depth + 1) ∷ left) here
    → IsRefused (Subgoal (rest_of precedence) (depth + 1)) here error
    → IsRefused (Subgoal (One Rest) depth) from error
precedence_refused {depth} precedence error so refused =
    refused_left_out so (precedence_left_out precedence _ (depth + 1)) error refused

-- where `Rest` is not opened, nothing is read after the operators
tail_left_out : (kind : TokenKind) (depth : ℕ) → begins Rest kind ≡ false
    → opened (Optional RhsTail) kind depth ≡ Some []
tail_left_out kind depth none = optional_left_out RhsTail kind depth (begins_none kind none).tail

-- `RhsTail`, which may follow an expression, was read
over_tail : {depth : ℕ} {old now new : List (List ℕ)} {from here after : Spot} {make : Forest → Forest}
    {is_read : List (List ℕ) → Forest → Type 0}
    → RestRead depth old now from make (after_operators depth) here
    → (found : FoundAs (Optional RhsTail) depth now new here after is_read)
    → RestRead depth old new from (λ rest. make (Node (Optional RhsTail) found.inside rest))
    (Terminal (PunctuatorKind punctuator.Semicolon) depth ∷ []) after
over_tail {depth} so found = over_left_out so (tail_left_out _ depth) found

-- `Rest` is refused where `RhsTail` is
tail_refused : {depth : ℕ} {old now : List (List ℕ)} {from here : Spot} {make : Forest → Forest}
    (error : SourceError)
    → RestRead depth old now from make (after_operators depth) here
    → IsRefused (Subgoal (Optional RhsTail) depth) here error
    → IsRefused (Subgoal (One Rest) depth) from error
tail_refused {depth} error so refused = refused_left_out so (tail_left_out _ depth) error refused

-- `Rest` is refused where `;` is
semicolon_refused : {depth : ℕ} {old now : List (List ℕ)} {from here : Spot} {make : Forest → Forest}
    (error : SourceError)
    → RestRead depth old now from make (Terminal (PunctuatorKind punctuator.Semicolon) depth ∷ []) here
    → IsRefused (Terminal (PunctuatorKind punctuator.Semicolon) depth) here error
    → IsRefused (Subgoal (One Rest) depth) from error
semicolon_refused {depth} error so refused =
    refused_unfit_either_way so (λ none. (begins_none _ none).semicolon) (part_shut Rest _ depth) error refused

-- `;` was read
semicolon_read : {token : Lexed} {depth : ℕ} {old now : List (List ℕ)} {from here end : Spot} {make : Forest → Forest}
    → RestRead depth old now from make (Terminal (PunctuatorKind punctuator.Semicolon) depth ∷ []) here
    → TakesKind (lexeme.Punctuator punctuator.Semicolon) token here end → depth ≤ limit
    → HasRead (One Rest) depth old now from (λ rest. make (Leaf (Token token) depth rest)) [] end
semicolon_read so semicolon within =
    over_token (has_read so (λ none same.
    let differs = (begins_none _ none).semicolon in
    let fit = fits_next {kind = lexeme.Punctuator punctuator.Semicolon} refl semicolon in
    let here = ap (λ (ts : List Mark). fits (PunctuatorKind punctuator.Semicolon) (next ts)) same in
    cc)) semicolon refl refl within

-- Operators of several precedences

-- the precedences that bind less than this one, in the order in which they are read
abbrev looser_ones : Precedence → List Precedence
looser_ones precedence.Or = []
looser_ones precedence.And = precedence.Or ∷ []
looser_ones precedence.Equal = precedence.And ∷ precedence.Or ∷ []
looser_ones precedence.Compare = precedence.Equal ∷ precedence.And ∷ precedence.Or ∷ []
looser_ones precedence.Sum = precedence.Compare ∷ precedence.Equal ∷ precedence.And ∷ precedence.Or ∷ []
looser_ones precedence.Mul =
    precedence.Sum ∷ precedence.Compare ∷ precedence.Equal ∷ precedence.And ∷ precedence.Or ∷ []

-- what is wanted after the operators of a precedence: those of each one that binds less, and what follows operators
abbrev wanted_after : Precedence → ℕ → List Wanted
wanted_after precedence depth =
    map (λ (each : Precedence). Subgoal (rest_of each) (depth + 1)) (looser_ones precedence) ++ after_operators depth

-- after the operators of a precedence that is not the last, those of the next one are wanted
next_wanted : (at : Precedence) (depth : ℕ) → (at ≡ precedence.Or → ⊥)
    → wanted_after at depth ≡ Subgoal (rest_of (looser at)) (depth + 1) ∷ wanted_after (looser at) depth
next_wanted precedence.Or depth other = absurd (other refl)
next_wanted precedence.And depth other = refl
next_wanted precedence.Equal depth other = refl
next_wanted precedence.Compare depth other = refl
next_wanted precedence.Sum depth other = refl
next_wanted precedence.Mul depth other = refl

-- `Rest` is refused where the operators of a precedence are, after those of each one before it
refused_from : {depth : ℕ} {old now : List (List ℕ)} {from here : Spot} {make : Forest → Forest} {place : Place}
    {first : Expr} {inner : ℕ} (at : Precedence) (error : SourceError) → inner ≡ depth + 1
    → RestRead depth old now from make (Subgoal (rest_of at) (depth + 1) ∷ wanted_after at depth) here
    → FailsToClimb at precedence.Or inner now place first here error
    → IsRefused (Subgoal (One Rest) depth) from error
refused_from {here = here} at error is so (Here refused) =
    precedence_refused at error so
    (subst (λ (n : ℕ). IsRefused (Subgoal (rest_of at) n) here error) is refused)
refused_from {depth} {old} {now} {from} {here} {make} {place = place} {first} at error is so
    (Later {now = new} {left = left} {here = end} other after fails) =
    let found = subst (λ (n : ℕ). FoundAfter at n now new place first left here end) is after in
    refused_from (looser at) error is
    (subst (λ (wanted : List Wanted). RestRead depth old new from
    (λ (rest : Forest). make (Node (rest_of at) found.inside rest)) wanted end) (next_wanted at depth other)
    (over_precedence at so found)) fails

-- `Rest` is refused where its operators are
pub operators_refused : {old : List (List ℕ)} {from : Spot} {place : Place} {first : Expr} (depth : ℕ)
    (error : SourceError) → FailsToClimb precedence.Mul precedence.Or (depth + 1) old place first from error
    → IsRefused (Subgoal (One Rest) depth) from error
operators_refused {old} {from} depth error fails =
    refused_from precedence.Mul error refl (rest_begins depth old from) fails

-- The operators of each precedence were read after a first operand, up to here. Together they are this expression.
record OperatorsRead (depth : ℕ) (old now : List (List ℕ)) (place : Place) (first expr : Expr) (from here : Spot)
    : Type 0 where
  make : Forest → Forest
  read : RestRead depth old now from make (after_operators depth) here
  is : (names : List (List ℕ)) → GoesOn now names → (part : Goal) (tail others : Forest)
      → rest_in place (expr_tree names first) (make (Node part tail others))
      ≡ tail_in place (expr_tree names expr) tail

-- The operators of a precedence were read, and then those of the next one up to the last.
record ReadFurther (at : Precedence) (depth : ℕ) (old new : List (List ℕ)) (place : Place) (first expr : Expr)
    (from end : Spot) : Type 0 where
  now : List (List ℕ)
  left : Expr
  here : Spot
  after : FoundAfter at depth old now place first left from here
  climbs : Climbs (looser at) precedence.Or depth now new place left expr here end

-- the operators of a precedence that is not the last are followed by those of the next one
next_read : {depth : ℕ} {old new : List (List ℕ)} {place : Place} {first expr : Expr} {from end : Spot}
    (at : Precedence) → (at ≡ precedence.Or → ⊥) → Climbs at precedence.Or depth old new place first expr from end
    → ReadFurther at depth old new place first expr from end
next_read at other (Last same after) = absurd (other same)
next_read at other (Further {now = now} {left = left} {here = here} different after climbs) =
    record { now = now; left = left; here = here; after = after; climbs = climbs }

-- those of the last precedence are followed by no others
last_read : {depth : ℕ} {old new : List (List ℕ)} {place : Place} {first expr : Expr} {from end : Spot}
    (at : Precedence) → at ≡ precedence.Or → Climbs at precedence.Or depth old new place first expr from end
    → FoundAfter at depth old new place first expr from end
last_read at same (Last is after) = after
last_read at same (Further other after climbs) = absurd (other same)

-- the operators of each precedence were read
operators_read : {depth : ℕ} {old new : List (List ℕ)} {place : Place} {first expr : Expr} {from end : Spot}
    → Climbs precedence.Mul precedence.Or (depth + 1) old new place first expr from end
    → OperatorsRead depth old new place first expr from end
operators_read {depth} {old} {new} {place} {first} {expr} {from} climbs =
    let muls = next_read precedence.Mul (λ is. absurd cc) climbs in
    let sums = next_read precedence.Sum (λ is. absurd cc) muls.climbs in
    let compares = next_read precedence.Compare (λ is. absurd cc) sums.climbs in
    let equals = next_read precedence.Equal (λ is. absurd cc) compares.climbs in
    let ands = next_read precedence.And (λ is. absurd cc) equals.climbs in
    let ors = last_read precedence.Or refl ands.climbs in
    let up_to_mul = over_precedence precedence.Mul (rest_begins depth old from) muls.after in
    let up_to_sum = over_precedence precedence.Sum up_to_mul sums.after in
    let up_to_compare = over_precedence precedence.Compare up_to_sum compares.after in
    let up_to_equal = over_precedence precedence.Equal up_to_compare equals.after in
    let up_to_and = over_precedence precedence.And up_to_equal ands.after in
    record {
      make = λ rest. Node (rest_of precedence.Mul) muls.after.inside (Node (rest_of precedence.Sum) sums.after.inside
          (Node (rest_of precedence.Compare) compares.after.inside (Node (rest_of precedence.Equal) equals.after.inside
          (Node (rest_of precedence.And) ands.after.inside (Node (rest_of precedence.Or) ors.inside rest)))));
      read = over_precedence precedence.Or up_to_and ors;
      is = λ names more part tail others.
          let before_or = goes_on_further (found_goes_on ors) more in
          let before_and = goes_on_further (found_goes_on ands.after) before_or in
          let before_equal = goes_on_further (found_goes_on equals.after) before_and in
          let before_compare = goes_on_further (found_goes_on compares.after) before_equal in
          let before_sum = goes_on_further (found_goes_on sums.after) before_compare in
          rw (ors.is names more, ands.after.is names before_or, equals.after.is names before_and)
          (rw (compares.after.is names before_equal, sums.after.is names before_compare, muls.after.is names before_sum)
          refl);
    }

-- `Rest` is refused where what follows its operators is
pub rest_tail_refused : {old now : List (List ℕ)} {from here : Spot} {place : Place} {first expr : Expr}
    (depth : ℕ) (error : SourceError)
    → Climbs precedence.Mul precedence.Or (depth + 1) old now place first expr from here
    → IsRefused (Subgoal (Optional RhsTail) depth) here error
    → IsRefused (Subgoal (One Rest) depth) from error
rest_tail_refused depth error climbs refused = tail_refused error (operators_read climbs).read refused

-- `Rest` is refused where the `;` after its operators and what follows them is
pub rest_end_refused : {depth : ℕ} {old now new : List (List ℕ)} {from here after : Spot} {place : Place}
    {first expr : Expr} {is_read : List (List ℕ) → Forest → Type 0}
    (error : SourceError) → Climbs precedence.Mul precedence.Or (depth + 1) old now place first expr from here
    → FoundAs (Optional RhsTail) depth now new here after is_read
    → IsRefused (Terminal (PunctuatorKind punctuator.Semicolon) depth) after error
    → IsRefused (Subgoal (One Rest) depth) from error
rest_end_refused error climbs tail refused =
    semicolon_refused error (over_tail (operators_read climbs).read tail) refused

-- `Rest` is found with the operators of each precedence, what may follow them, and `;`
pub rest_found : {token : Lexed} {depth : ℕ} {old now new : List (List ℕ)} {from here after end : Spot}
    {place : Place} {first expr : Expr} (side : RightSide)
    → Climbs precedence.Mul precedence.Or (depth + 1) old now place first expr from here
    → FoundAs (Optional RhsTail) depth now new here after
    (λ names inside. side_tree names side ≡ tail_in place (expr_tree names expr) inside)
    → TakesKind (lexeme.Punctuator punctuator.Semicolon) token after end → depth ≤ limit
    → FoundAs (One Rest) depth old new from end
    (λ names inside. side_tree names side ≡ rest_in place (expr_tree names first) inside)
rest_found side climbs tail semicolon within =
    let operators = operators_read climbs in
    all_read (semicolon_read (over_tail operators.read tail) semicolon within) (λ names more.
    tail.is names more ∙ sym (operators.is names (goes_on_further (found_goes_on tail) more) _ tail.inside _))
