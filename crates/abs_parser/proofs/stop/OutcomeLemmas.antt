-- The parser accepts each source with just one reading, or fails at just one token, with one code. A source is read or
-- refused, and the parser fails where it is refused. It does not fail twice. Of two places in a list one is before the
-- other, or they are the same, and no token before a failure is refused. At one place a token is refused by one code,
-- since no token is both a syntax error and too deeply nested.
use Rattle.std.proofs.Common.{◌≡◌, List, [], ◌∷◌, ◌++◌, refl, sym, ap, subst, ◌∙◌}
use Rattle.abs_tree.specs.declared.refusal.Code.{Code}
use Rattle.abs_lexer.specs.Tokens.{TokenList}
use Rattle.abs_parser.specs.TokenKinds.{Mark, marks}
use Rattle.abs_parser.specs.Refusing.{AllWithin}
use Rattle.abs_parser.specs.StopLaw.{Outcome, EachTextStopsOrIsAccepted}
use Rattle.abs_parser.specs.StopLaw.Outcome.{accepts, stops}
use Rattle.abs_parser.specs.Stops.{IsDeep, IsWrong, RefusedBy, StopsAt}
use Rattle.abs_parser.specs.Stops.RefusedBy.{deep, wrong}
use Rattle.abs_parser.specs.TreesOf.{tree_of}
use Rattle.abs_parser.proofs.stop.DecisionLemmas.{Decided, decided}
use Rattle.abs_parser.proofs.stop.DecisionLemmas.Decided.{read, refused}
use Rattle.abs_parser.proofs.stop.EndLemmas.{text_refused}
use Rattle.abs_parser.proofs.grammar.ReadingLemmas.{a_program, one_reading}
use Rattle.abs_parser.proofs.stop.StopLemmas.{stopped, accepted}

-- Two tokens in a list are the same, or one is before the other.
data Places (before front : List Mark) (mark other : Mark) : Type 0 where
  Same : before ≡ front → mark ≡ other → Places before front mark other
  Before : (between : List Mark) → front ≡ before ++ mark ∷ between → Places before front mark other
  After : (between : List Mark) → before ≡ front ++ other ∷ between → Places before front mark other

-- This stays so with one more token before both.
places_after : {before front : List Mark} {mark other : Mark} (first : Mark) → Places before front mark other
    → Places (first ∷ before) (first ∷ front) mark other
places_after first (Same alike same) = Same (ap (λ (list : List Mark). first ∷ list) alike) same
places_after first (Before between is) = Before between (ap (λ (list : List Mark). first ∷ list) is)
places_after first (After between is) = After between (ap (λ (list : List Mark). first ∷ list) is)

-- Any two tokens in a list are the same, or one is before the other.
places : (before front : List Mark) (mark other : Mark) (after others : List Mark)
    → before ++ mark ∷ after ≡ front ++ other ∷ others → Places before front mark other
places [] [] mark other after others is = Same refl cc
places [] (first ∷ front) mark other after others is = Before front cc
places (first ∷ before) [] mark other after others is = After before cc
places (first ∷ before) (one ∷ front) mark other after others is =
    let same : first ≡ one = cc in
    subst (λ (head : Mark). Places (first ∷ before) (head ∷ front) mark other) same
    (places_after first (places before front mark other after others cc))

-- No token is both a syntax error and too deeply nested.
wrong_not_deep : {before : List Mark} {mark : Mark} → IsWrong before mark → IsDeep before mark → ⊥
wrong_not_deep none below = none below.after below.forest below.reads

-- A token is refused by just one code.
one_code : {before : List Mark} {mark : Mark} {code by : Code} → RefusedBy before mark code → RefusedBy before mark by
    → by ≡ code
one_code (deep below) (deep other) = refl
one_code (deep below) (wrong by none is) = absurd (wrong_not_deep none below)
one_code (wrong code none is) (deep below) = absurd (wrong_not_deep none below)
one_code (wrong code none is) (wrong by other by_is) = by_is ∙ sym is

-- No token before a failure is refused.
not_before : {ts before front : List Mark} (between : List Mark) {mark other : Mark} {code by : Code}
    → RefusedBy before mark code → StopsAt ts front other by
    → front ≡ before ++ mark ∷ between → ⊥
not_before {before = before} between {mark = mark} (deep below) stop is = stop.not_deep before between mark is below
not_before {before = before} between {mark = mark} (wrong code none by) stop is =
    stop.not_wrong before between mark is none

-- Two failures in a list are the same, by cases of where they are.
one_stop_by : {ts before front : List Mark} {mark other : Mark} {code by : Code} → StopsAt ts before mark code
    → StopsAt ts front other by → Places before front mark other
    → (front ≡ before) × (other ≡ mark) × (by ≡ code)
one_stop_by {front = front} {mark = mark} {code = code} stop another (Same alike same) =
    let here = subst (λ (token : Mark). RefusedBy front token code) same
    (subst (λ (list : List Mark). RefusedBy list mark code) alike stop.refused) in
    (sym alike, sym same, one_code here another.refused)
one_stop_by stop another (Before between is) = absurd (not_before between stop.refused another is)
one_stop_by stop another (After between is) = absurd (not_before between another.refused stop is)

-- The parser fails at one token of a list, with one code.
pub one_stop : {ts before front : List Mark} {mark other : Mark} {code by : Code} → StopsAt ts before mark code
    → StopsAt ts front other by
    → (front ≡ before) × (other ≡ mark) × (by ≡ code)
one_stop {before = before} {front = front} {mark = mark} {other = other} stop another =
    one_stop_by stop another (places before front mark other stop.after another.after (sym stop.is ∙ another.is))

-- The parser accepts a source that is read, and fails in one that is refused.
outcome_of : (list : TokenList) → Decided a_program (marks list) → Outcome (marks list)
outcome_of list (read levels whole within) =
    accepts whole.forest (accepted whole.reads (subst AllWithin (sym whole.are) within))
    (λ other program. (one_reading program.reads whole.reads).0)
    (λ tree made. made.is ∙ ap tree_of (one_reading made.reads.reads whole.reads).0)
outcome_of list (refused rest code refusal) =
    let stop = stopped (text_refused list rest code refusal) in
    stops stop.before stop.mark code stop.stops (λ front other by another. one_stop stop.stops another)
    (λ forest is. is.no_stop stop.before stop.mark code stop.stops)

-- Each source has one outcome.
pub each_text : EachTextStopsOrIsAccepted
each_text list = outcome_of list (decided (marks list) a_program)
