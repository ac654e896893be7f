-- A part of the grammar that begins with another part is refused where that part is, whether the next token begins it
-- or not.
use Rattle.std.proofs.Common.{◌≡◌, ℕ, Bool, true, false, List, [], ◌∷◌, Some, None, refl}
use Rattle.abs_parser.specs.TokenKinds.{next}
use Rattle.abs_parser.specs.Productions.{Nonterminal, begins}
use Rattle.abs_parser.specs.Readings.{Goal, One, Wanted, Subgoal, opened}
use Rattle.abs_parser.specs.ReaderAnswers.{left_at, IsRefused}
use Rattle.abs_parser.specs.Tokens.{Spot}
use Rattle.abs_tree.specs.declared.source_error.SourceError.{SourceError}
use Rattle.abs_parser.proofs.reader.StepLemmas.{opens, refused_inside, refused_alike}
use Rattle.abs_parser.proofs.grammar.NonterminalLemmas.{part_shut}

-- the next lemma, by cases of whether the next token begins the first part
by_beginning : (may : Bool) (first : Nonterminal) (at : ℕ) (goal : Goal) (depth : ℕ) {inner : List Wanted} (from : Spot)
    (error : SourceError) → begins first (next (left_at from)) ≡ may
    → (begins first (next (left_at from)) ≡ true
    → opened goal (next (left_at from)) depth ≡ Some (Subgoal (One first) at ∷ inner))
    → (begins first (next (left_at from)) ≡ false → opened goal (next (left_at from)) depth ≡ None)
    → IsRefused (Subgoal (One first) at) from error → IsRefused (Subgoal goal depth) from error
by_beginning true first at goal depth from error e is_opened is_shut refused =
    refused_inside (opens goal depth [] from _ (is_opened e)) error refused
by_beginning false first at goal depth from error e is_opened is_shut refused =
    refused_alike (One first) at goal depth from error (part_shut first _ at e) (is_shut e) refused

-- what refuses the first part refuses a part that begins with it and with nothing else
pub refused_in_front : (first : Nonterminal) (at : ℕ) (goal : Goal) (depth : ℕ) {inner : List Wanted} (from : Spot)
    (error : SourceError)
    → (begins first (next (left_at from)) ≡ true
    → opened goal (next (left_at from)) depth ≡ Some (Subgoal (One first) at ∷ inner))
    → (begins first (next (left_at from)) ≡ false → opened goal (next (left_at from)) depth ≡ None)
    → IsRefused (Subgoal (One first) at) from error → IsRefused (Subgoal goal depth) from error
refused_in_front first at goal depth from error is_opened is_shut refused =
    by_beginning (begins first (next (left_at from))) first at goal depth from error refl is_opened is_shut refused
