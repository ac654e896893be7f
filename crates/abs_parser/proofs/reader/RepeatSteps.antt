-- The step that reads one more of the parts that repeat, where something follows them. The forest of this part comes
-- before that of the further ones.
use Rattle.std.proofs.Common.{◌≡◌, ℕ, Bool, true, false, List, [], ◌∷◌, ◌++◌, Some, refl, sym, ap, ◌∙◌, fold, arith}
use Rattle.abs_tree.specs.Names.{with_name}
use Rattle.abs_parser.specs.TokenKinds.{Mark, TokenKind, PunctuatorKind, fits, next}
use Rattle.abs_parser.specs.Productions.{Nonterminal, begins}
use Rattle.abs_parser.specs.Readings.{Goal, One, Repeated, Wanted, Terminal, Subgoal, opened, Forest, Empty, Leaf, Node, Reads, Nothing, Opened, depths}
use Rattle.abs_parser.specs.ReaderAnswers.{left_at, names_before, FoundAs, IsRefused}
use Rattle.abs_parser.specs.Refusing.{AllWithin, Open}
use Rattle.abs_parser.specs.Tokens.{Spot}
use Rattle.abs_tree.specs.declared.source_error.SourceError.{SourceError}
use Rattle.abs_lexer.specs.declared.lexeme.Punctuator.{Punctuator}
use Rattle.abs_parser.proofs.grammar.AskedLemmas.{punctuator_fits}
use Rattle.abs_parser.proofs.reader.PatternSteps.{nothing_found, refused_unfit}
use Rattle.abs_parser.proofs.grammar.NonterminalLemmas.{part_shut, repeated_opened, repeated_ends}
use Rattle.abs_parser.proofs.stop.MoveLemmas.{refuses_after, within_first, within_second}
use Rattle.abs_parser.proofs.grammar.NameLemmas.{goes_on_further}
use Rattle.abs_parser.proofs.reader.FoundLemmas.{within_both, table_of_both, found_goes_on, found_few, found_shorter}
use Rattle.abs_parser.proofs.reader.StepLemmas.{HasRead, opens, over_part, refused_inside}

-- the forest of one part and of the further ones, followed by what comes after them
abbrev pub in_front : Nonterminal → Forest → Forest → Forest
in_front nonterminal inside (Node goal others after) =
    Node (Repeated nonterminal) (Node (One nonterminal) inside (Node goal others Empty)) after
in_front nonterminal inside others = Node (One nonterminal) inside others

-- the part is read, then the further ones, and then what follows them
front_reads : {nonterminal : Nonterminal} {at : ℕ} {inner left : List Wanted} {ts middle to : List Mark}
    {inside rest : Forest}
    → opened (Repeated nonterminal) (next ts) at
    ≡ Some (Subgoal (One nonterminal) at ∷ Subgoal (Repeated nonterminal) at ∷ [])
    → opened (One nonterminal) (next ts) at ≡ Some inner
    → Reads inner ts inside middle → Reads (Subgoal (Repeated nonterminal) at ∷ left) middle rest to
    → Reads (Subgoal (Repeated nonterminal) at ∷ left) ts (in_front nonterminal inside rest) to
front_reads more is reads (Opened e first after) = Opened more (Opened is reads (Opened e first Nothing)) after

-- no token is too deeply nested if none in the part and in the others is
front_within : (nonterminal : Nonterminal) (inside rest : Forest) → AllWithin (depths inside) → AllWithin (depths rest)
    → AllWithin (depths (in_front nonterminal inside rest))
front_within nonterminal inside Empty here after = within_both (depths inside) [] here after
front_within nonterminal inside (Leaf mark depth others) here after =
    within_both (depths inside) (depth ∷ depths others) here after
front_within nonterminal inside (Node goal others last) here after =
    within_both (depths inside ++ (depths others ++ [])) (depths last)
    (within_both (depths inside) (depths others ++ []) here
    (within_both (depths others) [] (within_first (depths others) (depths last) after) tt))
    (within_second (depths others) (depths last) after)

-- the names in the part come before those in the others
front_names : (nonterminal : Nonterminal) (inside rest : Forest) (names : List (List ℕ))
    → names_before (in_front nonterminal inside rest) names ≡ names_before inside (names_before rest names)
front_names nonterminal inside Empty names = refl
front_names nonterminal inside (Leaf mark depth others) names = refl
front_names nonterminal inside (Node goal others after) names = refl

-- one more of the parts that repeat was read, before what follows them
pub over_one_more : {goal : Goal} {nonterminal : Nonterminal} {depth at : ℕ} {old now new : List (List ℕ)}
    {from here after : Spot} {make : Forest → Forest} {left : List Wanted}
    {is_read : List (List ℕ) → Forest → Type 0}
    → HasRead goal depth old now from make (Subgoal (Repeated nonterminal) at ∷ left) here
    → opened (Repeated nonterminal) (next (left_at here)) at
    ≡ Some (Subgoal (One nonterminal) at ∷ Subgoal (Repeated nonterminal) at ∷ [])
    → (found : FoundAs (One nonterminal) at now new here after is_read)
    → HasRead goal depth old new from (λ rest. make (in_front nonterminal found.inside rest))
    (Subgoal (Repeated nonterminal) at ∷ left) after
over_one_more {nonterminal = nonterminal} {now = now} so more found = record {
  inner = so.inner;
  rule_is = so.rule_is;
  reads = λ rest to reads. so.reads (in_front nonterminal found.inside rest) to
      (front_reads more found.rule_is found.reads reads);
  within = λ rest others. so.within (in_front nonterminal found.inside rest)
      (front_within nonterminal found.inside rest found.within others);
  refuses = λ items to code refused.
      so.refuses items to code (Open more (Open found.rule_is (refuses_after found.reads found.within refused)));
  table = λ rest. so.table (in_front nonterminal found.inside rest)
      ∙ (ap (fold with_name now) (front_names nonterminal found.inside rest [])
      ∙ (table_of_both now found.inside (names_before rest [])
      ∙ ap (λ (names : List (List ℕ)). fold with_name names (names_before rest [])) (sym found.table)));
  goes_on = goes_on_further so.goes_on (found_goes_on found);
  few = omega (arith, so.few, found_few found);
  shorter = omega (arith, so.shorter, found_shorter found);
}

-- the next lemma, by cases of whether one more part may begin
up_to_by : (may : Bool) {goal : Goal} {nonterminal : Nonterminal} {depth at last_at : ℕ} {old now : List (List ℕ)}
    {from here : Spot} {make : Forest → Forest} {left : List Wanted} (kind : TokenKind) (error : SourceError)
    → begins nonterminal (next (left_at here)) ≡ may
    → HasRead goal depth old now from make (Subgoal (Repeated nonterminal) at ∷ Terminal kind last_at ∷ left) here
    → fits kind (next (left_at here)) ≡ false → IsRefused (Subgoal (One nonterminal) at) here error
    → IsRefused (Subgoal goal depth) from error
up_to_by true {nonterminal = nonterminal} {at = at} {now = now} {here = here} kind error e so other refused =
    refused_inside so error (refused_inside
    (opens (Repeated nonterminal) at now here _ (repeated_opened nonterminal _ at e)) error refused)
up_to_by false {nonterminal = nonterminal} {at = at} {last_at = last_at} {now = now} {here = here} kind error e so other
    refused =
    refused_inside (over_part so (nothing_found (Repeated nonterminal) at now here (repeated_ends nonterminal _ at e)))
    error
    (refused_unfit (One nonterminal) at kind last_at here error (part_shut nonterminal _ at e) other refused)

-- where the token that closes the parts is not next, what refuses one more of them refuses the whole
pub refused_up_to : {goal : Goal} {nonterminal : Nonterminal} {depth at last_at : ℕ} {old now : List (List ℕ)}
    {from here : Spot} {make : Forest → Forest} {left : List Wanted} (kind : TokenKind) (error : SourceError)
    → HasRead goal depth old now from make (Subgoal (Repeated nonterminal) at ∷ Terminal kind last_at ∷ left) here
    → fits kind (next (left_at here)) ≡ false → IsRefused (Subgoal (One nonterminal) at) here error
    → IsRefused (Subgoal goal depth) from error
refused_up_to {nonterminal = nonterminal} {here = here} kind error so other refused =
    up_to_by (begins nonterminal (next (left_at here))) kind error refl so other refused

-- if no part begins with a punctuator, none begins with a token kind that fits it
pub ends_at : (nonterminal : Nonterminal) (punctuator : Punctuator)
    → begins nonterminal (PunctuatorKind punctuator) ≡ false → (kind : TokenKind)
    → fits (PunctuatorKind punctuator) kind ≡ true → begins nonterminal kind ≡ false
ends_at nonterminal punctuator none kind fit = ap (begins nonterminal) (punctuator_fits punctuator kind fit) ∙ none

-- so where such a punctuator is next, the repetition is empty
pub none_before : (nonterminal : Nonterminal) (punctuator : Punctuator) (depth : ℕ) (table : List (List ℕ))
    (here : Spot) → begins nonterminal (PunctuatorKind punctuator) ≡ false
    → fits (PunctuatorKind punctuator) (next (left_at here)) ≡ true
    → FoundAs (Repeated nonterminal) depth table table here here (λ names inside. inside ≡ Empty)
none_before nonterminal punctuator depth table here none fit =
    nothing_found (Repeated nonterminal) depth table here
    (repeated_ends nonterminal _ depth (ends_at nonterminal punctuator none _ fit))
