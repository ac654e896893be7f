-- The lemmas for the parsing function that climbs operators. Where no operator follows an operand, each precedence has
-- none. What refuses a precedence refuses each one that binds less. An expression of a precedence is an operand of the
-- next one, and so an operand with the operators of several precedences is an expression of the last one.
use denote.Enum.Bare.{sameb, same_true}
use Rattle.std.proofs.Common.{◌≡◌, ◌≤◌, ◌+◌, ℕ, true, false, List, length, refl, subst, arith}
use Rattle.abs_tree.specs.SyntaxViews.{expr_tree}
use Rattle.abs_tree.specs.declared.place.Place.{Place}
use Rattle.abs_tree.specs.declared.syntax.expression.Expr.{Expr}
use Rattle.abs_tree.specs.declared.syntax.expression.Operator.{Operator}
use Rattle.abs_tree.specs.declared.source_error.SourceError.{SourceError}
use Rattle.abs_parser.specs.TokenKinds.{PunctuatorKind, fits, next}
use Rattle.abs_parser.specs.Precedences.{rank, looser, nonterminal_of, operand_nonterminal, precedence_in, operand_in, punctuator_of}
use Rattle.abs_parser.specs.Productions.{Unary}
use Rattle.abs_parser.specs.Readings.{One, Subgoal, Forest}
use Rattle.abs_parser.specs.Climbing.{FoundAfter, Climbs, Last, Further, FailsToClimb, Here, Later}
use Rattle.abs_parser.specs.ReaderAnswers.{left_at, FoundAs, IsRefused}
use Rattle.abs_parser.specs.Tokens.{Spot, place_of}
use Rattle.abs_parser.specs.declared.operators.Precedence.{Precedence}
use Rattle.abs_parser.specs.declared.operators.Precedence.TheVariants as precedence
use Rattle.abs_parser.specs.contracts.operators.Precedence.{the_type}
use Rattle.abs_parser.proofs.grammar.OperatorLemmas.{no_operators, first_operand_read, first_operand_refused, precedence_found}
use Rattle.abs_parser.proofs.reader.FoundLemmas.{found_few}
use Rattle.abs_parser.proofs.reader.StepLemmas.{refused_inside}

-- this operand of a precedence was read
abbrev pub IsOperand : Precedence → Expr → List (List ℕ) → Forest → Type 0
IsOperand precedence expr names inside = expr_tree names expr ≡ operand_in precedence inside

-- this expression of a precedence was read
abbrev pub IsPrecedence : Precedence → Expr → List (List ℕ) → Forest → Type 0
IsPrecedence precedence expr names inside = expr_tree names expr ≡ precedence_in precedence inside

-- the next token is no operator
abbrev pub NoOperatorAt : Spot → Type 0
NoOperatorAt spot = (operator : Operator) → fits (PunctuatorKind (punctuator_of operator)) (next (left_at spot)) ≡ false

-- Induction: a property of a precedence holds of each one that binds as much or more, if it passes from each one to the
-- one before it

or_holds : (P : Precedence → Type 0) → (to : Precedence) → P to → rank precedence.Or ≤ rank to → P precedence.Or
or_holds P precedence.Or last order = last
or_holds P _ last order = absurd (omega (arith, order))

and_holds : (P : Precedence → Type 0) → (to : Precedence) → P to
    → ((at : Precedence) → (at ≡ to → ⊥) → P (looser at) → P at) → rank precedence.And ≤ rank to → P precedence.And
and_holds P precedence.And last before order = last
and_holds P to last before order =
    before precedence.And (λ is. absurd cc) (or_holds P to last (omega (arith, order)))

equal_holds : (P : Precedence → Type 0) → (to : Precedence) → P to
    → ((at : Precedence) → (at ≡ to → ⊥) → P (looser at) → P at) → rank precedence.Equal ≤ rank to → P precedence.Equal
equal_holds P precedence.Equal last before order = last
equal_holds P to last before order =
    before precedence.Equal (λ is. absurd cc) (and_holds P to last before (omega (arith, order)))

compare_holds : (P : Precedence → Type 0) → (to : Precedence) → P to
    → ((at : Precedence) → (at ≡ to → ⊥) → P (looser at) → P at) → rank precedence.Compare ≤ rank to
    → P precedence.Compare
compare_holds P precedence.Compare last before order = last
compare_holds P to last before order =
    before precedence.Compare (λ is. absurd cc) (equal_holds P to last before (omega (arith, order)))

sum_holds : (P : Precedence → Type 0) → (to : Precedence) → P to
    → ((at : Precedence) → (at ≡ to → ⊥) → P (looser at) → P at) → rank precedence.Sum ≤ rank to → P precedence.Sum
sum_holds P precedence.Sum last before order = last
sum_holds P to last before order =
    before precedence.Sum (λ is. absurd cc) (compare_holds P to last before (omega (arith, order)))

mul_holds : (P : Precedence → Type 0) → (to : Precedence) → P to
    → ((at : Precedence) → (at ≡ to → ⊥) → P (looser at) → P at) → rank precedence.Mul ≤ rank to → P precedence.Mul
mul_holds P precedence.Mul last before order = last
mul_holds P to last before order =
    before precedence.Mul (λ is. absurd cc) (sum_holds P to last before (omega (arith, order)))

each_holds : (P : Precedence → Type 0) → (to : Precedence) → P to
    → ((at : Precedence) → (at ≡ to → ⊥) → P (looser at) → P at) → (at : Precedence) → rank at ≤ rank to → P at
each_holds P to last before precedence.Or order = or_holds P to last order
each_holds P to last before precedence.And order = and_holds P to last before order
each_holds P to last before precedence.Equal order = equal_holds P to last before order
each_holds P to last before precedence.Compare order = compare_holds P to last before order
each_holds P to last before precedence.Sum order = sum_holds P to last before order
each_holds P to last before precedence.Mul order = mul_holds P to last before order

-- What refuses a precedence refuses each one that binds less

refused_next : (depth : ℕ) (from : Spot) (error : SourceError) (at : Precedence)
    → IsRefused (Subgoal (One (nonterminal_of at)) depth) from error
    → IsRefused (Subgoal (One (nonterminal_of (looser at))) depth) from error
refused_next depth from error precedence.Or refused = refused
refused_next depth from error precedence.And refused = first_operand_refused precedence.Or depth from error refused
refused_next depth from error precedence.Equal refused = first_operand_refused precedence.And depth from error refused
refused_next depth from error precedence.Compare refused =
    first_operand_refused precedence.Equal depth from error refused
refused_next depth from error precedence.Sum refused = first_operand_refused precedence.Compare depth from error refused
refused_next depth from error precedence.Mul refused = first_operand_refused precedence.Sum depth from error refused

-- what refuses a precedence refuses each one that binds as much or less
pub precedence_refused : (at to : Precedence) (depth : ℕ) (from : Spot) (error : SourceError) → rank at ≤ rank to
    → IsRefused (Subgoal (One (nonterminal_of at)) depth) from error
    → IsRefused (Subgoal (One (nonterminal_of to)) depth) from error
precedence_refused at to depth from error order refused =
    each_holds (λ precedence. IsRefused (Subgoal (One (nonterminal_of precedence)) depth) from error
    → IsRefused (Subgoal (One (nonterminal_of to)) depth) from error) to (λ same. same)
    (λ precedence other passes before. passes (refused_next depth from error precedence before)) at order refused

-- what refuses a unary refuses each precedence that begins with it
pub unary_refused : (precedence : Precedence) (depth : ℕ) (from : Spot) (error : SourceError)
    → IsRefused (Subgoal (One Unary) depth) from error
    → IsRefused (Subgoal (One (nonterminal_of precedence)) depth) from error
unary_refused to depth from error refused =
    precedence_refused precedence.Mul to depth from error (omega arith)
    (first_operand_refused precedence.Mul depth from error refused)

-- Where no operator follows an operand, those of each precedence are found, and there are none.
pub nothing_follows : {depth : ℕ} {table : List (List ℕ)} {here : Spot} (at to : Precedence) (place : Place)
    (first : Expr) → rank at ≤ rank to → NoOperatorAt here → Climbs at to depth table table place first first here here
nothing_follows {depth} {table} {here} at to place first order none =
    each_holds (λ precedence. Climbs precedence to depth table table place first first here here) to
    (Last refl (no_operators to place first (λ operator is. none operator)))
    (λ precedence other climbs.
    Further other (no_operators precedence place first (λ operator is. none operator)) climbs) at order

-- From one precedence to the next

-- two precedences that compare as equal are equal
pub same_precedence : (at to : Precedence) → sameb the_type at to ≡ true → at ≡ to
same_precedence at to same = same_true the_type tt at to same

-- a precedence compares as equal to itself
equal_to_itself : (at : Precedence) → sameb the_type at at ≡ true
equal_to_itself precedence.Or = refl
equal_to_itself precedence.And = refl
equal_to_itself precedence.Equal = refl
equal_to_itself precedence.Compare = refl
equal_to_itself precedence.Sum = refl
equal_to_itself precedence.Mul = refl

-- so two precedences that compare as different are different
pub other_precedence : (at to : Precedence) → sameb the_type at to ≡ false → (at ≡ to → ⊥)
other_precedence at to other is =
    let same = equal_to_itself at in
    absurd cc

-- an expression of a precedence is one of the last precedence, if the two are equal
pub last_precedence : {depth : ℕ} {old now : List (List ℕ)} {from here : Spot} {at to : Precedence} (expr : Expr)
    → at ≡ to
    → FoundAs (One (nonterminal_of at)) depth old now from here (IsPrecedence at expr)
    → FoundAs (One (nonterminal_of to)) depth old now from here (IsPrecedence to expr)
last_precedence expr is found = rw (← is) found

-- after a precedence that is not the last, the next one binds no less than the last
pub next_order : (at to : Precedence) → rank at ≤ rank to → (at ≡ to → ⊥) → rank (looser at) ≤ rank to
next_order precedence.Mul precedence.Mul order other = absurd (other refl)
next_order precedence.Sum precedence.Sum order other = absurd (other refl)
next_order precedence.Compare precedence.Compare order other = absurd (other refl)
next_order precedence.Equal precedence.Equal order other = absurd (other refl)
next_order precedence.And precedence.And order other = absurd (other refl)
next_order precedence.Or precedence.Or order other = absurd (other refl)
next_order precedence.Mul _ order other = omega (arith, order)
next_order precedence.Sum _ order other = omega (arith, order)
next_order precedence.Compare _ order other = omega (arith, order)
next_order precedence.Equal _ order other = omega (arith, order)
next_order precedence.And _ order other = omega (arith, order)
next_order precedence.Or _ order other = omega (arith, order)

-- an expression of a precedence that is not the last is an operand of the next one
pub next_operand : {depth : ℕ} {old now : List (List ℕ)} {from here : Spot} (at to : Precedence) (expr : Expr)
    → rank at ≤ rank to → (at ≡ to → ⊥)
    → FoundAs (One (nonterminal_of at)) depth old now from here (IsPrecedence at expr)
    → FoundAs (One (operand_nonterminal (looser at))) depth old now from here (IsOperand (looser at) expr)
next_operand precedence.Mul to expr order other found = found
next_operand precedence.Sum to expr order other found = found
next_operand precedence.Compare to expr order other found = found
next_operand precedence.Equal to expr order other found = found
next_operand precedence.And to expr order other found = found
next_operand precedence.Or precedence.Or expr order other found = absurd (other refl)
next_operand precedence.Or _ expr order other found = absurd (omega (arith, order))

-- Operators of several precedences

-- an operand with the operators of each precedence up to another is an expression of the other
pub climb_found : {depth : ℕ} {older old new : List (List ℕ)} {begin from end : Spot} (at to : Precedence)
    (place : Place) (first expr : Expr) → rank at ≤ rank to → place ≡ place_of begin
    → FoundAs (One (operand_nonterminal at)) depth older old begin from (IsOperand at first)
    → Climbs at to depth old new place first expr from end
    → FoundAs (One (nonterminal_of to)) depth older new begin end (IsPrecedence to expr)
climb_found at to place first expr order begins found (Last same after) =
    last_precedence expr same (precedence_found at place first expr found begins after)
climb_found at to place first expr order begins found (Further {left = left} other after climbs) =
    let here = precedence_found at place first left found begins after in
    climb_found (looser at) to place left expr (next_order at to order other) begins
    (next_operand at to left order other here) climbs

-- what refuses the operators of a precedence up to another refuses the other, which begins with their first operand
pub climb_refused : {depth : ℕ} {older old : List (List ℕ)} {begin from : Spot} (at to : Precedence) (place : Place)
    (first : Expr) (error : SourceError) → rank at ≤ rank to → place ≡ place_of begin
    → FoundAs (One (operand_nonterminal at)) depth older old begin from (IsOperand at first)
    → FailsToClimb at to depth old place first from error
    → IsRefused (Subgoal (One (nonterminal_of to)) depth) begin error
climb_refused {depth} {begin = begin} at to place first error order begins found (Here refused) =
    precedence_refused at to depth begin error order (refused_inside (first_operand_read at found) error refused)
climb_refused at to place first error order begins found (Later {left = left} other after fails) =
    let here = precedence_found at place first left found begins after in
    climb_refused (looser at) to place left error (next_order at to order other) begins
    (next_operand at to left order other here) fails

-- operators of several precedences that were found add no more names to the table than they take tokens
pub climb_few : {at to : Precedence} {depth : ℕ} {old new : List (List ℕ)} {from end : Spot} {place : Place}
    {first expr : Expr} → Climbs at to depth old new place first expr from end
    → length new + length end.rest ≤ length old + length from.rest
climb_few (Last same after) = found_few after
climb_few (Further other after climbs) = omega (arith, found_few after, climb_few climbs)

-- the operators of a precedence were found, and then those of the next one up to the last
pub found_further : {at next to : Precedence} {depth : ℕ} {old now new : List (List ℕ)} {place : Place}
    {first left expr : Expr} {from here end : Spot} → next ≡ looser at → (at ≡ to → ⊥)
    → FoundAfter at depth old now place first left from here
    → Climbs next to depth now new place left expr here end → Climbs at to depth old new place first expr from end
found_further {to = to} {depth} {now = now} {new} {place} {left = left} {expr} {here = here} {end} is other after climbs =
    Further other after
    (subst (λ (p : Precedence). Climbs p to depth now new place left expr here end) is climbs)

-- the operators of a precedence were found, and those of a later one are refused
pub refused_later : {at next to : Precedence} {depth : ℕ} {old now : List (List ℕ)} {place : Place}
    {first left : Expr} {from here : Spot} {error : SourceError} → next ≡ looser at → (at ≡ to → ⊥)
    → FoundAfter at depth old now place first left from here
    → FailsToClimb next to depth now place left here error → FailsToClimb at to depth old place first from error
refused_later {to = to} {depth} {now = now} {place} {left = left} {here = here} {error} is other after fails =
    Later other after (subst (λ (p : Precedence). FailsToClimb p to depth now place left here error) is fails)
