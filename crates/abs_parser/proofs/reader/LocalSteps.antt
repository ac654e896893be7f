-- The steps of the parsing functions of local variable declarations. A type begins such a statement, and its type and
-- its name are read. The statement is found with what follows the name: perhaps "=" and a right side.
use Rattle.std.proofs.Common.{◌≡◌, ◌≤◌, ℕ, ◌+◌, true, false, List, [], ◌∷◌, Option, Some, refl, sym, ap, ◌∙◌}
use Rattle.abs_tree.specs.Names.{with_name, number_of_name, name_of}
use Rattle.abs_tree.specs.Syntax.{Name, TypeTree, Unresolved, NoSide, SomeSide, MaybeSide, DeclareOf}
use Rattle.abs_tree.specs.SyntaxViews.{type_tree, side_tree, maybe_side}
use Rattle.abs_tree.specs.declared.place.Place.{Place}
use Rattle.abs_tree.specs.declared.symbol.Symbol.{Symbol as NameSymbol}
use Rattle.abs_tree.specs.declared.syntax.statement.RightSide.{RightSide}
use Rattle.abs_tree.specs.declared.syntax.types.TypeTerm.{TypeTerm}
use Rattle.abs_lexer.specs.declared.lexeme.Lexeme.TheVariants as lexeme
use Rattle.abs_lexer.specs.declared.lexeme.Punctuator.TheVariants as punctuator
use Rattle.abs_lexer.specs.Tokens.{Lexed}
use Rattle.abs_parser.specs.TokenKinds.{TokenKind, Token, LowerName, UpperName, AbsName, StdLibName, PunctuatorKind, fits, next}
use Rattle.abs_parser.specs.Productions.{Stmt, Type', Initial, Rhs, begins, begins_within, chosen}
use Rattle.abs_parser.specs.Readings.{One, Optional, Wanted, Terminal, Subgoal, opened, Forest, Empty, Leaf, Node}
use Rattle.abs_parser.specs.ReaderAnswers.{left_at, TakesKind, FoundAs}
use Rattle.abs_parser.specs.Stops.{limit}
use Rattle.abs_parser.specs.Tokens.{Spot, place_of}
use Rattle.abs_parser.specs.TreesOf.{type_in, rhs_in, initial_in, statement_in}
use Rattle.abs_parser.proofs.reader.ExpressionSteps.{goes_on_name}
use Rattle.abs_parser.proofs.grammar.FirstPlaceLemmas.{first_place_found}
use Rattle.abs_parser.proofs.grammar.NameLemmas.{goes_on_further}
use Rattle.abs_parser.proofs.reader.FoundLemmas.{found_goes_on, symbol_kept}
use Rattle.abs_parser.proofs.reader.StepLemmas.{HasRead, opens, over_token, over_name, over_part, into_last, all_read, fits_next}
use Rattle.abs_parser.proofs.grammar.NonterminalLemmas.{begins_with_token, part_opened, optional_opened, optional_left_out}

-- What follows the name

-- "=" was read, and a right side must follow
pub initial_begins : {equals : Lexed} {from after : Spot} (depth : ℕ) (table : List (List ℕ))
    → TakesKind (lexeme.Punctuator punctuator.Assign) equals from after → depth ≤ limit
    → HasRead (Optional Initial) depth table table from
    (λ rest. Node (One Initial) (Leaf (Token equals) depth rest) Empty) (Subgoal (One Rhs) depth ∷ []) after
initial_begins {from = from} depth table equals within =
    let begun = begins_with_token Initial _ refl ∙ fits_next refl equals in
    into_last (opens (Optional Initial) depth table from _ (optional_opened Initial _ depth begun))
    (over_token (opens (One Initial) depth table from _ (part_opened Initial _ depth refl refl begun)) equals refl refl
    within)

-- the right side after "=" is found
pub initial_found : {equals : Lexed} {from after to : Spot} {depth : ℕ} {old new : List (List ℕ)} (side : RightSide)
    → TakesKind (lexeme.Punctuator punctuator.Assign) equals from after → depth ≤ limit
    → FoundAs (One Rhs) depth old new after to (λ names inside. side_tree names side ≡ rhs_in inside)
    → FoundAs (Optional Initial) depth old new from to
    (λ names inside. SomeSide (side_tree names side) ≡ initial_in inside)
initial_found {depth = depth} {old} side equals within found =
    all_read (over_part (initial_begins depth old equals within) found)
    (λ names more. ap SomeSide (found.is names more))

-- without "=" there is no right side
pub no_initial_found : (depth : ℕ) (table : List (List ℕ)) (from : Spot)
    → fits (PunctuatorKind punctuator.Assign) (next (left_at from)) ≡ false
    → FoundAs (Optional Initial) depth table table from from (λ names inside. NoSide ≡ initial_in inside)
no_initial_found depth table from other =
    all_read (opens (Optional Initial) depth table from []
    (optional_left_out Initial _ depth (begins_with_token Initial _ refl ∙ other))) (λ names more. refl)

-- The declaration of a variable

-- what follows the name of a variable
abbrev after_declared : ℕ → List Wanted
after_declared at = Subgoal (Optional Initial) at ∷ Terminal (PunctuatorKind punctuator.Semicolon) at ∷ []

-- a statement that begins with a type is the declaration of a variable
local_opened : (kind : TokenKind) (depth : ℕ) → fits UpperName kind ≡ true
    → opened (One Stmt) kind depth ≡ Some
    (Subgoal (One Type') (depth + 1) ∷ Terminal LowerName (depth + 1) ∷ after_declared (depth + 1))
unfolding begins chosen begins_within
local_opened UpperName depth fit = refl
local_opened AbsName depth fit = refl
local_opened StdLibName depth fit = refl
local_opened _ depth fit = absurd cc

-- such a declaration begins with its type
pub local_begins : (depth : ℕ) (table : List (List ℕ)) (from : Spot) → fits UpperName (next (left_at from)) ≡ true
    → HasRead (One Stmt) depth table table from (λ rest. rest)
    (Subgoal (One Type') (depth + 1) ∷ Terminal LowerName (depth + 1) ∷ after_declared (depth + 1)) from
local_begins depth table from fit = opens (One Stmt) depth table from _ (local_opened _ depth fit)

-- the type of the variable was read
pub local_typed : {from name_at : Spot} {depth : ℕ} {old now : List (List ℕ)}
    {is_read : List (List ℕ) → Forest → Type 0} → fits UpperName (next (left_at from)) ≡ true
    → (type : FoundAs (One Type') (depth + 1) old now from name_at is_read)
    → HasRead (One Stmt) depth old now from (λ rest. Node (One Type') type.inside rest)
    (Terminal LowerName (depth + 1) ∷ after_declared (depth + 1)) name_at
local_typed {from = from} {depth = depth} {old} fit type = over_part (local_begins depth old from fit) type

-- the name of the variable was read and added to the table
pub local_named : {name : Lexed} {from name_at after : Spot} {depth : ℕ} {old now table : List (List ℕ)}
    {is_read : List (List ℕ) → Forest → Type 0}
    → fits UpperName (next (left_at from)) ≡ true
    → (type : FoundAs (One Type') (depth + 1) old now from name_at is_read)
    → TakesKind lexeme.LowerName name name_at after
    → table ≡ with_name now name.bytes → depth + 1 ≤ limit
    → HasRead (One Stmt) depth old table from
    (λ rest. Node (One Type') type.inside (Leaf (Token name) (depth + 1) rest)) (after_declared (depth + 1)) after
local_named fit type name is within = over_name (local_typed fit type) name refl refl within is

-- the trees of two declarations with equal parts are equal
local_tree : {place held_place : Place} {type held_type : TypeTree} {name held_name : Name}
    {initial held_initial : MaybeSide} (index : ℕ) (name_place : Place)
    → held_place ≡ place → held_type ≡ type → held_name ≡ name → held_initial ≡ initial
    → DeclareOf index held_place held_type name_place (Unresolved held_name) held_initial
    ≡ DeclareOf index place type name_place (Unresolved name) initial
local_tree index name_place place type name initial = rw (place, type, name, initial) refl

-- a declaration is found with its type, its name and what follows the name
pub local_found : {name semicolon : Lexed} {from name_at after last_at end : Spot} {depth : ℕ}
    {old now table new : List (List ℕ)} {place : Place}
    (index : ℕ) (type_term : TypeTerm) (symbol : NameSymbol) (initial : Option RightSide)
    → fits UpperName (next (left_at from)) ≡ true → place ≡ place_of from
    → FoundAs (One Type') (depth + 1) old now from name_at (λ names inside. type_tree names type_term ≡ type_in inside)
    → TakesKind lexeme.LowerName name name_at after → symbol.0 ≡ number_of_name now name.bytes
    → table ≡ with_name now name.bytes
    → FoundAs (Optional Initial) (depth + 1) table new after last_at
    (λ names inside. maybe_side names initial ≡ initial_in inside)
    → TakesKind (lexeme.Punctuator punctuator.Semicolon) semicolon last_at end → depth + 1 ≤ limit
    → FoundAs (One Stmt) depth old new from end
    (λ names inside. DeclareOf index place (type_tree names type_term) name.place (Unresolved (name_of names symbol))
    (maybe_side names initial) ≡ statement_in index inside)
local_found {name = name} {now = now} index type_term symbol initial fit at type takes number is found semicolon within
    =
    all_read (over_token (over_part (local_named fit type takes is within) found) semicolon refl refl within)
    (λ names more.
    let since = goes_on_further (found_goes_on found) more in
    local_tree index name.place (at ∙ sym (first_place_found type))
    (type.is names (goes_on_further (goes_on_name now name.bytes is) since))
    (symbol_kept now symbol number is names since) (found.is names more))
