-- The steps of the parsing functions of statements that begin with a variable or with `this`. After a variable or a
-- field they read `=` and a right side, or optional arguments and the rest of a right side. They also say where each
-- part is refused.
use Rattle.std.proofs.Common.{◌≡◌, ◌≤◌, ℕ, ◌+◌, Bool, true, false, ◌||◌, cond, List, [], ◌∷◌, Option, Some, None, refl, sym, ap, ◌∙◌}
use Rattle.std.proofs.lemmas.Bool.{or_parts}
use Rattle.std.specs.Prelude.{codes}
use Rattle.std.specs.Str.{bytes_eq}
use Rattle.std.specs.declared.alloc.Global.{Global}
use Rattle.std.specs.declared.vec.Vec.{Vec}
use Rattle.abs_tree.specs.Names.{with_name, number_of_name, name_of}
use Rattle.abs_tree.specs.Syntax.{Name, AssignOf, DoOf, Statement, ThisOf}
use Rattle.abs_tree.specs.SyntaxViews.{expr_tree, side_tree, target_tree}
use Rattle.abs_tree.specs.declared.place.Place.{Place}
use Rattle.abs_tree.specs.declared.symbol.Symbol as code_symbol
use Rattle.abs_tree.specs.declared.syntax.expression.Expr as code_expr
use Rattle.abs_tree.specs.declared.syntax.statement.RightSide.{RightSide}
use Rattle.abs_tree.specs.declared.syntax.statement.Target.{Target}
use Rattle.abs_lexer.specs.declared.lexeme.Keyword.TheVariants as keyword
use Rattle.abs_lexer.specs.declared.lexeme.Lexeme.{Lexeme}
use Rattle.abs_lexer.specs.declared.lexeme.Lexeme.TheVariants as lexeme
use Rattle.abs_lexer.specs.declared.lexeme.Punctuator.TheVariants as punctuator
use Rattle.abs_lexer.specs.Tokens.{Lexed}
use Rattle.abs_parser.specs.TokenKinds.{Mark, Token, TokenKind, LowerName, LocalName, KeywordKind, PunctuatorKind, place_of_mark, token_kind_of, fits, next}
use Rattle.abs_parser.specs.Firsts.{place_of_first, target_of, expr_of, after_first}
use Rattle.abs_parser.specs.Productions.{Stmt, AfterName, AfterThis, Rest, Arguments, Rhs, begins, begins_within, chosen}
use Rattle.abs_parser.specs.Readings.{Goal, One, Optional, Terminal, Subgoal, opened, Forest, Empty, Leaf, Node}
use Rattle.abs_parser.specs.ReaderAnswers.{left_at, maybe_exprs, TakesKind, FoundAs, IsRefused}
use Rattle.abs_parser.specs.Stops.{limit}
use Rattle.abs_parser.specs.Tokens.{Spot}
use Rattle.abs_parser.specs.TreesOf.{written, arguments_maybe, rhs_in, rest_in, after_variable, after_field, after_this, statement_in, statement_by}
use Rattle.abs_tree.specs.declared.source_error.SourceError.{SourceError}
use Rattle.abs_parser.specs.declared.simple_statements.First.{First}
use Rattle.abs_parser.specs.declared.simple_statements.First.TheVariants as first
use Rattle.abs_parser.proofs.reader.InFrontSteps.{refused_in_front}
use Rattle.abs_parser.proofs.grammar.NameLemmas.{goes_on_further}
use Rattle.abs_parser.proofs.reader.PatternSteps.{next_taken}
use Rattle.abs_parser.proofs.reader.RestSteps.{MayHaveRead, may_open, over_left_out, refused_left_out, refused_either_way, refused_there, has_read}
use Rattle.abs_parser.proofs.reader.FoundLemmas.{found_goes_on, symbol_kept}
use Rattle.abs_parser.proofs.reader.StepLemmas.{HasRead, opens, over_token, over_name, over_part, into_last, all_read, refused_inside, refused_alike, fits_next}
use Rattle.abs_parser.proofs.grammar.NonterminalLemmas.{part_begun, part_shut, optional_left_out}

-- The trees

-- a variable or a field, `=` and a right side are an assignment
assign_tree : (index : ℕ) (names : List Name) (start : First) (equals : Mark) (at : ℕ) (part : Goal)
    (side others : Forest)
    → after_first index names start (Leaf equals at (Node part side others))
    ≡ AssignOf index (place_of_first start) (target_of names start) (rhs_in side)
assign_tree index names (first.Variable place symbol) equals at part side others = refl
assign_tree index names (first.Field place name_place symbol) equals at part side others = refl

-- a variable or a field, with or without arguments, and the rest of a right side are a right side as a statement
do_tree : (index : ℕ) (names : List Name) (start : First) (part last : Goal) (arguments rest others : Forest)
    → after_first index names start (Node part arguments (Node last rest others))
    ≡ DoOf index (place_of_first start)
    (rest_in (place_of_first start) (expr_of names start (arguments_maybe arguments)) rest)
do_tree index names (first.Variable place symbol) part last arguments rest others = refl
do_tree index names (first.Field place name_place symbol) part last arguments rest others = refl

-- After a variable or a field

-- `=` opens `AfterName`, which follows a variable or a field
assign_opened : (depth : ℕ) → opened (One AfterName) (PunctuatorKind punctuator.Assign) depth
    ≡ Some (Terminal (PunctuatorKind punctuator.Assign) depth ∷ Subgoal (One Rhs) depth
    ∷ Terminal (PunctuatorKind punctuator.Semicolon) depth ∷ [])
unfolding begins chosen begins_within
assign_opened depth = refl

-- whether arguments or the rest of a right side may begin with this token kind
abbrev pub goes_on_by : TokenKind → Bool
goes_on_by kind = begins Arguments kind || begins Rest kind

-- such a token kind opens `AfterName`: optional arguments and the rest of a right side
rest_opened : (kind : TokenKind) (depth : ℕ) → fits (PunctuatorKind punctuator.Assign) kind ≡ false
    → goes_on_by kind ≡ true
    → opened (One AfterName) kind depth
    ≡ Some (Subgoal (Optional Arguments) (depth + 2) ∷ Subgoal (One Rest) depth ∷ [])
unfolding chosen
rest_opened kind depth no_equals may = rw (no_equals, may) refl

-- nothing else opens `AfterName`
after_shut : (kind : TokenKind) (depth : ℕ) → fits (PunctuatorKind punctuator.Assign) kind ≡ false
    → goes_on_by kind ≡ false → opened (One AfterName) kind depth ≡ None
unfolding chosen
after_shut kind depth no_equals none = rw (no_equals, none) refl

-- `=` was read
pub assign_begins : {equals : Lexed} {from side_at : Spot} (depth : ℕ) (table : List (List ℕ))
    → TakesKind (lexeme.Punctuator punctuator.Assign) equals from side_at → depth ≤ limit
    → HasRead (One AfterName) depth table table from (λ rest. Leaf (Token equals) depth rest)
    (Subgoal (One Rhs) depth ∷ Terminal (PunctuatorKind punctuator.Semicolon) depth ∷ []) side_at
assign_begins {from = from} depth table equals within =
    over_token (opens (One AfterName) depth table from _
    (ap (λ (k : TokenKind). opened (One AfterName) k depth) (next_taken equals) ∙ assign_opened depth)) equals refl refl
    within

-- an assignment to a variable or a field is found
pub assign_found : {equals semicolon : Lexed} {from side_at last end : Spot} {depth : ℕ} {old new : List (List ℕ)}
    (index : ℕ) (start : First) (place : Place) (target : Target)
    (side : RightSide) → place ≡ place_of_first start
    → ((names : List Name) → target_tree names target ≡ target_of names start)
    → TakesKind (lexeme.Punctuator punctuator.Assign) equals from side_at
    → FoundAs (One Rhs) depth old new side_at last (λ names inside. side_tree names side ≡ rhs_in inside)
    → TakesKind (lexeme.Punctuator punctuator.Semicolon) semicolon last end → depth ≤ limit
    → FoundAs (One AfterName) depth old new from end
    (λ names inside. AssignOf index place (target_tree names target) (side_tree names side)
    ≡ after_first index names start inside)
assign_found {equals} {semicolon} {depth = depth} {old} index start place target side at goes_to assigns found ends
    within =
    all_read (over_token {kind = lexeme.Punctuator punctuator.Semicolon}
    (over_part (assign_begins depth old assigns within) found) ends refl refl within) (λ names more.
    rw (at, goes_to names, found.is names more)
    (sym (assign_tree index names start (Token equals) depth (One Rhs) found.inside
    (Leaf (Token semicolon) depth Empty))))

-- where `=` is not next, `AfterName` begins with optional arguments
pub after_begins : (depth : ℕ) (table : List (List ℕ)) (from : Spot)
    → fits (PunctuatorKind punctuator.Assign) (next (left_at from)) ≡ false
    → MayHaveRead (goes_on_by (next (left_at from))) (One AfterName) depth table table from (λ rest. rest)
    (Subgoal (Optional Arguments) (depth + 2) ∷ Subgoal (One Rest) depth ∷ []) from
after_begins depth table from no_equals = may_open (One AfterName) depth table from _ (rest_opened _ depth no_equals)

-- where neither arguments nor the rest of a right side may begin, the arguments are left out
no_arguments : (kind : TokenKind) (depth : ℕ) → goes_on_by kind ≡ false
    → opened (Optional Arguments) kind depth ≡ Some []
no_arguments kind depth none = optional_left_out Arguments kind depth (or_parts _ _ none).0

-- where `=` is not next, `AfterName` is refused where the arguments are
pub arguments_refused : (depth : ℕ) (from : Spot) (error : SourceError)
    → fits (PunctuatorKind punctuator.Assign) (next (left_at from)) ≡ false
    → IsRefused (Subgoal (Optional Arguments) (depth + 2)) from error
    → IsRefused (Subgoal (One AfterName) depth) from error
arguments_refused depth from error no_equals refused =
    refused_left_out (after_begins depth [] from no_equals) (no_arguments _ (depth + 2)) error refused

-- the optional arguments were read
over_arguments : {from after : Spot} {depth : ℕ} {old now : List (List ℕ)} {is_read : List (List ℕ) → Forest → Type 0}
    → fits (PunctuatorKind punctuator.Assign) (next (left_at from)) ≡ false
    → (found : FoundAs (Optional Arguments) (depth + 2) old now from after is_read)
    → MayHaveRead (goes_on_by (next (left_at from))) (One AfterName) depth old now from
    (λ rest. Node (Optional Arguments) found.inside rest)
    (Subgoal (One Rest) depth ∷ []) after
over_arguments {from} {depth = depth} {old} no_equals found =
    over_left_out (after_begins depth old from no_equals) (no_arguments _ (depth + 2)) found

-- `AfterName` is refused where the rest after the arguments is
pub rest_refused : {from after : Spot} {old now : List (List ℕ)} {is_read : List (List ℕ) → Forest → Type 0} (depth : ℕ)
    (error : SourceError)
    → fits (PunctuatorKind punctuator.Assign) (next (left_at from)) ≡ false
    → FoundAs (Optional Arguments) (depth + 2) old now from after is_read
    → IsRefused (Subgoal (One Rest) depth) after error → IsRefused (Subgoal (One AfterName) depth) from error
rest_refused {from} depth error no_equals found refused =
    refused_either_way (over_arguments no_equals found) error refused (λ none same.
    refused_alike (One Rest) depth (One AfterName) depth from error (part_shut Rest _ depth (or_parts _ _ none).1)
    (after_shut _ depth no_equals none)
    (refused_there (Subgoal (One Rest) depth) _ from error same refused))

-- a right side that begins with a variable or a field is found
pub side_found : {from after to : Spot} {depth : ℕ} {old now new : List (List ℕ)} (index : ℕ) (start : First)
    (place : Place) (given : Option (Vec code_expr.Expr Global))
    (expr : code_expr.Expr) (side : RightSide) → fits (PunctuatorKind punctuator.Assign) (next (left_at from)) ≡ false
    → place ≡ place_of_first start
    → ((names : List Name) → expr_tree names expr ≡ expr_of names start (maybe_exprs names given))
    → FoundAs (Optional Arguments) (depth + 2) old now from after
    (λ names inside. maybe_exprs names given ≡ arguments_maybe inside)
    → FoundAs (One Rest) depth now new after to
    (λ names inside. side_tree names side ≡ rest_in place (expr_tree names expr) inside)
    → FoundAs (One AfterName) depth old new from to
    (λ names inside. DoOf index place (side_tree names side) ≡ after_first index names start inside)
side_found {from} {depth = depth} index start place given expr side no_equals at is arguments rest =
    let begun = part_begun Rest _ depth rest.rule_is in
    let so = has_read (over_arguments no_equals arguments) (λ none same.
    let nothing = or_parts (begins Arguments (next (left_at from))) (begins Rest (next (left_at from))) none in
    let no_rest = nothing.1 in
    let here = ap (λ (ts : List Mark). begins Rest (next ts)) same in
    cc) in
    all_read (over_part so rest) (λ names more.
    rw (rest.is names more, is names, arguments.is names (goes_on_further (found_goes_on rest) more), at)
    (sym (do_tree index names start (Optional Arguments) (One Rest) arguments.inside rest.inside Empty)))

-- Statements that begin with a variable

-- a lower-case name opens a statement
variable_opened : (kind : TokenKind) (depth : ℕ) → fits LowerName kind ≡ true
    → opened (One Stmt) kind depth ≡ Some
    (Terminal LowerName (depth + 1 + 2) ∷ Subgoal (One AfterName) (depth + 1) ∷ [])
unfolding begins chosen begins_within
variable_opened LowerName depth fit = refl
variable_opened LocalName depth fit = refl
variable_opened _ depth fit = absurd cc

-- what refuses this name refuses the statement
pub variable_refused : (depth : ℕ) (from : Spot) (error : SourceError) → fits LowerName (next (left_at from)) ≡ true
    → IsRefused (Terminal LowerName (depth + 1 + 2)) from error
    → IsRefused (Subgoal (One Stmt) depth) from error
variable_refused depth from error fit refused =
    refused_inside (opens (One Stmt) depth [] from _ (variable_opened _ depth fit)) error refused

-- the name was read and added to the table
pub variable_begins : {name : Lexed} {from after : Spot} {names : List (List ℕ)} (depth : ℕ) (table : List (List ℕ))
    → TakesKind lexeme.LowerName name from after
    → depth + 1 + 2 ≤ limit → names ≡ with_name table name.bytes
    → HasRead (One Stmt) depth table names from (λ rest. Leaf (Token name) (depth + 1 + 2) rest)
    (Subgoal (One AfterName) (depth + 1) ∷ []) after
variable_begins {from = from} depth table name within is =
    over_name (opens (One Stmt) depth table from _
    (variable_opened _ depth (fits_next {kind = lexeme.LowerName} refl name))) name refl refl within is

-- a lower-case name begins a statement as a variable, whether it is `local` or not
variable_by : (index : ℕ) (is_local : Bool) (mark : Mark) (part : Goal) (after others : Forest)
    → statement_by index (cond is_local LocalName LowerName) mark (Node part after others)
    ≡ after_variable index (place_of_mark mark) (written mark) after
variable_by index true mark part after others = refl
variable_by index false mark part after others = refl

-- so a statement that begins with a lower-case name begins with a variable
variable_tree : (index : ℕ) (name : Lexed) (at : ℕ) (part : Goal) (after others : Forest) → name.kind ≡ lexeme.LowerName
    → statement_in index (Leaf (Token name) at (Node part after others))
    ≡ after_variable index name.place name.bytes after
variable_tree index name at part after others is =
    ap (λ (kind : Lexeme). statement_by index (token_kind_of kind name.bytes) (Token name) (Node part after others)) is
    ∙ variable_by index (bytes_eq name.bytes (codes "local")) (Token name) part after others

-- a statement is found with its variable and what follows it
pub variable_found : {name : Lexed} {from after to : Spot} {depth : ℕ} {now new : List (List ℕ)} (index : ℕ)
    (old : List (List ℕ)) (symbol : code_symbol.Symbol) (tree : List Name → Statement)
    → TakesKind lexeme.LowerName name from after → depth + 1 + 2 ≤ limit → symbol.0 ≡ number_of_name old name.bytes
    → now ≡ with_name old name.bytes
    → FoundAs (One AfterName) (depth + 1) now new after to
    (λ names inside. tree names ≡ after_variable index name.place (name_of names symbol) inside)
    → FoundAs (One Stmt) depth old new from to (λ names inside. tree names ≡ statement_in index inside)
variable_found {name} {depth = depth} index old symbol tree takes within number is found =
    all_read (over_part (variable_begins depth old takes within is) found) (λ names more.
    found.is names more
    ∙ (ap (λ (called : Name). after_variable index name.place called found.inside)
    (symbol_kept old symbol number is names (goes_on_further (found_goes_on found) more))
    ∙ sym (variable_tree index name (depth + 1 + 2) (One AfterName) found.inside Empty takes.kind_is)))

-- Statements that begin with `this`

-- `this` opens a statement
pub this_opened : (depth : ℕ) → opened (One Stmt) (KeywordKind keyword.This) depth
    ≡ Some (Terminal (KeywordKind keyword.This) (depth + 1 + 2) ∷ Subgoal (One AfterThis) (depth + 1) ∷ [])
unfolding begins chosen begins_within
this_opened depth = refl

-- `this` was read
pub this_begins : {this : Lexed} {from after : Spot} (depth : ℕ) (table : List (List ℕ))
    → TakesKind (lexeme.Keyword keyword.This) this from after → depth + 1 + 2 ≤ limit
    → HasRead (One Stmt) depth table table from (λ rest. Leaf (Token this) (depth + 1 + 2) rest)
    (Subgoal (One AfterThis) (depth + 1) ∷ []) after
this_begins {from = from} depth table this within =
    over_token {kind = lexeme.Keyword keyword.This}
    (opens (One Stmt) depth table from _
    (ap (λ (k : TokenKind). opened (One Stmt) k depth) (next_taken this) ∙ this_opened depth)) this refl refl within

-- a dot opens `AfterThis`, which follows `this`
dot_opened : (depth : ℕ)
    → opened (One AfterThis) (PunctuatorKind punctuator.Dot) depth
    ≡ Some (Terminal (PunctuatorKind punctuator.Dot) (depth + 2) ∷ Terminal LowerName (depth + 2)
    ∷ Subgoal (One AfterName) depth ∷ [])
unfolding begins chosen begins_within
dot_opened depth = refl

-- the rest of a right side opens it, too
alone_opened : (kind : TokenKind) (depth : ℕ) → fits (PunctuatorKind punctuator.Dot) kind ≡ false
    → begins Rest kind ≡ true
    → opened (One AfterThis) kind depth ≡ Some (Subgoal (One Rest) depth ∷ [])
unfolding chosen
alone_opened kind depth no_dot may = rw (no_dot, may) refl

-- nothing else opens it
alone_shut : (kind : TokenKind) (depth : ℕ) → fits (PunctuatorKind punctuator.Dot) kind ≡ false
    → begins Rest kind ≡ false → opened (One AfterThis) kind depth ≡ None
unfolding chosen
alone_shut kind depth no_dot none = rw (no_dot, none) refl

-- the tree of a statement that begins with `this` is given by what follows `this`
this_tree : (index : ℕ) (this : Lexed) (at : ℕ) (part : Goal) (after others : Forest)
    → this.kind ≡ lexeme.Keyword keyword.This
    → statement_in index (Leaf (Token this) at (Node part after others)) ≡ after_this index this.place after
this_tree index this at part after others is =
    ap (λ (kind : Lexeme). statement_by index (token_kind_of kind this.bytes) (Token this) (Node part after others)) is

-- where no dot follows `this`, the statement is refused where the rest of the right side is
pub alone_refused : {this : Lexed} {from after : Spot} (depth : ℕ) (error : SourceError)
    → TakesKind (lexeme.Keyword keyword.This) this from after → depth + 1 + 2 ≤ limit
    → fits (PunctuatorKind punctuator.Dot) (next (left_at after)) ≡ false
    → IsRefused (Subgoal (One Rest) (depth + 1)) after error → IsRefused (Subgoal (One Stmt) depth) from error
alone_refused {after = after} depth error this within no_dot refused =
    refused_inside (this_begins depth [] this within) error
    (refused_in_front Rest (depth + 1) (One AfterThis) (depth + 1) after error (alone_opened _ (depth + 1) no_dot)
    (alone_shut _ (depth + 1) no_dot) refused)

-- where no dot follows `this`, the statement is found with the rest of the right side
pub alone_found : {this : Lexed} {from after to : Spot} {depth : ℕ} {old new : List (List ℕ)} (index : ℕ)
    (place : Place) (start : code_expr.Expr) (side : RightSide)
    → TakesKind (lexeme.Keyword keyword.This) this from after → depth + 1 + 2 ≤ limit
    → fits (PunctuatorKind punctuator.Dot) (next (left_at after)) ≡ false → place ≡ this.place
    → ((names : List Name) → expr_tree names start ≡ ThisOf place)
    → FoundAs (One Rest) (depth + 1) old new after to
    (λ names inside. side_tree names side ≡ rest_in place (expr_tree names start) inside)
    → FoundAs (One Stmt) depth old new from to
    (λ names inside. DoOf index place (side_tree names side) ≡ statement_in index inside)
alone_found {this} {after = after} {depth = depth} {old} index place start side takes within no_dot at is rest =
    all_read (into_last (this_begins depth old takes within)
    (over_part (opens (One AfterThis) (depth + 1) old after _
    (alone_opened _ (depth + 1) no_dot (part_begun Rest _ (depth + 1) rest.rule_is))) rest)) (λ names more.
    rw (rest.is names more, is names, at)
    (sym (this_tree index this (depth + 1 + 2) (One AfterThis) (Node (One Rest) rest.inside Empty) Empty
    takes.kind_is)))

-- `this` and a dot were read, and a name must follow
pub field_begins : {this dot : Lexed} {from after name_at : Spot} (depth : ℕ) (table : List (List ℕ))
    → TakesKind (lexeme.Keyword keyword.This) this from after
    → TakesKind (lexeme.Punctuator punctuator.Dot) dot after name_at → depth + 1 + 2 ≤ limit
    → HasRead (One Stmt) depth table table from
    (λ rest. Leaf (Token this) (depth + 1 + 2) (Node (One AfterThis) (Leaf (Token dot) (depth + 1 + 2) rest) Empty))
    (Terminal LowerName (depth + 1 + 2) ∷ Subgoal (One AfterName) (depth + 1) ∷ []) name_at
field_begins {after = after} depth table this dot within =
    into_last (this_begins depth table this within)
    (over_token {kind = lexeme.Punctuator punctuator.Dot}
    (opens (One AfterThis) (depth + 1) table after _
    (ap (λ (k : TokenKind). opened (One AfterThis) k (depth + 1)) (next_taken dot) ∙ dot_opened (depth + 1))) dot refl
    refl within)

-- the name after the dot was read and added to the table
pub field_named : {this dot name : Lexed} {from after name_at last : Spot} {names : List (List ℕ)} (depth : ℕ)
    (table : List (List ℕ))
    → TakesKind (lexeme.Keyword keyword.This) this from after
    → TakesKind (lexeme.Punctuator punctuator.Dot) dot after name_at → TakesKind lexeme.LowerName name name_at last
    → depth + 1 + 2 ≤ limit → names ≡ with_name table name.bytes
    → HasRead (One Stmt) depth table names from
    (λ rest. Leaf (Token this) (depth + 1 + 2)
    (Node (One AfterThis) (Leaf (Token dot) (depth + 1 + 2) (Leaf (Token name) (depth + 1 + 2) rest)) Empty))
    (Subgoal (One AfterName) (depth + 1) ∷ []) last
field_named depth table this dot name within is =
    over_name {kind = lexeme.LowerName} (field_begins depth table this dot within) name refl refl within is

-- a statement is found with its field and what follows it
pub field_found : {this dot name : Lexed} {from after name_at last to : Spot} {depth : ℕ} {now new : List (List ℕ)}
    (index : ℕ) (old : List (List ℕ)) (symbol : code_symbol.Symbol)
    (tree : List Name → Statement) → TakesKind (lexeme.Keyword keyword.This) this from after
    → TakesKind (lexeme.Punctuator punctuator.Dot) dot after name_at
    → TakesKind lexeme.LowerName name name_at last → depth + 1 + 2 ≤ limit → symbol.0 ≡ number_of_name old name.bytes
    → now ≡ with_name old name.bytes
    → FoundAs (One AfterName) (depth + 1) now new last to
    (λ names inside. tree names ≡ after_field index this.place name.place (name_of names symbol) inside)
    → FoundAs (One Stmt) depth old new from to (λ names inside. tree names ≡ statement_in index inside)
field_found {this} {dot} {name} {depth = depth} index old symbol tree takes dotted named within number is found =
    all_read (over_part (field_named depth old takes dotted named within is) found) (λ names more.
    found.is names more
    ∙ (ap (λ (called : Name). after_field index this.place name.place called found.inside)
    (symbol_kept old symbol number is names (goes_on_further (found_goes_on found) more))
    ∙ sym (this_tree index this (depth + 1 + 2) (One AfterThis)
    (Leaf (Token dot) (depth + 1 + 2) (Leaf (Token name) (depth + 1 + 2) (Node (One AfterName) found.inside Empty)))
    Empty
    takes.kind_is)))
