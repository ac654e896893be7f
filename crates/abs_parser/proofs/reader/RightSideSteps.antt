-- The steps of the parsing functions of right sides. A punctuator says what follows an expression, and the token after
-- a dot says what follows the dot. After `new`, `cog` or `local` may say where the object is to live. An expression is
-- found with what follows it.
use Rattle.std.proofs.Common.{◌≡◌, ◌≤◌, ℕ, true, false, List, [], ◌∷◌, Some, None, refl, sym, ap, ◌∙◌}
use Rattle.std.specs.declared.alloc.Global.{Global}
use Rattle.std.specs.declared.vec.Vec.{Vec}
use Rattle.abs_tree.specs.Names.{with_name, number_of_name, name_of}
use Rattle.abs_tree.specs.Syntax.{Name, ExprTree, ExprTrees, SideTree, ValueOf, GetOf}
use Rattle.abs_tree.specs.SyntaxViews.{expr_tree, expr_trees, side_tree}
use Rattle.abs_tree.specs.declared.place.Place.{Place}
use Rattle.abs_tree.specs.declared.symbol.Symbol as code_symbol
use Rattle.abs_tree.specs.declared.syntax.expression.Expr as code_expr
use Rattle.abs_tree.specs.declared.syntax.statement.Mode.{Mode}
use Rattle.abs_tree.specs.declared.syntax.statement.Mode.TheVariants as mode
use Rattle.abs_tree.specs.declared.syntax.statement.RightSide.{RightSide}
use Rattle.abs_lexer.specs.declared.lexeme.Keyword.TheVariants as keyword
use Rattle.abs_lexer.specs.declared.lexeme.Lexeme.TheVariants as lexeme
use Rattle.abs_lexer.specs.declared.lexeme.Punctuator.TheVariants as punctuator
use Rattle.abs_lexer.specs.Tokens.{Lexed}
use Rattle.abs_parser.specs.TokenKinds.{Token, TokenKind, LowerName, LocalName, UpperName, KeywordKind, PunctuatorKind, token_kind_of, fits, next}
use Rattle.abs_parser.specs.Productions.{Nonterminal, Rhs, RhsTail, Selected, Where, Arguments, Expr, begins, begins_within, chosen}
use Rattle.abs_parser.specs.Readings.{Goal, One, Optional, Wanted, Terminal, Subgoal, opened, Forest, Empty, Leaf, Node}
use Rattle.abs_parser.specs.ReaderAnswers.{left_at, TakesKind, TakesFixed, FoundAs, IsRefused}
use Rattle.abs_parser.specs.Stops.{limit}
use Rattle.abs_parser.specs.Tokens.{Spot, place_of}
use Rattle.abs_parser.specs.TreesOf.{expr_in, arguments_in, mode_by, mode_in, selected_in, tail_in, rhs_in}
use Rattle.abs_parser.specs.declared.cursor.FixedName.TheVariants as fixed
use Rattle.abs_tree.specs.declared.source_error.SourceError.{SourceError}
use Rattle.abs_parser.proofs.grammar.FirstPlaceLemmas.{first_place_found}
use Rattle.abs_parser.proofs.reader.InFrontSteps.{refused_in_front}
use Rattle.abs_parser.proofs.grammar.NameLemmas.{goes_on_itself, goes_on_further}
use Rattle.abs_parser.proofs.reader.PatternSteps.{next_taken}
use Rattle.abs_parser.proofs.reader.FoundLemmas.{found_goes_on, found_weaker, symbol_kept}
use Rattle.abs_parser.proofs.reader.StepLemmas.{HasRead, opens, over_token, over_name, over_fixed, over_part, into_last, all_read, refused_first_token, fits_next, next_fixed}
use Rattle.abs_parser.proofs.grammar.NonterminalLemmas.{part_begun, optional_opened, optional_left_out}

-- what was read of a nonterminal was also read of the optional nonterminal
pub maybe_read : {nonterminal : Nonterminal} {depth : ℕ} {old now : List (List ℕ)} {from here : Spot}
    {make : Forest → Forest} {left : List Wanted} → HasRead (One nonterminal) depth old now from make left here
    → HasRead (Optional nonterminal) depth old now from (λ rest. Node (One nonterminal) (make rest) Empty) left here
maybe_read {nonterminal} {depth} {old} {from = from} so =
    into_last (opens (Optional nonterminal) depth old from _
    (optional_opened nonterminal _ depth (part_begun nonterminal _ depth so.rule_is))) so

-- A name and arguments after it complete a part whose tree is made of them.
pub named_call_found : {goal : Goal} {depth at : ℕ} {old table new : List (List ℕ)} {from here to : Spot}
    {make : Forest → Forest} {name : List ℕ}
    (now : List (List ℕ)) (symbol : code_symbol.Symbol) (arguments : Vec code_expr.Expr Global)
    (made : List Name → Name → ExprTrees → SideTree) (in_tree : List Name → Forest → SideTree)
    → HasRead goal depth old table from make (Subgoal (One Arguments) at ∷ []) here → symbol.0 ≡ number_of_name now name
    → table ≡ with_name now name
    → FoundAs (One Arguments) at table new here to (λ names inside. expr_trees names arguments.items ≡ arguments_in inside)
    → ((names : List Name) (inside : Forest)
    → made names name (arguments_in inside) ≡ in_tree names (make (Node (One Arguments) inside Empty)))
    → FoundAs goal depth old new from to
    (λ names inside. made names (name_of names symbol) (expr_trees names arguments.items) ≡ in_tree names inside)
named_call_found now symbol arguments made in_tree so number is found made_is =
    all_read (over_part so found) (λ names more.
    rw (symbol_kept now symbol number is names (goes_on_further (found_goes_on found) more), found.is names more)
    (made_is names found.inside))

-- a part that was found with a tree is found with an equal tree
pub found_same : {goal : Goal} {depth : ℕ} {old new : List (List ℕ)} {from to : Spot}
    {tree in_tree : List Name → SideTree} {read : List Name → Forest → SideTree}
    → ((names : List Name) → in_tree names ≡ tree names)
    → FoundAs goal depth old new from to (λ names inside. tree names ≡ read names inside)
    → FoundAs goal depth old new from to (λ names inside. in_tree names ≡ read names inside)
found_same same found = found_weaker found (λ names more is. same names ∙ is)

-- After a dot

-- `get` opens what follows a dot
get_opened : (depth : ℕ) → opened (One Selected) (KeywordKind keyword.Get) depth
    ≡ Some (Terminal (KeywordKind keyword.Get) depth ∷ [])
unfolding begins chosen begins_within
get_opened depth = refl

-- a name opens it, too
named_opened : (kind : TokenKind) (depth : ℕ) → fits LowerName kind ≡ true
    → opened (One Selected) kind depth ≡ Some (Terminal LowerName depth ∷ Subgoal (One Arguments) depth ∷ [])
unfolding begins chosen begins_within
named_opened LowerName depth fit = refl
named_opened LocalName depth fit = refl
named_opened _ depth fit = absurd cc

-- nothing else opens it
selected_shut : (kind : TokenKind) (depth : ℕ) → fits (KeywordKind keyword.Get) kind ≡ false
    → fits LowerName kind ≡ false → opened (One Selected) kind depth ≡ None
unfolding chosen
selected_shut kind depth no_get no_name = rw (no_get, no_name) refl

-- `get` is found
pub get_found : {get : Lexed} {from end : Spot} (depth : ℕ) (table : List (List ℕ)) (place : Place)
    (first : code_expr.Expr) → TakesKind (lexeme.Keyword keyword.Get) get from end → depth ≤ limit
    → FoundAs (One Selected) depth table table from end
    (λ names inside. GetOf place get.place (expr_tree names first) ≡ selected_in place (expr_tree names first) inside)
get_found {from = from} depth table place first get within =
    all_read (over_token (opens (One Selected) depth table from _
    (ap (λ (k : TokenKind). opened (One Selected) k depth) (next_taken get) ∙ get_opened depth)) get refl refl within)
    (λ names more. refl)

-- where `get` is not next, what refuses a name refuses what follows the dot
pub refused_selected : (depth : ℕ) (from : Spot) (error : SourceError)
    → fits (KeywordKind keyword.Get) (next (left_at from)) ≡ false → IsRefused (Terminal LowerName depth) from error
    → IsRefused (Subgoal (One Selected) depth) from error
refused_selected depth from error no_get refused =
    refused_first_token LowerName depth (One Selected) depth from error (named_opened _ depth)
    (selected_shut _ depth no_get) refused

-- a name after a dot was read and added to the table
pub selected_named : {name : Lexed} {from args_at : Spot} {names : List (List ℕ)} (depth : ℕ) (table : List (List ℕ))
    → TakesKind lexeme.LowerName name from args_at → depth ≤ limit → names ≡ with_name table name.bytes
    → HasRead (One Selected) depth table names from (λ rest. Leaf (Token name) depth rest)
    (Subgoal (One Arguments) depth ∷ []) args_at
selected_named {from = from} depth table name within is =
    over_name (opens (One Selected) depth table from _ (named_opened _ depth (fits_next refl name))) name refl refl
    within is

-- After an expression

-- `!` opens what may follow an expression
send_opened : (depth : ℕ) → opened (One RhsTail) (PunctuatorKind punctuator.Not) depth
    ≡ Some (Terminal (PunctuatorKind punctuator.Not) depth ∷ Terminal LowerName depth ∷ Subgoal (One Arguments) depth
    ∷ [])
unfolding begins chosen begins_within
send_opened depth = refl

-- a dot opens it, too
dot_opened : (depth : ℕ) → opened (One RhsTail) (PunctuatorKind punctuator.Dot) depth
    ≡ Some (Terminal (PunctuatorKind punctuator.Dot) depth ∷ Subgoal (One Selected) depth ∷ [])
unfolding begins chosen begins_within
dot_opened depth = refl

-- nothing else may begin it
no_tail : (kind : TokenKind) → fits (PunctuatorKind punctuator.Not) kind ≡ false
    → fits (PunctuatorKind punctuator.Dot) kind ≡ false → begins RhsTail kind ≡ false
unfolding begins begins_within
no_tail kind no_bang no_dot = rw (no_bang, no_dot) refl

-- `!` was read, and a name must follow
pub send_begins : {bang : Lexed} {from name_at : Spot} (depth : ℕ) (table : List (List ℕ))
    → TakesKind (lexeme.Punctuator punctuator.Not) bang from name_at → depth ≤ limit
    → HasRead (Optional RhsTail) depth table table from
    (λ rest. Node (One RhsTail) (Leaf (Token bang) depth rest) Empty)
    (Terminal LowerName depth ∷ Subgoal (One Arguments) depth ∷ []) name_at
send_begins {from = from} depth table bang within =
    maybe_read (over_token (opens (One RhsTail) depth table from _
    (ap (λ (k : TokenKind). opened (One RhsTail) k depth) (next_taken bang) ∙ send_opened depth)) bang refl refl within)

-- the name after `!` was read and added to the table
pub send_named : {bang name : Lexed} {from name_at args_at : Spot} {names : List (List ℕ)} (depth : ℕ)
    (table : List (List ℕ)) → TakesKind (lexeme.Punctuator punctuator.Not) bang from name_at
    → TakesKind lexeme.LowerName name name_at args_at → depth ≤ limit → names ≡ with_name table name.bytes
    → HasRead (Optional RhsTail) depth table names from
    (λ rest. Node (One RhsTail) (Leaf (Token bang) depth (Leaf (Token name) depth rest)) Empty)
    (Subgoal (One Arguments) depth ∷ []) args_at
send_named depth table bang name within is = over_name (send_begins depth table bang within) name refl refl within is

-- a dot was read
pub dot_begins : {dot : Lexed} {from after : Spot} (depth : ℕ) (table : List (List ℕ))
    → TakesKind (lexeme.Punctuator punctuator.Dot) dot from after → depth ≤ limit
    → HasRead (Optional RhsTail) depth table table from (λ rest. Node (One RhsTail) (Leaf (Token dot) depth rest) Empty)
    (Subgoal (One Selected) depth ∷ []) after
dot_begins {from = from} depth table dot within =
    maybe_read (over_token (opens (One RhsTail) depth table from _
    (ap (λ (k : TokenKind). opened (One RhsTail) k depth) (next_taken dot) ∙ dot_opened depth)) dot refl refl within)

-- without either, the right side is the expression alone
pub value_found : (depth : ℕ) (table : List (List ℕ)) (from : Spot) (place : Place) (first held : code_expr.Expr)
    → held ≡ first → fits (PunctuatorKind punctuator.Not) (next (left_at from)) ≡ false
    → fits (PunctuatorKind punctuator.Dot) (next (left_at from)) ≡ false
    → FoundAs (Optional RhsTail) depth table table from from
    (λ names inside. ValueOf place (expr_tree names held) ≡ tail_in place (expr_tree names first) inside)
value_found depth table from place first held same no_bang no_dot =
    all_read (opens (Optional RhsTail) depth table from []
    (optional_left_out RhsTail _ depth (no_tail _ no_bang no_dot)))
    (λ names more. ap (λ (expr : code_expr.Expr). ValueOf place (expr_tree names expr)) same)

-- what was found after a dot is found, with the dot, as what follows the expression
pub selected_found : {dot : Lexed} {from after to : Spot} {depth : ℕ} {old new : List (List ℕ)} (place : Place)
    (first : code_expr.Expr) (side : RightSide)
    → TakesKind (lexeme.Punctuator punctuator.Dot) dot from after → depth ≤ limit
    → FoundAs (One Selected) depth old new after to
    (λ names inside. side_tree names side ≡ selected_in place (expr_tree names first) inside)
    → FoundAs (Optional RhsTail) depth old new from to
    (λ names inside. side_tree names side ≡ tail_in place (expr_tree names first) inside)
selected_found {depth = depth} {old} place first side dot within found =
    all_read (over_part (dot_begins depth old dot within) found) found.is

-- New objects

-- `cog` opens `Where`, which says where an object is to live
cog_opened : (depth : ℕ) → opened (One Where) (KeywordKind keyword.Cog) depth
    ≡ Some (Terminal (KeywordKind keyword.Cog) depth ∷ [])
unfolding begins chosen begins_within
cog_opened depth = refl

-- `local` opens it, too
local_opened : (depth : ℕ) → opened (One Where) LocalName depth ≡ Some (Terminal LocalName depth ∷ [])
unfolding begins chosen begins_within
local_opened depth = refl

-- nothing else may begin it
nowhere : (kind : TokenKind) → fits (KeywordKind keyword.Cog) kind ≡ false → fits LocalName kind ≡ false
    → begins Where kind ≡ false
unfolding begins begins_within
nowhere kind no_cog no_local = rw (no_cog, no_local) refl

-- `cog` is found
pub cog_found : {cog : Lexed} {from after : Spot} (depth : ℕ) (table : List (List ℕ))
    → TakesKind (lexeme.Keyword keyword.Cog) cog from after → depth ≤ limit
    → FoundAs (Optional Where) depth table table from after (λ names inside. mode.Cog ≡ mode_in inside)
cog_found {cog} {from} depth table takes within =
    all_read (maybe_read (over_token
    (opens (One Where) depth table from _
    (ap (λ (k : TokenKind). opened (One Where) k depth) (next_taken takes) ∙ cog_opened depth)) takes refl refl within))
    (λ names more. ap (λ kind. mode_by (token_kind_of kind cog.bytes) cog.place) (sym takes.kind_is))

-- `local` is found and, since it is a name, added to the table
pub local_found : {local : Lexed} {from after : Spot} {names : List (List ℕ)} (depth : ℕ) (table : List (List ℕ))
    → TakesFixed fixed.Local local from after → names ≡ with_name table local.bytes → depth ≤ limit
    → FoundAs (Optional Where) depth table names from after (λ names inside. mode.Local local.place ≡ mode_in inside)
local_found {local} {from} depth table takes is within =
    all_read (maybe_read (over_fixed
    (opens (One Where) depth table from _
    (ap (λ (k : TokenKind). opened (One Where) k depth) (next_fixed takes) ∙ local_opened depth)) takes within is))
    (λ names more. ap (λ (k : TokenKind). mode_by k local.place) (sym takes.kind_is))

-- without either, the mode is plain
pub plain_found : (depth : ℕ) (table : List (List ℕ)) (from : Spot)
    → fits (KeywordKind keyword.Cog) (next (left_at from)) ≡ false → fits LocalName (next (left_at from)) ≡ false
    → FoundAs (Optional Where) depth table table from from (λ names inside. mode.Plain ≡ mode_in inside)
plain_found depth table from no_cog no_local =
    all_read (opens (Optional Where) depth table from [] (optional_left_out Where _ depth (nowhere _ no_cog no_local)))
    (λ names more. refl)

-- `new` opens a right side
pub new_opened : (depth : ℕ) → opened (One Rhs) (KeywordKind keyword.New) depth
    ≡ Some (Terminal (KeywordKind keyword.New) depth ∷ Subgoal (Optional Where) depth ∷ Terminal UpperName depth
    ∷ Subgoal (One Arguments) depth ∷ [])
unfolding begins chosen begins_within
new_opened depth = refl

-- `new` and the mode after it were read
pub new_begins : {token : Lexed} {from here name_at : Spot} {depth : ℕ} {old now : List (List ℕ)}
    {is_read : List (List ℕ) → Forest → Type 0} → TakesKind (lexeme.Keyword keyword.New) token from here
    → (where_made : FoundAs (Optional Where) depth old now here name_at is_read) → depth ≤ limit
    → HasRead (One Rhs) depth old now from
    (λ rest. Leaf (Token token) depth (Node (Optional Where) where_made.inside rest))
    (Terminal UpperName depth ∷ Subgoal (One Arguments) depth ∷ []) name_at
new_begins {from = from} {depth = depth} {old} token where_made within =
    over_part (over_token (opens (One Rhs) depth old from _
    (ap (λ (k : TokenKind). opened (One Rhs) k depth) (next_taken token) ∙ new_opened depth)) token refl refl within)
    where_made

-- the name of the class was read and added to the table
pub new_named : {token name : Lexed} {from here name_at args_at : Spot} {depth : ℕ} {old now names : List (List ℕ)}
    {is_read : List (List ℕ) → Forest → Type 0} → TakesKind (lexeme.Keyword keyword.New) token from here
    → (where_made : FoundAs (Optional Where) depth old now here name_at is_read)
    → TakesKind lexeme.UpperName name name_at args_at → depth ≤ limit → names ≡ with_name now name.bytes
    → HasRead (One Rhs) depth old names from
    (λ rest. Leaf (Token token) depth (Node (Optional Where) where_made.inside (Leaf (Token name) depth rest)))
    (Subgoal (One Arguments) depth ∷ []) args_at
new_named token where_made name within is = over_name (new_begins token where_made within) name refl refl within is

-- the mode that was found is the one in its forest, with any table
pub mode_found : {depth : ℕ} {old now : List (List ℕ)} {from to : Spot} {placed : Mode}
    → (found : FoundAs (Optional Where) depth old now from to (λ names inside. placed ≡ mode_in inside))
    → placed ≡ mode_in found.inside
mode_found {now = now} found = found.is now (goes_on_itself now)

-- Right sides

-- an expression opens a right side that does not begin with `new`
rhs_opened : (kind : TokenKind) (depth : ℕ) → fits (KeywordKind keyword.New) kind ≡ false → begins Expr kind ≡ true
    → opened (One Rhs) kind depth ≡ Some (Subgoal (One Expr) depth ∷ Subgoal (Optional RhsTail) depth ∷ [])
unfolding chosen
rhs_opened kind depth no_new may = rw (no_new, may) refl

-- nothing else opens a right side
rhs_shut : (kind : TokenKind) (depth : ℕ) → fits (KeywordKind keyword.New) kind ≡ false → begins Expr kind ≡ false
    → opened (One Rhs) kind depth ≡ None
unfolding chosen
rhs_shut kind depth no_new none = rw (no_new, none) refl

-- where `new` is not next, a right side is refused where its expression is
pub refused_rhs : (depth : ℕ) (from : Spot) (error : SourceError)
    → fits (KeywordKind keyword.New) (next (left_at from)) ≡ false → IsRefused (Subgoal (One Expr) depth) from error
    → IsRefused (Subgoal (One Rhs) depth) from error
refused_rhs depth from error no_new refused =
    refused_in_front Expr depth (One Rhs) depth from error (rhs_opened _ depth no_new) (rhs_shut _ depth no_new) refused

-- the expression was read
pub rhs_begins : {from after : Spot} {depth : ℕ} {old now : List (List ℕ)} {is_read : List (List ℕ) → Forest → Type 0}
    → fits (KeywordKind keyword.New) (next (left_at from)) ≡ false
    → (expr : FoundAs (One Expr) depth old now from after is_read)
    → HasRead (One Rhs) depth old now from (λ rest. Node (One Expr) expr.inside rest)
    (Subgoal (Optional RhsTail) depth ∷ []) after
rhs_begins {from} {depth = depth} {old} no_new expr =
    over_part (opens (One Rhs) depth old from _ (rhs_opened _ depth no_new (part_begun Expr _ depth expr.rule_is))) expr

-- the trees of what follows two equal expressions at equal places are equal
same_tail : {place other_place : Place} {first other_first : ExprTree} (inside : Forest) → place ≡ other_place
    → first ≡ other_first → tail_in place first inside ≡ tail_in other_place other_first inside
same_tail inside place first = rw (place, first) refl

-- the expression with what was found after it is a right side
pub rhs_found : {from after to : Spot} {depth : ℕ} {old now new : List (List ℕ)} {place : Place}
    (first : code_expr.Expr) (side : RightSide) → fits (KeywordKind keyword.New) (next (left_at from)) ≡ false
    → place ≡ place_of from → FoundAs (One Expr) depth old now from after
    (λ names inside. expr_tree names first ≡ expr_in inside)
    → FoundAs (Optional RhsTail) depth now new after to
    (λ names inside. side_tree names side ≡ tail_in place (expr_tree names first) inside)
    → FoundAs (One Rhs) depth old new from to (λ names inside. side_tree names side ≡ rhs_in inside)
rhs_found first side no_new at expr tail =
    all_read (over_part (rhs_begins no_new expr) tail)
    (λ names more. tail.is names more
    ∙ same_tail tail.inside (at ∙ sym (first_place_found expr))
    (expr.is names (goes_on_further (found_goes_on tail) more)))
