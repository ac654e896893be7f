-- The steps of the parsing functions of the members of a class. A punctuator after the type and the name of a member
-- says what follows. The type and the name are read, with the trees of what was read.
use Rattle.std.proofs.Common.{◌≡◌, ◌≤◌, ℕ, true, false, List, [], ◌∷◌, map, Some, None, refl, ap, ◌∙◌}
use Rattle.std.specs.declared.alloc.Global.{Global}
use Rattle.std.specs.declared.sync.Arc.{Arc}
use Rattle.abs_tree.specs.Names.{with_name, number_of_name}
use Rattle.abs_tree.specs.declared.symbol.Symbol.{Symbol as NameSymbol}
use Rattle.abs_tree.specs.declared.syntax.declaration.Body.{Body}
use Rattle.abs_tree.specs.declared.syntax.declaration.Declared.{Declared}
use Rattle.abs_tree.specs.declared.syntax.declaration.Member.{Member as CodeMember}
use Rattle.abs_tree.specs.declared.syntax.declaration.Member.TheVariants as member
use Rattle.abs_tree.specs.declared.syntax.declaration.Signature.{Signature as CodeSignature}
use Rattle.abs_tree.specs.declared.syntax.expression.Expr.{Expr as CodeExpr}
use Rattle.abs_tree.specs.declared.syntax.types.TypeTerm.{TypeTerm}
use Rattle.abs_tree.specs.Syntax.{TypeTree, ExprTree, Statements, ParamTree, DeclaredTree, MemberTree, FieldTree, MethodTree, Value}
use Rattle.abs_tree.specs.SyntaxViews.{declared as declared_tree, type_tree, expr_tree, param_tree, member_tree}
use Rattle.abs_tree.specs.declared.place.Place.{Place}
use Rattle.abs_lexer.specs.declared.lexeme.Lexeme.TheVariants as lexeme
use Rattle.abs_lexer.specs.declared.lexeme.Punctuator.{Punctuator}
use Rattle.abs_lexer.specs.declared.lexeme.Punctuator.TheVariants as punctuator
use Rattle.abs_lexer.specs.Tokens.{Lexed}
use Rattle.abs_parser.specs.Firsts.{IsBlock}
use Rattle.abs_parser.specs.TokenKinds.{Token, TokenKind, LowerName, PunctuatorKind, fits, next}
use Rattle.abs_parser.specs.Productions.{Member, MemberTail, Params, Block, Type', Expr, begins, begins_within, chosen}
use Rattle.abs_parser.specs.Readings.{One, Optional, Wanted, Terminal, Subgoal, opened, Forest, Leaf, Node}
use Rattle.abs_parser.specs.ReaderAnswers.{left_at, TakesKind, FoundAs, IsRefused}
use Rattle.abs_parser.specs.Stops.{limit}
use Rattle.abs_parser.specs.Tokens.{Spot}
use Rattle.abs_parser.specs.TreesOf.{type_in, expr_in, params_maybe, member_by, member_in}
use Rattle.abs_tree.specs.declared.source_error.SourceError.{SourceError}
use Rattle.abs_parser.proofs.reader.NameListSteps.{declared_kept}
use Rattle.abs_parser.proofs.reader.ExpressionSteps.{goes_on_name}
use Rattle.abs_parser.proofs.reader.InFrontSteps.{refused_in_front}
use Rattle.abs_parser.proofs.grammar.NameLemmas.{goes_on_further}
use Rattle.abs_parser.proofs.grammar.AskedLemmas.{punctuator_fits}
use Rattle.abs_parser.proofs.reader.PatternSteps.{next_taken}
use Rattle.abs_parser.proofs.reader.SignatureSteps.{parameters_read}
use Rattle.abs_parser.proofs.reader.FoundLemmas.{found_goes_on}
use Rattle.abs_parser.proofs.reader.StepLemmas.{HasRead, opens, over_token, over_name, over_part, all_read, refused_first_token}
use Rattle.abs_parser.proofs.grammar.NonterminalLemmas.{begins_with_part, part_shut, part_begun, part_opened}

-- What follows the type and the name

-- `;` opens `MemberTail`, which follows the type and the name
field_opened : (depth : ℕ) → opened (One MemberTail) (PunctuatorKind punctuator.Semicolon) depth
    ≡ Some (Terminal (PunctuatorKind punctuator.Semicolon) depth ∷ [])
unfolding begins chosen begins_within
field_opened depth = refl

-- `=` opens it, too, and a value and `;` follow
pub value_opened : (depth : ℕ) → opened (One MemberTail) (PunctuatorKind punctuator.Assign) depth
    ≡ Some (Terminal (PunctuatorKind punctuator.Assign) depth ∷ Subgoal (One Expr) depth
    ∷ Terminal (PunctuatorKind punctuator.Semicolon) depth ∷ [])
unfolding begins chosen begins_within
value_opened depth = refl

-- `(` opens it, too, and parameters, `)` and a block follow
pub method_opened : (depth : ℕ) → opened (One MemberTail) (PunctuatorKind punctuator.OpenParen) depth
    ≡ Some (Terminal (PunctuatorKind punctuator.OpenParen) depth ∷ Subgoal (Optional Params) depth
    ∷ Terminal (PunctuatorKind punctuator.CloseParen) depth ∷ Subgoal (One Block) depth ∷ [])
unfolding begins chosen begins_within
method_opened depth = refl

-- nothing else opens it
tail_shut : (kind : TokenKind) (depth : ℕ) → fits (PunctuatorKind punctuator.Semicolon) kind ≡ false
    → fits (PunctuatorKind punctuator.Assign) kind ≡ false → fits (PunctuatorKind punctuator.OpenParen) kind ≡ false
    → opened (One MemberTail) kind depth ≡ None
unfolding chosen
tail_shut kind depth no_semicolon no_equals no_paren = rw (no_semicolon, no_equals, no_paren) refl

-- where neither `;` nor `=` is next, what refuses `(` refuses `MemberTail`
pub refused_tail : (depth : ℕ) (from : Spot) (error : SourceError)
    → fits (PunctuatorKind punctuator.Semicolon) (next (left_at from)) ≡ false
    → fits (PunctuatorKind punctuator.Assign) (next (left_at from)) ≡ false
    → IsRefused (Terminal (PunctuatorKind punctuator.OpenParen) depth) from error
    → IsRefused (Subgoal (One MemberTail) depth) from error
refused_tail depth from error no_semicolon no_equals refused =
    refused_first_token (PunctuatorKind punctuator.OpenParen) depth (One MemberTail) depth from error
    (λ fit. ap (λ (k : TokenKind). opened (One MemberTail) k depth) (punctuator_fits punctuator.OpenParen _ fit)
    ∙ method_opened depth) (tail_shut _ depth no_semicolon no_equals) refused

-- `MemberTail` begins with the punctuator that opens it
tail_begins : {punctuator : Punctuator} {left : List Wanted} {from : Spot} {token : Lexed} {after : Spot} (depth : ℕ)
    (table : List (List ℕ))
    → opened (One MemberTail) (PunctuatorKind punctuator) depth
    ≡ Some (Terminal (PunctuatorKind punctuator) depth ∷ left)
    → TakesKind (lexeme.Punctuator punctuator) token from after
    → HasRead (One MemberTail) depth table table from (λ rest. rest) (Terminal (PunctuatorKind punctuator) depth ∷ left)
    from
tail_begins {from = from} depth table is takes =
    opens (One MemberTail) depth table from _
    (ap (λ (k : TokenKind). opened (One MemberTail) k depth) (next_taken takes) ∙ is)

-- the punctuator that opens `MemberTail` was read
pub tail_begun : {punctuator : Punctuator} {left : List Wanted} {from : Spot} {token : Lexed} {after : Spot} (depth : ℕ)
    (table : List (List ℕ))
    → opened (One MemberTail) (PunctuatorKind punctuator) depth
    ≡ Some (Terminal (PunctuatorKind punctuator) depth ∷ left)
    → TakesKind (lexeme.Punctuator punctuator) token from after → depth ≤ limit
    → HasRead (One MemberTail) depth table table from (λ rest. Leaf (Token token) depth rest) left after
tail_begun depth table is takes within = over_token (tail_begins depth table is takes) takes refl refl within

-- a field without a value is found
pub field_found : {semicolon : Lexed} {from end : Spot} (index depth : ℕ) (table : List (List ℕ)) (type_of : TypeTerm)
    (name : Declared)
    → TakesKind (lexeme.Punctuator punctuator.Semicolon) semicolon from end → depth ≤ limit
    → FoundAs (One MemberTail) depth table table from end
    (λ names inside. member_tree names (member.Field type_of name None)
    ≡ member_by index (type_tree names type_of) (declared_tree names name) inside)
field_found index depth table type_of name semicolon within =
    all_read (tail_begun depth table (field_opened depth) semicolon within) (λ names more. refl)

-- a field with a value, as it is stored, is found
pub field_with_value_found : {equals semicolon : Lexed} {from value_at last_at end : Spot} {depth : ℕ}
    {old new : List (List ℕ)} {value : CodeExpr}
    (index : ℕ) (type_of : TypeTerm) (name : Declared) (held : Arc CodeExpr Global) → held.value ≡ value
    → TakesKind (lexeme.Punctuator punctuator.Assign) equals from value_at
    → FoundAs (One Expr) depth old new value_at last_at (λ names inside. expr_tree names value ≡ expr_in inside)
    → TakesKind (lexeme.Punctuator punctuator.Semicolon) semicolon last_at end → depth ≤ limit
    → FoundAs (One MemberTail) depth old new from end
    (λ names inside. member_tree names (member.Field type_of name (Some held))
    ≡ member_by index (type_tree names type_of) (declared_tree names name) inside)
field_with_value_found {depth = depth} {old} index type_of name held same equals found semicolon within =
    all_read (over_token {kind = lexeme.Punctuator punctuator.Semicolon}
    (over_part (tail_begun depth old (value_opened depth) equals within) found) semicolon refl refl within)
    (λ names more.
    ap (λ (expr_tree : ExprTree). FieldTree (type_tree names type_of) (declared_tree names name) (Value expr_tree))
    (ap (expr_tree names) same ∙ found.is names more))

-- parameters in parentheses were read
pub method_read : {opening closing : Lexed} {from inside_at close_at after : Spot} {depth : ℕ} {old new : List (List ℕ)}
    {is_read : List (List ℕ) → Forest → Type 0}
    → TakesKind (lexeme.Punctuator punctuator.OpenParen) opening from inside_at
    → (params : FoundAs (Optional Params) depth old new inside_at close_at is_read)
    → TakesKind (lexeme.Punctuator punctuator.CloseParen) closing close_at after → depth ≤ limit
    → HasRead (One MemberTail) depth old new from
    (λ rest. Leaf (Token opening) depth (Node (Optional Params) params.inside (Leaf (Token closing) depth rest)))
    (Subgoal (One Block) depth ∷ []) after
method_read {depth = depth} {old} opening params closing within =
    parameters_read (tail_begins depth old (method_opened depth) opening) opening params closing within

-- the trees of two methods with equal parts are equal
method_made : {params held_params : List ParamTree} {end held_end : Place} {body held_body : Statements}
    (result : TypeTree) (name : DeclaredTree)
    → held_params ≡ params → held_end ≡ end → held_body ≡ body
    → MethodTree (record { result = result; name = name; params = held_params }) held_end held_body
    ≡ MethodTree (record { result = result; name = name; params = params }) end body
method_made result name params end body = rw (params, end, body) refl

-- a method with its parameters and its block is found
pub method_found : {opening closing : Lexed} {from inside_at close_at block_at to : Spot} {depth : ℕ}
    {old now new : List (List ℕ)} (index : ℕ) (signature : CodeSignature) (body : Body)
    → TakesKind (lexeme.Punctuator punctuator.OpenParen) opening from inside_at
    → FoundAs (Optional Params) depth old now inside_at close_at
    (λ names inside. map (param_tree names) signature.params.items ≡ params_maybe inside)
    → TakesKind (lexeme.Punctuator punctuator.CloseParen) closing close_at block_at
    → FoundAs (One Block) depth now new block_at to (λ names inside. IsBlock index names body inside) → depth ≤ limit
    → FoundAs (One MemberTail) depth old new from to
    (λ names inside. member_tree names (member.Method signature body)
    ≡ member_by index (type_tree names signature.result) (declared_tree names signature.name) inside)
method_found index signature body opening params closing block within =
    all_read (over_part (method_read opening params closing within) block) (λ names more.
    let is = block.is names more in
    method_made (type_tree names signature.result) (declared_tree names signature.name)
    (params.is names (goes_on_further (found_goes_on block) more)) is.end_is is.statements_are)

-- Members

-- this member was read, from its first index
abbrev pub IsMember : ℕ → CodeMember → List (List ℕ) → Forest → Type 0
IsMember index one names inside = (others : List MemberTree)
    → member_tree names one ∷ others ≡ member_in index inside others

-- a member begins with the same tokens as a type
member_begins : (kind : TokenKind) → begins Member kind ≡ begins Type' kind
member_begins kind = begins_with_part Member kind refl

-- a member is a type, a name, and what follows them
member_opened : (kind : TokenKind) (depth : ℕ) → begins Type' kind ≡ true
    → opened (One Member) kind depth
    ≡ Some (Subgoal (One Type') depth ∷ Terminal LowerName depth ∷ Subgoal (One MemberTail) depth ∷ [])
member_opened kind depth may = part_opened Member kind depth refl refl (member_begins kind ∙ may)

-- where no type may begin, no member opens
member_shut : (kind : TokenKind) (depth : ℕ) → begins Type' kind ≡ false → opened (One Member) kind depth ≡ None
member_shut kind depth none = part_shut Member kind depth (member_begins kind ∙ none)

-- a member is refused where its type is
pub refused_type : (depth : ℕ) (from : Spot) (error : SourceError) → IsRefused (Subgoal (One Type') depth) from error
    → IsRefused (Subgoal (One Member) depth) from error
refused_type depth from error refused =
    refused_in_front Type' depth (One Member) depth from error (member_opened _ depth) (member_shut _ depth) refused

-- the type of a member was read
pub member_typed : {depth : ℕ} {old now : List (List ℕ)} {from name_at : Spot}
    {is_read : List (List ℕ) → Forest → Type 0} → (type : FoundAs (One Type') depth old now from name_at is_read)
    → HasRead (One Member) depth old now from (λ rest. Node (One Type') type.inside rest)
    (Terminal LowerName depth ∷ Subgoal (One MemberTail) depth ∷ []) name_at
member_typed {depth} {old} {from = from} type =
    over_part (opens (One Member) depth old from _ (member_opened _ depth (part_begun Type' _ depth type.rule_is))) type

-- the name of a member was read and added to the table
pub member_named : {name : Lexed} {from name_at after : Spot} {depth : ℕ} {old now table : List (List ℕ)}
    {is_read : List (List ℕ) → Forest → Type 0}
    → (type : FoundAs (One Type') depth old now from name_at is_read) → TakesKind lexeme.LowerName name name_at after
    → table ≡ with_name now name.bytes → depth ≤ limit
    → HasRead (One Member) depth old table from (λ rest. Node (One Type') type.inside (Leaf (Token name) depth rest))
    (Subgoal (One MemberTail) depth ∷ []) after
member_named type name is within = over_name (member_typed type) name refl refl within is

-- the trees of two members with equal types and names are equal
member_made : {type held_type : TypeTree} {name held_name : DeclaredTree} (index : ℕ) (inside : Forest)
    (others : List MemberTree) → held_type ≡ type → held_name ≡ name
    → member_by index held_type held_name inside ∷ others ≡ member_by index type name inside ∷ others
member_made index inside others type name = rw (type, name) refl

-- a member with its type, its name and what follows them is found
pub member_found : {name : Lexed} {from name_at after to : Spot} {depth : ℕ} {old now table new : List (List ℕ)}
    (index : ℕ) (type_of : TypeTerm) (symbol : NameSymbol) (one : CodeMember)
    → FoundAs (One Type') depth old now from name_at (λ names inside. type_tree names type_of ≡ type_in inside)
    → TakesKind lexeme.LowerName name name_at after
    → symbol.0 ≡ number_of_name now name.bytes → table ≡ with_name now name.bytes → depth ≤ limit
    → FoundAs (One MemberTail) depth table new after to
    (λ names inside. member_tree names one
    ≡ member_by index (type_tree names type_of) (declared_tree names (record { place = name.place; name = symbol }))
    inside)
    → FoundAs (One Member) depth old new from to (IsMember index one)
member_found {name} {now = now} index type_of symbol one type takes number is within tail =
    all_read (over_part (member_named type takes is within) tail) (λ names more others.
    let since = goes_on_further (found_goes_on tail) more in
    ap (λ tree. tree ∷ others) (tail.is names more)
    ∙ member_made index tail.inside others (type.is names (goes_on_further (goes_on_name _ _ is) since))
    (declared_kept now name symbol number is names since))
