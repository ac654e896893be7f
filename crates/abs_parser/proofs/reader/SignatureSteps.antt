-- The steps of the parsing functions of interfaces, of their methods and of functions. They say what each of these
-- consists of, given the next token. Their tokens and parts are read, with the trees of what was read.
use Rattle.std.proofs.Common.{◌≡◌, ◌≤◌, ℕ, true, false, List, [], ◌∷◌, ◌++◌, map, Some, None, refl, sym, ap, ◌∙◌}
use Rattle.std.specs.declared.alloc.Global.{Global}
use Rattle.std.specs.declared.sync.Arc.{Arc}
use Rattle.std.specs.declared.vec.Vec.{Vec}
use Rattle.abs_tree.specs.Names.{with_name, number_of_name}
use Rattle.abs_tree.specs.declared.place.Place.{Place}
use Rattle.abs_tree.specs.declared.symbol.Symbol.{Symbol as NameSymbol}
use Rattle.abs_tree.specs.declared.syntax.declaration.Decl.TheVariants as decl
use Rattle.abs_tree.specs.declared.syntax.declaration.Declared.{Declared}
use Rattle.abs_tree.specs.declared.syntax.declaration.Param.{Param}
use Rattle.abs_tree.specs.declared.syntax.declaration.Signature.{Signature as CodeSignature}
use Rattle.abs_tree.specs.declared.syntax.expression.Expr.{Expr as CodeExpr}
use Rattle.abs_tree.specs.declared.syntax.types.TypeTerm.{TypeTerm}
use Rattle.abs_tree.specs.Syntax.{Name, TypeTree, ExprTree, ParamTree, DeclaredTree, SignatureTree, DeclTree, FunctionTree, InterfaceTree}
use Rattle.abs_tree.specs.SyntaxViews.{declared as declared_tree, type_tree, expr_tree, param_tree, signature_tree, decl_tree}
use Rattle.abs_lexer.specs.declared.lexeme.Keyword.TheVariants as keyword
use Rattle.abs_lexer.specs.declared.lexeme.Lexeme.TheVariants as lexeme
use Rattle.abs_lexer.specs.declared.lexeme.Punctuator.TheVariants as punctuator
use Rattle.abs_lexer.specs.Tokens.{Lexed}
use Rattle.abs_parser.specs.TokenKinds.{Token, TokenKind, LowerName, UpperName, KeywordKind, PunctuatorKind}
use Rattle.abs_parser.specs.Productions.{Decl, TypeParameters, Params, Extends, Signature, Type', Expr, begins, begins_within, chosen}
use Rattle.abs_parser.specs.Readings.{Goal, One, Optional, Repeated, Wanted, Terminal, Subgoal, opened, Forest, Leaf, Node}
use Rattle.abs_parser.specs.ReaderAnswers.{TakesKind, FoundAs, IsRefused}
use Rattle.abs_parser.specs.Stops.{limit}
use Rattle.abs_parser.specs.Tokens.{Spot}
use Rattle.abs_parser.specs.TreesOf.{type_in, expr_in, names_maybe, params_maybe, signature_in, signatures_in, decl_in}
use Rattle.abs_tree.specs.declared.source_error.SourceError.{SourceError}
use Rattle.abs_parser.proofs.reader.DeclarationSteps.{AnyIndex, Parts, ReadsParts, next_part, heading_read, by_keyword}
use Rattle.abs_parser.proofs.reader.NameListSteps.{declared_kept}
use Rattle.abs_parser.proofs.reader.KeywordSteps.{keyword_read}
use Rattle.abs_parser.proofs.reader.ExpressionSteps.{goes_on_name}
use Rattle.abs_parser.proofs.reader.InFrontSteps.{refused_in_front}
use Rattle.abs_parser.proofs.grammar.NameLemmas.{goes_on_further}
use Rattle.abs_parser.proofs.reader.RepeatSteps.{ends_at}
use Rattle.abs_parser.proofs.reader.FoundLemmas.{found_goes_on, symbol_kept}
use Rattle.abs_parser.proofs.reader.StepLemmas.{HasRead, opens, over_token, over_name, over_part, all_read}
use Rattle.abs_parser.proofs.grammar.NonterminalLemmas.{begins_with_part, part_shut, part_begun, part_opened}

-- Methods of an interface

-- this method was read
abbrev pub IsSignature : CodeSignature → List (List ℕ) → Forest → Type 0
IsSignature signature names inside = (others : List SignatureTree)
    → signature_tree names signature ∷ others ≡ signature_in inside others

-- a method begins with the same tokens as a type
signature_begins : (kind : TokenKind) → begins Signature kind ≡ begins Type' kind
signature_begins kind = begins_with_part Signature kind refl

-- what follows the name of a method
abbrev pub after_signature : ℕ → List Wanted
after_signature at = Terminal (PunctuatorKind punctuator.OpenParen) at ∷ Subgoal (Optional Params) at
    ∷ Terminal (PunctuatorKind punctuator.CloseParen) at ∷ Terminal (PunctuatorKind punctuator.Semicolon) at ∷ []

-- a method is a type, a name, and what follows the name
signature_opened : (kind : TokenKind) (depth : ℕ) → begins Type' kind ≡ true
    → opened (One Signature) kind depth
    ≡ Some (Subgoal (One Type') depth ∷ Terminal LowerName depth ∷ after_signature depth)
signature_opened kind depth may = part_opened Signature kind depth refl refl (signature_begins kind ∙ may)

-- where no type may begin, no method opens
signature_shut : (kind : TokenKind) (depth : ℕ) → begins Type' kind ≡ false → opened (One Signature) kind depth ≡ None
signature_shut kind depth none = part_shut Signature kind depth (signature_begins kind ∙ none)

-- a method is refused where its type is
pub refused_result : (depth : ℕ) (from : Spot) (error : SourceError) → IsRefused (Subgoal (One Type') depth) from error
    → IsRefused (Subgoal (One Signature) depth) from error
refused_result depth from error refused =
    refused_in_front Type' depth (One Signature) depth from error (signature_opened _ depth) (signature_shut _ depth)
    refused

-- the type of a method was read
pub result_read : {depth : ℕ} {old new : List (List ℕ)} {from to : Spot} {is_read : List (List ℕ) → Forest → Type 0}
    → (found : FoundAs (One Type') depth old new from to is_read)
    → HasRead (One Signature) depth old new from (λ rest. Node (One Type') found.inside rest)
    (Terminal LowerName depth ∷ after_signature depth) to
result_read {depth} {old} {from = from} found =
    over_part (opens (One Signature) depth old from _
    (signature_opened _ depth (part_begun Type' _ depth found.rule_is))) found

-- the name of a method was read and added to the table
pub signature_named : {name : Lexed} {from name_at open_at : Spot} {depth : ℕ} {old now table : List (List ℕ)}
    {is_read : List (List ℕ) → Forest → Type 0} → (result : FoundAs (One Type') depth old now from name_at is_read)
    → TakesKind lexeme.LowerName name name_at open_at → table ≡ with_name now name.bytes → depth ≤ limit
    → HasRead (One Signature) depth old table from
    (λ rest. Node (One Type') result.inside (Leaf (Token name) depth rest)) (after_signature depth) open_at
signature_named result name is within = over_name (result_read result) name refl refl within is

-- "(", parameters and ")" were read
pub parameters_read : {goal : Goal} {opening closing : Lexed} {from open_at inside_at close_at after : Spot}
    {depth at : ℕ} {old now new : List (List ℕ)} {make : Forest → Forest} {left : List Wanted}
    {is_read : List (List ℕ) → Forest → Type 0}
    → HasRead goal depth old now from make
    (Terminal (PunctuatorKind punctuator.OpenParen) at ∷ Subgoal (Optional Params) at
    ∷ Terminal (PunctuatorKind punctuator.CloseParen) at ∷ left) open_at
    → TakesKind (lexeme.Punctuator punctuator.OpenParen) opening open_at inside_at
    → (params : FoundAs (Optional Params) at now new inside_at close_at is_read)
    → TakesKind (lexeme.Punctuator punctuator.CloseParen) closing close_at after → at ≤ limit
    → HasRead goal depth old new from
    (λ rest. make (Leaf (Token opening) at (Node (Optional Params) params.inside (Leaf (Token closing) at rest)))) left
    after
parameters_read so opening params closing within =
    over_token (over_part (over_token so opening refl refl within) params) closing refl refl within

-- a method with its type, its name and its parameters is found
pub signature_found : {name opening closing semicolon : Lexed}
    {from name_at open_at inside_at close_at last_at end : Spot} {depth : ℕ} {old now table new : List (List ℕ)}
    (signature : CodeSignature)
    → signature.name.place ≡ name.place
    → FoundAs (One Type') depth old now from name_at (λ names inside. type_tree names signature.result ≡ type_in inside)
    → TakesKind lexeme.LowerName name name_at open_at
    → signature.name.name.0 ≡ number_of_name now name.bytes → table ≡ with_name now name.bytes
    → TakesKind (lexeme.Punctuator punctuator.OpenParen) opening open_at inside_at
    → FoundAs (Optional Params) depth table new inside_at close_at
    (λ names inside. map (param_tree names) signature.params.items ≡ params_maybe inside)
    → TakesKind (lexeme.Punctuator punctuator.CloseParen) closing close_at last_at
    → TakesKind (lexeme.Punctuator punctuator.Semicolon) semicolon last_at end → depth ≤ limit
    → FoundAs (One Signature) depth old new from end (IsSignature signature)
signature_found {now = now} signature same result name number is opening params closing semicolon within =
    all_read (over_token (parameters_read (signature_named result name is within) opening params closing within)
    semicolon refl refl within) (λ names more others.
    let since = goes_on_further (found_goes_on params) more in
    rw (
      result.is names (goes_on_further (goes_on_name _ _ is) since),
      same,
      symbol_kept now signature.name.name number
          is names since,
      params.is names more,
    ) refl)

-- Interfaces

-- no method begins with "}"
pub no_signature_closes : begins Signature (PunctuatorKind punctuator.CloseBrace) ≡ false
unfolding begins begins_within
no_signature_closes = refl

-- the methods of an interface repeat up to "}"
abbrev pub signatures_of : Parts CodeSignature SignatureTree
signatures_of = record {
  nonterminal = Signature;
  closing = lexeme.Punctuator punctuator.CloseBrace;
  closing_asked = refl;
  closing_unnamed = refl;
  closing_ends = ends_at Signature punctuator.CloseBrace no_signature_closes;
  tree = signature_tree;
  trees_in = λ index before. signatures_in;
  trees_none = λ index before. refl;
}

-- what follows the name of an interface
abbrev pub after_interface : ℕ → List Wanted
after_interface at = Subgoal (Optional Extends) at ∷ Terminal (PunctuatorKind punctuator.OpenBrace) at
    ∷ Subgoal (Repeated Signature) at ∷ Terminal (PunctuatorKind punctuator.CloseBrace) at ∷ []

-- `interface` opens a declaration
pub interface_opened : (depth : ℕ)
    → opened (One Decl) (KeywordKind keyword.Interface) depth
    ≡ Some (Terminal (KeywordKind keyword.Interface) depth ∷ Terminal UpperName depth ∷ after_interface depth)
unfolding begins chosen begins_within
interface_opened depth = refl

-- the tree of an interface, given the trees of its methods
abbrev pub interface_of : Place → Declared → List Declared → List Name → List SignatureTree → DeclTree
interface_of place name extended names signatures =
    InterfaceTree place (declared_tree names name) (map (declared_tree names) extended) signatures

-- the trees of two interfaces with equal parts are equal
interface_made : {name held_name : DeclaredTree} {extended held_extended : List DeclaredTree} (place : Place)
    (signatures : List SignatureTree) (others : List DeclTree)
    → held_name ≡ name → held_extended ≡ extended
    → InterfaceTree place name extended signatures ∷ others ≡ InterfaceTree place held_name held_extended signatures
    ∷ others
interface_made place signatures others name extended = rw (name, extended) refl

-- an interface was read up to its first method
pub first_signature : {token name brace : Lexed} {from name_at after open_at here : Spot} {depth : ℕ}
    {old table now : List (List ℕ)} {signatures : List CodeSignature} (symbol : NameSymbol) (listed : List Declared)
    → signatures ≡ [] → TakesKind (lexeme.Keyword keyword.Interface) token from name_at
    → TakesKind lexeme.UpperName name name_at after → symbol.0 ≡ number_of_name old name.bytes
    → table ≡ with_name old name.bytes
    → FoundAs (Optional Extends) depth table now after open_at
    (λ names inside. map (declared_tree names) listed ≡ names_maybe inside)
    → TakesKind (lexeme.Punctuator punctuator.OpenBrace) brace open_at here → depth ≤ limit
    → ReadsParts signatures_of AnyIndex (interface_of token.place (record { place = name.place; name = symbol }) listed)
    depth old now from here signatures
first_signature {token} {name} {brace} {depth = depth} {old} symbol listed same takes takes_name number is extended
    takes_brace within = rw same (record {
      make = λ rest. Leaf (Token token) depth
          (Leaf (Token name) depth (Node (Optional Extends) extended.inside (Leaf (Token brace) depth rest)));
      read = over_token (over_part (heading_read (interface_opened depth) takes takes_name is within) extended) takes_brace
          refl refl within;
      is = λ index starts names more inside mark at others.
          by_keyword index depth _ others takes
          ∙ interface_made token.place (signatures_in inside) others
          (declared_kept old name symbol number is names (goes_on_further (found_goes_on extended) more))
          (extended.is names more);
    })

-- one more method of an interface was read
pub next_signature : {whole : List Name → List SignatureTree → DeclTree} {from here to : Spot} {depth : ℕ}
    {old now new : List (List ℕ)} {signatures longer : List CodeSignature}
    (signature : CodeSignature) → longer ≡ signatures ++ signature ∷ []
    → ReadsParts signatures_of AnyIndex whole depth old now from here signatures
    → FoundAs (One Signature) depth now new here to (IsSignature signature)
    → ReadsParts signatures_of AnyIndex whole depth old new from to longer
next_signature signature same so found =
    next_part signature same so found (λ index starts names more others. found.is names more (signatures_in others))

-- Functions

-- what follows the name of a function
abbrev pub after_function : ℕ → List Wanted
after_function at =
    Subgoal (Optional TypeParameters) at ∷ Terminal (PunctuatorKind punctuator.OpenParen) at
    ∷ Subgoal (Optional Params) at ∷ Terminal (PunctuatorKind punctuator.CloseParen) at
    ∷ Terminal (PunctuatorKind punctuator.Assign) at ∷ Subgoal (One Expr) at
    ∷ Terminal (PunctuatorKind punctuator.Semicolon) at ∷ []

-- `def` opens a declaration
pub function_opened : (depth : ℕ)
    → opened (One Decl) (KeywordKind keyword.Def) depth
    ≡ Some (Terminal (KeywordKind keyword.Def) depth ∷ Subgoal (One Type') depth ∷ Terminal LowerName depth
    ∷ after_function depth)
unfolding begins chosen begins_within
function_opened depth = refl

-- the type and the name of a function were read, and the name was added to the table
pub function_named : {token name : Lexed} {from type_at name_at after : Spot} {depth : ℕ}
    {old now table : List (List ℕ)} {is_read : List (List ℕ) → Forest → Type 0}
    → TakesKind (lexeme.Keyword keyword.Def) token from type_at
    → (result : FoundAs (One Type') depth old now type_at name_at is_read)
    → TakesKind lexeme.LowerName name name_at after → table ≡ with_name now name.bytes → depth ≤ limit
    → HasRead (One Decl) depth old table from
    (λ rest. Leaf (Token token) depth (Node (One Type') result.inside (Leaf (Token name) depth rest)))
    (after_function depth) after
function_named {depth = depth} {old} token result name is within =
    over_name (over_part (keyword_read depth old (function_opened depth) token within) result) name refl refl within is

-- the type parameters, the parameters and the "=" of a function were read
pub function_assigned : {opening closing equals : Lexed}
    {from after open_at inside_at close_at equals_at value_at : Spot} {depth : ℕ} {old table now new : List (List ℕ)}
    {make : Forest → Forest}
    {is_read are_read : List (List ℕ) → Forest → Type 0}
    → HasRead (One Decl) depth old table from make (after_function depth) after
    → (parameters : FoundAs (Optional TypeParameters) depth table now after open_at is_read)
    → TakesKind (lexeme.Punctuator punctuator.OpenParen) opening open_at inside_at
    → (params : FoundAs (Optional Params) depth now new inside_at close_at are_read)
    → TakesKind (lexeme.Punctuator punctuator.CloseParen) closing close_at equals_at
    → TakesKind (lexeme.Punctuator punctuator.Assign) equals equals_at value_at → depth ≤ limit
    → HasRead (One Decl) depth old new from
    (λ rest. make (Node (Optional TypeParameters) parameters.inside
    (Leaf (Token opening) depth (Node (Optional Params) params.inside
    (Leaf (Token closing) depth (Leaf (Token equals) depth rest))))))
    (Subgoal (One Expr) depth ∷ Terminal (PunctuatorKind punctuator.Semicolon) depth ∷ []) value_at
function_assigned so parameters opening params closing equals within =
    over_token (parameters_read (over_part so parameters) opening params closing within) equals refl refl within

-- the trees of two functions with equal parts are equal
function_made : {result held_result : TypeTree} {name held_name : DeclaredTree}
    {parameters held_parameters : List DeclaredTree} {params held_params : List ParamTree} {value held_value : ExprTree}
    (place : Place)
    (others : List DeclTree) → held_result ≡ result → held_name ≡ name → held_parameters ≡ parameters
    → held_params ≡ params → held_value ≡ value
    → FunctionTree place held_result held_name held_parameters held_params held_value ∷ others
    ≡ FunctionTree place result name parameters params value ∷ others
function_made place others result name parameters params value = rw (result, name, parameters, params, value) refl

-- a function is found with its types, its name, its parameters and its value, as they are stored
pub function_found : {token name opening closing equals semicolon : Lexed}
    {from type_at name_at after open_at inside_at close_at equals_at value_at last_at end : Spot} {depth : ℕ}
    {old one table two three new : List (List ℕ)}
    {value : CodeExpr} (result : TypeTerm) (symbol : NameSymbol) (parameters : Vec Declared Global)
    (params : Vec Param Global) (held : Arc CodeExpr Global) → held.value ≡ value
    → TakesKind (lexeme.Keyword keyword.Def) token from type_at
    → FoundAs (One Type') depth old one type_at name_at (λ names inside. type_tree names result ≡ type_in inside)
    → TakesKind lexeme.LowerName name name_at after → symbol.0 ≡ number_of_name one name.bytes
    → table ≡ with_name one name.bytes
    → FoundAs (Optional TypeParameters) depth table two after open_at
    (λ names inside. map (declared_tree names) parameters.items ≡ names_maybe inside)
    → TakesKind (lexeme.Punctuator punctuator.OpenParen) opening open_at inside_at
    → FoundAs (Optional Params) depth two three inside_at close_at
    (λ names inside. map (param_tree names) params.items ≡ params_maybe inside)
    → TakesKind (lexeme.Punctuator punctuator.CloseParen) closing close_at equals_at
    → TakesKind (lexeme.Punctuator punctuator.Assign) equals equals_at value_at
    → FoundAs (One Expr) depth three new value_at last_at (λ names inside. expr_tree names value ≡ expr_in inside)
    → TakesKind (lexeme.Punctuator punctuator.Semicolon) semicolon last_at end → depth ≤ limit
    → FoundAs (One Decl) depth old new from end
    (λ names inside. (index : ℕ) (others : List DeclTree)
    → decl_tree names (decl.Function token.place result (record { place = name.place; name = symbol }) parameters params
    held) ∷ others ≡ decl_in index inside others)
function_found {token = token} {name} {depth = depth} {one = one} result symbol parameters params held same takes type
    takes_name number is listed opening found closing equals value semicolon within =
    let so = function_assigned (function_named takes type takes_name is within) listed opening found closing equals
    within in
    all_read (over_token (over_part so value) semicolon refl refl within) (λ names more index others.
    let since = goes_on_further (found_goes_on value) more in
    let from_params = goes_on_further (found_goes_on found) since in
    let from_parameters = goes_on_further (found_goes_on listed) from_params in
    function_made token.place others (type.is names (goes_on_further (goes_on_name _ _ is) from_parameters))
    (declared_kept one name symbol number is names from_parameters) (listed.is names from_params) (found.is names since)
    (ap (expr_tree names) same ∙ value.is names more)
    ∙ sym (by_keyword index depth _ others takes))
