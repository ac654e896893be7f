-- The steps of the parsing function of classes. They read the keyword, the name, the parameters and the implemented
-- interfaces of a class. Its members repeat up to `}`, with the trees of those that were read so far.
use Rattle.std.proofs.Common.{◌≡◌, ◌≤◌, ℕ, ◌+◌, false, List, [], ◌∷◌, ◌++◌, map, Some, refl, ap, ◌∙◌, arith}
use Rattle.std.proofs.lemmas.List.{map-append}
use Rattle.abs_tree.specs.Names.{with_name, number_of_name}
use Rattle.abs_tree.specs.declared.place.Place.{Place}
use Rattle.abs_tree.specs.declared.symbol.Symbol.{Symbol as NameSymbol}
use Rattle.abs_tree.specs.declared.syntax.declaration.Declared.{Declared}
use Rattle.abs_tree.specs.declared.syntax.declaration.Member.{Member as CodeMember}
use Rattle.abs_tree.specs.declared.syntax.declaration.Param.{Param}
use Rattle.abs_tree.specs.Syntax.{Name, ParamTree, DeclaredTree, MemberTree, FieldTree, MethodTree, DeclTree, ClassTree}
use Rattle.abs_tree.specs.SyntaxSizes.{member_statements}
use Rattle.abs_tree.specs.SyntaxViews.{declared as declared_tree, param_tree, member_tree}
use Rattle.abs_lexer.specs.declared.lexeme.Keyword.TheVariants as keyword
use Rattle.abs_lexer.specs.declared.lexeme.Lexeme.TheVariants as lexeme
use Rattle.abs_lexer.specs.declared.lexeme.Punctuator.TheVariants as punctuator
use Rattle.abs_lexer.specs.Tokens.{Lexed}
use Rattle.abs_parser.specs.TokenKinds.{Token, UpperName, KeywordKind, PunctuatorKind}
use Rattle.abs_parser.specs.Productions.{Decl, ClassParameters, Implements, Member, begins, begins_within, chosen}
use Rattle.abs_parser.specs.Readings.{One, Optional, Repeated, Wanted, Terminal, Subgoal, opened, Forest, Empty, Leaf, Node}
use Rattle.abs_parser.specs.ReaderAnswers.{TakesKind, FoundAs}
use Rattle.abs_parser.specs.Stops.{limit}
use Rattle.abs_parser.specs.Tokens.{Spot}
use Rattle.abs_parser.specs.TreesOf.{class_params_maybe, names_maybe, member_in, members_in}
use Rattle.abs_parser.proofs.reader.NameListSteps.{declared_kept}
use Rattle.abs_parser.proofs.reader.DeclarationSteps.{Parts, ReadsParts, next_part, heading_read, by_keyword}
use Rattle.abs_parser.proofs.reader.MemberSteps.{IsMember}
use Rattle.abs_parser.proofs.reader.RepeatSteps.{ends_at}
use Rattle.abs_parser.proofs.grammar.NameLemmas.{goes_on_further}
use Rattle.abs_parser.proofs.reader.FoundLemmas.{found_goes_on}
use Rattle.abs_parser.proofs.reader.StepLemmas.{HasRead, over_token, over_part}

-- no member begins with "}"
pub no_member_closes : begins Member (PunctuatorKind punctuator.CloseBrace) ≡ false
unfolding begins begins_within
no_member_closes = refl

-- the members of a class repeat up to "}"
abbrev pub members_of : Parts CodeMember MemberTree
members_of = record {
  nonterminal = Member;
  closing = lexeme.Punctuator punctuator.CloseBrace;
  closing_asked = refl;
  closing_unnamed = refl;
  closing_ends = ends_at Member punctuator.CloseBrace no_member_closes;
  tree = member_tree;
  trees_in = λ index before. members_in (index + member_statements before);
  trees_none = λ index before. refl;
}

-- what follows the name of a class
abbrev pub after_class : ℕ → List Wanted
after_class at =
    Subgoal (Optional ClassParameters) at ∷ Subgoal (Optional Implements) at
    ∷ Terminal (PunctuatorKind punctuator.OpenBrace) at
    ∷ Subgoal (Repeated Member) at ∷ Terminal (PunctuatorKind punctuator.CloseBrace) at ∷ []

-- `class` opens a declaration
pub class_opened : (depth : ℕ) → opened (One Decl) (KeywordKind keyword.Class) depth
    ≡ Some (Terminal (KeywordKind keyword.Class) depth ∷ Terminal UpperName depth ∷ after_class depth)
unfolding begins chosen begins_within
class_opened depth = refl

-- the tree of a class, given the trees of its members
abbrev pub class_of : Place → Declared → List Param → List Declared → List Name → List MemberTree → DeclTree
class_of place name params implemented names members =
    ClassTree place (declared_tree names name) (map (param_tree names) params) (map (declared_tree names) implemented)
    members

-- the trees of two classes with equal parts are equal
class_made : {name held_name : DeclaredTree} {params held_params : List ParamTree}
    {implemented held_implemented : List DeclaredTree}
    (place : Place) (members : List MemberTree) (others : List DeclTree) → held_name ≡ name → held_params ≡ params
    → held_implemented ≡ implemented
    → ClassTree place name params implemented members ∷ others
    ≡ ClassTree place held_name held_params held_implemented members ∷ others
class_made place members others name params implemented = rw (name, params, implemented) refl

-- the keyword, the name and the parameters of a class were read
pub class_begun : {token name : Lexed} {from name_at after heading_at : Spot} {depth : ℕ}
    {old table now : List (List ℕ)} {is_read : List (List ℕ) → Forest → Type 0}
    → TakesKind (lexeme.Keyword keyword.Class) token from name_at → TakesKind lexeme.UpperName name name_at after
    → table ≡ with_name old name.bytes
    → (params : FoundAs (Optional ClassParameters) depth table now after heading_at is_read) → depth ≤ limit
    → HasRead (One Decl) depth old now from
    (λ rest. Leaf (Token token) depth (Leaf (Token name) depth (Node (Optional ClassParameters) params.inside rest)))
    (Subgoal (Optional Implements) depth ∷ Terminal (PunctuatorKind punctuator.OpenBrace) depth
    ∷ Subgoal (Repeated Member) depth ∷ Terminal (PunctuatorKind punctuator.CloseBrace) depth ∷ []) heading_at
class_begun {depth = depth} token name is params within =
    over_part (heading_read (class_opened depth) token name is within) params

-- a class was read up to its first member
pub first_member : {token name brace : Lexed} {from name_at after heading_at open_at here : Spot} {depth : ℕ}
    {old table one now : List (List ℕ)} {members : List CodeMember}
    (index : ℕ) (symbol : NameSymbol) (params : List Param) (listed : List Declared) → members ≡ []
    → TakesKind (lexeme.Keyword keyword.Class) token from name_at → TakesKind lexeme.UpperName name name_at after
    → symbol.0 ≡ number_of_name old name.bytes → table ≡ with_name old name.bytes
    → FoundAs (Optional ClassParameters) depth table one after heading_at
    (λ names inside. map (param_tree names) params ≡ class_params_maybe inside)
    → FoundAs (Optional Implements) depth one now heading_at open_at
    (λ names inside. map (declared_tree names) listed ≡ names_maybe inside)
    → TakesKind (lexeme.Punctuator punctuator.OpenBrace) brace open_at here → depth ≤ limit
    → ReadsParts members_of (λ at. at ≡ index)
    (class_of token.place (record { place = name.place; name = symbol }) params listed) depth old now from here members
first_member {token} {name} {brace} {depth = depth} {old} index symbol params listed same takes takes_name number is
    found implemented takes_brace within = rw same (record {
      make = λ rest.
          Leaf (Token token) depth (Leaf (Token name) depth
          (Node (Optional ClassParameters) found.inside
          (Node (Optional Implements) implemented.inside (Leaf (Token brace) depth rest))));
      read = over_token (over_part (class_begun takes takes_name is found within) implemented) takes_brace refl refl within;
      is = λ first starts names more inside mark at others.
          let from_params = goes_on_further (found_goes_on implemented) more in
          by_keyword first depth _ others takes
          ∙ (class_made token.place (members_in first inside) others
          (declared_kept old name symbol number is names (goes_on_further (found_goes_on found) from_params))
          (found.is names from_params) (implemented.is names more)
          ∙ ap (λ (n : ℕ). class_of token.place (record { place = name.place; name = symbol }) params listed names
          (members_in n inside) ∷ others) (omega arith));
    })

-- the statement counts of two lists of members add up
pub members_counted : (first others : List MemberTree)
    → member_statements (first ++ others) ≡ member_statements first + member_statements others
members_counted [] others = omega arith
members_counted (MethodTree signature end body ∷ first) others = omega (arith, members_counted first others)
members_counted (FieldTree type name initial ∷ first) others = members_counted first others

-- one more member adds its statement count to that of the members before it
pub one_member_counted : (names : List Name) (listed : List CodeMember) (one : CodeMember)
    → member_statements (map (member_tree names) (listed ++ one ∷ []))
    ≡ member_statements (map (member_tree names) listed) + member_statements (member_tree names one ∷ [])
one_member_counted names listed one =
    ap member_statements (map-append (member_tree names) listed (one ∷ []))
    ∙ members_counted (map (member_tree names) listed) (member_tree names one ∷ [])

-- one more member comes before the further ones, whose indices begin after its own
member_in_turn : (names : List Name) (index free : ℕ) (listed : List CodeMember) (one : CodeMember)
    (found others : Forest) → free ≡ index + member_statements (map (member_tree names) listed)
    → ((after : List MemberTree) → member_tree names one ∷ after ≡ member_in free found after)
    → member_tree names one ∷ members_in (index + member_statements (map (member_tree names) (listed ++ one ∷ [])))
    others
    ≡ members_in (index + member_statements (map (member_tree names) listed))
    (Node (One Member) found (Node (Repeated Member) others Empty))
member_in_turn names index free listed one found others is_free is =
    let next : index + member_statements (map (member_tree names) (listed ++ one ∷ []))
    ≡ free + member_statements (member_in free found []) =
    ap (λ (n : ℕ). index + n) (one_member_counted names listed one)
    ∙ (omega (arith, is_free) ∙ ap (λ (trees : List MemberTree). free + member_statements trees) (is [])) in
    ap (λ (n : ℕ). member_tree names one ∷ members_in n others) next
    ∙ (is (members_in (free + member_statements (member_in free found [])) others)
    ∙ ap (λ (n : ℕ). members_in n (Node (One Member) found (Node (Repeated Member) others Empty))) is_free)

-- one more member of a class was read
pub next_member : {index free : ℕ} {whole : List Name → List MemberTree → DeclTree} {from here to : Spot} {depth : ℕ}
    {old now new : List (List ℕ)} {members longer : List CodeMember}
    (one : CodeMember) → longer ≡ members ++ one ∷ []
    → ReadsParts members_of (λ at. at ≡ index) whole depth old now from here members
    → ((names : List Name) → free ≡ index + member_statements (map (member_tree names) members))
    → FoundAs (One Member) depth now new here to (IsMember free one)
    → ReadsParts members_of (λ at. at ≡ index) whole depth old new from to longer
next_member {index} {free} {members = members} one same so is_free found =
    next_part one same so found (λ first starts names more others.
    rw starts (member_in_turn names index free members one found.inside others (is_free names) (found.is names more)))

-- the index that is free after one more member
pub next_member_free : {free after : ℕ} {longer : List CodeMember} (index : ℕ) (members : List CodeMember)
    (one : CodeMember) → longer ≡ members ++ one ∷ []
    → ((names : List Name) → free ≡ index + member_statements (map (member_tree names) members))
    → ((names : List Name) → after ≡ free + member_statements (member_tree names one ∷ []))
    → (names : List Name) → after ≡ index + member_statements (map (member_tree names) longer)
next_member_free index members one same is_free is_after names =
    rw same (omega (arith, is_free names, is_after names, one_member_counted names members one))
