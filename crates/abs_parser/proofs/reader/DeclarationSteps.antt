-- The steps of the parsing functions of declarations. They read the keyword and the name of a declaration, and the
-- parts that repeat up to a closing token. The parts that were read so far come with their trees. Constructors and data
-- types follow, given the next token.
use Rattle.std.proofs.Common.{◌≡◌, ◌≤◌, ℕ, true, false, List, [], ◌∷◌, ◌++◌, map, Some, None, refl, sym, ap, ◌∙◌}
use Rattle.std.specs.Prelude.{⊤}
use Rattle.std.proofs.lemmas.List.{append-nil}
use Rattle.abs_tree.specs.Names.{with_name, number_of_name}
use Rattle.abs_tree.specs.declared.place.Place.{Place}
use Rattle.abs_tree.specs.declared.symbol.Symbol.{Symbol as NameSymbol}
use Rattle.abs_tree.specs.declared.syntax.declaration.Constructor.{Constructor as CodeConstructor}
use Rattle.abs_tree.specs.declared.syntax.declaration.Declared.{Declared}
use Rattle.abs_tree.specs.Syntax.{Name, DeclaredTree, ConstructorTree, DeclTree, DataTree}
use Rattle.abs_tree.specs.SyntaxViews.{declared as declared_tree, type_trees, constructor_tree}
use Rattle.abs_lexer.specs.declared.lexeme.Keyword.{Keyword}
use Rattle.abs_lexer.specs.declared.lexeme.Keyword.TheVariants as keyword
use Rattle.abs_lexer.specs.declared.lexeme.Lexeme.{Lexeme}
use Rattle.abs_lexer.specs.declared.lexeme.Lexeme.TheVariants as lexeme
use Rattle.abs_lexer.specs.declared.lexeme.Punctuator.TheVariants as punctuator
use Rattle.abs_lexer.specs.Tokens.{Lexed}
use Rattle.abs_parser.specs.Answers.{GoesOn}
use Rattle.abs_parser.specs.TokenKinds.{Mark, Token, TokenKind, UpperName, KeywordKind, PunctuatorKind, token_kind_of, fits, next}
use Rattle.abs_parser.specs.Productions.{Nonterminal, Decl, Constructor, NextConstructor, ConstructorTypes, TypeParameters, begins, begins_within, chosen}
use Rattle.abs_parser.specs.Readings.{One, Optional, Repeated, Wanted, Terminal, Subgoal, opened, Forest, Empty, Leaf, Node}
use Rattle.abs_parser.specs.ReaderAnswers.{left_at, asked, TakesKind, FoundAs, IsRefused, is_asked}
use Rattle.abs_parser.specs.Stops.{limit}
use Rattle.abs_parser.specs.Tokens.{Spot}
use Rattle.abs_parser.specs.TreesOf.{names_maybe, constructor_types, constructor_in, more_constructors, decl_in, decl_by}
use Rattle.abs_tree.specs.declared.source_error.SourceError.{SourceError}
use Rattle.abs_parser.proofs.grammar.NameLemmas.{goes_on_further}
use Rattle.abs_parser.proofs.reader.FoundLemmas.{is_name, found_goes_on, symbol_kept}
use Rattle.abs_parser.proofs.reader.StepLemmas.{HasRead, opens, over_token, over_name, over_part, all_read, refused_inside, fits_next}
use Rattle.abs_parser.proofs.grammar.NonterminalLemmas.{begins_with_token, part_shut, part_begun, part_opened, repeated_opened, repeated_ends}
use Rattle.abs_parser.proofs.reader.PatternSteps.{next_taken, nothing_found}
use Rattle.abs_parser.proofs.reader.RepeatSteps.{in_front, over_one_more, refused_up_to, ends_at}
use Rattle.abs_parser.proofs.reader.NameListSteps.{declared_kept}
use Rattle.abs_parser.proofs.reader.KeywordSteps.{keyword_read}
use Rattle.list_facts.proofs.MapLemmas.{map-append_one}

-- Parts that repeat up to a closing token

-- a declaration without statements may have any first index
abbrev pub AnyIndex : ℕ → Type 0
AnyIndex index = ⊤

-- The parts of a declaration that repeat up to a closing token: their nonterminal, this token, and their trees. `tree`
-- gives the tree of a part in the code. `trees_in` gives those that were read, by the first index of the declaration
-- and the trees before them.
pub record Parts (Listed Tree : Type 0) : Type 0 where
  pub nonterminal : Nonterminal
  pub closing : Lexeme
  pub closing_asked : is_asked closing ≡ true
  pub closing_unnamed : is_name closing ≡ false
  pub closing_ends : (kind : TokenKind) → fits (asked closing) kind ≡ true → begins nonterminal kind ≡ false
  pub tree : List Name → Listed → Tree
  pub trees_in : ℕ → List Tree → Forest → List Tree
  pub trees_none : (index : ℕ) (before : List Tree) → trees_in index before Empty ≡ []

-- A declaration was read up to here, with the trees of these parts in the code. They give the tree of the whole. Any
-- further parts and the closing token complete it, if the declaration has one of these first indices.
pub record ReadsParts {Listed Tree : Type 0} (parts : Parts Listed Tree) (Starts : ℕ → Type 0)
    (whole : List Name → List Tree → DeclTree) (depth : ℕ) (old now : List (List ℕ)) (from here : Spot)
    (listed : List Listed) : Type 0 where
  pub make : Forest → Forest
  pub read : HasRead (One Decl) depth old now from make
      (Subgoal (Repeated parts.nonterminal) depth ∷ Terminal (asked parts.closing) depth ∷ []) here
  pub is : (index : ℕ) → Starts index → (names : List Name) → GoesOn now names
      → (inside : Forest) (mark : Mark) (at : ℕ) (others : List DeclTree)
      → decl_in index (make (Node (Repeated parts.nonterminal) inside (Leaf mark at Empty))) others
      ≡ whole names (map (parts.tree names) listed ++ parts.trees_in index (map (parts.tree names) listed) inside)
      ∷ others

-- one more of the parts was read
pub next_part : {Listed Tree : Type 0} {parts : Parts Listed Tree} {Starts : ℕ → Type 0}
    {whole : List Name → List Tree → DeclTree} {depth : ℕ} {old now new : List (List ℕ)} {from here to : Spot}
    {listed longer : List Listed}
    {is_read : List (List ℕ) → Forest → Type 0} (one : Listed) → longer ≡ listed ++ one ∷ []
    → ReadsParts parts Starts whole depth old now from here listed
    → (found : FoundAs (One parts.nonterminal) depth now new here to is_read)
    → ((index : ℕ) → Starts index → (names : List Name) → GoesOn new names → (others : Forest)
    → parts.tree names one ∷ parts.trees_in index (map (parts.tree names) (listed ++ one ∷ [])) others
    ≡ parts.trees_in index (map (parts.tree names) listed)
    (Node (One parts.nonterminal) found.inside (Node (Repeated parts.nonterminal) others Empty)))
    → ReadsParts parts Starts whole depth old new from to longer
next_part {parts = parts} {whole = whole} {depth} {listed = listed} one same so found is = rw same (record {
  make = λ rest. so.make (in_front parts.nonterminal found.inside rest);
  read = over_one_more so.read (repeated_opened parts.nonterminal _ depth
      (part_begun parts.nonterminal _ depth found.rule_is)) found;
  is = λ index starts names more inside mark at others.
      so.is index starts names (goes_on_further (found_goes_on found) more)
      (Node (One parts.nonterminal) found.inside (Node (Repeated parts.nonterminal) inside Empty)) mark at others
      ∙ ap (λ trees. whole names trees ∷ others)
      (ap (λ trees. map (parts.tree names) listed ++ trees) (sym (is index starts names more inside))
      ∙ sym (map-append_one (parts.tree names) listed one
      (parts.trees_in index (map (parts.tree names) (listed ++ one ∷ [])) inside)));
})

-- where the closing token is not next, what refuses one more part refuses the declaration
pub refused_part : {Listed Tree : Type 0} {parts : Parts Listed Tree} {Starts : ℕ → Type 0}
    {whole : List Name → List Tree → DeclTree} {depth : ℕ} {old now : List (List ℕ)} {from here : Spot}
    {listed : List Listed} (error : SourceError)
    → ReadsParts parts Starts whole depth old now from here listed
    → fits (asked parts.closing) (next (left_at here)) ≡ false
    → IsRefused (Subgoal (One parts.nonterminal) depth) here error
    → IsRefused (Subgoal (One Decl) depth) from error
refused_part {parts = parts} error so other refused = refused_up_to (asked parts.closing) error so.read other refused

-- where no further part begins, the repetition is empty
pub no_part : (nonterminal : Nonterminal) (depth : ℕ) (table : List (List ℕ)) (here : Spot)
    → begins nonterminal (next (left_at here)) ≡ false
    → FoundAs (Repeated nonterminal) depth table table here here (λ names inside. inside ≡ Empty)
no_part nonterminal depth table here ends =
    nothing_found (Repeated nonterminal) depth table here (repeated_ends nonterminal _ depth ends)

-- where no further part begins, what refuses the closing token refuses the declaration
pub refused_closing : {Listed Tree : Type 0} {parts : Parts Listed Tree} {Starts : ℕ → Type 0}
    {whole : List Name → List Tree → DeclTree} {depth : ℕ} {old now : List (List ℕ)} {from here : Spot}
    {listed : List Listed} (error : SourceError)
    → ReadsParts parts Starts whole depth old now from here listed
    → begins parts.nonterminal (next (left_at here)) ≡ false
    → IsRefused (Terminal (asked parts.closing) depth) here error
    → IsRefused (Subgoal (One Decl) depth) from error
refused_closing {parts = parts} {depth = depth} {now = now} {here = here} error so ends refused =
    refused_inside (over_part so.read (no_part parts.nonterminal depth now here ends)) error refused

-- with its closing token the declaration is found
pub all_parts : {Listed Tree : Type 0} {parts : Parts Listed Tree} {Starts : ℕ → Type 0}
    {whole : List Name → List Tree → DeclTree} {depth : ℕ} {old now : List (List ℕ)} {from here end : Spot}
    {token : Lexed} {listed : List Listed}
    → ReadsParts parts Starts whole depth old now from here listed → TakesKind parts.closing token here end
    → depth ≤ limit
    → FoundAs (One Decl) depth old now from end
    (λ names inside. (index : ℕ) → Starts index → (others : List DeclTree)
    → whole names (map (parts.tree names) listed) ∷ others ≡ decl_in index inside others)
all_parts {parts = parts} {whole = whole} {depth} {now = now} {here = here} {token = token} {listed} so takes within =
    let none = no_part parts.nonterminal depth now here (parts.closing_ends _ (fits_next parts.closing_asked takes)) in
    all_read (over_token (over_part so.read none) takes parts.closing_asked parts.closing_unnamed within)
    (λ names more index starts others.
    let before = map (parts.tree names) listed in
    sym (so.is index starts names more none.inside (Token token) depth others ∙ ap (λ trees. whole names trees ∷ others)
    (ap (λ inside. before ++ parts.trees_in index before inside) (none.is names more)
    ∙ (ap (λ trees. before ++ trees) (parts.trees_none index before) ∙ append-nil (map (parts.tree names) listed)))))

-- The first token of a declaration

-- the keyword that opens a declaration and the name after it were read
pub heading_read : {keyword : Keyword} {left : List Wanted} {token name : Lexed} {from name_at after : Spot} {depth : ℕ}
    {old table : List (List ℕ)}
    → opened (One Decl) (KeywordKind keyword) depth
    ≡ Some (Terminal (KeywordKind keyword) depth ∷ Terminal UpperName depth ∷ left)
    → TakesKind (lexeme.Keyword keyword) token from name_at
    → TakesKind lexeme.UpperName name name_at after → table ≡ with_name old name.bytes → depth ≤ limit
    → HasRead (One Decl) depth old table from (λ rest. Leaf (Token token) depth (Leaf (Token name) depth rest)) left
    after
heading_read {depth = depth} {old} is keyword name named within =
    over_name (keyword_read depth old is keyword within) name refl refl within named

-- the tree of a declaration is the one for its keyword
pub by_keyword : {keyword : Keyword} {token : Lexed} {from after : Spot} (index depth : ℕ) (inside : Forest)
    (others : List DeclTree) → TakesKind (lexeme.Keyword keyword) token from after
    → decl_in index (Leaf (Token token) depth inside) others
    ≡ decl_by index (KeywordKind keyword) token.place inside others
by_keyword {token = token} index depth inside others takes =
    ap (λ (kind : Lexeme). decl_by index (token_kind_of kind token.bytes) token.place inside others) takes.kind_is

-- Constructors

-- this constructor was read
abbrev pub IsConstructor : CodeConstructor → List (List ℕ) → Forest → Type 0
IsConstructor constructor names inside = (others : List ConstructorTree)
    → constructor_tree names constructor ∷ others ≡ constructor_in inside others

-- a constructor begins with its name
constructor_begins : (kind : TokenKind) → begins Constructor kind ≡ fits UpperName kind
constructor_begins kind = begins_with_token Constructor kind refl

-- an upper-case name opens a constructor
pub constructor_opened : (kind : TokenKind) (depth : ℕ) → fits UpperName kind ≡ true
    → opened (One Constructor) kind depth
    ≡ Some (Terminal UpperName depth ∷ Subgoal (Optional ConstructorTypes) depth ∷ [])
constructor_opened kind depth fit = part_opened Constructor kind depth refl refl (constructor_begins kind ∙ fit)

-- nothing else opens a constructor
pub constructor_shut : (kind : TokenKind) (depth : ℕ) → fits UpperName kind ≡ false
    → opened (One Constructor) kind depth ≡ None
constructor_shut kind depth differs = part_shut Constructor kind depth (constructor_begins kind ∙ differs)

-- the name of a constructor was read and added to the table
pub constructor_named : {name : Lexed} {from after : Spot} {depth : ℕ} {old table : List (List ℕ)}
    → TakesKind lexeme.UpperName name from after → table ≡ with_name old name.bytes → depth ≤ limit
    → HasRead (One Constructor) depth old table from (λ rest. Leaf (Token name) depth rest)
    (Subgoal (Optional ConstructorTypes) depth ∷ []) after
constructor_named {from = from} {depth = depth} {old} name is within =
    over_name (opens (One Constructor) depth old from _ (constructor_opened _ depth (fits_next refl name))) name refl
    refl within is

-- a constructor with its name and its types is found
pub constructor_found : {name : Lexed} {from types_at end : Spot} {depth : ℕ} {old table new : List (List ℕ)}
    (constructor : CodeConstructor) → constructor.name.place ≡ name.place
    → TakesKind lexeme.UpperName name from types_at
    → constructor.name.name.0 ≡ number_of_name old name.bytes → table ≡ with_name old name.bytes
    → FoundAs (Optional ConstructorTypes) depth table new types_at end
    (λ names inside. type_trees names constructor.types.items ≡ constructor_types inside) → depth ≤ limit
    → FoundAs (One Constructor) depth old new from end (IsConstructor constructor)
constructor_found {name} {old = old} constructor same takes number is types within =
    all_read (over_part (constructor_named takes is within) types) (λ names more others.
    rw (
      same,
      symbol_kept old constructor.name.name number is names (goes_on_further (found_goes_on types) more),
      types.is names more,
    ) refl)

-- Data types

-- no further constructor begins with ";"
pub no_constructor_closes : begins NextConstructor (PunctuatorKind punctuator.Semicolon) ≡ false
unfolding begins begins_within
no_constructor_closes = refl

-- the constructors of a data type repeat up to ";"
abbrev pub constructors_of : Parts CodeConstructor ConstructorTree
constructors_of = record {
  nonterminal = NextConstructor;
  closing = lexeme.Punctuator punctuator.Semicolon;
  closing_asked = refl;
  closing_unnamed = refl;
  closing_ends = ends_at NextConstructor punctuator.Semicolon no_constructor_closes;
  tree = constructor_tree;
  trees_in = λ index before. more_constructors;
  trees_none = λ index before. refl;
}

-- a further constructor begins with "|"
pub next_constructor_begins : (kind : TokenKind)
    → begins NextConstructor kind ≡ fits (PunctuatorKind punctuator.Bar) kind
next_constructor_begins kind = begins_with_token NextConstructor kind refl

-- "|" was read
bar_read : {bar : Lexed} {from after : Spot} (depth : ℕ) (table : List (List ℕ))
    → TakesKind (lexeme.Punctuator punctuator.Bar) bar from after → depth ≤ limit
    → HasRead (One NextConstructor) depth table table from (λ rest. Leaf (Token bar) depth rest)
    (Subgoal (One Constructor) depth ∷ []) after
bar_read {from = from} depth table takes within =
    over_token (opens (One NextConstructor) depth table from _
    (part_opened NextConstructor _ depth refl refl (next_constructor_begins _ ∙ fits_next refl takes))) takes refl refl
    within

-- what follows the name of a data type
abbrev pub after_data : ℕ → List Wanted
after_data at =
    Subgoal (Optional TypeParameters) at ∷ Terminal (PunctuatorKind punctuator.Assign) at ∷ Subgoal (One Constructor) at
    ∷ Subgoal (Repeated NextConstructor) at ∷ Terminal (PunctuatorKind punctuator.Semicolon) at ∷ []

-- `data` opens a declaration
pub data_opened : (depth : ℕ) → opened (One Decl) (KeywordKind keyword.Data) depth
    ≡ Some (Terminal (KeywordKind keyword.Data) depth ∷ Terminal UpperName depth ∷ after_data depth)
unfolding begins chosen begins_within
data_opened depth = refl

-- the tree of a data type, given the trees of its constructors
abbrev pub data_of : Place → Declared → List Declared → List Name → List ConstructorTree → DeclTree
data_of place name parameters names constructors =
    DataTree place (declared_tree names name) (map (declared_tree names) parameters) constructors

-- the keyword, the name and the parameters of a data type were read, and "="
pub data_assigned : {token name equals : Lexed} {from name_at after equals_at first_at : Spot} {depth : ℕ}
    {old table now : List (List ℕ)} {is_read : List (List ℕ) → Forest → Type 0}
    → TakesKind (lexeme.Keyword keyword.Data) token from name_at → TakesKind lexeme.UpperName name name_at after
    → table ≡ with_name old name.bytes
    → (parameters : FoundAs (Optional TypeParameters) depth table now after equals_at is_read)
    → TakesKind (lexeme.Punctuator punctuator.Assign) equals equals_at first_at → depth ≤ limit
    → HasRead (One Decl) depth old now from
    (λ rest. Leaf (Token token) depth
    (Leaf (Token name) depth (Node (Optional TypeParameters) parameters.inside (Leaf (Token equals) depth rest))))
    (Subgoal (One Constructor) depth ∷ Subgoal (Repeated NextConstructor) depth
    ∷ Terminal (PunctuatorKind punctuator.Semicolon) depth ∷ []) first_at
data_assigned {depth = depth} token name is parameters equals within =
    over_token (over_part (heading_read (data_opened depth) token name is within) parameters) equals refl refl within

-- the trees of two data types with equal parts are equal
data_made : {name held_name : DeclaredTree} {parameters held_parameters : List DeclaredTree}
    {constructors held_constructors : List ConstructorTree} (place : Place) (others : List DeclTree)
    → held_name ≡ name → held_parameters ≡ parameters → held_constructors ≡ constructors
    → DataTree place name parameters constructors ∷ others ≡ DataTree place held_name held_parameters held_constructors
    ∷ others
data_made place others name parameters constructors = rw (name, parameters, constructors) refl

-- a data type was read with its first constructor
pub first_constructor : {token name equals : Lexed} {from name_at after equals_at first_at here : Spot} {depth : ℕ}
    {old table now new : List (List ℕ)} {constructors : List CodeConstructor}
    (symbol : NameSymbol) (listed : List Declared) (first : CodeConstructor) → constructors ≡ first ∷ []
    → TakesKind (lexeme.Keyword keyword.Data) token from name_at → TakesKind lexeme.UpperName name name_at after
    → symbol.0 ≡ number_of_name old name.bytes → table ≡ with_name old name.bytes
    → FoundAs (Optional TypeParameters) depth table now after equals_at
    (λ names inside. map (declared_tree names) listed ≡ names_maybe inside)
    → TakesKind (lexeme.Punctuator punctuator.Assign) equals equals_at first_at
    → FoundAs (One Constructor) depth now new first_at here (IsConstructor first) → depth ≤ limit
    → ReadsParts constructors_of AnyIndex (data_of token.place (record { place = name.place; name = symbol }) listed)
    depth old new from here constructors
first_constructor {token} {name} {equals} {depth = depth} {old} symbol listed first same takes takes_name number is
    parameters takes_equals found within = rw same (record {
      make = λ rest. Leaf (Token token) depth
          (Leaf (Token name) depth (Node (Optional TypeParameters) parameters.inside
          (Leaf (Token equals) depth (Node (One Constructor) found.inside rest))));
      read = over_part (data_assigned takes takes_name is parameters takes_equals within) found;
      is = λ index starts names more inside mark at others.
          let since = goes_on_further (found_goes_on found) more in
          by_keyword index depth _ others takes
          ∙ data_made token.place others (declared_kept old name symbol number is names
          (goes_on_further (found_goes_on parameters) since)) (parameters.is names since)
          (found.is names more (more_constructors inside));
    })

-- one more constructor was read after "|"
pub next_constructor : {whole : List Name → List ConstructorTree → DeclTree} {bar : Lexed}
    {from here constructor_at to : Spot} {depth : ℕ} {old now new : List (List ℕ)}
    {constructors longer : List CodeConstructor}
    (constructor : CodeConstructor) → longer ≡ constructors ++ constructor ∷ []
    → ReadsParts constructors_of AnyIndex whole depth old now from here constructors
    → TakesKind (lexeme.Punctuator punctuator.Bar) bar here constructor_at
    → FoundAs (One Constructor) depth now new constructor_at to (IsConstructor constructor) → depth ≤ limit
    → ReadsParts constructors_of AnyIndex whole depth old new from to longer
next_constructor {bar = bar} {depth = depth} {now = now} {new = new} constructor same so takes found within =
    let next : FoundAs (One NextConstructor) depth now new _ _
    (λ names inside. inside ≡ Leaf (Token bar) depth (Node (One Constructor) found.inside Empty)) =
    all_read (over_part (bar_read depth now takes within) found) (λ names more. refl) in
    next_part constructor same so next (λ index starts names more others.
    found.is names more (more_constructors others)
    ∙ sym (ap (λ inside. more_constructors
    (Node (One NextConstructor) inside (Node (Repeated NextConstructor) others Empty))) (next.is names more)))

-- after "|", what refuses the constructor refuses the data type
pub refused_constructor : {whole : List Name → List ConstructorTree → DeclTree} {bar : Lexed}
    {from here constructor_at : Spot} {depth : ℕ} {old now : List (List ℕ)} {constructors : List CodeConstructor}
    (error : SourceError)
    → ReadsParts constructors_of AnyIndex whole depth old now from here constructors
    → TakesKind (lexeme.Punctuator punctuator.Bar) bar here constructor_at → depth ≤ limit
    → IsRefused (Subgoal (One Constructor) depth) constructor_at error → IsRefused (Subgoal (One Decl) depth) from error
refused_constructor {depth = depth} {now = now} error so takes within refused =
    refused_part error so (ap (fits (PunctuatorKind punctuator.Semicolon)) (next_taken takes))
    (refused_inside (bar_read depth now takes within) error refused)
