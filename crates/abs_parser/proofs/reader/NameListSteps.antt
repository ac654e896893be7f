-- The steps of the parsing functions of lists of upper-case names. `JoinsName` is one more name after a punctuator.
-- `NamesSoFar` are names after commas, for every nesting depth at once, since no part of such a list is counted.
-- `HasNames` is a nonterminal that is a token, a name, and others after commas, followed by some items.
use Rattle.std.proofs.Common.{◌≡◌, ◌≤◌, ℕ, true, false, List, [], ◌∷◌, ◌++◌, ◌+◌, length, map, refl, sym, ap, ◌∙◌, append_assoc, arith}
use Rattle.std.proofs.lemmas.List.{append-nil, map-append}
use Rattle.abs_lexer.specs.declared.lexeme.Keyword.{Keyword}
use Rattle.abs_lexer.specs.declared.lexeme.Keyword.TheVariants as keyword
use Rattle.abs_lexer.specs.declared.lexeme.Lexeme.{Lexeme}
use Rattle.abs_lexer.specs.declared.lexeme.Lexeme.TheVariants as lexeme
use Rattle.abs_lexer.specs.declared.lexeme.Punctuator.{Punctuator}
use Rattle.abs_lexer.specs.declared.lexeme.Punctuator.TheVariants as punctuator
use Rattle.abs_lexer.specs.Tokens.{Lexed}
use Rattle.abs_tree.specs.Names.{with_name, number_of_name}
use Rattle.abs_tree.specs.Syntax.{Name, DeclaredTree}
use Rattle.abs_tree.specs.SyntaxViews.{declared as declared_tree}
use Rattle.abs_tree.specs.declared.symbol.Symbol as code_symbol
use Rattle.abs_tree.specs.declared.syntax.declaration.Declared.{Declared}
use Rattle.abs_parser.specs.Answers.{GoesOn}
use Rattle.abs_parser.specs.Headings.{nonterminal_of}
use Rattle.abs_parser.specs.TokenKinds.{Token, TokenKind, UpperName, PunctuatorKind, fits, next}
use Rattle.abs_parser.specs.Productions.{Nonterminal, Item, Of, Many, CommaUpper, TypeParameters, upper, punctuation, rule, counts, begins}
use Rattle.abs_parser.specs.Readings.{One, Optional, Repeated, Terminal, Subgoal, place, Forest, Empty, Leaf, Node}
use Rattle.abs_parser.specs.ReaderAnswers.{left_at, asked, TakesKind, FoundAs, IsRefused, is_asked}
use Rattle.abs_parser.specs.Stops.{limit}
use Rattle.abs_parser.specs.Tokens.{Spot}
use Rattle.abs_parser.specs.TreesOf.{declared, more_names, names_maybe}
use Rattle.abs_parser.specs.declared.names.Heading.{Heading}
use Rattle.abs_parser.specs.declared.names.Heading.TheVariants as heading
use Rattle.abs_tree.specs.declared.source_error.SourceError.{SourceError}
use Rattle.abs_parser.proofs.grammar.NameLemmas.{goes_on_further, few_more}
use Rattle.abs_parser.proofs.reader.PatternSteps.{nothing_found}
use Rattle.abs_parser.proofs.reader.FoundLemmas.{is_name, found_weaker, found_goes_on, symbol_kept, token_shorter}
use Rattle.abs_parser.proofs.reader.StepLemmas.{HasRead, opens, over_token, over_name, over_part, into_last, all_read, refused_inside, fits_next}
use Rattle.abs_parser.proofs.grammar.NonterminalLemmas.{begins_with_token, part_opened, optional_opened, optional_left_out, repeated_opened, repeated_ends}

-- a name that was added to a table has the same tree in each table that extends it
pub declared_kept : (old : List (List ℕ)) {table : List (List ℕ)} (token : Lexed) (symbol : code_symbol.Symbol)
    → symbol.0 ≡ number_of_name old token.bytes → table ≡ with_name old token.bytes
    → (names : List (List ℕ)) → GoesOn table names
    → declared_tree names (record { place = token.place; name = symbol }) ≡ declared (Token token)
declared_kept old token symbol number is names more =
    let tree : Name → DeclaredTree = λ name. record { place = token.place; name = name } in
    ap tree (symbol_kept old symbol number is names more)

-- One more name after a punctuator

-- The grammar says that a nonterminal is this punctuator and an upper-case name after it, and that it is not counted.
pub record JoinsName (nonterminal : Nonterminal) (joint : Punctuator) : Type 0 where
  pub nonterminal_is : rule nonterminal ≡ (punctuation joint ∷ upper ∷ []) ∷ []
  pub nonterminal_counts : counts nonterminal ≡ false

-- such a nonterminal begins with the punctuator
pub joint_begins : {nonterminal : Nonterminal} {joint : Punctuator} → JoinsName nonterminal joint → (kind : TokenKind)
    → begins nonterminal kind ≡ fits (PunctuatorKind joint) kind
joint_begins {nonterminal} so kind = begins_with_token nonterminal kind so.nonterminal_is

-- the punctuator was read
pub joint_read : {nonterminal : Nonterminal} {joint : Punctuator} {token : Lexed} {from after : Spot} (depth : ℕ)
    (table : List (List ℕ)) → JoinsName nonterminal joint
    → TakesKind (lexeme.Punctuator joint) token from after → depth ≤ limit
    → HasRead (One nonterminal) depth table table from (λ rest. Leaf (Token token) depth rest)
    (Terminal UpperName depth ∷ []) after
joint_read {nonterminal} {from = from} depth table so takes within =
    over_token (opens (One nonterminal) depth table from _
    (part_opened nonterminal _ depth so.nonterminal_is so.nonterminal_counts
    (joint_begins so _ ∙ fits_next refl takes))) takes refl refl within

-- the punctuator with the name after it is found
pub joined_name_found : {nonterminal : Nonterminal} {joint : Punctuator} {token name : Lexed}
    {from name_at after : Spot} {old table : List (List ℕ)} (depth : ℕ) → JoinsName nonterminal joint
    → TakesKind (lexeme.Punctuator joint) token from name_at → TakesKind lexeme.UpperName name name_at after
    → table ≡ with_name old name.bytes → depth ≤ limit
    → FoundAs (One nonterminal) depth old table from after
    (λ names inside. inside ≡ Leaf (Token token) depth (Leaf (Token name) depth Empty))
joined_name_found {old = old} depth so joint takes is within =
    all_read (over_name (joint_read depth old so joint within) takes refl refl within is) (λ names more. refl)

-- Names after commas

-- `CommaUpper` is a comma and a name
joined_by_comma : JoinsName CommaUpper punctuator.Comma
joined_by_comma = record { nonterminal_is = refl; nonterminal_counts = refl }

-- a comma opens the names after commas
commas_begin : {comma : Lexed} {from after : Spot} (depth : ℕ) (table : List (List ℕ))
    → TakesKind (lexeme.Punctuator punctuator.Comma) comma from after
    → HasRead (Repeated CommaUpper) depth table table from (λ rest. rest)
    (Subgoal (One CommaUpper) depth ∷ Subgoal (Repeated CommaUpper) depth ∷ []) from
commas_begin {from = from} depth table comma =
    opens (Repeated CommaUpper) depth table from _
    (repeated_opened CommaUpper _ depth (joint_begins joined_by_comma _ ∙ fits_next refl comma))

-- the tree of one more name comes just before the others
one_after : (names : List Name) (listed : List Declared) (last : Declared) (others : List DeclaredTree)
    → map (declared_tree names) (listed ++ last ∷ []) ++ others ≡ map (declared_tree names) listed
    ++ declared_tree names last ∷ others
one_after names listed last others =
    ap (λ (trees : List DeclaredTree). trees ++ others) (map-append (declared_tree names) listed (last ∷ []))
    ∙ append_assoc (map (declared_tree names) listed) (declared_tree names last ∷ []) others

-- Names after commas were read up to here, and the code has them after a first one. Further names that are found here
-- are found together with these before them. What refuses further names refuses all of them.
pub record NamesSoFar (old now : List (List ℕ)) (from here : Spot) (first : Declared) (listed : List Declared) : Type 0
  where
    pub few : length now + length here.rest ≤ length old + length from.rest
    pub found : (depth : ℕ) → depth ≤ limit → {new : List (List ℕ)} {to : Spot} (others : List Name → List DeclaredTree)
        → FoundAs (Repeated CommaUpper) depth now new here to (λ names inside. others names ≡ more_names inside)
        → FoundAs (Repeated CommaUpper) depth old new from to
        (λ names inside. map (declared_tree names) listed ++ others names ≡ declared_tree names first ∷ more_names inside)
    pub refused : (depth : ℕ) → depth ≤ limit → (error : SourceError)
        → IsRefused (Subgoal (Repeated CommaUpper) depth) here error
        → IsRefused (Subgoal (Repeated CommaUpper) depth) from error

-- at first the code has only the first name
pub first_name_so_far : (table : List (List ℕ)) (from : Spot) (first : Declared) {listed : List Declared}
    → listed ≡ first ∷ [] → NamesSoFar table table from from first listed
first_name_so_far table from first items = record {
  few = omega arith;
  found = λ depth within others found. found_weaker found (λ names more same.
      ap (λ (l : List Declared). map (declared_tree names) l ++ others names) items
      ∙ ap (λ (trees : List DeclaredTree). declared_tree names first ∷ trees) same);
  refused = λ depth within error refused. refused;
}

-- a comma and a name are found together with the further names after them
next_name_found : {comma name : Lexed} {from name_at after to : Spot} {old table new : List (List ℕ)}
    (symbol : code_symbol.Symbol) (depth : ℕ) (others : List Name → List DeclaredTree)
    → TakesKind (lexeme.Punctuator punctuator.Comma) comma from name_at → TakesKind lexeme.UpperName name name_at after
    → symbol.0 ≡ number_of_name old name.bytes → table ≡ with_name old name.bytes → depth ≤ limit
    → FoundAs (Repeated CommaUpper) depth table new after to (λ names inside. others names ≡ more_names inside)
    → FoundAs (Repeated CommaUpper) depth old new from to
    (λ names inside. declared_tree names (record { place = name.place; name = symbol }) ∷ others names
    ≡ more_names inside)
next_name_found {name = name} {from = from} {after = after} {old} {table} symbol depth others comma takes number is
    within found =
    let one = joined_name_found depth joined_by_comma comma takes is within in
    all_read (over_part (over_part (commas_begin depth old comma) one) found) (λ names more.
    let since = goes_on_further (found_goes_on found) more in
    ap (λ (tree : DeclaredTree). tree ∷ others names) (declared_kept old name symbol number is names since)
    ∙ (ap (λ (trees : List DeclaredTree). declared (Token name) ∷ trees) (found.is names more)
    ∙ sym (ap (λ (inside : Forest).
    more_names (Node (One CommaUpper) inside (Node (Repeated CommaUpper) found.inside Empty))) (one.is names since))))

-- one more name after a comma was read
pub next_name_so_far : {comma name : Lexed} {old now table : List (List ℕ)} {from here name_at after : Spot}
    {first : Declared} {listed longer : List Declared} (symbol : code_symbol.Symbol)
    → NamesSoFar old now from here first listed → longer ≡ listed ++ record { place = name.place; name = symbol } ∷ []
    → TakesKind (lexeme.Punctuator punctuator.Comma) comma here name_at → TakesKind lexeme.UpperName name name_at after
    → symbol.0 ≡ number_of_name now name.bytes → table ≡ with_name now name.bytes
    → NamesSoFar old table from after first longer
next_name_so_far {name = name} {now = now} {listed = listed} symbol before items comma takes number is = record {
  few = omega (
    arith,
    before.few,
    token_shorter comma.takes,
    token_shorter takes.takes,
    ap length is,
    few_more now
        (name.bytes ∷ []),
  );
  found = λ depth within others found.
      let last : Declared = record { place = name.place; name = symbol } in
      found_weaker (before.found depth within (λ names. declared_tree names last ∷ others names)
      (next_name_found symbol depth others comma takes number is within found)) (λ names more same.
      ap (λ (l : List Declared). map (declared_tree names) l ++ others names) items
      ∙ (one_after names listed last (others names) ∙ same));
  refused = λ depth within error refused.
      before.refused depth within error
      (refused_inside (over_part (commas_begin depth now comma)
      (joined_name_found depth joined_by_comma comma takes is within)) error refused);
}

-- after a comma, what refuses the name refuses all of them
pub refused_next_name : {comma : Lexed} {old now : List (List ℕ)} {from here name_at : Spot} {first : Declared}
    {listed : List Declared} (depth : ℕ) (error : SourceError)
    → NamesSoFar old now from here first listed → TakesKind (lexeme.Punctuator punctuator.Comma) comma here name_at
    → depth ≤ limit → IsRefused (Terminal UpperName depth) name_at error
    → IsRefused (Subgoal (Repeated CommaUpper) depth) from error
refused_next_name {now = now} depth error before comma within refused =
    before.refused depth within error
    (refused_inside (commas_begin depth now comma) error
    (refused_inside (joint_read depth now joined_by_comma comma within) error refused))

-- where no comma is next, all the names are found
pub all_names_found : {old now : List (List ℕ)} {from here : Spot} {first : Declared} {listed : List Declared}
    (depth : ℕ) → NamesSoFar old now from here first listed
    → fits (PunctuatorKind punctuator.Comma) (next (left_at here)) ≡ false → depth ≤ limit
    → FoundAs (Repeated CommaUpper) depth old now from here
    (λ names inside. map (declared_tree names) listed ≡ declared_tree names first ∷ more_names inside)
all_names_found {now = now} {here = here} {listed = listed} depth before other within =
    let none = nothing_found (Repeated CommaUpper) depth now here
    (repeated_ends CommaUpper _ depth (joint_begins joined_by_comma _ ∙ other)) in
    found_weaker (before.found depth within (λ names. []) (found_weaker none (λ names more is. sym (ap more_names is))))
    (λ names more same. sym (append-nil (map (declared_tree names) listed)) ∙ same)

-- Such names after a token and a first name

-- The grammar says that a nonterminal is a token of this lexeme, a name, any number of names after commas, and these
-- items. The nonterminal is not counted, and its first token is no name.
pub record HasNames (nonterminal : Nonterminal) (kind : Lexeme) (items : List Item) : Type 0 where
  pub nonterminal_is : rule nonterminal ≡ (Of (asked kind) ∷ upper ∷ Many CommaUpper ∷ items) ∷ []
  pub nonterminal_counts : counts nonterminal ≡ false
  pub kind_asked : is_asked kind ≡ true
  pub no_name : is_name kind ≡ false

-- the nonterminal of a heading is this keyword and a list of names
abbrev pub HeadsNames : Heading → Keyword → Type 0
HeadsNames of keyword = HasNames (nonterminal_of of) (lexeme.Keyword keyword) []

-- `Extends` is such a nonterminal
pub extends_names : {of : Heading} {which : Keyword} → of ≡ heading.Extends → which ≡ keyword.Extends
    → HeadsNames of which
extends_names of_is word_is = rw (of_is, word_is)
    (record { nonterminal_is = refl; nonterminal_counts = refl; kind_asked = refl; no_name = refl })

-- `Implements` is such a nonterminal
pub implements_names : {of : Heading} {which : Keyword} → of ≡ heading.Implements → which ≡ keyword.Implements
    → HeadsNames of which
implements_names of_is word_is =
    rw (of_is, word_is) (record { nonterminal_is = refl; nonterminal_counts = refl; kind_asked = refl; no_name = refl })

-- type parameters are such names after "<", followed by ">"
pub type_parameter_names : HasNames TypeParameters (lexeme.Punctuator punctuator.Less)
    (punctuation punctuator.Greater ∷ [])
type_parameter_names = record { nonterminal_is = refl; nonterminal_counts = refl; kind_asked = refl; no_name = refl }

-- where its first token is not next, the list is left out
pub no_names_found : {nonterminal : Nonterminal} {kind : Lexeme} {items : List Item} (depth : ℕ) (table : List (List ℕ))
    (from : Spot) {listed : List Declared} → HasNames nonterminal kind items
    → fits (asked kind) (next (left_at from)) ≡ false → listed ≡ []
    → FoundAs (Optional nonterminal) depth table table from from
    (λ names inside. map (declared_tree names) listed ≡ names_maybe inside)
no_names_found {nonterminal} depth table from so other none =
    found_weaker (nothing_found (Optional nonterminal) depth table from
    (optional_left_out nonterminal _ depth (begins_with_token nonterminal _ so.nonterminal_is ∙ other)))
    (λ names more is. ap (map (declared_tree names)) none ∙ sym (ap names_maybe is))

-- the first token of the list was read
pub names_begin : {nonterminal : Nonterminal} {kind : Lexeme} {items : List Item} {first : Lexed} {from name_at : Spot}
    (depth : ℕ) (table : List (List ℕ)) → HasNames nonterminal kind items
    → TakesKind kind first from name_at → depth ≤ limit
    → HasRead (Optional nonterminal) depth table table from
    (λ rest. Node (One nonterminal) (Leaf (Token first) depth rest) Empty)
    (Terminal UpperName depth ∷ Subgoal (Repeated CommaUpper) depth ∷ place depth items) name_at
names_begin {nonterminal} {from = from} depth table so takes within =
    let begun = begins_with_token nonterminal _ so.nonterminal_is ∙ fits_next so.kind_asked takes in
    into_last (opens (Optional nonterminal) depth table from _ (optional_opened nonterminal _ depth begun))
    (over_token (opens (One nonterminal) depth table from _
    (part_opened nonterminal _ depth so.nonterminal_is so.nonterminal_counts begun)) takes so.kind_asked so.no_name
    within)

-- The names were read, with their trees, and these items are left after them.
pub record NamesRead (nonterminal : Nonterminal) (depth : ℕ) (old new : List (List ℕ)) (from to : Spot)
    (items : List Item) (trees : List Name → List DeclaredTree) : Type 0 where
  pub make : Forest → Forest
  pub read : HasRead (Optional nonterminal) depth old new from make (place depth items) to
  pub is : (names : List Name) → GoesOn new names → (rest : Forest) → trees names ≡ names_maybe (make rest)

-- the first name and those after commas were read
pub names_read : {nonterminal : Nonterminal} {kind : Lexeme} {items : List Item} {first name : Lexed}
    {from name_at after to : Spot} {old table new : List (List ℕ)} {depth : ℕ}
    (of_name : code_symbol.Symbol) (trees : List Name → List DeclaredTree) → HasNames nonterminal kind items
    → TakesKind kind first from name_at → TakesKind lexeme.UpperName name name_at after
    → of_name.0 ≡ number_of_name old name.bytes → table ≡ with_name old name.bytes → depth ≤ limit
    → FoundAs (Repeated CommaUpper) depth table new after to
    (λ names inside. trees names ≡ declared_tree names (record { place = name.place; name = of_name })
    ∷ more_names inside)
    → NamesRead nonterminal depth old new from to items trees
names_read {name = name} {old = old} {depth = depth} of_name trees so first takes number is within found = record {
  make = λ rest. Node (One _) (Leaf (Token _) depth
      (Leaf (Token name) depth (Node (Repeated CommaUpper) found.inside rest))) Empty;
  read = over_part (over_name (names_begin depth old so first within) takes refl refl within is) found;
  is = λ names more rest. found.is names more
      ∙ ap (λ (tree : DeclaredTree). tree ∷ more_names found.inside)
      (declared_kept old name of_name number is names (goes_on_further (found_goes_on found) more));
}
