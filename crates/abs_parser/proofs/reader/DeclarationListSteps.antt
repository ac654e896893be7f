-- The steps of the parsing functions of declarations, one after another. They say which tokens begin a declaration, and
-- what was read before the next one. That comes with the trees of the declarations in the code, and with the index that
-- is free after them.
use Rattle.std.proofs.Common.{◌≡◌, ◌≤◌, ℕ, ◌+◌, Bool, true, false, List, [], ◌∷◌, ◌++◌, length, map, refl, sym, ap, ◌∙◌, arith}
use Rattle.std.proofs.lemmas.List.{append-nil, map-append}
use Rattle.std.specs.List.{list_any}
use denote.Enum.Bare.{sameb}
use Rattle.abs_lexer.specs.contracts.lexeme.Keyword.{the_type as keywords}
use Rattle.abs_lexer.specs.declared.lexeme.Keyword.{Keyword}
use Rattle.abs_lexer.specs.declared.lexeme.Keyword.TheVariants as keyword
use Rattle.abs_lexer.specs.declared.lexeme.Lexeme.{Lexeme}
use Rattle.abs_lexer.specs.declared.lexeme.Lexeme.TheVariants as lexeme
use Rattle.abs_lexer.specs.declared.lexeme.Punctuator.TheVariants as punctuator
use Rattle.abs_lexer.specs.Tokens.{Lexed}
use Rattle.abs_tree.specs.Syntax.{DeclTree, DataTree, FunctionTree, InterfaceTree, ClassTree}
use Rattle.abs_tree.specs.SyntaxViews.{decl_tree}
use Rattle.abs_tree.specs.SyntaxSizes.{decl_statements}
use Rattle.abs_tree.specs.declared.syntax.declaration.Decl.{Decl as CodeDecl}
use Rattle.abs_parser.specs.Answers.{GoesOn}
use Rattle.abs_parser.specs.TokenKinds.{PunctuatorKind, fits, next}
use Rattle.abs_parser.specs.Productions.{Decl, Block, begins, begins_within}
use Rattle.abs_parser.specs.Readings.{One, Repeated, Subgoal, Forest, Empty, Node}
use Rattle.abs_parser.specs.ReaderAnswers.{left_at, asked, wrong_at, FoundAs, IsRefused, AreRefused}
use Rattle.abs_parser.specs.Tokens.{Spot, TakesToken}
use Rattle.abs_parser.specs.TreesOf.{decl_in, decls_in}
use Rattle.abs_tree.specs.declared.source_error.SourceError.{SourceError}
use Rattle.abs_tree.specs.declared.source_error.SourceError.TheVariants.{Refused}
use Rattle.abs_parser.proofs.reader.DeclarationSteps.{no_part}
use Rattle.abs_parser.proofs.grammar.FirstTokens.{BeginsBy, begins_next, IsNoneOf, none_found}
use Rattle.abs_parser.proofs.grammar.NameLemmas.{goes_on_further}
use Rattle.abs_parser.proofs.reader.PatternSteps.{next_end}
use Rattle.abs_parser.proofs.reader.RepeatSteps.{in_front, over_one_more, none_before}
use Rattle.abs_parser.proofs.reader.StatementSteps.{block_shut}
use Rattle.abs_parser.proofs.reader.FoundLemmas.{found_goes_on}
use Rattle.abs_parser.proofs.reader.StepLemmas.{HasRead, inside_alone, left_whole, opens, over_part, all_read, refused_inside, refused_after, refused_alike, refused_shut}
use Rattle.abs_parser.proofs.grammar.NonterminalLemmas.{part_shut, part_begun, repeated_opened, repeated_ends}
use Rattle.list_facts.proofs.MapLemmas.{map-append_one}

-- The first token

-- the keywords that begin a declaration
abbrev pub declaration_keywords : List Keyword
declaration_keywords = keyword.Data ∷ keyword.Def ∷ keyword.Interface ∷ keyword.Class ∷ []

-- whether a declaration may begin with a token of this lexeme
abbrev begins_declaration : Lexeme → Bool
begins_declaration (lexeme.Keyword keyword) = list_any (sameb keywords keyword) declaration_keywords
begins_declaration _ = false

-- the test agrees with the grammar on each lexeme
declaration_reported : (kind : Lexeme) → begins_declaration kind ≡ begins Decl (asked kind)
unfolding begins begins_within
declaration_reported (lexeme.Keyword keyword.Data) = refl
declaration_reported _ = refl

-- the test decides which tokens a declaration may begin with
declaration_kinds : BeginsBy Decl begins_declaration
unfolding begins begins_within
declaration_kinds = record { reported = declaration_reported; local_too = refl; abs_too = refl; library_too = refl }

-- no declaration begins with another keyword
pub no_declaration_keyword : {token : Lexed} {from after : Spot} (keyword : Keyword) → TakesToken token from after
    → token.kind ≡ lexeme.Keyword keyword → IsNoneOf declaration_keywords keyword
    → false ≡ begins Decl (next (left_at from))
no_declaration_keyword keyword takes is none =
    begins_next declaration_kinds (lexeme.Keyword keyword) takes is
    (none_found keywords tt declaration_keywords keyword none)

-- no declaration begins with a lexeme that is no keyword
no_keyword_begins : (kind : Lexeme) → ((keyword : Keyword) → kind ≡ lexeme.Keyword keyword → ⊥)
    → false ≡ begins_declaration kind
no_keyword_begins (lexeme.Keyword keyword) no_word = absurd (no_word keyword refl)
no_keyword_begins _ no_word = refl

-- no declaration begins with a token that is no keyword
pub no_declaration_kind : {token : Lexed} {from after : Spot} → TakesToken token from after
    → ((keyword : Keyword) → token.kind ≡ lexeme.Keyword keyword → ⊥)
    → false ≡ begins Decl (next (left_at from))
no_declaration_kind {token} takes no_word =
    begins_next declaration_kinds token.kind takes refl (no_keyword_begins token.kind no_word)

-- no declaration begins at the end of the source
pub no_declaration_at_end : (from : Spot) → from.rest ≡ [] → false ≡ begins Decl (next (left_at from))
unfolding begins begins_within
no_declaration_at_end from ended = rw (next_end from ended) refl

-- a declaration is refused where none may begin
pub refused_no_declaration : (from : Spot) (error : SourceError) → error ≡ Refused (wrong_at from)
    → false ≡ begins Decl (next (left_at from))
    → IsRefused (Subgoal (One Decl) 0) from error
refused_no_declaration from error is none = rw is (refused_shut (One Decl) 0 from (part_shut Decl _ 0 (sym none)))

-- One declaration

-- this declaration was read from its first index, and its tree comes before any others
abbrev pub IsDeclaration : ℕ → CodeDecl → List (List ℕ) → Forest → Type 0
IsDeclaration index decl names inside = (others : List DeclTree)
    → decl_tree names decl ∷ others ≡ decl_in index inside others

-- Declarations

-- Declarations were read up to here from a first index. Their trees are those that the code has, and the index after
-- them is free. The trees of further declarations come after these.
pub record DeclsSoFar (old now : List (List ℕ)) (index free : ℕ) (from here : Spot) (listed : List CodeDecl) : Type 0
  where
    pub make : Forest → Forest
    pub read : HasRead (Repeated Decl) 0 old now from make (Subgoal (Repeated Decl) 0 ∷ []) here
    pub is : (names : List (List ℕ)) → GoesOn now names → (inside : Forest)
        → decls_in index (make (Node (Repeated Decl) inside Empty)) ≡ map (decl_tree names) listed ++ decls_in free inside
    pub is_free : (names : List (List ℕ)) → free ≡ index + decl_statements (map (decl_tree names) listed)
    pub few : free + length here.rest ≤ index + length from.rest

-- at first no declaration was read, since the repeated part is left as a whole
none_so_far : (table : List (List ℕ)) (index : ℕ) (from : Spot)
    → HasRead (Repeated Decl) 0 table table from inside_alone (Subgoal (Repeated Decl) 0 ∷ []) from
    → DeclsSoFar table table index index from from []
none_so_far table index from read = record {
  make = inside_alone;
  read = read;
  is = λ names more inside. refl;
  is_free = λ names. omega arith;
  few = omega arith;
}

-- at first no declaration was read, whether one may begin here or not
none_by : (may : Bool) (table : List (List ℕ)) (index : ℕ) (from : Spot) → begins Decl (next (left_at from)) ≡ may
    → DeclsSoFar table table index index from from []
none_by true table index from is =
    none_so_far table index from (left_whole (Repeated Decl) 0 table from _ (repeated_opened Decl _ 0 is))
none_by false table index from is =
    none_so_far table index from (left_whole (Repeated Decl) 0 table from _ (repeated_ends Decl _ 0 is))

-- so at first no declaration was read
pub no_declaration_yet : (table : List (List ℕ)) (index : ℕ) (from : Spot) {listed : List CodeDecl} → listed ≡ []
    → DeclsSoFar table table index index from from listed
no_declaration_yet table index from none = rw none (none_by (begins Decl (next (left_at from))) table index from refl)

-- the statement counts of two lists of declarations add up
decls_counted : (first others : List DeclTree)
    → decl_statements (first ++ others) ≡ decl_statements first + decl_statements others
decls_counted [] others = omega arith
decls_counted (ClassTree place name params implemented members ∷ first) others =
    omega (arith, decls_counted first others)
decls_counted (DataTree place name parameters constructors ∷ first) others = decls_counted first others
decls_counted (FunctionTree place result name parameters params value ∷ first) others = decls_counted first others
decls_counted (InterfaceTree place name extended signatures ∷ first) others = decls_counted first others

-- one more declaration adds its statement count to that of the declarations before it
one_declaration_counted : (names : List (List ℕ)) (listed : List CodeDecl) (decl : CodeDecl)
    → decl_statements (map (decl_tree names) (listed ++ decl ∷ []))
    ≡ decl_statements (map (decl_tree names) listed) + decl_statements (decl_tree names decl ∷ [])
one_declaration_counted names listed decl =
    ap decl_statements (map-append (decl_tree names) listed (decl ∷ []))
    ∙ decls_counted (map (decl_tree names) listed) (decl_tree names decl ∷ [])

-- one more declaration comes before the further ones, whose indices begin after its own
declaration_in_turn : (names : List (List ℕ)) (free after : ℕ) (decl : CodeDecl) (found inside : Forest)
    → after ≡ free + decl_statements (decl_tree names decl ∷ [])
    → ((others : List DeclTree) → decl_tree names decl ∷ others ≡ decl_in free found others)
    → decls_in free (Node (One Decl) found (Node (Repeated Decl) inside Empty)) ≡ decl_tree names decl
    ∷ decls_in after inside
declaration_in_turn names free after decl found inside is_after is =
    let next : free + decl_statements (decl_in free found []) ≡ after =
    ap (λ (trees : List DeclTree). free + decl_statements trees) (sym (is [])) ∙ sym is_after in
    sym (is (decls_in (free + decl_statements (decl_in free found [])) inside))
    ∙ ap (λ (n : ℕ). decl_tree names decl ∷ decls_in n inside) next

-- one more declaration was read
pub next_declaration : {old now new : List (List ℕ)} {index free after : ℕ} {from here to : Spot}
    {listed longer : List CodeDecl} (decl : CodeDecl) → longer ≡ listed ++ decl ∷ []
    → DeclsSoFar old now index free from here listed → FoundAs (One Decl) 0 now new here to (IsDeclaration free decl)
    → ((names : List (List ℕ)) → after ≡ free + decl_statements (decl_tree names decl ∷ []))
    → after + length to.rest ≤ free + length here.rest → DeclsSoFar old new index after from to longer
next_declaration {index = index} {free} {after} {listed = listed} decl same so found is_after few = rw same (record {
  make = λ rest. so.make (in_front Decl found.inside rest);
  read = over_one_more so.read (repeated_opened Decl _ 0 (part_begun Decl _ 0 found.rule_is)) found;
  is = λ names more inside.
      so.is names (goes_on_further (found_goes_on found) more)
      (Node (One Decl) found.inside (Node (Repeated Decl) inside Empty))
      ∙ (ap (λ (trees : List DeclTree). map (decl_tree names) listed ++ trees)
      (declaration_in_turn names free after decl found.inside inside (is_after names) (found.is names more))
      ∙ sym (map-append_one (decl_tree names) listed decl (decls_in after inside)));
  is_free = λ names. omega (arith, so.is_free names, is_after names, one_declaration_counted names listed decl);
  few = omega (arith, so.few, few);
})

-- the next lemma, by cases of whether one more declaration may begin
refused_by : (may : Bool) {old now : List (List ℕ)} {index free : ℕ} {from here : Spot} {listed : List CodeDecl}
    (error : SourceError) → begins Decl (next (left_at here)) ≡ may
    → DeclsSoFar old now index free from here listed
    → fits (PunctuatorKind punctuator.OpenBrace) (next (left_at here)) ≡ false
    → IsRefused (Subgoal (One Decl) 0) here error
    → AreRefused (Subgoal (Repeated Decl) 0 ∷ Subgoal (One Block) 0 ∷ []) from error
refused_by true {now = now} {here = here} error e so other refused = λ items.
    refused_inside so.read error (refused_inside (opens (Repeated Decl) 0 now here _ (repeated_opened Decl _ 0 e)) error
    refused) (Subgoal (One Block) 0 ∷ items)
refused_by false {now = now} {here = here} error e so other refused =
    refused_after (Subgoal (One Block) 0) so.read (no_part Decl 0 now here e) error
    (refused_alike (One Decl) 0 (One Block) 0 here error (part_shut Decl _ 0 e) (block_shut _ 0 other) refused)

-- where the main block is not next, what refuses one more declaration refuses the declarations with the block
pub refused_declaration : {old now : List (List ℕ)} {index free : ℕ} {from here : Spot} {listed : List CodeDecl}
    (error : SourceError)
    → DeclsSoFar old now index free from here listed
    → fits (PunctuatorKind punctuator.OpenBrace) (next (left_at here)) ≡ false
    → IsRefused (Subgoal (One Decl) 0) here error
    → AreRefused (Subgoal (Repeated Decl) 0 ∷ Subgoal (One Block) 0 ∷ []) from error
refused_declaration {here = here} error so other refused =
    refused_by (begins Decl (next (left_at here))) error refl so other refused

-- no declaration begins with "{"
no_declaration_opens : begins Decl (PunctuatorKind punctuator.OpenBrace) ≡ false
unfolding begins begins_within
no_declaration_opens = refl

-- so where "{" is next, these are all the declarations
pub declarations_found : {old now : List (List ℕ)} {index free : ℕ} {from here : Spot} {listed : List CodeDecl}
    → DeclsSoFar old now index free from here listed
    → fits (PunctuatorKind punctuator.OpenBrace) (next (left_at here)) ≡ true
    → FoundAs (Repeated Decl) 0 old now from here (λ names inside. map (decl_tree names) listed ≡ decls_in index inside)
declarations_found {now = now} {index} {free} {here = here} {listed = listed} so opens_block =
    let none = none_before Decl punctuator.OpenBrace 0 now here no_declaration_opens opens_block in
    all_read (over_part so.read none) (λ names more.
    sym (so.is names more none.inside
    ∙ (ap (λ (inside : Forest). map (decl_tree names) listed ++ decls_in free inside) (none.is names more)
    ∙ append-nil (map (decl_tree names) listed))))
