-- The names that a source declares for its constructors, classes and methods are names that were read. So the table of
-- the names read has each of them. What holds of each name read is shown of the declared ones, part by part.
use Rattle.std.proofs.Common.{◌≡◌, ℕ, ◌+◌, Bool, true, false, cond, List, [], ◌∷◌, ◌++◌, All, Contains, refl, fold}
use Rattle.std.proofs.lemmas.List.Elements.{All-append, All-cons, All-contains_itself, All-head, All-nil, All-tail, Contains-append_left, Contains-push}
use Rattle.std.proofs.lemmas.Map.Views.{Contains-from_any}
use Rattle.std.proofs.lemmas.Slice.Eq.{bytes_eq-Decides}
use Rattle.std.specs.List.{list_any}
use Rattle.std.specs.Str.{bytes_eq}
use Rattle.abs_lexer.specs.Tokens.{TokenList}
use Rattle.abs_lexer.specs.declared.lexeme.Keyword.TheVariants as keyword
use Rattle.abs_lexer.specs.declared.lexeme.Punctuator.TheVariants as punctuator
use Rattle.abs_tree.specs.declared.place.Place.{Place}
use Rattle.abs_tree.specs.DeclaredNames.{constructor_names, signature_names, member_names, decls_names, declared_names}
use Rattle.abs_tree.specs.Names.{with_name}
use Rattle.abs_tree.specs.Syntax.{Name, TypeTree, DeclaredTree, ConstructorTree, SignatureTree, MemberTree, DeclTree, SourceTree}
use Rattle.abs_tree.specs.SyntaxSizes.{member_statements, decl_statements}
use Rattle.abs_parser.specs.Productions.{Program, Module, Import, Decl, Constructor, NextConstructor, ConstructorTypes, Params, Signature, Member, MemberTail, Type', Block}
use Rattle.abs_parser.specs.ReaderAnswers.{name_first, names_before}
use Rattle.abs_parser.specs.Readings.{One, Optional, Repeated, Terminal, Subgoal, Forest, Empty, Leaf, Node, IsProgram}
use Rattle.abs_parser.specs.Texts.{IsTextOf}
use Rattle.abs_parser.specs.TokenKinds.{Mark, TokenKind, LowerName, LocalName, UpperName, AbsName, StdLibName, KeywordKind, PunctuatorKind, End, place_of_mark, token_kind, fits, marks}
use Rattle.abs_parser.specs.TreesOf.{written, type_in, declared, constructor_in, more_constructors, signature_in, signatures_in, member_by, member_in, members_in, decl_by, decl_in, decls_in, text_in, tree_of}
use Rattle.abs_parser.proofs.grammar.InsideLemmas.{IsReadAs, IsInside, IsAfterFirst, token_fits, after_token, in_part, after_part, in_one, after_first, as_opened, in_repeated}
use Rattle.abs_parser.proofs.grammar.NameLemmas.{goes_on_all}
use Rattle.abs_parser.proofs.reader.ClassSteps.{after_class, class_opened}
use Rattle.abs_parser.proofs.reader.DeclarationSteps.{after_data, data_opened}
use Rattle.abs_parser.proofs.reader.SignatureSteps.{after_interface, interface_opened}

-- What was read inside a nonterminal

-- a constructor is its name, and perhaps types
in_constructor : {depth : ℕ} {forest : Forest} → IsInside (One Constructor) depth forest
    → IsReadAs (Terminal UpperName depth ∷ Subgoal (Optional ConstructorTypes) depth ∷ []) forest
in_constructor within = in_one Constructor refl refl within

-- a further constructor is a constructor after a bar
in_next_constructor : {depth : ℕ} {forest : Forest} → IsInside (One NextConstructor) depth forest
    → IsReadAs (Terminal (PunctuatorKind punctuator.Bar) depth ∷ Subgoal (One Constructor) depth ∷ []) forest
in_next_constructor within = in_one NextConstructor refl refl within

-- a method of an interface is its type, its name, and perhaps parameters in parentheses
in_signature : {depth : ℕ} {forest : Forest} → IsInside (One Signature) depth forest
    → IsReadAs (Subgoal (One Type') depth ∷ Terminal LowerName depth
    ∷ Terminal (PunctuatorKind punctuator.OpenParen) depth ∷ Subgoal (Optional Params) depth
    ∷ Terminal (PunctuatorKind punctuator.CloseParen) depth ∷ Terminal (PunctuatorKind punctuator.Semicolon) depth ∷ [])
    forest
in_signature within = in_one Signature refl refl within

-- a member is its type, its name, and what follows them
in_member : {depth : ℕ} {forest : Forest} → IsInside (One Member) depth forest
    → IsReadAs (Subgoal (One Type') depth ∷ Terminal LowerName depth ∷ Subgoal (One MemberTail) depth ∷ []) forest
in_member within = in_one Member refl refl within

-- a program is two lines that may be left out, declarations, and the main block
in_program : {depth : ℕ} {forest : Forest} → IsInside (One Program) depth forest
    → IsReadAs (Subgoal (Optional Module) depth ∷ Subgoal (Optional Import) depth ∷ Subgoal (Repeated Decl) depth
    ∷ Subgoal (One Block) depth ∷ Terminal End depth ∷ []) forest
in_program within = in_one Program refl refl within

-- What holds of each name read holds of each declared name

module _ (P : Name → Type 0) where
  -- it holds of an upper-case name that is read first
  upper_first : (kind : TokenKind) (name : Name) (others : List Name) → fits UpperName kind ≡ true
      → All P (name_first kind name others) → P name
  upper_first UpperName name others fit all = All-head P name others all
  upper_first AbsName name others fit all = All-head P name others all
  upper_first StdLibName name others fit all = All-head P name others all
  upper_first _ name others fit all = cc

  -- it holds of a lower-case name that is read first
  lower_first : (kind : TokenKind) (name : Name) (others : List Name) → fits LowerName kind ≡ true
      → All P (name_first kind name others) → P name
  lower_first LowerName name others fit all = All-head P name others all
  lower_first LocalName name others fit all = All-head P name others all
  lower_first _ name others fit all = cc

  -- it holds of the names after a token
  token_left : (kind : TokenKind) (name : Name) (others : List Name) → All P (name_first kind name others)
      → All P others
  token_left LowerName name others all = All-tail P name others all
  token_left LocalName name others all = All-tail P name others all
  token_left UpperName name others all = All-tail P name others all
  token_left AbsName name others all = All-tail P name others all
  token_left StdLibName name others all = All-tail P name others all
  token_left _ name others all = all

  -- it holds of the names after a forest
  forest_left : (forest : Forest) (others : List Name) → All P (names_before forest others) → All P others
  forest_left Empty others all = all
  forest_left (Leaf mark depth after) others all =
      forest_left after others (token_left (token_kind mark) (written mark) (names_before after others) all)
  forest_left (Node goal inside after) others all =
      forest_left after others (forest_left inside (names_before after others) all)

  -- it holds of a constructor's name, and of those of other constructors
  constructor_all : {depth : ℕ} (forest : Forest) (after : List Name) (others : List ConstructorTree)
      → IsInside (One Constructor) depth forest → All P (names_before forest after)
      → All P (constructor_names others) → All P (constructor_names (constructor_in forest others))
  constructor_all (Leaf name _ (Node _ types end)) after others within all each =
      All-cons P (written name) (constructor_names others)
      (upper_first (token_kind name) (written name) (names_before types (names_before end after))
      (token_fits (in_constructor within)) all) each
  constructor_all _ after others within all each = each

  -- it holds of the names of further constructors
  more_constructors_all : {depth : ℕ} (forest : Forest) (after : List Name)
      → IsInside (Repeated NextConstructor) depth forest → All P (names_before forest after)
      → All P (constructor_names (more_constructors forest))
  more_constructors_all (Node _ (Leaf bar _ (Node _ constructor end)) (Node _ others last)) after within all =
      let reading = in_repeated NextConstructor within in
      let rest = names_before last after in
      let later = names_before end (names_before others rest) in
      let here = token_left (token_kind bar) (written bar) (names_before constructor later) all in
      constructor_all constructor later (more_constructors others)
      (in_part (after_token (in_next_constructor (in_part reading)))) here
      (more_constructors_all others rest (in_part (after_part reading))
      (forest_left end (names_before others rest) (forest_left constructor later here)))
  more_constructors_all _ after within all = All-nil P

  -- it holds of the name of a method of an interface, and of those of others
  signature_all : {depth : ℕ} (forest : Forest) (after : List Name) (others : List SignatureTree)
      → IsInside (One Signature) depth forest → All P (names_before forest after) → All P (signature_names others)
      → All P (signature_names (signature_in forest others))
  signature_all (Node _ type (Leaf name depth (Leaf opening at (Node goal params end)))) after others within all each =
      let left = Leaf opening at (Node goal params end) in
      All-cons P (written name) (signature_names others)
      (lower_first (token_kind name) (written name) (names_before left after)
      (token_fits (after_part (in_signature within)))
      (forest_left type (names_before (Leaf name depth left) after) all)) each
  signature_all _ after others within all each = each

  -- it holds of the names of the methods of an interface
  signatures_all : {depth : ℕ} (forest : Forest) (after : List Name) → IsInside (Repeated Signature) depth forest
      → All P (names_before forest after) → All P (signature_names (signatures_in forest))
  signatures_all (Node _ signature (Node _ others last)) after within all =
      let reading = in_repeated Signature within in
      let rest = names_before last after in
      signature_all signature (names_before others rest) (signatures_in others) (in_part reading) all
      (signatures_all others rest (in_part (after_part reading))
      (forest_left signature (names_before others rest) all))
  signatures_all _ after within all = All-nil P

  -- it holds of a method's name, and of those of other members
  member_by_all : (index : ℕ) (type : TypeTree) (name : DeclaredTree) (forest : Forest) (others : List MemberTree)
      → P name.name → All P (member_names others) → All P (member_names (member_by index type name forest ∷ others))
  member_by_all index type name (Leaf opening _ (Node _ params (Leaf closing _ (Node _ block _)))) others here each =
      All-cons P name.name (member_names others) here each
  member_by_all index type name (Leaf equals _ (Node _ expr (Leaf semicolon _ _))) others here each = each
  member_by_all index type name _ others here each = each

  -- the same for the forest of the whole member
  member_all : {depth : ℕ} (index : ℕ) (forest : Forest) (after : List Name) (others : List MemberTree)
      → IsInside (One Member) depth forest → All P (names_before forest after) → All P (member_names others)
      → All P (member_names (member_in index forest others))
  member_all index (Node _ type (Leaf name depth (Node goal tail end))) after others within all each =
      member_by_all index (type_in type) (declared name) tail others
      (lower_first (token_kind name) (written name) (names_before tail (names_before end after))
      (token_fits (after_part (in_member within)))
      (forest_left type (names_before (Leaf name depth (Node goal tail end)) after) all)) each
  member_all index _ after others within all each = each

  -- it holds of the names of the methods of a class
  members_all : {depth : ℕ} (index : ℕ) (forest : Forest) (after : List Name)
      → IsInside (Repeated Member) depth forest → All P (names_before forest after)
      → All P (member_names (members_in index forest))
  members_all index (Node _ member (Node _ others last)) after within all =
      let next = index + member_statements (member_in index member []) in
      let reading = in_repeated Member within in
      let rest = names_before last after in
      member_all index member (names_before others rest) (members_in next others) (in_part reading) all
      (members_all next others rest (in_part (after_part reading))
      (forest_left member (names_before others rest) all))
  members_all index _ after within all = All-nil P

  -- it holds of the names of a data type's constructors
  data_all : {depth : ℕ} (index : ℕ) (place : Place) (forest : Forest) (after : List Name) (others : List DeclTree)
      → IsReadAs (Terminal UpperName depth ∷ after_data depth) forest → All P (names_before forest after)
      → All P (decls_names others) → All P (decls_names (decl_by index (KeywordKind keyword.Data) place forest others))
  data_all index place (Leaf name _ (Node _ parameters (Leaf equals _ (Node _ first (Node _ more end))))) after others
      reading all each =
      let firsts = after_token (after_part (after_token reading)) in
      let last = names_before end after in
      let later = names_before more last in
      let assigned = name_first (token_kind equals) (written equals) (names_before first later) in
      let here = token_left (token_kind equals) (written equals) (names_before first later)
      (forest_left parameters assigned
      (token_left (token_kind name) (written name) (names_before parameters assigned) all)) in
      All-append P (constructor_names (constructor_in first (more_constructors more))) (decls_names others)
      (constructor_all first later (more_constructors more) (in_part firsts) here
      (more_constructors_all more last (in_part (after_part firsts)) (forest_left first later here))) each
  data_all index place _ after others reading all each = each

  -- it holds of the names of an interface's methods
  interface_all : {depth : ℕ} (index : ℕ) (place : Place) (forest : Forest) (after : List Name)
      (others : List DeclTree) → IsReadAs (Terminal UpperName depth ∷ after_interface depth) forest
      → All P (names_before forest after) → All P (decls_names others)
      → All P (decls_names (decl_by index (KeywordKind keyword.Interface) place forest others))
  interface_all index place (Leaf name _ (Node _ extended (Leaf opening _ (Node _ signatures end)))) after others
      reading all each =
      let last = names_before end after in
      let opened = name_first (token_kind opening) (written opening) (names_before signatures last) in
      All-append P (signature_names (signatures_in signatures)) (decls_names others)
      (signatures_all signatures last (in_part (after_token (after_part (after_token reading))))
      (token_left (token_kind opening) (written opening) (names_before signatures last)
      (forest_left extended opened
      (token_left (token_kind name) (written name) (names_before extended opened) all)))) each
  interface_all index place _ after others reading all each = each

  -- it holds of the name of a class, and of those of its methods
  class_all : {depth : ℕ} (index : ℕ) (place : Place) (forest : Forest) (after : List Name) (others : List DeclTree)
      → IsReadAs (Terminal UpperName depth ∷ after_class depth) forest → All P (names_before forest after)
      → All P (decls_names others) → All P (decls_names (decl_by index (KeywordKind keyword.Class) place forest others))
  class_all index place (Leaf name _ (Node _ params (Node _ implemented (Leaf opening _ (Node _ members end))))) after
      others reading all each =
      let last = names_before end after in
      let opened = name_first (token_kind opening) (written opening) (names_before members last) in
      let named = names_before params (names_before implemented opened) in
      let later = forest_left implemented opened (forest_left params (names_before implemented opened)
      (token_left (token_kind name) (written name) named all)) in
      let inside = in_part (after_token (after_part (after_part (after_token reading)))) in
      All-append P (written name ∷ member_names (members_in index members)) (decls_names others)
      (All-cons P (written name) (member_names (members_in index members))
      (upper_first (token_kind name) (written name) named (token_fits reading) all)
      (members_all index members last inside
      (token_left (token_kind opening) (written opening) (names_before members last) later))) each
  class_all index place _ after others reading all each = each

  -- it holds of the names of a declaration, by its first token, and of those of other declarations
  decl_by_all : {depth : ℕ} (index : ℕ) (kind : TokenKind) (place : Place) (forest : Forest) (after : List Name)
      (others : List DeclTree) → IsAfterFirst Decl kind depth forest → All P (names_before forest after)
      → All P (decls_names others) → All P (decls_names (decl_by index kind place forest others))
  decl_by_all {depth} index (KeywordKind keyword.Data) place forest after others within all each =
      data_all index place forest after others (as_opened (data_opened depth) within) all each
  decl_by_all {depth} index (KeywordKind keyword.Class) place forest after others within all each =
      class_all index place forest after others (as_opened (class_opened depth) within) all each
  decl_by_all index (KeywordKind keyword.Def) place
      (Node _ type (Leaf name _ (Node _ parameters
      (Leaf opening _ (Node _ params (Leaf closing _ (Leaf equals _ (Node _ expr _)))))))) after others within all
      each = each
  decl_by_all {depth} index (KeywordKind keyword.Interface) place forest after others within all each =
      interface_all index place forest after others (as_opened (interface_opened depth) within) all each
  decl_by_all index _ place forest after others within all each = each

  -- the same for the forest of the whole declaration
  decl_all : {depth : ℕ} (index : ℕ) (forest : Forest) (after : List Name) (others : List DeclTree)
      → IsInside (One Decl) depth forest → All P (names_before forest after) → All P (decls_names others)
      → All P (decls_names (decl_in index forest others))
  decl_all index (Leaf mark _ inside) after others within all each =
      decl_by_all index (token_kind mark) (place_of_mark mark) inside after others (after_first within)
      (token_left (token_kind mark) (written mark) (names_before inside after) all) each
  decl_all index _ after others within all each = each

  -- it holds of the names of all declarations
  decls_all : {depth : ℕ} (index : ℕ) (forest : Forest) (after : List Name) → IsInside (Repeated Decl) depth forest
      → All P (names_before forest after) → All P (decls_names (decls_in index forest))
  decls_all index (Node _ decl (Node _ more last)) after within all =
      let next = index + decl_statements (decl_in index decl []) in
      let reading = in_repeated Decl within in
      let rest = names_before last after in
      decl_all index decl (names_before more rest) (decls_in next more) (in_part reading) all
      (decls_all next more rest (in_part (after_part reading)) (forest_left decl (names_before more rest) all))
  decls_all index _ after within all = All-nil P

  -- it holds of the names that a program declares
  text_all : {depth : ℕ} (forest : Forest) (after : List Name) → IsInside (One Program) depth forest
      → All P (names_before forest after) → All P (declared_names (text_in forest))
  text_all (Node _ heading (Node _ imported (Node _ decls (Node goal block end)))) after within all =
      let last = names_before (Node goal block end) after in
      decls_all 0 decls last (in_part (after_part (after_part (in_program within))))
      (forest_left imported (names_before decls last)
      (forest_left heading (names_before imported (names_before decls last)) all))
  text_all _ after within all = All-nil P

  -- it holds of the names that a source declares
  source_all : (ts : List Mark) (forest : Forest) → IsProgram ts forest → All P (names_before forest [])
      → All P (declared_names (tree_of forest))
  source_all ts (Node goal program others) whole all =
      text_all program (names_before others []) (in_part (record { ts = ts; rest = []; reads = whole.reads })) all
  source_all ts _ whole all = All-nil P

-- each name that a source declares is one of the names read
pub declared_are_read : (ts : List Mark) (forest : Forest) → IsProgram ts forest
    → All (Contains (names_before forest [])) (declared_names (tree_of forest))
declared_are_read ts forest whole =
    source_all (Contains (names_before forest [])) ts forest whole (All-contains_itself (names_before forest []))

-- The table of the names read

-- the table has a name that is added, by cases of whether it was in the table already
added_by : (found : Bool) (table : List Name) (name : Name) → list_any (bytes_eq name) table ≡ found
    → Contains (cond found table (table ++ name ∷ [])) name
added_by true table name found = Contains-from_any (λ one other. (bytes_eq-Decides one other).0) name table found
added_by false table name found = Contains-push table name

-- the table has each name that is added
pub added_are_there : (table added : List Name) → All (Contains (fold with_name table added)) added
added_are_there table [] = All-nil _
added_are_there table (name ∷ added) =
    let grown = with_name table name in
    let more = goes_on_all grown added in
    let here = added_by (list_any (bytes_eq name) table) table name refl in
    All-cons (Contains (fold with_name grown added)) name added
    (rw more.is (Contains-append_left grown more.more name here)) (added_are_there grown added)

-- the table of a source has each name that the source declares
pub declared_are_in_table : (list : TokenList) (names : List Name) (tree : SourceTree) → IsTextOf list names tree
    → All (Contains names) (declared_names tree)
declared_are_in_table list names tree source =
    let read = names_before source.forest [] in
    let there : All (Contains names) read = rw source.names_are (added_are_there [] read) in
    rw source.is (source_all (Contains names) (marks list) source.forest source.accepted.reads there)
