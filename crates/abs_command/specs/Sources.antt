-- When a source has a program, and when it is refused for its first offence. In these definitions `text` is the bytes
-- of the source.
--
--   `IsProgramOf`                                      the program of a source
--   `FirstOffence`, `HasOffence`                       the refusal of a source
--   `IsTree`                                           the tree of an accepted source, and its names
--   `HasOneFirstOffence`                               that a source is refused for at most one offence
--   `IsPiece`, `IsNameOf`                              a piece of a source, a name of its program
use Rattle.std.specs.Prelude.{◌≡◌, ◌⊎◌, ℕ, List, [], ◌++◌, Contains, fold}
use Rattle.abs_tree.specs.Names.{with_name}
use Rattle.abs_tree.specs.Syntax.{Name, SourceTree, ProgramTree}
use Rattle.abs_tree.specs.declared.refusal.Refusal.{Refusal}
use Rattle.abs_lexer.specs.Answers.{RefusesLexing}
use Rattle.abs_lexer.specs.Tokens.{TokenList, TokensOf}
use Rattle.abs_parser.specs.Texts.{IsTextOf, StopsWith}
use Rattle.abs_names.specs.Answers.{RefusesFirst}
use Rattle.abs_names.specs.NameOffences.{name_offences}
use Rattle.abs_prelude.specs.Prelude.{prelude_names}
use Rattle.abs_names.specs.Resolution.{resolved}
use Rattle.abs_types.specs.TypeOffences.{type_offences}
use Rattle.abs_profile.specs.Profile.{profile_offences}

-- The source has tokens and is accepted; these are its names and its tree.
pub record IsTree (text : List ℕ) (names : List Name) (tree : SourceTree) : Type 0 where
  pub list : TokenList
  pub tokens : TokensOf text list
  pub is : IsTextOf list names tree

-- The source has a tree in which no name offends. This is its program, whose names are resolved; its table has the
-- names of the source, followed by those of the prelude. It has no offence by its types and none of the profile.
pub record IsProgramOf (text : List ℕ) (program : ProgramTree) : Type 0 where
  pub names : List Name
  pub tree : SourceTree
  pub read : IsTree text names tree
  pub no_offence : name_offences tree ≡ []
  pub is : program.source ≡ resolved tree
  pub names_are : program.names ≡ fold with_name names prelude_names
  pub typed : type_offences program.source ≡ []
  pub profiled : profile_offences program.source ≡ []

-- The source is refused for its first offence, in one of five ways. It has a lexical offence, and this is the first. It
-- has tokens, and the parser fails at one of them or at the end. It has a tree, and this is the first of its name
-- offences. It has a tree without name offences, and this is the first of its offences by types. It has a tree without
-- any of these, and this is the first of its profile offences.
pub data FirstOffence (text : List ℕ) (refusal : Refusal) : Type 0 where
  unlexed : RefusesLexing text refusal → FirstOffence text refusal
  unread : (list : TokenList) → TokensOf text list → StopsWith list refusal → FirstOffence text refusal
  misnamed : (names : List Name) (tree : SourceTree) → IsTree text names tree
      → RefusesFirst (name_offences tree) refusal → FirstOffence text refusal
  mistyped : (names : List Name) (tree : SourceTree) → IsTree text names tree → name_offences tree ≡ []
      → RefusesFirst (type_offences (resolved tree)) refusal → FirstOffence text refusal
  outside_profile : (names : List Name) (tree : SourceTree) → IsTree text names tree → name_offences tree ≡ []
      → type_offences (resolved tree) ≡ [] → RefusesFirst (profile_offences (resolved tree)) refusal
      → FirstOffence text refusal

-- the source has an offence
abbrev pub HasOffence : List ℕ → Type 0
HasOffence text = (refusal : Refusal) × FirstOffence text refusal

-- the name is a piece of the source
pub record IsPiece (text name : List ℕ) : Type 0 where
  pub front : List ℕ
  pub after : List ℕ
  pub is : text ≡ front ++ (name ++ after)

-- the name is a piece of the source or a name of the prelude
abbrev pub IsNameOf : List ℕ → List ℕ → Type 0
IsNameOf text name = IsPiece text name ⊎ Contains prelude_names name

-- A source is refused for at most one offence: any two refusals of it are equal.
abbrev pub HasOneFirstOffence : List ℕ → Type 0
HasOneFirstOffence text = (one other : Refusal) → FirstOffence text one → FirstOffence text other → one ≡ other
