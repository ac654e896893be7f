-- How the statements of a source are numbered: from 0, in the order in which they begin. The statements of the methods
-- of classes come first, followed by those of the main block.
--
--   `MembersAreNumbered`                               the statements of the methods of a class
--   `DeclsAreNumbered`                                 those of the classes of a source
--   `IsNumberedWhole`                                  all of a source
use Rattle.std.specs.Prelude.{⊤, ℕ, ◌+◌, List, [], ◌∷◌}
use Rattle.abs_tree.specs.Syntax.{MemberTree, FieldTree, MethodTree, DeclTree, ClassTree, SourceTree}
use Rattle.abs_tree.specs.SyntaxNumbers.{AreNumbered}
use Rattle.abs_tree.specs.SyntaxSizes.{statement_count, member_statements, decl_statements}

-- the statements of the methods of a class; a field has none
abbrev pub MembersAreNumbered : ℕ → List MemberTree → Type 0
MembersAreNumbered first [] = ⊤
MembersAreNumbered first (MethodTree signature end body ∷ others) =
    AreNumbered first body × MembersAreNumbered (first + statement_count body) others
MembersAreNumbered first (FieldTree type name initial ∷ others) = MembersAreNumbered first others

-- the statements of declarations, of which only a class has any
abbrev pub DeclsAreNumbered : ℕ → List DeclTree → Type 0
DeclsAreNumbered first [] = ⊤
DeclsAreNumbered first (ClassTree place name params implemented members ∷ others) =
    MembersAreNumbered first members × DeclsAreNumbered (first + member_statements members) others
DeclsAreNumbered first (_ ∷ others) = DeclsAreNumbered first others

-- a source: those of its declarations, and then those of its main block
pub record IsNumberedWhole (source : SourceTree) : Type 0 where
  pub declarations_are : DeclsAreNumbered 0 source.declarations
  pub main_is : AreNumbered (decl_statements source.declarations) source.main
