-- The statements in the trees of a reading are numbered from the first index, in the order in which they begin.
use Rattle.std.proofs.Common.{ℕ, ◌+◌, List, [], ◌∷◌, refl, subst, arith}
use Rattle.abs_tree.specs.declared.place.Place.{Place}
use Rattle.abs_tree.specs.Syntax.{Name, TypeTree, DeclaredTree, MemberTree, DeclTree, Statement, BlockOf}
use Rattle.abs_tree.specs.SyntaxNumbers.{IsNumbered, BranchIsNumbered, AreNumbered}
use Rattle.abs_tree.specs.SyntaxSizes.{count_of, statement_count, member_statements, decl_statements}
use Rattle.abs_tree.specs.SourceNumbers.{MembersAreNumbered, DeclsAreNumbered, IsNumberedWhole}
use Rattle.abs_lexer.specs.declared.lexeme.Keyword.TheVariants as keyword
use Rattle.abs_parser.specs.TokenKinds.{Mark, TokenKind, LowerName, LocalName, KeywordKind, place_of_mark, token_kind}
use Rattle.abs_parser.specs.Readings.{Forest, Empty, Leaf, Node}
use Rattle.abs_parser.specs.TreesOf.{written, declared, type_in, after_variable, after_field, after_this, branch_of, statement_in, statement_by, else_in, block_in, statements_in, member_by, member_in, members_in, decl_by, decl_in, decls_in, text_in, tree_of}

-- a statement that begins with a variable has the first index
after_variable_numbered : (index : ℕ) (place : Place) (name : Name) (forest : Forest)
    → IsNumbered index (after_variable index place name forest)
after_variable_numbered index place name (Leaf equals _ (Node _ rhs _)) = refl
after_variable_numbered index place name (Node _ arguments (Node _ rest _)) = refl
after_variable_numbered index place name _ = refl

-- the same for one that begins with a field
after_field_numbered : (index : ℕ) (place name_place : Place) (name : Name) (forest : Forest)
    → IsNumbered index (after_field index place name_place name forest)
after_field_numbered index place name_place name (Leaf equals _ (Node _ rhs _)) = refl
after_field_numbered index place name_place name (Node _ arguments (Node _ rest _)) = refl
after_field_numbered index place name_place name _ = refl

-- the same for one that begins with "this"
after_this_numbered : (index : ℕ) (place : Place) (forest : Forest) → IsNumbered index (after_this index place forest)
after_this_numbered index place (Leaf dot _ (Leaf name _ (Node _ after _))) =
    after_field_numbered index place (place_of_mark name) (written name) after
after_this_numbered index place (Node _ rest _) = refl
after_this_numbered index place _ = refl

-- a branch is numbered if the statement that was read for it is
branch_is_numbered : (index : ℕ) (statement : Statement) → IsNumbered index statement
    → AreNumbered index (branch_of statement)
branch_is_numbered index (BlockOf place statements) is = is
branch_is_numbered index _ is = (is, tt)

mutual
  -- a statement is numbered from its first index
  statement_is_numbered : (index : ℕ) (forest : Forest) → IsNumbered index (statement_in index forest)
  statement_is_numbered index (Leaf mark _ others) = by_first_token index (token_kind mark) mark others
  statement_is_numbered index (Node _ block Empty) = block_is_numbered index block
  statement_is_numbered index (Node _ type (Leaf name _ (Node _ initial _))) = refl
  statement_is_numbered index (Node _ rhs _) = refl
  statement_is_numbered index Empty = refl

  -- the same for a statement, by its first token
  by_first_token : (index : ℕ) (kind : TokenKind) (mark : Mark) (others : Forest)
      → IsNumbered index (statement_by index kind mark others)
  by_first_token index (KeywordKind keyword.Skip) mark others = refl
  by_first_token index (KeywordKind keyword.Suspend) mark others = refl
  by_first_token index (KeywordKind keyword.Await) mark (Node _ guard _) = refl
  by_first_token index (KeywordKind keyword.Return) mark (Node _ expr _) = refl
  by_first_token index (KeywordKind keyword.Println) mark (Leaf opening _ (Node _ expr _)) = refl
  by_first_token index (KeywordKind keyword.If) mark
      (Leaf opening _ (Node _ test (Leaf closing _ (Node _ first (Node _ other _))))) =
      let branch = statement_in (index + 1) first in (
        refl,
        branch_is_numbered (index + 1) branch (statement_is_numbered (index + 1) first),
        else_is_numbered
            (index + 1 + statement_count (branch_of branch)) other,
      )
  by_first_token index (KeywordKind keyword.While) mark (Leaf opening _ (Node _ test (Leaf closing _ (Node _ body _))))
      =
      (refl, branch_is_numbered (index + 1) (statement_in (index + 1) body) (statement_is_numbered (index + 1) body))
  by_first_token index (KeywordKind keyword.This) mark (Node _ after _) =
      after_this_numbered index (place_of_mark mark) after
  by_first_token index LowerName mark (Node _ after _) =
      after_variable_numbered index (place_of_mark mark) (written mark) after
  by_first_token index LocalName mark (Node _ after _) =
      after_variable_numbered index (place_of_mark mark) (written mark) after
  by_first_token index _ mark others = refl

  -- the same for a branch after "else"
  else_is_numbered : (index : ℕ) (forest : Forest) → BranchIsNumbered index (else_in index forest)
  else_is_numbered index (Node _ (Leaf mark _ (Node _ other _)) _) =
      branch_is_numbered index (statement_in index other) (statement_is_numbered index other)
  else_is_numbered index _ = tt

  -- the same for the statements of a block
  block_is_numbered : (index : ℕ) (forest : Forest) → AreNumbered index (block_in index forest)
  block_is_numbered index (Leaf opening _ (Node _ statements _)) = are_numbered index statements
  block_is_numbered index _ = tt

  -- the same for a list of statements
  are_numbered : (index : ℕ) (forest : Forest) → AreNumbered index (statements_in index forest)
  are_numbered index (Node _ statement (Node _ others _)) =
      (statement_is_numbered index statement, are_numbered (index + count_of (statement_in index statement)) others)
  are_numbered index _ = tt

-- a member and the others after it are numbered if the indices of these continue where its own end
member_by_numbered : (index : ℕ) (type : TypeTree) (name : DeclaredTree) (forest : Forest) (others : List MemberTree)
    → MembersAreNumbered (index + member_statements (member_by index type name forest ∷ [])) others
    → MembersAreNumbered index (member_by index type name forest ∷ others)
member_by_numbered index type name (Leaf opening _ (Node _ params (Leaf closing _ (Node _ block _)))) others are =
    (block_is_numbered index block, subst (λ (n : ℕ). MembersAreNumbered n others) (omega arith) are)
member_by_numbered index type name (Leaf equals _ (Node _ expr (Leaf semicolon _ _))) others are =
    subst (λ (n : ℕ). MembersAreNumbered n others) (omega arith) are
member_by_numbered index type name _ others are = subst (λ (n : ℕ). MembersAreNumbered n others) (omega arith) are

member_is_numbered : (index : ℕ) (forest : Forest) (others : List MemberTree)
    → MembersAreNumbered (index + member_statements (member_in index forest [])) others
    → MembersAreNumbered index (member_in index forest others)
member_is_numbered index (Node _ type (Leaf name _ (Node _ tail _))) others are =
    member_by_numbered index (type_in type) (declared name) tail others are
member_is_numbered index _ others are = subst (λ (n : ℕ). MembersAreNumbered n others) (omega arith) are

-- the members of a class are numbered from the first index
members_are_numbered : (index : ℕ) (forest : Forest) → MembersAreNumbered index (members_in index forest)
members_are_numbered index (Node _ member (Node _ others _)) =
    let after = index + member_statements (member_in index member []) in
    member_is_numbered index member (members_in after others) (members_are_numbered after others)
members_are_numbered index _ = tt

-- a declaration and the others after it are numbered if the indices of these continue where its own end
decl_by_numbered : (index : ℕ) (kind : TokenKind) (place : Place) (forest : Forest) (others : List DeclTree)
    → DeclsAreNumbered (index + decl_statements (decl_by index kind place forest [])) others
    → DeclsAreNumbered index (decl_by index kind place forest others)
decl_by_numbered index (KeywordKind keyword.Data) place
    (Leaf name _ (Node _ parameters (Leaf equals _ (Node _ first (Node _ more _))))) others are =
    subst (λ (n : ℕ). DeclsAreNumbered n others) (omega arith) are
decl_by_numbered index (KeywordKind keyword.Def) place
    (Node _ type (Leaf name _ (Node _ parameters
    (Leaf opening _ (Node _ params (Leaf closing _ (Leaf equals _ (Node _ expr _)))))))) others are =
    subst (λ (n : ℕ). DeclsAreNumbered n others) (omega arith) are
decl_by_numbered index (KeywordKind keyword.Interface) place
    (Leaf name _ (Node _ extended (Leaf opening _ (Node _ signatures _)))) others are =
    subst (λ (n : ℕ). DeclsAreNumbered n others) (omega arith) are
decl_by_numbered index (KeywordKind keyword.Class) place
    (Leaf name _ (Node _ params (Node _ implemented (Leaf opening _ (Node _ members _))))) others are =
    (members_are_numbered index members, subst (λ (n : ℕ). DeclsAreNumbered n others) (omega arith) are)
decl_by_numbered index _ place forest others are = subst (λ (n : ℕ). DeclsAreNumbered n others) (omega arith) are

decl_is_numbered : (index : ℕ) (forest : Forest) (others : List DeclTree)
    → DeclsAreNumbered (index + decl_statements (decl_in index forest [])) others
    → DeclsAreNumbered index (decl_in index forest others)
decl_is_numbered index (Leaf mark _ inside) others are =
    decl_by_numbered index (token_kind mark) (place_of_mark mark) inside others are
decl_is_numbered index _ others are = subst (λ (n : ℕ). DeclsAreNumbered n others) (omega arith) are

-- the declarations of a source are numbered from the first index
decls_are_numbered : (index : ℕ) (forest : Forest) → DeclsAreNumbered index (decls_in index forest)
decls_are_numbered index (Node _ decl (Node _ more _)) =
    let after = index + decl_statements (decl_in index decl []) in
    decl_is_numbered index decl (decls_in after more) (decls_are_numbered after more)
decls_are_numbered index _ = tt

text_is_numbered : (forest : Forest) → IsNumberedWhole (text_in forest)
text_is_numbered (Node _ heading (Node _ imported (Node _ decls (Node _ block _)))) =
    record {
      declarations_are = decls_are_numbered 0 decls;
      main_is =
          block_is_numbered (decl_statements (decls_in 0 decls)) block;
    }
text_is_numbered _ = record { declarations_are = tt; main_is = tt }

-- the tree of a reading is numbered from 0
pub tree_is_numbered : (forest : Forest) → IsNumberedWhole (tree_of forest)
tree_is_numbered (Node _ program _) = text_is_numbered program
tree_is_numbered _ = record { declarations_are = tt; main_is = tt }
