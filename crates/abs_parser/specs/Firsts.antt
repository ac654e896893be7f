-- The variable or field with which a statement begins, as a place, a target and an expression, and the statement
-- itself. Also the tokens that begin a statement other than a right side, and the body of a block.
--
--   `place_of_first`, `target_of`, `expr_of`           the variable or field as a place, a target and an expression
--   `after_first`                                      the statement that it begins, by what follows it
--   `begins_another`                                   the tokens that begin a statement other than a right side
--   `IsBlock`                                          the body of a block that was read
--   `is_simple`                                        the keywords of statements without others inside
use Rattle.std.specs.Prelude.{◌≡◌, ℕ, Bool, true, false, List, Option}
use Rattle.abs_tree.specs.declared.place.Place.{Place}
use Rattle.abs_tree.specs.Syntax.{Name, Unresolved, ExprTree, ExprTrees, TargetTree, ToVariable, ToField, Statement}
use Rattle.abs_tree.specs.SyntaxViews.{statements}
use Rattle.abs_tree.specs.Names.{name_of}
use Rattle.abs_tree.specs.declared.syntax.declaration.Body.{Body}
use Rattle.abs_lexer.specs.declared.lexeme.Keyword.{Keyword}
use Rattle.abs_lexer.specs.declared.lexeme.Keyword.TheVariants as keyword
use Rattle.abs_lexer.specs.declared.lexeme.Punctuator.TheVariants as punctuator
use Rattle.abs_parser.specs.TokenKinds.{TokenKind, LowerName, LocalName, UpperName, AbsName, StdLibName, KeywordKind, PunctuatorKind}
use Rattle.abs_parser.specs.declared.simple_statements.First.{First}
use Rattle.abs_parser.specs.declared.simple_statements.First.TheVariants as first
use Rattle.abs_parser.specs.Readings.{Forest}
use Rattle.abs_parser.specs.TreesOf.{named, member, after_variable, after_field, block_in, block_end}

abbrev pub place_of_first : First → Place
place_of_first (first.Variable place symbol) = place
place_of_first (first.Field place name_place symbol) = place

abbrev pub target_of : List Name → First → TargetTree
target_of names (first.Variable place symbol) = ToVariable place (Unresolved (name_of names symbol))
target_of names (first.Field place name_place symbol) = ToField place name_place (name_of names symbol)

abbrev pub expr_of : List Name → First → Option ExprTrees → ExprTree
expr_of names (first.Variable place symbol) arguments = named place (name_of names symbol) arguments
expr_of names (first.Field place name_place symbol) arguments =
    member place name_place (name_of names symbol) arguments

abbrev pub after_first : ℕ → List Name → First → Forest → Statement
after_first index names (first.Variable place symbol) inside = after_variable index place (name_of names symbol) inside
after_first index names (first.Field place name_place symbol) inside =
    after_field index place name_place (name_of names symbol) inside

-- whether a token of this kind begins an alternative of Stmt other than the last, which is a right side alone
abbrev pub begins_another : TokenKind → Bool
begins_another LowerName = true
begins_another LocalName = true
begins_another UpperName = true
begins_another AbsName = true
begins_another StdLibName = true
begins_another (PunctuatorKind punctuator.OpenBrace) = true
begins_another (KeywordKind keyword.Skip) = true
begins_another (KeywordKind keyword.Suspend) = true
begins_another (KeywordKind keyword.Await) = true
begins_another (KeywordKind keyword.Return) = true
begins_another (KeywordKind keyword.Println) = true
begins_another (KeywordKind keyword.If) = true
begins_another (KeywordKind keyword.While) = true
begins_another (KeywordKind keyword.This) = true
begins_another _ = false

-- the body is that of the block that was read, whose first index is this one: its statements, and the place of its
-- closing brace
pub record IsBlock (index : ℕ) (names : List Name) (body : Body) (inside : Forest) : Type 0 where
  pub statements_are : statements names body.statements.items ≡ block_in index inside
  pub end_is : body.end ≡ block_end inside

-- whether a keyword begins `skip`, `suspend`, `await`, `return` or `println`
abbrev pub is_simple : Keyword → Bool
is_simple keyword.Skip = true
is_simple keyword.Suspend = true
is_simple keyword.Await = true
is_simple keyword.Return = true
is_simple keyword.Println = true
is_simple _ = false
