-- What a list of codes stands for: trees, in postfix order. The parts that no code has taken yet are kept by sort, the
-- last ones at the end. A part that is missing is `null`, `_` or the type of no value.
--
--   `trees_of`                                         the declarations of a list of codes
--   `Parts`, `with_code`                               the parts that no code has taken yet, and these after one more
--                                                      code
--   `left`, `last`, `final`                            all parts but the last ones, these, and the very last one
--   `types_of`, `patterns_of`, ..                      a list of trees as the parts of a tree
use Rattle.std.specs.Prelude.{ℕ, pos, ◌-◌, List, [], ◌∷◌, ◌++◌, length, take, drop, get_or, fold}
use Rattle.abs_tree.specs.Syntax.{Name, Unresolved, TypeTree, UnresolvedType, BottomType, TypeTrees, NoType, NextType, PatternTree, AnyValue, Binds, Built, PatternTrees, NoPattern, NextPattern, ExprTree, IfElse, OperatorsOf, NumberOf, NullOf, VariableOf, ApplyOf, BuildOf, CaseOf, ExprTrees, NoExpr, NextExpr, NoOperands, NextOperand, Branches, NoBranch, NextBranch, ParamTree, DeclaredTree, ConstructorTree, DeclTree, DataTree, FunctionTree}
use Rattle.abs_tree.specs.declared.place.Place.{Place}
use Rattle.abs_prelude.specs.Prelude.{at, prelude_names}
use Rattle.abs_prelude.specs.declared.code.Code.{Code}
use Rattle.abs_prelude.specs.declared.code.Code.TheVariants as code
use Rattle.abs_prelude.specs.declared.code.DeclarationForm.{DeclarationForm}
use Rattle.abs_prelude.specs.declared.code.DeclarationForm.TheVariants as declaration
use Rattle.abs_prelude.specs.declared.code.HeadForm.{HeadForm}
use Rattle.abs_prelude.specs.declared.code.HeadForm.TheVariants as head
use Rattle.abs_prelude.specs.declared.code.NamedForm.{NamedForm}
use Rattle.abs_prelude.specs.declared.code.NamedForm.TheVariants as named
use Rattle.abs_prelude.specs.declared.code.PlainForm.{PlainForm}
use Rattle.abs_prelude.specs.declared.code.PlainForm.TheVariants as plain

-- a branch of a `case`
pub record BranchTree : Type 0 where
  pub pattern : PatternTree
  pub value : ExprTree

-- the parts that no code has taken yet
pub record Parts : Type 0 where
  pub types : List TypeTree
  pub type_params : List DeclaredTree
  pub constructors : List ConstructorTree
  pub params : List ParamTree
  pub patterns : List PatternTree
  pub expressions : List ExprTree
  pub branches : List BranchTree
  pub declarations : List DeclTree

-- all parts but the last ones, as many as `count`
unfoldable pub left : {A : Type 0} → ℕ → List A → List A
left count parts = take (length parts - count) parts

-- the last parts, as many as `count`
unfoldable pub last : {A : Type 0} → ℕ → List A → List A
last count parts = drop (length parts - count) parts

-- the very last part, or `missing` where there is none
unfoldable pub final : {A : Type 0} → A → List A → A
final missing parts = get_or parts (length parts - 1) missing

-- a list of trees as the parts of a tree
abbrev pub types_of : List TypeTree → TypeTrees
types_of [] = NoType
types_of (type ∷ others) = NextType type (types_of others)

abbrev pub patterns_of : List PatternTree → PatternTrees
patterns_of [] = NoPattern
patterns_of (pattern ∷ others) = NextPattern pattern (patterns_of others)

abbrev pub expr_trees_of : List ExprTree → ExprTrees
expr_trees_of [] = NoExpr
expr_trees_of (expr_tree ∷ others) = NextExpr expr_tree (expr_trees_of others)

abbrev pub branches_of : List BranchTree → Branches
branches_of [] = NoBranch
branches_of (branch ∷ others) = NextBranch branch.pattern branch.value (branches_of others)

-- the parts after a declaration: it takes all parts of its head
abbrev pub with_declaration : DeclarationForm → Place → DeclaredTree → Parts → Parts
with_declaration declaration.Data place name parts = record parts {
  type_params = [];
  constructors = [];
  declarations = parts.declarations ++ DataTree place name parts.type_params parts.constructors ∷ [];
}
with_declaration declaration.Function place name parts = record parts {
  types = left 1 parts.types;
  type_params = [];
  params = [];
  expressions = left 1 parts.expressions;
  declarations =
      parts.declarations ++ FunctionTree place (final BottomType parts.types) name parts.type_params parts.params
      (final (NullOf place) parts.expressions) ∷ [];
}

-- the parts after a part of a declaration's head
abbrev pub with_head : HeadForm → Place → Name → Parts → Parts
with_head (head.Type count) place name parts = record parts {
  types = left count parts.types ++ UnresolvedType place name (types_of (last count parts.types)) ∷ [];
}
with_head head.TypeParameter place name parts = record parts {
  type_params = parts.type_params ++ record { place = place; name = name } ∷ [];
}
with_head (head.Constructor count) place name parts = record parts {
  types = left count parts.types;
  constructors =
      parts.constructors ++ record {
        name = record { place = place; name = name };
        types = types_of (last count parts.types);
      } ∷ [];
}
with_head head.Parameter place name parts = record parts {
  types = left 1 parts.types;
  params =
      parts.params ++ record { type_of = final BottomType parts.types; place = place; variable = Unresolved name } ∷ [];
}

-- the parts after a part of a function's value that has a name
abbrev pub with_named : NamedForm → Place → Name → Parts → Parts
with_named named.Binds place name parts =
    record parts { patterns = parts.patterns ++ Binds place (Unresolved name) ∷ [] }
with_named (named.Built count) place name parts = record parts {
  patterns = left count parts.patterns ++ Built place name (patterns_of (last count parts.patterns)) ∷ [];
}
with_named named.Variable place name parts =
    record parts { expressions = parts.expressions ++ VariableOf place (Unresolved name) ∷ [] }
with_named (named.Apply count) place name parts = record parts {
  expressions = left count parts.expressions ++ ApplyOf place name (expr_trees_of (last count parts.expressions)) ∷ [];
}
with_named (named.Build count) place name parts = record parts {
  expressions = left count parts.expressions ++ BuildOf place name (expr_trees_of (last count parts.expressions)) ∷ [];
}

-- the parts after a part of a function's value that has no name
abbrev pub with_plain : PlainForm → Place → Parts → Parts
with_plain (plain.Number number) place parts =
    record parts { expressions = parts.expressions ++ NumberOf place (pos number) ∷ [] }
with_plain (plain.Operators operator) place parts =
    let others = left 1 parts.expressions in record parts {
      expressions =
          left 1 others ++ OperatorsOf place (final (NullOf place) others)
          (NextOperand operator (final (NullOf place) parts.expressions) NoOperands) ∷ [];
    }
with_plain plain.If place parts =
    let two = left 1 parts.expressions in let one = left 1 two in record parts {
      expressions =
          left 1 one ++ IfElse place (final (NullOf place) one) (final (NullOf place) two)
          (final (NullOf place) parts.expressions) ∷ [];
    }
with_plain plain.Branch place parts = record parts {
  patterns = left 1 parts.patterns;
  expressions = left 1 parts.expressions;
  branches =
      parts.branches ++ record {
        pattern = final (AnyValue place) parts.patterns;
        value = final (NullOf place) parts.expressions;
      } ∷ [];
}
with_plain (plain.Case count) place parts = record parts {
  expressions =
      left 1 parts.expressions ++ CaseOf place (final (NullOf place) parts.expressions)
      (branches_of (last count parts.branches)) ∷ [];
  branches = left count parts.branches;
}

-- the parts after one more code
abbrev pub with_code : Parts → Code → Parts
with_code parts (code.Declaration form line column name) =
    with_declaration form (at line 1) (record { place = at line column; name = get_or prelude_names name [] }) parts
with_code parts (code.Head form line column name) = with_head form (at line column) (get_or prelude_names name []) parts
with_code parts (code.Named form line column name) = with_named form (at line column) (get_or prelude_names name []) parts
with_code parts (code.Plain form line column) = with_plain form (at line column) parts

-- no parts
abbrev pub no_parts : Parts
no_parts = record {
  types = [];
  type_params = [];
  constructors = [];
  params = [];
  patterns = [];
  expressions = [];
  branches = [];
  declarations = [];
}

-- the declarations of a list of codes
unfoldable pub trees_of : List Code → List DeclTree
trees_of codes = (fold with_code no_parts codes).declarations
