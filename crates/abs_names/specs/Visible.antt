-- The scope as the code keeps it. It serves proofs only.
--
--   `Names`                the names of what is read, and those of what is made
--   `Known`, `Visible`     what contracts of the code see: these names, with what is around, or with a scope
--   `binding_tree`         the variable that is visible
use Rattle.std.specs.Prelude.{List}
use Rattle.abs_tree.specs.Syntax.{Name, VariableTree}
use Rattle.abs_tree.specs.SyntaxViews.{variable_tree}
use Rattle.abs_names.specs.declared.scope.Binding.{Binding}
use Rattle.abs_names.specs.TypeNames.{Around}
use Rattle.abs_names.specs.Scopes.{Scope}

-- The names of the parts of a source that are read, and those of the resolved parts that are made of them: the latter
-- have those of the prelude too.
pub record Names : Type 0 where
  pub before : List Name
  pub after : List Name

-- the names, and what is around
pub record Known : Type 0 where
  pub names : Names
  pub around : Around

-- the names, and what is visible
pub record Visible : Type 0 where
  pub names : Names
  pub scope : Scope

-- the variable that is visible
abbrev pub binding_tree : List Name → Binding → VariableTree
binding_tree names binding = variable_tree names binding.variable
