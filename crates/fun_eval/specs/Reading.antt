-- What expressions read, and what they give, as the code has it.
--
--   `scope_tree`, `env_scope`      the values that can be read, from where they are, and from an environment
--   `found_result`                 the result of reading: the value that is found, or the fault Mistyped
--   `IsResult`                     the code gives this result, or memory runs out
--   `value_of_function`            the value of a function
use Rattle.std.specs.Prelude.{◌≡◌, ⊤, [], map, Option, Some, None, Result, Ok, Err}
use Rattle.abs_values.specs.Results.{Result as ResultTree, Gives, Fails}
use Rattle.abs_values.specs.Scopes.{Scope as ScopeTree}
use Rattle.abs_tree.specs.Syntax.{ExprTree, DeclTree, FunctionTree}
use Rattle.abs_values.specs.ValueTrees.{ValueTree}
use Rattle.abs_values.specs.ValueViews.{value_tree}
use Rattle.abs_values.specs.declared.evaluated.Env.{Env}
use Rattle.abs_values.specs.declared.evaluated.Fault.TheVariants as fault
use Rattle.abs_values.specs.declared.value.Value.{Value}
use Rattle.fun_eval.specs.declared.scope.Scope.{Scope}
use Rattle.fun_eval.specs.declared.stop.Stop.{Stop}
use Rattle.fun_eval.specs.declared.stop.Stop.TheVariants as stop

-- the values that the expressions of a statement can read; no variable is bound there
abbrev pub scope_tree : Scope → ScopeTree
scope_tree scope = record {
  this = scope.this;
  slots = map value_tree scope.slots.now;
  fields = map value_tree scope.fields.now;
  bound = [];
}

-- the values of an environment that the expressions of a statement can read
abbrev pub env_scope : Env → ScopeTree
env_scope env = record { this = env.this; slots = env.slots; fields = env.fields; bound = [] }

-- the result of reading a value
abbrev pub found_result : Option ValueTree → ResultTree
found_result (Some value) = Gives value
found_result None = Fails fault.Mistyped

-- The code gives this result: its value, or its fault. Or memory runs out.
abbrev pub IsResult : ResultTree → Result Value Stop → Type 0
IsResult expected (Ok value) = expected ≡ Gives (value_tree value)
IsResult expected (Err (stop.Fault cause)) = expected ≡ Fails cause
IsResult expected (Err stop.Memory) = ⊤

-- the value of a declaration, if it is a function
abbrev pub value_of_function : Option DeclTree → Option ExprTree
value_of_function (Some (FunctionTree place result name type_params params value)) = Some value
value_of_function declaration = None
