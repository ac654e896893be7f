-- Variables by the numbers of their names, as the code keeps them. They serve proofs only.
--
--   `bound_up_to`          how many of these are bound variables, as the newest one has it
--   `AreCounted`           each has how many bound variables there are up to it
--   `EndsIn`               the oldest ones are these
use Rattle.std.specs.Prelude.{◌≡◌, ⊤, ℕ, ◌+◌, List, [], ◌∷◌, ◌++◌}
use Rattle.abs_tree.specs.declared.syntax.variable.Variable.{Variable}
use Rattle.abs_tree.specs.declared.syntax.variable.Variable.TheVariants.{Bound}
use Rattle.abs_names.specs.declared.scope.Binding.{Binding}

-- 1 for a bound variable, and else 0
abbrev pub is_bound : Variable → ℕ
is_bound (Bound depth) = 1
is_bound _ = 0

-- how many bound variables there are, as the newest one has it
abbrev pub bound_up_to : List (ℕ × Binding) → ℕ
bound_up_to [] = 0
bound_up_to (known ∷ others) = known.1.bound

-- each has how many bound variables there are up to it
abbrev pub AreCounted : List (ℕ × Binding) → Type 0
AreCounted [] = ⊤
AreCounted (known ∷ others) = (known.1.bound ≡ is_bound known.1.variable + bound_up_to others) × AreCounted others

-- The last entries of a list are these.
pub record EndsIn {A : Type 0} (items older : List A) : Type 0 where
  pub newer : List A
  pub is : items ≡ newer ++ older
