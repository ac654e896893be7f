-- What is known of each program whose names are resolved.
use denote.Struct.Props as logic
use mathlib.Core.Logic.{∥∥₁_elim}
use Rattle.std.specs.Prelude.{◌≡◌, Bool, false, List, All}
use Rattle.abs_program.specs.NamedViews.{named_tree}
use Rattle.abs_program.specs.declared.named.Named.{Named}
use Rattle.abs_types.specs.Subtyping.{NoneExtendsItself}

-- there is one proof at most that all tests fail
all_fail-prop : (tests : List Bool) → IsProp (All (λ (test : Bool). test ≡ false) tests)
all_fail-prop tests = Prim.hlevel logic.props

-- none of its interfaces extends itself
pub none_extends_itself : (named : Named) → NoneExtendsItself (named_tree named).declarations
none_extends_itself named = ∥∥₁_elim named.is_whole (all_fail-prop _) (λ whole. whole.no_cycle)
