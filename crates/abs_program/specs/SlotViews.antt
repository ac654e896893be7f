-- Whether the bodies of a program have the slots that follow from their trees.
--
--   `BodyHasSlots`                     a body, given how many parameters it has
--   `MemberHasSlots`, `DeclHasSlots`   the methods of a class
use Rattle.std.specs.Prelude.{◌≡◌, ⊤, ◌≤◌, ℕ, List, length, All}
use Rattle.abs_tree.specs.Limits.{table_limit}
use Rattle.abs_program.specs.Slots.{body_slots}
use Rattle.abs_tree.specs.Syntax.{Name}
use Rattle.abs_tree.specs.SyntaxViews.{statements}
use Rattle.abs_tree.specs.declared.syntax.declaration.Body.{Body}
use Rattle.abs_tree.specs.declared.syntax.declaration.Member.{Member}
use Rattle.abs_tree.specs.declared.syntax.declaration.Member.TheVariants as member
use Rattle.abs_tree.specs.declared.syntax.declaration.Decl.{Decl}
use Rattle.abs_tree.specs.declared.syntax.declaration.Decl.TheVariants as decl

-- A body with this many parameters has the slots of its tree, and not too many of them.
pub record BodyHasSlots (names : List Name) (params : ℕ) (body : Body) : Type 0 where
  pub are : body.slots.items ≡ body_slots params (statements names body.statements.items)
  pub few : length body.slots.items ≤ table_limit

-- each method of a class has the slots of its tree, and not too many of them
abbrev pub MemberHasSlots : List Name → Member → Type 0
MemberHasSlots names (member.Field type name initial) = ⊤
MemberHasSlots names (member.Method signature body) = BodyHasSlots names (length signature.params.items) body

abbrev pub DeclHasSlots : List Name → Decl → Type 0
DeclHasSlots names (decl.Class place name params implemented members) = All (MemberHasSlots names) members.items
DeclHasSlots names _ = ⊤
