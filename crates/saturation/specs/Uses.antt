-- Who uses what in the bodies of a program. It serves proofs only.
--
--   `body_terms`, `body_params`        the terms of a body, and what its parameters let in
--   `lets_in_something`, `reads_matter`        something is let in, and what a statement reads goes somewhere
--   `TermAt`                           a term of a body with its instruction
--   `IsUse`                            a statement of a body uses a location
--   `same_body`, `same_location`, `is_key`     the tests of the keys of a table
--   `uses_at`, `AreUses`               the uses of a table, and the table of a program
use Rattle.std.specs.Map.{lookup}
use Rattle.std.specs.Prelude.{◌≡◌, ◌↔◌, ℕ, nat_eq, Bool, true, false, ◌&&◌, ◌||◌, List, [], Contains, Option, Some, None, slice_get}
use Rattle.std.specs.declared.alloc.Global.{Global}
use Rattle.std.specs.declared.vec.Vec.{Vec}
use Rattle.abs_program.specs.Instructions.{EffectTree, Returns, Stores, CallsOwn, Gets, InstructionTree, instructions}
use Rattle.abs_tree.specs.Names.{number_of_name}
use Rattle.abs_tree.specs.Syntax.{Name, VariableTree, ProgramTree}
use Rattle.contract_terms.specs.Accepts.{ObjectsTree, NoObject, AcceptsTree}
use Rattle.contract_terms.specs.Reading.{ReadsTree}
use Rattle.contract_terms.specs.Terms.{TermTree}
use Rattle.contract_terms.specs.Views.{MethodTree, ClassTree, main_in, class_in, method_in}
use Rattle.contract_terms.specs.declared.terms.Terms.{Terms}
use Rattle.saturation.specs.declared.body.Body.{Body}
use Rattle.saturation.specs.declared.body.Body.TheVariants as body
use Rattle.saturation.specs.declared.uses.Location.{Location}
use Rattle.saturation.specs.declared.uses.Location.TheVariants as location
use Rattle.saturation.specs.declared.uses.Part.TheVariants as part
use Rattle.saturation.specs.declared.uses.Use.{Use}
use Rattle.saturation.specs.declared.uses.Uses.{Uses}

abbrev pub terms_if : Option MethodTree → List TermTree
terms_if None = []
terms_if (Some method) = method.terms

abbrev pub params_if : Option MethodTree → List AcceptsTree
params_if None = []
params_if (Some method) = method.params

-- the terms of a body; initial values have none
unfoldable pub body_terms : List Name → Terms → Body → List TermTree
body_terms names terms body.Main = main_in names terms
body_terms names terms (body.Method class member) = terms_if (method_in names terms class member)
body_terms names terms (body.Initials class) = []

-- what the parameters of a body let in
unfoldable pub body_params : List Name → Terms → Body → List AcceptsTree
body_params names terms (body.Method class member) = params_if (method_in names terms class member)
body_params names terms _ = []

-- whether some object is let in
abbrev pub lets_in_objects : ObjectsTree → Bool
lets_in_objects NoObject = false
lets_in_objects _ = true

-- whether an object or a future is let in
abbrev pub lets_in_something : AcceptsTree → Bool
lets_in_something accepts = lets_in_objects accepts.objects || accepts.futures

-- whether what a statement with this effect reads goes somewhere, given what its target lets in
abbrev pub reads_matter : EffectTree → AcceptsTree → Bool
reads_matter (Stores target) accepts = lets_in_something accepts
reads_matter Returns accepts = lets_in_something accepts
reads_matter _ accepts = true

-- A term of a body, by its index among them, with the instruction of its statement.
pub record TermAt (program : ProgramTree) (terms : Terms) (body : Body) (index : ℕ) (instruction : InstructionTree)
    (term : TermTree) : Type 0 where
  pub there : slice_get (body_terms program.names terms body) index ≡ Some term
  pub instruction_is : slice_get (instructions program.source) term.index ≡ Some instruction

-- A statement of a body uses a location. One whose target lets nothing in does not, if nothing else comes of what it
-- reads.
pub data IsUse (program : ProgramTree) (terms : Terms) : Body → Location → Use → Type 0 where
  reads_slot : (body : Body) (index : ℕ) (instruction : InstructionTree) (term : TermTree)
      → TermAt program terms body index instruction term → reads_matter instruction.effect term.accepts ≡ true
      → (expr : ℕ) (reads : ReadsTree) → slice_get term.reads expr ≡ Some reads
      → (slot : ℕ) → Contains reads.slots slot
      → IsUse program terms body (location.Slot slot) (record { term = index; part = part.Expr expr })
  reads_field : (body : Body) (index : ℕ) (instruction : InstructionTree) (term : TermTree)
      → TermAt program terms body index instruction term → reads_matter instruction.effect term.accepts ≡ true
      → (expr : ℕ) (reads : ReadsTree) → slice_get term.reads expr ≡ Some reads
      → (field : ℕ) → Contains reads.fields field
      → IsUse program terms body (location.Field field) (record { term = index; part = part.Expr expr })
  gets_future : (body : Body) (index : ℕ) (instruction : InstructionTree) (term : TermTree)
      → TermAt program terms body index instruction term → lets_in_something term.accepts ≡ true
      → (slot : ℕ) (target : Option VariableTree) → instruction.effect ≡ Gets (Some slot) target
      → IsUse program terms body (location.Slot slot) (record { term = index; part = part.Future })
  gets_result : (body : Body) (index : ℕ) (instruction : InstructionTree) (term : TermTree)
      → TermAt program terms body index instruction term → lets_in_something term.accepts ≡ true
      → (slot : ℕ) (target : Option VariableTree) → instruction.effect ≡ Gets (Some slot) target
      → IsUse program terms body (location.Got slot) (record { term = index; part = part.Target })
  takes_answer : (body : Body) (index : ℕ) (instruction : InstructionTree) (term : TermTree)
      → TermAt program terms body index instruction term → lets_in_something term.accepts ≡ true
      → (method : Name) (target : Option VariableTree) → instruction.effect ≡ CallsOwn method target
      → IsUse program terms body (location.Answer (number_of_name program.names method))
      (record { term = index; part = part.Target })
  begins : (class : ℕ) (tree : ClassTree) → class_in program.names terms class ≡ Some tree
      → (index : ℕ) (reads : ReadsTree) → slice_get tree.initials index ≡ Some reads
      → (slot : ℕ) → Contains reads.slots slot
      → IsUse program terms (body.Initials class) (location.Slot slot) (record { term = index; part = part.Expr 0 })

-- whether two bodies are the same one
abbrev pub same_body : Body → Body → Bool
same_body body.Main body.Main = true
same_body (body.Method class member) (body.Method other_class other_member) =
    nat_eq class other_class && nat_eq member other_member
same_body (body.Initials class) (body.Initials other_class) = nat_eq class other_class
same_body _ _ = false

-- whether two locations are the same one
abbrev pub same_location : Location → Location → Bool
same_location (location.Slot slot) (location.Slot other) = nat_eq slot other
same_location (location.Field field) (location.Field other) = nat_eq field other
same_location (location.Answer method) (location.Answer other) = nat_eq method other
same_location (location.Got slot) (location.Got other) = nat_eq slot other
same_location _ _ = false

-- whether a key of a table is this location of this body
abbrev pub is_key : Body → Location → Body × Location → Bool
is_key own place key = same_body own key.0 && same_location place key.1

-- the uses that a table has at a key, where it has some
abbrev pub found_uses : Option (Vec Use Global) → List Use
found_uses None = []
found_uses (Some uses) = uses.items

-- The uses of a location of a body in a table.
unfoldable pub uses_at : Uses → Body → Location → List Use
uses_at uses own place = found_uses (lookup (is_key own place) uses.uses.entries)

-- These are the uses of each location of each body of a program.
abbrev pub AreUses : ProgramTree → Terms → Uses → Type 0
AreUses program terms uses = (own : Body) (location : Location) (use_ : Use)
    → Contains (uses_at uses own location) use_ ↔ IsUse program terms own location use_
