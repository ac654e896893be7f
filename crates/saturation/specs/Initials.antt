-- What fills a field of a new object, from one atom and from a field that is read. It serves proofs only.
--
--   `FillsWith`            a field holds an atom that it lets in
--   `FillsFromSlot`        a field holds an atom of another field of the same object, if it lets that in
--   `field_in`             what a field of a class lets in
--   `RunsIfActive`         the task of an active object is live
--   `BeginsNamed`          what the initial values of the class with a name give, from one atom
use Rattle.std.specs.Prelude.{◌≡◌, ℕ, List, codes, Contains, Option, Some, None, slice_get}
use Rattle.abs_tree.specs.Syntax.{Name, ProgramTree}
use Rattle.contract_terms.specs.Accepts.{AcceptsTree}
use Rattle.contract_terms.specs.KindBodies.{called}
use Rattle.contract_terms.specs.Views.{ClassTree, class_in}
use Rattle.contract_terms.specs.declared.fact.Atom.{Atom}
use Rattle.contract_terms.specs.declared.fact.Fact.{Fact}
use Rattle.contract_terms.specs.declared.fact.Fact.TheVariants.{Field, Live}
use Rattle.contract_terms.specs.declared.terms.Terms.{Terms}
use Rattle.name_bounding.specs.declared.kind.Sign.{Sign}
use Rattle.saturation.specs.Passing.{HoldsInField}
use Rattle.saturation.specs.Rows.{ClassIs, FieldLetsIn, InitialGives, IsActiveClass}
use Rattle.saturation.specs.Steps.{ForThere}

-- A field of the objects with a sign, of the class with an index, holds an atom that it lets in.
pub record FillsWith (program : ProgramTree) (terms : Terms) (class : ℕ) (sign : Sign) (field : ℕ) (atom : Atom)
    (known : List Fact) (fact : Fact) : Type 0 where
  pub let_in : FieldLetsIn program terms class field atom
  pub is : fact ≡ Field sign field atom

-- A field holds the atoms of another one of the same object that it lets in.
abbrev pub FillsFromSlot : ProgramTree → Terms → ℕ → Sign → ℕ → ℕ → List Fact → Fact → Type 0
FillsFromSlot program terms class sign field slot =
    ForThere (HoldsInField sign slot) (λ atom. FillsWith program terms class sign field atom)

abbrev pub field_if : Option ClassTree → ℕ → Option AcceptsTree
field_if None field = None
field_if (Some tree) field = slice_get tree.fields field

-- what a field of the class with an index lets in
unfoldable pub field_in : List Name → Terms → ℕ → ℕ → Option AcceptsTree
field_in names terms class field = field_if (class_in names terms class) field

-- What the initial values give of the objects with a sign that are made, of the class with a name, from a field that
-- holds an atom.
pub record BeginsNamed (program : ProgramTree) (terms : Terms) (depth : ℕ) (made : List (Sign × ℕ)) (sign : Sign)
    (slot : ℕ) (atom : Atom) (name : Name) (fact : Fact) : Type 0 where
  pub class : ℕ
  pub is_made : Contains made (sign, class)
  pub class_is : ClassIs program name class
  pub gives : InitialGives program terms depth class sign slot atom fact

-- The task of an object of the class with an index is live, if the class is active.
pub record RunsIfActive (program : ProgramTree) (sign : Sign) (class : ℕ) (fact : Fact) : Type 0 where
  pub active : IsActiveClass program class
  pub is : fact ≡ Live (called program.names sign (codes "run"))
