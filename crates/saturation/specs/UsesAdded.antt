-- How the table of uses grows, and the uses of each part of a program. It serves proofs only.
--
--   `Added`                            the table has what it had, and just those uses in addition
--   `Just`, `Each`                     one use, and the uses of each item of a list
--   `SlotRead`, `SlotsRead`            the uses by the slots that an expression reads
--   `FieldRead`, `FieldsRead`          those by its fields
--   `ExprReads`, `TermReads`           those by an expression, and by all of a term
--   `Got`, `Taken`                     those of a future and its result, and of what goes to a target as it is
--   `Where`                            those of a claim, where a test passes
--   `EffectUses`, `TermUses`           those by a term at a statement with an effect, and by a term of a program
--   `BodyUses`                         those by the terms of a body
--   `InitialUse`, `InitialUses`, `MethodUses`, `MethodsUse`       those by initial values, by a member and by all
--   `ClassUses`, `ClassesUse`          those by a declaration and by all
use Rattle.std.specs.Prelude.{◌≡◌, ◌↔◌, ◌⊎◌, ℕ, Bool, true, List, map, Contains, Option, Some, None, slice_get}
use Rattle.abs_program.specs.Instructions.{EffectTree, CallsOwn, Gets, InstructionTree, instructions}
use Rattle.abs_tree.specs.Names.{number_of_name}
use Rattle.abs_tree.specs.Syntax.{Name, ProgramTree}
use Rattle.contract_terms.specs.Reading.{ReadsTree}
use Rattle.contract_terms.specs.Terms.{TermTree}
use Rattle.contract_terms.specs.Views.{reads_tree, method_if}
use Rattle.contract_terms.specs.declared.term.ClassTerms.{ClassTerms}
use Rattle.contract_terms.specs.declared.term.MethodTerms.{MethodTerms}
use Rattle.saturation.specs.Uses.{terms_if, lets_in_something, reads_matter, uses_at}
use Rattle.saturation.specs.declared.body.Body.{Body}
use Rattle.saturation.specs.declared.body.Body.TheVariants as body
use Rattle.saturation.specs.declared.uses.Location.{Location}
use Rattle.saturation.specs.declared.uses.Location.TheVariants as location
use Rattle.saturation.specs.declared.uses.Part.TheVariants as part
use Rattle.saturation.specs.declared.uses.Use.{Use}
use Rattle.saturation.specs.declared.uses.Uses.{Uses}

-- Each location of each body has the uses that it had, and those of which a claim holds.
pub record Added (Claim : Body → Location → Use → Type 0) (before now : Uses) : Type 0 where
  pub has : (own : Body) (place : Location) (use_ : Use) → Contains (uses_at now own place) use_
      ↔ (Contains (uses_at before own place) use_ ⊎ Claim own place use_)

-- one use of one location of one body
pub record Just (reader : Body) (place_read : Location) (one : Use) (own : Body) (place : Location) (use_ : Use)
    : Type 0 where
  pub own_is : own ≡ reader
  pub place_is : place ≡ place_read
  pub use_is : use_ ≡ one

-- a use by an item of a list
pub record Each {A : Type 0} (Claim : ℕ → A → Body → Location → Use → Type 0) (items : List A) (own : Body)
    (place : Location) (use_ : Use) : Type 0 where
  pub index : ℕ
  pub item : A
  pub there : slice_get items index ≡ Some item
  pub holds : Claim index item own place use_

-- the use by a slot that an expression reads
abbrev pub SlotRead : Body → ℕ → ℕ → ℕ → ℕ → Body → Location → Use → Type 0
SlotRead reader index expr number slot =
    Just reader (location.Slot slot) (record { term = index; part = part.Expr expr })

-- the uses by all slots that it reads
abbrev pub SlotsRead : Body → ℕ → ℕ → List ℕ → Body → Location → Use → Type 0
SlotsRead reader index expr = Each (SlotRead reader index expr)

-- the use by a field that an expression reads
abbrev pub FieldRead : Body → ℕ → ℕ → ℕ → ℕ → Body → Location → Use → Type 0
FieldRead reader index expr number field =
    Just reader (location.Field field) (record { term = index; part = part.Expr expr })

-- the uses by all fields that it reads
abbrev pub FieldsRead : Body → ℕ → ℕ → List ℕ → Body → Location → Use → Type 0
FieldsRead reader index expr = Each (FieldRead reader index expr)

-- those by an expression of a term
abbrev pub ExprReads : Body → ℕ → ℕ → ReadsTree → Body → Location → Use → Type 0
ExprReads reader index expr reads own place use_ =
    SlotsRead reader index expr reads.slots own place use_ ⊎ FieldsRead reader index expr reads.fields own place use_

-- those by all expressions of a term
abbrev pub TermReads : Body → ℕ → List ReadsTree → Body → Location → Use → Type 0
TermReads reader index = Each (ExprReads reader index)

-- the uses of a future in a slot and of its result, which goes to a target
abbrev pub Got : Body → ℕ → Option ℕ → Body → Location → Use → Type 0
Got reader index None own place use_ = ⊥
Got reader index (Some slot) own place use_ =
    Just reader (location.Slot slot) (record { term = index; part = part.Future }) own place use_
    ⊎ Just reader (location.Got slot) (record { term = index; part = part.Target }) own place use_

-- the uses of what a statement with this effect passes to its target as it is: a result, or an answer
abbrev pub Taken : List Name → Body → ℕ → EffectTree → Body → Location → Use → Type 0
Taken names reader index (Gets slot target) own place use_ = Got reader index slot own place use_
Taken names reader index (CallsOwn method target) own place use_ =
    Just reader (location.Answer (number_of_name names method)) (record { term = index; part = part.Target }) own place
    use_
Taken names reader index _ own place use_ = ⊥

-- the uses of a claim, where a test passes
abbrev pub Where : Bool → (Body → Location → Use → Type 0) → Body → Location → Use → Type 0
Where test Claim own place use_ = (test ≡ true) × Claim own place use_

-- the uses by a term at a statement with an effect
abbrev pub EffectUses : List Name → Body → ℕ → EffectTree → TermTree → Body → Location → Use → Type 0
EffectUses names reader index effect term own place use_ =
    Where (reads_matter effect term.accepts) (TermReads reader index term.reads) own place use_
    ⊎ Where (lets_in_something term.accepts) (Taken names reader index effect) own place use_

-- the uses by a term of a program
abbrev pub TermUses : ProgramTree → Body → ℕ → TermTree → Body → Location → Use → Type 0
TermUses program reader index term own place use_ =
    (instruction : InstructionTree) × (slice_get (instructions program.source) term.index ≡ Some instruction)
    × EffectUses program.names reader index instruction.effect term own place use_

-- the uses by the terms of a body
abbrev pub BodyUses : ProgramTree → Body → List TermTree → Body → Location → Use → Type 0
BodyUses program reader = Each (TermUses program reader)

-- the uses by an initial value of a class
abbrev pub InitialUse : ℕ → ℕ → ReadsTree → Body → Location → Use → Type 0
InitialUse class index reads = SlotsRead (body.Initials class) index 0 reads.slots

-- the uses by all initial values of a class
abbrev pub InitialUses : ℕ → List ReadsTree → Body → Location → Use → Type 0
InitialUses class = Each (InitialUse class)

-- the uses by a member of a class, if it is a method
abbrev pub MethodUses : ProgramTree → ℕ → ℕ → Option MethodTerms → Body → Location → Use → Type 0
MethodUses program class member method =
    BodyUses program (body.Method class member) (terms_if (method_if program.names (Some method)))

-- those by the members of a class
abbrev pub MethodsUse : ProgramTree → ℕ → List (Option MethodTerms) → Body → Location → Use → Type 0
MethodsUse program class = Each (MethodUses program class)

-- the uses by a declaration, if it is a class
abbrev pub ClassUses : ProgramTree → ℕ → Option ClassTerms → Body → Location → Use → Type 0
ClassUses program class None own place use_ = ⊥
ClassUses program class (Some terms) own place use_ =
    InitialUses class (map reads_tree terms.initials.items) own place use_
    ⊎ MethodsUse program class terms.methods.items own place use_

-- the uses by all declarations
abbrev pub ClassesUse : ProgramTree → List (Option ClassTerms) → Body → Location → Use → Type 0
ClassesUse program = Each (ClassUses program)
