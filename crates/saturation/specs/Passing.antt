-- The parts of what the functions add and find when they pass atoms on. It serves proofs only.
--
--   `FromEach`                 something is there for an element of a list
--   `HoldsIn`, `HoldsInField`  a slot of a kind and a field of a sign hold an atom
--   `OwnGives`                 an expression gives an atom of the fields of `this`, or the sign of `this`
--   `lets_in_param`            whether a parameter of a body lets in an atom
--   `PassesAtoms`              a parameter of a kind holds the atoms of an expression
--   `PassesArgument`, `PassesToReceiver`       so it is of the arguments of a message, and for one receiver
use Rattle.std.specs.Prelude.{◌≡◌, ℕ, suc, Bool, true, false, List, Contains, Option, Some, None, slice_get}
use Rattle.abs_tree.specs.Syntax.{Name, ProgramTree, SourceTree}
use Rattle.contract_terms.specs.Accepts.{AcceptsTree}
use Rattle.contract_terms.specs.Atoms.{is_let_in}
use Rattle.contract_terms.specs.KindBodies.{called}
use Rattle.contract_terms.specs.Reading.{ReadsTree}
use Rattle.contract_terms.specs.Terms.{TermTree}
use Rattle.contract_terms.specs.declared.fact.Atom.{Atom}
use Rattle.contract_terms.specs.declared.fact.Atom.TheVariants.{Object}
use Rattle.contract_terms.specs.declared.fact.Fact.{Fact}
use Rattle.contract_terms.specs.declared.fact.Fact.TheVariants.{Holds, Field}
use Rattle.contract_terms.specs.declared.terms.Terms.{Terms}
use Rattle.name_bounding.specs.declared.kind.Kind.{Kind}
use Rattle.name_bounding.specs.declared.kind.Sign.{Sign}
use Rattle.saturation.specs.Rows.{GivesAtom, PassesParam, Receives}
use Rattle.saturation.specs.Steps.{ForThere}
use Rattle.saturation.specs.Uses.{body_params}
use Rattle.saturation.specs.declared.body.Body.{Body}

-- Something is there for an element of a list.
pub record FromEach {A B : Type 0} (There : A → List Fact → B → Type 0) (list : List A) (known : List Fact) (one : B)
    : Type 0 where
  pub from : A
  pub inside : Contains list from
  pub there : There from known one

-- a slot of a kind holds an atom
abbrev pub HoldsIn : Kind → ℕ → List Fact → Atom → Type 0
HoldsIn kind slot known atom = Contains known (Holds kind slot atom)

-- a field of the objects with a sign holds an atom
abbrev pub HoldsInField : Sign → ℕ → List Fact → Atom → Type 0
HoldsInField sign field known atom = Contains known (Field sign field atom)

-- An expression that reads this gives an atom of the fields of an object with a sign, or that object.
pub data OwnGives (sign : Sign) (reads : ReadsTree) (known : List Fact) : Atom → Type 0 where
  own_field : (atom : Atom) → FromEach (HoldsInField sign) reads.fields known atom → OwnGives sign reads known atom
  own_this : reads.this ≡ true → OwnGives sign reads known (Object sign)

abbrev pub lets_in_if : SourceTree → Option AcceptsTree → Atom → Bool
lets_in_if source None atom = false
lets_in_if source (Some accepts) atom = is_let_in source accepts atom

-- whether a parameter of a body lets in an atom
abbrev pub lets_in_param : ProgramTree → Terms → Body → ℕ → Atom → Bool
lets_in_param program terms own param atom =
    lets_in_if program.source (slice_get (body_params program.names terms own) param) atom

-- A parameter of a kind holds the atoms that an expression gives in another kind.
abbrev pub PassesAtoms : ProgramTree → Terms → Kind → ReadsTree → Kind → ℕ → List Fact → Fact → Type 0
PassesAtoms program terms kind reads callee param =
    ForThere (GivesAtom kind reads) (λ atom known. PassesParam program terms callee param atom)

-- A parameter of a kind holds the atoms of its argument in a message.
pub record PassesArgument (program : ProgramTree) (terms : Terms) (kind : Kind) (term : TermTree) (callee : Kind)
    (known : List Fact) (fact : Fact) : Type 0 where
  pub argument : ℕ
  pub reads : ReadsTree
  pub there : slice_get term.reads (suc argument) ≡ Some reads
  pub passes : PassesAtoms program terms kind reads callee argument known fact

-- A parameter of a method holds an atom, if another atom may be the receiver of a message.
pub record PassesToReceiver (program : ProgramTree) (terms : Terms) (term : TermTree) (method : Name) (receiver : Atom)
    (argument : ℕ) (atom : Atom) (fact : Fact) : Type 0 where
  pub sign : Sign
  pub is : receiver ≡ Object sign
  pub receives : Receives program term sign
  pub passes : PassesParam program terms (called program.names sign method) argument atom fact
