-- What rests on a fact, part by part, as contracts tell it. It serves proofs only.
--
--   `UsePasses`, `BodyPasses`          what rests on it that an atom comes to a use, and to a location of a body
--   `LivePasses`, `ObjectPasses`       what rests on it at a location of a live kind, and of all live kinds of a sign
--   `GettersPass`                      what rests on it that the tasks of a kind give an atom, where they are got
--   `KindFactPasses`, `HolderPasses`   the same for one fact: that a kind is live, or that a slot holds something
--   `ArrivesAt`                        what rests on the atoms of an expression of a statement
--   `MakesHere`                        a statement makes an object
--   `TermStarts`, `TermMakes`, ..      what a term, a body and a kind ask for where they are live, and what they make
use Rattle.std.specs.Prelude.{◌≡◌, ℕ, List, Contains, Option, Some, None, slice_get}
use Rattle.abs_program.specs.Instructions.{EffectTree, CallsOwn, Gets, Makes, InstructionTree, instructions}
use Rattle.abs_tree.specs.Syntax.{Name, VariableTree, ProgramTree}
use Rattle.abs_tree.specs.declared.symbol.Symbol.{Symbol}
use Rattle.abs_tree.specs.declared.syntax.statement.Mode.{Mode}
use Rattle.contract_terms.specs.KindBodies.{new_sign}
use Rattle.contract_terms.specs.Reading.{ReadsTree}
use Rattle.contract_terms.specs.Terms.{TermTree}
use Rattle.contract_terms.specs.declared.fact.Atom.{Atom}
use Rattle.contract_terms.specs.declared.fact.Atom.TheVariants.{Future}
use Rattle.contract_terms.specs.declared.fact.Fact.{Fact}
use Rattle.contract_terms.specs.declared.fact.Fact.TheVariants.{Live, Holds}
use Rattle.contract_terms.specs.declared.terms.Terms.{Terms}
use Rattle.name_bounding.specs.declared.kind.Kind.{Kind}
use Rattle.name_bounding.specs.declared.kind.Kind.TheVariants.{Method}
use Rattle.name_bounding.specs.declared.kind.Sign.{Sign}
use Rattle.saturation.specs.Rows.{ClassIs, HasBody, GivesAtom, Arrives, CallsOwnMethod, MakesStep, Resolves, Starts, PassesTo, PassesIn}
use Rattle.saturation.specs.Uses.{body_terms, TermAt, IsUse}
use Rattle.saturation.specs.declared.body.Body.{Body}
use Rattle.saturation.specs.declared.uses.Location.{Location}
use Rattle.saturation.specs.declared.uses.Location.TheVariants.{Answer, Got}
use Rattle.saturation.specs.declared.uses.Use.{Use}

-- What a `get` takes from the futures that its slot holds.
pub record SlotResolves (program : ProgramTree) (kind : Kind) (instruction : InstructionTree) (term : TermTree)
    (slot : ℕ) (known : List Fact) (fact : Fact) : Type 0 where
  pub atom : Atom
  pub held : Contains known (Holds kind slot atom)
  pub resolves : Resolves program kind instruction term atom known fact

-- what a `get` takes, if it has a slot
abbrev pub GetsAll : ProgramTree → Kind → InstructionTree → TermTree → Option ℕ → List Fact → Fact → Type 0
GetsAll program kind instruction term (Some slot) known fact =
    SlotResolves program kind instruction term slot known fact
GetsAll program kind instruction term None known fact = ⊥

-- What a statement with this effect asks for in a live kind, beside the atoms of its expressions.
abbrev pub StartsBy : ProgramTree → Kind → InstructionTree → TermTree → ℕ → EffectTree → List Fact → Fact → Type 0
StartsBy program kind instruction term depth (Makes mode class target) known fact =
    MakesStep program kind (new_sign depth instruction.place mode kind) class target fact
StartsBy program kind instruction term depth (CallsOwn method target) known fact =
    CallsOwnMethod program kind instruction term method known fact
StartsBy program kind instruction term depth (Gets slot target) known fact =
    GetsAll program kind instruction term slot known fact
StartsBy program kind instruction term depth _ known fact = ⊥

module _ (program : ProgramTree) (terms : Terms) (depth : ℕ) where
  -- What rests on it that an atom comes to a use of a body.
  pub record UsePasses (kind : Kind) (own : Body) (use_ : Use) (atom : Atom) (known : List Fact) (fact : Fact)
      : Type 0 where
    pub instruction : InstructionTree
    pub term : TermTree
    pub there : TermAt program terms own use_.term instruction term
    pub passes : PassesTo program terms depth kind instruction term atom known use_.part fact

  -- What rests on it that an atom comes to a location of a body.
  pub record BodyPasses (kind : Kind) (own : Body) (location : Location) (atom : Atom) (known : List Fact) (fact : Fact)
      : Type 0 where
    pub use_ : Use
    pub is_use : IsUse program terms own location use_
    pub passes : UsePasses kind own use_ atom known fact

  -- What rests on it that an atom comes to a location of a kind, if that is live.
  pub record LivePasses (kind : Kind) (location : Location) (atom : Atom) (known : List Fact) (fact : Fact)
      : Type 0 where
    pub live : Contains known (Live kind)
    pub passes : PassesIn program terms depth kind location atom known fact

  -- What rests on it that an atom comes to a location of all live kinds of a sign.
  pub record ObjectPasses (sign : Sign) (location : Location) (atom : Atom) (known : List Fact) (fact : Fact)
      : Type 0 where
    pub method : Symbol
    pub passes : LivePasses (Method sign method) location atom known fact

  -- What rests on it that the tasks of a kind give an atom, where a live kind gets it.
  pub record GettersPass (task : Kind) (atom : Atom) (known : List Fact) (fact : Fact) : Type 0 where
    pub kind : Kind
    pub slot : ℕ
    pub call : ℕ
    pub held : Contains known (Holds kind slot (Future call task))
    pub passes : LivePasses kind (Got slot) atom known fact

  -- What rests on it that the frames of a kind give an atom, where a live kind calls them on `this`.
  pub record AnswerPasses (task : Kind) (atom : Atom) (known : List Fact) (fact : Fact) : Type 0 where
    pub sign : Sign
    pub method : Symbol
    pub is : task ≡ Method sign method
    pub passes : ObjectPasses sign (Answer method.0) atom known fact

  -- What rests on it at a location of the kind of which a fact says that it is live.
  pub record KindFactPasses (live : Fact) (location : Location) (atom : Atom) (known : List Fact) (fact : Fact)
      : Type 0 where
    pub kind : Kind
    pub is : live ≡ Live kind
    pub passes : PassesIn program terms depth kind location atom known fact

  -- What rests on it where the slot is got of which a fact says that it holds something.
  pub record HolderPasses (holds : Fact) (atom : Atom) (known : List Fact) (fact : Fact) : Type 0 where
    pub kind : Kind
    pub slot : ℕ
    pub held : Atom
    pub is : holds ≡ Holds kind slot held
    pub passes : LivePasses kind (Got slot) atom known fact

  -- What rests on the atoms of the expression with an index of a statement.
  pub record ArrivesAt (kind : Kind) (instruction : InstructionTree) (term : TermTree) (expr : ℕ) (known : List Fact)
      (fact : Fact) : Type 0 where
    pub reads : ReadsTree
    pub there : slice_get term.reads expr ≡ Some reads
    pub atom : Atom
    pub gives : GivesAtom kind reads known atom
    pub arrives : Arrives program terms depth kind instruction term expr atom known fact

  -- What rests on the atoms of some expression of a statement.
  pub record ArrivesAny (kind : Kind) (instruction : InstructionTree) (term : TermTree) (known : List Fact) (fact : Fact)
      : Type 0 where
    pub expr : ℕ
    pub arrives : ArrivesAt kind instruction term expr known fact

  -- A statement makes an object with a sign, of the class with an index.
  pub record MakesHere (kind : Kind) (instruction : InstructionTree) (sign : Sign) (class : ℕ) : Type 0 where
    pub mode : Mode
    pub name : Name
    pub target : Option VariableTree
    pub makes : instruction.effect ≡ Makes mode name target
    pub class_is : ClassIs program name class
    pub sign_is : sign ≡ new_sign depth instruction.place mode kind

  -- What the statement of a term asks for, and what it makes.
  pub record TermStarts (kind : Kind) (term : TermTree) (known : List Fact) (fact : Fact) : Type 0 where
    pub instruction : InstructionTree
    pub there : slice_get (instructions program.source) term.index ≡ Some instruction
    pub starts : Starts program terms depth kind instruction term known fact

  pub record TermMakes (kind : Kind) (term : TermTree) (sign : Sign) (class : ℕ) : Type 0 where
    pub instruction : InstructionTree
    pub there : slice_get (instructions program.source) term.index ≡ Some instruction
    pub makes : MakesHere kind instruction sign class

  -- What the statements of a body ask for, and what they make.
  pub record BodyStarts (kind : Kind) (own : Body) (known : List Fact) (fact : Fact) : Type 0 where
    pub index : ℕ
    pub term : TermTree
    pub there : slice_get (body_terms program.names terms own) index ≡ Some term
    pub starts : TermStarts kind term known fact

  pub record BodyMakes (kind : Kind) (own : Body) (sign : Sign) (class : ℕ) : Type 0 where
    pub index : ℕ
    pub term : TermTree
    pub there : slice_get (body_terms program.names terms own) index ≡ Some term
    pub makes : TermMakes kind term sign class

  -- What the statements of a kind ask for, and what they make.
  pub record KindStarts (kind : Kind) (known : List Fact) (fact : Fact) : Type 0 where
    pub own : Body
    pub has : HasBody program kind own
    pub starts : BodyStarts kind own known fact

  pub record KindMakes (kind : Kind) (sign : Sign) (class : ℕ) : Type 0 where
    pub own : Body
    pub has : HasBody program kind own
    pub makes : BodyMakes kind own sign class
