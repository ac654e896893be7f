-- What the functions add, row by row, as contracts tell it. `known` is the list of the facts that are known. It serves
-- proofs only.
--
--   `ClassIs`, `MethodIs`, `HasBody`       the index of a class, the body of a method, and a body of a kind
--   `class_params`, `IsActiveClass`        how many parameters a class has, and whether it is active
--   `FieldLetsIn`, `ParamLetsIn`           a field of a class and a parameter of a kind let in an atom
--   `FillsField`, `PassesParam`, `PassesOwn`       they hold it
--   `GivesAtom`                            an expression gives an atom, by what is known
--   `Answers`, `TakesResults`, `Resolves`  the target holds an atom; what a kind, and the tasks of a future, give
--   `MakesStep`, `CallsOwnMethod`          what an object that is made and a call on `this` add
--   `Receives`, `ReceiverIn`, `PassesToReceivers`      the receiver of a message, by an atom and by what is known
--   `Received`, `ReceivesAtom`, `SendsAtom`        what rests on a receiver, and on an atom of a message
--   `Arrives`                              what rests on an atom of an expression
--   `Begins`, `BeginsFrom`                 what initial values give, from what is known and from one atom
--   `Starts`, `PassesTo`, `PassesIn`       what rests on a live statement, and on an atom at a part and at a location
--   `Handles`                              what rests on a fact
--   `MakesObject`                          a statement of a kind makes an object
--   `BeginsHere`                           what an initial value gives of an object that a live kind makes
use Rattle.std.specs.Prelude.{◌≡◌, ◌⊎◌, ◌+◌, ℕ, suc, true, List, codes, Contains, Option, Some, None, slice_get}
use Rattle.abs_program.specs.Bodies.{ClassEntryTree, class_entry}
use Rattle.abs_program.specs.Instructions.{Returns, Stores, Makes, Sends, CallsOwn, Gets, InstructionTree}
use Rattle.abs_program.specs.Members.{method_of}
use Rattle.abs_program.specs.NameSpaces.{spaces_of}
use Rattle.abs_program.specs.Tables.{meaning_of}
use Rattle.abs_program.specs.declared.name_spaces.Taking.{Taking}
use Rattle.abs_tree.specs.Names.{name_of}
use Rattle.abs_tree.specs.Syntax.{Name, VariableTree, ProgramTree}
use Rattle.abs_tree.specs.declared.symbol.Symbol.{Symbol}
use Rattle.abs_tree.specs.declared.syntax.statement.Mode.{Mode}
use Rattle.contract_terms.specs.Accepts.{ObjectsTree, AcceptsTree}
use Rattle.contract_terms.specs.Atoms.{held_by, is_let_in, is_object_let_in}
use Rattle.contract_terms.specs.KindBodies.{called, new_sign}
use Rattle.contract_terms.specs.Made.{classes_made}
use Rattle.contract_terms.specs.Reading.{ReadsTree}
use Rattle.contract_terms.specs.Terms.{TermTree, target_of}
use Rattle.contract_terms.specs.Views.{ClassTree, class_in}
use Rattle.contract_terms.specs.declared.fact.Atom.{Atom}
use Rattle.contract_terms.specs.declared.fact.Atom.TheVariants.{Object, Future}
use Rattle.contract_terms.specs.declared.fact.Fact.{Fact}
use Rattle.contract_terms.specs.declared.fact.Fact.TheVariants.{Live, Holds, Field, Gives}
use Rattle.contract_terms.specs.declared.terms.Terms.{Terms}
use Rattle.name_bounding.specs.declared.kind.Kind.{Kind}
use Rattle.name_bounding.specs.declared.kind.Kind.TheVariants.{Main, Method}
use Rattle.name_bounding.specs.declared.kind.Sign.{Sign}
use Rattle.saturation.specs.Uses.{body_params, TermAt, IsUse}
use Rattle.saturation.specs.declared.body.Body.{Body}
use Rattle.saturation.specs.declared.body.Body.TheVariants as body
use Rattle.saturation.specs.declared.uses.Location.{Location}
use Rattle.saturation.specs.declared.uses.Location.TheVariants as location
use Rattle.saturation.specs.declared.uses.Part.{Part}
use Rattle.saturation.specs.declared.uses.Part.TheVariants as part
use Rattle.saturation.specs.declared.uses.Use.{Use}

-- The class with a name is the declaration with this index.
pub record ClassIs (program : ProgramTree) (name : Name) (class : ℕ) : Type 0 where
  pub taking : Taking
  pub named : meaning_of (spaces_of program.source.declarations).classes name ≡ Some taking
  pub is : taking.declaration ≡ class

-- The method with a name of the class with a name is the body.
pub record MethodIs (program : ProgramTree) (class method : Name) (own : Body) : Type 0 where
  pub index : ℕ
  pub class_is : ClassIs program class index
  pub member : ℕ
  pub found : method_of program.source.declarations index method ≡ Some member
  pub is : own ≡ body.Method index member

-- A body of a kind.
pub data HasBody (program : ProgramTree) : Kind → Body → Type 0 where
  main_block : HasBody program Main body.Main
  a_method : (sign : Sign) (method : Symbol) (class : Name) (own : Body)
      → Contains (classes_made program.source sign.place) class
      → MethodIs program class (name_of program.names method) own → HasBody program (Method sign method) own

abbrev pub params_of_entry : Option ClassEntryTree → ℕ
params_of_entry None = 0
params_of_entry (Some entry) = entry.params

-- how many parameters the class with an index has
abbrev pub class_params : ProgramTree → ℕ → ℕ
class_params program class = params_of_entry (class_entry program.source.declarations class)

-- A field of the class with an index lets in an atom.
pub record FieldLetsIn (program : ProgramTree) (terms : Terms) (class field : ℕ) (atom : Atom) : Type 0 where
  pub tree : ClassTree
  pub class_is : class_in program.names terms class ≡ Some tree
  pub accepts : AcceptsTree
  pub there : slice_get tree.fields field ≡ Some accepts
  pub let_in : is_let_in program.source accepts atom ≡ true

-- A parameter of a body of a kind lets in an atom.
pub record ParamLetsIn (program : ProgramTree) (terms : Terms) (kind : Kind) (param : ℕ) (atom : Atom) : Type 0 where
  pub own : Body
  pub has : HasBody program kind own
  pub accepts : AcceptsTree
  pub there : slice_get (body_params program.names terms own) param ≡ Some accepts
  pub let_in : is_let_in program.source accepts atom ≡ true

-- An expression that reads this gives the atom in a kind.
pub data GivesAtom (kind : Kind) (reads : ReadsTree) (known : List Fact) : Atom → Type 0 where
  by_slot : (slot : ℕ) (atom : Atom) → Contains reads.slots slot → Contains known (Holds kind slot atom)
      → GivesAtom kind reads known atom
  by_field : (sign : Sign) (method : Symbol) → kind ≡ Method sign method → (field : ℕ) (atom : Atom)
      → Contains reads.fields field → Contains known (Field sign field atom) → GivesAtom kind reads known atom
  by_this : (sign : Sign) (method : Symbol) → kind ≡ Method sign method → reads.this ≡ true
      → GivesAtom kind reads known (Object sign)

-- An object with this sign may be the receiver of the message of a term.
pub record Receives (program : ProgramTree) (term : TermTree) (sign : Sign) : Type 0 where
  pub objects : ObjectsTree
  pub receiver : term.receiver ≡ Some objects
  pub let_in : is_object_let_in program.source objects sign.place ≡ true

-- The expression of a term that comes first gives such an object.
pub record ReceiverIn (program : ProgramTree) (kind : Kind) (term : TermTree) (known : List Fact) (sign : Sign)
    : Type 0 where
  pub reads : ReadsTree
  pub first : slice_get term.reads 0 ≡ Some reads
  pub gives : GivesAtom kind reads known (Object sign)
  pub receives : Receives program term sign

-- The target of a statement holds an atom that it lets in.
pub record Answers (program : ProgramTree) (kind : Kind) (instruction : InstructionTree) (term : TermTree) (atom : Atom)
    (fact : Fact) : Type 0 where
  pub let_in : is_let_in program.source term.accepts atom ≡ true
  pub held : held_by kind (target_of instruction.effect) atom ≡ Some fact

-- A parameter of a kind holds an atom that it lets in.
pub record PassesParam (program : ProgramTree) (terms : Terms) (callee : Kind) (param : ℕ) (atom : Atom) (fact : Fact)
    : Type 0 where
  pub let_in : ParamLetsIn program terms callee param atom
  pub is : fact ≡ Holds callee param atom

-- A field of a new object holds an atom of an argument, which it lets in.
pub record FillsField (program : ProgramTree) (terms : Terms) (class : Name) (sign : Sign) (argument : ℕ) (atom : Atom)
    (fact : Fact) : Type 0 where
  pub index : ℕ
  pub class_is : ClassIs program class index
  pub let_in : FieldLetsIn program terms index argument atom
  pub is : fact ≡ Field sign argument atom

-- The class with an index is active.
pub record IsActiveClass (program : ProgramTree) (class : ℕ) : Type 0 where
  pub entry : ClassEntryTree
  pub entry_is : class_entry program.source.declarations class ≡ Some entry
  pub member : ℕ
  pub runs : entry.run ≡ Some member

-- An object with a sign is made: the target holds it, and if its class is active, `run` is live.
pub data MakesStep (program : ProgramTree) (kind : Kind) (sign : Sign) (class : Name) (target : Option VariableTree)
    : Fact → Type 0 where
  holds : (fact : Fact) → held_by kind target (Object sign) ≡ Some fact → MakesStep program kind sign class target fact
  runs : (index : ℕ) → ClassIs program class index → IsActiveClass program index
      → MakesStep program kind sign class target (Live (called program.names sign (codes "run")))

-- The target of a statement holds what the tasks or frames of a kind give.
pub record TakesResults (program : ProgramTree) (kind : Kind) (instruction : InstructionTree) (term : TermTree)
    (task : Kind) (known : List Fact) (fact : Fact) : Type 0 where
  pub atom : Atom
  pub given : Contains known (Gives task atom)
  pub answers : Answers program kind instruction term atom fact

-- The target of a statement holds what the tasks of a future give.
pub record Resolves (program : ProgramTree) (kind : Kind) (instruction : InstructionTree) (term : TermTree)
    (atom : Atom) (known : List Fact) (fact : Fact) : Type 0 where
  pub call : ℕ
  pub task : Kind
  pub is : atom ≡ Future call task
  pub takes : TakesResults program kind instruction term task known fact

-- A method is called on `this`, and the target of the statement holds what it gives.
pub data CallsOwnMethod (program : ProgramTree) (kind : Kind) (instruction : InstructionTree) (term : TermTree)
    (method : Name) (known : List Fact) : Fact → Type 0 where
  lives : (sign : Sign) (own : Symbol) → kind ≡ Method sign own
      → CallsOwnMethod program kind instruction term method known (Live (called program.names sign method))
  takes : (sign : Sign) (own : Symbol) → kind ≡ Method sign own → (fact : Fact)
      → TakesResults program kind instruction term (called program.names sign method) known fact
      → CallsOwnMethod program kind instruction term method known fact

-- A parameter of a method that is called on `this` holds an atom.
pub record PassesOwn (program : ProgramTree) (terms : Terms) (kind : Kind) (method : Name) (param : ℕ) (atom : Atom)
    (fact : Fact) : Type 0 where
  pub sign : Sign
  pub own : Symbol
  pub kind_is : kind ≡ Method sign own
  pub passes : PassesParam program terms (called program.names sign method) param atom fact

-- A parameter of a method holds an atom, for each object that may receive the message.
pub record PassesToReceivers (program : ProgramTree) (terms : Terms) (kind : Kind) (term : TermTree) (method : Name)
    (argument : ℕ) (atom : Atom) (known : List Fact) (fact : Fact) : Type 0 where
  pub sign : Sign
  pub receiver : ReceiverIn program kind term known sign
  pub passes : PassesParam program terms (called program.names sign method) argument atom fact

module _ (program : ProgramTree) (terms : Terms) (depth : ℕ) where
  -- What rests on it that an object with a sign receives a message: the method is called, the target holds the future,
  -- and the parameters hold the atoms of the arguments.
  pub data Received (kind : Kind) (instruction : InstructionTree) (term : TermTree) (method : Name)
      (target : Option VariableTree) (sign : Sign) (known : List Fact) : Fact → Type 0 where
    calls : Received kind instruction term method target sign known (Live (called program.names sign method))
    answers : (fact : Fact)
        → held_by kind target (Future instruction.place (called program.names sign method)) ≡ Some fact
        → Received kind instruction term method target sign known fact
    passes : (argument : ℕ) (reads : ReadsTree) → slice_get term.reads (suc argument) ≡ Some reads
        → (atom : Atom) → GivesAtom kind reads known atom
        → ParamLetsIn program terms (called program.names sign method) argument atom
        → Received kind instruction term method target sign known
        (Holds (called program.names sign method) argument atom)

  -- What rests on it that an atom is the receiver of a message, if it may be one.
  pub record ReceivesAtom (kind : Kind) (instruction : InstructionTree) (term : TermTree) (method : Name)
      (target : Option VariableTree) (atom : Atom) (known : List Fact) (fact : Fact) : Type 0 where
    pub sign : Sign
    pub is : atom ≡ Object sign
    pub receives : Receives program term sign
    pub received : Received kind instruction term method target sign known fact

  -- What rests on it that the expression with an index of a message gives an atom: the first one gives the receiver, and
  -- each other one an argument.
  pub data SendsAtom (kind : Kind) (instruction : InstructionTree) (term : TermTree) (method : Name)
      (target : Option VariableTree) (expr : ℕ) (atom : Atom) (known : List Fact) (fact : Fact) : Type 0 where
    as_receiver : expr ≡ 0 → ReceivesAtom kind instruction term method target atom known fact
        → SendsAtom kind instruction term method target expr atom known fact
    as_argument : (argument : ℕ) → expr ≡ suc argument
        → PassesToReceivers program terms kind term method argument atom known fact
        → SendsAtom kind instruction term method target expr atom known fact

  -- What rests on it that the expression with an index gives an atom.
  pub data Arrives (kind : Kind) (instruction : InstructionTree) (term : TermTree) (expr : ℕ) (atom : Atom)
      (known : List Fact) : Fact → Type 0 where
    stores : (target : Option VariableTree) → instruction.effect ≡ Stores target
        → (fact : Fact) → Answers program kind instruction term atom fact
        → Arrives kind instruction term expr atom known fact
    returns : instruction.effect ≡ Returns → is_let_in program.source term.accepts atom ≡ true
        → Arrives kind instruction term expr atom known (Gives kind atom)
    fills : (mode : Mode) (class : Name) (target : Option VariableTree) → instruction.effect ≡ Makes mode class target
        → (index : ℕ) → ClassIs program class index → FieldLetsIn program terms index expr atom
        → Arrives kind instruction term expr atom known (Field (new_sign depth instruction.place mode kind) expr atom)
    passes_own : (method : Name) (target : Option VariableTree) → instruction.effect ≡ CallsOwn method target
        → (sign : Sign) (own : Symbol) → kind ≡ Method sign own
        → ParamLetsIn program terms (called program.names sign method) expr atom
        → Arrives kind instruction term expr atom known (Holds (called program.names sign method) expr atom)
    receives : (method : Name) (target : Option VariableTree) → instruction.effect ≡ Sends method target
        → expr ≡ 0 → (sign : Sign) → atom ≡ Object sign → Receives program term sign
        → (fact : Fact) → Received kind instruction term method target sign known fact
        → Arrives kind instruction term expr atom known fact
    passes : (method : Name) (target : Option VariableTree) → instruction.effect ≡ Sends method target
        → (argument : ℕ) → expr ≡ suc argument → (sign : Sign) → ReceiverIn program kind term known sign
        → ParamLetsIn program terms (called program.names sign method) argument atom
        → Arrives kind instruction term expr atom known (Holds (called program.names sign method) argument atom)

  -- A field of the objects with a sign holds an atom that an initial value of their class, which has an index, may give.
  pub record InitialGives (class : ℕ) (sign : Sign) (slot : ℕ) (atom : Atom) (fact : Fact) : Type 0 where
    pub tree : ClassTree
    pub class_is : class_in program.names terms class ≡ Some tree
    pub index : ℕ
    pub reads : ReadsTree
    pub there : slice_get tree.initials index ≡ Some reads
    pub is_read : Contains reads.slots slot
    pub let_in : FieldLetsIn program terms class (class_params program class + index) atom
    pub is : fact ≡ Field sign (class_params program class + index) atom

  -- What the initial values give of the objects with a sign that are made, from a field that holds an atom.
  pub record BeginsFrom (made : List (Sign × ℕ)) (sign : Sign) (slot : ℕ) (atom : Atom) (fact : Fact) : Type 0 where
    pub class : ℕ
    pub is_made : Contains made (sign, class)
    pub name : Name
    pub made_there : Contains (classes_made program.source sign.place) name
    pub class_is : ClassIs program name class
    pub gives : InitialGives class sign slot atom fact

  -- What the initial values of the objects with a sign give.
  pub record Begins (class : ℕ) (sign : Sign) (known : List Fact) (fact : Fact) : Type 0 where
    pub slot : ℕ
    pub atom : Atom
    pub held : Contains known (Field sign slot atom)
    pub gives : InitialGives class sign slot atom fact

  -- What a statement of a live kind asks for, beside what the initial values of a new object give.
  pub data Starts (kind : Kind) (instruction : InstructionTree) (term : TermTree) (known : List Fact) : Fact → Type 0 where
    makes : (mode : Mode) (class : Name) (target : Option VariableTree) → instruction.effect ≡ Makes mode class target
        → (fact : Fact) → held_by kind target (Object (new_sign depth instruction.place mode kind)) ≡ Some fact
        → Starts kind instruction term known fact
    runs : (mode : Mode) (class : Name) (target : Option VariableTree) → instruction.effect ≡ Makes mode class target
        → (index : ℕ) → ClassIs program class index
        → (entry : ClassEntryTree) → class_entry program.source.declarations index ≡ Some entry
        → (member : ℕ) → entry.run ≡ Some member
        → Starts kind instruction term known
        (Live (called program.names (new_sign depth instruction.place mode kind) (codes "run")))
    calls_own : (method : Name) (target : Option VariableTree) → instruction.effect ≡ CallsOwn method target
        → (sign : Sign) (own : Symbol) → kind ≡ Method sign own
        → Starts kind instruction term known (Live (called program.names sign method))
    answers_own : (method : Name) (target : Option VariableTree) → instruction.effect ≡ CallsOwn method target
        → (sign : Sign) (own : Symbol) → kind ≡ Method sign own
        → (atom : Atom) → Contains known (Gives (called program.names sign method) atom)
        → (fact : Fact) → Answers program kind instruction term atom fact → Starts kind instruction term known fact
    gets : (slot : ℕ) (target : Option VariableTree) → instruction.effect ≡ Gets (Some slot) target
        → (call : ℕ) (task : Kind) → Contains known (Holds kind slot (Future call task))
        → (atom : Atom) → Contains known (Gives task atom)
        → (fact : Fact) → Answers program kind instruction term atom fact → Starts kind instruction term known fact
    arrives : (expr : ℕ) (reads : ReadsTree) → slice_get term.reads expr ≡ Some reads
        → (atom : Atom) → GivesAtom kind reads known atom
        → (fact : Fact) → Arrives kind instruction term expr atom known fact → Starts kind instruction term known fact

  -- What rests on it that an atom comes to a part of a statement.
  pub data PassesTo (kind : Kind) (instruction : InstructionTree) (term : TermTree) (atom : Atom) (known : List Fact)
      : Part → Fact → Type 0 where
    to_expr : (expr : ℕ) (fact : Fact) → Arrives kind instruction term expr atom known fact
        → PassesTo kind instruction term atom known (part.Expr expr) fact
    to_future : (call : ℕ) (task : Kind) → atom ≡ Future call task
        → (result : Atom) → Contains known (Gives task result)
        → (fact : Fact) → Answers program kind instruction term result fact
        → PassesTo kind instruction term atom known part.Future fact
    to_target : (fact : Fact) → Answers program kind instruction term atom fact
        → PassesTo kind instruction term atom known part.Target fact

  -- What rests on it that an atom comes to a location of a kind.
  pub record PassesIn (kind : Kind) (location : Location) (atom : Atom) (known : List Fact) (fact : Fact) : Type 0 where
    pub own : Body
    pub has : HasBody program kind own
    pub use_ : Use
    pub is_use : IsUse program terms own location use_
    pub instruction : InstructionTree
    pub term : TermTree
    pub there : TermAt program terms own use_.term instruction term
    pub passes : PassesTo kind instruction term atom known use_.part fact

  -- What rests on a fact and on others that are known, beside what the initial values give of objects that are made
  -- for the first time.
  pub data Handles (made : List (Sign × ℕ)) (known : List Fact) : Fact → Fact → Type 0 where
    starts : (kind : Kind) (own : Body) → HasBody program kind own
        → (index : ℕ) (instruction : InstructionTree) (term : TermTree)
        → TermAt program terms own index instruction term
        → (fact : Fact) → Starts kind instruction term known fact → Handles made known (Live kind) fact
    passes : (kind : Kind) → Contains known (Live kind) → (slot : ℕ) (atom : Atom) (fact : Fact)
        → PassesIn kind (location.Slot slot) atom known fact → Handles made known (Holds kind slot atom) fact
    passes_field : (sign : Sign) (method : Symbol) → Contains known (Live (Method sign method))
        → (field : ℕ) (atom : Atom) (fact : Fact) → PassesIn (Method sign method) (location.Field field) atom known fact
        → Handles made known (Field sign field atom) fact
    begins : (sign : Sign) (class : ℕ) → Contains made (sign, class)
        → (name : Name) → Contains (classes_made program.source sign.place) name → ClassIs program name class
        → (slot : ℕ) (atom : Atom) (fact : Fact) → InitialGives class sign slot atom fact
        → Handles made known (Field sign slot atom) fact
    passes_answer : (sign : Sign) (method own : Symbol) → Contains known (Live (Method sign own))
        → (atom : Atom) (fact : Fact) → PassesIn (Method sign own) (location.Answer method.0) atom known fact
        → Handles made known (Gives (Method sign method) atom) fact
    passes_result : (task kind : Kind) (slot call : ℕ) → Contains known (Holds kind slot (Future call task))
        → Contains known (Live kind) → (atom : Atom) (fact : Fact)
        → PassesIn kind (location.Got slot) atom known fact → Handles made known (Gives task atom) fact

  -- A statement of a kind makes an object with a sign, of the class with an index.
  pub record MakesObject (kind : Kind) (sign : Sign) (class : ℕ) : Type 0 where
    pub own : Body
    pub has : HasBody program kind own
    pub index : ℕ
    pub instruction : InstructionTree
    pub term : TermTree
    pub there : TermAt program terms own index instruction term
    pub mode : Mode
    pub name : Name
    pub target : Option VariableTree
    pub makes : instruction.effect ≡ Makes mode name target
    pub class_is : ClassIs program name class
    pub sign_is : sign ≡ new_sign depth instruction.place mode kind

  -- What an initial value gives of an object that a live kind makes, by a fact: that the kind is live, or that a field
  -- holds an atom.
  pub record BeginsHere (known : List Fact) (fact asked : Fact) : Type 0 where
    pub kind : Kind
    pub live : Contains known (Live kind)
    pub sign : Sign
    pub class : ℕ
    pub makes : MakesObject kind sign class
    pub slot : ℕ
    pub atom : Atom
    pub held : Contains known (Field sign slot atom)
    pub gives : InitialGives class sign slot atom asked
    pub rests_on : (fact ≡ Live kind) ⊎ (fact ≡ Field sign slot atom)
