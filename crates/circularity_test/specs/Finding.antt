-- The pairs that each part of a program gives, as contracts tell it. It serves proofs only.
--
--   `names_in`, `program_in`, `term_in`        what a finder knows, without its memory
--   `task_in`                                  the future that a fact says a slot holds
--   `IsPairOf`, `IsPairBy`, `FutureHeld`       a pair for a future that a slot may hold, by a fact and by some facts
--   `SlotWaits`, `StatementWaits`              the pairs of a slot that is not settled, and those of a statement
--   `TermWaits`, `ClassWaits`                  those of a term, and those of a method of a class
--   `BodyOf`, `KindWaits`, `LiveWaits`         a body of a kind, the pairs of a kind, and those of the live ones
--   `HeldFrom`, `WalkedTo`                     a walk over facts that goes from the last to the first
use Rattle.std.specs.Prelude.{◌≡◌, ◌≤◌, ℕ, List, Contains, Option, Some, None, slice_get}
use Rattle.abs_program.specs.Instructions.{InstructionTree, instructions}
use Rattle.abs_program.specs.NamedViews.{program_tree}
use Rattle.abs_tree.specs.Names.{name_of}
use Rattle.abs_tree.specs.Syntax.{Name, ProgramTree}
use Rattle.abs_tree.specs.declared.symbol.Symbol.{Symbol}
use Rattle.circularity_test.specs.Adding.{Adds, OfEach}
use Rattle.circularity_test.specs.declared.finding.Finder.{Finder}
use Rattle.circularity_test.specs.declared.finding.Waiting.{Waiting}
use Rattle.contract_terms.specs.Pairs.{mode_of}
use Rattle.contract_terms.specs.Settled.{named_slots}
use Rattle.contract_terms.specs.Terms.{TermTree}
use Rattle.contract_terms.specs.Views.{made_in, term_tree}
use Rattle.contract_terms.specs.declared.fact.Atom.TheVariants.{Future}
use Rattle.contract_terms.specs.declared.fact.Fact.{Fact}
use Rattle.contract_terms.specs.declared.fact.Fact.TheVariants.{Live, Holds}
use Rattle.contract_terms.specs.declared.pair.Pair.{Pair}
use Rattle.contract_terms.specs.declared.term.Term.{Term}
use Rattle.contract_terms.specs.declared.terms.Terms.{Terms}
use Rattle.name_bounding.specs.declared.kind.Kind.{Kind}
use Rattle.name_bounding.specs.declared.kind.Kind.TheVariants.{Main, Method}
use Rattle.name_bounding.specs.declared.kind.Sign.{Sign}
use Rattle.saturation.specs.Keys.{IsLatest, IsOfSlot}
use Rattle.saturation.specs.Rows.{MethodIs}
use Rattle.saturation.specs.Uses.{body_terms}
use Rattle.saturation.specs.declared.body.Body.{Body}
use Rattle.saturation.specs.declared.body.Body.TheVariants as body

-- the names of the program
abbrev pub names_in : Finder → List Name
names_in finder = finder.program.now.symbols

-- the program
abbrev pub program_in : Finder → ProgramTree
program_in finder = program_tree finder.program.now

-- a contract term
abbrev pub term_in : Finder → Term → TermTree
term_in finder term = term_tree (names_in finder) term

-- the call and the task of the future that a fact says a slot holds
abbrev pub task_in : Fact → Option (ℕ × Kind)
task_in (Holds kind slot (Future call task)) = Some (call, task)
task_in _ = None

-- A pair of a statement that waits, for the future that a fact says some slot holds.
pub record IsPairOf (waiting : Waiting) (fact : Fact) (pair : Pair) : Type 0 where
  pub place_is : pair.place ≡ waiting.place
  pub mode_is : pair.mode ≡ waiting.mode
  pub source_is : pair.source ≡ waiting.kind.now
  pub task_is : task_in fact ≡ Some (pair.call, pair.target)

-- A pair of a statement that waits, for a future that a slot may hold by a fact.
pub record IsPairBy (waiting : Waiting) (slot : ℕ) (fact : Fact) (pair : Pair) : Type 0 where
  pub place_is : pair.place ≡ waiting.place
  pub mode_is : pair.mode ≡ waiting.mode
  pub source_is : pair.source ≡ waiting.kind.now
  pub fact_is : fact ≡ Holds waiting.kind.now slot (Future pair.call pair.target)

-- Some fact gives such a pair.
pub record FutureHeld (facts : List Fact) (waiting : Waiting) (slot : ℕ) (pair : Pair) : Type 0 where
  pub fact : Fact
  pub known : Contains facts fact
  pub pair_by : IsPairBy waiting slot fact pair

-- A fact from an index on gives such a pair.
pub record HeldFrom (facts : List Fact) (waiting : Waiting) (slot bound : ℕ) (pair : Pair) : Type 0 where
  pub index : ℕ
  pub from : bound ≤ index
  pub fact : Fact
  pub there : slice_get facts index ≡ Some fact
  pub pair_by : IsPairBy waiting slot fact pair

-- A walk over facts came to the last one before an index that a slot holds something. The pairs by the facts from the
-- index on were added.
pub record WalkedTo (facts : List Fact) (waiting : Waiting) (slot : ℕ) (next : Option ℕ) (before now : List Pair) : Type
    0 where
  pub bound : ℕ
  pub latest : IsLatest (IsOfSlot waiting.kind.now slot) facts bound next
  pub added : Adds (HeldFrom facts waiting slot bound) before now

-- The slot that a part of a statement names is not settled, and the future may be held there.
pub record SlotWaits (facts : List Fact) (waiting : Waiting) (settled : List ℕ) (named : Option ℕ) (pair : Pair)
    : Type 0 where
  pub slot : ℕ
  pub is : named ≡ Some slot
  pub unsettled : Contains settled slot → ⊥
  pub held : FutureHeld facts waiting slot pair

-- A statement of a kind, where some slots are settled, gives the pair.
pub record StatementWaits (facts : List Fact) (kind : Kind) (instruction : InstructionTree) (settled : List ℕ)
    (pair : Pair) : Type 0 where
  pub source_is : pair.source ≡ kind
  pub place_is : pair.place ≡ instruction.place
  pub mode_is : mode_of instruction.effect ≡ Some pair.mode
  pub slot : ℕ
  pub named : Contains (named_slots instruction.effect) slot
  pub unsettled : Contains settled slot → ⊥
  pub held : Contains facts (Holds kind slot (Future pair.call pair.target))

-- The statement of a term does.
pub record TermWaits (program : ProgramTree) (facts : List Fact) (kind : Kind) (term : TermTree) (pair : Pair) : Type 0
  where
    pub instruction : InstructionTree
    pub there : slice_get (instructions program.source) term.index ≡ Some instruction
    pub waits : StatementWaits facts kind instruction term.settled pair

-- A statement of the method with a name of a class gives the pair.
pub record ClassWaits (program : ProgramTree) (terms : Terms) (facts : List Fact) (kind : Kind) (method class : Symbol)
    (pair : Pair) : Type 0 where
  pub own : Body
  pub is : MethodIs program (name_of program.names class) (name_of program.names method) own
  pub waits : OfEach (TermWaits program facts kind) (body_terms program.names terms own) pair

-- A body of a kind, by the contracts.
pub data BodyOf (program : ProgramTree) (terms : Terms) : Kind → Body → Type 0 where
  of_main : BodyOf program terms Main body.Main
  of_method : (sign : Sign) (method : Symbol) (class : Name) (own : Body)
      → Contains (made_in program.names terms sign.place) class
      → MethodIs program class (name_of program.names method) own → BodyOf program terms (Method sign method) own

-- A statement of a body of a kind gives the pair.
pub record KindWaits (program : ProgramTree) (terms : Terms) (facts : List Fact) (kind : Kind) (pair : Pair) : Type 0
  where
    pub own : Body
    pub has : BodyOf program terms kind own
    pub waits : OfEach (TermWaits program facts kind) (body_terms program.names terms own) pair

-- A fact says that a kind is live, and a statement of it gives the pair.
pub record LiveWaits (program : ProgramTree) (terms : Terms) (facts : List Fact) (fact : Fact) (pair : Pair) : Type 0
  where
    pub live : fact ≡ Live pair.source
    pub waits : KindWaits program terms facts pair.source pair
