-- The edges that lead on from the parts of links, whatever pairs there are. It serves proofs only.
--
--   `AwaitingSigns`, `IsAwaited`               the signs with an `await`, and the kinds that may reach one
--   `KeepsSigns`               the sign of a pair was added, if that is an `await`
--   `MadeStep`, `MethodStep`   edges between a kind and its methods
--   `ClassStep`                the same by the name of a class
--   `called_at`                the method that a statement calls on `this`
--   `CallStep`, `TermStep`     edges along calls on `this`, and those by a term
--   `TargetStep`, `StepsFrom`  the edges that lead on from a target, and from a part
--   `IsFollowed`, `AreFollowed`                the edges that lead on are there
--   `AreParts`                 the graph of some pairs
--   `program_of`, `Awaits`     what steps are by
use Rattle.std.specs.Prelude.{◌≡◌, ⊤, ℕ, List, Contains, Option, Some, None, slice_get, option_and_then}
use Rattle.abs_program.specs.Instructions.{EffectTree, CallsOwn, InstructionTree, instructions}
use Rattle.abs_program.specs.Members.{method_of}
use Rattle.abs_program.specs.NamedViews.{program_tree}
use Rattle.abs_tree.specs.Names.{name_of}
use Rattle.abs_tree.specs.Syntax.{DeclTree, ProgramTree}
use Rattle.abs_tree.specs.declared.symbol.Symbol.{Symbol}
use Rattle.circularity_test.specs.Numbers.{AwaitsAs}
use Rattle.circularity_test.specs.Parts.{AreKept, AreOwn, HasEdge, joined}
use Rattle.circularity_test.specs.declared.parts.Part.{Part}
use Rattle.circularity_test.specs.declared.parts.Part.TheVariants as part
use Rattle.circularity_test.specs.declared.parts.Parts.{Parts}
use Rattle.circularity_test.specs.declared.steps.Steps.{Steps}
use Rattle.contract_terms.specs.OwnCalls.{CallsOnThis}
use Rattle.contract_terms.specs.PairLinks.{MethodMade}
use Rattle.contract_terms.specs.declared.pair.Mode.TheVariants.{Await}
use Rattle.contract_terms.specs.declared.pair.Pair.{Pair}
use Rattle.contract_terms.specs.declared.term.Term.{Term}
use Rattle.name_bounding.specs.Names.{cog_of}
use Rattle.name_bounding.specs.declared.kind.Kind.{Kind}
use Rattle.name_bounding.specs.declared.kind.Kind.TheVariants.{Main, Method}
use Rattle.name_bounding.specs.declared.kind.Sign.{Sign}
use Rattle.saturation.specs.Rows.{MethodIs}
use Rattle.saturation.specs.declared.body.Body.TheVariants as body

-- the program that tells them
abbrev pub program_of : Steps → ProgramTree
program_of steps = program_tree steps.program.now.checked.named

-- an `await` is in a method of objects with this sign
abbrev pub Awaits : Steps → Sign → Type 0
Awaits steps sign = Contains steps.awaiting.now.keys sign

-- the list has the signs of all sources of an `await`
abbrev pub AwaitingSigns : List Pair → List Sign → Type 0
AwaitingSigns pairs signs = (sign : Sign) → AwaitsAs pairs sign → Contains signs sign

-- The signs are kept, and that of the source of a pair is there, if it is an `await`.
pub record KeepsSigns (pair : Pair) (old new : List Sign) : Type 0 where
  pub kept : (sign : Sign) → Contains old sign → Contains new sign
  pub added : (sign : Sign) (method : Symbol) → pair.mode ≡ Await → pair.source ≡ Method sign method
      → Contains new sign

-- an `await` may be reached from a kind by calls on `this`: some source of one has the same sign
abbrev pub IsAwaited : (Sign → Type 0) → Kind → Type 0
IsAwaited Awaits Main = ⊤
IsAwaited Awaits (Method sign method) = Awaits sign

-- An edge between a kind of a sign and its method in a class of which objects are made at the place of the sign.
pub record MadeStep (program : ProgramTree) (end : Part) (sign : Sign) (method : Symbol) (edge : Part × Part) : Type 0
  where
    pub class : ℕ
    pub member : ℕ
    pub made : MethodMade program sign.place (name_of program.names method) class member
    pub is : edge ≡ joined end (part.Method sign class member)

-- an edge between a kind and one of its methods
abbrev pub MethodStep : ProgramTree → Part → Kind → Part × Part → Type 0
MethodStep program end Main edge = ⊥
MethodStep program end (Method sign method) edge = MadeStep program end sign method edge

-- The same by the name of the class.
pub record ClassStep (program : ProgramTree) (end : Part) (sign : Sign) (method class : Symbol) (edge : Part × Part)
    : Type 0 where
  pub index : ℕ
  pub member : ℕ
  pub found : MethodIs program (name_of program.names class) (name_of program.names method) (body.Method index member)
  pub is : edge ≡ joined end (part.Method sign index member)

-- An edge from a method to one that it calls on `this`.
pub record CallStep (program : ProgramTree) (sign : Sign) (class member : ℕ) (edge : Part × Part) : Type 0 where
  pub other : ℕ
  pub calls : CallsOnThis program.source class member other
  pub is : edge ≡ (part.Method sign class member, part.Method sign class other)

-- the method that an effect calls on `this`, by its index among the members of a class
abbrev pub called_by : List DeclTree → ℕ → EffectTree → Option ℕ
called_by declarations class (CallsOwn method target) = method_of declarations class method
called_by declarations class _ = None

-- the method that the statement with an index calls on `this`
abbrev pub called_at : ProgramTree → ℕ → ℕ → Option ℕ
called_at program class index =
    option_and_then (λ (one : InstructionTree). called_by program.source.declarations class one.effect)
    (slice_get (instructions program.source) index)

-- The same by the statement of a term.
pub record TermStep (program : ProgramTree) (sign : Sign) (class member : ℕ) (term : Term) (edge : Part × Part) : Type 0
  where
    pub other : ℕ
    pub calls : called_at program class term.index ≡ Some other
    pub is : edge ≡ (part.Method sign class member, part.Method sign class other)

-- An edge from a target: to the cog that it needs, and where an `await` may be reached, to itself as what runs and to its
-- methods.
pub data TargetStep (program : ProgramTree) (Awaits : Sign → Type 0) (kind : Kind) : Part × Part → Type 0 where
  needs : TargetStep program Awaits kind (part.Target kind, part.Cog (cog_of kind))
  itself : IsAwaited Awaits kind → TargetStep program Awaits kind (part.Target kind, part.Running kind)
  begins : (edge : Part × Part) → IsAwaited Awaits kind → MethodStep program (part.Target kind) kind edge
      → TargetStep program Awaits kind edge

-- the edges that lead on from a part, whatever pairs there are
abbrev pub StepsFrom : ProgramTree → (Sign → Type 0) → Part → Part × Part → Type 0
StepsFrom program Awaits (part.Target kind) edge = TargetStep program Awaits kind edge
StepsFrom program Awaits (part.Running kind) edge = MethodStep program (part.Running kind) kind edge
StepsFrom program Awaits (part.Cog name) edge = ⊥
StepsFrom program Awaits (part.Method sign class member) edge = CallStep program sign class member edge

-- A part with this number is there, with all edges that lead on from it.
pub record IsFollowed (program : ProgramTree) (Awaits : Sign → Type 0) (parts : Parts) (number : ℕ) : Type 0 where
  pub one : Part
  pub there : slice_get parts.parts.keys number ≡ Some one
  pub steps : (edge : Part × Part) → StepsFrom program Awaits one edge → ∥ HasEdge parts edge ∥₁

-- What was there is kept, and the edges that lead on from each part are there.
pub record AreFollowed (program : ProgramTree) (Awaits : Sign → Type 0) (old new : Parts) : Type 0 where
  pub keys : AreKept old.parts.keys new.parts.keys
  pub edges : AreKept old.edges.items new.edges.items
  pub followed : (number : ℕ) (one : Part) → slice_get new.parts.keys number ≡ Some one
      → (edge : Part × Part) → StepsFrom program Awaits one edge → ∥ HasEdge new edge ∥₁

-- The graph of some pairs: that of each pair has its index, and all edges that lead on from a part are there.
pub record AreParts (program : ProgramTree) (pairs : List Pair) (parts : Parts) : Type 0 where
  pub own : AreOwn parts pairs
  pub followed : (number : ℕ) (one : Part) → slice_get parts.parts.keys number ≡ Some one
      → (edge : Part × Part) → StepsFrom program (AwaitsAs pairs) one edge → ∥ HasEdge parts edge ∥₁
