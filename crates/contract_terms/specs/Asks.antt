-- The table of rules: which facts a statement of a kind asks for, and from which other ones. All facts rest on it.
--
--   `field_accepts`, `params_accept`       what the fields of a class and the parameters of a body let in
--   `LetInField`, `LetInParam`             a field of a class and a parameter of a kind let in an atom
--   `InitialReads`, `IsActive`             what an initial value reads, and a class with a method that runs at once
--   `AsksFor`                              the table: a constructor for each fact of each of its rows
--   `Asks`, `Rests`                        what a statement of a kind asks for, and what rests on which facts
--   `IsClosedFor`, `IsDerivedIn`           facts that are closed, and a fact that is derived, in a program
use Rattle.std.specs.Prelude.{◌≡◌, ℕ, ◌+◌, true, List, [], ◌∷◌, ◌++◌, codes, length, map, slice_get, take, Option, Some}
use Rattle.abs_program.specs.Bodies.{initials_among, run_among}
use Rattle.abs_program.specs.Instructions.{EffectTree, Returns, Stores, Makes, Sends, CallsOwn, Gets, effect_of, expr_trees_of}
use Rattle.abs_tree.specs.Syntax.{Name, VariableTree, ExprTree, ExprTrees, ParamTree, MemberTree, DeclTree, ProgramTree}
use Rattle.abs_tree.specs.SyntaxPlaces.{statement_place}
use Rattle.abs_tree.specs.declared.symbol.Symbol.{Symbol}
use Rattle.abs_tree.specs.declared.syntax.statement.Mode.{Mode}
use Rattle.abs_values.specs.References.{Reads, expr_tree_at}
use Rattle.abs_values.specs.Scopes.{InSlot}
use Rattle.contract_terms.specs.Accepts.{AcceptsTree, accepts_in, accepts_of}
use Rattle.contract_terms.specs.Atoms.{AtomAt, held_by, is_let_in, is_object_let_in}
use Rattle.contract_terms.specs.BodyContexts.{BodyContext, class_types}
use Rattle.contract_terms.specs.Derived.{IsClosed, IsDerived}
use Rattle.contract_terms.specs.KindBodies.{Class, KindBody, KindStatement, new_sign, called}
use Rattle.contract_terms.specs.Terms.{first_receivers, target_of, target_type}
use Rattle.contract_terms.specs.declared.fact.Atom.{Atom}
use Rattle.contract_terms.specs.declared.fact.Atom.TheVariants.{Object, Future}
use Rattle.contract_terms.specs.declared.fact.Fact.{Fact}
use Rattle.contract_terms.specs.declared.fact.Fact.TheVariants.{Live, Holds, Field, Gives}
use Rattle.name_bounding.specs.declared.kind.Kind.{Kind}
use Rattle.name_bounding.specs.declared.kind.Kind.TheVariants.{Main, Method}
use Rattle.name_bounding.specs.declared.kind.Sign.{Sign}

-- what the fields of a class let in, of which its parameters come first
abbrev pub field_accepts : List DeclTree → List ParamTree → List MemberTree → List AcceptsTree
field_accepts declarations params members = map (accepts_in declarations) (class_types params members)

-- what the parameters of a body let in, which are its first slots
abbrev pub params_accept : List DeclTree → BodyContext → List AcceptsTree
params_accept declarations context = map (accepts_of declarations) (take context.body.params context.slots)

-- A field of the class with a name lets in an atom.
pub record LetInField (program : ProgramTree) (class : Name) (field : ℕ) (atom : Atom) : Type 0 where
  pub params : List ParamTree
  pub members : List MemberTree
  pub class_is : Class program.source.declarations class params members
  pub accepts : AcceptsTree
  pub there : slice_get (field_accepts program.source.declarations params members) field ≡ Some accepts
  pub let_in : is_let_in program.source accepts atom ≡ true

-- The initial value of a field of the class with a name reads a slot, which is an earlier field.
pub record InitialReads (program : ProgramTree) (class : Name) (field slot : ℕ) : Type 0 where
  pub params : List ParamTree
  pub members : List MemberTree
  pub class_is : Class program.source.declarations class params members
  pub index : ℕ
  pub field_is : field ≡ length params + index
  pub expr_tree : ExprTree
  pub there : expr_tree_at (initials_among members) index ≡ Some expr_tree
  pub reads : Reads (InSlot slot) expr_tree

-- The class with a name is active: it has a method that runs at once.
pub record IsActive (program : ProgramTree) (class : Name) : Type 0 where
  pub params : List ParamTree
  pub members : List MemberTree
  pub class_is : Class program.source.declarations class params members
  pub member : ℕ
  pub runs : run_among members ≡ Some member

-- A parameter of a body of a kind lets in an atom.
pub record LetInParam (program : ProgramTree) (kind : Kind) (param : ℕ) (atom : Atom) : Type 0 where
  pub context : BodyContext
  pub body_is : KindBody program kind context
  pub accepts : AcceptsTree
  pub there : slice_get (params_accept program.source.declarations context) param ≡ Some accepts
  pub let_in : is_let_in program.source accepts atom ≡ true

module _ (program : ProgramTree) (depth : ℕ) (kind : Kind) (context : BodyContext) (place : ℕ) (effect : EffectTree)
    (expr_trees : ExprTrees) where
  -- an atom of the expression at an index
  abbrev AtomHere : ℕ → List Fact → Atom → Type 0
  AtomHere = AtomAt kind expr_trees

  -- the target of the effect holds the atom
  abbrev Targets : Atom → Fact → Type 0
  Targets atom fact = held_by kind (target_of effect) atom ≡ Some fact

  -- the target of the effect lets in the atom; for `return` the result does
  abbrev LetIn : Atom → Type 0
  LetIn atom =
      is_let_in program.source (accepts_of program.source.declarations (target_type context effect)) atom ≡ true

  -- an object with this sign may receive the message, by the facts that come first
  abbrev Receives : List Fact → Sign → Type 0
  Receives premises sign = AtomHere 0 premises (Object sign)
      × (is_object_let_in program.source (first_receivers program.source.declarations context expr_trees) sign.place
      ≡ true)

  -- What a statement with this effect and these expressions asks for in a live kind, and from which facts.
  pub data AsksFor : List Fact → Fact → Type 0 where
    -- `x = e`: the atoms of e, which is the one expression there
    assigned : (target : Option VariableTree) → effect ≡ Stores target
        → (index : ℕ) (premises : List Fact) (atom : Atom) → AtomHere index premises atom → LetIn atom
        → (fact : Fact) → Targets atom fact → AsksFor premises fact
    -- `x = new [cog] C(es)`: the new object
    makes : (mode : Mode) (class : Name) (target : Option VariableTree) → effect ≡ Makes mode class target
        → (fact : Fact) → Targets (Object (new_sign depth place mode kind)) fact → AsksFor [] fact
    -- the atoms of each argument, in its field
    fills : (mode : Mode) (class : Name) (target : Option VariableTree) → effect ≡ Makes mode class target
        → (argument : ℕ) (premises : List Fact) (atom : Atom) → AtomHere argument premises atom
        → LetInField program class argument atom
        → AsksFor premises (Field (new_sign depth place mode kind) argument atom)
    -- the atoms of each initial value, from the fields that it reads
    begins : (mode : Mode) (class : Name) (target : Option VariableTree) → effect ≡ Makes mode class target
        → (field slot : ℕ) → InitialReads program class field slot → (atom : Atom) → LetInField program class field atom
        → AsksFor (Field (new_sign depth place mode kind) slot atom ∷ [])
        (Field (new_sign depth place mode kind) field atom)
    -- an active class runs
    starts : (mode : Mode) (class : Name) (target : Option VariableTree) → effect ≡ Makes mode class target
        → IsActive program class
        → AsksFor [] (Live (called program.names (new_sign depth place mode kind) (codes "run")))
    -- `x = e!m(es)`: the method of each receiver is called
    calls : (method : Name) (target : Option VariableTree) → effect ≡ Sends method target
        → (premises : List Fact) (sign : Sign) → Receives premises sign
        → AsksFor premises (Live (called program.names sign method))
    -- the atoms of each argument, in its parameter
    passes : (method : Name) (target : Option VariableTree) → effect ≡ Sends method target
        → (before : List Fact) (sign : Sign) → Receives before sign
        → (argument : ℕ) (premises : List Fact) (atom : Atom) → AtomHere (argument + 1) premises atom
        → LetInParam program (called program.names sign method) argument atom
        → AsksFor (before ++ premises) (Holds (called program.names sign method) argument atom)
    -- the future of the call
    answers : (method : Name) (target : Option VariableTree) → effect ≡ Sends method target
        → (premises : List Fact) (sign : Sign) → Receives premises sign
        → (fact : Fact) → Targets (Future place (called program.names sign method)) fact → AsksFor premises fact
    -- `x = this.m(es)`: the method of `this` is called
    calls_own : (method : Name) (target : Option VariableTree) → effect ≡ CallsOwn method target
        → (sign : Sign) (own : Symbol) → kind ≡ Method sign own → AsksFor [] (Live (called program.names sign method))
    -- the atoms of each argument, in its parameter
    passes_own : (method : Name) (target : Option VariableTree) → effect ≡ CallsOwn method target
        → (sign : Sign) (own : Symbol) → kind ≡ Method sign own
        → (argument : ℕ) (premises : List Fact) (atom : Atom) → AtomHere argument premises atom
        → LetInParam program (called program.names sign method) argument atom
        → AsksFor premises (Holds (called program.names sign method) argument atom)
    -- the atoms that the method gives
    answers_own : (method : Name) (target : Option VariableTree) → effect ≡ CallsOwn method target
        → (sign : Sign) (own : Symbol) → kind ≡ Method sign own → (atom : Atom) → LetIn atom
        → (fact : Fact) → Targets atom fact → AsksFor (Gives (called program.names sign method) atom ∷ []) fact
    -- `x = y.get`: the atoms that the task of each future gives
    gets : (slot : ℕ) (target : Option VariableTree) → effect ≡ Gets (Some slot) target
        → (call : ℕ) (task : Kind) (atom : Atom) → LetIn atom → (fact : Fact) → Targets atom fact
        → AsksFor (Holds kind slot (Future call task) ∷ Gives task atom ∷ []) fact
    -- `return e`: the atoms of e, which is the one expression there
    returns : effect ≡ Returns
        → (index : ℕ) (premises : List Fact) (atom : Atom) → AtomHere index premises atom → LetIn atom
        → AsksFor premises (Gives kind atom)

-- The statement with this index asks for the fact in a live kind, from some facts.
pub record Asks (program : ProgramTree) (depth : ℕ) (kind : Kind) (index : ℕ) (premises : List Fact) (fact : Fact)
    : Type 0 where
  pub here : KindStatement program kind index
  pub asked : AsksFor program depth kind here.context (statement_place here.point.statement).offset
      (effect_of here.point.statement) (expr_trees_of here.point.statement) premises fact

-- What rests on which facts: main is live, and what a statement of a live kind asks for rests on that and on the facts
-- from which it does.
pub data Rests (program : ProgramTree) (depth : ℕ) : List Fact → Fact → Type 0 where
  main_lives : Rests program depth [] (Live Main)
  asked_by : (kind : Kind) (index : ℕ) (premises : List Fact) (fact : Fact)
      → Asks program depth kind index premises fact → Rests program depth (Live kind ∷ premises) fact

-- Facts that have all that rests on them.
abbrev pub IsClosedFor : ProgramTree → ℕ → (Fact → Type 0) → Type 0
IsClosedFor program depth = IsClosed (Rests program depth)

-- A fact of the program: it is in each closed list.
abbrev pub IsDerivedIn : ProgramTree → ℕ → Fact → Type 0
IsDerivedIn program depth = IsDerived (Rests program depth)
