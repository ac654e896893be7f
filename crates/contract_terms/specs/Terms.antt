-- Contract terms: what a statement passes on, beside its instruction.
--
--   `TermTree`                             a contract term
--   `target_of`, `target_type`             the target of an effect, and the type of what goes there
--   `receiver_in`                          the objects that can be the receiver of a message
--   `has_term`, `term_indices`             whether an effect has a term, and the statements of a body that have one
--   `IsTerm`, `IsTermThere`                the term of a statement, and that of the one with its index
--   `AreTerms`                             the terms of a body
use Rattle.std.specs.Prelude.{◌≡◌, ℕ, Bool, true, false, List, [], map, filter, All, slice_get, Option, Some, None}
use Rattle.std.specs.List.{range_with_len}
use Rattle.abs_program.specs.Control.{Point, program_points}
use Rattle.abs_program.specs.Flows.{Slots}
use Rattle.abs_program.specs.Instructions.{EffectTree, Awaits, Returns, Stores, Makes, Sends, CallsOwn, Gets, effect_of, expr_trees_of}
use Rattle.abs_program.specs.ProgramBodies.{BodyAt}
use Rattle.abs_tree.specs.Syntax.{VariableTree, TypeTree, DeclTree, ExprTrees, NoExpr, NextExpr, SourceTree}
use Rattle.abs_tree.specs.SyntaxSizes.{statement_count}
use Rattle.abs_types.specs.Typing.{type_in}
use Rattle.contract_terms.specs.Accepts.{ObjectsTree, NoObject, AcceptsTree, accepts_of, receivers_of}
use Rattle.contract_terms.specs.BodyContexts.{BodyContext, whole_frame, variable_type_tree}
use Rattle.contract_terms.specs.Reading.{ReadsTree, AreReads}
use Rattle.contract_terms.specs.Settled.{settled_facts, settled_names}

-- A contract term: the index of its statement; what each expression of its instruction reads; what its target lets in,
-- for `return` the result type; for a message the objects that can be its receiver; and for `get` and `await` the named
-- slots that are settled there.
pub record TermTree : Type 0 where
  pub index : ℕ
  pub reads : List ReadsTree
  pub accepts : AcceptsTree
  pub receiver : Option ObjectsTree
  pub settled : List ℕ

-- the variable to which an effect gives a value
abbrev pub target_of : EffectTree → Option VariableTree
target_of (Stores target) = target
target_of (Makes mode class target) = target
target_of (Sends method target) = target
target_of (CallsOwn method target) = target
target_of (Gets named target) = target
target_of _ = None

-- the type that a variable is declared with, if there is one
abbrev pub type_of_target : BodyContext → Option VariableTree → Option TypeTree
type_of_target context None = None
type_of_target context (Some variable) = variable_type_tree context variable

-- the type of what takes the value of an effect: the target, or for `return` the result of the body
abbrev pub target_type : BodyContext → EffectTree → Option TypeTree
target_type context Returns = context.result
target_type context effect = type_of_target context (target_of effect)

-- the objects that can be the first one of several expressions
abbrev pub first_receivers : List DeclTree → BodyContext → ExprTrees → ObjectsTree
first_receivers declarations context NoExpr = NoObject
first_receivers declarations context (NextExpr receiver arguments) =
    receivers_of (type_in declarations (whole_frame context) [] receiver)

-- the objects that can be the receiver of a message, which is the first of its expressions
abbrev pub receiver_in : List DeclTree → BodyContext → EffectTree → ExprTrees → Option ObjectsTree
receiver_in declarations context (Sends method target) expr_trees =
    Some (first_receivers declarations context expr_trees)
receiver_in declarations context _ expr_trees = None

-- whether an effect has a term; an expression whose value goes nowhere has none
abbrev pub has_term : EffectTree → Bool
has_term (Stores (Some target)) = true
has_term (Makes mode class target) = true
has_term (Sends method target) = true
has_term (CallsOwn method target) = true
has_term (Gets named target) = true
has_term (Awaits names) = true
has_term Returns = true
has_term _ = false

-- whether a statement of a program has a term
abbrev pub point_has_term : Option Point → Bool
point_has_term None = false
point_has_term (Some point) = has_term (effect_of point.statement)

-- the indices of the statements of a body that have a term, in ascending order
abbrev pub term_indices : SourceTree → BodyAt → List ℕ
term_indices source body =
    filter (λ index. point_has_term (slice_get (program_points source) index))
    (range_with_len body.index (statement_count body.statements))

-- This is the term of a statement with this effect and these expressions, at which these slots are settled.
pub record IsTerm (declarations : List DeclTree) (context : BodyContext) (effect : EffectTree) (expr_trees : ExprTrees)
    (settled : Slots) (term : TermTree) : Type 0 where
  pub reads : AreReads expr_trees term.reads
  pub accepts : term.accepts ≡ accepts_of declarations (target_type context effect)
  pub receiver : term.receiver ≡ receiver_in declarations context effect expr_trees
  pub settled_are : term.settled ≡ settled_names effect settled

-- the term of the statement with its index is as the statement and what is settled there ask
abbrev pub IsTermThere : SourceTree → BodyContext → TermTree → Type 0
IsTermThere source context term = (point : Point) (settled : Slots)
    → slice_get (program_points source) term.index ≡ Some point
    → slice_get (settled_facts source) term.index ≡ Some settled
    → IsTerm source.declarations context (effect_of point.statement) (expr_trees_of point.statement) settled term

-- These are the terms of a body: one for each statement that has one, in the order of the indices.
pub record AreTerms (source : SourceTree) (context : BodyContext) (terms : List TermTree) : Type 0 where
  pub indices : map (λ term. term.index) terms ≡ term_indices source context.body
  pub each : All (IsTermThere source context) terms
