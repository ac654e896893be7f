-- What the code knows in a body, and the terms of a body so far. These words serve contracts of this crate alone.
--
--   `names_of`, `source_of`        the names and the tree of a checker's program
--   `whole_context`                what a checker knows in a body, with all its slots visible
--   `IsViewOf`                     slots, fields and the result let in what those of a body do
--   `TermAdded`                    the term of a statement was added, if the statement has one
--   `AreTermsSoFar`                these are the terms of the first statements of a body
use Rattle.std.specs.Prelude.{◌≡◌, ℕ, true, false, List, [], ◌∷◌, ◌++◌, All, filter, map, slice_get}
use Rattle.std.specs.List.{range_with_len}
use Rattle.abs_program.specs.Control.{program_points}
use Rattle.abs_program.specs.Flows.{Slots}
use Rattle.abs_program.specs.Instructions.{EffectTree}
use Rattle.abs_program.specs.NamedViews.{named_tree}
use Rattle.abs_tree.specs.Syntax.{Name, DeclTree, ExprTrees, SourceTree}
use Rattle.check_fun.specs.Contexts.{Context}
use Rattle.check_fun.specs.declared.checker.Checker.{Checker}
use Rattle.contract_infer.specs.declared.bodies.BodyView.{BodyView}
use Rattle.contract_terms.specs.Accepts.{accepts_in, accepts_of}
use Rattle.contract_terms.specs.BodyContexts.{BodyContext, whole_frame}
use Rattle.contract_terms.specs.Terms.{TermTree, has_term, point_has_term, IsTerm, IsTermThere}
use Rattle.contract_terms.specs.Views.{accepts_tree}

-- the names of a checker's program, and its tree
abbrev pub names_of : Checker → List Name
names_of checker = checker.table.program.now.symbols

abbrev pub source_of : Checker → SourceTree
source_of checker = named_tree checker.table.program.now

-- what a checker knows in a body, with all its slots visible and no variable bound
abbrev pub whole_context : List Name → List DeclTree → BodyContext → Context
whole_context names declarations body =
    record { names = names; declarations = declarations; frame = whole_frame body; bound = [] }

-- The slots, the fields and the result of a view let in what those of a body do.
pub record IsViewOf (names : List Name) (declarations : List DeclTree) (body : BodyContext) (view : BodyView) : Type 0
  where
    pub slots : map (accepts_tree names) view.slots.now ≡ map (accepts_of declarations) body.slots
    pub fields : map (accepts_tree names) view.fields.now ≡ map (accepts_in declarations) body.fields
    pub result : accepts_tree names view.result ≡ accepts_of declarations body.result

-- The term of a statement with an index, this effect and these expressions was added, if the statement has one.
pub data TermAdded (declarations : List DeclTree) (body : BodyContext) (index : ℕ) (effect : EffectTree)
    (expr_trees : ExprTrees) (settled : Slots) (old new : List TermTree) : Type 0 where
  has_none : has_term effect ≡ false → new ≡ old
      → TermAdded declarations body index effect expr_trees settled old new
  added : (term : TermTree) → has_term effect ≡ true → new ≡ old ++ term ∷ [] → term.index ≡ index
      → IsTerm declarations body effect expr_trees settled term
      → TermAdded declarations body index effect expr_trees settled old new

-- These are the terms of the first statements of a body, of which there are this many.
pub record AreTermsSoFar (source : SourceTree) (context : BodyContext) (passed : ℕ) (terms : List TermTree) : Type 0
  where
    pub indices : map (λ term. term.index) terms
        ≡ filter (λ index. point_has_term (slice_get (program_points source) index))
        (range_with_len context.body.index passed)
    pub each : All (IsTermThere source context) terms
