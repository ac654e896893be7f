-- What the view of a body says of variables, receivers and statements.
--
--   `slots_let_in`, `fields_let_in`    what a slot and a field let in
--   `receiver_found`, `receiver_none`  the objects that can be a receiver, by the head of its type
--   `receivers_first`                  a receiver is the first of several expressions
--   `instruction_is`                   the instruction at an index is that of the point there
--   `term_is_added`                    a term is added for the statement of a point
use Rattle.std.proofs.Common.{◌≡◌, ℕ, zero, suc, true, false, List, [], ◌∷◌, ◌++◌, Some, None, map, get_or, option_map, refl, sym, ap, ◌∙◌, subst}
use Rattle.std.specs.Prelude.{Option, option_and_then, slice_get}
use Rattle.std.proofs.lemmas.Option.{none-some, same_Some, slice_get-map}
use Rattle.abs_program.specs.Control.{Point, program_points}
use Rattle.abs_program.specs.Flows.{Slots}
use Rattle.abs_program.specs.Instructions.{InstructionTree, EffectTree, effect_of, expr_trees_of, instruction_of, instructions}
use Rattle.abs_tree.specs.Syntax.{Name, TypeTree, DeclTree, ExprTrees, SourceTree}
use Rattle.abs_tree.specs.SyntaxViews.{expr_tree, expr_trees}
use Rattle.abs_tree.specs.declared.syntax.expression.Expr.{Expr}
use Rattle.abs_types.specs.PlainTypes.{PlainType}
use Rattle.abs_types.specs.Typing.{type_in}
use Rattle.check_fun.specs.ObjectHeads.{PlainHead, head_of}
use Rattle.contract_infer.specs.BodyViews.{TermAdded}
use Rattle.contract_infer.specs.BodyViews.TermAdded.{has_none, added}
use Rattle.contract_terms.specs.Accepts.{ObjectsTree, NoObject, accepts_in, accepts_of, nothing, receivers_of}
use Rattle.contract_terms.specs.BodyContexts.{BodyContext, whole_frame}
use Rattle.contract_terms.specs.Terms.{TermTree, first_receivers, has_term, IsTerm}

-- What a slot lets in, by its declared type.
pub slots_let_in : (declarations : List DeclTree) (types : List (Option TypeTree)) (slot : ℕ)
    → get_or (map (accepts_of declarations) types) slot nothing
    ≡ accepts_of declarations (option_and_then (λ type. type) (slice_get types slot))
slots_let_in declarations [] slot = refl
slots_let_in declarations (type ∷ types) zero = refl
slots_let_in declarations (type ∷ types) (suc slot) = slots_let_in declarations types slot

-- What a field lets in.
pub fields_let_in : (declarations : List DeclTree) (types : List TypeTree) (field : ℕ)
    → get_or (map (accepts_in declarations) types) field nothing ≡ accepts_of declarations (slice_get types field)
fields_let_in declarations [] field = refl
fields_let_in declarations (type ∷ types) zero = refl
fields_let_in declarations (type ∷ types) (suc field) = fields_let_in declarations types field

-- A receiver that has a type at all is what that is at its head.
pub receiver_found : (head : PlainHead) (objects : ObjectsTree) (type : Option PlainType)
    → Some head ≡ option_map head_of type → ((one : PlainType) → head ≡ head_of one → objects ≡ receivers_of (Some one))
    → objects ≡ receivers_of type
receiver_found head objects None is by = absurd (none-some head (sym is))
receiver_found head objects (Some type) is by = by type (same_Some head (head_of type) is)

-- One without a type has no object.
pub receiver_none : (type : Option PlainType) → None ≡ option_map head_of type → NoObject ≡ receivers_of type
receiver_none None is = refl
receiver_none (Some type) is = absurd (none-some (head_of type) is)

-- The receiver is the first of several expressions.
pub receivers_first : (declarations : List DeclTree) (body : BodyContext) (names : List Name) (exprs : List Expr)
    (receiver : Expr) → slice_get exprs 0 ≡ Some receiver
    → first_receivers declarations body (expr_trees names exprs)
    ≡ receivers_of (type_in declarations (whole_frame body) [] (expr_tree names receiver))
receivers_first declarations body names [] receiver is = absurd (none-some receiver is)
receivers_first declarations body names (expr ∷ exprs) receiver is =
    ap (λ (it : Expr). receivers_of (type_in declarations (whole_frame body) [] (expr_tree names it)))
    (same_Some expr receiver is)

-- The instruction at an index is that of the point there.
pub instruction_is : (source : SourceTree) (index : ℕ) (point : Point) (found : InstructionTree)
    → slice_get (program_points source) index ≡ Some point → Some found ≡ slice_get (instructions source) index
    → found ≡ instruction_of point
unfolding instructions
instruction_is source index point found point_is is =
    same_Some found (instruction_of point)
    (is ∙ (slice_get-map instruction_of (program_points source) index ∙ ap (option_map instruction_of) point_is))

module _ (declarations : List DeclTree) (body : BodyContext) (index : ℕ) (point : Point) (settled : Slots)
    (effect : EffectTree) (expr_trees_there : ExprTrees) (effect_is : effect ≡ effect_of point.statement)
    (expr_trees_are : expr_trees_there ≡ expr_trees_of point.statement) (old new : List TermTree) where
  -- The term of the statement of a point is added.
  pub term_is_added : (term : TermTree) → has_term effect ≡ true → new ≡ old ++ term ∷ [] → term.index ≡ index
      → IsTerm declarations body effect expr_trees_there settled term
      → TermAdded declarations body index (effect_of point.statement) (expr_trees_of point.statement) settled old new
  term_is_added term has_it new_is index_is is =
      subst (λ (it : ExprTrees). TermAdded declarations body index (effect_of point.statement) it settled old new)
      expr_trees_are
      (subst (λ (it : EffectTree). TermAdded declarations body index it expr_trees_there settled old new) effect_is
      (added term has_it new_is index_is is))

  -- None is added for a statement that has none.
  pub no_term_is_added : has_term effect ≡ false → new ≡ old
      → TermAdded declarations body index (effect_of point.statement) (expr_trees_of point.statement) settled old new
  no_term_is_added none same = has_none (ap has_term (sym effect_is) ∙ none) same
