-- Operators of one precedence keep types, where what their operands give does.
--
--   `operators_outcome_has`    the outcome of an operator list
use Rattle.std.proofs.Common.{◌≡◌, ℕ, Bool, true, false, List, refl, sym, ap, ◌∙◌, subst, true≢false}
use Rattle.abs_profile.specs.Accepted.{IsAcceptedProgram}
use Rattle.abs_tree.specs.Syntax.{Name, ExprTree, Operands, NoOperands, NextOperand, DeclTree, ProgramTree}
use Rattle.abs_tree.specs.declared.syntax.expression.Operator.{Operator}
use Rattle.abs_tree.specs.declared.syntax.expression.Operator.TheVariants as operator
use Rattle.abs_types.proofs.ReplacementLemmas.{fits-replaced}
use Rattle.abs_types.proofs.SubtypingLemmas.{fits_whole}
use Rattle.abs_types.specs.Applications.{replaced}
use Rattle.abs_types.specs.HasType.{HasType, HaveOperands, no_operand, next_operand}
use Rattle.abs_types.specs.OperatorRules.{OperatorGives, numbers, strings, bottom_number, bottom_string, number_bottom, string_bottom, bottoms, arithmetic, comparison, equality, logical, is_arithmetic, is_comparison, is_equality, is_logical}
use Rattle.abs_types.specs.OperatorTypes.{bool_type}
use Rattle.abs_types.specs.PlainTypes.{PlainType}
use Rattle.abs_types.specs.Subtyping.{Fits, fits}
use Rattle.abs_types.specs.Typing.{Frame}
use Rattle.abs_values.specs.Evaluation.{Outcome, logical_outcome, operand_outcome, operators_outcome, outcome_after, result_after}
use Rattle.abs_values.specs.Operations.{operation_result, truth_of}
use Rattle.abs_values.specs.ValueTrees.{ValueTree}
use Rattle.type_sound.proofs.OperationLemmas.{operation_has}
use Rattle.type_sound.proofs.OutcomeLemmas.{logical_outcome_has, outcome_after_has, result_up}
use Rattle.type_sound.proofs.ValueLemmas.{value_up}
use Rattle.type_sound.specs.Values.{World, ValueHas, ResultHas}

-- an operator with the rule of `&&` has no other rule
no_other_rule : (op : Operator) → is_logical op ≡ true
    → (is_arithmetic op ≡ false) × (is_comparison op ≡ false) × (is_equality op ≡ false)
no_other_rule operator.And is = (refl, refl, refl)
no_other_rule operator.Or is = (refl, refl, refl)
no_other_rule operator.Plus is = absurd (true≢false (sym is))
no_other_rule operator.Minus is = absurd (true≢false (sym is))
no_other_rule operator.Times is = absurd (true≢false (sym is))
no_other_rule operator.Divide is = absurd (true≢false (sym is))
no_other_rule operator.Remainder is = absurd (true≢false (sym is))
no_other_rule operator.Less is = absurd (true≢false (sym is))
no_other_rule operator.LessEqual is = absurd (true≢false (sym is))
no_other_rule operator.Greater is = absurd (true≢false (sym is))
no_other_rule operator.GreaterEqual is = absurd (true≢false (sym is))
no_other_rule operator.Equal is = absurd (true≢false (sym is))
no_other_rule operator.NotEqual is = absurd (true≢false (sym is))

-- Both operands are of type Bool, and so is what is given.
record AreLogical (declarations : List DeclTree) (left right type : PlainType) : Type 0 where
  left_fits : Fits declarations left bool_type
  right_fits : Fits declarations right bool_type
  type_is : type ≡ bool_type

logical_parts : (declarations : List DeclTree) (op : Operator) (left right type : PlainType) → is_logical op ≡ true
    → OperatorGives declarations op left right type → AreLogical declarations left right type
logical_parts declarations _ _ _ _ is numbers = absurd (true≢false (sym is))
logical_parts declarations _ _ _ _ is strings = absurd (true≢false (sym is))
logical_parts declarations _ _ _ _ is bottom_number = absurd (true≢false (sym is))
logical_parts declarations _ _ _ _ is bottom_string = absurd (true≢false (sym is))
logical_parts declarations _ _ _ _ is number_bottom = absurd (true≢false (sym is))
logical_parts declarations _ _ _ _ is string_bottom = absurd (true≢false (sym is))
logical_parts declarations _ _ _ _ is bottoms = absurd (true≢false (sym is))
logical_parts declarations _ _ _ _ is (arithmetic op left right rule one other) =
    absurd (true≢false (sym rule ∙ (no_other_rule op is).0))
logical_parts declarations _ _ _ _ is (comparison op left right rule one other) =
    absurd (true≢false (sym rule ∙ (no_other_rule op is).1))
logical_parts declarations _ _ _ _ is (equality op left right joined rule there) =
    absurd (true≢false (sym rule ∙ (no_other_rule op is).2))
logical_parts declarations _ _ _ _ is (logical op left right rule one other) =
    record { left_fits = one; right_fits = other; type_is = refl }

-- an operator that is not logical evaluates both operands
plain_operand : (names : List Name) (give : ExprTree → ℕ → Outcome) (op : Operator) (right : ExprTree) (left : ValueTree)
    (made : ℕ) → is_logical op ≡ false
    → operand_outcome names give op right left made ≡ result_after (give right made) (operation_result names op left)
plain_operand names give operator.And right left made is = absurd (true≢false is)
plain_operand names give operator.Or right left made is = absurd (true≢false is)
plain_operand names give operator.Plus right left made is = refl
plain_operand names give operator.Minus right left made is = refl
plain_operand names give operator.Times right left made is = refl
plain_operand names give operator.Divide right left made is = refl
plain_operand names give operator.Remainder right left made is = refl
plain_operand names give operator.Less right left made is = refl
plain_operand names give operator.LessEqual right left made is = refl
plain_operand names give operator.Greater right left made is = refl
plain_operand names give operator.GreaterEqual right left made is = refl
plain_operand names give operator.Equal right left made is = refl
plain_operand names give operator.NotEqual right left made is = refl

module _ (program : ProgramTree) (world : World) (accepted : IsAcceptedProgram program) (types : List PlainType)
    (frame : Frame) (bound : List PlainType) (give : ExprTree → ℕ → Outcome)
    (given_has : (expr_tree : ExprTree) (made : ℕ) (type : PlainType)
    → HasType program.source.declarations frame bound expr_tree type
    → ResultHas program world (give expr_tree made).result (replaced types type)) where
  -- what fits Bool, replaced, is a Bool
  fits_bool : (type : PlainType) → Fits program.source.declarations type bool_type
      → fits program.source.declarations (replaced types type) bool_type ≡ true
  unfolding replaced
  fits_bool type fit = fits-replaced program.source.declarations types type bool_type (fits_whole fit)

  -- one operator after the value of its left side
  operand_has : (op : Operator) (left given between : PlainType) (right : ExprTree) (value : ValueTree) (made : ℕ)
      → ValueHas program world value (replaced types left)
      → HasType program.source.declarations frame bound right given
      → OperatorGives program.source.declarations op left given between
      → ResultHas program world (operand_outcome program.names give op right value made).result (replaced types between)
  unfolding replaced
  operand_has op left given between right value made has right_has gives = by_rule (is_logical op) refl
    where
      -- `&&` and `||`
      decided : (decides : Bool) → is_logical op ≡ true
          → ResultHas program world (logical_outcome program.names give decides right (truth_of program.names value)
          made).result (replaced types between)
      decided decides is =
          let parts = logical_parts program.source.declarations op left given between is gives in
          subst (λ (type : PlainType). ResultHas program world (logical_outcome program.names give decides right
          (truth_of program.names value) made).result (replaced types type)) (sym parts.type_is)
          (logical_outcome_has program world accepted give decides right value made
          (value_up program world value (replaced types left) bool_type (fits_bool left parts.left_fits) has)
          (result_up program world (give right made).result (replaced types given) bool_type
          (fits_bool given parts.right_fits) (given_has right made given right_has)))

      by_operator : (one : Operator) → op ≡ one → is_logical op ≡ true
          → ResultHas program world (operand_outcome program.names give one right value made).result
          (replaced types between)
      by_operator operator.And same is = decided false is
      by_operator operator.Or same is = decided true is
      by_operator operator.Plus same is = absurd (true≢false (sym is ∙ ap is_logical same))
      by_operator operator.Minus same is = absurd (true≢false (sym is ∙ ap is_logical same))
      by_operator operator.Times same is = absurd (true≢false (sym is ∙ ap is_logical same))
      by_operator operator.Divide same is = absurd (true≢false (sym is ∙ ap is_logical same))
      by_operator operator.Remainder same is = absurd (true≢false (sym is ∙ ap is_logical same))
      by_operator operator.Less same is = absurd (true≢false (sym is ∙ ap is_logical same))
      by_operator operator.LessEqual same is = absurd (true≢false (sym is ∙ ap is_logical same))
      by_operator operator.Greater same is = absurd (true≢false (sym is ∙ ap is_logical same))
      by_operator operator.GreaterEqual same is = absurd (true≢false (sym is ∙ ap is_logical same))
      by_operator operator.Equal same is = absurd (true≢false (sym is ∙ ap is_logical same))
      by_operator operator.NotEqual same is = absurd (true≢false (sym is ∙ ap is_logical same))

      by_rule : (rule : Bool) → is_logical op ≡ rule
          → ResultHas program world (operand_outcome program.names give op right value made).result
          (replaced types between)
      by_rule true is = by_operator op refl is
      by_rule false is =
          subst (λ (outcome : Outcome). ResultHas program world outcome.result (replaced types between))
          (sym (plain_operand program.names give op right value made is))
          (outcome_after_has program world (give right made) _ (replaced types given) (replaced types between)
          (given_has right made given right_has)
          (λ second now second_has. operation_has program world accepted types op left given between value second gives
          has second_has is))

  -- an operator list, from the left
  pub operators_outcome_has : (left : Outcome) (operands : Operands) (first type : PlainType)
      → ResultHas program world left.result (replaced types first)
      → HaveOperands program.source.declarations frame bound first operands type
      → ResultHas program world (operators_outcome program.names give left operands).result (replaced types type)
  operators_outcome_has left NoOperands first type has (no_operand b l) = has
  operators_outcome_has left (NextOperand op right others) first type has
      (next_operand b l o r rest given between t right_has gives more) =
      operators_outcome_has (outcome_after left (operand_outcome program.names give op right)) others between type
      (outcome_after_has program world left _ (replaced types first) (replaced types between) has
      (λ value made value_has. operand_has op first given between right value made value_has right_has gives)) more
