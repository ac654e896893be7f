-- Evaluation keeps types: what an expression gives has its type, and its fault is not Mistyped. It goes by recursion on
-- the levels that are left.
--
--   `IsTypedWith`              this is so with some levels left
--   `evaluation_has`           it is so with any
--   `evaluations_have`         the same of a list of expressions
use Rattle.std.proofs.Common.{◌≡◌, ℕ, zero, suc, ◌+◌, true, false, List, [], ◌∷◌, ◌++◌, Option, Some, None, refl, sym, ap, ◌∙◌, subst, length, map, nat_eq, nat_lt, codes, bytes_eq, arith}
use Rattle.std.proofs.lemmas.Bool.Decides.{nat_tests}
use Rattle.std.specs.Prelude.{All}
use Rattle.std.proofs.lemmas.Bool.{cond_both}
use Rattle.std.proofs.lemmas.List.{length-map}
use Rattle.std.proofs.lemmas.Option.{none-some}
use Rattle.abs_profile.specs.Accepted.{IsAcceptedProgram}
use Rattle.abs_tree.specs.Limits.{application_limit}
use Rattle.abs_tree.specs.Names.{number_of_name}
use Rattle.abs_tree.specs.Syntax.{Name, ExprTree, ExprTrees, ProgramTree}
use Rattle.abs_types.proofs.JoinLemmas.{join_of_least, join_all_least}
use Rattle.abs_types.proofs.ReplacementLemmas.{fits-replaced}
use Rattle.abs_types.proofs.SubtypingLemmas.{fits_reflexive, fits_whole}
use Rattle.abs_types.specs.Applications.{replaced}
use Rattle.abs_types.specs.HasType.{HasType, HaveTypes, number, string, null, destiny, this, slot, bound_variable, field, let_in, if_else, operators, prefixed, apply, build, case_of}
use Rattle.abs_types.specs.OperatorTypes.{bool_type}
use Rattle.abs_types.specs.PlainTypes.{PlainType, PlainInt, PlainString, PlainNull, PlainClass, plain}
use Rattle.abs_types.specs.Schemes.{Scheme, scheme_of_function}
use Rattle.abs_types.specs.Subtyping.{fits}
use Rattle.abs_types.specs.TypeOffences.{value_frame}
use Rattle.abs_types.specs.Typing.{Frame, join_branches}
use Rattle.abs_values.specs.Evaluation.{Outcome, ends_with, evaluate, outcomes_of, string_of_result, body_outcome, function_outcome, application_outcome}
use Rattle.abs_values.specs.Operations.{truth_of}
use Rattle.abs_values.specs.Printed.{printed_form}
use Rattle.abs_values.specs.Results.{Fails}
use Rattle.abs_values.specs.Scopes.{function_named, library_of, Scope, own_scope, with_bound, InSlot, InField, InBound, InThis}
use Rattle.abs_values.specs.ValueTrees.{ValueTree, ObjectValue, parts_of_list}
use Rattle.abs_values.specs.declared.evaluated.Fault.TheVariants as fault
use Rattle.type_sound.proofs.ApplicationLemmas.{IsMet, IsTypedBody, built_has, function_is_met, function_is_typed, to_string_is}
use Rattle.type_sound.proofs.BoundLemmas.{all_count, bound_scope_has, own_scope_has}
use Rattle.type_sound.proofs.ListLemmas.{branches_outcome_has, outcomes_of_have}
use Rattle.type_sound.proofs.OperandLemmas.{operators_outcome_has}
use Rattle.type_sound.proofs.OperationLemmas.{prefix_has}
use Rattle.type_sound.proofs.OutcomeLemmas.{built_result_has, chosen_outcome_has, outcome_after_has, outcome_after_all_has, read_result_has, result_up, string_result_has}
use Rattle.type_sound.proofs.PreludeLemmas.{truth_found}
use Rattle.type_sound.proofs.ValueLemmas.{all_up, parts_of_values, value_up}
use Rattle.type_sound.specs.Scopes.{ScopeHas}
use Rattle.type_sound.specs.Values.{World, ValueHas, AllHave, ResultHas, ResultsHave}

-- with so many levels left each expression gives what its type says
abbrev pub IsTypedWith : ProgramTree → World → ℕ → Type 0
IsTypedWith program world left = (types : List PlainType) (frame : Frame) (bound : List PlainType) (scope : Scope)
    (expr_tree : ExprTree) (made : ℕ) (type : PlainType) → frame.task ≡ None
    → ScopeHas program world types frame bound scope
    → HasType program.source.declarations frame bound expr_tree type
    → ResultHas program world (evaluate (library_of program) scope left expr_tree made).result (replaced types type)

-- `String` has no type parameter
string_stays : (types : List PlainType) → replaced types PlainString ≡ PlainString
unfolding replaced
string_stays types = refl

module _ (program : ProgramTree) (world : World) (accepted : IsAcceptedProgram program) where
  -- `toString` of one value gives a string
  to_string_has : (values : List ValueTree) (given : List PlainType) → length given ≡ 1
      → AllHave program world values given → ResultHas program world (string_of_result program.names values) PlainString
  to_string_has (value ∷ []) given one have = string_result_has program world (printed_form program.names value)
  to_string_has [] given one have = absurd (omega (arith, one, all_count program world [] given have))
  to_string_has (value ∷ other ∷ others) given one have =
      absurd (omega (arith, one, all_count program world (value ∷ other ∷ others) given have))

  -- the body of a function, of arguments that have the types that it takes, replaced
  body_has : (left : ℕ) → IsTypedWith program world left → (name : Name) (scheme : Scheme) (met : List PlainType)
      (values : List ValueTree) (made : ℕ) → IsTypedBody program name scheme
      → AllHave program world values (map (replaced met) scheme.takes)
      → ResultHas program world (body_outcome (λ inner. evaluate (library_of program) (own_scope inner) left) values
      (function_named (library_of program).functions name) made).result (replaced met scheme.gives)
  body_has left typed name scheme met values made body have =
      let long : length values ≡ body.function.arity =
      all_count program world values (map (replaced met) scheme.takes) have
      ∙ (length-map scheme.takes (replaced met) ∙ sym body.arity) in
      let same : nat_eq (length values) body.function.arity ≡ true = grind (arith, nat_tests) in
      let own = own_scope_has program world met scheme.takes values have in
      let result = typed met (value_frame scheme.takes) [] (own_scope values) body.function.value made
      body.body_fits.given refl own body.body_fits.has_type in
      rw body.named (rw same (result_up program world
      (evaluate (library_of program) (own_scope values) left body.function.value made).result
      (replaced met body.body_fits.given) (replaced met scheme.gives)
      (fits-replaced program.source.declarations met body.body_fits.given scheme.gives
      (fits_whole body.body_fits.fits_it)) result))

  -- an application of a function to values
  application_has : (left : ℕ) → IsTypedWith program world left → (types : List PlainType) (name : Name)
      (scheme : Scheme) (given : List PlainType) (type : PlainType) (values : List ValueTree) (made : ℕ)
      → scheme_of_function program.source.declarations name ≡ Some scheme → IsMet program scheme types given type
      → AllHave program world values (map (replaced types) given)
      → ResultHas program world (application_outcome (library_of program)
      (λ inner. evaluate (library_of program) (own_scope inner) left) name values made).result (replaced types type)
  application_has left typed types name scheme given type values made found met have =
      cond_both (nat_lt made application_limit)
      (function_outcome (library_of program) (λ inner. evaluate (library_of program) (own_scope inner) left) name values
      (made + 1)) (ends_with (Fails fault.Calls) made)
      (λ (outcome : Outcome). ResultHas program world outcome.result (replaced types type))
      (λ _. cond_both (bytes_eq name (codes "toString")) (ends_with (string_of_result program.names values) (made + 1))
      (body_outcome (λ inner. evaluate (library_of program) (own_scope inner) left) values
      (function_named (library_of program).functions name) (made + 1))
      (λ (outcome : Outcome). ResultHas program world outcome.result (replaced types type)) by_string by_body)
      (λ _. (λ same. absurd cc))
    where
      taken : AllHave program world values (map (replaced met.met) scheme.takes)
      taken =
          all_up program world values (map (replaced types) given) (map (replaced met.met) scheme.takes)
          met.arguments_fit have

      by_string : bytes_eq name (codes "toString") ≡ true
          → ResultHas program world (string_of_result program.names values) (replaced types type)
      by_string same =
          let is = to_string_is program name scheme found same in
          let string_is : PlainString ≡ replaced types type =
          sym (met.type_is ∙ (ap (replaced met.met) is.1 ∙ string_stays met.met)) in
          subst (ResultHas program world (string_of_result program.names values)) string_is
          (to_string_has values (map (replaced met.met) scheme.takes)
          (length-map scheme.takes (replaced met.met) ∙ is.0) taken)

      by_body : bytes_eq name (codes "toString") ≡ false
          → ResultHas program world (body_outcome (λ inner. evaluate (library_of program) (own_scope inner) left)
          values (function_named (library_of program).functions name) (made + 1)).result (replaced types type)
      by_body apart =
          subst (ResultHas program world (body_outcome
          (λ inner. evaluate (library_of program) (own_scope inner) left) values
          (function_named (library_of program).functions name) (made + 1)).result) (sym met.type_is)
          (body_has left typed name scheme met.met values (made + 1) (function_is_typed program accepted name scheme found apart)
          taken)

  -- what is applied fits what is asked for, where it is the join of types
  joined_has : (types : List PlainType) (one type : PlainType) (found : Rattle.abs_values.specs.Results.Result)
      → fits program.source.declarations one type ≡ true → ResultHas program world found (replaced types one)
      → ResultHas program world found (replaced types type)
  joined_has types one type found reported has =
      result_up program world found (replaced types one) (replaced types type)
      (fits-replaced program.source.declarations types one type reported) has

  -- one level more
  next_typed : (left : ℕ) → IsTypedWith program world left → IsTypedWith program world (suc left)
  unfolding evaluate ValueHas replaced
  next_typed left typed types frame bound scope _ made _ none have (number b place value) =
      fits_reflexive program.source.declarations PlainInt
  next_typed left typed types frame bound scope _ made _ none have (string b place value) =
      string_result_has program world value
  next_typed left typed types frame bound scope _ made _ none have (null b place) =
      fits_reflexive program.source.declarations PlainNull
  next_typed left typed types frame bound scope _ made _ none have (destiny b place result is) =
      absurd (none-some result (sym none ∙ is))
  next_typed left typed types frame bound scope _ made _ none have (this b place class is) =
      let own = have.this_has class is in
      read_result_has program world scope InThis (ObjectValue own.0) (PlainClass class)
      (ap (λ (it : Option ℕ). Rattle.std.specs.Option.option_map ObjectValue it) own.1) own.2
  next_typed left typed types frame bound scope _ made _ none have (slot b place index type there) =
      let held = have.slots index type (ap (λ (it : Option (Option PlainType)). Rattle.std.specs.Prelude.option_and_then
      (λ found. found) it) there) in
      read_result_has program world scope (InSlot index) held.value (replaced types type) held.there held.has
  next_typed left typed types frame bound scope _ made _ none have (bound_variable b place depth type there) =
      let held = have.bound_have depth type there in
      read_result_has program world scope (InBound depth) held.value (replaced types type) held.there held.has
  next_typed left typed types frame bound scope _ made _ none have (field b place index type there) =
      let held = have.fields index type there in
      read_result_has program world scope (InField index) held.value (replaced types type) held.there held.has
  next_typed left typed types frame bound scope _ made _ none have
      (let_in b place variable_place declared variable value body given type value_is fit body_is) =
      outcome_after_has program world (evaluate (library_of program) scope left value made) _ (replaced types given)
      (replaced types type) (typed types frame bound scope value made given none have value_is)
      (λ found now found_has. typed types frame (bound ++ plain declared ∷ []) (with_bound scope (found ∷ [])) body now
      type none (bound_scope_has program world types frame bound (plain declared ∷ []) scope (found ∷ []) have (
        value_up program world found (replaced types given) (replaced types (plain declared))
            (fits-replaced program.source.declarations types given (plain declared) (fits_whole fit)) found_has,
        tt,
      )) body_is)
  next_typed left typed types frame bound scope _ made _ none have
      (if_else b place condition first second given one other type condition_is fit first_is second_is joined) =
      let least = join_of_least program.source.declarations one other type joined in
      outcome_after_has program world (evaluate (library_of program) scope left condition made) _ (replaced types given)
      (replaced types type) (typed types frame bound scope condition made given none have condition_is)
      (λ found now found_has.
      let answer = truth_found program world accepted found (value_up program world found (replaced types given) bool_type
      (fits-replaced program.source.declarations types given bool_type (fits_whole fit)) found_has) in
      chosen_outcome_has program world (evaluate (library_of program) scope left) first second
      (truth_of program.names found) answer.0 now (replaced types type) answer.1
      (joined_has types one type _ least.first (typed types frame bound scope first now one none have first_is))
      (joined_has types other type _ least.second (typed types frame bound scope second now other none have second_is)))
  next_typed left typed types frame bound scope _ made _ none have (operators b place first operands start type first_is more) =
      operators_outcome_has program world accepted types frame bound (evaluate (library_of program) scope left)
      (λ expr_tree now own is. typed types frame bound scope expr_tree now own none have is)
      (evaluate (library_of program) scope left first made) operands start type
      (typed types frame bound scope first made start none have first_is) more
  next_typed left typed types frame bound scope _ made _ none have (prefixed b place prefix operand given type is gives) =
      outcome_after_has program world (evaluate (library_of program) scope left operand made) _ (replaced types given)
      (replaced types type) (typed types frame bound scope operand made given none have is)
      (λ found now found_has. prefix_has program world accepted types prefix given type found gives found_has)
  next_typed left typed types frame bound scope _ made _ none have (apply b place function arguments scheme given type found are applied) =
      outcome_after_all_has program world (outcomes_of (evaluate (library_of program) scope left) arguments made) _
      (map (replaced types) given) (replaced types type)
      (outcomes_of_have program world types frame bound (evaluate (library_of program) scope left)
      (λ expr_tree now own is. typed types frame bound scope expr_tree now own none have is) arguments given made are)
      (λ values now values_have. application_has left typed types function scheme given type values now found
      (function_is_met program accepted types function scheme given type found applied) values_have)
  next_typed left typed types frame bound scope _ made _ none have (build b place constructor arguments scheme given type found are applied) =
      outcome_after_all_has program world (outcomes_of (evaluate (library_of program) scope left) arguments made) _
      (map (replaced types) given) (replaced types type)
      (outcomes_of_have program world types frame bound (evaluate (library_of program) scope left)
      (λ expr_tree now own is. typed types frame bound scope expr_tree now own none have is) arguments given made are)
      (λ values now values_have. built_result_has program world (number_of_name program.names constructor)
      (parts_of_list values) (replaced types type)
      (built_has program world accepted types constructor scheme given type (parts_of_list values) found applied
      (parts_of_values program world values (map (replaced types) given) values_have)))
  next_typed left typed types frame bound scope _ made _ none have
      (case_of b place subject branches given owns type subject_is branches_are joined) =
      outcome_after_has program world (evaluate (library_of program) scope left subject made) _ (replaced types given)
      (replaced types type) (typed types frame bound scope subject made given none have subject_is)
      (λ found now found_has. branches_outcome_has program world types frame accepted bound given type
      (λ values. evaluate (library_of program) (with_bound scope values) left)
      (λ variables values expr_tree after own values_have is. typed types frame (bound ++ variables)
      (with_bound scope values) expr_tree after own none
      (bound_scope_has program world types frame bound variables scope values have values_have) is)
      branches owns found now branches_are (all_below owns type joined) found_has)
    where
      all_below : (owns : List PlainType) (type : PlainType)
          → join_branches program.source.declarations owns ≡ Some type
          → All (λ (own : PlainType). fits program.source.declarations own type ≡ true) owns
      all_below [] type joined = absurd (none-some type joined)
      all_below (own ∷ owns) type joined =
          (join_all_least program.source.declarations own type owns joined).above_all

  -- with any levels left
  pub evaluation_has : (left : ℕ) → IsTypedWith program world left
  unfolding evaluate
  evaluation_has zero types frame bound scope expr_tree made type none have is = (λ same. absurd cc)
  evaluation_has (suc left) types frame bound scope expr_tree made type none have is =
      next_typed left (evaluation_has left) types frame bound scope expr_tree made type none have is

  -- so of a list of expressions
  pub evaluations_have : (types : List PlainType) (frame : Frame) (bound : List PlainType) (scope : Scope) (left : ℕ)
      (expr_trees : ExprTrees) (made : ℕ) (given : List PlainType) → frame.task ≡ None
      → ScopeHas program world types frame bound scope
      → HaveTypes program.source.declarations frame bound expr_trees given
      → ResultsHave program world (outcomes_of (evaluate (library_of program) scope left) expr_trees made).results
      (map (replaced types) given)
  evaluations_have types frame bound scope left expr_trees made given none have are =
      outcomes_of_have program world types frame bound (evaluate (library_of program) scope left)
      (λ expr_tree now own is. evaluation_has left types frame bound scope expr_tree now own none have is) expr_trees given
      made are
