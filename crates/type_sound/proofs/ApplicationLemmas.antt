-- Applications of constructors and functions, where the types around them replace the type parameters.
--
--   `built_has`                            the application of a constructor has the type of the application
--   `IsTypedBody`, `function_is_typed`     the body of a declared function fits what its scheme gives
--   `to_string_is`                         `toString` takes one argument and gives a string
--   `IsMet`, `function_is_met`             the arguments of a function fit what it takes, for what its type
--                                          parameters met
use Rattle.std.proofs.Common.{◌≡◌, ℕ, ◌+◌, zero, suc, Bool, true, false, List, [], ◌∷◌, Option, Some, None, refl, sym, ap, ◌∙◌, subst, length, map, arith, true≢false, All}
use Rattle.std.specs.Prelude.{codes, option_and_then, option_map, slice_get, if◌then◌else◌}
use Rattle.std.specs.Str.{bytes_eq}
use Rattle.std.proofs.lemmas.List.{length-map}
use Rattle.std.proofs.lemmas.Option.{none-some, same_Some}
use Rattle.std.proofs.lemmas.Slice.Eq.{bytes_eq-Decides}
use Rattle.abs_profile.specs.Accepted.{IsAcceptedProgram}
use Rattle.abs_program.specs.NameSpaces.{built_in, spaces_of}
use Rattle.abs_program.specs.Tables.{meaning_of}
use Rattle.abs_program.specs.declared.name_spaces.FunctionMeaning.{FunctionMeaning}
use Rattle.abs_program.specs.declared.name_spaces.FunctionMeaning.TheVariants as function
use Rattle.abs_tree.specs.Names.{number_of_name}
use Rattle.abs_tree.specs.Syntax.{Name, ParamTree, DeclTree, FunctionTree, ProgramTree}
use Rattle.abs_types.proofs.ApplicationLemmas.{application_fits, application_length}
use Rattle.abs_types.proofs.ProgramLemmas.{program_found}
use Rattle.abs_types.proofs.ReplacementLemmas.{all_replaced_twice, fits-replaced, replaced_twice}
use Rattle.abs_types.proofs.SchemeLemmas.{constructor_is_closed, function_is_closed}
use Rattle.abs_types.proofs.SubtypingLemmas.{fits_reflexive}
use Rattle.abs_types.specs.Applications.{AllFit, applied_type, met_by, replaced}
use Rattle.abs_types.specs.PlainTypes.{PlainType, PlainString, plain}
use Rattle.abs_types.specs.Schemes.{Scheme, IsClosed, ParametersBelow, declared_scheme, function_scheme, param_types, scheme_of_constructor, scheme_of_function, to_string_scheme}
use Rattle.abs_types.specs.Subtyping.{fits}
use Rattle.abs_types.specs.TypeOffences.{value_frame}
use Rattle.abs_types.specs.TypedProgram.{AreTypedFunctions, FitsType, IsTypedFunction}
use Rattle.abs_values.specs.Scopes.{FunctionBody, function_named, functions_of}
use Rattle.abs_values.specs.ValueTrees.{BuiltValue, ValueTrees}
use Rattle.type_sound.proofs.FunctionLemmas.{FirstFunction, first_function, functions_stay}
use Rattle.type_sound.proofs.ValueLemmas.{parts_up}
use Rattle.type_sound.specs.Values.{World, ValueHas, PartsHave}

-- types that fit others still fit them when all have their type parameters replaced
all_fit_replaced : (declarations : List DeclTree) (types ones others : List PlainType)
    → AllFit declarations ones others → AllFit declarations (map (replaced types) ones) (map (replaced types) others)
all_fit_replaced declarations types [] [] fit = tt
all_fit_replaced declarations types [] (other ∷ others) fit = absurd fit
all_fit_replaced declarations types (one ∷ ones) [] fit = absurd fit
all_fit_replaced declarations types (one ∷ ones) (other ∷ others) fit =
    (fits-replaced declarations types one other fit.0, all_fit_replaced declarations types ones others fit.1)

-- The types that the type parameters of a scheme met, replaced: there is one for each. The arguments fit what is taken,
-- and the type of the application is what is given, with the type parameters replaced by them.
record MeetsReplaced (declarations : List DeclTree) (scheme : Scheme) (types given : List PlainType)
    (type : PlainType) : Type 0 where
  met : List PlainType
  count : length met ≡ scheme.parameters
  arguments_fit : AllFit declarations (map (replaced types) given) (map (replaced met) scheme.takes)
  type_is : replaced types type ≡ replaced met scheme.gives

-- there are such types for an application of a scheme that has its own type parameters alone
meets_by : (declarations : List DeclTree) (scheme : Scheme) (types given : List PlainType) (type : PlainType)
    (found : Option (List PlainType)) → IsClosed scheme → met_by declarations scheme given ≡ found
    → option_map (λ met. replaced met scheme.gives) found ≡ Some type
    → MeetsReplaced declarations scheme types given type
meets_by declarations scheme types given type None closed met_is is = absurd (none-some type is)
meets_by declarations scheme types given type (Some met) closed met_is is =
    let many = application_length declarations scheme given met met_is in
    record {
      met = map (replaced types) met;
      count = length-map met (replaced types) ∙ many;
      arguments_fit = subst (AllFit declarations (map (replaced types) given))
          (all_replaced_twice met types scheme.takes
          (subst (λ (count : ℕ). All (ParametersBelow count) scheme.takes) (sym many) closed.takes_own))
          (all_fit_replaced declarations types given (map (replaced met) scheme.takes)
          (application_fits declarations scheme given met closed met_is));
      type_is = ap (replaced types) (sym (same_Some (replaced met scheme.gives) type is))
          ∙ replaced_twice met types scheme.gives
          (subst (λ (count : ℕ). ParametersBelow count scheme.gives) (sym many) closed.gives_own);
    }

-- the same by the type of the application
meets_replaced : (declarations : List DeclTree) (scheme : Scheme) (types given : List PlainType) (type : PlainType)
    → IsClosed scheme → applied_type declarations scheme given ≡ Some type
    → MeetsReplaced declarations scheme types given type
unfolding applied_type
meets_replaced declarations scheme types given type closed applied =
    meets_by declarations scheme types given type (met_by declarations scheme given) closed refl applied

-- What the application of a constructor gives: for what its type parameters met, replaced, the parts have the types
-- that it takes.
pub built_has : (program : ProgramTree) (world : World) → IsAcceptedProgram program → (types : List PlainType)
    (name : Name) (scheme : Scheme) (given : List PlainType) (built : PlainType) (parts : ValueTrees)
    → scheme_of_constructor program.source.declarations name ≡ Some scheme
    → applied_type program.source.declarations scheme given ≡ Some built
    → PartsHave program world parts (map (replaced types) given)
    → ValueHas program world (BuiltValue (number_of_name program.names name) parts) (replaced types built)
unfolding ValueHas
built_has program world accepted types name scheme given built parts named applied have =
    let declarations = program.source.declarations in
    let meets = meets_replaced declarations scheme types given built
    (constructor_is_closed program.source name scheme accepted.whole named) applied in (
      name,
      scheme,
      meets.met,
      refl,
      named,
      meets.count,
      ap (λ (type : PlainType). fits declarations type (replaced types built)) (sym meets.type_is)
          ∙ fits_reflexive declarations (replaced types built),
      parts_up program world parts (map (replaced types) given) (map (replaced meets.met) scheme.takes)
          meets.arguments_fit have,
    )

-- The function with a name that is not `toString`: its body is found, takes as many arguments as its scheme, and fits
-- what the scheme gives.
pub record IsTypedBody (program : ProgramTree) (name : Name) (scheme : Scheme) : Type 0 where
  pub function : FunctionBody
  pub named : function_named (functions_of program.source.declarations) name ≡ Some function
  pub arity : function.arity ≡ length scheme.takes
  pub body_fits : FitsType program.source.declarations (value_frame scheme.takes) function.value scheme.gives

-- each of some functions that are well typed is so
function_typed_at : (declarations some : List DeclTree) (index : ℕ) (declaration : DeclTree)
    → AreTypedFunctions declarations some → slice_get some index ≡ Some declaration
    → IsTypedFunction declarations declaration
function_typed_at declarations [] index declaration typed there = absurd (none-some declaration there)
function_typed_at declarations (first ∷ others) zero declaration typed there =
    subst (IsTypedFunction declarations) (same_Some first declaration there) typed.0
function_typed_at declarations (first ∷ others) (suc index) declaration typed there =
    function_typed_at declarations others index declaration typed.1 there

-- the scheme of a name is that of the first function with this name
first_scheme : (declarations : List DeclTree) (name : Name) (scheme : Scheme) (meaning : FunctionMeaning)
    (first : FirstFunction 0 declarations name meaning) → function_scheme declarations (Some meaning) ≡ Some scheme
    → declared_scheme
    (FunctionTree first.place first.result first.declared first.type_params first.params first.value) ≡ Some scheme
first_scheme declarations name scheme meaning first is =
    let from_start : first.offset ≡ 0 + first.offset = omega arith in
    sym (ap (λ (one : FunctionMeaning). function_scheme declarations (Some one)) first.means
    ∙ ap (option_and_then declared_scheme) (ap (slice_get declarations) (sym from_start) ∙ first.there)) ∙ is

-- the body of that function is well typed
first_is_typed : (program : ProgramTree) → IsAcceptedProgram program → (name : Name) (scheme : Scheme)
    (meaning : FunctionMeaning) → FirstFunction 0 program.source.declarations name meaning
    → function_scheme program.source.declarations (Some meaning) ≡ Some scheme → IsTypedBody program name scheme
first_is_typed program accepted name scheme meaning first is =
    let declarations = program.source.declarations in
    let own : Scheme = record {
      parameters = length first.type_params;
      takes = param_types first.params;
      gives = plain first.result;
    } in
    let scheme_is = same_Some own scheme (first_scheme declarations name scheme meaning first is) in
    record {
      function = record { name = first.declared.name; arity = length first.params; value = first.value };
      named = first.named;
      arity = sym (length-map first.params (λ (param : ParamTree). plain param.type_of))
          ∙ ap (λ (one : Scheme). length one.takes) scheme_is;
      body_fits = subst (λ (one : Scheme). FitsType declarations (value_frame one.takes) first.value one.gives)
          scheme_is
          (function_typed_at declarations declarations first.offset
          (FunctionTree first.place first.result first.declared first.type_params first.params first.value)
          (program_found program.source accepted.well_typed).functions first.there);
    }

-- so is that of the function with a name, which is not `toString`
pub function_is_typed : (program : ProgramTree) → IsAcceptedProgram program → (name : Name) (scheme : Scheme)
    → scheme_of_function program.source.declarations name ≡ Some scheme → bytes_eq name (codes "toString") ≡ false
    → IsTypedBody program name scheme
unfolding scheme_of_function
function_is_typed program accepted name scheme found apart =
    by_meaning (meaning_of (spaces_of program.source.declarations).functions name) refl found
  where
    not_built_in : (test : Bool) → bytes_eq (codes "toString") name ≡ test
        → (if test then Some function.ToString else None) ≡ None
    not_built_in true same =
        absurd (true≢false (sym ((bytes_eq-Decides name (codes "toString")).1
        (sym ((bytes_eq-Decides (codes "toString") name).0 same))) ∙ apart))
    not_built_in false other = refl

    by_meaning : (meaning : Option FunctionMeaning)
        → meaning_of (spaces_of program.source.declarations).functions name ≡ meaning
        → function_scheme program.source.declarations meaning ≡ Some scheme → IsTypedBody program name scheme
    by_meaning None means is = absurd (none-some scheme is)
    by_meaning (Some meaning) means is =
        first_is_typed program accepted name scheme meaning
        (first_function 0 built_in program.source.declarations name meaning
        (not_built_in (bytes_eq (codes "toString") name) refl) means) is

-- `toString` takes one argument and gives a string
pub to_string_is : (program : ProgramTree) (name : Name) (scheme : Scheme)
    → scheme_of_function program.source.declarations name ≡ Some scheme → bytes_eq name (codes "toString") ≡ true
    → (length scheme.takes ≡ 1) × (scheme.gives ≡ PlainString)
unfolding scheme_of_function
to_string_is program name scheme found same =
    let declarations = program.source.declarations in
    let means : meaning_of (spaces_of declarations).functions name ≡ Some function.ToString =
    ap (meaning_of (spaces_of declarations).functions) ((bytes_eq-Decides name (codes "toString")).0 same)
    ∙ functions_stay 0 built_in declarations (codes "toString") function.ToString refl in
    let is : scheme ≡ to_string_scheme =
    same_Some scheme to_string_scheme (sym found ∙ ap (function_scheme declarations) means) in
    (ap (λ (one : Scheme). length one.takes) is, ap (λ (one : Scheme). one.gives) is)

-- What an application gives: the arguments fit what is taken, replaced by `met`, and the type is what is given,
-- replaced by it.
pub record IsMet (program : ProgramTree) (scheme : Scheme) (types given : List PlainType) (type : PlainType) : Type 0
  where
    pub met : List PlainType
    pub arguments_fit : AllFit program.source.declarations (map (replaced types) given)
        (map (replaced met) scheme.takes)
    pub type_is : replaced types type ≡ replaced met scheme.gives

-- so it is for a function, whatever replaces the type parameters around the application
pub function_is_met : (program : ProgramTree) → IsAcceptedProgram program → (types : List PlainType) (name : Name)
    (scheme : Scheme) (given : List PlainType) (type : PlainType)
    → scheme_of_function program.source.declarations name ≡ Some scheme
    → applied_type program.source.declarations scheme given ≡ Some type → IsMet program scheme types given type
function_is_met program accepted types name scheme given type found applied =
    let meets = meets_replaced program.source.declarations scheme types given type
    (function_is_closed program.source name scheme accepted.whole found) applied in
    record { met = meets.met; arguments_fit = meets.arguments_fit; type_is = meets.type_is }
