-- Types are the same by the test exactly where they are equal, and methods take and give the same types exactly where
-- their types are the same.
--
--   `same_found`, `same_itself`    types that are the same by the test are equal, and a type is the same as itself
--   `same_tells`                   what tells whether types are equal is the test
--   `method_test`                  whether methods take and give the same types follows from their types
--   `one_type`                     methods of the same types have one type
use Rattle.std.proofs.Common.{◌≡◌, ◌↔◌, Bool, true, List, [], ◌∷◌, ◌++◌, refl, sym, ap, ap₂, ◌∙◌, true≢false, eq-eqb, eqb-true}
use Rattle.std.proofs.lemmas.Bool.{and_from, and_parts}
use Rattle.std.proofs.lemmas.List.{append-nil}
use Rattle.std.proofs.lemmas.Slice.Eq.{bytes_eq-Decides}
use Rattle.abs_tree.specs.Syntax.{SignatureTree}
use Rattle.abs_types.specs.InterfacesMet.{same_method, same_type, same_types}
use Rattle.abs_types.specs.Methods.{method_type}
use Rattle.abs_types.specs.PlainTypes.{PlainType, PlainInt, PlainString, PlainBottom, PlainNull, PlainFut, PlainData, PlainApplied, PlainInterface, PlainClass, PlainParameter, applied_to, plain}
use Rattle.abs_types.specs.Schemes.{param_types}
use Rattle.check_obj.specs.MethodRows.{signature_type}
use Rattle.std.specs.Cmp.{both_ways}

-- types that are the same by the test are equal
pub same_found : (one other : PlainType) → same_type one other ≡ true → one ≡ other
same_found PlainInt PlainInt reported = refl
same_found PlainString PlainString reported = refl
same_found PlainBottom PlainBottom reported = refl
same_found PlainNull PlainNull reported = refl
same_found (PlainFut one) (PlainFut other) reported = ap PlainFut (same_found one other reported)
same_found (PlainData one) (PlainData other) reported = ap PlainData ((bytes_eq-Decides one other).0 reported)
same_found (PlainApplied head argument) (PlainApplied other_head other_argument) reported =
    let both = and_parts (same_type head other_head) (same_type argument other_argument) reported in
    ap₂ PlainApplied (same_found head other_head both.0) (same_found argument other_argument both.1)
same_found (PlainInterface one) (PlainInterface other) reported =
    ap PlainInterface ((bytes_eq-Decides one other).0 reported)
same_found (PlainClass one) (PlainClass other) reported = ap PlainClass ((bytes_eq-Decides one other).0 reported)
same_found (PlainParameter one) (PlainParameter other) reported = ap PlainParameter (eqb-true one other reported)
same_found _ _ reported = absurd (true≢false (sym reported))

-- a type is the same as itself
pub same_itself : (one : PlainType) → same_type one one ≡ true
same_itself PlainInt = refl
same_itself PlainString = refl
same_itself PlainBottom = refl
same_itself PlainNull = refl
same_itself (PlainFut value) = same_itself value
same_itself (PlainData name) = (bytes_eq-Decides name name).1 refl
same_itself (PlainApplied head argument) =
    and_from (same_type head head) (same_type argument argument) (same_itself head) (same_itself argument)
same_itself (PlainInterface name) = (bytes_eq-Decides name name).1 refl
same_itself (PlainClass name) = (bytes_eq-Decides name name).1 refl
same_itself (PlainParameter index) = eq-eqb index index refl

-- so are types in order
all_same_found : (ones others : List PlainType) → same_types ones others ≡ true → ones ≡ others
all_same_found [] [] reported = refl
all_same_found (one ∷ ones) (other ∷ others) reported =
    let both = and_parts (same_type one other) (same_types ones others) reported in
    ap₂ (λ (type : PlainType) (types : List PlainType). type ∷ types) (same_found one other both.0)
    (all_same_found ones others both.1)
all_same_found _ _ reported = absurd (true≢false (sym reported))

-- types in order are the same as themselves
all_same_itself : (ones : List PlainType) → same_types ones ones ≡ true
all_same_itself [] = refl
all_same_itself (one ∷ ones) =
    and_from (same_type one one) (same_types ones ones) (same_itself one) (all_same_itself ones)

-- what tells whether types are equal is the test
pub same_tells : (reported : Bool) (one other : PlainType) → ((reported ≡ true) ↔ (one ≡ other)) → reported ≡ same_type one other
same_tells reported one other tells =
    both_ways reported (same_type one other)
    (λ yes. ap (same_type one) (sym (tells.0 yes)) ∙ same_itself one)
    (λ yes. tells.1 (same_found one other yes))

-- a type without the arguments to which it is applied, and these before others
abbrev spine : PlainType → List PlainType → PlainType × List PlainType
spine (PlainApplied head argument) others = spine head (argument ∷ others)
spine type others = (type, others)

-- a type that is applied to arguments has them
spine_applied : (head : PlainType) (arguments others : List PlainType)
    → spine (applied_to head arguments) others ≡ spine head (arguments ++ others)
spine_applied head [] others = refl
spine_applied head (argument ∷ arguments) others = spine_applied (PlainApplied head argument) arguments others

-- the value of a future
abbrev value_of : PlainType → PlainType
value_of (PlainFut value) = value
value_of type = type

-- futures that are applied to arguments are equal only if their values and the arguments are
parts_equal : (one other : PlainType) (ones others : List PlainType)
    → applied_to (PlainFut one) ones ≡ applied_to (PlainFut other) others → (ones ≡ others) × (one ≡ other)
parts_equal one other ones others equal =
    let spines : spine (PlainFut one) (ones ++ []) ≡ spine (PlainFut other) (others ++ []) =
    sym (spine_applied (PlainFut one) ones [])
    ∙ (ap (λ (type : PlainType). spine type []) equal ∙ spine_applied (PlainFut other) others []) in (
      sym (append-nil ones) ∙ (ap (λ (parts : PlainType × List PlainType). parts.1) spines ∙ append-nil others),
      ap (λ (parts : PlainType × List PlainType). value_of parts.0) spines,
    )

-- whether methods take and give the same types follows from their types
pub method_test : (one other : SignatureTree)
    → same_type (signature_type one) (signature_type other) ≡ same_method (method_type one) (method_type other)
method_test one other =
    both_ways (same_type (signature_type one) (signature_type other))
    (same_method (method_type one) (method_type other))
    (λ reported.
    let parts = parts_equal (plain one.result) (plain other.result) (param_types one.params)
    (param_types other.params) (same_found (signature_type one) (signature_type other) reported) in
    and_from (same_types (param_types one.params) (param_types other.params))
    (same_type (plain one.result) (plain other.result))
    (ap (same_types (param_types one.params)) (sym parts.0) ∙ all_same_itself (param_types one.params))
    (ap (same_type (plain one.result)) (sym parts.1) ∙ same_itself (plain one.result)))
    (λ reported.
    let both = and_parts (same_types (param_types one.params) (param_types other.params))
    (same_type (plain one.result) (plain other.result)) reported in
    let equal : signature_type one ≡ signature_type other =
    ap₂ (λ (gives : PlainType) (takes : List PlainType). applied_to (PlainFut gives) takes)
    (same_found (plain one.result) (plain other.result) both.1)
    (all_same_found (param_types one.params) (param_types other.params) both.0) in
    ap (same_type (signature_type one)) (sym equal) ∙ same_itself (signature_type one))

-- methods of the same types have one type
pub one_type : (one other : SignatureTree) → same_method (method_type one) (method_type other) ≡ true
    → signature_type one ≡ signature_type other
one_type one other reported = same_found (signature_type one) (signature_type other) (method_test one other ∙ reported)
