-- Data that is applied to arguments, and when it fits.
use Rattle.std.proofs.Common.{◌≡◌, ℕ, ◌+◌, Bool, true, false, ◌&&◌, List, [], ◌∷◌, refl, sym, ap, ◌∙◌, length, suc, arith, true≢false}
use Rattle.std.specs.Str.{bytes_eq}
use Rattle.std.proofs.lemmas.Bool.{and_from, and_parts}
use Rattle.std.proofs.lemmas.Slice.Eq.{bytes_eq-Decides}
use Rattle.abs_tree.specs.Syntax.{Name, DeclTree}
use Rattle.abs_types.specs.Applications.{AllFit}
use Rattle.abs_types.specs.Arguments.{all_fit}
use Rattle.abs_types.specs.PlainTypes.{PlainType, PlainData, PlainApplied, applied_to}
use Rattle.abs_types.specs.Subtyping.{fits}
use Rattle.std.proofs.Math.Bool.{and_assoc, and-true, and-false}

-- what is so of each applied type is so of one that is applied to more
more_cases : (P : PlainType → Type 0) → ((head argument : PlainType) → P (PlainApplied head argument))
    → (head argument : PlainType) (arguments : List PlainType) → P (applied_to (PlainApplied head argument) arguments)
more_cases P applied head argument [] = applied head argument
more_cases P applied head argument (next ∷ others) =
    more_cases P applied (PlainApplied head argument) next others

-- data with arguments is data, or an applied type
pub spine_cases : (P : PlainType → Type 0) → ((name : Name) → P (PlainData name))
    → ((head argument : PlainType) → P (PlainApplied head argument))
    → (name : Name) (arguments : List PlainType) → P (applied_to (PlainData name) arguments)
spine_cases P itself applied name [] = itself name
spine_cases P itself applied name (argument ∷ others) = more_cases P applied (PlainData name) argument others

-- whether a type is data, with or without arguments
abbrev pub is_data : PlainType → Bool
is_data (PlainData name) = true
is_data (PlainApplied head argument) = true
is_data _ = false

-- data does not fit what is not data
pub data_apart : (declarations : List DeclTree) (name : Name) (arguments : List PlainType) (other : PlainType)
    → is_data other ≡ false → false ≡ fits declarations (applied_to (PlainData name) arguments) other
unfolding fits
data_apart declarations name arguments (PlainData other) is = cc
data_apart declarations name arguments (PlainApplied head argument) is = cc
data_apart declarations name arguments other is =
    spine_cases (λ one. false ≡ fits declarations one other) (λ n. refl) (λ h a. refl) name arguments

-- how many arguments a type is applied to, and whether it is data that is applied to them
abbrev pub depth : PlainType → ℕ
depth (PlainApplied head argument) = suc (depth head)
depth _ = 0

abbrev pub has_data_head : PlainType → Bool
has_data_head (PlainApplied head argument) = has_data_head head
has_data_head (PlainData name) = true
has_data_head _ = false

pub depth_applied : (head : PlainType) (arguments : List PlainType)
    → depth (applied_to head arguments) ≡ length arguments + depth head
depth_applied head [] = omega arith
depth_applied head (argument ∷ others) = omega (arith, depth_applied (PlainApplied head argument) others)

pub head_applied : (head : PlainType) (arguments : List PlainType)
    → has_data_head (applied_to head arguments) ≡ has_data_head head
head_applied head [] = refl
head_applied head (argument ∷ others) = head_applied (PlainApplied head argument) others

-- data that is applied to another number of arguments does not fit
pub depths_apart : (declarations : List DeclTree) (one other : PlainType) → has_data_head one ≡ true
    → (depth one ≡ depth other → ⊥) → fits declarations one other ≡ false
unfolding fits
depths_apart declarations (PlainData name) (PlainData other_name) is apart = absurd (apart refl)
depths_apart declarations (PlainData name) other is apart = refl
depths_apart declarations (PlainApplied head argument) (PlainApplied other_head other_argument) is apart =
    ap (λ (heads : Bool). heads && fits declarations argument other_argument)
    (depths_apart declarations head other_head is (λ same. apart (ap suc same)))
depths_apart declarations (PlainApplied head argument) other is apart = refl
depths_apart declarations one other is apart = cc

-- heads of one depth that are applied to arguments fit if the heads fit, and the arguments one by one
spines_fit : (declarations : List DeclTree) (head other_head : PlainType) (ones others : List PlainType)
    → has_data_head head ≡ true → depth head ≡ depth other_head
    → fits declarations (applied_to head ones) (applied_to other_head others)
    ≡ fits declarations head other_head && all_fit declarations ones others
unfolding fits
spines_fit declarations head other_head [] [] is same = sym (and-true (fits declarations head other_head))
spines_fit declarations head other_head [] (other ∷ others) is same =
    depths_apart declarations head (applied_to (PlainApplied other_head other) others) is
    (λ equal. omega (arith, depth_applied (PlainApplied other_head other) others))
    ∙ sym (and-false (fits declarations head other_head))
spines_fit declarations head other_head (one ∷ ones) [] is same =
    depths_apart declarations (applied_to (PlainApplied head one) ones) other_head
    (head_applied (PlainApplied head one) ones ∙ is)
    (λ equal. omega (arith, depth_applied (PlainApplied head one) ones))
    ∙ sym (and-false (fits declarations head other_head))
spines_fit declarations head other_head (one ∷ ones) (other ∷ others) is same =
    spines_fit declarations (PlainApplied head one) (PlainApplied other_head other) ones others is (ap suc same)
    ∙ and_assoc (fits declarations head other_head) (fits declarations one other) (all_fit declarations ones others)

-- data fits data of the same name if the arguments fit one by one
pub data_fits_data : (declarations : List DeclTree) (name other_name : Name) (ones others : List PlainType)
    → fits declarations (applied_to (PlainData name) ones) (applied_to (PlainData other_name) others)
    ≡ bytes_eq name other_name && all_fit declarations ones others
unfolding fits
data_fits_data declarations name other_name ones others =
    spines_fit declarations (PlainData name) (PlainData other_name) ones others refl refl

-- types that pass the test fit one by one
pub all_fit_found : (declarations : List DeclTree) (ones others : List PlainType) → all_fit declarations ones others ≡ true
    → AllFit declarations ones others
all_fit_found declarations [] [] reported = tt
all_fit_found declarations (one ∷ ones) (other ∷ others) reported =
    let both = and_parts (fits declarations one other) (all_fit declarations ones others) reported in
    (both.0, all_fit_found declarations ones others both.1)
all_fit_found declarations ones others reported = absurd (true≢false (sym reported))

-- types that fit one by one pass it
pub all_fit_whole : (declarations : List DeclTree) (ones others : List PlainType) → AllFit declarations ones others
    → all_fit declarations ones others ≡ true
all_fit_whole declarations [] [] fit = refl
all_fit_whole declarations [] (other ∷ others) fit = absurd fit
all_fit_whole declarations (one ∷ ones) [] fit = absurd fit
all_fit_whole declarations (one ∷ ones) (other ∷ others) fit =
    and_from (fits declarations one other) (all_fit declarations ones others) fit.0
    (all_fit_whole declarations ones others fit.1)

-- data that fits data has its name, and its arguments fit one by one
pub data_fitting : (declarations : List DeclTree) (name other_name : Name) (arguments others : List PlainType)
    → fits declarations (applied_to (PlainData name) arguments) (applied_to (PlainData other_name) others) ≡ true
    → (name ≡ other_name) × AllFit declarations arguments others
data_fitting declarations name other_name arguments others reported =
    let both = and_parts (bytes_eq name other_name) (all_fit declarations arguments others)
    (sym (data_fits_data declarations name other_name arguments others) ∙ reported) in
    ((bytes_eq-Decides name other_name).0 both.0, all_fit_found declarations arguments others both.1)
