-- Type parameters replaced by types: what fits still fits, and so it does if what they are replaced by fits. To replace
-- them twice is to replace them once.
use Rattle.std.proofs.Common.{◌≡◌, ℕ, zero, suc, true, false, List, [], ◌∷◌, refl, sym, ap, ap₂, get_or, length, map}
use Rattle.std.specs.List.{All}
use Rattle.std.proofs.lemmas.Bool.{and_from, or_parts, true≢false}
use Rattle.std.proofs.lemmas.List.{get_or-map}
use Rattle.std.proofs.lemmas.List.Elements.{All-head, All-tail}
use Rattle.abs_tree.specs.Syntax.{DeclTree}
use Rattle.abs_types.proofs.SubtypingLemmas.{fits_reflexive, fits_transitive, fits_found, fits_whole}
use Rattle.abs_types.specs.Applications.{replaced, AllFit}
use Rattle.abs_types.specs.PlainTypes.{PlainType, PlainInt, PlainString, PlainBottom, PlainNull, PlainFut, PlainData, PlainApplied, PlainInterface, PlainClass, PlainParameter}
use Rattle.abs_types.specs.Schemes.{has_parameter, ParametersBelow}
use Rattle.abs_types.specs.Subtyping.{Fits, fits}
use Rattle.abs_types.specs.Subtyping.Fits.{equal, bottom, null_interface, null_future, implements, extends, futures, applied}

-- the relation of fitting is kept
Fits-replaced : {declarations : List DeclTree} {one other : PlainType} (types : List PlainType)
    → Fits declarations one other → Fits declarations (replaced types one) (replaced types other)
unfolding replaced
Fits-replaced types (equal one) = equal (replaced types one)
Fits-replaced types (bottom other) = bottom (replaced types other)
Fits-replaced types (null_interface name) = null_interface name
Fits-replaced types (null_future value) = null_future (replaced types value)
Fits-replaced types (implements class interface reported) = implements class interface reported
Fits-replaced types (extends one other reported) = extends one other reported
Fits-replaced types (futures one other parts) =
    futures (replaced types one) (replaced types other) (Fits-replaced types parts)
Fits-replaced types (applied head other_head argument other_argument heads arguments) =
    applied (replaced types head) (replaced types other_head) (replaced types argument) (replaced types other_argument)
    (Fits-replaced types heads) (Fits-replaced types arguments)

-- a type that fits another one still fits it when both have their type parameters replaced
pub fits-replaced : (declarations : List DeclTree) (types : List PlainType) (one other : PlainType)
    → fits declarations one other ≡ true → fits declarations (replaced types one) (replaced types other) ≡ true
fits-replaced declarations types one other reported =
    fits_whole (Fits-replaced types (fits_found declarations one other reported))

-- of types that fit others, each fits that of its index
pub entry_fits : (declarations : List DeclTree) (types others : List PlainType) (index : ℕ) (one other : PlainType)
    → AllFit declarations types others → fits declarations one other ≡ true
    → fits declarations (get_or types index one) (get_or others index other) ≡ true
entry_fits declarations [] [] index one other all reported = reported
entry_fits declarations [] (next ∷ more) index one other all reported = absurd all
entry_fits declarations (first ∷ types) [] index one other all reported = absurd all
entry_fits declarations (first ∷ types) (next ∷ more) zero one other all reported = all.0
entry_fits declarations (first ∷ types) (next ∷ more) (suc index) one other all reported =
    entry_fits declarations types more index one other all.1 reported

-- a type whose type parameters are replaced by types fits that in which they are replaced by what these fit
pub replacements_fit : (declarations : List DeclTree) (types others : List PlainType) (one : PlainType)
    → AllFit declarations types others → fits declarations (replaced types one) (replaced others one) ≡ true
unfolding replaced fits
replacements_fit declarations types others (PlainParameter index) all =
    entry_fits declarations types others index (PlainParameter index) (PlainParameter index) all
    (fits_reflexive declarations (PlainParameter index))
replacements_fit declarations types others (PlainFut value) all = replacements_fit declarations types others value all
replacements_fit declarations types others (PlainApplied head argument) all =
    and_from (fits declarations (replaced types head) (replaced others head))
    (fits declarations (replaced types argument) (replaced others argument))
    (replacements_fit declarations types others head all)
    (replacements_fit declarations types others argument all)
replacements_fit declarations types others PlainInt all = refl
replacements_fit declarations types others PlainString all = refl
replacements_fit declarations types others PlainBottom all = refl
replacements_fit declarations types others PlainNull all = refl
replacements_fit declarations types others (PlainData name) all = fits_reflexive declarations (PlainData name)
replacements_fit declarations types others (PlainInterface name) all =
    fits_reflexive declarations (PlainInterface name)
replacements_fit declarations types others (PlainClass name) all = fits_reflexive declarations (PlainClass name)

-- a type with no type parameter stays
pub replaced_without : (types : List PlainType) (one : PlainType) → has_parameter one ≡ false → replaced types one ≡ one
unfolding replaced
replaced_without types (PlainParameter index) none = absurd (true≢false none)
replaced_without types (PlainFut value) none = ap PlainFut (replaced_without types value none)
replaced_without types (PlainApplied head argument) none =
    let parts = or_parts (has_parameter head) (has_parameter argument) none in
    ap₂ PlainApplied (replaced_without types head parts.0) (replaced_without types argument parts.1)
replaced_without types PlainInt none = refl
replaced_without types PlainString none = refl
replaced_without types PlainBottom none = refl
replaced_without types PlainNull none = refl
replaced_without types (PlainData name) none = refl
replaced_without types (PlainInterface name) none = refl
replaced_without types (PlainClass name) none = refl

-- types fit themselves, and what fits types that fit others fits these
pub AllFit-reflexive : (declarations : List DeclTree) (types : List PlainType) → AllFit declarations types types
AllFit-reflexive declarations [] = tt
AllFit-reflexive declarations (one ∷ types) = (fits_reflexive declarations one, AllFit-reflexive declarations types)

-- types that fit others one by one are as many
pub AllFit-length : (declarations : List DeclTree) (types others : List PlainType)
    → AllFit declarations types others → length types ≡ length others
AllFit-length declarations [] [] all = refl
AllFit-length declarations [] (other ∷ others) all = absurd all
AllFit-length declarations (one ∷ types) [] all = absurd all
AllFit-length declarations (one ∷ types) (other ∷ others) all =
    ap suc (AllFit-length declarations types others all.1)

pub AllFit-transitive : (declarations : List DeclTree) (types between others : List PlainType)
    → AllFit declarations types between → AllFit declarations between others → AllFit declarations types others
AllFit-transitive declarations [] [] others first second = second
AllFit-transitive declarations [] (next ∷ between) others first second = absurd first
AllFit-transitive declarations (one ∷ types) [] others first second = absurd first
AllFit-transitive declarations (one ∷ types) (next ∷ between) [] first second = absurd second
AllFit-transitive declarations (one ∷ types) (next ∷ between) (other ∷ others) first second = (
  fits_transitive declarations one next other first.0 second.0,
  AllFit-transitive declarations types between others first.1 second.1,
)

-- what fits a type with the type parameters replaced by types fits it with them replaced by what these fit
pub fits_replacement : (declarations : List DeclTree) (types others : List PlainType) (given takes : PlainType)
    → AllFit declarations types others → fits declarations given (replaced types takes) ≡ true
    → fits declarations given (replaced others takes) ≡ true
fits_replacement declarations types others given takes all reported =
    fits_transitive declarations given (replaced types takes) (replaced others takes) reported
    (replacements_fit declarations types others takes all)

-- type parameters that are replaced twice are replaced once by replaced types
pub replaced_twice : (first second : List PlainType) (one : PlainType) → ParametersBelow (length first) one
    → replaced second (replaced first one) ≡ replaced (map (replaced second) first) one
unfolding replaced
replaced_twice first second (PlainParameter index) below =
    sym (get_or-map (replaced second) first index (PlainParameter index) (PlainParameter index) below)
replaced_twice first second (PlainFut value) below = ap PlainFut (replaced_twice first second value below)
replaced_twice first second (PlainApplied head argument) below =
    ap₂ PlainApplied (replaced_twice first second head below.0) (replaced_twice first second argument below.1)
replaced_twice first second PlainInt below = refl
replaced_twice first second PlainString below = refl
replaced_twice first second PlainBottom below = refl
replaced_twice first second PlainNull below = refl
replaced_twice first second (PlainData name) below = refl
replaced_twice first second (PlainInterface name) below = refl
replaced_twice first second (PlainClass name) below = refl

-- so are those of each type of a list
pub all_replaced_twice : (first second types : List PlainType) → All (ParametersBelow (length first)) types
    → map (replaced second) (map (replaced first) types) ≡ map (replaced (map (replaced second) first)) types
all_replaced_twice first second [] below = refl
all_replaced_twice first second (one ∷ types) below =
    ap₂ (◌∷◌) (replaced_twice first second one (All-head (ParametersBelow (length first)) one types below))
    (all_replaced_twice first second types (All-tail (ParametersBelow (length first)) one types below))
