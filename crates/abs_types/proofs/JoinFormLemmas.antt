-- The join of two types by their forms.
use Rattle.std.proofs.Common.{◌≡◌, Bool, true, false, List, None, refl, sym, ap, ◌∙◌}
use Rattle.std.specs.Prelude.{Option, option_map}
use Rattle.abs_tree.specs.Syntax.{Name, DeclTree}
use Rattle.std.specs.declared.alloc.Global.{Global}
use Rattle.std.specs.declared.boxed.Box.{Box}
use Rattle.abs_tree.specs.Names.{name_of}
use Rattle.abs_tree.specs.SyntaxViews.{type_tree, type_row}
use Rattle.abs_tree.specs.declared.place.Place.{Place}
use Rattle.abs_tree.specs.declared.syntax.types.TypeTerm as code
use Rattle.abs_tree.specs.declared.syntax.types.TypeTerm.{TypeTerm}
use Rattle.abs_types.proofs.JoinLemmas.{join_of_apart, join_of_futures}
use Rattle.abs_types.proofs.SpineLemmas.{spine_cases, is_data}
use Rattle.abs_types.specs.Joins.{join_of}
use Rattle.abs_types.specs.PlainTypes.{PlainType, PlainFut, PlainData, PlainApplied, applied_to, plain, plains}
use Rattle.abs_types.specs.Subtyping.{fits, NoneExtendsItself}

-- whether a type has parts whose joins matter
abbrev pub has_parts : PlainType → Bool
has_parts (PlainFut value) = true
has_parts (PlainApplied head argument) = true
has_parts _ = false

-- a type without parts has no join with one that it does not fit and that does not fit it
pub no_parts_join : (declarations : List DeclTree) (one other : PlainType) → has_parts one ≡ false
    → fits declarations one other ≡ false → fits declarations other one ≡ false
    → None ≡ join_of declarations one other
no_parts_join declarations (PlainFut value) other none apart back = cc
no_parts_join declarations (PlainApplied head argument) other none apart back = cc
no_parts_join declarations one other none apart back = sym (join_of_apart declarations one other apart back)

-- nor has data with what is not data
pub data_no_join : (declarations : List DeclTree) (name : Name) (arguments : List PlainType) (other : PlainType)
    → is_data other ≡ false → fits declarations (applied_to (PlainData name) arguments) other ≡ false
    → fits declarations other (applied_to (PlainData name) arguments) ≡ false
    → None ≡ join_of declarations (applied_to (PlainData name) arguments) other
data_no_join declarations name arguments (PlainData other) is = cc
data_no_join declarations name arguments (PlainApplied head argument) is = cc
data_no_join declarations name arguments other is =
    spine_cases (λ one. fits declarations one other ≡ false → fits declarations other one ≡ false
    → None ≡ join_of declarations one other)
    (λ n apart back. sym (join_of_apart declarations (PlainData n) other apart back))
    (λ h a apart back. sym (join_of_apart declarations (PlainApplied h a) other apart back)) name arguments

-- `Fut` has no join with data
future_data : (declarations : List DeclTree) (value : PlainType) (name : Name) (arguments : List PlainType)
    → fits declarations (PlainFut value) (applied_to (PlainData name) arguments) ≡ false
    → fits declarations (applied_to (PlainData name) arguments) (PlainFut value) ≡ false
    → None ≡ join_of declarations (PlainFut value) (applied_to (PlainData name) arguments)
future_data declarations value =
    spine_cases (λ other. fits declarations (PlainFut value) other ≡ false
    → fits declarations other (PlainFut value) ≡ false → None ≡ join_of declarations (PlainFut value) other)
    (λ n apart back. sym (join_of_apart declarations (PlainFut value) (PlainData n) apart back))
    (λ h a apart back. sym (join_of_apart declarations (PlainFut value) (PlainApplied h a) apart back))

-- `Fut` has no join with another form
pub future_no_join : (declarations : List DeclTree) (value : PlainType) (names : List Name) (term : TypeTerm)
    → ((place : Place) (inner : Box TypeTerm Global) → term ≡ code.Fut place inner → ⊥)
    → fits declarations (PlainFut value) (plain (type_tree names term)) ≡ false
    → fits declarations (plain (type_tree names term)) (PlainFut value) ≡ false
    → None ≡ join_of declarations (PlainFut value) (plain (type_tree names term))
future_no_join declarations value names (code.Unresolved' place symbol shape row) not_future =
    future_data declarations value (name_of names symbol) (plains (type_row names row))
future_no_join declarations value names (code.Data' place symbol shape row) not_future =
    future_data declarations value (name_of names symbol) (plains (type_row names row))
future_no_join declarations value names (code.Fut' place at inner) not_future =
    absurd (not_future place (record { ptr = at.ptr; alloc = at.alloc; value = inner }) refl)
future_no_join declarations value names term not_future = λ apart back.
    sym (join_of_apart declarations (PlainFut value) (plain (type_tree names term)) apart back)

-- `Fut` and `Fut` have the `Fut` of the join of their types
pub future_joined : {term : TypeTerm} {place : Place} (declarations : List DeclTree) (names : List Name)
    (value : PlainType) (inner : Box TypeTerm Global) (found : Option PlainType) → NoneExtendsItself declarations
    → term ≡ code.Fut place inner → found ≡ join_of declarations value (plain (type_tree names inner.value))
    → option_map PlainFut found ≡ join_of declarations (PlainFut value) (plain (type_tree names term))
future_joined {term} {place} declarations names value inner found none is joined =
    ap (option_map PlainFut) joined
    ∙ (sym (join_of_futures declarations value (plain (type_tree names inner.value)) none)
    ∙ ap (λ (t : TypeTerm). join_of declarations (PlainFut value) (plain (type_tree names t))) (sym is))
