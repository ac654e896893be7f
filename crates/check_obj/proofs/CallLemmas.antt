-- The methods of a class that have a name and take so many parameters: there is at most the first one with the name.
--
--   `first_named`                      the first method with a name
--   `first_called`                     among the first of each name, that one is called so, if it takes as many
--   `class_called`, `class_lacks`      a class has its first method with the name, if it takes as many, or none
--   `no_class_called`                  where there is no class, there is none
use Rattle.std.proofs.Common.{◌≡◌, ℕ, suc, ◌+◌, Bool, true, false, not, cond, List, [], ◌∷◌, Option, Some, None, if◌then◌else◌, filter, length, nat_eq, refl, sym, subst, ap, ◌∙◌, zero-add, arith}
use Rattle.std.specs.Prelude.{slice_get, option_and_then}
use Rattle.std.specs.Str.{bytes_eq}
use Rattle.std.proofs.lemmas.Slice.Eq.{bytes_eq-Decides}
use Rattle.std.proofs.lemmas.Option.{none-some, same_Some}
use Rattle.abs_program.proofs.DeclaredLemmas.{class_is_declared}
use Rattle.abs_program.specs.Members.{method_among as index_among, method_in as index_in, method_of}
use Rattle.abs_program.specs.NameSpaces.{spaces_of}
use Rattle.abs_tree.specs.Syntax.{Name, DeclaredTree, ParamTree, SignatureTree, MemberTree, FieldTree, MethodTree, DeclTree, DataTree, FunctionTree, InterfaceTree, ClassTree, Statements}
use Rattle.abs_program.specs.Tables.{meaning_of}
use Rattle.abs_program.specs.declared.name_spaces.Taking.{Taking}
use Rattle.abs_tree.specs.declared.place.Place.{Place}
use Rattle.abs_types.specs.Methods.{first_of_each, is_called, is_named, member_signatures, signatures_if_there, signatures_of_type}
use Rattle.check_fun.specs.ObjectHeads.{OfClass}
use Rattle.check_obj.specs.Calls.{called, if_there, method_among, method_in, method_tree_at}

-- the first method with a name
abbrev pub first_named : Name → List SignatureTree → Option SignatureTree
first_named name [] = None
first_named name (first ∷ others) = if is_named name first then Some first else first_named name others

-- none with a name is left after one more, where those with the name are left out
without_step : (name : Name) (count : ℕ) (first : SignatureTree) (rest : List SignatureTree) (reported : Bool)
    → is_named name first ≡ reported → filter (is_called name count) rest ≡ []
    → filter (is_called name count) (cond (not reported) (first ∷ rest) rest) ≡ []
without_step name count first rest true same none = none
without_step name count first rest false apart none = rw apart none

-- none with a name is left where those with the name are left out
without_own : (name : Name) (count : ℕ) (signatures : List SignatureTree)
    → filter (is_called name count) (filter (λ (other : SignatureTree). not (is_named name other)) signatures) ≡ []
without_own name count [] = refl
without_own name count (first ∷ others) =
    without_step name count first (filter (λ (other : SignatureTree). not (is_named name other)) others)
    (is_named name first) refl (without_own name count others)

-- where those with another name are left out, all with the name are left after one more
other_step : (name left_out : Name) (count : ℕ) (first : SignatureTree) (others rest : List SignatureTree)
    (reported : Bool) → bytes_eq left_out name ≡ false → is_named left_out first ≡ reported
    → filter (is_called name count) rest ≡ filter (is_called name count) others
    → filter (is_called name count) (cond (not reported) (first ∷ rest) rest)
    ≡ filter (is_called name count) (first ∷ others)
other_step name left_out count first others rest true differ same left =
    let own : first.name.name ≡ left_out = (bytes_eq-Decides first.name.name left_out).0 same in
    rw (own, differ) left
other_step name left_out count first others rest false differ apart left = rw left refl

-- where those with another name are left out, all with the name are left
without_other : (name left_out : Name) (count : ℕ) (signatures : List SignatureTree) → bytes_eq left_out name ≡ false
    → filter (is_called name count) (filter (λ (other : SignatureTree). not (is_named left_out other)) signatures)
    ≡ filter (is_called name count) signatures
without_other name left_out count [] differ = refl
without_other name left_out count (first ∷ others) differ =
    other_step name left_out count first others
    (filter (λ (other : SignatureTree). not (is_named left_out other)) others) (is_named left_out first) differ refl
    (without_other name left_out count others differ)

-- one method or none
one_or_none : (reported : Bool) (first : SignatureTree) → cond reported (first ∷ []) [] ≡ (if reported then first ∷ [] else [])
one_or_none true first = refl
one_or_none false first = refl

-- those called so among the first of each name: the case of one more
first_step : (name : Name) (count : ℕ) (first : SignatureTree) (others : List SignatureTree) (reported : Bool)
    → is_named name first ≡ reported
    → filter (is_called name count) (first_of_each others) ≡ if_there count (first_named name others)
    → filter (is_called name count) (first_of_each (first ∷ others))
    ≡ if_there count (if reported then Some first else first_named name others)
first_step name count first others true same found =
    let own : first.name.name ≡ name = (bytes_eq-Decides first.name.name name).0 same in
    let left : filter (is_called name count) (filter (λ (other : SignatureTree). not (is_named first.name.name other))
    (first_of_each others)) ≡ [] =
    subst (λ (left_out : Name). filter (is_called name count)
    (filter (λ (other : SignatureTree). not (is_named left_out other)) (first_of_each others)) ≡ [])
    (sym own) (without_own name count (first_of_each others)) in
    rw (same, left) (one_or_none (nat_eq (length first.params) count) first)
first_step name count first others false apart found =
    rw (apart, without_other name first.name.name count (first_of_each others) apart) found

-- among the first of each name, the first one with the name is called so, if it takes as many
pub first_called : (name : Name) (count : ℕ) (signatures : List SignatureTree)
    → filter (is_called name count) (first_of_each signatures) ≡ if_there count (first_named name signatures)
first_called name count [] = refl
first_called name count (first ∷ others) =
    first_step name count first others (is_named name first) refl (first_called name count others)

-- no method has a name, if none is found: the case of one more
none_step : (base : ℕ) (name : Name) (signature : SignatureTree) (others : List MemberTree) (reported : Bool)
    → (if reported then Some base else index_among (base + 1) others name) ≡ None
    → (index_among (base + 1) others name ≡ None → first_named name (member_signatures others) ≡ None)
    → (if reported then Some signature else first_named name (member_signatures others)) ≡ None
none_step base name signature others true none rest = absurd (none-some base (sym none))
none_step base name signature others false none rest = rest none

-- no method among members has a name, if none is found
none_named : (base : ℕ) (name : Name) (members : List MemberTree) → index_among base members name ≡ None
    → first_named name (member_signatures members) ≡ None
none_named base name [] none = refl
none_named base name (FieldTree type own initial ∷ others) none = none_named (base + 1) name others none
none_named base name (MethodTree signature end body ∷ others) none =
    none_step base name signature others (bytes_eq signature.name.name name) none
    (none_named (base + 1) name others)

-- the method with an index is the first one with the name
abbrev IsFirstAt : ℕ → Name → List MemberTree → ℕ → Type 0
IsFirstAt base name members index = (place : ℕ) × (index ≡ base + place)
    × (option_and_then method_in (slice_get members place) ≡ first_named name (member_signatures members))

-- a method that is found is the first one with the name: the case of one more
next_step : (base : ℕ) (name : Name) (signature : SignatureTree) (end : Place) (body : Statements)
    (others : List MemberTree) (index : ℕ) (reported : Bool)
    → (if reported then Some base else index_among (base + 1) others name) ≡ Some index
    → (index_among (base + 1) others name ≡ Some index → IsFirstAt (base + 1) name others index)
    → (place : ℕ) × (index ≡ base + place)
    × (option_and_then method_in (slice_get (MethodTree signature end body ∷ others) place)
    ≡ (if reported then Some signature else first_named name (member_signatures others)))
next_step base name signature end body others index true found rest =
    let is : base ≡ index = same_Some base index found in (0, omega arith, refl)
next_step base name signature end body others index false found rest =
    let at = rest found in
    let is : index ≡ base + 1 + at.0 = at.1 in (suc at.0, omega arith, at.2)

-- a method that is found among members is the first one with the name
first_at : (base : ℕ) (name : Name) (members : List MemberTree) (index : ℕ)
    → index_among base members name ≡ Some index → IsFirstAt base name members index
first_at base name [] index found = absurd (none-some index found)
first_at base name (FieldTree type own initial ∷ others) index found =
    let at = first_at (base + 1) name others index found in
    let is : index ≡ base + 1 + at.0 = at.1 in (suc at.0, omega arith, at.2)
first_at base name (MethodTree signature end body ∷ others) index found =
    next_step base name signature end body others index (bytes_eq signature.name.name name) found
    (first_at (base + 1) name others index)

-- the first method with a name among all members is at its index
first_among : (name : Name) (members : List MemberTree) (index : ℕ) → index_among 0 members name ≡ Some index
    → option_and_then method_in (slice_get members index) ≡ first_named name (member_signatures members)
first_among name members index found =
    let at = first_at 0 name members index found in
    let is : index ≡ at.0 = at.1 ∙ zero-add at.0 in rw is at.2

-- so it is in a declaration, if it is a class
first_in : (declaration : Option DeclTree) (name : Name) (count index : ℕ)
    → option_and_then (λ (one : DeclTree). index_in one name) declaration ≡ Some index
    → if_there count (option_and_then (method_among index) declaration)
    ≡ filter (is_called name count) (signatures_if_there declaration)
first_in (Some (ClassTree place own params implemented members)) name count index found =
    ap (if_there count) (first_among name members index found)
    ∙ sym (first_called name count (member_signatures members))
first_in (Some (DataTree place own type_params constructors)) name count index found = absurd (none-some index found)
first_in (Some (FunctionTree place result own type_params params value)) name count index found =
    absurd (none-some index found)
first_in (Some (InterfaceTree place own extended signatures)) name count index found = absurd (none-some index found)
first_in None name count index found = absurd (none-some index found)

-- a class without a method with a name has none that is called so
lacks_in : (declaration : Option DeclTree) (place : Place) (own : DeclaredTree) (params : List ParamTree)
    (implemented : List DeclaredTree) (members : List MemberTree) (name : Name) (count : ℕ)
    → declaration ≡ Some (ClassTree place own params implemented members)
    → option_and_then (λ (one : DeclTree). index_in one name) declaration ≡ None
    → [] ≡ filter (is_called name count) (signatures_if_there declaration)
lacks_in declaration place own params implemented members name count is none =
    let none_among : index_among 0 members name ≡ None = rw is at none in
    rw is (sym (first_called name count (member_signatures members)
    ∙ ap (if_there count) (none_named 0 name members none_among)))

-- a class has its first method with the name, if it takes as many
pub class_called : (declarations : List DeclTree) (class name : Name) (taking : Taking) (index count : ℕ)
    → meaning_of (spaces_of declarations).classes class ≡ Some taking
    → method_of declarations taking.declaration name ≡ Some index
    → if_there count (method_tree_at declarations taking.declaration index)
    ≡ called declarations (OfClass class) name count
unfolding signatures_of_type method_of method_tree_at
class_called declarations class name taking index count known found =
    rw known (first_in (slice_get declarations taking.declaration) name count index found)

-- it has none, if it has no method with the name
pub class_lacks : (declarations : List DeclTree) (class name : Name) (taking : Taking) (count : ℕ)
    → meaning_of (spaces_of declarations).classes class ≡ Some taking
    → method_of declarations taking.declaration name ≡ None
    → [] ≡ called declarations (OfClass class) name count
unfolding signatures_of_type method_of
class_lacks declarations class name taking count known none =
    let declared = class_is_declared declarations class taking known in
    rw known (lacks_in (slice_get declarations taking.declaration) declared.place declared.declared declared.params
    declared.implemented declared.members name count declared.there none)

-- there is none, if there is no class with the name
pub no_class_called : (declarations : List DeclTree) (class name : Name) (count : ℕ)
    → meaning_of (spaces_of declarations).classes class ≡ None → [] ≡ called declarations (OfClass class) name count
unfolding signatures_of_type
no_class_called declarations class name count none = rw none refl
