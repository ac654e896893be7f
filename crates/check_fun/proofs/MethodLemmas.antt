-- The methods of a class, by their names and by their indices.
--
--   `has_own_method`, `lacks_own_method`   a class has a method exactly where the first one with the name takes as many
--   `has_no_class`                         there is none where there is no class
--   `known_method`                         the same in what a checker knows
--   `this_known`                           the class of `this`, in what a checker knows
--   `this_has`, `this_lacks`               the same of the class of `this`
use Rattle.std.proofs.Common.{◌≡◌, ℕ, suc, ◌+◌, Bool, true, false, not, cond, List, [], ◌∷◌, Option, Some, None, if◌then◌else◌, filter, length, nat_eq, refl, sym, subst, ◌∙◌, zero-add, arith}
use Rattle.std.specs.Prelude.{slice_get, option_and_then, option_map}
use Rattle.std.specs.Str.{bytes_eq}
use Rattle.std.proofs.lemmas.Slice.Eq.{bytes_eq-Decides}
use Rattle.std.proofs.lemmas.Option.{none-some, same_Some}
use Rattle.abs_program.proofs.DeclaredLemmas.{class_is_declared}
use Rattle.abs_program.specs.Members.{method_among, method_in, method_of}
use Rattle.abs_program.specs.NameSpaces.{spaces_of}
use Rattle.abs_tree.specs.Names.{name_of}
use Rattle.abs_tree.specs.Syntax.{Name, DeclaredTree, ParamTree, SignatureTree, MemberTree, FieldTree, MethodTree, DeclTree, DataTree, FunctionTree, InterfaceTree, ClassTree, Statements}
use Rattle.abs_program.specs.Tables.{meaning_of}
use Rattle.abs_program.specs.declared.name_spaces.Taking.{Taking}
use Rattle.abs_tree.specs.declared.symbol.Symbol.{Symbol}
use Rattle.abs_tree.specs.declared.place.Place.{Place}
use Rattle.abs_types.specs.ExpressionOffences.{this_lacks_method}
use Rattle.abs_types.specs.Methods.{first_of_each, has_method, is_named, member_signatures, method_type, named_methods, signatures_if_there, signatures_of_type, MethodType}
use Rattle.abs_types.specs.PlainTypes.{PlainClass}
use Rattle.abs_types.specs.TypeTables.{declarations_of}
use Rattle.check_fun.specs.Contexts.{context_in, Context, Knows}
use Rattle.check_fun.specs.declared.checker.Checker.{Checker}
use Rattle.check_fun.specs.OwnMethods.{member_takes, declaration_takes, takes_count}
use Rattle.std.proofs.Math.Bool.{not-not}

-- whether the first method with a name takes this many parameters
abbrev first_takes : Name → ℕ → List SignatureTree → Bool
first_takes name count [] = false
first_takes name count (first ∷ others) =
    if is_named name first then nat_eq (length first.params) count else first_takes name count others

-- whether there is one among several
abbrev are_some : List MethodType → Bool
are_some found = not (nat_eq (length found) 0)

-- none with a name is left after one more, where those with the name are left out
without_step : (name : Name) (count : ℕ) (first : SignatureTree) (rest : List SignatureTree) (reported : Bool)
    → is_named name first ≡ reported → named_methods name count rest ≡ []
    → named_methods name count (cond (not reported) (first ∷ rest) rest) ≡ []
without_step name count first rest true same none = none
without_step name count first rest false apart none = rw apart none

-- none with a name is left where those with the name are left out
without_own : (name : Name) (count : ℕ) (signatures : List SignatureTree)
    → named_methods name count (filter (λ (other : SignatureTree). not (is_named name other)) signatures) ≡ []
without_own name count [] = refl
without_own name count (first ∷ others) =
    without_step name count first (filter (λ (other : SignatureTree). not (is_named name other)) others)
    (is_named name first) refl (without_own name count others)

-- where those with another name are left out, all with the name are left after one more
other_step : (name left_out : Name) (count : ℕ) (first : SignatureTree) (others rest : List SignatureTree)
    (reported : Bool) → bytes_eq left_out name ≡ false → is_named left_out first ≡ reported
    → named_methods name count rest ≡ named_methods name count others
    → named_methods name count (cond (not reported) (first ∷ rest) rest) ≡ named_methods name count (first ∷ others)
other_step name left_out count first others rest true differ same left =
    let own : first.name.name ≡ left_out = (bytes_eq-Decides first.name.name left_out).0 same in
    rw (own, differ) left
other_step name left_out count first others rest false differ apart left = rw left refl

-- where those with another name are left out, all with the name are left
without_other : (name left_out : Name) (count : ℕ) (signatures : List SignatureTree) → bytes_eq left_out name ≡ false
    → named_methods name count (filter (λ (other : SignatureTree). not (is_named left_out other)) signatures)
    ≡ named_methods name count signatures
without_other name left_out count [] differ = refl
without_other name left_out count (first ∷ others) differ =
    other_step name left_out count first others
    (filter (λ (other : SignatureTree). not (is_named left_out other)) others) (is_named left_out first) differ refl
    (without_other name left_out count others differ)

-- one method or none
one_or_none : (reported : Bool) (method : MethodType) → are_some (if reported then method ∷ [] else []) ≡ reported
one_or_none true method = refl
one_or_none false method = refl

-- there is a method with a name exactly where the first one takes as many: the case of one more
first_step : (name : Name) (count : ℕ) (first : SignatureTree) (others : List SignatureTree) (reported : Bool)
    → is_named name first ≡ reported
    → are_some (named_methods name count (first_of_each others)) ≡ first_takes name count others
    → are_some (named_methods name count (first_of_each (first ∷ others)))
    ≡ (if reported then nat_eq (length first.params) count else first_takes name count others)
first_step name count first others true same found =
    let own : first.name.name ≡ name = (bytes_eq-Decides first.name.name name).0 same in
    let left : named_methods name count (filter (λ (other : SignatureTree). not (is_named first.name.name other))
    (first_of_each others)) ≡ [] =
    subst (λ (left_out : Name). named_methods name count
    (filter (λ (other : SignatureTree). not (is_named left_out other)) (first_of_each others)) ≡ [])
    (sym own) (without_own name count (first_of_each others)) in
    rw (same, left) (one_or_none (nat_eq (length first.params) count) (method_type first))
first_step name count first others false apart found =
    rw (apart, without_other name first.name.name count (first_of_each others) apart) found

-- among the first ones of each name, there is a method with a name exactly where the first one takes as many
first_of_each_takes : (name : Name) (count : ℕ) (signatures : List SignatureTree)
    → are_some (named_methods name count (first_of_each signatures)) ≡ first_takes name count signatures
first_of_each_takes name count [] = refl
first_of_each_takes name count (first ∷ others) =
    first_step name count first others (is_named name first) refl (first_of_each_takes name count others)

-- no method with a name takes any parameters, if there is none: the case of one more
none_step : (base : ℕ) (name : Name) (count : ℕ) (signature : SignatureTree) (others : List MemberTree) (reported : Bool)
    → (if reported then Some base else method_among (base + 1) others name) ≡ None
    → (method_among (base + 1) others name ≡ None → first_takes name count (member_signatures others) ≡ false)
    → (if reported then nat_eq (length signature.params) count else first_takes name count (member_signatures others))
    ≡ false
none_step base name count signature others true none rest = absurd (none-some base (sym none))
none_step base name count signature others false none rest = rest none

-- no method with a name among members takes any parameters, if there is none
none_takes : (base : ℕ) (name : Name) (count : ℕ) (members : List MemberTree) → method_among base members name ≡ None
    → first_takes name count (member_signatures members) ≡ false
none_takes base name count [] none = refl
none_takes base name count (FieldTree type own initial ∷ others) none = none_takes (base + 1) name count others none
none_takes base name count (MethodTree signature end body ∷ others) none =
    none_step base name count signature others (bytes_eq signature.name.name name) none
    (none_takes (base + 1) name count others)

-- the method with an index is the first one with the name
abbrev IsFirstAt : ℕ → Name → ℕ → List MemberTree → ℕ → Type 0
IsFirstAt base name count members index = (place : ℕ) × (index ≡ base + place)
    × (member_takes count (slice_get members place) ≡ first_takes name count (member_signatures members))

-- a method that is found is the first one with the name: the case of one more
next_step : (base : ℕ) (name : Name) (count : ℕ) (signature : SignatureTree) (end : Place) (body : Statements)
    (others : List MemberTree) (index : ℕ) (reported : Bool)
    → (if reported then Some base else method_among (base + 1) others name) ≡ Some index
    → (method_among (base + 1) others name ≡ Some index → IsFirstAt (base + 1) name count others index)
    → (place : ℕ) × (index ≡ base + place)
    × (member_takes count (slice_get (MethodTree signature end body ∷ others) place)
    ≡ (if reported then nat_eq (length signature.params) count else first_takes name count (member_signatures others)))
next_step base name count signature end body others index true found rest =
    let is : base ≡ index = same_Some base index found in (0, omega arith, refl)
next_step base name count signature end body others index false found rest =
    let at = rest found in
    let is : index ≡ base + 1 + at.0 = at.1 in (suc at.0, omega arith, at.2)

-- a method that is found among members is the first one with the name
first_at : (base : ℕ) (name : Name) (count : ℕ) (members : List MemberTree) (index : ℕ)
    → method_among base members name ≡ Some index → IsFirstAt base name count members index
first_at base name count [] index found = absurd (none-some index found)
first_at base name count (FieldTree type own initial ∷ others) index found =
    let at = first_at (base + 1) name count others index found in
    let is : index ≡ base + 1 + at.0 = at.1 in (suc at.0, omega arith, at.2)
first_at base name count (MethodTree signature end body ∷ others) index found =
    next_step base name count signature end body others index (bytes_eq signature.name.name name) found
    (first_at (base + 1) name count others index)

-- the first method with a name among all members is at its index
first_among : (name : Name) (count : ℕ) (members : List MemberTree) (index : ℕ)
    → method_among 0 members name ≡ Some index
    → member_takes count (slice_get members index) ≡ first_takes name count (member_signatures members)
first_among name count members index found =
    let at = first_at 0 name count members index found in
    let is : index ≡ at.0 = at.1 ∙ zero-add at.0 in rw is at.2

-- so it is in a declaration, if it is a class
method_takes : (declaration : Option DeclTree) (name : Name) (count index : ℕ)
    → option_and_then (λ (one : DeclTree). method_in one name) declaration ≡ Some index
    → declaration_takes index count declaration ≡ are_some (named_methods name count (signatures_if_there declaration))
method_takes (Some (ClassTree place own params implemented members)) name count index found =
    first_among name count members index found ∙ sym (first_of_each_takes name count (member_signatures members))
method_takes (Some (DataTree place own type_params constructors)) name count index found =
    absurd (none-some index found)
method_takes (Some (FunctionTree place result own type_params params value)) name count index found =
    absurd (none-some index found)
method_takes (Some (InterfaceTree place own extended signatures)) name count index found =
    absurd (none-some index found)
method_takes None name count index found = absurd (none-some index found)

-- a class without the method with a name has none that takes any parameters
lacks_takes : (declaration : Option DeclTree) (place : Place) (own : DeclaredTree) (params : List ParamTree)
    (implemented : List DeclaredTree) (members : List MemberTree) (name : Name) (count : ℕ)
    → declaration ≡ Some (ClassTree place own params implemented members)
    → option_and_then (λ (one : DeclTree). method_in one name) declaration ≡ None
    → false ≡ are_some (named_methods name count (signatures_if_there declaration))
lacks_takes declaration place own params implemented members name count is none =
    let none_among : method_among 0 members name ≡ None = rw is at none in
    rw is (sym (first_of_each_takes name count (member_signatures members)
    ∙ none_takes 0 name count members none_among))

-- a class has a method with a name and this many parameters exactly where the first one with the name takes as many
pub has_own_method : (declarations : List DeclTree) (class name : Name) (taking : Taking) (index count : ℕ)
    → meaning_of (spaces_of declarations).classes class ≡ Some taking
    → method_of declarations taking.declaration name ≡ Some index
    → takes_count declarations taking.declaration index count ≡ has_method declarations (PlainClass class) name count
unfolding has_method signatures_of_type takes_count method_of
has_own_method declarations class name taking index count known found =
    rw known (method_takes (slice_get declarations taking.declaration) name count index found)

-- it has none, if it has no method with the name
pub lacks_own_method : (declarations : List DeclTree) (class name : Name) (taking : Taking) (count : ℕ)
    → meaning_of (spaces_of declarations).classes class ≡ Some taking
    → method_of declarations taking.declaration name ≡ None
    → false ≡ has_method declarations (PlainClass class) name count
unfolding has_method signatures_of_type method_of
lacks_own_method declarations class name taking count known none =
    let declared = class_is_declared declarations class taking known in
    rw known (lacks_takes (slice_get declarations taking.declaration) declared.place declared.declared declared.params
    declared.implemented declared.members name count declared.there none)

-- there is none, if there is no class with the name
pub has_no_class : (declarations : List DeclTree) (class name : Name) (count : ℕ)
    → meaning_of (spaces_of declarations).classes class ≡ None
    → false ≡ has_method declarations (PlainClass class) name count
unfolding has_method signatures_of_type
has_no_class declarations class name count none = rw none refl

-- a test of the program of a checker is one of what it knows
pub known_method : {checker : Checker} (class method : Symbol) (count : ℕ) (reported : Bool)
    → reported ≡ has_method (declarations_of checker.table)
    (PlainClass (name_of checker.table.program.now.symbols class)) (name_of checker.table.program.now.symbols method)
    count → (context : Context) → Knows checker context
    → reported ≡ has_method context.declarations (PlainClass (name_of context.names class)) (name_of context.names method)
    count
unfolding context_in
known_method class method count reported is context knows = rw (← knows.is) is

-- what a checker knows of `this` is its class
pub this_known : {checker : Checker} (context : Context) → Knows checker context
    → context.frame.this ≡ option_map (name_of context.names) checker.this
unfolding context_in
this_known context knows = rw (← knows.is) refl

-- `this` has the methods of its class
pub this_has : {checker : Checker} (class method : Symbol) (count : ℕ) (reported : Bool) → checker.this ≡ Some class
    → ((context : Context) → Knows checker context → reported ≡ has_method context.declarations
    (PlainClass (name_of context.names class)) (name_of context.names method) count)
    → (context : Context) → Knows checker context
    → reported ≡ not (this_lacks_method context.declarations context.frame (name_of context.names method) count)
this_has class method count reported this has context knows =
    rw (this_known context knows, this) (has context knows ∙ sym (not-not _))

-- outside of a class there is none
pub this_lacks : {checker : Checker} (method : Symbol) (count : ℕ) → checker.this ≡ None → (context : Context)
    → Knows checker context
    → false ≡ not (this_lacks_method context.declarations context.frame (name_of context.names method) count)
this_lacks method count this context knows = rw (this_known context knows, this) refl
