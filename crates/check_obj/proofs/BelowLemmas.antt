-- What is above a declaration is an interface.
--
--   `IsInterfaceAt`            an interface is declared at an index
--   `below_is_interface`       it is so at the index of what a declaration is below
use Rattle.std.proofs.Common.{◌≡◌, ℕ, zero, suc, Bool, true, false, List, [], ◌∷◌, Option, Some, None, get_or, map, nat_eq, refl, sym, subst, ◌∙◌, true≢false, eqb-true, ⊎_elim}
use Rattle.std.specs.List.{list_any}
use Rattle.std.proofs.lemmas.Bool.{or_cases}
use Rattle.std.proofs.lemmas.List.Folds.{list_any-append}
use Rattle.abs_graph.proofs.ReachLemmas.{reaches_found}
use Rattle.abs_graph.specs.Graphs.{Reaches}
use Rattle.abs_graph.specs.Graphs.Reaches.{in_one, in_more}
use Rattle.abs_program.proofs.DeclaredLemmas.{interface_is_declared}
use Rattle.abs_program.specs.NamedDeclarations.{IsInterface}
use Rattle.abs_program.specs.NameSpaces.{spaces_of}
use Rattle.abs_program.specs.Supertypes.{above, interface_of, interfaces_named, is_below, supertypes}
use Rattle.abs_tree.specs.Syntax.{Name, DeclaredTree, DeclTree, DataTree, FunctionTree, InterfaceTree, ClassTree}
use Rattle.abs_program.specs.Tables.{meaning_of}
use Rattle.abs_program.specs.declared.name_spaces.TypeMeaning.{TypeMeaning}
use Rattle.abs_program.specs.declared.name_spaces.TypeMeaning.TheVariants as type

-- An interface is declared at an index.
pub record IsInterfaceAt (declarations : List DeclTree) (index : ℕ) : Type 0 where
  pub name : Name
  pub is : IsInterface declarations name index

-- whether an index is among others
abbrev has : List ℕ → ℕ → Bool
has indices index = list_any (λ (other : ℕ). nat_eq other index) indices

-- the interface that a name stands for is one
meant_is : (declarations : List DeclTree) (name : Name) (index : ℕ) (meaning : Option TypeMeaning)
    → meaning_of (spaces_of declarations).types name ≡ meaning → has (interface_of meaning) index ≡ true
    → IsInterfaceAt declarations index
meant_is declarations name index None known reported = absurd (true≢false (sym reported))
meant_is declarations name index (Some (type.Interface own)) known reported =
    ⊎_elim
    (λ same. subst (IsInterfaceAt declarations) (eqb-true own index same)
    (record { name = name; is = interface_is_declared declarations name own known }))
    (λ none. absurd (true≢false (sym none)))
    (or_cases (nat_eq own index) false reported)
meant_is declarations name index (Some (type.Data taking)) known reported = absurd (true≢false (sym reported))
meant_is declarations name index (Some type.Int) known reported = absurd (true≢false (sym reported))
meant_is declarations name index (Some type.String) known reported = absurd (true≢false (sym reported))
meant_is declarations name index (Some type.Fut) known reported = absurd (true≢false (sym reported))

-- so is each of those that names stand for
named_are : (declarations : List DeclTree) (names : List DeclaredTree) (index : ℕ)
    → has (interfaces_named (spaces_of declarations) names) index ≡ true → IsInterfaceAt declarations index
named_are declarations [] index reported = absurd (true≢false (sym reported))
named_are declarations (name ∷ others) index reported =
    let own = interface_of (meaning_of (spaces_of declarations).types name.name) in
    let more = interfaces_named (spaces_of declarations) others in
    ⊎_elim
    (λ here. meant_is declarations name.name index (meaning_of (spaces_of declarations).types name.name) refl here)
    (λ there. named_are declarations others index there)
    (or_cases (has own index) (has more index)
    (sym (list_any-append (λ (other : ℕ). nat_eq other index) own more) ∙ reported))

-- so is each of those above a declaration in one step
above_are : (declarations : List DeclTree) (declaration : DeclTree) (index : ℕ)
    → has (above (spaces_of declarations) declaration) index ≡ true → IsInterfaceAt declarations index
above_are declarations (InterfaceTree place name extended signatures) index reported =
    named_are declarations extended index reported
above_are declarations (ClassTree place name params implemented members) index reported =
    named_are declarations implemented index reported
above_are declarations (DataTree place name type_params constructors) index reported = absurd (true≢false (sym reported))
above_are declarations (FunctionTree place result name type_params params value) index reported =
    absurd (true≢false (sym reported))

-- so is each of those to which an edge leads from a declaration of several
rows_are : (declarations rows : List DeclTree) (node index : ℕ)
    → has (get_or (map (above (spaces_of declarations)) rows) node []) index ≡ true → IsInterfaceAt declarations index
rows_are declarations [] node index reported = absurd (true≢false (sym reported))
rows_are declarations (first ∷ others) zero index reported = above_are declarations first index reported
rows_are declarations (first ∷ others) (suc node) index reported = rows_are declarations others node index reported

-- so is each that is reached
reached_is : {declarations : List DeclTree} {index node : ℕ} → Reaches (supertypes declarations) index node
    → IsInterfaceAt declarations index
reached_is {declarations} {index} (in_one node led) = rows_are declarations declarations node index led
reached_is {declarations} {index} (in_more node next led later) = reached_is later

-- what a declaration is below is an interface
pub below_is_interface : (declarations : List DeclTree) (one other : ℕ) → is_below declarations one other ≡ true
    → IsInterfaceAt declarations other
unfolding is_below
below_is_interface declarations one other reported = reached_is (reaches_found (supertypes declarations) one other reported)
