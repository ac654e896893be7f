-- Which declarations hold objects: an interface does, and so does data in whose constructors is what does.
--
--   `Has`                          a list has a number
--   `marked_itself`                a node that is marked is one of those that reach a marked node
--   `marked_before`                so is a node from which an edge leads to one of these
--   `interface_is_holder`          an interface holds objects
--   `data_is_holder`               data in whose constructors is a declaration that holds objects does
use Rattle.std.proofs.Common.{◌≡◌, ℕ, zero, suc, ◌<◌, Bool, true, false, ◌&&◌, List, [], ◌∷◌, Some, sym, ap, ◌∙◌, subst, get_or, length, nat_eq, arith, eq-eqb, ⊎_elim}
use Rattle.std.specs.List.{list_any, range_with_len}
use Rattle.std.specs.Prelude.{slice_get}
use Rattle.std.proofs.lemmas.Bool.{and_from, and_parts, or_cases, or_left, or_right}
use Rattle.std.proofs.lemmas.List.{get_or-map, length-map}
use Rattle.std.proofs.lemmas.List.Folds.{list_any-append, list_any_at}
use Rattle.std.proofs.lemmas.List.FromFn.{get_or-map-range_with_len, get_or-range_with_len, length-range_with_len}
use Rattle.std.proofs.lemmas.Option.{none-some, same_Some, get_or_from_slice_get, slice_get_within}
use Rattle.abs_graph.specs.Graphs.{Graph, HasNodes, successors, leads, Reaches, reaches, is_marked, reaches_marked, reach_marked}
use Rattle.abs_graph.specs.Graphs.Reaches.{in_one, in_more}
use Rattle.abs_graph.proofs.CertificateLemmas.{lead_end}
use Rattle.abs_graph.proofs.ReachLemmas.{passing, some_passes, leads_below, reaches_found, reaches_whole}
use Rattle.abs_program.proofs.EdgeLemmas.{holdings_lead}
use Rattle.abs_program.specs.Holdings.{declarations_in_all, held_by_constructors, held_by, holdings, is_interface, are_interfaces, holders}
use Rattle.abs_program.specs.NamedDeclarations.{IsInterface}
use Rattle.abs_program.specs.NameSpaces.{NameSpaces, spaces_of}
use Rattle.abs_tree.specs.Syntax.{Name, DeclaredTree, ConstructorTree, DeclTree, DataTree, InterfaceTree}
use Rattle.abs_tree.specs.declared.place.Place.{Place}

-- a list has a number
abbrev pub Has : List ℕ → ℕ → Type 0
Has numbers number = list_any (λ other. nat_eq other number) numbers ≡ true

-- a number below a bound is one of those
has_below : (bound number : ℕ) → number < bound → Has (range_with_len 0 bound) number
has_below bound number below =
    list_any_at (λ other. nat_eq other number) (range_with_len 0 bound) number 0
    (omega (arith, below, length-range_with_len 0 bound))
    (eq-eqb (get_or (range_with_len 0 bound) number 0) number (get_or-range_with_len 0 bound number 0 below ∙ omega arith))

-- the answer for a node
answer_at : (graph : Graph) (marked : List Bool) (node : ℕ) → node < length graph
    → get_or (reach_marked graph marked) node false ≡ reaches_marked graph marked node
answer_at graph marked node there =
    get_or-map-range_with_len (reaches_marked graph marked) 0 (length graph) node node false there (omega arith)

-- a node reaches a marked one
reaching : (graph : Graph) (marked : List Bool) (node goal : ℕ) → Has (range_with_len 0 (length graph)) goal
    → is_marked marked goal ≡ true → Reaches graph goal node → reaches_marked graph marked node ≡ true
unfolding reaches_marked
reaching graph marked node goal there is far =
    or_right (is_marked marked node)
    (list_any (λ one. is_marked marked one && reaches graph node one) (range_with_len 0 (length graph)))
    (some_passes (λ one. is_marked marked one && reaches graph node one) goal (range_with_len 0 (length graph)) there
    (and_from (is_marked marked goal) (reaches graph node goal) is (reaches_whole graph node goal far)))

-- a node that is marked is one of those that reach a marked node
pub marked_itself : (graph : Graph) (marked : List Bool) (node : ℕ) → node < length graph
    → is_marked marked node ≡ true → get_or (reach_marked graph marked) node false ≡ true
unfolding reaches_marked
marked_itself graph marked node there is =
    answer_at graph marked node there
    ∙ or_left (is_marked marked node)
    (list_any (λ one. is_marked marked one && reaches graph node one) (range_with_len 0 (length graph))) is

-- a node from which an edge leads to a node that is marked or reaches a marked one reaches a marked one
step_reaching : (graph : Graph) (marked : List Bool) (node next : ℕ) → HasNodes graph → leads graph node next ≡ true
    → reaches_marked graph marked next ≡ true → reaches_marked graph marked node ≡ true
unfolding reaches_marked
step_reaching graph marked node next nodes led is = ⊎_elim
    (λ here. reaching graph marked node next (has_below (length graph) next (lead_end graph node next nodes led)) here
    (in_one node led))
    (λ there.
    let found = passing (λ one. is_marked marked one && reaches graph next one) (range_with_len 0 (length graph)) there in
    let both = and_parts (is_marked marked found.item) (reaches graph next found.item) found.passes in
    reaching graph marked node found.item found.had both.0
    (in_more node next led (reaches_found graph next found.item both.1)))
    (or_cases (is_marked marked next)
    (list_any (λ one. is_marked marked one && reaches graph next one) (range_with_len 0 (length graph))) is)

-- so such a node is one of those too
pub marked_before : (graph : Graph) (marked : List Bool) (node next : ℕ) → HasNodes graph
    → leads graph node next ≡ true → get_or (reach_marked graph marked) next false ≡ true
    → get_or (reach_marked graph marked) node false ≡ true
marked_before graph marked node next nodes led is =
    answer_at graph marked node (leads_below graph node next led)
    ∙ step_reaching graph marked node next nodes led
    (sym (answer_at graph marked next (lead_end graph node next nodes led)) ∙ is)

-- an interface holds objects
pub interface_is_holder : (declarations : List DeclTree) (name : Name) (index : ℕ)
    → IsInterface declarations name index → get_or (holders declarations) index false ≡ true
unfolding holders
interface_is_holder declarations name index own =
    let within = slice_get_within declarations index _ own.there in
    let declaration = InterfaceTree own.place own.declared own.extended own.signatures in
    marked_itself (holdings declarations) (are_interfaces declarations) index
    (omega (arith, within, length-map declarations (held_by (spaces_of declarations))))
    (get_or-map is_interface declarations index declaration false within
    ∙ ap is_interface (get_or_from_slice_get declarations index declaration declaration own.there))

-- what is in the types of a constructor is in those of the constructors
constructor_has : (spaces : NameSpaces) (constructors : List ConstructorTree) (index : ℕ)
    (constructor : ConstructorTree) (node : ℕ) → slice_get constructors index ≡ Some constructor
    → Has (declarations_in_all spaces constructor.types) node → Has (held_by_constructors spaces constructors) node
constructor_has spaces [] index constructor node there had = absurd (none-some constructor there)
constructor_has spaces (first ∷ others) zero constructor node there had =
    list_any-append (λ other. nat_eq other node) (declarations_in_all spaces first.types)
    (held_by_constructors spaces others)
    ∙ or_left (list_any (λ other. nat_eq other node) (declarations_in_all spaces first.types))
    (list_any (λ other. nat_eq other node) (held_by_constructors spaces others))
    (subst (λ (one : ConstructorTree). Has (declarations_in_all spaces one.types) node)
    (sym (same_Some first constructor there)) had)
constructor_has spaces (first ∷ others) (suc index) constructor node there had =
    list_any-append (λ other. nat_eq other node) (declarations_in_all spaces first.types)
    (held_by_constructors spaces others)
    ∙ or_right (list_any (λ other. nat_eq other node) (declarations_in_all spaces first.types))
    (list_any (λ other. nat_eq other node) (held_by_constructors spaces others))
    (constructor_has spaces others index constructor node there had)

-- data in whose constructors is a declaration that holds objects does
pub data_is_holder : (declarations : List DeclTree) (declaration : ℕ) (place : Place) (declared : DeclaredTree)
    (type_params : List DeclaredTree) (constructors : List ConstructorTree) (index : ℕ)
    (constructor : ConstructorTree) (node : ℕ)
    → slice_get declarations declaration ≡ Some (DataTree place declared type_params constructors)
    → slice_get constructors index ≡ Some constructor
    → Has (declarations_in_all (spaces_of declarations) constructor.types) node
    → get_or (holders declarations) node false ≡ true → get_or (holders declarations) declaration false ≡ true
unfolding holders
data_is_holder declarations declaration place declared type_params constructors index constructor node there among had
    held =
    let spaces = spaces_of declarations in
    let own = DataTree place declared type_params constructors in
    let row : successors (holdings declarations) declaration ≡ held_by_constructors spaces constructors =
    get_or-map (held_by spaces) declarations declaration own [] (slice_get_within declarations declaration own there)
    ∙ ap (held_by spaces) (get_or_from_slice_get declarations declaration own own there) in
    marked_before (holdings declarations) (are_interfaces declarations) declaration node (holdings_lead declarations)
    (ap (list_any (λ other. nat_eq other node)) row ∙ constructor_has spaces constructors index constructor node among had)
    held
