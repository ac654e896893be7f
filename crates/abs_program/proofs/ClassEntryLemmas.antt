-- What new objects of classes take: the initial values of fields, and the method that runs at once.
--
--   `is_unit-data`             whether a type with a name and arguments is Unit
--   `InitialsSoFar`            the initial values of the first members were found
--   `field_found`, ..          those of one more member were, and those of all
--   `RunSoFar`                 the first members are no methods `run`
--   `run_found`                the next one is
--   `entries_are`              all declarations have their entries
use Rattle.std.proofs.Common.{◌≡◌, ℕ, suc, ◌+◌, ◌<◌, ◌≤◌, Bool, true, false, ◌&&◌, List, [], ◌∷◌, ◌++◌, Some, None, refl, sym, ap, ◌∙◌, arith, codes, length, get_or, drop, map, nat_eq}
use Rattle.std.specs.Prelude.{Option, option_and_then, slice_get, if◌then◌else◌}
use Rattle.std.specs.Bool.{then_some}
use Rattle.std.specs.Option.{option_map}
use Rattle.std.specs.Str.{bytes_eq}
use Rattle.std.specs.declared.alloc.Global.{Global}
use Rattle.std.specs.declared.sync.Arc.{Arc}
use Rattle.std.specs.declared.vec.Vec.{Vec}
use Rattle.std.proofs.lemmas.Bool.Decides.{nat_tests}
use Rattle.std.proofs.lemmas.List.{drop_all}
use Rattle.std.proofs.lemmas.Option.{slice_get-map, slice_get_read}
use Rattle.abs_tree.proofs.SyntaxLemmas.{type_tree-data}
use Rattle.abs_program.specs.Bodies.{initial_of, initials_among, is_unit, starts_alone, if_alone, run_among, entry_of_class, class_entry, ClassEntryTree}
use Rattle.abs_program.specs.BodyRows.{is_called}
use Rattle.abs_program.specs.InstructionViews.{shared_expr_trees, class_entry_tree}
use Rattle.abs_program.specs.KeptControl.{class_in}
use Rattle.abs_program.specs.Members.{method_among}
use Rattle.abs_tree.specs.Names.{name_of}
use Rattle.abs_tree.specs.Syntax.{Name, ExprTree, ExprTrees, NoExpr, NextExpr, MemberTree, FieldTree, MethodTree, DeclTree, DataType}
use Rattle.abs_tree.specs.SyntaxViews.{type_tree, type_trees, expr_tree, declared, maybe_expr, member_tree}
use Rattle.abs_tree.specs.declared.place.Place.{Place}
use Rattle.abs_tree.specs.declared.symbol.Symbol.{Symbol}
use Rattle.abs_tree.specs.declared.syntax.declaration.Body.{Body}
use Rattle.abs_tree.specs.declared.syntax.declaration.Declared.{Declared}
use Rattle.abs_tree.specs.declared.syntax.declaration.Member.{Member}
use Rattle.abs_tree.specs.declared.syntax.declaration.Member.TheVariants.{Field, Method}
use Rattle.abs_tree.specs.declared.syntax.declaration.Signature.{Signature}
use Rattle.abs_tree.specs.declared.syntax.expression.Expr.{Expr}
use Rattle.abs_tree.specs.declared.syntax.types.TypeTerm as code_type
use Rattle.abs_tree.specs.declared.syntax.types.TypeTerm.{TypeTerm}
use Rattle.abs_program.specs.declared.tables.control.ClassEntry.{ClassEntry}
use Rattle.list_facts.proofs.EntryLemmas.{drop_item}
use Rattle.list_facts.proofs.MapLemmas.{look_up-map}

-- a list with a first item is not empty
not_empty : (count : ℕ) → false ≡ nat_eq (suc count) 0
not_empty count = grind (arith, nat_tests)

-- a type with a name and arguments is Unit if it has no argument and that name
unit_of-arguments : (names : List Name) (place : Place) (name : List ℕ) (arguments : List TypeTerm)
    → is_unit (DataType place name (type_trees names arguments))
    ≡ (nat_eq (length arguments) 0 && bytes_eq name (codes "Unit"))
unit_of-arguments names place name [] = refl
unit_of-arguments names place name (first ∷ others) =
    ap (λ (empty : Bool). empty && bytes_eq name (codes "Unit")) (not_empty (length others))

-- so is the code's type
pub is_unit-data : (names : List Name) (term : TypeTerm) (place : Place) (name : Symbol)
    (arguments : Vec TypeTerm Global) → term ≡ code_type.Data place name arguments
    → is_unit (type_tree names term)
    ≡ (nat_eq (length arguments.items) 0 && bytes_eq (name_of names name) (codes "Unit"))
is_unit-data names term place name arguments is =
    ap (λ (one : TypeTerm). is_unit (type_tree names one)) is
    ∙ (ap is_unit (type_tree-data names place name arguments)
    ∙ unit_of-arguments names place (name_of names name) arguments.items)

-- shared expressions, followed by others
abbrev pub shared_before : List Name → List (Arc Expr Global) → ExprTrees → ExprTrees
shared_before names [] rest = rest
shared_before names (expr ∷ others) rest = NextExpr (expr_tree names expr.value) (shared_before names others rest)

-- one more shared expression comes before the rest
shared_before-push : (names : List Name) (exprs : List (Arc Expr Global)) (expr : Arc Expr Global) (rest : ExprTrees)
    → shared_before names (exprs ++ expr ∷ []) rest
    ≡ shared_before names exprs (NextExpr (expr_tree names expr.value) rest)
shared_before-push names [] expr rest = refl
shared_before-push names (first ∷ others) expr rest =
    ap (NextExpr (expr_tree names first.value)) (shared_before-push names others expr rest)

-- nothing follows
shared_before-none : (names : List Name) (exprs : List (Arc Expr Global))
    → shared_before names exprs NoExpr ≡ shared_expr_trees names exprs
shared_before-none names [] = refl
shared_before-none names (first ∷ others) = ap (NextExpr (expr_tree names first.value)) (shared_before-none names others)

-- the initial value of a member, if it is a field, before others
abbrev own_initial : List Name → Member → ExprTrees → ExprTrees
own_initial names (Field type name initial) rest =
    NextExpr (initial_of (declared names name) (maybe_expr names initial)) rest
own_initial names (Method signature body) rest = rest

-- The initial values of the members before a place were found: those of the rest follow.
pub record InitialsSoFar (members : List Member) (place : ℕ) (found : List (Arc Expr Global)) : Type 0 where
  pub so_far : (names : List Name)
      → shared_before names found (initials_among (map (member_tree names) (drop place members)))
      ≡ initials_among (map (member_tree names) members)

-- the initial values of a member and of those after it
initials_next : (names : List Name) (member : Member) (others : List MemberTree)
    → initials_among (member_tree names member ∷ others) ≡ own_initial names member (initials_among others)
initials_next names (Field type name initial) others = refl
initials_next names (Method signature body) others = refl

-- one more member was looked at
initials_step : {members : List Member} {place : ℕ} {found after : List (Arc Expr Global)} (member : Member)
    → InitialsSoFar members place found → place < length members → member ≡ get_or members place member
    → ((names : List Name) (rest : ExprTrees)
    → shared_before names after rest ≡ shared_before names found (own_initial names member rest))
    → InitialsSoFar members (place + 1) after
initials_step {members} {place} {found} {after} member before there is added = record {
  so_far = λ names.
      let tree = member_tree names in
      let rest = map tree (drop (place + 1) members) in
      added names (initials_among rest)
      ∙ (ap (shared_before names found) (sym (initials_next names member rest))
      ∙ (ap (λ (left : List Member). shared_before names found (initials_among (map tree left)))
      (sym (drop_item members place member there is))
      ∙ before.so_far names));
}

-- it is a field
pub field_found : {members : List Member} {place : ℕ} {found after : List (Arc Expr Global)} (member : Member)
    (type : TypeTerm) (name : Declared) (initial : Option (Arc Expr Global)) (value : Arc Expr Global)
    → InitialsSoFar members place found → place < length members → member ≡ get_or members place member
    → member ≡ Field type name initial
    → ((names : List Name) → expr_tree names value.value ≡ initial_of (declared names name) (maybe_expr names initial))
    → after ≡ found ++ value ∷ [] → InitialsSoFar members (place + 1) after
field_found {members} {place} {found} {after} member type name initial value before there is field has added =
    initials_step member before there is (λ names rest.
    ap (λ (exprs : List (Arc Expr Global)). shared_before names exprs rest) added
    ∙ (shared_before-push names found value rest
    ∙ (ap (λ (own : ExprTree). shared_before names found (NextExpr own rest)) (has names)
    ∙ sym (ap (λ (one : Member). shared_before names found (own_initial names one rest)) field))))

-- it is a method
pub method_passed : {members : List Member} {place : ℕ} {found after : List (Arc Expr Global)} (member : Member)
    (signature : Signature) (body : Body) → InitialsSoFar members place found → place < length members
    → member ≡ get_or members place member → member ≡ Method signature body → after ≡ found
    → InitialsSoFar members (place + 1) after
method_passed {members} {place} {found} {after} member signature body before there is method same =
    initials_step member before there is (λ names rest.
    ap (λ (exprs : List (Arc Expr Global)). shared_before names exprs rest) same
    ∙ sym (ap (λ (one : Member). shared_before names found (own_initial names one rest)) method))

-- all members were looked at
pub initials_done : {members : List Member} {place : ℕ} {found : List (Arc Expr Global)} (names : List Name)
    → InitialsSoFar members place found → length members ≤ place
    → shared_expr_trees names found ≡ initials_among (map (member_tree names) members)
initials_done {members} {place} {found} names before over =
    sym (shared_before-none names found)
    ∙ (ap (λ (left : List Member). shared_before names found (initials_among (map (member_tree names) left)))
    (sym (drop_all place members over))
    ∙ before.so_far names)

-- The members before a place are no methods `run`: the first such method is one of the rest.
pub record RunSoFar (names : List Name) (members : List Member) (place : ℕ) : Type 0 where
  pub so_far : method_among place (map (member_tree names) (drop place members)) (codes "run")
      ≡ method_among 0 (map (member_tree names) members) (codes "run")

-- the first method with a name is the first member, if that is one, or else one of the others
among_others : (index : ℕ) (member : MemberTree) (others : List MemberTree) (name : Name)
    → method_among index (member ∷ others) name
    ≡ (if is_called name member then Some index else method_among (index + 1) others name)
among_others index (FieldTree type own initial) others name = refl
among_others index (MethodTree signature end body) others name = refl

-- the method `run` is at a place or after it
run_from : {names : List Name} {members : List Member} {place : ℕ} (member : Member) → RunSoFar names members place
    → place < length members → member ≡ get_or members place member
    → (if is_called (codes "run") (member_tree names member) then Some place
    else method_among (place + 1) (map (member_tree names) (drop (place + 1) members)) (codes "run"))
    ≡ method_among 0 (map (member_tree names) members) (codes "run")
run_from {names} {members} {place} member before there is =
    let tree = member_tree names in
    sym (among_others place (tree member) (map tree (drop (place + 1) members)) (codes "run"))
    ∙ (ap (λ (left : List Member). method_among place (map tree left) (codes "run"))
    (sym (drop_item members place member there is))
    ∙ before.so_far)

-- an index, if a test holds
then_some_if : (b : Bool) (index : ℕ) → then_some b index ≡ (if b then Some index else None)
then_some_if true index = refl
then_some_if false index = refl

-- a member is `run`: it makes the class active, if it starts alone
pub run_found : {names : List Name} {members : List Member} {place : ℕ} {starts : Bool} (member : Member)
    → RunSoFar names members place → place < length members → member ≡ get_or members place member
    → is_called (codes "run") (member_tree names member) ≡ true → starts ≡ starts_alone (member_tree names member)
    → then_some starts place ≡ run_among (map (member_tree names) members)
run_found {names} {members} {place} {starts} member before there is called reported =
    let tree = member_tree names in
    let at : Some place ≡ method_among 0 (map tree members) (codes "run") =
    rw called at (run_from member before there is) in
    let own : slice_get (map tree members) place ≡ Some (tree member) =
    slice_get-map tree members place
    ∙ ap (option_map tree) (slice_get_read members (length members) place member refl there is) in
    then_some_if starts place
    ∙ (ap (λ (b : Bool). if b then Some place else None) reported
    ∙ (ap (if_alone place) (sym own)
    ∙ ap (option_and_then (λ (index : ℕ). if_alone index (slice_get (map tree members) index))) at))

-- all declarations have their entries, and so each is found
pub entries_are : (names : List Name) (declarations : List DeclTree) (entries : List (Option ClassEntry)) (class : ℕ)
    → map (option_map (class_entry_tree names)) entries ≡ map entry_of_class declarations
    → class_in names entries class ≡ class_entry declarations class
unfolding class_in class_entry
entries_are names declarations entries class same =
    let find = λ (found : Option ClassEntryTree). found in
    look_up-map (option_map (class_entry_tree names)) find entries class
    ∙ (ap (λ (all : List (Option ClassEntryTree)). option_and_then find (slice_get all class)) same
    ∙ sym (look_up-map entry_of_class find declarations class))
