-- The entries of bodies: where a body begins, and how the rows of entries answer.
--
--   `entry-begins`             where control is before statements
--   `entry_made`               the entry of a body, from what was found of it
--   `EachPassed`               the first items of a list were passed
--   `each_start`, ..           no item was, one more was, all were
--   `class_passed`             a class is passed with its members
--   `entries_found`            each entry of a method is found in the rows
--   `main_found`               so is the entry of the main block
use Rattle.std.proofs.Common.{◌≡◌, ℕ, zero, suc, ◌+◌, ◌<◌, ◌≤◌, List, [], ◌∷◌, ◌++◌, All, Some, None, refl, sym, ap, ◌∙◌, subst, arith, length, get_or, drop, map, nat_eq, nat_lt, append_assoc}
use Rattle.std.specs.Bool.{then_some}
use Rattle.std.specs.Prelude.{Option, option_and_then, slice_get, if◌then◌else◌}
use Rattle.std.specs.declared.alloc.Global.{Global}
use Rattle.std.specs.declared.vec.Vec.{Vec}
use Rattle.std.proofs.lemmas.Bool.Decides.{nat_tests}
use Rattle.std.proofs.lemmas.List.{append-nil, drop_all}
use Rattle.std.proofs.lemmas.List.Elements.{All-get_or}
use Rattle.abs_program.specs.Bodies.{main_entry, member_entry, entry_in_class, method_entry}
use Rattle.abs_program.specs.BodyRows.{found_at_each, index_after, IsPassed, ArePassed, entry_of_member, statements_of_member, row_of_declaration, statements_of_declaration, entry_with}
use Rattle.abs_program.specs.Control.{entry, entry_of}
use Rattle.abs_program.specs.KeptControl.{method_in}
use Rattle.abs_program.specs.SlotViews.{BodyHasSlots}
use Rattle.abs_tree.specs.Syntax.{Name, ParamTree, DeclaredTree, Statement, BlockOf, IfOf, WhileOf, Statements, NoStatement, NextStatement, MemberTree, FieldTree, MethodTree, DeclTree, DataTree, FunctionTree, InterfaceTree, ClassTree, SourceTree}
use Rattle.abs_tree.specs.SyntaxSizes.{count_of, count_of_else, statement_count, member_statements, decl_statements}
use Rattle.abs_tree.specs.SyntaxViews.{statements}
use Rattle.abs_tree.specs.declared.place.Place.{Place}
use Rattle.abs_tree.specs.declared.syntax.declaration.Body.{Body}
use Rattle.abs_program.specs.declared.tables.control.BodyEntry.{BodyEntry}
use Rattle.list_facts.proofs.EntryLemmas.{drop_item}
use Rattle.list_facts.proofs.MapLemmas.{look_up-map}

-- where control is before so many statements, the first of which has this index: at the first one, if there is one
abbrev pub begin : ℕ → Option ℕ → ℕ → Option ℕ
begin index after count = if nat_eq count 0 then after else Some index

-- control is at the first of several statements, before others
begin-both : (index : ℕ) (after : Option ℕ) (one other : ℕ)
    → begin index (begin (index + one) after other) one ≡ begin index after (one + other)
begin-both index after one other = grind (arith, nat_tests)

-- control is at a first one, if there is one
begin-some : (index : ℕ) (after : Option ℕ) (count : ℕ) → 0 < count → Some index ≡ begin index after count
begin-some index after count there = grind (arith, nat_tests)

mutual
  unfolding entry

  -- before statements control is at the first index, if one of them has an index
  pub entry-begins : (index : ℕ) (statements : Statements) (after : Option ℕ)
      → entry index statements after ≡ begin index after (statement_count statements)
  entry-begins index NoStatement after = refl
  entry-begins index (NextStatement first others) after =
      let next = index + count_of first in
      entry_of-begins index first (entry next others after)
      ∙ (ap (λ (later : Option ℕ). begin index later (count_of first)) (entry-begins next others after)
      ∙ begin-both index after (count_of first) (statement_count others))

  -- before a statement it is too
  entry_of-begins : (index : ℕ) (statement : Statement) (after : Option ℕ)
      → entry_of index statement after ≡ begin index after (count_of statement)
  entry_of-begins index (BlockOf place block) after = entry-begins index block after
  entry_of-begins index (IfOf own place condition first second) after =
      begin-some index after (1 + statement_count first + count_of_else second) (omega arith)
  entry_of-begins index (WhileOf own place condition body) after =
      begin-some index after (1 + statement_count body) (omega arith)
  entry_of-begins index statement after = refl

-- the first index of a body, if the index after it is another one
first_begins : (index next count : ℕ) → next ≡ index + count
    → then_some (nat_lt index next) index ≡ begin index None count
first_begins index next count is = grind (arith, nat_tests)

-- an entry from its parts
abbrev entry_of_parts : Option ℕ → ℕ → ℕ → BodyEntry
entry_of_parts first slots params = record { first = first; slots = slots; params = params }

-- entries are the same if their parts are
same_entry : (one other : BodyEntry) → one.first ≡ other.first → one.slots ≡ other.slots → one.params ≡ other.params
    → one ≡ other
same_entry one other first slots params =
    ap (λ (found : Option ℕ). entry_of_parts found one.slots one.params) first
    ∙ (ap (λ (count : ℕ). entry_of_parts other.first count one.params) slots
    ∙ ap (entry_of_parts other.first other.slots) params)

-- the entry of a body, from what was found of it
pub entry_made : {params index next : ℕ} (names : List Name) (body : Body) (found : BodyEntry)
    → BodyHasSlots names params body
    → next ≡ index + statement_count (statements names body.statements.items)
    → found.first ≡ then_some (nat_lt index next) index → found.slots ≡ length body.slots.items
    → found.params ≡ params
    → IsPassed (entry_with params) statement_count index (statements names body.statements.items) next found
entry_made {params} {index} {next} names body found has next_is first_is slots_are params_are =
    let tree = statements names body.statements.items in
    record {
      found_is = same_entry found (entry_with params index tree)
          (first_is ∙ (first_begins index next (statement_count tree) next_is ∙ sym (entry-begins index tree None)))
          (slots_are ∙ ap length has.are) params_are;
      next_is = next_is;
    }

-- The items up to some rest were passed.
record PassedSoFar {A B : Type 0} (find : ℕ → A → B) (count : A → ℕ) (start : ℕ) (all rest : List A) (index : ℕ)
    (found : List B) : Type 0 where
  found_so_far : found ++ found_at_each find count index rest ≡ found_at_each find count start all
  index_so_far : index_after count index rest ≡ index_after count start all

-- one more item was passed
passed_more : {A B : Type 0} {find : ℕ → A → B} {count : A → ℕ} {start index next : ℕ} {all : List A}
    {found : List B} (item : A) (rest : List A) (one : B)
    → PassedSoFar find count start all (item ∷ rest) index found → IsPassed find count index item next one
    → PassedSoFar find count start all rest next (found ++ one ∷ [])
passed_more {A} {B} {find} {count} {start} {index} {next} {all} {found} item rest one before passed =
    let later : ℕ → List B = λ at. found_at_each find count at rest in
    record {
      found_so_far =
          append_assoc found (one ∷ []) (later next)
          ∙ (ap (λ (this : B). found ++ this ∷ later next) passed.found_is
          ∙ (ap (λ (at : ℕ). found ++ find index item ∷ later at) passed.next_is ∙ before.found_so_far));
      index_so_far = ap (λ (at : ℕ). index_after count at rest) passed.next_is ∙ before.index_so_far;
    }

-- The items of code before a place were passed, if all of them are as they have to be.
pub record EachPassed {X A B : Type 0} (IsFit : List Name → X → Type 0) (tree : List Name → X → A) (find : ℕ → A → B)
    (count : A → ℕ) (items : List X) (start place index : ℕ) (found : List B) : Type 0 where
  so_far : (names : List Name) → All (IsFit names) items → PassedSoFar find count start (map (tree names) items)
      (map (tree names) (drop place items)) index found

-- no item was passed
pub each_start : {X A B : Type 0} {IsFit : List Name → X → Type 0} {tree : List Name → X → A} {find : ℕ → A → B}
    {count : A → ℕ} {start : ℕ} {found : List B} (items : List X) → found ≡ []
    → EachPassed IsFit tree find count items start 0 start found
each_start {X} {A} {B} {IsFit} {tree} {find} {count} {start} {found} items none = record {
  so_far = λ names fit. record {
    found_so_far = ap (λ (row : List B). row ++ found_at_each find count start (map (tree names) items)) none;
    index_so_far = refl;
  };
}

-- one more item was passed
pub each_step : {X A B : Type 0} {IsFit : List Name → X → Type 0} {tree : List Name → X → A} {find : ℕ → A → B}
    {count : A → ℕ} {items : List X} {start place index next : ℕ} {found after : List B} (item : X) (one : B)
    → EachPassed IsFit tree find count items start place index found → place < length items
    → item ≡ get_or items place item
    → ((names : List Name) → IsFit names item → IsPassed find count index (tree names item) next one)
    → after ≡ found ++ one ∷ []
    → EachPassed IsFit tree find count items start (place + 1) next after
each_step {X} {A} {B} {IsFit} {tree} {find} {count} {items} {start} {place} {index} {next} {found} {after} item one
    before there is passed added =
    let left_from = λ (names : List Name) (left : List X).
    PassedSoFar find count start (map (tree names) items) (map (tree names) left) index found in
    record {
      so_far = λ names fit.
          let rest = map (tree names) (drop (place + 1) items) in
          let own = subst (IsFit names) (sym is) (All-get_or (IsFit names) items place item there fit) in
          let here = subst (left_from names) (drop_item items place item there is) (before.so_far names fit) in
          subst (PassedSoFar find count start (map (tree names) items) rest next) (sym added)
          (passed_more (tree names item) rest one here (passed names own));
    }

-- all items were passed
pub each_done : {X A B : Type 0} {IsFit : List Name → X → Type 0} {tree : List Name → X → A} {find : ℕ → A → B}
    {count : A → ℕ} {items : List X} {start place index : ℕ} {found : List B} (names : List Name)
    → All (IsFit names) items → EachPassed IsFit tree find count items start place index found → length items ≤ place
    → ArePassed find count start (map (tree names) items) index found
each_done {X} {A} {B} {IsFit} {tree} {find} {count} {items} {start} {place} {index} {found} names fit before over =
    let all = map (tree names) items in
    let last = subst (λ (left : List X). PassedSoFar find count start all (map (tree names) left) index found)
    (drop_all place items over) (before.so_far names fit) in
    record { found_are = sym (append-nil found) ∙ last.found_so_far; next_is = last.index_so_far }

-- the index after all members of a class comes after its statements
members_after : (index : ℕ) (members : List MemberTree)
    → index_after statements_of_member index members ≡ index + member_statements members
members_after index [] = omega arith
members_after index (FieldTree type name initial ∷ others) = members_after (index + 0) others ∙ omega arith
members_after index (MethodTree signature end body ∷ others) =
    members_after (index + (statement_count body + 0)) others ∙ omega arith

-- the row of a class is passed with its members
pub class_passed : {index next : ℕ} {found : List (Option BodyEntry)} (place : Place) (name : DeclaredTree)
    (params : List ParamTree) (implemented : List DeclaredTree) (members : List MemberTree)
    → ArePassed entry_of_member statements_of_member index members next found
    → IsPassed row_of_declaration statements_of_declaration index (ClassTree place name params implemented members) next
    found
class_passed {index} {next} {found} place name params implemented members passed =
    let count = members_after index members in
    record { found_is = passed.found_are; next_is = passed.next_is ∙ omega (arith, count) }

-- the statements of declarations are those of the first one and of the others
decl_statements-next : (first : DeclTree) (others : List DeclTree)
    → decl_statements (first ∷ others) ≡ statements_of_declaration first + decl_statements others
decl_statements-next (ClassTree place name params implemented members) others = omega arith
decl_statements-next (DataTree place name type_params constructors) others = omega arith
decl_statements-next (FunctionTree place result name type_params params value) others = omega arith
decl_statements-next (InterfaceTree place name extended signatures) others = omega arith

-- the index after all declarations comes after their statements
declarations_after : (index : ℕ) (declarations : List DeclTree)
    → index_after statements_of_declaration index declarations ≡ index + decl_statements declarations
declarations_after index [] = omega arith
declarations_after index (first ∷ others) =
    declarations_after (index + statements_of_declaration first) others
    ∙ omega (arith, decl_statements-next first others)

-- an entry in the row of members
entry_in_row : (index : ℕ) (members : List MemberTree) (member : ℕ)
    → option_and_then (λ (found : Option BodyEntry). found)
    (slice_get (found_at_each entry_of_member statements_of_member index members) member)
    ≡ member_entry index members member
entry_in_row index [] member = refl
entry_in_row index (FieldTree type name initial ∷ others) zero = refl
entry_in_row index (FieldTree type name initial ∷ others) (suc member) = entry_in_row (index + 0) others member
entry_in_row index (MethodTree signature end body ∷ others) zero = refl
entry_in_row index (MethodTree signature end body ∷ others) (suc member) =
    entry_in_row (index + statements_of_member (MethodTree signature end body)) others member

-- an entry in the row of a class, by the member
abbrev in_row : ℕ → List (Option BodyEntry) → Option BodyEntry
in_row member row = option_and_then (λ (found : Option BodyEntry). found) (slice_get row member)

-- the entries in a row of the code
abbrev pub items_of : Vec (Option BodyEntry) Global → List (Option BodyEntry)
items_of row = row.items

-- an entry in the rows of declarations
entry_in_rows : (index : ℕ) (declarations : List DeclTree) (class member : ℕ)
    → option_and_then (in_row member)
    (slice_get (found_at_each row_of_declaration statements_of_declaration index declarations) class)
    ≡ entry_in_class index declarations class member
entry_in_rows index [] class member = refl
entry_in_rows index (ClassTree place name params implemented members ∷ others) zero member =
    entry_in_row index members member
entry_in_rows index (first ∷ others) zero member = refl
entry_in_rows index (first ∷ others) (suc class) member =
    entry_in_rows (index + statements_of_declaration first) others class member

-- all rows are there, and so each entry is found
pub entries_found : {declarations : List DeclTree} {next : ℕ} (rows : List (Vec (Option BodyEntry) Global))
    (class member : ℕ)
    → ArePassed row_of_declaration statements_of_declaration 0 declarations next (map items_of rows)
    → method_in rows class member ≡ method_entry declarations class member
unfolding method_in method_entry
entries_found {declarations} {next} rows class member passed =
    look_up-map items_of (in_row member) rows class
    ∙ (ap (λ (found : List (List (Option BodyEntry))). option_and_then (in_row member) (slice_get found class))
    passed.found_are
    ∙ entry_in_rows 0 declarations class member)

-- all declarations were passed, and so the main block begins after them
pub main_found : {index next : ℕ} {rows : List (List (Option BodyEntry))} {found : BodyEntry} (source : SourceTree)
    → ArePassed row_of_declaration statements_of_declaration 0 source.declarations index rows
    → IsPassed (entry_with 0) statement_count index source.main next found
    → found ≡ main_entry source
main_found {index} {next} {rows} {found} source rows_passed passed =
    let after = declarations_after 0 source.declarations in
    let begins : index ≡ decl_statements source.declarations = omega (arith, rows_passed.next_is) in
    passed.found_is ∙ ap (λ (at : ℕ). entry_with 0 at source.main) begins
