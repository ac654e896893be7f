-- Which nodes have a column, and what bits have of them.
use Rattle.std.proofs.Common.{◌≡◌, ℕ, ◌+◌, ◌<◌, Bool, [], ◌∷◌, ◌++◌, subst, set, take, length, inl, inr, lt-ltb, true, false, ◌&&◌, ◌||◌, List, refl, arith, sym, ap, ◌∙◌, ⊎_elim, get_or, nat_eq, nat_lt, eq-eqb, eqb-true, ltb-true, true≢false}
use Rattle.std.proofs.lemmas.Bool.{cases_Bool, cases_eq, and_from, and_right, and_parts}
use Rattle.std.proofs.lemmas.List.{get_or-set_same, get_or-set_other, get_or_append_left, get_or_push, length_push, length-set}
use Rattle.std.proofs.lemmas.List.Elements.{All-more}
use Rattle.std.specs.List.{All}
use Rattle.abs_graph.specs.BitSets.{has}
use Rattle.abs_graph.specs.Graphs.{Graph, successors}
use Rattle.abs_graph.specs.Columns.{HasColumns, IsExtended, count_of, column_of, has_column, has_node}
use Rattle.abs_graph.specs.declared.columns.Columns.{Columns}
use Rattle.std.specs.Cmp.{both_ways}

-- A node has a column: that column is there, and its node is this one.
record Owned (columns : Columns) (node : ℕ) : Type 0 where
  inside : column_of columns node < count_of columns
  owner : get_or columns.nodes.items (column_of columns node) 0 ≡ node

owned : (columns : Columns) (node : ℕ) → has_column columns node ≡ true → Owned columns node
unfolding has_column
owned columns node reported =
    let both = and_parts (nat_lt (column_of columns node) (count_of columns))
    (nat_eq (get_or columns.nodes.items (column_of columns node) 0) node) reported in
    record {
      inside = ltb-true (column_of columns node) (count_of columns) both.0;
      owner = eqb-true (get_or columns.nodes.items (column_of columns node) 0) node both.1;
    }

-- a column is below the count of them
pub column_inside : (columns : Columns) (node : ℕ) → has_column columns node ≡ true
    → column_of columns node < count_of columns
column_inside columns node reported = (owned columns node reported).inside

-- and the node of that column is this one
pub column_owner : (columns : Columns) (node : ℕ) → has_column columns node ≡ true
    → get_or columns.nodes.items (column_of columns node) 0 ≡ node
column_owner columns node reported = (owned columns node reported).owner

-- no two nodes have the same column
column_distinct : (columns : Columns) (node other : ℕ) → has_column columns node ≡ true
    → has_column columns other ≡ true → column_of columns node ≡ column_of columns other → node ≡ other
column_distinct columns node other reported tells same =
    sym (owned columns node reported).owner
    ∙ (ap (λ (c : ℕ). get_or columns.nodes.items c 0) same ∙ (owned columns other tells).owner)

-- so the columns of two nodes differ where the nodes do
column_same : (columns : Columns) (node other : ℕ) → has_column columns node ≡ true
    → has_column columns other ≡ true
    → nat_eq (column_of columns node) (column_of columns other) ≡ nat_eq node other
column_same columns node other reported tells =
    both_ways (nat_eq (column_of columns node) (column_of columns other)) (nat_eq node other)
    (λ same. eq-eqb node other (column_distinct columns node other reported tells
    (eqb-true (column_of columns node) (column_of columns other) same)))
    (λ same. eq-eqb (column_of columns node) (column_of columns other)
    (ap (column_of columns) (eqb-true node other same)))

-- what bits have of a node with a column
has_node_found : (columns : Columns) (bits : List Bool) (node : ℕ) → has_column columns node ≡ true
    → has_node columns bits node ≡ has bits (column_of columns node)
unfolding has_node
has_node_found columns bits node reported = ap (λ (b : Bool). b && has bits (column_of columns node)) reported

-- and of a node without
has_node_missing : (columns : Columns) (bits : List Bool) (node : ℕ) → has_column columns node ≡ false
    → has_node columns bits node ≡ false
unfolding has_node
has_node_missing columns bits node reported = ap (λ (b : Bool). b && has bits (column_of columns node)) reported

-- bits without numbers have no node
pub has_node_none : (columns : Columns) (bits : List Bool) (node : ℕ)
    → has bits (column_of columns node) ≡ false → has_node columns bits node ≡ false
unfolding has_node
has_node_none columns bits node none = and_right (has_column columns node) (has bits (column_of columns node)) none

-- bits to which the column of a node was added
pub has_node_added : (columns : Columns) (bits added : List Bool) (next column goal : ℕ)
    → has_column columns next ≡ true → column ≡ column_of columns next
    → ((number : ℕ) → has added number ≡ (nat_eq column number || has bits number))
    → has_node columns added goal ≡ (nat_eq next goal || has_node columns bits goal)
has_node_added columns bits added next column goal reported owns adds = ⊎_elim
    (λ found.
    has_node_found columns added goal found
    ∙ (adds (column_of columns goal)
    ∙ (ap (λ (b : Bool). b || has bits (column_of columns goal))
    (ap (λ (c : ℕ). nat_eq c (column_of columns goal)) owns ∙ column_same columns next goal reported found)
    ∙ ap (λ (b : Bool). nat_eq next goal || b) (sym (has_node_found columns bits goal found)))))
    (λ missing.
    let differs : nat_eq next goal ≡ false = ⊎_elim
    (λ same. absurd (true≢false (sym reported
    ∙ (ap (has_column columns) (eqb-true next goal same) ∙ missing))))
    (λ differ. differ)
    (cases_Bool (nat_eq next goal)) in
    has_node_missing columns added goal missing
    ∙ (sym (has_node_missing columns bits goal missing)
    ∙ ap (λ (b : Bool). b || has_node columns bits goal) (sym differs)))
    (cases_Bool (has_column columns goal))

-- bits to which others were added
pub has_node_joined : (columns : Columns) (bits joined other : List Bool) (goal : ℕ)
    → ((number : ℕ) → has joined number ≡ (has bits number || has other number))
    → has_node columns joined goal ≡ (has_node columns bits goal || has_node columns other goal)
has_node_joined columns bits joined other goal joins = ⊎_elim
    (λ found.
    has_node_found columns joined goal found
    ∙ (joins (column_of columns goal)
    ∙ (ap (λ (b : Bool). b || has other (column_of columns goal)) (sym (has_node_found columns bits goal found))
    ∙ ap (λ (b : Bool). has_node columns bits goal || b) (sym (has_node_found columns other goal found)))))
    (λ missing.
    has_node_missing columns joined goal missing
    ∙ (sym (has_node_missing columns other goal missing)
    ∙ ap (λ (b : Bool). b || has_node columns other goal) (sym (has_node_missing columns bits goal missing))))
    (cases_Bool (has_column columns goal))

-- a node whose column is there has it
pub has_owned : (columns : Columns) (node : ℕ) → column_of columns node < count_of columns
    → get_or columns.nodes.items (column_of columns node) 0 ≡ node → has_column columns node ≡ true
unfolding has_column
has_owned columns node inside owner =
    and_from (nat_lt (column_of columns node) (count_of columns))
    (nat_eq (get_or columns.nodes.items (column_of columns node) 0) node)
    (lt-ltb (column_of columns node) (count_of columns) inside)
    (eq-eqb (get_or columns.nodes.items (column_of columns node) 0) node owner)

-- no node was added
pub extended_none : (columns : Columns) → IsExtended columns columns []
extended_none columns = record {
  room = refl;
  keeps = λ node reported. reported;
  added = λ k d less. absurd (omega arith);
}

-- a node was added that had a column before
pub extended_same : (columns : Columns) (node : ℕ) → has_column columns node ≡ true
    → IsExtended columns columns (node ∷ [])
extended_same columns node reported = record {
  room = refl;
  keeps = λ other tells. tells;
  added = λ k d less.
      let first : k ≡ 0 = omega arith in
      subst (λ (n : ℕ). has_column columns (get_or (node ∷ []) n d) ≡ true) (sym first) reported;
}

-- a column was added for a node without one
pub extended_new : (old new : Columns) (node column : ℕ) → has_column old node ≡ false
    → node < length old.columns.items → column ≡ count_of old
    → new.columns.items ≡ set old.columns.items node column
    → new.nodes.items ≡ old.nodes.items ++ node ∷ [] → IsExtended old new (node ∷ [])
extended_new old new node column missing inside last written pushed =
    let set_is : new.columns.items ≡ set old.columns.items node (count_of old) =
    written ∙ ap (set old.columns.items node) last in
    let long : count_of new ≡ count_of old + 1 =
    ap (λ (xs : List ℕ). length xs) pushed ∙ length_push old.nodes.items node in
    let own : column_of new node ≡ count_of old =
    ap (λ (xs : List ℕ). get_or xs node 0) set_is ∙ get_or-set_same old.columns.items node (count_of old) 0 inside in
    let at : get_or new.nodes.items (column_of new node) 0 ≡ node =
    ap (λ (c : ℕ). get_or new.nodes.items c 0) own
    ∙ (ap (λ (xs : List ℕ). get_or xs (count_of old) 0) pushed
    ∙ get_or_push old.nodes.items node 0 (count_of old) refl) in
    let reported : has_column new node ≡ true = has_owned new node (omega (arith, long, own)) at in
    record {
      room = ap (λ (xs : List ℕ). length xs) set_is ∙ length-set old.columns.items node (count_of old);
      keeps = λ other tells. elim (cases_eq other node) [
        | inl same ↦ subst (λ (n : ℕ). has_column new n ≡ true) (sym same) reported
        | inr away ↦
            let had = owned old other tells in
            let kept : column_of new other ≡ column_of old other =
            ap (λ (xs : List ℕ). get_or xs other 0) set_is
            ∙ get_or-set_other old.columns.items node other (count_of old) 0 away in
            has_owned new other (omega (arith, long, kept, had.inside))
            (ap (λ (c : ℕ). get_or new.nodes.items c 0) kept
            ∙ (ap (λ (xs : List ℕ). get_or xs (column_of old other) 0) pushed
            ∙ (get_or_append_left old.nodes.items (node ∷ []) 0 (column_of old other) had.inside ∙ had.owner)))
      ];
      added = λ k d less.
          let first : k ≡ 0 = omega arith in
          subst (λ (n : ℕ). has_column new (get_or (node ∷ []) n d) ≡ true) (sym first) reported;
    }

-- one more node of a list was added
pub extended_more : (old middle new : Columns) (nodes : List ℕ) (index next : ℕ)
    → IsExtended old middle (take index nodes) → IsExtended middle new (next ∷ []) → index < length nodes
    → next ≡ get_or nodes index 0 → IsExtended old new (take (index + 1) nodes)
extended_more old middle new nodes index next before after less is = record {
  room = after.room ∙ before.room;
  keeps = λ node reported. after.keeps node (before.keeps node reported);
  added = All-more (λ node. has_column new node ≡ true) nodes index 0 less
      (λ k d short. after.keeps (get_or (take index nodes) k d) (before.added k d short))
      (subst (λ (n : ℕ). has_column new n ≡ true) is (after.added 0 0 (omega arith)));
}

-- no node was looked at
pub columns_none : (columns : Columns) (graph : Graph) → HasColumns columns graph 0
columns_none columns graph = record { each = λ node below. absurd (omega arith) }

-- the nodes to which the edges of one more node lead were added
pub columns_more : (old new : Columns) (graph : Graph) (node : ℕ) (row : List ℕ) → HasColumns old graph node
    → IsExtended old new row → successors graph node ≡ row → HasColumns new graph (node + 1)
columns_more old new graph node row before after is = record {
  each = λ other below. elim (cases_eq other node) [
    | inl here ↦
        subst (λ (n : ℕ). All (λ next. has_column new next ≡ true) (successors graph n)) (sym here)
        (subst (λ (nodes : List ℕ). All (λ next. has_column new next ≡ true) nodes) (sym is) after.added)
    | inr away ↦ λ k d less.
        after.keeps (get_or (successors graph other) k d) (before.each other (omega (arith, away)) k d less)
  ];
}
