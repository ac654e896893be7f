-- How the rows of a table come to have what the nodes of a graph reach.
use Rattle.std.proofs.Common.{◌≡◌, ℕ, ◌+◌, ◌<◌, ◌≤◌, Bool, true, false, ◌||◌, List, [], ◌∷◌, ◌++◌, refl, sym, ap, ◌∙◌, subst, inl, inr, length, get_or, set, take, nat_eq, arith}
use Rattle.std.specs.List.{All, list_any}
use Rattle.std.specs.declared.alloc.Global.{Global}
use Rattle.std.specs.declared.vec.Vec.{Vec}
use Rattle.std.proofs.lemmas.Bool.{cases_lt, cases_eq}
use Rattle.std.proofs.lemmas.List.{get_or_past, get_or-set_same, get_or-set_other, get_or_append_left, get_or_push, length_push, length-set, length-map}
use Rattle.std.proofs.lemmas.List.Elements.{All-more}
use Rattle.std.proofs.lemmas.List.Folds.{list_any_more}
use Rattle.abs_graph.specs.BitSets.{has, room_for, AreNewBits}
use Rattle.abs_graph.specs.Columns.{count_of, column_of, has_column, has_node}
use Rattle.abs_graph.specs.Graphs.{Graph, HasNodes, successors, reaches, is_marked}
use Rattle.abs_graph.specs.Tables.{bits_at, IsTable, HasNoRoom, HasRoom, IsUnion, IsWide, IsFilled}
use Rattle.abs_graph.specs.Views.{graph_of}
use Rattle.abs_graph.specs.declared.columns.Columns.{Columns}
use Rattle.abs_graph.proofs.ColumnLemmas.{column_inside, has_node_none, has_node_added, has_node_joined}
use Rattle.abs_graph.proofs.ReachLemmas.{reaches_step}
use Rattle.list_facts.proofs.MapLemmas.{list_any-same}

-- new bits are the union for no node
pub union_none : (columns : Columns) (rows : List (List Bool)) (filled bits : List Bool) (bound : ℕ)
    → AreNewBits bound bits → length bits ≤ room_for (count_of columns) → IsUnion columns rows filled [] bits
union_none columns rows filled bits bound new room = record {
  room = room;
  all_filled = λ k d less. absurd (omega arith);
  tells = λ goal. has_node_none columns bits goal (new.none (column_of columns goal));
}

-- also where it has no room
pub union_empty : (columns : Columns) (rows : List (List Bool)) (filled bits : List Bool) (nodes : List ℕ)
    → AreNewBits 0 bits → length nodes ≡ 0 → IsUnion columns rows filled nodes bits
unfolding room_for
union_empty columns rows filled bits [] new none = union_none columns rows filled bits 0 new (omega (arith, new.room))
union_empty columns rows filled bits (node ∷ nodes) new none = absurd (omega (arith, none))

-- new bits have room
pub wide_new : (bound : ℕ) (bits : List Bool) → AreNewBits bound bits → IsWide bound bits
wide_new bound bits new = record { room = new.room; fits = new.fits }

-- bits with room for each column have room for that of a node
pub wide_column : (columns : Columns) (bits : List Bool) (node column : ℕ) → IsWide (count_of columns) bits
    → has_column columns node ≡ true → column ≡ column_of columns node → column < length bits
wide_column columns bits node column wide reported is = omega (arith, wide.fits, column_inside columns node reported, is)

-- bits that take no more and no less room than others
pub wide_same : (bound : ℕ) (bits added joined : List Bool) → IsWide bound bits → length added ≡ length bits
    → length joined ≡ length added → IsWide bound joined
wide_same bound bits added joined wide long longer = record {
  room = longer ∙ (long ∙ wide.room);
  fits = omega (arith, wide.fits, longer, long);
}

-- the order in which three tests are tried
or_turn : (a b c : Bool) → ((b || a) || c) ≡ (a || (b || c))
or_turn true true c = refl
or_turn true false c = refl
or_turn false true c = refl
or_turn false false c = refl

-- bits to which one more node and its bits were added
pub union_more : (columns : Columns) (rows : List (List Bool)) (filled : List Bool) (nodes : List ℕ) (index next
    column : ℕ) (bits added joined other : List Bool) → IsUnion columns rows filled (take index nodes) bits → index < length nodes
    → next ≡ get_or nodes index 0 → is_marked filled next ≡ true → has_column columns next ≡ true
    → column ≡ column_of columns next → other ≡ bits_at rows next → length added ≡ length bits
    → ((number : ℕ) → has added number ≡ (nat_eq column number || has bits number))
    → length joined ≡ length added → ((number : ℕ) → has joined number ≡ (has added number || has other number))
    → IsUnion columns rows filled (take (index + 1) nodes) joined
union_more columns rows filled nodes index next column bits added joined other union less is done reported owns at long adds
    longer joins =
    let member : ℕ → ℕ → Bool = λ goal after. nat_eq after goal || has_node columns (bits_at rows after) goal in
    record {
      room = omega (arith, union.room, longer, long);
      all_filled = All-more (λ after. is_marked filled after ≡ true) nodes index 0 less union.all_filled
          (subst (λ (n : ℕ). is_marked filled n ≡ true) is done);
      tells = λ goal.
          has_node_joined columns added joined other goal joins
          ∙ (ap (λ (b : Bool). b || has_node columns other goal)
          (has_node_added columns bits added next column goal reported owns adds)
          ∙ (or_turn (has_node columns bits goal) (nat_eq next goal) (has_node columns other goal)
          ∙ (ap (λ (r : List Bool). has_node columns bits goal || (nat_eq next goal || has_node columns r goal)) at
          ∙ (ap (λ (n : ℕ). has_node columns bits goal || member goal n) is
          ∙ (ap (λ (b : Bool). b || member goal (get_or nodes index 0)) (union.tells goal)
          ∙ sym (list_any_more (member goal) nodes index 0 less))))));
    }

-- a union over the nodes to which the edges of a node lead tells what the node reaches
union_reaches : (graph : Graph) (columns : Columns) (rows : List (List Bool)) (filled bits : List Bool) (node goal : ℕ)
    → IsFilled graph columns rows filled → IsUnion columns rows filled (successors graph node) bits
    → has_node columns bits goal ≡ reaches graph node goal
union_reaches graph columns rows filled bits node goal known union =
    union.tells goal
    ∙ (list_any-same (λ next. nat_eq next goal || has_node columns (bits_at rows next) goal)
    (λ next. nat_eq next goal || reaches graph next goal) (successors graph node)
    (λ k d less. ap (λ (b : Bool). nat_eq (get_or (successors graph node) k d) goal || b)
    (known.tells (get_or (successors graph node) k d) goal (union.all_filled k d less)))
    ∙ reaches_step graph node goal)

-- the rows after one more of them was filled
pub filled_more : (graph : Graph) (columns : Columns) (rows : List (List Bool)) (filled bits : List Bool) (node : ℕ)
    → IsFilled graph columns rows filled → node < length graph → IsUnion columns rows filled (successors graph node) bits
    → IsFilled graph columns (set rows node bits) (set filled node true)
filled_more graph columns rows filled bits node known inside union =
    let at_row : node < length rows = omega (arith, known.count) in
    let at_flag : node < length filled = omega (arith, known.flags) in
    let as_long : length (set rows node bits) ≡ length rows = length-set rows node bits in
    record {
      count = as_long ∙ known.count;
      flags = length-set filled node true ∙ known.flags;
      room = record {
        room = λ other. elim (cases_eq other node) [
          | inl here ↦
              let is : bits_at (set rows node bits) other ≡ bits =
              ap (bits_at (set rows node bits)) here ∙ get_or-set_same rows node bits [] at_row in
              subst (λ (r : List Bool). length r ≤ room_for (count_of columns)) (sym is) union.room
          | inr away ↦
              subst (λ (r : List Bool). length r ≤ room_for (count_of columns))
              (sym (get_or-set_other rows node other bits [] away)) (known.room.room other)
        ];
      };
      tells = λ other goal reported. elim (cases_eq other node) [
        | inl here ↦
            ap (λ (n : ℕ). has_node columns (bits_at (set rows node bits) n) goal) here
            ∙ (ap (λ (r : List Bool). has_node columns r goal) (get_or-set_same rows node bits [] at_row)
            ∙ (union_reaches graph columns rows filled bits node goal known union
            ∙ ap (λ (n : ℕ). reaches graph n goal) (sym here)))
        | inr away ↦
            ap (λ (r : List Bool). has_node columns r goal) (get_or-set_other rows node other bits [] away)
            ∙ known.tells other goal (sym (get_or-set_other filled node other true false away) ∙ reported)
      ];
    }

-- one more row without room
pub none_more : (rows : List (List Bool)) (bits : List Bool) → HasNoRoom rows → AreNewBits 0 bits
    → HasNoRoom (rows ++ bits ∷ [])
unfolding room_for
none_more rows bits none new = record {
  none = λ node. elim (cases_lt node (length rows)) [
    | inl less ↦ ap (λ (r : List Bool). length r) (get_or_append_left rows (bits ∷ []) [] node less) ∙ none.none node
    | inr over ↦ elim (cases_eq node (length rows)) [
      | inl last ↦ ap (λ (r : List Bool). length r) (get_or_push rows bits [] node (sym last)) ∙ new.room
      | inr past ↦
          let long = length_push rows bits in
          let beyond : length (rows ++ bits ∷ []) ≤ node = omega (arith, long, over, past) in
          ap (λ (r : List Bool). length r) (get_or_past (rows ++ bits ∷ []) node [] beyond)
    ]
  ];
}

-- rows without room are short enough
pub room_none : (columns : Columns) (rows : List (List Bool)) → HasNoRoom rows → HasRoom columns rows
room_none columns rows none = record { room = λ node. omega (arith, none.none node) }

-- the nodes to which the edges of a node lead are some of the rows
pub nodes_have_rows : (graph : Graph) (nodes : List ℕ) (rows node : ℕ) → HasNodes graph → node < length graph
    → nodes ≡ successors graph node → rows ≡ length graph → All (λ next. next < rows) nodes
nodes_have_rows graph nodes rows node whole inside is count =
    subst (λ (n : ℕ). All (λ next. next < n) nodes) (sym count)
    (subst (λ (ns : List ℕ). All (λ next. next < length graph) ns) (sym is) (whole node [] inside))

-- what is no node of a graph reaches nothing
pub reaches_past : (graph : Graph) (node goal : ℕ) → length graph ≤ node → reaches graph node goal ≡ false
reaches_past graph node goal past =
    sym (reaches_step graph node goal)
    ∙ ap (list_any (λ next. nat_eq next goal || reaches graph next goal)) (get_or_past graph node [] past)

-- rows that were all filled are the table
pub filled_table : (graph : Graph) (columns : Columns) (rows : List (List Bool)) (filled flags : List Bool) → IsFilled graph columns rows filled
    → flags ≡ filled → All (λ b. b ≡ true) flags → IsTable graph columns rows
filled_table graph columns rows filled flags known is all = record {
  tells = λ node goal. elim (cases_lt node (length graph)) [
    | inl less ↦
        let flag = subst (λ (bs : List Bool). All (λ b. b ≡ true) bs) is all in
        known.tells node goal (flag node false (omega (arith, less, known.flags)))
    | inr past ↦
        let beyond : length rows ≤ node = omega (arith, past, known.count) in
        ap (λ (r : List Bool). has_node columns r goal) (get_or_past rows node [] beyond)
        ∙ (has_node_none columns [] goal refl ∙ sym (reaches_past graph node goal past))
  ];
}

-- past the rows of a table nothing reaches anything
pub table_past : (graph : Graph) (columns : Columns) (rows : List (List Bool)) (node goal : ℕ)
    → IsTable graph columns rows → length rows ≤ node → false ≡ reaches graph node goal
table_past graph columns rows node goal table past =
    sym (has_node_none columns [] goal refl)
    ∙ (ap (λ (r : List Bool). has_node columns r goal) (sym (get_or_past rows node [] past)) ∙ table.tells node goal)

-- the graph of rows has as many nodes as there are rows
pub node_inside : (rows : List (Vec ℕ Global)) (node : ℕ) → node < length rows → node < length (graph_of rows)
node_inside rows node inside =
    let count = length-map rows (λ (row : Vec ℕ Global). row.items) in
    omega (arith, inside, count)

pub rows_count : (rows : List (Vec ℕ Global)) → length rows ≡ length (graph_of rows)
rows_count rows = sym (length-map rows (λ (row : Vec ℕ Global). row.items))
