-- How tables are filled.
--
--   `row_there`, `exits_row`   a row by its number, in the graph of rows
--   `row_gains`                one row got a value
--   `gains_none`, `gains_more`, `gains_all`            a loop over rows: its start, one turn, its end
--   `members_none`, `members_more`, `members_all`      the table of the pairs that wait at each node, likewise
--   `before_none`, `before_more`, `before_all`         the table of the nodes before each node, likewise
--   `empty_none`, `empty_count`                a table of empty rows has no numbers, and how many rows it has
--   `rows_inside`              the numbers of a row are below a count
use Rattle.std.proofs.Common.{◌≡◌, ◌∙◌, ◌⊎◌, inl, inr, ⊎_elim, ℕ, ◌+◌, ◌<◌, ◌≤◌, List, [], ◌∷◌, ◌++◌, length, take, set, get_or, replicate, Contains, Some, refl, sym, ap, subst, arith}
use Rattle.std.proofs.lemmas.Bool.{cases_eq, cases_lt}
use Rattle.std.proofs.lemmas.List.{get_or-map, get_or-replicate, get_or-set_other, get_or-set_same, get_or_past, length-map, length-replicate, length-set, map-set, take_all, take_more}
use Rattle.std.proofs.lemmas.List.Elements.{Contains-append_left, Contains-push, Contains-push_cases}
use Rattle.std.proofs.lemmas.Option.{same_Some, slice_get-get_or, slice_get_within}
use Rattle.std.specs.Prelude.{All, slice_get}
use Rattle.std.specs.declared.alloc.Global.{Global}
use Rattle.std.specs.declared.vec.Vec.{Vec}
use Rattle.abs_graph.specs.Graphs.{Graph, successors}
use Rattle.abs_graph.specs.Views.{graph_of}
use Rattle.circularity_test.specs.Network.{AreBefore, AreMembers}
use Rattle.circularity_test.specs.Tables.{Gains, IsPassedBelow, IsWaiting}

-- the values of a row
abbrev values_of : Vec ℕ Global → List ℕ
values_of row = row.items

-- a row by its number
row_is : (rows : List (Vec ℕ Global)) (number : ℕ) (row : Vec ℕ Global) → number < length rows
    → row ≡ get_or rows number row → successors (graph_of rows) number ≡ row.items
row_is rows number row inside is = get_or-map values_of rows number row [] inside ∙ ap values_of (sym is)

-- a number of the graph of rows is one of the rows
pub row_there : (rows : List (Vec ℕ Global)) (number : ℕ) → number < length (graph_of rows) → number < length rows
row_there rows number inside =
    let count = length-map rows values_of in omega (arith, inside, count)

-- one row got a value
pub row_gains : (rows : List (Vec ℕ Global)) (number value : ℕ) (row after : Vec ℕ Global)
    → number < length (graph_of rows) → row ≡ get_or rows number row → after.items ≡ row.items ++ value ∷ []
    → Gains (λ one added. (number ≡ one) × (value ≡ added)) (graph_of rows) (graph_of (set rows number after))
row_gains rows number value row after inside is added =
    let graph = graph_of rows in
    let set_is : graph_of (set rows number after) ≡ set graph number after.items =
    map-set values_of rows number after in
    let own : successors (set graph number after.items) number ≡ successors graph number ++ value ∷ [] =
    get_or-set_same graph number after.items [] inside
    ∙ (added ∙ ap (λ it. it ++ value ∷ []) (sym (row_is rows number row (row_there rows number inside) is))) in
    subst (Gains (λ one given. (number ≡ one) × (value ≡ given)) graph) (sym set_is) record {
      count = length-set graph number after.items;
      kept = λ one given there. ⊎_elim
          (λ same.
          subst (λ it. Contains (successors (set graph number after.items) it) given) (sym same)
          (subst (λ it. Contains it given) (sym own)
          (Contains-append_left (successors graph number) (value ∷ []) given
          (subst (λ it. Contains (successors graph it) given) same there))))
          (λ apart.
          subst (λ it. Contains it given) (sym (get_or-set_other graph number one after.items [] apart)) there)
          (cases_eq one number);
      only = λ one given there. ⊎_elim
          (λ same.
          let here =
          subst (λ it. Contains it given) own
          (subst (λ it. Contains (successors (set graph number after.items) it) given) same there) in
          ⊎_elim
          (λ was. inl (subst (λ it. Contains (successors graph it) given) (sym same) was))
          (λ new. inr (sym same, new))
          (Contains-push_cases (successors graph number) value given here))
          (λ apart.
          inl (subst (λ it. Contains it given) (get_or-set_other graph number one after.items [] apart) there))
          (cases_eq one number);
      all = λ one given both.
          subst (λ it. Contains (successors (set graph number after.items) it) given) both.0
          (subst (λ it. Contains it given) (sym own)
          (subst (Contains (successors graph number ++ value ∷ [])) both.1
          (Contains-push (successors graph number) value)));
    }

-- nothing was added
gains_nothing : {Is : ℕ → ℕ → Type 0} (graph : Graph) → ((number value : ℕ) → Is number value → ⊥)
    → Gains Is graph graph
gains_nothing graph none = record {
  count = refl;
  kept = λ number value there. there;
  only = λ number value there. inl there;
  all = λ number value is. absurd (none number value is);
}

-- what was added after something else, in other words
gains_then : {First Second Is : ℕ → ℕ → Type 0} (old between new : Graph) → Gains First old between
    → Gains Second between new
    → ((number value : ℕ) → First number value ⊎ Second number value → Is number value)
    → ((number value : ℕ) → Is number value → First number value ⊎ Second number value) → Gains Is old new
gains_then old between new one two to from = record {
  count = two.count ∙ one.count;
  kept = λ number value there. two.kept number value (one.kept number value there);
  only = λ number value there. ⊎_elim
      (λ earlier. ⊎_elim inl (λ is. inr (to number value (inl is))) (one.only number value earlier))
      (λ is. inr (to number value (inr is)))
      (two.only number value there);
  all = λ number value is. ⊎_elim
      (λ first. two.kept number value (one.all number value first))
      (λ second. two.all number value second)
      (from number value is);
}

-- no row got the value
pub gains_none : (numbers : List ℕ) (value : ℕ) (graph : Graph) → length numbers ≡ 0
    → Gains (λ number added. Contains numbers number × (value ≡ added)) graph graph
gains_none numbers value graph none =
    gains_nothing graph (λ number added is. let inside = is.0.1 in omega (arith, inside, none))

-- one row more got the value
pub gains_more : (numbers : List ℕ) (index number value : ℕ) (old between new : Graph) → index < length numbers
    → number ≡ get_or numbers index number
    → Gains (λ one added. Contains (take index numbers) one × (value ≡ added)) old between
    → Gains (λ one added. (number ≡ one) × (value ≡ added)) between new
    → Gains (λ one added. Contains (take (index + 1) numbers) one × (value ≡ added)) old new
gains_more numbers index number value old between new within is so_far step =
    let more : take (index + 1) numbers ≡ take index numbers ++ number ∷ [] =
    take_more numbers index number within ∙ ap (λ it. take index numbers ++ it ∷ []) (sym is) in
    gains_then old between new so_far step
    (λ one added. ⊎_elim
    (λ earlier. (
      subst (λ it. Contains it one) (sym more) (Contains-append_left (take index numbers) (number ∷ []) one earlier.0),
      earlier.1,
    ))
    (λ last. (
      subst (λ it. Contains it one) (sym more)
          (subst (Contains (take index numbers ++ number ∷ [])) last.0 (Contains-push (take index numbers) number)),
      last.1,
    )))
    (λ one added both. ⊎_elim
    (λ earlier. inl (earlier, both.1))
    (λ same. inr (same, both.1))
    (Contains-push_cases (take index numbers) number one (subst (λ it. Contains it one) more both.0)))

-- all rows got it
pub gains_all : (numbers : List ℕ) (index value : ℕ) (old new : Graph) → length numbers ≤ index
    → Gains (λ one added. Contains (take index numbers) one × (value ≡ added)) old new
    → Gains (λ one added. Contains numbers one × (value ≡ added)) old new
gains_all numbers index value old new over gains =
    subst (λ it. Gains (λ one added. Contains it one × (value ≡ added)) old new) (take_all index numbers over) gains

-- no number is in a row of a table of empty rows
pub empty_none : (count number value : ℕ) (graph : Graph) → graph ≡ replicate count []
    → Contains (successors graph number) value → ⊥
empty_none count number value graph empty there =
    let row : successors graph number ≡ [] =
    ap (λ (it : Graph). successors it number) empty
    ∙ ⊎_elim
    (λ inside. get_or-replicate count number [] [] inside)
    (λ past.
    let long : length (replicate {A = List ℕ} count []) ≡ count = length-replicate count [] in
    get_or_past (replicate count []) number [] (omega (arith, long, past)))
    (cases_lt number count) in
    let inside = (subst (λ it. Contains it value) row there).1 in omega (arith, inside)

-- how many rows a table of empty rows has
pub empty_count : (count : ℕ) (graph : Graph) → graph ≡ replicate count [] → length graph ≡ count
empty_count count graph empty = ap (λ (it : Graph). length it) empty ∙ length-replicate count []

module _ (entries : List ℕ) where
  -- no pair was added
  pub members_none : (graph : Graph) → Gains (IsWaiting entries 0) graph graph
  members_none graph = gains_nothing graph (λ number index is. let below = is.below in omega (arith, below))

  -- one pair more was added
  pub members_more : (index number : ℕ) (old between new : Graph) → index < length entries
      → number ≡ get_or entries index number → Gains (IsWaiting entries index) old between
      → Gains (λ one added. (number ≡ one) × (index ≡ added)) between new
      → Gains (IsWaiting entries (index + 1)) old new
  members_more index number old between new within is so_far step =
      let here : slice_get entries index ≡ Some number =
      slice_get-get_or entries index number within ∙ ap Some (sym is) in
      gains_then old between new so_far step
      (λ one added. ⊎_elim
      (λ earlier. let below = earlier.below in record { below = omega (arith, below); waits = earlier.waits })
      (λ last.
      let same = last.1 in record {
        below = omega (arith, same);
        waits = ap (slice_get entries) (sym same) ∙ (here ∙ ap Some last.0);
      }))
      (λ one added waiting. ⊎_elim
      (λ same. inr (
        same_Some number one (sym here ∙ (ap (slice_get entries) (sym same) ∙ waiting.waits)),
        sym same,
      ))
      (λ apart.
      let below = waiting.below in inl (record { below = omega (arith, below, apart); waits = waiting.waits }))
      (cases_eq added index))

  -- all pairs were
  pub members_all : (count bound : ℕ) (old new : Graph) → old ≡ replicate count [] → length entries ≤ bound
      → Gains (IsWaiting entries bound) old new → AreMembers entries new
  members_all count bound old new empty over gains = λ number index. (
    (λ there. ⊎_elim
        (λ was. absurd (empty_none count number index old empty was))
        (λ is. is.waits)
        (gains.only number index there)),
    (λ waits.
        let within = slice_get_within entries index number waits in
        gains.all number index (record { below = omega (arith, within, over); waits = waits })),
  )

module _ (entries : List ℕ) (exits : Graph) where
  -- no pair was added
  pub before_none : (graph : Graph) → Gains (IsPassedBelow entries exits 0) graph graph
  before_none graph = gains_nothing graph (λ next number is. let below = is.below in omega (arith, below))

  -- one pair more was added
  pub before_more : (index number : ℕ) (row : List ℕ) (old between new : Graph) → index < length entries
      → number ≡ get_or entries index number → row ≡ successors exits index
      → Gains (IsPassedBelow entries exits index) old between
      → Gains (λ next added. Contains row next × (number ≡ added)) between new
      → Gains (IsPassedBelow entries exits (index + 1)) old new
  before_more index number row old between new within is row_of so_far step =
      let here : slice_get entries index ≡ Some number =
      slice_get-get_or entries index number within ∙ ap Some (sym is) in
      gains_then old between new so_far step
      (λ next added. ⊎_elim
      (λ earlier.
      let below = earlier.below in record {
        index = earlier.index;
        below = omega (arith, below);
        waits = earlier.waits;
        leads = earlier.leads;
      })
      (λ last. record {
        index = index;
        below = omega arith;
        waits = here ∙ ap Some last.1;
        leads = subst (λ it. Contains it next) row_of last.0;
      }))
      (λ next added passed. ⊎_elim
      (λ same. inr (
        subst (λ it. Contains it next) (sym row_of)
            (subst (λ it. Contains (successors exits it) next) same passed.leads),
        same_Some number added (sym here ∙ (ap (slice_get entries) (sym same) ∙ passed.waits)),
      ))
      (λ apart.
      let below = passed.below in inl (record {
        index = passed.index;
        below = omega (arith, below, apart);
        waits = passed.waits;
        leads = passed.leads;
      }))
      (cases_eq passed.index index))

  -- all pairs were
  pub before_all : (count bound : ℕ) (old new : Graph) → old ≡ replicate count [] → length entries ≤ bound
      → Gains (IsPassedBelow entries exits bound) old new → AreBefore entries exits new
  before_all count bound old new empty over gains = λ number next. (
    (λ there. ⊎_elim
        (λ was. absurd (empty_none count next number old empty was))
        (λ is. record { index = is.index; waits = is.waits; leads = is.leads })
        (gains.only next number there)),
    (λ passed.
        let within = slice_get_within entries passed.index number passed.waits in
        gains.all next number (record {
          index = passed.index;
          below = omega (arith, within, over);
          waits = passed.waits;
          leads = passed.leads;
        })),
  )

-- the row of a pair
pub exits_row : (exits : List (Vec ℕ Global)) (index : ℕ) (row : Vec ℕ Global) → index < length exits
    → row ≡ get_or exits index row → row.items ≡ successors (graph_of exits) index
exits_row exits index row inside is = sym (row_is exits index row inside is)

-- the numbers of a row are below a count
pub rows_inside : (exits : List (Vec ℕ Global)) (index nodes count : ℕ) (row : List ℕ)
    → All (λ (it : List ℕ). All (λ next. next < nodes) it) (graph_of exits) → index < length exits
    → row ≡ successors (graph_of exits) index → count ≡ nodes → All (λ next. next < count) row
rows_inside exits index nodes count row whole inside is same =
    let long = length-map exits values_of in
    subst (λ n. All (λ next. next < n) row) (sym same)
    (subst (λ (it : List ℕ). All (λ next. next < nodes) it) (sym is) (whole index [] (omega (arith, inside, long))))
