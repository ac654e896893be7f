-- Which pairs are marked, and how the chain for one more pair is listed.
--
--   `AreMarked-chain`          the marks once a chain is listed
--   `comes_by_way`, `awaits_are_free`      what comes next of a `get`, and why nothing does of an `await`
--   `no_get_no_chain`          nothing is listed where no pair is a `get`
--   `report_begins`            what is listed for no pair
--   `none_next`, `chain_next`  what is listed for one more pair: nothing, or its chain
--   `report_ends`              what is listed for all pairs
use Rattle.std.proofs.Common.{◌≡◌, ◌∙◌, ◌<◌, ◌≤◌, ◌⊎◌, ◌↔◌, inl, inr, ⊎_elim, ℕ, zero, suc, ◌+◌, Bool, true, false, List, [], ◌∷◌, ◌++◌, length, drop, replicate, set, Contains, refl, sym, ap, subst, arith, append-nil, append_assoc}
use Rattle.std.proofs.lemmas.List.{get_or-set_same, get_or-set_other, length-set, length-replicate, drop_all}
use Rattle.std.proofs.lemmas.List.Elements.{Contains-append_left, Contains-push, Contains-push_cases}
use Rattle.std.proofs.lemmas.Option.{same_Some, slice_get_within}
use Rattle.std.specs.List.Sorted.{IsStrictlySortedBy}
use Rattle.std.specs.Prelude.{IfOk, Option, None, Some, slice_get}
use Rattle.std.specs.declared.alloc.AllocError.{AllocError}
use Rattle.std.specs.declared.alloc.Global.{Global}
use Rattle.std.specs.declared.result.Result.{Result}
use Rattle.std.specs.declared.result.Result.TheVariants.{Ok, Err}
use Rattle.std.specs.declared.vec.Vec.{Vec}
use Rattle.abs_graph.specs.Graphs.{is_marked}
use Rattle.abs_tree.specs.Syntax.{ProgramTree}
use Rattle.circularity_test.proofs.IndexLemmas.{one_index}
use Rattle.circularity_test.specs.Reporting.{AreAwaits, AreMarked, ComesNext, mark_all, IsReported}
use Rattle.circularity_test.specs.Routes.{IsWayBack, Picks}
use Rattle.contract_terms.specs.Chains.{Closes, ClosesAt, IsLeast, Reports, done, passed, free, listed, IsReport}
use Rattle.contract_terms.specs.Pairs.{pair_order}
use Rattle.contract_terms.specs.declared.pair.Mode.TheVariants.{Get, Await}
use Rattle.contract_terms.specs.declared.pair.Pair.{Pair}
use Rattle.list_facts.proofs.EntryLemmas.{drop_found, slice_get-there}

equal_numbers : (one other : ℕ) → (one ≡ other) ⊎ (one ≡ other → ⊥)
equal_numbers zero zero = inl refl
equal_numbers zero (suc other) = inr (λ same. absurd (omega (arith, same)))
equal_numbers (suc one) zero = inr (λ same. absurd (omega (arith, same)))
equal_numbers (suc one) (suc other) = ⊎_elim (λ same. inl (ap suc same))
    (λ apart. inr (λ same. apart (omega (arith, same)))) (equal_numbers one other)

module _ (pairs : List Pair) (rises : IsStrictlySortedBy pair_order pairs) where
  -- one more pair is listed
  AreMarked-one : (marked : List Bool) (before : List Pair) (index : ℕ) (one : Pair) → slice_get pairs index ≡ Some one
      → length marked ≡ length pairs → AreMarked pairs marked before
      → AreMarked pairs (set marked index true) (before ++ one ∷ [])
  AreMarked-one marked before index one is count marks at pair there = go (equal_numbers at index)
    where
      go : (at ≡ index) ⊎ (at ≡ index → ⊥)
          → (is_marked (set marked index true) at ≡ true) ↔ Contains (before ++ one ∷ []) pair
      go (inl same) =
          let pair_is : one ≡ pair = same_Some one pair (sym is ∙ (ap (slice_get pairs) (sym same) ∙ there)) in
          let within : index < length marked = subst (λ it. index < it) (sym count) (slice_get_within pairs index one is) in
          let marked_now : is_marked (set marked index true) at ≡ true =
          ap (is_marked (set marked index true)) same ∙ get_or-set_same marked index true false within in
          (λ _. subst (Contains (before ++ one ∷ [])) pair_is (Contains-push before one), λ _. marked_now)
      go (inr apart) =
          let same_mark : is_marked (set marked index true) at ≡ is_marked marked at =
          get_or-set_other marked index at true false apart in (
            λ is_so. Contains-append_left before (one ∷ []) pair ((marks at pair there).0 (sym same_mark ∙ is_so)),
            λ inside. same_mark ∙ (marks at pair there).1 (⊎_elim (λ earlier. earlier)
                (λ same. absurd (one_index pairs rises at index pair there (is ∙ ap Some same) apart))
                (Contains-push_cases before one pair inside)),
          )

  -- the marks once a chain is listed
  pub AreMarked-chain : (marked : List Bool) (before : List Pair) (indices : List ℕ) (chain : List Pair)
      → Picks pairs indices chain → length marked ≡ length pairs → AreMarked pairs marked before
      → AreMarked pairs (mark_all marked indices) (before ++ chain)
  AreMarked-chain marked before [] [] picks count marks =
      subst (AreMarked pairs marked) (sym (append-nil before)) marks
  AreMarked-chain marked before [] (one ∷ chain) picks count marks = absurd (cc)
  AreMarked-chain marked before (index ∷ indices) [] picks count marks = absurd (cc)
  AreMarked-chain marked before (index ∷ indices) (one ∷ chain) picks count marks =
      let here : slice_get pairs index ≡ Some one = cc in
      let others : Picks pairs indices chain = cc in
      subst (AreMarked pairs (mark_all (set marked index true) indices)) (append_assoc before (one ∷ []) chain)
      (AreMarked-chain (set marked index true) (before ++ one ∷ []) indices chain others
      (length-set marked index true ∙ count) (AreMarked-one marked before index one here count marks))

  pub length-mark_all : (marked : List Bool) (indices : List ℕ) → length (mark_all marked indices) ≡ length marked
  length-mark_all marked [] = refl
  length-mark_all marked (index ∷ indices) =
      length-mark_all (set marked index true) indices ∙ length-set marked index true

-- what leads to a pair by a held link is a `get`
closes_gets : (program : ProgramTree) (goal one : Pair) (others : List Pair) → Closes program goal one others
    → goal.mode ≡ Get
closes_gets program goal one [] closes = closes.0
closes_gets program goal one (next ∷ others) closes = closes_gets program goal next others closes.1

-- the way back to a `get` that is not listed comes next
pub comes_by_way : (program : ProgramTree) (pairs : List Pair) (pair : Pair) (is_listed : Bool)
    (result : Result (Option (Vec ℕ Global)) AllocError) → is_listed ≡ false
    → IfOk result (IsWayBack program pairs pair) → IfOk result (ComesNext program pairs pair is_listed)
comes_by_way program pairs pair is_listed (Ok None) unlisted none = inr none
comes_by_way program pairs pair is_listed (Ok (Some indices)) unlisted way = (unlisted, way)
comes_by_way program pairs pair is_listed (Err error) unlisted way = tt

-- no chain leads back to an `await` by a held link
pub awaits_are_free : (program : ProgramTree) (pairs : List Pair) (pair : Pair) → pair.mode ≡ Await → (chain : List Pair)
    → ClosesAt program pairs pair chain → ⊥
awaits_are_free program pairs pair awaits chain closes =
    let both : Get ≡ Await = sym (closes_gets program pair pair closes.others closes.closes) ∙ awaits in
    absurd (cc)

-- the report of pairs without a `get` lists nothing
awaits_report : (program : ProgramTree) (pairs left : List Pair)
    → ((index : ℕ) (pair : Pair) → slice_get left index ≡ Some pair → pair.mode ≡ Await)
    → Reports program pairs left [] []
awaits_report program pairs [] awaits = done []
awaits_report program pairs (pair ∷ left) awaits =
    free pair left [] [] (awaits_are_free program pairs pair (awaits 0 pair refl))
    (awaits_report program pairs left (λ index one there. awaits (suc index) one there))

pub no_get_no_chain : (program : ProgramTree) (pairs : List Pair) → AreAwaits pairs → IsReport program pairs []
no_get_no_chain program pairs awaits = awaits_report program pairs pairs awaits

unmarked_at : (count index : ℕ) → is_marked (replicate count false) index ≡ false
unmarked_at zero index = refl
unmarked_at (suc count) zero = refl
unmarked_at (suc count) (suc index) = unmarked_at count index

module _ (program : ProgramTree) (pairs : List Pair) where
  -- nothing is listed for no pair
  pub report_begins : (marked : List Bool) → marked ≡ replicate (length pairs) false
      → IsReported program pairs 0 marked []
  report_begins marked is = record {
    listed = [];
    marks = λ index pair there. (
      λ set. absurd (never (sym (ap (λ marks. is_marked marks index) is ∙ unmarked_at (length pairs) index) ∙ set)),
      λ inside. absurd (omega (arith, inside.1)),
    );
    count = ap length is ∙ length-replicate (length pairs) false;
    so_far = λ chains reports. reports;
  }
    where
      never : false ≡ true → ⊥
      never same = absurd (cc)

  -- nothing is listed for a pair that is listed already, or to which no chain leads back
  passes_on : (index : ℕ) (pair : Pair) (marked : List Bool) (report : List (List Pair))
      → slice_get pairs index ≡ Some pair
      → (is_marked marked index ≡ true) ⊎ ((chain : List Pair) → ClosesAt program pairs pair chain → ⊥)
      → IsReported program pairs index marked report → IsReported program pairs (index + 1) marked report
  passes_on index pair marked report there (inl is) so = record {
    listed = so.listed;
    marks = so.marks;
    count = so.count;
    so_far = λ chains reports. so.so_far chains (subst (λ left. Reports program pairs left so.listed chains)
        (sym (drop_found pairs index pair there))
        (passed pair (drop (index + 1) pairs) so.listed chains ((so.marks index pair there).0 is) reports));
  }
  passes_on index pair marked report there (inr none) so = record {
    listed = so.listed;
    marks = so.marks;
    count = so.count;
    so_far = λ chains reports. so.so_far chains (subst (λ left. Reports program pairs left so.listed chains)
        (sym (drop_found pairs index pair there))
        (free pair (drop (index + 1) pairs) so.listed chains none reports));
  }

  -- the chain of any other pair is listed
  lists_on : IsStrictlySortedBy pair_order pairs → (index : ℕ) (pair : Pair) (marked : List Bool)
      (report : List (List Pair)) (indices : List ℕ) (chain : List Pair)
      → slice_get pairs index ≡ Some pair → is_marked marked index ≡ false → Picks pairs indices chain
      → IsLeast program pairs pair chain → IsReported program pairs index marked report
      → IsReported program pairs (index + 1) (mark_all marked indices) (report ++ chain ∷ [])
  lists_on rises index pair marked report indices chain there unmarked picks least so = record {
    listed = so.listed ++ chain;
    marks = AreMarked-chain pairs rises marked so.listed indices chain picks so.count so.marks;
    count = length-mark_all pairs rises marked indices ∙ so.count;
    so_far = λ chains reports. subst (IsReport program pairs) (sym (append_assoc report (chain ∷ []) chains))
        (so.so_far (chain ∷ chains) (subst (λ left. Reports program pairs left so.listed (chain ∷ chains))
        (sym (drop_found pairs index pair there))
        (listed pair (drop (index + 1) pairs) so.listed chain chains new least reports)));
  }
    where
      new : Contains so.listed pair → ⊥
      new inside =
          let both : true ≡ false = sym ((so.marks index pair there).1 inside) ∙ unmarked in
          absurd (cc)

  -- nothing comes next of the pair at an index
  pub none_next : (index : ℕ) (marked : List Bool) (report : List (List Pair)) (next : Option (Vec ℕ Global))
      → next ≡ None → index < length pairs
      → ((pair : Pair) → slice_get pairs index ≡ Some pair
      → ComesNext program pairs pair (is_marked marked index) next)
      → IsReported program pairs index marked report → IsReported program pairs (index + 1) marked report
  none_next index marked report next is within comes so =
      let at = slice_get-there pairs index within in
      passes_on index at.0 marked report at.1
      (subst (ComesNext program pairs at.0 (is_marked marked index)) is (comes at.0 at.1)) so

  -- a chain comes next of the pair at an index
  pub chain_next : IsStrictlySortedBy pair_order pairs → (index : ℕ) (marked after : List Bool)
      (report longer : List (List Pair)) (next : Option (Vec ℕ Global)) (indices : Vec ℕ Global) (found : List Pair)
      → next ≡ Some indices → index < length pairs
      → ((pair : Pair) → slice_get pairs index ≡ Some pair
      → ComesNext program pairs pair (is_marked marked index) next)
      → ((chain : List Pair) → Picks pairs indices.items chain → found ≡ chain) → longer ≡ report ++ found ∷ []
      → after ≡ mark_all marked indices.items → IsReported program pairs index marked report
      → IsReported program pairs (index + 1) after longer
  chain_next rises index marked after report longer next indices found is within comes picked longer_is after_is so =
      let at = slice_get-there pairs index within in
      let way : ComesNext program pairs at.0 (is_marked marked index) (Some indices) =
      subst (ComesNext program pairs at.0 (is_marked marked index)) is (comes at.0 at.1) in
      let listed_now = lists_on rises index at.0 marked report indices.items way.1.0 at.1 way.0 way.1.1 way.1.2 so in
      subst (λ marks. IsReported program pairs (index + 1) marks longer) (sym after_is)
      (subst (IsReported program pairs (index + 1) (mark_all marked indices.items))
      (ap (λ chain. report ++ chain ∷ []) (sym (picked way.1.0 way.1.1)) ∙ sym longer_is) listed_now)

  -- what is listed for all pairs is the report
  pub report_ends : (index : ℕ) (marked : List Bool) (report : List (List Pair)) → length pairs ≤ index
      → IsReported program pairs index marked report → IsReport program pairs report
  report_ends index marked report all so = subst (IsReport program pairs) (append-nil report)
      (so.so_far [] (subst (λ left. Reports program pairs left so.listed []) (sym (drop_all index pairs all))
      (done so.listed)))
