-- Reports: there is one for each list of pairs, and what it lists.
--
--   `reports_same`             two reports of one list are the same
--   `listed_after`             what holds of each chain of a report
--   `listed_all`               each pair into which a circular chain has a held link is in a chain of the report
--   `report_empty`             a report is empty exactly where there is no circular chain
use Rattle.std.proofs.Common.{◌≡◌, ◌∙◌, ◌⊎◌, inl, inr, ⊎_elim, ℕ, true, List, [], ◌∷◌, ◌++◌, ◌↔◌, Contains, refl, sym, ap, subst, arith, append_assoc}
use Rattle.std.proofs.lemmas.List.Elements.{Contains-append_cases, Contains-append_left, Contains-append_right}
use Rattle.list_facts.proofs.AllLemmas.{Contains-head_or_tail}
use Rattle.abs_tree.specs.Syntax.{ProgramTree}
use Rattle.contract_terms.specs.Chains.{steps_of, IsCircular, Closes, ClosesAt, IsLeast, Reports, done, passed, free, listed, IsReport, IsListed}
use Rattle.contract_terms.specs.PairLinks.{IsHeld}
use Rattle.contract_terms.specs.declared.pair.Mode.TheVariants.{Get}
use Rattle.contract_terms.specs.declared.pair.Pair.{Pair}
use Rattle.contract_terms.proofs.ChainLemmas.{contains_head, contains_tail, chain_is_circular, turned}
use Rattle.contract_terms.proofs.PairOrderLemmas.{least_same}

least_is_one : (program : ProgramTree) (pairs : List Pair) (first : Pair) (chain other : List Pair)
    → IsLeast program pairs first chain → IsLeast program pairs first other → chain ≡ other
least_is_one program pairs first chain other one least =
    least_same chain other (one.least other least.closes) (least.least chain one.closes)

pub reports_same : (program : ProgramTree) (pairs left earlier : List Pair) (chains others : List (List Pair))
    → Reports program pairs left earlier chains → Reports program pairs left earlier others → chains ≡ others
reports_same program pairs left earlier chains others (done _) (done _) = refl
reports_same program pairs left earlier chains others (passed pair rest _ _ there one) (passed _ _ _ _ _ other) =
    reports_same program pairs rest earlier chains others one other
reports_same program pairs left earlier chains others (passed pair rest _ _ there one) (free _ _ _ _ _ other) =
    reports_same program pairs rest earlier chains others one other
reports_same program pairs left earlier chains others (passed pair rest _ _ there one) (listed _ _ _ chain more new
    least other) =
    absurd (new there)
reports_same program pairs left earlier chains others (free pair rest _ _ none one) (passed _ _ _ _ _ other) =
    reports_same program pairs rest earlier chains others one other
reports_same program pairs left earlier chains others (free pair rest _ _ none one) (free _ _ _ _ _ other) =
    reports_same program pairs rest earlier chains others one other
reports_same program pairs left earlier chains others (free pair rest _ _ none one) (listed _ _ _ chain more new least
    other) =
    absurd (none chain least.closes)
reports_same program pairs left earlier chains others (listed _ _ _ chain more new least one) (passed _ _ _ _ there
    other) =
    absurd (new there)
reports_same program pairs left earlier chains others (listed _ _ _ chain more new least one) (free _ _ _ _ none other)
    =
    absurd (none chain least.closes)
reports_same program pairs left earlier chains others (listed pair rest _ chain more new least one) (listed _ _ _ chain'
    more' new' least' other) =
    let same = least_is_one program pairs pair chain chain' least least' in
    ap (λ it. it ∷ more) same
    ∙ ap (λ those. chain' ∷ those)
    (reports_same program pairs rest (earlier ++ chain') more more'
    (subst (λ it. Reports program pairs rest (earlier ++ it) more) same one) other)

-- A pair is in one of some chains.
pub record IsIn (chains : List (List Pair)) (pair : Pair) : Type 0 where
  pub chain : List Pair
  pub there : Contains chains chain
  pub inside : Contains chain pair

later_in : (first : List Pair) (chains : List (List Pair)) (pair : Pair) → IsIn chains pair → IsIn (first ∷ chains) pair
later_in first chains pair later =
    record { chain = later.chain; there = contains_tail first chains later.chain later.there; inside = later.inside }

first_pair : (program : ProgramTree) (pairs : List Pair) (pair : Pair) (chain : List Pair)
    → ClosesAt program pairs pair chain → Contains chain pair
first_pair program pairs pair chain closes =
    subst (λ it. Contains it pair) (sym closes.starts) (contains_head pair closes.others)

-- a pair among those that are left, to which a chain leads back, is listed
all_listed : (program : ProgramTree) (pairs left earlier : List Pair) (chains : List (List Pair))
    → Reports program pairs left earlier chains → (pair : Pair) (chain : List Pair) → Contains left pair
    → ClosesAt program pairs pair chain → Contains earlier pair ⊎ IsIn chains pair
all_listed program pairs left earlier chains (done _) pair chain there closes = absurd (omega (arith, there.1))
all_listed program pairs left earlier chains (passed one rest _ _ is_there reports) pair chain there closes = ⊎_elim
    (λ same. inl (subst (Contains earlier) same is_there))
    (λ later. all_listed program pairs rest earlier chains reports pair chain later closes)
    (Contains-head_or_tail one rest pair there)
all_listed program pairs left earlier chains (free one rest _ _ none reports) pair chain there closes = ⊎_elim
    (λ same. absurd (none chain (subst (λ it. ClosesAt program pairs it chain) (sym same) closes)))
    (λ later. all_listed program pairs rest earlier chains reports pair chain later closes)
    (Contains-head_or_tail one rest pair there)
all_listed program pairs left earlier chains (listed one rest _ least_chain more new least reports) pair chain there
    closes = ⊎_elim
    (λ same. inr (record {
      chain = least_chain;
      there = contains_head least_chain more;
      inside = subst (Contains least_chain) same (first_pair program pairs one least_chain least.closes);
    }))
    (λ later. ⊎_elim
    (λ known. ⊎_elim (λ before. inl before)
    (λ inside. inr (record { chain = least_chain; there = contains_head least_chain more; inside = inside }))
    (Contains-append_cases earlier least_chain pair known))
    (λ further. inr (later_in least_chain more pair further))
    (all_listed program pairs rest (earlier ++ least_chain) more reports pair chain later closes))
    (Contains-head_or_tail one rest pair there)

-- what leads to a pair by a held link is a `get`
goal_gets : (program : ProgramTree) (goal one : Pair) (others : List Pair) → Closes program goal one others
    → goal.mode ≡ Get
goal_gets program goal one [] closes = closes.0
goal_gets program goal one (next ∷ others) closes = goal_gets program goal next others closes.1

-- what holds of each chain that is listed, if earlier chains have just the pairs that are passed over
each_listed : (program : ProgramTree) (pairs left earlier : List Pair) (chains : List (List Pair))
    → Reports program pairs left earlier chains
    → (known : List (List Pair)) → ((one : List Pair) (pair : Pair) → Contains known one → Contains one pair
    → Contains earlier pair)
    → (before after : List (List Pair)) (chain : List Pair) → chains ≡ before ++ chain ∷ after
    → IsListed program pairs (known ++ before) chain
each_listed program pairs left earlier chains (done _) known all before after chain is = absurd (never before is)
  where
    never : (before : List (List Pair)) → [] ≡ before ++ chain ∷ after → ⊥
    never [] e = absurd (cc)
    never (one ∷ others) e = absurd (cc)
each_listed program pairs left earlier chains (passed one rest _ _ there reports) known all before after chain is =
    each_listed program pairs rest earlier chains reports known all before after chain is
each_listed program pairs left earlier chains (free one rest _ _ none reports) known all before after chain is =
    each_listed program pairs rest earlier chains reports known all before after chain is
each_listed program pairs left earlier chains (listed one rest _ first more new least reports) known all [] after chain
    is =
    let same : first ≡ chain = cc in
    subst (IsListed program pairs (known ++ [])) same
    (record {
      circular = chain_is_circular program pairs one first least.closes;
      first = one;
      others = least.closes.others;
      starts = least.closes.starts;
      gets = goal_gets program one one least.closes.others least.closes.closes;
      new = λ other there inside. new (all other one (from_known other there) inside);
    })
  where
    from_known : (other : List Pair) → Contains (known ++ []) other → Contains known other
    from_known other there = ⊎_elim
        (λ it. it)
        (λ nowhere. absurd (omega (arith, nowhere.1)))
        (Contains-append_cases known [] other there)
each_listed program pairs left earlier chains (listed one rest _ first more new least reports) known all (other ∷
    before) after chain is =
    let same : first ≡ other = cc in
    let later : more ≡ before ++ chain ∷ after = cc in
    subst (λ it. IsListed program pairs it chain)
    (append_assoc known (first ∷ []) before ∙ ap (λ it. known ++ it ∷ before) same)
    (each_listed program pairs rest (earlier ++ first) more reports (known ++ first ∷ []) further before after chain
    later)
  where
    further : (list : List Pair) (pair : Pair) → Contains (known ++ first ∷ []) list → Contains list pair
        → Contains (earlier ++ first) pair
    further list pair there inside = ⊎_elim
        (λ before_it. Contains-append_left earlier first pair (all list pair before_it inside))
        (λ last. ⊎_elim
        (λ same. Contains-append_right earlier first pair (subst (λ it. Contains it pair) (sym same) inside))
        (λ nowhere. absurd (omega (arith, nowhere.1)))
        (Contains-head_or_tail first [] list last))
        (Contains-append_cases known (first ∷ []) list there)

-- what holds of each chain of a report
pub listed_after : (program : ProgramTree) (pairs : List Pair) (before after : List (List Pair)) (chain : List Pair)
    → IsReport program pairs (before ++ chain ∷ after) → IsListed program pairs before chain
listed_after program pairs before after chain report =
    each_listed program pairs pairs [] (before ++ chain ∷ after) report []
    (λ one pair nowhere inside. absurd (omega (arith, nowhere.1))) before after chain refl

-- each pair into which a circular chain has a held link is in a chain of the report
pub listed_all : (program : ProgramTree) (pairs : List Pair) (chains : List (List Pair)) (chain : List Pair)
    → IsReport program pairs chains → IsCircular program pairs chain
    → (one get : Pair) → Contains (steps_of chain) (one, get) → IsHeld one get
    → (list : List Pair) × Contains chains list × Contains list get
listed_all program pairs chains chain report circular one get step held =
    let back = turned program pairs chain circular one get step held in
    ⊎_elim
    (λ nowhere. absurd (omega (arith, nowhere.1)))
    (λ found. (found.chain, found.there, found.inside))
    (all_listed program pairs pairs [] chains report get back.chain
    (back.closes.among get (first_pair program pairs get back.chain back.closes)) back.closes)

-- a report is empty exactly where there is no circular chain
pub report_empty : (program : ProgramTree) (pairs : List Pair) (chains : List (List Pair))
    → IsReport program pairs chains
    → (chains ≡ []) ↔ ((chain : List Pair) → IsCircular program pairs chain → ⊥)
report_empty program pairs chains report = (forth, back chains report)
  where
    forth : chains ≡ [] → (chain : List Pair) → IsCircular program pairs chain → ⊥
    forth empty chain circular =
        let found = listed_all program pairs chains chain report circular circular.one circular.next circular.step
        circular.held in
        omega (arith, (subst (λ it. Contains it found.0) empty found.1).1)

    back : (those : List (List Pair)) → IsReport program pairs those
        → ((chain : List Pair) → IsCircular program pairs chain → ⊥) → those ≡ []
    back [] it none = refl
    back (first ∷ others) it none = absurd (none first (listed_after program pairs [] others first it).circular)
