-- Lists that go round, and paths.
--
--   `leads_join`, `leads_split`    paths one after another
--   `turned`                       a round that begins elsewhere
--   `le_or_lt`                     one number is at most another one, or greater
--   `least_of`                     the least number of a list, and where it is
use Rattle.std.proofs.Common.{◌≡◌, ◌⊎◌, ◌≤◌, ◌<◌, ℕ, zero, suc, false, nat_eq, ◌||◌, List, [], ◌∷◌, ◌++◌, refl, sym, ap, ◌∙◌, subst, arith, inl, inr, ⊎_elim}
use Rattle.std.specs.Prelude.{All}
use Rattle.std.specs.List.{AllByRecursion}
use Rattle.std.specs.List.{IsDistinct, list_any}
use Rattle.std.specs.Cmp.{nat_eq_equiv}
use Rattle.std.proofs.lemmas.List.{append_assoc, append-nil}
use Rattle.std.proofs.lemmas.List.Elements.{All-nil, All-cons}
use Rattle.std.proofs.lemmas.Map.Keys.{IsDistinct-push}
use Rattle.wait_graph.specs.Waits.{LeadsRound, GoesRound}

module _ (Next : ℕ → ℕ → Type 0) where
  -- one more step at the end
  pub leads_push : (goal more task : ℕ) (tasks : List ℕ) → LeadsRound Next goal task tasks → Next goal more
      → LeadsRound Next more task (tasks ++ goal ∷ [])
  leads_push goal more task [] leads step = (leads, step)
  leads_push goal more task (next ∷ others) leads step = (leads.0, leads_push goal more next others leads.1 step)

  -- a path to a number, and one from there to the goal
  pub leads_join : (goal middle task : ℕ) (front back : List ℕ) → LeadsRound Next middle task front
      → LeadsRound Next goal middle back → LeadsRound Next goal task (front ++ middle ∷ back)
  leads_join goal middle task [] back one other = (one, other)
  leads_join goal middle task (next ∷ front) back one other =
      (one.0, leads_join goal middle next front back one.1 other)

  -- a path is one to a number on it, and one from there to the goal
  pub leads_split : (goal middle task : ℕ) (front back : List ℕ)
      → LeadsRound Next goal task (front ++ middle ∷ back)
      → LeadsRound Next middle task front × LeadsRound Next goal middle back
  leads_split goal middle task [] back leads = leads
  leads_split goal middle task (next ∷ front) back leads =
      let parts = leads_split goal middle next front back leads.1 in ((leads.0, parts.0), parts.1)

-- whether a number is in no place of a list, by the two forms of it
absent_by : (number : ℕ) (numbers : List ℕ) → AllByRecursion (λ other. nat_eq number other ≡ false) numbers
    → list_any (nat_eq number) numbers ≡ false
absent_by number [] absent = refl
absent_by number (first ∷ others) absent =
    ap (λ test. test || list_any (nat_eq number) others) absent.0 ∙ absent_by number others absent.1

-- different numbers stay different where a part is moved to the end
distinct_turned : (front back : List ℕ) → IsDistinct nat_eq (front ++ back) → IsDistinct nat_eq (back ++ front)
unfolding IsDistinct
distinct_turned [] back distinct = subst (IsDistinct nat_eq) (sym (append-nil back)) distinct
distinct_turned (first ∷ front) back distinct =
    let pushed : IsDistinct nat_eq (front ++ (back ++ first ∷ [])) =
    subst (IsDistinct nat_eq) (append_assoc front back (first ∷ []))
    (IsDistinct-push nat_eq_equiv (front ++ back) first distinct.1 (absent_by first (front ++ back) distinct.0)) in
    subst (IsDistinct nat_eq) (append_assoc back (first ∷ []) front)
    (distinct_turned front (back ++ first ∷ []) pushed)

-- a round may begin at each of its numbers
pub turned : (Next : ℕ → ℕ → Type 0) (front : List ℕ) (middle : ℕ) (back : List ℕ)
    → GoesRound Next (front ++ middle ∷ back) → GoesRound Next (middle ∷ (back ++ front))
turned Next [] middle back round = subst (λ tasks. GoesRound Next (middle ∷ tasks)) (sym (append-nil back)) round
turned Next (first ∷ front) middle back round =
    let parts = leads_split Next first middle first front back round.1 in (
      distinct_turned (first ∷ front) (middle ∷ back) round.0,
      leads_join Next middle first middle back front parts.1 parts.0,
    )

-- each step of a round is one of another relation, if that has all steps of the first one
pub leads_map : (One Other : ℕ → ℕ → Type 0) → ((task next : ℕ) → One task next → Other task next)
    → (goal task : ℕ) (tasks : List ℕ) → LeadsRound One goal task tasks → LeadsRound Other goal task tasks
leads_map One Other of goal task [] leads = of task goal leads
leads_map One Other of goal task (next ∷ others) leads =
    (of task next leads.0, leads_map One Other of goal next others leads.1)

pub round_map : (One Other : ℕ → ℕ → Type 0) → ((task next : ℕ) → One task next → Other task next)
    → (tasks : List ℕ) → GoesRound One tasks → GoesRound Other tasks
round_map One Other of [] round = round
round_map One Other of (first ∷ others) round = (round.0, leads_map One Other of first first others round.1)

-- one number is at most another one, or greater
pub le_or_lt : (one other : ℕ) → (one ≤ other) ⊎ (other < one)
le_or_lt zero other = inl (omega arith)
le_or_lt (suc one) zero = inr (omega arith)
le_or_lt (suc one) (suc other) =
    ⊎_elim (λ le. inl (omega (arith, le))) (λ lt. inr (omega (arith, lt))) (le_or_lt one other)

-- the least number of a list, with what is before it and what after it
pub record LeastOf (numbers : List ℕ) : Type 0 where
  pub front : List ℕ
  pub number : ℕ
  pub back : List ℕ
  pub parts : numbers ≡ front ++ number ∷ back
  pub least : All (λ other. number ≤ other) numbers

pub least_of : (first : ℕ) (others : List ℕ) → LeastOf (first ∷ others)
least_of first [] = record {
  front = [];
  number = first;
  back = [];
  parts = refl;
  least = All-cons (λ other. first ≤ other) first [] (omega arith) (All-nil (λ other. first ≤ other));
}
least_of first (second ∷ others) = by (least_of second others)
  where
    below : (one other : ℕ) (numbers : List ℕ) → one ≤ other → All (λ number. other ≤ number) numbers
        → All (λ number. one ≤ number) numbers
    below one other numbers le all place none within = omega (arith, le, all place none within)

    by : LeastOf (second ∷ others) → LeastOf (first ∷ second ∷ others)
    by found = ⊎_elim
        (λ (le : first ≤ found.number). record {
          front = [];
          number = first;
          back = second ∷ others;
          parts = refl;
          least = All-cons (λ other. first ≤ other) first (second ∷ others) (omega arith)
              (below first found.number (second ∷ others) le found.least);
        })
        (λ (lt : found.number < first). record {
          front = first ∷ found.front;
          number = found.number;
          back = found.back;
          parts = ap (λ numbers. first ∷ numbers) found.parts;
          least = All-cons (λ other. found.number ≤ other) first (second ∷ others) (omega (arith, lt)) found.least;
        })
        (le_or_lt first found.number)
