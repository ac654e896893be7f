-- The run of a list: its longest prefix whose items all pass a test. No item that passes follows it.
use Rattle.std.proofs.Common.{ℕ, Bool, List, ◌≡◌, take, cond, ◌+◌, ◌∷◌, true, subst, sym, false, one-add, refl, [], drop, ◌++◌, length, arith}
use Rattle.std.specs.List.{AllPass, prefix_len}
use Rattle.std.proofs.lemmas.List.Elements.{All-cons, All-nil, All-head, All-tail}

-- each byte of the run passes
passes_by : (p : ℕ → Bool) (b : Bool) (x : ℕ) (xs : List ℕ) → p x ≡ b → AllPass p (take (prefix_len p xs) xs)
    → AllPass p (take (cond b (1 + prefix_len p xs) 0) (x ∷ xs))
passes_by p true x xs e rest =
    subst (λ (n : ℕ). AllPass p (take n (x ∷ xs))) (sym (one-add (prefix_len p xs)))
    (All-cons (λ y. p y ≡ true) x (take (prefix_len p xs) xs) e rest)
passes_by p false x xs e rest = All-nil (λ y. p y ≡ true)

pub run_passes : (p : ℕ → Bool) (xs : List ℕ) → AllPass p (take (prefix_len p xs) xs)
run_passes p [] = All-nil (λ x. p x ≡ true)
run_passes p (x ∷ xs) = passes_by p (p x) x xs refl (run_passes p xs)

-- no byte that passes follows the run
ends_by : (p : ℕ → Bool) (b : Bool) (x : ℕ) (xs : List ℕ) → p x ≡ b → prefix_len p (drop (prefix_len p xs) xs) ≡ 0
    → prefix_len p (drop (cond b (1 + prefix_len p xs) 0) (x ∷ xs)) ≡ 0
ends_by p true x xs e rest = subst (λ (n : ℕ). prefix_len p (drop n (x ∷ xs)) ≡ 0) (sym (one-add (prefix_len p xs)))
    rest
ends_by p false x xs e rest = rw e refl

pub run_ends : (p : ℕ → Bool) (xs : List ℕ) → prefix_len p (drop (prefix_len p xs) xs) ≡ 0
run_ends p [] = refl
run_ends p (x ∷ xs) = ends_by p (p x) x xs refl (run_ends p xs)

-- if all of a list passes, its run with a rest is as long as the list and the run of the rest
pub run_over : (p : ℕ → Bool) (xs ys : List ℕ) → AllPass p xs → prefix_len p (xs ++ ys) ≡ length xs + prefix_len p ys
run_over p [] ys h = omega arith
run_over p (x ∷ xs) ys h =
    let passes : p x ≡ true = All-head (λ y. p y ≡ true) x xs h in
    let rest = run_over p xs ys (All-tail (λ y. p y ≡ true) x xs h) in
    rw (passes, rest) (omega arith)

-- if all of a list passes, and no byte that passes follows it, the list is the run
pub run_is : (p : ℕ → Bool) (xs ys : List ℕ) → AllPass p xs → prefix_len p ys ≡ 0 → prefix_len p (xs ++ ys) ≡ length xs
run_is p xs ys h none = omega (arith, run_over p xs ys h)
