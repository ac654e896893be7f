-- Bytes that are taken or written one piece after another.
use Rattle.std.proofs.Common.{Option, List, ℕ, ◌++◌, None, Some, ◌∙◌, ap, sym, append_assoc, ◌≡◌, take, length, drop, take-append-drop, []}
use Rattle.std.specs.Io.KnownBytes.{Consumes, Appends}
use Rattle.std.specs.List.{between}
use Rattle.std.proofs.lemmas.List.{take_rest, append-nil}

-- a piece that is taken after another is taken with it
pub Consumes-then : (u v w : Option (List ℕ)) (a b : List ℕ) → Consumes u v a → Consumes v w b → Consumes u w (a ++ b)
Consumes-then None v w a b x y = tt
Consumes-then (Some xs) None w a b x y = absurd x
Consumes-then (Some xs) (Some ys) None a b x y = y
Consumes-then (Some xs) (Some ys) (Some zs) a b x y = x ∙ ap (λ (t : List ℕ). a ++ t) y ∙ sym (append_assoc a b zs)

-- a piece that is written after another is written with it
pub Appends-then : (u v w : Option (List ℕ)) (a b : List ℕ) → Appends u v a → Appends v w b → Appends u w (a ++ b)
Appends-then None v w a b x y = tt
Appends-then (Some xs) None w a b x y = absurd x
Appends-then (Some xs) (Some ys) None a b x y = y
Appends-then (Some xs) (Some ys) (Some zs) a b x y = y ∙ ap (λ (t : List ℕ). t ++ b) x ∙ append_assoc xs a b

-- a prefix of the rest moves to the part before it
pub front-moves : (all front rest : List ℕ) (n : ℕ) → all ≡ front ++ rest
    → all ≡ (front ++ take n rest) ++ between n (length rest) rest
front-moves all front rest n e =
    let apart : front ++ rest ≡ (front ++ take n rest) ++ drop n rest =
    ap (λ (t : List ℕ). front ++ t) (sym (take-append-drop n rest))
    ∙ sym (append_assoc front (take n rest) (drop n rest)) in
    e ∙ apart ∙ ap (λ (t : List ℕ). (front ++ take n rest) ++ t) (sym (take_rest rest n))

-- nothing was written
pub Appends-nothing : (known : Option (List ℕ)) → Appends known known []
Appends-nothing None = tt
Appends-nothing (Some bytes) = sym (append-nil bytes)
