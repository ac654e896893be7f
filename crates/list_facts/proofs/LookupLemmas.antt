-- Look-ups in a list of entries by their keys, to which one entry is added.
use Rattle.std.proofs.Common.{List, Bool, ◌≡◌, Some, cond, true, false, ◌++◌, ◌∷◌, [], None, sym, ap}
use Rattle.std.specs.Map.{lookup}
use Rattle.std.proofs.lemmas.Option.{none-some}

-- what is found is found with one more entry: the case of one entry before
found_step : {K A : Type 0} (first : K × A) (others more : List (K × A)) (test : K → Bool) (found : A) (reported : Bool)
    → (lookup test others ≡ Some found → lookup test more ≡ Some found)
    → cond reported (Some first.1) (lookup test others) ≡ Some found
    → cond reported (Some first.1) (lookup test more) ≡ Some found
found_step first others more test found true rest is = is
found_step first others more test found false rest is = rest is

-- what is found is found with one more entry
pub lookup-still_found : {K A : Type 0} (entries : List (K × A)) (last : K × A) (test : K → Bool) (found : A)
    → lookup test entries ≡ Some found → lookup test (entries ++ last ∷ []) ≡ Some found
lookup-still_found [] last test found is = absurd (none-some found is)
lookup-still_found (first ∷ others) last test found is =
    found_step first others (others ++ last ∷ []) test found (test first.0) (lookup-still_found others last test found)
    is

-- what was not found is found as the last entry: the case of one entry before
last_step : {K A : Type 0} (first last : K × A) (others : List (K × A)) (test : K → Bool) (reported : Bool)
    → (lookup test others ≡ None → lookup test (others ++ last ∷ []) ≡ Some last.1)
    → cond reported (Some first.1) (lookup test others) ≡ None
    → cond reported (Some first.1) (lookup test (others ++ last ∷ [])) ≡ Some last.1
last_step first last others test true rest none = absurd (none-some first.1 (sym none))
last_step first last others test false rest none = rest none

-- what was not found is found as the last entry
pub lookup-last_found : {K A : Type 0} (entries : List (K × A)) (last : K × A) (test : K → Bool)
    → lookup test entries ≡ None → test last.0 ≡ true → lookup test (entries ++ last ∷ []) ≡ Some last.1
lookup-last_found [] last test none passes = ap (λ (reported : Bool). cond reported (Some last.1) None) passes
lookup-last_found (first ∷ others) last test none passes =
    last_step first last others test (test first.0) (λ is_none. lookup-last_found others last test is_none passes) none
