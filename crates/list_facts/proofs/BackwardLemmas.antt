-- Lists whose items a loop takes from the last one to the first.
use Rattle.std.proofs.Common.{List, ◌≡◌, ◌++◌, ◌∷◌, ◌∙◌, ap, append_assoc, [], length}
use Rattle.std.proofs.lemmas.List.{nil_from_length}

-- the items that are left are followed by those that were taken, also after one more was taken
pub one_back : {A : Type 0} {items rest : List A} (others : List A) (last : A) (done : List A) → items ≡ rest ++ done
    → rest ≡ others ++ last ∷ [] → items ≡ others ++ last ∷ done
one_back others last done is rest_is =
    is ∙ (ap (λ (left : List _). left ++ done) rest_is ∙ append_assoc others (last ∷ []) done)

-- at the end all were taken
pub all_back : {A : Type 0} {items : List A} (rest : List A) {done : List A} → items ≡ rest ++ done → length rest ≡ 0
    → items ≡ done
all_back rest {done} is none = is ∙ ap (λ (left : List _). left ++ done) (nil_from_length rest none)
