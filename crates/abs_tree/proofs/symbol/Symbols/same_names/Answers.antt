use Rattle.std.proofs.Common.{◌≡◌, ℕ, List, Bor, map, Decides, sym}
use Rattle.std.proofs.lemmas.Bool.Decides.{Decides-at}
use Rattle.std.proofs.lemmas.Slice.Eq.{bytes_eq-Decides}
use Rattle.std.specs.Cmp.Derive.Mapped.{pointwise-map}
use Rattle.std.specs.Cmp.Lexicographic.{pointwise, pointwise_decides}
use Rattle.std.specs.Str.{bytes_eq}
use Rattle.abs_tree.proofs.symbol.Symbols.same_names.Goals as goal

-- the bytes of a name
abbrev bytes_of : Bor (List ℕ) → List ℕ
bytes_of name = name.now

-- the comparison of names one by one tells whether their bytes are the same
names_equal-Decides : (ones others : List (Bor (List ℕ)))
    → Decides (pointwise (λ one other. bytes_eq (bytes_of one) (bytes_of other)) ones others)
    (map bytes_of ones ≡ map bytes_of others)
names_equal-Decides ones others =
    Decides-at _ _ (sym (pointwise-map bytes_of bytes_eq ones others)) (pointwise_decides bytes_eq-Decides _ _)

pub returns : goal.returns
returns c =
    rw (← c.self.view_is) (rw (← c.other.view_is)
    (rw (← c.as_slice.ensures.keys) (rw (← c.as_slice-2.ensures.keys)
    (Decides-at _ _ c.eq.ensures (names_equal-Decides _ _)))))
