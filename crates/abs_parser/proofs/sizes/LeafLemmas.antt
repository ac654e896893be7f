-- The leaves of a forest, each of which is a token. The forest of a reading has as many leaves as tokens were taken.
use Rattle.std.proofs.Common.{◌≡◌, ℕ, ◌+◌, List, length, arith}
use Rattle.abs_parser.specs.TokenKinds.{Mark}
use Rattle.abs_parser.specs.Readings.{Wanted, Forest, Empty, Leaf, Node, Reads, Nothing, Taken, Opened}

-- the number of leaves of a forest
abbrev pub leaves : Forest → ℕ
leaves Empty = 0
leaves (Leaf mark depth others) = 1 + leaves others
leaves (Node goal inside others) = leaves inside + leaves others

-- the forest of a reading has as many leaves as tokens were taken
pub leaves_taken : {items : List Wanted} {ts rest : List Mark} {forest : Forest} → Reads items ts forest rest
    → leaves forest + length rest ≡ length ts
leaves_taken Nothing = omega arith
leaves_taken (Taken e reads) = omega (arith, leaves_taken reads)
leaves_taken (Opened e first reads) = omega (arith, leaves_taken first, leaves_taken reads)
