use Rattle.std.proofs.Common.{◌≡◌, ◌++◌, drop, length}
use Rattle.abs_parser.specs.TreesOf.{unescaped}
use Rattle.abs_parser.proofs.literals.text.Given as goal

-- the bytes that were read so far, followed by the value of the rest, are the value of the literal
abbrev pub invariant-loop-byte : goal.invariant-loop-byte
invariant-loop-byte l = l.bytes.items ++ unescaped l.rest ≡ unescaped (drop 1 l.literal)

abbrev pub decreases-loop-byte : goal.decreases-loop-byte
decreases-loop-byte l = length l.rest
