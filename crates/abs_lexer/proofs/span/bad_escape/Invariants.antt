use Rattle.std.proofs.Common.{◌≡◌, ◌+◌, length}
use Rattle.abs_lexer.specs.Scans.{bad_escape}
use Rattle.abs_lexer.proofs.span.bad_escape.Given as goal

abbrev pub invariant-loop-byte : goal.invariant-loop-byte
invariant-loop-byte l = record {
  is : bad_escape l.bytes ≡ l.count + bad_escape l.rest;
  within : l.count + length l.rest ≡ length l.bytes;
}

abbrev pub decreases-loop-byte : goal.decreases-loop-byte
decreases-loop-byte l = length l.rest
