use Rattle.std.proofs.Common.{◌≡◌, ◌+◌, length}
use Rattle.abs_lexer.specs.Scans.{increased_by, closing_quote}
use Rattle.abs_lexer.proofs.span.closing_quote.Given as goal

abbrev pub invariant-loop-byte : goal.invariant-loop-byte
invariant-loop-byte l = record {
  is : closing_quote l.bytes ≡ increased_by l.count (closing_quote l.rest);
  within : l.count + length l.rest ≡ length l.bytes;
}

abbrev pub decreases-loop-byte : goal.decreases-loop-byte
decreases-loop-byte l = length l.rest
