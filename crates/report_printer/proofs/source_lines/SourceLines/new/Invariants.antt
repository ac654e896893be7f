use Rattle.std.proofs.Common.{◌≡◌, ◌++◌}
use Rattle.memchr.specs.Find.{is_byte, places}
use Rattle.report_printer.proofs.source_lines.SourceLines.new.Given as goal

-- those found so far, and those that are left
abbrev pub invariant-finding : goal.invariant-finding
invariant-finding l = l.feeds.items ++ l.found ≡ places (is_byte 10) l.source
