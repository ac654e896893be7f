use Rattle.std.proofs.Common.{◌≡◌, ◌++◌, drop}
use Rattle.abs_command.specs.Texts.{lines_text}
use Rattle.abs_command.proofs.texts.outcome.push_lines.Given as goal

-- the output so far, followed by the lines of the rest, is the whole output
abbrev pub invariant-loop-line : goal.invariant-loop-line
invariant-loop-line l = l.out.items ++ lines_text (drop l.line-index l.lines) ≡ l.fn.out.items ++ lines_text l.lines
