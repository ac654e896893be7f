use Rattle.std.proofs.Common.{◌≡◌, ◌++◌, string_bytes}
use Rattle.abs_options.specs.Generated.{class_lines}
use Rattle.abs_options.proofs.generator.push_classes.Given as goal

abbrev pub invariant-loop-before : goal.invariant-loop-before
invariant-loop-before l = string_bytes l.text ≡ string_bytes l.fn.text ++ class_lines l.before
