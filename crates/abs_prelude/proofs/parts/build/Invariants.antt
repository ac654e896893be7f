use Rattle.std.proofs.Common.{◌≡◌, take, fold}
use Rattle.abs_prelude.proofs.parts.build.Given as goal
use Rattle.abs_prelude.specs.Codes.{no_parts, with_code}
use Rattle.abs_prelude.specs.PartViews.{part_trees}

-- the trees so far are those of the codes so far
abbrev pub invariant-loop-code : goal.invariant-loop-code
invariant-loop-code l = part_trees l.symbols l.parts ≡ fold with_code no_parts (take l.code-index l.codes)
