-- A read takes what it hands over from the front of what was left, and nothing only at the end.
use Rattle.std.proofs.Common.{ℕ, List, length, rules}
use Rattle.abs_outside.proofs.BytesLeft.{left-read, left-no_count}
use Rattle.abs_outside.proofs.pure_source.PureSourceSource.read.Goals as goal

pub returns-clause-consumed : goal.returns-clause-consumed
returns-clause-consumed c =
    let content : List ℕ = c.args.self.now.content.items in
    let buffer : List ℕ = c.args.buffer.now in
    let copied : List ℕ = c.copy_from_slice.new.self in
    let position : ℕ = c.args.self.now.position in
    let count : ℕ = c.min-count.result in (
      left-read content buffer copied position count (search rules) (search rules),
      left-no_count content buffer copied position (length buffer) count (search rules) (search rules) (search rules),
    )
