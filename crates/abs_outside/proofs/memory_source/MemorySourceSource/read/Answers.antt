-- A read takes what it hands over from the front of what was left, and nothing only at the end.
use Rattle.std.proofs.Common.{ℕ, List, rules}
use Rattle.abs_outside.specs.Files.{selected_content}
use Rattle.abs_outside.proofs.BytesLeft.{left-read, left-no_count}
use Rattle.abs_outside.proofs.memory_source.MemorySourceSource.read.Goals as goal

pub returns-clause-consumed : goal.returns-clause-consumed
returns-clause-consumed c =
    let content : List ℕ = selected_content c.args.self.now.files.items c.args.self.now.selected in
    let buffer : List ℕ = c.args.buffer.now in
    let copied : List ℕ = c.copy_from_slice.new.self in
    let position : ℕ = c.args.self.now.position in
    let count : ℕ = c.min-count.result in (
      left-read content buffer copied position count (search rules) (search rules),
      left-no_count content buffer copied position c.min.result count (search rules) (search rules) (search rules),
    )
