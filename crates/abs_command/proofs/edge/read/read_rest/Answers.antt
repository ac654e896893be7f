use Rattle.std.proofs.Common.{◌++◌, take, arith, length-take-le}
use Rattle.std.proofs.lemmas.Grind.{common_steps}
use Rattle.std.proofs.lemmas.Result.{err_from_is_err_and}
use Rattle.abs_command.proofs.edge.read.read_rest.Goals as goal
use Rattle.list_facts.proofs.StreamLemmas.{Consumes-then}

-- What was read before memory ran out was taken too.
pub returns-in_err-extend_from_slice-clause-some :
    goal.returns-in_err-extend_from_slice-clause-some
returns-in_err-extend_from_slice-clause-some g c =
    let error = err_from_is_err_and c.from_residual.result c.from_residual.ensures.1 in
    let bytes = c.loop-buffer.bytes.items in
    let piece = take c.in-Ok.count c.read.new.buffer in
    let long = length-take-le c.in-Ok.count c.read.new.buffer c.in-Ok.ensures.at_most in
    rw error.1 (record {
      bytes = bytes ++ piece;
      taken = Consumes-then _ _ _ _ _ c.loop-buffer.invariant.taken c.in-Ok.ensures.consumed.0;
      at_most = grind (arith, common_steps, long);
    })
