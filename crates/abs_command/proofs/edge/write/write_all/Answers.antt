use Rattle.std.proofs.Common.{◌++◌, take, arith}
use Rattle.abs_command.proofs.edge.write.write_all.Goals as goal
use Rattle.list_facts.proofs.StreamLemmas.{Appends-then, front-moves}

pub loop-rest-preserved : goal.loop-rest-preserved
loop-rest-preserved g c =
    let rest = c.loop-rest.rest.now in
    let count = c.in_ok-count.count in
    record {
      front = c.loop-rest.invariant.front ++ take count rest;
      parts = front-moves _ c.loop-rest.invariant.front rest count c.loop-rest.invariant.parts;
      written = Appends-then _ _ _ _ _ c.loop-rest.invariant.written c.in_ok-count.ensures.appended;
      never_falls = omega arith;
    }
