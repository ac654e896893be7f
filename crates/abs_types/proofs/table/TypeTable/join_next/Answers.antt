use Rattle.std.proofs.lemmas.List.Elements.{All-take}
use Rattle.abs_types.proofs.TableJoinLemmas.{pairs_among_kept}
use Rattle.abs_types.specs.TypeParts.{ArePairAmong}
use Rattle.abs_types.specs.TypeTables.{types_in}
use Rattle.abs_types.proofs.table.TypeTable.join_next.Goals as goal

pub returns-in_err-join_once-clause-waiting : goal.returns-in_err-join_once-clause-waiting
returns-in_err-join_once-clause-waiting c =
    pairs_among_kept c.add_parts.new.waiting.items c.join_once.ensures.keeps c.in_ok-add_parts.ensures

pub returns-clause-waiting : goal.returns-clause-waiting
returns-clause-waiting c =
    rw c.truncate.ensures.items (All-take (ArePairAmong (types_in c.join_once.new.self)) c.len-count.result
    c.add_parts.new.waiting.items
    (pairs_among_kept c.add_parts.new.waiting.items c.join_once.ensures.keeps c.in_ok-add_parts.ensures))
