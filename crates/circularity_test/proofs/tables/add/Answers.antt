use Rattle.circularity_test.proofs.TableLemmas.{row_gains}
use Rattle.circularity_test.proofs.tables.add.Goals as goal

pub returns : goal.returns
returns c =
    row_gains c.args.rows.now.items c.args.number c.args.value c.index_mut.result.now c.push.new.self c.requires
    c.index_mut.ensures.value c.in_ok-push.ensures.items
