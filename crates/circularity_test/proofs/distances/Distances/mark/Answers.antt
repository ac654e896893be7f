use Rattle.std.proofs.Common.{◌∙◌, nat_eq, sym}
use Rattle.circularity_test.proofs.MarkLemmas.{no_mark, some_mark, spreads_known, spreads_new}
use Rattle.circularity_test.specs.Distances.{mark_in}
use Rattle.indexmap.proofs.CallerLemmas.{insert_entry-new}
use Rattle.circularity_test.proofs.distances.Distances.mark.Goals as goal

pub returns-in_ok-insert : goal.returns-in_ok-insert
returns-in_ok-insert c =
    let none = no_mark (mark_in c.args.self.now.marks.entries c.args.node)
    (sym c.contains_key.ensures ∙ c.if-not-contains_key.true) in
    spreads_new c.args.node c.args.distance c.args.self.now.marks.entries c.insert.new.self.entries
    (c.in_ok-insert.ensures.entries
    ∙ insert_entry-new nat_eq c.args.self.now.marks c.args.node c.args.distance none)

pub returns-else-not-contains_key : goal.returns-else-not-contains_key
returns-else-not-contains_key c =
    let mark = some_mark (mark_in c.args.self.now.marks.entries c.args.node)
    (sym c.contains_key.ensures ∙ c.if-not-contains_key.false) in
    spreads_known c.args.node mark.0 c.args.distance c.args.self.now.marks.entries mark.1
