-- No two groups are equal, so a search finds the number of one.
use Rattle.std.proofs.Common.{◌∙◌, ap, position}
use Rattle.circularity_test.proofs.NodeLemmas.{group_eq, group_eq_decides, number_found}
use Rattle.circularity_test.specs.Network.{group_by}
use Rattle.circularity_test.proofs.network.Groups.number.Goals as goal

pub returns : goal.returns
returns c number =
    let keys = c.args.self.now.groups.keys in
    number_found group_eq group_eq_decides keys c.len-count.ensures.unique
    (group_by c.args.target.now.kind.now c.args.target.now.component) c.get_index_of.result
    (c.get_index_of.ensures.index ∙ ap (λ key. position (group_eq key) keys) c.with.ensures) number
