use Rattle.std.proofs.Common.{◌≡◌, length, sym, ◌∙◌}
use Rattle.std.proofs.lemmas.List.{length-map}
use Rattle.abs_tree.proofs.NumberLemmas.{number_of_new}
use Rattle.abs_tree.proofs.symbol.Symbols.symbol_of.Goals as goal

pub returns-in-None : goal.returns-in-None
returns-in-None c =
    let count : c.len.result ≡ length c.args.self.now =
    rw (← c.self.view_is) (c.len.ensures.len ∙ sym (length-map c.self.inside.names.keys (λ n. n.now))) in
    count ∙ number_of_new c.args.self.now c.args.name.now c.in-None.ensures
