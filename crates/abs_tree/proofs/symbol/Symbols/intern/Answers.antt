use Rattle.std.proofs.Common.{◌∙◌, sym, ap, map}
use Rattle.std.specs.Str.{bytes_eq}
use Rattle.abs_tree.proofs.symbol.Symbols.intern.Goals as goal
use Rattle.list_facts.proofs.MapLemmas.{position_or_len-map, inserted-map}

pub returns-clause-symbol : goal.returns-clause-symbol
returns-clause-symbol c =
    rw (← c.self.view_is) (c.in_ok-index.ensures.index
    ∙ sym (position_or_len-map (λ n. n.now) (bytes_eq c.args.name.now) c.self.inside.names.keys))

pub returns-clause-names : goal.returns-clause-names
returns-clause-names c =
    rw (← c.self.view_is) (ap (map (λ n. n.now)) c.in_ok-index.ensures.keys
    ∙ inserted-map (λ n. n.now) (bytes_eq c.args.name.now) c.self.inside.names.keys c.args.name)
