use Rattle.std.proofs.Common.{◌≡◌, ◌∙◌, ℕ, Some, None, sym, ap}
use Rattle.std.specs.Prelude.{option_map}
use Rattle.std.specs.List.{position}
use Rattle.std.specs.Str.{bytes_eq}
use Rattle.abs_tree.specs.declared.symbol.Symbol.{Symbol}
use Rattle.abs_tree.proofs.symbol.Symbols.find.Goals as goal
use Rattle.list_facts.proofs.MapLemmas.{position-map}

-- the symbol with a number
abbrev numbered : ℕ → Symbol
numbered number = record { 0 = number }

pub returns-in-Some : goal.returns-in-Some
returns-in-Some c =
    let at : position (bytes_eq c.args.name.now) c.args.self.now ≡ Some c.in-Some.index =
    rw (← c.self.view_is) (position-map (λ n. n.now) (bytes_eq c.args.name.now) c.self.inside.names.keys
    ∙ sym (c.in-Some.ensures.index)) in
    ap (option_map numbered) (sym at)

pub returns-in-None : goal.returns-in-None
returns-in-None c =
    let at : position (bytes_eq c.args.name.now) c.args.self.now ≡ None =
    rw (← c.self.view_is) (position-map (λ n. n.now) (bytes_eq c.args.name.now) c.self.inside.names.keys
    ∙ sym (c.in-None.ensures.index)) in
    ap (option_map numbered) (sym at)
