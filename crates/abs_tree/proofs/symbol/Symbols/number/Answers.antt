use Rattle.std.proofs.Common.{◌≡◌, [], length, sym, ap, ◌∙◌, arith}
use Rattle.std.proofs.lemmas.List.{length-map}
use Rattle.abs_tree.specs.Names.{number_of_name}
use Rattle.abs_tree.proofs.NumberLemmas.{own_number-map, outside_name, number_of_found, number_of_new}
use Rattle.abs_tree.proofs.symbol.Symbols.number.Goals as goal

pub returns-then-symbol-count-clause-number : goal.returns-then-symbol-count-clause-number
returns-then-symbol-count-clause-number c =
    let keys = c.self.inside.names.keys in
    rw (← c.self.view_is) (sym (own_number-map (λ n. n.now) keys c.args.symbol c.len-count.ensures.unique
    (omega (arith, c.len-count.ensures.len))))

pub returns-in-Some-clause-number : goal.returns-in-Some-clause-number
returns-in-Some-clause-number c =
    let names = c.args.self.now in
    let count : c.len-count.result ≡ length names =
    rw (← c.self.view_is) (c.len-count.ensures.len ∙ sym (length-map c.self.inside.names.keys (λ n. n.now))) in
    number_of_found names [] c.in-Some.empty c.in-Some.ensures
    ∙ sym (ap (number_of_name names) (outside_name names c.args.symbol (omega arith)))

pub returns-in-None-clause-number : goal.returns-in-None-clause-number
returns-in-None-clause-number c =
    let names = c.args.self.now in
    let count : c.len-count.result ≡ length names =
    rw (← c.self.view_is) (c.len-count.ensures.len ∙ sym (length-map c.self.inside.names.keys (λ n. n.now))) in
    count ∙ number_of_new names [] c.in-None.ensures
    ∙ sym (ap (number_of_name names) (outside_name names c.args.symbol (omega arith)))
