-- The orders of pairs and of chains are total, and tell different ones apart.
--
--   `kinds_same`, `pairs_same`, `chains_same`      what the order does not tell apart is the same
--   `pair_order_total`, `chain_order_total`        these orders are total
--   `least_same`                                   two chains of which neither comes later are the same
use Rattle.std.proofs.Common.{◌≡◌, ◌∙◌, true, ℕ, List, [], ◌∷◌, length, refl, sym, ap}
use Rattle.std.specs.Cmp.{IsTotalOrder, nat_cmp_total, on_total, then_total}
use Rattle.std.specs.Cmp.Lexicographic.{slice_cmp, lists_total, nat_list_cmp_total}
use Rattle.std.specs.Ordering.{is_le, nat_cmp, ordering_reverse, ordering_then}
use Rattle.std.specs.declared.cmp.Ordering.{Ordering}
use Rattle.std.specs.declared.cmp.Ordering.TheVariants.{Less, Equal, Greater}
use Rattle.list_facts.proofs.OrderingLemmas.{both_equal, nat_cmp-equal}
use Rattle.abs_tree.specs.declared.symbol.Symbol.{Symbol}
use Rattle.contract_terms.specs.Chains.{chain_order}
use Rattle.contract_terms.specs.Pairs.{mode_order, kind_order, pair_order}
use Rattle.contract_terms.specs.declared.pair.Mode.{Mode}
use Rattle.contract_terms.specs.declared.pair.Mode.TheVariants.{Get, Await}
use Rattle.contract_terms.specs.declared.pair.Pair.{Pair}
use Rattle.name_bounding.specs.declared.kind.Kind.{Kind}
use Rattle.name_bounding.specs.declared.kind.Kind.TheVariants.{Main, Method}
use Rattle.name_bounding.specs.declared.kind.Sign.{Sign}

-- lists that an order does not tell apart are the same, if it tells elements apart
lists_same : {A : Type 0} (R : A → A → Ordering) → ((x y : A) → R x y ≡ Equal → x ≡ y) → (xs ys : List A)
    → slice_cmp R xs ys ≡ Equal → xs ≡ ys
lists_same R same [] [] e = refl
lists_same R same [] (y ∷ ys) e = absurd (cc)
lists_same R same (x ∷ xs) [] e = absurd (cc)
lists_same R same (x ∷ xs) (y ∷ ys) e =
    let both = both_equal (R x y) (slice_cmp R xs ys) e in
    ap (λ it. it ∷ xs) (same x y both.0) ∙ ap (λ those. y ∷ those) (lists_same R same xs ys both.1)

modes_same : (one other : Mode) → mode_order one other ≡ Equal → one ≡ other
modes_same Get Get e = refl
modes_same Get Await e = absurd (cc)
modes_same Await Get e = absurd (cc)
modes_same Await Await e = refl

signs_same : (one other : Sign) (own its : Symbol) → one.place ≡ other.place → one.cog ≡ other.cog → own.0 ≡ its.0
    → Method one own ≡ Method other its
signs_same one other own its places cogs methods =
    ap (λ place. Method (record { place = place; cog = one.cog }) own) places
    ∙ (ap (λ cog. Method (record { place = other.place; cog = cog }) own) cogs
    ∙ ap (λ method. Method other (record { 0 = method })) methods)

pub kinds_same : (one other : Kind) → kind_order one other ≡ Equal → one ≡ other
kinds_same Main Main e = refl
kinds_same Main (Method sign method) e = absurd (cc)
kinds_same (Method sign method) Main e = absurd (cc)
kinds_same (Method sign method) (Method other its) e =
    let first = both_equal (nat_cmp sign.place other.place) _ e in
    let later = both_equal (slice_cmp nat_cmp sign.cog other.cog) (nat_cmp method.0 its.0) first.1 in
    signs_same sign other method its (nat_cmp-equal sign.place other.place first.0)
    (lists_same nat_cmp nat_cmp-equal sign.cog other.cog later.0) (nat_cmp-equal method.0 its.0 later.1)

pub pairs_same : (one other : Pair) → pair_order one other ≡ Equal → one ≡ other
pairs_same one other e =
    let places = both_equal (nat_cmp one.place other.place) _ e in
    let calls = both_equal (nat_cmp one.call other.call) _ places.1 in
    let modes = both_equal (mode_order one.mode other.mode) _ calls.1 in
    let kinds = both_equal (kind_order one.source other.source) (kind_order one.target other.target) modes.1 in
    ap (λ place. record one { place = place }) (nat_cmp-equal one.place other.place places.0)
    ∙ (ap (λ call. record one { place = other.place; call = call }) (nat_cmp-equal one.call other.call calls.0)
    ∙ (ap (λ mode. record one { place = other.place; call = other.call; mode = mode })
    (modes_same one.mode other.mode modes.0)
    ∙ (ap (λ source. record other { source = source; target = one.target })
    (kinds_same one.source other.source kinds.0)
    ∙ ap (λ target. record other { target = target }) (kinds_same one.target other.target kinds.1))))

mode_order_total : IsTotalOrder mode_order
mode_order_total = record {
  antisymm = λ one other. turned one other;
  trans = λ one two three. chained one two three;
  congr = λ one two three. alike one two three;
}
  where
    turned : (one other : Mode) → mode_order one other ≡ ordering_reverse (mode_order other one)
    turned Get Get = refl
    turned Get Await = refl
    turned Await Get = refl
    turned Await Await = refl

    chained : (one two three : Mode) → mode_order one two ≡ Less → mode_order two three ≡ Less
        → mode_order one three ≡ Less
    chained Get Get three e f = absurd (cc)
    chained Get Await Get e f = absurd (cc)
    chained Get Await Await e f = refl
    chained Await Get three e f = absurd (cc)
    chained Await Await three e f = absurd (cc)

    alike : (one two three : Mode) → mode_order one two ≡ Equal → mode_order one three ≡ mode_order two three
    alike one two three e = ap (λ it. mode_order it three) (modes_same one two e)

-- the order of methods
abbrev method_order : Sign × Symbol → Sign × Symbol → Ordering
method_order one other =
    ordering_then (nat_cmp one.0.place other.0.place)
    (ordering_then (slice_cmp nat_cmp one.0.cog other.0.cog) (nat_cmp one.1.0 other.1.0))

method_order_total : IsTotalOrder method_order
method_order_total =
    then_total (on_total (λ it. it.0.place) nat_cmp_total)
    (then_total (on_total (λ it. it.0.cog) nat_list_cmp_total) (on_total (λ it. it.1.0) nat_cmp_total))

kind_order_total : IsTotalOrder kind_order
kind_order_total = record {
  antisymm = λ one other. turned one other;
  trans = λ one two three. chained one two three;
  congr = λ one two three e. ap (λ it. kind_order it three) (kinds_same one two e);
}
  where
    turned : (one other : Kind) → kind_order one other ≡ ordering_reverse (kind_order other one)
    turned Main Main = refl
    turned Main (Method sign method) = refl
    turned (Method sign method) Main = refl
    turned (Method sign method) (Method other its) = method_order_total.antisymm (sign, method) (other, its)

    chained : (one two three : Kind) → kind_order one two ≡ Less → kind_order two three ≡ Less
        → kind_order one three ≡ Less
    chained Main Main three e f = absurd (cc)
    chained Main (Method sign method) Main e f = absurd (cc)
    chained Main (Method sign method) (Method other its) e f = refl
    chained (Method sign method) Main three e f = absurd (cc)
    chained (Method sign method) (Method other its) Main e f = absurd (cc)
    chained (Method sign method) (Method other its) (Method third own) e f =
        method_order_total.trans (sign, method) (other, its) (third, own) e f

pub pair_order_total : IsTotalOrder pair_order
pair_order_total =
    then_total (on_total (λ it. it.place) nat_cmp_total)
    (then_total (on_total (λ it. it.call) nat_cmp_total)
    (then_total (on_total (λ it. it.mode) mode_order_total)
    (then_total (on_total (λ it. it.source) kind_order_total) (on_total (λ it. it.target) kind_order_total))))

pub chain_order_total : IsTotalOrder chain_order
chain_order_total = then_total (on_total length nat_cmp_total) (lists_total pair_order_total)

pub chains_same : (one other : List Pair) → chain_order one other ≡ Equal → one ≡ other
chains_same one other e =
    lists_same pair_order pairs_same one other
    (both_equal (nat_cmp (length one) (length other)) (slice_cmp pair_order one other) e).1

neither_later : (r s : Ordering) → r ≡ ordering_reverse s → is_le r ≡ true → is_le s ≡ true → r ≡ Equal
neither_later Less Less e one other = absurd (cc)
neither_later Less Equal e one other = absurd (cc)
neither_later Less Greater e one other = absurd (cc)
neither_later Equal s e one other = refl
neither_later Greater s e one other = absurd (cc)

pub least_same : (one other : List Pair) → is_le (chain_order one other) ≡ true → is_le (chain_order other one) ≡ true
    → one ≡ other
least_same one other no_later no_earlier =
    chains_same one other
    (neither_later (chain_order one other) (chain_order other one) (chain_order_total.antisymm one other) no_later
    no_earlier)
