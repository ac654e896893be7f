use Rattle.std.proofs.Common.{◌≡◌, ◌∙◌, List, [], ◌∷◌, ◌++◌, sym, ap, subst, arith, length, length-append, length-drop, map}
use Rattle.std.proofs.lemmas.List.{map-append, append-nil}
use Rattle.std.proofs.lemmas.List.Elements.{All-nil, All-same, All-push}
use Rattle.abs_tree.specs.declared.place.Place.{Place}
use Rattle.abs_tree.specs.declared.refusal.Refusal.{Refusal}
use Rattle.abs_tree.specs.Refusals.{refusal_of}
use Rattle.abs_lexer.specs.declared.token.Token.{Token}
use Rattle.abs_lexer.specs.Answers.{RefusesLexing}
use Rattle.abs_lexer.specs.Tokens.{Lexed, IsWellFormed}
use Rattle.abs_lexer.specs.Views.{lexed}
use Rattle.abs_lexer.proofs.LeadLemmas.{Leads, leads_whole, slices, rising}
use Rattle.abs_lexer.proofs.LeadLemmas.Leads.{begin}
use Rattle.abs_lexer.proofs.TakenLemmas.{some_left, none_left, blank_taken, token_taken, token_at, stop_few, stop_refuses, leads_on, leads_at, lexed_is}
use Rattle.abs_lexer.proofs.lexer.tokens.Goals as goal

pub loop-count-init : goal.loop-count-init
loop-count-init c =
    let none = c.new-list.ensures.items in
    record {
      leads = subst (λ (items : List Token).
          Leads c.args.source.now (map lexed items) c.new-here.result.place c.new-here.result.rest.now) (sym none)
          (begin c.new-here.result.rest.now c.new-here.result.place c.new-here.ensures.rest c.new-here.ensures.place);
      few = omega (arith, ap length none, ap length c.new-here.ensures.rest);
      well_formed = All-same (λ token. IsWellFormed (lexed token)) c.new-list.result.items [] none
          (All-nil (λ token. IsWellFormed (lexed token)));
    }

pub advance-here-requires : goal.advance-here-requires
advance-here-requires c =
    let some = some_left c.is_empty.result (length c.loop-count.here.rest.now) c.is_empty.ensures c.loop-count-test.true
    in
    (blank_taken c.loop-count.here.place c.loop-count.here.rest.now c.in-Blank.count some c.in-Blank.ensures).few

pub loop-count-smaller-in-Blank : goal.loop-count-smaller-in-Blank
loop-count-smaller-in-Blank c =
    let some = some_left c.is_empty.result (length c.loop-count.here.rest.now) c.is_empty.ensures c.loop-count-test.true
    in
    let taken = blank_taken c.loop-count.here.place c.loop-count.here.rest.now c.in-Blank.count some c.in-Blank.ensures
    in
    omega (
      arith,
      taken.some,
      taken.few,
      ap length c.advance-here.ensures.rest,
      length-drop c.in-Blank.count
          c.loop-count.here.rest.now,
    )

pub loop-count-preserved-in-Blank : goal.loop-count-preserved-in-Blank
loop-count-preserved-in-Blank c =
    let some = some_left c.is_empty.result (length c.loop-count.here.rest.now) c.is_empty.ensures c.loop-count-test.true
    in
    let taken = blank_taken c.loop-count.here.place c.loop-count.here.rest.now c.in-Blank.count some c.in-Blank.ensures
    in
    record {
      leads = leads_at (sym (append-nil (map lexed c.loop-count.list.items))) c.advance-here.ensures.place
          c.advance-here.ensures.rest (leads_on [] c.loop-count.invariant.leads taken);
      few = omega (
        arith,
        c.loop-count.invariant.few,
        ap length c.advance-here.ensures.rest,
        length-drop
            c.in-Blank.count c.loop-count.here.rest.now,
      );
      well_formed = c.loop-count.invariant.well_formed;
    }

pub split_at-requires : goal.split_at-requires
split_at-requires c =
    let some = some_left c.is_empty.result (length c.loop-count.here.rest.now) c.is_empty.ensures c.loop-count-test.true
    in
    (token_taken c.in-Token.kind c.loop-count.here.place c.loop-count.here.rest.now c.in-Token.count some
    c.in-Token.ensures).taken.few

pub loop-count-smaller : goal.loop-count-smaller
loop-count-smaller c =
    let some = some_left c.is_empty.result (length c.loop-count.here.rest.now) c.is_empty.ensures c.loop-count-test.true
    in
    let taken = (token_taken c.in-Token.kind c.loop-count.here.place c.loop-count.here.rest.now c.in-Token.count some
    c.in-Token.ensures).taken in
    omega (
      arith,
      taken.some,
      taken.few,
      ap length c.advance-here-in-Token.ensures.rest,
      length-drop c.in-Token.count
          c.loop-count.here.rest.now,
    )

pub loop-count-preserved : goal.loop-count-preserved
loop-count-preserved c =
    let some = some_left c.is_empty.result (length c.loop-count.here.rest.now) c.is_empty.ensures c.loop-count-test.true
    in
    let found = token_taken c.in-Token.kind c.loop-count.here.place c.loop-count.here.rest.now c.in-Token.count some
    c.in-Token.ensures in
    let pushed : Token = record { kind = c.in-Token.kind; place = c.loop-count.here.place; slice = c.split_at.result.0 }
    in
    let is = lexed_is c.in-Token.kind c.loop-count.here.place c.in-Token.count c.loop-count.here.rest.now
    c.split_at.result.0.now c.split_at.ensures.front in
    let items : c.push.new.self.items ≡ c.loop-count.list.items ++ pushed ∷ [] = c.in_ok-push-in-Token.ensures.items in
    let list = ap (map lexed) items
    ∙ (map-append lexed c.loop-count.list.items (pushed ∷ [])
    ∙ ap (λ (token : Lexed). map lexed c.loop-count.list.items ++ token ∷ []) is) in
    record {
      leads = leads_at list c.advance-here-in-Token.ensures.place c.advance-here-in-Token.ensures.rest
          (leads_on (token_at c.in-Token.kind c.loop-count.here.place c.in-Token.count c.loop-count.here.rest.now ∷ [])
          c.loop-count.invariant.leads found.taken);
      few = omega (
        arith,
        c.loop-count.invariant.few,
        ap length items,
        length-append c.loop-count.list.items (pushed ∷ []),
        found.taken.some,
        found.taken.few,
        ap length c.advance-here-in-Token.ensures.rest,
        length-drop c.in-Token.count c.loop-count.here.rest.now,
      );
      well_formed = All-same (λ token. IsWellFormed (lexed token)) c.push.new.self.items
          (c.loop-count.list.items ++ pushed ∷ []) items
          (All-push (λ token. IsWellFormed (lexed token)) c.loop-count.list.items pushed
          c.loop-count.invariant.well_formed (subst IsWellFormed (sym is) found.well_formed));
    }

pub advance-requires : goal.advance-requires
advance-requires c =
    let some = some_left c.is_empty.result (length c.loop-count.here.rest.now) c.is_empty.ensures c.loop-count-test.true
    in
    stop_few c.loop-count.here.rest.now c.in-Offence.code c.in-Offence.count some c.in-Offence.ensures

pub returns-in-Offence-clause-refused : goal.returns-in-Offence-clause-refused
returns-in-Offence-clause-refused c =
    let some = some_left c.is_empty.result (length c.loop-count.here.rest.now) c.is_empty.ensures c.loop-count-test.true
    in
    let first = stop_refuses c.loop-count.here.place c.loop-count.here.rest.now c.in-Offence.code c.in-Offence.count
    some c.loop-count.invariant.leads c.in-Offence.ensures in
    subst (λ (refusal : Refusal). RefusesLexing c.args.source.now refusal)
    (sym (c.refusal.ensures ∙ ap (λ (place : Place). refusal_of (record { code = c.in-Offence.code; place = place }))
    c.advance.ensures.place)) first

pub returns-clause-found : goal.returns-clause-found
returns-clause-found c = leads_whole
    (none_left c.is_empty.result c.loop-count.here.rest.now c.is_empty.ensures c.loop-count-test.false)
    c.loop-count.invariant.leads

pub returns-clause-slices : goal.returns-clause-slices
returns-clause-slices c = slices
    (leads_whole (none_left c.is_empty.result c.loop-count.here.rest.now c.is_empty.ensures c.loop-count-test.false)
    c.loop-count.invariant.leads)

pub returns-clause-rising : goal.returns-clause-rising
returns-clause-rising c = rising
    (leads_whole (none_left c.is_empty.result c.loop-count.here.rest.now c.is_empty.ensures c.loop-count-test.false)
    c.loop-count.invariant.leads)
