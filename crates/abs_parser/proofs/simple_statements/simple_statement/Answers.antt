use Rattle.std.proofs.Common.{refl}
use Rattle.abs_tree.specs.SyntaxViews.{tests}
use Rattle.abs_parser.specs.Views.{spot}
use Rattle.abs_parser.proofs.reader.KeywordStatementSteps.{refused_simple, refused_guard, refused_value, refused_printed, skip_read, suspend_read, await_read, return_read, println_read, parses_closed}
use Rattle.abs_parser.proofs.reader.ResultLemmas.{passed_on}
use Rattle.abs_parser.proofs.simple_statements.simple_statement.Goals as goal

pub returns-in_err-token-clause-parses : goal.returns-in_err-token-clause-parses
returns-in_err-token-clause-parses c =
    passed_on _ _ c.from_residual.result c.from_residual.ensures.1
    (refused_simple c.args.keyword c.args.depth (spot c.args.from) _ c.requires.simple c.requires.begins
    c.in_err-token.ensures.refused)

pub returns-in_err-guard-in-Await-clause-parses : goal.returns-in_err-guard-in-Await-clause-parses
returns-in_err-guard-in-Await-clause-parses c =
    passed_on _ _ c.from_residual-in_err-guard-in-Await.result c.from_residual-in_err-guard-in-Await.ensures.1
    (refused_guard c.args.depth _ c.in-Await.is c.in_ok-token.ensures.found c.in_ok-token.ensures.within
    c.in_err-guard-in-Await.ensures)

pub returns-in_err-returned-in-Return-clause-parses : goal.returns-in_err-returned-in-Return-clause-parses
returns-in_err-returned-in-Return-clause-parses c =
    passed_on _ _ c.from_residual-in_err-returned-in-Return.result c.from_residual-in_err-returned-in-Return.ensures.1
    (refused_value c.args.depth _ c.in-Return.is c.in_ok-token.ensures.found c.in_ok-token.ensures.within
    c.in_err-returned-in-Return.ensures)

pub returns-in_err-printed-in-Println-clause-parses : goal.returns-in_err-printed-in-Println-clause-parses
returns-in_err-printed-in-Println-clause-parses c =
    passed_on _ _ c.from_residual-in_err-printed-in-Println.result c.from_residual-in_err-printed-in-Println.ensures.1
    (refused_printed c.args.depth _ c.in-Println.is c.in_ok-token.ensures.found c.in_ok-token.ensures.within
    c.in_err-printed-in-Println.ensures.refused)

pub returns-in-Skip-clause-parses : goal.returns-in-Skip-clause-parses
returns-in-Skip-clause-parses c =
    let read = skip_read c.args.index c.args.symbols.now c.in-Skip.is c.in_ok-token.ensures.found
    c.in_ok-token.ensures.within in
    parses_closed _ _ _ c.closed.result read c.in_ok-token.ensures.within (λ names. refl) c.closed.ensures.same
    c.closed.ensures.found c.closed.ensures.refused

pub returns-in-Suspend-clause-parses : goal.returns-in-Suspend-clause-parses
returns-in-Suspend-clause-parses c =
    let read = suspend_read c.args.index c.args.symbols.now c.in-Suspend.is c.in_ok-token.ensures.found
    c.in_ok-token.ensures.within in
    parses_closed _ _ _ c.closed-in-Suspend.result read c.in_ok-token.ensures.within (λ names. refl)
    c.closed-in-Suspend.ensures.same c.closed-in-Suspend.ensures.found c.closed-in-Suspend.ensures.refused

pub returns-in_ok-guard-in-Await-clause-parses : goal.returns-in_ok-guard-in-Await-clause-parses
returns-in_ok-guard-in-Await-clause-parses c =
    let read = await_read c.args.index (λ names. tests names c.in_ok-guard-in-Await.guard.items) c.in-Await.is
    c.in_ok-token.ensures.found c.in_ok-guard-in-Await.ensures c.in_ok-token.ensures.within in
    parses_closed _ _ _ c.closed-in-Await.result read c.in_ok-token.ensures.within (λ names. refl)
    c.closed-in-Await.ensures.same c.closed-in-Await.ensures.found c.closed-in-Await.ensures.refused

pub returns-in_ok-value-in-Return-clause-parses : goal.returns-in_ok-value-in-Return-clause-parses
returns-in_ok-value-in-Return-clause-parses c =
    let read = return_read c.args.index c.in_ok-value-in-Return.value c.in-Return.is c.in_ok-value-in-Return.ensures.ok
    c.in_ok-token.ensures.found c.in_ok-returned-in-Return.ensures c.in_ok-token.ensures.within in
    parses_closed _ _ _ c.closed-in-Return.result read c.in_ok-token.ensures.within (λ names. refl)
    c.closed-in-Return.ensures.same c.closed-in-Return.ensures.found c.closed-in-Return.ensures.refused

pub returns-in_ok-value-in-Println-clause-parses : goal.returns-in_ok-value-in-Println-clause-parses
returns-in_ok-value-in-Println-clause-parses c =
    let read = println_read c.args.index c.in_ok-value-in-Println.value c.in-Println.is
    c.in_ok-value-in-Println.ensures.ok c.in_ok-token.ensures.found c.in_ok-printed-in-Println.ensures.found
    c.in_ok-token.ensures.within in
    parses_closed _ _ _ c.closed-in-Println.result read c.in_ok-token.ensures.within (λ names. refl)
    c.closed-in-Println.ensures.same c.closed-in-Println.ensures.found c.closed-in-Println.ensures.refused
