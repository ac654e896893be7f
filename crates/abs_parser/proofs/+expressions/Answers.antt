use Rattle.abs_lexer.specs.Views.{lexed}
use Rattle.abs_parser.proofs.+expressions.Goals.{operators::operators_after-in-Some+in_ok-right+in_ok-push+then-not-repeats, operators::operators_after-in_default, primaries::constructor_primary-in-Some, primaries::constructor_primary-in-None}
use Rattle.abs_parser.proofs.reader.CaseSteps.{case_begins, case_asked, refused_branch, refused_brace, first_branch, next_branch, case_found, pattern_read, refused_pattern, branch_found}
use Rattle.abs_parser.proofs.grammar.DigitLemmas.{number_digits, number_fits}
use Rattle.abs_parser.proofs.reader.ExpressionSteps.{or_found, or_refused, if_opened, if_begins, if_tested, if_chosen, if_found, let_opened, let_begins, let_named, let_assigned, let_valued, let_found}
use Rattle.abs_parser.proofs.grammar.FirstPlaceLemmas.{found_within, found_fewer}
use Rattle.abs_parser.proofs.reader.ListLemmas.{list_of_expressions, trees_of_expressions, arguments}
use Rattle.abs_parser.proofs.reader.ListSteps.{first_so_far, next_so_far, all_so_far, refused_first, refused_next, maybe_found, refused_between, parentheses_left_out, parentheses_follow, parentheses_opened, parentheses_shut, parenthesis_read, nothing_between}
use Rattle.abs_parser.proofs.grammar.OperatorLemmas.{no_operand_read, next_operand_refused, next_operand_read, last_operand_found, operators_end}
use Rattle.abs_parser.proofs.reader.ClimbingLemmas.{unary_refused, nothing_follows, same_precedence, other_precedence, next_order, climb_found, climb_refused, found_further, refused_later}
use Rattle.abs_parser.proofs.reader.PatternSteps.{next_taken}
use Rattle.abs_parser.proofs.grammar.PrimaryLemmas.{other_keyword, no_tail, tree_by, named_tree, built_tree, member_tree, this_tree, group_tree, prefixed_tree, build_expr, constant_expr}
use Rattle.abs_parser.proofs.reader.PrimarySteps.{stands, first_read, name_read, member_begins, call_found, prefix_read, prefix_refused, operand_found, operand_refused, refused_primary, refused_lower, refused_upper, refused_group, refused_keyword, unary_refused_at_end, primary_refused_at_end, refused_no_primary}
use Rattle.abs_parser.proofs.reader.KeywordSteps.{keyword_refused}
use Rattle.abs_parser.proofs.reader.ResultLemmas.{parses_further, parses_by, passed_on, error_passed_on}
use Rattle.abs_parser.proofs.reader.FoundLemmas.{token_shorter, found_shorter, found_few}
use Rattle.abs_parser.proofs.reader.StepLemmas.{opens, over_token, over_name, over_part, into_last, all_read, refused_inside, refused_first_token}
use Rattle.abs_parser.specs.TokenKinds.{PunctuatorKind, fits, KeywordKind}
use Rattle.abs_parser.specs.Productions.{ThisTail, Expr, Arguments}
use Rattle.abs_parser.specs.ReaderAnswers.{is_asked, maybe_exprs}
use Rattle.abs_parser.specs.Readings.{One, Optional, Empty}
use Rattle.abs_parser.specs.TreesOf.{args_maybe, named, member}
use Rattle.abs_parser.specs.Climbing.{Last, Here}
use Rattle.abs_parser.specs.Views.{spot}
use Rattle.abs_parser.specs.declared.operators.Precedence.TheVariants as precedence
use Rattle.abs_tree.specs.Syntax.{NumberOf, StringOf}
use Rattle.abs_tree.specs.SyntaxViews.{expr_tree, expr_trees}
use Rattle.abs_tree.specs.declared.syntax.expression.Branch.{Branch}
use Rattle.abs_tree.specs.declared.syntax.expression.Operand.{Operand}
use Rattle.std.proofs.Common.{◌∙◌, ℕ, ap, sym, arith, rules, ◌+◌, Some, [], refl, List}
use Rattle.std.proofs.lemmas.Result.{IfOk-weaker, IfErr-weaker}
use Rattle.std.specs.declared.alloc.Global.{Global}
use Rattle.std.specs.declared.vec.Vec.{Vec}
use Rattle.abs_parser.proofs.+expressions.Goals as goal
use Rattle.abs_lexer.specs.declared.lexeme.Keyword.TheVariants as keyword
use Rattle.abs_lexer.specs.declared.lexeme.Lexeme.TheVariants as lexeme
use Rattle.abs_lexer.specs.declared.lexeme.Punctuator.TheVariants as punctuator
use Rattle.abs_tree.specs.declared.syntax.expression.Expr as code_expr
use Rattle.list_facts.proofs.DigitLemmas.{narrowed}

pub expressions::expression-returns : goal.expressions::expression-returns
expressions::expression-returns t c =
    let no_let = sym c.is.ensures ∙ c.if-is.false in
    let no_if = sym c.is-2.ensures ∙ c.if-is-2.false in
    parses_further _ _ c.operators.result (λ found. or_found found.0 no_let no_if)
    (λ error. or_refused c.args.depth (spot c.args.from) error no_let no_if) c.operators.ensures

pub expressions::if_expression-returns-in_err-token : goal.expressions::if_expression-returns-in_err-token
expressions::if_expression-returns-in_err-token t c =
    passed_on _ _ c.from_residual.result c.from_residual.ensures.1
    (keyword_refused (One Expr) c.args.depth (spot c.args.from) _ (if_opened c.args.depth) c.requires.begins
    c.in_err-token.ensures.refused)

pub expressions::if_expression-returns-in_err-test : goal.expressions::if_expression-returns-in_err-test
expressions::if_expression-returns-in_err-test t c =
    passed_on _ _ c.from_residual-in_err-test.result c.from_residual-in_err-test.ensures.1
    (refused_inside (if_begins c.args.depth c.args.symbols.now c.in_ok-token.ensures.found c.in_ok-token.ensures.within)
    _ c.in_err-test.ensures)

pub expressions::if_expression-returns-in_err-first_at : goal.expressions::if_expression-returns-in_err-first_at
expressions::if_expression-returns-in_err-first_at t c =
    passed_on _ _ c.from_residual-in_err-first_at.result c.from_residual-in_err-first_at.ensures.1
    (refused_inside (over_part (if_begins c.args.depth c.args.symbols.now c.in_ok-token.ensures.found
    c.in_ok-token.ensures.within) c.in_ok-test.ensures) _ c.in_err-first_at.ensures.refused)

pub expressions::if_expression-expression-requires-2 : goal.expressions::if_expression-expression-requires-2
expressions::if_expression-expression-requires-2 t c =
    let few = found_few c.in_ok-test.ensures in
    let shorter = found_shorter c.in_ok-test.ensures in
    let token = token_shorter c.in_ok-token.ensures.found.takes in
    let then_token = token_shorter c.in_ok-first_at.ensures.found.takes in
    (search rules, (omega arith, omega (arith, c.in_ok-token.ensures.within)))

pub expressions::if_expression-returns-in_err-first : goal.expressions::if_expression-returns-in_err-first
expressions::if_expression-returns-in_err-first t c =
    passed_on _ _ c.from_residual-in_err-first.result c.from_residual-in_err-first.ensures.1
    (refused_inside (if_tested c.in_ok-token.ensures.found c.in_ok-test.ensures c.in_ok-first_at.ensures.found
    c.in_ok-token.ensures.within) _ c.in_err-first.ensures)

pub expressions::if_expression-returns-in_err-second_at : goal.expressions::if_expression-returns-in_err-second_at
expressions::if_expression-returns-in_err-second_at t c =
    passed_on _ _ c.from_residual-in_err-second_at.result c.from_residual-in_err-second_at.ensures.1
    (refused_inside (over_part (if_tested c.in_ok-token.ensures.found c.in_ok-test.ensures
    c.in_ok-first_at.ensures.found c.in_ok-token.ensures.within) c.in_ok-first.ensures) _
    c.in_err-second_at.ensures.refused)

pub expressions::if_expression-expression-requires-3 : goal.expressions::if_expression-expression-requires-3
expressions::if_expression-expression-requires-3 t c =
    let read = over_part (if_tested c.in_ok-token.ensures.found c.in_ok-test.ensures c.in_ok-first_at.ensures.found
    c.in_ok-token.ensures.within) c.in_ok-first.ensures in
    let few = read.few in
    let shorter = read.shorter in
    let else_token = token_shorter c.in_ok-second_at.ensures.found.takes in
    (search rules, (omega arith, omega (arith, c.in_ok-token.ensures.within)))

pub expressions::if_expression-returns-in_err-second : goal.expressions::if_expression-returns-in_err-second
expressions::if_expression-returns-in_err-second t c =
    let tested = if_tested c.in_ok-token.ensures.found c.in_ok-test.ensures c.in_ok-first_at.ensures.found
    c.in_ok-token.ensures.within in
    passed_on _ _ c.from_residual-in_err-second.result c.from_residual-in_err-second.ensures.1
    (refused_inside (if_chosen tested c.in_ok-first.ensures c.in_ok-second_at.ensures.found
    c.in_ok-token.ensures.within) _ c.in_err-second.ensures)

pub expressions::if_expression-returns : goal.expressions::if_expression-returns
expressions::if_expression-returns t c =
    if_found c.in_ok-condition.condition.value c.in_ok-first-2.first.value c.in_ok-second-2.second.value
    c.in_ok-condition.ensures.ok c.in_ok-first-2.ensures.ok c.in_ok-second-2.ensures.ok
    c.in_ok-token.ensures.found c.in_ok-test.ensures c.in_ok-first_at.ensures.found c.in_ok-first.ensures
    c.in_ok-second_at.ensures.found c.in_ok-second.ensures c.in_ok-token.ensures.within

pub expressions::let_expression-returns-in_err-token : goal.expressions::let_expression-returns-in_err-token
expressions::let_expression-returns-in_err-token t c =
    passed_on _ _ c.from_residual.result c.from_residual.ensures.1
    (keyword_refused (One Expr) c.args.depth (spot c.args.from) _ (let_opened c.args.depth) c.requires.begins
    c.in_err-token.ensures.refused)

pub expressions::let_expression-returns-in_err-type_at : goal.expressions::let_expression-returns-in_err-type_at
expressions::let_expression-returns-in_err-type_at t c =
    passed_on _ _ c.from_residual-in_err-type_at.result c.from_residual-in_err-type_at.ensures.1
    (refused_inside (let_begins c.args.depth c.args.symbols.now c.in_ok-token.ensures.found
    c.in_ok-token.ensures.within) _ c.in_err-type_at.ensures.refused)

pub expressions::let_expression-returns-in_err-type_of : goal.expressions::let_expression-returns-in_err-type_of
expressions::let_expression-returns-in_err-type_of t c =
    let paren = over_token {kind = lexeme.Punctuator punctuator.OpenParen}
    (let_begins c.args.depth c.args.symbols.now c.in_ok-token.ensures.found c.in_ok-token.ensures.within)
    c.in_ok-type_at.ensures.found refl refl c.in_ok-token.ensures.within in
    passed_on _ _ c.from_residual-in_err-type_of.result c.from_residual-in_err-type_of.ensures.1
    (refused_inside paren _ c.in_err-type_of.ensures)

pub expressions::let_expression-returns-in_err-name : goal.expressions::let_expression-returns-in_err-name
expressions::let_expression-returns-in_err-name t c =
    let paren = over_token {kind = lexeme.Punctuator punctuator.OpenParen}
    (let_begins c.args.depth c.args.symbols.now c.in_ok-token.ensures.found c.in_ok-token.ensures.within)
    c.in_ok-type_at.ensures.found refl refl c.in_ok-token.ensures.within in
    passed_on _ _ c.from_residual-in_err-name.result c.from_residual-in_err-name.ensures.1
    (refused_inside (over_part paren c.in_ok-type_of.ensures) _ c.in_err-name.ensures.refused)

pub expressions::let_expression-intern-requires : goal.expressions::let_expression-intern-requires
expressions::let_expression-intern-requires t c =
    let few = found_few c.in_ok-type_of.ensures in
    let token = token_shorter c.in_ok-token.ensures.found.takes in
    let paren = token_shorter c.in_ok-type_at.ensures.found.takes in
    omega arith

pub expressions::let_expression-returns-in_err-equals : goal.expressions::let_expression-returns-in_err-equals
expressions::let_expression-returns-in_err-equals t c =
    let named = let_named c.in_ok-token.ensures.found c.in_ok-type_at.ensures.found c.in_ok-type_of.ensures
    c.in_ok-name.ensures.found c.in_ok-intern.ensures.names c.in_ok-token.ensures.within in
    passed_on _ _ c.from_residual-in_err-equals.result c.from_residual-in_err-equals.ensures.1
    (refused_inside named _ c.in_err-equals.ensures.refused)

pub expressions::let_expression-returns-in_err-value_at : goal.expressions::let_expression-returns-in_err-value_at
expressions::let_expression-returns-in_err-value_at t c =
    let named = let_named c.in_ok-token.ensures.found c.in_ok-type_at.ensures.found c.in_ok-type_of.ensures
    c.in_ok-name.ensures.found c.in_ok-intern.ensures.names c.in_ok-token.ensures.within in
    let close = over_token {kind = lexeme.Punctuator punctuator.CloseParen} named c.in_ok-equals.ensures.found refl refl
    c.in_ok-token.ensures.within in
    passed_on _ _ c.from_residual-in_err-value_at.result c.from_residual-in_err-value_at.ensures.1
    (refused_inside close _ c.in_err-value_at.ensures.refused)

pub expressions::let_expression-expression-requires : goal.expressions::let_expression-expression-requires
expressions::let_expression-expression-requires t c =
    let named = let_named c.in_ok-token.ensures.found c.in_ok-type_at.ensures.found c.in_ok-type_of.ensures
    c.in_ok-name.ensures.found c.in_ok-intern.ensures.names c.in_ok-token.ensures.within in
    let few = named.few in
    let shorter = named.shorter in
    let close = token_shorter c.in_ok-equals.ensures.found.takes in
    let equals = token_shorter c.in_ok-value_at.ensures.found.takes in
    (search rules, (omega arith, omega (arith, c.in_ok-token.ensures.within)))

pub expressions::let_expression-returns-in_err-value : goal.expressions::let_expression-returns-in_err-value
expressions::let_expression-returns-in_err-value t c =
    let named = let_named c.in_ok-token.ensures.found c.in_ok-type_at.ensures.found c.in_ok-type_of.ensures
    c.in_ok-name.ensures.found c.in_ok-intern.ensures.names c.in_ok-token.ensures.within in
    passed_on _ _ c.from_residual-in_err-value.result c.from_residual-in_err-value.ensures.1
    (refused_inside (let_assigned named c.in_ok-equals.ensures.found c.in_ok-value_at.ensures.found
    c.in_ok-token.ensures.within) _ c.in_err-value.ensures)

pub expressions::let_expression-returns-in_err-body_at : goal.expressions::let_expression-returns-in_err-body_at
expressions::let_expression-returns-in_err-body_at t c =
    let named = let_named c.in_ok-token.ensures.found c.in_ok-type_at.ensures.found c.in_ok-type_of.ensures
    c.in_ok-name.ensures.found c.in_ok-intern.ensures.names c.in_ok-token.ensures.within in
    let assigned = let_assigned named c.in_ok-equals.ensures.found c.in_ok-value_at.ensures.found
    c.in_ok-token.ensures.within in
    passed_on _ _ c.from_residual-in_err-body_at.result c.from_residual-in_err-body_at.ensures.1
    (refused_inside (over_part assigned c.in_ok-value.ensures) _ c.in_err-body_at.ensures.refused)

pub expressions::let_expression-expression-requires-2 : goal.expressions::let_expression-expression-requires-2
expressions::let_expression-expression-requires-2 t c =
    let named = let_named c.in_ok-token.ensures.found c.in_ok-type_at.ensures.found c.in_ok-type_of.ensures
    c.in_ok-name.ensures.found c.in_ok-intern.ensures.names c.in_ok-token.ensures.within in
    let read = over_part (let_assigned named c.in_ok-equals.ensures.found c.in_ok-value_at.ensures.found
    c.in_ok-token.ensures.within) c.in_ok-value.ensures in
    let few = read.few in
    let shorter = read.shorter in
    let in_token = token_shorter c.in_ok-body_at.ensures.found.takes in
    (search rules, (omega arith, omega (arith, c.in_ok-token.ensures.within)))

pub expressions::let_expression-returns-in_err-body : goal.expressions::let_expression-returns-in_err-body
expressions::let_expression-returns-in_err-body t c =
    let named = let_named c.in_ok-token.ensures.found c.in_ok-type_at.ensures.found c.in_ok-type_of.ensures
    c.in_ok-name.ensures.found c.in_ok-intern.ensures.names c.in_ok-token.ensures.within in
    let valued = let_valued (let_assigned named c.in_ok-equals.ensures.found c.in_ok-value_at.ensures.found
    c.in_ok-token.ensures.within) c.in_ok-value.ensures c.in_ok-body_at.ensures.found c.in_ok-token.ensures.within in
    passed_on _ _ c.from_residual-in_err-body.result c.from_residual-in_err-body.ensures.1
    (refused_inside valued _ c.in_err-body.ensures)

pub expressions::let_expression-returns : goal.expressions::let_expression-returns
expressions::let_expression-returns t c =
    let named = c.in_ok-intern.ensures in
    let_found c.in_ok-type_of-2.type_of.value c.in_ok-intern.field-0 c.in_ok-value-2.value.value
    c.in_ok-body-2.body.value c.in_ok-type_of-2.ensures.ok c.in_ok-value-2.ensures.ok c.in_ok-body-2.ensures.ok c.in_ok-token.ensures.found c.in_ok-type_at.ensures.found
    c.in_ok-type_of.ensures c.in_ok-name.ensures.found named.symbol named.names c.in_ok-equals.ensures.found
    c.in_ok-value_at.ensures.found c.in_ok-value.ensures
    c.in_ok-body_at.ensures.found c.in_ok-body.ensures c.in_ok-token.ensures.within

pub operators::operators-returns-in_err-first : goal.operators::operators-returns-in_err-first
operators::operators-returns-in_err-first t c =
    passed_on _ _ c.from_residual.result c.from_residual.ensures.1
    (unary_refused c.args.precedence c.args.depth (spot c.args.from) _ c.in_err-first.ensures)

pub operators::operators-climb-requires : goal.operators::operators-climb-requires
operators::operators-climb-requires t c =
    let few = found_few c.in_ok-first.ensures in
    let shorter = found_shorter c.in_ok-first.ensures in
    (search rules, (omega arith, (omega arith, found_within c.in_ok-first.ensures)))

pub operators::operators-returns : goal.operators::operators-returns
operators::operators-returns t c =
    parses_by _ _ _ c.climb.result (λ found climbs.
    climb_found precedence.Mul c.args.precedence _ _ _ (omega arith)
    c.place.ensures c.in_ok-first.ensures climbs)
    (λ error fails.
    climb_refused precedence.Mul c.args.precedence _ _ error (omega arith)
    c.place.ensures c.in_ok-first.ensures fails)
    c.climb.ensures.found c.climb.ensures.refused

pub operators::climb-returns-then-not-operator_follows-clause-found
    : goal.operators::climb-returns-then-not-operator_follows-clause-found
operators::climb-returns-then-not-operator_follows-clause-found t c =
    nothing_follows c.args.at c.args.to c.args.place c.args.first c.requires.order
    (c.operator_follows.ensures c.if-not-operator_follows.true)

pub operators::climb-returns-in_err-left-clause-refused : goal.operators::climb-returns-in_err-left-clause-refused
operators::climb-returns-in_err-left-clause-refused t c =
    error_passed_on _ c.from_residual.result c.from_residual.ensures.1 (Here c.in_err-left.ensures)

pub operators::climb-returns-then-eq-clause-found : goal.operators::climb-returns-then-eq-clause-found
operators::climb-returns-then-eq-clause-found t c =
    Last (same_precedence c.args.at c.args.to (sym c.eq.ensures ∙ c.if-eq.true)) c.in_ok-left.ensures

pub operators::climb-climb-requires : goal.operators::climb-climb-requires
operators::climb-climb-requires t c =
    let few = found_few c.in_ok-left.ensures in
    let shorter = found_shorter c.in_ok-left.ensures in
    let other = other_precedence c.args.at c.args.to (sym c.eq.ensures ∙ c.if-eq.false) in (
      search rules,
      (
        rw c.looser.ensures (next_order c.args.at c.args.to c.requires.order other),
        (omega arith, c.requires.depth),
      ),
    )

pub operators::climb-returns-clause-found : goal.operators::climb-returns-clause-found
operators::climb-returns-clause-found t c =
    let other = other_precedence c.args.at c.args.to (sym c.eq.ensures ∙ c.if-eq.false) in
    IfOk-weaker c.climb.result _ _ (λ found climbs. found_further c.looser.ensures other c.in_ok-left.ensures climbs)
    c.climb.ensures.found

pub operators::climb-returns-clause-refused : goal.operators::climb-returns-clause-refused
operators::climb-returns-clause-refused t c =
    let other = other_precedence c.args.at c.args.to (sym c.eq.ensures ∙ c.if-eq.false) in
    IfErr-weaker c.climb.result _ _ (λ error fails. refused_later c.looser.ensures other c.in_ok-left.ensures fails)
    c.climb.ensures.refused

pub operators::operators_after-loop-operator-init : goal.operators::operators_after-loop-operator-init
operators::operators_after-loop-operator-init t c =
    record {
      read = no_operand_read c.args.precedence c.args.depth c.args.symbols.now (spot c.args.from)
          c.new-operands.ensures.items;
      first_is = refl;
    }

pub operators::operators_after-operand-requires : goal.operators::operators_after-operand-requires
operators::operators_after-operand-requires t c =
    let few = c.loop-operator.invariant.read.read.few in
    let punctuator = token_shorter c.in-Some.ensures.some.takes.takes in
    let shorter = c.loop-operator.invariant.read.read.shorter in
    let depth = c.requires.depth in
    (search rules, omega arith)

pub operators::operators_after-returns-in_err-right : goal.operators::operators_after-returns-in_err-right
operators::operators_after-returns-in_err-right t c =
    passed_on _ _ c.from_residual.result c.from_residual.ensures.1
    (next_operand_refused c.in-Some.operator _ c.loop-operator.invariant.read c.in-Some.ensures.precedence
    c.in-Some.ensures.some.takes c.requires.depth c.in_err-right.ensures)

pub operators::operators_after-loop-operator-smaller : goal.operators::operators_after-loop-operator-smaller
operators::operators_after-loop-operator-smaller t c =
    let punctuator = token_shorter c.in-Some.ensures.some.takes.takes in
    let right = found_shorter c.in_ok-right.ensures in
    omega arith

pub operators::operators_after-loop-operator-preserved : goal.operators::operators_after-loop-operator-preserved
operators::operators_after-loop-operator-preserved t c =
    let operand : Operand = record { operator = c.in-Some.operator; right = c.in_ok-right.right } in
    let more = next_operand_read c.loop-operator.operands.items operand c.loop-operator.invariant.read
    c.in-Some.ensures.precedence c.in-Some.ensures.some.takes c.requires.depth c.in_ok-right.ensures in
    record {
      read = rw c.in_ok-push.ensures.items (more (sym c.repeats.ensures ∙ c.if-not-repeats.false));
      first_is =
          c.loop-operator.invariant.first_is;
    }

pub operators::operators_after-returns : goal.operators::operators_after-returns
operators::operators_after-returns t c =
    elim c.match-operator_at.branch [
      | operators::operators_after-in-Some+in_ok-right+in_ok-push+then-not-repeats w ↦
          let operand : Operand = record { operator = w.in-Some.operator; right = w.in_ok-right.right } in
          let last = last_operand_found c.args.place _ _ operand c.loop-operator.invariant.read
          w.in-Some.ensures.precedence w.in-Some.ensures.some.takes c.requires.depth w.in_ok-right.ensures
          (sym w.repeats.ensures ∙ w.if-not-repeats.true) in
          rw (w.symbols-is, w.here-is, ← c.loop-operator.invariant.first_is)
          (last (ap (λ (operands : Vec Operand Global). operands.items) w.operands-is ∙ w.in_ok-push.ensures.items)
          c.in_ok-node.ensures)
      | operators::operators_after-in_default w ↦
          let ended = operators_end c.args.place _ _ c.loop-operator.invariant.read w.in_default.ensures.none in
          rw (w.symbols-is, w.here-is, ← c.loop-operator.invariant.first_is)
          (ended (ap (λ (operands : Vec Operand Global). operands.items) w.operands-is) c.in_ok-node.ensures)
    ]

pub primaries::constructor_primary-returns-in_err-name : goal.primaries::constructor_primary-returns-in_err-name
primaries::constructor_primary-returns-in_err-name t c =
    passed_on _ _ c.from_residual.result c.from_residual.ensures.1
    (refused_upper c.args.depth (spot c.args.from) _ c.requires.begins c.in_err-name.ensures.refused)

pub primaries::constructor_primary-returns-in_err-arguments
    : goal.primaries::constructor_primary-returns-in_err-arguments
primaries::constructor_primary-returns-in_err-arguments t c =
    passed_on _ _ c.from_residual-in_err-arguments.result c.from_residual-in_err-arguments.ensures.1
    (refused_inside (name_read c.args.depth c.args.symbols.now c.in_ok-name.ensures.found refl refl
    c.in_ok-name.ensures.within c.in_ok-symbol.ensures.names) _ c.in_err-arguments.ensures)

pub primaries::constructor_primary-returns : goal.primaries::constructor_primary-returns
primaries::constructor_primary-returns t c =
    call_found c.args.symbols.now c.in_ok-symbol.symbol c.in_ok-arguments.arguments
    (code_expr.Build c.in_ok-name.name.place c.in_ok-symbol.symbol c.match-arguments.arguments)
    (name_read c.args.depth c.args.symbols.now c.in_ok-name.ensures.found refl refl c.in_ok-name.ensures.within
    c.in_ok-symbol.ensures.names) c.in_ok-symbol.ensures.symbol c.in_ok-symbol.ensures.names c.in_ok-arguments.ensures
    (λ names kept trees.
    elim c.match-arguments.branch [
      | primaries::constructor_primary-in-Some w ↦
          build_expr names _ _ c.match-arguments.arguments (w.in-Some.is ∙ ap Some (sym w.arguments-is)) kept
      | primaries::constructor_primary-in-None w ↦
          constant_expr names _ _ c.match-arguments.arguments w.in-None.is
          (ap (λ (v : Vec code_expr.Expr Global). v.items) w.arguments-is ∙ w.new-arguments.ensures.items) kept
    ] ∙ built_tree (lexed c.in_ok-name.name) c.args.depth c.in_ok-arguments.ensures.inside
    c.in_ok-name.ensures.found.kind_is trees)

pub primaries::parenthesized-returns-in_err-inside : goal.primaries::parenthesized-returns-in_err-inside
primaries::parenthesized-returns-in_err-inside t c =
    passed_on _ _ c.from_residual.result c.from_residual.ensures.1
    (refused_group c.args.depth (spot c.args.from) _ c.args.punctuator c.requires.begins
    c.in_err-inside.ensures.refused)

pub primaries::parenthesized-returns-in_err-expr : goal.primaries::parenthesized-returns-in_err-expr
primaries::parenthesized-returns-in_err-expr t c =
    passed_on _ _ c.from_residual-in_err-expr.result c.from_residual-in_err-expr.ensures.1
    (refused_inside (first_read c.args.depth c.args.symbols.now c.in_ok-inside.ensures.found refl refl
    c.in_ok-inside.ensures.within) _ c.in_err-expr.ensures)

pub primaries::parenthesized-returns-in_err-end : goal.primaries::parenthesized-returns-in_err-end
primaries::parenthesized-returns-in_err-end t c =
    let so = over_part (first_read c.args.depth c.args.symbols.now c.in_ok-inside.ensures.found refl refl
    c.in_ok-inside.ensures.within) c.in_ok-expr.ensures in
    passed_on _ _ c.from_residual-in_err-end.result c.from_residual-in_err-end.ensures.1
    (refused_inside so _ c.in_err-end.ensures.refused)

pub primaries::parenthesized-returns : goal.primaries::parenthesized-returns
primaries::parenthesized-returns t c =
    let opening = c.in_ok-inside.ensures.found in
    let expr = c.in_ok-expr.ensures in
    let so = over_part (first_read c.args.depth c.args.symbols.now opening refl refl c.in_ok-inside.ensures.within) expr
    in
    all_read (over_token {kind = lexeme.Punctuator punctuator.CloseParen} so c.in_ok-end.ensures.found refl refl
    c.in_ok-inside.ensures.within)
    (λ names more. group_tree (lexed c.in_ok-inside.field-0-0) (lexed c.in_ok-end.field-0-0) c.args.depth expr.inside
    opening.kind_is (expr.is names more))

pub primaries::name_primary-returns-in_err-name : goal.primaries::name_primary-returns-in_err-name
primaries::name_primary-returns-in_err-name t c =
    passed_on _ _ c.from_residual.result c.from_residual.ensures.1
    (refused_lower c.args.depth (spot c.args.from) _ c.requires.begins c.in_err-name.ensures.refused)

pub primaries::name_primary-returns-in_err-arguments : goal.primaries::name_primary-returns-in_err-arguments
primaries::name_primary-returns-in_err-arguments t c =
    passed_on _ _ c.from_residual-in_err-arguments.result c.from_residual-in_err-arguments.ensures.1
    (refused_inside (name_read c.args.depth c.args.symbols.now c.in_ok-name.ensures.found refl refl
    c.in_ok-name.ensures.within c.in_ok-symbol.ensures.names) _ c.in_err-arguments.ensures)

pub primaries::name_primary-returns : goal.primaries::name_primary-returns
primaries::name_primary-returns t c =
    call_found c.args.symbols.now c.in_ok-symbol.symbol c.in_ok-arguments.arguments _
    (name_read c.args.depth c.args.symbols.now c.in_ok-name.ensures.found refl refl c.in_ok-name.ensures.within
    c.in_ok-symbol.ensures.names) c.in_ok-symbol.ensures.symbol c.in_ok-symbol.ensures.names c.in_ok-arguments.ensures
    (λ names kept trees.
    c.named.ensures names ∙ ap (λ (name : List ℕ).
    named c.in_ok-name.name.place name (maybe_exprs names c.in_ok-arguments.arguments)) kept
    ∙ named_tree (lexed c.in_ok-name.name) c.args.depth c.in_ok-arguments.ensures.inside
    c.in_ok-name.ensures.found.kind_is trees)

pub primaries::primary-returns-in_default : goal.primaries::primary-returns-in_default
primaries::primary-returns-in_default t c =
    primary_refused_at_end c.args.depth (spot c.args.from) _ c.wrong.ensures c.in_default.ensures.none

pub primaries::primary-numeral-requires-clause-number : goal.primaries::primary-numeral-requires-clause-number
primaries::primary-numeral-requires-clause-number t c =
    number_digits c.in_ok-token-in-Number.ensures.found.kind_is c.in_ok-token-in-Number.ensures.well_formed

pub primaries::primary-returns-in_err-token-in-Number : goal.primaries::primary-returns-in_err-token-in-Number
primaries::primary-returns-in_err-token-in-Number t c =
    passed_on _ _ c.from_residual.result c.from_residual.ensures.1
    (refused_primary c.args.depth _ (stands c.in-Some.ensures.some c.in-Number.is) refl
    c.in_err-token-in-Number.ensures.refused)

pub primaries::primary-returns-in_ok-token-in-Number : goal.primaries::primary-returns-in_ok-token-in-Number
primaries::primary-returns-in_ok-token-in-Number t c =
    let number = c.in_ok-token-in-Number.ensures in
    all_read (first_read c.args.depth c.args.symbols.now number.found refl refl number.within) (λ names more.
    ap (NumberOf c.in_ok-token-in-Number.token.place)
    (narrowed c.numeral.result _ c.numeral.ensures (number_fits number.found.kind_is number.well_formed))
    ∙ sym (tree_by (lexed c.in_ok-token-in-Number.token) c.args.depth Empty number.found.kind_is))

pub primaries::primary-returns-in_err-token-in-Text : goal.primaries::primary-returns-in_err-token-in-Text
primaries::primary-returns-in_err-token-in-Text t c =
    passed_on _ _ c.from_residual-in_err-token-in-Text.result c.from_residual-in_err-token-in-Text.ensures.1
    (refused_primary c.args.depth _ (stands c.in-Some.ensures.some c.in-Text.is) refl
    c.in_err-token-in-Text.ensures.refused)

pub primaries::primary-returns-in_ok-text-in-Text : goal.primaries::primary-returns-in_ok-text-in-Text
primaries::primary-returns-in_ok-text-in-Text t c =
    let literal = c.in_ok-token-in-Text.ensures in
    all_read (first_read c.args.depth c.args.symbols.now literal.found refl refl literal.within)
    (λ names more. ap (StringOf c.in_ok-token-in-Text.token.place) c.in_ok-text-in-Text.ensures
    ∙ sym (tree_by (lexed c.in_ok-token-in-Text.token) c.args.depth Empty literal.found.kind_is))

pub primaries::primary-returns-in-Foreign : goal.primaries::primary-returns-in-Foreign
primaries::primary-returns-in-Foreign t c =
    refused_no_primary lexeme.Foreign c.in-Some.first.slice.now c.args.depth (spot c.args.from) _
    c.wrong-in-Foreign.ensures (next_taken (stands c.in-Some.ensures.some c.in-Foreign.is)) refl

pub primaries::this_primary-returns-in_err-this : goal.primaries::this_primary-returns-in_err-this
primaries::this_primary-returns-in_err-this t c =
    passed_on _ _ c.from_residual.result c.from_residual.ensures.1
    (refused_keyword keyword.This c.args.depth (spot c.args.from) _ refl c.requires.begins
    c.in_err-this.ensures.refused)

pub primaries::this_primary-returns-in_default : goal.primaries::this_primary-returns-in_default
primaries::this_primary-returns-in_default t c =
    let this = c.in_ok-this.ensures.found in
    let none = opens (Optional ThisTail) c.args.depth c.args.symbols.now (spot c.in_ok-this.after) _
    (no_tail c.args.depth _ c.in_default.ensures.other) in
    all_read (into_last (first_read c.args.depth c.args.symbols.now this refl refl c.in_ok-this.ensures.within) none)
    (λ names more. this_tree (lexed c.in_ok-this.this) c.args.depth this.kind_is)

pub primaries::this_primary-returns-in_err-name : goal.primaries::this_primary-returns-in_err-name
primaries::this_primary-returns-in_err-name t c =
    passed_on _ _ c.from_residual-in_err-name.result c.from_residual-in_err-name.ensures.1
    (refused_inside (member_begins c.args.depth c.args.symbols.now c.in_ok-this.ensures.found c.in-Some.ensures.found
    c.in_ok-this.ensures.within) _ c.in_err-name.ensures.refused)

pub primaries::this_primary-arguments_maybe-requires : goal.primaries::this_primary-arguments_maybe-requires
primaries::this_primary-arguments_maybe-requires t c =
    let so = member_begins c.args.depth c.args.symbols.now c.in_ok-this.ensures.found c.in-Some.ensures.found
    c.in_ok-this.ensures.within in
    let named = over_name {kind = lexeme.LowerName} so c.in_ok-name.ensures.found refl refl c.in_ok-this.ensures.within
    c.in_ok-symbol.ensures.names in
    let shorter = token_shorter c.in_ok-name.ensures.found.takes in
    let before = so.shorter in
    (search rules, (omega (arith, named.few), c.in_ok-this.ensures.within))

pub primaries::this_primary-returns-in_err-arguments : goal.primaries::this_primary-returns-in_err-arguments
primaries::this_primary-returns-in_err-arguments t c =
    let so = member_begins c.args.depth c.args.symbols.now c.in_ok-this.ensures.found c.in-Some.ensures.found
    c.in_ok-this.ensures.within in
    passed_on _ _ c.from_residual-in_err-arguments.result c.from_residual-in_err-arguments.ensures.1
    (refused_inside (over_name {kind = lexeme.LowerName} so c.in_ok-name.ensures.found refl refl
    c.in_ok-this.ensures.within c.in_ok-symbol.ensures.names) _ c.in_err-arguments.ensures)

pub primaries::this_primary-returns : goal.primaries::this_primary-returns
primaries::this_primary-returns t c =
    let so = member_begins c.args.depth c.args.symbols.now c.in_ok-this.ensures.found c.in-Some.ensures.found
    c.in_ok-this.ensures.within in
    call_found c.args.symbols.now c.in_ok-symbol.symbol c.in_ok-arguments.arguments _
    (over_name {kind = lexeme.LowerName} so c.in_ok-name.ensures.found refl refl c.in_ok-this.ensures.within
    c.in_ok-symbol.ensures.names) c.in_ok-symbol.ensures.symbol c.in_ok-symbol.ensures.names c.in_ok-arguments.ensures
    (λ names kept trees.
    c.in_ok-expr.ensures names ∙ ap
    (λ (name : List ℕ). member c.in_ok-this.this.place c.in_ok-name.name.place name
    (maybe_exprs names c.in_ok-arguments.arguments)) kept
    ∙ member_tree (lexed c.in_ok-this.this) (lexed c.in-Some.field-0-0) (lexed c.in_ok-name.name) c.args.depth
    c.in_ok-arguments.ensures.inside c.in_ok-this.ensures.found.kind_is trees)

pub primaries::unary-returns-in_default : goal.primaries::unary-returns-in_default
primaries::unary-returns-in_default t c =
    unary_refused_at_end c.args.depth (spot c.args.from) _ c.wrong.ensures c.in_default.ensures.none

pub primaries::unary-returns-in_default-prefix_of : goal.primaries::unary-returns-in_default-prefix_of
primaries::unary-returns-in_default-prefix_of t c =
    parses_further _ _ c.primary.result (λ found. operand_found c.args.depth found.0)
    (λ error. operand_refused c.args.depth error c.in-Some.ensures.some c.in_default-prefix_of.ensures.none)
    c.primary.ensures

pub primaries::unary-take-requires : goal.primaries::unary-take-requires
primaries::unary-take-requires t c = record { asked = ap is_asked c.in-Some-prefix_of.ensures.some }

pub primaries::unary-returns-in_err-token : goal.primaries::unary-returns-in_err-token
primaries::unary-returns-in_err-token t c =
    passed_on _ _ c.from_residual.result c.from_residual.ensures.1
    (prefix_refused c.in-Some-prefix_of.prefix c.args.depth _ c.in-Some.ensures.some c.in-Some-prefix_of.ensures.some
    c.in_err-token.ensures.refused)

pub primaries::unary-returns-in_err-operand : goal.primaries::unary-returns-in_err-operand
primaries::unary-returns-in_err-operand t c =
    passed_on _ _ c.from_residual-in_err-operand.result c.from_residual-in_err-operand.ensures.1
    (refused_inside (prefix_read c.in-Some-prefix_of.prefix c.args.depth c.args.symbols.now
    (stands c.in_ok-token.ensures.found.takes (c.in_ok-token.ensures.found.kind_is ∙ c.in-Some-prefix_of.ensures.some))
    c.in_ok-token.ensures.within) _ c.in_err-operand.ensures)

pub primaries::unary-returns : goal.primaries::unary-returns
primaries::unary-returns t c =
    let takes = stands c.in_ok-token.ensures.found.takes
    (c.in_ok-token.ensures.found.kind_is ∙ c.in-Some-prefix_of.ensures.some) in
    let found = c.in_ok-operand.ensures in
    all_read (over_part (prefix_read c.in-Some-prefix_of.prefix c.args.depth c.args.symbols.now takes
    c.in_ok-token.ensures.within) found) (λ names more.
    prefixed_tree c.in-Some-prefix_of.prefix (lexed c.in_ok-token.token) (c.args.depth + 1) found.inside takes.kind_is
    (ap (expr_tree names) c.in_ok-operand-2.ensures.ok ∙ found.is names more))

pub primaries::keyword_primary-returns-in_err-token-in-Null
    : goal.primaries::keyword_primary-returns-in_err-token-in-Null
primaries::keyword_primary-returns-in_err-token-in-Null t c =
    passed_on _ _ c.from_residual.result c.from_residual.ensures.1
    (refused_keyword keyword.Null c.args.depth (spot c.args.from) _ refl
    (ap (fits (KeywordKind keyword.Null)) (c.requires.begins ∙ ap KeywordKind c.in-Null.is))
    c.in_err-token-in-Null.ensures.refused)

pub primaries::keyword_primary-returns-in_ok-token-in-Null : goal.primaries::keyword_primary-returns-in_ok-token-in-Null
primaries::keyword_primary-returns-in_ok-token-in-Null t c =
    let takes = c.in_ok-token-in-Null.ensures.found in
    all_read (first_read c.args.depth c.args.symbols.now takes refl refl c.in_ok-token-in-Null.ensures.within)
    (λ names more. sym (tree_by (lexed c.in_ok-token-in-Null.token) c.args.depth Empty takes.kind_is))

pub primaries::keyword_primary-returns-in_err-token-in-Destiny
    : goal.primaries::keyword_primary-returns-in_err-token-in-Destiny
primaries::keyword_primary-returns-in_err-token-in-Destiny t c =
    passed_on _ _ c.from_residual-in_err-token-in-Destiny.result c.from_residual-in_err-token-in-Destiny.ensures.1
    (refused_keyword keyword.Destiny c.args.depth (spot c.args.from) _ refl
    (ap (fits (KeywordKind keyword.Destiny)) (c.requires.begins ∙ ap KeywordKind c.in-Destiny.is))
    c.in_err-token-in-Destiny.ensures.refused)

pub primaries::keyword_primary-returns-in_ok-token-in-Destiny
    : goal.primaries::keyword_primary-returns-in_ok-token-in-Destiny
primaries::keyword_primary-returns-in_ok-token-in-Destiny t c =
    let takes = c.in_ok-token-in-Destiny.ensures.found in
    all_read (first_read c.args.depth c.args.symbols.now takes refl refl c.in_ok-token-in-Destiny.ensures.within)
    (λ names more. sym (tree_by (lexed c.in_ok-token-in-Destiny.token) c.args.depth Empty takes.kind_is))

pub primaries::keyword_primary-returns-in_default : goal.primaries::keyword_primary-returns-in_default
primaries::keyword_primary-returns-in_default t c =
    refused_no_primary (lexeme.Keyword c.args.keyword) [] c.args.depth (spot c.args.from) _ c.wrong.ensures
    c.requires.begins
    (sym (other_keyword c.args.keyword c.in_default.not-Null c.in_default.not-Destiny c.in_default.not-This
    c.in_default.not-Case))

pub cases::branch-returns-in_err-pattern : goal.cases::branch-returns-in_err-pattern
cases::branch-returns-in_err-pattern t c =
    passed_on _ _ c.from_residual.result c.from_residual.ensures.1
    (refused_pattern c.args.depth (spot c.args.from) _ c.in_err-pattern.ensures)

pub cases::branch-returns-in_err-value_at : goal.cases::branch-returns-in_err-value_at
cases::branch-returns-in_err-value_at t c =
    passed_on _ _ c.from_residual-in_err-value_at.result c.from_residual-in_err-value_at.ensures.1
    (refused_inside (pattern_read c.in_ok-pattern.ensures) _ c.in_err-value_at.ensures.refused)

pub cases::branch-expression-requires : goal.cases::branch-expression-requires
cases::branch-expression-requires t c =
    let few = found_few c.in_ok-pattern.ensures in
    let shorter = found_shorter c.in_ok-pattern.ensures in
    let arrow = token_shorter c.in_ok-value_at.ensures.found.takes in
    (search rules, (omega arith, omega arith))

pub cases::branch-returns-in_err-value : goal.cases::branch-returns-in_err-value
cases::branch-returns-in_err-value t c =
    let arrow = over_token {kind = lexeme.Punctuator punctuator.Arrow} (pattern_read c.in_ok-pattern.ensures)
    c.in_ok-value_at.ensures.found refl refl c.requires.depth in
    passed_on _ _ c.from_residual-in_err-value.result c.from_residual-in_err-value.ensures.1
    (refused_inside arrow _ c.in_err-value.ensures)

pub cases::branch-returns-in_err-end : goal.cases::branch-returns-in_err-end
cases::branch-returns-in_err-end t c =
    let arrow = over_token {kind = lexeme.Punctuator punctuator.Arrow} (pattern_read c.in_ok-pattern.ensures)
    c.in_ok-value_at.ensures.found refl refl c.requires.depth in
    passed_on _ _ c.from_residual-in_err-end.result c.from_residual-in_err-end.ensures.1
    (refused_inside (over_part arrow c.in_ok-value.ensures) _ c.in_err-end.ensures.refused)

pub cases::branch-returns : goal.cases::branch-returns
cases::branch-returns t c =
    let branch : Branch = record { pattern = c.in_ok-pattern.pattern; value = c.in_ok-value.value } in
    branch_found branch c.in_ok-pattern.ensures c.in_ok-value_at.ensures.found c.in_ok-value.ensures
    c.in_ok-end.ensures.found c.requires.depth

pub cases::case_primary-returns-in_err-token : goal.cases::case_primary-returns-in_err-token
cases::case_primary-returns-in_err-token t c =
    passed_on _ _ c.from_residual.result c.from_residual.ensures.1
    (refused_keyword keyword.Case c.args.depth (spot c.args.from) _ refl c.requires.begins
    c.in_err-token.ensures.refused)

pub cases::case_primary-returns-in_err-subject : goal.cases::case_primary-returns-in_err-subject
cases::case_primary-returns-in_err-subject t c =
    passed_on _ _ c.from_residual-in_err-subject.result c.from_residual-in_err-subject.ensures.1
    (refused_inside (case_begins c.args.depth c.args.symbols.now c.in_ok-token.ensures.found
    c.in_ok-token.ensures.within) _ c.in_err-subject.ensures)

pub cases::case_primary-returns-in_err-first_at : goal.cases::case_primary-returns-in_err-first_at
cases::case_primary-returns-in_err-first_at t c =
    let subject = over_part (case_begins c.args.depth c.args.symbols.now c.in_ok-token.ensures.found
    c.in_ok-token.ensures.within) c.in_ok-subject.ensures in
    passed_on _ _ c.from_residual-in_err-first_at.result c.from_residual-in_err-first_at.ensures.1
    (refused_inside subject _ c.in_err-first_at.ensures.refused)

pub cases::case_primary-branch-alloc-requires : goal.cases::case_primary-branch-alloc-requires
cases::case_primary-branch-alloc-requires t c =
    let few = found_few c.in_ok-subject.ensures in
    let shorter = found_shorter c.in_ok-subject.ensures in
    let token = token_shorter c.in_ok-token.ensures.found.takes in
    let brace = token_shorter c.in_ok-first_at.ensures.found.takes in
    (search rules, (omega arith, c.in_ok-token.ensures.within))

pub cases::case_primary-returns-in_err-first : goal.cases::case_primary-returns-in_err-first
cases::case_primary-returns-in_err-first t c =
    passed_on _ _ c.from_residual-in_err-first.result c.from_residual-in_err-first.ensures.1
    (refused_inside (case_asked c.in_ok-token.ensures.found c.in_ok-subject.ensures c.in_ok-first_at.ensures.found
    c.in_ok-token.ensures.within) _ c.in_err-first.ensures)

pub cases::case_primary-loop-symbols-init : goal.cases::case_primary-loop-symbols-init
cases::case_primary-loop-symbols-init t c = record {
  read = first_branch c.in_ok-first.first c.in_ok-branches.ensures.items c.in_ok-token.ensures.found
      c.in_ok-subject.ensures c.in_ok-first_at.ensures.found c.in_ok-first.ensures c.in_ok-token.ensures.within;
}

pub cases::case_primary-loop-symbols-preserved : goal.cases::case_primary-loop-symbols-preserved
cases::case_primary-loop-symbols-preserved t c =
    record {
      read = next_branch c.in_ok-next.next c.in_ok-push.ensures.items c.loop-symbols.invariant.read
          c.in_ok-next.ensures;
    }

pub cases::case_primary-branch-alloc-requires-in-loop-symbols
    : goal.cases::case_primary-branch-alloc-requires-in-loop-symbols
cases::case_primary-branch-alloc-requires-in-loop-symbols t c =
    let few = c.loop-symbols.invariant.read.read.few in
    let shorter = c.loop-symbols.invariant.read.shorter in
    (search rules, (omega arith, c.in_ok-token.ensures.within))

pub cases::case_primary-returns-in_err-next : goal.cases::case_primary-returns-in_err-next
cases::case_primary-returns-in_err-next t c =
    passed_on _ _ c.from_residual-in_err-next.result c.from_residual-in_err-next.ensures.1
    (refused_branch _ c.loop-symbols.invariant.read (sym c.is.ensures ∙ c.loop-symbols-test.true) c.in_err-next.ensures)

pub cases::case_primary-loop-symbols-smaller : goal.cases::case_primary-loop-symbols-smaller
cases::case_primary-loop-symbols-smaller t c =
    let shorter = found_fewer c.in_ok-next.ensures in
    omega arith

pub cases::case_primary-returns-in_err-end : goal.cases::case_primary-returns-in_err-end
cases::case_primary-returns-in_err-end t c =
    passed_on _ _ c.from_residual-in_err-end.result c.from_residual-in_err-end.ensures.1
    (refused_brace _ c.loop-symbols.invariant.read (sym c.is.ensures ∙ c.loop-symbols-test.false)
    c.in_err-end.ensures.refused)

pub cases::case_primary-returns : goal.cases::case_primary-returns
cases::case_primary-returns t c =
    case_found c.in_ok-subject-2.subject c.loop-symbols.branches c.in_ok-subject-2.ensures.ok
    c.loop-symbols.invariant.read c.in_ok-end.ensures.found c.in_ok-token.ensures.within

pub arguments::arguments-returns-in_err-after : goal.arguments::arguments-returns-in_err-after
arguments::arguments-returns-in_err-after t c =
    passed_on _ _ c.from_residual.result c.from_residual.ensures.1
    (refused_first_token (PunctuatorKind punctuator.OpenParen) c.args.depth (One Arguments) c.args.depth
    (spot c.args.from) _
    (parentheses_opened arguments _ c.args.depth) (parentheses_shut arguments _ c.args.depth)
    c.in_err-after.ensures.refused)

pub arguments::arguments-returns-in-Some : goal.arguments::arguments-returns-in-Some
arguments::arguments-returns-in-Some t c =
    let close = c.in-Some.ensures.found in
    let none = nothing_between arguments c.args.depth c.args.symbols.now close in
    let so = over_part (parenthesis_read arguments c.args.depth c.args.symbols.now c.in_ok-after.ensures.found
    c.in_ok-after.ensures.within) none in
    all_read (over_token {kind = lexeme.Punctuator punctuator.CloseParen} so close refl refl
    c.in_ok-after.ensures.within) (λ names more. ap (expr_trees names) c.new.ensures.items
    ∙ sym (ap args_maybe (none.is names more)))

pub arguments::arguments-returns-in_err-expressions : goal.arguments::arguments-returns-in_err-expressions
arguments::arguments-returns-in_err-expressions t c =
    passed_on _ _ c.from_residual-in_err-expressions.result c.from_residual-in_err-expressions.ensures.1
    (refused_between list_of_expressions _
    (parenthesis_read arguments c.args.depth c.args.symbols.now c.in_ok-after.ensures.found
    c.in_ok-after.ensures.within) c.in_default.ensures.other
    c.in_err-expressions.ensures)

pub arguments::arguments-returns-in_err-end : goal.arguments::arguments-returns-in_err-end
arguments::arguments-returns-in_err-end t c =
    passed_on _ _ c.from_residual-in_err-end.result c.from_residual-in_err-end.ensures.1 (refused_inside
    (over_part (parenthesis_read arguments c.args.depth c.args.symbols.now c.in_ok-after.ensures.found
    c.in_ok-after.ensures.within) (maybe_found list_of_expressions c.in_ok-expressions.ensures)) _
    c.in_err-end.ensures.refused)

pub arguments::arguments-returns : goal.arguments::arguments-returns
arguments::arguments-returns t c =
    let found = c.in_ok-expressions.ensures in
    let maybe = maybe_found list_of_expressions found in
    let so = over_part (parenthesis_read arguments c.args.depth c.args.symbols.now c.in_ok-after.ensures.found
    c.in_ok-after.ensures.within) maybe in
    all_read (over_token {kind = lexeme.Punctuator punctuator.CloseParen} so c.in_ok-end.ensures.found refl refl
    c.in_ok-after.ensures.within) (λ names more. found.is names more ∙ sym (ap args_maybe (maybe.is names more)))

pub arguments::arguments_maybe-returns-then-not-is : goal.arguments::arguments_maybe-returns-then-not-is
arguments::arguments_maybe-returns-then-not-is t c =
    all_read (opens (Optional Arguments) c.args.depth c.args.symbols.now (spot c.args.from) _
    (parentheses_left_out arguments _ c.args.depth (sym c.is.ensures ∙ c.if-not-is.true))) (λ names more. refl)

pub arguments::arguments_maybe-returns-in_err-expressions : goal.arguments::arguments_maybe-returns-in_err-expressions
arguments::arguments_maybe-returns-in_err-expressions t c =
    passed_on _ _ c.from_residual.result c.from_residual.ensures.1 (refused_inside
    (opens (Optional Arguments) c.args.depth c.args.symbols.now (spot c.args.from) _
    (parentheses_follow arguments _ c.args.depth (sym c.is.ensures ∙ c.if-not-is.false))) _
    c.in_err-expressions.ensures)

pub arguments::arguments_maybe-returns : goal.arguments::arguments_maybe-returns
arguments::arguments_maybe-returns t c =
    let found = c.in_ok-expressions.ensures in
    all_read (over_part (opens (Optional Arguments) c.args.depth c.args.symbols.now (spot c.args.from) _
    (parentheses_follow arguments _ c.args.depth (sym c.is.ensures ∙ c.if-not-is.false))) found)
    (λ names more. ap Some (found.is names more))

pub arguments::expressions-returns-in_err-first : goal.arguments::expressions-returns-in_err-first
arguments::expressions-returns-in_err-first t c =
    passed_on _ _ c.from_residual.result c.from_residual.ensures.1
    (refused_first list_of_expressions c.args.depth (spot c.args.from) _ c.in_err-first.ensures)

pub arguments::expressions-expression-requires-in-Some : goal.arguments::expressions-expression-requires-in-Some
arguments::expressions-expression-requires-in-Some t c =
    let so = c.loop-after.invariant.read.read in
    let few = so.few in
    let shorter = so.shorter in
    let comma = token_shorter c.in-Some.ensures.found.takes in
    (search rules, (omega arith, omega arith))

pub arguments::expressions-returns-in_err-next : goal.arguments::expressions-returns-in_err-next
arguments::expressions-returns-in_err-next t c =
    passed_on _ _ c.from_residual-in_err-next.result c.from_residual-in_err-next.ensures.1
    (refused_next c.loop-after.invariant.read c.in-Some.ensures.found c.requires.depth _ c.in_err-next.ensures)

pub arguments::expressions-loop-after-smaller : goal.arguments::expressions-loop-after-smaller
arguments::expressions-loop-after-smaller t c =
    let comma = token_shorter c.in-Some.ensures.found.takes in
    let next = found_shorter c.in_ok-next.ensures in
    omega arith

pub arguments::expressions-returns : goal.arguments::expressions-returns
arguments::expressions-returns t c = all_so_far c.loop-after.invariant.read c.in_default.ensures.other

pub arguments::expressions-loop-after-init : goal.arguments::expressions-loop-after-init
arguments::expressions-loop-after-init t c = record {
  read = first_so_far list_of_expressions trees_of_expressions c.in_ok-expressions.ensures.items c.in_ok-first.ensures;
}

pub arguments::expressions-loop-after-preserved : goal.arguments::expressions-loop-after-preserved
arguments::expressions-loop-after-preserved t c =
    record {
      read = next_so_far c.loop-after.invariant.read c.in_ok-push.ensures.items c.in-Some.ensures.found
          c.requires.depth c.in_ok-next.ensures;
    }
