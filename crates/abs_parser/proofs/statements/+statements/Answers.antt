use Rattle.std.proofs.Common.{◌∙◌, ap, refl, sym, arith, rules}
use Rattle.abs_tree.proofs.StatementLemmas.{statement-block, statement-if, statement-while}
use Rattle.abs_tree.specs.SyntaxSizes.{count_of}
use Rattle.abs_tree.specs.declared.syntax.declaration.Body.{Body}
use Rattle.abs_lexer.specs.declared.lexeme.Keyword.TheVariants as keyword
use Rattle.abs_lexer.specs.declared.lexeme.Punctuator.TheVariants as punctuator
use Rattle.abs_parser.specs.TokenKinds.{KeywordKind, PunctuatorKind, fits}
use Rattle.abs_parser.specs.Productions.{Block}
use Rattle.abs_parser.specs.Readings.{One}
use Rattle.abs_parser.specs.Views.{spot}
use Rattle.abs_parser.proofs.reader.BlockSteps.{first_statement, next_statement, next_free, refused_statement, refused_brace, block_found}
use Rattle.abs_parser.proofs.grammar.FirstPlaceLemmas.{found_fewer}
use Rattle.abs_parser.proofs.grammar.KindLemmas.{punctuator_is}
use Rattle.abs_parser.proofs.reader.PatternSteps.{next_taken}
use Rattle.abs_parser.proofs.reader.PrimarySteps.{stands}
use Rattle.abs_parser.proofs.reader.KeywordSteps.{keyword_refused}
use Rattle.abs_parser.proofs.reader.StatementSteps.{block_shut, block_opened, nested_begins, nested_found, test_read, refused_test, while_opened, while_found, if_opened, if_chosen, if_found, else_read, else_found, else_left_out, statement_refused_at_end}
use Rattle.abs_parser.proofs.reader.ParenthesisSteps.{parentheses_few, parentheses_shorter}
use Rattle.abs_parser.proofs.reader.ResultLemmas.{passed_on}
use Rattle.abs_parser.proofs.reader.FoundLemmas.{token_shorter, found_few, found_shorter}
use Rattle.abs_parser.proofs.reader.StepLemmas.{refused_inside, refused_first_token, fits_next}
use Rattle.abs_parser.proofs.statements.+statements.Goals.{statement-in-UpperName+in_ok-variable_declaration-in-UpperName, statement-in-LowerName+in_ok-variable_statement-in-LowerName, statement-in-Punctuator+else-eq+in_ok-right_side_statement-in-Punctuator, statement-in-Number+in_ok-stmt-in-Number, keyword_statement-in-This+in_ok-this_statement-in-This, keyword_statement-in-Skip+in_ok-simple_statement-in-Skip, keyword_statement-in_default+in_ok-stmt-in_default}
use Rattle.abs_parser.proofs.statements.+statements.Goals as goal

pub block-returns-in_err-here-clause-parses : goal.block-returns-in_err-here-clause-parses
block-returns-in_err-here-clause-parses t c =
    passed_on _ _ c.from_residual.result c.from_residual.ensures.1
    (refused_first_token (PunctuatorKind punctuator.OpenBrace) c.args.depth (One Block) c.args.depth (spot c.args.from)
    _ (block_opened _ c.args.depth) (block_shut _ c.args.depth) c.in_err-here.ensures.refused)

pub block-loop-symbols-init : goal.block-loop-symbols-init
block-loop-symbols-init t c = record {
  read = first_statement c.args.index c.args.symbols.now c.new-statements.ensures.items c.in_ok-here.ensures.found
      c.in_ok-here.ensures.within;
  free = λ names. rw c.new-statements.ensures.items (omega arith);
  few = let brace = token_shorter c.in_ok-here.ensures.found.takes in omega arith;
}

pub block-statement-requires : goal.block-statement-requires
block-statement-requires t c =
    let few = c.loop-symbols.invariant.read.read.few in
    let numbers = c.loop-symbols.invariant.few in
    let shorter = c.loop-symbols.invariant.read.shorter in
    (search rules, (omega arith, (omega arith, c.in_ok-here.ensures.within)))

pub block-returns-in_err-next-clause-parses : goal.block-returns-in_err-next-clause-parses
block-returns-in_err-next-clause-parses t c =
    passed_on _ _ c.from_residual-in_err-next.result c.from_residual-in_err-next.ensures.1
    (refused_statement _ c.loop-symbols.invariant.read (sym c.is.ensures ∙ c.loop-symbols-test.true)
    c.in_err-next.ensures.parses)

pub block-loop-symbols-smaller : goal.block-loop-symbols-smaller
block-loop-symbols-smaller t c =
    let fewer = found_fewer c.in_ok-next.ensures.parses in
    omega arith

pub block-loop-symbols-preserved : goal.block-loop-symbols-preserved
block-loop-symbols-preserved t c = record {
  read = next_statement c.in_ok-next.next c.in_ok-push.ensures.items c.loop-symbols.invariant.read
      c.loop-symbols.invariant.free c.in_ok-next.ensures.parses;
  free = next_free c.args.index c.loop-symbols.statements.items c.in_ok-next.next c.in_ok-push.ensures.items
      c.loop-symbols.invariant.free c.in_ok-next.ensures.free;
  few = omega (arith, c.loop-symbols.invariant.few, c.in_ok-next.ensures.few);
}

pub block-returns-in_err-close-clause-parses : goal.block-returns-in_err-close-clause-parses
block-returns-in_err-close-clause-parses t c =
    passed_on _ _ c.from_residual-in_err-close.result c.from_residual-in_err-close.ensures.1
    (refused_brace _ c.loop-symbols.invariant.read (sym c.is.ensures ∙ c.loop-symbols-test.false)
    c.in_err-close.ensures.refused)

pub block-returns-clause-parses : goal.block-returns-clause-parses
block-returns-clause-parses t c =
    let body : Body =
    record { statements = c.loop-symbols.statements; end = c.in_ok-close.close.place; slots = c.new.result } in
    block_found body refl c.loop-symbols.invariant.read c.in_ok-close.ensures.found c.in_ok-close.ensures.within

pub block-returns-clause-free : goal.block-returns-clause-free
block-returns-clause-free t c = c.loop-symbols.invariant.free

pub block-returns-clause-few : goal.block-returns-clause-few
block-returns-clause-few t c =
    let numbers = c.loop-symbols.invariant.few in
    let brace = token_shorter c.in_ok-close.ensures.found.takes in
    omega arith

pub if_statement-returns-in_err-token-clause-parses : goal.if_statement-returns-in_err-token-clause-parses
if_statement-returns-in_err-token-clause-parses t c =
    passed_on _ _ c.from_residual.result c.from_residual.ensures.1
    (keyword_refused _ _ _ _ (if_opened c.args.depth) c.requires.begins c.in_err-token.ensures.refused)

pub if_statement-returns-in_err-test-clause-parses : goal.if_statement-returns-in_err-test-clause-parses
if_statement-returns-in_err-test-clause-parses t c =
    passed_on _ _ c.from_residual-in_err-test.result c.from_residual-in_err-test.ensures.1
    (refused_test c.args.depth _ (if_opened c.args.depth) c.in_ok-token.ensures.found c.in_ok-token.ensures.within
    c.in_err-test.ensures.refused)

pub if_statement-statement-requires : goal.if_statement-statement-requires
if_statement-statement-requires t c =
    let few = parentheses_few c.in_ok-test.ensures.found in
    let shorter = parentheses_shorter c.in_ok-test.ensures.found in
    let token = token_shorter c.in_ok-token.ensures.found.takes in
    (search rules, (omega arith, (omega arith, c.in_ok-token.ensures.within)))

pub if_statement-returns-in_err-first-clause-parses : goal.if_statement-returns-in_err-first-clause-parses
if_statement-returns-in_err-first-clause-parses t c =
    passed_on _ _ c.from_residual-in_err-first.result c.from_residual-in_err-first.ensures.1
    (refused_inside (test_read (if_opened c.args.depth) c.in_ok-token.ensures.found c.in_ok-test.ensures.found
    c.in_ok-token.ensures.within) _ c.in_err-first.ensures.parses)

pub if_statement-else_branch-requires : goal.if_statement-else_branch-requires
if_statement-else_branch-requires t c =
    let few_test = parentheses_few c.in_ok-test.ensures.found in
    let shorter_test = parentheses_shorter c.in_ok-test.ensures.found in
    let few = found_few c.in_ok-first.ensures.parses in
    let shorter = found_shorter c.in_ok-first.ensures.parses in
    let numbers = c.in_ok-first.ensures.few in
    let token = token_shorter c.in_ok-token.ensures.found.takes in
    (search rules, (omega arith, (omega arith, c.in_ok-token.ensures.within)))

pub if_statement-returns-in_err-second-clause-parses : goal.if_statement-returns-in_err-second-clause-parses
if_statement-returns-in_err-second-clause-parses t c =
    passed_on _ _ c.from_residual-in_err-second.result c.from_residual-in_err-second.ensures.1
    (refused_inside (if_chosen c.in_ok-token.ensures.found c.in_ok-test.ensures.found c.in_ok-first.ensures.parses
    c.in_ok-token.ensures.within) _ c.in_err-second.ensures.parses)

pub if_statement-returns-clause-parses : goal.if_statement-returns-clause-parses
if_statement-returns-clause-parses t c =
    if_found c.args.index c.in_ok-first.middle c.in_ok-condition.condition c.in_ok-first.first c.in_ok-first-2.first
    c.in_ok-second.second c.in_ok-condition.ensures.ok c.in_ok-first-2.ensures.found
    (λ names. omega (arith, c.in_ok-first.ensures.free names, c.in_ok-first-2.ensures.count names))
    c.in_ok-token.ensures.found c.in_ok-test.ensures.found c.in_ok-first.ensures.parses c.in_ok-second.ensures.parses
    c.in_ok-token.ensures.within

pub if_statement-returns-clause-free : goal.if_statement-returns-clause-free
if_statement-returns-clause-free t c names =
    let tree = statement-if names c.args.index c.in_ok-token.token.place c.in_ok-condition.condition
    c.in_ok-first-2.first c.in_ok-second.second in
    rw (ap count_of tree) (omega (
      arith,
      c.in_ok-first.ensures.free names,
      c.in_ok-first-2.ensures.count names,
      c.in_ok-second.ensures.free names,
    ))

pub if_statement-returns-clause-few : goal.if_statement-returns-clause-few
if_statement-returns-clause-few t c =
    let shorter_test = parentheses_shorter c.in_ok-test.ensures.found in
    let numbers = c.in_ok-first.ensures.few in
    let numbers_after = c.in_ok-second.ensures.few in
    let token = token_shorter c.in_ok-token.ensures.found.takes in
    omega arith

pub while_statement-returns-in_err-token-clause-parses : goal.while_statement-returns-in_err-token-clause-parses
while_statement-returns-in_err-token-clause-parses t c =
    passed_on _ _ c.from_residual.result c.from_residual.ensures.1
    (keyword_refused _ _ _ _ (while_opened c.args.depth) c.requires.begins c.in_err-token.ensures.refused)

pub while_statement-returns-in_err-test-clause-parses : goal.while_statement-returns-in_err-test-clause-parses
while_statement-returns-in_err-test-clause-parses t c =
    passed_on _ _ c.from_residual-in_err-test.result c.from_residual-in_err-test.ensures.1
    (refused_test c.args.depth _ (while_opened c.args.depth) c.in_ok-token.ensures.found c.in_ok-token.ensures.within
    c.in_err-test.ensures.refused)

pub while_statement-statement-requires : goal.while_statement-statement-requires
while_statement-statement-requires t c =
    let few = parentheses_few c.in_ok-test.ensures.found in
    let shorter = parentheses_shorter c.in_ok-test.ensures.found in
    let token = token_shorter c.in_ok-token.ensures.found.takes in
    (search rules, (omega arith, (omega arith, c.in_ok-token.ensures.within)))

pub while_statement-returns-in_err-body-clause-parses : goal.while_statement-returns-in_err-body-clause-parses
while_statement-returns-in_err-body-clause-parses t c =
    passed_on _ _ c.from_residual-in_err-body.result c.from_residual-in_err-body.ensures.1
    (refused_inside (test_read (while_opened c.args.depth) c.in_ok-token.ensures.found c.in_ok-test.ensures.found
    c.in_ok-token.ensures.within) _ c.in_err-body.ensures.parses)

pub while_statement-returns-clause-parses : goal.while_statement-returns-clause-parses
while_statement-returns-clause-parses t c =
    while_found c.args.index c.in_ok-condition.condition c.in_ok-body.body c.in_ok-body-2.body
    c.in_ok-condition.ensures.ok c.in_ok-body-2.ensures.found
    c.in_ok-token.ensures.found c.in_ok-test.ensures.found c.in_ok-body.ensures.parses c.in_ok-token.ensures.within

pub while_statement-returns-clause-free : goal.while_statement-returns-clause-free
while_statement-returns-clause-free t c names =
    let tree = statement-while names c.args.index c.in_ok-token.token.place c.in_ok-condition.condition
    c.in_ok-body-2.body in
    rw (ap count_of tree) (omega (arith, c.in_ok-body.ensures.free names, c.in_ok-body-2.ensures.count names))

pub while_statement-returns-clause-few : goal.while_statement-returns-clause-few
while_statement-returns-clause-few t c =
    let shorter_test = parentheses_shorter c.in_ok-test.ensures.found in
    let numbers = c.in_ok-body.ensures.few in
    let token = token_shorter c.in_ok-token.ensures.found.takes in
    omega arith

pub block_statement-block-requires : goal.block_statement-block-requires
block_statement-block-requires t c = (search rules, (c.requires.names, (c.requires.few, omega arith)))

pub block_statement-returns-in_err-body-clause-parses : goal.block_statement-returns-in_err-body-clause-parses
block_statement-returns-in_err-body-clause-parses t c =
    passed_on _ _ c.from_residual.result c.from_residual.ensures.1
    (refused_inside (nested_begins c.args.depth c.args.symbols.now (spot c.args.from) c.requires.begins) _
    c.in_err-body.ensures.parses)

pub block_statement-returns-clause-parses : goal.block_statement-returns-clause-parses
block_statement-returns-clause-parses t c =
    nested_found c.args.index c.in_ok-body.body c.place-place.ensures c.requires.begins c.in_ok-body.ensures.parses

pub block_statement-returns-clause-free : goal.block_statement-returns-clause-free
block_statement-returns-clause-free t c names =
    rw (ap count_of (statement-block names c.place-place.result c.in_ok-body.body.statements))
    (c.in_ok-body.ensures.free names)

pub else_branch-returns-in_default-clause-parses : goal.else_branch-returns-in_default-clause-parses
else_branch-returns-in_default-clause-parses t c =
    else_left_out c.args.index c.args.depth c.args.symbols.now (spot c.args.from) c.in_default.ensures.other

pub else_branch-statement-requires : goal.else_branch-statement-requires
else_branch-statement-requires t c =
    let token = token_shorter c.in-Some.ensures.found.takes in
    (search rules, (omega arith, (omega arith, c.requires.depth)))

pub else_branch-returns-in_err-other-clause-parses : goal.else_branch-returns-in_err-other-clause-parses
else_branch-returns-in_err-other-clause-parses t c =
    passed_on _ _ c.from_residual.result c.from_residual.ensures.1
    (refused_inside (else_read c.args.depth c.args.symbols.now c.in-Some.ensures.found c.requires.depth) _
    c.in_err-other.ensures.parses)

pub else_branch-returns-clause-parses : goal.else_branch-returns-clause-parses
else_branch-returns-clause-parses t c =
    else_found c.args.index c.in_ok-other.other c.in_ok-branch.field-0 c.in_ok-branch.ensures.found
    c.in-Some.ensures.found c.in_ok-other.ensures.parses c.requires.depth

pub statement-returns-in_default-clause-parses : goal.statement-returns-in_default-clause-parses
statement-returns-in_default-clause-parses t c =
    statement_refused_at_end c.args.depth (spot c.args.from) _ c.wrong.ensures c.in_default.ensures.none

pub statement-keyword_statement-requires : goal.statement-keyword_statement-requires
statement-keyword_statement-requires t c = (
  search rules,
  (
    next_taken (stands c.in-Some.ensures.some c.in-Keyword.is),
    (c.requires.names, (c.requires.few, c.requires.depth)),
  ),
)

pub statement-block_statement-requires : goal.statement-block_statement-requires
statement-block_statement-requires t c =
    let brace = punctuator_is c.in-Punctuator.punctuator punctuator.OpenBrace c.in-Punctuator.is c.eq.ensures
    c.if-eq.true in (
      search rules,
      (
        fits_next refl (stands c.in-Some.ensures.some brace),
        (c.requires.names, (c.requires.few, c.requires.depth)),
      ),
    )

pub keyword_statement-if_statement-requires : goal.keyword_statement-if_statement-requires
keyword_statement-if_statement-requires t c =
    let stands_if = c.requires.begins ∙ ap KeywordKind c.in-If.is in (
      search rules,
      (
        ap (fits (KeywordKind keyword.If)) stands_if,
        (c.requires.names, (c.requires.few, c.requires.depth)),
      ),
    )

pub keyword_statement-while_statement-requires : goal.keyword_statement-while_statement-requires
keyword_statement-while_statement-requires t c =
    let stands_while = c.requires.begins ∙ ap KeywordKind c.in-While.is in (
      search rules,
      (
        ap (fits (KeywordKind keyword.While)) stands_while,
        (c.requires.names, (c.requires.few, c.requires.depth)),
      ),
    )

pub keyword_statement-returns-in_err-this_statement-in-This-clause-parses
    : goal.keyword_statement-returns-in_err-this_statement-in-This-clause-parses
keyword_statement-returns-in_err-this_statement-in-This-clause-parses t c =
    passed_on _ _ c.from_residual.result c.from_residual.ensures.1 c.in_err-this_statement-in-This.ensures.parses

pub keyword_statement-returns-in_err-simple_statement-in-Skip-clause-parses
    : goal.keyword_statement-returns-in_err-simple_statement-in-Skip-clause-parses
keyword_statement-returns-in_err-simple_statement-in-Skip-clause-parses t c =
    passed_on _ _ c.from_residual-in_err-simple_statement-in-Skip.result
    c.from_residual-in_err-simple_statement-in-Skip.ensures.1 c.in_err-simple_statement-in-Skip.ensures.parses

pub keyword_statement-returns-in_err-stmt-in_default-clause-parses
    : goal.keyword_statement-returns-in_err-stmt-in_default-clause-parses
keyword_statement-returns-in_err-stmt-in_default-clause-parses t c =
    passed_on _ _ c.from_residual-in_err-stmt-in_default.result c.from_residual-in_err-stmt-in_default.ensures.1
    c.in_err-stmt-in_default.ensures.parses

pub statement-returns-in_err-variable_declaration-in-UpperName-clause-parses
    : goal.statement-returns-in_err-variable_declaration-in-UpperName-clause-parses
statement-returns-in_err-variable_declaration-in-UpperName-clause-parses t c =
    passed_on _ _ c.from_residual.result c.from_residual.ensures.1
    c.in_err-variable_declaration-in-UpperName.ensures.parses

pub statement-returns-in_err-variable_statement-in-LowerName-clause-parses
    : goal.statement-returns-in_err-variable_statement-in-LowerName-clause-parses
statement-returns-in_err-variable_statement-in-LowerName-clause-parses t c =
    passed_on _ _ c.from_residual-in_err-variable_statement-in-LowerName.result
    c.from_residual-in_err-variable_statement-in-LowerName.ensures.1
    c.in_err-variable_statement-in-LowerName.ensures.parses

pub statement-returns-in_err-right_side_statement-in-Punctuator-clause-parses
    : goal.statement-returns-in_err-right_side_statement-in-Punctuator-clause-parses
statement-returns-in_err-right_side_statement-in-Punctuator-clause-parses t c =
    passed_on _ _ c.from_residual-in_err-right_side_statement-in-Punctuator.result
    c.from_residual-in_err-right_side_statement-in-Punctuator.ensures.1
    c.in_err-right_side_statement-in-Punctuator.ensures.parses

pub statement-returns-in_err-stmt-in-Number-clause-parses : goal.statement-returns-in_err-stmt-in-Number-clause-parses
statement-returns-in_err-stmt-in-Number-clause-parses t c =
    passed_on _ _ c.from_residual-in_err-stmt-in-Number.result c.from_residual-in_err-stmt-in-Number.ensures.1
    c.in_err-stmt-in-Number.ensures.parses

pub statement-returns-clause-parses : goal.statement-returns-clause-parses
statement-returns-clause-parses t c =
    elim c.match-token.branch [
      | statement-in-UpperName+in_ok-variable_declaration-in-UpperName w ↦
          rw (w.symbols-is, w.stmt-is) w.in_ok-variable_declaration-in-UpperName.ensures.parses
      | statement-in-LowerName+in_ok-variable_statement-in-LowerName w ↦
          rw (w.symbols-is, w.stmt-is) w.in_ok-variable_statement-in-LowerName.ensures.parses
      | statement-in-Punctuator+else-eq+in_ok-right_side_statement-in-Punctuator w ↦
          rw (w.symbols-is, w.stmt-is) w.in_ok-right_side_statement-in-Punctuator.ensures.parses
      | statement-in-Number+in_ok-stmt-in-Number w ↦ rw (w.symbols-is, w.stmt-is) w.in_ok-stmt-in-Number.ensures.parses
    ]

pub keyword_statement-simple_statement-requires-clause-begins
    : goal.keyword_statement-simple_statement-requires-clause-begins
keyword_statement-simple_statement-requires-clause-begins t c = c.requires.begins

pub keyword_statement-returns-clause-parses : goal.keyword_statement-returns-clause-parses
keyword_statement-returns-clause-parses t c =
    elim c.match-keyword.branch [
      | keyword_statement-in-This+in_ok-this_statement-in-This w ↦
          rw (w.symbols-is, w.stmt-is) w.in_ok-this_statement-in-This.ensures.parses
      | keyword_statement-in-Skip+in_ok-simple_statement-in-Skip w ↦
          rw (w.symbols-is, w.stmt-is) w.in_ok-simple_statement-in-Skip.ensures.parses
      | keyword_statement-in_default+in_ok-stmt-in_default w ↦
          rw (w.symbols-is, w.stmt-is) w.in_ok-stmt-in_default.ensures.parses
    ]

pub statement-returns-clause-few : goal.statement-returns-clause-few
statement-returns-clause-few t c =
    elim c.match-token.branch [
      | statement-in-UpperName+in_ok-variable_declaration-in-UpperName w ↦
          rw w.stmt-is (let fewer = found_fewer w.in_ok-variable_declaration-in-UpperName.ensures.parses in omega arith)
      | statement-in-LowerName+in_ok-variable_statement-in-LowerName w ↦
          rw w.stmt-is (let fewer = found_fewer w.in_ok-variable_statement-in-LowerName.ensures.parses in omega arith)
      | statement-in-Punctuator+else-eq+in_ok-right_side_statement-in-Punctuator w ↦
          rw w.stmt-is (let fewer = found_fewer w.in_ok-right_side_statement-in-Punctuator.ensures.parses in
          omega arith)
      | statement-in-Number+in_ok-stmt-in-Number w ↦
          rw w.stmt-is (let fewer = found_fewer w.in_ok-stmt-in-Number.ensures.parses in omega arith)
    ]

pub keyword_statement-returns-clause-few : goal.keyword_statement-returns-clause-few
keyword_statement-returns-clause-few t c =
    elim c.match-keyword.branch [
      | keyword_statement-in-This+in_ok-this_statement-in-This w ↦
          rw w.stmt-is (let fewer = found_fewer w.in_ok-this_statement-in-This.ensures.parses in omega arith)
      | keyword_statement-in-Skip+in_ok-simple_statement-in-Skip w ↦
          rw w.stmt-is (let fewer = found_fewer w.in_ok-simple_statement-in-Skip.ensures.parses in omega arith)
      | keyword_statement-in_default+in_ok-stmt-in_default w ↦
          rw w.stmt-is (let fewer = found_fewer w.in_ok-stmt-in_default.ensures.parses in omega arith)
    ]
