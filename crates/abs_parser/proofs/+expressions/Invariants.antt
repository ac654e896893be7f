use Rattle.std.proofs.Common.{◌≡◌, ◌+◌, ◌-◌, ◌*◌, length}
use Rattle.abs_parser.specs.Views.{spot}
use Rattle.abs_parser.specs.Precedences.{rank}
use Rattle.abs_parser.proofs.grammar.OperatorLemmas.{OperatorsSoFar}
use Rattle.abs_parser.proofs.reader.CaseSteps.{ReadsCase}
use Rattle.abs_parser.proofs.reader.ListLemmas.{list_of_expressions, trees_of_expressions}
use Rattle.abs_parser.proofs.reader.ListSteps.{ReadsSoFar}
use Rattle.abs_parser.proofs.+expressions.Given as goal

-- each call has fewer tokens left than its caller, or as many and a smaller part of the grammar
abbrev pub decreases-expressions::expression : goal.decreases-expressions::expression
decreases-expressions::expression l = 40 * length (spot l.from).rest + 32

abbrev pub decreases-expressions::let_expression : goal.decreases-expressions::let_expression
decreases-expressions::let_expression l = 40 * length (spot l.from).rest + 31

abbrev pub decreases-expressions::if_expression : goal.decreases-expressions::if_expression
decreases-expressions::if_expression l = 40 * length (spot l.from).rest + 31

abbrev pub decreases-operators::operators : goal.decreases-operators::operators
decreases-operators::operators l = 40 * length (spot l.from).rest + (2 * rank l.precedence + 20)

abbrev pub decreases-operators::climb : goal.decreases-operators::climb
decreases-operators::climb l = 40 * length (spot l.from).rest + (2 * (rank l.to - rank l.at) + 8)

abbrev pub decreases-operators::operators_after : goal.decreases-operators::operators_after
decreases-operators::operators_after l = 40 * length (spot l.from).rest + 7

abbrev pub decreases-operators::operand : goal.decreases-operators::operand
decreases-operators::operand l = 40 * length (spot l.from).rest + (2 * rank l.precedence + 19)

abbrev pub decreases-primaries::unary : goal.decreases-primaries::unary
decreases-primaries::unary l = 40 * length (spot l.from).rest + 5

abbrev pub decreases-primaries::primary : goal.decreases-primaries::primary
decreases-primaries::primary l = 40 * length (spot l.from).rest + 4

abbrev pub decreases-primaries::keyword_primary : goal.decreases-primaries::keyword_primary
decreases-primaries::keyword_primary l = 40 * length (spot l.from).rest + 3

abbrev pub decreases-primaries::this_primary : goal.decreases-primaries::this_primary
decreases-primaries::this_primary l = 40 * length (spot l.from).rest + 2

abbrev pub decreases-primaries::name_primary : goal.decreases-primaries::name_primary
decreases-primaries::name_primary l = 40 * length (spot l.from).rest + 2

abbrev pub decreases-primaries::constructor_primary : goal.decreases-primaries::constructor_primary
decreases-primaries::constructor_primary l = 40 * length (spot l.from).rest + 2

abbrev pub decreases-primaries::parenthesized : goal.decreases-primaries::parenthesized
decreases-primaries::parenthesized l = 40 * length (spot l.from).rest + 2

abbrev pub decreases-cases::case_primary : goal.decreases-cases::case_primary
decreases-cases::case_primary l = 40 * length (spot l.from).rest + 2

abbrev pub decreases-cases::branch : goal.decreases-cases::branch
decreases-cases::branch l = 40 * length (spot l.from).rest + 34

abbrev pub decreases-arguments::arguments_maybe : goal.decreases-arguments::arguments_maybe
decreases-arguments::arguments_maybe l = 40 * length (spot l.from).rest + 35

abbrev pub decreases-arguments::arguments : goal.decreases-arguments::arguments
decreases-arguments::arguments l = 40 * length (spot l.from).rest + 34

abbrev pub decreases-arguments::expressions : goal.decreases-arguments::expressions
decreases-arguments::expressions l = 40 * length (spot l.from).rest + 33

-- what was read so far
abbrev pub invariant-operators::operators_after-loop-operator : goal.invariant-operators::operators_after-loop-operator
invariant-operators::operators_after-loop-operator l = record {
  read : OperatorsSoFar l.precedence l.depth l.fn.symbols l.symbols (spot l.from) (spot l.here) l.operands.items;
  first_is : l.first ≡ l.fn.first;
}

abbrev pub decreases-operators::operators_after-loop-operator : goal.decreases-operators::operators_after-loop-operator
decreases-operators::operators_after-loop-operator l = length (spot l.here).rest

abbrev pub invariant-cases::case_primary-loop-symbols : goal.invariant-cases::case_primary-loop-symbols
invariant-cases::case_primary-loop-symbols l =
    record {
      read : ReadsCase l.depth l.fn.symbols l.symbols (spot l.from) (spot l.here) l.token.place l.subject
          l.branches.items;
    }

abbrev pub decreases-cases::case_primary-loop-symbols : goal.decreases-cases::case_primary-loop-symbols
decreases-cases::case_primary-loop-symbols l = length (spot l.here).rest

abbrev pub invariant-arguments::expressions-loop-after : goal.invariant-arguments::expressions-loop-after
invariant-arguments::expressions-loop-after l =
    record {
      read : ReadsSoFar list_of_expressions trees_of_expressions l.depth l.fn.symbols l.symbols (spot l.from)
          (spot l.here) l.expressions.items;
    }

abbrev pub decreases-arguments::expressions-loop-after : goal.decreases-arguments::expressions-loop-after
decreases-arguments::expressions-loop-after l = length (spot l.here).rest
