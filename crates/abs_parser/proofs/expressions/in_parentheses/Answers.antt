use Rattle.std.proofs.Common.{[], ◌∷◌, refl}
use Rattle.abs_lexer.specs.declared.lexeme.Lexeme.TheVariants as lexeme
use Rattle.abs_lexer.specs.declared.lexeme.Punctuator.TheVariants as punctuator
use Rattle.abs_parser.specs.TokenKinds.{PunctuatorKind}
use Rattle.abs_parser.specs.Productions.{Expr}
use Rattle.abs_parser.specs.Readings.{One, Terminal, Subgoal}
use Rattle.abs_parser.proofs.reader.ParenthesisSteps.{between_parentheses}
use Rattle.abs_parser.proofs.reader.ResultLemmas.{error_passed_on}
use Rattle.abs_parser.proofs.reader.StepLemmas.{refused_past, refused_past_part}
use Rattle.abs_parser.proofs.expressions.in_parentheses.Goals as goal

pub returns-in_err-expr_at-clause-refused : goal.returns-in_err-expr_at-clause-refused
returns-in_err-expr_at-clause-refused c =
    error_passed_on _ c.from_residual.result c.from_residual.ensures.1
    (λ items. c.in_err-expr_at.ensures.refused
    (Subgoal (One Expr) c.args.depth ∷ Terminal (PunctuatorKind punctuator.CloseParen) c.args.depth ∷ items))

pub returns-in_err-expr-clause-refused : goal.returns-in_err-expr-clause-refused
returns-in_err-expr-clause-refused c =
    error_passed_on _ c.from_residual-in_err-expr.result c.from_residual-in_err-expr.ensures.1
    (refused_past {kind = lexeme.Punctuator punctuator.OpenParen}
    (Subgoal (One Expr) c.args.depth ∷ Terminal (PunctuatorKind punctuator.CloseParen) c.args.depth ∷ [])
    c.in_ok-expr_at.ensures.found refl c.in_ok-expr_at.ensures.within _
    (λ items. c.in_err-expr.ensures (Terminal (PunctuatorKind punctuator.CloseParen) c.args.depth ∷ items)))

pub returns-in_err-end-clause-refused : goal.returns-in_err-end-clause-refused
returns-in_err-end-clause-refused c =
    error_passed_on _ c.from_residual-in_err-end.result c.from_residual-in_err-end.ensures.1
    (refused_past {kind = lexeme.Punctuator punctuator.OpenParen}
    (Subgoal (One Expr) c.args.depth ∷ Terminal (PunctuatorKind punctuator.CloseParen) c.args.depth ∷ [])
    c.in_ok-expr_at.ensures.found refl c.in_ok-expr_at.ensures.within _
    (refused_past_part (Terminal (PunctuatorKind punctuator.CloseParen) c.args.depth ∷ []) c.in_ok-expr.ensures _
    c.in_err-end.ensures.refused))

pub returns-clause-found : goal.returns-clause-found
returns-clause-found c = between_parentheses c.in_ok-expr_at.ensures.found c.in_ok-expr.ensures
    c.in_ok-end.ensures.found c.in_ok-expr_at.ensures.within
