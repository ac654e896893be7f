-- Threads can hand over and share expressions: what an expression owns names no thread. One search for it is too long,
-- so each part of an expression has its own lemmas.
--     type_send, type_sync                a type as it is written can be handed over;  it can be shared
--     pattern_send, pattern_sync          a pattern can be handed over;  it can be shared
--     expression_send, expression_sync    an expression can be handed over;  it can be shared
--     exprs_send, exprs_sync              the expressions of a statement can be handed over;  they can be shared
use denote.Param.Send.{IsSend, IsSync, sendable}
use Rattle.std.proofs.Crossing.{crosses}
use Rattle.abs_tree.specs.contracts.syntax.expression.Expr as Expr
use Rattle.abs_tree.specs.contracts.syntax.pattern.Pattern as Pattern
use Rattle.abs_tree.specs.contracts.syntax.types.TypeTerm as TypeTerm
use Rattle.abs_program.specs.contracts.tables.control.Exprs as Exprs
use Rattle.abs_tree.proofs.syntax.expression.Expr.TheLaws.TheKnot as ExprKnot
use Rattle.abs_tree.proofs.syntax.pattern.Pattern.TheLaws.TheKnot as PatternKnot
use Rattle.abs_tree.proofs.syntax.types.TypeTerm.TheLaws.TheKnot as TypeTermKnot

-- A type as it is written can be handed over
pub type_send : IsSend (TypeTerm.the_field).row
type_send = search (sendable, crosses, TypeTermKnot.crosses) depth 20

-- A type as it is written can be shared
pub type_sync : IsSync (TypeTerm.the_field).row
type_sync = search (sendable, crosses, TypeTermKnot.crosses) depth 20

-- A pattern can be handed over
pub pattern_send : IsSend (Pattern.the_field).row
pattern_send = search (sendable, crosses, PatternKnot.crosses) depth 20

-- A pattern can be shared
pub pattern_sync : IsSync (Pattern.the_field).row
pattern_sync = search (sendable, crosses, PatternKnot.crosses) depth 20

-- An expression holds counted ones, and these can be handed over only where they can be shared too, so the search for
-- either law takes both of each part.

-- An expression can be handed over
pub expression_send : IsSend (Expr.the_field).row
expression_send =
    search (sendable, crosses, ExprKnot.crosses_both, type_send, type_sync, pattern_send, pattern_sync) depth 20
    fits 20000

-- An expression can be shared
pub expression_sync : IsSync (Expr.the_field).row
expression_sync =
    search (sendable, crosses, ExprKnot.crosses_both, type_send, type_sync, pattern_send, pattern_sync) depth 20
    fits 20000

-- The expressions of a statement can be handed over
pub exprs_send : IsSend (Exprs.the_field).row
exprs_send = search (sendable, crosses, expression_send, expression_sync) depth 20

-- The expressions of a statement can be shared
pub exprs_sync : IsSync (Exprs.the_field).row
exprs_sync = search (sendable, crosses, expression_send, expression_sync) depth 20
