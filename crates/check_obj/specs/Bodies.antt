-- Right sides and statements, as contracts of their checker see them. These words serve contracts of this crate alone;
-- what has a type, and what offends, is defined in abs_types.
--
--   `unbound`                          a context in which no variable is bound, as in a body
--   `IsNoCall`                         an expression is no call on `this`
--   `side_typed`, `side_offends`       the type of a right side from memory, and its offences
--   `side_fits`                        the offences of a right side, and of one that does not fit what is asked for
--   `guard_offends`                    the offences of a guard
--   `after`                            the context after a statement
--   `statement_offends`, ..            the offences of a statement, and of several
use Rattle.std.specs.Prelude.{⊤, Bool, List, [], ◌++◌, Option, Some}
use Rattle.abs_tree.specs.Syntax.{ExprTree, OwnCallOf}
use Rattle.abs_tree.specs.SyntaxViews.{side_tree, statement, statements, tests}
use Rattle.abs_tree.specs.declared.refusal.Offence.{Offence}
use Rattle.abs_tree.specs.declared.syntax.statement.RightSide.{RightSide}
use Rattle.abs_tree.specs.declared.syntax.statement.Stmt.{Stmt}
use Rattle.abs_tree.specs.declared.syntax.statement.Test.{Test}
use Rattle.abs_types.specs.PlainTypes.{PlainType}
use Rattle.abs_types.specs.SideTypes.{side_offences, side_type}
use Rattle.abs_types.specs.StatementOffences.{frame_after, statement_offences, statements_offences, test_offences, unfit_side}
use Rattle.check_fun.specs.Contexts.{Context}

-- a context in which no variable is bound
abbrev pub unbound : Context → Context
unbound context = record context { bound = [] }

-- an expression is no call on `this`
abbrev pub IsNoCall : ExprTree → Type 0
IsNoCall (OwnCallOf place method arguments) = ⊥
IsNoCall _ = ⊤

-- the type of a right side, and its offences
abbrev pub side_typed : Context → RightSide → Option PlainType
side_typed context side = side_type context.declarations context.frame (side_tree context.names side)

abbrev pub side_offends : Context → RightSide → List Offence
side_offends context side = side_offences context.declarations context.frame (side_tree context.names side)

-- its offences, and that of one that does not fit the type that is asked for
abbrev pub side_fits : Context → RightSide → PlainType → List Offence
side_fits context side asked =
    side_offends context side
    ++ unfit_side context.declarations context.frame (side_tree context.names side) (Some asked)

-- the offences of a guard
abbrev pub guard_offends : Context → List Test → List Offence
guard_offends context guard = test_offences context.declarations context.frame (tests context.names guard)

-- the context after a statement
abbrev pub after : Context → Stmt → Context
after context stmt = record context { frame = frame_after context.frame (statement context.names stmt) }

-- the offences of a statement, and of several
abbrev pub statement_offends : Context → Bool → Stmt → List Offence
statement_offends context is_last stmt =
    statement_offences context.declarations context.frame is_last (statement context.names stmt)

abbrev pub statements_offend : Context → Bool → List Stmt → List Offence
statements_offend context is_last stmts =
    statements_offences context.declarations context.frame is_last (statements context.names stmts)
