use Rattle.abs_lexer.specs.Views.{lexed}
use Rattle.abs_parser.specs.Views.{spot}
use Rattle.abs_parser.proofs.grammar.KindLemmas.{kind_equal, kind_other}
use Rattle.abs_parser.proofs.grammar.AskedLemmas.{unfit_token, unfit_end}
use Rattle.abs_parser.proofs.cursor.Cursor.accept.Goals.{in_default-via-in-Some+else-eq, in_default-via-in_default}
use Rattle.abs_parser.proofs.cursor.Cursor.accept.Goals as goal

pub returns-in-Some-clause-found : goal.returns-in-Some-clause-found
returns-in-Some-clause-found c =
    record {
      kind_is = kind_equal c.in-Some.token.kind c.args.kind c.eq.result c.eq.ensures c.if-eq.true;
      takes =
          c.in-Some.ensures.some;
    }

pub returns-in_default-clause-other : goal.returns-in_default-clause-other
returns-in_default-clause-other c = elim c.in_default.branch [
  | in_default-via-in-Some+else-eq w ↦
      unfit_token c.args.kind (lexed w.in-Some.token) (spot c.args.self) (spot w.in-Some.after) w.in-Some.ensures.some
      (kind_other w.in-Some.token.kind c.args.kind w.eq.result w.eq.ensures w.if-eq.false)
  | in_default-via-in_default w ↦ unfit_end c.args.kind (spot c.args.self) w.in_default.ensures.none
]
