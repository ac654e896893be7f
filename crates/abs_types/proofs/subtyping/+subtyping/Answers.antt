use Rattle.std.proofs.Common.{sym, refl, arith}
use Rattle.abs_program.specs.NamedViews.{named_tree}
use Rattle.abs_types.proofs.FittingLemmas.{fitting_init, fitting_step, fitting_stop, fitting_short, fitting_done, all_fit_by_length, none_fit_by_length}
use Rattle.abs_types.proofs.FormLemmas.{int_apart, string_apart, future_apart}
use Rattle.abs_types.proofs.SpineLemmas.{data_fits_data}
use Rattle.abs_types.proofs.TermLemmas.{plain_data}
use Rattle.abs_types.proofs.subtyping.+subtyping.Goals as goal

pub subtype-returns-in_default : goal.subtype-returns-in_default
subtype-returns-in_default t c =
    rw c.in-Int.is (int_apart (named_tree c.args.program.now).declarations c.args.program.now.symbols c.args.right.now
    c.in_default.not-Int)

pub subtype-returns-in_default-matches : goal.subtype-returns-in_default-matches
subtype-returns-in_default-matches t c =
    rw c.in-String.is (string_apart (named_tree c.args.program.now).declarations c.args.program.now.symbols
    c.args.right.now c.in_default-matches.not-String)

pub subtype-returns-in_default-right : goal.subtype-returns-in_default-right
subtype-returns-in_default-right t c =
    rw c.in-Fut.is (future_apart (named_tree c.args.program.now).declarations _ c.args.program.now.symbols
    c.args.right.now c.in_default-right.not-Fut)

pub subtype-returns-in-Parameter : goal.subtype-returns-in-Parameter
subtype-returns-in-Parameter t c =
    rw c.in-Parameter.is (c.is_parameter.ensures (named_tree c.args.program.now).declarations
    c.args.program.now.symbols)

pub subtype-returns-in-Unresolved : goal.subtype-returns-in-Unresolved
subtype-returns-in-Unresolved t c =
    rw (plain_data c.args.program.now.symbols c.in-Unresolved.arguments c.in-Unresolved.is
    c.deref-in-Unresolved.ensures.value) c.data_fits.ensures

pub data_fits-returns-then-same_name : goal.data_fits-returns-then-same_name
data_fits-returns-then-same_name t c =
    rw (
      plain_data c.args.program.now.symbols c.in-Unresolved.others c.in-Unresolved.is c.deref.ensures.value,
      data_fits_data,
      ← c.same_name.ensures,
      c.if-same_name.true,
    ) c.all_fit.ensures

pub data_fits-returns-else-same_name : goal.data_fits-returns-else-same_name
data_fits-returns-else-same_name t c =
    rw (
      plain_data c.args.program.now.symbols c.in-Unresolved.others c.in-Unresolved.is refl,
      data_fits_data,
      ← c.same_name.ensures,
      c.if-same_name.false,
    )

pub fitting_count-loop-index-init : goal.fitting_count-loop-index-init
fitting_count-loop-index-init t c = fitting_init

pub fitting_count-loop-index-preserved : goal.fitting_count-loop-index-preserved
fitting_count-loop-index-preserved t c =
    fitting_step c.index-terms-index.result c.in-Some.other.now c.loop-index.invariant c.loop-index-test.true
    c.index-terms-index.is (c.in-Some.ensures.lookup.0, c.in-Some.ensures.lookup.1) (sym c.if-not-subtype.ensures)

pub fitting_count-returns-then-not-subtype : goal.fitting_count-returns-then-not-subtype
fitting_count-returns-then-not-subtype t c =
    fitting_stop c.index-terms-index.result c.in-Some.other.now c.loop-index.invariant c.loop-index-test.true
    c.index-terms-index.is (c.in-Some.ensures.lookup.0, c.in-Some.ensures.lookup.1) (sym c.if-not-subtype.ensures)

pub fitting_count-returns-in-None : goal.fitting_count-returns-in-None
fitting_count-returns-in-None t c = fitting_short c.loop-index.invariant c.in-None.ensures.lookup.0

pub fitting_count-returns : goal.fitting_count-returns
fitting_count-returns t c = fitting_done c.loop-index.invariant (omega arith)

pub all_fit-returns-then-terms-others : goal.all_fit-returns-then-terms-others
all_fit-returns-then-terms-others t c =
    all_fit_by_length (named_tree c.args.program.now).declarations c.args.program.now.symbols c.args.terms.now
    c.args.others.now c.if-terms-others.true c.fitting_count.ensures

pub all_fit-returns-else-terms-others : goal.all_fit-returns-else-terms-others
all_fit-returns-else-terms-others t c =
    none_fit_by_length (named_tree c.args.program.now).declarations c.args.program.now.symbols c.args.terms.now
    c.args.others.now c.if-terms-others.false
