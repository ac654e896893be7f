use Rattle.std.proofs.Common.{Bool, ◌≡◌, ◌∙◌, ◌&&◌, arith, ap, length, List, [], not, Option, refl, Some, subst, sym, unwrap_or, ℕ}
use denote.Param.Weighed.{at_most}
use Rattle.abs_tree.specs.Names.{name_of}
use Rattle.abs_tree.specs.Syntax.{Built}
use Rattle.abs_tree.specs.SyntaxViews.{pattern_trees}
use Rattle.abs_tree.specs.declared.refusal.Code.TheVariants.{T1}
use Rattle.abs_tree.specs.declared.refusal.Offence.{Offence}
use Rattle.abs_tree.specs.declared.syntax.pattern.Pattern.{size-Pattern}
use Rattle.abs_types.proofs.KeepLemmas.{keeps_transitive}
use Rattle.abs_tree.specs.Offences.{offence_if}
use Rattle.abs_types.specs.PlainTypes.{PlainType}
use Rattle.abs_types.specs.declared.table.shape.TypeIndex.{TypeIndex}
use Rattle.check_fun.specs.Contexts.{context_in, items_of, Context, Finds, FindsAll, Knows, Noted}
use Rattle.check_fun.proofs.ContextLemmas.{finds_all_stays, found_all_kept, found_all_stays, found_stays, knows_stays}
use Rattle.check_fun.proofs.PatternLemmas.{built_met, finds_listed, foreign_found, found_at, found_listed, matched, patterns_start, patterns_step, patterns_done, PatternMet}
use Rattle.check_fun.proofs.checker.Checker.+patterns.Goals as goal
use Rattle.check_fun.proofs.checker.Checker.+patterns.Goals.{built-then-not-is_foreign, built-else-not-is_foreign}
use Rattle.abs_tree.proofs.FormLemmas.{built_tree}

-- what is known where a constructor was met
met : {t : ℕ} (c : goal.built-Joined-parts-2 t) (context : Context) (type : Option PlainType)
    → Knows c.args.self.now context → Finds c.args.self.now c.args.subject type
    → PatternMet context type c.args.self.now.first (Built c.args.place (name_of context.names c.args.constructor)
    (pattern_trees context.names c.args.arguments.now)) (not c.is_foreign-is_foreign.result && c.in_ok-fit.fit)
    c.patterns.new.self
met {t} c context type knows finds =
    let constructor = name_of context.names c.args.constructor in
    let found = c.in_ok-parts.ensures.found context type knows finds in
    let types = unwrap_or (matched context.declarations type constructor (length c.args.arguments.now)) [] in
    let knows_now = knows_stays c.note_if.ensures.stays (knows_stays c.in_ok-parts.ensures.stays knows) in
    let listed = subst (λ (indices : List TypeIndex). FindsAll c.note_if.new.self (Some indices) (Some types))
    (sym c.listed.ensures)
    (finds_listed (items_of c.in_ok-parts.parts) (finds_all_stays c.note_if.ensures.stays found)) in
    built_met c.args.place constructor c.args.arguments.now c.is_foreign-is_foreign.result c.in_ok-fit.fit refl
    (c.is_foreign-is_foreign.ensures ∙ foreign_found c.in_ok-parts.parts finds found)
    (subst (λ (first : Option Offence). Noted first (offence_if c.is_foreign-is_foreign.result T1 c.args.place)
    c.note_if.new.self.first) c.in_ok-parts.ensures.first c.note_if.ensures.noted)
    (record {
      fits_are = c.in_ok-fit.ensures.fits context types knows_now listed;
      noted = c.in_ok-fit.ensures.noted context types knows_now listed;
      bound = c.in_ok-fit.ensures.bound context types knows_now listed;
    })

-- the result of the code that tests both
reported : {t : ℕ} (c : goal.built-Joined-parts-2 t)
    → (c.if-not-is_foreign.result ≡ not c.is_foreign-is_foreign.result && c.in_ok-fit.fit)
reported c = elim c.if-not-is_foreign.branch [
  | built-then-not-is_foreign w ↦
      w.result-is ∙ ap (λ (foreign : Bool). not foreign && c.in_ok-fit.fit) (sym w.if-not-is_foreign.true)
  | built-else-not-is_foreign w ↦
      w.result-is ∙ ap not w.if-not-is_foreign.false
      ∙ ap (λ (foreign : Bool). not foreign && c.in_ok-fit.fit) (sym w.if-not-is_foreign.false)
]

pub built-patterns-requires : goal.built-patterns-requires
built-patterns-requires t c =
    let found = c.in_ok-parts.ensures.found (context_in c.args.self.now) _ (record { is = refl })
    (record { found_is = c.requires; is = refl }) in (
      omega arith,
      rw c.listed.ensures (found_listed (items_of c.in_ok-parts.parts)
          (found_all_stays c.note_if.ensures.stays found.found_are)),
    )

pub built-returns-clause-fits : goal.built-returns-clause-fits
built-returns-clause-fits t c context type knows finds = reported c ∙ (met c context type knows finds).fits_is

pub built-returns-clause-noted : goal.built-returns-clause-noted
built-returns-clause-noted t c context type knows finds = (met c context type knows finds).noted

pub built-returns-clause-bound : goal.built-returns-clause-bound
built-returns-clause-bound t c context type knows finds = (met c context type knows finds).bound

pub built-returns-clause-keeps : goal.built-returns-clause-keeps
built-returns-clause-keeps t c =
    keeps_transitive c.in_ok-parts.ensures.stays.keeps
    (keeps_transitive c.note_if.ensures.stays.keeps c.in_ok-fit.ensures.keeps)

pub pattern-literal-requires-clause-subject : goal.pattern-literal-requires-clause-subject
pattern-literal-requires-clause-subject t c = found_stays c.int.ensures.stays c.requires

pub pattern-literal-requires-in-Text-clause-subject : goal.pattern-literal-requires-in-Text-clause-subject
pattern-literal-requires-in-Text-clause-subject t c = found_stays c.string.ensures.stays c.requires

pub pattern-returns-in_ok-asked-in-Number-clause-keeps : goal.pattern-returns-in_ok-asked-in-Number-clause-keeps
pattern-returns-in_ok-asked-in-Number-clause-keeps t c =
    keeps_transitive c.int.ensures.stays.keeps c.literal.ensures.stays.keeps

pub pattern-returns-in_ok-asked-in-Text-clause-keeps : goal.pattern-returns-in_ok-asked-in-Text-clause-keeps
pattern-returns-in_ok-asked-in-Text-clause-keeps t c =
    keeps_transitive c.string.ensures.stays.keeps c.literal-in-Text.ensures.stays.keeps

pub pattern-returns-in-Built-clause-fits : goal.pattern-returns-in-Built-clause-fits
pattern-returns-in-Built-clause-fits t c context type knows finds =
    let form = c.in-Built in
    rw (built_tree context.names c.args.pattern.now form.place form.constructor form.arguments c.deref.result.now
    form.is c.deref.ensures.value) (c.built.ensures.fits context type knows finds)

pub pattern-returns-in-Built-clause-noted : goal.pattern-returns-in-Built-clause-noted
pattern-returns-in-Built-clause-noted t c context type knows finds =
    let form = c.in-Built in
    rw (built_tree context.names c.args.pattern.now form.place form.constructor form.arguments c.deref.result.now
    form.is c.deref.ensures.value) (c.built.ensures.noted context type knows finds)

pub pattern-returns-in-Built-clause-bound : goal.pattern-returns-in-Built-clause-bound
pattern-returns-in-Built-clause-bound t c context type knows finds =
    let form = c.in-Built in
    rw (built_tree context.names c.args.pattern.now form.place form.constructor form.arguments c.deref.result.now
    form.is c.deref.ensures.value) (c.built.ensures.bound context type knows finds)

pub patterns-loop-index-init : goal.patterns-loop-index-init
patterns-loop-index-init t c = patterns_start c.args.self.now c.args.subjects.now

pub patterns-pattern-requires : goal.patterns-pattern-requires
patterns-pattern-requires t c =
    let size = at_most size-Pattern c.args.patterns.now c.loop-index.index c.index-patterns-index.result
    c.loop-index-test.true in (
      rw c.index-patterns-index.is (omega (arith, size)),
      rw c.subject_at.ensures (found_at c.loop-index.index (found_all_kept c.loop-index.invariant.keeps c.requires)),
    )

pub patterns-loop-index-preserved : goal.patterns-loop-index-preserved
patterns-loop-index-preserved t c =
    patterns_step c.args.patterns.now c.loop-index.index c.index-patterns-index.result c.in_ok-fit.field-0
    c.loop-index.invariant c.loop-index-test.true c.index-patterns-index.is c.subject_at.ensures
    c.in_ok-fit.ensures.fits c.in_ok-fit.ensures.noted c.in_ok-fit.ensures.bound c.in_ok-fit.ensures.keeps

pub patterns-returns-clause-fits : goal.patterns-returns-clause-fits
patterns-returns-clause-fits t c context types knows finds =
    ((patterns_done c.args.patterns.now c.loop-index.index c.loop-index.invariant c.loop-index-test.false).met context
    types knows finds).fits_are

pub patterns-returns-clause-noted : goal.patterns-returns-clause-noted
patterns-returns-clause-noted t c context types knows finds =
    ((patterns_done c.args.patterns.now c.loop-index.index c.loop-index.invariant c.loop-index-test.false).met context
    types knows finds).noted

pub patterns-returns-clause-bound : goal.patterns-returns-clause-bound
patterns-returns-clause-bound t c context types knows finds =
    ((patterns_done c.args.patterns.now c.loop-index.index c.loop-index.invariant c.loop-index-test.false).met context
    types knows finds).bound

pub patterns-returns-clause-keeps : goal.patterns-returns-clause-keeps
patterns-returns-clause-keeps t c = c.loop-index.invariant.keeps
