-- The terms of a body grow by one statement at a time.
--
--   `point_there`, `fact_there`        at a statement of a body there are a point and settled slots
--   `terms_none`, `terms_more`         the terms of no statement, and those of one more
--   `terms_all`                        those of all statements
--   `TermsGathered`, `gathered_none`, ..   the same for what the code has gathered
use denote.Ref.{Bor}
use Rattle.std.proofs.Common.{◌≡◌, ℕ, zero, suc, ◌+◌, ◌<◌, Bool, true, false, List, [], ◌∷◌, ◌++◌, All, Some, None, cond, map, filter, length, arith, refl, sym, ap, ◌∙◌, subst}
use Rattle.std.specs.Prelude.{slice_get, drop, option_map}
use Rattle.std.specs.declared.alloc.Global.{Global}
use Rattle.std.specs.declared.vec.Vec.{Vec}
use Rattle.std.specs.List.{range_with_len}
use Rattle.std.proofs.lemmas.List.{length-map, map-append, map-id, append-nil}
use Rattle.std.proofs.lemmas.List.Elements.{All-nil, All-cons, All-append, filter-append}
use Rattle.std.proofs.lemmas.List.FromFn.{map-range_with_len_more}
use Rattle.std.proofs.lemmas.Option.{same_Some, slice_get-map, slice_get_within}
use Rattle.abs_program.proofs.FlowLemmas.{length-facts}
use Rattle.abs_program.proofs.PointLemmas.{length-points}
use Rattle.abs_program.proofs.ProgramFactLemmas.{body_stands}
use Rattle.abs_program.proofs.ProgramPointLemmas.{points_of_body}
use Rattle.abs_program.specs.Control.{Point, points, program_points}
use Rattle.abs_program.specs.Flows.{Slots, facts}
use Rattle.abs_program.specs.Instructions.{effect_of, expr_trees_of}
use Rattle.abs_program.specs.NamedViews.{named_tree}
use Rattle.abs_program.specs.ProgramBodies.{BodyAt, IsBodyOf}
use Rattle.abs_program.specs.declared.named.Named.{Named}
use Rattle.abs_tree.specs.Syntax.{Name, SourceTree}
use Rattle.abs_tree.specs.SyntaxSizes.{statement_count}
use Rattle.list_facts.proofs.EntryLemmas.{slice_get-before, slice_get-there}
use Rattle.list_facts.proofs.PartLemmas.{StandsAt}
use Rattle.check_fun.proofs.ContextLemmas.{knows_stays, stays_reflexive, stays_transitive}
use Rattle.check_fun.specs.Contexts.{Knows, Stays}
use Rattle.check_fun.specs.declared.checker.Checker.{Checker}
use Rattle.contract_infer.specs.BodyViews.{names_of, source_of, whole_context, IsViewOf, TermAdded, AreTermsSoFar}
use Rattle.contract_infer.specs.BodyViews.TermAdded.{has_none, added}
use Rattle.contract_infer.specs.SettledRows.{rows_of, AreSettledRows}
use Rattle.contract_infer.specs.declared.bodies.BodyView.{BodyView}
use Rattle.contract_terms.specs.BodyContexts.{BodyContext}
use Rattle.contract_terms.specs.Settled.{no_slot, settled, settled_facts, settled_names}
use Rattle.contract_terms.specs.Terms.{TermTree, point_has_term, IsTermThere, AreTerms}
use Rattle.contract_terms.specs.Views.{term_tree}
use Rattle.contract_terms.specs.declared.term.Term.{Term}

-- numbers with one more
range-more : (start count next : ℕ) → start + count ≡ next
    → range_with_len start (count + 1) ≡ range_with_len start count ++ next ∷ []
range-more start count next is =
    sym (map-id (range_with_len start (count + 1)))
    ∙ (map-range_with_len_more (λ (n : ℕ). n) start count next is
    ∙ ap (λ (numbers : List ℕ). numbers ++ next ∷ []) (map-id (range_with_len start count)))

-- what a filter leaves of one item
filter-one : {A : Type 0} (p : A → Bool) (item : A) → filter p (item ∷ []) ≡ cond (p item) (item ∷ []) []
filter-one p item = refl

-- an item after those that are dropped
slice_get-drop : {A : Type 0} (items : List A) (index offset : ℕ)
    → slice_get items (index + offset) ≡ slice_get (drop index items) offset
slice_get-drop [] zero offset = refl
slice_get-drop [] (suc index) offset = refl
slice_get-drop (item ∷ items) zero offset = ap (slice_get (item ∷ items)) (omega arith)
slice_get-drop (item ∷ items) (suc index) offset =
    let next : suc index + offset ≡ suc (index + offset) = omega arith in
    ap (slice_get (item ∷ items)) next ∙ slice_get-drop items index offset

-- an item of a part of a list
slice_get-part : {A : Type 0} (all part : List A) (index offset : ℕ) → StandsAt all index part → offset < length part
    → slice_get all (index + offset) ≡ slice_get part offset
slice_get-part all part index offset stands within =
    slice_get-drop all index offset
    ∙ (ap (λ items. slice_get items offset) stands.is ∙ slice_get-before part stands.others offset within)

-- At a statement of a body there is a point, which is one of the program.
pub point_there : (source : SourceTree) (body : BodyAt) (offset : ℕ) → IsBodyOf source body
    → offset < statement_count body.statements
    → (point : Point) × (slice_get (points body.index body.statements None) offset ≡ Some point)
    × (slice_get (program_points source) (body.index + offset) ≡ Some point)
point_there source body offset is within =
    let long = length-points body.index body.statements None in
    let there = slice_get-there (points body.index body.statements None) offset (omega (arith, within, long)) in
    (there.0, there.1, points_of_body source body offset is within ∙ there.1)

-- There are settled slots, which are those of the program.
pub fact_there : (source : SourceTree) (body : BodyAt) (offset : ℕ) → IsBodyOf source body
    → offset < statement_count body.statements
    → (fact : Slots) × (slice_get (facts settled no_slot body.statements) offset ≡ Some fact)
    × (slice_get (settled_facts source) (body.index + offset) ≡ Some fact)
unfolding settled_facts
fact_there source body offset is within =
    let own = facts settled no_slot body.statements in
    let long = length-facts settled no_slot body.statements in
    let there = slice_get-there own offset (omega (arith, within, long)) in
    let stands = body_stands settled (λ params. no_slot) source body is in (
      there.0,
      there.1,
      slice_get-part (settled_facts source) own body.index offset stands (omega (arith, within, long)) ∙ there.1,
    )

module _ (source : SourceTree) (context : BodyContext) where
  -- Before the first statement there is no term.
  pub terms_none : AreTermsSoFar source context 0 []
  terms_none = record { indices = refl; each = All-nil (IsTermThere source context) }

  -- whether the statement with an index has a term
  abbrev has_one : ℕ → Bool
  has_one index = point_has_term (slice_get (program_points source) index)

  -- the indices of the statements that have a term, with one more statement
  indices_more : (passed index : ℕ) → context.body.index + passed ≡ index
      → filter has_one (range_with_len context.body.index (passed + 1))
      ≡ filter has_one (range_with_len context.body.index passed) ++ cond (has_one index) (index ∷ []) []
  indices_more passed index is =
      ap (filter has_one) (range-more context.body.index passed index is)
      ∙ (filter-append has_one (range_with_len context.body.index passed) (index ∷ []) ∙ ap
      (λ (one : List ℕ). filter has_one (range_with_len context.body.index passed) ++ one) (filter-one has_one index))

  -- After one more statement there is its term, if it has one.
  pub terms_more : (passed index : ℕ) (point : Point) (fact : Slots) (old new : List TermTree)
      → context.body.index + passed ≡ index → slice_get (program_points source) index ≡ Some point
      → slice_get (settled_facts source) index ≡ Some fact → AreTermsSoFar source context passed old
      → TermAdded source.declarations context index (effect_of point.statement) (expr_trees_of point.statement) fact old
      new
      → AreTermsSoFar source context (passed + 1) new
  terms_more passed index point fact old new at point_is fact_is so_far (has_none none same) =
      let has : has_one index ≡ false = ap point_has_term point_is ∙ none in
      record {
        indices =
            ap (map (λ (term : TermTree). term.index)) same
            ∙ (so_far.indices
            ∙ (sym (append-nil (filter has_one (range_with_len context.body.index passed)))
            ∙ (ap (λ (has_it : Bool). filter has_one (range_with_len context.body.index passed)
            ++ cond has_it (index ∷ []) []) (sym has) ∙ sym (indices_more passed index at))));
        each = subst (All (IsTermThere source context)) (sym same) so_far.each;
      }
  terms_more passed index point fact old new at point_is fact_is so_far (added term has_it same index_is is) =
      let has : has_one index ≡ true = ap point_has_term point_is ∙ has_it in
      let here : IsTermThere source context term = λ other slots other_is slots_is.
      let same_point = same_Some point other
      (sym point_is ∙ (ap (slice_get (program_points source)) (sym index_is) ∙ other_is)) in
      let same_fact = same_Some fact slots
      (sym fact_is ∙ (ap (slice_get (settled_facts source)) (sym index_is) ∙ slots_is)) in
      rw (sym same_point, sym same_fact) is in
      record {
        indices =
            ap (map (λ (one : TermTree). one.index)) same
            ∙ (map-append (λ (one : TermTree). one.index) old (term ∷ [])
            ∙ (ap (λ (indices : List ℕ). indices ++ term.index ∷ []) so_far.indices
            ∙ (ap (λ (i : ℕ). filter has_one (range_with_len context.body.index passed) ++ i ∷ []) index_is
            ∙ (ap (λ (has_one_more : Bool). filter has_one (range_with_len context.body.index passed)
            ++ cond has_one_more (index ∷ []) []) (sym has) ∙ sym (indices_more passed index at)))));
        each = subst (All (IsTermThere source context)) (sym same)
            (All-append (IsTermThere source context) old (term ∷ []) so_far.each
            (All-cons (IsTermThere source context) term [] here (All-nil (IsTermThere source context))));
      }

  -- After the last statement these are the terms of the body.
  pub terms_all : (passed : ℕ) (terms : List TermTree) → passed ≡ statement_count context.body.statements
      → AreTermsSoFar source context passed terms → AreTerms source context terms
  terms_all passed terms whole so_far = record {
    indices = so_far.indices ∙ ap (λ (count : ℕ). filter has_one (range_with_len context.body.index count)) whole;
    each = so_far.each;
  }

-- The terms of the first statements of each body that the checker has entered were gathered. Before that the checker
-- was `before`, and the slots that each statement names and that are settled are those of the rows.
pub record TermsGathered (before now : Checker) (view : BodyView) (first : ℕ) (rows : List (Vec ℕ Global)) (passed : ℕ)
    (terms : List Term) : Type 0 where
  pub stays : Stays before now
  pub so_far : (body : BodyContext)
      → Knows before (whole_context (names_of before) (source_of before).declarations body)
      → IsViewOf (names_of before) (source_of before).declarations body view → IsBodyOf (source_of before) body.body
      → body.body.index ≡ first → AreSettledRows body.body.statements (rows_of rows)
      → AreTermsSoFar (source_of before) body passed (map (term_tree (names_of before)) terms)

-- Before the first statement none was gathered.
pub gathered_none : {checker : Checker} {view : BodyView} {first : ℕ} {rows : List (Vec ℕ Global)} (terms : List Term)
    → terms ≡ [] → TermsGathered checker checker view first rows 0 terms
gathered_none {checker} terms none = record {
  stays = stays_reflexive;
  so_far = λ body knows is_view is_body index are.
      subst (λ list. AreTermsSoFar (source_of checker) body 0 (map (term_tree (names_of checker)) list)) (sym none)
      (terms_none (source_of checker) body);
}

-- The term of a statement is added in each body that a checker has entered, of a program with these names and this tree.
abbrev pub AddsTerm : Checker → List Name → SourceTree → BodyView → ℕ → List ℕ → List Term → List Term → Type 0
AddsTerm checker names source view index row old new = (body : BodyContext) (point : Point) (fact : Slots)
    → Knows checker (whole_context names source.declarations body) → IsViewOf names source.declarations body view
    → slice_get (program_points source) index ≡ Some point → row ≡ settled_names (effect_of point.statement) fact
    → TermAdded source.declarations body index (effect_of point.statement) (expr_trees_of point.statement) fact
    (map (term_tree names) old) (map (term_tree names) new)

-- After one more statement its term was gathered.
pub gathered_more : (before now after : Checker) (view : BodyView) (first : ℕ) (rows : List (Vec ℕ Global))
    (passed index : ℕ) (row : Vec ℕ Global) (old new : List Term) → slice_get rows passed ≡ Some row
    → first + passed ≡ index → TermsGathered before now view first rows passed old → Stays now after
    → AddsTerm now (names_of now) (source_of now) view index row.items old new
    → TermsGathered before after view first rows (passed + 1) new
gathered_more before now after view first rows passed index row old new row_is index_is gathered stays adds = record {
  stays = stays_transitive gathered.stays stays;
  so_far = λ body knows is_view is_body at are.
      let same = gathered.stays.keeps.program_is in
      let source = source_of before in
      let within : passed < statement_count body.body.statements = omega (
        arith,
        slice_get_within rows passed row row_is,
        length-map rows (λ (it : Vec ℕ Global). it.items),
        are.count,
      ) in
      let point = point_there source body.body passed is_body within in
      let fact = fact_there source body.body passed is_body within in
      let place : body.body.index + passed ≡ index = omega (arith, at, index_is) in
      let point_is = ap (slice_get (program_points source)) (sym place) ∙ point.2 in
      let fact_is = ap (slice_get (settled_facts source)) (sym place) ∙ fact.2 in
      let here = are.are body.body.index passed point.0 fact.0 point.1 fact.1 in
      let row_items : row.items ≡ settled_names (effect_of point.0.statement) fact.0 = same_Some row.items _
      (sym (slice_get-map (λ (it : Vec ℕ Global). it.items) rows passed ∙ ap (option_map (λ (it : Vec ℕ Global). it.items))
      row_is) ∙ here) in
      let adds_before : AddsTerm now (names_of before) source view index row.items old new =
      subst (λ (names : List Name). AddsTerm now names source view index row.items old new)
      (ap (λ (program : Bor Named). program.now.symbols) same)
      (subst (λ (tree : SourceTree). AddsTerm now (names_of now) tree view index row.items old new)
      (ap (λ (program : Bor Named). named_tree program.now) same) adds) in
      terms_more source body passed index point.0 fact.0 (map (term_tree (names_of before)) old)
      (map (term_tree (names_of before)) new) place point_is fact_is
      (gathered.so_far body knows is_view is_body at are)
      (adds_before body point.0 fact.0 (knows_stays gathered.stays knows) is_view point_is row_items);
}
