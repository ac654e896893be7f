-- The terms of a body are those of its statements.
--
--   `Placed`                       a term of a body of a kind is that of the statement of a point
--   `TermPlaced`, `method_term`    a statement of a method that has a term has a place among the terms
--   `placed_by_statement`          a statement of a kind that has a term has one
--   `placed_by_term`               a term of a body of a kind is that of a statement
use Rattle.std.proofs.Common.{◌≡◌, ℕ, true, List, Some, refl, ◌∙◌, arith}
use Rattle.std.specs.Prelude.{slice_get}
use Rattle.std.proofs.lemmas.Option.{slice_get-map, slice_get_within}
use Rattle.abs_program.proofs.ProgramFactLemmas.{facts_at_program_points}
use Rattle.abs_program.specs.Control.{Point, program_points}
use Rattle.abs_program.specs.Flows.{Slots}
use Rattle.abs_program.specs.Instructions.{InstructionTree, effect_of, expr_trees_of, instruction_of, instructions}
use Rattle.abs_program.specs.ProgramBodies.{IsStatementOf}
use Rattle.abs_tree.specs.Syntax.{SourceTree, ProgramTree}
use Rattle.abs_tree.specs.SyntaxSizes.{statement_count}
use Rattle.contract_terms.specs.BodyContexts.{BodyContext, method_context}
use Rattle.contract_terms.specs.KindBodies.{KindBody, KindStatement}
use Rattle.contract_terms.specs.ProgramTerms.{AreTermsOf}
use Rattle.contract_terms.specs.Settled.{no_slot, settled, settled_facts}
use Rattle.contract_terms.specs.Terms.{TermTree, has_term, point_has_term, IsTerm, IsTermThere, AreTerms}
use Rattle.contract_terms.specs.declared.terms.Terms.{Terms}
use Rattle.list_facts.proofs.AllLemmas.{All-slice_get}
use Rattle.list_facts.proofs.EntryLemmas.{slice_get-there, slice_get-mapped}
use Rattle.name_bounding.specs.declared.kind.Kind.{Kind}
use Rattle.saturation.proofs.BodyLemmas.{ContextOf, body_found, body_of_index, context_by_terms, in_method, terms_are}
use Rattle.saturation.proofs.SelectLemmas.{IsKept, item_found, item_kept}
use Rattle.saturation.specs.Rows.{HasBody}
use Rattle.saturation.specs.Uses.{body_terms, TermAt}
use Rattle.saturation.specs.declared.body.Body.{Body}
use Rattle.saturation.specs.declared.body.Body.TheVariants as body

-- A term of a body of a kind, by its index among them, is that of the statement of a point.
pub record Placed (program : ProgramTree) (terms : Terms) (kind : Kind) (own : Body) (context : BodyContext) (place : ℕ)
    (point : Point) (term : TermTree) : Type 0 where
  pub has : HasBody program kind own
  pub body_is : KindBody program kind context
  pub at : TermAt program terms own place (instruction_of point) term
  pub inside : IsStatementOf context.body term.index
  pub there : slice_get (program_points program.source) term.index ≡ Some point
  pub settled : Slots
  pub settled_is : slice_get (settled_facts program.source) term.index ≡ Some settled
  pub is : IsTerm program.source.declarations context (effect_of point.statement) (expr_trees_of point.statement)
      settled term

-- at each statement of a program there are settled slots
settled_there : (source : SourceTree) (index : ℕ) (point : Point) → slice_get (program_points source) index ≡ Some point
    → (slots : Slots) × (slice_get (settled_facts source) index ≡ Some slots)
unfolding settled_facts
settled_there source index point is =
    let long = facts_at_program_points settled (λ params. no_slot) source in
    let within = slice_get_within (program_points source) index point is in
    slice_get-there (settled_facts source) index (omega (arith, within, long))

-- the instruction of a statement is that of its point
instruction_there : (source : SourceTree) (index : ℕ) (point : Point)
    → slice_get (program_points source) index ≡ Some point
    → slice_get (instructions source) index ≡ Some (instruction_of point)
unfolding instructions
instruction_there source index point is = slice_get-map instruction_of (program_points source) index ∙ rw is refl

-- each instruction is that of a point
point_there : (source : SourceTree) (index : ℕ) (instruction : InstructionTree)
    → slice_get (instructions source) index ≡ Some instruction
    → (point : Point) × (slice_get (program_points source) index ≡ Some point) × (instruction_of point ≡ instruction)
unfolding instructions
point_there source index instruction is = slice_get-mapped instruction_of (program_points source) index instruction is

module _ (program : ProgramTree) (terms : Terms) (are : AreTermsOf program terms) where
  -- a term of a body is as its statement asks
  term_is : (context : BodyContext) (list : List TermTree) → AreTerms program.source context list → (place : ℕ)
      (term : TermTree) → slice_get list place ≡ Some term → (point : Point)
      → slice_get (program_points program.source) term.index ≡ Some point
      → (slots : Slots) × (slice_get (settled_facts program.source) term.index ≡ Some slots)
      × IsTerm program.source.declarations context (effect_of point.statement) (expr_trees_of point.statement) slots term
  term_is context list list_are place term there point point_is =
      let slots = settled_there program.source term.index point point_is in (
        slots.0,
        slots.1,
        All-slice_get (IsTermThere program.source context) list place term list_are.each there point slots.0 point_is
            slots.1,
      )

  -- The term of a statement has a place among the terms of its body.
  pub record TermPlaced (own : Body) (index : ℕ) : Type 0 where
    pub place : ℕ
    pub term : TermTree
    pub there : slice_get (body_terms program.names terms own) place ≡ Some term
    pub index_is : term.index ≡ index

  -- A statement of a body that has a term has a place among the terms.
  term_placed : (own : Body) (context : BodyContext) → ContextOf program own context → (index : ℕ)
      → IsStatementOf context.body index → (point : Point)
      → slice_get (program_points program.source) index ≡ Some point → has_term (effect_of point.statement) ≡ true
      → TermPlaced own index
  term_placed own context context_of index inside point there has_it =
      let list_are = terms_are program terms are own context context_of in
      let kept : IsKept (λ one. point_has_term (slice_get (program_points program.source) one)) context.body.index
      (statement_count context.body.statements) index = record {
        after_start = inside.after_start;
        before_end = inside.before_end;
        passed = rw there has_it;
      } in
      let found = item_found (λ term. term.index) (body_terms program.names terms own)
      (λ one. point_has_term (slice_get (program_points program.source) one)) context.body.index
      (statement_count context.body.statements) list_are.indices index kept in
      record { place = found.0; term = found.1; there = found.2; index_is = found.3 }

  -- So it is in a method, by its class and its index.
  pub method_term : (class member : ℕ) (context : BodyContext)
      → method_context program.source.declarations class member ≡ Some context → (index : ℕ)
      → IsStatementOf context.body index → (point : Point)
      → slice_get (program_points program.source) index ≡ Some point → has_term (effect_of point.statement) ≡ true
      → TermPlaced (body.Method class member) index
  method_term class member context known =
      term_placed (body.Method class member) context (in_method class member context known)

  -- A statement of a kind that has a term has a place among the terms.
  pub record PlacedHere (kind : Kind) (context : BodyContext) (index : ℕ) (point : Point) : Type 0 where
    pub own : Body
    pub place : ℕ
    pub term : TermTree
    pub index_is : term.index ≡ index
    pub placed : Placed program terms kind own context place point term

  pub placed_by_statement : (kind : Kind) (index : ℕ) (here : KindStatement program kind index)
      → has_term (effect_of here.point.statement) ≡ true → PlacedHere kind here.context index here.point
  placed_by_statement kind index here has_it =
      let found_body = body_found program kind here.context here.body_is in
      let found = term_placed found_body.own here.context found_body.context_of index here.inside here.point here.there has_it in
      let point_is : slice_get (program_points program.source) found.term.index ≡ Some here.point =
      rw found.index_is here.there in
      let is = term_is here.context (body_terms program.names terms found_body.own)
      (terms_are program terms are found_body.own here.context found_body.context_of) found.place found.term found.there
      here.point point_is in
      record {
        own = found_body.own;
        place = found.place;
        term = found.term;
        index_is = found.index_is;
        placed = record {
          has = found_body.has;
          body_is = here.body_is;
          at = record {
            there = found.there;
            instruction_is = instruction_there program.source found.term.index here.point point_is;
          };
          inside = rw found.index_is here.inside;
          there = point_is;
          settled = is.0;
          settled_is = is.1;
          is = is.2;
        };
      }

  -- A term of a body of a kind is that of a statement.
  pub record PlacedThere (kind : Kind) (own : Body) (place : ℕ) (instruction : InstructionTree) (term : TermTree)
      : Type 0 where
    pub context : BodyContext
    pub point : Point
    pub same : instruction_of point ≡ instruction
    pub placed : Placed program terms kind own context place point term

  pub placed_by_term : (kind : Kind) (own : Body) (place : ℕ) (instruction : InstructionTree) (term : TermTree)
      → HasBody program kind own → TermAt program terms own place instruction term
      → PlacedThere kind own place instruction term
  placed_by_term kind own place instruction term has at =
      let known = context_by_terms program terms are own place term at.there in
      let list_are = terms_are program terms are own known.0 known.1 in
      let point = point_there program.source term.index instruction at.instruction_is in
      let kept = item_kept (λ term. term.index) (body_terms program.names terms own)
      (λ one. point_has_term (slice_get (program_points program.source) one)) known.0.body.index
      (statement_count known.0.body.statements) list_are.indices place term at.there in
      let is = term_is known.0 (body_terms program.names terms own) list_are place term at.there point.0 point.1 in
      record {
        context = known.0;
        point = point.0;
        same = point.2;
        placed = record {
          has = has;
          body_is = body_of_index program kind own known.0 has known.1;
          at = record {
            there = at.there;
            instruction_is = instruction_there program.source term.index point.0 point.1;
          };
          inside = record { after_start = kept.after_start; before_end = kept.before_end };
          there = point.1;
          settled = is.0;
          settled_is = is.1;
          is = is.2;
        };
      }
