use denote.Ref.{Bor}
use Rattle.std.proofs.Common.{◌≡◌, ◌∙◌, ap, ap₂, arith, map, refl, ℕ, List}
use Rattle.std.specs.declared.alloc.Global.{Global}
use Rattle.std.specs.declared.vec.Vec.{Vec}
use Rattle.std.proofs.lemmas.List.{length-map}
use Rattle.abs_program.specs.NamedViews.{named_tree}
use Rattle.abs_program.specs.declared.named.Named.{Named}
use Rattle.abs_tree.specs.Syntax.{Name, TypeTree}
use Rattle.abs_tree.specs.SyntaxViews.{param_tree, statements}
use Rattle.abs_tree.specs.declared.syntax.declaration.Param.{Param}
use Rattle.abs_tree.specs.declared.syntax.statement.Stmt.{Stmt}
use Rattle.abs_types.specs.SlotTypes.{slot_types}
use Rattle.check_fun.proofs.ContextLemmas.{found_stays}
use Rattle.contract_infer.proofs.MethodTermLemmas.{first_slots, gives_entered, keeps_entered, method_entered, method_here, still_in_class, HasEntered}
use Rattle.contract_infer.specs.BodyViews.{names_of, source_of}
use Rattle.contract_infer.specs.ClassViews.{IsInClass}
use Rattle.contract_infer.specs.DeclaredTypes.{maybe_types}
use Rattle.contract_infer.specs.SettledRows.{rows_of, AreSettledRows}
use Rattle.contract_terms.specs.Accepts.{accepts_of}
use Rattle.contract_terms.specs.BodyContexts.{BodyContext}
use Rattle.contract_terms.specs.Terms.{AreTerms}
use Rattle.contract_terms.specs.Views.{accepts_tree, term_tree}
use Rattle.contract_infer.proofs.classes.method_terms.Goals as goal

pub enter_method-requires-clause-task : goal.enter_method-requires-clause-task
enter_method-requires-clause-task c =
    found_stays c.in_ok-slots.ensures.stays (c.in_ok-gives.ensures.found _ (record { is = refl })).found_is

-- the body of the method
abbrev body_here : (c : goal.After-drop-types-2) (class : ℕ) (name : Name) (types : List TypeTree) → BodyContext
body_here c class name types =
    method_here c.args.checker.now class name types c.args.first c.args.signature.now c.args.body.now

-- the types of its slots
slots_are : (c : goal.After-drop-types-2) (class : ℕ) (name : Name) (types : List TypeTree)
    → maybe_types (names_of c.args.checker.now) c.in_ok-types.types.items ≡ (body_here c class name types).slots
slots_are c class name types =
    let names = names_of c.args.checker.now in
    c.in_ok-types.ensures names ∙ ap₂
    (λ (params : List Param) (stmts : List Stmt). slot_types (map (param_tree names) params) (statements names stmts))
    c.as_slice.ensures.value c.as_slice-statements.ensures.value

-- what they let in
slots_let_in : (c : goal.After-drop-types-2) (class : ℕ) (name : Name) (types : List TypeTree)
    → map (accepts_tree (names_of c.args.checker.now)) c.in_ok-params.params.items
    ≡ map (accepts_of (source_of c.args.checker.now).declarations) (body_here c class name types).slots
slots_let_in c class name types =
    c.in_ok-params.ensures ∙ ap (map (accepts_of (source_of c.args.checker.now).declarations))
    (ap (maybe_types (names_of c.args.checker.now)) c.as_slice-3.ensures.value ∙ slots_are c class name types)

-- the rows of its statements
rows_are : (c : goal.After-drop-types-2) (names : List Name)
    → AreSettledRows (statements names c.args.body.now.statements.items) (rows_of c.in_ok-rows.rows.items)
rows_are c names = rw c.as_slice-statements.ensures.value at (c.in_ok-rows.ensures names)

-- the method was entered
entered : (c : goal.After-drop-types-2) (class : ℕ) (name : Name) (types : List TypeTree)
    → IsInClass c.args.checker.now name types
    → HasEntered c.args.checker.now c.enter_method.new.self (body_here c class name types)
entered c class name types =
    method_entered c.in_ok-slots.slots.items c.as_slice-2.result.now class c.args.first name types
    c.args.signature.now c.args.body.now c.in_ok-gives.ensures.stays c.in_ok-slots.ensures.stays
    c.in_ok-gives.ensures.found c.in_ok-slots.ensures.found c.enter_method.ensures.knows
    (ap (maybe_types (names_of c.args.checker.now)) c.as_slice-2.ensures.value ∙ slots_are c class name types)

pub returns-clause-found : goal.returns-clause-found
returns-clause-found c class name types inside fields_are is_body =
    let names = names_of c.args.checker.now in
    let source = source_of c.args.checker.now in
    let body = body_here c class name types in
    let answer : Bor Named → BodyContext → Type 0 = λ program body.
    AreTerms (named_tree program.now) body (map (term_tree program.now.symbols) c.in_ok-terms.terms.items) in
    record {
      params = first_slots names source.declarations c.len-2.result c.args.signature.now.params.items (param_tree names)
          c.in_ok-params.params.items c.truncate.new.self.items body.slots
          (c.len-2.ensures ∙ c.args.signature.now.params.ok.0) c.truncate.ensures.items
          (slots_let_in c class name types);
      result = c.accepts_of-result.ensures;
      terms = gives_entered _ c.args.first c.as_slice-5.result.now answer c.in_ok-gives.ensures.stays
          c.in_ok-slots.ensures.stays c.enter_method.ensures.table c.in_ok-terms.ensures.found body
          (entered c class name types inside)
          (record {
            slots = ap (map (accepts_tree names)) c.as_slice-4.ensures.value ∙ slots_let_in c class name types;
            fields = fields_are;
            result = c.accepts_of-result.ensures;
          })
          is_body refl (rw c.as_slice-5.ensures.value (rows_are c names));
    }

pub returns-clause-count : goal.returns-clause-count
returns-clause-count c names =
    omega (
      arith,
      c.in_ok-count.ensures,
      c.len-3.ensures,
      length-map c.in_ok-rows.rows.items (λ (row : Vec _ Global). row.items),
      (rows_are c names).count,
    )

pub returns-clause-stays : goal.returns-clause-stays
returns-clause-stays c name types inside =
    still_in_class c.args.checker.now 0 c.args.first name types c.args.signature.now c.args.body.now
    (entered c 0 name types inside) c.in_ok-terms.ensures.stays

pub returns-clause-keeps : goal.returns-clause-keeps
returns-clause-keeps c =
    keeps_entered c.in_ok-gives.ensures.stays c.in_ok-slots.ensures.stays c.enter_method.ensures.table
    c.in_ok-terms.ensures.stays
