-- What a checker knows in main and in a method that it has entered, and what is found there.
--
--   `SlotsFound`                           the types at indices of slots are those of these terms
--   `HasEntered`, `method_here`            a checker has entered a body, and the body of a method
--   `main_entered`, `method_entered`       main was entered, and a method of a class
--   `still_in_class`                       a checker in a method is in its class
--   `keeps_entered`                        what was found is kept where a body is entered
--   `GivesTerms`, `gives_entered`          a body that was entered has terms, of the program that was there before
--   `first_slots`                          what the first slots let in
use denote.Ref.{Bor}
use Rattle.std.proofs.Common.{◌≡◌, ℕ, List, [], Option, Some, None, length, map, option_map, take, refl, sym, ap, ap₂, ◌∙◌, subst}
use Rattle.std.specs.declared.alloc.Global.{Global}
use Rattle.std.specs.declared.vec.Vec.{Vec}
use Rattle.std.proofs.lemmas.List.{length-map, take-map}
use Rattle.abs_program.specs.NamedViews.{named_tree}
use Rattle.abs_program.specs.ProgramBodies.{IsBodyOf}
use Rattle.abs_program.specs.declared.named.Named.{Named}
use Rattle.abs_tree.specs.Syntax.{Name, TypeTree, DeclTree}
use Rattle.abs_tree.specs.SyntaxViews.{signature_tree, statements, type_tree}
use Rattle.abs_tree.specs.declared.syntax.declaration.Body.{Body}
use Rattle.abs_tree.specs.declared.syntax.declaration.Signature.{Signature}
use Rattle.abs_tree.specs.declared.syntax.types.TypeTerm.{TypeTerm}
use Rattle.abs_types.proofs.KeepLemmas.{keeps_transitive}
use Rattle.abs_types.specs.OperatorTypes.{unit_type}
use Rattle.abs_types.specs.PlainTypes.{PlainType, plain}
use Rattle.abs_types.specs.SlotTypes.{slot_types}
use Rattle.abs_types.specs.TypeTables.{types_in, Keeps}
use Rattle.abs_types.specs.Typing.{Frame}
use Rattle.abs_types.specs.declared.table.TypeTable.{TypeTable}
use Rattle.abs_types.specs.declared.table.shape.TypeIndex.{TypeIndex}
use Rattle.check_fun.proofs.ContextLemmas.{finds_stays}
use Rattle.check_fun.proofs.FoundLemmas.{keeps_same}
use Rattle.check_fun.specs.Contexts.{context_in, types_known, with_frame, Context, Finds, IsFrameOf, Knows, Stays}
use Rattle.check_fun.specs.declared.checker.Checker.{Checker}
use Rattle.contract_infer.specs.BodyViews.{names_of, source_of, whole_context, IsViewOf}
use Rattle.contract_infer.specs.ClassViews.{method_of_class, IsInClass}
use Rattle.contract_infer.specs.DeclaredTypes.{maybe_types}
use Rattle.contract_infer.specs.SettledRows.{rows_of, AreSettledRows}
use Rattle.contract_infer.specs.declared.bodies.BodyView.{BodyView}
use Rattle.contract_terms.specs.Accepts.{accepts_of}
use Rattle.contract_terms.specs.BodyContexts.{BodyContext, main_context, whole_frame}
use Rattle.contract_terms.specs.Views.{accepts_tree}
use Rattle.contract_terms.specs.declared.accepts.Accepts.{Accepts}

-- The types at indices of slots are those of these terms.
abbrev pub SlotsFound : Checker → Checker → List (Option TypeIndex) → List (Option (Bor TypeTerm)) → Type 0
SlotsFound before now slots terms = (context : Context) → Knows before context
    → types_known (types_in now.table) slots ≡ map (option_map plain) (maybe_types context.names terms)

-- A checker has entered a body of the program that was there before.
abbrev pub HasEntered : Checker → Checker → BodyContext → Type 0
HasEntered before now body = Knows now (whole_context (names_of before) (source_of before).declarations body)

-- the body of a method of a class, of a checker's program
abbrev pub method_here : Checker → ℕ → Name → List TypeTree → ℕ → Signature → Body → BodyContext
method_here checker class name types first signature body =
    method_of_class class name types first (signature_tree (names_of checker) signature)
    (statements (names_of checker) body.statements.items)

-- Main was entered.
pub main_entered : {before between made now : Checker} {unit : TypeIndex} {fields : List TypeIndex}
    (slots : List (Option TypeIndex)) (terms : List (Option (Bor TypeTerm))) → fields ≡ [] → Stays before between
    → Stays between made → Finds between (Some unit) (Some unit_type) → SlotsFound between made slots terms
    → ((context : Context) (frame : Frame) → Knows made context → IsFrameOf made slots fields None (Some unit) frame
    → Knows now (with_frame context frame))
    → maybe_types (names_of before) terms ≡ slot_types [] (source_of before).main
    → HasEntered before now (main_context (source_of before))
unfolding context_in
main_entered {before} slots terms no_fields first second finds found entered are =
    let own = context_in before in
    entered own (whole_frame (main_context (source_of before)))
    (record { is = second.context_is ∙ first.context_is }) (record {
      slots_are = found own (record { is = first.context_is }) ∙ ap (map (option_map plain)) are;
      fields_are = rw no_fields refl;
      this_is = refl;
      task_is = (finds_stays second finds).is;
    })

-- A method of a class was entered.
pub method_entered : {before between made now : Checker} {gives : TypeIndex} (slots : List (Option TypeIndex))
    (terms : List (Option (Bor TypeTerm))) (class first_index : ℕ) (name : Name) (types : List TypeTree)
    (signature : Signature) (body : Body) → Stays before between → Stays between made
    → ((context : Context) → Knows before context
    → Finds between (Some gives) (Some (plain (type_tree context.names signature.result))))
    → SlotsFound between made slots terms
    → ((context : Context) (visible : List (Option PlainType)) (result : Option PlainType) → Knows made context
    → Finds made (Some gives) result → types_known (types_in made.table) slots ≡ visible
    → Knows now (with_frame context (record context.frame { slots = visible; task = result })))
    → maybe_types (names_of before) terms ≡ (method_here before class name types first_index signature body).slots
    → IsInClass before name types
    → HasEntered before now (method_here before class name types first_index signature body)
unfolding context_in
method_entered {before} slots terms class first_index name types signature body first second finds found entered are
    inside =
    let own = context_in before in
    let slots_known = map (option_map plain) (method_here before class name types first_index signature body).slots in
    let result = Some (plain (type_tree own.names signature.result)) in
    let frame : List PlainType → Option Name → Frame = λ fields this. record {
      slots = slots_known;
      fields = fields;
      this = this;
      task = result;
    } in
    let known = entered own slots_known result (record { is = second.context_is ∙ first.context_is })
    (finds_stays second (finds own (record { is = refl })))
    (found own (record { is = first.context_is }) ∙ ap (map (option_map plain)) are) in
    record {
      is = known.is ∙ ap₂ (λ (fields : List PlainType) (this : Option Name). with_frame own (frame fields this))
          inside.fields_are inside.this_is;
    }

-- A checker in a method is in its class.
pub still_in_class : {checker now : Checker} (before : Checker) (class first_index : ℕ) (name : Name)
    (types : List TypeTree) (signature : Signature) (body : Body)
    → HasEntered before checker (method_here before class name types first_index signature body)
    → Stays checker now → IsInClass now name types
still_in_class before class first_index name types signature body knows stays =
    let is = stays.context_is ∙ knows.is in
    record {
      fields_are = ap (λ (one : Context). one.frame.fields) is;
      this_is = ap (λ (one : Context). one.frame.this) is;
    }

-- What was found is kept, if a checker stays twice, enters a body, and stays.
pub keeps_entered : {before between made entered now : Checker} → Stays before between → Stays between made
    → entered.table ≡ made.table → Stays entered now → Keeps before.table now.table
keeps_entered first second same last =
    keeps_transitive first.keeps (keeps_transitive second.keeps (keeps_transitive (keeps_same same) last.keeps))

-- For each body of a program that a checker has entered there is an answer, if a view and rows are those of the body.
abbrev pub GivesTerms : Checker → Bor Named → BodyView → ℕ → List (Vec ℕ Global) → (Bor Named → BodyContext → Type 0)
    → Type 0
GivesTerms checker program view first rows answer = (body : BodyContext)
    → Knows checker (whole_context program.now.symbols (named_tree program.now).declarations body)
    → IsViewOf program.now.symbols (named_tree program.now).declarations body view
    → IsBodyOf (named_tree program.now) body.body → body.body.index ≡ first
    → AreSettledRows body.body.statements (rows_of rows) → answer program body

-- The program is the one before the body was entered.
pub gives_entered : {before between made entered : Checker} (view : BodyView) (first : ℕ) (rows : List (Vec ℕ Global))
    (answer : Bor Named → BodyContext → Type 0) → Stays before between → Stays between made
    → entered.table ≡ made.table → GivesTerms entered entered.table.program view first rows answer
    → GivesTerms entered before.table.program view first rows answer
gives_entered {entered = entered} view first rows answer one other same gives =
    subst (λ (program : Bor Named). GivesTerms entered program view first rows answer)
    (ap (λ (table : TypeTable). table.program) same ∙ (other.keeps.program_is ∙ one.keeps.program_is)) gives

-- What the first slots let in is the first part of what all slots let in.
pub first_slots : {A B : Type 0} (names : List Name) (declarations : List DeclTree) (count : ℕ) (params : List A)
    (view : A → B) (all part : List Accepts) (slots : List (Option TypeTree)) → count ≡ length params
    → part ≡ take count all → map (accepts_tree names) all ≡ map (accepts_of declarations) slots
    → map (accepts_tree names) part ≡ map (accepts_of declarations) (take (length (map view params)) slots)
first_slots names declarations count params view all part slots count_is part_is all_are =
    ap (map (accepts_tree names)) part_is
    ∙ (sym (take-map (accepts_tree names) count all)
    ∙ (ap (take count) all_are
    ∙ (take-map (accepts_of declarations) count slots
    ∙ ap (λ (many : ℕ). map (accepts_of declarations) (take many slots)) (count_is ∙ sym (length-map params view)))))
