use Rattle.std.proofs.Common.{◌≡◌, ◌∙◌, ◌++◌, ℕ, List, [], refl, ap, subst, length, fold, map, take}
use Rattle.std.specs.Prelude.{Option, None}
use Rattle.abs_program.specs.NameSpaces.{spaces_of}
use Rattle.abs_tree.specs.Offences.{earlier}
use Rattle.abs_program.specs.Slots.{statements_slots, body_slots}
use Rattle.abs_tree.specs.Syntax.{Name, DeclTree, SourceTree, Statements}
use Rattle.abs_tree.specs.SyntaxViews.{decl_tree, statements}
use Rattle.abs_tree.specs.declared.place.Place.{Place}
use Rattle.abs_tree.specs.declared.refusal.Offence.{Offence}
use Rattle.abs_tree.specs.declared.syntax.slot.Slot.{Slot}
use Rattle.abs_names.specs.NameOffences.{declared_offences, statements_offences}
use Rattle.abs_prelude.specs.Prelude.{prelude}
use Rattle.abs_names.specs.Resolution.{resolved_declarations, resolved_statements}
use Rattle.abs_names.specs.Scopes.{Meanings, Scope, body_scope}
use Rattle.abs_names.specs.TypeNames.{Around, around_of}
use Rattle.abs_names.specs.Visible.{Names, Visible}
use Rattle.abs_program.specs.KeptSpaces.{spaces_by_name, AreProper}
use Rattle.abs_names.specs.declared.scope.Routine.TheVariants.{Main}
use Rattle.abs_names.proofs.FormLemmas.{both_noted}
use Rattle.abs_names.proofs.BothLemmas.{in_main}
use Rattle.abs_names.proofs.SlotLemmas.{method_has_slots}
use Rattle.abs_names.proofs.resolver.resolve_parts.Goals as goal

pub returns-clause-first : goal.returns-clause-first
returns-clause-first c =
    let names = c.args.symbols.now in
    let later = take c.args.readable names in
    let source = map (decl_tree later) c.args.declarations.now.items in
    let main = body_scope (around_of (spaces_of (prelude ++ source)) []) Main [] [] in
    let walk = c.in_ok-walk.ensures in
    let begun = c.in_ok-slots.ensures in
    let main_is : c.begin.new.self.scope.scope ≡ main =
    begun.scope
    ∙ (ap (λ (around : Around). body_scope around Main c.in_ok-walk.walk.scope.scope.fields []) walk.around
    ∙ ap (λ (fields : Meanings). body_scope main.around Main fields []) walk.fields) in
    let before = ap (λ (ns : Names). ns.before) begun.names ∙ ap (λ (ns : Names). ns.before) walk.names in
    let after = ap (λ (ns : Names). ns.after) begun.names ∙ ap (λ (ns : Names). ns.after) walk.names in
    let old = c.args.main.now in
    let now = c.body.new.body in
    both_noted None c.in_ok-walk.walk.first c.body.new.self.first (declared_offences (prelude ++ source))
    (statements_offences main 0 (statements later old.statements.items)) walk.first
    (in_main (λ (s : Scope) (n : ℕ) (ns : List Name). c.body.new.self.first ≡ fold earlier c.in_ok-walk.walk.first
    (statements_offences s n (statements ns old.statements.items))) main_is begun.slots before
    (c.in_ok-body.ensures.noted
    ∙ ap (λ (o : Option Offence). fold earlier o (statements_offences c.begin.new.self.scope.scope
    (length c.in_ok-slots.slots.items.items) (statements c.begin.new.self.scope.names.before old.statements.items)))
    begun.first))

pub returns-clause-found : goal.returns-clause-found
returns-clause-found c =
    let names = c.args.symbols.now in
    let later = take c.args.readable names in
    let source = map (decl_tree later) c.args.declarations.now.items in
    let main = body_scope (around_of (spaces_of (prelude ++ source)) []) Main [] [] in
    let walk = c.in_ok-walk.ensures in
    let begun = c.in_ok-slots.ensures in
    let main_is : c.begin.new.self.scope.scope ≡ main =
    begun.scope
    ∙ (ap (λ (around : Around). body_scope around Main c.in_ok-walk.walk.scope.scope.fields []) walk.around
    ∙ ap (λ (fields : Meanings). body_scope main.around Main fields []) walk.fields) in
    let before = ap (λ (ns : Names). ns.before) begun.names ∙ ap (λ (ns : Names). ns.before) walk.names in
    let after = ap (λ (ns : Names). ns.after) begun.names ∙ ap (λ (ns : Names). ns.after) walk.names in
    let old = c.args.main.now in
    let now = c.body.new.body in
    let found : statements names now.statements.items
    ≡ resolved_statements main 0 (statements later old.statements.items) =
    in_main (λ (s : Scope) (n : ℕ) (ns : List Name). statements names now.statements.items
    ≡ resolved_statements s n (statements ns old.statements.items)) main_is begun.slots before
    (subst (λ (ns : List Name). statements ns now.statements.items
    ≡ resolved_statements c.begin.new.self.scope.scope (length c.in_ok-slots.slots.items.items)
    (statements c.begin.new.self.scope.names.before old.statements.items)) after c.in_ok-body.ensures.found) in
    let tree : List DeclTree → Statements → Place → SourceTree =
    λ declarations main end. record { declarations = declarations; main = main; end = end } in
    ap (λ (ds : List DeclTree). tree ds (statements names now.statements.items) now.end) c.in_ok-walk.ensures.found
    ∙ (ap (λ (ss : Statements). tree (resolved_declarations (spaces_of (prelude ++ source)) (prelude ++ source)) ss
    now.end) found
    ∙ ap (tree (resolved_declarations (spaces_of (prelude ++ source)) (prelude ++ source))
    (resolved_statements main 0 (statements later old.statements.items))) c.body.ensures.end)

pub returns-clause-main_has_slots : goal.returns-clause-main_has_slots
returns-clause-main_has_slots c =
    let names = c.args.symbols.now in
    let later = take c.args.readable names in
    let source = map (decl_tree later) c.args.declarations.now.items in
    let main = body_scope (around_of (spaces_of (prelude ++ source)) []) Main [] [] in
    let walk = c.in_ok-walk.ensures in
    let begun = c.in_ok-slots.ensures in
    let main_is : c.begin.new.self.scope.scope ≡ main =
    begun.scope
    ∙ (ap (λ (around : Around). body_scope around Main c.in_ok-walk.walk.scope.scope.fields []) walk.around
    ∙ ap (λ (fields : Meanings). body_scope main.around Main fields []) walk.fields) in
    let before = ap (λ (ns : Names). ns.before) begun.names ∙ ap (λ (ns : Names). ns.before) walk.names in
    let after = ap (λ (ns : Names). ns.after) begun.names ∙ ap (λ (ns : Names). ns.after) walk.names in
    let old = c.args.main.now in
    let now = c.body.new.body in
    let found : statements names now.statements.items
    ≡ resolved_statements main 0 (statements later old.statements.items) =
    in_main (λ (s : Scope) (n : ℕ) (ns : List Name). statements names now.statements.items
    ≡ resolved_statements s n (statements ns old.statements.items)) main_is begun.slots before
    (subst (λ (ns : List Name). statements ns now.statements.items
    ≡ resolved_statements c.begin.new.self.scope.scope (length c.in_ok-slots.slots.items.items)
    (statements c.begin.new.self.scope.names.before old.statements.items)) after c.in_ok-body.ensures.found) in
    method_has_slots later names [] [] old now main 0 refl found
    (c.in_ok-body.ensures.slots
    ∙ (ap (λ (slots : List Slot). slots ++ statements_slots (statements c.begin.new.self.scope.names.before
    old.statements.items)) begun.slots
    ∙ ap (λ (ns : List Name). body_slots 0 (statements ns old.statements.items)) before))
    c.in_ok-body.ensures.few

pub returns-clause-spaces : goal.returns-clause-spaces
returns-clause-spaces c =
    let begun = c.in_ok-slots.ensures in
    let kept = c.in_ok-body.ensures.scope in
    let after : c.body.new.self.scope.names.after ≡ c.args.symbols.now =
    ap (λ (v : Visible). v.names.after) kept
    ∙ ap (λ (ns : Names). ns.after) (begun.names ∙ c.in_ok-walk.ensures.names) in
    subst (λ (ns : List Name). spaces_by_name ns c.into_spaces.result ≡ c.body.new.self.scope.scope.around.spaces)
    after c.into_spaces.ensures.spaces
    ∙ (ap (λ (v : Visible). v.scope.around.spaces) kept
    ∙ (ap (λ (s : Scope). s.around.spaces) begun.scope
    ∙ ap (λ (a : Around). a.spaces) c.in_ok-walk.ensures.around))

pub returns-clause-proper : goal.returns-clause-proper
returns-clause-proper c =
    let begun = c.in_ok-slots.ensures in
    let after : c.body.new.self.scope.names.after ≡ c.args.symbols.now =
    ap (λ (v : Visible). v.names.after) c.in_ok-body.ensures.scope
    ∙ ap (λ (ns : Names). ns.after) (begun.names ∙ c.in_ok-walk.ensures.names) in
    subst (λ (ns : List Name). AreProper ns c.into_spaces.result) after c.into_spaces.ensures.proper
