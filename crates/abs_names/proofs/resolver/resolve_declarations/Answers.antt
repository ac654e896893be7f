use Rattle.std.proofs.Common.{◌≡◌, ◌∙◌, ◌++◌, List, [], refl, sym, ap, subst, fold, map, take}
use Rattle.std.specs.Prelude.{All, None}
use Rattle.abs_graph.specs.Graphs.{on_cycles}
use Rattle.abs_program.specs.NameSpaces.{NameSpaces, spaces_of}
use Rattle.abs_tree.specs.Offences.{earlier, first_offence}
use Rattle.abs_program.specs.SlotViews.{DeclHasSlots}
use Rattle.abs_program.specs.Supertypes.{supertypes}
use Rattle.abs_tree.specs.Syntax.{Name, DeclTree}
use Rattle.abs_tree.specs.SyntaxViews.{decl_tree}
use Rattle.abs_names.specs.Extension.{extension_offences}
use Rattle.abs_names.specs.NameOffences.{repeated_offences, declarations_offences}
use Rattle.abs_prelude.specs.Prelude.{prelude}
use Rattle.abs_names.specs.Resolution.{resolved_declarations}
use Rattle.abs_names.specs.Scopes.{Scope}
use Rattle.abs_names.specs.TypeNames.{around_of}
use Rattle.abs_names.specs.Visible.{Names, Visible}
use Rattle.abs_names.proofs.FormLemmas.{both_noted}
use Rattle.abs_names.proofs.BothLemmas.{both_are}
use Rattle.abs_names.proofs.ResolvedLemmas.{spaces_kept, cycles_kept}
use Rattle.abs_names.proofs.resolver.resolve_declarations.Goals as goal

pub note_extensions-requires : goal.note_extensions-requires
note_extensions-requires c =
    let names = c.args.symbols.now in
    let source = map (decl_tree (take c.args.readable names)) c.args.declarations.now.items in
    let walk = c.in_ok-walk.walk in
    let start = ap (λ (ns : Names). ns.after) c.in_ok-walk.ensures.names in
    let all = both_are refl refl c.as_slice.ensures.value c.as_slice-2.ensures.value c.in_ok-before.ensures in
    let spaces = ap (λ (s : Scope). s.around.spaces) c.in_ok-walk.ensures.scope ∙ ap spaces_of all in
    let both = map (decl_tree walk.scope.names.after) c.in_ok-before.before.items
    ++ map (decl_tree (take c.args.readable walk.scope.names.after)) c.args.declarations.now.items in
    let made = c.resolve_both.new.prelude.items ++ c.resolve_both.new.source.items in
    let found : map (decl_tree names) made ≡ resolved_declarations (spaces_of (prelude ++ source)) (prelude ++ source) =
    subst (λ (ns : List Name). map (decl_tree ns) made
    ≡ resolved_declarations walk.scope.scope.around.spaces both) start c.in_ok-resolve_both.ensures.found
    ∙ (ap (λ (s : NameSpaces). resolved_declarations s both) spaces
    ∙ ap (resolved_declarations (spaces_of (prelude ++ source)))
    (both_are start (ap (take c.args.readable) start) refl refl c.in_ok-before.ensures)) in
    let later : c.set_type_params.new.self.names.after ≡ names =
    ap (λ (ns : Names). ns.after) (c.in_ok-set_type_params.ensures.names ∙ c.in_ok-resolve_both.ensures.names) ∙ start in
    let trees = ap (λ (ns : List Name). map (decl_tree ns) c.as_slice-3.result.now) later
    ∙ (ap (map (decl_tree names)) (c.as_slice-3.ensures.value ∙ c.in_ok-append.ensures.items) ∙ found) in
    ap (λ (s : Scope). s.around.spaces) c.in_ok-set_type_params.ensures.scope
    ∙ (c.in_ok-resolve_both.ensures.spaces
    ∙ (spaces ∙ (sym (spaces_kept (spaces_of (prelude ++ source)) (prelude ++ source)) ∙ ap spaces_of (sym trees))))

pub returns-clause-names : goal.returns-clause-names
returns-clause-names c =
    let start = ap (λ (ns : Names). ns.after) c.in_ok-walk.ensures.names in
    ap (λ (v : Visible). v.names) c.in_ok-note_extensions.ensures.scope
    ∙ (c.in_ok-set_type_params.ensures.names
    ∙ (c.in_ok-resolve_both.ensures.names
    ∙ ap (λ (ns : List Name). record { before = take c.args.readable ns; after = ns }) start))

pub returns-clause-around : goal.returns-clause-around
returns-clause-around c =
    let all = both_are refl refl c.as_slice.ensures.value c.as_slice-2.ensures.value c.in_ok-before.ensures in
    let spaces = ap (λ (s : Scope). s.around.spaces) c.in_ok-walk.ensures.scope ∙ ap spaces_of all in
    ap (λ (v : Visible). v.scope.around) c.in_ok-note_extensions.ensures.scope
    ∙ (ap (λ (s : Scope). s.around) c.in_ok-set_type_params.ensures.scope
    ∙ ap (λ (spaces : NameSpaces). around_of spaces []) (c.in_ok-resolve_both.ensures.spaces ∙ spaces))

pub returns-clause-fields : goal.returns-clause-fields
returns-clause-fields c =
    ap (λ (v : Visible). v.scope.fields) c.in_ok-note_extensions.ensures.scope
    ∙ (ap (λ (s : Scope). s.fields) c.in_ok-set_type_params.ensures.scope ∙ c.in_ok-resolve_both.ensures.fields)

pub returns-clause-first : goal.returns-clause-first
returns-clause-first c =
    let names = c.args.symbols.now in
    let source = map (decl_tree (take c.args.readable names)) c.args.declarations.now.items in
    let walk = c.in_ok-walk.walk in
    let start = ap (λ (ns : Names). ns.after) c.in_ok-walk.ensures.names in
    let all = both_are refl refl c.as_slice.ensures.value c.as_slice-2.ensures.value c.in_ok-before.ensures in
    let spaces = ap (λ (s : Scope). s.around.spaces) c.in_ok-walk.ensures.scope ∙ ap spaces_of all in
    let both = map (decl_tree walk.scope.names.after) c.in_ok-before.before.items
    ++ map (decl_tree (take c.args.readable walk.scope.names.after)) c.args.declarations.now.items in
    let made = c.resolve_both.new.prelude.items ++ c.resolve_both.new.source.items in
    let found : map (decl_tree names) made ≡ resolved_declarations (spaces_of (prelude ++ source)) (prelude ++ source) =
    subst (λ (ns : List Name). map (decl_tree ns) made
    ≡ resolved_declarations walk.scope.scope.around.spaces both) start c.in_ok-resolve_both.ensures.found
    ∙ (ap (λ (s : NameSpaces). resolved_declarations s both) spaces
    ∙ ap (resolved_declarations (spaces_of (prelude ++ source)))
    (both_are start (ap (take c.args.readable) start) refl refl c.in_ok-before.ensures)) in
    let later : c.set_type_params.new.self.names.after ≡ names =
    ap (λ (ns : Names). ns.after) (c.in_ok-set_type_params.ensures.names ∙ c.in_ok-resolve_both.ensures.names) ∙ start in
    let trees = ap (λ (ns : List Name). map (decl_tree ns) c.as_slice-3.result.now) later
    ∙ (ap (map (decl_tree names)) (c.as_slice-3.ensures.value ∙ c.in_ok-append.ensures.items) ∙ found) in
    both_noted None walk.first c.note_extensions.new.self.first (repeated_offences (prelude ++ source))
    (declarations_offences (spaces_of (prelude ++ source)) (prelude ++ source)
    ++ extension_offences (on_cycles (supertypes (prelude ++ source))) (prelude ++ source))
    (c.in_ok-walk.ensures.first ∙ ap (λ (ds : List DeclTree). first_offence (repeated_offences ds)) all)
    (both_noted walk.first c.resolve_both.new.self.first c.note_extensions.new.self.first
    (declarations_offences (spaces_of (prelude ++ source)) (prelude ++ source))
    (extension_offences (on_cycles (supertypes (prelude ++ source))) (prelude ++ source))
    (c.in_ok-resolve_both.ensures.noted
    ∙ (ap (λ (s : NameSpaces). fold earlier walk.first (declarations_offences s both)) spaces
    ∙ ap (λ (ds : List DeclTree).
    fold earlier walk.first (declarations_offences (spaces_of (prelude ++ source)) ds))
    (both_are start (ap (take c.args.readable) start) refl refl c.in_ok-before.ensures)))
    (c.in_ok-note_extensions.ensures.noted
    ∙ (ap (λ (ds : List DeclTree).
    fold earlier c.resolve_both.new.self.first (extension_offences (on_cycles (supertypes ds)) ds)) trees
    ∙ ap (fold earlier c.resolve_both.new.self.first)
    (cycles_kept (spaces_of (prelude ++ source)) (prelude ++ source)))))

pub returns-clause-found : goal.returns-clause-found
returns-clause-found c =
    let names = c.args.symbols.now in
    let source = map (decl_tree (take c.args.readable names)) c.args.declarations.now.items in
    let walk = c.in_ok-walk.walk in
    let start = ap (λ (ns : Names). ns.after) c.in_ok-walk.ensures.names in
    let all = both_are refl refl c.as_slice.ensures.value c.as_slice-2.ensures.value c.in_ok-before.ensures in
    let spaces = ap (λ (s : Scope). s.around.spaces) c.in_ok-walk.ensures.scope ∙ ap spaces_of all in
    let both = map (decl_tree walk.scope.names.after) c.in_ok-before.before.items
    ++ map (decl_tree (take c.args.readable walk.scope.names.after)) c.args.declarations.now.items in
    let made = c.resolve_both.new.prelude.items ++ c.resolve_both.new.source.items in
    let found : map (decl_tree names) made ≡ resolved_declarations (spaces_of (prelude ++ source)) (prelude ++ source) =
    subst (λ (ns : List Name). map (decl_tree ns) made
    ≡ resolved_declarations walk.scope.scope.around.spaces both) start c.in_ok-resolve_both.ensures.found
    ∙ (ap (λ (s : NameSpaces). resolved_declarations s both) spaces
    ∙ ap (resolved_declarations (spaces_of (prelude ++ source)))
    (both_are start (ap (take c.args.readable) start) refl refl c.in_ok-before.ensures)) in
    ap (map (decl_tree names)) c.in_ok-append.ensures.items ∙ found

pub returns-clause-has_slots : goal.returns-clause-has_slots
returns-clause-has_slots c =
    subst (All (DeclHasSlots c.args.symbols.now)) (sym c.in_ok-append.ensures.items)
    (subst (λ (ns : List Name).
    All (DeclHasSlots ns) (c.resolve_both.new.prelude.items ++ c.resolve_both.new.source.items))
    (ap (λ (ns : Names). ns.after) c.in_ok-walk.ensures.names) c.in_ok-resolve_both.ensures.has_slots)
