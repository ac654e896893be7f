use Rattle.std.proofs.Common.{◌∙◌, List, ap, subst, take}
use Rattle.std.specs.Prelude.{All}
use Rattle.std.proofs.lemmas.List.Elements.{All-append}
use Rattle.std.proofs.lemmas.Result.{on_ok_weaker}
use Rattle.abs_program.specs.SlotViews.{DeclHasSlots}
use Rattle.abs_tree.specs.Syntax.{Name}
use Rattle.abs_names.specs.NameOffences.{declarations_offences}
use Rattle.abs_names.specs.Scopes.{Scope}
use Rattle.abs_names.specs.Visible.{Names}
use Rattle.abs_names.proofs.BothLemmas.{both_parts_noted, both_parts_resolved, offences_of_both}
use Rattle.abs_names.proofs.walk.Walk.resolve_both.Goals as goal

pub returns-clause-found : goal.returns-clause-found
returns-clause-found c =
    let same = ap (λ (ns : Names). ns.after) c.in_ok-declarations.ensures.names ∙ c.read_all.ensures.after in
    let spaces = ap (λ (s : Scope). s.around.spaces) c.read_all.ensures.scope in
    let later = ap (λ (s : Scope). s.around.spaces) c.read.ensures.scope
    ∙ (c.in_ok-declarations.ensures.spaces ∙ spaces) in
    on_ok_weaker c.declarations-2.result
    (both_parts_resolved c.args.prelude.now.items _ c.args.source.now.items _ spaces later c.read_all.ensures.before
    (c.read.ensures.before ∙ ap (take c.args.readable) same) c.read_all.ensures.after (c.read.ensures.after ∙ same)
    c.in_ok-declarations.ensures.found)
    c.declarations-2.ensures.found

pub returns-clause-noted : goal.returns-clause-noted
returns-clause-noted c =
    let same = ap (λ (ns : Names). ns.after) c.in_ok-declarations.ensures.names ∙ c.read_all.ensures.after in
    let spaces = ap (λ (s : Scope). s.around.spaces) c.read_all.ensures.scope in
    let later = ap (λ (s : Scope). s.around.spaces) c.read.ensures.scope
    ∙ (c.in_ok-declarations.ensures.spaces ∙ spaces) in
    on_ok_weaker c.declarations-2.result
    (both_parts_noted declarations_offences offences_of_both c.args.self.now.first _ _ c.args.prelude.now.items
    c.args.source.now.items spaces later c.read_all.ensures.before
    (c.read.ensures.before ∙ ap (take c.args.readable) same) c.in_ok-declarations.ensures.noted)
    c.declarations-2.ensures.noted

pub returns-clause-has_slots : goal.returns-clause-has_slots
returns-clause-has_slots c =
    let same = ap (λ (ns : Names). ns.after) c.in_ok-declarations.ensures.names ∙ c.read_all.ensures.after in
    let first = subst (λ (ns : List Name). All (DeclHasSlots ns) c.declarations.new.declarations.items)
    c.read_all.ensures.after c.in_ok-declarations.ensures.has_slots in
    on_ok_weaker c.declarations-2.result
    (λ second. All-append (DeclHasSlots c.args.self.now.scope.names.after) _ _ first
    (subst (λ (ns : List Name). All (DeclHasSlots ns) c.declarations-2.new.declarations.items)
    (c.read.ensures.after ∙ same) second))
    c.declarations-2.ensures.has_slots
