use denote.Ref.{Bor}
use Rattle.std.proofs.Common.{◌≡◌, ℕ, Some, refl, sym, ap, subst}
use Rattle.std.specs.Prelude.{slice_get}
use Rattle.abs_program.specs.NamedViews.{named_tree}
use Rattle.abs_program.specs.ProgramBodies.{IsBodyOf}
use Rattle.abs_program.specs.ProgramBodies.IsBodyOf.{OfMethod}
use Rattle.abs_program.specs.declared.named.Named.{Named}
use Rattle.abs_tree.specs.Syntax.{MethodTree, SourceTree}
use Rattle.abs_tree.specs.SyntaxViews.{member_tree, signature_tree, statements as statement_trees}
use Rattle.abs_tree.specs.declared.syntax.declaration.Member.{Member}
use Rattle.contract_infer.proofs.BodyPlaceLemmas.{body_of_method}
use Rattle.contract_infer.proofs.GatheringLemmas.{methods_field, methods_method}
use Rattle.contract_infer.specs.BodyViews.{names_of, source_of}
use Rattle.contract_infer.specs.CallsWithin.{AreCallsWithin}
use Rattle.contract_infer.specs.ClassViews.{method_body}
use Rattle.contract_terms.specs.BodyContexts.{class_types}
use Rattle.contract_infer.proofs.classes.add_member.Goals as goal

pub returns-in_default-clause-added : goal.returns-in_default-clause-added
returns-in_default-clause-added c name params members passed there inside fields member so_far =
    let names = names_of c.args.checker.now in
    let source = source_of c.args.checker.now in
    let is = subst (λ (it : Member). slice_get members passed ≡ Some (member_tree names it)) c.in_default.is member in
    methods_field source names c.args.class name params members there passed _ _ _ c.args.methods.now _ c.new.result is
    c.in_ok-push.ensures.items c.in_ok-push-2.ensures.items refl c.new.ensures.items so_far

pub returns-clause-added : goal.returns-clause-added
returns-clause-added c name params members passed there inside fields member so_far =
    let names = names_of c.args.checker.now in
    let source = source_of c.args.checker.now in
    let signature = signature_tree names c.in-Method.signature in
    let statements = statement_trees names c.in-Method.body.statements.items in
    let first = c.args.methods.now.next in
    let is = subst (λ (it : Member). slice_get members passed ≡ Some (member_tree names it)) c.in-Method.is member in
    let body = subst (λ (n : ℕ). IsBodyOf source (method_body n signature statements)) (sym so_far.next)
    (OfMethod c.args.class passed (body_of_method source c.args.class name params members there passed
    (MethodTree signature c.in-Method.body.end statements) signature statements is (λ start. refl))) in
    let same = ap (λ (program : Bor Named). named_tree program.now) c.in_ok-gathered.ensures.keeps.program_is in
    let calls = subst (λ (tree : SourceTree). AreCallsWithin tree c.args.class first c.in_ok-gathered.gathered.count
    c.in_ok-calls.calls.items) same c.in_ok-calls.ensures in
    methods_method source names c.args.class name params members there passed signature c.in-Method.body.end statements
    c.args.methods.now _ c.in_ok-gathered.gathered.contract c.in_ok-calls.calls first c.in_ok-gathered.gathered.count is
    c.in_ok-push-3.ensures.items c.in_ok-push-4.ensures.items c.in-Some.ensures.1 refl
    (c.in_ok-gathered.ensures.count names)
    (c.in_ok-gathered.ensures.found c.args.class name (class_types params members) inside fields body) calls so_far
