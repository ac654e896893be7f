use Rattle.std.proofs.Common.{◌≡◌, ◌∙◌, ◌++◌, ◌≤◌, ℕ, Bool, false, List, ap, sym, subst, map, take}
use Rattle.std.proofs.lemmas.Grind.{merely}
use Rattle.std.specs.List.{list_all}
use Rattle.std.specs.Prelude.{All}
use Rattle.abs_graph.specs.Graphs.{on_cycles}
use Rattle.abs_tree.specs.Limits.{table_limit}
use Rattle.abs_program.specs.KnownNames.{has_name}
use Rattle.abs_tree.specs.DeclaredNames.{decls_names}
use Rattle.abs_program.specs.NameSpaces.{spaces_of}
use Rattle.abs_tree.specs.Offences.{first_offence}
use Rattle.abs_tree.specs.SourceViews.{source_tree}
use Rattle.abs_program.specs.Supertypes.{supertypes}
use Rattle.abs_tree.specs.Syntax.{Name, DeclTree, SourceTree}
use Rattle.abs_tree.specs.SyntaxSizes.{all_statements, body_sizes, class_sizes}
use Rattle.abs_tree.specs.SyntaxViews.{decl_tree, tree_of_parts}
use Rattle.abs_tree.specs.declared.syntax.declaration.Decl.{Decl}
use Rattle.abs_program.specs.Whole.{IsWhole}
use Rattle.abs_program.proofs.KnownNameLemmas.{names_are_known}
use Rattle.abs_tree.proofs.OffenceLemmas.{no_offence}
use Rattle.abs_names.specs.NameOffences.{name_offences}
use Rattle.abs_prelude.specs.Prelude.{prelude}
use Rattle.abs_names.specs.Resolution.{resolved}
use Rattle.abs_names.proofs.ResolvedLemmas.{spaces_kept}
use Rattle.abs_names.proofs.SourceSizeLemmas.{AreFew, all_statements_kept, bodies_are_few, class_sizes_kept}
use Rattle.abs_names.proofs.WholeLemmas.{resolved_is_whole}
use Rattle.abs_names.proofs.resolver.resolve.Goals as goal

pub new-requires-clause-spaces : goal.new-requires-clause-spaces
new-requires-clause-spaces c =
    let names = c.add_names.new.symbols in
    let all = prelude ++ map (decl_tree (take c.in_ok-readable.readable names)) c.args.program.declarations.items in
    let made = ap (map (decl_tree names)) c.as_slice-2.ensures.value
    ∙ ap (λ (source : SourceTree). source.declarations) c.in_ok-spaces.ensures.found in
    c.in_ok-spaces.ensures.spaces ∙ (sym (spaces_kept (spaces_of all) all) ∙ ap spaces_of (sym made))

pub new-requires-clause-few_statements : goal.new-requires-clause-few_statements
new-requires-clause-few_statements c =
    let program = c.args.program in
    let found = c.in_ok-spaces.ensures.found
    ∙ ap (λ (names : List Name). resolved (tree_of_parts names program.declarations.items program.main))
    c.in_ok-readable.ensures.earlier in
    rw c.as_slice-2.ensures.value
    (subst (λ (n : ℕ). n ≤ table_limit) (sym (ap all_statements found ∙ all_statements_kept (source_tree program)))
    program.few_statements)

pub new-requires-clause-no_cycle : goal.new-requires-clause-no_cycle
new-requires-clause-no_cycle c =
    let program = c.args.program in
    let names = c.add_names.new.symbols in
    let made = ap (map (decl_tree names)) c.as_slice-2.ensures.value
    ∙ (ap (λ (source : SourceTree). source.declarations) c.in_ok-spaces.ensures.found
    ∙ ap (λ (names : List Name). (resolved (tree_of_parts names program.declarations.items program.main)).declarations)
    c.in_ok-readable.ensures.earlier) in
    let none = no_offence (name_offences (source_tree program))
    (ap (λ (names : List Name).
    first_offence (name_offences (tree_of_parts names program.declarations.items program.main)))
    (sym c.in_ok-readable.ensures.earlier)
    ∙ (sym c.in_ok-spaces.ensures.first ∙ c.in_default.is)) in
    subst (λ (ds : List DeclTree). All (λ (b : Bool). b ≡ false) (on_cycles (supertypes ds))) (sym made)
    (resolved_is_whole (source_tree program) none).no_cycle

pub invariant_of-result-clause-few_statements : goal.invariant_of-result-clause-few_statements
invariant_of-result-clause-few_statements c =
    let program = c.args.program in
    let found = c.in_ok-spaces.ensures.found
    ∙ ap (λ (names : List Name). resolved (tree_of_parts names program.declarations.items program.main))
    c.in_ok-readable.ensures.earlier in
    subst (λ (n : ℕ). n ≤ table_limit) (sym (ap all_statements found ∙ all_statements_kept (source_tree program)))
    program.few_statements

pub invariant_of-result-clause-few_variables : goal.invariant_of-result-clause-few_variables
invariant_of-result-clause-few_variables c =
    let program = c.args.program in
    let found = c.in_ok-spaces.ensures.found
    ∙ ap (λ (names : List Name). resolved (tree_of_parts names program.declarations.items program.main))
    c.in_ok-readable.ensures.earlier in
    subst AreFew (sym (ap body_sizes found)) (bodies_are_few (source_tree program) program.few_slots)

pub invariant_of-result-clause-few_fields : goal.invariant_of-result-clause-few_fields
invariant_of-result-clause-few_fields c =
    let program = c.args.program in
    let found = c.in_ok-spaces.ensures.found
    ∙ ap (λ (names : List Name). resolved (tree_of_parts names program.declarations.items program.main))
    c.in_ok-readable.ensures.earlier in
    subst (All (λ (n : ℕ). n ≤ table_limit)) (sym (ap class_sizes found ∙ class_sizes_kept (source_tree program)))
    program.few_fields

pub invariant_of-result-clause-methods_have_slots : goal.invariant_of-result-clause-methods_have_slots
invariant_of-result-clause-methods_have_slots c = merely c.in_ok-spaces.ensures.methods_have_slots

pub invariant_of-result-clause-is_whole : goal.invariant_of-result-clause-is_whole
invariant_of-result-clause-is_whole c =
    let program = c.args.program in
    let found = c.in_ok-spaces.ensures.found
    ∙ ap (λ (names : List Name). resolved (tree_of_parts names program.declarations.items program.main))
    c.in_ok-readable.ensures.earlier in
    let none = no_offence (name_offences (source_tree program))
    (ap (λ (names : List Name).
    first_offence (name_offences (tree_of_parts names program.declarations.items program.main)))
    (sym c.in_ok-readable.ensures.earlier)
    ∙ (sym c.in_ok-spaces.ensures.first ∙ c.in_default.is)) in
    merely (subst IsWhole (sym found) (resolved_is_whole (source_tree program) none))

pub invariant_of-result-clause-knows_names : goal.invariant_of-result-clause-knows_names
invariant_of-result-clause-knows_names c =
    let names = c.add_names.new.symbols in
    let same = ap (λ (declarations : List Decl). list_all (has_name names)
    (decls_names (map (decl_tree names) declarations))) c.as_slice.ensures.value in
    merely (names_are_known _ (sym same ∙ (sym c.knows_names.ensures ∙ c.if-not-knows_names.false)))

pub returns-clause-found : goal.returns-clause-found
returns-clause-found c =
    let program = c.args.program in
    c.in_ok-spaces.ensures.found
    ∙ ap (λ (names : List Name). resolved (tree_of_parts names program.declarations.items program.main))
    c.in_ok-readable.ensures.earlier

pub returns-clause-accepted : goal.returns-clause-accepted
returns-clause-accepted c =
    let program = c.args.program in
    no_offence (name_offences (source_tree program))
    (ap (λ (names : List Name).
    first_offence (name_offences (tree_of_parts names program.declarations.items program.main)))
    (sym c.in_ok-readable.ensures.earlier)
    ∙ (sym c.in_ok-spaces.ensures.first ∙ c.in_default.is))

pub returns-in-Some-clause-refused : goal.returns-in-Some-clause-refused
returns-in-Some-clause-refused c =
    let program = c.args.program in
    record {
      first = c.in-Some.offence;
      is_first = ap (λ (names : List Name).
          first_offence (name_offences (tree_of_parts names program.declarations.items program.main)))
          (sym c.in_ok-readable.ensures.earlier)
          ∙ (sym c.in_ok-spaces.ensures.first ∙ c.in-Some.is);
      refusal_is = c.refusal.ensures;
    }
