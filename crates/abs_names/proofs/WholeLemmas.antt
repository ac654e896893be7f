-- In a source without a name offence everything that is named is there once it is resolved.
use Rattle.std.proofs.Common.{◌≡◌, Bool, true, false, List, [], ◌++◌, sym, subst, length, arith}
use Rattle.std.specs.Prelude.{All}
use Rattle.std.proofs.lemmas.List.{length-map}
use Rattle.std.proofs.lemmas.List.FromFn.{length-map-range_with_len}
use Rattle.abs_graph.specs.Graphs.{Graph, reaches, on_cycles}
use Rattle.abs_program.specs.NamedDeclarations.{TypesAreOnce}
use Rattle.abs_program.specs.NameSpaces.{NameSpaces, built_in, spaces_of}
use Rattle.abs_program.specs.Slots.{body_slots}
use Rattle.abs_program.specs.Supertypes.{above, supertypes}
use Rattle.abs_tree.specs.Syntax.{DeclTree, SourceTree}
use Rattle.abs_program.specs.Whole.{DeclarationIsThere, StatementsAreThere, IsWhole}
use Rattle.abs_names.specs.Extension.{extension_offences}
use Rattle.abs_names.specs.NameOffences.{declared_offences, repeated_offences, declarations_offences, statements_offences, name_offences}
use Rattle.abs_prelude.specs.Prelude.{prelude}
use Rattle.abs_names.specs.Resolution.{resolved_declarations, resolved_statements, resolved}
use Rattle.abs_names.specs.Repeats.{declarations_repeats}
use Rattle.abs_names.specs.Scopes.{body_scope}
use Rattle.abs_names.specs.Spaces.{spaces_offences}
use Rattle.abs_names.specs.TypeNames.{around_of}
use Rattle.abs_names.specs.declared.scope.Routine.TheVariants.{Main}
use Rattle.abs_names.proofs.ExtensionLemmas.{none_extends_itself}
use Rattle.abs_names.proofs.OnceLemmas.{resolved_once}
use Rattle.abs_names.proofs.OwnSlotLemmas.{all_given}
use Rattle.abs_names.proofs.PreludeLemmas.{resolved_begins}
use Rattle.abs_names.proofs.ResolvedLemmas.{spaces_kept, supertypes_kept}
use Rattle.abs_names.proofs.ThereLemmas.{declarations_there, main_there}
use Rattle.list_facts.proofs.AppendLemmas.{both_empty}

-- no declaration extends itself
no_cycles : (declarations : List DeclTree)
    → extension_offences (on_cycles (supertypes declarations)) declarations ≡ []
    → All (λ (b : Bool). b ≡ false) (on_cycles (supertypes declarations))
no_cycles declarations none =
    let graph = supertypes declarations in
    let nodes = length-map-range_with_len (λ node. reaches graph node node) 0 (length graph) in
    none_extends_itself (on_cycles graph) declarations
    (omega (arith, nodes, length-map declarations (above (spaces_of declarations)))) none

pub resolved_is_whole : (source : SourceTree) → name_offences source ≡ [] → IsWhole (resolved source)
resolved_is_whole source none =
    let all = prelude ++ source.declarations in
    let spaces = spaces_of all in
    let scope = body_scope (around_of spaces []) Main [] [] in
    let main = resolved_statements scope 0 source.main in
    let parts = both_empty (declared_offences all) (statements_offences scope 0 source.main) none in
    let extension = extension_offences (on_cycles (supertypes all)) all in
    let declared = both_empty (repeated_offences all) (declarations_offences spaces all ++ extension) parts.0 in
    let repeated = both_empty (spaces_offences 0 built_in all) (declarations_repeats all) declared.0 in
    let used = both_empty (declarations_offences spaces all) extension declared.1 in
    let kept = sym (spaces_kept spaces all) in
    record {
      declarations_are = subst (λ (s : NameSpaces). All (DeclarationIsThere s) (resolved_declarations spaces all)) kept
          (declarations_there spaces all used.0);
      main_is = subst (λ (s : NameSpaces). StatementsAreThere (record {
        spaces = s;
        type_params = 0;
        has_this = false;
        has_task = true;
        fields = 0;
        slots = length (body_slots 0 main);
      }) main) kept (main_there spaces source.main parts.1);
      no_cycle = subst (λ (graph : Graph). All (λ (b : Bool). b ≡ false) (on_cycles graph))
          (sym (supertypes_kept spaces all)) (no_cycles all used.1);
      own_slots = all_given source;
      prelude_first = resolved_begins source;
      types_once = subst (λ (s : NameSpaces). TypesAreOnce s 0 (resolved_declarations spaces all)) kept
          (resolved_once 0 built_in spaces all repeated.0);
    }
