-- The program of a source is accepted: its table has the names that the source and the prelude declare.
use Rattle.std.proofs.Common.{ℕ, List, refl, sym, subst, fold, All, Contains}
use Rattle.std.proofs.lemmas.List.Elements.{All-append, All-contains, All-weaker, Contains-append_left}
use Rattle.abs_tree.specs.DeclaredNames.{decls_names, declared_names}
use Rattle.abs_tree.specs.Names.{with_name}
use Rattle.abs_tree.specs.Places.{start}
use Rattle.abs_tree.specs.Syntax.{Name, NoStatement, SourceTree, ProgramTree}
use Rattle.abs_parser.proofs.grammar.DeclaredNameLemmas.{added_are_there, declared_are_in_table}
use Rattle.abs_parser.proofs.grammar.NameLemmas.{goes_on_all}
use Rattle.abs_prelude.specs.Prelude.{prelude, prelude_names}
use Rattle.abs_program.proofs.KnownNameLemmas.{names_are_known}
use Rattle.abs_program.specs.KnownNames.{KnowsNames}
use Rattle.abs_program.specs.Whole.{IsWhole}
use Rattle.abs_names.proofs.DeclaredNameLemmas.{declared_names_kept}
use Rattle.abs_names.proofs.WholeLemmas.{resolved_is_whole}
use Rattle.abs_names.specs.Resolution.{resolved}
use Rattle.abs_profile.specs.Accepted.{IsAcceptedProgram}
use Rattle.abs_command.specs.Sources.{IsProgramOf}

-- the names of the prelude are those that it declares, and others
prelude_known : All (Contains prelude_names) (decls_names prelude)
unfolding prelude_names prelude
prelude_known = (names_are_known (record {
  names = prelude_names;
  source = record { declarations = prelude; main = NoStatement; end = start };
}) refl).known

-- a table keeps its names when others are added
table_keeps : (table added : List Name) (name : Name) → Contains table name
    → Contains (fold with_name table added) name
table_keeps table added name among =
    let grows = goes_on_all table added in rw grows.is (Contains-append_left table grows.more name among)

-- the table of the program of a source has the names that it declares
source_known : (text : List ℕ) (program : ProgramTree) → IsProgramOf text program → KnowsNames program
source_known text program is =
    let table = fold with_name is.names prelude_names in
    let own : All (Contains table) (declared_names is.tree) =
    All-weaker (Contains is.names) (Contains table) (table_keeps is.names prelude_names) (declared_names is.tree)
    (declared_are_in_table is.read.list is.names is.tree is.read.is) in
    let before : All (Contains table) (decls_names prelude) =
    All-weaker (Contains prelude_names) (Contains table)
    (λ name among. All-contains (Contains table) prelude_names name (added_are_there is.names prelude_names) among)
    (decls_names prelude) prelude_known in
    let both : All (Contains table) (declared_names (resolved is.tree)) =
    subst (All (Contains table)) (sym (declared_names_kept is.tree))
    (All-append (Contains table) (decls_names prelude) (declared_names is.tree) before own) in
    record {
      known = subst (λ (source : SourceTree). All (Contains program.names) (declared_names source)) (sym is.is)
          (subst (λ (names : List Name). All (Contains names) (declared_names (resolved is.tree))) (sym is.names_are)
          both);
    }

-- The program of a source is accepted.
pub program_is_accepted : (text : List ℕ) (program : ProgramTree) → IsProgramOf text program
    → IsAcceptedProgram program
program_is_accepted text program is = record {
  whole = subst IsWhole (sym is.is) (resolved_is_whole is.tree is.no_offence);
  names = source_known text program is;
  well_typed = is.typed;
  in_profile = is.profiled;
}
