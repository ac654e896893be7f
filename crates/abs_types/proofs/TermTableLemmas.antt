-- Data that is applied to the arguments of a term, one by one, in a table of types.
--
--   `AppliedSoFar`     what is known between two arguments
--   `applied_step`     the same after one more
use Rattle.std.proofs.Common.{◌≡◌, ℕ, ◌+◌, ◌<◌, List, sym, ap, ap₂, ◌∙◌, length, get_or, drop}
use Rattle.abs_tree.specs.Syntax.{Name}
use Rattle.abs_tree.specs.SyntaxViews.{type_tree, type_trees}
use Rattle.abs_tree.specs.declared.symbol.Symbol.{Symbol}
use Rattle.abs_tree.specs.declared.syntax.types.TypeTerm.{TypeTerm}
use Rattle.abs_types.proofs.KeepLemmas.{type_at_kept, keeps_transitive}
use Rattle.abs_types.specs.Arguments.{data_type}
use Rattle.abs_types.specs.PlainTypes.{PlainType, PlainApplied, applied_to, plain, plains}
use Rattle.abs_types.specs.TypeShapes.{type_at, IsAmong}
use Rattle.abs_types.specs.TypeTables.{types_in, Keeps, StandsFor}
use Rattle.abs_types.specs.declared.table.TypeTable.{TypeTable}
use Rattle.abs_types.specs.declared.table.shape.TypeIndex.{TypeIndex}
use Rattle.list_facts.proofs.EntryLemmas.{drop_item}

-- the plain types of the terms from an index on
abbrev plains_from : List Name → List TypeTerm → ℕ → List PlainType
plains_from names terms index = plains (type_trees names (drop index terms))

-- An index stands for data that is applied to the arguments before a place. With the others it is the whole type.
pub record AppliedSoFar (before now : TypeTable) (name : Symbol) (terms : List TypeTerm) (index : ℕ) (found : TypeIndex)
    : Type 0 where
  pub keeps : Keeps before now
  pub among : IsAmong (types_in now) found
  pub so_far : applied_to (type_at (types_in now) found) (plains_from before.program.now.symbols terms index)
      ≡ data_type before.program.now.symbols name terms

-- after one more argument
pub applied_step : {before now next last : TypeTable} {name : Symbol} {terms : List TypeTerm} {index : ℕ}
    {found argument later : TypeIndex} (term : TypeTerm) → AppliedSoFar before now name terms index found
    → index < length terms → term ≡ get_or terms index term
    → StandsFor next argument (plain (type_tree now.program.now.symbols term)) → Keeps now next
    → StandsFor last later (PlainApplied (type_at (types_in next) found) (type_at (types_in next) argument))
    → Keeps next last → AppliedSoFar before last name terms (index + 1) later
applied_step {before} {now} {next} {last} {name} {terms} {index} {found} {argument} {later} term far there is
    argument_is kept applied_is kept_more =
    let names = before.program.now.symbols in
    let head = type_at (types_in now) found in
    let rest = plains_from names terms (index + 1) in
    let argument_plain : type_at (types_in next) argument ≡ plain (type_tree names term) =
    argument_is.is
    ∙ ap (λ program. plain (type_tree program.now.symbols term)) far.keeps.program_is in
    record {
      keeps = keeps_transitive far.keeps (keeps_transitive kept kept_more);
      among = applied_is.among;
      so_far = ap (λ (type : PlainType). applied_to type rest)
          (applied_is.is ∙ ap₂ PlainApplied (type_at_kept kept far.among) argument_plain)
          ∙ (ap (λ (items : List TypeTerm). applied_to head (plains (type_trees names items)))
          (sym (drop_item terms index term there is)) ∙ far.so_far);
    }
