-- The classes that a loop over statements finds at each place.
--
--   `MadeSoFar`                                    the table has the classes of the statements before an index
--   `made_step`, `made_done`                       the steps of the loop
--   `few_instructions`                             a program has no more instructions than a table may have
use Rattle.std.proofs.Common.{◌≡◌, ℕ, zero, suc, ◌+◌, ◌≤◌, List, [], ◌∷◌, ◌++◌, Some, None, sym, ap, ◌∙◌, length, take, nat_eq, arith}
use Rattle.std.specs.List.{flat_map}
use Rattle.std.specs.Map.{lookup}
use Rattle.std.specs.Prelude.{slice_get}
use Rattle.std.specs.declared.alloc.Global.{Global}
use Rattle.std.specs.declared.vec.Vec.{Vec}
use Rattle.std.proofs.lemmas.List.{flat_map_more, length-map, take_all, take_more}
use Rattle.std.proofs.lemmas.Option.{get_or_from_slice_get, none-some, slice_get_within}
use Rattle.abs_program.proofs.PointLemmas.{length-program_points}
use Rattle.abs_program.specs.Control.{program_points}
use Rattle.abs_program.specs.Instructions.{InstructionTree, instruction_of, instructions}
use Rattle.abs_tree.specs.Limits.{table_limit}
use Rattle.abs_tree.specs.Syntax.{Name, SourceTree}
use Rattle.abs_tree.specs.SyntaxSizes.{all_statements}
use Rattle.abs_tree.specs.declared.symbol.Symbol.{Symbol}
use Rattle.contract_infer.specs.MadeEntries.{InstructionAdded}
use Rattle.contract_terms.specs.Made.{class_made, classes_made}
use Rattle.contract_terms.specs.Views.{class_names}

-- a program has no more instructions than a table may have
pub few_instructions : (source : SourceTree) → all_statements source ≤ table_limit
    → length (instructions source) ≤ table_limit
unfolding instructions
few_instructions source few =
    omega (arith, length-map (program_points source) instruction_of, length-program_points source)

-- Each place has the classes of the instructions before an index.
pub record MadeSoFar (names : List Name) (source : SourceTree) (index : ℕ) (entries : List (ℕ × Vec Symbol Global))
    : Type 0 where
  pub so_far : (place : ℕ) → class_names names (lookup (nat_eq place) entries)
      ≡ flat_map (class_made place) (take index (instructions source))

-- one more instruction was looked at
pub made_step : {names : List Name} {source : SourceTree} {index : ℕ} {before now : List (ℕ × Vec Symbol Global)}
    (instruction : InstructionTree) → MadeSoFar names source index before
    → slice_get (instructions source) index ≡ Some instruction → InstructionAdded names instruction before now
    → MadeSoFar names source (index + 1) now
made_step {names} {source} {index} instruction h there added = record {
  so_far = λ place.
      let all = instructions source in
      let made = class_made place in
      let one_more : take (index + 1) all ≡ take index all ++ instruction ∷ [] =
      take_more all index instruction (slice_get_within all index instruction there)
      ∙ ap (λ (one : InstructionTree). take index all ++ one ∷ [])
      (get_or_from_slice_get all index instruction instruction there) in
      added.finds place
      ∙ (ap (λ (classes : List Name). classes ++ made instruction) (h.so_far place)
      ∙ (flat_map_more made [] (take index all) instruction ∙ ap (flat_map made) (sym one_more)));
}

-- past the last item of a list there is none
past_all : {A : Type 0} (all : List A) (index : ℕ) → slice_get all index ≡ None → length all ≤ index
past_all [] index none = omega arith
past_all (first ∷ others) zero none = absurd (none-some first (sym none))
past_all (first ∷ others) (suc index) none = omega (arith, past_all others index none)

-- all instructions were looked at
pub made_done : {names : List Name} {source : SourceTree} {index : ℕ} {entries : List (ℕ × Vec Symbol Global)}
    → MadeSoFar names source index entries → slice_get (instructions source) index ≡ None → (place : ℕ)
    → class_names names (lookup (nat_eq place) entries) ≡ classes_made source place
unfolding classes_made
made_done {names} {source} {index} h none place =
    h.so_far place
    ∙ ap (flat_map (class_made place))
    (take_all index (instructions source) (past_all (instructions source) index none))
