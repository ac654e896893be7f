-- Names that a table has, and programs whose table has their names.
use Rattle.std.proofs.Common.{◌≡◌, suc, ◌<◌, Bool, true, false, List, [], Some, inl, inr, sym, ap, ◌∙◌, length, get_or, nat_lt, arith, true≢false, Contains}
use Rattle.std.specs.Prelude.{slice_get}
use Rattle.std.specs.List.{list_any, list_all, position_or_len}
use Rattle.std.specs.Str.{bytes_eq}
use Rattle.std.proofs.lemmas.Bool.Decides.{leb_tells}
use Rattle.std.proofs.lemmas.List.Elements.{All-weaker, All-contains}
use Rattle.std.proofs.lemmas.List.Folds.{list_any_at, list_any_none}
use Rattle.std.proofs.lemmas.List.Sums.{fails_before_first, passes_at_first, AllPass-from_list_all}
use Rattle.std.proofs.lemmas.Map.Views.{Contains-from_any}
use Rattle.std.proofs.lemmas.Option.{slice_get-get_or}
use Rattle.std.proofs.lemmas.Slice.Eq.{bytes_eq-Decides}
use Rattle.abs_tree.specs.Names.{number_of_name}
use Rattle.abs_tree.specs.Syntax.{Name, ProgramTree}
use Rattle.abs_program.specs.KnownNames.{has_name, KnowsNames}
use Rattle.abs_tree.specs.DeclaredNames.{declared_names}

-- the number of a name that a table has is below its length
number_within : (names : List Name) (name : Name) → Contains names name → number_of_name names name < length names
number_within names name (index, there, is) = elim (leb_tells (length names) (number_of_name names name)) [
  | inl past ↦
      let apart : bytes_eq name (get_or names index name) ≡ false =
      fails_before_first (bytes_eq name) names index name (omega (arith, past.1)) in
      let equal : bytes_eq name (get_or names index name) ≡ true =
      (bytes_eq-Decides name (get_or names index name)).1 (sym is) in
      absurd (true≢false (sym equal ∙ apart))
  | inr within ↦ within.1
]

-- a name that a table has is what the table has at its number
pub name_is_told : (names : List Name) (name : Name) → Contains names name
    → slice_get names (number_of_name names name) ≡ Some name
name_is_told names name known =
    let within = number_within names name known in
    slice_get-get_or names (number_of_name names name) name within
    ∙ ap Some (sym ((bytes_eq-Decides name _).0 (passes_at_first (bytes_eq name) names name within)))

pub known_name_is_told : (program : ProgramTree) (name : Name) → KnowsNames program
    → Contains (declared_names program.source) name
    → slice_get program.names (number_of_name program.names name) ≡ Some name
known_name_is_told program name knows declared =
    name_is_told program.names name
    (All-contains (Contains program.names) (declared_names program.source) name knows.known declared)

-- a list has an element that passes exactly where the first index that passes is one of the list
first_within : (passes : Name → Bool) (names : List Name)
    → nat_lt (position_or_len passes names) (length names) ≡ list_any passes names
first_within passes names = elim (leb_tells (suc (position_or_len passes names)) (length names)) [
  | inl within ↦
      within.0
      ∙ sym (list_any_at passes names (position_or_len passes names) [] (omega (arith, within.1))
      (passes_at_first passes names [] (omega (arith, within.1))))
  | inr past ↦
      past.0
      ∙ sym (list_any_none passes names
      (λ index other there. fails_before_first passes names index other (omega (arith, past.1))))
]

-- a table has a name exactly where the number of the name is below its length
pub number_tells : (names : List Name) (name : Name)
    → nat_lt (number_of_name names name) (length names) ≡ has_name names name
number_tells names name = first_within (bytes_eq name) names

-- a program whose names all pass the test knows its names
pub names_are_known : (program : ProgramTree)
    → list_all (has_name program.names) (declared_names program.source) ≡ true → KnowsNames program
names_are_known program all = record {
  known = All-weaker (λ (name : Name). has_name program.names name ≡ true) (Contains program.names)
      (λ name has. Contains-from_any (λ one other. (bytes_eq-Decides one other).0) name program.names has)
      (declared_names program.source)
      (AllPass-from_list_all (has_name program.names) (declared_names program.source) all);
}
