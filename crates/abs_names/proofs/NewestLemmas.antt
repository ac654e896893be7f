-- The use of a name stands for the newest declaration of that name that is visible.
use Rattle.std.proofs.Common.{◌≡◌, false, [], ◌∷◌, inl, inr, refl, sym, ap, ◌∙◌}
use Rattle.std.specs.Prelude.{Option, Some, None}
use Rattle.std.specs.Str.{bytes_eq}
use Rattle.std.proofs.lemmas.Bool.{cases_Bool, cond-true, cond-false}
use Rattle.std.proofs.lemmas.List.Elements.{All-nil, All-cons}
use Rattle.std.proofs.lemmas.Option.{none-some, same_Some}
use Rattle.std.proofs.lemmas.Slice.Eq.{bytes_eq-Decides}
use Rattle.abs_tree.specs.Syntax.{Name, VariableTree}
use Rattle.abs_program.specs.Tables.{meaning_of}
use Rattle.abs_names.specs.Newest.{SaysNothing, IsNewest, StandsFor}
use Rattle.abs_names.specs.Scopes.{Meanings, Scope, or_field, use_of}

-- a meaning is not of this name
abbrev is_other : Name → Name × VariableTree → Type 0
is_other name one = bytes_eq one.0 name ≡ false

-- meanings in which a name has none say nothing of it
nothing_said : (known : Meanings) (name : Name) → meaning_of known name ≡ None → SaysNothing name known
nothing_said [] name none = All-nil (is_other name)
nothing_said (one ∷ others) name none =
    let later = meaning_of others name in
    elim (cases_Bool (bytes_eq one.0 name)) [
      | inl same ↦
          absurd (none-some one.1 (sym none ∙ cond-true (bytes_eq one.0 name) (Some one.1) later same))
      | inr other ↦
          All-cons (is_other name) one others other (nothing_said others name
          (sym (cond-false (bytes_eq one.0 name) (Some one.1) later other) ∙ none))
    ]

-- the meaning that a name has is that of the newest of its declarations
newest_found : (known : Meanings) (name : Name) (meaning : VariableTree) → meaning_of known name ≡ Some meaning
    → IsNewest known name meaning
newest_found [] name meaning found = absurd (none-some meaning found)
newest_found (one ∷ others) name meaning found =
    let later = meaning_of others name in
    elim (cases_Bool (bytes_eq one.0 name)) [
      | inl same ↦ record {
        newer = [];
        older = others;
        among = ap (λ (n : Name). (n, one.1) ∷ others) ((bytes_eq-Decides one.0 name).0 same)
            ∙ ap (λ (v : VariableTree). (name, v) ∷ others) (same_Some one.1 meaning
            (sym (cond-true (bytes_eq one.0 name) (Some one.1) later same) ∙ found));
        newest = All-nil (is_other name);
      }
      | inr other ↦
          let rest = newest_found others name meaning
          (sym (cond-false (bytes_eq one.0 name) (Some one.1) later other) ∙ found) in
          record {
            newer = one ∷ rest.newer;
            older = rest.older;
            among = ap (λ (known : Meanings). one ∷ known) rest.among;
            newest = All-cons (is_other name) one rest.newer other rest.newest;
          }
    ]

-- a name that no variable has is that of a field
stands_by : (scope : Scope) (name : Name) (meaning : VariableTree) (variable : Option VariableTree)
    → meaning_of scope.variables name ≡ variable → or_field scope name variable ≡ Some meaning
    → StandsFor scope name meaning
stands_by scope name meaning (Some variable) found stands =
    inl (newest_found scope.variables name meaning (found ∙ stands))
stands_by scope name meaning None found stands =
    inr (record { no_variable = nothing_said scope.variables name found; field = stands })

-- the use of a name stands for the newest variable of that name, or else for a field
pub newest_declaration : (scope : Scope) (name : Name) (meaning : VariableTree) → use_of scope name ≡ Some meaning
    → StandsFor scope name meaning
newest_declaration scope name meaning = stands_by scope name meaning (meaning_of scope.variables name) refl
