-- What the variables of a pattern take is inside the value that is matched.
--
--   `TakesFrom`                what is inside values that are taken is inside of what they are taken from
--   `matched-inside`           this is so of a value and a pattern
--   `all_matched-inside`       and of parts and their patterns
use Rattle.std.proofs.Common.{List, [], nat_eq, int_eq, Option, Some, None, IfSome, ◌⊎◌, ⊎_elim, inl, inr, bytes_eq}
use Rattle.std.proofs.lemmas.Bool.{cond_both}
use Rattle.abs_values.proofs.InsideLemmas.{inside-append}
use Rattle.abs_tree.specs.Names.{number_of_name}
use Rattle.abs_values.specs.Operations.{both_matched, matched, all_matched}
use Rattle.abs_values.specs.References.{Reference, IsIn, IsInAny}
use Rattle.abs_tree.specs.Syntax.{Name, PatternTree, AnyValue, Binds, SameNumber, SameString, Built, PatternTrees, NoPattern, NextPattern}
use Rattle.abs_values.specs.ValueTrees.{ValueTree, IntValue, StringValue, BuiltValue, ValueTrees, NoPart, NextPart, parts_of_list}

-- each reference inside the values that are taken is inside of what they are taken from
abbrev pub TakesFrom : (Reference → Type 0) → List ValueTree → Type 0
TakesFrom IsInside values = (reference : Reference) → IsInAny reference (parts_of_list values) → IsInside reference

-- what two patterns take is inside of one or the other of what they are matched with
both_matched-inside : (one other : Option (List ValueTree)) (IsInOne IsInOther : Reference → Type 0)
    → IfSome one (TakesFrom IsInOne) → IfSome other (TakesFrom IsInOther)
    → IfSome (both_matched one other) (TakesFrom (λ reference. IsInOne reference ⊎ IsInOther reference))
both_matched-inside (Some first) (Some others) IsInOne IsInOther one other = λ reference inside.
    ⊎_elim (λ own. inl (one reference own)) (λ later. inr (other reference later))
    (inside-append first others reference inside)
both_matched-inside (Some first) None IsInOne IsInOther one other = tt
both_matched-inside None others IsInOne IsInOther one other = tt

mutual
  unfolding matched all_matched IsIn IsInAny

  -- what is inside of what is taken from a value is inside the value
  pub matched-inside : (names : List Name) (pattern : PatternTree) (value : ValueTree)
      → IfSome (matched names pattern value) (TakesFrom (λ reference. IsIn reference value))
  matched-inside names (AnyValue place) value = λ reference inside. absurd inside
  matched-inside names (Binds place variable) value =
      λ reference inside. ⊎_elim (λ own. own) (λ none. absurd none) inside
  matched-inside names (SameNumber place number) (IntValue other) =
      cond_both (int_eq number other) (Some []) None
      (λ taken. IfSome taken (TakesFrom (λ reference. IsIn reference (IntValue other))))
      (λ _. λ reference inside. absurd inside) (λ _. tt)
  matched-inside names (SameString place string) (StringValue other) =
      cond_both (bytes_eq string other) (Some []) None
      (λ taken. IfSome taken (TakesFrom (λ reference. IsIn reference (StringValue other))))
      (λ _. λ reference inside. absurd inside) (λ _. tt)
  matched-inside names (Built place constructor patterns) (BuiltValue other parts) =
      cond_both (nat_eq (number_of_name names constructor) other) (all_matched names patterns parts) None
      (λ taken. IfSome taken (TakesFrom (λ reference. IsIn reference (BuiltValue other parts))))
      (λ _. all_matched-inside names patterns parts) (λ _. tt)
  matched-inside names pattern value = tt

  -- what is inside of what is taken from parts is inside the parts
  pub all_matched-inside : (names : List Name) (patterns : PatternTrees) (parts : ValueTrees)
      → IfSome (all_matched names patterns parts) (TakesFrom (λ reference. IsInAny reference parts))
  all_matched-inside names NoPattern NoPart = λ reference inside. absurd inside
  all_matched-inside names (NextPattern first others) (NextPart value values) =
      both_matched-inside (matched names first value) (all_matched names others values)
      (λ reference. IsIn reference value) (λ reference. IsInAny reference values) (matched-inside names first value)
      (all_matched-inside names others values)
  all_matched-inside names patterns parts = tt
