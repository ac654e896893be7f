-- Meanings by name and by number are the same, where each number is that of its name.
use Rattle.std.proofs.Common.{◌≡◌, ℕ, zero, suc, ◌+◌, ◌-◌, List, [], ◌∷◌, ◌++◌, Ok, Err, refl, sym, ap, ◌∙◌, subst, length, drop, arith}
use Rattle.std.specs.Prelude.{None, Result, OnOk, OnErr}
use Rattle.std.proofs.lemmas.List.{length-append, length-map, drop_at, drop-map}
use Rattle.abs_tree.specs.Names.{number_of_name, name_of}
use Rattle.abs_tree.specs.Syntax.{Name}
use Rattle.abs_tree.specs.SyntaxViews.{variable_tree}
use Rattle.abs_tree.specs.declared.symbol.Symbol.{Symbol}
use Rattle.abs_tree.specs.declared.syntax.variable.Variable.{Variable}
use Rattle.abs_tree.specs.declared.syntax.variable.Variable.TheVariants as variable
use Rattle.abs_tree.proofs.NumberLemmas.{name_of_number}
use Rattle.abs_program.specs.Tables.{meaning_of}
use Rattle.abs_names.specs.declared.scope.Binding.{Binding}
use Rattle.abs_names.specs.Numbered.{is_bound, bound_up_to, AreCounted, EndsIn}
use Rattle.abs_names.specs.Scopes.{Meanings, Scope, visible_field, field_of, or_field, use_of, bound_count}
use Rattle.abs_program.specs.KeptSpaces.{name_at, named, ProperNumbers}
use Rattle.abs_names.specs.Visible.{binding_tree}

-- there are as many bound variables
bound_by : (names : List Name) (name : Name) (meaning : Variable) (n : ℕ) (others : Meanings) → n ≡ bound_count others
    → is_bound meaning + n ≡ bound_count ((name, variable_tree names meaning) ∷ others)
bound_by names name (variable.Unresolved symbol) n others same = omega (arith, same)
bound_by names name (variable.Slot slot) n others same = omega (arith, same)
bound_by names name (variable.Bound depth) n others same = omega (arith, same)
bound_by names name (variable.Field field) n others same = omega (arith, same)

pub bound_is_count : (names : List Name) (known : List (ℕ × Binding)) → AreCounted known
    → bound_up_to known ≡ bound_count (named names (binding_tree names) known)
bound_is_count names [] counted = refl
bound_is_count names (one ∷ others) counted =
    counted.0
    ∙ bound_by names (name_at names one.0) one.1.variable (bound_up_to others)
    (named names (binding_tree names) others) (bound_is_count names others counted.1)

-- the number of the name of a symbol is proper, and has that name
pub proper_number : (names : List Name) (number : ℕ) (symbol : Symbol)
    → number ≡ number_of_name names (name_of names symbol) → number_of_name names (name_at names number) ≡ number
proper_number names number symbol is =
    ap (λ (n : ℕ). number_of_name names (name_at names n)) is
    ∙ (ap (number_of_name names) (name_of_number names symbol) ∙ sym is)

-- names that were added, or were not, have proper numbers
pub proper_added : {A E : Type 0} (names : List Name) (known now : List (ℕ × A)) (number : ℕ) (symbol : Symbol)
    (meaning : A) (result : Result Unit E) → OnOk result (now ≡ (number, meaning) ∷ known)
    → OnErr result (now ≡ known) → number ≡ number_of_name names (name_of names symbol)
    → ProperNumbers names known → ProperNumbers names now
proper_added names known now number symbol meaning (Ok x) added err is proper =
    subst (ProperNumbers names) (sym added) (proper_number names number symbol is, proper)
proper_added names known now number symbol meaning (Err e) added err is proper =
    subst (ProperNumbers names) (sym err) proper

-- a variable that was added, or was not, is counted
pub counted_added : {E : Type 0} (known now : List (ℕ × Binding)) (number : ℕ) (binding : Binding)
    (result : Result Unit E) → OnOk result (now ≡ (number, binding) ∷ known) → OnErr result (now ≡ known)
    → binding.bound ≡ is_bound binding.variable + bound_up_to known → AreCounted known → AreCounted now
counted_added known now number binding (Ok x) added err is counted = subst AreCounted (sym added) (is, counted)
counted_added known now number binding (Err e) added err is counted = subst AreCounted (sym err) counted

-- a name that was added is the newest one
pub named_added : {A B E : Type 0} (names : List Name) (tree : A → B) (known now : List (ℕ × A)) (number : ℕ)
    (symbol : Symbol) (meaning : A) (result : Result Unit E) → OnOk result (now ≡ (number, meaning) ∷ known)
    → number ≡ number_of_name names (name_of names symbol)
    → OnOk result (named names tree now ≡ (name_of names symbol, tree meaning) ∷ named names tree known)
named_added names tree known now number symbol meaning (Ok x) added is =
    ap (named names tree) added
    ∙ ap (λ (name : Name). (name, tree meaning) ∷ named names tree known)
    (ap (name_at names) is ∙ name_of_number names symbol)
named_added names tree known now number symbol meaning (Err e) added is = tt

-- the older names have proper numbers too, and are counted too
pub proper_older : {A : Type 0} (names : List Name) (count : ℕ) (known : List (ℕ × A)) → ProperNumbers names known
    → ProperNumbers names (drop count known)
proper_older names zero known proper = proper
proper_older names (suc count) [] proper = tt
proper_older names (suc count) (one ∷ others) proper = proper_older names count others proper.1

pub counted_older : (count : ℕ) (known : List (ℕ × Binding)) → AreCounted known → AreCounted (drop count known)
counted_older zero known counted = counted
counted_older (suc count) [] counted = tt
counted_older (suc count) (one ∷ others) counted = counted_older count others counted.1

-- what is left after the newest entries of a list are dropped
pub rest_is : {A : Type 0} (items older : List A) (count : ℕ) → EndsIn items older → length older ≡ count
    → drop (length items - count) items ≡ older
rest_is items older count ends is =
    ap (λ (xs : List _). drop (length xs - count) xs) ends.is
    ∙ drop_at ends.newer older (length (ends.newer ++ older) - count)
    (omega (arith, length-append ends.newer older, is))

-- and of the names of numbers
pub named_rest : {A B : Type 0} (names : List Name) (tree : A → B) (known : List (ℕ × A)) (older : List (Name × B))
    (count : ℕ) → EndsIn (named names tree known) older → length older ≡ count
    → named names tree (drop (length known - count) known) ≡ older
named_rest names tree known older count ends is =
    sym (drop-map _ (length known - count) known)
    ∙ (ap (λ (n : ℕ). drop (n - count) (named names tree known)) (sym (length-map known _))
    ∙ rest_is (named names tree known) older count ends is)

-- what the use of a name stands for that means no variable
pub use_of_field : (scope : Scope) (name : Name) → meaning_of scope.variables name ≡ None
    → use_of scope name ≡ visible_field scope.routine (field_of scope name)
use_of_field scope name none = ap (or_field scope name) none
