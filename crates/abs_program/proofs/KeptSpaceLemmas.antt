-- Meanings by name and by number are the same, where each number is that of its name.
use Rattle.std.proofs.Common.{◌≡◌, ℕ, Bool, true, false, List, [], ◌∷◌, refl, sym, ap, ◌∙◌, cond, nat_eq, arith}
use Rattle.std.specs.Prelude.{Option, Some, option_map}
use Rattle.std.specs.Str.{bytes_eq}
use Rattle.std.proofs.lemmas.Bool.Decides.{nat_tests}
use Rattle.std.proofs.lemmas.Slice.Eq.{bytes_eq-Decides}
use Rattle.abs_tree.proofs.NumberLemmas.{numbers_tell_names}
use Rattle.abs_program.specs.KeptSpaces.{name_at, named, ProperNumbers}
use Rattle.abs_tree.specs.Names.{number_of_name, name_of}
use Rattle.abs_program.specs.Numbered.{looked_up}
use Rattle.abs_tree.specs.Syntax.{Name}
use Rattle.abs_program.specs.Tables.{meaning_of}
use Rattle.abs_tree.specs.declared.symbol.Symbol.{Symbol}
use Rattle.std.specs.Cmp.{both_ways}
use Rattle.list_facts.proofs.OptionLemmas.{option_map-same}

-- the number of a name is compared where the name is
number_or_name : (names : List Name) (number : ℕ) (symbol : Symbol)
    → number_of_name names (name_at names number) ≡ number
    → nat_eq number (number_of_name names (name_of names symbol)) ≡ bytes_eq (name_at names number)
    (name_of names symbol)
number_or_name names number symbol proper =
    let one : Symbol = record { 0 = number } in
    let laws = numbers_tell_names names one symbol in
    both_ways (nat_eq number (number_of_name names (name_of names symbol)))
    (bytes_eq (name_at names number) (name_of names symbol))
    (λ e. (bytes_eq-Decides (name_at names number) (name_of names symbol)).1 (laws.0 (proper ∙ grind
    (arith, nat_tests))))
    (λ e. let same = ap (number_of_name names) ((bytes_eq-Decides (name_at names number) (name_of names symbol)).0 e) in
    let equal : number ≡ number_of_name names (name_of names symbol) = sym proper ∙ same in
    grind (arith, nat_tests))

-- what a name means, by its number
meaning_by : {A B : Type 0} (f : A → B) (b c : Bool) (one : A) (other : Option A) (last : Option B) → b ≡ c
    → option_map f other ≡ last → option_map f (cond b (Some one) other) ≡ cond c (Some (f one)) last
meaning_by f true true one other last e same = refl
meaning_by f true false one other last e same = absurd (cc)
meaning_by f false true one other last e same = absurd (cc)
meaning_by f false false one other last e same = same

pub looked_up-named : {A B : Type 0} (names : List Name) (tree : A → B) (known : List (ℕ × A)) (symbol : Symbol)
    → ProperNumbers names known → option_map tree (looked_up known (number_of_name names (name_of names symbol)))
    ≡ meaning_of (named names tree known) (name_of names symbol)
looked_up-named names tree [] symbol proper = refl
looked_up-named names tree (one ∷ others) symbol proper =
    meaning_by tree (nat_eq one.0 (number_of_name names (name_of names symbol)))
    (bytes_eq (name_at names one.0) (name_of names symbol)) one.1
    (looked_up others (number_of_name names (name_of names symbol)))
    (meaning_of (named names tree others) (name_of names symbol)) (number_or_name names one.0 symbol proper.0)
    (looked_up-named names tree others symbol proper.1)

-- the same where a meaning is kept as it is
pub looked_up-known : {A : Type 0} (names : List Name) (known : List (ℕ × A)) (symbol : Symbol) (name : Name)
    → ProperNumbers names known → name_of names symbol ≡ name
    → looked_up known (number_of_name names (name_of names symbol)) ≡ meaning_of (named names (λ (x : A). x) known) name
looked_up-known {A} names known symbol name proper is =
    option_map-same (looked_up known (number_of_name names (name_of names symbol)))
    ∙ (looked_up-named names (λ (x : A). x) known symbol proper
    ∙ ap (meaning_of (named names (λ (x : A). x) known)) is)

-- what a number that is that of a name means is what the name means
pub number_means : {A : Type 0} (names : List Name) (known : List (ℕ × A)) (symbol : Symbol) (number : ℕ)
    (found : Option A) → ProperNumbers names known → number ≡ number_of_name names (name_of names symbol)
    → found ≡ looked_up known number → found ≡ meaning_of (named names (λ (x : A). x) known) (name_of names symbol)
number_means names known symbol number found proper is same =
    same ∙ (ap (looked_up known) is ∙ looked_up-known names known symbol (name_of names symbol) proper refl)
