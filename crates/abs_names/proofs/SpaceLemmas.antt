-- Name spaces by name and by number are the same, also after more names are declared.
use Rattle.std.proofs.Common.{◌≡◌, ℕ, Bool, true, false, List, ◌∷◌, Ok, Err, refl, sym, ap, ◌∙◌, subst, cond, drop, fold, map}
use Rattle.std.specs.Prelude.{Option, is_some, option_map, Result, OnOk, OnErr, IfOk}
use Rattle.abs_tree.proofs.NumberLemmas.{name_of_number}
use Rattle.abs_program.specs.NameSpaces.{with_constructors, with_declarations}
use Rattle.abs_tree.specs.Names.{number_of_name, name_of}
use Rattle.abs_program.specs.Numbered.{looked_up}
use Rattle.abs_tree.specs.Offences.{earlier}
use Rattle.abs_tree.specs.Syntax.{Name, DeclaredTree, ConstructorTree, DeclTree}
use Rattle.abs_program.specs.Tables.{meaning_of, with_first}
use Rattle.abs_tree.specs.declared.refusal.Offence.{Offence}
use Rattle.abs_tree.specs.declared.symbol.Symbol.{Symbol}
use Rattle.abs_program.proofs.KeptSpaceLemmas.{looked_up-named}
use Rattle.abs_names.proofs.ScopeLemmas.{proper_number}
use Rattle.abs_names.specs.TypeNames.{Around, with_type_params}
use Rattle.abs_program.specs.KeptSpaces.{name_at, named, ProperNumbers}
use Rattle.abs_names.specs.Visible.{Known, Names}
use Rattle.list_facts.proofs.OptionLemmas.{is_some-option_map}

-- a number is known where its name is
known_name : {A B : Type 0} (names : List Name) (tree : A → B) (known : List (ℕ × A)) (number : ℕ) (symbol : Symbol)
    (name : Name) → number ≡ number_of_name names (name_of names symbol) → name_of names symbol ≡ name
    → ProperNumbers names known
    → is_some (looked_up known number) ≡ is_some (meaning_of (named names tree known) name)
known_name names tree known number symbol name is same proper =
    is_some-option_map tree (looked_up known number)
    ∙ ap is_some (ap (λ (n : ℕ). option_map tree (looked_up known n)) is
    ∙ (looked_up-named names tree known symbol proper ∙ ap (meaning_of (named names tree known)) same))

-- a test of whether a number is known is one of whether its name is
pub taken_name : {A B E : Type 0} (names : List Name) (tree : A → B) (known : List (ℕ × A)) (number : ℕ)
    (symbol : Symbol) (name : Name) (result : Result Bool E) → IfOk result (λ r. r ≡ is_some (looked_up known number))
    → number ≡ number_of_name names (name_of names symbol) → name_of names symbol ≡ name
    → ProperNumbers names known
    → IfOk result (λ taken. taken ≡ is_some (meaning_of (named names tree known) name))
taken_name names tree known number symbol name (Ok r) found is same proper =
    found ∙ known_name names tree known number symbol name is same proper
taken_name names tree known number symbol name (Err e) found is same proper = tt

-- the same where it is known whether the number had a meaning
proper_either : {A : Type 0} (names : List Name) (known : List (ℕ × A)) (number : ℕ) (symbol : Symbol) (meaning : A)
    (b : Bool) → number ≡ number_of_name names (name_of names symbol) → ProperNumbers names known
    → ProperNumbers names (cond b known ((number, meaning) ∷ known))
proper_either names known number symbol meaning true is proper = proper
proper_either names known number symbol meaning false is proper = (proper_number names number symbol is, proper)

named_either : {A B : Type 0} (names : List Name) (tree : A → B) (known : List (ℕ × A)) (number : ℕ) (name : Name)
    (meaning : A) (b c : Bool) → b ≡ c → name_at names number ≡ name
    → named names tree (cond b known ((number, meaning) ∷ known))
    ≡ cond c (named names tree known) ((name, tree meaning) ∷ named names tree known)
named_either names tree known number name meaning true true e same = refl
named_either names tree known number name meaning true false e same = absurd (cc)
named_either names tree known number name meaning false true e same = absurd (cc)
named_either names tree known number name meaning false false e same =
    ap (λ (n : Name). (n, tree meaning) ∷ named names tree known) same

-- names to which a first meaning was added have proper numbers
pub proper_first : {A E : Type 0} (names : List Name) (known now : List (ℕ × A)) (number : ℕ) (symbol : Symbol)
    (meaning : A) (result : Result Bool E)
    → OnOk result (now ≡ cond (is_some (looked_up known number)) known ((number, meaning) ∷ known))
    → OnErr result (now ≡ known) → number ≡ number_of_name names (name_of names symbol)
    → ProperNumbers names known → ProperNumbers names now
proper_first names known now number symbol meaning (Ok r) added err is proper =
    subst (ProperNumbers names) (sym added) (proper_either names known number symbol meaning
    (is_some (looked_up known number)) is proper)
proper_first names known now number symbol meaning (Err e) added err is proper =
    subst (ProperNumbers names) (sym err) proper

-- a first meaning that was added by number was added by name
pub named_first : {A B E : Type 0} (names : List Name) (tree : A → B) (known now : List (ℕ × A)) (number : ℕ)
    (symbol : Symbol) (name : Name) (meaning : A) (result : Result Bool E)
    → OnOk result (now ≡ cond (is_some (looked_up known number)) known ((number, meaning) ∷ known))
    → number ≡ number_of_name names (name_of names symbol) → name_of names symbol ≡ name
    → ProperNumbers names known
    → OnOk result (named names tree now ≡ with_first (named names tree known) name (tree meaning))
named_first names tree known now number symbol name meaning (Ok r) added is same proper =
    ap (named names tree) added
    ∙ named_either names tree known number name meaning (is_some (looked_up known number)) _
    (known_name names tree known number symbol name is same proper)
    (ap (name_at names) is ∙ (name_of_number names symbol ∙ same))
named_first names tree known now number symbol name meaning (Err e) added is same proper = tt

-- what is around with more type parameters, with more constructors, and with more declarations
abbrev pub and_type_params : ℕ → Around → List DeclaredTree → Around
and_type_params index around params =
    record around { type_params = with_type_params index around.type_params params }

abbrev pub and_constructors : ℕ → ℕ → Around → List ConstructorTree → Around
and_constructors owner index around constructors = record around {
  spaces = record around.spaces {
    constructors = with_constructors owner index around.spaces.constructors constructors;
  };
}

abbrev pub and_declarations : ℕ → Around → List DeclTree → Around
and_declarations index around declarations =
    record around { spaces = with_declarations index around.spaces declarations }

-- Items before a position were declared, in order: what is around now, with the items that are left, is what was around
-- with all of them.
pub record AddedSoFar {A T : Type 0} (tree : List Name → A → T) (all : ℕ → Around → List T → Around) (names : Names)
    (before : Around) (first_number : ℕ) (items : List A) (position number : ℕ) (now : Known) : Type 0 where
  pub same_names : now.names ≡ names
  pub around : all number now.around (map (tree names.before) (drop position items))
      ≡ all first_number before (map (tree names.before) items)

-- The offences of the items before a position were noted, and those of the items that are left are all others.
pub record OffendedSoFar {A T : Type 0} (tree : List Name → A → T) (all : ℕ → Around → List T → List Offence)
    (names : Names) (before : Around) (first_number : ℕ) (first : Option Offence) (items : List A) (position number : ℕ)
    (now : Known) (noted : Option Offence) : Type 0 where
  pub offences : fold earlier noted (all number now.around (map (tree names.before) (drop position items)))
      ≡ fold earlier first (all first_number before (map (tree names.before) items))
