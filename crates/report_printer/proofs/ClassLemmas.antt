-- The first class that is made at a place.
--
--   `first_class`, `no_class`          its name, by the contracts of a program
use denote.Struct.Props as logic
use mathlib.Core.Logic.{∥∥₁_elim}
use Rattle.std.proofs.Common.{◌≡◌, ◌∙◌, ℕ, List, [], ◌∷◌, map, Some, None, refl, sym, ap}
use Rattle.std.proofs.lemmas.Option.{none-some, same_Some}
use Rattle.std.specs.Prelude.{slice_get}
use Rattle.abs_program.specs.NamedViews.{program_tree}
use Rattle.abs_tree.specs.Names.{name_of}
use Rattle.abs_tree.specs.Syntax.{Name}
use Rattle.abs_tree.specs.declared.symbol.Symbol.{Symbol}
use Rattle.contract_terms.specs.Made.{classes_made}
use Rattle.contract_terms.specs.ProgramTerms.{AreTermsOf}
use Rattle.contract_terms.specs.Views.{made_in}
use Rattle.contract_terms.specs.declared.contracted.Contracted.{Contracted}
use Rattle.contract_terms.specs.declared.terms.Terms.{Terms}
use Rattle.report_printer.specs.ReportTexts.{first_name}

first_of : (names : List Name) (classes : List Symbol) (class : Symbol) → Some class ≡ slice_get classes 0
    → name_of names class ≡ first_name (map (name_of names) classes)
first_of names [] class is = absurd (none-some class (sym is))
first_of names (one ∷ classes) class is = ap (name_of names) (same_Some class one is)

none_of : (names : List Name) (classes : List Symbol) → None ≡ slice_get classes 0
    → [] ≡ first_name (map (name_of names) classes)
none_of names [] is = refl
none_of names (one ∷ classes) is = absurd (none-some one is)

module _ (program : Contracted) (terms : Terms) (are : ∥ AreTermsOf (program_tree program.checked.named) terms ∥₁)
    (classes : List Symbol) (place : ℕ)
    (known : map (name_of program.checked.named.symbols) classes ≡ made_in program.checked.named.symbols terms place)
  where
    made : map (name_of program.checked.named.symbols) classes
        ≡ classes_made (program_tree program.checked.named).source place
    made = known ∙ ∥∥₁_elim are (Prim.hlevel logic.props) (λ it. it.made place)

    -- the name of the first class
    pub first_class : (class : Symbol) → Some class ≡ slice_get classes 0
        → name_of program.checked.named.symbols class
        ≡ first_name (classes_made (program_tree program.checked.named).source place)
    first_class class is = first_of program.checked.named.symbols classes class is ∙ ap first_name made

    -- there is none
    pub no_class : None ≡ slice_get classes 0
        → [] ≡ first_name (classes_made (program_tree program.checked.named).source place)
    no_class is = none_of program.checked.named.symbols classes is ∙ ap first_name made
