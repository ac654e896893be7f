-- The bodies of a kind.
--
--   `OwnMethod`, `body_method`     a method of a class whose objects may have a sign, and a body of a kind is one
--   `methods_found`, `main_found`  the bodies of a kind were found
--   `kind_found`                   so they were for a kind in other words
use Rattle.std.proofs.Common.{◌≡◌, ◌≤◌, ◌⊎◌, inr, ⊎_elim, ℕ, List, [], length, map, Contains, refl, sym, subst}
use Rattle.abs_tree.specs.Names.{name_of}
use Rattle.abs_tree.specs.Syntax.{Name, ProgramTree}
use Rattle.abs_tree.specs.declared.symbol.Symbol.{Symbol}
use Rattle.contract_terms.specs.Made.{classes_made}
use Rattle.contract_terms.specs.declared.fact.Fact.{Fact}
use Rattle.name_bounding.specs.declared.kind.Kind.TheVariants.{Main, Method}
use Rattle.name_bounding.specs.declared.kind.Kind.{Kind}
use Rattle.name_bounding.specs.declared.kind.Sign.{Sign}
use Rattle.saturation.specs.Rows.{HasBody, MethodIs, a_method, main_block}
use Rattle.saturation.specs.Steps.{Finds}
use Rattle.saturation.specs.declared.body.Body.{Body}
use Rattle.saturation.specs.declared.body.Body.TheVariants as body
use Rattle.saturation.specs.declared.derivation.Derivation.{Derivation}
use Rattle.saturation.proofs.EachLemmas.{FoundSoFar, finds_each, inside_none}
use Rattle.saturation.proofs.FindLemmas.{finds_as}
use Rattle.saturation.proofs.ImageLemmas.{contains_map, contains_mapped}

-- A method with a name of a class whose objects may have a sign.
record OwnMethod (program : ProgramTree) (sign : Sign) (method : Symbol) (own : Body) : Type 0 where
  pub class : Name
  pub made : Contains (classes_made program.source sign.place) class
  pub is : MethodIs program class (name_of program.names method) own

-- a body of a kind is one
body_method : (program : ProgramTree) (sign : Sign) (method : Symbol) (own : Body)
    → HasBody program (Method sign method) own → OwnMethod program sign method own
body_method program sign method own (a_method same_sign same_method class same_own made is) =
    record { class = class; made = made; is = is }

-- the method with a name of a class, which has a symbol
abbrev pub MethodFor : ProgramTree → Symbol → Symbol → List Fact → Body → Type 0
MethodFor program method class known own =
    MethodIs program (name_of program.names class) (name_of program.names method) own

-- the bodies of the classes that are made at a place
pub methods_found : (program : ProgramTree) (sign : Sign) (method : Symbol) (classes : List Symbol)
    → map (name_of program.names) classes ≡ classes_made program.source sign.place
    → (older : List Body) {now : List Body} {start end : Derivation} (index : ℕ) → older ≡ [] → length classes ≤ index
    → FoundSoFar (MethodFor program method) older classes index now start end
    → Finds (λ known. HasBody program (Method sign method)) now start end
methods_found program sign method classes made older index none over step =
    finds_as (finds_each (MethodFor program method) older classes index over step)
    (λ own there. ⊎_elim (λ old. absurd (inside_none older none own old)) (λ each. a_method sign method
    (name_of program.names each.from) own
    (subst (λ list. Contains list (name_of program.names each.from)) made
    (contains_map (name_of program.names) classes each.from each.inside)) each.there) there)
    (λ own has.
    let it = body_method program sign method own has in
    let from = contains_mapped (name_of program.names) classes it.class
    (subst (λ list. Contains list it.class) (sym made) it.made) in
    inr (record {
      from = from.0;
      inside = from.1;
      there = subst (λ class. MethodIs program class (name_of program.names method) own) (sym from.2) it.is;
    }))

-- the main block is the body of main
body_main : (program : ProgramTree) (own : Body) → HasBody program Main own → body.Main ≡ own
body_main program own main_block = refl

-- the body of main
pub main_found : (program : ProgramTree) (older : List Body) → older ≡ [] → {now : List Body} {start end : Derivation}
    → Finds (λ known own. Contains older own ⊎ (body.Main ≡ own)) now start end
    → Finds (λ known. HasBody program Main) now start end
main_found program older none step =
    finds_as step
    (λ own there. ⊎_elim (λ old. absurd (inside_none older none own old))
    (λ same. subst (HasBody program Main) same main_block) there)
    (λ own has. inr (body_main program own has))

-- the bodies of a kind in other words
pub kind_found : (program : ProgramTree) (one other : Kind) → one ≡ other → {now : List Body} {start end : Derivation}
    → Finds (λ known. HasBody program one) now start end → Finds (λ known. HasBody program other) now start end
kind_found program one other same {now} {start} {end} step =
    subst (λ kind. Finds (λ known. HasBody program kind) now start end) same step
