-- Types: how many there are, those that hold others, and a list of them of which a prefix was resolved.
use Rattle.std.proofs.Common.{◌≡◌, ℕ, ◌+◌, ◌<◌, List, [], ◌∷◌, ◌++◌, arith, refl, sym, ap, ◌∙◌, subst, length, get_or, fold}
use Rattle.std.specs.Prelude.{Option}
use Rattle.std.specs.declared.alloc.Global.{Global}
use Rattle.std.specs.declared.vec.Vec.{Vec}
use Rattle.abs_tree.proofs.SyntaxLemmas.{type_tree-data}
use Rattle.abs_program.specs.NameSpaces.{count_types}
use Rattle.abs_tree.specs.Names.{name_of}
use Rattle.abs_tree.specs.Offences.{earlier}
use Rattle.abs_tree.specs.Syntax.{Name, TypeTree, UnresolvedType, DataType, TypeTrees, NextType}
use Rattle.abs_tree.specs.SyntaxViews.{type_tree, type_trees}
use Rattle.abs_program.specs.Tables.{meaning_of}
use Rattle.abs_program.specs.declared.name_spaces.TypeMeaning.{TypeMeaning}
use Rattle.abs_tree.specs.declared.place.Place.{Place}
use Rattle.abs_tree.specs.declared.refusal.Offence.{Offence}
use Rattle.abs_tree.specs.declared.symbol.Symbol.{Symbol}
use Rattle.abs_tree.specs.declared.syntax.types.TypeTerm as code
use Rattle.abs_tree.specs.declared.syntax.types.TypeTerm.{TypeTerm}
use Rattle.abs_names.specs.Scopes.{Scope}
use Rattle.abs_names.specs.TypeNames.{Around, applied, taken_by, type_taking, type_offences, types_offences, future_type, named_type, resolved_type, resolved_types}
use Rattle.abs_names.specs.Visible.{Known, Visible}
use Rattle.abs_names.proofs.FormLemmas.{applied_noted, in_scope}
use Rattle.abs_names.proofs.RowLemmas.{RowSoFar, row_step}
use Rattle.abs_tree.proofs.TreeLemmas.{types_before, types_more}

-- a list has as many types as trees
pub types_counted : (names : List Name) (terms : List TypeTerm) → count_types (type_trees names terms) ≡ length terms
types_counted names [] = refl
types_counted names (one ∷ others) = omega (arith, types_counted names others)

-- a resolved data type
pub data_found : (start now : Visible) (place : Place) (name kept : Symbol) (found : Vec TypeTerm Global)
    (items : List TypeTerm) → now ≡ start → name_of start.names.after kept ≡ name_of start.names.before name
    → type_trees now.names.after found.items ≡ resolved_types now.scope.around (type_trees now.names.before items)
    → type_tree start.names.after (code.Data place kept found)
    ≡ DataType place (name_of start.names.before name)
    (resolved_types start.scope.around (type_trees start.names.before items))
data_found start now place name kept found items same is resolved =
    type_tree-data start.names.after place kept found
    ∙ (ap (λ (n : Name). DataType place n (type_trees start.names.after found.items)) is
    ∙ ap (DataType place (name_of start.names.before name)) (subst (λ (v : Visible).
    type_trees v.names.after found.items ≡ resolved_types v.scope.around (type_trees v.names.before items)) same
    resolved))

-- `Fut` of another number of types than one stays as it is
pub no_future : (names : List Name) (place : Place) (name : Name) (terms : List TypeTerm) → (length terms ≡ 1 → ⊥)
    → UnresolvedType place name (type_trees names terms) ≡ future_type place name (type_trees names terms)
no_future names place name [] several = refl
no_future names place name (one ∷ []) several = absurd (several refl)
no_future names place name (one ∷ other ∷ others) several = refl

-- A name stands for this type parameter and for this type, where it stands for one.
pub record Stands (start : Visible) (name : Symbol) (parameter : Option ℕ) (meaning : Option TypeMeaning) : Type 0 where
  pub parameter_is : parameter ≡ meaning_of start.scope.around.type_params (name_of start.names.before name)
  pub meaning_is : meaning ≡ meaning_of start.scope.around.spaces.types (name_of start.names.before name)

-- both were looked up in what is around
pub looked_up : (one other : Known) (start : Visible) (name : Symbol) (parameter : Option ℕ)
    (meaning : Option TypeMeaning) → parameter ≡ meaning_of one.around.type_params (name_of one.names.before name)
    → meaning ≡ meaning_of other.around.spaces.types (name_of other.names.before name) → one.names ≡ start.names
    → one.around ≡ start.scope.around → other.names ≡ start.names → other.around ≡ start.scope.around
    → Stands start name parameter meaning
looked_up one other start name parameter meaning parameter_is meaning_is names around other_names other_around =
    record {
      parameter_is = parameter_is
          ∙ in_scope (λ (a : Around) ns. meaning_of a.type_params (name_of ns name)) one start names around;
      meaning_is = meaning_is
          ∙ in_scope (λ (a : Around) ns. meaning_of a.spaces.types (name_of ns name)) other start other_names
          other_around;
    }

-- a name with resolved arguments, by what it stands for
pub named_found : (start now : Visible) (place : Place) (name kept : Symbol) (found items : List TypeTerm)
    (parameter : Option ℕ) (meaning : Option TypeMeaning) → now ≡ start → Stands start name parameter meaning
    → name_of start.names.after kept ≡ name_of start.names.before name
    → type_trees now.names.after found ≡ resolved_types now.scope.around (type_trees now.names.before items)
    → named_type place (name_of start.names.after kept) (type_trees start.names.after found) parameter meaning
    ≡ resolved_type start.scope.around
    (UnresolvedType place (name_of start.names.before name) (type_trees start.names.before items))
named_found start now place name kept found items parameter meaning same stands is resolved =
    let word = name_of start.names.before name in
    let trees = resolved_types start.scope.around (type_trees start.names.before items) in
    ap (λ (n : Name). named_type place n (type_trees start.names.after found) parameter meaning) is
    ∙ (ap (λ (ts : TypeTrees). named_type place word ts parameter meaning) (subst (λ (v : Visible).
    type_trees v.names.after found ≡ resolved_types v.scope.around (type_trees v.names.before items)) same resolved)
    ∙ (ap (λ (p : Option ℕ). named_type place word trees p meaning) stands.parameter_is
    ∙ ap (λ (m : Option TypeMeaning).
    named_type place word trees (meaning_of start.scope.around.type_params word) m) stands.meaning_is))

-- the offences of a name that is written as a type, with those of its arguments
pub named_noted : (start now : Visible) (place : Place) (name : Symbol) (items : List TypeTerm) (parameter : Option ℕ)
    (meaning : Option TypeMeaning) (taken : Option ℕ) (first between after : Option Offence) → now ≡ start
    → Stands start name parameter meaning → taken ≡ taken_by parameter meaning
    → between ≡ fold earlier first (applied taken (length items) place)
    → after ≡ fold earlier between (types_offences now.scope.around (type_trees now.names.before items))
    → after ≡ fold earlier first (type_offences start.scope.around
    (UnresolvedType place (name_of start.names.before name) (type_trees start.names.before items)))
named_noted start now place name items parameter meaning taken first between after same stands taken_is note noted =
    let word = name_of start.names.before name in
    applied_noted first between after taken (type_taking start.scope.around word) (length items)
    (count_types (type_trees start.names.before items)) place
    (types_offences start.scope.around (type_trees start.names.before items))
    (taken_is ∙ (ap (λ (p : Option ℕ). taken_by p meaning) stands.parameter_is
    ∙ ap (taken_by (meaning_of start.scope.around.type_params word)) stands.meaning_is))
    (types_counted start.names.before items) note
    (subst (λ (v : Visible).
    after ≡ fold earlier between (types_offences v.scope.around (type_trees v.names.before items))) same noted)

-- resolved types, and their offences, in a scope
abbrev pub types_in : Scope → TypeTrees → TypeTrees
types_in scope trees = resolved_types scope.around trees

abbrev pub offences_in : Scope → TypeTrees → List Offence
offences_in scope trees = types_offences scope.around trees

-- types of which a prefix was resolved
abbrev pub TypesSoFar : Visible → Option Offence → List TypeTerm → ℕ → List TypeTerm → Visible → Option Offence → Type 0
TypesSoFar = RowSoFar type_trees types_before types_in offences_in

-- one more type
pub types_step : {start : Visible} {first : Option Offence} {terms : List TypeTerm} {index : ℕ} {found : List TypeTerm}
    {now after : Visible} {noted after_noted : Option Offence} {all : List TypeTerm} (item one : TypeTerm)
    → TypesSoFar start first terms index found now noted → index < length terms → item ≡ get_or terms index item
    → type_tree now.names.after one ≡ resolved_type now.scope.around (type_tree now.names.before item)
    → after_noted ≡ fold earlier noted (type_offences now.scope.around (type_tree now.names.before item)) → after ≡ now
    → all ≡ found ++ one ∷ [] → TypesSoFar start first terms (index + 1) all after after_noted
types_step {found = found} {now = now} item one h there is made note same added =
    row_step item (NextType (type_tree now.names.after one))
    (type_offences now.scope.around (type_tree now.names.before item)) h there is
    (λ others. ap (λ (t : TypeTree). NextType t (types_in now.scope (type_trees now.names.before others))) (sym made))
    (λ others. refl)
    (λ rest. ap (λ (xs : List TypeTerm). types_before now.names.after xs rest) added
    ∙ types_more now.names.after found one rest)
    note same
