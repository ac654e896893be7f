-- The offences of declarations that extend themselves.
use Rattle.std.proofs.Common.{◌≡◌, ℕ, ◌+◌, ◌<◌, ◌≤◌, Bool, true, false, List, [], ◌∷◌, ◌++◌, refl, sym, ap, ◌∙◌, length, get_or, drop, map, fold, zero, suc, arith}
use Rattle.std.specs.Prelude.{All, Option}
use Rattle.std.proofs.lemmas.List.{drop_all}
use Rattle.std.proofs.lemmas.List.Elements.{All-nil, All-cons}
use Rattle.std.proofs.lemmas.List.Sums.{fold-append}
use Rattle.abs_graph.specs.Graphs.{Graph}
use Rattle.abs_program.specs.Supertypes.{supertypes_in}
use Rattle.abs_tree.specs.Offences.{earlier}
use Rattle.abs_tree.specs.Syntax.{Name, DeclTree}
use Rattle.abs_tree.specs.SyntaxViews.{decl_tree}
use Rattle.abs_tree.specs.declared.place.Place.{Place}
use Rattle.abs_tree.specs.declared.refusal.Offence.{Offence}
use Rattle.abs_tree.specs.declared.syntax.declaration.Decl.{Decl}
use Rattle.abs_names.specs.Extension.{extension_offences, name_place}
use Rattle.abs_names.specs.Single.{cyclic}
use Rattle.abs_names.specs.TypeNames.{Around}
use Rattle.abs_names.specs.Visible.{Names, Visible}
use Rattle.list_facts.proofs.EntryLemmas.{drop_item}

-- the offences of declarations from an index on are that of the first one, followed by those of the others
offences_next : (cycles : List Bool) (index : ℕ) (declaration : DeclTree) (others : List DeclTree)
    → extension_offences (drop index cycles) (declaration ∷ others)
    ≡ cyclic (get_or cycles index false) (name_place declaration)
    ++ extension_offences (drop (suc index) cycles) others
offences_next [] zero declaration others = refl
offences_next [] (suc index) declaration others = refl
offences_next (extends_itself ∷ cycles) zero declaration others = refl
offences_next (extends_itself ∷ cycles) (suc index) declaration others =
    offences_next cycles index declaration others

offences_from : (cycles : List Bool) (index : ℕ) (declaration : DeclTree) (others : List DeclTree)
    → extension_offences (drop index cycles) (declaration ∷ others)
    ≡ cyclic (get_or cycles index false) (name_place declaration)
    ++ extension_offences (drop (index + 1) cycles) others
offences_from cycles index declaration others =
    let next : suc index ≡ index + 1 = omega arith in
    offences_next cycles index declaration others
    ∙ ap (λ (n : ℕ). cyclic (get_or cycles index false) (name_place declaration)
    ++ extension_offences (drop n cycles) others) next

-- no declaration has no offence
no_offence : (cycles : List Bool) → extension_offences cycles [] ≡ []
no_offence [] = refl
no_offence (extends_itself ∷ others) = refl

-- The declarations before an index were looked at, each with its own offence.
pub record CyclesNoted (cycles : List Bool) (start : Visible) (first : Option Offence) (items : List Decl) (index : ℕ)
    (now : Visible) (noted : Option Offence) : Type 0 where
  pub scope_is : now ≡ start
  pub offences : (names : List Name)
      → fold earlier noted (extension_offences (drop index cycles) (map (decl_tree names) (drop index items)))
      ≡ fold earlier first (extension_offences cycles (map (decl_tree names) items))

-- one more declaration was looked at, with whether it extends itself
pub cycles_step : {cycles : List Bool} {start : Visible} {first : Option Offence} {items : List Decl} {index : ℕ}
    {now later : Visible} {noted later_noted : Option Offence} (item : Decl) (place : Place)
    → CyclesNoted cycles start first items index now noted → index < length items → item ≡ get_or items index item
    → ((names : List Name) → place ≡ name_place (decl_tree names item))
    → later_noted ≡ fold earlier noted (cyclic (get_or cycles index false) place) → later ≡ now
    → CyclesNoted cycles start first items (index + 1) later later_noted
cycles_step {cycles} {start} {first} {items} {index} {now} {later} {noted} {later_noted} item place h there is at note
    same = record {
      scope_is = same ∙ h.scope_is;
      offences = λ names.
          let tree = decl_tree names in
          let rest = drop (index + 1) items in
          let one = cyclic (get_or cycles index false) in
          let others = extension_offences (drop (index + 1) cycles) (map tree rest) in
          ap (λ (o : Option Offence). fold earlier o others) note
          ∙ (sym (fold-append earlier noted (one place) others)
          ∙ (ap (λ (p : Place). fold earlier noted (one p ++ others)) (at names)
          ∙ (ap (fold earlier noted) (sym (offences_from cycles index (tree item) (map tree rest)))
          ∙ (ap (λ (ds : List Decl). fold earlier noted (extension_offences (drop index cycles) (map tree ds)))
          (sym (drop_item items index item there is))
          ∙ h.offences names))));
    }

-- all declarations were looked at
pub cycles_done : {cycles : List Bool} {start : Visible} {first : Option Offence} {items : List Decl} {index : ℕ}
    {now : Visible} {noted : Option Offence} (names : List Name) → CyclesNoted cycles start first items index now noted
    → length items ≤ index → noted ≡ fold earlier first (extension_offences cycles (map (decl_tree names) items))
cycles_done {cycles} {start} {first} {items} {index} {now} {noted} names h over =
    ap (fold earlier noted) (sym (no_offence (drop index cycles)))
    ∙ (ap (λ (ds : List Decl). fold earlier noted (extension_offences (drop index cycles) (map (decl_tree names) ds)))
    (sym (drop_all index items over)) ∙ h.offences names)

-- no name offends by its interface exactly if no declaration extends itself
no_cyclic : (extends_itself : Bool) (place : Place) (others : List Offence)
    → cyclic extends_itself place ++ others ≡ [] → extends_itself ≡ false
no_cyclic false place others none = refl
no_cyclic true place others none = absurd (cc)

rest_none : (extends_itself : Bool) (place : Place) (others : List Offence)
    → cyclic extends_itself place ++ others ≡ [] → others ≡ []
rest_none false place others none = none
rest_none true place others none = absurd (cc)

pub none_extends_itself : (cycles : List Bool) (declarations : List DeclTree) → length cycles ≤ length declarations
    → extension_offences cycles declarations ≡ [] → All (λ (b : Bool). b ≡ false) cycles
none_extends_itself [] declarations few none = All-nil (λ (b : Bool). b ≡ false)
none_extends_itself (extends_itself ∷ cycles) [] few none = absurd (omega (arith, few))
none_extends_itself (extends_itself ∷ cycles) (declaration ∷ declarations) few none =
    let offences = extension_offences cycles declarations in
    All-cons (λ (b : Bool). b ≡ false) extends_itself cycles
    (no_cyclic extends_itself (name_place declaration) offences none)
    (none_extends_itself cycles declarations (omega (arith, few))
    (rest_none extends_itself (name_place declaration) offences none))

-- the graph that was built of what is around a walk is that of its name spaces
pub supertypes_of_walk : {names given : Names} {around known : Around} {graph : Graph} (declarations : List Decl)
    → given ≡ names → known ≡ around
    → graph ≡ supertypes_in known.spaces (map (decl_tree given.after) declarations)
    → graph ≡ supertypes_in around.spaces (map (decl_tree names.after) declarations)
supertypes_of_walk {names} {given} {around} {known} declarations same is built =
    built
    ∙ (ap (λ (a : Around). supertypes_in a.spaces (map (decl_tree given.after) declarations)) is
    ∙ ap (λ (ns : Names). supertypes_in around.spaces (map (decl_tree ns.after) declarations)) same)
