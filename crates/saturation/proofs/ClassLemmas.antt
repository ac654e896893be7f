-- Classes by their names and by their indices.
--
--   `DeclaredAt`                           what is declared at an index is a class
--   `class_by_name`, `declared_by_name`    the index of a class, and that it is declared there
--   `class_by_index`                       a class by its index is one by its name
--   `FoundClass`, `class_found`            what is declared has a contract
--   `declared_by_contract`, `declared_by_entry`    what has a contract or an entry is declared
--   `entry_is`, `params_counted`           the entry of a class, and how many parameters it has
--   `field_lets_in`, `let_in_field`        a field of a class lets in an atom
use Rattle.std.proofs.Common.{◌≡◌, ℕ, List, Some, None, refl, sym, ap, subst, ◌∙◌, length}
use Rattle.std.specs.Prelude.{Option, slice_get, option_and_then}
use Rattle.std.proofs.lemmas.Option.{none-some, same_Some}
use Rattle.abs_program.specs.Bodies.{ClassEntryTree, initials_among, run_among, entry_of_class, class_entry}
use Rattle.abs_tree.specs.Syntax.{Name, ParamTree, MemberTree, DeclTree, DeclaredTree, ProgramTree, SourceTree}
use Rattle.abs_tree.specs.Syntax as syntax
use Rattle.abs_tree.specs.declared.place.Place.{Place}
use Rattle.contract_terms.specs.Asks.{LetInField}
use Rattle.contract_terms.specs.KindBodies.{Class}
use Rattle.contract_terms.specs.ProgramTerms.{IsClassContract, IsClassAt, AreTermsOf}
use Rattle.contract_terms.specs.Views.{ClassTree, class_in}
use Rattle.contract_terms.specs.declared.fact.Atom.{Atom}
use Rattle.contract_terms.specs.declared.terms.Terms.{Terms}
use Rattle.saturation.specs.Rows.{ClassIs, FieldLetsIn, params_of_entry, class_params}

-- What is declared at an index is a class.
pub record DeclaredAt (one : Option DeclTree) : Type 0 where
  pub place : Place
  pub own : DeclaredTree
  pub params : List ParamTree
  pub implemented : List DeclaredTree
  pub members : List MemberTree
  pub is : one ≡ Some (syntax.ClassTree place own params implemented members)

-- A class that is declared has a contract.
pub record FoundClass (source : SourceTree) (found : Option ClassTree) (params : List ParamTree)
    (members : List MemberTree) : Type 0 where
  pub tree : ClassTree
  pub there : found ≡ Some tree
  pub contract : IsClassContract source params members tree

-- the contract of what is declared
contract_found : (source : SourceTree) (one : Option DeclTree) (found : Option ClassTree) (at : DeclaredAt one)
    → IsClassAt source one found → FoundClass source found at.params at.members
contract_found source one None at are = absurd (subst (λ declared. IsClassAt source declared None) at.is are)
contract_found source one (Some tree) at are = record {
  tree = tree;
  there = refl;
  contract = subst (λ declared. IsClassAt source declared (Some tree)) at.is are;
}

-- what has a contract is declared
declared_behind : (source : SourceTree) (one : Option DeclTree) (found : Option ClassTree) (tree : ClassTree)
    → IsClassAt source one found → found ≡ Some tree → DeclaredAt one
declared_behind source one None tree are is = absurd (none-some tree is)
declared_behind source None (Some class) tree are is = absurd are
declared_behind source (Some (syntax.ClassTree place own params implemented members)) (Some class) tree are is =
    record {
      place = place;
      own = own;
      params = params;
      implemented = implemented;
      members = members;
      is = refl;
    }
declared_behind source (Some declaration) (Some class) tree are is = absurd are

-- what has an entry is declared
entry_behind : (one : Option DeclTree) (entry : ClassEntryTree) → option_and_then entry_of_class one ≡ Some entry
    → DeclaredAt one
entry_behind None entry is = absurd (none-some entry is)
entry_behind (Some (syntax.ClassTree place own params implemented members)) entry is = record {
  place = place;
  own = own;
  params = params;
  implemented = implemented;
  members = members;
  is = refl;
}
entry_behind (Some declaration) entry is = absurd (none-some entry is)

module _ (program : ProgramTree) where
  -- The index of a class with a name.
  pub class_by_name : (name : Name) (params : List ParamTree) (members : List MemberTree)
      → (class : Class program.source.declarations name params members)
      → ClassIs program name class.taking.declaration
  class_by_name name params members class = record { taking = class.taking; named = class.named; is = refl }

  -- What is declared there.
  pub declared_by_name : (name : Name) (params : List ParamTree) (members : List MemberTree)
      → Class program.source.declarations name params members → (class : ℕ) → ClassIs program name class
      → (at : DeclaredAt (slice_get program.source.declarations class))
      × (at.params ≡ params) × (at.members ≡ members)
  declared_by_name name params members known class is =
      let same = same_Some is.taking known.taking (sym is.named ∙ known.named) in (
        record {
          place = known.place;
          own = known.own;
          params = params;
          implemented = known.implemented;
          members = members;
          is = ap (slice_get program.source.declarations) (sym is.is ∙ ap (λ taking. taking.declaration) same)
              ∙ known.there;
        },
        refl,
        refl,
      )

  -- A class by its index is one by its name.
  pub class_by_index : (name : Name) (class : ℕ) → ClassIs program name class
      → (at : DeclaredAt (slice_get program.source.declarations class))
      → Class program.source.declarations name at.params at.members
  class_by_index name class is at = record {
    taking = is.taking;
    named = is.named;
    place = at.place;
    own = at.own;
    implemented = at.implemented;
    there = ap (slice_get program.source.declarations) is.is ∙ at.is;
  }

  -- What has an entry is declared.
  pub declared_by_entry : (class : ℕ) (entry : ClassEntryTree)
      → class_entry program.source.declarations class ≡ Some entry
      → DeclaredAt (slice_get program.source.declarations class)
  unfolding class_entry
  declared_by_entry class entry is = entry_behind (slice_get program.source.declarations class) entry is

  -- The entry of a class.
  pub entry_is : (class : ℕ) (at : DeclaredAt (slice_get program.source.declarations class))
      → class_entry program.source.declarations class ≡ Some (record {
        params = length at.params;
        initials = initials_among at.members;
        run = run_among at.members;
      })
  unfolding class_entry
  entry_is class at = ap (option_and_then entry_of_class) at.is

  -- How many parameters it has.
  pub params_counted : (class : ℕ) (at : DeclaredAt (slice_get program.source.declarations class))
      → class_params program class ≡ length at.params
  params_counted class at = ap params_of_entry (entry_is class at)

module _ (program : ProgramTree) (terms : Terms) (are : AreTermsOf program terms) where
  -- A class that is declared has a contract.
  pub class_found : (class : ℕ) (at : DeclaredAt (slice_get program.source.declarations class))
      → FoundClass program.source (class_in program.names terms class) at.params at.members
  class_found class at =
      contract_found program.source (slice_get program.source.declarations class)
      (class_in program.names terms class) at (are.classes class)

  -- What has a contract is declared.
  pub declared_by_contract : (class : ℕ) (tree : ClassTree) → class_in program.names terms class ≡ Some tree
      → (at : DeclaredAt (slice_get program.source.declarations class))
      × IsClassContract program.source at.params at.members tree
  declared_by_contract class tree is =
      let at = declared_behind program.source (slice_get program.source.declarations class)
      (class_in program.names terms class) tree (are.classes class) is in
      let found = class_found class at in (
        at,
        subst (IsClassContract program.source at.params at.members) (same_Some found.tree tree (sym found.there ∙ is))
            found.contract,
      )

  module _ (name : Name) (class field : ℕ) (atom : Atom) (is : ClassIs program name class) where
    -- A field of a class that lets in an atom by the definition does so by the contract.
    pub field_lets_in : LetInField program name field atom → FieldLetsIn program terms class field atom
    field_lets_in let_in =
        let at = declared_by_name program name let_in.params let_in.members let_in.class_is class is in
        let found = class_found class at.0 in
        record {
          tree = found.tree;
          class_is = found.there;
          accepts = let_in.accepts;
          there = rw (found.contract.fields, at.1, at.2) let_in.there;
          let_in = let_in.let_in;
        }

    -- One that does so by the contract does so by the definition.
    pub let_in_field : FieldLetsIn program terms class field atom → LetInField program name field atom
    let_in_field lets_in =
        let at = declared_by_contract class lets_in.tree lets_in.class_is in
        record {
          params = at.0.params;
          members = at.0.members;
          class_is = class_by_index program name class is at.0;
          accepts = lets_in.accepts;
          there = rw (sym at.1.fields) lets_in.there;
          let_in = lets_in.let_in;
        }
