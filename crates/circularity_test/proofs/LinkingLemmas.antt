-- Calls on `this` by the contracts of a program.
--
--   `leads_by_class`, `no_method_leads`, `no_class_leads`      in a class, by its methods
--   `leads_there`, `leads_nowhere`             in the classes that are made at a place
--   `reached_by_calls`, `calls_reach`          a kind is reached from another one of the same sign
use denote.Struct.Props as logic
use mathlib.Core.Logic.{∥∥₁_elim}
use Rattle.std.proofs.Common.{◌≡◌, ◌∙◌, ⊎_elim, ◌↔◌, ℕ, Bool, true, List, ◌+◌, ◌<◌, length, map, take, Contains, Some, None, refl, rules, sym, ap, subst}
use Rattle.std.proofs.Math.Bool.{Bool-set}
use Rattle.std.proofs.Math.Logic.{∥∥₁_map}
use Rattle.std.specs.Prelude.{get_or}
use Rattle.std.proofs.lemmas.List.{take_more}
use Rattle.std.proofs.lemmas.List.Elements.{Contains-push_cases}
use Rattle.std.proofs.lemmas.Option.{none-some, same_Some}
use Rattle.abs_program.specs.Members.{method_of}
use Rattle.abs_program.specs.NamedViews.{program_tree}
use Rattle.abs_program.specs.NameSpaces.{spaces_of}
use Rattle.abs_program.specs.Tables.{meaning_of}
use Rattle.abs_program.specs.declared.name_spaces.Taking.{Taking}
use Rattle.abs_tree.specs.Names.{name_of}
use Rattle.abs_tree.specs.Syntax.{Name, ProgramTree}
use Rattle.abs_tree.specs.declared.symbol.Symbol.{Symbol}
use Rattle.circularity_test.specs.Linking.{Leads, LeadsIn}
use Rattle.contract_terms.specs.Made.{classes_made}
use Rattle.contract_terms.specs.OwnCalls.{IsReached}
use Rattle.contract_terms.specs.PairLinks.{IsReachedByCalls}
use Rattle.contract_terms.specs.PairLinks.IsReachedByCalls.{itself, by_calls}
use Rattle.contract_terms.specs.ProgramTerms.{AreTermsOf}
use Rattle.contract_terms.specs.Views.{made_in, reached_in}
use Rattle.contract_terms.specs.declared.contracted.Contracted.{Contracted}
use Rattle.contract_terms.specs.declared.terms.Terms.{Terms}
use Rattle.name_bounding.specs.contracts.kind.KindPartialEq.TheImpl as kind_equality
use Rattle.name_bounding.specs.contracts.kind.SignPartialEq.TheImpl as sign_equality
use Rattle.name_bounding.specs.declared.kind.Kind.{Kind}
use Rattle.name_bounding.specs.declared.kind.Kind.TheVariants.{Method}
use Rattle.name_bounding.specs.declared.kind.Sign.{Sign}
use Rattle.saturation.proofs.ImageLemmas.{contains_map, contains_mapped}

module _ (program : ProgramTree) (name : Name) (one other : Symbol) where
  -- a class without a name leads nowhere
  pub no_class_leads : meaning_of (spaces_of program.source.declarations).classes name ≡ None
      → LeadsIn program name one other → ⊥
  no_class_leads none leads = none-some _ (sym none ∙ leads.class_is.named)

  module _ (taking : Taking) (named : meaning_of (spaces_of program.source.declarations).classes name ≡ Some taking)
    where
      -- the class is the one with the name
      class_of : (leads : LeadsIn program name one other) → leads.class ≡ taking.declaration
      class_of leads = sym leads.class_is.is
          ∙ ap (λ it. it.declaration) (same_Some leads.class_is.taking taking (sym leads.class_is.named ∙ named))

      -- a class without one of the methods leads nowhere
      pub no_first_leads : method_of program.source.declarations taking.declaration (name_of program.names one) ≡ None
          → LeadsIn program name one other → ⊥
      no_first_leads none leads = none-some leads.member
          (sym none
          ∙ (ap (λ class. method_of program.source.declarations class (name_of program.names one)) (sym (class_of
          leads))
          ∙ leads.member_is))

      pub no_second_leads : method_of program.source.declarations taking.declaration (name_of program.names other) ≡
          None
          → LeadsIn program name one other → ⊥
      no_second_leads none leads = none-some leads.reached
          (sym none
          ∙ (ap (λ class. method_of program.source.declarations class (name_of program.names other)) (sym (class_of
          leads))
          ∙ leads.reached_is))

      -- the contracts tell whether one method reaches the other
      pub leads_by_class : (terms : Terms) → ∥ AreTermsOf program terms ∥₁ → (member reached : ℕ)
          → method_of program.source.declarations taking.declaration (name_of program.names one) ≡ Some member
          → method_of program.source.declarations taking.declaration (name_of program.names other) ≡ Some reached
          → (reached_in terms taking.declaration member reached ≡ true) ↔ LeadsIn program name one other
      leads_by_class terms are member reached member_is reached_is = (
        (λ yes_it. record {
          class = taking.declaration;
          class_is = record { taking = taking; named = named; is = refl };
          member = member;
          member_is = member_is;
          reached = reached;
          reached_is = reached_is;
          leads = ∥∥₁_map are (λ it. (it.reached taking.declaration member reached).0 yes_it);
        }),
        (λ leads.
            let class = class_of leads in
            let first = same_Some leads.member member
            (sym leads.member_is
            ∙ (ap (λ it. method_of program.source.declarations it (name_of program.names one)) class ∙ member_is)) in
            let second = same_Some leads.reached reached
            (sym leads.reached_is
            ∙ (ap (λ it. method_of program.source.declarations it (name_of program.names other)) class ∙ reached_is)) in
            ∥∥₁_elim are (Bool-set _ _) (λ it.
            ∥∥₁_elim leads.leads (Bool-set _ _) (λ way.
            (it.reached taking.declaration member reached).1
            (subst (λ at. IsReached program.source taking.declaration member at) second
            (subst (λ at. IsReached program.source taking.declaration at leads.reached) first
            (subst (λ at. IsReached program.source at leads.member leads.reached) class way)))))),
      )

module _ (program : ProgramTree) (place : ℕ) (one another : Symbol) (classes : List Symbol)
    (made : map (name_of program.names) classes ≡ classes_made program.source place)
  where
    -- one class more does not lead there
    pub class_passed : (index : ℕ) → index < length classes → (class : Symbol)
        → ((other : Symbol) → Contains (take index classes) other
        → LeadsIn program (name_of program.names other) one another → ⊥)
        → (LeadsIn program (name_of program.names (get_or classes index class)) one another → ⊥)
        → (other : Symbol) → Contains (take (index + 1) classes) other
        → LeadsIn program (name_of program.names other) one another → ⊥
    class_passed index within class none last other inside leads = ⊎_elim
        (λ earlier. none other earlier leads)
        (λ same. last (subst (λ it. LeadsIn program (name_of program.names it) one another) (sym same) leads))
        (Contains-push_cases (take index classes) (get_or classes index class) other
        (subst (λ list. Contains list other) (take_more classes index class within) inside))

    -- a class that is made there leads there
    pub leads_there : (class : Symbol) → Contains classes class
        → LeadsIn program (name_of program.names class) one another
        → Leads program place one another
    leads_there class inside leads = record {
      name = name_of program.names class;
      made = subst (λ list. Contains list (name_of program.names class)) made
          (contains_map (name_of program.names) classes class inside);
      leads_in = leads;
    }

    -- no class leads there
    pub leads_nowhere : ((class : Symbol) → Contains classes class
        → LeadsIn program (name_of program.names class) one another → ⊥) → Leads program place one another → ⊥
    leads_nowhere none leads =
        let from = contains_mapped (name_of program.names) classes leads.name
        (subst (λ list. Contains list leads.name) (sym made) leads.made) in
        none from.0 from.1 (subst (λ name. LeadsIn program name one another) (sym from.2) leads.leads_in)

-- the class of which the methods are
reached_by_leads : (program : ProgramTree) (sign : Sign) (one other : Symbol) → Leads program sign.place one other
    → IsReachedByCalls program (Method sign one) (Method sign other)
reached_by_leads program sign one other leads =
    let it = leads.leads_in in
    by_calls sign one other it.class it.member it.reached
    (record {
      name = leads.name;
      made = leads.made;
      taking = it.class_is.taking;
      named = it.class_is.named;
      class_is = it.class_is.is;
      found = it.member_is;
    })
    (record {
      name = leads.name;
      made = leads.made;
      taking = it.class_is.taking;
      named = it.class_is.named;
      class_is = it.class_is.is;
      found = it.reached_is;
    })
    it.leads

-- A kind that is reached by calls is the same, or one of the same sign.
data ReachedAs (program : ProgramTree) : Kind → Kind → Type 0 where
  same_kind : (kind : Kind) → ReachedAs program kind kind
  same_sign : (sign : Sign) (one other : Symbol) → Leads program sign.place one other
      → ReachedAs program (Method sign one) (Method sign other)

reached_as : (program : ProgramTree) (from to : Kind) → IsReachedByCalls program from to → ReachedAs program from to
reached_as program from to (itself kind) = same_kind kind
reached_as program from to (by_calls sign one other class member reached begins ends leads) =
    same_sign sign one other (record {
      name = begins.name;
      made = begins.made;
      leads_in = record {
        class = class;
        class_is = record { taking = begins.taking; named = begins.named; is = begins.class_is };
        member = member;
        member_is = begins.found;
        reached = reached;
        reached_is = ends.found;
        leads = leads;
      };
    })

-- the classes made at a place, by the contracts of a program
pub made_there : (program : Contracted) (terms : Terms) → ∥ AreTermsOf (program_tree program.checked.named) terms ∥₁
    → (classes : List Symbol) (place : ℕ)
    → map (name_of program.checked.named.symbols) classes ≡ made_in program.checked.named.symbols terms place
    → map (name_of program.checked.named.symbols) classes
    ≡ classes_made (program_tree program.checked.named).source place
made_there program terms are classes place known =
    known ∙ ∥∥₁_elim are (Prim.hlevel logic.props) (λ it. it.made place)

-- different methods that are reached are of one sign, and calls lead there
leads_of_reached : (program : ProgramTree) (sign other_sign : Sign) (one other : Symbol)
    → (Method sign one ≡ Method other_sign other → ⊥)
    → ReachedAs program (Method sign one) (Method other_sign other) → Leads program sign.place one other
leads_of_reached program sign other_sign one other apart (same_kind kind) = absurd (apart refl)
leads_of_reached program sign other_sign one other apart (same_sign its_sign method next leads) = leads

module _ (program : ProgramTree) (from to : Kind) (sign other_sign : Sign) (one other : Symbol)
    (from_is : from ≡ Method sign one) (to_is : to ≡ Method other_sign other)
  where
    -- calls lead to another method of the same sign
    pub reached_where : sign ≡ other_sign → Leads program sign.place one other → IsReachedByCalls program from to
    reached_where same leads =
        subst (λ it. IsReachedByCalls program it to) (sym from_is)
        (subst (IsReachedByCalls program (Method sign one)) (sym to_is)
        (subst (λ it. IsReachedByCalls program (Method sign one) (Method it other)) same
        (reached_by_leads program sign one other leads)))

    -- a method that is reached is the same one, or calls lead there
    pub leads_where : (from ≡ to → ⊥) → IsReachedByCalls program from to → Leads program sign.place one other
    leads_where apart reached =
        leads_of_reached program sign other_sign one other (λ same. apart (from_is ∙ (same ∙ sym to_is)))
        (reached_as program (Method sign one) (Method other_sign other)
        (subst (IsReachedByCalls program (Method sign one)) to_is
        (subst (λ it. IsReachedByCalls program it to) from_is reached)))

-- the tests of kinds and signs in the code tell equal ones
abbrev pub kind_eq : Kind → Kind → Bool
kind_eq = (kind_equality.eq-value).it

pub kind_eq_reflexive : (one : Kind) → kind_eq one one ≡ true
kind_eq_reflexive one = search rules

pub kind_eq_same : (one other : Kind) → kind_eq one other ≡ true → one ≡ other
kind_eq_same one other reported = search rules

abbrev pub sign_eq : Sign → Sign → Bool
sign_eq = (sign_equality.eq-value).it

pub sign_eq_same : (one other : Sign) → sign_eq one other ≡ true → one ≡ other
sign_eq_same one other reported = search rules
