-- What initial values give, and what is let in.
--
--   `something_let_in`         what lets in an atom lets in something
--   `initial_gives`            what an initial value gives by the definition it gives by the contract
--   `BegunHere`, `initial_begins`      what it gives by the contract it gives by the definition
use Rattle.std.proofs.Common.{◌≡◌, ℕ, ◌+◌, true, refl, sym, ap, subst, ◌∙◌, length, arith}
use Rattle.std.proofs.lemmas.Bool.{false≢true, or_left, or_right}
use Rattle.std.proofs.lemmas.List.Folds.{list_any_none}
use Rattle.abs_program.specs.Bodies.{initials_among}
use Rattle.abs_tree.specs.Syntax.{Name, ProgramTree, SourceTree}
use Rattle.contract_terms.specs.Accepts.{ObjectsTree, NoObject, OfClass, Implementing, AllObjects, AcceptsTree}
use Rattle.contract_terms.specs.Asks.{LetInField, InitialReads}
use Rattle.contract_terms.specs.Atoms.{is_admitted, is_object_let_in, is_let_in}
use Rattle.contract_terms.specs.Made.{classes_made}
use Rattle.contract_terms.specs.ProgramTerms.{AreTermsOf}
use Rattle.contract_terms.specs.Reading.{AreReads}
use Rattle.contract_terms.specs.declared.fact.Atom.{Atom}
use Rattle.contract_terms.specs.declared.fact.Atom.TheVariants.{Object, Future}
use Rattle.contract_terms.specs.declared.fact.Fact.{Fact}
use Rattle.contract_terms.specs.declared.fact.Fact.TheVariants.{Field}
use Rattle.contract_terms.specs.declared.terms.Terms.{Terms}
use Rattle.name_bounding.specs.declared.kind.Sign.{Sign}
use Rattle.saturation.proofs.ClassLemmas.{declared_by_name, class_by_index, params_counted, class_found, declared_by_contract, field_lets_in, let_in_field}
use Rattle.saturation.proofs.ReadLemmas.{reads_found, expr_found}
use Rattle.saturation.specs.Rows.{ClassIs, FieldLetsIn, class_params, InitialGives}
use Rattle.saturation.specs.Uses.{lets_in_objects, lets_in_something}

-- what lets in an object lets in some
object_let_in : (source : SourceTree) (objects : ObjectsTree) (place : ℕ)
    → is_object_let_in source objects place ≡ true → lets_in_objects objects ≡ true
object_let_in source NoObject place is =
    absurd (false≢true (sym (list_any_none (is_admitted source.declarations NoObject) (classes_made source place)
    (λ k other below. refl)) ∙ is))
object_let_in source (OfClass class) place is = refl
object_let_in source (Implementing interface) place is = refl
object_let_in source AllObjects place is = refl

-- What lets in an atom lets in something.
pub something_let_in : (source : SourceTree) (accepts : AcceptsTree) (atom : Atom)
    → is_let_in source accepts atom ≡ true → lets_in_something accepts ≡ true
unfolding is_let_in
something_let_in source accepts (Object sign) is =
    or_left (lets_in_objects accepts.objects) accepts.futures
    (object_let_in source accepts.objects sign.place is)
something_let_in source accepts (Future call kind) is =
    or_right (lets_in_objects accepts.objects) accepts.futures is

module _ (program : ProgramTree) (terms : Terms) (depth : ℕ) (are : AreTermsOf program terms) where
  -- What an initial value gives by the definition it gives by the contract.
  pub initial_gives : (name : Name) (class : ℕ) → ClassIs program name class → (field slot : ℕ)
      → InitialReads program name field slot → (atom : Atom) → LetInField program name field atom → (sign : Sign)
      → InitialGives program terms depth class sign slot atom (Field sign field atom)
  initial_gives name class is field slot initial atom let_in sign =
      let at = declared_by_name program name initial.params initial.members initial.class_is class is in
      let found = class_found program terms are class at.0 in
      let reads = reads_found (initials_among initial.members) found.tree.initials initial.index initial.expr_tree
      (subst (λ members. AreReads (initials_among members) found.tree.initials) at.2 found.contract.initials)
      initial.there in
      let counted : class_params program class ≡ length initial.params =
      params_counted program class at.0 ∙ ap length at.1 in
      let field_is : field ≡ class_params program class + initial.index = omega (arith, initial.field_is, counted) in
      record {
        tree = found.tree;
        class_is = found.there;
        index = initial.index;
        reads = reads.reads;
        there = reads.there;
        is_read = (reads.is.slots slot).1 initial.reads;
        let_in = subst (λ (one : ℕ). FieldLetsIn program terms class one atom) field_is
            (field_lets_in program terms are name class field atom is let_in);
        is = ap (λ (one : ℕ). Field sign one atom) field_is;
      }

  -- What an initial value gives by the definition, and the fact.
  pub record BegunHere (name : Name) (sign : Sign) (slot : ℕ) (atom : Atom) (fact : Fact) : Type 0 where
    pub field : ℕ
    pub initial : InitialReads program name field slot
    pub let_in : LetInField program name field atom
    pub is : fact ≡ Field sign field atom

  -- What it gives by the contract it gives by the definition.
  pub initial_begins : (name : Name) (class : ℕ) → ClassIs program name class → (sign : Sign) (slot : ℕ) (atom : Atom)
      (fact : Fact) → InitialGives program terms depth class sign slot atom fact → BegunHere name sign slot atom fact
  initial_begins name class is sign slot atom fact gives =
      let at = declared_by_contract program terms are class gives.tree gives.class_is in
      let expr = expr_found (initials_among at.0.members) gives.tree.initials gives.index gives.reads at.1.initials
      gives.there in
      record {
        field = class_params program class + gives.index;
        initial = record {
          params = at.0.params;
          members = at.0.members;
          class_is = class_by_index program name class is at.0;
          index = gives.index;
          field_is = ap (λ (count : ℕ). count + gives.index) (params_counted program class at.0);
          expr_tree = expr.expr_tree;
          there = expr.there;
          reads = (expr.is.slots slot).0 gives.is_read;
        };
        let_in = let_in_field program terms are name class (class_params program class + gives.index) atom is
            gives.let_in;
        is = gives.is;
      }
