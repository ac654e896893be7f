-- Calls on `this` by the contracts of a program.
--
--   `context_there`            what is known in the body of a method of a class
--   `call_by_term`             each call on `this` is that of a term
use Rattle.std.proofs.Common.{◌≡◌, ◌∙◌, ℕ, zero, suc, ◌+◌, List, [], ◌∷◌, map, Contains, Some, slice_get, option_and_then, option_map, refl, sym, ap, subst}
use Rattle.std.proofs.Math.Logic.{∥∥₁_map}
use Rattle.std.proofs.lemmas.Option.{none-some, slice_get-map}
use Rattle.abs_program.specs.Control.{Point, program_points}
use Rattle.abs_program.specs.Instructions.{InstructionTree, effect_of, instruction_of, instructions}
use Rattle.abs_program.specs.ProgramBodies.{BodyAt, class_body, member_body}
use Rattle.abs_tree.specs.Syntax.{Statements, ParamTree, MemberTree, FieldTree, MethodTree, SignatureTree, DeclaredTree, DeclTree, ClassTree, DataTree, FunctionTree, InterfaceTree, ProgramTree}
use Rattle.abs_tree.specs.SyntaxSizes.{member_statements, decl_statements}
use Rattle.abs_tree.specs.declared.place.Place.{Place}
use Rattle.circularity_test.specs.Adding.{OfEach}
use Rattle.circularity_test.specs.Steps.{CallStep, TermStep, called_at, called_by}
use Rattle.circularity_test.specs.declared.parts.Part.{Part}
use Rattle.contract_terms.specs.BodyContexts.{BodyContext, method_context}
use Rattle.contract_terms.specs.ProgramTerms.{AreTermsOf}
use Rattle.contract_terms.specs.Views.{term_tree}
use Rattle.contract_terms.specs.declared.term.Term.{Term}
use Rattle.contract_terms.specs.declared.terms.Terms.{Terms}
use Rattle.name_bounding.specs.declared.kind.Sign.{Sign}
use Rattle.saturation.proofs.ImageLemmas.{at_contains, contains_mapped}
use Rattle.saturation.proofs.PlaceLemmas.{method_term}
use Rattle.saturation.specs.Uses.{body_terms}
use Rattle.saturation.specs.declared.body.Body.TheVariants as body

-- A class is declared at an index, and one of its members has a body.
record InClass (declarations : List DeclTree) (class member : ℕ) (own : BodyAt) : Type 0 where
  place : Place
  name : DeclaredTree
  params : List ParamTree
  implemented : List DeclaredTree
  members : List MemberTree
  there : slice_get declarations class ≡ Some (ClassTree place name params implemented members)
  start : ℕ
  body_is : member_body start members member ≡ Some own

class_there : (index : ℕ) (declarations : List DeclTree) (class member : ℕ) (own : BodyAt)
    → class_body index declarations class member ≡ Some own → InClass declarations class member own
class_there index [] class member own is = absurd (none-some own is)
class_there index (DataTree place name params constructors ∷ others) zero member own is = absurd (none-some own is)
class_there index (FunctionTree place result name type_params params value ∷ others) zero member own is =
    absurd (none-some own is)
class_there index (InterfaceTree place name extended signatures ∷ others) zero member own is =
    absurd (none-some own is)
class_there index (ClassTree place name params implemented members ∷ others) zero member own is = record {
  place = place;
  name = name;
  params = params;
  implemented = implemented;
  members = members;
  there = refl;
  start = index;
  body_is = is;
}
class_there index (first ∷ others) (suc class) member own is =
    let rest = class_there (index + decl_statements (first ∷ [])) others class member own is in
    record {
      place = rest.place;
      name = rest.name;
      params = rest.params;
      implemented = rest.implemented;
      members = rest.members;
      there = rest.there;
      start = rest.start;
      body_is = rest.body_is;
    }

-- A member with a body is a method.
record IsMethod (members : List MemberTree) (member : ℕ) : Type 0 where
  signature : SignatureTree
  end : Place
  statements : Statements
  there : slice_get members member ≡ Some (MethodTree signature end statements)

member_there : (start : ℕ) (members : List MemberTree) (member : ℕ) (own : BodyAt)
    → member_body start members member ≡ Some own → IsMethod members member
member_there start [] member own is = absurd (none-some own is)
member_there start (FieldTree type name initial ∷ others) zero own is = absurd (none-some own is)
member_there start (MethodTree signature end statements ∷ others) zero own is =
    record { signature = signature; end = end; statements = statements; there = refl }
member_there start (first ∷ others) (suc member) own is =
    let rest = member_there (start + member_statements (first ∷ [])) others member own is in
    record { signature = rest.signature; end = rest.end; statements = rest.statements; there = rest.there }

-- what is known in the body of a method of a class
pub context_there : (declarations : List DeclTree) (class member : ℕ) (own : BodyAt)
    → class_body 0 declarations class member ≡ Some own
    → (context : BodyContext) × (method_context declarations class member ≡ Some context) × (context.body ≡ own)
unfolding method_context
context_there declarations class member own is =
    let in_class = class_there 0 declarations class member own is in
    let method = member_there in_class.start in_class.members member own in_class.body_is in
    rw in_class.there (rw method.there (rw is (_, refl, refl)))

-- the method that a statement calls is by its effect
called_there : (program : ProgramTree) (class index : ℕ) (point : Point)
    → slice_get (program_points program.source) index ≡ Some point
    → called_at program class index ≡ called_by program.source.declarations class (effect_of point.statement)
unfolding instructions
called_there program class index point there =
    ap (option_and_then (λ (one : InstructionTree). called_by program.source.declarations class one.effect))
    (slice_get-map instruction_of (program_points program.source) index ∙ ap (option_map instruction_of) there)

module _ (program : ProgramTree) (terms : Terms) where
  -- a call on `this` is that of a term of the calling method
  term_there : AreTermsOf program terms → (class member : ℕ) (list : List Term)
      → map (term_tree program.names) list ≡ body_terms program.names terms (body.Method class member)
      → (sign : Sign) (edge : Part × Part) → CallStep program sign class member edge
      → OfEach (TermStep program sign class member) list edge
  term_there are class member list same sign edge step =
      let calls = step.calls in
      let known = context_there program.source.declarations class member calls.body calls.body_is in
      let placed = method_term program terms are class member known.0 known.1 calls.index
      (rw known.2 calls.inside) calls.point calls.there (rw calls.calls refl) in
      let from = contains_mapped (term_tree program.names) list placed.term
      (subst (λ all. Contains all placed.term) (sym same) (at_contains _ placed.place placed.term placed.there)) in
      let index_is : from.0.index ≡ calls.index = ap (λ it. it.index) from.2 ∙ placed.index_is in
      record {
        from = from.0;
        inside = from.1;
        is = record {
          other = step.other;
          calls = ap (called_at program class) index_is
              ∙ (called_there program class calls.index calls.point calls.there
              ∙ (ap (called_by program.source.declarations class) calls.calls ∙ calls.method_is));
          is = step.is;
        };
      }

  -- each call on `this` is that of a term
  pub call_by_term : ∥ AreTermsOf program terms ∥₁ → (class member : ℕ) (list : List Term)
      → map (term_tree program.names) list ≡ body_terms program.names terms (body.Method class member)
      → (sign : Sign) (edge : Part × Part) → CallStep program sign class member edge
      → ∥ OfEach (TermStep program sign class member) list edge ∥₁
  call_by_term are class member list same sign edge step =
      ∥∥₁_map are (λ it. term_there it class member list same sign edge step)
