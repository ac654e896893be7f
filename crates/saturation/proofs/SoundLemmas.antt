-- All that is there by the contract is what the definition asks for.
--
--   `sound`                what rests on facts of a closed list by the contract is in the list
--   `sound_begins`         and what the initial values give of an object that a statement of a live kind makes
use Rattle.std.proofs.Common.{◌≡◌, ℕ, List, Contains, refl, sym, ap, subst, ◌∙◌}
use Rattle.abs_program.specs.Instructions.{InstructionTree, Makes, effect_of}
use Rattle.abs_tree.specs.Syntax.{ProgramTree}
use Rattle.abs_tree.specs.SyntaxPlaces.{statement_place}
use Rattle.contract_terms.specs.Asks.{IsClosedFor}
use Rattle.contract_terms.specs.KindBodies.{new_sign}
use Rattle.contract_terms.specs.ProgramTerms.{AreTermsOf}
use Rattle.contract_terms.specs.Terms.{TermTree}
use Rattle.contract_terms.specs.declared.fact.Atom.{Atom}
use Rattle.contract_terms.specs.declared.fact.Fact.{Fact}
use Rattle.contract_terms.specs.declared.fact.Fact.TheVariants.{Live, Field}
use Rattle.contract_terms.specs.declared.terms.Terms.{Terms}
use Rattle.name_bounding.specs.declared.kind.Kind.{Kind}
use Rattle.name_bounding.specs.declared.kind.Kind.TheVariants.{Method}
use Rattle.name_bounding.specs.declared.kind.Sign.{Sign}
use Rattle.saturation.proofs.GivenLemmas.{started_there, begun_there}
use Rattle.saturation.proofs.PlaceLemmas.{placed_by_term}
use Rattle.saturation.proofs.UsedLemmas.{Comes, slot_comes, field_comes, answer_comes, got_comes}
use Rattle.saturation.specs.Rows.{HasBody, Starts, Handles, Begins, InitialGives, MakesObject}
use Rattle.saturation.specs.Rows.Handles.{starts, passes, passes_field, begins, passes_answer, passes_result}
use Rattle.saturation.specs.Uses.{TermAt}
use Rattle.saturation.specs.declared.body.Body.{Body}

module _ (program : ProgramTree) (depth : ℕ) (terms : Terms) (are : AreTermsOf program terms) (list : List Fact)
    (closed : IsClosedFor program depth (Contains list)) where
  -- what a statement of a live kind passes on
  started : (kind : Kind) → Contains list (Live kind) → (own : Body) → HasBody program kind own
      → (index : ℕ) (instruction : InstructionTree) (term : TermTree)
      → TermAt program terms own index instruction term → (asked : Fact)
      → Starts program terms depth kind instruction term list asked → Contains list asked
  started kind live own has index instruction term at asked row =
      let there = placed_by_term program terms are kind own index instruction term has at in
      started_there program terms depth are list closed kind live own there.context index there.point term there.placed
      asked
      (subst (λ one. Starts program terms depth kind one term list asked) (sym there.same) row)

  -- what comes to a location of a live kind
  come_there : (kind : Kind) → Contains list (Live kind) → (atom : Atom) (asked : Fact)
      → Comes program terms depth kind list atom asked → Contains list asked
  come_there kind live atom asked comes =
      started kind live comes.own comes.has comes.place comes.instruction comes.term comes.at asked comes.row

  -- What rests on facts of a closed list by the contract is in the list.
  pub sound : (made : List (Sign × ℕ))
      → ((sign : Sign) (class : ℕ) → Contains made (sign, class) → (fact : Fact)
      → Begins program terms depth class sign list fact → Contains list fact)
      → (fact asked : Fact) → Contains list fact → Handles program terms depth made list fact asked
      → Contains list asked
  sound made begun _ _ there (starts kind own has index instruction term at asked row) =
      started kind there own has index instruction term at asked row
  sound made begun _ _ there (passes kind live slot atom asked comes) =
      come_there kind live atom asked (slot_comes program terms depth kind list atom asked slot comes there)
  sound made begun _ _ there (passes_field sign method live field atom asked comes) =
      come_there (Method sign method) live atom asked
      (field_comes program terms depth (Method sign method) list atom asked sign method refl field comes there)
  sound made begun _ _ there (begins sign class has name among class_is slot atom asked gives) =
      begun sign class has asked (record { slot = slot; atom = atom; held = there; gives = gives })
  sound made begun _ _ there (passes_answer sign method own live atom asked comes) =
      come_there (Method sign own) live atom asked
      (answer_comes program terms depth (Method sign own) list atom asked sign own refl method comes there)
  sound made begun _ _ there (passes_result task kind slot call holds live atom asked comes) =
      come_there kind live atom asked
      (got_comes program terms depth kind list atom asked call task slot comes holds there)

  -- What the initial values give of an object that a statement of a live kind makes is in the list.
  pub sound_begins : (kind : Kind) (sign : Sign) (class : ℕ) → Contains list (Live kind)
      → MakesObject program terms depth kind sign class → (fact : Fact)
      → Begins program terms depth class sign list fact → Contains list fact
  sound_begins kind sign class live makes fact begun =
      let there = placed_by_term program terms are kind makes.own makes.index makes.instruction makes.term makes.has
      makes.there in
      let effect_is : effect_of there.point.statement ≡ Makes makes.mode makes.name makes.target =
      ap (λ (one : InstructionTree). one.effect) there.same ∙ makes.makes in
      let sign_is : sign ≡ new_sign depth (statement_place there.point.statement).offset makes.mode kind =
      makes.sign_is ∙ ap (λ (one : InstructionTree). new_sign depth one.place makes.mode kind) (sym there.same) in
      begun_there program terms depth are list closed kind live makes.own there.context makes.index there.point
      makes.term there.placed makes.mode makes.name makes.target effect_is class makes.class_is begun.slot begun.atom
      (subst (λ one. Contains list (Field one begun.slot begun.atom)) sign_is begun.held) fact
      (subst (λ one. InitialGives program terms depth class one begun.slot begun.atom fact) sign_is begun.gives)
