-- What a statement passes on by the contract the definition asks for.
--
--   `started_there`            what a live statement passes on is among the facts
--   `begun_there`              and what an initial value of a new object gives
use Rattle.std.proofs.Common.{◌≡◌, ℕ, suc, ◌+◌, true, List, [], ◌∷◌, ◌++◌, Contains, Some, sym, ap, subst, ◌∙◌, arith, length}
use Rattle.std.specs.Prelude.{Option, codes, slice_get}
use Rattle.std.proofs.lemmas.Option.{same_Some}
use Rattle.abs_program.specs.Bodies.{ClassEntryTree, initials_among, run_among, class_entry}
use Rattle.abs_program.specs.Control.{Point}
use Rattle.abs_program.specs.Instructions.{EffectTree, Makes, Sends, effect_of, expr_trees_of, instruction_of}
use Rattle.abs_tree.specs.Syntax.{Name, VariableTree, ProgramTree}
use Rattle.abs_tree.specs.SyntaxPlaces.{statement_place}
use Rattle.abs_tree.specs.declared.syntax.statement.Mode.{Mode}
use Rattle.contract_terms.specs.Accepts.{accepts_of}
use Rattle.contract_terms.specs.Asks.{AsksFor, IsActive, IsClosedFor}
use Rattle.contract_terms.specs.Asks.AsksFor.{assigned, makes, fills, begins, starts, calls, passes, answers, calls_own, passes_own, answers_own, gets, returns}
use Rattle.contract_terms.specs.Asks.Rests.{asked_by}
use Rattle.contract_terms.specs.Atoms.{AtomAt, held_by, is_let_in, is_object_let_in}
use Rattle.contract_terms.specs.BodyContexts.{BodyContext}
use Rattle.contract_terms.specs.Derived.{AllHold}
use Rattle.contract_terms.specs.KindBodies.{called, new_sign}
use Rattle.contract_terms.specs.ProgramTerms.{AreTermsOf}
use Rattle.contract_terms.specs.Reading.{ReadsTree}
use Rattle.contract_terms.specs.Terms.{TermTree, first_receivers, receiver_in, target_of, target_type}
use Rattle.contract_terms.specs.declared.fact.Atom.{Atom}
use Rattle.contract_terms.specs.declared.fact.Atom.TheVariants.{Object, Future}
use Rattle.contract_terms.specs.declared.fact.Fact.{Fact}
use Rattle.contract_terms.specs.declared.fact.Fact.TheVariants.{Live, Holds, Field, Gives}
use Rattle.contract_terms.specs.declared.terms.Terms.{Terms}
use Rattle.name_bounding.specs.declared.kind.Kind.{Kind}
use Rattle.name_bounding.specs.declared.kind.Sign.{Sign}
use Rattle.saturation.proofs.BodyLemmas.{let_in_param}
use Rattle.saturation.proofs.ClassLemmas.{class_by_index, declared_by_entry, entry_is, let_in_field}
use Rattle.saturation.proofs.InitialLemmas.{initial_begins}
use Rattle.saturation.proofs.PlaceLemmas.{Placed}
use Rattle.saturation.proofs.ReadLemmas.{expr_found, atom_given}
use Rattle.saturation.proofs.SelectLemmas.{held_together}
use Rattle.saturation.specs.Rows.{ClassIs, GivesAtom, Receives, Received, Arrives, Starts, InitialGives}
use Rattle.saturation.specs.Rows.Arrives.{stores as arrival_stores, returns as arrival_returns, fills as arrival_fills, passes_own as arrival_passes_own, receives as arrival_receives, passes as arrival_passes}
use Rattle.saturation.specs.Rows.Received.{calls as received_calls, answers as received_answers, passes as received_passes}
use Rattle.saturation.specs.Rows.Starts.{makes as start_makes, runs as start_runs, calls_own as start_calls_own, answers_own as start_answers_own, gets as start_gets, arrives as start_arrives}
use Rattle.saturation.specs.declared.body.Body.{Body}

module _ (program : ProgramTree) (terms : Terms) (depth : ℕ) (are : AreTermsOf program terms) (list : List Fact)
    (closed : IsClosedFor program depth (Contains list)) (kind : Kind) (live : Contains list (Live kind)) (own : Body)
    (context : BodyContext) (place : ℕ) (point : Point) (term : TermTree)
    (placed : Placed program terms kind own context place point term) where
  -- what the definition asks for is among the facts
  asked_there : (premises : List Fact) (asked : Fact)
      → AsksFor program depth kind context (statement_place point.statement).offset (effect_of point.statement)
      (expr_trees_of point.statement) premises asked
      → AllHold (Contains list) premises → Contains list asked
  asked_there premises asked asks hold =
      closed (Live kind ∷ premises) asked
      (asked_by kind term.index premises asked (record {
        here = record {
          context = context;
          body_is = placed.body_is;
          inside = placed.inside;
          point = point;
          there = placed.there;
        };
        asked = asks;
      }))
      (live, hold)

  -- an atom of an expression, with the facts from which it comes
  record FoundHere (expr : ℕ) (atom : Atom) : Type 0 where
    premises : List Fact
    at : AtomAt kind (expr_trees_of point.statement) expr premises atom
    hold : AllHold (Contains list) premises

  -- an atom that an expression gives by the contract is one by the definition
  found_here : (expr : ℕ) (reads : ReadsTree) → slice_get term.reads expr ≡ Some reads → (atom : Atom)
      → GivesAtom kind reads list atom → FoundHere expr atom
  found_here expr reads there atom gives =
      let at = expr_found (expr_trees_of point.statement) term.reads expr reads placed.is.reads there in
      let found = atom_given kind list at.expr_tree reads at.is atom gives in
      record {
        premises = found.premises;
        at = record { expr_tree = at.expr_tree; there = at.there; atom_of = found.atom_of };
        hold = found.hold;
      }

  -- what is let in by the term is let in by the definition
  let_in_here : (atom : Atom) → is_let_in program.source term.accepts atom ≡ true
      → is_let_in program.source
      (accepts_of program.source.declarations (target_type context (effect_of point.statement))) atom ≡ true
  let_in_here atom let_in = subst (λ accepts. is_let_in program.source accepts atom ≡ true) placed.is.accepts let_in

  -- the target of an effect
  held_here : (effect : EffectTree) → effect_of point.statement ≡ effect → (atom : Atom) (asked : Fact)
      → held_by kind (target_of effect) atom ≡ Some asked
      → held_by kind (target_of (effect_of point.statement)) atom ≡ Some asked
  held_here effect is atom asked held = subst (λ one. held_by kind (target_of one) atom ≡ Some asked) (sym is) held

  -- the receiver of a message by the definition
  receiver_let_in : (method : Name) (target : Option VariableTree) → effect_of point.statement ≡ Sends method target
      → (sign : Sign) → Receives program term sign
      → is_object_let_in program.source
      (first_receivers program.source.declarations context (expr_trees_of point.statement)) sign.place ≡ true
  receiver_let_in method target is sign receives =
      let objects = first_receivers program.source.declarations context (expr_trees_of point.statement) in
      let same = same_Some receives.objects objects
      (sym receives.receiver ∙ (placed.is.receiver
      ∙ ap (λ effect. receiver_in program.source.declarations context effect (expr_trees_of point.statement)) is)) in
      subst (λ one. is_object_let_in program.source one sign.place ≡ true) same receives.let_in

  -- what rests on a receiver
  received_there : (method : Name) (target : Option VariableTree) → effect_of point.statement ≡ Sends method target
      → (sign : Sign) → FoundHere 0 (Object sign) → Receives program term sign → (asked : Fact)
      → Received program terms depth kind (instruction_of point) term method target sign list asked
      → Contains list asked
  received_there method target is sign first receives _ received_calls =
      asked_there first.premises (Live (called program.names sign method))
      (calls method target is first.premises sign (first.at, receiver_let_in method target is sign receives))
      first.hold
  received_there method target is sign first receives _ (received_answers asked held) =
      asked_there first.premises asked
      (answers method target is first.premises sign (first.at, receiver_let_in method target is sign receives) asked
      (held_here (Sends method target) is
      (Future (statement_place point.statement).offset (called program.names sign method)) asked held))
      first.hold
  received_there method target is sign first receives _ (received_passes argument reads there atom gives lets_in) =
      let next : suc argument ≡ argument + 1 = omega arith in
      let found = found_here (argument + 1) reads
      (subst (λ (one : ℕ). slice_get term.reads one ≡ Some reads) next there) atom gives in
      asked_there (first.premises ++ found.premises) (Holds (called program.names sign method) argument atom)
      (passes method target is first.premises sign (first.at, receiver_let_in method target is sign receives) argument
      found.premises atom found.at
      (let_in_param program terms are (called program.names sign method) argument atom lets_in))
      (held_together (Contains list) first.premises found.premises first.hold found.hold)

  -- what rests on an atom of an expression
  arrived_there : (expr : ℕ) (atom : Atom) → FoundHere expr atom → (asked : Fact)
      → Arrives program terms depth kind (instruction_of point) term expr atom list asked → Contains list asked
  arrived_there expr atom found _ (arrival_stores target is asked answer) =
      asked_there found.premises asked
      (assigned target is expr found.premises atom found.at (let_in_here atom answer.let_in) asked answer.held)
      found.hold
  arrived_there expr atom found _ (arrival_returns is let_in) =
      asked_there found.premises (Gives kind atom)
      (returns is expr found.premises atom found.at (let_in_here atom let_in)) found.hold
  arrived_there expr atom found _ (arrival_fills mode name target is class class_is lets_in) =
      asked_there found.premises
      (Field (new_sign depth (statement_place point.statement).offset mode kind) expr atom)
      (fills mode name target is expr found.premises atom found.at
      (let_in_field program terms are name class expr atom class_is lets_in)) found.hold
  arrived_there expr atom found _ (arrival_passes_own method target is sign now kind_is lets_in) =
      asked_there found.premises (Holds (called program.names sign method) expr atom)
      (passes_own method target is sign now kind_is expr found.premises atom found.at
      (let_in_param program terms are (called program.names sign method) expr atom lets_in)) found.hold
  arrived_there expr atom found _ (arrival_receives method target is expr_is sign atom_is receives asked received) =
      received_there method target is sign
      (subst (λ (one : ℕ). FoundHere one (Object sign)) expr_is (subst (λ one. FoundHere expr one) atom_is found))
      receives asked received
  arrived_there expr atom found _ (arrival_passes method target is argument expr_is sign receiver lets_in) =
      let first = found_here 0 receiver.reads receiver.first (Object sign) receiver.gives in
      let next : expr ≡ argument + 1 = omega (arith, expr_is) in
      let here = subst (λ (one : ℕ). FoundHere one atom) next found in
      asked_there (first.premises ++ here.premises) (Holds (called program.names sign method) argument atom)
      (passes method target is first.premises sign
      (first.at, receiver_let_in method target is sign receiver.receives) argument here.premises atom here.at
      (let_in_param program terms are (called program.names sign method) argument atom lets_in))
      (held_together (Contains list) first.premises here.premises first.hold here.hold)

  -- a class that runs at once is active
  active_there : (name : Name) (class : ℕ) → ClassIs program name class → (entry : ClassEntryTree)
      → class_entry program.source.declarations class ≡ Some entry → (member : ℕ) → entry.run ≡ Some member
      → IsActive program name
  active_there name class class_is entry there member runs =
      let at = declared_by_entry program class entry there in
      let own_entry : ClassEntryTree =
      record { params = length at.params; initials = initials_among at.members; run = run_among at.members } in
      record {
        params = at.params;
        members = at.members;
        class_is = class_by_index program name class class_is at;
        member = member;
        runs = ap (λ (one : ClassEntryTree). one.run)
            (same_Some own_entry entry (sym (entry_is program class at) ∙ there)) ∙ runs;
      }

  -- What a live statement passes on is among the facts.
  pub started_there : (asked : Fact) → Starts program terms depth kind (instruction_of point) term list asked
      → Contains list asked
  started_there _ (start_makes mode name target is asked held) =
      asked_there [] asked
      (makes mode name target is asked
      (held_here (Makes mode name target) is
      (Object (new_sign depth (statement_place point.statement).offset mode kind)) asked held))
      tt
  started_there _ (start_runs mode name target is class class_is entry there member runs) =
      asked_there []
      (Live (called program.names (new_sign depth (statement_place point.statement).offset mode kind) (codes "run")))
      (starts mode name target is (active_there name class class_is entry there member runs)) tt
  started_there _ (start_calls_own method target is sign now kind_is) =
      asked_there [] (Live (called program.names sign method)) (calls_own method target is sign now kind_is) tt
  started_there _ (start_answers_own method target is sign now kind_is atom there asked answer) =
      asked_there (Gives (called program.names sign method) atom ∷ []) asked
      (answers_own method target is sign now kind_is atom (let_in_here atom answer.let_in) asked answer.held)
      (there, tt)
  started_there _ (start_gets slot target is call task holds atom gives asked answer) =
      asked_there (Holds kind slot (Future call task) ∷ Gives task atom ∷ []) asked
      (gets slot target is call task atom (let_in_here atom answer.let_in) asked answer.held) (holds, (gives, tt))
  started_there _ (start_arrives expr reads there atom gives asked comes) =
      arrived_there expr atom (found_here expr reads there atom gives) asked comes

  -- What an initial value of a new object gives is among the facts.
  pub begun_there : (mode : Mode) (name : Name) (target : Option VariableTree)
      → effect_of point.statement ≡ Makes mode name target → (class : ℕ) → ClassIs program name class
      → (slot : ℕ) (atom : Atom)
      → Contains list (Field (new_sign depth (statement_place point.statement).offset mode kind) slot atom)
      → (asked : Fact)
      → InitialGives program terms depth class
      (new_sign depth (statement_place point.statement).offset mode kind) slot atom asked
      → Contains list asked
  begun_there mode name target is class class_is slot atom held asked gives =
      let sign = new_sign depth (statement_place point.statement).offset mode kind in
      let begun = initial_begins program terms depth are name class class_is sign slot atom asked gives in
      subst (Contains list) (sym begun.is)
      (asked_there (Field sign slot atom ∷ []) (Field sign begun.field atom)
      (begins mode name target is begun.field slot begun.initial atom begun.let_in) (held, tt))
