-- What the parts of a program give to the pairs.
--
--   `found_slot`, `slot_waits`                 a slot that is there, and the pairs of one that is not settled
--   `gets_waits`, `awaits_waits`, `nothing_waits`      a statement, by its effect
--   `term_waits`, `no_term_waits`              a term, by its instruction
--   `class_waits`, `no_class_waits`            a method of a class, and where there is none
--   `main_waits`, `methods_wait`               a kind
--   `live_waits`, `others_wait`                a fact
use Rattle.std.proofs.Common.{◌≡◌, ◌∙◌, ⊎_elim, ℕ, true, List, [], ◌∷◌, map, Contains, Some, None, ◌↔◌, refl, sym, ap, subst, arith, nat_eq, eq-eqb}
use Rattle.std.specs.List.{flat_map, list_any}
use Rattle.std.specs.Prelude.{Option, slice_get, option_to_list}
use Rattle.std.proofs.lemmas.Bool.{or_left, or_right}
use Rattle.std.proofs.lemmas.List.Elements.{Contains-append_cases, Contains-append_left, Contains-append_right}
use Rattle.std.proofs.lemmas.Option.{none-some, same_Some}
use Rattle.abs_program.specs.Instructions.{Awaits, Gets, InstructionTree, instructions}
use Rattle.abs_tree.specs.Names.{name_of}
use Rattle.abs_tree.specs.Syntax.{Name, ProgramTree, VariableTree}
use Rattle.abs_tree.specs.declared.symbol.Symbol.{Symbol}
use Rattle.circularity_test.proofs.AddingLemmas.{adds_as, adds_none}
use Rattle.circularity_test.specs.Adding.{Adds, OfEach}
use Rattle.circularity_test.specs.Finding.{BodyOf, FutureHeld, SlotWaits, StatementWaits, TermWaits, ClassWaits, KindWaits, LiveWaits}
use Rattle.circularity_test.specs.Finding.BodyOf.{of_main, of_method}
use Rattle.circularity_test.specs.declared.finding.Waiting.{Waiting}
use Rattle.contract_terms.specs.Pairs.{mode_of}
use Rattle.contract_terms.specs.Settled.{named_slots}
use Rattle.contract_terms.specs.Terms.{TermTree}
use Rattle.contract_terms.specs.Views.{made_in}
use Rattle.contract_terms.specs.declared.fact.Atom.TheVariants.{Future}
use Rattle.contract_terms.specs.declared.fact.Fact.{Fact}
use Rattle.contract_terms.specs.declared.fact.Fact.TheVariants.{Live, Holds}
use Rattle.contract_terms.specs.declared.pair.Mode.TheVariants.{Get, Await}
use Rattle.contract_terms.specs.declared.pair.Pair.{Pair}
use Rattle.contract_terms.specs.declared.terms.Terms.{Terms}
use Rattle.list_facts.proofs.AllLemmas.{Contains-head_or_tail}
use Rattle.name_bounding.specs.declared.kind.Kind.{Kind}
use Rattle.name_bounding.specs.declared.kind.Kind.TheVariants.{Main, Method}
use Rattle.name_bounding.specs.declared.kind.Sign.{Sign}
use Rattle.saturation.proofs.ImageLemmas.{contains_map, contains_mapped}
use Rattle.saturation.specs.Rows.{MethodIs}
use Rattle.saturation.specs.Uses.{body_terms}
use Rattle.saturation.specs.declared.body.Body.{Body}
use Rattle.saturation.specs.declared.body.Body.TheVariants as body

-- a slot is among those of an option
in_option : (named : Option ℕ) (slot : ℕ) → Contains (option_to_list named) slot → named ≡ Some slot
in_option None slot there = absurd (omega (arith, there.1))
in_option (Some named) slot there = ⊎_elim (λ same. ap Some same) (λ none. absurd (omega (arith, none.1)))
    (Contains-head_or_tail named [] slot there)

option_has : (named : Option ℕ) (slot : ℕ) → named ≡ Some slot → Contains (option_to_list named) slot
option_has named slot is = subst (λ it. Contains (option_to_list it) slot) (sym is) (0, omega arith, refl)

-- a slot is among those that the parts of an `await` name
in_parts : (parts : List (Option ℕ)) (slot : ℕ) → Contains (flat_map option_to_list parts) slot
    → Contains parts (Some slot)
in_parts [] slot there = absurd (omega (arith, there.1))
in_parts (first ∷ others) slot there = ⊎_elim
    (λ here. subst (Contains (first ∷ others)) (in_option first slot here) (0, omega arith, refl))
    (λ later. Contains-append_right (first ∷ []) others (Some slot) (in_parts others slot later))
    (Contains-append_cases (option_to_list first) (flat_map option_to_list others) slot there)

parts_have : (parts : List (Option ℕ)) (slot : ℕ) → Contains parts (Some slot)
    → Contains (flat_map option_to_list parts) slot
parts_have [] slot there = absurd (omega (arith, there.1))
parts_have (first ∷ others) slot there = ⊎_elim
    (λ same. Contains-append_left (option_to_list first) (flat_map option_to_list others) slot
    (option_has first slot same))
    (λ later. Contains-append_right (option_to_list first) (flat_map option_to_list others) slot
    (parts_have others slot later))
    (Contains-head_or_tail first others (Some slot) there)

-- a search finds a slot that is there
pub found_slot : (slots : List ℕ) (slot : ℕ) → Contains slots slot → list_any (λ other. nat_eq other slot) slots ≡ true
found_slot [] slot there = absurd (omega (arith, there.1))
found_slot (first ∷ others) slot there = ⊎_elim
    (λ same. or_left (nat_eq first slot) (list_any (λ other. nat_eq other slot) others) (eq-eqb first slot same))
    (λ later. or_right (nat_eq first slot) (list_any (λ other. nat_eq other slot) others) (found_slot others slot
    later))
    (Contains-head_or_tail first others slot there)

-- the pairs of a slot that is not settled
pub slot_waits : (facts : List Fact) (waiting : Waiting) (settled : List ℕ) (named : Option ℕ) (slot : ℕ)
    → named ≡ Some slot → (Contains settled slot → ⊥) → {before now : List Pair}
    → Adds (FutureHeld facts waiting slot) before now → Adds (SlotWaits facts waiting settled named) before now
slot_waits facts waiting settled named slot is unsettled added = adds_as added
    (λ pair held. record { slot = slot; is = is; unsettled = unsettled; held = held })
    (λ pair waits. subst (λ it. FutureHeld facts waiting it pair) (same_Some waits.slot slot (sym waits.is ∙ is))
    waits.held)

module _ (facts : List Fact) (kind : Kind) (instruction : InstructionTree) (settled : List ℕ) where
  -- the pairs of a statement that waits are those of the slots that it names
  statement_of_slot : (waiting : Waiting) → waiting.kind.now ≡ kind → waiting.place ≡ instruction.place
      → mode_of instruction.effect ≡ Some waiting.mode
      → (named : Option ℕ) → ((slot : ℕ) → named ≡ Some slot → Contains (named_slots instruction.effect) slot)
      → (pair : Pair) → SlotWaits facts waiting settled named pair
      → StatementWaits facts kind instruction settled pair
  statement_of_slot waiting kinds places modes named names pair waits =
      let by = waits.held.pair_by in
      record {
        source_is = by.source_is ∙ kinds;
        place_is = by.place_is ∙ places;
        mode_is = modes ∙ ap Some (sym by.mode_is);
        slot = waits.slot;
        named = names waits.slot waits.is;
        unsettled = waits.unsettled;
        held = subst (λ it. Contains facts (Holds it waits.slot (Future pair.call pair.target))) kinds
            (subst (Contains facts) by.fact_is waits.held.known);
      }

  slot_of_statement : (waiting : Waiting) → waiting.kind.now ≡ kind → waiting.place ≡ instruction.place
      → mode_of instruction.effect ≡ Some waiting.mode
      → (pair : Pair) (waits : StatementWaits facts kind instruction settled pair)
      → SlotWaits facts waiting settled (Some waits.slot) pair
  slot_of_statement waiting kinds places modes pair waits = record {
    slot = waits.slot;
    is = refl;
    unsettled = waits.unsettled;
    held = record {
      fact = Holds kind waits.slot (Future pair.call pair.target);
      known = waits.held;
      pair_by = record {
        place_is = waits.place_is ∙ sym places;
        mode_is = same_Some pair.mode waiting.mode (sym waits.mode_is ∙ modes);
        source_is = waits.source_is ∙ sym kinds;
        fact_is = ap (λ it. Holds it waits.slot (Future pair.call pair.target)) (sym kinds);
      };
    };
  }

  -- a `get`
  pub gets_waits : {before now : List Pair} (waiting : Waiting) → waiting.kind.now ≡ kind
      → waiting.place ≡ instruction.place
      → waiting.mode ≡ Get → (named : Option ℕ) (target : Option VariableTree)
      → instruction.effect ≡ Gets named target → Adds (SlotWaits facts waiting settled named) before now
      → Adds (StatementWaits facts kind instruction settled) before now
  gets_waits waiting kinds places mode named target effect added =
      let modes : mode_of instruction.effect ≡ Some waiting.mode = ap mode_of effect ∙ ap Some (sym mode) in
      adds_as added
      (λ pair waits. statement_of_slot waiting kinds places modes named
      (λ slot is. subst (λ it. Contains (named_slots it) slot) (sym effect) (option_has named slot is)) pair waits)
      (λ pair waits.
      subst (λ it. SlotWaits facts waiting settled it pair)
      (sym (in_option named waits.slot (subst (λ it. Contains (named_slots it) waits.slot) effect waits.named)))
      (slot_of_statement waiting kinds places modes pair waits))

  -- an `await`
  pub awaits_waits : {before now : List Pair} (waiting : Waiting) → waiting.kind.now ≡ kind
      → waiting.place ≡ instruction.place
      → waiting.mode ≡ Await → (parts : List (Option ℕ)) → instruction.effect ≡ Awaits parts
      → Adds (OfEach (SlotWaits facts waiting settled) parts) before now
      → Adds (StatementWaits facts kind instruction settled) before now
  awaits_waits waiting kinds places mode parts effect added =
      let modes : mode_of instruction.effect ≡ Some waiting.mode = ap mode_of effect ∙ ap Some (sym mode) in
      adds_as added
      (λ pair each. statement_of_slot waiting kinds places modes each.from
      (λ slot is. subst (λ it. Contains (named_slots it) slot) (sym effect)
      (parts_have parts slot (subst (Contains parts) is each.inside))) pair each.is)
      (λ pair waits. record {
        from = Some waits.slot;
        inside = in_parts parts waits.slot (subst (λ it. Contains (named_slots it) waits.slot) effect waits.named);
        is = slot_of_statement waiting kinds places modes pair waits;
      })

  -- another statement
  pub nothing_waits : {before now : List Pair} → mode_of instruction.effect ≡ None → now ≡ before
      → Adds (StatementWaits facts kind instruction settled) before now
  nothing_waits none same = adds_none same (λ pair waits. none-some _ (sym none ∙ waits.mode_is))

module _ (program : ProgramTree) (facts : List Fact) (kind : Kind) {before now : List Pair} where
  -- the pairs of a term are those of its statement
  pub term_waits : (term : TermTree) (instruction : InstructionTree)
      → slice_get (instructions program.source) term.index ≡ Some instruction
      → Adds (StatementWaits facts kind instruction term.settled) before now
      → Adds (TermWaits program facts kind term) before now
  term_waits term instruction there added = adds_as added
      (λ pair waits. record { instruction = instruction; there = there; waits = waits })
      (λ pair waits. subst (λ it. StatementWaits facts kind it term.settled pair)
      (same_Some waits.instruction instruction (sym waits.there ∙ there)) waits.waits)

  -- a term without a statement has none
  pub no_term_waits : (term : TermTree) → slice_get (instructions program.source) term.index ≡ None → now ≡ before
      → Adds (TermWaits program facts kind term) before now
  no_term_waits term none same = adds_none same (λ pair waits. none-some _ (sym none ∙ waits.there))

-- the body of main
own_main : (program : ProgramTree) (terms : Terms) (own : Body) → BodyOf program terms Main own → own ≡ body.Main
own_main program terms own of_main = refl

-- A method with a name of a class of which objects are made at a place, with a body.
record OwnMethod (program : ProgramTree) (terms : Terms) (place : ℕ) (method : Symbol) (own : Body) : Type 0 where
  class : Name
  made : Contains (made_in program.names terms place) class
  is : MethodIs program class (name_of program.names method) own

own_method : (program : ProgramTree) (terms : Terms) (sign : Sign) (method : Symbol) (own : Body)
    → BodyOf program terms (Method sign method) own → OwnMethod program terms sign.place method own
own_method program terms sign method own (of_method same_sign same_method class same_own made is) =
    record { class = class; made = made; is = is }

live_kind : Fact → Option Kind
live_kind (Live kind) = Some kind
live_kind _ = None

module _ (program : ProgramTree) (terms : Terms) (facts : List Fact) {before now : List Pair} where
  -- the pairs of a method of a class
  pub class_waits : (kind : Kind) (method class : Symbol) (own : Body)
      → ((other : Body) → (Some own ≡ Some other)
      ↔ MethodIs program (name_of program.names class) (name_of program.names method) other)
      → Adds (OfEach (TermWaits program facts kind) (body_terms program.names terms own)) before now
      → Adds (ClassWaits program terms facts kind method class) before now
  class_waits kind method class own found added = adds_as added
      (λ pair waits. record { own = own; is = (found own).0 refl; waits = waits })
      (λ pair waits. subst (λ it. OfEach (TermWaits program facts kind) (body_terms program.names terms it) pair)
      (sym (same_Some own waits.own ((found waits.own).1 waits.is))) waits.waits)

  -- a class without the method
  pub no_class_waits : (kind : Kind) (method class : Symbol)
      → ((other : Body) → (None ≡ Some other)
      ↔ MethodIs program (name_of program.names class) (name_of program.names method) other)
      → now ≡ before → Adds (ClassWaits program terms facts kind method class) before now
  no_class_waits kind method class found same =
      adds_none same (λ pair waits. none-some waits.own ((found waits.own).1 waits.is))

  -- the pairs of main
  pub main_waits : (kind : Kind) → kind ≡ Main
      → Adds (OfEach (TermWaits program facts kind) (body_terms program.names terms body.Main)) before now
      → Adds (KindWaits program terms facts kind) before now
  main_waits kind is added = adds_as added
      (λ pair each. record {
        own = body.Main;
        has = subst (λ it. BodyOf program terms it body.Main) (sym is) of_main;
        waits = each;
      })
      (λ pair waits. subst (λ it. OfEach (TermWaits program facts kind) (body_terms program.names terms it) pair)
      (own_main program terms waits.own (subst (λ it. BodyOf program terms it waits.own) is waits.has)) waits.waits)

  -- the pairs of a method
  pub methods_wait : (kind : Kind) (sign : Sign) (method : Symbol) → kind ≡ Method sign method
      → (classes : List Symbol) → map (name_of program.names) classes ≡ made_in program.names terms sign.place
      → Adds (OfEach (ClassWaits program terms facts kind method) classes) before now
      → Adds (KindWaits program terms facts kind) before now
  methods_wait kind sign method is classes made added = adds_as added
      (λ pair each. record {
        own = each.is.own;
        has = subst (λ it. BodyOf program terms it each.is.own) (sym is)
            (of_method sign method (name_of program.names each.from) each.is.own
            (subst (λ list. Contains list (name_of program.names each.from)) made
            (contains_map (name_of program.names) classes each.from each.inside)) each.is.is);
        waits = each.is.waits;
      })
      (λ pair waits.
      let own = own_method program terms sign method waits.own
      (subst (λ it. BodyOf program terms it waits.own) is waits.has) in
      let from = contains_mapped (name_of program.names) classes own.class
      (subst (λ list. Contains list own.class) (sym made) own.made) in
      record {
        from = from.0;
        inside = from.1;
        is = record {
          own = waits.own;
          is = subst (λ name. MethodIs program name (name_of program.names method) waits.own) (sym from.2) own.is;
          waits = waits.waits;
        };
      })

  -- the pairs of a live kind
  pub live_waits : (fact : Fact) (kind : Kind) → fact ≡ Live kind → Adds (KindWaits program terms facts kind) before now
      → Adds (LiveWaits program terms facts fact) before now
  unfolding live_kind
  live_waits fact kind is added = adds_as added
      (λ pair waits.
      let source = waits.waits.is.waits.source_is in
      record {
        live = is ∙ ap Live (sym source);
        waits = subst (λ it. KindWaits program terms facts it pair) (sym source) waits;
      })
      (λ pair waits.
      subst (λ it. KindWaits program terms facts it pair)
      (same_Some pair.source kind (ap live_kind (sym waits.live ∙ is))) waits.waits)

  -- another fact gives none
  pub others_wait : (fact : Fact) → ((kind : Kind) → fact ≡ Live kind → ⊥) → now ≡ before
      → Adds (LiveWaits program terms facts fact) before now
  others_wait fact none same = adds_none same (λ pair waits. none pair.source waits.live)
