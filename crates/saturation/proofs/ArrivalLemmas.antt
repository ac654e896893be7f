-- What an atom adds that comes to an expression, by the effect of the statement.
--
--   `ArrivesBy`                    what it adds, by the effect
--   `arrives_by`, `by_arrives`     it is what rests on its arrival
--   `arrives_as`, `arrives_none`   a step that adds this, and one that adds nothing
use Rattle.std.proofs.Common.{◌≡◌, ℕ, true, List, Option, refl, sym, subst}
use Rattle.abs_program.specs.Instructions.{EffectTree, Stores, Returns, Makes, Sends, CallsOwn, InstructionTree}
use Rattle.abs_program.specs.InstructionViews.{effect_tree}
use Rattle.abs_program.specs.declared.tables.control.Effect.{Effect}
use Rattle.abs_program.specs.declared.tables.control.Effect.TheVariants as effect
use Rattle.abs_tree.specs.declared.symbol.Symbol.{Symbol}
use Rattle.abs_tree.specs.declared.syntax.statement.Mode.{Mode}
use Rattle.abs_tree.specs.declared.syntax.variable.Variable.{Variable}
use Rattle.abs_tree.specs.Syntax.{Name, VariableTree, ProgramTree}
use Rattle.contract_terms.specs.Atoms.{is_let_in}
use Rattle.contract_terms.specs.KindBodies.{called, new_sign}
use Rattle.contract_terms.specs.Terms.{TermTree}
use Rattle.contract_terms.specs.declared.fact.Atom.{Atom}
use Rattle.contract_terms.specs.declared.fact.Fact.{Fact}
use Rattle.contract_terms.specs.declared.fact.Fact.TheVariants.{Gives, Holds, Field}
use Rattle.contract_terms.specs.declared.terms.Terms.{Terms}
use Rattle.name_bounding.specs.declared.kind.Kind.{Kind}
use Rattle.saturation.proofs.StepLemmas.{adds_by, adds_nothing}
use Rattle.saturation.specs.Rows.{Answers, Arrives, FillsField, PassesOwn, SendsAtom}
use Rattle.saturation.specs.Rows as rows
use Rattle.saturation.specs.Steps.{Adds}
use Rattle.saturation.specs.declared.derivation.Derivation.{Derivation}

module _ (program : ProgramTree) (terms : Terms) (depth : ℕ) (kind : Kind) (instruction : InstructionTree)
    (term : TermTree) (expr : ℕ) (atom : Atom) where
  -- what an atom adds that comes to an expression of a statement with this effect
  abbrev pub ArrivesBy : EffectTree → List Fact → Fact → Type 0
  ArrivesBy (Stores target) known fact = Answers program kind instruction term atom fact
  ArrivesBy Returns known fact = (is_let_in program.source term.accepts atom ≡ true) × (fact ≡ Gives kind atom)
  ArrivesBy (Makes mode class target) known fact =
      FillsField program terms class (new_sign depth instruction.place mode kind) expr atom fact
  ArrivesBy (CallsOwn method target) known fact = PassesOwn program terms kind method expr atom fact
  ArrivesBy (Sends method target) known fact =
      SendsAtom program terms depth kind instruction term method target expr atom known fact
  ArrivesBy _ known fact = ⊥

  -- what rests on the arrival of an atom is added by the effect
  pub arrives_by : (known : List Fact) (fact : Fact)
      → Arrives program terms depth kind instruction term expr atom known fact
      → ArrivesBy instruction.effect known fact
  arrives_by known fact (rows.stores target is one answers) =
      subst (λ (it : EffectTree). ArrivesBy it known one) (sym is) answers
  arrives_by known fact (rows.returns is let_in) =
      subst (λ (it : EffectTree). ArrivesBy it known (Gives kind atom)) (sym is) (let_in, refl)
  arrives_by known fact (rows.fills mode class target is index class_is let_in) =
      subst (λ (it : EffectTree). ArrivesBy it known (Field (new_sign depth instruction.place mode kind) expr atom))
      (sym is) (record { index = index; class_is = class_is; let_in = let_in; is = refl })
  arrives_by known fact (rows.passes_own method target is sign own kind_is let_in) =
      subst (λ (it : EffectTree). ArrivesBy it known (Holds (called program.names sign method) expr atom)) (sym is)
      (record { sign = sign; own = own; kind_is = kind_is; passes = record { let_in = let_in; is = refl } })
  arrives_by known fact (rows.receives method target is first sign atom_is receives one received) =
      subst (λ (it : EffectTree). ArrivesBy it known one) (sym is)
      (rows.as_receiver first (record { sign = sign; is = atom_is; receives = receives; received = received }))
  arrives_by known fact (rows.passes method target is argument later sign receiver let_in) =
      subst (λ (it : EffectTree). ArrivesBy it known (Holds (called program.names sign method) argument atom)) (sym is)
      (rows.as_argument argument later
      (record { sign = sign; receiver = receiver; passes = record { let_in = let_in; is = refl } }))

  -- what a message adds rests on the arrival
  by_sends : (method : Name) (target : Option VariableTree) → instruction.effect ≡ Sends method target
      → (known : List Fact) (fact : Fact)
      → SendsAtom program terms depth kind instruction term method target expr atom known fact
      → Arrives program terms depth kind instruction term expr atom known fact
  by_sends method target is known fact (rows.as_receiver first receives) =
      rows.receives method target is first receives.sign receives.is receives.receives fact receives.received
  by_sends method target is known fact (rows.as_argument argument later passes) =
      subst (λ (it : Fact). Arrives program terms depth kind instruction term expr atom known it)
      (sym passes.passes.is)
      (rows.passes method target is argument later passes.sign passes.receiver passes.passes.let_in)

  -- and what it adds rests on the arrival
  pub by_arrives : (its : EffectTree) → instruction.effect ≡ its → (known : List Fact) (fact : Fact)
      → ArrivesBy its known fact → Arrives program terms depth kind instruction term expr atom known fact
  by_arrives (Stores target) is known fact answers = rows.stores target is fact answers
  by_arrives Returns is known fact gives =
      subst (λ (it : Fact). Arrives program terms depth kind instruction term expr atom known it) (sym gives.1)
      (rows.returns is gives.0)
  by_arrives (Makes mode class target) is known fact fills =
      subst (λ (it : Fact). Arrives program terms depth kind instruction term expr atom known it) (sym fills.is)
      (rows.fills mode class target is fills.index fills.class_is fills.let_in)
  by_arrives (CallsOwn method target) is known fact passes =
      subst (λ (it : Fact). Arrives program terms depth kind instruction term expr atom known it)
      (sym passes.passes.is)
      (rows.passes_own method target is passes.sign passes.own passes.kind_is passes.passes.let_in)
  by_arrives (Sends method target) is known fact sends = by_sends method target is known fact sends
  by_arrives _ is known fact none = absurd none

  -- a step that adds this adds what rests on the arrival
  pub arrives_as : {before now : Derivation} (its : EffectTree) → instruction.effect ≡ its
      → Adds (ArrivesBy its) before now
      → Adds (Arrives program terms depth kind instruction term expr atom) before now
  arrives_as its is step = adds_by step
      (λ known fact arrives. subst (λ (it : EffectTree). ArrivesBy it known fact) is (arrives_by known fact arrives))
      (by_arrives its is)

  -- and so does one that adds nothing, by an effect that adds nothing
  pub arrives_none : {before now : Derivation} (its : EffectTree) → instruction.effect ≡ its
      → ((known : List Fact) (fact : Fact) → ArrivesBy its known fact → ⊥) → now ≡ before
      → Adds (Arrives program terms depth kind instruction term expr atom) before now
  arrives_none {before} {now} its is none same = adds_by (adds_nothing before now same)
      (λ known fact arrives.
      none known fact (subst (λ (it : EffectTree). ArrivesBy it known fact) is (arrives_by known fact arrives)))
      (λ known fact nothing. absurd nothing)

  -- An effect of the code that is none of these adds nothing.
  pub nothing_arrives : (names : List Name) (own : Effect) → (own ≡ effect.Return → ⊥)
      → ((target : Option Variable) → own ≡ effect.Store target → ⊥)
      → ((mode : Mode) (class : Symbol) (target : Option Variable) → own ≡ effect.Make mode class target → ⊥)
      → ((method : Symbol) (target : Option Variable) → own ≡ effect.Send method target → ⊥)
      → ((method : Symbol) (target : Option Variable) → own ≡ effect.CallOwn method target → ⊥)
      → (known : List Fact) (fact : Fact) → ArrivesBy (effect_tree names own) known fact → ⊥
  nothing_arrives names effect.Return return store make send call_own known fact arrives = return refl
  nothing_arrives names (effect.Store target) return store make send call_own known fact arrives = store target refl
  nothing_arrives names (effect.Make mode class target) return store make send call_own known fact arrives =
      make mode class target refl
  nothing_arrives names (effect.Send method target) return store make send call_own known fact arrives =
      send method target refl
  nothing_arrives names (effect.CallOwn method target) return store make send call_own known fact arrives =
      call_own method target refl
  nothing_arrives names effect.Skip return store make send call_own known fact arrives = arrives
  nothing_arrives names effect.Suspend return store make send call_own known fact arrives = arrives
  nothing_arrives names (effect.Await slots) return store make send call_own known fact arrives = arrives
  nothing_arrives names effect.Choose return store make send call_own known fact arrives = arrives
  nothing_arrives names effect.Print return store make send call_own known fact arrives = arrives
  nothing_arrives names (effect.Clear target) return store make send call_own known fact arrives = arrives
  nothing_arrives names (effect.CallOther method slot target) return store make send call_own known fact arrives =
      arrives
  nothing_arrives names (effect.Get slot target) return store make send call_own known fact arrives = arrives
