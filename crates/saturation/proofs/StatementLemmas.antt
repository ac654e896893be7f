-- What the statements of a live kind add, from steps that add parts of it.
--
--   `task_of_future`, `sign_of_object`, `sign_of_method`       parts of atoms and kinds
--   `resolves_future`, `resolves_nothing`      what a `get` takes of an atom
--   `calls_method`, `calls_nothing`            what a call on `this` adds
--   `stores_atom`, `gives_atom`, ..            what an atom adds that comes to an expression, by the effect of the statement
use Rattle.std.proofs.Common.{◌≡◌, inl, inr, ℕ, suc, List, sym, ap, subst, arith, ◌∙◌}
use Rattle.std.specs.Prelude.{Option, Some, None, is_some}
use Rattle.std.proofs.lemmas.Bool.{false≢true}
use Rattle.std.proofs.lemmas.Option.{same_Some}
use Rattle.abs_program.specs.Instructions.{InstructionTree}
use Rattle.abs_tree.specs.Syntax.{Name, VariableTree, ProgramTree}
use Rattle.abs_tree.specs.declared.symbol.Symbol.{Symbol}
use Rattle.contract_terms.specs.KindBodies.{called}
use Rattle.contract_terms.specs.Terms.{TermTree}
use Rattle.contract_terms.specs.declared.fact.Atom.{Atom}
use Rattle.contract_terms.specs.declared.fact.Atom.TheVariants.{Object, Future}
use Rattle.contract_terms.specs.declared.fact.Fact.{Fact}
use Rattle.contract_terms.specs.declared.fact.Fact.TheVariants.{Live}
use Rattle.contract_terms.specs.declared.terms.Terms.{Terms}
use Rattle.name_bounding.specs.declared.kind.Kind.{Kind}
use Rattle.name_bounding.specs.declared.kind.Kind.TheVariants.{Main, Method}
use Rattle.name_bounding.specs.declared.kind.Sign.{Sign}
use Rattle.saturation.proofs.StepLemmas.{adds_by, adds_nothing, adds_then}
use Rattle.saturation.specs.Rows.{Answers, TakesResults, Resolves, CallsOwnMethod, Arrives, FillsField, PassesOwn, PassesParam, PassesToReceivers, ReceivesAtom, SendsAtom}
use Rattle.saturation.specs.Rows as rows
use Rattle.saturation.specs.Steps.{Adds, Just, Nothing, Either}
use Rattle.saturation.specs.declared.derivation.Derivation.{Derivation}

-- the kind of the tasks of a future
abbrev pub task_of_future : Atom → Option Kind
task_of_future (Object sign) = None
task_of_future (Future call task) = Some task

-- the sign of an object
abbrev pub sign_of_object : Atom → Option Sign
sign_of_object (Object sign) = Some sign
sign_of_object (Future call task) = None

-- the sign of the object of a method
abbrev pub sign_of_method : Kind → Option Sign
sign_of_method Main = None
sign_of_method (Method sign method) = Some sign

module _ {program : ProgramTree} {kind : Kind} {instruction : InstructionTree} {term : TermTree}
    {before now : Derivation} where
  -- a `get` takes what the tasks of a future give
  pub resolves_future : {atom : Atom} {call : ℕ} {task : Kind} → atom ≡ Future call task
      → Adds (TakesResults program kind instruction term task) before now
      → Adds (Resolves program kind instruction term atom) before now
  resolves_future {atom} {call} {task} is step = adds_by step
      (λ known fact resolves. subst (λ (it : Kind). TakesResults program kind instruction term it known fact)
      (same_Some resolves.task task (ap task_of_future (sym resolves.is ∙ is))) resolves.takes)
      (λ known fact takes. record { call = call; task = task; is = is; takes = takes })

  -- and nothing of an object
  pub resolves_nothing : {atom : Atom} {sign : Sign} → atom ≡ Object sign → now ≡ before
      → Adds (Resolves program kind instruction term atom) before now
  resolves_nothing {atom} {sign} is same = adds_by (adds_nothing before now same)
      (λ known fact resolves. false≢true (ap is_some (ap task_of_future (sym is ∙ resolves.is))))
      (λ known fact none. absurd none)

  -- A call on `this` makes the method live, and takes what that gives.
  pub calls_method : {between : Derivation} {method : Name} {sign : Sign} {own : Symbol} {callee live : Kind}
      → kind ≡ Method sign own → callee ≡ called program.names sign method → live ≡ callee
      → Adds (Just (Some (Live live))) before between
      → Adds (TakesResults program kind instruction term callee) between now
      → Adds (CallsOwnMethod program kind instruction term method) before now
  calls_method {between} {method} {sign} {own} {callee} {live} is callee_is live_is lives takes =
      adds_by (adds_then lives takes) to from
    where
      same_sign : {other : Sign} {symbol : Symbol} → kind ≡ Method other symbol → sign ≡ other
      same_sign {other} {symbol} other_is = same_Some sign other (ap sign_of_method (sym is ∙ other_is))

      to : (known : List Fact) (fact : Fact) → CallsOwnMethod program kind instruction term method known fact
          → Either (Just (Some (Live live))) (TakesResults program kind instruction term callee) known fact
      to known fact (rows.lives other symbol other_is) =
          inl (ap (λ it. Some (Live it)) (live_is ∙ callee_is
          ∙ ap (λ it. called program.names it method) (same_sign other_is)))
      to known fact (rows.takes other symbol other_is one results) =
          inr (subst (λ (it : Kind). TakesResults program kind instruction term it known one)
          (ap (λ it. called program.names it method) (sym (same_sign other_is)) ∙ sym callee_is) results)

      from : (known : List Fact) (fact : Fact)
          → Either (Just (Some (Live live))) (TakesResults program kind instruction term callee) known fact
          → CallsOwnMethod program kind instruction term method known fact
      from known fact (inl just) =
          subst (λ (it : Fact). CallsOwnMethod program kind instruction term method known it)
          (sym (ap Live (live_is ∙ callee_is)) ∙ same_Some (Live live) fact just) (rows.lives sign own is)
      from known fact (inr results) = rows.takes sign own is fact
          (subst (λ (it : Kind). TakesResults program kind instruction term it known fact) callee_is results)

  -- Main has no `this`.
  pub calls_nothing : {method : Name} → kind ≡ Main → now ≡ before
      → Adds (CallsOwnMethod program kind instruction term method) before now
  calls_nothing {method} is same = adds_by (adds_nothing before now same) none (λ known fact nothing. absurd nothing)
    where
      none : (known : List Fact) (fact : Fact) → CallsOwnMethod program kind instruction term method known fact
          → Nothing known fact
      none known fact (rows.lives sign own other_is) =
          false≢true (ap is_some (ap sign_of_method (sym is ∙ other_is)))
      none known fact (rows.takes sign own other_is one results) =
          false≢true (ap is_some (ap sign_of_method (sym is ∙ other_is)))

module _ {program : ProgramTree} {terms : Terms} {kind : Kind} {before now : Derivation} where
  -- a parameter of a method of `this` holds an atom
  pub passes_own : {method : Name} {sign : Sign} {own : Symbol} {callee : Kind} {param : ℕ} {atom : Atom}
      → kind ≡ Method sign own → callee ≡ called program.names sign method
      → Adds (λ known. PassesParam program terms callee param atom) before now
      → Adds (λ known. PassesOwn program terms kind method param atom) before now
  passes_own {method} {sign} {own} {callee} {param} {atom} is callee_is step = adds_by step
      (λ known fact passes. subst (λ (it : Kind). PassesParam program terms it param atom fact)
      (ap (λ it. called program.names it method)
      (sym (same_Some sign passes.sign (ap sign_of_method (sym is ∙ passes.kind_is)))) ∙ sym callee_is)
      passes.passes)
      (λ known fact passes. record {
        sign = sign;
        own = own;
        kind_is = is;
        passes = subst (λ (it : Kind). PassesParam program terms it param atom fact) callee_is passes;
      })

  -- Main has no `this`.
  pub passes_own_nothing : {method : Name} {param : ℕ} {atom : Atom} → kind ≡ Main → now ≡ before
      → Adds (λ known. PassesOwn program terms kind method param atom) before now
  passes_own_nothing {method} {param} {atom} is same = adds_by (adds_nothing before now same)
      (λ known fact passes. false≢true (ap is_some (ap sign_of_method (sym is ∙ passes.kind_is))))
      (λ known fact none. absurd none)

module _ {program : ProgramTree} {terms : Terms} {depth : ℕ} {kind : Kind} {instruction : InstructionTree}
    {term : TermTree} {method : Name} {target : Option VariableTree} {atom : Atom} {before now : Derivation} where
  -- the first expression of a message gives the receiver
  pub sends_to : {expr : ℕ} → expr ≡ 0
      → Adds (ReceivesAtom program terms depth kind instruction term method target atom) before now
      → Adds (SendsAtom program terms depth kind instruction term method target expr atom) before now
  sends_to {expr} first step = adds_by step to (λ known fact receives. rows.as_receiver first receives)
    where
      to : (known : List Fact) (fact : Fact)
          → SendsAtom program terms depth kind instruction term method target expr atom known fact
          → ReceivesAtom program terms depth kind instruction term method target atom known fact
      to known fact (rows.as_receiver is receives) = receives
      to known fact (rows.as_argument argument is passes) = absurd (omega (arith, first, is))

  -- and each other one an argument
  pub sends_with : {expr argument : ℕ} → expr ≡ suc argument
      → Adds (PassesToReceivers program terms kind term method argument atom) before now
      → Adds (SendsAtom program terms depth kind instruction term method target expr atom) before now
  sends_with {expr} {argument} later step = adds_by step to (λ known fact passes. rows.as_argument argument later passes)
    where
      same : (other : ℕ) → expr ≡ suc other → other ≡ argument
      same other is = omega (arith, later, is)

      to : (known : List Fact) (fact : Fact)
          → SendsAtom program terms depth kind instruction term method target expr atom known fact
          → PassesToReceivers program terms kind term method argument atom known fact
      to known fact (rows.as_receiver is receives) = absurd (omega (arith, later, is))
      to known fact (rows.as_argument other is passes) =
          subst (λ n. PassesToReceivers program terms kind term method n atom known fact) (same other is) passes
