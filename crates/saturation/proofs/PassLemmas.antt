-- What is passed to the parameters of a kind.
--
--   `adds_after`, `adds_same`      a step after one that adds nothing, and a fact in other words
--   `BodyPasses`                   a parameter of a kind holds an atom that a body lets in
--   `receivers_passed`                         an atom was passed to the receivers of a message
--   `receiver_passed`, `no_receiver`           so it is for one receiver
--   `mapped_at`, `mapped_first`                an element of a mapped list
--   `ArgumentAt`, `argument_passed`, `arguments_passed`        the atoms of an argument were passed, and those of all
--   `call_received`, `atom_received`, `atom_ignored`           an object and an atom received a message, or did not
--   `param_let_in`, `lets_in_param_of`         a body lets in an atom just if a parameter of the kind does for it
use Rattle.std.proofs.Common.{◌≡◌, ◌<◌, ◌≤◌, ◌-◌, inl, inr, ⊎_elim, ℕ, suc, true, List, length, map, ltb, ltb-true, refl, sym, ap, subst, arith, ◌∙◌}
use Rattle.std.specs.Prelude.{Option, Some, None, get_or, option_map, slice_get}
use Rattle.std.proofs.lemmas.Bool.{false≢true}
use Rattle.std.proofs.lemmas.Option.{same_Some, slice_get-map, slice_get_read, slice_get_within}
use Rattle.abs_program.specs.Instructions.{InstructionTree}
use Rattle.abs_tree.specs.Syntax.{Name, VariableTree, ProgramTree, SourceTree}
use Rattle.contract_terms.specs.Accepts.{AcceptsTree}
use Rattle.contract_terms.specs.Atoms.{held_by, is_let_in}
use Rattle.contract_terms.specs.KindBodies.{called}
use Rattle.contract_terms.specs.Reading.{ReadsTree}
use Rattle.contract_terms.specs.Terms.{TermTree}
use Rattle.contract_terms.specs.declared.fact.Atom.{Atom}
use Rattle.contract_terms.specs.declared.fact.Atom.TheVariants.{Object, Future}
use Rattle.contract_terms.specs.declared.fact.Fact.{Fact}
use Rattle.contract_terms.specs.declared.fact.Fact.TheVariants.{Live, Holds}
use Rattle.contract_terms.specs.declared.terms.Terms.{Terms}
use Rattle.name_bounding.specs.declared.kind.Kind.{Kind}
use Rattle.name_bounding.specs.declared.kind.Sign.{Sign}
use Rattle.saturation.specs.Passing.{PassesArgument, PassesAtoms, PassesToReceiver, lets_in_if, lets_in_param}
use Rattle.saturation.specs.Rows.{GivesAtom, HasBody, ParamLetsIn, PassesParam, PassesToReceivers, Received, Receives, ReceivesAtom, calls, answers, passes}
use Rattle.saturation.specs.Steps.{Adds, Either, ForThere, Nothing, Just}
use Rattle.saturation.specs.Uses.{body_params}
use Rattle.saturation.specs.declared.body.Body.{Body}
use Rattle.saturation.specs.declared.derivation.Derivation.{Derivation}
use Rattle.saturation.proofs.EachLemmas.{UpTo}
use Rattle.saturation.proofs.StepLemmas.{adds_by, adds_nothing, adds_then}

-- a step after one that adds nothing
pub adds_after : {Asked : List Fact → Fact → Type 0} {before between now : Derivation} → Adds Nothing before between
    → Adds Asked between now → Adds Asked before now
adds_after first next = adds_by (adds_then first next) (λ known fact asked. inr asked)
    (λ known fact either. ⊎_elim (λ none. absurd none) (λ asked. asked) either)

-- a fact in other words
pub adds_same : {one other : Fact} {before now : Derivation} → one ≡ other → Adds (Just (Some one)) before now
    → Adds (Just (Some other)) before now
adds_same {before = before} {now = now} same step = subst (λ it. Adds (Just (Some it)) before now) same step

-- a parameter of a kind holds an atom, if that of a body lets it in
abbrev pub BodyPasses : ProgramTree → Terms → Kind → ℕ → Atom → Body → List Fact → Fact → Type 0
BodyPasses program terms callee param atom own known fact =
    (lets_in_param program terms own param atom ≡ true) × (fact ≡ Holds callee param atom)

-- What may be there lets in an atom.
record LetsIn (source : SourceTree) (found : Option AcceptsTree) (atom : Atom) : Type 0 where
  pub accepts : AcceptsTree
  pub is : found ≡ Some accepts
  pub let_in : is_let_in source accepts atom ≡ true

let_in_by : (source : SourceTree) (found : Option AcceptsTree) (atom : Atom) → lets_in_if source found atom ≡ true
    → LetsIn source found atom
let_in_by source None atom is = absurd (false≢true is)
let_in_by source (Some accepts) atom is = record { accepts = accepts; is = refl; let_in = is }

-- a body lets in an atom just if a parameter of the kind does for it
pub param_let_in : (program : ProgramTree) (terms : Terms) (callee : Kind) (param : ℕ) (atom : Atom) (own : Body)
    → HasBody program callee own → lets_in_param program terms own param atom ≡ true
    → ParamLetsIn program terms callee param atom
param_let_in program terms callee param atom own has is =
    let found = let_in_by program.source (slice_get (body_params program.names terms own) param) atom is in
    record { own = own; has = has; accepts = found.accepts; there = found.is; let_in = found.let_in }

pub lets_in_param_of : (program : ProgramTree) (terms : Terms) (callee : Kind) (param : ℕ) (atom : Atom)
    (let_in : ParamLetsIn program terms callee param atom)
    → lets_in_param program terms let_in.own param atom ≡ true
lets_in_param_of program terms callee param atom let_in =
    ap (λ found. lets_in_if program.source found atom) let_in.there ∙ let_in.let_in

-- the atoms of an expression were passed to the receivers
pub receivers_passed : (program : ProgramTree) (terms : Terms) (kind : Kind) (term : TermTree) (method : Name)
    (argument : ℕ) (atom : Atom) (reads : ReadsTree) → slice_get term.reads 0 ≡ Some reads → {before now : Derivation}
    → Adds (ForThere (GivesAtom kind reads)
    (λ receiver known. PassesToReceiver program terms term method receiver argument atom)) before now
    → Adds (PassesToReceivers program terms kind term method argument atom) before now
receivers_passed program terms kind term method argument atom reads first step = adds_by step
    (λ known fact passes.
    let same = same_Some passes.receiver.reads reads (sym passes.receiver.first ∙ first) in
    record {
      one = Object passes.sign;
      there = subst (λ it. GivesAtom kind it known (Object passes.sign)) same passes.receiver.gives;
      asked = record {
        sign = passes.sign;
        is = refl;
        receives = passes.receiver.receives;
        passes = passes.passes;
      };
    })
    (λ known fact each. record {
      sign = each.asked.sign;
      receiver = record {
        reads = reads;
        first = first;
        gives = subst (GivesAtom kind reads known) each.asked.is each.there;
        receives = each.asked.receives;
      };
      passes = each.asked.passes;
    })

-- an object has one sign
same_sign : {atom : Atom} (one other : Sign) → atom ≡ Object one → atom ≡ Object other → one ≡ other
same_sign one other is also = cc

-- an atom was passed to the method of a receiver
pub receiver_passed : (program : ProgramTree) (terms : Terms) (term : TermTree) (method : Name) (receiver : Atom)
    (argument : ℕ) (atom : Atom) (sign : Sign) → receiver ≡ Object sign → Receives program term sign
    → (callee : Kind) → callee ≡ called program.names sign method → {before now : Derivation}
    → Adds (λ known fact. PassesParam program terms callee argument atom fact) before now
    → Adds (λ known. PassesToReceiver program terms term method receiver argument atom) before now
receiver_passed program terms term method receiver argument atom sign is receives callee same step = adds_by step
    (λ known fact passes. subst (λ it. PassesParam program terms it argument atom fact)
    (ap (λ it. called program.names it method) (same_sign passes.sign sign passes.is is) ∙ sym same) passes.passes)
    (λ known fact passes. record {
      sign = sign;
      is = is;
      receives = receives;
      passes = subst (λ it. PassesParam program terms it argument atom fact) same passes;
    })

-- no object may be the receiver
abbrev pub NoReceiver : ProgramTree → TermTree → Atom → Type 0
NoReceiver program term atom = (sign : Sign) → atom ≡ Object sign → Receives program term sign → ⊥

pub no_receiver : (program : ProgramTree) (terms : Terms) (term : TermTree) (method : Name) (receiver : Atom)
    (argument : ℕ) (atom : Atom) → NoReceiver program term receiver → (before : Derivation)
    → Adds (λ known. PassesToReceiver program terms term method receiver argument atom) before before
no_receiver program terms term method receiver argument atom none before = adds_by (adds_nothing before before refl)
    (λ known fact passes. none passes.sign passes.is passes.receives) (λ known fact nothing. absurd nothing)

-- an element of a mapped list
pub mapped_at : {A B : Type 0} (f : A → B) (items : List A) (index : ℕ) (item : A) → index < length items
    → item ≡ get_or items index item → slice_get (map f items) index ≡ Some (f item)
mapped_at f items index item within is =
    slice_get-map f items index ∙ ap (option_map f) (slice_get_read items (length items) index item refl within is)

-- the first element of one
pub mapped_first : {A B : Type 0} (f : A → B) (list items : List A) → list ≡ items → (item : A)
    → true ≡ ltb 0 (length list) → item ≡ get_or list 0 item → slice_get (map f items) 0 ≡ Some (f item)
mapped_first f list items same item within is = subst (λ it. slice_get (map f it) 0 ≡ Some (f item)) same
    (mapped_at f list 0 item (ltb-true 0 (length list) (sym within)) is)

-- What is passed from the expression with an index, to the parameter before it.
pub record ArgumentAt (program : ProgramTree) (terms : Terms) (kind : Kind) (term : TermTree) (callee : Kind)
    (index : ℕ) (known : List Fact) (fact : Fact) : Type 0 where
  pub reads : ReadsTree
  pub there : slice_get term.reads index ≡ Some reads
  pub passes : PassesAtoms program terms kind reads callee (index - 1) known fact

module _ (program : ProgramTree) (terms : Terms) (kind : Kind) (term : TermTree) (callee : Kind) where
  -- the atoms of one argument were passed
  pub argument_passed : (index : ℕ) (reads : ReadsTree) → slice_get term.reads index ≡ Some reads
      → {before now : Derivation} → Adds (PassesAtoms program terms kind reads callee (index - 1)) before now
      → Adds (ArgumentAt program terms kind term callee index) before now
  argument_passed index reads there step = adds_by step
      (λ known fact at. subst (λ it. PassesAtoms program terms kind it callee (index - 1) known fact)
      (same_Some at.reads reads (sym at.there ∙ there)) at.passes)
      (λ known fact passes. record { reads = reads; there = there; passes = passes })

  -- those of all arguments were
  pub arguments_passed : (index : ℕ) → length term.reads ≤ index → {before now : Derivation}
      → Adds (UpTo 1 (ArgumentAt program terms kind term callee) index) before now
      → Adds (PassesArgument program terms kind term callee) before now
  arguments_passed index over step = adds_by step
      (λ known fact passes.
      let argument = passes.argument in
      let within = slice_get_within term.reads (suc argument) passes.reads passes.there in
      let same : argument ≡ suc argument - 1 = omega arith in
      record {
        at = suc argument;
        least = omega arith;
        below = omega (arith, within, over);
        asked = record {
          reads = passes.reads;
          there = passes.there;
          passes = subst (λ it. PassesAtoms program terms kind passes.reads callee it known fact) same passes.passes;
        };
      })
      (λ known fact up.
      let same : up.at ≡ suc (up.at - 1) = omega (arith, up.least) in
      record {
        argument = up.at - 1;
        reads = up.asked.reads;
        there = subst (λ it. slice_get term.reads it ≡ Some up.asked.reads) same up.asked.there;
        passes = up.asked.passes;
      })

module _ (program : ProgramTree) (terms : Terms) (depth : ℕ) (kind : Kind) (instruction : InstructionTree)
    (term : TermTree) (method : Name) (target : Option VariableTree) where
  -- what is asked for where a method is called: it is live, the target holds the future, and the arguments are passed
  abbrev Calls : Kind → List Fact → Fact → Type 0
  Calls callee = Either
      (Either (Just (Some (Live callee))) (Just (held_by kind target (Future instruction.place callee))))
      (PassesArgument program terms kind term callee)

  calls_of : (sign : Sign) (known : List Fact) (fact : Fact)
      → Received program terms depth kind instruction term method target sign known fact
      → Calls (called program.names sign method) known fact
  calls_of sign known fact calls = inl (inl refl)
  calls_of sign known fact (answers same held) = inl (inr held)
  calls_of sign known fact (passes argument reads there atom gives let_in) = inr (record {
    argument = argument;
    reads = reads;
    there = there;
    passes = record { one = atom; there = gives; asked = record { let_in = let_in; is = refl } };
  })

  of_calls : (sign : Sign) (known : List Fact) (fact : Fact) → Calls (called program.names sign method) known fact
      → Received program terms depth kind instruction term method target sign known fact
  of_calls sign known fact (inl (inl live)) =
      subst (Received program terms depth kind instruction term method target sign known)
      (same_Some (Live (called program.names sign method)) fact live) calls
  of_calls sign known fact (inl (inr held)) = answers fact held
  of_calls sign known fact (inr argument) =
      subst (Received program terms depth kind instruction term method target sign known) (sym argument.passes.asked.is)
      (passes argument.argument argument.reads argument.there argument.passes.one argument.passes.there
      argument.passes.asked.let_in)

  -- an object with a sign received the message
  pub call_received : (sign : Sign) (callee : Kind) → callee ≡ called program.names sign method
      → (live : Fact) → live ≡ Live callee
      → (held : Option Fact) → held ≡ held_by kind target (Future instruction.place callee)
      → {before one two now : Derivation} → Adds (Just (Some live)) before one → Adds (Just held) one two
      → Adds (PassesArgument program terms kind term callee) two now
      → Adds (Received program terms depth kind instruction term method target sign) before now
  call_received sign callee same live live_is held held_is {before} {one} {two} {now} first second third =
      let step : Adds (Calls callee) before now = adds_then (adds_then
      (subst (λ it. Adds (Just (Some it)) before one) live_is first)
      (subst (λ it. Adds (Just it) one two) held_is second)) third in
      adds_by (subst (λ it. Adds (Calls it) before now) same step) (calls_of sign) (of_calls sign)

  -- an atom was the receiver
  pub atom_received : (atom : Atom) (sign : Sign) → atom ≡ Object sign → Receives program term sign
      → {before now : Derivation}
      → Adds (Received program terms depth kind instruction term method target sign) before now
      → Adds (ReceivesAtom program terms depth kind instruction term method target atom) before now
  atom_received atom sign is receives step = adds_by step
      (λ known fact received.
      subst (λ it. Received program terms depth kind instruction term method target it known fact)
      (same_sign received.sign sign received.is is) received.received)
      (λ known fact received. record { sign = sign; is = is; receives = receives; received = received })

  -- it was none
  pub atom_ignored : (atom : Atom) → NoReceiver program term atom → (before : Derivation)
      → Adds (ReceivesAtom program terms depth kind instruction term method target atom) before before
  atom_ignored atom none before = adds_by (adds_nothing before before refl)
      (λ known fact received. none received.sign received.is received.receives) (λ known fact nothing. absurd nothing)
