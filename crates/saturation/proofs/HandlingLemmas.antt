-- What rests on a fact, from steps that add parts of it.
--
--   `passes_as`                    by the part of a statement to which an atom comes
--   `passes_use`, `passes_body`, `passes_kind`         by a use, a location of a body, and a location of a kind
--   `passes_live`, `passes_dead`                       by a location of a kind that is live, or is not
--   `passes_fact`, `passes_object`                     by the live kinds of a sign
--   `passes_holder`, `passes_getters`                  by the slots that hold the futures of a task
--   `passes_answer`, `passes_no_answer`                by the live kinds that call a method on `this`
use Rattle.std.proofs.Common.{◌≡◌, inl, inr, ℕ, List, Contains, refl, sym, ap, subst, ◌∙◌}
use Rattle.std.specs.Prelude.{Option, Some, None, slice_get}
use Rattle.std.proofs.lemmas.Option.{same_Some, none-some}
use Rattle.abs_program.specs.Instructions.{InstructionTree, instructions}
use Rattle.abs_tree.specs.Syntax.{ProgramTree}
use Rattle.abs_tree.specs.declared.symbol.Symbol.{Symbol}
use Rattle.contract_terms.specs.Terms.{TermTree}
use Rattle.contract_terms.specs.declared.fact.Atom.{Atom}
use Rattle.contract_terms.specs.declared.fact.Atom.TheVariants.{Future}
use Rattle.contract_terms.specs.declared.fact.Fact.{Fact}
use Rattle.contract_terms.specs.declared.fact.Fact.TheVariants.{Live, Holds}
use Rattle.contract_terms.specs.declared.terms.Terms.{Terms}
use Rattle.name_bounding.specs.declared.kind.Kind.{Kind}
use Rattle.name_bounding.specs.declared.kind.Kind.TheVariants.{Main, Method}
use Rattle.name_bounding.specs.declared.kind.Sign.{Sign}
use Rattle.saturation.proofs.HoldingLemmas.{method_of_key, call_of_key}
use Rattle.saturation.proofs.StepLemmas.{adds_as, adds_by, adds_nothing}
use Rattle.saturation.specs.Handling.{UsePasses, BodyPasses, LivePasses, ObjectPasses, GettersPass, AnswerPasses, KindFactPasses, HolderPasses}
use Rattle.saturation.specs.Rows.{Answers, Arrives, HasBody, PassesIn, PassesTo, Resolves}
use Rattle.saturation.specs.Rows.PassesTo.{to_expr, to_future, to_target}
use Rattle.saturation.specs.Steps.{Adds, Each, ForThere, HasKey}
use Rattle.saturation.specs.Uses.{IsUse, TermAt}
use Rattle.saturation.specs.declared.body.Body.{Body}
use Rattle.saturation.specs.declared.derivation.Derivation.{Derivation}
use Rattle.saturation.specs.declared.key.Key.TheVariants as key
use Rattle.saturation.specs.declared.uses.Location.{Location}
use Rattle.saturation.specs.declared.uses.Location.TheVariants.{Answer, Got}
use Rattle.saturation.specs.declared.uses.Part.{Part}
use Rattle.saturation.specs.declared.uses.Part.TheVariants as part
use Rattle.saturation.specs.declared.uses.Use.{Use}

-- the kind of which a fact says that it is live
abbrev pub kind_of_live : Fact → Option Kind
kind_of_live (Live kind) = Some kind
kind_of_live _ = None

-- the kind and the slot of which a fact says that it holds something
abbrev holder_of : Fact → Option (Kind × ℕ)
holder_of (Holds kind slot held) = Some (kind, slot)
holder_of _ = None

-- the sign and the method of a kind
abbrev method_parts : Kind → Option (Sign × Symbol)
method_parts Main = None
method_parts (Method sign method) = Some (sign, method)

module _ (program : ProgramTree) (terms : Terms) (depth : ℕ) (kind : Kind) (instruction : InstructionTree)
    (term : TermTree) (atom : Atom) where
  -- what an atom adds that comes to a part of a statement
  abbrev pub PassesBy : Part → List Fact → Fact → Type 0
  PassesBy (part.Expr expr) known fact = Arrives program terms depth kind instruction term expr atom known fact
  PassesBy part.Future known fact = Resolves program kind instruction term atom known fact
  PassesBy part.Target known fact = Answers program kind instruction term atom fact

  passes_by : (its : Part) (known : List Fact) (fact : Fact)
      → PassesTo program terms depth kind instruction term atom known its fact → PassesBy its known fact
  passes_by its known fact (to_expr expr one arrives) = arrives
  passes_by its known fact (to_future call task is result given one answers) = record {
    call = call;
    task = task;
    is = is;
    takes = record { atom = result; given = given; answers = answers };
  }
  passes_by its known fact (to_target one answers) = answers

  by_passes : (its : Part) (known : List Fact) (fact : Fact) → PassesBy its known fact
      → PassesTo program terms depth kind instruction term atom known its fact
  by_passes (part.Expr expr) known fact arrives = to_expr expr fact arrives
  by_passes part.Future known fact resolves =
      let takes = resolves.takes in
      to_future resolves.call resolves.task resolves.is takes.atom takes.given fact takes.answers
  by_passes part.Target known fact answers = to_target fact answers

  -- a step that adds this for a part adds what rests on it
  pub passes_as : {before now : Derivation} (own its : Part) → own ≡ its → Adds (PassesBy its) before now
      → Adds (λ known. PassesTo program terms depth kind instruction term atom known own) before now
  passes_as {before} {now} own its is step =
      subst (λ (it : Part). Adds (λ known. PassesTo program terms depth kind instruction term atom known it) before now)
      (sym is) (adds_by step (passes_by its) (by_passes its))

module _ {program : ProgramTree} {terms : Terms} {depth : ℕ} {kind : Kind} {own : Body} {use_ : Use} {atom : Atom}
    {before now : Derivation} where
  -- a use with its statement
  pub passes_use : {instruction : InstructionTree} {term : TermTree}
      → TermAt program terms own use_.term instruction term
      → Adds (λ known. PassesTo program terms depth kind instruction term atom known use_.part) before now
      → Adds (UsePasses program terms depth kind own use_ atom) before now
  passes_use {instruction} {term} there step = adds_by step
      (λ known fact passes.
      let same_term = same_Some passes.term term (sym passes.there.there ∙ there.there) in
      let same_instruction = same_Some passes.instruction instruction
      (sym passes.there.instruction_is
      ∙ ap (λ (it : TermTree). slice_get (instructions program.source) it.index) same_term
      ∙ there.instruction_is) in
      subst (λ (it : InstructionTree). PassesTo program terms depth kind it term atom known use_.part fact)
      same_instruction
      (subst (λ (it : TermTree). PassesTo program terms depth kind passes.instruction it atom known use_.part fact)
      same_term passes.passes))
      (λ known fact passes. record { instruction = instruction; term = term; there = there; passes = passes })

  -- a use without a statement
  pub passes_no_use : ((instruction : InstructionTree) (term : TermTree)
      → TermAt program terms own use_.term instruction term → ⊥) → now ≡ before
      → Adds (UsePasses program terms depth kind own use_ atom) before now
  passes_no_use none same = adds_by (adds_nothing before now same)
      (λ known fact passes. none passes.instruction passes.term passes.there) (λ known fact nothing. absurd nothing)

module _ {program : ProgramTree} {terms : Terms} {depth : ℕ} {kind : Kind} {location : Location} {atom : Atom}
    {before now : Derivation} where
  -- the bodies of a kind
  pub passes_kind : Adds (ForThere (λ known own. HasBody program kind own)
      (λ own. BodyPasses program terms depth kind own location atom)) before now
      → Adds (PassesIn program terms depth kind location atom) before now
  passes_kind step = adds_by step
      (λ known fact passes. record {
        one = passes.own;
        there = passes.has;
        asked = record {
          use_ = passes.use_;
          is_use = passes.is_use;
          passes = record {
            instruction = passes.instruction;
            term = passes.term;
            there = passes.there;
            passes = passes.passes;
          };
        };
      })
      (λ known fact each. record {
        own = each.one;
        has = each.there;
        use_ = each.asked.use_;
        is_use = each.asked.is_use;
        instruction = each.asked.passes.instruction;
        term = each.asked.passes.term;
        there = each.asked.passes.there;
        passes = each.asked.passes.passes;
      })

  -- the uses of a location of a body
  pub passes_body : {own : Body} {list : List Use}
      → ((use_ : Use) → Contains list use_ → IsUse program terms own location use_)
      → ((use_ : Use) → IsUse program terms own location use_ → Contains list use_)
      → Adds (Each (λ use_. UsePasses program terms depth kind own use_ atom) list) before now
      → Adds (BodyPasses program terms depth kind own location atom) before now
  passes_body {own} {list} is_use used step = adds_by step
      (λ known fact passes.
      record { one = passes.use_; inside = used passes.use_ passes.is_use; asked = passes.passes })
      (λ known fact each.
      record { use_ = each.one; is_use = is_use each.one each.inside; passes = each.asked })

  -- a kind that is live
  pub passes_live : Contains before.facts (Live kind)
      → Adds (PassesIn program terms depth kind location atom) before now
      → Adds (LivePasses program terms depth kind location atom) before now
  passes_live live step = adds_as step (λ going known among fact passes. passes.passes)
      (λ list among fact passes. record { live = among (Live kind) live; passes = passes })

  -- a kind that is not live
  pub passes_dead : (Contains before.facts (Live kind) → ⊥) → now ≡ before
      → Adds (LivePasses program terms depth kind location atom) before now
  passes_dead dead same = adds_as (adds_nothing before now same)
      (λ going known among fact passes. dead (among (Live kind) passes.live))
      (λ list among fact none. absurd none)

module _ {program : ProgramTree} {terms : Terms} {depth : ℕ} {location : Location} {atom : Atom}
    {before now : Derivation} where
  -- the kind of which a fact says that it is live
  pub passes_fact : {live : Fact} {kind : Kind} → live ≡ Live kind
      → Adds (PassesIn program terms depth kind location atom) before now
      → Adds (KindFactPasses program terms depth live location atom) before now
  passes_fact {live} {kind} is step = adds_by step
      (λ known fact passes. subst (λ (it : Kind). PassesIn program terms depth it location atom known fact)
      (same_live passes.is) passes.passes)
      (λ known fact passes. record { kind = kind; is = is; passes = passes })
    where
      same_live : {other : Kind} → live ≡ Live other → other ≡ kind
      same_live {other} other_is = same_Some other kind (ap kind_of_live (sym other_is ∙ is))

  -- the live kinds of a sign
  pub passes_object : {sign : Sign}
      → Adds (ForThere (HasKey (key.Object sign)) (λ live. KindFactPasses program terms depth live location atom))
      before now
      → Adds (ObjectPasses program terms depth sign location atom) before now
  passes_object {sign} step = adds_by step
      (λ known fact passes. record {
        one = Live (Method sign passes.method);
        there = (passes.passes.live, inl refl);
        asked = record { kind = Method sign passes.method; is = refl; passes = passes.passes.passes };
      })
      (λ known fact each. by_fact known fact each)
    where
      by_fact : (known : List Fact) (fact : Fact)
          → ForThere (HasKey (key.Object sign)) (λ live. KindFactPasses program terms depth live location atom) known fact
          → ObjectPasses program terms depth sign location atom known fact
      by_fact known fact each =
          let asked = each.asked in
          let has : HasKey (key.Object sign) known (Live asked.kind) =
          subst (λ (it : Fact). HasKey (key.Object sign) known it) asked.is each.there in
          let method = method_of_key asked.kind sign has.1 in
          record {
            method = method.0;
            passes = record {
              live = subst (λ (it : Kind). Contains known (Live it)) method.1 has.0;
              passes = subst (λ (it : Kind). PassesIn program terms depth it location atom known fact) method.1
                  asked.passes;
            };
          }

  -- no kind, where a fact says of none that it is live
  pub passes_no_fact : {live : Fact} → ((kind : Kind) → live ≡ Live kind → ⊥) → now ≡ before
      → Adds (KindFactPasses program terms depth live location atom) before now
  passes_no_fact {live} none same = adds_by (adds_nothing before now same)
      (λ known fact passes. none passes.kind passes.is) (λ known fact nothing. absurd nothing)

module _ {program : ProgramTree} {terms : Terms} {depth : ℕ} {atom : Atom} {before now : Derivation} where
  -- the slot of which a fact says that it holds something, where it is got
  pub passes_holder : {holds : Fact} {kind : Kind} {slot : ℕ} {held : Atom} → holds ≡ Holds kind slot held
      → Adds (LivePasses program terms depth kind (Got slot) atom) before now
      → Adds (HolderPasses program terms depth holds atom) before now
  passes_holder {holds} {kind} {slot} {held} is step = adds_by step
      (λ known fact passes.
      let same = same_Some (passes.kind, passes.slot) (kind, slot) (ap holder_of (sym passes.is ∙ is)) in
      subst (λ (it : Kind × ℕ). LivePasses program terms depth it.0 (Got it.1) atom known fact) same passes.passes)
      (λ known fact passes. record { kind = kind; slot = slot; held = held; is = is; passes = passes })

  -- no slot, where a fact says of none that it holds something
  pub passes_no_holder : {holds : Fact} → ((kind : Kind) (slot : ℕ) (held : Atom) → holds ≡ Holds kind slot held → ⊥)
      → now ≡ before → Adds (HolderPasses program terms depth holds atom) before now
  passes_no_holder {holds} none same = adds_by (adds_nothing before now same)
      (λ known fact passes. none passes.kind passes.slot passes.held passes.is) (λ known fact nothing. absurd nothing)

  -- the slots that hold the futures of a task
  pub passes_getters : {task : Kind}
      → Adds (ForThere (HasKey (key.Future task)) (λ holds. HolderPasses program terms depth holds atom)) before now
      → Adds (GettersPass program terms depth task atom) before now
  passes_getters {task} step = adds_by step
      (λ known fact passes. record {
        one = Holds passes.kind passes.slot (Future passes.call task);
        there = (passes.held, inr refl);
        asked = record {
          kind = passes.kind;
          slot = passes.slot;
          held = Future passes.call task;
          is = refl;
          passes = passes.passes;
        };
      })
      (λ known fact each.
      let asked = each.asked in
      let has : HasKey (key.Future task) known (Holds asked.kind asked.slot asked.held) =
      subst (λ (it : Fact). HasKey (key.Future task) known it) asked.is each.there in
      let call = call_of_key asked.kind asked.slot asked.held task has.1 in
      record {
        kind = asked.kind;
        slot = asked.slot;
        call = call.0;
        held = subst (λ (it : Atom). Contains known (Holds asked.kind asked.slot it)) call.1 has.0;
        passes = asked.passes;
      })

  -- the live kinds that call a method on `this`
  pub passes_answer : {task : Kind} {sign : Sign} {method : Symbol} → task ≡ Method sign method
      → Adds (ObjectPasses program terms depth sign (Answer method.0) atom) before now
      → Adds (AnswerPasses program terms depth task atom) before now
  passes_answer {task} {sign} {method} is step = adds_by step
      (λ known fact passes.
      let same = same_Some (passes.sign, passes.method) (sign, method) (ap method_parts (sym passes.is ∙ is)) in
      subst (λ (it : Sign × Symbol). ObjectPasses program terms depth it.0 (Answer it.1.0) atom known fact) same
      passes.passes)
      (λ known fact passes. record { sign = sign; method = method; is = is; passes = passes })

  -- no one calls main
  pub passes_no_answer : {task : Kind} → task ≡ Main → now ≡ before
      → Adds (AnswerPasses program terms depth task atom) before now
  passes_no_answer {task} is same = adds_by (adds_nothing before now same)
      (λ known fact passes. none-some (passes.sign, passes.method) (ap method_parts (sym is ∙ passes.is)))
      (λ known fact nothing. absurd nothing)
