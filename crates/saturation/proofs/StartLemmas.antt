-- What rests on it that a kind is live, from steps that add parts of it.
--
--   `starts_by`, `starts_effect`       what a statement asks for, by its effect
--   `starts_make`, `starts_adds`, `starts_none`        a step by an effect that makes an object, and by others
--   `starts_statement`             the effect of a statement, and then the atoms of its expressions
--   `starts_term`, `starts_no_term`    a term, with its instruction or without one
--   `starts_body`, `starts_kind`   the terms of a body, and the bodies of a kind
--   `arrives_any`, `arrives_each`  the atoms of all expressions, and of one
--   `gets_all`                     what a `get` takes from the futures that its slot holds
use Rattle.std.proofs.Common.{◌≡◌, ◌⊎◌, inl, inr, ⊎_elim, ℕ, ◌≤◌, List, Contains, codes, map, length, refl, sym, ap, subst, arith, ◌∙◌}
use Rattle.std.specs.Prelude.{Option, Some, None, slice_get}
use Rattle.std.proofs.lemmas.Option.{none-some, same_Some, slice_get_within}
use Rattle.abs_program.specs.InstructionViews.{effect_tree}
use Rattle.abs_program.specs.Instructions.{EffectTree, Makes, CallsOwn, Gets, InstructionTree, instructions}
use Rattle.abs_program.specs.declared.tables.control.Effect.{Effect}
use Rattle.abs_program.specs.declared.tables.control.Effect.TheVariants as effect
use Rattle.abs_tree.specs.Syntax.{Name, VariableTree, ProgramTree}
use Rattle.abs_tree.specs.declared.symbol.Symbol.{Symbol}
use Rattle.abs_tree.specs.declared.syntax.statement.Mode.{Mode}
use Rattle.abs_tree.specs.declared.syntax.variable.Variable.{Variable}
use Rattle.contract_terms.specs.Reading.{ReadsTree}
use Rattle.contract_terms.specs.Terms.{TermTree}
use Rattle.contract_terms.specs.KindBodies.{called, new_sign}
use Rattle.contract_terms.specs.declared.fact.Fact.{Fact}
use Rattle.contract_terms.specs.declared.fact.Atom.{Atom}
use Rattle.contract_terms.specs.declared.fact.Atom.TheVariants.{Future}
use Rattle.contract_terms.specs.declared.fact.Fact.TheVariants.{Live, Holds}
use Rattle.contract_terms.specs.declared.terms.Terms.{Terms}
use Rattle.name_bounding.specs.declared.kind.Kind.{Kind}
use Rattle.name_bounding.specs.declared.kind.Sign.{Sign}
use Rattle.saturation.proofs.ImageLemmas.{at_contains, contains_at, contains_map, contains_mapped}
use Rattle.saturation.proofs.MakeLemmas.{EachMade, ForThereMade, makes_by, makes_of_adds, makes_then}
use Rattle.saturation.proofs.EachLemmas.{UpTo}
use Rattle.saturation.proofs.HoldingLemmas.{slot_holding, holding_slot}
use Rattle.saturation.proofs.StepLemmas.{adds_by, adds_nothing}
use Rattle.saturation.specs.Handling.{ArrivesAny, ArrivesAt, BodyMakes, BodyStarts, GetsAll, KindMakes, KindStarts, MakesHere, SlotResolves, StartsBy, TermMakes, TermStarts}
use Rattle.saturation.specs.MakeSteps as steps
use Rattle.saturation.specs.Rows.{Arrives, CallsOwnMethod, ClassIs, GivesAtom, HasBody, MakesStep, Resolves, Starts}
use Rattle.saturation.specs.Rows as rows
use Rattle.saturation.specs.Steps.{Adds, Each, ForThere, Holding}
use Rattle.saturation.specs.Uses.{body_terms}
use Rattle.saturation.specs.declared.body.Body.{Body}
use Rattle.saturation.specs.declared.key.Key.TheVariants as key
use Rattle.saturation.specs.declared.derivation.Derivation.{Derivation}

-- the mode and the class of what an effect makes
abbrev pub made_by : EffectTree → Option (Mode × Name)
made_by (Makes mode class target) = Some (mode, class)
made_by _ = None

module _ (program : ProgramTree) (terms : Terms) (depth : ℕ) (kind : Kind) (instruction : InstructionTree)
    (term : TermTree) where
  -- What a statement asks for comes of its effect, or of the atoms of its expressions.
  starts_by : (known : List Fact) (fact : Fact) → Starts program terms depth kind instruction term known fact
      → StartsBy program kind instruction term depth instruction.effect known fact
      ⊎ ArrivesAny program terms depth kind instruction term known fact
  starts_by known fact (rows.makes mode class target is one held) = inl
      (subst (λ (it : EffectTree). StartsBy program kind instruction term depth it known one) (sym is)
      (rows.holds one held))
  starts_by known fact (rows.runs mode class target is index class_is entry entry_is member runs) = inl
      (subst (λ (it : EffectTree). StartsBy program kind instruction term depth it known
      (Live (called program.names (new_sign depth instruction.place mode kind) (codes "run")))) (sym is)
      (rows.MakesStep.runs index class_is
      (record { entry = entry; entry_is = entry_is; member = member; runs = runs })))
  starts_by known fact (rows.calls_own method target is sign own kind_is) = inl
      (subst (λ (it : EffectTree). StartsBy program kind instruction term depth it known
      (Live (called program.names sign method))) (sym is) (rows.lives sign own kind_is))
  starts_by known fact (rows.answers_own method target is sign own kind_is atom given one answers) = inl
      (subst (λ (it : EffectTree). StartsBy program kind instruction term depth it known one) (sym is)
      (rows.takes sign own kind_is one (record { atom = atom; given = given; answers = answers })))
  starts_by known fact (rows.gets slot target is call task held atom given one answers) = inl
      (subst (λ (it : EffectTree). StartsBy program kind instruction term depth it known one) (sym is) (record {
        atom = Future call task;
        held = held;
        resolves = record {
          call = call;
          task = task;
          is = refl;
          takes = record { atom = atom; given = given; answers = answers };
        };
      }))
  starts_by known fact (rows.arrives expr reads there atom gives one arrives) = inr (record {
    expr = expr;
    arrives = record { reads = reads; there = there; atom = atom; gives = gives; arrives = arrives };
  })

  -- what comes of an effect that makes an object
  make_starts : (mode : Mode) (class : Name) (target : Option VariableTree) → instruction.effect ≡ Makes mode class target
      → (known : List Fact) (fact : Fact)
      → MakesStep program kind (new_sign depth instruction.place mode kind) class target fact
      → Starts program terms depth kind instruction term known fact
  make_starts mode class target is known fact (rows.holds one held) = rows.makes mode class target is one held
  make_starts mode class target is known fact (rows.MakesStep.runs index class_is active) =
      rows.Starts.runs mode class target is index class_is active.entry active.entry_is active.member active.runs

  -- what comes of a call on `this`
  call_starts : (method : Name) (target : Option VariableTree) → instruction.effect ≡ CallsOwn method target
      → (known : List Fact) (fact : Fact) → CallsOwnMethod program kind instruction term method known fact
      → Starts program terms depth kind instruction term known fact
  call_starts method target is known fact (rows.lives sign own kind_is) = rows.calls_own method target is sign own kind_is
  call_starts method target is known fact (rows.takes sign own kind_is one results) =
      rows.answers_own method target is sign own kind_is results.atom results.given one results.answers

  -- what comes of an effect
  effect_starts : (its : EffectTree) → instruction.effect ≡ its → (known : List Fact) (fact : Fact)
      → StartsBy program kind instruction term depth its known fact
      → Starts program terms depth kind instruction term known fact
  effect_starts (Makes mode class target) is known fact makes = make_starts mode class target is known fact makes
  effect_starts (CallsOwn method target) is known fact calls = call_starts method target is known fact calls
  effect_starts (Gets (Some slot) target) is known fact gets =
      let takes = gets.resolves.takes in
      rows.gets slot target is gets.resolves.call gets.resolves.task
      (subst (λ (it : Atom). Contains known (Holds kind slot it)) gets.resolves.is gets.held) takes.atom takes.given fact
      takes.answers
  effect_starts (Gets None target) is known fact none = absurd none
  effect_starts _ is known fact none = absurd none

  -- the atoms of an expression
  arrivals_start : (known : List Fact) (fact : Fact) → ArrivesAny program terms depth kind instruction term known fact
      → Starts program terms depth kind instruction term known fact
  arrivals_start known fact arrives =
      let its = arrives.arrives in
      rows.arrives arrives.expr its.reads its.there its.atom its.gives fact its.arrives

  module _ {made later : List (Sign × ℕ)} {before between now : Derivation} where
    -- the effect of a statement, and then the atoms of its expressions
    pub starts_statement :
        steps.Makes program terms depth
        (StartsBy program kind instruction term depth instruction.effect)
        (MakesHere program terms depth kind instruction) made later before between
        → Adds (ArrivesAny program terms depth kind instruction term) between now
        → steps.Makes program terms depth (Starts program terms depth kind instruction term)
        (MakesHere program terms depth kind instruction) made later before now
    starts_statement first second =
        makes_by program terms depth (makes_then program terms depth first (makes_of_adds program terms depth second))
        starts_by
        (λ known fact either.
        ⊎_elim (effect_starts instruction.effect refl known fact) (arrivals_start known fact) either)
        (λ sign class here. inl here) (λ sign class either. ⊎_elim (λ here. here) (λ none. absurd none) either)

  module _ {made later : List (Sign × ℕ)} {before now : Derivation} where
    -- an effect that makes an object
    pub starts_make : {mode : Mode} {class : Name} {target : Option VariableTree} {sign : Sign}
        → instruction.effect ≡ Makes mode class target → sign ≡ new_sign depth instruction.place mode kind
        → steps.Makes program terms depth (λ known. MakesStep program kind sign class target)
        (λ other index. (other ≡ sign) × ClassIs program class index) made later before now
        → steps.Makes program terms depth (StartsBy program kind instruction term depth instruction.effect)
        (MakesHere program terms depth kind instruction) made later before now
    starts_make {mode} {class} {target} {sign} is sign_is step = makes_by program terms depth step
        (λ known fact starts.
        subst (λ (it : Sign). MakesStep program kind it class target fact) (sym sign_is)
        (subst (λ (it : EffectTree). StartsBy program kind instruction term depth it known fact) is starts))
        (λ known fact makes.
        subst (λ (it : EffectTree). StartsBy program kind instruction term depth it known fact) (sym is)
        (subst (λ (it : Sign). MakesStep program kind it class target fact) sign_is makes))
        (λ other index here.
        let same = same_Some (here.mode, here.name) (mode, class) (ap made_by (sym here.makes ∙ is)) in (
          here.sign_is ∙ ap (λ (it : Mode × Name). new_sign depth instruction.place it.0 kind) same ∙ sym sign_is,
          subst (λ (it : Mode × Name). ClassIs program it.1 index) same here.class_is,
        ))
        (λ other index makes. record {
          mode = mode;
          name = class;
          target = target;
          makes = is;
          class_is = makes.1;
          sign_is = makes.0 ∙ sign_is;
        })

  module _ {made : List (Sign × ℕ)} {before now : Derivation} where
    -- an effect that makes no object
    pub starts_adds : (its : EffectTree) → instruction.effect ≡ its → made_by its ≡ None
        → Adds (StartsBy program kind instruction term depth its) before now
        → steps.Makes program terms depth (StartsBy program kind instruction term depth instruction.effect)
        (MakesHere program terms depth kind instruction) made made before now
    starts_adds its is plain step = makes_by program terms depth (makes_of_adds program terms depth step)
        (λ known fact starts.
        subst (λ (it : EffectTree). StartsBy program kind instruction term depth it known fact) is starts)
        (λ known fact starts.
        subst (λ (it : EffectTree). StartsBy program kind instruction term depth it known fact) (sym is) starts)
        (λ sign class here. none-some (here.mode, here.name) (sym plain ∙ ap made_by (sym is ∙ here.makes)))
        (λ sign class none. absurd none)

  -- An effect of the code that is none of these asks for nothing, and makes nothing.
  pub nothing_starts : (names : List Name) (own : Effect)
      → ((mode : Mode) (class : Symbol) (target : Option Variable) → own ≡ effect.Make mode class target → ⊥)
      → ((method : Symbol) (target : Option Variable) → own ≡ effect.CallOwn method target → ⊥)
      → ((slot : Option ℕ) (target : Option Variable) → own ≡ effect.Get slot target → ⊥)
      → (made_by (effect_tree names own) ≡ None) × ((known : List Fact) (fact : Fact)
      → StartsBy program kind instruction term depth (effect_tree names own) known fact → ⊥)
  nothing_starts names (effect.Make mode class target) make call_own get = absurd (make mode class target refl)
  nothing_starts names (effect.CallOwn method target) make call_own get = absurd (call_own method target refl)
  nothing_starts names (effect.Get slot target) make call_own get = absurd (get slot target refl)
  nothing_starts names effect.Return make call_own get = (refl, λ known fact none. none)
  nothing_starts names (effect.Store target) make call_own get = (refl, λ known fact none. none)
  nothing_starts names (effect.Send method target) make call_own get = (refl, λ known fact none. none)
  nothing_starts names effect.Skip make call_own get = (refl, λ known fact none. none)
  nothing_starts names effect.Suspend make call_own get = (refl, λ known fact none. none)
  nothing_starts names (effect.Await slots) make call_own get = (refl, λ known fact none. none)
  nothing_starts names effect.Choose make call_own get = (refl, λ known fact none. none)
  nothing_starts names effect.Print make call_own get = (refl, λ known fact none. none)
  nothing_starts names (effect.Clear target) make call_own get = (refl, λ known fact none. none)
  nothing_starts names (effect.CallOther method slot target) make call_own get = (refl, λ known fact none. none)

  -- an effect that asks for nothing
  pub starts_none : {made : List (Sign × ℕ)} {before now : Derivation} (its : EffectTree) → instruction.effect ≡ its
      → (made_by its ≡ None) × ((known : List Fact) (fact : Fact)
      → StartsBy program kind instruction term depth its known fact → ⊥)
      → now ≡ before
      → steps.Makes program terms depth (StartsBy program kind instruction term depth instruction.effect)
      (MakesHere program terms depth kind instruction) made made before now
  starts_none {made} {before} {now} its is none same = starts_adds its is none.0
      (adds_by (adds_nothing before now same) none.1 (λ known fact nothing. absurd nothing))

module _ {program : ProgramTree} {terms : Terms} {depth : ℕ} {kind : Kind} {term : TermTree}
    {made later : List (Sign × ℕ)} {before now : Derivation} where
  -- a term with its instruction
  pub starts_term : {instruction : InstructionTree}
      → Some instruction ≡ slice_get (instructions program.source) term.index
      → steps.Makes program terms depth (Starts program terms depth kind instruction term)
      (MakesHere program terms depth kind instruction) made later before now
      → steps.Makes program terms depth (TermStarts program terms depth kind term) (TermMakes program terms depth kind term)
      made later before now
  starts_term {instruction} found step = makes_by program terms depth step
      (λ known fact starts. subst (λ (it : InstructionTree). Starts program terms depth kind it term known fact)
      (same starts.instruction starts.there) starts.starts)
      (λ known fact starts. record { instruction = instruction; there = sym found; starts = starts })
      (λ sign class makes. subst (λ (it : InstructionTree). MakesHere program terms depth kind it sign class)
      (same makes.instruction makes.there) makes.makes)
      (λ sign class makes. record { instruction = instruction; there = sym found; makes = makes })
    where
      same : (other : InstructionTree) → slice_get (instructions program.source) term.index ≡ Some other
          → other ≡ instruction
      same other there = same_Some other instruction (sym there ∙ sym found)

module _ {program : ProgramTree} {terms : Terms} {depth : ℕ} {kind : Kind} {term : TermTree}
    {made : List (Sign × ℕ)} {before now : Derivation} where
  -- a term without an instruction
  pub starts_no_term : None ≡ slice_get (instructions program.source) term.index → now ≡ before
      → steps.Makes program terms depth (TermStarts program terms depth kind term) (TermMakes program terms depth kind term)
      made made before now
  starts_no_term none same = makes_by program terms depth
      (makes_of_adds program terms depth (adds_nothing before now same))
      (λ known fact starts. none-some starts.instruction (none ∙ starts.there)) (λ known fact nothing. absurd nothing)
      (λ sign class makes. none-some makes.instruction (none ∙ makes.there)) (λ sign class nothing. absurd nothing)

module _ {A : Type 0} {program : ProgramTree} {terms : Terms} {depth : ℕ} {kind : Kind} {own : Body}
    {made later : List (Sign × ℕ)} {before now : Derivation} (tree : A → TermTree) (list : List A) where
  -- the terms of a body
  pub starts_body : map tree list ≡ body_terms program.names terms own
      → steps.Makes program terms depth (Each (λ one. TermStarts program terms depth kind (tree one)) list)
      (EachMade (λ one. TermMakes program terms depth kind (tree one)) list) made later before now
      → steps.Makes program terms depth (BodyStarts program terms depth kind own) (BodyMakes program terms depth kind own)
      made later before now
  starts_body same step = makes_by program terms depth step
      (λ known fact starts.
      let one = here starts.index starts.term starts.there in
      record {
        one = one.0;
        inside = one.1;
        asked = subst (λ (it : TermTree). TermStarts program terms depth kind it known fact) (sym one.2)
            starts.starts;
      })
      (λ known fact each.
      let place = there each.one each.inside in
      record { index = place.0; term = tree each.one; there = place.1; starts = each.asked })
      (λ sign class makes.
      let one = here makes.index makes.term makes.there in
      record {
        one = one.0;
        inside = one.1;
        made = subst (λ (it : TermTree). TermMakes program terms depth kind it sign class) (sym one.2) makes.makes;
      })
      (λ sign class each.
      let place = there each.one each.inside in
      record { index = place.0; term = tree each.one; there = place.1; makes = each.made })
    where
      here : (index : ℕ) (term : TermTree) → slice_get (body_terms program.names terms own) index ≡ Some term
          → (one : A) × Contains list one × (tree one ≡ term)
      here index term is =
          contains_mapped tree list term
          (at_contains (map tree list) index term (ap (λ (all : List TermTree). slice_get all index) same ∙ is))

      there : (one : A) → Contains list one
          → (index : ℕ) × (slice_get (body_terms program.names terms own) index ≡ Some (tree one))
      there one inside =
          let place = contains_map tree list one inside in (
            place.0,
            ap (λ (all : List TermTree). slice_get all place.0) (sym same)
                ∙ contains_at (map tree list) (tree one) place,
          )

module _ {program : ProgramTree} {terms : Terms} {depth : ℕ} {kind : Kind} {made later : List (Sign × ℕ)}
    {before now : Derivation} where
  -- the bodies of a kind
  pub starts_kind :
      steps.Makes program terms depth
      (ForThere (λ known own. HasBody program kind own) (λ own. BodyStarts program terms depth kind own))
      (ForThereMade (λ own. HasBody program kind own) (λ own. BodyMakes program terms depth kind own)) made later before now
      → steps.Makes program terms depth (KindStarts program terms depth kind) (KindMakes program terms depth kind)
      made later before now
  starts_kind step = makes_by program terms depth step
      (λ known fact starts. record { one = starts.own; there = starts.has; asked = starts.starts })
      (λ known fact each. record { own = each.one; has = each.there; starts = each.asked })
      (λ sign class makes. record { one = makes.own; there = makes.has; made = makes.makes })
      (λ sign class each. record { own = each.one; has = each.there; makes = each.made })

module _ {program : ProgramTree} {kind : Kind} {instruction : InstructionTree} {term : TermTree}
    {before now : Derivation} where
  -- what a `get` takes from the futures that its slot holds
  pub gets_from : {slot : ℕ}
      → Adds (ForThere (Holding (key.Slot kind slot)) (λ atom. Resolves program kind instruction term atom)) before now
      → Adds (SlotResolves program kind instruction term slot) before now
  gets_from {slot} step = adds_by step
      (λ known fact resolves. record {
        one = resolves.atom;
        there = slot_holding kind slot known resolves.atom resolves.held;
        asked = resolves.resolves;
      })
      (λ known fact each. record {
        atom = each.one;
        held = holding_slot kind slot known each.one each.there;
        resolves = each.asked;
      })

module _ (program : ProgramTree) (kind : Kind) (instruction : InstructionTree) (term : TermTree)
    {before now : Derivation} where
  -- a `get` with a slot takes this
  pub gets_some : {own : Option ℕ} {slot : ℕ} → own ≡ Some slot
      → Adds (SlotResolves program kind instruction term slot) before now
      → Adds (GetsAll program kind instruction term own) before now
  gets_some {own} {slot} is step =
      subst (λ (it : Option ℕ). Adds (GetsAll program kind instruction term it) before now) (sym is) step

  -- and one without a slot nothing
  pub gets_none : {own : Option ℕ} → own ≡ None → now ≡ before
      → Adds (GetsAll program kind instruction term own) before now
  gets_none {own} is same =
      subst (λ (it : Option ℕ). Adds (GetsAll program kind instruction term it) before now) (sym is)
      (adds_nothing before now same)

module _ {program : ProgramTree} {terms : Terms} {depth : ℕ} {kind : Kind} {instruction : InstructionTree}
    {term : TermTree} {expr : ℕ} {before now : Derivation} where
  -- the atoms of an expression
  pub arrives_each : {reads : ReadsTree} → slice_get term.reads expr ≡ Some reads
      → Adds (ForThere (GivesAtom kind reads) (λ atom. Arrives program terms depth kind instruction term expr atom))
      before now
      → Adds (ArrivesAt program terms depth kind instruction term expr) before now
  arrives_each {reads} there step = adds_by step
      (λ known fact arrives. record {
        one = arrives.atom;
        there = subst (λ (it : ReadsTree). GivesAtom kind it known arrives.atom)
            (same_Some arrives.reads reads (sym arrives.there ∙ there)) arrives.gives;
        asked = arrives.arrives;
      })
      (λ known fact each.
      record { reads = reads; there = there; atom = each.one; gives = each.there; arrives = each.asked })

module _ {program : ProgramTree} {terms : Terms} {depth : ℕ} {kind : Kind} {instruction : InstructionTree}
    {term : TermTree} {before now : Derivation} where
  -- the atoms of all expressions
  pub arrives_any : (bound : ℕ) → length term.reads ≤ bound
      → Adds (UpTo 0 (ArrivesAt program terms depth kind instruction term) bound) before now
      → Adds (ArrivesAny program terms depth kind instruction term) before now
  arrives_any bound over step = adds_by step
      (λ known fact arrives. record {
        at = arrives.expr;
        least = omega arith;
        below =
            let within = slice_get_within term.reads arrives.expr arrives.arrives.reads arrives.arrives.there in
            omega (arith, within, over);
        asked = arrives.arrives;
      })
      (λ known fact up. record { expr = up.at; arrives = up.asked })
