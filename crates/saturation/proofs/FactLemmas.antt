-- What rests on a fact, by what the fact says.
--
--   `handles_live`             it says that a kind is live
--   `handles_slot`, `handles_field`, `handles_result`      it says that a slot, a field or a result holds an atom
use Rattle.std.proofs.Common.{◌≡◌, inl, inr, ℕ, List, refl, sym, ap, subst, ◌∙◌}
use Rattle.std.specs.Prelude.{None}
use Rattle.std.proofs.lemmas.Option.{none-some, same_Some}
use Rattle.abs_tree.specs.Syntax.{ProgramTree}
use Rattle.contract_terms.specs.declared.fact.Atom.{Atom}
use Rattle.contract_terms.specs.declared.fact.Fact.{Fact}
use Rattle.contract_terms.specs.declared.fact.Fact.TheVariants.{Live, Holds, Field, Gives}
use Rattle.contract_terms.specs.declared.terms.Terms.{Terms}
use Rattle.name_bounding.specs.declared.kind.Kind.{Kind}
use Rattle.name_bounding.specs.declared.kind.Sign.{Sign}
use Rattle.saturation.proofs.HandlingLemmas.{kind_of_live}
use Rattle.saturation.proofs.MakeLemmas.{makes_by, makes_of_adds}
use Rattle.saturation.specs.Handling.{AnswerPasses, GettersPass, KindMakes, KindStarts, LivePasses, ObjectPasses}
use Rattle.saturation.specs.MakeSteps.{Makes}
use Rattle.saturation.specs.Rows.{BeginsFrom, Handles, MakesObject}
use Rattle.saturation.specs.Rows as rows
use Rattle.saturation.specs.Steps.{Adds, Either}
use Rattle.saturation.specs.declared.derivation.Derivation.{Derivation}
use Rattle.saturation.specs.declared.uses.Location.TheVariants as location

module _ (program : ProgramTree) (terms : Terms) (depth : ℕ) where
  -- the objects that a fact makes: those of the kind of which it says that it is live
  abbrev pub FactMakes : Fact → Sign → ℕ → Type 0
  FactMakes fact sign class = (kind : Kind) × (fact ≡ Live kind) × MakesObject program terms depth kind sign class

  module _ (made : List (Sign × ℕ)) (known : List Fact) where
    live_handles : (kind : Kind) (asked : Fact) → Handles program terms depth made known (Live kind) asked
        → KindStarts program terms depth kind known asked
    live_handles kind asked (rows.Handles.starts its own has index instruction term there one starts) = record {
      own = own;
      has = has;
      starts = record {
        index = index;
        term = term;
        there = there.there;
        starts = record { instruction = instruction; there = there.instruction_is; starts = starts };
      };
    }

    slot_handles : (kind : Kind) (slot : ℕ) (atom : Atom) (asked : Fact)
        → Handles program terms depth made known (Holds kind slot atom) asked
        → LivePasses program terms depth kind (location.Slot slot) atom known asked
    slot_handles kind slot atom asked (rows.Handles.passes its live own_slot its_atom one passes) =
        record { live = live; passes = passes }

    field_handles : (sign : Sign) (field : ℕ) (atom : Atom) (asked : Fact)
        → Handles program terms depth made known (Field sign field atom) asked
        → Either (ObjectPasses program terms depth sign (location.Field field) atom)
        (λ others. BeginsFrom program terms depth made sign field atom) known asked
    field_handles sign field atom asked (rows.Handles.passes_field its method live own its_atom one passes) =
        inl (record { method = method; passes = record { live = live; passes = passes } })
    field_handles sign field atom asked (rows.Handles.begins its class is_made name there class_is own its_atom one gives) =
        inr (record {
          class = class;
          is_made = is_made;
          name = name;
          made_there = there;
          class_is = class_is;
          gives = gives;
        })

    result_handles : (task : Kind) (atom : Atom) (asked : Fact)
        → Handles program terms depth made known (Gives task atom) asked
        → Either (AnswerPasses program terms depth task atom) (GettersPass program terms depth task atom) known asked
    result_handles task atom asked (rows.Handles.passes_answer sign method own live its_atom one passes) =
        inl (record {
          sign = sign;
          method = method;
          is = refl;
          passes = record { method = own; passes = record { live = live; passes = passes } };
        })
    result_handles task atom asked (rows.Handles.passes_result its kind slot call held live its_atom one passes) =
        inr (record {
          kind = kind;
          slot = slot;
          call = call;
          held = held;
          passes = record { live = live; passes = passes };
        })

    starts_live : (kind : Kind) (asked : Fact) → KindStarts program terms depth kind known asked
        → Handles program terms depth made known (Live kind) asked
    starts_live kind asked kind_starts =
        let own = kind_starts.starts in
        rows.Handles.starts kind kind_starts.own kind_starts.has own.index own.starts.instruction own.term
        (record { there = own.there; instruction_is = own.starts.there }) asked own.starts.starts

    passes_result_of : (task : Kind) (atom : Atom) (asked : Fact)
        → Either (AnswerPasses program terms depth task atom) (GettersPass program terms depth task atom) known asked
        → Handles program terms depth made known (Gives task atom) asked
    passes_result_of task atom asked (inl answer) =
        subst (λ (it : Kind). Handles program terms depth made known (Gives it atom) asked) (sym answer.is)
        (rows.Handles.passes_answer answer.sign answer.method answer.passes.method answer.passes.passes.live atom asked
        answer.passes.passes.passes)
    passes_result_of task atom asked (inr getters) =
        rows.Handles.passes_result task getters.kind getters.slot getters.call getters.held getters.passes.live atom
        asked getters.passes.passes

    passes_field_of : (sign : Sign) (field : ℕ) (atom : Atom) (asked : Fact)
        → Either (ObjectPasses program terms depth sign (location.Field field) atom)
        (λ others. BeginsFrom program terms depth made sign field atom) known asked
        → Handles program terms depth made known (Field sign field atom) asked
    passes_field_of sign field atom asked (inl object) =
        rows.Handles.passes_field sign object.method object.passes.live field atom asked object.passes.passes
    passes_field_of sign field atom asked (inr begins) =
        rows.Handles.begins sign begins.class begins.is_made begins.name begins.made_there begins.class_is field atom
        asked begins.gives

  module _ {made later : List (Sign × ℕ)} {before now : Derivation} where
    -- it says that a kind is live
    pub handles_live : {fact : Fact} {kind : Kind} → fact ≡ Live kind
        → Makes program terms depth (KindStarts program terms depth kind) (KindMakes program terms depth kind) made later
        before now
        → Makes program terms depth (λ known. Handles program terms depth made known fact) (FactMakes fact) made later
        before now
    handles_live {fact} {kind} is step =
        subst (λ (it : Fact). Makes program terms depth (λ known. Handles program terms depth made known it)
        (FactMakes it) made later before now) (sym is)
        (makes_by program terms depth step (λ known asked. live_handles made known kind asked)
        (λ known asked. starts_live made known kind asked)
        (λ sign class makes. kind_makes (same_Some makes.0 kind (ap kind_of_live (sym makes.1))) makes.2)
        (λ sign class makes. (kind, refl, object_made makes)))
      where
        kind_makes : {own its : Kind} {sign : Sign} {class : ℕ} → own ≡ its
            → MakesObject program terms depth own sign class → KindMakes program terms depth its sign class
        kind_makes {own} {its} {sign} {class} same makes =
            subst (λ (it : Kind). KindMakes program terms depth it sign class) same (record {
              own = makes.own;
              has = makes.has;
              makes = record {
                index = makes.index;
                term = makes.term;
                there = makes.there.there;
                makes = record {
                  instruction = makes.instruction;
                  there = makes.there.instruction_is;
                  makes = record {
                    mode = makes.mode;
                    name = makes.name;
                    target = makes.target;
                    makes = makes.makes;
                    class_is = makes.class_is;
                    sign_is = makes.sign_is;
                  };
                };
              };
            })

        object_made : {own : Kind} {sign : Sign} {class : ℕ} → KindMakes program terms depth own sign class
            → MakesObject program terms depth own sign class
        object_made makes =
            let body = makes.makes in
            let here = body.makes.makes in
            record {
              own = makes.own;
              has = makes.has;
              index = body.index;
              instruction = body.makes.instruction;
              term = body.term;
              there = record { there = body.there; instruction_is = body.makes.there };
              mode = here.mode;
              name = here.name;
              target = here.target;
              makes = here.makes;
              class_is = here.class_is;
              sign_is = here.sign_is;
            }

  module _ {made : List (Sign × ℕ)} {before now : Derivation} where
    -- a fact that does not say that a kind is live makes no object
    other_makes : {fact : Fact} {Asked : List Fact → Fact → Type 0} → kind_of_live fact ≡ None → Adds Asked before now
        → ((known : List Fact) (asked : Fact) → Handles program terms depth made known fact asked → Asked known asked)
        → ((known : List Fact) (asked : Fact) → Asked known asked → Handles program terms depth made known fact asked)
        → Makes program terms depth (λ known. Handles program terms depth made known fact) (FactMakes fact) made made
        before now
    other_makes {fact} {Asked} other step to from =
        makes_by program terms depth (makes_of_adds program terms depth step) to from
        (λ sign class makes. none-some makes.0 (sym other ∙ ap kind_of_live makes.1)) (λ sign class none. absurd none)

    -- it says that a slot holds an atom
    pub handles_slot : {fact : Fact} {kind : Kind} {slot : ℕ} {atom : Atom} → fact ≡ Holds kind slot atom
        → Adds (LivePasses program terms depth kind (location.Slot slot) atom) before now
        → Makes program terms depth (λ known. Handles program terms depth made known fact) (FactMakes fact) made made
        before now
    handles_slot {fact} {kind} {slot} {atom} is step =
        subst (λ (it : Fact). Makes program terms depth (λ known. Handles program terms depth made known it)
        (FactMakes it) made made before now) (sym is)
        (other_makes refl step (λ known asked. slot_handles made known kind slot atom asked)
        (λ known asked passes. rows.Handles.passes kind passes.live slot atom asked passes.passes))

    -- it says that a field holds an atom
    pub handles_field : {fact : Fact} {sign : Sign} {field : ℕ} {atom : Atom} → fact ≡ Field sign field atom
        → Adds (Either (ObjectPasses program terms depth sign (location.Field field) atom)
        (λ known. BeginsFrom program terms depth made sign field atom)) before now
        → Makes program terms depth (λ known. Handles program terms depth made known fact) (FactMakes fact) made made
        before now
    handles_field {fact} {sign} {field} {atom} is step =
        subst (λ (it : Fact). Makes program terms depth (λ known. Handles program terms depth made known it)
        (FactMakes it) made made before now) (sym is)
        (other_makes refl step (λ known asked. field_handles made known sign field atom asked)
        (λ known asked. passes_field_of made known sign field atom asked))

    -- it says that a result holds an atom
    pub handles_result : {fact : Fact} {task : Kind} {atom : Atom} → fact ≡ Gives task atom
        → Adds (Either (AnswerPasses program terms depth task atom) (GettersPass program terms depth task atom)) before now
        → Makes program terms depth (λ known. Handles program terms depth made known fact) (FactMakes fact) made made
        before now
    handles_result {fact} {task} {atom} is step =
        subst (λ (it : Fact). Makes program terms depth (λ known. Handles program terms depth made known it)
        (FactMakes it) made made before now) (sym is)
        (other_makes refl step (λ known asked. result_handles made known task atom asked)
        (λ known asked. passes_result_of made known task atom asked))
