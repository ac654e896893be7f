-- The work list: what holds where the first facts of a derivation were handled.
--
--   `IsMade`, `object_made`        objects of a class are made at the place of a sign
--   `IsHandledUpTo`                some facts of a derivation were handled, in a program
--   `work_begins`, `work_goes_on`, `work_ends`     at the start, after one fact more, and at the end
use Rattle.std.proofs.Common.{◌≡◌, ⊎_elim, ℕ, ◌≤◌, ◌+◌, true, List, [], ◌∷◌, ◌++◌, take, length, Contains, refl, sym, ap, subst, arith, rules, ◌∙◌}
use Rattle.std.specs.List.{flat_map}
use Rattle.std.specs.Prelude.{Option, Some, cond, nat_eq, slice_get}
use Rattle.std.proofs.lemmas.List.{length-append, take-append-le, take_more, take_all}
use Rattle.std.proofs.lemmas.List.Concat.{flat_map-cons}
use Rattle.std.proofs.lemmas.List.Elements.{Contains-append_left, Contains-append_right, Contains-get_or, Contains-push, Contains-push_cases}
use Rattle.std.proofs.lemmas.Option.{get_or_from_slice_get, same_Some, slice_get_within}
use Rattle.list_facts.proofs.AllLemmas.{Contains-head_or_tail}
use Rattle.abs_program.specs.Instructions.{Makes as MakesEffect, InstructionTree, instructions}
use Rattle.abs_tree.specs.Syntax.{Name, VariableTree, ProgramTree, SourceTree}
use Rattle.abs_tree.specs.declared.syntax.statement.Mode.{Mode}
use Rattle.abs_tree.specs.declared.syntax.statement.Mode.TheVariants as mode
use Rattle.contract_terms.proofs.DerivedLemmas.{handled_step}
use Rattle.contract_terms.specs.Asks.{IsClosedFor, Rests, main_lives, asked_by}
use Rattle.contract_terms.specs.Derived.{AllHold, IsHandled}
use Rattle.contract_terms.specs.KindBodies.{new_sign}
use Rattle.contract_terms.specs.Made.{class_made, class_of_effect, classes_made}
use Rattle.contract_terms.specs.ProgramTerms.{AreTermsOf}
use Rattle.contract_terms.specs.declared.fact.Atom.{Atom}
use Rattle.contract_terms.specs.declared.fact.Fact.{Fact}
use Rattle.contract_terms.specs.declared.fact.Fact.TheVariants.{Live, Field}
use Rattle.contract_terms.specs.declared.terms.Terms.{Terms}
use Rattle.name_bounding.specs.declared.kind.Kind.{Kind}
use Rattle.name_bounding.specs.declared.kind.Kind.TheVariants.{Main}
use Rattle.name_bounding.specs.declared.kind.Sign.{Sign}
use Rattle.saturation.proofs.CompleteLemmas.{complete}
use Rattle.saturation.proofs.SoundLemmas.{sound, sound_begins}
use Rattle.saturation.specs.Finished.{IsFinished}
use Rattle.saturation.specs.MakeSteps.{Begun, Makes}
use Rattle.saturation.specs.Rows.{begins, ClassIs, Handles, InitialGives, MakesObject}
use Rattle.saturation.specs.Steps.{GoesOn, AreAmong, Adds, Just}
use Rattle.saturation.specs.declared.derivation.Derivation.{Derivation}

-- an element that is found at an index is there
found_there : {A : Type 0} (list : List A) (index : ℕ) (one : A) → slice_get list index ≡ Some one → Contains list one
found_there list index one is =
    subst (λ it. Contains list it) (get_or_from_slice_get list index one one is)
    (Contains-get_or list index one (slice_get_within list index one is))

-- what is in the list of an element is in that of all
there_of_all : {A B : Type 0} (lists : A → List B) (all : List A) (one : A) (element : B) → Contains all one
    → Contains (lists one) element → Contains (flat_map lists all) element
there_of_all lists [] one element there inside = absurd (omega (arith, there.1))
there_of_all lists (first ∷ others) one element there inside =
    subst (λ list. Contains list element) (sym (flat_map-cons lists first others))
    (⊎_elim
    (λ same. Contains-append_left (lists first) (flat_map lists others) element
    (subst (λ it. Contains (lists it) element) (sym same) inside))
    (λ later. Contains-append_right (lists first) (flat_map lists others) element
    (there_of_all lists others one element later inside))
    (Contains-head_or_tail first others one there))

nat_eq_itself : (number : ℕ) → nat_eq number number ≡ true
nat_eq_itself number = search rules

-- an instruction that makes an object of a class makes it at its place
class_there : (source : SourceTree) (index : ℕ) (instruction : InstructionTree) (mode : Mode) (class : Name)
    (target : Option VariableTree) → slice_get (instructions source) index ≡ Some instruction
    → instruction.effect ≡ MakesEffect mode class target → Contains (classes_made source instruction.place) class
unfolding classes_made
class_there source index instruction mode class target there makes =
    there_of_all (class_made instruction.place) (instructions source) instruction class
    (found_there (instructions source) index instruction there)
    (subst (λ list. Contains list class)
    (sym (ap (λ same. cond same (class_of_effect instruction.effect) []) (nat_eq_itself instruction.place)
    ∙ ap class_of_effect makes))
    (Contains-push [] class))

-- the sign of a new object has the place of the statement
new_place : (depth place : ℕ) (mode : Mode) (kind : Kind) → (new_sign depth place mode kind).place ≡ place
new_place depth place mode.Cog kind = refl
new_place depth place mode.Plain kind = refl
new_place depth place (mode.Local line) kind = refl

-- Objects of the class with an index are made at the place of a sign.
pub record IsMade (program : ProgramTree) (sign : Sign) (class : ℕ) : Type 0 where
  pub name : Name
  pub made_there : Contains (classes_made program.source sign.place) name
  pub class_is : ClassIs program name class

-- they are if a statement of a kind makes an object with the sign
object_made : (program : ProgramTree) (terms : Terms) (depth : ℕ) (kind : Kind) (sign : Sign) (class : ℕ)
    → MakesObject program terms depth kind sign class → IsMade program sign class
object_made program terms depth kind sign class object = record {
  name = object.name;
  made_there = subst (λ place. Contains (classes_made program.source place) object.name)
      (sym (ap (λ (it : Sign). it.place) object.sign_is
      ∙ new_place depth object.instruction.place object.mode kind))
      (class_there program.source object.term.index object.instruction object.mode object.name object.target
      object.there.instruction_is object.makes);
  class_is = object.class_is;
}

-- more facts have the next one too
pub next_within : {A : Type 0} (before more now : List A) (position : ℕ) (one : A) → now ≡ before ++ more
    → slice_get before position ≡ Some one → position + 1 ≤ length now
next_within before more now position one grown is =
    let within = slice_get_within before position one is in
    let long = ap length grown ∙ length-append before more in
    omega (arith, within, long)

module _ (program : ProgramTree) (terms : Terms) (depth : ℕ) where
  -- These facts of a derivation were handled. The objects that live kinds among them make are made, and each fact is in
  -- each closed list.
  pub record IsHandledUpTo (made : List (Sign × ℕ)) (derivation : Derivation) (done : List Fact) : Type 0 where
    pub among : AreAmong done derivation.facts
    pub handled : GoesOn derivation → IsHandled (Rests program depth) done derivation.facts
    pub begun : GoesOn derivation → Begun program terms depth made done derivation.facts
    pub objects : GoesOn derivation → (kind : Kind) → Contains done (Live kind) → (sign : Sign) (class : ℕ)
        → MakesObject program terms depth kind sign class → Contains made (sign, class)
    pub are_made : (sign : Sign) (class : ℕ) → Contains made (sign, class) → IsMade program sign class
    pub derived : (list : List Fact) → IsClosedFor program depth (Contains list)
        → AreAmong derivation.facts list × Begun program terms depth made list list

  -- nothing rests on no facts but that main is live
  rests_on_none : (premises : List Fact) (fact : Fact) → Rests program depth premises fact
      → AllHold (Contains []) premises → Live Main ≡ fact
  rests_on_none _ _ main_lives hold = refl
  rests_on_none _ _ (asked_by kind index premises fact asks) hold = absurd (omega (arith, hold.0.1))

  -- that a kind is live is not what a field holds
  live_no_field : (kind : Kind) (sign : Sign) (slot : ℕ) (atom : Atom) → Live kind ≡ Field sign slot atom → ⊥
  live_no_field kind sign slot atom same = cc

  -- at the start main is live, and no fact was handled
  pub work_begins : (before now : Derivation) → before.facts ≡ [] → Adds (Just (Some (Live Main))) before now
      → IsHandledUpTo [] now []
  work_begins before now empty step = record {
    among = λ fact there. absurd (omega (arith, there.1));
    handled = λ going premises fact rests hold. step.all going [] (λ one there. absurd (omega (arith, there.1))) fact
        (ap Some (rests_on_none premises fact rests hold));
    begun = λ going sign class there. absurd (omega (arith, there.1));
    objects = λ going kind there. absurd (omega (arith, there.1));
    are_made = λ sign class there. absurd (omega (arith, there.1));
    derived = λ list closed. (
      step.only list (λ fact there. absurd (omega (arith, (subst (λ facts. Contains facts fact) empty there).1)))
          (λ fact asked. subst (λ it. Contains list it) (same_Some (Live Main) fact asked)
          (closed [] (Live Main) main_lives tt)),
      λ sign class there. absurd (omega (arith, there.1)),
    );
  }

  -- what a step leaves, after which the facts of before and one more were handled
  module _ (are : AreTermsOf program terms) {made later : List (Sign × ℕ)} {before now : Derivation} {done : List Fact}
      {fact : Fact} (old : IsHandledUpTo made before done) (there : Contains before.facts fact)
      (step : Makes program terms depth (λ known. Handles program terms depth made known fact)
      (λ sign class. (kind : Kind) × (fact ≡ Live kind) × MakesObject program terms depth kind sign class)
      made later before now) where
    -- the facts before the step are there after it
    kept : AreAmong before.facts now.facts
    kept one inside = subst (λ list. Contains list one) (sym step.grown)
        (Contains-append_left before.facts step.more one inside)

    -- those that were handled, and this one, are there before it
    known_there : AreAmong (done ++ fact ∷ []) before.facts
    known_there one inside = ⊎_elim (λ earlier. old.among one earlier)
        (λ same. subst (λ it. Contains before.facts it) same there)
        (Contains-push_cases done fact one inside)

    -- each object is one of a class that is made at its place
    now_made : (sign : Sign) (class : ℕ) → Contains later (sign, class) → IsMade program sign class
    now_made sign class inside = ⊎_elim (λ earlier. old.are_made sign class earlier)
        (λ new. object_made program terms depth new.0 sign class new.2)
        (step.only_made sign class inside)

    -- what the initial values give of an object, from the field that this fact tells of
    begun_here : GoesOn now → (sign : Sign) (class : ℕ) → Contains later (sign, class) → (slot : ℕ) (atom : Atom)
        → fact ≡ Field sign slot atom → (asked : Fact)
        → InitialGives program terms depth class sign slot atom asked → Contains now.facts asked
    begun_here going sign class inside slot atom is asked gives = ⊎_elim
        (λ earlier. let made_is = old.are_made sign class earlier in
        (step.all going done old.among).1 asked
        (subst (λ (it : Fact). Handles program terms depth made done it asked) (sym is)
        (begins sign class earlier made_is.name made_is.made_there made_is.class_is slot atom asked gives)))
        (λ new. absurd (live_no_field new.0 sign slot atom (sym new.1 ∙ is)))
        (step.only_made sign class inside)

    -- what the initial values give from these facts is there
    now_begun : GoesOn now → Begun program terms depth later (done ++ fact ∷ []) now.facts
    now_begun going sign class inside asked gives = ⊎_elim
        (λ earlier. (step.all going done old.among).0 (old.begun (step.went_on going)) sign class inside asked
        (record { slot = gives.slot; atom = gives.atom; held = earlier; gives = gives.gives }))
        (λ same. begun_here going sign class inside gives.slot gives.atom same asked gives.gives)
        (Contains-push_cases done fact (Field sign gives.slot gives.atom) gives.held)

    -- the objects that live kinds among these facts make are made
    now_objects : GoesOn now → (kind : Kind) → Contains (done ++ fact ∷ []) (Live kind) → (sign : Sign) (class : ℕ)
        → MakesObject program terms depth kind sign class → Contains later (sign, class)
    now_objects going kind live sign class object = ⊎_elim
        (λ earlier. step.stays sign class (old.objects (step.went_on going) kind earlier sign class object))
        (λ same. step.makes going sign class (kind, same, object))
        (Contains-push_cases done fact (Live kind) live)

    -- what rests on this fact and on these is there
    now_rests : GoesOn now → (first last : List Fact) (asked : Fact) → Rests program depth (first ++ fact ∷ last) asked
        → AllHold (Contains (done ++ fact ∷ [])) (first ++ fact ∷ last) → Contains now.facts asked
    now_rests going first last asked rests hold = ⊎_elim
        (λ handles. (step.all going (done ++ fact ∷ []) known_there).1 asked handles)
        (λ here. now_begun going here.sign here.class
        (now_objects going here.kind here.live here.sign here.class here.makes) asked
        (record { slot = here.slot; atom = here.atom; held = here.held; gives = here.gives }))
        (complete program depth terms are made (done ++ fact ∷ []) first last fact asked rests hold)

    -- each fact is in each closed list
    now_derived : (list : List Fact) → IsClosedFor program depth (Contains list)
        → AreAmong now.facts list × Begun program terms depth later list list
    now_derived list closed =
        let before_derived = old.derived list closed in
        let here = before_derived.0 fact there in
        step.only list before_derived.0
        (λ asked handles. sound program depth terms are list closed made before_derived.1 fact asked here handles)
        (λ sign class new asked gives. sound_begins program depth terms are list closed new.0 sign class
        (subst (λ it. Contains list it) new.1 here) new.2 asked gives)
        before_derived.1

    -- one fact more was handled
    pub work_goes_on : IsHandledUpTo later now (done ++ fact ∷ [])
    work_goes_on = record {
      among = λ one inside. kept one (known_there one inside);
      handled = λ going. handled_step (Rests program depth) done fact before.facts now.facts
          (old.handled (step.went_on going)) kept (now_rests going);
      begun = now_begun;
      objects = now_objects;
      are_made = now_made;
      derived = now_derived;
    }

  -- where all facts were handled, the derivation has come to its end
  pub work_ends : (made : List (Sign × ℕ)) (derivation : Derivation) (position : ℕ)
      → (GoesOn derivation → length derivation.facts ≤ position)
      → IsHandledUpTo made derivation (take position derivation.facts) → IsFinished program depth derivation
  work_ends made derivation position over old = record {
    derived = λ list closed. (old.derived list closed).0;
    closed = λ going. subst (λ done. IsHandled (Rests program depth) done derivation.facts)
        (take_all position derivation.facts (over going)) (old.handled going);
  }

  -- the first facts, and the next one, are the first facts after a step
  one_more : (before more now : List Fact) (position : ℕ) (fact : Fact) → now ≡ before ++ more
      → slice_get before position ≡ Some fact → take (position + 1) now ≡ take position before ++ fact ∷ []
  one_more before more now position fact grown is =
      let within = slice_get_within before position fact is in
      ap (take (position + 1)) grown
      ∙ take-append-le (position + 1) before more (omega (arith, within))
      ∙ take_more before position fact within
      ∙ ap (λ one. take position before ++ one ∷ []) (get_or_from_slice_get before position fact fact is)

  -- one turn of the loop
  pub work_turn : (made later : List (Sign × ℕ)) (before now : Derivation) (position : ℕ) (fact : Fact)
      → slice_get before.facts position ≡ Some fact
      → Makes program terms depth (λ known. Handles program terms depth made known fact)
      (λ sign class. (kind : Kind) × (fact ≡ Live kind) × MakesObject program terms depth kind sign class)
      made later before now
      → AreTermsOf program terms → IsHandledUpTo made before (take position before.facts)
      → IsHandledUpTo later now (take (position + 1) now.facts)
  work_turn made later before now position fact is step are old =
      subst (IsHandledUpTo later now) (sym (one_more before.facts step.more now.facts position fact step.grown is))
      (work_goes_on are old (found_there before.facts position fact is) step)
