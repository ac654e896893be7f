-- The uses that the code adds are those of the statements and the initial values of a program.
--
--   `AllAdded`                         what the code adds for a program
--   `added_is`, `is_added`             all that is added is a use, and each use is added
--   `are_uses`                         the table of a program has its uses
use Rattle.std.proofs.Common.{◌≡◌, ◌⊎◌, ⊎_elim, inl, inr, ◌∙◌, ℕ, true, List, [], Option, Some, None, refl, sym, ap, subst, arith}
use Rattle.std.proofs.lemmas.List.Elements.{Contains-get_or}
use Rattle.std.proofs.lemmas.Option.{none-some, same_Some, get_or_from_slice_get, slice_get_within, slice_get-get_or}
use Rattle.std.specs.Map.{lookup}
use Rattle.std.specs.Prelude.{Contains, slice_get}
use Rattle.std.specs.declared.alloc.Global.{Global}
use Rattle.std.specs.declared.vec.Vec.{Vec}
use Rattle.abs_program.specs.Instructions.{EffectTree, CallsOwn, Gets, InstructionTree}
use Rattle.abs_tree.specs.Syntax.{ProgramTree}
use Rattle.contract_terms.specs.Terms.{TermTree}
use Rattle.contract_terms.specs.Views.{ClassTree, class_tree, class_if, class_in, main_in, method_if, methods_if, method_in}
use Rattle.contract_terms.specs.declared.term.ClassTerms.{ClassTerms}
use Rattle.contract_terms.specs.declared.term.MethodTerms.{MethodTerms}
use Rattle.contract_terms.specs.declared.terms.Terms.{Terms}
use Rattle.saturation.specs.Uses.{terms_if, body_terms, lets_in_something, reads_matter, TermAt, IsUse, reads_slot, reads_field, gets_future, gets_result, takes_answer, begins, AreUses, is_key, found_uses, uses_at}
use Rattle.saturation.specs.UsesAdded.{Added, Just, TermReads, Taken, Where, EffectUses, BodyUses, InitialUses, ClassUses, ClassesUse}
use Rattle.saturation.specs.declared.body.Body.{Body}
use Rattle.saturation.specs.declared.body.Body.TheVariants as body
use Rattle.saturation.specs.declared.uses.Location.{Location}
use Rattle.saturation.specs.declared.uses.Use.{Use}
use Rattle.saturation.specs.declared.uses.Uses.{Uses}

-- what is at an index of a list is in it
contains-there : {A : Type 0} (items : List A) (index : ℕ) (item : A) → slice_get items index ≡ Some item
    → Contains items item
contains-there items index item there =
    subst (Contains items) (get_or_from_slice_get items index item item there)
    (Contains-get_or items index item (slice_get_within items index item there))

-- what is in a list is at an index of it
index-contained : {A : Type 0} (items : List A) (item : A) → Contains items item
    → (index : ℕ) × (slice_get items index ≡ Some item)
index-contained items item has = (has.0, slice_get-get_or items has.0 item has.1 ∙ ap Some has.2)

-- the one use that was added is a use, if that one is
just_is : (program : ProgramTree) (terms : Terms) {reader own : Body} {place_read place : Location} {one use_ : Use}
    → IsUse program terms reader place_read one → Just reader place_read one own place use_
    → IsUse program terms own place use_
just_is program terms {reader} {own} {place_read} {place} {one} {use_} given just =
    let OfBody : Body → Type 0 = λ other. IsUse program terms other place_read one in
    let OfPlace : Location → Type 0 = λ other. IsUse program terms own other one in
    subst (IsUse program terms own place) (sym just.use_is)
    (subst OfPlace (sym just.place_is) (subst OfBody (sym just.own_is) given))

-- the uses by what a term reads
reads_use : (program : ProgramTree) (terms : Terms) (reader own : Body) (place : Location) (use_ : Use) (index : ℕ)
    (instruction : InstructionTree) (term : TermTree) → TermAt program terms reader index instruction term
    → Where (reads_matter instruction.effect term.accepts) (TermReads reader index term.reads) own place use_
    → IsUse program terms own place use_
reads_use program terms reader own place use_ index instruction term at (matters, each) =
    ⊎_elim
    (λ slot. just_is program terms
    (reads_slot reader index instruction term at matters each.index each.item each.there slot.item
    (contains-there each.item.slots slot.index slot.item slot.there)) slot.holds)
    (λ field. just_is program terms
    (reads_field reader index instruction term at matters each.index each.item each.there field.item
    (contains-there each.item.fields field.index field.item field.there)) field.holds)
    each.holds

-- the uses of what goes to a target as it is
taken_use : (program : ProgramTree) (terms : Terms) (reader own : Body) (place : Location) (use_ : Use) (index : ℕ)
    (instruction : InstructionTree) (term : TermTree) → TermAt program terms reader index instruction term
    → lets_in_something term.accepts ≡ true → (effect : EffectTree) → instruction.effect ≡ effect
    → Taken program.names reader index effect own place use_ → IsUse program terms own place use_
taken_use program terms reader own place use_ index instruction term at open_is (Gets (Some slot) target) is taken =
    ⊎_elim
    (λ just. just_is program terms (gets_future reader index instruction term at open_is slot target is) just)
    (λ just. just_is program terms (gets_result reader index instruction term at open_is slot target is) just)
    taken
taken_use program terms reader own place use_ index instruction term at open_is (CallsOwn method target) is just =
    just_is program terms (takes_answer reader index instruction term at open_is method target is) just
taken_use program terms reader own place use_ index instruction term at open_is (Gets None target) is none =
    absurd none
taken_use program terms reader own place use_ index instruction term at open_is _ is none = absurd none

-- what is added for the terms of a body is a use
terms_use : (program : ProgramTree) (terms : Terms) (reader own : Body) (place : Location) (use_ : Use)
    (list : List TermTree) → body_terms program.names terms reader ≡ list
    → BodyUses program reader list own place use_ → IsUse program terms own place use_
terms_use program terms reader own place use_ list list_is each =
    let instruction = each.holds.0 in
    let at : TermAt program terms reader each.index instruction each.item = record {
      there = ap (λ (terms_there : List TermTree). slice_get terms_there each.index) list_is ∙ each.there;
      instruction_is = each.holds.1;
    } in
    ⊎_elim (reads_use program terms reader own place use_ each.index instruction each.item at)
    (λ both. taken_use program terms reader own place use_ each.index instruction each.item at both.0
    instruction.effect refl both.1)
    each.holds.2

-- what is added for a class is a use
class_use : (program : ProgramTree) (terms : Terms) (own : Body) (place : Location) (use_ : Use) (class : ℕ)
    (item : Option ClassTerms) → slice_get terms.classes.items class ≡ Some item
    → ClassUses program class item own place use_ → IsUse program terms own place use_
unfolding class_in method_in body_terms
class_use program terms own place use_ class None there none = absurd none
class_use program terms own place use_ class (Some item) there either =
    ⊎_elim
    (λ each.
    let tree = class_tree program.names item in
    let slot = each.holds in
    just_is program terms
    (begins class tree (ap (class_if program.names) there) each.index each.item each.there slot.item
    (contains-there each.item.slots slot.index slot.item slot.there)) slot.holds)
    (λ each.
    let names = program.names in
    let method_is : method_in names terms class each.index ≡ method_if names (Some each.item) =
    ap (λ (found : Option (Option ClassTerms)). methods_if names found each.index) there
    ∙ ap (method_if names) each.there in
    terms_use program terms (body.Method class each.index) own place use_
    (terms_if (method_if names (Some each.item))) (ap terms_if method_is) each.holds)
    either

-- what the code adds for a program
abbrev AllAdded : ProgramTree → Terms → Body → Location → Use → Type 0
AllAdded program terms own place use_ =
    BodyUses program body.Main (main_in program.names terms) own place use_
    ⊎ ClassesUse program terms.classes.items own place use_

-- all that is added is a use
added_is : (program : ProgramTree) (terms : Terms) (own : Body) (place : Location) (use_ : Use)
    → AllAdded program terms own place use_ → IsUse program terms own place use_
unfolding body_terms
added_is program terms own place use_ either =
    ⊎_elim (terms_use program terms body.Main own place use_ (main_in program.names terms) refl)
    (λ each. class_use program terms own place use_ each.index each.item each.there each.holds) either

-- a method's uses are added
method_added : (program : ProgramTree) (terms : Terms) (class member : ℕ) (own : Body) (place : Location) (use_ : Use)
    (item : ClassTerms) → slice_get terms.classes.items class ≡ Some (Some item)
    → (method : Option (Option MethodTerms)) → slice_get item.methods.items member ≡ method
    → BodyUses program (body.Method class member) (terms_if (method_if program.names method)) own place use_
    → AllAdded program terms own place use_
method_added program terms class member own place use_ item there None none each =
    absurd (none-some each.item each.there)
method_added program terms class member own place use_ item there (Some method) is each = inr (record {
  index = class;
  item = Some item;
  there = there;
  holds = inr (record { index = member; item = method; there = is; holds = each });
})

-- so are those of a method of a class that is there or not
member_added : (program : ProgramTree) (terms : Terms) (class member : ℕ) (own : Body) (place : Location) (use_ : Use)
    (found : Option (Option ClassTerms)) → slice_get terms.classes.items class ≡ found
    → BodyUses program (body.Method class member) (terms_if (methods_if program.names found member)) own place use_
    → AllAdded program terms own place use_
member_added program terms class member own place use_ None is each = absurd (none-some each.item each.there)
member_added program terms class member own place use_ (Some None) is each = absurd (none-some each.item each.there)
member_added program terms class member own place use_ (Some (Some item)) is each =
    method_added program terms class member own place use_ item is (slice_get item.methods.items member) refl each

-- the uses by the terms of a body are added
body_added : (program : ProgramTree) (terms : Terms) (reader own : Body) (place : Location) (use_ : Use)
    → BodyUses program reader (body_terms program.names terms reader) own place use_
    → AllAdded program terms own place use_
unfolding body_terms method_in
body_added program terms body.Main own place use_ each = inl each
body_added program terms (body.Method class member) own place use_ each =
    member_added program terms class member own place use_ (slice_get terms.classes.items class) refl each
body_added program terms (body.Initials class) own place use_ each = absurd (none-some each.item each.there)

-- a use by a term is among those by the terms of its body
term_added : (program : ProgramTree) (terms : Terms) (reader own : Body) (place : Location) (use_ : Use) (index : ℕ)
    (instruction : InstructionTree) (term : TermTree) → TermAt program terms reader index instruction term
    → EffectUses program.names reader index instruction.effect term own place use_
    → AllAdded program terms own place use_
term_added program terms reader own place use_ index instruction term at holds =
    body_added program terms reader own place use_ (record {
      index = index;
      item = term;
      there = at.there;
      holds = (instruction, at.instruction_is, holds);
    })

-- the uses by an initial value are added
initial_added : (program : ProgramTree) (terms : Terms) (class : ℕ) (tree : ClassTree) (own : Body) (place : Location)
    (use_ : Use) (found : Option (Option ClassTerms)) → slice_get terms.classes.items class ≡ found
    → class_if program.names found ≡ Some tree → InitialUses class tree.initials own place use_
    → AllAdded program terms own place use_
initial_added program terms class tree own place use_ None is no_class each = absurd (none-some tree no_class)
initial_added program terms class tree own place use_ (Some None) is no_class each = absurd (none-some tree no_class)
initial_added program terms class tree own place use_ (Some (Some item)) is class_is each =
    let Holds : ClassTree → Type 0 = λ other. InitialUses class other.initials own place use_ in
    let moved = subst Holds (sym (same_Some (class_tree program.names item) tree class_is)) each in
    inr (record { index = class; item = Some item; there = is; holds = inl moved })

-- one use, as it is added
this_one : (reader : Body) (place : Location) (one : Use) → Just reader place one reader place one
this_one reader place one = record { own_is = refl; place_is = refl; use_is = refl }

-- each use is added
is_added : (program : ProgramTree) (terms : Terms) (own : Body) (place : Location) (use_ : Use)
    → IsUse program terms own place use_ → AllAdded program terms own place use_
unfolding class_in
is_added program terms own place use_
    (reads_slot reader index instruction term at matters expr reads there slot contained) =
    let found = index-contained reads.slots slot contained in
    term_added program terms own own place use_ index instruction term at
    (inl (
      matters,
      record {
        index = expr;
        item = reads;
        there = there;
        holds = inl (record {
          index = found.0;
          item = slot;
          there = found.1;
          holds = this_one own place use_;
        });
      },
    ))
is_added program terms own place use_
    (reads_field reader index instruction term at matters expr reads there field contained) =
    let found = index-contained reads.fields field contained in
    term_added program terms own own place use_ index instruction term at
    (inl (
      matters,
      record {
        index = expr;
        item = reads;
        there = there;
        holds = inr (record {
          index = found.0;
          item = field;
          there = found.1;
          holds = this_one own place use_;
        });
      },
    ))
is_added program terms own place use_ (gets_future reader index instruction term at open_is slot target is) =
    let Holds : EffectTree → Type 0 = λ effect. Taken program.names own index effect own place use_ in
    term_added program terms own own place use_ index instruction term at
    (inr (open_is, subst Holds (sym is) (inl (this_one own place use_))))
is_added program terms own place use_ (gets_result reader index instruction term at open_is slot target is) =
    let Holds : EffectTree → Type 0 = λ effect. Taken program.names own index effect own place use_ in
    term_added program terms own own place use_ index instruction term at
    (inr (open_is, subst Holds (sym is) (inr (this_one own place use_))))
is_added program terms own place use_ (takes_answer reader index instruction term at open_is method target is) =
    let Holds : EffectTree → Type 0 = λ effect. Taken program.names own index effect own place use_ in
    term_added program terms own own place use_ index instruction term at
    (inr (open_is, subst Holds (sym is) (this_one own place use_)))
is_added program terms own place use_ (begins class tree class_is index reads there slot contained) =
    let found = index-contained reads.slots slot contained in
    initial_added program terms class tree own place use_ (slice_get terms.classes.items class) refl class_is
    (record {
      index = index;
      item = reads;
      there = there;
      holds = record { index = found.0; item = slot; there = found.1; holds = this_one own place use_ };
    })

-- a table without entries has no use
none_at_first : (empty : Uses) → empty.uses.entries ≡ [] → (own : Body) (place : Location) (use_ : Use)
    → Contains (uses_at empty own place) use_ → ⊥
unfolding uses_at
none_at_first empty none own place use_ has =
    let nothing : uses_at empty own place ≡ [] =
    ap (λ (entries : List ((Body × Location) × Vec Use Global)). found_uses (lookup (is_key own place) entries)) none in
    let In : List Use → Type 0 = λ list. Contains list use_ in
    let within = (subst In nothing has).1 in
    absurd (omega (arith, within))

-- the table of a program has its uses
pub are_uses : (program : ProgramTree) (terms : Terms) {empty mains all : Uses} → empty.uses.entries ≡ []
    → Added (BodyUses program body.Main (main_in program.names terms)) empty mains
    → Added (ClassesUse program terms.classes.items) mains all → AreUses program terms all
are_uses program terms {empty} {mains} {all} none first second own place use_ =
    let one = first.has own place use_ in
    let other = second.has own place use_ in
    let forth : Contains (uses_at all own place) use_ → AllAdded program terms own place use_ =
    λ has. ⊎_elim
    (λ had. ⊎_elim (λ before. absurd (none_at_first empty none own place use_ before)) inl (one.0 had))
    inr (other.0 has) in
    let back : AllAdded program terms own place use_ → Contains (uses_at all own place) use_ =
    λ added. other.1 (⊎_elim (λ of_main. inl (one.1 (inr of_main))) inr added) in
    (λ has. added_is program terms own place use_ (forth has), λ is. back (is_added program terms own place use_ is))
