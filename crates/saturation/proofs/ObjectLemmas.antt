-- New objects: what fills their fields, and what their initial values give.
--
--   `class_same`, `no_class`       a name stands for one class, or for none
--   `no_field`, `not_let_in`, `fill_adds`, `fills_field`   what fills a field
--   `FillsFromInitial`, `initial_turn`, `initials_done`    what the initial values of a class give
--   `uses_done`                    what they give from one atom, by the uses of its field
--   `named_adds`, `named_done`     that of the class with a name, and of all classes made at a place
--   `made_new`, `made_none`        an object is made of a class, or of none
--   `runs_adds`, `is_active`       the task of an active object is live
use Rattle.std.proofs.Common.{◌≡◌, ◌⊎◌, inl, inr, ⊎_elim, true, false, true≢false, ℕ, ◌+◌, ◌<◌, ◌≤◌, List, [], map, length, Contains, Option, Some, None, refl, sym, ap, subst, arith, ◌∙◌}
use Rattle.std.specs.Prelude.{codes, get_or, is_some, slice_get}
use Rattle.std.proofs.lemmas.Option.{none-some, same_Some, slice_get_within}
use Rattle.list_facts.proofs.EntryLemmas.{slice_get-map_there}
use Rattle.list_facts.proofs.OptionLemmas.{is_some-found}
use Rattle.abs_program.specs.Bodies.{ClassEntryTree, class_entry}
use Rattle.abs_program.specs.NameSpaces.{spaces_of}
use Rattle.abs_program.specs.Tables.{meaning_of}
use Rattle.abs_program.specs.declared.name_spaces.Taking.{Taking}
use Rattle.abs_tree.specs.Names.{name_of}
use Rattle.abs_tree.specs.Syntax.{Name, VariableTree, ProgramTree}
use Rattle.abs_tree.specs.declared.symbol.Symbol.{Symbol}
use Rattle.contract_terms.specs.Accepts.{AcceptsTree}
use Rattle.contract_terms.specs.Atoms.{held_by, is_let_in}
use Rattle.contract_terms.specs.KindBodies.{called}
use Rattle.contract_terms.specs.Made.{classes_made}
use Rattle.contract_terms.specs.Reading.{ReadsTree}
use Rattle.contract_terms.specs.Views.{ClassTree, class_in, reads_tree}
use Rattle.contract_terms.specs.declared.fact.Atom.{Atom}
use Rattle.contract_terms.specs.declared.fact.Atom.TheVariants.{Object}
use Rattle.contract_terms.specs.declared.fact.Fact.{Fact}
use Rattle.contract_terms.specs.declared.fact.Fact.TheVariants.{Field, Live}
use Rattle.contract_terms.specs.declared.term.Reads.{Reads}
use Rattle.contract_terms.specs.declared.terms.Terms.{Terms}
use Rattle.name_bounding.specs.declared.kind.Kind.{Kind}
use Rattle.name_bounding.specs.declared.kind.Sign.{Sign}
use Rattle.saturation.specs.Initials.{FillsWith, FillsFromSlot, field_if, field_in, BeginsNamed, RunsIfActive}
use Rattle.saturation.specs.MakeSteps.{Makes}
use Rattle.saturation.specs.Rows.{ClassIs, FieldLetsIn, FillsField, IsActiveClass, MakesStep, Begins, BeginsFrom, InitialGives, class_params}
use Rattle.saturation.specs.Steps.{Adds, Nothing, Just, Each}
use Rattle.saturation.specs.Uses.{IsUse, body_terms}
use Rattle.saturation.specs.declared.body.Body.TheVariants as body
use Rattle.saturation.specs.declared.derivation.Derivation.{Derivation}
use Rattle.saturation.specs.declared.uses.Location.TheVariants as location
use Rattle.saturation.specs.declared.uses.Part.TheVariants as part
use Rattle.saturation.specs.declared.uses.Use.{Use}
use Rattle.saturation.proofs.EachLemmas.{UpTo}
use Rattle.saturation.proofs.ImageLemmas.{contains_map, contains_mapped}
use Rattle.saturation.proofs.MakeLemmas.{makes_by, makes_of_adds, makes_then}
use Rattle.saturation.proofs.StepLemmas.{adds_by, adds_then}

-- what a name stands for as that of a class
abbrev meaning_in : ProgramTree → Name → Option Taking
meaning_in program name = meaning_of (spaces_of program.source.declarations).classes name

-- a name stands for one class
pub class_same : {program : ProgramTree} {name : Name} {class : ℕ} (taking : Taking)
    → meaning_in program name ≡ Some taking → ClassIs program name class → taking.declaration ≡ class
class_same taking is class_is =
    ap (λ (it : Taking). it.declaration) (same_Some taking class_is.taking (sym is ∙ class_is.named)) ∙ class_is.is

-- a name that stands for no class names none
pub no_class : {program : ProgramTree} {name : Name} {class : ℕ} → meaning_in program name ≡ None
    → ClassIs program name class → ⊥
no_class none class_is = none-some class_is.taking (sym none ∙ class_is.named)

module _ (program : ProgramTree) (terms : Terms) where
  -- what a field lets in, by what a field of a class lets in
  field_tree : (class field : ℕ) (atom : Atom) (lets_in : FieldLetsIn program terms class field atom)
      → field_in program.names terms class field ≡ Some lets_in.accepts
  unfolding field_in
  field_tree class field atom lets_in =
      ap (λ tree. field_if tree field) lets_in.class_is ∙ lets_in.there

  -- a field that lets in an atom
  pub field_lets_in : (class field : ℕ) (atom : Atom) (accepts : AcceptsTree)
      → field_in program.names terms class field ≡ Some accepts → is_let_in program.source accepts atom ≡ true
      → FieldLetsIn program terms class field atom
  unfolding field_in
  field_lets_in class field atom accepts is let_in = go (class_in program.names terms class) refl is
    where
      go : (found : Option ClassTree) → class_in program.names terms class ≡ found
          → field_if found field ≡ Some accepts → FieldLetsIn program terms class field atom
      go None found_is there = absurd (none-some accepts there)
      go (Some tree) found_is there =
          record { tree = tree; class_is = found_is; accepts = accepts; there = there; let_in = let_in }

  module _ (class field : ℕ) (sign : Sign) (atom : Atom) where
    -- a field that is not there lets nothing in
    pub no_field : field_in program.names terms class field ≡ None → (known : List Fact) (fact : Fact)
        → FillsWith program terms class sign field atom known fact → ⊥
    no_field none known fact fills =
        none-some fills.let_in.accepts (sym none ∙ field_tree class field atom fills.let_in)

    -- what is not let in fills no field
    pub not_let_in : (accepts : AcceptsTree) → field_in program.names terms class field ≡ Some accepts
        → is_let_in program.source accepts atom ≡ false → (known : List Fact) (fact : Fact)
        → FillsWith program terms class sign field atom known fact → ⊥
    not_let_in accepts is out known fact fills =
        let same = same_Some accepts fills.let_in.accepts (sym is ∙ field_tree class field atom fills.let_in) in
        true≢false (sym fills.let_in.let_in
        ∙ ap (λ it. is_let_in program.source it atom) (sym same) ∙ out)

    -- what is let in fills the field
    pub fill_adds : {before between now : Derivation} (accepts : AcceptsTree) (one : Fact)
        → field_in program.names terms class field ≡ Some accepts → is_let_in program.source accepts atom ≡ true
        → one ≡ Field sign field atom → Adds Nothing before between → Adds (Just (Some one)) between now
        → Adds (FillsWith program terms class sign field atom) before now
    fill_adds accepts one is let_in one_is first next = adds_by (adds_then first next)
        (λ known fact fills. inr (ap Some (one_is ∙ sym fills.is)))
        (λ known fact either. ⊎_elim (λ none. absurd none) (λ just. record {
          let_in = field_lets_in class field atom accepts is let_in;
          is = sym (same_Some one fact just) ∙ one_is;
        }) either)

  -- what an argument of a class gives a field
  pub fills_field : {before now : Derivation} (name : Name) (taking : Taking) (sign : Sign) (argument : ℕ)
      (atom : Atom)
      → meaning_in program name ≡ Some taking
      → Adds (FillsWith program terms taking.declaration sign argument atom) before now
      → Adds (λ known. FillsField program terms name sign argument atom) before now
  fills_field name taking sign argument atom is step = adds_by step
      (λ known fact fills. record {
        let_in = subst (λ class. FieldLetsIn program terms class argument atom)
            (sym (class_same taking is fills.class_is)) fills.let_in;
        is = fills.is;
      })
      (λ known fact fills. record {
        index = taking.declaration;
        class_is = record { taking = taking; named = is; is = refl };
        let_in = fills.let_in;
        is = fills.is;
      })

  module _ (class : ℕ) (sign : Sign) (params : ℕ) where
    -- A field holds the atoms that its initial value reads and that it lets in.
    pub record FillsFromInitial (initials : List ReadsTree) (index : ℕ) (known : List Fact) (fact : Fact) : Type 0 where
      pub reads : ReadsTree
      pub there : slice_get initials index ≡ Some reads
      pub fills : Each (FillsFromSlot program terms class sign (params + index)) reads.slots known fact

    -- one initial value
    pub initial_turn : {before now : Derivation} (items : List Reads) (index : ℕ) (item : Reads)
        → index < length items → item ≡ get_or items index item
        → Adds (Each (FillsFromSlot program terms class sign (params + index)) item.slots.items) before now
        → Adds (FillsFromInitial (map reads_tree items) index) before now
    initial_turn items index item within is step =
        let there = slice_get-map_there reads_tree items index item within is in
        adds_by step
        (λ known fact fills. subst
        (λ (reads : ReadsTree). Each (FillsFromSlot program terms class sign (params + index)) reads.slots known fact)
        (same_Some fills.reads (reads_tree item) (sym fills.there ∙ there)) fills.fills)
        (λ known fact each. record { reads = reads_tree item; there = there; fills = each })

    -- all initial values
    pub initials_done : {before now : Derivation} (depth : ℕ) (tree : ClassTree) (bound : ℕ)
        → class_in program.names terms class ≡ Some tree → params ≡ class_params program class
        → length tree.initials ≤ bound → Adds (UpTo 0 (FillsFromInitial tree.initials) bound) before now
        → Adds (Begins program terms depth class sign) before now
    initials_done depth tree bound class_is params_is over step = adds_by step
        (λ known fact begins. record {
          at = begins.gives.index;
          least = omega arith;
          below = omega (
            arith,
            over,
            slice_get_within tree.initials begins.gives.index begins.gives.reads
                (read_there begins.gives),
          );
          asked = record {
            reads = begins.gives.reads;
            there = read_there begins.gives;
            fills = record {
              one = begins.slot;
              inside = begins.gives.is_read;
              asked = record {
                one = begins.atom;
                there = begins.held;
                asked = record {
                  let_in = subst (λ it. FieldLetsIn program terms class (it + begins.gives.index) begins.atom)
                      (sym params_is) begins.gives.let_in;
                  is = begins.gives.is ∙ ap (λ it. Field sign (it + begins.gives.index) begins.atom) (sym params_is);
                };
              };
            };
          };
        })
        (λ known fact each.
        let slot = each.asked.fills in
        let filled = slot.asked.asked in
        record {
          slot = slot.one;
          atom = slot.asked.one;
          held = slot.asked.there;
          gives = record {
            tree = tree;
            class_is = class_is;
            index = each.at;
            reads = each.asked.reads;
            there = each.asked.there;
            is_read = slot.inside;
            let_in = subst (λ it. FieldLetsIn program terms class (it + each.at) slot.asked.one) params_is
                filled.let_in;
            is = filled.is ∙ ap (λ it. Field sign (it + each.at) slot.asked.one) params_is;
          };
        })
      where
        read_there : {slot : ℕ} {atom : Atom} {fact : Fact}
            (gives : InitialGives program terms depth class sign slot atom fact)
            → slice_get tree.initials gives.index ≡ Some gives.reads
        read_there gives = ap (λ (it : ClassTree). slice_get it.initials gives.index)
            (same_Some tree gives.tree (sym class_is ∙ gives.class_is)) ∙ gives.there

    -- an initial value that is used gives what its field lets in
    pub use_gives : (depth slot : ℕ) (atom : Atom) (fact : Fact) (use_ : Use) → params ≡ class_params program class
        → IsUse program terms (body.Initials class) (location.Slot slot) use_
        → FillsWith program terms class sign (params + use_.term) atom [] fact
        → InitialGives program terms depth class sign slot atom fact
    unfolding body_terms
    use_gives depth slot atom fact use_ params_is
        (IsUse.reads_slot _ index instruction term there matter expr reads read slot_ inside) fills =
        absurd (none-some term there.there)
    use_gives depth slot atom fact use_ params_is
        (IsUse.gets_future _ index instruction term there some slot_ target effect) fills =
        absurd (none-some term there.there)
    use_gives depth slot atom fact use_ params_is
        (IsUse.begins _ tree class_is index reads there slot_ inside) fills = record {
          tree = tree;
          class_is = class_is;
          index = index;
          reads = reads;
          there = there;
          is_read = inside;
          let_in = subst (λ it. FieldLetsIn program terms class (it + index) atom) params_is fills.let_in;
          is = fills.is ∙ ap (λ it. Field sign (it + index) atom) params_is;
        }

    -- the uses of a field give what the initial values give from it
    pub uses_done : {before now : Derivation} (depth slot : ℕ) (atom : Atom) (uses : List Use)
        → params ≡ class_params program class
        → ((use_ : Use) → Contains uses use_ → IsUse program terms (body.Initials class) (location.Slot slot) use_)
        → ((use_ : Use) → IsUse program terms (body.Initials class) (location.Slot slot) use_ → Contains uses use_)
        → Adds (Each (λ (use_ : Use). FillsWith program terms class sign (params + use_.term) atom) uses) before now
        → Adds (λ known. InitialGives program terms depth class sign slot atom) before now
    uses_done depth slot atom uses params_is to from step = adds_by step
        (λ known fact gives. record {
          one = record { term = gives.index; part = part.Expr 0 };
          inside = from (record { term = gives.index; part = part.Expr 0 })
              (IsUse.begins class gives.tree gives.class_is gives.index gives.reads gives.there slot gives.is_read);
          asked = record {
            let_in = subst (λ it. FieldLetsIn program terms class (it + gives.index) atom) (sym params_is)
                gives.let_in;
            is = gives.is ∙ ap (λ it. Field sign (it + gives.index) atom) (sym params_is);
          };
        })
        (λ known fact each. use_gives depth slot atom fact each.one params_is (to each.one each.inside)
        (record { let_in = each.asked.let_in; is = each.asked.is }))

  -- what the classes that are made at a place give is what the initial values give of the objects with a sign
  pub named_done : {before now : Derivation} (depth : ℕ) (made : List (Sign × ℕ)) (sign : Sign) (slot : ℕ) (atom : Atom)
      (list : List Symbol) → map (name_of program.names) list ≡ classes_made program.source sign.place
      → Adds (Each (λ symbol known. BeginsNamed program terms depth made sign slot atom (name_of program.names symbol))
      list) before now
      → Adds (λ known. BeginsFrom program terms depth made sign slot atom) before now
  named_done depth made sign slot atom list list_is step = adds_by step
      (λ known fact begins.
      let found = contains_mapped (name_of program.names) list begins.name
      (subst (λ names. Contains names begins.name) (sym list_is) begins.made_there) in
      record {
        one = found.0;
        inside = found.1;
        asked = record {
          class = begins.class;
          is_made = begins.is_made;
          class_is = subst (λ (it : Name). ClassIs program it begins.class) (sym found.2) begins.class_is;
          gives = begins.gives;
        };
      })
      (λ known fact each. record {
        class = each.asked.class;
        is_made = each.asked.is_made;
        name = name_of program.names each.one;
        made_there = subst (λ names. Contains names (name_of program.names each.one)) list_is
            (contains_map (name_of program.names) list each.one each.inside);
        class_is = each.asked.class_is;
        gives = each.asked.gives;
      })

  -- what the class with a name gives, if an object of it is made
  pub named_adds : {before now : Derivation} (depth : ℕ) (made : List (Sign × ℕ)) (sign : Sign) (slot : ℕ) (atom : Atom)
      (name : Name) (taking : Taking) → meaning_in program name ≡ Some taking → Contains made (sign, taking.declaration)
      → Adds (λ known. InitialGives program terms depth taking.declaration sign slot atom) before now
      → Adds (λ known. BeginsNamed program terms depth made sign slot atom name) before now
  named_adds depth made sign slot atom name taking is there step = adds_by step
      (λ known fact begins. subst (λ class. InitialGives program terms depth class sign slot atom fact)
      (sym (class_same taking is begins.class_is)) begins.gives)
      (λ known fact gives. record {
        class = taking.declaration;
        is_made = there;
        class_is = record { taking = taking; named = is; is = refl };
        gives = gives;
      })

  module _ (depth : ℕ) (kind : Kind) (sign : Sign) (name : Name) (target : Option VariableTree) where
    -- an object of a class is made
    pub made_new : {made later : List (Sign × ℕ)} {before between ran now : Derivation} {one : Option Fact}
        (taking : Taking) → meaning_in program name ≡ Some taking → one ≡ held_by kind target (Object sign)
        → Adds (Just one) before between
        → Adds (λ known. RunsIfActive program sign taking.declaration) between ran
        → Makes program terms depth Nothing (λ other index. (other ≡ sign) × (index ≡ taking.declaration)) made later
        ran now
        → Makes program terms depth (λ known. MakesStep program kind sign name target)
        (λ other index. (other ≡ sign) × ClassIs program name index) made later before now
    made_new {made} {later} {before} {between} {ran} {now} {one} taking is held first next last =
        makes_by program terms depth
        (makes_then program terms depth (makes_of_adds program terms depth (adds_then first next)) last)
        (λ known fact step. inl (asked step))
        (λ known fact either. ⊎_elim (λ adds. ⊎_elim (λ just. MakesStep.holds fact (sym held ∙ just)) runs adds)
        (λ none. absurd none) either)
        (λ other index object. inr (object.0, sym (class_same taking is object.1)))
        (λ other index either. ⊎_elim (λ none. absurd none)
        (λ object. (object.0, record { taking = taking; named = is; is = sym object.1 })) either)
      where
        asked : {fact : Fact} → MakesStep program kind sign name target fact
            → (one ≡ Some fact) ⊎ RunsIfActive program sign taking.declaration fact
        asked (MakesStep.holds fact holds) = inl (held ∙ holds)
        asked (MakesStep.runs index class_is active) = inr (record {
          active = subst (IsActiveClass program) (sym (class_same taking is class_is)) active;
          is = refl;
        })

        runs : {fact : Fact} → RunsIfActive program sign taking.declaration fact
            → MakesStep program kind sign name target fact
        runs {fact} live = subst (MakesStep program kind sign name target) (sym live.is)
            (MakesStep.runs taking.declaration (record { taking = taking; named = is; is = refl }) live.active)

    -- one of no class is made
    pub made_none : {made : List (Sign × ℕ)} {before now : Derivation} {one : Option Fact}
        → meaning_in program name ≡ None → one ≡ held_by kind target (Object sign) → Adds (Just one) before now
        → Makes program terms depth (λ known. MakesStep program kind sign name target)
        (λ other index. (other ≡ sign) × ClassIs program name index) made made before now
    made_none {made} {before} {now} {one} none held step =
        makes_by program terms depth (makes_of_adds program terms depth step)
        (λ known fact makes. asked makes)
        (λ known fact just. MakesStep.holds fact (sym held ∙ just))
        (λ other index object. absurd (no_class none object.1)) (λ other index no. absurd no)
      where
        asked : {fact : Fact} → MakesStep program kind sign name target fact → one ≡ Some fact
        asked (MakesStep.holds fact holds) = held ∙ holds
        asked (MakesStep.runs index class_is active) = absurd (no_class none class_is)

-- the task of an object is live, if its class is active
pub runs_adds : {before now : Derivation} (program : ProgramTree) (sign : Sign) (class : ℕ) (one : Fact)
    → one ≡ Live (called program.names sign (codes "run")) → IsActiveClass program class
    → Adds (Just (Some one)) before now → Adds (λ known. RunsIfActive program sign class) before now
runs_adds program sign class one is active step = adds_by step
    (λ known fact runs. ap Some (is ∙ sym runs.is))
    (λ known fact just. record { active = active; is = sym (same_Some one fact just) ∙ is })

-- a class is active if it has the method `run`
pub is_active : (program : ProgramTree) (class : ℕ) (entry : ClassEntryTree)
    → class_entry program.source.declarations class ≡ Some entry → is_some entry.run ≡ true
    → IsActiveClass program class
is_active program class entry is active =
    let member = is_some-found entry.run active in
    record { entry = entry; entry_is = is; member = member.0; runs = member.1 }
