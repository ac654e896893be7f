-- Slots that become visible in a block, and are as before after it.
--
--   `undoes_nothing`           nothing became visible
--   `IsSet`                    a slot has another type
--   `undoes_shown`             one more slot became visible
--   `IsHiding`                 slots are as they were before some became visible
--   `hides_none`, `hides_last`, `hides_all`    at first, after one more, and after all
--   `last_found`               the last one that is left was found
use Rattle.std.proofs.Common.{◌≡◌, ℕ, zero, suc, List, [], ◌∷◌, ◌++◌, All, Option, get_or, length, set, refl, sym, ap, ◌∙◌, subst, option_map, arith}
use Rattle.std.proofs.lemmas.List.{get_or_append_left, get_or_push, length_push, set-set}
use Rattle.std.proofs.lemmas.List.Elements.{All-nil, All-push}
use Rattle.abs_types.specs.PlainTypes.{PlainType}
use Rattle.abs_types.specs.TypeShapes.{type_at}
use Rattle.abs_types.specs.TypeTables.{types_in}
use Rattle.abs_types.specs.Typing.{known_at}
use Rattle.abs_types.specs.declared.table.shape.TypeIndex.{TypeIndex}
use Rattle.check_fun.specs.Contexts.{context_in, with_slots, Context, Finds, Found, Knows}
use Rattle.check_fun.specs.declared.checker.Checker.{Checker}
use Rattle.check_obj.specs.Visible.{undone, Undoes}
use Rattle.check_obj.specs.declared.visible.Shown.{Shown}

-- nothing became visible
pub undoes_nothing : {checker : Checker} {shown : List Shown} → shown ≡ []
    → Undoes checker shown (context_in checker).frame.slots
undoes_nothing {checker} none =
    rw none (record { among = All-nil (λ (one : Shown). Found checker one.was); is = refl })

-- what is undone after one more slot became visible
undone_push : (types : List PlainType) (shown : List Shown) (last : Shown) (slots : List (Option PlainType))
    → undone types (shown ++ last ∷ []) slots
    ≡ undone types shown (set slots last.slot (option_map (type_at types) last.was))
undone_push types [] last slots = refl
undone_push types (first ∷ others) last slots =
    ap (λ (later : List (Option PlainType)). set later first.slot (option_map (type_at types) first.was))
    (undone_push types others last slots)

-- a slot with what it has is as it is
set_known : (slots : List (Option PlainType)) (slot : ℕ) → set slots slot (known_at slots slot) ≡ slots
set_known [] slot = refl
set_known (first ∷ others) zero = refl
set_known (first ∷ others) (suc slot) = ap (λ (rest : List (Option PlainType)). first ∷ rest) (set_known others slot)

-- so is one that was something else in between
set_back : (slots : List (Option PlainType)) (slot : ℕ) (type : Option PlainType)
    → set (set slots slot type) slot (known_at slots slot) ≡ slots
set_back slots slot type = set-set slots slot type (known_at slots slot) ∙ set_known slots slot

-- A slot of a checker has another type now, and all else is as it was.
pub record IsSet (before now : Checker) (slot : ℕ) (found : Option TypeIndex) : Type 0 where
  pub table_is : now.table ≡ before.table
  pub knows : (context : Context) (type : Option PlainType) → Knows before context → Finds before found type
      → Knows now (with_slots context (set context.frame.slots slot type))

-- the slots after that
slots_set : {before now : Checker} {slot : ℕ} {found : Option TypeIndex} → IsSet before now slot found
    → Found before found
    → (context_in now).frame.slots
    ≡ set (context_in before).frame.slots slot (option_map (type_at (types_in before.table)) found)
slots_set {before} is among =
    ap (λ (one : Context). one.frame.slots)
    (is.knows (context_in before) _ (record { is = refl }) (record { found_is = among; is = refl })).is

-- what was found is found in the same table
same_found : {before now : Checker} {found : Option TypeIndex} → now.table ≡ before.table → Found before found
    → Found now found
same_found table was = record { among = rw table was.among }

all_found : {before now : Checker} (shown : List Shown) → now.table ≡ before.table
    → All (λ (one : Shown). Found before one.was) shown → All (λ (one : Shown). Found now one.was) shown
all_found shown table were k d less = same_found table (were k d less)

-- one more slot became visible
pub undoes_shown : {before now : Checker} (slot : ℕ) (found was : Option TypeIndex) (shown later : List Shown)
    → IsSet before now slot found → Found before found
    → ((context : Context) → Knows before context → Finds now was (known_at context.frame.slots slot))
    → later ≡ shown ++ record { slot = slot; was = was } ∷ [] → (slots : List (Option PlainType))
    → Undoes before shown slots → Undoes now later slots
undoes_shown {before} {now} slot found was shown later is among had pushed slots undoes =
    let here = had (context_in before) (record { is = refl }) in
    let types = types_in before.table in
    let types_are : types_in now.table ≡ types = ap types_in is.table_is in
    let back : set (set (context_in before).frame.slots slot (option_map (type_at types) found)) slot
    (option_map (type_at types) was) ≡ (context_in before).frame.slots =
    ap (set (set (context_in before).frame.slots slot (option_map (type_at types) found)) slot)
    (rw types_are at here.is)
    ∙ set_back (context_in before).frame.slots slot (option_map (type_at types) found) in
    rw pushed (record {
      among = All-push (λ (one : Shown). Found now one.was) shown (record { slot = slot; was = was })
          (all_found shown is.table_is undoes.among) here.found_is;
      is = rw (types_are, undone_push, slots_set is among, back) undoes.is;
    })

-- what holds of a list holds of its front
front_found : {checker : Checker} (shown : List Shown) (last : Shown)
    → All (λ (one : Shown). Found checker one.was) (shown ++ last ∷ [])
    → All (λ (one : Shown). Found checker one.was) shown
front_found {checker} shown last all k d less =
    subst (λ (one : Shown). Found checker one.was) (get_or_append_left shown (last ∷ []) d k less)
    (all k d (omega (arith, length_push shown last, less)))

-- Slots are as they were before some of those became visible that were shown since a start.
pub record IsHiding (start now : Checker) (shown left : List Shown) : Type 0 where
  pub table_is : now.table ≡ start.table
  pub first_is : now.first ≡ start.first
  pub among : All (λ (one : Shown). Found now one.was) left
  pub knows : (context : Context) → Knows start context
      → Knows now (with_slots context (context_in now).frame.slots)
  pub undoes : (slots : List (Option PlainType)) → Undoes start shown slots → Undoes now left slots

-- before the first one is as it was
pub hides_none : {checker : Checker} {shown : List Shown} → All (λ (one : Shown). Found checker one.was) shown
    → IsHiding checker checker shown shown
hides_none among = record {
  table_is = refl;
  first_is = refl;
  among = among;
  knows = λ context knows. record { is = rw (← knows.is) refl };
  undoes = λ slots undoes. undoes;
}

-- the last one that is left was found
pub last_found : {start now : Checker} {shown left : List Shown} (front : List Shown) (last : Shown)
    → IsHiding start now shown left → left ≡ front ++ last ∷ [] → Found now last.was
last_found {now = now} front last so is =
    let at : get_or (front ++ last ∷ []) (length front) last ≡ last = get_or_push front last last (length front) refl in
    let all = rw is at so.among in
    subst (λ (one : Shown). Found now one.was) at (all (length front) last (omega (arith, length_push front last)))

-- after one more is as it was
pub hides_last : {start now later : Checker} {shown left : List Shown} (front : List Shown) (last : Shown)
    → IsHiding start now shown left → left ≡ front ++ last ∷ [] → IsSet now later last.slot last.was
    → later.first ≡ now.first → IsHiding start later shown front
hides_last {start} {now} {later} {shown} front last so is set_to first =
    let was = last_found front last so is in
    let all = rw is at so.among in
    record {
      table_is = set_to.table_is ∙ so.table_is;
      first_is = first ∙ so.first_is;
      among = all_found front set_to.table_is (front_found front last all);
      knows = λ context knows.
          let known = set_to.knows _ _ (so.knows context knows) (record { found_is = was; is = refl }) in
          record { is = known.is ∙ ap (with_slots context) (sym (slots_set set_to was)) };
      undoes = λ slots undoes.
          let before = rw is at so.undoes slots undoes in
          let types_are : types_in later.table ≡ types_in now.table = ap types_in set_to.table_is in
          record {
            among = all_found front set_to.table_is (front_found front last before.among);
            is = rw (types_are, slots_set set_to was) (rw undone_push at before.is);
          };
    }

-- after all are as they were
pub hides_all : {start now : Checker} {shown left : List Shown} → IsHiding start now shown left → left ≡ []
    → (context : Context) (slots : List (Option PlainType)) → Knows start context → Undoes start shown slots
    → Knows now (with_slots context slots)
hides_all so none context slots knows undoes =
    let left = rw none at so.undoes slots undoes in
    rw (← left.is) (so.knows context knows)
