-- One use is added to the table.
--
--   `added_at_key`                     it is added at its key
--   `written_items`                    the items of the list that is written back there
use Rattle.std.proofs.Common.{◌≡◌, ◌↔◌, ◌⊎◌, ⊎_elim, inl, inr, Bool, true, false, List, [], ◌∷◌, ◌++◌, Option, None, Some, refl, sym, ap, subst, ◌∙◌}
use Rattle.std.proofs.lemmas.List.Elements.{Contains-append_left, Contains-push, Contains-push_cases}
use Rattle.std.specs.Map.{lookup}
use Rattle.std.specs.Option.{unwrap_or}
use Rattle.std.specs.declared.alloc.Global.{Global}
use Rattle.std.specs.declared.vec.Vec.{Vec}
use Rattle.std.specs.Prelude.{Contains}
use Rattle.saturation.proofs.UseKeyLemmas.{key_eq, eq-key, lookup-key, key-true, key-same}
use Rattle.saturation.specs.Uses.{is_key, found_uses, uses_at}
use Rattle.saturation.specs.UsesAdded.{Added, Just}
use Rattle.saturation.specs.declared.body.Body.{Body}
use Rattle.saturation.specs.declared.uses.Location.{Location}
use Rattle.saturation.specs.declared.uses.Use.{Use}
use Rattle.saturation.specs.declared.uses.Uses.{Uses}

-- the uses at a key are those at this location of this body
found-key : (uses : Uses) (own : Body) (place : Location)
    → found_uses (lookup (key_eq (own, place)) uses.uses.entries) ≡ uses_at uses own place
unfolding uses_at
found-key uses own place = ap found_uses (lookup-key own place uses.uses.entries)

-- a list has one use more
pushed_here : (reader : Body) (place_read : Location) (one : Use) (list : List Use) (own : Body) (place : Location)
    (use_ : Use) → reader ≡ own → place_read ≡ place
    → Contains (list ++ one ∷ []) use_ ↔ (Contains list use_ ⊎ Just reader place_read one own place use_)
pushed_here reader place_read one list own place use_ own_is place_is =
    let there : Contains (list ++ one ∷ []) use_ → Contains list use_ ⊎ Just reader place_read one own place use_ =
    λ has. ⊎_elim inl (λ same. inr (record { own_is = sym own_is; place_is = sym place_is; use_is = sym same }))
    (Contains-push_cases list one use_ has) in
    let back : Contains list use_ ⊎ Just reader place_read one own place use_ → Contains (list ++ one ∷ []) use_ =
    λ either. ⊎_elim (Contains-append_left list (one ∷ []) use_)
    (λ just. subst (Contains (list ++ one ∷ [])) (sym just.use_is) (Contains-push list one)) either in
    (there, back)

-- a key that does not pass has what it had
pushed_apart : (reader : Body) (place_read : Location) (one : Use) (list : List Use) (own : Body) (place : Location)
    (use_ : Use) → is_key reader place_read (own, place) ≡ false
    → Contains list use_ ↔ (Contains list use_ ⊎ Just reader place_read one own place use_)
pushed_apart reader place_read one list own place use_ apart = (
  inl,
  λ either. ⊎_elim (λ has. has) (λ just.
      let same = key-same reader place_read in
      let moved : is_key reader place_read (own, place) ≡ true =
      rw (just.own_is, just.place_is) same in
      absurd cc) either,
)

-- the uses at a key after one more, by whether it is that of the new one
push_cases : (before now : Uses) (reader : Body) (place_read : Location) (one : Use)
    → (uses_at now reader place_read ≡ uses_at before reader place_read ++ one ∷ [])
    → ((own : Body) (place : Location) → is_key reader place_read (own, place) ≡ false
    → uses_at now own place ≡ uses_at before own place)
    → (own : Body) (place : Location) (use_ : Use) (passes : Bool) → is_key reader place_read (own, place) ≡ passes
    → Contains (uses_at now own place) use_
    ↔ (Contains (uses_at before own place) use_ ⊎ Just reader place_read one own place use_)
push_cases before now reader place_read one here apart own place use_ true is =
    let same = key-true reader place_read (own, place) is in
    let At : Body → Type 0 = λ other. uses_at now other place_read ≡ uses_at before other place_read ++ one ∷ [] in
    let AtPlace : Location → Type 0 = λ other. uses_at now own other ≡ uses_at before own other ++ one ∷ [] in
    let list_is = subst AtPlace same.1 (subst At same.0 here) in
    rw list_is (pushed_here reader place_read one (uses_at before own place) own place use_ same.0 same.1)
push_cases before now reader place_read one here apart own place use_ false is =
    rw (apart own place is) (pushed_apart reader place_read one (uses_at before own place) own place use_ is)

-- one use is added
added_push : {before now : Uses} (reader : Body) (place_read : Location) (one : Use)
    → found_uses (lookup (key_eq (reader, place_read)) now.uses.entries)
    ≡ found_uses (lookup (key_eq (reader, place_read)) before.uses.entries) ++ one ∷ []
    → ((key : Body × Location) → key_eq (reader, place_read) key ≡ false
    → lookup (key_eq key) now.uses.entries ≡ lookup (key_eq key) before.uses.entries)
    → Added (Just reader place_read one) before now
added_push {before} {now} reader place_read one here apart = record {
  has = λ own place use_.
      let list_is : uses_at now reader place_read ≡ uses_at before reader place_read ++ one ∷ [] =
      sym (found-key now reader place_read)
      ∙ (here ∙ ap (λ (list : List Use). list ++ one ∷ []) (found-key before reader place_read)) in
      push_cases before now reader place_read one list_is
      (λ other other_place is. sym (found-key now other other_place)
      ∙ (ap found_uses (apart (other, other_place) (eq-key (reader, place_read) (other, other_place) ∙ is))
      ∙ found-key before other other_place))
      own place use_ (is_key reader place_read (own, place)) refl;
}

-- one use is added to the table at its key
pub added_at_key : {before now : Uses} (reader : Body) (place_read : Location) (one : Use)
    {entries : List ((Body × Location) × Vec Use Global)} (list : Vec Use Global) → now.uses.entries ≡ entries
    → lookup (key_eq (reader, place_read)) entries ≡ Some list
    → ((key : Body × Location) → key_eq (reader, place_read) key ≡ false
    → lookup (key_eq key) entries ≡ lookup (key_eq key) before.uses.entries)
    → list.items ≡ found_uses (lookup (key_eq (reader, place_read)) before.uses.entries) ++ one ∷ []
    → Added (Just reader place_read one) before now
added_at_key {before} {now} reader place_read one {entries} list is here apart list_is =
    added_push reader place_read one (rw is (ap found_uses here ∙ list_is)) (λ key other. rw is (apart key other))

-- the items of a list that was written back at a key
pub written_items : (found : Option (Vec Use Global)) (fresh lent last : Vec Use Global)
    (stored : Option (Vec Use Global)) (one : Use) → fresh.items ≡ [] → lent ≡ unwrap_or stored fresh
    → last.items ≡ lent.items ++ one ∷ [] → stored ≡ found → last.items ≡ found_uses found ++ one ∷ []
written_items None fresh lent last stored one none lent_is last_is stored_is =
    rw (last_is, lent_is, stored_is, none) refl
written_items (Some list) fresh lent last stored one none lent_is last_is stored_is =
    rw (last_is, lent_is, stored_is) refl
