-- The set of the objects that are made.
--
--   `object_eq`                    the test of the code, which tells equal objects
--   `object_put`, `object_kept`    an object that is inserted goes last, or was there
--   `object_there`, `object_missing`       the set has an object, or has not
use Rattle.std.proofs.Common.{◌≡◌, Bool, true, false, ◌&&◌, not, cond, true≢false, ℕ, List, [], ◌∷◌, ◌++◌, Contains, sym, ap, subst, ◌∙◌, rules}
use Rattle.indexmap.specs.IndexSet.{insert_key}
use Rattle.std.specs.Bool.{Decides}
use Rattle.std.specs.Cmp.{IsEquivalence}
use Rattle.std.specs.List.{list_any}
use Rattle.std.specs.contracts.prelude.U32PartialEq.TheImpl as number_equality
use Rattle.std.proofs.lemmas.Bool.Decides.{same_from_decides}
use Rattle.std.proofs.lemmas.Map.Views.{Contains-from_any, list_any-from_Contains}
use Rattle.name_bounding.specs.contracts.kind.SignPartialEq.TheImpl as sign_equality
use Rattle.name_bounding.specs.declared.kind.Sign.{Sign}

-- whether two objects are equal
abbrev pub object_eq : Sign × ℕ → Sign × ℕ → Bool
object_eq one other = (sign_equality.ghosts).eq one.0 other.0 && (number_equality.ghosts).eq one.1 other.1

object_eq_reflexive : (one : Sign × ℕ) → object_eq one one ≡ true
object_eq_reflexive one = search rules

object_eq_same : (one other : Sign × ℕ) → object_eq one other ≡ true → one ≡ other
object_eq_same one other passed = search rules

object_eq_decides : (one other : Sign × ℕ) → Decides (object_eq one other) (one ≡ other)
object_eq_decides one other =
    (object_eq_same one other, λ same. subst (λ it. object_eq one it ≡ true) same (object_eq_reflexive one))

object_eq_laws : IsEquivalence object_eq
object_eq_laws =
    record {
      refl = object_eq_reflexive;
      symm = λ one other. same_from_decides (object_eq one other) (object_eq other one) (object_eq_decides one other)
          (λ passed. sym (object_eq_same other one passed), λ same. (object_eq_decides other one).1 (sym same));
      congr = λ one other third passed. ap (λ it. object_eq it third) (object_eq_same one other passed);
    }

-- what was found, by what was added
was_found : (found added : Bool) → added ≡ not found → found ≡ not added
was_found true added is = sym (ap not is)
was_found false added is = sym (ap not is)

module _ (made now : List (Sign × ℕ)) (copied sign : Sign) (class : ℕ) (added : Bool) (same : copied ≡ sign)
    (added_is : added ≡ not (list_any (object_eq (copied, class)) made))
    (now_is : now ≡ insert_key object_eq made (copied, class)) where
  -- an object that is new goes last
  pub object_put : added ≡ true → now ≡ made ++ (sign, class) ∷ []
  object_put new =
      now_is
      ∙ ap (λ it. cond it made (made ++ (copied, class) ∷ []))
      (was_found (list_any (object_eq (copied, class)) made) added added_is ∙ ap not new)
      ∙ ap (λ (it : Sign). made ++ (it, class) ∷ []) same

  -- one that was there is not put again
  pub object_kept : added ≡ false → now ≡ made
  object_kept old =
      now_is
      ∙ ap (λ it. cond it made (made ++ (copied, class) ∷ []))
      (was_found (list_any (object_eq (copied, class)) made) added added_is ∙ ap not old)

  pub object_was_there : added ≡ false → Contains made (sign, class)
  object_was_there old =
      subst (λ (it : Sign). Contains made (it, class)) same
      (Contains-from_any {eq = object_eq} object_eq_same (copied, class) made
      (was_found (list_any (object_eq (copied, class)) made) added added_is ∙ ap not old))

module _ (made : List (Sign × ℕ)) (copied sign : Sign) (class : ℕ) (found : Bool) (same : copied ≡ sign)
    (found_is : found ≡ list_any (object_eq (copied, class)) made) where
  -- the set has an object
  pub object_there : found ≡ true → Contains made (sign, class)
  object_there is =
      subst (λ (it : Sign). Contains made (it, class)) same
      (Contains-from_any {eq = object_eq} object_eq_same (copied, class) made (sym found_is ∙ is))

  -- it has not
  pub object_missing : found ≡ false → Contains made (sign, class) → ⊥
  object_missing is there =
      true≢false (sym (list_any-from_Contains object_eq_laws (copied, class) made
      (subst (λ (it : Sign). Contains made (it, class)) (sym same) there))
      ∙ sym found_is ∙ is)
