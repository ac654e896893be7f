-- Lists of values that have types, and scopes in which more values are bound.
--
--   `all_at`, `value_has_type`     the value at an index has the type at it
--   `own_scope_has`            a scope of arguments alone
--   `bound_scope_has`          a scope with more bound variables
use Rattle.std.proofs.Common.{◌≡◌, ℕ, zero, suc, List, [], ◌∷◌, ◌++◌, Some, refl, sym, ap, ◌∙◌, subst, length, map, arith}
use Rattle.std.specs.Prelude.{slice_get}
use Rattle.std.proofs.lemmas.List.{length-map, map-append}
use Rattle.std.proofs.lemmas.Option.{none-some, same_Some}
use Rattle.abs_tree.specs.Syntax.{ProgramTree}
use Rattle.abs_types.specs.Applications.{replaced}
use Rattle.abs_types.specs.PlainTypes.{PlainType}
use Rattle.abs_types.specs.TypeOffences.{value_frame}
use Rattle.abs_types.specs.Typing.{Frame, known_at}
use Rattle.abs_values.specs.Scopes.{Scope, own_scope, with_bound}
use Rattle.abs_values.specs.ValueTrees.{ValueTree}
use Rattle.type_sound.specs.Scopes.{HoldsTyped, ScopeHas}
use Rattle.type_sound.specs.Values.{World, ValueHas, AllHave}

module _ (program : ProgramTree) (world : World) where
  -- the value at an index has the type at it
  pub all_at : (values : List ValueTree) (view : PlainType → PlainType) (types : List PlainType) (index : ℕ)
      (type : PlainType) → AllHave program world values (map view types) → slice_get types index ≡ Some type
      → HoldsTyped program world values index (view type)
  all_at values view [] index type have there = absurd (none-some type there)
  all_at [] view (one ∷ types) index type have there = absurd have
  all_at (first ∷ values) view (one ∷ types) zero type have there =
      record {
        value = first;
        there = refl;
        has = subst (λ (t : PlainType). ValueHas program world first (view t)) (same_Some one type there) have.0;
      }
  all_at (first ∷ values) view (one ∷ types) (suc index) type have there =
      let later = all_at values view types index type have.1 there in
      record { value = later.value; there = later.there; has = later.has }

  -- a value of a list has the type at its place
  pub value_has_type : (values : List ValueTree) (types : List PlainType) (index : ℕ) (value : ValueTree)
      → AllHave program world values types → slice_get values index ≡ Some value
      → (type : PlainType) × (slice_get types index ≡ Some type) × ValueHas program world value type
  value_has_type [] types index value have is = absurd (none-some value is)
  value_has_type (first ∷ values) [] index value have is = absurd have
  value_has_type (first ∷ values) (type ∷ types) zero value have is =
      (type, refl, subst (λ (one : ValueTree). ValueHas program world one type) (same_Some first value is) have.0)
  value_has_type (first ∷ values) (type ∷ types) (suc index) value have is =
      value_has_type values types index value have.1 is

  -- values that have types are as many
  pub all_count : (values : List ValueTree) (types : List PlainType) → AllHave program world values types
      → length values ≡ length types
  all_count [] [] have = refl
  all_count [] (type ∷ types) have = absurd have
  all_count (value ∷ values) [] have = absurd have
  all_count (value ∷ values) (type ∷ types) have = ap suc (all_count values types have.1)

  -- values after others
  pub all_append : (values more : List ValueTree) (types others : List PlainType)
      → AllHave program world values types → AllHave program world more others
      → AllHave program world (values ++ more) (types ++ others)
  all_append [] more [] others have rest = rest
  all_append [] more (type ∷ types) others have rest = absurd have
  all_append (value ∷ values) more [] others have rest = absurd have
  all_append (value ∷ values) more (type ∷ types) others have rest =
      (have.0, all_append values more types others have.1 rest)

  -- what is at each index makes a whole list
  all_from : (values : List ValueTree) (view : PlainType → PlainType) (types : List PlainType)
      → length values ≡ length types
      → ((index : ℕ) (type : PlainType) → slice_get types index ≡ Some type
      → HoldsTyped program world values index (view type))
      → AllHave program world values (map view types)
  all_from [] view [] long each = tt
  all_from [] view (type ∷ types) long each = absurd cc
  all_from (value ∷ values) view [] long each = absurd cc
  all_from (value ∷ values) view (type ∷ types) long each =
      let first = each 0 type refl in (
        subst (λ (v : ValueTree). ValueHas program world v (view type)) (sym (same_Some value first.value first.there))
            first.has,
        all_from values view types (omega (arith, long)) (λ index later there. shifted index later (each (suc index) later there)),
      )
    where
      shifted : (index : ℕ) (later : PlainType) → HoldsTyped program world (value ∷ values) (suc index) (view later)
          → HoldsTyped program world values index (view later)
      shifted index later holds = record { value = holds.value; there = holds.there; has = holds.has }

  -- types that are all known
  known_all : (types : List PlainType) (slot : ℕ) (type : PlainType) → known_at (map Some types) slot ≡ Some type
      → slice_get types slot ≡ Some type
  known_all [] slot type known = absurd (none-some type known)
  known_all (one ∷ types) zero type known = known
  known_all (one ∷ types) (suc slot) type known = known_all types slot type known

  -- a scope of arguments alone
  pub own_scope_has : (replacing takes : List PlainType) (values : List ValueTree)
      → AllHave program world values (map (replaced replacing) takes)
      → ScopeHas program world replacing (value_frame takes) [] (own_scope values)
  own_scope_has replacing takes values have =
      record {
        slots = λ slot type known. all_at values (replaced replacing) takes slot type have (known_all takes slot type known);
        fields = λ field type there. absurd (none-some type there);
        bound_count = refl;
        bound_have = λ depth type there. absurd (none-some type there);
        this_has = λ class is. absurd cc;
      }

  -- a scope with more bound variables
  pub bound_scope_has : (replacing : List PlainType) (frame : Frame) (bound variables : List PlainType) (scope : Scope)
      (values : List ValueTree) → ScopeHas program world replacing frame bound scope
      → AllHave program world values (map (replaced replacing) variables)
      → ScopeHas program world replacing frame (bound ++ variables) (with_bound scope values)
  bound_scope_has replacing frame bound variables scope values has have =
      let before = all_from scope.bound (replaced replacing) bound has.bound_count has.bound_have in
      let after : AllHave program world (scope.bound ++ values) (map (replaced replacing) (bound ++ variables)) =
      subst (AllHave program world (scope.bound ++ values)) (sym (map-append (replaced replacing) bound variables))
      (all_append scope.bound values (map (replaced replacing) bound) (map (replaced replacing) variables) before have) in
      record {
        slots = has.slots;
        fields = has.fields;
        bound_count = all_count (scope.bound ++ values) (map (replaced replacing) (bound ++ variables)) after
            ∙ length-map (bound ++ variables) (replaced replacing);
        bound_have = λ depth type there.
            all_at (scope.bound ++ values) (replaced replacing) (bound ++ variables) depth type after there;
        this_has = has.this_has;
      }
