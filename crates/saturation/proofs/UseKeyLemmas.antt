-- The keys of the table of uses: the location of a body.
--
--   `key_eq`                           the test by which the table finds a key
--   `lookup-key`                       it finds what the test of a location of a body finds
--   `key_true`, `key_same`             which key passes this test
use Rattle.std.proofs.Common.{◌≡◌, ◌&&◌, Bool, true, false, cond, List, [], ◌∷◌, Some, refl, ap, nat_eq, ◌∙◌, ℕ, arith}
use Rattle.std.proofs.lemmas.Bool.Decides.{nat_tests}
use Rattle.std.specs.Map.{lookup}
use Rattle.saturation.specs.Uses.{same_body, same_location, is_key}
use Rattle.saturation.specs.contracts.body.BodyPartialEq.TheImpl as derived_body
use Rattle.saturation.specs.contracts.uses.LocationPartialEq.TheImpl as derived_location
use Rattle.saturation.specs.declared.body.Body.{Body}
use Rattle.saturation.specs.declared.body.Body.TheVariants as body
use Rattle.saturation.specs.declared.uses.Location.{Location}
use Rattle.saturation.specs.declared.uses.Location.TheVariants as location

-- the test by which the table finds a key
abbrev pub key_eq : Body × Location → Body × Location → Bool
key_eq one other = (derived_body.ghosts).eq one.0 other.0 && (derived_location.ghosts).eq one.1 other.1

-- bodies are compared one by one
eq-body : (one other : Body) → (derived_body.ghosts).eq one other ≡ same_body one other
eq-body body.Main body.Main = refl
eq-body (body.Method class member) (body.Method other_class other_member) = refl
eq-body (body.Initials class) (body.Initials other_class) = refl
eq-body body.Main _ = refl
eq-body (body.Method class member) _ = refl
eq-body (body.Initials class) _ = refl

-- so are locations
eq-location : (one other : Location) → (derived_location.ghosts).eq one other ≡ same_location one other
eq-location (location.Slot slot) (location.Slot other) = refl
eq-location (location.Field field) (location.Field other) = refl
eq-location (location.Answer method) (location.Answer other) = refl
eq-location (location.Got slot) (location.Got other) = refl
eq-location (location.Slot slot) _ = refl
eq-location (location.Field field) _ = refl
eq-location (location.Answer method) _ = refl
eq-location (location.Got slot) _ = refl

-- the test of a key is that of a location of a body
pub eq-key : (one other : Body × Location) → key_eq one other ≡ is_key one.0 one.1 other
eq-key one other = rw (eq-body one.0 other.0, eq-location one.1 other.1) refl

-- two tests that agree find the same
lookup-agreeing : {K A : Type 0} (test other : K → Bool) → ((key : K) → test key ≡ other key)
    → (entries : List (K × A)) → lookup test entries ≡ lookup other entries
lookup-agreeing test other agree [] = refl
lookup-agreeing {K} {A} test other agree (first ∷ others) =
    ap (λ (passes : Bool). cond passes (Some first.1) (lookup test others)) (agree first.0)
    ∙ ap (cond (other first.0) (Some first.1)) (lookup-agreeing test other agree others)

-- the table finds what the test of a location of a body finds
pub lookup-key : {A : Type 0} (own : Body) (place : Location) (entries : List ((Body × Location) × A))
    → lookup (key_eq (own, place)) entries ≡ lookup (is_key own place) entries
lookup-key own place entries = lookup-agreeing (key_eq (own, place)) (is_key own place) (eq-key (own, place)) entries

-- numbers that pass their test are the same
nat-true : (one other : ℕ) → nat_eq one other ≡ true → one ≡ other
nat-true one other same = grind (arith, nat_tests)

nat-same : (one : ℕ) → nat_eq one one ≡ true
nat-same one = grind (arith, nat_tests)

-- both tests pass
and-both : (one other : Bool) → (one && other) ≡ true → (one ≡ true) × (other ≡ true)
and-both true true both = (refl, refl)
and-both true false both = absurd cc
and-both false other both = absurd cc

body-true : (one other : Body) → same_body one other ≡ true → one ≡ other
body-true body.Main body.Main same = refl
body-true (body.Method class member) (body.Method other_class other_member) same =
    let both = and-both (nat_eq class other_class) (nat_eq member other_member) same in
    let class_is = nat-true class other_class both.0 in
    let member_is = nat-true member other_member both.1 in
    cc
body-true (body.Initials class) (body.Initials other_class) same = ap body.Initials (nat-true class other_class same)
body-true body.Main _ same = absurd cc
body-true (body.Method class member) _ same = absurd cc
body-true (body.Initials class) _ same = absurd cc

location-true : (one other : Location) → same_location one other ≡ true → one ≡ other
location-true (location.Slot one) (location.Slot other) same = ap location.Slot (nat-true one other same)
location-true (location.Field one) (location.Field other) same = ap location.Field (nat-true one other same)
location-true (location.Answer one) (location.Answer other) same = ap location.Answer (nat-true one other same)
location-true (location.Got one) (location.Got other) same = ap location.Got (nat-true one other same)
location-true (location.Slot one) _ same = absurd cc
location-true (location.Field one) _ same = absurd cc
location-true (location.Answer one) _ same = absurd cc
location-true (location.Got one) _ same = absurd cc

body-same : (one : Body) → same_body one one ≡ true
body-same body.Main = refl
body-same (body.Method class member) = rw (nat-same class, nat-same member) refl
body-same (body.Initials class) = nat-same class

location-same : (one : Location) → same_location one one ≡ true
location-same (location.Slot one) = nat-same one
location-same (location.Field one) = nat-same one
location-same (location.Answer one) = nat-same one
location-same (location.Got one) = nat-same one

-- the key that passes the test of a location of a body is that
pub key-true : (own : Body) (place : Location) (key : Body × Location) → is_key own place key ≡ true
    → (own ≡ key.0) × (place ≡ key.1)
key-true own place key same =
    let both = and-both (same_body own key.0) (same_location place key.1) same in
    (body-true own key.0 both.0, location-true place key.1 both.1)

-- it passes
pub key-same : (own : Body) (place : Location) → is_key own place (own, place) ≡ true
key-same own place = rw (body-same own, location-same place) refl
