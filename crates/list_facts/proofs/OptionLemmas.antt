-- Options: whether there is a value, and what is there after a map, a condition or a second option.
use Rattle.std.specs.Prelude.{Option, is_some, option_map, None, Some, option_and_then}
use Rattle.std.proofs.Common.{◌≡◌, refl, is_none, ap, true, true≢false, sym, ◌&&◌, false, Bool, if◌then◌else◌, IsSome, ◌≢◌, cond}
use Rattle.std.proofs.lemmas.Bool.{and_from}
use Rattle.std.proofs.lemmas.Option.{none-some}
use Rattle.std.specs.Option.{option_or}

-- there is a value after a map exactly where there was one before
pub is_some-option_map : {A B : Type 0} (f : A → B) (one : Option A) → is_some one ≡ is_some (option_map f one)
is_some-option_map f None = refl
is_some-option_map f (Some x) = refl

-- there is none after a map exactly where there was none before
pub is_none-option_map : {A B : Type 0} (f : A → B) (found : Option A) → is_none found ≡ is_none (option_map f found)
is_none-option_map f (Some one) = refl
is_none-option_map f None = refl

-- the same of the result of the map
pub is_some-mapped : {X Y : Type 0} (found : Option X) (of : X → Y) {types : Option Y} → option_map of found ≡ types
    → is_some found ≡ is_some types
is_some-mapped None of is = ap is_some is
is_some-mapped (Some indices) of is = ap is_some is

-- an option has a value, if the test says so
pub is_some-found : {A : Type 0} (found : Option A) → is_some found ≡ true → (value : A) × (found ≡ Some value)
is_some-found (Some value) reported = (value, refl)
is_some-found None reported = absurd (true≢false (sym reported))

-- the test says that there is a value, if there is one
pub is_some-reported : {A : Type 0} (found : Option A) (value : A) → found ≡ Some value → is_some found ≡ true
is_some-reported found value reported = rw reported refl

-- there is a value in two options, if there is one in each
pub is_some-both : {A B : Type 0} (one : Option A) (other : Option B) → (value : A) × (one ≡ Some value)
    → (value : B) × (other ≡ Some value) → (is_some one && is_some other) ≡ true
is_some-both one other first second =
    and_from (is_some one) (is_some other) (is_some-reported one first.0 first.1) (is_some-reported other second.0 second.1)

-- an option has a value, if the test does not say that it has none
pub is_none-found : {A : Type 0} (found : Option A) → is_none found ≡ false → (value : A) × (found ≡ Some value)
is_none-found (Some value) reported = (value, refl)
is_none-found None reported = absurd (true≢false reported)

-- the test does not say that there is none, if there is a value
pub is_none-reported : {A : Type 0} (found : Option A) (value : A) → found ≡ Some value → is_none found ≡ false
is_none-reported found value reported = rw reported refl

-- if there is a value under a condition, the condition holds and the value was given
pub if-found : {A : Type 0} (condition : Bool) (given : Option A) (value : A)
    → (if condition then given else None) ≡ Some value → (condition ≡ true) × (given ≡ Some value)
if-found true given value reported = (refl, reported)
if-found false given value reported = absurd (none-some value reported)

-- a value under a condition that holds is there
pub if-reported : {A : Type 0} (condition : Bool) (given : Option A) (value : A) → condition ≡ true → given ≡ Some value
    → (if condition then given else None) ≡ Some value
if-reported condition given value holds reported = rw (holds, reported) refl

-- there is no value, if the test says so
pub is_some-none : {A : Type 0} (found : Option A) → is_some found ≡ false → found ≡ None
is_some-none None none = refl
is_some-none (Some one) none = absurd (true≢false none)

-- without a second option the first one is left
pub option_or-none : {A : Type 0} (meaning : Option A) → option_or meaning None ≡ meaning
option_or-none (Some meaning) = refl
option_or-none None = refl

-- the first of three options that has a value
pub option_or-assoc : {A : Type 0} (one other third : Option A)
    → option_or (option_or one other) third ≡ option_or one (option_or other third)
option_or-assoc (Some meaning) other third = refl
option_or-assoc None other third = refl

-- where a step gives nothing whatever it is given, there is nothing after it
pub option_and_then-none : {A B : Type 0} (given : A → Option B) → ((one : A) → given one ≡ None) → (found : Option A)
    → option_and_then given found ≡ None
option_and_then-none given none None = refl
option_and_then-none given none (Some one) = none one

-- a map that changes nothing leaves an option as it is
pub option_map-same : {A : Type 0} (one : Option A) → one ≡ option_map (λ (x : A). x) one
option_map-same None = refl
option_map-same (Some x) = refl

-- what is there is something
pub IsSome-not_none : {A : Type 0} (found : Option A) → IsSome found → found ≢ None
IsSome-not_none None some same = absurd cc
IsSome-not_none (Some entry) some same = absurd cc

-- so is what it is mapped to
pub IsSome-mapped : {A B : Type 0} (found : Option A) (view : A → B) → IsSome found → option_map view found ≢ None
IsSome-mapped None view some same = absurd cc
IsSome-mapped (Some entry) view some same = absurd cc

-- a choice between two present values is a present value
pub cond-Some : {A : Type 0} (is : Bool) (x y : A) → cond is (Some x) (Some y) ≡ Some (cond is x y)
cond-Some true x y = refl
cond-Some false x y = refl

-- where the test says that there is no value, there is none after a map
pub option_map-none : {A B : Type 0} (f : A → B) (found : Option A) → is_some found ≡ false → option_map f found ≡ None
option_map-none f found none = rw (is_some-none found none) refl
