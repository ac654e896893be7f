-- The table of a program's names as it grows. A name keeps its index in each table that extends the one it is in. The
-- table gains no more names than are read, and what holds of each name read holds of each name of the table.
use Rattle.std.proofs.Common.{◌≡◌, ℕ, ◌+◌, ◌≤◌, Bool, true, false, not, ◌||◌, cond, List, [], ◌∷◌, ◌++◌, refl, sym, ap, ◌∙◌, length, fold, arith, length-append, append_assoc}
use Rattle.std.proofs.lemmas.List.{append-nil}
use Rattle.std.proofs.lemmas.List.Elements.{All-head, All-tail, All-push}
use Rattle.std.proofs.lemmas.Slice.Eq.{bytes_eq-Decides}
use Rattle.std.specs.List.{All, list_any, position_or_len}
use Rattle.std.specs.Str.{bytes_eq}
use Rattle.abs_tree.specs.Names.{number_of_name, with_name}
use Rattle.abs_parser.specs.Answers.{GoesOn}

-- a table extends itself
pub goes_on_itself : (table : List (List ℕ)) → GoesOn table table
goes_on_itself table = record { more = []; is = sym (append-nil table) }

-- extension of tables is transitive
pub goes_on_further : {first second third : List (List ℕ)} → GoesOn first second → GoesOn second third
    → GoesOn first third
goes_on_further {first} {second} {third} x y = record {
  more = x.more ++ y.more;
  is = y.is ∙ (ap (λ (table : List (List ℕ)). table ++ y.more) x.is ∙ append_assoc first x.more y.more);
}

-- a table with one more name extends it, by cases of whether the name is in it already
added_by : (found : Bool) (table : List (List ℕ)) (name : List ℕ) → GoesOn table (cond found table (table ++ name ∷ []))
added_by true table name = goes_on_itself table
added_by false table name = record { more = name ∷ []; is = refl }

-- a table with one more name extends it
goes_on_added : (table : List (List ℕ)) (name : List ℕ) → GoesOn table (with_name table name)
goes_on_added table name = added_by (list_any (bytes_eq name) table) table name

-- a table with more names extends it
pub goes_on_all : (table added : List (List ℕ)) → GoesOn table (fold with_name table added)
goes_on_all table [] = goes_on_itself table
goes_on_all table (name ∷ added) = goes_on_further (goes_on_added table name) (goes_on_all (with_name table name) added)

-- the induction step of `place_kept`, by cases of whether the first element passes
kept_by : (here after : Bool) (k m : ℕ) → (after ≡ true → k ≡ m) → (here || after) ≡ true
    → cond (not here) (1 + k) 0 ≡ cond (not here) (1 + m) 0
kept_by true after k m same found = refl
kept_by false after k m same found = ap (λ (n : ℕ). 1 + n) (same found)

-- where an element passes, the index of the first one stays when more elements are appended
place_kept : (p : List ℕ → Bool) (xs ys : List (List ℕ)) → list_any p xs ≡ true
    → position_or_len p (xs ++ ys) ≡ position_or_len p xs
place_kept p [] ys found = cc
place_kept p (x ∷ xs) ys found = kept_by (p x) (list_any p xs) _ _ (place_kept p xs ys) found

-- the induction step of `place_new`, by cases of whether the first element passes
new_by : (here after : Bool) (k m : ℕ) → (after ≡ false → k ≡ m) → (here || after) ≡ false
    → cond (not here) (1 + k) 0 ≡ cond (not here) (1 + m) 0
new_by true after k m same found = cc
new_by false after k m same found = ap (λ (n : ℕ). 1 + n) (same found)

-- the index of the first element that passes is 0 where the first element passes
first_by : (here : Bool) (k : ℕ) → here ≡ true → cond (not here) (1 + k) 0 ≡ 0
first_by true k passes = refl
first_by false k passes = cc

-- where no element passes, an appended element that does has the next index
place_new : (p : List ℕ → Bool) (xs : List (List ℕ)) (y : List ℕ) (ys : List (List ℕ)) → p y ≡ true
    → list_any p xs ≡ false → position_or_len p (xs ++ y ∷ ys) ≡ position_or_len p xs
place_new p [] y ys passes none = first_by (p y) (position_or_len p ys) passes
place_new p (x ∷ xs) y ys passes none = new_by (p x) (list_any p xs) _ _ (place_new p xs y ys passes) none

-- the index of a name stays, by cases of whether the name was in the table already
number_by : (found : Bool) (old : List (List ℕ)) (name : List ℕ) (more : List (List ℕ))
    → list_any (bytes_eq name) old ≡ found
    → number_of_name (cond found old (old ++ name ∷ []) ++ more) name ≡ number_of_name old name
number_by true old name more found = place_kept (bytes_eq name) old more found
number_by false old name more found =
    ap (λ (table : List (List ℕ)). number_of_name table name) (append_assoc old (name ∷ []) more)
    ∙ place_new (bytes_eq name) old name more ((bytes_eq-Decides name name).1 refl) found

-- a name that was added to a table has the same index in each table that extends the result
pub number_stays : (old : List (List ℕ)) (name : List ℕ) (names : List (List ℕ)) → GoesOn (with_name old name) names
    → number_of_name names name ≡ number_of_name old name
number_stays old name names h =
    ap (λ (table : List (List ℕ)). number_of_name table name) h.is
    ∙ number_by (list_any (bytes_eq name) old) old name h.more refl

-- a table grows by at most one name when a name is added
few_by : (found : Bool) (table : List (List ℕ)) (name : List ℕ)
    → length (cond found table (table ++ name ∷ [])) ≤ length table + 1
few_by true table name = omega arith
few_by false table name = omega (arith, length-append table (name ∷ []))

-- a table gains no more names than were read
pub few_more : (table added : List (List ℕ)) → length (fold with_name table added) ≤ length table + length added
few_more table [] = omega arith
few_more table (name ∷ added) =
    omega (arith, few_by (list_any (bytes_eq name) table) table name, few_more (with_name table name) added)

-- what holds of each name of a table and of an added name holds of each name of the new table
all_by : (P : List ℕ → Type 0) (found : Bool) (table : List (List ℕ)) (name : List ℕ) → All P table → P name
    → All P (cond found table (table ++ name ∷ []))
all_by P true table name each here = each
all_by P false table name each here = All-push P table name each here

-- what holds of each name of a table and of each name read holds of each name of the new table
pub all_named : (P : List ℕ → Type 0) (table added : List (List ℕ)) → All P table → All P added
    → All P (fold with_name table added)
all_named P table [] each read = each
all_named P table (name ∷ added) each read =
    all_named P (with_name table name) added
    (all_by P (list_any (bytes_eq name) table) table name each (All-head P name added read))
    (All-tail P name added read)
