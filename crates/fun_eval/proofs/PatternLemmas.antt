-- What matching adds to the bound variables, pattern by pattern and branch by branch.
--
--   `matches_any`, `matches_binds`, ..     the forms of a pattern
--   `so_far_more`, ..                  the patterns of a constructor's arguments
--   `other_length`                     as many patterns as parts
--   `first_matches`, `none_matches`    a branch whose pattern matches, and one whose does not
use Rattle.std.proofs.Common.{◌≡◌, ◌≢◌, ℕ, ℤ, Bool, true, false, List, [], ◌∷◌, ◌++◌, drop, length, Option, Some, None, refl, sym, ap, ◌∙◌, subst, append_assoc, append-nil, arith, nat_eq, suc, ◌⊎◌, ⊎_elim}
use Rattle.std.specs.Option.{option_and_then}
use Rattle.std.specs.Prelude.{if◌then◌else◌}
use Rattle.std.specs.declared.alloc.Global.{Global}
use Rattle.std.specs.declared.vec.Vec.{Vec}
use Rattle.abs_values.specs.Evaluation.{Outcome, branches_outcome}
use Rattle.abs_tree.proofs.SyntaxLemmas.{pattern_tree-built}
use Rattle.abs_tree.specs.Names.{name_of, number_of_name}
use Rattle.abs_values.specs.Operations.{all_matched, both_matched, matched}
use Rattle.abs_tree.specs.Syntax.{Name, VariableTree, ExprTree, PatternTree, AnyValue, Binds, SameNumber, SameString, Built, PatternTrees, Branches, NextBranch}
use Rattle.abs_tree.specs.SyntaxViews.{pattern_tree, pattern_trees}
use Rattle.abs_values.specs.ValueTrees.{ValueTree, IntValue, StringValue, BuiltValue, ObjectValue, FutureValue, NullValue, ValueTrees}
use Rattle.abs_values.specs.ValueViews.{value_tree, value_trees}
use Rattle.abs_tree.specs.declared.place.Place.{Place}
use Rattle.abs_tree.specs.declared.symbol.Symbol.{Symbol}
use Rattle.abs_tree.specs.declared.syntax.pattern.Pattern as code
use Rattle.abs_tree.specs.declared.syntax.pattern.Pattern.{Pattern}
use Rattle.abs_values.specs.declared.value.Value.{Value}
use Rattle.fun_eval.proofs.StackLemmas.{added_after, added_twice, begins_added, begins_further, begins_more, begins_same}
use Rattle.fun_eval.specs.Matching.{is_number, is_string, parts_with, Begins, Matches}

-- a pattern that binds nothing takes no value exactly where it matches
pub matches_if : (takes : Option (List ValueTree)) (answer : Bool) (items : List ValueTree)
    → takes ≡ (if answer then Some [] else None) → Matches takes answer items items
matches_if takes true items is = rw is (refl, sym (append-nil items))
matches_if takes false items is = rw is (refl, begins_same items)

pub matches_any : (names : List Name) (place : Place) (value : ValueTree) (items : List ValueTree)
    → Matches (matched names (AnyValue place) value) true items items
unfolding matched
matches_any names place value items = (refl, sym (append-nil items))

pub matches_binds : (names : List Name) (place : Place) (variable : VariableTree) (value : ValueTree)
    (before now : List ValueTree) → now ≡ before ++ value ∷ []
    → Matches (matched names (Binds place variable) value) true before now
unfolding matched
matches_binds names place variable value before now is = (refl, is)

pub matches_number : (names : List Name) (place : Place) (number : ℤ) (value : ValueTree) (items : List ValueTree)
    → Matches (matched names (SameNumber place number) value) (is_number number value) items items
unfolding matched
matches_number names place number value items =
    matches_if (matched names (SameNumber place number) value) (is_number number value) items (by_sort value)
  where
    by_sort : (v : ValueTree) → matched names (SameNumber place number) v
        ≡ (if is_number number v then Some [] else None)
    by_sort (IntValue other) = refl
    by_sort (StringValue string) = refl
    by_sort (BuiltValue constructor parts) = refl
    by_sort (ObjectValue object) = refl
    by_sort (FutureValue task) = refl
    by_sort NullValue = refl

pub matches_string : (names : List Name) (place : Place) (string : List ℕ) (value : ValueTree) (items : List ValueTree)
    → Matches (matched names (SameString place string) value) (is_string string value) items items
unfolding matched
matches_string names place string value items =
    matches_if (matched names (SameString place string) value) (is_string string value) items (by_sort value)
  where
    by_sort : (v : ValueTree) → matched names (SameString place string) v
        ≡ (if is_string string v then Some [] else None)
    by_sort (IntValue number) = refl
    by_sort (StringValue other) = refl
    by_sort (BuiltValue constructor parts) = refl
    by_sort (ObjectValue object) = refl
    by_sort (FutureValue task) = refl
    by_sort NullValue = refl

-- a constructor with its arguments takes what they take from the parts of a value with this constructor
pub built_taken : (names : List Name) (place : Place) (constructor : Name) (patterns : PatternTrees) (value : ValueTree)
    → matched names (Built place constructor patterns) value
    ≡ option_and_then (all_matched names patterns) (parts_with (number_of_name names constructor) value)
unfolding matched
built_taken names place constructor patterns (IntValue number) = refl
built_taken names place constructor patterns (StringValue string) = refl
built_taken names place constructor patterns (BuiltValue other parts) =
    by_answer (nat_eq (number_of_name names constructor) other)
  where
    by_answer : (same : Bool) → (if same then all_matched names patterns parts else None)
        ≡ option_and_then (all_matched names patterns) (if same then Some parts else None)
    by_answer true = refl
    by_answer false = refl
built_taken names place constructor patterns (ObjectValue object) = refl
built_taken names place constructor patterns (FutureValue task) = refl
built_taken names place constructor patterns NullValue = refl

pub built_in_memory : (names : List Name) (pattern : Pattern) (place : Place) (symbol : Symbol)
    (arguments : Vec Pattern Global) (value : ValueTree) (found : Option ValueTrees)
    → pattern ≡ code.Built place symbol arguments
    → found ≡ parts_with (number_of_name names (name_of names symbol)) value
    → matched names (pattern_tree names pattern) value
    ≡ option_and_then (all_matched names (pattern_trees names arguments.items)) found
built_in_memory names pattern place symbol arguments value found is has =
    ap (λ (tree : PatternTree). matched names tree value)
    (ap (pattern_tree names) is ∙ pattern_tree-built names place symbol arguments)
    ∙ (built_taken names place (name_of names symbol) (pattern_trees names arguments.items) value
    ∙ ap (option_and_then (all_matched names (pattern_trees names arguments.items))) (sym has))

-- lists of other lengths do not match
pub other_length : (names : List Name) (patterns : List Pattern) (values : List Value)
    → length patterns ≢ length values → all_matched names (pattern_trees names patterns) (value_trees values) ≡ None
unfolding matched all_matched
other_length names [] [] different = absurd (different refl)
other_length names [] (value ∷ values) different = refl
other_length names (pattern ∷ patterns) [] different = refl
other_length names (pattern ∷ patterns) (value ∷ values) different =
    rw (other_length names patterns values (λ same. different (omega (arith, same))))
    (none_after (matched names (pattern_tree names pattern) (value_tree value)))
  where
    none_after : (first : Option (List ValueTree)) → both_matched first None ≡ None
    none_after (Some taken) = refl
    none_after None = refl

-- The first patterns match, and their values were added to those before; so the others decide.
pub record PatternsSoFar (names : List Name) (all : Option (List ValueTree)) (patterns : List Pattern)
    (values : List Value) (before now : List ValueTree) : Type 0 where
  pub lengths : length patterns ≡ length values
  pub begins : Begins before now
  pub so_far : all ≡ both_matched (Some (drop (length before) now))
      (all_matched names (pattern_trees names patterns) (value_trees values))

-- one after the other
both_assoc : (first second : List ValueTree) (others : Option (List ValueTree))
    → both_matched (Some first) (both_matched (Some second) others) ≡ both_matched (Some (first ++ second)) others
both_assoc first second (Some values) = ap Some (sym (append_assoc first second values))
both_assoc first second None = refl

-- the first of the patterns that are left, and its value
first_left : {names : List Name} {all : Option (List ValueTree)} {patterns : List Pattern} {values : List Value}
    {before now : List ValueTree} (pattern : Pattern) (others : List Pattern) (value : Value) (more : List Value)
    → patterns ≡ pattern ∷ others → values ≡ value ∷ more → PatternsSoFar names all patterns values before now
    → PatternsSoFar names all (pattern ∷ others) (value ∷ more) before now
first_left {names} {all} {patterns} {values} {before} {now} pattern others value more is are so_far =
    subst (λ (left : List Pattern). PatternsSoFar names all left (value ∷ more) before now) is
    (subst (λ (left : List Value). PatternsSoFar names all patterns left before now) are so_far)

-- one more pattern matches
pub so_far_more : {names : List Name} {all : Option (List ValueTree)} {left : List Pattern} {parts : List Value}
    {before between now : List ValueTree} (pattern : Pattern) (patterns : List Pattern) (value : Value)
    (values : List Value) (answer : Bool) → left ≡ pattern ∷ patterns → parts ≡ value ∷ values
    → PatternsSoFar names all left parts before between → answer ≡ true
    → Matches (matched names (pattern_tree names pattern) (value_tree value)) answer between now
    → PatternsSoFar names all patterns values before now
unfolding all_matched
so_far_more {names} {all} {left} {parts} {before} {between} {now} pattern patterns value values answer is are so_far does
    matches =
    by_taken (matched names (pattern_tree names pattern) (value_tree value)) refl
    (subst (λ (b : Bool). Matches (matched names (pattern_tree names pattern) (value_tree value)) b between now) does
    matches)
  where
    given : PatternsSoFar names all (pattern ∷ patterns) (value ∷ values) before between
    given = first_left pattern patterns value values is are so_far

    by_taken : (takes : Option (List ValueTree))
        → matched names (pattern_tree names pattern) (value_tree value) ≡ takes → Matches takes true between now
        → PatternsSoFar names all patterns values before now
    by_taken (Some taken) takes_is has =
        let rest = all_matched names (pattern_trees names patterns) (value_trees values) in
        record {
          lengths = let same : length patterns ≡ length values = omega (arith, given.lengths) in same;
          begins =
              subst (Begins before) (sym (ap (λ (items : List ValueTree). items ++ taken) (begins_added given.begins)
              ∙ append_assoc before (drop (length before) between) taken) ∙ sym has.1)
              (begins_more before (drop (length before) between ++ taken));
          so_far =
              given.so_far
              ∙ (ap (λ (first : Option (List ValueTree)). both_matched (Some (drop (length before) between))
              (both_matched first rest)) takes_is
              ∙ (both_assoc (drop (length before) between) taken rest
              ∙ ap (λ (added : List ValueTree). both_matched (Some added) rest)
              (sym (ap (drop (length before)) has.1 ∙ added_twice before between taken given.begins))));
        }
    by_taken None takes_is has = absurd (cc)

-- one pattern does not match, so all do not
pub so_far_not : {names : List Name} {all : Option (List ValueTree)} {left : List Pattern} {parts : List Value}
    {before between : List ValueTree} (pattern : Pattern) (patterns : List Pattern) (value : Value)
    (values : List Value) (now : List ValueTree) (answer : Bool) → left ≡ pattern ∷ patterns → parts ≡ value ∷ values
    → PatternsSoFar names all left parts before between → answer ≡ false
    → Matches (matched names (pattern_tree names pattern) (value_tree value)) answer between now
    → Matches all false before now
unfolding all_matched
so_far_not {names} {all} {left} {parts} {before} {between} pattern patterns value values now answer is are so_far does_not
    matches =
    by_taken (matched names (pattern_tree names pattern) (value_tree value)) refl
    (subst (λ (b : Bool). Matches (matched names (pattern_tree names pattern) (value_tree value)) b between now) does_not
    matches)
  where
    given : PatternsSoFar names all (pattern ∷ patterns) (value ∷ values) before between
    given = first_left pattern patterns value values is are so_far

    by_taken : (takes : Option (List ValueTree))
        → matched names (pattern_tree names pattern) (value_tree value) ≡ takes → Matches takes false between now
        → Matches all false before now
    by_taken (Some taken) takes_is has = absurd (cc)
    by_taken None takes_is has =
        let none : all ≡ None = given.so_far
        ∙ ap (λ (first : Option (List ValueTree)). both_matched (Some (drop (length before) between))
        (both_matched first (all_matched names (pattern_trees names patterns) (value_trees values)))) takes_is in
        rw none (
          refl,
          begins_further before (drop (length before) between) now
              (subst (λ (items : List ValueTree). Begins items now) (begins_added given.begins) has.1),
        )

-- no pattern is left, so all match
pub so_far_all : {names : List Name} {all : Option (List ValueTree)} {before now : List ValueTree}
    (left : List Pattern) (parts : List Value) → (length left ≡ 0) ⊎ (length parts ≡ 0)
    → PatternsSoFar names all left parts before now → Matches all true before now
unfolding all_matched
so_far_all {names} {all} {before} {now} [] [] none so_far =
    rw (so_far.so_far ∙ ap Some (append-nil (drop (length before) now))) (refl, begins_added so_far.begins)
so_far_all [] (value ∷ values) none so_far = absurd (omega (arith, so_far.lengths))
so_far_all (pattern ∷ patterns) [] none so_far = absurd (omega (arith, so_far.lengths))
so_far_all (pattern ∷ patterns) (value ∷ values) none so_far =
    absurd (⊎_elim (λ empty. let zero : suc (length patterns) ≡ 0 = empty in omega (arith, zero))
    (λ empty. let zero : suc (length values) ≡ 0 = empty in omega (arith, zero)) none)

-- a branch whose pattern matches is the first one
pub first_matches : (names : List Name) (give : List ValueTree → ExprTree → ℕ → Outcome) (pattern : PatternTree)
    (body : ExprTree) (others : Branches) (value : ValueTree) (made : ℕ) (before now : List ValueTree) (answer : Bool)
    → answer ≡ true → Matches (matched names pattern value) answer before now
    → branches_outcome names give (NextBranch pattern body others) value made ≡ give (drop (length before) now) body made
first_matches names give pattern body others value made before now answer does matches =
    by_taken (matched names pattern value) refl
    (subst (λ (b : Bool). Matches (matched names pattern value) b before now) does matches)
  where
    by_taken : (takes : Option (List ValueTree)) → matched names pattern value ≡ takes → Matches takes true before now
        → branches_outcome names give (NextBranch pattern body others) value made
        ≡ give (drop (length before) now) body made
    by_taken (Some taken) is has = rw (is, has.1, added_after before taken) refl
    by_taken None is has = absurd (cc)

-- what a pattern adds that matches
pub first_begins : (takes : Option (List ValueTree)) (answer : Bool) (before now : List ValueTree)
    → Matches takes answer before now → Begins before now
first_begins (Some taken) answer before now matches = subst (Begins before) (sym matches.1) (begins_more before taken)
first_begins None answer before now matches = matches.1

-- a branch whose pattern does not match is passed over
pub none_matches : (names : List Name) (give : List ValueTree → ExprTree → ℕ → Outcome) (pattern : PatternTree)
    (body : ExprTree) (others : Branches) (value : ValueTree) (made : ℕ) (before now : List ValueTree) (answer : Bool)
    → answer ≡ false → Matches (matched names pattern value) answer before now
    → branches_outcome names give (NextBranch pattern body others) value made
    ≡ branches_outcome names give others value made
none_matches names give pattern body others value made before now answer does_not matches =
    by_taken (matched names pattern value) refl
    (subst (λ (b : Bool). Matches (matched names pattern value) b before now) does_not matches)
  where
    by_taken : (takes : Option (List ValueTree)) → matched names pattern value ≡ takes → Matches takes false before now
        → branches_outcome names give (NextBranch pattern body others) value made
        ≡ branches_outcome names give others value made
    by_taken (Some taken) is has = absurd (cc)
    by_taken None is has = rw is refl
