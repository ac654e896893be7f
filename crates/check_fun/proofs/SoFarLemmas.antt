-- Lists of which a prefix was checked: each item has a type, or its offences were noted.
--
--   `IsRow`                                    types and offences of a list are those of its items, in their order
--   `RowSoFar`                                 a prefix was checked
--   `row_begins`, `row_step`                   nothing was checked so far, and one more item was checked
--   `row_found`, `row_noted`                   all was checked
--   `ExprsSoFar`, `OperandsSoFar`, `BranchesSoFar`     expressions, right operands and branches
--   `exprs_row`, `operands_row`, `branches_row`        these are rows
use Rattle.std.proofs.Common.{◌≡◌, ℕ, ◌+◌, ◌<◌, ◌≤◌, List, [], ◌∷◌, ◌++◌, Some, None, Option, length, get_or, take, refl, sym, ap, ◌∙◌, subst, append_assoc, append-nil, arith}
use Rattle.std.proofs.lemmas.List.{take_all, take_more}
use Rattle.abs_tree.specs.declared.refusal.Offence.{Offence}
use Rattle.abs_tree.specs.declared.syntax.expression.Branch.{Branch}
use Rattle.abs_tree.specs.declared.syntax.expression.Expr.{Expr}
use Rattle.abs_tree.specs.declared.syntax.expression.Operand.{Operand}
use Rattle.abs_types.specs.PlainTypes.{PlainType}
use Rattle.abs_types.specs.Typing.{both_types}
use Rattle.abs_types.specs.declared.table.shape.TypeIndex.{TypeIndex}
use Rattle.check_fun.proofs.ContextLemmas.{finds_all_stays, noted_after, noted_nothing, stays_reflexive, stays_transitive}
use Rattle.check_fun.specs.Contexts.{all_offend, all_typed, branches_offend, branches_typed, offends, operands_offend, typed, Context, Finds, FindsAll, Knows, Noted, Stays}
use Rattle.check_fun.specs.Parts.{branch_offends, branch_typed, rights_of, with_last}
use Rattle.check_fun.specs.declared.checker.Checker.{Checker}

-- The type and the offences of each item give those of a list.
pub record IsRow {A : Type 0} (type_of : A → Option PlainType) (offences : A → List Offence)
    (types : List A → Option (List PlainType)) (met : List A → List Offence) : Type 0 where
  pub none_typed : types [] ≡ Some []
  pub more_typed : (first : A) (others : List A) → types (first ∷ others) ≡ both_types (type_of first) (types others)
  pub none_met : met [] ≡ []
  pub more_met : (first : A) (others : List A) → met (first ∷ others) ≡ offences first ++ met others

-- one more type in front of several, and one after them
front_and_last : (first : Option PlainType) (types : Option (List PlainType)) (last : Option PlainType)
    → both_types first (with_last types last) ≡ with_last (both_types first types) last
front_and_last None types last = refl
front_and_last (Some first) None last = refl
front_and_last (Some first) (Some types) None = refl
front_and_last (Some first) (Some types) (Some last) = refl

-- one type alone
one_alone : (type : Option PlainType) → both_types type (Some []) ≡ with_last (Some []) type
one_alone None = refl
one_alone (Some type) = refl

-- the types of a list with one more item
types_more : {A : Type 0} {type_of : A → Option PlainType} {offences : A → List Offence}
    {types : List A → Option (List PlainType)} {met : List A → List Offence} (items : List A) (last : A)
    → IsRow type_of offences types met → types (items ++ last ∷ []) ≡ with_last (types items) (type_of last)
types_more {type_of = type_of} [] last row =
    row.more_typed last []
    ∙ (ap (both_types (type_of last)) row.none_typed
    ∙ (one_alone (type_of last)
    ∙ ap (λ (types : Option (List PlainType)). with_last types (type_of last)) (sym row.none_typed)))
types_more {type_of = type_of} {types = types} (first ∷ others) last row =
    row.more_typed first (others ++ last ∷ [])
    ∙ (ap (both_types (type_of first)) (types_more others last row)
    ∙ (front_and_last (type_of first) (types others) (type_of last)
    ∙ ap (λ (found : Option (List PlainType)). with_last found (type_of last)) (sym (row.more_typed first others))))

-- the offences of a list with one more item
met_more : {A : Type 0} {type_of : A → Option PlainType} {offences : A → List Offence}
    {types : List A → Option (List PlainType)} {met : List A → List Offence} (items : List A) (last : A)
    → IsRow type_of offences types met → met (items ++ last ∷ []) ≡ met items ++ offences last
met_more {offences = offences} [] last row =
    row.more_met last []
    ∙ (ap (λ (rest : List Offence). offences last ++ rest) row.none_met
    ∙ (append-nil (offences last)
    ∙ ap (λ (before : List Offence). before ++ offences last) (sym row.none_met)))
met_more {offences = offences} {met = met} (first ∷ others) last row =
    row.more_met first (others ++ last ∷ [])
    ∙ (ap (λ (rest : List Offence). offences first ++ rest) (met_more others last row)
    ∙ (sym (append_assoc (offences first) (met others) (offences last))
    ∙ ap (λ (before : List Offence). before ++ offences last) (sym (row.more_met first others))))

-- The items before an index were checked from a start on, and this is the checker now. What is known of the start is
-- one of several things, each of which gives types and offences.
pub record RowSoFar {P A : Type 0} (known : Checker → P → Type 0) (types : P → List A → Option (List PlainType))
    (met : P → List A → List Offence) (start : Checker) (items : List A) (index : ℕ)
    (found : Option (List TypeIndex)) (now : Checker) : Type 0 where
  pub stays : Stays start now
  pub finds : (what : P) → known start what → FindsAll now found (types what (take index items))
  pub noted : (what : P) → known start what → Noted start.first (met what (take index items)) now.first

-- nothing was checked so far
pub row_begins : {P A : Type 0} {known : Checker → P → Type 0} {types : P → List A → Option (List PlainType)}
    {met : P → List A → List Offence} {type_of : P → A → Option PlainType} {offences : P → A → List Offence}
    {start : Checker} {items : List A} {found : List TypeIndex}
    → ((what : P) → IsRow (type_of what) (offences what) (types what) (met what)) → found ≡ []
    → RowSoFar known types met start items 0 (Some found) start
row_begins {types = types} {start = start} {items = items} row none = record {
  stays = stays_reflexive;
  finds = λ what knows. rw (none, (row what).none_typed)
      (record { found_are = record { among = λ index default below. absurd (omega arith) }; are = refl });
  noted = λ what knows. rw (row what).none_met noted_nothing;
}

-- one more item was checked, which is the one at the index
pub row_step : {P A : Type 0} {known : Checker → P → Type 0} {types : P → List A → Option (List PlainType)}
    {met : P → List A → List Offence} {type_of : P → A → Option PlainType} {offences : P → A → List Offence}
    {start now after : Checker} {items : List A} {index : ℕ} {found all : Option (List TypeIndex)}
    {value : Option TypeIndex} (item : A)
    → ((what : P) → IsRow (type_of what) (offences what) (types what) (met what))
    → RowSoFar known types met start items index found now → index < length items → item ≡ get_or items index item
    → Stays now after
    → ((what : P) → known start what → Finds after value (type_of what item))
    → ((what : P) → known start what → Noted now.first (offences what item) after.first)
    → ((checker : Checker) (before : Option (List PlainType)) (type : Option PlainType) → FindsAll checker found before
    → Finds checker value type → FindsAll checker all (with_last before type))
    → RowSoFar known types met start items (index + 1) all after
row_step {P} {A} {known} {types} {met} {type_of} {offences} {start} {now} {after} {items} {index} {found} {all} {value}
    item row so_far there is stays finds noted added =
    let before = take index items in
    let more : take (index + 1) items ≡ before ++ item ∷ [] =
    take_more items index item there ∙ ap (λ (one : A). before ++ one ∷ []) (sym is) in
    record {
      stays = stays_transitive so_far.stays stays;
      finds = λ what knows. subst (FindsAll after all)
          (sym (ap (types what) more ∙ types_more before item (row what)))
          (added after (types what before) (type_of what item)
          (finds_all_stays stays (so_far.finds what knows)) (finds what knows));
      noted = λ what knows. subst (λ (all_met : List Offence). Noted start.first all_met after.first)
          (sym (ap (met what) more ∙ met_more before item (row what)))
          (noted_after (met what before) (offences what item) (so_far.noted what knows) (noted what knows));
    }

-- all items were checked
pub row_found : {P A : Type 0} {known : Checker → P → Type 0} {types : P → List A → Option (List PlainType)}
    {met : P → List A → List Offence} {start now : Checker} {items : List A} {index : ℕ}
    {found : Option (List TypeIndex)} (what : P) → RowSoFar known types met start items index found now
    → length items ≤ index → known start what → FindsAll now found (types what items)
row_found {types = types} {now = now} {items = items} {index = index} {found = found} what so_far over knows =
    subst (λ (checked : List _). FindsAll now found (types what checked)) (take_all index items over)
    (so_far.finds what knows)

pub row_noted : {P A : Type 0} {known : Checker → P → Type 0} {types : P → List A → Option (List PlainType)}
    {met : P → List A → List Offence} {start now : Checker} {items : List A} {index : ℕ}
    {found : Option (List TypeIndex)} (what : P) → RowSoFar known types met start items index found now
    → length items ≤ index → known start what → Noted start.first (met what items) now.first
row_noted {met = met} {start = start} {now = now} {items = items} {index = index} what so_far over knows =
    subst (λ (checked : List _). Noted start.first (met what checked) now.first) (take_all index items over)
    (so_far.noted what knows)

-- expressions
pub exprs_row : (context : Context) → IsRow (typed context) (offends context) (all_typed context) (all_offend context)
exprs_row context = record {
  none_typed = refl;
  more_typed = λ first others. refl;
  none_met = refl;
  more_met = λ first others. refl;
}

abbrev pub ExprsSoFar : Checker → List Expr → ℕ → Option (List TypeIndex) → Checker → Type 0
ExprsSoFar = RowSoFar Knows all_typed all_offend

-- operators with their right operands
abbrev pub right_typed : Context → Operand → Option PlainType
right_typed context operand = typed context operand.right

abbrev pub right_offends : Context → Operand → List Offence
right_offends context operand = offends context operand.right

abbrev pub rights_typed : Context → List Operand → Option (List PlainType)
rights_typed context operands = all_typed context (rights_of operands)

pub operands_row : (context : Context)
    → IsRow (right_typed context) (right_offends context) (rights_typed context) (operands_offend context)
operands_row context = record {
  none_typed = refl;
  more_typed = λ first others. refl;
  none_met = refl;
  more_met = λ first others. refl;
}

abbrev pub OperandsSoFar : Checker → List Operand → ℕ → Option (List TypeIndex) → Checker → Type 0
OperandsSoFar = RowSoFar Knows rights_typed operands_offend

-- branches, of a subject whose type is known too
abbrev pub KnowsBoth : Option TypeIndex → Checker → Context × Option PlainType → Type 0
KnowsBoth subject checker known = Knows checker known.0 × Finds checker subject known.1

abbrev pub types_of_branches : Context × Option PlainType → List Branch → Option (List PlainType)
types_of_branches known branches = branches_typed known.0 known.1 branches

abbrev pub offences_of_branches : Context × Option PlainType → List Branch → List Offence
offences_of_branches known branches = branches_offend known.0 known.1 branches

pub branches_row : (known : Context × Option PlainType)
    → IsRow (branch_typed known.0 known.1) (branch_offends known.0 known.1) (types_of_branches known)
    (offences_of_branches known)
branches_row known = record {
  none_typed = refl;
  more_typed = λ first others. refl;
  none_met = refl;
  more_met = λ first others. refl;
}

abbrev pub BranchesSoFar : Option TypeIndex → Checker → List Branch → ℕ → Option (List TypeIndex) → Checker → Type 0
BranchesSoFar subject = RowSoFar (KnowsBoth subject) types_of_branches offences_of_branches
