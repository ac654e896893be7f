-- The type of operators of one precedence, after some of them.
--
--   `OperatedSoFar`                                what a loop over the operands keeps
--   `OperatedSoFar-next`                           it is so after one more operand
--   `next_right_found`                             the next right operand has a type of the table
--   `operated_found`, `operated_failed`            the type that all operators give, or that there is none
use Rattle.std.proofs.Common.{◌≡◌, ℕ, ◌+◌, ◌<◌, ◌≤◌, List, Option, Some, None, refl, sym, ap, ◌∙◌, get_or, length, drop, drop_of_length-le}
use Rattle.std.specs.Prelude.{option_and_then}
use Rattle.std.proofs.lemmas.List.{drop_more}
use Rattle.std.proofs.lemmas.Option.{same_Some}
use Rattle.abs_tree.specs.declared.syntax.expression.Operand.{Operand}
use Rattle.abs_types.proofs.KeepLemmas.{among_kept, type_at_kept}
use Rattle.abs_types.specs.OperatorTypes.{operand_types, operator_type}
use Rattle.abs_types.specs.PlainTypes.{PlainType}
use Rattle.abs_types.specs.TypeShapes.{type_at, types_at}
use Rattle.abs_types.specs.TypeTables.{declarations_of, types_in}
use Rattle.abs_types.specs.declared.table.shape.TypeIndex.{TypeIndex}
use Rattle.check_fun.proofs.ContextLemmas.{knows_stays, stays_transitive}
use Rattle.check_fun.proofs.RuleLemmas.{declarations_are, declarations_stay, stands_for}
use Rattle.check_fun.specs.Contexts.{context_in, operators_of, Context, FindsAll, Finds, FoundAll, Found, Knows, Stays}
use Rattle.check_fun.specs.declared.checker.Checker.{Checker}

-- The operands from an index on are left. With the type so far they give what all operands give.
pub record OperatedSoFar (before now : Checker) (first : TypeIndex) (operands : List Operand) (rights : List TypeIndex)
    (left : TypeIndex) (index : ℕ) : Type 0 where
  pub first_is : now.first ≡ before.first
  pub stays : Stays before now
  pub rights_are : FoundAll before (Some rights)
  pub left_is : Found now (Some left)
  pub so_far : operand_types (declarations_of before.table) (type_at (types_in now.table) left)
      (operators_of (drop index operands) (types_at (types_in before.table) (drop index rights)))
      ≡ operand_types (declarations_of before.table) (type_at (types_in before.table) first)
      (operators_of operands (types_at (types_in before.table) rights))

-- the next right operand has a type of the table
pub next_right_found : {before now : Checker} {first left : TypeIndex} {operands : List Operand}
    {rights : List TypeIndex} {index : ℕ} (default : TypeIndex)
    → OperatedSoFar before now first operands rights left index → index < length rights
    → Found now (Some (get_or rights index default))
next_right_found {index = index} default so there =
    record { among = among_kept so.stays.keeps (so.rights_are.among index default there) }

-- the type of the next operator, followed by the others, is that of all
next_operated : {before now : Checker} {context : Context} {first left : TypeIndex} {operands : List Operand}
    {rights : List TypeIndex} {index : ℕ} (operand : Operand) (default : TypeIndex) (given : Option PlainType)
    → OperatedSoFar before now first operands rights left index → index < length operands → index < length rights
    → Knows now context
    → given ≡ operator_type context.declarations (get_or operands index operand).operator
    (type_at (types_in now.table) left) (type_at (types_in now.table) (get_or rights index default))
    → option_and_then (λ (one : PlainType). operand_types (declarations_of before.table) one
    (operators_of (drop (index + 1) operands) (types_at (types_in before.table) (drop (index + 1) rights)))) given
    ≡ operand_types (declarations_of before.table) (type_at (types_in before.table) first)
    (operators_of operands (types_at (types_in before.table) rights))
next_operated {before} {now} {left = left} {operands = operands} {rights = rights} {index = index} operand default given
    so there right_there knows is =
    let met : given ≡ operator_type (declarations_of before.table) (get_or operands index operand).operator
    (type_at (types_in now.table) left) (type_at (types_in before.table) (get_or rights index default)) =
    rw (
      declarations_stay so.stays knows,
      sym (type_at_kept so.stays.keeps (so.rights_are.among index default right_there)),
    ) is in
    ap (option_and_then (λ (one : PlainType). operand_types (declarations_of before.table) one
    (operators_of (drop (index + 1) operands) (types_at (types_in before.table) (drop (index + 1) rights))))) met
    ∙ (rw (drop_more operands index operand there, drop_more rights index default right_there) at so.so_far)

-- it is so after one more operand
pub OperatedSoFar-next : {before now later : Checker} {first left given : TypeIndex} {operands : List Operand}
    {rights : List TypeIndex} {index : ℕ} (operand : Operand) (default : TypeIndex)
    → OperatedSoFar before now first operands rights left index → index < length operands → index < length rights
    → later.first ≡ now.first → Stays now later
    → Finds later (Some given) (operator_type (context_in now).declarations (get_or operands index operand).operator
    (type_at (types_in now.table) left) (type_at (types_in now.table) (get_or rights index default)))
    → OperatedSoFar before later first operands rights given (index + 1)
OperatedSoFar-next {later = later} {given = given} operand default so there right_there first_is stays finds = record {
  first_is = first_is ∙ so.first_is;
  stays = stays_transitive so.stays stays;
  rights_are = so.rights_are;
  left_is = finds.found_is;
  so_far = next_operated operand default (Some (type_at (types_in later.table) given)) so there right_there
      (record { is = refl }) finds.is;
}

-- the operators with the types of their operands are those that the checker finds
operands_are : {before : Checker} {context : Context} {first : TypeIndex} {rights : List TypeIndex} {one : PlainType}
    {types : List PlainType} (operands : List Operand) → Knows before context
    → Finds before (Some first) (Some one) → FindsAll before (Some rights) (Some types)
    → operand_types context.declarations one (operators_of operands types)
    ≡ operand_types (declarations_of before.table) (type_at (types_in before.table) first)
    (operators_of operands (types_at (types_in before.table) rights))
operands_are operands knows finds all =
    rw (sym (same_Some _ _ all.are), sym (stands_for finds), sym (declarations_are knows)) refl

-- after all operators it is the type that they give
pub operated_found : {before now : Checker} {context : Context} {first left : TypeIndex} {operands : List Operand}
    {rights : List TypeIndex} {index : ℕ} {one : PlainType} {types : List PlainType}
    → OperatedSoFar before now first operands rights left index → length operands ≤ index → Knows before context
    → Finds before (Some first) (Some one) → FindsAll before (Some rights) (Some types)
    → Finds now (Some left) (operand_types context.declarations one (operators_of operands types))
operated_found {operands = operands} so done knows finds all = record {
  found_is = so.left_is;
  is = (rw (drop_of_length-le operands done) at so.so_far) ∙ sym (operands_are operands knows finds all);
}

-- where one more operator gives no type, there is none
pub operated_failed : {before now later : Checker} {context : Context} {first left : TypeIndex}
    {operands : List Operand} {rights : List TypeIndex} {index : ℕ} {one : PlainType} {types : List PlainType}
    (operand : Operand) (default : TypeIndex) → OperatedSoFar before now first operands rights left index
    → index < length operands → index < length rights → Knows before context → Finds before (Some first) (Some one)
    → FindsAll before (Some rights) (Some types)
    → Finds later None (operator_type context.declarations (get_or operands index operand).operator
    (type_at (types_in now.table) left) (type_at (types_in now.table) (get_or rights index default)))
    → Finds later None (operand_types context.declarations one (operators_of operands types))
operated_failed {operands = operands} operand default so there right_there knows finds all none = record {
  found_is = none.found_is;
  is = next_operated operand default None so there right_there (knows_stays so.stays knows) none.is
      ∙ sym (operands_are operands knows finds all);
}
