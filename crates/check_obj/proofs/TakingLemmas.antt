-- The first of several methods that takes types, and types that fit others one by one.
--
--   `indices_fit`, `FitFrom`           whether the types of indices fit, and that those from an index on settle it
--   `fit_begins`, `fit_next`           nothing was tried, and one more fits
--   `fit_fails`, `fit_ends`            one does not fit, and all fit
--   `unlike_fail`                      lists of other lengths do not fit
--   `fit_known`                        whether types fit that a checker knows
--   `TakingFrom`                       the first method that takes types is among those from an index on
--   `taking_begins`, `taking_next`     no method was tried, and one more does not take the types
--   `taking_found`                     one takes them
use denote.Ref.{Bor}
use Rattle.std.proofs.Common.{◌≡◌, ℕ, ◌+◌, ◌<◌, ◌≤◌, suc, Bool, true, false, ◌&&◌, List, [], ◌∷◌, Some, refl, sym, ap, ◌∙◌, length, map, get_or, drop, arith}
use Rattle.std.specs.Prelude.{if◌then◌else◌}
use Rattle.std.proofs.lemmas.List.{at_drop_more, drop_all, length-map}
use Rattle.std.proofs.lemmas.Option.{same_Some}
use Rattle.abs_tree.specs.Syntax.{Name, DeclTree}
use Rattle.abs_tree.specs.SyntaxViews.{param_tree, type_tree}
use Rattle.abs_tree.specs.declared.syntax.declaration.Signature.{Signature}
use Rattle.abs_types.specs.Arguments.{all_fit}
use Rattle.abs_types.specs.Methods.{first_taking, method_type}
use Rattle.abs_types.specs.PlainTypes.{PlainType, plain}
use Rattle.abs_types.specs.Schemes.{param_types}
use Rattle.abs_types.specs.Subtyping.{fits}
use Rattle.abs_types.specs.TypeShapes.{type_at, types_at}
use Rattle.abs_types.specs.TypeTables.{declarations_of, types_in}
use Rattle.abs_types.specs.declared.table.shape.TypeIndex.{TypeIndex}
use Rattle.check_fun.proofs.ContextLemmas.{finds_all_stays, knows_stays, stays_reflexive, stays_transitive}
use Rattle.check_fun.proofs.RuleLemmas.{declarations_are}
use Rattle.check_fun.specs.Contexts.{Context, FindsAll, Knows, Stays}
use Rattle.check_fun.specs.declared.checker.Checker.{Checker}
use Rattle.check_obj.specs.Calls.{trees_of}
use Rattle.std.proofs.Math.Bool.{and-false}

-- whether indices stand for types that fit those for which others stand
abbrev pub indices_fit : Checker → List TypeIndex → List TypeIndex → Bool
indices_fit checker given takes =
    all_fit (declarations_of checker.table) (types_at (types_in checker.table) given)
    (types_at (types_in checker.table) takes)

-- The types from an index on settle whether all fit.
pub record FitFrom (checker : Checker) (given takes : List TypeIndex) (index : ℕ) : Type 0 where
  pub settled : indices_fit checker (drop index given) (drop index takes) ≡ indices_fit checker given takes

-- those from the first one on do
pub fit_begins : {checker : Checker} {given takes : List TypeIndex} → FitFrom checker given takes 0
fit_begins = record { settled = refl }

-- whether indices fit, by the first ones
fit_at : (checker : Checker) (given takes : List TypeIndex) (index : ℕ) (one other : TypeIndex)
    → index < length given → length given ≡ length takes
    → indices_fit checker (drop index given) (drop index takes)
    ≡ fits (declarations_of checker.table) (type_at (types_in checker.table) (get_or given index one))
    (type_at (types_in checker.table) (get_or takes index other))
    && indices_fit checker (drop (index + 1) given) (drop (index + 1) takes)
fit_at checker given takes index one other there same =
    let there_too : index < length takes = omega arith in
    at_drop_more (λ (rest : List TypeIndex). indices_fit checker rest (drop index takes)) given index one there
    ∙ at_drop_more
    (λ (rest : List TypeIndex). indices_fit checker (get_or given index one ∷ drop (index + 1) given) rest)
    takes index other there_too

-- one more index fits
pub fit_next : {checker : Checker} {given takes : List TypeIndex} {index : ℕ} {fit : Bool} (one other : TypeIndex)
    → FitFrom checker given takes index → index < length given → length given ≡ length takes
    → fit ≡ fits (declarations_of checker.table) (type_at (types_in checker.table) (get_or given index one))
    (type_at (types_in checker.table) (get_or takes index other)) → fit ≡ true
    → FitFrom checker given takes (index + 1)
fit_next {checker} {given} {takes} {index} one other from there same is fit =
    let taken = sym is ∙ fit in
    record {
      settled = sym (fit_at checker given takes index one other there same
          ∙ ap (λ (first : Bool). first && indices_fit checker (drop (index + 1) given) (drop (index + 1) takes)) taken)
          ∙ from.settled;
    }

-- one that does not fit settles that not all do
pub fit_fails : {checker : Checker} {given takes : List TypeIndex} {index : ℕ} {fit : Bool} (one other : TypeIndex)
    → FitFrom checker given takes index → index < length given → length given ≡ length takes
    → fit ≡ fits (declarations_of checker.table) (type_at (types_in checker.table) (get_or given index one))
    (type_at (types_in checker.table) (get_or takes index other)) → fit ≡ false
    → false ≡ indices_fit checker given takes
fit_fails {checker} {given} {takes} {index} one other from there same is fails =
    let left = sym is ∙ fails in
    sym (fit_at checker given takes index one other there same
    ∙ ap (λ (first : Bool). first && indices_fit checker (drop (index + 1) given) (drop (index + 1) takes)) left)
    ∙ from.settled

-- all fit, if all were tried
pub fit_ends : {checker : Checker} {given takes : List TypeIndex} {index : ℕ} → FitFrom checker given takes index
    → length given ≤ index → length given ≡ length takes → true ≡ indices_fit checker given takes
fit_ends {checker} {given} {takes} {index} from over same =
    let over_too : length takes ≤ index = omega arith in
    let none : drop index given ≡ [] = drop_all index given over in
    let none_too : drop index takes ≡ [] = drop_all index takes over_too in
    (rw (none, none_too) at from.settled)

-- lists of other lengths do not fit
unlike_apart : (declarations : List DeclTree) (types others : List PlainType) → (length types ≡ length others → ⊥)
    → false ≡ all_fit declarations types others
unlike_apart declarations [] [] apart = absurd (apart refl)
unlike_apart declarations [] (other ∷ others) apart = refl
unlike_apart declarations (type ∷ types) [] apart = refl
unlike_apart declarations (type ∷ types) (other ∷ others) apart =
    sym (ap (λ (rest : Bool). fits declarations type other && rest)
    (sym (unlike_apart declarations types others (λ same. apart (ap suc same))))
    ∙ and-false (fits declarations type other))

-- so it is with indices
pub unlike_fail : (checker : Checker) (given takes : List TypeIndex) → (length given ≡ length takes → ⊥)
    → false ≡ indices_fit checker given takes
unlike_fail checker given takes apart =
    unlike_apart (declarations_of checker.table) (types_at (types_in checker.table) given)
    (types_at (types_in checker.table) takes)
    (λ same. apart (sym (length-map given (type_at (types_in checker.table))) ∙ same
    ∙ length-map takes (type_at (types_in checker.table))))

-- what a checker knows settles whether types fit
pub fit_known : {checker : Checker} {context : Context} {given takes : List TypeIndex} {types others : List PlainType}
    {fit : Bool} → fit ≡ indices_fit checker given takes → Knows checker context
    → FindsAll checker (Some given) (Some types) → FindsAll checker (Some takes) (Some others)
    → fit ≡ all_fit context.declarations types others
fit_known {checker} {given = given} {takes = takes} {types = types} {others = others} is knows first second =
    let types_are : types_at (types_in checker.table) given ≡ types = same_Some _ _ first.are in
    let others_are : types_at (types_in checker.table) takes ≡ others = same_Some _ _ second.are in
    rw (← declarations_are knows, ← types_are, ← others_are) is

-- Of several methods the first that takes types is among those from an index on; the checker stays so far.
pub record TakingFrom (start now : Checker) (given : List TypeIndex) (methods : List (Bor Signature)) (index : ℕ)
    : Type 0 where
  pub first : now.first ≡ start.first
  pub stays : Stays start now
  pub left : (context : Context) (types : List PlainType) → Knows start context
      → FindsAll start (Some given) (Some types)
      → first_taking context.declarations types (map method_type (trees_of context.names (drop index methods)))
      ≡ first_taking context.declarations types (map method_type (trees_of context.names methods))

-- it is among all
pub taking_begins : {start : Checker} {given : List TypeIndex} {methods : List (Bor Signature)}
    → TakingFrom start start given methods 0
taking_begins = record { first = refl; stays = stays_reflexive; left = λ context types knows finds. refl }

-- what a method takes
abbrev pub takes_in : List Name → Bor Signature → List PlainType
takes_in names method = param_types (map (param_tree names) method.now.params.items)

-- the first that takes types among those from an index on, by the one at the index
taking_at : (declarations : List DeclTree) (names : List Name) (types : List PlainType)
    (methods : List (Bor Signature)) (index : ℕ) (method : Bor Signature) → index < length methods
    → method ≡ get_or methods index method
    → first_taking declarations types (map method_type (trees_of names (drop index methods)))
    ≡ (if all_fit declarations types (takes_in names method) then Some (plain (type_tree names method.now.result))
    else first_taking declarations types (map method_type (trees_of names (drop (index + 1) methods))))
taking_at declarations names types methods index method there is =
    at_drop_more (λ (rest : List (Bor Signature)). first_taking declarations types
    (map method_type (trees_of names rest))) methods index method there
    ∙ ap (λ (one : Bor Signature). first_taking declarations types
    (map method_type (trees_of names (one ∷ drop (index + 1) methods)))) (sym is)

-- Whether types for which indices stand fit those for which others stand, in what a checker knows.
abbrev pub TellsFit : Checker → List TypeIndex → List TypeIndex → Bool → Type 0
TellsFit checker given takes fit = (context : Context) (types others : List PlainType) → Knows checker context
    → FindsAll checker (Some given) (Some types) → FindsAll checker (Some takes) (Some others)
    → fit ≡ all_fit context.declarations types others

-- the indices of what a method takes, in what a checker knew
abbrev pub FindsTaken : Checker → Checker → Bor Signature → List TypeIndex → Type 0
FindsTaken now next method takes = (context : Context) → Knows now context
    → FindsAll next (Some takes) (Some (takes_in context.names method))

-- whether a method takes types, in what a checker knew at the start
reported_at : {start now next : Checker} {given takes : List TypeIndex} {methods : List (Bor Signature)} {index : ℕ}
    {fit : Bool} {context : Context} {types : List PlainType} (method : Bor Signature)
    → TakingFrom start now given methods index → Stays now next → FindsTaken now next method takes
    → TellsFit next given takes fit → Knows start context → FindsAll start (Some given) (Some types)
    → fit ≡ all_fit context.declarations types (takes_in context.names method)
reported_at {context = context} {types = types} method from stays taken tells knows finds =
    tells context types (takes_in context.names method) (knows_stays (stays_transitive from.stays stays) knows)
    (finds_all_stays (stays_transitive from.stays stays) finds) (taken context (knows_stays from.stays knows))

-- a method that does not take the types is not the first that does
pub taking_next : {start now next : Checker} {given takes : List TypeIndex} {methods : List (Bor Signature)} {index : ℕ}
    {fit : Bool} (method : Bor Signature) → TakingFrom start now given methods index → index < length methods
    → method ≡ get_or methods index method → next.first ≡ now.first → Stays now next
    → FindsTaken now next method takes → TellsFit next given takes fit → fit ≡ false
    → TakingFrom start next given methods (index + 1)
taking_next {start} {next = next} {methods = methods} {index = index} method from there is first stays taken tells
    fails = record {
      first = first ∙ from.first;
      stays = stays_transitive from.stays stays;
      left = λ context types knows finds.
          let reported = sym (reported_at method from stays taken tells knows finds) ∙ fails in
          sym (taking_at context.declarations context.names types methods index method there is
          ∙ ap (λ (fit : Bool). if fit then Some (plain (type_tree context.names method.now.result))
          else first_taking context.declarations types
          (map method_type (trees_of context.names (drop (index + 1) methods)))) reported)
          ∙ from.left context types knows finds;
    }

-- a method that takes the types is the first that does
pub taking_found : {start now next : Checker} {given takes : List TypeIndex} {methods : List (Bor Signature)}
    {index : ℕ} {fit : Bool} {context : Context} {types : List PlainType} (method : Bor Signature)
    → TakingFrom start now given methods index → index < length methods → method ≡ get_or methods index method
    → Stays now next → FindsTaken now next method takes → TellsFit next given takes fit → fit ≡ true
    → Knows start context → FindsAll start (Some given) (Some types)
    → Some (plain (type_tree context.names method.now.result))
    ≡ first_taking context.declarations types (map method_type (trees_of context.names methods))
taking_found {methods = methods} {index = index} {context = context} {types = types} method from there is stays taken
    tells fit knows finds =
    let reported = sym (reported_at method from stays taken tells knows finds) ∙ fit in
    sym (taking_at context.declarations context.names types methods index method there is
    ∙ ap (λ (fit : Bool). if fit then Some (plain (type_tree context.names method.now.result))
    else first_taking context.declarations types
    (map method_type (trees_of context.names (drop (index + 1) methods)))) reported)
    ∙ from.left context types knows finds
