-- The type of a method, made parameter by parameter.
--
--   `TypedSoFar`                   what is found is the type of a method with some of its parameters
--   `typed_first`, `typed_next`    it is so before the first parameter, and after one more
--   `head_found`                   what is found is one of the table
--   `typed_all`                    what is found after all parameters
use Rattle.std.proofs.Common.{◌≡◌, ℕ, ◌+◌, ◌<◌, ◌≤◌, List, [], Some, get_or, length, map, take, refl, sym, ap, ◌∙◌, subst}
use Rattle.std.proofs.lemmas.List.{take_all}
use Rattle.abs_tree.specs.Syntax.{Name}
use Rattle.abs_tree.specs.SyntaxViews.{param_tree, signature_tree, type_tree}
use Rattle.abs_tree.specs.declared.syntax.declaration.Param.{Param}
use Rattle.abs_tree.specs.declared.syntax.declaration.Signature.{Signature}
use Rattle.abs_types.proofs.ConstructorLemmas.{applied_end}
use Rattle.abs_types.specs.PlainTypes.{PlainType, PlainApplied, PlainFut, applied_to, plain}
use Rattle.abs_types.specs.Schemes.{param_types}
use Rattle.abs_types.specs.declared.table.shape.TypeIndex.{TypeIndex}
use Rattle.check_fun.proofs.ContextLemmas.{finds_stays, found_stays, stays_transitive}
use Rattle.check_fun.proofs.SchemeLemmas.{SoFar, found_so_far, params_more, so_far_next}
use Rattle.check_fun.specs.Contexts.{Context, Finds, Found, Knows, Stays}
use Rattle.check_fun.specs.declared.checker.Checker.{Checker}
use Rattle.check_obj.specs.MethodRows.{signature_type}

-- the type of a method with some of its parameters
abbrev with_params : List Name → Signature → List Param → PlainType
with_params names signature params =
    applied_to (PlainFut (plain (type_tree names signature.result))) (param_types (map (param_tree names) params))

-- What is found is the type of a method with some of its parameters.
pub record TypedSoFar (start now : Checker) (signature : Signature) (params : List Param) (found : TypeIndex) : Type 0
  where
    pub so_far : SoFar start now
        (λ (context : Context). Finds now (Some found) (Some (with_params context.names signature params)))

-- it is so before the first parameter
pub typed_first : {start between now : Checker} {gives found : TypeIndex} {signature : Signature}
    → between.first ≡ start.first → Stays start between
    → ((context : Context) → Knows start context
    → Finds between (Some gives) (Some (plain (type_tree context.names signature.result))))
    → now.first ≡ between.first → Stays between now
    → ((type : PlainType) → Finds between (Some gives) (Some type) → Finds now (Some found) (Some (PlainFut type)))
    → TypedSoFar start now signature [] found
typed_first first stays gives next_first next_stays future = record {
  so_far = record {
    first = next_first ∙ first;
    stays = stays_transitive stays next_stays;
    found = λ context knows. future _ (gives context knows);
  };
}

-- what is found is one of the table, also later
pub head_found : {start now next : Checker} {signature : Signature} {params : List Param} {found : TypeIndex}
    → TypedSoFar start now signature params found → Stays now next → Found next (Some found)
head_found so stays = found_stays stays (found_so_far so.so_far)

-- what the next parameter takes is one of the table
pub taken_found : {now next : Checker} {taken : TypeIndex} {type : Context → PlainType}
    → ((context : Context) → Knows now context → Finds next (Some taken) (Some (type context)))
    → Found next (Some taken)
taken_found {now} finds = (finds _ (record { is = refl })).found_is

-- it is so after one more parameter
pub typed_next : {start now between next : Checker} {signature : Signature} {head taken found : TypeIndex}
    (params : List Param) (index : ℕ) (param : Param)
    → TypedSoFar start now signature (take index params) head → index < length params
    → param ≡ get_or params index param → between.first ≡ now.first → Stays now between
    → ((context : Context) → Knows now context
    → Finds between (Some taken) (Some (plain (type_tree context.names param.type_of))))
    → next.first ≡ between.first → Stays between next
    → ((one other : PlainType) → Finds between (Some head) (Some one) → Finds between (Some taken) (Some other)
    → Finds next (Some found) (Some (PlainApplied one other)))
    → TypedSoFar start next signature (take (index + 1) params) found
typed_next {start} {now} {between} {next} {signature} {head} {taken} {found} params index param so there is first stays
    takes next_first next_stays applies = record {
      so_far = so_far_next so.so_far (next_first ∙ first) (stays_transitive stays next_stays)
          (λ context knows before.
          let gives = PlainFut (plain (type_tree context.names signature.result)) in
          subst (λ (type : PlainType). Finds next (Some found) (Some type))
          (sym (ap (applied_to gives) (params_more context.names params index param there is)
          ∙ applied_end gives (param_types (map (param_tree context.names) (take index params)))
          (plain (type_tree context.names param.type_of))))
          (applies _ _ (finds_stays stays before) (takes context knows)));
    }

-- what is found after all parameters is the type of the method
pub typed_all : {start now : Checker} {signature : Signature} {found : TypeIndex} (params : List Param) (index : ℕ)
    → TypedSoFar start now signature (take index params) found → length params ≤ index
    → params ≡ signature.params.items
    → (context : Context) → Knows start context
    → Finds now (Some found) (Some (signature_type (signature_tree context.names signature)))
typed_all {now = now} {signature = signature} {found = found} params index so over are context knows =
    subst (λ (items : List Param). Finds now (Some found) (Some (with_params context.names signature items)))
    (take_all index params over ∙ are) (so.so_far.found context knows)
