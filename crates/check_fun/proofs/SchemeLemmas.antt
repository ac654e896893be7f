-- Schemes that a checker finds, and what loops over their parts keep.
--
--   `SoFar`                            what a checker knew so far, and what is found in it
--   `so_far_next`                      the same after one more step
--   `found_so_far`                     an index that is found is one of the table
--   `one_more_found`                   one more type is found after others
--   `params_more`, `terms_more`        the types of one more parameter, and of one more term
--   `scheme_found`                     a scheme of types that are found
--   `constructor_found`, `built_found` what a constructor takes, of types that are found, and its scheme
--   `applied_found`                    data that is applied to one more type parameter
--   `declaration_there`, ..            what is at an index among the declarations that are known
--   `function_known`, ..               schemes, by what names stand for
use Rattle.std.proofs.Common.{◌≡◌, ℕ, ◌+◌, ◌<◌, ◌≤◌, List, [], ◌∷◌, ◌++◌, Option, Some, None, refl, subst, slice_get, sym, ap, ap₂, ◌∙◌, length, get_or, map, take, arith}
use Rattle.std.proofs.lemmas.List.{map-append, map_more, take_more}
use Rattle.std.proofs.lemmas.List.Elements.{All-push}
use Rattle.std.proofs.lemmas.List.FromFn.{map-range_with_len_more}
use Rattle.std.proofs.lemmas.Option.{same_Some}
use Rattle.std.specs.List.{range_with_len}
use Rattle.std.specs.declared.alloc.Global.{Global}
use Rattle.std.specs.declared.vec.Vec.{Vec}
use Rattle.abs_program.specs.NameSpaces.{spaces_of}
use Rattle.abs_tree.specs.Names.{name_of}
use Rattle.abs_tree.specs.Syntax.{Name, ParamTree}
use Rattle.abs_tree.specs.SyntaxViews.{decl_tree, param_tree, type_tree, type_trees}
use Rattle.abs_program.specs.Tables.{meaning_of}
use Rattle.abs_program.specs.declared.name_spaces.ConstructorMeaning.{ConstructorMeaning}
use Rattle.abs_program.specs.declared.name_spaces.FunctionMeaning.{FunctionMeaning}
use Rattle.abs_tree.specs.declared.symbol.Symbol.{Symbol}
use Rattle.abs_tree.specs.declared.syntax.declaration.Decl.{Decl}
use Rattle.abs_tree.specs.declared.syntax.declaration.Param.{Param}
use Rattle.abs_tree.specs.declared.syntax.types.TypeTerm.{TypeTerm}
use Rattle.abs_types.proofs.ConstructorLemmas.{applied_end}
use Rattle.abs_types.proofs.KeepLemmas.{all_among_kept, types_at_kept}
use Rattle.abs_types.proofs.TermLemmas.{plains_push}
use Rattle.abs_types.specs.PlainTypes.{PlainType, PlainApplied, PlainData, PlainParameter, applied_to, plain, plains}
use Rattle.abs_types.specs.Schemes.{Scheme, constructor_scheme, function_scheme, param_types, scheme_of_constructor, scheme_of_function}
use Rattle.abs_types.specs.TypeShapes.{type_at, types_at, IsAmong}
use Rattle.abs_types.specs.TypeTables.{declarations_of, types_in}
use Rattle.abs_types.specs.declared.table.shape.TypeIndex.{TypeIndex}
use Rattle.check_fun.proofs.ContextLemmas.{finds_all_stays, knows_stays, stays_transitive}
use Rattle.check_fun.specs.Contexts.{Context, context_in, Found, Finds, FindsAll, FindsConstructor, FindsScheme, Knows, Stays}
use Rattle.check_fun.specs.declared.checker.Checker.{Checker}
use Rattle.check_fun.specs.declared.schemes.ConstructorTakes.{ConstructorTakes}
use Rattle.list_facts.proofs.EntryLemmas.{slice_get-map_there, slice_get-map_past}

-- A checker knows what it knew at the start, has the same first offence, and finds this in each context.
pub record SoFar (start now : Checker) (IsFound : Context → Type 0) : Type 0 where
  pub first : now.first ≡ start.first
  pub stays : Stays start now
  pub found : (context : Context) → Knows start context → IsFound context

-- the same after one more step
pub so_far_next : {start now next : Checker} {WasFound IsFound : Context → Type 0} → SoFar start now WasFound
    → next.first ≡ now.first → Stays now next
    → ((context : Context) → Knows now context → WasFound context → IsFound context) → SoFar start next IsFound
so_far_next so first stays step = record {
  first = first ∙ so.first;
  stays = stays_transitive so.stays stays;
  found = λ context knows. step context (knows_stays so.stays knows) (so.found context knows);
}

-- an index that is found in each context is one of the table
pub found_so_far : {start now : Checker} {found : Option TypeIndex} {type : Context → Option PlainType}
    → SoFar start now (λ (context : Context). Finds now found (type context)) → Found now found
found_so_far {start} so = (so.found (context_in start) (record { is = refl })).found_is

-- one more type is found after others
pub one_more_found : {now next : Checker} {found after : List TypeIndex} {index : TypeIndex} {types more : List PlainType}
    {type : PlainType} → Stays now next → FindsAll now (Some found) (Some types) → Finds next (Some index) (Some type)
    → after ≡ found ++ index ∷ [] → more ≡ types ++ type ∷ [] → FindsAll next (Some after) (Some more)
one_more_found {now} {next} {found} {after} {index} {types} {more} {type} stays before one added is =
    let kept = finds_all_stays stays before in
    let at = type_at (types_in next.table) in
    let found_is : types_at (types_in next.table) found ≡ types =
    same_Some (types_at (types_in next.table) found) types kept.are in
    let one_is : at index ≡ type = same_Some (at index) type one.is in
    record {
      found_are = record {
        among = rw added (All-push (IsAmong (types_in next.table)) found index kept.found_are.among
            one.found_is.among);
      };
      are = ap Some (ap (types_at (types_in next.table)) added ∙ (map-append at found (index ∷ [])
          ∙ (ap₂ (λ (xs : List PlainType) (x : PlainType). xs ++ x ∷ []) found_is one_is ∙ sym is)));
    }

-- the types of one more parameter
pub params_more : (names : List Name) (params : List Param) (index : ℕ) (param : Param) → index < length params
    → param ≡ get_or params index param
    → param_types (map (param_tree names) (take (index + 1) params))
    ≡ param_types (map (param_tree names) (take index params)) ++ plain (type_tree names param.type_of) ∷ []
params_more names params index param there is =
    let type : ParamTree → PlainType = λ (one : ParamTree). plain one.type_of in
    ap (map type) (map_more (param_tree names) params index param there)
    ∙ (map-append type (map (param_tree names) (take index params))
    (param_tree names (get_or params index param) ∷ [])
    ∙ ap (λ (one : Param). map type (map (param_tree names) (take index params)) ++ type (param_tree names one) ∷ [])
    (sym is))

-- the types of one more term
pub terms_more : (names : List Name) (terms : List TypeTerm) (index : ℕ) (term : TypeTerm) → index < length terms
    → term ≡ get_or terms index term
    → plains (type_trees names (take (index + 1) terms))
    ≡ plains (type_trees names (take index terms)) ++ plain (type_tree names term) ∷ []
terms_more names terms index term there is =
    ap (λ (items : List TypeTerm). plains (type_trees names items))
    (take_more terms index term there ∙ ap (λ (one : TypeTerm). take index terms ++ one ∷ []) (sym is))
    ∙ plains_push names (take index terms) term

-- a scheme of types that are found
pub scheme_found : {checker : Checker} {gives : TypeIndex} {taken : List PlainType} {given : PlainType} (parameters : ℕ)
    (takes : Vec TypeIndex Global) → FindsAll checker (Some takes.items) (Some taken)
    → Finds checker (Some gives) (Some given)
    → FindsScheme checker (Some (record { parameters = parameters; takes = takes; gives = gives }))
    (Some (record { parameters = parameters; takes = taken; gives = given }))
scheme_found {checker} {gives} {taken} {given} parameters takes found one = record {
  among = (found.found_are.among, one.found_is.among);
  is = ap₂ (λ (types : List PlainType) (type : PlainType).
      Some (record { parameters = parameters; takes = types; gives = type }))
      (same_Some (types_at (types_in checker.table) takes.items) taken found.are)
      (same_Some (type_at (types_in checker.table) gives) given one.is);
}

-- what a constructor takes, of types that are found
pub constructor_found : {checker : Checker} {context : Context} {taken : List PlainType} (owner : Symbol)
    (parameters : ℕ) (takes : Vec TypeIndex Global) → FindsAll checker (Some takes.items) (Some taken)
    → FindsConstructor checker context (Some (record { owner = owner; parameters = parameters; takes = takes }))
    (Some (record {
      parameters = parameters;
      takes = taken;
      gives = applied_to (PlainData (name_of context.names owner)) (map PlainParameter (range_with_len 0 parameters));
    }))
constructor_found {checker} {context} {taken} owner parameters takes found = record {
  among = found.found_are.among;
  is = ap (λ (types : List PlainType). Some (record {
    parameters = parameters;
    takes = types;
    gives = applied_to (PlainData (name_of context.names owner)) (map PlainParameter (range_with_len 0 parameters));
  }))
      (same_Some (types_at (types_in checker.table) takes.items) taken found.are);
}

-- data is applied to one more type parameter
pub applied_found : {checker : Checker} {found : TypeIndex} (head : PlainType) (index : ℕ)
    → Finds checker (Some found)
    (Some (PlainApplied (applied_to head (map PlainParameter (range_with_len 0 index))) (PlainParameter index)))
    → Finds checker (Some found) (Some (applied_to head (map PlainParameter (range_with_len 0 (index + 1)))))
applied_found head index found = rw (map-range_with_len_more PlainParameter 0 index index (omega arith))
    (rw (applied_end head (map PlainParameter (range_with_len 0 index)) (PlainParameter index)) found)

-- the tree of a declaration is at its index among those that are known
pub declaration_there : {checker : Checker} {context : Context} (index : ℕ) (declaration : Decl)
    → Knows checker context → index < length checker.table.program.now.declarations.items
    → declaration ≡ get_or checker.table.program.now.declarations.items index declaration
    → slice_get context.declarations index ≡ Some (decl_tree context.names declaration)
unfolding context_in
declaration_there {checker} index declaration knows there is =
    subst (λ (context : Context). slice_get context.declarations index ≡ Some (decl_tree context.names declaration))
    knows.is
    (slice_get-map_there (decl_tree checker.table.program.now.symbols) checker.table.program.now.declarations.items
    index
    declaration there is)

-- there is none past the declarations
pub declaration_past : {checker : Checker} {context : Context} (index : ℕ) → Knows checker context
    → length checker.table.program.now.declarations.items ≤ index → slice_get context.declarations index ≡ None
unfolding context_in
declaration_past {checker} index knows past =
    subst (λ (context : Context). slice_get context.declarations index ≡ None) knows.is
    (slice_get-map_past (decl_tree checker.table.program.now.symbols) checker.table.program.now.declarations.items index
    past)

-- the scheme of a function, by what its name stands for
pub function_known : {checker : Checker} {context : Context} {found : Option FunctionMeaning} (name : Symbol)
    → Knows checker context
    → found ≡ meaning_of (spaces_of (declarations_of checker.table)).functions
    (name_of checker.table.program.now.symbols name)
    → function_scheme context.declarations found
    ≡ scheme_of_function context.declarations (name_of context.names name)
unfolding context_in scheme_of_function
function_known {checker} {found = found} name knows is =
    subst (λ (context : Context). function_scheme context.declarations found
    ≡ scheme_of_function context.declarations (name_of context.names name))
    knows.is (ap (function_scheme (declarations_of checker.table)) is)

-- the scheme of a constructor, by what its name stands for
pub constructor_known : {checker : Checker} {context : Context} {found : Option ConstructorMeaning} (name : Symbol)
    → Knows checker context
    → found ≡ meaning_of (spaces_of (declarations_of checker.table)).constructors
    (name_of checker.table.program.now.symbols name)
    → constructor_scheme context.declarations found
    ≡ scheme_of_constructor context.declarations (name_of context.names name)
unfolding context_in scheme_of_constructor
constructor_known {checker} {found = found} name knows is =
    subst (λ (context : Context). constructor_scheme context.declarations found
    ≡ scheme_of_constructor context.declarations (name_of context.names name))
    knows.is (ap (constructor_scheme (declarations_of checker.table)) is)

-- a constructor gives its data, applied to type parameters
pub built_found : {between now : Checker} {context : Context} {found : ConstructorTakes} {gives : TypeIndex}
    {scheme : Option Scheme} → FindsConstructor between context (Some found) scheme → Stays between now
    → Finds now (Some gives) (Some (applied_to (PlainData (name_of context.names found.owner))
    (map PlainParameter (range_with_len 0 found.parameters))))
    → FindsScheme now (Some (record { parameters = found.parameters; takes = found.takes; gives = gives })) scheme
built_found {between} {now} {context} {found} {gives} takes stays one = record {
  among = (all_among_kept found.takes.items stays.keeps takes.among, one.found_is.among);
  is = ap₂ (λ (types : List PlainType) (type : PlainType).
      Some (record { parameters = found.parameters; takes = types; gives = type }))
      (types_at_kept found.takes.items stays.keeps takes.among)
      (same_Some (type_at (types_in now.table) gives) (applied_to (PlainData (name_of context.names found.owner))
      (map PlainParameter (range_with_len 0 found.parameters))) one.is)
      ∙ takes.is;
}
