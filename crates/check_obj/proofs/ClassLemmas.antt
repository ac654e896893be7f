-- The members of classes, which are checked one by one: all fields first, and then all methods.
--
--   `known_types`                      the types of parameters, and of the fields among members
--   `known_with`                       a field is visible after it
--   `FieldsSoFar`                      the fields among the first members were checked
--   `fields_first`, `field_next`       they were before the first member, and after one more
--   `field_found`                      the type of a field is found after those before it
--   `MethodsSoFar`                     the methods among the first members were checked
--   `methods_first`, `method_next`     they were before the first member, and after one more
--   `methods_noted`                    what was noted after all
--   `class_entered`                    the methods of a class were entered
use denote.Ref.{Bor}
use Rattle.std.proofs.Common.{◌≡◌, ℕ, ◌+◌, ◌<◌, ◌≤◌, List, [], ◌∷◌, ◌++◌, Option, Some, None, get_or, length, map, take, refl, sym, ap, ◌∙◌, subst, append_assoc, append-nil}
use Rattle.std.proofs.lemmas.List.{map-append, take_all, take_more}
use Rattle.std.proofs.lemmas.Option.{same_Some}
use Rattle.abs_tree.specs.Names.{name_of}
use Rattle.abs_program.specs.NamedViews.{named_tree}
use Rattle.abs_tree.specs.Syntax.{Name, MemberTree, FieldTree, MethodTree, DeclTree}
use Rattle.abs_tree.specs.SyntaxViews.{member_tree, param_tree}
use Rattle.abs_program.specs.declared.named.Named.{Named}
use Rattle.abs_tree.specs.declared.refusal.Offence.{Offence}
use Rattle.abs_tree.specs.declared.symbol.Symbol.{Symbol}
use Rattle.abs_tree.specs.declared.syntax.declaration.Member.{Member}
use Rattle.abs_tree.specs.declared.syntax.declaration.Param.{Param}
use Rattle.abs_types.proofs.KeepLemmas.{keeps_reflexive, keeps_transitive}
use Rattle.abs_types.specs.PlainTypes.{PlainType, plain}
use Rattle.abs_types.specs.Schemes.{param_types}
use Rattle.abs_types.specs.TypeOffences.{field_offences, field_types, method_offences, value_frame}
use Rattle.abs_types.specs.Typing.{Frame}
use Rattle.abs_types.specs.TypeTables.{Keeps}
use Rattle.abs_types.specs.declared.table.shape.TypeIndex.{TypeIndex}
use Rattle.check_fun.proofs.ContextLemmas.{finds_all_kept, knows_stays, noted_after, noted_nothing, noted_same, stays_reflexive}
use Rattle.check_fun.proofs.SchemeLemmas.{one_more_found}
use Rattle.check_fun.specs.Contexts.{context_in, with_frame, with_slots, Context, Finds, FindsAll, IsFrameOf, Knows, Noted, Stays}
use Rattle.check_fun.specs.declared.checker.Checker.{Checker}
use Rattle.check_obj.specs.Classes.{fields_offences, methods_offences, IsInClass}

-- the types of parameters, and of the fields among members
abbrev pub known_types : List Name → List Param → List Member → List PlainType
known_types names params members =
    param_types (map (param_tree names) params) ++ field_types (map (member_tree names) members)

-- what is around an initial value
abbrev with_known : Context → List PlainType → Context
with_known context known = with_frame context (value_frame known)

-- a field is visible after it
pub known_with : {checker : Checker} (context : Context) (known : List PlainType) (type : PlainType)
    → Knows checker (with_slots (with_frame context (value_frame known)) (map Some known ++ Some type ∷ []))
    → Knows checker (with_frame context (value_frame (known ++ type ∷ [])))
known_with {checker} context known type knows =
    subst (λ (slots : List (Option PlainType)). Knows checker (with_slots (with_known context known) slots))
    (sym (map-append Some known (type ∷ []))) knows

-- the types of the fields among members, and of one more
types_pushed : (some : List MemberTree) (one : MemberTree)
    → field_types (some ++ one ∷ []) ≡ field_types some ++ field_types (one ∷ [])
types_pushed [] one = refl
types_pushed (FieldTree type name initial ∷ others) one =
    ap (λ (more : List PlainType). plain type ∷ more) (types_pushed others one)
types_pushed (MethodTree signature end body ∷ others) one = types_pushed others one

-- the same after the types of parameters
known_pushed : (names : List Name) (params : List Param) (some : List Member) (one : Member)
    → known_types names params (some ++ one ∷ [])
    ≡ known_types names params some ++ field_types (member_tree names one ∷ [])
known_pushed names params some one =
    let types = param_types (map (param_tree names) params) in
    ap (λ (trees : List MemberTree). types ++ field_types trees) (map-append (member_tree names) some (one ∷ []))
    ∙ (ap (λ (more : List PlainType). types ++ more)
    (types_pushed (map (member_tree names) some) (member_tree names one))
    ∙ sym (append_assoc types (field_types (map (member_tree names) some)) (field_types (member_tree names one ∷ []))))

-- the offences of the fields among members, and of one more
fields_pushed : (declarations : List DeclTree) (known : List PlainType) (some : List MemberTree) (one : MemberTree)
    → fields_offences declarations known (some ++ one ∷ [])
    ≡ fields_offences declarations known some ++ fields_offences declarations (known ++ field_types some) (one ∷ [])
fields_pushed declarations known [] one =
    sym (ap (λ (types : List PlainType). fields_offences declarations types (one ∷ [])) (append-nil known))
fields_pushed declarations known (FieldTree type name initial ∷ others) one =
    let own = field_offences declarations known (plain type) name.place initial in
    let more = fields_offences declarations (known ++ plain type ∷ []) others in
    ap (λ (rest : List Offence). own ++ rest) (fields_pushed declarations (known ++ plain type ∷ []) others one
    ∙ ap (λ (types : List PlainType). more ++ fields_offences declarations types (one ∷ []))
    (append_assoc known (plain type ∷ []) (field_types others))) ∙ sym (append_assoc own more _)
fields_pushed declarations known (MethodTree signature end body ∷ others) one =
    fields_pushed declarations known others one

-- the offences of the methods among members, and of one more
methods_pushed : (declarations : List DeclTree) (class : Name) (fields : List PlainType) (some : List MemberTree)
    (one : MemberTree) → methods_offences declarations class fields (some ++ one ∷ [])
    ≡ methods_offences declarations class fields some ++ methods_offences declarations class fields (one ∷ [])
methods_pushed declarations class fields [] one = refl
methods_pushed declarations class fields (FieldTree type name initial ∷ others) one =
    methods_pushed declarations class fields others one
methods_pushed declarations class fields (MethodTree signature end body ∷ others) one =
    let own = method_offences declarations class fields signature end body in
    ap (λ (rest : List Offence). own ++ rest) (methods_pushed declarations class fields others one)
    ∙ sym (append_assoc own (methods_offences declarations class fields others) _)

-- The fields among some members were checked, and the types of the parameters of the class and of these fields found.
pub record FieldsSoFar (start now : Checker) (params : List Param) (members : List Member) (types : List TypeIndex)
    : Type 0 where
  pub keeps : Keeps start.table now.table
  pub knows : (context : Context) → Knows start context
      → Knows now (with_frame context (value_frame (known_types context.names params members)))
  pub found : (context : Context) → Knows start context
      → FindsAll now (Some types) (Some (known_types context.names params members))
  pub noted : (context : Context) → Knows start context → Noted start.first (fields_offences context.declarations
      (param_types (map (param_tree context.names) params)) (map (member_tree context.names) members)) now.first

-- before the first member none were
pub fields_first : {start between now : Checker} {types : List TypeIndex} (params : List Param)
    → ((context : Context) → Knows start context
    → Knows between (with_frame context (value_frame (param_types (map (param_tree context.names) params)))))
    → between.first ≡ start.first → Keeps start.table between.table
    → ((context : Context) → Knows between context
    → FindsAll now (Some types) (Some (param_types (map (param_tree context.names) params))))
    → now.first ≡ between.first → Stays between now → FieldsSoFar start now params [] types
fields_first {types = types} params entered first keeps found next stays = record {
  keeps = keeps_transitive keeps stays.keeps;
  knows = λ context knows. rw append-nil (knows_stays stays (entered context knows));
  found = λ context knows. rw append-nil (found _ (entered context knows));
  noted = λ context knows. noted_same (next ∙ first);
}

-- one more member was
pub field_next : {start now next : Checker} {types after : List TypeIndex} (params : List Param) (members : List Member)
    (index : ℕ) (member : Member) → FieldsSoFar start now params (take index members) types → index < length members
    → member ≡ get_or members index member
    → ((context : Context) (known : List PlainType) → Knows now (with_frame context (value_frame known))
    → Noted now.first (fields_offences context.declarations known (member_tree context.names member ∷ [])) next.first)
    → ((context : Context) (known : List PlainType) → Knows now (with_frame context (value_frame known))
    → Knows next (with_frame context (value_frame (known ++ field_types (member_tree context.names member ∷ [])))))
    → ((context : Context) (known : List PlainType) → Knows now (with_frame context (value_frame known))
    → FindsAll now (Some types) (Some known)
    → FindsAll next (Some after) (Some (known ++ field_types (member_tree context.names member ∷ []))))
    → Keeps now.table next.table → FieldsSoFar start next params (take (index + 1) members) after
field_next {start} {now} {next} {types} {after} params members index member so below is noted knows found keeps =
    let more : FieldsSoFar start next params (take index members ++ member ∷ []) after = record {
      keeps = keeps_transitive so.keeps keeps;
      knows = λ context known. rw (known_pushed context.names params (take index members) member)
          (knows context _ (so.knows context known));
      found = λ context known. rw (known_pushed context.names params (take index members) member)
          (found context _ (so.knows context known) (so.found context known));
      noted = λ context known. rw (map-append, fields_pushed)
          (noted_after _ _ (so.noted context known) (noted context _ (so.knows context known)));
    } in
    rw (take_more members index member below, ← is) more

-- the type of a field is found after those before it
pub field_found : {now next : Checker} {found after : List TypeIndex} {index : TypeIndex} {known : List PlainType}
    {type : PlainType} → Keeps now.table next.table → FindsAll now (Some found) (Some known)
    → Finds next (Some index) (Some type) → after ≡ found ++ index ∷ []
    → FindsAll next (Some after) (Some (known ++ type ∷ []))
field_found keeps found one after = one_more_found stays_reflexive (finds_all_kept keeps found) one after refl

-- The methods among some members were checked.
pub record MethodsSoFar (start now : Checker) (members : List Member) : Type 0 where
  pub keeps : Keeps start.table now.table
  pub inside : (context : Context) (class : Name) (fields : List PlainType) → IsInClass start context class fields
      → IsInClass now context class fields
  pub noted : (context : Context) (class : Name) (fields : List PlainType) → IsInClass start context class fields
      → Noted start.first
      (methods_offences context.declarations class fields (map (member_tree context.names) members)) now.first

-- before the first member none were
pub methods_first : {checker : Checker} → MethodsSoFar checker checker []
methods_first = record {
  keeps = keeps_reflexive;
  inside = λ context class fields inside. inside;
  noted = λ context class fields inside. noted_nothing;
}

-- one more member was
pub method_next : {start now next : Checker} (members : List Member) (index : ℕ) (member : Member)
    → MethodsSoFar start now (take index members) → index < length members → member ≡ get_or members index member
    → ((context : Context) (class : Name) (fields : List PlainType) → IsInClass now context class fields
    → Noted now.first (methods_offences context.declarations class fields (member_tree context.names member ∷ []))
    next.first)
    → ((context : Context) (class : Name) (fields : List PlainType) → IsInClass now context class fields
    → IsInClass next context class fields)
    → Keeps now.table next.table → MethodsSoFar start next (take (index + 1) members)
method_next {start} {now} {next} members index member so below is noted inside keeps =
    let more : MethodsSoFar start next (take index members ++ member ∷ []) = record {
      keeps = keeps_transitive so.keeps keeps;
      inside = λ context class fields were. inside context class fields (so.inside context class fields were);
      noted = λ context class fields were. rw (map-append, methods_pushed) (noted_after _ _
          (so.noted context class fields were) (noted context class fields (so.inside context class fields were)));
    } in
    rw (take_more members index member below, ← is) more

-- all methods were
pub methods_noted : {start now : Checker} (members : List Member) (index : ℕ)
    → MethodsSoFar start now (take index members) → length members ≤ index → (context : Context) (class : Name)
    (fields : List PlainType) → IsInClass start context class fields → Noted start.first
    (methods_offences context.declarations class fields (map (member_tree context.names) members)) now.first
methods_noted {start} {now} members index so ended context class fields inside =
    rw (take_all index members ended) at (so.noted context class fields inside)

-- the methods of a class with these fields were entered
pub class_entered : {before made now : Checker} {slots : List (Option TypeIndex)} {found : List TypeIndex}
    (class : Symbol) (fields : List PlainType) → Keeps before.table made.table → slots ≡ []
    → FindsAll made (Some found) (Some fields)
    → ((context : Context) (frame : Frame) → Knows made context → IsFrameOf made slots found (Some class) None frame
    → Knows now (with_frame context frame))
    → (context : Context) → Knows before context → IsInClass now context (name_of context.names class) fields
unfolding context_in
class_entered {before} {made} class fields keeps no_slots found entered context knows =
    let own = context_in made in
    let inside = entered own
    (record { slots = []; fields = fields; this = Some (name_of own.names class); task = None }) (record { is = refl })
    (record {
      slots_are = rw no_slots refl;
      fields_are = same_Some _ _ found.are;
      this_is = refl;
      task_is = refl;
    }) in
    let names_are : own.names ≡ context.names =
    ap (λ (program : Bor Named). program.now.symbols) keeps.program_is ∙ ap (λ (one : Context). one.names) knows.is in
    record {
      names_are = ap (λ (one : Context). one.names) inside.is ∙ names_are;
      declarations_are = ap (λ (one : Context). one.declarations) inside.is
          ∙ (ap (λ (program : Bor Named). (named_tree program.now).declarations) keeps.program_is
          ∙ ap (λ (one : Context). one.declarations) knows.is);
      fields_are = ap (λ (one : Context). one.frame.fields) inside.is;
      this_is = ap (λ (one : Context). one.frame.this) inside.is
          ∙ ap (λ (names : List Name). Some (name_of names class)) names_are;
    }
