-- The contracts of the members of a class are gathered one by one, while the checker learns types.
--
--   `AddsMember`                           the contract of a member is added, in a class that a checker has entered
--   `MethodsGathered`                      those of the first members were gathered
--   `gathered_none`, `gathered_more`       before the first member, and after one more
--   `class_entered`                        a checker that has entered a body has entered its class
--   `GivesMethods`, `class_methods`        the contracts of all members of a class
--   `initials_are`                         the initial values of a class are those of its entry
--   `ClassesGathered`, `classes_start`, ..     the contracts of the first declarations of a program
use denote.Ref.{Bor}
use Rattle.std.proofs.Common.{◌≡◌, ℕ, ◌+◌, ◌<◌, ◌≤◌, arith, List, [], ◌∷◌, ◌++◌, Some, None, length, map, get_or, refl, sym, ap, ◌∙◌, subst}
use Rattle.std.specs.Prelude.{Option, option_and_then, slice_get}
use Rattle.std.proofs.lemmas.List.{length-map, take_all}
use Rattle.std.proofs.lemmas.Option.{same_Some}
use Rattle.abs_program.specs.Bodies.{ClassEntryTree, initials_among, entry_of_class, class_entry}
use Rattle.abs_program.specs.NamedViews.{named_tree}
use Rattle.abs_program.specs.ProgramBodies.{main_body}
use Rattle.abs_program.specs.declared.named.Named.{Named}
use Rattle.abs_tree.specs.Names.{name_of}
use Rattle.abs_tree.specs.Syntax.{Name, TypeTree, ParamTree, MemberTree, SourceTree}
use Rattle.abs_tree.specs.SyntaxSizes.{decl_statements}
use Rattle.abs_tree.specs.SyntaxViews.{decl_tree, member_tree, statements as statement_trees}
use Rattle.abs_tree.specs.declared.symbol.Symbol.{Symbol}
use Rattle.abs_tree.specs.declared.syntax.declaration.Decl.{Decl}
use Rattle.abs_tree.specs.declared.syntax.declaration.Member.{Member}
use Rattle.abs_types.proofs.KeepLemmas.{keeps_reflexive, keeps_transitive}
use Rattle.abs_types.specs.PlainTypes.{plain}
use Rattle.abs_types.specs.TypeShapes.{types_at}
use Rattle.abs_types.specs.TypeTables.{types_in, Keeps}
use Rattle.abs_types.specs.Typing.{Frame}
use Rattle.abs_types.specs.declared.table.shape.TypeIndex.{TypeIndex}
use Rattle.check_fun.specs.Contexts.{types_known, with_frame, context_in, Context, IsFrameOf, Knows}
use Rattle.check_fun.specs.declared.checker.Checker.{Checker}
use Rattle.list_facts.proofs.EntryLemmas.{slice_get-map_there}
use Rattle.contract_infer.proofs.GatheringLemmas.{methods_none, classes_none, classes_more}
use Rattle.contract_infer.specs.BodyViews.{names_of, source_of}
use Rattle.contract_infer.specs.ClassViews.{class_start, IsClassThere, IsInClass, AreMethodsSoFar, IsGathered, AreClassesSoFar}
use Rattle.contract_infer.specs.declared.classes.Declaration.{Declaration}
use Rattle.contract_infer.specs.declared.classes.Methods.{Methods}
use Rattle.contract_terms.specs.Accepts.{accepts_in}
use Rattle.contract_terms.specs.BodyContexts.{class_types, main_context}
use Rattle.contract_terms.specs.Terms.{AreTerms}
use Rattle.contract_terms.specs.Views.{accepts_tree, term_tree}
use Rattle.contract_terms.specs.declared.accepts.Accepts.{Accepts}
use Rattle.contract_terms.specs.declared.term.ClassTerms.{ClassTerms}
use Rattle.contract_terms.specs.declared.term.Term.{Term}

-- The contract of a member is added in each class that a checker has entered, of a program with these names and this
-- tree.
abbrev pub AddsMember : Checker → List Name → SourceTree → ℕ → List Accepts → Member → Methods → Methods → Type 0
AddsMember checker names source class fields member old new = (name : Name) (params : List ParamTree)
    (members : List MemberTree) (passed : ℕ) → IsClassThere source class name params members
    → IsInClass checker name (class_types params members)
    → map (accepts_tree names) fields ≡ map (accepts_in source.declarations) (class_types params members)
    → slice_get members passed ≡ Some (member_tree names member)
    → AreMethodsSoFar source names class members passed old → AreMethodsSoFar source names class members (passed + 1) new

-- The contracts of the first members of the class that a checker has entered were gathered. Before that the checker was
-- `before`.
pub record MethodsGathered (before now : Checker) (class : ℕ) (fields : List Accepts) (first : ℕ)
    (members : List Member) (passed : ℕ) (methods : Methods) : Type 0 where
  pub keeps : Keeps before.table now.table
  pub so_far : (name : Name) (params : List ParamTree)
      → IsClassThere (source_of before) class name params (map (member_tree (names_of before)) members)
      → IsInClass before name (class_types params (map (member_tree (names_of before)) members))
      → map (accepts_tree (names_of before)) fields
      ≡ map (accepts_in (source_of before).declarations)
      (class_types params (map (member_tree (names_of before)) members))
      → class_start (source_of before) class ≡ first
      → IsInClass now name (class_types params (map (member_tree (names_of before)) members))
      × AreMethodsSoFar (source_of before) (names_of before) class (map (member_tree (names_of before)) members) passed
      methods

-- Before the first member none was gathered.
pub gathered_none : {checker : Checker} {class first : ℕ} {fields : List Accepts} {members : List Member}
    (methods : Methods) → methods.contracts.items ≡ [] → methods.calls.items ≡ [] → methods.next ≡ first
    → MethodsGathered checker checker class fields first members 0 methods
gathered_none {checker} {class} {first} {fields} {members} methods contracts calls next = record {
  keeps = keeps_reflexive;
  so_far = λ name params there inside fields_are start. (
    inside,
    methods_none (source_of checker) (names_of checker) class (map (member_tree (names_of checker)) members) methods
        contracts calls (start ∙ sym next),
  );
}

-- After one more member its contract was gathered.
pub gathered_more : {before now after : Checker} {class first passed : ℕ} {fields : List Accepts}
    {members : List Member} {old new : Methods} (member : Member) → passed < length members
    → member ≡ get_or members passed member → MethodsGathered before now class fields first members passed old
    → Keeps now.table after.table
    → ((name : Name) (types : List TypeTree) → IsInClass now name types → IsInClass after name types)
    → AddsMember now (names_of now) (source_of now) class fields member old new
    → MethodsGathered before after class fields first members (passed + 1) new
gathered_more {before} {now} {after} {class} {first} {passed} {fields} {members} {old} {new} member within is gathered
    keeps stays adds = record {
      keeps = keeps_transitive gathered.keeps keeps;
      so_far = λ name params there inside fields_are start.
          let same = gathered.keeps.program_is in
          let source = source_of before in
          let earlier = gathered.so_far name params there inside fields_are start in
          let adds_before : AddsMember now (names_of before) source class fields member old new =
          subst (λ (names : List Name). AddsMember now names source class fields member old new)
          (ap (λ (program : Bor Named). program.now.symbols) same)
          (subst (λ (tree : SourceTree). AddsMember now (names_of now) tree class fields member old new)
          (ap (λ (program : Bor Named). named_tree program.now) same) adds) in (
            stays name _ earlier.0,
            adds_before name params (map (member_tree (names_of before)) members) passed there earlier.0 fields_are
                (slice_get-map_there (member_tree (names_of before)) members passed member within is) earlier.1,
          );
    }

-- The initial values of a class are those of its entry.
pub initials_are : (source : SourceTree) (class : ℕ) (name : Name) (params : List ParamTree) (members : List MemberTree)
    (found : ClassEntryTree) → IsClassThere source class name params members
    → Some found ≡ class_entry source.declarations class → found.initials ≡ initials_among members
unfolding class_entry
initials_are source class name params members found there is =
    ap (λ (entry : ClassEntryTree). entry.initials)
    (same_Some found _ (is ∙ ap (option_and_then entry_of_class) there.there))

-- A checker that has entered a body with these fields has entered their class.
pub class_entered : (before now : Checker) (slots : List (Option TypeIndex)) (indices : List TypeIndex) (name : Symbol)
    (types : List TypeTree) → slots ≡ [] → types_at (types_in before.table) indices ≡ map plain types
    → ((context : Context) (frame : Frame) → Knows before context
    → IsFrameOf before slots indices (Some name) None frame → Knows now (with_frame context frame))
    → IsInClass now (name_of (names_of before) name) types
class_entered before now slots indices name types none found knows =
    let frame : Frame = record {
      slots = [];
      fields = map plain types;
      this = Some (name_of (names_of before) name);
      task = None;
    } in
    let entered = knows (context_in before) frame (record { is = refl }) (record {
      slots_are = ap (types_known (types_in before.table)) none;
      fields_are = found;
      this_is = refl;
      task_is = refl;
    }) in
    record {
      fields_are = ap (λ (context : Context). context.frame.fields) entered.is;
      this_is = ap (λ (context : Context). context.frame.this) entered.is;
    }

-- The contracts of all members of a class that a checker has entered were gathered, of a program with these names and
-- this tree.
abbrev pub GivesMethods : Checker → List Name → SourceTree → ℕ → List Accepts → ℕ → List Member → Methods → Type 0
GivesMethods checker names source class fields first members methods = (name : Name) (params : List ParamTree)
    → IsClassThere source class name params (map (member_tree names) members)
    → IsInClass checker name (class_types params (map (member_tree names) members))
    → map (accepts_tree names) fields
    ≡ map (accepts_in source.declarations) (class_types params (map (member_tree names) members))
    → class_start source class ≡ first
    → AreMethodsSoFar source names class (map (member_tree names) members) (length members) methods

-- The contracts of the members of a class are those of its tree, as the checker knew it before it entered the class.
pub class_methods : (before between : Checker) (class first : ℕ) (name : Name) (params : List ParamTree)
    (members : List Member) (fields : List Accepts) (methods : Methods)
    → between.table.program ≡ before.table.program
    → IsClassThere (source_of before) class name params (map (member_tree (names_of before)) members)
    → class_start (source_of before) class ≡ first
    → IsInClass between name (class_types params (map (member_tree (names_of before)) members))
    → map (accepts_tree (names_of before)) fields ≡ map (accepts_in (source_of before).declarations)
    (class_types params (map (member_tree (names_of before)) members))
    → GivesMethods between (names_of between) (source_of between) class fields first members methods
    → AreMethodsSoFar (source_of before) (names_of before) class (map (member_tree (names_of before)) members)
    (length (map (member_tree (names_of before)) members)) methods
class_methods before between class first name params members fields methods same there start inside fields_are gives =
    let names = names_of before in
    let source = source_of before in
    let gives_before : GivesMethods between names source class fields first members methods =
    subst (λ (program : Bor Named). GivesMethods between program.now.symbols (named_tree program.now) class fields first
    members methods) same gives in
    subst (λ (n : ℕ). AreMethodsSoFar source names class (map (member_tree names) members) n methods)
    (sym (length-map members (member_tree names))) (gives_before name params there inside fields_are start)

-- The contracts of the first declarations of a program were gathered, by a checker of this program, and this is the
-- index of the first statement after them.
pub record ClassesGathered (program : Named) (checker : Checker) (passed next : ℕ) (classes : List (Option ClassTerms))
    : Type 0 where
  pub program_is : checker.table.program.now ≡ program
  pub next_is : class_start (named_tree program) passed ≡ next
  pub so_far : AreClassesSoFar (named_tree program) program.symbols passed classes

-- Before the first declaration none was gathered.
pub classes_start : (program : Named) (checker : Checker) (classes : List (Option ClassTerms))
    → checker.table.program.now ≡ program → classes ≡ [] → ClassesGathered program checker 0 0 classes
classes_start program checker classes same none = record {
  program_is = same;
  next_is = refl;
  so_far = subst (AreClassesSoFar (named_tree program) program.symbols 0) (sym none)
      (classes_none (named_tree program) program.symbols);
}

-- After one more declaration its contracts were gathered.
pub classes_step : (program : Named) (before after : Checker) (passed next : ℕ) (old new : List (Option ClassTerms))
    (gathered : Declaration) → ClassesGathered program before passed next old → Keeps before.table after.table
    → IsGathered (source_of before) (names_of before) passed gathered → new ≡ old ++ gathered.found ∷ []
    → ClassesGathered program after (passed + 1) gathered.next new
classes_step program before after passed next old new gathered earlier keeps one new_is =
    let here = subst (λ (it : Named). IsGathered (named_tree it) it.symbols passed gathered) earlier.program_is one in
    record {
      program_is = ap (λ (it : Bor Named). it.now) keeps.program_is ∙ earlier.program_is;
      next_is = here.next;
      so_far = classes_more (named_tree program) program.symbols passed old new gathered.found new_is here.contract
          earlier.so_far;
    }

-- A declaration of a program is one of that of its checker.
pub declaration_there : {program : Named} {checker : Checker} {passed next : ℕ} {classes : List (Option ClassTerms)}
    (index : ℕ) (declaration : Decl) → ClassesGathered program checker passed next classes → index ≡ passed
    → passed < length program.declarations.items → declaration ≡ get_or program.declarations.items passed declaration
    → slice_get (source_of checker).declarations index ≡ Some (decl_tree (names_of checker) declaration)
declaration_there {program} {checker} {passed} index declaration gathered index_is within is =
    ap (slice_get (source_of checker).declarations) index_is
    ∙ subst (λ (it : Named). slice_get (map (decl_tree it.symbols) it.declarations.items) passed
    ≡ Some (decl_tree it.symbols declaration)) (sym gathered.program_is)
    (slice_get-map_there (decl_tree program.symbols) program.declarations.items passed declaration within is)

-- It begins with the next statement.
pub declaration_starts : {program : Named} {checker : Checker} {passed next : ℕ} {classes : List (Option ClassTerms)}
    (index : ℕ) → ClassesGathered program checker passed next classes → index ≡ passed
    → class_start (source_of checker) index ≡ next
declaration_starts {program} {checker} {passed} {next} index gathered index_is =
    ap (class_start (source_of checker)) index_is
    ∙ subst (λ (it : Named). class_start (named_tree it) passed ≡ next) (sym gathered.program_is) gathered.next_is

-- After the last declaration main begins with the next statement.
pub main_starts : {program : Named} {checker : Checker} {passed next : ℕ} {classes : List (Option ClassTerms)}
    → ClassesGathered program checker passed next classes → length program.declarations.items ≤ passed
    → (main_body (source_of checker)).index ≡ next
main_starts {program} {checker} {passed} {next} gathered over =
    let long = length-map program.declarations.items (decl_tree program.symbols) in
    let all = take_all passed (named_tree program).declarations (omega (arith, over, long)) in
    subst (λ (it : Named). (main_body (named_tree it)).index ≡ next) (sym gathered.program_is)
    (ap decl_statements (sym all) ∙ gathered.next_is)

-- The contracts of all declarations were gathered then.
pub classes_whole : {program : Named} {checker : Checker} {passed next : ℕ} {classes : List (Option ClassTerms)}
    → ClassesGathered program checker passed next classes → length program.declarations.items ≡ passed
    → AreClassesSoFar (named_tree program) program.symbols (length (named_tree program).declarations) classes
classes_whole {program} {classes = classes} gathered whole =
    let long = length-map program.declarations.items (decl_tree program.symbols) in
    subst (λ (n : ℕ). AreClassesSoFar (named_tree program) program.symbols n classes) (sym (long ∙ whole)) gathered.so_far

-- The terms of main are those of the program.
pub main_gathered : {program : Named} {checker : Checker} {passed next : ℕ} {classes : List (Option ClassTerms)}
    (terms : List Term) → ClassesGathered program checker passed next classes
    → length program.declarations.items ≤ passed
    → (statement_trees (names_of checker) program.main.statements.items ≡ (source_of checker).main
    → (main_body (source_of checker)).index ≡ next
    → AreTerms (source_of checker) (main_context (source_of checker)) (map (term_tree (names_of checker)) terms))
    → AreTerms (named_tree program) (main_context (named_tree program)) (map (term_tree program.symbols) terms)
main_gathered {program} {checker} terms gathered over gives =
    subst (λ (it : Named). AreTerms (named_tree it) (main_context (named_tree it)) (map (term_tree it.symbols) terms))
    gathered.program_is
    (gives (ap (λ (it : Named). statement_trees (names_of checker) it.main.statements.items) (sym gathered.program_is))
    (main_starts gathered over))
