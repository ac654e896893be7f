-- A whole program, whose declarations are checked one after the other.
--
--   `same_names`                       a table that grows is of the same program
--   `rows_kept`, `several_kept`        rows have the methods of their declarations in a table that grows
--   `IsNumbered`                       offences of declarations, each of which is known by its index
--   `DeclarationsSoFar`                the first declarations were checked
--   `declarations_begin`, `declarations_next`, `declarations_end`      before the first one, after one more, and after
--                                                                      all
--   `own_declaration`                  a declaration of the program is at its index among the trees
--   `slots_at`                         the bodies of a declaration have their slots
--   `noted_own`, `noted_there`         what is noted in each context is noted in that of the program
--   `program_known`                    a checker knows its program
--   `all_noted`                        the first offence of a program
use denote.Struct.Props as logic
use mathlib.Core.Logic.{∥∥₁_elim}
use Rattle.std.proofs.Common.{◌≡◌, ℕ, ◌+◌, ◌<◌, ◌≤◌, List, [], ◌∷◌, ◌++◌, All, Option, Some, None, OnOk, fold, false, get_or, length, map, nat_eq, take, take_all, refl, sym, ap, ◌∙◌, subst, append_assoc, append-nil, arith}
use Rattle.std.specs.Prelude.{slice_get}
use Rattle.std.specs.List.{list_any}
use Rattle.std.specs.declared.result.Result.{Result}
use Rattle.std.proofs.lemmas.List.{length-map, length-take, map-append, take_more}
use Rattle.abs_tree.specs.Names.{number_of_name}
use Rattle.abs_program.specs.SlotViews.{DeclHasSlots, MemberHasSlots}
use Rattle.abs_tree.specs.Offences.{earlier, first_offence}
use Rattle.abs_tree.specs.Syntax.{Name, DeclTree, SourceTree}
use Rattle.abs_tree.specs.SyntaxViews.{decl_tree}
use Rattle.abs_tree.specs.declared.refusal.Offence.{Offence}
use Rattle.abs_tree.specs.declared.syntax.declaration.Decl.{Decl}
use Rattle.abs_tree.specs.declared.syntax.declaration.Decl.TheVariants as decl
use Rattle.abs_tree.specs.declared.syntax.declaration.Member.{Member}
use Rattle.abs_tree.specs.declared.syntax.declaration.Member.TheVariants as member
use Rattle.abs_types.proofs.KeepLemmas.{keeps_reflexive, keeps_transitive, declarations_kept}
use Rattle.abs_types.specs.StatementOffences.{statements_offences}
use Rattle.abs_types.specs.TypeOffences.{class_offences, function_offences, interface_offences, main_frame, main_offences, type_offences}
use Rattle.abs_types.specs.TypeTables.{declarations_of, Keeps}
use Rattle.abs_types.specs.declared.table.TypeTable.{TypeTable}
use Rattle.abs_types.specs.declared.table.shape.TypeIndex.{TypeIndex}
use Rattle.check_fun.proofs.ContextLemmas.{noted_after, noted_nothing}
use Rattle.check_fun.specs.Contexts.{context_in, Context, Knows, Noted}
use Rattle.check_fun.specs.declared.checker.Checker.{Checker}
use Rattle.check_obj.proofs.MethodRowLemmas.{row_kept}
use Rattle.check_obj.specs.MethodRows.{AreRows, IsDeclared, TellsSeveral}
use Rattle.list_facts.proofs.EntryLemmas.{slice_get-map_there}

-- a table that grows is of the same program
pub same_names : {before now : TypeTable} → Keeps before now → now.program.now.symbols ≡ before.program.now.symbols
same_names keeps = rw keeps.program_is refl

-- rows have the methods of their declarations in a table that grows
pub rows_kept : {before now : TypeTable} {rows : List (List (ℕ × TypeIndex))} → Keeps before now → AreRows before rows
    → AreRows now rows
rows_kept {before} keeps were = record {
  count = were.count ∙ ap length (sym (declarations_kept keeps));
  each = λ index declaration there. row_kept keeps
      (were.each index declaration (rw (declarations_kept keeps) at there));
}

-- names have several types in it, or one
pub several_kept : {before now : TypeTable} {several : List ℕ} → Keeps before now → TellsSeveral before several
    → TellsSeveral now several
several_kept {before} {now} {several} keeps were = record {
  one_type = λ one other first second named reported.
      were.one_type one other
      (subst (λ (all : List DeclTree). IsDeclared all one) (declarations_kept keeps) first)
      (subst (λ (all : List DeclTree). IsDeclared all other) (declarations_kept keeps) second) named
      (ap (λ (names : List Name). list_any (nat_eq (number_of_name names one.name.name)) several)
      (sym (same_names keeps)) ∙ reported);
}

-- Offences of several declarations, the first of which has this index, are those of each.
pub record IsNumbered (offences_in : ℕ → DeclTree → List Offence) (offences : ℕ → List DeclTree → List Offence)
    : Type 0 where
  pub none : (index : ℕ) → offences index [] ≡ []
  pub more : (index : ℕ) (first : DeclTree) (others : List DeclTree)
      → offences index (first ∷ others) ≡ offences_in index first ++ offences (1 + index) others

-- those of several and of one more
numbered_push : {offences_in : ℕ → DeclTree → List Offence} {offences : ℕ → List DeclTree → List Offence}
    → IsNumbered offences_in offences → (index : ℕ) (some : List DeclTree) (last : DeclTree)
    → offences index (some ++ last ∷ []) ≡ offences index some ++ offences_in (index + length some) last
numbered_push {offences_in} {offences} numbered index [] last =
    let count : index + 0 ≡ index = omega arith in
    rw count (numbered.more index last []
    ∙ (ap (λ (rest : List Offence). offences_in index last ++ rest) (numbered.none (1 + index))
    ∙ (append-nil (offences_in index last)
    ∙ ap (λ (before : List Offence). before ++ offences_in index last) (sym (numbered.none index)))))
numbered_push {offences_in} {offences} numbered index (first ∷ others) last =
    let count : 1 + index + length others ≡ index + length (first ∷ others) = omega arith in
    numbered.more index first (others ++ last ∷ [])
    ∙ (ap (λ (rest : List Offence). offences_in index first ++ rest) (numbered_push numbered (1 + index) others last)
    ∙ (sym (append_assoc (offences_in index first) (offences (1 + index) others)
    (offences_in (1 + index + length others) last))
    ∙ (ap (λ (before : List Offence). before ++ offences_in (1 + index + length others) last)
    (sym (numbered.more index first others))
    ∙ ap (λ (place : ℕ). offences index (first ∷ others) ++ offences_in place last) count)))

-- The declarations of the program before an index were checked from a start on.
pub record DeclarationsSoFar (offences : List DeclTree → ℕ → List DeclTree → List Offence) (start now : Checker)
    (all : List Decl) (index : ℕ) : Type 0 where
  pub keeps : Keeps start.table now.table
  pub noted : Noted start.first (offences (declarations_of start.table) 0
      (map (decl_tree start.table.program.now.symbols) (take index all))) now.first

-- none were before the first one
pub declarations_begin : {offences_in : List DeclTree → ℕ → DeclTree → List Offence}
    {offences : List DeclTree → ℕ → List DeclTree → List Offence} {start : Checker} {all : List Decl}
    → ((declarations : List DeclTree) → IsNumbered (offences_in declarations) (offences declarations))
    → DeclarationsSoFar offences start start all 0
declarations_begin {start = start} numbered = record {
  keeps = keeps_reflexive;
  noted = rw (numbered (declarations_of start.table)).none noted_nothing;
}

-- one more was
pub declarations_next : {offences_in : List DeclTree → ℕ → DeclTree → List Offence}
    {offences : List DeclTree → ℕ → List DeclTree → List Offence} {start now after : Checker} {all : List Decl}
    {index : ℕ} (place : ℕ) (one : Decl)
    → ((declarations : List DeclTree) → IsNumbered (offences_in declarations) (offences declarations))
    → DeclarationsSoFar offences start now all index → index < length all → one ≡ get_or all index one → place ≡ index
    → Noted now.first (offences_in (declarations_of now.table) place (decl_tree now.table.program.now.symbols one))
    after.first
    → Keeps now.table after.table → DeclarationsSoFar offences start after all (index + 1)
declarations_next {offences_in} {offences} {start} {now} {after} {all} {index} place one numbered so there is counted noted
    keeps =
    let declarations = declarations_of start.table in
    let tree = decl_tree start.table.program.now.symbols in
    let before = map tree (take index all) in
    let more : take (index + 1) all ≡ take index all ++ one ∷ [] =
    take_more all index one there ∙ ap (λ (last : Decl). take index all ++ last ∷ []) (sym is) in
    let sized : 0 + length before ≡ index =
    omega (arith, length-map (take index all) tree, length-take index all, there) in
    let same : Noted now.first (offences_in declarations place (tree one)) after.first =
    rw so.keeps.program_is at noted in
    let reported : Noted now.first (offences_in declarations index (tree one)) after.first = rw counted at same in
    record {
      keeps = keeps_transitive so.keeps keeps;
      noted = rw (more, map-append, numbered_push (numbered declarations) 0 before (tree one), sized)
          (noted_after (offences declarations 0 before) (offences_in declarations index (tree one)) so.noted reported);
    }

-- all were
pub declarations_end : {offences : List DeclTree → ℕ → List DeclTree → List Offence} {start now : Checker}
    {all : List Decl} {index : ℕ} → DeclarationsSoFar offences start now all index → length all ≤ index
    → all ≡ start.table.program.now.declarations.items
    → Noted start.first (offences (declarations_of start.table) 0 (declarations_of start.table)) now.first
declarations_end {all = all} {index} so ended is =
    let whole = take_all index all ended ∙ is in rw whole at so.noted

-- a declaration of the program is at its index among the trees
pub own_declaration : (start now : Checker) (index place : ℕ) (one : Decl) (all : List Decl)
    → Keeps start.table now.table → index < length all → one ≡ get_or all index one → place ≡ index
    → all ≡ start.table.program.now.declarations.items
    → slice_get (declarations_of now.table) place ≡ Some (decl_tree now.table.program.now.symbols one)
own_declaration start now index place one all keeps there is counted whole =
    rw (keeps.program_is, counted, ← whole) (slice_get-map_there (decl_tree start.table.program.now.symbols) all index
    one there is)

-- the bodies of a member have their slots in one way at most, and so those of a declaration
MemberHasSlots-prop : (names : List Name) (one : Member) → IsProp (MemberHasSlots names one)
MemberHasSlots-prop names (member.Field type name initial) = Prim.hlevel logic.props
MemberHasSlots-prop names (member.Method signature body) = Prim.hlevel logic.props

DeclHasSlots-prop : (names : List Name) (one : Decl) → IsProp (DeclHasSlots names one)
DeclHasSlots-prop names (decl.Class place name params implemented members) =
    Prim.hlevel (logic.props, MemberHasSlots-prop)
DeclHasSlots-prop names _ = Prim.hlevel logic.props

-- the bodies of a declaration have their slots
pub slots_at : (names : List Name) (all : List Decl) (index : ℕ) (one : Decl) → ∥ All (DeclHasSlots names) all ∥₁
    → index < length all → one ≡ get_or all index one → DeclHasSlots names one
slots_at names all index one have there is =
    ∥∥₁_elim have (DeclHasSlots-prop names one)
    (λ each. subst (DeclHasSlots names) (sym is) (each index one there))

-- what is noted in each context that a checker knows is noted in its own, which is that of the same program before
pub noted_own : {T E : Type 0} (before checker : Checker) (now : Option Offence) (result : Result T E)
    (offences : List Name → List DeclTree → List Offence) → Keeps before.table checker.table
    → ((context : Context) → Knows checker context
    → OnOk result (Noted checker.first (offences context.names context.declarations) now))
    → OnOk result (Noted checker.first
    (offences before.table.program.now.symbols (declarations_of before.table)) now)
unfolding context_in
noted_own before checker now result offences keeps noted =
    let own = noted (context_in checker) (record { is = refl }) in rw keeps.program_is at own

-- the same of what is noted in any case
pub noted_there : (before checker : Checker) (now : Option Offence) (offences : List Name → List DeclTree → List Offence)
    → Keeps before.table checker.table
    → ((context : Context) → Knows checker context
    → Noted checker.first (offences context.names context.declarations) now)
    → Noted checker.first (offences before.table.program.now.symbols (declarations_of before.table)) now
unfolding context_in
noted_there before checker now offences keeps noted =
    let own = noted (context_in checker) (record { is = refl }) in rw keeps.program_is at own

-- a checker knows the names and the declarations of its program
pub program_known : {checker : Checker} {context : Context} → Knows checker context
    → (checker.table.program.now.symbols ≡ context.names) × (declarations_of checker.table ≡ context.declarations)
unfolding context_in
program_known knows = (ap (λ (one : Context). one.names) knows.is, ap (λ (one : Context). one.declarations) knows.is)

-- the first offence of a program, after all its parts were checked
pub all_noted : {start functions interfaces classes last : Option Offence} (source : SourceTree) → start ≡ None
    → Noted start (function_offences source.declarations) functions
    → Noted functions (interface_offences source.declarations) interfaces
    → Noted interfaces (class_offences source.declarations) classes
    → Noted classes (statements_offences source.declarations (main_frame source.main) false source.main) last
    → last ≡ first_offence (type_offences source)
unfolding type_offences main_offences
all_noted source none one two three four =
    let noted = noted_after _ _ (noted_after _ _ (noted_after _ _ one two) three) four in
    noted.is ∙ ap (λ (start : Option Offence). fold earlier start (type_offences source)) none
