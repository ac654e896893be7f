-- The method `run` of an active class, by its name in the table of a program's names.
--
--   `run_is_named`         the symbol that the code has for `run` has this name, if a class is active
--   `run_without_body`, `run_starts`       what the code starts is what the definition starts
use Rattle.std.proofs.Common.{◌≡◌, ℕ, ◌+◌, Bool, true, false, List, [], ◌∷◌, Option, Some, None, refl, sym, ap, ◌∙◌, map, codes}
use Rattle.std.specs.Option.{option_map, is_some}
use Rattle.std.specs.Prelude.{if◌then◌else◌, slice_get}
use Rattle.std.specs.Str.{bytes_eq}
use Rattle.std.proofs.lemmas.Bool.{true≢false}
use Rattle.std.proofs.lemmas.Option.{none-some, same_Some, option_and_then_some, slice_get-map}
use Rattle.std.proofs.lemmas.Slice.Eq.{bytes_eq-Decides}
use Rattle.abs_tree.proofs.NumberLemmas.{name_of_number}
use Rattle.abs_program.specs.Bodies.{ClassEntryTree, class_entry, entry_of_class, if_alone, run_among}
use Rattle.abs_program.specs.Members.{method_among}
use Rattle.abs_tree.specs.Names.{name_of, number_of_name}
use Rattle.abs_program.specs.NamedViews.{program_tree}
use Rattle.abs_tree.specs.Syntax.{Name, DeclTree, ProgramTree}
use Rattle.abs_tree.specs.SyntaxViews.{member_tree, decl_tree}
use Rattle.abs_values.specs.ValueTrees.{ValueTree}
use Rattle.abs_program.specs.declared.named.Named.{Named}
use Rattle.abs_tree.specs.declared.symbol.Symbol.{Symbol}
use Rattle.abs_tree.specs.declared.syntax.declaration.Decl.{Decl}
use Rattle.abs_tree.specs.declared.syntax.declaration.Decl.TheVariants as decl
use Rattle.abs_tree.specs.declared.syntax.declaration.Member.{Member}
use Rattle.abs_tree.specs.declared.syntax.declaration.Member.TheVariants as member
use Rattle.abs_program.specs.declared.tables.control.BodyEntry.{BodyEntry}
use Rattle.abs_program.specs.ProgramBodies.{BodyAt, entry_of_body}
use Rattle.config_state.specs.Bodies.{class_index, class_taking, method_at}
use Rattle.config_state.specs.Configurations.{TaskState}
use Rattle.step_rules.specs.NewEntries.{task_for, run_task}

-- A symbol has the name.
abbrev HasSymbol : List Name → Name → Type 0
HasSymbol names name = (symbol : Symbol) × (name_of names symbol ≡ name)

-- a symbol with the number of a name has the name, if some symbol has it
symbol_of_name : (names : List Name) (name : Name) (symbol : Symbol) → HasSymbol names name
    → symbol.0 ≡ number_of_name names name → name_of names symbol ≡ name
symbol_of_name names name symbol has numbered =
    let number = λ (one : Name). name_of names (record { 0 = number_of_name names one }) in
    ap (λ (n : ℕ). name_of names (record { 0 = n })) numbered ∙ ap number (sym has.1)
    ∙ name_of_number names has.0 ∙ has.1

-- what is found by a name is either this method or a later one, and so the name is that of a symbol
called_by_symbol : (names : List Name) (name : Name) (own : Symbol) (index found : ℕ) (later : Option ℕ) (same : Bool)
    → bytes_eq (name_of names own) name ≡ same → (if same then Some index else later) ≡ Some found
    → (later ≡ Some found → HasSymbol names name) → HasSymbol names name
called_by_symbol names name own index found later true equal is others =
    (own, (bytes_eq-Decides (name_of names own) name).0 equal)
called_by_symbol names name own index found later false equal is others = others is

-- the name of a method that is found among members is that of a symbol
member_has_symbol : (names : List Name) (name : Name) (index found : ℕ) (members : List Member)
    → method_among index (map (member_tree names) members) name ≡ Some found → HasSymbol names name
member_has_symbol names name index found [] is = absurd (none-some found is)
member_has_symbol names name index found (member.Field type own initial ∷ others) is =
    member_has_symbol names name (index + 1) found others is
member_has_symbol names name index found (member.Method signature body ∷ others) is =
    called_by_symbol names name signature.name.name index found
    (method_among (index + 1) (map (member_tree names) others) name)
    (bytes_eq (name_of names signature.name.name) name) refl is
    (member_has_symbol names name (index + 1) found others)

-- `run` is the name of a symbol, if a declaration is an active class
class_has_run : (names : List Name) (declaration : Decl) (entry : ClassEntryTree) (member : ℕ)
    → entry_of_class (decl_tree names declaration) ≡ Some entry → entry.run ≡ Some member
    → HasSymbol names (codes "run")
class_has_run names (decl.Data place name params constructors) entry member is active = absurd (none-some entry is)
class_has_run names (decl.Function place result name parameters params value) entry member is active =
    absurd (none-some entry is)
class_has_run names (decl.Interface place name extended signatures) entry member is active =
    absurd (none-some entry is)
class_has_run names (decl.Class place name params implemented members) entry member is active =
    let trees = map (member_tree names) members.items in
    let run : run_among trees ≡ Some member = ap (λ (one : ClassEntryTree). one.run) (same_Some _ _ is) ∙ active in
    option_and_then_some (λ (index : ℕ). if_alone index (slice_get trees index)) (method_among 0 trees (codes "run"))
    member run (λ found called alone. member_has_symbol names (codes "run") 0 found members.items called)

-- `run` is the name of a symbol, if the declaration that is found is an active class
found_has_run : (names : List Name) (found : Option Decl) (tree : DeclTree) (entry : ClassEntryTree) (member : ℕ)
    → option_map (decl_tree names) found ≡ Some tree → entry_of_class tree ≡ Some entry → entry.run ≡ Some member
    → HasSymbol names (codes "run")
found_has_run names None tree entry member there is active = absurd (none-some tree there)
found_has_run names (Some declaration) tree entry member there is active =
    class_has_run names declaration entry member (ap entry_of_class (same_Some _ _ there) ∙ is) active

-- `run` is the name of a symbol, if a class of the program is active
active_has_run : (program : Named) (class : Name) (entry : ClassEntryTree) (member : ℕ)
    → class_taking (program_tree program) class ≡ Some entry → entry.run ≡ Some member
    → HasSymbol program.symbols (codes "run")
unfolding class_entry
active_has_run program class entry member is active =
    let tree = decl_tree program.symbols in
    let trees = map tree program.declarations.items in
    option_and_then_some (class_entry trees) (class_index (program_tree program) class) entry is
    (λ index named own. option_and_then_some entry_of_class (slice_get trees index) entry own
    (λ declaration there of. found_has_run program.symbols (slice_get program.declarations.items index) declaration
    entry member (sym (slice_get-map tree program.declarations.items index) ∙ there) of active))

-- the symbol with the number of `run` has that name, if a class of the program is active
pub run_is_named : (program : Named) (class : Name) (entry : ClassEntryTree) (symbol : Symbol) (active : Option ℕ)
    → class_taking (program_tree program) class ≡ Some entry → entry.run ≡ active → is_some active ≡ true
    → symbol.0 ≡ number_of_name program.symbols (codes "run") → name_of program.symbols symbol ≡ codes "run"
run_is_named program class entry symbol None is run active numbered = absurd (true≢false (sym active))
run_is_named program class entry symbol (Some member) is run active numbered =
    symbol_of_name program.symbols (codes "run") symbol (active_has_run program class entry member is run) numbered

-- nothing starts where there is no body
nothing_starts : (cog object : ℕ) (found : Option BodyAt) → None ≡ option_map entry_of_body found
    → None ≡ option_map (λ (body : BodyAt). task_for body cog object (codes "run") None []) found
nothing_starts cog object None none = refl
nothing_starts cog object (Some body) none = absurd (none-some (entry_of_body body) none)

-- a task of the body that is found starts
one_starts : (cog object : ℕ) (found : Option BodyAt) (entry : BodyEntry) (task : TaskState)
    → Some entry ≡ option_map entry_of_body found
    → ((body : BodyAt) → entry_of_body body ≡ entry → task ≡ task_for body cog object (codes "run") None [])
    → Some task ≡ option_map (λ (body : BodyAt). task_for body cog object (codes "run") None []) found
one_starts cog object None entry task is starts = absurd (none-some entry (sym is))
one_starts cog object (Some body) entry task is starts = ap Some (starts body (sym (same_Some _ _ is)))

module _ (program : ProgramTree) (cog object : ℕ) (class name : Name) (named : name ≡ codes "run") where
  -- nothing starts if the class has no body of `run`
  pub run_without_body : (run : Option ℕ) → None ≡ option_map entry_of_body (method_at program class name)
      → None ≡ run_task program cog object class run
  run_without_body None none = refl
  run_without_body (Some member) none = nothing_starts cog object (method_at program class (codes "run"))
      (none ∙ ap (λ (one : Name). option_map entry_of_body (method_at program class one)) named)

  -- a task of `run` starts
  pub run_starts : (run : Option ℕ) (entry : BodyEntry) (task : TaskState) (arguments : List ValueTree)
      → is_some run ≡ true → arguments ≡ [] → Some entry ≡ option_map entry_of_body (method_at program class name)
      → ((body : BodyAt) → entry_of_body body ≡ entry → task ≡ task_for body cog object name None arguments)
      → Some task ≡ run_task program cog object class run
  run_starts None entry task arguments active none is starts = absurd (true≢false (sym active))
  run_starts (Some member) entry task arguments active none is starts =
      one_starts cog object (method_at program class (codes "run")) entry task
      (is ∙ ap (λ (one : Name). option_map entry_of_body (method_at program class one)) named)
      (λ body own. starts body own ∙ ap (λ (one : Name). task_for body cog object one None arguments) named
      ∙ ap (task_for body cog object (codes "run") None) none)
