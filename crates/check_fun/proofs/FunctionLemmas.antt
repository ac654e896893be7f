-- The functions of a program, which are checked one by one.
--
--   `AreChecked`                       the first declarations were checked
--   `none_checked`, `one_checked`      they were before the first one, and after one more
--   `all_checked`                      what was noted after all
use Rattle.std.proofs.Common.{◌≡◌, ℕ, ◌+◌, ◌<◌, ◌≤◌, List, [], ◌∷◌, ◌++◌, get_or, length, map, take, take_all, refl, sym, ap, ◌∙◌, append_assoc, append-nil}
use Rattle.std.proofs.lemmas.List.{take_more, map-append}
use Rattle.abs_tree.specs.Syntax.{DeclTree}
use Rattle.abs_tree.specs.SyntaxViews.{decl_tree}
use Rattle.abs_tree.specs.declared.refusal.Offence.{Offence}
use Rattle.abs_tree.specs.declared.syntax.declaration.Decl.{Decl}
use Rattle.abs_types.proofs.KeepLemmas.{keeps_reflexive, keeps_transitive}
use Rattle.abs_types.specs.TypeOffences.{function_offences, function_offences_in, functions_offences}
use Rattle.abs_types.specs.TypeTables.{declarations_of, Keeps}
use Rattle.check_fun.proofs.ContextLemmas.{noted_after, noted_nothing}
use Rattle.check_fun.specs.Contexts.{context_in, Context, Knows, Noted}
use Rattle.check_fun.specs.declared.checker.Checker.{Checker}

-- the offences of some functions and of one more
offences_pushed : (declarations some : List DeclTree) (one : DeclTree)
    → functions_offences declarations (some ++ one ∷ [])
    ≡ functions_offences declarations some ++ function_offences_in declarations one
offences_pushed declarations [] one = append-nil (function_offences_in declarations one)
offences_pushed declarations (first ∷ others) one =
    ap (λ (more : List Offence). function_offences_in declarations first ++ more)
    (offences_pushed declarations others one)
    ∙ sym (append_assoc (function_offences_in declarations first) (functions_offences declarations others)
    (function_offences_in declarations one))

-- Some declarations of the program were checked, and its table has grown.
pub record AreChecked (before now : Checker) (some : List Decl) : Type 0 where
  pub keeps : Keeps before.table now.table
  pub noted : Noted before.first (functions_offences (declarations_of before.table)
      (map (decl_tree before.table.program.now.symbols) some)) now.first

-- before the first declaration none were
pub none_checked : {checker : Checker} → AreChecked checker checker []
none_checked = record { keeps = keeps_reflexive; noted = noted_nothing }

-- one more was
pub one_checked : {before between now : Checker} (all : List Decl) (index : ℕ) (one : Decl)
    → AreChecked before between (take index all) → index < length all → one ≡ get_or all index one
    → ((context : Context) → Knows between context → Noted between.first
    (function_offences_in context.declarations (decl_tree context.names one)) now.first)
    → Keeps between.table now.table → AreChecked before now (take (index + 1) all)
unfolding context_in
one_checked {before} {between} {now} all index one so below at noted keeps =
    let names = before.table.program.now.symbols in
    let reported : Noted between.first (function_offences_in (declarations_of between.table)
    (decl_tree between.table.program.now.symbols one)) now.first =
    noted (context_in between) (record { is = refl }) in
    let more : Noted between.first (function_offences_in (declarations_of before.table) (decl_tree names one))
    now.first = rw so.keeps.program_is at reported in
    record {
      keeps = keeps_transitive so.keeps keeps;
      noted = rw (take_more all index one below, ← at, map-append, offences_pushed)
          (noted_after (functions_offences (declarations_of before.table) (map (decl_tree names) (take index all)))
          (function_offences_in (declarations_of before.table) (decl_tree names one)) so.noted more);
    }

-- after all declarations of the program the offences of all functions are noted
pub all_checked : {before now : Checker} (all : List Decl) (index : ℕ) → AreChecked before now (take index all)
    → length all ≤ index → all ≡ before.table.program.now.declarations.items → (context : Context)
    → Knows before context → Noted before.first (function_offences context.declarations) now.first
unfolding context_in function_offences
all_checked {before} {now} all index so ended is context knows =
    let whole : take index all ≡ before.table.program.now.declarations.items = take_all index all ended ∙ is in
    rw (← knows.is) (rw whole at so.noted)
