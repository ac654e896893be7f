-- The uses by a term, by a method and by a class, as the code adds them.
--
--   `term_found`, `term_missing`       those by a term with an instruction, and by one without
--   `method_terms`, `no_terms`         those by the terms of a method, and by none
--   `class_parts`                      those by the parts of a class
use Rattle.std.proofs.Common.{◌≡◌, ◌⊎◌, ◌∙◌, ℕ, List, [], map, Option, Some, None, sym, subst}
use Rattle.std.proofs.lemmas.Option.{none-some, same_Some}
use Rattle.std.specs.Prelude.{slice_get}
use Rattle.abs_program.specs.Instructions.{InstructionTree, instructions}
use Rattle.abs_tree.specs.Syntax.{ProgramTree}
use Rattle.contract_terms.specs.Terms.{TermTree}
use Rattle.contract_terms.specs.Views.{reads_tree, term_tree}
use Rattle.contract_terms.specs.declared.term.MethodTerms.{MethodTerms}
use Rattle.contract_terms.specs.declared.term.Reads.{Reads}
use Rattle.contract_terms.specs.declared.term.Term.{Term}
use Rattle.saturation.proofs.AddedLemmas.{added_by, added_both, added_none, added_same}
use Rattle.saturation.specs.UsesAdded.{Added, EffectUses, TermUses, BodyUses, InitialUses, MethodsUse}
use Rattle.saturation.specs.declared.body.Body.{Body}
use Rattle.saturation.specs.declared.body.Body.TheVariants as body
use Rattle.saturation.specs.declared.uses.Uses.{Uses}

-- those by a term with this instruction
pub term_found : {before now : Uses} (program : ProgramTree) (reader : Body) (index : ℕ) (term : TermTree)
    (instruction : InstructionTree) → Some instruction ≡ slice_get (instructions program.source) term.index
    → Added (EffectUses program.names reader index instruction.effect term) before now
    → Added (TermUses program reader index term) before now
term_found program reader index term instruction there added = added_same added (λ own place use_.
    let Holds : InstructionTree → Type 0 =
    λ other. EffectUses program.names reader index other.effect term own place use_ in (
      λ holds. (instruction, sym there, holds),
      λ found. subst Holds (same_Some found.0 instruction (sym found.1 ∙ sym there)) found.2,
    ))

-- a term without an instruction has none
pub term_missing : {now : Uses} (program : ProgramTree) (reader : Body) (index : ℕ) (term : TermTree)
    → None ≡ slice_get (instructions program.source) term.index → Added (TermUses program reader index term) now now
term_missing program reader index term missing =
    added_none (λ own place use_ found. none-some found.0 (missing ∙ found.1))

-- those by the terms of a method
pub method_terms : {before now : Uses} (program : ProgramTree) (class : ℕ) {member index : ℕ} {terms others : List Term}
    → member ≡ index → terms ≡ others
    → Added (BodyUses program (body.Method class member) (map (term_tree program.names) terms)) before now
    → Added (BodyUses program (body.Method class index) (map (term_tree program.names) others)) before now
method_terms program class {member} {index} {terms} {others} member_is terms_are added =
    added_by (λ (number : ℕ). BodyUses program (body.Method class number) (map (term_tree program.names) others))
    member_is
    (added_by (λ (list : List Term). BodyUses program (body.Method class member) (map (term_tree program.names) list))
    terms_are added)

-- those by the initial values and by the methods of a class
pub class_parts : {before now next : Uses} (program : ProgramTree) {class index : ℕ} {reads initials : List Reads}
    {members methods : List (Option MethodTerms)} → class ≡ index → reads ≡ initials → members ≡ methods
    → Added (InitialUses class (map reads_tree reads)) before now → Added (MethodsUse program class members) now next
    → Added (λ own place use_. InitialUses index (map reads_tree initials) own place use_
    ⊎ MethodsUse program index methods own place use_) before next
class_parts program {class} {index} {reads} {initials} {members} {methods} class_is reads_are members_are first second =
    added_both
    (added_by (λ (number : ℕ). InitialUses number (map reads_tree initials)) class_is
    (added_by (λ (list : List Reads). InitialUses class (map reads_tree list)) reads_are first))
    (added_by (λ (number : ℕ). MethodsUse program number methods) class_is
    (added_by (λ (list : List (Option MethodTerms)). MethodsUse program class list) members_are second))

-- a body without terms has none
pub no_terms : {now : Uses} (program : ProgramTree) (reader : Body) → Added (BodyUses program reader []) now now
no_terms program reader = added_none (λ own place use_ each. none-some each.item each.there)
