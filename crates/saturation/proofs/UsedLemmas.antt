-- What comes to a location of a kind is what its statement passes on.
--
--   `Comes`                        a statement of a kind passes on something
--   `slot_comes`, `field_comes`    by what a slot or a field of `this` holds
--   `answer_comes`, `got_comes`    by what a called method or the task of a future gives
use Rattle.std.proofs.Common.{◌≡◌, ℕ, List, Contains, Some, sym, ap, subst, ◌∙◌}
use Rattle.std.specs.Prelude.{slice_get}
use Rattle.std.proofs.lemmas.Option.{none-some, same_Some}
use Rattle.abs_program.specs.Instructions.{InstructionTree, CallsOwn, Gets, instructions}
use Rattle.abs_tree.specs.Syntax.{ProgramTree}
use Rattle.abs_tree.specs.declared.symbol.Symbol.{Symbol}
use Rattle.contract_terms.specs.Terms.{TermTree}
use Rattle.contract_terms.specs.declared.fact.Atom.{Atom}
use Rattle.contract_terms.specs.declared.fact.Atom.TheVariants.{Future}
use Rattle.contract_terms.specs.declared.fact.Fact.{Fact}
use Rattle.contract_terms.specs.declared.fact.Fact.TheVariants.{Holds, Field, Gives}
use Rattle.contract_terms.specs.declared.terms.Terms.{Terms}
use Rattle.name_bounding.specs.declared.kind.Kind.{Kind}
use Rattle.name_bounding.specs.declared.kind.Kind.TheVariants.{Method}
use Rattle.name_bounding.specs.declared.kind.Sign.{Sign}
use Rattle.saturation.specs.Rows.{HasBody, Starts, PassesTo, PassesIn}
use Rattle.saturation.specs.Rows.GivesAtom.{by_slot, by_field}
use Rattle.saturation.specs.Rows.PassesTo.{to_expr, to_future, to_target}
use Rattle.saturation.specs.Rows.Starts.{answers_own, gets, arrives}
use Rattle.saturation.specs.Uses.{body_terms, TermAt, IsUse}
use Rattle.saturation.specs.Uses.IsUse.{reads_slot, reads_field, gets_future, gets_result, takes_answer, begins}
use Rattle.saturation.specs.declared.body.Body.{Body}
use Rattle.saturation.specs.declared.body.Body.TheVariants as body
use Rattle.saturation.specs.declared.uses.Location.{Location}
use Rattle.saturation.specs.declared.uses.Location.TheVariants as location
use Rattle.saturation.specs.declared.uses.Use.{Use}

module _ (program : ProgramTree) (terms : Terms) (own : Body) (place : ℕ) (one other : InstructionTree)
    (first second : TermTree) (at : TermAt program terms own place one first)
    (now : TermAt program terms own place other second) where
  -- at an index of a body there is one term
  same_term : first ≡ second
  same_term = same_Some first second (sym at.there ∙ now.there)

  -- and it has one instruction
  same_instruction : one ≡ other
  same_instruction =
      same_Some one other
      (sym at.instruction_is ∙ (ap (λ term. slice_get (instructions program.source) term.index) same_term
      ∙ now.instruction_is))

-- initial values have no term
no_initial_term : (program : ProgramTree) (terms : Terms) (class place : ℕ) (instruction : InstructionTree)
    (term : TermTree) → TermAt program terms (body.Initials class) place instruction term → ⊥
unfolding body_terms
no_initial_term program terms class place instruction term at = none-some term at.there

module _ (program : ProgramTree) (terms : Terms) (depth : ℕ) (kind : Kind) (known : List Fact) (atom : Atom)
    (asked : Fact) (instruction : InstructionTree) (term : TermTree) where
  -- what comes to a slot
  slot_used : (own : Body) (slot : ℕ) (used : Use) → IsUse program terms own (location.Slot slot) used
      → TermAt program terms own used.term instruction term
      → PassesTo program terms depth kind instruction term atom known used.part asked
      → Contains known (Holds kind slot atom) → Starts program terms depth kind instruction term known asked
  slot_used _ _ _ (reads_slot own place other second now matter expr reads there slot read) at
      (to_expr _ _ comes) holds =
      let same = same_term program terms own place other instruction second term now at in
      arrives expr reads (subst (λ one. slice_get one.reads expr ≡ Some reads) same there) atom
      (by_slot slot atom read holds) asked comes
  slot_used _ _ _ (gets_future own place other second now some slot target is) at
      (to_future call task atom_is result gives _ answers) holds =
      let same = same_instruction program terms own place other instruction second term now at in
      gets slot target (subst (λ one. one.effect ≡ Gets (Some slot) target) same is) call task
      (subst (λ one. Contains known (Holds kind slot one)) atom_is holds) result gives asked answers
  slot_used _ _ _ (begins class tree class_is place reads there slot read) at comes holds =
      absurd (no_initial_term program terms class place instruction term at)

  -- what comes to a field of `this`
  field_used : (sign : Sign) (method : Symbol) → kind ≡ Method sign method
      → (own : Body) (field : ℕ) (used : Use) → IsUse program terms own (location.Field field) used
      → TermAt program terms own used.term instruction term
      → PassesTo program terms depth kind instruction term atom known used.part asked
      → Contains known (Field sign field atom) → Starts program terms depth kind instruction term known asked
  field_used sign method kind_is _ _ _ (reads_field own place other second now matter expr reads there field read) at
      (to_expr _ _ comes) holds =
      let same = same_term program terms own place other instruction second term now at in
      arrives expr reads (subst (λ one. slice_get one.reads expr ≡ Some reads) same there) atom
      (by_field sign method kind_is field atom read holds) asked comes

  -- what a called method of `this` gives
  answer_used : (sign : Sign) (now_in : Symbol) → kind ≡ Method sign now_in
      → (own : Body) (method : ℕ) (used : Use) → IsUse program terms own (location.Answer method) used
      → TermAt program terms own used.term instruction term
      → PassesTo program terms depth kind instruction term atom known used.part asked
      → Contains known (Gives (Method sign (record { 0 = method })) atom)
      → Starts program terms depth kind instruction term known asked
  answer_used sign now_in kind_is _ _ _ (takes_answer own place other second now some method target is) at
      (to_target _ answers) gives =
      let same = same_instruction program terms own place other instruction second term now at in
      answers_own method target (subst (λ one. one.effect ≡ CallsOwn method target) same is) sign now_in kind_is atom
      gives asked answers

  -- what the task of the future gives that a slot holds
  got_used : (call : ℕ) (task : Kind) → (own : Body) (slot : ℕ) (used : Use)
      → IsUse program terms own (location.Got slot) used → TermAt program terms own used.term instruction term
      → PassesTo program terms depth kind instruction term atom known used.part asked
      → Contains known (Holds kind slot (Future call task)) → Contains known (Gives task atom)
      → Starts program terms depth kind instruction term known asked
  got_used call task _ _ _ (gets_result own place other second now some slot target is) at (to_target _ answers) holds
      gives =
      let same = same_instruction program terms own place other instruction second term now at in
      gets slot target (subst (λ one. one.effect ≡ Gets (Some slot) target) same is) call task holds atom gives asked
      answers

module _ (program : ProgramTree) (terms : Terms) (depth : ℕ) (kind : Kind) (known : List Fact) (atom : Atom)
    (asked : Fact) where
  -- A statement of a kind passes on something.
  pub record Comes : Type 0 where
    pub own : Body
    pub has : HasBody program kind own
    pub place : ℕ
    pub instruction : InstructionTree
    pub term : TermTree
    pub at : TermAt program terms own place instruction term
    pub row : Starts program terms depth kind instruction term known asked

  -- a statement that uses a location passes on something
  comes_by : (at : Location) → (comes : PassesIn program terms depth kind at atom known asked)
      → Starts program terms depth kind comes.instruction comes.term known asked → Comes
  comes_by at comes row = record {
    own = comes.own;
    has = comes.has;
    place = comes.use_.term;
    instruction = comes.instruction;
    term = comes.term;
    at = comes.there;
    row = row;
  }

  -- What a slot holds comes to its statement.
  pub slot_comes : (slot : ℕ) → PassesIn program terms depth kind (location.Slot slot) atom known asked
      → Contains known (Holds kind slot atom) → Comes
  slot_comes slot comes holds =
      comes_by (location.Slot slot) comes
      (slot_used program terms depth kind known atom asked comes.instruction comes.term comes.own slot comes.use_
      comes.is_use comes.there comes.passes holds)

  -- So does what a field of `this` holds.
  pub field_comes : (sign : Sign) (method : Symbol) → kind ≡ Method sign method → (field : ℕ)
      → PassesIn program terms depth kind (location.Field field) atom known asked
      → Contains known (Field sign field atom) → Comes
  field_comes sign method kind_is field comes holds =
      comes_by (location.Field field) comes
      (field_used program terms depth kind known atom asked comes.instruction comes.term sign method kind_is comes.own
      field comes.use_ comes.is_use comes.there comes.passes holds)

  -- So does what a called method of `this` gives.
  pub answer_comes : (sign : Sign) (now : Symbol) → kind ≡ Method sign now → (method : Symbol)
      → PassesIn program terms depth kind (location.Answer method.0) atom known asked
      → Contains known (Gives (Method sign method) atom) → Comes
  answer_comes sign now kind_is method comes gives =
      comes_by (location.Answer method.0) comes
      (answer_used program terms depth kind known atom asked comes.instruction comes.term sign now kind_is comes.own
      method.0 comes.use_ comes.is_use comes.there comes.passes gives)

  -- So does what the task of a future gives.
  pub got_comes : (call : ℕ) (task : Kind) (slot : ℕ)
      → PassesIn program terms depth kind (location.Got slot) atom known asked
      → Contains known (Holds kind slot (Future call task)) → Contains known (Gives task atom) → Comes
  got_comes call task slot comes holds gives =
      comes_by (location.Got slot) comes
      (got_used program terms depth kind known atom asked comes.instruction comes.term call task comes.own slot
      comes.use_ comes.is_use comes.there comes.passes holds gives)
