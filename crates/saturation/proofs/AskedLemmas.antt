-- What a statement of a kind asks for by the definition is there by the contract.
--
--   `start_row`, `atom_row`    the row of a rule without other facts, and that of an atom of an expression
--   `receiver_row`, `argument_row`, ..     those of the other rules
--   `row_of`                   the row of each rule of the definition
use Rattle.std.proofs.Common.{◌≡◌, ◌⊎◌, inl, inr, ⊎_elim, ℕ, suc, ◌+◌, true, List, [], ◌∷◌, ◌++◌, Contains, Some, refl, sym, ap, subst, ◌∙◌, arith, length}
use Rattle.std.specs.Prelude.{Option, codes, slice_get}
use Rattle.list_facts.proofs.AllLemmas.{Contains-head_or_tail}
use Rattle.abs_program.specs.Bodies.{initials_among, run_among}
use Rattle.abs_program.specs.Control.{Point}
use Rattle.abs_program.specs.Instructions.{EffectTree, Returns, Stores, Makes, Sends, CallsOwn, Gets, effect_of, expr_trees_of, instruction_of}
use Rattle.abs_tree.specs.Names.{number_of_name}
use Rattle.abs_tree.specs.Syntax.{Name, VariableTree, ExprTree, ProgramTree}
use Rattle.abs_tree.specs.SyntaxPlaces.{statement_place}
use Rattle.abs_tree.specs.declared.symbol.Symbol.{Symbol}
use Rattle.abs_tree.specs.declared.syntax.statement.Mode.{Mode}
use Rattle.contract_terms.specs.Accepts.{accepts_of}
use Rattle.contract_terms.specs.Asks.{LetInField, LetInParam, InitialReads, IsActive, AsksFor}
use Rattle.contract_terms.specs.Asks.AsksFor.{assigned, makes, fills, begins, starts, calls, passes, answers, calls_own, passes_own, answers_own, gets, returns}
use Rattle.contract_terms.specs.Atoms.{AtomOf, AtomAt, held_by, is_let_in, is_object_let_in}
use Rattle.contract_terms.specs.Atoms.AtomOf.{in_slot, in_field, own as in_this}
use Rattle.contract_terms.specs.BodyContexts.{BodyContext}
use Rattle.contract_terms.specs.Derived.{AllHold}
use Rattle.contract_terms.specs.KindBodies.{called, new_sign}
use Rattle.contract_terms.specs.ProgramTerms.{AreTermsOf}
use Rattle.contract_terms.specs.Reading.{ReadsTree, IsReads}
use Rattle.contract_terms.specs.Terms.{TermTree, first_receivers, receiver_in, target_of, target_type}
use Rattle.contract_terms.specs.declared.fact.Atom.{Atom}
use Rattle.contract_terms.specs.declared.fact.Atom.TheVariants.{Object, Future}
use Rattle.contract_terms.specs.declared.fact.Fact.{Fact}
use Rattle.contract_terms.specs.declared.fact.Fact.TheVariants.{Live, Holds, Field, Gives}
use Rattle.contract_terms.specs.declared.terms.Terms.{Terms}
use Rattle.name_bounding.specs.declared.kind.Kind.{Kind}
use Rattle.name_bounding.specs.declared.kind.Kind.TheVariants.{Method}
use Rattle.name_bounding.specs.declared.kind.Sign.{Sign}
use Rattle.saturation.proofs.BodyLemmas.{param_lets_in}
use Rattle.saturation.proofs.ClassLemmas.{class_by_name, declared_by_name, entry_is, field_lets_in}
use Rattle.saturation.proofs.InitialLemmas.{something_let_in, initial_gives}
use Rattle.saturation.proofs.PlaceLemmas.{Placed}
use Rattle.saturation.proofs.ReadLemmas.{reads_found, gives_atom}
use Rattle.saturation.proofs.RowLemmas.{Row, rows_together}
use Rattle.saturation.proofs.SelectLemmas.{held_first, held_second, among_none, only_one}
use Rattle.saturation.specs.Rows.{Receives, Answers, Received, Arrives, Starts, PassesTo, PassesIn, Handles, BeginsHere}
use Rattle.saturation.specs.Rows.Arrives.{stores as arrival_stores, returns as arrival_returns, fills as arrival_fills, passes_own as arrival_passes_own, receives as arrival_receives, passes as arrival_passes}
use Rattle.saturation.specs.Rows.Handles.{starts as handles_start, passes as handles_slot, passes_field as handles_field, passes_answer as handles_answer, passes_result as handles_result}
use Rattle.saturation.specs.Rows.PassesTo.{to_expr, to_future, to_target}
use Rattle.saturation.specs.Rows.Received.{calls as received_calls, answers as received_answers, passes as received_passes}
use Rattle.saturation.specs.Rows.Starts.{makes as start_makes, runs as start_runs, calls_own as start_calls_own, answers_own as start_answers_own, gets as start_gets, arrives as start_arrives}
use Rattle.saturation.specs.Uses.{reads_matter, IsUse}
use Rattle.saturation.specs.Uses.IsUse.{reads_slot, reads_field, gets_future, gets_result, takes_answer}
use Rattle.saturation.specs.declared.body.Body.{Body}
use Rattle.saturation.specs.declared.uses.Location.{Location}
use Rattle.saturation.specs.declared.uses.Location.TheVariants as location
use Rattle.saturation.specs.declared.uses.Part.{Part}
use Rattle.saturation.specs.declared.uses.Part.TheVariants as part

module _ (program : ProgramTree) (terms : Terms) (depth : ℕ) (are : AreTermsOf program terms) (made : List (Sign × ℕ))
    (known : List Fact) (kind : Kind) (live : Contains known (Live kind)) (own : Body) (context : BodyContext)
    (place : ℕ) (point : Point) (term : TermTree)
    (placed : Placed program terms kind own context place point term) where
  -- the row of a rule of this statement
  abbrev RowHere : List Fact → Fact → Type 0
  RowHere premises asked = Row program terms depth made known kind premises asked

  -- what a statement that is live asks for
  started : (asked : Fact) → Starts program terms depth kind (instruction_of point) term known asked
      → Handles program terms depth made known (Live kind) asked
  started asked row =
      handles_start kind own placed.has place (instruction_of point) term placed.at asked row

  -- a rule without other facts
  start_row : (asked : Fact) → Starts program terms depth kind (instruction_of point) term known asked
      → RowHere [] asked
  start_row asked row = record {
    starts = inl (started asked row);
    passes = λ fact among. absurd (among_none fact among);
  }

  -- what comes to a part of a statement by what it uses
  passed : (at : Location) (atom : Atom) (there : Part)
      → IsUse program terms own at (record { term = place; part = there }) → (asked : Fact)
      → PassesTo program terms depth kind (instruction_of point) term atom known there asked
      → PassesIn program terms depth kind at atom known asked
  passed at atom there used asked comes = record {
    own = own;
    has = placed.has;
    use_ = record { term = place; part = there };
    is_use = used;
    instruction = instruction_of point;
    term = term;
    there = placed.at;
    passes = comes;
  }

  -- an atom that comes to an expression by what it reads
  atom_passes : (expr : ℕ) (reads : ReadsTree) → slice_get term.reads expr ≡ Some reads
      → (expr_tree : ExprTree) → IsReads expr_tree reads
      → reads_matter (effect_of point.statement) term.accepts ≡ true
      → (premises : List Fact) (atom : Atom) → AtomOf kind expr_tree premises atom
      → (asked : Fact) → Arrives program terms depth kind (instruction_of point) term expr atom known asked
      → (fact : Fact) → Contains premises fact → Handles program terms depth made known fact asked
  atom_passes expr reads there expr_tree is matter _ _ (in_slot slot atom read) asked comes fact among =
      subst (λ one. Handles program terms depth made known one asked) (only_one (Holds kind slot atom) fact among)
      (handles_slot kind live slot atom asked
      (passed (location.Slot slot) atom (part.Expr expr)
      (reads_slot own place (instruction_of point) term placed.at matter expr reads there slot
      ((is.slots slot).1 read))
      asked (to_expr expr asked comes)))
  atom_passes expr reads there expr_tree is matter _ _ (in_field sign method kind_is field atom read) asked comes fact
      among =
      let comes_in = passed (location.Field field) atom (part.Expr expr)
      (reads_field own place (instruction_of point) term placed.at matter expr reads there field
      ((is.fields field).1 read))
      asked (to_expr expr asked comes) in
      subst (λ one. Handles program terms depth made known one asked) (only_one (Field sign field atom) fact among)
      (handles_field sign method (subst (λ one. Contains known (Live one)) kind_is live) field atom asked
      (subst (λ one. PassesIn program terms depth one (location.Field field) atom known asked) kind_is comes_in))
  atom_passes expr reads there expr_tree is matter _ _ (in_this sign method kind_is read) asked comes fact among =
      absurd (among_none fact among)

  -- the row of an atom of an expression
  atom_row : (expr : ℕ) (premises : List Fact) (atom : Atom)
      → AtomAt kind (expr_trees_of point.statement) expr premises atom → AllHold (Contains known) premises
      → reads_matter (effect_of point.statement) term.accepts ≡ true
      → (asked : Fact) → Arrives program terms depth kind (instruction_of point) term expr atom known asked
      → RowHere premises asked
  atom_row expr premises atom at hold matter asked comes =
      let found = reads_found (expr_trees_of point.statement) term.reads expr at.expr_tree placed.is.reads at.there in
      let gives = gives_atom kind known at.expr_tree found.reads found.is premises atom at.atom_of hold in
      record {
        starts = inl (started asked (start_arrives expr found.reads found.there atom gives asked comes));
        passes = λ fact among. inl (atom_passes expr found.reads found.there at.expr_tree found.is matter premises
            atom at.atom_of asked comes fact among);
      }

  -- what is let in by the definition is let in by the term
  let_in_term : (atom : Atom)
      → is_let_in program.source
      (accepts_of program.source.declarations (target_type context (effect_of point.statement))) atom ≡ true
      → is_let_in program.source term.accepts atom ≡ true
  let_in_term atom let_in =
      subst (λ accepts. is_let_in program.source accepts atom ≡ true) (sym placed.is.accepts) let_in

  -- what a statement reads matters if its effect is such
  matters : (effect : EffectTree) → effect_of point.statement ≡ effect → reads_matter effect term.accepts ≡ true
      → reads_matter (effect_of point.statement) term.accepts ≡ true
  matters effect is matter = subst (λ one. reads_matter one term.accepts ≡ true) (sym is) matter

  -- the target of an effect
  held_by_target : (effect : EffectTree) → effect_of point.statement ≡ effect → (atom : Atom) (asked : Fact)
      → held_by kind (target_of (effect_of point.statement)) atom ≡ Some asked
      → held_by kind (target_of effect) atom ≡ Some asked
  held_by_target effect is atom asked held = subst (λ one. held_by kind (target_of one) atom ≡ Some asked) is held

  -- the receiver of a message by the term
  receives_term : (method : Name) (target : Option VariableTree) → effect_of point.statement ≡ Sends method target
      → (sign : Sign)
      → is_object_let_in program.source
      (first_receivers program.source.declarations context (expr_trees_of point.statement)) sign.place ≡ true
      → Receives program term sign
  receives_term method target is sign let_in = record {
    objects = first_receivers program.source.declarations context (expr_trees_of point.statement);
    receiver = placed.is.receiver
        ∙ ap (λ effect. receiver_in program.source.declarations context effect (expr_trees_of point.statement)) is;
    let_in = let_in;
  }

  -- the row of a receiver
  receiver_row : (method : Name) (target : Option VariableTree) → effect_of point.statement ≡ Sends method target
      → (premises : List Fact) (sign : Sign)
      → AtomAt kind (expr_trees_of point.statement) 0 premises (Object sign)
      → is_object_let_in program.source
      (first_receivers program.source.declarations context (expr_trees_of point.statement)) sign.place ≡ true
      → AllHold (Contains known) premises → (asked : Fact)
      → Received program terms depth kind (instruction_of point) term method target sign known asked
      → RowHere premises asked
  receiver_row method target is premises sign at let_in hold asked received =
      atom_row 0 premises (Object sign) at hold (matters (Sends method target) is refl) asked
      (arrival_receives method target is refl sign refl (receives_term method target is sign let_in) asked received)

  -- the row of an argument of a message
  argument_row : (method : Name) (target : Option VariableTree) → effect_of point.statement ≡ Sends method target
      → (before : List Fact) (sign : Sign)
      → AtomAt kind (expr_trees_of point.statement) 0 before (Object sign)
      → is_object_let_in program.source
      (first_receivers program.source.declarations context (expr_trees_of point.statement)) sign.place ≡ true
      → (argument : ℕ) (premises : List Fact) (atom : Atom)
      → AtomAt kind (expr_trees_of point.statement) (argument + 1) premises atom
      → LetInParam program (called program.names sign method) argument atom
      → AllHold (Contains known) (before ++ premises)
      → RowHere (before ++ premises) (Holds (called program.names sign method) argument atom)
  argument_row method target is before sign receiver let_in argument premises atom at param hold =
      let first = held_first (Contains known) before premises hold in
      let second = held_second (Contains known) before premises hold in
      let asked = Holds (called program.names sign method) argument atom in
      let at_first = reads_found (expr_trees_of point.statement) term.reads 0 receiver.expr_tree placed.is.reads
      receiver.there in
      let at_this = reads_found (expr_trees_of point.statement) term.reads (argument + 1) at.expr_tree placed.is.reads
      at.there in
      let gives_first = gives_atom kind known receiver.expr_tree at_first.reads at_first.is before (Object sign)
      receiver.atom_of first in
      let gives_this = gives_atom kind known at.expr_tree at_this.reads at_this.is premises atom at.atom_of second in
      let lets_in = param_lets_in program terms are (called program.names sign method) argument atom param in
      let next : argument + 1 ≡ suc argument = omega arith in
      rows_together program terms depth made known kind before premises asked
      (receiver_row method target is before sign receiver let_in first asked
      (received_passes argument at_this.reads
      (subst (λ (one : ℕ). slice_get term.reads one ≡ Some at_this.reads) next at_this.there) atom gives_this
      lets_in))
      (atom_row (argument + 1) premises atom at second (matters (Sends method target) is refl) asked
      (arrival_passes method target is argument next sign
      (record {
        reads = at_first.reads;
        first = at_first.there;
        gives = gives_first;
        receives = receives_term method target is sign let_in;
      })
      lets_in))

  -- the target holds an atom
  answers_here : (atom : Atom)
      → is_let_in program.source
      (accepts_of program.source.declarations (target_type context (effect_of point.statement))) atom ≡ true
      → (asked : Fact) → held_by kind (target_of (effect_of point.statement)) atom ≡ Some asked
      → Answers program kind (instruction_of point) term atom asked
  answers_here atom let_in asked held = record { let_in = let_in_term atom let_in; held = held }

  -- the row of an atom that a called method of `this` gives
  answer_row : (method : Name) (target : Option VariableTree) → effect_of point.statement ≡ CallsOwn method target
      → (sign : Sign) (now : Symbol) → kind ≡ Method sign now → (atom : Atom)
      → is_let_in program.source
      (accepts_of program.source.declarations (target_type context (effect_of point.statement))) atom ≡ true
      → (asked : Fact) → held_by kind (target_of (effect_of point.statement)) atom ≡ Some asked
      → Contains known (Gives (called program.names sign method) atom)
      → RowHere (Gives (called program.names sign method) atom ∷ []) asked
  answer_row method target is sign now kind_is atom let_in asked held gives =
      let some = something_let_in program.source term.accepts atom (let_in_term atom let_in) in
      let answer = answers_here atom let_in asked held in
      let symbol : Symbol = record { 0 = number_of_name program.names method } in
      let comes = passed (location.Answer symbol.0) atom part.Target
      (takes_answer own place (instruction_of point) term placed.at some method target is) asked
      (to_target asked answer) in
      let handled = handles_answer sign symbol now (subst (λ one. Contains known (Live one)) kind_is live) atom asked
      (subst (λ one. PassesIn program terms depth one (location.Answer symbol.0) atom known asked) kind_is comes) in
      record {
        starts = inl (started asked (start_answers_own method target is sign now kind_is atom gives asked answer));
        passes = λ fact among. inl (subst (λ one. Handles program terms depth made known one asked)
            (only_one (Gives (called program.names sign method) atom) fact among) handled);
      }

  -- the row of an atom that the task of a future gives
  future_row : (slot : ℕ) (target : Option VariableTree) → effect_of point.statement ≡ Gets (Some slot) target
      → (call : ℕ) (task : Kind) (atom : Atom)
      → is_let_in program.source
      (accepts_of program.source.declarations (target_type context (effect_of point.statement))) atom ≡ true
      → (asked : Fact) → held_by kind (target_of (effect_of point.statement)) atom ≡ Some asked
      → Contains known (Holds kind slot (Future call task)) → Contains known (Gives task atom)
      → RowHere (Holds kind slot (Future call task) ∷ Gives task atom ∷ []) asked
  future_row slot target is call task atom let_in asked held holds gives =
      let some = something_let_in program.source term.accepts atom (let_in_term atom let_in) in
      let answer = answers_here atom let_in asked held in
      let by_future = handles_slot kind live slot (Future call task) asked
      (passed (location.Slot slot) (Future call task) part.Future
      (gets_future own place (instruction_of point) term placed.at some slot target is) asked
      (to_future call task refl atom gives asked answer)) in
      let by_result = handles_result task kind slot call holds live atom asked
      (passed (location.Got slot) atom part.Target
      (gets_result own place (instruction_of point) term placed.at some slot target is) asked
      (to_target asked answer)) in
      record {
        starts = inl (started asked (start_gets slot target is call task holds atom gives asked answer));
        passes = λ fact among. inl (⊎_elim
            (λ same. subst (λ one. Handles program terms depth made known one asked) same by_future)
            (λ later. subst (λ one. Handles program terms depth made known one asked)
            (only_one (Gives task atom) fact later) by_result)
            (Contains-head_or_tail (Holds kind slot (Future call task)) (Gives task atom ∷ []) fact among));
      }

  -- the row of an initial value of a new object
  initial_row : (mode : Mode) (name : Name) (target : Option VariableTree)
      → effect_of point.statement ≡ Makes mode name target → (field slot : ℕ)
      → InitialReads program name field slot → (atom : Atom) → LetInField program name field atom
      → Contains known (Field (new_sign depth (statement_place point.statement).offset mode kind) slot atom)
      → RowHere (Field (new_sign depth (statement_place point.statement).offset mode kind) slot atom ∷ [])
      (Field (new_sign depth (statement_place point.statement).offset mode kind) field atom)
  initial_row mode name target is field slot initial atom let_in held =
      let sign = new_sign depth (statement_place point.statement).offset mode kind in
      let class = initial.class_is.taking.declaration in
      let class_is = class_by_name program name initial.params initial.members initial.class_is in
      let begun : (fact : Fact) → (fact ≡ Live kind) ⊎ (fact ≡ Field sign slot atom)
      → BeginsHere program terms depth known fact (Field sign field atom) = λ fact rests_on. record {
        kind = kind;
        live = live;
        sign = sign;
        class = class;
        makes = record {
          own = own;
          has = placed.has;
          index = place;
          instruction = instruction_of point;
          term = term;
          there = placed.at;
          mode = mode;
          name = name;
          target = target;
          makes = is;
          class_is = class_is;
          sign_is = refl;
        };
        slot = slot;
        atom = atom;
        held = held;
        gives = initial_gives program terms depth are name class class_is field slot initial atom let_in sign;
        rests_on = rests_on;
      } in
      record {
        starts = inr (begun (Live kind) (inl refl));
        passes = λ fact among. inr (begun fact (inr (sym (only_one (Field sign slot atom) fact among))));
      }

  -- the row of an active class
  active_row : (mode : Mode) (name : Name) (target : Option VariableTree)
      → effect_of point.statement ≡ Makes mode name target → IsActive program name
      → RowHere [] (Live (called program.names
      (new_sign depth (statement_place point.statement).offset mode kind) (codes "run")))
  active_row mode name target is active =
      let class = active.class_is.taking.declaration in
      let class_is = class_by_name program name active.params active.members active.class_is in
      let at = declared_by_name program name active.params active.members active.class_is class class_is in
      start_row (Live (called program.names
      (new_sign depth (statement_place point.statement).offset mode kind) (codes "run")))
      (start_runs mode name target is class class_is
      (record { params = length at.0.params; initials = initials_among at.0.members; run = run_among at.0.members })
      (entry_is program class at.0) active.member (ap run_among at.2 ∙ active.runs))

  -- The row of each rule of the definition.
  pub row_of : (premises : List Fact) (asked : Fact)
      → AsksFor program depth kind context (statement_place point.statement).offset (effect_of point.statement)
      (expr_trees_of point.statement) premises asked
      → AllHold (Contains known) premises → RowHere premises asked
  row_of _ _ (assigned target is expr premises atom at let_in asked held) hold =
      atom_row expr premises atom at hold
      (matters (Stores target) is (something_let_in program.source term.accepts atom (let_in_term atom let_in))) asked
      (arrival_stores target is asked (answers_here atom let_in asked held))
  row_of _ _ (makes mode name target is asked held) hold =
      start_row asked (start_makes mode name target is asked
      (held_by_target (Makes mode name target) is
      (Object (new_sign depth (statement_place point.statement).offset mode kind)) asked held))
  row_of _ _ (fills mode name target is argument premises atom at let_in) hold =
      let class_is = class_by_name program name let_in.params let_in.members let_in.class_is in
      let class = let_in.class_is.taking.declaration in
      atom_row argument premises atom at hold (matters (Makes mode name target) is refl)
      (Field (new_sign depth (statement_place point.statement).offset mode kind) argument atom)
      (arrival_fills mode name target is class class_is
      (field_lets_in program terms are name class argument atom class_is let_in))
  row_of _ _ (begins mode name target is field slot initial atom let_in) hold =
      initial_row mode name target is field slot initial atom let_in hold.0
  row_of _ _ (starts mode name target is active) hold = active_row mode name target is active
  row_of _ _ (calls method target is premises sign receives) hold =
      receiver_row method target is premises sign receives.0 receives.1 hold
      (Live (called program.names sign method)) received_calls
  row_of _ _ (passes method target is before sign receives argument premises atom at param) hold =
      argument_row method target is before sign receives.0 receives.1 argument premises atom at param hold
  row_of _ _ (answers method target is premises sign receives asked held) hold =
      receiver_row method target is premises sign receives.0 receives.1 hold asked
      (received_answers asked (held_by_target (Sends method target) is
      (Future (statement_place point.statement).offset (called program.names sign method)) asked held))
  row_of _ _ (calls_own method target is sign now kind_is) hold =
      start_row (Live (called program.names sign method)) (start_calls_own method target is sign now kind_is)
  row_of _ _ (passes_own method target is sign now kind_is argument premises atom at param) hold =
      atom_row argument premises atom at hold (matters (CallsOwn method target) is refl)
      (Holds (called program.names sign method) argument atom)
      (arrival_passes_own method target is sign now kind_is
      (param_lets_in program terms are (called program.names sign method) argument atom param))
  row_of _ _ (answers_own method target is sign now kind_is atom let_in asked held) hold =
      answer_row method target is sign now kind_is atom let_in asked held hold.0
  row_of _ _ (gets slot target is call task atom let_in asked held) hold =
      future_row slot target is call task atom let_in asked held hold.0 hold.1.0
  row_of _ _ (returns is expr premises atom at let_in) hold =
      atom_row expr premises atom at hold
      (matters Returns is (something_let_in program.source term.accepts atom (let_in_term atom let_in)))
      (Gives kind atom) (arrival_returns is (let_in_term atom let_in))
