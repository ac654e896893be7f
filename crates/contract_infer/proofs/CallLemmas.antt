-- The calls on `this` that a loop over statements finds, and what is reached where there is none.
--
--   `AreCallsBefore`                               the calls of the statements so far were found
--   `calls_added`, `calls_kept`, `calls_done`      the steps of the loop
--   `none_reached`                                 without a call nothing is reached
use Rattle.std.proofs.Common.{◌≡◌, ℕ, zero, suc, ◌+◌, ◌<◌, ◌≤◌, ◌||◌, Bool, true, false, List, [], ◌∷◌, ◌++◌, Some, None, refl, sym, ap, ◌∙◌, subst, length, Contains, nat_eq, arith, eqb-true, eq-or-lt_of_le, ⊎_elim}
use Rattle.std.specs.List.{list_all, list_any}
use Rattle.std.specs.Prelude.{Option, option_map, option_and_then, slice_get, vec_len}
use Rattle.std.specs.declared.alloc.Global.{Global}
use Rattle.std.specs.declared.vec.Vec.{Vec}
use Rattle.std.proofs.lemmas.Bool.{and_parts}
use Rattle.std.proofs.lemmas.List.{nil_from_length}
use Rattle.std.proofs.lemmas.List.Elements.{Contains-push, Contains-push_cases, Contains-append_left}
use Rattle.std.proofs.lemmas.Option.{none-some, same_Some, slice_get-map, slice_get_within}
use Rattle.abs_graph.specs.Graphs.{Graph, successors, reaches_within, reaches}
use Rattle.abs_graph.specs.Views.{graph_of}
use Rattle.abs_program.proofs.PointLemmas.{length-program_points}
use Rattle.abs_program.specs.Control.{Point, program_points}
use Rattle.abs_program.specs.Instructions.{EffectTree, CallsOwn, effect_of, InstructionTree, instruction_of, instructions}
use Rattle.abs_program.specs.Members.{method_of}
use Rattle.abs_tree.specs.Limits.{table_limit}
use Rattle.abs_tree.specs.Syntax.{Name, VariableTree, DeclTree, SourceTree}
use Rattle.abs_tree.specs.SyntaxSizes.{all_statements}
use Rattle.contract_infer.specs.CallsFound.{own_call, call_of}
use Rattle.contract_infer.specs.CallsWithin.{CallsWithin, AreCallsWithin}

-- One of the statements from the first index on, and before another one, calls a method of a class on `this`.
pub record CallsBefore (source : SourceTree) (class first end other : ℕ) : Type 0 where
  pub index : ℕ
  pub from : first ≤ index
  pub below : index < end
  pub calls : call_of source class index ≡ Some other

-- These are just the methods that such statements call on `this`.
pub record AreCallsBefore (source : SourceTree) (class first end : ℕ) (found : List ℕ) : Type 0 where
  pub sound : (other : ℕ) → Contains found other → CallsBefore source class first end other
  pub whole : (index other : ℕ) → first ≤ index → index < end → call_of source class index ≡ Some other
      → Contains found other

-- an effect that calls a method of a class on `this`
record OwnCall (declarations : List DeclTree) (class : ℕ) (effect : EffectTree) (other : ℕ) : Type 0 where
  method : Name
  target : Option VariableTree
  calls : effect ≡ CallsOwn method target
  method_is : method_of declarations class method ≡ Some other

-- it is a call on `this`, if a method of a class is found
own_call_is : (declarations : List DeclTree) (class : ℕ) (effect : EffectTree) (other : ℕ)
    → own_call declarations class effect ≡ Some other → OwnCall declarations class effect other
own_call_is declarations class (CallsOwn method target) other is =
    record { method = method; target = target; calls = refl; method_is = is }
own_call_is declarations class effect other is = absurd (none-some other is)

module _ (source : SourceTree) (class : ℕ) where
  -- the call of the statement with an index is that of its point
  call_of-point : (index : ℕ) → call_of source class index
      ≡ option_and_then
      (λ (one : InstructionTree). own_call source.declarations class one.effect)
      (option_map instruction_of (slice_get (program_points source) index))
  unfolding instructions
  call_of-point index =
      ap (option_and_then (λ (one : InstructionTree). own_call source.declarations class one.effect))
      (slice_get-map instruction_of (program_points source) index)

  -- a call that is found is one of a point
  found_at : (first count index other : ℕ) (found : Option Point) → slice_get (program_points source) index ≡ found
      → first ≤ index → index < first + count
      → option_and_then (λ (one : InstructionTree). own_call source.declarations class one.effect)
      (option_map instruction_of found) ≡ Some other
      → CallsWithin source class first count other
  found_at first count index other None there from below is = absurd (none-some other is)
  found_at first count index other (Some point) there from below is =
      let own = own_call_is source.declarations class (effect_of point.statement) other is in
      record {
        index = index;
        from = from;
        below = below;
        point = point;
        there = there;
        method = own.method;
        target = own.target;
        calls = own.calls;
        method_is = own.method_is;
      }

  -- a call of a point is found
  reported_at : {first count other : ℕ} (call : CallsWithin source class first count other)
      → call_of source class call.index ≡ Some other
  reported_at call =
      let own = λ (one : InstructionTree). own_call source.declarations class one.effect in
      call_of-point call.index
      ∙ (ap (λ (found : Option Point). option_and_then own (option_map instruction_of found)) call.there
      ∙ (ap (own_call source.declarations class) call.calls ∙ call.method_is))

  module _ (first : ℕ) where
    -- a call before an index is before the next one
    later : {end other : ℕ} → CallsBefore source class first end other → CallsBefore source class first (end + 1) other
    later call = record {
      index = call.index;
      from = call.from;
      below = omega (arith, call.below);
      calls = call.calls;
    }

    -- one more statement calls a method on `this`
    pub calls_added : {end : ℕ} {found : List ℕ} (after : List ℕ) (member : ℕ)
        → AreCallsBefore source class first end found → first ≤ end → Some member ≡ call_of source class end
        → after ≡ found ++ member ∷ [] → AreCallsBefore source class first (end + 1) after
    calls_added {end} {found} after member are from is added = record {
      sound = λ other has. ⊎_elim
          (λ before. later (are.sound other before))
          (λ same. record {
            index = end;
            from = from;
            below = omega arith;
            calls = sym is ∙ ap (λ (n : ℕ). Some n) same;
          })
          (Contains-push_cases found member other (subst (λ (xs : List ℕ). Contains xs other) added has));
      whole = λ index other start below call.
          subst (λ (xs : List ℕ). Contains xs other) (sym added) (⊎_elim
          (λ last. subst (Contains (found ++ member ∷ []))
          (same_Some member other (is ∙ (ap (call_of source class) (sym last) ∙ call)))
          (Contains-push found member))
          (λ before. Contains-append_left found (member ∷ []) other (are.whole index other start before call))
          (eq-or-lt_of_le (omega (arith, below))));
    }

    -- one more statement calls no method on `this`
    pub calls_kept : {end : ℕ} {found : List ℕ} (after : List ℕ) → AreCallsBefore source class first end found
        → None ≡ call_of source class end → after ≡ found → AreCallsBefore source class first (end + 1) after
    calls_kept {end} {found} after are is same = record {
      sound = λ other has. later (are.sound other (subst (λ (xs : List ℕ). Contains xs other) same has));
      whole = λ index other start below call. ⊎_elim
          (λ last. absurd (none-some other (is ∙ (ap (call_of source class) (sym last) ∙ call))))
          (λ before. subst (λ (xs : List ℕ). Contains xs other) (sym same) (are.whole index other start before call))
          (eq-or-lt_of_le (omega (arith, below)));
    }

    -- all statements were looked at
    pub calls_done : {end : ℕ} {found : List ℕ} (count : ℕ) → AreCallsBefore source class first end found
        → all_statements source ≤ table_limit → end ≤ first + count
        → ((index : ℕ) → index < first + count → index ≤ table_limit → index < end)
        → AreCallsWithin source class first count found
    calls_done {end} {found} count are few within reached = record {
      each = λ other. (
        λ has. let call = are.sound other has in
            found_at first count call.index other (slice_get (program_points source) call.index) refl call.from
            (omega (arith, call.below)) (sym (call_of-point call.index) ∙ call.calls),
        λ call. let there = slice_get_within (program_points source) call.index call.point call.there in
            are.whole call.index other call.from
            (reached call.index call.below (omega (arith, there, length-program_points source))) (reported_at call),
      );
    }

-- where no list has a number, no edge leads from a node
no_successors : (rows : List (Vec ℕ Global)) (node : ℕ)
    → list_all (λ (row : Vec ℕ Global). nat_eq (vec_len row) 0) rows ≡ true → successors (graph_of rows) node ≡ []
no_successors [] node all = refl
no_successors (row ∷ rows) zero all =
    let parts =
    and_parts (nat_eq (vec_len row) 0) (list_all (λ (one : Vec ℕ Global). nat_eq (vec_len one) 0) rows) all in
    nil_from_length row.items (sym row.ok.0 ∙ eqb-true (vec_len row) 0 parts.0)
no_successors (row ∷ rows) (suc node) all =
    no_successors rows node
    (and_parts (nat_eq (vec_len row) 0) (list_all (λ (one : Vec ℕ Global). nat_eq (vec_len one) 0) rows) all).1

-- from a node without an edge nothing is reached
none_within : (steps : ℕ) (graph : Graph) (node goal : ℕ) → successors graph node ≡ []
    → false ≡ reaches_within steps graph node goal
unfolding reaches_within
none_within zero graph node goal none = refl
none_within (suc steps) graph node goal none =
    ap (list_any (λ next. nat_eq next goal || reaches_within steps graph next goal)) (sym none)

-- Where no list has a number, nothing is reached.
pub none_reached : (rows : List (Vec ℕ Global)) (none : Bool)
    → none ≡ list_all (λ (row : Vec ℕ Global). nat_eq (vec_len row) 0) rows → none ≡ true → (one other : ℕ)
    → false ≡ reaches (graph_of rows) one other
none_reached rows none is holds one other =
    none_within (length (graph_of rows)) (graph_of rows) one other (no_successors rows one (sym is ∙ holds))
