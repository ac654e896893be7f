-- Which methods calls on `this` reach, by a graph of the calls.
--
--   `reached_by_graph`     a graph of the calls tells which methods are reached
--   `method_below`         the method of a class is one of its members
use Rattle.std.proofs.Common.{◌≡◌, ℕ, ◌+◌, ◌<◌, Bool, true, false, ◌||◌, List, [], ◌∷◌, Some, refl, sym, ap, ◌∙◌, subst, length, arith, nat_eq, eq-eqb, eqb-true, ⊎_elim}
use Rattle.std.specs.Prelude.{◌↔◌, Option, option_and_then, slice_get, if◌then◌else◌}
use Rattle.std.specs.Str.{bytes_eq}
use Rattle.std.proofs.lemmas.Bool.{or_left, or_right, or_cases}
use Rattle.std.proofs.lemmas.Option.{none-some, same_Some}
use Rattle.abs_graph.proofs.ReachLemmas.{reaches_found, reaches_whole}
use Rattle.abs_graph.specs.Graphs.{Graph, leads, Reaches, reaches}
use Rattle.abs_graph.specs.Graphs.Reaches.{in_one, in_more}
use Rattle.abs_program.specs.Members.{method_among, method_in, method_of}
use Rattle.abs_tree.specs.Syntax.{Name, DeclaredTree, ParamTree, MemberTree, FieldTree, MethodTree, DeclTree, ClassTree, SourceTree}
use Rattle.abs_tree.specs.declared.place.Place.{Place}
use Rattle.contract_terms.specs.OwnCalls.{CallsOnThis, IsReached}
use Rattle.contract_terms.specs.OwnCalls.IsReached.{itself, further}

-- a call before those that lead to a method leads to it too
called_first : {source : SourceTree} {class next other : ℕ} (one : ℕ) → CallsOnThis source class one next
    → IsReached source class next other → IsReached source class one other
called_first {source} {class} one call (itself next) = further one one next (itself one) call
called_first {source} {class} one call (further next between other reached last) =
    further one between other (called_first one call reached) last

-- so does an edge after those that lead to a node
reaches_further : {graph : Graph} {between one : ℕ} (other : ℕ) → Reaches graph between one
    → leads graph between other ≡ true → Reaches graph other one
reaches_further {graph} {between} other (in_one one led) last = in_more one between led (in_one between last)
reaches_further {graph} {between} other (in_more one next led later) last =
    in_more one next led (reaches_further other later last)

module _ (source : SourceTree) (class : ℕ) (graph : Graph)
    (same : (one other : ℕ) → (leads graph one other ≡ true) ↔ CallsOnThis source class one other) where
  -- what the graph reaches is reached by calls
  reached_from : {other one : ℕ} → Reaches graph other one → IsReached source class one other
  reached_from {other} (in_one one led) = further one one other (itself one) ((same one other).0 led)
  reached_from {other} (in_more one next led later) =
      called_first one ((same one next).0 led) (reached_from later)

  -- a node that is another one, or reaches it, has an edge or more to what that one calls
  reaches_called : (one between other : ℕ) → (nat_eq one between || reaches graph one between) ≡ true
      → leads graph between other ≡ true → Reaches graph other one
  reaches_called one between other reported led = ⊎_elim
      (λ equal. in_one one (subst (λ (n : ℕ). leads graph n other ≡ true) (sym (eqb-true one between equal)) led))
      (λ far. reaches_further other (reaches_found graph one between far) led)
      (or_cases (nat_eq one between) (reaches graph one between) reported)

  -- what calls reach is itself, or the graph reaches it
  reported_of : {one other : ℕ} → IsReached source class one other
      → (nat_eq one other || reaches graph one other) ≡ true
  reported_of (itself one) = or_left (nat_eq one one) (reaches graph one one) (eq-eqb one one refl)
  reported_of (further one between other reached call) =
      or_right (nat_eq one other) (reaches graph one other)
      (reaches_whole graph one other
      (reaches_called one between other (reported_of reached) ((same between other).1 call)))

  -- A graph of the calls tells which methods are reached: a method itself, and those that its node reaches.
  pub reached_by_graph : (one other : ℕ)
      → ((nat_eq one other || reaches graph one other) ≡ true) ↔ IsReached source class one other
  reached_by_graph one other = (
    λ reported. ⊎_elim
        (λ equal. subst (IsReached source class one) (eqb-true one other equal) (itself one))
        (λ far. reached_from (reaches_found graph one other far))
        (or_cases (nat_eq one other) (reaches graph one other) reported),
    reported_of,
  )

-- an index that a test chooses is that one, or the one that is found later
chosen_below : (bound index other : ℕ) (is_here : Bool) (later : Option ℕ) → (later ≡ Some other → other < bound)
    → index < bound → (if is_here then Some index else later) ≡ Some other → other < bound
chosen_below bound index other true later below within is =
    subst (λ (n : ℕ). n < bound) (same_Some index other is) within
chosen_below bound index other false later below within is = below is

-- the method that is found among members is one of them
among_below : (index : ℕ) (members : List MemberTree) (method : Name) (other : ℕ)
    → method_among index members method ≡ Some other → other < index + length members
among_below index [] method other is = absurd (none-some other is)
among_below index (FieldTree type name initial ∷ others) method other is =
    omega (arith, among_below (index + 1) others method other is)
among_below index (MethodTree signature end body ∷ others) method other is =
    chosen_below (index + length (MethodTree signature end body ∷ others)) index other
    (bytes_eq signature.name.name method) (method_among (index + 1) others method)
    (λ later. omega (arith, among_below (index + 1) others method other later)) (omega arith) is

-- The method of a class with a name is one of its members.
pub method_below : (declarations : List DeclTree) (class : ℕ) {place : Place} {name : DeclaredTree}
    {params : List ParamTree} {implemented : List DeclaredTree} {members : List MemberTree} (method : Name)
    (other : ℕ) → slice_get declarations class ≡ Some (ClassTree place name params implemented members)
    → method_of declarations class method ≡ Some other → other < length members
unfolding method_of
method_below declarations class {members = members} method other there is =
    let found = ap (option_and_then (λ declaration. method_in declaration method)) there in
    omega (arith, among_below 0 members method other (sym found ∙ is))
