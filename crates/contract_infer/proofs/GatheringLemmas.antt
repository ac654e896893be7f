-- The contracts of classes grow by one member and by one declaration at a time.
--
--   `methods_none`, `methods_field`, `methods_method`      the contracts of no member, and of one more
--   `calls_have_nodes`                                     calls on `this` lead to members
--   `class_gathered`, `other_gathered`                     the contracts of a class, and of another declaration
--   `classes_none`, `classes_more`                         those of no declaration, and of one more
--   `all_gathered`                                         those of a program
use Rattle.std.proofs.Common.{◌≡◌, ℕ, ◌+◌, ◌-◌, ◌<◌, Bool, true, false, ◌||◌, ◌⊎◌, List, [], ◌∷◌, ◌++◌, All, Contains, Some, None, length, map, get_or, nat_eq, arith, refl, sym, ap, ◌∙◌, subst, inl, inr, eq-eqb, eqb-true, ⊎_elim}
use Rattle.std.specs.List.{list_any}
use Rattle.std.specs.Map.{lookup}
use Rattle.std.specs.Prelude.{◌↔◌, Option, slice_get}
use Rattle.std.specs.declared.alloc.Global.{Global}
use Rattle.std.specs.declared.vec.Vec.{Vec}
use Rattle.std.proofs.lemmas.Bool.{cases_eq, cases_lt, or_left, or_cases, false≢true}
use Rattle.std.proofs.lemmas.List.{get_or_append_left, get_or-append_right, length-append, length-map, map-append}
use Rattle.std.proofs.lemmas.List.Folds.{Any-from_list_any, list_any-from_Any}
use Rattle.std.proofs.lemmas.Option.{get_or_from_slice_get, slice_get_past, slice_get_within}
use Rattle.abs_graph.proofs.ReachLemmas.{leads_below}
use Rattle.abs_graph.specs.Graphs.{Graph, HasNodes, leads, reaches}
use Rattle.abs_graph.specs.Views.{graph_of}
use Rattle.abs_program.specs.Bodies.{initials_among}
use Rattle.abs_program.specs.ProgramBodies.{class_body}
use Rattle.abs_tree.specs.Syntax.{Name, TypeTree, Statements, ParamTree, DeclaredTree, MaybeExpr, SignatureTree, MemberTree, FieldTree, MethodTree, DeclTree, DataTree, FunctionTree, InterfaceTree, ClassTree, SourceTree, ProgramTree}
use Rattle.abs_tree.specs.SyntaxSizes.{statement_count, member_statements, decl_statements}
use Rattle.abs_tree.specs.declared.place.Place.{Place}
use Rattle.list_facts.proofs.AllLemmas.{All-from_slice_get}
use Rattle.list_facts.proofs.EntryLemmas.{slice_get-before, slice_get-after}
use Rattle.contract_infer.proofs.BodyPlaceLemmas.{IsClass, class_start_more, method_start_more, class_end, context_of_method, context_of_field, body_of_field, context_past_members, body_past_members, calls_of_method, calls_none, context_of_other, context_past}
use Rattle.contract_infer.proofs.ReachedLemmas.{reached_by_graph, method_below}
use Rattle.contract_infer.specs.CallsWithin.{AreCallsWithin}
use Rattle.contract_infer.specs.ClassViews.{class_start, method_start, method_of_class, calls_at, IsClassThere, AreMethodsSoFar, IsDeclarationContract, IsGathered, AreClassesSoFar}
use Rattle.contract_infer.specs.SettledRows.{rows_of}
use Rattle.contract_infer.specs.declared.classes.Declaration.{Declaration}
use Rattle.contract_infer.specs.declared.classes.Methods.{Methods}
use Rattle.contract_terms.specs.Accepts.{accepts_in}
use Rattle.contract_terms.specs.BodyContexts.{class_types, main_context, method_context}
use Rattle.contract_terms.specs.Made.{classes_made}
use Rattle.contract_terms.specs.OwnCalls.{CallsOnThis, IsReached}
use Rattle.contract_terms.specs.OwnCalls.IsReached.{itself, further}
use Rattle.contract_terms.specs.ProgramTerms.{IsClassAt, IsMethodAt, IsMethodContract, AreTermsOf}
use Rattle.contract_terms.specs.Reading.{AreReads}
use Rattle.contract_terms.specs.Terms.{AreTerms}
use Rattle.contract_terms.specs.Views.{accepts_tree, class_in, class_names, leads_to, made_in, main_in, method_if, method_in, method_tree, reached_in, reads_tree, term_tree}
use Rattle.contract_terms.specs.declared.term.ClassTerms.{ClassTerms}
use Rattle.contract_terms.specs.declared.term.MethodTerms.{MethodTerms}
use Rattle.contract_terms.specs.declared.terms.Terms.{Terms}

-- what is there in a list with one more item: below it what was there, and then the item
slice_get-one_more : {A : Type 0} (list : List A) (last : A) (index : ℕ) → index < length list + 1
    → ((index < length list) × (slice_get (list ++ last ∷ []) index ≡ slice_get list index))
    ⊎ ((index ≡ length list) × (slice_get (list ++ last ∷ []) index ≡ Some last))
slice_get-one_more list last index within = elim (cases_eq index (length list)) [
  | inl is ↦ inr (is, slice_get-after list (last ∷ []) index 0 (omega (arith, is)))
  | inr other ↦
      let below : index < length list = omega (arith, within, other) in
      inl (below, slice_get-before list (last ∷ []) index below)
]

-- the same of the numbers that a list has at an index
numbers-one_more : (list : List (List ℕ)) (last : List ℕ) (index : ℕ) → index < length list + 1
    → ((index < length list) × (get_or (list ++ last ∷ []) index [] ≡ get_or list index []))
    ⊎ ((index ≡ length list) × (get_or (list ++ last ∷ []) index [] ≡ last))
numbers-one_more list last index within = elim (cases_eq index (length list)) [
  | inl is ↦
      let first : index - length list ≡ 0 = omega (arith, is) in
      inr (
        is,
        get_or-append_right list (last ∷ []) (length list) index [] refl (omega (arith, is))
            ∙ ap (λ (n : ℕ). get_or (last ∷ []) n []) first,
      )
  | inr other ↦
      let below : index < length list = omega (arith, within, other) in
      inl (below, get_or_append_left list (last ∷ []) [] index below)
]

module _ (source : SourceTree) (names : List Name) (class : ℕ) (members : List MemberTree) where
  -- Of no member there is no contract.
  pub methods_none : (methods : Methods) → methods.contracts.items ≡ [] → methods.calls.items ≡ []
      → class_start source class ≡ methods.next → AreMethodsSoFar source names class members 0 methods
  methods_none methods contracts calls next = record {
    count = ap length contracts;
    calls_count = ap length calls;
    next = sym next ∙ omega arith;
    contracts = λ member below. absurd (omega (arith, below));
    calls = λ member below. absurd (omega (arith, below));
  }

  -- One more member has its contract, and what it calls on `this`.
  pub methods_more : (passed : ℕ) (one : MemberTree) (old new : Methods) (contract : Option MethodTerms)
      (calls : Vec ℕ Global) → slice_get members passed ≡ Some one
      → new.contracts.items ≡ old.contracts.items ++ contract ∷ [] → new.calls.items ≡ old.calls.items ++ calls ∷ []
      → new.next ≡ old.next + member_statements (one ∷ [])
      → IsMethodAt source (method_context source.declarations class passed) (method_if names (Some contract))
      → ((other : ℕ) → Contains calls.items other ↔ CallsOnThis source class passed other)
      → AreMethodsSoFar source names class members passed old
      → AreMethodsSoFar source names class members (passed + 1) new
  methods_more passed one old new contract calls there contracts_are calls_are next contract_is calls_is so_far =
      let rows : rows_of new.calls.items ≡ rows_of old.calls.items ++ calls.items ∷ [] =
      ap rows_of calls_are ∙ map-append (λ (row : Vec ℕ Global). row.items) old.calls.items (calls ∷ []) in
      let rows_count : length (rows_of old.calls.items) ≡ passed =
      length-map old.calls.items (λ (row : Vec ℕ Global). row.items) ∙ so_far.calls_count in
      record {
        count = ap length contracts_are ∙ (length-append old.contracts.items (contract ∷ []) ∙ omega (arith, so_far.count));
        calls_count = ap length calls_are ∙ (length-append old.calls.items (calls ∷ []) ∙ omega (arith, so_far.calls_count));
        next = next ∙ omega (arith, so_far.next, method_start_more source class members passed one there);
        contracts = λ member below.
            elim (slice_get-one_more old.contracts.items contract member (omega (arith, below, so_far.count))) [
              | inl earlier ↦
                  subst (λ found. IsMethodAt source (method_context source.declarations class member)
                  (method_if names found)) (sym (ap (λ list. slice_get list member) contracts_are ∙ earlier.1))
                  (so_far.contracts member (omega (arith, earlier.0, so_far.count)))
              | inr last ↦
                  subst (λ (n : ℕ). IsMethodAt source (method_context source.declarations class n)
                  (method_if names (slice_get new.contracts.items member))) (sym (last.0 ∙ so_far.count))
                  (subst (λ found. IsMethodAt source (method_context source.declarations class passed)
                  (method_if names found)) (sym (ap (λ list. slice_get list member) contracts_are ∙ last.1))
                  contract_is)
            ];
        calls = λ member below other.
            elim (numbers-one_more (rows_of old.calls.items) calls.items member (omega (arith, below, rows_count))) [
              | inl earlier ↦
                  subst (λ row. Contains row other ↔ CallsOnThis source class member other)
                  (sym (ap (λ list. get_or list member []) rows ∙ earlier.1))
                  (so_far.calls member (omega (arith, earlier.0, rows_count)) other)
              | inr last ↦
                  subst (λ (n : ℕ). Contains (calls_at new member) other ↔ CallsOnThis source class n other)
                  (sym (last.0 ∙ rows_count))
                  (subst (λ row. Contains row other ↔ CallsOnThis source class passed other)
                  (sym (ap (λ list. get_or list member []) rows ∙ last.1)) (calls_is other))
            ];
      }

module _ (source : SourceTree) (names : List Name) (class : ℕ) (name : Name) (params : List ParamTree)
    (members : List MemberTree) (there : IsClassThere source class name params members) where
  -- One more field has no contract.
  pub methods_field : (passed : ℕ) (type : TypeTree) (declared : DeclaredTree) (initial : MaybeExpr) (old new : Methods)
      (calls : Vec ℕ Global) → slice_get members passed ≡ Some (FieldTree type declared initial)
      → new.contracts.items ≡ old.contracts.items ++ None ∷ [] → new.calls.items ≡ old.calls.items ++ calls ∷ []
      → new.next ≡ old.next → calls.items ≡ [] → AreMethodsSoFar source names class members passed old
      → AreMethodsSoFar source names class members (passed + 1) new
  methods_field passed type declared initial old new calls is contracts_are calls_are next none so_far =
      let no_context = context_of_field source class name params members there passed type declared initial is in
      let no_body = body_of_field source class name params members there passed type declared initial is in
      methods_more source names class members passed (FieldTree type declared initial) old new None calls is
      contracts_are calls_are (next ∙ omega arith) (rw no_context tt)
      (λ other. (
        λ has. absurd (omega (arith, (subst (λ list. Contains list other) none has).1)),
        λ own. absurd (calls_none source class passed other no_body own),
      )) so_far

  -- One more method has its contract.
  pub methods_method : (passed : ℕ) (signature : SignatureTree) (end : Place) (statements : Statements)
      (old new : Methods) (contract : MethodTerms) (calls : Vec ℕ Global) (first count : ℕ)
      → slice_get members passed ≡ Some (MethodTree signature end statements)
      → new.contracts.items ≡ old.contracts.items ++ Some contract ∷ [] → new.calls.items ≡ old.calls.items ++ calls ∷ []
      → new.next ≡ first + count → first ≡ old.next → count ≡ statement_count statements
      → IsMethodContract source
      (method_of_class class name (class_types params members) first signature statements) (method_tree names contract)
      → AreCallsWithin source class first count calls.items → AreMethodsSoFar source names class members passed old
      → AreMethodsSoFar source names class members (passed + 1) new
  methods_method passed signature end statements old new contract calls first count is contracts_are calls_are next
      first_is count_is contract_is calls_is so_far =
      let start : first ≡ method_start source class members passed = first_is ∙ so_far.next in
      let context = context_of_method source class name params members there passed signature end statements is in
      let within = subst (λ (n : ℕ). AreCallsWithin source class n count calls.items) start calls_is in
      let counted = subst (λ (n : ℕ). AreCallsWithin source class (method_start source class members passed) n calls.items)
      count_is within in
      methods_more source names class members passed (MethodTree signature end statements) old new (Some contract) calls is
      contracts_are calls_are (omega (arith, next, first_is, count_is))
      (rw context (subst (λ (n : ℕ). IsMethodContract source
      (method_of_class class name (class_types params members) n signature statements) (method_tree names contract)) start
      contract_is))
      (λ other. let own = calls_of_method source class name params members there passed signature end statements other is
      in (λ has. own.0 ((counted.each other).0 has), λ one. (counted.each other).1 (own.1 one))) so_far

-- a number is in a list exactly if a test finds it
listed_contains : (numbers : List ℕ) (number : ℕ)
    → (list_any (λ other. nat_eq other number) numbers ≡ true) ↔ Contains numbers number
listed_contains numbers number = (
  λ listed. let found = Any-from_list_any (λ other. nat_eq other number) numbers listed in
      subst (Contains numbers) (eqb-true found.1 number found.4) (found.0, found.2, found.3),
  λ has. list_any-from_Any (λ other. nat_eq other number) numbers
      (has.0, number, has.1, has.2, eq-eqb number number refl),
)

module _ (source : SourceTree) (names : List Name) (class : ℕ) (name : Name) (params : List ParamTree)
    (members : List MemberTree) (there : IsClassThere source class name params members) (methods : Methods)
    (are : AreMethodsSoFar source names class members (length members) methods) where
  -- the graph of calls on `this`
  abbrev calls_graph : Graph
  calls_graph = graph_of methods.calls.items

  -- an edge of the graph is a call on `this`
  edges_are_calls : (one other : ℕ) → (leads calls_graph one other ≡ true) ↔ CallsOnThis source class one other
  edges_are_calls one other =
      let listed = listed_contains (calls_at methods one) other in
      let count : length calls_graph ≡ length members =
      length-map methods.calls.items (λ (row : Vec ℕ Global). row.items) ∙ are.calls_count in
      elim (cases_lt one (length members)) [
        | inl below ↦
            let own = are.calls one below other in
            (λ leads_there. own.0 (listed.0 leads_there), λ calls. listed.1 (own.1 calls))
        | inr past ↦ (
          λ leads_there. absurd (omega (arith, past, count, leads_below calls_graph one other leads_there)),
          λ calls. absurd (calls_none source class one other (body_past_members source class name params members there
              one (slice_get_past members one past)) calls),
        )
      ]

  -- Calls on `this` lead to members.
  pub calls_have_nodes : HasNodes calls_graph
  calls_have_nodes = All-from_slice_get (λ (row : List ℕ). All (λ (node : ℕ). node < length calls_graph) row) calls_graph
      (λ one row row_is. All-from_slice_get (λ (node : ℕ). node < length calls_graph) row
      (λ index node node_is.
      let count : length calls_graph ≡ length members =
      length-map methods.calls.items (λ (it : Vec ℕ Global). it.items) ∙ are.calls_count in
      let below : one < length members = omega (arith, count, slice_get_within calls_graph one row row_is) in
      let same : calls_at methods one ≡ row = get_or_from_slice_get calls_graph one row [] row_is in
      let within = slice_get_within row index node node_is in
      let has : Contains (calls_at methods one) node = subst (λ list. Contains list node) (sym same)
      (index, within, get_or_from_slice_get row index node node node_is) in
      let call = (are.calls one below node).0 has in
      omega (arith, count, method_below source.declarations class call.method node there.there call.method_is)))

  -- These are the contracts of the class.
  pub class_gathered : (found : ClassTerms)
      → map (accepts_tree names) found.fields.items ≡ map (accepts_in source.declarations) (class_types params members)
      → AreReads (initials_among members) (map reads_tree found.initials.items)
      → found.methods ≡ methods.contracts
      → ((one other : ℕ) → leads_to one other found.calls ≡ reaches calls_graph one other)
      → IsGathered source names class (record { found = Some found; next = methods.next })
  class_gathered found fields initials methods_are calls = record {
    contract = record {
      contract = rw there.there (record { fields = fields; initials = initials });
      methods = λ member. elim (cases_lt member (length members)) [
        | inl below ↦
            subst (λ list. IsMethodAt source (method_context source.declarations class member)
            (method_if names (slice_get list member))) (sym (ap (λ (it : Vec (Option MethodTerms) Global). it.items)
            methods_are)) (are.contracts member below)
        | inr past ↦
            rw (
              context_past_members source class name params members there member (slice_get_past members member past),
              ap (λ (it : Vec (Option MethodTerms) Global). it.items) methods_are,
              slice_get_past methods.contracts.items member (omega (arith, past, are.count)),
            ) tt
      ];
      reached = λ one other.
          let known = reached_by_graph source class calls_graph edges_are_calls one other in
          subst (λ (b : Bool). ((nat_eq one other || b) ≡ true) ↔ IsReached source class one other)
          (sym (calls one other)) known;
    };
    next = class_end source class name params members (length members) there refl ∙ sym are.next;
  }

-- what is found where there is no class
data IsNothing : Option (Option ClassTerms) → Type 0 where
  Past : IsNothing None
  NoClass : IsNothing (Some None)

-- only itself is reached where there is no body
reached_itself : (source : SourceTree) (class one other : ℕ)
    → ((member : ℕ) → class_body 0 source.declarations class member ≡ None) → IsReached source class one other
    → one ≡ other
reached_itself source class _ _ none (itself one) = refl
reached_itself source class _ _ none (further one between other reached call) =
    absurd (calls_none source class between other (none between) call)

-- so a test for the method itself tells what is reached
itself_alone : (source : SourceTree) (class one other : ℕ)
    → ((member : ℕ) → class_body 0 source.declarations class member ≡ None)
    → ((nat_eq one other || false) ≡ true) ↔ IsReached source class one other
itself_alone source class one other none = (
  λ same. subst (λ (n : ℕ). IsReached source class one n)
      (eqb-true one other (⊎_elim (λ is. is) (λ wrong. absurd (false≢true wrong)) (or_cases (nat_eq one other) false same)))
      (itself one),
  λ reached. or_left (nat_eq one other) false (eq-eqb one other (reached_itself source class one other none reached)),
)

-- where there is no class there are no contracts
no_class : (source : SourceTree) (names : List Name) (class : ℕ) (found : Option (Option ClassTerms)) → IsNothing found
    → IsClassAt source (slice_get source.declarations class) None
    → ((member : ℕ) → (method_context source.declarations class member ≡ None)
    × (class_body 0 source.declarations class member ≡ None)) → IsDeclarationContract source names class found
no_class source names class None Past is nothing = record {
  contract = is;
  methods = λ member. rw (nothing member).0 tt;
  reached = λ one other. itself_alone source class one other (λ member. (nothing member).1);
}
no_class source names class (Some None) NoClass is nothing = record {
  contract = is;
  methods = λ member. rw (nothing member).0 tt;
  reached = λ one other. itself_alone source class one other (λ member. (nothing member).1);
}
no_class source names class (Some (Some found)) never is nothing = elim never [ ]

-- at such a declaration there is no contract
not_class : (source : SourceTree) (class : ℕ) (one : DeclTree) → slice_get source.declarations class ≡ Some one
    → (IsClass one → ⊥) → IsClassAt source (slice_get source.declarations class) None
not_class source class (ClassTree place name params implemented members) is other = absurd (other tt)
not_class source class (DataTree place name type_params constructors) is other = rw is tt
not_class source class (FunctionTree place result name type_params params value) is other = rw is tt
not_class source class (InterfaceTree place name extended signatures) is other = rw is tt

-- an other declaration has no statements
no_statements : (one : DeclTree) → (IsClass one → ⊥) → decl_statements (one ∷ []) ≡ 0
no_statements (ClassTree place name params implemented members) other = absurd (other tt)
no_statements (DataTree place name type_params constructors) other = refl
no_statements (FunctionTree place result name type_params params value) other = refl
no_statements (InterfaceTree place name extended signatures) other = refl

-- A declaration that is no class has no contracts.
pub other_gathered : (source : SourceTree) (names : List Name) (class : ℕ) (one : DeclTree) (gathered : Declaration)
    → slice_get source.declarations class ≡ Some one → (IsClass one → ⊥) → gathered.found ≡ None
    → class_start source class ≡ gathered.next → IsGathered source names class gathered
other_gathered source names class one gathered is other none start = record {
  contract = subst (λ (found : Option ClassTerms). IsDeclarationContract source names class (Some found)) (sym none)
      (no_class source names class (Some None) NoClass (not_class source class one is other)
      (λ member. context_of_other source class member one is other));
  next = class_start_more source class one is ∙ omega (arith, start, no_statements one other);
}

module _ (source : SourceTree) (names : List Name) where
  -- Of no declaration there are no contracts.
  pub classes_none : AreClassesSoFar source names 0 []
  classes_none = record { count = refl; each = λ class below. absurd (omega (arith, below)) }

  -- One more declaration has its contracts.
  pub classes_more : (passed : ℕ) (old new : List (Option ClassTerms)) (found : Option ClassTerms)
      → new ≡ old ++ found ∷ [] → IsDeclarationContract source names passed (Some found)
      → AreClassesSoFar source names passed old → AreClassesSoFar source names (passed + 1) new
  classes_more passed old new found new_is contract so_far = record {
    count = ap length new_is ∙ (length-append old (found ∷ []) ∙ omega (arith, so_far.count));
    each = λ class below.
        elim (slice_get-one_more old found class (omega (arith, below, so_far.count))) [
          | inl earlier ↦
              subst (IsDeclarationContract source names class)
              (sym (ap (λ list. slice_get list class) new_is ∙ earlier.1))
              (so_far.each class (omega (arith, earlier.0, so_far.count)))
          | inr last ↦
              subst (λ (n : ℕ). IsDeclarationContract source names n (slice_get new class)) (sym (last.0 ∙ so_far.count))
              (subst (IsDeclarationContract source names passed)
              (sym (ap (λ list. slice_get list class) new_is ∙ last.1)) contract)
        ];
  }

  -- At each index there are the contracts of a class, or nothing.
  all_there : (classes : List (Option ClassTerms)) → AreClassesSoFar source names (length source.declarations) classes
      → (class : ℕ) → IsDeclarationContract source names class (slice_get classes class)
  all_there classes are class = elim (cases_lt class (length source.declarations)) [
    | inl below ↦ are.each class below
    | inr over ↦
        let none = slice_get_past source.declarations class over in
        subst (IsDeclarationContract source names class)
        (sym (slice_get_past classes class (omega (arith, over, are.count))))
        (no_class source names class None Past (rw none tt) (λ member. context_past source class member none))
  ]

-- These are the contracts of a program.
pub all_gathered : (program : ProgramTree) (terms : Terms)
    → AreTerms program.source (main_context program.source) (map (term_tree program.names) terms.main.items)
    → AreClassesSoFar program.source program.names (length program.source.declarations) terms.classes.items
    → ((place : ℕ) → class_names program.names (lookup (nat_eq place) terms.made.entries)
    ≡ classes_made program.source place) → AreTermsOf program terms
unfolding main_in class_in method_in reached_in made_in
all_gathered program terms main classes made =
    let there = all_there program.source program.names terms.classes.items classes in
    record {
      main = main;
      classes = λ class. (there class).contract;
      methods = λ class member. (there class).methods member;
      reached = λ class one other. (there class).reached one other;
      made = made;
    }
