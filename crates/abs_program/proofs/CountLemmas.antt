-- Counts of statements, and of those in the bodies of loops: of two parts together, and of the items of a list one by
-- one.
use Rattle.std.proofs.Common.{◌≡◌, ℕ, ◌+◌, ◌<◌, ◌≤◌, List, [], ◌∷◌, ◌++◌, arith, refl, sym, ap, ◌∙◌, length, get_or, drop, map, append_assoc}
use Rattle.std.proofs.lemmas.List.{append-nil, drop_all}
use Rattle.abs_program.specs.MadeInstructions.{loop_sizes, loop_sizes_of, member_loops, decl_loops, Counts}
use Rattle.abs_tree.specs.Syntax.{Name, MemberTree, FieldTree, MethodTree, DeclTree, DataTree, FunctionTree, InterfaceTree, ClassTree}
use Rattle.abs_tree.specs.SyntaxSizes.{count_of, statement_count, member_statements, decl_statements}
use Rattle.abs_tree.specs.SyntaxViews.{statement, statements, member_tree, decl_tree}
use Rattle.abs_tree.specs.declared.syntax.declaration.Decl.{Decl}
use Rattle.abs_tree.specs.declared.syntax.declaration.Member.{Member}
use Rattle.abs_tree.specs.declared.syntax.statement.Stmt.{Stmt}
use Rattle.list_facts.proofs.AddedLemmas.{AddedToSoFar, added_to_step, added_to_done}
use Rattle.list_facts.proofs.EntryLemmas.{drop_item}

-- the counts of two parts, one after the other, are those of both
pub counts_both : {size other_size count other : ℕ} {sizes other_sizes old between new : List ℕ}
    → Counts size sizes count old between → Counts other_size other_sizes other between new
    → Counts (size + other_size) (sizes ++ other_sizes) (count + other) old new
counts_both {sizes = sizes} {other_sizes = other_sizes} {old = old} first second = record {
  count_is = omega (arith, first.count_is, second.count_is);
  loops_are =
      second.loops_are
      ∙ (ap (λ (loops : List ℕ). loops ++ other_sizes) first.loops_are ∙ append_assoc old sizes other_sizes);
}

-- a statement that has an index counts one more than those in it
pub counts_own : {size count : ℕ} {sizes old new : List ℕ} → Counts size sizes count old new
    → Counts (1 + size) sizes (1 + count) old new
counts_own inside = record { count_is = ap (λ (n : ℕ). 1 + n) inside.count_is; loops_are = inside.loops_are }

-- so does a loop, and the size of its body is added after those in it
pub counts_loop : {size count : ℕ} {sizes old between new : List ℕ} → Counts size sizes count old between
    → new ≡ between ++ count ∷ [] → Counts (1 + size) (sizes ++ size ∷ []) (1 + count) old new
counts_loop {size = size} {count = count} {sizes = sizes} {old = old} inside added = record {
  count_is = ap (λ (n : ℕ). 1 + n) inside.count_is;
  loops_are =
      added
      ∙ (ap (λ (loops : List ℕ). loops ++ count ∷ []) inside.loops_are
      ∙ (ap (λ (n : ℕ). (old ++ sizes) ++ n ∷ []) inside.count_is ∙ append_assoc old sizes (size ∷ [])));
}

-- what is alone counts as itself
pub counts_alone : {size count : ℕ} {sizes old new : List ℕ} → Counts size sizes count old new
    → Counts (size + 0) (sizes ++ []) count old new
counts_alone {sizes = sizes} {old = old} counts = record {
  count_is = omega (arith, counts.count_is);
  loops_are = counts.loops_are ∙ ap (λ (more : List ℕ). old ++ more) (sym (append-nil sizes));
}

-- the statements of members are those of the first one and of the others
pub member_statements-next : (first : MemberTree) (others : List MemberTree)
    → member_statements (first ∷ others) ≡ member_statements (first ∷ []) + member_statements others
member_statements-next (FieldTree type name initial) others = omega arith
member_statements-next (MethodTree signature end body) others = omega arith

-- so are their loops
pub member_loops-next : (first : MemberTree) (others : List MemberTree)
    → member_loops (first ∷ others) ≡ member_loops (first ∷ []) ++ member_loops others
member_loops-next (FieldTree type name initial) others = refl
member_loops-next (MethodTree signature end body) others =
    ap (λ (sizes : List ℕ). sizes ++ member_loops others) (sym (append-nil (loop_sizes body)))

-- and those of declarations
pub decl_statements-next : (first : DeclTree) (others : List DeclTree)
    → decl_statements (first ∷ others) ≡ decl_statements (first ∷ []) + decl_statements others
decl_statements-next (DataTree place name type_params constructors) others = omega arith
decl_statements-next (FunctionTree place result name type_params params value) others = omega arith
decl_statements-next (InterfaceTree place name extended signatures) others = omega arith
decl_statements-next (ClassTree place name params implemented members) others = omega arith

pub decl_loops-next : (first : DeclTree) (others : List DeclTree)
    → decl_loops (first ∷ others) ≡ decl_loops (first ∷ []) ++ decl_loops others
decl_loops-next (DataTree place name type_params constructors) others = refl
decl_loops-next (FunctionTree place result name type_params params value) others = refl
decl_loops-next (InterfaceTree place name extended signatures) others = refl
decl_loops-next (ClassTree place name params implemented members) others =
    ap (λ (sizes : List ℕ). sizes ++ decl_loops others) (sym (append-nil (member_loops members)))

-- The sizes of a list are those of its items together.
pub record Adds {A : Type 0} (size : List A → ℕ) (sizes : List A → List ℕ) (own : A → ℕ) (own_sizes : A → List ℕ)
    : Type 0 where
  pub none : size [] ≡ 0
  pub none_sizes : sizes [] ≡ []
  pub next : (first : A) (others : List A) → size (first ∷ others) ≡ own first + size others
  pub next_sizes : (first : A) (others : List A) → sizes (first ∷ others) ≡ own_sizes first ++ sizes others

-- those of statements are
pub statements_add : (names : List Name)
    → Adds (λ (stmts : List Stmt). statement_count (statements names stmts))
    (λ stmts. loop_sizes (statements names stmts)) (λ stmt. count_of (statement names stmt))
    (λ stmt. loop_sizes_of (statement names stmt))
statements_add names = record {
  none = refl;
  none_sizes = refl;
  next = λ first others. refl;
  next_sizes = λ first others. refl;
}

-- so are those of members
pub members_add : (names : List Name)
    → Adds (λ (members : List Member). member_statements (map (member_tree names) members))
    (λ members. member_loops (map (member_tree names) members))
    (λ member. member_statements (member_tree names member ∷ []))
    (λ member. member_loops (member_tree names member ∷ []))
members_add names = record {
  none = refl;
  none_sizes = refl;
  next = λ first others. member_statements-next (member_tree names first) (map (member_tree names) others);
  next_sizes = λ first others. member_loops-next (member_tree names first) (map (member_tree names) others);
}

-- and of declarations
pub decls_add : (names : List Name)
    → Adds (λ (decls : List Decl). decl_statements (map (decl_tree names) decls))
    (λ decls. decl_loops (map (decl_tree names) decls)) (λ decl. decl_statements (decl_tree names decl ∷ []))
    (λ decl. decl_loops (decl_tree names decl ∷ []))
decls_add names = record {
  none = refl;
  none_sizes = refl;
  next = λ first others. decl_statements-next (decl_tree names first) (map (decl_tree names) others);
  next_sizes = λ first others. decl_loops-next (decl_tree names first) (map (decl_tree names) others);
}

-- the size of two lists together
pub size-append : {A : Type 0} {size : List A → ℕ} {sizes : List A → List ℕ} {own : A → ℕ} {own_sizes : A → List ℕ}
    → Adds size sizes own own_sizes → (one other : List A) → size (one ++ other) ≡ size one + size other
size-append adds [] other = omega (arith, adds.none)
size-append adds (first ∷ others) other =
    omega (arith, adds.next first (others ++ other), adds.next first others, size-append adds others other)

pub sizes-append : {A : Type 0} {size : List A → ℕ} {sizes : List A → List ℕ} {own : A → ℕ} {own_sizes : A → List ℕ}
    → Adds size sizes own own_sizes → (one other : List A) → sizes (one ++ other) ≡ sizes one ++ sizes other
sizes-append {sizes = sizes} adds [] other = ap (λ (none : List ℕ). none ++ sizes other) (sym adds.none_sizes)
sizes-append {sizes = sizes} {own_sizes = own_sizes} adds (first ∷ others) other =
    adds.next_sizes first (others ++ other)
    ∙ (ap (λ (more : List ℕ). own_sizes first ++ more) (sizes-append adds others other)
    ∙ (sym (append_assoc (own_sizes first) (sizes others) (sizes other))
    ∙ ap (λ (all : List ℕ). all ++ sizes other) (sym (adds.next_sizes first others))))

-- The items before an index were counted. With the others they make all.
pub record CountedSoFar {A : Type 0} (size : List A → ℕ) (sizes : List A → List ℕ) (items : List A) (index count : ℕ)
    (old new : List ℕ) : Type 0 where
  pub count_so_far : count + size (drop index items) ≡ size items
  pub loops_so_far : AddedToSoFar sizes old items index new

-- with the next item they are no more than all
pub next_fits : {A : Type 0} {size : List A → ℕ} {sizes : List A → List ℕ} {own : A → ℕ} {own_sizes : A → List ℕ}
    {items : List A} {index count : ℕ} {old new : List ℕ} (item : A) → Adds size sizes own own_sizes
    → CountedSoFar size sizes items index count old new → index < length items → item ≡ get_or items index item
    → count + own item ≤ size items
next_fits {size = size} {items = items} {index = index} item adds counted there is =
    let rest = drop (index + 1) items in
    omega (arith, counted.count_so_far, ap size (drop_item items index item there is), adds.next item rest)

-- one more item was counted
pub counted_step : {A : Type 0} {size : List A → ℕ} {sizes : List A → List ℕ} {own : A → ℕ} {own_sizes : A → List ℕ}
    {items : List A} {index count one : ℕ} {old between new : List ℕ} (item : A) → Adds size sizes own own_sizes
    → CountedSoFar size sizes items index count old between → index < length items → item ≡ get_or items index item
    → Counts (own item) (own_sizes item) one between new
    → CountedSoFar size sizes items (index + 1) (count + one) old new
counted_step {size = size} {own_sizes = own_sizes} {items = items} {index = index} item adds counted there is counts =
    record {
      count_so_far =
          let rest = drop (index + 1) items in
          omega (
            arith,
            counted.count_so_far,
            counts.count_is,
            ap size (drop_item items index item there is),
            adds.next item rest,
          );
      loops_so_far = added_to_step item (own_sizes item) counted.loops_so_far there is counts.loops_are
          (adds.next_sizes item);
    }

-- all items were counted
pub counted_done : {A : Type 0} {size : List A → ℕ} {sizes : List A → List ℕ} {own : A → ℕ} {own_sizes : A → List ℕ}
    {items : List A} {index count : ℕ} {old new : List ℕ} → Adds size sizes own own_sizes
    → CountedSoFar size sizes items index count old new → length items ≤ index
    → Counts (size items) (sizes items) count old new
counted_done {size = size} {items = items} {index = index} adds counted over = record {
  count_is = omega (arith, counted.count_so_far, ap size (drop_all index items over), adds.none);
  loops_are = added_to_done counted.loops_so_far over adds.none_sizes;
}
