-- The entries of the table of methods, and how they grow.
use Rattle.std.proofs.Common.{◌≡◌, ℕ, ◌+◌, ◌<◌, ◌≤◌, Bool, true, false, ◌&&◌, cond, List, [], ◌∷◌, Some, None, inl, inr, refl, sym, ap, ◌∙◌, subst, length, get_or, drop, map, arith, nat_eq, true≢false}
use Rattle.std.specs.Map.{lookup}
use Rattle.std.specs.Option.{option_or, is_some}
use Rattle.std.specs.Prelude.{Option, option_map, option_and_then, if◌then◌else◌}
use Rattle.std.specs.Str.{bytes_eq}
use Rattle.std.proofs.lemmas.Bool.{and_parts}
use Rattle.std.proofs.lemmas.Bool.Decides.{Decides-eqb, eqb_tells, leb_tells}
use Rattle.std.proofs.lemmas.Cmp.{nat_eq_equiv}
use Rattle.std.proofs.lemmas.List.{drop_all}
use Rattle.std.proofs.lemmas.Option.{slice_get-map, slice_get_past, slice_get_read}
use Rattle.std.proofs.lemmas.Slice.Eq.{bytes_eq-Decides}
use Rattle.abs_tree.proofs.NumberLemmas.{numbers_tell_names}
use Rattle.abs_program.specs.KeptMembers.{is_key, method_at}
use Rattle.abs_program.specs.Members.{method_among, method_in, method_of}
use Rattle.abs_program.specs.MethodEntries.{EntryAdded, MethodsAdded}
use Rattle.abs_tree.specs.Names.{name_of, number_of_name}
use Rattle.abs_tree.specs.Syntax.{Name, MemberTree, FieldTree, MethodTree}
use Rattle.abs_tree.specs.SyntaxViews.{member_tree, decl_tree}
use Rattle.abs_program.specs.TableFacts.{AreMethods}
use Rattle.abs_tree.specs.declared.symbol.Symbol.{Symbol}
use Rattle.abs_tree.specs.declared.syntax.declaration.Body.{Body}
use Rattle.abs_tree.specs.declared.syntax.declaration.Decl.{Decl}
use Rattle.abs_tree.specs.declared.syntax.declaration.Member.{Member}
use Rattle.abs_tree.specs.declared.syntax.declaration.Member.TheVariants.{Method}
use Rattle.abs_tree.specs.declared.syntax.declaration.Signature.{Signature}
use Rattle.abs_program.specs.declared.tables.methods.MethodKey.{MethodKey}
use Rattle.abs_program.specs.declared.tables.methods.Methods.{Methods}
use Rattle.list_facts.proofs.EntryLemmas.{drop_item}
use Rattle.list_facts.proofs.OptionLemmas.{is_some-none, option_or-none, option_or-assoc}

-- what is found, if a test holds
abbrev when : Bool → Option ℕ → Option ℕ
when b found = if b then found else None

when_none : (b : Bool) → when b None ≡ None
when_none true = refl
when_none false = refl

when_or : (b : Bool) (one two : Option ℕ) → when b (option_or one two) ≡ option_or (when b one) (when b two)
when_or true one two = refl
when_or false one two = refl

when_both : (a b : Bool) (found : Option ℕ) → when (a && b) found ≡ when a (when b found)
when_both true b found = refl
when_both false b found = refl

-- two keys are equal, whichever is looked for
key_symm : (class name other_class other_name : ℕ)
    → (nat_eq class other_class && nat_eq name other_name) ≡ (nat_eq other_class class && nat_eq other_name name)
key_symm class name other_class other_name =
    ap (λ (b : Bool). b && nat_eq name other_name) (nat_eq_equiv.symm class other_class)
    ∙ ap (λ (b : Bool). nat_eq other_class class && b) (nat_eq_equiv.symm name other_name)

-- equal keys find the same
same_key : (key : MethodKey) (class name : ℕ) (entries : List (MethodKey × ℕ)) → is_key class name key ≡ true
    → lookup (is_key class name) entries ≡ lookup (is_key key.class key.name) entries
same_key key class name entries same =
    let parts = and_parts (nat_eq class key.class) (nat_eq name key.name) same in
    let class_is : class ≡ key.class = (Decides-eqb class key.class).0 parts.0 in
    let name_is : name ≡ key.name = (Decides-eqb name key.name).0 parts.1 in
    ap (λ (c : ℕ). lookup (is_key c name) entries) class_is
    ∙ ap (λ (n : ℕ). lookup (is_key key.class n) entries) name_is

-- a key that had no entry is found after one is added
added_at : (key : MethodKey) (index class name : ℕ) (entries : List (MethodKey × ℕ)) (b : Bool)
    → is_key class name key ≡ b → false ≡ is_some (lookup (is_key key.class key.name) entries)
    → cond b (Some index) (lookup (is_key class name) entries)
    ≡ option_or (lookup (is_key class name) entries) (when b (Some index))
added_at key index class name entries true same absent =
    ap (λ (found : Option ℕ). option_or found (Some index))
    (sym (same_key key class name entries same
    ∙ is_some-none (lookup (is_key key.class key.name) entries) (sym absent)))
added_at key index class name entries false same absent = sym (option_or-none (lookup (is_key class name) entries))

pub entry_added : (key : MethodKey) (index : ℕ) (before now : List (MethodKey × ℕ))
    → false ≡ is_some (lookup (is_key key.class key.name) before)
    → ((q : MethodKey) → lookup (is_key q.class q.name) now
    ≡ cond (is_key key.class key.name q) (Some index) (lookup (is_key q.class q.name) before))
    → EntryAdded key index before now
entry_added key index before now absent updated = record {
  finds = λ class name.
      updated (record { class = class; name = name })
      ∙ (ap (λ (b : Bool). cond b (Some index) (lookup (is_key class name) before))
      (key_symm key.class key.name class name)
      ∙ added_at key index class name before (is_key class name key) refl absent);
}

-- a number of a name is that of another one exactly if the names are the same
numbers_test : (names : List Name) (own symbol : Symbol) (b : Bool)
    → bytes_eq (name_of names own) (name_of names symbol) ≡ b
    → nat_eq (number_of_name names (name_of names symbol)) (number_of_name names (name_of names own)) ≡ b
numbers_test names own symbol true same =
    (Decides-eqb (number_of_name names (name_of names symbol)) (number_of_name names (name_of names own))).1
    (ap (number_of_name names) (sym ((bytes_eq-Decides (name_of names own) (name_of names symbol)).0 same)))
numbers_test names own symbol false apart =
    elim (eqb_tells (number_of_name names (name_of names symbol)) (number_of_name names (name_of names own))) [
      | inl equal ↦ absurd (true≢false (sym ((bytes_eq-Decides (name_of names own) (name_of names symbol)).1
          ((numbers_tell_names names own symbol).0 (sym equal.1))) ∙ apart))
      | inr other ↦ other.0
    ]

-- a method was added under the number of its name
method_added : {names : List Name} {before now : List (MethodKey × ℕ)} (signature : Signature) (body : Body)
    (key : MethodKey) (index : ℕ) → key.name ≡ number_of_name names (name_of names signature.name.name)
    → EntryAdded key index before now
    → MethodsAdded names key.class (method_among index (member_tree names (Method signature body) ∷ [])) before now
method_added {names} {before} {now} signature body key index numbered added = record {
  finds = λ other symbol.
      let name = name_of names symbol in
      let own = signature.name.name in
      let number = number_of_name names name in
      let found = lookup (is_key other number) before in
      added.finds other number
      ∙ ap (option_or found) (when_both (nat_eq other key.class) (nat_eq number key.name) (Some index)
      ∙ ap (when (nat_eq other key.class)) (ap (λ (n : ℕ). when (nat_eq number n) (Some index)) numbered
      ∙ ap (λ (b : Bool). when b (Some index))
      (numbers_test names own symbol (bytes_eq (name_of names own) name) refl)));
}

pub member_added : {names : List Name} {before now : List (MethodKey × ℕ)} {member : Member} (signature : Signature)
    (body : Body) (key : MethodKey) (index : ℕ) → member ≡ Method signature body
    → key.name ≡ number_of_name names (name_of names signature.name.name) → EntryAdded key index before now
    → MethodsAdded names key.class (method_among index (member_tree names member ∷ [])) before now
member_added {names} {before} {now} {member} signature body key index is numbered added =
    subst (λ (m : Member). MethodsAdded names key.class (method_among index (member_tree names m ∷ [])) before now)
    (sym is) (method_added signature body key index numbered added)

-- The members of a class before an index were added: with those of the rest all are.
pub record MembersSoFar (names : List Name) (class : ℕ) (members : List Member) (index : ℕ)
    (before now : List (MethodKey × ℕ)) : Type 0 where
  pub so_far : (other : ℕ) (symbol : Symbol)
      → option_or (lookup (is_key other (number_of_name names (name_of names symbol))) now)
      (when (nat_eq other class)
      (method_among index (map (member_tree names) (drop index members)) (name_of names symbol)))
      ≡ option_or (lookup (is_key other (number_of_name names (name_of names symbol))) before)
      (when (nat_eq other class) (method_among 0 (map (member_tree names) members) (name_of names symbol)))

-- no member was added
pub members_start : (names : List Name) (class : ℕ) (members : List Member) (entries : List (MethodKey × ℕ))
    → MembersSoFar names class members 0 entries entries
members_start names class members entries = record { so_far = λ other symbol. refl }

-- the first method of members is that of the first member, or else of the others
either_first : (b : Bool) (index : ℕ) (rest : Option ℕ)
    → (if b then Some index else rest) ≡ option_or (if b then Some index else None) rest
either_first true index rest = refl
either_first false index rest = refl

among_next : (index : ℕ) (member : MemberTree) (others : List MemberTree) (name : Name)
    → method_among index (member ∷ others) name
    ≡ option_or (method_among index (member ∷ []) name) (method_among (index + 1) others name)
among_next index (FieldTree type own initial) others name = refl
among_next index (MethodTree signature end body) others name =
    either_first (bytes_eq signature.name.name name) index (method_among (index + 1) others name)

-- one more member was added
pub members_step : {names : List Name} {class : ℕ} {members : List Member} {index : ℕ}
    {before now after : List (MethodKey × ℕ)} (member : Member) (at : ℕ)
    → MembersSoFar names class members index before now → index < length members
    → member ≡ get_or members index member → at ≡ index
    → MethodsAdded names class (method_among at (member_tree names member ∷ [])) now after
    → MembersSoFar names class members (index + 1) before after
members_step {names} {class} {members} {index} {before} {now} {after} member at h there is same added = record {
  so_far = λ other symbol.
      let name = name_of names symbol in
      let tree = member_tree names in
      let found = lookup (is_key other (number_of_name names name)) now in
      let own = method_among index (tree member ∷ []) name in
      let rest = map tree (drop (index + 1) members) in
      let later = method_among (index + 1) rest name in
      let test = nat_eq other class in
      ap (λ (f : Option ℕ). option_or f (when test later)) (added.finds other symbol
      ∙ ap (λ (i : ℕ). option_or found (when test (method_among i (tree member ∷ []) name))) same)
      ∙ (option_or-assoc found (when test own) (when test later)
      ∙ (ap (option_or found) (sym (when_or test own later)
      ∙ ap (when test) (sym (among_next index (tree member) rest name)))
      ∙ (ap (λ (ms : List Member). option_or found (when test (method_among index (map tree ms) name)))
      (sym (drop_item members index member there is))
      ∙ h.so_far other symbol)));
}

-- all members were added
pub members_done : {names : List Name} {class : ℕ} {members : List Member} {index : ℕ}
    {before now : List (MethodKey × ℕ)} → MembersSoFar names class members index before now → length members ≤ index
    → MethodsAdded names class (method_among 0 (map (member_tree names) members)) before now
members_done {names} {class} {members} {index} {before} {now} h over = record {
  finds = λ other symbol.
      let name = name_of names symbol in
      let found = lookup (is_key other (number_of_name names name)) now in
      let test = nat_eq other class in
      sym (option_or-none found)
      ∙ (ap (option_or found) (sym (when_none test))
      ∙ (ap (λ (ms : List Member). option_or found (when test (method_among index (map (member_tree names) ms) name)))
      (sym (drop_all index members over))
      ∙ h.so_far other symbol));
}

-- The methods of the declarations before an index were added, and no others.
pub record MethodsSoFar (names : List Name) (declarations : List Decl) (index : ℕ) (entries : List (MethodKey × ℕ))
    : Type 0 where
  pub so_far : (class : ℕ) (symbol : Symbol) → class < index
      → lookup (is_key class (number_of_name names (name_of names symbol))) entries
      ≡ method_of (map (decl_tree names) declarations) class (name_of names symbol)
  pub none_later : (class : ℕ) (symbol : Symbol) → index ≤ class
      → lookup (is_key class (number_of_name names (name_of names symbol))) entries ≡ None

-- no declaration was looked at
pub methods_start : {entries : List (MethodKey × ℕ)} (names : List Name) (declarations : List Decl) → entries ≡ []
    → MethodsSoFar names declarations 0 entries
methods_start {entries} names declarations none = record {
  so_far = λ class symbol before. absurd (omega (arith, before));
  none_later = λ class symbol from.
      ap (lookup (is_key class (number_of_name names (name_of names symbol)))) none;
}

-- the methods of the class with an index are those of the declaration there
method_there : (names : List Name) (declarations : List Decl) (index : ℕ) (declaration : Decl) (name : Name)
    → index < length declarations → declaration ≡ get_or declarations index declaration
    → method_of (map (decl_tree names) declarations) index name ≡ method_in (decl_tree names declaration) name
unfolding method_of
method_there names declarations index declaration name there is =
    ap (option_and_then (λ tree. method_in tree name))
    (slice_get-map (decl_tree names) declarations index
    ∙ ap (option_map (decl_tree names)) (slice_get_read declarations (length declarations) index declaration refl there is))

-- an index past the declarations has no methods
method_past : (names : List Name) (declarations : List Decl) (index : ℕ) (name : Name) → length declarations ≤ index
    → method_of (map (decl_tree names) declarations) index name ≡ None
unfolding method_of
method_past names declarations index name past =
    ap (option_and_then (λ tree. method_in tree name))
    (slice_get-map (decl_tree names) declarations index
    ∙ ap (option_map (decl_tree names)) (slice_get_past declarations index past))

-- one more declaration was looked at
pub methods_step : {names : List Name} {declarations : List Decl} {index : ℕ} {entries after : List (MethodKey × ℕ)}
    (declaration : Decl) (class : ℕ) → MethodsSoFar names declarations index entries → index < length declarations
    → declaration ≡ get_or declarations index declaration → class ≡ index
    → MethodsAdded names class (method_in (decl_tree names declaration)) entries after
    → MethodsSoFar names declarations (index + 1) after
methods_step {names} {declarations} {index} {entries} {after} declaration class h there is same added =
    let number = λ (symbol : Symbol). number_of_name names (name_of names symbol) in
    let own = λ (symbol : Symbol). method_in (decl_tree names declaration) (name_of names symbol) in
    let other_stays : (other : ℕ) (symbol : Symbol) → nat_eq other class ≡ false
    → lookup (is_key other (number symbol)) after ≡ lookup (is_key other (number symbol)) entries =
    λ other symbol apart.
    added.finds other symbol
    ∙ (ap (λ (b : Bool). option_or (lookup (is_key other (number symbol)) entries) (when b (own symbol))) apart
    ∙ option_or-none (lookup (is_key other (number symbol)) entries)) in
    record {
      so_far = λ other symbol before. elim (eqb_tells other class) [
        | inl equal ↦ added.finds other symbol
            ∙ (ap (λ (b : Bool). option_or (lookup (is_key other (number symbol)) entries) (when b (own symbol))) equal.0
            ∙ (ap (λ (f : Option ℕ). option_or f (own symbol))
            (h.none_later other symbol (omega (arith, equal.1, same)))
            ∙ (sym (method_there names declarations index declaration (name_of names symbol) there is)
            ∙ ap (λ (i : ℕ). method_of (map (decl_tree names) declarations) i (name_of names symbol))
            (sym (equal.1 ∙ same)))))
        | inr apart ↦ other_stays other symbol apart.0
            ∙ h.so_far other symbol (omega (arith, before, apart.1, same))
      ];
      none_later = λ other symbol from. elim (eqb_tells other class) [
        | inl equal ↦ absurd (omega (arith, equal.1, same, from))
        | inr apart ↦ other_stays other symbol apart.0 ∙ h.none_later other symbol (omega (arith, from))
      ];
    }

-- all declarations were looked at, and so each method is found
pub methods_done : {names : List Name} {declarations : List Decl} {index : ℕ} (methods : Methods)
    → MethodsSoFar names declarations index methods.indices.entries → length declarations ≤ index
    → AreMethods names (map (decl_tree names) declarations) methods
unfolding method_at
methods_done {names} {declarations} {index} methods h over = record {
  finds = λ class symbol. elim (leb_tells index class) [
    | inl after ↦ h.none_later class symbol after.1
        ∙ sym (method_past names declarations class (name_of names symbol) (omega (arith, over, after.1)))
    | inr before ↦ h.so_far class symbol before.1
  ];
}
