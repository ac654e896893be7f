-- Names that were seen, by their numbers, and lists of names of which a part was collected.
use Rattle.std.proofs.Common.{◌≡◌, ℕ, ◌+◌, ◌<◌, ◌≤◌, Bool, true, false, List, [], ◌∷◌, ◌++◌, ◌||◌, sym, ap, ◌∙◌, subst, cond, nat_eq, length, get_or, drop, map, fold, append_assoc, arith}
use Rattle.std.specs.Prelude.{Option}
use Rattle.std.specs.List.{list_any}
use Rattle.std.specs.Str.{bytes_eq}
use Rattle.std.proofs.lemmas.Bool.Decides.{nat_tests}
use Rattle.std.proofs.lemmas.List.{append-nil, drop_all, map-append}
use Rattle.std.proofs.lemmas.List.Folds.{list_any-append}
use Rattle.std.proofs.lemmas.List.Sums.{fold-append}
use Rattle.std.proofs.lemmas.Slice.Eq.{bytes_eq-Decides}
use Rattle.indexmap.specs.IndexSet.{insert_key}
use Rattle.abs_tree.proofs.NumberLemmas.{numbers_tell_names}
use Rattle.abs_tree.specs.Names.{with_name, number_of_name, name_of}
use Rattle.abs_tree.specs.Offences.{earlier}
use Rattle.abs_tree.specs.Syntax.{Name, DeclaredTree}
use Rattle.abs_tree.specs.SyntaxViews.{declared}
use Rattle.abs_tree.specs.declared.refusal.Offence.{Offence}
use Rattle.abs_tree.specs.declared.symbol.Symbol.{Symbol}
use Rattle.abs_tree.specs.declared.syntax.declaration.Declared.{Declared}
use Rattle.abs_names.specs.Repeats.{repeated}
use Rattle.abs_names.specs.Single.{twice}
use Rattle.abs_names.specs.Visible.{Names, Visible}
use Rattle.list_facts.proofs.EntryLemmas.{drop_item}
use Rattle.std.specs.Cmp.{both_ways}

-- the numbers of two names are the same where the names are
same_number : (names : List Name) (one other : Symbol)
    → nat_eq (number_of_name names (name_of names one)) (number_of_name names (name_of names other))
    ≡ bytes_eq (name_of names one) (name_of names other)
same_number names one other =
    let laws = numbers_tell_names names one other in
    let tells = bytes_eq-Decides (name_of names one) (name_of names other) in
    both_ways (nat_eq (number_of_name names (name_of names one)) (number_of_name names (name_of names other)))
    (bytes_eq (name_of names one) (name_of names other))
    (λ e. tells.1 (laws.0 (grind (arith, nat_tests))))
    (λ e. let equal = laws.1 (tells.0 e) in grind (arith, nat_tests))

-- a name has one of these numbers where it is one of these names
abbrev pub AreNumbersOf : List Name → List ℕ → List Name → Type 0
AreNumbersOf names numbers known = (symbol : Symbol)
    → list_any (nat_eq (number_of_name names (name_of names symbol))) numbers
    ≡ list_any (bytes_eq (name_of names symbol)) known

-- one more name was seen, or was seen again
seen_after : (names : List Name) (numbers : List ℕ) (known : List Name) (symbol other : Symbol)
    → AreNumbersOf names numbers known → (b c : Bool) → b ≡ c
    → list_any (nat_eq (number_of_name names (name_of names other)))
    (cond b numbers (numbers ++ number_of_name names (name_of names symbol) ∷ []))
    ≡ list_any (bytes_eq (name_of names other)) (cond c known (known ++ name_of names symbol ∷ []))
seen_after names numbers known symbol other are true true e = are other
seen_after names numbers known symbol other are true false e = absurd (cc)
seen_after names numbers known symbol other are false true e = absurd (cc)
seen_after names numbers known symbol other are false false e =
    let has = nat_eq (number_of_name names (name_of names other)) in
    let is = bytes_eq (name_of names other) in
    let number = number_of_name names (name_of names symbol) in
    list_any-append has numbers (number ∷ [])
    ∙ (ap (λ (b : Bool). b || list_any has (number ∷ [])) (are other)
    ∙ (ap (λ (b : Bool). list_any is known || (b || false)) (same_number names other symbol)
    ∙ sym (list_any-append is known (name_of names symbol ∷ []))))

pub one_more_seen : (names : List Name) (numbers : List ℕ) (known : List Name) (symbol : Symbol)
    → AreNumbersOf names numbers known
    → AreNumbersOf names (insert_key nat_eq numbers (number_of_name names (name_of names symbol)))
    (with_name known (name_of names symbol))
one_more_seen names numbers known symbol are = λ other.
    seen_after names numbers known symbol other are (list_any (nat_eq (number_of_name names (name_of names symbol)))
    numbers) (list_any (bytes_eq (name_of names symbol)) known) (are symbol)

-- The declarations before an index were looked at; these numbers are those of their names.
pub record RepeatedSoFar (start : Visible) (first : Option Offence) (items : List Declared) (index : ℕ)
    (numbers : List ℕ) (now : Visible) (noted : Option Offence) : Type 0 where
  pub scope_is : now ≡ start
  pub known : List Name
  pub are : AreNumbersOf start.names.after numbers known
  pub offences : fold earlier noted (repeated known (map (declared start.names.before) (drop index items)))
      ≡ fold earlier first (repeated [] (map (declared start.names.before) items))

-- one more declaration was looked at, whose name this symbol has among the names of what is made
pub repeated_step : {start : Visible} {first : Option Offence} {items : List Declared} {index : ℕ}
    {numbers later_numbers : List ℕ} {now later : Visible} {noted later_noted : Option Offence} {around : Names}
    (item : Declared) (symbol : Symbol) (taken : Bool) → RepeatedSoFar start first items index numbers now noted
    → drop index items ≡ item ∷ drop (index + 1) items
    → around ≡ now.names → name_of around.after symbol ≡ name_of around.before item.name
    → later_numbers ≡ insert_key nat_eq numbers (number_of_name now.names.after (name_of now.names.after symbol))
    → taken ≡ list_any (nat_eq (number_of_name now.names.after (name_of now.names.after symbol))) numbers
    → later_noted ≡ fold earlier noted (twice taken item.place) → later ≡ now
    → RepeatedSoFar start first items (index + 1) later_numbers later later_noted
repeated_step {start} {first} {items} {index} {numbers} {later_numbers} {now} {later} {noted} {later_noted} {around}
    item symbol taken h split near kept insert found note same =
    let names = start.names in
    let name = name_of names.before item.name in
    let is : name_of names.after symbol ≡ name =
    subst (λ (ns : Names). name_of ns.after symbol ≡ name_of ns.before item.name)
    (near ∙ ap (λ (v : Visible). v.names) h.scope_is) kept in
    let rest = map (declared names.before) (drop (index + 1) items) in
    let inserted : later_numbers ≡ insert_key nat_eq numbers (number_of_name names.after (name_of names.after symbol)) =
    insert ∙ ap (λ (v : Visible). insert_key nat_eq numbers
    (number_of_name v.names.after (name_of v.names.after symbol))) h.scope_is in
    let is_taken : taken ≡ list_any (bytes_eq name) h.known =
    found ∙ (ap (λ (v : Visible). list_any (nat_eq (number_of_name v.names.after (name_of v.names.after symbol)))
    numbers) h.scope_is ∙ (h.are symbol ∙ ap (λ (n : Name). list_any (bytes_eq n) h.known) is)) in
    record {
      scope_is = same ∙ h.scope_is;
      known = with_name h.known name;
      are = subst (λ (n : Name). AreNumbersOf names.after later_numbers (with_name h.known n)) is
          (rw inserted (one_more_seen names.after numbers h.known symbol h.are));
      offences = ap (λ (o : Option Offence). fold earlier o (repeated (with_name h.known name) rest)) note
          ∙ (sym (fold-append earlier noted (twice taken item.place) (repeated (with_name h.known name) rest))
          ∙ (ap (λ (b : Bool). fold earlier noted (twice b item.place ++ repeated (with_name h.known name) rest))
          is_taken
          ∙ (ap (λ (xs : List Declared). fold earlier noted (repeated h.known (map (declared names.before) xs)))
          (sym split) ∙ h.offences)));
    }

-- all declarations were looked at
pub repeated_done : {start : Visible} {first : Option Offence} {items : List Declared} {index : ℕ} {numbers : List ℕ}
    {now : Visible} {noted : Option Offence} → RepeatedSoFar start first items index numbers now noted
    → length items ≤ index
    → noted ≡ fold earlier first (repeated [] (map (declared start.names.before) items))
repeated_done {start} {first} {items} {index} {numbers} {now} {noted} h over =
    ap (λ (xs : List Declared). fold earlier noted (repeated h.known (map (declared start.names.before) xs)))
    (sym (drop_all index items over)) ∙ h.offences

-- The names before an index were collected: these, and those of the items that are left, are all.
pub record CollectedSoFar {A : Type 0} (rest : List Name → List A → List DeclaredTree)
    (all : List Name → List DeclaredTree) (items : List A) (index : ℕ) (found : List Declared) : Type 0 where
  pub so_far : (names : List Name) → map (declared names) found ++ rest names (drop index items) ≡ all names

-- one more item declares these names
pub collected_step : {A : Type 0} {rest : List Name → List A → List DeclaredTree}
    {all : List Name → List DeclaredTree} {items : List A} {index : ℕ} {found after : List Declared} (item : A)
    (new : List Declared) → CollectedSoFar rest all items index found → index < length items
    → item ≡ get_or items index item → after ≡ found ++ new
    → ((names : List Name) (others : List A)
    → rest names (item ∷ others) ≡ map (declared names) new ++ rest names others)
    → CollectedSoFar rest all items (index + 1) after
collected_step {A} {rest} {all} {items} {index} {found} {after} item new h there is added gives = record {
  so_far = λ names.
      let tree = declared names in
      let others = drop (index + 1) items in
      ap (λ (xs : List Declared). map tree xs ++ rest names others) added
      ∙ (ap (λ (xs : List DeclaredTree). xs ++ rest names others) (map-append tree found new)
      ∙ (append_assoc (map tree found) (map tree new) (rest names others)
      ∙ (ap (λ (xs : List DeclaredTree). map tree found ++ xs) (sym (gives names others))
      ∙ (ap (λ (xs : List A). map tree found ++ rest names xs) (sym (drop_item items index item there is))
      ∙ h.so_far names))));
}

-- all items were looked at
pub collected_done : {A : Type 0} {rest : List Name → List A → List DeclaredTree}
    {all : List Name → List DeclaredTree} {items : List A} {index : ℕ} {found : List Declared} (names : List Name)
    → CollectedSoFar rest all items index found → length items ≤ index → rest names [] ≡ []
    → map (declared names) found ≡ all names
collected_done {A} {rest} {all} {items} {index} {found} names h over none =
    sym (append-nil (map (declared names) found))
    ∙ (ap (λ (xs : List DeclaredTree). map (declared names) found ++ xs) (sym none)
    ∙ (ap (λ (xs : List A). map (declared names) found ++ rest names xs) (sym (drop_all index items over))
    ∙ h.so_far names))

-- The items before an index were looked at, each with its own offences.
pub record NotedSoFar {A T : Type 0} (tree : List Name → A → T) (all : List T → List Offence) (start : Visible)
    (first : Option Offence) (items : List A) (index : ℕ) (now : Visible) (noted : Option Offence) : Type 0 where
  pub scope_is : now ≡ start
  pub offences : fold earlier noted (all (map (tree start.names.before) (drop index items)))
      ≡ fold earlier first (all (map (tree start.names.before) items))

-- one more item was looked at
pub noted_step : {A T : Type 0} {tree : List Name → A → T} {all : List T → List Offence} {start : Visible}
    {first : Option Offence} {items : List A} {index : ℕ} {now later : Visible} {noted later_noted : Option Offence}
    (item : A) (one : T → List Offence) → ((t : T) (ts : List T) → all (t ∷ ts) ≡ one t ++ all ts)
    → NotedSoFar tree all start first items index now noted → index < length items → item ≡ get_or items index item
    → later_noted ≡ fold earlier noted (one (tree now.names.before item)) → later ≡ now
    → NotedSoFar tree all start first items (index + 1) later later_noted
noted_step {A} {T} {tree} {all} {start} {first} {items} {index} {now} {later} {noted} {later_noted} item one both h
    there is note same =
    let trees = map (tree start.names.before) in
    let found = tree start.names.before item in
    let rest = trees (drop (index + 1) items) in
    let noted_now : later_noted ≡ fold earlier noted (one found) =
    note ∙ ap (λ (v : Visible). fold earlier noted (one (tree v.names.before item))) h.scope_is in
    record {
      scope_is = same ∙ h.scope_is;
      offences = ap (λ (o : Option Offence). fold earlier o (all rest)) noted_now
          ∙ (sym (fold-append earlier noted (one found) (all rest))
          ∙ (ap (fold earlier noted) (sym (both found rest))
          ∙ (ap (λ (xs : List A). fold earlier noted (all (trees xs))) (sym (drop_item items index item there is))
          ∙ h.offences)));
    }

-- all items were looked at
pub noted_done : {A T : Type 0} {tree : List Name → A → T} {all : List T → List Offence} {start : Visible}
    {first : Option Offence} {items : List A} {index : ℕ} {now : Visible} {noted : Option Offence} → all [] ≡ []
    → NotedSoFar tree all start first items index now noted → length items ≤ index
    → noted ≡ fold earlier first (all (map (tree start.names.before) items))
noted_done {A} {T} {tree} {all} {start} {first} {items} {index} {now} {noted} none h over =
    ap (fold earlier noted) (sym none)
    ∙ (ap (λ (xs : List A). fold earlier noted (all (map (tree start.names.before) xs)))
    (sym (drop_all index items over))
    ∙ h.offences)
