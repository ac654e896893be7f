-- The first method of each name, and look-ups of methods by the numbers of their names.
--
--   `IsNamed`                      the number of a method's name tells the name
--   `name_test`                    whether methods have one name follows from the numbers of their names
--   `named_none`                   no methods have names of the table
--   `named_signature`, ..          so have methods of the code's trees
--   `named_first`                  so have the first ones of each name
--   `has_name`                     one of several methods has a name
--   `first_push`                   the first ones of each name, with one more method
--   `is_looked_up`                 whether a look-up by the number of a name finds a method with that name
--   `AreDistinct`                  methods have different names
use Rattle.std.proofs.Common.{◌≡◌, ℕ, Bool, true, false, not, ◌||◌, cond, List, [], ◌∷◌, ◌++◌, Some, if◌then◌else◌, filter, map, nat_eq, All, refl, sym, ap, ◌∙◌, true≢false}
use Rattle.std.proofs.lemmas.Bool.Decides.{Decides-eqb}
use Rattle.std.proofs.lemmas.Cmp.{nat_list_eq_equiv}
use Rattle.std.proofs.lemmas.List.{append-nil}
use Rattle.std.proofs.lemmas.List.Elements.{All-cons, All-filter, All-head, All-nil, All-tail, filter-append}
use Rattle.std.proofs.lemmas.Slice.Eq.{bytes_eq-Decides}
use Rattle.std.specs.List.{list_any}
use Rattle.std.specs.Map.{lookup}
use Rattle.std.specs.Option.{is_some}
use Rattle.std.specs.Prelude.{⊤}
use Rattle.std.specs.Str.{bytes_eq}
use Rattle.abs_tree.proofs.NumberLemmas.{name_of_number}
use Rattle.abs_tree.specs.Names.{number_of_name}
use Rattle.abs_tree.specs.Syntax.{Name, SignatureTree}
use Rattle.abs_tree.specs.SyntaxViews.{member_tree, signature_tree}
use Rattle.abs_tree.specs.declared.syntax.declaration.Member.{Member}
use Rattle.abs_tree.specs.declared.syntax.declaration.Member.TheVariants as member
use Rattle.abs_tree.specs.declared.syntax.declaration.Signature.{Signature}
use Rattle.abs_types.specs.Methods.{first_of_each, is_named, member_signatures}
use Rattle.abs_types.specs.TypeShapes.{named_by}
use Rattle.check_obj.specs.MethodRows.{row_entry, AreNamed}

-- the number of a method's name tells the name
abbrev pub IsNamed : List Name → SignatureTree → Type 0
IsNamed names signature = named_by names (number_of_name names signature.name.name) ≡ signature.name.name

-- whether methods have one name follows from the numbers of their names
pub name_test : (names : List Name) (one other : SignatureTree) → IsNamed names one → IsNamed names other
    → nat_eq (number_of_name names other.name.name) (number_of_name names one.name.name)
    ≡ is_named other.name.name one
name_test names one other one_named other_named = by (is_named other.name.name one) refl
  where
    number : SignatureTree → ℕ
    number = λ (signature : SignatureTree). number_of_name names signature.name.name

    same_numbers : nat_eq (number other) (number one) ≡ true → one.name.name ≡ other.name.name
    same_numbers same =
        sym one_named ∙ (ap (named_by names) (sym ((Decides-eqb (number other) (number one)).0 same)) ∙ other_named)

    by : (reported : Bool) → is_named other.name.name one ≡ reported → nat_eq (number other) (number one) ≡ reported
    by true same = (Decides-eqb (number other) (number one)).1
        (ap (number_of_name names) (sym ((bytes_eq-Decides one.name.name other.name.name).0 same)))
    by false apart = apart_numbers (nat_eq (number other) (number one)) refl
      where
        apart_numbers : (reported : Bool) → nat_eq (number other) (number one) ≡ reported → reported ≡ false
        apart_numbers false reported = refl
        apart_numbers true reported = absurd (true≢false
            (sym ((bytes_eq-Decides one.name.name other.name.name).1 (same_numbers reported)) ∙ apart))

-- no methods have names of the table
pub named_none : {names : List Name} → AreNamed names []
named_none {names} = record { each = All-nil (IsNamed names) }

-- a method of the code's tree has a name of the table
pub named_signature : (names : List Name) (signature : Signature) → IsNamed names (signature_tree names signature)
named_signature names signature = name_of_number names signature.name.name

-- so have several
pub named_all : (names : List Name) (signatures : List Signature)
    → AreNamed names (map (signature_tree names) signatures)
named_all names [] = named_none
named_all names (first ∷ others) = record {
  each = All-cons (IsNamed names) (signature_tree names first) (map (signature_tree names) others)
      (named_signature names first) (named_all names others).each;
}

-- so have those among the members of a class
pub named_members : (names : List Name) (members : List Member)
    → AreNamed names (member_signatures (map (member_tree names) members))
named_members names [] = named_none
named_members names (member.Field type name initial ∷ others) = named_members names others
named_members names (member.Method signature body ∷ others) = record {
  each = All-cons (IsNamed names) (signature_tree names signature)
      (member_signatures (map (member_tree names) others)) (named_signature names signature)
      (named_members names others).each;
}

-- so have the first ones of each name
pub named_first : {names : List Name} (signatures : List SignatureTree) → AreNamed names signatures
    → AreNamed names (first_of_each signatures)
named_first [] named = named
named_first {names} (first ∷ others) named =
    let rest = named_first others (record { each = All-tail (IsNamed names) first others named.each }) in
    record {
      each = All-cons (IsNamed names) first _ (All-head (IsNamed names) first others named.each)
          (All-filter (λ (other : SignatureTree). not (is_named first.name.name other)) (IsNamed names)
          (first_of_each others) rest.each);
    }

-- those that do not have a name, of several
abbrev without : Name → List SignatureTree → List SignatureTree
without name signatures = filter (λ (other : SignatureTree). not (is_named name other)) signatures

-- one of several methods has a name
abbrev pub has_name : Name → List SignatureTree → Bool
has_name name signatures = list_any (is_named name) signatures

-- where those with another name are left out, one with a name is left: the case of one more
left_step : (name left_out : Name) (first : SignatureTree) (others rest : List SignatureTree) (reported : Bool)
    → bytes_eq left_out name ≡ false → is_named left_out first ≡ reported → has_name name rest ≡ has_name name others
    → has_name name (cond (not reported) (first ∷ rest) rest) ≡ has_name name (first ∷ others)
left_step name left_out first others rest true differ same left =
    let own : first.name.name ≡ left_out = (bytes_eq-Decides first.name.name left_out).0 same in
    rw (own, differ) left
left_step name left_out first others rest false differ apart left = rw left refl

-- where those with another name are left out, one with a name is left
has_left : (name left_out : Name) (signatures : List SignatureTree) → bytes_eq left_out name ≡ false
    → has_name name (without left_out signatures) ≡ has_name name signatures
has_left name left_out [] differ = refl
has_left name left_out (first ∷ others) differ =
    left_step name left_out first others (without left_out others) (is_named left_out first) differ refl
    (has_left name left_out others differ)

-- methods with one more, unless there is one with its name
abbrev one_more : Bool → List SignatureTree → SignatureTree → List SignatureTree
one_more there signatures signature = if there then signatures else signatures ++ signature ∷ []

-- the first ones of each name, with one more method: the case of one more before it
push_step : (first last : SignatureTree) (rest : List SignatureTree) (same there : Bool)
    → is_named last.name.name first ≡ same → has_name last.name.name rest ≡ there
    → first ∷ without first.name.name (one_more there rest last)
    ≡ one_more (same || has_name last.name.name (without first.name.name rest))
    (first ∷ without first.name.name rest) last
push_step first last rest true true same there = refl
push_step first last rest true false same there =
    let reported : is_named first.name.name last ≡ true =
    (bytes_eq-Decides last.name.name first.name.name).1
    (sym ((bytes_eq-Decides first.name.name last.name.name).0 same)) in
    ap (λ (xs : List SignatureTree). first ∷ xs)
    (filter-append (λ (other : SignatureTree). not (is_named first.name.name other)) rest (last ∷ [])
    ∙ (ap (λ (b : Bool). without first.name.name rest ++ cond (not b) (last ∷ []) []) reported
    ∙ append-nil (without first.name.name rest)))
push_step first last rest false true apart there =
    let left : has_name last.name.name (without first.name.name rest) ≡ true =
    has_left last.name.name first.name.name rest apart ∙ there in
    ap (λ (b : Bool). one_more b (first ∷ without first.name.name rest) last) (sym left)
push_step first last rest false false apart there =
    let left : has_name last.name.name (without first.name.name rest) ≡ false =
    has_left last.name.name first.name.name rest apart ∙ there in
    let reported : is_named first.name.name last ≡ false =
    nat_list_eq_equiv.symm last.name.name first.name.name ∙ apart in
    ap (λ (xs : List SignatureTree). first ∷ xs)
    (filter-append (λ (other : SignatureTree). not (is_named first.name.name other)) rest (last ∷ [])
    ∙ ap (λ (b : Bool). without first.name.name rest ++ cond (not b) (last ∷ []) []) reported)
    ∙ ap (λ (b : Bool). one_more b (first ∷ without first.name.name rest) last) (sym left)

-- the first ones of each name, with one more method, which counts if there is none with its name
pub first_push : (signatures : List SignatureTree) (last : SignatureTree)
    → first_of_each (signatures ++ last ∷ [])
    ≡ (if has_name last.name.name (first_of_each signatures) then first_of_each signatures
    else first_of_each signatures ++ last ∷ [])
first_push [] last = refl
first_push (first ∷ others) last =
    ap (λ (rest : List SignatureTree). first ∷ without first.name.name rest) (first_push others last)
    ∙ push_step first last (first_of_each others) (is_named last.name.name first)
    (has_name last.name.name (first_of_each others)) refl refl

-- whether a look-up by the number of a name finds a method with that name
pub is_looked_up : (names : List Name) (signatures : List SignatureTree) (wanted : SignatureTree)
    → AreNamed names signatures → IsNamed names wanted
    → is_some (lookup (nat_eq (number_of_name names wanted.name.name)) (map (row_entry names) signatures))
    ≡ has_name wanted.name.name signatures
is_looked_up names [] wanted named own = refl
is_looked_up names (first ∷ others) wanted named own =
    by _ (name_test names first wanted (All-head (IsNamed names) first others named.each) own)
    (is_looked_up names others wanted (record { each = All-tail (IsNamed names) first others named.each }) own)
  where
    test : ℕ → Bool
    test = nat_eq (number_of_name names wanted.name.name)

    by : (reported : Bool) → reported ≡ is_named wanted.name.name first
        → is_some (lookup test (map (row_entry names) others)) ≡ has_name wanted.name.name others
        → is_some (cond reported (Some (row_entry names first).1) (lookup test (map (row_entry names) others)))
        ≡ is_named wanted.name.name first || has_name wanted.name.name others
    by true same rest = ap (λ (b : Bool). b || has_name wanted.name.name others) same
    by false apart rest = rest ∙ ap (λ (b : Bool). b || has_name wanted.name.name others) apart

-- the methods have different names
abbrev pub AreDistinct : List SignatureTree → Type 0
AreDistinct [] = ⊤
AreDistinct (first ∷ others) =
    All (λ (other : SignatureTree). is_named first.name.name other ≡ false) others × AreDistinct others
