-- Offences may be noted in another order: the first one of them is the same.
--
--   `noted_swapped`            offences, and others before them
--   `members_apart`            the offences of members, of which those of all fields come first
use Rattle.std.proofs.Common.{◌≡◌, List, [], ◌∷◌, ◌++◌, Option, Some, None, Contains, fold, get_or, inl, inr, refl, sym, ap, ◌∙◌, append_assoc}
use Rattle.std.proofs.lemmas.List.Elements.{All-contains, Contains-append_cases, Contains-append_left, Contains-append_right, Contains-get_or}
use Rattle.std.proofs.lemmas.List.Sums.{fold-append}
use Rattle.abs_tree.proofs.OffenceLemmas.{first_is_least, NotBefore}
use Rattle.abs_tree.specs.Offences.{earlier, first_offence, IsFirst}
use Rattle.abs_tree.specs.Syntax.{Name, MemberTree, FieldTree, MethodTree, DeclTree}
use Rattle.abs_tree.specs.declared.refusal.Offence.{Offence}
use Rattle.abs_types.specs.PlainTypes.{PlainType, plain}
use Rattle.abs_types.specs.TypeOffences.{field_offences, members_offences, method_offences}
use Rattle.check_fun.specs.Contexts.{Noted}
use Rattle.check_obj.specs.Classes.{fields_offences, methods_offences}

-- each of these offences is one of others
abbrev Within : List Offence → List Offence → Type 0
Within some others = (offence : Offence) → Contains some offence → Contains others offence

-- the first one of some offences is the first one of others, if these are the same
first_moved : {some others : List Offence} (offence : Offence) → Within some others → Within others some
    → IsFirst some offence → IsFirst others offence
first_moved {some} {others} offence there back first = record {
  among = there offence first.among;
  least = λ index default below. All-contains (NotBefore offence) some
      (get_or others index default) first.least (back _ (Contains-get_or others index default below));
}

-- so it is, if there is one
first_same : (some others : List Offence) → Within some others → Within others some
    → (first other : Option Offence) → first_offence some ≡ first → first_offence others ≡ other → first ≡ other
first_same some others there back None None is other_is = refl
first_same some others there back first (Some offence) is other_is =
    sym is ∙ (first_is_least some offence).1
    (first_moved offence back there ((first_is_least others offence).0 other_is))
first_same some others there back (Some offence) other is other_is =
    sym ((first_is_least others offence).1 (first_moved offence there back ((first_is_least some offence).0 is)))
    ∙ other_is

-- two lists of offences are as well the other way round, after some
swapped : (before one other : List Offence) → Within (before ++ (one ++ other)) (before ++ (other ++ one))
swapped before one other offence among = elim (Contains-append_cases before (one ++ other) offence among) [
  | inl first ↦ Contains-append_left before (other ++ one) offence first
  | inr second ↦ Contains-append_right before (other ++ one) offence
      (elim (Contains-append_cases one other offence second) [
        | inl left ↦ Contains-append_right other one offence left
        | inr right ↦ Contains-append_left other one offence right
      ])
]

-- the first one is the same
first_swapped : (before one other : List Offence)
    → first_offence (before ++ (one ++ other)) ≡ first_offence (before ++ (other ++ one))
first_swapped before one other =
    first_same (before ++ (one ++ other)) (before ++ (other ++ one)) (swapped before one other)
    (swapped before other one) _ _ refl refl

-- it is the same after an offence that was noted before
fold_swapped : (first : Option Offence) (one other : List Offence)
    → fold earlier first (one ++ other) ≡ fold earlier first (other ++ one)
fold_swapped None one other = first_swapped [] one other
fold_swapped (Some offence) one other = first_swapped (offence ∷ []) one other

-- offences may be noted after others or before them
pub noted_swapped : (first : Option Offence) (one other : List Offence)
    → fold earlier (fold earlier first one) other ≡ fold earlier (fold earlier first other) one
noted_swapped first one other =
    sym (fold-append earlier first one other) ∙ (fold_swapped first one other ∙ fold-append earlier first other one)

-- the offences of members, and those of fields and then of methods, give the same first one
same_apart : (declarations : List DeclTree) (class : Name) (fields known : List PlainType) (members : List MemberTree)
    (first : Option Offence) → fold earlier first (members_offences declarations class fields known members)
    ≡ fold earlier first
    (fields_offences declarations known members ++ methods_offences declarations class fields members)
same_apart declarations class fields known [] first = refl
same_apart declarations class fields known (FieldTree type name initial ∷ others) first =
    let own = field_offences declarations known (plain type) name.place initial in
    let more = fields_offences declarations (known ++ plain type ∷ []) others in
    let rest = methods_offences declarations class fields others in
    fold-append earlier first own _
    ∙ (same_apart declarations class fields (known ++ plain type ∷ []) others (fold earlier first own)
    ∙ (sym (fold-append earlier first own (more ++ rest))
    ∙ ap (fold earlier first) (sym (append_assoc own more rest))))
same_apart declarations class fields known (MethodTree signature end body ∷ others) first =
    let own = method_offences declarations class fields signature end body in
    let more = fields_offences declarations known others in
    let rest = methods_offences declarations class fields others in
    fold-append earlier first own _
    ∙ (same_apart declarations class fields known others (fold earlier first own)
    ∙ (fold-append earlier (fold earlier first own) more rest
    ∙ (ap (λ (noted : Option Offence). fold earlier noted rest) (noted_swapped first own more)
    ∙ (sym (fold-append earlier (fold earlier first more) own rest)
    ∙ sym (fold-append earlier first more (own ++ rest))))))

-- the offences of members are noted, if those of all fields are, and then those of all methods
pub members_apart : {before now : Option Offence} (declarations : List DeclTree) (class : Name)
    (fields known : List PlainType) (members : List MemberTree) → Noted before
    (fields_offences declarations known members ++ methods_offences declarations class fields members) now
    → Noted before (members_offences declarations class fields known members) now
members_apart {before} declarations class fields known members noted =
    record { is = noted.is ∙ sym (same_apart declarations class fields known members before) }
