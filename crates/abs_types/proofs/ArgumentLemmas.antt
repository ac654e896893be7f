-- The join of data is applied to the joins of its arguments, in a program whose interfaces do not extend themselves.
use Rattle.std.proofs.Common.{◌≡◌, ℕ, ◌+◌, ◌<◌, true, false, List, [], ◌∷◌, ◌++◌, Option, Some, None, option_map, refl, sym, ap, ◌∙◌, length, drop, get_or, append_assoc, suc, arith}
use Rattle.std.specs.Prelude.{option_and_then}
use Rattle.std.specs.Str.{bytes_eq}
use Rattle.std.proofs.lemmas.Cmp.{nat_list_eq_equiv}
use Rattle.std.proofs.lemmas.Slice.Eq.{bytes_eq-Decides}
use Rattle.abs_tree.specs.Syntax.{Name, DeclTree}
use Rattle.abs_tree.specs.SyntaxViews.{type_tree, type_trees}
use Rattle.abs_tree.specs.declared.syntax.types.TypeTerm.{TypeTerm}
use Rattle.abs_types.proofs.JoinLemmas.{join_of_fitting, join_of_apart, join_of_applied}
use Rattle.abs_types.proofs.SpineLemmas.{depth, has_data_head, depth_applied, head_applied, depths_apart}
use Rattle.abs_types.proofs.TermLemmas.{plains_push}
use Rattle.abs_types.specs.Arguments.{both_listed, joins_of}
use Rattle.abs_types.specs.Joins.{both_applied, join_of}
use Rattle.abs_types.specs.PlainTypes.{PlainType, PlainFut, PlainData, PlainApplied, applied_to, plain, plains}
use Rattle.abs_types.specs.Subtyping.{fits, NoneExtendsItself}
use Rattle.list_facts.proofs.EntryLemmas.{drop_item}

-- a type that is applied to arguments, if there are both
abbrev both_applied_to : Option PlainType → Option (List PlainType) → Option PlainType
both_applied_to head arguments = option_and_then (λ type. option_map (applied_to type) arguments) head

-- a type that is applied to one argument and then to others, to no argument, and to arguments that are not there
applied_next : (head argument : Option PlainType) (others : Option (List PlainType))
    → both_applied_to (both_applied head argument) others ≡ both_applied_to head (both_listed argument others)
applied_next (Some head) (Some argument) (Some others) = refl
applied_next (Some head) (Some argument) None = refl
applied_next (Some head) None others = refl
applied_next None argument others = refl

applied_to_none : (head : Option PlainType) → head ≡ both_applied_to head (Some [])
applied_to_none (Some head) = refl
applied_to_none None = refl

not_applied : (head : Option PlainType) → None ≡ both_applied_to head None
not_applied (Some head) = refl
not_applied None = refl

-- data that is applied to another number of arguments has no join
depths_no_join : (declarations : List DeclTree) (one other : PlainType) → NoneExtendsItself declarations
    → has_data_head one ≡ true → has_data_head other ≡ true → (depth one ≡ depth other → ⊥)
    → join_of declarations one other ≡ None
depths_no_join declarations (PlainFut value) other none is other_is apart = cc
depths_no_join declarations (PlainApplied head argument) (PlainApplied other_head other_argument) none is other_is
    apart =
    join_of_applied declarations head other_head argument other_argument none
    ∙ ap (λ (joined : Option PlainType). both_applied joined (join_of declarations argument other_argument))
    (depths_no_join declarations head other_head none is other_is (λ same. apart (ap suc same)))
depths_no_join declarations one other none is other_is apart =
    join_of_apart declarations one other (depths_apart declarations one other is apart)
    (depths_apart declarations other one other_is (λ same. apart (sym same)))

-- the join of two heads of one depth that are applied to arguments is that of the heads, applied to those of the
-- arguments
spines_join : (declarations : List DeclTree) (head other_head : PlainType) (ones others : List PlainType)
    → NoneExtendsItself declarations → has_data_head head ≡ true → has_data_head other_head ≡ true
    → depth head ≡ depth other_head
    → join_of declarations (applied_to head ones) (applied_to other_head others)
    ≡ both_applied_to (join_of declarations head other_head) (joins_of declarations ones others)
spines_join declarations head other_head [] [] none is other_is same =
    applied_to_none (join_of declarations head other_head)
spines_join declarations head other_head [] (other ∷ others) none is other_is same =
    depths_no_join declarations head (applied_to (PlainApplied other_head other) others) none is
    (head_applied (PlainApplied other_head other) others ∙ other_is)
    (λ equal. omega (arith, depth_applied (PlainApplied other_head other) others))
    ∙ not_applied (join_of declarations head other_head)
spines_join declarations head other_head (one ∷ ones) [] none is other_is same =
    depths_no_join declarations (applied_to (PlainApplied head one) ones) other_head none
    (head_applied (PlainApplied head one) ones ∙ is) other_is
    (λ equal. omega (arith, depth_applied (PlainApplied head one) ones))
    ∙ not_applied (join_of declarations head other_head)
spines_join declarations head other_head (one ∷ ones) (other ∷ others) none is other_is same =
    spines_join declarations (PlainApplied head one) (PlainApplied other_head other) ones others none is other_is
    (ap suc same)
    ∙ (ap (λ (joined : Option PlainType). both_applied_to joined (joins_of declarations ones others))
    (join_of_applied declarations head other_head one other none)
    ∙ applied_next (join_of declarations head other_head) (join_of declarations one other)
    (joins_of declarations ones others))

-- data of different names has no join
pub names_no_join : (declarations : List DeclTree) (name other_name : Name) (ones others : List PlainType)
    → NoneExtendsItself declarations → false ≡ bytes_eq name other_name
    → None ≡ join_of declarations (applied_to (PlainData name) ones) (applied_to (PlainData other_name) others)
unfolding fits
names_no_join declarations name other_name ones others none apart =
    sym (spines_join declarations (PlainData name) (PlainData other_name) ones others none refl refl refl
    ∙ ap (λ (joined : Option PlainType). both_applied_to joined (joins_of declarations ones others))
    (join_of_apart declarations (PlainData name) (PlainData other_name) (sym apart)
    (nat_list_eq_equiv.symm other_name name ∙ sym apart)))

-- that of data of one name is applied to the joins of the arguments
pub data_joined : {found : Option (List PlainType)} (declarations : List DeclTree) (name other_name : Name)
    (ones others : List PlainType) → NoneExtendsItself declarations → true ≡ bytes_eq name other_name
    → found ≡ joins_of declarations ones others
    → option_map (applied_to (PlainData name)) found
    ≡ join_of declarations (applied_to (PlainData name) ones) (applied_to (PlainData other_name) others)
unfolding fits
data_joined {found} declarations name other_name ones others none same joined =
    let names : name ≡ other_name = (bytes_eq-Decides name other_name).0 (sym same) in
    ap (option_map (applied_to (PlainData name))) joined
    ∙ (ap (λ (n : Name). option_map (applied_to (PlainData n)) (joins_of declarations ones others)) names
    ∙ sym (spines_join declarations (PlainData name) (PlainData other_name) ones others none refl refl refl
    ∙ ap (λ (head : Option PlainType). both_applied_to head (joins_of declarations ones others))
    (join_of_fitting declarations (PlainData name) (PlainData other_name) (sym same))))

-- lists of different lengths have no joins
pub lengths_no_joins : (declarations : List DeclTree) (names : List Name) (left right : List TypeTerm)
    → (length left ≡ length right → ⊥)
    → None ≡ joins_of declarations (plains (type_trees names left)) (plains (type_trees names right))
lengths_no_joins declarations names [] [] apart = absurd (apart refl)
lengths_no_joins declarations names [] (other ∷ right) apart = refl
lengths_no_joins declarations names (one ∷ left) [] apart = refl
lengths_no_joins declarations names (one ∷ left) (other ∷ right) apart =
    let joined = join_of declarations (plain (type_tree names one)) (plain (type_tree names other)) in
    not_listed joined
    ∙ ap (both_listed joined) (lengths_no_joins declarations names left right (λ same. apart (ap suc same)))
  where
    not_listed : (first : Option PlainType) → None ≡ both_listed first None
    not_listed (Some first) = refl
    not_listed None = refl

-- types followed by others, if these are there
abbrev followed_by : List PlainType → Option (List PlainType) → Option (List PlainType)
followed_by before others = option_map (λ more. before ++ more) others

-- none, and one more
follow_none : (others : Option (List PlainType)) → followed_by [] others ≡ others
follow_none (Some others) = refl
follow_none None = refl

follow_next : (before : List PlainType) (next : PlainType) (others : Option (List PlainType))
    → followed_by (before ++ next ∷ []) others ≡ followed_by before (both_listed (Some next) others)
follow_next before next (Some others) = ap Some (append_assoc before (next ∷ []) others)
follow_next before next None = refl

-- The joins before an index are there. With those of the rest of both lists they are the joins of both.
pub record JoinedSoFar (declarations : List DeclTree) (names : List Name) (left right : List TypeTerm) (index : ℕ)
    (found : List TypeTerm) : Type 0 where
  pub so_far : followed_by (plains (type_trees names found))
      (joins_of declarations (plains (type_trees names (drop index left)))
      (plains (type_trees names (drop index right))))
      ≡ joins_of declarations (plains (type_trees names left)) (plains (type_trees names right))

-- the next join decides with the rest
joined_next : {declarations : List DeclTree} {names : List Name} {left right found : List TypeTerm} {index : ℕ}
    (one other : TypeTerm) → JoinedSoFar declarations names left right index found → index < length left
    → one ≡ get_or left index one → index < length right → other ≡ get_or right index other
    → followed_by (plains (type_trees names found)) (both_listed
    (join_of declarations (plain (type_tree names one)) (plain (type_tree names other)))
    (joins_of declarations (plains (type_trees names (drop (index + 1) left)))
    (plains (type_trees names (drop (index + 1) right)))))
    ≡ joins_of declarations (plains (type_trees names left)) (plains (type_trees names right))
joined_next {declarations} {names} {left} {right} {found} {index} one other h there is other_there other_is =
    rw (drop_item left index one there is, drop_item right index other other_there other_is) at h.so_far

-- where it is there, it is added
pub joined_step : {declarations : List DeclTree} {names : List Name} {left right found after : List TypeTerm}
    {index : ℕ} (one other new : TypeTerm) → JoinedSoFar declarations names left right index found
    → index < length left → one ≡ get_or left index one → length left ≡ length right
    → other ≡ get_or right index other → after ≡ found ++ new ∷ []
    → Some (plain (type_tree names new))
    ≡ join_of declarations (plain (type_tree names one)) (plain (type_tree names other))
    → JoinedSoFar declarations names left right (index + 1) after
joined_step {declarations} {names} {left} {right} {found} {after} {index} one other new h there is same other_is added
    joined = record {
      so_far =
          let before = plains (type_trees names found) in
          let rest = joins_of declarations (plains (type_trees names (drop (index + 1) left)))
          (plains (type_trees names (drop (index + 1) right))) in
          ap (λ (items : List TypeTerm). followed_by (plains (type_trees names items)) rest) added
          ∙ (ap (λ (types : List PlainType). followed_by types rest) (plains_push names found new)
          ∙ (follow_next before (plain (type_tree names new)) rest
          ∙ (ap (λ (next : Option PlainType). followed_by before (both_listed next rest)) joined
          ∙ joined_next one other h there is (omega arith) other_is)));
    }
