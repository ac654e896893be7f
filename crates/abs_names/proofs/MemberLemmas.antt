-- How the members of a class are resolved, and members of which a prefix are known as fields.
use Rattle.std.proofs.Common.{◌≡◌, ℕ, ◌+◌, ◌<◌, List, refl, sym, ap, ◌∙◌, subst, length, get_or, drop, map}
use Rattle.abs_tree.specs.Syntax.{MemberTree}
use Rattle.abs_tree.specs.SyntaxViews.{member_tree}
use Rattle.abs_tree.specs.declared.syntax.declaration.Member.{Member}
use Rattle.abs_names.specs.NameOffences.{member_offences, members_offences}
use Rattle.abs_names.specs.Resolution.{resolved_member, resolved_members}
use Rattle.abs_names.specs.Scopes.{Meanings, fields_after, with_member, with_member_fields}
use Rattle.abs_names.specs.TypeNames.{Around}
use Rattle.abs_names.specs.Visible.{Names, Visible}
use Rattle.abs_names.proofs.InPlaceLemmas.{ItemResolution}
use Rattle.list_facts.proofs.EntryLemmas.{drop_item}

-- What stays the same from one member of a class to the next: the names, what is around, and the fields.
pub record InClass : Type 0 where
  pub names : Names
  pub around : Around
  pub fields : Meanings

abbrev pub in_class : Visible → InClass
in_class v = record { names = v.names; around = v.scope.around; fields = v.scope.fields }

-- members, each after `count` fields
abbrev pub member_resolution : ItemResolution Member MemberTree InClass
member_resolution = record {
  before = λ c. member_tree c.names.before;
  after = λ c. member_tree c.names.after;
  resolved = λ c count tree. resolved_member c.around c.fields count tree;
  all_resolved = λ c count trees. resolved_members c.around c.fields count trees;
  offences = λ c count tree. member_offences c.around c.fields count tree;
  all_offences = λ c count trees. members_offences c.around c.fields count trees;
  next = λ c count tree. fields_after count tree;
  none_resolved = λ c count. refl;
  more_resolved = λ c count tree trees. refl;
  none_offend = λ c count. refl;
  more_offend = λ c count tree trees. refl;
}

-- Members before an index are known as fields, and `count` fields come before the next one.
pub record AddedSoFar (start : Visible) (begin : ℕ) (members : List Member) (index : ℕ) (now : Visible) (count : ℕ)
    : Type 0 where
  pub names_are : now.names ≡ start.names
  pub around_is : now.scope.around ≡ start.scope.around
  pub routine_is : now.scope.routine ≡ start.scope.routine
  pub variables_are : now.scope.variables ≡ start.scope.variables
  pub fields_are : with_member_fields now.scope.fields count (map (member_tree start.names.before) (drop index members))
      ≡ with_member_fields start.scope.fields begin (map (member_tree start.names.before) members)

-- one more member is known
pub added_step : {start now after : Visible} {begin : ℕ} {members : List Member} {index count later : ℕ} (item : Member)
    → AddedSoFar start begin members index now count → index < length members → item ≡ get_or members index item
    → after.names ≡ now.names → after.scope.around ≡ now.scope.around → after.scope.routine ≡ now.scope.routine
    → after.scope.variables ≡ now.scope.variables
    → after.scope.fields ≡ with_member now.scope.fields count (member_tree now.names.before item)
    → later ≡ fields_after count (member_tree now.names.before item)
    → AddedSoFar start begin members (index + 1) after later
added_step {start} {now} {after} {begin} {members} {index} {count} {later} item h there is names around
    routine variables fields counted =
    let tree = member_tree start.names.before in
    let rest = drop (index + 1) members in
    let moved = subst (λ (ns : Names). after.scope.fields ≡ with_member now.scope.fields count
    (member_tree ns.before item)) h.names_are fields in
    let counts = subst (λ (ns : Names). later ≡ fields_after count (member_tree ns.before item)) h.names_are counted in
    record {
      names_are = names ∙ h.names_are;
      around_is = around ∙ h.around_is;
      routine_is = routine ∙ h.routine_is;
      variables_are = variables ∙ h.variables_are;
      fields_are = ap (λ (known : Meanings). with_member_fields known later (map tree rest)) moved
          ∙ (ap (λ (n : ℕ). with_member_fields (with_member now.scope.fields count (tree item)) n
          (map tree rest)) counts
          ∙ (ap (λ (ms : List Member). with_member_fields now.scope.fields count (map tree ms))
          (sym (drop_item members index item there is))
          ∙ h.fields_are));
    }
