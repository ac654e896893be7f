-- Patterns of which a prefix was resolved, each in the scope after the ones before it; patterns with a constructor.
use Rattle.std.proofs.Common.{◌≡◌, ℕ, ◌+◌, ◌<◌, ◌≤◌, List, [], ◌∷◌, ◌++◌, refl, sym, ap, ◌∙◌, subst, length, get_or, fold}
use Rattle.std.specs.Prelude.{Option}
use Rattle.std.specs.declared.alloc.Global.{Global}
use Rattle.std.specs.declared.vec.Vec.{Vec}
use Rattle.abs_tree.proofs.SyntaxLemmas.{pattern_tree-built}
use Rattle.abs_tree.specs.Names.{name_of}
use Rattle.abs_tree.specs.Offences.{earlier}
use Rattle.abs_tree.specs.Syntax.{Name, PatternTree, Built, NextPattern}
use Rattle.abs_tree.specs.SyntaxCounts.{count_patterns}
use Rattle.abs_tree.specs.SyntaxViews.{pattern_tree, pattern_trees}
use Rattle.abs_tree.specs.declared.place.Place.{Place}
use Rattle.abs_tree.specs.declared.refusal.Offence.{Offence}
use Rattle.abs_tree.specs.declared.symbol.Symbol.{Symbol}
use Rattle.abs_tree.specs.declared.syntax.pattern.Pattern as code
use Rattle.abs_tree.specs.declared.syntax.pattern.Pattern.{Pattern}
use Rattle.abs_names.specs.NameOffences.{pattern_offences, patterns_offences}
use Rattle.abs_names.specs.Resolution.{resolved_pattern, resolved_patterns}
use Rattle.abs_names.specs.Scopes.{Scope, pattern_scope, patterns_scope}
use Rattle.abs_names.specs.TypeNames.{applied, constructor_taking}
use Rattle.abs_names.specs.Visible.{Names, Visible}
use Rattle.abs_names.proofs.FormLemmas.{applied_noted}
use Rattle.abs_names.proofs.LoopLemmas.{SoFar, one_more, Done, all_done}
use Rattle.abs_tree.proofs.TreeLemmas.{patterns_before, patterns_more, patterns_all}
use Rattle.abs_tree.proofs.FormLemmas.{patterns_counted}

-- The patterns before an index were resolved from a scope on; this is the scope now, and the first offence so far.
pub record PatternsSoFar (names : Names) (scope : Scope) (first : Option Offence) (parts : List Pattern) (index : ℕ)
    (found : List Pattern) (now : Visible) (noted : Option Offence) : Type 0 where
  pub names_are : now.names ≡ names
  pub so_far : SoFar (pattern_trees names.before) (patterns_before names.after) resolved_patterns patterns_offences
      patterns_scope scope first parts index found now.scope noted

-- one more pattern was resolved
pub patterns_step : {names : Names} {scope : Scope} {first : Option Offence} {parts : List Pattern} {index : ℕ}
    {found : List Pattern} {now after : Visible} {noted after_noted : Option Offence} {all : List Pattern}
    (item one : Pattern)
    → PatternsSoFar names scope first parts index found now noted → index < length parts
    → item ≡ get_or parts index item
    → pattern_tree now.names.after one ≡ resolved_pattern now.scope (pattern_tree now.names.before item)
    → after_noted ≡ fold earlier noted (pattern_offences now.scope (pattern_tree now.names.before item))
    → after.names ≡ now.names → after.scope ≡ pattern_scope now.scope (pattern_tree now.names.before item)
    → all ≡ found ++ one ∷ []
    → PatternsSoFar names scope first parts (index + 1) all after after_noted
patterns_step {names} {scope} {first} {parts} {index} {found} {now} {after} {noted} {after_noted} {all} item one h there
    is made met same bound added =
    let tree = pattern_tree names.before item in
    let made_of = subst (λ (ns : Names).
    pattern_tree ns.after one ≡ resolved_pattern now.scope (pattern_tree ns.before item))
    h.names_are made in
    let met_of = subst (λ (ns : Names).
    after_noted ≡ fold earlier noted (pattern_offences now.scope (pattern_tree ns.before item))) h.names_are met in
    let bound_of = subst (λ (ns : Names). after.scope ≡ pattern_scope now.scope (pattern_tree ns.before item))
    h.names_are bound in
    record {
      names_are = same ∙ h.names_are;
      so_far = one_more all after.scope after_noted item (NextPattern (pattern_tree names.after one))
          (pattern_offences now.scope tree) h.so_far there is
          (λ others. ap (λ (t : PatternTree). NextPattern t (resolved_patterns (pattern_scope now.scope tree)
          (pattern_trees names.before others))) (sym made_of)
          ∙ ap (λ (s : Scope).
          NextPattern (pattern_tree names.after one) (resolved_patterns s (pattern_trees names.before others)))
          (sym bound_of))
          (λ others. ap (λ (s : Scope).
          pattern_offences now.scope tree ++ patterns_offences s (pattern_trees names.before others)) (sym bound_of))
          (λ others. ap (λ (s : Scope). patterns_scope s (pattern_trees names.before others)) (sym bound_of))
          (λ rest. ap (λ (ps : List Pattern). patterns_before names.after ps rest) added
          ∙ patterns_more names.after found one rest)
          met_of;
    }

-- all patterns were resolved
pub patterns_done : {names : Names} {scope : Scope} {first : Option Offence} {parts : List Pattern} {index : ℕ}
    {found : List Pattern} {now : Visible} {noted : Option Offence}
    → PatternsSoFar names scope first parts index found now noted → length parts ≤ index
    → Done (pattern_trees names.before) resolved_patterns patterns_offences patterns_scope scope first parts
    (pattern_trees names.after found) now.scope noted
patterns_done {names} {found = found} h over = all_done h.so_far over (sym (patterns_all names.after found)) refl refl

-- a resolved pattern with a constructor, and its offences
pub built_found : (start now : Visible) (place : Place) (constructor kept : Symbol) (found : Vec Pattern Global)
    (parts : List Pattern) → now ≡ start → name_of start.names.after kept ≡ name_of start.names.before constructor
    → pattern_trees now.names.after found.items
    ≡ resolved_patterns now.scope (pattern_trees now.names.before parts)
    → pattern_tree start.names.after (code.Built place kept found)
    ≡ Built place (name_of start.names.before constructor)
    (resolved_patterns start.scope (pattern_trees start.names.before parts))
built_found start now place constructor kept found parts same is resolved =
    pattern_tree-built start.names.after place kept found
    ∙ (ap (λ (n : Name). Built place n (pattern_trees start.names.after found.items)) is
    ∙ ap (Built place (name_of start.names.before constructor)) (subst (λ (v : Visible).
    pattern_trees v.names.after found.items ≡ resolved_patterns v.scope (pattern_trees v.names.before parts)) same
    resolved))

pub built_noted : (start now : Visible) (place : Place) (constructor : Symbol) (parts : List Pattern) (taken : Option ℕ)
    (given : ℕ) (first between after : Option Offence) → now ≡ start → given ≡ length parts
    → taken ≡ constructor_taking start.scope.around (name_of start.names.before constructor)
    → between ≡ fold earlier first (applied taken given place)
    → after ≡ fold earlier between (patterns_offences now.scope (pattern_trees now.names.before parts))
    → after ≡ fold earlier first (pattern_offences start.scope
    (Built place (name_of start.names.before constructor) (pattern_trees start.names.before parts)))
built_noted start now place constructor parts taken given first between after same given_is is note noted =
    applied_noted first between after taken
    (constructor_taking start.scope.around (name_of start.names.before constructor)) given
    (count_patterns (pattern_trees start.names.before parts)) place
    (patterns_offences start.scope (pattern_trees start.names.before parts)) is
    (patterns_counted start.names.before parts ∙ sym given_is) note
    (subst (λ (v : Visible).
    after ≡ fold earlier between (patterns_offences v.scope (pattern_trees v.names.before parts))) same noted)
