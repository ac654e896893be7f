-- What is left of a scope after the variables that were bound in it are taken away: the scope of before.
use Rattle.std.proofs.Common.{◌≡◌, ℕ, [], ◌∷◌, ◌++◌, refl, sym, ap, ◌∙◌, subst, length, append_assoc}
use Rattle.abs_tree.specs.Syntax.{VariableTree, Unresolved, AtSlot, AtBound, AtField, PatternTree, AnyValue, Binds, SameNumber, SameString, Built, PatternTrees, NoPattern, NextPattern}
use Rattle.abs_names.specs.Numbered.{EndsIn}
use Rattle.abs_names.specs.Scopes.{Meanings, Scope, with_meaning, with_variable, next_bound, pattern_scope, patterns_scope}
use Rattle.abs_names.specs.TypeNames.{Around}
use Rattle.abs_names.specs.Visible.{Names, Visible}

-- A scope has all that another one has, and perhaps newer variables.
pub record Within (outer inner : Scope) : Type 0 where
  pub around : inner.around ≡ outer.around
  pub routine : inner.routine ≡ outer.routine
  pub fields : inner.fields ≡ outer.fields
  pub ends : EndsIn inner.variables outer.variables

pub within_itself : (scope : Scope) → Within scope scope
within_itself scope =
    record { around = refl; routine = refl; fields = refl; ends = record { newer = []; is = refl } }

pub within_both : {outer between inner : Scope} → Within outer between → Within between inner → Within outer inner
within_both {outer} {between} {inner} x y = record {
  around = y.around ∙ x.around;
  routine = y.routine ∙ x.routine;
  fields = y.fields ∙ x.fields;
  ends = record {
    newer = y.ends.newer ++ x.ends.newer;
    is = y.ends.is ∙ (ap (λ (known : Meanings). y.ends.newer ++ known) x.ends.is
        ∙ sym (append_assoc y.ends.newer x.ends.newer outer.variables));
  };
}

one_newer : (known : Meanings) (variable meaning : VariableTree) → EndsIn (with_meaning known variable meaning) known
one_newer known (Unresolved name) meaning = record { newer = (name, meaning) ∷ []; is = refl }
one_newer known (AtSlot slot) meaning = record { newer = []; is = refl }
one_newer known (AtBound depth) meaning = record { newer = []; is = refl }
one_newer known (AtField field) meaning = record { newer = []; is = refl }

pub within_variable : (scope : Scope) (variable meaning : VariableTree)
    → Within scope (with_variable scope variable meaning)
within_variable scope variable meaning =
    record { around = refl; routine = refl; fields = refl; ends = one_newer scope.variables variable meaning }

mutual
  pub within_pattern : (scope : Scope) (pattern : PatternTree) → Within scope (pattern_scope scope pattern)
  within_pattern scope (AnyValue place) = within_itself scope
  within_pattern scope (Binds place variable) = within_variable scope variable (next_bound scope)
  within_pattern scope (SameNumber place number) = within_itself scope
  within_pattern scope (SameString place string) = within_itself scope
  within_pattern scope (Built place constructor arguments) = within_patterns scope arguments

  pub within_patterns : (scope : Scope) (patterns : PatternTrees) → Within scope (patterns_scope scope patterns)
  within_patterns scope NoPattern = within_itself scope
  within_patterns scope (NextPattern first others) =
      within_both (within_pattern scope first) (within_patterns (pattern_scope scope first) others)

-- two scopes of the same names are equal
pub same_visible : (one other : Visible) → one.names ≡ other.names → one.scope ≡ other.scope → one ≡ other
same_visible one other names scope =
    ap (λ (ns : Names). record { names = ns; scope = one.scope }) names
    ∙ ap (λ (s : Scope). record { names = other.names; scope = s }) scope

-- a scope without its newer variables
same_rest : (outer inner : Scope) → Within outer inner
    → record { around = inner.around; routine = inner.routine; fields = inner.fields; variables = outer.variables }
    ≡ outer
same_rest outer inner x =
    ap (λ (a : Around).
    record { around = a; routine = inner.routine; fields = inner.fields; variables = outer.variables }) x.around
    ∙ (ap (λ r. record { around = outer.around; routine = r; fields = inner.fields; variables = outer.variables })
    x.routine
    ∙ ap (λ (f : Meanings).
    record { around = outer.around; routine = outer.routine; fields = f; variables = outer.variables }) x.fields)

-- the scope of before, after what was bound in it is taken away
pub left_is : (before inside now after : Visible) (count : ℕ) → Within before.scope inside.scope
    → inside.names ≡ before.names → now ≡ inside → count ≡ length before.scope.variables → after.names ≡ now.names
    → ((older : Meanings) → EndsIn now.scope.variables older → length older ≡ count
    → after.scope ≡ record {
      around = now.scope.around;
      routine = now.scope.routine;
      fields = now.scope.fields;
      variables = older;
    })
    → after ≡ before
left_is before inside now after count within names same is after_names after_scope =
    let here = subst (λ (v : Visible). Within before.scope v.scope) (sym same) within in
    same_visible after before (after_names ∙ (ap (λ (v : Visible). v.names) same ∙ names))
    (after_scope before.scope.variables here.ends (sym is) ∙ same_rest before.scope now.scope here)
