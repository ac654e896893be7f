use Rattle.std.proofs.Common.{◌≡◌, ◌⊎◌, inl, inr, Option, Some, None, refl}
use Rattle.step_rules.proofs.turns.put.Goals as goal

-- there is a value, or there is none
there_or_none : {A : Type 0} (found : Option A) → (found ≡ None) ⊎ ((value : A) × (found ≡ Some value))
there_or_none None = inl refl
there_or_none (Some value) = inr (value, refl)

pub returns-in-Nothing-clause-fields : goal.returns-in-Nothing-clause-fields
returns-in-Nothing-clause-fields c =
    rw c.in-Nothing.is (elim (there_or_none c.args.fields) [ inl none ↦ rw none tt | inr some ↦ rw some.1 refl ])

pub returns-in-Local-clause-fields : goal.returns-in-Local-clause-fields
returns-in-Local-clause-fields c =
    rw c.in-Local.is (elim (there_or_none c.args.fields) [ inl none ↦ rw none tt | inr some ↦ rw some.1 refl ])

pub returns-in-Some-clause-fields : goal.returns-in-Some-clause-fields
returns-in-Some-clause-fields c = rw (c.in-Field.is, c.in-Some.is) c.put_at-in-Some.ensures
