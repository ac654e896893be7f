-- What follows for results and errors.
use Rattle.std.specs.Prelude.{Result, OnErr, Ok, Err, OnOk}

-- What holds in any case holds where there is an error.
pub OnErr-always : {A E : Type 0} (result : Result A E) {P : Type 0} → P → OnErr result P
OnErr-always (Ok a) h = tt
OnErr-always (Err e) h = h

-- what holds in any case holds if there is no error
pub OnOk-always : {T E P : Type 0} (result : Result T E) → P → OnOk result P
OnOk-always (Ok given) holds = holds
OnOk-always (Err error) holds = tt

-- what follows from a value and from an error is so
pub OnOk-or_OnErr : {T E P Q R : Type 0} (result : Result T E) → OnOk result P → OnErr result Q → (P → R) → (Q → R) → R
OnOk-or_OnErr (Ok value) good bad by_value by_error = by_value good
OnOk-or_OnErr (Err error) good bad by_value by_error = by_error bad

-- Two facts of a failed call give a third.
pub OnErr-both : {T E P Q R : Type 0} (result : Result T E) → (P → Q → R) → OnErr result P → OnErr result Q
    → OnErr result R
OnErr-both (Ok value) both one other = one
OnErr-both (Err failed) both one other = both one other
