-- What the result of a call says where it is passed on: by `?`, with its error; or as it is, for a part whose last part
-- the call parsed.
use Rattle.std.proofs.Common.{◌≡◌, sym, subst}
use Rattle.std.specs.Prelude.{Result, Ok, Err, IsErrAnd, IfOk, IfErr}
use Rattle.abs_tree.specs.declared.source_error.SourceError.{SourceError}
use Rattle.abs_parser.specs.ReaderAnswers.{Parse, Parses}

-- what holds of an error holds where a `?` passes it on
pub error_passed_on : {X : Type 0} {error : SourceError} (P : SourceError → Type 0) (result : Result X SourceError)
    → IsErrAnd result (λ passed. passed ≡ error) → P error → IfErr result P
error_passed_on P (Ok x) passed holds = absurd passed
error_passed_on P (Err e) passed holds = subst P (sym passed) holds

-- a part is refused by an error where a `?` passes it on
pub passed_on : {X : Type 0} (part : Parse X) (error : SourceError) (result : Result X SourceError)
    → IsErrAnd result (λ passed. passed ≡ error) → Parses (Err error) part → Parses result part
passed_on part error (Ok x) passed refused = absurd passed
passed_on part error (Err e) passed refused = subst (λ (e : SourceError). Parses (Err e) part) (sym passed) refused

-- what a call returned for the last part of a whole is returned for the whole
pub parses_further : {X : Type 0} (part whole : Parse X) (result : Result X SourceError)
    → ((found : X) → Parses (Ok found) part → Parses (Ok found) whole)
    → ((error : SourceError) → Parses (Err error) part → Parses (Err error) whole) → Parses result part
    → Parses result whole
parses_further part whole (Ok x) found refused parses = found x parses
parses_further part whole (Err e) found refused parses = refused e parses

-- the same where two clauses of the call say what it found and what it refuses
pub parses_by : {X : Type 0} (P : X → Type 0) (Q : SourceError → Type 0) (whole : Parse X)
    (result : Result X SourceError) → ((found : X) → P found → Parses (Ok found) whole)
    → ((error : SourceError) → Q error → Parses (Err error) whole) → IfOk result P → IfErr result Q
    → Parses result whole
parses_by P Q whole (Ok x) found refused holds fails = found x holds
parses_by P Q whole (Err e) found refused holds fails = refused e fails
