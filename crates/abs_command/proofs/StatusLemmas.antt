-- What the status of a run says of its report and its end.
--
--   `chain_listed`             whether a report lists a chain, by whether it is empty
--   `report_ends`              the status is one that an analysis alone may end with
--   `run_ends`                 the status is one that a run may end with
--   `run_goes_through`         it is none of a call that gave up
--   `never_stalled`            an analysis alone does not stall
--   `chains_alone`             its status is `Chains` exactly where a chain is listed
--   `chains_when`              that of a run is `Chains` exactly where a chain is listed and each task has a result
--   `stalled_when`             it is `Stalled` exactly where the run stalled
--   `some_chain`               with `Chains` some chain is listed
--   `clean_empty`, `failed_empty`  with `Clean` and with `Failed` none is
use Rattle.std.proofs.Common.{◌≡◌, ◌≢◌, Bool, true, false, List, [], ◌∷◌, length, refl, ap, ◌∙◌, arith, not, ◌==◌}
use Rattle.std.proofs.lemmas.Bool.Decides.{nat_tests}
use Rattle.std.proofs.lemmas.List.Elements.{Contains-get_or}
use Rattle.std.specs.Prelude.{◌↔◌, Contains, Some}
use Rattle.contract_terms.specs.declared.pair.Pair.{Pair}
use Rattle.step_rules.specs.declared.kind.End.{End}
use Rattle.step_rules.specs.declared.kind.End.TheVariants as ends
use Rattle.abs_command.specs.Statuses.{has_chain, status_by, status_of_report, IsOfReport, IsOfRun, GivesUp}
use Rattle.abs_command.specs.declared.command.Status.{Status}
use Rattle.abs_command.specs.declared.command.Status.TheVariants as status

-- whether a report lists a chain, by whether it is empty
pub chain_listed : (report : List (List Pair)) (empty : Bool) → empty ≡ (length report == 0)
    → not empty ≡ has_chain report
chain_listed [] empty is = cc
chain_listed (chain ∷ others) empty is =
    let some : (length (chain ∷ others) == 0) ≡ false = grind (arith, nat_tests) in ap not (is ∙ some)

-- the status is one that an analysis alone may end with
pub report_ends : (report : List (List Pair)) → IsOfReport (status_of_report report)
report_ends [] = tt
report_ends (chain ∷ others) = tt

-- the status is one that a run may end with
pub run_ends : (chained : Bool) (end : End) (failed : Bool) → IsOfRun (status_by chained end failed)
run_ends true ends.Done failed = tt
run_ends false ends.Done true = tt
run_ends false ends.Done false = tt
run_ends chained ends.Stalled failed = tt
run_ends chained ends.Spent failed = tt

-- it is none of a call that gave up
pub run_goes_through : (chained : Bool) (end : End) (failed : Bool) → GivesUp (status_by chained end failed) → ⊥
run_goes_through true ends.Done failed h = h
run_goes_through false ends.Done true h = h
run_goes_through false ends.Done false h = h
run_goes_through chained ends.Stalled failed h = h
run_goes_through chained ends.Spent failed h = h

-- an analysis alone does not stall
pub never_stalled : (report : List (List Pair)) → status.Stalled ≡ status_of_report report → ⊥
never_stalled [] is = cc
never_stalled (chain ∷ others) is = cc

-- its status is `Chains` exactly where a chain is listed
pub chains_alone : (report : List (List Pair)) (came : Status) → came ≡ status_of_report report
    → (came ≡ status.Chains) ↔ (report ≢ [])
chains_alone [] came is = ((λ chains. absurd (cc)), λ some. absurd (some refl))
chains_alone (chain ∷ others) came is = ((λ chains empty. cc), λ some. is)

-- it is `Chains` exactly where a chain is listed and each task has a result
pub chains_when : (report : List (List Pair)) (end : End) (failed : Bool) (came : Status)
    → came ≡ status_by (has_chain report) end failed
    → (came ≡ status.Chains) ↔ ((report ≢ []) × (Some end ≡ Some ends.Done))
chains_when [] ends.Done true came is = ((λ chains. absurd (cc)), λ both. absurd (both.0 refl))
chains_when [] ends.Done false came is = ((λ chains. absurd (cc)), λ both. absurd (both.0 refl))
chains_when (chain ∷ others) ends.Done failed came is = ((λ chains. ((λ empty. absurd (cc)), refl)), λ both. is)
chains_when report ends.Stalled failed came is =
    ((λ chains. absurd (cc)), λ both. let done = both.1 in absurd (cc))
chains_when report ends.Spent failed came is =
    ((λ chains. absurd (cc)), λ both. let done = both.1 in absurd (cc))

-- it is `Stalled` exactly where the run stalled
pub stalled_when : (chained : Bool) (end : End) (failed : Bool) (came : Status) → came ≡ status_by chained end failed
    → (came ≡ status.Stalled) ↔ (Some end ≡ Some ends.Stalled)
stalled_when true ends.Done failed came is = ((λ stalled. absurd (cc)), λ end_is. absurd (cc))
stalled_when false ends.Done true came is = ((λ stalled. absurd (cc)), λ end_is. absurd (cc))
stalled_when false ends.Done false came is = ((λ stalled. absurd (cc)), λ end_is. absurd (cc))
stalled_when chained ends.Stalled failed came is = ((λ stalled. refl), λ end_is. is)
stalled_when chained ends.Spent failed came is = ((λ stalled. absurd (cc)), λ end_is. absurd (cc))

-- with `Chains` some chain is listed
pub some_chain : (report : List (List Pair)) (end : End) (failed : Bool)
    → status.Chains ≡ status_by (has_chain report) end failed → (chain : List Pair) × Contains report chain
some_chain (chain ∷ others) end failed is = (chain, Contains-get_or (chain ∷ others) 0 chain (omega arith))
some_chain [] ends.Done true is = absurd (cc)
some_chain [] ends.Done false is = absurd (cc)
some_chain [] ends.Stalled failed is = absurd (cc)
some_chain [] ends.Spent failed is = absurd (cc)

-- with `Clean` and with `Failed` none is
pub clean_empty : (report : List (List Pair)) (end : End) (failed : Bool)
    → status.Clean ≡ status_by (has_chain report) end failed → report ≡ []
clean_empty [] end failed is = refl
clean_empty (chain ∷ others) ends.Done failed is = absurd (cc)
clean_empty (chain ∷ others) ends.Stalled failed is = absurd (cc)
clean_empty (chain ∷ others) ends.Spent failed is = absurd (cc)

pub failed_empty : (report : List (List Pair)) (end : End) (failed : Bool)
    → status.Failed ≡ status_by (has_chain report) end failed → report ≡ []
failed_empty [] end failed is = refl
failed_empty (chain ∷ others) ends.Done failed is = absurd (cc)
failed_empty (chain ∷ others) ends.Stalled failed is = absurd (cc)
failed_empty (chain ∷ others) ends.Spent failed is = absurd (cc)
