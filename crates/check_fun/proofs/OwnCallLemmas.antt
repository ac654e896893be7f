-- A call on `this` inside an expression.
--
--   `own_call_noted`       its offences were noted, those of its method and of its arguments
use Rattle.std.proofs.Common.{◌≡◌, Bool, true, false, List, ◌++◌, Option, refl, ap, ◌∙◌, subst, not, is_some}
use Rattle.std.specs.declared.alloc.Global.{Global}
use Rattle.std.specs.declared.vec.Vec.{Vec}
use Rattle.abs_tree.specs.declared.place.Place.{Place}
use Rattle.abs_tree.specs.declared.refusal.Code.TheVariants.{T1, T2}
use Rattle.abs_tree.specs.declared.refusal.Offence.{Offence}
use Rattle.abs_tree.specs.Offences.{offence_if}
use Rattle.abs_types.specs.PlainTypes.{PlainType}
use Rattle.abs_types.specs.declared.table.shape.TypeIndex.{TypeIndex}
use Rattle.check_fun.proofs.ContextLemmas.{noted_after}
use Rattle.check_fun.specs.Contexts.{items_of, FindsAll, Noted}
use Rattle.check_fun.specs.declared.checker.Checker.{Checker}
use Rattle.list_facts.proofs.OptionLemmas.{is_some-mapped}

-- what is not missing is there
not_lacking : {has : Bool} (lacks : Bool) → has ≡ not lacks → not has ≡ lacks
not_lacking true is = ap not is
not_lacking false is = ap not is

-- the offences of the method and of the arguments were noted
pub own_call_noted : {checker : Checker} {before between now : Option Offence} {has given : Bool}
    {types : Option (List PlainType)} (arguments : Option (Vec TypeIndex Global)) (lacks : Bool) (place : Place) → has ≡ not lacks → given ≡ is_some arguments
    → FindsAll checker (items_of arguments) types → Noted before (offence_if (not has) T2 place) between
    → Noted between (offence_if given T1 place) now
    → Noted before (offence_if lacks T2 place ++ offence_if (is_some types) T1 place) now
own_call_noted {before = before} {between} {now} {types = types} arguments lacks place method given finds first second =
    noted_after (offence_if lacks T2 place) (offence_if (is_some types) T1 place)
    (subst (λ (missing : Bool). Noted before (offence_if missing T2 place) between) (not_lacking lacks method) first)
    (subst (λ (typed : Bool). Noted between (offence_if typed T1 place) now)
    (given ∙ is_some-mapped arguments (λ (one : Vec TypeIndex Global). one.items) refl
    ∙ is_some-mapped (items_of arguments) _ finds.are)
    second)
