use Rattle.std.proofs.Common.{◌≤◌, length, ap, subst, arith}
use Rattle.circularity_test.proofs.StepLemmas.{own_all, own_more}
use Rattle.circularity_test.specs.Parts.{Joins, entry_part}
use Rattle.circularity_test.specs.declared.parts.Part.TheVariants as part
use Rattle.circularity_test.proofs.parts.Parts.enter.Goals as goal

pub loop-index-init : goal.loop-index-init
loop-index-init c = record {
  count = ap length c.requires;
  own = λ at pair less there. absurd (omega (arith, less));
}

pub loop-index-preserved : goal.loop-index-preserved
loop-index-preserved c =
    let pair = c.at-pair.result.now in
    own_more c.args.pairs.now c.loop-index.index pair c.loop-index.self c.lead.new.self c.at-pair.ensures
    c.loop-index.invariant
    (subst (λ target. Joins c.loop-index.self c.lead.new.self (entry_part pair, part.Target target)) c.copied.ensures
    (subst (λ entry. Joins c.loop-index.self c.lead.new.self (entry, part.Target c.copied.result)) c.entry.ensures
    c.in_ok-lead.ensures))

pub returns : goal.returns
returns c = own_all c.args.pairs.now c.loop-index.self c.loop-index.index
    (subst (λ count. count ≤ c.loop-index.index) c.len-index-end.ensures.count c.loop-index-test.false)
    c.loop-index.invariant
