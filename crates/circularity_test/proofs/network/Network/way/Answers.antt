use Rattle.std.proofs.Common.{◌-◌, subst, arith}
use Rattle.circularity_test.specs.Distances.{distance_of}
use Rattle.circularity_test.specs.Network.{led_to}
use Rattle.circularity_test.specs.Routes.{IsFirst, StepsTo}
use Rattle.circularity_test.proofs.RouteLemmas.{going_done, going_never, going_on}
use Rattle.circularity_test.proofs.network.Network.way.Goals as goal

pub returns-in_default : goal.returns-in_default
returns-in_default c start starts ways away =
    let left = c.loop-left.left - 1 in
    absurd (going_never c.args.self.now (distance_of c.args.far.now) c.args.first c.args.distance
    c.loop-left.chain.items c.loop-left.last c.loop-left.left left
    (let test = c.loop-left-test.true in omega (arith, test))
    c.loop-left.invariant start starts ways away
    (subst (IsFirst (StepsTo c.args.self.now (distance_of c.args.far.now) left
    (led_to c.args.self.now c.loop-left.last))) c.in_default.is c.next.ensures))

pub loop-left-preserved : goal.loop-left-preserved
loop-left-preserved c =
    let left = c.loop-left.left - 1 in
    going_on c.args.self.now (distance_of c.args.far.now) c.args.first c.args.distance
    c.loop-left.chain.items c.loop-left.last c.loop-left.left left
    (let test = c.loop-left-test.true in omega (arith, test))
    c.loop-left.invariant c.in-Some.next c.push-in-loop-left.new.self.items
    (subst (IsFirst (StepsTo c.args.self.now (distance_of c.args.far.now) left
    (led_to c.args.self.now c.loop-left.last))) c.in-Some.is c.next.ensures)
    c.in_ok-push-2.ensures.items

pub returns : goal.returns
returns c start starts ways away =
    going_done c.args.self.now (distance_of c.args.far.now) c.args.first c.args.distance c.loop-left.chain.items
    c.loop-left.last c.loop-left.left (let test = c.loop-left-test.false in omega (arith, test)) c.loop-left.invariant
