-- The candidates of other cogs stay where a task is added.
use Rattle.std.proofs.Common.{◌≡◌, ◌<◌, ◌+◌, ◌^◌, Bool, true, length, ap, sym, subst, ◌∙◌, arith}
use Rattle.future_cells.proofs.ReseatLemmas.{AreCandidates-reseated, AreCandidatesBut-pushed, GoAtHomeBut-candidates, holders_with-few, posts_with-task}
use Rattle.future_cells.specs.Ready.{KeptReady}
use Rattle.future_cells.proofs.ready.Ready.grow.Goals as goal

-- what is asked of the number of cogs, of the parts of the ready set
few_before : {before after : KeptReady} {new_cog : Bool} → before ≡ after
    → (new_cog ≡ true → length after.holders + 1 < 2 ^ 32) → new_cog ≡ true → length before.holders + 1 < 2 ^ 32
few_before same few new = subst (λ (ready : KeptReady). length ready.holders + 1 < 2 ^ 32) (sym same) (few new)

pub invariant_of-self : goal.invariant_of-self
invariant_of-self c = (
  c.add_cog.ensures.candidates c.self.inside.last c.self.invariant.0,
  omega arith,
  omega (arith, ap length c.add_cog.ensures.posts),
  holders_with-few c.args.new_cog c.self.inside.holders.items c.add_cog.new.holders.items c.add_cog.ensures.holders
      (omega arith) (few_before c.self.view_is c.requires.few_cogs),
  omega arith,
  omega arith,
  omega arith,
  omega arith,
  omega arith,
)

pub reseat-requires-clause-seats : goal.reseat-requires-clause-seats
reseat-requires-clause-seats c =
    let are = c.add_cog.ensures.candidates c.self.inside.last c.self.invariant.0 in
    are.seat_for_each ∙ ap length (sym c.deref.ensures.value)

pub reseat-requires-clause-others : goal.reseat-requires-clause-others
reseat-requires-clause-others c =
    let now = c.add_cog.new in
    GoAtHomeBut-candidates _ _ _ _ _
    (AreCandidatesBut-pushed now.posts.posts c.push_task.new.self.posts now.holders.items c.self.inside.last
    now.candidates.seats c.in-Some.cog (c.add_cog.ensures.candidates c.self.inside.last c.self.invariant.0)
    c.push_task.ensures.posts)

pub invariant_of-self-2 : goal.invariant_of-self-2
invariant_of-self-2 c =
    let now = c.add_cog.new in
    let unchanged = c.add_cog.ensures.posts ∙ ap (λ (ready : KeptReady). ready.posts) c.self.view_is in
    let posts = posts_with-task c.args.home c.in-Some.cog c.args.self.now.posts now.posts.posts
    c.push_task.new.self.posts c.in-Some.is unchanged c.push_task.ensures.posts in (
      AreCandidates-reseated _ _ _ _ _ _ _
          (AreCandidatesBut-pushed now.posts.posts c.push_task.new.self.posts now.holders.items c.self.inside.last
          now.candidates.seats c.in-Some.cog (c.add_cog.ensures.candidates c.self.inside.last c.self.invariant.0)
          c.push_task.ensures.posts)
          c.deref.ensures.value c.reseat.ensures.seats,
      omega arith,
      omega (arith, ap length posts),
      holders_with-few c.args.new_cog c.self.inside.holders.items now.holders.items c.add_cog.ensures.holders
          (omega arith) (few_before c.self.view_is c.requires.few_cogs),
      omega arith,
      omega arith,
      omega arith,
      omega arith,
      omega arith,
    )
