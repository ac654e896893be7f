-- The candidates of other cogs stay where a task changes by itself.
use Rattle.std.proofs.Common.{◌≡◌, Some, length, ap, arith, rules, sym, ◌∙◌}
use Rattle.std.proofs.lemmas.Option.{same_Some}
use Rattle.std.proofs.Math.ListN.{length-set}
use Rattle.future_cells.proofs.ItemLemmas.{set-found}
use Rattle.future_cells.proofs.ReseatLemmas.{stood-is, AreCandidates-reseated, AreCandidatesBut-stood, GoAtHomeBut-candidates}
use Rattle.future_cells.specs.declared.posts.Post.{Post}
use Rattle.future_cells.specs.declared.posts.Standing.{Standing}
use Rattle.future_cells.proofs.ready.Ready.stand.Goals as goal

pub reseat-requires-clause-others : goal.reseat-requires-clause-others
reseat-requires-clause-others c =
    let parts = c.self.inside in
    GoAtHomeBut-candidates _ _ _ _ _
    (AreCandidatesBut-stood parts.posts.posts c.stand.new.self.posts parts.holders.items parts.last
    parts.candidates.seats c.args.task c.at-before.result c.args.standing c.self.invariant.0 c.at-before.ensures.post
    c.stand.ensures.posts)

pub invariant_of-self : goal.invariant_of-self
invariant_of-self c =
    let parts = c.self.inside in
    let changed = ap length
    (stood-is parts.posts.posts c.stand.new.self.posts c.args.task c.at-before.result c.args.standing
    c.at-before.ensures.post c.stand.ensures.posts) in (
      AreCandidates-reseated _ _ _ _ _ _ _
          (AreCandidatesBut-stood parts.posts.posts c.stand.new.self.posts parts.holders.items parts.last
          parts.candidates.seats c.args.task c.at-before.result c.args.standing c.self.invariant.0 c.at-before.ensures.post
          c.stand.ensures.posts)
          c.deref.ensures.value c.reseat.ensures.seats,
      omega arith,
      omega (arith, changed, length-set parts.posts.posts c.args.task),
      omega arith,
      omega arith,
      omega arith,
      omega arith,
      omega arith,
      omega arith,
    )

pub returns-then-eq-clause-posts : goal.returns-then-eq-clause-posts
returns-then-eq-clause-posts c post posted =
    let items = c.self.inside.posts.posts in
    let there = rw (← c.self.view_is) at posted in
    let same : c.at-before.result.standing ≡ c.args.standing = search rules in
    let is = same_Some post c.at-before.result (sym there ∙ c.at-before.ensures.post) in
    rw (← c.self.view_is, ← same)
    (sym (set-found items c.args.task (record post { standing = c.at-before.result.standing })
    (there ∙ ap (λ (standing : Standing). Some (record post { standing = standing }))
    (ap (λ (one : Post). one.standing) is))))
