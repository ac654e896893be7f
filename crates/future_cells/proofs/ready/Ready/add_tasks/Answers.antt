use Rattle.std.proofs.Common.{arith, ◌∙◌, ap, length, sym, ◌<◌, ◌++◌, ◌∷◌, [], subst, List}
use Rattle.std.proofs.lemmas.List.{length-append, length-map, take_all}
use Rattle.std.proofs.lemmas.List.{length-take-le}
use Rattle.std.proofs.lemmas.Option.{same_Some}
use Rattle.config_state.specs.declared.cog.Cog.{Cog}
use Rattle.future_cells.specs.Following.{going_post, going_posts}
use Rattle.future_cells.specs.declared.posts.Post.{Post}
use Rattle.list_facts.proofs.EntryLemmas.{take-found}
use Rattle.future_cells.proofs.ItemLemmas.{slice_get-of_map}
use Rattle.future_cells.proofs.CodeStandingLemmas.{cell_home}
use Rattle.future_cells.proofs.ready.Ready.add_tasks.Goals as goal

pub grow-requires-clause-home_there : goal.grow-requires-clause-home_there
grow-requires-clause-home_there c cog is =
    let home = cell_home c.args.config.now c.loop-task.task c.at.result.now c.at.ensures in
    let cogs = ap length (c.loop-task.invariant.holders ∙ c.requires.holders) in
    subst (λ cog. cog < length c.loop-task.self.holders) (same_Some c.at.result.now.cog cog is)
    (omega (arith, home, cogs, length-map c.args.config.now.cogs (λ (cog : Cog). cog.holder)))

pub grow-requires-clause-room : goal.grow-requires-clause-room
grow-requires-clause-room c =
    omega (arith, c.loop-task.invariant.spare, c.requires.room, c.loop-task-test.true, c.len-task-end.ensures.is)

pub grow-requires-clause-few : goal.grow-requires-clause-few
grow-requires-clause-few c =
    let posts = going_posts c.args.config.now.tasks in
    let count = length-map c.args.config.now.tasks going_post in
    let front = length-take-le c.loop-task.task posts (omega (arith, c.loop-task-test.true, count, c.len-task-end.ensures.is)) in
    let one_more = length-append c.loop-task.self.posts (going_post c.at.result.now ∷ []) in
    omega (arith, one_more, ap length c.loop-task.invariant.posts, front, c.loop-task-test.true, c.len-task-end.ensures.few)

pub loop-task-preserved : goal.loop-task-preserved
loop-task-preserved c =
    let so_far = c.loop-task.invariant in
    let post = going_post c.at.result.now in
    record {
      posts = c.grow.ensures.posts ∙ ap (λ (all : List Post). all ++ post ∷ []) so_far.posts
          ∙ sym (take-found (going_posts c.args.config.now.tasks) c.loop-task.task post
          (slice_get-of_map going_post
          c.args.config.now.tasks c.loop-task.task c.at.result.now c.at.ensures));
      holders = c.grow.ensures.holders ∙ so_far.holders;
      spare = omega (arith, so_far.spare, c.grow.ensures.spare);
    }

pub returns-clause-posts : goal.returns-clause-posts
returns-clause-posts c =
    let count = length-map c.args.config.now.tasks going_post in
    c.loop-task.invariant.posts ∙ take_all c.loop-task.task (going_posts c.args.config.now.tasks)
    (omega (arith, c.loop-task-test.false, c.len-task-end.ensures.is, count))
