use Rattle.std.proofs.Common.{arith, refl, ◌∙◌, ap, length, set, None, ◌++◌, ◌∷◌, [], ℕ, List, Option}
use Rattle.std.proofs.lemmas.List.{length-map, take_all}
use Rattle.std.proofs.lemmas.Option.{slice_get_within}
use Rattle.config_state.specs.declared.cog.Cog.{Cog}
use Rattle.future_cells.specs.Standings.{holders_of}
use Rattle.future_cells.proofs.ItemLemmas.{next-there, slice_get-of_map, take-next_set}
use Rattle.future_cells.proofs.ready.Ready.add_cogs.Goals as goal

pub loop-cog-init : goal.loop-cog-init
loop-cog-init c = record { posts = refl; holders = c.requires.none; spare = omega arith }

pub grow-requires-clause-room : goal.grow-requires-clause-room
grow-requires-clause-room c =
    omega (arith, c.loop-cog.invariant.spare, c.requires.room, c.loop-cog-test.true, c.len-cog-end.ensures.is)

pub grow-requires-clause-few : goal.grow-requires-clause-few
grow-requires-clause-few c = omega (arith, ap length c.loop-cog.invariant.posts, c.requires.few)

pub hold-requires : goal.hold-requires
hold-requires c =
    let holders = holders_of c.args.config.now.cogs in
    let found = slice_get-of_map (λ (cog : Cog). cog.holder) c.args.config.now.cogs c.loop-cog.cog c.at.result.now
    c.at.ensures in
    let within = slice_get_within holders c.loop-cog.cog c.at.result.now.holder found in
    record {
      there = next-there holders c.grow.new.self.holders c.loop-cog.cog None (omega (arith, within))
          (c.grow.ensures.holders ∙ ap (λ (all : List (Option ℕ)). all ++ None ∷ []) c.loop-cog.invariant.holders);
    }

pub loop-cog-preserved : goal.loop-cog-preserved
loop-cog-preserved c =
    let so_far = c.loop-cog.invariant in
    let holders = holders_of c.args.config.now.cogs in
    let index = c.loop-cog.cog in
    record {
      posts = c.hold.ensures.posts ∙ c.grow.ensures.posts ∙ so_far.posts;
      holders = c.hold.ensures.holders
          ∙ ap (λ (all : List (Option ℕ)). set all index c.at.result.now.holder)
          (c.grow.ensures.holders ∙ ap (λ (all : List (Option ℕ)). all ++ None ∷ []) so_far.holders)
          ∙ take-next_set holders index c.at.result.now.holder None
          (slice_get-of_map (λ (cog : Cog). cog.holder) c.args.config.now.cogs index c.at.result.now c.at.ensures);
      spare = omega (arith, so_far.spare, c.grow.ensures.spare, c.hold.ensures.spare);
    }

pub returns-clause-posts : goal.returns-clause-posts
returns-clause-posts c = c.loop-cog.invariant.posts

pub returns-clause-holders : goal.returns-clause-holders
returns-clause-holders c =
    c.loop-cog.invariant.holders ∙ take_all c.loop-cog.cog (holders_of c.args.config.now.cogs) (omega (
      arith,
      c.loop-cog-test.false,
      c.len-cog-end.ensures.is,
      length-map c.args.config.now.cogs (λ (cog : Cog). cog.holder),
    ))

pub returns-clause-spare : goal.returns-clause-spare
returns-clause-spare c =
    omega (arith, c.loop-cog.invariant.spare, c.loop-cog.auto.cog-end, c.len-cog-end.ensures.is)
