use denote.Struct.Props as logic
use mathlib.Core.Logic.{∥∥₁_elim, ∥∥₁_map}
use Rattle.std.proofs.Common.{ℕ, Option, arith, ap, sym, ◌∙◌, List, length, nat_lt, set, slice_get}
use Rattle.abs_program.specs.NamedViews.{program_tree}
use Rattle.future_cells.specs.Ready.{holders_with, posts_with}
use Rattle.future_cells.specs.declared.posts.Post.{Post}
use Rattle.future_cells.proofs.CodeFollowedLemmas as code
use Rattle.future_cells.proofs.CodeFollowedLemmas.{home_of}
use Rattle.future_cells.proofs.CodeStandingLemmas.{cell_home}
use Rattle.future_cells.proofs.ready.Ready.follow.Goals as goal

pub grow-requires-clause-home_there : goal.grow-requires-clause-home_there
grow-requires-clause-home_there c cog is =
    ∥∥₁_elim c.requires.moved (Prim.hlevel logic.props) (λ moved.
    rw (c.cog_count.ensures, c.len.ensures.is) (code.home-there (program_tree c.args.program.now) c.args.program.now.symbols c.args.config.now c.args.task c.args.did.now
    c.args.self.now moved cog
    (sym (c.new_home-home.ensures.home ∙ ap (home_of c.args.config.now) c.task_count.ensures) ∙ is)))

pub grow-requires-clause-few : goal.grow-requires-clause-few
grow-requires-clause-few c =
    ∥∥₁_elim c.requires.moved (Prim.hlevel logic.props) (λ moved.
    let home = c.new_home-home.ensures.home ∙ ap (home_of c.args.config.now) c.task_count.ensures in
    let count = code.posts-count (program_tree c.args.program.now) c.args.program.now.symbols c.args.config.now c.args.task c.args.did.now
    c.args.self.now moved in
    omega (
      arith,
      ap (λ (home : Option ℕ). length (posts_with home c.args.self.now.posts)) home,
      count,
      c.new_home-home.ensures.few,
    ))

pub standing_of-requires-clause-there : goal.standing_of-requires-clause-there
standing_of-requires-clause-there c =
    ∥∥₁_elim c.requires.moved (Prim.hlevel logic.props) (λ moved.
    code.moved-within (program_tree c.args.program.now) c.args.program.now.symbols c.args.config.now c.args.task c.args.did.now
    c.args.self.now moved)

pub stand-requires-clause-there : goal.stand-requires-clause-there
stand-requires-clause-there c =
    ∥∥₁_elim c.requires.moved (Prim.hlevel logic.props) (λ moved.
    let home = c.new_home-home.ensures.home ∙ ap (home_of c.args.config.now) c.task_count.ensures in
    let count = code.posts-count (program_tree c.args.program.now) c.args.program.now.symbols c.args.config.now c.args.task c.args.did.now
    c.args.self.now moved in
    omega (
      arith,
      ap length c.grow.ensures.posts,
      ap (λ (home : Option ℕ). length (posts_with home c.args.self.now.posts)) home,
      count,
      code.moved-within (program_tree c.args.program.now) c.args.program.now.symbols c.args.config.now c.args.task c.args.did.now
          c.args.self.now moved,
    ))

pub stand-requires-clause-open : goal.stand-requires-clause-open
stand-requires-clause-open c post posted ended =
    ∥∥₁_elim c.requires.moved (Prim.hlevel logic.props) (λ moved.
    let home = c.new_home-home.ensures.home ∙ ap (home_of c.args.config.now) c.task_count.ensures in
    code.moved-open (program_tree c.args.program.now) c.args.program.now.symbols c.args.config.now c.args.task c.args.did.now
    c.args.self.now moved post
    (ap (λ (home : Option ℕ). slice_get (posts_with home c.args.self.now.posts) c.args.task) (sym home)
    ∙ ap (λ all. slice_get all c.args.task) (sym c.grow.ensures.posts) ∙ posted) ended)

pub stand-requires-clause-future_there : goal.stand-requires-clause-future_there
stand-requires-clause-future_there c future waits =
    ∥∥₁_elim c.requires.moved (Prim.hlevel logic.props) (λ moved.
    let home = c.new_home-home.ensures.home ∙ ap (home_of c.args.config.now) c.task_count.ensures in
    let count = code.posts-count (program_tree c.args.program.now) c.args.program.now.symbols c.args.config.now c.args.task c.args.did.now
    c.args.self.now moved in
    omega (
      arith,
      ap length c.grow.ensures.posts,
      ap (λ (home : Option ℕ). length (posts_with home c.args.self.now.posts)) home,
      count,
      c.standing_of.ensures.future_there future waits,
    ))

pub at-requires : goal.at-requires
at-requires c =
    ∥∥₁_elim c.requires.moved (Prim.hlevel logic.props) (λ moved.
    code.moved-within (program_tree c.args.program.now) c.args.program.now.symbols c.args.config.now c.args.task c.args.did.now
    c.args.self.now moved)

pub at-requires-2 : goal.at-requires-2
at-requires-2 c =
    cell_home c.args.config.now c.args.task c.at.result.now c.at.ensures

pub hold-requires : goal.hold-requires
hold-requires c =
    let home = cell_home c.args.config.now c.args.task c.at.result.now c.at.ensures in
    record {
      there = ∥∥₁_elim c.requires.moved (Prim.hlevel logic.props) (λ moved.
          let count = code.cogs-count (program_tree c.args.program.now) c.args.program.now.symbols c.args.config.now c.args.task c.args.did.now
          c.args.self.now moved in
          let given = ap (λ (n : ℕ). length (holders_with (nat_lt n c.len.result) c.args.self.now.holders))
          c.cog_count.ensures in
          let known = ap (λ (n : ℕ). length (holders_with (nat_lt (length c.args.self.now.holders) n)
          c.args.self.now.holders)) c.len.ensures.is in
          omega (arith, home, count, given, known, ap length c.grow.ensures.holders, ap length c.stand.ensures.holders));
    }

pub returns-clause-follows : goal.returns-clause-follows
returns-clause-follows c =
    let ready = c.args.self.now in
    let home = c.new_home-home.ensures.home ∙ ap (home_of c.args.config.now) c.task_count.ensures in
    let posts = c.grow.ensures.posts ∙ ap (λ (home : Option ℕ). posts_with home ready.posts) home in
    let holders = c.stand.ensures.holders ∙ c.grow.ensures.holders
    ∙ ap (λ (n : ℕ). holders_with (nat_lt n c.len.result) ready.holders) c.cog_count.ensures
    ∙ ap (λ (n : ℕ). holders_with (nat_lt (length ready.holders) n) ready.holders) c.len.ensures.is in
    ∥∥₁_map c.requires.moved (λ moved.
    code.follows-code (program_tree c.args.program.now) c.args.program.now.symbols c.args.config.now c.args.task c.args.did.now
    c.args.self.now moved c.hold.new.self c.standing_of.result c.at.result.now c.at-2.result.now c.at.ensures
    c.at-2.ensures
    (λ post posted. c.hold.ensures.posts
    ∙ c.stand.ensures.posts post (ap (λ (all : List Post). slice_get all c.args.task) posts ∙ posted)
    ∙ ap (λ (all : List Post). set all c.args.task (record post { standing = c.standing_of.result })) posts)
    (c.hold.ensures.holders
    ∙ ap (λ (all : List (Option ℕ)). set all c.at.result.now.cog c.at-2.result.now.holder) holders)
    c.standing_of.ensures.standing)
