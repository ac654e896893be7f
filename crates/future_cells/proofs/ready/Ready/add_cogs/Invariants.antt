use Rattle.std.proofs.Common.{◌≡◌, ◌≤◌, ◌+◌, take}
use Rattle.future_cells.specs.Standings.{holders_of}
use Rattle.future_cells.proofs.ready.Ready.add_cogs.Given as goal

-- the holders so far
abbrev pub invariant-loop-cog : goal.invariant-loop-cog
invariant-loop-cog l = record {
  posts : l.self.posts ≡ l.initial.self.posts;
  holders : l.self.holders ≡ take l.cog (holders_of l.config.cogs);
  spare : l.initial.self.spare ≤ l.self.spare + l.cog;
}
