use Rattle.std.proofs.Common.{◌+◌, ◌≤◌, length, map}
use Rattle.std.specs.List.{All}
use Rattle.abs_lexer.specs.Tokens.{IsWellFormed}
use Rattle.abs_lexer.specs.Views.{lexed}
use Rattle.abs_lexer.proofs.LeadLemmas.{Leads}
use Rattle.abs_lexer.proofs.lexer.tokens.Given as goal

-- the source was split so far, each token takes at least one byte, and each is well formed
abbrev pub invariant-loop-count : goal.invariant-loop-count
invariant-loop-count l = record {
  leads : Leads l.source (map lexed l.list.items) l.here.place l.here.rest.now;
  few : length l.list.items + length l.here.rest.now ≤ length l.source;
  well_formed : All (λ token. IsWellFormed (lexed token)) l.list.items;
}

abbrev pub decreases-loop-count : goal.decreases-loop-count
decreases-loop-count l = length l.here.rest.now
