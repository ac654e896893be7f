use Rattle.std.proofs.Common.{◌≡◌, ℕ, ◌<◌, ◌≤◌, false, ◌&&◌, length, get_or}
use Rattle.contract_infer.proofs.settled.narrow.Given as goal

-- the slots so far are settled if they were and are among the others; those from the index on are as before
abbrev pub invariant-loop-index : goal.invariant-loop-index
invariant-loop-index l = record {
  size : length l.settled ≡ length l.initial.settled;
  before : (slot : ℕ) → slot < l.index
      → get_or l.settled slot false ≡ (get_or l.others slot false && get_or l.initial.settled slot false);
  after : (slot : ℕ) → l.index ≤ slot → get_or l.settled slot false ≡ get_or l.initial.settled slot false;
}
