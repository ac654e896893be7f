-- Where the wanted program is refused, the parser fails. A token that was moved over is not too deeply nested, since a
-- reading has it within the limit. It is no syntax error, since the items wanted after it can be completed. A token
-- that blocks the wanted items is refused: no list that continues with it is a program, or one nests it too deeply. So
-- the parser fails at that token, since all tokens before it were moved over. In a source that is read within the limit
-- it fails nowhere, since all its tokens were moved over.
use Rattle.std.proofs.Common.{◌≡◌, ◌≤◌, ◌<◌, ℕ, suc, true, List, [], ◌∷◌, ◌++◌, length, refl, arith}
use Rattle.std.proofs.lemmas.List.{append_assoc, length-append}
use Rattle.abs_tree.specs.declared.refusal.Code.{Code}
use Rattle.abs_parser.specs.TokenKinds.{Mark, TokenKind, token_kind, fits}
use Rattle.abs_parser.specs.Readings.{Wanted, Terminal, Forest, Reads, depths}
use Rattle.abs_parser.specs.Refusing.{AllWithin}
use Rattle.abs_parser.specs.Stops.{limit, IsDeep, IsWrong, RefusedBy, StopsAt, IsAccepted}
use Rattle.abs_parser.specs.Stops.RefusedBy.{deep, wrong}
use Rattle.abs_parser.proofs.stop.FinishLemmas.{finishes}
use Rattle.abs_parser.proofs.stop.CompletionLemmas.{Fine, finish, fine_start, fine_after, fine_moves}
use Rattle.abs_parser.proofs.stop.MoveLemmas.{Stays, Blocks, Unread, TooDeep, Blocked, passes, read_ahead, read_back, MovesUpTo, moves_up_to, MovesOver, moves_over}
use Rattle.abs_parser.proofs.grammar.ReadingLemmas.{a_program, WholeReading, token_put}

-- Where the depths of the passed tokens are within the limit, that of the last of them is.
last_within : (before after passed ahead : List ℕ) (depth : ℕ) → before ++ depth ∷ after ≡ passed ++ ahead
    → length passed ≡ suc (length before)
    → AllWithin passed → depth ≤ limit
last_within before after [] ahead depth are long within = absurd (omega arith)
last_within [] after (first ∷ passed) ahead depth are long within =
    let same : depth ≡ first = cc in
    omega (arith, within.0)
last_within (first ∷ before) after (other ∷ passed) ahead depth are long within =
    last_within before after passed ahead depth (cc) (omega arith) within.1

-- A token that was moved over is not too deeply nested.
not_deep : {before : List Mark} {mark : Mark} → MovesOver a_program before mark → IsDeep before mark → ⊥
not_deep {before} {mark} over below =
    let all = read_ahead (over.moves below.after)
    (record { forest = below.forest; reads = below.reads.reads; are = below.are }) in
    let count : length all.passed ≡ suc (length below.depths_before) =
    omega (arith, all.count, below.place, length-append before (mark ∷ below.after)) in
    let within = last_within below.depths_before below.depths_after all.passed all.ahead below.depth all.are count
    all.within in
    omega (arith, below.deep)

-- A token that was moved over is no syntax error.
not_wrong : {before : List Mark} {mark : Mark} → MovesOver a_program before mark → IsWrong before mark → ⊥
not_wrong over none =
    let last = finishes over.others (fine_moves (over.moves []) fine_start) in
    let all = read_back (over.moves (finish over.others)) last.whole in
    none (finish over.others) all.reading.forest record { reads = all.reading.reads }

-- A token that was moved over is not refused.
not_refused : {before : List Mark} {mark : Mark} {code : Code} → MovesOver a_program before mark
    → RefusedBy before mark code → ⊥
not_refused over (deep below) = not_deep over below
not_refused over (wrong code none is) = not_wrong over none

-- Each token before one that the items moved up to was moved over.
each_over : {others : List Wanted} {mark : Mark} {ts after : List Mark}
    → (up : MovesUpTo a_program others mark ts after) → (front more : List Mark) (other : Mark)
    → up.before ≡ front ++ other ∷ more → MovesOver a_program front other
each_over {mark = mark} {after = after} up front more other is =
    let all : up.before ++ mark ∷ after ≡ front ++ other ∷ (more ++ mark ∷ after) =
    rw is (append_assoc front (other ∷ more) (mark ∷ after)) in
    moves_over (up.moves after) front other (more ++ mark ∷ after) all
    (omega (arith, length-append more (mark ∷ after)))

-- A token that fits beyond the limit is too deeply nested: the items wanted after it can be completed.
is_deep : {kind : TokenKind} {depth : ℕ} {items : List Wanted} {mark : Mark} {ts after : List Mark}
    → (up : MovesUpTo a_program (Terminal kind depth ∷ items) mark ts after)
    → Fine (Terminal kind depth ∷ items) → fits kind (token_kind mark) ≡ true → limit < depth → IsDeep up.before mark
is_deep {kind} {depth} {items} {mark} up fine fit below =
    let last = finishes items (fine_after kind depth items fine) in
    let all = read_back (up.moves (finish items)) (token_put fit last.whole) in
    record {
      after = finish items;
      forest = all.reading.forest;
      reads = record { reads = all.reading.reads };
      depths_before = all.passed;
      depth = depth;
      depths_after = last.depths;
      are = all.reading.are;
      place = omega (arith, all.count, length-append up.before (mark ∷ finish items));
      deep = below;
    }

-- A token is a syntax error if no list that begins with it is read as the items wanted there.
is_wrong : {others : List Wanted} {mark : Mark} {ts after : List Mark} → (up : MovesUpTo a_program others mark ts after)
    → ((more : List Mark) (levels : List ℕ) → WholeReading others (mark ∷ more) levels → ⊥) → IsWrong up.before mark
is_wrong up none = λ more forest program.
    let rest = read_ahead (up.moves more) (record { forest = forest; reads = program.reads; are = refl }) in
    none more rest.ahead rest.reading

-- A token that blocks the wanted items is refused.
is_refused : {others : List Wanted} {mark : Mark} {ts after : List Mark} {code : Code}
    → (up : MovesUpTo a_program others mark ts after) → Fine others
    → Blocks others mark code → RefusedBy up.before mark code
is_refused up fine (Unread none is) = wrong _ (is_wrong up none) is
is_refused up fine (TooDeep fit below) = deep (is_deep up fine fit below)

-- The parser fails at the first token of the rest.
pub record Stopped (ts rest : List Mark) (code : Code) : Type 0 where
  pub before : List Mark
  pub mark : Mark
  pub stops : StopsAt ts before mark code
  pub is : rest ≡ mark ∷ stops.after

-- The parser fails at a token that blocks the wanted program.
pub stopped : {ts rest : List Mark} {code : Code} → Blocked a_program ts rest code → Stopped ts rest code
stopped blocked =
    let up = moves_up_to blocked.moves in
    record {
      before = up.before;
      mark = blocked.mark;
      stops = record {
        after = blocked.after;
        is = up.is;
        refused = is_refused up (fine_moves blocked.moves fine_start) blocked.blocks;
        not_wrong = λ front others other is. not_wrong (each_over up front others other is);
        not_deep = λ front others other is. not_deep (each_over up front others other is);
      };
      is = blocked.is;
    }

-- A list that is read within the limit is accepted.
pub accepted : {ts : List Mark} {forest : Forest} → Reads a_program ts forest [] → AllWithin (depths forest)
    → IsAccepted ts forest
accepted reads within = record {
  reads = record { reads = reads };
  no_stop = λ before mark code stop.
      not_refused (moves_over (passes reads within Stays) before mark stop.after stop.is (omega arith)) stop.refused;
}
