-- The wanted items move over the tokens, within the limit. They take a token that fits or open a part by the next
-- token, until other items are wanted at the rest. Items that a reader refuses have moved up to a token that blocks
-- them, or to where the list was cut off. A whole reading follows the moves: it has the tokens that were moved over,
-- and then reads the items wanted at the rest. The converse holds, too. Moves up to a token depend on that token, but
-- on none after it, and moves over a token depend on none after it, either.
use Rattle.std.proofs.Common.{◌≡◌, ◌≤◌, ◌<◌, ℕ, true, List, [], ◌∷◌, ◌++◌, ◌+◌, length, Some, refl, sym, ap, ◌∙◌, arith}
use Rattle.std.proofs.lemmas.List.{length-append}
use Rattle.abs_tree.specs.declared.refusal.Code.{Code}
use Rattle.abs_tree.specs.declared.refusal.Code.TheVariants.{S2}
use Rattle.abs_parser.specs.TokenKinds.{Mark, TokenKind, token_kind, fits, next}
use Rattle.abs_parser.specs.Readings.{Goal, Wanted, Terminal, Subgoal, opened, Forest, Reads, Nothing, Taken, Opened, depths}
use Rattle.abs_parser.specs.Refusing.{Refuses, Beyond, Other, Below, Past, Shut, Open, Cut, AllWithin}
use Rattle.abs_parser.specs.Stops.{limit, wrong_code}
use Rattle.abs_parser.proofs.grammar.ReadingLemmas.{WholeReading, part_closed, part_opened, token_taken, token_put, unfit_unread, shut_unread, unwanted_unread}

-- These items, wanted at these tokens, become other items, wanted at the rest.
pub data Moves : List Wanted → List Mark → List Wanted → List Mark → Type 0 where
  Stays : {items : List Wanted} {ts : List Mark} → Moves items ts items ts
  Takes : {kind : TokenKind} {depth : ℕ} {items others : List Wanted} {mark : Mark} {ts rest : List Mark}
      → fits kind (token_kind mark) ≡ true → depth ≤ limit → Moves items ts others rest
      → Moves (Terminal kind depth ∷ items) (mark ∷ ts) others rest
  Opens : {goal : Goal} {depth : ℕ} {inner items others : List Wanted} {ts rest : List Mark}
      → opened goal (next ts) depth ≡ Some inner → Moves (inner ++ items) ts others rest
      → Moves (Subgoal goal depth ∷ items) ts others rest

-- A token blocks the wanted items: no list that begins with it is read as them, or it fits but is too deeply nested.
pub data Blocks : List Wanted → Mark → Code → Type 0 where
  Unread : {items : List Wanted} {mark : Mark} {code : Code}
      → ((after : List Mark) (levels : List ℕ) → WholeReading items (mark ∷ after) levels → ⊥)
      → code ≡ wrong_code (token_kind mark) → Blocks items mark code
  TooDeep : {kind : TokenKind} {depth : ℕ} {items : List Wanted} {mark : Mark} → fits kind (token_kind mark) ≡ true
      → limit < depth → Blocks (Terminal kind depth ∷ items) mark S2

-- The wanted items have moved up to a token that blocks them.
pub record Blocked (items : List Wanted) (ts rest : List Mark) (code : Code) : Type 0 where
  pub others : List Wanted
  pub mark : Mark
  pub after : List Mark
  pub is : rest ≡ mark ∷ after
  pub moves : Moves items ts others (mark ∷ after)
  pub blocks : Blocks others mark code

-- The wanted items have moved over all tokens, and some items are left.
pub record CutOff (items : List Wanted) (ts : List Mark) : Type 0 where
  pub item : Wanted
  pub others : List Wanted
  pub moves : Moves items ts (item ∷ others) []

-- The wanted items are refused at a token that blocks them, or where the list was cut off.
pub data Refusal (items : List Wanted) (ts rest : List Mark) (code : Code) : Type 0 where
  AtToken : Blocked items ts rest code → Refusal items ts rest code
  AtEnd : CutOff items ts → Refusal items ts rest code

-- Items are refused where what a first move makes of them is refused.
refused_later : {items inner : List Wanted} {ts within rest : List Mark} {code : Code}
    → ((others : List Wanted) (after : List Mark) → Moves inner within others after → Moves items ts others after)
    → Refusal inner within rest code → Refusal items ts rest code
refused_later first (AtToken blocked) = AtToken record {
  others = blocked.others;
  mark = blocked.mark;
  after = blocked.after;
  is = blocked.is;
  moves = first _ _ blocked.moves;
  blocks = blocked.blocks;
}
refused_later first (AtEnd cut) = AtEnd record { item = cut.item; others = cut.others; moves = first _ _ cut.moves }

-- Items that the next token blocks are refused at it.
refused_here : {items : List Wanted} {mark : Mark} {ts : List Mark} {code : Code} → Blocks items mark code
    → Refusal items (mark ∷ ts) (mark ∷ ts) code
refused_here blocks = AtToken record { others = _; mark = _; after = _; is = refl; moves = Stays; blocks = blocks }

-- Items that a reader refuses have moved up to a token that blocks them, or to the end of the list.
pub refusal : {items : List Wanted} {ts rest : List Mark} {code : Code} → Refuses items ts rest code
    → Refusal items ts rest code
refusal (Beyond is) = refused_here (Unread (λ after levels. unwanted_unread) is)
refusal (Other unfit is) = refused_here (Unread (λ after levels. unfit_unread unfit) is)
refusal (Below fit deep) = refused_here (TooDeep fit deep)
refusal (Past fit within refused) = refused_later (λ others after. Takes fit within) (refusal refused)
refusal (Shut shut is) = refused_here (Unread (λ after levels. shut_unread shut) is)
refusal (Open opens refused) = refused_later (λ others after. Opens opens) (refusal refused)
refusal (Cut is) = AtEnd record { item = _; others = _; moves = Stays }

-- Where items are refused after some moves, the items before the moves are refused, too.
refuses_moved : {items others : List Wanted} {ts rest to : List Mark} {code : Code} → Moves items ts others rest
    → Refuses others rest to code → Refuses items ts to code
refuses_moved Stays refused = refused
refuses_moved (Takes fit within moves) refused = Past fit within (refuses_moved moves refused)
refuses_moved (Opens opens moves) refused = Open opens (refuses_moved moves refused)

-- Where all depths of two lists are within the limit, those of the first list are.
pub within_first : (first second : List ℕ) → AllWithin (first ++ second) → AllWithin first
within_first [] second within = tt
within_first (depth ∷ first) second within = (within.0, within_first first second within.1)

-- Where all depths of two lists are within the limit, those of the second list are.
pub within_second : (first second : List ℕ) → AllWithin (first ++ second) → AllWithin second
within_second [] second within = within
within_second (depth ∷ first) second within = within_second first second within.1

-- Items that are read within the limit are moved over, and then the items after them move.
pub passes : {first items others : List Wanted} {ts middle rest : List Mark} {forest : Forest}
    → Reads first ts forest middle → AllWithin (depths forest)
    → Moves items middle others rest → Moves (first ++ items) ts others rest
passes Nothing within moves = moves
passes (Taken fit reads) within moves = Takes fit within.0 (passes reads within.1 moves)
passes (Opened {inside = inside} {forest = forest} opens reads_inside reads) within moves =
    Opens opens (passes reads_inside (within_first (depths inside) (depths forest) within)
    (passes reads (within_second (depths inside) (depths forest) within) moves))

-- Items refused after a prefix that is read within the limit are refused with that prefix before them.
pub refuses_after : {first items : List Wanted} {ts middle rest : List Mark} {forest : Forest} {code : Code}
    → Reads first ts forest middle → AllWithin (depths forest)
    → Refuses items middle rest code → Refuses (first ++ items) ts rest code
refuses_after reads within refused = refuses_moved (passes reads within Stays) refused

-- These are the depths of the tokens that were moved over, each within the limit, and of a whole reading of the rest.
pub record ReadAhead (others : List Wanted) (ts rest : List Mark) (levels : List ℕ) : Type 0 where
  pub passed : List ℕ
  pub ahead : List ℕ
  pub are : levels ≡ passed ++ ahead
  pub within : AllWithin passed
  pub count : length passed + length rest ≡ length ts
  pub reading : WholeReading others rest ahead

-- A whole reading follows the moves, up to the rest.
pub read_ahead : {items others : List Wanted} {ts rest : List Mark} {levels : List ℕ} → Moves items ts others rest
    → WholeReading items ts levels
    → ReadAhead others ts rest levels
read_ahead Stays reading = record {
  passed = [];
  ahead = _;
  are = refl;
  within = tt;
  count = omega arith;
  reading =
      reading;
}
read_ahead (Takes {depth = depth} fit within moves) reading =
    let taken = token_taken reading in
    let further = read_ahead moves taken.after in
    record {
      passed = depth ∷ further.passed;
      ahead = further.ahead;
      are = taken.are ∙ ap (λ (levels : List ℕ). depth ∷ levels) further.are;
      within = (within, further.within);
      count = omega (arith, further.count);
      reading = further.reading;
    }
read_ahead (Opens opens moves) reading = read_ahead moves (part_opened opens reading)

-- The whole list is read as these items: first the tokens that were moved over, then those of the rest.
pub record ReadBack (items : List Wanted) (ts rest : List Mark) (levels : List ℕ) : Type 0 where
  pub passed : List ℕ
  pub count : length passed + length rest ≡ length ts
  pub reading : WholeReading items ts (passed ++ levels)

-- A whole reading of the rest extends to one of the whole list, by the tokens that were moved over.
pub read_back : {items others : List Wanted} {ts rest : List Mark} {levels : List ℕ} → Moves items ts others rest
    → WholeReading others rest levels → ReadBack items ts rest levels
read_back Stays reading = record { passed = []; count = omega arith; reading = reading }
read_back (Takes {depth = depth} fit within moves) reading =
    let further = read_back moves reading in
    record {
      passed = depth ∷ further.passed;
      count = omega (arith, further.count);
      reading =
          token_put fit further.reading;
    }
read_back (Opens opens moves) reading =
    let further = read_back moves reading in
    record { passed = further.passed; count = further.count; reading = part_closed opens further.reading }

-- The wanted items move over the tokens of the list up to this one, whatever follows it.
pub record MovesUpTo (items others : List Wanted) (mark : Mark) (ts after : List Mark) : Type 0 where
  pub before : List Mark
  pub is : ts ≡ before ++ mark ∷ after
  pub moves : (more : List Mark) → Moves items (before ++ mark ∷ more) others (mark ∷ more)

-- The next token of a list stays the same where other tokens follow one of its tokens.
next_same : {ts : List Mark} (before : List Mark) (mark : Mark) (after more : List Mark) → ts ≡ before ++ mark ∷ after
    → next (before ++ mark ∷ more) ≡ next ts
next_same [] mark after more is = sym (ap next is)
next_same (first ∷ before) mark after more is = sym (ap next is)

-- Moves up to a token do not depend on what follows it.
pub moves_up_to : {items others : List Wanted} {mark : Mark} {ts after : List Mark}
    → Moves items ts others (mark ∷ after) → MovesUpTo items others mark ts after
moves_up_to Stays = record { before = []; is = refl; moves = λ more. Stays }
moves_up_to (Takes {mark = taken} fit within moves) =
    let further = moves_up_to moves in
    record {
      before = taken ∷ further.before;
      is = ap (λ (list : List Mark). taken ∷ list) further.is;
      moves =
          λ more. Takes fit within (further.moves more);
    }
moves_up_to {mark = mark} {after = after} (Opens {goal = goal} {depth = depth} opens moves) =
    let further = moves_up_to moves in
    record {
      before = further.before;
      is = further.is;
      moves = λ more. Opens (ap (λ (kind : TokenKind). opened goal kind depth)
          (next_same further.before mark after more further.is) ∙ opens) (further.moves more);
    }

-- The wanted items move over these tokens and this one, whatever follows it.
pub record MovesOver (items : List Wanted) (before : List Mark) (mark : Mark) : Type 0 where
  pub others : List Wanted
  pub moves : (after : List Mark) → Moves items (before ++ mark ∷ after) others after

-- Moves over a token do not depend on what follows it.
pub moves_over : {items others : List Wanted} {ts rest : List Mark} → Moves items ts others rest
    → (before : List Mark) (mark : Mark) (after : List Mark)
    → ts ≡ before ++ mark ∷ after → length rest ≤ length after → MovesOver items before mark
moves_over Stays before mark after is fewer =
    absurd (omega (arith, fewer, ap length is, length-append before (mark ∷ after)))
moves_over (Takes {kind = kind} {mark = taken} fit within moves) [] mark after is fewer =
    let same : mark ≡ taken = cc in
    record {
      others = _;
      moves = λ more.
          Takes (ap (λ (token : Mark). fits kind (token_kind token)) same ∙ fit) within Stays;
    }
moves_over (Takes {kind = kind} {mark = taken} fit within moves) (first ∷ before) mark after is fewer =
    let same : first ≡ taken = cc in
    let further = moves_over moves before mark after (cc) fewer in
    record {
      others = further.others;
      moves =
          λ more. Takes (ap (λ (token : Mark). fits kind (token_kind token)) same ∙ fit) within (further.moves more);
    }
moves_over (Opens {goal = goal} {depth = depth} opens moves) before mark after is fewer =
    let further = moves_over moves before mark after is fewer in
    record {
      others = further.others;
      moves =
          λ more. Opens (ap (λ (kind : TokenKind). opened goal kind depth) (next_same before mark after more is) ∙ opens)
          (further.moves more);
    }
