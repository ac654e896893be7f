-- Readings in general, for any grammar. A reading of some items followed by others splits into a reading of each, and
-- two such readings join to one. A whole reading leaves no token over. It stays one when its first part is opened or
-- closed again, and when its first token is taken or put back. A list is read as the same items in only one way.
use Rattle.std.proofs.Common.{◌≡◌, ℕ, true, false, List, [], ◌∷◌, ◌++◌, Some, None, refl, sym, ap, ◌∙◌}
use Rattle.std.proofs.lemmas.List.{append_assoc}
use Rattle.abs_parser.specs.TokenKinds.{Mark, TokenKind, token_kind, fits, next}
use Rattle.abs_parser.specs.Productions.{Program}
use Rattle.abs_parser.specs.Readings.{Goal, One, Wanted, Terminal, Subgoal, opened, Forest, Empty, Leaf, Node, Reads, Nothing, Taken, Opened, depths}

-- The wanted items of a source: one program.
abbrev pub a_program : List Wanted
a_program = Subgoal (One Program) 0 ∷ []

-- Two forests, one after the other, as one.
abbrev join : Forest → Forest → Forest
join Empty after = after
join (Leaf mark depth before) after = Leaf mark depth (join before after)
join (Node goal inside before) after = Node goal inside (join before after)

-- The tokens of both forests keep their depths.
depths_join : (before after : Forest) → depths (join before after) ≡ depths before ++ depths after
depths_join Empty after = refl
depths_join (Leaf mark depth before) after = ap (λ (levels : List ℕ). depth ∷ levels) (depths_join before after)
depths_join (Node goal inside before) after =
    ap (λ (levels : List ℕ). depths inside ++ levels) (depths_join before after)
    ∙ sym (append_assoc (depths inside) (depths before) (depths after))

-- Two readings, one after the other, are a reading of the items of both.
reads_join : {first second : List Wanted} {ts middle rest : List Mark} {before after : Forest}
    → Reads first ts before middle → Reads second middle after rest
    → Reads (first ++ second) ts (join before after) rest
reads_join Nothing others = others
reads_join (Taken fit reads) others = Taken fit (reads_join reads others)
reads_join (Opened is inside reads) others = Opened is inside (reads_join reads others)

-- A forest splits into that of a reading of the first items and that of a reading of the second items after it.
record Split (first second : List Wanted) (ts rest : List Mark) (forest : Forest) : Type 0 where
  middle : List Mark
  before : Forest
  after : Forest
  reads_before : Reads first ts before middle
  reads_after : Reads second middle after rest
  is : forest ≡ join before after

-- A reading of some items followed by others splits into a reading of each.
split : (first second : List Wanted) {ts rest : List Mark} {forest : Forest} → Reads (first ++ second) ts forest rest
    → Split first second ts rest forest
split [] second reads = record {
  middle = _;
  before = Empty;
  after = _;
  reads_before = Nothing;
  reads_after =
      reads;
  is = refl;
}
split (Terminal kind depth ∷ first) second (Taken {mark = mark} fit reads) =
    let parts = split first second reads in
    record {
      middle = parts.middle;
      before = Leaf mark depth parts.before;
      after = parts.after;
      reads_before = Taken fit parts.reads_before;
      reads_after = parts.reads_after;
      is = ap (Leaf mark depth) parts.is;
    }
split (Subgoal goal depth ∷ first) second (Opened {inside = inside} is reads_inside reads) =
    let parts = split first second reads in
    record {
      middle = parts.middle;
      before = Node goal inside parts.before;
      after = parts.after;
      reads_before = Opened is reads_inside parts.reads_before;
      reads_after = parts.reads_after;
      is = ap (Node goal inside) parts.is;
    }

-- A list is read as the same items in only one way.
pub one_reading : {items : List Wanted} {ts rest left : List Mark} {forest other : Forest} → Reads items ts forest rest
    → Reads items ts other left
    → (forest ≡ other) × (rest ≡ left)
one_reading Nothing Nothing = (refl, refl)
one_reading (Taken fit reads) (Taken other_fit other_reads) =
    let same = one_reading reads other_reads in
    (cc (same.0), same.1)
one_reading (Opened {inner = inner} is inside reads) (Opened {inner = other_inner} other_is other_inside other_reads) =
    let alike : other_inner ≡ inner = cc in
    let within = one_reading inside (rw alike at other_inside) in
    let after = one_reading reads (rw (← within.1) at other_reads) in
    (cc (within.0, after.0), after.1)

-- The whole list is read as these items, and its tokens have these depths.
pub record WholeReading (items : List Wanted) (ts : List Mark) (levels : List ℕ) : Type 0 where
  pub forest : Forest
  pub reads : Reads items ts forest []
  pub are : depths forest ≡ levels

-- A whole reading of what a part opens to, followed by others, is one of the part, followed by them.
pub part_closed : {goal : Goal} {depth : ℕ} {inner items : List Wanted} {ts : List Mark} {levels : List ℕ}
    → opened goal (next ts) depth ≡ Some inner
    → WholeReading (inner ++ items) ts levels → WholeReading (Subgoal goal depth ∷ items) ts levels
part_closed {goal} {depth} {inner} {items} is reading =
    let parts = split inner items reading.reads in
    record {
      forest = Node goal parts.before parts.after;
      reads = Opened is parts.reads_before parts.reads_after;
      are = sym (ap depths parts.is ∙ depths_join parts.before parts.after) ∙ reading.are;
    }

-- What is read inside a part joins with what is read after it, to a whole reading of what the part opens to.
inside_joined : {goal : Goal} {depth : ℕ} {inner items : List Wanted} {ts : List Mark} {forest : Forest}
    {levels : List ℕ} → opened goal (next ts) depth ≡ Some inner
    → Reads (Subgoal goal depth ∷ items) ts forest [] → depths forest ≡ levels → WholeReading (inner ++ items) ts levels
inside_joined {inner = inner} is
    (Opened {inner = other_inner} {inside = inside} {forest = forest} other_is reads_inside reads) are =
    let alike : other_inner ≡ inner = cc in
    record {
      forest = join inside forest;
      reads = reads_join (rw alike at reads_inside) reads;
      are =
          depths_join inside forest ∙ are;
    }

-- A whole reading of a part, followed by others, is one of what the part opens to, followed by them.
pub part_opened : {goal : Goal} {depth : ℕ} {inner items : List Wanted} {ts : List Mark} {levels : List ℕ}
    → opened goal (next ts) depth ≡ Some inner
    → WholeReading (Subgoal goal depth ∷ items) ts levels → WholeReading (inner ++ items) ts levels
part_opened is reading = inside_joined is reading.reads reading.are

-- A token fits and has the first of these depths, and the list after it is read as the other items.
pub record TokenTaken (kind : TokenKind) (depth : ℕ) (items : List Wanted) (mark : Mark) (ts : List Mark)
    (levels : List ℕ) : Type 0 where
  pub fit : fits kind (token_kind mark) ≡ true
  pub others : List ℕ
  pub are : levels ≡ depth ∷ others
  pub after : WholeReading items ts others

-- A reading that begins with a token consists of the token and of a reading of the list after it.
first_taken : {kind : TokenKind} {depth : ℕ} {items : List Wanted} {mark : Mark} {ts : List Mark} {forest : Forest}
    {levels : List ℕ}
    → Reads (Terminal kind depth ∷ items) (mark ∷ ts) forest [] → depths forest ≡ levels
    → TokenTaken kind depth items mark ts levels
first_taken (Taken {forest = forest} fit reads) are =
    record {
      fit = fit;
      others = depths forest;
      are = sym are;
      after =
          record { forest = forest; reads = reads; are = refl };
    }

-- A whole reading that begins with a token does so, too.
pub token_taken : {kind : TokenKind} {depth : ℕ} {items : List Wanted} {mark : Mark} {ts : List Mark} {levels : List ℕ}
    → WholeReading (Terminal kind depth ∷ items) (mark ∷ ts) levels → TokenTaken kind depth items mark ts levels
token_taken reading = first_taken reading.reads reading.are

-- A token that fits can be put before a whole reading.
pub token_put : {kind : TokenKind} {depth : ℕ} {items : List Wanted} {mark : Mark} {ts : List Mark} {levels : List ℕ}
    → fits kind (token_kind mark) ≡ true
    → WholeReading items ts levels → WholeReading (Terminal kind depth ∷ items) (mark ∷ ts) (depth ∷ levels)
token_put {depth = depth} {mark = mark} fit reading =
    record {
      forest = Leaf mark depth reading.forest;
      reads = Taken fit reading.reads;
      are =
          ap (λ (levels : List ℕ). depth ∷ levels) reading.are;
    }

-- No whole reading begins with a token that does not fit.
pub unfit_unread : {kind : TokenKind} {depth : ℕ} {items : List Wanted} {mark : Mark} {ts : List Mark} {levels : List ℕ}
    → fits kind (token_kind mark) ≡ false
    → WholeReading (Terminal kind depth ∷ items) (mark ∷ ts) levels → ⊥
unfit_unread unfit reading = cc (token_taken reading).fit

-- A part that the next token does not open is not read.
no_part : {goal : Goal} {depth : ℕ} {items : List Wanted} {ts rest : List Mark} {forest : Forest}
    → opened goal (next ts) depth ≡ None
    → Reads (Subgoal goal depth ∷ items) ts forest rest → ⊥
no_part shut (Opened is inside reads) = cc

-- No whole reading begins with a part that the next token does not open.
pub shut_unread : {goal : Goal} {depth : ℕ} {items : List Wanted} {ts : List Mark} {levels : List ℕ}
    → opened goal (next ts) depth ≡ None
    → WholeReading (Subgoal goal depth ∷ items) ts levels → ⊥
shut_unread shut reading = no_part shut reading.reads

-- A reading of no items takes no token.
nothing_taken : {ts rest : List Mark} {forest : Forest} → Reads [] ts forest rest → ts ≡ rest
nothing_taken Nothing = refl

-- A list that has a token is not read as no items.
pub unwanted_unread : {mark : Mark} {ts : List Mark} {levels : List ℕ} → WholeReading [] (mark ∷ ts) levels → ⊥
unwanted_unread reading = cc (nothing_taken reading.reads)
