-- The rows of a body are those of its points: at each index, the slots that the statement there names and that are
-- settled there.
use Rattle.std.proofs.Common.{◌≡◌, ⊎_elim, ℕ, zero, suc, ◌+◌, false, List, [], ◌∷◌, ◌++◌, length, get_or, replicate, refl, sym, ap, ◌∙◌, subst, arith}
use Rattle.std.proofs.lemmas.Bool.{cases_lt}
use Rattle.std.proofs.lemmas.List.{get_or-replicate, get_or_past, length-append, length-replicate}
use Rattle.std.specs.Prelude.{Option, Some, None, slice_get}
use Rattle.std.proofs.lemmas.Option.{none-some, same_Some}
use Rattle.abs_program.proofs.FlowLemmas.{length-facts}
use Rattle.abs_program.specs.Control.{Point, entry, points, points_of, else_points}
use Rattle.abs_program.specs.Flows.{Slots, fact_after_one, facts, facts_of, else_facts}
use Rattle.abs_program.specs.Instructions.{effect_of}
use Rattle.abs_tree.specs.Syntax.{Statement, BlockOf, IfOf, WhileOf, MaybeStatements, NoElse, Else, Statements, NoStatement, NextStatement}
use Rattle.abs_tree.specs.SyntaxSizes.{count_of, statement_count}
use Rattle.contract_terms.specs.Settled.{no_slot, once_among, settled, settled_names}
use Rattle.contract_infer.specs.SettledRows.{AreSettledRows}
use Rattle.contract_infer.proofs.SettledStepLemmas.{known_same}
use Rattle.contract_infer.specs.SettledWalk.{known_by, passed, rows_at, rows_in, rows_in_else, Does, Known}
use Rattle.contract_infer.specs.declared.settled.Walk.{Walk}

-- the rows of points, from the settled slots at each
abbrev rows_by : List Slots → List Point → List (List ℕ)
rows_by (fact ∷ others) (point ∷ more) = settled_names (effect_of point.statement) fact ∷ rows_by others more
rows_by _ _ = []

-- Rows are those of points, of which there are as many as facts.
record AreRowsBy (known : List Slots) (all : List Point) (rows : List (List ℕ)) : Type 0 where
  same_length : length known ≡ length all
  rows_are : rows ≡ rows_by known all

-- the rows of points in two parts
rows_by-append : (one : List Slots) (first : List Point) (other : List Slots) (second : List Point)
    → length one ≡ length first → rows_by (one ++ other) (first ++ second) ≡ rows_by one first ++ rows_by other second
rows_by-append [] [] other second same = refl
rows_by-append [] (point ∷ first) other second same = absurd (omega (arith, same))
rows_by-append (fact ∷ one) [] other second same = absurd (omega (arith, same))
rows_by-append (fact ∷ one) (point ∷ first) other second same =
    ap (λ (rows : List (List ℕ)). settled_names (effect_of point.statement) fact ∷ rows)
    (rows_by-append one first other second (omega (arith, same)))

-- the rows of two parts are those of both
both_rows : {one other : List Slots} {first second : List Point} {rows more : List (List ℕ)} → AreRowsBy one first rows
    → AreRowsBy other second more → AreRowsBy (one ++ other) (first ++ second) (rows ++ more)
both_rows {one} {other} {first} {second} {rows} {more} are others = record {
  same_length =
      length-append one other
      ∙ (omega (arith, are.same_length, others.same_length) ∙ sym (length-append first second));
  rows_are =
      ap (λ (own : List (List ℕ)). own ++ more) are.rows_are
      ∙ (ap (λ (own : List (List ℕ)). rows_by one first ++ own) others.rows_are
      ∙ sym (rows_by-append one first other second are.same_length));
}

-- one row, and those of the points after it
next_row : {known : List Slots} {all : List Point} {rows : List (List ℕ)} (fact : Slots) (point : Point)
    (row : List ℕ) → row ≡ settled_names (effect_of point.statement) fact → AreRowsBy known all rows
    → AreRowsBy (fact ∷ known) (point ∷ all) (row ∷ rows)
next_row {known} {all} {rows} fact point row is are = record {
  same_length = omega (arith, are.same_length);
  rows_are =
      ap (λ (own : List ℕ). own ∷ rows) is
      ∙ ap (λ (others : List (List ℕ)). settled_names (effect_of point.statement) fact ∷ others) are.rows_are;
}

-- no rows
no_rows : AreRowsBy [] [] []
no_rows = record { same_length = refl; rows_are = refl }

mutual
  unfolding points facts rows_in once_among

  -- the rows of statements are those of their points
  statements_rows : (index : ℕ) (fact : Slots) (statements : Statements) (after : Option ℕ)
      → AreRowsBy (facts settled fact statements) (points index statements after) (rows_in fact statements)
  statements_rows index fact NoStatement after = no_rows
  statements_rows index fact (NextStatement first others) after =
      let next = index + count_of first in
      both_rows (statement_rows index fact first (entry next others after))
      (statements_rows next (fact_after_one settled fact first) others after)

  -- so are those of a statement and of the ones in it
  statement_rows : (index : ℕ) (fact : Slots) (statement : Statement) (after : Option ℕ)
      → AreRowsBy (facts_of settled fact statement) (points_of index statement after) (rows_at fact statement)
  statement_rows index fact (BlockOf place block) after = statements_rows index fact block after
  statement_rows index fact (IfOf own place condition first second) after =
      let next = index + 1 + statement_count first in
      next_row fact _ [] refl
      (both_rows (statements_rows (index + 1) fact first after) (else_rows next fact second after))
  statement_rows index fact (WhileOf own place condition body) after =
      next_row (settled.looped fact body) _ [] refl
      (statements_rows (index + 1) (settled.looped fact body) body (Some index))
  statement_rows index fact statement after =
      next_row fact _ (settled_names (effect_of statement) fact) refl no_rows

  -- and those of the other branch of an `if`
  else_rows : (index : ℕ) (fact : Slots) (branch : MaybeStatements) (after : Option ℕ)
      → AreRowsBy (else_facts settled fact branch) (else_points index branch after) (rows_in_else fact branch)
  else_rows index fact NoElse after = no_rows
  else_rows index fact (Else branch) after = statements_rows index fact branch after

-- there are as many rows as facts, if there are as many points
length-rows_by : (known : List Slots) (all : List Point) → length known ≡ length all
    → length (rows_by known all) ≡ length known
length-rows_by [] [] same = refl
length-rows_by [] (point ∷ all) same = absurd (omega (arith, same))
length-rows_by (fact ∷ known) [] same = absurd (omega (arith, same))
length-rows_by (fact ∷ known) (point ∷ all) same = omega (arith, length-rows_by known all (omega (arith, same)))

-- the row at an index is that of the point there
slice_get-rows_by : (known : List Slots) (all : List Point) (offset : ℕ) (point : Point) (fact : Slots)
    → slice_get all offset ≡ Some point → slice_get known offset ≡ Some fact
    → slice_get (rows_by known all) offset ≡ Some (settled_names (effect_of point.statement) fact)
slice_get-rows_by [] all offset point fact is known_is = absurd (none-some fact known_is)
slice_get-rows_by (one ∷ known) [] offset point fact is known_is = absurd (none-some point is)
slice_get-rows_by (one ∷ known) (first ∷ all) zero point fact is known_is =
    ap (λ (at : Point). Some (settled_names (effect_of at.statement) one)) (same_Some first point is)
    ∙ ap (λ (at : Slots). Some (settled_names (effect_of point.statement) at)) (same_Some one fact known_is)
slice_get-rows_by (one ∷ known) (first ∷ all) (suc offset) point fact is known_is =
    slice_get-rows_by known all offset point fact is known_is

-- The rows of a body, where no slot is settled before it, are its settled rows.
pub rows_in_settled : (statements : Statements) → AreSettledRows statements (rows_in no_slot statements)
rows_in_settled statements = record {
  count =
      let are = statements_rows 0 no_slot statements None in
      ap length are.rows_are
      ∙ (length-rows_by (facts settled no_slot statements) (points 0 statements None) are.same_length
      ∙ length-facts settled no_slot statements);
  are = λ start offset point fact point_is fact_is.
      ap (λ (rows : List (List ℕ)). slice_get rows offset) (statements_rows start no_slot statements None).rows_are
      ∙ slice_get-rows_by (facts settled no_slot statements) (points start statements None) offset point fact point_is
      fact_is;
}

-- No bit of a list of bits that are all false is set.
pub no_bit : (count slot : ℕ) → get_or (replicate count false) slot false ≡ false
no_bit count slot = ⊎_elim
    (λ within. get_or-replicate count slot false false within)
    (λ past. get_or_past (replicate count false) slot false (omega (arith, past, length-replicate count false)))
    (cases_lt slot count)

-- the rows of a walk that began with no slot settled and no rows are the settled rows of what it passed
pub settled_rows_made : {old new : Walk} (statements : Statements) → Does (passed statements) old new
    → ((slot : ℕ) → (known_by old).slots slot ≡ false) → (known_by old).rows ≡ [] → new.failed ≡ false
    → AreSettledRows statements (known_by new).rows
settled_rows_made {old} {new} statements does none no_row well =
    let start : Known = record { slots = no_slot; rows = [] } in
    let begun = known_same (known_by old) start none no_row in
    subst (AreSettledRows statements)
    (sym (ap (λ (known : Known). known.rows) ((does.does well).1 ∙ ap (passed statements) begun)))
    (rows_in_settled statements)
