use Rattle.std.proofs.Common.{◌≡◌, [], map, replicate}
use Rattle.abs_program.proofs.tables.signatures.empty_rows.Given as goal

-- there are as many empty rows as turns were made
abbrev pub invariant-loop : goal.invariant-loop
invariant-loop l = map (λ row. row.items) l.rows.items ≡ replicate l.counter []
