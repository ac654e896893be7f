-- Refusals.
--
--   `refusal_of`                   the refusal for an offence
--   `code_name`, `code_words`      the name of a code, and the offence in words
use Rattle.std.specs.Prelude.{ℕ, List, codes}
use Rattle.abs_tree.specs.declared.refusal.Code.{Code}
use Rattle.abs_tree.specs.declared.refusal.Code.TheVariants as code
use Rattle.abs_tree.specs.declared.refusal.Offence.{Offence}
use Rattle.abs_tree.specs.declared.refusal.Refusal.{Refusal}

-- the refusal for an offence: its code, with the line and column of its place
abbrev pub refusal_of : Offence → Refusal
refusal_of offence = record { code = offence.code; line = offence.place.line; column = offence.place.column }

-- the name of a code
abbrev pub code_name : Code → List ℕ
code_name code.L1 = codes "L1"
code_name code.L2 = codes "L2"
code_name code.L3 = codes "L3"
code_name code.L4 = codes "L4"
code_name code.S1 = codes "S1"
code_name code.S2 = codes "S2"
code_name code.S3 = codes "S3"
code_name code.N1 = codes "N1"
code_name code.N2 = codes "N2"
code_name code.N3 = codes "N3"
code_name code.N4 = codes "N4"
code_name code.T1 = codes "T1"
code_name code.T2 = codes "T2"
code_name code.T3 = codes "T3"
code_name code.T4 = codes "T4"
code_name code.T5 = codes "T5"
code_name code.P1 = codes "P1"
code_name code.P2 = codes "P2"
code_name code.P3 = codes "P3"
code_name code.P4 = codes "P4"
code_name code.P5 = codes "P5"

-- an offence in words
abbrev pub code_words : Code → List ℕ
code_words code.L1 = codes "byte outside the alphabet"
code_words code.L2 = codes "comment without end"
code_words code.L3 = codes "text without end"
code_words code.L4 = codes "number past 128 bits"
code_words code.S1 = codes "unexpected token"
code_words code.S2 = codes "nesting above 100"
code_words code.S3 = codes "word outside the profile"
code_words code.N1 = codes "declared twice"
code_words code.N2 = codes "unknown name"
code_words code.N3 = codes "wrong number of arguments"
code_words code.N4 = codes "interface extends itself"
code_words code.T1 = codes "wrong type"
code_words code.T2 = codes "no such method"
code_words code.T3 = codes "value missing"
code_words code.T4 = codes "interface not met"
code_words code.T5 = codes "return missing or misplaced"
code_words code.P1 = codes "Boolean guard"
code_words code.P2 = codes "future in a field or data"
code_words code.P3 = codes "destiny"
code_words code.P4 = codes "call on another object"
code_words code.P5 = codes "new local"
