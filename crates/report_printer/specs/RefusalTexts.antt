-- The output for a refusal.
--
--   `refusal_line`             the line of a refusal
use Rattle.std.specs.Prelude.{ℕ, List, ◌++◌, codes, decimal}
use Rattle.abs_tree.specs.Refusals.{code_name, code_words}
use Rattle.abs_tree.specs.declared.refusal.Refusal.{Refusal}

-- `refused: CODE at LINE:COLUMN: WORDS`
abbrev pub refusal_line : Refusal → List ℕ
refusal_line refusal =
    codes "refused: " ++ (code_name refusal.code
    ++ (codes " at " ++ (decimal refusal.line
    ++ (codes ":" ++ (decimal refusal.column ++ (codes ": " ++ (code_words refusal.code ++ codes "\n")))))))
