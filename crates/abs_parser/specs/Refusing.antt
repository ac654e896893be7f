-- The token at which wanted items are refused, and the code of the refusal.
--
--   `Refuses`                                          the token at which wanted items are refused, and the code
--   `AllWithin`                                        no token is too deeply nested
use Rattle.std.specs.Prelude.{◌≡◌, ⊤, ◌≤◌, ◌<◌, ℕ, true, false, List, [], ◌∷◌, ◌++◌, Some, None}
use Rattle.abs_tree.specs.declared.refusal.Code.{Code}
use Rattle.abs_tree.specs.declared.refusal.Code.TheVariants.{S1, S2}
use Rattle.abs_parser.specs.TokenKinds.{Mark, TokenKind, token_kind, fits, next}
use Rattle.abs_parser.specs.Readings.{Goal, Wanted, Terminal, Subgoal, opened}
use Rattle.abs_parser.specs.Stops.{limit, wrong_code}

-- The wanted items are refused in the first list of tokens where the second one begins. That one is empty if the tokens
-- end too early.
pub data Refuses : List Wanted → List Mark → List Mark → Code → Type 0 where
  Beyond : {mark : Mark} {ts : List Mark} {code : Code} → code ≡ wrong_code (token_kind mark)
      → Refuses [] (mark ∷ ts) (mark ∷ ts) code
  Other : {kind : TokenKind} {depth : ℕ} {items : List Wanted} {mark : Mark} {ts : List Mark} {code : Code}
      → fits kind (token_kind mark) ≡ false → code ≡ wrong_code (token_kind mark)
      → Refuses (Terminal kind depth ∷ items) (mark ∷ ts) (mark ∷ ts) code
  Below : {kind : TokenKind} {depth : ℕ} {items : List Wanted} {mark : Mark} {ts : List Mark}
      → fits kind (token_kind mark) ≡ true → limit < depth
      → Refuses (Terminal kind depth ∷ items) (mark ∷ ts) (mark ∷ ts) S2
  Past : {kind : TokenKind} {depth : ℕ} {items : List Wanted} {mark : Mark} {ts rest : List Mark} {code : Code}
      → fits kind (token_kind mark) ≡ true → depth ≤ limit → Refuses items ts rest code
      → Refuses (Terminal kind depth ∷ items) (mark ∷ ts) rest code
  Shut : {goal : Goal} {depth : ℕ} {items : List Wanted} {mark : Mark} {ts : List Mark} {code : Code}
      → opened goal (token_kind mark) depth ≡ None → code ≡ wrong_code (token_kind mark)
      → Refuses (Subgoal goal depth ∷ items) (mark ∷ ts) (mark ∷ ts) code
  Open : {goal : Goal} {depth : ℕ} {inner items : List Wanted} {ts rest : List Mark} {code : Code}
      → opened goal (next ts) depth ≡ Some inner → Refuses (inner ++ items) ts rest code
      → Refuses (Subgoal goal depth ∷ items) ts rest code
  Cut : {item : Wanted} {items : List Wanted} {code : Code} → code ≡ S1 → Refuses (item ∷ items) [] [] code

-- each of these nesting depths is at most the nesting limit
abbrev pub AllWithin : List ℕ → Type 0
AllWithin [] = ⊤
AllWithin (depth ∷ others) = (depth ≤ limit) × AllWithin others
