-- Which tokens are read as a nonterminal, and which are left: a relation over the productions, with no bound on
-- nesting. It gives a forest, with the nesting depth of each token: the number of counted nonterminals that it is in.
--
--   `Goal`, `Wanted`                                   what is to be read, without and with its nesting depth
--   `opened`                                           what a part consists of, by the next token
--   `Forest`, `depths`                                 what was read, and the nesting depths of its tokens
--   `Reads`                                            which tokens are read as the wanted items, and which are left
--   `IsProgram`                                        a whole list that is read as a program
use Rattle.std.specs.Prelude.{◌≡◌, ℕ, ◌+◌, true, List, [], ◌∷◌, ◌++◌, Option, Some, option_map, map, if◌then◌else◌}
use Rattle.abs_parser.specs.TokenKinds.{Mark, TokenKind, token_kind, fits, next}
use Rattle.abs_parser.specs.Productions.{Nonterminal, Program, Item, Of, Part, Opt, Many, Inside, counts, begins, chosen}

-- a part that is to be read: a nonterminal, one that may be left out, or one that may be repeated any number of times
pub data Goal : Type 0 where
  One : Nonterminal → Goal
  Optional : Nonterminal → Goal
  Repeated : Nonterminal → Goal

-- what is to be read: a token of a kind, or a part, with its nesting depth
pub data Wanted : Type 0 where
  Terminal : TokenKind → ℕ → Wanted
  Subgoal : Goal → ℕ → Wanted

-- what is to be read for an item of an alternative with this nesting depth
abbrev pub place_item : ℕ → Item → Wanted
place_item depth (Of kind) = Terminal kind depth
place_item depth (Part nonterminal) = Subgoal (One nonterminal) depth
place_item depth (Opt nonterminal) = Subgoal (Optional nonterminal) depth
place_item depth (Many nonterminal) = Subgoal (Repeated nonterminal) depth
place_item depth (Inside more item) = place_item (depth + more) item

abbrev pub place : ℕ → List Item → List Wanted
place depth items = map (place_item depth) items

-- the nesting depth inside a nonterminal with this nesting depth: one more if the nonterminal is counted
abbrev pub inner_depth : Nonterminal → ℕ → ℕ
inner_depth nonterminal depth = if counts nonterminal then depth + 1 else depth

-- what is to be read for a part with this nesting depth, by the next token; None where no alternative may begin with it
abbrev pub opened : Goal → TokenKind → ℕ → Option (List Wanted)
opened (One nonterminal) kind depth = option_map (place (inner_depth nonterminal depth)) (chosen nonterminal kind)
opened (Optional nonterminal) kind depth =
    if begins nonterminal kind then Some (Subgoal (One nonterminal) depth ∷ []) else Some []
opened (Repeated nonterminal) kind depth =
    if begins nonterminal kind then Some (Subgoal (One nonterminal) depth ∷ Subgoal (Repeated nonterminal) depth ∷ [])
    else Some []

-- A list of trees: empty; a token with its nesting depth, and others; or a part with what is inside it, and others.
pub data Forest : Type 0 where
  Empty : Forest
  Leaf : Mark → ℕ → Forest → Forest
  Node : Goal → Forest → Forest → Forest

pub data Reads : List Wanted → List Mark → Forest → List Mark → Type 0 where
  Nothing : {ts : List Mark} → Reads [] ts Empty ts
  Taken : {kind : TokenKind} {depth : ℕ} {items : List Wanted} {mark : Mark} {ts rest : List Mark} {forest : Forest}
      → fits kind (token_kind mark) ≡ true → Reads items ts forest rest
      → Reads (Terminal kind depth ∷ items) (mark ∷ ts) (Leaf mark depth forest) rest
  Opened : {goal : Goal} {depth : ℕ} {inner items : List Wanted} {ts middle rest : List Mark} {inside forest : Forest}
      → opened goal (next ts) depth ≡ Some inner → Reads inner ts inside middle → Reads items middle forest rest
      → Reads (Subgoal goal depth ∷ items) ts (Node goal inside forest) rest

-- the nesting depths of the tokens, in their order
abbrev pub depths : Forest → List ℕ
depths Empty = []
depths (Leaf mark depth others) = depth ∷ depths others
depths (Node goal inside others) = depths inside ++ depths others

-- the whole list is read as a program
pub record IsProgram (ts : List Mark) (forest : Forest) : Type 0 where
  pub reads : Reads (Subgoal (One Program) 0 ∷ []) ts forest []
