-- The end of a source is read last: the item that asks for the end comes after all other wanted items. So a source is
-- always refused at a token, which may be its end, and never because it was cut off.
use Rattle.std.proofs.Common.{◌≡◌, ℕ, Bool, true, false, ◌&&◌, List, [], ◌∷◌, ◌++◌, map, Option, Some, None, option_map, if◌then◌else◌, refl, subst}
use Rattle.std.specs.List.{list_all}
use Rattle.std.proofs.lemmas.Bool.{and_parts, and_from}
use Rattle.abs_tree.specs.declared.place.Place.{Place}
use Rattle.abs_tree.specs.declared.refusal.Code.{Code}
use Rattle.abs_lexer.specs.Tokens.{Lexed, TokenList}
use Rattle.abs_parser.specs.TokenKinds.{Mark, Token, TextEnd, marks, TokenKind, End, token_kind, fits, next}
use Rattle.abs_parser.specs.Productions.{Nonterminal, Program, Item, rule, begins, chosen}
use Rattle.abs_parser.specs.Readings.{Goal, One, Optional, Repeated, Wanted, Terminal, Subgoal, place, inner_depth, opened}
use Rattle.abs_parser.specs.Refusing.{Refuses}
use Rattle.abs_parser.proofs.stop.MoveLemmas.{Moves, Stays, Takes, Opens, Blocked, Refusal, AtToken, AtEnd, refusal}
use Rattle.abs_parser.proofs.grammar.ReadingLemmas.{a_program}
use Rattle.list_facts.proofs.FindLemmas.{find-list_all}

-- whether the nonterminal is not the program
abbrev is_inner : Nonterminal → Bool
is_inner Program = false
is_inner nonterminal = true

-- whether a wanted item has no end in it: it is neither the end nor a program
abbrev endless : Wanted → Bool
endless (Terminal End depth) = false
endless (Terminal kind depth) = true
endless (Subgoal (One nonterminal) depth) = is_inner nonterminal
endless (Subgoal (Optional nonterminal) depth) = is_inner nonterminal
endless (Subgoal (Repeated nonterminal) depth) = is_inner nonterminal

-- at most the last of the wanted items has an end in it
data Closed : List Wanted → Type 0 where
  NoMore : Closed []
  Endless : {item : Wanted} {items : List Wanted} → endless item ≡ true → Closed items → Closed (item ∷ items)
  LastEnd : {depth : ℕ} → Closed (Terminal End depth ∷ [])
  LastProgram : {depth : ℕ} → Closed (Subgoal (One Program) depth ∷ [])

-- The alternatives of the inner nonterminals have no end in them.
inner_endless : (nonterminal : Nonterminal) (depth : ℕ) → is_inner nonterminal ≡ true
    → list_all (λ (items : List Item). list_all endless (place depth items)) (rule nonterminal) ≡ true
inner_endless Program depth e = cc
inner_endless _ depth e = refl

-- Items without an end, followed by closed items, are closed.
endless_first : (items others : List Wanted) → list_all endless items ≡ true → Closed others → Closed (items ++ others)
endless_first [] others e closed = closed
endless_first (item ∷ items) others e closed =
    let both = and_parts (endless item) (list_all endless items) e in
    Endless both.0 (endless_first items others both.1 closed)

-- The items that an option holds, followed by these items, are closed.
abbrev ClosedInside : Option (List Wanted) → List Wanted → Type 0
ClosedInside None items = Unit {0}
ClosedInside (Some inner) items = Closed (inner ++ items)

-- Where a test decides between such items and none, both are closed before closed items.
either_closed : (stands : Bool) (inner items : List Wanted) → list_all endless inner ≡ true → Closed items
    → ClosedInside (if stands then Some inner else Some []) items
either_closed true inner items e closed = endless_first inner items e closed
either_closed false inner items e closed = closed

-- What an inner nonterminal opens to is closed before closed items.
inner_closed : (nonterminal : Nonterminal) (kind : TokenKind) (depth : ℕ) (items : List Wanted)
    → is_inner nonterminal ≡ true → Closed items → ClosedInside (opened (One nonterminal) kind depth) items
unfolding chosen
inner_closed nonterminal kind depth items is closed = go (chosen nonterminal kind) refl
  where
    go : (choice : Option (List Item)) → chosen nonterminal kind ≡ choice
        → ClosedInside (option_map (place (inner_depth nonterminal depth)) choice) items
    go None shut = tt
    go (Some alternative) e =
        let deeper = inner_depth nonterminal depth in
        let without_end = find-list_all _ (λ (row : List Item). list_all endless (place deeper row)) (rule nonterminal)
        alternative (inner_endless nonterminal deeper is) e in
        endless_first (place deeper alternative) items without_end closed

-- Where a test decides between an alternative and none, the choice is closed if the alternative is.
only_closed : (stands : Bool) (alternative : List Item) (depth : ℕ) → Closed (place depth alternative ++ [])
    → ClosedInside (option_map (place depth) (if stands then Some alternative else None)) []
only_closed true alternative depth closed = closed
only_closed false alternative depth closed = tt

-- A program opens to items of which only the last is the end.
program_closed : (kind : TokenKind) (depth : ℕ) → ClosedInside (opened (One Program) kind depth) []
unfolding chosen
program_closed kind depth = only_closed _ _ depth (Endless refl (Endless refl (Endless refl (Endless refl LastEnd))))

-- Closed items stay closed when the first part opens.
opened_closed : (goal : Goal) (kind : TokenKind) (depth : ℕ) (items : List Wanted) → Closed (Subgoal goal depth ∷ items)
    → ClosedInside (opened goal kind depth) items
opened_closed (One nonterminal) kind depth items (Endless e closed) = inner_closed nonterminal kind depth items e closed
opened_closed (One Program) kind depth [] LastProgram = program_closed kind depth
opened_closed (Optional nonterminal) kind depth items (Endless e closed) =
    either_closed (begins nonterminal kind) (Subgoal (One nonterminal) depth ∷ []) items
    (and_from (is_inner nonterminal) true e refl) closed
opened_closed (Repeated nonterminal) kind depth items (Endless e closed) =
    let both = and_from (is_inner nonterminal) (is_inner nonterminal && true) e
    (and_from (is_inner nonterminal) true e refl) in
    either_closed (begins nonterminal kind)
    (Subgoal (One nonterminal) depth ∷ Subgoal (Repeated nonterminal) depth ∷ []) items both closed

-- Closed items that begin with a token stay closed without it.
after_token : {kind : TokenKind} {depth : ℕ} {items : List Wanted} → Closed (Terminal kind depth ∷ items) → Closed items
after_token (Endless e closed) = closed
after_token LastEnd = NoMore

-- The end fits only where it is asked for.
end_fits : (kind : TokenKind) → fits kind End ≡ true → kind ≡ End
end_fits End e = refl
end_fits _ e = cc

-- In closed items nothing follows the end.
after_end : {kind : TokenKind} {depth : ℕ} {items : List Wanted} → kind ≡ End → Closed (Terminal kind depth ∷ items)
    → items ≡ []
after_end {depth = depth} is (Endless e closed) =
    let not_endless : endless (Terminal End depth) ≡ true = subst (λ kind. endless (Terminal kind depth) ≡ true) is e in
    cc
after_end is LastEnd = refl

-- Where no items are wanted, none are wanted after a move.
nothing_moves : {others : List Wanted} {ts rest : List Mark} → Moves [] ts others rest → others ≡ []
nothing_moves Stays = refl

-- When closed items have moved over a whole source, none is left.
all_moved : {items others : List Wanted} {ts : List Mark} → Moves items ts others []
    → (tokens : List Lexed) (end : Place) → ts ≡ map Token tokens ++ TextEnd end ∷ []
    → Closed items → others ≡ []
all_moved Stays [] end are closed = cc
all_moved Stays (token ∷ tokens) end are closed = cc
all_moved (Takes {kind = kind} {others = others} {mark = mark} {ts = ts} fit within moves) [] end are closed =
    let last : mark ≡ TextEnd end = cc in
    let wanted : kind ≡ End = end_fits kind (subst (λ (m : Mark). fits kind (token_kind m) ≡ true) last fit) in
    nothing_moves (subst (λ (list : List Wanted). Moves list ts others []) (after_end wanted closed) moves)
all_moved (Takes {ts = ts} fit within moves) (token ∷ tokens) end are closed =
    let tail : ts ≡ map Token tokens ++ TextEnd end ∷ [] = cc in
    all_moved moves tokens end tail (after_token closed)
all_moved (Opens {goal = goal} {depth = depth} {items = items} {ts = ts} is moves) tokens end are closed =
    all_moved moves tokens end are (subst (λ (choice : Option (List Wanted)). ClosedInside choice items) is
    (opened_closed goal (next ts) depth items closed))

-- A source is refused at a token, and never because it was cut off.
pub text_refused : (list : TokenList) (rest : List Mark) (code : Code) → Refuses a_program (marks list) rest code
    → Blocked a_program (marks list) rest code
text_refused list rest code refused = go (refusal refused)
  where
    go : Refusal a_program (marks list) rest code → Blocked a_program (marks list) rest code
    go (AtToken blocked) = blocked
    go (AtEnd cut) =
        let none : cut.item ∷ cut.others ≡ [] = all_moved cut.moves list.tokens list.end refl LastProgram in
        cc
