-- Lists with a separator between any two elements, such as a comma, and such lists in parentheses, once for all of
-- them. `SeparatedList` says that three nonterminals of the grammar are a list, an element, and the separator with the
-- next element. `ListTrees` says which trees the elements have, in the code and in what was read. The lemmas say what
-- the nonterminals open to, given the next token, what was read so far (`ReadsSoFar`), and where a list is refused.
use Rattle.std.proofs.Common.{◌≡◌, ◌≤◌, ℕ, Bool, true, false, List, [], ◌∷◌, ◌++◌, Some, None, refl, sym, ap, ◌∙◌}
use Rattle.abs_lexer.specs.declared.lexeme.Lexeme.TheVariants as lexeme
use Rattle.abs_lexer.specs.declared.lexeme.Punctuator.{Punctuator}
use Rattle.abs_lexer.specs.declared.lexeme.Punctuator.TheVariants as punctuator
use Rattle.abs_lexer.specs.Tokens.{Lexed}
use Rattle.abs_tree.specs.Syntax.{Name}
use Rattle.abs_parser.specs.Answers.{GoesOn}
use Rattle.abs_parser.specs.TokenKinds.{Mark, Token, TokenKind, PunctuatorKind, fits, next}
use Rattle.abs_parser.specs.Productions.{Nonterminal, Part, Opt, Many, punctuation, open_paren, close_paren, rule, counts, begins}
use Rattle.abs_parser.specs.Readings.{Goal, One, Optional, Repeated, Wanted, Terminal, Subgoal, opened, Forest, Empty, Leaf, Node}
use Rattle.abs_parser.specs.ReaderAnswers.{left_at, TakesKind, FoundAs, IsRefused}
use Rattle.abs_parser.specs.Stops.{limit}
use Rattle.abs_parser.specs.Tokens.{Spot}
use Rattle.abs_tree.specs.declared.source_error.SourceError.{SourceError}
use Rattle.abs_parser.proofs.grammar.NameLemmas.{goes_on_further}
use Rattle.abs_parser.proofs.reader.PatternSteps.{next_taken, nothing_found, refused_unfit}
use Rattle.abs_parser.proofs.reader.FoundLemmas.{found_goes_on}
use Rattle.abs_parser.proofs.reader.StepLemmas.{HasRead, opens, over_token, over_part, into_last, all_read, refused_inside, fits_next}
use Rattle.abs_parser.proofs.reader.InFrontSteps.{refused_in_front}
use Rattle.abs_parser.proofs.grammar.NonterminalLemmas.{begins_with_token, begins_with_part, part_shut, part_begun, part_opened, optional_opened, optional_left_out, repeated_opened, repeated_ends}

-- The grammar says that `list` is `one` and any number of `next`, that `next` is the separator and `one`, and that
-- neither is counted.
pub record SeparatedList : Type 0 where
  pub separator : Punctuator
  pub list : Nonterminal
  pub one : Nonterminal
  pub next : Nonterminal
  pub list_is : rule list ≡ (Part one ∷ Many next ∷ []) ∷ []
  pub list_counts : counts list ≡ false
  pub next_is : rule next ≡ (punctuation separator ∷ Part one ∷ []) ∷ []
  pub next_counts : counts next ≡ false

-- The trees of such a list. In the code these are the trees of one element and of several, given the names. In what was
-- read they are those of an element, of the list, and of the elements after separators.
pub record ListTrees (Listed Tree Trees : Type 0) : Type 0 where
  pub tree : List Name → Listed → Tree
  pub trees : List Name → List Listed → Trees
  pub none : Trees
  pub more : Tree → Trees → Trees
  pub trees_none : (names : List Name) → trees names [] ≡ none
  pub trees_more : (names : List Name) (first : Listed) (others : List Listed)
      → trees names (first ∷ others) ≡ more (tree names first) (trees names others)
  pub one_in : Forest → Tree
  pub list_in : Forest → Trees
  pub others_in : Forest → Trees
  pub list_is : (one after : Goal) (first others : Forest)
      → list_in (Node one first (Node after others Empty)) ≡ more (one_in first) (others_in others)
  pub others_none : others_in Empty ≡ none
  pub others_more : (next one after : Goal) (mark : Mark) (depth : ℕ) (first others : Forest)
      → others_in (Node next (Leaf mark depth (Node one first Empty)) (Node after others Empty))
      ≡ more (one_in first) (others_in others)

-- What the nonterminals open to

-- a list begins with the same tokens as an element
list_begins : (so : SeparatedList) (kind : TokenKind) → begins so.list kind ≡ begins so.one kind
list_begins so kind = begins_with_part so.list kind so.list_is

-- a next element begins with the separator
next_begins : (so : SeparatedList) (kind : TokenKind) → begins so.next kind ≡ fits (PunctuatorKind so.separator) kind
next_begins so kind = begins_with_token so.next kind so.next_is

-- where an element may begin, a list opens to it and to others after separators
list_opened : (so : SeparatedList) (kind : TokenKind) (depth : ℕ) → begins so.one kind ≡ true
    → opened (One so.list) kind depth ≡ Some (Subgoal (One so.one) depth ∷ Subgoal (Repeated so.next) depth ∷ [])
list_opened so kind depth may = part_opened so.list kind depth so.list_is so.list_counts (list_begins so kind ∙ may)

-- where no element may begin, no list opens
list_shut : (so : SeparatedList) (kind : TokenKind) (depth : ℕ) → begins so.one kind ≡ false
    → opened (One so.list) kind depth ≡ None
list_shut so kind depth none = part_shut so.list kind depth (list_begins so kind ∙ none)

-- Reading a list

-- the trees of these elements in the code, followed by others
abbrev trees_before : {Listed Tree Trees : Type 0} → ListTrees Listed Tree Trees → List Name → List Listed → Trees
    → Trees
trees_before trees names [] others = others
trees_before trees names (first ∷ listed) others =
    trees.more (trees.tree names first) (trees_before trees names listed others)

-- the tree of one more element comes just before the others
one_before : {Listed Tree Trees : Type 0} (trees : ListTrees Listed Tree Trees) (names : List Name)
    (listed : List Listed) (last : Listed) (others : Trees)
    → trees_before trees names (listed ++ last ∷ []) others
    ≡ trees_before trees names listed (trees.more (trees.tree names last) others)
one_before trees names [] last others = refl
one_before trees names (first ∷ listed) last others =
    ap (trees.more (trees.tree names first)) (one_before trees names listed last others)

-- followed by no others, they are the trees of the whole list
all_before : {Listed Tree Trees : Type 0} (trees : ListTrees Listed Tree Trees) (names : List Name)
    (listed : List Listed) → trees_before trees names listed trees.none ≡ trees.trees names listed
all_before trees names [] = sym (trees.trees_none names)
all_before trees names (first ∷ listed) =
    ap (trees.more (trees.tree names first)) (all_before trees names listed) ∙ sym (trees.trees_more names first listed)

-- A list was read up to here, with the trees of those elements that the code has. Any further elements after separators
-- complete it.
pub record ReadsSoFar (so : SeparatedList) {Listed Tree Trees : Type 0} (trees : ListTrees Listed Tree Trees)
    (depth : ℕ) (old now : List (List ℕ)) (from here : Spot) (listed : List Listed) : Type 0 where
  pub make : Forest → Forest
  pub read : HasRead (One so.list) depth old now from make (Subgoal (Repeated so.next) depth ∷ []) here
  pub is : (names : List Name) → GoesOn now names → (others : Forest)
      → trees.list_in (make (Node (Repeated so.next) others Empty))
      ≡ trees_before trees names listed (trees.others_in others)

-- the first element of a list was read
pub first_so_far : (so : SeparatedList) {Listed Tree Trees : Type 0} (trees : ListTrees Listed Tree Trees) {depth : ℕ}
    {old new : List (List ℕ)} {from to : Spot} {listed : List Listed} {first : Listed}
    → listed ≡ first ∷ [] → FoundAs (One so.one) depth old new from to
    (λ names inside. trees.tree names first ≡ trees.one_in inside) → ReadsSoFar so trees depth old new from to listed
first_so_far so trees {depth} {old} {from = from} items found = record {
  make = λ rest. Node (One so.one) found.inside rest;
  read = over_part (opens (One so.list) depth old from _
      (list_opened so _ depth (part_begun so.one _ depth found.rule_is))) found;
  is = λ names more others. trees.list_is _ _ found.inside others
      ∙ (ap (λ tree. trees.more tree (trees.others_in others)) (sym (found.is names more))
      ∙ ap (λ l. trees_before trees names l (trees.others_in others)) (sym items));
}

-- a separator was read
separator_read : (so : SeparatedList) {token : Lexed} {here after : Spot} (depth : ℕ) (table : List (List ℕ))
    → TakesKind (lexeme.Punctuator so.separator) token here after → depth ≤ limit
    → HasRead (One so.next) depth table table here (λ rest. Leaf (Token token) depth rest)
    (Subgoal (One so.one) depth ∷ []) after
separator_read so {here = here} depth table takes within =
    over_token (opens (One so.next) depth table here _
    (part_opened so.next _ depth so.next_is so.next_counts (next_begins so _ ∙ fits_next refl takes))) takes refl refl
    within

-- a separator opens further elements
others_begin : (so : SeparatedList) {token : Lexed} {here after : Spot} (depth : ℕ) (table : List (List ℕ))
    → TakesKind (lexeme.Punctuator so.separator) token here after
    → HasRead (Repeated so.next) depth table table here (λ rest. rest)
    (Subgoal (One so.next) depth ∷ Subgoal (Repeated so.next) depth ∷ []) here
others_begin so {here = here} depth table takes =
    opens (Repeated so.next) depth table here _
    (repeated_opened so.next _ depth (next_begins so _ ∙ fits_next refl takes))

-- one more element of a list was read after a separator
pub next_so_far : {so : SeparatedList} {Listed Tree Trees : Type 0} {trees : ListTrees Listed Tree Trees} {depth : ℕ}
    {old now new : List (List ℕ)} {from here after to : Spot} {token : Lexed} {listed longer : List Listed}
    {last : Listed}
    → ReadsSoFar so trees depth old now from here listed → longer ≡ listed ++ last ∷ []
    → TakesKind (lexeme.Punctuator so.separator) token here after → depth ≤ limit
    → FoundAs (One so.one) depth now new after to (λ names inside. trees.tree names last ≡ trees.one_in inside)
    → ReadsSoFar so trees depth old new from to longer
next_so_far {so} {trees = trees} {depth} {now = now} {new = new} {here = here} {to = to} {token = token}
    {listed = listed} {last = last} before items takes within found =
    let next : FoundAs (One so.next) depth now new here to
    (λ names inside. inside ≡ Leaf (Token token) depth (Node (One so.one) found.inside Empty)) =
    all_read (over_part (separator_read so depth now takes within) found) (λ names more. refl) in
    record {
      make = λ rest. before.make (Node (Repeated so.next) (Node (One so.next) next.inside rest) Empty);
      read = into_last before.read (over_part (others_begin so depth now takes) next);
      is = λ names more others.
          before.is names (goes_on_further (found_goes_on found) more)
          (Node (One so.next) next.inside (Node (Repeated so.next) others Empty))
          ∙ (ap (trees_before trees names listed)
          (ap (λ inside. trees.others_in (Node (One so.next) inside (Node (Repeated so.next) others Empty)))
          (next.is names more)
          ∙ (trees.others_more _ _ _ _ _ found.inside others
          ∙ ap (λ tree. trees.more tree (trees.others_in others)) (sym (found.is names more))))
          ∙ (sym (one_before trees names listed last (trees.others_in others))
          ∙ ap (λ l. trees_before trees names l (trees.others_in others)) (sym items)));
    }

-- where no separator is next, the list is found
pub all_so_far : {so : SeparatedList} {Listed Tree Trees : Type 0} {trees : ListTrees Listed Tree Trees} {depth : ℕ}
    {old now : List (List ℕ)} {from here : Spot} {listed : List Listed}
    → ReadsSoFar so trees depth old now from here listed
    → fits (PunctuatorKind so.separator) (next (left_at here)) ≡ false
    → FoundAs (One so.list) depth old now from here (λ names inside. trees.trees names listed ≡ trees.list_in inside)
all_so_far {so} {trees = trees} {depth} {now = now} {here = here} {listed = listed} before other =
    all_read (into_last before.read
    (opens (Repeated so.next) depth now here _ (repeated_ends so.next _ depth (next_begins so _ ∙ other))))
    (λ names more. sym (before.is names more Empty
    ∙ (ap (trees_before trees names listed) trees.others_none ∙ all_before trees names listed)))

-- Where a list is refused

-- what refuses the first element refuses the list
pub refused_first : (so : SeparatedList) (depth : ℕ) (from : Spot) (error : SourceError)
    → IsRefused (Subgoal (One so.one) depth) from error → IsRefused (Subgoal (One so.list) depth) from error
refused_first so depth from error refused =
    refused_in_front so.one depth (One so.list) depth from error (list_opened so _ depth) (list_shut so _ depth) refused

-- after a separator, what refuses the next element refuses the list
pub refused_next : {so : SeparatedList} {Listed Tree Trees : Type 0} {trees : ListTrees Listed Tree Trees} {depth : ℕ}
    {old now : List (List ℕ)} {from here after : Spot} {token : Lexed} {listed : List Listed}
    → ReadsSoFar so trees depth old now from here listed → TakesKind (lexeme.Punctuator so.separator) token here after
    → depth ≤ limit → (error : SourceError)
    → IsRefused (Subgoal (One so.one) depth) after error → IsRefused (Subgoal (One so.list) depth) from error
refused_next {so} {depth = depth} {now = now} before takes within error refused =
    refused_inside before.read error
    (refused_inside (others_begin so depth now takes) error
    (refused_inside (separator_read so depth now takes within) error refused))

-- A list in parentheses

-- a list that was found is found as an optional list
pub maybe_found : (so : SeparatedList) {depth : ℕ} {old new : List (List ℕ)} {from to : Spot}
    {is_read : List (List ℕ) → Forest → Type 0} → (found : FoundAs (One so.list) depth old new from to is_read)
    → FoundAs (Optional so.list) depth old new from to (λ names inside. inside ≡ Node (One so.list) found.inside Empty)
maybe_found so {depth} {old} {from = from} found =
    all_read (over_part (opens (Optional so.list) depth old from _
    (optional_opened so.list _ depth (part_begun so.list _ depth found.rule_is))) found) (λ names more. refl)

-- The grammar says that `nonterminal` is an optional list in parentheses, and that it is not counted. No element begins
-- with a closing parenthesis.
pub record InParentheses (so : SeparatedList) : Type 0 where
  pub nonterminal : Nonterminal
  pub nonterminal_is : rule nonterminal ≡ (open_paren ∷ Opt so.list ∷ close_paren ∷ []) ∷ []
  pub nonterminal_counts : counts nonterminal ≡ false
  pub none_closes : begins so.one (PunctuatorKind punctuator.CloseParen) ≡ false

-- such a nonterminal begins with the opening parenthesis
parentheses_begin : {so : SeparatedList} (within : InParentheses so) (kind : TokenKind)
    → begins within.nonterminal kind ≡ fits (PunctuatorKind punctuator.OpenParen) kind
parentheses_begin within kind = begins_with_token within.nonterminal kind within.nonterminal_is

-- where no opening parenthesis is next, it is left out
pub parentheses_left_out : {so : SeparatedList} (within : InParentheses so) (kind : TokenKind) (depth : ℕ)
    → fits (PunctuatorKind punctuator.OpenParen) kind ≡ false
    → opened (Optional within.nonterminal) kind depth ≡ Some []
parentheses_left_out within kind depth other =
    optional_left_out within.nonterminal kind depth (parentheses_begin within kind ∙ other)

-- where an opening parenthesis is next, it is not left out
pub parentheses_follow : {so : SeparatedList} (within : InParentheses so) (kind : TokenKind) (depth : ℕ)
    → fits (PunctuatorKind punctuator.OpenParen) kind ≡ true
    → opened (Optional within.nonterminal) kind depth ≡ Some (Subgoal (One within.nonterminal) depth ∷ [])
parentheses_follow within kind depth fit =
    optional_opened within.nonterminal kind depth (parentheses_begin within kind ∙ fit)

-- an opening parenthesis opens the nonterminal itself
pub parentheses_opened : {so : SeparatedList} (within : InParentheses so) (kind : TokenKind) (depth : ℕ)
    → fits (PunctuatorKind punctuator.OpenParen) kind ≡ true
    → opened (One within.nonterminal) kind depth
    ≡ Some (Terminal (PunctuatorKind punctuator.OpenParen) depth ∷ Subgoal (Optional so.list) depth
    ∷ Terminal (PunctuatorKind punctuator.CloseParen) depth ∷ [])
parentheses_opened within kind depth fit =
    part_opened within.nonterminal kind depth within.nonterminal_is within.nonterminal_counts
    (parentheses_begin within kind ∙ fit)

-- nothing else opens it
pub parentheses_shut : {so : SeparatedList} (within : InParentheses so) (kind : TokenKind) (depth : ℕ)
    → fits (PunctuatorKind punctuator.OpenParen) kind ≡ false → opened (One within.nonterminal) kind depth ≡ None
parentheses_shut within kind depth other =
    part_shut within.nonterminal kind depth (parentheses_begin within kind ∙ other)

-- the opening parenthesis was read
pub parenthesis_read : {so : SeparatedList} (within : InParentheses so) {token : Lexed} {from after : Spot} (depth : ℕ)
    (table : List (List ℕ)) → TakesKind (lexeme.Punctuator punctuator.OpenParen) token from after → depth ≤ limit
    → HasRead (One within.nonterminal) depth table table from (λ rest. Leaf (Token token) depth rest)
    (Subgoal (Optional so.list) depth ∷ Terminal (PunctuatorKind punctuator.CloseParen) depth ∷ []) after
parenthesis_read within {from = from} depth table takes shallow =
    over_token (opens (One within.nonterminal) depth table from _
    (parentheses_opened within _ depth (fits_next refl takes))) takes refl refl shallow

-- the opening parenthesis was read where the nonterminal is optional
pub parenthesis_read_maybe : {so : SeparatedList} (within : InParentheses so) {token : Lexed} {from after : Spot}
    (depth : ℕ) (table : List (List ℕ)) → TakesKind (lexeme.Punctuator punctuator.OpenParen) token from after
    → depth ≤ limit
    → HasRead (Optional within.nonterminal) depth table table from
    (λ rest. Node (One within.nonterminal) (Leaf (Token token) depth rest) Empty)
    (Subgoal (Optional so.list) depth ∷ Terminal (PunctuatorKind punctuator.CloseParen) depth ∷ []) after
parenthesis_read_maybe within {from = from} depth table takes shallow =
    into_last (opens (Optional within.nonterminal) depth table from _
    (parentheses_follow within _ depth (fits_next refl takes))) (parenthesis_read within depth table takes shallow)

-- where the closing parenthesis is next, the list is left out
pub nothing_between : {so : SeparatedList} (within : InParentheses so) {token : Lexed} {from after : Spot} (depth : ℕ)
    (table : List (List ℕ)) → TakesKind (lexeme.Punctuator punctuator.CloseParen) token from after
    → FoundAs (Optional so.list) depth table table from from (λ names inside. inside ≡ Empty)
nothing_between {so} within {from = from} depth table close =
    nothing_found (Optional so.list) depth table from
    (optional_left_out so.list _ depth
    (list_begins so _ ∙ (ap (begins so.one) (next_taken close) ∙ within.none_closes)))

-- the next lemma, by cases of whether an element may begin here
between_by : (may : Bool) (so : SeparatedList) {goal : Goal} {depth at : ℕ} {old now : List (List ℕ)}
    {from after : Spot} {make : Forest → Forest} {asked : TokenKind} {left : List Wanted} (error : SourceError)
    → begins so.one (next (left_at after)) ≡ may
    → HasRead goal depth old now from make (Subgoal (Optional so.list) at ∷ Terminal asked at ∷ left) after
    → fits asked (next (left_at after)) ≡ false → IsRefused (Subgoal (One so.list) at) after error
    → IsRefused (Subgoal goal depth) from error
between_by true so {at = at} {now = now} {after = after} error e before differs refused =
    refused_inside before error (refused_inside
    (opens (Optional so.list) at now after _ (optional_opened so.list _ at (list_begins so _ ∙ e))) error refused)
between_by false so {at = at} {now = now} {after = after} {asked = asked} error e before differs refused =
    refused_inside (over_part before
    (nothing_found (Optional so.list) at now after (optional_left_out so.list _ at (list_begins so _ ∙ e)))) error
    (refused_unfit (One so.list) at asked at after error (list_shut so _ at e) differs refused)

-- where the token that must follow an optional list is not next, what refuses the list refuses the part around it
pub refused_between : (so : SeparatedList) {goal : Goal} {depth at : ℕ} {old now : List (List ℕ)} {from after : Spot}
    {make : Forest → Forest} {asked : TokenKind} {left : List Wanted} (error : SourceError)
    → HasRead goal depth old now from make (Subgoal (Optional so.list) at ∷ Terminal asked at ∷ left) after
    → fits asked (next (left_at after)) ≡ false → IsRefused (Subgoal (One so.list) at) after error
    → IsRefused (Subgoal goal depth) from error
refused_between so error before differs refused = between_by _ so error refl before differs refused
