-- Each name in what was read of a source has the bytes of one of its tokens.
use Rattle.std.proofs.Common.{ℕ, List, [], ◌∷◌, map, fold, refl}
use Rattle.std.proofs.lemmas.List.Elements.{All-nil, All-cons, All-head, All-tail, All-append, All-map, All-contains_itself}
use Rattle.std.specs.Prelude.{⊤}
use Rattle.std.specs.List.{All, Contains}
use Rattle.abs_lexer.specs.Tokens.{Lexed, TokenList}
use Rattle.abs_tree.specs.Names.{with_name}
use Rattle.abs_parser.specs.Answers.{IsWritten}
use Rattle.abs_parser.specs.TokenKinds.{Mark, Token, TextEnd, marks, TokenKind, LowerName, LocalName, UpperName, AbsName, StdLibName, token_kind}
use Rattle.abs_parser.specs.Readings.{Wanted, Forest, Reads, Nothing, Taken, Opened}
use Rattle.abs_parser.specs.ReaderAnswers.{name_first, names_before}
use Rattle.abs_parser.specs.TreesOf.{written}
use Rattle.abs_parser.proofs.grammar.NameLemmas.{all_named}

-- a property of all tokens holds of those that are left
all_left : (P : Mark → Type 0) {items : List Wanted} {ts rest : List Mark} {forest : Forest}
    → Reads items ts forest rest → All P ts → All P rest
all_left P Nothing all = all
all_left P (Taken {mark = mark} {ts = ts} fit reads) all = all_left P reads (All-tail P mark ts all)
all_left P (Opened is first reads) all = all_left P reads (all_left P first all)

-- a property of a name and of the others holds of all of them, whether the token is a name or not
first_by : (P : List ℕ → Type 0) (kind : TokenKind) (name : List ℕ) (others : List (List ℕ)) → P name → All P others
    → All P (name_first kind name others)
first_by P LowerName name others one each = All-cons P name others one each
first_by P LocalName name others one each = All-cons P name others one each
first_by P UpperName name others one each = All-cons P name others one each
first_by P AbsName name others one each = All-cons P name others one each
first_by P StdLibName name others one each = All-cons P name others one each
first_by P _ name others one each = each

-- a token is one of these tokens; for the end of the source this is always true
abbrev IsAmong : List Lexed → Mark → Type 0
IsAmong tokens (Token token) = Contains tokens token
IsAmong tokens (TextEnd place) = ⊤

-- the name of one of these tokens, put before others, has the bytes of a token, as the others have
first_written : (tokens : List Lexed) (mark : Mark) (others : List (List ℕ)) → IsAmong tokens mark
    → All (IsWritten tokens) others
    → All (IsWritten tokens) (name_first (token_kind mark) (written mark) others)
first_written tokens (Token token) others among each =
    first_by (IsWritten tokens) (token_kind (Token token)) token.bytes others
    (record { token = token; among = among; is = refl }) each
first_written tokens (TextEnd place) others among each = each

-- the names in what was read have the bytes of tokens, if the others after them have
names_written : (tokens : List Lexed) {items : List Wanted} {ts rest : List Mark} {forest : Forest}
    → Reads items ts forest rest → All (IsAmong tokens) ts
    → (others : List (List ℕ)) → All (IsWritten tokens) others → All (IsWritten tokens) (names_before forest others)
names_written tokens Nothing all others each = each
names_written tokens (Taken {mark = mark} {ts = ts} {forest = forest} fit reads) all others each =
    first_written tokens mark (names_before forest others) (All-head (IsAmong tokens) mark ts all)
    (names_written tokens reads (All-tail (IsAmong tokens) mark ts all) others each)
names_written tokens (Opened {forest = forest} is first reads) all others each =
    names_written tokens first all (names_before forest others)
    (names_written tokens reads (all_left (IsAmong tokens) first all) others each)

-- each token of a source is one of its tokens
all_among : (list : TokenList) → All (IsAmong list.tokens) (marks list)
all_among list =
    All-append (IsAmong list.tokens) (map Token list.tokens) (TextEnd list.end ∷ [])
    (All-map (IsAmong list.tokens) Token list.tokens (All-contains_itself list.tokens))
    (All-cons (IsAmong list.tokens) (TextEnd list.end) [] tt (All-nil (IsAmong list.tokens)))

-- so each name in the table of a source that was read has the bytes of one of its tokens
pub table_written : (list : TokenList) {items : List Wanted} {rest : List Mark} {forest : Forest}
    → Reads items (marks list) forest rest
    → All (IsWritten list.tokens) (fold with_name [] (names_before forest []))
table_written list {forest = forest} reads =
    all_named (IsWritten list.tokens) [] (names_before forest []) (All-nil (IsWritten list.tokens))
    (names_written list.tokens reads (all_among list) [] (All-nil (IsWritten list.tokens)))
