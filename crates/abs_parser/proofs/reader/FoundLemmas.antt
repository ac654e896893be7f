-- What follows from a part that was found: it leaves fewer tokens, its names extend the table of names, and the symbol
-- of a name has this name in each table that extends that one. Also, which lexemes are names.
use Rattle.std.proofs.Common.{◌≡◌, ◌≤◌, ℕ, suc, Bool, true, false, ◌||◌, not, cond, List, [], ◌∷◌, ◌++◌, ◌+◌, length, Option, Some, refl, sym, ap, subst, ◌∙◌, fold, map, arith, length-append}
use Rattle.std.specs.Prelude.{slice_get, unwrap_or}
use Rattle.std.specs.List.{list_any}
use Rattle.std.specs.Str.{bytes_eq}
use Rattle.std.proofs.lemmas.List.{length-map}
use Rattle.std.proofs.lemmas.List.Folds.{list_any-append}
use Rattle.std.proofs.lemmas.List.Sums.{fold-append}
use Rattle.std.proofs.lemmas.Slice.Eq.{bytes_eq-Decides}
use Rattle.abs_tree.specs.Names.{with_name, number_of_name, name_of}
use Rattle.abs_tree.specs.declared.symbol.Symbol.{Symbol}
use Rattle.abs_lexer.specs.declared.lexeme.Lexeme.{Lexeme}
use Rattle.abs_lexer.specs.declared.lexeme.Lexeme.TheVariants as lexeme
use Rattle.abs_lexer.specs.Tokens.{Lexed}
use Rattle.abs_lexer.specs.Words.{spelling, punctuator_bytes}
use Rattle.abs_parser.specs.Answers.{GoesOn}
use Rattle.abs_parser.specs.TokenKinds.{Mark, Token, TextEnd, TokenKind, LowerName, LocalName, UpperName, AbsName, StdLibName, token_kind, token_kind_of, fits}
use Rattle.abs_parser.specs.Readings.{Goal, Wanted, Forest, Empty, Leaf, Node, Reads, Nothing, Taken, Opened}
use Rattle.abs_parser.specs.Refusing.{AllWithin}
use Rattle.abs_parser.specs.Tokens.{Spot, TakesToken}
use Rattle.abs_parser.specs.TreesOf.{written}
use Rattle.abs_parser.specs.ReaderAnswers.{left_at, name_first, names_before, asked, FoundAs, is_asked}
use Rattle.abs_parser.proofs.grammar.NameLemmas.{goes_on_all, number_stays, few_more}
use Rattle.std.proofs.Math.Bool.{or-true}

-- two lists of nesting depths within the limit are within it together
pub within_both : (first second : List ℕ) → AllWithin first → AllWithin second → AllWithin (first ++ second)
within_both [] second here after = after
within_both (depth ∷ first) second here after = (here.0, within_both first second here.1 after)

-- the tokens that are left are the next one and those after it
pub left_of : {token : Lexed} {from to : Spot} → TakesToken token from to → left_at from ≡ Token token ∷ left_at to
left_of {token} {from} {to} takes = rw (takes.rest, takes.end) refl

-- the number of tokens that are left, with the end
pub left_length : (spot : Spot) → length (left_at spot) ≡ length spot.rest + 1
left_length spot = length-append (map Token spot.rest) (TextEnd spot.end ∷ [])
    ∙ ap (λ (n : ℕ). n + 1) (length-map spot.rest Token)

-- one token fewer is left after a token
pub token_shorter : {token : Lexed} {from to : Spot} → TakesToken token from to
    → length from.rest ≡ suc (length to.rest)
token_shorter takes = ap length takes.rest

-- whether tokens of this lexeme are names
abbrev pub is_name : Lexeme → Bool
is_name lexeme.LowerName = true
is_name lexeme.UpperName = true
is_name _ = false

-- a lower-case name fits, whether it is `local` or not
lower_fits : (is_local : Bool) → fits LowerName (cond is_local LocalName LowerName) ≡ true
lower_fits true = refl
lower_fits false = refl

-- an upper-case name fits, whether it is `ABS`, `StdLib` or neither
upper_fits : (is_abs is_std : Bool) → fits UpperName (cond is_abs AbsName (cond is_std StdLibName UpperName)) ≡ true
upper_fits true is_std = refl
upper_fits false true = refl
upper_fits false false = refl

-- a token fits where its lexeme is asked for, whatever its bytes are
pub asked_fits : (kind : Lexeme) (bytes : List ℕ) → is_asked kind ≡ true
    → fits (asked kind) (token_kind_of kind bytes) ≡ true
asked_fits lexeme.LowerName bytes is = lower_fits _
asked_fits lexeme.UpperName bytes is = upper_fits _ _
asked_fits lexeme.Number bytes is = refl
asked_fits lexeme.Text bytes is = refl
asked_fits (lexeme.Keyword keyword) bytes is = (bytes_eq-Decides (spelling keyword) (spelling keyword)).1 refl
asked_fits lexeme.Foreign bytes is = absurd cc
asked_fits (lexeme.Punctuator punctuator) bytes is =
    (bytes_eq-Decides (punctuator_bytes punctuator) (punctuator_bytes punctuator)).1 refl

-- a lower-case name is put before others
lower_named : (is_local : Bool) (name : List ℕ) (others : List (List ℕ))
    → name_first (cond is_local LocalName LowerName) name others ≡ name ∷ others
lower_named true name others = refl
lower_named false name others = refl

-- so is an upper-case name
upper_named : (is_abs is_std : Bool) (name : List ℕ) (others : List (List ℕ))
    → name_first (cond is_abs AbsName (cond is_std StdLibName UpperName)) name others ≡ name ∷ others
upper_named true is_std name others = refl
upper_named false true name others = refl
upper_named false false name others = refl

-- a name is put before others
pub named_first : (kind : Lexeme) (bytes : List ℕ) (others : List (List ℕ)) → is_name kind ≡ true
    → name_first (token_kind_of kind bytes) bytes others ≡ bytes ∷ others
named_first lexeme.LowerName bytes others is = lower_named _ bytes others
named_first lexeme.UpperName bytes others is = upper_named _ _ bytes others
named_first _ bytes others is = absurd cc

-- a token that is no name leaves the others as they are
pub unnamed_first : (kind : Lexeme) (bytes : List ℕ) (others : List (List ℕ)) → is_name kind ≡ false
    → name_first (token_kind_of kind bytes) bytes others ≡ others
unnamed_first lexeme.LowerName bytes others is = absurd cc
unnamed_first lexeme.UpperName bytes others is = absurd cc
unnamed_first _ bytes others is = refl

-- a name that is put before two lists is put before the first of them
name_first_append : (kind : TokenKind) (name : List ℕ) (others more : List (List ℕ))
    → name_first kind name (others ++ more) ≡ name_first kind name others ++ more
name_first_append LowerName name others more = refl
name_first_append LocalName name others more = refl
name_first_append UpperName name others more = refl
name_first_append AbsName name others more = refl
name_first_append StdLibName name others more = refl
name_first_append _ name others more = refl

-- the names in what was read, put before two lists, are put before the first of them
pub names_append : (forest : Forest) (others more : List (List ℕ))
    → names_before forest (others ++ more) ≡ names_before forest others ++ more
names_append Empty others more = refl
names_append (Leaf mark depth after) others more =
    ap (name_first (token_kind mark) (written mark)) (names_append after others more)
    ∙ name_first_append (token_kind mark) (written mark) (names_before after others) more
names_append (Node goal inside after) others more =
    ap (names_before inside) (names_append after others more) ∙ names_append inside (names_before after others) more

-- the names in what was read are added to the table before the others
pub table_of_both : (table : List (List ℕ)) (forest : Forest) (others : List (List ℕ))
    → fold with_name table (names_before forest others)
    ≡ fold with_name (fold with_name table (names_before forest [])) others
table_of_both table forest others =
    ap (fold with_name table) (names_append forest [] others)
    ∙ fold-append with_name table (names_before forest []) others

-- a token gives at most one name
few_first : (kind : TokenKind) (name : List ℕ) (others : List (List ℕ))
    → length (name_first kind name others) ≤ length others + 1
few_first LowerName name others = omega arith
few_first LocalName name others = omega arith
few_first UpperName name others = omega arith
few_first AbsName name others = omega arith
few_first StdLibName name others = omega arith
few_first _ name others = omega arith

-- what was read has no more names than tokens
few_names : {items : List Wanted} {ts rest : List Mark} {forest : Forest} → Reads items ts forest rest
    → (others : List (List ℕ))
    → length (names_before forest others) + length rest ≤ length others + length ts
few_names Nothing others = omega arith
few_names (Taken {mark = mark} {forest = forest} e reads) others =
    omega (arith, few_first (token_kind mark) (written mark) (names_before forest others), few_names reads others)
few_names (Opened {inside = inside} {forest = forest} e first reads) others =
    omega (arith, few_names first (names_before forest others), few_names reads others)

-- a reading leaves no more tokens than there were
pub reads_shorter : {items : List Wanted} {ts rest : List Mark} {forest : Forest} → Reads items ts forest rest
    → length rest ≤ length ts
reads_shorter Nothing = omega arith
reads_shorter (Taken e reads) = omega (arith, reads_shorter reads)
reads_shorter (Opened e first reads) = omega (arith, reads_shorter first, reads_shorter reads)

-- a part that was found leaves no more tokens than there were
pub found_shorter : {goal : Goal} {depth : ℕ} {old new : List (List ℕ)} {from to : Spot}
    {is_read : List (List ℕ) → Forest → Type 0}
    → FoundAs goal depth old new from to is_read → length to.rest ≤ length from.rest
found_shorter {from = from} {to = to} found = omega (arith, reads_shorter found.reads, left_length from, left_length to)

-- a part that was found adds no more names to the table than it takes tokens
pub found_few : {goal : Goal} {depth : ℕ} {old new : List (List ℕ)} {from to : Spot}
    {is_read : List (List ℕ) → Forest → Type 0}
    → FoundAs goal depth old new from to is_read → length new + length to.rest ≤ length old + length from.rest
found_few {old = old} {from = from} {to = to} found =
    omega (
      arith,
      few_more old (names_before found.inside []),
      few_names found.reads [],
      ap length found.table,
      left_length from,
      left_length to,
    )

-- the table after a part that was found extends the one before
pub found_goes_on : {goal : Goal} {depth : ℕ} {old new : List (List ℕ)} {from to : Spot}
    {is_read : List (List ℕ) → Forest → Type 0}
    → FoundAs goal depth old new from to is_read → GoesOn old new
found_goes_on {old = old} found = rw found.table (goes_on_all old (names_before found.inside []))

-- a name is found by its number in `x ∷ xs`, if it is `x` or is found in `xs`
place_by : (here after : Bool) (k : ℕ) (name x : List ℕ) (xs : List (List ℕ)) → (here ≡ true → x ≡ name)
    → (after ≡ true → slice_get xs k ≡ Some name)
    → (here || after) ≡ true → slice_get (x ∷ xs) (cond (not here) (1 + k) 0) ≡ Some name
place_by true after k name x xs same further found = ap Some (same refl)
place_by false after k name x xs same further found =
    let more : 1 + k ≡ suc k = omega arith in
    rw more (further found)

-- a name is found by its number in a table that has it
name_at : (table : List (List ℕ)) (name : List ℕ) → list_any (bytes_eq name) table ≡ true
    → slice_get table (number_of_name table name) ≡ Some name
name_at [] name found = absurd cc
name_at (x ∷ xs) name found = place_by (bytes_eq name x) (list_any (bytes_eq name) xs) (number_of_name xs name) name x
    xs (λ e. sym ((bytes_eq-Decides name x).0 e)) (name_at xs name) found

-- a table has the name that was added to it, by cases of whether it had it before
is_there_by : (is : Bool) (table : List (List ℕ)) (name : List ℕ) → list_any (bytes_eq name) table ≡ is
    → list_any (bytes_eq name) (cond is table (table ++ name ∷ [])) ≡ true
is_there_by true table name e = e
is_there_by false table name e =
    list_any-append (bytes_eq name) table (name ∷ [])
    ∙ (ap (λ (b : Bool). list_any (bytes_eq name) table || (b || false)) ((bytes_eq-Decides name name).1 refl)
    ∙ or-true _)

-- a table has the name that was added to it
is_there : (table : List (List ℕ)) (name : List ℕ) → list_any (bytes_eq name) (with_name table name) ≡ true
is_there table name = is_there_by (list_any (bytes_eq name) table) table name refl

-- so does each table that extends it
is_there_still : (table : List (List ℕ)) (name : List ℕ) (names : List (List ℕ)) → GoesOn (with_name table name) names
    → list_any (bytes_eq name) names ≡ true
is_there_still table name names more =
    ap (list_any (bytes_eq name)) more.is
    ∙ (list_any-append (bytes_eq name) (with_name table name) more.more
    ∙ ap (λ (b : Bool). b || list_any (bytes_eq name) more.more) (is_there table name))

-- the symbol of a name that was added to a table has this name in each table that extends it
pub symbol_named : (old : List (List ℕ)) (name : List ℕ) (symbol : Symbol) → symbol.0 ≡ number_of_name old name
    → (names : List (List ℕ)) → GoesOn (with_name old name) names → name_of names symbol ≡ name
symbol_named old name symbol is names more =
    ap (λ (n : ℕ). unwrap_or (slice_get names n) []) (is ∙ sym (number_stays old name names more))
    ∙ ap (λ (found : Option (List ℕ)). unwrap_or found []) (name_at names name (is_there_still old name names more))

-- `symbol_named`, with a variable for the table
pub symbol_kept : (old : List (List ℕ)) {table : List (List ℕ)} {name : List ℕ} (symbol : Symbol)
    → symbol.0 ≡ number_of_name old name → table ≡ with_name old name
    → (names : List (List ℕ)) → GoesOn table names → name_of names symbol ≡ name
symbol_kept old {name = name} symbol number is names more =
    symbol_named old name symbol number names (subst (λ (t : List (List ℕ)). GoesOn t names) is more)

-- a part that was found has each property that follows from how it was found
pub found_weaker : {goal : Goal} {depth : ℕ} {old new : List (List ℕ)} {from to : Spot}
    {is_read is_too : List (List ℕ) → Forest → Type 0} → (found : FoundAs goal depth old new from to is_read)
    → ((names : List (List ℕ)) → GoesOn new names → is_read names found.inside → is_too names found.inside)
    → FoundAs goal depth old new from to is_too
found_weaker found so = record {
  inside = found.inside;
  inner = found.inner;
  rule_is = found.rule_is;
  reads = found.reads;
  within = found.within;
  table = found.table;
  is = λ names more. so names more (found.is names more);
}
