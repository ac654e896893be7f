-- A source has at most one program, and at most one refusal, and not both.
use Rattle.std.proofs.Common.{◌≡◌, ℕ, List, [], ◌++◌, refl, sym, ap, ◌∙◌, subst, inl, inr, fold, option_map}
use Rattle.std.proofs.lemmas.List.Elements.{All-weaker, All-contains, All-contains_itself}
use Rattle.std.specs.List.{All, Contains}
use Rattle.std.proofs.lemmas.Option.{none-some, same_Some}
use Rattle.std.specs.Prelude.{Option, Some, None}
use Rattle.abs_tree.specs.Names.{by_first_appearance, with_name}
use Rattle.abs_tree.specs.Syntax.{Name, SourceTree, ProgramTree}
use Rattle.abs_tree.specs.declared.refusal.Code.{Code}
use Rattle.abs_tree.specs.declared.refusal.Offence.{Offence}
use Rattle.abs_tree.specs.declared.refusal.Refusal.{Refusal}
use Rattle.abs_tree.specs.Offences.{first_offence}
use Rattle.abs_tree.specs.Refusals.{refusal_of}
use Rattle.abs_lexer.proofs.LawLemmas.{list_once, first_once, list_or_first}
use Rattle.abs_lexer.specs.Answers.{RefusesLexing}
use Rattle.abs_lexer.specs.Tokens.{Lexed, TokenList, TokensOf, IsPieceAt}
use Rattle.abs_parser.proofs.grammar.NameLemmas.{all_named}
use Rattle.abs_parser.proofs.grammar.ReadingLemmas.{one_reading}
use Rattle.abs_parser.proofs.stop.OutcomeLemmas.{one_stop}
use Rattle.abs_parser.specs.Answers.{IsWritten}
use Rattle.abs_parser.specs.TokenKinds.{Mark, place_of_mark}
use Rattle.abs_parser.specs.ReaderAnswers.{names_before}
use Rattle.abs_parser.specs.Readings.{Forest}
use Rattle.abs_parser.specs.Texts.{IsTextOf, StopsWith}
use Rattle.abs_parser.specs.TreesOf.{tree_of}
use Rattle.abs_names.specs.Answers.{RefusesFirst}
use Rattle.abs_names.specs.NameOffences.{name_offences}
use Rattle.abs_prelude.specs.Prelude.{prelude_names}
use Rattle.abs_names.specs.Resolution.{resolved}
use Rattle.abs_types.specs.TypeOffences.{type_offences}
use Rattle.abs_profile.specs.Profile.{profile_offences}
use Rattle.abs_command.specs.Sources.{IsTree, IsProgramOf, IsPiece, IsNameOf, FirstOffence, HasOneFirstOffence}
use Rattle.abs_command.specs.Sources.FirstOffence.{unlexed, unread, misnamed, mistyped, outside_profile}

-- the names of two trees are equal, and so are the trees
record OneTree (names others : List Name) (tree next : SourceTree) : Type 0 where
  names_are : names ≡ others
  tree_is : tree ≡ next

-- two trees of one list of tokens are equal
list_tree : {list : TokenList} {names others : List Name} {tree next : SourceTree} → IsTextOf list names tree
    → IsTextOf list others next → OneTree names others tree next
list_tree x y =
    let same_forest = (one_reading x.accepted.reads.reads y.accepted.reads.reads).0 in
    record {
      names_are = x.names_are ∙ (ap (λ (forest : Forest). by_first_appearance (names_before forest [])) same_forest
          ∙ sym y.names_are);
      tree_is = x.is ∙ (ap tree_of same_forest ∙ sym y.is);
    }

-- two trees of a source are equal
one_tree : {text : List ℕ} {names others : List Name} {tree next : SourceTree} → IsTree text names tree
    → IsTree text others next → OneTree names others tree next
one_tree {others = others} {next = next} x y =
    list_tree x.is (subst (λ (list : TokenList). IsTextOf list others next) (list_once y.tokens x.tokens) y.is)

-- what two trees of a source give is equal
one_of_tree : {text : List ℕ} {names others : List Name} {tree next : SourceTree} {A : Type 0} (gives : SourceTree → A)
    → IsTree text names tree → IsTree text others next → gives tree ≡ gives next
one_of_tree gives x y = ap gives (one_tree x y).tree_is

-- the program with these names and this tree
abbrev program : List Name → SourceTree → ProgramTree
program names tree = record { names = names; source = tree }

-- the same names and the same tree are the same program
same_program : (p q : ProgramTree) → p.names ≡ q.names → p.source ≡ q.source → p ≡ q
same_program p q names source = ap (λ (known : List Name). program known p.source) names ∙ ap (program q.names) source

-- Two programs of a source are equal.
pub one_program : {text : List ℕ} {p q : ProgramTree} → IsProgramOf text p → IsProgramOf text q → p ≡ q
one_program {text} {p} {q} x y =
    same_program p q
    (x.names_are ∙ (ap (λ (names : List Name). fold with_name names prelude_names) (one_tree x.read y.read).names_are
    ∙ sym y.names_are))
    (x.is ∙ (one_of_tree resolved x.read y.read ∙ sym y.is))

-- the first of two offences that may be there: the second one only if the first one is not
abbrev in_turn : Option Offence → Option Offence → Option Offence
in_turn (Some offence) second = Some offence
in_turn None second = second

-- the first offences of a tree by its types, and of the profile
abbrev first_mistyped : SourceTree → Option Offence
first_mistyped tree = first_offence (type_offences (resolved tree))

abbrev first_outside : SourceTree → Option Offence
first_outside tree = first_offence (profile_offences (resolved tree))

-- the first offence of a tree: of its names, else by its types, else of the profile
abbrev first_of_tree : SourceTree → Option Offence
first_of_tree tree = in_turn (first_offence (name_offences tree))
    (in_turn (first_mistyped tree) (first_outside tree))

-- A source is refused in one of three ways: for a token, for what the parser meets, or for an offence of its tree.
data Refused (text : List ℕ) (refusal : Refusal) : Type 0 where
  unlexed_source : RefusesLexing text refusal → Refused text refusal
  unread_source : (list : TokenList) → TokensOf text list → StopsWith list refusal → Refused text refusal
  offending_tree : (names : List Name) (tree : SourceTree) (first : Offence) → IsTree text names tree
      → first_of_tree tree ≡ Some first → refusal ≡ refusal_of first → Refused text refusal

-- each way in which a source is refused is one of these
in_three_ways : {text : List ℕ} {refusal : Refusal} → FirstOffence text refusal → Refused text refusal
in_three_ways (unlexed lexing) = unlexed_source lexing
in_three_ways (unread list tokens stops) = unread_source list tokens stops
in_three_ways (misnamed names tree read first) =
    offending_tree names tree first.first read (rw first.is_first refl) first.refusal_is
in_three_ways (mistyped names tree read named first) =
    offending_tree names tree first.first read (rw (named, first.is_first) refl) first.refusal_is
in_three_ways (outside_profile names tree read named typed first) =
    offending_tree names tree first.first read (rw (named, typed, first.is_first) refl) first.refusal_is

-- the tree of a source with a program has no offence
none_of_tree : {text : List ℕ} {program : ProgramTree} (accepted : IsProgramOf text program)
    → first_of_tree accepted.tree ≡ None
none_of_tree {text} {program} accepted =
    let typed = ap type_offences (sym accepted.is) ∙ accepted.typed in
    let profiled = ap profile_offences (sym accepted.is) ∙ accepted.profiled in
    rw (accepted.no_offence, typed, profiled) refl

-- the parser does not fail on an accepted source
no_stop : {text : List ℕ} {names : List Name} {tree : SourceTree} {list : TokenList} {refusal : Refusal}
    → IsTree text names tree → TokensOf text list → StopsWith list refusal → ⊥
no_stop {refusal = refusal} x tokens stops =
    let stop = subst (λ (l : TokenList). StopsWith l refusal) (list_once tokens x.tokens) stops in
    x.is.accepted.no_stop stop.before stop.mark stop.code stop.stops

-- a source with a program is refused in none of the three ways
not_refused : {text : List ℕ} {program : ProgramTree} {refusal : Refusal} → IsProgramOf text program
    → Refused text refusal → ⊥
not_refused accepted (unlexed_source lexing) = list_or_first accepted.read.tokens lexing.is_first
not_refused accepted (unread_source list tokens stops) = no_stop accepted.read tokens stops
not_refused accepted (offending_tree names tree first read is_first is) =
    none-some first (sym (none_of_tree accepted) ∙ (one_of_tree first_of_tree accepted.read read ∙ is_first))

-- A source with a program has no offence.
pub no_offence : {text : List ℕ} {program : ProgramTree} {refusal : Refusal} → IsProgramOf text program
    → FirstOffence text refusal → ⊥
no_offence accepted offence = not_refused accepted (in_three_ways offence)

-- Two refusals for the first lexical offence are equal.
one_lexical : {text : List ℕ} {one other : Refusal} → RefusesLexing text one → RefusesLexing text other → one ≡ other
one_lexical x y = x.refusal_is ∙ (ap refusal_of (first_once x.is_first y.is_first) ∙ sym y.refusal_is)

-- so are two for the point at which the parser fails
one_stopped : {list : TokenList} {one other : Refusal} → StopsWith list one → StopsWith list other → one ≡ other
one_stopped x y =
    let once = one_stop x.stops y.stops in
    let at : Code → Mark → Refusal = λ code mark. refusal_of (record { code = code; place = place_of_mark mark }) in
    x.refusal_is ∙ (sym (ap (λ (code : Code). at code y.mark) once.2 ∙ ap (at x.code) once.1) ∙ sym y.refusal_is)

-- two refusals in the three ways are equal
one_refused : {text : List ℕ} (one other : Refusal) → Refused text one → Refused text other → one ≡ other
one_refused one other (unlexed_source x) (unlexed_source y) = one_lexical x y
one_refused one other (unlexed_source x) (unread_source list tokens stops) = absurd (list_or_first tokens x.is_first)
one_refused one other (unlexed_source x) (offending_tree names tree first read is_first is) =
    absurd (list_or_first read.tokens x.is_first)
one_refused one other (unread_source list tokens stops) (unlexed_source y) = absurd (list_or_first tokens y.is_first)
one_refused one other (unread_source list tokens stops) (unread_source others other_tokens other_stops) =
    one_stopped stops (subst (λ (l : TokenList). StopsWith l other) (list_once other_tokens tokens) other_stops)
one_refused one other (unread_source list tokens stops) (offending_tree names tree first read is_first is) =
    absurd (no_stop read tokens stops)
one_refused one other (offending_tree names tree first read is_first is) (unlexed_source y) =
    absurd (list_or_first read.tokens y.is_first)
one_refused one other (offending_tree names tree first read is_first is) (unread_source list tokens stops) =
    absurd (no_stop read tokens stops)
one_refused one other (offending_tree names tree first read is_first is)
    (offending_tree others next second reads is_second other_is) =
    let same = sym is_first ∙ (one_of_tree first_of_tree read reads ∙ is_second) in
    is ∙ (ap refusal_of (same_Some first second same) ∙ sym other_is)

-- A source is refused for at most one offence.
pub one_first_offence : (text : List ℕ) → HasOneFirstOffence text
one_first_offence text one other x y = one_refused one other (in_three_ways x) (in_three_ways y)

-- a refusal that is there is of the first offence
pub first_refused : (offences : List Offence) (refusal : Refusal)
    → Some refusal ≡ option_map refusal_of (first_offence offences) → RefusesFirst offences refusal
first_refused offences refusal is = some_if (first_offence offences) refl is
  where
    some_if : (first : Option Offence) → first_offence offences ≡ first → Some refusal ≡ option_map refusal_of first
        → RefusesFirst offences refusal
    some_if None first_is is = absurd (none-some refusal (sym is))
    some_if (Some first) first_is is = record {
      first = first;
      is_first = first_is;
      refusal_is = same_Some refusal (refusal_of first) is;
    }

-- if tokens are pieces of a source, the names that they write are pieces of it too
names_are_pieces : {text : List ℕ} (tokens : List Lexed) (names : List (List ℕ)) → All (IsPieceAt text) tokens
    → All (IsWritten tokens) names → All (IsPiece text) names
names_are_pieces {text} tokens names pieces written = All-weaker (IsWritten tokens) (IsPiece text) piece names written
  where
    piece : (name : List ℕ) → IsWritten tokens name → IsPiece text name
    piece name x =
        let at = All-contains (IsPieceAt text) tokens x.token pieces x.among in
        record {
          front = at.front;
          after = at.after;
          is =
              at.is ∙ ap (λ (bytes : List ℕ). at.front ++ (bytes ++ at.after)) (sym x.is);
        }

-- each name of a program is a name that its tokens write, or one of the prelude
pub program_names : {text : List ℕ} (tokens : List Lexed) (parsed names : List (List ℕ)) → All (IsPieceAt text) tokens
    → All (IsWritten tokens) parsed → names ≡ fold with_name parsed prelude_names → All (IsNameOf text) names
program_names {text} tokens parsed names pieces written are =
    subst (All (IsNameOf text)) (sym are)
    (all_named (IsNameOf text) parsed prelude_names
    (All-weaker (IsPiece text) (IsNameOf text) (λ name piece. inl piece) parsed
    (names_are_pieces tokens parsed pieces written))
    (All-weaker (Contains prelude_names) (IsNameOf text) (λ name among. inr among) prelude_names
    (All-contains_itself prelude_names)))
