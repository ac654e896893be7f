-- What the getters of `clap` read in the matches of words in which it finds no fault: the text that the words give for
-- a flag, an option or the file. A flag's text is `true` or `false`, and an option's is a number in its range.
use Rattle.std.proofs.Common.{◌≡◌, ◌≤◌, ◌∙◌, ◌||◌, ℕ, Bool, true, false, cond, refl, sym, ap, subst, List, [], ◌∷◌, drop, Option, Some, None, is_some, not, Result, Ok, Err, IfSome, arith, codes, rules}
use Rattle.list_facts.proofs.FindLemmas.{find-passes}
use Rattle.list_facts.proofs.OptionLemmas.{is_some-option_map}
use Rattle.std.proofs.lemmas.Slice.Eq.{bytes_eq-Decides}
use Rattle.std.specs.Borrow.{Bor}
use Rattle.std.specs.List.{AllByRecursion, find}
use Rattle.std.specs.Option.{option_map, unwrap_or}
use Rattle.std.specs.Prelude.{option_and_then, slice_get}
use Rattle.std.specs.Str.{bytes_eq}
use Rattle.std.specs.Str.Parse.{ParsesUnsigned, digits_value, without_leading_plus}
use Rattle.clap.proofs.FaultLemmas.{leaf_fault}
use Rattle.clap.proofs.ValueTestLemmas.{accepts-Accepts}
use Rattle.clap.proofs.WalkLemmas.{first_value-rows, one_text-rows}
use Rattle.clap.specs.Facts.{parser_of_value}
use Rattle.clap.specs.Kinds.{values_kinds}
use Rattle.clap.specs.Matches.{ReadsOne, first_value, found_of, one_text}
use Rattle.clap.specs.Simple.{built, matches_of}
use Rattle.clap.specs.ValueTests.{accepts}
use Rattle.clap.specs.Values.{IsUnsignedIn, read_as, refused_kind}
use Rattle.clap.specs.Walk.{Row, Rule, Text, arg_by_id, first_of, nothing_held, one_of, reading_by, row_text}
use Rattle.clap.specs.declared.builder.value_parser.ValueParser.{ValueParser}
use Rattle.clap.specs.declared.builder.value_parser.ValueParser.TheVariants as vp
use Rattle.clap.specs.declared.parser.matches.ArgMatches.{ArgMatches}
use Rattle.abs_options.specs.CommandLine.{AreCommandWords, AreMatchesOf, IsFlag, IsNumberOption, built_rules, command_line, file_of, given, has_flag, made_of, number_of}
use Rattle.abs_options.proofs.RowLemmas.{IsKnown, PassesRule, find-all, none_both, rows_after-pass}

-- ---- one row

first_accepted : (i : Bool) (p : ValueParser) (values : List Text) (text : Text) → values_kinds i p values ≡ []
    → slice_get values 0 ≡ Some text → accepts i p text ≡ true
first_accepted i p [] text e first = absurd (cc)
first_accepted i p (v ∷ vs) text e first =
    let same : v ≡ text = cc in
    subst (λ t. accepts i p t ≡ true) same (go (accepts i p v) (none_both _ _ e).0)
  where
    go : (b : Bool) → cond b [] (refused_kind p ∷ []) ≡ [] → b ≡ true
    go true f = refl
    go false f = absurd (cc)

-- a text passes the parser of its rule, and is read as that parser says
abbrev IsReadBy : Rule → Text → Option Text → Type 0
IsReadBy a text read = (read ≡ Some (read_as (reading_by a) text)) × (accepts a.ignore_case (parser_of_value a.parser) text ≡ true)

abbrev is_named : Text → Row → Bool
is_named name r = bytes_eq r.id name

text-read : (c : List Rule) (rows : List Row) (name : Text) (a : Rule) (text : Text) → AllByRecursion (PassesRule c) rows
    → arg_by_id c name ≡ Some a → first_of name rows ≡ Some text → IsReadBy a text (one_of name rows)
text-read c rows name a text pass is first =
    go (find (is_named name) rows) (λ r found. find-all _ (is_named name) rows r pass found)
    (λ r found. find-passes (is_named name) rows r found) first
  where
    go : (o : Option Row) → ((r : Row) → o ≡ Some r → PassesRule c r) → ((r : Row) → o ≡ Some r → is_named name r ≡ true)
        → option_and_then (λ r. slice_get r.values 0) o ≡ Some text → IsReadBy a text (option_and_then row_text o)
    go None passes same e = absurd (cc)
    go (Some r) passes same e =
        let p = passes r refl in
        let id : r.id ≡ name = (bytes_eq-Decides r.id name).0 (same r refl) in
        let one : Some p.rule ≡ Some a = sym p.found ∙ ap (arg_by_id c) id ∙ is in
        let rule : p.rule ≡ a = cc in
        let reading = p.reading ∙ ap reading_by rule in
        let values = subst (λ (x : Rule). values_kinds x.ignore_case (parser_of_value x.parser) r.values ≡ []) rule p.values in (
          ap (option_map (read_as r.reading)) e ∙ ap (λ how. Some (read_as how text)) reading,
          first_accepted _ _ r.values text values e,
        )

text-missing : (rows : List Row) (name : Text) → first_of name rows ≡ None → one_of name rows ≡ None
text-missing rows name = go (find (is_named name) rows)
  where
    go : (o : Option Row) → option_and_then (λ r. slice_get r.values 0) o ≡ None → option_and_then row_text o ≡ None
    go None e = refl
    go (Some r) e = ap (option_map (read_as r.reading)) e

-- ---- numbers

abbrev IsWithin : ℕ → ℕ → Type 0
IsWithin most n = (1 ≤ n) × (n ≤ most)

-- what stands for a missing number is in the range too
pub unwrap_or-within : (most default result : ℕ) (o : Option ℕ) → IfSome o (IsWithin most) → 1 ≤ default → default ≤ most
    → result ≡ unwrap_or o default → IsWithin most result
unwrap_or-within most default result None h least fits is = (omega arith, omega arith)
unwrap_or-within most default result (Some n) h least fits is = (omega arith, omega arith)

abbrev number_in : Text → ℕ
number_in text = digits_value 10 (without_leading_plus text)

-- a text that passed the range reads as a number in it
unsigned-read : (E : Type 0) (G : Text → Result ℕ E → Type 0) (most : ℕ) (text : Text) (read : Option ℕ)
    → ((t : Text) (r : Result ℕ E) → G t r → ParsesUnsigned 64 10 t r) → IsUnsignedIn 1 most text → ReadsOne G text read
    → (read ≡ Some (number_in text)) × IfSome read (IsWithin most)
unsigned-read E G most text (Some n) parses passed h =
    let parsed = parses text (Ok n) h in
    (ap Some parsed.1, subst (IsWithin most) (sym parsed.1) (passed.2, passed.3))
unsigned-read E G most text None parses passed h = absurd (parses text (Err h.0) h.1 (passed.0, passed.1))

-- ---- what the getters read

all_known : AllByRecursion (IsKnown built_rules) built_rules
all_known = search rules

module _ (words : List Text) (m : ArgMatches) (are : AreMatchesOf words m) where
  rows-pass : AllByRecursion (PassesRule built_rules) (matches_of command_line words)
  rows-pass =
      let app = built command_line in
      rows_after-pass app.top all_known [] (drop 1 words) (sym (leaf_fault app nothing_held (drop 1 words) refl) ∙ are.faultless)

  pub first_value-given : (name : Text) → first_value (found_of m) name ≡ given name words
  first_value-given name = first_value-rows (found_of m) name ∙ ap (first_of name) are.rows

  one_text-given : (name : Text) → one_text (found_of m) name ≡ one_of name (matches_of command_line words)
  one_text-given name = one_text-rows (found_of m) name ∙ ap (one_of name) are.rows

  one_text-missing : (name : Text) → given name words ≡ None → one_text (found_of m) name ≡ None
  one_text-missing name none = one_text-given name ∙ text-missing _ name none

  one_text-read : (name : Text) (a : Rule) (text : Text) → arg_by_id built_rules name ≡ Some a → given name words ≡ Some text
      → IsReadBy a text (one_text (found_of m) name)
  one_text-read name a text is at =
      let read = text-read built_rules _ name a text rows-pass is at in
      (one_text-given name ∙ read.0, read.1)

  -- a flag is read as the words have it
  pub flag-read : (name : Text) (result : Bool) → IsFlag name → (one_text (found_of m) name ≡ None → result ≡ false)
      → (one_text (found_of m) name ≡ Some (codes "true") → result ≡ true)
      → (one_text (found_of m) name ≡ Some (codes "false") → result ≡ false) → result ≡ has_flag name words
  flag-read name result is none set unset = go (given name words) refl
    where
      word : (t : Text) (b : Bool) → bytes_eq t (codes "true") ≡ b → (b || bytes_eq t (codes "false")) ≡ true
          → one_text (found_of m) name ≡ Some t → result ≡ b
      word t true e either read = set (read ∙ ap Some ((bytes_eq-Decides t (codes "true")).0 e))
      word t false e either read = unset (read ∙ ap Some ((bytes_eq-Decides t (codes "false")).0 either))

      go : (o : Option Text) → given name words ≡ o → result ≡ bytes_eq (unwrap_or o []) (codes "true")
      go None at = none (one_text-missing name at)
      go (Some t) at =
          let read = one_text-read name _ t is at in
          word t (bytes_eq t (codes "true")) refl read.1 read.0

  -- a number is read as the words have it, and is in the range of its option
  pub number-read : (E : Type 0) (G : Text → Result ℕ E → Type 0) (name : Text) (most : ℕ) (result : Option ℕ)
      → IsNumberOption name most → ((t : Text) (r : Result ℕ E) → G t r → ParsesUnsigned 64 10 t r)
      → (one_text (found_of m) name ≡ None → result ≡ None)
      → ((t : Text) → one_text (found_of m) name ≡ Some t → ReadsOne G t result)
      → (result ≡ number_of name words) × IfSome result (IsWithin most)
  number-read E G name most result is parses none reads = go (given name words) refl
    where
      go : (o : Option Text) → given name words ≡ o → (result ≡ option_map number_in o) × IfSome result (IsWithin most)
      go None at =
          let missing = none (one_text-missing name at) in
          (missing, subst (λ r. IfSome r (IsWithin most)) (sym missing) tt)
      go (Some t) at =
          let read = one_text-read name _ t is at in
          unsigned-read E G most t result parses (accepts-Accepts false (vp.Unsigned 1 most) t read.1) (reads t read.0)

  -- ---- whether the words give one input

  module _ (file : Option (Bor Text)) (count : Option ℕ)
      (file_is : option_map (λ s. s.now) file ≡ first_value (found_of m) (codes "file"))
      (count_is : count ≡ number_of (codes "make") words) where
    file-is_some : is_some file ≡ is_some (file_of words)
    unfolding file_of
    file-is_some = is_some-option_map _ file ∙ ap is_some (file_is ∙ first_value-given (codes "file"))

    count-is_some : is_some count ≡ is_some (made_of words)
    unfolding made_of
    count-is_some = ap is_some count_is

    pub of_command : is_some file ≡ not (is_some count) → AreCommandWords words
    of_command one = record { faultless = are.faultless; one_input = sym file-is_some ∙ (one ∙ ap not count-is_some) }

    pub one_input : AreCommandWords words → is_some file ≡ not (is_some count)
    one_input h = file-is_some ∙ (h.one_input ∙ ap not (sym count-is_some))
