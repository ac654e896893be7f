-- The matches of words in which `clap` finds no fault: the values of each row pass the parser of its rule, and are read
-- as that parser says. The lemmas follow the walk over the words, from one use of an argument up to the defaults.
use Rattle.std.proofs.Common.{◌≡◌, ◌&&◌, ◌||◌, ℕ, Bool, true, false, zero, suc, cond, refl, sym, ap, subst, List, [], ◌∷◌, ◌++◌, ◌∙◌, length, Option, Some, None, is_some, arith}
use Rattle.std.proofs.lemmas.Bool.{ne_eqb}
use Rattle.std.proofs.lemmas.Slice.Eq.{bytes_eq-Decides}
use Rattle.std.specs.List.{AllByRecursion, find, fold}
use Rattle.std.specs.Option.{option_map_or}
use Rattle.std.specs.Prelude.{slice_get}
use Rattle.std.specs.Str.{bytes_eq, chars}
use Rattle.clap.proofs.FaultLemmas.{past}
use Rattle.clap.specs.Faults.{action_fault, bundle_fault, bundle_step_fault, default_fault, defaults_fault, flag_word_fault, flags_fault, given_default_fault, level_fault, long_fault, option_fault, other_fault, positional_fault, react_fault, settle_fault, short_fault, step_fault, stray_fault, turn_fault, use_fault, values_fault, walk_fault, word_fault}
use Rattle.clap.specs.Kinds.{Kinds, or_else, request_kinds, values_kinds}
use Rattle.clap.specs.Lexer.{long_of, short_of}
use Rattle.clap.specs.Simple.{Shape}
use Rattle.clap.specs.Walk.{Held, Names, Outcome, Row, Rule, Step, Text, Waiting, Walk, action_of, after_flag, after_step, arg_by_id, arg_by_index, arg_by_long, arg_by_short, at_row, attached_value, bundle_met, bundle_step, default_rows, done, flag_met, has_row, idle, is_empty, is_pending, long_met, long_or_other, more_values, next, nothing_held, option, option_met, option_word, plain, plain_word, positional, positional_held, reacted, reading_by, refused, rows_after, settled, settled_rows, short_met, short_or_plain, subcommand, subcommand_met, subcommand_or_other, takes_several, takes_values, to_positional, trailing, used, used_as, used_by_id, value, values_or_missing, waits, walk, walk_from, walked, walked_from, with_default, with_values, without, word_met}
use Rattle.clap.specs.declared.builder.action.ArgAction.{ArgAction}
use Rattle.clap.specs.declared.builder.action.ArgAction.TheVariants as action
use Rattle.clap.specs.declared.builder.value_parser.ValueParser.{ValueParser}
use Rattle.clap.specs.declared.error.kind.ErrorKind.TheVariants as kind
use Rattle.clap.specs.declared.parser.matches.ValueSource.{ValueSource}
use Rattle.clap.specs.declared.parser.matches.ValueSource.TheVariants.{DefaultValue, CommandLine}

-- whether an argument counts how often it is given
abbrev pub is_count : ArgAction → Bool
is_count action.Count = true
is_count _ = false

-- the first rule with its id, which does not count
abbrev pub IsKnown : List Rule → Rule → Type 0
IsKnown rules a = (arg_by_id rules a.id ≡ Some a) × (is_count (action_of a) ≡ false)

-- The row has a rule, and its values pass it.
pub record PassesRule (rules : List Rule) (r : Row) : Type 0 where
  pub rule : Rule
  pub found : arg_by_id rules r.id ≡ Some rule
  pub reading : r.reading ≡ reading_by rule
  pub values : values_fault rule r.values ≡ []

-- ---- lists

pub none_both : (a b : Kinds) → or_else a b ≡ [] → (a ≡ []) × (b ≡ [])
none_both [] b e = (refl, e)
none_both (k ∷ ks) b e = (e, (cc))

values_kinds-append : (i : Bool) (p : ValueParser) (xs ys : List Text) → values_kinds i p xs ≡ [] → values_kinds i p ys ≡ []
    → values_kinds i p (xs ++ ys) ≡ []
values_kinds-append i p [] ys e f = f
values_kinds-append i p (x ∷ xs) ys e f =
    let both = none_both _ _ e in
    past _ _ both.0 ∙ values_kinds-append i p xs ys both.1 f

all_append : {X : Type 0} (P : X → Type 0) (xs ys : List X) → AllByRecursion P xs → AllByRecursion P ys
    → AllByRecursion P (xs ++ ys)
all_append P [] ys h k = k
all_append P (x ∷ xs) ys h k = (h.0, all_append P xs ys h.1 k)

-- what is found has what all have
pub find-all : {X : Type 0} (P : X → Type 0) (p : X → Bool) (xs : List X) (a : X) → AllByRecursion P xs
    → find p xs ≡ Some a → P a
find-all P p [] a h e = absurd (cc)
find-all P p (x ∷ xs) a h e = go (p x) e (find-all P p xs a h.1)
  where
    go : (b : Bool) → cond b (Some x) (find p xs) ≡ Some a → (find p xs ≡ Some a → P a) → P a
    go true e rest =
        let same : x ≡ a = cc in
        subst P same h.0
    go false e rest = rest e

all_at_row : (P : Row → Type 0) (id : Text) (change : Row → List Row) (missing rows : List Row) → AllByRecursion P rows
    → ((r : Row) → P r → bytes_eq r.id id ≡ true → AllByRecursion P (change r)) → AllByRecursion P missing
    → AllByRecursion P (at_row id change missing rows)
all_at_row P id change missing [] h f m = m
all_at_row P id change missing (r ∷ rs) h f m =
    go (bytes_eq r.id id) (f r h.0) (all_at_row P id change missing rs h.1 f m)
  where
    go : (b : Bool) → (b ≡ true → AllByRecursion P (change r)) → AllByRecursion P (at_row id change missing rs)
        → AllByRecursion P (cond b (change r ++ rs) (r ∷ at_row id change missing rs))
    go true changed rest = all_append P (change r) rs (changed refl) h.1
    go false changed rest = (h.0, rest)

module _ (s : Shape) (known : AllByRecursion (IsKnown s.rules) s.rules) where
  abbrev c : List Rule
  c = s.rules

  abbrev again : Bool
  again = s.args_override_self

  abbrev Pass : List Row → Type 0
  Pass = AllByRecursion (PassesRule c)

  found-known : (p : Rule → Bool) (a : Rule) → find p c ≡ Some a → IsKnown c a
  found-known p a found = find-all (IsKnown c) p c a known found

  -- ---- one use of an argument

  with_values-pass : (a : Rule) (from : ValueSource) (values : List Text) (rows : List Row) → IsKnown c a
      → values_fault a values ≡ [] → Pass rows → Pass (with_values a.id (reading_by a) from values rows)
  with_values-pass a from values rows is e h =
      all_at_row (PassesRule c) a.id (more_values from values) _ rows h more
      (record { rule = a; found = is.0; reading = refl; values = e }, tt)
    where
      joined : (r : Row) (p : PassesRule c r) → p.rule ≡ a → values_fault p.rule (r.values ++ values) ≡ []
      joined r p same =
          values_kinds-append _ _ r.values values p.values (subst (λ x. values_fault x values ≡ []) (sym same) e)

      more : (r : Row) → PassesRule c r → bytes_eq r.id a.id ≡ true → Pass (more_values from values r)
      more r p key =
          let id : r.id ≡ a.id = (bytes_eq-Decides r.id a.id).0 key in
          let one : Some p.rule ≡ Some a = sym p.found ∙ ap (arg_by_id c) id ∙ is.0 in
          let same : p.rule ≡ a = cc in
          (record { rule = p.rule; found = p.found; reading = p.reading; values = joined r p same }, tt)

  without-pass : (id : Text) (rows : List Row) → Pass rows → Pass (without id rows)
  without-pass id rows h = all_at_row (PassesRule c) id (λ _. []) [] rows h (λ _ _ _. tt) tt

  set-pass : (a : Rule) (values : List Text) (rows : List Row) → IsKnown c a → values_fault a values ≡ [] → Pass rows
      → Pass (with_values a.id (reading_by a) CommandLine values (without a.id rows))
  set-pass a values rows is e h = with_values-pass a CommandLine values _ is e (without-pass a.id rows h)

  used_as-pass : (x : ArgAction) (a : Rule) (values : List Text) (rows : List Row) → is_count x ≡ false → IsKnown c a
      → action_fault x again a values rows ≡ [] → Pass rows → Pass (used_as x a.id (reading_by a) values rows)
  used_as-pass action.Set a values rows kept is e h = set-pass a values rows is (none_both _ _ e).1 h
  used_as-pass action.SetTrue a values rows kept is e h = set-pass a values rows is (none_both _ _ e).1 h
  used_as-pass action.SetFalse a values rows kept is e h = set-pass a values rows is (none_both _ _ e).1 h
  used_as-pass action.Append a values rows kept is e h = with_values-pass a CommandLine values rows is e h
  used_as-pass action.Count a values rows kept is e h = absurd (cc)
  used_as-pass action.Help a values rows kept is e h = h
  used_as-pass action.HelpShort a values rows kept is e h = h
  used_as-pass action.HelpLong a values rows kept is e h = h
  used_as-pass action.Version a values rows kept is e h = h

  used-pass : (a : Rule) (values : List Text) (rows : List Row) → IsKnown c a → use_fault again a values rows ≡ [] → Pass rows
      → Pass (used a values rows)
  used-pass a values rows is e h =
      used_as-pass (action_of a) a (values_or_missing a values) rows is.1 is (none_both _ _ e).1 h

  -- ---- what is pending

  settled_rows-pass : (p : Option (Text × List Text)) (rows : List Row)
      → option_map_or (λ p. option_map_or (λ a. use_fault again a p.1 rows) (arg_by_id c p.0) []) p [] ≡ [] → Pass rows
      → Pass (settled_rows c p rows)
  settled_rows-pass None rows e h = h
  settled_rows-pass (Some p) rows e h = go (arg_by_id c p.0) (found-known _) e
    where
      go : (o : Option Rule) → ((a : Rule) → o ≡ Some a → IsKnown c a)
          → option_map_or (λ a. use_fault again a p.1 rows) o [] ≡ [] → Pass (used_by_id o p.1 rows)
      go None is f = h
      go (Some a) is f = used-pass a p.1 rows (is a refl) f h

  settled-pass : (h : Held) → settle_fault c again h ≡ [] → Pass h.rows → Pass (settled c h).rows
  settled-pass h e rows = settled_rows-pass h.pending h.rows e rows

  reacted-pass : (a : Rule) (values : List Text) (h : Held) → IsKnown c a → react_fault c again a values h ≡ [] → Pass h.rows
      → Pass (reacted c a values h).rows
  reacted-pass a values h is e rows =
      let both = none_both _ _ e in
      used-pass a values _ is both.1 (settled-pass h both.0 rows)

  -- ---- a flag or an option

  option_met-pass : (a : Rule) (v : Option Text) (h : Held) → IsKnown c a → option_fault c again a v h ≡ [] → Pass h.rows
      → Pass (option_met c a v h).0.rows
  option_met-pass a None h is e rows = settled-pass h e rows
  option_met-pass a (Some v) h is e rows = reacted-pass a (v ∷ []) h is e rows

  flag_met-pass : (a : Rule) (v : Option Text) (h : Held) → IsKnown c a
      → cond (is_some v) (kind.TooManyValues ∷ []) (react_fault c again a [] h) ≡ [] → Pass h.rows
      → Pass (flag_met c a v h).0.rows
  flag_met-pass a None h is e rows = reacted-pass a [] h is e rows
  flag_met-pass a (Some v) h is e rows = rows

  long_met-pass : (o : Option Rule) (v : Option Text) (h : Held) → ((a : Rule) → o ≡ Some a → IsKnown c a)
      → long_fault c again o v h ≡ [] → Pass h.rows → Pass (long_met c o v h).0.rows
  long_met-pass None v h is e rows = rows
  long_met-pass (Some a) v h is e rows = go (takes_values a) e
    where
      go : (b : Bool) → cond b (option_fault c again a v h)
          (cond (is_some v) (kind.TooManyValues ∷ []) (react_fault c again a [] h)) ≡ []
          → Pass (cond b (option_met c a v h) (flag_met c a v h)).0.rows
      go true f = option_met-pass a v h (is a refl) f rows
      go false f = flag_met-pass a v h (is a refl) f rows

  short_met-pass : (o : Option Rule) (rest : Text) (h : Held) (then : Held → Held × Outcome) (fails : Held → Kinds)
      → ((a : Rule) → o ≡ Some a → IsKnown c a) → ((g : Held) → fails g ≡ [] → Pass g.rows → Pass (then g).0.rows)
      → short_fault c again o rest h fails ≡ [] → Pass h.rows → Pass (short_met c o rest h then).0.rows
  short_met-pass None rest h then fails is more e rows = rows
  short_met-pass (Some a) rest h then fails is more e rows = go (takes_values a) e
    where
      go : (b : Bool) → cond b (option_fault c again a (attached_value rest) h)
          (or_else (react_fault c again a [] h) (fails (reacted c a [] h))) ≡ []
          → Pass (cond b (option_met c a (attached_value rest) h) (then (reacted c a [] h))).0.rows
      go true f = option_met-pass a (attached_value rest) h (is a refl) f rows
      go false f =
          let both = none_both _ _ f in
          more _ both.1 (reacted-pass a [] h (is a refl) both.0 rows)

  bundle_step-pass : (o : Option ℕ) (flags : Text) (skip : ℕ) (so_far : Outcome) (h : Held)
      (then : Text → ℕ → Outcome → Held → Held × Outcome) (fails : Text → ℕ → Held → Kinds)
      → ((t : Text) (n : ℕ) (o : Outcome) (g : Held) → fails t n g ≡ [] → Pass g.rows → Pass (then t n o g).0.rows)
      → bundle_step_fault c again o flags skip h fails ≡ [] → Pass h.rows → Pass (bundle_step c o flags skip so_far h then).0.rows
  bundle_step-pass None flags skip so_far h then fails more e rows = rows
  bundle_step-pass (Some x) flags zero so_far h then fails more e rows =
      short_met-pass (arg_by_short c x) _ h _ _ (found-known _) (λ g. more _ 0 done g) e rows
  bundle_step-pass (Some x) flags (suc skip) so_far h then fails more e rows = more _ skip so_far h e rows

  bundle_met-pass : (k : ℕ) (flags : Text) (skip : ℕ) (so_far : Outcome) (h : Held) → flags_fault c again k flags skip h ≡ []
      → Pass h.rows → Pass (bundle_met c k flags skip so_far h).0.rows
  unfolding bundle_met flags_fault
  bundle_met-pass zero flags skip so_far h e rows = rows
  bundle_met-pass (suc k) flags skip so_far h e rows =
      bundle_step-pass (slice_get (chars flags) 0) flags skip so_far h (bundle_met c k) (flags_fault c again k)
      (bundle_met-pass k) e rows

  -- ---- a word

  plain_word-pass : (waiting : Waiting) (word : Text) (h : Held) → Pass h.rows → Pass (plain_word c waiting word h).0.rows
  plain_word-pass idle word h rows = rows
  plain_word-pass positional word h rows = rows
  plain_word-pass (option id) word h rows = go (arg_by_id c id)
    where
      go : (o : Option Rule) → Pass (option_word o id word h).0.rows
      go None = rows
      go (Some a) = rows

  after_flag-pass : (waiting : Waiting) (word : Text) (h : Held) (o : Outcome) → Pass h.rows
      → Pass (after_flag c waiting word h o).0.rows
  after_flag-pass waiting word h done rows = rows
  after_flag-pass waiting word h (waits id) rows = rows
  after_flag-pass waiting word h plain rows = plain_word-pass waiting word h rows
  after_flag-pass waiting word h refused rows = plain_word-pass waiting word h rows

  short_or_plain-pass : (waiting : Waiting) (word : Text) (flags : Option Text) (h : Held)
      → option_map_or (λ f. bundle_fault c again f h) flags [] ≡ [] → Pass h.rows
      → Pass (short_or_plain c waiting word flags h).0.rows
  short_or_plain-pass waiting word None h e rows = plain_word-pass waiting word h rows
  short_or_plain-pass waiting word (Some flags) h e rows =
      after_flag-pass waiting word _ _ (bundle_met-pass (length flags) flags h.skip plain _ e rows)

  long_or_other-pass : (waiting : Waiting) (word : Text) (p : Option (Text × Option Text)) (h : Held)
      → flag_word_fault c again p word h ≡ [] → Pass h.rows → Pass (long_or_other c waiting word p h).0.rows
  long_or_other-pass waiting word None h e rows = short_or_plain-pass waiting word (short_of word) h e rows
  long_or_other-pass waiting word (Some p) h e rows =
      after_flag-pass waiting word _ _ (long_met-pass (arg_by_long c p.0) p.1 h (found-known _) e rows)

  subcommand_or_other-pass : (name : Option Text) (waiting : Waiting) (position : ℕ) (word : Text) (h : Held)
      → other_fault s name word h ≡ [] → Pass h.rows → Pass (subcommand_or_other c name waiting position word h).0.rows
  subcommand_or_other-pass (Some name) waiting position word h e rows = rows
  subcommand_or_other-pass None waiting position word h e rows = go (bytes_eq word (45 ∷ 45 ∷ [])) e
    where
      go : (b : Bool) → cond b [] (flag_word_fault c again (long_of word) word h) ≡ []
          → Pass (cond b (h, trailing position) (long_or_other c waiting word (long_of word) h)).0.rows
      go true f = rows
      go false f = long_or_other-pass waiting word (long_of word) h f rows

  word_met-pass : (names : Names) (ends : Bool) (waiting : Waiting) (position : ℕ) (word : Text) (h : Held)
      → word_fault s names ends waiting word h ≡ [] → Pass h.rows → Pass (word_met c names ends waiting position word h).0.rows
  word_met-pass names true waiting position word h e rows = rows
  word_met-pass names false waiting position word h e rows =
      subcommand_or_other-pass (subcommand_met names waiting word) waiting position word h e rows

  -- ---- the walk

  positional_held-pass : (a : Rule) (word : Text) (h : Held) → positional_fault c again a h ≡ [] → Pass h.rows
      → Pass (positional_held c a word h).rows
  positional_held-pass a word h e rows = go (is_pending a h.pending && takes_several a) e
    where
      go : (b : Bool) → cond b [] (settle_fault c again h) ≡ [] → Pass (cond b h (settled c h)).rows
      go true f = rows
      go false f = settled-pass h f rows

  to_positional-pass : (o : Option Rule) (word : Text) (w : Walk) (h : Held)
      → option_map_or (λ a. positional_fault c again a h) o (stray_fault s) ≡ [] → Pass h.rows
      → Pass (to_positional c o word w h).held.rows
  to_positional-pass None word w h e rows = rows
  to_positional-pass (Some a) word w h e rows = positional_held-pass a word h e rows

  after_step-pass : (word : Text) (w : Walk) (h : Held) (step : Step) → step_fault s w.position h step ≡ [] → Pass h.rows
      → Pass (after_step c word w h step).held.rows
  after_step-pass word w h (next waiting) e rows = rows
  after_step-pass word w h (trailing position) e rows = rows
  after_step-pass word w h (subcommand name) e rows = rows
  after_step-pass word w h value e rows = to_positional-pass (arg_by_index c w.position) word w h e rows

  walked_from-pass : (names : Names) (stopped : Option (Text × List Text)) (w : Walk) (word : Text)
      → (let met = word_met c names w.is_trailing w.waiting w.position word w.held in
      cond (is_some stopped) [] (or_else (word_fault s names w.is_trailing w.waiting word w.held)
      (step_fault s w.position met.0 met.1)) ≡ []) → Pass w.held.rows → Pass (walked_from c names stopped w word).held.rows
  walked_from-pass names (Some p) w word e rows = rows
  walked_from-pass names None w word e rows =
      let both = none_both _ _ e in
      after_step-pass word w _ _ both.1 (word_met-pass names w.is_trailing w.waiting w.position word w.held both.0 rows)

  walked-pass : (names : Names) (w : Walk) (word : Text) → turn_fault s names w word ≡ [] → Pass w.held.rows
      → Pass (walked c names w word).held.rows
  unfolding walked
  walked-pass names w word e rows = walked_from-pass names w.stopped w word e rows

  walk-pass : (names : Names) (words : List Text) (w : Walk) → walk_fault s names w words ≡ [] → Pass w.held.rows
      → Pass (fold (walked c names) w words).held.rows
  unfolding walk_fault
  walk-pass names [] w e rows = rows
  walk-pass names (word ∷ rest) w e rows =
      let both = none_both _ _ e in
      walk-pass names rest (walked c names w word) both.1 (walked-pass names w word both.0 rows)

  -- ---- defaults

  default_rows-pass : (a : Rule) (values : List Text) (rows : List Row) → IsKnown c a
      → cond (is_empty values) [] (given_default_fault a values) ≡ [] → Pass rows
      → Pass (default_rows a.id (reading_by a) values rows)
  default_rows-pass a [] rows is e h = h
  default_rows-pass a (v ∷ vs) rows is e h =
      let some : is_empty (v ∷ vs) ≡ false = ne_eqb _ _ (λ none. omega arith) in
      let passed = subst (λ b. cond b [] (given_default_fault a (v ∷ vs)) ≡ []) some e in
      with_values-pass a DefaultValue (v ∷ vs) rows is (none_both (request_kinds (action_of a)) _ passed).1 h

  with_default-pass : (a : Rule) (rows : List Row) → IsKnown c a → default_fault rows a ≡ [] → Pass rows
      → Pass (with_default rows a)
  with_default-pass a rows is e h = go (has_row a.id rows) e
    where
      go : (b : Bool) → cond (b || is_empty a.defaults) [] (given_default_fault a a.defaults) ≡ []
          → Pass (cond b rows (default_rows a.id (reading_by a) a.defaults rows))
      go true f = h
      go false f = default_rows-pass a a.defaults rows is f h

  defaults-pass : (rules : List Rule) (rows : List Row) → AllByRecursion (IsKnown c) rules → defaults_fault rows rules ≡ []
      → Pass rows → Pass (fold with_default rows rules)
  unfolding defaults_fault
  defaults-pass [] rows all e h = h
  defaults-pass (a ∷ rest) rows all e h =
      let both = none_both _ _ e in
      defaults-pass rest (with_default rows a) all.1 both.1 (with_default-pass a rows all.0 both.0 h)

  -- ---- the whole level

  pub rows_after-pass : (names : Names) (words : List Text) → level_fault s names nothing_held words false [] ≡ []
      → AllByRecursion (PassesRule s.rules) (rows_after s.rules names words)
  rows_after-pass names words e =
      let parts = none_both _ _ e in
      let last = none_both _ _ parts.1 in
      let rows = walk-pass names words (walk_from nothing_held) parts.0 tt in
      let settled = settled-pass (walk c names nothing_held words).held last.0 rows in
      defaults-pass c _ known (none_both _ _ last.1).0 settled
