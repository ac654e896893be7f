-- Patterns, each met with its subject: whether it fits, what offends in it, and the types of its variables.
--
--   `unfit_found`, `unfit_missing`       whether a subject fits a type that is asked for
--   `none_if`                            there is no offence exactly where there is no reason for it
--   `found_at`                           the subject at an index is found
--   `PatternsMet`, `PatternsSoFar`       what is known once patterns were met
--   `patterns_start`, `patterns_step`    before the first, and after one more
--   `patterns_done`                      after all of them
--   `PatternMet`, `built_met`            what is known once a pattern with a constructor was met
--   `matched`, `foreign_found`           the types of the parts that match, and whether there are none
--   `found_listed`, `finds_listed`       the subjects of the patterns in a pattern
use Rattle.std.proofs.Common.{◌≡◌, ℕ, ◌+◌, ◌<◌, ◌≤◌, zero, suc, Bool, true, false, not, nat_eq, ◌&&◌, List, [], ◌∷◌, ◌++◌, Option, Some, None, is_some, is_none, option_map, option_and_then, unwrap_or, slice_get, get_or, take, length, map, refl, sym, ap, ap₂, ◌∙◌, subst, arith, append_assoc}
use Rattle.std.proofs.Math.Dec.{eqb-suc-zero}
use Rattle.std.proofs.lemmas.List.{append-nil, take_more, take_all, length-take-le}
use Rattle.std.proofs.lemmas.List.Elements.{All-nil}
use Rattle.std.proofs.lemmas.Option.{slice_get-map, same_Some}
use Rattle.std.specs.declared.alloc.Global.{Global}
use Rattle.std.specs.declared.vec.Vec.{Vec}
use Rattle.abs_tree.specs.Syntax.{Name, DeclTree, PatternTree, Built, PatternTrees, NoPattern, NextPattern}
use Rattle.abs_tree.specs.SyntaxCounts.{count_patterns}
use Rattle.abs_tree.specs.SyntaxViews.{pattern_tree, pattern_trees}
use Rattle.abs_tree.specs.declared.place.Place.{Place}
use Rattle.abs_tree.specs.declared.refusal.Code.TheVariants.{T1}
use Rattle.abs_tree.specs.declared.refusal.Offence.{Offence}
use Rattle.abs_tree.specs.declared.syntax.pattern.Pattern.{Pattern}
use Rattle.abs_types.proofs.KeepLemmas.{keeps_reflexive, keeps_transitive}
use Rattle.abs_tree.specs.Offences.{offence_if}
use Rattle.abs_types.specs.Mistyped.{does_not_fit}
use Rattle.abs_types.specs.PatternTypes.{constructor_parts, if_as_many, is_foreign, part_subjects, subjects, first_subject, other_subjects, pattern_fits, pattern_offences, pattern_types, patterns_offences, patterns_types}
use Rattle.abs_types.specs.PlainTypes.{PlainType}
use Rattle.abs_types.specs.Subtyping.{fits}
use Rattle.abs_types.specs.TypeShapes.{type_at, types_at, IsAmong}
use Rattle.abs_types.specs.TypeTables.{types_in, declarations_of, Keeps}
use Rattle.abs_types.specs.declared.table.shape.TypeIndex.{TypeIndex}
use Rattle.check_fun.specs.Contexts.{items_of, with_bound, Context, Found, Finds, FoundAll, FindsAll, Knows, Noted}
use Rattle.check_fun.specs.declared.checker.Checker.{Checker}
use Rattle.check_fun.proofs.ContextLemmas.{finds_all_kept, noted_nothing, noted_after}
use Rattle.list_facts.proofs.AllLemmas.{IfSome-slice_get}
use Rattle.list_facts.proofs.OptionLemmas.{is_some-option_map, is_none-option_map}
use Rattle.std.proofs.Math.Bool.{not-not}
use Rattle.check_fun.proofs.RuleLemmas.{declarations_are}
use Rattle.abs_tree.proofs.FormLemmas.{patterns_counted}

-- a subject with a type fits another one exactly where the table says so
pub unfit_found : {checker : Checker} {context : Context} {found : Option TypeIndex} {asked : TypeIndex}
    {given : Option PlainType} {wanted : PlainType} (subject : TypeIndex) (reported : Bool) → found ≡ Some subject
    → Knows checker context → Finds checker found given → Finds checker (Some asked) (Some wanted)
    → reported ≡ fits (declarations_of checker.table) (type_at (types_in checker.table) subject)
    (type_at (types_in checker.table) asked)
    → does_not_fit context.declarations given wanted ≡ not reported
unfit_found {checker} {context} {found} {asked} {given} {wanted} subject reported found_is knows one other is =
    let type = type_at (types_in checker.table) in
    ap (λ (one_type : Option PlainType). does_not_fit context.declarations one_type wanted)
    (sym one.is ∙ ap (option_map type) found_is)
    ∙ ap not (ap (fits context.declarations (type subject)) (sym (same_Some (type asked) wanted other.is))
    ∙ ap (λ (declarations : List DeclTree). fits declarations (type subject) (type asked))
    (sym (declarations_are knows))
    ∙ sym is)

-- a subject without a type fits
pub unfit_missing : {checker : Checker} {found : Option TypeIndex} {given : Option PlainType}
    (declarations : List DeclTree) (wanted : PlainType) → found ≡ None → Finds checker found given
    → does_not_fit declarations given wanted ≡ false
unfit_missing {checker} declarations wanted found_is one =
    ap (λ (type : Option PlainType). does_not_fit declarations type wanted)
    (sym one.is ∙ ap (option_map (type_at (types_in checker.table))) found_is)

-- there is no offence exactly where there is no reason for it
pub none_if : (offends reported : Bool) (place : Place) → offends ≡ not reported
    → reported ≡ nat_eq (length (offence_if offends T1 place)) 0
none_if offends true place is = rw is refl
none_if offends false place is = rw is refl

-- there are no offences exactly where there are none of two kinds
none_after : (xs ys : List Offence)
    → nat_eq (length xs) 0 && nat_eq (length ys) 0 ≡ nat_eq (length (xs ++ ys)) 0
none_after [] ys = refl
none_after (first ∷ others) ys =
    ap (λ (none : Bool). none && nat_eq (length ys) 0) (eqb-suc-zero (length others))
    ∙ sym (eqb-suc-zero (length (others ++ ys)))

-- the subject at an index is found
pub found_at : {checker : Checker} {indices : List TypeIndex} (index : ℕ) → FoundAll checker (Some indices)
    → Found checker (slice_get indices index)
found_at {checker} {indices} index found =
    record { among = IfSome-slice_get (IsAmong (types_in checker.table)) indices index found.among }

-- it stands for the type at that index
finds_at : {checker : Checker} {indices : List TypeIndex} {types : List PlainType} (index : ℕ)
    → FindsAll checker (Some indices) (Some types) → Finds checker (slice_get indices index) (slice_get types index)
finds_at {checker} {indices} {types} index found = record {
  found_is = found_at index found.found_are;
  is = sym (slice_get-map (type_at (types_in checker.table)) indices index)
      ∙ ap (λ (list : List PlainType). slice_get list index)
      (same_Some (types_at (types_in checker.table) indices) types found.are);
}

-- the subject at an index; past the list there is none with a type
abbrev subject_at : List (Option PlainType) → ℕ → Option PlainType
subject_at parts zero = first_subject parts
subject_at parts (suc index) = subject_at (other_subjects parts) index

-- where each subject has a type, it is the type at that index
subject_of : (types : List PlainType) (index : ℕ) → subject_at (map Some types) index ≡ slice_get types index
subject_of [] zero = refl
subject_of [] (suc index) = subject_of [] index
subject_of (type ∷ types) zero = refl
subject_of (type ∷ types) (suc index) = subject_of types index

-- One more pattern adds its row, by the subject at its index. `row` and `rows` are those of one pattern and of several.
one_more_row : {A : Type 0} (row : Option PlainType → PatternTree → List A)
    (rows : List (Option PlainType) → PatternTrees → List A) (names : List Name)
    → ((parts : List (Option PlainType)) → rows parts NoPattern ≡ [])
    → ((parts : List (Option PlainType)) (first : PatternTree) (others : PatternTrees)
    → rows parts (NextPattern first others) ≡ row (first_subject parts) first ++ rows (other_subjects parts) others)
    → (parts : List (Option PlainType)) (patterns : List Pattern) (last : Pattern)
    → rows parts (pattern_trees names (patterns ++ last ∷ []))
    ≡ rows parts (pattern_trees names patterns)
    ++ row (subject_at parts (length patterns)) (pattern_tree names last)
one_more_row row rows names none next parts [] last =
    let tree = pattern_tree names last in
    next parts tree NoPattern
    ∙ ap (λ more. row (first_subject parts) tree ++ more) (none (other_subjects parts))
    ∙ append-nil (row (first_subject parts) tree)
    ∙ sym (ap (λ more. more ++ row (first_subject parts) tree) (none parts))
one_more_row row rows names none next parts (first ∷ others) last =
    let head = row (first_subject parts) (pattern_tree names first) in
    let tail = row (subject_at (other_subjects parts) (length others)) (pattern_tree names last) in
    next parts (pattern_tree names first) (pattern_trees names (others ++ last ∷ []))
    ∙ ap (λ more. head ++ more) (one_more_row row rows names none next (other_subjects parts) others last)
    ∙ sym (append_assoc head (rows (other_subjects parts) (pattern_trees names others)) tail)
    ∙ ap (λ more. more ++ tail) (sym (next parts (pattern_tree names first) (pattern_trees names others)))

-- the offences of one more pattern
one_more_offends : (declarations : List DeclTree) (names : List Name) (types : List PlainType)
    (patterns : List Pattern) (last : Pattern)
    → patterns_offences declarations (map Some types) (pattern_trees names (patterns ++ last ∷ []))
    ≡ patterns_offences declarations (map Some types) (pattern_trees names patterns)
    ++ pattern_offences declarations (slice_get types (length patterns)) (pattern_tree names last)
one_more_offends declarations names types patterns last =
    subst (λ subject. patterns_offences declarations (map Some types) (pattern_trees names (patterns ++ last ∷ []))
    ≡ patterns_offences declarations (map Some types) (pattern_trees names patterns)
    ++ pattern_offences declarations subject (pattern_tree names last)) (subject_of types (length patterns))
    (one_more_row (pattern_offences declarations) (patterns_offences declarations) names (λ parts. refl)
    (λ parts first others. refl) (map Some types) patterns last)

-- the types of the variables of one more pattern
one_more_typed : (declarations : List DeclTree) (names : List Name) (types : List PlainType) (patterns : List Pattern)
    (last : Pattern)
    → patterns_types declarations (map Some types) (pattern_trees names (patterns ++ last ∷ []))
    ≡ patterns_types declarations (map Some types) (pattern_trees names patterns)
    ++ pattern_types declarations (slice_get types (length patterns)) (pattern_tree names last)
one_more_typed declarations names types patterns last =
    subst (λ subject. patterns_types declarations (map Some types) (pattern_trees names (patterns ++ last ∷ []))
    ≡ patterns_types declarations (map Some types) (pattern_trees names patterns)
    ++ pattern_types declarations subject (pattern_tree names last)) (subject_of types (length patterns))
    (one_more_row (pattern_types declarations) (patterns_types declarations) names (λ parts. refl)
    (λ parts first others. refl) (map Some types) patterns last)

-- What is known once patterns were met, each with its subject: whether all of them fit, their offences, and the types
-- of their variables.
pub record PatternsMet (context : Context) (types : List PlainType) (first : Option Offence) (patterns : List Pattern)
    (fit : Bool) (now : Checker) : Type 0 where
  pub fits_are : fit ≡ nat_eq (length (patterns_offences context.declarations (map Some types)
      (pattern_trees context.names patterns))) 0
  pub noted : Noted first (patterns_offences context.declarations (map Some types)
      (pattern_trees context.names patterns)) now.first
  pub bound : Knows now (with_bound context (patterns_types context.declarations (map Some types)
      (pattern_trees context.names patterns)))

-- Patterns were met, from a checker on, with subjects that it found.
pub record PatternsSoFar (before : Checker) (found : List TypeIndex) (patterns : List Pattern) (fit : Bool)
    (now : Checker) : Type 0 where
  pub met : (context : Context) (types : List PlainType) → Knows before context
      → FindsAll before (Some found) (Some types) → PatternsMet context types before.first patterns fit now
  pub keeps : Keeps before.table now.table

-- no patterns were met
pub patterns_start : (before : Checker) (found : List TypeIndex) → PatternsSoFar before found [] true before
patterns_start before found = record {
  met = λ context types knows finds. record {
    fits_are = refl;
    noted = noted_nothing;
    bound = record {
      is = knows.is
          ∙ ap (λ (bound : List (Option PlainType)). record context { bound = bound }) (sym (append-nil context.bound));
    };
  };
  keeps = keeps_reflexive;
}

-- one more pattern was met
one_more_met : {context : Context} {types : List PlainType} {first : Option Offence} {patterns : List Pattern}
    {fit : Bool} {now after : Checker} (one_fits : Bool) (last : Pattern)
    → PatternsMet context types first patterns fit now
    → (one_fits ≡ pattern_fits context.declarations (slice_get types (length patterns)) (pattern_tree context.names last))
    → Noted now.first (pattern_offences context.declarations (slice_get types (length patterns))
    (pattern_tree context.names last)) after.first
    → Knows after (with_bound (with_bound context (patterns_types context.declarations (map Some types)
    (pattern_trees context.names patterns))) (pattern_types context.declarations (slice_get types (length patterns))
    (pattern_tree context.names last)))
    → PatternsMet context types first (patterns ++ last ∷ []) (fit && one_fits) after
one_more_met {context} {types} {first} {patterns} {fit} {now} {after} one_fits last met is noted bound =
    let one = pattern_tree context.names last in
    let subject = slice_get types (length patterns) in
    let others = pattern_trees context.names patterns in
    let offends = one_more_offends context.declarations context.names types patterns last in
    let typed = one_more_typed context.declarations context.names types patterns last in
    record {
      fits_are = ap₂ ◌&&◌ met.fits_are is
          ∙ none_after (patterns_offences context.declarations (map Some types) others)
          (pattern_offences context.declarations subject one)
          ∙ ap (λ (offences : List Offence). nat_eq (length offences) 0) (sym offends);
      noted = subst (λ (offences : List Offence). Noted first offences after.first) (sym offends)
          (noted_after (patterns_offences context.declarations (map Some types) others)
          (pattern_offences context.declarations subject one) met.noted noted);
      bound = record {
        is = bound.is
            ∙ ap (λ (types_bound : List (Option PlainType)). record context { bound = types_bound })
            (append_assoc context.bound (patterns_types context.declarations (map Some types) others)
            (pattern_types context.declarations subject one)
            ∙ ap (λ (more : List (Option PlainType)). context.bound ++ more) (sym typed));
      };
    }

-- the pattern at an index was met, after those before it
pub patterns_step : {before now after : Checker} {found : List TypeIndex} {fit : Bool} {subject : Option TypeIndex}
    (patterns : List Pattern) (index : ℕ) (item : Pattern) (one_fits : Bool)
    → PatternsSoFar before found (take index patterns) fit now → index < length patterns
    → item ≡ get_or patterns index item → subject ≡ slice_get found index
    → ((context : Context) (type : Option PlainType) → Knows now context → Finds now subject type
    → one_fits ≡ pattern_fits context.declarations type (pattern_tree context.names item))
    → ((context : Context) (type : Option PlainType) → Knows now context → Finds now subject type
    → Noted now.first (pattern_offences context.declarations type (pattern_tree context.names item)) after.first)
    → ((context : Context) (type : Option PlainType) → Knows now context → Finds now subject type
    → Knows after (with_bound context (pattern_types context.declarations type (pattern_tree context.names item))))
    → Keeps now.table after.table → PatternsSoFar before found (take (index + 1) patterns) (fit && one_fits) after
patterns_step {before} {now} {after} {found} {fit} {subject} patterns index item one_fits so_far there is subject_is fit_is
    noted bound keeps = record {
      met = λ context types knows finds.
          let met = so_far.met context types knows finds in
          let counted = length-take-le index patterns (omega (arith, there)) in
          let around = with_bound context (patterns_types context.declarations (map Some types)
          (pattern_trees context.names (take index patterns))) in
          let one = subst (λ (at : ℕ). Finds now subject (slice_get types at)) (sym counted)
          (subst (λ (given : Option TypeIndex). Finds now given (slice_get types index)) (sym subject_is)
          (finds_at index (finds_all_kept so_far.keeps finds))) in
          let type = slice_get types (length (take index patterns)) in
          subst (λ (some : List Pattern). PatternsMet context types before.first some (fit && one_fits) after)
          (ap (λ (last : Pattern). take index patterns ++ last ∷ []) is ∙ sym (take_more patterns index item there))
          (one_more_met one_fits item met (fit_is around type met.bound one) (noted around type met.bound one)
          (bound around type met.bound one));
      keeps = keeps_transitive so_far.keeps keeps;
    }

-- all patterns were met
pub patterns_done : {before now : Checker} {found : List TypeIndex} {fit : Bool} (patterns : List Pattern) (index : ℕ)
    → PatternsSoFar before found (take index patterns) fit now → length patterns ≤ index
    → PatternsSoFar before found patterns fit now
patterns_done {before} {now} {found} {fit} patterns index so_far over =
    subst (λ (all : List Pattern). PatternsSoFar before found all fit now) (take_all index patterns over) so_far

-- What is known once a pattern was met with its subject.
pub record PatternMet (context : Context) (type : Option PlainType) (first : Option Offence) (pattern : PatternTree)
    (fits : Bool) (now : Checker) : Type 0 where
  pub fits_is : fits ≡ pattern_fits context.declarations type pattern
  pub noted : Noted first (pattern_offences context.declarations type pattern) now.first
  pub bound : Knows now (with_bound context (pattern_types context.declarations type pattern))

-- the types of the parts that are matched by as many patterns
abbrev pub matched : List DeclTree → Option PlainType → Name → ℕ → Option (List PlainType)
matched declarations type constructor count = option_and_then (if_as_many count)
    (option_and_then (λ (given : PlainType). constructor_parts declarations given constructor) type)

-- parts that may be missing, as a list of subjects
subjects_listed : (found : Option (List PlainType)) → subjects found ≡ map Some (unwrap_or found [])
subjects_listed (Some types) = refl
subjects_listed None = refl

-- the subjects of the patterns in a pattern are the parts that match
subjects_matched : (declarations : List DeclTree) (type : Option PlainType) (constructor : Name)
    (arguments : PatternTrees) → part_subjects declarations type constructor arguments
    ≡ map Some (unwrap_or (matched declarations type constructor (count_patterns arguments)) [])
subjects_matched declarations (Some subject) constructor arguments =
    subjects_listed (matched declarations (Some subject) constructor (count_patterns arguments))
subjects_matched declarations None constructor arguments = refl

-- whether a constructor is not one of the subject's type
foreign_matched : (declarations : List DeclTree) (type : Option PlainType) (constructor : Name)
    (arguments : PatternTrees) → is_foreign declarations type constructor arguments
    ≡ is_some type && is_none (matched declarations type constructor (count_patterns arguments))
foreign_matched declarations (Some subject) constructor arguments = refl
foreign_matched declarations None constructor arguments = refl

-- A checker finds whether a constructor is not one of the subject's type.
pub foreign_found : {before now : Checker} {subject : Option TypeIndex} {type : Option PlainType}
    {types : Option (List PlainType)} (parts : Option (Vec TypeIndex Global)) → Finds before subject type
    → FindsAll now (items_of parts) types → is_some subject && is_none parts ≡ is_some type && is_none types
foreign_found {before} {now} {subject} parts one all =
    ap₂ ◌&&◌ (is_some-option_map (type_at (types_in before.table)) subject ∙ ap is_some one.is)
    (is_none-option_map (λ (found : Vec TypeIndex Global). found.items) parts
    ∙ is_none-option_map (types_at (types_in now.table)) (items_of parts)
    ∙ ap is_none all.are)

-- the parts that were found are found, of which there are none if no parts were
pub found_listed : {checker : Checker} (found : Option (List TypeIndex)) → FoundAll checker found
    → FoundAll checker (Some (unwrap_or found []))
found_listed {checker} (Some indices) known = known
found_listed {checker} None known = record { among = All-nil (IsAmong (types_in checker.table)) }

-- they stand for the types that they stood for, of which there are none then
pub finds_listed : {checker : Checker} (found : Option (List TypeIndex)) {types : Option (List PlainType)}
    → FindsAll checker found types → FindsAll checker (Some (unwrap_or found [])) (Some (unwrap_or types []))
finds_listed {checker} (Some indices) {types} known = record {
  found_are = known.found_are;
  are = ap (λ (some : Option (List PlainType)). Some (unwrap_or some [])) known.are;
}
finds_listed {checker} None {types} known = record {
  found_are = found_listed None known.found_are;
  are = ap (λ (some : Option (List PlainType)). Some (unwrap_or some [])) known.are;
}

-- a constructor with the patterns of its arguments was met, after its parts
pub built_met : {context : Context} {type : Option PlainType} {first between : Option Offence} {now : Checker}
    {count : ℕ} (place : Place) (constructor : Name) (patterns : List Pattern) (foreign fit : Bool)
    → count ≡ length patterns
    → (foreign ≡ is_some type && is_none (matched context.declarations type constructor count))
    → Noted first (offence_if foreign T1 place) between
    → PatternsMet context (unwrap_or (matched context.declarations type constructor count) []) between patterns fit now
    → PatternMet context type first (Built place constructor (pattern_trees context.names patterns))
    (not foreign && fit) now
built_met {context} {type} {first} {between} {now} {count} place constructor patterns foreign fit counted reported noted
    met =
    let arguments = pattern_trees context.names patterns in
    let types = unwrap_or (matched context.declarations type constructor count) [] in
    let as_many = patterns_counted context.names patterns ∙ sym counted in
    let foreign_is = foreign_matched context.declarations type constructor arguments
    ∙ ap (λ (many : ℕ). is_some type && is_none (matched context.declarations type constructor many)) as_many
    ∙ sym reported in
    let parts_are = subjects_matched context.declarations type constructor arguments
    ∙ ap (λ (many : ℕ). map Some (unwrap_or (matched context.declarations type constructor many) [])) as_many in
    let offends = ap₂ (λ (one : Bool) (parts : List (Option PlainType)).
    offence_if one T1 place ++ patterns_offences context.declarations parts arguments) foreign_is parts_are in
    let more = patterns_offences context.declarations (map Some types) arguments in
    record {
      fits_is = ap₂ ◌&&◌ (none_if foreign (not foreign) place (sym (not-not foreign))) met.fits_are
          ∙ none_after (offence_if foreign T1 place) more
          ∙ ap (λ (offences : List Offence). nat_eq (length offences) 0) (sym offends);
      noted = subst (λ (offences : List Offence). Noted first offences now.first) (sym offends)
          (noted_after (offence_if foreign T1 place) more noted met.noted);
      bound = subst (λ (parts : List (Option PlainType)).
          Knows now (with_bound context (patterns_types context.declarations parts arguments))) (sym parts_are)
          met.bound;
    }
