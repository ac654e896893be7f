-- Declarations of the prelude followed by those of a source.
use Rattle.std.proofs.Common.{◌≡◌, ℕ, ◌+◌, List, [], ◌∷◌, ◌++◌, refl, sym, ap, ◌∙◌, subst, length, map, fold, append_assoc, arith}
use Rattle.std.specs.Prelude.{Option, None}
use Rattle.std.proofs.lemmas.List.{length-map, map-append}
use Rattle.abs_program.specs.NameSpaces.{NameSpaces, built_in, spaces_of, with_declaration, with_declarations}
use Rattle.abs_tree.specs.Offences.{earlier, first_offence}
use Rattle.abs_program.specs.Slots.{param_slots}
use Rattle.abs_tree.specs.Syntax.{Name, DeclTree}
use Rattle.abs_tree.specs.SyntaxViews.{decl_tree}
use Rattle.abs_tree.specs.declared.syntax.declaration.Decl.{Decl}
use Rattle.abs_tree.specs.declared.syntax.slot.Slot.{Slot}
use Rattle.abs_tree.specs.declared.refusal.Offence.{Offence}
use Rattle.abs_names.specs.NameOffences.{declaration_offences, declarations_offences}
use Rattle.abs_names.specs.Repeats.{declaration_repeats, declarations_repeats}
use Rattle.abs_names.specs.Resolution.{resolved_declaration, resolved_declarations}
use Rattle.abs_names.specs.Scopes.{Scope}
use Rattle.abs_names.specs.TypeNames.{Around, around_of}
use Rattle.abs_names.proofs.FormLemmas.{both_noted}
use Rattle.abs_names.specs.Spaces.{space_offences, spaces_offences}
use Rattle.list_facts.proofs.AppendLemmas.{each_of_both}

-- what two lists have is that of the first and then that of the second
pub repeats_of_both : (first second : List DeclTree)
    → declarations_repeats (first ++ second) ≡ declarations_repeats first ++ declarations_repeats second
repeats_of_both = each_of_both declarations_repeats declaration_repeats refl (λ item others. refl)

pub offences_of_both : (spaces : NameSpaces) (first second : List DeclTree)
    → declarations_offences spaces (first ++ second)
    ≡ declarations_offences spaces first ++ declarations_offences spaces second
offences_of_both spaces =
    each_of_both (declarations_offences spaces) (declaration_offences spaces) refl (λ item others. refl)

pub resolved_of_both : (spaces : NameSpaces) (first second : List DeclTree)
    → resolved_declarations spaces (first ++ second)
    ≡ resolved_declarations spaces first ++ resolved_declarations spaces second
resolved_of_both spaces =
    each_of_both (resolved_declarations spaces) (λ (item : DeclTree). resolved_declaration spaces item ∷ []) refl
    (λ item others. refl)

-- name spaces with two lists of declarations
pub spaces_with_both : (index : ℕ) (known : NameSpaces) (first second : List DeclTree)
    → with_declarations index known (first ++ second)
    ≡ with_declarations (index + length first) (with_declarations index known first) second
spaces_with_both index known [] second = ap (λ (n : ℕ). with_declarations n known second) (omega arith)
spaces_with_both index known (item ∷ first) second =
    spaces_with_both (index + 1) (with_declaration index known item) first second
    ∙ ap (λ (n : ℕ).
    with_declarations n (with_declarations (index + 1) (with_declaration index known item) first) second)
    (omega arith)

-- and what is declared twice in them
pub spaces_offences_of_both : (index : ℕ) (known : NameSpaces) (first second : List DeclTree)
    → spaces_offences index known (first ++ second) ≡ spaces_offences index known first
    ++ spaces_offences (index + length first) (with_declarations index known first) second
spaces_offences_of_both index known [] second = ap (λ (n : ℕ). spaces_offences n known second) (omega arith)
spaces_offences_of_both index known (item ∷ first) second =
    let later = with_declaration index known item in
    let offences = space_offences index known item in
    ap (λ (xs : List Offence). offences ++ xs) (spaces_offences_of_both (index + 1) later first second)
    ∙ (sym (append_assoc offences (spaces_offences (index + 1) later first)
    (spaces_offences (index + 1 + length first) (with_declarations (index + 1) later first) second))
    ∙ ap (λ (n : ℕ). (offences ++ spaces_offences (index + 1) later first)
    ++ spaces_offences n (with_declarations (index + 1) later first) second) (omega arith))

-- the offences of the prelude, and then those of a source, were noted
pub both_parts_noted : (all : NameSpaces → List DeclTree → List Offence)
    → ((spaces : NameSpaces) (first second : List DeclTree)
    → all spaces (first ++ second) ≡ all spaces first ++ all spaces second)
    → {spaces one other : NameSpaces} {names later first_names second_names : List Name}
    (start between end : Option Offence) (first second : List Decl) → one ≡ spaces → other ≡ spaces
    → first_names ≡ names → second_names ≡ later
    → between ≡ fold earlier start (all one (map (decl_tree first_names) first))
    → end ≡ fold earlier between (all other (map (decl_tree second_names) second))
    → end ≡ fold earlier start (all spaces (map (decl_tree names) first ++ map (decl_tree later) second))
both_parts_noted all both {spaces} {one} {other} {names} {later} {first_names} {second_names} start between end first second
    one_is other_is first_is second_is noted noted_after =
    let before = map (decl_tree names) first in
    let after = map (decl_tree later) second in
    let noted_is : between ≡ fold earlier start (all spaces before) =
    subst (λ (s : NameSpaces). between ≡ fold earlier start (all s before)) one_is
    (subst (λ (ns : List Name). between ≡ fold earlier start (all one (map (decl_tree ns) first))) first_is noted) in
    let after_is : end ≡ fold earlier between (all spaces after) =
    subst (λ (s : NameSpaces). end ≡ fold earlier between (all s after)) other_is
    (subst (λ (ns : List Name). end ≡ fold earlier between (all other (map (decl_tree ns) second))) second_is
    noted_after) in
    both_noted start between end (all spaces before) (all spaces after) noted_is after_is
    ∙ ap (fold earlier start) (sym (both spaces before after))

-- the declarations of the prelude, and those of a source, were resolved
pub both_parts_resolved : {spaces one other : NameSpaces} {names later first_names second_names first_made second_made : List Name}
    (first first_now second second_now : List Decl) → one ≡ spaces → other ≡ spaces → first_names ≡ names
    → second_names ≡ later → first_made ≡ names → second_made ≡ names
    → map (decl_tree first_made) first_now ≡ resolved_declarations one (map (decl_tree first_names) first)
    → map (decl_tree second_made) second_now ≡ resolved_declarations other (map (decl_tree second_names) second)
    → map (decl_tree names) (first_now ++ second_now)
    ≡ resolved_declarations spaces (map (decl_tree names) first ++ map (decl_tree later) second)
both_parts_resolved {spaces} {one} {other} {names} {later} {first_names} {second_names} {first_made} {second_made} first
    first_now second second_now one_is other_is first_is second_is first_made_is second_made_is found found_after =
    let before = map (decl_tree names) first in
    let after = map (decl_tree later) second in
    let found_is : map (decl_tree names) first_now ≡ resolved_declarations spaces before =
    subst (λ (s : NameSpaces). map (decl_tree names) first_now ≡ resolved_declarations s before) one_is
    (subst (λ (ns : List Name). map (decl_tree names) first_now ≡ resolved_declarations one (map (decl_tree ns) first))
    first_is (subst (λ (ns : List Name).
    map (decl_tree ns) first_now ≡ resolved_declarations one (map (decl_tree first_names) first)) first_made_is found))
    in
    let after_is : map (decl_tree names) second_now ≡ resolved_declarations spaces after =
    subst (λ (s : NameSpaces). map (decl_tree names) second_now ≡ resolved_declarations s after) other_is
    (subst (λ (ns : List Name). map (decl_tree names) second_now ≡ resolved_declarations other (map (decl_tree ns) second))
    second_is (subst (λ (ns : List Name).
    map (decl_tree ns) second_now ≡ resolved_declarations other (map (decl_tree second_names) second)) second_made_is
    found_after)) in
    map-append (decl_tree names) first_now second_now
    ∙ (ap (λ (trees : List DeclTree). trees ++ map (decl_tree names) second_now) found_is
    ∙ (ap (λ (trees : List DeclTree). resolved_declarations spaces before ++ trees) after_is
    ∙ sym (resolved_of_both spaces before after)))

-- what is around after the declarations of the prelude and those of a source
pub around_both : {start first second : Around} {next : ℕ} {names later first_names second_names : List Name}
    (prelude source : List Decl) → start ≡ around_of built_in [] → first_names ≡ names → second_names ≡ later
    → first ≡ record start { spaces = with_declarations 0 start.spaces (map (decl_tree first_names) prelude) }
    → next ≡ 0 + length prelude
    → second ≡ record first { spaces = with_declarations next first.spaces (map (decl_tree second_names) source) }
    → second ≡ around_of (spaces_of (map (decl_tree names) prelude ++ map (decl_tree later) source)) []
around_both {start} {first} {second} {next} {names} {later} {first_names} {second_names} prelude source begin first_is
    second_is added counted added_after =
    let before = map (decl_tree names) prelude in
    let after = map (decl_tree later) source in
    let added_is : first ≡ around_of (with_declarations 0 built_in before) [] =
    subst (λ (ns : List Name). first ≡ around_of (with_declarations 0 built_in (map (decl_tree ns) prelude)) []) first_is
    (added ∙ ap (λ (a : Around).
    record a { spaces = with_declarations 0 a.spaces (map (decl_tree first_names) prelude) }) begin) in
    let count : next ≡ 0 + length before = omega (arith, counted, length-map prelude (decl_tree names)) in
    subst (λ (ns : List Name).
    second ≡ record first { spaces = with_declarations next first.spaces (map (decl_tree ns) source) }) second_is
    added_after
    ∙ (ap (λ (a : Around). record a { spaces = with_declarations next a.spaces after }) added_is
    ∙ (ap (λ (n : ℕ). around_of (with_declarations n (with_declarations 0 built_in before) after) []) count
    ∙ ap (λ (s : NameSpaces). around_of s []) (sym (spaces_with_both 0 built_in before after))))

-- what is declared twice in a name space, in the prelude or in a source
pub spaces_noted : {start first : Around} {next : ℕ} {names later first_names second_names : List Name}
    {noted noted_after : Option Offence} (prelude source : List Decl) → start ≡ around_of built_in []
    → first_names ≡ names → second_names ≡ later
    → first ≡ record start { spaces = with_declarations 0 start.spaces (map (decl_tree first_names) prelude) }
    → next ≡ 0 + length prelude
    → noted ≡ fold earlier None (spaces_offences 0 start.spaces (map (decl_tree first_names) prelude))
    → noted_after ≡ fold earlier noted (spaces_offences next first.spaces (map (decl_tree second_names) source))
    → noted_after ≡ first_offence (spaces_offences 0 built_in
    (map (decl_tree names) prelude ++ map (decl_tree later) source))
spaces_noted {start} {first} {next} {names} {later} {first_names} {second_names} {noted} {noted_after} prelude source begin
    first_is second_is added counted note note_after =
    let before = map (decl_tree names) prelude in
    let after = map (decl_tree later) source in
    let known = with_declarations 0 built_in before in
    let added_is : first ≡ around_of known [] =
    subst (λ (ns : List Name). first ≡ around_of (with_declarations 0 built_in (map (decl_tree ns) prelude)) []) first_is
    (added ∙ ap (λ (a : Around).
    record a { spaces = with_declarations 0 a.spaces (map (decl_tree first_names) prelude) }) begin) in
    let count : next ≡ 0 + length before = omega (arith, counted, length-map prelude (decl_tree names)) in
    let note_is : noted ≡ fold earlier None (spaces_offences 0 built_in before) =
    note ∙ (ap (λ (a : Around). fold earlier None (spaces_offences 0 a.spaces (map (decl_tree first_names) prelude)))
    begin ∙ ap (λ (ns : List Name). fold earlier None (spaces_offences 0 built_in (map (decl_tree ns) prelude))) first_is)
    in
    let after_is : noted_after ≡ fold earlier noted (spaces_offences (0 + length before) known after) =
    note_after ∙ (ap (λ (a : Around).
    fold earlier noted (spaces_offences next a.spaces (map (decl_tree second_names) source))) added_is
    ∙ (ap (λ (ns : List Name). fold earlier noted (spaces_offences next known (map (decl_tree ns) source))) second_is
    ∙ ap (λ (n : ℕ). fold earlier noted (spaces_offences n known after)) count)) in
    both_noted None noted noted_after (spaces_offences 0 built_in before)
    (spaces_offences (0 + length before) known after) note_is after_is
    ∙ ap (fold earlier None) (sym (spaces_offences_of_both 0 built_in before after))

-- the declarations of the prelude and those of a source, where names and lists have two forms
pub both_are : {names later first_names second_names : List Name} {first first_given second second_given : List Decl}
    {trees : List DeclTree} → first_names ≡ names → second_names ≡ later → first_given ≡ first → second_given ≡ second
    → map (decl_tree names) first ≡ trees
    → map (decl_tree first_names) first_given ++ map (decl_tree second_names) second_given
    ≡ trees ++ map (decl_tree later) second
both_are {names} {later} {first_names} {second_names} {first} {first_given} {second} {second_given} {trees} first_is
    second_is given second_given_is made =
    let after = map (decl_tree second_names) second_given in
    ap (λ (ns : List Name). map (decl_tree ns) first_given ++ after) first_is
    ∙ (ap (λ (ds : List Decl). map (decl_tree names) ds ++ after) given
    ∙ (ap (λ (ts : List DeclTree). ts ++ after) made
    ∙ (ap (λ (ns : List Name). trees ++ map (decl_tree ns) second_given) second_is
    ∙ ap (λ (ds : List Decl). trees ++ map (decl_tree later) ds) second_given_is)))

-- what holds where a main block has begun holds of the scope, the slots and the names of the definition
pub in_main : {scope main : Scope} {slots : List Slot} {names later : List Name} (P : Scope → ℕ → List Name → Type 0)
    → scope ≡ main → slots ≡ param_slots 0 → names ≡ later → P scope (length slots) names → P main 0 later
in_main {scope} {main} {slots} {names} {later} P scope_is slots_are names_are holds =
    subst (λ (ns : List Name). P main 0 ns) names_are
    (subst (λ (s : Scope). P s 0 names) scope_is
    (subst (λ (xs : List Slot). P scope (length xs) names) slots_are holds))
