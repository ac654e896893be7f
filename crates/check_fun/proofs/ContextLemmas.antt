-- What a checker knew and found is so later, and what it noted in several steps is noted.
--
--   `maybe_among`, `maybe_same`                an index that may be there is among the types of a table that grows, and
--                                              stands for the same type
--   `found_kept`, `finds_kept`                 an index that was found stands for the same type, if the table keeps it
--   `found_all_kept`, `finds_all_kept`         the same of several indices
--   `found_stays`, `finds_stays`               the same, if the checker stays
--   `found_all_stays`, `finds_all_stays`       the same of several indices
--   `knows_stays`                              a checker that stays knows what it knew
--   `stays_reflexive`, `stays_transitive`      a checker stays the same, also in several steps
--   `noted_nothing`, `noted_same`              nothing is noted, if the first offence is the one before
--   `noted_after`                              what is noted after other offences is noted with them
use Rattle.std.proofs.Common.{◌≡◌, List, [], ◌++◌, fold, All, Option, Some, None, option_map, IfSome, refl, sym, ap, ◌∙◌}
use Rattle.std.proofs.lemmas.List.Sums.{fold-append}
use Rattle.abs_tree.specs.Offences.{earlier}
use Rattle.abs_tree.specs.declared.refusal.Offence.{Offence}
use Rattle.abs_types.proofs.KeepLemmas.{among_kept, type_at_kept, all_among_kept, types_at_kept, keeps_reflexive, keeps_transitive}
use Rattle.abs_types.specs.PlainTypes.{PlainType}
use Rattle.abs_types.specs.TypeShapes.{type_at, types_at, IsAmong}
use Rattle.abs_types.specs.TypeTables.{types_in, Keeps}
use Rattle.abs_types.specs.declared.table.TypeTable.{TypeTable}
use Rattle.abs_types.specs.declared.table.shape.TypeIndex.{TypeIndex}
use Rattle.check_fun.specs.Contexts.{Context, Found, Finds, FoundAll, FindsAll, Knows, Noted, Stays}
use Rattle.check_fun.specs.declared.checker.Checker.{Checker}

-- an index that may be there is among the types later
pub maybe_among : {before now : TypeTable} (found : Option TypeIndex) → Keeps before now
    → IfSome found (IsAmong (types_in before)) → IfSome found (IsAmong (types_in now))
maybe_among None keeps among = among
maybe_among (Some index) keeps among = among_kept keeps among

-- it stands for the same type later
pub maybe_same : {before now : TypeTable} (found : Option TypeIndex) → Keeps before now
    → IfSome found (IsAmong (types_in before))
    → option_map (type_at (types_in now)) found ≡ option_map (type_at (types_in before)) found
maybe_same None keeps among = refl
maybe_same (Some index) keeps among = ap Some (type_at_kept keeps among)

-- several indices that may be there are among the types later
maybe_all_among : {before now : TypeTable} (found : Option (List TypeIndex)) → Keeps before now
    → IfSome found (All (IsAmong (types_in before))) → IfSome found (All (IsAmong (types_in now)))
maybe_all_among None keeps among = among
maybe_all_among (Some indices) keeps among = all_among_kept indices keeps among

-- they stand for the same types later
maybe_all_same : {before now : TypeTable} (found : Option (List TypeIndex)) → Keeps before now
    → IfSome found (All (IsAmong (types_in before)))
    → option_map (types_at (types_in now)) found ≡ option_map (types_at (types_in before)) found
maybe_all_same None keeps among = refl
maybe_all_same (Some indices) keeps among = ap Some (types_at_kept indices keeps among)

-- an index that was found is found later
pub found_kept : {before now : Checker} {found : Option TypeIndex} → Keeps before.table now.table
    → Found before found → Found now found
found_kept {before} {now} {found} keeps was = record { among = maybe_among found keeps was.among }

-- an index that stood for a type stands for it later
pub finds_kept : {before now : Checker} {found : Option TypeIndex} {type : Option PlainType}
    → Keeps before.table now.table → Finds before found type → Finds now found type
finds_kept {before} {now} {found} keeps was = record {
  found_is = found_kept keeps was.found_is;
  is = maybe_same found keeps was.found_is.among ∙ was.is;
}

-- several indices that were found are found later
pub found_all_kept : {before now : Checker} {found : Option (List TypeIndex)} → Keeps before.table now.table
    → FoundAll before found → FoundAll now found
found_all_kept {before} {now} {found} keeps was = record { among = maybe_all_among found keeps was.among }

-- several indices that stood for types stand for them later
pub finds_all_kept : {before now : Checker} {found : Option (List TypeIndex)} {types : Option (List PlainType)}
    → Keeps before.table now.table → FindsAll before found types → FindsAll now found types
finds_all_kept {before} {now} {found} keeps were = record {
  found_are = found_all_kept keeps were.found_are;
  are = maybe_all_same found keeps were.found_are.among ∙ were.are;
}

-- an index that was found is found by a checker that stays
pub found_stays : {before now : Checker} {found : Option TypeIndex} → Stays before now → Found before found
    → Found now found
found_stays stays was = found_kept stays.keeps was

-- it stands for the type that it stood for
pub finds_stays : {before now : Checker} {found : Option TypeIndex} {type : Option PlainType} → Stays before now
    → Finds before found type → Finds now found type
finds_stays stays was = finds_kept stays.keeps was

-- several indices that were found are found by a checker that stays
pub found_all_stays : {before now : Checker} {found : Option (List TypeIndex)} → Stays before now
    → FoundAll before found → FoundAll now found
found_all_stays stays were = found_all_kept stays.keeps were

-- they stand for the types that they stood for
pub finds_all_stays : {before now : Checker} {found : Option (List TypeIndex)} {types : Option (List PlainType)}
    → Stays before now → FindsAll before found types → FindsAll now found types
finds_all_stays stays were = finds_all_kept stays.keeps were

-- a checker that stays knows what it knew
pub knows_stays : {before now : Checker} {context : Context} → Stays before now → Knows before context
    → Knows now context
knows_stays stays knew = record { is = stays.context_is ∙ knew.is }

-- a checker stays the same
pub stays_reflexive : {checker : Checker} → Stays checker checker
stays_reflexive = record { context_is = refl; keeps = keeps_reflexive }

-- a checker that stays twice stays
pub stays_transitive : {before between now : Checker} → Stays before between → Stays between now
    → Stays before now
stays_transitive first second = record {
  context_is = second.context_is ∙ first.context_is;
  keeps = keeps_transitive first.keeps second.keeps;
}

-- nothing is noted
pub noted_nothing : {first : Option Offence} → Noted first [] first
noted_nothing = record { is = refl }

-- nothing is noted, if the first offence is the one before
pub noted_same : {before now : Option Offence} → now ≡ before → Noted before [] now
noted_same same = record { is = same }

-- what is noted after other offences is noted with them
pub noted_after : {before between now : Option Offence} (xs ys : List Offence) → Noted before xs between
    → Noted between ys now → Noted before (xs ++ ys) now
noted_after {before} {between} {now} xs ys first second = record {
  is = second.is ∙ ap (λ noted. fold earlier noted ys) first.is ∙ sym (fold-append earlier before xs ys);
}
