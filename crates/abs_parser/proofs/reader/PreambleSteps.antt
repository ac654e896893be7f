-- The steps of the parsing functions of the lines before a program: names with dots between them, and lines that begin
-- with a keyword. These lines leave nothing in the tree, so only the items that are left matter (`ReadUpTo`).
use Rattle.std.proofs.Common.{◌≡◌, ◌≤◌, ℕ, true, false, List, [], ◌∷◌, refl, ◌∙◌, arith}
use Rattle.std.specs.Prelude.{⊤}
use Rattle.abs_lexer.specs.declared.lexeme.Keyword.{Keyword}
use Rattle.abs_lexer.specs.declared.lexeme.Keyword.TheVariants as keyword
use Rattle.abs_lexer.specs.declared.lexeme.Lexeme.{Lexeme}
use Rattle.abs_lexer.specs.declared.lexeme.Lexeme.TheVariants as lexeme
use Rattle.abs_lexer.specs.declared.lexeme.Punctuator.TheVariants as punctuator
use Rattle.abs_lexer.specs.Tokens.{Lexed}
use Rattle.abs_tree.specs.Names.{with_name}
use Rattle.abs_parser.specs.TokenKinds.{AbsName, StdLibName, UpperName, KeywordKind, PunctuatorKind, fits, next}
use Rattle.abs_parser.specs.Productions.{Nonterminal, Item, Module, Import, Path, DotName, reserved, rule, counts}
use Rattle.abs_parser.specs.Readings.{Goal, One, Optional, Repeated, Wanted, Terminal, Subgoal, place, Forest}
use Rattle.abs_parser.specs.ReaderAnswers.{left_at, asked, fixed_kind, TakesKind, TakesFixed, FoundAs, IsRefused, is_asked}
use Rattle.abs_parser.specs.Stops.{limit}
use Rattle.abs_parser.specs.Tokens.{Spot}
use Rattle.abs_parser.specs.declared.cursor.FixedName.{FixedName}
use Rattle.abs_parser.specs.declared.cursor.FixedName.TheVariants as fixed
use Rattle.abs_tree.specs.declared.source_error.SourceError.{SourceError}
use Rattle.abs_parser.proofs.reader.NameListSteps.{JoinsName, joint_begins, joint_read, joined_name_found}
use Rattle.abs_parser.proofs.reader.PatternSteps.{nothing_found}
use Rattle.abs_parser.proofs.reader.RepeatSteps.{over_one_more}
use Rattle.abs_parser.proofs.reader.RightSideSteps.{maybe_read}
use Rattle.abs_parser.proofs.reader.FoundLemmas.{is_name, found_weaker}
use Rattle.abs_parser.proofs.reader.StepLemmas.{HasRead, opens, over_token, over_name, over_fixed, over_part, all_read, refused_inside, fits_next, refused_first_token}
use Rattle.abs_parser.proofs.grammar.NonterminalLemmas.{begins_with_token, part_shut, part_opened, optional_left_out, repeated_opened, repeated_ends}

-- A part of the preamble was read up to here, whatever its tree is, and these items are left.
pub record ReadUpTo (goal : Goal) (old now : List (List ℕ)) (from here : Spot) (left : List Wanted) : Type 0 where
  pub make : Forest → Forest
  pub read : HasRead goal 0 old now from make left here

-- the nesting depth 0 is within the limit
shallow : 0 ≤ limit
shallow = omega arith

-- a token that is no name was read
pub past_token : {goal : Goal} {old now : List (List ℕ)} {from here after : Spot} {left : List Wanted} {token : Lexed}
    (kind : Lexeme)
    → ReadUpTo goal old now from here (Terminal (asked kind) 0 ∷ left) → TakesKind kind token here after
    → is_asked kind ≡ true → is_name kind ≡ false
    → ReadUpTo goal old now from after left
past_token kind so takes wanted no_name =
    record { make = _; read = over_token {kind = kind} so.read takes wanted no_name shallow }

-- a name with a spelling of its own was read and added to the table
pub past_fixed : {goal : Goal} {old now table : List (List ℕ)} {from here after : Spot} {left : List Wanted}
    {token : Lexed} (name : FixedName)
    → ReadUpTo goal old now from here (Terminal (fixed_kind name) 0 ∷ left) → TakesFixed name token here after
    → table ≡ with_name now token.bytes
    → ReadUpTo goal old table from after left
past_fixed name so takes is = record { make = _; read = over_fixed {name = name} so.read takes shallow is }

-- a part was read
pub past_part : {goal part : Goal} {old now new : List (List ℕ)} {from here after : Spot} {left : List Wanted}
    {is_read : List (List ℕ) → Forest → Type 0}
    → ReadUpTo goal old now from here (Subgoal part 0 ∷ left) → FoundAs part 0 now new here after is_read
    → ReadUpTo goal old new from after left
past_part so found = record { make = _; read = over_part so.read found }

-- where nothing is left, the part is found
pub read_whole : {goal : Goal} {old now : List (List ℕ)} {from here : Spot} → ReadUpTo goal old now from here []
    → FoundAs goal 0 old now from here (λ names inside. ⊤)
read_whole so = all_read so.read (λ names more. tt)

-- what refuses the next item refuses the part
pub refused_left : {goal : Goal} {old now : List (List ℕ)} {from here : Spot} {item : Wanted} {left : List Wanted}
    (error : SourceError)
    → ReadUpTo goal old now from here (item ∷ left) → IsRefused item here error → IsRefused (Subgoal goal 0) from error
refused_left error so refused = refused_inside so.read error refused

-- Names with dots between them

-- a path was read up to here, and any number of names after dots is left
abbrev pub PathUpTo : List (List ℕ) → List (List ℕ) → Spot → Spot → Type 0
PathUpTo old now from here = ReadUpTo (One Path) old now from here (Subgoal (Repeated DotName) 0 ∷ [])

-- `DotName` is a dot and a name
joined_by_dot : JoinsName DotName punctuator.Dot
joined_by_dot = record { nonterminal_is = refl; nonterminal_counts = refl }

-- what refuses the first name of a path refuses the path
pub refused_path : (from : Spot) (error : SourceError) → IsRefused (Terminal UpperName 0) from error
    → IsRefused (Subgoal (One Path) 0) from error
refused_path from error refused =
    refused_first_token UpperName 0 (One Path) 0 from error
    (λ fit. part_opened Path _ 0 refl refl (begins_with_token Path _ refl ∙ fit))
    (λ other. part_shut Path _ 0 (begins_with_token Path _ refl ∙ other)) refused

-- the first name of a path was read and added to the table
pub path_begins : {name : Lexed} {from after : Spot} {old table : List (List ℕ)}
    → TakesKind lexeme.UpperName name from after → table ≡ with_name old name.bytes
    → PathUpTo old table from after
path_begins {from = from} {old = old} name is = record {
  make = _;
  read = over_name (opens (One Path) 0 old from _
      (part_opened Path _ 0 refl refl (begins_with_token Path _ refl ∙ fits_next refl name))) name refl refl shallow is;
}

-- after a dot, what refuses the name refuses the path
pub refused_dot_name : {dot : Lexed} {from here name_at : Spot} {old now : List (List ℕ)} (error : SourceError)
    → PathUpTo old now from here
    → TakesKind (lexeme.Punctuator punctuator.Dot) dot here name_at → IsRefused (Terminal UpperName 0) name_at error
    → IsRefused (Subgoal (One Path) 0) from error
refused_dot_name {here = here} {now = now} error so dot refused =
    refused_left error so (refused_inside
    (opens (Repeated DotName) 0 now here _
    (repeated_opened DotName _ 0 (joint_begins joined_by_dot _ ∙ fits_next refl dot))) error
    (refused_inside (joint_read 0 now joined_by_dot dot shallow) error refused))

-- one more name after a dot was read and added to the table
pub path_goes_on : {dot name : Lexed} {from here name_at after : Spot} {old now table : List (List ℕ)}
    → PathUpTo old now from here
    → TakesKind (lexeme.Punctuator punctuator.Dot) dot here name_at → TakesKind lexeme.UpperName name name_at after
    → table ≡ with_name now name.bytes → PathUpTo old table from after
path_goes_on so dot name is = record {
  make = _;
  read = over_one_more so.read (repeated_opened DotName _ 0 (joint_begins joined_by_dot _ ∙ fits_next refl dot))
      (joined_name_found 0 joined_by_dot dot name is shallow);
}

-- where no dot is next, the path is found
pub path_found : {from here : Spot} {old now : List (List ℕ)} → PathUpTo old now from here
    → fits (PunctuatorKind punctuator.Dot) (next (left_at here)) ≡ false
    → FoundAs (One Path) 0 old now from here (λ names inside. ⊤)
path_found {here = here} {now = now} so other =
    read_whole (past_part so (nothing_found (Repeated DotName) 0 now here
    (repeated_ends DotName _ 0 (joint_begins joined_by_dot _ ∙ other))))

-- Lines that begin with a keyword

-- where its keyword is not next, a line is left out
pub line_left_out : {nonterminal : Nonterminal} {line : Keyword} {items : List Item} (table : List (List ℕ))
    (from : Spot) → rule nonterminal ≡ (reserved line ∷ items) ∷ []
    → fits (KeywordKind line) (next (left_at from)) ≡ false
    → FoundAs (Optional nonterminal) 0 table table from from (λ names inside. ⊤)
line_left_out {nonterminal} table from is other =
    found_weaker (nothing_found (Optional nonterminal) 0 table from
    (optional_left_out nonterminal _ 0 (begins_with_token nonterminal _ is ∙ other))) (λ names more none. tt)

-- the keyword of a line was read
pub line_begins : {nonterminal : Nonterminal} {line : Keyword} {items : List Item} {token : Lexed} {from after : Spot}
    (table : List (List ℕ))
    → rule nonterminal ≡ (reserved line ∷ items) ∷ [] → counts nonterminal ≡ false
    → TakesKind (lexeme.Keyword line) token from after
    → ReadUpTo (Optional nonterminal) table table from after (place 0 items)
line_begins {nonterminal} {line} {from = from} table is free takes = record {
  make = _;
  read = maybe_read (over_token {kind = lexeme.Keyword line}
      (opens (One nonterminal) 0 table from _
      (part_opened nonterminal _ 0 is free (begins_with_token nonterminal _ is ∙ fits_next refl takes))) takes refl refl
      shallow);
}

-- the `module` line was read up to its path
pub module_begins : {token : Lexed} {from after : Spot} (table : List (List ℕ))
    → TakesKind (lexeme.Keyword keyword.Module) token from after
    → ReadUpTo (Optional Module) table table from after
    (Subgoal (One Path) 0 ∷ Terminal (PunctuatorKind punctuator.Semicolon) 0 ∷ [])
module_begins table takes = line_begins {nonterminal = Module} table refl refl takes

-- what follows `ABS` in the `import` line
abbrev pub after_abs : List Wanted
after_abs = Terminal (PunctuatorKind punctuator.Dot) 0 ∷ Terminal StdLibName 0
    ∷ Terminal (PunctuatorKind punctuator.Semicolon) 0 ∷ []

-- the `import` line was read up to the star
pub import_begins : {token : Lexed} {from after : Spot} (table : List (List ℕ))
    → TakesKind (lexeme.Keyword keyword.Import) token from after
    → ReadUpTo (Optional Import) table table from after
    (Terminal (PunctuatorKind punctuator.Star) 0 ∷ Terminal (KeywordKind keyword.From) 0 ∷ Terminal AbsName 0
    ∷ after_abs)
import_begins table takes = line_begins {nonterminal = Import} table refl refl takes

-- the `import` line was read up to `from`
pub import_starred : {token star : Lexed} {from star_at after : Spot} (table : List (List ℕ))
    → TakesKind (lexeme.Keyword keyword.Import) token from star_at
    → TakesKind (lexeme.Punctuator punctuator.Star) star star_at after
    → ReadUpTo (Optional Import) table table from after
    (Terminal (KeywordKind keyword.From) 0 ∷ Terminal AbsName 0 ∷ after_abs)
import_starred table takes star =
    past_token (lexeme.Punctuator punctuator.Star) (import_begins table takes) star refl refl

-- the `import` line was read up to `ABS`
pub import_from : {token star word_from : Lexed} {from star_at word_at after : Spot} (table : List (List ℕ))
    → TakesKind (lexeme.Keyword keyword.Import) token from star_at
    → TakesKind (lexeme.Punctuator punctuator.Star) star star_at word_at
    → TakesKind (lexeme.Keyword keyword.From) word_from word_at after
    → ReadUpTo (Optional Import) table table from after (Terminal AbsName 0 ∷ after_abs)
import_from table takes star word_from =
    past_token (lexeme.Keyword keyword.From) (import_starred table takes star) word_from refl refl

-- `ABS` was read and added to the table
pub import_abs : {abs : Lexed} {from abs_at after : Spot} {old table : List (List ℕ)}
    → ReadUpTo (Optional Import) old old from abs_at (Terminal AbsName 0 ∷ after_abs)
    → TakesFixed fixed.Abs abs abs_at after → table ≡ with_name old abs.bytes
    → ReadUpTo (Optional Import) old table from after after_abs
import_abs so abs is = past_fixed fixed.Abs so abs is

-- the dot and `StdLib` were read, and `StdLib` was added to the table
pub import_library : {dot library : Lexed} {from dot_at library_at after : Spot} {old now table : List (List ℕ)}
    → ReadUpTo (Optional Import) old now from dot_at after_abs
    → TakesKind (lexeme.Punctuator punctuator.Dot) dot dot_at library_at
    → TakesFixed fixed.StdLib library library_at after → table ≡ with_name now library.bytes
    → ReadUpTo (Optional Import) old table from after (Terminal (PunctuatorKind punctuator.Semicolon) 0 ∷ [])
import_library so dot library is =
    past_fixed fixed.StdLib (past_token (lexeme.Punctuator punctuator.Dot) so dot refl refl) library is
