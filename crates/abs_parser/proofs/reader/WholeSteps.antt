-- The steps of the parsing function of a whole source. They read what may come before its main block, then the block,
-- and the end of the source. So the source is accepted, with the tree of what was read, or the parser fails where the
-- next part is refused.
use Rattle.std.proofs.Common.{◌≡◌, ◌≤◌, ℕ, ◌+◌, false, List, [], ◌∷◌, Some, fold, map, length, refl, sym, ap, subst, ◌∙◌, arith, length-drop}
use Rattle.std.specs.Prelude.{⊤, All}
use Rattle.std.proofs.lemmas.Bool.{or_parts}
use Rattle.std.proofs.lemmas.List.Elements.{All-same, All-weaker}
use Rattle.abs_tree.specs.Syntax.{SourceTree}
use Rattle.abs_tree.specs.Limits.{source_limit}
use Rattle.abs_tree.specs.Names.{with_name}
use Rattle.abs_tree.specs.SyntaxSizes.{decl_statements, statement_count, all_statements, body_sizes, class_sizes}
use Rattle.abs_tree.specs.SourceSizes.{all_variables}
use Rattle.abs_tree.specs.SyntaxViews.{statements, decl_tree, tree_of_parts}
use Rattle.abs_tree.specs.Refusals.{refusal_of}
use Rattle.abs_tree.specs.declared.refusal.Refusal.{Refusal}
use Rattle.abs_tree.specs.declared.syntax.declaration.Body.{Body}
use Rattle.abs_tree.specs.declared.syntax.declaration.Decl as code_decl
use Rattle.abs_lexer.specs.Tokens.{Lexed, TokenList}
use Rattle.abs_parser.specs.Answers.{IsWritten}
use Rattle.abs_parser.specs.Firsts.{IsBlock}
use Rattle.abs_parser.specs.TokenKinds.{Mark, TextEnd, marks, TokenKind, End, place_of_mark, next}
use Rattle.abs_parser.specs.Productions.{Nonterminal, Program, Module, Import, Decl, Block, begins}
use Rattle.abs_parser.specs.Readings.{One, Optional, Repeated, Wanted, Terminal, Subgoal, opened, Forest, Empty, Leaf, Node, Reads, Nothing, Taken, Opened, depths}
use Rattle.abs_parser.specs.Refusing.{AllWithin}
use Rattle.abs_parser.specs.ReaderAnswers.{left_at, names_before, FoundAs, RefusedAt, IsRefused, AreRefused}
use Rattle.abs_parser.specs.Texts.{IsTextOf, StopsWith, RefusesText}
use Rattle.abs_parser.specs.Tokens.{Spot, whole}
use Rattle.abs_parser.specs.TreesOf.{block_in, decls_in, tree_of}
use Rattle.abs_parser.specs.Views.{spot}
use Rattle.abs_parser.specs.declared.cursor.Cursor.{Cursor}
use Rattle.abs_tree.specs.declared.source_error.SourceError.{SourceError}
use Rattle.abs_tree.specs.declared.source_error.SourceError.TheVariants.{Refused, Memory}
use Rattle.abs_parser.proofs.sizes.DeclarationSizes.{variables_of_text, bodies_of_text, fields_of_text}
use Rattle.abs_parser.proofs.stop.EndLemmas.{text_refused}
use Rattle.abs_parser.proofs.sizes.LeafLemmas.{leaves, leaves_taken}
use Rattle.abs_parser.proofs.grammar.NameLemmas.{goes_on_itself}
use Rattle.abs_parser.proofs.grammar.ReadingLemmas.{a_program}
use Rattle.abs_parser.proofs.reader.RestSteps.{MayHaveRead, may_open, over_left_out, has_read, refused_left_out, refused_either_way, refused_there, refused_both_either_way}
use Rattle.abs_parser.proofs.reader.FoundLemmas.{left_length, within_both, found_shorter, found_goes_on}
use Rattle.abs_parser.proofs.reader.StepLemmas.{HasRead, over_part, refused_alike}
use Rattle.abs_parser.proofs.stop.StopLemmas.{accepted, stopped}
use Rattle.abs_parser.proofs.grammar.NonterminalLemmas.{begins_by, part_begun, part_opened, part_shut, optional_left_out, repeated_ends}
use Rattle.abs_parser.proofs.reader.WrittenLemmas.{table_written}

-- This token kind begins nothing that a source may begin with: no line before the program, no declaration and no block.
record BeginsNone (kind : TokenKind) : Type 0 where
  heading : begins Module kind ≡ false
  imported : begins Import kind ≡ false
  decl : begins Decl kind ≡ false
  block : begins Block kind ≡ false

-- a token kind that does not begin a program begins none of these
begins_none : (kind : TokenKind) → begins Program kind ≡ false → BeginsNone kind
begins_none kind none =
    let headings = or_parts _ _ (sym (begins_by Program kind refl) ∙ none) in
    let imports = or_parts _ _ headings.1 in
    let decls = or_parts _ _ imports.1 in
    record { heading = headings.0; imported = imports.0; decl = decls.0; block = decls.1 }

-- A source was read up to here, with these items left, where its first token may begin a program.
abbrev pub ProgramRead : List (List ℕ) → List (List ℕ) → Spot → (Forest → Forest) → List Wanted → Spot → Type 0
ProgramRead old now from make left here =
    MayHaveRead (begins Program (next (left_at from))) (One Program) 0 old now from make left here

-- what is wanted after the declarations
abbrev pub after_declarations : List Wanted
after_declarations = Subgoal (One Block) 0 ∷ Terminal End 0 ∷ []

-- a source begins with the lines before its declarations
pub program_begins : (table : List (List ℕ)) (from : Spot)
    → ProgramRead table table from (λ rest. rest)
    (Subgoal (Optional Module) 0 ∷ Subgoal (Optional Import) 0 ∷ Subgoal (Repeated Decl) 0 ∷ after_declarations) from
program_begins table from = may_open (One Program) 0 table from _ (λ begun. part_opened Program _ 0 refl refl begun)

-- where no program may begin, the `module` line is left out
heading_left_out : (kind : TokenKind) → begins Program kind ≡ false → opened (Optional Module) kind 0 ≡ Some []
heading_left_out kind none = optional_left_out Module kind 0 (begins_none kind none).heading

-- where no program may begin, the `import` line is left out
import_left_out : (kind : TokenKind) → begins Program kind ≡ false → opened (Optional Import) kind 0 ≡ Some []
import_left_out kind none = optional_left_out Import kind 0 (begins_none kind none).imported

-- where no program may begin, the declarations are left out
decls_left_out : (kind : TokenKind) → begins Program kind ≡ false → opened (Repeated Decl) kind 0 ≡ Some []
decls_left_out kind none = repeated_ends Decl kind 0 (begins_none kind none).decl

-- the optional `module` line was read
pub over_heading : {old now new : List (List ℕ)} {from here after : Spot} {make : Forest → Forest} {left : List Wanted}
    {is_read : List (List ℕ) → Forest → Type 0}
    → ProgramRead old now from make (Subgoal (Optional Module) 0 ∷ left) here
    → (found : FoundAs (Optional Module) 0 now new here after is_read)
    → ProgramRead old new from (λ rest. make (Node (Optional Module) found.inside rest)) left after
over_heading so found = over_left_out so (heading_left_out _) found

-- the optional `import` line was read
pub over_import : {old now new : List (List ℕ)} {from here after : Spot} {make : Forest → Forest} {left : List Wanted}
    {is_read : List (List ℕ) → Forest → Type 0}
    → ProgramRead old now from make (Subgoal (Optional Import) 0 ∷ left) here
    → (found : FoundAs (Optional Import) 0 now new here after is_read)
    → ProgramRead old new from (λ rest. make (Node (Optional Import) found.inside rest)) left after
over_import so found = over_left_out so (import_left_out _) found

-- the declarations were read
pub over_declarations : {old now new : List (List ℕ)} {from here after : Spot} {make : Forest → Forest}
    {left : List Wanted} {is_read : List (List ℕ) → Forest → Type 0}
    → ProgramRead old now from make (Subgoal (Repeated Decl) 0 ∷ left) here
    → (found : FoundAs (Repeated Decl) 0 now new here after is_read)
    → ProgramRead old new from (λ rest. make (Node (Repeated Decl) found.inside rest)) left after
over_declarations so found = over_left_out so (decls_left_out _) found

-- the main block, which is not optional, was read
pub over_block : {old now new : List (List ℕ)} {from here after : Spot} {make : Forest → Forest} {left : List Wanted}
    {is_read : List (List ℕ) → Forest → Type 0}
    → ProgramRead old now from make (Subgoal (One Block) 0 ∷ left) here
    → (found : FoundAs (One Block) 0 now new here after is_read)
    → HasRead (One Program) 0 old new from (λ rest. make (Node (One Block) found.inside rest)) left after
over_block so found =
    over_part (has_read so (λ none same.
    let block = part_begun Block _ 0 found.rule_is in
    let none_there = (begins_none _ none).block in
    let there = ap (λ (ts : List Mark). begins Block (next ts)) same in
    cc)) found

-- a source is refused where its `module` line is
pub heading_refused : {old now : List (List ℕ)} {from here : Spot} {make : Forest → Forest} {left : List Wanted}
    (error : SourceError)
    → ProgramRead old now from make (Subgoal (Optional Module) 0 ∷ left) here
    → IsRefused (Subgoal (Optional Module) 0) here error
    → IsRefused (Subgoal (One Program) 0) from error
heading_refused error so refused = refused_left_out so (heading_left_out _) error refused

-- a source is refused where its `import` line is
pub import_refused : {old now : List (List ℕ)} {from here : Spot} {make : Forest → Forest} {left : List Wanted}
    (error : SourceError)
    → ProgramRead old now from make (Subgoal (Optional Import) 0 ∷ left) here
    → IsRefused (Subgoal (Optional Import) 0) here error
    → IsRefused (Subgoal (One Program) 0) from error
import_refused error so refused = refused_left_out so (import_left_out _) error refused

-- where no program may begin, what refuses the main block refuses the source
block_alike : (from : Spot) (error : SourceError) → begins Program (next (left_at from)) ≡ false
    → IsRefused (Subgoal (One Block) 0) from error → IsRefused (Subgoal (One Program) 0) from error
block_alike from error none refused =
    refused_alike (One Block) 0 (One Program) 0 from error (part_shut Block _ 0 (begins_none _ none).block)
    (part_shut Program _ 0 none) refused

-- a source is refused where its declarations with the main block are
pub declarations_refused : {old now : List (List ℕ)} {from here : Spot} {make : Forest → Forest} {left : List Wanted}
    (error : SourceError)
    → ProgramRead old now from make (Subgoal (Repeated Decl) 0 ∷ Subgoal (One Block) 0 ∷ left) here
    → AreRefused (Subgoal (Repeated Decl) 0 ∷ Subgoal (One Block) 0 ∷ []) here error
    → IsRefused (Subgoal (One Program) 0) from error
declarations_refused {from = from} error so refused =
    refused_both_either_way so (decls_left_out _) error refused (block_alike from error)

-- a source is refused where its main block is
pub block_refused : {old now : List (List ℕ)} {from here : Spot} {make : Forest → Forest} {left : List Wanted}
    (error : SourceError)
    → ProgramRead old now from make (Subgoal (One Block) 0 ∷ left) here → IsRefused (Subgoal (One Block) 0) here error
    → IsRefused (Subgoal (One Program) 0) from error
block_refused {from = from} error so refused =
    refused_either_way so error refused
    (λ none same. block_alike from error none (refused_there (Subgoal (One Block) 0) _ from error same refused))

-- where a program is refused, the parser fails with this refusal
stops_with : (list : TokenList) (refusal : Refusal) → RefusedAt a_program (marks list) refusal → StopsWith list refusal
stops_with list refusal at =
    let stop = stopped (text_refused list (at.mark ∷ at.after) at.code at.refuses) in
    let same : at.mark ≡ stop.mark = cc (stop.is) in
    record {
      before = stop.before;
      mark = stop.mark;
      code = at.code;
      stops = stop.stops;
      refusal_is = at.refusal_is ∙ ap
          (λ (mark : Mark). refusal_of (record { code = at.code; place = place_of_mark mark })) same;
    }

-- where a program is refused with an error, the error has its cause
text_stops : (list : TokenList) (error : SourceError) → IsRefused (Subgoal (One Program) 0) (whole list) error
    → RefusesText error list
text_stops list (Refused refusal) refused = stops_with list refusal (refused [])
text_stops list Memory refused = tt

-- the same, with a variable for the first spot
pub stops_from : {list : TokenList} {from : Spot} (error : SourceError) → from ≡ whole list
    → IsRefused (Subgoal (One Program) 0) from error → RefusesText error list
stops_from {list} error is refused =
    text_stops list error (subst (λ (spot : Spot). IsRefused (Subgoal (One Program) 0) spot error) is refused)

-- A whole source was read as a program that consists of this, and these are its names.
pub record TextRead (list : TokenList) (names : List (List ℕ)) (inside : Forest) : Type 0 where
  pub reads : Reads a_program (marks list) (Node (One Program) inside Empty) []
  pub within : AllWithin (depths (Node (One Program) inside Empty))
  pub names_are : names ≡ fold with_name [] (names_before inside [])
  pub few : length names ≤ length list.tokens

-- where no token is left, only the end is
end_left : (spot : Spot) → spot.rest ≡ [] → left_at spot ≡ TextEnd spot.end ∷ []
end_left spot none = ap (λ (rest : List Lexed). left_at (record { rest = rest; end = spot.end })) none

-- where only the end is left, the whole source was read
all_of_text : {list : TokenList} {names : List (List ℕ)} {make : Forest → Forest} {here : Spot}
    → HasRead (One Program) 0 [] names (whole list) make (Terminal End 0 ∷ []) here
    → here.rest ≡ [] → TextRead list names (make (Leaf (TextEnd here.end) 0 Empty))
all_of_text {make = make} {here = here} so ends =
    let last = Leaf (TextEnd here.end) 0 Empty in
    let reads_last : Reads (Terminal End 0 ∷ []) (left_at here) last [] =
    subst (λ (ts : List Mark). Reads (Terminal End 0 ∷ []) ts last []) (sym (end_left here ends)) (Taken refl Nothing)
    in
    record {
      reads = Opened so.rule_is (so.reads last [] reads_last) Nothing;
      within = within_both (depths (make last)) [] (so.within last (omega arith, tt)) tt;
      names_are = sym (so.table last);
      few = omega (arith, so.few);
    }

-- the same was read of a source, with variables for its first table and its first spot
from_all : {list : TokenList} {old names : List (List ℕ)} {from here : Spot} {make : Forest → Forest}
    {left : List Wanted} → old ≡ [] → from ≡ whole list
    → HasRead (One Program) 0 old names from make left here
    → HasRead (One Program) 0 [] names (whole list) make left here
from_all {list} {old} {names} {here = here} {make} {left} none is so =
    subst (λ (table : List (List ℕ)). HasRead (One Program) 0 table names (whole list) make left here) none
    (subst (λ (spot : Spot). HasRead (One Program) 0 old names spot make left here) is so)

-- A program was found in a source. The tree of its parts, with these names, is that of what was read of the source.
pub record ProgramFound (list : TokenList) (names : List (List ℕ)) (declarations : List code_decl.Decl) (main : Body)
    : Type 0 where
  pub inside : Forest
  pub read : TextRead list names inside
  pub tree_is : tree_of_parts names declarations main ≡ tree_of (Node (One Program) inside Empty)

-- two trees of sources with equal parts are equal
same_text : (a b : SourceTree) → a.declarations ≡ b.declarations → a.main ≡ b.main → a.end ≡ b.end → a ≡ b
same_text a b decls main end = rw (decls, main, end)

-- these declarations were found, from index 0
abbrev pub DeclarationsFound : List (List ℕ) → List (List ℕ) → Spot → Spot → List code_decl.Decl → Type 0
DeclarationsFound old new from to declarations =
    FoundAs (Repeated Decl) 0 old new from to (λ names inside. map (decl_tree names) declarations ≡ decls_in 0 inside)

-- a block was found, from its first index
abbrev pub BlockFound : ℕ → List (List ℕ) → List (List ℕ) → Spot → Spot → Body → Type 0
BlockFound index old new from to main =
    FoundAs (One Block) 0 old new from to (λ names inside. IsBlock index names main inside)

-- a line before a program was found, or was left out
abbrev pub LineFound : Nonterminal → List (List ℕ) → List (List ℕ) → Spot → Spot → Type 0
LineFound nonterminal old new from to = FoundAs (Optional nonterminal) 0 old new from to (λ names inside. ⊤)

-- a program is found with the lines before it, its declarations and its main block, where no token is left after the
-- block
pub program_found : {list : TokenList} {old a b c names : List (List ℕ)} {from import_at first main_at end : Spot}
    {free : ℕ} (declarations : List code_decl.Decl) (main : Body)
    → old ≡ [] → from ≡ whole list → LineFound Module old a from import_at → LineFound Import a b import_at first
    → DeclarationsFound b c first main_at declarations
    → ((table : List (List ℕ)) → free ≡ 0 + decl_statements (map (decl_tree table) declarations))
    → BlockFound free c names main_at end main → end.rest ≡ [] → ProgramFound list names declarations main
program_found {old = old} {names = names} {from = from} declarations main none is heading imported decls is_free block
    ends =
    let so = over_block (over_declarations (over_import (over_heading (program_begins old from) heading) imported)
    decls) block in
    let is_block = block.is names (goes_on_itself names) in
    let trees = decls.is names (found_goes_on block) in
    let from_free = is_free names ∙ (omega arith ∙ ap decl_statements trees) in
    record {
      inside = _;
      read = all_of_text (from_all none is so) ends;
      tree_is = same_text _ _ trees (is_block.statements_are ∙ ap (λ (n : ℕ). block_in n block.inside) from_free)
          is_block.end_is;
    }

-- such a source is accepted, and these are its names and its tree
pub text_found : {list : TokenList} {names : List (List ℕ)} {declarations : List code_decl.Decl} {main : Body}
    → ProgramFound list names declarations main
    → IsTextOf list names (tree_of_parts names declarations main)
text_found found = record {
  forest = Node (One Program) found.inside Empty;
  accepted = accepted found.read.reads found.read.within;
  names_are = found.read.names_are;
  is = found.tree_is;
}

-- each of its names has the bytes of one of its tokens
pub names_found : {list : TokenList} {names : List (List ℕ)} {declarations : List code_decl.Decl} {main : Body}
    → ProgramFound list names declarations main
    → All (IsWritten list.tokens) names
names_found {list} {names} found =
    All-same (IsWritten list.tokens) names _ found.read.names_are (table_written list found.read.reads)

-- The sizes of what was read

-- the forest of a source has at most one leaf more than the source has tokens: its end
few_leaves : {list : TokenList} {names : List (List ℕ)} {inside : Forest} → TextRead list names inside
    → leaves (Node (One Program) inside Empty) ≤ length list.tokens + 1
few_leaves {list} read = omega (arith, leaves_taken read.reads, left_length (whole list))

-- a source has at most one variable more than tokens
pub variables_found : {list : TokenList} {names : List (List ℕ)} {declarations : List code_decl.Decl} {main : Body}
    → ProgramFound list names declarations main
    → all_variables (tree_of_parts names declarations main) ≤ length list.tokens + 1
variables_found found = omega (
  arith,
  ap all_variables found.tree_is,
  variables_of_text
      (Node (One Program) found.inside Empty),
  few_leaves found.read,
)

-- each body of a source has no more variables than a bound on its tokens and its end
pub bodies_found : {list : TokenList} {names : List (List ℕ)} {declarations : List code_decl.Decl} {main : Body}
    (bound : ℕ) → ProgramFound list names declarations main
    → length list.tokens + 1 ≤ bound → All (λ (n : ℕ). n ≤ bound) (body_sizes (tree_of_parts names declarations main))
bodies_found bound found within =
    let forest = Node (One Program) found.inside Empty in
    subst (λ (tree : SourceTree). All (λ (n : ℕ). n ≤ bound) (body_sizes tree)) (sym found.tree_is)
    (All-weaker (λ (n : ℕ). n ≤ leaves forest) (λ (n : ℕ). n ≤ bound)
    (λ n few. omega (arith, few, few_leaves found.read)) (body_sizes (tree_of forest)) (bodies_of_text forest))

-- each class of a source has no more fields than a bound on its tokens and its end
pub fields_found : {list : TokenList} {names : List (List ℕ)} {declarations : List code_decl.Decl} {main : Body}
    (bound : ℕ) → ProgramFound list names declarations main
    → length list.tokens + 1 ≤ bound → All (λ (n : ℕ). n ≤ bound) (class_sizes (tree_of_parts names declarations main))
fields_found bound found within =
    let forest = Node (One Program) found.inside Empty in
    subst (λ (tree : SourceTree). All (λ (n : ℕ). n ≤ bound) (class_sizes tree)) (sym found.tree_is)
    (All-weaker (λ (n : ℕ). n ≤ leaves forest) (λ (n : ℕ). n ≤ bound)
    (λ n few. omega (arith, few, few_leaves found.read)) (class_sizes (tree_of forest)) (fields_of_text forest))

-- a source has no more statements than tokens, if its declarations and its main block have no more
pub statements_found : {list : TokenList} {old a b : List (List ℕ)} {from import_at first : Spot} {free all : ℕ}
    (main_at end : Spot) (names : List (List ℕ)) (declarations : List code_decl.Decl) (main : Body) → from ≡ whole list
    → LineFound Module old a from import_at → LineFound Import a b import_at first
    → ((table : List (List ℕ)) → free ≡ 0 + decl_statements (map (decl_tree table) declarations))
    → ((table : List (List ℕ)) → all ≡ free + statement_count (statements table main.statements.items))
    → free + length main_at.rest ≤ 0 + length first.rest → all + length end.rest ≤ free + length main_at.rest
    → all_statements (tree_of_parts names declarations main) ≤ length list.tokens
statements_found main_at end names declarations main is heading imported is_free is_all few_declarations few_main =
    let tokens = ap (λ (spot : Spot). length spot.rest) is in
    omega (
      arith,
      is_free names,
      is_all names,
      few_declarations,
      few_main,
      found_shorter imported,
      found_shorter
          heading,
      tokens,
    )

-- at most `source_limit` tokens are left at a cursor
pub few_at : (cursor : Cursor) → length (spot cursor).rest ≤ source_limit
few_at cursor = omega (arith, length-drop cursor.index cursor.tokens.now.tokens, cursor.few)

-- so a list whose tokens are all left there has at most this number of tokens
pub few_tokens : (cursor : Cursor) {list : TokenList} → spot cursor ≡ whole list → length list.tokens ≤ source_limit
few_tokens cursor is = omega (arith, ap (λ (spot : Spot). length spot.rest) is, few_at cursor)
