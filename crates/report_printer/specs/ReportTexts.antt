-- The bytes of a report. Each line ends with a line feed, and places are given by the numbers of bytes before them.
--
--   `place_text`                       a line and a column
--   `cog_text`                         the name of a cog
--   `method_text`, `kind_text`         a kind of tasks
--   `is_held`, `link_words`            whether a link is held, and the words that say so
--   `wait_text`, `pair_lines`          what waits for what, and the lines of a pair
--   `steps_lines`, `chain_lines`       the lines of a circular chain
--   `numbered_lines`, `report_lines`   those of several chains, and those of a report
use Rattle.std.specs.Prelude.{ℕ, ◌+◌, nat_eq, Bool, true, false, ◌&&◌, List, [], ◌∷◌, ◌++◌, length, flat_map, codes, decimal, if◌then◌else◌}
use Rattle.std.specs.Cmp.Lexicographic.{pointwise}
use Rattle.abs_tree.specs.Names.{name_of}
use Rattle.abs_tree.specs.Syntax.{Name, ProgramTree}
use Rattle.abs_tree.specs.declared.symbol.Symbol.{Symbol}
use Rattle.contract_terms.specs.Chains.{steps_of}
use Rattle.contract_terms.specs.Made.{classes_made}
use Rattle.contract_terms.specs.declared.pair.Mode.{Mode}
use Rattle.contract_terms.specs.declared.pair.Mode.TheVariants.{Get, Await}
use Rattle.contract_terms.specs.declared.pair.Pair.{Pair}
use Rattle.name_bounding.specs.Names.{cog_of}
use Rattle.name_bounding.specs.declared.kind.Kind.{Kind}
use Rattle.name_bounding.specs.declared.kind.Kind.TheVariants.{Main, Method}
use Rattle.name_bounding.specs.declared.kind.Sign.{Sign}
use Rattle.report_printer.specs.SourceLines.{source_place, quoted_line}

-- LINE:COLUMN
unfoldable pub place_text : List ℕ → ℕ → List ℕ
place_text bytes offset =
    decimal (source_place bytes offset).line ++ (codes ":" ++ decimal (source_place bytes offset).column)

-- the first one of some names, or nothing
abbrev pub first_name : List Name → List ℕ
first_name [] = []
first_name (name ∷ names) = name

-- the places of the name of a cog, with a space between them
unfoldable pub cog_text : List ℕ → List ℕ → List ℕ
cog_text bytes [] = []
cog_text bytes (place ∷ places) =
    place_text bytes place ++ flat_map (λ other. codes " " ++ place_text bytes other) places

-- CLASS.METHOD of PLACE in [PLACES], where the class is the first one that is made at the place
unfoldable pub method_text : List ℕ → ProgramTree → Sign → Symbol → List ℕ
method_text bytes program sign method =
    first_name (classes_made program.source sign.place) ++ (codes "." ++ (name_of program.names method
    ++ (codes " of " ++ (place_text bytes sign.place ++ (codes " in [" ++ (cog_text bytes sign.cog ++ codes "]"))))))

-- a method of the objects with a sign, or `main`
unfoldable pub kind_text : List ℕ → ProgramTree → Kind → List ℕ
kind_text bytes program Main = codes "main"
kind_text bytes program (Method sign method) = method_text bytes program sign method

-- the word for how a statement waits
abbrev pub mode_word : Mode → List ℕ
mode_word Get = codes "get"
mode_word Await = codes "await"

-- whether a statement that waits is a `get`
abbrev pub is_get : Mode → Bool
is_get Get = true
is_get Await = false

-- whether a link is held: the second pair is a `get` by a kind in the cog of the first one's target
abbrev pub is_held : Pair → Pair → Bool
is_held one other = is_get other.mode && pointwise nat_eq (cog_of other.source) (cog_of one.target)

-- the words for a link from one pair to another
abbrev pub link_words : Pair → Pair → List ℕ
link_words one other = if is_held one other then codes "cog held" else codes "goes on"

-- MODE at PLACE: KIND waits for KIND, called at PLACE
unfoldable pub wait_text : List ℕ → ProgramTree → Pair → List ℕ
wait_text bytes program pair =
    mode_word pair.mode ++ (codes " at " ++ (place_text bytes pair.place
    ++ (codes ": " ++ (kind_text bytes program pair.source
    ++ (codes " waits for " ++ (kind_text bytes program pair.target
    ++ (codes ", called at " ++ place_text bytes pair.call)))))))

-- the line of a pair, with the words for its link to the next one, and the line of the source in which it waits
unfoldable pub pair_lines : List ℕ → ProgramTree → Pair → Pair → List ℕ
pair_lines bytes program pair next =
    codes "  " ++ (wait_text bytes program pair ++ (codes " (" ++ (link_words pair next
    ++ (codes ")\n    | " ++ (quoted_line bytes pair.place ++ codes "\n")))))

-- the lines of the pairs of a circular chain
unfoldable pub steps_lines : List ℕ → ProgramTree → List Pair → List ℕ
steps_lines bytes program chain = flat_map (λ step. pair_lines bytes program step.0 step.1) (steps_of chain)

-- the line of a circular chain with a number, and those of its pairs
unfoldable pub chain_lines : List ℕ → ProgramTree → ℕ → List Pair → List ℕ
chain_lines bytes program number chain =
    codes "chain " ++ (decimal number ++ (codes ": " ++ (decimal (length chain) ++ (codes " pairs\n"
    ++ steps_lines bytes program chain))))

-- the lines of circular chains, the first of which has this number
unfoldable pub numbered_lines : List ℕ → ProgramTree → ℕ → List (List Pair) → List ℕ
numbered_lines bytes program number [] = []
numbered_lines bytes program number (chain ∷ chains) =
    chain_lines bytes program number chain ++ numbered_lines bytes program (number + 1) chains

-- the lines of a report
unfoldable pub report_lines : List ℕ → ProgramTree → List (List Pair) → List ℕ
report_lines bytes program [] = codes "no circular chain\n"
report_lines bytes program (chain ∷ chains) =
    codes "circular chains: " ++ (decimal (length (chain ∷ chains))
    ++ (codes "\n" ++ numbered_lines bytes program 1 (chain ∷ chains)))
