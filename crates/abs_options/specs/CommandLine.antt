-- The command line: which words are of the command, and what they ask for. `clap`'s own definitions decide both, over the
-- command that is written here.
--
--   `spelled`                       the bytes of each word
--   `command_line`                  the command: its flags, its options with their ranges, and its file
--   `AreMatchesOf`                  what a parse found is what the words give
--   `asks_check`, `asks_trace`, `workers_of`, `depth_of`, `steps_of`, `facts_of`, `file_of`, `made_of`
--                                   what the words ask for, option by option
--   `AreCommandWords`               the words are of the command
--   `AreOptions`                    what the words ask for, in whole
--   `AreInRange`                    its numbers are in the ranges of the options
use Rattle.std.specs.Prelude.{◌≡◌, ◌≤◌, ℕ, Bool, true, not, List, [], ◌∷◌, map, Option, Some, is_some, option_map, unwrap_or, codes, string_bytes}
use Rattle.std.specs.Str.{bytes_eq}
use Rattle.std.specs.Str.Parse.{digits_value, without_leading_plus}
use Rattle.std.specs.declared.alloc.Global.{Global}
use Rattle.std.specs.declared.string.String.{String}
use Rattle.std.specs.declared.vec.Vec.{Vec}
use Rattle.clap.specs.Faults.{fault_of}
use Rattle.clap.specs.Simple.{App, built, filled, matches_of, new_app, new_rule, on_top}
use Rattle.clap.specs.Matches.{found_of}
use Rattle.clap.specs.Walk.{Rule, arg_by_id, first_of, rows_of}
use Rattle.clap.specs.declared.builder.action.ArgAction.TheVariants.{SetTrue}
use Rattle.clap.specs.declared.builder.value_parser.ValueParser.TheVariants.{Unsigned}
use Rattle.clap.specs.declared.parser.matches.ArgMatches.{ArgMatches}
use Rattle.abs_tree.specs.Limits.{event_limit}
use Rattle.abs_options.specs.declared.meaning.Options.{Options}
use Rattle.abs_options.specs.declared.meaning.Wanted.{Wanted}
use Rattle.abs_options.specs.declared.meaning.Wanted.TheVariants.{File, Make}

-- the bytes of each word
abbrev pub spelled : Vec (String Global) Global → List (List ℕ)
spelled words = map string_bytes words.items

-- `--NAME`
abbrev pub flag_rule : List ℕ → Rule
flag_rule name = record (new_rule name) { long = Some name; action = Some SetTrue }

-- `--NAME N`, where N is 1 or more, and at most this
abbrev pub number_rule : List ℕ → ℕ → Rule
number_rule name most = record (new_rule name) { long = Some name; parser = Some (Unsigned 1 most) }

-- the flags, the options and the file, in the order in which the command has them
abbrev pub rules : List Rule
rules = flag_rule (codes "check") ∷ flag_rule (codes "trace")
    ∷ number_rule (codes "workers") 16 ∷ number_rule (codes "depth") 3
    ∷ number_rule (codes "steps") 10000000 ∷ number_rule (codes "facts") 4000000
    ∷ number_rule (codes "make") 2000 ∷ new_rule (codes "file") ∷ []

-- the command, without the flags that `clap` adds by itself
abbrev pub command_line : App
command_line = on_top (λ s. record s { rules = rules; disable_help_flag = true; disable_version_flag = true })
    (new_app (codes "abs"))

-- the text that the words give for a flag, an option or the file
abbrev pub given : List ℕ → List (List ℕ) → Option (List ℕ)
given name words = first_of name (matches_of command_line words)

-- whether the words have a flag
abbrev pub has_flag : List ℕ → List (List ℕ) → Bool
has_flag name words = bytes_eq (unwrap_or (given name words) []) (codes "true")

-- the number that the words give for an option
abbrev pub number_of : List ℕ → List (List ℕ) → Option ℕ
number_of name words = option_map (λ text. digits_value 10 (without_leading_plus text)) (given name words)

-- to analyse alone, and not to run
unfoldable pub asks_check : List (List ℕ) → Bool
asks_check words = has_flag (codes "check") words

-- to print the history of the run
unfoldable pub asks_trace : List (List ℕ) → Bool
asks_trace words = has_flag (codes "trace") words

-- how many workers evaluate
unfoldable pub workers_of : List (List ℕ) → ℕ
workers_of words = unwrap_or (number_of (codes "workers") words) 4

-- how many places the name of a cog keeps
unfoldable pub depth_of : List (List ℕ) → ℕ
depth_of words = unwrap_or (number_of (codes "depth") words) 1

-- how many events a run may have
unfoldable pub steps_of : List (List ℕ) → ℕ
steps_of words = unwrap_or (number_of (codes "steps") words) event_limit

-- how many facts may be derived
unfoldable pub facts_of : List (List ℕ) → ℕ
facts_of words = unwrap_or (number_of (codes "facts") words) 1000000

-- the file that is read
unfoldable pub file_of : List (List ℕ) → Option (List ℕ)
file_of words = given (codes "file") words

-- how many classes the generated program has
unfoldable pub made_of : List (List ℕ) → Option ℕ
made_of words = number_of (codes "make") words

-- The words are of the command: `clap` finds no fault in them, and they ask for a file or for a generated program, and
-- not for both.
pub record AreCommandWords (words : List (List ℕ)) : Type 0 where
  pub faultless : fault_of command_line words ≡ []
  pub one_input : is_some (file_of words) ≡ not (is_some (made_of words))

-- the rules of the command as `clap` builds it
abbrev pub built_rules : List Rule
built_rules = (built command_line).top.rules

-- the command has the flag `--NAME`
abbrev pub IsFlag : List ℕ → Type 0
IsFlag name = arg_by_id built_rules name ≡ Some (filled (flag_rule name))

-- the command has the option `--NAME N`, with this range
abbrev pub IsNumberOption : List ℕ → ℕ → Type 0
IsNumberOption name most = arg_by_id built_rules name ≡ Some (filled (number_rule name most))

-- The matches are those of the words, in which `clap` finds no fault.
pub record AreMatchesOf (words : List (List ℕ)) (matches : ArgMatches) : Type 0 where
  pub faultless : fault_of command_line words ≡ []
  pub rows : rows_of (found_of matches) ≡ matches_of command_line words

-- What is analysed: the file of this name, or the generated program of this many classes.
pub data IsInput (words : List (List ℕ)) : Wanted → Type 0 where
  file : (name : List ℕ) → file_of words ≡ Some name → IsInput words (File name)
  make : (count : ℕ) → made_of words ≡ Some count → IsInput words (Make count)

-- What the words ask for. What they do not give has its default.
pub record AreOptions (words : List (List ℕ)) (options : Options) : Type 0 where
  pub check : options.check ≡ asks_check words
  pub trace : options.trace ≡ asks_trace words
  pub workers : options.workers ≡ workers_of words
  pub depth : options.depth ≡ depth_of words
  pub steps : options.steps ≡ steps_of words
  pub facts : options.facts ≡ facts_of words
  pub input : IsInput words options.input

-- Each number is in the range of its option.
pub record AreInRange (options : Options) : Type 0 where
  pub workers : (1 ≤ options.workers) × (options.workers ≤ 16)
  pub depth : (1 ≤ options.depth) × (options.depth ≤ 3)
  pub steps : (1 ≤ options.steps) × (options.steps ≤ 10000000)
  pub facts : (1 ≤ options.facts) × (options.facts ≤ 4000000)
  pub make : (count : ℕ) → options.input ≡ Make count → (1 ≤ count) × (count ≤ 2000)
