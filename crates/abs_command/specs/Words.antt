-- What the words of the command line come to. Which words are of the command, and what they ask for, is in
-- `abs_options`, by the definitions of `clap`.
--
--   `Names`                    the words ask for the program in a file
--   `Makes`                    the words ask for a generated program
--   `AskFor`                   the words are of the command, and these are their options
--   `made_in`                  how many classes the generated program of an input has
use Rattle.std.specs.Prelude.{◌≡◌, ℕ, List, Option, Some, None}
use Rattle.abs_options.specs.CommandLine.{AreCommandWords, AreOptions, file_of, made_of}
use Rattle.abs_options.specs.declared.meaning.Options.{Options}
use Rattle.abs_options.specs.declared.meaning.Wanted.{Wanted}
use Rattle.abs_options.specs.declared.meaning.Wanted.TheVariants.{File, Make}

-- The words are of the command, and ask for the program in this file.
pub record Names (words : List (List ℕ)) (file : List ℕ) : Type 0 where
  pub of_command : AreCommandWords words
  pub is : file_of words ≡ Some file

-- The words are of the command, and ask for the generated program of this many classes.
pub record Makes (words : List (List ℕ)) (count : ℕ) : Type 0 where
  pub of_command : AreCommandWords words
  pub is : made_of words ≡ Some count

-- The words are of the command, and ask for this.
pub record AskFor (words : List (List ℕ)) (options : Options) : Type 0 where
  pub of_command : AreCommandWords words
  pub are : AreOptions words options

-- how many classes the generated program has, where one is analysed
abbrev pub made_in : Wanted → Option ℕ
made_in (File name) = None
made_in (Make count) = Some count
