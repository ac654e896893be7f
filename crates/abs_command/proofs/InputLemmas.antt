-- What the words ask for, by the input that their options have.
--
--   `file_asked`, `count_asked`    the input says which file, and how many classes
--   `made_asked`                   and whether the program is a generated one
--   `none_made`, `not_both`        words that ask for a file ask for no generated program
use Rattle.std.proofs.Common.{◌≡◌, ◌∙◌, ℕ, List, Option, Some, None, is_some, not, refl, sym, ap}
use Rattle.abs_options.specs.CommandLine.{AreCommandWords, IsInput, file_of, made_of}
use Rattle.abs_options.specs.CommandLine.IsInput.{file, make}
use Rattle.abs_options.specs.declared.meaning.Options.{Options}
use Rattle.abs_options.specs.declared.meaning.Wanted.{Wanted}
use Rattle.abs_options.specs.declared.meaning.Wanted.TheVariants.{File, Make}
use Rattle.abs_command.specs.Words.{AskFor, Makes, Names, made_in}

-- the input is a file: the words ask for it
file_named : (words : List (List ℕ)) (input : Wanted) (name : List ℕ) → IsInput words input → input ≡ File name
    → file_of words ≡ Some name
file_named words input name (file own is) same = is ∙ ap Some (cc)
file_named words input name (make count is) same = absurd (cc)

pub file_asked : (words : List (List ℕ)) (options : Options) (name : List ℕ) → AskFor words options
    → options.input ≡ File name → file_of words ≡ Some name
file_asked words options name asks same = file_named words options.input name asks.are.input same

-- the input is a generated program: the words ask for it
count_named : (words : List (List ℕ)) (input : Wanted) (count : ℕ) → IsInput words input → input ≡ Make count
    → made_of words ≡ Some count
count_named words input count (file own is) same = absurd (cc)
count_named words input count (make own is) same = is ∙ ap Some (cc)

pub count_asked : (words : List (List ℕ)) (options : Options) (count : ℕ) → AskFor words options
    → options.input ≡ Make count → made_of words ≡ Some count
count_asked words options count asks same = count_named words options.input count asks.are.input same

-- where one of two is there just if the other one is not, that is so of a first one that is there
none_beside : {A B : Type 0} (one : Option A) (other : Option B) (first : A) → is_some one ≡ not (is_some other)
    → one ≡ Some first → other ≡ None
none_beside one None first just is = refl
none_beside None (Some second) first just is = absurd (cc)
none_beside (Some own) (Some second) first just is = absurd (cc)

-- words that ask for a file ask for no generated program
pub none_made : (words : List (List ℕ)) (name : List ℕ) → Names words name → made_of words ≡ None
none_made words name names = none_beside (file_of words) (made_of words) name names.of_command.one_input names.is

-- no words ask for both
pub not_both : (words : List (List ℕ)) (name : List ℕ) (count : ℕ) → Names words name → Makes words count → ⊥
not_both words name count names makes =
    let none = none_made words name names in
    let some = makes.is in
    let both : None ≡ Some count = sym none ∙ some in cc

-- the input says whether the program is a generated one, and of how many classes
made_named : (words : List (List ℕ)) (input : Wanted) → AreCommandWords words → IsInput words input
    → made_in input ≡ made_of words
made_named words (File name) of_command (file own is) =
    sym (none_beside (file_of words) (made_of words) name of_command.one_input is)
made_named words (Make count) of_command (make own is) = sym is

pub made_asked : (words : List (List ℕ)) (options : Options) → AskFor words options
    → made_in options.input ≡ made_of words
made_asked words options asks = made_named words options.input asks.of_command asks.are.input
