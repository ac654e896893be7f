-- What the parser of a source returns: the tree of an accepted source, or the refusal of the token at which it fails.
--
--   `IsTextOf`                                         a source is accepted, and these are its names and its tree
--   `StopsWith`                                        the parser fails with this refusal
--   `RefusesText`                                      an error of the parser has its cause
use Rattle.std.specs.Prelude.{◌≡◌, List, []}
use Rattle.abs_lexer.specs.Tokens.{TokenList}
use Rattle.abs_tree.specs.Refusals.{refusal_of}
use Rattle.abs_tree.specs.SourceErrors.{HasCause}
use Rattle.abs_tree.specs.Names.{by_first_appearance}
use Rattle.abs_tree.specs.Syntax.{Name, SourceTree}
use Rattle.abs_tree.specs.declared.refusal.Code.{Code}
use Rattle.abs_tree.specs.declared.refusal.Refusal.{Refusal}
use Rattle.abs_parser.specs.TokenKinds.{Mark, marks, place_of_mark}
use Rattle.abs_parser.specs.Readings.{Forest}
use Rattle.abs_parser.specs.ReaderAnswers.{names_before}
use Rattle.abs_parser.specs.Stops.{StopsAt, IsAccepted}
use Rattle.abs_parser.specs.TreesOf.{tree_of}
use Rattle.abs_tree.specs.declared.source_error.SourceError.{SourceError}

-- The source of these tokens is accepted, and this is its tree. These are its names, each once, in the order of first
-- appearance.
pub record IsTextOf (list : TokenList) (names : List Name) (tree : SourceTree) : Type 0 where
  pub forest : Forest
  pub accepted : IsAccepted (marks list) forest
  pub names_are : names ≡ by_first_appearance (names_before forest [])
  pub is : tree ≡ tree_of forest

-- the parser fails at a token of the source, and this is the refusal of that token
pub record StopsWith (list : TokenList) (refusal : Refusal) : Type 0 where
  pub before : List Mark
  pub mark : Mark
  pub code : Code
  pub stops : StopsAt (marks list) before mark code
  pub refusal_is : refusal ≡ refusal_of (record { code = code; place = place_of_mark mark })

-- an error has its cause: the parser fails with this refusal; out of memory needs no cause
abbrev pub RefusesText : SourceError → TokenList → Type 0
RefusesText error list = HasCause (StopsWith list) error
