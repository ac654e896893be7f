-- The law of the grammar: a source is accepted, or the parser fails in it, and never both. It is accepted with exactly
-- one reading and one tree, or the parser fails at exactly one token with one code.
--
--   `IsTreeOf`                                         a tree of a list of tokens
--   `Outcome`                                          one reading and one tree, or one token at which the parser fails
--   `EachTextStopsOrIsAccepted`                        the law
use Rattle.std.specs.Prelude.{◌≡◌, List}
use Rattle.abs_tree.specs.declared.refusal.Code.{Code}
use Rattle.abs_lexer.specs.Tokens.{TokenList}
use Rattle.abs_parser.specs.TokenKinds.{Mark, marks}
use Rattle.abs_parser.specs.Readings.{Forest, IsProgram}
use Rattle.abs_parser.specs.Stops.{StopsAt, IsAccepted}
use Rattle.abs_parser.specs.TreesOf.{tree_of}
use Rattle.abs_tree.specs.Syntax.{SourceTree}

-- the tree is that of a reading of the list of tokens
pub record IsTreeOf (ts : List Mark) (tree : SourceTree) : Type 0 where
  pub forest : Forest
  pub reads : IsProgram ts forest
  pub is : tree ≡ tree_of forest

pub data Outcome (ts : List Mark) : Type 0 where
  accepts : (forest : Forest) → IsAccepted ts forest → ((other : Forest) → IsProgram ts other → other ≡ forest)
      → ((tree : SourceTree) → IsTreeOf ts tree → tree ≡ tree_of forest) → Outcome ts
  stops : (before : List Mark) (mark : Mark) (code : Code) → StopsAt ts before mark code
      → ((front : List Mark) (other : Mark) (by : Code) → StopsAt ts front other by
      → (front ≡ before) × (other ≡ mark) × (by ≡ code))
      → ((forest : Forest) → IsAccepted ts forest → ⊥) → Outcome ts

abbrev pub EachTextStopsOrIsAccepted : Type 0
EachTextStopsOrIsAccepted = (list : TokenList) → Outcome (marks list)
