-- A program whose second method does not begin with index 0, for the laws on control:
--
--     class A { Unit m() { skip; } Unit k() { skip; skip; } } { skip; }
--
--   `program`                  its tree; each part is at the start of a source
--   `later_body`               the body of `k`
--   `two_skips`, `last_skip`   its statements, and those after the first
--   `skip`, `skip_to`          a `skip` with an index, also with where control goes after it
--   `all_slots`, `keeps_all`   the fact that says most, and a flow by which each `skip` keeps what is said
use Rattle.std.specs.Prelude.{ℕ, Bool, true, false, [], ◌∷◌, codes}
use Rattle.abs_program.specs.Control.{Goes, Point}
use Rattle.abs_program.specs.Flows.{Slots, Flow}
use Rattle.abs_program.specs.ProgramBodies.{BodyAt}
use Rattle.abs_tree.specs.Places.{start}
use Rattle.abs_tree.specs.Syntax.{Name, DataType, NoType, Statement, SkipOf, Statements, NoStatement, NextStatement, DeclaredTree, SignatureTree, MethodTree, ClassTree, SourceTree}

abbrev pub skip : ℕ → Statement
skip index = SkipOf index start

abbrev pub skip_to : ℕ → Goes → Point
skip_to index goes = record { statement = skip index; goes = goes }

abbrev declared : Name → DeclaredTree
declared name = record { place = start; name = name }

-- Unit N(), where N is a name
abbrev signature : Name → SignatureTree
signature name = record { result = DataType start (codes "Unit") NoType; name = declared name; params = [] }

-- the second `skip` of k, and both
abbrev pub last_skip : Statements
last_skip = NextStatement (skip 2) NoStatement

abbrev pub two_skips : Statements
two_skips = NextStatement (skip 1) last_skip

abbrev pub program : SourceTree
program = record {
  declarations = ClassTree start (declared (codes "A")) [] []
      (MethodTree (signature (codes "m")) start (NextStatement (skip 0) NoStatement)
      ∷ MethodTree (signature (codes "k")) start two_skips ∷ []) ∷ [];
  main = NextStatement (skip 3) NoStatement;
  end = start;
}

abbrev pub later_body : BodyAt
later_body = record { index = 1; params = 0; statements = two_skips }

abbrev pub all_slots : Slots
all_slots slot = true

-- a flow that says nothing after branches, at loops and after blocks
abbrev pub keeps_all : Flow
keeps_all = record {
  after = λ fact statement. fact;
  joined = λ fact first second slot. false;
  looped = λ fact body slot. false;
  closed = λ fact inside slot. false;
}
