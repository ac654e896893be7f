use Rattle.std.proofs.Common.{◌≡◌, ◌+◌, ◌≤◌, List, length, map}
use Rattle.abs_tree.specs.Syntax.{Name}
use Rattle.abs_tree.specs.SyntaxSizes.{member_statements}
use Rattle.abs_tree.specs.SyntaxViews.{member_tree}
use Rattle.abs_parser.specs.Views.{spot}
use Rattle.abs_parser.proofs.reader.ClassSteps.{members_of, class_of}
use Rattle.abs_parser.proofs.reader.DeclarationSteps.{ReadsParts}
use Rattle.abs_parser.proofs.classes.class.Given as goal

-- what was read so far, the free index, and that no more indices were taken than tokens
abbrev pub invariant-loop-alloc : goal.invariant-loop-alloc
invariant-loop-alloc l = record {
  read : ReadsParts members_of (λ at. at ≡ l.index)
      (class_of l.token.place l.declared l.params.items l.implemented.items) 0 l.fn.symbols l.symbols (spot l.from)
      (spot l.here) l.members.items;
  free : (names : List Name) → l.free ≡ l.index + member_statements (map (member_tree names) l.members.items);
  few : l.free + length (spot l.here).rest ≤ l.index + length (spot l.from).rest;
}

abbrev pub decreases-loop-alloc : goal.decreases-loop-alloc
decreases-loop-alloc l = length (spot l.here).rest
