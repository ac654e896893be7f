-- What the local rules of frames use of one class, or of main: nothing else of the program.
--
--   `ClassAt`, `class_at`      the class with a name, with the index of its first statement
--   `point_from`               the statement with an index among those of a class, or of main
--   `used_in_class`, `used_in_main`    what the rules use of it
use Rattle.std.specs.Prelude.{ℕ, zero, suc, ◌+◌, ◌-◌, nat_le, List, [], ◌∷◌, slice_get, Option, Some, None, if◌then◌else◌, option_and_then}
use Rattle.abs_program.specs.Control.{Point, points, member_points}
use Rattle.abs_program.specs.Members.{method_among}
use Rattle.abs_program.specs.ProgramBodies.{BodyAt, member_body}
use Rattle.abs_tree.specs.Syntax.{Name, MemberTree, DeclTree, ClassTree, ProgramTree}
use Rattle.abs_tree.specs.SyntaxSizes.{decl_statements}
use Rattle.config_state.specs.Bodies.{class_index}
use Rattle.step_rules.specs.LocalRules.{Used}
use Rattle.step_rules.specs.Lookups.{taking}

-- a class: the index of its first statement, and its members
pub record ClassAt : Type 0 where
  pub index : ℕ
  pub members : List MemberTree

-- the class at an index of declarations, whose statements have indices from this one on
abbrev pub class_among : ℕ → List DeclTree → ℕ → Option ClassAt
class_among index [] class = None
class_among index (ClassTree place name params implemented members ∷ others) zero =
    Some (record { index = index; members = members })
class_among index (_ ∷ others) zero = None
class_among index (first ∷ others) (suc class) = class_among (index + decl_statements (first ∷ [])) others class

-- the class with a name of a program
abbrev pub class_at : ProgramTree → Name → Option ClassAt
class_at program name = option_and_then (class_among 0 program.source.declarations) (class_index program name)

-- the point with an index, among points of which the first has this index
abbrev pub point_from : ℕ → List Point → ℕ → Option Point
point_from first all index = if nat_le first index then slice_get all (index - first) else None

-- what the rules use where the own object has this class: the names of the program, the statements of the class with
-- the index of the first one, and the bodies of its methods
abbrev pub used_in_class : List Name → ClassAt → Used
used_in_class names class = record {
  names = names;
  points = point_from class.index (member_points class.index class.members);
  bodies = λ method arguments. option_and_then (taking arguments)
      (option_and_then (member_body class.index class.members) (method_among 0 class.members method));
}

-- what they use in main: the names, and the statements of the main block with the index of the first one. Main has no
-- object, and so no methods
abbrev pub used_in_main : List Name → BodyAt → Used
used_in_main names main = record {
  names = names;
  points = point_from main.index (points main.index main.statements None);
  bodies = λ method arguments. None;
}
