-- Facts at the statements of a whole program, in the order of their indices. What holds before each body is given by how
-- many parameters the body has.
--
--   `member_facts`, `decl_facts`       the facts in the methods of a class, and of declarations
--   `program_facts`                    those of a program
use Rattle.std.specs.Prelude.{ℕ, List, [], ◌∷◌, ◌++◌, length}
use Rattle.abs_program.specs.Flows.{Slots, Flow, facts}
use Rattle.abs_tree.specs.Syntax.{MemberTree, FieldTree, MethodTree, DeclTree, ClassTree, SourceTree}

abbrev pub member_facts : Flow → (ℕ → Slots) → List MemberTree → List Slots
member_facts flow before [] = []
member_facts flow before (FieldTree type name initial ∷ others) = member_facts flow before others
member_facts flow before (MethodTree signature end body ∷ others) =
    facts flow (before (length signature.params)) body ++ member_facts flow before others

abbrev pub decl_facts : Flow → (ℕ → Slots) → List DeclTree → List Slots
decl_facts flow before [] = []
decl_facts flow before (ClassTree place name params implemented members ∷ others) =
    member_facts flow before members ++ decl_facts flow before others
decl_facts flow before (_ ∷ others) = decl_facts flow before others

unfoldable pub program_facts : Flow → (ℕ → Slots) → SourceTree → List Slots
program_facts flow before program =
    decl_facts flow before program.declarations ++ facts flow (before 0) program.main
