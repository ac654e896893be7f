-- The bodies of a program: each statement of a body has a point, and control stays among the statements of the body.
--
--   `method_is_body`, `body_of-found`  the body of a method is one of the program, and so is that of a frame
--   `statement_has_point`              each statement of a body has a point
--   `entry_is_statement`               a body begins with one of its statements
--   `next_is_statement`, `branch_is_statement`     where control goes from a statement of a body there is one of it
use Rattle.std.proofs.Common.{◌≡◌, ℕ, ◌+◌, ◌-◌, ◌<◌, Some, None, ◌⊎◌, ⊎_elim, arith, refl, sym, ap, ◌∙◌, subst, length}
use Rattle.std.specs.Prelude.{Option, slice_get}
use Rattle.std.proofs.lemmas.Option.{none-some, same_Some, option_and_then_some}
use Rattle.abs_program.proofs.PointLemmas.{length-points}
use Rattle.abs_program.specs.Control.{Next, ByAnswer, Point, points, program_points}
use Rattle.abs_program.specs.Members.{method_of}
use Rattle.abs_tree.specs.Syntax.{Name, ProgramTree}
use Rattle.abs_tree.specs.SyntaxSizes.{statement_count}
use Rattle.config_state.proofs.SpanLemmas.{IsInside, GoesInside, stays-at, entry_inside, points_inside}
use Rattle.abs_program.specs.ProgramBodies.{BodyAt, entry_of_body, class_body, IsBodyOf, OfMain, OfMethod, IsStatementOf}
use Rattle.abs_program.proofs.ProgramPointLemmas.{points_of_body}
use Rattle.config_state.specs.Bodies.{class_index, main_at, method_in_class, method_at, body_found, body_of}
use Rattle.config_state.specs.Configurations.{ObjectState, FrameState, Configuration, object_at}
use Rattle.config_state.specs.OfProgram.{IsFrameOf}
use Rattle.list_facts.proofs.EntryLemmas.{slice_get-there}

-- the body of the method with a name of the class with a name is one of the program
pub method_is_body : (program : ProgramTree) (class method : Name) (body : BodyAt)
    → method_at program class method ≡ Some body → IsBodyOf program.source body
unfolding method_in_class
method_is_body program class method body is =
    let declarations = program.source.declarations in
    option_and_then_some (λ (index : ℕ). method_in_class declarations index method) (class_index program class) body is
    (λ index index_is found.
    option_and_then_some (class_body 0 declarations index) (method_of declarations index method) body found
    (λ member member_is there. OfMethod index member there))

-- the body that is found for an object and a method, or for neither, is one of the program
found_is_body : (program : ProgramTree) (object : Option ObjectState) (index : Option ℕ) (method : Option Name)
    (body : BodyAt) → body_found program object index method ≡ Some body → IsBodyOf program.source body
found_is_body program None None None body is = OfMain (sym (same_Some (main_at program) body is))
found_is_body program (Some object) None None body is = OfMain (sym (same_Some (main_at program) body is))
found_is_body program None (Some index) None body is = absurd (none-some body is)
found_is_body program (Some object) (Some index) None body is = absurd (none-some body is)
found_is_body program None None (Some method) body is = absurd (none-some body is)
found_is_body program (Some object) None (Some method) body is = absurd (none-some body is)
found_is_body program None (Some index) (Some method) body is = absurd (none-some body is)
found_is_body program (Some object) (Some index) (Some method) body is =
    method_is_body program object.class method body is

-- the body that a frame executes is one of the program
pub body_of-found : (program : ProgramTree) (config : Configuration) (frame : FrameState) (body : BodyAt)
    → body_of program config frame ≡ Some body → IsBodyOf program.source body
body_of-found program config frame body is =
    found_is_body program (object_at config frame.object) frame.object frame.method body is

-- Each statement of a body has a point in the program.
pub statement_has_point : (program : ProgramTree) (body : BodyAt) (index : ℕ) → IsBodyOf program.source body
    → IsStatementOf body index → (point : Point) × (slice_get (program_points program.source) index ≡ Some point)
statement_has_point program body index is statement =
    let offset = index - body.index in
    let within : offset < statement_count body.statements =
    omega (arith, statement.after_start, statement.before_end) in
    let same : index ≡ body.index + offset = omega (arith, statement.after_start) in
    let own = slice_get-there (points body.index body.statements None) offset
    (omega (arith, within, length-points body.index body.statements None)) in (
      own.0,
      ap (slice_get (program_points program.source)) same ∙ (points_of_body program.source body offset is within ∙ own.1),
    )

-- an index within the bounds of a body is that of a statement of it
inside_is_statement : (body : BodyAt) (index : Option ℕ) (next : ℕ) → index ≡ Some next
    → IsInside body.index (body.index + statement_count body.statements) index → IsStatementOf body next
inside_is_statement body index next is inside =
    let within : IsInside body.index (body.index + statement_count body.statements) (Some next) =
    subst (IsInside body.index (body.index + statement_count body.statements)) is inside in
    record { after_start = within.0; before_end = within.1 }

-- where control is before a body, there is a statement of it, or the body has none
pub entry_is_statement : (body : BodyAt) (index : ℕ) → (entry_of_body body).first ≡ Some index
    → IsStatementOf body index
entry_is_statement body index is =
    inside_is_statement body (entry_of_body body).first index is
    (entry_inside body.index (body.index + statement_count body.statements) body.index body.statements None
    (omega arith) (omega arith) tt)

-- control stays in the body from each statement of it
statement_stays : (program : ProgramTree) (body : BodyAt) (index : ℕ) (point : Point) → IsBodyOf program.source body
    → IsStatementOf body index → slice_get (program_points program.source) index ≡ Some point
    → GoesInside body.index (body.index + statement_count body.statements) point.goes
statement_stays program body index point is statement there =
    let offset = index - body.index in
    let high = body.index + statement_count body.statements in
    let within : offset < statement_count body.statements =
    omega (arith, statement.after_start, statement.before_end) in
    let same : body.index + offset ≡ index = omega (arith, statement.after_start) in
    let own : slice_get (points body.index body.statements None) offset ≡ Some point =
    sym (points_of_body program.source body offset is within)
    ∙ (ap (slice_get (program_points program.source)) same ∙ there) in
    stays-at body.index high (points body.index body.statements None) offset point own
    (points_inside body.index high body.index body.statements None (omega arith) (omega arith) tt)

-- The statement to which control goes next is one of the same body.
pub next_is_statement : (program : ProgramTree) (body : BodyAt) (index : ℕ) (point : Point) (next : ℕ)
    → IsBodyOf program.source body → IsStatementOf body index
    → slice_get (program_points program.source) index ≡ Some point → point.goes ≡ Next (Some next)
    → IsStatementOf body next
next_is_statement program body index point next is statement there goes =
    inside_is_statement body (Some next) next refl
    (subst (GoesInside body.index (body.index + statement_count body.statements)) goes
    (statement_stays program body index point is statement there))

-- So is each one to which it goes by an answer.
pub branch_is_statement : (program : ProgramTree) (body : BodyAt) (index : ℕ) (point : Point)
    (when_true when_false : Option ℕ) (next : ℕ) → IsBodyOf program.source body → IsStatementOf body index
    → slice_get (program_points program.source) index ≡ Some point → point.goes ≡ ByAnswer when_true when_false
    → (when_true ≡ Some next) ⊎ (when_false ≡ Some next) → IsStatementOf body next
branch_is_statement program body index point when_true when_false next is statement there goes either =
    let high = body.index + statement_count body.statements in
    let stays : GoesInside body.index high (ByAnswer when_true when_false) =
    subst (GoesInside body.index high) goes (statement_stays program body index point is statement there) in
    ⊎_elim (λ taken. inside_is_statement body when_true next taken stays.0)
    (λ taken. inside_is_statement body when_false next taken stays.1) either

-- the next statement of a frame of the program has a point
pub frame_has_point : (program : ProgramTree) (config : Configuration) (frame : FrameState) (index : ℕ)
    → IsFrameOf program config frame → frame.next ≡ Some index
    → (point : Point) × (slice_get (program_points program.source) index ≡ Some point)
frame_has_point program config frame index is next =
    statement_has_point program is.body index (body_of-found program config frame is.body is.body_there)
    (is.next_is index next)
