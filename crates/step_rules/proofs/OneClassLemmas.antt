-- What local rules use of a program is one class, or main.
--
--   `rule_of_used`             a local rule depends on what it uses alone
--   `class_there`              a class that is found is there
--   `point_same`               a statement of a body is the same among the points of a class, or of main
--   `class_bodies`             the methods of a class are found among its members
--   `class_point`              the next statement of a frame is one of its class
--   `rule_of_class`, `rule_of_main`    the rules of frames of a class, and of main
--   `class_in_both`, `main_in_both`    those of programs that have the same class, or the same main
use Rattle.std.proofs.Common.{◌≡◌, ◌<◌, ◌+◌, ◌-◌, ℕ, zero, suc, true, nat_le, List, [], ◌∷◌, length, slice_get, Option, Some, None, option_and_then, refl, sym, ap, ap₂, ◌∙◌, subst, arith, le-leb}
use Rattle.std.proofs.lemmas.Option.{none-some, same_Some, option_and_then_some}
use Rattle.abs_program.proofs.ProgramPointLemmas.{StandsIn, stands_whole, members_stand, points_of_body}
use Rattle.abs_program.specs.Control.{Point, points, member_points, program_points}
use Rattle.abs_program.specs.Instructions.{EffectTree, Chooses, CallsOwn, effect_of}
use Rattle.abs_program.specs.Members.{method_among, method_in, method_of}
use Rattle.abs_program.specs.ProgramBodies.{BodyAt, member_body, class_body, IsBodyOf, OfMain, IsStatementOf}
use Rattle.abs_tree.specs.Syntax.{Name, DeclTree, ClassTree, SourceTree, ProgramTree}
use Rattle.abs_tree.specs.SyntaxSizes.{statement_count, decl_statements}
use Rattle.abs_values.specs.Results.{Results, AllGive, OneFails}
use Rattle.abs_values.specs.ValueTrees.{ValueTree}
use Rattle.config_state.proofs.BodyLemmas.{body_of-found}
use Rattle.config_state.specs.Bodies.{class_index, main_at, method_in_class, method_at, body_found, body_of}
use Rattle.config_state.specs.Configurations.{ObjectState, FrameState, Configuration, object_at}
use Rattle.config_state.specs.OfProgram.{IsFrameOf}
use Rattle.step_rules.specs.LocalRules.{Used, used_of, choose_rule, push_rule, pop_rule, statement_rule, next_rule, local_rule}
use Rattle.step_rules.specs.Lookups.{successor, taking, class_of, unit_value}
use Rattle.step_rules.specs.OneClass.{ClassAt, class_among, class_at, point_from, used_in_class, used_in_main}

module _ (one other : Used) (names : one.names ≡ other.names)
    (bodies : (method : Name) (arguments : ℕ) → one.bodies method arguments ≡ other.bodies method arguments)
    (frame : FrameState) (others : List FrameState) (fields : List ValueTree) where
  -- the rule of a statement depends on the names and the methods alone
  statement_same : (point : Point) (values : List ValueTree) (effect : EffectTree)
      → statement_rule one frame others fields point values effect
      ≡ statement_rule other frame others fields point values effect
  statement_same point values Chooses = ap (λ (list : List Name).
      Some (choose_rule list (successor point.goes) frame others fields values)) names
  statement_same point values (CallsOwn method target) = ap (λ (body : Option BodyAt).
      Some (push_rule method target (successor point.goes true) frame others fields values body))
      (bodies method (length values))
  statement_same point values effect = refl

  -- so does that of what is next, besides the next statement
  next_same : (values : List ValueTree) (next : Option ℕ)
      → ((index : ℕ) → next ≡ Some index → one.points index ≡ other.points index)
      → next_rule one frame others fields values next ≡ next_rule other frame others fields values next
  next_same values None points =
      ap (λ (list : List Name). pop_rule frame others fields (unit_value list)) names
  next_same values (Some index) points = by_point (one.points index) ∙ ap (λ (found : Option Point).
      option_and_then (λ point. statement_rule other frame others fields point values (effect_of point.statement))
      found) (points index refl)
    where
      by_point : (found : Option Point) → option_and_then (λ point.
          statement_rule one frame others fields point values (effect_of point.statement)) found
          ≡ option_and_then (λ point.
          statement_rule other frame others fields point values (effect_of point.statement)) found
      by_point None = refl
      by_point (Some point) = statement_same point values (effect_of point.statement)

  -- A local rule depends on the names, the next statement of the innermost frame, and the methods alone.
  pub rule_of_used : (results : Results)
      → ((index : ℕ) → frame.next ≡ Some index → one.points index ≡ other.points index)
      → local_rule one (frame ∷ others) fields results ≡ local_rule other (frame ∷ others) fields results
  unfolding local_rule
  rule_of_used (OneFails cause) points = refl
  rule_of_used (AllGive values) points = next_same values frame.next points

-- The class at an index of declarations has these members, and its first statement this index.
record IsClassAt (start : ℕ) (declarations : List DeclTree) (index : ℕ) (class : ClassAt) : Type 0 where
  bodies : (member : ℕ) → class_body start declarations index member ≡ member_body class.index class.members member
  methods : (method : Name)
      → option_and_then (λ declaration. method_in declaration method) (slice_get declarations index)
      ≡ method_among 0 class.members method

-- A class that is found is there.
class_there : (start : ℕ) (declarations : List DeclTree) (index : ℕ) (class : ClassAt)
    → class_among start declarations index ≡ Some class → IsClassAt start declarations index class
class_there start [] index class is = absurd (none-some class is)
class_there start (ClassTree place name params implemented members ∷ others) zero class is =
    let own : ClassAt = record { index = start; members = members } in
    subst (IsClassAt start (ClassTree place name params implemented members ∷ others) zero) (same_Some own class is)
    (record { bodies = λ member. refl; methods = λ method. refl })
class_there start (ClassTree place name params implemented members ∷ others) (suc index) class is =
    let next = start + decl_statements (ClassTree place name params implemented members ∷ []) in
    let rest = class_there next others index class is in
    record { bodies = rest.bodies; methods = rest.methods }
class_there start (first ∷ others) zero class is = absurd (none-some class is)
class_there start (first ∷ others) (suc index) class is =
    let rest = class_there (start + decl_statements (first ∷ [])) others index class is in
    record { bodies = rest.bodies; methods = rest.methods }

-- A statement of a body of the program is the same among points where those of the body stand.
point_same : (source : SourceTree) (body : BodyAt) → IsBodyOf source body → (first : ℕ) (all : List Point)
    → StandsIn first all body → (index : ℕ) → IsStatementOf body index
    → slice_get (program_points source) index ≡ point_from first all index
point_same source body is first all stands index statement =
    let offset = index - body.index in
    let within : offset < statement_count body.statements =
    omega (arith, statement.after_start, statement.before_end) in
    let same : index ≡ body.index + offset = omega (arith, statement.after_start) in
    let after : nat_le first index ≡ true = le-leb first index (omega (arith, stands.begins, statement.after_start)) in
    let place : index - first ≡ stands.place + offset = omega (arith, stands.begins, statement.after_start) in
    rw after (ap (slice_get (program_points source)) same ∙ (points_of_body source body offset is within
    ∙ (sym (stands.there offset within) ∙ ap (slice_get all) (sym place))))

module _ (program : ProgramTree) (name : Name) (class : ClassAt) (class_is : class_at program name ≡ Some class) where
  -- The body of a method of a class is found among the members of the class.
  methods_same : (method : Name) → method_at program name method
      ≡ option_and_then (member_body class.index class.members) (method_among 0 class.members method)
  unfolding method_in_class method_of
  methods_same = by (class_index program name) class_is
    where
      declarations : List DeclTree
      declarations = program.source.declarations

      by : (found : Option ℕ) → option_and_then (class_among 0 declarations) found ≡ Some class → (method : Name)
          → option_and_then (λ index. method_in_class declarations index method) found
          ≡ option_and_then (member_body class.index class.members) (method_among 0 class.members method)
      by None is method = absurd (none-some class is)
      by (Some index) is method = ap (option_and_then (class_body 0 declarations index)) (there.methods method)
          ∙ by_member (method_among 0 class.members method)
        where
          there : IsClassAt 0 declarations index class
          there = class_there 0 declarations index class is

          by_member : (member : Option ℕ) → option_and_then (class_body 0 declarations index) member
              ≡ option_and_then (member_body class.index class.members) member
          by_member None = refl
          by_member (Some member) = there.bodies member

  -- So are the bodies that local rules use.
  class_bodies : (method : Name) (arguments : ℕ) → (used_of program (Some name)).bodies method arguments
      ≡ (used_in_class program.names class).bodies method arguments
  class_bodies method arguments = ap (option_and_then (taking arguments)) (methods_same method)

  module _ (config : Configuration) (frame : FrameState)
      (own : class_of (object_at config frame.object) ≡ Some name) where
    -- The body of a frame of an object of the class is that of one of its methods.
    frame_method : (body : BodyAt)
        → body_found program (object_at config frame.object) frame.object frame.method ≡ Some body
        → (method : Name) × (method_at program name method ≡ Some body)
    frame_method body = by frame.object (object_at config frame.object) refl frame.method own
      where
        by : (object : Option ℕ) (found : Option ObjectState) → object_at config object ≡ found
            → (method : Option Name) → class_of found ≡ Some name → body_found program found object method ≡ Some body
            → (method : Name) × (method_at program name method ≡ Some body)
        by None None there method class body_is = absurd (none-some name class)
        by None (Some cell) there method class body_is = absurd (none-some cell there)
        by (Some object) None there method class body_is = absurd (none-some name class)
        by (Some object) (Some cell) there None class body_is = absurd (none-some body body_is)
        by (Some object) (Some cell) there (Some method) class body_is = (
          method,
          subst (λ (one : Name). method_at program one method ≡ Some body) (same_Some cell.class name class) body_is,
        )

    -- Its next statement is one of the class.
    class_point : IsFrameOf program config frame → (index : ℕ) → frame.next ≡ Some index
        → slice_get (program_points program.source) index
        ≡ (used_in_class program.names class).points index
    class_point is index next =
        let body = is.body in
        let method = frame_method body is.body_there in
        option_and_then_some (member_body class.index class.members) (method_among 0 class.members method.0) body
        (sym (methods_same method.0) ∙ method.1) (λ member member_is found.
        point_same program.source body (body_of-found program config frame body is.body_there) class.index
        (member_points class.index class.members) (members_stand class.index class.members member body found) index
        (is.next_is index next))

    -- The rules of a frame of an object of the class use the class alone.
    pub rule_of_class : IsFrameOf program config frame → (others : List FrameState) (fields : List ValueTree)
        (results : Results) → local_rule (used_of program (Some name)) (frame ∷ others) fields results
        ≡ local_rule (used_in_class program.names class) (frame ∷ others) fields results
    rule_of_class is others fields results =
        rule_of_used (used_of program (Some name)) (used_in_class program.names class) refl class_bodies frame others
        fields results (class_point is)

-- The body of a frame without an object is main.
main_body_is : (program : ProgramTree) (config : Configuration) (frame : FrameState) (body : BodyAt)
    → frame.object ≡ None → body_of program config frame ≡ Some body → main_at program ≡ body
main_body_is program config frame body none is =
    by frame.method (subst (λ (object : Option ℕ). body_found program (object_at config object) object frame.method
    ≡ Some body) none is)
  where
    by : (method : Option Name) → body_found program None None method ≡ Some body → main_at program ≡ body
    by None found = same_Some (main_at program) body found
    by (Some method) found = absurd (none-some body found)

-- The rules of a frame without an object use main alone.
pub rule_of_main : (program : ProgramTree) (config : Configuration) (frame : FrameState) → frame.object ≡ None
    → IsFrameOf program config frame → (others : List FrameState) (fields : List ValueTree) (results : Results)
    → local_rule (used_of program None) (frame ∷ others) fields results
    ≡ local_rule (used_in_main program.names (main_at program)) (frame ∷ others) fields results
rule_of_main program config frame none is others fields results =
    rule_of_used (used_of program None) (used_in_main program.names main) refl (λ method arguments. refl) frame others
    fields results (λ index next. point_same program.source main (OfMain refl) main.index
    (points main.index main.statements None) (stands_whole main.index main.params main.statements) index
    (subst (λ (body : BodyAt). IsStatementOf body index) (sym (main_body_is program config frame is.body none
    is.body_there)) (is.next_is index next)))
  where
    main : BodyAt
    main = main_at program

module _ (one other : ProgramTree) (names : one.names ≡ other.names) (config : Configuration) (frame : FrameState)
    (is : IsFrameOf one config frame) (others : List FrameState) (fields : List ValueTree) (results : Results) where
  -- A frame of a class of one program is one of another program that has the same class, and its rule is the same.
  pub class_in_both : (name : Name) (class : ClassAt) → class_at one name ≡ Some class
      → class_at other name ≡ Some class
      → class_of (object_at config frame.object) ≡ Some name
      → local_rule (used_of one (Some name)) (frame ∷ others) fields results
      ≡ local_rule (used_of other (Some name)) (frame ∷ others) fields results
  class_in_both name class here there own =
      rule_of_class one name class here config frame own is others fields results
      ∙ (ap (λ (list : List Name). local_rule (used_in_class list class) (frame ∷ others) fields results) names
      ∙ sym (rule_of_class other name class there config frame own (record {
        body = is.body;
        body_there = by frame.object (object_at config frame.object) refl frame.method own is.body_there;
        slots_are = is.slots_are;
        next_is = is.next_is;
      }) others fields results))
    where
      by : (object : Option ℕ) (found : Option ObjectState) → object_at config object ≡ found
          → (method : Option Name) → class_of found ≡ Some name
          → body_found one found object method ≡ Some is.body → body_found other found object method ≡ Some is.body
      by None None at method named body_is = absurd (none-some name named)
      by None (Some cell) at method named body_is = absurd (none-some cell at)
      by (Some object) None at method named body_is = absurd (none-some name named)
      by (Some object) (Some cell) at None named body_is = absurd (none-some is.body body_is)
      by (Some object) (Some cell) at (Some method) named body_is =
          let same = same_Some cell.class name named in
          subst (λ (own : Name). method_at other own method ≡ Some is.body) (sym same)
          (methods_same other name class there method ∙ (sym (methods_same one name class here method)
          ∙ subst (λ (own : Name). method_at one own method ≡ Some is.body) same body_is))

  -- So is one of main where the main block is the same.
  pub main_in_both : main_at one ≡ main_at other → frame.object ≡ None
      → local_rule (used_of one None) (frame ∷ others) fields results
      ≡ local_rule (used_of other None) (frame ∷ others) fields results
  main_in_both same none =
      rule_of_main one config frame none is others fields results
      ∙ (ap₂ (λ (list : List Name) (main : BodyAt). local_rule (used_in_main list main) (frame ∷ others) fields results)
      names same ∙ sym (rule_of_main other config frame none (record {
        body = is.body;
        body_there = by frame.object none frame.method is.body_there;
        slots_are = is.slots_are;
        next_is = is.next_is;
      }) others fields results))
    where
      by : (object : Option ℕ) → object ≡ None → (method : Option Name)
          → body_found one (object_at config object) object method ≡ Some is.body
          → body_found other (object_at config object) object method ≡ Some is.body
      by None no_object None body_is = ap Some (sym same ∙ same_Some (main_at one) is.body body_is)
      by None no_object (Some method) body_is = absurd (none-some is.body body_is)
      by (Some object) no_object method body_is = absurd cc
