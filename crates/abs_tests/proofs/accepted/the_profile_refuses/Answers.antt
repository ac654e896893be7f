use Rattle.std.proofs.Common.{◌≡◌, ℕ, ◌<◌, [], Bool, false, List, refl, ap, arith, length}
use Rattle.std.specs.List.{AllByRecursion}
use Rattle.std.proofs.lemmas.List.Elements.{All-contains_itself, All-from_recursion}
use Rattle.abs_tree.specs.DeclaredNames.{declared_names}
use Rattle.abs_program.specs.NameSpaces.{NameSpaces, spaces_of}
use Rattle.abs_program.specs.OwnSlots.{DeclarationHasOwnSlots}
use Rattle.abs_program.specs.Whole.{ConstructorsAreThere, DeclarationIsThere, TypesAreThere, inside_types}
use Rattle.abs_tree.specs.Syntax.{ConstructorTree, DeclTree, DataTree}
use Rattle.abs_tests.specs.AcceptedExamples.{unasked}
use Rattle.abs_prelude.specs.Prelude.{unit_data, bool_data}
use Rattle.abs_graph.specs.Graphs.{on_cycles, reaches_within}
use Rattle.abs_program.specs.PreludeTypes.{resolved_list, resolved_maybe, resolved_pair, prelude_types}
use Rattle.abs_program.specs.Supertypes.{is_below, supertypes}
use Rattle.abs_types.specs.Applications.{applied_type, meet, replaced}
use Rattle.abs_types.specs.Joins.{join_of}
use Rattle.abs_types.specs.Methods.{call_type, has_method, inherited_signatures, signatures_of_type}
use Rattle.abs_types.specs.OperatorTypes.{operator_type, prefix_type}
use Rattle.abs_types.specs.PatternTypes.{constructor_parts}
use Rattle.abs_types.specs.Schemes.{scheme_of_constructor, scheme_of_function}
use Rattle.abs_types.specs.Subtyping.{fits}
use Rattle.abs_types.specs.TypeOffences.{class_offences, function_offences, interface_offences, main_offences, type_offences}
use Rattle.abs_tests.proofs.accepted.the_profile_refuses.Goals as goal

-- the constructors that a declaration makes
abbrev made : DeclTree → List ConstructorTree
made (DataTree place name type_params constructors) = constructors
made _ = []

-- their types are there, if those of each are
there : (spaces : NameSpaces) (type_params : ℕ) (constructors : List ConstructorTree)
    → AllByRecursion (λ (one : ConstructorTree). TypesAreThere (inside_types spaces type_params) one.types) constructors
    → ConstructorsAreThere (inside_types spaces type_params) constructors
there spaces type_params constructors each =
    All-from_recursion (λ (one : ConstructorTree). TypesAreThere (inside_types spaces type_params) one.types) constructors
    each

pub returns-clause-whole : goal.returns-clause-whole
unfolding prelude_types reaches_within
returns-clause-whole c =
    let spaces = spaces_of unasked.declarations in
    let first : 0 < 1 = omega arith in
    let left : 0 < 2 = omega arith in
    let right : 1 < 2 = omega arith in
    record {
      declarations_are = All-from_recursion (DeclarationIsThere spaces) unasked.declarations (
        there spaces 0 (made unit_data) (tt, tt),
        (
          there spaces 0 (made bool_data) (tt, (tt, tt)),
          (
            there spaces 1 (made resolved_list) (tt, ((first, ((refl, (first, tt)), tt)), tt)),
            (
              there spaces 1 (made resolved_maybe) (tt, ((first, tt), tt)),
              (there spaces 2 (made resolved_pair) ((left, (right, tt)), tt), tt),
            ),
          ),
        ),
      );
      main_is = (((refl, tt), tt), tt);
      no_cycle = All-from_recursion (λ (b : Bool). b ≡ false) (on_cycles (supertypes unasked.declarations))
          (refl, (refl, (refl, (refl, (refl, tt)))));
      own_slots = record {
        declarations = All-from_recursion DeclarationHasOwnSlots unasked.declarations (tt, (tt, (tt, (tt, (tt, tt)))));
        main = record { in_order = refl };
      };
      prelude_first = record { others = []; are = refl };
      types_once = (refl, (refl, (refl, (refl, (refl, tt)))));
    }

pub returns-clause-known : goal.returns-clause-known
returns-clause-known c = record { known = All-contains_itself (declared_names unasked) }

pub returns-clause-typed : goal.returns-clause-typed
unfolding prelude_types class_offences function_offences interface_offences main_offences type_offences inherited_signatures is_below reaches_within fits call_type signatures_of_type scheme_of_function scheme_of_constructor applied_type meet replaced join_of operator_type prefix_type constructor_parts has_method
returns-clause-typed c = refl

pub returns-clause-offends : goal.returns-clause-offends
unfolding prelude_types
returns-clause-offends c = refl

pub returns-clause-not_accepted : goal.returns-clause-not_accepted
unfolding prelude_types
returns-clause-not_accepted c = λ accepted. let none = ap length accepted.in_profile in omega (arith, none)
