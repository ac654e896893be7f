-- Programs that no source gives, and one that the profile alone refuses. Of each the tests say that it is not accepted.
-- All parts are at the start of a source.
--
--   `prelude_and`              the types of the prelude, and then other declarations
--   `shared_slot`              two locals of one body have the same slot
--   `declared_field`           the variable of a declaration is a field, in `own_method` of `own_class`
--   `own_bool`                 `Bool` is a type of the program's own, and the types of the prelude are missing
--   `second_bool`              `Bool` is declared again, after the prelude
--   `without_question`         a guard without `?`, in `unasked`
--   `without_names`            two constructors whose names the table does not have
use Rattle.std.specs.Prelude.{pos, List, [], ◌∷◌, ◌++◌, codes, false}
use Rattle.abs_tree.specs.Places.{start}
use Rattle.abs_tree.specs.Syntax.{Name, AtSlot, AtField, IntType, StringType, DataType, NoType, OperatorsOf, NumberOf, StringOf, VariableOf, ApplyOf, BuildOf, NoExpr, NextExpr, NoOperands, NextOperand, DeclaredTree, ConstructorTree, ValueOf, NextTest, NoTest, SomeSide, Statement, BlockOf, AwaitOf, PrintOf, IfOf, DeclareOf, NoElse, Statements, NoStatement, NextStatement, MemberTree, MethodTree, DeclTree, DataTree, ClassTree, SourceTree, ProgramTree}
use Rattle.abs_tree.specs.declared.syntax.expression.Operator.TheVariants as operator
use Rattle.abs_tree.specs.DeclaredNames.{declared_names}
use Rattle.abs_program.specs.PreludeTypes.{prelude_types}

abbrev declared : Name → DeclaredTree
declared name = record { place = start; name = name }

-- the types of the prelude, and then other declarations, with a main block
abbrev pub prelude_and : List DeclTree → Statements → SourceTree
prelude_and declarations main =
    record { declarations = prelude_types ++ declarations; main = main; end = start }

abbrev one_statement : Statement → Statements
one_statement statement = NextStatement statement NoStatement

-- { Int x = 1; { String y = "a"; } println(toString(x + 1)); }, where x and y are both in slot 0
abbrev pub shared_slot : SourceTree
shared_slot = prelude_and []
    (NextStatement (DeclareOf 0 start (IntType start) start (AtSlot 0)
    (SomeSide (ValueOf start (NumberOf start (pos 1)))))
    (NextStatement (BlockOf start (one_statement (DeclareOf 1 start (StringType start) start (AtSlot 0)
    (SomeSide (ValueOf start (StringOf start (codes "a")))))))
    (one_statement (PrintOf 2 start (ApplyOf start (codes "toString")
    (NextExpr (OperatorsOf start (VariableOf start (AtSlot 0))
    (NextOperand operator.Plus (NumberOf start (pos 1)) NoOperands)) NoExpr))))))

-- Unit m() { String x = "a"; }, where x is a field
abbrev pub own_method : MemberTree
own_method =
    MethodTree (record { result = DataType start (codes "Unit") NoType; name = declared (codes "m"); params = [] }) start
    (one_statement (DeclareOf 0 start (StringType start) start (AtField 0)
    (SomeSide (ValueOf start (StringOf start (codes "a"))))))

-- class C(Int f) { Unit m() { String x = "a"; } }
abbrev pub own_class : DeclTree
own_class =
    ClassTree start (declared (codes "C"))
    (record { type_of = IntType start; place = start; variable = AtField 0 } ∷ []) [] (own_method ∷ [])

abbrev pub declared_field : SourceTree
declared_field = prelude_and (own_class ∷ []) NoStatement

abbrev constructor : Name → ConstructorTree
constructor name = record { name = declared name; types = NoType }

-- data Bool = Yes;
abbrev pub yes_data : DeclTree
yes_data = DataTree start (declared (codes "Bool")) [] (constructor (codes "Yes") ∷ [])

abbrev pub own_bool : SourceTree
own_bool = record {
  declarations = yes_data ∷ [];
  main = NoStatement;
  end = start;
}

-- data Bool = Yes; { if (Yes) { } }, after the types of the prelude
abbrev pub second_bool : SourceTree
second_bool = prelude_and (yes_data ∷ [])
    (one_statement (IfOf 0 start (BuildOf start (codes "Yes") NoExpr) NoStatement NoElse))

-- { await True; }
abbrev pub unasked : SourceTree
unasked = prelude_and []
    (one_statement (AwaitOf 0 start (NextTest start (BuildOf start (codes "True") NoExpr) false NoTest)))

abbrev pub without_question : ProgramTree
without_question = record { names = declared_names unasked; source = unasked }

-- data Color = Red | Green;, with an empty table
abbrev pub without_names : ProgramTree
without_names = record {
  names = [];
  source = record {
    declarations =
        DataTree start (declared (codes "Color")) [] (constructor (codes "Red") ∷ constructor (codes "Green") ∷ [])
        ∷ [];
    main = NoStatement;
    end = start;
  };
}
