-- The edges of the graphs of declarations lead to declarations: what a name stands for is one of them.
use Rattle.std.proofs.Common.{◌≡◌, ℕ, ◌+◌, ◌<◌, ◌≤◌, Bool, true, false, List, [], ◌∷◌, sym, ap, ◌∙◌, subst, length, map, arith}
use Rattle.std.specs.Prelude.{⊤, All, Option, Some, None, if◌then◌else◌, is_some}
use Rattle.std.specs.Str.{bytes_eq}
use Rattle.std.proofs.lemmas.List.{length-map}
use Rattle.std.proofs.lemmas.List.Elements.{All-nil, All-cons, All-append}
use Rattle.abs_graph.specs.Graphs.{Graph, HasNodes}
use Rattle.abs_program.specs.Holdings.{declaration_of, declarations_in, declarations_in_all, held_by_constructors, held_by, holdings_in, holdings}
use Rattle.abs_program.specs.NameSpaces.{NameSpaces, built_in, with_declaration, with_declarations, spaces_of}
use Rattle.abs_program.specs.Supertypes.{interface_of, interfaces_named, above, supertypes_in, supertypes}
use Rattle.abs_tree.specs.Syntax.{Name, TypeTree, UnresolvedType, IntType, StringType, FutType, DataType, InterfaceType, ParameterType, BottomType, NullType, ClassType, TypeTrees, NoType, NextType, DeclaredTree, ConstructorTree, DeclTree, DataTree, FunctionTree, InterfaceTree, ClassTree}
use Rattle.abs_program.specs.Tables.{Table, meaning_of}
use Rattle.abs_program.specs.declared.name_spaces.TypeMeaning.{TypeMeaning}
use Rattle.abs_program.specs.declared.name_spaces.TypeMeaning.TheVariants as type

-- the declaration of an interface or of data has an index below this number
abbrev Below : ℕ → TypeMeaning → Type 0
Below count (type.Interface index) = index < count
Below count (type.Data taking) = taking.declaration < count
Below count type.Int = ⊤
Below count type.String = ⊤
Below count type.Fut = ⊤

-- the same of what a name stands for, if it stands for anything
abbrev IsBelow : ℕ → Option TypeMeaning → Type 0
IsBelow count None = ⊤
IsBelow count (Some meaning) = Below count meaning

-- all declarations of a table have indices below this number
abbrev AreBelow : ℕ → Table TypeMeaning → Type 0
AreBelow count [] = ⊤
AreBelow count (one ∷ others) = Below count one.1 × AreBelow count others

-- indices are below this number
abbrev AllBelow : ℕ → List ℕ → Type 0
AllBelow count indices = All (λ (index : ℕ). index < count) indices

-- a first meaning below the number keeps the table below it
first_below : (count : ℕ) (known : Table TypeMeaning) (name : Name) (meaning : TypeMeaning) (b : Bool)
    → AreBelow count known → Below count meaning
    → AreBelow count (if b then known else (name, meaning) ∷ known)
first_below count known name meaning true are is = are
first_below count known name meaning false are is = (is, are)

-- one more declaration, whose index is below the number
declaration_below : (count index : ℕ) (known : NameSpaces) (declaration : DeclTree) → AreBelow count known.types
    → index < count → AreBelow count (with_declaration index known declaration).types
declaration_below count index known (DataTree place name type_params constructors) are there =
    first_below count known.types name.name (type.Data (record { declaration = index; arity = length type_params }))
    (is_some (meaning_of known.types name.name)) are there
declaration_below count index known (FunctionTree place result name type_params params value) are there = are
declaration_below count index known (InterfaceTree place name extended signatures) are there =
    first_below count known.types name.name (type.Interface index) (is_some (meaning_of known.types name.name)) are
    there
declaration_below count index known (ClassTree place name params implemented members) are there = are

-- more declarations, whose indices are below the number
declarations_below : (count index : ℕ) (known : NameSpaces) (declarations : List DeclTree) → AreBelow count known.types
    → index + length declarations ≤ count → AreBelow count (with_declarations index known declarations).types
declarations_below count index known [] are fits = are
declarations_below count index known (declaration ∷ others) are fits =
    declarations_below count (index + 1) (with_declaration index known declaration) others
    (declaration_below count index known declaration are (omega (arith, fits))) (omega (arith, fits))

-- the types of a source have declarations of it
spaces_below : (declarations : List DeclTree) → AreBelow (length declarations) (spaces_of declarations).types
spaces_below declarations =
    declarations_below (length declarations) 0 built_in declarations (tt, (tt, (tt, tt))) (omega arith)

-- what a name of a table below the number stands for is below it
either_below : (count : ℕ) (meaning : TypeMeaning) (rest : Option TypeMeaning) (b : Bool) → Below count meaning
    → IsBelow count rest → IsBelow count (if b then Some meaning else rest)
either_below count meaning rest true is are = is
either_below count meaning rest false is are = are

meaning_below : (count : ℕ) (known : Table TypeMeaning) (name : Name) → AreBelow count known
    → IsBelow count (meaning_of known name)
meaning_below count [] name are = tt
meaning_below count (one ∷ others) name are =
    either_below count one.1 (meaning_of others name) (bytes_eq one.0 name) are.0
    (meaning_below count others name are.1)

-- no index, and one that is below the number
none_below : (count : ℕ) → AllBelow count []
none_below count = All-nil (λ (index : ℕ). index < count)

one_below : (count index : ℕ) → index < count → AllBelow count (index ∷ [])
one_below count index is = All-cons (λ (i : ℕ). i < count) index [] is (none_below count)

-- the interface that a name stands for is below the number
interface_below : (count : ℕ) (meaning : Option TypeMeaning) → IsBelow count meaning
    → AllBelow count (interface_of meaning)
interface_below count None is = none_below count
interface_below count (Some (type.Interface index)) is = one_below count index is
interface_below count (Some (type.Data taking)) is = none_below count
interface_below count (Some type.Int) is = none_below count
interface_below count (Some type.String) is = none_below count
interface_below count (Some type.Fut) is = none_below count

-- so are the interfaces that names stand for, and those above a declaration
named_below : (count : ℕ) (spaces : NameSpaces) (names : List DeclaredTree) → AreBelow count spaces.types
    → AllBelow count (interfaces_named spaces names)
named_below count spaces [] are = none_below count
named_below count spaces (name ∷ others) are =
    All-append (λ (index : ℕ). index < count) (interface_of (meaning_of spaces.types name.name))
    (interfaces_named spaces others)
    (interface_below count (meaning_of spaces.types name.name) (meaning_below count spaces.types name.name are))
    (named_below count spaces others are)

above_below : (count : ℕ) (spaces : NameSpaces) (declaration : DeclTree) → AreBelow count spaces.types
    → AllBelow count (above spaces declaration)
above_below count spaces (InterfaceTree place name extended signatures) are = named_below count spaces extended are
above_below count spaces (ClassTree place name params implemented members) are =
    named_below count spaces implemented are
above_below count spaces (DataTree place name type_params constructors) are = none_below count
above_below count spaces (FunctionTree place result name type_params params value) are = none_below count

-- the declaration of data or of an interface that a name stands for is below the number
named_declaration_below : (count : ℕ) (meaning : Option TypeMeaning) → IsBelow count meaning
    → AllBelow count (declaration_of meaning)
named_declaration_below count None is = none_below count
named_declaration_below count (Some (type.Interface index)) is = one_below count index is
named_declaration_below count (Some (type.Data taking)) is = one_below count taking.declaration is
named_declaration_below count (Some type.Int) is = none_below count
named_declaration_below count (Some type.String) is = none_below count
named_declaration_below count (Some type.Fut) is = none_below count

mutual
  -- so are the declarations in a type
  type_below : (count : ℕ) (spaces : NameSpaces) (tree : TypeTree) → AreBelow count spaces.types
      → AllBelow count (declarations_in spaces tree)
  type_below count spaces (DataType place name arguments) are =
      All-append (λ (index : ℕ). index < count) (declaration_of (meaning_of spaces.types name))
      (declarations_in_all spaces arguments)
      (named_declaration_below count (meaning_of spaces.types name) (meaning_below count spaces.types name are))
      (types_below count spaces arguments are)
  type_below count spaces (InterfaceType place name) are =
      named_declaration_below count (meaning_of spaces.types name) (meaning_below count spaces.types name are)
  type_below count spaces (UnresolvedType place name arguments) are = none_below count
  type_below count spaces (IntType place) are = none_below count
  type_below count spaces (StringType place) are = none_below count
  type_below count spaces (FutType place value) are = none_below count
  type_below count spaces (ParameterType place parameter) are = none_below count
  type_below count spaces BottomType are = none_below count
  type_below count spaces NullType are = none_below count
  type_below count spaces (ClassType name) are = none_below count

  types_below : (count : ℕ) (spaces : NameSpaces) (trees : TypeTrees) → AreBelow count spaces.types
      → AllBelow count (declarations_in_all spaces trees)
  types_below count spaces NoType are = none_below count
  types_below count spaces (NextType first others) are =
      All-append (λ (index : ℕ). index < count) (declarations_in spaces first) (declarations_in_all spaces others)
      (type_below count spaces first are) (types_below count spaces others are)

-- so are those in constructors, and those in a declaration
constructors_below : (count : ℕ) (spaces : NameSpaces) (constructors : List ConstructorTree)
    → AreBelow count spaces.types → AllBelow count (held_by_constructors spaces constructors)
constructors_below count spaces [] are = none_below count
constructors_below count spaces (constructor ∷ others) are =
    All-append (λ (index : ℕ). index < count) (declarations_in_all spaces constructor.types)
    (held_by_constructors spaces others) (types_below count spaces constructor.types are)
    (constructors_below count spaces others are)

held_below : (count : ℕ) (spaces : NameSpaces) (declaration : DeclTree) → AreBelow count spaces.types
    → AllBelow count (held_by spaces declaration)
held_below count spaces (DataTree place name type_params constructors) are =
    constructors_below count spaces constructors are
held_below count spaces (FunctionTree place result name type_params params value) are = none_below count
held_below count spaces (InterfaceTree place name extended signatures) are = none_below count
held_below count spaces (ClassTree place name params implemented members) are = none_below count

-- all edges of the graph of an edge function below the number are below it
edges_below : (count : ℕ) (edges : DeclTree → List ℕ) (declarations : List DeclTree)
    → ((declaration : DeclTree) → AllBelow count (edges declaration)) → All (AllBelow count) (map edges declarations)
edges_below count edges [] are = All-nil (AllBelow count)
edges_below count edges (declaration ∷ others) are =
    All-cons (AllBelow count) (edges declaration) (map edges others) (are declaration)
    (edges_below count edges others are)

-- a graph with a node for each declaration, whose edges are below their number, has all nodes
edges_lead : (declarations : List DeclTree) (edges : DeclTree → List ℕ)
    → ((declaration : DeclTree) → AllBelow (length declarations) (edges declaration))
    → HasNodes (map edges declarations)
edges_lead declarations edges are =
    subst (λ (count : ℕ). All (AllBelow count) (map edges declarations)) (sym (length-map declarations edges))
    (edges_below (length declarations) edges declarations are)

-- each edge of the graph of supertypes leads to a declaration
pub supertypes_lead : (declarations : List DeclTree) → HasNodes (supertypes declarations)
supertypes_lead declarations =
    edges_lead declarations (above (spaces_of declarations))
    (λ declaration. above_below (length declarations) (spaces_of declarations) declaration (spaces_below declarations))

-- so does each edge of the graph of what declarations hold
pub holdings_lead : (declarations : List DeclTree) → HasNodes (holdings declarations)
holdings_lead declarations =
    edges_lead declarations (held_by (spaces_of declarations))
    (λ declaration. held_below (length declarations) (spaces_of declarations) declaration (spaces_below declarations))

-- a graph that was built over the name spaces of declarations is theirs, and its edges lead to them
pub supertypes_built : {spaces : NameSpaces} {graph found : Graph} (declarations : List DeclTree)
    → spaces ≡ spaces_of declarations → graph ≡ supertypes_in spaces declarations → found ≡ graph
    → found ≡ supertypes declarations
supertypes_built declarations same is taken =
    taken ∙ (is ∙ ap (λ (known : NameSpaces). supertypes_in known declarations) same)

pub supertypes_have_nodes : {spaces : NameSpaces} {graph found : Graph} (declarations : List DeclTree)
    → spaces ≡ spaces_of declarations → graph ≡ supertypes_in spaces declarations → found ≡ graph → HasNodes found
supertypes_have_nodes declarations same is taken =
    subst HasNodes (sym (supertypes_built declarations same is taken)) (supertypes_lead declarations)

pub holdings_built : {spaces : NameSpaces} {graph found : Graph} (declarations : List DeclTree)
    → spaces ≡ spaces_of declarations → graph ≡ holdings_in spaces declarations → found ≡ graph
    → found ≡ holdings declarations
holdings_built declarations same is taken =
    taken ∙ (is ∙ ap (λ (known : NameSpaces). holdings_in known declarations) same)

pub holdings_have_nodes : {spaces : NameSpaces} {graph found : Graph} (declarations : List DeclTree)
    → spaces ≡ spaces_of declarations → graph ≡ holdings_in spaces declarations → found ≡ graph → HasNodes found
holdings_have_nodes declarations same is taken =
    subst HasNodes (sym (holdings_built declarations same is taken)) (holdings_lead declarations)
