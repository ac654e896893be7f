-- The steps of the parsing functions of parameters. A parameter is a type and a name. The lemmas also say which
-- nonterminals are lists of parameters, and lists of types, in parentheses.
use Rattle.std.proofs.Common.{◌≡◌, ◌≤◌, ℕ, true, false, List, [], ◌∷◌, map, Some, None, refl, ap, ◌∙◌}
use Rattle.std.proofs.Math.Path.{fun_ext}
use Rattle.abs_lexer.specs.declared.lexeme.Lexeme.TheVariants as lexeme
use Rattle.abs_lexer.specs.declared.lexeme.Punctuator.TheVariants as punctuator
use Rattle.abs_lexer.specs.Tokens.{Lexed}
use Rattle.abs_tree.specs.Names.{with_name, number_of_name}
use Rattle.abs_tree.specs.Syntax.{Name, Unresolved, ParamTree, TypeTree}
use Rattle.abs_tree.specs.SyntaxViews.{type_tree, param_tree}
use Rattle.abs_tree.specs.declared.place.Place.{Place}
use Rattle.abs_tree.specs.declared.syntax.variable.Variable.TheVariants as variable
use Rattle.abs_tree.specs.declared.symbol.Symbol as code_symbol
use Rattle.abs_tree.specs.declared.syntax.declaration.Param as code_param
use Rattle.abs_tree.specs.declared.syntax.types.TypeTerm.{TypeTerm}
use Rattle.abs_parser.specs.TokenKinds.{TokenKind, LowerName, UpperName, PunctuatorKind, fits}
use Rattle.abs_parser.specs.Productions.{Param, Params, CommaParam, ClassParameters, ConstructorTypes, Type', begins, begins_within}
use Rattle.abs_parser.specs.Readings.{One, Terminal, Subgoal, opened, Forest, Node}
use Rattle.abs_parser.specs.ReaderAnswers.{TakesKind, FoundAs, IsRefused}
use Rattle.abs_parser.specs.Stops.{limit}
use Rattle.abs_parser.specs.Tokens.{Spot}
use Rattle.abs_parser.specs.TreesOf.{type_in, param_in, params_in, more_params}
use Rattle.abs_tree.specs.declared.source_error.SourceError.{SourceError}
use Rattle.abs_parser.proofs.reader.ExpressionSteps.{goes_on_name}
use Rattle.abs_parser.proofs.reader.InFrontSteps.{refused_in_front}
use Rattle.abs_parser.proofs.reader.ListLemmas.{list_of_types}
use Rattle.abs_parser.proofs.reader.ListSteps.{SeparatedList, ListTrees, InParentheses}
use Rattle.abs_parser.proofs.grammar.NameLemmas.{goes_on_further}
use Rattle.abs_parser.proofs.reader.FoundLemmas.{found_weaker, symbol_kept}
use Rattle.abs_parser.proofs.reader.StepLemmas.{HasRead, opens, over_name, over_part, all_read}
use Rattle.abs_parser.proofs.grammar.NonterminalLemmas.{begins_with_token, begins_with_part, part_begun, part_opened, part_shut}

-- One parameter

-- where a type may begin, a parameter opens to it and a name
param_opened : (kind : TokenKind) (depth : ℕ) → begins Type' kind ≡ true
    → opened (One Param) kind depth ≡ Some (Subgoal (One Type') depth ∷ Terminal LowerName depth ∷ [])
param_opened kind depth may = part_opened Param kind depth refl refl (begins_with_part Param kind refl ∙ may)

-- where no type may begin, no parameter opens
param_shut : (kind : TokenKind) (depth : ℕ) → begins Type' kind ≡ false → opened (One Param) kind depth ≡ None
param_shut kind depth none = part_shut Param kind depth (begins_with_part Param kind refl ∙ none)

-- what refuses the type of a parameter refuses the parameter
pub refused_param : (depth : ℕ) (from : Spot) (error : SourceError) → IsRefused (Subgoal (One Type') depth) from error
    → IsRefused (Subgoal (One Param) depth) from error
refused_param depth from error refused =
    refused_in_front Type' depth (One Param) depth from error (param_opened _ depth) (param_shut _ depth) refused

-- the type of a parameter was read
pub param_typed : {depth : ℕ} {old now : List (List ℕ)} {from name_at : Spot}
    {is_read : List (List ℕ) → Forest → Type 0} → (type : FoundAs (One Type') depth old now from name_at is_read)
    → HasRead (One Param) depth old now from (λ rest. Node (One Type') type.inside rest) (Terminal LowerName depth ∷ [])
    name_at
param_typed {depth} {old} {from = from} type =
    over_part (opens (One Param) depth old from _ (param_opened _ depth (part_begun Type' _ depth type.rule_is))) type

-- the trees of two parameters with equal types and names are equal, whatever follows them
param_kept : {held_type type : TypeTree} {held_name name : Name} (place : Place) (others : List ParamTree)
    → held_type ≡ type → held_name ≡ name
    → record { type_of = held_type; place = place; variable = Unresolved held_name } ∷ others
    ≡ record { type_of = type; place = place; variable = Unresolved name } ∷ others
param_kept {held_type} {name = name} place others type_is name_is =
    let tree : TypeTree → Name → List ParamTree =
    λ type name. record { type_of = type; place = place; variable = Unresolved name } ∷ others in
    ap (tree held_type) name_is ∙ ap (λ (type : TypeTree). tree type name) type_is

-- a parameter is found with its type and its name
pub param_found : {name : Lexed} {depth : ℕ} {old now table : List (List ℕ)} {from name_at end : Spot}
    (type_of : TypeTerm) (symbol : code_symbol.Symbol)
    → FoundAs (One Type') depth old now from name_at (λ names inside. type_tree names type_of ≡ type_in inside)
    → TakesKind lexeme.LowerName name name_at end → symbol.0 ≡ number_of_name now name.bytes
    → table ≡ with_name now name.bytes → depth ≤ limit
    → FoundAs (One Param) depth old table from end
    (λ names inside. (others : List ParamTree)
    → param_tree names (record { type_of = type_of; place = name.place; variable = variable.Unresolved symbol })
    ∷ others ≡ param_in inside others)
param_found {name} {now = now} type_of symbol type takes number is within =
    all_read (over_name (param_typed type) takes refl refl within is) (λ names more others.
    param_kept name.place others (type.is names (goes_on_further (goes_on_name now name.bytes is) more))
    (symbol_kept now symbol number is names more))

-- Parameters

-- parameters are a list
abbrev pub list_of_params : SeparatedList
list_of_params = record {
  separator = punctuator.Comma;
  list = Params;
  one = Param;
  next = CommaParam;
  list_is = refl;
  list_counts = refl;
  next_is = refl;
  next_counts = refl;
}

-- the trees of a list of parameters; the tree of one is put before others, as in what was read
abbrev pub trees_of_params : ListTrees code_param.Param (List ParamTree → List ParamTree) (List ParamTree)
trees_of_params = record {
  tree = λ names param others. param_tree names param ∷ others;
  trees = λ names params. map (param_tree names) params;
  none = [];
  more = λ first others. first others;
  trees_none = λ names. refl;
  trees_more = λ names first others. refl;
  one_in = param_in;
  list_in = params_in;
  others_in = more_params;
  list_is = λ one after first others. refl;
  others_none = refl;
  others_more = λ next one after mark depth first others. refl;
}

-- parameters begin with an upper-case name
pub params_begin : (kind : TokenKind) → begins Params kind ≡ fits UpperName kind
params_begin kind = begins_with_part Params kind refl
    ∙ (begins_with_part Param kind refl ∙ begins_with_token Type' kind refl)

-- a parameter that is found before any others is found as an element of the list
pub param_in_front : {depth : ℕ} {old new : List (List ℕ)} {from to : Spot} (param : code_param.Param)
    → FoundAs (One Param) depth old new from to
    (λ names inside. (others : List ParamTree) → param_tree names param ∷ others ≡ param_in inside others)
    → FoundAs (One Param) depth old new from to
    (λ names inside. trees_of_params.tree names param ≡ trees_of_params.one_in inside)
param_in_front param found = found_weaker found (λ names more is. fun_ext is)

-- In parentheses

-- no parameter begins with a closing parenthesis
pub no_param_closes : begins Param (PunctuatorKind punctuator.CloseParen) ≡ false
unfolding begins begins_within
no_param_closes = refl

-- the parameters of a class are parameters in parentheses
abbrev pub class_parameters : InParentheses list_of_params
class_parameters = record {
  nonterminal = ClassParameters;
  nonterminal_is = refl;
  nonterminal_counts =
      refl;
  none_closes = no_param_closes;
}

-- no type begins with a closing parenthesis
pub no_type_closes : begins Type' (PunctuatorKind punctuator.CloseParen) ≡ false
unfolding begins begins_within
no_type_closes = refl

-- the types of a constructor are types in parentheses
abbrev pub constructor_types : InParentheses list_of_types
constructor_types = record {
  nonterminal = ConstructorTypes;
  nonterminal_is = refl;
  nonterminal_counts =
      refl;
  none_closes = no_type_closes;
}
