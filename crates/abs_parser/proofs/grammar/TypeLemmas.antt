-- What the readers of types use: what a type and its arguments open to, given the next token; and the tree of a type.
use Rattle.std.proofs.Common.{◌≡◌, ℕ, ◌+◌, true, false, List, [], ◌∷◌, Some, None, refl, ap, ◌∙◌}
use Rattle.abs_lexer.specs.declared.lexeme.Punctuator.TheVariants as punctuator
use Rattle.abs_tree.specs.Syntax.{UnresolvedType, TypeTrees}
use Rattle.abs_tree.specs.SyntaxViews.{type_tree, type_trees}
use Rattle.abs_tree.proofs.SyntaxLemmas.{type_tree-unresolved}
use Rattle.std.specs.declared.alloc.Global.{Global}
use Rattle.std.specs.declared.vec.Vec.{Vec}
use Rattle.abs_tree.specs.declared.place.Place.{Place}
use Rattle.abs_tree.specs.declared.symbol.Symbol.{Symbol}
use Rattle.abs_tree.specs.Names.{name_of}
use Rattle.abs_tree.specs.declared.syntax.types.TypeTerm as code_type
use Rattle.abs_tree.specs.declared.syntax.types.TypeTerm.{TypeTerm}
use Rattle.abs_parser.specs.TokenKinds.{TokenKind, UpperName, PunctuatorKind, fits}
use Rattle.abs_parser.specs.Productions.{Type', TypeArguments, Types, begins, begins_within, chosen}
use Rattle.abs_parser.specs.Readings.{One, Optional, Terminal, Subgoal, opened}

-- a type is an upper-case name with optional arguments
pub type_opened : (depth : ℕ) (kind : TokenKind) → fits UpperName kind ≡ true
    → opened (One Type') kind depth
    ≡ Some (Terminal UpperName (depth + 1) ∷ Subgoal (Optional TypeArguments) (depth + 1) ∷ [])
unfolding begins chosen begins_within
type_opened depth kind fit = rw fit refl

-- where no upper-case name is next, no type opens
pub type_shut : (depth : ℕ) (kind : TokenKind) → fits UpperName kind ≡ false → opened (One Type') kind depth ≡ None
unfolding begins chosen begins_within
type_shut depth kind other = rw other refl

-- where "<" is next, there are arguments
pub arguments_follow : (depth : ℕ) (kind : TokenKind) → fits (PunctuatorKind punctuator.Less) kind ≡ true
    → opened (Optional TypeArguments) kind depth ≡ Some (Subgoal (One TypeArguments) depth ∷ [])
unfolding begins begins_within
arguments_follow depth kind fit = rw fit refl

-- where "<" is not next, there are no arguments
pub no_arguments : (depth : ℕ) (kind : TokenKind) → fits (PunctuatorKind punctuator.Less) kind ≡ false
    → opened (Optional TypeArguments) kind depth ≡ Some []
unfolding begins begins_within
no_arguments depth kind other = rw other refl

-- arguments are "<", types and ">"
pub arguments_opened : (depth : ℕ) (kind : TokenKind) → fits (PunctuatorKind punctuator.Less) kind ≡ true
    → opened (One TypeArguments) kind depth
    ≡ Some (Terminal (PunctuatorKind punctuator.Less) depth ∷ Subgoal (One Types) depth
    ∷ Terminal (PunctuatorKind punctuator.Greater) depth ∷ [])
unfolding begins chosen begins_within
arguments_opened depth kind fit = rw fit refl

-- the tree of a type, given the name of its symbol and the trees of its arguments
pub type_named : (names : List (List ℕ)) (place : Place) (symbol : Symbol) (arguments : Vec TypeTerm Global)
    {name : List ℕ} {trees : TypeTrees}
    → name_of names symbol ≡ name → type_trees names arguments.items ≡ trees
    → type_tree names (code_type.Unresolved place symbol arguments) ≡ UnresolvedType place name trees
type_named names place symbol arguments {trees = trees} named is =
    type_tree-unresolved names place symbol arguments
    ∙ (ap (UnresolvedType place (name_of names symbol)) is ∙ ap (λ (n : List ℕ). UnresolvedType place n trees) named)
