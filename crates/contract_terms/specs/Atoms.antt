-- Atoms: which of them a type lets in, and which an expression may give in a kind.
--
--   `is_admitted`              objects of a class are among those that are let in
--   `is_object_let_in`         those that are made at a place may be
--   `is_let_in`                an atom is
--   `AtomOf`, `AtomAt`         an atom of an expression, and of the one at an index
--   `held_by`                  the fact that a variable of a kind holds an atom
use Rattle.std.specs.Prelude.{◌≡◌, ℕ, Bool, true, false, List, [], ◌∷◌, Option, Some, None}
use Rattle.std.specs.List.{list_any}
use Rattle.std.specs.Str.{bytes_eq}
use Rattle.abs_tree.specs.Syntax.{Name, VariableTree, AtSlot, AtField, ExprTree, ExprTrees, DeclTree, SourceTree}
use Rattle.abs_tree.specs.declared.symbol.Symbol.{Symbol}
use Rattle.abs_types.specs.Subtyping.{implements_name}
use Rattle.abs_values.specs.References.{Reads, expr_tree_at}
use Rattle.abs_values.specs.Scopes.{InSlot, InField, InThis}
use Rattle.contract_terms.specs.Accepts.{ObjectsTree, NoObject, OfClass, Implementing, AllObjects, AcceptsTree}
use Rattle.contract_terms.specs.Made.{classes_made}
use Rattle.contract_terms.specs.declared.fact.Atom.{Atom}
use Rattle.contract_terms.specs.declared.fact.Atom.TheVariants.{Object, Future}
use Rattle.contract_terms.specs.declared.fact.Fact.{Fact}
use Rattle.contract_terms.specs.declared.fact.Fact.TheVariants.{Holds, Field}
use Rattle.name_bounding.specs.declared.kind.Kind.{Kind}
use Rattle.name_bounding.specs.declared.kind.Kind.TheVariants.{Method}
use Rattle.name_bounding.specs.declared.kind.Sign.{Sign}

-- whether the objects of the class with a name are among those that are let in
abbrev pub is_admitted : List DeclTree → ObjectsTree → Name → Bool
is_admitted declarations NoObject class = false
is_admitted declarations (OfClass own) class = bytes_eq class own
is_admitted declarations (Implementing interface) class = implements_name declarations class interface
is_admitted declarations AllObjects class = true

-- Whether an object that is made at a place may be among those that are let in: all are, or those of some class that is
-- made there.
abbrev pub is_object_let_in : SourceTree → ObjectsTree → ℕ → Bool
is_object_let_in source AllObjects place = true
is_object_let_in source objects place = list_any (is_admitted source.declarations objects) (classes_made source place)

-- whether an atom is let in
unfoldable pub is_let_in : SourceTree → AcceptsTree → Atom → Bool
is_let_in source accepts (Object sign) = is_object_let_in source accepts.objects sign.place
is_let_in source accepts (Future call kind) = accepts.futures

-- An atom of an expression in a kind, with the facts on which it rests: what a slot or a field of `this` holds that the
-- expression reads, or the sign of `this`, if that is read as a value.
pub data AtomOf (kind : Kind) (expr_tree : ExprTree) : List Fact → Atom → Type 0 where
  in_slot : (slot : ℕ) (atom : Atom) → Reads (InSlot slot) expr_tree
      → AtomOf kind expr_tree (Holds kind slot atom ∷ []) atom
  in_field : (sign : Sign) (method : Symbol) → kind ≡ Method sign method → (field : ℕ) (atom : Atom)
      → Reads (InField field) expr_tree → AtomOf kind expr_tree (Field sign field atom ∷ []) atom
  own : (sign : Sign) (method : Symbol) → kind ≡ Method sign method → Reads InThis expr_tree
      → AtomOf kind expr_tree [] (Object sign)

-- an atom of the expression at an index
pub record AtomAt (kind : Kind) (expr_trees : ExprTrees) (index : ℕ) (premises : List Fact) (atom : Atom) : Type 0 where
  pub expr_tree : ExprTree
  pub there : expr_tree_at expr_trees index ≡ Some expr_tree
  pub atom_of : AtomOf kind expr_tree premises atom

-- The fact that a variable of a kind holds an atom: a slot of its frames, or a field of the object with its sign. Main
-- has no object.
abbrev pub held_by : Kind → Option VariableTree → Atom → Option Fact
held_by kind (Some (AtSlot slot)) atom = Some (Holds kind slot atom)
held_by (Method sign method) (Some (AtField field)) atom = Some (Field sign field atom)
held_by kind _ atom = None
