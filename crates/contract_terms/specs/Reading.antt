-- What expressions read, as contracts keep it.
--
--   `ReadsTree`            the slots and fields that are read, and whether `this` is
--   `IsReads`, `AreReads`  this is what an expression reads, and what several read
use Rattle.std.specs.Prelude.{◌≡◌, ◌↔◌, ⊤, ℕ, Bool, true, List, [], ◌∷◌, Contains}
use Rattle.std.specs.List.Sorted.{IsStrictlyIncreasing}
use Rattle.abs_tree.specs.Syntax.{ExprTree, ExprTrees, NoExpr, NextExpr}
use Rattle.abs_values.specs.References.{Reads}
use Rattle.abs_values.specs.Scopes.{InSlot, InField, InThis}

-- slots and fields that are read, and whether `this` is read as a value
pub record ReadsTree : Type 0 where
  pub slots : List ℕ
  pub fields : List ℕ
  pub this : Bool

-- This is what an expression reads: just its slots and its fields, in ascending order, so each once, and `this`.
pub record IsReads (expr_tree : ExprTree) (reads : ReadsTree) : Type 0 where
  pub slots : (slot : ℕ) → Contains reads.slots slot ↔ Reads (InSlot slot) expr_tree
  pub slots_rise : IsStrictlyIncreasing reads.slots
  pub fields : (field : ℕ) → Contains reads.fields field ↔ Reads (InField field) expr_tree
  pub fields_rise : IsStrictlyIncreasing reads.fields
  pub this : (reads.this ≡ true) ↔ Reads InThis expr_tree

-- this is what several expressions read, one by one
abbrev pub AreReads : ExprTrees → List ReadsTree → Type 0
AreReads NoExpr [] = ⊤
AreReads (NextExpr first others) (reads ∷ more) = IsReads first reads × AreReads others more
AreReads _ _ = ⊥
