-- The atoms that expressions give, by what contracts keep of what is read.
--
--   `FoundReads`, `reads_found`        what an expression at an index reads
--   `FoundExpr`, `expr_found`          the expression that reads what is at an index
--   `gives_atom`                       an atom of an expression by the definition is one by the contract
--   `FoundAtom`, `atom_given`          one by the contract is one by the definition
use Rattle.std.proofs.Common.{◌≡◌, ℕ, zero, suc, List, [], ◌∷◌, Contains, Some, refl, subst}
use Rattle.std.specs.Prelude.{slice_get}
use Rattle.std.proofs.lemmas.Option.{none-some, same_Some}
use Rattle.abs_tree.specs.Syntax.{ExprTree, ExprTrees, NoExpr, NextExpr}
use Rattle.abs_values.specs.References.{expr_tree_at}
use Rattle.contract_terms.specs.Atoms.{AtomOf}
use Rattle.contract_terms.specs.Atoms.AtomOf.{in_slot, in_field, own}
use Rattle.contract_terms.specs.Derived.{AllHold}
use Rattle.contract_terms.specs.Reading.{ReadsTree, IsReads, AreReads}
use Rattle.contract_terms.specs.declared.fact.Atom.{Atom}
use Rattle.contract_terms.specs.declared.fact.Fact.{Fact}
use Rattle.contract_terms.specs.declared.fact.Fact.TheVariants.{Holds, Field}
use Rattle.name_bounding.specs.declared.kind.Kind.{Kind}
use Rattle.saturation.specs.Rows.{GivesAtom}
use Rattle.saturation.specs.Rows.GivesAtom.{by_slot, by_field, by_this}

-- What the expression reads is at an index.
pub record FoundReads (all : List ReadsTree) (index : ℕ) (expr_tree : ExprTree) : Type 0 where
  pub reads : ReadsTree
  pub there : slice_get all index ≡ Some reads
  pub is : IsReads expr_tree reads

-- The expression at an index reads this.
pub record FoundExpr (expr_trees : ExprTrees) (index : ℕ) (reads : ReadsTree) : Type 0 where
  pub expr_tree : ExprTree
  pub there : expr_tree_at expr_trees index ≡ Some expr_tree
  pub is : IsReads expr_tree reads

-- What the expression at an index reads is at its index.
pub reads_found : (expr_trees : ExprTrees) (all : List ReadsTree) (index : ℕ) (expr_tree : ExprTree)
    → AreReads expr_trees all → expr_tree_at expr_trees index ≡ Some expr_tree → FoundReads all index expr_tree
reads_found NoExpr all index expr_tree are is = absurd (none-some expr_tree is)
reads_found (NextExpr first others) [] index expr_tree are is = absurd are
reads_found (NextExpr first others) (reads ∷ more) zero expr_tree are is = record {
  reads = reads;
  there = refl;
  is = subst (λ one. IsReads one reads) (same_Some first expr_tree is) are.0;
}
reads_found (NextExpr first others) (reads ∷ more) (suc index) expr_tree are is =
    let rest = reads_found others more index expr_tree are.1 is in
    record { reads = rest.reads; there = rest.there; is = rest.is }

-- What is at an index is what the expression there reads.
pub expr_found : (expr_trees : ExprTrees) (all : List ReadsTree) (index : ℕ) (reads : ReadsTree)
    → AreReads expr_trees all → slice_get all index ≡ Some reads → FoundExpr expr_trees index reads
expr_found NoExpr [] index reads are is = absurd (none-some reads is)
expr_found NoExpr (first ∷ more) index reads are is = absurd are
expr_found (NextExpr first others) [] index reads are is = absurd are
expr_found (NextExpr first others) (one ∷ more) zero reads are is = record {
  expr_tree = first;
  there = refl;
  is = subst (λ read. IsReads first read) (same_Some one reads is) are.0;
}
expr_found (NextExpr first others) (one ∷ more) (suc index) reads are is =
    let rest = expr_found others more index reads are.1 is in
    record { expr_tree = rest.expr_tree; there = rest.there; is = rest.is }

module _ (kind : Kind) (known : List Fact) (expr_tree : ExprTree) (reads : ReadsTree) (is : IsReads expr_tree reads)
  where
    -- An atom of an expression by the definition is one by the contract.
    pub gives_atom : (premises : List Fact) (atom : Atom) → AtomOf kind expr_tree premises atom
        → AllHold (Contains known) premises → GivesAtom kind reads known atom
    gives_atom _ _ (in_slot slot atom read) hold = by_slot slot atom ((is.slots slot).1 read) hold.0
    gives_atom _ _ (in_field sign method kind_is field atom read) hold =
        by_field sign method kind_is field atom ((is.fields field).1 read) hold.0
    gives_atom _ _ (own sign method kind_is read) hold = by_this sign method kind_is (is.this.1 read)

    -- Facts that are known, from which an atom comes.
    pub record FoundAtom (atom : Atom) : Type 0 where
      pub premises : List Fact
      pub atom_of : AtomOf kind expr_tree premises atom
      pub hold : AllHold (Contains known) premises

    -- One by the contract is one by the definition.
    pub atom_given : (atom : Atom) → GivesAtom kind reads known atom → FoundAtom atom
    atom_given _ (by_slot slot atom read there) = record {
      premises = Holds kind slot atom ∷ [];
      atom_of = in_slot slot atom ((is.slots slot).0 read);
      hold = (there, tt);
    }
    atom_given _ (by_field sign method kind_is field atom read there) = record {
      premises = Field sign field atom ∷ [];
      atom_of = in_field sign method kind_is field atom ((is.fields field).0 read);
      hold = (there, tt);
    }
    atom_given _ (by_this sign method kind_is read) = record {
      premises = [];
      atom_of = own sign method kind_is (is.this.0 read);
      hold = tt;
    }
