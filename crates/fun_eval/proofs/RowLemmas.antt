-- The trees of a row of expressions, operators or branches from an index on: the one at the index and those after it.
use Rattle.std.proofs.Common.{◌≡◌, ℕ, ◌+◌, ◌<◌, ◌≤◌, List, ap, length, get_or, drop, drop_of_length-le}
use Rattle.std.specs.declared.alloc.Global.{Global}
use Rattle.std.specs.declared.sync.Arc.{Arc}
use Rattle.abs_program.specs.InstructionViews.{shared_expr_trees}
use Rattle.abs_tree.specs.Syntax.{Name, NoExpr, NextExpr, NoOperands, NextOperand, NoBranch, NextBranch}
use Rattle.abs_tree.specs.SyntaxViews.{expr_tree, expr_trees, operand_trees, pattern_tree, branches as branch_trees}
use Rattle.abs_tree.specs.declared.syntax.expression.Branch.{Branch}
use Rattle.abs_tree.specs.declared.syntax.expression.Expr.{Expr}
use Rattle.abs_tree.specs.declared.syntax.expression.Operand.{Operand}
use Rattle.list_facts.proofs.EntryLemmas.{drop_item}

-- the trees of the items of a row from an index on
pub exprs_at : (names : List Name) (exprs : List Expr) (index : ℕ) (item : Expr) → index < length exprs
    → item ≡ get_or exprs index item
    → expr_trees names (drop index exprs) ≡ NextExpr (expr_tree names item) (expr_trees names (drop (index + 1) exprs))
exprs_at names exprs index item there is = ap (expr_trees names) (drop_item exprs index item there is)

pub exprs_end : (names : List Name) (exprs : List Expr) (index : ℕ) → length exprs ≤ index
    → expr_trees names (drop index exprs) ≡ NoExpr
exprs_end names exprs index past = ap (expr_trees names) (drop_of_length-le exprs past)

pub operands_at : (names : List Name) (operands : List Operand) (index : ℕ) (item : Operand) → index < length operands
    → item ≡ get_or operands index item
    → operand_trees names (drop index operands)
    ≡ NextOperand item.operator (expr_tree names item.right) (operand_trees names (drop (index + 1) operands))
operands_at names operands index item there is = ap (operand_trees names) (drop_item operands index item there is)

pub operands_end : (names : List Name) (operands : List Operand) (index : ℕ) → length operands ≤ index
    → operand_trees names (drop index operands) ≡ NoOperands
operands_end names operands index past = ap (operand_trees names) (drop_of_length-le operands past)

pub branches_at : (names : List Name) (branches : List Branch) (index : ℕ) (item : Branch) → index < length branches
    → item ≡ get_or branches index item
    → branch_trees names (drop index branches)
    ≡ NextBranch (pattern_tree names item.pattern) (expr_tree names item.value)
    (branch_trees names (drop (index + 1) branches))
branches_at names branches index item there is = ap (branch_trees names) (drop_item branches index item there is)

pub branches_end : (names : List Name) (branches : List Branch) (index : ℕ) → length branches ≤ index
    → branch_trees names (drop index branches) ≡ NoBranch
branches_end names branches index past = ap (branch_trees names) (drop_of_length-le branches past)

pub shared_at : (names : List Name) (exprs : List (Arc Expr Global)) (index : ℕ) (item : Arc Expr Global)
    → index < length exprs → item ≡ get_or exprs index item
    → shared_expr_trees names (drop index exprs)
    ≡ NextExpr (expr_tree names item.value) (shared_expr_trees names (drop (index + 1) exprs))
shared_at names exprs index item there is = ap (shared_expr_trees names) (drop_item exprs index item there is)

pub shared_end : (names : List Name) (exprs : List (Arc Expr Global)) (index : ℕ) → length exprs ≤ index
    → shared_expr_trees names (drop index exprs) ≡ NoExpr
shared_end names exprs index past = ap (shared_expr_trees names) (drop_of_length-le exprs past)
