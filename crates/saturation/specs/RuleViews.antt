-- What the rules know, without their memory. It serves proofs only.
--
--   `names_of`, `program_of`, `terms_of`       the names, the program and the contracts
--   `instruction_of`, `term_of`, `accepts_of`, `reads_of`, `target_in`     parts of them with names written out
use Rattle.std.specs.Prelude.{List, Option, option_map}
use Rattle.abs_program.specs.InstructionViews.{instruction_tree}
use Rattle.abs_program.specs.Instructions.{InstructionTree}
use Rattle.abs_program.specs.NamedViews.{program_tree}
use Rattle.abs_program.specs.declared.tables.control.Instruction.{Instruction}
use Rattle.abs_tree.specs.Syntax.{Name, ProgramTree, VariableTree}
use Rattle.abs_tree.specs.SyntaxViews.{variable_tree}
use Rattle.abs_tree.specs.declared.syntax.variable.Variable.{Variable}
use Rattle.contract_terms.specs.Accepts.{AcceptsTree}
use Rattle.contract_terms.specs.Terms.{TermTree}
use Rattle.contract_terms.specs.Views.{accepts_tree, term_tree}
use Rattle.contract_terms.specs.declared.accepts.Accepts.{Accepts}
use Rattle.contract_terms.specs.declared.term.Term.{Term}
use Rattle.contract_terms.specs.declared.terms.Terms.{Terms}
use Rattle.saturation.specs.declared.rules.Rules.{Rules}

-- the names of the program
abbrev pub names_of : Rules → List Name
names_of rules = rules.program.now.symbols

-- the program
abbrev pub program_of : Rules → ProgramTree
program_of rules = program_tree rules.program.now

-- its contracts
abbrev pub terms_of : Rules → Terms
terms_of rules = rules.terms.now

-- an instruction
abbrev pub instruction_of : Rules → Instruction → InstructionTree
instruction_of rules instruction = instruction_tree (names_of rules) instruction

-- a contract term
abbrev pub term_of : Rules → Term → TermTree
term_of rules term = term_tree (names_of rules) term

-- what a type lets in
abbrev pub accepts_of : Rules → Accepts → AcceptsTree
accepts_of rules accepts = accepts_tree (names_of rules) accepts

-- a target
abbrev pub target_in : List Name → Option Variable → Option VariableTree
target_in names target = option_map (variable_tree names) target
