-- Threads can hand over and share programs: what a resolved or an accepted program owns names no thread. One search for
-- it is too long, so each part of a program has its own lemmas, which cite those of its parts.
--     named_send, named_sync        a resolved program can be handed over;  it can be shared
--     checked_send, checked_sync    an accepted program can be handed over;  it can be shared
use denote.Ref.{NamedLft}
use denote.Param.Send.{IsSend, IsSync, sendable}
use Rattle.std.proofs.Crossing.{crosses}
use Rattle.abs_program.specs.contracts.named.Named as Named
use Rattle.abs_tree.specs.contracts.syntax.declaration.Body as Body
use Rattle.abs_tree.specs.contracts.syntax.declaration.Decl as Decl
use Rattle.abs_tree.specs.contracts.syntax.declaration.Member as Member
use Rattle.abs_tree.specs.contracts.syntax.declaration.Param as Param
use Rattle.abs_tree.specs.contracts.syntax.statement.RightSide as RightSide
use Rattle.abs_tree.specs.contracts.syntax.declaration.Signature as Signature
use Rattle.abs_tree.specs.contracts.syntax.statement.Stmt as Stmt
use Rattle.abs_tree.specs.contracts.syntax.statement.Test as Test
use Rattle.abs_program.specs.contracts.tables.Tables as Tables
use Rattle.abs_program.specs.contracts.tables.control.ClassEntry as ClassEntry
use Rattle.abs_program.specs.contracts.tables.control.Control as Control
use Rattle.abs_program.specs.contracts.tables.control.Effect as Effect
use Rattle.abs_program.specs.contracts.tables.control.Instruction as Instruction
use Rattle.abs_program.proofs.ShareLemmas.{type_send, type_sync, expression_send, expression_sync, exprs_send, exprs_sync}
use Rattle.abs_program.proofs.name_spaces.NameSpaces.TheSendSync as SpacesShared
use Rattle.abs_tree.proofs.symbol.Symbols.TheSendSync as SymbolsShared
use Rattle.abs_program.proofs.tables.fields.Fields.TheSendSync as FieldsShared
use Rattle.abs_program.proofs.tables.methods.Methods.TheSendSync as MethodsShared
use Rattle.abs_program.proofs.tables.signatures.Signatures.TheSendSync as SignaturesShared
use Rattle.abs_tree.proofs.syntax.statement.Stmt.TheLaws.TheKnot as StmtKnot
use Rattle.abs_types.specs.contracts.checked.Checked as Checked

-- A right side can be handed over
side_send : IsSend (RightSide.the_field).row
side_send = search (sendable, crosses, expression_send, expression_sync) depth 20

-- A right side can be shared
side_sync : IsSync (RightSide.the_field).row
side_sync = search (sendable, crosses, expression_send, expression_sync) depth 20

-- A test of a guard can be handed over
test_send : IsSend (Test.the_field).row
test_send = search (sendable, crosses, expression_send, expression_sync) depth 20

-- A test of a guard can be shared
test_sync : IsSync (Test.the_field).row
test_sync = search (sendable, crosses, expression_send, expression_sync) depth 20

-- A statement can be handed over
statement_send : IsSend (Stmt.the_field).row
statement_send = search (sendable, crosses, StmtKnot.crosses, type_send, expression_send, expression_sync, side_send, test_send) depth 20

-- A statement can be shared
statement_sync : IsSync (Stmt.the_field).row
statement_sync = search (sendable, crosses, StmtKnot.crosses, type_sync, expression_send, expression_sync, side_sync, test_sync) depth 20

-- A body can be handed over
body_send : IsSend (Body.the_field).row
body_send = search (sendable, crosses, statement_send) depth 20

-- A body can be shared
body_sync : IsSync (Body.the_field).row
body_sync = search (sendable, crosses, statement_sync) depth 20

-- A parameter can be handed over
parameter_send : IsSend (Param.the_field).row
parameter_send = search (sendable, crosses, type_send) depth 20

-- A parameter can be shared
parameter_sync : IsSync (Param.the_field).row
parameter_sync = search (sendable, crosses, type_sync) depth 20

-- A signature can be handed over
signature_send : IsSend (Signature.the_field).row
signature_send = search (sendable, crosses, type_send, parameter_send) depth 20

-- A signature can be shared
signature_sync : IsSync (Signature.the_field).row
signature_sync = search (sendable, crosses, type_sync, parameter_sync) depth 20

-- A member can be handed over
member_send : IsSend (Member.the_field).row
member_send = search (sendable, crosses, type_send, expression_send, expression_sync, signature_send, body_send) depth 20

-- A member can be shared
member_sync : IsSync (Member.the_field).row
member_sync = search (sendable, crosses, type_sync, expression_send, expression_sync, signature_sync, body_sync) depth 20

-- A declaration can be handed over
declaration_send : IsSend (Decl.the_field).row
declaration_send = search (sendable, crosses, type_send, expression_send, expression_sync, parameter_send, signature_send, member_send) depth 20

-- A declaration can be shared
declaration_sync : IsSync (Decl.the_field).row
declaration_sync = search (sendable, crosses, type_sync, expression_send, expression_sync, parameter_sync, signature_sync, member_sync) depth 20

-- The effect of a statement can be handed over
effect_send : IsSend (Effect.the_field).row
effect_send = search (sendable, crosses) depth 60 fits 20000

-- The effect of a statement can be shared
effect_sync : IsSync (Effect.the_field).row
effect_sync = search (sendable, crosses) depth 60 fits 20000

-- An instruction can be handed over
instruction_send : IsSend (Instruction.the_field).row
instruction_send = search (sendable, crosses, exprs_send, effect_send) depth 20

-- An instruction can be shared
instruction_sync : IsSync (Instruction.the_field).row
instruction_sync = search (sendable, crosses, exprs_sync, effect_sync) depth 20

-- What a new object takes can be handed over
entry_send : IsSend (ClassEntry.the_field).row
entry_send = search (sendable, crosses, expression_send, expression_sync) depth 20

-- What a new object takes can be shared
entry_sync : IsSync (ClassEntry.the_field).row
entry_sync = search (sendable, crosses, expression_send, expression_sync) depth 20

-- The table of statements can be handed over
control_send : IsSend (Control.the_field).row
control_send = search (sendable, crosses, instruction_send, entry_send) depth 20

-- The table of statements can be shared
control_sync : IsSync (Control.the_field).row
control_sync = search (sendable, crosses, instruction_sync, entry_sync) depth 20

-- All tables can be handed over
tables_send : IsSend (Tables.the_field).row
tables_send = search (sendable, crosses, SpacesShared.the_field_send, MethodsShared.the_field_send, SignaturesShared.the_field_send, FieldsShared.the_field_send, control_send) depth 40

-- All tables can be shared
tables_sync : IsSync (Tables.the_field).row
tables_sync = search (sendable, crosses, SpacesShared.the_field_sync, MethodsShared.the_field_sync, SignaturesShared.the_field_sync, FieldsShared.the_field_sync, control_sync) depth 40

-- A resolved program can be handed over
pub named_send : (a : NamedLft) → IsSend (Named.the_field a).row
named_send a = search (sendable, crosses, SymbolsShared.the_send, tables_send, declaration_send, body_send) depth 20

-- A resolved program can be shared
pub named_sync : (a : NamedLft) → IsSync (Named.the_field a).row
named_sync a = search (sendable, crosses, SymbolsShared.the_sync, tables_sync, declaration_sync, body_sync) depth 20

-- An accepted program can be handed over
pub checked_send : (a : NamedLft) → IsSend (Checked.the_field a).row
checked_send a = search (sendable, crosses, named_send) depth 20

-- An accepted program can be shared
pub checked_sync : (a : NamedLft) → IsSync (Checked.the_field a).row
checked_sync a = search (sendable, crosses, named_sync) depth 20
