-- The method of a class that a statement calls on `this`. It serves proofs only.
--
--   `own_call`             the one that an effect calls
--   `call_of`              the one that the statement with an index calls
use Rattle.std.specs.Prelude.{ℕ, List, Option, None, option_and_then, slice_get}
use Rattle.abs_program.specs.Instructions.{EffectTree, CallsOwn, InstructionTree, instructions}
use Rattle.abs_program.specs.Members.{method_of}
use Rattle.abs_tree.specs.Syntax.{DeclTree, SourceTree}

-- the method of a class that an effect calls on `this`
abbrev pub own_call : List DeclTree → ℕ → EffectTree → Option ℕ
own_call declarations class (CallsOwn method target) = method_of declarations class method
own_call declarations class _ = None

-- the method of a class that the statement with an index calls on `this`
abbrev pub call_of : SourceTree → ℕ → ℕ → Option ℕ
call_of source class index = option_and_then
    (λ (instruction : InstructionTree). own_call source.declarations class instruction.effect)
    (slice_get (instructions source) index)
