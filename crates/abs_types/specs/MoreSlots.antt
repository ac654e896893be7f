-- Frames that differ in the slots that are visible. What is visible at a place of a body is less than all its slots,
-- and this is how both are compared.
--
--   `SeesMore`             a frame has all that another one has, and may have types of more slots
use Rattle.std.specs.Prelude.{◌≡◌, ℕ, Some}
use Rattle.abs_types.specs.PlainTypes.{PlainType}
use Rattle.abs_types.specs.Typing.{Frame, known_at}

-- The wider frame has the type of each slot that the other one has, and all else as it is there.
pub record SeesMore (frame wider : Frame) : Type 0 where
  pub slots : (slot : ℕ) (type : PlainType) → known_at frame.slots slot ≡ Some type
      → known_at wider.slots slot ≡ Some type
  pub fields : wider.fields ≡ frame.fields
  pub this : wider.this ≡ frame.this
  pub task : wider.task ≡ frame.task
