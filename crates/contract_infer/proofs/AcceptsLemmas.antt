-- The receivers that a type has.
--
--   `receivers_at`             those that a type has which is this at its head
--   `receivers_by_head`        they are those of the type
use Rattle.std.proofs.Common.{◌≡◌, Some, refl, ap, ◌∙◌}
use Rattle.abs_types.specs.PlainTypes.{PlainType, PlainClass, PlainInterface}
use Rattle.check_fun.specs.ObjectHeads.{PlainHead, OfInterface, OfOther, head_of}
use Rattle.check_fun.specs.ObjectHeads as heads
use Rattle.contract_terms.specs.Accepts.{ObjectsTree, Implementing, NoObject, OfClass, receivers_of}

-- the receivers that a type has which is this at its head
abbrev pub receivers_at : PlainHead → ObjectsTree
receivers_at (OfInterface name) = Implementing name
receivers_at (heads.OfClass name) = OfClass name
receivers_at OfOther = NoObject

-- they are those of a type
receivers_same : (type : PlainType) → receivers_at (head_of type) ≡ receivers_of (Some type)
receivers_same (PlainInterface name) = refl
receivers_same (PlainClass name) = refl
receivers_same type = refl

-- they are those of a type with this head
pub receivers_by_head : {head : PlainHead} (type : PlainType) → head ≡ head_of type
    → receivers_at head ≡ receivers_of (Some type)
receivers_by_head type is = ap receivers_at is ∙ receivers_same type
