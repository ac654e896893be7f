-- Codes of objects and of frames, which hold values. The kit asks for them. They serve proofs only.
--
--   `symbol_code`, `target_code`       the codes of a symbol and of a target
--   `object_code`, `frame_code`        the codes of an object and of a frame
use Rattle.std.specs.Prelude.{◌≡◌, refl, ℕ, Bool, true, false, List, Option, Some, None}
use Rattle.std.specs.Coded.{Coded, code_by, coded_ℕ, coded_bool, coded_list, coded_option, coded×}
use Rattle.abs_values.specs.ValueCodes.{value_code}
use Rattle.abs_values.specs.ValueTrees.{ValueTree}
use Rattle.abs_tree.specs.declared.symbol.Symbol.{Symbol}
use Rattle.config_state.specs.declared.frame.Frame.{Frame}
use Rattle.config_state.specs.declared.frame.Target.{Target}
use Rattle.config_state.specs.declared.frame.Target.TheVariants.{Nothing, Local, Field}
use Rattle.config_state.specs.declared.object.ObjectCell.{ObjectCell}

-- the code of a symbol
abbrev pub symbol_code : Coded Symbol
symbol_code = code_by ℕ coded_ℕ (λ symbol. symbol.0) (λ number. record { 0 = number }) (λ _. refl)

-- a target as whether it is a slot, and its index
abbrev pub target_parts : Target → Option (Bool × ℕ)
target_parts Nothing = None
target_parts (Local slot) = Some (true, slot)
target_parts (Field field) = Some (false, field)

abbrev pub target_at : Bool → ℕ → Target
target_at true index = Local index
target_at false index = Field index

abbrev pub target_with : Option (Bool × ℕ) → Target
target_with None = Nothing
target_with (Some parts) = target_at parts.0 parts.1

pub target_with-parts : (target : Target) → target_with (target_parts target) ≡ target
target_with-parts Nothing = refl
target_with-parts (Local slot) = refl
target_with-parts (Field field) = refl

-- the code of a target
abbrev pub target_code : Coded Target
target_code =
    code_by (Option (Bool × ℕ)) (coded_option (coded× coded_bool coded_ℕ)) target_parts target_with target_with-parts

-- the code of an object
abbrev pub object_code : Coded ObjectCell
object_code = code_by (ℕ × (ℕ × (Symbol × List ValueTree)))
    (coded× coded_ℕ (coded× coded_ℕ (coded× symbol_code (coded_list value_code))))
    (λ object. (object.cog, (object.place, (object.class, object.fields))))
    (λ parts. record { cog = parts.0; place = parts.1.0; class = parts.1.1.0; fields = parts.1.1.1 }) (λ _. refl)

-- the code of a frame
abbrev pub frame_code : Coded Frame
frame_code = code_by (Option Symbol × (Option ℕ × (List ValueTree × (Option ℕ × Target))))
    (coded× (coded_option symbol_code) (coded× (coded_option coded_ℕ) (coded× (coded_list value_code)
    (coded× (coded_option coded_ℕ) target_code))))
    (λ frame. (frame.method, (frame.object, (frame.slots, (frame.next, frame.target)))))
    (λ parts. record {
      method = parts.0;
      object = parts.1.0;
      slots = parts.1.1.0;
      next = parts.1.1.1.0;
      target = parts.1.1.1.1;
    }) (λ _. refl)
