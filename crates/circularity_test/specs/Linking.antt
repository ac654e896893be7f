-- Calls on `this` that lead from one method to another, class by class. It serves proofs only.
--
--   `LeadsIn`                  they lead there in a class
--   `Leads`                    they do in a class of which objects are made at a place
use Rattle.std.specs.Prelude.{◌≡◌, ℕ, Contains, Some}
use Rattle.abs_program.specs.Members.{method_of}
use Rattle.abs_tree.specs.Names.{name_of}
use Rattle.abs_tree.specs.Syntax.{Name, ProgramTree}
use Rattle.abs_tree.specs.declared.symbol.Symbol.{Symbol}
use Rattle.contract_terms.specs.Made.{classes_made}
use Rattle.contract_terms.specs.OwnCalls.{IsReached}
use Rattle.saturation.specs.Rows.{ClassIs}

-- Calls on `this` lead from one method of the class with a name to another.
pub record LeadsIn (program : ProgramTree) (name : Name) (one other : Symbol) : Type 0 where
  pub class : ℕ
  pub class_is : ClassIs program name class
  pub member : ℕ
  pub member_is : method_of program.source.declarations class (name_of program.names one) ≡ Some member
  pub reached : ℕ
  pub reached_is : method_of program.source.declarations class (name_of program.names other) ≡ Some reached
  pub leads : ∥ IsReached program.source class member reached ∥₁

-- They do in a class of which objects are made at a place.
pub record Leads (program : ProgramTree) (place : ℕ) (one other : Symbol) : Type 0 where
  pub name : Name
  pub made : Contains (classes_made program.source place) name
  pub leads_in : LeadsIn program name one other
