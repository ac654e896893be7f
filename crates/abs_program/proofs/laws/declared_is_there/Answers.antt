use Rattle.abs_program.proofs.DeclaredLemmas.{data_is_declared, interface_is_declared, constructor_is_declared, function_is_declared, class_is_declared}
use Rattle.abs_program.proofs.laws.declared_is_there.Goals as goal

pub returns : goal.returns
returns c = record {
  data_type = data_is_declared;
  interface = interface_is_declared;
  constructor = constructor_is_declared;
  function = function_is_declared;
  class = class_is_declared;
}
