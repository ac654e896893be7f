use denote.Struct.Props as logic
use mathlib.Core.Logic.{∥∥₁_elim}
use Rattle.saturation.proofs.work_list.contracts_of.Goals as goal

pub returns-clause-made : goal.returns-clause-made
returns-clause-made c place = ∥∥₁_elim c.terms.ensures.are (Prim.hlevel logic.props) (λ are. are.made place)
