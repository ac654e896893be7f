use Rattle.contract_infer.proofs.AcceptsLemmas.{receivers_by_head}
use Rattle.contract_infer.proofs.accepts.receivers_of.Goals as goal

pub returns-in-Interface : goal.returns-in-Interface
returns-in-Interface c names type is = receivers_by_head type (rw c.in-Interface.is at is)

pub returns-in-Class : goal.returns-in-Class
returns-in-Class c names type is = receivers_by_head type (rw c.in-Class.is at is)

pub returns-in-Other : goal.returns-in-Other
returns-in-Other c names type is = receivers_by_head type (rw c.in-Other.is at is)
