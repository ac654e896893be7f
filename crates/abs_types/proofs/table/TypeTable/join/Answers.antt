use Rattle.abs_types.proofs.KeepLemmas.{among_kept, keeps_transitive}
use Rattle.abs_types.proofs.TableJoinLemmas.{joined_later}
use Rattle.abs_types.proofs.table.TypeTable.join.Goals as goal

pub join_once-requires-clause-one : goal.join_once-requires-clause-one
join_once-requires-clause-one c = among_kept c.join_inner.ensures.keeps c.requires.one

pub join_once-requires-clause-other : goal.join_once-requires-clause-other
join_once-requires-clause-other c = among_kept c.join_inner.ensures.keeps c.requires.other

pub returns-clause-found : goal.returns-clause-found
returns-clause-found c =
    joined_later c.join_once.new.self c.join_inner.ensures.keeps c.requires.one c.requires.other c.join_once.result c.join_once.ensures.found

pub returns-clause-keeps : goal.returns-clause-keeps
returns-clause-keeps c = keeps_transitive c.join_inner.ensures.keeps c.join_once.ensures.keeps
