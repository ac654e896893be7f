use Rattle.std.proofs.Common.{refl, arith}
use Rattle.abs_types.proofs.AddLemmas.{inserted, inserted_last, known_inserted, kept_same, kept_added, found_added, found_present}
use Rattle.abs_types.proofs.table.TypeTable.add.Goals as goal

pub returns-in-Some-clause-found : goal.returns-in-Some-clause-found
returns-in-Some-clause-found c =
    found_present c.args.self.now c.in-Some.index c.args.shape c.in-Some.ensures.index

pub invariant_of-self : goal.invariant_of-self
invariant_of-self c =
    let table = c.args.self.now in
    let flag = c.is_with_parameter-with_parameter.result in
    let either = inserted c.insert.result table.shapes c.insert.new.self.entries c.args.shape flag
    c.in_default.ensures.found c.insert.ensures.entries c.insert.ensures.err in
    let known = known_inserted table c.insert.new.self.entries c.args.shape flag either (omega arith) c.requires.parts
    c.requires.names c.is_with_parameter-with_parameter.ensures in
    record {
      few_types = known.few;
      are_formed = known.formed;
      parameters_are = known.flags;
      are_remembered = known.remembered;
    }

pub returns-in_err-insert-clause-keeps : goal.returns-in_err-insert-clause-keeps
returns-in_err-insert-clause-keeps c = kept_same c.args.self.now _ refl c.in_err-insert.ensures.err

pub returns-clause-found : goal.returns-clause-found
returns-clause-found c =
    let flag = c.is_with_parameter-with_parameter.result in
    found_added c.args.self.now _ c.args.shape flag c.len-count.result refl
    (inserted_last c.args.self.now.shapes c.insert.new.self.entries c.args.shape flag c.in_default.ensures.found
    c.in_ok-insert.ensures.entries) c.len-count.ensures.len

pub returns-clause-keeps : goal.returns-clause-keeps
returns-clause-keeps c =
    let flag = c.is_with_parameter-with_parameter.result in
    kept_added c.args.self.now _ c.args.shape flag refl
    (inserted_last c.args.self.now.shapes c.insert.new.self.entries c.args.shape flag c.in_default.ensures.found
    c.in_ok-insert.ensures.entries)
