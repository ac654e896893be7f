use Rattle.abs_program.proofs.HolderLemmas.{data_added}
use Rattle.abs_program.specs.KeptSpaces.{spaces_by_name}
use Rattle.abs_program.proofs.tables.holders.+types.Goals as goal

pub add_type-returns-in_ok-add_named-in-Data : goal.add_type-returns-in_ok-add_named-in-Data
add_type-returns-in_ok-add_named-in-Data t c =
    let form = c.in-Data in
    let names = c.args.symbols.now in
    data_added (spaces_by_name names c.args.spaces.now) names c.args.found.now.items _ form.place form.name
    form.arguments c.deref.result.now c.add_types.result form.is c.deref.ensures.value
    c.in_ok-add_named-in-Data.ensures c.add_types.ensures
