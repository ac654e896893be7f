use Rattle.std.proofs.Common.{◌≡◌, sym, ◌∙◌}
use Rattle.std.specs.Prelude.{codes}
use Rattle.abs_types.proofs.OwnNameLemmas.{number_is_own, named_by_number, not_word}
use Rattle.abs_types.specs.TypeShapes.{shape_type, named_by}
use Rattle.abs_types.proofs.table.TypeTable.data.Goals as goal

pub add-requires-clause-names : goal.add-requires-clause-names
add-requires-clause-names c =
    let names = c.args.self.now.program.now.symbols in
    let text = c.name-text.result.now in
    let name = named_by names c.number.result in
    let is : text ≡ name =
    c.name-text.ensures ∙ sym (named_by_number names c.args.name c.number.result c.number.ensures.number) in (
      number_is_own names c.args.name c.number.result c.number.ensures.number,
      not_word text name c.as_slice.result.now (codes "Bool") is c.as_slice.ensures c.if-eq.ensures,
      not_word text name c.as_slice-2.result.now (codes "Unit") is c.as_slice-2.ensures c.if-eq-2.ensures,
    )

pub returns-clause-found : goal.returns-clause-found
unfolding shape_type
returns-clause-found c =
    rw (← named_by_number c.args.self.now.program.now.symbols c.args.name c.number.result c.number.ensures.number)
    c.add.ensures.found
