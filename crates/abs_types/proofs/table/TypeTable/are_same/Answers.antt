use Rattle.std.proofs.Common.{sym, ap, ◌∙◌, eq-eqb, eqb-true}
use Rattle.abs_types.proofs.TableLemmas.{one_index_in}
use Rattle.abs_types.specs.TypeShapes.{type_at}
use Rattle.abs_types.specs.TypeTables.{types_in}
use Rattle.abs_types.specs.declared.table.shape.TypeIndex.{TypeIndex}
use Rattle.abs_types.proofs.table.TypeTable.are_same.Goals as goal

pub returns : goal.returns
returns c =
    let one = c.args.one in
    let other = c.args.other in
    let types = types_in c.args.self.now in (
      λ reported. ap (λ number. type_at types (record { 0 = number }))
          (eqb-true one.0 other.0 (sym c.eq.ensures ∙ reported)),
      λ same. c.eq.ensures
          ∙ eq-eqb one.0 other.0 (ap (λ (index : TypeIndex). index.0)
          (one_index_in c.args.self.now one other c.len-count.ensures.unique c.requires.one c.requires.other same)),
    )
