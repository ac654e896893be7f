use Rattle.std.proofs.Common.{sym, ◌∙◌}
use Rattle.std.proofs.lemmas.List.{length-map}
use Rattle.abs_tree.specs.SyntaxViews.{param_tree}
use Rattle.abs_program.proofs.tables.fields.field_row.Goals as goal

pub returns-in_ok-indices_of_fields-in-Class : goal.returns-in_ok-indices_of_fields-in-Class
returns-in_ok-indices_of_fields-in-Class c names =
    rw c.in-Class.is (record {
      params = c.in_ok-in_32_bits-in-Class.ensures
          ∙ (c.len.ensures ∙ (c.in-Class.params.ok.0 ∙ sym (length-map c.in-Class.params.items (param_tree names))));
      members = cc (c.in_ok-indices_of_fields-in-Class.ensures names, c.as_slice.ensures.value);
    })
