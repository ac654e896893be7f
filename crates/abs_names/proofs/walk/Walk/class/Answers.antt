use Rattle.std.proofs.Common.{arith, length, map}
use Rattle.std.proofs.lemmas.Grind.{common_steps}
use Rattle.abs_tree.specs.SyntaxViews.{param_tree, member_tree}
use Rattle.abs_names.specs.NameOffences.{params_offences, members_offences}
use Rattle.abs_names.specs.Scopes.{class_fields}
use Rattle.abs_names.proofs.FormLemmas.{both_noted}
use Rattle.abs_names.proofs.walk.Walk.class.Goals as goal

pub returns-clause-noted : goal.returns-clause-noted
returns-clause-noted c =
    let start = c.args.self.now.scope in
    let around = start.scope.around in
    let params = map (param_tree start.names.before) c.args.params.now.items in
    let members = map (member_tree start.names.before) c.args.members.now.items in
    both_noted _ c.make_fields.new.self.first _ (params_offences around params)
    (members_offences around (class_fields params members) (length params) members) (grind (arith, common_steps))
    (grind (arith, common_steps))
