use Rattle.std.proofs.Common.{map}
use Rattle.std.proofs.lemmas.Result.{on_ok_weaker}
use Rattle.abs_tree.specs.Names.{name_of}
use Rattle.abs_tree.specs.SyntaxViews.{member_tree, param_tree}
use Rattle.abs_types.proofs.KeepLemmas.{keeps_transitive}
use Rattle.abs_types.specs.Schemes.{param_types}
use Rattle.abs_types.specs.TypeTables.{Keeps}
use Rattle.check_fun.proofs.ContextLemmas.{noted_after}
use Rattle.check_fun.proofs.FoundLemmas.{keeps_same}
use Rattle.check_fun.specs.Contexts.{Noted}
use Rattle.check_obj.proofs.ClassLemmas.{class_entered, known_types}
use Rattle.check_obj.proofs.OrderLemmas.{members_apart}
use Rattle.check_obj.specs.Classes.{methods_offences}
use Rattle.check_obj.proofs.classes.class_members.Goals as goal

pub returns-clause-noted : goal.returns-clause-noted
returns-clause-noted c context knows =
    let class = name_of context.names c.args.class in
    let params = param_types (map (param_tree context.names) c.args.params.now) in
    let fields = known_types context.names c.args.params.now c.args.members.now in
    let members = map (member_tree context.names) c.args.members.now in
    let inside = class_entered c.args.class fields c.in_ok-fields.ensures.keeps c.new-slots.ensures.items
    (c.in_ok-fields.ensures.found context knows) c.enter_body.ensures.knows context knows in
    on_ok_weaker c.methods.result
    (λ (noted : Noted c.enter_body.new.self.first (methods_offences context.declarations class fields members)
    c.methods.new.checker.first). members_apart context.declarations class fields params members
    (noted_after _ _ (c.in_ok-fields.ensures.noted context knows) (rw c.enter_body.ensures.first at noted)))
    (c.methods.ensures.noted context class fields inside)

pub returns-clause-keeps : goal.returns-clause-keeps
returns-clause-keeps c =
    on_ok_weaker c.methods.result
    (λ (keeps : Keeps c.enter_body.new.self.table c.methods.new.checker.table).
    keeps_transitive c.in_ok-fields.ensures.keeps (keeps_transitive (keeps_same c.enter_body.ensures.table) keeps))
    c.methods.ensures.keeps
