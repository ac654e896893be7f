use Rattle.std.proofs.Common.{◌≡◌, List, [], ◌∷◌, sym, ◌∙◌}
use Rattle.std.proofs.lemmas.List.{append-nil}
use Rattle.abs_program.proofs.CountLemmas.{decls_add}
use Rattle.abs_program.proofs.MakerLemmas.{makes_none, may_make_next, decls_next}
use Rattle.abs_tree.specs.Syntax.{Name}
use Rattle.abs_program.proofs.tables.instructions.Maker.add_declarations.Goals as goal
use Rattle.list_facts.proofs.BackwardLemmas.{one_back, all_back}

pub loop-declaration-init : goal.loop-declaration-init
loop-declaration-init c =
    let rest_is : c.into_iter-declaration-iterator.result.iter.rest.now ≡ c.args.declarations.now = cc in
    (tt, tt, ([], sym (append-nil _ ∙ rest_is), λ names. makes_none names c.args.self.now))

pub add_declaration-requires : goal.add_declaration-requires
add_declaration-requires c =
    let names = c.requires.0 in
    let declaration = c.in-Some.declaration.now in
    let done = c.loop-declaration.invariant.2.0 in
    let others = c.next.new.self.iter.rest.now in
    let is = one_back others declaration done c.loop-declaration.invariant.2.1 c.in-Some.ensures.steps in
    let made = c.loop-declaration.invariant.2.2 names in
    (names, may_make_next c.args.declarations.now others declaration done (decls_add names) is c.requires.1 made)

pub loop-declaration-preserved : goal.loop-declaration-preserved
loop-declaration-preserved c =
    let declaration = c.in-Some.declaration.now in
    let done = c.loop-declaration.invariant.2.0 in
    let others = c.next.new.self.iter.rest.now in
    let is = one_back others declaration done c.loop-declaration.invariant.2.1 c.in-Some.ensures.steps in
    let made = λ (names : List Name).
    decls_next declaration done (c.loop-declaration.invariant.2.2 names) (c.in_ok-add_declaration.ensures names) in
    (tt, tt, (declaration ∷ done, is, made))

pub returns : goal.returns
returns c = λ names.
    let rest = c.loop-declaration.declaration-iterator.iter.rest.now in
    rw (all_back rest c.loop-declaration.invariant.2.1 c.in-None.ensures.steps.0) (c.loop-declaration.invariant.2.2 names)
