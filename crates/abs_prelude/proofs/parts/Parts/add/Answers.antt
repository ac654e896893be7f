use Rattle.std.proofs.Common.{◌≡◌, ℕ, List, ap, ◌∙◌}
use Rattle.std.proofs.lemmas.Result.{on_ok_weaker}
use Rattle.abs_tree.specs.Names.{name_of}
use Rattle.abs_tree.specs.Syntax.{DeclaredTree}
use Rattle.abs_tree.specs.SyntaxViews.{declared}
use Rattle.abs_tree.specs.declared.place.Place.{Place}
use Rattle.abs_prelude.proofs.PartLemmas.{both}
use Rattle.abs_prelude.proofs.parts.Parts.add.Goals as goal
use Rattle.abs_prelude.specs.Codes.{with_declaration, with_head, with_named, with_plain}
use Rattle.abs_prelude.specs.PartViews.{part_trees}

pub returns-in_ok-name-in-Declaration : goal.returns-in_ok-name-in-Declaration
returns-in_ok-name-in-Declaration c =
    let names = c.args.symbols.now in
    let old = part_trees names c.args.self.now in
    let form = c.in-Declaration.form in
    let name : DeclaredTree =
    declared names (record { place = c.at-place.result; name = c.in_ok-name-in-Declaration.name }) in
    rw c.in-Declaration.is
    (on_ok_weaker c.declaration.result
    (λ (is : part_trees names c.declaration.new.self ≡ with_declaration form c.at.result name old).
    is
    ∙ both (λ (place : Place) (tree : DeclaredTree). with_declaration form place tree old) c.at.ensures
    (both (λ (place : Place) (word : List ℕ). record { place = place; name = word }) c.at-place.ensures
    c.in_ok-name-in-Declaration.ensures))
    (c.declaration.ensures names))

pub returns-in_ok-name-in-Head : goal.returns-in_ok-name-in-Head
returns-in_ok-name-in-Head c =
    let names = c.args.symbols.now in
    let old = part_trees names c.args.self.now in
    let form = c.in-Head.form in
    rw c.in-Head.is
    (on_ok_weaker c.head.result
    (λ (is : part_trees names c.head.new.self ≡ with_head form c.at-in-Head.result
    (name_of names c.in_ok-name-in-Head.name) old).
    is
    ∙ both (λ (place : Place) (name : List ℕ). with_head form place name old) c.at-in-Head.ensures
    c.in_ok-name-in-Head.ensures)
    (c.head.ensures names))

pub returns-in_ok-name-in-Named : goal.returns-in_ok-name-in-Named
returns-in_ok-name-in-Named c =
    let names = c.args.symbols.now in
    let old = part_trees names c.args.self.now in
    let form = c.in-Named.form in
    rw c.in-Named.is
    (on_ok_weaker c.named.result
    (λ (is : part_trees names c.named.new.self ≡ with_named form c.at-in-Named.result
    (name_of names c.in_ok-name-in-Named.name) old).
    is
    ∙ both (λ (place : Place) (name : List ℕ). with_named form place name old) c.at-in-Named.ensures
    c.in_ok-name-in-Named.ensures)
    (c.named.ensures names))

pub returns-in-Plain : goal.returns-in-Plain
returns-in-Plain c =
    let names = c.args.symbols.now in
    let old = part_trees names c.args.self.now in
    let form = c.in-Plain.form in
    rw c.in-Plain.is
    (on_ok_weaker c.plain.result
    (λ (is : part_trees names c.plain.new.self ≡ with_plain form c.at-in-Plain.result old).
    is ∙ ap (λ (place : Place). with_plain form place old) c.at-in-Plain.ensures)
    (c.plain.ensures names))
