use Rattle.std.proofs.Common.{◌∙◌, ℕ, ap, arith}
use Rattle.abs_tree.specs.Names.{name_of}
use Rattle.abs_program.specs.Tables.{with_first}
use Rattle.abs_program.specs.declared.name_spaces.Taking.{Taking}
use Rattle.abs_names.specs.TypeNames.{Around}
use Rattle.abs_names.proofs.spaces.Declarer.constructor.Goals as goal
use Rattle.abs_names.proofs.TypeLemmas.{types_counted}

pub returns-clause-around : goal.returns-clause-around
returns-clause-around c =
    let names = c.args.self.now.around.names.before in
    let before = c.args.self.now.around.around in
    let constructor = c.args.constructor.now in
    let around : Taking → Around = λ taking. record before {
      spaces = record before.spaces {
        constructors = with_first before.spaces.constructors (name_of names constructor.name.name)
            (record { taking = taking; index = c.args.index });
      };
    } in
    c.in_ok-taken.ensures.around
    ∙ ap around (c.in_ok-taking.ensures
    ∙ ap (λ (n : ℕ). record { declaration = c.args.owner; arity = n })
    (omega (arith, c.len.ensures, types_counted names constructor.types.items)))
