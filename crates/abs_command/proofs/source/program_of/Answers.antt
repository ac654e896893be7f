use Rattle.std.proofs.Common.{◌≡◌, [], subst, sym, ap, ◌∙◌}
use Rattle.std.proofs.lemmas.Result.{err_from_is_err_and}
use Rattle.abs_program.specs.declared.named.Named.{Named}
use Rattle.abs_tree.specs.SourceErrors.{HasCause}
use Rattle.abs_program.specs.NamedViews.{named_tree}
use Rattle.abs_tree.specs.SourceViews.{source_tree}
use Rattle.abs_tree.specs.Syntax.{SourceTree}
use Rattle.abs_names.specs.Answers.{RefusesFirst}
use Rattle.abs_names.specs.Resolution.{resolved}
use Rattle.abs_types.specs.TypeOffences.{type_offences}
use Rattle.abs_types.specs.declared.checked.Checked.{Checked}
use Rattle.abs_profile.specs.Profile.{profile_offences}
use Rattle.abs_command.specs.Sources.{IsTree, FirstOffence}
use Rattle.abs_command.specs.Sources.FirstOffence.{unread, misnamed, mistyped, outside_profile}
use Rattle.abs_command.proofs.ResultLemmas.{cause_follows}
use Rattle.abs_command.proofs.SourceLemmas.{first_refused, program_names}
use Rattle.abs_command.proofs.source.program_of.Goals as goal

pub returns-clause-names : goal.returns-clause-names
returns-clause-names c =
    rw (c.in_ok-contracted.ensures.same, c.in_ok-checked.ensures.same)
    (program_names c.in_ok-list.list.tokens c.in_ok-tree.tree.symbols c.in_ok-program.program.symbols
    c.in_ok-list.ensures.slices c.in_ok-tree.ensures.names c.in_ok-program.ensures.symbols)

pub returns-clause-found : goal.returns-clause-found
returns-clause-found c =
    let tree = c.in_ok-tree.tree in
    let checked = ap (λ (it : Checked). it.named) c.in_ok-contracted.ensures.same in
    let same = checked ∙ c.in_ok-checked.ensures.same in
    record {
      names = tree.symbols;
      tree = source_tree tree;
      read =
          record { list = c.in_ok-list.list; tokens = c.in_ok-list.ensures.found; is = c.in_ok-tree.ensures.found };
      no_offence = c.in_ok-program.ensures.accepted;
      is = ap named_tree same ∙ c.in_ok-program.ensures.found;
      names_are = ap (λ (named : Named). named.symbols) same ∙ c.in_ok-program.ensures.symbols;
      typed = ap (λ (named : Named). type_offences (named_tree named)) same ∙ c.in_ok-checked.ensures.accepted;
      profiled = ap (λ (named : Named). profile_offences (named_tree named)) checked
          ∙ c.in_ok-contracted.ensures.in_profile;
    }

pub returns-in_err-tree-clause-refused : goal.returns-in_err-tree-clause-refused
returns-in_err-tree-clause-refused c =
    let error = err_from_is_err_and c.from_residual-in_err-tree.result c.from_residual-in_err-tree.ensures.1 in
    rw error.1 (subst (HasCause (FirstOffence c.args.text.now)) (sym error.2)
    (cause_follows c.in_err-tree.field-0.0 c.in_err-tree.ensures.refused
    (λ refusal stops. unread c.in_ok-list.list c.in_ok-list.ensures.found stops)))

pub returns-in_err-program-clause-refused : goal.returns-in_err-program-clause-refused
returns-in_err-program-clause-refused c =
    let tree = c.in_ok-tree.tree in
    let read : IsTree c.args.text.now tree.symbols (source_tree tree) =
    record { list = c.in_ok-list.list; tokens = c.in_ok-list.ensures.found; is = c.in_ok-tree.ensures.found } in
    let error = err_from_is_err_and c.from_residual-in_err-program.result c.from_residual-in_err-program.ensures.1 in
    rw error.1 (subst (HasCause (FirstOffence c.args.text.now)) (sym error.2)
    (cause_follows c.in_err-program.field-0.0 c.in_err-program.ensures.refused
    (λ refusal first. misnamed tree.symbols (source_tree tree) read first)))

pub returns-in_err-checked-clause-refused : goal.returns-in_err-checked-clause-refused
returns-in_err-checked-clause-refused c =
    let tree = c.in_ok-tree.tree in
    let read : IsTree c.args.text.now tree.symbols (source_tree tree) =
    record { list = c.in_ok-list.list; tokens = c.in_ok-list.ensures.found; is = c.in_ok-tree.ensures.found } in
    let error = err_from_is_err_and c.from_residual-in_err-checked.result c.from_residual-in_err-checked.ensures.1 in
    rw error.1 (subst (HasCause (FirstOffence c.args.text.now)) (sym error.2)
    (cause_follows c.in_err-checked.field-0.0 c.in_err-checked.ensures.refused
    (λ refusal first. mistyped tree.symbols (source_tree tree) read c.in_ok-program.ensures.accepted
    (subst (λ (program : SourceTree). RefusesFirst (type_offences program) refusal) c.in_ok-program.ensures.found
    (first_refused _ refusal first)))))

pub returns-in_err-contracted-clause-refused : goal.returns-in_err-contracted-clause-refused
returns-in_err-contracted-clause-refused c =
    let tree = c.in_ok-tree.tree in
    let read : IsTree c.args.text.now tree.symbols (source_tree tree) =
    record { list = c.in_ok-list.list; tokens = c.in_ok-list.ensures.found; is = c.in_ok-tree.ensures.found } in
    let same : named_tree c.in_ok-checked.checked.named ≡ resolved (source_tree tree) =
    ap named_tree c.in_ok-checked.ensures.same ∙ c.in_ok-program.ensures.found in
    let typed : type_offences (resolved (source_tree tree)) ≡ [] =
    ap type_offences (sym c.in_ok-program.ensures.found) ∙ c.in_ok-checked.ensures.accepted in
    let error =
    err_from_is_err_and c.from_residual-in_err-contracted.result c.from_residual-in_err-contracted.ensures.1 in
    rw error.1 (subst (HasCause (FirstOffence c.args.text.now)) (sym error.2)
    (cause_follows c.in_err-contracted.field-0.0 c.in_err-contracted.ensures.refused
    (λ refusal first. outside_profile tree.symbols (source_tree tree) read c.in_ok-program.ensures.accepted typed
    (subst (λ (program : SourceTree). RefusesFirst (profile_offences program) refusal) same
    (first_refused _ refusal first)))))
