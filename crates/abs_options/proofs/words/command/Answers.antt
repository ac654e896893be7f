-- The command is that of the specification, argument by argument.
use Rattle.std.proofs.Common.{◌≡◌, ◌∙◌, true, ap, codes}
use Rattle.std.proofs.lemmas.Result.{IfOk-weaker}
use Rattle.clap.specs.Simple.{App, app_of, app_of_fields, new_app, new_rule, on_top}
use Rattle.abs_options.specs.CommandLine.{flag_rule, number_rule}
use Rattle.abs_options.proofs.CommandLemmas.{app_of-arg}
use Rattle.abs_options.proofs.words.command.Goals as goal

abbrev without_own_flags : App → App
without_own_flags = on_top (λ s. record s { disable_help_flag = true; disable_version_flag = true })

pub returns : goal.returns
returns c =
    let none : app_of c.disable_version_flag.result ≡ without_own_flags (new_app (codes "abs")) =
    ap app_of_fields c.disable_version_flag.ensures
    ∙ ap (λ f. app_of_fields (record f { disable_version_flag = true })) c.disable_help_flag.ensures
    ∙ ap without_own_flags c.new.ensures.app in
    let check = app_of-arg _ _ _ _ (flag_rule (codes "check")) c.in_ok-arg.ensures c.flag.ensures.local none c.flag.ensures.rule in
    let trace = app_of-arg _ _ _ _ (flag_rule (codes "trace")) c.in_ok-arg-2.ensures c.flag-2.ensures.local check c.flag-2.ensures.rule in
    let workers = app_of-arg _ _ _ _ (number_rule (codes "workers") 16) c.in_ok-arg-3.ensures c.number.ensures.local trace
    c.number.ensures.rule in
    let depth = app_of-arg _ _ _ _ (number_rule (codes "depth") 3) c.in_ok-arg-4.ensures c.number-2.ensures.local workers
    c.number-2.ensures.rule in
    let steps = app_of-arg _ _ _ _ (number_rule (codes "steps") 10000000) c.in_ok-arg-5.ensures c.number-3.ensures.local depth
    c.number-3.ensures.rule in
    let facts = app_of-arg _ _ _ _ (number_rule (codes "facts") 4000000) c.in_ok-arg-6.ensures c.number-4.ensures.local steps
    c.number-4.ensures.rule in
    let make = app_of-arg _ _ _ _ (number_rule (codes "make") 2000) c.in_ok-arg-7.ensures c.number-5.ensures.local facts
    c.number-5.ensures.rule in
    IfOk-weaker c.arg-8.result _ _
    (λ m added. app_of-arg _ m _ _ (new_rule (codes "file")) added c.new-2.ensures.optional.1 make c.new-2.ensures.rule) c.arg-8.ensures
