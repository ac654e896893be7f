-- What a builder of `clap` makes of a command, by what a parse reads of it.
use Rattle.std.proofs.Common.{◌≡◌, ◌∙◌, false, ap₂}
use Rattle.clap.specs.Built.{AddsArg}
use Rattle.clap.specs.Simple.{App, app_of, with_rule}
use Rattle.clap.specs.Walk.{Rule, rule_of}
use Rattle.clap.specs.declared.builder.arg.Arg.{Arg}
use Rattle.clap.specs.declared.builder.command.Command.{Command}

-- one more argument, that is not global
pub app_of-arg : (old new : Command) (a : Arg) (app : App) (r : Rule) → AddsArg old a new → a.global ≡ false
    → app_of old ≡ app → rule_of a ≡ r → app_of new ≡ with_rule app r
app_of-arg old new a app r added local is rule = added.shape local ∙ ap₂ with_rule is rule
