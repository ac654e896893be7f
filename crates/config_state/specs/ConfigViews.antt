-- The configuration of a `Config`.
--
--   `configuration`        a configuration of the code without its memory, for a table of names
use Rattle.std.specs.Prelude.{List}
use Rattle.abs_tree.specs.Syntax.{Name}
use Rattle.config_state.specs.Configurations.{Configuration}
use Rattle.config_state.specs.Views.{configuration_of}
use Rattle.config_state.specs.declared.config.Config.{Config}

-- a configuration without its memory
abbrev pub configuration : List Name → Config → Configuration
configuration names config = configuration_of names config.cogs config.objects config.tasks
