-- What is said of a command that was made, or for which there was no memory.
use Rattle.std.specs.Prelude.{◌≡◌, IfOk, Result, false}
use Rattle.clap.specs.Words.{App, app_of}
use Rattle.clap.specs.declared.builder.command.Command.{Command}
use Rattle.clap.specs.declared.builder.command.Command.TheViews.{out-Command}

-- the command has these words, and none of its arguments holds for its subcommands
abbrev pub IsLocal : Command → App → Type 0
IsLocal command app = (app_of command ≡ app) × ((out-Command command).has_globals ≡ false)

-- the command, if it was made, has these words
abbrev pub IsMadeCommand : {E : Type 0} → Result Command E → App → Type 0
IsMadeCommand made app = IfOk made (λ command. app_of command ≡ app)

-- the same of a command none of whose arguments holds for its subcommands
abbrev pub IsMadeLocal : {E : Type 0} → Result Command E → App → Type 0
IsMadeLocal made app = IfOk made (λ command. IsLocal command app)
