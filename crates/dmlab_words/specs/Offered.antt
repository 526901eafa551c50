-- What the table of the subcommands says of the command line (this project's own).
use Rattle.std.specs.Prelude.{fold, true}
use Rattle.clap.specs.Words.{App, Rule, Text, new_app, with_rule}
use Rattle.dmlab_words.specs.CommandLine.{with_command}
use Rattle.dmlab_words.specs.Options.{flag_rule, number_rule}
use Rattle.dmlab_words.specs.declared.offered.Offer.{Offer}
use Rattle.dmlab_words.specs.declared.offered.Subcommand.{Subcommand}
use Rattle.dmlab_words.specs.declared.offered.Takes.{Takes}
use Rattle.dmlab_words.specs.declared.offered.Takes.TheVariants.{Nothing, Number, WantedNumber}

-- the option of this name that takes this
abbrev rule_taking : Text → Takes → Rule
rule_taking name Nothing = flag_rule name
rule_taking name Number = number_rule name
rule_taking name WantedNumber = record (number_rule name) { required = true }

-- the argument of this option
abbrev pub offer_rule : Offer → Rule
offer_rule offer = rule_taking offer.name.now offer.takes

-- the command with this option behind its others
abbrev pub with_offer : App → Offer → App
with_offer app offer = with_rule app (offer_rule offer)

-- the command of this subcommand
abbrev pub subcommand_app : Subcommand → App
subcommand_app subcommand = fold with_offer (new_app subcommand.name.now) subcommand.options.now

-- the program with this subcommand behind its others
abbrev pub with_offered : App → Subcommand → App
with_offered app subcommand = with_command app (subcommand_app subcommand)
