-- The name of the file is what the rows of the subcommand have that the words name.
use Rattle.std.proofs.Common.{◌∙◌, ap}
use Rattle.dmlab_words.specs.CommandLine.{file_in, file_of}
use Rattle.dmlab_words.proofs.command_line.file_named.Goals as goal

pub returns-clause-named : goal.returns-clause-named
unfolding file_of
returns-clause-named g c = c.file_in.ensures ∙ ap file_in c.in_ok-matches.ensures.met
