-- Each subcommand is the last of those of the words so far.
use Rattle.std.proofs.Common.{◌≡◌, ◌∙◌, ◌+◌, rules, drop, fold, subst, sym}
use Rattle.clap.specs.Words.{App, app_of}
use Rattle.dmlab_words.specs.CommandLine.{dmlab_app}
use Rattle.dmlab_words.specs.Offered.{with_offered}
use Rattle.dmlab_words.proofs.MakingLemmas.{fold_next, joined}
use Rattle.dmlab_words.proofs.command_line.dmlab.Goals as goal

-- the one that is added is the first of those that were left
pub loop-subcommand-preserved : goal.loop-subcommand-preserved
loop-subcommand-preserved c =
    let at = c.loop-subcommand in
    let items = c.subcommands-subcommand-items.result.now in
    let is = joined _ _ _ _ c.in_ok-program-2.ensures c.in_ok-command_of.ensures in
    subst (λ (app : App). fold with_offered app (drop (at.subcommand-index + 1) items) ≡ dmlab_app)
    (sym is) (sym (fold_next with_offered (app_of at.program) items at.subcommand-index _
    (search rules)) ∙ at.invariant)
