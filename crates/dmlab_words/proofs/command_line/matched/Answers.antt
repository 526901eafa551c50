-- `clap` parses the words by the program's command line; then what they ask for is looked at.
use Rattle.std.proofs.Common.{◌≡◌, ◌∙◌, [], ap, map, sym}
use Rattle.clap.specs.Words.{HasKind, app_of, fault_of}
use Rattle.clap.proofs.FaultLemmas.{failed_up}
use Rattle.dmlab_words.specs.CommandLine.{dmlab_app, faults_of}
use Rattle.dmlab_words.specs.Findings.{senseless_in}
use Rattle.dmlab_words.proofs.CommandLineLemmas.{HasWork-met, first_kinds, met_by_words, of_own, or_else-second, second_kinds}
use Rattle.dmlab_words.proofs.command_line.matched.Goals as goal

-- an error of the parse is passed up as it is
pub returns-in_err-matches-clause-kinds : goal.returns-in_err-matches-clause-kinds
unfolding faults_of
returns-in_err-matches-clause-kinds g c =
    let words = map g.S.AsStr.text c.args.words.now in
    let error = c.in_err-matches.field-0.0 in
    failed_up c.from_residual-in_err-matches.result error _ (faults_of words)
    c.from_residual-in_err-matches.ensures.1
    (first_kinds (fault_of dmlab_app words) _ error
    (of_own (λ app. HasKind (fault_of app words) error) (app_of c.in_ok-dmlab.field-0)
    c.in_ok-dmlab.ensures c.in_err-matches.ensures.kinds))

-- and so is that of words without sense, which the parse took
pub returns-in_err-has_sense-clause-kinds : goal.returns-in_err-has_sense-clause-kinds
unfolding faults_of
returns-in_err-has_sense-clause-kinds g c =
    let words = map g.S.AsStr.text c.args.words.now in
    let error = c.in_err-has_sense.field-0.0 in
    failed_up c.from_residual-in_err-has_sense.result error _ (faults_of words)
    c.from_residual-in_err-has_sense.ensures.1
    (second_kinds (fault_of dmlab_app words) _ _ error
    (of_own (λ app. fault_of app words ≡ []) (app_of c.in_ok-dmlab.field-0)
    c.in_ok-dmlab.ensures c.in_ok-matches.ensures.kinds)
    (ap senseless_in (met_by_words (app_of c.in_ok-dmlab.field-0) words c.in_ok-matches.matches
    c.in_ok-dmlab.ensures c.in_ok-matches.ensures.matches))
    c.in_err-has_sense.ensures)

-- the subcommand that was met is the one that the words name
pub returns-clause-met : goal.returns-clause-met
returns-clause-met g c = met_by_words (app_of c.in_ok-dmlab.field-0) _ c.in_ok-matches.matches
    c.in_ok-dmlab.ensures c.in_ok-matches.ensures.matches

-- which is one of the program's
pub returns-clause-work : goal.returns-clause-work
returns-clause-work g c =
    HasWork-met (app_of c.in_ok-dmlab.field-0) _ c.in_ok-matches.matches c.in_ok-dmlab.ensures
    (of_own (λ app. fault_of app (map g.S.AsStr.text c.args.words.now) ≡ []) _ c.in_ok-dmlab.ensures
    c.in_ok-matches.ensures.kinds) c.in_ok-matches.ensures.matches

-- the parse took the words, and they have sense
pub returns-clause-kinds : goal.returns-clause-kinds
unfolding faults_of
returns-clause-kinds g c =
    let words = map g.S.AsStr.text c.args.words.now in
    or_else-second (fault_of dmlab_app words) _
    (of_own (λ app. fault_of app words ≡ []) (app_of c.in_ok-dmlab.field-0)
    c.in_ok-dmlab.ensures c.in_ok-matches.ensures.kinds)
    ∙ sym (ap senseless_in (met_by_words (app_of c.in_ok-dmlab.field-0) words
    c.in_ok-matches.matches c.in_ok-dmlab.ensures c.in_ok-matches.ensures.matches))
    ∙ c.in_ok-has_sense.ensures
