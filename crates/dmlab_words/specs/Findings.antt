-- The words that ask for findings, and which of them are refused though the parser takes them (this
-- project's own).
use Rattle.std.specs.Prelude.{List, [], ◌∷◌, Bool, ◌&&◌, ◌||◌, not, Option, codes, if◌then◌else◌, nat_lt}
use Rattle.std.specs.Option.{option_map_or}
use Rattle.clap.specs.Words.{App, Kinds, Row, Text, with_rule}
use Rattle.clap.specs.declared.error.kind.ErrorKind.TheVariants.{ArgumentConflict}
use Rattle.clap.specs.declared.error.kind.ErrorKind.TheVariants.{MissingRequiredArgument}
use Rattle.clap.specs.declared.error.kind.ErrorKind.TheVariants.{ValueValidation}
use Rattle.dmlab_words.specs.Options.{flag_rule, is_asked, number_under}
use Rattle.dmlab_words.specs.declared.asked.Asked.{Asked}

-- the command with the options of findings behind its others: `[--eio] [--lost] [--corrupt]
-- [--stale] [--misplaced] [--broken-sync] [--fail]`
abbrev pub with_findings : App → App
with_findings app = with_rule (with_rule (with_rule (with_rule (with_rule (with_rule (with_rule app
    (flag_rule (codes "eio"))) (flag_rule (codes "lost"))) (flag_rule (codes "corrupt")))
    (flag_rule (codes "stale"))) (flag_rule (codes "misplaced")))
    (flag_rule (codes "broken-sync"))) (flag_rule (codes "fail"))

-- what a subcommand with these matches asks for of findings
abbrev pub asked_by : List Row → Asked
asked_by rows = record {
  eio = is_asked (codes "eio") rows;
  lost = is_asked (codes "lost") rows;
  corrupt = is_asked (codes "corrupt") rows;
  stale = is_asked (codes "stale") rows;
  misplaced = is_asked (codes "misplaced") rows;
  broken_sync = is_asked (codes "broken-sync") rows;
  fail = is_asked (codes "fail") rows;
}

-- some finding is asked for
abbrev pub is_seeking : Asked → Bool
is_seeking asked = asked.eio
    || (asked.lost || (asked.corrupt || (asked.stale || (asked.misplaced || asked.broken_sync))))

-- findings are to be counted by line, or to be a failure
abbrev pub wants_finding : List Row → Bool
wants_finding rows = is_asked (codes "by-line") rows || is_asked (codes "fail") rows

-- the last seed is below the first
abbrev pub has_no_seed : List Row → Bool
has_no_seed rows = nat_lt (number_under (codes "last") rows) (number_under (codes "first") rows)

-- disks are to tell runs apart, and findings are asked for
abbrev pub has_both : List Row → Bool
has_both rows = is_asked (codes "disks") rows && is_seeking (asked_by rows)

-- the kind of error of matches that ask for no work: they name no seed, want a finding and ask for
-- none, or ask for findings and for what stands on the disks
abbrev pub senseless : List Row → Kinds
senseless rows = if has_no_seed rows then ValueValidation ∷ []
    else (if wants_finding rows && not (is_seeking (asked_by rows))
    then MissingRequiredArgument ∷ [] else (if has_both rows then ArgumentConflict ∷ [] else []))

-- the same of the subcommand that a parse met, with its matches
abbrev pub senseless_in : Option (Text × List Row) → Kinds
senseless_in met = option_map_or (λ p. senseless p.1) met []
