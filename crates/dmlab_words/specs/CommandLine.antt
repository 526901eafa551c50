-- The program's words, by the words of the parser `clap` (the command line is this project's own).
use Rattle.std.specs.Prelude.{◌≡◌, ◌⊎◌, List, Option, Some, None, codes, true, false}
use Rattle.clap.specs.Words.{App, Kinds, Row, Text, fault_of, first_of, new_app, subcommand_of, with_rule, with_subcommand}
use Rattle.clap.specs.Kinds.{or_else}
use Rattle.dmlab_words.specs.Findings.{asked_by, senseless_in, with_findings}
use Rattle.dmlab_words.specs.Options.{all_rule, by_line_rule, disks_rule, file_rule, first_rule}
use Rattle.dmlab_words.specs.Options.{history_rule, is_asked, last_rule, number_under, prompt_rule}
use Rattle.dmlab_words.specs.Options.{seed_of, seed_rule}
use Rattle.dmlab_words.specs.declared.job.Job.TheVariants.{Check, Sim, Audit}
use Rattle.dmlab_words.specs.declared.study.Study.{Study}
use Rattle.dmlab_words.specs.declared.study.Study.TheVariants.{Disks, DisksHistory, Sweep}
use Rattle.dmlab_words.specs.declared.study.Study.TheVariants.{Trace, TraceHistory}
use Rattle.dmlab_words.specs.declared.work.Work.{Work}
use Rattle.dmlab_words.specs.declared.work.Work.TheVariants.{Alone, CheckAll, Study as Studies}
use Rattle.dmlab_words.specs.declared.work.Work.TheVariants.{Threads}

-- the program with this subcommand, which also takes `[FILE]` behind its options
abbrev pub with_command : App → App → App
with_command app below = with_subcommand app (with_rule below file_rule).top

-- `check [--all]`
abbrev pub check_app : App
check_app = with_rule (new_app (codes "check")) all_rule

-- `sim [--seed N]`
abbrev pub seeded_app : App
seeded_app = with_rule (new_app (codes "sim")) seed_rule

-- `sim [--seed N] [--prompt]`
abbrev pub prompted_app : App
prompted_app = with_rule seeded_app prompt_rule

-- `sim [--seed N] [--prompt] [--history]`
abbrev pub retold_app : App
retold_app = with_rule prompted_app history_rule

-- the same, and the options of findings
abbrev pub sim_app : App
sim_app = with_findings retold_app

-- `audit`
abbrev pub audit_app : App
audit_app = new_app (codes "audit")

-- a command that has a version, `--version` or `-V`, wants one of its subcommands, and has none for
-- help; of an option that is given twice the last counts
abbrev pub wanting_subcommand : App → App
wanting_subcommand a = record a {
  top = record a.top {
    has_version = true;
    args_override_self = true;
    disable_help_subcommand = true;
    subcommand_required = true;
  };
}

-- `dmlab` before its subcommands
abbrev pub program_app : App
program_app = wanting_subcommand (new_app (codes "dmlab"))

-- `threads [--history]`
abbrev pub threads_app : App
threads_app = with_rule (new_app (codes "threads")) history_rule

-- `dmlab check`, `dmlab sim`, `dmlab threads` and `dmlab audit`, each with its options
abbrev pub running_app : App
running_app = with_command (with_command (with_command (with_command program_app
    check_app) sim_app) threads_app) audit_app

-- `trace [--seed N]`
abbrev pub seeded_trace_app : App
seeded_trace_app = with_rule (new_app (codes "trace")) seed_rule

-- `trace [--seed N] [--prompt]`
abbrev pub trace_app : App
trace_app = with_rule seeded_trace_app prompt_rule

-- `trace-history`
abbrev pub trace_history_app : App
trace_history_app = new_app (codes "trace-history")

-- `disks [--seed N]`
abbrev pub seeded_disks_app : App
seeded_disks_app = with_rule (new_app (codes "disks")) seed_rule

-- `disks [--seed N] [--prompt]`
abbrev pub disks_app : App
disks_app = with_rule seeded_disks_app prompt_rule

-- `disks-history`
abbrev pub disks_history_app : App
disks_history_app = new_app (codes "disks-history")

-- `sweep [--first N]`
abbrev pub first_sweep_app : App
first_sweep_app = with_rule (new_app (codes "sweep")) first_rule

-- `sweep [--first N] --last N`
abbrev pub ranged_sweep_app : App
ranged_sweep_app = with_rule first_sweep_app last_rule

-- `sweep [--first N] --last N [--prompt]`
abbrev pub prompted_sweep_app : App
prompted_sweep_app = with_rule ranged_sweep_app prompt_rule

-- `sweep [--first N] --last N [--prompt]`, the options of findings, and `[--by-line] [--disks]`
abbrev pub sweep_app : App
sweep_app = with_rule (with_rule (with_findings prompted_sweep_app) by_line_rule) disks_rule

-- the same as before, and `dmlab trace [--seed N] [--prompt]` and `dmlab trace-history`
abbrev pub traced_app : App
traced_app = with_command (with_command running_app trace_app) trace_history_app

-- the same, and `dmlab disks [--seed N] [--prompt]` and `dmlab disks-history`
abbrev pub stored_app : App
stored_app = with_command (with_command traced_app disks_app) disks_history_app

-- the same and `dmlab sweep` with its options
abbrev pub dmlab_app : App
dmlab_app = with_command stored_app sweep_app

-- the kinds of error that the words may give, none where they ask for work: those of the parser, or
-- where it takes them those of words without sense; the first word is the program's own
unfoldable pub faults_of : List Text → Kinds
faults_of words =
    or_else (fault_of dmlab_app words) (senseless_in (subcommand_of dmlab_app words))

-- what a subcommand of this name and with these matches asks for, one of those that study many
-- events or runs
abbrev pub IsStudyOf : Text → List Row → Study → Type 0
IsStudyOf name rows (Trace seed prompt) = (name ≡ codes "trace") × (seed ≡ seed_of rows)
    × (prompt ≡ is_asked (codes "prompt") rows)
IsStudyOf name rows TraceHistory = name ≡ codes "trace-history"
IsStudyOf name rows (Disks seed prompt) = (name ≡ codes "disks") × (seed ≡ seed_of rows)
    × (prompt ≡ is_asked (codes "prompt") rows)
IsStudyOf name rows DisksHistory = name ≡ codes "disks-history"
IsStudyOf name rows (Sweep first last prompt asked by_line disks) = (name ≡ codes "sweep")
    × (first ≡ number_under (codes "first") rows) × (last ≡ number_under (codes "last") rows)
    × (prompt ≡ is_asked (codes "prompt") rows) × (asked ≡ asked_by rows)
    × (by_line ≡ is_asked (codes "by-line") rows) × (disks ≡ is_asked (codes "disks") rows)

-- what a subcommand with these matches asks for
abbrev pub IsWorkOf : Option (Text × List Row) → Work → Type 0
IsWorkOf None work = ⊥
IsWorkOf (Some (name, rows)) (Alone Check) =
    (name ≡ codes "check") × (is_asked (codes "all") rows ≡ false)
IsWorkOf (Some (name, rows)) CheckAll =
    (name ≡ codes "check") × (is_asked (codes "all") rows ≡ true)
IsWorkOf (Some (name, rows)) (Alone (Sim seed history prompt asked)) =
    (name ≡ codes "sim") × (seed ≡ seed_of rows) × (history ≡ is_asked (codes "history") rows)
    × (prompt ≡ is_asked (codes "prompt") rows) × (asked ≡ asked_by rows)
IsWorkOf (Some (name, rows)) (Alone Audit) = name ≡ codes "audit"
IsWorkOf (Some (name, rows)) (Threads history) =
    (name ≡ codes "threads") × (history ≡ is_asked (codes "history") rows)
IsWorkOf (Some (name, rows)) (Studies study) = IsStudyOf name rows study

-- the name is of a subcommand that studies many events or runs
abbrev pub NamesStudy : Text → Type 0
NamesStudy name = (name ≡ codes "trace") ⊎ (name ≡ codes "trace-history")
    ⊎ (name ≡ codes "disks") ⊎ (name ≡ codes "disks-history") ⊎ (name ≡ codes "sweep")

-- the subcommand that was met is one of the program's
abbrev pub HasWork : Option (Text × List Row) → Type 0
HasWork None = ⊥
HasWork (Some (name, rows)) = (name ≡ codes "check") ⊎ (name ≡ codes "sim")
    ⊎ (name ≡ codes "threads") ⊎ (name ≡ codes "audit") ⊎ NamesStudy name

-- the words ask for this
unfoldable pub NamesWork : List Text → Work → Type 0
NamesWork words work = IsWorkOf (subcommand_of dmlab_app words) work

-- the name that these matches of a subcommand give the bundle's file
abbrev pub file_in : Option (Text × List Row) → Option Text
file_in None = None
file_in (Some (name, rows)) = first_of (codes "FILE") rows

-- the name that the words give the bundle's file
unfoldable pub file_of : List Text → Option Text
file_of words = file_in (subcommand_of dmlab_app words)
