-- What words that are written out name, as the command line is meant.
use Rattle.std.proofs.Common.{rules, ◌≡◌, ℕ, List, [], ◌∷◌, codes, map, refl, Bool, true, false, Some, None}
use Prim.Native.String.{String}
use Rattle.clap.specs.Words.{Kinds, Text}
use Rattle.clap.specs.declared.error.kind.ErrorKind.TheVariants.{ArgumentConflict, DisplayHelp}
use Rattle.clap.specs.declared.error.kind.ErrorKind.TheVariants.{DisplayVersion, InvalidSubcommand}
use Rattle.clap.specs.declared.error.kind.ErrorKind.TheVariants.{MissingRequiredArgument}
use Rattle.clap.specs.declared.error.kind.ErrorKind.TheVariants.{MissingSubcommand, UnknownArgument}
use Rattle.clap.specs.declared.error.kind.ErrorKind.TheVariants.{ValueValidation}
use Rattle.clap.proofs.OnLiterals.{clap_on_literals}
use Rattle.dmlab_words.specs.CommandLine.{NamesWork, faults_of, file_of}
use Rattle.dmlab_words.specs.declared.asked.Asked.{Asked}
use Rattle.dmlab_words.specs.declared.job.Job.TheVariants.{Check, Sim, Audit}
use Rattle.dmlab_words.specs.declared.study.Study.TheVariants.{Disks, DisksHistory, Sweep}
use Rattle.dmlab_words.specs.declared.study.Study.TheVariants.{Trace, TraceHistory}
use Rattle.dmlab_words.specs.declared.work.Work.{Work}
use Rattle.dmlab_words.specs.declared.work.Work.TheVariants.{Alone, CheckAll, Study, Threads}

-- the program's name, and these words behind it
abbrev dmlab : List String → List Text
dmlab words = codes "dmlab" ∷ map codes words

-- the faults of each of some command lines
abbrev each_faults : List (List String) → List Kinds
each_faults = map (λ words. faults_of (dmlab words))

-- these are taken; an option may be given twice
taken : each_faults
    (("check" ∷ []) ∷ ("check" ∷ "--all" ∷ "--all" ∷ []) ∷ ("sim" ∷ [])
    ∷ ("sim" ∷ "--seed" ∷ "18446744073709551615" ∷ [])
    ∷ ("sim" ∷ "--history" ∷ []) ∷ ("sim" ∷ "--prompt" ∷ "--prompt" ∷ [])
    ∷ ("sim" ∷ "--misplaced" ∷ "--fail" ∷ []) ∷ ("threads" ∷ []) ∷ ("threads" ∷ "--history" ∷ [])
    ∷ ("audit" ∷ []) ∷ ("trace" ∷ []) ∷ ("trace" ∷ "--seed" ∷ "7" ∷ "--prompt" ∷ [])
    ∷ ("trace-history" ∷ []) ∷ ("disks" ∷ "--seed" ∷ "7" ∷ "--prompt" ∷ [])
    ∷ ("disks-history" ∷ []) ∷ ("sweep" ∷ "--last" ∷ "9" ∷ "--disks" ∷ "--prompt" ∷ [])
    ∷ ("sweep" ∷ "--last" ∷ "9" ∷ [])
    ∷ ("sweep" ∷ "--first" ∷ "9" ∷ "--last" ∷ "9" ∷ [])
    ∷ ("sweep" ∷ "--last" ∷ "9" ∷ "--eio" ∷ []) ∷ ("sweep" ∷ "--last" ∷ "9" ∷ "--lost" ∷ [])
    ∷ ("sweep" ∷ "--last" ∷ "9" ∷ "--stale" ∷ "--by-line" ∷ [])
    ∷ ("sweep" ∷ "--last" ∷ "9" ∷ "--stale" ∷ "--prompt" ∷ "--lost" ∷ "--eio" ∷ []) ∷ [])
    ≡ [] ∷ [] ∷ [] ∷ [] ∷ [] ∷ [] ∷ [] ∷ [] ∷ [] ∷ [] ∷ [] ∷ [] ∷ [] ∷ [] ∷ [] ∷ [] ∷ [] ∷ [] ∷ []
    ∷ [] ∷ [] ∷ [] ∷ []
unfolding faults_of clap_on_literals
taken = refl

-- these are refused: no word, a number above the greatest, an option of another subcommand, no last
-- seed
refused : each_faults
    ([] ∷ ("--help" ∷ []) ∷ ("--version" ∷ []) ∷ ("help" ∷ [])
    ∷ ("sim" ∷ "--seed" ∷ "18446744073709551616" ∷ [])
    ∷ ("sweep" ∷ "--last" ∷ "18446744073709551616" ∷ [])
    ∷ ("check" ∷ "--seed" ∷ "1" ∷ []) ∷ ("audit" ∷ "--all" ∷ [])
    ∷ ("threads" ∷ "--seed" ∷ "1" ∷ [])
    ∷ ("trace-history" ∷ "--seed" ∷ "1" ∷ []) ∷ ("trace-history" ∷ "--prompt" ∷ [])
    ∷ ("disks-history" ∷ "--prompt" ∷ []) ∷ ("disks" ∷ "--eio" ∷ []) ∷ ("sim" ∷ "--disks" ∷ [])
    ∷ ("trace" ∷ "--stale" ∷ []) ∷ ("sim" ∷ "--by-line" ∷ []) ∷ ("sweep" ∷ []) ∷ [])
    ≡ (MissingSubcommand ∷ []) ∷ (DisplayHelp ∷ []) ∷ (DisplayVersion ∷ [])
    ∷ (UnknownArgument ∷ InvalidSubcommand ∷ []) ∷ (ValueValidation ∷ [])
    ∷ (ValueValidation ∷ []) ∷ (UnknownArgument ∷ []) ∷ (UnknownArgument ∷ [])
    ∷ (UnknownArgument ∷ []) ∷ (UnknownArgument ∷ []) ∷ (UnknownArgument ∷ [])
    ∷ (UnknownArgument ∷ [])
    ∷ (UnknownArgument ∷ []) ∷ (UnknownArgument ∷ []) ∷ (UnknownArgument ∷ [])
    ∷ (UnknownArgument ∷ []) ∷ (MissingRequiredArgument ∷ []) ∷ []
unfolding faults_of clap_on_literals
refused = refl

-- and these, though the parser takes them: the last seed is below the first, no finding is asked for
-- and one is wanted, or findings and disks are asked for
senseless_refused : each_faults
    (("sweep" ∷ "--first" ∷ "9" ∷ "--last" ∷ "8" ∷ []) ∷ ("sim" ∷ "--fail" ∷ [])
    ∷ ("sweep" ∷ "--last" ∷ "9" ∷ "--fail" ∷ []) ∷ ("sweep" ∷ "--last" ∷ "9" ∷ "--by-line" ∷ [])
    ∷ ("sweep" ∷ "--last" ∷ "9" ∷ "--disks" ∷ "--stale" ∷ [])
    ∷ ("sweep" ∷ "--last" ∷ "9" ∷ "--disks" ∷ "--fail" ∷ []) ∷ [])
    ≡ (ValueValidation ∷ []) ∷ (MissingRequiredArgument ∷ []) ∷ (MissingRequiredArgument ∷ [])
    ∷ (MissingRequiredArgument ∷ []) ∷ (ArgumentConflict ∷ []) ∷ (MissingRequiredArgument ∷ []) ∷ []
unfolding faults_of clap_on_literals
senseless_refused = refl

-- the words name this work
abbrev Name : List String → Work → Type 0
Name words work = NamesWork (dmlab words) work

-- an audit, and the trace and the disks of a history are named by a word alone
alone_named : Name ("audit" ∷ []) (Alone Audit) × Name ("trace-history" ∷ []) (Study TraceHistory)
    × Name ("disks-history" ∷ []) (Study DisksHistory)
unfolding NamesWork clap_on_literals
alone_named = (refl, refl, refl)

-- so is a check, and one of all parts by its option
checks_named : Name ("check" ∷ []) (Alone Check) × Name ("check" ∷ "--all" ∷ []) CheckAll
unfolding NamesWork clap_on_literals
checks_named = ((refl, refl), (refl, refl))

-- no finding is asked for, and none is a failure
abbrev nothing_asked : Asked
nothing_asked = record {
  eio = false;
  lost = false;
  corrupt = false;
  stale = false;
  misplaced = false;
  broken_sync = false;
  fail = false;
}

-- a run that these words name is one by this seed, with its events or not, promptly or not, and with
-- these findings
abbrev NameRun : List String → ℕ → Bool → Bool → Asked → Type 0
NameRun words seed history prompt asked = (s : ℕ) (h p : Bool) (a : Asked)
    → Name words (Alone (Sim s h p a))
    → (s ≡ seed) × (h ≡ history) × (p ≡ prompt) × (a ≡ asked)

-- the seed is 0 where none is given, the last where two are, and may be the greatest u64; each flag
-- is read as itself
runs_named : NameRun ("sim" ∷ []) 0 false false nothing_asked
    × NameRun ("sim" ∷ "--seed" ∷ "18446744073709551615" ∷ []) 18446744073709551615 false false
    nothing_asked
    × NameRun ("sim" ∷ "--seed" ∷ "1" ∷ "--seed" ∷ "2" ∷ []) 2 false false nothing_asked
    × NameRun ("sim" ∷ "--history" ∷ []) 0 true false nothing_asked
    × NameRun ("sim" ∷ "--prompt" ∷ "--prompt" ∷ []) 0 false true nothing_asked
    × NameRun ("sim" ∷ "--misplaced" ∷ "--fail" ∷ []) 0 false false
    (record nothing_asked { misplaced = true; fail = true })
unfolding NamesWork clap_on_literals
runs_named = (
  λ s h p a n. (n.1, n.2, n.3, n.4),
  λ s h p a n. (n.1, n.2, n.3, n.4),
  λ s h p a n. (n.1, n.2, n.3, n.4),
  λ s h p a n. (n.1, n.2, n.3, n.4),
  λ s h p a n. (n.1, n.2, n.3, n.4),
  λ s h p a n. (n.1, n.2, n.3, n.4),
)

-- a run by threads tells its events just where asked
threads_named : ((history : Bool) → Name ("threads" ∷ []) (Threads history) → history ≡ false)
    × ((history : Bool) → Name ("threads" ∷ "--history" ∷ []) (Threads history) → history ≡ true)
unfolding NamesWork clap_on_literals
threads_named = (λ history named. named.1, λ history named. named.1)

-- a trace that these words name is one of the run by this seed, promptly or not
abbrev NameTrace : List String → ℕ → Bool → Type 0
NameTrace words seed prompt = (s : ℕ) (p : Bool) → Name words (Study (Trace s p))
    → (s ≡ seed) × (p ≡ prompt)

-- the seed is 0 where none is given
traces_named : NameTrace ("trace" ∷ []) 0 false
    × NameTrace ("trace" ∷ "--seed" ∷ "7" ∷ "--prompt" ∷ []) 7 true
unfolding NamesWork clap_on_literals
traces_named = search rules

-- what stands on the disks, where these words name it, does after the run by this seed, promptly or
-- not
abbrev NameDisks : List String → ℕ → Bool → Type 0
NameDisks words seed prompt = (s : ℕ) (p : Bool) → Name words (Study (Disks s p))
    → (s ≡ seed) × (p ≡ prompt)

-- the seed is 0 where none is given
disks_named : NameDisks ("disks" ∷ []) 0 false
    × NameDisks ("disks" ∷ "--seed" ∷ "7" ∷ "--prompt" ∷ []) 7 true
unfolding NamesWork clap_on_literals
disks_named = search rules

-- a sweep that these words name is one of the seeds from this one to this one; it is prompt or not,
-- and has these findings, by line or not, and runs told apart by disks or not
abbrev NameSweep : List String → ℕ → ℕ → Bool → Asked → Bool → Bool → Type 0
NameSweep words first last prompt asked by_line disks =
    (f l : ℕ) (p : Bool) (a : Asked) (b d : Bool)
    → Name ("sweep" ∷ words) (Study (Sweep f l p a b d))
    → (f ≡ first) × (l ≡ last) × (p ≡ prompt) × (a ≡ asked) × (b ≡ by_line) × (d ≡ disks)

-- the first seed is 0 where none is given; the flags go together, in any order
sweeps_named : NameSweep ("--last" ∷ "9" ∷ []) 0 9 false nothing_asked false false
    × NameSweep ("--first" ∷ "5" ∷ "--last" ∷ "9" ∷ []) 5 9 false nothing_asked false false
    × NameSweep ("--last" ∷ "9" ∷ "--eio" ∷ []) 0 9 false (record nothing_asked { eio = true }) false false
    × NameSweep ("--last" ∷ "9" ∷ "--lost" ∷ "--fail" ∷ []) 0 9 false
    (record nothing_asked { lost = true; fail = true }) false false
    × NameSweep ("--last" ∷ "9" ∷ "--corrupt" ∷ "--by-line" ∷ []) 0 9 false
    (record nothing_asked { corrupt = true }) true false
    × NameSweep ("--last" ∷ "9" ∷ "--broken-sync" ∷ "--prompt" ∷ "--misplaced" ∷ "--stale" ∷ []) 0 9
    true (record nothing_asked { stale = true; misplaced = true; broken_sync = true }) false false
    × NameSweep ("--last" ∷ "9" ∷ "--disks" ∷ []) 0 9 false nothing_asked false true
unfolding NamesWork clap_on_literals
sweeps_named = (
  λ f l p a b d n. (n.1, n.2, n.3, n.4, n.5, n.6),
  λ f l p a b d n. (n.1, n.2, n.3, n.4, n.5, n.6),
  λ f l p a b d n. (n.1, n.2, n.3, n.4, n.5, n.6),
  λ f l p a b d n. (n.1, n.2, n.3, n.4, n.5, n.6),
  λ f l p a b d n. (n.1, n.2, n.3, n.4, n.5, n.6),
  λ f l p a b d n. (n.1, n.2, n.3, n.4, n.5, n.6),
  λ f l p a b d n. (n.1, n.2, n.3, n.4, n.5, n.6),
)

-- the file is the word behind the options or before them; behind two dashes it may begin with one;
-- a second one is refused
files_named : map (λ words. file_of (dmlab words))
    (("check" ∷ []) ∷ ("check" ∷ "a.bundle" ∷ []) ∷ ("check" ∷ "-" ∷ [])
    ∷ ("sim" ∷ "--seed" ∷ "7" ∷ "a.bundle" ∷ []) ∷ ("sim" ∷ "a.bundle" ∷ "--seed" ∷ "7" ∷ [])
    ∷ ("sweep" ∷ "--last" ∷ "9" ∷ "7" ∷ []) ∷ ("check" ∷ "--" ∷ "--seed" ∷ []) ∷ [])
    ≡ None ∷ Some (codes "a.bundle") ∷ Some (codes "-") ∷ Some (codes "a.bundle")
    ∷ Some (codes "a.bundle") ∷ Some (codes "7") ∷ Some (codes "--seed") ∷ []
unfolding file_of clap_on_literals
files_named = refl

-- these are taken, and a second file is refused
file_faults : each_faults (("check" ∷ "a.bundle" ∷ []) ∷ ("check" ∷ "--" ∷ "--seed" ∷ [])
    ∷ ("sweep" ∷ "--last" ∷ "9" ∷ "-" ∷ []) ∷ ("check" ∷ "a" ∷ "b" ∷ []) ∷ [])
    ≡ [] ∷ [] ∷ [] ∷ (UnknownArgument ∷ []) ∷ []
unfolding faults_of clap_on_literals
file_faults = refl
