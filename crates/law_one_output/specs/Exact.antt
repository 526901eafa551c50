-- What the program writes is settled by the words and the bundle's bytes (this project's own).
use Rattle.std.specs.Prelude.{◌≡◌, ℕ, List}
use Rattle.lab_target.specs.Meaning.{Meaning}
use Rattle.dmlab_run.specs.AllParts.{IsAllOutput}
use Rattle.dmlab_run.specs.Lines.{Output}
use Rattle.dmlab_run.specs.Output.{IsOutput}
use Rattle.dmlab_run.specs.Studies.{IsStudyOutput}
use Rattle.dmlab_words.specs.declared.job.Job.{Job}
use Rattle.dmlab_words.specs.declared.study.Study.{Study}

-- a job on some bytes has one output: whether it is a refusal or has found a failure, its text, and
-- what standard error is told besides
abbrev pub OutputIsOne : {S : Type 0} → Meaning S → Type 0
OutputIsOne m = (job : Job) (bytes : List ℕ) (one other : Output) → IsOutput m job bytes one
    → IsOutput m job bytes other → one ≡ other

-- and so has a study: a trace, the disks, or a sweep with findings, with disks or without
abbrev pub StudyIsOne : {S : Type 0} → Meaning S → Type 0
StudyIsOne m = (study : Study) (bytes : List ℕ) (one other : Output)
    → IsStudyOutput m study bytes one → IsStudyOutput m study bytes other → one ≡ other

-- and so has a check of all parts: which faults are told beside the first one, and in which order
abbrev pub AllIsOne : {S : Type 0} → Meaning S → Type 0
AllIsOne m = (bytes : List ℕ) (one other : Output) → IsAllOutput m bytes one
    → IsAllOutput m bytes other → one ≡ other

-- a job on any bytes has an output: no bytes fall between the kinds of answers
abbrev pub HasOutput : {S : Type 0} → Meaning S → Type 0
HasOutput m = (job : Job) (bytes : List ℕ) → (told : Output) × IsOutput m job bytes told

-- and so has a check of all parts
abbrev pub HasAllOutput : {S : Type 0} → Meaning S → Type 0
HasAllOutput m = (bytes : List ℕ) → (told : Output) × IsAllOutput m bytes told
