-- What a run of the program reads and writes (this project's own).
use Rattle.std.specs.Prelude.{◌≡◌, ◌≢◌, ℕ, ◌<◌, ◌≤◌, ◌+◌, ◌↔◌, List, [], true, false, Option, Some}
use Rattle.std.specs.Prelude.{None, length, map, take}
use Rattle.std.specs.String.{string_bytes}
use Rattle.std.specs.Io.KnownBytes.{Appends, Keeps}
use Rattle.clap.specs.Words.{IsAmong, Text, kind_of}
use Rattle.dmlab_words.specs.CommandLine.{NamesWork, faults_of}
use Rattle.dmlab_run.specs.Counting.{WritesInOrder}
use Rattle.dmlab_run.specs.Moved.{AppendsFront}
use Rattle.dmlab_run.specs.Lines.{Output}
use Rattle.dmlab_run.specs.Threads.{IsOutputOf}
use Rattle.dmlab_run.specs.Tried.{AdvisesAll}
use Rattle.dmlab_run.specs.Troubles.{troubles_text}
use Rattle.lab_refusal.specs.Faults.{fault_seen}
use Rattle.lab_refusal.specs.declared.fault.Fault.{Fault}
use Rattle.lab_advice.specs.declared.trouble.Trouble.{Trouble}
use Rattle.lab_any.specs.Any.{any_meaning}
use Rattle.clap.specs.declared.error.Error.{Error}
use Rattle.clap.specs.declared.error.kind.ErrorKind.TheVariants.{DisplayVersion, OutOfMemory}
use Rattle.dmlab_words.specs.declared.work.Work.{Work}
use Rattle.dmlab_run.specs.declared.counted.Counted.{Counted}
use Rattle.dmlab_run.specs.declared.status.Status.{Status}
use Rattle.dmlab_run.specs.declared.status.Status.TheVariants.{Done, Found, NoMemory, ReadFault}
use Rattle.dmlab_run.specs.declared.status.Status.TheVariants.{Refused, Version, Words, WriteFault}

-- the bytes are those that an input has, up to one more than a bundle may have; of an input that
-- doesn't tell its bytes they are no more than that
abbrev pub IsInput : Option (List ℕ) → List ℕ → Type 0
IsInput None bytes = length bytes ≤ 16777217
IsInput (Some known) bytes = bytes ≡ take 16777217 known

-- what a refusal of these bytes tells besides: the advice on what stopped them and on each other
-- fault that is told, all of which the text tells; of the first or of the others nothing, as where
-- memory runs out
abbrev pub IsAdvice : List ℕ → Output → List ℕ → Type 0
IsAdvice bytes told advice = (trouble : Trouble) × (others : List Fault)
    × (map fault_seen others ≡ told.others) × (told.text ≡ troubles_text trouble told.others)
    × AdvisesAll bytes trouble others advice

-- a run on these bytes that told this output whole ended so, and told this besides
abbrev pub Ends : List ℕ → Status → Output → Type 0
Ends bytes (Done besides) told =
    (told.refused ≡ false) × (told.found ≡ false) × (string_bytes besides ≡ told.besides)
Ends bytes (Found besides) told =
    (told.refused ≡ false) × (told.found ≡ true) × (string_bytes besides ≡ told.besides)
Ends bytes (Refused advice) told =
    (told.refused ≡ true) × IsAdvice bytes told (string_bytes advice)
Ends bytes _ told = ⊥

-- the writer took this many bytes, the whole output of the work on the input, and holds more by them
abbrev pub WritesAnswer : Status → Work → Option (List ℕ) → ℕ → Option (List ℕ)
    → Option (List ℕ) → Type 0
WritesAnswer status work input taken old new = (bytes : List ℕ) × (told : Output)
    × IsInput input bytes × IsOutputOf any_meaning work bytes told × Ends bytes status told
    × (taken ≡ length told.text) × Appends old new told.text

-- the writer took fewer, a front of that output
abbrev pub WritesFront : Work → Option (List ℕ) → ℕ → Option (List ℕ) → Option (List ℕ)
    → Type 0
WritesFront work input taken old new = (bytes : List ℕ) × (told : Output) × IsInput input bytes
    × IsOutputOf any_meaning work bytes told × (taken < length told.text)
    × AppendsFront old new told.text

-- what a writer that took this many bytes holds more after work that ended so; no work refuses words
abbrev pub Writes : Status → Work → Option (List ℕ) → ℕ → Option (List ℕ) → Option (List ℕ)
    → Type 0
Writes WriteFault work input taken old new = WritesFront work input taken old new
Writes (Words error) work input taken old new = ⊥
Writes (Version error) work input taken old new = ⊥
Writes NoMemory work input taken old new = Keeps old new
Writes ReadFault work input taken old new = Keeps old new
Writes status work input taken old new = WritesAnswer status work input taken old new

-- the same of one answer to these bytes: it is told whole, or a front of it
abbrev pub TellsAnswer : List ℕ → Status → Output → ℕ → Option (List ℕ) → Option (List ℕ) → Type 0
TellsAnswer bytes WriteFault told taken old new =
    (taken < length told.text) × AppendsFront old new told.text
TellsAnswer bytes status told taken old new =
    Ends bytes status told × (taken ≡ length told.text) × Appends old new told.text

-- what a run by these words made of them, and what a writer that took this many bytes holds more
-- after it
abbrev pub Runs : Status → List Text → Option (List ℕ) → ℕ → Option (List ℕ)
    → Option (List ℕ) → Type 0
Runs (Words error) words input taken old new =
    IsAmong (kind_of error) (faults_of words) × Keeps old new
Runs (Version error) words input taken old new =
    IsAmong (kind_of error) (faults_of words) × Keeps old new
Runs NoMemory words input taken old new = Keeps old new
Runs status words input taken old new =
    (work : Work) × NamesWork words work × (faults_of words ≡ [])
    × Writes status work input taken old new

-- the words asked for no work
abbrev pub IsWords : Status → Type 0
IsWords (Words error) = Unit {0}
IsWords (Version error) = Unit {0}
IsWords _ = ⊥

-- a run that ended so has called no write
abbrev pub IsSilent : Status → Type 0
IsSilent (Done besides) = ⊥
IsSilent (Found besides) = ⊥
IsSilent (Refused advice) = ⊥
IsSilent WriteFault = ⊥
IsSilent _ = Unit {0}

-- what telling the output of work on these bytes does to a writer and to its counts
pub record TellsWork {O : Type 0} (held : O → Option (List ℕ)) (work : Work) (bytes : List ℕ)
    (status : Status) (old new : Counted O) : Type 0 where
  pub fault : (status ≡ WriteFault) ↔ (old.failures < new.failures)
  pub one_fault : new.failures ≤ old.failures + 1
  pub read : status ≢ ReadFault
  pub order : WritesInOrder new
  pub writes : (input : Option (List ℕ)) → IsInput input bytes
      → Writes status work input new.bytes (held old.inner) (held new.inner)
  pub silent : IsSilent status → new ≡ old

-- the status of words that ask for no work
abbrev pub IsStatusOf : Error → Status → Type 0
IsStatusOf error (Words told) =
    (told ≡ error) × (kind_of error ≢ OutOfMemory) × (kind_of error ≢ DisplayVersion)
IsStatusOf error (Version told) = (told ≡ error) × (kind_of error ≡ DisplayVersion)
IsStatusOf error NoMemory = kind_of error ≡ OutOfMemory
IsStatusOf error _ = ⊥
