-- Runs in few bytes: each its value, and its count in digits of 7 bits (this project's own).
use Rattle.std.specs.Prelude.{◌≡◌, ◌≤◌, length, ℕ, ◌+◌, ◌*◌, ◌%◌, ◌^◌, ◌==◌, nat_lt, if◌then◌else◌, List, [], ◌∷◌, ◌++◌, Option, Some, None}
use Rattle.std.specs.List.{flat_map}
use Rattle.lab_text.specs.declared.run.Run.{Run}
use Rattle.lab_text.specs.Runs.{run_text}

-- a run of so many bytes of the value
abbrev pub run_of : ℕ → ℕ → Run
run_of count value = record { count = count; value = value }

-- the count, of 64 bits, with one more digit behind it
abbrev pub with_digit : ℕ → ℕ → ℕ
with_digit count byte = count % 2 ^ 57 * 128 + byte % 128

-- the run whose packed bytes are begun but not at their end, after one more byte: its value comes
-- first, and a digit without the top bit is its last
abbrev pub begun_by : Option Run → ℕ → Option Run
begun_by None byte = Some (run_of 0 byte)
begun_by (Some run) byte =
    if nat_lt byte 128 then None else Some (run_of (with_digit run.count byte) run.value)

-- the run that a byte is the last of, if it is the last of one
abbrev pub ended_by : Option Run → ℕ → List Run
ended_by None byte = []
ended_by (Some run) byte =
    if nat_lt byte 128 then run_of (with_digit run.count byte) run.value ∷ [] else []

-- the run that is begun after some bytes
unfoldable pub begun_after : Option Run → List ℕ → Option Run
begun_after begun [] = begun
begun_after begun (byte ∷ bytes) = begun_after (begun_by begun byte) bytes

-- the runs that end in the bytes, where the first bytes may be those of a run that is begun
unfoldable pub unpacked : Option Run → List ℕ → List Run
unpacked begun [] = []
unpacked begun (byte ∷ bytes) = ended_by begun byte ++ unpacked (begun_by begun byte) bytes

-- the run, if it has a byte
abbrev pub if_filled : Run → List Run
if_filled run = if run.count == 0 then [] else run ∷ []

-- the text of runs that others follow: a space behind each
abbrev pub before_others : List Run → List ℕ
before_others runs = flat_map (λ run. run_text run ++ 32 ∷ []) runs

-- so runs are kept: all but the last packed, in no more bytes than their text has; a last run with
-- no byte says that there is none
pub record AreKept (packed : List ℕ) (last : Run) : Type 0 where
  pub whole : begun_after None packed ≡ None
  pub none : last.count ≡ 0 → packed ≡ []
  pub few : length packed ≤ length (before_others (unpacked None packed))
