-- The line of the totals is text.
use Rattle.std.proofs.Common.{rules, ℕ, ◌<◌, ◌^◌, Bool, true, false, List, [], ◌∷◌, ◌≡◌, Result, Err, codes}
use Rattle.std.specs.Prelude.{◌++◌, IsOk, IsUtf8, decimal}
use Rattle.std.specs.List.{All}
use Rattle.std.proofs.lemmas.Fmt.{IsAscii-decimal}
use Rattle.std.proofs.lemmas.Str.{IsUtf8-append, IsUtf8-from_ascii, IsUtf8-nil}
use Rattle.std.proofs.lemmas.Str.Ascii.{IsAscii-from_all}
use Rattle.lab_findings.specs.declared.finding.Finding.{Finding}
use Rattle.lab_findings.specs.declared.finding.Finding.TheVariants.{Eio, Lost, Corrupt, Stale}
use Rattle.lab_findings.specs.declared.finding.Finding.TheVariants.{Misplaced, BrokenSync}
use Rattle.lab_findings.specs.declared.sought.Sought.{Sought}
use Rattle.lab_sweep.specs.FoundRow.{finding_word}
use Rattle.lab_sweep.specs.Totals.{runs_found_text, sought_text, totals_text}
use Rattle.lab_sweep.specs.declared.totals.Totals.{Totals}

-- bytes below 128 are
ascii-text : (bytes : List ℕ) → All (λ byte. byte < 128) bytes → IsUtf8 bytes
ascii-text bytes low = IsUtf8-from_ascii bytes (IsAscii-from_all bytes low)

-- a number in decimal is
decimal-text : (n : ℕ) → n < 2 ^ 64 → IsUtf8 (decimal n)
decimal-text n fits = IsUtf8-from_ascii (decimal n) (IsAscii-decimal n fits)

-- and so is the word of a finding
word-text : (sort : Finding) → IsUtf8 (finding_word sort)
word-text Eio = ascii-text (codes "eio") (search rules)
word-text Lost = ascii-text (codes "lost") (search rules)
word-text Corrupt = ascii-text (codes "corrupt") (search rules)
word-text Stale = ascii-text (codes "stale") (search rules)
word-text Misplaced = ascii-text (codes "misplaced") (search rules)
word-text BrokenSync = IsUtf8-append (codes "broken") (codes "-sync")
    (ascii-text (codes "broken") (search rules)) (ascii-text (codes "-sync") (search rules))

-- the count of a finding
sought-text : (asked : Bool) (sort : Finding) (count : ℕ) → count < 2 ^ 64
    → IsUtf8 (sought_text asked sort count)
sought-text false sort count fits = IsUtf8-nil
sought-text true sort count fits =
    IsUtf8-append (codes " ") (finding_word sort ++ 61 ∷ decimal count)
    (ascii-text (codes " ") (search rules))
    (IsUtf8-append (finding_word sort) (61 ∷ decimal count) (word-text sort)
    (IsUtf8-append (codes "=") (decimal count) (ascii-text (codes "=") (search rules))
    (decimal-text count fits)))

-- the counts of runs
runs-text : (totals : Totals) → totals.runs < 2 ^ 64 → totals.found < 2 ^ 64
    → IsUtf8 (runs_found_text totals)
runs-text totals runs found = IsUtf8-append _ (decimal totals.found)
    (IsUtf8-append _ (codes " found=") (IsUtf8-append (codes "runs=") (decimal totals.runs)
    (ascii-text (codes "runs=") (search rules)) (decimal-text totals.runs runs))
    (ascii-text (codes " found=") (search rules))) (decimal-text totals.found found)

-- and the whole line
pub totals-text : (sought : Sought) (totals : Totals) → totals.runs < 2 ^ 64
    → totals.found < 2 ^ 64 → totals.eio < 2 ^ 64 → totals.lost < 2 ^ 64
    → totals.corrupt < 2 ^ 64 → totals.stale < 2 ^ 64 → totals.misplaced < 2 ^ 64
    → totals.broken_sync < 2 ^ 64 → IsUtf8 (totals_text sought totals)
totals-text sought totals runs found eio lost corrupt stale misplaced broken =
    IsUtf8-append _ (10 ∷ [])
    (IsUtf8-append _ _
    (IsUtf8-append _ _
    (IsUtf8-append _ _
    (IsUtf8-append _ _
    (IsUtf8-append _ _
    (IsUtf8-append (runs_found_text totals) _ (runs-text totals runs found)
    (sought-text sought.eio Eio totals.eio eio))
    (sought-text sought.lost Lost totals.lost lost))
    (sought-text sought.corrupt Corrupt totals.corrupt corrupt))
    (sought-text sought.stale Stale totals.stale stale))
    (sought-text sought.misplaced Misplaced totals.misplaced misplaced))
    (sought-text sought.broken_sync BrokenSync totals.broken_sync broken))
    (ascii-text (10 ∷ []) (search rules))

-- what is made of text is no error
pub made-text : {X E : Type 0} (made : Result X E) {error : E} → made ≡ Err error → IsOk made → ⊥
made-text made is ok = cc
