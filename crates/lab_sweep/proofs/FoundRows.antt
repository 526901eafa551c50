-- The rows of what was noted, gone through from its end, and the word of a target.
use Rattle.lab_model.proofs.Common.{◌≡◌, ◌∙◌, ℕ, ◌+◌, ◌-◌, ◌<◌, ◌≤◌, List, [], ◌∷◌, ◌++◌, DevNo, ap}
use Rattle.lab_model.proofs.Common.{append_assoc, arith, drop, drop_more, get_or, length, ne_eqb}
use Rattle.lab_model.proofs.Common.{append-nil, ap₂, eqb, false, refl, sym, Option}
use Rattle.std.specs.Prelude.{reverse}
use Rattle.std.proofs.lemmas.Grind.{common_steps}
use Rattle.std.proofs.lemmas.List.Sums.{take_while-cons}
use Rattle.lab_next.specs.declared.origin.Origin.{Origin}
use Rattle.lab_findings.specs.declared.noted.Noted.{Noted}
use Rattle.lab_findings.specs.declared.noted.Noted.TheVariants.{Found as Finds, Synced as Syncs}
use Rattle.lab_sweep.specs.FoundRow.{type_text}
use Rattle.lab_sweep.specs.FoundRows.{row_here, rows_found, sync_here, sync_of}
use Rattle.lab_sweep.specs.declared.found_row.FoundRow.{FoundRow}

-- a row tells the same where the syncs are the same
pub row-same : (one : Noted) (later other : DevNo → Option Origin)
    → ((device : DevNo) → later device ≡ other device) → row_here one later ≡ row_here one other
row-same (Finds found) later other same = rw (same found.device) refl
row-same (Syncs synced) later other same = refl

-- the rows from the last one on end with the first one
pub reverse-row : (one : Noted) (rest : List Noted)
    → reverse (rows_found (one ∷ rest)) ≡ reverse (rows_found rest) ++ row_here one (sync_of rest)
reverse-row (Finds found) rest = grind (arith, common_steps)
reverse-row (Syncs synced) rest = sym (append-nil (reverse (rows_found rest)))

-- a device's sync is the same where those after it are
pub sync-same : (one : Noted) (later other : DevNo → Option Origin)
    → ((device : DevNo) → later device ≡ other device) → (device : DevNo)
    → sync_here one later device ≡ sync_here one other device
sync-same (Finds found) later other same device = same device
sync-same (Syncs synced) later other same device = rw (same device) refl

-- one byte more of a word is written
pub type-more : (text longer bytes whole : List ℕ) (place : ℕ) → place < length bytes
    → (get_or bytes place 0 ≡ 0 → ⊥) → longer ≡ text ++ get_or bytes place 0 ∷ []
    → text ++ type_text (drop place bytes) ≡ whole
    → longer ++ type_text (drop (place + 1) bytes) ≡ whole
type-more text longer bytes whole place within some written before =
    let here : drop place bytes ≡ get_or bytes place 0 ∷ drop (place + 1) bytes =
    drop_more bytes place 0 within in
    let other : eqb (get_or bytes place 0) 0 ≡ false = ne_eqb (get_or bytes place 0) 0 some in
    let word : type_text (drop place bytes)
    ≡ get_or bytes place 0 ∷ type_text (drop (place + 1) bytes) =
    rw (here, take_while-cons, other) refl in
    rw (written, append_assoc) (rw word at before)

-- what was noted at the place before comes in front of what was noted from here on
pub drop-back : (noted : List Noted) (place : ℕ) (d : Noted) → 0 < place → place ≤ length noted
    → drop (place - 1) noted ≡ get_or noted (place - 1) d ∷ drop place noted
drop-back noted place d some within =
    let next : place - 1 + 1 ≡ place = omega arith in
    rw next at (drop_more noted (place - 1) d (omega arith))

-- the row of one thing more that was noted comes in front of the others
pub rows-more : (whole rest : List Noted) (one : Noted) (rows longer : List FoundRow)
    (later : DevNo → Option Origin) → whole ≡ one ∷ rest → rows ≡ reverse (rows_found rest)
    → ((device : DevNo) → later device ≡ sync_of rest device)
    → longer ≡ rows ++ row_here one later → longer ≡ reverse (rows_found whole)
rows-more whole rest one rows longer later here before same more =
    more ∙ ap₂ (λ r h. r ++ h) before (row-same one later (sync_of rest) same)
    ∙ sym (reverse-row one rest) ∙ ap (λ all. reverse (rows_found all)) (sym here)

-- the first syncs with one thing more that was noted
pub syncs-more : (whole rest : List Noted) (one : Noted) (later next : DevNo → Option Origin)
    → whole ≡ one ∷ rest → ((device : DevNo) → later device ≡ sync_of rest device)
    → ((device : DevNo) → next device ≡ sync_here one later device) → (device : DevNo)
    → next device ≡ sync_of whole device
syncs-more whole rest one later next here same more device =
    more device ∙ sync-same one later (sync_of rest) same device
    ∙ ap (λ all. sync_of all device) (sym here)
