-- What is changed in bytes and in sectors, one place after another.
use Rattle.lab_model.proofs.Common.{rules, ◌≡◌, ℕ, suc, ◌+◌, ◌*◌, ◌<◌, List, [], ◌∷◌, ◌++◌, true, nat_eq, ap, sym, ◌∙◌, eqb-true}
use Rattle.lab_model.proofs.Common.{length, drop, get_or, refl, append_assoc, arith, drop_more}
use Rattle.lab_model.proofs.Common.{Sectors, filled}
use Rattle.lab_trace.specs.Written.{bytes_text, change_text, changes_text}

-- bytes that stay as they were are not told
pub bytes_text-same : (place : ℕ) (bytes : List ℕ) → bytes_text place bytes bytes ≡ []
bytes_text-same place [] = search rules
bytes_text-same place (byte ∷ bytes) = search (rules, bytes_text-same (place + 1) bytes)

-- nor are those of sectors of one byte
changes_text-filled : (place before after byte : ℕ)
    → changes_text place (filled before byte) (filled after byte) ≡ []
changes_text-filled place (suc before) (suc after) byte =
    search (rules, changes_text-filled (place + 512) before after byte)
changes_text-filled place before after byte = search rules

-- nor are those of two that are of one byte
pub same-filled : (before after : Sectors) (byte other : ℕ) → before ≡ filled (length before) byte
    → after ≡ filled (length after) other → nat_eq byte other ≡ true
    → changes_text 0 before after ≡ []
same-filled before after byte other one two same = ap (λ xs. changes_text 0 xs after) one
    ∙ ap (changes_text 0 (filled (length before) byte))
    (two ∙ ap (filled (length after)) (sym (eqb-true byte other same)))
    ∙ changes_text-filled 0 (length before) (length after) byte

-- with the byte at a place written, those behind it are left
pub byte-written : (first at : ℕ) (before after written next whole : List ℕ)
    → at < length before → at < length after
    → next ≡ written ++ change_text (first + at) (get_or before at 0) (get_or after at 0)
    → written ++ bytes_text (first + at) (drop at before) (drop at after) ≡ whole
    → next ++ bytes_text (first + (at + 1)) (drop (at + 1) before) (drop (at + 1) after) ≡ whole
byte-written first at before after written next whole within inside next-is so_far =
    let behind : first + at + 1 ≡ first + (at + 1) = omega arith in
    rw (next-is, append_assoc)
    (rw (drop_more before at 0 within, drop_more after at 0 inside, behind) at so_far)

-- with the sector at a place written, those behind it are left
pub sector-written : (place : ℕ) (before after : Sectors) (written next whole : List ℕ)
    → place < length before → place < length after
    → next ≡ written ++ bytes_text (place * 512) (get_or before place []) (get_or after place [])
    → written ++ changes_text (place * 512) (drop place before) (drop place after) ≡ whole
    → next ++ changes_text ((place + 1) * 512) (drop (place + 1) before) (drop (place + 1) after)
    ≡ whole
sector-written place before after written next whole within inside next-is so_far =
    let behind : place * 512 + 512 ≡ (place + 1) * 512 = omega arith in
    rw (next-is, append_assoc)
    (rw (drop_more before place [] within, drop_more after place [] inside, behind) at so_far)

-- no sector is told that no other one stands for
pub changes_text-none : (first : ℕ) (before : Sectors) → changes_text first before [] ≡ []
changes_text-none first [] = refl
changes_text-none first (sector ∷ sectors) = refl
