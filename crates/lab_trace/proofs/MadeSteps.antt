-- The bios that were made, one place after another.
use Rattle.lab_model.proofs.Common.{◌≡◌, ℕ, suc, ◌+◌, ◌-◌, ◌<◌, List, ◌++◌, decimal, append_assoc}
use Rattle.lab_model.proofs.Common.{arith, Option, Bio, State, bio_of}
use Rattle.lab_trace.specs.Made.{comma, entry_text, made_text}

-- what is written with the bio at a place, and what is left, make the whole text
pub one-written : {S : Type 0} (s : State S) (bio : Option Bio) (first place count : ℕ)
    (before mid after whole : List ℕ) → place < count → mid ≡ before ++ comma first place
    → after ≡ mid ++ (decimal (place + 1) ++ entry_text bio (bio_of s (place + 1)))
    → before ++ made_text s bio first place (count - place) ≡ whole
    → after ++ made_text s bio first (place + 1) (count - (place + 1)) ≡ whole
one-written s bio first place count before mid after whole ahead comma-is one-is so_far =
    let left : count - place ≡ suc (count - (place + 1)) = omega arith in
    rw (one-is, comma-is) (simp append_assoc (simp append_assoc at (rw left at so_far)))
