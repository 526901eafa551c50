-- What becomes of bios and logs where a bio is judged, released, served or finished.
use Rattle.lab_model.proofs.Common.{◌≡◌, ℕ, [], ◌∷◌, List, refl, ap, sym, rules, Meaning, Told}
use Rattle.lab_model.proofs.Common.{told_to, Bio, Entering, release, Judgement, children}
use Rattle.lab_model.specs.declared.parent.Parent.{Parent}
use Rattle.lab_model.proofs.Common.{judgements, pieces, State, Disk}
use Rattle.std.proofs.Common.{append-nil}
use Rattle.law_slots.proofs.ByBio.{Answers, Judges}
use Rattle.law_slots.proofs.ByLine.{Then}
use Rattle.law_answered_once.proofs.Waiting.{GoesOn, IsAnswered, operations_for}

module _ {S : Type 0} (s : State S) (disks : List Disk) (bio : Bio) (told : Told)
    (parent : Parent) where
  -- disks have no part in whom a bio answers to
  pub told_to-bios : (told_to (record s { disks = disks }) bio told parent).bios
      ≡ (told_to s bio told parent).bios
  told_to-bios = search rules

  -- nor in what a log is told
  pub told_to-logs : (told_to (record s { disks = disks }) bio told parent).logs
      ≡ (told_to s bio told parent).logs
  told_to-logs = search rules

-- what a disk or the end of a flight answers
pub answers-moves : {S : Type 0} (s : State S) (at : ℕ) (next : State S) → Answers s at next
    → IsAnswered s at next
answers-moves {S} s at next is = search rules

-- what is released goes on
pub release-goes_on : {S : Type 0} (s : State S) (at : ℕ) → Then (release s at) (GoesOn s at)
release-goes_on s at = record {
  f = λ bio. record bio { stage = Entering };
  keeps = λ bio. refl;
  made = [];
  made_operations = λ log. refl;
  bios = sym (append-nil _);
  logs = refl;
}

-- no log waits for a bio's children: a piece's child answers to the bio
children-operations : (judged : List Judgement) (now device number : ℕ) (bio : Bio) (log : ℕ)
    → operations_for log (children now device number bio judged) ≡ []
children-operations [] now device number bio log = search rules
children-operations (j ∷ more) now device number bio log = search (rules, children-operations more)

-- a bio whose pieces are judged goes on
pub judges-moves : {S : Type 0} (m : Meaning S) (s : State S) (at : ℕ) (next : State S)
    → Judges m s at next → GoesOn s at next
judges-moves {S} m s at next is =
    let bios = ap (λ (t : State S). t.bios) is.is in
    let logs = ap (λ (t : State S). t.logs) is.is in
    let made = children-operations (judgements m is.bio.kind s.clock is.table
    (pieces m is.table is.bio.kind is.bio.span)) s.clock is.device at is.bio in
    search rules
