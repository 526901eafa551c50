-- What events leave that judge nothing: each living bio is one that lived before, the same but for
-- its stage, or one that a log has made behind the others; and each lives on, but for one that is
-- answered.
use Rattle.lab_model.proofs.Common.{rules, ◌++◌, ◌<◌, ap, arith, false, inl, inr, length}
use Rattle.lab_model.proofs.Common.{length-append, List, ℕ, map, None, Option, refl, Some, subst}
use Rattle.lab_model.proofs.Common.{sym, true, true≢false, ◌∙◌, ◌≡◌, ◌≢◌, ◌≤◌, ◌⊎◌, option_map, Bio}
use Rattle.lab_model.proofs.Common.{bio_of, change_numbered, Entering, In, Meaning}
use Rattle.lab_model.proofs.Common.{length-change_numbered, Scenario, Stage, State}
use Rattle.law_never_wrong.proofs.NumberedEntries.{BecameOr, inside-there, removed-cases}
use Rattle.law_never_wrong.proofs.NumberedEntries.{removed-there, entry-stays}
use Rattle.law_sectors_touched.proofs.Words.{descends, entries-cases, entry_at, Fits}
use Rattle.law_sectors_touched.proofs.Descent.{is_flying, IsLogs, Passage, Stayed}

-- a bio that lived before, the same but for its stage, and in flight only where it was
pub record Kept {S : Type 0} (s : State S) (number : ℕ) (bio : Bio) : Type 0 where
  pub stayed : Stayed s number bio
  pub open stayed use *
  pub flies : is_flying bio.stage ≡ is_flying stayed.old.stage

-- a bio that a log has made behind the others
pub record IsNew {S : Type 0} (s : State S) (number : ℕ) (bio : Bio) : Type 0 where
  pub behind : length s.bios < number
  pub logs : IsLogs bio.parent
  pub enters : bio.stage ≡ Entering

-- a bio that lives on, the same but for its stage, and in flight where it was
pub record Remained {S : Type 0} (next : State S) (number : ℕ) (bio : Bio) : Type 0 where
  pub later : Bio
  pub lives : bio_of next number ≡ Some later
  pub same : later ≡ record bio { stage = later.stage }
  pub flies : is_flying later.stage ≡ is_flying bio.stage

-- what an event leaves that judges nothing: of the bios at most that of one number is gone, and no
-- bio has the number 0
pub record Leaves {S : Type 0} (s : State S) (at : ℕ) (next : State S) : Type 0 where
  -- no fewer are numbered
  pub count : length s.bios ≤ length next.bios
  -- the one was
  pub numbered : at ≤ length s.bios
  -- each is kept, or new
  pub each : (number : ℕ) (bio : Bio) → bio_of next number ≡ Some bio
      → Kept s number bio ⊎ IsNew s number bio
  -- the one isn't there
  pub without : bio_of next at ≡ None
  -- the others are
  pub remains : (number : ℕ) (bio : Bio) → bio_of s number ≡ Some bio → number ≢ at
      → Remained next number bio

-- what an event leaves that answers nothing: those in flight are the same, too
pub record LeavesAll {S : Type 0} (s next : State S) : Type 0 where
  pub leaves : Leaves s 0 next
  pub same : (number : ℕ) (bio : Bio) → bio_of next number ≡ Some bio
      → is_flying bio.stage ≡ true → bio_of s number ≡ Some bio

-- a bio that lives on as it was
pub itself-kept : {S : Type 0} (s : State S) (number : ℕ) (bio : Bio)
    → bio_of s number ≡ Some bio → Kept s number bio
itself-kept s number bio lives =
    record { stayed = record { old = bio; stood = lives; same = refl }; flies = refl }

module _ {S : Type 0} {s : State S} {at : ℕ} {next : State S} (leaves : Leaves s at next) where
  -- a bio of a number that was given before was there
  pub numbered-kept : (number : ℕ) (bio : Bio) → number ≤ length s.bios
      → bio_of next number ≡ Some bio → Kept s number bio
  numbered-kept number bio up lives = search rules

  -- so it stayed
  pub leaves-passage : {m : Meaning S} {c : Scenario S} {first : ℕ} → Fits m c next
      → first ≤ length s.bios → Passage m c first s next
  leaves-passage fits up = record
      { fits = fits; numbered = up; stayed = λ n b at lives. (numbered-kept n b at lives).stayed }

  -- what descends from a bio that was numbered was there: no new one does
  pub came-kept : {m : Meaning S} {c : Scenario S} {first : ℕ} → Passage m c first s next
      → (number : ℕ) (bio : Bio) → bio_of next number ≡ Some bio
      → descends next first number ≡ true → Kept s number bio
  came-kept {first = first} p number bio lives comes = search rules

-- what an event does to the bios that judges nothing: that of one number goes, another one has
-- another stage, in flight where it was, and logs make some that enter behind the others
pub record Edit {S : Type 0} (s : State S) (gone : ℕ) (next : State S) : Type 0 where
  pub numbered : gone ≤ length s.bios
  pub at : ℕ
  pub stage : Bio → Stage
  pub flies : (b : Bio) → bio_of s at ≡ Some b → is_flying (stage b) ≡ is_flying b.stage
  pub made : List Bio
  pub enter : (b : Bio) → In b made → IsLogs b.parent × (b.stage ≡ Entering)
  pub bios : next.bios ≡ change_numbered (change_numbered s.bios gone (λ entry. None)) at
      (option_map (λ (b : Bio). record b { stage = stage b })) ++ map Some made

module _ {S : Type 0} {s : State S} {gone : ℕ} {next : State S} (e : Edit s gone next) where
  -- the other stage
  abbrev pub staged : Bio → Bio
  staged b = record b { stage = e.stage b }

  -- the bios without the one that is gone
  abbrev rest : List (Option Bio)
  rest = change_numbered s.bios gone (λ entry. None)

  -- a bio after it isn't the one that is gone: it was there, or it is new
  pub edit-cases : (n : ℕ) (y : Bio) → bio_of next n ≡ Some y → (n ≢ gone)
      × (BecameOr staged s.bios e.at n y ⊎ ((length s.bios < n) × In y e.made))
  edit-cases n y there = entries-cases (λ n y. (n ≢ gone)
      × (BecameOr staged s.bios e.at n y ⊎ ((length s.bios < n) × In y e.made)))
      rest e.at staged e.made (λ b stood.
      let was = removed-cases s.bios gone e.at b stood in
      (was.0, inl (inl (record { same = refl; old = b; stood = was.1; is = refl }))))
      (λ n b apart stood.
      let was = removed-cases s.bios gone n b stood in (was.0, inl (inr (apart, was.1))))
      (λ n b far among.
      let long = length-change_numbered s.bios (λ entry. None) gone in (
        (λ is. absurd (omega (arith, far, long, is, e.numbered))),
        inr (omega (arith, far, long), among),
      )) n y (subst (λ bios. entry_at bios n ≡ Some y) e.bios there)

  -- so each that was there is kept
  edit-kept : (n : ℕ) (y : Bio) → BecameOr staged s.bios e.at n y → Kept s n y
  edit-kept n y (inl became) = record {
    stayed = record {
      old = became.old;
      stood = ap (bio_of s) became.same ∙ became.stood;
      same = rw became.is refl;
    };
    flies = ap (λ b. is_flying b.stage) became.is ∙ e.flies became.old became.stood;
  }
  edit-kept n y (inr other) = itself-kept s n y other.1

  -- and it leaves the others
  pub edit-leaves : Leaves s gone next
  edit-leaves = record {
    count = omega (
      arith,
      ap length e.bios ∙ length-append (change_numbered rest e.at
          (option_map staged)) (map Some e.made),
      length-change_numbered rest (option_map staged) e.at,
      length-change_numbered s.bios (λ entry. None) gone,
    );
    numbered = e.numbered;
    each = λ n y there. elim (edit-cases n y there).1 [
      | inl was ↦ inl (edit-kept n y was)
      | inr new ↦
          let enters = e.enter y new.1 in
          inr (record { behind = new.0; logs = enters.0; enters = enters.1 })
    ];
    without = by_bio (bio_of next gone) refl;
    remains = λ n y lives apart. elim
        (inside-there staged rest e.at n y (removed-there s.bios gone n y apart lives)) [
          | inl one ↦ record {
            later = staged y;
            lives = on n (staged y) one.1;
            same = refl;
            flies = e.flies y (ap (bio_of s) (sym one.0) ∙ lives);
          }
          | inr kept ↦ record { later = y; lives = on n y kept; same = refl; flies = refl }
        ];
  }
    where
      by_bio : (o : Option Bio) → bio_of next gone ≡ o → o ≡ None
      by_bio None lives = refl
      by_bio (Some bio) lives = absurd ((edit-cases gone bio lives).0 refl)

      on : (n : ℕ) (y : Bio) → entry_at (change_numbered rest e.at (option_map staged)) n ≡ Some y
          → bio_of next n ≡ Some y
      on n y there = subst (λ bios. entry_at bios n ≡ Some y) (sym e.bios)
          (entry-stays _ (map Some e.made) n y there)

-- where none goes, and one that changes isn't in flight then, those in flight are the same
pub edit-all : {S : Type 0} {s next : State S} (e : Edit s 0 next)
    → ((b : Bio) → bio_of s e.at ≡ Some b → is_flying (e.stage b) ≡ false) → LeavesAll s next
edit-all e rests = record {
  leaves = edit-leaves e;
  same = λ n y there flies. elim (edit-cases e n y there).1 [
    | inl (inl became) ↦ absurd (true≢false
        (sym flies ∙ ap (λ b. is_flying b.stage) became.is ∙ rests became.old became.stood))
    | inl (inr other) ↦ other.1
    | inr new ↦ absurd (true≢false (sym flies ∙ ap is_flying (e.enter y new.1).1))
  ];
}
