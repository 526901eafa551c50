-- Which bios descend from which: parents have lower numbers, and a bio that lives on keeps its
-- parents.
use Rattle.lab_model.proofs.Common.{rules, ◌<◌, ◌==◌, ap, arith, Bool, false, if◌then◌else◌, inl}
use Rattle.lab_model.proofs.Common.{inr, le_refl, length, ne_eqb, refl, Some, subst, suc, sym, true}
use Rattle.lab_model.proofs.Common.{zero, ℕ, ◌∙◌, ◌≡◌, ◌≤◌, option_and_then, Bio, bio_of}
use Rattle.lab_model.proofs.Common.{cases_Bool, InFlight, Meaning}
use Rattle.lab_model.specs.declared.parent.Parent.TheVariants.{FromBio, FromLog}
use Rattle.lab_model.specs.declared.parent.Parent.{Parent}
use Rattle.lab_model.proofs.Common.{parent_of, Scenario, Stage, State}
use Rattle.std.proofs.Common.{eqb-true}
use Rattle.law_headline.specs.Routes.{descends_within}
use Rattle.law_sectors_touched.proofs.Words.{descends, entry-within, Fits, Piece}

-- whether a bio is in flight
abbrev pub is_flying : Stage → Bool
is_flying (InFlight failed answered) = true
is_flying _ = false

-- a bio that lived before, the same but for its stage
pub record Stayed {S : Type 0} (s : State S) (number : ℕ) (bio : Bio) : Type 0 where
  pub old : Bio
  pub stood : bio_of s number ≡ Some old
  pub same : bio ≡ record old { stage = bio.stage }

-- each bio that was numbered before and lives stayed
abbrev pub AllStayed : {S : Type 0} → State S → State S → Type 0
AllStayed s next = (number : ℕ) (bio : Bio) → number ≤ length s.bios
    → bio_of next number ≡ Some bio → Stayed s number bio

-- from a state to another that fits: a first bio was numbered, and those that were stayed
pub record Passage {S : Type 0} (m : Meaning S) (c : Scenario S) (first : ℕ) (s next : State S)
    : Type 0 where
  pub fits : Fits m c next
  pub numbered : first ≤ length s.bios
  pub stayed : AllStayed s next

-- whether a log has made a bio
abbrev pub IsLogs : Parent → Type 0
IsLogs (FromLog log line action) = Unit {0}
IsLogs (FromBio number piece) = ⊥

-- where one bio is a first one, or was made for a piece of what descends from it: the first lives,
-- with no higher number, and no log has made one of a higher number than that
pub record Comes {S : Type 0} (s : State S) (first number : ℕ) (bio : Bio) : Type 0 where
  pub it : Bio
  pub stands : bio_of s first ≡ Some it
  pub up : first ≤ number
  pub made : first < number → IsLogs bio.parent → ⊥

-- the parent of a living bio
pub parent-lives : {S : Type 0} (s : State S) (number : ℕ) (bio : Bio)
    → bio_of s number ≡ Some bio → parent_of s number ≡ Some bio.parent
parent-lives s number bio lives = ap (λ o. option_and_then (λ b. Some b.parent) o) lives

-- so is that of one that stayed, before
pub parent-stayed : {S : Type 0} {s : State S} {number : ℕ} {bio : Bio} → Stayed s number bio
    → parent_of s number ≡ Some bio.parent
parent-stayed {s = s} {number = number} stay = search rules

-- the parent of a piece's bio: it lives, and has a lower number
pub record Above {S : Type 0} (s : State S) (number parent : ℕ) : Type 0 where
  pub above : Bio
  pub earlier : parent < number
  pub lives : bio_of s parent ≡ Some above

module _ {S : Type 0} {m : Meaning S} {c : Scenario S} {s : State S} (fits : Fits m c s) where
  -- each piece's bio has one
  pub above-of : (number : ℕ) (bio : Bio) (parent : ℕ) (piece : Piece)
      → bio_of s number ≡ Some bio → bio.parent ≡ FromBio parent piece → Above s number parent
  above-of number bio parent piece lives is = search (rules, (fits.bios number bio lives).parent)

  -- a piece's bio comes from the bio above it
  from-above : (first number : ℕ) (bio : Bio) (parent : ℕ) (piece : Piece)
      → bio_of s number ≡ Some bio → bio.parent ≡ FromBio parent piece
      → (parent == first) ≡ true → Comes s first number bio
  from-above first number bio parent piece lives is same =
      let above = above-of number bio parent piece lives is in
      let at = eqb-true parent first same in
      search rules

  -- and from what that one comes from
  within-comes : (first steps number : ℕ) (bio : Bio) → bio_of s number ≡ Some bio
      → (parent : Parent) → bio.parent ≡ parent
      → descends_within s first steps (Some parent) ≡ true → Comes s first number bio
  within-comes first steps number bio lives (FromLog log line action) is comes = cc
  within-comes first zero number bio lives (FromBio parent piece) is comes =
      from-above first number bio parent piece lives is comes
  within-comes first (suc steps) number bio lives (FromBio parent piece) is comes =
      elim (cases_Bool (parent == first)) [
        | inl same ↦ from-above first number bio parent piece lives is same
        | inr apart ↦
            let above = above-of number bio parent piece lives is in
            let rest = within-comes first steps parent above.above above.lives above.above.parent
            refl (sym (rw (apart, parent-lives s parent above.above above.lives) refl) ∙ comes) in
            record {
              it = rest.it;
              stands = rest.stands;
              up = omega (arith, rest.up, above.earlier);
              made = λ later logs. subst IsLogs is logs;
            }
      ]

  -- so with all that descends from it
  pub comes-from : (first number : ℕ) (bio : Bio) → bio_of s number ≡ Some bio
      → descends s first number ≡ true → Comes s first number bio
  comes-from first number bio lives comes = elim (cases_Bool (number == first)) [
    | inl same ↦
        let at = eqb-true number first same in
        record {
          it = bio;
          stands = ap (bio_of s) (sym at) ∙ lives;
          up = omega (arith, at);
          made = λ later. absurd (omega (arith, later, at));
        }
    | inr apart ↦ within-comes first number number bio lives bio.parent refl
        (sym (rw (apart, parent-lives s number bio lives) refl) ∙ comes)
  ]

module _ {S : Type 0} {m : Meaning S} {c : Scenario S} {first : ℕ} {s next : State S}
    (p : Passage m c first s next) where
  -- a bio descends from what it descended from; as many generations as its number are enough
  within-stays : (a b number : ℕ) (bio : Bio) → bio_of next number ≡ Some bio
      → number ≤ length s.bios → number ≤ a → number ≤ b → (parent : Parent) → bio.parent ≡ parent
      → descends_within next first a (Some parent) ≡ descends_within s first b (Some parent)
  within-stays a b number bio lives up up_a up_b (FromLog log line action) is = refl
  within-stays (suc a) (suc b) number bio lives up up_a up_b (FromBio parent piece) is =
      let above = above-of p.fits number bio parent piece lives is in
      let stay = p.stayed parent above.above (omega (arith, above.earlier)) above.lives in
      rw (parent-lives next parent above.above above.lives, parent-stayed stay)
      (ap (λ w. if parent == first then true else w)
      (within-stays a b parent above.above above.lives (omega (arith, above.earlier))
      (omega (arith, above.earlier)) (omega (arith, above.earlier)) above.above.parent refl))
  within-stays _ _ number bio lives up up_a up_b (FromBio parent piece) is =
      absurd (omega (arith, (above-of p.fits number bio parent piece lives is).earlier))

  -- so it does by number
  pub comes-stay : (number : ℕ) {old bio : Bio} → bio_of s number ≡ Some old
      → bio_of next number ≡ Some bio → descends next first number ≡ descends s first number
  comes-stay number {old} {bio} stood lives =
      let up = entry-within s.bios number old stood in
      rw (parent-lives next number bio lives, parent-stayed (p.stayed number bio up lives))
      (ap (λ w. if number == first then true else w) (within-stays number number number bio
      lives up (le_refl number) (le_refl number) bio.parent refl))

-- where nothing happens all stay
pub no-passage : {S : Type 0} {m : Meaning S} {c : Scenario S} {s : State S} → Fits m c s
    → (first : ℕ) → first ≤ length s.bios → Passage m c first s s
no-passage fits first up = search rules

-- a bio that was made for another's piece descends from what that one descends from
pub child-descends : {S : Type 0} {m : Meaning S} {c : Scenario S} {s : State S} → Fits m c s
    → (first number parent : ℕ) (child above : Bio) (piece : Piece)
    → bio_of s number ≡ Some child → child.parent ≡ FromBio parent piece → first < number
    → bio_of s parent ≡ Some above → descends s first number ≡ descends s first parent
child-descends fits first zero parent child above piece lives is later stands =
    absurd (omega (arith, later))
child-descends {s = s} fits first (suc number) parent child above piece lives is later stands =
    let from = above-of fits (suc number) child parent piece lives is in
    let up = entry-within s.bios (suc number) child lives in
    let enough = within-stays (no-passage fits first (omega (arith, later, up))) number parent
    parent above stands (entry-within s.bios parent above stands) (omega (arith, from.earlier))
    (le_refl parent) above.parent refl in
    rw (
      ne_eqb (suc number) first (λ same. absurd (omega (arith, later, same))),
      parent-lives s (suc number) child lives,
      is,
      parent-lives s parent above stands,
    ) (ap (λ w. if parent == first then true else w) enough)
