-- Which place of an operation a place of a piece's bio stands for: that of the place above it, and
-- it stays where the bios above it stay.
use Rattle.lab_model.proofs.Common.{rules, ◌+◌, ◌-◌, ◌<◌, ◌==◌, ap, arith, Bool, eq-eqb}
use Rattle.lab_model.proofs.Common.{if◌then◌else◌, ℕ, le_refl, length, ne_eqb, Option, refl, Some}
use Rattle.lab_model.proofs.Common.{suc, sym, true, zero, ◌∙◌, ◌≡◌, ◌≤◌, Bio, bio_of}
use Rattle.lab_model.specs.declared.parent.Parent.TheVariants.{FromBio}
use Rattle.lab_model.proofs.Common.{Meaning, parent_of, Scenario, State}
use Rattle.lab_model.specs.declared.parent.Parent.TheVariants.{FromLog}
use Rattle.lab_model.specs.declared.parent.Parent.{Parent}
use Rattle.law_sectors_touched.proofs.Descent.{no-passage, parent-lives, parent-stayed}
use Rattle.law_bytes_carried.proofs.Words.{above-of, descends, entry-within, Fits, Passage, Piece}
use Rattle.law_bytes_carried.specs.Carried.{first_sector, place_above, stands_for, stands_within}

-- a place of the operation stands for itself
pub stands-itself : {S : Type 0} (s : State S) (first place : ℕ)
    → stands_for s first first place ≡ place
stands-itself s first place = rw (eq-eqb first first refl) refl

-- and descends from itself
pub itself-descends : {S : Type 0} (s : State S) (first : ℕ) → descends s first first ≡ true
itself-descends s first = rw (eq-eqb first first refl) refl

module _ {S : Type 0} {m : Meaning S} {c : Scenario S} {first : ℕ} {s next : State S}
    (p : Passage m c first s next) where
  -- what a place of a bio stands for it stood for; as many generations as the bio's number are
  -- enough
  within-stays : (a b number : ℕ) (bio : Bio) → bio_of next number ≡ Some bio
      → number ≤ length s.bios → number ≤ a → number ≤ b → (parent : Parent)
      → bio.parent ≡ parent → (place : ℕ) → stands_within next first a (Some parent) place
      ≡ stands_within s first b (Some parent) place
  within-stays a b number bio lives up up_a up_b (FromLog log line action) is place = refl
  within-stays (suc a) (suc b) number bio lives up up_a up_b (FromBio parent piece) is place =
      let above = above-of p.fits number bio parent piece lives is in
      let stay = p.stayed parent above.above (omega (arith, above.earlier)) above.lives in
      let there : place_above next parent piece place ≡ place_above s parent piece place =
      ap (λ o. (piece.span.first - first_sector o) + place) above.lives
      ∙ ap (λ b. (piece.span.first - b.span.first) + place) stay.same
      ∙ ap (λ o. (piece.span.first - first_sector o) + place) (sym stay.stood) in
      rw (there, parent-lives next parent above.above above.lives, parent-stayed stay)
      (ap (λ w. if parent == first then place_above s parent piece place else w) (within-stays a
      b parent above.above above.lives (omega (arith, above.earlier)) (omega (arith, above.earlier))
      (omega (arith, above.earlier)) above.above.parent refl (place_above s parent piece place)))
  within-stays _ _ number bio lives up up_a up_b (FromBio parent piece) is place =
      absurd (omega (arith, (above-of p.fits number bio parent piece lives is).earlier))

  -- so it does by number
  pub place-stays : (number : ℕ) {old bio : Bio} → bio_of s number ≡ Some old
      → bio_of next number ≡ Some bio → (place : ℕ)
      → stands_for next first number place ≡ stands_for s first number place
  place-stays number {old} {bio} stood lives place =
      let up = entry-within s.bios number old stood in
      rw (parent-lives next number bio lives, parent-stayed (p.stayed number bio up lives))
      (ap (λ w. if number == first then place else w) (within-stays number number number bio lives
      up (le_refl number) (le_refl number) bio.parent refl place))

-- a place of a bio that was made for another's piece stands for what the place above it does
pub child-stands : {S : Type 0} {m : Meaning S} {c : Scenario S} {s : State S} → Fits m c s
    → (first number parent : ℕ) (child above : Bio) (piece : Piece)
    → bio_of s number ≡ Some child → child.parent ≡ FromBio parent piece → first < number
    → bio_of s parent ≡ Some above → (place : ℕ) → stands_for s first number place
    ≡ stands_for s first parent ((piece.span.first - above.span.first) + place)
child-stands fits first zero parent child above piece lives is later stands place =
    absurd (omega (arith, later))
child-stands {s = s} fits first (suc number) parent child above piece lives is later stands place =
    let from = above-of fits (suc number) child parent piece lives is in
    let within = entry-within s.bios (suc number) child lives in
    let up = (piece.span.first - above.span.first) + place in
    let there : place_above s parent piece place ≡ up =
    ap (λ o. (piece.span.first - first_sector o) + place) stands in
    let enough = within-stays (no-passage fits first (omega (arith, later, within))) number parent
    parent above stands (entry-within s.bios parent above stands) (omega (arith, from.earlier))
    (le_refl parent) above.parent refl up in
    rw (
      ne_eqb (suc number) first (λ same. absurd (omega (arith, later, same))),
      parent-lives s (suc number) child lives,
      is,
      there,
      parent-lives s parent above stands,
    ) (ap (λ w. if parent == first then up else w) enough)

-- where two choices are one and either branch tells, it is told
choose-one : (test : Bool) (a b d e i k : ℕ) → (a ≡ d → i ≡ k) → (b ≡ e → i ≡ k)
    → (if test then a else b) ≡ (if test then d else e) → i ≡ k
choose-one test a b d e i k first second same = search rules

module _ {S : Type 0} (s : State S) (first : ℕ) where
  -- two places of a bio that stand for one are one
  within-one : (steps : ℕ) (o : Option Parent) (i k : ℕ)
      → stands_within s first steps o i ≡ stands_within s first steps o k → i ≡ k
  within-one zero (Some (FromBio parent piece)) i k same = omega (arith, same)
  within-one (suc steps) (Some (FromBio parent piece)) i k same = choose-one (parent == first)
      (place_above s parent piece i) _ (place_above s parent piece k) _ i k
      (λ one. omega (arith, one)) (λ one.
      let above = within-one steps (parent_of s parent) (place_above s parent piece i)
      (place_above s parent piece k) one in
      omega (arith, above)) same
  within-one _ _ i k same = same

  -- by number
  pub stands-one : (number i k : ℕ) → stands_for s first number i ≡ stands_for s first number k
      → i ≡ k
  stands-one number i k same = search (rules, choose-one, within-one)
