-- The bios after one is judged: that one in flight, the others as before, and its children behind
-- them.
use Rattle.lab_model.proofs.Common.{rules, ◌++◌, ◌+◌, ◌-◌, ◌<◌, [], ap, arith, false, inl, inr}
use Rattle.lab_model.proofs.Common.{length, length-append, List, map, option_map, refl, Some}
use Rattle.lab_model.proofs.Common.{slice_get, suc, sym, true, ℕ, ◌∙◌, ◌∷◌, ◌≡◌, ◌≢◌, ◌≤◌, ◌⊎◌, Bio}
use Rattle.lab_model.proofs.Common.{bio_of, cases_eq, change_numbered, Flush, In, option_flatten}
use Rattle.lab_model.specs.declared.parent.Parent.TheVariants.{FromBio}
use Rattle.lab_model.proofs.Common.{Judgement, length-map, length-change_numbered}
use Rattle.lab_model.proofs.Common.{Marks, marks_in, Meaning, Pass, Scenario}
use Rattle.lab_model.proofs.Common.{slice_get-map, slice_get-within, Some-holds, Span, State}
use Rattle.lab_model.proofs.Common.{child_sectors}
use Rattle.law_never_wrong.proofs.ChildFits.{children-passed}
use Rattle.law_never_wrong.proofs.NumberedEntries.{entry-changed, entry-other}
use Rattle.law_sectors_touched.proofs.Words.{descends, entries-cases, entry-within, Fits}
use Rattle.law_sectors_touched.proofs.Descent.{child-descends, comes-stay, is_flying, Passage}
use Rattle.law_sectors_touched.proofs.Descent.{Stayed}
use Rattle.law_sectors_touched.proofs.Judged.{born, is-judged, IsJudged, Judged, judged, off, sent}
use Rattle.law_sectors_touched.proofs.LineRoutes.{pass-sends, Sends}

-- what is put behind a list stands so much further on
pub slice_get-back : {X : Type 0} (xs ys : List X) (i : ℕ)
    → slice_get (xs ++ ys) (length xs + i) ≡ slice_get ys i
slice_get-back [] ys i = search rules
slice_get-back (x ∷ xs) ys i = search (rules, slice_get-back xs ys i)

-- a piece's bio has its sectors, and the piece lies in the bio above
pub record LiesUnder (own piece above : Span) : Type 0 where
  pub from : above.first ≤ piece.first
  pub within : piece.first + piece.len ≤ above.first + above.len
  pub long : own.len ≡ piece.len

module _ {S : Type 0} {m : Meaning S} {s : State S} {number : ℕ} (j : Judged m s number) where
  -- there are as many bios more as it has children
  pub sent-count : length (sent j).bios ≡ length s.bios + length (born j)
  sent-count = search (rules, length-append, length-change_numbered, length-map)

  -- the bio is in flight
  pub sent-flies : bio_of (sent j) number ≡ Some (off j j.bio)
  sent-flies = entry-changed s.bios number (off j) (map Some (born j)) j.bio j.lives

  -- another is there as before
  pub sent-other : (n : ℕ) (y : Bio) → n ≢ number → bio_of s n ≡ Some y → bio_of (sent j) n ≡ Some y
  sent-other n y apart stood = search (rules, entry-other)

  -- each that was there lives on, the same but for its stage
  pub sent-on : (n : ℕ) (b : Bio) → bio_of s n ≡ Some b → (later : Bio)
      × (bio_of (sent j) n ≡ Some later) × (later ≡ record b { stage = later.stage })
      × (is_flying b.stage ≡ true → is_flying later.stage ≡ true)
  sent-on n b lives = elim (cases_eq n number) [
    | inl is ↦
        let one : j.bio ≡ b = Some-holds (sym j.lives ∙ ap (bio_of s) (sym is) ∙ lives) in (
          off j j.bio,
          ap (bio_of (sent j)) is ∙ sent-flies,
          ap (λ (b : Bio). record b { stage = (off j j.bio).stage }) one,
          λ flies. refl,
        )
    | inr apart ↦ (b, sent-other n b apart lives, refl, λ flies. flies)
  ]

  -- what is there: the bio in flight, another that was there, or a child
  abbrev pub WasSent : ℕ → Bio → Type 0
  WasSent n y = ((n ≡ number) × (y ≡ off j j.bio))
      ⊎ (((n ≢ number) × (bio_of s n ≡ Some y)) ⊎ ((length s.bios < n) × In y (born j)))

  -- each is one of these
  pub sent-cases : (n : ℕ) (y : Bio) → bio_of (sent j) n ≡ Some y → WasSent n y
  sent-cases n y there =
      search (rules, entries-cases WasSent s.bios number (off j) (born j), Some-holds)

  -- one that was there, the same but for its stage, or a child
  pub sent-was : (n : ℕ) (y : Bio) → bio_of (sent j) n ≡ Some y
      → Stayed s n y ⊎ ((length s.bios < n) × In y (born j))
  sent-was n y there = search (rules, sent-cases)

  -- a child has its number behind them
  pub child-lives : (n i : ℕ) (child : Bio) → n ≡ length s.bios + suc i
      → slice_get (born j) i ≡ Some child → bio_of (sent j) n ≡ Some child
  child-lives n i child is at =
      let before = change_numbered s.bios number (option_map (off j)) in
      let further : n ≡ suc (length before + i) =
      omega (arith, is, length-change_numbered s.bios (option_map (off j)) number) in
      ap (bio_of (sent j)) further ∙ ap option_flatten (slice_get-back before (map Some (born j)) i
      ∙ slice_get-map Some (born j) i ∙ ap (option_map Some) at)

  -- a child by its number
  pub record ChildAt (n : ℕ) (y : Bio) : Type 0 where
    pub place : ℕ
    pub is : n ≡ length s.bios + suc place
    pub there : slice_get (born j) place ≡ Some y

  -- a bio behind the others is one
  pub child-at : (n : ℕ) (y : Bio) → length s.bios < n → bio_of (sent j) n ≡ Some y → ChildAt n y
  child-at n y far there =
      let place = n - suc (length s.bios) in
      let is : n ≡ length s.bios + suc place = omega (arith, far) in
      let found = slice_get-within (born j) place
      (omega (arith, entry-within (sent j).bios n y there, sent-count, is)) in
      let same : found.0 ≡ y = Some-holds (sym (child-lives n place found.0 is found.1) ∙ there) in
      record { place = place; is = is; there = found.1 ∙ ap (λ b. Some b) same }

  -- a child of the bio: it was made for a judged piece of it that passes
  pub record IsChild (child : Bio) : Type 0 where
    pub k : Judgement
    pub by : IsJudged j k
    pub hold : ℕ
    pub given : Marks
    pub passes : k.verdict ≡ Pass child.device child.span hold given
    pub is_piece : child.parent ≡ FromBio number k.piece
    pub kind : child.kind ≡ j.bio.kind
    pub rests : is_flying child.stage ≡ false
    pub marks : child.marks ≡ marks_in k.span given
    pub sectors : child.sectors ≡ child_sectors j.bio k.piece (marks_in k.span given) j.bio.kind

  -- each is
  pub child-is : (child : Bio) → In child (born j) → IsChild child
  child-is = children-passed IsChild s.clock j.device number j.bio (judged j)
      (λ k below span hold given among is. record {
        k = k;
        by = is-judged j k among;
        hold = hold;
        given = given;
        passes = is;
        is_piece = refl;
        kind = refl;
        rests = search rules;
        marks = refl;
        sectors = refl;
      })

  module _ {child : Bio} (is : IsChild child) where
    -- its piece is sent where it goes
    pub child-sent : Sends j is.k.piece child.device child.span
    child-sent = pass-sends j is.k is.by child.device child.span is.hold is.given is.passes

    -- and lies in the bio
    pub child-lies : j.bio.kind ≢ Flush → LiesUnder child.span is.k.piece.span j.bio.span
    child-lies sized = search rules

  -- where the state after that fits, those that were there stayed
  pub sent-passage : {c : Scenario S} {first : ℕ} → Fits m c (sent j) → first ≤ length s.bios
      → Passage m c first s (sent j)
  sent-passage fits up = record { fits = fits; numbered = up; stayed = search (rules, sent-was) }

  module _ {c : Scenario S} {first : ℕ} (p : Passage m c first s (sent j)) where
    -- the bio descends from the first as before
    pub own-comes : descends (sent j) first number ≡ descends s first number
    own-comes = comes-stay p number j.lives sent-flies

    -- and a child where the bio does
    pub child-comes : (n : ℕ) (y : Bio) → length s.bios < n → In y (born j)
        → bio_of (sent j) n ≡ Some y → descends (sent j) first n ≡ descends s first number
    child-comes n y far among there = child-descends p.fits first n number y (off j j.bio) _ there
        (child-is y among).is_piece (omega (arith, p.numbered, far)) sent-flies ∙ own-comes
