-- The operation that a living bio comes from in the end: what lab_next finds is the bio from which
-- it descends, and the place that its first sector stands for.
use Rattle.lab_model.proofs.Common.{rules, Flush, ◌≢◌, ◌+◌, ◌-◌, ap, ap₂, arith, subst, le_refl}
use Rattle.lab_model.proofs.Common.{option_map, refl, Some, suc, sym, true, zero, ℕ, ◌∙◌, ◌<◌, ◌≡◌}
use Rattle.lab_model.proofs.Common.{◌≤◌, Bio, bio_of, Meaning, None-not-Some, Scenario, Some-holds}
use Rattle.lab_model.proofs.Common.{State, Write}
use Rattle.lab_model.specs.declared.entry.Action.{Action}
use Rattle.lab_model.specs.declared.parent.Parent.{Parent}
use Rattle.lab_model.specs.declared.parent.Parent.TheVariants.{FromBio, FromLog}
use Rattle.lab_next.specs.Bios.{place_in}
use Rattle.lab_next.specs.Origins.{root_of, root_within}
use Rattle.lab_next.specs.declared.origin.Root.{Root}
use Rattle.law_never_wrong.specs.Fits.{FitsParent, FromPiece}
use Rattle.law_sectors_touched.proofs.Descent.{child-descends, comes-from, parent-lives}
use Rattle.law_bytes_carried.proofs.Words.{above-of, descends, Fits, IsLogs, Piece}
use Rattle.law_bytes_carried.proofs.Places.{child-stands, itself-descends, stands-itself}
use Rattle.law_bytes_carried.specs.Carried.{stands_for}
use Rattle.law_writers.proofs.Sources.{AllSound, AreAmong}

-- the root of a bio that begins so many sectors further on
abbrev pub further : ℕ → Root → Root
further more root = record root {
  writer = record { origin = root.writer.origin; sector = root.writer.sector + more };
}

-- where a living bio comes from: a log has issued its first bio, of its kind, and it descends from
-- that; its places stand for those from its root's sector on
pub record IsFrom {S : Type 0} (s : State S) (number : ℕ) (bio : Bio) : Type 0 where
  pub root : Root
  pub is : root_of s number ≡ Some root
  pub comes : descends s root.number number ≡ true
  pub stands : (i : ℕ) → stands_for s root.number number i ≡ root.writer.sector + i
  pub first : Bio
  pub lives : bio_of s root.number ≡ Some first
  pub action : Action
  pub from : first.parent ≡ FromLog root.writer.origin.log root.writer.origin.line action
  pub kind : first.kind ≡ bio.kind
  pub among : bio.kind ≡ Write → AreAmong bio.sectors first.sectors
  pub within : bio.kind ≢ Flush → root.writer.sector + bio.span.len ≤ first.span.len

-- a number that isn't below another, and not above it either, is that one
pub first-only : (first n : ℕ) → first ≤ n → (first < n → ⊥) → n ≡ first
first-only first n up none = search rules

module _ {S : Type 0} {m : Meaning S} {c : Scenario S} {s : State S} (fits : Fits m c s)
    (all : AllSound c s) where
  -- how a piece's bio stands under the one that it was made for a piece of
  pub under-of : (number : ℕ) (bio : Bio) (parent : ℕ) (piece : Piece) → bio_of s number ≡ Some bio
      → bio.parent ≡ FromBio parent piece
      → (device : ℕ) × FromPiece m s number bio parent piece device
  under-of number bio parent piece lives is =
      subst (FitsParent m c s number bio) is (fits.bios number bio lives).parent

  -- a bio that begins so many sectors further on has its root so much further on; as many
  -- generations as its number are enough
  within-further : (a b number : ℕ) (bio : Bio) → bio_of s number ≡ Some bio
      → number ≤ a → number ≤ b → (parent : Parent) → bio.parent ≡ parent → (sector more : ℕ)
      → root_within s a number (sector + more) (Some parent)
      ≡ option_map (further more) (root_within s b number sector (Some parent))
  within-further a b number bio lives up_a up_b (FromLog log line action) is sector more = refl
  within-further (suc a) (suc b) number bio lives up_a up_b (FromBio parent piece) is sector more =
      let above = above-of fits number bio parent piece lives is in
      let place = place_in piece (bio_of s parent) in
      let same : (sector + more) + place ≡ (sector + place) + more = omega arith in
      let own = parent-lives s parent above.above above.lives in
      ap₂ (root_within s a parent) same own
      ∙ within-further a b parent above.above above.lives (omega (arith, above.earlier))
      (omega (arith, above.earlier)) above.above.parent refl (sector + place) more
      ∙ ap (λ o. option_map (further more) (root_within s b parent (sector + place) o)) (sym own)
  within-further _ _ number bio lives up_a up_b (FromBio parent piece) is sector more =
      absurd (omega (arith, (above-of fits number bio parent piece lives is).earlier))

  -- a piece's bio has its root so much further on as its piece begins behind the bio above
  child-root : (number : ℕ) (bio : Bio) (parent : ℕ) (piece : Piece) (above : Bio) (root : Root)
      → bio_of s number ≡ Some bio → bio.parent ≡ FromBio parent piece
      → bio_of s parent ≡ Some above → root_of s parent ≡ Some root
      → root_of s number ≡ Some (further (piece.span.first - above.span.first) root)
  child-root zero bio parent piece above root lives is stands found =
      absurd (None-not-Some lives)
  child-root (suc number) bio parent piece above root lives is stands found =
      let from = above-of fits (suc number) bio parent piece lives is in
      search (rules, parent-lives, within-further)

  -- a log's bio comes from itself
  log-from : (number : ℕ) (bio : Bio) → bio_of s number ≡ Some bio → (log line : ℕ)
      (action : Action) → bio.parent ≡ FromLog log line action → IsFrom s number bio
  log-from number bio lives log line action is = record {
    root = record {
      number = number;
      writer = record { origin = record { log = log; line = line }; sector = 0 };
    };
    is = rw (parent-lives s number bio lives, is) refl;
    comes = itself-descends s number;
    stands = λ i. stands-itself s number i ∙ (omega arith);
    first = bio;
    lives = lives;
    action = action;
    from = is;
    kind = refl;
    among = λ writes i bytes at. (i, at);
    within = λ sized. omega arith;
  }

  -- a piece's bio comes from what the bio above it comes from
  piece-from : (number : ℕ) (bio : Bio) → bio_of s number ≡ Some bio → (parent : ℕ)
      (piece : Piece) → bio.parent ≡ FromBio parent piece → (above : Bio)
      → bio_of s parent ≡ Some above → above.kind ≡ bio.kind → IsFrom s parent above
      → IsFrom s number bio
  piece-from number bio lives parent piece is above stands same up =
      let first = up.root.number in
      let begin = piece.span.first - above.span.first in
      let behind = (comes-from fits first parent above stands up.comes).up in
      let later : first < number =
      omega (arith, behind, (above-of fits number bio parent piece lives is).earlier) in
      record {
        root = further begin up.root;
        is = child-root number bio parent piece above up.root lives is stands up.is;
        comes = child-descends fits first number parent bio above piece lives is later stands
            ∙ up.comes;
        stands = λ i. child-stands fits first number parent bio above piece lives is later stands i
            ∙ up.stands (begin + i) ∙ (omega arith);
        first = up.first;
        lives = up.lives;
        action = up.action;
        from = up.from;
        kind = up.kind ∙ same;
        among = λ writes i bytes at.
            let own = (all number bio lives).part writes parent piece above is stands i bytes at in
            up.among (same ∙ writes) own.0 bytes own.1;
        within = λ sized.
            let lies = (all number bio lives).lies sized parent piece above is stands in
            let high = up.within (λ flush. sized (sym same ∙ flush)) in
            omega (arith, high, lies.from, lies.within, lies.long);
      }

  -- so each living bio comes from one, where all are sound; by how low its number is
  low-from : (bound number : ℕ) (bio : Bio) → number ≤ bound → bio_of s number ≡ Some bio
      → (parent : Parent) → bio.parent ≡ parent → IsFrom s number bio
  low-from bound number bio low lives (FromLog log line action) is =
      log-from number bio lives log line action is
  low-from zero number bio low lives (FromBio parent piece) is =
      absurd (omega (arith, low, (above-of fits number bio parent piece lives is).earlier))
  low-from (suc bound) number bio low lives (FromBio parent piece) is =
      let from = (under-of number bio parent piece lives is).1 in
      piece-from number bio lives parent piece is from.above from.lives from.same_kind
      (low-from bound parent from.above (omega (arith, low, from.earlier)) from.lives
      from.above.parent refl)

  -- so each has
  pub from-of : (number : ℕ) (bio : Bio) → bio_of s number ≡ Some bio → IsFrom s number bio
  from-of number bio lives = low-from number number bio (le_refl number) lives bio.parent refl

  -- a log's first bio from which a living bio descends is its root's, by how low its number is
  low-root : (bound number : ℕ) (bio : Bio) → number ≤ bound → bio_of s number ≡ Some bio
      → (first : ℕ) (top : Bio) → bio_of s first ≡ Some top → IsLogs top.parent
      → descends s first number ≡ true → (parent : Parent) → bio.parent ≡ parent → (root : Root)
      → root_of s number ≡ Some root → root.number ≡ first
  low-root bound number bio low lives first top begins logs comes (FromLog log line action) is root
      found = search (rules, comes-from, first-only, Some-holds, parent-lives)
  low-root zero number bio low lives first top begins logs comes (FromBio parent piece) is root
      found = absurd (omega (arith, low, (under-of number bio parent piece lives is).1.earlier))
  low-root (suc bound) number bio low lives first top begins logs comes (FromBio parent piece) is
      root found =
      let above = (under-of number bio parent piece lives is).1 in
      let up = comes-from fits first number bio lives comes in
      let later : first < number = search (rules, Some-holds) in
      let high = from-of parent above.above above.lives in
      let own = low-root bound parent above.above (omega (arith, low, above.earlier)) above.lives
      first top begins logs (sym (search (rules, child-descends)) ∙ comes) above.above.parent refl
      high.root high.is in
      search (rules, Some-holds, child-root)

  -- so it is
  pub root-is : (number : ℕ) (bio : Bio) → bio_of s number ≡ Some bio → (first : ℕ) (top : Bio)
      → bio_of s first ≡ Some top → IsLogs top.parent → descends s first number ≡ true
      → (from : IsFrom s number bio) → from.root.number ≡ first
  root-is number bio lives first top begins logs comes from = low-root number number bio
      (le_refl number) lives first top begins logs comes bio.parent refl from.root from.is
