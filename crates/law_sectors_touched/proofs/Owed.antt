-- Sums of what a function says of the numbers from 1 up to another. What is owed to a disk sector:
-- how often it is among the routes of the bios that descend from an operation and aren't in flight.
-- It falls by what is touched.
use Rattle.lab_model.proofs.Common.{rules, ◌+◌, ◌<◌, [], ap, arith, inl, inr, le_refl, length, List}
use Rattle.lab_model.proofs.Common.{refl, Some, slice_get, suc, sym, zero, ℕ, ◌∙◌, ◌∷◌, ◌≡◌, ◌≢◌}
use Rattle.lab_model.proofs.Common.{◌≤◌, cases_lt, total, Bool, false, if◌then◌else◌, None, Option}
use Rattle.lab_model.proofs.Common.{true, Bio, bio_of, devices_image, Entering, Kind, Meaning}
use Rattle.lab_model.proofs.Common.{None-not-Some, Ram, Scenario, State}
use Rattle.law_sectors_touched.proofs.Words.{descends, DiskSector, entry-within, route}
use Rattle.law_sectors_touched.proofs.Words.{route_within, serves, times}
use Rattle.law_sectors_touched.proofs.Descent.{comes-stay, is_flying, Passage}
use Rattle.law_sectors_touched.proofs.Hits.{hits-same, times-map}
use Rattle.law_sectors_touched.proofs.KeptBios.{came-kept, Kept, Leaves, numbered-kept}
use Rattle.law_sectors_touched.proofs.RouteImages.{span_hits, span_hits-same}

-- the sum of what f says of 1, 2, and so on, up to a number
abbrev pub sum_to : (ℕ → ℕ) → ℕ → ℕ
sum_to f zero = 0
sum_to f (suc n) = sum_to f n + f (suc n)

-- two functions that say the same have one sum
sum_to-same : (f g : ℕ → ℕ) (k : ℕ) → ((n : ℕ) → n ≤ k → f n ≡ g n) → sum_to f k ≡ sum_to g k
sum_to-same f g zero same = search rules
sum_to-same f g (suc k) same =
    search (rules, sum_to-same f g k (λ n up. same n (omega (arith, up))))

-- nothing has no sum
sum_to-none : (f : ℕ → ℕ) (k : ℕ) → ((n : ℕ) → n ≤ k → f n ≡ 0) → sum_to f k ≡ 0
sum_to-none f zero none = search rules
sum_to-none f (suc k) none = search (rules, sum_to-none f k (λ n up. none n (omega (arith, up))))

-- where f says nothing of one number, and of the others what g says, its sum lacks what g says of
-- that one
pub sum_to-but : (f g : ℕ → ℕ) (k i : ℕ) → ((n : ℕ) → n ≤ k → n ≢ i → f n ≡ g n) → i ≤ k → f i ≡ 0
    → g 0 ≡ 0 → sum_to f k + g i ≡ sum_to g k
sum_to-but f g zero i same up gone none =
    let first : g i ≡ g 0 = ap g (omega (arith, up)) in omega (arith, first, none)
sum_to-but f g (suc k) i same up gone none = elim (cases_lt i (suc k)) [
  | inl before ↦
      let rest = sum_to-but f g k i (λ n less. same n (omega (arith, less)))
      (omega (arith, before)) gone none in
      let here = same (suc k) (le_refl (suc k)) (λ is. absurd (omega (arith, is, before))) in
      omega (arith, rest, here)
  | inr last ↦
      let is : i ≡ suc k = omega (arith, last, up) in
      let rest = sum_to-same f g k (λ n less. same n (omega (arith, less))
      (λ at. absurd (omega (arith, at, is, less)))) in
      omega (arith, rest, ap f is, ap g is, gone)
]

-- numbers of which f says nothing add nothing behind others
pub sum_to-ends : (f : ℕ → ℕ) (k more : ℕ) → k ≤ more → ((n : ℕ) → k < n → f n ≡ 0)
    → sum_to f more ≡ sum_to f k
sum_to-ends f k zero up none =
    let same : zero ≡ k = omega (arith, up) in ap (sum_to f) same
sum_to-ends f k (suc more) up none = elim (cases_lt k (suc more)) [
  | inl behind ↦
      omega (arith, none (suc more) behind, sum_to-ends f k more (omega (arith, behind)) none)
  | inr last ↦ let same : suc more ≡ k = omega (arith, last, up) in ap (sum_to f) same
]

-- nor before the last
pub sum_to-last : (f : ℕ → ℕ) (k : ℕ) → 0 < k → ((n : ℕ) → n < k → f n ≡ 0) → sum_to f k ≡ f k
sum_to-last f k some none = search (rules, sum_to-none)

-- what f says of the numbers behind some is what g says of the items that they number
pub sum_to-behind : {X : Type 0} (f : ℕ → ℕ) (g : X → ℕ) (ys : List X) (k : ℕ)
    → ((i : ℕ) (y : X) → slice_get ys i ≡ Some y → f (k + suc i) ≡ g y)
    → sum_to f (k + length ys) ≡ sum_to f k + total g ys
sum_to-behind f g [] k each = search rules
sum_to-behind f g (y ∷ ys) k each =
    let next : k + suc 0 ≡ suc k = omega arith in
    let first : f (suc k) ≡ g y = ap f (sym next) ∙ each 0 y refl in
    let rest = sum_to-behind f g ys (suc k) (λ i z at.
    let further : suc k + suc i ≡ k + suc (suc i) = omega arith in
    ap f further ∙ each (suc i) z at) in
    let same : k + suc (length ys) ≡ suc k + length ys = omega arith in
    omega (arith, ap (sum_to f) same, first, rest)

-- nothing is owed for a bio in flight
abbrev pub owed : Bool → ℕ → ℕ
owed true n = 0
owed false n = n

-- what is owed for an entry
abbrev pub owed_by : {S : Type 0} → Meaning S → State S → DiskSector → Option Bio → ℕ
owed_by m s x None = 0
owed_by m s x (Some bio) = owed (is_flying bio.stage) (span_hits m s x bio.kind bio.device bio.span)

-- a number that counts or doesn't
abbrev pub counted : Bool → ℕ → ℕ
counted true n = n
counted false n = 0

-- what is owed for the bio of a number, if it descends from the first
abbrev pub owes : {S : Type 0} → Meaning S → State S → DiskSector → ℕ → ℕ → ℕ
owes m s x first number = counted (descends s first number) (owed_by m s x (bio_of s number))

-- what is owed for all bios that descend from the first
abbrev pub outstanding : {S : Type 0} → Meaning S → State S → DiskSector → ℕ → ℕ
outstanding m s x first = sum_to (owes m s x first) (length s.bios)

module _ {S : Type 0} (m : Meaning S) (s : State S) (x : DiskSector) (first number : ℕ) where
  -- nothing is owed where no bio is
  pub owes-none : bio_of s number ≡ None → owes m s x first number ≡ 0
  owes-none none = search rules

  -- what is owed for a living bio
  pub owes-lives : (bio : Bio) → bio_of s number ≡ Some bio → owes m s x first number
      ≡ counted (descends s first number)
      (owed (is_flying bio.stage) (span_hits m s x bio.kind bio.device bio.span))
  owes-lives bio lives = ap (λ o. counted (descends s first number) (owed_by m s x o)) lives

  -- nothing is owed where no living bio descends from the first
  pub owes-unless : ((bio : Bio) → bio_of s number ≡ Some bio → descends s first number ≢ true)
      → owes m s x first number ≡ 0
  owes-unless none = search rules

-- a chain ends on a disk with any number of steps
pub disk-route : {S : Type 0} (m : Meaning S) (s : State S) (steps : ℕ) (kind : Kind)
    (disk sector : ℕ) → route_within m s steps kind (Ram disk) sector
    ≡ Some (record { disk = disk; sector = sector })
disk-route m s steps kind disk sector = search rules

module _ {S : Type 0} (m : Meaning S) (s : State S) (x : DiskSector) (bio : Bio) (disk : ℕ)
    (at : bio.device ≡ Ram disk) where
  -- a disk serves what a bio's routes are
  serves-routes : times x (serves (Some bio)) ≡ span_hits m s x bio.kind bio.device bio.span
  serves-routes = rw at (times-map x _ bio.span.first bio.span.len ∙ hits-same x (λ q. Some
      (record { disk = disk; sector = q })) (route m s bio.kind (Ram disk)) bio.span.first
      bio.span.first bio.span.len (search (rules, disk-route)))

  -- so it touches just what was owed
  pub serves-counted : (d : Bool) → bio.stage ≡ Entering
      → times x (if d then serves (Some bio) else [])
      ≡ counted d (owed (is_flying bio.stage) (span_hits m s x bio.kind bio.device bio.span))
  serves-counted d enters = search (rules, serves-routes)

module _ {S : Type 0} {m : Meaning S} {c : Scenario S} {s next : State S} {first : ℕ}
    (p : Passage m c first s next) (x : DiskSector)
    (same : devices_image m next.devices ≡ devices_image m s.devices) where
  -- as much is owed for a bio that is the same but for its stage, and in flight where it was
  owes-alike : (number : ℕ) (bio : Bio) → bio_of next number ≡ Some bio → Kept s number bio
      → owes m next x first number ≡ owes m s x first number
  owes-alike number bio lives kept =
      let comes = comes-stay p number kept.stood lives in
      let hits = span_hits-same m s next x bio.kind bio.device bio.span same
      ∙ ap (λ b. span_hits m s x b.kind b.device b.span) kept.same in
      let now = owes-lives m next x first number bio lives in
      let before = owes-lives m s x first number kept.old kept.stood in
      let flies = kept.flies in
      cc

  -- so it is where what lives after was there, and what lived lives on
  pub owes-kept : (number : ℕ) → ((bio : Bio) → bio_of next number ≡ Some bio → Kept s number bio)
      → ((old : Bio) → bio_of s number ≡ Some old → bio_of next number ≢ None)
      → owes m next x first number ≡ owes m s x first number
  owes-kept number was on = by_entry (bio_of next number) refl (bio_of s number) refl
    where
      by_entry : (o : Option Bio) → bio_of next number ≡ o → (p : Option Bio)
          → bio_of s number ≡ p → owes m next x first number ≡ owes m s x first number
      by_entry (Some bio) lives p before = owes-alike number bio lives (was bio lives)
      by_entry None none None before =
          owes-none m next x first number none ∙ sym (owes-none m s x first number before)
      by_entry None none (Some old) before = absurd (on old before none)

  module _ {at : ℕ} (leaves : Leaves s at next) where
    -- where an event leaves the bios but one, as much is owed for each, and nothing for those
    -- behind them: so in all just what was owed for the one that is gone is owed no more
    pub leaves-owes : outstanding m next x first + owes m s x first at ≡ outstanding m s x first
    leaves-owes =
        let ends = sum_to-ends (owes m next x first) (length s.bios) (length next.bios)
        leaves.count (λ number later. owes-unless m next x first number (λ bio lives comes.
        let kept = came-kept leaves p number bio lives comes in
        absurd (omega (arith, entry-within s.bios number kept.old kept.stood, later)))) in
        let but = sum_to-but (owes m next x first) (owes m s x first) (length s.bios) at
        (λ number up apart. owes-kept number (λ bio lives. numbered-kept leaves number bio up lives)
        (λ old stood none.
        None-not-Some (sym none ∙ (leaves.remains number old stood apart).lives))) leaves.numbered
        (owes-none m next x first at leaves.without) (owes-none m s x first 0 refl) in
        omega (arith, ends, but)
