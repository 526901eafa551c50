-- The clock goes on: what comes due of the bios that wait, and what stays as it was.
use Rattle.lab_model.proofs.Common.{rules, ◌≡◌, ◌≢◌, ◌⊎◌, ℕ, ◌-◌, ◌<◌, ◌≤◌, if◌then◌else◌, List}
use Rattle.lab_model.proofs.Common.{Option, Some, None, inl, inr, refl, ap, sym, ◌∙◌, arith, nat_le}
use Rattle.lab_model.proofs.Common.{nat_lt, cases_eq, lt-ltb, nat_tests, nat_cmp_total}
use Rattle.lab_model.proofs.Common.{is_some, nat_cmp, true, Bio, Entering, Held, InFlight, Stage, option_flatten}
use Rattle.lab_model.proofs.Common.{numbered, Slot, Table}
use Rattle.std.specs.FinMap as map
use Rattle.lab_queue.specs.declared.moments.Due.{Due}
use Rattle.lab_queue.specs.Moments.{IsFirstBy}
use Rattle.lab_queue.proofs.Indexes.{get-remove_other, get-remove_same}
use Rattle.lab_index.specs.Numbers.{Marks}
use Rattle.lab_model.specs.Guard.{due_of as stage-due}
use Rattle.lab_model.specs.Guard.{bio_may}
use Rattle.lab_sector.specs.declared.device.DevNo.{DevNo}
use Rattle.lab_state.specs.Places.{bio_event}
use Rattle.lab_state.specs.Index.{goes, is_marked, state_of, waits_at, waits_of}
use Rattle.lab_state.proofs.Modes.{each-but}
use Rattle.lab_state.proofs.Events.{goes-alike}

-- where what hasn't come stays ahead, just the same lies ahead, and just the same has come
tests-same : (before clock due : ℕ) → before ≤ clock → (before < due → clock < due)
    → (nat_lt clock due ≡ nat_lt before due) × (nat_le due clock ≡ nat_le due before)
tests-same before clock due later ahead = (grind (arith, nat_tests), grind (arith, nat_tests))

-- none of what waits comes due at this stage
abbrev NoneDue : ℕ → ℕ → Option ℕ → Type 0
NoneDue before clock wait = (due : ℕ) → wait ≡ Some due → clock < due

-- so the same waits, and its moment has come just if it had
still : (before clock : ℕ) (stage : Stage) → before ≤ clock
    → NoneDue before clock (waits_at before stage)
    → (waits_at clock stage ≡ waits_at before stage)
    × ((due : ℕ) → stage-due stage ≡ Some due → nat_le due clock ≡ nat_le due before)
still before clock Entering later none = (refl, λ due is. absurd (cc))
still before clock (Held due holder) later none =
    let same = tests-same before clock due later (λ ahead.
    none due (rw (lt-ltb before due ahead) refl)) in
    (rw same.0 refl, λ other is. (let at : due ≡ other = cc in rw (← at) same.1))
still before clock (InFlight failed answered) later none = (refl, λ due is. absurd (cc))

-- a number waits and is marked as it is to be at a moment
abbrev StandsAt : {S : Type 0} → ℕ → List (Option Bio) → List (Option (Slot (Table S)))
    → Marks → map.FinMap nat_cmp ℕ → ℕ → Type 0
StandsAt clock bios devices marks held number =
    (map.get held number ≡ waits_of clock (option_flatten (numbered bios number)))
    × (is_marked marks number ≡ goes (state_of clock bios devices) number)

-- a number waits and is marked as before, or it came due and is marked anew
abbrev pub Stands : {S : Type 0} → ℕ → ℕ → List (Option Bio)
    → List (Option (Slot (Table S))) → Marks → map.FinMap nat_cmp ℕ → ℕ → Type 0
Stands before clock bios devices marks held number =
    StandsAt before bios devices marks held number
    ⊎ ((map.get held number ≡ None) × StandsAt clock bios devices marks held number)

module _ {S : Type 0} (before clock : ℕ) (bios : List (Option Bio))
    (devices : List (Option (Slot (Table S)))) (later : before ≤ clock) where
  -- what waits of a bio that isn't due stays, and whether an event may come to it
  number-still : (number : ℕ)
      → NoneDue before clock (waits_of before (option_flatten (numbered bios number)))
      → (waits_of clock (option_flatten (numbered bios number))
      ≡ waits_of before (option_flatten (numbered bios number)))
      × (goes (state_of clock bios devices) number ≡ goes (state_of before bios devices) number)
  number-still number none = (
    by_entry (option_flatten (numbered bios number)) none,
    goes-alike (state_of before bios devices) (state_of clock bios devices) number refl
        (λ bio is. record {
          runs = λ at its. refl;
          come = (still before clock bio.stage later
              (λ held waits. none held (ap (waits_of before) is ∙ waits))).1;
          child = refl;
        }),
  )
    where
      by_entry : (entry : Option Bio) → NoneDue before clock (waits_of before entry)
          → waits_of clock entry ≡ waits_of before entry
      by_entry None none = refl
      by_entry (Some bio) none = (still before clock bio.stage later none).0

  -- so it does between these two moments
  abbrev StandsHere : Marks → map.FinMap nat_cmp ℕ → ℕ → Type 0
  StandsHere marks held number = Stands before clock bios devices marks held number

  -- where nothing that waits is due, each number waits and is marked as it is to
  pub stands-end : (marks : Marks) (held : map.FinMap nat_cmp ℕ) (number : ℕ)
      → ((id due : ℕ) → map.get held id ≡ Some due → clock < due)
      → StandsHere marks held number → StandsAt clock bios devices marks held number
  stands-end marks held number none (inl same) =
      let kept = number-still number (λ due is. none number due (same.0 ∙ is)) in
      (same.0 ∙ sym kept.0, same.1 ∙ sym kept.1)
  stands-end marks held number none (inr come) = come.1

  -- so each stands once the first that is due was taken out and marked anew
  pub stands-more : (marks old : Marks) (held : map.FinMap nat_cmp ℕ) (number moment : ℕ)
      → map.get held number ≡ Some moment → moment ≤ clock
      → is_marked marks number ≡ goes (state_of clock bios devices) number
      → ((other : ℕ) → other ≢ number → is_marked marks other ≡ is_marked old other)
      → ((other : ℕ) → StandsHere old held other)
      → (other : ℕ) → StandsHere marks (map.remove held number) other
  stands-more marks old held number moment waits due here others stands =
      each-but (StandsHere marks (map.remove held number)) number
      (search (rules, get-remove_same, stands number)) (λ other isnt.
      (search (rules, get-remove_other, isnt, others other isnt, stands other)))

  -- and one that waits and is due goes on
  pub due-goes : (marks : Marks) (held : map.FinMap nat_cmp ℕ) (number moment : ℕ)
      → map.get held number ≡ Some moment → moment ≤ clock → StandsHere marks held number
      → goes (state_of clock bios devices) number ≡ true
  due-goes marks held number moment waits due (inl same) =
      by_entry (option_flatten (numbered bios number)) (sym same.0 ∙ waits)
    where
      by_entry : (entry : Option Bio) → waits_of before entry ≡ Some moment
          → bio_may entry (λ bio. is_some (bio_event (state_of clock bios devices) number
          bio.device bio.stage)) ≡ true
      by_entry None is = absurd (cc)
      by_entry (Some bio) is = by_stage bio.device bio.stage is
        where
          by_stage : (device : DevNo) (stage : Stage) → waits_at before stage ≡ Some moment
              → is_some (bio_event (state_of clock bios devices) number device stage) ≡ true
          by_stage device Entering at = absurd (cc)
          by_stage device (Held its holder) at = search (rules, nat_tests)
          by_stage device (InFlight failed answered) at = absurd (cc)
  due-goes marks held number moment waits due (inr come) = absurd (search rules)

-- where one waits, they aren't none
some-len : (held : map.FinMap nat_cmp ℕ) (number found : ℕ)
    → map.get held number ≡ Some found → 0 < map.len held
some-len held number found is =
    search (rules, cases_eq, map.len, map.get, map.empty_of_len, map.get-empty)

-- one fewer waits once a number that is due was taken out
pub fewer-wait : (clock : ℕ) (held : map.FinMap nat_cmp ℕ) (first : Due) → IsFirstBy held clock first
    → map.len (map.remove held first.number) < map.len held
fewer-wait clock held first least =
    let there = ap is_some least.held in
    let less = map.len-remove nat_cmp_total held first.number
    ∙ ap (λ b. if b then map.len held - 1 else map.len held) there in
    omega (arith, less, some-len held first.number first.moment least.held)
