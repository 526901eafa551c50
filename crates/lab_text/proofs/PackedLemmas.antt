-- Packed runs behind which more bytes stand.
use Rattle.std.proofs.Common.{rules, ◌≡◌, ℕ, ◌+◌, ◌/◌, ◌%◌, ◌^◌, ◌<◌, true, false, nat_lt, List, [], ◌∷◌, ◌++◌, Option, Some, None}
use Rattle.std.proofs.Common.{refl, sym, ap, ◌∙◌, arith, append_assoc, append-nil}
use Rattle.lab_text.specs.declared.run.Run.{Run}
use Rattle.lab_text.specs.Packed.{run_of, with_digit, begun_by, ended_by, begun_after, unpacked, if_filled}

-- what is begun after one more byte
pub begun_after-behind : (begun : Option Run) (bytes : List ℕ) (byte : ℕ)
    → begun_after begun (bytes ++ byte ∷ []) ≡ begun_by (begun_after begun bytes) byte
unfolding begun_after
begun_after-behind begun [] byte = refl
begun_after-behind begun (first ∷ bytes) byte =
    begun_after-behind (begun_by begun first) bytes byte

-- the runs that end in one more byte
pub unpacked-behind : (begun : Option Run) (bytes : List ℕ) (byte : ℕ)
    → unpacked begun (bytes ++ byte ∷ []) ≡ unpacked begun bytes
    ++ ended_by (begun_after begun bytes) byte
unfolding begun_after unpacked
unpacked-behind begun [] byte = append-nil (ended_by begun byte)
unpacked-behind begun (first ∷ bytes) byte =
    ap (λ runs. ended_by begun first ++ runs) (unpacked-behind (begun_by begun first) bytes byte)
    ∙ sym (append_assoc (ended_by begun first) (unpacked (begun_by begun first) bytes)
    (ended_by (begun_after begun (first ∷ bytes)) byte))

-- no byte has no run
pub unpacked-nil : (begun : Option Run) → unpacked begun [] ≡ []
unfolding unpacked
unpacked-nil begun = refl

-- the runs of a byte and those behind it
pub unpacked-cons : (begun : Option Run) (byte : ℕ) (bytes : List ℕ)
    → unpacked begun (byte ∷ bytes) ≡ ended_by begun byte ++ unpacked (begun_by begun byte) bytes
unfolding unpacked
unpacked-cons begun byte bytes = refl

-- nothing is begun after no byte
pub begun_after-nil : (begun : Option Run) → begun_after begun [] ≡ begun
unfolding begun_after
begun_after-nil begun = refl

-- a number is its upper digits with its last behind them
pub with_digit-last : (number : ℕ) → number < 2 ^ 64 → with_digit (number / 128) (number % 128)
    ≡ number
with_digit-last number fits = omega arith

-- so it is where the digit has the top bit
pub with_digit-upper : (number : ℕ) → number < 2 ^ 64
    → with_digit (number / 128) (number % 128 + 128) ≡ number
with_digit-upper number fits = omega arith

-- a byte where no run is begun
module _ (bytes : List ℕ) (byte : ℕ) (whole : begun_after None bytes ≡ None) where
  -- it begins one
  pub value-begun : begun_after None (bytes ++ byte ∷ []) ≡ Some (run_of 0 byte)
  value-begun = begun_after-behind None bytes byte ∙ ap (λ begun. begun_by begun byte) whole

  -- and ends none
  pub value-unpacked : unpacked None (bytes ++ byte ∷ []) ≡ unpacked None bytes
  value-unpacked =
      unpacked-behind None bytes byte
      ∙ ap (λ begun. unpacked None bytes ++ ended_by begun byte) whole
      ∙ append-nil (unpacked None bytes)

-- a byte where a run is begun: a digit of its count
module _ (bytes : List ℕ) (byte : ℕ) (run : Run) (is : begun_after None bytes ≡ Some run) where
  -- behind the last digit nothing is begun
  pub last-begun : nat_lt byte 128 ≡ true → begun_after None (bytes ++ byte ∷ []) ≡ None
  last-begun last =
      begun_after-behind None bytes byte ∙ ap (λ begun. begun_by begun byte) is
      ∙ rw last refl

  -- and the run follows the others
  pub last-unpacked : nat_lt byte 128 ≡ true
      → unpacked None (bytes ++ byte ∷ []) ≡ unpacked None bytes
      ++ run_of (with_digit run.count byte) run.value ∷ []
  last-unpacked last =
      unpacked-behind None bytes byte
      ∙ ap (λ begun. unpacked None bytes ++ ended_by begun byte) is
      ∙ rw last refl

  -- behind another digit the run is still begun
  pub upper-begun : nat_lt byte 128 ≡ false
      → begun_after None (bytes ++ byte ∷ [])
      ≡ Some (run_of (with_digit run.count byte) run.value)
  upper-begun upper =
      begun_after-behind None bytes byte ∙ ap (λ begun. begun_by begun byte) is
      ∙ rw upper refl

  -- and the runs are the same
  pub upper-unpacked : nat_lt byte 128 ≡ false
      → unpacked None (bytes ++ byte ∷ []) ≡ unpacked None bytes
  upper-unpacked upper =
      unpacked-behind None bytes byte
      ∙ ap (λ begun. unpacked None bytes ++ ended_by begun byte) is
      ∙ rw upper (append-nil (unpacked None bytes))

-- the last digit of a number behind its upper ones
module _ (bytes : List ℕ) (number value : ℕ) (fits : number < 2 ^ 64)
    (is : begun_after None bytes ≡ Some (run_of (number / 128) value)) where
  -- where others follow, it has the top bit: the number is begun
  pub digit-begun : begun_after None (bytes ++ (number % 128 + 128) ∷ [])
      ≡ Some (run_of number value)
  digit-begun =
      upper-begun bytes (number % 128 + 128) (run_of (number / 128) value) is
      (search (rules, arith))
      ∙ ap (λ count. Some (run_of count value)) (with_digit-upper number fits)

  -- and no run ends
  pub digit-unpacked : unpacked None (bytes ++ (number % 128 + 128) ∷ []) ≡ unpacked None bytes
  digit-unpacked =
      upper-unpacked bytes (number % 128 + 128) (run_of (number / 128) value) is
      (search (rules, arith))

  -- without the top bit it ends the count: nothing is begun
  pub count-begun : begun_after None (bytes ++ number % 128 ∷ []) ≡ None
  count-begun =
      last-begun bytes (number % 128) (run_of (number / 128) value) is (search (rules, arith))

  -- and the run has this count
  pub count-unpacked : unpacked None (bytes ++ number % 128 ∷ [])
      ≡ unpacked None bytes ++ run_of number value ∷ []
  count-unpacked =
      last-unpacked bytes (number % 128) (run_of (number / 128) value) is (search (rules, arith))
      ∙ ap (λ count. unpacked None bytes ++ run_of count value ∷ []) (with_digit-last number fits)

-- a run whose count is one digit
module _ (bytes : List ℕ) (run : Run) (one : run.count < 128)
    (whole : begun_after None bytes ≡ None) where
  -- the value comes first, and then the count
  parted : bytes ++ run.value ∷ run.count ∷ [] ≡ (bytes ++ run.value ∷ []) ++ run.count ∷ []
  parted = sym (append_assoc bytes (run.value ∷ []) (run.count ∷ []))

  -- behind both nothing is begun
  pub short-begun : begun_after None (bytes ++ run.value ∷ run.count ∷ []) ≡ None
  short-begun =
      ap (begun_after None) parted
      ∙ last-begun (bytes ++ run.value ∷ []) run.count (run_of 0 run.value)
      (value-begun bytes run.value whole) (search (rules, arith))

  -- and the run follows the others
  pub short-unpacked : unpacked None (bytes ++ run.value ∷ run.count ∷ [])
      ≡ unpacked None bytes ++ run ∷ []
  short-unpacked =
      ap (unpacked None) parted
      ∙ last-unpacked (bytes ++ run.value ∷ []) run.count (run_of 0 run.value)
      (value-begun bytes run.value whole) (search (rules, arith))
      ∙ ap (λ runs. runs ++ run_of (with_digit 0 run.count) run.value ∷ [])
      (value-unpacked bytes run.value whole)
      ∙ ap (λ count. unpacked None bytes ++ run_of count run.value ∷ []) (omega arith)

-- a run with a byte is one run
pub if_filled-some : (run : Run) → 0 < run.count → if_filled run ≡ run ∷ []
if_filled-some run some = search (rules, arith)

-- one with none is none
pub if_filled-none : (run : Run) → run.count ≡ 0 → if_filled run ≡ []
if_filled-none run none = search (rules, arith)

-- no packed byte and a last run with no byte are no run
pub unpacked-none : (packed : List ℕ) (last : Run) → packed ≡ [] → last.count ≡ 0
    → unpacked None packed ++ if_filled last ≡ []
unfolding unpacked
unpacked-none packed last empty none = rw (empty, if_filled-none last none) refl

-- a last run with a byte follows those that are packed
pub unpacked-last : (packed : List ℕ) (last : Run) → 0 < last.count
    → unpacked None packed ++ if_filled last ≡ unpacked None packed ++ last ∷ []
unpacked-last packed last some =
    ap (λ runs. unpacked None packed ++ runs) (if_filled-some last some)
