-- Blocks as whole sectors.
use Rattle.std.proofs.Common.{rules, ◌≡◌, ℕ, ◌+◌, ◌-◌, ◌*◌, ◌/◌, ◌%◌, ◌^◌, ◌<◌, ◌≤◌, min, true}
use Rattle.std.proofs.Common.{bit_and, count_ones, ap, sym, ◌∙◌, arith}
use Rattle.std.specs.Int.{is_power_of_two, trailing_zeros, w64}
use Rattle.std.proofs.lemmas.Bool.{cases_lt, eqb-true}
use Rattle.std.proofs.lemmas.Nat.{and_mask, div-add-mod', le-div, mod_below, one_shl, ones_cat}
use Rattle.std.proofs.lemmas.Nat.{ones_le_self, pow_below, pow_pos, shr_split, zero_from_ones}
use Rattle.std.proofs.lemmas.Nat.Bits.{bit_at-trailing_zeros}
use Rattle.lab_target.specs.Laws.{CutsAt}
use Rattle.lab_dust.specs.Dust.{block_at, is_block_size}
use Rattle.std.proofs.lemmas.Bool.Decides.{nat_tests}

-- a number that is not 0 has a bit
has_bit : (number : ℕ) → 0 < number → 0 < count_ones number
has_bit number some = search (rules, cases_lt, zero_from_ones)

-- of a number with one bit, whose high part has one, the low part has none
no_rest-of_one : (high low : ℕ) → 0 < high → low < 2 ^ 9 → count_ones (high * 2 ^ 9 + low) ≡ 1
    → low ≡ 0
no_rest-of_one high low some small one =
    zero_from_ones low (omega (arith, ones_cat 9 high low small, has_bit high some, one))

-- of a number with one bit, of which the last of its high part is set, no other is
lone_bit : (half shift low : ℕ) → low < 2 ^ shift
    → count_ones ((half * 2 ^ 1 + 1) * 2 ^ shift + low) ≡ 1
    → (half * 2 ^ 1 + 1) * 2 ^ shift + low ≡ 2 ^ shift
lone_bit half shift low small one =
    let all = ones_cat shift (half * 2 ^ 1 + 1) low small in
    let high = ones_cat 1 half 1 (omega arith) in
    let last = has_bit 1 (omega arith) in
    let no_half = zero_from_ones half (omega (arith, all, high, last, one)) in
    let no_low = zero_from_ones low (omega (arith, all, high, last, one)) in
    rw (no_half, no_low) (omega arith)

-- a number with one bit is 1, doubled as often as 0s stand below the bit
one_bit-doubled : (number : ℕ) → 0 < number → number < 2 ^ 64 → count_ones number ≡ 1
    → 2 ^ trailing_zeros w64 number ≡ number
one_bit-doubled number some small one =
    let shift = trailing_zeros w64 number in
    let set = bit_at-trailing_zeros w64 number some small in
    let high = number / 2 ^ shift in
    let odd : high / 2 * 2 ^ 1 + 1 ≡ high = omega (arith, set.1) in
    let parts = ap (λ h. h * 2 ^ shift + number % 2 ^ shift) odd ∙ shr_split number shift in
    sym (lone_bit (high / 2) shift (number % 2 ^ shift)
    (mod_below number (2 ^ shift) (pow_pos shift)) (ap count_ones parts ∙ one)) ∙ parts

-- 1, doubled some times, has one bit
pow-is_power_of_two : (shift : ℕ) → is_power_of_two (2 ^ shift) ≡ true
pow-is_power_of_two shift =
    let all = ones_cat shift 1 0 (pow_pos shift) in
    grind (arith, nat_tests, all, ones_le_self 0, ones_le_self 1, has_bit 1)

-- what `1 << shift` gives is a power of two
pub shl-is_power_of_two : (shift : ℕ) → shift < 64
    → is_power_of_two (1 * 2 ^ shift % 2 ^ 64) ≡ true
shl-is_power_of_two shift few = rw (one_shl shift 64 few) (pow-is_power_of_two shift)

-- one less than a power of two is the mask of what it leaves of a place
pub mask-of_power : (power place : ℕ) → 0 < power → power < 2 ^ 64 → is_power_of_two power ≡ true
    → bit_and place (power - 1) ≡ place % power
mask-of_power power place some small is =
    search (rules, one_bit-doubled, eqb-true, and_mask place (trailing_zeros w64 power))

-- the three things that a block's size says
block-parts : (size : ℕ) → is_block_size size ≡ true
    → (512 ≤ size) × (size ≤ 1073741824) × (count_ones size ≡ 1)
block-parts size is = search rules

-- a block has whole sectors
sectors-whole : (size : ℕ) → is_block_size size ≡ true → 512 * (size / 512) ≡ size
sectors-whole size is =
    search (rules, block-parts, div-add-mod' size 512, no_rest-of_one, le-div, mod_below)

-- a block's sectors are a number with one bit
sectors-one_bit : (size : ℕ) → is_block_size size ≡ true → count_ones (size / 512) ≡ 1
sectors-one_bit size is =
    let all = ones_cat 9 (size / 512) 0 (omega arith) in
    grind (arith, sectors-whole size is, all, ones_le_self 0, block-parts size is)

-- a block's sectors are 1, doubled as often as 0s stand below the bit
sectors-doubled : (size : ℕ) → is_block_size size ≡ true
    → 2 ^ trailing_zeros w64 (size / 512) ≡ size / 512
sectors-doubled size is = search (rules, block-parts, one_bit-doubled, le-div, sectors-one_bit)

-- a block has a sector's bytes, doubled as often as 0s stand below the bit of its sectors
pub size-doubled : (size : ℕ) → is_block_size size ≡ true
    → 512 * 2 ^ trailing_zeros w64 (size / 512) ≡ size
size-doubled size is = omega (arith, sectors-doubled size is, sectors-whole size is)

-- what is at most 2 ^ 21 is doubled at most 21 times
few-doublings : (shift : ℕ) → 2 ^ shift ≤ 2 ^ 21 → shift ≤ 21
few-doublings shift small = grind (arith, pow_below 21 shift)

-- a sector is doubled at most 21 times to a block
pub doublings-few : (size : ℕ) → is_block_size size ≡ true → trailing_zeros w64 (size / 512) ≤ 21
doublings-few size is = few-doublings (trailing_zeros w64 (size / 512))
    (omega (arith, sectors-doubled size is, (block-parts size is).1))

-- a place of some sectors into a block is in the block
in_block : (sectors block rest : ℕ) → rest < sectors
    → block_at (512 * sectors) (block * sectors + rest) ≡ block
in_block sectors block rest small = search rules

-- the block of a place by sectors
pub block_at-sectors : (sectors size place : ℕ) → 0 < sectors → 512 * sectors ≡ size
    → place / sectors ≡ block_at size place
block_at-sectors sectors size place some is = sym (rw (div-add-mod' place sectors, is)
    at (in_block _ (place / sectors) _ (mod_below place sectors some)))

-- so many sectors are left of a block
cut-within : (sectors block rest left : ℕ) → rest < sectors → 0 < left
    → CutsAt (block_at (512 * sectors)) (block * sectors + rest) left (min left (sectors - rest))
cut-within sectors block rest left small some = search (rules, in_block)

-- the sectors that are left of a place's block are where it is cut
pub cut-CutsAt : (sectors size place left : ℕ) → 0 < sectors → 512 * sectors ≡ size → 0 < left
    → CutsAt (block_at size) place left (min left (sectors - place % sectors))
cut-CutsAt sectors size place left some is asked = rw (div-add-mod' place sectors, is)
    at (cut-within sectors (place / sectors) _ left (mod_below place sectors some) asked)
