-- A first number that isn't in its range is no corruption's.
use Rattle.std.proofs.Common.{rules, ◌≡◌, sym, ◌∙◌, ℕ, List, Bool, false, cond}
use Rattle.std.specs.Prelude.{◌&&◌, nat_le, Option, None, Err}
use Rattle.lab_text.specs.Numbers.{is_number, number_of, value_of}
use Rattle.lab_text.specs.declared.numbers.NumberFault.{NumberFault}
use Rattle.lab_flakey.specs.Features.{greatest_count}
use Rattle.lab_flakey.proofs.features.corruption_said.Goals as goal

-- a word that isn't read is no number, or too large
unread : (word : List ℕ) (max : ℕ) (fault : NumberFault) → number_of word max ≡ Err fault
    → (is_number word && nat_le (value_of word) max) ≡ false
unfolding number_of
unread word max fault said = search rules

-- nothing is taken where one of its tests fails
neither : {A : Type 0} (a b c d e : Bool) (x : Option A) → (a && d) ≡ false
    → cond ((a && b) && (c && (d && e))) x None ≡ None
neither a b c d e x not_both = search rules

-- it is none
pub returns-in_default-4 : goal.returns-in_default-4
returns-in_default-4 c =
    let not_both = unread c.args.nth.now greatest_count _
    (sym c.count.ensures ∙ c.in_default.is-0) in
    search (rules, neither, not_both)
