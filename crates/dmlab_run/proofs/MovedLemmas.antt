-- What several reads or writes moved together.
use Rattle.std.proofs.Common.{◌≡◌, ◌∙◌, ℕ, ◌+◌, ◌-◌, ◌≤◌, List, ◌++◌, length, take, drop, ap, sym}
use Rattle.std.proofs.Common.{arith, append_assoc, length-append, take-append-drop}
use Rattle.std.proofs.lemmas.List.{take_rest}
use Rattle.std.specs.Prelude.{Option}
use Rattle.std.specs.Io.KnownBytes.{Consumes}
use Rattle.std.proofs.KnownBytes.{Consumes-trans}
use Rattle.dmlab_run.specs.Moved.{ConsumesUpTo}

-- bytes that are gone, and then at most n more
pub ConsumesUpTo-more : (a b c : Option (List ℕ)) (bytes : List ℕ) (n most : ℕ)
    → Consumes a b bytes → ConsumesUpTo n b c → length bytes + n ≤ most → ConsumesUpTo most a c
ConsumesUpTo-more a b c bytes n most gone (more, few, rest) fits = (
  bytes ++ more,
  omega (arith, length-append bytes more),
  Consumes-trans a b c bytes more gone rest,
)

-- the text is what is done and what is left, also after the next n bytes of it
pub split-more : (text done rest : List ℕ) (n : ℕ) → text ≡ done ++ rest
    → text ≡ (done ++ take n rest) ++ take (length rest - n) (drop n rest)
split-more text done rest n split = split ∙ ap (λ l. done ++ l) (sym (take-append-drop n rest))
    ∙ sym (append_assoc done (take n rest) (drop n rest))
    ∙ ap (λ l. (done ++ take n rest) ++ l) (sym (take_rest rest n))
