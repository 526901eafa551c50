-- Reports that stand beside their digests: what is found for one is its own, and one more that is
-- put in leaves all so.
use Rattle.lab_model.proofs.Common.{rules, ◌≡◌, ◌∙◌, ℕ, Bool, true, false, true≢false, cond, List}
use Rattle.lab_model.proofs.Common.{[], ◌∷◌, Some, Vec, Global, ap, refl, sym, AllByRecursion}
use Rattle.lab_model.proofs.Common.{lookup, bytes_eq, is_some, unwrap_or}
use Rattle.std.specs.Cmp.Lexicographic.{bytes_decides}
use Rattle.indexmap.specs.IndexMap.{insert_entry}
use Rattle.lab_sweep.specs.SeedLine.{digest_digits}

-- each text stands beside its digest
abbrev pub Digested : List (Vec ℕ Global × List ℕ) → Type 0
Digested = AllByRecursion (λ entry. entry.1 ≡ digest_digits entry.0.items)

-- what is found for a text is its digest
pub found-digest : (text digest : List ℕ) (entries : List (Vec ℕ Global × List ℕ))
    → Digested entries → Some digest ≡ lookup (λ key. bytes_eq text key.items) entries
    → digest ≡ digest_digits text
found-digest text digest [] each is = absurd (true≢false (ap is_some is))
found-digest text digest (entry ∷ entries) each is =
    by (bytes_eq text entry.0.items) (bytes_decides text entry.0.items).0 is
    (found-digest text digest entries each.1) where
      by : (same : Bool) → (same ≡ true → text ≡ entry.0.items)
          → Some digest ≡ cond same (Some entry.1)
          (lookup (λ key. bytes_eq text key.items) entries)
          → (Some digest ≡ lookup (λ key. bytes_eq text key.items) entries
          → digest ≡ digest_digits text) → digest ≡ digest_digits text
      by true equal is later = ap (λ found. unwrap_or found digest) is ∙ each.0
          ∙ ap digest_digits (sym (equal refl))
      by false equal is later = later is

-- with one text and its digest more all stand so
pub kept-digested : (report : Vec ℕ Global) (digest : List ℕ)
    → digest ≡ digest_digits report.items → (entries : List (Vec ℕ Global × List ℕ))
    → Digested entries
    → Digested (insert_entry (λ one other. bytes_eq one.items other.items) entries report digest)
kept-digested report digest is [] each = search rules
kept-digested report digest is (entry ∷ entries) each =
    search (rules, kept-digested report digest is entries each.1)
