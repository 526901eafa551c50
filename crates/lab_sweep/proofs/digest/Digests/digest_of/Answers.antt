-- The digest that is found is the text's own.
use Rattle.lab_model.proofs.Common.{◌≡◌, Some, subst, lookup, bytes_eq, recursion_from_All}
use Rattle.lab_sweep.specs.SeedLine.{digest_digits}
use Rattle.lab_sweep.proofs.Digested.{found-digest}
use Rattle.lab_sweep.proofs.digest.Digests.digest_of.Goals as goal

pub returns-in-Some : goal.returns-in-Some
returns-in-Some c =
    found-digest c.args.text.items c.in-Some.digest.now c.self.inside.known.entries
    (recursion_from_All (λ entry. entry.1 ≡ digest_digits entry.0.items)
    c.self.inside.known.entries c.self.invariant) (subst (λ text. Some c.in-Some.digest.now
    ≡ lookup (λ key. bytes_eq text key.items) c.self.inside.known.entries)
    c.as_slice.ensures.value c.in-Some.ensures.value)
