-- The text that is put in stands beside its digest, as do the others.
use Rattle.lab_model.proofs.Common.{◌≡◌, subst, sym, recursion_from_All}
use Rattle.std.proofs.lemmas.List.Elements.{All-from_recursion}
use Rattle.lab_sweep.specs.SeedLine.{digest_digits}
use Rattle.lab_sweep.proofs.Digested.{Digested, kept-digested}
use Rattle.lab_sweep.proofs.digest.Digests.keep.Goals as goal

pub invariant_of-self-then-len-lt256 : goal.invariant_of-self-then-len-lt256
invariant_of-self-then-len-lt256 c =
    All-from_recursion (λ entry. entry.1 ≡ digest_digits entry.0.items) c.insert.new.self.entries
    (subst Digested (sym c.in_ok-insert.ensures.entries) (kept-digested c.args.text c.args.digest
    c.requires c.self.inside.known.entries (recursion_from_All
    (λ entry. entry.1 ≡ digest_digits entry.0.items) c.self.inside.known.entries c.self.invariant)))
