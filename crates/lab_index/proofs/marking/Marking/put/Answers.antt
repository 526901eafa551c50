-- One mark is changed, in the word that isn't counted.
use Rattle.std.proofs.Common.{◌≡◌, ◌/◌, arith, refl}
use Rattle.lab_index.proofs.Changing.{changed-but, few-words_but, turned}
use Rattle.lab_index.proofs.Sets.{set-read}
use Rattle.lab_index.proofs.marking.Marking.put.Goals.{then-at-self, else-at-self}
use Rattle.lab_index.proofs.marking.Marking.put.Goals as goal

-- there are few words
pub settled-self-inside-requires-clause-small : goal.settled-self-inside-requires-clause-small
settled-self-inside-requires-clause-small c =
    rw c.deref.ensures.value (few-words_but c.self.invariant)

-- all others are counted
pub invariant_of-self : goal.invariant_of-self
invariant_of-self c =
    elim c.if-at-self.branch [
      | then-at-self w ↦ rw w.self-inside-is (turned _ _ c.self.invariant
          (rw w.deref.ensures.value at w.settled-self-inside.ensures.bits)
          (rw w.deref.ensures.value at w.settled-self-inside.ensures.passed))
      | else-at-self w ↦
          let same : c.args.n / 64 ≡ c.self.inside.at = omega arith in
          rw (w.self-inside-is, same) (changed-but c.self.invariant _)
    ]

-- the bit that is changed is the number's mark
pub returns : goal.returns
returns c =
    let same : c.if-at-self.self-inside.words ≡ c.self.inside.words =
    elim c.if-at-self.branch [
      | then-at-self w ↦ rw w.self-inside-is refl
      | else-at-self w ↦ rw w.self-inside-is refl
    ] in
    set-read c.if-at-self.self-inside.words.items c.args.self.now c.args.n
    (rw same c.self.view_is) c.requires c.index.result.now c.with_mark.result c.args.mark
    c.index.ensures c.with_mark.ensures
