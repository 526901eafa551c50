use Rattle.lab_model.proofs.Common.{sym}
use Rattle.lab_verify.proofs.verifier.check_end.Goals as goal

-- a rule is told
pub returns-in-Some : goal.returns-in-Some
returns-in-Some g c = λ parts. (
  c.in-Some.rule,
  rw (sym c.in-Some.is) (c.broken_end.ensures parts),
  c.script.ensures,
)

-- none is
pub returns-in-None : goal.returns-in-None
returns-in-None g c = λ parts. rw c.in-None.is at (c.broken_end.ensures parts)
