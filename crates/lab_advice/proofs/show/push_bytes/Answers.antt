use Rattle.std.proofs.Common.{rules}
use Rattle.std.specs.String.{string_bytes}
use Rattle.lab_advice.proofs.PlaceLemmas.{bytes_shown-none, bytes_shown-more}
use Rattle.lab_advice.proofs.show.push_bytes.Goals as goal

-- at first nothing is appended
pub loop-byte-init : goal.loop-byte-init
loop-byte-init c = bytes_shown-none (string_bytes c.args.text.now)

-- one byte more is appended
pub loop-byte-preserved : goal.loop-byte-preserved
loop-byte-preserved c = search (rules, bytes_shown-more)
