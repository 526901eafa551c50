use Rattle.std.proofs.Common.{◌≡◌, drop, map}
use Rattle.lab_target.specs.Reading.{devices_of}
use Rattle.lab_target.proofs.Found.{with_found}
use Rattle.lab_target.proofs.unbound.find_devices.Given as goal

-- the devices so far, with those of the words that are left, are the words'
abbrev pub invariant-loop-word : goal.invariant-loop-word
invariant-loop-word g l =
    devices_of (g.N.Names.found l.names) (map (λ word. word.now) l.words)
    ≡ with_found l.devices.items
    (devices_of (g.N.Names.found l.names) (map (λ word. word.now) (drop l.word-index l.words)))
