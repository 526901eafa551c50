-- What a sector's bytes are by what is kept of them.
use Rattle.std.proofs.Common.{rules, ◌≡◌, ℕ, List, Option, replicate, IfSome}
use Rattle.lab_disk.specs.declared.sector.Kept.{Kept}
use Rattle.lab_disk.specs.Bytes.{bytes_of, same_in}

-- where one byte is kept, all bytes are that one
pub bytes_of-same : (kept : Kept) (found : Option ℕ) (bytes : List ℕ) → bytes_of kept ≡ bytes
    → found ≡ same_in kept → IfSome found (λ byte. bytes ≡ replicate 512 byte)
bytes_of-same kept found bytes view is = search rules
