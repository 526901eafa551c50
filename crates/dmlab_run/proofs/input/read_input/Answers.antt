-- What the failed read left was at most what the bound allows after the bytes so far.
use Rattle.std.proofs.Common.{rules, arith, ◌<◌, ◌≤◌, vec_len}
use Rattle.std.specs.Io.KnownBytes.{Consumes, IsAtEnd}
use Rattle.dmlab_run.proofs.MovedLemmas.{ConsumesUpTo-more}
use Rattle.dmlab_run.proofs.RunningLemmas.{IsInput-gone}
use Rattle.dmlab_run.proofs.input.read_input.Goals as goal

pub returns-in_err-read_piece-clause-err : goal.returns-in_err-read_piece-clause-err
returns-in_err-read_piece-clause-err g c =
    let most = ConsumesUpTo-more _ _ _ _ _ 16777217 c.loop-bytes.invariant.bytes
    c.in_err-read_piece.ensures.err (omega (arith, c.loop-bytes.bytes.ok.0)) in
    search rules

-- at the end the bytes are all that the input has, or as many as are read at most
pub returns-clause-read : goal.returns-clause-read
returns-clause-read g c =
    let old = g.R.Read.remaining c.args.input.now.inner in
    let new = g.R.Read.remaining c.loop-bytes-test.input.inner in
    let bytes = c.loop-bytes-test.bytes in
    let gone : Consumes old new bytes.items = search rules in
    let most : vec_len bytes ≤ 16777217 = search rules in
    let end : vec_len bytes < 16777217 → IsAtEnd new = search rules in
    IsInput-gone old new bytes.items gone (omega (arith, most, bytes.ok.0))
    (λ short. end (omega (arith, short, bytes.ok.0)))
