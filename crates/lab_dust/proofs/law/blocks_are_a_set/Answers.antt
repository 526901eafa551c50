-- The listed blocks go on rising.
use Rattle.lab_dust.specs.Dust.{block_at, block_count, message_of}
use Rattle.lab_dust.proofs.BlockLemmas.{none-rise, piece-rises, told-rises}
use Rattle.lab_dust.proofs.law.blocks_are_a_set.Goals as goal

-- in the opening state, and after each piece and each message
pub returns-clause-rises : goal.returns-clause-rises
returns-clause-rises c = record {
  opening = λ reference size len. none-rise;
  started = λ line now rising. rising;
  judged = λ line kind piece now rising.
      piece-rises line.list kind (block_at line.size piece.first) rising;
  messaged = λ line words rising.
      told-rises line.list (message_of (block_count line) words) rising;
}
