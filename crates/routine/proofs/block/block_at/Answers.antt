use Rattle.routine.proofs.Blocks.{block_found}
use Rattle.routine.proofs.block.block_at.Goals as goal

pub returns : goal.returns
returns c = block_found c.args.file.now c.args.p _ c.get.result c.in_ok-checked_sub.ensures.0 c.in_ok-checked_sub.ensures.1 (rw c.as_chunks.ensures.front at (rw c.as_chunks.ensures.front_len at c.get.ensures.lookup.3))
