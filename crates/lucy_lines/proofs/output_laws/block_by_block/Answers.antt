use Rattle.lucy_lines.proofs.OutputLaws.{block_by_block}
use Rattle.lucy_lines.proofs.output_laws.block_by_block.Goals as goal

pub returns : goal.returns
returns c = block_by_block
