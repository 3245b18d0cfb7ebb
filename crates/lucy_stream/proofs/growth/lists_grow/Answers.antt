use Rattle.lucy_stream.proofs.ListLaws.{form_list-front}
use Rattle.lucy_stream.proofs.growth.lists_grow.Goals as goal

pub returns : goal.returns
returns c = form_list-front
