use Rattle.lucy_stream.proofs.NeedLaws.{form_back, needs_back}
use Rattle.lucy_stream.proofs.causality.items_need_what_was_there.Goals as goal

pub returns : goal.returns
returns c = record { form = form_back; iterates = needs_back }
