use Rattle.lucy_inference.proofs.OneAnswer.{inference_one, inference_kept, refusals_alike}
use Rattle.lucy_inference.proofs.laws.one_inference.Goals as goal

pub returns : goal.returns
returns c = record { one = inference_one; kept = inference_kept; alike = refusals_alike }
