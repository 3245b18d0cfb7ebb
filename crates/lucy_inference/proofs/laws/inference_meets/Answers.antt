use Rattle.lucy_inference.proofs.Steps.{inference_met, inference_within, inference_base}
use Rattle.lucy_inference.proofs.laws.inference_meets.Goals as goal

pub returns : goal.returns
returns c = record { met = inference_met; within = inference_within; base = inference_base }
