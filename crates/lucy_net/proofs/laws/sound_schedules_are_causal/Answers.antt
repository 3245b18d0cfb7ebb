use Rattle.lucy_net.proofs.BackLaws.{no_cycle_by}
use Rattle.lucy_net.proofs.SoundLaws.{sound_causal}
use Rattle.lucy_net.proofs.laws.sound_schedules_are_causal.Goals as goal

pub returns : goal.returns
returns c = record { given = no_cycle_by; all = sound_causal }
