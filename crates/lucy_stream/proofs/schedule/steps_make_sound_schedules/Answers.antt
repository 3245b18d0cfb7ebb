use Rattle.lucy_stream.proofs.SoundLaws.{whole_to}
use Rattle.lucy_stream.proofs.schedule.steps_make_sound_schedules.Goals as goal

pub returns : goal.returns
returns c = λ systems events none longer leads n. whole_to systems events n none (λ k l. longer k) (λ k l. leads k)
