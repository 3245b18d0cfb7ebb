use Rattle.lucy_word.proofs.CuttingLaws.{is_split, long_enough}
use Rattle.lucy_word.proofs.spelling.parts.Goals as goal

pub returns-then-rest-lt2 : goal.returns-then-rest-lt2
returns-then-rest-lt2 c f h e = absurd (long_enough c.args.text.now c.split_at.result.1.now c.prefix_end-n.result f h e c.prefix_end-n.ensures.value c.split_at.ensures.back c.if-rest-lt2.true)

pub returns : goal.returns
returns c f h e = is_split c.args.text.now c.split_at.result.0.now c.split_at.result.1.now c.prefix_end-n.result f h e c.prefix_end-n.ensures.value c.split_at.ensures.front c.split_at.ensures.back
