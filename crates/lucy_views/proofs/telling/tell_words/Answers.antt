use Rattle.std.proofs.Common.{refl}
use Rattle.clap.specs.Values.{kind_of}
use Rattle.lucy_views.specs.Looks.{is_fault}
use Rattle.lucy_views.proofs.Sinks.{said_short, said_as}
use Rattle.lucy_views.proofs.telling.tell_words.Goals as goal

pub returns-in-Ok-clause-ends : goal.returns-in-Ok-clause-ends
returns-in-Ok-clause-ends g c = λ other. said_as (kind_of c.args.error) c.use_stderr.result _ _ _ _ _ c.use_stderr.ensures c.tell_text.ensures.ends

pub returns-clause-ends : goal.returns-clause-ends
returns-clause-ends g c = λ other. said_short (is_fault (kind_of c.args.error)) _ _ _ _ _ refl c.tell-in-Err.ensures.told
