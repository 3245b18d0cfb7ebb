use Rattle.std.proofs.Common.{ap, refl, arith}
use Rattle.lucy_word.proofs.BitsLaws.{ones_to-none}
use Rattle.lucy_results.specs.Playing.{PlayerView, crew_for}
use Rattle.lucy_run.proofs.CourseLaws.{begin}
use Rattle.lucy_run.proofs.HorizonLaws.{few_most}
use Rattle.lucy_run.proofs.course.Course.new.Goals as goal

pub new-requires-clause-suffice : goal.new-requires-clause-suffice
new-requires-clause-suffice g c κs within = λ i word e. omega (arith, ones_to-none word)

pub returns-in-Ok : goal.returns-in-Ok
returns-in-Ok g c = record {
  begun = (
    refl,
    refl,
    refl,
    λ source. begin _ _ c.in_ok-reader.none (crew_for c.args.net c.args.pace.workers) c.in_ok-reader.ensures.begun c.in_ok-reader.ensures.kept c.in_ok-reader.ensures.fresh c.in_ok-reader.ensures.empty c.in-Ok.ensures
        c.param_words-words.ensures.words refl refl refl
        (few_most c.args.pace.instants c.requires.pace.few) c.requires.pace.block source,
  );
  crew = ap (λ (v : PlayerView). v.crew) c.in-Ok.ensures;
}
