use Rattle.std.proofs.Common.{ap, ◌∙◌}
use Rattle.lucy_place.specs.Standing.{at_one}
use Rattle.lucy_svg.proofs.ToldLaws.{place_at}
use Rattle.lucy_svg.proofs.told.tell_at.Goals as goal

pub returns : goal.returns
returns c = λ n at before.
    c.tell_right.ensures n (ap (at_one n.places) c.in-Some.ensures ∙ place_at n c.args.index c.args.entry.now at) before
