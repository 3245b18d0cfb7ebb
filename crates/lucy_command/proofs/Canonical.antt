-- Whatever the texts are, `clap` reads them in the canonical list.
use Rattle.std.proofs.Common.{refl, codes, true, Some, ◌≡◌}
use Rattle.clap.specs.Walk.{first_of}
use Rattle.clap.specs.Simple.{matches_of}
use Rattle.clap.specs.Takes.{takes}
use Rattle.clap.proofs.OnLiterals.{clap_on_literals}
use Rattle.lucy_command.specs.Parts.{Texts}
use Rattle.lucy_command.specs.Seen.{or_empty, canonical, app}

pub scale_is : (t : Texts) → first_of (codes "scale") (matches_of app (canonical t)) ≡ Some (or_empty t.scale)
unfolding clap_on_literals
scale_is t = refl

pub lead_is : (t : Texts) → first_of (codes "lead") (matches_of app (canonical t)) ≡ Some (or_empty t.lead)
unfolding clap_on_literals
lead_is t = refl

pub instants_is : (t : Texts) → first_of (codes "instants") (matches_of app (canonical t)) ≡ Some (or_empty t.instants)
unfolding clap_on_literals
instants_is t = refl

pub workers_is : (t : Texts) → first_of (codes "workers") (matches_of app (canonical t)) ≡ Some (or_empty t.workers)
unfolding clap_on_literals
workers_is t = refl

pub block_is : (t : Texts) → first_of (codes "block") (matches_of app (canonical t)) ≡ Some (or_empty t.block)
unfolding clap_on_literals
block_is t = refl

pub first_is : (t : Texts) → first_of (codes "first") (matches_of app (canonical t)) ≡ Some (or_empty t.first)
unfolding clap_on_literals
first_is t = refl

pub second_is : (t : Texts) → first_of (codes "second") (matches_of app (canonical t)) ≡ Some (or_empty t.second)
unfolding clap_on_literals
second_is t = refl

pub taken : (t : Texts) → takes app (canonical t) ≡ true
unfolding clap_on_literals
taken t = refl
