use Rattle.std.proofs.Common.{◌+◌, ◌≤◌, length, ap, sym, subst, arith}
use Rattle.lucy_naming.specs.Phrases.{expr_phrase}
use Rattle.lucy_place.specs.Standing.{most_places}
use Rattle.lucy_naming.specs.Places.{Known}
use Rattle.lucy_naming.specs.Drafts.{next_of}
use Rattle.lucy_naming.specs.Views.{known_of}
use Rattle.lucy_naming.proofs.RoomLaws.{number_few}
use Rattle.lucy_naming.proofs.nodes.def_places.Goals as goal

pub lefts-requires : goal.lefts-requires
lefts-requires c =
    let k : Known = known_of c.args.names.now in
    let few = number_few k (next_of k c.args.draft.now) (expr_phrase c.args.def.now.right) c.requires.few (omega (arith, c.requires.room.place)) in
    let n : c.in_ok-right.right ≤ most_places + 1 = subst (λ n. n ≤ most_places + 1) (sym c.in_ok-right.ensures.number) few in
    omega (arith, n, ap length c.list-2.ensures, c.requires.lefts)
