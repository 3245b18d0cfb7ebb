-- In a round each actor that could moves, and none moves exactly where all is done.
use Rattle.std.proofs.Common.{ℕ, ◌+◌, ◌<◌, ◌≡◌, List, [], ◌∷◌, length, ap, sym, refl, ◌∙◌, subst, arith}
use Rattle.std.specs.Prelude.{◌↔◌, Option, Some, None, slice_get}
use Rattle.lucy_host.specs.Operators.{kinds_of}
use Rattle.lucy_stream.specs.Systems.{System, given, taken}
use Rattle.lucy_stream.specs.Runs.{IsPossible, IsRun, IsFinished, first_left}
use Rattle.lucy_stream.proofs.AlikeLaws.{IsRun-same}
use Rattle.lucy_stream.proofs.StateLaws.{held-count}
use Rattle.lucy_stream.proofs.StuckLaws.{first_left-none, first_left-some}
use Rattle.lucy_net.proofs.NetLaws.{size_here}
use Rattle.lucy_core.specs.Seen as core
use Rattle.lucy_core.specs.Seen.{machine_on, done_of}
use Rattle.lucy_core.proofs.PickLaws.{possible_in}
use Rattle.lucy_ring.specs.Views.{GiverView, TakerView}
use Rattle.lucy_worker.specs.Parts as parts
use Rattle.lucy_worker.specs.Rounds.{KnowsAll}
use Rattle.lucy_worker.proofs.RoundLaws.{could_move}
use Rattle.lucy_runner.specs.Crews.{part_of, done_in, AreJoined}
use Rattle.lucy_runner.specs.Standing.{carried}
use Rattle.lucy_runner.proofs.OwnLaws.{IsGiving, IsTaking, giving_is, taking_is}
use Rattle.lucy_runner.proofs.Rounds.{Round, engine, low, high, Goes, goes}
use Rattle.lucy_runner.proofs.LowLaws.{engine_is, low_state, low_done, seen_done}
use Rattle.lucy_runner.proofs.ReachLaws.{picks_of, can_run, done_after, picks_counted}

-- the ends of every ring before the round
abbrev ends_before : (x : Round) → AreJoined x.crew x.places x.ends x.seen.net.rings
ends_before x r ring e = (x.standing.rings r ring e).joined

-- every end knows all
knows_items : (x : Round) (a : ℕ) (w : Goes x a) (j r : ℕ) (t : TakerView) → slice_get w.part.actor.takes j ≡ Some r → slice_get w.part.takers.items j ≡ Some t →
    taken (engine x).sys (low x).done r + length t.known ≡ given (engine x).sys (low x).done r
knows_items x a w j r t at end =
    let is : IsTaking x.seen.net x.crew x.places x.ends (ends_before x) r t = taking_is x.seen.net x.crew x.places x.ends (ends_before x) a w.part j r t x.standing.fixed.proper w.there w.at at end in
    let holds = (x.standing.rings r is.ring is.there).holds in
    omega (arith, held-count (engine x) (low x) r (low_state x), ap (λ (v : TakerView). length v.known) is.is, ap (λ xs. length xs) holds.known, ap (λ xs. length xs) holds.held)

knows_slots : (x : Round) (a : ℕ) (w : Goes x a) (j r : ℕ) (g : GiverView) → slice_get w.part.actor.gives j ≡ Some r → slice_get w.part.givers.items j ≡ Some g →
    given (engine x).sys (low x).done r + g.slots ≡ taken (engine x).sys (low x).done r + (engine x).sys.size r + 1
knows_slots x a w j r g at end =
    let is : IsGiving x.seen.net x.crew x.places x.ends (ends_before x) r g = giving_is x.seen.net x.crew x.places x.ends (ends_before x) a w.part j r g x.standing.fixed.proper w.there w.at at end in
    let holds = (x.standing.rings r is.ring is.there).holds in
    omega (arith, held-count (engine x) (low x) r (low_state x), ap (λ (v : GiverView). v.slots) is.is, holds.slots, ap (λ xs. length xs) holds.held, size_here x.seen.net x.seen.instants r is.ring is.there)

knows : (x : Round) (a : ℕ) (w : Goes x a) → KnowsAll (engine x).sys w.part (low x).done
knows x a w = record { items = knows_items x a w; slots = knows_slots x a w }

-- so whoever could moves
moves_on : (x : Round) (a : ℕ) (w : Goes x a) → IsPossible (engine x).sys (low x).done a → parts.done_of w.part < parts.done_of w.turn.after
moves_on x a w can =
    let now : (low x).done w.part.number ≡ parts.done_of w.part = low_done x w.part.number ∙ ap (λ b. done_in (part_of x.crew x.places b)) w.number ∙ ap done_in w.at in
    let own : IsPossible (engine x).sys (low x).done w.part.number = subst (IsPossible (engine x).sys (low x).done) (sym w.number) can in
    w.turn.moved (could_move (kinds_of x.seen.operators) x.seen.inputs x.seen.net x.seen.instants (low x) (carried x.seen x.before w.part) w.part (low x).done w.stands now (knows x a w) own)

pub all_moved : (x : Round) (a : ℕ) → core.CanStep x.seen a → done_of x.seen.done a < (high x).done a
unfolding machine_on
all_moved x a can =
    let l : a < length x.seen.net.actors = possible_in x.seen.net (core.machine_of x.seen) (core.order_of x.seen) x.seen.inputs (kinds_of x.seen.operators) x.seen.instants (engine_is x) (done_of x.seen.done) a can in
    let w : Goes x a = goes x a l in
    let here : IsPossible (engine x).sys (low x).done a = (IsRun-same (engine x).sys (done_of x.seen.done) (low x).done (a ∷ []) (λ b. sym (seen_done x b)) (can, tt)).0 in
    omega (arith, moves_on x a w here, x.counts a, ap done_in w.at, ap done_in w.turn.at)

-- where no event is possible all is done
left_none : (x : Round) (first : Option ℕ) → first_left (done_of x.seen.done) (core.order_of x.seen) ≡ first → ((a : ℕ) → core.CanStep x.seen a → ⊥) → core.IsOver x.seen
left_none x None e none = first_left-none (core.machine_of x.seen).sys (done_of x.seen.done) (core.order_of x.seen) (engine_is x).wired (engine_is x).whole x.standing.within.listed e
left_none x (Some a) e none = absurd (none a (first_left-some (core.machine_of x.seen).sys (done_of x.seen.done) (core.order_of x.seen) a (engine_is x).wired (engine_is x).whole e))

over_none : (sys : System) (d : ℕ → ℕ) (picks : List ℕ) → IsFinished sys d → IsRun sys d picks → length picks ≡ 0
over_none sys d [] over run = refl
over_none sys d (a ∷ picks) over run = absurd (omega (arith, run.0.left, over a))

none_after : (done picks : List ℕ) → length picks ≡ 0 → core.more_done done picks ≡ done
none_after done [] e = refl
none_after done (a ∷ picks) e = absurd (omega arith)

pub moves_none : (x : Round) → (x.moves ≡ 0) ↔ core.IsOver x.seen
moves_none x = (
  (λ e.
      (let none : length (picks_of x) ≡ 0 = omega (arith, picks_counted x) in
      left_none x (first_left (done_of x.seen.done) (core.order_of x.seen)) refl (λ a can.
      (let same : done_of x.seen.done a ≡ (high x).done a = ap (λ ds. done_of ds a) (sym (none_after x.seen.done (picks_of x) none)) ∙ done_after x a in
      absurd (omega (arith, all_moved x a can)))))),
  (λ over. (let none = over_none (core.machine_of x.seen).sys (done_of x.seen.done) (picks_of x) over (can_run x) in omega (arith, picks_counted x))),
)
