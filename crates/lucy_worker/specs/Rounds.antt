-- How the parts of all workers make a state.
use Rattle.std.specs.Prelude.{ℕ, ◌+◌, ◌≡◌, ◌++◌, length, slice_get, Some}
use Rattle.lucy_stream.specs.Systems.{System, given, taken}
use Rattle.lucy_stream.specs.States.{State}
use Rattle.lucy_ring.specs.Views.{GiverView, TakerView}
use Rattle.lucy_worker.specs.declared.part.Part.{Part}
use Rattle.lucy_worker.specs.Parts.{done_of, given_on, taken_on}

-- the state is the part's, as far as it speaks of the part's actor
pub record IsIn (sys : System) (base : State) (p : Part) (s : State) : Type 0 where
  pub done : s.done p.number ≡ done_of p
  pub gave : (r : ℕ) → sys.from r ≡ p.number → s.gave r ≡ base.gave r ++ given_on p r
  pub took : (r : ℕ) → sys.to r ≡ p.number → s.took r ≡ base.took r ++ taken_on p r

-- the part's ends know all items and slots that the counts leave on their rings
pub record KnowsAll (sys : System) (p : Part) (done : ℕ → ℕ) : Type 0 where
  pub items : (j r : ℕ) (t : TakerView) → slice_get p.actor.takes j ≡ Some r → slice_get p.takers.items j ≡ Some t →
      taken sys done r + length t.known ≡ given sys done r
  pub slots : (j r : ℕ) (g : GiverView) → slice_get p.actor.gives j ≡ Some r → slice_get p.givers.items j ≡ Some g →
      given sys done r + g.slots ≡ taken sys done r + sys.size r + 1
