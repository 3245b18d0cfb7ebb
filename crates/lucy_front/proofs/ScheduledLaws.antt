-- What flattening wants of clocks, and what its refusals say of a text.
use Rattle.std.proofs.Common.{◌<◌, ◌≡◌, List, subst, inl, arith}
use Rattle.lucy_place.specs.declared.placed.PlacedNode.{PlacedNode}
use Rattle.lucy_clock.specs.declared.node_clock.NodeClock.{NodeClock}
use Rattle.lucy_kahn.specs.Sizes.{all_places}
use Rattle.lucy_flat.specs.Refusals.{RefusesFlat}
use Rattle.lucy_flat.specs.declared.error.FlatError.{FlatError}
use Rattle.lucy_flat.specs.declared.error.FlatError.TheVariants as flat
use Rattle.lucy_net.specs.declared.net.Net.{Net}
use Rattle.lucy_program.specs.Scheduled.{IsNetOf}
use Rattle.lucy_front.specs.Unscheduled.{RefusesNet, flat_refusal}

pub flat_refuses : (nodes : List PlacedNode) (given clocks : List NodeClock) (e : FlatError) → given ≡ clocks → RefusesFlat nodes given e → RefusesNet nodes clocks (flat_refusal e)
flat_refuses nodes given clocks (flat.Limit l) same h = inl (subst (λ cs. RefusesFlat nodes cs (flat.Limit l)) same h)
flat_refuses nodes given clocks flat.OutOfMemory same h = tt

-- the instance places of a flat net are few
pub few_places : (nodes : List PlacedNode) (clocks : List NodeClock) (net : Net) → IsNetOf nodes clocks net → all_places nodes < 4294967296
few_places nodes clocks net is = let small = is.flat.small.0 in omega arith
