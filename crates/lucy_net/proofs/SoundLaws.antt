-- Orders of the instants, one after another, are a whole run for every horizon; then no item reaches itself.
use Rattle.std.proofs.Common.{ℕ, suc, ◌+◌, ◌*◌, ◌<◌, ◌≤◌, ◌≡◌, List, length, ap, sym, refl, ◌∙◌, subst, arith}
use Rattle.std.specs.Prelude.{All, Option, Some, None, slice_get}
use Rattle.std.proofs.Math.Nat.{mul-le-mul_left}
use Rattle.lucy_word.specs.Bits.{Bits, IsWord, ones_to, ones_in}
use Rattle.lucy_word.specs.Stored.{IsStored}
use Rattle.lucy_word.proofs.BitsLaws.{ones_to-none, ones_to-turns}
use Rattle.lucy_stream.specs.Needs.{StreamItem, ReachesItself, IsCausal}
use Rattle.lucy_stream.specs.Runs.{Leads, IsWhole}
use Rattle.lucy_stream.specs.Operations.{ops_of}
use Rattle.lucy_stream.specs.Schedules.{all_done, events_to}
use Rattle.lucy_stream.proofs.SoundLaws.{whole_to as whole_up_to}
use Rattle.lucy_net.specs.declared.net.Net.{Net}
use Rattle.lucy_net.specs.declared.net.Actor.{Actor}
use Rattle.lucy_net.specs.Plans.{form_of, net_system, done_by}
use Rattle.lucy_net.specs.Proper.{IsProper, IsProperRing}
use Rattle.lucy_net.specs.Causal.{net_places, items_by, IsOfInstant}
use Rattle.lucy_net.specs.Orders.{IsOrder, IsSound}
use Rattle.lucy_net.specs.Words.{net_words}
use Rattle.lucy_net.proofs.NetLaws.{ops_in, done_is, longer, write_counts}
use Rattle.lucy_net.proofs.WordLaws.{ring_word}
use Rattle.lucy_net.proofs.BackLaws.{IsRead, reached_is_read, no_cycle_by}

none_at : (o : Option Actor) → length (ops_in 0 o) ≡ 0
none_at None = refl
none_at (Some actor) = ap (λ q. length (ops_of (form_of actor.kind) actor.takes actor.gives q)) (ones_to-none actor.firing)

done_none : (net : Net) (a : ℕ) → done_by net 0 a ≡ 0
done_none net a = done_is net 0 a ∙ none_at (slice_get net.actors a)

next_order : (net : Net) (n : ℕ) (order : List ℕ) → IsOrder net n order → Leads (net_system net (suc n)) (all_done (net_system net n)) order (all_done (net_system net (suc n)))
unfolding done_by
next_order net n order is =
    subst (λ (k : ℕ). Leads (net_system net k) (all_done (net_system net n)) order (all_done (net_system net k))) (let z : n + 1 ≡ suc n = omega arith in z) is

-- the orders of the instants up to a horizon
pub whole_to : (net : Net) (events : ℕ → List ℕ) (m : ℕ) → ((n : ℕ) → n < m → IsOrder net n (events (suc n))) → IsWhole (net_system net m) (events_to events m)
unfolding done_by
whole_to net events m h =
    whole_up_to (net_system net) events m (done_none net) (λ k l. longer net k (suc k) (omega arith)) (λ k l. next_order net k (events (suc k)) (h k l))

pub sound : (net : Net) (events : ℕ → List ℕ) → ((n : ℕ) → IsOrder net n (events (n + 1))) → IsSound net events
sound net events orders m = whole_to net events m (λ n l. subst (λ (k : ℕ). IsOrder net n (events k)) (let z : n + 1 ≡ suc n = omega arith in z) (orders n))

-- then no item of these instants reaches itself
pub none_reaches : (net : Net) (events : ℕ → List ℕ) (m u : ℕ) (x : StreamItem) → IsProper net → ((n : ℕ) → n < m → IsOrder net n (events (suc n))) → u < m → IsOfInstant net u x → ReachesItself (net_places net) x → ⊥
none_reaches net events m u x is h l of reaches =
    no_cycle_by net (u + 1) (events_to events (u + 1)) x is (whole_to net events (u + 1) (λ n k. h n (omega arith))) (omega (arith, of.earlier)) of.by_now reaches

-- a word with a one in its period counts past every number
reaches : (w : Bits) (n : ℕ) → 0 < length w.period → IsWord w → n ≤ ones_to w (length w.prefix + 0 + n * length w.period)
reaches w n some word =
    let most : n * 1 ≤ n * ones_in w.period = mul-le-mul_left n word.has_one in
    omega (arith, ones_to-turns w 0 n)

-- an item that reaches itself is given on a ring, whose word counts it in some instant
pub sound_causal : (net : Net) (events : ℕ → List ℕ) → IsProper net → All IsStored (net_words net) → IsSound net events → IsCausal (net_places net)
sound_causal net events is words sound x one reached =
    let read : IsRead net x.place = reached_is_read net x is reached in
    let here : IsProperRing net read.r read.ring = is.rings read.r read.ring read.there in
    let w : Bits = read.ring.write in
    let stored : IsStored w = (ring_word IsStored net read.r read.ring words read.there).0 in
    let n : ℕ = length w.prefix + 0 + x.number * length w.period in
    let at : slice_get net.actors x.place ≡ Some here.giver = ap (slice_get net.actors) (sym read.from) ∙ here.gives_here in
    let items : items_by (slice_get net.actors x.place) n ≡ ones_to w n = ap (λ o. items_by o n) at ∙ write_counts (form_of here.giver.kind) here.giver.firing w n here.write in
    no_cycle_by net n (events_to events n) x is (sound n) one (omega (arith, reaches w x.number stored.nonempty stored.word)) reached
