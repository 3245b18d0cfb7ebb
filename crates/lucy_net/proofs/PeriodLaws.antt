-- The words of a net, one after another.
use Rattle.std.proofs.Common.{ℕ, suc, zero, ◌+◌, ◌*◌, ◌/◌, ◌%◌, ◌-◌, ◌<◌, ◌≤◌, ◌≡◌, max, cond, List, [], ◌∷◌, ◌++◌, map, length, get_or, take, drop, ap, sym, refl, ◌∙◌, subst, inl, inr, arith, append_assoc}
use Rattle.std.specs.Prelude.{All, Option, Some, None, slice_get, IfNone}
use Prim.Native.Nat.{◌∣◌}
use Rattle.std.proofs.Math.Nat.{div-mul_cancel, pos_of_dvd_of_pos, mod-lt, mod-add-div'}
use Rattle.std.proofs.lemmas.Bool.{cases_lt, le-leb, lt-leb}
use Rattle.std.proofs.lemmas.Option.{slice_get_read}
use Rattle.std.proofs.lemmas.List.{map_more}
use Rattle.lucy_word.specs.Bits.{Bits}
use Rattle.lucy_word.specs.Multiple.{IsLcm}
use Rattle.lucy_word.specs.Stored.{IsStored}
use Rattle.lucy_word.specs.Limits.{limit_number}
use Rattle.lucy_word.specs.declared.limit.Limit.TheVariants as limit
use Rattle.lucy_net.specs.declared.net.Net.{Net}
use Rattle.lucy_net.specs.declared.net.Actor.{Actor}
use Rattle.lucy_net.specs.declared.net.RingSpec.{RingSpec}
use Rattle.lucy_net.specs.Proper.{IsProper}
use Rattle.lucy_net.specs.Orders.{IsOrder}
use Rattle.lucy_net.specs.Words.{ring_words, net_words}
use Rattle.lucy_net.specs.Lengths.{AreLengths, operations_by}
use Rattle.lucy_net.specs.Faults.{AreOrders}
use Rattle.lucy_net.specs.Schedules.{Timetable, row_of, events_at, IsScheduleOf, IsTooLong}
use Rattle.lucy_net.specs.Passing.{AreTooMany}
use Rattle.lucy_net.proofs.WordLaws.{rings_at, actor_word, ring_word}
use Rattle.lucy_net.proofs.LengthLaws.{lengths_more, lengths_too_long, lengths_exist}
use Rattle.lucy_net.specs.Turning.{Turns, IsTurning}
use Rattle.lucy_net.proofs.AgainLaws.{order_later}
use Rattle.lucy_net.proofs.RowLaws.{row_orders}
use Rattle.lucy_net.proofs.SoundLaws.{whole_to, sound_causal}

pub if_none : {X : Type 0} (o : Option X) (P : Type 0) → P → IfNone o P
if_none None P p = p
if_none (Some x) P p = tt

split_actors : (actors : List Actor) (i : ℕ) (actor : Actor) (rest : List Bits) → slice_get actors i ≡ Some actor →
    map (λ (a : Actor). a.firing) actors ++ rest ≡ map (λ (a : Actor). a.firing) (take i actors) ++ actor.firing ∷ (map (λ (a : Actor). a.firing) (drop (suc i) actors) ++ rest)
split_actors [] i actor rest e = cc
split_actors (x ∷ actors) zero actor rest e = (let same : x ≡ actor = cc in ap (λ (a : Actor). a.firing ∷ (map (λ (b : Actor). b.firing) actors ++ rest)) same)
split_actors (x ∷ actors) (suc i) actor rest e = ap (λ ws. x.firing ∷ ws) (split_actors actors i actor rest e)

split_rings : (rings : List RingSpec) (i : ℕ) (ring : RingSpec) → slice_get rings i ≡ Some ring → ring_words rings ≡ ring_words (take i rings) ++ ring.write ∷ ring.read ∷ ring_words (drop (suc i) rings)
split_rings [] i ring e = cc
split_rings (x ∷ rings) zero ring e = (let same : x ≡ ring = cc in ap (λ (r : RingSpec). r.write ∷ r.read ∷ ring_words rings) same)
split_rings (x ∷ rings) (suc i) ring e = ap (λ ws. x.write ∷ x.read ∷ ws) (split_rings rings i ring e)

-- what is said of a word that is too many
abbrev pub IsOver : Bits → ℕ → ℕ → Type 0
IsOver w prefix period = (m : ℕ) × IsLcm period (length w.period) m × (1048576 < max prefix (length w.prefix) + m)

pub actors_too_long : (net : Net) (items : List Actor) (i : ℕ) (actor : Actor) (prefix period : ℕ) → items ≡ net.actors → i < length items → actor ≡ get_or items i actor → AreLengths (map (λ (a : Actor). a.firing) (take i items)) prefix period →
    IsOver actor.firing prefix period → AreTooMany net
actors_too_long net items i actor prefix period same l is now over P Q whole =
    let at : slice_get items i ≡ Some actor = slice_get_read items (length items) i actor refl l is in
    lengths_too_long (map (λ (a : Actor). a.firing) (take i items)) (map (λ (a : Actor). a.firing) (drop (suc i) items) ++ ring_words net.rings) actor.firing prefix period over.0 1048576 P Q now over.1 over.2
    (subst (λ ws. AreLengths ws P Q) (split_actors items i actor (ring_words net.rings) at) (subst (λ (xs : List Actor). AreLengths (map (λ (a : Actor). a.firing) xs ++ ring_words net.rings) P Q) (sym same) whole))

pub actors_more : (items : List Actor) (i : ℕ) (actor : Actor) (prefix period new_prefix new_period : ℕ) → i < length items → actor ≡ get_or items i actor → AreLengths (map (λ (a : Actor). a.firing) (take i items)) prefix period →
    0 < length actor.firing.period → new_prefix ≡ max prefix (length actor.firing.prefix) → IsLcm period (length actor.firing.period) new_period → AreLengths (map (λ (a : Actor). a.firing) (take (i + 1) items)) new_prefix new_period
actors_more items i actor prefix period new_prefix new_period l is now some e lcm =
    let same : map (λ (a : Actor). a.firing) (take (i + 1) items) ≡ map (λ (a : Actor). a.firing) (take i items) ++ actor.firing ∷ [] =
    map_more (λ (a : Actor). a.firing) items i actor l ∙ ap (λ (x : Actor). map (λ (a : Actor). a.firing) (take i items) ++ x.firing ∷ []) (sym is) in
    subst (λ ws. AreLengths ws new_prefix new_period) (sym same) (lengths_more (map (λ (a : Actor). a.firing) (take i items)) actor.firing prefix period new_prefix new_period now some e lcm)

-- those of the rings follow those of the actors
before_ring : Net → List RingSpec → ℕ → List Bits
before_ring net items i = map (λ (a : Actor). a.firing) net.actors ++ ring_words (take i items)

words_here : (net : Net) (items : List RingSpec) (i : ℕ) (ring : RingSpec) → items ≡ net.rings → slice_get items i ≡ Some ring → net_words net ≡ before_ring net items i ++ ring.write ∷ ring.read ∷ ring_words (drop (suc i) items)
unfolding before_ring
words_here net items i ring same at =
    ap (λ (xs : List RingSpec). map (λ (a : Actor). a.firing) net.actors ++ ring_words xs) (sym same) ∙ ap (λ ws. map (λ (a : Actor). a.firing) net.actors ++ ws) (split_rings items i ring at)
    ∙ sym (append_assoc (map (λ (a : Actor). a.firing) net.actors) (ring_words (take i items)) (ring.write ∷ ring.read ∷ ring_words (drop (suc i) items)))

pub write_too_long : (net : Net) (items : List RingSpec) (i : ℕ) (ring : RingSpec) (prefix period : ℕ) → items ≡ net.rings → i < length items → ring ≡ get_or items i ring →
    AreLengths (map (λ (a : Actor). a.firing) net.actors ++ ring_words (take i items)) prefix period → IsOver ring.write prefix period → AreTooMany net
unfolding before_ring
write_too_long net items i ring prefix period same l is now over P Q whole =
    let at : slice_get items i ≡ Some ring = slice_get_read items (length items) i ring refl l is in
    lengths_too_long (before_ring net items i) (ring.read ∷ ring_words (drop (suc i) items)) ring.write prefix period over.0 1048576 P Q now over.1 over.2
    (subst (λ ws. AreLengths ws P Q) (words_here net items i ring same at) whole)

pub read_too_long : (net : Net) (items : List RingSpec) (i : ℕ) (ring : RingSpec) (prefix period mid_prefix mid_period : ℕ) → items ≡ net.rings → i < length items → ring ≡ get_or items i ring →
    AreLengths (map (λ (a : Actor). a.firing) net.actors ++ ring_words (take i items)) prefix period → 0 < length ring.write.period → mid_prefix ≡ max prefix (length ring.write.prefix) → IsLcm period (length ring.write.period) mid_period →
    IsOver ring.read mid_prefix mid_period → AreTooMany net
unfolding before_ring
read_too_long net items i ring prefix period mid_prefix mid_period same l is now some e lcm over P Q whole =
    let at : slice_get items i ≡ Some ring = slice_get_read items (length items) i ring refl l is in
    let mid : AreLengths (before_ring net items i ++ ring.write ∷ []) mid_prefix mid_period = lengths_more (before_ring net items i) ring.write prefix period mid_prefix mid_period now some e lcm in
    lengths_too_long (before_ring net items i ++ ring.write ∷ []) (ring_words (drop (suc i) items)) ring.read mid_prefix mid_period over.0 1048576 P Q mid over.1 over.2
    (subst (λ ws. AreLengths ws P Q) (words_here net items i ring same at ∙ sym (append_assoc (before_ring net items i) (ring.write ∷ []) (ring.read ∷ ring_words (drop (suc i) items)))) whole)

pub rings_more : (net : Net) (items : List RingSpec) (i : ℕ) (ring : RingSpec) (prefix period mid_prefix mid_period new_prefix new_period : ℕ) → i < length items → ring ≡ get_or items i ring →
    AreLengths (map (λ (a : Actor). a.firing) net.actors ++ ring_words (take i items)) prefix period → 0 < length ring.write.period → mid_prefix ≡ max prefix (length ring.write.prefix) → IsLcm period (length ring.write.period) mid_period →
    0 < length ring.read.period → new_prefix ≡ max mid_prefix (length ring.read.prefix) → IsLcm mid_period (length ring.read.period) new_period →
    AreLengths (map (λ (a : Actor). a.firing) net.actors ++ ring_words (take (i + 1) items)) new_prefix new_period
unfolding before_ring
rings_more net items i ring prefix period mid_prefix mid_period new_prefix new_period l is now some e lcm some_read e_read lcm_read =
    let at : slice_get items i ≡ Some ring = slice_get_read items (length items) i ring refl l is in
    let front : List Bits = map (λ (a : Actor). a.firing) net.actors in
    let mid : AreLengths (before_ring net items i ++ ring.write ∷ []) mid_prefix mid_period = lengths_more (before_ring net items i) ring.write prefix period mid_prefix mid_period now some e lcm in
    let all : AreLengths (before_ring net items i ++ ring.write ∷ [] ++ ring.read ∷ []) new_prefix new_period = lengths_more (before_ring net items i ++ ring.write ∷ []) ring.read mid_prefix mid_period new_prefix new_period mid some_read e_read lcm_read in
    let same : before_ring net items i ++ ring.write ∷ [] ++ ring.read ∷ [] ≡ front ++ ring_words (take (i + 1) items) =
    append_assoc (before_ring net items i) (ring.write ∷ []) (ring.read ∷ []) ∙ append_assoc front (ring_words (take i items)) (ring.write ∷ ring.read ∷ [])
    ∙ ap (λ ws. front ++ ws) (sym (rings_at items i ring at)) ∙ ap (λ n. front ++ ring_words (take n items)) (let z : suc i ≡ i + 1 = omega arith in z) in
    subst (λ ws. AreLengths ws new_prefix new_period) same all

turns_from : (w : Bits) (t prefix period : ℕ) → length w.prefix ≤ prefix → length w.period ∣ period → 0 < period → prefix ≤ t → Turns w t period
turns_from w t prefix period p d some l = record {
  times = period / length w.period;
  whole = sym (div-mul_cancel (length w.period) d);
  past = omega arith;
  some = pos_of_dvd_of_pos d some;
}

-- so past the prefix all words turn with the period
turning_from : (net : Net) (prefix period t : ℕ) → AreLengths (net_words net) prefix period → prefix ≤ t → IsTurning net t period
turning_from net prefix period t is l = record {
  firing = λ a actor e. turns_from actor.firing t prefix period (actor_word (λ w. length w.prefix ≤ prefix) net a actor is.prefixes e) (actor_word (λ w. length w.period ∣ period) net a actor is.periods e) is.some l;
  write = λ r ring e. (let p = ring_word (λ w. length w.prefix ≤ prefix) net r ring is.prefixes e in let d = ring_word (λ w. length w.period ∣ period) net r ring is.periods e in turns_from ring.write t prefix period p.0 d.0 is.some l);
  read = λ r ring e. (let p = ring_word (λ w. length w.prefix ≤ prefix) net r ring is.prefixes e in let d = ring_word (λ w. length w.period ∣ period) net r ring is.periods e in turns_from ring.read t prefix period p.1 d.1 is.some l);
}

-- each instant's row is an order of it
all_orders : (net : Net) (s : Timetable) → IsProper net → AreLengths (net_words net) s.prefix s.period → AreOrders net s.orders → length s.orders ≡ s.prefix + s.period → (n : ℕ) → IsOrder net n (events_at s (suc n))
all_orders net s is lengths are len n = elim (cases_lt n s.prefix) [
  | inl l ↦
      let row : row_of s (suc n) ≡ n = ap (λ b. cond b (suc n - 1) (s.prefix + (suc n - s.prefix - 1) % s.period)) (le-leb (suc n) s.prefix (omega arith)) ∙ (let z : suc n - 1 ≡ n = omega arith in z) in
      subst (λ (k : ℕ). IsOrder net n (get_or s.orders k [])) (sym row) (row_orders net s.orders are n (omega arith))
  | inr l ↦
      let m : ℕ = n - s.prefix in
      let t : ℕ = s.prefix + m % s.period in
      let less : m % s.period < s.period = mod-lt m lengths.some in
      let row : row_of s (suc n) ≡ t =
      ap (λ b. cond b (suc n - 1) (s.prefix + (suc n - s.prefix - 1) % s.period)) (lt-leb (suc n) s.prefix (omega arith)) ∙ ap (λ k. s.prefix + k % s.period) (let z : suc n - s.prefix - 1 ≡ m = omega arith in z) in
      let again : IsOrder net (t + m / s.period * s.period) (get_or s.orders t []) = order_later net t s.period (m / s.period) (get_or s.orders t []) is (λ k h. turning_from net s.prefix s.period k lengths (omega arith)) (row_orders net s.orders are t (omega arith)) in
      let same : t + m / s.period * s.period ≡ n = omega (arith, mod-add-div' m s.period) in
      subst (λ (k : ℕ). IsOrder net n (get_or s.orders k [])) (sym row) (subst (λ (k : ℕ). IsOrder net k (get_or s.orders t [])) same again)
]

pub schedule_ok : (net : Net) (s : Timetable) → IsProper net → All IsStored (net_words net) → AreLengths (net_words net) s.prefix s.period → s.prefix + s.period ≤ limit_number limit.Schedule → operations_by net (s.prefix + s.period) ≤ limit_number limit.Events → AreOrders net s.orders → length s.orders ≡ s.prefix + s.period → IsScheduleOf net s
schedule_ok net s is words lengths short few are len =
    let orders : (n : ℕ) → IsOrder net n (events_at s (suc n)) = all_orders net s is lengths are len in
    record {
      allowed = record { lengths = lengths; short = short; few = few };
      sound = λ m. whole_to net (events_at s) m (λ n l. orders n);
      causal = sound_causal net (events_at s) is words (λ m. whole_to net (events_at s) m (λ n l. orders n));
    }

-- words that are too many have lengths, which are
pub too_long : (net : Net) → All IsStored (net_words net) → AreTooMany net → IsTooLong net
too_long net words many =
    let found = lengths_exist (net_words net) words in
    (found.0, found.1, found.2, many found.0 found.1 found.2)
