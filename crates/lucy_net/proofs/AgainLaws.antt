-- Past all prefixes an instant is alike to the one a hyperperiod later.
use Rattle.std.proofs.Common.{ℕ, suc, zero, ◌+◌, ◌-◌, ◌*◌, ◌/◌, ◌<◌, ◌≤◌, ◌≡◌, true, false, cond, List, [], length, get_or, drop, ap, sym, refl, ◌∙◌, subst, inl, inr, arith}
use Rattle.std.specs.Prelude.{Option, Some, None, slice_get}
use Rattle.std.proofs.Math.Nat.{mul-div_cancel}
use Rattle.std.proofs.lemmas.Bool.{cases_Bool}
use Rattle.std.proofs.lemmas.List.{drop_at}
use Rattle.std.proofs.lemmas.List.Elements.{All-get_or}
use Rattle.lucy_word.specs.Bits.{Bits, bit_at, one_if, ones_to, ones_in}
use Rattle.lucy_word.proofs.BitsLaws.{ones_to-more, ones_to-turns, same_bit}
use Rattle.lucy_word.proofs.SamplingLaws.{bit_at-periods}
use Rattle.lucy_stream.specs.Forms.{Kept, Merged, operands}
use Rattle.lucy_stream.specs.Firings.{gave_in, took_in}
use Rattle.lucy_stream.proofs.AlikeLaws.{IsRun-alike, after-count}
use Rattle.lucy_net.specs.declared.net.Net.{Net}
use Rattle.lucy_net.specs.declared.net.Actor.{Actor}
use Rattle.lucy_net.specs.declared.net.RingSpec.{RingSpec}
use Rattle.lucy_net.specs.Plans.{form_of, task_of, giver, taker, net_system, done_by}
use Rattle.lucy_net.specs.Proper.{IsProper, IsProperActor, IsProperRing}
use Rattle.lucy_net.specs.Orders.{IsOrder}
use Rattle.lucy_net.specs.Instants.{slot_of, slot, firing_of}
use Rattle.lucy_net.specs.Turning.{IsSteady, Turns, IsTurning}
use Rattle.lucy_stream.proofs.OperationLaws.{firing_alike}
use Rattle.lucy_net.proofs.NetLaws.{task_at, plugged, wired, ring_cases, from_here, to_here, write_counts, read_counts, given_by_word, taken_by_word, given_past, taken_past, gives_there, takes_there}
use Rattle.lucy_net.proofs.SlotLaws.{slot_more, done_more}
use Rattle.lucy_net.proofs.InstantLaws.{held_ring}

-- where the firing word has a one, the word that samples is read by the sampled word's bit
kept_bit : (firing word write : Bits) (t : ℕ) → bit_at firing (t + 1) ≡ true → ((n : ℕ) → ones_to word (ones_to firing n) ≡ ones_to write n) → bit_at word (ones_to firing t + 1) ≡ bit_at write (t + 1)
kept_bit firing word write t h is =
    let o : one_if (bit_at firing (t + 1)) ≡ 1 = ap one_if h in
    let z : ones_to firing (t + 1) ≡ ones_to firing t + 1 = omega (arith, ones_to-more firing t) in
    let e : ones_to word (ones_to firing (t + 1)) ≡ ones_to word (ones_to firing t + 1) = ap (ones_to word) z in
    same_bit (bit_at word (ones_to firing t + 1)) (bit_at write (t + 1)) (omega (arith, is t, is (t + 1), ones_to-more word (ones_to firing t), ones_to-more write t))

word_bit : (net : Net) (t u a : ℕ) (actor : Actor) (word : Bits) → IsProper net → IsSteady net t u → slice_get net.actors a ≡ Some actor → bit_at actor.firing (t + 1) ≡ true → bit_at actor.firing (u + 1) ≡ true →
    form_of actor.kind ≡ Kept word → 0 < length actor.gives → bit_at word (ones_to actor.firing t + 1) ≡ bit_at word (ones_to actor.firing u + 1)
word_bit net t u a actor word is steady e h k form some =
    let p : IsProperActor net a actor = is.actors a actor e in
    let g : ℕ = get_or actor.gives 0 0 in
    let x = held_ring net g (All-get_or (λ r. r < length net.rings) actor.gives 0 0 some (gives_there net a actor p)) in
    let ring : RingSpec = x.0 in
    let here : IsProperRing net g ring = is.rings g ring x.1 in
    let from : ring.from ≡ a = sym (from_here net g ring x.1) ∙ All-get_or (λ r. giver net r ≡ a) actor.gives 0 0 some ((plugged net 0 is) a (task_of 0 actor) (task_at net 0 a actor e)).gives in
    let same : here.giver ≡ actor = (let s : Some here.giver ≡ Some actor = sym here.gives_here ∙ ap (slice_get net.actors) from ∙ e in cc) in
    let words : (n : ℕ) → ones_to word (ones_to actor.firing n) ≡ ones_to ring.write n = λ n.
    ap (λ f. gave_in f (ones_to actor.firing n)) (sym form)
    ∙ subst (λ (y : Actor). gave_in (form_of y.kind) (ones_to y.firing n) ≡ ones_to ring.write n) same (write_counts (form_of here.giver.kind) here.giver.firing ring.write n here.write) in
    kept_bit actor.firing word ring.write t h words ∙ steady.write g ring x.1 ∙ sym (kept_bit actor.firing word ring.write u k words)

merge_bit : (net : Net) (t u a : ℕ) (actor : Actor) (word : Bits) → IsProper net → IsSteady net t u → slice_get net.actors a ≡ Some actor → bit_at actor.firing (t + 1) ≡ true → bit_at actor.firing (u + 1) ≡ true →
    form_of actor.kind ≡ Merged word → bit_at word (ones_to actor.firing t + 1) ≡ bit_at word (ones_to actor.firing u + 1)
merge_bit net t u a actor word is steady e h k form =
    let p : IsProperActor net a actor = is.actors a actor e in
    let two : operands (form_of actor.kind) ≡ 2 = ap operands form in
    let some : 0 < length actor.takes = omega (arith, p.arity) in
    let r : ℕ = get_or actor.takes 0 0 in
    let x = held_ring net r (All-get_or (λ s. s < length net.rings) actor.takes 0 0 some (takes_there net a actor p)) in
    let ring : RingSpec = x.0 in
    let here : IsProperRing net r ring = is.rings r ring x.1 in
    let to : ring.to ≡ a = sym (to_here net r ring x.1) ∙ All-get_or (λ s. taker net s ≡ a) actor.takes 0 0 some ((plugged net 0 is) a (task_of 0 actor) (task_at net 0 a actor e)).takes in
    let same : here.taker ≡ actor = (let s : Some here.taker ≡ Some actor = sym here.takes_here ∙ ap (slice_get net.actors) to ∙ e in cc) in
    let words : (n : ℕ) → ones_to word (ones_to actor.firing n) ≡ ones_to ring.read n = λ n.
    ap (λ f. took_in f (ones_to actor.firing n) 0) (sym form)
    ∙ subst (λ (y : Actor). took_in (form_of y.kind) (ones_to y.firing n) 0 ≡ ones_to ring.read n) same
    (read_counts (form_of here.taker.kind) here.taker.firing ring.read 0 n (here.read 0 (subst (λ (y : Actor). 0 < length y.takes) (sym same) some) (ap (λ (y : Actor). get_or y.takes 0 0) same))) in
    kept_bit actor.firing word ring.read t h words ∙ steady.read r ring x.1 ∙ sym (kept_bit actor.firing word ring.read u k words)

slot_of_alike : (net : Net) (t u a : ℕ) → IsProper net → IsSteady net t u → (o : Option Actor) → slice_get net.actors a ≡ o → slot_of t o ≡ slot_of u o
slot_of_alike net t u a is steady None e = refl
slot_of_alike net t u a is steady (Some actor) e =
    let p : ℕ = ones_to actor.firing t in
    let q : ℕ = ones_to actor.firing u in
    let same : bit_at actor.firing (t + 1) ≡ bit_at actor.firing (u + 1) = steady.firing a actor e in
    elim (cases_Bool (bit_at actor.firing (t + 1))) [
      | inl h ↦
          let k : bit_at actor.firing (u + 1) ≡ true = sym same ∙ h in
          let ops : firing_of actor p ≡ firing_of actor q =
          firing_alike (form_of actor.kind) actor.takes actor.gives p q (λ word f l. word_bit net t u a actor word is steady e h k f l) (λ word f. merge_bit net t u a actor word is steady e h k f) in
          ap (λ c. cond c (firing_of actor p) []) h ∙ ops ∙ sym (ap (λ c. cond c (firing_of actor q) []) k)
      | inr h ↦
          let k : bit_at actor.firing (u + 1) ≡ false = sym same ∙ h in
          ap (λ c. cond c (firing_of actor p) []) h ∙ sym (ap (λ c. cond c (firing_of actor q) []) k)
    ]

slot_alike : (net : Net) (t u a : ℕ) → IsProper net → IsSteady net t u → slot net t a ≡ slot net u a
unfolding slot
slot_alike net t u a is steady = slot_of_alike net t u a is steady (slice_get net.actors a) refl

slot_left : (net : Net) (t a : ℕ) → drop (done_by net t a) ((net_system net (t + 1)).ops a) ≡ slot net t a
unfolding done_by
slot_left net t a = ap (drop (length ((net_system net t).ops a))) (slot_more net t a) ∙ drop_at ((net_system net t).ops a) (slot net t a) (length ((net_system net t).ops a)) refl

size_same : (net : Net) (n m r : ℕ) → (net_system net n).size r ≡ (net_system net m).size r
unfolding net_system
size_same net n m r = refl

-- so an order of the one is an order of the other
order_alike : (net : Net) (t u : ℕ) (order : List ℕ) → IsProper net → IsSteady net t u → IsOrder net t order → IsOrder net u order
order_alike net t u order is steady now = record {
  run = IsRun-alike (net_system net (t + 1)) (net_system net (u + 1)) (done_by net t) (done_by net u) order (wired net (t + 1) is) (wired net (u + 1) is) (record {
    size = λ r. size_same net (u + 1) (t + 1) r;
    left = λ a. slot_left net t a ∙ slot_alike net t u a is steady ∙ sym (slot_left net u a);
    held = λ r. elim (ring_cases net r) [
      | inl x ↦ omega (
        arith,
        given_by_word net t (t + 1) r x.0 (omega arith) is x.1,
        given_by_word net u (u + 1) r x.0 (omega arith) is x.1,
        taken_by_word net t (t + 1) r x.0 (omega arith) is x.1,
        taken_by_word net u (u + 1) r x.0 (omega arith) is x.1,
        steady.held r x.0 x.1,
      )
      | inr past ↦ omega (arith, given_past net t (t + 1) r (omega arith) is past, given_past net u (u + 1) r (omega arith) is past, taken_past net t (t + 1) r (omega arith) is past, taken_past net u (u + 1) r (omega arith) is past)
    ];
  }) now.run;
  ends = λ a. omega (arith, now.ends a, after-count (done_by net t) (done_by net u) order a, done_more net t a, done_more net u a, ap length (slot_alike net t u a is steady));
}

turns_bit : (w : Bits) (t P : ℕ) → Turns w t P → bit_at w (t + 1) ≡ bit_at w (t + P + 1)
turns_bit w t P h =
    let e : t + P + 1 ≡ t + 1 + h.times * length w.period = omega (arith, h.whole) in
    sym (bit_at-periods w (t + 1) h.times (omega (arith, h.past))) ∙ ap (bit_at w) (sym e)

turns_ones : (w : Bits) (t P : ℕ) (h : Turns w t P) → ones_to w (t + P) ≡ ones_to w t + h.times * ones_in w.period
turns_ones w t P h =
    let k : ℕ = t - length w.prefix in
    let e : t + P ≡ length w.prefix + k + h.times * length w.period = omega (arith, h.whole, h.past) in
    let f : length w.prefix + k ≡ t = omega (arith, h.past) in
    ap (ones_to w) e ∙ ones_to-turns w k h.times ∙ ap (λ n. ones_to w n + h.times * ones_in w.period) f

cancel_one : (x y n : ℕ) → 0 < n → x * n ≡ y * n → x ≡ y
cancel_one x y n p e = sym (mul-div_cancel x p) ∙ ap (λ t. t / n) e ∙ mul-div_cancel y p

-- words of one rate gain as many ones
same_gain : (m n a b x y P : ℕ) → 0 < x → 0 < y → P ≡ m * x → P ≡ n * y → a * y ≡ b * x → m * a ≡ n * b
same_gain m n a b x y P px py e f r =
    let s : m * (a * y) ≡ m * (b * x) = ap (λ t. m * t) r in
    let t : b * (m * x) ≡ b * (n * y) = ap (λ t. b * t) (sym e ∙ f) in
    cancel_one (m * a) (n * b) y py (omega arith)

turning : (net : Net) (t P : ℕ) → IsProper net → IsTurning net t P → IsSteady net t (t + P)
turning net t P is h = record {
  firing = λ a actor e. turns_bit actor.firing t P (h.firing a actor e);
  write = λ r ring e. turns_bit ring.write t P (h.write r ring e);
  read = λ r ring e. turns_bit ring.read t P (h.read r ring e);
  held = λ r ring e.
      let w : Turns ring.write t P = h.write r ring e in
      let d : Turns ring.read t P = h.read r ring e in
      let g : w.times * ones_in ring.write.period ≡ d.times * ones_in ring.read.period =
      same_gain w.times d.times (ones_in ring.write.period) (ones_in ring.read.period) (length ring.write.period) (length ring.read.period) P w.some d.some w.whole d.whole (is.rings r ring e).adaptable.0 in
      omega (arith, turns_ones ring.write t P w, turns_ones ring.read t P d);
}

-- an order of an instant past the prefixes is one a hyperperiod later, and after any number of them
order_again : (net : Net) (t P : ℕ) (order : List ℕ) → IsProper net → IsTurning net t P → IsOrder net t order → IsOrder net (t + P) order
order_again net t P order is h now = order_alike net t (t + P) order is (turning net t P is h) now

pub order_later : (net : Net) (t P k : ℕ) (order : List ℕ) → IsProper net → ((n : ℕ) → t ≤ n → IsTurning net n P) → IsOrder net t order → IsOrder net (t + k * P) order
order_later net t P zero order is h now = subst (λ (n : ℕ). IsOrder net n order) (let z : t ≡ t + 0 * P = omega arith in z) now
order_later net t P (suc k) order is h now =
    subst (λ (n : ℕ). IsOrder net n order) (let z : t + k * P + P ≡ t + suc k * P = omega arith in z)
    (order_again net (t + k * P) P order is (h (t + k * P) (omega arith)) (order_later net t P k order is h now))
