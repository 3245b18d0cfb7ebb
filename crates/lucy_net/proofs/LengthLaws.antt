-- The lengths of more and more words.
use Rattle.std.proofs.Common.{ℕ, ◌+◌, ◌*◌, ◌/◌, ◌<◌, ◌≤◌, ◌≡◌, max, List, [], ◌∷◌, ◌++◌, length, get_or, sym, refl, subst, arith, append_assoc, append-nil}
use Rattle.std.specs.Prelude.{All}
use Prim.Native.Nat.{◌∣◌}
use Rattle.std.proofs.lemmas.List.Elements.{All-append, All-cons, All-nil, All-head, All-tail}
use Rattle.std.proofs.lemmas.Nat.Gcd.{dvd_trans}
use Rattle.lucy_word.specs.Bits.{Bits}
use Rattle.lucy_word.specs.Multiple.{IsLcm}
use Rattle.lucy_word.specs.Stored.{IsStored}
use Rattle.lucy_word.proofs.Multiples.{gcd_exists, lcm_by_gcd, lcm_divides, divides}
use Rattle.lucy_net.proofs.WordLaws.{front_all, back_all}
use Rattle.lucy_net.specs.Lengths.{AreLengths}

-- no words
pub lengths_none : AreLengths [] 0 1
lengths_none = record {
  prefixes = All-nil (λ (w : Bits). length w.prefix ≤ 0);
  prefix_least = λ n h. omega arith;
  some = omega arith;
  periods = All-nil (λ (w : Bits). length w.period ∣ 1);
  period_least = λ n l h. divides 1 n n (omega arith);
}

-- one word more
pub lengths_more : (words : List Bits) (w : Bits) (prefix period new_prefix new_period : ℕ) → AreLengths words prefix period → 0 < length w.period → new_prefix ≡ max prefix (length w.prefix) → IsLcm period (length w.period) new_period →
    AreLengths (words ++ w ∷ []) new_prefix new_period
lengths_more words w prefix period new_prefix new_period is some e lcm = record {
  prefixes = All-append (λ (v : Bits). length v.prefix ≤ new_prefix) words (w ∷ [])
      (λ k d l. let h : length (get_or words k d).prefix ≤ prefix = is.prefixes k d l in omega arith)
      (All-cons (λ (v : Bits). length v.prefix ≤ new_prefix) w [] (omega arith) (All-nil (λ (v : Bits). length v.prefix ≤ new_prefix)));
  prefix_least = λ n h.
      let old : prefix ≤ n = is.prefix_least n (front_all (λ (v : Bits). length v.prefix ≤ n) words (w ∷ []) h) in
      let new : length w.prefix ≤ n = All-head (λ (v : Bits). length v.prefix ≤ n) w [] (back_all (λ (v : Bits). length v.prefix ≤ n) words (w ∷ []) h) in
      omega arith;
  some = lcm.positive;
  periods = All-append (λ (v : Bits). length v.period ∣ new_period) words (w ∷ [])
      (λ k d l. dvd_trans (length (get_or words k d).period) (is.periods k d l) lcm.of_left)
      (All-cons (λ (v : Bits). length v.period ∣ new_period) w [] lcm.of_right (All-nil (λ (v : Bits). length v.period ∣ new_period)));
  period_least = λ n l h.
      lcm_divides period (length w.period) new_period n lcm (is.period_least n l (front_all (λ (v : Bits). length v.period ∣ n) words (w ∷ []) h))
      (All-head (λ (v : Bits). length v.period ∣ n) w [] (back_all (λ (v : Bits). length v.period ∣ n) words (w ∷ []) h));
}

-- one word more that is too many makes all of them too many
pub lengths_too_long : (words rest : List Bits) (w : Bits) (prefix period m most P Q : ℕ) → AreLengths words prefix period → IsLcm period (length w.period) m → most < max prefix (length w.prefix) + m →
    AreLengths (words ++ w ∷ rest) P Q → most < P + Q
lengths_too_long words rest w prefix period m most P Q is lcm over whole =
    let p : prefix ≤ P = is.prefix_least P (front_all (λ (v : Bits). length v.prefix ≤ P) words (w ∷ rest) whole.prefixes) in
    let l : length w.prefix ≤ P = All-head (λ (v : Bits). length v.prefix ≤ P) w rest (back_all (λ (v : Bits). length v.prefix ≤ P) words (w ∷ rest) whole.prefixes) in
    let q : period ∣ Q = is.period_least Q whole.some (front_all (λ (v : Bits). length v.period ∣ Q) words (w ∷ rest) whole.periods) in
    let d : length w.period ∣ Q = All-head (λ (v : Bits). length v.period ∣ Q) w rest (back_all (λ (v : Bits). length v.period ∣ Q) words (w ∷ rest) whole.periods) in
    omega (arith, lcm.least Q whole.some q d)

-- words have lengths
lengths_past : (before rest : List Bits) (prefix period : ℕ) → AreLengths before prefix period → All IsStored rest → (p : ℕ) × (q : ℕ) × AreLengths (before ++ rest) p q
lengths_past before [] prefix period is all = (prefix, period, subst (λ ws. AreLengths ws prefix period) (sym (append-nil before)) is)
lengths_past before (w ∷ rest) prefix period is all =
    let stored : IsStored w = All-head IsStored w rest all in
    let found = gcd_exists (length w.period + 1) period (length w.period) (omega arith) in
    let m : ℕ = period / found.0 * length w.period in
    let now : AreLengths (before ++ w ∷ []) (max prefix (length w.prefix)) m =
    lengths_more before w prefix period (max prefix (length w.prefix)) m is stored.nonempty refl (lcm_by_gcd period (length w.period) found.0 is.some stored.nonempty found.1) in
    let more = lengths_past (before ++ w ∷ []) rest (max prefix (length w.prefix)) m now (All-tail IsStored w rest all) in
    (more.0, more.1, subst (λ ws. AreLengths ws more.0 more.1) (append_assoc before (w ∷ []) rest) more.2)

pub lengths_exist : (words : List Bits) → All IsStored words → (p : ℕ) × (q : ℕ) × AreLengths words p q
lengths_exist words all = lengths_past [] words 0 1 lengths_none all
