-- Each word has a shortest form, and whether its period has a zero doesn't depend on how it is spelled.
use Rattle.std.proofs.Common.{ℕ, suc, zero, ◌+◌, ◌-◌, ◌*◌, ◌%◌, ◌/◌, ◌<◌, ◌≤◌, ◌≡◌, Bool, true, false, cond, not, nat_le, ◌&&◌, length, get_or}
use Rattle.std.proofs.Common.{ap, sym, refl, ◌∙◌, inl, inr, arith}
use Rattle.std.proofs.Math.Nat.{mod-lt, div-add-mod}
use Rattle.std.proofs.lemmas.Bool.{cases_lt, cases_eq, both_ways, le-leb, lt-leb}
use Rattle.std.proofs.lemmas.List.{length-map}
use Rattle.lucy_word.specs.Bits.{Bits, bit_at, bit_count, ones_in}
use Rattle.lucy_word.specs.Shortest.{Same, IsShortForm}
use Rattle.lucy_word.specs.Turns.{Repeats}
use Rattle.lucy_word.specs.Complement.{turned}
use Rattle.lucy_word.specs.Spelling.{same_bit}
use Rattle.lucy_word.specs.Shortened.{every, least, comes_again, turn_of, kept_of, bits_past, shortened}
use Rattle.lucy_word.proofs.BitsLaws.{bit_at-prefix, bit_at-period}
use Rattle.lucy_word.proofs.ShortLaws.{one_by_same}
use Rattle.lucy_word.proofs.Repeats.{repeats_period, repeats_same, repeats_times, repeats_earlier}
use Rattle.lucy_word.proofs.ComplementLaws.{bit_at-turned, ones_in-turned}
use Rattle.lucy_word.proofs.RunLaws.{bits_same}

-- what a test that holds of each says of one, and when it holds
every_at : (f : ℕ → Bool) (n i : ℕ) → every f n ≡ true → i < n → f i ≡ true
every_at f zero i h less = absurd (omega (arith, less))
every_at f (suc n) i h less = go (every f n) (f n) refl refl h (every_at f n i)
  where
    go : (a b : Bool) → every f n ≡ a → f n ≡ b → (a && b) ≡ true → (every f n ≡ true → i < n → f i ≡ true) → f i ≡ true
    go true true p q e before = elim (cases_eq i n) [ inl same ↦ ap f same ∙ q | inr apart ↦ before p (omega (arith, less, apart)) ]
    go true false p q e before = absurd (both_ways false refl e)
    go false b p q e before = absurd (both_ways false refl e)

every_so : (f : ℕ → Bool) (n : ℕ) → ((i : ℕ) → i < n → f i ≡ true) → every f n ≡ true
every_so f zero h = refl
every_so f (suc n) h = ap (λ a. a && f n) (every_so f n (λ i less. h i (omega (arith, less)))) ∙ h n (omega arith)

-- the least number is one of which the test holds, and no greater than another of those
record IsLeast (f : ℕ → Bool) (n found : ℕ) (i : ℕ) : Type 0 where
  holds : f found ≡ true
  from : n ≤ found
  least : found ≤ i

least_found : (f : ℕ → Bool) (more n i : ℕ) → n ≤ i → i ≤ n + more → f i ≡ true → IsLeast f n (least f more n) i
least_found f zero n i h k e = record { holds = ap f (let same : n ≡ i = omega (arith, h, k) in same) ∙ e; from = omega arith; least = h }
least_found f (suc more) n i h k e = go (f n) refl (λ a b. least_found f more (n + 1) i a b e)
  where
    go : (t : Bool) → f n ≡ t → (n + 1 ≤ i → i ≤ n + 1 + more → IsLeast f (n + 1) (least f more (n + 1)) i) →
        IsLeast f n (cond t n (least f more (n + 1))) i
    go true g later = record { holds = g; from = omega arith; least = h }
    go false g later =
        elim (cases_eq n i) [
          | inl same ↦ absurd (both_ways (f n) g (ap f same ∙ e))
          | inr apart ↦
              let r = later (omega (arith, h, apart)) (omega (arith, k)) in
              record { holds = r.holds; from = omega (arith, r.from); least = r.least }
        ]

bit_again : (a b : Bool) → a ≡ b → same_bit a b ≡ true
bit_again true true e = refl
bit_again true false e = absurd cc
bit_again false true e = absurd cc
bit_again false false e = refl

-- the test of a turn
test : Bits → ℕ → ℕ → ℕ → Bool
test w k p i = cond (nat_le k i) (same_bit (bit_at w (i + 1 + p)) (bit_at w (i + 1))) true

-- what comes again within prefix and period does so for ever
repeats_so : (w : Bits) (k p : ℕ) → 0 < length w.period → k ≤ length w.prefix → comes_again w k p ≡ true → Repeats (bit_at w) k p
unfolding test
repeats_so w k p some within h i over =
    let m : ℕ = length w.prefix in
    let q : ℕ = length w.period in
    let near : (j : ℕ) → k < j → j ≤ m + q → bit_at w (j + p) ≡ bit_at w j = λ j past inside.
    let at : test w k p (j - 1) ≡ true = every_at (test w k p) (m + q) (j - 1) h (omega (arith, past, inside)) in
    let open_test : same_bit (bit_at w (j - 1 + 1 + p)) (bit_at w (j - 1 + 1)) ≡ true =
    sym (ap (λ b. cond b (same_bit (bit_at w (j - 1 + 1 + p)) (bit_at w (j - 1 + 1))) true) (le-leb k (j - 1) (omega (arith, past)))) ∙ at in
    ap (bit_at w) (let e : j + p ≡ j - 1 + 1 + p = omega (arith, past) in e) ∙ bits_same _ _ open_test
    ∙ ap (bit_at w) (let e : j - 1 + 1 ≡ j = omega (arith, past) in e) in
    elim (cases_lt (m + q) i) [
      | inr inside ↦ near i over inside
      | inl far ↦
          let r : ℕ = (i - m - 1) % q in
          let t : ℕ = (i - m - 1) / q in
          let parts : q * t + r ≡ i - m - 1 = div-add-mod (i - m - 1) q in
          let below : r < q = mod-lt (i - m - 1) some in
          let turns : Repeats (bit_at w) m (t * q) = repeats_times (bit_at w) m q t (repeats_period w) in
          ap (bit_at w) (let e : i + p ≡ m + 1 + r + p + t * q = omega (arith, parts, far) in e) ∙ turns (m + 1 + r + p) (omega arith)
          ∙ near (m + 1 + r) (omega (arith, within)) (omega (arith, below)) ∙ sym (turns (m + 1 + r) (omega arith))
          ∙ ap (bit_at w) (let e : m + 1 + r + t * q ≡ i = omega (arith, parts, far) in e)
    ]

test_so : (w : Bits) (k p : ℕ) → Repeats (bit_at w) k p → comes_again w k p ≡ true
unfolding test
test_so w k p again = every_so (test w k p) (bit_count w) one
  where
    one : (i : ℕ) → i < bit_count w → test w k p i ≡ true
    one i less =
        elim (cases_lt i k) [
          | inl before ↦ ap (λ b. cond b (same_bit (bit_at w (i + 1 + p)) (bit_at w (i + 1))) true) (lt-leb k i before)
          | inr past ↦
              ap (λ b. cond b (same_bit (bit_at w (i + 1 + p)) (bit_at w (i + 1))) true) (le-leb k i past)
              ∙ bit_again _ _ (again (i + 1) (omega (arith, past)))
        ]

-- bits of a word in a row
pub length-bits_past : (w : Bits) (i n : ℕ) → length (bits_past w i n) ≡ n
length-bits_past w i zero = refl
length-bits_past w i (suc n) = omega (arith, length-bits_past w (i + 1) n)

get_or-bits_past : (w : Bits) (i n j : ℕ) → j < n → get_or (bits_past w i n) j false ≡ bit_at w (i + j + 1)
get_or-bits_past w i zero j less = absurd (omega (arith, less))
get_or-bits_past w i (suc n) zero less = ap (bit_at w) (omega arith)
get_or-bits_past w i (suc n) (suc j) less = get_or-bits_past w (i + 1) n j (omega (arith, less)) ∙ ap (bit_at w) (omega arith)

-- the first bits, and from there on a turn of the word
cut_same : (w : Bits) (k p : ℕ) → 0 < p → Repeats (bit_at w) k p → Same w (record { prefix = bits_past w 0 k; period = bits_past w k p })
cut_same w k p some again i h =
    let x : Bits = record { prefix = bits_past w 0 k; period = bits_past w k p } in
    let lk : length x.prefix ≡ k = length-bits_past w 0 k in
    let lp : length x.period ≡ p = length-bits_past w k p in
    elim (cases_lt k i) [
      | inr under ↦
          ap (bit_at w) (let e : i ≡ 0 + (i - 1) + 1 = omega (arith, h) in e) ∙ sym (get_or-bits_past w 0 k (i - 1) (omega (arith, h, under)))
          ∙ sym (bit_at-prefix x i (omega (arith, under, lk)))
      | inl over ↦
          let r : ℕ = (i - k - 1) % p in
          let t : ℕ = (i - k - 1) / p in
          let parts : p * t + r ≡ i - k - 1 = div-add-mod (i - k - 1) p in
          let below : r < p = mod-lt (i - k - 1) some in
          let here : bit_at x i ≡ get_or x.period r false =
          bit_at-period x i (omega (arith, over, lk)) ∙ ap (λ n. get_or x.period ((i - n - 1) % length x.period) false) lk
          ∙ ap (λ n. get_or x.period ((i - k - 1) % n) false) lp in
          ap (bit_at w) (let e : i ≡ k + r + 1 + t * p = omega (arith, parts, over) in e) ∙ repeats_times (bit_at w) k p t again (k + r + 1) (omega arith)
          ∙ sym (get_or-bits_past w k p r below) ∙ sym here
    ]

-- the word shortened is its shortest form
pub shortened_is : (w : Bits) → 0 < length w.period → IsShortForm w (shortened w)
unfolding shortened
shortened_is w some =
    let m : ℕ = length w.prefix in
    let q : ℕ = length w.period in
    let own : comes_again w m q ≡ true = test_so w m q (repeats_period w) in
    let turn = least_found (comes_again w m) q 1 q (omega (arith, some)) (omega arith) own in
    let p : ℕ = turn_of w in
    let some_p : 0 < p = omega (arith, turn.from) in
    let kept = least_found (λ k. comes_again w k p) m 0 m (omega arith) (omega arith) turn.holds in
    let k : ℕ = kept_of w in
    let again : Repeats (bit_at w) k p = repeats_so w k p some kept.least kept.holds in
    let x : Bits = record { prefix = bits_past w 0 k; period = bits_past w k p } in
    let same : Same w x = cut_same w k p some_p again in
    let of_w : (v : Bits) → Same v x → Repeats (bit_at w) (length v.prefix) (length v.period) = λ v is.
    repeats_same v w (length v.prefix) (length v.period) (λ i h. is i h ∙ sym (same i h)) (repeats_period v) in
    record {
      nonempty = omega (arith, length-bits_past w k p, some_p);
      same = same;
      shortest = record {
        period = λ v some_v is.
            let from_prefix : Repeats (bit_at w) m (length v.period) =
            repeats_earlier (bit_at w) m q (length v.prefix) (length v.period) some (repeats_period w) (of_w v is) in
            let other = least_found (comes_again w m) q 1 (length v.period) in
            elim (cases_lt q (length v.period)) [
              | inl greater ↦ omega (arith, greater, turn.least, length-bits_past w k p)
              | inr within ↦ omega (arith, (other some_v (omega (arith, within)) (test_so w m (length v.period) from_prefix)).least, length-bits_past w k p)
            ];
        prefix = λ v long is.
            let n : length v.period ≡ p = long ∙ length-bits_past w k p in
            elim (cases_lt m (length v.prefix)) [
              | inl greater ↦ omega (arith, greater, kept.least, length-bits_past w 0 k)
              | inr within ↦
                  let here : comes_again w (length v.prefix) p ≡ true =
                  ap (comes_again w (length v.prefix)) (sym n) ∙ test_so w (length v.prefix) (length v.period) (of_w v is) in
                  let r = least_found (λ j. comes_again w j p) m 0 (length v.prefix) (omega arith) (omega (arith, within)) here in
                  omega (arith, r.least, length-bits_past w 0 k)
            ];
      };
    }

-- words that are the same have both a zero in the period, or none
pub zero_by_same : (v w : Bits) → Same v w → 0 < length v.period → 0 < length w.period → ones_in v.period < length v.period →
    ones_in w.period < length w.period
zero_by_same v w same some_v some_w less =
    let turned_same : Same (turned v) (turned w) = λ i h. bit_at-turned v i h some_v ∙ ap not (same i h) ∙ sym (bit_at-turned w i h some_w) in
    let zeros : 0 < ones_in (turned v).period = omega (arith, ones_in-turned v.period, less) in
    let some : 0 < length (turned w).period = omega (arith, length-map w.period not, some_w) in
    omega (arith, one_by_same (turned v) (turned w) turned_same some zeros, ones_in-turned w.period)
