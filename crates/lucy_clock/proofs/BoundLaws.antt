-- A buffer keeps its written bound exactly where its reader's clock is adaptable to its writer's on so many zeros and then ones.
use Rattle.std.proofs.Common.{ℕ, zero, suc, ◌+◌, ◌-◌, ◌*◌, ◌/◌, ◌%◌, ◌<◌, ◌≤◌, ◌≡◌, max, true, false, [], ◌∷◌, ◌++◌, length, get_or, Option, Some, None, ap, sym, ◌∙◌, refl, subst, inl, inr, arith, add-one}
use Rattle.std.specs.Prelude.{replicate}
use Rattle.std.proofs.Math.Nat.{div-add-mod, mod-lt}
use Rattle.std.proofs.lemmas.Nat.{mul-le}
use Rattle.std.proofs.lemmas.Bool.{cases_lt}
use Rattle.std.proofs.lemmas.List.{length-replicate, get_or-replicate}
use Rattle.lucy_word.specs.Bits.{Bits, bit_at, one_if, ones_to, ones_in, IsWord}
use Rattle.lucy_word.specs.Adaptable.{SameRate, IsAdaptable, IsSize}
use Rattle.lucy_word.specs.Shortest.{Same, IsShortest}
use Rattle.lucy_word.specs.Always.{always, delayed}
use Rattle.lucy_word.proofs.BitsLaws.{bit_at-prefix, bit_at-period, ones_to-none, ones_to-more, period_some}
use Rattle.lucy_word.proofs.IndexLaws.{ones_to-periods}
use Rattle.lucy_word.proofs.SamplingLaws.{ones_to-on}
use Rattle.lucy_word.proofs.ShortLaws.{same_sym, shortest_one}
use Rattle.lucy_word.proofs.DelayLaws.{delayed_count, delayed_word}
use Rattle.lucy_word.proofs.OnLaws.{always_count, on_always, on_some}
use Rattle.lucy_word.proofs.AdaptableLaws.{SameRate-from_close}
use Rattle.lucy_need.specs.Meeting.{Assignment, MeetsAll}
use Rattle.lucy_clock.specs.WellClocked.{KeepsBound}
use Rattle.lucy_clock.specs.Listing.{bound_needs}

-- the greatest lead of a over b up to an instant
record Leads (a b : Bits) (n size : ℕ) : Type 0 where
  reached : (i : ℕ) × (ones_to a i ≡ ones_to b i + size)
  passed : (i : ℕ) → i ≤ n → ones_to a i ≤ ones_to b i + size

leads : (a b : Bits) (n : ℕ) → (size : ℕ) × Leads a b n size
leads a b zero = (0, record { reached = (0, omega (arith, ones_to-none a, ones_to-none b)); passed = λ i h. (let e : i ≡ 0 = omega arith in omega (arith, ap (ones_to a) e, ones_to-none a)) })
leads a b (suc n) =
    let before = leads a b n in
    elim (cases_lt (ones_to a (suc n)) (ones_to b (suc n) + before.0 + 1)) [
      | inl less ↦ (before.0, record { reached = before.1.reached; passed = λ i h. here i before.0 h before.1.passed (omega arith) })
      | inr more ↦ (
        ones_to a (suc n) - ones_to b (suc n),
        record { reached = (suc n, omega arith); passed = λ i h. here i (ones_to a (suc n) - ones_to b (suc n)) h (λ j g. omega (arith, before.1.passed j g)) (omega arith) },
      )
    ]
  where
    here : (i size : ℕ) → i ≤ suc n → ((j : ℕ) → j ≤ n → ones_to a j ≤ ones_to b j + size) → ones_to a (suc n) ≤ ones_to b (suc n) + size → ones_to a i ≤ ones_to b i + size
    here i size h old new =
        elim (cases_lt i (suc n)) [
          | inl early ↦ old i (omega arith)
          | inr last ↦ (let e : i ≡ suc n = omega arith in omega (arith, new, ap (ones_to a) e, ap (ones_to b) e))
        ]

-- two words of one rate come back to a common period
folded : (a b : Bits) → SameRate a b → 0 < length a.period → 0 < length b.period → (i : ℕ) →
    (r : ℕ) × (r ≤ max (length a.prefix) (length b.prefix) + length a.period * length b.period) × (k : ℕ) × (ones_to a i ≡ ones_to a r + k) × (ones_to b i ≡ ones_to b r + k)
folded a b same some_a some_b i =
    let La : ℕ = length a.period in
    let Lb : ℕ = length b.period in
    let p : ℕ = max (length a.prefix) (length b.prefix) in
    let M : ℕ = La * Lb in
    let M_some : 0 < M = omega (arith, mul-le 1 1 La Lb some_a some_b) in
    elim (cases_lt i p) [
      | inl early ↦ (i, omega arith, 0, omega arith, omega arith)
      | inr later ↦
          let q : ℕ = (i - p) / M in
          let r : ℕ = p + (i - p) % M in
          let less : (i - p) % M < M = mod-lt (i - p) M_some in
          let turns : r + q * M ≡ i = omega (arith, div-add-mod (i - p) M) in
          let of_a : ones_to a i ≡ ones_to a r + q * Lb * ones_in a.period =
          ap (ones_to a) (let e : i ≡ r + q * Lb * La = omega arith in e) ∙ ones_to-periods a r (q * Lb) (omega arith) in
          let of_b : ones_to b i ≡ ones_to b r + q * La * ones_in b.period =
          ap (ones_to b) (let e : i ≡ r + q * La * Lb = omega arith in e) ∙ ones_to-periods b r (q * La) (omega arith) in
          let rates : q * (ones_in a.period * Lb) ≡ q * (ones_in b.period * La) = ap (λ n. q * n) same in
          (r, omega arith, q * Lb * ones_in a.period, of_a, omega arith)
    ]

-- so a buffer between them has a size
size_exists : (a b : Bits) → SameRate a b → 0 < length a.period → 0 < length b.period → (size : ℕ) × IsSize a b size
size_exists a b same some_a some_b =
    let found = leads a b (max (length a.prefix) (length b.prefix) + length a.period * length b.period) in (
      found.0,
      record {
        reached = found.1.reached;
        passed = λ i. (let f = folded a b same some_a some_b i in omega (arith, found.1.passed f.0 f.1, f.3, f.4));
      },
    )

-- the size of a buffer that keeps its bound is at most the bound
pub size_bounded : (a b : Bits) (most size : ℕ) → KeepsBound (Some most) a b → IsSize a b size → size ≤ most
size_bounded a b most size keeps is = omega (arith, keeps.1.passed is.reached.0, is.reached.1, keeps.2)

-- where the bound is kept, its need is met, and the other way round
pub bound_from : (w : Assignment) (p e : ℕ) (most : Option ℕ) → IsWord (w e) → IsWord (w p) → IsAdaptable (w e) (w p) → KeepsBound most (w e) (w p) → MeetsAll w (bound_needs p e most)
bound_from w p e None of_e of_p is keeps = tt
bound_from w p e (Some most) of_e of_p is keeps =
    let late = on_some (w e) (delayed most) of_e (delayed_word most) in
    let count : (i : ℕ) → ones_to late.0 i ≡ ones_to (w e) i - most = λ i. ones_to-on (w e) (delayed most) late.0 i late.1 ∙ delayed_count most (ones_to (w e) i) in
    let before : (i : ℕ) → ones_to late.0 i ≤ ones_to (w p) i = λ i. omega (arith, count i, keeps.1.passed i, keeps.2) in (
      record {
        first = w p;
        second = late.0;
        of_first = record { is_word = of_p; on = λ i h. sym (on_always (w p) i h) };
        of_second = record { is_word = late.2; on = late.1 };
        adaptable = (
          SameRate-from_close (w p) late.0 most (record { ahead = λ i. omega (arith, count i, is.1 i); behind = λ i. omega (arith, before i) }),
          before,
        );
      },
      tt,
    )

pub bound_to : (w : Assignment) (p e : ℕ) (most : Option ℕ) → IsWord (w e) → IsWord (w p) → IsAdaptable (w e) (w p) → MeetsAll w (bound_needs p e most) → KeepsBound most (w e) (w p)
bound_to w p e None of_e of_p is met = tt
bound_to w p e (Some most) of_e of_p is met =
    let m = met.0 in
    let size = size_exists (w e) (w p) is.0 (period_some (w e) of_e) (period_some (w p) of_p) in
    let i : ℕ = size.1.reached.0 in
    let late : ones_to m.second i ≡ ones_to (w e) i - most = ones_to-on (w e) (delayed most) m.second i m.of_second.on ∙ delayed_count most (ones_to (w e) i) in
    let read : ones_to m.first i ≡ ones_to (w p) i = ones_to-on (w p) always m.first i m.of_first.on ∙ always_count (ones_to (w p) i) in
    (size.0, size.1, omega (arith, m.adaptable.1 i, late, read, size.1.reached.1))
