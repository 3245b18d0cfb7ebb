-- Numbers whose multiples are what is asked for.
use Rattle.std.proofs.Common.{ℕ, ◌<◌, ◌↔◌, arith}
use Prim.Native.Nat.{◌∣◌}
use Rattle.std.proofs.Math.Nat.{one-dvd}
use Rattle.std.proofs.lemmas.Nat.Gcd.{dvd_trans}
use Rattle.lucy_word.specs.Multiple.{IsLcm}
use Rattle.lucy_word.proofs.Multiples.{lcm_exists, lcm_divides}

-- some number has exactly these multiples
pub record IsCollected (asked : ℕ → Type 0) : Type 0 where
  pub number : ℕ
  pub some : 0 < number
  pub exact : (n : ℕ) → (number ∣ n ↔ asked n)

-- a least common multiple has exactly the common multiples
pub lcm_splits : (a b m n : ℕ) → IsLcm a b m → (m ∣ n ↔ ((a ∣ n) × (b ∣ n)))
lcm_splits a b m n is = (λ d. (dvd_trans a is.of_left d, dvd_trans b is.of_right d), λ w. lcm_divides a b m n is w.0 w.1)

pub collected_both : (p q : ℕ → Type 0) → IsCollected p → IsCollected q → IsCollected (λ n. p n × q n)
collected_both p q h k =
    let m = lcm_exists h.number k.number h.some k.some in
    record {
      number = m.0;
      some = m.1.positive;
      exact = λ n. (
        λ d. (let w = (lcm_splits h.number k.number m.0 n m.1).0 d in ((h.exact n).0 w.0, (k.exact n).0 w.1)),
        λ w. (lcm_splits h.number k.number m.0 n m.1).1 ((h.exact n).1 w.0, (k.exact n).1 w.1),
      );
    }

pub collected_same : (p q : ℕ → Type 0) → ((n : ℕ) → (p n ↔ q n)) → IsCollected p → IsCollected q
collected_same p q e h = record {
  number = h.number;
  some = h.some;
  exact = λ n. (λ d. (e n).0 ((h.exact n).0 d), λ w. (h.exact n).1 ((e n).1 w));
}

-- what every number meets
pub collected_free : (p : ℕ → Type 0) → ((n : ℕ) → p n) → IsCollected p
collected_free p h = record { number = 1; some = omega arith; exact = λ n. (λ d. h n, λ w. one-dvd n) }
