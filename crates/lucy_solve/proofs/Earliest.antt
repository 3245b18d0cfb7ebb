-- Where no variable moves any more, the values are the earliest solution.
use Rattle.std.proofs.Common.{inl, inr, ◌≡◌, ℕ, ◌<◌, ◌≤◌, ◌⊎◌, ℤ, pos, ◌-ℤ◌, List, length, get_or, map, Bool, true, false, ◌∙◌, subst, refl, arith}
use Rattle.std.proofs.lemmas.Int.{ints}
use Rattle.std.proofs.lemmas.Bool.{cases_lt}
use Rattle.std.proofs.lemmas.List.{get_or-map, length-map, get_or_past}
use Rattle.lucy_solve.specs.System.{DifferenceSystem, diff_at, IsSystem, Solves, value, IsEarliest}
use Rattle.lucy_solve.specs.Search.{position_at, MeetsInequality, IsReached, IsPassed}
use Rattle.lucy_solve.proofs.Lifts.{proper, shifted_is}

-- the values, less that of the origin, are a solution
solves_shifted : (s : DifferenceSystem) (x : List ℕ) (c : ℕ) (f : ℕ → ℤ) → ((n : ℕ) → f n ≡ pos n -ℤ pos c) → length x ≡ s.count → IsSystem s → ((i : ℕ) → i < length s.list → MeetsInequality s.list x i) → get_or x 0 0 ≡ c → f 0 ≡ pos 0 ⊎ 0 < s.count → Solves s (map f x)
solves_shifted s x c f is size p holds zero_is some = record {
  size = length-map x f ∙ size;
  origin = elim (cases_lt 0 (length x)) [
    | inl l ↦ let a : value (map f x) 0 ≡ f (get_or x 0 0) = get_or-map f x 0 0 (pos 0) l in let b = is (get_or x 0 0) in omega (arith, ints)
    | inr l ↦ let e : length (map f x) ≤ 0 = let a = length-map x f in omega arith in get_or_past (map f x) 0 (pos 0) e
  ];
  each = λ i l.
      let d = diff_at s.list i in
      let pd = proper s p i l in
      let a : value (map f x) d.left ≡ f (get_or x d.left 0) = get_or-map f x d.left 0 (pos 0) (let q = pd.left in omega arith) in
      let b : value (map f x) d.right ≡ f (get_or x d.right 0) = get_or-map f x d.right 0 (pos 0) (let q = pd.right in omega arith) in
      let g = is (get_or x d.left 0) in
      let h = is (get_or x d.right 0) in
      let sh = shifted_is d.most pd.low in
      let k = holds i l in
      omega (arith, ints);
}

pub earliest : (s : DifferenceSystem) (x parents : List ℕ) → IsReached s x parents → IsSystem s → ((i : ℕ) → i < length s.list → MeetsInequality s.list x i) → IsEarliest s (map pos x)
earliest s x parents h p holds =
    let origin : get_or x 0 0 ≡ 0 = elim (cases_lt 0 s.count) [
      | inl l ↦ let y = solves_shifted s x (get_or x 0 0) (λ n. pos n -ℤ pos (get_or x 0 0)) (λ n. refl) h.value_count p holds refl (inr l) in
          let a = h.lower (map (λ n. pos n -ℤ pos (get_or x 0 0)) x) y 0 l in
          let b = y.origin in
          omega (arith, ints)
      | inr l ↦ let a = h.value_count in get_or_past x 0 0 (omega arith)
    ] in
    let solves = solves_shifted s x 0 pos (λ n. omega (arith, ints)) h.value_count p holds origin (inl refl) in
    record {
      solves = solves;
      least = λ ys y v. elim (cases_lt v s.count) [
        | inl l ↦ let a : value (map pos x) v ≡ pos (get_or x v 0) = get_or-map pos x v 0 (pos 0) (let b = h.value_count in omega arith) in
            let b = h.lower ys y v l in omega (arith, ints)
        | inr l ↦ let a : value (map pos x) v ≡ pos 0 = get_or_past (map pos x) v (pos 0) (let b = h.value_count in let c = length-map x pos in omega arith) in
            let b : value ys v ≡ pos 0 = get_or_past ys v (pos 0) (let c = y.size in omega arith) in omega (arith, ints)
      ];
    }

-- where no variable moved, every inequality holds
position_back : (len : ℕ) (backwards : Bool) (i : ℕ) → i < len → (position_at len backwards i < len) × (position_at len backwards (position_at len backwards i) ≡ i)
position_back len true i l = (omega arith, omega arith)
position_back len false i l = (l, refl)

pub settled : (s : DifferenceSystem) (backwards : Bool) (before x parents : List ℕ) → IsReached s x parents → IsSystem s → IsPassed s.list backwards before x (length s.list) false → IsEarliest s (map pos x)
settled s backwards before x parents h p q = earliest s x parents h p (λ i l.
    let a = position_back (length s.list) backwards i l in
    subst (λ (i : ℕ). MeetsInequality s.list x i) a.1 ((q.still refl).1 (position_at (length s.list) backwards i) a.0))
