-- An assignment that fits a shape meets the needs exactly where its positions solve the inequalities.
use Rattle.std.proofs.Common.{◌≡◌, ℕ, ◌+◌, ◌-◌, ◌*◌, ◌/◌, ◌<◌, ◌≤◌, ◌↔◌, Bool, cond, eqb, List, [], ◌∷◌, ◌++◌, length, ℤ, pos, negsuc, neg_ℤ, inl, inr, sym, ap, ◌∙◌, subst, arith}
use Rattle.std.specs.List.{AllByRecursion, flat_map}
use Rattle.std.proofs.lemmas.Int.{ints}
use Rattle.std.proofs.lemmas.Bool.{cases_lt, cases_Bool}
use Rattle.std.proofs.lemmas.List.Elements.{All-from_get_or, recursion_from_All, All-from_recursion}
use Rattle.std.proofs.Math.Nat.{div-mul_cancel, mul-div_cancel}
use Rattle.std.proofs.lemmas.Nat.{mul-le}
use Rattle.std.proofs.lemmas.Bool.Decides.{eqb_tells}
use Prim.Native.Nat.{◌∣◌}
use Rattle.lucy_word.specs.Bits.{Bits, ones_to, ones_in, IsWord}
use Rattle.lucy_word.proofs.BitsLaws.{period_some}
use Rattle.lucy_word.proofs.SamplingLaws.{ones_to-on}
use Rattle.lucy_word.proofs.OnLaws.{on_some}
use Rattle.lucy_word.proofs.Lists.{all_join}
use Rattle.lucy_need.specs.declared.need.Term.{Term}
use Rattle.lucy_need.specs.declared.need.Need.{Need}
use Rattle.lucy_need.specs.declared.need.Need.TheVariants.{Equal, Adapt}
use Rattle.lucy_need.proofs.AllLaws.{all_front, all_back}
use Rattle.lucy_solve.specs.declared.diffs.Diff.{Diff}
use Rattle.lucy_solve.specs.System.{value, diff_at, no_diff}
use Rattle.lucy_shape.specs.declared.shape.ClockShape.{ClockShape}
use Rattle.lucy_shape.specs.declared.shape.Shape.{Shape}
use Rattle.lucy_shape.proofs.Indexes.{fits_same, on_index, one_index, need_turn}
use Rattle.lucy_shape.proofs.WordIndex.{need_law, word_index, word_rises, word_turns}
use Rattle.lucy_shape.proofs.RowLaws.{row_law}
use Rattle.lucy_shape.proofs.Lists.{all_map, all_map_at, all_flat, all_flat_at}
use Rattle.lucy_shape.proofs.Places.{index_rises, index_some, index_always, same_bits, same_counts, one_rate}
use Rattle.lucy_need.specs.Meeting.{Assignment, Meets, MeetsAll, AreEqual, AreAdaptable}
use Rattle.lucy_need.specs.Stored.{HasWords}
use Rattle.lucy_shape.specs.Fitting.{variable_of, clock_at, IsUsed, turn_instances, AreCarried, IsCarried, IsLaidOut, ArePositions, IsFitting}
use Rattle.lucy_shape.specs.Index.{Recurs, index_of}
use Rattle.lucy_shape.specs.Inequalities.{lead_instances, bound_rows, base_rows, neighbour_rows, period_row, clock_rows, instances, instance_row, need_rows, shape_rows, inequalities}
use Rattle.lucy_shape.specs.Laws.{IsSideOf, MeetingLaw}
use Rattle.lucy_shape.specs.Rows.{HoldsIn}
use Rattle.lucy_shape.specs.Turning.{ones_on}

-- the side of a need, from the shape
div_times : (t l r : ℕ) → 0 < l → t * l * r / l ≡ t * r
div_times t l r some =
    let e : t * l * r ≡ t * r * l = omega arith in
    ap (λ n. n / l) e ∙ mul-div_cancel (t * r) some

pub side_of : (clocks : List ClockShape) (t : Term) → IsWord t.word → length t.word.period ∣ (clock_at clocks t.clock).ones →
    IsSideOf (clock_at clocks t.clock).ones (turn_instances clocks t) t.word
side_of clocks t word whole =
    let q = (clock_at clocks t.clock).ones in
    let l = length t.word.period in
    let e : q / l * l ≡ q = div-mul_cancel l whole in
    record {
      times = q / l;
      whole = sym e;
      some = ap (λ n. n * ones_in t.word.period / l) (sym e) ∙ div_times (q / l) l (ones_in t.word.period) (period_some t.word word);
    }

-- a term's index, and that it comes again
term_fits : (shape : Shape) (w : Assignment) (t : Term) → IsWord (w t.clock) → IsWord t.word → length t.word.period ∣ (clock_at shape.clocks t.clock).ones →
    Recurs (index_of (w t.clock)) (clock_at shape.clocks t.clock).lead (clock_at shape.clocks t.clock).ones shape.period →
    Recurs (λ k. index_of (w t.clock) (index_of t.word k)) (lead_instances (clock_at shape.clocks t.clock).lead t.word) (turn_instances shape.clocks t) shape.period
term_fits shape w t of_clock of_word whole fits =
    let s = side_of shape.clocks t of_word whole in
    let c = clock_at shape.clocks t.clock in
    let f = need_turn (ones_to t.word) (index_of t.word) (index_of (w t.clock)) c.lead (length t.word.prefix) (length t.word.period) (ones_in t.word.period) c.ones shape.period s.times
    (word_index t.word of_word) (word_rises t.word) (word_turns t.word) fits s.whole in
    subst (λ (n : ℕ). Recurs (λ k. index_of (w t.clock) (index_of t.word k)) (lead_instances c.lead t.word) n shape.period) (sym s.some) f

some_turn : (clocks : List ClockShape) (s : Term) → IsWord s.word → length s.word.period ∣ (clock_at clocks s.clock).ones → 0 < (clock_at clocks s.clock).ones → 0 < turn_instances clocks s
some_turn clocks s word whole some =
    let side = side_of clocks s word whole in
    let times : 0 < side.times = elim (cases_lt 0 side.times) [
      | inl l ↦ l
      | inr n ↦ let z : side.times * length s.word.period ≡ 0 * length s.word.period = ap (λ n. n * length s.word.period) (let e : side.times ≡ 0 = omega arith in e) in let e = side.whole in absurd (omega arith)
    ] in
    let more : 1 * 1 ≤ side.times * ones_in s.word.period = mul-le 1 1 side.times (ones_in s.word.period) times word.has_one in
    let e = side.some in
    omega arith

-- the index of a word of a term
index_is : (a u x : Bits) → IsWord a → IsWord u → IsWord x → ((i : ℕ) → ones_to x i ≡ ones_on a u i) → (k : ℕ) → index_of x k ≡ index_of a (index_of u k)
index_is a u x of_a of_u of_x same k =
    let law = word_index x of_x in
    one_index (ones_on a u) (index_of x) (λ k. index_of a (index_of u k)) (record {
      there = λ k i h. let e = same i in let f = law.there k i h in omega arith;
      first = λ k i h. law.first k i (let e = same i in omega arith);
    }) (on_index (ones_to a) (index_of a) (ones_to u) (index_of u) (word_index a of_a) (word_index u of_u)) k

module _ (shape : Shape) (w : Assignment) (xs : List ℤ) (laid : IsLaidOut shape) (fitting : IsFitting shape w) (are : ArePositions shape w xs) where
  word_of : (c : ℕ) → IsUsed shape.clocks c → IsWord (w c)
  word_of c u = fitting.words c u.0

  abbrev HoldsAt : Term → Term → ℕ → Type 0
  HoldsAt s t k = index_of (w s.clock) (index_of s.word k) ≤ index_of (w t.clock) (index_of t.word k)

  abbrev Instances : Term → Term → Type 0
  Instances s t = (k : ℕ) → 0 < k → k ≤ instances shape.clocks s t → HoldsAt s t k

  -- the instances of two terms hold exactly where the first precedes the second
  precedes : (s t : Term) → IsWord s.word → IsWord t.word → AreCarried shape.clocks s t → (((i : ℕ) → ones_on (w t.clock) t.word i ≤ ones_on (w s.clock) s.word i) ↔ Instances s t)
  precedes s t of_s of_t carried =
      let c = clock_at shape.clocks s.clock in
      let d = clock_at shape.clocks t.clock in
      let Q = turn_instances shape.clocks s in
      let side_t = subst (λ (n : ℕ). IsSideOf d.ones n t.word) (sym carried.same) (side_of shape.clocks t of_t carried.second_whole) in
      need_law (w s.clock) s.word (w t.clock) t.word c.lead d.lead c.ones d.ones shape.period Q
      (word_of s.clock carried.first_used) of_s (word_of t.clock carried.second_used) of_t
      (some_turn shape.clocks s of_s carried.first_whole (laid.ones s.clock carried.first_used))
      (side_of shape.clocks s of_s carried.first_whole) side_t (fitting.fits s.clock carried.first_used) (fitting.fits t.clock carried.second_used)

  back : (s t : Term) → AreCarried shape.clocks s t → AreCarried shape.clocks t s
  back s t h = record { first_used = h.second_used; second_used = h.first_used; first_whole = h.second_whole; second_whole = h.first_whole; same = sym h.same }

  -- a row of positions says what its instance says
  row_says : (s t : Term) (k : ℕ) → IsWord s.word → IsWord t.word → AreCarried shape.clocks s t → 0 < k →
      (HoldsIn xs (instance_row shape.period shape.clocks s t k) ↔ HoldsAt s t k)
  row_says s t k of_s of_t h some =
      row_law shape.period (clock_at shape.clocks s.clock) (clock_at shape.clocks t.clock) (index_of (w s.clock)) (index_of (w t.clock)) xs (index_of s.word k) (index_of t.word k)
      (laid.ones s.clock h.first_used) (laid.ones t.clock h.second_used) (fitting.fits s.clock h.first_used) (fitting.fits t.clock h.second_used)
      (are.at s.clock h.first_used) (are.at t.clock h.second_used) (index_some s.word of_s k some) (index_some t.word of_t k some)

  count_same : (s t : Term) → AreCarried shape.clocks s t → instances shape.clocks t s ≡ instances shape.clocks s t
  count_same s t h = let e = h.same in omega arith

  -- two terms with the same counts, both ways
  both : (s t : Term) → IsWord s.word → IsWord t.word → AreCarried shape.clocks s t → Instances s t → Instances t s → AreEqual w s t
  both s t of_s of_t h i j =
      let a = (precedes s t of_s of_t h).1 i in
      let b = (precedes t s of_t of_s (back s t h)).1 j in
      same_bits (w s.clock) s.word (w t.clock) t.word (λ i. let x = a i in let y = b i in omega arith)

  -- the terms of an `Adapt` need
  adapts : (s t : Term) → IsWord s.word → IsWord t.word → AreCarried shape.clocks s t → Instances s t → AreAdaptable w s t
  adapts s t of_s of_t h i =
      let x = on_some (w s.clock) s.word (word_of s.clock h.first_used) of_s in
      let y = on_some (w t.clock) t.word (word_of t.clock h.second_used) of_t in
      let before = (precedes s t of_s of_t h).1 i in
      let P = shape.period in
      let c = clock_at shape.clocks s.clock in
      let d = clock_at shape.clocks t.clock in
      let fx = term_fits shape w s (word_of s.clock h.first_used) of_s h.first_whole (fitting.fits s.clock h.first_used) in
      let fy = term_fits shape w t (word_of t.clock h.second_used) of_t h.second_whole (fitting.fits t.clock h.second_used) in
      let gy = subst (λ (n : ℕ). Recurs (λ k. index_of (w t.clock) (index_of t.word k)) (lead_instances d.lead t.word) n P) (sym h.same) fy in
      let cx : (i : ℕ) → ones_to x.0 i ≡ ones_on (w s.clock) s.word i = λ i. ones_to-on (w s.clock) s.word x.0 i x.1 in
      let cy : (i : ℕ) → ones_to y.0 i ≡ ones_on (w t.clock) t.word i = λ i. ones_to-on (w t.clock) t.word y.0 i y.1 in
      let ix = index_is (w s.clock) s.word x.0 (word_of s.clock h.first_used) of_s x.2 cx in
      let iy = index_is (w t.clock) t.word y.0 (word_of t.clock h.second_used) of_t y.2 cy in
      record {
        first = x.0;
        second = y.0;
        of_first = record { is_word = x.2; on = x.1 };
        of_second = record { is_word = y.2; on = y.1 };
        adaptable = (
          one_rate x.0 y.0 (lead_instances c.lead s.word) (lead_instances d.lead t.word) (turn_instances shape.clocks s) P laid.some x.2 y.2
              (fits_same (index_of x.0) (λ k. index_of (w s.clock) (index_of s.word k)) (lead_instances c.lead s.word) (turn_instances shape.clocks s) P ix fx)
              (fits_same (index_of y.0) (λ k. index_of (w t.clock) (index_of t.word k)) (lead_instances d.lead t.word) (turn_instances shape.clocks s) P iy gy),
          λ i. let e = cx i in let f = cy i in let b = before i in omega arith,
        );
      }

  pub need_to : (need : Need) → HasWords need → IsCarried shape.clocks need → Meets w need → AllByRecursion (HoldsIn xs) (need_rows shape.period shape.clocks need)
  need_to (Equal s t) words h met =
      let same = same_counts (w s.clock) s.word (w t.clock) t.word met in
      let i = (precedes s t words.0.word words.1.word h).0 (λ i. let e = same i in omega arith) in
      let j = (precedes t s words.1.word words.0.word (back s t h)).0 (λ i. let e = same i in omega arith) in
      let e = count_same s t h in
      all_flat (HoldsIn xs) (λ k. instance_row shape.period shape.clocks s t k ∷ instance_row shape.period shape.clocks t s k ∷ []) 1 (instances shape.clocks s t)
      (λ k low high. ((row_says s t k words.0.word words.1.word h low).1 (i k low (omega arith)), ((row_says t s k words.1.word words.0.word (back s t h) low).1 (j k low (omega arith)), tt)))
  need_to (Adapt s t) words h met =
      let cx : (i : ℕ) → ones_to met.first i ≡ ones_on (w s.clock) s.word i = λ i. ones_to-on (w s.clock) s.word met.first i met.of_first.on in
      let cy : (i : ℕ) → ones_to met.second i ≡ ones_on (w t.clock) t.word i = λ i. ones_to-on (w t.clock) t.word met.second i met.of_second.on in
      let i = (precedes s t words.0.word words.1.word h).0 (λ i. let a = met.adaptable.1 i in let x = cx i in let y = cy i in omega arith) in
      all_map (HoldsIn xs) (instance_row shape.period shape.clocks s t) 1 (instances shape.clocks s t)
      (λ k low high. (row_says s t k words.0.word words.1.word h low).1 (i k low (omega arith)))

  pub need_from : (need : Need) → HasWords need → IsCarried shape.clocks need → AllByRecursion (HoldsIn xs) (need_rows shape.period shape.clocks need) → Meets w need
  need_from (Equal s t) words h hold =
      let at = all_flat_at (HoldsIn xs) (λ k. instance_row shape.period shape.clocks s t k ∷ instance_row shape.period shape.clocks t s k ∷ []) 1 (instances shape.clocks s t) hold in
      let e = count_same s t h in
      both s t words.0.word words.1.word h
      (λ k some few. (row_says s t k words.0.word words.1.word h some).0 ((at k some (omega arith)).0))
      (λ k some few. (row_says t s k words.1.word words.0.word (back s t h) some).0 ((at k some (omega arith)).1.0))
  need_from (Adapt s t) words h hold =
      let at = all_map_at (HoldsIn xs) (instance_row shape.period shape.clocks s t) 1 (instances shape.clocks s t) hold in
      adapts s t words.0.word words.1.word h (λ k some few. (row_says s t k words.0.word words.1.word h some).0 (at k some (omega arith)))

  pub needs_to : (list : List Need) → AllByRecursion HasWords list → AllByRecursion (IsCarried shape.clocks) list → MeetsAll w list → AllByRecursion (HoldsIn xs) (flat_map (need_rows shape.period shape.clocks) list)
  needs_to [] words h met = tt
  needs_to (need ∷ list) words h met =
      all_join (HoldsIn xs) (need_rows shape.period shape.clocks need) (flat_map (need_rows shape.period shape.clocks) list) (need_to need words.0 h.0 met.0) (needs_to list words.1 h.1 met.1)

  pub needs_from : (list : List Need) → AllByRecursion HasWords list → AllByRecursion (IsCarried shape.clocks) list → AllByRecursion (HoldsIn xs) (flat_map (need_rows shape.period shape.clocks) list) → MeetsAll w list
  needs_from [] words h hold = tt
  needs_from (need ∷ list) words h hold = (
    need_from need words.0 h.0 (all_front (HoldsIn xs) (need_rows shape.period shape.clocks need) (flat_map (need_rows shape.period shape.clocks) list) hold),
    needs_from list words.1 h.1 (all_back (HoldsIn xs) (need_rows shape.period shape.clocks need) (flat_map (need_rows shape.period shape.clocks) list) hold),
  )

  -- the positions of each clock meet its own rows
  clock_holds : (c : ℕ) → IsUsed shape.clocks c → (m : ℕ) → 0 < m → m ≤ (clock_at shape.clocks c).lead + (clock_at shape.clocks c).ones → value xs (variable_of (clock_at shape.clocks c) m) ≡ pos (index_of (w c) m)
  clock_holds c u m some few = (are.at c u).at m some few

  neighbours_hold : (c : ℕ) → IsUsed shape.clocks c → AllByRecursion (HoldsIn xs) (neighbour_rows (clock_at shape.clocks c))
  neighbours_hold c u =
      let s = clock_at shape.clocks c in
      all_map (HoldsIn xs) (λ m. record { left = variable_of s m; right = variable_of s (m + 1); most = negsuc 0 }) 1 (s.lead + s.ones - 1) (λ m low high.
      let a = clock_holds c u m low (omega arith) in
      let b = clock_holds c u (m + 1) (omega arith) (omega arith) in
      let f = index_rises (w c) (word_of c u) m in
      omega (arith, ints))

  period_holds : (c : ℕ) → IsUsed shape.clocks c → HoldsIn xs (period_row shape.period (clock_at shape.clocks c))
  period_holds c u =
      let s = clock_at shape.clocks c in
      let some = laid.ones c u in
      let a = clock_holds c u (s.lead + s.ones) (omega arith) (omega arith) in
      let b = clock_holds c u (s.lead + 1) (omega arith) (omega arith) in
      let g = index_rises (w c) (word_of c u) (s.lead + s.ones) in
      let h = fitting.fits c u (s.lead + 1) (omega arith) in
      let i : index_of (w c) (s.lead + 1 + s.ones) ≡ index_of (w c) (s.lead + s.ones + 1) = ap (index_of (w c)) (omega arith) in
      omega (arith, ints)

  bounds_hold : (c : ℕ) → IsUsed shape.clocks c → AllByRecursion (HoldsIn xs) (bound_rows (clock_at shape.clocks c))
  bounds_hold c u =
      let s = clock_at shape.clocks c in
      all_map (HoldsIn xs) (λ m. record { left = 0; right = variable_of s m; most = negsuc 0 }) 1 (s.lead + s.ones) (λ m low high.
      let a = clock_holds c u m low (omega arith) in
      let b = index_some (w c) (word_of c u) m low in
      let o = are.origin in
      omega (arith, ints))

  base_hold : IsUsed shape.clocks 0 → AllByRecursion (HoldsIn xs) (base_rows (clock_at shape.clocks 0))
  base_hold u =
      let s = clock_at shape.clocks 0 in
      all_flat (HoldsIn xs) (λ m. record { left = 0; right = variable_of s m; most = neg_ℤ (pos m) } ∷ record { left = variable_of s m; right = 0; most = pos m } ∷ []) 1 (s.lead + s.ones) (λ m low high.
      let a = clock_holds 0 u m low (omega arith) in
      let b = index_always (w 0) fitting.base (word_of 0 u) m in
      let o = are.origin in
      (omega (arith, ints), (omega (arith, ints), tt)))

  rows_hold : (c : ℕ) → c < length shape.clocks → AllByRecursion (HoldsIn xs) (clock_rows shape.period (eqb c 0) (clock_at shape.clocks c))
  rows_hold c within =
      let s = clock_at shape.clocks c in
      let rest : List Diff = neighbour_rows s ++ period_row shape.period s ∷ [] in
      elim (cases_Bool s.used) [
        | inr none ↦ subst (λ (b : Bool). AllByRecursion (HoldsIn xs) (cond b (cond (eqb c 0) (base_rows s) (bound_rows s) ++ rest) [])) (sym none) tt
        | inl yes' ↦
            let u : IsUsed shape.clocks c = (within, yes') in
            let tail : AllByRecursion (HoldsIn xs) rest = all_join (HoldsIn xs) (neighbour_rows s) (period_row shape.period s ∷ []) (neighbours_hold c u) (period_holds c u, tt) in
            let head : AllByRecursion (HoldsIn xs) (cond (eqb c 0) (base_rows s) (bound_rows s)) = elim (eqb_tells c 0) [
              | inl z ↦ subst (λ (b : Bool). AllByRecursion (HoldsIn xs) (cond b (base_rows s) (bound_rows s))) (sym z.0)
                  (subst (λ (n : ℕ). AllByRecursion (HoldsIn xs) (base_rows (clock_at shape.clocks n))) (sym z.1) (base_hold (subst (λ (n : ℕ). IsUsed shape.clocks n) z.1 u)))
              | inr z ↦ subst (λ (b : Bool). AllByRecursion (HoldsIn xs) (cond b (base_rows s) (bound_rows s))) (sym z.0) (bounds_hold c u)
            ] in
            subst (λ (b : Bool). AllByRecursion (HoldsIn xs) (cond b (cond (eqb c 0) (base_rows s) (bound_rows s) ++ rest) [])) (sym yes')
            (all_join (HoldsIn xs) (cond (eqb c 0) (base_rows s) (bound_rows s)) rest head tail)
      ]

  pub shape_holds : AllByRecursion (HoldsIn xs) (shape_rows shape)
  shape_holds = all_flat (HoldsIn xs) (λ c. clock_rows shape.period (eqb c 0) (clock_at shape.clocks c)) 0 (length shape.clocks) (λ c low high. rows_hold c (omega arith))

-- solving, by recursion on the list
pub each_from : (xs : List ℤ) (list : List Diff) → AllByRecursion (HoldsIn xs) list → (i : ℕ) → i < length list → HoldsIn xs (diff_at list i)
each_from xs list h i l = All-from_recursion (HoldsIn xs) list h i no_diff l

pub each_to : (xs : List ℤ) (list : List Diff) → ((i : ℕ) → i < length list → HoldsIn xs (diff_at list i)) → AllByRecursion (HoldsIn xs) list
each_to xs list h = recursion_from_All (HoldsIn xs) list (All-from_get_or (HoldsIn xs) list no_diff h)

pub meeting_law : MeetingLaw
meeting_law needs shape w xs words is fitting are =
    let rows = flat_map (need_rows shape.period shape.clocks) needs.list in (
      λ met. record {
        size = are.size;
        origin = are.origin;
        each = each_from xs (inequalities needs shape) (all_join (HoldsIn xs) (shape_rows shape) rows
            (shape_holds shape w xs is.laid fitting are) (needs_to shape w xs is.laid fitting are needs.list words is.carried met));
      },
      λ solves. needs_from shape w xs is.laid fitting are needs.list words is.carried
          (all_back (HoldsIn xs) (shape_rows shape) rows (each_to xs (inequalities needs shape) solves.each)),
    )
