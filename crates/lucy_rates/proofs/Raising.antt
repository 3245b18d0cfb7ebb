-- Lists whose entries rise, and lists of numbers and shapes that grow.
use Rattle.std.proofs.Common.{◌≡◌, ℕ, suc, ◌+◌, ◌*◌, ◌/◌, ◌^◌, ◌<◌, ◌≤◌, ◌⊎◌, ◌↔◌, max, Bool, true, false, not, ◌||◌, cond, eqb, List, length, get_or, inl, inr, sym, ap, ◌∙◌, subst, arith, eq-eqb}
use Rattle.std.specs.Prelude.{slice_index, slice_set}
use Prim.Native.Nat.{◌∣◌}
use Rattle.std.proofs.Math.Nat.{one-dvd, le_of_dvd, div-le_self}
use Rattle.std.proofs.lemmas.Nat.{mul-le}
use Rattle.std.proofs.lemmas.Bool.{cases_eq, cases_Bool, false≢true, and_left, and_right, ne_eqb}
use Rattle.std.proofs.lemmas.List.{length-set, get_or-set_same, get_or-set_other, set-get_or}
use Rattle.lucy_word.specs.Bits.{most_bits}
use Rattle.lucy_word.specs.Multiple.{IsLcm}
use Rattle.lucy_word.proofs.Multiples.{lcm_exists}
use Rattle.lucy_need.specs.declared.need.Term.{Term}
use Rattle.lucy_need.specs.declared.need.Need.{Need}
use Rattle.lucy_shape.specs.Fitting.{most_positions}
use Rattle.lucy_rates.specs.Walks.{first_of, second_of, need_at}
use Rattle.lucy_rates.specs.Laying.{top_to, AreTops, counts, IsCommonTo, IsPeriodTo, HasLargeCommon, prefix_of, longest_to, AreLongest, most_period, most_ones}
use Rattle.lucy_rates.proofs.Asking.{at_first, at_second}
use Rattle.lucy_rates.proofs.Dividing.{lcm_splits}
use Rattle.lucy_rates.proofs.Topping.{counts_from, top_yes, top_no, common_more}

raised_same : (list : List ℕ) (place number : ℕ) → place < length list → slice_index (slice_set list place (max (slice_index list place) number)) place ≡ max (slice_index list place) number
raised_same list place number l = get_or-set_same list place (max (slice_index list place) number) 0 l

-- an entry that is raised at a place
pub raised : (list after : List ℕ) (place number i : ℕ) → after ≡ slice_set list place (max (slice_index list place) number) → i < length list → slice_index after i ≡ max (slice_index list i) (cond (eqb place i) number 0)
raised list after place number i is l =
    ap (λ (z : List ℕ). slice_index z i) is ∙ elim (cases_eq i place) [
      | inl e ↦
          let x : cond (eqb place i) number 0 ≡ number = ap (λ b. cond b number 0) (eq-eqb place i (sym e)) in
          let y : max (slice_index list i) number ≡ max (slice_index list i) (cond (eqb place i) number 0) = ap (λ z. max (slice_index list i) z) (sym x) in
          subst (λ (z : ℕ). slice_index (slice_set list place (max (slice_index list place) number)) z ≡ max (slice_index list z) number) (sym e) (raised_same list place number (omega arith)) ∙ y
      | inr n ↦
          let x : cond (eqb place i) number 0 ≡ 0 = ap (λ b. cond b number 0) (ne_eqb place i (λ e. n (sym e))) in
          let y = get_or-set_other list place i (max (slice_index list place) number) 0 n in
          omega arith
    ]

pub raised_size : (list after : List ℕ) (place number : ℕ) → after ≡ slice_set list place (max (slice_index list place) number) → length after ≡ length list
raised_size list after place number is = ap length is ∙ length-set list place (max (slice_index list place) number)

pub tops_raise : (roots vector : List ℕ) (c : ℕ) (before after : List ℕ) → AreTops roots vector c before → after ≡ slice_set before (slice_index roots c) (max (slice_index before (slice_index roots c)) (slice_index vector c)) →
    (c ≡ 0) ⊎ (slice_index roots c ≡ 0 → ⊥) → AreTops roots vector (c + 1) after
tops_raise roots vector c before after so_far is counting = record {
  size = raised_size before after (slice_index roots c) (slice_index vector c) is ∙ so_far.size;
  each = λ root l.
      let r = raised before after (slice_index roots c) (slice_index vector c) root is (let a = so_far.size in omega arith) in
      let old = so_far.each root l in
      let g : suc c ≡ c + 1 = omega arith in
      subst (λ (z : ℕ). slice_index after root ≡ top_to roots (slice_index vector) root z) g (elim (cases_eq (slice_index roots c) root) [
        | inl e ↦
            let x : cond (eqb (slice_index roots c) root) (slice_index vector c) 0 ≡ slice_index vector c = ap (λ b. cond b (slice_index vector c) 0) (eq-eqb (slice_index roots c) root e) in
            let y = top_yes roots (slice_index vector) root c (counts_from roots root c e (subst (λ (z : ℕ). (c ≡ 0) ⊎ (z ≡ 0 → ⊥)) e counting)) in
            r ∙ ap (λ z. max (slice_index before root) z) x ∙ ap (λ z. max z (slice_index vector c)) old ∙ sym y
        | inr n ↦
            let x : cond (eqb (slice_index roots c) root) (slice_index vector c) 0 ≡ 0 = ap (λ b. cond b (slice_index vector c) 0) (ne_eqb (slice_index roots c) root n) in
            let y = top_no roots (slice_index vector) root c (and_left (eqb (slice_index roots c) root) (eqb c 0 || not (eqb root 0)) (ne_eqb (slice_index roots c) root n)) in
            omega arith
      ]);
}

pub tops_keep : (roots vector : List ℕ) (c : ℕ) (before : List ℕ) → AreTops roots vector c before → (c ≡ 0 → ⊥) → slice_index roots c ≡ 0 → AreTops roots vector (c + 1) before
tops_keep roots vector c before so_far late zero' = record {
  size = so_far.size;
  each = λ root l.
      let old = so_far.each root l in
      let g : suc c ≡ c + 1 = omega arith in
      subst (λ (z : ℕ). slice_index before root ≡ top_to roots (slice_index vector) root z) g (elim (cases_eq (slice_index roots c) root) [
        | inl e ↦
            let x : (eqb c 0 || not (eqb root 0)) ≡ false = ap (λ b. b || not (eqb root 0)) (ne_eqb c 0 late) ∙ ap (λ b. not b) (eq-eqb root 0 (sym e ∙ zero')) in
            old ∙ sym (top_no roots (slice_index vector) root c (and_right (eqb (slice_index roots c) root) (eqb c 0 || not (eqb root 0)) x))
        | inr n ↦ old ∙ sym (top_no roots (slice_index vector) root c (and_left (eqb (slice_index roots c) root) (eqb c 0 || not (eqb root 0)) (ne_eqb (slice_index roots c) root n)))
      ]);
}

-- one clock more, whose number is 0 where it doesn't count
pub tops_more : (roots vector : List ℕ) (c : ℕ) (before after : List ℕ) (number : ℕ) → AreTops roots vector c before → slice_index roots c < length roots → after ≡ slice_set before (slice_index roots c) (max (slice_index before (slice_index roots c)) number) →
    ((c ≡ 0) ⊎ (slice_index roots c ≡ 0 → ⊥) → number ≡ slice_index vector c) → ((c ≡ 0 → ⊥) → slice_index roots c ≡ 0 → number ≡ 0) → AreTops roots vector (c + 1) after
tops_more roots vector c before after number so_far within is some none = elim (cases_eq c 0) [
  | inl e ↦ tops_raise roots vector c before after so_far (is ∙ ap (λ z. slice_set before (slice_index roots c) (max (slice_index before (slice_index roots c)) z)) (some (inl e))) (inl e)
  | inr n ↦ elim (cases_eq (slice_index roots c) 0) [
    | inr m ↦ tops_raise roots vector c before after so_far (is ∙ ap (λ z. slice_set before (slice_index roots c) (max (slice_index before (slice_index roots c)) z)) (some (inr m))) (inr m)
    | inl e ↦
        let zero' = none n e in
        let x : max (slice_index before (slice_index roots c)) number ≡ slice_index before (slice_index roots c) = omega arith in
        let y = set-get_or before (slice_index roots c) 0 in
        subst (AreTops roots vector (c + 1)) (sym (is ∙ ap (λ z. slice_set before (slice_index roots c) z) x ∙ y)) (tops_keep roots vector c before so_far n e)
  ]
]

-- the common period
pub common_none : (b : Bool) (top : ℕ → ℕ) → IsCommonTo b top 0 1
common_none b top = record { some = omega arith; exact = λ n. (λ d c l. absurd (omega arith), λ h. one-dvd n) }

pub common_step : (b : Bool) (top : ℕ → ℕ) (c period m : ℕ) → IsCommonTo b top c period → IsLcm period (top c) m → counts b c ≡ true → IsCommonTo b top (c + 1) m
common_step b top c period m so_far is e = record {
  some = is.positive;
  exact = λ n.
      let s = lcm_splits period (top c) m n is in
      let more = common_more b top c n in
      let g : suc c ≡ c + 1 = omega arith in
      subst (λ (k : ℕ). (m ∣ n ↔ ((d : ℕ) → d < k → counts b d ≡ true → top d ∣ n))) g (
        λ d. (let w = s.0 d in more.0 ((so_far.exact n).0 w.0, λ _. w.1)),
        λ h. (let w = more.1 h in s.1 ((so_far.exact n).1 w.0, w.1 e)),
      );
}

pub common_keep : (b : Bool) (top : ℕ → ℕ) (c period : ℕ) → IsCommonTo b top c period → counts b c ≡ false → IsCommonTo b top (c + 1) period
common_keep b top c period so_far e = record {
  some = so_far.some;
  exact = λ n.
      let more = common_more b top c n in
      let g : suc c ≡ c + 1 = omega arith in
      subst (λ (k : ℕ). (period ∣ n ↔ ((d : ℕ) → d < k → counts b d ≡ true → top d ∣ n))) g (
        λ d. more.0 ((so_far.exact n).0 d, λ h. absurd (false≢true (sym e ∙ h))),
        λ h. (so_far.exact n).1 (more.1 h).0,
      );
}

pub period_more : (b : Bool) (roots tops : List ℕ) (c period next : ℕ) → IsPeriodTo b roots tops c period → (counts b c ≡ true → IsLcm period (slice_index tops (slice_index roots c)) next) → (counts b c ≡ false → next ≡ period) → next ≤ most_positions →
    IsPeriodTo b roots tops (c + 1) next
period_more b roots tops c period next so_far least same few = record {
  common = elim (cases_Bool (counts b c)) [
    | inl e ↦ common_step b (λ i. slice_index tops (slice_index roots i)) c period next so_far.common (least e) e
    | inr e ↦ subst (IsCommonTo b (λ i. slice_index tops (slice_index roots i)) (c + 1)) (sym (same e)) (common_keep b (λ i. slice_index tops (slice_index roots i)) c period so_far.common e)
  ];
  few = few;
}

pub common_large : (b : Bool) (top : ℕ → ℕ) (c clocks period : ℕ) → c < clocks → IsCommonTo b top c period → 0 < top c → counts b c ≡ true → ((m : ℕ) → IsLcm period (top c) m → most_positions < m) → HasLargeCommon b top clocks
common_large b top c clocks period l so_far some e large = λ n positive all.
    let m = lcm_exists period (top c) so_far.some some in
    let a = large m.0 m.1 in
    let d = (lcm_splits period (top c) m.0 n m.1).1 ((so_far.exact n).1 (λ i k h. all i (omega arith) h), all c l e) in
    let k = le_of_dvd positive d in
    omega arith

cond_few : (b : Bool) (n m : ℕ) → n ≤ m → cond b n 0 ≤ m
cond_few true n m l = l
cond_few false n m l = omega arith

pub longest_more : (needs : List Need) (clocks k : ℕ) (before between after : List ℕ) (first second : Term) → AreLongest needs clocks k before → first ≡ first_of (need_at needs k) → second ≡ second_of (need_at needs k) →
    between ≡ slice_set before first.clock (max (slice_index before first.clock) (length first.word.prefix)) → after ≡ slice_set between second.clock (max (slice_index between second.clock) (length second.word.prefix)) →
    length first.word.prefix ≤ most_bits → length second.word.prefix ≤ most_bits → AreLongest needs clocks (k + 1) after
longest_more needs clocks k before between after first second so_far e f a b short short' =
    let size : length between ≡ length before = raised_size before between first.clock (length first.word.prefix) a in
    let each : (c : ℕ) → c < clocks → slice_index after c ≡ max (max (slice_index before c) (prefix_of c first)) (prefix_of c second) = λ c l.
    let x = raised before between first.clock (length first.word.prefix) c a (let s = so_far.size in omega arith) in
    let y = raised between after second.clock (length second.word.prefix) c b (let s = so_far.size in omega arith) in
    y ∙ ap (λ z. max z (prefix_of c second)) x in
    record {
      size = raised_size between after second.clock (length second.word.prefix) b ∙ size ∙ so_far.size;
      each = λ c l.
          let x = each c l in
          let p : prefix_of c first ≡ prefix_of c (first_of (need_at needs k)) = ap (λ (t : Term). prefix_of c t) e in
          let q : prefix_of c second ≡ prefix_of c (second_of (need_at needs k)) = ap (λ (t : Term). prefix_of c t) f in
          let o = so_far.each c l in
          let g : suc k ≡ k + 1 = omega arith in
          subst (λ (z : ℕ). slice_index after c ≡ longest_to needs c z) g
          (x ∙ ap (λ z. max (max z (prefix_of c first)) (prefix_of c second)) o ∙ ap (λ z. max (max (longest_to needs c k) z) (prefix_of c second)) p ∙ ap (λ z. max (max (longest_to needs c k) (prefix_of c (first_of (need_at needs k)))) z) q);
      few = λ c l.
          let x = each c l in
          let o = so_far.few c l in
          let p : prefix_of c first ≤ most_bits = cond_few (eqb first.clock c) (length first.word.prefix) most_bits short in
          let q : prefix_of c second ≤ most_bits = cond_few (eqb second.clock c) (length second.word.prefix) most_bits short' in
          omega arith;
    }

pub period_none : (b : Bool) (roots tops : List ℕ) → IsPeriodTo b roots tops 0 1
period_none b roots tops = record { common = common_none b (λ c. slice_index tops (slice_index roots c)); few = omega arith }

-- a need that is read
pub longest_read : (needs : List Need) (clocks k : ℕ) (need : Need) (before between after : List ℕ) (first second : Term) (p q : ℕ) → AreLongest needs clocks k before → k < length needs → need ≡ get_or needs k need → first ≡ first_of need → second ≡ second_of need →
    p ≡ length first.word.prefix → q ≡ length second.word.prefix → between ≡ slice_set before first.clock (max (slice_index before first.clock) p) → after ≡ slice_set between second.clock (max (slice_index between second.clock) q) →
    p ≤ most_bits → q ≤ most_bits → AreLongest needs clocks (k + 1) after
longest_read needs clocks k need before between after first second p q so_far l is e f g h a b short short' =
    longest_more needs clocks k before between after first second so_far (at_first needs k need first l is e) (at_second needs k need second l is f)
    (a ∙ ap (λ z. slice_set before first.clock (max (slice_index before first.clock) z)) g) (b ∙ ap (λ z. slice_set between second.clock (max (slice_index between second.clock) z)) h)
    (omega arith) (omega arith)

pub ones_few : (v p t : ℕ) → v ≤ 2 ^ 32 → p ≤ most_period → v * (p / t) ≤ most_ones
ones_few v p t l m = let d = div-le_self p t in let x : v * (p / t) ≤ 4294967296 * 4194304 = mul-le v (p / t) 4294967296 4194304 (omega arith) (omega arith) in omega arith
