-- Digits that stand alone, gathered into a limb, are items.
use Rattle.std.proofs.Common.{ℕ, zero, suc, ◌+◌, ◌-◌, ◌*◌, ◌/◌, ◌%◌, ◌^◌, ◌<◌, ◌≤◌, ◌≡◌, max, Bool, true, false, cond, eqb, ◌||◌, List, [], ◌∷◌, ◌++◌, length, map, take, drop, get_or, ap, sym, refl, ◌∙◌, subst, inl, inr, arith, append_assoc, length-append, length-take, length-drop}
use Rattle.std.specs.List.{AllByRecursion}
use Rattle.std.specs.Int.RustNames.{count_ones, bit_or}
use Rattle.std.proofs.Math.Nat.{mod-eq_of_lt}
use Rattle.std.proofs.lemmas.Bool.{cases_lt}
use Rattle.std.proofs.lemmas.Bool.Decides.{eqb_tells}
use Rattle.std.proofs.lemmas.List.{ext_get_or, length-map, get_or-map, get_or-take, get_or-drop, take-append-drop}
use Rattle.std.proofs.lemmas.List.Sums.{sum_by-append, count_by-le-length}
use Rattle.std.proofs.lemmas.Nat.{mod_below, pow_pos}
use Rattle.std.proofs.lemmas.Nat.Bits.{bit_at-lt, bit_at_or, bit_at_mask_inside}
use Rattle.std.proofs.lemmas.Simd.{bit_mask_l}
use Rattle.std.specs.Simd.Lanes.{mask_l}
use Rattle.lucy_word.specs.Bits.{one_if, ones_in}
use Rattle.lucy_word.specs.Items.{WordItem, alone, counted, digit_of, items_text, items_bits, IsItem}
use Rattle.lucy_word.specs.Spelling.{is_digit}
use Rattle.lucy_word.specs.Packing.{is_set, limb_bits}
use Rattle.lucy_word.specs.Cutting.{AreDigits, AreAlone, AddsUp}
use Rattle.lucy_word.proofs.LimbLaws.{length-limb_bits, get_or-limb_bits, is_set-cut, limb_more, ones_in-limb_bits, set_true}
use Rattle.lucy_word.proofs.CuttingLaws.{bit_again, Reading}

-- a digit is that of a bit
pub digit_again : (c : ℕ) → is_digit c ≡ true → c ≡ digit_of (eqb c 49)
digit_again c h =
    elim (eqb_tells c 49) [
      | inl one ↦ one.1 ∙ sym (ap digit_of one.0)
      | inr other ↦
          elim (eqb_tells c 48) [
            | inl nought ↦ nought.1 ∙ sym (ap digit_of other.0)
            | inr none ↦ (let wrong : false ≡ true = sym (ap (λ t. t || eqb c 49) none.0 ∙ ap (λ t. false || t) other.0) ∙ h in absurd cc)
          ]
    ]

digit_bit : (b : Bool) (c x : ℕ) → c ≡ digit_of b → x ≡ c - 48 → (x < 2) × (is_set x 0 ≡ b)
digit_bit true c x e is = let one : x ≡ 1 = is ∙ ap (λ n. n - 48) e in (omega arith, ap (λ n. is_set n 0) one)
digit_bit false c x e is = let none : x ≡ 0 = is ∙ ap (λ n. n - 48) e in (omega arith, ap (λ n. is_set n 0) none)

not_brace : (b : Bool) (c : ℕ) → c ≡ digit_of b → c ≡ 123 → ⊥
not_brace true c e is = omega (arith, e, is)
not_brace false c e is = omega (arith, e, is)

pub digits_first : (text : List ℕ) → AreDigits text 0 0
digits_first text = record { within = omega arith; below = pow_pos 0; digits = λ k h. absurd (omega (arith, h)) }

-- the bit of the digit at a place
bit_of : List ℕ → ℕ → Bool
bit_of text k = eqb (get_or text k 0) 49

known : (text : List ℕ) (n limb : ℕ) → AreDigits text n limb → (k : ℕ) → k < n → is_set limb k ≡ bit_of text k
unfolding bit_of
known text n limb are k h = sym (ap (λ u. eqb u 49) (are.digits k h) ∙ bit_again (is_set limb k))

each_digit : (text : List ℕ) (n limb : ℕ) → AreDigits text n limb → is_digit (get_or text n 0) ≡ true → (k : ℕ) → k < n + 1 → get_or text k 0 ≡ digit_of (bit_of text k)
unfolding bit_of
each_digit text n limb are good k h =
    elim (cases_lt k n) [
      | inl before ↦ are.digits k before ∙ ap digit_of (known text n limb are k before)
      | inr past ↦
          (let same : n ≡ k = omega (arith, h, past) in
          subst (λ (j : ℕ). get_or text j 0 ≡ digit_of (eqb (get_or text j 0) 49)) same (digit_again (get_or text n 0) good))
    ]

-- one digit more
pub digits_more : (text : List ℕ) (n limb x : ℕ) → AreDigits text n limb → n < 64 → n < length text → is_digit (get_or text n 0) ≡ true → x ≡ get_or text n 0 - 48 →
    AreDigits text (n + 1) (bit_or limb (x * 2 ^ n % 2 ^ 64))
unfolding bit_of
digits_more text n limb x are few here good is =
    let last = digit_bit (bit_of text n) (get_or text n 0) x (digit_again (get_or text n 0) good) is in
    let more = limb_more (bit_of text) limb n x few last.0 are.below last.1 (known text n limb are) in
    record {
      within = omega (arith, here);
      below = more.0;
      digits = λ k h. each_digit text n limb are good k h ∙ ap digit_of (sym (more.1 k h));
    }

-- as many as a limb has bits, told at once
two_bits : (d e : ℕ) → d < 2 → e < 2 → eqb (max d e) 1 ≡ (eqb d 1 || eqb e 1)
two_bits zero zero h k = refl
two_bits zero (suc zero) h k = refl
two_bits zero (suc (suc e)) h k = absurd (omega (arith, k))
two_bits (suc zero) zero h k = refl
two_bits (suc zero) (suc zero) h k = refl
two_bits (suc zero) (suc (suc e)) h k = absurd (omega (arith, k))
two_bits (suc (suc d)) e h k = absurd (omega (arith, h))

set_or : (a b i : ℕ) → is_set (bit_or a b) i ≡ (is_set a i || is_set b i)
set_or a b i = ap (λ n. eqb n 1) (bit_at_or a b i) ∙ two_bits (a / 2 ^ i % 2) (b / 2 ^ i % 2) (bit_at-lt a i) (bit_at-lt b i)

pub set_mask : (bs : List Bool) (i : ℕ) → is_set (mask_l bs) i ≡ get_or bs i false
set_mask bs i = ap (λ n. eqb n 1) (bit_mask_l bs i) ∙ back (get_or bs i false)
  where
    back : (b : Bool) → eqb (cond b 1 0) 1 ≡ b
    back true = refl
    back false = refl

all_set : (i : ℕ) → i < 64 → is_set 18446744073709551615 i ≡ true
all_set i h =
    let one : 18446744073709551615 / 2 ^ i % 2 ≡ 1 = bit_at_mask_inside 0 64 i (omega arith) (omega arith) in
    set_true 18446744073709551615 i one

pub whole_digits : (text : List ℕ) (at noughts ones : ℕ) → 64 ≤ length text - at → ones < 2 ^ 64 →
    ((i : ℕ) → i < 64 → is_set noughts i ≡ eqb (get_or (take 64 (drop at text)) i 0) 48) →
    ((i : ℕ) → i < 64 → is_set ones i ≡ eqb (get_or (take 64 (drop at text)) i 0) 49) →
    bit_or noughts ones ≡ 18446744073709551615 → AreDigits (drop at text) 64 ones
whole_digits text at noughts ones within below nought one all = record {
  within = omega (arith, within, length-drop at text);
  below = below;
  digits = λ k h.
      let c : ℕ = get_or (take 64 (drop at text)) k 0 in
      let place : c ≡ get_or (drop at text) k 0 = get_or-take 64 (drop at text) k 0 h in
      let good : is_digit c ≡ true =
      sym (set_or noughts ones k ∙ ap (λ t. t || is_set ones k) (nought k h) ∙ ap (λ t. eqb c 48 || t) (one k h)) ∙ ap (λ z. is_set z k) all ∙ all_set k h in
      sym place ∙ digit_again c good ∙ ap digit_of (sym (one k h));
}

-- none
pub none_alone : (text : List ℕ) → AreAlone text 0 0
none_alone text = record { are = digits_first text; last = λ some e. absurd (omega (arith, some)) }

-- all but the last
pub but_one : (text : List ℕ) (m limb n x : ℕ) → AreDigits text m limb → n ≡ m - 1 → x ≡ limb % 2 ^ n → AreAlone text n x
but_one text m limb n x are less is = record {
  are = record {
    within = omega (arith, are.within, less);
    below = omega (arith, is, mod_below limb (2 ^ n) (pow_pos n));
    digits = λ k h. are.digits k (omega (arith, less, h)) ∙ ap digit_of (sym (ap (λ z. is_set z k) is ∙ is_set-cut limb n k h));
  };
  last = λ some e. not_brace (is_set limb n) (get_or text n 0) (are.digits n (omega (arith, less, some))) e;
}

-- digits as they stand in a text, and what follows them
digits_front : (text : List ℕ) (n limb : ℕ) → AreDigits text n limb → take n text ≡ map digit_of (limb_bits n limb)
digits_front text n limb are =
    let size : length (take n text) ≡ n = omega (arith, length-take n text, are.within) in
    let many : length (map digit_of (limb_bits n limb)) ≡ n = length-map (limb_bits n limb) digit_of ∙ length-limb_bits n limb in
    ext_get_or 0 _ _ (size ∙ sym many) (λ k h.
    let here : k < n = omega (arith, h, size) in
    get_or-take n text k 0 here ∙ are.digits k here ∙ ap digit_of (sym (get_or-limb_bits n limb k here))
    ∙ sym (get_or-map digit_of (limb_bits n limb) k false 0 (omega (arith, here, length-limb_bits n limb))))

-- they are the first items
record TakesAlone (bs : List Bool) (js : List WordItem) (rest : List ℕ) : Type 0 where
  others : List WordItem
  are : AllByRecursion IsItem others
  left : rest ≡ items_text others
  bits_are : items_bits js ≡ bs ++ items_bits others

no_count : (bs : List Bool) (rest more : List ℕ) → (get_or rest 0 0 ≡ 123 → ⊥) → 123 ∷ more ≡ map digit_of bs ++ rest → ⊥
no_count [] rest more h e = h (sym (ap (λ l. get_or l 0 0) e))
no_count (true ∷ bs) rest more h e = omega (arith, ap (λ l. get_or l 0 0) e)
no_count (false ∷ bs) rest more h e = omega (arith, ap (λ l. get_or l 0 0) e)

takes_alone : (bs : List Bool) (js : List WordItem) (rest : List ℕ) → AllByRecursion IsItem js → items_text js ≡ map digit_of bs ++ rest → (get_or rest 0 0 ≡ 123 → ⊥) → TakesAlone bs js rest
takes_alone [] js rest h e last = record { others = js; are = h; left = sym e; bits_are = refl }
takes_alone (b ∷ bs) [] rest h e last = absurd (let wrong : [] ≡ digit_of b ∷ (map digit_of bs ++ rest) = e in cc)
takes_alone (b ∷ bs) (alone d ∷ js) rest h e last =
    let same : digit_of d ∷ items_text js ≡ digit_of b ∷ (map digit_of bs ++ rest) = e in
    let at : digit_of d ≡ digit_of b = cc in
    let after : items_text js ≡ map digit_of bs ++ rest = cc in
    let bit : d ≡ b = sym (bit_again d) ∙ ap (λ u. eqb u 49) at ∙ bit_again b in
    let x = takes_alone bs js rest h.1 after last in
    record { others = x.others; are = x.are; left = x.left; bits_are = ap (λ u. u ∷ items_bits js) bit ∙ ap (λ u. b ∷ u) x.bits_are }
takes_alone (b ∷ bs) (counted d ds ∷ js) rest h e last =
    let same : digit_of d ∷ 123 ∷ ((ds ++ 125 ∷ []) ++ items_text js) ≡ digit_of b ∷ (map digit_of bs ++ rest) = e in
    let after : 123 ∷ ((ds ++ 125 ∷ []) ++ items_text js) ≡ map digit_of bs ++ rest = cc in
    absurd (no_count bs rest ((ds ++ 125 ∷ []) ++ items_text js) last after)

taken : (text : List ℕ) (n limb : ℕ) (js : List WordItem) → AreAlone text n limb → 0 < n → AllByRecursion IsItem js → text ≡ items_text js →
    TakesAlone (limb_bits n limb) js (drop n text)
taken text n limb js are some h e =
    let front : items_text js ≡ map digit_of (limb_bits n limb) ++ drop n text =
    sym e ∙ sym (take-append-drop n text) ∙ ap (λ l. l ++ drop n text) (digits_front text n limb are.are) in
    let place : get_or (drop n text) 0 0 ≡ get_or text n 0 = get_or-drop n text 0 0 ∙ ap (λ k. get_or text k 0) (let same : n + 0 ≡ n = omega arith in same) in
    takes_alone (limb_bits n limb) js (drop n text) h front (λ f. are.last some (sym place ∙ f))

-- their ones
ones_are : (n limb : ℕ) → limb < 2 ^ n → ones_in (limb_bits n limb) ≡ count_ones limb
ones_are n limb low = ones_in-limb_bits n limb ∙ ap count_ones (mod-eq_of_lt low)

pub ones_few : (text : List ℕ) (n limb : ℕ) → AreAlone text n limb → count_ones limb ≤ n
ones_few text n limb are = omega (arith, ones_are n limb are.are.below, count_by-le-length (λ bit. bit) (limb_bits n limb), length-limb_bits n limb)

-- they add up
pub adds_digits : (text : List ℕ) (n limb ones : ℕ) (after : List ℕ) → AreAlone text n limb → 0 < n → ones ≡ count_ones limb → after ≡ drop n text → AddsUp text n ones after
adds_digits text n limb ones after are some o d js h e =
    let x = taken text n limb js are some h e in
    let size : length (items_bits js) ≡ n + length (items_bits x.others) = omega (arith, ap length x.bits_are, length-append (limb_bits n limb) (items_bits x.others), length-limb_bits n limb) in
    let many : ones_in (items_bits js) ≡ ones_in (limb_bits n limb) + ones_in (items_bits x.others) = ap ones_in x.bits_are ∙ sum_by-append one_if (limb_bits n limb) (items_bits x.others) in
    record {
      others = x.others;
      are = x.are;
      left = d ∙ x.left;
      least = omega (arith, size);
      bits_are = λ less. size;
      ones_are = λ less. omega (arith, many, ones_are n limb are.are.below, o);
    }

-- they are read
pub reading_digits : (items rest : List ℕ) (bits : List Bool) (is : List WordItem) (n limb : ℕ) (after : List ℕ) (new : List Bool) → Reading items rest bits is →
    AreAlone rest n limb → 0 < n → after ≡ drop n rest → new ≡ bits ++ limb_bits n limb → Reading items after new is
reading_digits items rest bits is n limb after new k are some d made =
    let x = taken rest n limb k.others are some k.are k.left in
    record {
      others = x.others;
      are = x.are;
      left = d ∙ x.left;
      whole = ap (λ u. u ++ items_bits x.others) made ∙ append_assoc bits (limb_bits n limb) (items_bits x.others) ∙ ap (λ u. bits ++ u) (sym x.bits_are) ∙ k.whole;
    }
