-- What the reader's pieces answer of the text of a form.
use Rattle.std.proofs.Common.{ℕ, suc, zero, ◌+◌, ◌*◌, ◌-◌, ◌<◌, ◌≤◌, ◌≡◌, Bool, true, false, cond, eqb, List, [], ◌∷◌, ◌++◌, length, take, drop, replicate, min, ap, sym, refl, ◌∙◌, subst, arith, append_assoc, length-append}
use Rattle.std.specs.List.{AllByRecursion, prefix_len}
use Rattle.std.specs.Char.{digit_value}
use Rattle.std.specs.Str.Parse.{IsNumeral, AllDigits, digits_value}
use Rattle.std.proofs.lemmas.List.{append-nil, take_at, drop_at, length-replicate}
use Rattle.std.proofs.lemmas.Int.Digits.{digits_value_push}
use Rattle.std.proofs.lemmas.Str.{digit_value_digit}
use Rattle.std.proofs.lemmas.Str.Parse.{digit_from_value}
use Rattle.std.proofs.lemmas.Bool.Decides.{nat_tests}
use Rattle.std.proofs.lemmas.List.Sums.{sum_by-cons, sum_by-append}
use Rattle.lucy_word.specs.Bits.{one_if, ones_in}
use Rattle.lucy_word.specs.Items.{WordItem, alone, counted, digit_of, items_text, item_bits, items_bits, repeats_of, IsItem, WordForm, form_text, IsForm}
use Rattle.lucy_word.specs.Cutting.{is_no_open, IsSplit, most_count, BeginsWithout, IsTimes, ones_of, AddsUp}

-- no item has a `(`
AreNoOpen : List ℕ → Type 0
AreNoOpen xs = AllByRecursion (λ c. is_no_open c ≡ true) xs

no_open-append : (a b : List ℕ) → AreNoOpen a → AreNoOpen b → AreNoOpen (a ++ b)
unfolding AreNoOpen
no_open-append [] b h k = k
no_open-append (c ∷ a) b h k = (h.0, no_open-append a b h.1 k)

digits_no_open : (ds : List ℕ) → AllDigits 10 ds → AreNoOpen ds
unfolding AreNoOpen
digits_no_open [] h = tt
digits_no_open (d ∷ ds) h =
    let r = digit_from_value d h.0 in
    let low : 48 ≤ d = r.0 in
    (high_no_open d low, digits_no_open ds h.1)
  where
    high_no_open : (c : ℕ) → 48 ≤ c → is_no_open c ≡ true
    high_no_open c g = grind (arith, nat_tests)

items_no_open : (is : List WordItem) → AllByRecursion IsItem is → AreNoOpen (items_text is)
unfolding AreNoOpen
items_no_open [] h = tt
items_no_open (alone true ∷ is) h = (refl, items_no_open is h.1)
items_no_open (alone false ∷ is) h = (refl, items_no_open is h.1)
items_no_open (counted true ds ∷ is) h = (refl, (refl, no_open-append (ds ++ 125 ∷ []) (items_text is) (no_open-append ds (125 ∷ []) (digits_no_open ds h.0.1) (refl, tt)) (items_no_open is h.1)))
items_no_open (counted false ds ∷ is) h = (refl, (refl, no_open-append (ds ++ 125 ∷ []) (items_text is) (no_open-append ds (125 ∷ []) (digits_no_open ds h.0.1) (refl, tt)) (items_no_open is h.1)))

open_len : (xs rest : List ℕ) → AreNoOpen xs → prefix_len is_no_open (xs ++ 40 ∷ rest) ≡ length xs
unfolding AreNoOpen
open_len [] rest h = refl
open_len (x ∷ xs) rest h = ap (λ t. cond t (1 + prefix_len is_no_open (xs ++ 40 ∷ rest)) 0) h.0 ∙ omega (arith, open_len xs rest h.1)

-- where the prefix ends, and the period
pub prefix_end : (text : List ℕ) (n : ℕ) (f : WordForm) → IsForm f → text ≡ form_text f → n ≡ prefix_len is_no_open text →
    n ≡ length (items_text f.prefix)
prefix_end text n f h e k = k ∙ ap (prefix_len is_no_open) e ∙ open_len (items_text f.prefix) (items_text f.period ++ 41 ∷ []) (items_no_open f.prefix h.prefix)

pub behind_prefix : (text : List ℕ) (n : ℕ) (f : WordForm) → IsForm f → text ≡ form_text f → n ≡ prefix_len is_no_open text →
    drop n text ≡ 40 ∷ (items_text f.period ++ 41 ∷ [])
behind_prefix text n f h e k = ap (drop n) e ∙ drop_at (items_text f.prefix) (40 ∷ (items_text f.period ++ 41 ∷ [])) n (sym (prefix_end text n f h e k))

pub is_split : (text a b : List ℕ) (n : ℕ) (f : WordForm) → IsForm f → text ≡ form_text f → n ≡ prefix_len is_no_open text → a ≡ take n text →
    b ≡ drop n text → IsSplit a (take (length b - 1 - 1) (drop 1 b)) f
is_split text a b n f h e k p q =
    let whole : b ≡ 40 ∷ (items_text f.period ++ 41 ∷ []) = q ∙ behind_prefix text n f h e k in
    let size : length b - 1 - 1 ≡ length (items_text f.period) = omega (arith, ap length whole, length-append (items_text f.period) (41 ∷ [])) in
    record {
      prefix_is = p ∙ ap (take n) e ∙ take_at (items_text f.prefix) (40 ∷ (items_text f.period ++ 41 ∷ [])) n (sym (prefix_end text n f h e k));
      period_is = ap (λ (u : List ℕ). take (length b - 1 - 1) (drop 1 u)) whole ∙ take_at (items_text f.period) (41 ∷ []) (length b - 1 - 1) (sym size);
    }

pub long_enough : (text b : List ℕ) (n : ℕ) (f : WordForm) → IsForm f → text ≡ form_text f → n ≡ prefix_len is_no_open text → b ≡ drop n text →
    length b < 2 → ⊥
long_enough text b n f h e k q less = omega (arith, ap length (q ∙ behind_prefix text n f h e k), length-append (items_text f.period) (41 ∷ []), less)

-- a count is read digit by digit
pub record Counting (text rest : List ℕ) (value : ℕ) (ds more : List ℕ) : Type 0 where
  pub done : List ℕ
  pub todo : List ℕ
  pub whole : ds ≡ done ++ todo
  pub left : rest ≡ todo ++ 125 ∷ more
  pub digits : AllDigits 10 todo
  pub value_is : value ≡ min (digits_value 10 done) most_count

pub counting_first : (text ds more : List ℕ) → IsNumeral 10 ds → text ≡ ds ++ 125 ∷ more → Counting text text 0 ds more
counting_first text ds more h e = record { done = []; todo = ds; whole = refl; left = e; digits = h.1; value_is = refl }

capped : (v n d : ℕ) → v ≡ min n most_count → min (v * 10 + d) most_count ≡ min (n * 10 + d) most_count
capped v n d e = omega (arith, e)

digit_less : (c : ℕ) → digit_value c < 10 → c - 48 ≡ digit_value c
digit_less c h =
    let r = digit_from_value c h in
    omega (arith, digit_value_digit c r)

pub counting_more : (text rest : List ℕ) (value : ℕ) (ds more : List ℕ) (c : ℕ) (behind : List ℕ) → Counting text rest value ds more →
    rest ≡ c ∷ behind → (c ≡ 125 → ⊥) → Counting text behind (min (value * 10 + (c - 48)) most_count) ds more
counting_more text rest value ds more c behind k e n = go k.todo refl
  where
    go : (t : List ℕ) → k.todo ≡ t → Counting text behind (min (value * 10 + (c - 48)) most_count) ds more
    go [] f =
        let same : c ∷ behind ≡ 125 ∷ more = sym e ∙ k.left ∙ ap (λ u. u ++ 125 ∷ more) f in
        let at : c ≡ 125 = cc in
        absurd (n at)
    go (d ∷ t) f =
        let same : c ∷ behind ≡ d ∷ (t ++ 125 ∷ more) = sym e ∙ k.left ∙ ap (λ u. u ++ 125 ∷ more) f in
        let at : c ≡ d = cc in
        let after : behind ≡ t ++ 125 ∷ more = cc in
        let all : AllDigits 10 (d ∷ t) = subst (AllDigits 10) f k.digits in
        let less : c - 48 ≡ digit_value d = ap (λ u. u - 48) at ∙ digit_less d all.0 in
        record {
          done = k.done ++ d ∷ [];
          todo = t;
          whole = k.whole ∙ ap (λ u. k.done ++ u) f ∙ sym (append_assoc k.done (d ∷ []) t);
          left = after;
          digits = all.1;
          value_is = capped value (digits_value 10 k.done) (c - 48) k.value_is ∙ ap (λ u. min (digits_value 10 k.done * 10 + u) most_count) less ∙ ap (λ u. min u most_count) (sym (digits_value_push 10 k.done d));
        }

brace_no_digit : (d : ℕ) → digit_value d < 10 → 125 ≡ d → ⊥
brace_no_digit d h e =
    let r = digit_from_value d h in
    let high : d ≤ 57 = r.1 in
    omega (arith, high, e)

pub counting_ends : (text rest : List ℕ) (value : ℕ) (ds more : List ℕ) (c : ℕ) (behind : List ℕ) → Counting text rest value ds more →
    rest ≡ c ∷ behind → c ≡ 125 → (value ≡ min (digits_value 10 ds) most_count) × (behind ≡ more)
counting_ends text rest value ds more c behind k e n = go k.todo refl
  where
    go : (t : List ℕ) → k.todo ≡ t → (value ≡ min (digits_value 10 ds) most_count) × (behind ≡ more)
    go [] f =
        let same : c ∷ behind ≡ 125 ∷ more = sym e ∙ k.left ∙ ap (λ u. u ++ 125 ∷ more) f in
        let after : behind ≡ more = cc in
        let all : ds ≡ k.done = k.whole ∙ ap (λ u. k.done ++ u) f ∙ append-nil k.done in
        (k.value_is ∙ ap (λ u. min (digits_value 10 u) most_count) (sym all), after)
    go (d ∷ t) f =
        let same : c ∷ behind ≡ d ∷ (t ++ 125 ∷ more) = sym e ∙ k.left ∙ ap (λ u. u ++ 125 ∷ more) f in
        let at : c ≡ d = cc in
        let all : AllDigits 10 (d ∷ t) = subst (AllDigits 10) f k.digits in
        absurd (brace_no_digit d all.0 (sym n ∙ at))

pub counting_left : (text rest : List ℕ) (value : ℕ) (ds more : List ℕ) → Counting text rest value ds more → length rest ≡ 0 → ⊥
counting_left text rest value ds more k e = omega (arith, e, ap length k.left, length-append k.todo (125 ∷ more))

-- one item is read
pub record TakesItem (c : ℕ) (js : List WordItem) (n : ℕ) (rest : List ℕ) : Type 0 where
  pub first : WordItem
  pub others : List WordItem
  pub whole : js ≡ first ∷ others
  pub are : AllByRecursion IsItem others
  pub left : rest ≡ items_text others
  pub many : n ≡ min (repeats_of first) most_count
  pub bits : item_bits first ≡ replicate (repeats_of first) (eqb c 49)

starts_digit : (is : List WordItem) → BeginsWithout 123 (items_text is)
starts_digit [] = tt
starts_digit (alone true ∷ is) = λ e. omega (arith, e)
starts_digit (alone false ∷ is) = λ e. omega (arith, e)
starts_digit (counted true ds ∷ is) = λ e. omega (arith, e)
starts_digit (counted false ds ∷ is) = λ e. omega (arith, e)

pub bit_again : (b : Bool) → eqb (digit_of b) 49 ≡ b
bit_again true = refl
bit_again false = refl

pub takes_item : (c : ℕ) (behind : List ℕ) (n : ℕ) (rest : List ℕ) (js : List WordItem) → AllByRecursion IsItem js →
    c ∷ behind ≡ items_text js → IsTimes behind n rest → TakesItem c js n rest
takes_item c behind n rest [] h e t = absurd cc
takes_item c behind n rest (alone b ∷ js) h e t =
    let same : c ∷ behind ≡ digit_of b ∷ items_text js = e in
    let at : c ≡ digit_of b = cc in
    let after : behind ≡ items_text js = cc in
    let r = t.alone (subst (BeginsWithout 123) (sym after) (starts_digit js)) in
    let bit : b ≡ eqb c 49 = sym (bit_again b) ∙ ap (λ u. eqb u 49) (sym at) in
    record { first = alone b; others = js; whole = refl; are = h.1; left = r.1 ∙ after; many = r.0; bits = ap (λ x. x ∷ []) bit }
takes_item c behind n rest (counted b ds ∷ js) h e t =
    let same : c ∷ behind ≡ digit_of b ∷ 123 ∷ ((ds ++ 125 ∷ []) ++ items_text js) = e in
    let at : c ≡ digit_of b = cc in
    let after : behind ≡ 123 ∷ ((ds ++ 125 ∷ []) ++ items_text js) = cc in
    let r = t.counted ds (items_text js) h.0 (after ∙ ap (λ u. 123 ∷ u) (append_assoc ds (125 ∷ []) (items_text js))) in
    let bit : b ≡ eqb c 49 = sym (bit_again b) ∙ ap (λ u. eqb u 49) (sym at) in
    record { first = counted b ds; others = js; whole = refl; are = h.1; left = r.1; many = r.0; bits = ap (λ x. replicate (digits_value 10 ds) x) bit }

-- the bits so far, and the items that are left
pub record Reading (items rest : List ℕ) (bits : List Bool) (is : List WordItem) : Type 0 where
  pub others : List WordItem
  pub are : AllByRecursion IsItem others
  pub left : rest ≡ items_text others
  pub whole : bits ++ items_bits others ≡ items_bits is

length_item : (i : WordItem) (b : Bool) → item_bits i ≡ replicate (repeats_of i) b → length (item_bits i) ≡ repeats_of i
length_item i b e = ap length e ∙ length-replicate (repeats_of i) b

pub reading_more : (items rest : List ℕ) (bits : List Bool) (is : List WordItem) (c : ℕ) (behind : List ℕ) (n : ℕ) (after : List ℕ) (new : List Bool) → Reading items rest bits is → rest ≡ c ∷ behind → IsTimes behind n after →
    length (items_bits is) < most_count → new ≡ bits ++ replicate n (eqb c 49) → Reading items after new is
reading_more items rest bits is c behind n after new k e t few made =
    let x = takes_item c behind n after k.others k.are (sym e ∙ k.left) t in
    let within : repeats_of x.first ≤ length (items_bits is) = omega (
      arith,
      length_item x.first (eqb c 49) x.bits,
      ap length (sym k.whole),
      length-append bits (items_bits k.others),
      ap (λ (u : List WordItem). length (items_bits u)) x.whole,
      length-append (item_bits x.first) (items_bits x.others),
    ) in
    let count : n ≡ repeats_of x.first = omega (arith, x.many, within, few) in
    record {
      others = x.others;
      are = x.are;
      left = x.left;
      whole = ap (λ u. u ++ items_bits x.others) (made ∙ ap (λ m. bits ++ replicate m (eqb c 49)) count ∙ ap (λ u. bits ++ u) (sym x.bits)) ∙ append_assoc bits (item_bits x.first) (items_bits x.others)
          ∙ ap (λ (u : List WordItem). bits ++ items_bits u) (sym x.whole) ∙ k.whole;
    }

-- there is room for the bits of the next item
pub reading_room : (items rest : List ℕ) (bits : List Bool) (is : List WordItem) (c : ℕ) (behind : List ℕ) (n : ℕ) (after : List ℕ) → Reading items rest bits is → rest ≡ c ∷ behind → IsTimes behind n after →
    length (items_bits is) < most_count → length bits + n < most_count
reading_room items rest bits is c behind n after k e t few =
    let x = takes_item c behind n after k.others k.are (sym e ∙ k.left) t in
    omega (
      arith,
      x.many,
      few,
      length_item x.first (eqb c 49) x.bits,
      ap length (sym k.whole),
      length-append bits (items_bits k.others),
      ap (λ (u : List WordItem). length (items_bits u)) x.whole,
      length-append (item_bits x.first) (items_bits x.others),
    )

pub reading_ends : (items rest : List ℕ) (bits : List Bool) (is : List WordItem) → Reading items rest bits is → length rest ≡ 0 →
    bits ≡ items_bits is
reading_ends items rest bits is k none = go k.others refl
  where
    go : (js : List WordItem) → k.others ≡ js → bits ≡ items_bits is
    go [] f = sym (append-nil bits) ∙ ap (λ (u : List WordItem). bits ++ items_bits u) (sym f) ∙ k.whole
    go (alone b ∷ js) f = absurd (omega (arith, none, ap length (k.left ∙ ap items_text f)))
    go (counted b ds ∷ js) f = absurd (omega (arith, none, ap length (k.left ∙ ap items_text f)))

-- how many bits there are so far, how many of them are ones, and the items that are left
pub record Summing (items rest : List ℕ) (bits ones : ℕ) (is : List WordItem) : Type 0 where
  pub others : List WordItem
  pub are : AllByRecursion IsItem others
  pub left : rest ≡ items_text others
  pub bits_are : bits + length (items_bits others) ≡ length (items_bits is)
  pub ones_are : ones + ones_in (items_bits others) ≡ ones_in (items_bits is)

ones_run : (n : ℕ) (b : Bool) → ones_in (replicate n b) ≡ cond b n 0
ones_run zero true = refl
ones_run zero false = refl
ones_run (suc n) true = sum_by-cons one_if true (replicate n true) ∙ omega (arith, ones_run n true)
ones_run (suc n) false = sum_by-cons one_if false (replicate n false) ∙ omega (arith, ones_run n false)

-- the bits of the next item, and those behind it
record Next (c : ℕ) (behind : List ℕ) (n : ℕ) (after : List ℕ) (js : List WordItem) : Type 0 where
  item : TakesItem c js n after
  bits : length (items_bits js) ≡ repeats_of item.first + length (items_bits item.others)
  ones : ones_in (items_bits js) ≡ ones_of c (repeats_of item.first) + ones_in (items_bits item.others)

next : (c : ℕ) (behind : List ℕ) (n : ℕ) (after : List ℕ) (js : List WordItem) → AllByRecursion IsItem js → c ∷ behind ≡ items_text js →
    IsTimes behind n after → Next c behind n after js
next c behind n after js h e t =
    let x = takes_item c behind n after js h e t in
    let whole : items_bits js ≡ replicate (repeats_of x.first) (eqb c 49) ++ items_bits x.others =
    ap items_bits x.whole ∙ ap (λ u. u ++ items_bits x.others) x.bits in
    record {
      item = x;
      bits = omega (arith, ap length whole, length-append (replicate (repeats_of x.first) (eqb c 49)) (items_bits x.others), length-replicate (repeats_of x.first) (eqb c 49));
      ones = ap ones_in whole ∙ sum_by-append one_if (replicate (repeats_of x.first) (eqb c 49)) (items_bits x.others)
          ∙ ap (λ m. m + ones_in (items_bits x.others)) (ones_run (repeats_of x.first) (eqb c 49));
    }

-- the next item adds up
pub adds_item : (text : List ℕ) (c : ℕ) (behind : List ℕ) (n ones : ℕ) (after : List ℕ) → text ≡ c ∷ behind → IsTimes behind n after → ones ≡ ones_of c n → AddsUp text n ones after
adds_item text c behind n ones after f t o js h e =
    let x = next c behind n after js h (sym f ∙ e) t in
    let count : n < most_count → n ≡ repeats_of x.item.first = λ less. omega (arith, x.item.many, less) in
    record {
      others = x.item.others;
      are = x.item.are;
      left = x.item.left;
      least = omega (arith, x.item.many, x.bits);
      bits_are = λ less. omega (arith, count less, x.bits);
      ones_are = λ less. omega (arith, o, ap (ones_of c) (count less), x.ones);
    }

pub ones_within : (c n : ℕ) → ones_of c n ≤ n
ones_within c n = go (eqb c 49)
  where
    go : (t : Bool) → cond t n 0 ≤ n
    go true = omega arith
    go false = omega arith

pub summing_more : (items rest : List ℕ) (bits ones : ℕ) (is : List WordItem) (n m : ℕ) (after : List ℕ) → Summing items rest bits ones is → AddsUp rest n m after →
    n < most_count → Summing items after (bits + n) (ones + m) is
summing_more items rest bits ones is n m after k adds less =
    let x = adds k.others k.are k.left in
    record {
      others = x.others;
      are = x.are;
      left = x.left;
      bits_are = omega (arith, x.bits_are less, k.bits_are);
      ones_are = omega (arith, x.ones_are less, k.ones_are);
    }

pub summing_long : (items rest : List ℕ) (bits ones : ℕ) (is : List WordItem) (n m : ℕ) (after : List ℕ) (most : ℕ) → Summing items rest bits ones is → AddsUp rest n m after →
    bits ≤ most → most - bits < n → most < length (items_bits is)
summing_long items rest bits ones is n m after most k adds short more =
    let x = adds k.others k.are k.left in
    omega (arith, x.least, short, more, k.bits_are)

pub summing_ends : (items rest : List ℕ) (bits ones : ℕ) (is : List WordItem) → Summing items rest bits ones is → length rest ≡ 0 →
    (bits ≡ length (items_bits is)) × (ones ≡ ones_in (items_bits is))
summing_ends items rest bits ones is k none = go k.others refl
  where
    go : (js : List WordItem) → k.others ≡ js → (bits ≡ length (items_bits is)) × (ones ≡ ones_in (items_bits is))
    go [] f = (
      omega (arith, k.bits_are, ap (λ (u : List WordItem). length (items_bits u)) f),
      omega (arith, k.ones_are, ap (λ (u : List WordItem). ones_in (items_bits u)) f),
    )
    go (alone b ∷ js) f = absurd (omega (arith, none, ap length (k.left ∙ ap items_text f)))
    go (counted b ds ∷ js) f = absurd (omega (arith, none, ap length (k.left ∙ ap items_text f)))
