-- A word is spelled by the greatest runs of its bits, and is read again from them.
use Rattle.std.proofs.Common.{ℕ, suc, zero, ◌+◌, ◌^◌, ◌<◌, ◌≤◌, ◌≡◌, get_or, drop, drop-cons, not, Bool, true, false, cond, List, [], ◌∷◌, ◌++◌, length, map, replicate, nat_le, ap, sym, refl, ◌∙◌, subst, arith, append_assoc}
use Rattle.std.specs.List.{AllByRecursion}
use Rattle.std.specs.Fmt.{decimal}
use Rattle.std.specs.Str.Parse.{digits_value}
use Rattle.std.proofs.lemmas.List.{append-nil, replicate-append-replicate}
use Rattle.std.proofs.lemmas.Fmt.{decimal_is_IsNumeral}
use Rattle.lucy_word.specs.Bits.{Bits}
use Rattle.lucy_word.specs.Items.{WordItem, alone, counted, digit_of, items_text, items_bits, IsItem, HasCount}
use Rattle.lucy_word.specs.Spelling.{same_bit, run_text, runs_text, spelled, text_of, Spells}
use Rattle.lucy_word.proofs.Lists.{all_join}

-- items that spell a text and stand for bits
pub record AreRuns (text : List ℕ) (bits : List Bool) : Type 0 where
  pub items : List WordItem
  pub are : AllByRecursion IsItem items
  pub some : AllByRecursion HasCount items
  pub text_is : items_text items ≡ text
  pub bits_are : items_bits items ≡ bits

-- the text of two lists of items
pub text-append : (is js : List WordItem) → items_text (is ++ js) ≡ items_text is ++ items_text js
text-append [] js = refl
text-append (alone b ∷ is) js = ap (λ u. digit_of b ∷ u) (text-append is js)
text-append (counted b ds ∷ is) js = ap (λ u. digit_of b ∷ 123 ∷ ((ds ++ 125 ∷ []) ++ u)) (text-append is js) ∙ ap (λ u. digit_of b ∷ 123 ∷ u) (sym (append_assoc (ds ++ 125 ∷ []) (items_text is) (items_text js)))

bits-append : (is js : List WordItem) → items_bits (is ++ js) ≡ items_bits is ++ items_bits js
bits-append [] js = refl
bits-append (alone b ∷ is) js = ap (λ u. b ∷ u) (bits-append is js)
bits-append (counted b ds ∷ is) js = ap (λ u. replicate (digits_value 10 ds) b ++ u) (bits-append is js) ∙ sym (append_assoc (replicate (digits_value 10 ds) b) (items_bits is) (items_bits js))

runs_and : (a b : List ℕ) (x y : List Bool) → AreRuns a x → AreRuns b y → AreRuns (a ++ b) (x ++ y)
runs_and a b x y r s = record {
  items = r.items ++ s.items;
  are = all_join IsItem r.items s.items r.are s.are;
  some = all_join HasCount r.items s.items r.some s.some;
  text_is = text-append r.items s.items ∙ ap (λ u. u ++ items_text s.items) r.text_is ∙ ap (λ u. a ++ u) s.text_is;
  bits_are = bits-append r.items s.items ∙ ap (λ u. u ++ items_bits s.items) r.bits_are ∙ ap (λ u. x ++ u) s.bits_are;
}

-- digits, each alone
alone_run : (bit : Bool) (n : ℕ) → AreRuns (replicate n (digit_of bit)) (replicate n bit)
alone_run bit zero = record { items = []; are = tt; some = tt; text_is = refl; bits_are = refl }
alone_run bit (suc n) =
    let r = alone_run bit n in
    record { items = alone bit ∷ r.items; are = (tt, r.are); some = (omega arith, r.some); text_is = ap (λ u. digit_of bit ∷ u) r.text_is; bits_are = ap (λ u. bit ∷ u) r.bits_are }

counted_run : (bit : Bool) (n : ℕ) → 0 < n → n < 2 ^ 64 → AreRuns (digit_of bit ∷ 123 ∷ (decimal n ++ 125 ∷ [])) (replicate n bit)
counted_run bit n some h =
    let d = decimal_is_IsNumeral n h in
    record {
      items = counted bit (decimal n) ∷ [];
      are = (d.0, tt);
      some = (omega (arith, d.1, some), tt);
      text_is = append-nil (digit_of bit ∷ 123 ∷ (decimal n ++ 125 ∷ []));
      bits_are = append-nil (replicate (digits_value 10 (decimal n)) bit) ∙ ap (λ k. replicate k bit) d.1;
    }

pub one_run : (bit : Bool) (n : ℕ) → 0 < n → n < 2 ^ 64 → AreRuns (run_text bit n) (replicate n bit)
one_run bit n some h = go (nat_le n 4)
  where
    go : (t : Bool) → AreRuns (cond t (replicate n (digit_of bit)) (digit_of bit ∷ 123 ∷ (decimal n ++ 125 ∷ []))) (replicate n bit)
    go true = alone_run bit n
    go false = counted_run bit n some h

pub bits_same : (a b : Bool) → same_bit a b ≡ true → a ≡ b
bits_same true true e = refl
bits_same true false e = absurd cc
bits_same false true e = absurd cc
bits_same false false e = refl

one_longer : (bit : Bool) (n : ℕ) (bits : List Bool) → replicate (n + 1) bit ++ bits ≡ replicate n bit ++ bit ∷ bits
one_longer bit n bits = ap (λ u. u ++ bits) (sym (replicate-append-replicate n 1 bit)) ∙ append_assoc (replicate n bit) (bit ∷ []) bits

all_runs : (bit : Bool) (n : ℕ) (bits : List Bool) → 0 < n → n + length bits < 2 ^ 64 →
    AreRuns (runs_text bit n bits) (replicate n bit ++ bits)
all_runs bit n [] some h = subst (AreRuns (run_text bit n)) (sym (append-nil (replicate n bit))) (one_run bit n some (omega (arith, h)))
all_runs bit n (b ∷ bits) some h = go (same_bit bit b) refl (all_runs bit (n + 1) bits (omega arith) (omega (arith, h))) (all_runs b 1 bits (omega arith) (omega (arith, h, some)))
  where
    go : (t : Bool) → same_bit bit b ≡ t → AreRuns (runs_text bit (n + 1) bits) (replicate (n + 1) bit ++ bits) →
        AreRuns (runs_text b 1 bits) (replicate 1 b ++ bits) →
        AreRuns (cond t (runs_text bit (n + 1) bits) (run_text bit n ++ runs_text b 1 bits)) (replicate n bit ++ b ∷ bits)
    go true e same other = subst (AreRuns (runs_text bit (n + 1) bits)) (one_longer bit n bits ∙ ap (λ x. replicate n bit ++ x ∷ bits) (bits_same bit b e)) same
    go false e same other = runs_and (run_text bit n) (runs_text b 1 bits) (replicate n bit) (b ∷ bits) (one_run bit n some (omega (arith, h))) other

pub spelled_runs : (bits : List Bool) → length bits < 2 ^ 64 → AreRuns (spelled bits) bits
spelled_runs [] h = record { items = []; are = tt; some = tt; text_is = refl; bits_are = refl }
spelled_runs (b ∷ bits) h = all_runs b 1 bits (omega arith) (omega (arith, h))

some_items : (is : List WordItem) → 0 < length (items_bits is) → 0 < length is
some_items [] h = h
some_items (i ∷ is) h = omega arith

-- the digits of bits, each alone
all_alone : (bits : List Bool) → AreRuns (map digit_of bits) bits
all_alone [] = record { items = []; are = tt; some = tt; text_is = refl; bits_are = refl }
all_alone (b ∷ bits) =
    let r = all_alone bits in
    record { items = alone b ∷ r.items; are = (tt, r.are); some = (omega arith, r.some); text_is = ap (λ u. digit_of b ∷ u) r.text_is; bits_are = ap (λ u. b ∷ u) r.bits_are }

-- texts of prefix and period spell the word
both_spell : (w : Bits) (a b : List ℕ) → AreRuns a w.prefix → AreRuns b w.period → 0 < length w.period → Spells (a ++ 40 ∷ (b ++ 41 ∷ [])) w
both_spell w a b r s some = record {
  form = record { prefix = r.items; period = s.items };
  is_form = record { prefix = r.are; period = s.are; nonempty = some_items s.items (omega (arith, ap length s.bits_are, some)) };
  counts = record { prefix = r.some; period = s.some };
  shape = ap (λ u. u ++ 40 ∷ (b ++ 41 ∷ [])) (sym r.text_is) ∙ ap (λ u. items_text r.items ++ 40 ∷ (u ++ 41 ∷ [])) (sym s.text_is);
  bits = ap (λ (u : List Bool). let x : Bits = record { prefix = u; period = w.period } in x) (sym r.bits_are)
      ∙ ap (λ (u : List Bool). let x : Bits = record { prefix = items_bits r.items; period = u } in x) (sym s.bits_are);
}

-- a word is spelled by its digits alone
pub digits_spell : (w : Bits) → 0 < length w.period → Spells (map digit_of w.prefix ++ 40 ∷ (map digit_of w.period ++ 41 ∷ [])) w
digits_spell w some = both_spell w (map digit_of w.prefix) (map digit_of w.period) (all_alone w.prefix) (all_alone w.period) some

-- and by its text
pub text_spells : (w : Bits) → length w.prefix < 2 ^ 64 → length w.period < 2 ^ 64 → 0 < length w.period → Spells (text_of w) w
text_spells w h k some = both_spell w (spelled w.prefix) (spelled w.period) (spelled_runs w.prefix h) (spelled_runs w.period k) some

-- bits of a run are counted in it
pub run_counted : (bit : Bool) (n m : ℕ) (bits : List Bool) (at : ℕ) → at + m ≤ length bits → ((k : ℕ) → k < m → get_or bits (at + k) false ≡ bit) →
    runs_text bit n (drop at bits) ≡ runs_text bit (n + m) (drop (at + m) bits)
run_counted bit n zero bits at within same =
    ap (λ k. runs_text bit k (drop at bits)) (let e : n ≡ n + 0 = omega arith in e) ∙ ap (λ k. runs_text bit (n + 0) (drop k bits)) (let e : at ≡ at + 0 = omega arith in e)
run_counted bit n (suc m) bits at within same =
    let here : drop at bits ≡ get_or bits at false ∷ drop (suc at) bits = drop-cons bits at false (omega arith) in
    let first : get_or bits at false ≡ bit = ap (λ k. get_or bits k false) (let e : at ≡ at + 0 = omega arith in e) ∙ same 0 (omega arith) in
    let next : suc at ≡ at + 1 = omega arith in
    ap (runs_text bit n) (here ∙ ap (λ b. b ∷ drop (suc at) bits) first ∙ ap (λ k. bit ∷ drop k bits) next) ∙ run_on bit n (drop (at + 1) bits)
    ∙ run_counted bit (n + 1) m bits (at + 1) (omega arith) (λ k h. ap (λ j. get_or bits j false) (let e : at + 1 + k ≡ at + (k + 1) = omega arith in e) ∙ same (k + 1) (omega arith))
    ∙ ap (λ k. runs_text bit k (drop (at + 1 + m) bits)) (let e : n + 1 + m ≡ n + suc m = omega arith in e)
    ∙ ap (λ k. runs_text bit (n + suc m) (drop k bits)) (let e : at + 1 + m ≡ at + suc m = omega arith in e)
  where
    run_on : (bit : Bool) (n : ℕ) (bits : List Bool) → runs_text bit n (bit ∷ bits) ≡ runs_text bit (n + 1) bits
    run_on true n bits = refl
    run_on false n bits = refl

-- the first bit begins the first run
pub run_first : (bits : List Bool) → 0 < length bits → runs_text (get_or bits 0 false) 1 (drop 1 bits) ≡ spelled bits
run_first [] some = absurd (omega arith)
run_first (b ∷ bits) some = refl

-- a bit that is not among the others
pub not_other : (bit b x : Bool) → x ≡ cond bit (not b) b → x ≡ false → b ≡ bit
not_other true true x e h = refl
not_other true false x e h = cc
not_other false true x e h = cc
not_other false false x e h = refl

pub other_bit : (bit b x : Bool) → x ≡ cond bit (not b) b → x ≡ true → b ≡ not bit
other_bit true true x e h = cc
other_bit true false x e h = refl
other_bit false true x e h = refl
other_bit false false x e h = cc
