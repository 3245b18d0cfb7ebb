-- Laws of the lines of instants.
use Rattle.std.proofs.Common.{ℕ, suc, zero, ◌+◌, ◌-◌, ◌<◌, ◌≤◌, ◌≡◌, ℤ, Bool, true, false, List, [], ◌∷◌, ◌++◌, length, take, drop, get_or, Option, Some, None, refl, ap, sym, ◌∙◌, subst, arith, append_assoc, append-nil, if◌then◌else◌}
use Rattle.std.specs.List.{slice_get}
use Rattle.lucy_word.specs.Bits.{Bits, bit_at, ones_to, one_if}
use Rattle.lucy_word.proofs.BitsLaws.{ones_to-none, ones_to-more}
use Rattle.lucy_word.proofs.IndexLaws.{ones_to-rises}
use Rattle.lucy_host.proofs.Elements.{get_take}
use Rattle.lucy_lines.specs.declared.output.OutputSpec.{OutputSpec}
use Rattle.lucy_lines.specs.Outputs.{line_with_value, value_at, value_after, instant_text, instant_after, output_text, more_lines, lines_after}
use Rattle.lucy_lines.specs.OutputLaws.{TextsGrow, BeginAlike, FrontsSuffice, AreRests, BlockByBlock}

pub no_text : (outputs : List OutputSpec) (lists : List (List ℤ)) → output_text outputs lists 0 ≡ []
unfolding output_text
no_text outputs lists = refl

pub one_instant_more : (outputs : List OutputSpec) (lists : List (List ℤ)) (t : ℕ) → output_text outputs lists (t + 1) ≡ output_text outputs lists t ++ instant_text outputs lists (t + 1)
unfolding output_text
one_instant_more outputs lists t = let e : t + 1 ≡ suc t = omega arith in ap (output_text outputs lists) e

-- so many instants more
pub text_grows : (outputs : List OutputSpec) (lists : List (List ℤ)) (t n : ℕ) → (more : List ℕ) × (output_text outputs lists (t + n) ≡ output_text outputs lists t ++ more)
text_grows outputs lists t zero = ([], ap (output_text outputs lists) (omega arith) ∙ sym (append-nil (output_text outputs lists t)))
text_grows outputs lists t (suc n) =
    let before = text_grows outputs lists t n in
    let line = instant_text outputs lists (t + n + 1) in (
      before.0 ++ line,
      ap (output_text outputs lists) (omega arith)
          ∙ one_instant_more outputs lists (t + n)
          ∙ ap (λ text. text ++ line) before.1
          ∙ append_assoc (output_text outputs lists t) before.0 line,
    )

pub texts_grow : TextsGrow
texts_grow outputs lists t u le =
    let more = text_grows outputs lists t (u - t) in
    let e : t + (u - t) ≡ u = omega arith in
    let P : ℕ → Type 0 = λ n. (rest : List ℕ) × (output_text outputs lists n ≡ output_text outputs lists t ++ rest) in
    subst P e more

-- an item stands in each front that is long enough
same_item : (n k : ℕ) (items others : List ℤ) → take n items ≡ take n others → k < n → slice_get items k ≡ slice_get others k
same_item n k items others same lt = sym (get_take n items k lt) ∙ ap (λ front. slice_get front k) same ∙ get_take n others k lt

-- what is read at a one alone
at_one : (bit : Bool) (a b : Option ℤ) → (bit ≡ true → a ≡ b) → (if bit then a else None) ≡ (if bit then b else None)
at_one true a b same = same refl
at_one false a b same = refl

-- the number of a one is within the count of the ones up to a later instant
one_within : (w : Bits) (t s : ℕ) → s + 1 ≤ t → bit_at w (s + 1) ≡ true → ones_to w (s + 1) - 1 < ones_to w t
one_within w t s le is =
    let one : ones_to w (s + 1) ≡ ones_to w s + 1 = ones_to-more w s ∙ ap (λ bit. ones_to w s + one_if bit) is in
    omega (arith, ones_to-rises w (s + 1) t le)

-- the values at an instant are alike where the lists begin alike
same_value : (o : OutputSpec) (t s : ℕ) (items others : List ℤ) → s + 1 ≤ t → take (ones_to o.word t) items ≡ take (ones_to o.word t) others →
    value_at o items (s + 1) ≡ value_at o others (s + 1)
same_value o t s items others le same =
    at_one
    (bit_at o.word (s + 1))
    (slice_get items (ones_to o.word (s + 1) - 1))
    (slice_get others (ones_to o.word (s + 1) - 1))
    (λ is. same_item (ones_to o.word t) (ones_to o.word (s + 1) - 1) items others same (one_within o.word t s le is))

-- whose values at an instant are alike have the same lines there
same_instant : (outputs : List OutputSpec) (lists others : List (List ℤ)) (s : ℕ) → length lists ≡ length others →
    ((i : ℕ) (o : OutputSpec) → slice_get outputs i ≡ Some o → value_at o (get_or lists i []) s ≡ value_at o (get_or others i []) s) →
    instant_text outputs lists s ≡ instant_text outputs others s
unfolding instant_text
same_instant [] lists others s lengths alike = refl
same_instant (o ∷ outputs) [] [] s lengths alike = refl
same_instant (o ∷ outputs) [] (b ∷ others) s lengths alike = absurd (omega arith)
same_instant (o ∷ outputs) (a ∷ lists) [] s lengths alike = absurd (omega arith)
same_instant (o ∷ outputs) (a ∷ lists) (b ∷ others) s lengths alike =
    let here : line_with_value o (value_at o a s) ≡ line_with_value o (value_at o b s) = ap (line_with_value o) (alike 0 o refl) in
    let more = same_instant outputs lists others s (omega arith) (λ i p is. alike (suc i) p is) in
    ap (λ line. line ++ instant_text outputs lists s) here ∙ ap (λ text. line_with_value o (value_at o b s) ++ text) more

same_text : (outputs : List OutputSpec) (lists others : List (List ℤ)) (t s : ℕ) → s ≤ t → BeginAlike outputs lists others t → output_text outputs lists s ≡ output_text outputs others s
unfolding output_text
same_text outputs lists others t zero le agree = refl
same_text outputs lists others t (suc s) le agree =
    let before = same_text outputs lists others t s (omega arith) agree in
    let here = same_instant outputs lists others (s + 1) agree.lengths
    (λ i o is. same_value o t s (get_or lists i []) (get_or others i []) (omega arith) (agree.fronts i o is)) in
    ap (λ text. text ++ instant_text outputs lists (s + 1)) before ∙ ap (λ text. output_text outputs others s ++ text) here

pub fronts_suffice : FrontsSuffice
fronts_suffice outputs lists others t agree = same_text outputs lists others t t (omega arith) agree

-- the lines of no instant more
pub no_more_lines : (outputs : List OutputSpec) (lists : List (List ℤ)) (before : ℕ) → more_lines outputs lists before 0 ≡ []
unfolding more_lines
no_more_lines outputs lists before = refl

pub one_instant_on : (outputs : List OutputSpec) (lists : List (List ℤ)) (before n : ℕ) →
    more_lines outputs lists before (n + 1) ≡ more_lines outputs lists before n ++ instant_after outputs lists before (before + n + 1)
unfolding more_lines
one_instant_on outputs lists before n =
    let e : n + 1 ≡ suc n = omega arith in
    let f : before + (n + 1) ≡ before + n + 1 = omega arith in
    ap (more_lines outputs lists before) e ∙ ap (λ t. more_lines outputs lists before n ++ instant_after outputs lists before t) f

-- so many instants more
lines_grow : (outputs : List OutputSpec) (lists : List (List ℤ)) (before t n : ℕ) → (more : List ℕ) × (more_lines outputs lists before (t + n) ≡ more_lines outputs lists before t ++ more)
lines_grow outputs lists before t zero = ([], ap (more_lines outputs lists before) (omega arith) ∙ sym (append-nil (more_lines outputs lists before t)))
lines_grow outputs lists before t (suc n) =
    let some = lines_grow outputs lists before t n in
    let line = instant_after outputs lists before (before + (t + n) + 1) in (
      some.0 ++ line,
      ap (more_lines outputs lists before) (omega arith)
          ∙ one_instant_on outputs lists before (t + n)
          ∙ ap (λ text. text ++ line) some.1
          ∙ append_assoc (more_lines outputs lists before t) some.0 line,
    )

pub more_lines-grow : (outputs : List OutputSpec) (lists : List (List ℤ)) (before t u : ℕ) → t ≤ u → (more : List ℕ) × (more_lines outputs lists before u ≡ more_lines outputs lists before t ++ more)
more_lines-grow outputs lists before t u le =
    let more = lines_grow outputs lists before t (u - t) in
    let e : t + (u - t) ≡ u = omega arith in
    let P : ℕ → Type 0 = λ n. (rest : List ℕ) × (more_lines outputs lists before n ≡ more_lines outputs lists before t ++ rest) in
    subst P e more

-- an item behind so many
get-past : (xs : List ℤ) (n k : ℕ) → slice_get (drop n xs) k ≡ slice_get xs (n + k)
get-past xs zero k = let e : k ≡ 0 + k = omega arith in ap (slice_get xs) e
get-past [] (suc n) k = refl
get-past (x ∷ xs) (suc n) k = let e : suc (n + k) ≡ suc n + k = omega arith in get-past xs n k ∙ ap (slice_get (x ∷ xs)) e

-- the value at an instant, in what is left of a list
rest_value : (o : OutputSpec) (whole rest : List ℤ) (before t : ℕ) → before ≤ t → rest ≡ drop (ones_to o.word before) whole → value_at o whole (t + 1) ≡ value_after o rest before (t + 1)
rest_value o whole rest before t le is =
    at_one
    (bit_at o.word (t + 1))
    (slice_get whole (ones_to o.word (t + 1) - 1))
    (slice_get rest (ones_to o.word (t + 1) - 1 - ones_to o.word before))
    (λ one. same one)
  where
    same : bit_at o.word (t + 1) ≡ true → slice_get whole (ones_to o.word (t + 1) - 1) ≡ slice_get rest (ones_to o.word (t + 1) - 1 - ones_to o.word before)
    same one =
        let more : ones_to o.word (t + 1) ≡ ones_to o.word t + 1 = ones_to-more o.word t ∙ ap (λ bit. ones_to o.word t + one_if bit) one in
        let rises : ones_to o.word before ≤ ones_to o.word t = ones_to-rises o.word before t le in
        let past = get-past whole (ones_to o.word before) (ones_to o.word (t + 1) - 1 - ones_to o.word before) in
        sym (ap (λ items. slice_get items (ones_to o.word (t + 1) - 1 - ones_to o.word before)) is ∙ past ∙ ap (slice_get whole) (omega arith))

-- the lines of an instant, by what is left of the lists
rest_instant : (outputs : List OutputSpec) (whole rests : List (List ℤ)) (before s : ℕ) → length rests ≡ length whole →
    ((i : ℕ) (o : OutputSpec) → slice_get outputs i ≡ Some o → value_at o (get_or whole i []) s ≡ value_after o (get_or rests i []) before s) →
    instant_text outputs whole s ≡ instant_after outputs rests before s
unfolding instant_text instant_after
rest_instant [] whole rests before s lengths alike = refl
rest_instant (o ∷ outputs) [] [] before s lengths alike = refl
rest_instant (o ∷ outputs) [] (b ∷ rests) before s lengths alike = absurd (omega arith)
rest_instant (o ∷ outputs) (a ∷ whole) [] before s lengths alike = absurd (omega arith)
rest_instant (o ∷ outputs) (a ∷ whole) (b ∷ rests) before s lengths alike =
    let here : line_with_value o (value_at o a s) ≡ line_with_value o (value_after o b before s) = ap (line_with_value o) (alike 0 o refl) in
    let more = rest_instant outputs whole rests before s (omega arith) (λ i p is. alike (suc i) p is) in
    ap (λ line. line ++ instant_text outputs whole s) here ∙ ap (λ text. line_with_value o (value_after o b before s) ++ text) more

-- so many instants more, by what is left of the lists
rest_text : (outputs : List OutputSpec) (whole rests : List (List ℤ)) (before n : ℕ) → AreRests outputs whole rests before →
    output_text outputs whole (before + n) ≡ output_text outputs whole before ++ more_lines outputs rests before n
rest_text outputs whole rests before zero left =
    ap (output_text outputs whole) (omega arith) ∙ sym (append-nil (output_text outputs whole before)) ∙ ap (λ text. output_text outputs whole before ++ text) (sym (no_more_lines outputs rests before))
rest_text outputs whole rests before (suc n) left =
    let earlier = rest_text outputs whole rests before n left in
    let here = rest_instant outputs whole rests before (before + n + 1) left.lengths
    (λ i o is. rest_value o (get_or whole i []) (get_or rests i []) before (before + n) (omega arith) (left.each i o is)) in
    let line = instant_after outputs rests before (before + n + 1) in
    let e : n + 1 ≡ suc n = omega arith in
    ap (output_text outputs whole) (omega arith)
    ∙ one_instant_more outputs whole (before + n)
    ∙ ap (λ text. text ++ instant_text outputs whole (before + n + 1)) earlier
    ∙ ap (λ text. (output_text outputs whole before ++ more_lines outputs rests before n) ++ text) here
    ∙ append_assoc (output_text outputs whole before) (more_lines outputs rests before n) line
    ∙ ap (λ text. output_text outputs whole before ++ text) (sym (one_instant_on outputs rests before n) ∙ ap (more_lines outputs rests before) e)

pub block_by_block : BlockByBlock
block_by_block outputs whole rests before instants le left =
    ap (output_text outputs whole) (omega arith) ∙ rest_text outputs whole rests before (instants - before) left

-- from the first instant on the lines are the whole text
pub lines_from_first : (outputs : List OutputSpec) (lists : List (List ℤ)) (instants : ℕ) → lines_after outputs lists 0 instants ≡ output_text outputs lists instants
lines_from_first outputs lists instants =
    let all = block_by_block outputs lists lists 0 instants (omega arith) (record { lengths = refl; each = λ i o is. ap (λ n. drop n (get_or lists i [])) (sym (ones_to-none o.word)) }) in
    sym (all ∙ ap (λ text. text ++ lines_after outputs lists 0 instants) (no_text outputs lists))
