use Rattle.std.proofs.Common.{◌≡◌, ◌<◌, ◌+◌, ◌*◌, ◌/◌, ◌%◌, ◌^◌, ◌++◌, ◌∷◌, [], ℕ, List, Bool, length, take, get_or, ap, ◌∙◌, inl, inr, arith, length-append}
use Rattle.std.proofs.lemmas.Bool.{cases_lt}
use Rattle.std.proofs.lemmas.List.{length_push, get_or_append_left, get_or_push}
use Rattle.std.proofs.lemmas.Grind.{get_or_default_zero}
use Rattle.std.specs.Int.RustNames.{count_ones}
use Rattle.lucy_word.specs.Bits.{ones_in}
use Rattle.lucy_word.specs.Packing.{unpacked, ArePacked}
use Rattle.lucy_word.proofs.CountedLaws.{ones_in-within}
use Rattle.lucy_word.proofs.LimbLaws.{length-unpacked, ones_in-front, count_ones-whole}
use Rattle.lucy_word.proofs.limbs.Limbs.from_limbs.Goals as goal

-- the counts with one more, for the bits before the next limb
kept_more : (bits : List Bool) (before after : List ℕ) (n ones : ℕ) → length before ≡ n → after ≡ before ++ ones ∷ [] →
    ((k : ℕ) → k < length before → get_or before k 0 ≡ ones_in (take (k * 64) bits)) → ones ≡ ones_in (take (n * 64) bits) →
    (k : ℕ) → k < length after → get_or after k 0 ≡ ones_in (take (k * 64) bits)
kept_more bits before after n ones len is kept now k h =
    let size : length after ≡ n + 1 = omega (arith, ap length is, length_push before ones) in
    elim (cases_lt k n) [
      | inl old ↦ ap (λ l. get_or l k 0) is ∙ get_or_append_left before (ones ∷ []) 0 k (omega arith) ∙ kept k (omega arith)
      | inr last ↦
          let same : n ≡ k = omega arith in
          ap (λ l. get_or l k 0) is ∙ get_or_push before ones 0 k (omega arith) ∙ now ∙ ap (λ m. ones_in (take (m * 64) bits)) same
    ]

-- the ones before the next limb
next : (len : ℕ) (limbs : List ℕ) (s ones x : ℕ) → ArePacked len limbs → s < len / 64 → x ≡ get_or limbs s x → ones ≡ ones_in (take (s * 64) (unpacked len limbs)) →
    ones + count_ones x ≡ ones_in (take ((s + 1) * 64) (unpacked len limbs))
next len limbs s ones x are less is now =
    let here : s < length limbs = omega (arith, are.count) in
    let limb : x ≡ get_or limbs s 0 = is ∙ get_or_default_zero limbs s x here in
    let part : count_ones x ≡ count_ones (get_or limbs s 0 % 2 ^ 64) = ap count_ones limb ∙ count_ones-whole (get_or limbs s 0) (are.each s here) in
    let whole : s * 64 + 64 ≡ (s + 1) * 64 = omega arith in
    omega (arith, part, now, ones_in-front len limbs s 64 (omega arith) (omega arith), ap (λ k. ones_in (take k (unpacked len limbs))) whole)

pub overflow_add-ones : goal.overflow_add-ones
overflow_add-ones c =
    omega (arith, next c.args.len c.args.limbs.items c.loop-stride.stride c.loop-stride.ones c.index.result.now c.requires.packed (omega arith) c.index.ensures c.loop-stride.invariant.now, ones_in-within (unpacked c.args.len c.args.limbs.items) ((c.loop-stride.stride + 1) * 64))

pub loop-stride-preserved : goal.loop-stride-preserved
loop-stride-preserved c = record {
  len = omega (arith, ap length c.in_ok-push.ensures.items, length-append c.loop-stride.before.items (c.loop-stride.ones ∷ []), c.loop-stride.invariant.len);
  now = next c.args.len c.args.limbs.items c.loop-stride.stride c.loop-stride.ones c.index.result.now c.requires.packed (omega arith) c.index.ensures c.loop-stride.invariant.now;
  ones = kept_more (unpacked c.args.len c.args.limbs.items) c.loop-stride.before.items c.push.new.self.items c.loop-stride.stride c.loop-stride.ones c.loop-stride.invariant.len
      c.in_ok-push.ensures.items c.loop-stride.invariant.ones c.loop-stride.invariant.now;
}

pub invariant_of-result : goal.invariant_of-result
invariant_of-result c =
    let bits : List Bool = unpacked c.args.len c.args.limbs.items in
    let all : c.loop-stride.stride ≡ c.args.len / 64 = omega arith in (
      c.requires.short,
      c.requires.packed,
      record {
        len = omega (arith, ap length c.in_ok-push-2.ensures.items, length-append c.loop-stride.before.items (c.loop-stride.ones ∷ []), c.loop-stride.invariant.len, length-unpacked c.args.len c.args.limbs.items);
        ones = kept_more bits c.loop-stride.before.items c.push-2.new.self.items c.loop-stride.stride c.loop-stride.ones c.loop-stride.invariant.len
            c.in_ok-push-2.ensures.items c.loop-stride.invariant.ones c.loop-stride.invariant.now;
      },
    )
