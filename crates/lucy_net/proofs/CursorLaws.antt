-- A cursor goes through a word's bits.
use Rattle.std.proofs.Common.{ℕ, ◌+◌, ◌*◌, ◌<◌, ◌≤◌, ◌≡◌, Bool, length, ap, sym, ◌∙◌, subst, arith}
use Rattle.lucy_word.specs.Bits.{Bits, bit_at, bit_count}
use Rattle.lucy_word.proofs.SamplingLaws.{bit_at-periods}
use Rattle.lucy_net.specs.declared.kind.ActorKind.{ActorKind}
use Rattle.lucy_net.specs.declared.kind.ActorKind.TheVariants.{When, Merge}
use Rattle.lucy_net.specs.Plans.{form_of}
use Rattle.lucy_net.specs.Cursors.{Reads, IsCursor, HasCursor}

-- the bit under it is that of the next firing
pub under : (w : Bits) (fired cursor : ℕ) → IsCursor w fired cursor → bit_at w cursor ≡ bit_at w (fired + 1)
under w fired cursor is = ap (bit_at w) (let z : cursor ≡ cursor + 0 = omega arith in z) ∙ is.goes_on 0 ∙ ap (bit_at w) (let z : fired + 1 + 0 ≡ fired + 1 = omega arith in z)

pub begins : (w : Bits) → 0 < length w.period → IsCursor w 0 1
begins w some = record { counted = omega arith; within = omega arith; goes_on = λ i. ap (bit_at w) (let z : 1 + i ≡ 0 + 1 + i = omega arith in z) }

pub goes_on : (w : Bits) (fired cursor : ℕ) → cursor < bit_count w → IsCursor w fired cursor → IsCursor w (fired + 1) (cursor + 1)
goes_on w fired cursor l is = record {
  counted = omega arith;
  within = omega arith;
  goes_on = λ i.
      ap (bit_at w) (let z : cursor + 1 + i ≡ cursor + (i + 1) = omega arith in z) ∙ is.goes_on (i + 1) ∙ ap (bit_at w) (let z : fired + 1 + (i + 1) ≡ fired + 1 + 1 + i = omega arith in z);
}

-- past the last bit of the period comes its first
pub turns : (w : Bits) (fired cursor : ℕ) → 0 < length w.period → bit_count w ≤ cursor → IsCursor w fired cursor → IsCursor w (fired + 1) (length w.prefix + 1)
turns w fired cursor some l is = record {
  counted = omega arith;
  within = omega arith;
  goes_on = λ i.
      let far : bit_at w (length w.prefix + 1 + i + 1 * length w.period) ≡ bit_at w (length w.prefix + 1 + i) = bit_at-periods w (length w.prefix + 1 + i) 1 (omega arith) in
      sym far ∙ ap (bit_at w) (let z : length w.prefix + 1 + i + 1 * length w.period ≡ cursor + (i + 1) = omega (arith, is.within) in z) ∙ is.goes_on (i + 1)
      ∙ ap (bit_at w) (let z : fired + 1 + (i + 1) ≡ fired + 1 + 1 + i = omega arith in z);
}

-- an actor's cursor, by its kind
pub reads_when : (what : ActorKind) (word : Bits) (fired cursor : ℕ) (b : Bool) → what ≡ When word → b ≡ bit_at word cursor → HasCursor (form_of what) fired cursor → Reads (form_of what) fired b
reads_when what word fired cursor b e same has =
    let is : IsCursor word fired cursor = subst (λ (k : ActorKind). HasCursor (form_of k) fired cursor) e has in
    subst (λ (k : ActorKind). Reads (form_of k) fired b) (sym e) (same ∙ under word fired cursor is)

pub reads_merge : (what : ActorKind) (word : Bits) (fired cursor : ℕ) (b : Bool) → what ≡ Merge word → b ≡ bit_at word cursor → HasCursor (form_of what) fired cursor → Reads (form_of what) fired b
reads_merge what word fired cursor b e same has =
    let is : IsCursor word fired cursor = subst (λ (k : ActorKind). HasCursor (form_of k) fired cursor) e has in
    subst (λ (k : ActorKind). Reads (form_of k) fired b) (sym e) (same ∙ under word fired cursor is)

pub cursor_when : (what : ActorKind) (word : Bits) (fired cursor : ℕ) → what ≡ When word → HasCursor (form_of what) fired cursor → IsCursor word fired cursor
cursor_when what word fired cursor e has = subst (λ (k : ActorKind). HasCursor (form_of k) fired cursor) e has

pub cursor_merge : (what : ActorKind) (word : Bits) (fired cursor : ℕ) → what ≡ Merge word → HasCursor (form_of what) fired cursor → IsCursor word fired cursor
cursor_merge what word fired cursor e has = subst (λ (k : ActorKind). HasCursor (form_of k) fired cursor) e has

pub when_cursor : (what : ActorKind) (word : Bits) (fired cursor : ℕ) → what ≡ When word → IsCursor word fired cursor → HasCursor (form_of what) fired cursor
when_cursor what word fired cursor e is = subst (λ (k : ActorKind). HasCursor (form_of k) fired cursor) (sym e) is

pub merge_cursor : (what : ActorKind) (word : Bits) (fired cursor : ℕ) → what ≡ Merge word → IsCursor word fired cursor → HasCursor (form_of what) fired cursor
merge_cursor what word fired cursor e is = subst (λ (k : ActorKind). HasCursor (form_of k) fired cursor) (sym e) is
