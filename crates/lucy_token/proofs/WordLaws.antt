-- Bytes are read as one word.
use Rattle.std.proofs.Common.{◌≡◌, ℕ, ◌<◌, true, List, length, Result, Ok, Err, subst}
use Rattle.lucy_word.specs.Bits.{Bits, ones_in}
use Rattle.lucy_word.specs.Reading.{IsReadable, RefusesWordText}
use Rattle.lucy_word.specs.declared.error.WordError.{WordError}
use Rattle.lucy_word.proofs.SpellingLaws.{reads_one}
use Rattle.lucy_token.specs.declared.token.Kind.{Kind}
use Rattle.lucy_token.specs.Before.{wants_zero}
use Rattle.lucy_token.specs.Contents.{IsWordAfter}

-- a text reads as one word
pub readable_one : (bytes : List ℕ) (v w : Bits) → IsReadable bytes v → IsReadable bytes w → v ≡ w
readable_one bytes v w h k =
    let e : ◌≡◌ {A = Result Bits WordError} (Ok v) (Ok w) = reads_one bytes (Ok v) (Ok w) h k in
    cc

-- what is refused is no word, nor is one without a zero where a zero is wanted
pub refused_no_word : (before : Kind) (bytes : List ℕ) (e : WordError) → RefusesWordText bytes e → (v : Bits) → IsWordAfter before bytes v → ⊥
refused_no_word before bytes e h v k =
    let p : ◌≡◌ {A = Result Bits WordError} (Ok v) (Err e) = reads_one bytes (Ok v) (Err e) k.0 h in
    cc

pub full_no_word : (before : Kind) (bytes : List ℕ) (w : Bits) → IsReadable bytes w → wants_zero before ≡ true →
    (ones_in w.period < length w.period → ⊥) →
    (v : Bits) → IsWordAfter before bytes v → ⊥
full_no_word before bytes w h zero none v k = none (subst (λ (u : Bits). ones_in u.period < length u.period) (readable_one bytes v w k.0 h) (k.1 zero))
