-- A text cut into tokens as the scanner finds them: a word is read by the stages of its form.
use Rattle.std.specs.Prelude.{ℕ, ◌+◌, ◌<◌, ◌≡◌, true, false, List, [], ◌∷◌, length, take, drop, Option, Some, None}
use mir.Val.{SFits as FitsSigned}
use Rattle.std.specs.Int.{w64}
use Rattle.std.specs.Str.Parse.{signed_digits_value}
use Rattle.lucy_word.specs.Bits.{Bits}
use Rattle.lucy_word.specs.Limits.{limit_number}
use Rattle.lucy_word.specs.declared.form.Stage.{Stage}
use Rattle.lucy_word.specs.declared.form.Stage.TheVariants.{Closed}
use Rattle.lucy_word.specs.Stages.{begin, next}
use Rattle.lucy_word.specs.declared.limit.Limit.{Limit}
use Rattle.lucy_word.specs.declared.limit.Limit.TheVariants as limit
use Rattle.lucy_token.specs.declared.token.Kind.{Kind}
use Rattle.lucy_token.specs.declared.token.What.{What}
use Rattle.lucy_token.specs.declared.token.Token as token_type
use Rattle.lucy_token.specs.declared.front.Front.TheVariants.{Gap, Token, Bad}
use Rattle.lucy_token.specs.declared.stop.Stop.{Stop}
use Rattle.lucy_token.specs.declared.stop.Stop.TheVariants.{End, Fault}
use Rattle.lucy_token.specs.declared.stop.SyntaxError.{SyntaxError}
use Rattle.lucy_token.specs.declared.stop.SyntaxError.TheVariants.{Unexpected, BadNumber, BadWord, TooLarge}
use Rattle.lucy_token.specs.Before.{nearest, limit_at, is_entry_past}
use Rattle.lucy_token.specs.Fronts.{token_front}
use Rattle.lucy_token.specs.Contents.{IsWordAfter, Contains, unread}
use Rattle.lucy_token.specs.declared.token.Kind.TheVariants as kind
use Rattle.lucy_token.specs.declared.front.Front.{Front}
use Rattle.lucy_token.specs.Cuts.{token_at}

-- the bytes of a token of a kind, which begin at an offset, are malformed
abbrev pub IsMalformed : Kind → Kind → List ℕ → ℕ → SyntaxError → Type 0
IsMalformed before (kind.Mark m) bytes from e = ⊥
IsMalformed before kind.Name bytes from e = (limit_number limit.Name < length bytes) × (e ≡ TooLarge limit.Name)
IsMalformed before kind.Number bytes from e = (FitsSigned w64 (signed_digits_value 10 bytes) → ⊥) × (e ≡ BadNumber from)
IsMalformed before kind.Word bytes from e = ((v : Bits) → IsWordAfter before bytes v → ⊥) × (e ≡ BadWord from)
IsMalformed before kind.End bytes from e = ⊥

-- a word where all of its form was read, else what breaks the form, behind so many bytes
abbrev pub word_end : ℕ → Stage → Front
word_end n Closed = Token kind.Word n
word_end n s = Bad n

-- a word, of whose form so many bytes are read up to a stage, and one more where it leads to another
abbrev pub word_behind : ℕ → Stage → Option Stage → List ℕ → Front
word_behind n last None text = word_end n last
word_behind n last (Some s) [] = word_end (n + 1) s
word_behind n last (Some s) (c ∷ text) = word_behind (n + 1) s (next s c) text

-- a word, of whose form so many bytes are read, up to this stage
abbrev pub word_from : ℕ → Stage → List ℕ → Front
word_from n s [] = word_end n s
word_from n s (c ∷ text) = word_behind n s (next s c) text

-- a word at the front, its form whole, or the byte that breaks it
unfoldable pub word_front : List ℕ → Front
word_front text = word_from 0 begin text

-- what stands at the front of a text
abbrev pub scanned_front : List Kind → List ℕ → Front
scanned_front ks text = token_front ks (word_front text) text

-- The text, which begins at an offset behind tokens of these kinds, is these tokens up to this stop.
pub data Scans : ℕ → List Kind → List ℕ → List token_type.Token → Stop → Type 0 where
  ends : {from : ℕ} {ks : List Kind} → Scans from ks [] [] (End from)
  gap : {from n : ℕ} {ks : List Kind} {text : List ℕ} {ts : List token_type.Token} {stop : Stop} → 0 < length text → scanned_front ks text ≡ Gap n →
      Scans (from + n) ks (drop n text) ts stop → Scans from ks text ts stop
  bad : {from n : ℕ} {ks : List Kind} {text : List ℕ} → 0 < length text → scanned_front ks text ≡ Bad n → Scans from ks text [] (Fault (Unexpected (from + n)))
  passed : {from n : ℕ} {ks : List Kind} {text : List ℕ} {k : Kind} {l : Limit} → 0 < length text → scanned_front ks text ≡ Token k n →
      limit_at ks k ≡ Some l → Scans from ks text [] (Fault (TooLarge l))
  past_last : {from n : ℕ} {ks : List Kind} {text : List ℕ} {k : Kind} → 0 < length text → scanned_front ks text ≡ Token k n →
      limit_at ks k ≡ None → is_entry_past ks k ≡ true → Scans from ks text (token_at (unread k (take n text)) from n ∷ []) (Fault (TooLarge limit.Names))
  malformed : {from n : ℕ} {ks : List Kind} {text : List ℕ} {k : Kind} {e : SyntaxError} → 0 < length text → scanned_front ks text ≡ Token k n →
      limit_at ks k ≡ None → is_entry_past ks k ≡ false → IsMalformed (nearest ks) k (take n text) from e → Scans from ks text [] (Fault e)
  token : {from n : ℕ} {ks : List Kind} {text : List ℕ} {k : Kind} {w : What} {ts : List token_type.Token} {stop : Stop} → 0 < length text → scanned_front ks text ≡ Token k n →
      limit_at ks k ≡ None → is_entry_past ks k ≡ false → Contains (nearest ks) k (take n text) w →
      Scans (from + n) (k ∷ ks) (drop n text) ts stop → Scans from ks text (token_at w from n ∷ ts) stop
