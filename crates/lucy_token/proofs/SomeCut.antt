-- A text has a cut: none is without one.
use Rattle.std.proofs.Common.{◌≡◌, ℕ, zero, suc, ◌+◌, ◌<◌, ◌≤◌, Bool, true, false, List, [], ◌∷◌, length, drop, take, Option, Some, None, refl, inl, inr, arith, length-drop}
use Rattle.std.specs.Prelude.{◌⊎◌}
use Rattle.std.specs.Str.Parse.{signed_digits_value}
use Rattle.std.specs.Int.{w64}
use mir.Val.{SFits as FitsSigned}
use Rattle.lucy_word.specs.Bits.{Bits}
use Rattle.lucy_word.specs.Limits.{limit_number}
use Rattle.lucy_word.specs.declared.limit.Limit.{Limit}
use Rattle.lucy_word.specs.declared.limit.Limit.TheVariants as limit
use Rattle.lucy_token.specs.declared.token.Kind.{Kind}
use Rattle.lucy_token.specs.declared.token.Kind.TheVariants as kind
use Rattle.lucy_token.specs.declared.token.What.{What}
use Rattle.lucy_token.specs.declared.token.What.TheVariants as what
use Rattle.lucy_token.specs.declared.token.Token as token_type
use Rattle.lucy_token.specs.declared.front.Front.{Front}
use Rattle.lucy_token.specs.declared.front.Front.TheVariants.{Gap, Token, Bad}
use Rattle.lucy_token.specs.declared.stop.Stop.{Stop}
use Rattle.lucy_token.specs.declared.stop.Stop.TheVariants.{End}
use Rattle.lucy_token.specs.declared.stop.SyntaxError.{SyntaxError}
use Rattle.lucy_token.specs.declared.stop.SyntaxError.TheVariants.{BadNumber, BadWord, TooLarge}
use Rattle.lucy_token.specs.Before.{nearest, limit_at, is_entry_past}
use Rattle.lucy_token.specs.Contents.{Contains, IsWordAfter}
use Rattle.lucy_token.specs.Scans.{IsMalformed, scanned_front, Scans, ends, gap, bad, passed, past_last, malformed, token}
use Rattle.lucy_token.specs.Steps.{IsTokenOf}
use Rattle.lucy_token.proofs.FrontLaws.{IsFront, of_front}
use Rattle.lucy_token.specs.Cuts.{Cuts}
use Rattle.lucy_token.proofs.ScanLaws.{cut_of}

-- what neither holds nor fails to hold holds nowhere
pub no_third : (A : Type 0) → (A ⊎ (A → ⊥) → ⊥) → ⊥
no_third A f = f (inr (λ a. f (inl a)))

-- the bytes of a token stand for something, or are malformed
abbrev Content : Kind → Kind → List ℕ → ℕ → Type 0
Content before k bytes from = ((w : What) × Contains before k bytes w) ⊎ ((e : SyntaxError) × IsMalformed before k bytes from e)

content_some : (before k : Kind) (bytes : List ℕ) (from : ℕ) → IsTokenOf k bytes → (Content before k bytes from → ⊥) → ⊥
content_some before (kind.Mark m) bytes from t f = f (inl (what.Mark m, refl))
content_some before kind.Name bytes from t f =
    no_third (length bytes ≤ limit_number limit.Name) (λ o. f (either o))
  where
    either : (length bytes ≤ limit_number limit.Name) ⊎ (length bytes ≤ limit_number limit.Name → ⊥) → Content before kind.Name bytes from
    either (inl h) = inl (what.Name bytes, (h, refl))
    either (inr h) = inr (TooLarge limit.Name, (omega arith, refl))
content_some before kind.Number bytes from t f =
    no_third (FitsSigned w64 (signed_digits_value 10 bytes)) (λ o. f (either o))
  where
    either : FitsSigned w64 (signed_digits_value 10 bytes) ⊎ (FitsSigned w64 (signed_digits_value 10 bytes) → ⊥) → Content before kind.Number bytes from
    either (inl h) = inl (what.Number (signed_digits_value 10 bytes), (h, refl))
    either (inr h) = inr (BadNumber from, (h, refl))
content_some before kind.Word bytes from t f =
    no_third ((v : Bits) × IsWordAfter before bytes v) (λ o. f (either o))
  where
    either : ((v : Bits) × IsWordAfter before bytes v) ⊎ (((v : Bits) × IsWordAfter before bytes v) → ⊥) → Content before kind.Word bytes from
    either (inl h) = inl (what.Word h.0, (h.0, h.1, refl))
    either (inr h) = inr (BadWord from, (λ v i. h (v, i), refl))
content_some before kind.End bytes from t f = t

abbrev NoScan : ℕ → List Kind → List ℕ → Type 0
NoScan from ks text = (ts : List token_type.Token) (stop : Stop) → Scans from ks text ts stop → ⊥

-- a token at the front, where what follows it has a cut
token_some : (from : ℕ) (ks : List Kind) (text : List ℕ) (k : Kind) (n : ℕ) → 0 < length text → scanned_front ks text ≡ Token k n → IsTokenOf k (take n text) →
    (NoScan (from + n) (k ∷ ks) (drop n text) → ⊥) → (o : Option Limit) → limit_at ks k ≡ o → (p : Bool) → is_entry_past ks k ≡ p → NoScan from ks text → ⊥
token_some from ks text k n some e is rest (Some l) h p i none = none _ _ (passed some e h)
token_some from ks text k n some e is rest None h true i none = none _ _ (past_last some e h i)
token_some from ks text k n some e is rest None h false i none = content_some (nearest ks) k (take n text) from is by_content
  where
    by_content : Content (nearest ks) k (take n text) from → ⊥
    by_content (inl c) = rest (λ ts stop q. none _ _ (token some e h i c.1 q))
    by_content (inr m) = none _ _ (malformed some e h i m.1)

-- a text that isn't empty, where all shorter ones have a cut
front_some : (most from : ℕ) (ks : List Kind) (text : List ℕ) → 0 < length text → length text ≤ suc most →
    ((later : ℕ) (js : List Kind) (rest : List ℕ) → length rest ≤ most → NoScan later js rest → ⊥) → NoScan from ks text → ⊥
front_some most from ks text some short shorter none = by_front (scanned_front ks text) refl (of_front ks text (scanned_front ks text) some refl)
  where
    by_front : (f : Front) → scanned_front ks text ≡ f → IsFront text f → ⊥
    by_front (Gap n) e is = shorter (from + n) ks (drop n text) (omega (arith, is.0, is.1, length-drop n text)) (λ ts stop q. none ts stop (gap some e q))
    by_front (Bad n) e is = none _ _ (bad some e)
    by_front (Token k n) e is =
        token_some from ks text k n some e is.2 (shorter (from + n) (k ∷ ks) (drop n text) (omega (arith, is.0, is.1, length-drop n text)))
        (limit_at ks k) refl (is_entry_past ks k) refl none

some_scan : (most from : ℕ) (ks : List Kind) (text : List ℕ) → length text ≤ most → NoScan from ks text → ⊥
some_scan most from ks [] short none = none [] (End from) ends
some_scan zero from ks (c ∷ text) short none = omega arith
some_scan (suc most) from ks (c ∷ text) short none = front_some most from ks (c ∷ text) (omega arith) short (some_scan most) none

-- no text is without a cut
pub some_cut : (most from : ℕ) (ks : List Kind) (text : List ℕ) → length text ≤ most → ((ts : List token_type.Token) (stop : Stop) → Cuts from ks text ts stop → ⊥) → ⊥
some_cut most from ks text short none = some_scan most from ks text short (λ ts stop q. none ts stop (cut_of q))
