-- What a token's bytes stand for, and which bytes are malformed.
use Rattle.std.specs.Prelude.{ℕ, pos, ◌<◌, ◌≤◌, ◌≡◌, true, List, length}
use Rattle.std.specs.Str.Parse.{signed_digits_value}
use Rattle.std.specs.Int.{w64}
use mir.Val.{SFits as FitsSigned}
use Rattle.lucy_word.specs.Bits.{Bits, ones_in}
use Rattle.lucy_word.specs.Reading.{IsReadable}
use Rattle.lucy_word.specs.Limits.{limit_number}
use Rattle.lucy_word.specs.declared.limit.Limit.TheVariants as limit
use Rattle.lucy_token.specs.declared.token.Kind.{Kind}
use Rattle.lucy_token.specs.declared.token.Kind.TheVariants as kind
use Rattle.lucy_token.specs.declared.token.What.{What}
use Rattle.lucy_token.specs.declared.token.What.TheVariants as what
use Rattle.lucy_token.specs.declared.stop.SyntaxError.{SyntaxError}
use Rattle.lucy_token.specs.declared.stop.SyntaxError.TheVariants.{BadNumber, BadWord, TooLarge}
use Rattle.lucy_token.specs.Before.{wants_zero}

-- the bytes are a word that may stand after a token of this kind, and w is its shortest form
abbrev pub IsWordAfter : Kind → List ℕ → Bits → Type 0
IsWordAfter before bytes w = IsReadable bytes w × (wants_zero before ≡ true → ones_in w.period < length w.period)

-- the bytes of a token of a kind, after one of another kind, stand for this
abbrev pub Contains : Kind → Kind → List ℕ → What → Type 0
Contains before (kind.Mark m) bytes w = w ≡ what.Mark m
Contains before kind.Name bytes w = (length bytes ≤ limit_number limit.Name) × (w ≡ what.Name bytes)
Contains before kind.Number bytes w = FitsSigned w64 (signed_digits_value 10 bytes) × (w ≡ what.Number (signed_digits_value 10 bytes))
Contains before kind.Word bytes w = (v : Bits) × IsWordAfter before bytes v × (w ≡ what.Word v)
Contains before kind.End bytes w = ⊥

-- the error of bytes that stand for nothing, by the kind of their token, which begins at an offset
abbrev pub token_fault : Kind → ℕ → SyntaxError
token_fault kind.Number from = BadNumber from
token_fault kind.Word from = BadWord from
token_fault k from = TooLarge limit.Name

-- a token past the last entry of a list: only its kind counts
abbrev pub unread : Kind → List ℕ → What
unread (kind.Mark m) bytes = what.Mark m
unread kind.Name bytes = what.Name bytes
unread k bytes = what.Number (pos 0)
