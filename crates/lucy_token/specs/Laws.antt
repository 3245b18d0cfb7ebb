-- Laws of cuts, and what texts without counts mean.
use Rattle.std.specs.Prelude.{◌≡◌, ◌≢◌, ◌<◌, ◌≤◌, ◌↔◌, ◌+◌, ◌-◌, ℕ, List, [], ◌∷◌, ◌++◌, length, map, take, drop}
use Rattle.std.specs.List.{AllByRecursion}
use Rattle.lucy_word.specs.Bits.{Bits, ones_in, bit_count, most_written}
use Rattle.lucy_word.specs.Items.{digit_of, WordForm, form_text, form_bits, IsForm}
use Rattle.lucy_word.specs.Forms.{BeginsForm}
use Rattle.lucy_word.specs.Shortest.{IsShortForm}
use Rattle.lucy_word.specs.Reading.{IsReadable}
use Rattle.lucy_tree.specs.declared.span.Span.{Span}
use Rattle.lucy_token.specs.declared.stop.Stop.TheVariants.{End}
use Rattle.lucy_token.specs.declared.front.Front.{Front}
use Rattle.lucy_token.specs.declared.front.Front.TheVariants.{Gap, Token, Bad}
use Rattle.lucy_token.specs.Fronts.{IsWordFront}
use Rattle.lucy_token.specs.Cuts.{Cuts}
use Rattle.lucy_token.specs.Written.{AreWritten, InOrder}
use Rattle.lucy_token.specs.declared.token.Token as token
use Rattle.lucy_token.specs.declared.token.Kind.TheVariants as kind
use Rattle.lucy_token.specs.declared.token.What.TheVariants as what
use Rattle.lucy_token.specs.declared.stop.Stop as stop

-- A text has one cut into tokens: at most one, and none is without one. The places of its tokens rise within the text. Where nothing is
-- wrong, the tokens are as they may be written, and they end where the text ends.
pub record TextsHaveOneCut : Type 0 where
  pub one : (text : List ℕ) (ts us : List token.Token) (a b : stop.Stop) → Cuts 0 [] text ts a → Cuts 0 [] text us b → (ts ≡ us) × (a ≡ b)
  pub some : (text : List ℕ) → ((ts : List token.Token) (a : stop.Stop) → Cuts 0 [] text ts a → ⊥) → ⊥
  pub rise : (text : List ℕ) (ts : List token.Token) (a : stop.Stop) → Cuts 0 [] text ts a → InOrder 0 ts (length text)
  pub written : (text : List ℕ) (ts : List token.Token) (n : ℕ) → Cuts 0 [] text ts (End n) → AreWritten kind.End ts
  pub end : (text : List ℕ) (ts : List token.Token) (n : ℕ) → Cuts 0 [] text ts (End n) → n ≡ length text

-- the bytes of a text at a place
abbrev pub bytes_at : (text : List ℕ) → Span → List ℕ
bytes_at text span = take (span.to - span.from) (drop span.from text)

-- no byte is a `{`, so no count stands there
abbrev pub HasNoCount : List ℕ → Type 0
HasNoCount bytes = AllByRecursion (λ c. c ≢ 123) bytes

-- the bytes are the digits of a prefix, and in parentheses those of a period, at least one: so words were spelled before there were counts
abbrev pub AreDigitsOf : Bits → List ℕ → Type 0
AreDigitsOf v bytes = (0 < length v.period) × (bytes ≡ map digit_of v.prefix ++ 40 ∷ (map digit_of v.period ++ 41 ∷ []))

-- the token, if it is a word at whose place no count stands, is the shortest form of the digits there
abbrev pub IsAsItStands : (text : List ℕ) → token.Token → Type 0
IsAsItStands text t = (w : Bits) → t.what ≡ what.Word w → HasNoCount (bytes_at text t.span) →
    (digits : Bits) × AreDigitsOf digits (bytes_at text t.span) × IsShortForm digits w

-- the bytes are the text of a form that stands for this word
abbrev pub IsFormOf : Bits → List ℕ → Type 0
IsFormOf v bytes = (f : WordForm) × IsForm f × (bytes ≡ form_text f) × (v ≡ form_bits f)

-- with some bytes behind them these are such digits
abbrev pub BeginsDigits : List ℕ → Type 0
BeginsDigits front = (v : Bits) × (rest : List ℕ) × AreDigitsOf v (front ++ rest)

-- what stands where a word is due, by digits alone: a word, or the first byte that can't follow those before it
abbrev pub IsDigitFront : List ℕ → Front → Type 0
IsDigitFront text (Gap n) = ⊥
IsDigitFront text (Token k n) = (k ≡ kind.Word) × (n ≤ length text) × (v : Bits) × AreDigitsOf v (take n text)
IsDigitFront text (Bad n) =
    (n ≤ length text) × BeginsDigits (take n text) × ((v : Bits) → AreDigitsOf v (take n text) → ⊥) × (n < length text → BeginsDigits (take (n + 1) text) → ⊥)

-- the bytes that tell what stands there: those of the word, or those up to the one that can't follow, and that
abbrev pub bytes_telling : (text : List ℕ) → Front → List ℕ
bytes_telling text (Gap n) = take n text
bytes_telling text (Token k n) = take n text
bytes_telling text (Bad n) = take (n + 1) text

-- how many bits a written word could have before there were counts
abbrev pub most_before : ℕ
most_before = 4096

-- the bytes are digits of at most so many bits, with a one in the period, and w is their shortest form
abbrev pub IsReadByDigits : (most : ℕ) → List ℕ → Bits → Type 0
IsReadByDigits most bytes w =
    (digits : Bits) × AreDigitsOf digits bytes × (bit_count digits ≤ most) × (0 < ones_in digits.period) × IsShortForm digits w

-- An old text means the same, both ways. Where no count stands, bytes are a form, begin one, or are what stands where a word is due, exactly
-- where they are so by digits alone, as before there were counts; so words are cut as they were, and refused where they were. They are read as a
-- word exactly where they are by digits, but for the limit, which was 4,096 bits and is 65,536: what was read still is, one of more
-- bits than the first and no more than the second was refused and is read, and one of more than both is refused as it was. In every text each word
-- at whose place no count stands is the one of its digits. All this is said of tokens, and what is read is so also in an `order`; nothing is
-- said of trees, of what is printed, where counts may stand now, or of the place at which an `order` refuses a word.
pub record OldTextsMeanTheSame : Type 0 where
  pub forms : (bytes : List ℕ) (v : Bits) → HasNoCount bytes → IsFormOf v bytes ↔ AreDigitsOf v bytes
  pub begins : (bytes : List ℕ) → HasNoCount bytes → BeginsForm bytes ↔ BeginsDigits bytes
  pub fronts : (text : List ℕ) (front : Front) → HasNoCount (bytes_telling text front) → IsWordFront text front ↔ IsDigitFront text front
  pub reads : (bytes : List ℕ) (w : Bits) → HasNoCount bytes → IsReadable bytes w ↔ IsReadByDigits most_written bytes w
  pub still : (bytes : List ℕ) (w : Bits) → IsReadByDigits most_before bytes w → IsReadable bytes w
  pub words : (text : List ℕ) (ts : List token.Token) (a : stop.Stop) → Cuts 0 [] text ts a → AllByRecursion (IsAsItStands text) ts
