-- A text without counts means what it meant before there were any, both ways.
use Rattle.std.proofs.Common.{◌≡◌, ℕ, zero, suc, ◌+◌, ◌-◌, ◌<◌, ◌≤◌, Bool, List, [], ◌∷◌, ◌++◌, length, map, take, drop, refl, ap, sym, ◌∙◌, subst, arith}
use Rattle.std.specs.Prelude.{pos}
use Rattle.std.specs.List.{AllByRecursion}
use Rattle.std.specs.Str.Parse.{signed_digits_value}
use Rattle.std.proofs.lemmas.List.{drop-drop, length-map}
use Rattle.lucy_word.specs.Bits.{Bits, most_written}
use Rattle.lucy_word.specs.Items.{WordItem, alone, counted, digit_of, items_text, items_bits, WordForm, form_text, form_bits, IsForm}
use Rattle.lucy_word.specs.Forms.{BeginsForm}
use Rattle.lucy_word.specs.Shortest.{IsShortForm}
use Rattle.lucy_word.specs.Spelling.{Spells}
use Rattle.lucy_word.specs.Reading.{IsReadable}
use Rattle.lucy_token.specs.declared.token.Kind.{Kind}
use Rattle.lucy_token.specs.declared.token.Kind.TheVariants as kind
use Rattle.lucy_token.specs.declared.token.What.{What}
use Rattle.lucy_token.specs.declared.token.What.TheVariants as what
use Rattle.lucy_token.specs.declared.token.Token as token_type
use Rattle.lucy_token.specs.declared.front.Front.{Front}
use Rattle.lucy_token.specs.declared.front.Front.TheVariants.{Gap, Token, Bad}
use Rattle.lucy_token.specs.declared.stop.Stop.{Stop}
use Rattle.lucy_token.specs.Before.{nearest}
use Rattle.lucy_token.specs.Contents.{Contains, unread}
use Rattle.lucy_token.specs.Cuts.{Cuts, ends, gap, bad, passed, past_last, malformed, token}
use Rattle.lucy_token.specs.Fronts.{IsWordFront}
use Rattle.lucy_token.specs.Laws.{HasNoCount, AreDigitsOf, IsAsItStands, IsFormOf, BeginsDigits, IsDigitFront, bytes_telling, IsReadByDigits}

-- bytes without a count have none in front, and none behind
no_count_in_front : (xs ys : List ℕ) → HasNoCount (xs ++ ys) → HasNoCount xs
no_count_in_front [] ys h = tt
no_count_in_front (x ∷ xs) ys h = (h.0, no_count_in_front xs ys h.1)

no_count_behind : (xs ys : List ℕ) → HasNoCount (xs ++ ys) → HasNoCount ys
no_count_behind [] ys h = h
no_count_behind (x ∷ xs) ys h = no_count_behind xs ys h.1

-- items without a count are digits, one for each
items_are : (is : List WordItem) → HasNoCount (items_text is) → items_text is ≡ map digit_of (items_bits is)
items_are [] none = refl
items_are (alone b ∷ is) none = ap (λ u. digit_of b ∷ u) (items_are is none.1)
items_are (counted b ds ∷ is) none = absurd (none.1.0 refl)

some_bits : (is : List WordItem) → HasNoCount (items_text is) → 0 < length is → 0 < length (items_bits is)
some_bits [] none some = omega (arith, some)
some_bits (alone b ∷ is) none some = omega arith
some_bits (counted b ds ∷ is) none some = absurd (none.1.0 refl)

-- so a form without a count is digits
pub forms_are : (bytes : List ℕ) (f : WordForm) → HasNoCount bytes → IsForm f → bytes ≡ form_text f → AreDigitsOf (form_bits f) bytes
forms_are bytes f none is e =
    let all : HasNoCount (items_text f.prefix ++ 40 ∷ (items_text f.period ++ 41 ∷ [])) = subst HasNoCount e none in
    let front = no_count_in_front (items_text f.prefix) (40 ∷ (items_text f.period ++ 41 ∷ [])) all in
    let back = no_count_behind (items_text f.prefix) (40 ∷ (items_text f.period ++ 41 ∷ [])) all in
    let period = no_count_in_front (items_text f.period) (41 ∷ []) back.1 in (
      some_bits f.period period is.nonempty,
      e ∙ ap (λ u. u ++ 40 ∷ (items_text f.period ++ 41 ∷ [])) (items_are f.prefix front)
          ∙ ap (λ u. map digit_of (items_bits f.prefix) ++ 40 ∷ (u ++ 41 ∷ [])) (items_are f.period period),
    )

-- the digits of items without their counts
digit_alone : WordItem → Bool
digit_alone (alone b) = b
digit_alone (counted b ds) = b

-- bytes without a count that begin one text begin the other
Leads : List ℕ → List ℕ → Type 0
Leads t u = (bytes rest : List ℕ) → HasNoCount bytes → bytes ++ rest ≡ t → (more : List ℕ) × (bytes ++ more ≡ u)

lead_further : (c : ℕ) (t u : List ℕ) → Leads t u → Leads (c ∷ t) (c ∷ u)
unfolding Leads
lead_further c t u leads [] rest none e = (c ∷ u, refl)
lead_further c t u leads (x ∷ bytes) rest none e =
    let same : x ∷ (bytes ++ rest) ≡ c ∷ t = e in
    let first : x ≡ c = cc in
    let after : bytes ++ rest ≡ t = cc in
    let (more, is) = leads bytes rest none.1 after in
    (more, ap (λ y. y ∷ (bytes ++ more)) first ∙ ap (λ y. c ∷ y) is)

-- none leads to a count
no_lead : (t u : List ℕ) → Leads (123 ∷ t) u
unfolding Leads
no_lead t u [] rest none e = (u, refl)
no_lead t u (x ∷ bytes) rest none e =
    let same : x ∷ (bytes ++ rest) ≡ 123 ∷ t = e in
    let first : x ≡ 123 = cc in
    absurd (none.0 first)

lead_items : (is : List WordItem) (t u : List ℕ) → Leads t u → Leads (items_text is ++ t) (map digit_of (map digit_alone is) ++ u)
unfolding digit_alone
lead_items [] t u leads = leads
lead_items (alone b ∷ is) t u leads = lead_further (digit_of b) _ _ (lead_items is t u leads)
lead_items (counted b ds ∷ is) t u leads = lead_further (digit_of b) _ _ (no_lead _ _)

-- so bytes without a count that begin a form begin one of digits
pub begins_are : (bytes : List ℕ) → HasNoCount bytes → BeginsForm bytes → (v : Bits) × (rest : List ℕ) × AreDigitsOf v (bytes ++ rest)
unfolding Leads
begins_are bytes none (f, rest, is, e) =
    let period : List ℕ = items_text f.period ++ 41 ∷ [] in
    let digits : List ℕ = map digit_of (map digit_alone f.period) ++ 41 ∷ [] in
    let closed : Leads (41 ∷ []) (41 ∷ []) = λ bs more free same. (more, same) in
    let opened : Leads (40 ∷ period) (40 ∷ digits) = lead_further 40 period digits (lead_items f.period (41 ∷ []) (41 ∷ []) closed) in
    let (more, same) = lead_items f.prefix (40 ∷ period) (40 ∷ digits) opened bytes rest none e in (
      record { prefix = map digit_alone f.prefix; period = map digit_alone f.period },
      more,
      (omega (arith, is.nonempty, length-map f.period digit_alone), same),
    )

-- so does a front of such bytes
no_count_less : (n m : ℕ) (text : List ℕ) → n ≤ m → HasNoCount (take m text) → HasNoCount (take n text)
no_count_less zero m text less none = tt
no_count_less (suc n) zero text less none = absurd (omega (arith, less))
no_count_less (suc n) (suc m) [] less none = tt
no_count_less (suc n) (suc m) (c ∷ text) less none = (none.0, no_count_less n m text (omega (arith, less)) none.1)

-- and back again, where digits spell their word
abbrev pub DigitsSpell : Type 0
DigitsSpell = (w : Bits) → 0 < length w.period → Spells (map digit_of w.prefix ++ 40 ∷ (map digit_of w.period ++ 41 ∷ [])) w

-- a form of a word without a count is its digits
pub form_is : (bytes : List ℕ) (v : Bits) → HasNoCount bytes → IsFormOf v bytes → AreDigitsOf v bytes
form_is bytes v none (f, is, same, bits) =
    subst (λ (d : Bits). AreDigitsOf d bytes) (sym bits) (forms_are bytes f none is same)

-- bytes without a count that are read are so by digits
pub read_is : (bytes : List ℕ) (w : Bits) → HasNoCount bytes → IsReadable bytes w → IsReadByDigits most_written bytes w
read_is bytes w none (bits, spells, few, some, short) =
    (bits, form_is bytes bits none (spells.form, spells.is_form, spells.shape, spells.bits), few, some, short)

module _ (spell : DigitsSpell) where
  -- digits of a word are a form of it
  pub digits_form : (bytes : List ℕ) (v : Bits) → AreDigitsOf v bytes → IsFormOf v bytes
  digits_form bytes v are =
      let spells = spell v are.0 in
      (spells.form, spells.is_form, are.1 ∙ spells.shape, spells.bits)

  -- what begins digits begins a form
  pub digits_begin : (bytes : List ℕ) → BeginsDigits bytes → BeginsForm bytes
  digits_begin bytes (v, rest, are) =
      let (f, is, same, bits) = digits_form (bytes ++ rest) v are in
      (f, rest, is, same)

  -- what stands where a word is due does so by digits
  pub front_is : (text : List ℕ) (front : Front) → HasNoCount (bytes_telling text front) → IsWordFront text front → IsDigitFront text front
  front_is text (Gap n) none h = h
  front_is text (Token k n) none (word, within, f, is, same) = (word, within, form_bits f, forms_are (take n text) f none is same)
  front_is text (Bad n) none (within, begins, whole, stops) = (
    within,
    begins_are (take n text) (no_count_less n (n + 1) text (omega arith) none) begins,
    (λ v are. let (f, is, same, bits) = digits_form (take n text) v are in whole f is same),
    (λ more further. stops more (digits_begin (take (n + 1) text) further)),
  )

  pub digits_front : (text : List ℕ) (front : Front) → HasNoCount (bytes_telling text front) → IsDigitFront text front → IsWordFront text front
  digits_front text (Gap n) none h = h
  digits_front text (Token k n) none (word, within, v, are) =
      let (f, is, same, bits) = digits_form (take n text) v are in
      (word, within, f, is, same)
  digits_front text (Bad n) none (within, begins, whole, stops) = (
    within,
    digits_begin (take n text) begins,
    (λ f is same. whole (form_bits f) (forms_are (take n text) f (no_count_less n (n + 1) text (omega arith) none) is same)),
    (λ more further. stops more (begins_are (take (n + 1) text) none further)),
  )

  -- what is read by digits is read
  pub digits_read : (most : ℕ) (bytes : List ℕ) (w : Bits) → most ≤ most_written → IsReadByDigits most bytes w → IsReadable bytes w
  digits_read most bytes w within (digits, are, few, some, short) =
      (digits, subst (λ (u : List ℕ). Spells u digits) (sym are.1) (spell digits are.0), omega (arith, few, within), some, short)

-- a token past the last one is no word
no_word : (k : Kind) (bytes : List ℕ) (w : Bits) → unread k bytes ≡ what.Word w → ⊥
no_word (kind.Mark m) bytes w e = let bad : what.Mark m ≡ what.Word w = e in cc
no_word kind.Name bytes w e = let bad : what.Name bytes ≡ what.Word w = e in cc
no_word kind.Number bytes w e = let bad : what.Number (pos 0) ≡ what.Word w = e in cc
no_word kind.Word bytes w e = let bad : what.Number (pos 0) ≡ what.Word w = e in cc
no_word kind.End bytes w e = let bad : what.Number (pos 0) ≡ what.Word w = e in cc

-- bytes without a count that stand for a word are its digits
word_is : (before k : Kind) (bytes : List ℕ) (w : What) (v : Bits) → Contains before k bytes w → w ≡ what.Word v → HasNoCount bytes →
    (digits : Bits) × AreDigitsOf digits bytes × IsShortForm digits v
word_is before (kind.Mark m) bytes w v c e none = let bad : what.Mark m ≡ what.Word v = sym c ∙ e in cc
word_is before kind.Name bytes w v c e none = let bad : what.Name bytes ≡ what.Word v = sym c.1 ∙ e in cc
word_is before kind.Number bytes w v c e none = let bad : what.Number (signed_digits_value 10 bytes) ≡ what.Word v = sym c.1 ∙ e in cc
word_is before kind.Word bytes w v (u, after, is) e none =
    let (digits, are, few, some, short) = read_is bytes u none after.0 in
    let same : what.Word u ≡ what.Word v = sym is ∙ e in
    let equal : u ≡ v = cc in
    (digits, are, subst (IsShortForm digits) equal short)
word_is before kind.End bytes w v c e none = absurd c

-- each word of a text is as it stands
pub words_are : {from : ℕ} {ks : List Kind} {text : List ℕ} {ts : List token_type.Token} {stop : Stop} → Cuts from ks text ts stop →
    (whole : List ℕ) → drop from whole ≡ text → AllByRecursion (IsAsItStands whole) ts
words_are ends whole e = tt
words_are {from} (gap {n = n} h q) whole e = words_are q whole (sym (drop-drop n from whole) ∙ ap (drop n) e)
words_are (bad h) whole e = tt
words_are (passed h l) whole e = tt
words_are {text = text} (past_last {n = n} {k = k} h l p) whole e = ((λ w is none. absurd (no_word k (take n text) w is)), tt)
words_are (malformed h l p m) whole e = tt
words_are {from} {ks} {text} (token {n = n} {k = k} {w = w} h l p c q) whole e = (
  (λ v is none.
      let long : from + n - from ≡ n = omega arith in
      let same : take (from + n - from) (drop from whole) ≡ take n text = ap (λ m. take m (drop from whole)) long ∙ ap (take n) e in
      let P : List ℕ → Type 0 = λ bytes. (digits : Bits) × AreDigitsOf digits bytes × IsShortForm digits v in
      subst P (sym same) (word_is (nearest ks) k (take n text) w v c is (subst HasNoCount same none))),
  words_are q whole (sym (drop-drop n from whole) ∙ ap (drop n) e),
)
