-- What stands at the front of a text has a byte at least, and no more than the text.
use Rattle.std.proofs.Common.{◌≡◌, ℕ, ◌+◌, ◌<◌, ◌≤◌, Bool, true, false, cond, List, [], ◌∷◌, length, take, drop, Option, Some, None, refl, ap, sym, subst, arith, eqb, leb, suc, length-drop, length-take}
use Rattle.std.specs.Prelude.{IfSome, ◌&&◌, ◌==◌, if◌then◌else◌, option_map}
use Rattle.std.specs.Option.{option_map_or}
use Rattle.std.specs.List.{prefix_len}
use Rattle.std.specs.Str.{bytes_eq}
use Rattle.std.specs.Str.Parse.{IsNumeral, AllDigits, without_leading_sign}
use Rattle.std.proofs.lemmas.Bool.{cond_both, and_parts, both_ways, eqb-true, leb-true, or_left}
use Rattle.std.proofs.lemmas.Slice.Eq.{bytes_eq-Decides}
use Rattle.std.proofs.lemmas.List.{length-take-le}
use Rattle.std.proofs.lemmas.List.Sums.{prefix_len-le-length}
use Rattle.std.proofs.lemmas.Str.Parse.{tells_digits}
use Rattle.lucy_word.specs.Stages.{is_decimal}
use Rattle.lucy_fields.specs.Fields.{is_blank}
use Rattle.lucy_token.specs.declared.mark.Mark.{Mark}
use Rattle.lucy_token.specs.declared.token.Kind.{Kind}
use Rattle.lucy_token.specs.declared.token.Kind.TheVariants as kind
use Rattle.lucy_token.specs.declared.front.Front.{Front}
use Rattle.lucy_token.specs.declared.front.Front.TheVariants.{Gap, Token, Bad}
use Rattle.lucy_token.specs.Marks.{spelling, keywords, signs}
use Rattle.lucy_token.specs.Before.{nearest, wants_word, operand_begins}
use Rattle.lucy_token.specs.Fronts.{head, close_of, begins_gap, gap_of, plain_front, token_front, minus_of, is_letter, is_name_byte, sign_in, named_in}
use Rattle.lucy_token.specs.Scans.{word_front, scanned_front}
use Rattle.lucy_token.specs.States.{ScanState, begins_operand}
use Rattle.lucy_token.specs.Steps.{front_in, IsTokenOf}
use Rattle.lucy_token.proofs.WordFronts.{IsBetween, front_is}

-- what is known of the front of a text that is not empty
abbrev pub IsFront : List ℕ → Front → Type 0
IsFront text (Gap n) = (0 < n) × (n ≤ length text)
IsFront text (Token k n) = (0 < n) × (n ≤ length text) × IsTokenOf k (take n text)
IsFront text (Bad n) = n ≤ length text

-- a text with a first byte that is not 0 is not empty
head_some : (c : ℕ) (text : List ℕ) → head text ≡ c → 0 < c → 0 < length text
head_some c [] e h = omega (arith, e, h)
head_some c (b ∷ text) e h = omega arith

head_is : (c : ℕ) (text : List ℕ) → eqb (head text) c ≡ true → 0 < c → 0 < length text
head_is c text e h = head_some c text (eqb-true (head text) c e) h

close_within : (u : List ℕ) → IfSome (close_of u) (λ n. (2 ≤ n) × (n ≤ length u))
close_within [] = tt
close_within (c ∷ u) =
    let P : Option ℕ → Type 0 = λ o. IfSome o (λ n. (2 ≤ n) × (n ≤ length (c ∷ u))) in
    cond_both (c == 42 && head u == 41) (Some 2) (option_map (λ n. n + 1) (close_of u)) P
    (λ e. (omega arith, let some : 0 < length u = head_is 41 u (and_parts (eqb c 42) (eqb (head u) 41) e).1 (omega arith) in omega arith))
    (λ e. later (close_of u) (close_within u))
  where
    later : (o : Option ℕ) → IfSome o (λ n. (2 ≤ n) × (n ≤ length u)) → IfSome (option_map (λ n. n + 1) o) (λ n. (2 ≤ n) × (n ≤ length (c ∷ u)))
    later None h = tt
    later (Some n) h = (omega (arith, h.0), omega (arith, h.1))

comment_front : (text : List ℕ) → IsFront text (option_map_or (λ n. Gap (n + 2)) (close_of (drop 2 text)) (Bad 0))
comment_front text = of_close (close_of (drop 2 text)) (close_within (drop 2 text))
  where
    of_close : (o : Option ℕ) → IfSome o (λ n. (2 ≤ n) × (n ≤ length (drop 2 text))) → IsFront text (option_map_or (λ n. Gap (n + 2)) o (Bad 0))
    of_close None h = omega arith
    of_close (Some n) h = (omega arith, omega (arith, h.0, h.1, length-drop 2 text))

gap_front : (text : List ℕ) → 0 < length text → IsFront text (gap_of text)
unfolding gap_of
gap_front text some = cond_both (is_blank (head text)) (Gap 1) (option_map_or (λ n. Gap (n + 2)) (close_of (drop 2 text)) (Bad 0)) (IsFront text) (λ e. (omega arith, omega (arith, some))) (λ e. comment_front text)

word_front_front : (text : List ℕ) → IsFront text (word_front text)
word_front_front text = go (word_front text) (front_is text)
  where
    go : (f : Front) → IsBetween 1 (length text) f → IsFront text f
    go (Gap n) h = absurd h
    go (Token k n) h = (omega (arith, h.1.0), h.1.1, subst (λ (t : Kind). IsTokenOf t (take n text)) (sym h.0) tt)
    go (Bad n) h = h

-- where the first byte passes, there is one that does
pub prefix_some : (p : ℕ → Bool) (text : List ℕ) → p 0 ≡ false → p (head text) ≡ true → 0 < prefix_len p text
prefix_some p [] unfit fit = absurd (both_ways (p 0) unfit fit)
prefix_some p (c ∷ text) unfit fit = cond_both (p c) (1 + prefix_len p text) 0 (λ n. 0 < n) (λ e. omega arith) (λ e. absurd (both_ways (p c) e fit))

-- digits are digits
digits_of : (text : List ℕ) → AllDigits 10 (take (prefix_len is_decimal text) text)
digits_of [] = tt
digits_of (c ∷ text) =
    let P : ℕ → Type 0 = λ n. AllDigits 10 (take n (c ∷ text)) in
    cond_both (is_decimal c) (1 + prefix_len is_decimal text) 0 P
    (λ e. let range : (48 ≤ c) × (c ≤ 57) = (leb-true 48 c (and_parts (leb 48 c) (leb c 57) e).0, leb-true c 57 (and_parts (leb 48 c) (leb c 57) e).1) in
    let n : ℕ = prefix_len is_decimal text in
    subst P (let q : suc n ≡ 1 + n = omega arith in q) (tells_digits.more c (take n text) range (digits_of text)))
    (λ e. tt)

named_token : (ms : List Mark) (bytes xs : List ℕ) → IsTokenOf (named_in ms bytes) xs
named_token [] bytes xs = tt
named_token (m ∷ ms) bytes xs = cond_both (bytes_eq bytes (spelling m)) (kind.Mark m) (named_in ms bytes) (λ k. IsTokenOf k xs) (λ e. tt) (λ e. named_token ms bytes xs)

-- each of these is spelled with a byte at least
abbrev all_spelled : List Mark → Bool
all_spelled [] = true
all_spelled (m ∷ ms) = leb 1 (length (spelling m)) && all_spelled ms

sign_front : (ms : List Mark) (text : List ℕ) → all_spelled ms ≡ true → IsFront text (sign_in ms text)
sign_front [] text e = omega arith
sign_front (m ∷ ms) text e =
    let some : 1 ≤ length (spelling m) = leb-true 1 (length (spelling m)) (and_parts _ _ e).0 in
    cond_both (bytes_eq (take (length (spelling m)) text) (spelling m)) (Token (kind.Mark m) (length (spelling m))) (sign_in ms text) (IsFront text)
    (λ f. (omega arith, (let same : take (length (spelling m)) text ≡ spelling m = (bytes_eq-Decides (take (length (spelling m)) text) (spelling m)).0 f in omega (arith, length-take (length (spelling m)) text, ap length same)), tt))
    (λ f. sign_front ms text (and_parts _ _ e).1)

-- digits without a sign are a numeral
pub numeral_plain : (ds : List ℕ) → AllDigits 10 ds → 0 < length ds → IsNumeral 10 (without_leading_sign ds)
numeral_plain [] all some = absurd (omega arith)
numeral_plain (c ∷ ds) all some =
    let range : (48 ≤ c) × (c ≤ 57) = (tells_digits.parts c ds all).0 in
    cond_both (eqb c 45) ds (drop (cond (eqb c 43) 1 0) (c ∷ ds)) (IsNumeral 10) (λ e. absurd (omega (arith, eqb-true c 45 e)))
    (λ e. cond_both (eqb c 43) 1 0 (λ n. IsNumeral 10 (drop n (c ∷ ds))) (λ f. absurd (omega (arith, eqb-true c 43 f))) (λ f. (omega arith, all)))

plain_number : (text : List ℕ) → is_decimal (head text) ≡ true → IsFront text (Token kind.Number (0 + prefix_len is_decimal text))
plain_number text e =
    let k : ℕ = prefix_len is_decimal text in
    let some : 0 < k = prefix_some is_decimal text refl e in
    let within : k ≤ length text = prefix_len-le-length is_decimal text in
    let long : 0 < length (take k text) = omega (arith, length-take-le k text within) in
    let P : ℕ → Type 0 = λ n. IsFront text (Token kind.Number n) in
    subst P (let q : k ≡ 0 + k = omega arith in q) (some, within, numeral_plain (take k text) (digits_of text) long)

minus_number : (c : ℕ) (text : List ℕ) → eqb c 45 ≡ true → is_decimal (head text) ≡ true → IsFront (c ∷ text) (Token kind.Number (1 + prefix_len is_decimal text))
minus_number c text is e =
    let k : ℕ = prefix_len is_decimal text in
    let some : 0 < k = prefix_some is_decimal text refl e in
    let within : k ≤ length text = prefix_len-le-length is_decimal text in
    let long : 0 < length (take k text) = omega (arith, length-take-le k text within) in
    let P : ℕ → Type 0 = λ n. IsFront (c ∷ text) (Token kind.Number n) in
    let Q : ℕ → Type 0 = λ b. IsNumeral 10 (without_leading_sign (b ∷ take k text)) in
    subst P (let q : suc k ≡ 1 + k = omega arith in q) (omega arith, omega arith, subst Q (sym (eqb-true c 45 is)) (long, digits_of text))

number_front : (operand : Bool) (text : List ℕ) → is_decimal (head (drop (minus_of operand text) text)) ≡ true → IsFront text (Token kind.Number (minus_of operand text + prefix_len is_decimal (drop (minus_of operand text) text)))
number_front operand text =
    cond_both ((operand && eqb (head text) 45) && is_decimal (head (drop 1 text))) 1 0 (λ m. is_decimal (head (drop m text)) ≡ true → IsFront text (Token kind.Number (m + prefix_len is_decimal (drop m text))))
    (λ e b. signed text (and_parts operand _ (and_parts _ _ e).0).1 b)
    (λ e b. plain_number text b)
  where
    signed : (text : List ℕ) → eqb (head text) 45 ≡ true → is_decimal (head (drop 1 text)) ≡ true → IsFront text (Token kind.Number (1 + prefix_len is_decimal (drop 1 text)))
    signed [] f b = absurd (omega (arith, eqb-true 0 45 f))
    signed (c ∷ text) f b = minus_number c text f b

plain_front_front : (operand : Bool) (text : List ℕ) → IsFront text (plain_front operand text)
unfolding plain_front
plain_front_front operand text =
    let n : ℕ = prefix_len is_name_byte text in
    cond_both (is_letter (head text)) (Token (named_in keywords (take n text)) n) _ (IsFront text)
    (λ e. (prefix_some is_name_byte text refl (or_left _ (is_decimal (head text)) e), prefix_len-le-length is_name_byte text, named_token keywords (take n text) (take n text)))
    (λ e. cond_both (is_decimal (head (drop (minus_of operand text) text))) _ (sign_in signs text) (IsFront text) (λ f. number_front operand text f) (λ f. sign_front signs text refl))

by_parts : (wants operand : Bool) (text : List ℕ) → 0 < length text →
    IsFront text (if begins_gap text then gap_of text else if wants then word_front text else plain_front operand text)
by_parts wants operand text some =
    cond_both (begins_gap text) (gap_of text) _ (IsFront text) (λ e. gap_front text some)
    (λ e. cond_both wants (word_front text) (plain_front operand text) (IsFront text) (λ f. word_front_front text) (λ f. plain_front_front operand text))

pub front : (ks : List Kind) (text : List ℕ) → 0 < length text → IsFront text (scanned_front ks text)
unfolding token_front
front ks text some = by_parts (wants_word (nearest ks)) (operand_begins ks) text some

-- the same of an answer that is the front
pub of_front : (ks : List Kind) (text : List ℕ) (f : Front) → 0 < length text → f ≡ scanned_front ks text → IsFront text f
of_front ks text f some e = subst (IsFront text) (sym e) (front ks text some)

-- and of what stands there by the scanner's state
pub of_front_in : (s : ScanState) (text : List ℕ) (f : Front) → 0 < length text → f ≡ front_in s text → IsFront text f
of_front_in s text f some e = subst (IsFront text) (sym e) (by_parts (wants_word s.before) (begins_operand s) text some)
