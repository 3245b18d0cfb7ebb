-- Tokens in print are cut into the same tokens.
use Rattle.std.proofs.Common.{◌≡◌, ℕ, suc, ◌+◌, ◌<◌, ◌≤◌, true, false, List, [], ◌∷◌, ◌++◌, length, drop, refl, ap, sym, ◌∙◌, subst, arith, eqb, length-append}
use Rattle.std.specs.Prelude.{◌==◌, ◌&&◌, if◌then◌else◌, ℤ, pos, negsuc, neg_ℤ}
use Rattle.std.specs.Option.{option_map_or}
use Rattle.std.specs.Fmt.{decimal, signed_decimal}
use Rattle.std.specs.Int.{w64}
use mir.Val.{SFits as FitsSigned}
use Rattle.std.specs.Str.Parse.{AllDigits, digits_value, signed_digits_value, without_leading_sign}
use Rattle.std.proofs.Math.Seq.{take-append_seam, drop-append_seam}
use Rattle.std.proofs.lemmas.Bool.{cond-true, cond-false, and_parts, or_left, not-true, ne_eqb}
use Rattle.std.proofs.lemmas.List.{append-nil}
use Rattle.std.proofs.lemmas.Fmt.{decimal_is_IsNumeral}
use Rattle.std.proofs.lemmas.Str.Parse.{tells_digits}
use Rattle.lucy_word.specs.Spelling.{spelled, text_of}
use Rattle.lucy_fields.specs.Fields.{is_blank}
use Rattle.lucy_token.specs.declared.mark.Mark.{Mark}
use Rattle.lucy_token.specs.declared.mark.Mark.TheVariants as mark
use Rattle.lucy_token.specs.declared.token.Kind.{Kind}
use Rattle.lucy_token.specs.declared.token.Kind.TheVariants as kind
use Rattle.lucy_token.specs.declared.token.What.{What}
use Rattle.lucy_token.specs.declared.token.What.TheVariants as what
use Rattle.lucy_token.specs.declared.token.Token as token_type
use Rattle.lucy_token.specs.declared.front.Front.TheVariants.{Gap, Token, Bad}
use Rattle.lucy_token.specs.declared.stop.Stop.{Stop}
use Rattle.lucy_token.specs.declared.stop.Stop.TheVariants.{End}
use Rattle.lucy_token.specs.Tokens.{kind_of}
use Rattle.lucy_token.specs.Marks.{spelling}
use Rattle.lucy_token.specs.Before.{nearest, wants_word, operand_begins}
use Rattle.lucy_token.specs.Fronts.{head, is_name_byte, begins_gap, gap_of, close_of, plain_front, token_front}
use Rattle.lucy_token.specs.Scans.{word_front, scanned_front, Scans, ends, gap, token}
use Rattle.lucy_token.specs.Contents.{Contains}
use Rattle.lucy_token.specs.Cuts.{token_at}
use Rattle.lucy_token.specs.Printed.{text_of_what, Printed, bytes_of, whats_of}
use Rattle.lucy_token.specs.Spelled.{placed, all_blank, ends_before, are_apart, apart_from, IsSpelled, MayStandHere, AllStand, PrintsBehind}
use Rattle.lucy_token.proofs.PrintFronts.{no_gap, mark_no_gap, mark_front, digits_front, minus_front, digits_no_gap, name_text_front, name_no_gap}
use Rattle.lucy_token.proofs.WordFronts.{form_no_gap, form_front}
use Rattle.lucy_token.proofs.PrintEnds.{next_ends, blanks_end}
use Rattle.lucy_token.specs.Cuts.{Cuts}
use Rattle.lucy_token.proofs.ScanLaws.{cut_of}

-- the front of a text that begins neither with a blank nor with a comment
front_plain : (ks : List Kind) (text : List ℕ) → begins_gap text ≡ false → wants_word (nearest ks) ≡ false → scanned_front ks text ≡ plain_front (operand_begins ks) text
unfolding token_front
front_plain ks text h k =
    cond-false (begins_gap text) (gap_of text) (if wants_word (nearest ks) then word_front text else plain_front (operand_begins ks) text) h
    ∙ cond-false (wants_word (nearest ks)) (word_front text) (plain_front (operand_begins ks) text) k

front_word : (ks : List Kind) (text : List ℕ) → begins_gap text ≡ false → wants_word (nearest ks) ≡ true → scanned_front ks text ≡ word_front text
unfolding token_front
front_word ks text h k =
    cond-false (begins_gap text) (gap_of text) (if wants_word (nearest ks) then word_front text else plain_front (operand_begins ks) text) h
    ∙ cond-true (wants_word (nearest ks)) (word_front text) (plain_front (operand_begins ks) text) k

-- what a printed token is read as
front_printed : (ks : List Kind) (w : What) (rest : List ℕ) → MayStandHere ks w → ends_before w (head rest) ≡ true → scanned_front ks (text_of_what w ++ rest) ≡ Token (kind_of w) (length (text_of_what w))
front_printed ks (what.Mark m) rest h e = front_plain ks (spelling m ++ rest) (mark_no_gap m rest e) h.word_here ∙ mark_front (operand_begins ks) m rest e
front_printed ks (what.Name bytes) rest h e = front_plain ks (bytes ++ rest) (name_no_gap bytes rest h.spelled) h.word_here ∙ name_text_front (operand_begins ks) bytes rest h.spelled (not-true (is_name_byte (head rest)) e)
front_printed ks (what.Number (pos n)) rest h e =
    let d = decimal_is_IsNumeral n (omega (arith, h.spelled.sfits)) in
    front_plain ks (decimal n ++ rest) (digits_no_gap (decimal n) rest d.0.0 d.0.1) h.word_here ∙ digits_front (operand_begins ks) (decimal n) rest d.0.0 d.0.1 (not-true (is_name_byte (head rest)) e)
front_printed ks (what.Number (negsuc n)) rest h e =
    let d = decimal_is_IsNumeral (suc n) (omega (arith, h.spelled.sfits)) in
    let text : List ℕ = 45 ∷ (decimal (suc n) ++ rest) in
    front_plain ks text (no_gap 45 (decimal (suc n) ++ rest) (omega arith)) h.word_here ∙ ap (λ operand. plain_front operand text) (h.operand_here refl)
    ∙ minus_front (decimal (suc n)) rest d.0.0 d.0.1 (not-true (is_name_byte (head rest)) e)
front_printed ks (what.Word w) rest h e =
    let r = h.spelled.0.1 in
    let gap' : begins_gap (text_of w ++ rest) ≡ false = ap (λ x. begins_gap (x ++ rest)) r.shape ∙ form_no_gap r.form rest r.is_form.nonempty in
    front_word ks (text_of w ++ rest) gap' h.word_here ∙ ap (λ x. word_front (x ++ rest)) r.shape ∙ form_front r.form rest r.is_form ∙ ap (λ x. Token kind.Word (length x)) (sym r.shape)

-- digits are their value
plain_value : (ds : List ℕ) → AllDigits 10 ds → 0 < length ds → signed_digits_value 10 ds ≡ pos (digits_value 10 ds)
plain_value [] all some = absurd (omega (arith, some))
plain_value (c ∷ ds) all some =
    let range : (48 ≤ c) × (c ≤ 57) = (tells_digits.parts c ds all).0 in
    let no_minus : eqb c 45 ≡ false = ne_eqb c 45 (λ e. omega (arith, e, range.0)) in
    let no_plus : eqb c 43 ≡ false = ne_eqb c 43 (λ e. omega (arith, e, range.0)) in
    let bare : without_leading_sign (c ∷ ds) ≡ c ∷ ds = cond-false (eqb c 45) ds _ no_minus ∙ ap (λ b. drop (if b then 1 else 0) (c ∷ ds)) no_plus in
    cond-false (eqb c 45) _ (pos (digits_value 10 (without_leading_sign (c ∷ ds)))) no_minus ∙ ap (λ u. pos (digits_value 10 u)) bare

number_value : (z : ℤ) → FitsSigned w64 z → signed_digits_value 10 (signed_decimal z) ≡ z
number_value (pos n) h =
    let d = decimal_is_IsNumeral n (omega (arith, h.sfits)) in
    plain_value (decimal n) d.0.1 d.0.0 ∙ ap (λ m. pos m) d.1
number_value (negsuc n) h = ap (λ m. neg_ℤ (pos m)) (decimal_is_IsNumeral (suc n) (omega (arith, h.sfits))).1

contains_printed : (before : Kind) (w : What) → IsSpelled before w → Contains before (kind_of w) (text_of_what w) w
contains_printed before (what.Mark m) h = refl
contains_printed before (what.Name bytes) h = (h.short, refl)
contains_printed before (what.Number n) h = (subst (FitsSigned w64) (sym (number_value n h)) h, ap (λ m. what.Number m) (sym (number_value n h)))
contains_printed before (what.Word w) h = (w, h, refl)

-- blanks are passed
blank_front : (ks : List Kind) (c : ℕ) (text : List ℕ) → is_blank c ≡ true → scanned_front ks (c ∷ text) ≡ Gap 1
unfolding token_front gap_of
blank_front ks c text h =
    cond-true (begins_gap (c ∷ text)) (gap_of (c ∷ text)) _ (or_left (is_blank c) ((c == 40) && (head text == 42)) h)
    ∙ cond-true (is_blank c) (Gap 1) (option_map_or (λ n. Gap (n + 2)) (close_of (drop 2 (c ∷ text))) (Bad 0)) h

cut_blanks : (from : ℕ) (ks : List Kind) (blanks text : List ℕ) (ts : List token_type.Token) (stop : Stop) → all_blank blanks ≡ true → Scans (from + length blanks) ks text ts stop → Scans from ks (blanks ++ text) ts stop
cut_blanks from ks [] text ts stop h q = let P : ℕ → Type 0 = λ n. Scans n ks text ts stop in subst P (let e : from + 0 ≡ from = omega arith in e) q
cut_blanks from ks (c ∷ blanks) text ts stop h q =
    let p = and_parts (is_blank c) (all_blank blanks) h in
    let P : ℕ → Type 0 = λ n. Scans n ks text ts stop in
    gap (omega arith) (blank_front ks c (blanks ++ text) p.0)
    (cut_blanks (from + 1) ks blanks text ts stop p.1 (subst P (let e : from + suc (length blanks) ≡ from + 1 + length blanks = omega arith in e) q))

-- a token in print has a byte
spelling_some : (m : Mark) → 0 < length (spelling m)
spelling_some mark.Let = omega arith
spelling_some m = omega arith

printed_some : (before : Kind) (w : What) → IsSpelled before w → 0 < length (text_of_what w)
printed_some before (what.Mark m) h = spelling_some m
printed_some before (what.Name bytes) h = h.some
printed_some before (what.Number (pos n)) h = (decimal_is_IsNumeral n (omega (arith, h.sfits))).0.0
printed_some before (what.Number (negsuc n)) h = omega arith
printed_some before (what.Word w) h = omega (arith, length-append (spelled w.prefix) (40 ∷ (spelled w.period ++ 41 ∷ [])))

-- one token in print
cut_token : (from : ℕ) (ks : List Kind) (w : What) (text : List ℕ) (ts : List token_type.Token) (stop : Stop) → MayStandHere ks w → ends_before w (head text) ≡ true →
    Scans (from + length (text_of_what w)) (kind_of w ∷ ks) text ts stop → Scans from ks (text_of_what w ++ text) (token_at w from (length (text_of_what w)) ∷ ts) stop
cut_token from ks w text ts stop h e q =
    let front : scanned_front ks (text_of_what w ++ text) ≡ Token (kind_of w) (length (text_of_what w)) = front_printed ks w text h e in
    let P : List ℕ → Type 0 = λ u. Contains (nearest ks) (kind_of w) u w in
    let Q : List ℕ → Type 0 = λ u. Scans (from + length (text_of_what w)) (kind_of w ∷ ks) u ts stop in
    token (omega (arith, printed_some (nearest ks) w h.spelled, length-append (text_of_what w) text)) front h.passes h.in_list (subst P (sym (take-append_seam (text_of_what w) text)) (contains_printed (nearest ks) w h.spelled)) (subst Q (sym (drop-append_seam (text_of_what w) text)) q)

behind : (ks : List Kind) (w : What) (ps : List Printed) (rest : List ℕ) → AllStand ks (whats_of ps) → apart_from w ps ≡ true → are_apart ps ≡ true → all_blank rest ≡ true → ends_before w (head (bytes_of ps rest)) ≡ true
behind ks w [] rest stand e apart blank = blanks_end w rest blank
behind ks w (p ∷ ps) rest stand e apart blank =
    let a = and_parts (all_blank p.blanks && apart_from p.what ps) (are_apart ps) apart in
    next_ends (nearest ks) w p ps rest (and_parts (all_blank p.blanks) (apart_from p.what ps) a.0).0 stand.0.spelled e

cut_from : (from : ℕ) (ks : List Kind) (ps : List Printed) (rest : List ℕ) → AllStand ks (whats_of ps) → are_apart ps ≡ true → all_blank rest ≡ true →
    Scans from ks (bytes_of ps rest) (placed from ps) (End (from + length (bytes_of ps rest)))
cut_from from ks [] rest stand apart blank =
    let P : List ℕ → Type 0 = λ u. Scans from ks u [] (End (from + length rest)) in
    subst P (append-nil rest) (cut_blanks from ks rest [] [] (End (from + length rest)) blank ends)
cut_from from ks (p ∷ ps) rest stand apart blank =
    let a = and_parts (all_blank p.blanks && apart_from p.what ps) (are_apart ps) apart in
    let b = and_parts (all_blank p.blanks) (apart_from p.what ps) a.0 in
    let text : List ℕ = bytes_of ps rest in
    let at : ℕ = from + length p.blanks in
    let behind_it : ℕ = at + length (text_of_what p.what) in
    let P : ℕ → Type 0 = λ to. Scans from ks (p.blanks ++ (text_of_what p.what ++ text)) (placed from (p ∷ ps)) (End to) in
    subst P (let e : behind_it + length text ≡ from + length (p.blanks ++ (text_of_what p.what ++ text)) = omega (arith, length-append p.blanks (text_of_what p.what ++ text), length-append (text_of_what p.what) text) in e)
    (cut_blanks from ks p.blanks (text_of_what p.what ++ text) _ _ b.0
    (cut_token at ks p.what text _ _ stand.0 (behind (kind_of p.what ∷ ks) p.what ps rest stand.1 b.1 a.1 blank) (cut_from behind_it (kind_of p.what ∷ ks) ps rest stand.1 a.1 blank)))

-- Tokens that may stand so in print are cut into just these tokens, up to the end of the text.
pub cut_printed : (from : ℕ) (ks : List Kind) (ps : List Printed) (rest : List ℕ) → PrintsBehind ks ps → all_blank rest ≡ true → Cuts from ks (bytes_of ps rest) (placed from ps) (End (from + length (bytes_of ps rest)))
cut_printed from ks ps rest h blank = cut_of (cut_from from ks ps rest h.stand h.apart blank)
