-- A text is answered, or refused for one cause.
use Rattle.std.proofs.Common.{ℕ, ◌≡◌, List, [], ◌∷◌, Ok, Err, ap, sym, ◌∙◌, subst, inl, inr}
use Rattle.lucy_word.specs.Bits.{Bits}
use Rattle.lucy_word.specs.Reading.{IsReadable, RefusesWordText}
use Rattle.lucy_word.specs.declared.error.WordError.{WordError}
use Rattle.lucy_word.specs.declared.error.WordError.TheVariants as word
use Rattle.lucy_word.specs.declared.limit.Limit.TheVariants as limit
use Rattle.lucy_word.proofs.SpellingLaws.{reads_one, refuses_one}
use Rattle.lucy_token.proofs.WordLaws.{readable_one}
use Rattle.lucy_app.specs.Fields.{field_texts}
use Rattle.lucy_check.specs.Horizon.{AreFar}
use Rattle.lucy_check.specs.Verdicts.{IsVerdict}
use Rattle.lucy_check.proofs.OneVerdict.{one_verdict}
use Rattle.lucy_app.specs.Order.{IsPair, IsVerdictLine, verdict_line, RefusesWord, RefusesFields}
use Rattle.lucy_app.specs.declared.input_refusal.InputCause.{InputCause}
use Rattle.lucy_app.specs.declared.input_refusal.InputCause.TheVariants.{Count, BadWord, NoOne, Limit}

-- the cause of a field that is read with this error
word_cause : ℕ → WordError → InputCause
word_cause number (word.BadWord place) = BadWord number place
word_cause number word.NoOne = NoOne number
word_cause number e = Limit limit.Written

-- a field that is refused is read with an error that gives the cause
told : (number : ℕ) (text : List ℕ) (cause : InputCause) → RefusesWord number text cause → (e : WordError) × RefusesWordText text e × (cause ≡ word_cause number e)
unfolding word_cause
told number text (BadWord which place) is = (word.BadWord place, is.1, ap (λ n. BadWord n place) is.0)
told number text (NoOne which) is = (word.NoOne, is.1, ap NoOne is.0)
told number text (Limit passed) is = (word.TooLong, is.1, ap Limit is.0)
told number text (Count count) is = absurd is

-- a field that is refused is no word
pub readable_is_not_refused : (number : ℕ) (text : List ℕ) (a : Bits) (cause : InputCause) → IsReadable text a → RefusesWord number text cause → ⊥
readable_is_not_refused number text a cause is not =
    let t = told number text cause not in
    let same = reads_one text (Ok a) (Err t.0) is t.1 in cc

-- a field is refused for one cause
pub one_cause_of_a_word : (number : ℕ) (text : List ℕ) (c d : InputCause) → RefusesWord number text c → RefusesWord number text d → c ≡ d
one_cause_of_a_word number text c d is other =
    let s = told number text c is in
    let t = told number text d other in
    s.2 ∙ ap (word_cause number) (refuses_one text s.0 t.0 s.1 t.1) ∙ sym t.2

same_first : (texts : List (List ℕ)) (u v x y : List ℕ) → texts ≡ u ∷ v ∷ [] → texts ≡ x ∷ y ∷ [] → u ≡ x
same_first texts u v x y h k = cc

same_second : (texts : List (List ℕ)) (u v x y : List ℕ) → texts ≡ u ∷ v ∷ [] → texts ≡ x ∷ y ∷ [] → v ≡ y
same_second texts u v x y h k = cc

-- fields are refused for one cause
pub one_cause_of_fields : (texts : List (List ℕ)) (c d : InputCause) → RefusesFields texts c → RefusesFields texts d → c ≡ d
one_cause_of_fields [] c d h k = h ∙ sym k
one_cause_of_fields (u ∷ []) c d h k = h ∙ sym k
one_cause_of_fields (u ∷ (v ∷ [])) c d (inl h) (inl k) = one_cause_of_a_word 1 u c d h k
one_cause_of_fields (u ∷ (v ∷ [])) c d (inl h) (inr k) = absurd (readable_is_not_refused 1 u k.0 c k.1 h)
one_cause_of_fields (u ∷ (v ∷ [])) c d (inr h) (inl k) = absurd (readable_is_not_refused 1 u h.0 d h.1 k)
one_cause_of_fields (u ∷ (v ∷ [])) c d (inr (a, is, inl h)) (inr (b, also, inl k)) = one_cause_of_a_word 2 v c d h k
one_cause_of_fields (u ∷ (v ∷ [])) c d (inr (a, is, inl h)) (inr (b, also, inr k)) = absurd (readable_is_not_refused 2 v k.0 c k.1 h)
one_cause_of_fields (u ∷ (v ∷ [])) c d (inr (a, is, inr h)) (inr (b, also, inl k)) = absurd (readable_is_not_refused 2 v h.0 d h.1 k)
one_cause_of_fields (u ∷ (v ∷ [])) c d (inr (a, is, inr h)) (inr (b, also, inr k)) = h.3 ∙ sym k.3
one_cause_of_fields (u ∷ (v ∷ (w ∷ texts))) c d h k = h ∙ sym k

-- a text is one pair of words
one_pair : (text : List ℕ) (a b c d : Bits) → IsPair text a b → IsPair text c d → (a ≡ c) × (b ≡ d)
one_pair text a b c d is also =
    let P : List ℕ → Type 0 = λ u. IsReadable u c in
    let Q : List ℕ → Type 0 = λ u. IsReadable u d in (
      readable_one is.0 a c is.3 (subst P (same_first (field_texts text) _ _ _ _ also.2 is.2) also.3),
      readable_one is.1 b d is.4 (subst Q (same_second (field_texts text) _ _ _ _ also.2 is.2) also.4),
    )

-- two words about which not too many instants decide are not refused
words_are_not_refused : (u v : List ℕ) (a b : Bits) (cause : InputCause) → IsReadable u a → IsReadable v b → (AreFar a b → ⊥) → RefusesFields (u ∷ (v ∷ [])) cause → ⊥
words_are_not_refused u v a b cause is also near (inl h) = readable_is_not_refused 1 u a cause is h
words_are_not_refused u v a b cause is also near (inr (c, read, inl h)) = readable_is_not_refused 2 v b cause also h
words_are_not_refused u v a b cause is also near (inr (c, read, inr (d, this, far, so))) =
    let P : Bits → Type 0 = λ x. AreFar x d in
    let Q : Bits → Type 0 = λ x. AreFar a x in
    near (subst Q (readable_one v d b this also) (subst P (readable_one u c a read is) far))

-- nor are the fields of a text that is such words
pub pair_is_not_refused : (text : List ℕ) (a b : Bits) (cause : InputCause) → IsPair text a b → (AreFar a b → ⊥) → RefusesFields (field_texts text) cause → ⊥
pair_is_not_refused text a b cause (u, v, two, is, also) near h =
    let P : List (List ℕ) → Type 0 = λ texts. RefusesFields texts cause in
    words_are_not_refused u v a b cause is also near (subst P two h)

-- a text has one line of a verdict
pub one_line : (text line other : List ℕ) → IsVerdictLine text line → IsVerdictLine text other → line ≡ other
one_line text line other is also =
    let same = one_pair text is.0 is.1 also.0 also.1 is.3 also.3 in
    let P : Bits → Type 0 = λ u. IsVerdict u also.1 also.2 in
    let Q : Bits → Type 0 = λ u. IsVerdict is.0 u also.2 in
    let verdict = one_verdict is.0 is.1 is.2 also.2 is.4 (subst Q (sym same.1) (subst P (sym same.0) also.4)) in
    is.5 ∙ ap verdict_line verdict ∙ sym also.5
