-- Of a text that is two fields, the first and the second.
use Rattle.std.proofs.Common.{ℕ, ◌≤◌, ◌<◌, ◌≡◌, List, [], ◌∷◌, length, map, get_or, Result, Ok, Err, refl, ◌∙◌, sym, subst, inl, inr, arith}
use Rattle.std.specs.Prelude.{IfErr}
use Rattle.std.specs.declared.alloc.Global.{Global}
use Rattle.std.specs.declared.vec.Vec.{Vec}
use Rattle.lucy_word.specs.Bits.{Bits}
use Rattle.lucy_word.specs.Reading.{IsReadable}
use Rattle.lucy_word.specs.Limits.{limit_number}
use Rattle.lucy_word.specs.declared.limit.Limit.TheVariants as limit
use Rattle.lucy_check.specs.Horizon.{AreDecidedBy, AreFar}
use Rattle.lucy_check.proofs.CheckLaws.{horizon_one}
use Rattle.lucy_app.specs.Fields.{field_texts}
use Rattle.lucy_app.specs.Order.{IsPair, IsVerdictLine, RefusesWord, RefusesFields}
use Rattle.lucy_app.specs.declared.input_refusal.InputCause.{InputCause}
use Rattle.lucy_app.specs.declared.input_refusal.InputCause.TheVariants.{Count, Limit}
use Rattle.lucy_app.specs.declared.order.Unjudged.{Unjudged}
use Rattle.lucy_app.specs.declared.order.Unjudged.TheVariants as unjudged
use Rattle.lucy_app.specs.Outcomes.{RefusesInput, IsUnjudged, judging_refusal, IsLineOn}

pair_of : {X : Type 0} (f : X → List ℕ) (xs : List X) (d e : X) → 2 ≤ length xs → length xs < 3 → map f xs ≡ f (get_or xs 0 d) ∷ f (get_or xs 1 e) ∷ []
pair_of f [] d e some few = absurd (omega arith)
pair_of f (x ∷ []) d e some few = absurd (omega arith)
pair_of f (x ∷ (y ∷ [])) d e some few = refl
pair_of f (x ∷ (y ∷ (z ∷ xs))) d e some few = absurd (omega arith)

-- two fields from which words are read are a pair
pub parts_pair : {X : Type 0} (f : X → List ℕ) (xs : List X) (d : X) (text : List ℕ) (a b : Bits) → map f xs ≡ field_texts text → 2 ≤ length xs → length xs < 3 →
    IsReadable (f (get_or xs 0 d)) a → IsReadable (f (get_or xs 1 d)) b → IsPair text a b
parts_pair f xs d text a b cut some few first second =
    (f (get_or xs 0 d), f (get_or xs 1 d), sym cut ∙ pair_of f xs d d some few, first, second)

-- as many fields as aren't two are refused for their count
pub count_refused : (texts : List (List ℕ)) → (length texts ≡ 2 → ⊥) → RefusesFields texts (Count (length texts))
count_refused [] other = refl
count_refused (u ∷ []) other = refl
count_refused (u ∷ (v ∷ [])) other = absurd (other refl)
count_refused (u ∷ (v ∷ (w ∷ texts))) other = refl

-- what refuses two fields refuses the text that they are
two_refused : {X : Type 0} (f : X → List ℕ) (xs : List X) (d : X) (text : List ℕ) (cause : InputCause) → map f xs ≡ field_texts text → 2 ≤ length xs → length xs < 3 →
    RefusesFields (f (get_or xs 0 d) ∷ (f (get_or xs 1 d) ∷ [])) cause → RefusesFields (field_texts text) cause
two_refused f xs d text cause cut some few h =
    let P : List (List ℕ) → Type 0 = λ texts. RefusesFields texts cause in
    subst P (sym (pair_of f xs d d some few) ∙ cut) h

-- the line on two fields is that of the text that they are
pub pair_line : {X : Type 0} (f : X → List ℕ) (xs : List X) (d : X) (text line : List ℕ) → map f xs ≡ field_texts text → 2 ≤ length xs → length xs < 3 →
    (a : Bits) × (b : Bits) × IsReadable (f (get_or xs 0 d)) a × IsReadable (f (get_or xs 1 d)) b × IsLineOn a b line → IsVerdictLine text line
pair_line f xs d text line cut some few (a, b, first, second, (v, is, as_line, near)) =
    (a, b, v, parts_pair f xs d text a b cut some few first second, is, as_line, near)

-- and why there is none is why there is none of the text
pub pair_refused : {X : Type 0} (f : X → List ℕ) (xs : List X) (d : X) (text : List ℕ) (e : Unjudged) → map f xs ≡ field_texts text → 2 ≤ length xs → length xs < 3 →
    IsUnjudged (RefusesFields (f (get_or xs 0 d) ∷ (f (get_or xs 1 d) ∷ []))) e → RefusesInput (λ cause. RefusesFields (field_texts text) cause) (judging_refusal e)
pair_refused f xs d text (unjudged.Input cause) cut some few h = inr (cause, two_refused f xs d text cause cut some few h, refl)
pair_refused f xs d text unjudged.OutOfMemory cut some few h = inl refl

-- two fields of which the first is refused
pub first_refused : (u v : List ℕ) (e : Unjudged) → IsUnjudged (RefusesWord 1 u) e → IsUnjudged (RefusesFields (u ∷ (v ∷ []))) e
first_refused u v (unjudged.Input cause) h = inl h
first_refused u v unjudged.OutOfMemory h = tt

-- two fields of which the first is read, and the second is refused
pub second_refused : (u v : List ℕ) (a : Bits) (e : Unjudged) → IsReadable u a → IsUnjudged (RefusesWord 2 v) e → IsUnjudged (RefusesFields (u ∷ (v ∷ []))) e
second_refused u v a (unjudged.Input cause) first h = inr (a, first, inl h)
second_refused u v a unjudged.OutOfMemory first h = tt

-- two fields that are read, about which too many instants decide
pub far_refused : (u v : List ℕ) (a b : Bits) (r : Result (Vec ℕ Global) Unjudged) → IsReadable u a → IsReadable v b →
    IfErr r (IsUnjudged (λ c. AreFar a b × (c ≡ Limit limit.Compare))) → IfErr r (IsUnjudged (RefusesFields (u ∷ (v ∷ []))))
far_refused u v a b (Ok line) first second h = tt
far_refused u v a b (Err (unjudged.Input cause)) first second h = inr (a, first, inr (b, second, h.0, h.1))
far_refused u v a b (Err unjudged.OutOfMemory) first second h = tt

-- so many instants decide
pub is_far : (a b : Bits) (n : ℕ) → AreDecidedBy a b n → limit_number limit.Compare < n → AreFar a b
is_far a b n is past = (n, is, past)

pub is_near : (a b : Bits) (n : ℕ) → AreDecidedBy a b n → n ≤ limit_number limit.Compare → AreFar a b → ⊥
is_near a b n is within far = omega (arith, horizon_one a b n far.0 is far.1, far.2, within)
