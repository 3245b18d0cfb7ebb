-- The form of a word at the front of a text.
use Rattle.std.proofs.Common.{◌≡◌, ℕ, suc, ◌+◌, ◌<◌, ◌≤◌, true, false, List, [], ◌∷◌, ◌++◌, length, Option, Some, None, refl, ap, sym, ◌∙◌, subst, arith}
use Rattle.lucy_word.specs.Items.{WordItem, alone, counted, items_text, WordForm, form_text, IsForm}
use Rattle.lucy_word.specs.declared.form.Stage.{Stage}
use Rattle.lucy_word.specs.declared.form.Stage.TheVariants as stage
use Rattle.lucy_word.specs.Stages.{begin, next, behind}
use Rattle.lucy_word.proofs.Checking.{form_closes}
use Rattle.lucy_token.specs.declared.token.Kind.TheVariants as kind
use Rattle.lucy_token.specs.declared.front.Front.{Front}
use Rattle.lucy_token.specs.declared.front.Front.TheVariants.{Gap, Token, Bad}
use Rattle.lucy_token.specs.Fronts.{head, begins_gap}
use Rattle.lucy_token.specs.Scans.{word_end, word_behind, word_from, word_front}

-- one byte more
pub word_more : (n : ℕ) (s t : Stage) (c : ℕ) (text : List ℕ) → next s c ≡ Some t → word_from n s (c ∷ text) ≡ word_from (n + 1) t text
word_more n s t c text e = ap (λ o. word_behind n s o text) e ∙ go text
  where
    go : (u : List ℕ) → word_behind n s (Some t) u ≡ word_from (n + 1) t u
    go [] = refl
    go (d ∷ u) = refl

pub word_stops : (n : ℕ) (s : Stage) (c : ℕ) (text : List ℕ) → next s c ≡ None → word_from n s (c ∷ text) ≡ word_end n s
word_stops n s c text e = ap (λ o. word_behind n s o text) e

-- a word or what breaks it, between these places
abbrev pub IsBetween : ℕ → ℕ → Front → Type 0
IsBetween low high (Gap n) = ⊥
IsBetween low high (Token k n) = (k ≡ kind.Word) × ((low ≤ n) × (n ≤ high))
IsBetween low high (Bad n) = n ≤ high

end_is : (n high : ℕ) (s : Stage) → n ≤ high → IsBetween n high (word_end n s)
end_is n high stage.Closed h = (refl, (omega arith, h))
end_is n high (stage.Item inside some) h = h
end_is n high (stage.Digit inside) h = h
end_is n high (stage.Brace inside) h = h
end_is n high (stage.Count inside) h = h

lower : (low other high : ℕ) (f : Front) → low ≤ other → IsBetween other high f → IsBetween low high f
lower low other high (Gap n) h k = k
lower low other high (Token t n) h k = (k.0, (omega (arith, h, k.1.0), k.1.1))
lower low other high (Bad n) h k = k

behind_is : (n high : ℕ) (last : Stage) (o : Option Stage) (text : List ℕ) → n + 1 + length text ≤ high →
    IsBetween n high (word_behind n last o text)
behind_is n high last None text h = end_is n high last (omega (arith, h))
behind_is n high last (Some s) [] h = lower n (n + 1) high (word_end (n + 1) s) (omega arith) (end_is (n + 1) high s (omega (arith, h)))
behind_is n high last (Some s) (c ∷ text) h = lower n (n + 1) high (word_behind (n + 1) s (next s c) text) (omega arith) (behind_is (n + 1) high s (next s c) text (omega (arith, h)))

pub from_is : (n high : ℕ) (s : Stage) (text : List ℕ) → n + length text ≤ high → IsBetween n high (word_from n s text)
from_is n high s [] h = end_is n high s (omega (arith, h))
from_is n high s (c ∷ text) h = behind_is n high s (next s c) text (omega (arith, h))

-- and a word has a byte at least
pub front_is : (text : List ℕ) → IsBetween 1 (length text) (word_front text)
unfolding word_front
front_is [] = omega arith
front_is (c ∷ text) = go (next begin c) refl
  where
    go : (o : Option Stage) → next begin c ≡ o → IsBetween 1 (length (c ∷ text)) (word_from 0 begin (c ∷ text))
    go None e = subst (IsBetween 1 (length (c ∷ text))) (sym (word_stops 0 begin c text e)) (omega arith)
    go (Some t) e = subst (IsBetween 1 (length (c ∷ text))) (sym (word_more 0 begin t c text e)) (from_is 1 (length (c ∷ text)) t text (omega arith))

-- the text of a form is a word, whatever follows
closes_from : (n : ℕ) (s : Stage) (text rest : List ℕ) → behind (Some s) text ≡ Some stage.Closed →
    word_from n s (text ++ rest) ≡ Token kind.Word (n + length text)
closes_from n s [] rest e = let at : s ≡ stage.Closed = cc in ap (λ u. word_from n u rest) at ∙ go rest ∙ ap (λ m. Token kind.Word m) (let f : n ≡ n + 0 = omega arith in f)
  where
    go : (r : List ℕ) → word_from n stage.Closed r ≡ Token kind.Word n
    go [] = refl
    go (c ∷ r) = refl
closes_from n s (c ∷ text) rest e = go (next s c) refl e (λ t f g. word_more n s t c (text ++ rest) f ∙ closes_from (n + 1) t text rest g ∙ ap (λ m. Token kind.Word m) (let h : n + 1 + length text ≡ n + suc (length text) = omega arith in h))
  where
    go : (o : Option Stage) → next s c ≡ o → behind o text ≡ Some stage.Closed →
        ((t : Stage) → next s c ≡ Some t → behind (Some t) text ≡ Some stage.Closed → word_from n s (c ∷ (text ++ rest)) ≡ Token kind.Word (n + length (c ∷ text))) →
        word_from n s (c ∷ (text ++ rest)) ≡ Token kind.Word (n + length (c ∷ text))
    go None f g k = absurd (let no : None ≡ Some stage.Closed = g in cc)
    go (Some t) f g k = k t f g

pub form_front : (f : WordForm) (rest : List ℕ) → IsForm f → word_front (form_text f ++ rest) ≡ Token kind.Word (length (form_text f))
unfolding word_front
form_front f rest h = closes_from 0 begin (form_text f) rest (form_closes f h) ∙ ap (λ m. Token kind.Word m) (let e : 0 + length (form_text f) ≡ length (form_text f) = omega arith in e)

-- the first byte of a form is a digit or its `(`, behind which no comment opens
pub form_head : (P : ℕ → Type 0) → P 48 → P 49 → P 40 → (f : WordForm) (rest : List ℕ) → P (head (form_text f ++ rest))
form_head P at_zero at_one at_open f rest = go f.prefix
  where
    go : (is : List WordItem) → P (head ((items_text is ++ 40 ∷ (items_text f.period ++ 41 ∷ [])) ++ rest))
    go [] = at_open
    go (alone true ∷ is) = at_one
    go (alone false ∷ is) = at_zero
    go (counted true ds ∷ is) = at_one
    go (counted false ds ∷ is) = at_zero

pub form_no_gap : (f : WordForm) (rest : List ℕ) → 0 < length f.period → begins_gap (form_text f ++ rest) ≡ false
form_no_gap f rest some = go f.prefix f.period some
  where
    go : (is js : List WordItem) → 0 < length js → begins_gap ((items_text is ++ 40 ∷ (items_text js ++ 41 ∷ [])) ++ rest) ≡ false
    go (alone true ∷ is) js h = refl
    go (alone false ∷ is) js h = refl
    go (counted true ds ∷ is) js h = refl
    go (counted false ds ∷ is) js h = refl
    go [] [] h = absurd (omega (arith, h))
    go [] (alone true ∷ js) h = refl
    go [] (alone false ∷ js) h = refl
    go [] (counted true ds ∷ js) h = refl
    go [] (counted false ds ∷ js) h = refl
