-- What the scanner finds at the front of a text is what stands there, so its tokens are those into which the text is cut.
use Rattle.std.proofs.Common.{◌≡◌, ℕ, ◌+◌, ◌-◌, ◌<◌, ◌≤◌, List, [], ◌∷◌, ◌++◌, length, take, drop, None, Some, refl, ap, sym, ◌∙◌, subst, inl, inr, arith, append_assoc, length-drop}
use Rattle.std.proofs.lemmas.Bool.{cases_lt}
use Rattle.std.proofs.lemmas.List.{append-nil, take-append-drop, take-take, length-take-le}
use Rattle.lucy_word.specs.declared.limit.Limit.TheVariants as limit
use Rattle.lucy_word.specs.Limits.{limit_number}
use Rattle.lucy_word.specs.Items.{WordForm, form_text, IsForm}
use Rattle.lucy_word.specs.Forms.{BeginsForm}
use Rattle.lucy_word.specs.Partials.{whole, run, start}
use Rattle.lucy_word.proofs.PartialLaws.{run_append, form_runs, begins_read}
use Rattle.lucy_token.specs.declared.token.Kind.{Kind}
use Rattle.lucy_token.specs.declared.token.Kind.TheVariants as kind
use Rattle.lucy_token.specs.declared.token.What.{What}
use Rattle.lucy_token.specs.declared.token.What.TheVariants as what
use Rattle.lucy_token.specs.declared.token.Token as token_type
use Rattle.lucy_token.specs.declared.front.Front.{Front}
use Rattle.lucy_token.specs.declared.front.Front.TheVariants.{Gap, Token, Bad}
use Rattle.lucy_token.specs.declared.stop.Stop.{Stop}
use Rattle.lucy_token.specs.declared.stop.Stop.TheVariants.{Fault}
use Rattle.lucy_token.specs.declared.stop.SyntaxError.{SyntaxError}
use Rattle.lucy_token.specs.Before.{nearest}
use Rattle.lucy_token.specs.Fronts.{IsWordFront, token_front, HasFront}
use Rattle.lucy_token.specs.Contents.{Contains, token_fault}
use Rattle.lucy_token.specs.Cuts.{Cuts}
use Rattle.lucy_token.specs.Cuts as cuts
use Rattle.lucy_token.specs.Scans.{IsMalformed, word_front, scanned_front, Scans, ends, gap, bad, passed, past_last, malformed, token}
use Rattle.lucy_token.specs.Steps.{IsTokenOf}
use Rattle.lucy_token.proofs.ContentLaws.{contains_or_malformed}
use Rattle.lucy_token.proofs.FormFronts.{word_front_so}
use Rattle.lucy_token.proofs.FrontLaws.{IsFront, of_front}

-- fewer bytes of a text that begin a form begin one too
begins_shorter : (text : List ℕ) (m n : ℕ) → m ≤ n → BeginsForm (take n text) → BeginsForm (take m text)
begins_shorter text m n h b =
    let split : take m text ++ drop m (take n text) ≡ take n text = ap (λ u. u ++ drop m (take n text)) (sym (take-take m n text h)) ∙ take-append-drop m (take n text) in
    (b.0, drop m (take n text) ++ b.1, b.2, sym (append_assoc (take m text) (drop m (take n text)) b.1) ∙ ap (λ u. u ++ b.1) split ∙ b.3)

-- nothing behind a whole form goes on with it
whole_ends : (text : List ℕ) (n m : ℕ) (f : WordForm) → IsForm f → take n text ≡ form_text f → n < m → m ≤ length text → BeginsForm (take m text) → ⊥
whole_ends text n m f h is less within begins = by_rest (drop n (take m text)) refl
  where
    split : take n text ++ drop n (take m text) ≡ take m text
    split = ap (λ u. u ++ drop n (take m text)) (sym (take-take n m text (omega (arith, less)))) ∙ take-append-drop n (take m text)

    by_rest : (rest : List ℕ) → drop n (take m text) ≡ rest → ⊥
    by_rest [] e = omega (arith, less, within, ap length e, length-drop n (take m text), length-take-le m text within)
    by_rest (c ∷ more) e =
        let read : run (Some start) (take m text) ≡ None =
        ap (run (Some start)) (sym split ∙ ap (λ u. take n text ++ u) e ∙ ap (λ u. u ++ c ∷ more) is)
        ∙ run_append (Some start) (form_text f) (c ∷ more) ∙ ap (λ o. run o (c ∷ more)) (form_runs f h) in
        begins_read (take m text) begins read

form_begins : (text : List ℕ) (n : ℕ) (f : WordForm) → IsForm f → take n text ≡ form_text f → BeginsForm (take n text)
form_begins text n f h is = (f, [], h, append-nil (take n text) ∙ is)

two_tokens : (text : List ℕ) (k j : Kind) (n m : ℕ) → IsWordFront text (Token k n) → IsWordFront text (Token j m) → n < m → ⊥
two_tokens text k j n m a b less = whole_ends text n m a.2 a.3 a.4 less b.1 (form_begins text m b.2 b.3 b.4)

-- a whole word stands, or a byte that breaks one
token_or_bad : (text : List ℕ) (k : Kind) (n m : ℕ) → IsWordFront text (Token k n) → IsWordFront text (Bad m) → ⊥
token_or_bad text k n m a b = elim (cases_lt n m) [
  | inl less ↦ whole_ends text n m a.2 a.3 a.4 less b.0 b.1
  | inr most ↦ elim (cases_lt m n) [
    | inl less ↦ b.3 (omega (arith, less, a.1)) (begins_shorter text (m + 1) n (omega (arith, less)) (form_begins text n a.2 a.3 a.4))
    | inr least ↦ let same : m ≡ n = omega (arith, most, least) in b.2 a.2 a.3 (ap (λ i. take i text) same ∙ a.4)
  ]
]

two_bad : (text : List ℕ) (n m : ℕ) → IsWordFront text (Bad n) → IsWordFront text (Bad m) → n < m → ⊥
two_bad text n m a b less = a.3 (omega (arith, less, b.0)) (begins_shorter text (n + 1) m (omega (arith, less)) b.1)

same_number : (n m : ℕ) → (n < m → ⊥) → (m < n → ⊥) → n ≡ m
same_number n m f g = elim (cases_lt n m) [
  | inl less ↦ absurd (f less)
  | inr most ↦ elim (cases_lt m n) [
    | inl less ↦ absurd (g less)
    | inr least ↦ omega (arith, most, least)
  ]
]

-- one thing stands where a word is due
one_word_front : (text : List ℕ) (a b : Front) → IsWordFront text a → IsWordFront text b → a ≡ b
one_word_front text (Gap n) b h i = absurd h
one_word_front text a (Gap m) h i = absurd i
one_word_front text (Token k n) (Token j m) h i =
    ap (λ u. Token u n) (h.0 ∙ sym i.0) ∙ ap (Token j) (same_number n m (two_tokens text k j n m h i) (two_tokens text j k m n i h))
one_word_front text (Token k n) (Bad m) h i = absurd (token_or_bad text k n m h i)
one_word_front text (Bad n) (Token j m) h i = absurd (token_or_bad text j m n i h)
one_word_front text (Bad n) (Bad m) h i = ap Bad (same_number n m (two_bad text n m h i) (two_bad text m n i h))

-- what is found stands there
found : (ks : List Kind) (text : List ℕ) (f : Front) → 0 < length text → scanned_front ks text ≡ f → HasFront ks text f
found ks text f some e = (some, word_front text, word_front_so text, sym e)

-- what stands there is found
finds : (ks : List Kind) (text : List ℕ) (f : Front) → HasFront ks text f → scanned_front ks text ≡ f
finds ks text f h = ap (λ w. token_front ks w text) (one_word_front text (word_front text) h.1 (word_front_so text) h.2) ∙ sym h.3

-- bytes that are malformed stand for nothing, and bytes of a token that stand for nothing are malformed
malformed_fault : (before k : Kind) (bytes : List ℕ) (from : ℕ) (e : SyntaxError) → IsMalformed before k bytes from e → e ≡ token_fault k from
malformed_fault before (kind.Mark m) bytes from e h = absurd h
malformed_fault before kind.Name bytes from e h = h.1
malformed_fault before kind.Number bytes from e h = h.1
malformed_fault before kind.Word bytes from e h = h.1
malformed_fault before kind.End bytes from e h = absurd h

none_malformed : (before k : Kind) (bytes : List ℕ) (from : ℕ) → IsTokenOf k bytes → ((w : What) → Contains before k bytes w → ⊥) → IsMalformed before k bytes from (token_fault k from)
none_malformed before (kind.Mark m) bytes from t none = none (what.Mark m) refl
none_malformed before kind.Name bytes from t none = elim (cases_lt (limit_number limit.Name) (length bytes)) [
  | inl h ↦ (h, refl)
  | inr h ↦ absurd (none (what.Name bytes) (h, refl))
]
none_malformed before kind.Number bytes from t none = ((λ f. none _ (f, refl)), refl)
none_malformed before kind.Word bytes from t none = ((λ v i. none (what.Word v) (v, i, refl)), refl)
none_malformed before kind.End bytes from t none = absurd t

-- tokens that are found are a cut
pub cut_of : {from : ℕ} {ks : List Kind} {text : List ℕ} {ts : List token_type.Token} {stop : Stop} → Scans from ks text ts stop → Cuts from ks text ts stop
cut_of ends = cuts.ends
cut_of {ks = ks} {text = text} (gap {n = n} h e q) = cuts.gap (found ks text (Gap n) h e) (cut_of q)
cut_of {ks = ks} {text = text} (bad {n = n} h e) = cuts.bad (found ks text (Bad n) h e)
cut_of {ks = ks} {text = text} (passed {n = n} {k = k} h e l) = cuts.passed (found ks text (Token k n) h e) l
cut_of {ks = ks} {text = text} (past_last {n = n} {k = k} h e l p) = cuts.past_last (found ks text (Token k n) h e) l p
cut_of {from} {ks} {text} (malformed {n = n} {k = k} {e = fault} h e l p m) =
    let P : SyntaxError → Type 0 = λ u. Cuts from ks text [] (Fault u) in
    subst P (sym (malformed_fault (nearest ks) k (take n text) from fault m))
    (cuts.malformed (found ks text (Token k n) h e) l p (λ w c. contains_or_malformed (nearest ks) k (take n text) from w fault c m))
cut_of {ks = ks} {text = text} (token {n = n} {k = k} h e l p c q) = cuts.token (found ks text (Token k n) h e) l p c (cut_of q)

-- and a cut is found
pub scan_of : {from : ℕ} {ks : List Kind} {text : List ℕ} {ts : List token_type.Token} {stop : Stop} → Cuts from ks text ts stop → Scans from ks text ts stop
scan_of cuts.ends = ends
scan_of {ks = ks} {text = text} (cuts.gap {n = n} h q) = gap h.0 (finds ks text (Gap n) h) (scan_of q)
scan_of {ks = ks} {text = text} (cuts.bad {n = n} h) = bad h.0 (finds ks text (Bad n) h)
scan_of {ks = ks} {text = text} (cuts.passed {n = n} {k = k} h l) = passed h.0 (finds ks text (Token k n) h) l
scan_of {ks = ks} {text = text} (cuts.past_last {n = n} {k = k} h l p) = past_last h.0 (finds ks text (Token k n) h) l p
scan_of {from} {ks} {text} (cuts.malformed {n = n} {k = k} h l p none) =
    let is : IsFront text (Token k n) = of_front ks text (Token k n) h.0 (sym (finds ks text (Token k n) h)) in
    malformed h.0 (finds ks text (Token k n) h) l p (none_malformed (nearest ks) k (take n text) from is.2 none)
scan_of {ks = ks} {text = text} (cuts.token {n = n} {k = k} h l p c q) = token h.0 (finds ks text (Token k n) h) l p c (scan_of q)
