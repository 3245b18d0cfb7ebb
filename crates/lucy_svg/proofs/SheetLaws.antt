-- How the parts of a picture are put one behind another.
use Rattle.std.proofs.Common.{ℕ, zero, suc, ◌+◌, ◌≡◌, Bool, true, false, List, [], ◌∷◌, ◌++◌, Some, length, take, min, refl, ap, sym, ◌∙◌, subst, append_assoc, append-nil, add-one, arith}
use Rattle.std.proofs.lemmas.Bool.Decides.{nat_tests}
use Rattle.std.specs.Prelude.{slice_get, codes, nat_eq, if◌then◌else◌, Result, Ok, Err, OnOk}
use Rattle.lucy_word.proofs.Lists.{three}
use Rattle.lucy_picture.specs.declared.fill.Fill.{Fill}
use Rattle.lucy_picture.specs.Holding.{Puts}
use Rattle.lucy_picture.proofs.HoldLaws.{puts_more, puts_one, puts_part}
use Rattle.lucy_svg.specs.declared.flow.Flow.{Flow}
use Rattle.lucy_svg.specs.declared.print.ink.Font.{Font}
use Rattle.lucy_svg.specs.Labels.{width_of, front_of, label_begin, label_text}
use Rattle.lucy_svg.specs.Sheets.{both}

both_suc : {A : Type 0} (of : Fill → Flow → List A) (fills : List Fill) (flows : List Flow) (i : ℕ) (fill : Fill) (flow : Flow) → slice_get fills i ≡ Some fill → slice_get flows i ≡ Some flow →
    both of (take (suc i) fills) (take (suc i) flows) ≡ both of (take i fills) (take i flows) ++ of fill flow
both_suc of [] flows i fill flow at to = cc
both_suc of (x ∷ xs) [] i fill flow at to = cc
both_suc of (x ∷ xs) (y ∷ ys) zero fill flow at to =
    let e : x ≡ fill = cc in
    let h : y ≡ flow = cc in
    append-nil (of x y) ∙ ap (λ z. of z y) e ∙ ap (λ z. of fill z) h
both_suc of (x ∷ xs) (y ∷ ys) (suc i) fill flow at to =
    ap (λ l. of x y ++ l) (both_suc of xs ys i fill flow at to) ∙ sym (append_assoc (of x y) (both of (take i xs) (take i ys)) (of fill flow))

same_number : (a b : ℕ) → nat_eq a b ≡ true → a ≡ b
same_number a b h = grind (arith, nat_tests)

pub other_number : (a b : ℕ) → (a ≡ b → ⊥) → nat_eq a b ≡ false
other_number a b h = grind (arith, nat_tests)

-- a text of no letter is empty
no_letters : (text : List ℕ) → nat_eq (length text) 0 ≡ true → text ≡ []
no_letters [] t = refl
no_letters (byte ∷ rest) t = let same : length (byte ∷ rest) ≡ 0 = same_number (length (byte ∷ rest)) 0 t in absurd (omega arith)

-- of one buffer more
both_more : {A : Type 0} (of : Fill → Flow → List A) (fills : List Fill) (flows : List Flow) (i : ℕ) (fill : Fill) (flow : Flow) → slice_get fills i ≡ Some fill → slice_get flows i ≡ Some flow →
    both of (take (i + 1) fills) (take (i + 1) flows) ≡ both of (take i fills) (take i flows) ++ of fill flow
both_more of fills flows i fill flow at to = rw add-one (both_suc of fills flows i fill flow at to)

-- of all
both_end : {A : Type 0} (of : Fill → Flow → List A) (fills : List Fill) (flows : List Flow) (i : ℕ) → i ≡ min (length fills) (length flows) → both of (take i fills) (take i flows) ≡ both of fills flows
both_end of [] flows zero end = refl
both_end of [] flows (suc i) end = absurd (omega arith)
both_end of (x ∷ xs) [] zero end = refl
both_end of (x ∷ xs) [] (suc i) end = absurd (omega arith)
both_end of (x ∷ xs) (y ∷ ys) zero end = absurd (omega arith)
both_end of (x ∷ xs) (y ∷ ys) (suc i) end = ap (λ l. of x y ++ l) (both_end of xs ys i (omega arith))

module _ {A : Type 0} (P : A → List ℕ → Type 0) where
  -- one of them where a test fails, and else the same without a letter
  puts_if : (test : Bool) (x : A) (a b before part behind : List ℕ) → (test ≡ true → part ≡ []) → b ≡ a ++ (if test then [] else (before ++ (part ++ behind))) → P x part → Puts P (x ∷ []) a b
  puts_if true x a b before part behind none e is = puts_part P x a b [] e (subst (P x) (none refl) is)
  puts_if false x a b before part behind none e is = puts_one P x a b before part behind e is

  -- the letters of a label that are shown
  pub puts_label : (x : A) (font : Font) (px py : ℕ) (text a b : List ℕ) → front_of font.most [] ≡ [] → b ≡ a ++ label_text font px py text → P x (front_of font.most text) → Puts P (x ∷ []) a b
  puts_label x font px py text a b none e is =
      puts_if (nat_eq (length text) 0) x a b (label_begin font px py (width_of font (length text))) (front_of font.most text) (codes "</text>")
      (λ t. ap (front_of font.most) (no_letters text t) ∙ none) e is

  -- those of one buffer more
  pub puts_fill : (of : Fill → Flow → List A) (fills : List Fill) (flows : List Flow) (i : ℕ) (fill : Fill) (flow : Flow) (a b c : List ℕ) → slice_get fills i ≡ Some fill → slice_get flows i ≡ Some flow →
      Puts P (both of (take i fills) (take i flows)) a b → Puts P (of fill flow) b c → Puts P (both of (take (i + 1) fills) (take (i + 1) flows)) a c
  puts_fill of fills flows i fill flow a b c at to m n =
      subst (λ l. Puts P l a c) (sym (both_more of fills flows i fill flow at to)) (puts_more P (both of (take i fills) (take i flows)) (of fill flow) a b c m n)

  -- those of all
  pub puts_fills : (of : Fill → Flow → List A) (fills : List Fill) (flows : List Flow) (i : ℕ) (a b : List ℕ) → i ≡ min (length fills) (length flows) →
      Puts P (both of (take i fills) (take i flows)) a b → Puts P (both of fills flows) a b
  puts_fills of fills flows i a b end m = subst (λ l. Puts P l a b) (both_end of fills flows i end) m

-- what follows from what is known where there was memory
pub on_ok : {T E : Type 0} (r : Result T E) (P Q : Type 0) → OnOk r P → (P → Q) → OnOk r Q
on_ok (Ok x) P Q p f = f p
on_ok (Err e) P Q p f = tt

-- the pieces of an SVG
pub svg_text : (a b c d e f g h p q r s t u v : List ℕ) → b ≡ a ++ p → c ≡ b ++ q → d ≡ c ++ r → e ≡ d ++ s → f ≡ e ++ t → g ≡ f ++ u → h ≡ g ++ v → h ≡ a ++ (p ++ (q ++ ((r ++ s) ++ ((t ++ u) ++ v))))
svg_text a b c d e f g h p q r s t u v one two three more five sixth last =
    last ∙ ap (λ x. x ++ v) (sixth ∙ ap (λ x. x ++ u) five ∙ append_assoc e t u) ∙ append_assoc e (t ++ u) v
    ∙ ap (λ x. x ++ ((t ++ u) ++ v)) (more ∙ ap (λ x. x ++ s) three ∙ append_assoc c r s) ∙ append_assoc c (r ++ s) ((t ++ u) ++ v)
    ∙ ap (λ x. x ++ ((r ++ s) ++ ((t ++ u) ++ v))) (two ∙ ap (λ x. x ++ q) one ∙ append_assoc a p q) ∙ append_assoc a (p ++ q) ((r ++ s) ++ ((t ++ u) ++ v))
    ∙ ap (λ x. a ++ x) (append_assoc p q ((r ++ s) ++ ((t ++ u) ++ v)))
