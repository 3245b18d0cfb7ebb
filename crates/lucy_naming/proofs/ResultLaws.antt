-- The results of a node without faults are no more than its streams: each is one of them, and none stands twice.
use Rattle.std.proofs.Common.{◌≡◌, ◌≤◌, ◌++◌, ◌||◌, ℕ, Bool, true, false, not, List, [], ◌∷◌, length, map, if◌then◌else◌, refl, ap, ◌∙◌, arith}
use Rattle.std.specs.List.{AllByRecursion, IsDistinct}
use Rattle.std.proofs.lemmas.Cmp.{nat_list_eq_equiv}
use Rattle.std.proofs.lemmas.List.{length-map}
use Rattle.std.proofs.lemmas.Map.Made.{length-le_from_is_member}
use Rattle.lucy_word.proofs.Lists.{front_empty, back_empty}
use Rattle.lucy_tree.specs.declared.span.Name.{Name}
use Rattle.lucy_naming.specs.declared.error.NameError.{NameError}
use Rattle.lucy_naming.specs.Texts.{is_text, is_in}
use Rattle.lucy_naming.specs.Views.{text_of}
use Rattle.lucy_naming.specs.Faults.{unless, result_fault, result_faults}
use Rattle.lucy_naming.proofs.NameLaws.{behind_one}

-- a result that is a stream and told once has no fault
pub no_fault : (stream twice : Bool) (e f : NameError) → (if stream then unless (not twice) e else f ∷ []) ≡ [] →
    (stream ≡ true) × (twice ≡ false)
no_fault true true e f h = cc
no_fault true false e f h = (refl, refl)
no_fault false twice e f h = cc

-- a text equal to one of the texts is among them
equal_in : (texts : List (List ℕ)) (t u : List ℕ) → is_text t u ≡ true → is_in texts t ≡ is_in texts u
equal_in [] t u h = refl
equal_in (x ∷ texts) t u h = ap (λ b. b || is_in texts t) (nat_list_eq_equiv.congr t u x h)
    ∙ ap (λ b. is_text u x || b) (equal_in texts t u h)

module _ (streams : List (List ℕ)) where
  apart : (x : List ℕ) (before : List (List ℕ)) (rs : List Name) → ((y : List ℕ) → is_in before y ≡ false → is_text x y ≡ false) →
      result_faults streams before rs ≡ [] → AllByRecursion (λ y. is_text x y ≡ false) (map text_of rs)
  apart x before [] out h = tt
  apart x before (r ∷ rs) out h =
      let own = front_empty (result_fault streams before r) (result_faults streams (before ++ r.text ∷ []) rs) h in
      let rest = back_empty (result_fault streams before r) (result_faults streams (before ++ r.text ∷ []) rs) h in
      (out r.text (no_fault _ _ _ _ own).1, apart x (before ++ r.text ∷ []) rs (λ y k. out y (behind_one before y r.text k).0) rest)

  distinct : (before : List (List ℕ)) (rs : List Name) → result_faults streams before rs ≡ [] → IsDistinct is_text (map text_of rs)
  unfolding IsDistinct
  distinct before [] h = tt
  distinct before (r ∷ rs) h =
      let rest = back_empty (result_fault streams before r) (result_faults streams (before ++ r.text ∷ []) rs) h in (
        apart r.text (before ++ r.text ∷ []) rs (λ y k. nat_list_eq_equiv.symm r.text y
            ∙ (behind_one before y r.text k).1) rest,
        distinct (before ++ r.text ∷ []) rs rest,
      )

  one_of : (before : List (List ℕ)) (r : Name) (rs : List Name) (q : List ℕ) (here there : Bool) → is_text q r.text ≡ here →
      is_in (map text_of rs) q ≡ there →
      (here || there) ≡ true → is_in streams r.text ≡ true → (is_in (map text_of rs) q ≡ true → is_in streams q ≡ true) →
      is_in streams q ≡ true
  one_of before r rs q true there e f h own rest = equal_in streams q r.text e ∙ own
  one_of before r rs q false there e f h own rest = rest (f ∙ h)

  within : (before : List (List ℕ)) (rs : List Name) → result_faults streams before rs ≡ [] → (q : List ℕ) →
      is_in (map text_of rs) q ≡ true → is_in streams q ≡ true
  within before [] h q k = cc
  within before (r ∷ rs) h q k =
      let own = front_empty (result_fault streams before r) (result_faults streams (before ++ r.text ∷ []) rs) h in
      let rest = back_empty (result_fault streams before r) (result_faults streams (before ++ r.text ∷ []) rs) h in
      one_of before r rs q _ _ refl refl k (no_fault _ _ _ _ own).0 (within (before ++ r.text ∷ []) rs rest q)

  pub few_results : (rs : List Name) → result_faults streams [] rs ≡ [] → length rs ≤ length streams
  few_results rs h =
      let most = length-le_from_is_member nat_list_eq_equiv (map text_of rs) streams (distinct [] rs h) (within [] rs h) in
      omega (arith, most, length-map rs text_of)
