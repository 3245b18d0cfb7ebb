-- Laws of what fields are read as, for whoever reads them one after the other.
use Rattle.std.proofs.Common.{ℕ, ◌≡◌, List, [], ◌∷◌, ◌++◌, map, Option, Some, None, Result, Ok, Err, append-nil, drop, refl, ap, sym, ◌∙◌}
use Rattle.std.specs.Prelude.{ok_or}
use Rattle.std.proofs.lemmas.List.{append_assoc}
use Rattle.lucy_fields.specs.Readings.{reading}

-- the values, as what was read
abbrev pub good : {A : Type 0} → List A → List (Result A ℕ)
good values = map (λ v. Ok v) values

good_push : {A : Type 0} (front : List A) (v : A) → good (front ++ v ∷ []) ≡ good front ++ Ok v ∷ []
good_push [] v = refl
good_push (x ∷ front) v = ap (λ rs. Ok x ∷ rs) (good_push front v)

module _ {A : Type 0} (value : List ℕ → Option A) (all : List (Result A ℕ)) (front : List A) where
  first_of : (place : ℕ) (field : List ℕ) (o : Option A) (left more : List (ℕ × List ℕ)) → all ≡ good front ++ map (reading value) left →
      left ≡ (place, field) ∷ more → value field ≡ o → all ≡ good front ++ (ok_or o place ∷ map (reading value) more)
  first_of place field o left more e l v =
      e ∙ ap (λ fs. good front ++ map (reading value) fs) l ∙ ap (λ p. good front ++ (ok_or p place ∷ map (reading value) more)) v

  -- one value more is read
  pub read_more : (place : ℕ) (field : List ℕ) (v : A) (left more : List (ℕ × List ℕ)) → all ≡ good front ++ map (reading value) left →
      left ≡ (place, field) ∷ more → value field ≡ Some v → all ≡ good (front ++ v ∷ []) ++ map (reading value) more
  read_more place field v left more e l is =
      first_of place field (Some v) left more e l is
      ∙ sym (append_assoc (good front) (Ok v ∷ []) (map (reading value) more))
      ∙ ap (λ rs. rs ++ map (reading value) more) (sym (good_push front v))

  -- or the field has none
  pub read_bad : (place : ℕ) (field : List ℕ) (left more : List (ℕ × List ℕ)) → all ≡ good front ++ map (reading value) left →
      left ≡ (place, field) ∷ more → value field ≡ None → all ≡ good front ++ (Err place ∷ map (reading value) more)
  read_bad place field left more e l is = first_of place field None left more e l is

  -- where none is left all are read
  pub read_all : (left : List (ℕ × List ℕ)) → all ≡ good front ++ map (reading value) left → left ≡ [] → all ≡ good front
  read_all left e l = e ∙ ap (λ fs. good front ++ map (reading value) fs) l ∙ append-nil (good front)

-- values only, and a first field that has none, never stand together
pub never_both : {A : Type 0} (values front : List A) (place : ℕ) (rest : List (Result A ℕ)) → good values ≡ good front ++ (Err place ∷ rest) → ⊥
never_both [] [] place rest e = cc e
never_both [] (f ∷ front) place rest e = cc e
never_both (v ∷ values) [] place rest e = cc e
never_both (v ∷ values) (f ∷ front) place rest e = never_both values front place rest (ap (drop 1) e)

-- there is one first field that has no value
pub one_place : {A : Type 0} (front other : List A) (place more : ℕ) (rest left : List (Result A ℕ)) →
    good front ++ (Err place ∷ rest) ≡ good other ++ (Err more ∷ left) → place ≡ more
one_place [] [] place more rest left e = cc e
one_place [] (g ∷ other) place more rest left e = cc e
one_place (f ∷ front) [] place more rest left e = cc e
one_place (f ∷ front) (g ∷ other) place more rest left e = one_place front other place more rest left (ap (drop 1) e)
