-- Rings of an actor, and the lists of their ends.
use Rattle.std.proofs.Common.{ℕ, suc, zero, ◌+◌, ◌<◌, ◌≤◌, ◌≡◌, Bool, true, false, cond, eqb, List, [], ◌∷◌, ◌++◌, length, set, ap, sym, refl, ◌∙◌, arith}
use Rattle.std.specs.Prelude.{ℤ, Some, slice_get}
use Rattle.std.proofs.lemmas.Bool.{eq-eqb, ne_eqb, eqb-true}
use Rattle.std.proofs.lemmas.List.Sums.{sum_by-cons}
use Rattle.std.proofs.lemmas.Option.{get_or_from_slice_get, slice_get_within}
use Rattle.lucy_stream.specs.Items.{list_at}
use Rattle.lucy_stream.specs.Plans.{times}
use Rattle.lucy_net.proofs.OperandLaws.{there}
use Rattle.lucy_worker.specs.Parts.{list_on}

-- a ring that stands later, too, isn't the first one
pub not_first : (p : ℕ) (rings : List ℕ) (j r : ℕ) → slice_get rings j ≡ Some r → times r (p ∷ rings) ≤ 1 → p ≡ r → ⊥
not_first p rings j r at once same =
    let l : j < length rings = slice_get_within rings j r at in
    let some : 0 < times r rings = there r rings j l (get_or_from_slice_get rings j r 0 at) in
    let a : times r (p ∷ rings) ≡ cond {A = ℕ} (eqb p r) 1 0 + times r rings = sum_by-cons (λ s. cond (eqb s r) 1 0) p rings in
    let o : cond {A = ℕ} (eqb p r) 1 0 ≡ 1 = ap (λ (b : Bool). cond {A = ℕ} b 1 0) (eq-eqb p r same) in
    absurd (omega arith)

pub later_once : (p : ℕ) (rings : List ℕ) (r : ℕ) → times r (p ∷ rings) ≤ 1 → times r rings ≤ 1
later_once p rings r once =
    let a : times r (p ∷ rings) ≡ cond {A = ℕ} (eqb p r) 1 0 + times r rings = sum_by-cons (λ s. cond (eqb s r) 1 0) p rings in
    omega arith

both : (c : Bool) (list rest : List ℤ) (x : ℤ) → cond c (list ++ x ∷ []) rest ≡ cond c (cond c list rest ++ x ∷ []) (cond c list rest)
both true list rest x = refl
both false list rest x = refl

other : (c d : Bool) (list rest : List ℤ) (x : ℤ) → (c ≡ true → d ≡ false) → cond c list (cond d (rest ++ x ∷ []) rest) ≡ cond d (cond c list rest ++ x ∷ []) (cond c list rest)
other true d list rest x h = sym (ap (λ (b : Bool). cond b (list ++ x ∷ []) list) (h refl))
other false d list rest x h = refl

-- one item more at the ring's end is one item more on the ring
pub list_more : (rings : List ℕ) (lists : List (List ℤ)) (j r q : ℕ) (x : ℤ) → length lists ≡ length rings → slice_get rings j ≡ Some r → times r rings ≤ 1 →
    list_on rings (set lists j (list_at lists j ++ x ∷ [])) q ≡ cond (eqb r q) (list_on rings lists q ++ x ∷ []) (list_on rings lists q)
list_more [] lists j r q x len at once = cc
list_more (p ∷ rings) [] j r q x len at once = absurd (omega arith)
list_more (p ∷ rings) (list ∷ lists) zero r q x len at once =
    let same : p ≡ r = cc in
    both (eqb p q) list (list_on rings lists q) x
    ∙ ap (λ (k : ℕ). cond (eqb k q) (cond (eqb p q) list (list_on rings lists q) ++ x ∷ []) (cond (eqb p q) list (list_on rings lists q))) same
list_more (p ∷ rings) (list ∷ lists) (suc j) r q x len at once =
    let more : list_on rings (set lists j (list_at lists j ++ x ∷ [])) q ≡ cond (eqb r q) (list_on rings lists q ++ x ∷ []) (list_on rings lists q) =
    list_more rings lists j r q x (omega arith) at (later_once p rings r once) in
    let apart : eqb p q ≡ true → eqb r q ≡ false = λ (e : eqb p q ≡ true). ne_eqb r q (λ (f : r ≡ q). not_first p rings j r at once (eqb-true p q e ∙ sym f)) in
    ap (λ (items : List ℤ). cond (eqb p q) list items) more ∙ other (eqb p q) (eqb r q) list (list_on rings lists q) x apart
