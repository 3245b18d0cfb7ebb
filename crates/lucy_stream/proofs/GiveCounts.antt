-- The gives of an actor's firings, counted.
use Rattle.std.proofs.Common.{ℕ, suc, zero, ◌+◌, ◌≡◌, Bool, cond, eqb, List, [], ◌∷◌, ◌++◌, map, get_or, ap, sym, refl, ◌∙◌, inl, inr, arith}
use Rattle.std.specs.Prelude.{count_by}
use Rattle.std.proofs.lemmas.Bool.{cases_Bool}
use Rattle.std.proofs.lemmas.List.{append-nil}
use Rattle.std.proofs.lemmas.List.Sums.{sum_by-append, sum_by-cons}
use Rattle.lucy_word.specs.Bits.{bit_at, one_if, ones_to}
use Rattle.lucy_word.proofs.BitsLaws.{ones_to-none, ones_to-more}
use Rattle.lucy_stream.specs.Forms.{Form, Kept, Merged, Delayed}
use Rattle.lucy_stream.specs.Firings.{DoesGive, gave_in}
use Rattle.lucy_stream.specs.Systems.{RingOp, Takes, Gives, is_give, is_take}
use Rattle.lucy_stream.specs.Operations.{firing_ops, ops_of}
use Rattle.lucy_stream.specs.Plans.{times}

pub gives_in_takes : (r : ℕ) (ts : List ℕ) → count_by (is_give r) (map Takes ts) ≡ 0
gives_in_takes r [] = refl
gives_in_takes r (t ∷ ts) = gives_in_takes r ts

pub gives_in_gives : (r : ℕ) (gs : List ℕ) → count_by (is_give r) (map Gives gs) ≡ times r gs
gives_in_gives r [] = refl
gives_in_gives r (g ∷ gs) =
    let a : count_by (is_give r) (Gives g ∷ map Gives gs) ≡ cond (eqb g r) 1 0 + count_by (is_give r) (map Gives gs) = sum_by-cons (λ x. cond (is_give r x) 1 0) (Gives g) (map Gives gs) in
    let b : times r (g ∷ gs) ≡ cond (eqb g r) 1 0 + times r gs = sum_by-cons (λ s. cond (eqb s r) 1 0) g gs in
    omega (arith, gives_in_gives r gs)

pub takes_in_gives : (r : ℕ) (gs : List ℕ) → count_by (is_take r) (map Gives gs) ≡ 0
takes_in_gives r [] = refl
takes_in_gives r (g ∷ gs) = takes_in_gives r gs

pub takes_in_takes : (r : ℕ) (ts : List ℕ) → count_by (is_take r) (map Takes ts) ≡ times r ts
takes_in_takes r [] = refl
takes_in_takes r (t ∷ ts) =
    let a : count_by (is_take r) (Takes t ∷ map Takes ts) ≡ cond (eqb t r) 1 0 + count_by (is_take r) (map Takes ts) = sum_by-cons (λ x. cond (is_take r x) 1 0) (Takes t) (map Takes ts) in
    let b : times r (t ∷ ts) ≡ cond (eqb t r) 1 0 + times r ts = sum_by-cons (λ s. cond (eqb s r) 1 0) t ts in
    omega (arith, takes_in_takes r ts)

pub count_append : (p : RingOp → Bool) (xs ys : List RingOp) → count_by p (xs ++ ys) ≡ count_by p xs + count_by p ys
count_append p xs ys = sum_by-append (λ x. cond (p x) 1 0) xs ys

pub no_give : (r : ℕ) (ts : List ℕ) (i : ℕ) → get_or (map Takes ts) i (Takes 0) ≡ Gives r → ⊥
no_give r [] i e = cc
no_give r (t ∷ ts) zero e = cc
no_give r (t ∷ ts) (suc i) e = no_give r ts i e

-- the gives of one firing to a ring, by the form
abbrev pub gives_in : Form → List ℕ → ℕ → ℕ → ℕ
gives_in (Kept word) gives fired r = cond (bit_at word (fired + 1)) (times r gives) 0
gives_in form gives fired r = times r gives

count_two : (r : ℕ) (ts gs : List ℕ) → count_by (is_give r) (map Takes ts ++ map Gives gs) ≡ times r gs
count_two r ts gs = omega (arith, count_append (is_give r) (map Takes ts) (map Gives gs), gives_in_takes r ts, gives_in_gives r gs)

pub gives_in_firing : (form : Form) (takes gives : List ℕ) (fired r : ℕ) → count_by (is_give r) (firing_ops form takes gives fired) ≡ gives_in form gives fired r
gives_in_firing (Kept word) takes gives k r = elim (cases_Bool (bit_at word (k + 1))) [
  | inl h ↦
      ap (λ c. count_by (is_give r) (map Takes takes ++ cond c (map Gives gives) [])) h ∙ count_two r takes gives ∙ sym (ap (λ c. cond c (times r gives) 0) h)
  | inr h ↦
      ap (λ c. count_by (is_give r) (map Takes takes ++ cond c (map Gives gives) [])) h ∙ count_two r takes [] ∙ sym (ap (λ c. cond c (times r gives) 0) h)
]
gives_in_firing (Merged word) takes gives k r = gives_in_gives r gives
gives_in_firing (Delayed first) takes gives k r =
    omega (arith, count_append (is_give r) (map Gives gives) (map Takes takes), gives_in_takes r takes, gives_in_gives r gives)
gives_in_firing form takes gives k r = count_two r takes gives

gave_more : (form : Form) (gives : List ℕ) (k r : ℕ) → times r gives ≡ 1 → gave_in form (suc k) ≡ gave_in form k + gives_in form gives k r
gave_more (Kept word) gives k r one =
    let a : ones_to word (suc k) ≡ ones_to word (k + 1) = ap (ones_to word) (omega arith) in
    let b : cond (bit_at word (k + 1)) (times r gives) 0 ≡ one_if (bit_at word (k + 1)) = ap (λ n. cond (bit_at word (k + 1)) n 0) one in
    omega (arith, ones_to-more word k)
gave_more form gives k r one = omega arith

-- the gives of the first firings to a ring of the actor
pub gives_in_ops : (form : Form) (takes gives : List ℕ) (fired r : ℕ) → times r gives ≡ 1 → count_by (is_give r) (ops_of form takes gives fired) ≡ gave_in form fired
gives_in_ops (Kept word) takes gives zero r one = sym (ones_to-none word)
gives_in_ops form takes gives zero r one = refl
gives_in_ops form takes gives (suc k) r one =
    let a : count_by (is_give r) (ops_of form takes gives k ++ firing_ops form takes gives k) ≡ count_by (is_give r) (ops_of form takes gives k) + count_by (is_give r) (firing_ops form takes gives k) =
    count_append (is_give r) (ops_of form takes gives k) (firing_ops form takes gives k) in
    omega (arith, gives_in_ops form takes gives k r one, gives_in_firing form takes gives k r, gave_more form gives k r one)

-- a give in a firing of a when shows its bit
pub does_give : (form : Form) (takes gives : List ℕ) (fired i r : ℕ) → get_or (firing_ops form takes gives fired) i (Takes 0) ≡ Gives r → DoesGive form fired
does_give (Kept word) takes gives k i r e = elim (cases_Bool (bit_at word (k + 1))) [
  | inl h ↦ h
  | inr h ↦
      let f : get_or (map Takes takes ++ []) i (Takes 0) ≡ Gives r = ap (λ c. get_or (map Takes takes ++ cond c (map Gives gives) []) i (Takes 0)) (sym h) ∙ e in
      absurd (no_give r takes i (ap (λ xs. get_or xs i (Takes 0)) (sym (append-nil (map Takes takes))) ∙ f))
]
does_give form takes gives k i r e = tt
