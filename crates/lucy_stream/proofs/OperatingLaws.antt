-- In which firing an operation is, and what stands before it.
use Rattle.std.proofs.Common.{ℕ, suc, zero, ◌+◌, ◌-◌, ◌<◌, ◌≤◌, ◌≡◌, Bool, List, [], ◌∷◌, ◌++◌, length, get_or, take, ap, refl, ◌∙◌, inl, inr, arith, length-append}
use Rattle.std.specs.Prelude.{count_by, replicate}
use Rattle.std.proofs.lemmas.Bool.{cases_lt}
use Rattle.std.proofs.lemmas.List.{take-append-le, get_or_append_left, get_or-append_right, length-replicate, get_or-replicate}
use Rattle.lucy_stream.specs.Forms.{Form}
use Rattle.lucy_stream.specs.Systems.{RingOp, Takes}
use Rattle.lucy_stream.specs.Operations.{firing_ops, ops_of, fired_at}
use Rattle.lucy_stream.proofs.GiveCounts.{count_append}

-- the operation after `n` others: which firing it is in, and what stands before it
pub record IsIn (form : Form) (takes gives : List ℕ) (quota n fired i : ℕ) : Type 0 where
  pub below : fired < quota
  pub within : i < length (firing_ops form takes gives fired)
  pub op : get_or (ops_of form takes gives quota) n (Takes 0) ≡ get_or (firing_ops form takes gives fired) i (Takes 0)
  pub number : get_or (fired_at form takes gives quota) n 0 ≡ fired
  pub before : (p : RingOp → Bool) → count_by p (take n (ops_of form takes gives quota)) ≡ count_by p (ops_of form takes gives fired) + count_by p (take i (firing_ops form takes gives fired))

pub same_length : (form : Form) (takes gives : List ℕ) (quota : ℕ) → length (fired_at form takes gives quota) ≡ length (ops_of form takes gives quota)
same_length form takes gives zero = refl
same_length form takes gives (suc q) =
    let a : List RingOp = firing_ops form takes gives q in
    omega (arith, length-append (fired_at form takes gives q) (replicate (length a) q), length-replicate (length a) q, length-append (ops_of form takes gives q) a, same_length form takes gives q)

pub take_past : {X : Type 0} (xs ys : List X) (n : ℕ) → length xs ≤ n → take n (xs ++ ys) ≡ xs ++ take (n - length xs) ys
take_past [] ys n h = ap (λ k. take k ys) (omega arith)
take_past (x ∷ xs) ys zero h = absurd (omega arith)
take_past (x ∷ xs) ys (suc n) h = ap (λ t. x ∷ t) (take_past xs ys n (omega arith)) ∙ ap (λ k. x ∷ (xs ++ take k ys)) (omega arith)

pub find_firing : (form : Form) (takes gives : List ℕ) (quota n : ℕ) → n < length (ops_of form takes gives quota) → (fired : ℕ) × (i : ℕ) × IsIn form takes gives quota n fired i
find_firing form takes gives zero n l = absurd (omega arith)
find_firing form takes gives (suc q) n l =
    let old : List RingOp = ops_of form takes gives q in
    let new : List RingOp = firing_ops form takes gives q in
    let nums : List ℕ = fired_at form takes gives q in
    let len : length nums ≡ length old = same_length form takes gives q in
    elim (cases_lt n (length old)) [
      | inl h ↦
          let r = find_firing form takes gives q n h in
          let s : IsIn form takes gives q n r.0 r.1 = r.2 in (
            r.0,
            r.1,
            record {
              below = omega (arith, s.below);
              within = s.within;
              op = get_or_append_left old new (Takes 0) n h ∙ s.op;
              number = get_or_append_left nums (replicate (length new) q) 0 n (omega arith) ∙ s.number;
              before = λ p. ap (count_by p) (take-append-le n old new (omega arith)) ∙ s.before p;
            },
          )
      | inr h ↦
          let i : ℕ = n - length old in
          let total : length (old ++ new) ≡ length old + length new = length-append old new in (
            q,
            i,
            record {
              below = omega arith;
              within = omega arith;
              op = get_or-append_right old new (length old) n (Takes 0) refl h;
              number = get_or-append_right nums (replicate (length new) q) (length old) n 0 len h ∙ get_or-replicate (length new) i q 0 (omega arith);
              before = λ p. ap (count_by p) (take_past old new n h) ∙ count_append p old (take i new);
            },
          )
    ]
