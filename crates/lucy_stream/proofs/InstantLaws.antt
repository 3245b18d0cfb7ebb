-- Within an instant an actor can go on, or it waits for an item that another one gives later in it.
use Rattle.std.proofs.Common.{ℕ, ◌<◌, ◌≤◌, ◌≡◌, ◌⊎◌, length, sym, refl, ◌∙◌, subst, inl, inr, arith}
use Rattle.std.proofs.lemmas.Bool.{cases_lt}
use Rattle.lucy_stream.specs.Systems.{RingOp, Takes, Gives, System, op_at, IsWired, given, taken}
use Rattle.lucy_stream.specs.Runs.{IsPossible}
use Rattle.lucy_stream.specs.Instants.{IsInstant, Waits}
use Rattle.lucy_stream.proofs.CountLaws.{given-le, taken-le, given-lt, taken-lt}

by_op : (sys : System) (before after s : ℕ → ℕ) (a : ℕ) → IsWired sys → IsInstant sys before after → ((b : ℕ) → before b ≤ s b) → ((b : ℕ) → s b ≤ after b) → s a < after a → (op : RingOp) → op_at sys a (s a) ≡ op →
    IsPossible sys s a ⊎ ((r : ℕ) × Waits sys after s a r)
by_op sys before after s a wired instant lo hi l (Gives r) e =
    let within : s a < length (sys.ops a) = omega (arith, instant.listed a) in
    inl (record {
      left = within;
      item_held = λ q op. (let same : Gives r ≡ Takes q = sym e ∙ op in absurd (cc));
      room_left = λ q op.
          let more : given sys s q < given sys after q = given-lt sys s after a q wired l within op in
          omega (arith, instant.fits q, instant.one q, taken-le sys before s q (lo (sys.to q)));
    })
by_op sys before after s a wired instant lo hi l (Takes r) e =
    let within : s a < length (sys.ops a) = omega (arith, instant.listed a) in
    elim (cases_lt (taken sys s r) (given sys s r)) [
      | inl some ↦ inl (record {
        left = within;
        item_held = λ q op. (let same : Takes r ≡ Takes q = sym e ∙ op in let ring : r ≡ q = cc in subst (λ (t : ℕ). taken sys s t < given sys s t) ring some);
        room_left = λ q op. (let same : Takes r ≡ Gives q = sym e ∙ op in absurd (cc));
      })
      | inr none ↦
          let takes : taken sys s r < taken sys after r = taken-lt sys s after a r wired l within e in
          let gives : given sys s r < given sys after r = omega (arith, instant.there r) in
          inr (
            r,
            record {
              takes = e;
              empty = none;
              later = gives;
              giver = elim (cases_lt (s (sys.from r)) (after (sys.from r))) [
                | inl left ↦ left
                | inr done ↦ absurd (omega (arith, given-le sys after s r done))
              ];
            },
          )
    ]

pub possible_or_waits : (sys : System) (before after s : ℕ → ℕ) (a : ℕ) → IsWired sys → IsInstant sys before after → ((b : ℕ) → before b ≤ s b) → ((b : ℕ) → s b ≤ after b) → s a < after a →
    IsPossible sys s a ⊎ ((r : ℕ) × Waits sys after s a r)
possible_or_waits sys before after s a wired instant lo hi l = by_op sys before after s a wired instant lo hi l (op_at sys a (s a)) refl
