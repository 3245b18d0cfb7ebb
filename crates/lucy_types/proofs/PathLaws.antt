-- The way back from a place to the first of its class.
use Rattle.std.proofs.Common.{ℕ, ◌≡◌, ◌≤◌, ◌<◌, List, [], ◌∷◌, ◌++◌, Some, reverse, ap, sym, ◌∙◌, subst, inl, inr, arith}
use Rattle.std.proofs.lemmas.List.{reverse-append}
use Rattle.std.proofs.lemmas.Option.{same_Some}
use Rattle.lucy_types.specs.declared.ty.Ty.TheVariants as ty
use Rattle.lucy_types.specs.declared.graph.Graph.{Graph}
use Rattle.lucy_types.specs.declared.flood.Flood.{Flood}
use Rattle.lucy_types.specs.declared.flood.Reached.{Reached}
use Rattle.lucy_types.specs.Graphs.{GraphRule}
use Rattle.lucy_types.specs.Flooding.{mark, reached, IsFlood}
use Rattle.lucy_types.specs.Clash.{Touch, EndsInBool, IsClashPath}

-- the path, last place first, goes back to an int place that stands here in the queue
pub record Trails (g : Graph) (f : Flood) (i : ℕ) (path : List ℕ) : Type 0 where
  pub at : Reached
  pub stands : reached f i ≡ Some at
  pub int : mark f at.place ≡ Some ty.Int
  pub rest : List ℕ
  pub turned : reverse path ≡ at.place ∷ rest
  pub ends : EndsInBool (GraphRule g) at.place rest

-- a place from which another was reached goes before it
pub trail_more : (g : Graph) (f : Flood) (i : ℕ) (r before : Reached) (path more : List ℕ) → IsFlood g f → Trails g f i path → reached f i ≡ Some r → r.from < i
    → reached f r.from ≡ Some before → more ≡ path ++ before.place ∷ [] → Trails g f r.from more
trail_more g f i r before path more h t e l b m =
    let same : t.at ≡ r = same_Some t.at r (sym t.stands ∙ e) in
    let o = h.origin i r ty.Int e (ap (λ z. mark f z.place) (sym same) ∙ t.int) in
    elim o [
      | inl u ↦ absurd (let v : r.from ≡ i = u.0 in omega arith)
      | inr u ↦
          let one : u.1 ≡ before = same_Some u.1 before (sym u.2 ∙ b) in
          record {
            at = before;
            stands = b;
            int = ap (λ z. mark f z.place) (sym one) ∙ u.4;
            rest = r.place ∷ t.rest;
            turned = ap reverse m ∙ reverse-append path (before.place ∷ []) ∙ ap (λ ps. before.place ∷ ps) (t.turned ∙ ap (λ (z : Reached). z.place ∷ t.rest) same);
            ends = (subst (λ (z : Reached). Touch (GraphRule g) z.place r.place) one (inl u.3), subst (λ (z : Reached). EndsInBool (GraphRule g) z.place t.rest) same t.ends);
          }
    ]

-- the first of its class ends the way back
pub trail_ends : (g : Graph) (f : Flood) (i : ℕ) (r : Reached) (path turned : List ℕ) → IsFlood g f → Trails g f i path → reached f i ≡ Some r → i ≤ r.from
    → turned ≡ reverse path → IsClashPath (GraphRule g) turned
trail_ends g f i r path turned h t e l p =
    let same : t.at ≡ r = same_Some t.at r (sym t.stands ∙ e) in
    let o = h.origin i r ty.Int e (ap (λ z. mark f z.place) (sym same) ∙ t.int) in
    elim o [
      | inl u ↦ subst (IsClashPath (GraphRule g)) (sym (p ∙ t.turned ∙ ap (λ (z : Reached). z.place ∷ t.rest) same))
          (u.1, subst (λ (z : Reached). EndsInBool (GraphRule g) z.place t.rest) same t.ends)
      | inr u ↦ absurd (let v : r.from < i = u.0 in omega arith)
    ]
