-- The events between two states, in the order of a whole run, lead from the one to the other: by counts.
use Rattle.std.proofs.Common.{ℕ, ◌<◌, ◌≤◌, ◌≡◌, ◌⊎◌, Bool, cond, leb, ltb, ◌&&◌, List, [], ◌∷◌, ◌++◌, min, max, ap, sym, refl, ◌∙◌, subst, inl, inr, arith}
use Rattle.std.proofs.lemmas.Bool.{cases_lt, cases_eq, cases_Bool, leb-true, leb-false, and_parts, and_cases, ltb-true, ltb-false, lt-leb}
use Rattle.lucy_stream.specs.Systems.{Takes, Gives, System, op_at, IsWired, given, taken}
use Rattle.lucy_stream.specs.Runs.{IsPossible, none_done, step, IsRun, after, Leads, IsWhole, IsWithin, between_from, between}
use Rattle.lucy_stream.proofs.CountLaws.{step-same, step-other, given-le, taken-le, given-lt, taken-lt}
use Rattle.lucy_stream.proofs.RunLaws.{after-le}

-- s held between low and high
abbrev pub clamp : (ℕ → ℕ) → (ℕ → ℕ) → (ℕ → ℕ) → ℕ → ℕ
clamp low high s b = max (low b) (min (s b) (high b))

-- an event of a run that is done in high and not in low is possible where s is held between them
pub can_between : (sys : System) (low high s m : ℕ → ℕ) (a : ℕ) → IsWired sys → IsWithin sys high → IsPossible sys s a →
    low a ≤ s a → s a < high a → ((b : ℕ) → m b ≡ clamp low high s b) → IsPossible sys m a
can_between sys low high s m a wired w can la ha same =
    let e : m a ≡ s a = omega (arith, same a) in
    record {
      left = omega (arith, can.left);
      item_held = λ r op.
          let q : op_at sys a (s a) ≡ Takes r = ap (op_at sys a) (sym e) ∙ op in
          let t : sys.to r ≡ a = wired.taker a (s a) r can.left q in
          let k : m (sys.to r) ≡ s (sys.to r) = subst (λ (b : ℕ). m b ≡ s b) (sym t) e in
          let mt : taken sys m r ≤ taken sys s r = taken-le sys m s r (omega arith) in
          let more : taken sys s r < taken sys high r = taken-lt sys s high a r wired ha can.left q in
          elim (cases_lt (high (sys.from r)) (s (sys.from r))) [
            | inl l ↦
                let g : given sys high r ≤ given sys m r = given-le sys high m r (omega (arith, same (sys.from r))) in
                omega (arith, w.behind r)
            | inr l ↦
                let g : given sys s r ≤ given sys m r = given-le sys s m r (omega (arith, same (sys.from r))) in
                omega (arith, can.item_held r q)
          ];
      room_left = λ r op.
          let q : op_at sys a (s a) ≡ Gives r = ap (op_at sys a) (sym e) ∙ op in
          let t : sys.from r ≡ a = wired.giver a (s a) r can.left q in
          let k : m (sys.from r) ≡ s (sys.from r) = subst (λ (b : ℕ). m b ≡ s b) (sym t) e in
          let mg : given sys m r ≤ given sys s r = given-le sys m s r (omega arith) in
          let more : given sys s r < given sys high r = given-lt sys s high a r wired ha can.left q in
          elim (cases_lt (high (sys.to r)) (s (sys.to r))) [
            | inl l ↦
                let g : taken sys high r ≤ taken sys m r = taken-le sys high m r (omega (arith, same (sys.to r))) in
                omega (arith, w.fits r)
            | inr l ↦
                let g : taken sys s r ≤ taken sys m r = taken-le sys s m r (omega (arith, same (sys.to r))) in
                omega (arith, can.room_left r q)
          ];
    }

-- one more event of the order, where it is between low and high, and where it isn't
clamp_in : (low high s m : ℕ → ℕ) (a : ℕ) → low a ≤ s a → s a < high a → ((b : ℕ) → m b ≡ clamp low high s b) → (b : ℕ) →
    step m a b ≡ clamp low high (step s a) b
clamp_in low high s m a la ha same b = elim (cases_eq a b) [
  | inl e ↦ subst (λ (c : ℕ). step m a c ≡ clamp low high (step s a) c) e (omega (arith, step-same m a, step-same s a, same a))
  | inr n ↦ omega (arith, step-other m a b n, step-other s a b n, same b)
]

clamp_out : (low high s m : ℕ → ℕ) (a : ℕ) → (s a < low a) ⊎ (high a ≤ s a) → ((b : ℕ) → m b ≡ clamp low high s b) → (b : ℕ) →
    m b ≡ clamp low high (step s a) b
clamp_out low high s m a out same b = elim (cases_eq a b) [
  | inl e ↦ subst (λ (c : ℕ). m c ≡ clamp low high (step s a) c) e (elim out [
    | inl l ↦ omega (arith, step-same s a, same a)
    | inr l ↦ omega (arith, step-same s a, same a)
  ])
  | inr n ↦ omega (arith, step-other s a b n, same b)
]

leads_same : (sys : System) (m : ℕ → ℕ) (picks : List ℕ) (e f : ℕ → ℕ) → Leads sys m picks e → ((b : ℕ) → e b ≡ f b) → Leads sys m picks f
leads_same sys m picks e f l h = record { run = l.run; ends = λ b. l.ends b ∙ h b }

-- the events between low and high, in the order of a run, lead from the one to the other
pub between_leads : (sys : System) (low high s m : ℕ → ℕ) (order : List ℕ) → IsWired sys → IsWithin sys high → IsRun sys s order →
    ((b : ℕ) → m b ≡ clamp low high s b) → Leads sys m (between_from low high s order) (clamp low high (after s order))
between_leads sys low high s m [] wired w run same = record { run = tt; ends = same }
between_leads sys low high s m (a ∷ order) wired w run same =
    let here : List ℕ → Type 0 = λ (picks : List ℕ). Leads sys m picks (clamp low high (after (step s a) order)) in
    let rest : List ℕ = between_from low high (step s a) order in
    elim (cases_Bool (leb (low a) (s a) && ltb (s a) (high a))) [
      | inl y ↦
          let p = and_parts (leb (low a) (s a)) (ltb (s a) (high a)) y in
          let l : low a ≤ s a = leb-true (low a) (s a) p.0 in
          let h : s a < high a = ltb-true (s a) (high a) p.1 in
          let r = between_leads sys low high (step s a) (step m a) order wired w run.1 (clamp_in low high s m a l h same) in
          let c : IsPossible sys m a = can_between sys low high s m a wired w run.0 l h same in
          let done : here (a ∷ rest) = record { run = (c, r.run); ends = r.ends } in
          subst (λ (b : Bool). here (cond b (a ∷ rest) rest)) (sym y) done
      | inr z ↦
          let out : (s a < low a) ⊎ (high a ≤ s a) = elim (and_cases (leb (low a) (s a)) (ltb (s a) (high a)) z) [
            | inl f ↦ inl (leb-false (low a) (s a) f)
            | inr f ↦ inr (ltb-false (s a) (high a) f)
          ] in
          let done : here rest = between_leads sys low high (step s a) m order wired w run.1 (clamp_out low high s m a out same) in
          subst (λ (b : Bool). here (cond b (a ∷ rest) rest)) (sym z) done
    ]

-- a state within its bounds is reached by counts, from any earlier one
pub converse-counts : (sys : System) (low high : ℕ → ℕ) (order : List ℕ) → IsWired sys → IsWhole sys order → IsWithin sys high → ((b : ℕ) → low b ≤ high b) →
    Leads sys low (between low high order) high
converse-counts sys low high order wired whole w h =
    let found : Leads sys low (between low high order) (clamp low high (after none_done order)) =
    between_leads sys low high none_done low order wired w whole.run (λ b. omega (arith, h b)) in
    leads_same sys low (between low high order) (clamp low high (after none_done order)) high found (λ b. omega (arith, whole.all b, w.listed b, h b))

-- events that low has are passed over
between_front : (low high s : ℕ → ℕ) (front rest : List ℕ) → ((b : ℕ) → after s front b ≤ low b) → between_from low high s (front ++ rest) ≡ between_from low high (after s front) rest
between_front low high s [] rest h = refl
between_front low high s (a ∷ front) rest h =
    let more : List ℕ = between_from low high (step s a) (front ++ rest) in
    let past : s a < low a = omega (arith, h a, after-le (step s a) front a, step-same s a) in
    ap (λ c. cond (c && ltb (s a) (high a)) (a ∷ more) more) (lt-leb (low a) (s a) past) ∙ between_front low high (step s a) front rest h

pub between_rest : (low high : ℕ → ℕ) (front rest : List ℕ) → ((b : ℕ) → after none_done front b ≤ low b) → between low high (front ++ rest) ≡ between_from low high (after none_done front) rest
between_rest low high front rest h = between_front low high none_done front rest h
