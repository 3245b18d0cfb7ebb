-- Laws of events: what an operation makes of the lists given to a ring and taken from it.
use Rattle.std.proofs.Common.{ℕ, suc, ◌+◌, ◌<◌, ◌≤◌, ◌≡◌, Bool, cond, eqb, List, [], ◌∷◌, ◌++◌, length, take, drop, ap, sym, refl, ◌∙◌, subst, inl, inr, arith, length-append, length-drop}
use Rattle.std.specs.Prelude.{ℤ, pos}
use Rattle.std.proofs.lemmas.Bool.{cases_Bool, ne_eqb}
use Rattle.std.proofs.lemmas.List.{length-take, take-append-le, get_or_append_left}
use Rattle.lucy_stream.specs.Items.{item_at}
use Rattle.lucy_stream.specs.Fronts.{IsFront}
use Rattle.lucy_stream.proofs.FrontLaws.{IsFront-trans, IsFront-append, IsFront-more}
use Rattle.lucy_stream.specs.Systems.{RingOp, Takes, Gives, op_at}
use Rattle.lucy_stream.specs.Runs.{after}
use Rattle.lucy_stream.specs.States.{Machine, State, gave_after, took_after, event, events}
use Rattle.lucy_stream.proofs.CountLaws.{eqb-same}

-- a give to the ring appends
pub gave_after-give : (op : RingOp) (r : ℕ) (v : ℤ) (gave : List ℤ) → op ≡ Gives r → gave_after op r v gave ≡ gave ++ v ∷ []
gave_after-give op r v gave e = ap (λ o. gave_after o r v gave) e ∙ ap (λ c. cond c (gave ++ v ∷ []) gave) (eqb-same r)

-- any other operation leaves what was given
pub gave_after-other : (op : RingOp) (r : ℕ) (v : ℤ) (gave : List ℤ) → (op ≡ Gives r → ⊥) → gave_after op r v gave ≡ gave
gave_after-other (Takes q) r v gave h = refl
gave_after-other (Gives q) r v gave h = ap (λ c. cond c (gave ++ v ∷ []) gave) (ne_eqb q r (λ (e : q ≡ r). h (ap Gives e)))

-- a take from the ring moves the oldest item
pub took_after-take : (op : RingOp) (r : ℕ) (items took : List ℤ) → op ≡ Takes r → took_after op r items took ≡ took ++ take 1 items
took_after-take op r items took e = ap (λ o. took_after o r items took) e ∙ ap (λ c. cond c (took ++ take 1 items) took) (eqb-same r)

-- any other operation leaves what was taken
pub took_after-other : (op : RingOp) (r : ℕ) (items took : List ℤ) → (op ≡ Takes r → ⊥) → took_after op r items took ≡ took
took_after-other (Gives q) r items took h = refl
took_after-other (Takes q) r items took h = ap (λ c. cond c (took ++ take 1 items) took) (ne_eqb q r (λ (e : q ≡ r). h (ap Takes e)))

-- what was given and taken before stays
pub gave_after-item : (op : RingOp) (r : ℕ) (v : ℤ) (gave : List ℤ) (k : ℕ) → k < length gave → item_at (gave_after op r v gave) k ≡ item_at gave k
gave_after-item (Takes q) r v gave k h = refl
gave_after-item (Gives q) r v gave k h = elim (cases_Bool (eqb q r)) [
  | inl y ↦ ap (λ c. item_at (cond c (gave ++ v ∷ []) gave) k) y ∙ get_or_append_left gave (v ∷ []) (pos 0) k h
  | inr z ↦ ap (λ c. item_at (cond c (gave ++ v ∷ []) gave) k) z
]

pub took_after-take_front : (op : RingOp) (r : ℕ) (items took : List ℤ) (k : ℕ) → k ≤ length took → take k (took_after op r items took) ≡ take k took
took_after-take_front (Gives q) r items took k h = refl
took_after-take_front (Takes q) r items took k h = elim (cases_Bool (eqb q r)) [
  | inl y ↦ ap (λ c. take k (cond c (took ++ take 1 items) took)) y ∙ take-append-le k took (take 1 items) h
  | inr z ↦ ap (λ c. take k (cond c (took ++ take 1 items) took)) z
]

-- what was taken stays a front of what was given
pub front_after : (op : RingOp) (r : ℕ) (v : ℤ) (gave took : List ℤ) → IsFront took gave → IsFront (took_after op r (drop (length took) gave) took) (gave_after op r v gave)
front_after (Takes q) r v gave took f =
    let more : List ℤ = took ++ take 1 (drop (length took) gave) in
    elim (cases_Bool (eqb q r)) [
      | inl y ↦ subst (λ (c : Bool). IsFront (cond c more took) gave) (sym y) (IsFront-more took gave f)
      | inr z ↦ subst (λ (c : Bool). IsFront (cond c more took) gave) (sym z) f
    ]
front_after (Gives q) r v gave took f = elim (cases_Bool (eqb q r)) [
  | inl y ↦ subst (λ (c : Bool). IsFront took (cond c (gave ++ v ∷ []) gave)) (sym y) (IsFront-trans took gave (gave ++ v ∷ []) f (IsFront-append gave (v ∷ [])))
  | inr z ↦ subst (λ (c : Bool). IsFront took (cond c (gave ++ v ∷ []) gave)) (sym z) f
]

-- whatever the events are
pub fronts_after : (m : Machine) (s : State) (picks : List ℕ) → ((r : ℕ) → IsFront (s.took r) (s.gave r)) → (r : ℕ) → IsFront ((events m s picks).took r) ((events m s picks).gave r)
fronts_after m s [] h r = h r
fronts_after m s (a ∷ picks) h r =
    fronts_after m (event m s a) picks (λ q. front_after (op_at m.sys a (s.done a)) q (m.value a (s.done a) s.took) (s.gave q) (s.took q) (h q)) r

-- a list with the first of what it lacks
pub next_of : (xs ys : List ℤ) → IsFront xs ys → length xs < length ys → xs ++ take 1 (drop (length xs) ys) ≡ take (suc (length xs)) ys
next_of [] ys f l = refl
next_of (x ∷ xs) [] f l = absurd f
next_of (x ∷ xs) (y ∷ ys) f l = ap (λ t. t ∷ (xs ++ take 1 (drop (length xs) ys))) f.0 ∙ ap (λ t. y ∷ t) (next_of xs ys f.1 (omega arith))

pub next_length : (xs ys : List ℤ) → length xs < length ys → length (xs ++ take 1 (drop (length xs) ys)) ≡ length xs + 1
next_length xs ys l = omega (arith, length-append xs (take 1 (drop (length xs) ys)), length-take 1 (drop (length xs) ys), length-drop (length xs) ys)

-- the counts of a state that events lead to
pub events-done : (m : Machine) (s : State) (picks : List ℕ) (b : ℕ) → (events m s picks).done b ≡ after s.done picks b
events-done m s [] b = refl
events-done m s (a ∷ picks) b = events-done m (event m s a) picks b
