-- One actor by itself.
use Rattle.std.proofs.Common.{ℕ, ◌+◌, ◌<◌, ◌≤◌, ◌≡◌, [], ◌∷◌, length, take, ap, sym, refl, ◌∙◌, subst, inl, inr, arith}
use Rattle.std.specs.Prelude.{ℤ, pos}
use Rattle.std.proofs.lemmas.Bool.{cases_lt}
use Rattle.std.proofs.lemmas.List.{take_all, length_push, get_or_push}
use Rattle.lucy_stream.specs.Items.{item_at}
use Rattle.lucy_stream.specs.Fronts.{IsFront}
use Rattle.lucy_stream.proofs.FrontLaws.{IsFront-length}
use Rattle.lucy_stream.specs.Systems.{RingOp, Takes, Gives, op_at, IsWired, is_give, gives_before, takes_before, given, taken}
use Rattle.lucy_stream.specs.Runs.{step}
use Rattle.lucy_stream.specs.States.{Machine, IsLocal, State, IsState}
use Rattle.lucy_stream.specs.Actors.{StandsAs, moved, IsSameAt}
use Rattle.lucy_stream.proofs.CountLaws.{count_take-lt, eqb-same, step-same, step-other, given-is, taken-is, gives_next, takes_next}
use Rattle.lucy_stream.proofs.EventLaws.{gave_after-give, gave_after-other, took_after-take, took_after-other, gave_after-item, took_after-take_front}
use Rattle.lucy_stream.proofs.StateLaws.{before_le}

pub all_stand : (m : Machine) (s : State) → ((a : ℕ) → StandsAs m a s) → ((r : ℕ) → IsFront (s.took r) (s.gave r)) → ((r : ℕ) → length (s.gave r) ≤ length (s.took r) + m.sys.size r + 1) → IsState m s
all_stand m s stands fronts most = record {
  within = record {
    listed = λ a. (stands a).listed;
    behind = λ r. omega (arith, IsFront-length (s.took r) (s.gave r) (fronts r), (stands (m.sys.to r)).took_count r refl, (stands (m.sys.from r)).gave_count r refl);
    fits = λ r. omega (arith, most r, (stands (m.sys.to r)).took_count r refl, (stands (m.sys.from r)).gave_count r refl);
  };
  gave_count = λ r. (stands (m.sys.from r)).gave_count r refl;
  took_count = λ r. (stands (m.sys.to r)).took_count r refl;
  fronts = fronts;
  values = λ a n r l op. (stands a).values n r l op;
}

pub each_stands : (m : Machine) (s : State) (a : ℕ) → IsState m s → StandsAs m a s
each_stands m s a is = record {
  listed = is.within.listed a;
  gave_count = λ r e. is.gave_count r;
  took_count = λ r e. is.took_count r;
  values = λ n r l op. is.values a n r l op;
}

-- another state that says the same of the actor
pub same_stands : (m : Machine) (s t : State) (a : ℕ) → IsWired m.sys → IsLocal m → IsSameAt m.sys a s t → StandsAs m a s → StandsAs m a t
same_stands m s t a wired local same is = record {
  listed = omega (arith, same.done, is.listed);
  gave_count = λ r e. ap length (same.gave r e) ∙ is.gave_count r e ∙ sym (given-is m.sys s.done a (t.done a) r e (sym same.done)) ∙ given-is m.sys t.done a (t.done a) r e refl;
  took_count = λ r e. ap length (same.took r e) ∙ is.took_count r e ∙ sym (taken-is m.sys s.done a (t.done a) r e (sym same.done)) ∙ taken-is m.sys t.done a (t.done a) r e refl;
  values = λ n r l op.
      let early : n < s.done a = omega (arith, same.done) in
      ap (λ xs. item_at xs (gives_before m.sys a n r)) (same.gave r (wired.giver a n r (omega (arith, is.listed)) op)) ∙ is.values n r early op
      ∙ local a n (λ q. take (takes_before m.sys a n q) (s.took q)) (λ q. take (takes_before m.sys a n q) (t.took q)) (λ q e. ap (take (takes_before m.sys a n q)) (sym (same.took q e)));
}

gave_length : (m : Machine) (s : State) (a r : ℕ) (item : ℤ) → IsWired m.sys → s.done a < length (m.sys.ops a) → length (s.gave r) ≡ given m.sys s.done r →
    length ((moved m s a item).gave r) ≡ given m.sys (step s.done a) r
gave_length m s a r item wired l h =
    let op : RingOp = op_at m.sys a (s.done a) in
    let v : ℤ = m.value a (s.done a) s.took in
    elim (gives_next m.sys s.done a r wired l) [
      | inl g ↦ ap length (gave_after-give op r v (s.gave r) g.0) ∙ length_push (s.gave r) v ∙ omega (arith, g.1)
      | inr g ↦ ap length (gave_after-other op r v (s.gave r) g.0) ∙ omega (arith, g.1)
    ]

took_length : (m : Machine) (s : State) (a r : ℕ) (item : ℤ) → IsWired m.sys → s.done a < length (m.sys.ops a) → length (s.took r) ≡ taken m.sys s.done r →
    length ((moved m s a item).took r) ≡ taken m.sys (step s.done a) r
took_length m s a r item wired l h =
    let op : RingOp = op_at m.sys a (s.done a) in
    elim (takes_next m.sys s.done a r wired l) [
      | inl t ↦ ap length (took_after-take op r (item ∷ []) (s.took r) t.0) ∙ length_push (s.took r) item ∙ omega (arith, t.1)
      | inr t ↦ ap length (took_after-other op r (item ∷ []) (s.took r) t.0) ∙ omega (arith, t.1)
    ]

same_value : (m : Machine) (s : State) (a b n : ℕ) (item : ℤ) → IsLocal m → ((r : ℕ) → m.sys.to r ≡ b → length (s.took r) ≡ taken m.sys s.done r) → n ≤ s.done b →
    m.value b n (λ q. take (takes_before m.sys b n q) (s.took q)) ≡ m.value b n (λ q. take (takes_before m.sys b n q) ((moved m s a item).took q))
same_value m s a b n item local counts l =
    local b n (λ q. take (takes_before m.sys b n q) (s.took q)) (λ q. take (takes_before m.sys b n q) ((moved m s a item).took q))
    (λ q t. sym (took_after-take_front (op_at m.sys a (s.done a)) q (item ∷ []) (s.took q) (takes_before m.sys b n q) (before_le m s b n q t l (counts q t))))

-- an old operation keeps its value
old_value : (m : Machine) (s : State) (a b n r : ℕ) (item : ℤ) → IsWired m.sys → IsLocal m → StandsAs m b s → n < s.done b → op_at m.sys b n ≡ Gives r →
    item_at ((moved m s a item).gave r) (gives_before m.sys b n r) ≡ m.value b n (λ q. take (takes_before m.sys b n q) ((moved m s a item).took q))
old_value m s a b n r item wired local stands old op =
    let v : ℤ = m.value a (s.done a) s.took in
    let within : n < length (m.sys.ops b) = omega (arith, stands.listed) in
    let own : m.sys.from r ≡ b = wired.giver b n r within op in
    let below : gives_before m.sys b n r < gives_before m.sys b (s.done b) r = count_take-lt (is_give r) (m.sys.ops b) n (s.done b) (Takes 0) old within (ap (is_give r) op ∙ eqb-same r) in
    let place : gives_before m.sys b (s.done b) r ≡ given m.sys s.done r = given-is m.sys s.done b (s.done b) r own refl in
    gave_after-item (op_at m.sys a (s.done a)) r v (s.gave r) (gives_before m.sys b n r) (omega (arith, stands.gave_count r own))
    ∙ stands.values n r old op ∙ same_value m s a b n item local stands.took_count (omega arith)

-- the new operation gives its value
new_value : (m : Machine) (s : State) (a r : ℕ) (item : ℤ) → IsWired m.sys → IsLocal m → StandsAs m a s → s.done a < length (m.sys.ops a) → op_at m.sys a (s.done a) ≡ Gives r →
    item_at ((moved m s a item).gave r) (gives_before m.sys a (s.done a) r) ≡ m.value a (s.done a) (λ q. take (takes_before m.sys a (s.done a) q) ((moved m s a item).took q))
new_value m s a r item wired local stands l op =
    let n : ℕ = s.done a in
    let v : ℤ = m.value a n s.took in
    let own : m.sys.from r ≡ a = wired.giver a n r l op in
    let place : gives_before m.sys a n r ≡ given m.sys s.done r = given-is m.sys s.done a n r own refl in
    let got : item_at ((moved m s a item).gave r) (gives_before m.sys a n r) ≡ v =
    ap (λ xs. item_at xs (gives_before m.sys a n r)) (gave_after-give (op_at m.sys a n) r v (s.gave r) op) ∙ get_or_push (s.gave r) v (pos 0) (gives_before m.sys a n r) (omega (arith, stands.gave_count r own)) in
    let all : v ≡ m.value a n (λ q. take (takes_before m.sys a n q) (s.took q)) =
    local a n s.took (λ q. take (takes_before m.sys a n q) (s.took q)) (λ q t. sym (take_all (takes_before m.sys a n q) (s.took q) (omega (arith, stands.took_count q t, taken-is m.sys s.done a n q t refl)))) in
    got ∙ all ∙ same_value m s a a n item local stands.took_count (omega arith)

pub own_moves : (m : Machine) (s : State) (a : ℕ) (item : ℤ) → IsWired m.sys → IsLocal m → StandsAs m a s → s.done a < length (m.sys.ops a) → StandsAs m a (moved m s a item)
own_moves m s a item wired local stands l = record {
  listed = omega (arith, step-same s.done a);
  gave_count = λ r e. gave_length m s a r item wired l (stands.gave_count r e);
  took_count = λ r e. took_length m s a r item wired l (stands.took_count r e);
  values = λ n r more op. elim (cases_lt n (s.done a)) [
    | inl old ↦ old_value m s a a n r item wired local stands old op
    | inr new ↦
        let last : s.done a ≡ n = omega (arith, step-same s.done a) in
        let Gave : ℕ → Type 0 = λ (k : ℕ). op_at m.sys a k ≡ Gives r → item_at ((moved m s a item).gave r) (gives_before m.sys a k r) ≡ m.value a k (λ q. take (takes_before m.sys a k q) ((moved m s a item).took q)) in
        let here : Gave (s.done a) = new_value m s a r item wired local stands l in
        subst (λ (k : ℕ). Gave k) last here op
  ];
}

pub other_moves : (m : Machine) (s : State) (a b : ℕ) (item : ℤ) → IsWired m.sys → IsLocal m → StandsAs m b s → s.done a < length (m.sys.ops a) → (a ≡ b → ⊥) → StandsAs m b (moved m s a item)
other_moves m s a b item wired local stands l ne = record {
  listed = omega (arith, stands.listed, step-other s.done a b ne);
  gave_count = λ r e. gave_length m s a r item wired l (stands.gave_count r e);
  took_count = λ r e. took_length m s a r item wired l (stands.took_count r e);
  values = λ n r more op. old_value m s a b n r item wired local stands (omega (arith, step-other s.done a b ne)) op;
}
