-- Turns, one after another.
use Rattle.std.proofs.Common.{ℕ, suc, zero, [], ◌∷◌, ◌≡◌, ◌∙◌, ◌+◌, ◌<◌, ◌≤◌, sym, ap, refl, subst, inl, inr, List, length, get_or, set, All, arith}
use Rattle.std.specs.Prelude.{ℤ}
use Rattle.std.proofs.lemmas.Bool.{cases_eq}
use Rattle.std.proofs.lemmas.List.{get_or-set_same, get_or-set_other, length-map, length-set}
use Rattle.std.proofs.lemmas.List.Elements.{All-set}
use Rattle.std.proofs.lemmas.List.Sums.{sum_by-set, sum_by-cons}
use Rattle.lucy_host.specs.declared.kind.HostKind.{HostKind}
use Rattle.lucy_stream.proofs.FrontLaws.{IsFront-refl, IsFront-trans}
use Rattle.lucy_net.specs.declared.kind.ActorKind.{ActorKind}
use Rattle.lucy_net.specs.declared.kind.ActorKind.TheVariants as kind
use Rattle.lucy_net.specs.declared.net.Actor.{Actor}
use Rattle.lucy_net.specs.Plans.{form_of}
use Rattle.lucy_net.specs.States.{IsPlain, KnowsOperator}
use Rattle.lucy_worker.specs.declared.part.Part.{Part}
use Rattle.lucy_worker.specs.Parts.{done_of, CanMove}
use Rattle.lucy_worker.specs.Turns.{IsServed, PutsMore, HasRun, HaveRun, HaveMoved, NoneCan, done_by, giver_name, taker_name}
use Rattle.lucy_worker.specs.News.{ends_of}
use Rattle.lucy_worker.specs.Readiness.{left_of, IsReady, AreReady, HaveRunBy}

pub puts_none : (what : ActorKind) (items : List ℤ) → PutsMore what items items
puts_none (kind.Output output) items = IsFront-refl items
puts_none (kind.Input input) items = refl
puts_none (kind.Lit value) items = refl
puts_none (kind.Op op) items = refl
puts_none (kind.Host op) items = refl
puts_none (kind.When word) items = refl
puts_none (kind.Merge word) items = refl
puts_none (kind.Fby first) items = refl
puts_none kind.Pass items = refl

puts_on : (what : ActorKind) (xs ys zs : List ℤ) → PutsMore what xs ys → PutsMore what ys zs → PutsMore what xs zs
puts_on (kind.Output output) xs ys zs a b = IsFront-trans xs ys zs a b
puts_on (kind.Input input) xs ys zs a b = b ∙ a
puts_on (kind.Lit value) xs ys zs a b = b ∙ a
puts_on (kind.Op op) xs ys zs a b = b ∙ a
puts_on (kind.Host op) xs ys zs a b = b ∙ a
puts_on (kind.When word) xs ys zs a b = b ∙ a
puts_on (kind.Merge word) xs ys zs a b = b ∙ a
puts_on (kind.Fby first) xs ys zs a b = b ∙ a
puts_on kind.Pass xs ys zs a b = b ∙ a

pub stays : (kinds : List HostKind) (p : Part) → HasRun kinds p p
stays kinds p = record {
  number = refl;
  actor = refl;
  quota = refl;
  input = refl;
  output = puts_none p.actor.kind p.output.items;
  givers = refl;
  takers = refl;
  gave = λ j d. IsFront-refl (get_or p.givers.items j d).given;
  took = λ j d. IsFront-refl (get_or p.takers.items j d).taken;
  further = omega arith;
  stands = λ inputs net instants base front at. at;
}

pub goes_on : (kinds : List HostKind) (p q r : Part) → HasRun kinds p q → HasRun kinds q r → HasRun kinds p r
goes_on kinds p q r a b = record {
  number = b.number ∙ a.number;
  actor = b.actor ∙ a.actor;
  quota = b.quota ∙ a.quota;
  input = b.input ∙ a.input;
  output = puts_on p.actor.kind p.output.items q.output.items r.output.items a.output (subst (λ (x : Actor). PutsMore x.kind q.output.items r.output.items) a.actor b.output);
  givers = b.givers ∙ a.givers;
  takers = b.takers ∙ a.takers;
  gave = λ j d. IsFront-trans (get_or p.givers.items j d).given (get_or q.givers.items j d).given (get_or r.givers.items j d).given (a.gave j d) (b.gave j d);
  took = λ j d. IsFront-trans (get_or p.takers.items j d).taken (get_or q.takers.items j d).taken (get_or r.takers.items j d).taken (a.took j d) (b.took j d);
  further = (let x = a.further in let y = b.further in omega arith);
  stands = λ inputs net instants base front at. b.stands inputs net instants base front (a.stands inputs net instants base front at);
}

pub all_stay : (kinds : List HostKind) (ps : List Part) → HaveRun kinds ps ps
all_stay kinds ps = record { as_many = refl; run = λ k d l. stays kinds (get_or ps k d) }

pub run_on : (kinds : List HostKind) (ps qs rs : List Part) → HaveRun kinds ps qs → HaveRun kinds qs rs → HaveRun kinds ps rs
run_on kinds ps qs rs a b = record {
  as_many = b.as_many ∙ a.as_many;
  run = λ k d l. goes_on kinds (get_or ps k d) (get_or qs k d) (get_or rs k d) (a.run k d l) (b.run k d (let e = a.as_many in omega arith));
}

-- a part keeps its ends and its operator
pub same_ends : (kinds : List HostKind) (p q : Part) → HasRun kinds p q → ends_of q ≡ ends_of p
same_ends kinds p q run =
    let g : length q.givers.items ≡ length p.givers.items = sym (length-map q.givers.items giver_name) ∙ ap (λ xs. length xs) run.givers ∙ length-map p.givers.items giver_name in
    let t : length q.takers.items ≡ length p.takers.items = sym (length-map q.takers.items taker_name) ∙ ap (λ xs. length xs) run.takers ∙ length-map p.takers.items taker_name in
    omega arith

pub still_served : (kinds : List HostKind) (count : ℕ) (p q : Part) → HasRun kinds p q → IsServed count p → IsServed count q
still_served kinds count p q run served = subst (λ (x : Actor). KnowsOperator x.kind count) (sym run.actor) served

pub still_plain : (kinds : List HostKind) (p q : Part) → HasRun kinds p q → IsPlain (form_of p.actor.kind) → IsPlain (form_of q.actor.kind)
still_plain kinds p q run plain = subst (λ (x : Actor). IsPlain (form_of x.kind)) (sym run.actor) plain

pub passed_none : (kinds : List HostKind) (count : ℕ) (ps : List Part) → AreReady ps → All (IsServed count) ps → HaveRunBy kinds count ps ps 0
passed_none kinds count ps ready served = record {
  ready = ready;
  served = served;
  run = all_stay kinds ps;
  done = omega arith;
  left = omega arith;
}

pub passed_on : (kinds : List HostKind) (count : ℕ) (ps qs rs : List Part) (moves more : ℕ) → HaveRunBy kinds count ps qs moves → HaveRunBy kinds count qs rs more → HaveRunBy kinds count ps rs (moves + more)
passed_on kinds count ps qs rs moves more a b = record {
  ready = b.ready;
  served = b.served;
  run = run_on kinds ps qs rs a.run b.run;
  done = (let x = a.done in let y = b.done in omega arith);
  left = (let x = a.left in let y = b.left in omega arith);
}

-- one part more goes on
pub record GoesOn (kinds : List HostKind) (p q : Part) (more : ℕ) : Type 0 where
  pub ready : IsReady q
  pub run : HasRun kinds p q
  pub done : done_of q ≡ done_of p + more
  pub left : left_of q + more ≡ left_of p

one_ran : (kinds : List HostKind) (qs : List Part) (i : ℕ) (p q : Part) → i < length qs → ((d : Part) → get_or qs i d ≡ p) → HasRun kinds p q → HaveRun kinds qs (set qs i q)
one_ran kinds qs i p q l at run = record {
  as_many = length-set qs i q;
  run = λ k d m. elim (cases_eq k i) [
    | inl e ↦ subst (λ (n : ℕ). HasRun kinds (get_or qs n d) (get_or (set qs i q) n d)) (sym e)
        (subst (λ (x : Part). HasRun kinds x (get_or (set qs i q) i d)) (sym (at d)) (subst (λ (x : Part). HasRun kinds p x) (sym (get_or-set_same qs i q d l)) run))
    | inr ne ↦ subst (λ (x : Part). HasRun kinds (get_or qs k d) x) (sym (get_or-set_other qs i k q d ne)) (stays kinds (get_or qs k d))
  ];
}

pub passed_one : (kinds : List HostKind) (count : ℕ) (qs : List Part) (i : ℕ) (p q : Part) (more : ℕ) → i < length qs → ((d : Part) → get_or qs i d ≡ p) → GoesOn kinds p q more → IsServed count p → AreReady qs → All (IsServed count) qs →
    HaveRunBy kinds count qs (set qs i q) more
passed_one kinds count qs i p q more l at on serves ready served = record {
  ready = record {
    each = All-set IsReady qs i q on.ready ready.each;
    few = (let e = sum_by-set ends_of qs i q p l in let f = ap ends_of (at p) in let g = same_ends kinds p q on.run in let h = ready.few in omega arith);
  };
  served = All-set (IsServed count) qs i q (still_served kinds count p q on.run serves) served;
  run = one_ran kinds qs i p q l at on.run;
  done = (let e = sum_by-set done_of qs i q p l in let f = ap done_of (at p) in let g = on.done in omega arith);
  left = (let e = sum_by-set left_of qs i q p l in let f = ap left_of (at p) in let g = on.left in omega arith);
}

-- a pass that came to the part of number i
pub record HasComeTo (ps qs : List Part) (i : ℕ) : Type 0 where
  pub moved : (k : ℕ) (d : Part) → k < i → CanMove (get_or ps k d) → done_of (get_or ps k d) < done_of (get_or qs k d)
  pub rests : (k : ℕ) (d : Part) → k < i → CanMove (get_or qs k d) → ⊥
  pub later : (k : ℕ) (d : Part) → i ≤ k → get_or qs k d ≡ get_or ps k d

pub come_none : (ps : List Part) → HasComeTo ps ps 0
come_none ps = record {
  moved = λ k d l. absurd (omega arith);
  rests = λ k d l. absurd (omega arith);
  later = λ k d l. refl;
}

pub come_more : (ps qs : List Part) (i : ℕ) (p q : Part) → i < length qs → ((d : Part) → get_or qs i d ≡ p) → (CanMove p → done_of p < done_of q) → (CanMove q → ⊥) → HasComeTo ps qs i → HasComeTo ps (set qs i q) (i + 1)
come_more ps qs i p q l at moved rests so_far =
    let old : (d : Part) → get_or ps i d ≡ p = λ (d : Part). (sym (so_far.later i d (omega arith)) ∙ at d) in
    let new : (d : Part) → get_or (set qs i q) i d ≡ q = λ (d : Part). get_or-set_same qs i q d l in
    let same : (k : ℕ) (d : Part) → (k ≡ i → ⊥) → get_or (set qs i q) k d ≡ get_or qs k d = λ (k : ℕ) (d : Part) (ne : k ≡ i → ⊥). get_or-set_other qs i k q d ne in
    record {
      moved = λ k d b. elim (cases_eq k i) [
        | inl e ↦
            subst (λ (n : ℕ). CanMove (get_or ps n d) → done_of (get_or ps n d) < done_of (get_or (set qs i q) n d)) (sym e)
            (subst (λ (x : Part). CanMove x → done_of x < done_of (get_or (set qs i q) i d)) (sym (old d)) (subst (λ (x : Part). CanMove p → done_of p < done_of x) (sym (new d)) moved))
        | inr ne ↦ subst (λ (x : Part). CanMove (get_or ps k d) → done_of (get_or ps k d) < done_of x) (sym (same k d ne)) (so_far.moved k d (omega arith))
      ];
      rests = λ k d b. elim (cases_eq k i) [
        | inl e ↦ subst (λ (n : ℕ). CanMove (get_or (set qs i q) n d) → ⊥) (sym e) (subst (λ (x : Part). CanMove x → ⊥) (sym (new d)) rests)
        | inr ne ↦ subst (λ (x : Part). CanMove x → ⊥) (sym (same k d ne)) (so_far.rests k d (omega arith))
      ];
      later = λ k d b. same k d (λ (e : k ≡ i). absurd (omega arith)) ∙ so_far.later k d (omega arith);
    }

-- a pass that came down to the part of number i
pub record HasComeDown (ps qs : List Part) (i : ℕ) : Type 0 where
  pub moved : (k : ℕ) (d : Part) → i ≤ k → k < length ps → CanMove (get_or ps k d) → done_of (get_or ps k d) < done_of (get_or qs k d)
  pub rests : (k : ℕ) (d : Part) → i ≤ k → k < length ps → CanMove (get_or qs k d) → ⊥
  pub earlier : (k : ℕ) (d : Part) → k < i → get_or qs k d ≡ get_or ps k d

pub down_none : (ps : List Part) (n : ℕ) → length ps ≤ n → HasComeDown ps ps n
down_none ps n past = record {
  moved = λ k d l m. absurd (omega arith);
  rests = λ k d l m. absurd (omega arith);
  earlier = λ k d l. refl;
}

pub down_more : (ps qs : List Part) (i : ℕ) (p q : Part) → i < length qs → ((d : Part) → get_or qs i d ≡ p) →
    (CanMove p → done_of p < done_of q) → (CanMove q → ⊥) → HasComeDown ps qs (i + 1) → HasComeDown ps (set qs i q) i
down_more ps qs i p q l at moved rests so_far =
    let old : (d : Part) → get_or ps i d ≡ p = λ (d : Part). (sym (so_far.earlier i d (omega arith)) ∙ at d) in
    let new : (d : Part) → get_or (set qs i q) i d ≡ q = λ (d : Part). get_or-set_same qs i q d l in
    let same : (k : ℕ) (d : Part) → (k ≡ i → ⊥) → get_or (set qs i q) k d ≡ get_or qs k d =
    λ (k : ℕ) (d : Part) (ne : k ≡ i → ⊥). get_or-set_other qs i k q d ne in
    record {
      moved = λ k d b m. elim (cases_eq k i) [
        | inl e ↦
            subst (λ (n : ℕ). CanMove (get_or ps n d) → done_of (get_or ps n d) < done_of (get_or (set qs i q) n d)) (sym e)
            (subst (λ (x : Part). CanMove x → done_of x < done_of (get_or (set qs i q) i d)) (sym (old d))
            (subst (λ (x : Part). CanMove p → done_of p < done_of x) (sym (new d)) moved))
        | inr ne ↦ subst (λ (x : Part). CanMove (get_or ps k d) → done_of (get_or ps k d) < done_of x) (sym (same k d ne))
            (so_far.moved k d (omega (arith, ne)) m)
      ];
      rests = λ k d b m. elim (cases_eq k i) [
        | inl e ↦ subst (λ (n : ℕ). CanMove (get_or (set qs i q) n d) → ⊥) (sym e) (subst (λ (x : Part). CanMove x → ⊥) (sym (new d)) rests)
        | inr ne ↦ subst (λ (x : Part). CanMove x → ⊥) (sym (same k d ne)) (so_far.rests k d (omega (arith, ne)) m)
      ];
      earlier = λ k d b. same k d (λ (e : k ≡ i). absurd (omega arith)) ∙ so_far.earlier k d (omega arith);
    }

-- what has moved once has moved
pub moved_on : (kinds : List HostKind) (ps qs rs : List Part) → HaveRun kinds ps qs → HaveMoved ps qs → HaveRun kinds qs rs → HaveMoved ps rs
moved_on kinds ps qs rs run moved more k d l can =
    let m : k < length qs = (let e = run.as_many in omega arith) in
    let one : HasRun kinds (get_or qs k d) (get_or rs k d) = more.run k d m in
    let x = one.further in
    let y = moved k d l can in
    omega arith

-- parts that have run have done no less
pub sums_le : (ps qs : List Part) → length qs ≡ length ps → ((k : ℕ) (d : Part) → k < length ps → done_of (get_or ps k d) ≤ done_of (get_or qs k d)) → done_by ps ≤ done_by qs
sums_le [] qs len h = omega arith
sums_le (p ∷ ps) [] len h = absurd (omega arith)
sums_le (p ∷ ps) (q ∷ qs) len h =
    let first : done_of p ≤ done_of q = h 0 p (omega arith) in
    let rest : done_by ps ≤ done_by qs = sums_le ps qs (omega arith) (λ k d l. h (suc k) d (omega arith)) in
    let a : done_by (p ∷ ps) ≡ done_of p + done_by ps = sum_by-cons done_of p ps in
    let b : done_by (q ∷ qs) ≡ done_of q + done_by qs = sum_by-cons done_of q qs in
    omega arith

sums_lt : (ps qs : List Part) (i : ℕ) (e : Part) → length qs ≡ length ps → ((k : ℕ) (d : Part) → k < length ps → done_of (get_or ps k d) ≤ done_of (get_or qs k d)) → i < length ps → done_of (get_or ps i e) < done_of (get_or qs i e) → done_by ps < done_by qs
sums_lt [] qs i e len h l more = absurd (omega arith)
sums_lt (p ∷ ps) [] i e len h l more = absurd (omega arith)
sums_lt (p ∷ ps) (q ∷ qs) zero e len h l more =
    let rest : done_by ps ≤ done_by qs = sums_le ps qs (omega arith) (λ k d b. h (suc k) d (omega arith)) in
    let a : done_by (p ∷ ps) ≡ done_of p + done_by ps = sum_by-cons done_of p ps in
    let b : done_by (q ∷ qs) ≡ done_of q + done_by qs = sum_by-cons done_of q qs in
    omega arith
sums_lt (p ∷ ps) (q ∷ qs) (suc i) e len h l more =
    let first : done_of p ≤ done_of q = h 0 p (omega arith) in
    let rest : done_by ps < done_by qs = sums_lt ps qs i e (omega arith) (λ k d b. h (suc k) d (omega arith)) (omega arith) more in
    let a : done_by (p ∷ ps) ≡ done_of p + done_by ps = sum_by-cons done_of p ps in
    let b : done_by (q ∷ qs) ≡ done_of q + done_by qs = sum_by-cons done_of q qs in
    omega arith

-- where no move was made, none was possible
pub none_could : (kinds : List HostKind) (ps qs : List Part) (moves : ℕ) → HaveRun kinds ps qs → HaveMoved ps qs → done_by qs ≡ done_by ps + moves → moves ≡ 0 → NoneCan ps
none_could kinds ps qs moves run moved total none k d l can =
    let more : done_by ps < done_by qs = sums_lt ps qs k d run.as_many (λ i e b. (let one : HasRun kinds (get_or ps i e) (get_or qs i e) = run.run i e b in one.further)) l (moved k d l can) in
    absurd (omega arith)
