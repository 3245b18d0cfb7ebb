use Rattle.std.proofs.Common.{ℕ, suc, zero, ◌≡◌, ◌<◌, ◌%◌, ◌+◌, All, List, [], ◌∷◌, ◌++◌, map, length, ap, sym, ◌∙◌, subst, rules, arith}
use Rattle.std.specs.List.{range_with_len}
use Rattle.std.proofs.lemmas.List.{map-append, length-map}
use Rattle.std.proofs.lemmas.List.FromFn.{length-range_with_len}
use Rattle.lucy_results.specs.Playing.{homes_for}
use Rattle.lucy_results.proofs.workers.homes_of.Goals as goal

-- one number more
range_more : (from n : ℕ) → range_with_len from (suc n) ≡ range_with_len from n ++ (from + n) ∷ []
range_more from zero = ap (λ k. k ∷ []) (let same : from ≡ from + 0 = omega arith in same)
range_more from (suc n) = ap (λ ks. from ∷ ks) (range_more (from + 1) n ∙ ap (λ k. range_with_len (from + 1) n ++ k ∷ []) (let same : from + 1 + n ≡ from + suc n = omega arith in same))

-- one home more
home_next : (homes : List ℕ) (workers n : ℕ) → homes ≡ homes_for n workers → homes ++ (n % workers) ∷ [] ≡ homes_for (n + 1) workers
home_next homes workers n are =
    let home : ℕ → ℕ = λ (actor : ℕ). actor % workers in
    let first : n ≡ 0 + n = omega arith in
    let next : suc n ≡ n + 1 = omega arith in
    ap (λ hs. hs ++ (n % workers) ∷ []) are ∙ sym (map-append home (range_with_len 0 n) (n ∷ []))
    ∙ ap (λ k. map home (range_with_len 0 n ++ k ∷ [])) first ∙ ap (map home) (sym (range_more 0 n)) ∙ ap (λ k. map home (range_with_len 0 k)) next

count : (actors workers : ℕ) → length (homes_for actors workers) ≡ actors
count actors workers = length-map (range_with_len 0 actors) (λ (actor : ℕ). actor % workers) ∙ length-range_with_len 0 actors

-- they are workers
all_next : (homes : List ℕ) (workers home : ℕ) → All (λ h. h < workers) homes → home < workers → All (λ h. h < workers) (homes ++ home ∷ [])
all_next [] workers home all low zero d l = low
all_next [] workers home all low (suc k) d l = absurd (omega arith)
all_next (x ∷ homes) workers home all low zero d l = all 0 d (omega arith)
all_next (x ∷ homes) workers home all low (suc k) d l = all_next homes workers home (λ j e m. all (suc j) e (omega arith)) low k d (omega arith)

pub loop-actor-preserved : goal.loop-actor-preserved
loop-actor-preserved c = record {
  are = c.in_ok-push.ensures.items ∙ home_next c.loop-actor.homes.items c.args.workers c.loop-actor.actor c.loop-actor.invariant.are;
  low = subst (λ xs. All (λ h. h < c.args.workers) xs) (sym c.in_ok-push.ensures.items)
      (all_next c.loop-actor.homes.items c.args.workers (c.loop-actor.actor % c.args.workers) c.loop-actor.invariant.low (search rules));
}

pub returns : goal.returns
returns c =
    let all : c.loop-actor.actor ≡ c.args.actors = omega (arith, c.loop-actor-test.false) in
    let are : c.loop-actor.homes.items ≡ homes_for c.args.actors c.args.workers = c.loop-actor.invariant.are ∙ ap (λ n. homes_for n c.args.workers) all in
    record {
      count = ap length are ∙ count c.args.actors c.args.workers;
      home = are;
      each = c.loop-actor.invariant.low;
    }
