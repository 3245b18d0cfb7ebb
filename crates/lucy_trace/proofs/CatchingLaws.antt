-- How a core is led to where each actor has done its number of operations.
use Rattle.std.proofs.Common.{ℕ, suc, zero, ◌+◌, ◌-◌, ◌<◌, ◌≤◌, ◌≡◌, ◌⊎◌, Bool, true, false, cond, ltb, List, [], ◌∷◌, ◌++◌, length, ap, sym, refl, ◌∙◌, subst, inl, inr, arith, append_assoc, length-append}
use Rattle.std.specs.Prelude.{All}
use Rattle.std.proofs.lemmas.Bool.{cases_eq, cases_lt, lt-ltb, le-ltb}
use Rattle.std.proofs.lemmas.List.Elements.{All-head, All-tail}
use Rattle.lucy_stream.specs.Runs.{step, after}
use Rattle.lucy_stream.specs.Totals.{total}
use Rattle.lucy_stream.proofs.CountLaws.{step-same, step-other}
use Rattle.lucy_stream.proofs.JoinedLaws.{after_joined}
use Rattle.lucy_stream.proofs.TotalLaws.{after-times, total-same, total-step, total_le}
use Rattle.lucy_core.specs.Seen.{Seen, CanStep, CanRun, CanGoOn, HasDoneAtMost, after_picks, done_of, stepped}
use Rattle.lucy_core.proofs.OpenLaws.{joined_picks}
use Rattle.lucy_trace.specs.Catching.{IsAhead}
use Rattle.lucy_trace.specs.Steps.{HasBeenLed, HasRoomForEvents, all_of}

-- what a core says of the runs from it
pub record HasRuns (first : Seen) : Type 0 where
  pub counts : (picks : List ℕ) → CanRun first picks → (b : ℕ) → done_of (after_picks first picks).done b ≡ after (done_of first.done) picks b
  pub actors : (picks : List ℕ) → CanRun first picks → All (λ a. a < length first.net.actors) picks
  pub joined : (picks more : List ℕ) → CanRun first picks → CanRun (after_picks first picks) more → CanRun first (picks ++ more)

-- of two runs from a core the one that has done no more leads to the same core, or can go on
abbrev pub IsConfluent : Seen → Type 0
IsConfluent first = (picks other : List ℕ) → CanRun first picks → CanRun first other → HasDoneAtMost (after_picks first picks) (after_picks first other).done →
    (after_picks first picks ≡ after_picks first other) ⊎ CanGoOn (after_picks first picks) (after_picks first other).done

-- sums of counts
total_lt : (n : ℕ) (f g : ℕ → ℕ) (a : ℕ) → ((b : ℕ) → f b ≤ g b) → a < n → f a < g a → total n f < total n g
total_lt zero f g a h l less = absurd (omega arith)
total_lt (suc n) f g a h l less = elim (cases_eq a n) [
  | inl e ↦ (let last : f n < g n = subst (λ (b : ℕ). f b < g b) e less in omega (arith, total_le n f g h))
  | inr ne ↦ omega (arith, total_lt n f g a h (omega arith) less, h n)
]

pub total_after : (n : ℕ) (d : ℕ → ℕ) (picks : List ℕ) → All (λ a. a < n) picks → total n (after d picks) ≡ total n d + length picks
total_after n d [] all = omega arith
total_after n d (a ∷ picks) all =
    omega (
      arith,
      total_after n (step d a) picks (All-tail (λ b. b < n) a picks all),
      total-step n d a (All-head (λ b. b < n) a picks all),
    )

-- one operation more of an actor that has done fewer than its number
step_most : (d : ℕ → ℕ) (f : ℕ → ℕ) (a b : ℕ) → ((c : ℕ) → d c ≤ f c) → d a < f a → step d a b ≤ f b
step_most d f a b h less = elim (cases_eq a b) [
  | inl e ↦ subst (λ (c : ℕ). step d a c ≤ f c) e (omega (arith, step-same d a))
  | inr ne ↦ omega (arith, step-other d a b ne, h b)
]

none_there : (xs ys zs : List ℕ) → zs ≡ xs ++ ys → length zs ≡ length xs → ys ≡ []
none_there xs [] zs e l = refl
none_there xs (y ∷ ys) zs e l = absurd (omega (arith, ap length e, length-append xs (y ∷ ys)))

append_none : (xs : List ℕ) → xs ≡ xs ++ []
append_none [] = refl
append_none (x ∷ xs) = ap (λ ys. x ∷ ys) (append_none xs)

-- the places of a list from its first to its last or from its last to its first
pub back_in : (back : Bool) (n a : ℕ) → a < n → cond back (n - 1 - a) a < n
back_in true n a l = omega arith
back_in false n a l = l

pub back_there : (back : Bool) (n a : ℕ) → a < n → a ≡ cond back (n - 1 - cond back (n - 1 - a) a) (cond back (n - 1 - a) a)
back_there true n a l = omega arith
back_there false n a l = refl

falls_some : (all was now x y p q : ℕ) → p ≡ 1 → q ≡ 1 → was + y ≡ now + x → now ≤ all → x < y → (all - now) + p < (all - was) + q
falls_some all was now x y p q e f sum most l = omega arith

falls_none : (all was now x y p q : ℕ) → p ≡ 0 → q ≡ 1 → was + y ≡ now + x → x ≤ y → y ≤ x → (all - now) + p < (all - was) + q
falls_none all was now x y p q e f sum l m = omega arith

-- what is left falls, or nothing was done
pub falls : (all was now x y : ℕ) (moved : Bool) → moved ≡ true → was + y ≡ now + x → now ≤ all → x ≤ y → (all - now) + cond (ltb x y) 1 0 < (all - was) + cond moved 1 0
falls all was now x y moved e sum most more =
    let one : cond moved 1 0 ≡ 1 = ap (λ b. cond b 1 0) e in
    elim (cases_lt x y) [
      | inl l ↦ falls_some all was now x y (cond (ltb x y) 1 0) (cond moved 1 0) (ap (λ b. cond b 1 0) (lt-ltb x y l)) one sum most l
      | inr l ↦ falls_none all was now x y (cond (ltb x y) 1 0) (cond moved 1 0) (ap (λ b. cond b 1 0) (le-ltb x y l)) one sum more l
    ]

-- while an actor has done fewer than its number, there is room for one event more
pub room_one : (counts : List ℕ) (now : Seen) (a events room : ℕ) → HasDoneAtMost now counts → a < length now.net.actors → HasRoomForEvents counts now events room →
    done_of now.done a < done_of counts a → events < room
room_one counts now a events room most l fits less =
    omega (arith, fits, total_lt (length now.net.actors) (done_of now.done) (done_of counts) a most l less)

module _ (counts : List ℕ) (first : Seen) where
  -- where a run leads, no actor had done more before
  pub ahead_most : HasRuns first → IsAhead first counts → HasDoneAtMost first counts
  ahead_most law ahead b =
      omega (
        arith,
        ap (λ (s : Seen). done_of s.done b) ahead.2,
        law.counts ahead.0 ahead.1 b,
        after-times (done_of first.done) ahead.0 b,
      )

  -- nothing is done
  pub gone_none : (before : List ℕ) → HasDoneAtMost first counts → HasBeenLed counts first first before before
  gone_none before most = record { picks = []; put = append_none before; run = tt; is = refl; most = most }

module _ (counts : List ℕ) (first now : Seen) (before behind : List ℕ) (gone : HasBeenLed counts first now before behind) where
  pub gone_actors : length now.net.actors ≡ length first.net.actors
  gone_actors = ap (λ (s : Seen). length s.net.actors) gone.is

  -- what was put there
  pub gone_length : length behind ≡ length before + length gone.picks
  gone_length = ap length gone.put ∙ length-append before gone.picks

  -- where nothing was put there, nothing was done
  pub gone_still : length behind ≡ length before → now ≡ first
  gone_still same = gone.is ∙ ap (after_picks first) (none_there before gone.picks behind gone.put same)

  -- where no actor that has done fewer than its number can go on, all have done theirs
  pub arrived : IsAhead first counts → IsConfluent first → (CanGoOn now counts → ⊥) → now ≡ record first { done = counts }
  arrived ahead confluent stopped =
      let there : (after_picks first ahead.0).done ≡ counts = ap (λ (s : Seen). s.done) ahead.2 in
      let most : HasDoneAtMost (after_picks first gone.picks) (after_picks first ahead.0).done =
      subst (HasDoneAtMost (after_picks first gone.picks)) (sym there) (subst (λ (s : Seen). HasDoneAtMost s counts) gone.is gone.most) in
      elim (confluent gone.picks ahead.0 gone.run ahead.1 most) [
        | inl same ↦ gone.is ∙ same ∙ ahead.2
        | inr can ↦ absurd (stopped (subst (λ (s : Seen). CanGoOn s counts) (sym gone.is) (subst (CanGoOn (after_picks first gone.picks)) there can)))
      ]

module _ (counts : List ℕ) (first now : Seen) (before behind : List ℕ) (law : HasRuns first) (gone : HasBeenLed counts first now before behind) where
  pub gone_counts : (b : ℕ) → done_of now.done b ≡ after (done_of first.done) gone.picks b
  gone_counts b = ap (λ (s : Seen). done_of s.done b) gone.is ∙ law.counts gone.picks gone.run b

  pub gone_total : all_of first now.done ≡ all_of first first.done + length gone.picks
  gone_total =
      total-same (length first.net.actors) (done_of now.done) (after (done_of first.done) gone.picks) (λ b l. gone_counts b)
      ∙ total_after (length first.net.actors) (done_of first.done) gone.picks (law.actors gone.picks gone.run)

  -- one operation more of an actor
  run_one : (a : ℕ) → CanStep now a → CanRun first (gone.picks ++ a ∷ [])
  run_one a can = law.joined gone.picks (a ∷ []) gone.run (subst (λ (s : Seen). CanRun s (a ∷ [])) gone.is (can, tt))

  here_one : (next : Seen) (a : ℕ) → next ≡ stepped now a → next ≡ after_picks first (gone.picks ++ a ∷ [])
  here_one next a is = is ∙ ap (λ (s : Seen). after_picks s (a ∷ [])) gone.is ∙ joined_picks first gone.picks (a ∷ [])

  count_one : (next : Seen) (a b : ℕ) → CanStep now a → next ≡ stepped now a → done_of next.done b ≡ step (after (done_of first.done) gone.picks) a b
  count_one next a b can is =
      ap (λ (s : Seen). done_of s.done b) (here_one next a is) ∙ law.counts (gone.picks ++ a ∷ []) (run_one a can) b
      ∙ after_joined (done_of first.done) gone.picks (a ∷ []) b

  pub gone_one : (next : Seen) (more : List ℕ) (a : ℕ) → CanStep now a → done_of now.done a < done_of counts a → next ≡ stepped now a → more ≡ behind ++ a ∷ [] →
      HasBeenLed counts first next before more
  gone_one next more a can less is put = record {
    picks = gone.picks ++ a ∷ [];
    put = put ∙ ap (λ xs. xs ++ a ∷ []) gone.put ∙ append_assoc before gone.picks (a ∷ []);
    run = run_one a can;
    is = here_one next a is;
    most = λ b.
        (let most : step (after (done_of first.done) gone.picks) a b ≤ done_of counts b =
        step_most (after (done_of first.done) gone.picks) (done_of counts) a b (λ c. omega (arith, gone_counts c, gone.most c)) (omega (arith, gone_counts a, less)) in
        omega (arith, count_one next a b can is, most));
  }

  -- its count is one more then
  pub gone_step : (next : Seen) (a : ℕ) → CanStep now a → next ≡ stepped now a → done_of next.done a ≡ done_of now.done a + 1
  gone_step next a can is = omega (arith, count_one next a a can is, step-same (after (done_of first.done) gone.picks) a, gone_counts a)

  pub gone_further : (next : Seen) (more : List ℕ) → HasBeenLed counts now next behind more → HasBeenLed counts first next before more
  gone_further next more on = record {
    picks = gone.picks ++ on.picks;
    put = on.put ∙ ap (λ xs. xs ++ on.picks) gone.put ∙ append_assoc before gone.picks on.picks;
    run = law.joined gone.picks on.picks gone.run (subst (λ (s : Seen). CanRun s on.picks) gone.is on.run);
    is = on.is ∙ ap (λ (s : Seen). after_picks s on.picks) gone.is ∙ joined_picks first gone.picks on.picks;
    most = on.most;
  }

  -- the room for what is left stays
  pub room_left : (room larger : ℕ) → HasRoomForEvents counts first (length before) room → room ≤ larger → HasRoomForEvents counts now (length behind) larger
  room_left room larger fits more =
      subst (λ n. length behind + total n (done_of counts) ≤ larger + total n (done_of now.done)) (sym (gone_actors counts first now before behind gone))
      (omega (arith, gone_total, gone_length counts first now before behind gone, fits))
