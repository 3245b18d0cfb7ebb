-- Events towards a later state make its lists, cut at the counts: so counts decide a state, and the converse holds with values.
use Rattle.std.proofs.Common.{ℕ, suc, ◌<◌, ◌≤◌, ◌≡◌, List, [], ◌∷◌, ◌++◌, length, take, ap, sym, refl, ◌∙◌, subst, inl, inr, arith}
use Rattle.std.specs.Prelude.{ℤ, pos}
use Rattle.std.proofs.lemmas.List.{take-take, take_more, take_all, length-take-le}
use Rattle.lucy_stream.specs.Items.{item_at}
use Rattle.lucy_stream.specs.Fronts.{IsFront}
use Rattle.lucy_stream.proofs.FrontLaws.{IsFront-cut, IsFront-take, IsFront-shorter}
use Rattle.lucy_stream.specs.Systems.{RingOp, op_at, IsWired, gives_before, takes_before, given, taken}
use Rattle.lucy_stream.specs.Runs.{IsPossible, none_done, step, IsRun, after, Leads, IsWhole, IsWithin, between}
use Rattle.lucy_stream.specs.States.{Machine, IsLocal, State, start, held, event, events, IsSame, IsState, Reaches}
use Rattle.lucy_stream.proofs.CountLaws.{step-same, given-le, taken-le, given-none, taken-none, given-lt, given-is, taken-is, gives_next, takes_next}
use Rattle.lucy_stream.proofs.RunLaws.{IsWithin-step, after-le}
use Rattle.lucy_stream.proofs.EventLaws.{gave_after-give, gave_after-other, took_after-take, took_after-other, next_of, events-done}
use Rattle.lucy_stream.proofs.StateLaws.{IsState-start, IsState-events}
use Rattle.lucy_stream.proofs.ConverseLaws.{converse-counts}

-- the lists of a later state, cut at these counts
pub record IsCut (m : Machine) (s t : State) : Type 0 where
  pub gave : (r : ℕ) → s.gave r ≡ take (given m.sys s.done r) (t.gave r)
  pub took : (r : ℕ) → s.took r ≡ take (taken m.sys s.done r) (t.gave r)

-- a state's own list taken is the list given, cut
took_of : (m : Machine) (t : State) (r : ℕ) → IsState m t → t.took r ≡ take (taken m.sys t.done r) (t.gave r)
took_of m t r state = IsFront-cut (t.took r) (t.gave r) (state.fronts r) ∙ ap (λ n. take n (t.gave r)) (state.took_count r)

-- what the actor of the next event had taken by then is the same in both
same_took : (m : Machine) (s t : State) (a q : ℕ) → IsState m t → s.done a ≤ t.done a → IsCut m s t → m.sys.to q ≡ a → s.took q ≡ take (takes_before m.sys a (s.done a) q) (t.took q)
same_took m s t a q state le same e =
    let here : takes_before m.sys a (s.done a) q ≡ taken m.sys s.done q = taken-is m.sys s.done a (s.done a) q e refl in
    let later : s.done (m.sys.to q) ≤ t.done (m.sys.to q) = subst (λ (b : ℕ). s.done b ≤ t.done b) (sym e) le in
    let rises : taken m.sys s.done q ≤ taken m.sys t.done q = taken-le m.sys s.done t.done q later in
    same.took q ∙ sym (take-take (taken m.sys s.done q) (taken m.sys t.done q) (t.gave q) rises)
    ∙ ap (take (taken m.sys s.done q)) (sym (took_of m t q state)) ∙ ap (λ n. take n (t.took q)) (sym here)

-- only the numbers at each actor count
same_given : (m : Machine) (s t : State) (r : ℕ) → ((b : ℕ) → s.done b ≡ t.done b) → given m.sys s.done r ≡ given m.sys t.done r
same_given m s t r counts = omega (arith, given-le m.sys s.done t.done r (omega (arith, counts (m.sys.from r))), given-le m.sys t.done s.done r (omega (arith, counts (m.sys.from r))))

same_taken : (m : Machine) (s t : State) (r : ℕ) → ((b : ℕ) → s.done b ≡ t.done b) → taken m.sys s.done r ≡ taken m.sys t.done r
same_taken m s t r counts = omega (arith, taken-le m.sys s.done t.done r (omega (arith, counts (m.sys.to r))), taken-le m.sys t.done s.done r (omega (arith, counts (m.sys.to r))))

-- of two cuts the shorter is a front of the longer
cut_front : (m : Machine) (s t : State) (r : ℕ) → IsCut m s t → length (s.took r) ≤ length (s.gave r) → IsFront (s.took r) (s.gave r)
cut_front m s t r same le =
    IsFront-shorter (s.took r) (s.gave r) (t.gave r)
    (subst (λ (xs : List ℤ). IsFront xs (t.gave r)) (sym (same.took r)) (IsFront-take (taken m.sys s.done r) (t.gave r)))
    (subst (λ (xs : List ℤ). IsFront xs (t.gave r)) (sym (same.gave r)) (IsFront-take (given m.sys s.done r) (t.gave r))) le

cut_gave : (m : Machine) (s t : State) (a r : ℕ) → IsWired m.sys → IsLocal m → IsPossible m.sys s.done a → IsState m t → s.done a < t.done a → IsCut m s t →
    (event m s a).gave r ≡ take (given m.sys (step s.done a) r) (t.gave r)
cut_gave m s t a r wired local possible state more same =
    let n : ℕ = s.done a in
    let op : RingOp = op_at m.sys a n in
    let v : ℤ = m.value a n s.took in
    let g : ℕ = given m.sys s.done r in
    elim (gives_next m.sys s.done a r wired possible.left) [
      | inr other ↦ gave_after-other op r v (s.gave r) other.0 ∙ same.gave r ∙ ap (λ k. take k (t.gave r)) (sym other.1)
      | inl gives ↦
          let below : g < given m.sys t.done r = given-lt m.sys s.done t.done a r wired more possible.left gives.0 in
          let place : gives_before m.sys a n r ≡ g = given-is m.sys s.done a n r (wired.giver a n r possible.left gives.0) refl in
          let alike : v ≡ m.value a n (λ q. take (takes_before m.sys a n q) (t.took q)) =
          local a n s.took (λ q. take (takes_before m.sys a n q) (t.took q)) (λ q e. same_took m s t a q state (omega arith) same e) in
          let item : v ≡ item_at (t.gave r) g = alike ∙ sym (state.values a n r more gives.0) ∙ ap (item_at (t.gave r)) place in
          gave_after-give op r v (s.gave r) gives.0 ∙ ap (λ xs. xs ++ v ∷ []) (same.gave r) ∙ ap (λ x. take g (t.gave r) ++ x ∷ []) item
          ∙ sym (take_more (t.gave r) g (pos 0) (omega (arith, state.gave_count r))) ∙ ap (λ k. take k (t.gave r)) (sym gives.1)
    ]

cut_took : (m : Machine) (s t : State) (a r : ℕ) → IsWired m.sys → IsPossible m.sys s.done a → IsWithin m.sys s.done → IsState m t → ((b : ℕ) → s.done b ≤ t.done b) → IsCut m s t →
    (event m s a).took r ≡ take (taken m.sys (step s.done a) r) (t.gave r)
cut_took m s t a r wired possible within state le same =
    let op : RingOp = op_at m.sys a (s.done a) in
    let g : ℕ = given m.sys s.done r in
    let k : ℕ = taken m.sys s.done r in
    elim (takes_next m.sys s.done a r wired possible.left) [
      | inr other ↦ took_after-other op r (held s r) (s.took r) other.0 ∙ same.took r ∙ ap (λ n. take n (t.gave r)) (sym other.1)
      | inl takes ↦
          let item : k < g = possible.item_held r takes.0 in
          let given_all : g ≤ length (t.gave r) = omega (arith, state.gave_count r, given-le m.sys s.done t.done r (le (m.sys.from r))) in
          let gave_size : length (s.gave r) ≡ g = ap length (same.gave r) ∙ length-take-le g (t.gave r) given_all in
          let took_size : length (s.took r) ≡ k = ap length (same.took r) ∙ length-take-le k (t.gave r) (omega arith) in
          let front : IsFront (s.took r) (s.gave r) = cut_front m s t r same (omega arith) in
          let next : s.took r ++ take 1 (held s r) ≡ take (suc (length (s.took r))) (s.gave r) = next_of (s.took r) (s.gave r) front (omega arith) in
          let count : suc (length (s.took r)) ≡ taken m.sys (step s.done a) r = omega (arith, takes.1) in
          took_after-take op r (held s r) (s.took r) takes.0 ∙ next ∙ ap (λ n. take n (s.gave r)) count ∙ ap (take (taken m.sys (step s.done a) r)) (same.gave r)
          ∙ take-take (taken m.sys (step s.done a) r) g (t.gave r) (omega (arith, takes.1))
    ]

cut_event : (m : Machine) (s t : State) (a : ℕ) → IsWired m.sys → IsLocal m → IsPossible m.sys s.done a → IsWithin m.sys s.done → IsState m t → s.done a < t.done a → ((b : ℕ) → s.done b ≤ t.done b) → IsCut m s t →
    IsCut m (event m s a) t
cut_event m s t a wired local possible within state more le same = record {
  gave = λ r. cut_gave m s t a r wired local possible state more same;
  took = λ r. cut_took m s t a r wired possible within state le same;
}

-- a run towards a later state
pub cut_events : (m : Machine) (s t : State) (picks : List ℕ) → IsWired m.sys → IsLocal m → IsRun m.sys s.done picks → IsWithin m.sys s.done → IsState m t →
    ((b : ℕ) → after s.done picks b ≤ t.done b) → IsCut m s t → IsCut m (events m s picks) t
cut_events m s t [] wired local run within state le same = same
cut_events m s t (a ∷ picks) wired local run within state le same =
    let more : s.done a < t.done a = omega (arith, step-same s.done a, after-le (step s.done a) picks a, le a) in
    let begun : (b : ℕ) → s.done b ≤ t.done b = λ b. omega (arith, after-le s.done (a ∷ picks) b, le b) in
    cut_events m (event m s a) t picks wired local run.1 (IsWithin-step m.sys s.done a run.0 within) state le (cut_event m s t a wired local run.0 within state more begun same)

-- cut at its own counts, it is the state
cut_whole : (m : Machine) (s t : State) → IsState m t → ((b : ℕ) → s.done b ≡ t.done b) → IsCut m s t → IsSame s t
cut_whole m s t state counts same = record {
  done = counts;
  gave = λ r.
      let g : given m.sys s.done r ≡ given m.sys t.done r = same_given m s t r counts in
      same.gave r ∙ take_all (given m.sys s.done r) (t.gave r) (omega (arith, state.gave_count r));
  took = λ r.
      let k : taken m.sys s.done r ≡ taken m.sys t.done r = same_taken m s t r counts in
      same.took r ∙ ap (λ n. take n (t.gave r)) k ∙ sym (took_of m t r state);
}

cut_start : (m : Machine) (t : State) → IsCut m start t
cut_start m t = record {
  gave = λ r. ap (λ n. take n (t.gave r)) (sym (given-none m.sys none_done r refl));
  took = λ r. ap (λ n. take n (t.gave r)) (sym (taken-none m.sys none_done r refl));
}

-- a run whose counts are those of a state ends in this state
pub run_ends : (m : Machine) (s t : State) (picks : List ℕ) → IsWired m.sys → IsLocal m → IsRun m.sys s.done picks → IsWithin m.sys s.done → IsState m t →
    ((b : ℕ) → after s.done picks b ≡ t.done b) → IsCut m s t → IsSame (events m s picks) t
run_ends m s t picks wired local run within state counts same =
    cut_whole m (events m s picks) t state (λ b. events-done m s picks b ∙ counts b)
    (cut_events m s t picks wired local run within state (λ b. omega (arith, counts b)) same)

-- runs that do as many operations of each actor reach one state
pub counts_decide : (m : Machine) (picks other : List ℕ) → IsWired m.sys → IsLocal m → IsRun m.sys none_done picks → IsRun m.sys none_done other →
    ((a : ℕ) → after none_done picks a ≡ after none_done other a) → IsSame (events m start picks) (events m start other)
counts_decide m picks other wired local run run' counts =
    let t : State = events m start other in
    run_ends m start t picks wired local run (IsState-start m).within (IsState-events m start other wired local run' (IsState-start m))
    (λ b. counts b ∙ sym (events-done m start other b)) (cut_start m t)

-- every state is reached by a run, namely its events in the order of a whole one
pub converse-start : (m : Machine) (high : State) (order : List ℕ) → IsWired m.sys → IsLocal m → IsWhole m.sys order → IsState m high → Reaches m start (between none_done high.done order) high
converse-start m high order wired local whole state =
    let way : Leads m.sys none_done (between none_done high.done order) high.done = converse-counts m.sys none_done high.done order wired whole state.within (λ b. omega arith) in
    record {
      run = way.run;
      ends = run_ends m start high (between none_done high.done order) wired local way.run (IsState-start m).within state way.ends (cut_start m high);
    }

-- an earlier state is a later one, cut
pub earlier_is_cut : (m : Machine) (low high : State) (order : List ℕ) → IsWired m.sys → IsLocal m → IsWhole m.sys order → IsState m low → IsState m high → ((a : ℕ) → low.done a ≤ high.done a) → IsCut m low high
earlier_is_cut m low high order wired local whole early late le =
    let picks : List ℕ = between none_done low.done order in
    let way : Reaches m start picks low = converse-start m low order wired local whole early in
    let there : State = events m start picks in
    let same : IsCut m there high = cut_events m start high picks wired local way.run (IsState-start m).within late
    (λ b. omega (arith, sym (events-done m start picks b) ∙ way.ends.done b, le b)) (cut_start m high) in
    record {
      gave = λ r. sym (way.ends.gave r) ∙ same.gave r ∙ ap (λ n. take n (high.gave r)) (same_given m there low r way.ends.done);
      took = λ r. sym (way.ends.took r) ∙ same.took r ∙ ap (λ n. take n (high.gave r)) (same_taken m there low r way.ends.done);
    }

-- and the events between them lead from the one to the other
pub converse : (m : Machine) (low high : State) (order : List ℕ) → IsWired m.sys → IsLocal m → IsWhole m.sys order → IsState m low → IsState m high → ((a : ℕ) → low.done a ≤ high.done a) →
    Reaches m low (between low.done high.done order) high
converse m low high order wired local whole early late le =
    let way : Leads m.sys low.done (between low.done high.done order) high.done = converse-counts m.sys low.done high.done order wired whole late.within le in
    record {
      run = way.run;
      ends = run_ends m low high (between low.done high.done order) wired local way.run early.within late way.ends (earlier_is_cut m low high order wired local whole early late le);
    }
