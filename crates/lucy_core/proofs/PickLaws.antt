-- Events one after another, by the counts that the code keeps.
use Rattle.std.proofs.Common.{ℕ, suc, zero, ◌+◌, ◌<◌, ◌≤◌, ◌≡◌, cond, List, [], ◌∷◌, ◌++◌, length, get_or, take, ap, sym, refl, ◌∙◌, subst, inl, inr, arith}
use Rattle.std.specs.Prelude.{ℤ, pos, All, Option, Some, None, IfSome, ◌↔◌, slice_get, slice_index}
use Rattle.std.proofs.lemmas.Bool.{cases_Bool, cases_eq, cases_lt}
use Rattle.std.proofs.lemmas.Option.{slice_get_within, slice_get_past, slice_get-get_or}
use Rattle.std.proofs.lemmas.List.{length-set, take_more}
use Rattle.lucy_word.specs.Bits.{ones_to}
use Rattle.lucy_word.proofs.Lists.{take_nil}
use Rattle.lucy_host.specs.declared.kind.HostKind.{HostKind}
use Rattle.lucy_stream.specs.Systems.{System}
use Rattle.lucy_stream.specs.Runs.{IsPossible, IsRun, step, after, IsFinished, first_left}
use Rattle.lucy_stream.specs.States.{Machine}
use Rattle.lucy_stream.specs.Deciding.{is_possible}
use Rattle.lucy_stream.specs.Deciding.{run_length}
use Rattle.lucy_stream.specs.Operations.{ops_of}
use Rattle.lucy_stream.proofs.DecidingLaws.{possible_decides}
use Rattle.lucy_stream.proofs.StuckLaws.{first_left-none, first_left-some}
use Rattle.lucy_stream.proofs.AlikeLaws.{IsRun-same, after-same}
use Rattle.lucy_stream.proofs.JoinedLaws.{run_joined, run_first, run_rest, length_within, length_longest}
use Rattle.lucy_net.specs.declared.net.Actor.{Actor}
use Rattle.lucy_net.specs.declared.net.Net.{Net}
use Rattle.lucy_net.specs.declared.state.ActorState.{ActorState}
use Rattle.lucy_net.specs.Plans.{form_of}
use Rattle.lucy_stream.specs.Schedules.{events_to}
use Rattle.lucy_net.specs.States.{IsActorState}
use Rattle.lucy_stream.proofs.PlaceLaws.{ops_more}
use Rattle.lucy_core.specs.Circles.{HeldItems}
use Rattle.lucy_core.specs.Seen.{done_of, one_more, more_done}
use Rattle.lucy_core.specs.Inside.{KeepsState}
use Rattle.lucy_core.proofs.ListLaws.{one_more_done}
use Rattle.lucy_core.proofs.SeenLaws.{IsMachineOf}

-- one event more at the end
pub more_append : (done xs : List ℕ) (a : ℕ) → more_done done (xs ++ a ∷ []) ≡ one_more (more_done done xs) a
more_append done [] a = refl
more_append done (x ∷ xs) a = more_append (one_more done x) xs a

pub done_more : (done xs : List ℕ) (i : ℕ) → i < length xs → more_done done (take (i + 1) xs) ≡ one_more (more_done done (take i xs)) (get_or xs i 0)
done_more done xs i l = ap (more_done done) (take_more xs i 0 l) ∙ more_append done (take i xs) (get_or xs i 0)

module _ (net : Net) (m : Machine) (order : List ℕ) (inputs : List (List ℤ)) (kinds : List HostKind) (instants : ℕ) (is : IsMachineOf net m order inputs kinds instants) where
  there_or : (d : ℕ → ℕ) (a : ℕ) → IsPossible m.sys d a → (o : Option Actor) → slice_get net.actors a ≡ o → a < length net.actors
  there_or d a can None e = absurd (omega (arith, can.left, ap length (is.ops_none a e)))
  there_or d a can (Some actor) e = slice_get_within net.actors a actor e

  -- only an actor's event is possible
  pub possible_in : (d : ℕ → ℕ) (a : ℕ) → IsPossible m.sys d a → a < length net.actors
  possible_in d a can = there_or d a can (slice_get net.actors a) refl

  -- the counts after a run
  pub more_after : (done xs : List ℕ) → length done ≡ length net.actors → IsRun m.sys (done_of done) xs → (b : ℕ) → done_of (more_done done xs) b ≡ after (done_of done) xs b
  more_after done [] len run b = refl
  more_after done (a ∷ xs) len run b =
      let l : a < length done = omega (arith, possible_in (done_of done) a run.0) in
      let next : (c : ℕ) → step (done_of done) a c ≡ done_of (one_more done a) c = λ c. sym (one_more_done done a c l) in
      more_after (one_more done a) xs (length-set done a (slice_index done a + 1) ∙ len) (IsRun-same m.sys (step (done_of done) a) (done_of (one_more done a)) xs next run.1) b
      ∙ sym (after-same (step (done_of done) a) (done_of (one_more done a)) xs next b)

  pub more_length : (done xs : List ℕ) → length (more_done done xs) ≡ length done
  more_length done [] = refl
  more_length done (a ∷ xs) = more_length (one_more done a) xs ∙ length-set done a (slice_index done a + 1)

  -- an event after a run, by the counts that the code keeps
  pub possible_here : (done xs : List ℕ) (a : ℕ) → length done ≡ length net.actors → IsRun m.sys (done_of done) xs → IsPossible m.sys (done_of (more_done done xs)) a → IsPossible m.sys (after (done_of done) xs) a
  possible_here done xs a len run can = (IsRun-same m.sys (done_of (more_done done xs)) (after (done_of done) xs) (a ∷ []) (more_after done xs len run) (can, tt)).0

  pub possible_back : (done xs : List ℕ) (a : ℕ) → length done ≡ length net.actors → IsRun m.sys (done_of done) xs → IsPossible m.sys (after (done_of done) xs) a → IsPossible m.sys (done_of (more_done done xs)) a
  possible_back done xs a len run can = (IsRun-same m.sys (after (done_of done) xs) (done_of (more_done done xs)) (a ∷ []) (λ b. sym (more_after done xs len run b)) (can, tt)).0

  -- a run, and one event more
  pub run_more : (done xs : List ℕ) (i : ℕ) → length done ≡ length net.actors → i < length xs → IsRun m.sys (done_of done) (take i xs) → IsPossible m.sys (done_of (more_done done (take i xs))) (get_or xs i 0) →
      IsRun m.sys (done_of done) (take (i + 1) xs)
  run_more done xs i len l run can =
      subst (IsRun m.sys (done_of done)) (sym (take_more xs i 0 l)) (run_joined m.sys (done_of done) (take i xs) (get_or xs i 0 ∷ []) run (possible_here done (take i xs) (get_or xs i 0) len run can, tt))

  -- some event of a run is possible in its turn
  pub turn_possible : (done xs : List ℕ) (i : ℕ) → length done ≡ length net.actors → i < length xs → IsRun m.sys (done_of done) (take i xs) → IsRun m.sys (done_of done) (take (i + 1) xs) →
      IsPossible m.sys (done_of (more_done done (take i xs))) (get_or xs i 0)
  turn_possible done xs i len l run more =
      let both : IsRun m.sys (done_of done) (take i xs ++ get_or xs i 0 ∷ []) = subst (IsRun m.sys (done_of done)) (take_more xs i 0 l) more in
      possible_back done (take i xs) (get_or xs i 0) len run (run_rest m.sys (done_of done) (take i xs) (get_or xs i 0 ∷ []) both).0

-- how many are a run
pub stops_at : (sys : System) (d : ℕ → ℕ) (xs : List ℕ) (i : ℕ) → i < length xs → IsRun sys d (take i xs) → (IsPossible sys (after d (take i xs)) (get_or xs i 0) → ⊥) → run_length sys d xs ≡ i
stops_at sys d [] i l run never = absurd (omega arith)
stops_at sys d (a ∷ xs) zero l run never = elim (cases_Bool (is_possible sys d a)) [
  | inl y ↦ absurd (never ((possible_decides sys d a).0 y))
  | inr z ↦ ap (λ c. cond c (suc (run_length sys (step d a) xs)) 0) z
]
stops_at sys d (a ∷ xs) (suc i) l run never =
    ap (λ c. cond c (suc (run_length sys (step d a) xs)) 0) ((possible_decides sys d a).1 run.0) ∙ ap suc (stops_at sys (step d a) xs i (omega arith) run.1 never)

pub runs_all : (sys : System) (d : ℕ → ℕ) (xs : List ℕ) → IsRun sys d (take (length xs) xs) → run_length sys d xs ≡ length xs
runs_all sys d xs run = omega (arith, length_within sys d xs, length_longest sys d xs (length xs) (omega arith) run)

-- a front of a run
pub run_front : (sys : System) (d : ℕ → ℕ) (xs : List ℕ) (i : ℕ) → IsRun sys d xs → IsRun sys d (take i xs)
run_front sys d [] i run = subst (IsRun sys d) (sym (take_nil i)) tt
run_front sys d (a ∷ xs) zero run = tt
run_front sys d (a ∷ xs) (suc i) run = (run.0, run_front sys (step d a) xs i run.1)

nothing : ActorState
nothing = record { quota = 0; fired = 0; step = 0; cursor = 0; a = pos 0; b = pos 0; c = pos 0; kept = pos 0 }

none_past : (actors : List Actor) (a : ℕ) → slice_get actors a ≡ None → length actors ≤ a
none_past [] a e = omega arith
none_past (x ∷ xs) zero e = absurd (cc)
none_past (x ∷ xs) (suc a) e = omega (arith, none_past xs a e)

-- when an actor is over
pub over_at : (actor : Actor) (instants n : ℕ) (took : List (List ℤ)) (s : ActorState) → IsActorState actor instants n took s → s.quota ≤ s.fired → n ≡ length (ops_of (form_of actor.kind) actor.takes actor.gives (ones_to actor.firing instants))
over_at actor instants n took s is ended =
    let same : s.fired ≡ ones_to actor.firing instants = omega (arith, is.quota, is.within) in
    omega (arith, is.done, is.ended ended, ap (λ q. length (ops_of (form_of actor.kind) actor.takes actor.gives q)) same)

pub going_at : (actor : Actor) (instants n : ℕ) (took : List (List ℤ)) (s : ActorState) → IsActorState actor instants n took s → s.fired < s.quota → n < length (ops_of (form_of actor.kind) actor.takes actor.gives (ones_to actor.firing instants))
going_at actor instants n took s is going =
    let q : s.fired < ones_to actor.firing instants = omega (arith, is.quota) in
    omega (arith, is.done, is.inside going, ops_more (form_of actor.kind) actor.takes actor.gives s.fired (ones_to actor.firing instants) q)

module _ (net : Net) (m : Machine) (order : List ℕ) (inputs : List (List ℤ)) (kinds : List HostKind) (instants : ℕ) (done : List ℕ) (states : List ActorState) (circles trays : List HeldItems)
    (is : IsMachineOf net m order inputs kinds instants) (kept : KeepsState net m order instants done states circles trays) where
  over_one : (a : ℕ) (s : ActorState) → slice_get states a ≡ Some s → (o : Option Actor) → slice_get net.actors a ≡ o → s.quota ≤ s.fired → done_of done a ≡ length (m.sys.ops a)
  over_one a s f None e ended = absurd (omega (arith, slice_get_within states a s f, kept.states_count, none_past net.actors a e))
  over_one a s f (Some actor) e ended = over_at actor instants (done_of done a) _ s (kept.actors a actor s e f) ended ∙ sym (ap length (is.ops a actor e))

  going_one : (a : ℕ) (s : ActorState) → slice_get states a ≡ Some s → (o : Option Actor) → slice_get net.actors a ≡ o → s.fired < s.quota → done_of done a < length (m.sys.ops a)
  going_one a s f None e going = absurd (omega (arith, slice_get_within states a s f, kept.states_count, none_past net.actors a e))
  going_one a s f (Some actor) e going = omega (arith, going_at actor instants (done_of done a) _ s (kept.actors a actor s e f) going, ap length (is.ops a actor e))

  past_one : (a : ℕ) → length net.actors ≤ a → done_of done a ≡ length (m.sys.ops a)
  past_one a l = (let e : length (m.sys.ops a) ≡ 0 = ap length (is.ops_none a (slice_get_past net.actors a l)) in omega (arith, kept.within.listed a))

  -- all actors are at their ends
  pub all_over : All (λ s. s.quota ≤ s.fired) states → IsFinished m.sys (done_of done)
  all_over all a = elim (cases_lt a (length states)) [
    | inl l ↦
        let s : ActorState = get_or states a nothing in
        over_one a s (slice_get-get_or states a nothing l) (slice_get net.actors a) refl (all a nothing l)
    | inr l ↦ past_one a (omega (arith, kept.states_count))
  ]

  pub over_all : IsFinished m.sys (done_of done) → All (λ s. s.quota ≤ s.fired) states
  over_all finished = λ k d l. elim (cases_lt (get_or states k d).fired (get_or states k d).quota) [
    | inl going ↦ absurd (omega (arith, going_one k (get_or states k d) (slice_get-get_or states k d l) (slice_get net.actors k) refl going, finished k))
    | inr ended ↦ ended
  ]

  -- the first event that isn't done is possible
  pub first_can : (first : Option ℕ) → first_left (done_of done) order ≡ first → IfSome first (λ a. IsPossible m.sys (done_of done) a)
  first_can None e = tt
  first_can (Some a) e = first_left-some m.sys (done_of done) order a is.wired is.whole e

  pub over_none : (a : ℕ) → IsFinished m.sys (done_of done) → IsPossible m.sys (done_of done) a → ⊥
  over_none a finished can = absurd (omega (arith, can.left, finished a))

  -- and there is one exactly where something is left
  pub first_over : (first : Option ℕ) → first_left (done_of done) order ≡ first → (first ≡ None) ↔ IsFinished m.sys (done_of done)
  first_over None e = (λ _. first_left-none m.sys (done_of done) order is.wired is.whole kept.within.listed e, λ _. refl)
  first_over (Some a) e = (λ no_one. absurd (cc), λ finished. absurd (over_none a finished (first_left-some m.sys (done_of done) order a is.wired is.whole e)))

-- the events of the first instants are a front of those of all
pub events_front : (sys : System) (d : ℕ → ℕ) (events : ℕ → List ℕ) (t n : ℕ) → t ≤ n → IsRun sys d (events_to events n) → IsRun sys d (events_to events t)
events_front sys d events t zero l run = (let e : 0 ≡ t = omega arith in subst (λ k. IsRun sys d (events_to events k)) e run)
events_front sys d events t (suc n) l run = elim (cases_eq t (suc n)) [
  | inl e ↦ subst (λ k. IsRun sys d (events_to events k)) (sym e) run
  | inr ne ↦ events_front sys d events t n (omega (arith, ne)) (run_first sys d (events_to events n) (events (suc n)) run)
]

pub events_next : (sys : System) (d : ℕ → ℕ) (events : ℕ → List ℕ) (t n : ℕ) → t < n → IsRun sys d (events_to events n) → IsRun sys (after d (events_to events t)) (events (t + 1))
events_next sys d events t n l run =
    let all : IsRun sys d (events_to events (suc t)) = events_front sys d events (suc t) n (omega arith) run in
    let e : suc t ≡ t + 1 = omega arith in
    subst (λ k. IsRun sys (after d (events_to events t)) (events k)) e (run_rest sys d (events_to events t) (events (suc t)) all)
