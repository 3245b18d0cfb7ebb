-- A round, and the core that is led behind it.
use Rattle.std.proofs.Common.{ℕ, ◌+◌, ◌<◌, ◌≡◌, List, [], ◌∷◌, length, set, ap, sym, refl, ◌∙◌, subst, inl, inr, arith}
use Rattle.std.specs.Prelude.{Result, Ok, Err, IfOk, OnOk}
use Rattle.std.proofs.lemmas.Bool.{cases_eq}
use Rattle.std.proofs.lemmas.Grind.{same_number_lists}
use Rattle.std.proofs.lemmas.List.{get_or-set_same, get_or-set_other}
use Rattle.lucy_stream.specs.Systems.{System}
use Rattle.lucy_stream.specs.Runs.{IsRun, IsFinished}
use Rattle.lucy_net.specs.Plans.{net_system}
use Rattle.lucy_core.specs.Seen.{Seen, machine_of, done_of, more_done, CanStep, CanRun, IsOver, after_picks}
use Rattle.lucy_core.specs.Laws.{EventsGoByTheNet}
use Rattle.lucy_runner.specs.Rounds.{IsRoundTo}
use Rattle.lucy_trace.specs.Catching.{IsAhead}
use Rattle.lucy_trace.specs.Together.{AreTogether}

-- one count more
pub counted_more : (xs ys : List ℕ) (i v : ℕ) → i < length xs → v ≡ done_of ys i → ((a : ℕ) → a < i → done_of xs a ≡ done_of ys a) → (a : ℕ) → a < i + 1 → done_of (set xs i v) a ≡ done_of ys a
unfolding done_of
counted_more xs ys i v l is before a m = elim (cases_eq a i) [
  | inl e ↦ subst (λ (b : ℕ). done_of (set xs i v) b ≡ done_of ys b) (sym e) (get_or-set_same xs i v 0 l ∙ is)
  | inr ne ↦ get_or-set_other xs i a v 0 ne ∙ before a (omega (arith, ne))
]

module _ (law : EventsGoByTheNet) (core runner : Seen) (together : AreTogether core runner) where
  same_system : (machine_of runner).sys ≡ (machine_of core).sys
  same_system =
      law runner ∙ ap (λ n. net_system n runner.instants) together.net ∙ ap (net_system core.net) together.instants ∙ sym (law core)

  -- a run of the runner is one of the core
  pub same_run : (picks : List ℕ) → CanRun runner picks → CanRun core picks
  same_run picks run =
      subst (λ (sys : System). IsRun sys (done_of core.done) picks) same_system
      (subst (λ (done : List ℕ). IsRun (machine_of runner).sys (done_of done) picks) together.done run)

  -- the runner has ended where the core has
  pub same_end : IsOver runner → IsOver core
  same_end over =
      subst (λ (sys : System). IsFinished sys (done_of core.done)) same_system
      (subst (λ (done : List ℕ). IsFinished (machine_of runner).sys (done_of done)) together.done over)

module _ (core runner next : Seen) (moves : ℕ) (together : AreTogether core runner) (round : IsRoundTo runner next moves) where
  -- the counts after the round
  next_done : next.done ≡ more_done core.done round.picks
  next_done = ap (λ (s : Seen). s.done) round.is ∙ ap (λ (done : List ℕ). more_done done round.picks) together.done

  pub next_net : next.net ≡ core.net
  next_net = ap (λ (s : Seen). s.net) round.is ∙ together.net

  pub next_instants : next.instants ≡ core.instants
  next_instants = ap (λ (s : Seen). s.instants) round.is ∙ together.instants

  -- are those that were counted
  pub next_counts : (counts : List ℕ) → length counts ≡ length core.net.actors → length (more_done core.done round.picks) ≡ length core.net.actors →
      ((a : ℕ) → a < length counts → done_of counts a ≡ done_of next.done a) → counts ≡ next.done
  unfolding done_of
  next_counts counts count all each =
      same_number_lists counts next.done (omega (arith, count, all, ap length next_done)) (λ a l. each a l)

  -- and the core can be led there
  pub next_ahead : EventsGoByTheNet → (counts : List ℕ) → counts ≡ next.done → IsAhead core counts
  next_ahead law counts same = (
    round.picks,
    same_run law core runner together round.picks round.run,
    ap (λ (done : List ℕ). record core { done = done }) (sym next_done ∙ sym same),
  )

  -- where the core is led to stands the runner
  pub next_together : (counts : List ℕ) (there : Seen) → counts ≡ next.done → there ≡ record core { done = counts } → AreTogether there next
  next_together counts there same is =
      subst (λ (s : Seen). AreTogether s next) (sym is) (record { net = next_net; instants = next_instants; done = sym same })

  some_picks : (picks : List ℕ) → length picks ≡ moves → (moves ≡ 0 → ⊥) → CanRun runner picks → (a : ℕ) × CanStep runner a
  some_picks [] count some run = absurd (some (sym count))
  some_picks (a ∷ picks) count some run = (a, run.0)

  -- an unfinished runner goes on by an event at least
  pub next_some : (counts picks : List ℕ) (there : Seen) → (IsOver runner → ⊥) → counts ≡ next.done → there ≡ record core { done = counts } → there ≡ after_picks core picks → 0 < length picks
  next_some counts [] there going same is led =
      let first : (a : ℕ) × CanStep runner a = some_picks round.picks round.count (λ none. going (round.none.0 none)) round.run in
      let still : next.done ≡ runner.done = sym same ∙ sym (ap (λ (s : Seen). s.done) is) ∙ ap (λ (s : Seen). s.done) led ∙ sym together.done in
      absurd (omega (arith, round.moved first.0 first.1, ap (λ (done : List ℕ). done_of done first.0) still))
  next_some counts (a ∷ picks) there going same is led = omega arith

-- what holds of an answer that is fine
pub if_ok : {T E : Type 0} (r : Result T E) (P R : T → Type 0) (Q : Type 0) → IfOk r P → OnOk r Q → ((v : T) → P v → Q → R v) → IfOk r R
if_ok (Ok v) P R Q p q then = then v p q
if_ok (Err e) P R Q p q then = tt

pub on_ok : {T E : Type 0} (r : Result T E) (Q R : Type 0) → OnOk r Q → (Q → R) → OnOk r R
on_ok (Ok v) Q R q then = then q
on_ok (Err e) Q R q then = tt
