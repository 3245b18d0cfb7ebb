-- The actors of outputs, by the outputs' numbers.
use Rattle.std.proofs.Common.{ℕ, ◌+◌, ◌<◌, ◌≡◌, List, length, set, ap, sym, ◌∙◌, inl, inr, arith}
use Rattle.std.specs.Prelude.{Some, slice_get}
use Rattle.std.proofs.lemmas.Bool.{cases_eq}
use Rattle.std.proofs.lemmas.Option.{slice_get-get_or}
use Rattle.lucy_net.specs.declared.kind.ActorKind.{ActorKind}
use Rattle.lucy_net.specs.declared.kind.ActorKind.TheVariants.{Output}
use Rattle.lucy_net.specs.declared.net.Actor.{Actor}
use Rattle.lucy_core.proofs.ListLaws.{get_set_other, some_same}
use Rattle.lucy_worker.proofs.WithinLaws.{get_set}

-- the outputs among the first actors, so many of them
abbrev pub AreNumbered : List Actor → List ℕ → ℕ → Type 0
AreNumbered actors outputs count = (n i : ℕ) (actor : Actor) → i < count → slice_get actors i ≡ Some actor → actor.kind ≡ Output n → slice_get outputs n ≡ Some i

-- no two actors are one output
abbrev pub AreApart : List Actor → Type 0
AreApart actors = (a b n : ℕ) (x y : Actor) → slice_get actors a ≡ Some x → slice_get actors b ≡ Some y → x.kind ≡ Output n → y.kind ≡ Output n → a ≡ b

-- one output more
pub numbered_more : (actors : List Actor) (outputs : List ℕ) (a output : ℕ) (actor : Actor) → slice_get actors a ≡ Some actor → actor.kind ≡ Output output → output < length outputs → AreApart actors → AreNumbered actors outputs a → AreNumbered actors (set outputs output a) (a + 1)
numbered_more actors outputs a output actor there kind room apart old n i x l e k = elim (cases_eq i a) [
  | inl here ↦
      let it : x ≡ actor = some_same (slice_get actors i) x actor e (ap (slice_get actors) here ∙ there) in
      let same : ◌≡◌ {A = ActorKind} (Output n) (Output output) = sym k ∙ ap (λ (y : Actor). y.kind) it ∙ kind in
      let at : n ≡ output = cc in
      ap (slice_get (set outputs output a)) at ∙ get_set outputs output _ a (slice_get-get_or outputs output 0 room) ∙ ap Some (sym here)
  | inr ne ↦ get_set_other outputs output n a (λ (same : output ≡ n). ne (apart i a n x actor e there k (kind ∙ ap Output same))) ∙ old n i x (omega (arith, ne)) e k
]

-- an actor that is none
pub numbered_same : (actors : List Actor) (outputs : List ℕ) (a : ℕ) (actor : Actor) → slice_get actors a ≡ Some actor → ((n : ℕ) → actor.kind ≡ Output n → ⊥) → AreNumbered actors outputs a → AreNumbered actors outputs (a + 1)
numbered_same actors outputs a actor there none old n i x l e k = elim (cases_eq i a) [
  | inl here ↦
      let it : x ≡ actor = some_same (slice_get actors i) x actor e (ap (slice_get actors) here ∙ there) in
      absurd (none n (ap (λ (y : Actor). y.kind) (sym it) ∙ k))
  | inr ne ↦ old n i x (omega (arith, ne)) e k
]
