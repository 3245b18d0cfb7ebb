-- A core without an event so far.
use Rattle.std.proofs.Common.{ℕ, ◌+◌, ◌<◌, ◌≡◌, List, [], ◌∷◌, ◌++◌, map, length, set, drop, ap, sym, refl, ◌∙◌, subst, inl, inr, arith}
use Rattle.std.specs.Prelude.{ℤ, Some, slice_get, slice_index, replicate}
use Rattle.std.proofs.lemmas.Bool.{cases_eq}
use Rattle.std.proofs.lemmas.Option.{slice_get_within}
use Rattle.std.proofs.lemmas.List.{length-set, length-replicate}
use Rattle.lucy_word.specs.Bits.{ones_to}
use Rattle.lucy_word.proofs.Lists.{get_set_same, zeros_at}
use Rattle.lucy_host.specs.declared.kind.HostKind.{HostKind}
use Rattle.lucy_stream.specs.Forms.{operands}
use Rattle.lucy_stream.specs.States.{Machine, start, IsSame}
use Rattle.lucy_stream.proofs.CountedLaws.{none_within, counted_none}
use Rattle.lucy_net.specs.declared.kind.ActorKind.{ActorKind}
use Rattle.lucy_net.specs.declared.kind.ActorKind.TheVariants.{Input, Lit, Op, Host, When, Merge, Fby, Pass, Output}
use Rattle.lucy_net.specs.declared.net.Actor.{Actor}
use Rattle.lucy_net.specs.declared.net.Net.{Net}
use Rattle.lucy_net.specs.declared.state.ActorState.{ActorState}
use Rattle.lucy_net.specs.Plans.{form_of}
use Rattle.lucy_net.specs.States.{IsActorState}
use Rattle.lucy_core.specs.Circles.{HeldItems}
use Rattle.lucy_core.specs.Seen.{done_of, state_on, first_ring}
use Rattle.lucy_core.specs.Inside.{HasTray, KeepsState, AreFirst, AreEmpty, HaveTrays, with_tray}
use Rattle.lucy_core.proofs.ListLaws.{get_set_other, get_push, some_same}
use Rattle.lucy_core.proofs.SeenLaws.{IsMachineOf}

-- one state more
pub first_push : (actors : List Actor) (instants i : ℕ) (states more : List ActorState) (actor : Actor) (s : ActorState) → length states ≡ i → slice_get actors i ≡ Some actor → more ≡ states ++ s ∷ [] →
    ((a : ℕ) (x : Actor) (t : ActorState) → slice_get actors a ≡ Some x → slice_get states a ≡ Some t → IsActorState x instants 0 (replicate (operands (form_of x.kind)) []) t) → IsActorState actor instants 0 (replicate (operands (form_of actor.kind)) []) s →
    (a : ℕ) (x : Actor) (t : ActorState) → slice_get actors a ≡ Some x → slice_get more a ≡ Some t → IsActorState x instants 0 (replicate (operands (form_of x.kind)) []) t
first_push actors instants i states more actor s len here e each new a x t f g = elim (get_push states s t a (ap (λ xs. slice_get xs a) (sym e) ∙ g)) [
  | inl old ↦ each a x t f old
  | inr last ↦
      let it : actor ≡ x = some_same (slice_get actors i) actor x here (ap (slice_get actors) (sym (last.0 ∙ len)) ∙ f) in
      subst (λ (y : Actor). IsActorState y instants 0 (replicate (operands (form_of y.kind)) []) t) it (subst (λ (u : ActorState). IsActorState actor instants 0 (replicate (operands (form_of actor.kind)) []) u) (sym last.1) new)
]

with_length : (what : ActorKind) (room : ℕ) (trays : List HeldItems) → length (with_tray what room trays) ≡ length trays
with_length (Output n) room trays = length-set trays n (record { items = []; room = room })
with_length (Input n) room trays = refl
with_length (Lit n) room trays = refl
with_length (Op n) room trays = refl
with_length (Host n) room trays = refl
with_length (When n) room trays = refl
with_length (Merge n) room trays = refl
with_length (Fby n) room trays = refl
with_length Pass room trays = refl

with_other : (what : ActorKind) (room : ℕ) (trays : List HeldItems) (number : ℕ) → ((n : ℕ) → what ≡ Output n → n ≡ number → ⊥) → slice_get (with_tray what room trays) number ≡ slice_get trays number
with_other (Output n) room trays number ne = get_set_other trays n number (record { items = []; room = room }) (ne n refl)
with_other (Input n) room trays number ne = refl
with_other (Lit n) room trays number ne = refl
with_other (Op n) room trays number ne = refl
with_other (Host n) room trays number ne = refl
with_other (When n) room trays number ne = refl
with_other (Merge n) room trays number ne = refl
with_other (Fby n) room trays number ne = refl
with_other Pass room trays number ne = refl

-- one output's tray more
pub trays_more : (actors : List Actor) (instants i : ℕ) (actor : Actor) (trays more : List HeldItems) → slice_get actors i ≡ Some actor → more ≡ with_tray actor.kind (ones_to actor.firing instants) trays →
    ((a b n : ℕ) (x y : Actor) → slice_get actors a ≡ Some x → slice_get actors b ≡ Some y → x.kind ≡ Output n → y.kind ≡ Output n → a ≡ b) →
    ((a n : ℕ) (x : Actor) → slice_get actors a ≡ Some x → x.kind ≡ Output n → n < length trays) → HaveTrays actors instants i trays → HaveTrays actors instants (i + 1) more
trays_more actors instants i actor trays more e same apart room have a number x l f k =
    let size : length more ≡ length trays = ap length same ∙ with_length actor.kind (ones_to actor.firing instants) trays in
    elim (cases_eq a i) [
      | inl here ↦
          let it : x ≡ actor = some_same (slice_get actors a) x actor f (ap (slice_get actors) here ∙ e) in
          let what : actor.kind ≡ Output number = ap (λ (y : Actor). y.kind) (sym it) ∙ k in
          let list : more ≡ set trays number (record { items = []; room = ones_to actor.firing instants }) = same ∙ ap (λ w. with_tray w (ones_to actor.firing instants) trays) what in
          let quota : ones_to x.firing instants ≡ ones_to actor.firing instants = ap (λ (y : Actor). ones_to y.firing instants) it in
          record {
            there = omega (arith, room a number x f k);
            items_are = λ t g. ap (λ (h : HeldItems). h.items) (get_set_same trays number (record { items = []; room = ones_to actor.firing instants }) t (ap (λ xs. slice_get xs number) (sym list) ∙ g));
            room = λ t g. omega (arith, quota, ap (λ (h : HeldItems). h.room) (get_set_same trays number (record { items = []; room = ones_to actor.firing instants }) t (ap (λ xs. slice_get xs number) (sym list) ∙ g)));
          }
      | inr ne ↦
          let old : HasTray trays number [] (ones_to x.firing instants) = have a number x (omega (arith, ne)) f k in
          let still : slice_get more number ≡ slice_get trays number =
          ap (λ xs. slice_get xs number) same ∙ with_other actor.kind (ones_to actor.firing instants) trays number (λ n what q. ne (apart a i number x actor f e k (what ∙ ap Output q))) in
          record {
            there = omega (arith, old.there);
            items_are = λ t g. old.items_are t (sym still ∙ g);
            room = λ t g. old.room t (sym still ∙ g);
          }
    ]

pub room_more : (actors : List Actor) (instants : ℕ) (actor : Actor) (trays more : List HeldItems) → more ≡ with_tray actor.kind (ones_to actor.firing instants) trays →
    ((a n : ℕ) (x : Actor) → slice_get actors a ≡ Some x → x.kind ≡ Output n → n < length trays) → (a n : ℕ) (x : Actor) → slice_get actors a ≡ Some x → x.kind ≡ Output n → n < length more
room_more actors instants actor trays more same room a n x f k = omega (arith, room a n x f k, ap length same, with_length actor.kind (ones_to actor.firing instants) trays)

-- as many empty lists as numbers
pub none_of_each : (f : ℕ → List ℤ) (xs : List ℕ) → ((r : ℕ) → f r ≡ []) → map f xs ≡ replicate (length xs) []
none_of_each f [] h = refl
none_of_each f (x ∷ xs) h = ap (λ y. y ∷ map f xs) (h x) ∙ ap (λ ys. [] ∷ ys) (none_of_each f xs h)

zero_at : (done : List ℕ) (n a : ℕ) → done ≡ replicate n 0 → done_of done a ≡ 0
unfolding done_of
zero_at done n a e = ap (λ ds. slice_index ds a) e ∙ zeros_at n a

same_start : (m : Machine) (order done : List ℕ) (net : Net) (inputs : List (List ℤ)) (kinds : List HostKind) (instants : ℕ) → IsMachineOf net m order inputs kinds instants → ((b : ℕ) → done_of done b ≡ 0) → IsSame (state_on m order done) start
unfolding state_on
same_start m order done net inputs kinds instants is z = counted_none m order (done_of done) is.wired is.local is.whole z

pub kept_first : (net : Net) (m : Machine) (order : List ℕ) (inputs : List (List ℤ)) (kinds : List HostKind) (instants : ℕ) (states : List ActorState) (circles trays : List HeldItems) → IsMachineOf net m order inputs kinds instants →
    AreFirst net.actors instants states → AreEmpty net.rings circles → HaveTrays net.actors instants (length net.actors) trays → KeepsState net m order instants (replicate (length net.actors) 0) states circles trays
kept_first net m order inputs kinds instants states circles trays is first empty have =
    let done : List ℕ = replicate (length net.actors) 0 in
    let zero_there : (b : ℕ) → done_of done b ≡ 0 = λ b. zero_at done (length net.actors) b refl in
    let same : IsSame (state_on m order done) start = same_start m order done net inputs kinds instants is zero_there in
    record {
      within = none_within m.sys (done_of done) zero_there;
      states_count = first.count;
      done_count = length-replicate (length net.actors) 0;
      actors = λ a actor s e f.
          let lists : map (state_on m order done).took actor.takes ≡ replicate (operands (form_of actor.kind)) [] =
          none_of_each (state_on m order done).took actor.takes same.took ∙ ap (λ n. replicate n []) (is.usable a actor e).arity in
          subst (λ (n : ℕ). IsActorState actor instants n (map (state_on m order done).took actor.takes) s) (sym (zero_there a))
          (subst (λ (xs : List (List ℤ)). IsActorState actor instants 0 xs s) (sym lists) (first.each a actor s e f));
      circles_count = empty.count;
      circles_hold = λ r circle f. empty.items r circle f ∙ sym (ap (λ xs. drop (length xs) ((state_on m order done).gave r)) (same.took r) ∙ same.gave r);
      rooms = λ r ring circle e f. empty.rooms r ring circle e f;
      trays_hold = λ a number actor e k.
          let old : HasTray trays number [] (ones_to actor.firing instants) = have a number actor (slice_get_within net.actors a actor e) e k in
          record { there = old.there; items_are = λ t g. old.items_are t g ∙ sym (same.took (first_ring actor)); room = old.room };
    }
