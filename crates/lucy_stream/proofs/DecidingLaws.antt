-- Whether an event is possible, and whether events are a run, is decided.
use Rattle.std.proofs.Common.{ℕ, ◌+◌, ◌<◌, ◌≤◌, ◌≡◌, ltb, List, [], ◌∷◌, length, refl, subst}
use Rattle.std.specs.Bool.{Decides}
use Rattle.std.proofs.lemmas.Bool.{leb-true, le-leb}
use Rattle.std.proofs.lemmas.Bool.Decides.{Decides-ltb, Decides-and, Decides-like}
use Rattle.lucy_stream.specs.Systems.{RingOp, Takes, Gives, System, op_at, given, taken}
use Rattle.lucy_stream.specs.Runs.{IsPossible, step, IsRun}
use Rattle.lucy_stream.specs.Deciding.{has_room, is_possible, is_run}

-- the operation finds an item, or room
record FindsRoom (sys : System) (done : ℕ → ℕ) (op : RingOp) : Type 0 where
  pub item : (r : ℕ) → op ≡ Takes r → taken sys done r < given sys done r
  pub room : (r : ℕ) → op ≡ Gives r → given sys done r ≤ taken sys done r + sys.size r

room_decides : (sys : System) (done : ℕ → ℕ) (op : RingOp) → Decides (has_room sys done op) (FindsRoom sys done op)
room_decides sys done (Takes q) = (
  λ h. record {
    item = λ r same. (let ring : q ≡ r = cc in subst (λ (t : ℕ). taken sys done t < given sys done t) ring ((Decides-ltb (taken sys done q) (given sys done q)).0 h));
    room = λ r same. absurd (cc);
  },
  λ is. (Decides-ltb (taken sys done q) (given sys done q)).1 (is.item q refl),
)
room_decides sys done (Gives q) = (
  λ h. record {
    item = λ r same. absurd (cc);
    room = λ r same.
        (let ring : q ≡ r = cc in
        subst (λ (t : ℕ). given sys done t ≤ taken sys done t + sys.size t) ring (leb-true (given sys done q) (taken sys done q + sys.size q) h));
  },
  λ is. le-leb (given sys done q) (taken sys done q + sys.size q) (is.room q refl),
)

pub possible_decides : (sys : System) (done : ℕ → ℕ) (a : ℕ) → Decides (is_possible sys done a) (IsPossible sys done a)
possible_decides sys done a =
    let op : RingOp = op_at sys a (done a) in
    Decides-like (is_possible sys done a) (λ both. record { left = both.0; item_held = both.1.item; room_left = both.1.room })
    (λ is. (is.left, record { item = is.item_held; room = is.room_left }))
    (Decides-and (ltb (done a) (length (sys.ops a))) (has_room sys done op) (Decides-ltb (done a) (length (sys.ops a))) (room_decides sys done op))

pub run_decides : (sys : System) (done : ℕ → ℕ) (picks : List ℕ) → Decides (is_run sys done picks) (IsRun sys done picks)
run_decides sys done [] = (λ h. tt, λ h. refl)
run_decides sys done (a ∷ picks) = Decides-and (is_possible sys done a) (is_run sys (step done a) picks) (possible_decides sys done a) (run_decides sys (step done a) picks)
