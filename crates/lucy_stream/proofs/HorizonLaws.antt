-- The same actors with more to do: runs, states and whole runs stay.
use Rattle.std.proofs.Common.{ℕ, ◌<◌, ◌≤◌, ◌≡◌, Bool, List, [], ◌∷◌, ◌++◌, length, get_or, take, drop, ap, sym, refl, ◌∙◌, arith}
use Rattle.std.specs.Prelude.{ℤ, count_by}
use Rattle.std.proofs.lemmas.List.{take-take, get_or-take}
use Rattle.lucy_stream.specs.Items.{item_at}
use Rattle.lucy_stream.specs.Systems.{RingOp, Takes, Gives, System, op_at, is_give, is_take, gives_before, takes_before, given, taken}
use Rattle.lucy_stream.specs.Runs.{IsPossible, none_done, step, IsRun, after, IsFinished, IsWhole, IsWithin}
use Rattle.lucy_stream.specs.States.{Machine, IsLocal, State, held, gave_after, took_after, event, events, IsSame, IsState}
use Rattle.lucy_stream.specs.Horizons.{IsLonger, KeepsValues}
use Rattle.lucy_stream.proofs.RunLaws.{IsWithin-step, IsWithin-none}
use Rattle.lucy_stream.proofs.JoinedLaws.{run_joined, after_joined}

count_longer : (p : RingOp → Bool) (xs ys : List RingOp) (n : ℕ) → take (length xs) ys ≡ xs → n ≤ length xs → count_by p (take n ys) ≡ count_by p (take n xs)
count_longer p xs ys n e l = ap (count_by p) (sym (take-take n (length xs) ys l) ∙ ap (take n) e)

pub given-longer : (sys longer : System) (d : ℕ → ℕ) (r : ℕ) → IsLonger sys longer → d (sys.from r) ≤ length (sys.ops (sys.from r)) → given longer d r ≡ given sys d r
unfolding given
given-longer sys longer d r h l =
    ap (λ b. count_by (is_give r) (take (d b) (longer.ops b))) (h.from r) ∙ count_longer (is_give r) (sys.ops (sys.from r)) (longer.ops (sys.from r)) (d (sys.from r)) (h.ops (sys.from r)) l

pub taken-longer : (sys longer : System) (d : ℕ → ℕ) (r : ℕ) → IsLonger sys longer → d (sys.to r) ≤ length (sys.ops (sys.to r)) → taken longer d r ≡ taken sys d r
unfolding taken
taken-longer sys longer d r h l =
    ap (λ b. count_by (is_take r) (take (d b) (longer.ops b))) (h.to r) ∙ count_longer (is_take r) (sys.ops (sys.to r)) (longer.ops (sys.to r)) (d (sys.to r)) (h.ops (sys.to r)) l

pub op_at-longer : (sys longer : System) (a n : ℕ) → IsLonger sys longer → n < length (sys.ops a) → op_at longer a n ≡ op_at sys a n
op_at-longer sys longer a n h l = sym (get_or-take (length (sys.ops a)) (longer.ops a) n (Takes 0) l) ∙ ap (λ xs. get_or xs n (Takes 0)) (h.ops a)

-- what is possible stays possible
pub IsPossible-longer : (sys longer : System) (d : ℕ → ℕ) (a : ℕ) → IsLonger sys longer → IsWithin sys d → IsPossible sys d a → IsPossible longer d a
IsPossible-longer sys longer d a h within is =
    let op : op_at longer a (d a) ≡ op_at sys a (d a) = op_at-longer sys longer a (d a) h is.left in
    record {
      left = omega (arith, h.lengths a, is.left);
      item_held = λ r e. omega (arith, is.item_held r (sym op ∙ e), given-longer sys longer d r h (within.listed (sys.from r)), taken-longer sys longer d r h (within.listed (sys.to r)));
      room_left = λ r e. omega (arith, is.room_left r (sym op ∙ e), given-longer sys longer d r h (within.listed (sys.from r)), taken-longer sys longer d r h (within.listed (sys.to r)), h.size r);
    }

pub IsRun-longer : (sys longer : System) (d : ℕ → ℕ) (picks : List ℕ) → IsLonger sys longer → IsWithin sys d → IsRun sys d picks → IsRun longer d picks
IsRun-longer sys longer d [] h within run = tt
IsRun-longer sys longer d (a ∷ picks) h within run =
    (IsPossible-longer sys longer d a h within run.0, IsRun-longer sys longer (step d a) picks h (IsWithin-step sys d a run.0 within) run.1)

IsWithin-longer : (sys longer : System) (d : ℕ → ℕ) → IsLonger sys longer → IsWithin sys d → IsWithin longer d
IsWithin-longer sys longer d h within = record {
  listed = λ a. omega (arith, within.listed a, h.lengths a);
  behind = λ r. omega (arith, within.behind r, given-longer sys longer d r h (within.listed (sys.from r)), taken-longer sys longer d r h (within.listed (sys.to r)));
  fits = λ r. omega (arith, within.fits r, given-longer sys longer d r h (within.listed (sys.from r)), taken-longer sys longer d r h (within.listed (sys.to r)), h.size r);
}

-- a state stays a state
pub IsState-longer : (m longer : Machine) (s : State) → IsLonger m.sys longer.sys → KeepsValues m longer → IsLocal longer → IsState m s → IsState longer s
IsState-longer m longer s h keeps local state = record {
  within = IsWithin-longer m.sys longer.sys s.done h state.within;
  gave_count = λ r. state.gave_count r ∙ sym (given-longer m.sys longer.sys s.done r h (state.within.listed (m.sys.from r)));
  took_count = λ r. state.took_count r ∙ sym (taken-longer m.sys longer.sys s.done r h (state.within.listed (m.sys.to r)));
  fronts = state.fronts;
  values = λ a n r l e.
      let old : n < length (m.sys.ops a) = omega (arith, state.within.listed a) in
      let op : op_at m.sys a n ≡ Gives r = sym (op_at-longer m.sys longer.sys a n h old) ∙ e in
      let gives : gives_before longer.sys a n r ≡ gives_before m.sys a n r = count_longer (is_give r) (m.sys.ops a) (longer.sys.ops a) n (h.ops a) (omega arith) in
      let takes : (q : ℕ) → takes_before longer.sys a n q ≡ takes_before m.sys a n q = λ q. count_longer (is_take q) (m.sys.ops a) (longer.sys.ops a) n (h.ops a) (omega arith) in
      ap (item_at (s.gave r)) gives ∙ state.values a n r l op ∙ sym (keeps a n (λ q. take (takes_before m.sys a n q) (s.took q)) old)
      ∙ local a n (λ q. take (takes_before m.sys a n q) (s.took q)) (λ q. take (takes_before longer.sys a n q) (s.took q)) (λ q t. ap (λ k. take k (s.took q)) (sym (takes q)));
}

-- the same state leads to the same states
event-same : (m : Machine) (s t : State) (a : ℕ) → IsLocal m → IsSame s t → IsSame (event m s a) (event m t a)
event-same m s t a local same =
    let op : op_at m.sys a (s.done a) ≡ op_at m.sys a (t.done a) = ap (op_at m.sys a) (same.done a) in
    let value : m.value a (s.done a) s.took ≡ m.value a (t.done a) t.took =
    local a (s.done a) s.took t.took (λ r e. same.took r) ∙ ap (λ n. m.value a n t.took) (same.done a) in
    record {
      done = λ b. omega (arith, same.done b);
      gave = λ r.
          let v : ℤ = m.value a (t.done a) t.took in
          let here : gave_after (op_at m.sys a (s.done a)) r (m.value a (s.done a) s.took) (s.gave r) ≡ gave_after (op_at m.sys a (t.done a)) r (m.value a (s.done a) s.took) (s.gave r) =
          ap (λ o. gave_after o r (m.value a (s.done a) s.took) (s.gave r)) op in
          here ∙ ap (λ x. gave_after (op_at m.sys a (t.done a)) r x (s.gave r)) value ∙ ap (gave_after (op_at m.sys a (t.done a)) r v) (same.gave r);
      took = λ r.
          let holds : held s r ≡ held t r = ap (λ xs. drop (length xs) (s.gave r)) (same.took r) ∙ ap (drop (length (t.took r))) (same.gave r) in
          ap (λ o. took_after o r (held s r) (s.took r)) op ∙ ap (λ xs. took_after (op_at m.sys a (t.done a)) r xs (s.took r)) holds
          ∙ ap (took_after (op_at m.sys a (t.done a)) r (held t r)) (same.took r);
    }

pub events-same : (m : Machine) (s t : State) (picks : List ℕ) → IsLocal m → IsSame s t → IsSame (events m s picks) (events m t picks)
events-same m s t [] local same = same
events-same m s t (a ∷ picks) local same = events-same m (event m s a) (event m t a) picks local (event-same m s t a local same)

IsSame-trans : (s t u : State) → IsSame s t → IsSame t u → IsSame s u
IsSame-trans s t u f g = record { done = λ a. f.done a ∙ g.done a; gave = λ r. f.gave r ∙ g.gave r; took = λ r. f.took r ∙ g.took r }

event-longer : (m longer : Machine) (s : State) (a : ℕ) → IsLonger m.sys longer.sys → KeepsValues m longer → s.done a < length (m.sys.ops a) → IsSame (event longer s a) (event m s a)
event-longer m longer s a h keeps l =
    let op : op_at longer.sys a (s.done a) ≡ op_at m.sys a (s.done a) = op_at-longer m.sys longer.sys a (s.done a) h l in
    record {
      done = λ b. refl;
      gave = λ r.
          ap (λ o. gave_after o r (longer.value a (s.done a) s.took) (s.gave r)) op ∙ ap (λ v. gave_after (op_at m.sys a (s.done a)) r v (s.gave r)) (keeps a (s.done a) s.took l);
      took = λ r. ap (λ o. took_after o r (held s r) (s.took r)) op;
    }

-- the events of a run lead to the same state
pub events-longer : (m longer : Machine) (s : State) (picks : List ℕ) → IsLonger m.sys longer.sys → KeepsValues m longer → IsLocal longer → IsRun m.sys s.done picks → IsSame (events longer s picks) (events m s picks)
events-longer m longer s [] h keeps local run = record { done = λ a. refl; gave = λ r. refl; took = λ r. refl }
events-longer m longer s (a ∷ picks) h keeps local run =
    IsSame-trans (events longer (event longer s a) picks) (events longer (event m s a) picks) (events m (event m s a) picks)
    (events-same longer (event longer s a) (event m s a) picks local (event-longer m longer s a h keeps run.0.left))
    (events-longer m longer (event m s a) picks h keeps local run.1)

-- a whole run, and a run of all that is then left, are a whole run
pub IsWhole-longer : (sys longer : System) (order rest : List ℕ) → IsLonger sys longer → IsWhole sys order → IsRun longer (after none_done order) rest →
    IsFinished longer (after (after none_done order) rest) → IsWhole longer (order ++ rest)
IsWhole-longer sys longer order rest h whole run finished = record {
  run = run_joined longer none_done order rest (IsRun-longer sys longer none_done order h (IsWithin-none sys) whole.run) run;
  all = λ a. after_joined none_done order rest a ∙ finished a;
}
