-- What numbers come to in the play of a firing, each where little else is known.
use Rattle.std.proofs.Common.{ℕ, ◌+◌, ◌-◌, ◌^◌, ◌<◌, ◌≤◌, ◌≡◌, List, length, set, ap, arith, Fits, w32, w64}
use Rattle.std.proofs.lemmas.List.{length-set}
use Rattle.lucy_net.specs.declared.net.Net.{Net}
use Rattle.lucy_net.specs.Instants.{slot}
use Rattle.lucy_net.specs.Proper.{IsProper}
use Rattle.lucy_net.proofs.SlotLaws.{slot_short}

pub le_same : (n : ℕ) → n ≤ n
le_same n = omega arith

pub le_more : (n : ℕ) → n ≤ n + 1
le_more n = omega arith

pub le_still : {n m : ℕ} → m ≡ n → n ≤ m
le_still e = omega arith

pub le_moved : {n m : ℕ} → m ≡ n + 1 → n ≤ m
le_moved e = omega arith

pub none_over : {n : ℕ} → n ≤ 0 → n ≡ 0
none_over l = omega arith

pub some_next : {n : ℕ} (k : ℕ) → n ≡ k + 1 → 0 < n
some_next k e = omega arith

pub early_fits : (n : ℕ) → n < 2 ^ 32 → n + 1 < 2 ^ 64
early_fits n l = omega arith

pub less_fits : (n : ℕ) → Fits w32 n → Fits w64 (n - 1)
less_fits n l = omega arith

-- the numbers of actors are small, and so is how many wait
pub actor_fits : (net : Net) (a : ℕ) → IsProper net → a < length net.actors → Fits w32 a
actor_fits net a is l = omega (arith, is.few_actors)

pub waits_few : (net : Net) (n : ℕ) → IsProper net → n < length net.actors → n + 1 < 2 ^ 32
waits_few net n is l = omega (arith, is.few_actors)

-- and how many operations a firing has
pub step_small : (net : Net) (n a step : ℕ) → IsProper net → step ≤ length (slot net n a) → step + 1 < 2 ^ 32
step_small net n a step is l = omega (arith, slot_short net n a is)

-- an actor is there among the marks, after one of them is put
pub marked_there : (from giver actors : ℕ) (depth new_depth : List ℕ) (now mark : ℕ) → giver < actors → from ≡ giver → length depth ≡ actors → new_depth ≡ set depth now mark → from < length new_depth
marked_there from giver actors depth new_depth now mark l e d m = omega (arith, ap length m, length-set depth now mark)
