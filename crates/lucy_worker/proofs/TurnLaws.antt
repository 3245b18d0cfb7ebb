-- Passes over the parts of a worker make a turn.
use Rattle.std.proofs.Common.{ℕ, ◌+◌, ◌≤◌, ◌≡◌, List, ◌++◌, length, take, drop, ap, sym, ◌∙◌, subst, arith}
use Rattle.std.proofs.lemmas.List.{take_at}
use Rattle.lucy_host.specs.declared.kind.HostKind.{HostKind}
use Rattle.lucy_worker.specs.declared.part.Part.{Part}
use Rattle.lucy_worker.specs.Turns.{IsTurnOf, most_moves}
use Rattle.lucy_worker.specs.Readiness.{AreReady, HaveRunBy, HavePassed}
use Rattle.lucy_worker.proofs.Runs.{none_could, passed_on, moved_on}
use Rattle.lucy_worker.proofs.CountLaws.{left_by_few}

-- the first pass, over the slice of a worker's parts
pub one_pass : (kinds : List HostKind) (count moves : ℕ) (ps inside before after : List Part) → inside ≡ ps → before ≡ inside → HavePassed
    kinds count before after moves → HavePassed kinds count ps after moves
one_pass kinds count moves ps inside before after same whole turned = subst (λ (xs : List Part). HavePassed kinds count xs after moves)
    (whole ∙ same) turned

-- and one more
pub more_passes : (kinds : List HostKind) (count moves more : ℕ) (ps qs rs : List Part) → HavePassed kinds count ps qs moves → HavePassed
    kinds count qs rs more → HavePassed kinds count ps rs (moves + more)
more_passes kinds count moves more ps qs rs one two = record {
  run_by = passed_on kinds count ps qs rs moves more one.run_by two.run_by;
  moved = moved_on kinds ps qs rs one.run_by.run one.moved two.run_by.run;
  rests = two.rests;
}

-- a pass, by what is known of the parts and of the number of moves behind it
pub passed_so : (kinds : List HostKind) (count moves more : ℕ) (ps qs rs : List Part) → rs ≡ qs → more ≡ moves → HavePassed kinds count ps qs moves →
    HavePassed kinds count ps rs more
passed_so kinds count moves more ps qs rs same as_many passed =
    subst (λ (n : ℕ). HavePassed kinds count ps rs n) (sym as_many) (subst (λ (xs : List Part). HavePassed kinds count ps xs moves) (sym same) passed)

-- by few moves
pub few_moves : (kinds : List HostKind) (count moves more : ℕ) (ps inside qs rs : List Part) → inside ≡ ps → AreReady inside → HavePassed
    kinds count ps qs moves → HaveRunBy kinds count qs rs more → moves + more ≤ most_moves
few_moves kinds count moves more ps inside qs rs same ready one two =
    let most = left_by_few ps (subst (λ (xs : List Part). AreReady xs) same ready) in
    omega (arith, most, one.run_by.left, two.left)

-- the slice is written back to the parts, which had a turn
pub turned_back : (kinds : List HostKind) (count moves n : ℕ) (ps inside before after : List Part) → inside ≡ ps → before ≡ inside → length
    before ≡ n → AreReady inside → HavePassed kinds count ps after moves →
    IsTurnOf kinds ps (take n (after ++ drop (length after) inside)) moves
turned_back kinds count moves n ps inside before after same whole len ready turned =
    let as_many = turned.run_by.run.as_many in
    let most = left_by_few ps (subst (λ (xs : List Part). AreReady xs) same ready) in
    let left = turned.run_by.left in
    let is : length before ≡ length ps = ap (λ (xs : List Part). length xs) (whole ∙ same) in
    subst (λ (xs : List Part). IsTurnOf kinds ps xs moves)
    (sym (take_at after (drop (length after) inside) n (omega (arith, as_many, is, len)))) (record {
      run = turned.run_by.run;
      counted = turned.run_by.done;
      few = omega (arith, most, left);
      moved = turned.moved;
      none = none_could kinds ps after moves turned.run_by.run turned.moved turned.run_by.done;
      rests = turned.rests;
    })
