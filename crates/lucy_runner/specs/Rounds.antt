-- What a round does.
use Rattle.std.specs.Prelude.{ℕ, ◌<◌, ◌≡◌, ◌↔◌, List, length}
use Rattle.lucy_core.specs.Seen.{Seen, done_of, CanStep, CanRun, IsOver, after_picks}

-- from the one state to the other lead so many events, among them one at least of each actor that had a possible one; there are
-- none exactly where every actor had done its list
pub record IsRoundTo (seen next : Seen) (moves : ℕ) : Type 0 where
  pub picks : List ℕ
  pub count : length picks ≡ moves
  pub run : CanRun seen picks
  pub is : next ≡ after_picks seen picks
  pub moved : (a : ℕ) → CanStep seen a → done_of seen.done a < done_of next.done a
  pub none : (moves ≡ 0) ↔ IsOver seen
