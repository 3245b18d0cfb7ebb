-- What the whole list of inequalities says.
use Rattle.std.proofs.Common.{ℕ, ◌≤◌, List, [], length, ℤ}
use Rattle.std.specs.List.{flat_map, AllByRecursion}
use Rattle.lucy_need.specs.declared.need.Needs.{Needs}
use Rattle.lucy_need.proofs.AllLaws.{all_front}
use Rattle.lucy_solve.specs.System.{most_inequalities, DifferenceSystem, IsGrounded, IsBase, Solves, no_diff}
use Rattle.lucy_shape.specs.declared.shape.Shape.{Shape}
use Rattle.lucy_shape.proofs.Bases.{base_of, has_left}
use Rattle.lucy_shape.proofs.Meeting.{each_from, each_to, meeting_law}
use Rattle.lucy_shape.proofs.Fitting.{fitting_law}
use Rattle.lucy_need.specs.Meeting.{Assignment, MeetsAll}
use Rattle.lucy_need.specs.Stored.{HasWords}
use Rattle.lucy_shape.specs.Fitting.{IsShapeFor, ArePositions, IsFitting}
use Rattle.lucy_shape.specs.Inequalities.{shape_rows, need_rows, inequalities, system_of, SolvesShape}
use Rattle.lucy_shape.specs.Rows.{HoldsIn}

pub system_ready : (needs : Needs) (shape : Shape) → IsShapeFor needs shape → length (inequalities needs shape) ≤ most_inequalities → IsGrounded (system_of needs shape)
system_ready needs shape is few = record {
  few = few;
  based = λ v some l. has_left no_diff (IsBase v) (shape_rows shape) (flat_map (need_rows shape.period shape.clocks) needs.list) (base_of shape v is.laid some l);
}

pub solves_front : (needs : Needs) (shape : Shape) (xs : List ℤ) → Solves (system_of needs shape) xs → SolvesShape shape xs
solves_front needs shape xs h = record {
  size = h.size;
  origin = h.origin;
  each = each_from xs (shape_rows shape) (all_front (HoldsIn xs) (shape_rows shape) (flat_map (need_rows shape.period shape.clocks) needs.list) (each_to xs (inequalities needs shape) h.each));
}

pub fits_and_meets : (needs : Needs) (shape : Shape) (xs : List ℤ) → IsShapeFor needs shape → AllByRecursion HasWords needs.list → Solves (system_of needs shape) xs →
    (w : Assignment) × IsFitting shape w × ArePositions shape w xs × MeetsAll w needs.list
fits_and_meets needs shape xs is words solves =
    let f = fitting_law shape xs is.laid (solves_front needs shape xs solves) in
    (f.0, f.1, f.2, (meeting_law needs shape f.0 xs words is f.1 f.2).1 solves)

abbrev empty : ℕ → DifferenceSystem
empty n = record { count = n; list = [] }
