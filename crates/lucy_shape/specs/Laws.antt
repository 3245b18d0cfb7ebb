-- What shapes, inequalities and positions have to do with each other.
use Rattle.std.specs.Prelude.{ℕ, ◌+◌, ◌-◌, ◌*◌, ◌<◌, ◌≤◌, ◌≡◌, ◌↔◌, max, List, length, ℤ, ◌≤ℤ◌}
use Rattle.std.specs.List.{AllByRecursion}
use Rattle.lucy_word.specs.Bits.{Bits, bit_count, ones_to, ones_in, IsWord}
use Rattle.lucy_word.specs.Index.{IsIndex}
use Rattle.lucy_word.specs.Shortest.{IsShortest}
use Rattle.lucy_need.specs.Meeting.{Assignment, MeetsAll, assigned}
use Rattle.lucy_need.specs.Stored.{HasWords}
use Rattle.lucy_need.specs.declared.need.Needs.{Needs}
use Rattle.lucy_solve.specs.System.{Solves, value}
use Rattle.lucy_shape.specs.declared.shape.ClockShape.{ClockShape}
use Rattle.lucy_shape.specs.declared.shape.Shape.{Shape}
use Rattle.lucy_shape.specs.Index.{index_of, Recurs}
use Rattle.lucy_shape.specs.Fitting.{clock_at, IsUsed, IsFitting, IsLaidOut, IsShapeFor, HasPositions, ArePositions}
use Rattle.lucy_shape.specs.Rows.{turns_of, row, HoldsIn, SolvesClock}
use Rattle.lucy_shape.specs.Inequalities.{lead_instances, system_of, SolvesShape}
use Rattle.lucy_shape.specs.WordOf.{word_at, written_word}
use Rattle.lucy_shape.specs.Writing.{AreWordsOf}

-- an assignment that fits meets the needs exactly where its positions solve the inequalities
abbrev pub MeetingLaw : Type 0
MeetingLaw = (needs : Needs) (shape : Shape) (w : Assignment) (xs : List ℤ) → AllByRecursion HasWords needs.list → IsShapeFor needs shape →
    IsFitting shape w → ArePositions shape w xs → (MeetsAll w needs.list ↔ Solves (system_of needs shape) xs)

-- numbers that meet bounds, neighbours and periods are the positions of an assignment that fits
abbrev pub FittingLaw : Type 0
FittingLaw = (shape : Shape) (xs : List ℤ) → IsLaidOut shape → SolvesShape shape xs → (w : Assignment) × IsFitting shape w × ArePositions shape w xs

-- each assignment has positions
abbrev pub PositionsLaw : Type 0
PositionsLaw = (shape : Shape) (w : Assignment) → IsLaidOut shape → (xs : List ℤ) × ArePositions shape w xs

-- of two assignments that fit, the one whose positions are no later has none of its ones later
abbrev pub EarlierLaw : Type 0
EarlierLaw = (shape : Shape) (v w : Assignment) (xs ys : List ℤ) → IsLaidOut shape → IsFitting shape v → IsFitting shape w →
    ArePositions shape v xs → ArePositions shape w ys → ((i : ℕ) → value xs i ≤ℤ value ys i) →
    (c : ℕ) → IsUsed shape.clocks c → (k : ℕ) → index_of (v c) k ≤ index_of (w c) k

-- words that are written from numbers which meet bounds, neighbours and periods are an assignment that fits, at these positions
abbrev pub WordsLaw : Type 0
WordsLaw = (shape : Shape) (xs : List ℤ) (words : List Bits) → IsLaidOut shape → SolvesShape shape xs → AreWordsOf shape xs words →
    IsFitting shape (assigned words) × ArePositions shape (assigned words) xs × ((c : ℕ) → c < length words → IsShortest (assigned words c))

-- a clock's word is written with the bits before its first one past the lead, and those of one period
abbrev pub WrittenLaw : Type 0
WrittenLaw = (shape : Shape) (w : Assignment) (xs : List ℤ) (c : ℕ) → IsLaidOut shape → ArePositions shape w xs → IsUsed shape.clocks c →
    bit_count (written_word shape.period (clock_at shape.clocks c) xs) ≡ index_of (w c) ((clock_at shape.clocks c).lead + 1) - 1 + shape.period

-- the k-th one of a word stands at its index
abbrev pub PlaceLaw : Type 0
PlaceLaw = (w : Bits) (k : ℕ) → IsWord w → IsIndex w k (index_of w k)

-- a position is folded by the least number of periods by whose ones it goes back to one of the lead or of the first period
abbrev pub FoldLaw : Type 0
FoldLaw = (c : ClockShape) (m t : ℕ) → 0 < c.ones → (turns_of c m ≤ t ↔ m ≤ c.lead + c.ones + t * c.ones)

-- numbers that come again past h after Q more, P later, stand to each other as the first h + Q of them do
abbrev pub InstancesLaw : Type 0
InstancesLaw = (f g : ℕ → ℕ) (h Q P : ℕ) → 0 < Q → Recurs f h Q P → Recurs g h Q P → ((k : ℕ) → 0 < k → k ≤ h + Q → f k ≤ g k) → (k : ℕ) → 0 < k → f k ≤ g k

-- one side of a need: the ones of its clock in a period are whole periods of its word, with so many instances
pub record IsSideOf (ones instances : ℕ) (w : Bits) : Type 0 where
  pub times : ℕ
  pub whole : ones ≡ times * length w.period
  pub some : instances ≡ times * ones_in w.period

-- a on u has had at least as many ones as b on w at every instant exactly where none of its instances comes later
abbrev pub NeedLaw : Type 0
NeedLaw = (a u b w : Bits) (n m q r P Q : ℕ) → IsWord a → IsWord u → IsWord b → IsWord w → 0 < Q → IsSideOf q Q u → IsSideOf r Q w →
    Recurs (index_of a) n q P → Recurs (index_of b) m r P →
    (((i : ℕ) → ones_to w (ones_to b i) ≤ ones_to u (ones_to a i)) ↔
    ((k : ℕ) → 0 < k → k ≤ max (lead_instances n u) (lead_instances m w) + Q → index_of a (index_of u k) ≤ index_of b (index_of w k)))

-- an inequality between two positions, both folded, holds of numbers that are positions exactly where it says so
abbrev pub RowLaw : Type 0
RowLaw = (P : ℕ) (c d : ClockShape) (X Y : ℕ → ℕ) (xs : List ℤ) (m k : ℕ) → 0 < c.ones → 0 < d.ones → Recurs X c.lead c.ones P → Recurs Y d.lead d.ones P →
    HasPositions c X xs → HasPositions d Y xs → 0 < m → 0 < k → (HoldsIn xs (row P c m d k) ↔ X m ≤ Y k)

-- the word that is written from rising positions has its ones there
abbrev pub WordLaw : Type 0
WordLaw = (X : ℕ → ℕ) (n q P : ℕ) → 0 < P → X 0 ≡ 0 → ((m : ℕ) → X m < X (m + 1)) → Recurs X n q P →
    (0 < ones_in (word_at X n P).period) × ((k : ℕ) → index_of (word_at X n P) k ≡ X k)

-- numbers that meet a clock's bounds, neighbours and period are the positions of a word that fits
abbrev pub ClockLaw : Type 0
ClockLaw = (P : ℕ) (c : ClockShape) (xs : List ℤ) → 0 < c.ones → 0 < c.first → SolvesClock P c xs →
    (w : Bits) × (0 < ones_in w.period) × Recurs (index_of w) c.lead c.ones P × HasPositions c (index_of w) xs
