-- When the items of one clock may feed another, and how many wait at most (Mandel, Plateau and Pouzet 2010).
use Rattle.std.specs.Prelude.{ℕ, ◌+◌, ◌*◌, ◌<◌, ◌≤◌, ◌≡◌, length}
use Rattle.lucy_word.specs.Bits.{Bits, ones_to, ones_in}

-- the periods have the same share of ones
abbrev pub SameRate : Bits → Bits → Type 0
SameRate a b = ones_in a.period * length b.period ≡ ones_in b.period * length a.period

-- at every instant a has had at least as many ones as b
abbrev pub Precedes : Bits → Bits → Type 0
Precedes a b = (i : ℕ) → ones_to b i ≤ ones_to a i

-- what a gives, b may take through a buffer
abbrev pub IsAdaptable : Bits → Bits → Type 0
IsAdaptable a b = SameRate a b × Precedes a b

-- the buffer's size is the greatest lead of a over b: reached at some instant or at 0, and passed at none
pub record IsSize (a b : Bits) (size : ℕ) : Type 0 where
  pub reached : (i : ℕ) × (ones_to a i ≡ ones_to b i + size)
  pub passed : (i : ℕ) → ones_to a i ≤ ones_to b i + size

-- the first instant at which b has had more ones than a
pub record IsFirstLate (a b : Bits) (at : ℕ) : Type 0 where
  pub late : ones_to a at < ones_to b at
  pub first : (i : ℕ) → i < at → ones_to b i ≤ ones_to a i
