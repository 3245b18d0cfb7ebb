-- The places of a class meet: what is seen of them decides about all its instants.
use Rattle.std.proofs.Common.{ℕ, ◌+◌, ◌-◌, ◌*◌, ◌/◌, ◌%◌, ◌<◌, ◌≤◌, ◌≡◌, ◌⊎◌, max, ap, sym, ◌∙◌, inl, inr, arith}
use Rattle.std.proofs.Math.Nat.{div-add-mod, mod-lt, mul-le-mul_right, le_of_dvd, div-mul_cancel, add-mul-mod_self_right, mod-eq_of_lt, pos_of_dvd_of_pos}
use Rattle.std.proofs.lemmas.Bool.{cases_lt}
use Rattle.std.proofs.lemmas.Nat.Gcd.{IsGcd-swap}
use Rattle.lucy_word.specs.Bits.{Bits, ones_to}
use Rattle.lucy_word.specs.Adaptable.{IsSize}
use Rattle.lucy_check.specs.Rates.{IsNoSlower}
use Rattle.lucy_check.specs.Leads.{IsLeadAmong}
use Rattle.lucy_check.specs.Turns.{AreTurns, AreRounds, InClass}
use Rattle.lucy_check.specs.declared.turns.Turns.{Turns}
use Rattle.lucy_check.proofs.Remainders.{Meets, meet}
use Rattle.lucy_check.proofs.Leads.{lead_fewer, lead_both}
use Rattle.lucy_check.proofs.Seen.{IsSeen}
use Rattle.lucy_check.proofs.TurnsLaws.{ones_to-step, ones_to-rounds}

classes_within : (t : Turns) → AreRounds t → t.classes ≤ t.step
classes_within t round = le_of_dvd round.some round.classes.1

pub class_within : (t : Turns) → AreRounds t → (class : ℕ) → class < t.classes → class < t.turn
class_within t round class below = omega (arith, round.longer, classes_within t round)

-- the place in the period of b is of the class of the instant
same_class : (t : Turns) → AreRounds t → (n : ℕ) → n % t.step % t.classes ≡ n % t.classes
same_class t round n =
    let g : ℕ = t.classes in
    let q : ℕ = t.step / g in
    let m : ℕ = n / t.step in
    let whole : q * g ≡ t.step = div-mul_cancel g round.classes.1 in
    let parts : t.step * m + n % t.step ≡ n = div-add-mod n t.step in
    let turned : m * (q * g) ≡ m * t.step = ap (λ x. m * x) whole in
    let e : n ≡ n % t.step + m * q * g = omega arith in
    sym (ap (λ x. x % g) e ∙ add-mul-mod_self_right (n % t.step) (m * q) g)

-- whole turns are taken off both sides
take_off : (x c d m n : ℕ) → c < d → x + m * d ≡ c + n * d → x ≡ c + (n - m) * d
take_off x c d m n less e =
    elim (cases_lt n m) [
      | inl more ↦ absurd (let f : (n + 1) * d ≤ m * d = mul-le-mul_right d (let g : n + 1 ≤ m = omega arith in g) in omega arith)
      | inr up ↦ (let f : n * d ≡ (m + (n - m)) * d = ap (λ k. k * d) (omega arith) in omega arith)
    ]

-- a place is gone back to within a round
pub record ComesBack (t : Turns) (class p : ℕ) : Type 0 where
  pub steps : ℕ
  pub turns : ℕ
  pub within : steps < t.rounds
  pub same : p + steps * t.step ≡ class + turns * t.turn

within_round : (t : Turns) → AreRounds t → (class p : ℕ) → class < t.classes → Meets t.step t.turn p class → ComesBack t class p
within_round t round class p below met =
    let R : ℕ = t.rounds in
    let u : ℕ = round.together.0 in
    let k : ℕ = met.of_a % R in
    let v : ℕ = met.of_a / R in
    let parts : R * v + k ≡ met.of_a = div-add-mod met.of_a R in
    let steps : (R * v + k) * t.step ≡ met.of_a * t.step = ap (λ x. x * t.step) parts in
    let rounds : v * (R * t.step) ≡ v * (u * t.turn) = ap (λ x. v * x) round.together.1 in
    record {
      steps = k;
      turns = met.of_b - v * u;
      within = mod-lt met.of_a round.rounds;
      same = take_off (p + k * t.step) class t.turn (v * u) met.of_b (class_within t round class below) (omega (arith, met.same));
    }

comes_back : (t : Turns) → AreRounds t → (class p : ℕ) → class < t.classes → p % t.classes ≡ class → ComesBack t class p
comes_back t round class p below agree =
    within_round t round class p below (meet t.step t.turn t.classes p class round.some (omega (arith, round.some, round.longer)) (IsGcd-swap t.turn t.step t.classes round.classes) (agree ∙ sym (mod-eq_of_lt below)))

-- no instant of the class has a greater lead than was seen
not_passed : (a b : Bits) (t : Turns) → AreRounds t → AreTurns a b t → IsNoSlower b a → (class most p m : ℕ) → IsSeen a b t class t.rounds most → p < t.step →
    ComesBack t class p → ones_to a (t.start + p + m * t.step) ≤ ones_to b (t.start + p + m * t.step) + most
not_passed a b t round is rate class most p m seen some back =
    let R : ℕ = t.rounds in
    let n : ℕ = m % R in
    let v : ℕ = m / R in
    let parts : R * v + n ≡ m = div-add-mod m R in
    let steps : (R * v + n) * t.step ≡ m * t.step = ap (λ x. x * t.step) parts in
    let costs : (R * v + n) * t.cost ≡ m * t.cost = ap (λ x. x * t.cost) parts in
    let at : t.start + p + m * t.step ≡ t.start + p + n * t.step + v * (R * t.step) = omega arith in
    let low = seen.passed back.steps back.turns p back.within some back.same n (mod-lt m round.rounds) in
    let of_a = ones_to-rounds a b t round is rate (t.start + p + n * t.step) v (omega arith) in
    let of_b = ones_to-step a b t is (t.start + p) m (omega arith) in
    omega (arith, ap (ones_to a) at)

pub lead_from_seen : (a b : Bits) (t : Turns) → AreRounds t → AreTurns a b t → IsNoSlower b a → (class most : ℕ) → class < t.classes → IsSeen a b t class t.rounds most →
    IsLeadAmong a b (InClass t class) most
lead_from_seen a b t round is rate class most below seen = record {
  reached = seen.reached;
  passed = λ i in_class.
      let n : ℕ = i - t.start in
      let p : ℕ = n % t.step in
      let m : ℕ = n / t.step in
      let parts : t.step * m + p ≡ n = div-add-mod n t.step in
      let at : i ≡ t.start + p + m * t.step = omega (arith, in_class.0) in
      let back = comes_back t round class p below (same_class t round n ∙ in_class.1) in
      omega (arith, not_passed a b t round is rate class most p m seen (mod-lt n round.some) back, ap (ones_to a) at, ap (ones_to b) at);
}

-- the instants of the prefix and those of the classes below one
abbrev pub UpToClass : Turns → ℕ → ℕ → Type 0
UpToClass t class i = (i ≤ t.start) ⊎ ((i - t.start) % t.classes < class)

pub lead_from_prefix : (a b : Bits) (t : Turns) (most : ℕ) → IsLeadAmong a b (λ i. i ≤ t.start) most → IsLeadAmong a b (UpToClass t 0) most
lead_from_prefix a b t most h =
    lead_fewer a b (λ i. i ≤ t.start) (UpToClass t 0) most h (λ i either. elim either [ inl early ↦ early | inr none ↦ absurd (omega arith) ])

pub lead_and_class : (a b : Bits) (t : Turns) (class most lead now : ℕ) → IsLeadAmong a b (UpToClass t class) most → IsLeadAmong a b (InClass t class) lead →
    now ≡ max most lead → IsLeadAmong a b (UpToClass t (class + 1)) now
lead_and_class a b t class most lead now h k e =
    lead_both a b (UpToClass t class) (InClass t class) (UpToClass t (class + 1)) most lead now h k e (λ i either.
    elim either [
      | inl early ↦ inl (inl early)
      | inr below ↦
          elim (cases_lt ((i - t.start) % t.classes) class) [
            | inl less ↦ inl (inr less)
            | inr here ↦ elim (cases_lt i t.start) [ inl early ↦ inl (inl (omega arith)) | inr past ↦ inr (past, omega arith) ]
          ]
    ])

-- the classes are all instants past the prefix
pub IsSize-from_classes : (a b : Bits) (t : Turns) → AreRounds t → (most : ℕ) → IsLeadAmong a b (UpToClass t t.classes) most → IsSize a b most
IsSize-from_classes a b t round most h = record {
  reached = h.reached;
  passed = λ i. h.passed i (inr (mod-lt (i - t.start) (pos_of_dvd_of_pos round.classes.1 round.some)));
}
