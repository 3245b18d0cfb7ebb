-- The instants that the items of one input more allow.
use Rattle.std.proofs.Common.{◌≡◌, ℕ, ◌+◌, ◌-◌, ◌<◌, ◌≤◌, min, List, Some, ap, sym, ◌∙◌, subst, inl, inr, arith}
use Rattle.std.specs.Prelude.{ℤ, ◌↔◌, IsTrue, length, nat_lt, slice_get}
use Rattle.std.proofs.lemmas.Bool.{cases_lt, ltb-true, lt-ltb}
use Rattle.std.proofs.lemmas.Option.{same_Some}
use Rattle.lucy_word.specs.Bits.{Bits, ones_to}
use Rattle.lucy_word.specs.Index.{IsIndex}
use Rattle.lucy_word.proofs.BitsLaws.{ones_to-le}
use Rattle.lucy_word.proofs.IndexLaws.{IsIndex-there, IsIndex-before, IsIndex-instant, ones_to-rises}
use Rattle.lucy_stream.specs.Items.{list_at}
use Rattle.lucy_kahn.specs.Horizons.{Suffice, IsHorizon}

-- the last instant with no more ones than items
pub record IsLast (w : Bits) (items most last : ℕ) : Type 0 where
  pub within : last ≤ most
  pub exact : (t : ℕ) → t ≤ most → (ones_to w t ≤ items) ↔ (t ≤ last)

-- the instants before the one behind the items
before_place : (w : Bits) (items place t : ℕ) → IsIndex w (items + 1) place → ones_to w t ≤ items → t < place
before_place w items place t h few = elim (cases_lt t place) [
  | inl low ↦ low
  | inr high ↦ let some = IsIndex-there w (items + 1) place t h high in absurd (omega arith)
]

few_before : (w : Bits) (items place t : ℕ) → IsIndex w (items + 1) place → t < place → ones_to w t ≤ items
few_before w items place t h e = let few = IsIndex-before w (items + 1) place t h e in omega arith

pub place_some : (w : Bits) (items place : ℕ) → IsIndex w (items + 1) place → 1 ≤ place
place_some w items place h = IsIndex-instant w (items + 1) place h (omega arith)

pub last_before : (w : Bits) (items most place last : ℕ) → IsIndex w (items + 1) place → last ≡ min most (place - 1) → IsLast w items most last
last_before w items most place last h e =
    let some = place_some w items place h in
    record {
      within = omega arith;
      exact = λ t m. (
        λ few. let early = before_place w items place t h few in omega arith,
        λ early. few_before w items place t h (omega arith),
      );
    }

pub last_most : (w : Bits) (items most place : ℕ) → IsIndex w (items + 1) place → most < place → IsLast w items most most
last_most w items most place h e = record {
  within = omega arith;
  exact = λ t m. (λ few. m, λ early. few_before w items place t h (omega arith));
}

-- no fewer items than instants
pub last_all : (w : Bits) (items most : ℕ) → most ≤ items → IsLast w items most most
last_all w items most e = record {
  within = omega arith;
  exact = λ t m. (λ few. m, λ early. omega (arith, ones_to-le w t));
}

-- the inputs of the first so many words suffice
abbrev pub SufficeTo : List Bits → List (List ℤ) → ℕ → ℕ → Type 0
SufficeTo words inputs count instants = (i : ℕ) (word : Bits) → i < count → slice_get words i ≡ Some word → ones_to word instants ≤ length (list_at inputs i)

pub suffice_more : (words : List Bits) (inputs : List (List ℤ)) (i most new : ℕ) (word : Bits) → slice_get words i ≡ Some word → IsLast word (length (list_at inputs i)) most new →
    SufficeTo words inputs i most → SufficeTo words inputs (i + 1) new
suffice_more words inputs i most new word e h a j w k f = elim (cases_lt j i) [
  | inl low ↦
      let rises = ones_to-rises w new most h.within in
      let here = a j w low f in
      omega arith
  | inr high ↦
      let same : i ≡ j = omega arith in
      let one : word ≡ w = same_Some word w (sym e ∙ ap (slice_get words) same ∙ f) in
      let P : ℕ → Type 0 = λ m. ones_to w new ≤ length (list_at inputs m) in
      let Q : Bits → Type 0 = λ u. ones_to u new ≤ length (list_at inputs i) in
      subst P same (subst Q one ((h.exact new h.within).1 (omega arith)))
]

pub suffice_up_to : (words : List Bits) (inputs : List (List ℤ)) (i most last new : ℕ) (word : Bits) → slice_get words i ≡ Some word → IsLast word (length (list_at inputs i)) last new →
    ((u : ℕ) → u ≤ most → SufficeTo words inputs i u → u ≤ last) → (u : ℕ) → u ≤ most → SufficeTo words inputs (i + 1) u → u ≤ new
suffice_up_to words inputs i most last new word e h g u m a =
    (h.exact u (g u m (λ j w k f. a j w (omega arith) f))).0 (a i word (omega arith) e)

-- the horizon is past the most but for one exactly where the inputs suffice for it
pub past_most : (words : List Bits) (inputs : List (List ℤ)) (most horizon : ℕ) → IsHorizon words inputs (most + 1) horizon → IsTrue (nat_lt most horizon) ↔ Suffice words inputs (most + 1)
past_most words inputs most horizon is = (
  λ past.
      let above : most < horizon = ltb-true most horizon past in
      let reached : horizon ≡ most + 1 = omega (arith, is.within) in
      subst (λ t. Suffice words inputs t) reached is.suffice,
  λ suffice. lt-ltb most horizon (omega (arith, is.greatest (most + 1) (omega arith) suffice)),
)
