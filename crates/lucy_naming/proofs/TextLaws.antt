-- Texts behind references, and the place of one that isn't there.
use Rattle.std.proofs.Common.{◌≡◌, ◌≤◌, ℕ, ◌+◌, Bool, true, false, not, cond, List, [], ◌∷◌, length, map, Some, None, refl, ap, sym, ◌∙◌, arith, ◌||◌, Bor}
use Rattle.std.specs.Prelude.{nat_lt}
use Rattle.std.specs.List.{list_any, position, position_from}
use Rattle.std.proofs.lemmas.Bool.Decides.{nat_tests}
use Rattle.std.proofs.lemmas.Iterator.Adapters.{position_from-zero}
use Rattle.std.proofs.lemmas.List.Sums.{prefix_len-le-length}
use Rattle.lucy_naming.specs.Texts.{is_text, is_in, find_in, place_in}

-- the bytes behind the references
abbrev pub seen : List (Bor (List ℕ)) → List (List ℕ)
seen ks = map (λ k. k.now) ks

-- a text is among references exactly where it is among their bytes
pub any_seen : (t : List ℕ) (ks : List (Bor (List ℕ))) → list_any (λ k. is_text t k.now) ks ≡ is_in (seen ks) t
any_seen t [] = refl
any_seen t (k ∷ ks) = ap (λ b. is_text t k.now || b) (any_seen t ks)

from_seen : (t : List ℕ) (i : ℕ) (ks : List (Bor (List ℕ))) → position_from (λ k. is_text t k.now) i ks ≡ position_from (is_text t) i (seen ks)
from_seen t i [] = refl
from_seen t i (k ∷ ks) = ap (λ o. cond (is_text t k.now) (Some i) o) (from_seen t (i + 1) ks)

-- and stands at the same place
pub found_seen : (t : List ℕ) (ks : List (Bor (List ℕ))) → position (λ k. is_text t k.now) ks ≡ find_in (seen ks) t
found_seen t ks = position_from-zero (λ k. is_text t k.now) ks ∙ from_seen t 0 ks ∙ sym (position_from-zero (is_text t) (seen ks))

same : {i n : ℕ} → i ≤ n → nat_lt i n ≡ false → n ≡ i
same h g = grind (arith, nat_tests)

-- a name that isn't found has all names before it
pub place_none : (ts : List (List ℕ)) (t : List ℕ) → None ≡ find_in ts t → length ts ≡ place_in ts t
place_none ts t = by (nat_lt (place_in ts t) (length ts)) refl
  where
    by : (b : Bool) → nat_lt (place_in ts t) (length ts) ≡ b → None ≡ cond b (Some (place_in ts t)) None → length ts ≡ place_in ts t
    by true g h = cc
    by false g h = same (prefix_len-le-length (λ u. not (is_text t u)) ts) g
