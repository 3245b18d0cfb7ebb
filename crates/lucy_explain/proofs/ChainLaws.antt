-- A chain sums to its end, and says how early that may be.
use Rattle.std.proofs.Common.{◌≡◌, ℕ, ◌+◌, ◌<◌, ◌≤◌, ℤ, pos, ◌+ℤ◌, ◌-ℤ◌, ◌≤ℤ◌, List, [], ◌∷◌, ◌++◌, length, take, get_or, sym, ap, ◌∙◌, subst, refl, arith}
use Rattle.std.specs.List.{AllByRecursion}
use Rattle.std.proofs.lemmas.Int.{ints}
use Rattle.std.proofs.lemmas.List.{take_more, take_all}
use Rattle.lucy_solve.specs.declared.diffs.Diff.{Diff}
use Rattle.lucy_solve.specs.System.{DifferenceSystem, Solves, diff_at, value, constants}
use Rattle.lucy_explain.specs.Folds.{HoldsBetween}
use Rattle.lucy_explain.specs.Chains.{IsChain, ChainSumLaw, LeastLaw}
use Rattle.lucy_explain.proofs.LineLaws.{sum_from}

pub chain_sums : ChainSumLaw
chain_sums list from [] to later (same, none) =
    let e : constants list [] ≡ pos 0 = refl in
    omega (arith, ints)
chain_sums list from (p ∷ chain) to later (there, starts, more) =
    let most = (diff_at list p).most in
    let a = chain_sums list (diff_at list p).right chain to (later +ℤ most) more in
    let b : constants list (p ∷ chain) ≡ (pos 0 +ℤ most) +ℤ constants list chain = sum_from list (pos 0 +ℤ most) chain in
    omega (arith, ints)

along : (list : List Diff) (values : List ℤ) → ((k : ℕ) → k < length list → HoldsBetween values (diff_at list k).left (diff_at list k).right (diff_at list k).most) →
    (from : ℕ) (chain : List ℕ) (to : ℕ) (later : ℤ) → IsChain list from chain to later → (value values from +ℤ later) ≤ℤ value values to
along list values holds from [] to later (same, none) =
    let e : value values from ≡ value values to = ap (value values) same in
    omega (arith, ints)
along list values holds from (p ∷ chain) to later (there, starts, more) =
    let a = holds p there in
    let b : value values (diff_at list p).left ≡ value values from = ap (value values) starts in
    let c = along list values holds (diff_at list p).right chain to (later +ℤ (diff_at list p).most) more in
    omega (arith, ints)

pub least : LeastLaw
least s chain variable later is values solves =
    let a = along s.list values solves.each 0 chain variable later is in
    let b = solves.origin in
    omega (arith, ints)

-- all positions of a chain are there
pub chain_below : (list : List Diff) (from : ℕ) (chain : List ℕ) (to : ℕ) (later : ℤ) → IsChain list from chain to later → AllByRecursion (λ k. k < length list) chain
chain_below list from [] to later is = tt
chain_below list from (p ∷ chain) to later (there, starts, more) = (there, chain_below list (diff_at list p).right chain to (later +ℤ (diff_at list p).most) more)

-- one inequality more
chain_push : (list : List Diff) (from : ℕ) (chain : List ℕ) (to p next : ℕ) (later more : ℤ) → IsChain list from chain to later → p < length list → (diff_at list p).left ≡ to →
    next ≡ (diff_at list p).right → more ≡ later -ℤ (diff_at list p).most → IsChain list from (chain ++ p ∷ []) next more
chain_push list from [] to p next later more (same, none) there starts ends is = (there, starts ∙ sym same, (sym ends, omega (arith, ints)))
chain_push list from (q ∷ chain) to p next later more (h, begins, rest) there starts ends is =
    let most = (diff_at list q).most in
    (h, begins, chain_push list (diff_at list q).right chain to p next (later +ℤ most) (more +ℤ most) rest there starts ends (omega (arith, ints)))

pub chain_more : (list : List Diff) (chain : List ℕ) (i to next : ℕ) (later more : ℤ) → i < length chain → IsChain list 0 (take i chain) to later → get_or chain i 0 < length list →
    (diff_at list (get_or chain i 0)).left ≡ to → next ≡ (diff_at list (get_or chain i 0)).right → more ≡ later -ℤ (diff_at list (get_or chain i 0)).most → IsChain list 0 (take (i + 1) chain) next more
chain_more list chain i to next later more h is there starts ends sum =
    subst (λ (ps : List ℕ). IsChain list 0 ps next more) (sym (take_more chain i 0 h)) (chain_push list 0 (take i chain) to (get_or chain i 0) next later more is there starts ends sum)

pub chain_ends : (list : List Diff) (chain : List ℕ) (n to variable : ℕ) (later least : ℤ) → length chain ≤ n → IsChain list 0 (take n chain) to later → to ≡ variable → later ≡ least →
    IsChain list 0 chain variable least
chain_ends list chain n to variable later least all is same sum =
    subst (λ (v : ℕ). IsChain list 0 chain v least) same
    (subst (λ (z : ℤ). IsChain list 0 chain to z) sum (subst (λ (ps : List ℕ). IsChain list 0 ps to later) (take_all n chain all) is))
