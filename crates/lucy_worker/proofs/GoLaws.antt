-- One part of a worker goes on.
use Rattle.std.proofs.Common.{ℕ, ◌≡◌, ◌<◌, ◌≤◌, List, length, get_or, set, All, ap, sym, ◌∙◌, subst, arith}
use Rattle.std.proofs.lemmas.List.{get_or_default}
use Rattle.std.proofs.lemmas.List.Elements.{All-get_or}
use Rattle.lucy_host.specs.declared.kind.HostKind.{HostKind}
use Rattle.lucy_worker.specs.declared.part.Part.{Part}
use Rattle.lucy_worker.specs.Turns.{IsServed, most_moves}
use Rattle.lucy_worker.specs.Readiness.{IsReady, AreReady, HaveRunBy}
use Rattle.lucy_worker.proofs.CountLaws.{left_by_few}
use Rattle.lucy_worker.proofs.Runs.{GoesOn, passed_one}

-- it is ready, and a host serves it
pub ready_at : (inside ps : List Part) (k : ℕ) (d p : Part) → inside ≡ ps → AreReady inside → k < length ps → p ≡ get_or inside k d → IsReady p
ready_at inside ps k d p same ready l at =
    let m : k < length inside = omega (arith, l, ap (λ (xs : List Part). length xs) same) in
    subst IsReady (sym at) (All-get_or IsReady inside k d m ready.each)

pub served_at : (count : ℕ) (inside ps : List Part) (k : ℕ) (d p : Part) → inside ≡ ps → All (IsServed count) ps → k < length ps → p ≡ get_or inside k d → IsServed count p
served_at count inside ps k d p same served l at = subst (IsServed count) (sym (at ∙ ap (λ (xs : List Part). get_or xs k d) same)) (All-get_or (IsServed count) ps k d l served)

-- all parts have passed, by few moves
pub one_passed : (kinds : List HostKind) (count : ℕ) (inside ps : List Part) (k : ℕ) (d p q : Part) (moves : ℕ) → inside ≡ ps → AreReady inside → All (IsServed count) ps → k < length ps → p ≡ get_or inside k d → GoesOn kinds p q moves →
    HaveRunBy kinds count ps (set inside k q) moves × (moves ≤ most_moves)
one_passed kinds count inside ps k d p q moves same ready served l at on =
    let m : k < length inside = omega (arith, l, ap (λ (xs : List Part). length xs) same) in
    let is : (e : Part) → get_or inside k e ≡ p = λ (e : Part). (get_or_default inside k e d m ∙ sym at) in
    let passed : HaveRunBy kinds count inside (set inside k q) moves =
    passed_one kinds count inside k p q moves m is on (served_at count inside ps k d p same served l at) ready (subst (All (IsServed count)) (sym same) served) in
    (subst (λ (xs : List Part). HaveRunBy kinds count xs (set inside k q) moves) same passed, omega (arith, passed.left, left_by_few inside ready))
