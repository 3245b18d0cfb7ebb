-- What is known of the text of a drawing, and of the calls in it.
use Rattle.std.proofs.Common.{ℕ, suc, ◌+◌, ◌-◌, ◌≡◌, ◌<◌, ◌≤◌, ◌^◌, List, ◌++◌, length, ap, sym, ◌∙◌, subst, append_assoc, append-nil, arith}
use Rattle.std.specs.Prelude.{flat_map}
use Rattle.std.specs.List.{range_with_len}
use Rattle.lucy_place.specs.declared.placed.PlacedNode.{PlacedNode}
use Rattle.lucy_place.specs.Standing.{most_places}
use Rattle.lucy_place.proofs.NodeLaws.{at_one_within}
use Rattle.lucy_picture.proofs.TextLaws.{piece_more}
use Rattle.lucy_diagram.specs.declared.call.DrawnCall.{DrawnCall}
use Rattle.lucy_diagram.specs.Diagrams.{IsDrawnCall}

-- the numbers of the places of a call's results are small
pub call_fits : (nodes : List PlacedNode) (n : PlacedNode) (k : ℕ) (call : DrawnCall) → IsDrawnCall nodes n k call → length n.places ≤ most_places → call.first + call.results < 2 ^ 32
call_fits nodes n k call drawn few =
    let results = length drawn.proper.callee.results in
    let last = drawn.proper.results (results - 1) (let h = drawn.proper.some in omega arith) in
    let within = at_one_within n.places (drawn.site.first + (results - 1)) last.0 last.1 in
    let some = drawn.proper.some in
    omega (arith, drawn.first, drawn.count)

-- that of the next number
pub number_more : (text : ℕ → List ℕ) (at end : ℕ) (old new whole : List ℕ) → at < end → new ≡ old ++ text at →
    old ++ flat_map text (range_with_len at (end - at)) ≡ whole → new ++ flat_map text (range_with_len (at + 1) (end - (at + 1))) ≡ whole
number_more text at end old new whole h more before =
    let left : ℕ = end - (at + 1) in
    let next : end - at ≡ suc left = omega arith in
    piece_more old new whole (text at) (flat_map text (range_with_len (at + 1) left)) more
    (subst (λ n. old ++ flat_map text (range_with_len at n) ≡ whole) next before)

-- behind the last one
pub number_end : (text : ℕ → List ℕ) (at end : ℕ) (out whole : List ℕ) → end ≤ at → out ++ flat_map text (range_with_len at (end - at)) ≡ whole → out ≡ whole
number_end text at end out whole h before =
    let none : end - at ≡ 0 = omega arith in
    sym (append-nil out) ∙ subst (λ n. out ++ flat_map text (range_with_len at n) ≡ whole) none before

-- a number between two texts, a text and another
pub framed : (a b c d x n y l z : List ℕ) → b ≡ a ++ (x ++ (n ++ y)) → c ≡ b ++ l → d ≡ c ++ z → d ≡ a ++ (x ++ (n ++ (y ++ (l ++ z))))
framed a b c d x n y l z one two three = three ∙ ap (λ t. t ++ z) (two ∙ ap (λ t. t ++ l) one) ∙ simp append_assoc

-- a number behind a text, and two texts
pub behind : (a b c d x n q r : List ℕ) → b ≡ a ++ (x ++ n) → c ≡ b ++ q → d ≡ c ++ r → d ≡ a ++ (x ++ (n ++ (q ++ r)))
behind a b c d x n q r one two three = three ∙ ap (λ t. t ++ r) (two ∙ ap (λ t. t ++ q) one) ∙ simp append_assoc
