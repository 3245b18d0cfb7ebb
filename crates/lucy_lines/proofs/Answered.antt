-- A cut by the answers that come in turn.
use Rattle.std.proofs.Common.{◌≡◌, ◌+◌, Bool, List, [], ◌∷◌, refl, sym, subst}
use Rattle.lucy_lines.specs.declared.input.InputSpec.{InputSpec}
use Rattle.lucy_lines.specs.declared.reader.TextFault.{TextFault}
use Rattle.lucy_lines.specs.declared.reader.TextFault.TheVariants.{BadLine, TooLong}
use Rattle.lucy_lines.specs.Cuts.{Held, ItemOf, Stop, At, Before, Cut}
use Rattle.lucy_lines.specs.Cuts as cuts
use Rattle.lucy_lines.specs.Nexts.{Answer, Gives, Refuses, Wants, Next, blank, item, refused, long, too_long, wants}

-- the items of what is held, and their stop, each by the answer that comes next
pub data Answered (inputs : List InputSpec) (closed : Bool) : Held → List ItemOf → Stop → Type 0 where
  refused_line : {h : Held} {f : TextFault} → Next inputs closed h (Refuses f) → Answered inputs closed h [] (At f)
  undecided : {h g : Held} → Next inputs closed h (Wants g) → Answered inputs closed h [] (Before g)
  more : {h g : Held} {i : ItemOf} {items : List ItemOf} {stop : Stop} → Next inputs closed h (Gives i g) → Answered inputs closed g items stop →
      Answered inputs closed h (i ∷ items) stop

-- what comes next of more, comes first
pub first_more : {inputs : List InputSpec} {closed : Bool} {h g : Held} {items : List ItemOf} {stop : Stop} → ((c : Answer) → Next inputs closed g c → Next inputs closed h c) → Answered inputs closed g items stop → Answered inputs closed h items stop
first_more m (refused_line {f = f} n) = refused_line (m (Refuses f) n)
first_more m (undecided {g = k} n) = undecided (m (Wants k) n)
first_more m (more {g = k} {i = i} n c) = more (m (Gives i k) n) c

-- a cut, answer by answer
pub answered : {inputs : List InputSpec} {closed : Bool} {h : Held} {items : List ItemOf} {stop : Stop} → Cut inputs closed h items stop → Answered inputs closed h items stop
answered (cuts.blank e k c) = first_more (λ a n. blank e k n) (answered c)
answered (cuts.item e k c) = more (item e k) (answered c)
answered (cuts.refused k e s r) = refused_line (refused k e s r)
answered (cuts.long e) = refused_line (long e)
answered (cuts.too_long e) = refused_line (too_long e)
answered (cuts.undecided e) = undecided (wants e)

-- what is cut behind an answer
abbrev pub Behind : List InputSpec → Bool → Answer → List ItemOf → Stop → Type 0
Behind inputs closed (Gives i g) items stop = (rest : List ItemOf) × Cut inputs closed g rest stop × (items ≡ i ∷ rest)
Behind inputs closed (Refuses f) items stop = (items ≡ []) × (stop ≡ At f)
Behind inputs closed (Wants g) items stop = (items ≡ []) × (stop ≡ Before g)

-- an answer, and what is cut behind it, are a cut
pub cut_behind : {inputs : List InputSpec} {closed : Bool} {h : Held} {a : Answer} {items : List ItemOf} {stop : Stop} → Next inputs closed h a → Behind inputs closed a items stop → Cut inputs closed h items stop
cut_behind (blank e k n) b = cuts.blank e k (cut_behind n b)
cut_behind {inputs} {closed} {h} {stop = stop} (item e k) b = subst (λ u. Cut inputs closed h u stop) (sym b.2) (cuts.item e k b.1)
cut_behind {inputs} {closed} {h} {items = items} (refused {f = f} k e s r) b = subst (λ u. Cut inputs closed h items u) (sym b.1) (subst (λ u. Cut inputs closed h u (At f)) (sym b.0) (cuts.refused k e s r))
cut_behind {inputs} {closed} {h} {items = items} (long e) b = subst (λ u. Cut inputs closed h items u) (sym b.1) (subst (λ u. Cut inputs closed h u (At (BadLine (h.lines + 1)))) (sym b.0) (cuts.long e))
cut_behind {inputs} {closed} {h} {items = items} (too_long e) b = subst (λ u. Cut inputs closed h items u) (sym b.1) (subst (λ u. Cut inputs closed h u (At TooLong)) (sym b.0) (cuts.too_long e))
cut_behind {inputs} {closed} {h} {items = items} (wants e) b = subst (λ u. Cut inputs closed h items u) (sym b.1) (subst (λ u. Cut inputs closed h u (Before h)) (sym b.0) (cuts.undecided e))

-- and answers in turn are a cut
pub cut_of : {inputs : List InputSpec} {closed : Bool} {h : Held} {items : List ItemOf} {stop : Stop} → Answered inputs closed h items stop → Cut inputs closed h items stop
cut_of (refused_line n) = cut_behind n (refl, refl)
cut_of (undecided n) = cut_behind n (refl, refl)
cut_of (more {items = items} n c) = cut_behind n (items, cut_of c, refl)
