-- Each token raises what is counted by one at most.
use Rattle.std.proofs.Common.{ℕ, ◌+◌, ◌<◌, ◌≤◌, List, [], ◌∷◌, arith}
use Rattle.lucy_token.specs.declared.mark.Mark.TheVariants as mark
use Rattle.lucy_token.specs.declared.token.Kind.{Kind}
use Rattle.lucy_token.specs.declared.token.Kind.TheVariants as kind
use Rattle.lucy_token.specs.declared.state.Side.{Side}
use Rattle.lucy_token.specs.declared.state.Side.TheVariants as side
use Rattle.lucy_token.specs.declared.state.Level.{Level}
use Rattle.lucy_token.specs.States.{ScanState, after, closed, moved, counted_after, nodes_after, level_after, merging}
use Rattle.lucy_token.specs.Steps.{FewCommas, IsBounded}

few_more : (n m : ℕ) (ls : List Level) → n ≤ m → FewCommas n ls → FewCommas m ls
few_more n m [] h few = tt
few_more n m (l ∷ ls) h few = (omega (arith, few.0), few_more n m ls h few.1)

nodes_more : (n : ℕ) (k : Kind) → nodes_after n k ≤ n + 1
nodes_more n (kind.Mark mark.Let) = omega arith
nodes_more n k = omega arith

counted_more : (at : Side) (n : ℕ) (k : Kind) → counted_after at n k ≤ n + 1
counted_more at n (kind.Mark mark.Let) = omega arith
counted_more at n (kind.Mark mark.Rec) = omega arith
counted_more at n (kind.Mark mark.And) = omega arith
counted_more at n (kind.Mark mark.Open) = omega arith
counted_more at n (kind.Mark mark.Close) = omega arith
counted_more side.Head n k = omega arith
counted_more at n k = omega arith

merging_same : (before : Kind) (l : Level) → (merging before l).commas ≤ l.commas
merging_same (kind.Mark mark.Merge) l = omega arith
merging_same before l = omega arith

commas_more : (before : Kind) (l : Level) (k : Kind) → (level_after before l k).commas ≤ l.commas + 1
commas_more before l kind.Word = omega (arith, merging_same before l)
commas_more before l kind.Name = omega arith
commas_more before l kind.Number = omega arith
commas_more before l (kind.Mark mark.True) = omega arith
commas_more before l (kind.Mark mark.False) = omega arith
commas_more before l (kind.Mark mark.Comma) = omega arith
commas_more before l k = omega arith

closed_bounded : (n : ℕ) (s : ScanState) (outer : List Level) → IsBounded n s → FewCommas n outer → IsBounded (n + 1) (closed s outer)
closed_bounded n s [] b few = record {
  counted = omega (arith, b.counted, counted_more s.side s.counted (kind.Mark mark.Close));
  nodes = omega (arith, b.nodes, nodes_more s.nodes (kind.Mark mark.Close));
  commas = (omega (arith, b.commas.0), tt);
}
closed_bounded n s (l ∷ outer) b few = record {
  counted = omega (arith, b.counted, counted_more s.side s.counted (kind.Mark mark.Close));
  nodes = omega (arith, b.nodes, nodes_more s.nodes (kind.Mark mark.Close));
  commas = (omega (arith, few.0), few_more n (n + 1) outer (omega arith) few.1);
}

moved_bounded : (n : ℕ) (s : ScanState) (k : Kind) (level : Level) (outer : List Level) → IsBounded n s → level.commas ≤ n + 1 → FewCommas (n + 1) outer → IsBounded (n + 1) (moved s k level outer)
moved_bounded n s k level outer b h few = record {
  counted = omega (arith, b.counted, counted_more s.side s.counted k);
  nodes = omega (arith, b.nodes, nodes_more s.nodes k);
  commas = (h, few);
}

level_bounded : (n : ℕ) (s : ScanState) (k : Kind) → IsBounded n s → IsBounded (n + 1) (moved s k (level_after s.before s.level k) s.outer)
level_bounded n s k b = moved_bounded n s k (level_after s.before s.level k) s.outer b (omega (arith, b.commas.0, commas_more s.before s.level k)) (few_more n (n + 1) s.outer (omega arith) b.commas.1)

pub after_bounded : (n : ℕ) (s : ScanState) (k : Kind) → IsBounded n s → IsBounded (n + 1) (after s k)
unfolding after
after_bounded n s (kind.Mark mark.Open) b = moved_bounded n s (kind.Mark mark.Open) _ (s.level ∷ s.outer) b (omega arith) (few_more n (n + 1) (s.level ∷ s.outer) (omega arith) b.commas)
after_bounded n s (kind.Mark mark.Close) b = closed_bounded n s s.outer b b.commas.1
after_bounded n s k b = level_bounded n s k b

pub bounded_more : (n m : ℕ) (s : ScanState) → n ≤ m → IsBounded n s → IsBounded m s
bounded_more n m s h b = record { counted = omega (arith, b.counted); nodes = omega (arith, b.nodes); commas = few_more n m (s.level ∷ s.outer) h b.commas }
