-- Operands with operators between them, read so far, level by level.
use Rattle.std.proofs.Common.{ℕ, zero, suc, ◌+◌, ◌≡◌, ◌<◌, ◌≤◌, List, length, Some, None, refl, ap, ◌∙◌, sym, subst, arith}
use Rattle.lucy_host.specs.declared.op.Op.{Op}
use Rattle.lucy_tree.specs.declared.span.Span.{Span}
use Rattle.lucy_tree.specs.Tree.{Tree}
use Rattle.lucy_token.specs.declared.token.Token.{Token}
use Rattle.lucy_token.specs.Tokens.{first}
use Rattle.lucy_grammar.specs.Symbols.{Part}
use Rattle.lucy_grammar.specs.Meanings.{linked, grouped}
use Rattle.lucy_grammar.specs.Reading.{begins, Reads, Unfit}
use Rattle.lucy_grammar.proofs.Steps.{as_value}
use Rattle.lucy_grammar.proofs.Growing.{Growing, grown_first, grown_more, grown_bad, grown_refused, grown_ended, ors, ands, sums, prods}
use Rattle.lucy_grammar.proofs.LeafProductions.{begun, unbegun, one_and, one_cmp}
use Rattle.lucy_grammar.proofs.Productions.{more_and, more_and_2, more_cmp, more_cmp_2, cmp, cmp_1, cmp_2, compare, compare_2, more_prod, more_prod_2, more_samp, more_samp_2}
use Rattle.lucy_syntax.specs.declared.level.Level.{Level}
use Rattle.lucy_syntax.specs.declared.level.Level.TheVariants as level
use Rattle.lucy_syntax.specs.Levels.{rank, looser, behind, ReadsAt, UnfitAt, SignAt, NoSignAt}

-- what is refused at a level is refused at each looser one
from_or : (w : Level) {ts rest : List Token} → 5 ≤ rank w → Unfit Part.Or ts rest → UnfitAt w ts rest
from_or level.Or h u = u
from_or level.And h u = absurd (omega (arith, h))
from_or level.Cmp h u = absurd (omega (arith, h))
from_or level.Sum h u = absurd (omega (arith, h))
from_or level.Prod h u = absurd (omega (arith, h))
from_or level.Samp h u = absurd (omega (arith, h))

from_and : (w : Level) {ts rest : List Token} → 4 ≤ rank w → Unfit Part.And ts rest → UnfitAt w ts rest
from_and level.And h u = u
from_and level.Or h u = grown_bad ors u
from_and level.Cmp h u = absurd (omega (arith, h))
from_and level.Sum h u = absurd (omega (arith, h))
from_and level.Prod h u = absurd (omega (arith, h))
from_and level.Samp h u = absurd (omega (arith, h))

from_cmp : (w : Level) {ts rest : List Token} → 3 ≤ rank w → Unfit Part.Cmp ts rest → UnfitAt w ts rest
from_cmp level.Cmp h u = u
from_cmp level.And h u = from_and level.And (omega arith) (grown_bad ands u)
from_cmp level.Or h u = from_and level.Or (omega arith) (grown_bad ands u)
from_cmp level.Sum h u = absurd (omega (arith, h))
from_cmp level.Prod h u = absurd (omega (arith, h))
from_cmp level.Samp h u = absurd (omega (arith, h))

from_sum : (w : Level) {ts rest : List Token} → 2 ≤ rank w → Unfit Part.Sum ts rest → UnfitAt w ts rest
from_sum level.Sum h u = u
from_sum level.Cmp h u = from_cmp level.Cmp (omega arith) (cmp_1 u)
from_sum level.And h u = from_cmp level.And (omega arith) (cmp_1 u)
from_sum level.Or h u = from_cmp level.Or (omega arith) (cmp_1 u)
from_sum level.Prod h u = absurd (omega (arith, h))
from_sum level.Samp h u = absurd (omega (arith, h))

from_prod : (w : Level) {ts rest : List Token} → 1 ≤ rank w → Unfit Part.Prod ts rest → UnfitAt w ts rest
from_prod level.Prod h u = u
from_prod level.Sum h u = from_sum level.Sum (omega arith) (grown_bad sums u)
from_prod level.Cmp h u = from_sum level.Cmp (omega arith) (grown_bad sums u)
from_prod level.And h u = from_sum level.And (omega arith) (grown_bad sums u)
from_prod level.Or h u = from_sum level.Or (omega arith) (grown_bad sums u)
from_prod level.Samp h u = absurd (omega (arith, h))

pub from_samp : (w : Level) {ts rest : List Token} → Unfit Part.Samp ts rest → UnfitAt w ts rest
from_samp level.Samp u = u
from_samp level.Prod u = from_prod level.Prod (omega arith) (grown_bad prods u)
from_samp level.Sum u = from_prod level.Sum (omega arith) (grown_bad prods u)
from_samp level.Cmp u = from_prod level.Cmp (omega arith) (grown_bad prods u)
from_samp level.And u = from_prod level.And (omega arith) (grown_bad prods u)
from_samp level.Or u = from_prod level.Or (omega arith) (grown_bad prods u)

-- what is read at a level begins the next looser one
abbrev GrowingAt : Level → List Token → Tree → List Token → Type 0
GrowingAt level.Samp ts e over = Growing Part.Prod Part.Samp Part.MoreSamp grouped ts e over
GrowingAt level.Prod ts e over = Growing Part.Sum Part.Prod Part.MoreProd grouped ts e over
GrowingAt level.Sum ts e over = Reads Part.Sum ts e over
GrowingAt level.Cmp ts e over = Growing Part.And Part.Cmp Part.MoreCmp grouped ts e over
GrowingAt level.And ts e over = Growing Part.Or Part.And Part.MoreAnd grouped ts e over
GrowingAt level.Or ts e over = Unit {0}

-- the level is reached on the way to the one that is wanted, where the part of that one is read as soon as it is reached
pub record Climbed (wanted l : Level) (ts : List Token) (e : Tree) (over : List Token) : Type 0 where
  pub below : rank l ≤ rank wanted
  pub shorter : length over < length ts
  pub growing : GrowingAt l ts e over
  pub arrived : rank l ≡ rank wanted → ReadsAt wanted ts e over

arrive : (l : Level) (ts : List Token) (e : Tree) (over : List Token) → ReadsAt l ts e over → length over < length ts → GrowingAt l ts e over
arrive level.Samp ts e over r h = grown_first prods refl r h
arrive level.Prod ts e over r h = grown_first sums refl r h
arrive level.Sum ts e over r h = r
arrive level.Cmp ts e over r h = grown_first ands refl r h
arrive level.And ts e over r h = grown_first ors refl r h
arrive level.Or ts e over r h = tt

-- the level of a rank
level_of : ℕ → Level
level_of zero = level.Samp
level_of (suc zero) = level.Prod
level_of (suc (suc zero)) = level.Sum
level_of (suc (suc (suc zero))) = level.Cmp
level_of (suc (suc (suc (suc zero)))) = level.And
level_of (suc (suc (suc (suc (suc n))))) = level.Or

level_of-rank : (l : Level) → level_of (rank l) ≡ l
unfolding level_of
level_of-rank level.Samp = refl
level_of-rank _ = refl

same_rank : (a b : Level) → rank a ≡ rank b → a ≡ b
same_rank a b e = sym (level_of-rank a) ∙ ap level_of e ∙ level_of-rank b

reached : (w l : Level) {ts : List Token} {e : Tree} {over : List Token} → rank l ≤ rank w → ReadsAt l ts e over → length over < length ts → Climbed w l ts e over
reached w l {ts = ts} {e = e} {over = over} b r h = record {
  below = b;
  shorter = h;
  growing = arrive l ts e over r h;
  arrived = λ same. subst (λ k. ReadsAt k ts e over) (same_rank l w same) r;
}

pub climb_first : (w : Level) {ts : List Token} {e : Tree} {over : List Token} → Reads Part.Samp ts e over → length over < length ts → Climbed w level.Samp ts e over
climb_first w r h = reached w level.Samp (omega arith) r h

-- no sign of the level is there
ended : (l : Level) (ts : List Token) (e : Tree) (over : List Token) → rank l < 5 → GrowingAt l ts e over → NoSignAt l over → ReadsAt (looser l) ts e over
unfolding begins
ended level.Samp ts e over b g n = grown_ended prods g n
ended level.Prod ts e over b g n = grown_ended sums g n
ended level.Sum ts e over b g n = cmp None g (n, refl)
ended level.Cmp ts e over b g n = grown_ended ands g (unbegun over one_cmp n)
ended level.And ts e over b g n = grown_ended ors g (unbegun over one_and n)
ended level.Or ts e over b g n = absurd (omega (arith, b))

rank-looser : (l : Level) → rank l < 5 → rank (looser l) ≤ rank l + 1
rank-looser level.Or b = absurd (omega (arith, b))
rank-looser level.Samp b = omega arith
rank-looser level.Prod b = omega arith
rank-looser level.Sum b = omega arith
rank-looser level.Cmp b = omega arith
rank-looser level.And b = omega arith

most_rank : (l : Level) → rank l ≤ 5
most_rank level.Or = omega arith
most_rank level.Samp = omega arith
most_rank level.Prod = omega arith
most_rank level.Sum = omega arith
most_rank level.Cmp = omega arith
most_rank level.And = omega arith

pub climb_up : (w l : Level) {new : Level} {ts : List Token} {e : Tree} {over : List Token} → Climbed w l ts e over → rank l < rank w → NoSignAt l over → new ≡ looser l → Climbed w new ts e over
climb_up w l {ts = ts} {e = e} {over = over} c b n is =
    let few : rank l < 5 = omega (arith, b, most_rank w) in
    subst (λ k. Climbed w k ts e over) (sym is) (reached w (looser l) (omega (arith, rank-looser l few, b)) (ended l ts e over few c.growing n) c.shorter)

-- one more operand
further : (w l : Level) (over : List Token) {ts : List Token} {e : Tree} {next : List Token} → rank l < rank w → length next < length over → length over < length ts → GrowingAt l ts e next → Climbed w l ts e next
further w l over b h k g = record { below = omega (arith, b); shorter = omega (arith, h, k); growing = g; arrived = λ same. absurd (omega (arith, same, b)) }

link_to : {e r n : Tree} {v : Op × Span} {o : Op} {s : Span} → n ≡ linked e (record { op = v.0; span = v.1; right = r }) → v.0 ≡ o → v.1 ≡ s → n ≡ linked e (record { op = o; span = s; right = r })
link_to {e = e} {r = r} {v = v} {o = o} {s = s} is one two =
    is ∙ ap (λ (u : Op). linked e (record { op = u; span = v.1; right = r })) one ∙ ap (λ (u : Span). linked e (record { op = o; span = u; right = r })) two

more_at : (w l : Level) (rest : List Token) {ts : List Token} {e r n : Tree} {over next : List Token} {v : Op × Span} →
    Climbed w l ts e over → rank l < rank w → SignAt l over v rest → ReadsAt l rest r next → length next < length over → n ≡ linked e (record { op = v.0; span = v.1; right = r }) → Climbed w (behind l) ts n next
unfolding begins
more_at w level.Samp rest {over = over} c b s r h is = further w level.Samp over b h c.shorter (grown_more prods c.growing is s.0 (more_samp s.1 r) h)
more_at w level.Prod rest {over = over} c b s r h is = further w level.Prod over b h c.shorter (grown_more sums c.growing is s.0 (more_prod s.1 r) h)
more_at w level.Sum rest c b s r h is = reached w level.Cmp (omega (arith, b)) (as_value is (cmp (Some _) c.growing (s.0, compare s.1 r))) (omega (arith, h, c.shorter))
more_at w level.Cmp rest {over = over} c b s r h is = further w level.Cmp over b h c.shorter (grown_more ands c.growing (link_to is s.2 s.3) (begun over one_cmp (ap first s.1.0 ∙ s.1.1)) (more_cmp s.1 r) h)
more_at w level.And rest {over = over} c b s r h is = further w level.And over b h c.shorter (grown_more ors c.growing (link_to is s.2 s.3) (begun over one_and (ap first s.1.0 ∙ s.1.1)) (more_and s.1 r) h)
more_at w level.Or rest c b s r h is = absurd s

pub climb_more : (w l : Level) (rest : List Token) {new : Level} {ts : List Token} {e r n : Tree} {over next : List Token} {v : Op × Span} →
    Climbed w l ts e over → rank l < rank w → SignAt l over v rest → ReadsAt l rest r next → length next < length over → n ≡ linked e (record { op = v.0; span = v.1; right = r }) → new ≡ behind l → Climbed w new ts n next
climb_more w l rest {ts = ts} {n = n} {next = next} c b s r h is to = subst (λ k. Climbed w k ts n next) (sym to) (more_at w l rest c b s r h is)

-- an operand behind a sign is refused
pub climb_bad : (w l : Level) (rest stop : List Token) (v : Op × Span) {ts : List Token} {e : Tree} {over : List Token} → Climbed w l ts e over → rank l < rank w → SignAt l over v rest → UnfitAt l rest stop → UnfitAt w ts stop
unfolding begins
climb_bad w level.Samp rest stop v c b s u = from_prod w (omega (arith, b)) (grown_refused prods c.growing s.0 (more_samp_2 s.1 u))
climb_bad w level.Prod rest stop v c b s u = from_sum w (omega (arith, b)) (grown_refused sums c.growing s.0 (more_prod_2 s.1 u))
climb_bad w level.Sum rest stop v c b s u = from_cmp w (omega (arith, b)) (cmp_2 c.growing (s.0, compare_2 s.1 u))
climb_bad w level.Cmp rest stop v {over = over} c b s u = from_and w (omega (arith, b)) (grown_refused ands c.growing (begun over one_cmp (ap first s.1.0 ∙ s.1.1)) (more_cmp_2 s.1 u))
climb_bad w level.And rest stop v {over = over} c b s u = from_or w (omega (arith, b)) (grown_refused ors c.growing (begun over one_and (ap first s.1.0 ∙ s.1.1)) (more_and_2 s.1 u))
climb_bad w level.Or rest stop v c b s u = absurd s

-- the wanted level is reached
pub climb_end : (w l : Level) {ts : List Token} {e : Tree} {over : List Token} → Climbed w l ts e over → (rank l < rank w → ⊥) → ReadsAt w ts e over
climb_end w l c n = c.arrived (omega (arith, n, c.below))
