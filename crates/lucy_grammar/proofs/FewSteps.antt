-- What the parts of productions leave behind, one after the other, in a text with no fault.
use Rattle.std.proofs.Common.{◌≡◌, ℕ, suc, ◌+◌, ◌<◌, ◌≤◌, Bool, true, false, List, [], ◌∷◌, length, Option, Some, None, refl, ap, sym, ◌∙◌, subst, arith}
use Rattle.std.specs.Option.{option_map_or}
use Rattle.std.specs.Prelude.{unwrap_or}
use Rattle.std.specs.List.{AllByRecursion}
use Rattle.lucy_word.specs.Bits.{Bits}
use Rattle.lucy_tree.specs.declared.span.Name as name
use Rattle.lucy_tree.specs.declared.decl.Decl as decl
use Rattle.lucy_tree.specs.Tree.{Tree, Trees, sampled, trees_of, list_of, no_more}
use Rattle.lucy_tree.specs.View.{DefTree}
use Rattle.lucy_token.specs.declared.mark.Mark.TheVariants as mark
use Rattle.lucy_token.specs.declared.token.Kind.{Kind}
use Rattle.lucy_token.specs.declared.token.Kind.TheVariants as kind
use Rattle.lucy_token.specs.declared.token.Token.{Token}
use Rattle.lucy_token.specs.declared.state.Side.{Side}
use Rattle.lucy_token.specs.declared.state.Side.TheVariants as side
use Rattle.lucy_token.specs.States.{ScanState, after, side_defined, begins_entry, is_past_last}
use Rattle.lucy_token.proofs.StateLaws.{before_after}
use Rattle.lucy_grammar.specs.Symbols.{Val, Operation, Body, Decls, Typing, ClockOf, Sampling, Followed, Held, Lit, Applied, Base, Args, MoreExpr}
use Rattle.lucy_grammar.specs.Meanings.{linked, grouped, sampled_by, literal_before, named, held_by, token_bound, token_literal}
use Rattle.lucy_grammar.proofs.Levels.{Keeps, keeps_self, keeps_then, keeps_plain, is_plain, IsDue, due_right, opened, no_commas, opened_right, opened_still, IsStill, closed_after, keeps_parens, one_on, few_before}
use Rattle.lucy_grammar.proofs.FewEntries.{most, IsFew, AreFew, IsFewDef, ReadsExpr, ExprSpec, LinkSpec, ReadsArgs, ReadsCall, ReadsDecl, ReadsMore, ReadsList, ReadsLefts, Spec, Chain, Maybe}

-- one after the other
pub chain_all : {A : Type 0} (R : ScanState → A → ScanState → Type 0) (P : A → Type 0) → ((s : ScanState) (x : A) (j : ScanState) → R s x j → P x) → (s : ScanState) (xs : List A) (j : ScanState) → Chain R s xs j → AllByRecursion P xs
chain_all R P f s [] j c = tt
chain_all R P f s (x ∷ xs) j c = (f s x c.0 c.1, chain_all R P f c.0 xs j c.2)

-- further entries of a list
pub record ReadsRest (s : ScanState) (n : ℕ) (j : ScanState) : Type 0 where
  pub at : j.side ≡ s.side
  pub outer : j.outer ≡ s.outer
  pub few : s.level.commas + n < most

pub more_entries : {A : Type 0} (R : ScanState → A → ScanState → Type 0) (at : Side) → ((s : ScanState) (x : A) (j : ScanState) → s.side ≡ at → R s x j → ReadsMore s j) →
    (s : ScanState) (xs : List A) (j : ScanState) → s.side ≡ at → s.level.commas < most → Chain R s xs j → ReadsRest s (length xs) j
more_entries R at f s [] j e h c =
    let P : ScanState → Type 0 = λ q. ReadsRest s 0 q in
    subst P (sym c) (record { at = refl; outer = refl; few = omega (arith, h) })
more_entries R at f s (x ∷ xs) j e h c =
    let r : ReadsMore s c.0 = f s x c.0 e c.1 in
    let rest : ReadsRest c.0 (length xs) j = more_entries R at f c.0 xs j (r.at ∙ e) (omega (arith, r.commas, r.few)) c.2 in
    record { at = rest.at ∙ r.at; outer = rest.outer ∙ r.outer; few = omega (arith, rest.few, r.commas) }

pub list_read : (s m j : ScanState) (n : ℕ) → Keeps s m → ReadsRest m n j → ReadsList s (suc n) j
list_read s m j n k r = record { at = r.at ∙ k.at; outer = r.outer ∙ k.outer; few = omega (arith, r.few, k.commas) }

pub still_few : (s m : ScanState) → Keeps s m → s.level.commas < most → m.level.commas < most
still_few s m k h = omega (arith, k.commas, h)

-- an entry behind a comma
pub more_read : (s j : ScanState) (k : Kind) → is_past_last (after s (kind.Mark mark.Comma)) k ≡ false → begins_entry (after s (kind.Mark mark.Comma)).side k ≡ true → Keeps (after s (kind.Mark mark.Comma)) j → ReadsMore s j
more_read s j k h b keeps =
    let o = one_on s in
    record {
      at = keeps.at ∙ o.at;
      outer = keeps.outer ∙ o.outer;
      commas = keeps.commas ∙ o.commas;
      few = omega (arith, few_before (after s (kind.Mark mark.Comma)) k o.before b h, o.commas);
    }

-- behind an opening parenthesis
pub few_opened : (s : ScanState) → (after s (kind.Mark mark.Open)).level.commas < most
few_opened s = omega (arith, no_commas (opened s))

-- heads
pub params_few : (s : ScanState) (o : Option (List decl.Decl)) (j : ScanState) → Maybe (Spec Decls) (after s (kind.Mark mark.Open)) o j → length (unwrap_or o []) ≤ most
params_few s None j c = omega arith
params_few s (Some ds) j c = omega (arith, (c (few_opened s)).few)

pub body_few : (s : ScanState) (o : Option (List DefTree)) (j : ScanState) → Maybe (Spec Body) s o j → AllByRecursion IsFewDef (unwrap_or o [])
body_few s None j c = tt
body_few s (Some ds) j c = c

abbrev IsEnded : ScanState → ScanState → Type 0
IsEnded s j = Keeps s j × (side_defined j.before ≡ side.Right)

maybe_ended : {A : Type 0} (s q : ScanState) (o : Option A) (j : ScanState) → IsEnded s q → Maybe (λ m x n. IsEnded m n) q o j → IsEnded s j
maybe_ended s q None j h c = subst (IsEnded s) (sym c) h
maybe_ended s q (Some x) j h c = (keeps_then h.0 c.0, c.1)

pub ended_plain : (s : ScanState) (k : Kind) → is_plain k ≡ true → side_defined k ≡ side.Right → IsEnded s (after s k)
ended_plain s k e f = (keeps_plain s k e, ap side_defined (before_after s k) ∙ f)

pub ended_after : (s : ScanState) (k : Kind) (j : ScanState) → is_plain k ≡ true → IsEnded (after s k) j → IsEnded s j
ended_after s k j e h = (keeps_then (keeps_plain s k e) h.0, h.1)

pub decl_read : (s m j : ScanState) (t : Option (Val Typing)) (w : Option Bits) → is_past_last s kind.Name ≡ false → Maybe (Spec Typing) (after s kind.Name) t m → Maybe (Spec ClockOf) m w j → ReadsDecl s j
decl_read s m j t w p a b =
    let first : IsEnded s m = maybe_ended s (after s kind.Name) t m (ended_plain s kind.Name refl refl) a in
    let whole : IsEnded s j = maybe_ended s m w j first b in
    record { first = p; keeps = whole.0; named = whole.1 }

pub lefts_read : (s m j : ScanState) (n : ℕ) → ReadsDecl (after s (kind.Mark mark.Open)) m → (after m (kind.Mark mark.Comma)).level.commas < most → ReadsList (after m (kind.Mark mark.Comma)) n j → s.side ≡ side.Left → ReadsLefts s (suc n) (after j (kind.Mark mark.Close))
lefts_read s m j n d h l e =
    let o = opened s in
    let c = one_on m in
    let still : IsStill s.side = subst IsStill (sym e) tt in
    let close = closed_after j s.level s.outer (l.outer ∙ c.outer ∙ d.keeps.outer ∙ o.outer) in
    record {
      at = close.at ∙ l.at ∙ c.at ∙ d.keeps.at ∙ opened_still s still ∙ e;
      before = close.before;
      few = omega (arith, l.few, c.commas, d.keeps.commas, no_commas o);
    }

pub few_second : (s m : ScanState) → ReadsDecl (after s (kind.Mark mark.Open)) m → (after m (kind.Mark mark.Comma)).level.commas < most
few_second s m d = omega (arith, (one_on m).commas, d.keeps.commas, no_commas (opened s))

-- expressions
pub expr_after : (s j : ScanState) (v : Tree) (k : Kind) → is_plain k ≡ true → ExprSpec (after s k) v j → s.side ≡ side.Right → Keeps s j × IsFew v
expr_after s j v k e c r =
    let keeps = keeps_plain s k e in
    let x = c (keeps.at ∙ r) in
    (keeps_then keeps x.keeps, x.few)

pub link_read : (s m j : ScanState) (v : Tree) → Keeps s m → ExprSpec m v j → s.side ≡ side.Right → Keeps s j × IsFew v
link_read s m j v k c r = let x = c (k.at ∙ r) in (keeps_then k x.keeps, x.few)

pub grouped_read : (s m j : ScanState) (e : Tree) (ls : List Operation) → s.side ≡ side.Right → ReadsExpr s e m → Chain LinkSpec m ls j → ReadsExpr s (grouped e ls) j
grouped_read s m j e [] r x c = subst (ReadsExpr s e) (sym c) x
grouped_read s m j e (l ∷ ls) r x c =
    let y = c.1 (x.keeps.at ∙ r) in
    grouped_read s c.0 j (linked e l) ls r (record { first = x.first; keeps = keeps_then x.keeps y.0; few = (x.few, (y.1, tt)) }) c.2

pub compared_read : (s m j : ScanState) (e : Tree) (o : Option Operation) → s.side ≡ side.Right → ReadsExpr s e m → Maybe LinkSpec m o j → ReadsExpr s (option_map_or (linked e) o e) j
compared_read s m j e None r x c = subst (ReadsExpr s e) (sym c) x
compared_read s m j e (Some l) r x c =
    let y = c (x.keeps.at ∙ r) in
    record { first = x.first; keeps = keeps_then x.keeps y.0; few = (x.few, (y.1, tt)) }

pub sampled_read : (s m j : ScanState) (e : Tree) (ws : List (Bool × Bits)) → ReadsExpr s e m → Chain (Spec Sampling) m ws j → ReadsExpr s (sampled_by e ws) j
sampled_read s m j e [] x c = subst (ReadsExpr s e) (sym c) x
sampled_read s m j e ((flip, w) ∷ ws) x c = sampled_read s c.0 j (sampled flip e w) ws (record { first = x.first; keeps = keeps_then x.keeps c.1; few = x.few }) c.2

pub literal_read : (s m j : ScanState) (l : Val Lit) (o : Option (Val Followed)) → s.side ≡ side.Right → Spec Lit s l m → Maybe (Spec Followed) m o j → ReadsExpr s (literal_before l o) j
literal_read s m j l None r x c =
    let P : ScanState → Type 0 = λ q. Keeps s q in
    record { first = x.0; keeps = subst P (sym c) x.1; few = tt }
literal_read s m j l (Some f) r x c = let y = c (x.1.at ∙ r) in record { first = x.0; keeps = keeps_then x.1 y.0; few = y.1 }

call_keeps : (s j : ScanState) (v : Trees) → s.side ≡ side.Right → ReadsCall s v j → Keeps s j
call_keeps s j v r c = record { at = c.at ∙ sym r; outer = c.outer; commas = c.commas }

pub named_read : (s j : ScanState) (n : name.Name) (o : Option (Val Applied)) → s.side ≡ side.Right → is_past_last s kind.Name ≡ false → Maybe (Spec Applied) (after s kind.Name) o j → ReadsExpr s (named n o) j
named_read s j n None r p c =
    let P : ScanState → Type 0 = λ q. Keeps s q in
    record { first = (kind.Name, p); keeps = subst P (sym c) (keeps_plain s kind.Name refl); few = tt }
named_read s j n (Some a) r p c =
    let k = keeps_plain s kind.Name refl in
    let x : ReadsCall (after s kind.Name) a.1 j = c (due_right _ (k.at ∙ r)) in
    record { first = (kind.Name, p); keeps = keeps_then k (call_keeps (after s kind.Name) j a.1 (k.at ∙ r) x); few = (x.length, x.few) }

pub parens_read : (s m : ScanState) (v : Tree) → s.side ≡ side.Right → is_past_last s (kind.Mark mark.Open) ≡ false → ExprSpec (after s (kind.Mark mark.Open)) v m → ReadsExpr s v (after m (kind.Mark mark.Close))
parens_read s m v r p c =
    let at : (after s (kind.Mark mark.Open)).side ≡ side.Right = opened_right s (due_right s.side r) in
    let x = c at in
    record { first = (kind.Mark mark.Open, p); keeps = keeps_parens s m (x.keeps.outer ∙ (opened s).outer) (x.keeps.at ∙ at ∙ sym r); few = x.few }

-- calls
pub length-trees : (es : List Tree) → length (list_of (trees_of es)) ≡ length es
length-trees [] = refl
length-trees (e ∷ es) = omega (arith, length-trees es)

exprs_few : (s : ScanState) (es : List Tree) (j : ScanState) → s.side ≡ side.Right → Chain (Spec MoreExpr) s es j → AreFew (trees_of es)
exprs_few s [] j r c = tt
exprs_few s (e ∷ es) j r c = let x = c.1 r in (x.1, exprs_few c.0 es j (x.0.at ∙ r) c.2)

pub args_read : (s m j : ScanState) (e : Tree) (es : List Tree) → s.side ≡ side.Right → s.level.commas ≡ 0 → ReadsExpr s e m → Chain (Spec MoreExpr) m es j → (j.side ≡ side.Right) × (j.outer ≡ s.outer) × (length es + 1 ≤ most) × AreFew (trees_of es)
args_read s m j e es r z x c =
    let rest : ReadsRest m (length es) j = more_entries (Spec MoreExpr) side.Right (λ s v j f g. (g f).0) m es j (x.keeps.at ∙ r) (omega (arith, x.keeps.commas, z)) c in
    (rest.at ∙ x.keeps.at ∙ r, rest.outer ∙ x.keeps.outer, omega (arith, rest.few, x.keeps.commas, z), exprs_few m es j (x.keeps.at ∙ r) c)

maybe_args : (s : ScanState) (o : Option Trees) (j : ScanState) → s.side ≡ side.Right → s.level.commas ≡ 0 → Maybe (Spec Args) s o j → ReadsArgs s (unwrap_or o no_more) j
maybe_args s None j r z c =
    let P : ScanState → Type 0 = λ q. ReadsArgs s (unwrap_or None no_more) q in
    subst P (sym c) (record { at = r; outer = refl; length = omega arith; few = tt })
maybe_args s (Some ts) j r z c = c r z

maybe_base : (s : ScanState) (o : Option Bits) (j : ScanState) → Maybe (Spec Base) s o j → Keeps s j
maybe_base s None j c =
    let P : ScanState → Type 0 = λ q. Keeps s q in
    subst P (sym c) (keeps_self s)
maybe_base s (Some w) j c = c

pub applied_read : (s m j : ScanState) (at : Option Bits) (o : Option Trees) → IsDue s.side → Maybe (Spec Base) s at m → Maybe (Spec Args) (after m (kind.Mark mark.Open)) o j → ReadsCall s (unwrap_or o no_more) (after j (kind.Mark mark.Close))
applied_read s m j at o h b c =
    let k = maybe_base s at m b in
    let due : IsDue m.side = subst IsDue (sym k.at) h in
    let x = maybe_args (after m (kind.Mark mark.Open)) o j (opened_right m due) (no_commas (opened m)) c in
    let close = closed_after j m.level m.outer (x.outer ∙ (opened m).outer) in
    record {
      at = close.at ∙ x.at;
      outer = close.outer ∙ k.outer;
      commas = ap (λ l. l.commas) close.level ∙ k.commas;
      length = x.length;
      few = x.few;
    }

pub pair_read : (s m j : ScanState) (a b : Tree) → s.side ≡ side.Right → ExprSpec (after s (kind.Mark mark.Open)) a m → ExprSpec (after m (kind.Mark mark.Comma)) b j → Keeps s (after j (kind.Mark mark.Close)) × (IsFew a × IsFew b)
pair_read s m j a b r f g =
    let at : (after s (kind.Mark mark.Open)).side ≡ side.Right = opened_right s (due_right s.side r) in
    let x = f at in
    let o = one_on m in
    let y = g (o.at ∙ x.keeps.at ∙ at) in
    (keeps_parens s j (y.keeps.outer ∙ o.outer ∙ x.keeps.outer ∙ (opened s).outer) (y.keeps.at ∙ o.at ∙ x.keeps.at ∙ at ∙ sym r), (x.few, y.few))

pub if_read : (s m n j : ScanState) (c a b : Tree) → s.side ≡ side.Right → ExprSpec (after s (kind.Mark mark.If)) c m → ExprSpec (after m (kind.Mark mark.Then)) a n → ExprSpec (after n (kind.Mark mark.Else)) b j → Keeps s j × (IsFew c × (IsFew a × (IsFew b × Unit {0})))
if_read s m n j c a b r f g h =
    let x = expr_after s m c (kind.Mark mark.If) refl f r in
    let y = expr_after m n a (kind.Mark mark.Then) refl g (x.0.at ∙ r) in
    let z = expr_after n j b (kind.Mark mark.Else) refl h (y.0.at ∙ x.0.at ∙ r) in
    (keeps_then x.0 (keeps_then y.0 z.0), (x.1, (y.1, (z.1, tt))))

pub merge_read : (s m j : ScanState) (a b : Tree) → s.side ≡ side.Right → ExprSpec (after (after s (kind.Mark mark.Merge)) kind.Word) a m → ExprSpec m b j → Keeps s j × (IsFew a × IsFew b)
merge_read s m j a b r f g =
    let k = keeps_then (keeps_plain s (kind.Mark mark.Merge) refl) (keeps_plain (after s (kind.Mark mark.Merge)) kind.Word refl) in
    let x = f (k.at ∙ r) in
    let y = g (x.keeps.at ∙ k.at ∙ r) in
    (keeps_then k (keeps_then x.keeps y.keeps), (x.few, y.few))

-- a number behind `buffer`, and what is behind it
pub held_read : (s j : ScanState) (n : Token) (o : Option (Val Held)) → s.side ≡ side.Right → Maybe (Spec Held) (after s kind.Number) o j → Keeps s j × IsFew (held_by (token_bound n.what) (token_literal n.what, n.span) o).1
held_read s j n None r c = (subst (Keeps s) (sym c) (keeps_plain s kind.Number refl), tt)
held_read s j n (Some (Some fby, e)) r c = let k = keeps_plain s kind.Number refl in let x = c (k.at ∙ r) in (keeps_then k x.0, x.1)
held_read s j n (Some (None, e)) r c = let k = keeps_plain s kind.Number refl in let x = c (k.at ∙ r) in (keeps_then k x.0, x.1)
