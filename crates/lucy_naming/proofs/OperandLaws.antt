-- The operands of a form that is no call, and what stands at its place.
use Rattle.std.proofs.Common.{◌≡◌, ◌+◌, ◌*◌, ◌^◌, ◌<◌, ◌≤◌, ◌⊎◌, ◌++◌, [], ◌∷◌, ℕ, Bool, Box, Global, Option, List, length, drop, Result, Ok, Err, map, refl, inl, inr, ap, sym, ◌∙◌, subst, append-nil, length-append, arith, rules}
use Rattle.std.proofs.lemmas.List.{drop_all}
use denote.Param.Weighed.{most, at_most}
use Rattle.std.specs.Result.{IfOk, OnOk, IsErrAnd}
use Rattle.lucy_word.specs.Bits.{Bits}
use Rattle.lucy_host.specs.declared.op.Op as ops
use Rattle.lucy_tree.specs.declared.span.Span.{Span}
use Rattle.lucy_tree.specs.declared.span.Name.{Name}
use Rattle.lucy_tree.specs.declared.expr.Lit as lits
use Rattle.lucy_tree.specs.declared.expr.Expr.{Expr}
use Rattle.lucy_tree.specs.declared.expr.Expr.TheOpen as open_
use Rattle.lucy_tree.specs.declared.expr.Expr.TheFolds.{the_lemmas}
use Rattle.lucy_tree.specs.declared.expr.Expr.TheViews.{out-Expr, roll-Expr, roll-out-Expr}
use Rattle.lucy_tree.specs.declared.expr.Exprs.{Exprs}
use Rattle.lucy_tree.specs.declared.expr.Expr.TheVariants.{Lit, Var, Op, Host, When, Merge, Fby, Buffer, Call, rolls-Lit, rolls-Var, rolls-Op, rolls-Host, rolls-When, rolls-Merge, rolls-Fby, rolls-Buffer, rolls-Call}
use Rattle.lucy_tree.specs.Tree.{Tree, operator, host, sampled, merged, followed, buffered, call, trees_of}
use Rattle.lucy_tree.specs.View.{tree_of, expr_list}
use Rattle.lucy_tree.specs.Shaped.{IsShaped}
use Rattle.lucy_tree.proofs.expr.Expr.TheLaws.{the_size}
use Rattle.lucy_tree.proofs.Trees.{tree_sampled, tree_merged, tree_followed, tree_buffered, tree_call, tree_operator, tree_host}
use Rattle.lucy_naming.specs.declared.draft.Draft.{Draft}
use Rattle.lucy_place.specs.declared.entry.PlaceKind.{PlaceKind}
use Rattle.lucy_naming.specs.Phrases.{Called, Phrase, Phrases, name, headed, none, and, phrase_of, expr_phrase, expr_phrases}
use Rattle.lucy_place.specs.Standing.{most_places}
use Rattle.lucy_naming.specs.Numbering.{Next, past, past_all, all_bounds, entries, sites, number, numbers}
use Rattle.lucy_naming.specs.Places.{Known, own_bounds, stream_place}
use Rattle.lucy_naming.specs.Drafts.{next_of, IsPlain, IsSingle, IsSmall, Draws, DrawsAll, phrase_operands, kind_of, buffers_of}
use Rattle.lucy_naming.proofs.DraftLaws.{AllDrawn, next_same}
use Rattle.lucy_naming.proofs.PhraseLaws.{phrase_literal, phrase_variable, phrase_merged, phrase_called, phrase_operated, phrase_hosted}

-- operands are less deep than their form
operated_size : (o : ops.Op) (args : Exprs) (s : Span) → most the_size (expr_list args) < the_size (Op o args s)
operated_size o args s = search (rules, the_lemmas)

hosted_size : (n : Name) (args : Exprs) → most the_size (expr_list args) < the_size (Host n args)
hosted_size n args = search (rules, the_lemmas)

called_size : (n : Name) (at : Option Bits) (args : Exprs) → most the_size (expr_list args) < the_size (Call n at args)
called_size n at args = search (rules, the_lemmas)

merged_size : (w : Bits) (a b : Box Expr Global) (s : Span) → (the_size a.value < the_size (Merge w a b s)) × (the_size b.value < the_size (Merge w a b s))
merged_size w a b s = (search (rules, the_lemmas), search (rules, the_lemmas))

sampled_size : (flip : Bool) (operand : Box Expr Global) (w : Bits) → the_size operand.value < the_size (When flip operand w)
sampled_size flip operand w = search (rules, the_lemmas)

followed_size : (l : lits.Lit) (operand : Box Expr Global) (s : Span) → the_size operand.value < the_size (Fby l operand s)
followed_size l operand s = search (rules, the_lemmas)

buffered_size : (b : Option ℕ) (operand : Box Expr Global) (s : Span) → the_size operand.value < the_size (Buffer b operand s)
buffered_size b operand s = search (rules, the_lemmas)

-- the trees of forms whose operands stand behind references
pub is_operated : {e : Expr} {es : List Expr} (o : ops.Op) (args : Exprs) (s : Span) → e ≡ Op o args s → es ≡ expr_list args → tree_of e ≡ operator o (trees_of (map tree_of es)) s
is_operated o args s is at = ap tree_of is ∙ tree_operator o args s ∙ ap (λ (l : List Expr). operator o (trees_of (map tree_of l)) s) (sym at)

pub is_hosted : {e : Expr} {es : List Expr} (n : Name) (args : Exprs) → e ≡ Host n args → es ≡ expr_list args → tree_of e ≡ host n (trees_of (map tree_of es))
is_hosted n args is at = ap tree_of is ∙ tree_host n args ∙ ap (λ (l : List Expr). host n (trees_of (map tree_of l))) (sym at)

pub is_merged : {e x y : Expr} (w : Bits) (a b : Box Expr Global) (s : Span) → e ≡ Merge w a b s → x ≡ a.value → y ≡ b.value → tree_of e ≡ merged w (tree_of x) (tree_of y) s
is_merged {x = x} w a b s is one zero =
    ap tree_of is ∙ tree_merged w a b s ∙ ap (λ (z : Expr). merged w (tree_of z) (tree_of b.value) s) (sym one) ∙ ap (λ (z : Expr). merged w (tree_of x) (tree_of z) s) (sym zero)

pub is_called : {e : Expr} {es : List Expr} (n : Name) (b : Option Bits) (args : Exprs) → e ≡ Call n b args → es ≡ expr_list args → tree_of e ≡ call n b (trees_of (map tree_of es))
is_called n b args is at = ap tree_of is ∙ tree_call n b args ∙ ap (λ (l : List Expr). call n b (trees_of (map tree_of l))) (sym at)

-- and that their operands are less deep
pub operated_smaller : {e : Expr} {es : List Expr} (o : ops.Op) (args : Exprs) (s : Span) → e ≡ Op o args s → es ≡ expr_list args → most the_size es < the_size e
operated_smaller {e = e} o args s is at = subst (λ (l : List Expr). most the_size l < the_size e) (sym at) (subst (λ (x : Expr). most the_size (expr_list args) < the_size x) (sym is) (operated_size o args s))

pub hosted_smaller : {e : Expr} {es : List Expr} (n : Name) (args : Exprs) → e ≡ Host n args → es ≡ expr_list args → most the_size es < the_size e
hosted_smaller {e = e} n args is at = subst (λ (l : List Expr). most the_size l < the_size e) (sym at) (subst (λ (x : Expr). most the_size (expr_list args) < the_size x) (sym is) (hosted_size n args))

pub called_smaller : {e : Expr} {es : List Expr} (n : Name) (b : Option Bits) (args : Exprs) → e ≡ Call n b args → es ≡ expr_list args → most the_size es < the_size e
called_smaller {e = e} n b args is at = subst (λ (l : List Expr). most the_size l < the_size e) (sym at) (subst (λ (x : Expr). most the_size (expr_list args) < the_size x) (sym is) (called_size n b args))

pub one_smaller : {e x : Expr} (w : Bits) (a b : Box Expr Global) (s : Span) → e ≡ Merge w a b s → x ≡ a.value → the_size x < the_size e
one_smaller {e = e} w a b s is at = subst (λ (y : Expr). the_size y < the_size e) (sym at) (subst (λ (y : Expr). the_size a.value < the_size y) (sym is) (merged_size w a b s).0)

pub zero_smaller : {e x : Expr} (w : Bits) (a b : Box Expr Global) (s : Span) → e ≡ Merge w a b s → x ≡ b.value → the_size x < the_size e
zero_smaller {e = e} w a b s is at = subst (λ (y : Expr). the_size y < the_size e) (sym at) (subst (λ (y : Expr). the_size b.value < the_size y) (sym is) (merged_size w a b s).1)

-- the measures of the calls fall: inside a form, on the way to it, and among operands
pub falls_inside : (x e q m r t : ℕ) → q + m ≡ 4 → x < e → 5 * e + r ≡ t → 5 * x + q < t
falls_inside x e q m r t small less is = omega arith

pub falls_on : (e q t : ℕ) → 5 * e + (q + 1) ≡ t → 5 * e + q < t
falls_on e q t is = omega arith

pub falls_among : (x e q t : ℕ) → x ≤ e → 5 * e + (q + 1) ≡ t → 5 * x + q < t
falls_among x e q t less is = omega arith

-- a form by its tree
module _ (e : Expr) {t : Tree} (is : tree_of e ≡ t) where
  pub form_plain : IsPlain (phrase_of (tree_of e)) → IsPlain (phrase_of t)
  form_plain p = subst (λ u. IsPlain (phrase_of u)) is p

  pub form_shaped : IsShaped (tree_of e) → IsShaped t
  form_shaped s = subst IsShaped is s

  pub form_small : (at : Next) → IsSmall (past_all at (phrase_operands (phrase_of (tree_of e)))) → IsSmall (past_all at (phrase_operands (phrase_of t)))
  form_small at s = subst (λ u. IsSmall (past_all at (phrase_operands (phrase_of u)))) is s

  pub form_drawn : (k : Known) (old new : Draft) → DrawsAll k (phrase_operands (phrase_of t)) old new → DrawsAll k (phrase_operands (phrase_of (tree_of e))) old new
  form_drawn k old new d = subst (λ u. DrawsAll k (phrase_operands (phrase_of u)) old new) (sym is) d

  pub form_kind : (k : Known) (at : Next) (n : ℕ) (args : List ℕ) → args ≡ numbers k at (phrase_operands (phrase_of t)) →
      kind_of k n (phrase_of t) args ≡ kind_of k n (phrase_of (tree_of e)) (numbers k at (phrase_operands (phrase_of (tree_of e))))
  form_kind k at n args found = ap (kind_of k n (phrase_of t)) found ∙ ap (λ u. kind_of k n (phrase_of u) (numbers k at (phrase_operands (phrase_of u)))) (sym is)

-- a form of one operand that is no operator's, and the operand
pub record IsOver (e x : Expr) : Type 0 where
  pub single : IsSingle (expr_phrase e)
  pub operands : phrase_operands (expr_phrase e) ≡ and (expr_phrase x) none
  pub shaped : IsShaped (tree_of e) → IsShaped (tree_of x)
  pub smaller : the_size x < the_size e

over : (e x o : Expr) {t : Tree} → e ≡ o → tree_of o ≡ t → IsSingle (phrase_of t) → phrase_operands (phrase_of t) ≡ and (expr_phrase x) none →
    (IsShaped t → IsShaped (tree_of x)) → the_size x < the_size o → IsOver e x
over e x o is tree single operands shaped smaller = subst (λ (y : Expr). IsOver y x) (sym is) (record {
  single = subst (λ u. IsSingle (phrase_of u)) (sym tree) single;
  operands = ap (λ u. phrase_operands (phrase_of u)) tree ∙ operands;
  shaped = λ s. shaped (subst IsShaped tree s);
  smaller = smaller;
})

pub is_over : {e x : Expr} (operand : Box Expr Global) →
    ((flip : Bool) × (w : Bits) × (e ≡ When flip operand w)) ⊎ (((l : lits.Lit) × (s : Span) × (e ≡ Fby l operand s)) ⊎ ((b : Option ℕ) × (s : Span) × (e ≡ Buffer b operand s))) →
    x ≡ operand.value → IsOver e x
is_over {e = e} operand (inl (flip, w, is)) at =
    subst (IsOver e) (sym at) (over e operand.value (When flip operand w) is (tree_sampled flip operand w) tt refl (λ s. s.1) (sampled_size flip operand w))
is_over {e = e} operand (inr (inl (l, s, is))) at =
    subst (IsOver e) (sym at) (over e operand.value (Fby l operand s) is (tree_followed l operand s) tt refl (λ s. s) (followed_size l operand s))
is_over {e = e} operand (inr (inr (b, s, is))) at =
    subst (IsOver e) (sym at) (over e operand.value (Buffer b operand s) is (tree_buffered b operand s) tt refl (λ s. s.1) (buffered_size b operand s))

-- any other form isn't one
not_single_open : (x : open_.Expr-F Expr Exprs) {e : Expr} → roll-Expr x ≡ e → ((flip : Bool) (operand : Box Expr Global) (w : Bits) → e ≡ When flip operand w → ⊥) →
    ((l : lits.Lit) (operand : Box Expr Global) (s : Span) → e ≡ Fby l operand s → ⊥) → ((most : Option ℕ) (operand : Box Expr Global) (s : Span) → e ≡ Buffer most operand s → ⊥) → IsSingle (expr_phrase e) → ⊥
not_single_open (open_.Lit l s) is a b c p = subst IsSingle (ap expr_phrase (sym is ∙ rolls-Lit l s) ∙ phrase_literal l s) p
not_single_open (open_.Var n) is a b c p = subst IsSingle (ap expr_phrase (sym is ∙ rolls-Var n) ∙ phrase_variable n) p
not_single_open (open_.Op o args s) is a b c p = subst IsSingle (ap expr_phrase (sym is ∙ rolls-Op o args s) ∙ phrase_operated o args s) p
not_single_open (open_.Host n args) is a b c p = subst IsSingle (ap expr_phrase (sym is ∙ rolls-Host n args) ∙ phrase_hosted n args) p
not_single_open (open_.When flip inner w) is a b c p = absurd (a flip inner w (sym is ∙ rolls-When flip inner w))
not_single_open (open_.Merge w x y s) is a b c p = subst IsSingle (ap expr_phrase (sym is ∙ rolls-Merge w x y s) ∙ phrase_merged w x y s) p
not_single_open (open_.Fby l inner s) is a b c p = absurd (b l inner s (sym is ∙ rolls-Fby l inner s))
not_single_open (open_.Buffer most inner s) is a b c p = absurd (c most inner s (sym is ∙ rolls-Buffer most inner s))
not_single_open (open_.Call n at args) is a b c p = subst IsSingle (ap expr_phrase (sym is ∙ rolls-Call n at args) ∙ phrase_called n at args) p

pub not_single : (e : Expr) → ((flip : Bool) (operand : Box Expr Global) (w : Bits) → e ≡ When flip operand w → ⊥) →
    ((l : lits.Lit) (operand : Box Expr Global) (s : Span) → e ≡ Fby l operand s → ⊥) → ((most : Option ℕ) (operand : Box Expr Global) (s : Span) → e ≡ Buffer most operand s → ⊥) → IsSingle (expr_phrase e) → ⊥
not_single e = not_single_open (out-Expr e) (roll-out-Expr e)

-- a name is drawn as it is, and a call as its operands are
pub name_drawn : {e : Expr} (n : Name) → e ≡ Var n → (k : Known) (results : ℕ) (d : Draft) → Draws k results (expr_phrase e) d d
name_drawn n is k results d = subst (λ f. Draws k results f d d) (sym (ap expr_phrase is ∙ phrase_variable n)) (record {
  places = sym (append-nil d.places.items);
  calls = sym (append-nil d.calls.items);
  next = next_same (omega arith) (omega arith) (omega arith);
})

pub name_number : {e : Expr} (n : Name) → e ≡ Var n → (k : Known) (at : Next) (place : ℕ) → place ≡ stream_place k n.text → place ≡ number k at (expr_phrase e)
name_number n is k at place found = found ∙ sym (ap (number k at) (ap expr_phrase is ∙ phrase_variable n))

module _ {E : Type 0} (r : Result ℕ E) (e : Expr) {t : Tree} (is : tree_of e ≡ t) where
  pub call_drawn : (k : Known) (results : ℕ) (old new : Draft) → OnOk r (Draws k results (phrase_of t) old new) → OnOk r (Draws k results (phrase_of (tree_of e)) old new)
  call_drawn k results old new d = subst (λ u. OnOk r (Draws k results (phrase_of u) old new)) (sym is) d

  pub call_number : (k : Known) (at : Next) → IfOk r (λ n. n ≡ number k at (phrase_of t)) → IfOk r (λ n. n ≡ number k at (phrase_of (tree_of e)))
  call_number k at found = subst (λ u. IfOk r (λ n. n ≡ number k at (phrase_of u))) (sym is) found

-- numbers that are small
pub place_small : (at : Next) (results : ℕ) (f : Phrase) → IsSmall (past at results f) → at.place ≤ most_places + 1
place_small at results f small = let p = small.place in omega (arith, p)

pub results_small : (at : Next) (results : ℕ) (n : Name) (b : Option Bits) (span : Span) (fs : Phrases) → IsSmall (past at results (headed (Called n b) span fs)) → results ≤ most_places + 1
results_small at results n b span fs small = let p = small.place in omega (arith, p)

pub calls_small : (at : Next) (results count : ℕ) (n : Name) (b : Option Bits) (span : Span) (fs : Phrases) → at.call ≡ count + 1 → IsSmall (past at results (headed (Called n b) span fs)) → count ≤ most_places
calls_small at results count n b span fs is small = let p = small.call in omega (arith, p)

pub buffers_small : (at : Next) (f : Phrase) (before own : ℕ) → at.buffer ≡ before + 1 → own ≡ buffers_of f → IsSmall (past at 1 f) → before + own < 2 ^ 32
buffers_small at (name n) before own is mine small = let p = small.buffer in omega (arith, p)
buffers_small at (headed h span fs) before own is mine small =
    let p = small.buffer in omega (arith, p, length-append (own_bounds h) (all_bounds fs))

-- what was kept free stands before what was drawn since
pub stands : {A : Type 0} (before between after more : List A) (x : A) (i : ℕ) → i ≡ length before → between ≡ before ++ x ∷ [] → after ≡ between ++ more → i < length after
stands before between after more x i at put drawn =
    let p : length between ≡ length before + 1 = ap length put ∙ length-append before (x ∷ []) in
    let q : length after ≡ length between + length more = ap length drawn ∙ length-append between more in
    omega (arith, p, q)

-- at the end of a list all of it is drawn
pub drawn_end : (k : Known) (found : List ℕ) (d start : Draft) (es : List Expr) (i : ℕ) → length es ≤ i → AllDrawn k found d (expr_phrases (drop i es)) start (expr_phrases es) → AllDrawn k found d none start (expr_phrases es)
drawn_end k found d start es i past_end drawn = subst (λ (l : List Expr). AllDrawn k found d (expr_phrases l) start (expr_phrases es)) (drop_all i es past_end) drawn

-- what a refusal answers
pub no_answer : {T E : Type 0} (r : Result T E) (P : T → Type 0) (Q : E → Type 0) → IsErrAnd r Q → IfOk r P
no_answer (Ok x) P Q h = absurd h
no_answer (Err e) P Q h = tt

-- what one operand alone tells of a form
module _ (k : Known) (f g : Phrase) (operands : phrase_operands f ≡ and g none) where
  pub one_small : (at : Next) → IsSmall (past_all at (phrase_operands f)) → IsSmall (past_all at (and g none))
  one_small at s = subst (λ fs. IsSmall (past_all at fs)) operands s

  -- it is drawn as an expression is
  one_drawn : (old new : Draft) → Draws k 1 g old new → DrawsAll k (phrase_operands f) old new
  one_drawn old new d = subst (λ fs. DrawsAll k fs old new) (sym operands) (record {
    places = d.places ∙ ap (λ l. old.places.items ++ l) (sym (append-nil (entries k (next_of k old) 1 g)));
    calls = d.calls ∙ ap (λ l. old.calls.items ++ l) (sym (append-nil (sites k (next_of k old) 1 g)));
    next = d.next;
  })

  pub one_answered : {E : Type 0} (r : Result PlaceKind E) (old new : Draft) → Draws k 1 g old new → OnOk r (DrawsAll k (phrase_operands f) old new)
  one_answered (Ok kind) old new d = one_drawn old new d
  one_answered (Err e) old new d = tt

  pub one_kind : {E : Type 0} (r : Result PlaceKind E) (at : Next) (n place : ℕ) → place ≡ number k at g → IfOk r (λ kind. kind ≡ kind_of k n f (place ∷ [])) →
      IfOk r (λ kind. kind ≡ kind_of k n f (numbers k at (phrase_operands f)))
  one_kind r at n place is found = subst (λ args. IfOk r (λ kind. kind ≡ kind_of k n f args)) (ap (λ m. m ∷ []) is ∙ sym (ap (numbers k at) operands)) found
