-- Productions that two functions read, one the first symbols and the other those behind them, or a list of signs.
use Rattle.std.proofs.Common.{ℕ, ◌≡◌, ◌∷◌, [], List, Option, Some, None, refl, sym, ap, ◌∙◌, subst, inl, inr, ◌⊎◌, true, length, suc, arith}
use Rattle.lucy_host.specs.declared.op.Op.TheVariants as op
use Rattle.lucy_tree.specs.declared.span.Span.{Span}
use Rattle.lucy_tree.specs.Tree.{Tree, operator, trees_of}
use Rattle.lucy_token.specs.declared.mark.Mark.{Mark}
use Rattle.lucy_token.specs.declared.mark.Mark.TheVariants as mark
use Rattle.lucy_token.specs.declared.token.Kind.{Kind}
use Rattle.lucy_token.specs.declared.token.Kind.TheVariants as kind
use Rattle.lucy_token.specs.declared.token.Token.{Token}
use Rattle.lucy_token.specs.Tokens.{first}
use Rattle.lucy_grammar.specs.Symbols.{Part, Val}
use Rattle.lucy_grammar.specs.Grammar.{rules}
use Rattle.lucy_grammar.specs.Kinds.{is_bound}
use Rattle.lucy_grammar.specs.Meanings.{token_name, token_bound, token_literal, literal_before, held_by, two}
use Rattle.lucy_grammar.specs.Reading.{follows, begins, Takes, BreaksAt, Reads, Unfit, Begins, IsBegun, IsOther, ReadsOptional, UnfitOptional}
use Rattle.lucy_grammar.proofs.Steps.{end, tok, tok_no, tok_bad, sub, sub_no, sub_bad, maybe, maybe_no, maybe_bad, rule, rule_no, led_by, others, as_value}
use Rattle.lucy_grammar.proofs.Productions as by
use Rattle.lucy_syntax.specs.Refusals.{ReadsEach, UnfitEach, ReadsEnclosed, UnfitEnclosed, IsBounded, IsLiteral, behind_name, behind_first}

pub decl : {ts m1 rest : List Token} {n : Token} {h : Option (Val Part.Typing)} {w : Option (Val Part.ClockOf)} → Begins ts n kind.Name m1 → Takes Part.Decl behind_name m1 (h, (w, tt)) rest → Reads Part.Decl ts (record { name = token_name n; holds = h; word = w }) rest
unfolding rules follows begins
decl {ts = ts} h1 r = rule 0 refl (others ts 0 refl tt) (tok h1 r)

pub decl_no : {ts m1 rest : List Token} {n : Token} → Begins ts n kind.Name m1 → BreaksAt Part.Decl behind_name m1 rest → Unfit Part.Decl ts rest
unfolding rules follows begins
decl_no {ts = ts} h1 u = rule_no 0 refl (others ts 0 refl tt) (tok_no h1 u)

pub behind_name_is : {ts rest : List Token} (m1 : List Token) (h : Option (Val Part.Typing)) (w : Option (Val Part.ClockOf)) → ReadsOptional Part.Typing ts h m1 → ReadsOptional Part.ClockOf m1 w rest → Takes Part.Decl behind_name ts (h, (w, tt)) rest
unfolding rules follows begins
behind_name_is m1 h w h1 h2 = maybe h refl h1 (maybe w refl h2 (end _))

pub behind_name_1 : {ts rest : List Token} → UnfitOptional Part.Typing ts rest → BreaksAt Part.Decl behind_name ts rest
unfolding rules follows begins
behind_name_1 u = maybe_bad refl u

pub behind_name_2 : {ts m1 rest : List Token} (h : Option (Val Part.Typing)) → ReadsOptional Part.Typing ts h m1 → UnfitOptional Part.ClockOf m1 rest → BreaksAt Part.Decl behind_name ts rest
unfolding rules follows begins
behind_name_2 h h1 u = maybe_no h refl h1 (maybe_bad refl u)

pub lefts : {ts m1 m2 rest : List Token} {o c s : Token} {d : Val Part.Decl} {ds : Val Part.Decls} → Begins ts o (kind.Mark mark.Open) m1 → Reads Part.Decl m1 d m2 → Takes Part.Lefts behind_first m2 (c, (ds, (s, tt))) rest → Reads Part.Lefts ts (d ∷ ds) rest
unfolding rules follows begins
lefts {ts = ts} h1 h2 r = rule 0 refl (others ts 0 refl tt) (tok h1 (sub refl h2 r))

pub lefts_no : {ts m1 m2 rest : List Token} {o : Token} {d : Val Part.Decl} → Begins ts o (kind.Mark mark.Open) m1 → Reads Part.Decl m1 d m2 → BreaksAt Part.Lefts behind_first m2 rest → Unfit Part.Lefts ts rest
unfolding rules follows begins
lefts_no {ts = ts} h1 h2 u = rule_no 0 refl (others ts 0 refl tt) (tok_no h1 (sub_no refl h2 u))

pub behind_first_is : {ts m1 m2 rest : List Token} {c s : Token} {ds : Val Part.Decls} → Begins ts c (kind.Mark mark.Comma) m1 → Reads Part.Decls m1 ds m2 → Begins m2 s (kind.Mark mark.Close) rest → Takes Part.Lefts behind_first ts (c, (ds, (s, tt))) rest
unfolding rules follows begins
behind_first_is h1 h2 h3 = tok h1 (sub refl h2 (tok h3 (end _)))

pub behind_first_1 : {ts rest : List Token} → IsOther ts (kind.Mark mark.Comma) rest → BreaksAt Part.Lefts behind_first ts rest
unfolding rules follows begins
behind_first_1 u = tok_bad refl u

pub behind_first_2 : {ts m1 rest : List Token} {c : Token} → Begins ts c (kind.Mark mark.Comma) m1 → Unfit Part.Decls m1 rest → BreaksAt Part.Lefts behind_first ts rest
unfolding rules follows begins
behind_first_2 h1 u = tok_no h1 (sub_bad refl u)

pub behind_first_3 : {ts m1 m2 rest : List Token} {c : Token} {ds : Val Part.Decls} → Begins ts c (kind.Mark mark.Comma) m1 → Reads Part.Decls m1 ds m2 → IsOther m2 (kind.Mark mark.Close) rest → BreaksAt Part.Lefts behind_first ts rest
unfolding rules follows begins
behind_first_3 h1 h2 u = tok_no h1 (sub_no refl h2 (tok_bad refl u))

-- as many expressions as signs
pub each_length : (ks : List Mark) (ts : List Token) (es : List Tree) (rest : List Token) → ReadsEach ks ts es rest → length es ≡ length ks
each_length [] ts es rest r = ap length r.0
each_length (k ∷ ks) ts es rest r = ap length r.8 ∙ ap suc (each_length ks r.3 r.4 rest r.7)

-- tokens by another name
begins_at : {ts more rest : List Token} {t : Token} {k : Kind} → more ≡ ts → Begins more t k rest → Begins ts t k rest
begins_at e b = (sym e ∙ b.0, b.1)

other_at : {ts more rest : List Token} {k : Kind} → more ≡ ts → IsOther more k rest → IsOther ts k rest
other_at {rest = rest} {k = k} e u = subst (λ (m : List Token). IsOther m k rest) e u

same_token : {ts a b : List Token} {t u : Token} → ts ≡ t ∷ a → ts ≡ u ∷ b → t ≡ u
same_token {t = t} {u = u} e f = cc

same_rest : {ts a b : List Token} {t u : Token} → ts ≡ t ∷ a → ts ≡ u ∷ b → a ≡ b
same_rest {a = a} {b = b} e f = cc

-- a choice: three expressions, each behind its keyword
pub choice : {ts more rest : List Token} {i : Token} {es : List Tree} → Begins ts i (kind.Mark mark.If) more → ReadsEach (mark.If ∷ mark.Then ∷ mark.Else ∷ []) ts es rest → Reads Part.Expr ts (operator op.If (trees_of es) i.span) rest
choice {ts = ts} {i = i} {es = es} b r =
    let s = r.7 in
    let q = s.7 in
    let all : es ≡ r.2 ∷ s.2 ∷ q.2 ∷ [] = r.8 ∙ ap (λ u. r.2 ∷ u) (s.8 ∙ ap (λ u. s.2 ∷ u) (q.8 ∙ ap (λ u. q.2 ∷ u) q.7.0)) in
    let value = ap (λ (u : List Tree). operator op.If (trees_of u) i.span) all ∙ ap (λ (t : Token). operator op.If (trees_of (r.2 ∷ s.2 ∷ q.2 ∷ [])) t.span) (same_token b.0 r.5.0) in
    subst (λ (m : List Token). Reads Part.Expr ts (operator op.If (trees_of es) i.span) m) (sym q.7.1) (as_value value (by.choice r.5 r.6 s.5 s.6 q.5 q.6))

choice_3 : {ts m1 m2 rest : List Token} {i : Token} {c : Val Part.Expr} → Begins ts i (kind.Mark mark.If) m1 → Reads Part.Expr m1 c m2 → IsOther m2 (kind.Mark mark.Then) rest → Unfit Part.Expr ts rest
unfolding rules follows begins
choice_3 h1 h2 u = rule_no 0 refl (led_by 0 refl refl h1) (tok_no h1 (sub_no refl h2 (tok_bad refl u)))

choice_4 : {ts m1 m2 m3 rest : List Token} {i t : Token} {c : Val Part.Expr} → Begins ts i (kind.Mark mark.If) m1 → Reads Part.Expr m1 c m2 → Begins m2 t (kind.Mark mark.Then) m3 → Unfit Part.Expr m3 rest → Unfit Part.Expr ts rest
unfolding rules follows begins
choice_4 h1 h2 h3 u = rule_no 0 refl (led_by 0 refl refl h1) (tok_no h1 (sub_no refl h2 (tok_no h3 (sub_bad refl u))))

choice_5 : {ts m1 m2 m3 m4 rest : List Token} {i t : Token} {c a : Val Part.Expr} → Begins ts i (kind.Mark mark.If) m1 → Reads Part.Expr m1 c m2 → Begins m2 t (kind.Mark mark.Then) m3 → Reads Part.Expr m3 a m4 → IsOther m4 (kind.Mark mark.Else) rest → Unfit Part.Expr ts rest
unfolding rules follows begins
choice_5 h1 h2 h3 h4 u = rule_no 0 refl (led_by 0 refl refl h1) (tok_no h1 (sub_no refl h2 (tok_no h3 (sub_no refl h4 (tok_bad refl u)))))

choice_6 : {ts m1 m2 m3 m4 m5 rest : List Token} {i t e : Token} {c a : Val Part.Expr} → Begins ts i (kind.Mark mark.If) m1 → Reads Part.Expr m1 c m2 → Begins m2 t (kind.Mark mark.Then) m3 → Reads Part.Expr m3 a m4 → Begins m4 e (kind.Mark mark.Else) m5 → Unfit Part.Expr m5 rest → Unfit Part.Expr ts rest
unfolding rules follows begins
choice_6 h1 h2 h3 h4 h5 u = rule_no 0 refl (led_by 0 refl refl h1) (tok_no h1 (sub_no refl h2 (tok_no h3 (sub_no refl h4 (tok_no h5 (sub_bad refl u))))))

else_no : (ts m1 m2 m3 m4 rest : List Token) {i t : Token} {c a : Val Part.Expr} → Begins ts i (kind.Mark mark.If) m1 → Reads Part.Expr m1 c m2 → Begins m2 t (kind.Mark mark.Then) m3 → Reads Part.Expr m3 a m4 → UnfitEach (mark.Else ∷ []) m4 rest → Unfit Part.Expr ts rest
else_no ts m1 m2 m3 m4 rest h1 h2 h3 h4 (inl u) = choice_5 h1 h2 h3 h4 u
else_no ts m1 m2 m3 m4 rest h1 h2 h3 h4 (inr (inl u)) = choice_6 h1 h2 h3 h4 u.2 u.3
else_no ts m1 m2 m3 m4 rest h1 h2 h3 h4 (inr (inr u)) = absurd u.6

then_no : (ts m1 m2 rest : List Token) {i : Token} {c : Val Part.Expr} → Begins ts i (kind.Mark mark.If) m1 → Reads Part.Expr m1 c m2 → UnfitEach (mark.Then ∷ mark.Else ∷ []) m2 rest → Unfit Part.Expr ts rest
then_no ts m1 m2 rest h1 h2 (inl u) = choice_3 h1 h2 u
then_no ts m1 m2 rest h1 h2 (inr (inl u)) = choice_4 h1 h2 u.2 u.3
then_no ts m1 m2 rest h1 h2 (inr (inr u)) = else_no ts m1 m2 u.1 u.3 rest h1 h2 u.4 u.5 u.6

pub choice_no : (ts rest : List Token) → first ts ≡ kind.Mark mark.If → UnfitEach (mark.If ∷ mark.Then ∷ mark.Else ∷ []) ts rest → Unfit Part.Expr ts rest
choice_no ts rest f (inl u) = absurd (u.1 f)
choice_no ts rest f (inr (inl u)) = by.choice_2 u.2 u.3
choice_no ts rest f (inr (inr u)) = then_no ts u.1 u.3 rest u.4 u.5 u.6

-- one expression in parentheses, and two
pub record InParens (ts : List Token) (es : List Tree) (rest : List Token) : Type 0 where
  pub o : Token
  pub s : Token
  pub m : List Token
  pub n : List Token
  pub e : Tree
  pub from : Begins ts o (kind.Mark mark.Open) m
  pub inner : Reads Part.Expr m e n
  pub to : Begins n s (kind.Mark mark.Close) rest
  pub is : es ≡ e ∷ []

pub in_parens : {ts : List Token} {es : List Tree} {rest : List Token} → ReadsEnclosed (mark.Open ∷ []) ts es rest → InParens ts es rest
in_parens r =
    let a = r.2 in
    record { o = a.0; s = r.1; m = a.1; n = a.3; e = a.2; from = a.5; inner = a.6; to = begins_at a.7.1 r.3; is = a.8 ∙ ap (λ u. a.2 ∷ u) a.7.0 }

pub pair : {ts : List Token} {es : List Tree} {rest : List Token} → ReadsEnclosed (mark.Open ∷ mark.Comma ∷ []) ts es rest → (a : Tree) × (b : Tree) × (es ≡ a ∷ b ∷ []) × Reads Part.Pair ts (two a b) rest
pair r =
    let a = r.2 in
    let b = a.7 in
    (a.2, b.2, a.8 ∙ ap (λ u. a.2 ∷ u) (b.8 ∙ ap (λ u. b.2 ∷ u) b.7.0), by.pair a.5 a.6 b.5 b.6 (begins_at b.7.1 r.3))

-- a pair that is refused
comma_no : (ts m1 m2 rest : List Token) {o : Token} {a : Val Part.Expr} → Begins ts o (kind.Mark mark.Open) m1 → Reads Part.Expr m1 a m2 → UnfitEach (mark.Comma ∷ []) m2 rest → Unfit Part.Pair ts rest
comma_no ts m1 m2 rest h1 h2 (inl u) = by.pair_3 h1 h2 u
comma_no ts m1 m2 rest h1 h2 (inr (inl u)) = by.pair_4 h1 h2 u.2 u.3
comma_no ts m1 m2 rest h1 h2 (inr (inr u)) = absurd u.6

pub pair_no : (ts rest : List Token) → UnfitEnclosed (mark.Open ∷ mark.Comma ∷ []) ts rest → Unfit Part.Pair ts rest
pair_no ts rest (inl (inl u)) = by.pair_1 u
pair_no ts rest (inl (inr (inl u))) = by.pair_2 u.2 u.3
pair_no ts rest (inl (inr (inr u))) = comma_no ts u.1 u.3 rest u.4 u.5 u.6
pair_no ts rest (inr u) = let a = u.2 in let b = a.7 in by.pair_5 a.5 a.6 b.5 b.6 (other_at b.7.1 u.3)

-- an expression in parentheses that is refused, where it is all of the part
pub atom_inner_no : (ts rest : List Token) → (first ts ≡ kind.Name → ⊥) → (first ts ≡ kind.Mark mark.Host → ⊥) → UnfitEnclosed (mark.Open ∷ []) ts rest → Unfit Part.Atom ts rest
atom_inner_no ts rest n h (inl (inl u)) = by.parens_1 (n, (h, tt)) u
atom_inner_no ts rest n h (inl (inr (inl u))) = by.parens_2 u.2 u.3
atom_inner_no ts rest n h (inl (inr (inr u))) = absurd u.6
atom_inner_no ts rest n h (inr u) = let a = u.2 in by.parens_3 a.5 a.6 (other_at a.7.1 u.3)

pub small_inner_no : (ts rest : List Token) → (IsBegun Part.Lit ts → ⊥) → (first ts ≡ kind.Name → ⊥) → UnfitEnclosed (mark.Open ∷ []) ts rest → Unfit Part.Small ts rest
small_inner_no ts rest l n (inl (inl u)) = by.small_parens_1 (l, n) u
small_inner_no ts rest l n (inl (inr (inl u))) = by.small_parens_2 u.2 u.3
small_inner_no ts rest l n (inl (inr (inr u))) = absurd u.6
small_inner_no ts rest l n (inr u) = let a = u.2 in by.small_parens_3 a.5 a.6 (other_at a.7.1 u.3)

-- a bound with its expression
held_inner_no : (ts rest : List Token) → first ts ≡ kind.Mark mark.Open → UnfitEnclosed (mark.Open ∷ []) ts rest → UnfitOptional Part.Held ts rest
held_inner_no ts rest o (inl (inl u)) = absurd (u.1 o)
held_inner_no ts rest o (inl (inr (inl u))) = by.held_parens_2 u.2 u.3
held_inner_no ts rest o (inl (inr (inr u))) = absurd u.6
held_inner_no ts rest o (inr u) = let a = u.2 in by.held_parens_3 a.5 a.6 (other_at a.7.1 u.3)

pub held : {ts m rest : List Token} {t : Token} {es : List Tree} → ts ≡ t ∷ m → is_bound t.what ≡ true → ReadsEnclosed (mark.Open ∷ []) m es rest → (e : Tree) × (es ≡ e ∷ []) × Reads Part.Buffered ts (Some (token_bound t.what), e) rest
held e b r =
    let p = in_parens r in
    (p.e, p.is, by.held_bound (Some (None, p.e)) e b (by.held_parens p.from p.inner p.to))

pub held_no : {ts m rest : List Token} {t : Token} → ts ≡ t ∷ m → is_bound t.what ≡ true → first m ≡ kind.Mark mark.Open → UnfitEnclosed (mark.Open ∷ []) m rest → Unfit Part.Buffered ts rest
held_no {m = m} {rest = rest} e b o u = by.held_bound_2 e b (held_inner_no m rest o u)

-- a literal behind `buffer` that is no bound of an expression
pub held_literal : {ts m rest : List Token} {l : Val Part.Lit} (f : Option (Val Part.Followed)) → IsLiteral ts l m → (IsBounded ts → ⊥) → ReadsOptional Part.Followed m f rest → Reads Part.Buffered ts (None, literal_before l f) rest
held_literal {ts = ts} {m = m} {rest = rest} {l = l} f i n r = go i.sort
  where
    go : ((t : Token) × (ts ≡ t ∷ m) × (is_bound t.what ≡ true) × (l ≡ (token_literal t.what, t.span))) ⊎ (IsBegun Part.Other ts × Reads Part.Other ts l m) → Reads Part.Buffered ts (None, literal_before l f) rest
    go (inl b) =
        let held = by.held_followed m rest f (λ o. n (b.0, m, b.1, b.2, o)) r in
        as_value (ap (λ (x : Val Part.Lit). let p : Option ℕ × Tree = (None, literal_before x f) in p) b.3 ∙ sym (by.held_before (token_bound b.0.what) (token_literal b.0.what, b.0.span) f)) (by.held_bound (by.held_of f) b.1 b.2 held)
    go (inr o) = by.held_other f o.0 o.1 r

pub held_literal_no : {ts m rest : List Token} {l : Val Part.Lit} → IsLiteral ts l m → UnfitOptional Part.Followed m rest → Unfit Part.Buffered ts rest
held_literal_no {ts = ts} {m = m} {rest = rest} {l = l} i u = go i.sort
  where
    go : ((t : Token) × (ts ≡ t ∷ m) × (is_bound t.what ≡ true) × (l ≡ (token_literal t.what, t.span))) ⊎ (IsBegun Part.Other ts × Reads Part.Other ts l m) → Unfit Part.Buffered ts rest
    go (inl b) = by.held_bound_2 b.1 b.2 (by.held_followed_1 u)
    go (inr o) = by.held_other_2 o.0 o.1 u

-- the arguments of a call, refused behind its base
pub applied_2 : {ts m1 rest : List Token} (w : Option (Val Part.Base)) → ReadsOptional Part.Base ts w m1 → IsOther m1 (kind.Mark mark.Open) rest → Unfit Part.Applied ts rest
unfolding rules follows begins
applied_2 {ts = ts} w h1 u = rule_no 0 refl (others ts 0 refl tt) (maybe_no w refl h1 (tok_bad refl u))

pub applied_3 : {ts m1 m2 rest : List Token} {o : Token} (w : Option (Val Part.Base)) → ReadsOptional Part.Base ts w m1 → Begins m1 o (kind.Mark mark.Open) m2 → UnfitOptional Part.Args m2 rest → Unfit Part.Applied ts rest
unfolding rules follows begins
applied_3 {ts = ts} w h1 h2 u = rule_no 0 refl (others ts 0 refl tt) (maybe_no w refl h1 (tok_no h2 (maybe_bad refl u)))

pub applied_4 : {ts m1 m2 m3 rest : List Token} {o : Token} (w : Option (Val Part.Base)) (a : Option (Val Part.Args)) → ReadsOptional Part.Base ts w m1 → Begins m1 o (kind.Mark mark.Open) m2 → ReadsOptional Part.Args m2 a m3 → IsOther m3 (kind.Mark mark.Close) rest → Unfit Part.Applied ts rest
unfolding rules follows begins
applied_4 {ts = ts} w a h1 h2 h3 u = rule_no 0 refl (others ts 0 refl tt) (maybe_no w refl h1 (tok_no h2 (maybe_no a refl h3 (tok_bad refl u))))

-- no more signs
pub each_none : (ks : List Mark) (ts : List Token) → length ks ≡ 0 → ReadsEach ks ts [] ts
each_none [] ts e = (refl, refl)
each_none (k ∷ ks) ts e = absurd (omega (arith, e))

-- a sign with its expression, and the others
pub each_more : {ks more : List Mark} {k : Mark} {ts m n : List Token} {t : Token} {e : Tree} (es : List Tree) (rest : List Token) → ks ≡ k ∷ more → Begins ts t (kind.Mark k) m → Reads Part.Expr m e n → ReadsEach more n es rest → ReadsEach ks ts (e ∷ es) rest
each_more {ts = ts} {m = m} {n = n} {t = t} {e = e} es rest is b r q = subst (λ (ks : List Mark). ReadsEach ks ts (e ∷ es) rest) (sym is) (t, m, e, n, es, b, r, q, refl)

pub each_1 : {ks more : List Mark} {k : Mark} {ts rest : List Token} → ks ≡ k ∷ more → IsOther ts (kind.Mark k) rest → UnfitEach ks ts rest
each_1 {ts = ts} {rest = rest} is u = subst (λ (ks : List Mark). UnfitEach ks ts rest) (sym is) (inl u)

pub each_2 : {ks more : List Mark} {k : Mark} {ts m rest : List Token} {t : Token} → ks ≡ k ∷ more → Begins ts t (kind.Mark k) m → Unfit Part.Expr m rest → UnfitEach ks ts rest
each_2 {ts = ts} {m = m} {rest = rest} {t = t} is b u = subst (λ (ks : List Mark). UnfitEach ks ts rest) (sym is) (inr (inl (t, m, b, u)))

pub each_3 : {ks more : List Mark} {k : Mark} {ts m n : List Token} {t : Token} {e : Tree} (rest : List Token) → ks ≡ k ∷ more → Begins ts t (kind.Mark k) m → Reads Part.Expr m e n → UnfitEach more n rest → UnfitEach ks ts rest
each_3 {ts = ts} {m = m} {n = n} {t = t} {e = e} rest is b r u = subst (λ (ks : List Mark). UnfitEach ks ts rest) (sym is) (inr (inr (t, m, e, n, b, r, u)))
