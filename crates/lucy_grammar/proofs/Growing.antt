-- A part that is another part and then a repeat, read so far: what stands for it grows with each time around.
use Rattle.std.proofs.Common.{◌≡◌, ◌<◌, Bool, true, List, [], ◌∷◌, ◌++◌, length, refl, ap, sym, ◌∙◌, arith}
use Rattle.lucy_word.specs.Bits.{Bits}
use Rattle.lucy_tree.specs.Tree.{Tree, Trees, more, sampled, trees_of, list_of}
use Rattle.lucy_token.specs.declared.token.Token.{Token}
use Rattle.lucy_grammar.specs.Symbols.{Part, part, many, Rule, Val, Operation, Program, Node, Names, Ident, MoreName, Decls, MoreDecl, Decl, Defs, Def, MoreDef, Expr, Or, MoreAnd, And, MoreCmp, Cmp, Sum, MoreProd, Prod, MoreSamp, Samp, Sampling, Pre, Args, MoreExpr}
use Rattle.lucy_grammar.specs.Meanings.{linked, grouped, sampled_by}
use Rattle.lucy_grammar.specs.Grammar.{rules, says}
use Rattle.lucy_grammar.specs.Reading.{follows, begins, Takes, BreaksAt, Reads, Unfit, IsBegun}
use Rattle.lucy_grammar.proofs.Table.{good, past_part}
use Rattle.lucy_grammar.proofs.Repeat.{RepeatSoFar, repeat_begun, repeat_more, repeat_refused, repeat_ended}
use Rattle.lucy_grammar.proofs.Steps.{end, sole, sole_no, sub, sub_no, sub_bad, as_value}

-- the production of X is one Y and a repeat of M, and one more M is put behind what stands for them
pub record Repeats (X Y M : Part) (whole : Val Y → List (Val M) → Val X) (put : Val X → Val M → Val X) : Type 0 where
  pub is : rules X ≡ says (part Y ∷ many M ∷ []) (λ (one, (read, _)). whole one read) ∷ []
  pub fits : good X (part Y ∷ many M ∷ []) ≡ true
  pub push : (one : Val Y) (read : List (Val M)) (v : Val M) → whole one (read ++ v ∷ []) ≡ put (whole one read) v

-- so much of X is read from ts up to `over`, and stands for `left`
pub record Growing (X Y M : Part) (whole : Val Y → List (Val M) → Val X) (ts : List Token) (left : Val X) (over : List Token) : Type 0 where
  pub one : Val Y
  pub read : List (Val M)
  pub mid : List Token
  pub value : left ≡ whole one read
  pub begun : Reads Y ts one mid
  pub so_far : RepeatSoFar X M [] mid read over
  pub shorter : length over < length ts

pub grown_first : {X Y M : Part} {whole : Val Y → List (Val M) → Val X} {put : Val X → Val M → Val X} {ts : List Token} {v : Val Y} {left : Val X} {over : List Token} →
    Repeats X Y M whole put → left ≡ whole v [] → Reads Y ts v over → length over < length ts → Growing X Y M whole ts left over
grown_first {v = v} {over = over} s e r h = record { one = v; read = []; mid = over; value = e; begun = r; so_far = repeat_begun over; shorter = h }

pub grown_more : {X Y M : Part} {whole : Val Y → List (Val M) → Val X} {put : Val X → Val M → Val X} {ts : List Token} {left new : Val X} {over : List Token} {v : Val M} {next : List Token} →
    Repeats X Y M whole put → Growing X Y M whole ts left over → new ≡ put left v → IsBegun M over → Reads M over v next → length next < length over → Growing X Y M whole ts new next
grown_more {X = X} {Y = Y} {M = M} {put = put} {v = v} s g e w r h = record {
  one = g.one;
  read = g.read ++ v ∷ [];
  mid = g.mid;
  value = e ∙ ap (λ u. put u v) g.value ∙ sym (s.push g.one g.read v);
  begun = g.begun;
  so_far = repeat_more g.so_far (past_part X Y (many M ∷ []) s.fits) w r;
  shorter = let before = g.shorter in omega arith;
}

-- by its only production, or not
by_it : {X Y M : Part} {whole : Val Y → List (Val M) → Val X} {put : Val X → Val M → Val X} {ts rest : List Token} (one : Val Y) (read : List (Val M)) →
    Repeats X Y M whole put → Takes X (part Y ∷ many M ∷ []) ts (one, (read, tt)) rest → Reads X ts (whole one read) rest
by_it {X = X} {Y = Y} {M = M} {whole = whole} {ts = ts} {rest = rest} one read s r =
    let p : Rule X = says (part Y ∷ many M ∷ []) (λ (one, (read, _)). whole one read) in
    sole {p = p} s.is r

not_by_it : {X Y M : Part} {whole : Val Y → List (Val M) → Val X} {put : Val X → Val M → Val X} {ts rest : List Token} →
    Repeats X Y M whole put → BreaksAt X (part Y ∷ many M ∷ []) ts rest → Unfit X ts rest
not_by_it {X = X} {Y = Y} {M = M} {whole = whole} {ts = ts} {rest = rest} s r =
    let p : Rule X = says (part Y ∷ many M ∷ []) (λ (one, (read, _)). whole one read) in
    sole_no {p = p} s.is r

-- the first part is refused
pub grown_bad : {X Y M : Part} {whole : Val Y → List (Val M) → Val X} {put : Val X → Val M → Val X} {ts rest : List Token} → Repeats X Y M whole put → Unfit Y ts rest → Unfit X ts rest
grown_bad s r = not_by_it s (sub_bad s.fits r)

-- one more is refused
pub grown_refused : {X Y M : Part} {whole : Val Y → List (Val M) → Val X} {put : Val X → Val M → Val X} {ts : List Token} {left : Val X} {over rest : List Token} →
    Repeats X Y M whole put → Growing X Y M whole ts left over → IsBegun M over → Unfit M over rest → Unfit X ts rest
grown_refused {X = X} {Y = Y} {M = M} s g w r = not_by_it s (sub_no s.fits g.begun (repeat_refused g.so_far (past_part X Y (many M ∷ []) s.fits) w r))

-- no more is there
pub grown_ended : {X Y M : Part} {whole : Val Y → List (Val M) → Val X} {put : Val X → Val M → Val X} {ts : List Token} {left : Val X} {over : List Token} →
    Repeats X Y M whole put → Growing X Y M whole ts left over → (IsBegun M over → ⊥) → Reads X ts left over
grown_ended {X = X} {Y = Y} {M = M} {over = over} s g w =
    as_value g.value (by_it g.one g.read s (sub s.fits g.begun (repeat_ended g.so_far (past_part X Y (many M ∷ []) s.fits) w (end over))))

-- the repeats of the grammar
abbrev pub and_then : {A : Type 0} → A → List A → List A
and_then x xs = x ∷ xs

abbrev pub put_last : {A : Type 0} → List A → A → List A
put_last xs x = xs ++ x ∷ []

abbrev pub once_more : Tree → Bool × Bits → Tree
once_more e (flip, word) = sampled flip e word

abbrev pub args_from : Tree → List Tree → Trees
args_from e es = more e (trees_of es)

abbrev pub put_tree : Trees → Tree → Trees
put_tree ts t = trees_of (list_of ts ++ t ∷ [])

grouped_push : (one : Tree) (read : List Operation) (v : Operation) → grouped one (read ++ v ∷ []) ≡ linked (grouped one read) v
grouped_push one [] v = refl
grouped_push one (x ∷ read) v = grouped_push (linked one x) read v

sampled_push : (one : Tree) (read : List (Bool × Bits)) (v : Bool × Bits) → sampled_by one (read ++ v ∷ []) ≡ once_more (sampled_by one read) v
sampled_push one [] v = refl
sampled_push one ((flip, word) ∷ read) v = sampled_push (sampled flip one word) read v

pub list_of-trees_of : (ts : List Tree) → list_of (trees_of ts) ≡ ts
list_of-trees_of [] = refl
list_of-trees_of (t ∷ ts) = ap (λ u. t ∷ u) (list_of-trees_of ts)

pub programs : Repeats Program Node Node and_then put_last
unfolding rules follows begins
programs = record { is = refl; fits = refl; push = λ one read v. refl }

pub names : Repeats Names Ident MoreName and_then put_last
unfolding rules follows begins
names = record { is = refl; fits = refl; push = λ one read v. refl }

pub decls : Repeats Decls Decl MoreDecl and_then put_last
unfolding rules follows begins
decls = record { is = refl; fits = refl; push = λ one read v. refl }

pub defs : Repeats Defs Def MoreDef and_then put_last
unfolding rules follows begins
defs = record { is = refl; fits = refl; push = λ one read v. refl }

pub ors : Repeats Or And MoreAnd grouped linked
unfolding rules follows begins
ors = record { is = refl; fits = refl; push = grouped_push }

pub ands : Repeats And Cmp MoreCmp grouped linked
unfolding rules follows begins
ands = record { is = refl; fits = refl; push = grouped_push }

pub sums : Repeats Sum Prod MoreProd grouped linked
unfolding rules follows begins
sums = record { is = refl; fits = refl; push = grouped_push }

pub prods : Repeats Prod Samp MoreSamp grouped linked
unfolding rules follows begins
prods = record { is = refl; fits = refl; push = grouped_push }

pub samps : Repeats Samp Pre Sampling sampled_by once_more
unfolding rules follows begins
samps = record { is = refl; fits = refl; push = sampled_push }

pub args : Repeats Args Expr MoreExpr args_from put_tree
unfolding rules follows begins
args = record { is = refl; fits = refl; push = λ one read v. ap (λ u. trees_of (u ++ v ∷ [])) (sym (list_of-trees_of (one ∷ read))) }
