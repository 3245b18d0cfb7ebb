-- Small programs: which tokens they are.
use Rattle.std.specs.Prelude.{codes, pos, neg_ℤ}
use Rattle.std.proofs.Common.{ℕ, ◌≡◌, ◌<◌, length, lit<, true, false, List, [], ◌∷◌, None, refl}
use Rattle.lucy_host.specs.declared.op.Op.TheVariants as op
use Rattle.lucy_tree.specs.declared.span.Name as name
use Rattle.lucy_tree.specs.declared.expr.Lit.TheVariants as lit
use Rattle.lucy_tree.specs.Tree.{Tree, variable, operator, followed}
use Rattle.lucy_tree.specs.View.{ProgramTree}
use Rattle.lucy_token.specs.declared.mark.Mark.{Mark}
use Rattle.lucy_token.specs.declared.mark.Mark.TheVariants as mark
use Rattle.lucy_token.specs.declared.token.Kind.TheVariants as kind
use Rattle.lucy_token.specs.declared.token.What.{What}
use Rattle.lucy_token.specs.declared.token.What.TheVariants as what
use Rattle.lucy_token.specs.declared.token.Token.{Token}
use Rattle.lucy_token.specs.Tokens.{first}
use Rattle.lucy_tree.specs.declared.decl.Decl as decl
use Rattle.lucy_grammar.specs.Symbols.{Body, Decl, Typing, ClockOf, Expr, MoreAnd, MoreCmp, Compared, Sum, MoreProd, Prod, MoreSamp, Sampling, Pre}
use Rattle.lucy_grammar.specs.Kinds.{is_bound}
use Rattle.lucy_grammar.specs.Grammar.{rules}
use Rattle.lucy_grammar.specs.Meanings.{two}
use Rattle.lucy_grammar.specs.Programs.{IsProgram, IsFirstUnfit}
use Rattle.lucy_grammar.specs.Reading.{follows, begins, Reads, IsBegun}
use Rattle.lucy_grammar.proofs.Growing.{programs, defs, ors, ands, sums, prods, samps, grown_first, grown_more, grown_ended, grown_bad}
use Rattle.lucy_grammar.proofs.Numbers.{not_in}
use Rattle.lucy_grammar.proofs.Steps.{end, tok, sub, opt, out, rule, led, others, sole, sole_no, sub_bad, tok_no, tok_bad}
use Rattle.lucy_grammar.proofs.Whole.{is_program, is_unfit}

-- a declaration of a name alone
abbrev bare : name.Name → decl.Decl
bare n = record { name = n; holds = None; word = None }

-- numbers from 0 to 4,095 may be a bound
bounds : (is_bound (what.Number (pos 0)) ≡ true) × (is_bound (what.Number (pos 4095)) ≡ true) × (is_bound (what.Number (pos 4096)) ≡ false) × (is_bound (what.Number (neg_ℤ (pos 1))) ≡ false)
bounds = (refl, refl, refl, refl)

-- tokens
token_at : What → ℕ → ℕ → Token
token_at w from to = record { what = w; span = record { from = from; to = to } }

let_twice : List Token
let_twice = token_at (what.Mark mark.Let) 0 3 ∷ token_at (what.Mark mark.Let) 4 7 ∷ []

-- in `let let` the second token is the first that doesn't fit
let_twice_unfit : IsFirstUnfit let_twice (token_at (what.Mark mark.Let) 4 7 ∷ [])
unfolding let_twice token_at rules follows begins
let_twice_unfit =
    is_unfit (grown_bad programs (sole_no refl (sub_bad refl (sole_no refl (tok_no (refl, refl) (tok_bad refl (refl, λ e. absurd cc)))))))

-- and of nothing the end is
nothing_unfit : IsFirstUnfit [] []
unfolding rules follows begins
nothing_unfit = is_unfit (grown_bad programs (sole_no refl (sub_bad refl (sole_no refl (tok_bad refl (refl, λ e. absurd cc))))))

-- the tokens of `let node sum x = o where rec o = x + (0 fby o)`
mark_at : Mark → ℕ → ℕ → Token
mark_at m from to = token_at (what.Mark m) from to

name_at : List ℕ → ℕ → ℕ → Token
name_at bytes from to = token_at (what.Name bytes) from to

behind_fby : List Token
behind_fby = name_at (codes "o") 44 45 ∷ mark_at mark.Close 45 46 ∷ []

behind_plus : List Token
behind_plus = mark_at mark.Open 37 38 ∷ token_at (what.Number (pos 0)) 38 39 ∷ mark_at mark.Fby 40 43 ∷ behind_fby

right : List Token
right = name_at (codes "x") 33 34 ∷ mark_at mark.Plus 35 36 ∷ behind_plus

body : List Token
body = mark_at mark.Where 19 24 ∷ mark_at mark.Rec 25 28 ∷ name_at (codes "o") 29 30 ∷ mark_at mark.Equals 31 32 ∷ right

sum_tokens : List Token
sum_tokens = mark_at mark.Let 0 3 ∷ mark_at mark.Node 4 8 ∷ name_at (codes "sum") 9 12 ∷ name_at (codes "x") 13 14 ∷ mark_at mark.Equals 15 16 ∷ name_at (codes "o") 17 18 ∷ body

placed_name : List ℕ → ℕ → ℕ → name.Name
placed_name bytes from to = record { text = bytes; span = record { from = from; to = to } }

sum_right : Tree
sum_right = operator op.Add (two (variable (placed_name (codes "x") 33 34)) (followed (lit.Int (pos 0)) (variable (placed_name (codes "o") 44 45)) (record { from = 40; to = 43 }))) (record { from = 35; to = 36 })

sum_tree : ProgramTree
sum_tree = record {
  name = placed_name (codes "sum") 9 12;
  params = bare (placed_name (codes "x") 13 14) ∷ [];
  results = placed_name (codes "o") 17 18 ∷ [];
  defs = record { left = bare (placed_name (codes "o") 29 30) ∷ []; right = sum_right } ∷ [];
} ∷ []

-- an operand that no operator follows
prod_of : {ts : List Token} {e : Tree} {rest : List Token} → Reads Pre ts e rest → length rest < length ts → (IsBegun Sampling rest → ⊥) → (IsBegun MoreSamp rest → ⊥) → Reads Prod ts e rest
prod_of r l a b = grown_ended prods (grown_first prods refl (grown_ended samps (grown_first samps refl r l) a) l) b

sum_of : {ts : List Token} {e : Tree} {rest : List Token} → Reads Prod ts e rest → length rest < length ts → (IsBegun MoreProd rest → ⊥) → Reads Sum ts e rest
sum_of r l a = grown_ended sums (grown_first sums refl r l) a

expr_of : {ts : List Token} {e : Tree} {rest : List Token} → (first ts ≡ kind.Mark mark.If → ⊥) → Reads Sum ts e rest → length rest < length ts →
    (IsBegun Compared rest → ⊥) → (IsBegun MoreCmp rest → ⊥) → (IsBegun MoreAnd rest → ⊥) → Reads Expr ts e rest
unfolding rules follows begins
expr_of {ts = ts} {rest = rest} n r l a b c =
    let cmp = sole refl (sub refl r (out refl a (end rest))) in
    let or = grown_ended ors (grown_first ors refl (grown_ended ands (grown_first ands refl cmp l) b) l) c in
    rule 1 refl (others ts 1 refl (not_in ts (kind.Mark mark.If ∷ []) (n, tt), tt)) (sub refl or (end rest))

o_read : Reads Pre behind_fby (variable (placed_name (codes "o") 44 45)) (mark_at mark.Close 45 46 ∷ [])
unfolding behind_fby mark_at name_at token_at placed_name rules follows begins
o_read = rule 1 refl (led behind_fby 1 refl refl refl) (sub refl (rule 3 refl (led behind_fby 3 refl refl refl) (sub refl (rule 0 refl (led behind_fby 0 refl refl refl) (tok (refl, refl) (out refl (λ w. absurd cc) (end _)))) (end _))) (end _))

in_parens : List Token
in_parens = token_at (what.Number (pos 0)) 38 39 ∷ mark_at mark.Fby 40 43 ∷ behind_fby

close : List Token
close = mark_at mark.Close 45 46 ∷ []

fby_read : Reads Pre in_parens (followed (lit.Int (pos 0)) (variable (placed_name (codes "o") 44 45)) (record { from = 40; to = 43 })) close
unfolding in_parens close mark_at token_at rules follows begins
fby_read =
    let follow = sole refl (tok (refl, refl) (sub refl o_read (end close))) in
    let literal = rule 0 refl (led in_parens 0 refl refl refl) (tok (refl, refl) (end _)) in
    rule 0 refl (led in_parens 0 refl refl refl) (sub refl literal (opt refl refl follow (end close)))

parens_read : Reads Pre behind_plus (followed (lit.Int (pos 0)) (variable (placed_name (codes "o") 44 45)) (record { from = 40; to = 43 })) []
unfolding behind_plus in_parens close mark_at token_at behind_fby name_at rules follows begins
parens_read =
    let inner = expr_of (λ e. absurd cc) (sum_of (prod_of fby_read (lit< tt) (λ w. absurd cc) (λ w. absurd cc)) (lit< tt) (λ w. absurd cc)) (lit< tt) (λ w. absurd cc) (λ w. absurd cc) (λ w. absurd cc) in
    rule 1 refl (led behind_plus 1 refl refl refl) (sub refl (rule 3 refl (led behind_plus 3 refl refl refl) (sub refl (rule 2 refl (led behind_plus 2 refl refl refl) (tok (refl, refl) (sub refl inner (tok (refl, refl) (end []))))) (end []))) (end []))

x_read : Reads Pre right (variable (placed_name (codes "x") 33 34)) (mark_at mark.Plus 35 36 ∷ behind_plus)
unfolding right mark_at name_at token_at placed_name rules follows begins
x_read = rule 1 refl (led right 1 refl refl refl) (sub refl (rule 3 refl (led right 3 refl refl refl) (sub refl (rule 0 refl (led right 0 refl refl refl) (tok (refl, refl) (out refl (λ w. absurd cc) (end _)))) (end _))) (end _))

right_read : Reads Expr right sum_right []
unfolding right sum_right behind_plus behind_fby mark_at name_at token_at placed_name rules follows begins
right_read =
    let one = prod_of x_read (lit< tt) (λ w. absurd cc) (λ w. absurd cc) in
    let two = prod_of parens_read (lit< tt) (λ w. absurd cc) (λ w. absurd cc) in
    let plus = rule 0 refl (led (mark_at mark.Plus 35 36 ∷ behind_plus) 0 refl refl refl) (tok (refl, refl) (end behind_plus)) in
    let more_read = sole refl (sub refl plus (sub refl two (end []))) in
    let both = grown_ended sums (grown_more sums (grown_first sums refl one (lit< tt)) refl refl more_read (lit< tt)) (λ w. absurd cc) in
    expr_of (λ e. absurd cc) both (lit< tt) (λ w. absurd cc) (λ w. absurd cc) (λ w. absurd cc)

a_decl : (bytes : List ℕ) (from to : ℕ) (rest : List Token) → (IsBegun Typing rest → ⊥) → (IsBegun ClockOf rest → ⊥) → Reads Decl (name_at bytes from to ∷ rest) (bare (placed_name bytes from to)) rest
unfolding name_at token_at placed_name rules follows begins
a_decl bytes from to rest a b = sole refl (tok (refl, refl) (out refl a (out refl b (end rest))))

body_read : Reads Body body (record { left = bare (placed_name (codes "o") 29 30) ∷ []; right = sum_right } ∷ []) []
unfolding body right behind_plus behind_fby mark_at name_at token_at placed_name rules follows begins
body_read =
    let left = a_decl (codes "o") 29 30 (mark_at mark.Equals 31 32 ∷ right) (λ w. absurd cc) (λ w. absurd cc) in
    let def = rule 0 refl (led (name_at (codes "o") 29 30 ∷ mark_at mark.Equals 31 32 ∷ right) 0 refl refl refl) (sub refl left (tok (refl, refl) (sub refl right_read (end [])))) in
    sole refl (tok (refl, refl) (tok (refl, refl) (sub refl (grown_ended defs (grown_first defs refl def (lit< tt)) (λ w. absurd cc)) (end []))))

-- they are that program, each name, literal and operator with its place
sum_read : IsProgram sum_tokens sum_tree
unfolding sum_tokens sum_tree body right behind_plus behind_fby mark_at name_at token_at placed_name rules follows begins
sum_read =
    let title = sole refl (tok (refl, refl) (tok (refl, refl) (tok (refl, refl) (end _)))) in
    let param = rule 0 refl (led (name_at (codes "x") 13 14 ∷ mark_at mark.Equals 15 16 ∷ name_at (codes "o") 17 18 ∷ body) 0 refl refl refl) (tok (refl, refl) (end _)) in
    let result = rule 0 refl (led (name_at (codes "o") 17 18 ∷ body) 0 refl refl refl) (tok (refl, refl) (end _)) in
    let node = sole refl (sub refl title (sub refl param (tok (refl, refl) (sub refl result (opt refl refl body_read (end [])))))) in
    is_program (grown_ended programs (grown_first programs refl node (lit< tt)) (λ w. absurd cc))
