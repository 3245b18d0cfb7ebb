-- The tokens of definitions and the nodes are counted by tokens that are no parentheses.
use Rattle.std.proofs.Common.{◌≡◌, ℕ, ◌+◌, ◌<◌, ◌≤◌, Bool, true, false, List, [], ◌∷◌, ◌++◌, length, None, Some, Option, map, refl, ap, subst, arith}
use Rattle.std.specs.Prelude.{not, ◌||◌, nat_le, if◌then◌else◌}
use Rattle.std.specs.List.{AllByRecursion}
use Rattle.std.proofs.lemmas.Bool.{not-true, not_from_false, leb-false, lt-leb}
use Rattle.lucy_word.specs.Limits.{limit_number}
use Rattle.lucy_word.specs.declared.limit.Limit.{Limit}
use Rattle.lucy_word.specs.declared.limit.Limit.TheVariants as limit
use Rattle.lucy_token.specs.declared.mark.Mark.TheVariants as mark
use Rattle.lucy_token.specs.declared.token.Kind.{Kind}
use Rattle.lucy_token.specs.declared.token.Kind.TheVariants as kind
use Rattle.lucy_token.specs.declared.token.What.{What}
use Rattle.lucy_token.specs.declared.token.What.TheVariants as what
use Rattle.lucy_token.specs.declared.token.Token as token_type
use Rattle.lucy_token.specs.declared.state.Side.{Side}
use Rattle.lucy_token.specs.declared.state.Side.TheVariants as side
use Rattle.lucy_token.specs.declared.state.Level.{Level}
use Rattle.lucy_token.specs.Tokens.{kind_of}
use Rattle.lucy_token.specs.Before.{limit_past}
use Rattle.lucy_token.specs.States.{ScanState, after, closed, side_after, side_defined, counted_after, nodes_after, past_tokens, limit_passed}
use Rattle.lucy_grammar.specs.Parens.{without_parens}
use Rattle.lucy_grammar.proofs.CutLimits.{AllPass}

abbrev pub is_head : Side → Bool
is_head side.Head = true
is_head at = false

-- what is counted before a token
pub record Count : Type 0 where
  pub in_head : Bool
  pub tokens : ℕ
  pub nodes : ℕ

abbrev pub head_after : Bool → Kind → Bool
head_after h (kind.Mark mark.Let) = true
head_after h (kind.Mark mark.Rec) = false
head_after h (kind.Mark mark.And) = false
head_after h k = h

abbrev pub tokens_after : Bool → ℕ → Kind → ℕ
tokens_after h n (kind.Mark mark.Let) = 0
tokens_after h n (kind.Mark mark.Rec) = 0
tokens_after h n (kind.Mark mark.And) = 0
tokens_after h n (kind.Mark mark.Open) = n
tokens_after h n (kind.Mark mark.Close) = n
tokens_after true n k = n
tokens_after false n k = n + 1

abbrev pub count_on : Count → Kind → Count
count_on c k = record { in_head = head_after c.in_head k; tokens = tokens_after c.in_head c.tokens k; nodes = nodes_after c.nodes k }

abbrev pub count_of : ScanState → Count
count_of s = record { in_head = is_head s.side; tokens = s.counted; nodes = s.nodes }

-- the token may be counted
abbrev pub counts : Count → Kind → Bool
counts c (kind.Mark mark.Open) = true
counts c (kind.Mark mark.Close) = true
counts c (kind.Mark mark.And) = true
counts c (kind.Mark mark.Let) = not (nat_le (limit_number limit.Nodes) c.nodes)
counts c k = c.in_head || not (nat_le (limit_number limit.Tokens) c.tokens)

abbrev pub AllCount : Count → List What → Type 0
AllCount c [] = Unit {0}
AllCount c (w ∷ ws) = (counts c (kind_of w) ≡ true) × AllCount (count_on c (kind_of w)) ws

head_defined : (before : Kind) → is_head (side_defined before) ≡ false
head_defined (kind.Mark mark.Close) = refl
head_defined before = refl

pub same_head : (at : Side) (before k : Kind) → is_head (side_after at before k) ≡ head_after (is_head at) k
same_head side.Left before (kind.Mark mark.Equals) = head_defined before
same_head side.Left before k = refl
same_head side.Called before (kind.Mark mark.Equals) = head_defined before
same_head side.Called before (kind.Mark mark.Open) = refl
same_head side.Called before k = refl
same_head side.Head before (kind.Mark mark.Let) = refl
same_head side.Head before k = refl
same_head side.Right before (kind.Mark mark.Let) = refl
same_head side.Right before k = refl

same_tokens : (at : Side) (n : ℕ) (k : Kind) → counted_after at n k ≡ tokens_after (is_head at) n k
same_tokens side.Head n (kind.Mark mark.Let) = refl
same_tokens side.Head n k = refl
same_tokens side.Left n (kind.Mark mark.Let) = refl
same_tokens side.Left n k = refl
same_tokens side.Right n (kind.Mark mark.Let) = refl
same_tokens side.Right n k = refl
same_tokens side.Called n (kind.Mark mark.Let) = refl
same_tokens side.Called n k = refl

count_eq : (h i : Bool) (a b n : ℕ) → h ≡ i → a ≡ b → ◌≡◌ {A = Count} (record { in_head = h; tokens = a; nodes = n }) (record { in_head = i; tokens = b; nodes = n })
count_eq h i a b n e f = cc

counted_closed : (s : ScanState) (outer : List Level) → count_of (closed s outer) ≡ count_on (count_of s) (kind.Mark mark.Close)
counted_closed s [] = count_eq _ _ _ _ s.nodes (same_head s.side s.before (kind.Mark mark.Close)) refl
counted_closed s (l ∷ outer) = count_eq _ _ _ _ s.nodes (same_head s.side s.before (kind.Mark mark.Close)) refl

pub counted_on : (s : ScanState) (k : Kind) → count_of (after s k) ≡ count_on (count_of s) k
unfolding after
counted_on s (kind.Mark mark.Open) = count_eq _ _ _ _ s.nodes (same_head s.side s.before (kind.Mark mark.Open)) refl
counted_on s (kind.Mark mark.Close) = counted_closed s s.outer
counted_on s k = count_eq _ _ _ _ (nodes_after s.nodes k) (same_head s.side s.before k) (same_tokens s.side s.counted k)

-- a token that passes no limit may be counted; one that may be counted passes no limit, if it opens no parenthesis too many
none_past : (l : Limit) (n : ℕ) → limit_past l n ≡ None → not (nat_le (limit_number l) n) ≡ true
none_past l n e = of (nat_le (limit_number l) n) e
  where
    of : (b : Bool) → ◌≡◌ {A = Option Limit} (if b then Some l else None) None → not b ≡ true
    of true e = absurd cc
    of false e = refl

past_none : (l : Limit) (n : ℕ) → not (nat_le (limit_number l) n) ≡ true → limit_past l n ≡ None
past_none l n e = of (nat_le (limit_number l) n) e
  where
    of : (b : Bool) → not b ≡ true → ◌≡◌ {A = Option Limit} (if b then Some l else None) None
    of true e = absurd cc
    of false e = refl

none_tokens : (at : Side) (n : ℕ) → past_tokens at n ≡ None → (is_head at || not (nat_le (limit_number limit.Tokens) n)) ≡ true
none_tokens side.Head n e = refl
none_tokens side.Left n e = none_past limit.Tokens n e
none_tokens side.Right n e = none_past limit.Tokens n e
none_tokens side.Called n e = none_past limit.Tokens n e

tokens_none : (at : Side) (n : ℕ) → (is_head at || not (nat_le (limit_number limit.Tokens) n)) ≡ true → past_tokens at n ≡ None
tokens_none side.Head n e = refl
tokens_none side.Left n e = past_none limit.Tokens n e
tokens_none side.Right n e = past_none limit.Tokens n e
tokens_none side.Called n e = past_none limit.Tokens n e

pub may_count : (s : ScanState) (k : Kind) → limit_passed s k ≡ None → counts (count_of s) k ≡ true
unfolding limit_passed
may_count s (kind.Mark mark.Open) e = refl
may_count s (kind.Mark mark.Close) e = refl
may_count s (kind.Mark mark.And) e = refl
may_count s (kind.Mark mark.Let) e = none_past limit.Nodes s.nodes e
may_count s k e = none_tokens s.side s.counted e

pub none_passed : (s : ScanState) (k : Kind) → counts (count_of s) k ≡ true → (k ≡ kind.Mark mark.Open → length s.outer < limit_number limit.Depth) → limit_passed s k ≡ None
unfolding limit_passed
none_passed s (kind.Mark mark.Open) e h = past_none limit.Depth (length s.outer) (not_from_false (nat_le (limit_number limit.Depth) (length s.outer)) (lt-leb (limit_number limit.Depth) (length s.outer) (h refl)))
none_passed s (kind.Mark mark.Close) e h = refl
none_passed s (kind.Mark mark.And) e h = refl
none_passed s (kind.Mark mark.Let) e h = past_none limit.Nodes s.nodes e
none_passed s k e h = tokens_none s.side s.counted e

pub all_count : (s : ScanState) (ts : List token_type.Token) → AllPass s ts → AllCount (count_of s) (map (λ t. t.what) ts)
all_count s [] h = tt
all_count s (t ∷ ts) h =
    let P : Count → Type 0 = λ c. AllCount c (map (λ u. u.what) ts) in
    (may_count s (kind_of t.what) h.0, subst P (counted_on s (kind_of t.what)) (all_count (after s (kind_of t.what)) ts h.2))

-- parentheses don't count
pub count_core : (c : Count) (ws : List What) → AllCount c ws → AllCount c (without_parens ws)
count_core c [] h = tt
count_core c (what.Mark mark.Open ∷ ws) h = count_core c ws h.1
count_core c (what.Mark mark.Close ∷ ws) h = count_core c ws h.1
count_core c (what.Mark m ∷ ws) h = (h.0, count_core (count_on c (kind.Mark m)) ws h.1)
count_core c (what.Name bytes ∷ ws) h = (h.0, count_core (count_on c kind.Name) ws h.1)
count_core c (what.Number n ∷ ws) h = (h.0, count_core (count_on c kind.Number) ws h.1)
count_core c (what.Word w ∷ ws) h = (h.0, count_core (count_on c kind.Word) ws h.1)

pub core_count : (c : Count) (ws : List What) → AllCount c (without_parens ws) → AllCount c ws
core_count c [] h = tt
core_count c (what.Mark mark.Open ∷ ws) h = (refl, core_count c ws h)
core_count c (what.Mark mark.Close ∷ ws) h = (refl, core_count c ws h)
core_count c (what.Mark m ∷ ws) h = (h.0, core_count (count_on c (kind.Mark m)) ws h.1)
core_count c (what.Name bytes ∷ ws) h = (h.0, core_count (count_on c kind.Name) ws h.1)
core_count c (what.Number n ∷ ws) h = (h.0, core_count (count_on c kind.Number) ws h.1)
core_count c (what.Word w ∷ ws) h = (h.0, core_count (count_on c kind.Word) ws h.1)

-- behind the first of the tokens, from some count on
pub count_behind : (c : Count) (ws vs : List What) → AllCount c (ws ++ vs) → (d : Count) × AllCount d vs
count_behind c [] vs h = (c, h)
count_behind c (w ∷ ws) vs h = count_behind (count_on c (kind_of w)) ws vs h.1

-- a token that is counted in a definition: no parenthesis, and none that begins a definition or a node
abbrev pub IsCounted : What → Type 0
IsCounted (what.Mark mark.Let) = ⊥
IsCounted (what.Mark mark.Rec) = ⊥
IsCounted (what.Mark mark.And) = ⊥
IsCounted (what.Mark mark.Open) = ⊥
IsCounted (what.Mark mark.Close) = ⊥
IsCounted w = Unit {0}

record IsOne (c : Count) (w : What) : Type 0 where
  few : c.tokens < limit_number limit.Tokens
  in_def : (count_on c (kind_of w)).in_head ≡ false
  one_more : (count_on c (kind_of w)).tokens ≡ c.tokens + 1

room : (h : Bool) (n : ℕ) → h ≡ false → (h || not (nat_le (limit_number limit.Tokens) n)) ≡ true → n < limit_number limit.Tokens
room true n e h = absurd cc
room false n e h = leb-false (limit_number limit.Tokens) n (not-true (nat_le (limit_number limit.Tokens) n) h)

one_counted : (c : Count) (w : What) → c.in_head ≡ false → IsCounted w → counts c (kind_of w) ≡ true → IsOne c w
one_counted c (what.Mark mark.Let) e h k = absurd h
one_counted c (what.Mark mark.Rec) e h k = absurd h
one_counted c (what.Mark mark.And) e h k = absurd h
one_counted c (what.Mark mark.Open) e h k = absurd h
one_counted c (what.Mark mark.Close) e h k = absurd h
one_counted c (what.Mark m) e h k = record { few = room c.in_head c.tokens e k; in_def = e; one_more = ap (λ b. tokens_after b c.tokens (kind.Mark m)) e }
one_counted c (what.Name bytes) e h k = record { few = room c.in_head c.tokens e k; in_def = e; one_more = ap (λ b. tokens_after b c.tokens kind.Name) e }
one_counted c (what.Number n) e h k = record { few = room c.in_head c.tokens e k; in_def = e; one_more = ap (λ b. tokens_after b c.tokens kind.Number) e }
one_counted c (what.Word w) e h k = record { few = room c.in_head c.tokens e k; in_def = e; one_more = ap (λ b. tokens_after b c.tokens kind.Word) e }

-- a definition has no more of them than it may have
few_counted : (c : Count) (ws vs : List What) → c.in_head ≡ false → c.tokens ≤ limit_number limit.Tokens → AllByRecursion IsCounted ws → AllCount c (ws ++ vs) → c.tokens + length ws ≤ limit_number limit.Tokens
few_counted c [] vs e room all h = omega (arith, room)
few_counted c (w ∷ ws) vs e room all h =
    let one : IsOne c w = one_counted c w e all.0 h.0 in
    omega (arith, one.one_more, few_counted (count_on c (kind_of w)) ws vs one.in_def (omega (arith, one.one_more, one.few)) all.1 h.1)

pub few_tokens : (c : Count) (ws vs : List What) → c.in_head ≡ false → c.tokens ≡ 0 → AllByRecursion IsCounted ws → AllCount c (ws ++ vs) → length ws ≤ limit_number limit.Tokens
few_tokens c ws vs e z all h = omega (arith, z, few_counted c ws vs e (omega (arith, z)) all h)
