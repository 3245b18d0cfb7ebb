-- The scanner's state tells what the kinds of the tokens before tell.
use Rattle.std.proofs.Common.{◌≡◌, ℕ, zero, suc, ◌+◌, ◌-◌, Bool, true, false, not, cond, List, [], ◌∷◌, length, Option, Some, None, refl, ap, sym, ◌∙◌, subst, arith}
use Rattle.std.specs.Prelude.{◌&&◌, ◌||◌, if◌then◌else◌, nat_le, count_by, option_map, option_and_then}
use Rattle.std.specs.List.{list_any}
use Rattle.std.specs.Option.{option_map_or}
use Rattle.std.proofs.lemmas.List.Sums.{sum_by-cons}
use Rattle.lucy_word.specs.Limits.{limit_number}
use Rattle.lucy_word.specs.declared.limit.Limit.{Limit}
use Rattle.lucy_word.specs.declared.limit.Limit.TheVariants as limit
use Rattle.lucy_token.specs.declared.mark.Mark.TheVariants as mark
use Rattle.lucy_token.specs.declared.token.Kind.{Kind}
use Rattle.lucy_token.specs.declared.token.Kind.TheVariants as kind
use Rattle.lucy_token.specs.declared.front.Front.{Front}
use Rattle.lucy_token.specs.declared.state.Side.{Side}
use Rattle.lucy_token.specs.declared.state.Side.TheVariants as side
use Rattle.lucy_token.specs.declared.state.Level.{Level}
use Rattle.lucy_token.specs.Before.{is_one_of, nearest, wants_word, precedes_operand, definition, is_behind_equals, on_right, depth, inside, operands_wanted, operand_begins, limit_past, limit_at, is_name, is_entry_past}
use Rattle.lucy_token.specs.Fronts.{begins_gap, gap_of, plain_front, token_front}
use Rattle.lucy_token.specs.Scans.{word_front, scanned_front}
use Rattle.lucy_token.specs.Steps.{front_in}
use Rattle.lucy_token.specs.States.{ScanState, fresh, side_defined, side_after, counted_after, nodes_after, served, merging, level_after, closed, after, is_right, begins_operand, past_tokens, limit_passed, is_comma, begins_entry, is_past_last, state_of}

-- one token on, field by field
after_before : (s : ScanState) (outer : List Level) → (closed s outer).before ≡ kind.Mark mark.Close
after_before s [] = refl
after_before s (l ∷ outer) = refl

pub before_after : (s : ScanState) (k : Kind) → (after s k).before ≡ k
unfolding after
before_after s (kind.Mark mark.Open) = refl
before_after s (kind.Mark mark.Close) = after_before s s.outer
before_after s k = refl

closed_nodes : (s : ScanState) (outer : List Level) → (closed s outer).nodes ≡ s.nodes
closed_nodes s [] = refl
closed_nodes s (l ∷ outer) = refl

after_nodes : (s : ScanState) (k : Kind) → (after s k).nodes ≡ nodes_after s.nodes k
unfolding after
after_nodes s (kind.Mark mark.Open) = refl
after_nodes s (kind.Mark mark.Close) = closed_nodes s s.outer
after_nodes s k = refl

closed_side : (s : ScanState) (outer : List Level) → ((closed s outer).side ≡ side_after s.side s.before (kind.Mark mark.Close)) × ((closed s outer).counted ≡ counted_after s.side s.counted (kind.Mark mark.Close))
closed_side s [] = (refl, refl)
closed_side s (l ∷ outer) = (refl, refl)

after_side : (s : ScanState) (k : Kind) → ((after s k).side ≡ side_after s.side s.before k) × ((after s k).counted ≡ counted_after s.side s.counted k)
unfolding after
after_side s (kind.Mark mark.Open) = (refl, refl)
after_side s (kind.Mark mark.Close) = closed_side s s.outer
after_side s k = (refl, refl)

pub before_is : (ks : List Kind) → (state_of ks).before ≡ nearest ks
before_is [] = refl
before_is (k ∷ ks) = before_after (state_of ks) k

-- a count, with one more that counts or doesn't
count_in : (p : Kind → Bool) (k : Kind) (ks : List Kind) → p k ≡ true → count_by p (k ∷ ks) ≡ count_by p ks + 1
count_in p k ks e = sum_by-cons (λ x. cond (p x) 1 0) k ks ∙ ap (λ b. cond b 1 0 + count_by p ks) e ∙ (let f : 1 + count_by p ks ≡ count_by p ks + 1 = omega arith in f)

count_out : (p : Kind → Bool) (k : Kind) (ks : List Kind) → p k ≡ false → count_by p (k ∷ ks) ≡ count_by p ks
count_out p k ks e = sum_by-cons (λ x. cond (p x) 1 0) k ks ∙ ap (λ b. cond b 1 0 + count_by p ks) e ∙ (let f : 0 + count_by p ks ≡ count_by p ks = omega arith in f)

-- the nodes so far
one_node : (n : ℕ) (k : Kind) (ks : List Kind) → n ≡ count_by (is_one_of (mark.Let ∷ [])) ks → nodes_after n k ≡ count_by (is_one_of (mark.Let ∷ [])) (k ∷ ks)
one_node n (kind.Mark mark.Let) ks e = omega (arith, e, count_in (is_one_of (mark.Let ∷ [])) (kind.Mark mark.Let) ks refl)
one_node n k ks e = e ∙ sym (count_out (is_one_of (mark.Let ∷ [])) k ks refl)

nodes_are : (ks : List Kind) → (state_of ks).nodes ≡ count_by (is_one_of (mark.Let ∷ [])) ks
nodes_are [] = refl
nodes_are (k ∷ ks) = after_nodes (state_of ks) k ∙ one_node (state_of ks).nodes k ks (nodes_are ks)

-- the open parentheses
closed_depth : (s : ScanState) (outer : List Level) → length (closed s outer).outer ≡ length outer - 1
closed_depth s [] = refl
closed_depth s (l ∷ outer) = omega arith

after_depth : (s : ScanState) (k : Kind) (ks : List Kind) → length s.outer ≡ depth ks → length (after s k).outer ≡ depth (k ∷ ks)
unfolding after
after_depth s (kind.Mark mark.Open) ks e = omega (arith, e)
after_depth s (kind.Mark mark.Close) ks e = closed_depth s s.outer ∙ ap (λ n. n - 1) e
after_depth s k ks e = e

depth_is : (ks : List Kind) → length (state_of ks).outer ≡ depth ks
depth_is [] = refl
depth_is (k ∷ ks) = after_depth (state_of ks) k ks (depth_is ks)

-- what is known at each open parenthesis, the innermost first
abbrev level : ℕ → ℕ → Level
level commas wants = record { commas = commas; wanted = wants }

abbrev level_of : List Kind → Level
level_of ks = level (count_by (is_one_of (mark.Comma ∷ [])) ks) (operands_wanted ks)

abbrev level_get : List Level → ℕ → Level
level_get [] n = fresh
level_get (l ∷ ls) zero = l
level_get (l ∷ ls) (suc n) = level_get ls n

word_level : (ks : List Kind) → merging (nearest ks) (level_of (inside zero ks)) ≡ level_of (kind.Word ∷ inside zero ks)
word_level [] = refl
word_level (kind.Mark mark.Merge ∷ ks) = ap (λ n. level n 2) (omega arith)
word_level (kind.Mark mark.Open ∷ ks) = refl
word_level (kind.Mark mark.Close ∷ ks) = ap (λ n. level n (operands_wanted (inside 1 ks) - 1)) (omega arith)
word_level (k ∷ ks) = ap (λ n. level n (operands_wanted (k ∷ inside zero ks))) (sym (count_out (is_one_of (mark.Comma ∷ [])) kind.Word (k ∷ inside zero ks) refl))

inner_level : (k : Kind) (ks : List Kind) → is_one_of (mark.Close ∷ []) k ≡ false →
    level_after (nearest ks) (level_of (inside zero ks)) k ≡ level_of (k ∷ inside zero ks)
inner_level kind.Word ks h = word_level ks
inner_level kind.Name ks h = ap (λ n. level n (operands_wanted (inside zero ks) - 1)) (omega arith)
inner_level kind.Number ks h = ap (λ n. level n (operands_wanted (inside zero ks) - 1)) (omega arith)
inner_level (kind.Mark mark.True) ks h = ap (λ n. level n (operands_wanted (inside zero ks) - 1)) (omega arith)
inner_level (kind.Mark mark.False) ks h = ap (λ n. level n (operands_wanted (inside zero ks) - 1)) (omega arith)
inner_level (kind.Mark mark.Close) ks h = absurd cc
inner_level (kind.Mark mark.Comma) ks h = ap (λ n. level n (operands_wanted (inside zero ks))) (sym (count_in (is_one_of (mark.Comma ∷ [])) (kind.Mark mark.Comma) (inside zero ks) refl))
inner_level k ks h = ap (λ n. level n (operands_wanted (inside zero ks))) (sym (count_out (is_one_of (mark.Comma ∷ [])) k (inside zero ks) refl))

close_level : (ks : List Kind) → served (level_of ks) ≡ level_of (kind.Mark mark.Close ∷ ks)
close_level ks = ap (λ n. level n (operands_wanted ks - 1)) (omega arith)

abbrev AreLevels : List Level → List Kind → Type 0
AreLevels ls ks = (n : ℕ) → level_get ls n ≡ level_of (inside n ks)

closed_levels : (n : ℕ) (s : ScanState) (outer : List Level) (ks : List Kind) → AreLevels (s.level ∷ outer) ks →
    level_get ((closed s outer).level ∷ (closed s outer).outer) n ≡ level_of (inside n (kind.Mark mark.Close ∷ ks))
closed_levels zero s [] ks h = ap served (h 1) ∙ close_level (inside 1 ks)
closed_levels (suc n) s [] ks h = h (suc (suc n))
closed_levels zero s (l ∷ outer) ks h = ap served (h 1) ∙ close_level (inside 1 ks)
closed_levels (suc n) s (l ∷ outer) ks h = h (suc (suc n))

inner_on : (s : ScanState) (k : Kind) (ks : List Kind) → s.before ≡ nearest ks → AreLevels (s.level ∷ s.outer) ks → is_one_of (mark.Close ∷ []) k ≡ false →
    level_after s.before s.level k ≡ level_of (k ∷ inside zero ks)
inner_on s k ks e h f = ap (λ b. level_after b s.level k) e ∙ ap (λ l. level_after (nearest ks) l k) (h zero) ∙ inner_level k ks f

levels_on : (n : ℕ) (s : ScanState) (k : Kind) (ks : List Kind) → s.before ≡ nearest ks → AreLevels (s.level ∷ s.outer) ks →
    level_get ((after s k).level ∷ (after s k).outer) n ≡ level_of (inside n (k ∷ ks))
unfolding after
levels_on zero s (kind.Mark mark.Open) ks e h = refl
levels_on (suc n) s (kind.Mark mark.Open) ks e h = h n
levels_on n s (kind.Mark mark.Close) ks e h = closed_levels n s s.outer ks h
levels_on zero s k ks e h = inner_on s k ks e h refl
levels_on (suc n) s k ks e h = h (suc n)

no_levels : (n : ℕ) → level_get (fresh ∷ []) n ≡ level_of (inside n [])
no_levels zero = refl
no_levels (suc n) = refl

levels_are : (ks : List Kind) → AreLevels ((state_of ks).level ∷ (state_of ks).outer) ks
levels_are [] n = no_levels n
levels_are (k ∷ ks) n = levels_on n (state_of ks) k ks (before_is ks) (levels_are ks)

-- where in its definition a token stands
abbrev is_equals : Kind → Bool
is_equals k = is_one_of (mark.Equals ∷ []) k

abbrev is_close : Kind → Bool
is_close k = is_one_of (mark.Close ∷ []) k

abbrev is_own : Kind → Bool
is_own k = not (is_one_of (mark.Open ∷ mark.Close ∷ []) k)

abbrev IsSide : Side → List Kind → Type 0
IsSide side.Head ds = ⊥
IsSide side.Left ds = (list_any is_equals ds ≡ false) × (is_behind_equals ds ≡ false)
IsSide side.Right ds = (list_any is_equals ds ≡ true) × (is_behind_equals ds ≡ true)
IsSide side.Called ds = (list_any is_equals ds ≡ true) × (is_behind_equals ds ≡ false)

abbrev IsPart : Side → ℕ → Option (List Kind) → Type 0
IsPart at n None = at ≡ side.Head
IsPart at n (Some ds) = IsSide at ds × (n ≡ count_by is_own ds)

-- one token more in a definition, or the next part
abbrev part_on : Kind → Option (List Kind) → Option (List Kind)
part_on (kind.Mark mark.Let) o = None
part_on (kind.Mark mark.Rec) o = Some []
part_on (kind.Mark mark.And) o = Some []
part_on k o = option_map (λ ds. k ∷ ds) o

definition_on : (k : Kind) (ks : List Kind) → definition (k ∷ ks) ≡ part_on k (definition ks)
definition_on (kind.Mark mark.Let) ks = refl
definition_on (kind.Mark mark.Rec) ks = refl
definition_on (kind.Mark mark.And) ks = refl
definition_on k ks = refl

-- the token before a definition's token closes a parenthesis just where the nearest of the definition does
abbrev IsNear : Kind → Option (List Kind) → Type 0
IsNear before None = Unit {0}
IsNear before (Some ds) = is_close (nearest ds) ≡ is_close before

near_on : (k : Kind) (o : Option (List Kind)) → IsNear k (part_on k o)
near_on (kind.Mark mark.Let) o = tt
near_on (kind.Mark mark.Rec) o = refl
near_on (kind.Mark mark.And) o = refl
near_on k None = tt
near_on k (Some ds) = refl

near : (ks : List Kind) → IsNear (nearest ks) (definition ks)
near [] = tt
near (k ∷ ks) = subst (IsNear k) (sym (definition_on k ks)) (near_on k (definition ks))

-- behind a `=`
equals_side : (before : Kind) (ds : List Kind) → is_behind_equals ds ≡ false → is_close (nearest ds) ≡ is_close before → IsSide (side_defined before) (kind.Mark mark.Equals ∷ ds)
equals_side (kind.Mark mark.Close) ds h e = (refl, ap (λ b. is_behind_equals ds || not b) e ∙ ap (λ b. b || false) h)
equals_side before ds h e = (refl, ap (λ b. is_behind_equals ds || not b) e ∙ ap (λ b. b || true) h)

abbrev begins_part : Kind → Bool
begins_part k = is_one_of (mark.Let ∷ mark.Rec ∷ mark.And ∷ []) k

side_on : (at : Side) (before k : Kind) (ds : List Kind) → begins_part k ≡ false → IsSide at ds → is_close (nearest ds) ≡ is_close before → IsSide (side_after at before k) (k ∷ ds)
side_on side.Head before k ds p h e = absurd h
side_on at before (kind.Mark mark.Let) ds p h e = absurd cc
side_on at before (kind.Mark mark.Rec) ds p h e = absurd cc
side_on at before (kind.Mark mark.And) ds p h e = absurd cc
side_on side.Left before (kind.Mark mark.Equals) ds p h e = equals_side before ds h.1 e
side_on side.Called before (kind.Mark mark.Equals) ds p h e = equals_side before ds h.1 e
side_on side.Right before (kind.Mark mark.Equals) ds p h e = (refl, ap (λ b. b || not (is_close (nearest ds))) h.1)
side_on side.Left before (kind.Mark mark.Open) ds p h e = (h.0, h.0)
side_on side.Called before (kind.Mark mark.Open) ds p h e = (h.0, h.0)
side_on side.Right before (kind.Mark mark.Open) ds p h e = (h.0, h.0)
side_on side.Left before k ds p h e = h
side_on side.Called before k ds p h e = h
side_on side.Right before k ds p h e = h

counted_on : (at : Side) (n : ℕ) (k : Kind) (ds : List Kind) → begins_part k ≡ false → IsSide at ds → n ≡ count_by is_own ds → counted_after at n k ≡ count_by is_own (k ∷ ds)
counted_on side.Head n k ds p h e = absurd h
counted_on at n (kind.Mark mark.Let) ds p h e = absurd cc
counted_on at n (kind.Mark mark.Rec) ds p h e = absurd cc
counted_on at n (kind.Mark mark.And) ds p h e = absurd cc
counted_on at n (kind.Mark mark.Open) ds p h e = e ∙ sym (count_out is_own (kind.Mark mark.Open) ds refl)
counted_on at n (kind.Mark mark.Close) ds p h e = e ∙ sym (count_out is_own (kind.Mark mark.Close) ds refl)
counted_on side.Left n k ds p h e = ap (λ m. m + 1) e ∙ sym (count_in is_own k ds refl)
counted_on side.Right n k ds p h e = ap (λ m. m + 1) e ∙ sym (count_in is_own k ds refl)
counted_on side.Called n k ds p h e = ap (λ m. m + 1) e ∙ sym (count_in is_own k ds refl)

-- in the head of a node
head_on : (at : Side) (before k : Kind) → begins_part k ≡ false → at ≡ side.Head → side_after at before k ≡ side.Head
head_on side.Left before k p e = absurd cc
head_on side.Right before k p e = absurd cc
head_on side.Called before k p e = absurd cc
head_on side.Head before (kind.Mark mark.Let) p e = refl
head_on side.Head before (kind.Mark mark.Rec) p e = absurd cc
head_on side.Head before (kind.Mark mark.And) p e = absurd cc
head_on side.Head before k p e = refl

inner_part : (at : Side) (n : ℕ) (before k : Kind) (o : Option (List Kind)) → begins_part k ≡ false → IsNear before o → IsPart at n o →
    IsPart (side_after at before k) (counted_after at n k) (option_map (λ ds. k ∷ ds) o)
inner_part at n before k None p e h = head_on at before k p h
inner_part at n before k (Some ds) p e h = (side_on at before k ds p h.0 e, counted_on at n k ds p h.0 h.1)

part_step : (at : Side) (n : ℕ) (before k : Kind) (o : Option (List Kind)) → IsNear before o → IsPart at n o → IsPart (side_after at before k) (counted_after at n k) (part_on k o)
part_step at n before (kind.Mark mark.Let) o e h = refl
part_step at n before (kind.Mark mark.Rec) o e h = ((refl, refl), refl)
part_step at n before (kind.Mark mark.And) o e h = ((refl, refl), refl)
part_step at n before k o e h = inner_part at n before k o refl e h

part_is : (ks : List Kind) → IsPart (state_of ks).side (state_of ks).counted (definition ks)
part_is [] = refl
part_is (k ∷ ks) =
    let s : ScanState = state_of ks in
    let f = after_side s k in
    let step = part_step s.side s.counted s.before k (definition ks) (subst (λ b. IsNear b (definition ks)) (sym (before_is ks)) (near ks)) (part_is ks) in
    subst (λ at. IsPart at (after s k).counted (definition (k ∷ ks))) (sym f.0)
    (subst (λ n. IsPart (side_after s.side s.before k) n (definition (k ∷ ks))) (sym f.1) (subst (IsPart _ _) (sym (definition_on k ks)) step))

-- what is asked of a state is what its kinds tell
right_of : (at : Side) (n : ℕ) (o : Option (List Kind)) → IsPart at n o → is_right at ≡ option_map_or is_behind_equals o false
right_of at n None h = ap is_right h
right_of side.Head n (Some ds) h = absurd h.0
right_of side.Left n (Some ds) h = sym h.0.1
right_of side.Right n (Some ds) h = sym h.0.1
right_of side.Called n (Some ds) h = sym h.0.1

right_is : (ks : List Kind) → is_right (state_of ks).side ≡ on_right ks
right_is ks = right_of (state_of ks).side (state_of ks).counted (definition ks) (part_is ks)

pub operand_same : (ks : List Kind) → begins_operand (state_of ks) ≡ operand_begins ks
unfolding begins_operand operand_begins
operand_same ks =
    ap (λ b. b && (precedes_operand (state_of ks).before || nat_le 1 (state_of ks).level.wanted)) (right_is ks)
    ∙ ap (λ k. on_right ks && (precedes_operand k || nat_le 1 (state_of ks).level.wanted)) (before_is ks)
    ∙ ap (λ (l : Level). on_right ks && (precedes_operand (nearest ks) || nat_le 1 l.wanted)) (levels_are ks zero)

tokens_of : (at : Side) (n : ℕ) (o : Option (List Kind)) → IsPart at n o → past_tokens at n ≡ option_and_then (λ ds. limit_past limit.Tokens (count_by is_own ds)) o
tokens_of at n None h = ap (λ a. past_tokens a n) h
tokens_of side.Head n (Some ds) h = absurd h.0
tokens_of side.Left n (Some ds) h = ap (limit_past limit.Tokens) h.1
tokens_of side.Right n (Some ds) h = ap (limit_past limit.Tokens) h.1
tokens_of side.Called n (Some ds) h = ap (limit_past limit.Tokens) h.1

pub limit_same : (ks : List Kind) (k : Kind) → limit_passed (state_of ks) k ≡ limit_at ks k
unfolding limit_passed limit_at
limit_same ks (kind.Mark mark.Open) = ap (limit_past limit.Depth) (depth_is ks)
limit_same ks (kind.Mark mark.Close) = refl
limit_same ks (kind.Mark mark.And) = refl
limit_same ks (kind.Mark mark.Let) = ap (limit_past limit.Nodes) (nodes_are ks)
limit_same ks k = tokens_of (state_of ks).side (state_of ks).counted (definition ks) (part_is ks)

comma_same : (k : Kind) → is_comma k ≡ is_one_of (mark.Comma ∷ []) k
comma_same (kind.Mark mark.Comma) = refl
comma_same k = refl

entry_same : (at : Side) (k : Kind) → begins_entry at k ≡ (is_right at || is_name k)
entry_same side.Right k = refl
entry_same side.Head kind.Name = refl
entry_same side.Head k = refl
entry_same side.Left kind.Name = refl
entry_same side.Left k = refl
entry_same side.Called kind.Name = refl
entry_same side.Called k = refl

pub entry_past_same : (ks : List Kind) (k : Kind) → is_past_last (state_of ks) k ≡ is_entry_past ks k
unfolding is_past_last is_entry_past
entry_past_same ks k =
    let s : ScanState = state_of ks in
    ap (λ b. is_comma b && nat_le (limit_number limit.Names) s.level.commas && begins_entry s.side k) (before_is ks)
    ∙ ap (λ b. b && nat_le (limit_number limit.Names) s.level.commas && begins_entry s.side k) (comma_same (nearest ks))
    ∙ ap (λ (l : Level). is_one_of (mark.Comma ∷ []) (nearest ks) && nat_le (limit_number limit.Names) l.commas && begins_entry s.side k) (levels_are ks zero)
    ∙ ap (λ b. is_one_of (mark.Comma ∷ []) (nearest ks) && nat_le (limit_number limit.Names) (count_by (is_one_of (mark.Comma ∷ [])) (inside 0 ks)) && b)
    (entry_same s.side k ∙ ap (λ b. b || is_name k) (right_is ks))

pub front_same : (ks : List Kind) (text : List ℕ) → front_in (state_of ks) text ≡ scanned_front ks text
unfolding token_front
front_same ks text =
    ap (λ k. if begins_gap text then gap_of text else if wants_word k then word_front text else plain_front (begins_operand (state_of ks)) text) (before_is ks)
    ∙ ap (λ b. if begins_gap text then gap_of text else if wants_word (nearest ks) then word_front text else plain_front b text) (operand_same ks)

-- the same of a state that is the one behind these kinds
pub front_at : (s : ScanState) (ks : List Kind) (text : List ℕ) (f : Front) → s ≡ state_of ks → f ≡ front_in s text → scanned_front ks text ≡ f
front_at s ks text f e h = sym (h ∙ ap (λ t. front_in t text) e ∙ front_same ks text)

pub limit_there : (s : ScanState) (ks : List Kind) (k : Kind) (o : Option Limit) → s ≡ state_of ks → o ≡ limit_passed s k → limit_at ks k ≡ o
limit_there s ks k o e h = sym (h ∙ ap (λ t. limit_passed t k) e ∙ limit_same ks k)

pub entry_there : (s : ScanState) (ks : List Kind) (k : Kind) (b : Bool) → s ≡ state_of ks → b ≡ is_past_last s k → is_entry_past ks k ≡ b
entry_there s ks k b e h = sym (h ∙ ap (λ t. is_past_last t k) e ∙ entry_past_same ks k)

pub nearest_there : (s : ScanState) (ks : List Kind) (before : Kind) → s ≡ state_of ks → before ≡ s.before → before ≡ nearest ks
nearest_there s ks before e h = h ∙ ap (λ (t : ScanState). t.before) e ∙ before_is ks
