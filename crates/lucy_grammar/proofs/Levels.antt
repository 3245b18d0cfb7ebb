-- What a token leaves as it was: the side of its definition, what is open, and the commas counted there.
use Rattle.std.proofs.Common.{◌≡◌, ◌+◌, ◌-◌, ◌<◌, Bool, true, false, List, ◌∷◌, refl, ap, sym, ◌∙◌, subst, arith}
use Rattle.std.specs.Prelude.{◌&&◌, ◌||◌, nat_le}
use Rattle.std.proofs.lemmas.Bool.{leb-false, lt-leb, le-leb, and_from, or_left, or_right}
use Rattle.lucy_word.specs.Limits.{limit_number}
use Rattle.lucy_word.specs.declared.limit.Limit.TheVariants as limit
use Rattle.lucy_token.specs.declared.mark.Mark.TheVariants as mark
use Rattle.lucy_token.specs.declared.token.Kind.{Kind}
use Rattle.lucy_token.specs.declared.token.Kind.TheVariants as kind
use Rattle.lucy_token.specs.declared.state.Side.{Side}
use Rattle.lucy_token.specs.declared.state.Side.TheVariants as side
use Rattle.lucy_token.specs.declared.state.Level.{Level}
use Rattle.lucy_token.specs.Before.{precedes_operand}
use Rattle.lucy_token.specs.States.{ScanState, fresh, served, merging, after, closed, side_after, side_defined, is_comma, begins_entry, is_right, begins_operand, is_past_last}

pub record Keeps (s j : ScanState) : Type 0 where
  pub at : j.side ≡ s.side
  pub outer : j.outer ≡ s.outer
  pub commas : j.level.commas ≡ s.level.commas

pub keeps_self : (s : ScanState) → Keeps s s
keeps_self s = record { at = refl; outer = refl; commas = refl }

pub keeps_then : {s j m : ScanState} → Keeps s j → Keeps j m → Keeps s m
keeps_then a b = record { at = b.at ∙ a.at; outer = b.outer ∙ a.outer; commas = b.commas ∙ a.commas }

-- a token that begins no definition and no node, is no `=`, and neither a parenthesis nor a comma
abbrev pub is_plain : Kind → Bool
is_plain (kind.Mark mark.Let) = false
is_plain (kind.Mark mark.Rec) = false
is_plain (kind.Mark mark.And) = false
is_plain (kind.Mark mark.Equals) = false
is_plain (kind.Mark mark.Open) = false
is_plain (kind.Mark mark.Close) = false
is_plain (kind.Mark mark.Comma) = false
is_plain k = true

merging_commas : (before : Kind) (l : Level) → (merging before l).commas ≡ l.commas
merging_commas (kind.Mark mark.Merge) l = refl
merging_commas before l = refl

pub keeps_plain : (s : ScanState) (k : Kind) → is_plain k ≡ true → Keeps s (after s k)
unfolding after
keeps_plain s (kind.Mark mark.Let) e = absurd cc
keeps_plain s (kind.Mark mark.Rec) e = absurd cc
keeps_plain s (kind.Mark mark.And) e = absurd cc
keeps_plain s (kind.Mark mark.Equals) e = absurd cc
keeps_plain s (kind.Mark mark.Open) e = absurd cc
keeps_plain s (kind.Mark mark.Close) e = absurd cc
keeps_plain s (kind.Mark mark.Comma) e = absurd cc
keeps_plain s kind.Word e = record { at = refl; outer = refl; commas = merging_commas s.before s.level }
keeps_plain s k e = record { at = refl; outer = refl; commas = refl }

-- parentheses
abbrev pub IsDue : Side → Type 0
IsDue side.Right = Unit {0}
IsDue side.Called = Unit {0}
IsDue at = ⊥

pub due_right : (at : Side) → at ≡ side.Right → IsDue at
due_right at e = subst IsDue (sym e) tt

pub due_called : (at : Side) → at ≡ side.Called → IsDue at
due_called at e = subst IsDue (sym e) tt

pub record IsOpened (s j : ScanState) : Type 0 where
  pub outer : j.outer ≡ s.level ∷ s.outer
  pub level : j.level ≡ fresh
  pub before : j.before ≡ kind.Mark mark.Open

pub opened : (s : ScanState) → IsOpened s (after s (kind.Mark mark.Open))
unfolding after
opened s = record { outer = refl; level = refl; before = refl }

pub no_commas : {s j : ScanState} → IsOpened s j → j.level.commas ≡ 0
no_commas o = ap (λ l. l.commas) o.level

right_opened : (at : Side) (before : Kind) → IsDue at → side_after at before (kind.Mark mark.Open) ≡ side.Right
right_opened side.Right before h = refl
right_opened side.Called before h = refl
right_opened side.Head before h = absurd h
right_opened side.Left before h = absurd h

pub opened_right : (s : ScanState) → IsDue s.side → (after s (kind.Mark mark.Open)).side ≡ side.Right
unfolding after
opened_right s h = right_opened s.side s.before h

-- a side on which parentheses stay where they are
abbrev pub IsStill : Side → Type 0
IsStill side.Called = ⊥
IsStill at = Unit {0}

still_opened : (at : Side) (before : Kind) → IsStill at → side_after at before (kind.Mark mark.Open) ≡ at
still_opened side.Right before h = refl
still_opened side.Called before h = absurd h
still_opened side.Head before h = refl
still_opened side.Left before h = refl

pub opened_still : (s : ScanState) → IsStill s.side → (after s (kind.Mark mark.Open)).side ≡ s.side
unfolding after
opened_still s h = still_opened s.side s.before h

pub record IsClosed (s : ScanState) (l : Level) (over : List Level) (j : ScanState) : Type 0 where
  pub at : j.side ≡ s.side
  pub outer : j.outer ≡ over
  pub level : j.level ≡ served l
  pub before : j.before ≡ kind.Mark mark.Close

closed_is : (s : ScanState) (l : Level) (outer : List Level) → IsClosed s l outer (closed s (l ∷ outer))
closed_is s l outer = record { at = refl; outer = refl; level = refl; before = refl }

pub closed_after : (s : ScanState) (l : Level) (outer : List Level) → s.outer ≡ l ∷ outer → IsClosed s l outer (after s (kind.Mark mark.Close))
unfolding after
closed_after s l outer e =
    let P : List Level → Type 0 = λ o. IsClosed s l outer (closed s o) in
    subst P (sym e) (closed_is s l outer)

-- behind a whole pair of parentheses
pub keeps_parens : (s m : ScanState) → m.outer ≡ s.level ∷ s.outer → m.side ≡ s.side → Keeps s (after m (kind.Mark mark.Close))
keeps_parens s m e f =
    let c = closed_after m s.level s.outer e in
    record { at = c.at ∙ f; outer = c.outer; commas = ap (λ l. l.commas) c.level }

-- a comma
pub record IsOneOn (s j : ScanState) : Type 0 where
  pub at : j.side ≡ s.side
  pub outer : j.outer ≡ s.outer
  pub commas : j.level.commas ≡ s.level.commas + 1
  pub before : j.before ≡ kind.Mark mark.Comma

pub one_on : (s : ScanState) → IsOneOn s (after s (kind.Mark mark.Comma))
unfolding after
one_on s = record { at = refl; outer = refl; commas = refl; before = refl }

-- what begins a definition
pub rec_left : (s : ScanState) → (after s (kind.Mark mark.Rec)).side ≡ side.Left
unfolding after
rec_left s = refl

pub and_left : (s : ScanState) → (after s (kind.Mark mark.And)).side ≡ side.Left
unfolding after
and_left s = refl

-- an `=` on the left side
defined_left : (at : Side) (before : Kind) → at ≡ side.Left → side_after at before (kind.Mark mark.Equals) ≡ side_defined before
defined_left at before e = ap (λ a. side_after a before (kind.Mark mark.Equals)) e

pub defined : (s : ScanState) → s.side ≡ side.Left → (after s (kind.Mark mark.Equals)).side ≡ side_defined s.before
unfolding after
defined s e = defined_left s.side s.before e

-- entries of a list
few_of : (a b : Bool) → (a && false && b) ≡ false
few_of true b = refl
few_of false b = refl

pub in_list : (s : ScanState) (k : Kind) → s.level.commas < limit_number limit.Names → is_past_last s k ≡ false
unfolding is_past_last
in_list s k h = ap (λ t. is_comma s.before && t && begins_entry s.side k) (lt-leb (limit_number limit.Names) s.level.commas h) ∙ few_of (is_comma s.before) (begins_entry s.side k)

not_all : (t : Bool) → (true && t && true) ≡ false → t ≡ false
not_all true e = e
not_all false e = refl

pub few_before : (s : ScanState) (k : Kind) → s.before ≡ kind.Mark mark.Comma → begins_entry s.side k ≡ true → is_past_last s k ≡ false → s.level.commas < limit_number limit.Names
unfolding is_past_last
few_before s k e f h =
    let t : Bool = nat_le (limit_number limit.Names) s.level.commas in
    leb-false (limit_number limit.Names) s.level.commas
    (not_all t (sym (ap (λ b. is_comma b && t && begins_entry s.side k) e ∙ ap (λ b. true && t && b) f) ∙ h))

pub begins_name : (at : Side) → begins_entry at kind.Name ≡ true
begins_name side.Right = refl
begins_name at = refl

-- where an operand begins
pub begins_behind : (s : ScanState) → s.side ≡ side.Right → precedes_operand s.before ≡ true → begins_operand s ≡ true
unfolding begins_operand
begins_behind s e f = and_from (is_right s.side) (precedes_operand s.before || nat_le 1 s.level.wanted) (ap is_right e) (or_left (precedes_operand s.before) (nat_le 1 s.level.wanted) f)

pub begins_wanted : (s : ScanState) → s.side ≡ side.Right → 0 < s.level.wanted → begins_operand s ≡ true
unfolding begins_operand
begins_wanted s e f = and_from (is_right s.side) (precedes_operand s.before || nat_le 1 s.level.wanted) (ap is_right e) (or_right (precedes_operand s.before) (nat_le 1 s.level.wanted) (le-leb 1 s.level.wanted (omega (arith, f))))

-- what is still wanted behind an operand of a merge, and behind its word
pub wanted_name : (s : ScanState) → (after s kind.Name).level.wanted ≡ s.level.wanted - 1
unfolding after
wanted_name s = refl

pub wanted_number : (s : ScanState) → (after s kind.Number).level.wanted ≡ s.level.wanted - 1
unfolding after
wanted_number s = refl

pub wanted_true : (s : ScanState) → (after s (kind.Mark mark.True)).level.wanted ≡ s.level.wanted - 1
unfolding after
wanted_true s = refl

pub wanted_false : (s : ScanState) → (after s (kind.Mark mark.False)).level.wanted ≡ s.level.wanted - 1
unfolding after
wanted_false s = refl

pub wanted_two : (s : ScanState) → (after (after s (kind.Mark mark.Merge)) kind.Word).level.wanted ≡ 2
unfolding after
wanted_two s = refl

-- the tokens that change the side alone
pub record IsLevel (s j : ScanState) : Type 0 where
  pub outer : j.outer ≡ s.outer
  pub commas : j.level.commas ≡ s.level.commas

pub level_equals : (s : ScanState) → IsLevel s (after s (kind.Mark mark.Equals))
unfolding after
level_equals s = record { outer = refl; commas = refl }

pub level_and : (s : ScanState) → IsLevel s (after s (kind.Mark mark.And))
unfolding after
level_and s = record { outer = refl; commas = refl }

pub level_rec : (s : ScanState) → IsLevel s (after s (kind.Mark mark.Rec))
unfolding after
level_rec s = record { outer = refl; commas = refl }

pub level_let : (s : ScanState) → IsLevel s (after s (kind.Mark mark.Let))
unfolding after
level_let s = record { outer = refl; commas = refl }

pub let_head : (s : ScanState) → (after s (kind.Mark mark.Let)).side ≡ side.Head
unfolding after
let_head s = refl

head_equals : (at : Side) (before : Kind) → at ≡ side.Head → side_after at before (kind.Mark mark.Equals) ≡ side.Head
head_equals at before e = ap (λ a. side_after a before (kind.Mark mark.Equals)) e

pub still_head : (s : ScanState) → s.side ≡ side.Head → (after s (kind.Mark mark.Equals)).side ≡ side.Head
unfolding after
still_head s e = head_equals s.side s.before e
