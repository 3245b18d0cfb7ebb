-- A repeat, read so far, of any part in any production.
use Rattle.std.proofs.Common.{◌≡◌, true, List, [], ◌∷◌, ◌++◌, sym, subst, append_assoc}
use Rattle.std.proofs.lemmas.List.{append-nil}
use Rattle.lucy_token.specs.declared.token.Token.{Token}
use Rattle.lucy_grammar.specs.Symbols.{Part, Sym, many, Val, Vals}
use Rattle.lucy_grammar.specs.Reading.{Takes, BreaksAt, Reads, Unfit, IsBegun}
use Rattle.lucy_grammar.proofs.Table.{good}
use Rattle.lucy_grammar.proofs.Leads.{lead_taken, lead_then_refused, lead_refused, skip_taken}
use Rattle.lucy_grammar.proofs.Forms.{with_more, with_none, more_leads, many_skips}

-- what the rest of the repeat gives, and what comes after it, the whole gives
pub record RepeatSoFar (X Y : Part) (syms : List Sym) (ts : List Token) (read : List (Val Y)) (over : List Token) : Type 0 where
  pub taken : (us : List (Val Y)) (vs : Vals syms) (rest : List Token) → Takes X (many Y ∷ syms) over (us, vs) rest → Takes X (many Y ∷ syms) ts (read ++ us, vs) rest
  pub refused : (rest : List Token) → BreaksAt X (many Y ∷ syms) over rest → BreaksAt X (many Y ∷ syms) ts rest

pub repeat_begun : {X Y : Part} {syms : List Sym} (ts : List Token) → RepeatSoFar X Y syms ts [] ts
repeat_begun ts = record { taken = λ us vs rest r. r; refused = λ rest r. r }

pub repeat_more : {X Y : Part} {syms : List Sym} {ts : List Token} {read : List (Val Y)} {over : List Token} {v : Val Y} {mid : List Token} →
    RepeatSoFar X Y syms ts read over → good X (many Y ∷ syms) ≡ true → IsBegun Y over → Reads Y over v mid → RepeatSoFar X Y syms ts (read ++ v ∷ []) mid
repeat_more {X = X} {Y = Y} {syms = syms} {ts = ts} {read = read} {over = over} {v = v} {mid = mid} s g w r = record {
  taken = λ us vs rest q.
      let P : List (Val Y) → Type 0 = λ u. Takes X (many Y ∷ syms) ts (u, vs) rest in
      let one : Takes X (many Y ∷ syms) over (v ∷ us, vs) rest = lead_taken X Y (many Y ∷ syms) (many Y ∷ syms) (with_more Y syms) over v mid (us, vs) rest (more_leads X Y syms _ g w) r q in
      subst P (sym (append_assoc read (v ∷ []) us)) (s.taken (v ∷ us) vs rest one);
  refused = λ rest q. s.refused rest (lead_then_refused X Y (many Y ∷ syms) (many Y ∷ syms) (with_more Y syms) over v mid rest (more_leads X Y syms _ g w) r q);
}

pub repeat_refused : {X Y : Part} {syms : List Sym} {ts : List Token} {read : List (Val Y)} {over rest : List Token} →
    RepeatSoFar X Y syms ts read over → good X (many Y ∷ syms) ≡ true → IsBegun Y over → Unfit Y over rest → BreaksAt X (many Y ∷ syms) ts rest
repeat_refused {X = X} {Y = Y} {syms = syms} {over = over} {rest = rest} s g w r =
    s.refused rest (lead_refused X Y (many Y ∷ syms) (many Y ∷ syms) (with_more Y syms) over rest (more_leads X Y syms _ g w) r)

pub repeat_ended : {X Y : Part} {syms : List Sym} {ts : List Token} {read : List (Val Y)} {over : List Token} {vs : Vals syms} {rest : List Token} →
    RepeatSoFar X Y syms ts read over → good X (many Y ∷ syms) ≡ true → (IsBegun Y over → ⊥) → Takes X syms over vs rest → Takes X (many Y ∷ syms) ts (read, vs) rest
repeat_ended {X = X} {Y = Y} {syms = syms} {ts = ts} {read = read} {over = over} {vs = vs} {rest = rest} s g w r =
    let P : List (Val Y) → Type 0 = λ u. Takes X (many Y ∷ syms) ts (u, vs) rest in
    let none : Takes X (many Y ∷ syms) over ([], vs) rest = skip_taken X (many Y ∷ syms) syms (with_none Y syms) over vs rest (many_skips X Y syms _ g w) r in
    subst P (append-nil read) (s.taken [] vs rest none)
