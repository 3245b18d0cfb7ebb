-- A text is cut in one way.
use Rattle.std.proofs.Common.{◌≡◌, ℕ, ◌+◌, ◌<◌, Bool, true, false, List, [], ◌∷◌, length, drop, take, Option, Some, None, refl, ap, sym, ◌∙◌, subst, inl, inr, arith}
use Rattle.std.specs.Prelude.{◌⊎◌}
use Rattle.lucy_word.specs.declared.limit.Limit.{Limit}
use Rattle.lucy_word.specs.declared.limit.Limit.TheVariants as limit
use Rattle.lucy_token.specs.declared.token.Kind.{Kind}
use Rattle.lucy_token.specs.declared.token.What.{What}
use Rattle.lucy_token.specs.declared.token.Token as token_type
use Rattle.lucy_token.specs.declared.front.Front.{Front}
use Rattle.lucy_token.specs.declared.front.Front.TheVariants.{Gap, Token, Bad}
use Rattle.lucy_token.specs.declared.stop.Stop.{Stop}
use Rattle.lucy_token.specs.declared.stop.Stop.TheVariants.{End, Fault}
use Rattle.lucy_token.specs.declared.stop.SyntaxError.{SyntaxError}
use Rattle.lucy_token.specs.declared.stop.SyntaxError.TheVariants.{Unexpected, TooLarge}
use Rattle.lucy_token.specs.Before.{nearest, limit_at, is_entry_past}
use Rattle.lucy_token.specs.Contents.{Contains, unread}
use Rattle.lucy_token.specs.Scans.{IsMalformed, scanned_front, Scans, ends, gap, bad, passed, past_last, malformed, token}
use Rattle.lucy_token.specs.Cuts.{token_at}
use Rattle.lucy_token.proofs.ContentLaws.{contains_one, contains_or_malformed, malformed_one}
use Rattle.lucy_token.specs.Cuts.{Cuts}
use Rattle.lucy_token.proofs.ScanLaws.{scan_of}

-- the cutting stops before a malformed token
record Stops (from : ℕ) (ks : List Kind) (text : List ℕ) (k : Kind) (n : ℕ) (ts : List token_type.Token) (stop : Stop) : Type 0 where
  why : SyntaxError
  at_fault : IsMalformed (nearest ks) k (take n text) from why
  none : ts ≡ []
  stopped : stop ≡ Fault why

-- a token, and what follows it
record Goes (from : ℕ) (ks : List Kind) (text : List ℕ) (k : Kind) (n : ℕ) (ts : List token_type.Token) (stop : Stop) : Type 0 where
  what : What
  more : List token_type.Token
  stands_for : Contains (nearest ks) k (take n text) what
  rest : Scans (from + n) (k ∷ ks) (drop n text) more stop
  whole : ts ≡ token_at what from n ∷ more

abbrev ByToken : ℕ → List Kind → List ℕ → Kind → ℕ → Option Limit → Bool → List token_type.Token → Stop → Type 0
ByToken from ks text k n (Some l) past ts stop = (ts ≡ []) × (stop ≡ Fault (TooLarge l))
ByToken from ks text k n None true ts stop = (ts ≡ token_at (unread k (take n text)) from n ∷ []) × (stop ≡ Fault (TooLarge limit.Names))
ByToken from ks text k n None false ts stop = Stops from ks text k n ts stop ⊎ Goes from ks text k n ts stop

-- how a text is cut that has this front
abbrev ByFront : ℕ → List Kind → List ℕ → Front → List token_type.Token → Stop → Type 0
ByFront from ks text (Gap n) ts stop = Scans (from + n) ks (drop n text) ts stop
ByFront from ks text (Bad n) ts stop = (ts ≡ []) × (stop ≡ Fault (Unexpected (from + n)))
ByFront from ks text (Token k n) ts stop = ByToken from ks text k n (limit_at ks k) (is_entry_past ks k) ts stop

-- the same at the values of what is tested
by_token : (from : ℕ) (ks : List Kind) (text : List ℕ) (k : Kind) (n : ℕ) (o : Option Limit) (past : Bool) (ts : List token_type.Token) (stop : Stop) → scanned_front ks text ≡ Token k n → limit_at ks k ≡ o → is_entry_past ks k ≡ past →
    ByToken from ks text k n o past ts stop → ByFront from ks text (scanned_front ks text) ts stop
by_token from ks text k n o past ts stop e l p h =
    let P : Front → Type 0 = λ f. ByFront from ks text f ts stop in
    let Q : Option Limit → Type 0 = λ u. ByToken from ks text k n u (is_entry_past ks k) ts stop in
    let R : Bool → Type 0 = λ u. ByToken from ks text k n o u ts stop in
    subst P (sym e) (subst Q (sym l) (subst R (sym p) h))

to_token : (from : ℕ) (ks : List Kind) (text : List ℕ) (k : Kind) (n : ℕ) (o : Option Limit) (past : Bool) (ts : List token_type.Token) (stop : Stop) → scanned_front ks text ≡ Token k n → limit_at ks k ≡ o → is_entry_past ks k ≡ past →
    ByFront from ks text (scanned_front ks text) ts stop → ByToken from ks text k n o past ts stop
to_token from ks text k n o past ts stop e l p h =
    let P : Front → Type 0 = λ f. ByFront from ks text f ts stop in
    let Q : Option Limit → Type 0 = λ u. ByToken from ks text k n u (is_entry_past ks k) ts stop in
    let R : Bool → Type 0 = λ u. ByToken from ks text k n o u ts stop in
    subst R p (subst Q l (subst P e h))

by_front : {from : ℕ} {ks : List Kind} {text : List ℕ} {ts : List token_type.Token} {stop : Stop} → Scans from ks text ts stop → 0 < length text → ByFront from ks text (scanned_front ks text) ts stop
by_front ends some = absurd (omega (arith, some))
by_front {from} {ks} {text} {ts} {stop} (gap h e q) some = let P : Front → Type 0 = λ f. ByFront from ks text f ts stop in subst P (sym e) q
by_front {from} {ks} {text} (bad {n = n} h e) some = let P : Front → Type 0 = λ f. ByFront from ks text f [] (Fault (Unexpected (from + n))) in subst P (sym e) (refl, refl)
by_front {from} {ks} {text} (passed {n = n} {k = k} {l = l} h e p) some = by_token from ks text k n (Some l) (is_entry_past ks k) [] (Fault (TooLarge l)) e p refl (refl, refl)
by_front {from} {ks} {text} (past_last {n = n} {k = k} h e p q) some = by_token from ks text k n None true (token_at (unread k (take n text)) from n ∷ []) (Fault (TooLarge limit.Names)) e p q (refl, refl)
by_front {from} {ks} {text} (malformed {n = n} {k = k} {e = f} h e p q m) some = by_token from ks text k n None false [] (Fault f) e p q (inl (record { why = f; at_fault = m; none = refl; stopped = refl }))
by_front {from} {ks} {text} {ts} {stop} (token {n = n} {k = k} {w = w} {ts = us} h e p q c d) some = by_token from ks text k n None false (token_at w from n ∷ us) stop e p q (inr (record { what = w; more = us; stands_for = c; rest = d; whole = refl }))

nothing_left : {from : ℕ} {ks : List Kind} {text : List ℕ} {ts : List token_type.Token} {stop : Stop} → Scans from ks text ts stop → length text ≡ 0 → (ts ≡ []) × (stop ≡ End from)
nothing_left ends e = (refl, refl)
nothing_left (gap h f q) e = absurd (omega (arith, h, e))
nothing_left (bad h f) e = absurd (omega (arith, h, e))
nothing_left (passed h f p) e = absurd (omega (arith, h, e))
nothing_left (past_last h f p q) e = absurd (omega (arith, h, e))
nothing_left (malformed h f p q m) e = absurd (omega (arith, h, e))
nothing_left (token h f p q c d) e = absurd (omega (arith, h, e))

one_scan : {from : ℕ} {ks : List Kind} {text : List ℕ} {ts us : List token_type.Token} {stop halt : Stop} → Scans from ks text ts stop → Scans from ks text us halt → (ts ≡ us) × (stop ≡ halt)
one_scan ends d = let r = nothing_left d refl in (sym r.0, sym r.1)
one_scan {from} {ks} {text} {us = us} {halt = halt} (gap h e q) d =
    let P : Front → Type 0 = λ f. ByFront from ks text f us halt in
    one_scan q (subst P e (by_front d h))
one_scan {from} {ks} {text} {us = us} {halt = halt} (bad {n = n} h e) d =
    let P : Front → Type 0 = λ f. ByFront from ks text f us halt in
    let r : ByFront from ks text (Bad n) us halt = subst P e (by_front d h) in
    (sym r.0, sym r.1)
one_scan {from} {ks} {text} {us = us} {halt = halt} (passed {n = n} {k = k} {l = l} h e p) d =
    let r = to_token from ks text k n (Some l) (is_entry_past ks k) us halt e p refl (by_front d h) in
    (sym r.0, sym r.1)
one_scan {from} {ks} {text} {us = us} {halt = halt} (past_last {n = n} {k = k} h e p q) d =
    let r = to_token from ks text k n None true us halt e p q (by_front d h) in
    (sym r.0, sym r.1)
one_scan {from} {ks} {text} {us = us} {halt = halt} (malformed {n = n} {k = k} {e = f} h e p q m) d =
    elim (to_token from ks text k n None false us halt e p q (by_front d h)) [
      | inl r ↦ (sym r.none, ap (λ u. Fault u) (malformed_one (nearest ks) k (take n text) from f r.why m r.at_fault) ∙ sym r.stopped)
      | inr r ↦ absurd (contains_or_malformed (nearest ks) k (take n text) from r.what f r.stands_for m)
    ]
one_scan {from} {ks} {text} {us = us} {halt = halt} (token {n = n} {k = k} {w = w} {ts = ts} h e p q c t) d =
    elim (to_token from ks text k n None false us halt e p q (by_front d h)) [
      | inl r ↦ absurd (contains_or_malformed (nearest ks) k (take n text) from w r.why c r.at_fault)
      | inr r ↦
          let i = one_scan t r.rest in
          let f : w ≡ r.what = contains_one (nearest ks) k (take n text) w r.what c r.stands_for in
          (ap (λ u. token_at u from n ∷ ts) f ∙ ap (λ u. token_at r.what from n ∷ u) i.0 ∙ sym r.whole, i.1)
    ]

pub one_cut : {from : ℕ} {ks : List Kind} {text : List ℕ} {ts us : List token_type.Token} {stop halt : Stop} → Cuts from ks text ts stop → Cuts from ks text us halt → (ts ≡ us) × (stop ≡ halt)
one_cut a b = one_scan (scan_of a) (scan_of b)
