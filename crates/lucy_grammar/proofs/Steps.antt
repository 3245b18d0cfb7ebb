-- The steps of a descent, as answers cite them: one for each symbol of a production, and each way out.
use Rattle.std.proofs.Common.{ℕ, ◌≡◌, true, List, [], ◌∷◌, Option, Some, None, ap, sym, ◌∙◌, subst}
use Rattle.std.specs.List.{slice_get}
use Rattle.lucy_token.specs.declared.token.Kind.{Kind}
use Rattle.lucy_token.specs.declared.token.Token.{Token}
use Rattle.lucy_token.specs.Tokens.{first}
use Rattle.lucy_grammar.specs.Sets.{within, subset}
use Rattle.lucy_grammar.specs.Kinds.{ahead, kind_numbers, Sort, of, Fits, sort_numbers}
use Rattle.lucy_grammar.specs.Symbols.{Part, Sym, token, any, part, perhaps, Rule, Val, Vals}
use Rattle.lucy_grammar.specs.Grammar.{rules}
use Rattle.lucy_grammar.specs.Reading.{Takes, BreaksAt, Reads, Unfit, IsBegun, Begins, IsOther, ReadsOptional, UnfitOptional}
use Rattle.lucy_grammar.proofs.Numbers.{ahead_kind, is_in, fits_number}
use Rattle.lucy_grammar.proofs.Sets.{within_subset}
use Rattle.lucy_grammar.proofs.Table.{good, look}
use Rattle.lucy_grammar.proofs.Leads.{lead_taken, lead_then_refused, lead_refused, skip_taken, skip_refused}
use Rattle.lucy_grammar.proofs.Forms.{with_part, with_it, without_it, part_leads, perhaps_leads, perhaps_skips}
use Rattle.lucy_grammar.proofs.Tokens.{nothing_taken, token_taken, token_then_refused, token_refused}
use Rattle.lucy_grammar.proofs.Rules.{Alone, Others, by_first, by_others, only_one, rule_taken, rule_refused, no_rule}

-- nothing more is wanted
pub end : {X : Part} (ts : List Token) → Takes X [] ts tt ts
end ts = nothing_taken _ ts

-- a token of a sort: it is there, and what is behind it is read, or refused
pub sort_tok : {X : Part} (s : Sort) {syms : List Sym} {t : Token} {ts more : List Token} {vs : Vals syms} {rest : List Token} →
    ts ≡ t ∷ more → Fits s t.what → Takes X syms more vs rest → Takes X (token s ∷ syms) ts (t, vs) rest
sort_tok {X = X} s {syms = syms} {t = t} {more = more} {vs = vs} {rest = rest} e f r =
    let P : List Token → Type 0 = λ u. Takes X (token s ∷ syms) u (t, vs) rest in
    subst P (sym e) (token_taken X s syms t more vs rest f r)

pub sort_tok_no : {X : Part} (s : Sort) {syms : List Sym} {t : Token} {ts more rest : List Token} →
    ts ≡ t ∷ more → Fits s t.what → BreaksAt X syms more rest → BreaksAt X (token s ∷ syms) ts rest
sort_tok_no {X = X} s {syms = syms} {t = t} {more = more} {rest = rest} e f r =
    let P : List Token → Type 0 = λ u. BreaksAt X (token s ∷ syms) u rest in
    subst P (sym e) (token_then_refused X s syms t more rest f r)

-- a token of a kind: it is there, and what is behind it is read, or refused; or another is there
pub tok : {X : Part} {k : Kind} {syms : List Sym} {t : Token} {ts more : List Token} {vs : Vals syms} {rest : List Token} →
    Begins ts t k more → Takes X syms more vs rest → Takes X (any k ∷ syms) ts (t, vs) rest
tok {k = k} b r = sort_tok (of k) b.0 b.1 r

pub tok_no : {X : Part} {k : Kind} {syms : List Sym} {t : Token} {ts more rest : List Token} →
    Begins ts t k more → BreaksAt X syms more rest → BreaksAt X (any k ∷ syms) ts rest
tok_no {k = k} b r = sort_tok_no (of k) b.0 b.1 r

pub tok_bad : {X : Part} {k : Kind} {syms : List Sym} {ts rest : List Token} → good X (any k ∷ syms) ≡ true → IsOther ts k rest → BreaksAt X (any k ∷ syms) ts rest
tok_bad {X = X} {k = k} {syms = syms} {ts = ts} g h =
    let P : List Token → Type 0 = λ u. BreaksAt X (any k ∷ syms) ts u in
    subst P (sym h.0) (token_refused X (of k) syms ts g (λ w. h.1 (ahead_kind ts k w)))

-- a part: it is read, and what is behind it is read, or refused; or the part is refused
pub sub : {X Y : Part} {syms : List Sym} {ts : List Token} {v : Val Y} {mid : List Token} {vs : Vals syms} {rest : List Token} → good X (part Y ∷ syms) ≡ true →
    Reads Y ts v mid → Takes X syms mid vs rest → Takes X (part Y ∷ syms) ts (v, vs) rest
sub {X = X} {Y = Y} {syms = syms} {ts = ts} {v = v} {mid = mid} {vs = vs} {rest = rest} g a b =
    lead_taken X Y (part Y ∷ syms) syms (with_part Y syms) ts v mid vs rest (part_leads X Y syms _ g) a b

pub sub_no : {X Y : Part} {syms : List Sym} {ts : List Token} {v : Val Y} {mid rest : List Token} → good X (part Y ∷ syms) ≡ true →
    Reads Y ts v mid → BreaksAt X syms mid rest → BreaksAt X (part Y ∷ syms) ts rest
sub_no {X = X} {Y = Y} {syms = syms} {ts = ts} {v = v} {mid = mid} {rest = rest} g a b =
    lead_then_refused X Y (part Y ∷ syms) syms (with_part Y syms) ts v mid rest (part_leads X Y syms _ g) a b

pub sub_bad : {X Y : Part} {syms : List Sym} {ts rest : List Token} → good X (part Y ∷ syms) ≡ true → Unfit Y ts rest → BreaksAt X (part Y ∷ syms) ts rest
sub_bad {X = X} {Y = Y} {syms = syms} {ts = ts} {rest = rest} g a =
    lead_refused X Y (part Y ∷ syms) syms (with_part Y syms) ts rest (part_leads X Y syms _ g) a

-- a part that may be left out: it is there, and what is behind it is read, or refused; or the part is refused
pub opt : {X Y : Part} {syms : List Sym} {ts : List Token} {v : Val Y} {mid : List Token} {vs : Vals syms} {rest : List Token} → good X (perhaps Y ∷ syms) ≡ true →
    IsBegun Y ts → Reads Y ts v mid → Takes X syms mid vs rest → Takes X (perhaps Y ∷ syms) ts (Some v, vs) rest
opt {X = X} {Y = Y} {syms = syms} {ts = ts} {v = v} {mid = mid} {vs = vs} {rest = rest} g w a b =
    lead_taken X Y (perhaps Y ∷ syms) syms (with_it Y syms) ts v mid vs rest (perhaps_leads X Y syms _ g w) a b

pub opt_no : {X Y : Part} {syms : List Sym} {ts : List Token} {v : Val Y} {mid rest : List Token} → good X (perhaps Y ∷ syms) ≡ true →
    IsBegun Y ts → Reads Y ts v mid → BreaksAt X syms mid rest → BreaksAt X (perhaps Y ∷ syms) ts rest
opt_no {X = X} {Y = Y} {syms = syms} {ts = ts} {v = v} {mid = mid} {rest = rest} g w a b =
    lead_then_refused X Y (perhaps Y ∷ syms) syms (with_it Y syms) ts v mid rest (perhaps_leads X Y syms _ g w) a b

pub opt_bad : {X Y : Part} {syms : List Sym} {ts rest : List Token} → good X (perhaps Y ∷ syms) ≡ true →
    IsBegun Y ts → Unfit Y ts rest → BreaksAt X (perhaps Y ∷ syms) ts rest
opt_bad {X = X} {Y = Y} {syms = syms} {ts = ts} {rest = rest} g w a =
    lead_refused X Y (perhaps Y ∷ syms) syms (with_it Y syms) ts rest (perhaps_leads X Y syms _ g w) a

-- it is left out, and what is behind it is read, or refused
pub out : {X Y : Part} {syms : List Sym} {ts : List Token} {vs : Vals syms} {rest : List Token} → good X (perhaps Y ∷ syms) ≡ true →
    (IsBegun Y ts → ⊥) → Takes X syms ts vs rest → Takes X (perhaps Y ∷ syms) ts (None, vs) rest
out {X = X} {Y = Y} {syms = syms} {ts = ts} {vs = vs} {rest = rest} g w b =
    skip_taken X (perhaps Y ∷ syms) syms (without_it Y syms) ts vs rest (perhaps_skips X Y syms _ g w) b

pub out_no : {X Y : Part} {syms : List Sym} {ts rest : List Token} → good X (perhaps Y ∷ syms) ≡ true →
    (IsBegun Y ts → ⊥) → BreaksAt X syms ts rest → BreaksAt X (perhaps Y ∷ syms) ts rest
out_no {X = X} {Y = Y} {syms = syms} {ts = ts} {rest = rest} g w b =
    skip_refused X (perhaps Y ∷ syms) syms (without_it Y syms) ts rest (perhaps_skips X Y syms _ g w) b

-- the same, of a function that reads the part or leaves it out
pub maybe : {X Y : Part} {syms : List Sym} {ts : List Token} (v : Option (Val Y)) {mid : List Token} {vs : Vals syms} {rest : List Token} → good X (perhaps Y ∷ syms) ≡ true →
    ReadsOptional Y ts v mid → Takes X syms mid vs rest → Takes X (perhaps Y ∷ syms) ts (v, vs) rest
maybe (Some v) g a b = opt g a.0 a.1 b
maybe {X = X} {Y = Y} {syms = syms} {ts = ts} None {vs = vs} {rest = rest} g a b =
    let P : List Token → Type 0 = λ u. Takes X syms u vs rest in
    out g a.0 (subst P a.1 b)

pub maybe_no : {X Y : Part} {syms : List Sym} {ts : List Token} (v : Option (Val Y)) {mid rest : List Token} → good X (perhaps Y ∷ syms) ≡ true →
    ReadsOptional Y ts v mid → BreaksAt X syms mid rest → BreaksAt X (perhaps Y ∷ syms) ts rest
maybe_no (Some v) g a b = opt_no g a.0 a.1 b
maybe_no {X = X} {Y = Y} {syms = syms} {ts = ts} None {rest = rest} g a b =
    let P : List Token → Type 0 = λ u. BreaksAt X syms u rest in
    out_no g a.0 (subst P a.1 b)

pub maybe_bad : {X Y : Part} {syms : List Sym} {ts rest : List Token} → good X (perhaps Y ∷ syms) ≡ true → UnfitOptional Y ts rest → BreaksAt X (perhaps Y ∷ syms) ts rest
maybe_bad g a = opt_bad g a.0 a.1

-- a part is read by its production, or refused by it
pub rule : {X : Part} {p : Rule X} {ts : List Token} {vs : Vals p.syms} {rest : List Token} (i : ℕ) → slice_get (rules X) i ≡ Some p → Alone X p (ahead ts) →
    Takes X p.syms ts vs rest → Reads X ts (p.meaning vs) rest
rule i e l r = rule_taken _ i _ _ _ _ e l r

pub rule_no : {X : Part} {p : Rule X} {ts rest : List Token} (i : ℕ) → slice_get (rules X) i ≡ Some p → Alone X p (ahead ts) →
    BreaksAt X p.syms ts rest → Unfit X ts rest
rule_no i e l r = rule_refused _ i _ _ _ e l r

-- by its only production
pub sole : {X : Part} {p : Rule X} {ts : List Token} {vs : Vals p.syms} {rest : List Token} → rules X ≡ p ∷ [] → Takes X p.syms ts vs rest → Reads X ts (p.meaning vs) rest
sole {X = X} {p = p} {ts = ts} e r = rule_taken X 0 p ts _ _ (ap (λ (ps : List (Rule X)). slice_get ps 0) e) (only_one X p (ahead ts) e) r

pub sole_no : {X : Part} {p : Rule X} {ts rest : List Token} → rules X ≡ p ∷ [] → BreaksAt X p.syms ts rest → Unfit X ts rest
sole_no {X = X} {p = p} {ts = ts} e r = rule_refused X 0 p ts _ (ap (λ (ps : List (Rule X)). slice_get ps 0) e) (only_one X p (ahead ts) e) r

-- no production begins with what is ahead
pub none : {X : Part} {ts rest : List Token} → rest ≡ ts → (IsBegun X ts → ⊥) → Unfit X ts rest
none {X = X} {ts = ts} e w =
    let P : List Token → Type 0 = λ u. Unfit X ts u in
    subst P (sym e) (no_rule X ts w)

-- the production is the only one: it begins with the kind that is ahead, or none of the others does
pub led : {X : Part} {p : Rule X} (ts : List Token) {k : Kind} (i : ℕ) → slice_get (rules X) i ≡ Some p → subset (kind_numbers k) (look X p.syms) ≡ true → first ts ≡ k → Alone X p (ahead ts)
led {X = X} {p = p} ts i e l f = by_first X i p _ e (is_in ts (look X p.syms) f l)

pub led_by : {X : Part} {p : Rule X} {ts : List Token} {t : Token} {k : Kind} {more : List Token} (i : ℕ) → slice_get (rules X) i ≡ Some p → subset (kind_numbers k) (look X p.syms) ≡ true → Begins ts t k more → Alone X p (ahead ts)
led_by {ts = ts} i e l b = led ts i e l (ap first b.0 ∙ b.1)

pub others : {X : Part} {p : Rule X} (ts : List Token) (i : ℕ) → slice_get (rules X) i ≡ Some p → Others X (ahead ts) (rules X) i → Alone X p (ahead ts)
others {X = X} {p = p} ts i e o = by_others X i p _ e o

-- the same value
pub as_value : {X : Part} {ts : List Token} {v w : Val X} {rest : List Token} → w ≡ v → Reads X ts v rest → Reads X ts w rest
as_value {X = X} {ts = ts} {rest = rest} e r = subst (λ (u : Val X). Reads X ts u rest) (sym e) r

-- the production begins with a token of the sort that is ahead
pub led_sort : {X : Part} {p : Rule X} {ts : List Token} {t : Token} {more : List Token} (s : Sort) (i : ℕ) → slice_get (rules X) i ≡ Some p → subset (sort_numbers s) (look X p.syms) ≡ true → ts ≡ t ∷ more → Fits s t.what → Alone X p (ahead ts)
led_sort {X = X} {p = p} {ts = ts} {t = t} s i e l b f =
    let at : within (ahead ts) (sort_numbers s) ≡ true = subst (λ (u : List Token). within (ahead u) (sort_numbers s) ≡ true) (sym b) (fits_number s t.what f) in
    by_first X i p _ e (within_subset (sort_numbers s) (look X p.syms) (ahead ts) l at)
