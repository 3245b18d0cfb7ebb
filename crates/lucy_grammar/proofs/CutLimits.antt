-- What is known of each token of a text without a fault: no limit is passed, and no list has an entry too many.
use Rattle.std.proofs.Common.{◌≡◌, ℕ, false, List, [], ◌∷◌, take, None, refl, sym, ◌∙◌, subst}
use Rattle.lucy_token.specs.declared.token.Kind.{Kind}
use Rattle.lucy_token.specs.declared.token.Token as token_type
use Rattle.lucy_token.specs.declared.stop.Stop.{Stop}
use Rattle.lucy_token.specs.declared.stop.Stop.TheVariants.{End}
use Rattle.lucy_token.specs.Tokens.{kind_of}
use Rattle.lucy_token.specs.Before.{nearest}
use Rattle.lucy_token.specs.States.{ScanState, after, limit_passed, is_past_last, state_of}
use Rattle.lucy_token.specs.Cuts.{Cuts}
use Rattle.lucy_token.specs.Scans.{Scans, ends, gap, bad, passed, past_last, malformed, token}
use Rattle.lucy_token.proofs.ScanLaws.{scan_of}
use Rattle.lucy_token.proofs.ContentLaws.{contains_kind}
use Rattle.lucy_token.proofs.StateLaws.{limit_same, entry_past_same}

-- each token may stand where it stands, by the limits
abbrev pub AllPass : ScanState → List token_type.Token → Type 0
AllPass s [] = Unit {0}
AllPass s (t ∷ ts) = (limit_passed s (kind_of t.what) ≡ None) × (is_past_last s (kind_of t.what) ≡ false) × AllPass (after s (kind_of t.what)) ts

all_pass : {from : ℕ} {ks : List Kind} {text : List ℕ} {ts : List token_type.Token} {stop : Stop} → Scans from ks text ts stop → (to : ℕ) → stop ≡ End to → AllPass (state_of ks) ts
all_pass ends to e = tt
all_pass (gap h f q) to e = all_pass q to e
all_pass (bad h f) to e = cc
all_pass (passed h f l) to e = cc
all_pass (past_last h f l p) to e = cc
all_pass (malformed h f l p m) to e = cc
all_pass {from} {ks} {text} (token {n = n} {k = k} {w = w} {ts = ts} h f l p c q) to e =
    let same : kind_of w ≡ k = contains_kind (nearest ks) k (take n text) w c in
    let P : Kind → Type 0 = λ j. (limit_passed (state_of ks) j ≡ None) × (is_past_last (state_of ks) j ≡ false) × AllPass (after (state_of ks) j) ts in
    subst P (sym same) (limit_same ks k ∙ l, entry_past_same ks k ∙ p, all_pass q to e)

pub tokens_pass : {from to : ℕ} {ks : List Kind} {text : List ℕ} {ts : List token_type.Token} → Cuts from ks text ts (End to) → AllPass (state_of ks) ts
tokens_pass {to = to} q = all_pass (scan_of q) to refl
