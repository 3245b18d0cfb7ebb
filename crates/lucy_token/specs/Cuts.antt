-- A text cut into tokens, up to its end or to the first fault.
use Rattle.std.specs.Prelude.{ℕ, ◌+◌, ◌≡◌, true, false, List, [], ◌∷◌, take, drop, Some, None}
use Rattle.lucy_word.specs.declared.limit.Limit.{Limit}
use Rattle.lucy_word.specs.declared.limit.Limit.TheVariants as limit
use Rattle.lucy_token.specs.declared.token.Kind.{Kind}
use Rattle.lucy_token.specs.declared.token.What.{What}
use Rattle.lucy_token.specs.declared.token.Token as token_type
use Rattle.lucy_token.specs.declared.front.Front.TheVariants.{Gap, Token, Bad}
use Rattle.lucy_token.specs.declared.stop.Stop.{Stop}
use Rattle.lucy_token.specs.declared.stop.Stop.TheVariants.{End, Fault}
use Rattle.lucy_token.specs.declared.stop.SyntaxError.{SyntaxError}
use Rattle.lucy_token.specs.declared.stop.SyntaxError.TheVariants.{Unexpected, TooLarge}
use Rattle.lucy_token.specs.Before.{nearest, limit_at, is_entry_past}
use Rattle.lucy_token.specs.Fronts.{HasFront}
use Rattle.lucy_token.specs.Contents.{Contains, token_fault, unread}

-- a token of so many bytes
abbrev pub token_at : What → ℕ → ℕ → token_type.Token
token_at w from n = record { what = w; span = record { from = from; to = from + n } }

-- The text, which begins at an offset behind tokens of these kinds, is these tokens up to this stop. At one token the limits come first: of
-- open parentheses, of a definition's tokens, of nodes, and of entries in a list, where the token is still handed on, since
-- only one that may begin an entry passes the limit. Then comes what is malformed.
pub data Cuts : ℕ → List Kind → List ℕ → List token_type.Token → Stop → Type 0 where
  ends : {from : ℕ} {ks : List Kind} → Cuts from ks [] [] (End from)
  gap : {from n : ℕ} {ks : List Kind} {text : List ℕ} {ts : List token_type.Token} {stop : Stop} → HasFront ks text (Gap n) →
      Cuts (from + n) ks (drop n text) ts stop → Cuts from ks text ts stop
  bad : {from n : ℕ} {ks : List Kind} {text : List ℕ} → HasFront ks text (Bad n) → Cuts from ks text [] (Fault (Unexpected (from + n)))
  passed : {from n : ℕ} {ks : List Kind} {text : List ℕ} {k : Kind} {l : Limit} → HasFront ks text (Token k n) →
      limit_at ks k ≡ Some l → Cuts from ks text [] (Fault (TooLarge l))
  past_last : {from n : ℕ} {ks : List Kind} {text : List ℕ} {k : Kind} → HasFront ks text (Token k n) →
      limit_at ks k ≡ None → is_entry_past ks k ≡ true → Cuts from ks text (token_at (unread k (take n text)) from n ∷ []) (Fault (TooLarge limit.Names))
  malformed : {from n : ℕ} {ks : List Kind} {text : List ℕ} {k : Kind} → HasFront ks text (Token k n) →
      limit_at ks k ≡ None → is_entry_past ks k ≡ false → ((w : What) → Contains (nearest ks) k (take n text) w → ⊥) → Cuts from ks text [] (Fault (token_fault k from))
  token : {from n : ℕ} {ks : List Kind} {text : List ℕ} {k : Kind} {w : What} {ts : List token_type.Token} {stop : Stop} → HasFront ks text (Token k n) →
      limit_at ks k ≡ None → is_entry_past ks k ≡ false → Contains (nearest ks) k (take n text) w →
      Cuts (from + n) (k ∷ ks) (drop n text) ts stop → Cuts from ks text (token_at w from n ∷ ts) stop
