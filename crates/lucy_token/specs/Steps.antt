-- What the scanner's pieces answer: one step in the cutting of a text.
use Rattle.std.specs.Prelude.{ℕ, ◌≤◌, ◌≡◌, false, List, [], ◌∷◌, ◌++◌, take, None, Result, Ok, Err, if◌then◌else◌}
use Rattle.std.specs.Str.Parse.{IsNumeral, without_leading_sign}
use Rattle.lucy_token.specs.declared.token.Kind.{Kind}
use Rattle.lucy_token.specs.declared.token.Kind.TheVariants as kind
use Rattle.lucy_token.specs.declared.token.What.{What}
use Rattle.lucy_token.specs.declared.token.Token as token_type
use Rattle.lucy_token.specs.declared.front.Front.{Front}
use Rattle.lucy_token.specs.declared.front.Front.TheVariants as front
use Rattle.lucy_token.specs.declared.scan.Step.{Step}
use Rattle.lucy_token.specs.declared.scan.Step.TheVariants.{Gap, Token, Last, Stopped}
use Rattle.lucy_token.specs.declared.stop.Stop.{Stop}
use Rattle.lucy_token.specs.declared.stop.Stop.TheVariants.{Fault}
use Rattle.lucy_token.specs.declared.stop.SyntaxError.{SyntaxError}
use Rattle.lucy_token.specs.declared.state.Level.{Level}
use Rattle.lucy_token.specs.Before.{nearest, wants_word, limit_at, is_entry_past}
use Rattle.lucy_token.specs.States.{ScanState, begins_operand}
use Rattle.lucy_token.specs.Fronts.{begins_gap, gap_of, plain_front}
use Rattle.lucy_token.specs.Scans.{word_front, scanned_front, IsMalformed, Scans}
use Rattle.lucy_token.specs.Contents.{Contains}
use Rattle.lucy_token.specs.Cuts.{token_at}

-- what stands at the front of a text, by the scanner's state
abbrev pub front_in : ScanState → List ℕ → Front
front_in s text = if begins_gap text then gap_of text else if wants_word s.before then word_front text else plain_front (begins_operand s) text

-- bytes that the front of a text can give as a token of the kind
abbrev pub IsTokenOf : Kind → List ℕ → Type 0
IsTokenOf kind.End bytes = ⊥
IsTokenOf kind.Number bytes = IsNumeral 10 (without_leading_sign bytes)
IsTokenOf k bytes = Unit {0}

-- what the bytes stand for, or why they are malformed
abbrev pub IsContent : Kind → Kind → List ℕ → ℕ → Result What SyntaxError → Type 0
IsContent before k bytes from (Ok w) = Contains before k bytes w
IsContent before k bytes from (Err e) = IsMalformed before k bytes from e

-- the front of the text, which begins at an offset behind tokens of these kinds, is this token, which may stand there
pub record IsReadToken (from : ℕ) (ks : List Kind) (text : List ℕ) (t : token_type.Token) (k : Kind) (n : ℕ) : Type 0 where
  pub front : scanned_front ks text ≡ front.Token k n
  pub passes : limit_at ks k ≡ None
  pub in_list : is_entry_past ks k ≡ false
  pub stands_for : Contains (nearest ks) k (take n text) t.what
  pub placed : t ≡ token_at t.what from n

-- bytes between tokens; a token, after which the cutting goes on; one after which it stops; or why it stops here
abbrev pub IsScanStep : ℕ → List Kind → List ℕ → Step → Type 0
IsScanStep from ks text (Gap n) = scanned_front ks text ≡ front.Gap n
IsScanStep from ks text (Token t k n) = IsReadToken from ks text t k n
IsScanStep from ks text (Last t e) = Scans from ks text (t ∷ []) (Fault e)
IsScanStep from ks text (Stopped e) = Scans from ks text [] (Fault e)

-- Bytes that were passed stay passed: what cuts the rest cuts the whole, with these tokens before.
abbrev pub CutsSoFar : List ℕ → List token_type.Token → ℕ → List Kind → List ℕ → Type 0
CutsSoFar text ts from ks rest = (more : List token_type.Token) (stop : Stop) → Scans from ks rest more stop → Scans 0 [] text (ts ++ more) stop

-- none of these levels has more commas than so many
abbrev pub FewCommas : ℕ → List Level → Type 0
FewCommas n [] = Unit {0}
FewCommas n (l ∷ ls) = (l.commas ≤ n) × FewCommas n ls

-- nothing is counted further than to so many
pub record IsBounded (n : ℕ) (s : ScanState) : Type 0 where
  pub counted : s.counted ≤ n
  pub nodes : s.nodes ≤ n
  pub commas : FewCommas n (s.level ∷ s.outer)
