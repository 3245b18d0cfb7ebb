-- Bytes have one content, or are malformed.
use Rattle.std.proofs.Common.{◌≡◌, ℕ, List, ap, sym, ◌∙◌, arith}
use Rattle.lucy_token.specs.declared.token.Kind.{Kind}
use Rattle.lucy_token.specs.declared.token.Kind.TheVariants as kind
use Rattle.lucy_token.specs.declared.token.What.{What}
use Rattle.lucy_token.specs.declared.token.What.TheVariants as what
use Rattle.lucy_token.specs.declared.stop.SyntaxError.{SyntaxError}
use Rattle.lucy_token.specs.Tokens.{kind_of}
use Rattle.lucy_token.specs.Contents.{Contains}
use Rattle.lucy_token.specs.Scans.{IsMalformed}
use Rattle.lucy_token.proofs.WordLaws.{readable_one}

pub contains_one : (before k : Kind) (bytes : List ℕ) (v w : What) → Contains before k bytes v → Contains before k bytes w → v ≡ w
contains_one before (kind.Mark m) bytes v w h i = h ∙ sym i
contains_one before kind.Name bytes v w h i = h.1 ∙ sym i.1
contains_one before kind.Number bytes v w h i = h.1 ∙ sym i.1
contains_one before kind.Word bytes v w h i = h.2 ∙ ap (λ u. what.Word u) (readable_one bytes h.0 i.0 h.1.0 i.1.0) ∙ sym i.2
contains_one before kind.End bytes v w h i = absurd h

pub malformed_one : (before k : Kind) (bytes : List ℕ) (from : ℕ) (e f : SyntaxError) → IsMalformed before k bytes from e → IsMalformed before k bytes from f → e ≡ f
malformed_one before (kind.Mark m) bytes from e f h i = absurd h
malformed_one before kind.Name bytes from e f h i = h.1 ∙ sym i.1
malformed_one before kind.Number bytes from e f h i = h.1 ∙ sym i.1
malformed_one before kind.Word bytes from e f h i = h.1 ∙ sym i.1
malformed_one before kind.End bytes from e f h i = absurd h

pub contains_or_malformed : (before k : Kind) (bytes : List ℕ) (from : ℕ) (w : What) (e : SyntaxError) → Contains before k bytes w → IsMalformed before k bytes from e → ⊥
contains_or_malformed before (kind.Mark m) bytes from w e h i = i
contains_or_malformed before kind.Name bytes from w e h i = omega (arith, h.0, i.0)
contains_or_malformed before kind.Number bytes from w e h i = i.0 h.0
contains_or_malformed before kind.Word bytes from w e h i = i.0 h.0 h.1
contains_or_malformed before kind.End bytes from w e h i = h

pub contains_kind : (before k : Kind) (bytes : List ℕ) (w : What) → Contains before k bytes w → kind_of w ≡ k
contains_kind before (kind.Mark m) bytes w h = ap kind_of h
contains_kind before kind.Name bytes w h = ap kind_of h.1
contains_kind before kind.Number bytes w h = ap kind_of h.1
contains_kind before kind.Word bytes w h = ap kind_of h.2
contains_kind before kind.End bytes w h = absurd h
