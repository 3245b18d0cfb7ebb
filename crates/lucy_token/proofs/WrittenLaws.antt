-- What is known of the tokens of a text that is cut up to its end, and where they stand.
use Rattle.std.proofs.Common.{◌≡◌, ℕ, zero, suc, ◌+◌, ◌<◌, ◌≤◌, Bool, true, List, [], ◌∷◌, length, drop, take, get_or, Option, Some, None, refl, ap, sym, ◌∙◌, subst, arith, length-drop}
use Rattle.std.specs.Option.{option_map_or}
use Rattle.std.specs.List.{prefix_len, AllPass}
use Rattle.std.specs.Str.{bytes_eq}
use Rattle.std.proofs.lemmas.Bool.{cond_both, or_left}
use Rattle.std.proofs.lemmas.List.{get_or-take, length-take-le}
use Rattle.std.proofs.lemmas.List.Sums.{prefix_len-le-length, prefix_len_passes}
use Rattle.lucy_word.specs.Stages.{is_decimal}
use Rattle.lucy_fields.specs.Fields.{is_blank}
use Rattle.lucy_token.specs.declared.mark.Mark.{Mark}
use Rattle.lucy_token.specs.declared.token.Kind.{Kind}
use Rattle.lucy_token.specs.declared.token.Kind.TheVariants as kind
use Rattle.lucy_token.specs.declared.token.What.{What}
use Rattle.lucy_token.specs.declared.token.Token as token_type
use Rattle.lucy_token.specs.declared.front.Front.{Front}
use Rattle.lucy_token.specs.declared.front.Front.TheVariants.{Gap, Token, Bad}
use Rattle.lucy_token.specs.declared.stop.Stop.{Stop}
use Rattle.lucy_token.specs.declared.stop.Stop.TheVariants.{End}
use Rattle.lucy_token.specs.Marks.{spelling, keywords, signs}
use Rattle.lucy_token.specs.Before.{nearest, wants_word, operand_begins}
use Rattle.lucy_token.specs.Fronts.{head, begins_gap, gap_of, close_of, plain_front, token_front, minus_of, is_letter, is_name_byte, sign_in, named_in}
use Rattle.lucy_token.specs.Scans.{word_front, scanned_front, Scans, ends, gap, bad, passed, past_last, malformed, token}
use Rattle.lucy_token.specs.Contents.{Contains}
use Rattle.lucy_token.specs.Written.{IsNameText, IsWritten, AreWritten, InOrder}
use Rattle.lucy_token.proofs.ContentLaws.{contains_kind}
use Rattle.lucy_token.proofs.WordFronts.{IsBetween, front_is}
use Rattle.lucy_token.proofs.FrontLaws.{IsFront, of_front, prefix_some}
use Rattle.lucy_token.specs.Cuts.{Cuts}
use Rattle.lucy_token.proofs.ScanLaws.{scan_of}

-- the shape of a name
record IsName (bytes : List ℕ) : Type 0 where
  some : 0 < length bytes
  begins : is_letter (head bytes) ≡ true
  name_bytes : AllPass is_name_byte bytes
  no_keyword : named_in keywords bytes ≡ kind.Name

-- what the kind of a token tells, behind one of another kind
abbrev Tells : Kind → List ℕ → Kind → Type 0
Tells before bytes kind.Name = IsName bytes
Tells before bytes kind.Word = wants_word before ≡ true
Tells before bytes k = Unit {0}

abbrev FrontTells : Kind → List ℕ → Front → Type 0
FrontTells before text (Token k n) = Tells before (take n text) k
FrontTells before text f = Unit {0}

gap_tells : (before : Kind) (text : List ℕ) → FrontTells before text (gap_of text)
unfolding gap_of
gap_tells before text = cond_both (is_blank (head text)) (Gap 1) (option_map_or (λ n. Gap (n + 2)) (close_of (drop 2 text)) (Bad 0)) (FrontTells before text) (λ e. tt) (λ e. of_close (close_of (drop 2 text)))
  where
    of_close : (o : Option ℕ) → FrontTells before text (option_map_or (λ n. Gap (n + 2)) o (Bad 0))
    of_close None = tt
    of_close (Some n) = tt

word_front_tells : (before : Kind) (text : List ℕ) → wants_word before ≡ true → FrontTells before text (word_front text)
word_front_tells before text h = go (word_front text) (front_is text)
  where
    go : (f : Front) → IsBetween 1 (length text) f → FrontTells before text f
    go (Gap n) k = absurd k
    go (Token t n) k = subst (λ (u : Kind). Tells before (take n text) u) (sym k.0) h
    go (Bad n) k = tt

sign_tells : (before : Kind) (ms : List Mark) (text : List ℕ) → FrontTells before text (sign_in ms text)
sign_tells before [] text = tt
sign_tells before (m ∷ ms) text = cond_both (bytes_eq (take (length (spelling m)) text) (spelling m)) (Token (kind.Mark m) (length (spelling m))) (sign_in ms text) (FrontTells before text) (λ e. tt) (λ e. sign_tells before ms text)

-- a name or a keyword
named_tells : (before : Kind) (ms : List Mark) (bytes : List ℕ) → (named_in ms bytes ≡ kind.Name → IsName bytes) → Tells before bytes (named_in ms bytes)
named_tells before [] bytes = λ h. h refl
named_tells before (m ∷ ms) bytes =
    cond_both (bytes_eq bytes (spelling m)) (kind.Mark m) (named_in ms bytes) (λ k. (k ≡ kind.Name → IsName bytes) → Tells before bytes k) (λ e h. tt) (λ e h. named_tells before ms bytes h)

head-take : (n : ℕ) (text : List ℕ) → 0 < n → head (take n text) ≡ head text
head-take zero text h = absurd (omega (arith, h))
head-take (suc n) [] h = refl
head-take (suc n) (c ∷ text) h = refl

passes : (text : List ℕ) (k d : ℕ) → k < length (take (prefix_len is_name_byte text) text) → is_name_byte (get_or (take (prefix_len is_name_byte text) text) k d) ≡ true
passes text k d h =
    let n : ℕ = prefix_len is_name_byte text in
    let l : length (take n text) ≡ n = length-take-le n text (prefix_len-le-length is_name_byte text) in
    ap is_name_byte (get_or-take n text k d (omega arith)) ∙ prefix_len_passes is_name_byte text k d (omega arith)

is_name : (text : List ℕ) → is_letter (head text) ≡ true → named_in keywords (take (prefix_len is_name_byte text) text) ≡ kind.Name → IsName (take (prefix_len is_name_byte text) text)
is_name text h e =
    let n : ℕ = prefix_len is_name_byte text in
    let some : 0 < n = prefix_some is_name_byte text refl (or_left _ (is_decimal (head text)) h) in
    record {
      some = omega (arith, length-take-le n text (prefix_len-le-length is_name_byte text));
      begins = ap is_letter (head-take n text some) ∙ h;
      name_bytes = λ k d l. passes text k d l;
      no_keyword = e;
    }

plain_tells : (before : Kind) (operand : Bool) (text : List ℕ) → FrontTells before text (plain_front operand text)
unfolding plain_front
plain_tells before operand text =
    cond_both (is_letter (head text)) (Token (named_in keywords (take (prefix_len is_name_byte text) text)) (prefix_len is_name_byte text)) _ (FrontTells before text)
    (λ e. named_tells before keywords (take (prefix_len is_name_byte text) text) (is_name text e))
    (λ e. cond_both (is_decimal (head (drop (minus_of operand text) text))) (Token kind.Number _) (sign_in signs text) (FrontTells before text) (λ f. tt) (λ f. sign_tells before signs text))

front_tells : (ks : List Kind) (text : List ℕ) → FrontTells (nearest ks) text (scanned_front ks text)
unfolding token_front
front_tells ks text =
    cond_both (begins_gap text) (gap_of text) _ (FrontTells (nearest ks) text) (λ e. gap_tells (nearest ks) text)
    (λ e. cond_both (wants_word (nearest ks)) (word_front text) (plain_front (operand_begins ks) text) (FrontTells (nearest ks) text) (λ f. word_front_tells (nearest ks) text f) (λ f. plain_tells (nearest ks) (operand_begins ks) text))

is_written : (before k : Kind) (bytes : List ℕ) (w : What) → Tells before bytes k → Contains before k bytes w → IsWritten before w
is_written before (kind.Mark m) bytes w t c = subst (IsWritten before) (sym c) tt
is_written before kind.Name bytes w t c = subst (IsWritten before) (sym c.1) (let r : IsNameText bytes = record { some = t.some; short = c.0; begins = t.begins; name_bytes = t.name_bytes; no_keyword = t.no_keyword } in r)
is_written before kind.Number bytes w t c = subst (IsWritten before) (sym c.1) c.0
is_written before kind.Word bytes w t c = subst (IsWritten before) (sym c.2) (t, (bytes, c.1))
is_written before kind.End bytes w t c = absurd c

are_written : {from : ℕ} {ks : List Kind} {text : List ℕ} {ts : List token_type.Token} {stop : Stop} → Scans from ks text ts stop → (to : ℕ) → stop ≡ End to → AreWritten (nearest ks) ts
are_written ends to e = tt
are_written (gap h f q) to e = are_written q to e
are_written (bad h f) to e = cc
are_written (passed h f l) to e = cc
are_written (past_last h f l p) to e = cc
are_written (malformed h f l p m) to e = cc
are_written {from} {ks} {text} (token {n = n} {k = k} {w = w} {ts = ts} h f l p c q) to e =
    let P : Front → Type 0 = FrontTells (nearest ks) text in
    let Q : Kind → Type 0 = λ b. AreWritten b ts in
    (is_written (nearest ks) k (take n text) w (subst P f (front_tells ks text)) c, subst Q (sym (contains_kind (nearest ks) k (take n text) w c)) (are_written q to e))

-- each token of a text without a fault is as it may be written
pub tokens_written : {from to : ℕ} {ks : List Kind} {text : List ℕ} {ts : List token_type.Token} → Cuts from ks text ts (End to) → AreWritten (nearest ks) ts
tokens_written {to = to} q = are_written (scan_of q) to refl

-- spans may begin earlier and end later
earlier : (a b : ℕ) (ts : List token_type.Token) (to : ℕ) → a ≤ b → InOrder b ts to → InOrder a ts to
earlier a b [] to h r = omega (arith, r)
earlier a b (t ∷ ts) to h r = (omega (arith, r.0), r.1, r.2)

-- the spans of tokens rise within the text
scan_rises : {from : ℕ} {ks : List Kind} {text : List ℕ} {ts : List token_type.Token} {stop : Stop} → Scans from ks text ts stop → InOrder from ts (from + length text)
scan_rises ends = omega arith
scan_rises {from} {ks} {text} {ts} (gap {n = n} h e q) =
    let f : IsFront text (Gap n) = of_front ks text (Gap n) h (sym e) in
    let P : ℕ → Type 0 = λ to. InOrder from ts to in
    subst P (let same : from + n + length (drop n text) ≡ from + length text = omega (arith, f.1, length-drop n text) in same) (earlier from (from + n) ts _ (omega arith) (scan_rises q))
scan_rises (bad h e) = omega arith
scan_rises (passed h e l) = omega arith
scan_rises {from} {ks} {text} (past_last {n = n} {k = k} h e l p) =
    let f : IsFront text (Token k n) = of_front ks text (Token k n) h (sym e) in
    (omega arith, omega (arith, f.0), omega (arith, f.1))
scan_rises (malformed h e l p m) = omega arith
scan_rises {from} {ks} {text} (token {n = n} {k = k} {ts = ts} h e l p c q) =
    let f : IsFront text (Token k n) = of_front ks text (Token k n) h (sym e) in
    let P : ℕ → Type 0 = λ to. InOrder (from + n) ts to in
    (omega arith, omega (arith, f.0), subst P (let same : from + n + length (drop n text) ≡ from + length text = omega (arith, f.1, length-drop n text) in same) (scan_rises q))

pub spans_rise : {from : ℕ} {ks : List Kind} {text : List ℕ} {ts : List token_type.Token} {stop : Stop} → Cuts from ks text ts stop → InOrder from ts (from + length text)
spans_rise q = scan_rises (scan_of q)

end_is : {from : ℕ} {ks : List Kind} {text : List ℕ} {ts : List token_type.Token} {stop : Stop} → Scans from ks text ts stop → (to : ℕ) → stop ≡ End to → to ≡ from + length text
end_is {from} ends to e = let same : from ≡ to = cc in omega (arith, same)
end_is {from} {ks} {text} (gap {n = n} h f q) to e =
    let g : IsFront text (Gap n) = of_front ks text (Gap n) h (sym f) in
    omega (arith, end_is q to e, g.1, length-drop n text)
end_is (bad h f) to e = cc
end_is (passed h f l) to e = cc
end_is (past_last h f l p) to e = cc
end_is (malformed h f l p m) to e = cc
end_is {from} {ks} {text} (token {n = n} {k = k} h f l p c q) to e =
    let g : IsFront text (Token k n) = of_front ks text (Token k n) h (sym f) in
    omega (arith, end_is q to e, g.1, length-drop n text)

-- the end is that of the text
pub end_of_text : {from to : ℕ} {ks : List Kind} {text : List ℕ} {ts : List token_type.Token} → Cuts from ks text ts (End to) → to ≡ from + length text
end_of_text {to = to} q = end_is (scan_of q) to refl
