-- One step on in the cutting of a text.
use Rattle.std.proofs.Common.{◌≡◌, ℕ, ◌+◌, ◌<◌, ◌≤◌, false, List, [], ◌∷◌, ◌++◌, length, drop, take, None, Ok, Err, refl, ap, sym, ◌∙◌, subst, arith, append_assoc, length-drop}
use Rattle.std.proofs.lemmas.List.{append-nil, drop-drop, drop_all}
use Rattle.lucy_token.specs.declared.token.Kind.{Kind}
use Rattle.lucy_token.specs.declared.token.What.{What}
use Rattle.lucy_token.specs.declared.token.Token as token_type
use Rattle.lucy_token.specs.declared.front.Front.TheVariants.{Gap, Token}
use Rattle.lucy_token.specs.declared.scan.Step.{Step}
use Rattle.lucy_token.specs.declared.stop.Stop.TheVariants.{End, Fault}
use Rattle.lucy_token.specs.declared.stop.SyntaxError.{SyntaxError}
use Rattle.lucy_token.specs.Before.{nearest, limit_at, is_entry_past}
use Rattle.lucy_token.specs.Contents.{Contains}
use Rattle.lucy_token.specs.Scans.{IsMalformed, scanned_front, Scans, ends, gap, malformed, token}
use Rattle.lucy_token.specs.Cuts.{token_at}
use Rattle.lucy_token.proofs.FrontLaws.{IsFront, of_front}
use Rattle.lucy_token.specs.Steps.{IsReadToken, IsScanStep, IsContent, CutsSoFar}
use Rattle.lucy_token.specs.Cuts.{Cuts}
use Rattle.lucy_token.proofs.ScanLaws.{cut_of}

pub passed_gap : (text : List ℕ) (ts : List token_type.Token) (from : ℕ) (ks : List Kind) (n : ℕ) → CutsSoFar text ts from ks (drop from text) → 0 < length (drop from text) →
    scanned_front ks (drop from text) ≡ Gap n → CutsSoFar text ts (from + n) ks (drop (from + n) text)
passed_gap text ts from ks n so_far some e more stop q =
    let P : List ℕ → Type 0 = λ u. Scans (from + n) ks u more stop in
    so_far more stop (gap some e (subst P (sym (drop-drop n from text)) q))

pub passed_token : (text : List ℕ) (ts new : List token_type.Token) (from : ℕ) (ks : List Kind) (t : token_type.Token) (k : Kind) (n : ℕ) → CutsSoFar text ts from ks (drop from text) → 0 < length (drop from text) →
    IsReadToken from ks (drop from text) t k n → new ≡ ts ++ t ∷ [] → CutsSoFar text new (from + n) (k ∷ ks) (drop (from + n) text)
passed_token text ts new from ks t k n so_far some r added more stop q =
    let P : List ℕ → Type 0 = λ u. Scans (from + n) (k ∷ ks) u more stop in
    let Q : List token_type.Token → Type 0 = λ u. Scans 0 [] text u stop in
    let R : token_type.Token → Type 0 = λ u. Scans from ks (drop from text) (u ∷ more) stop in
    subst Q (sym (ap (λ u. u ++ more) added ∙ append_assoc ts (t ∷ []) more))
    (so_far (t ∷ more) stop (subst R (sym r.placed) (token some r.front r.passes r.in_list r.stands_for (subst P (sym (drop-drop n from text)) q))))

pub passed_last : (text : List ℕ) (ts new : List token_type.Token) (from : ℕ) (ks : List Kind) (t : token_type.Token) (e : SyntaxError) → CutsSoFar text ts from ks (drop from text) →
    Scans from ks (drop from text) (t ∷ []) (Fault e) → new ≡ ts ++ t ∷ [] → Cuts 0 [] text new (Fault e)
passed_last text ts new from ks t e so_far q added =
    let Q : List token_type.Token → Type 0 = λ u. Scans 0 [] text u (Fault e) in
    cut_of (subst Q (sym added) (so_far (t ∷ []) (Fault e) q))

pub passed_fault : (text : List ℕ) (ts : List token_type.Token) (from : ℕ) (ks : List Kind) (e : SyntaxError) → CutsSoFar text ts from ks (drop from text) →
    Scans from ks (drop from text) [] (Fault e) → Cuts 0 [] text ts (Fault e)
passed_fault text ts from ks e so_far q =
    let Q : List token_type.Token → Type 0 = λ u. Scans 0 [] text u (Fault e) in
    cut_of (subst Q (append-nil ts) (so_far [] (Fault e) q))

pub passed_all : (text : List ℕ) (ts : List token_type.Token) (from : ℕ) (ks : List Kind) → CutsSoFar text ts from ks (drop from text) → length text ≤ from → Cuts 0 [] text ts (End from)
passed_all text ts from ks so_far all =
    let Q : List token_type.Token → Type 0 = λ u. Scans 0 [] text u (End from) in
    let P : List ℕ → Type 0 = λ u. Scans from ks u [] (End from) in
    cut_of (subst Q (append-nil ts) (so_far [] (End from) (subst P (sym (drop_all from text all)) ends)))

-- what a token'ks bytes stand for makes it a step
pub read_step : (from : ℕ) (ks : List Kind) (text : List ℕ) (k before : Kind) (n : ℕ) (w : What) → scanned_front ks text ≡ Token k n → limit_at ks k ≡ None → is_entry_past ks k ≡ false →
    before ≡ (nearest ks) → IsContent before k (take n text) from (Ok w) → IsReadToken from ks text (token_at w from n) k n
read_step from ks text k before n w e f g same h =
    let P : Kind → Type 0 = λ b. Contains b k (take n text) w in
    record { front = e; passes = f; in_list = g; stands_for = subst P same h; placed = refl }

pub fault_step : (from : ℕ) (ks : List Kind) (text : List ℕ) (k before : Kind) (n : ℕ) (fault : SyntaxError) → 0 < length text → scanned_front ks text ≡ Token k n → limit_at ks k ≡ None → is_entry_past ks k ≡ false →
    before ≡ (nearest ks) → IsContent before k (take n text) from (Err fault) → Scans from ks text [] (Fault fault)
fault_step from ks text k before n fault some e f g same h =
    let P : Kind → Type 0 = λ b. IsMalformed b k (take n text) from fault in
    malformed some e f g (subst P same h)

-- a step at what is left of the text
pub at_rest : (from : ℕ) (ks : List Kind) (text rest : List ℕ) (taken other : Step) → rest ≡ drop from text → taken ≡ other → IsScanStep from ks rest taken → IsScanStep from ks (drop from text) other
at_rest from ks text rest taken other e f h =
    let P : List ℕ → Type 0 = λ u. IsScanStep from ks u taken in
    let Q : Step → Type 0 = λ u. IsScanStep from ks (drop from text) u in
    subst Q f (subst P e h)

pub rest_some : (text : List ℕ) (from : ℕ) → from < length text → 0 < length (drop from text)
rest_some text from h = omega (arith, length-drop from text)

pub gap_bounds : (from : ℕ) (ks : List Kind) (text : List ℕ) (n : ℕ) → from < length text → scanned_front ks (drop from text) ≡ Gap n → (0 < n) × (from + n ≤ length text)
gap_bounds from ks text n h e =
    let f : IsFront (drop from text) (Gap n) = of_front ks (drop from text) (Gap n) (rest_some text from h) (sym e) in
    (f.0, omega (arith, f.1, length-drop from text))

pub token_bounds : (from : ℕ) (ks : List Kind) (text : List ℕ) (k : Kind) (n : ℕ) → from < length text → scanned_front ks (drop from text) ≡ Token k n → (0 < n) × (from + n ≤ length text)
token_bounds from ks text k n h e =
    let f : IsFront (drop from text) (Token k n) = of_front ks (drop from text) (Token k n) (rest_some text from h) (sym e) in
    (f.0, omega (arith, f.1, length-drop from text))
