-- Laws of texts that are written in pieces.
use Rattle.std.proofs.Common.{IsTrue, Bool, true, false, if◌then◌else◌, ℕ, ◌+◌, ◌≤◌, ◌≡◌, List, [], ◌++◌, length, take, refl, ap, sym, subst, ◌∙◌, arith, append_assoc, length-append}
use Rattle.std.proofs.Math.Seq.{take-append-add}
use Rattle.std.proofs.lemmas.List.{take-append-le}
use Rattle.lucy_word.proofs.Lists.{front_empty, back_empty}
use Rattle.lucy_text.specs.Outside.{appended, Rose, SeenSink, Writes, Fails}
use Rattle.lucy_text.proofs.OutsideLaws.{appended-nil, appended_more}
use Rattle.lucy_lines.specs.Written.{LinesState}
use Rattle.lucy_lines.specs.Walks.{Gathers}

-- a sink that is as it was has no more bytes
pub unwritten : (s : SeenSink) → Writes s s []
unwritten s = record { written = sym (appended-nil s.written); faults = refl; goes_on = λ none. none; untouched = λ none. refl }

-- one piece more was written
pub writes_more : (s t u : SeenSink) (a b : List ℕ) → Writes s t a → Writes t u b → Writes s u (a ++ b)
writes_more s t u a b p q = record {
  written = appended_more s.written t.written u.written a b p.written q.written;
  faults = q.faults ∙ p.faults;
  goes_on = λ none. q.goes_on (p.goes_on none);
  untouched = λ empty. q.untouched (back_empty a b empty) ∙ p.untouched (front_empty a b empty);
}

-- a write failed behind a piece
pub fails_behind : (s t u : SeenSink) (a b : List ℕ) → Writes s t a → Fails t u b → Fails s u (a ++ b)
fails_behind s t u a b p q =
    let n = q.front.0 in
    record {
      front = (
        length a + n,
        omega (arith, q.front.1, length-append a b),
        appended_more s.written t.written u.written a (take n b) p.written q.front.2 ∙ ap (appended s.written) (sym (take-append-add a b n)),
      );
      faults = (let P : ℕ → Type 0 = λ count. Rose count u.faults in subst P p.faults q.faults);
      none_follows = λ none. q.none_follows (p.goes_on none);
    }

-- a front of a text is one of a longer text
pub fails_longer : (s t : SeenSink) (a b : List ℕ) → Fails s t a → Fails s t (a ++ b)
fails_longer s t a b p = record {
  front = (
    p.front.0,
    omega (arith, p.front.1, length-append a b),
    p.front.2 ∙ ap (appended s.written) (sym (take-append-le p.front.0 a b p.front.1)),
  );
  faults = p.faults;
  none_follows = p.none_follows;
}

-- nothing was written yet
pub nothing_gathered : {K : Type 0} (k : K) (s : SeenSink) (lines : LinesState) (text : List ℕ) → lines.bytes ≡ text → Gathers k k s s lines text
nothing_gathered k s lines text e = record { done = []; written = unwritten s; untouched = λ empty. refl; all = e }

-- a piece was written, and a line waits
pub piece_gathered : {K : Type 0} (k l : K) (s t : SeenSink) (lines : LinesState) (piece was line : List ℕ) →
    Writes s t piece → (piece ≡ [] → l ≡ k) → piece ≡ was → lines.bytes ≡ line → Gathers k l s t lines (was ++ line)
piece_gathered k l s t lines piece was line written untouched e f = record {
  done = piece;
  written = written;
  untouched = untouched;
  all = ap (λ b. piece ++ b) f ∙ ap (λ b. b ++ line) e;
}

-- more was gathered
pub gathers_more : {K : Type 0} (k l m : K) (s t u : SeenSink) (lines waits : LinesState) (text more : List ℕ) →
    Gathers k l s t lines text → Gathers l m t u waits (lines.bytes ++ more) → Gathers k m s u waits (text ++ more)
gathers_more k l m s t u lines waits text more p q = record {
  done = p.done ++ q.done;
  written = writes_more s t u p.done q.done p.written q.written;
  untouched = λ empty. q.untouched (back_empty p.done q.done empty) ∙ p.untouched (front_empty p.done q.done empty);
  all = append_assoc p.done q.done waits.bytes ∙ ap (λ b. p.done ++ b) q.all ∙ sym (append_assoc p.done lines.bytes more) ∙ ap (λ b. b ++ more) p.all;
}

-- a write of what was gathered, or of more, failed
pub gathered_fails : {K : Type 0} (k l : K) (s t u : SeenSink) (lines : LinesState) (text more : List ℕ) →
    Gathers k l s t lines text → Fails t u (lines.bytes ++ more) → Fails s u (text ++ more)
gathered_fails k l s t u lines text more p q =
    let P : List ℕ → Type 0 = λ b. Fails s u b in
    let e : p.done ++ (lines.bytes ++ more) ≡ text ++ more = sym (append_assoc p.done lines.bytes more) ∙ ap (λ b. b ++ more) p.all in
    subst P e (fails_behind s t u p.done (lines.bytes ++ more) p.written q)

-- a write of what waits failed
pub waiting_fails : {K : Type 0} (k l : K) (s t u : SeenSink) (lines : LinesState) (text : List ℕ) →
    Gathers k l s t lines text → Fails t u lines.bytes → Fails s u text
waiting_fails k l s t u lines text p q =
    let P : List ℕ → Type 0 = λ b. Fails s u b in
    subst P p.all (fails_behind s t u p.done lines.bytes p.written q)

-- what waits was written
pub gathered_written : {K : Type 0} (k l : K) (s t u : SeenSink) (lines : LinesState) (text : List ℕ) →
    Gathers k l s t lines text → Writes t u lines.bytes → Writes s u text
gathered_written k l s t u lines text p q =
    let P : List ℕ → Type 0 = λ b. Writes s u b in
    subst P p.all (writes_more s t u p.done lines.bytes p.written q)

-- where a text has no bytes, the sink isn't called
pub gathered_untouched : {K : Type 0} (k l : K) (s t : SeenSink) (lines : LinesState) (text : List ℕ) → Gathers k l s t lines text → text ≡ [] → l ≡ k
gathered_untouched k l s t lines text p empty = p.untouched (front_empty p.done lines.bytes (p.all ∙ empty))

-- and no line waits
pub gathered_empty : {K : Type 0} (k l : K) (s t : SeenSink) (lines : LinesState) (text : List ℕ) → Gathers k l s t lines text → text ≡ [] → lines.bytes ≡ []
gathered_empty k l s t lines text p empty = back_empty p.done lines.bytes (p.all ∙ empty)

-- what a line that was put, or wasn't, leaves of bytes
pub if_put : {A : Type 0} (result : Bool) (a b c : A) → c ≡ (if result then a else b) → result ≡ true → c ≡ a
if_put result a b c e is = e ∙ ap (λ bit. if bit then a else b) is

pub if_not_put : {A : Type 0} (result : Bool) (a b c : A) → c ≡ (if result then a else b) → result ≡ false → c ≡ b
if_not_put result a b c e is = e ∙ ap (λ bit. if bit then a else b) is

-- a line that fits the room is put first
pub first_put : (clear new : LinesState) (room : ℕ) (line : List ℕ) (result : Bool) → clear ≡ record { bytes = []; room = room } → length line ≤ room →
    (length clear.bytes + length line ≤ clear.room → IsTrue result) → new.bytes ≡ (if result then clear.bytes ++ line else clear.bytes) → new.bytes ≡ line
first_put clear new room line result is fits puts e =
    let some : length clear.bytes + length line ≤ clear.room = let n = ap (λ c. length c.bytes) is in let m = ap (λ c. c.room) is in omega arith in
    if_put result (clear.bytes ++ line) clear.bytes new.bytes e (puts some) ∙ ap (λ c. c.bytes ++ line) is
