-- What comes next where bytes are read as long as nothing is decided.
use Rattle.std.proofs.Common.{◌≡◌, ℕ, ◌+◌, ◌-◌, ◌<◌, ◌≤◌, Bool, true, false, List, [], ◌∷◌, ◌++◌, length, Some, None, Result, Ok, Err, refl, ap, sym, ◌∙◌, subst, inl, inr, arith, append_assoc, append-nil, length-append, length-drop}
use Rattle.std.specs.Prelude.{ℤ, ◌⊎◌, take}
use Rattle.std.proofs.lemmas.Option.{slice_get_within}
use Rattle.lucy_lines.specs.declared.input.InputSpec.{InputSpec}
use Rattle.lucy_lines.specs.declared.front.Front.TheVariants as front
use Rattle.lucy_lines.specs.declared.kind.Kind.{Kind}
use Rattle.lucy_lines.specs.declared.kind.Kind.TheVariants as kind
use Rattle.lucy_lines.specs.declared.reader.Line as line_type
use Rattle.lucy_lines.specs.declared.reader.Line.TheVariants.{Item, End}
use Rattle.lucy_lines.specs.declared.reader.TextFault.{TextFault}
use Rattle.lucy_lines.specs.declared.reader.TextFault.TheVariants.{BadLine, UnknownStream, BadValue, ReadFault, TooLong}
use Rattle.lucy_text.specs.Outside.{SeenSource, GaveBytes, HasEnded}
use Rattle.lucy_text.proofs.OutsideLaws.{followed, followed_more, followed-nil}
use Rattle.lucy_lines.specs.Fronts.{most_bytes, front_of}
use Rattle.lucy_lines.specs.Fields.{line_fields}
use Rattle.lucy_lines.specs.Kinds.{FieldsSay}
use Rattle.lucy_lines.specs.Cuts.{Held, bytes_taken, with_more, ItemOf, refusal}
use Rattle.lucy_lines.specs.Nexts.{Answer, Gives, Refuses, Wants, Next, blank, item, refused, long, too_long, wants}
use Rattle.lucy_lines.specs.Reading.{ReaderState, AnswersNext, Asked, Took, most_taken, OfItem, Blames, IsDecided}
use Rattle.lucy_lines.specs.Steps.{HeldAnswers, IsOneRead}
use Rattle.lucy_lines.proofs.FrontLaws.{line_within, open_within}
use Rattle.lucy_lines.proofs.CutLaws.{next_one, next_more}

-- where no line is decided, nothing is
pub wants_open : {inputs : List InputSpec} {closed : Bool} {h g : Held} (a : Answer) → a ≡ Wants g → Next inputs closed h a → front_of closed g.used g.rest ≡ front.Open
wants_open a e (blank f k n) = wants_open a e n
wants_open a e (item f k) = cc
wants_open a e (refused k f s r) = cc
wants_open a e (long f) = cc
wants_open a e (too_long f) = cc
wants_open {closed = closed} {h} {g} a e (wants f) = let same : h ≡ g = cc in let P : Held → Type 0 = λ u. front_of closed u.used u.rest ≡ front.Open in subst P same f

-- lines of blanks leave all bytes that were taken
pub wants_taken : {inputs : List InputSpec} {closed : Bool} {h g : Held} (a : Answer) → a ≡ Wants g → Next inputs closed h a → bytes_taken g ≡ bytes_taken h
wants_taken {closed = closed} {h} a e (blank {content = content} {length = n} f k next) =
    let w = line_within closed h.used h.rest content n f in
    let cut = length-drop n h.rest in
    let whole = w.whole in
    let rest = wants_taken a e next in
    omega arith
wants_taken a e (item f k) = cc
wants_taken a e (refused k f s r) = cc
wants_taken a e (long f) = cc
wants_taken a e (too_long f) = cc
wants_taken {h = h} {g} a e (wants f) = let same : h ≡ g = cc in ap bytes_taken (sym same)

not_read : (n : ℕ) (k : Kind) → refusal n k ≡ Some ReadFault → ⊥
not_read n kind.Blank e = cc
not_read n (kind.Item s v) e = cc
not_read n kind.NotTwo e = cc
not_read n kind.Unknown e = cc
not_read n kind.NotValue e = cc

-- no line is refused as a failed read
pub refuses_read : {inputs : List InputSpec} {closed : Bool} {h : Held} (a : Answer) → a ≡ Refuses ReadFault → Next inputs closed h a → ⊥
refuses_read a e (blank f k n) = refuses_read a e n
refuses_read a e (item f k) = cc
refuses_read {h = h} a e (refused {f = f} k g s r) = let same : f ≡ ReadFault = cc in not_read (h.lines + 1) k (r ∙ ap (λ u. Some u) same)
refuses_read a e (long f) = cc
refuses_read a e (too_long f) = cc
refuses_read a e (wants f) = cc

-- What comes next of what is held now, with any bytes behind it, comes next of what was held, with those that were taken and these.
abbrev pub Follows : List InputSpec → Held → List ℕ → Held → Type 0
Follows inputs was taken now = (closed : Bool) (more : List ℕ) (a : Answer) → Next inputs closed (with_more now more) a → Next inputs closed (with_more was (taken ++ more)) a

-- nothing was taken
pub follows_none : (inputs : List InputSpec) (h : Held) → Follows inputs h [] h
follows_none inputs h closed more a n = n

-- nothing was decided, and bytes were taken
pub follows_more : (inputs : List InputSpec) (was now g : Held) (taken bytes : List ℕ) → Follows inputs was taken now → Next inputs false now (Wants g) → Follows inputs was (taken ++ bytes) (with_more g bytes)
follows_more inputs was now g taken bytes f w closed more a n =
    let P : List ℕ → Type 0 = λ u. Next inputs closed (record g { rest = u }) a in
    let Q : List ℕ → Type 0 = λ u. Next inputs closed (with_more was u) a in
    subst Q (sym (append_assoc taken bytes more)) (f closed (bytes ++ more) a (next_more closed (bytes ++ more) w a (subst P (append_assoc g.rest bytes more) n)))

-- what comes next of what is held now
pub follows_now : (inputs : List InputSpec) (was now : Held) (taken : List ℕ) (closed : Bool) (a : Answer) → Follows inputs was taken now → Next inputs closed now a → Next inputs closed (with_more was taken) a
follows_now inputs was now taken closed a f n =
    let P : List ℕ → Type 0 = λ u. Next inputs closed (record now { rest = u }) a in
    let Q : List ℕ → Type 0 = λ u. Next inputs closed (with_more was u) a in
    subst Q (append-nil taken) (f closed [] a (subst P (sym (append-nil now.rest)) n))

-- the answer of what is held is the answer of the call
pub answers_now : (r : ReaderState) (was h : Held) (taken : List ℕ) (result : Result line_type.Line TextFault) → Follows r.inputs was taken r.held → HeldAnswers r h (Some result) → AnswersNext r.inputs r.closed (with_more was taken) h result
answers_now r was h taken (Ok (Item s v)) f n = follows_now r.inputs was r.held taken r.closed (Gives (record { stream = s; value = v }) h) f n
answers_now r was h taken (Ok End) f (e, n) =
    let P : Bool → Type 0 = λ u. Next r.inputs u r.held (Wants h) in
    (e, follows_now r.inputs was r.held taken r.closed (Wants h) f (subst P (sym e) n))
answers_now r was h taken (Err ReadFault) f n = absurd (refuses_read (Refuses ReadFault) refl n)
answers_now r was h taken (Err (BadLine k)) f n = follows_now r.inputs was r.held taken r.closed (Refuses (BadLine k)) f n
answers_now r was h taken (Err (UnknownStream k)) f n = follows_now r.inputs was r.held taken r.closed (Refuses (UnknownStream k)) f n
answers_now r was h taken (Err (BadValue k)) f n = follows_now r.inputs was r.held taken r.closed (Refuses (BadValue k)) f n
answers_now r was h taken (Err TooLong) f n = follows_now r.inputs was r.held taken r.closed (Refuses TooLong) f n

pub blames_none : (r : ReaderState) (h : Held) (before now : ℕ) (result : Result line_type.Line TextFault) → HeldAnswers r h (Some result) → now ≡ before → Blames before now result
blames_none r h before now (Ok (Item s v)) n e = e
blames_none r h before now (Ok End) n e = e
blames_none r h before now (Err ReadFault) n e = absurd (refuses_read (Refuses ReadFault) refl n)
blames_none r h before now (Err (BadLine k)) n e = e
blames_none r h before now (Err (UnknownStream k)) n e = e
blames_none r h before now (Err (BadValue k)) n e = e
blames_none r h before now (Err TooLong) n e = e

-- what is not decided without more bytes is not decided
pub not_decided : {inputs : List InputSpec} {closed : Bool} {h g : Held} → Next inputs closed h (Wants g) → (a : Answer) → Next inputs closed h a → IsDecided a → ⊥
not_decided n (Gives i k) m d = let e = next_one n m in cc
not_decided n (Refuses f) m d = let e = next_one n m in cc
not_decided n (Wants k) m d = d

-- the reader is that of the call but for what it holds and its note of the end
abbrev pub Kept : (was now : ReaderState) → Type 0
Kept was now = now ≡ record was { held = now.held; closed = now.closed }

inputs_kept : (was now : ReaderState) → Kept was now → now.inputs ≡ was.inputs
inputs_kept was now k = ap (λ r. r.inputs) k

pub answers_call : (was now new : ReaderState) (taken : List ℕ) (result : Result line_type.Line TextFault) → Kept was now → new ≡ record now { held = new.held } → Follows was.inputs was.held taken now.held →
    HeldAnswers now new.held (Some result) → AnswersNext was.inputs new.closed (with_more was.held taken) new.held result
answers_call was now new taken result k e f h =
    let i = inputs_kept was now k in
    let P : List InputSpec → Type 0 = λ u. Follows u was.held taken now.held in
    let Q : List InputSpec → Type 0 = λ u. AnswersNext u now.closed (with_more was.held taken) new.held result in
    let R : Bool → Type 0 = λ u. AnswersNext was.inputs u (with_more was.held taken) new.held result in
    subst R (sym (ap (λ r. r.closed) e)) (subst Q i (answers_now now was.held new.held taken result (subst P (sym i) f) h))

-- nothing was taken yet, or what was held at the call decided nothing
abbrev pub Fresh : {S : Type 0} (was now : ReaderState) (source left : S) → Type 0
Fresh was now source left = ((left ≡ source) × (now ≡ was)) ⊎ ((was.closed ≡ false) × ((h : Held) × Next was.inputs false was.held (Wants h)))

stays_closed : {S : Type 0} (was now : ReaderState) (source left : S) → Fresh was now source left → was.closed ≡ true → now.closed ≡ true
stays_closed was now source left (inl p) e = ap (λ r. r.closed) p.1 ∙ e
stays_closed was now source left (inr p) e = let no_more : true ≡ false = sym e ∙ p.0 in cc

-- where what was held at the call decides, nothing was taken
pub unread : {S : Type 0} (was now : ReaderState) (source left : S) → Fresh was now source left → (a : Answer) → Next was.inputs was.closed was.held a → IsDecided a → left ≡ source
unread was now source left (inl p) a n d = p.0
unread was now source left (inr (e, (h, w))) a n d = let P : Bool → Type 0 = λ u. Next was.inputs u was.held (Wants h) in absurd (not_decided (subst P (sym e) w) a n d)

pub asks : {S : Type 0} (was now : ReaderState) (source left : S) (h : Held) → Fresh was now source left → HeldAnswers now h None → (was.closed ≡ false) × ((k : Held) × Next was.inputs false was.held (Wants k))
asks was now source left h (inl p) (e, w) =
    let P : ReaderState → Type 0 = λ u. (u.closed ≡ false) × ((k : Held) × Next u.inputs false u.held (Wants k)) in
    subst P p.1 (e, (h, w))
asks was now source left h (inr p) w = p

pub asked : {S : Type 0} (was now : ReaderState) (source left other : S) (h : Held) → Fresh was now source left → HeldAnswers now h None → (a : Answer) → Next was.inputs was.closed was.held a → IsDecided a → other ≡ source
asked was now source left other h f w a n d =
    let (e, (k, m)) = asks was now source left h f w in
    let P : Bool → Type 0 = λ u. Next was.inputs u was.held (Wants k) in
    absurd (not_decided (subst P (sym e) m) a n d)

-- the wanting of what is held now is that of the call
pub wants_call : (was now : ReaderState) (h : Held) → Kept was now → HeldAnswers now h None → Next was.inputs false now.held (Wants h)
wants_call was now h k w = let P : List InputSpec → Type 0 = λ u. Next u false now.held (Wants h) in subst P (inputs_kept was now k) w.1

pub fault_answers : (was now new : ReaderState) (taken : List ℕ) (h : Held) → Kept was now → Follows was.inputs was.held taken now.held → HeldAnswers now h None → new ≡ record now { held = h } →
    (new.closed ≡ false) × Next was.inputs new.closed (with_more was.held taken) (Wants new.held)
fault_answers was now new taken h k f w e =
    let c : new.closed ≡ false = ap (λ r. r.closed) e ∙ w.0 in
    let P : Bool → Type 0 = λ u. Next was.inputs u (with_more was.held taken) (Wants new.held) in
    let Q : Held → Type 0 = λ u. Next was.inputs false (with_more was.held taken) (Wants u) in
    (c, subst P (sym c) (subst Q (sym (ap (λ r. r.held) e)) (follows_now was.inputs was.held now.held taken false (Wants h) f (wants_call was now h k w))))

pub kept_more : (was now mid new : ReaderState) (h : Held) → Kept was now → mid ≡ record now { held = mid.held } → new ≡ record mid { held = h; closed = new.closed } → Kept was new
kept_more was now mid new h k e f =
    let i : new.inputs ≡ was.inputs = ap (λ r. r.inputs) f ∙ ap (λ r. r.inputs) e ∙ ap (λ r. r.inputs) k in
    let d : new.ended ≡ was.ended = ap (λ r. r.ended) f ∙ ap (λ r. r.ended) e ∙ ap (λ r. r.ended) k in
    let p : List InputSpec → ReaderState = λ u. record new { inputs = u } in
    let q : Bool → ReaderState = λ u. record new { inputs = was.inputs; ended = u } in
    ap p i ∙ ap q d

pub follows_read : (was now mid new : ReaderState) (taken bytes : List ℕ) → Kept was now → Follows was.inputs was.held taken now.held → HeldAnswers now mid.held None → new.held ≡ with_more mid.held bytes →
    Follows was.inputs was.held (taken ++ bytes) new.held
follows_read was now mid new taken bytes k f w e =
    let P : Held → Type 0 = λ u. Follows was.inputs was.held (taken ++ bytes) u in
    subst P (sym e) (follows_more was.inputs was.held now.held mid.held taken bytes f (wants_call was now mid.held k w))

-- one read may still meet the end
abbrev pub may_end : Bool → ℕ
may_end true = 0
may_end false = 1

-- a read uses up what may still be read
pub read_smaller : (now mid new : ReaderState) (before after : SeenSource) (bytes : List ℕ) → HeldAnswers now mid.held None → IsOneRead mid new before after bytes →
    most_bytes + 1 - bytes_taken new.held + may_end new.closed < most_bytes + 1 - bytes_taken now.held + may_end now.closed
read_smaller now mid new before after bytes w r =
    let o = open_within false mid.held.used mid.held.rest (wants_open (Wants mid.held) refl w.1) in
    let room : bytes_taken mid.held ≤ most_bytes = o.room in
    let same : bytes_taken mid.held ≡ bytes_taken now.held = wants_taken (Wants mid.held) refl w.1 in
    let held : bytes_taken new.held ≡ mid.held.used + length (mid.held.rest ++ bytes) = ap (λ u. bytes_taken u.held) r.held in
    let long = length-append mid.held.rest bytes in
    let open_now : may_end now.closed ≡ 1 = ap may_end w.0 in
    elim r.progress [
      | inl p ↦ let more : 1 ≤ length bytes = p.1 in let q : may_end new.closed ≡ 1 = ap may_end p.0 in omega arith
      | inr p ↦ let q : may_end new.closed ≡ 0 = ap may_end p.0 in omega arith
    ]

pub read_end : (mid new : ReaderState) (before after : SeenSource) (bytes : List ℕ) → IsOneRead mid new before after bytes → new.closed ≡ true → HasEnded after
read_end mid new before after bytes r e =
    elim r.progress [
      | inl p ↦ let no_more : true ≡ false = sym e ∙ p.0 in cc
      | inr p ↦ p.1
    ]

-- what a call took so far
pub record SoFar (was now : ReaderState) (before after : SeenSource) (taken : List ℕ) : Type 0 where
  pub bytes : GaveBytes before after taken
  pub follows : Follows was.inputs was.held taken now.held
  pub quiet : was.closed ≡ true → taken ≡ []
  pub needed : (taken ≡ []) ⊎ Asked was taken
  pub counted : bytes_taken now.held ≡ bytes_taken was.held + length taken

pub nothing_yet : (was : ReaderState) (before : SeenSource) → SoFar was was before before []
nothing_yet was before = record { bytes = sym (followed-nil before.left); follows = follows_none was.inputs was.held; quiet = λ e. refl; needed = inl refl; counted = omega arith }

counted_read : (was now mid new : ReaderState) (before after : SeenSource) (taken bytes : List ℕ) → bytes_taken now.held ≡ bytes_taken was.held + length taken →
    HeldAnswers now mid.held None → IsOneRead mid new before after bytes → bytes_taken new.held ≡ bytes_taken was.held + length (taken ++ bytes)
counted_read was now mid new before after taken bytes c w r =
    let same : bytes_taken mid.held ≡ bytes_taken now.held = wants_taken (Wants mid.held) refl w.1 in
    let held : bytes_taken new.held ≡ mid.held.used + length (mid.held.rest ++ bytes) = ap (λ u. bytes_taken u.held) r.held in
    let long = length-append mid.held.rest bytes in
    let both = length-append taken bytes in
    omega arith

-- the bytes of a call so far, one read on
pub read_on : {S : Type 0} (was now mid new : ReaderState) (source left : S) (before between after : SeenSource) (taken bytes : List ℕ) → Kept was now → Fresh was now source left →
    SoFar was now before between taken → HeldAnswers now mid.held None → IsOneRead mid new between after bytes → SoFar was new before after (taken ++ bytes)
read_on was now mid new source left before between after taken bytes k f s w r =
    let open_call = (asks was now source left mid.held f w).0 in
    record {
      bytes = followed_more before.left between.left after.left taken bytes s.bytes r.bytes;
      follows = follows_read was now mid new taken bytes k s.follows w (ap (λ u. u.held) r.held);
      quiet = λ e. let no_more : true ≡ false = sym e ∙ open_call in cc;
      needed = inr (taken, bytes, mid.held, refl, r.few, follows_now was.inputs was.held now.held taken false (Wants mid.held) s.follows (wants_call was now mid.held k w));
      counted = counted_read was now mid new between after taken bytes s.counted w r;
    }

pub took_line : {S : Type 0} (was now new : ReaderState) (source left : S) (before after : SeenSource) (taken : List ℕ) (result : Result line_type.Line TextFault) → Kept was now → Fresh was now source left →
    SoFar was now before after taken → new ≡ record now { held = new.held } → bytes_taken new.held ≡ bytes_taken now.held → HeldAnswers now new.held (Some result) → Took was new before after result taken
took_line was now new source left before after taken result k f s e c h = record {
  bytes = s.bytes;
  quiet = λ ends. (s.quiet ends, ap (λ r. r.closed) e ∙ stays_closed was now source left f ends);
  needed = s.needed;
  counted = c ∙ s.counted;
  answer = answers_call was now new taken result k e s.follows h;
}

pub took_fault : {S : Type 0} (was now mid new : ReaderState) (source left : S) (before between after : SeenSource) (taken : List ℕ) → Kept was now → Fresh was now source left →
    SoFar was now before between taken → HeldAnswers now mid.held None → mid ≡ record now { held = mid.held } → new ≡ mid → after.left ≡ between.left → Took was new before after (Err ReadFault) taken
took_fault was now mid new source left before between after taken k f s w e d b =
    let open_call = (asks was now source left mid.held f w).0 in
    record {
      bytes = s.bytes ∙ ap (followed taken) (sym b);
      quiet = λ c. let no_more : true ≡ false = sym c ∙ open_call in cc;
      needed = inr (taken, [], mid.held, sym (append-nil taken), omega arith, follows_now was.inputs was.held now.held taken false (Wants mid.held) s.follows (wants_call was now mid.held k w));
      counted = ap (λ r. bytes_taken r.held) d ∙ wants_taken (Wants mid.held) refl w.1 ∙ s.counted;
      answer = fault_answers was now new taken mid.held k s.follows w (d ∙ e);
    }

within_answer : (inputs : List InputSpec) (closed : Bool) (was now : Held) (result : Result line_type.Line TextFault) → AnswersNext inputs closed was now result → bytes_taken now ≤ most_bytes + 1 → bytes_taken now ≤ most_taken result
within_answer inputs closed was now (Ok (Item s v)) a w = w
within_answer inputs closed was now (Ok End) a w = let o = open_within closed now.used now.rest (wants_open (Wants now) refl a.1) in o.room
within_answer inputs closed was now (Err ReadFault) a w = let o = open_within closed now.used now.rest (wants_open (Wants now) refl a.1) in o.room
within_answer inputs closed was now (Err (BadLine k)) a w = w
within_answer inputs closed was now (Err (UnknownStream k)) a w = w
within_answer inputs closed was now (Err (BadValue k)) a w = w
within_answer inputs closed was now (Err TooLong) a w = w

-- no byte past an input's limit is taken where no line is decided
pub took_within : (was now : ReaderState) (before after : SeenSource) (result : Result line_type.Line TextFault) (taken : List ℕ) → Took was now before after result taken → bytes_taken now.held ≤ most_bytes + 1 →
    bytes_taken now.held ≤ most_taken result
took_within was now before after result taken t w = within_answer was.inputs now.closed (with_more was.held taken) now.held result t.answer w

stream_said : (inputs : List InputSpec) (fs : List (List ℕ)) (s : ℕ) (v : ℤ) → FieldsSay inputs fs (kind.Item s v) → s < length inputs
stream_said inputs [] s v h = cc
stream_said inputs (a ∷ []) s v h = cc
stream_said inputs (a ∷ b ∷ []) s v (i, p, q) = slice_get_within inputs s i p.there
stream_said inputs (a ∷ b ∷ c ∷ fs) s v h = cc

abbrev gives_holds : (ItemOf → Held → Type 0) → Answer → Type 0
gives_holds P (Gives i k) = P i k
gives_holds P a = Unit {0}

-- an item is of one of the inputs, and its line has bytes
pub record OfLine (inputs : List InputSpec) (was now : Held) (stream : ℕ) : Type 0 where
  pub known : stream < length inputs
  pub uses : was.used < now.used

pub gives_line : {inputs : List InputSpec} {closed : Bool} {h g : Held} {i : ItemOf} (a : Answer) → a ≡ Gives i g → Next inputs closed h a → OfLine inputs h g i.stream
gives_line {inputs = inputs} {closed = closed} {h} {g} {i} a e (blank {content = content} {length = n} f k next) =
    let w = line_within closed h.used h.rest content n f in
    let o = gives_line a e next in
    let b = o.uses in
    record { known = o.known; uses = omega arith }
gives_line {inputs = inputs} {closed = closed} {h} {g} {i} a e (item {content = content} {length = n} {stream = s} {value = v} f k) =
    let w = line_within closed h.used h.rest content n f in
    let some = w.some in
    let known = stream_said inputs (line_fields (take content h.rest)) s v k in
    let P : Answer → Type 0 = λ u. gives_holds (λ j k. OfLine inputs h k j.stream) u in
    subst P e (record { known = known; uses = omega arith })
gives_line a e (refused k f s r) = cc
gives_line a e (long f) = cc
gives_line a e (too_long f) = cc
gives_line a e (wants f) = cc

-- what a call that took bytes tells of its item
took_item : (was now : ReaderState) (before after : SeenSource) (result : Result line_type.Line TextFault) (taken : List ℕ) → Took was now before after result taken → OfItem (OfLine was.inputs was.held now.held) result
took_item was now before after (Ok (Item s v)) taken t = let l = gives_line (Gives (record { stream = s; value = v }) now.held) refl t.answer in record { known = l.known; uses = l.uses }
took_item was now before after (Ok End) taken t = tt
took_item was now before after (Err f) taken t = tt

of_item : (P Q : ℕ → Type 0) → ((s : ℕ) → P s → Q s) → (result : Result line_type.Line TextFault) → OfItem P result → OfItem Q result
of_item P Q f (Ok (Item s v)) p = f s p
of_item P Q f (Ok End) p = tt
of_item P Q f (Err e) p = tt

pub took_stream : (was now : ReaderState) (before after : SeenSource) (result : Result line_type.Line TextFault) (taken : List ℕ) → Took was now before after result taken → OfItem (λ stream. stream < length was.inputs) result
took_stream was now before after result taken t =
    let P : ℕ → Type 0 = OfLine was.inputs was.held now.held in
    let Q : ℕ → Type 0 = λ stream. stream < length was.inputs in
    let f : (s : ℕ) → P s → Q s = λ s of. of.known in
    of_item P Q f result (took_item was now before after result taken t)

pub took_line_bytes : (was now : ReaderState) (used : ℕ) (before after : SeenSource) (result : Result line_type.Line TextFault) (taken : List ℕ) → now.held.used ≡ used → Took was now before after result taken →
    OfItem (λ _. was.held.used < used) result
took_line_bytes was now used before after result taken same t =
    let P : ℕ → Type 0 = OfLine was.inputs was.held now.held in
    let Q : ℕ → Type 0 = λ stream. was.held.used < used in
    let f : (s : ℕ) → P s → Q s = λ s of. let uses = of.uses in omega arith in
    of_item P Q f result (took_item was now before after result taken t)
