-- What a draft gains by numbering.
use Rattle.std.proofs.Common.{◌≡◌, ◌+◌, ℕ, zero, suc, List, [], ◌∷◌, ◌++◌, length, refl, ap, sym, ◌∙◌, subst, arith, append_assoc, append-nil, length-append}
use Rattle.std.specs.Prelude.{slice_set, Option}
use Rattle.std.proofs.Math.Seq.{set-append_seam}
use Rattle.std.proofs.lemmas.List.{length-set}
use Rattle.lucy_word.specs.Bits.{Bits}
use Rattle.lucy_tree.specs.declared.span.Span.{Span}
use Rattle.lucy_tree.specs.declared.span.Name as names
use Rattle.lucy_naming.specs.declared.draft.Draft.{Draft}
use Rattle.lucy_place.specs.declared.entry.PlaceEntry.{PlaceEntry}
use Rattle.lucy_place.specs.declared.entry.PlaceKind.{PlaceKind}
use Rattle.lucy_place.specs.declared.entry.PlaceKind.TheVariants as kind
use Rattle.lucy_place.specs.declared.entry.CallSite.{CallSite}
use Rattle.lucy_naming.specs.Phrases.{Head, Literal, Applied, Host, Sampled, Merged, Followed, Buffered, Called, Phrase, Phrases, name, headed, none, and}
use Rattle.lucy_naming.specs.Numbering.{Next, past, past_all, inside, all_rooms, bounds, all_bounds, all_calls, own_rooms, own_calls, own_entries, own_sites, entries, all_entries, sites, all_sites, number, numbers}
use Rattle.lucy_naming.specs.Places.{Known, own_bounds, own_kind, unnamed, results_from}
use Rattle.lucy_naming.specs.Drafts.{next_of, IsSmall, Draws, DrawsAll, IsPlain, phrase_operands, buffers_of, kind_of, free_site, site_of}

-- numbers that are the same
pub next_same : {a b : Next} → a.place ≡ b.place → a.buffer ≡ b.buffer → a.call ≡ b.call → a ≡ b
next_same {a = a} {b = b} p q r =
    ap (λ x. let n : Next = record { place = x; buffer = a.buffer; call = a.call } in n) p
    ∙ ap (λ x. let n : Next = record { place = b.place; buffer = x; call = a.call } in n) q
    ∙ ap (λ x. let n : Next = record { place = b.place; buffer = b.buffer; call = x } in n) r

-- the numbers behind operands
past_all_is : (at : Next) (fs : Phrases) → past_all at fs ≡ record { place = at.place + all_rooms fs; buffer = at.buffer + length (all_bounds fs); call = at.call + all_calls fs }
past_all_is at none = next_same (omega arith) (omega arith) (omega arith)
past_all_is at (and f fs) = past_all_is (past at 1 f) fs ∙ next_same (omega arith) (omega (arith, length-append (bounds f) (all_bounds fs))) (omega arith)

-- the numbers behind a form are those behind its operands
pub inside_past : (at : Next) (results : ℕ) (h : Head) (span : Span) (fs : Phrases) → past_all (inside at results h) fs ≡ past at results (headed h span fs)
inside_past at results h span fs = past_all_is (inside at results h) fs ∙ next_same (omega arith) (omega (arith, length-append (own_bounds h) (all_bounds fs))) (omega arith)

-- numbers before others are small where these are
pub small_before : (at : Next) (fs : Phrases) → IsSmall (past_all at fs) → IsSmall at
small_before at fs small =
    let e = past_all_is at fs in
    let p : (past_all at fs).place ≡ at.place + all_rooms fs = ap (λ n. n.place) e in
    let q : (past_all at fs).buffer ≡ at.buffer + length (all_bounds fs) = ap (λ n. n.buffer) e in
    let r : (past_all at fs).call ≡ at.call + all_calls fs = ap (λ n. n.call) e in
    record { place = omega (arith, small.place); buffer = omega (arith, small.buffer); call = omega (arith, small.call) }

pub small_inside : (at : Next) (results : ℕ) (h : Head) (span : Span) (fs : Phrases) → IsSmall (past at results (headed h span fs)) → IsSmall (past_all (inside at results h) fs)
small_inside at results h span fs small = subst IsSmall (sym (inside_past at results h span fs)) small

-- the operands drawn so far and the rest make all
pub record AllDrawn (k : Known) (found : List ℕ) (d : Draft) (rest : Phrases) (start : Draft) (all : Phrases) : Type 0 where
  pub numbers : found ++ numbers k (next_of k d) rest ≡ numbers k (next_of k start) all
  pub places : d.places.items ++ all_entries k (next_of k d) rest ≡ start.places.items ++ all_entries k (next_of k start) all
  pub calls : d.calls.items ++ all_sites k (next_of k d) rest ≡ start.calls.items ++ all_sites k (next_of k start) all
  pub next : past_all (next_of k d) rest ≡ past_all (next_of k start) all

pub drawn_start : (k : Known) (d : Draft) (fs : Phrases) → AllDrawn k [] d fs d fs
drawn_start k d fs = record { numbers = refl; places = refl; calls = refl; next = refl }

pub drawn_step : (k : Known) (found more : List ℕ) (d e : Draft) (f : Phrase) (rest : Phrases) (start : Draft) (all : Phrases) (n : ℕ) →
    AllDrawn k found d (and f rest) start all → Draws k 1 f d e → n ≡ number k (next_of k d) f → more ≡ found ++ n ∷ [] → AllDrawn k more e rest start all
drawn_step k found more d e f rest start all n inv draws is put =
    let at : Next = next_of k d in
    record {
      numbers = ap (λ l. l ++ numbers k (next_of k e) rest) put ∙ append_assoc found (n ∷ []) (numbers k (next_of k e) rest) ∙ ap (λ u. found ++ n ∷ numbers k u rest) draws.next
          ∙ ap (λ m. found ++ m ∷ numbers k (past at 1 f) rest) is ∙ inv.numbers;
      places = ap (λ l. l ++ all_entries k (next_of k e) rest) draws.places ∙ append_assoc d.places.items (entries k at 1 f) (all_entries k (next_of k e) rest)
          ∙ ap (λ u. d.places.items ++ (entries k at 1 f ++ all_entries k u rest)) draws.next ∙ inv.places;
      calls = ap (λ l. l ++ all_sites k (next_of k e) rest) draws.calls ∙ append_assoc d.calls.items (sites k at 1 f) (all_sites k (next_of k e) rest)
          ∙ ap (λ u. d.calls.items ++ (sites k at 1 f ++ all_sites k u rest)) draws.next ∙ inv.calls;
      next = ap (λ u. past_all u rest) draws.next ∙ inv.next;
    }

pub drawn_all : (k : Known) (found : List ℕ) (d start : Draft) (all : Phrases) → AllDrawn k found d none start all → DrawsAll k all start d
drawn_all k found d start all inv = record { places = sym (append-nil d.places.items) ∙ inv.places; calls = sym (append-nil d.calls.items) ∙ inv.calls; next = inv.next }

-- what stood free, settled before what came later
pub settled : {A : Type 0} (xs ys : List A) (x y : A) (i : ℕ) → i ≡ length xs → slice_set ((xs ++ x ∷ []) ++ ys) i y ≡ xs ++ y ∷ ys
settled xs ys x y i e = ap (λ l. slice_set l i y) (append_assoc xs (x ∷ []) ys) ∙ ap (λ n. slice_set (xs ++ x ∷ ys) n y) e ∙ set-append_seam xs x ys y

-- a form that is no call
module _ (results : ℕ) (span : Span) (fs : Phrases) where
  plain_rooms : (h : Head) → IsPlain (headed h span fs) → own_rooms results h ≡ 1
  plain_rooms (Called n base) p = absurd p
  plain_rooms (Literal l) p = refl
  plain_rooms (Applied o) p = refl
  plain_rooms (Host n) p = refl
  plain_rooms (Sampled flip w) p = refl
  plain_rooms (Merged w) p = refl
  plain_rooms (Followed l) p = refl
  plain_rooms (Buffered most) p = refl

  plain_calls : (h : Head) → IsPlain (headed h span fs) → own_calls h ≡ 0
  plain_calls (Called n base) p = absurd p
  plain_calls (Literal l) p = refl
  plain_calls (Applied o) p = refl
  plain_calls (Host n) p = refl
  plain_calls (Sampled flip w) p = refl
  plain_calls (Merged w) p = refl
  plain_calls (Followed l) p = refl
  plain_calls (Buffered most) p = refl

  plain_sites : (k : Known) (at : Next) (args : List ℕ) (h : Head) → IsPlain (headed h span fs) → own_sites k at h args ≡ []
  plain_sites k at args (Called n base) p = absurd p
  plain_sites k at args (Literal l) p = refl
  plain_sites k at args (Applied o) p = refl
  plain_sites k at args (Host n) p = refl
  plain_sites k at args (Sampled flip w) p = refl
  plain_sites k at args (Merged w) p = refl
  plain_sites k at args (Followed l) p = refl
  plain_sites k at args (Buffered most) p = refl

  plain_entries : (k : Known) (at : Next) (b : ℕ) (args : List ℕ) (h : Head) → IsPlain (headed h span fs) → at.buffer ≡ b + 1 →
      own_entries k at results h args ≡ unnamed (own_kind k (b + length (own_bounds h)) h args) ∷ []
  plain_entries k at b args (Called n base) p e = absurd p
  plain_entries k at b args (Literal l) p e = refl
  plain_entries k at b args (Applied o) p e = refl
  plain_entries k at b args (Host n) p e = refl
  plain_entries k at b args (Sampled flip w) p e = refl
  plain_entries k at b args (Merged w) p e = refl
  plain_entries k at b args (Followed l) p e = refl
  plain_entries k at b args (Buffered most) p e = ap (λ n. unnamed (own_kind k n (Buffered most) args) ∷ []) e

  -- it is drawn alike for any number of results
  pub any_results : (k : Known) (h : Head) (d e : Draft) → IsPlain (headed h span fs) → Draws k 1 (headed h span fs) d e → Draws k results (headed h span fs) d e
  any_results k (Called n base) d e p draws = absurd p
  any_results k (Literal l) d e p draws = draws
  any_results k (Applied o) d e p draws = draws
  any_results k (Host n) d e p draws = draws
  any_results k (Sampled flip w) d e p draws = draws
  any_results k (Merged w) d e p draws = draws
  any_results k (Followed l) d e p draws = draws
  any_results k (Buffered most) d e p draws = draws

  pub any_small : (at : Next) (h : Head) → IsPlain (headed h span fs) → IsSmall (past at results (headed h span fs)) → IsSmall (past at 1 (headed h span fs))
  any_small at (Called n base) p s = absurd p
  any_small at (Literal l) p s = s
  any_small at (Applied o) p s = s
  any_small at (Host n) p s = s
  any_small at (Sampled flip w) p s = s
  any_small at (Merged w) p s = s
  any_small at (Followed l) p s = s
  any_small at (Buffered most) p s = s

-- a form is drawn by keeping its place free, drawing its operands, and settling its place
module _ (k : Known) (h : Head) (span : Span) (fs : Phrases) (plain : IsPlain (headed h span fs)) (d0 d1 : Draft)
    (places : d1.places.items ≡ d0.places.items ++ unnamed kind.Param ∷ []) (calls_1 : d1.calls ≡ d0.calls) (buffers_1 : d1.buffers ≡ d0.buffers + length (own_bounds h)) where
  pub next_inside : next_of k d1 ≡ inside (next_of k d0) 1 h
  next_inside =
      let l : length d1.places.items ≡ length d0.places.items + 1 = ap length places ∙ length-append d0.places.items (unnamed kind.Param ∷ []) in
      let c : length d1.calls.items ≡ length d0.calls.items = ap (λ v. length v.items) calls_1 in
      let r : own_rooms 1 h ≡ 1 = plain_rooms 1 span fs h plain in
      let q : own_calls h ≡ 0 = plain_calls 1 span fs h plain in
      next_same (omega arith) (omega arith) (omega arith)

  pub formed : (d2 d3 : Draft) (own : ℕ) (what : PlaceKind) → DrawsAll k fs d1 d2 → own ≡ length d0.places.items → what ≡ own_kind k d1.buffers h (numbers k (next_of k d1) fs) →
      d3.places.items ≡ slice_set d2.places.items own (unnamed what) → d3.calls ≡ d2.calls → d3.buffers ≡ d2.buffers → Draws k 1 (headed h span fs) d0 d3
  formed d2 d3 own what drawn is_own is_what set_places calls_3 buffers_3 =
      let at : Next = next_of k d0 in
      let in_ : Next = inside at 1 h in
      let args : List ℕ = numbers k in_ fs in
      let what_is : what ≡ own_kind k (d0.buffers + length (own_bounds h)) h args =
      is_what ∙ ap (λ u. own_kind k d1.buffers h (numbers k u fs)) next_inside ∙ ap (λ b. own_kind k b h args) buffers_1 in
      let before : d2.places.items ≡ (d0.places.items ++ unnamed kind.Param ∷ []) ++ all_entries k in_ fs =
      drawn.places ∙ ap (λ l. l ++ all_entries k (next_of k d1) fs) places ∙ ap (λ u. (d0.places.items ++ unnamed kind.Param ∷ []) ++ all_entries k u fs) next_inside in
      let len : length d3.places.items ≡ length d2.places.items = ap length set_places ∙ length-set d2.places.items own (unnamed what) in
      let len_calls : length d3.calls.items ≡ length d2.calls.items = ap (λ v. length v.items) calls_3 in
      record {
        places = set_places ∙ ap (λ l. slice_set l own (unnamed what)) before ∙ settled d0.places.items (all_entries k in_ fs) (unnamed kind.Param) (unnamed what) own is_own
            ∙ ap (λ w. d0.places.items ++ unnamed w ∷ all_entries k in_ fs) what_is
            ∙ ap (λ es. d0.places.items ++ (es ++ all_entries k in_ fs)) (sym (plain_entries 1 span fs k at d0.buffers args h plain refl));
        calls = ap (λ v. v.items) calls_3 ∙ drawn.calls ∙ ap (λ v. v.items ++ all_sites k (next_of k d1) fs) calls_1 ∙ ap (λ u. d0.calls.items ++ all_sites k u fs) next_inside
            ∙ ap (λ ss. d0.calls.items ++ (ss ++ all_sites k in_ fs)) (sym (plain_sites 1 span fs k at args h plain));
        next = let e : next_of k d3 ≡ next_of k d2 = next_same (omega arith) (omega arith) (omega arith) in
            e ∙ drawn.next ∙ ap (λ u. past_all u fs) next_inside ∙ inside_past at 1 h span fs;
      }

-- the results of a call
pub length_results : (call first n : ℕ) → length (results_from call first n) ≡ n
length_results call first zero = refl
length_results call first (suc n) = omega (arith, length_results call (first + 1) n)

-- a call is drawn by its results' places, keeping it free, drawing its arguments, and settling it
module _ (k : Known) (n : names.Name) (base : Option Bits) (span : Span) (fs : Phrases) (results : ℕ) (d0 d1 : Draft)
    (places : d1.places.items ≡ d0.places.items ++ results_from (length d0.calls.items + 1) 0 results) (calls_1 : d1.calls.items ≡ d0.calls.items ++ free_site ∷ [])
    (buffers_1 : d1.buffers ≡ d0.buffers) where
  pub next_called : next_of k d1 ≡ inside (next_of k d0) results (Called n base)
  next_called =
      let rs : List PlaceEntry = results_from (length d0.calls.items + 1) 0 results in
      let l : length d1.places.items ≡ length d0.places.items + results =
      ap length places ∙ length-append d0.places.items rs ∙ ap (λ m. length d0.places.items + m) (length_results (length d0.calls.items + 1) 0 results) in
      let c : length d1.calls.items ≡ length d0.calls.items + 1 = ap length calls_1 ∙ length-append d0.calls.items (free_site ∷ []) in
      next_same (omega arith) (omega arith) (omega arith)

  pub called : (d2 d3 : Draft) (at : ℕ) (args : List ℕ) (call : CallSite) → DrawsAll k fs d1 d2 → at ≡ length d0.calls.items → args ≡ numbers k (next_of k d1) fs → call ≡ site_of k n base (next_of k d0).place args →
      d3.calls.items ≡ slice_set d2.calls.items at call → d3.places ≡ d2.places → d3.buffers ≡ d2.buffers → Draws k results (headed (Called n base) span fs) d0 d3
  called d2 d3 at args call drawn is_at is_args is_call set_calls places_3 buffers_3 =
      let in_ : Next = inside (next_of k d0) results (Called n base) in
      let call_is : call ≡ site_of k n base (next_of k d0).place (numbers k in_ fs) = is_call ∙ ap (site_of k n base (next_of k d0).place) (is_args ∙ ap (λ u. numbers k u fs) next_called) in
      let before : d2.calls.items ≡ (d0.calls.items ++ free_site ∷ []) ++ all_sites k in_ fs =
      drawn.calls ∙ ap (λ l. l ++ all_sites k (next_of k d1) fs) calls_1 ∙ ap (λ u. (d0.calls.items ++ free_site ∷ []) ++ all_sites k u fs) next_called in
      let len : length d3.calls.items ≡ length d2.calls.items = ap length set_calls ∙ length-set d2.calls.items at call in
      let len_places : length d3.places.items ≡ length d2.places.items = ap (λ v. length v.items) places_3 in
      record {
        places = ap (λ v. v.items) places_3 ∙ drawn.places ∙ ap (λ l. l ++ all_entries k (next_of k d1) fs) places
            ∙ append_assoc d0.places.items (results_from (length d0.calls.items + 1) 0 results) (all_entries k (next_of k d1) fs)
            ∙ ap (λ u. d0.places.items ++ (results_from (length d0.calls.items + 1) 0 results ++ all_entries k u fs)) next_called;
        calls = set_calls ∙ ap (λ l. slice_set l at call) before ∙ settled d0.calls.items (all_sites k in_ fs) free_site call at is_at
            ∙ ap (λ c. d0.calls.items ++ c ∷ all_sites k in_ fs) call_is;
        next = let e : next_of k d3 ≡ next_of k d2 = next_same (omega arith) (omega arith) (omega arith) in
            e ∙ drawn.next ∙ ap (λ u. past_all u fs) next_called ∙ inside_past (next_of k d0) results (Called n base) span fs;
      }

-- a form that is no call, whatever it is
pub plain_results : (k : Known) (results : ℕ) (f : Phrase) (d e : Draft) → IsPlain f → Draws k 1 f d e → Draws k results f d e
plain_results k results (name n) d e p draws = absurd p
plain_results k results (headed h span fs) d e p draws = any_results results span fs k h d e p draws

pub plain_past : (at : Next) (results : ℕ) (f : Phrase) → IsPlain f → IsSmall (past at results f) → IsSmall (past at 1 f)
plain_past at results (name n) p small = absurd p
plain_past at results (headed h span fs) p small = any_small results span fs at h p small

pub plain_number : (k : Known) (at : Next) (f : Phrase) → IsPlain f → number k at f ≡ at.place
plain_number k at (name n) p = absurd p
plain_number k at (headed h span fs) p = refl

pub plain_small : (k : Known) (f : Phrase) (d0 d1 : Draft) → IsPlain f → d1.places.items ≡ d0.places.items ++ unnamed kind.Param ∷ [] → d1.calls ≡ d0.calls →
    d1.buffers ≡ d0.buffers + buffers_of f → IsSmall (past (next_of k d0) 1 f) → IsSmall (past_all (next_of k d1) (phrase_operands f))
plain_small k (name n) d0 d1 p places calls_1 buffers_1 small = absurd p
plain_small k (headed h span fs) d0 d1 p places calls_1 buffers_1 small =
    subst IsSmall (sym (ap (λ u. past_all u fs) (next_inside k h span fs p d0 d1 places calls_1 buffers_1))) (small_inside (next_of k d0) 1 h span fs small)

pub plain_drawn : (k : Known) (f : Phrase) (d0 d1 d2 d3 : Draft) (own : ℕ) (what : PlaceKind) → IsPlain f → d1.places.items ≡ d0.places.items ++ unnamed kind.Param ∷ [] →
    d1.calls ≡ d0.calls → d1.buffers ≡ d0.buffers + buffers_of f → DrawsAll k (phrase_operands f) d1 d2 → own ≡ length d0.places.items →
    what ≡ kind_of k d1.buffers f (numbers k (next_of k d1) (phrase_operands f)) → d3.places.items ≡ slice_set d2.places.items own (unnamed what) → d3.calls ≡ d2.calls → d3.buffers ≡ d2.buffers →
    Draws k 1 f d0 d3
plain_drawn k (name n) d0 d1 d2 d3 own what p places calls_1 buffers_1 drawn is_own is_what set_places calls_3 buffers_3 = absurd p
plain_drawn k (headed h span fs) d0 d1 d2 d3 own what p places calls_1 buffers_1 drawn is_own is_what set_places calls_3 buffers_3 =
    formed k h span fs p d0 d1 places calls_1 buffers_1 d2 d3 own what drawn is_own is_what set_places calls_3 buffers_3
