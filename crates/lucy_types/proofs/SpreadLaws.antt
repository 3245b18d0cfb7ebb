-- A type spreads until nothing beside what was reached is left.
use Rattle.std.proofs.Common.{ℕ, ◌+◌, ◌≡◌, ◌≤◌, ◌<◌, List, [], Some, length, get_or, ap, sym, ◌∙◌, subst, inl, inr, arith}
use Rattle.std.specs.List.{Contains}
use Rattle.std.proofs.lemmas.List.{get_or_default}
use Rattle.std.proofs.lemmas.List.Elements.{Contains-get_or}
use Rattle.std.proofs.lemmas.Bool.{cases_lt, cases_eq}
use Rattle.std.proofs.lemmas.Option.{slice_get_within, same_Some, none-some}
use Rattle.lucy_host.proofs.Elements.{get_there}
use Rattle.lucy_types.specs.declared.ty.Ty.{Ty}
use Rattle.lucy_types.specs.declared.graph.Graph.{Graph}
use Rattle.lucy_types.specs.declared.flood.Flood.{Flood}
use Rattle.lucy_types.specs.declared.flood.Reached.{Reached}
use Rattle.lucy_types.specs.declared.rule.Rule.TheVariants.{Alike}
use Rattle.lucy_types.specs.Graphs.{GraphRule, IsGraph, beside}
use Rattle.lucy_types.specs.Flooding.{mark, reached, IsFlood, IsClosed, IsSettled, Grows, AreRecent, MayReach, HasReached, Floods}
use Rattle.lucy_types.proofs.FloodLaws.{was_reached, grows_on}

-- what may be reached may be so once the flood has grown
pub may_grow : (g : Graph) (old new : Flood) (p : ℕ) (t : Ty) → Grows t old new → MayReach g old p t → MayReach g new p t
may_grow g old new p t h m q b =
    elim (was_reached (mark new q)) [
      | inl u ↦ inl u
      | inr u ↦ inr (elim (h.only q u.0 u.1) [
        | inl v ↦ elim (m q b) [ inl w ↦ absurd (none-some u.0 (sym w ∙ v)) | inr w ↦ u.1 ∙ sym v ∙ w ]
        | inr v ↦ u.1 ∙ ap Some v.1
      ])
    ]

-- what is beside a recent place is not reached yet or of the type, where all before the recent ones is closed
pub may_reach : (g : Graph) (f : Flood) (start next : ℕ) (t : Ty) (r : Reached) → IsGraph g → IsFlood g f → IsClosed g f next → AreRecent f start t → start ≤ next
    → mark f r.place ≡ Some t → MayReach g f r.place t
may_reach g f start next t r ig h c a l m q b =
    elim (was_reached (mark f q)) [
      | inl u ↦ inl u
      | inr u ↦ inr (
          let w = h.queued q u.0 u.1 in
          elim (cases_lt w.0 next) [
            | inl v ↦
                let turned = subst (λ z. GraphRule g (Alike z r.place)) (sym w.3) (ig.turned r.place q b) in
                let e : mark f r.place ≡ mark f w.1.place = c w.0 r.place w.1 v w.2 turned in
                ap (mark f) (sym w.3) ∙ sym e ∙ m
            | inr v ↦ ap (mark f) (sym w.3) ∙ a w.0 w.1 (omega arith) w.2
          ])
    ]

pub recent_grows : (f new : Flood) (start : ℕ) (t : Ty) → Grows t f new → AreRecent f start t → AreRecent new start t
recent_grows f new start t h a i r l e =
    elim (cases_lt i (length f.queue.items)) [
      | inl u ↦ h.kept r.place t (a i r l (sym (h.queue i u) ∙ e))
      | inr u ↦ h.recent i r u e
    ]

-- what is closed stays so
pub closed_grows : (g : Graph) (f new : Flood) (upto : ℕ) (t : Ty) → IsFlood g f → Grows t f new → upto ≤ length f.queue.items → IsClosed g f upto → IsClosed g new upto
closed_grows g f new upto t h w l c i q r b e s =
    let old : reached f i ≡ Some r = sym (w.queue i (omega arith)) ∙ e in
    let u = h.typed i r old in
    let v : mark f q ≡ Some u.0 = c i q r b old s ∙ u.1 in
    w.kept q u.0 v ∙ sym (w.kept r.place u.0 u.1)

-- once what is beside the next place was reached, one place more is closed
pub closed_more : (g : Graph) (f new : Flood) (next : ℕ) (t : Ty) (r : Reached) → IsFlood g f → IsClosed g f next → reached f next ≡ Some r → mark f r.place ≡ Some t
    → Floods g r.place t f new → IsClosed g new (next + 1)
closed_more g f new next t r h c e m w i q s b f' a =
    let l : next < length f.queue.items = slice_get_within f.queue.items next r e in
    elim (cases_eq i next) [
      | inl u ↦
          let same : r ≡ s = same_Some r s (sym e ∙ sym (w.grows.queue next l) ∙ ap (reached new) (sym u) ∙ f') in
          let k : mark new r.place ≡ Some t = w.grows.kept r.place t m in
          w.reaches q (subst (λ (z : Reached). GraphRule g (Alike z.place q)) (sym same) a) ∙ sym k ∙ ap (λ z. mark new z.place) same
      | inr u ↦ closed_grows g f new next t h w.grows (omega arith) c i q s (omega arith) f' a
    ]

-- a flood that is closed up to its end has come to rest
pub closed_end : (g : Graph) (f : Flood) (next : ℕ) → IsFlood g f → length f.queue.items ≤ next → IsClosed g f next → IsSettled g f
closed_end g f next h l c = record { flood = h; closed = λ i q r b e s. c i q r (omega arith) e s }

-- the places beside one, so many of which were reached
abbrev pub AreReached : Flood → List ℕ → ℕ → Ty → Type 0
AreReached f near upto t = (j : ℕ) → j < upto → mark f (get_or near j 0) ≡ Some t

pub reached_more : (old new : Flood) (near : List ℕ) (upto : ℕ) (t : Ty) → AreReached old near upto t → Grows t old new → mark new (get_or near upto 0) ≡ Some t → AreReached new near (upto + 1) t
reached_more old new near upto t all grows e j l = elim (cases_lt j upto) [
  | inl b ↦ grows.kept (get_or near j 0) t (all j b)
  | inr b ↦ let same : upto ≡ j = omega arith in subst (λ k. mark new (get_or near k 0) ≡ Some t) same e
]

pub all_reached : (g : Graph) (f : Flood) (p : ℕ) (t : Ty) (near : List ℕ) (upto : ℕ) → near ≡ beside g.near.items p → length near ≤ upto → AreReached f near upto t → HasReached g f p t
all_reached g f p t near upto e l a q c =
    let d = subst (λ ns. Contains ns q) (sym e) c in
    let b : d.0 < length near = d.1 in
    ap (mark f) (sym (let x : get_or near d.0 0 ≡ q = get_or_default near d.0 0 q b ∙ d.2 in x)) ∙ a d.0 (omega arith)

-- the list of what is beside a place, as it is read
pub near_read : (near : List (List ℕ)) (p : ℕ) (list read : List ℕ) → p < length near → list ≡ read → read ≡ get_or near p read → list ≡ beside near p
near_read near p list read l e h = e ∙ h ∙ get_or_default near p read [] l

-- each of the list is beside the place
pub near_alike : (g : Graph) (p : ℕ) (list : List ℕ) (j : ℕ) → list ≡ beside g.near.items p → j < length list → GraphRule g (Alike p (get_or list j 0))
near_alike g p list j e l = subst (λ ns. Contains ns (get_or list j 0)) e (Contains-get_or list j 0 l)

-- one step of spreading
pub record Spreads (g : Graph) (t : Ty) (start : ℕ) (old : Flood) (next : ℕ) (f : Flood) : Type 0 where
  pub flood : IsFlood g f
  pub grows : Grows t old f
  pub closed : IsClosed g f next
  pub recent : AreRecent f start t
  pub later : start ≤ next

pub spread_more : (g : Graph) (t : Ty) (start : ℕ) (old f new : Flood) (next : ℕ) → Spreads g t start old next f → next < length f.queue.items
    → ((r : Reached) → reached f next ≡ Some r → Floods g r.place t f new) → Spreads g t start old (next + 1) new
spread_more g t start old f new next s l h =
    let r = get_there f.queue.items next l in
    let w = h r.0 r.1 in
    record {
      flood = w.flood;
      grows = grows_on t old f new s.grows w.grows;
      closed = closed_more g f new next t r.0 s.flood s.closed r.1 (s.recent next r.0 s.later r.1) w;
      recent = recent_grows f new start t w.grows s.recent;
      later = let b : start ≤ next = s.later in omega arith;
    }
