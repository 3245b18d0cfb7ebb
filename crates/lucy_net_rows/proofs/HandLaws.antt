-- Ends among the parts of two workers.
use Rattle.std.proofs.Common.{ℕ, ◌+◌, ◌-◌, ◌<◌, ◌≤◌, ◌≡◌, Bool, true, false, List, [], ◌∷◌, ◌++◌, length, length-append, get_or, set, take, ap, sym, refl, ◌∙◌, subst, inl, inr, arith}
use Rattle.std.specs.Prelude.{ℤ, All, Some, slice_get, vec_capacity}
use Rattle.std.proofs.lemmas.Bool.{cases_eq}
use Rattle.std.proofs.lemmas.List.Sums.{sum_by_more}
use Rattle.std.proofs.lemmas.Option.{slice_get-get_or, slice_get_within, get_or_from_slice_get}
use Rattle.std.proofs.lemmas.List.Elements.{All-set, All-push, All-same, All-weaker}
use Rattle.lucy_word.proofs.Lists.{get_set_other, get_one}
use Rattle.lucy_host.specs.declared.kind.HostKind.{HostKind}
use Rattle.lucy_host.proofs.Elements.{get_last, get_left}
use Rattle.lucy_net.specs.declared.kind.ActorKind.{ActorKind}
use Rattle.lucy_net.specs.declared.kind.ActorKind.TheVariants.{Input, Lit, Op, Host, When, Merge, Fby, Pass, Output}
use Rattle.lucy_net.specs.declared.net.Net.{Net}
use Rattle.lucy_net.specs.declared.net.Actor.{Actor}
use Rattle.lucy_net.specs.States.{IsUsable}
use Rattle.lucy_ring.specs.Views.{GiverView, TakerView}
use Rattle.lucy_core.proofs.ListLaws.{get_push}
use Rattle.lucy_worker.specs.declared.part.Part.{Part}
use Rattle.lucy_worker.specs.declared.place.EndPlace.{EndPlace}
use Rattle.lucy_worker.specs.News.{HasItems, HasRoom, IsNew, few_moved, ends_of, ends_by}
use Rattle.lucy_worker.specs.Turns.{HaveRun}
use Rattle.lucy_worker.specs.Meets.{HasGiver, HasTaker, MetBetween, MetWithin}
use Rattle.lucy_worker.specs.Laws.{KeepsGiver, KeepsTaker, IsPlace, OthersStay, AreEndsAt, RunsKeepEnds, OwnMeetingsKeepEnds, MeetingsKeepEnds, KeptEndsAreOfOneRing}
use Rattle.lucy_worker.proofs.EndLaws.{ends_at}
use Rattle.lucy_worker.proofs.WithinLaws.{get_set}
use Rattle.lucy_net_rows.specs.declared.parity.End.{End}
use Rattle.lucy_net_rows.specs.declared.parity.Link.{Link}
use Rattle.lucy_net_rows.specs.ByHand.{side, IsLinked, AreLinked, AreOneEnd, HaveOwnEnds, AreApart, HasMetByHand, IsBegun, HasOneMoreGiver, HasOneMoreTaker, KeepEnds, HasGainedGiver, HasGainedTaker, BothKeepEnds, BothBegun, HaveGainedGiver, HaveGainedTaker, HaveJoined, AreJoined}

-- an end at no place of its own
abbrev nowhere_end : End
nowhere_end = record { odd = false; place = record { part = 0; number = 0 } }

abbrev pub nowhere : Link
nowhere = record { giver = nowhere_end; taker = nowhere_end }

-- an element of a list that grew
grown : {X : Type 0} (xs : List X) (y x : X) (k : ℕ) → slice_get xs k ≡ Some x → slice_get (xs ++ y ∷ []) k ≡ Some x
grown xs y x k at = get_left xs (y ∷ []) k (slice_get_within xs k x at) ∙ at

-- what is kept is kept further
kept_giver : (ps qs rs : List Part) (place : EndPlace) → KeepsGiver ps qs place → KeepsGiver qs rs place → KeepsGiver ps rs place
kept_giver ps qs rs place a b = λ g. (let h = a g in let i = b h.0 in (i.0, i.1 ∙ h.1))

kept_taker : (ps qs rs : List Part) (place : EndPlace) → KeepsTaker ps qs place → KeepsTaker qs rs place → KeepsTaker ps rs place
kept_taker ps qs rs place a b = λ t. (let u = a t in let v = b u.0 in (v.0, v.1 ∙ u.1))

all_kept : (ps : List Part) → KeepEnds ps ps
all_kept ps = λ place. (λ g. (g, refl), λ t. (t, refl))

-- one part more
pub begun_more : (ps qs : List Part) (p : Part) → qs ≡ ps ++ p ∷ [] → All IsBegun ps → IsBegun p → All IsBegun qs
begun_more ps qs p e all begun = All-same IsBegun qs (ps ++ p ∷ []) e (All-push IsBegun ps p all begun)

-- a part with one end more
begun_giver : (p q : Part) (at : ℕ) (g : GiverView) → IsBegun p → g.given ≡ [] → HasOneMoreGiver p at g q → IsBegun q
begun_giver p q at g b none more =
    let all : All (λ (x : GiverView). x.given ≡ []) q.givers.items = All-same (λ (x : GiverView). x.given ≡ []) q.givers.items (p.givers.items ++ g ∷ []) more.on (All-push (λ (x : GiverView). x.given ≡ []) p.givers.items g b.given none) in
    let same : IsBegun (record p { givers = q.givers }) = record { usable = b.usable; state = b.state; room = b.room; given = all; taken = b.taken } in
    subst IsBegun (sym more.rest) same

begun_taker : (p q : Part) (at : ℕ) (t : TakerView) → IsBegun p → t.taken ≡ [] → HasOneMoreTaker p at t q → IsBegun q
begun_taker p q at t b none more =
    let all : All (λ (x : TakerView). x.taken ≡ []) q.takers.items = All-same (λ (x : TakerView). x.taken ≡ []) q.takers.items (p.takers.items ++ t ∷ []) more.on (All-push (λ (x : TakerView). x.taken ≡ []) p.takers.items t b.taken none) in
    let same : IsBegun (record p { takers = q.takers }) = record { usable = b.usable; state = b.state; room = b.room; given = b.given; taken = all } in
    subst IsBegun (sym more.rest) same

-- the parts keep all ends where one of them has one more
giver_keeps : (ps : List Part) (k at : ℕ) (p q : Part) (g : GiverView) → slice_get ps k ≡ Some p → HasOneMoreGiver p at g q → KeepEnds ps (set ps k q)
giver_keeps ps k at p q g here more = λ place. (
  λ was. elim (cases_eq place.part k) [
    | inl same ↦
        let part : p ≡ was.part = get_one ps k p was.part here (ap (slice_get ps) (sym same) ∙ was.part_is) in
        let end : slice_get q.givers.items place.number ≡ Some was.end = ap (λ (xs : List GiverView). slice_get xs place.number) more.on ∙ grown p.givers.items g was.end place.number (ap (λ (x : Part). slice_get x.givers.items place.number) part ∙ was.end_is) in
        (record { part = q; part_is = ap (slice_get (set ps k q)) same ∙ get_set ps k p q here; end = was.end; end_is = end }, refl)
    | inr other ↦ (record { part = was.part; part_is = get_set_other ps k place.part q other ∙ was.part_is; end = was.end; end_is = was.end_is }, refl)
  ],
  λ was. elim (cases_eq place.part k) [
    | inl same ↦
        let part : p ≡ was.part = get_one ps k p was.part here (ap (slice_get ps) (sym same) ∙ was.part_is) in
        let takers : q.takers ≡ p.takers = ap (λ (x : Part). x.takers) more.rest in
        let end : slice_get q.takers.items place.number ≡ Some was.end = ap (λ ts. slice_get ts.items place.number) takers ∙ ap (λ (x : Part). slice_get x.takers.items place.number) part ∙ was.end_is in
        (record { part = q; part_is = ap (slice_get (set ps k q)) same ∙ get_set ps k p q here; end = was.end; end_is = end }, refl)
    | inr other ↦ (record { part = was.part; part_is = get_set_other ps k place.part q other ∙ was.part_is; end = was.end; end_is = was.end_is }, refl)
  ],
)

taker_keeps : (ps : List Part) (k at : ℕ) (p q : Part) (t : TakerView) → slice_get ps k ≡ Some p → HasOneMoreTaker p at t q → KeepEnds ps (set ps k q)
taker_keeps ps k at p q t here more = λ place. (
  λ was. elim (cases_eq place.part k) [
    | inl same ↦
        let part : p ≡ was.part = get_one ps k p was.part here (ap (slice_get ps) (sym same) ∙ was.part_is) in
        let givers : q.givers ≡ p.givers = ap (λ (x : Part). x.givers) more.rest in
        let end : slice_get q.givers.items place.number ≡ Some was.end = ap (λ gs. slice_get gs.items place.number) givers ∙ ap (λ (x : Part). slice_get x.givers.items place.number) part ∙ was.end_is in
        (record { part = q; part_is = ap (slice_get (set ps k q)) same ∙ get_set ps k p q here; end = was.end; end_is = end }, refl)
    | inr other ↦ (record { part = was.part; part_is = get_set_other ps k place.part q other ∙ was.part_is; end = was.end; end_is = was.end_is }, refl)
  ],
  λ was. elim (cases_eq place.part k) [
    | inl same ↦
        let part : p ≡ was.part = get_one ps k p was.part here (ap (slice_get ps) (sym same) ∙ was.part_is) in
        let end : slice_get q.takers.items place.number ≡ Some was.end = ap (λ (xs : List TakerView). slice_get xs place.number) more.on ∙ grown p.takers.items t was.end place.number (ap (λ (x : Part). slice_get x.takers.items place.number) part ∙ was.end_is) in
        (record { part = q; part_is = ap (slice_get (set ps k q)) same ∙ get_set ps k p q here; end = was.end; end_is = end }, refl)
    | inr other ↦ (record { part = was.part; part_is = get_set_other ps k place.part q other ∙ was.part_is; end = was.end; end_is = was.end_is }, refl)
  ],
)

pub giver_gained : (ps : List Part) (k at : ℕ) (p q : Part) (g : GiverView) → All IsBegun ps → g.given ≡ [] → slice_get ps k ≡ Some p → HasOneMoreGiver p at g q → HasGainedGiver ps (record { part = k; number = at }) g (set ps k q)
giver_gained ps k at p q g all none here more =
    let begun : IsBegun p = subst IsBegun (get_or_from_slice_get ps k p p here) (all k p (slice_get_within ps k p here)) in
    record {
      begun = All-set IsBegun ps k q (begun_giver p q at g begun none more) all;
      keep = giver_keeps ps k at p q g here more;
      none = λ was.
          (let part : p ≡ was.part = get_one ps k p was.part here was.part_is in
          let within : at < length was.part.givers.items = slice_get_within was.part.givers.items at was.end was.end_is in
          let long : length p.givers.items ≡ length was.part.givers.items = ap (λ (x : Part). length x.givers.items) part in
          let number : at ≡ length p.givers.items = more.number in
          absurd (omega arith));
      there = record { part = q; part_is = get_set ps k p q here; end = g; end_is = ap (slice_get q.givers.items) more.number ∙ ap (λ (xs : List GiverView). slice_get xs (length p.givers.items)) more.on ∙ get_last p.givers.items g };
      is = refl;
    }

pub taker_gained : (ps : List Part) (k at : ℕ) (p q : Part) (t : TakerView) → All IsBegun ps → t.taken ≡ [] → slice_get ps k ≡ Some p → HasOneMoreTaker p at t q → HasGainedTaker ps (record { part = k; number = at }) t (set ps k q)
taker_gained ps k at p q t all none here more =
    let begun : IsBegun p = subst IsBegun (get_or_from_slice_get ps k p p here) (all k p (slice_get_within ps k p here)) in
    record {
      begun = All-set IsBegun ps k q (begun_taker p q at t begun none more) all;
      keep = taker_keeps ps k at p q t here more;
      none = λ was.
          (let part : p ≡ was.part = get_one ps k p was.part here was.part_is in
          let within : at < length was.part.takers.items = slice_get_within was.part.takers.items at was.end was.end_is in
          let long : length p.takers.items ≡ length was.part.takers.items = ap (λ (x : Part). length x.takers.items) part in
          let number : at ≡ length p.takers.items = more.number in
          absurd (omega arith));
      there = record { part = q; part_is = get_set ps k p q here; end = t; end_is = ap (slice_get q.takers.items) more.number ∙ ap (λ (xs : List TakerView). slice_get xs (length p.takers.items)) more.on ∙ get_last p.takers.items t };
      is = refl;
    }

-- of two lists
even_keeps : (even odd even' : List Part) → KeepEnds even even' → BothKeepEnds even odd even' odd
even_keeps even odd even' keep false = keep
even_keeps even odd even' keep true = all_kept odd

odd_keeps : (even odd odd' : List Part) → KeepEnds odd odd' → BothKeepEnds even odd even odd'
odd_keeps even odd odd' keep false = all_kept even
odd_keeps even odd odd' keep true = keep

pub even_giver : (even odd even' : List Part) (place : EndPlace) (g : GiverView) → BothBegun even odd → HasGainedGiver even place g even' → HaveGainedGiver even odd (record { odd = false; place = place }) g even' odd
even_giver even odd even' place g begun is = record { begun = (is.begun, begun.1); keep = even_keeps even odd even' is.keep; none = is.none; there = is.there; is = is.is }

pub odd_giver : (even odd odd' : List Part) (place : EndPlace) (g : GiverView) → BothBegun even odd → HasGainedGiver odd place g odd' → HaveGainedGiver even odd (record { odd = true; place = place }) g even odd'
odd_giver even odd odd' place g begun is = record { begun = (begun.0, is.begun); keep = odd_keeps even odd odd' is.keep; none = is.none; there = is.there; is = is.is }

pub even_taker : (even odd even' : List Part) (place : EndPlace) (t : TakerView) → BothBegun even odd → HasGainedTaker even place t even' → HaveGainedTaker even odd (record { odd = false; place = place }) t even' odd
even_taker even odd even' place t begun is = record { begun = (is.begun, begun.1); keep = even_keeps even odd even' is.keep; none = is.none; there = is.there; is = is.is }

pub odd_taker : (even odd odd' : List Part) (place : EndPlace) (t : TakerView) → BothBegun even odd → HasGainedTaker odd place t odd' → HaveGainedTaker even odd (record { odd = true; place = place }) t even odd'
odd_taker even odd odd' place t begun is = record { begun = (begun.0, is.begun); keep = odd_keeps even odd odd' is.keep; none = is.none; there = is.there; is = is.is }

-- a ring, whose giver was given before its taker
pub ring_joined : (even odd even' odd' even'' odd'' : List Part) (giver taker : End) (g : GiverView) (t : TakerView) → g.ring ≡ t.ring → HaveGainedGiver even odd giver g even' odd' → HaveGainedTaker even' odd' taker t even'' odd'' →
    HaveJoined even odd (record { giver = giver; taker = taker }) even'' odd''
ring_joined even odd even' odd' even'' odd'' giver taker g t name gave took =
    let on = (took.keep giver.odd giver.place).0 gave.there in
    record {
      begun = took.begun;
      keep = λ is_odd place. (
        kept_giver (side even odd is_odd) (side even' odd' is_odd) (side even'' odd'' is_odd) place (gave.keep is_odd place).0 (took.keep is_odd place).0,
        kept_taker (side even odd is_odd) (side even' odd' is_odd) (side even'' odd'' is_odd) place (gave.keep is_odd place).1 (took.keep is_odd place).1,
      );
      linked = ends_at (side even'' odd'' giver.odd) (side even'' odd'' taker.odd) giver.place taker.place on.0 took.there
          (on.1 ∙ ap (λ (e : GiverView). e.ring) gave.is ∙ name ∙ sym (ap (λ (e : TakerView). e.ring) took.is));
      no_giver = gave.none;
      no_taker = λ was. took.none ((gave.keep taker.odd taker.place).1 was).0;
    }

-- where all ends are kept the rings are still linked
kept_linked : (even odd even' odd' : List Part) (link : Link) → KeptEndsAreOfOneRing → BothKeepEnds even odd even' odd' → IsLinked even odd link → IsLinked even' odd' link
kept_linked even odd even' odd' link rings keep is = rings (side even odd link.giver.odd) (side even odd link.taker.odd) (side even' odd' link.giver.odd) (side even' odd' link.taker.odd) link.giver.place link.taker.place
    (keep link.giver.odd link.giver.place).0 (keep link.taker.odd link.taker.place).1 is

-- an end that is at the place of another
giver_moved : (even odd : List Part) (a b : End) → AreOneEnd a b → HasGiver (side even odd a.odd) a.place → HasGiver (side even odd b.odd) b.place
giver_moved even odd a b same has =
    let list : side even odd a.odd ≡ side even odd b.odd = ap (side even odd) same.0 in
    record {
      part = has.part;
      part_is = ap (λ ps. slice_get ps b.place.part) (sym list) ∙ ap (slice_get (side even odd a.odd)) (sym same.1.0) ∙ has.part_is;
      end = has.end;
      end_is = ap (slice_get has.part.givers.items) (sym same.1.1) ∙ has.end_is;
    }

taker_moved : (even odd : List Part) (a b : End) → AreOneEnd a b → HasTaker (side even odd a.odd) a.place → HasTaker (side even odd b.odd) b.place
taker_moved even odd a b same has =
    let list : side even odd a.odd ≡ side even odd b.odd = ap (side even odd) same.0 in
    record {
      part = has.part;
      part_is = ap (λ ps. slice_get ps b.place.part) (sym list) ∙ ap (slice_get (side even odd a.odd)) (sym same.1.0) ∙ has.part_is;
      end = has.end;
      end_is = ap (slice_get has.part.takers.items) (sym same.1.1) ∙ has.end_is;
    }

turned : (a b : End) → AreOneEnd a b → AreOneEnd b a
turned a b same = (sym same.0, (sym same.1.0, sym same.1.1))

-- a ring that was linked has other ends than one that was made then
own_ends : (even odd even' odd' : List Part) (a b : Link) → IsLinked even odd a → HaveJoined even odd b even' odd' → HaveOwnEnds a b
own_ends even odd even' odd' a b is made = record {
  givers = λ same. made.no_giver (giver_moved even odd a.giver b.giver same is.giver);
  takers = λ same. made.no_taker (taker_moved even odd a.taker b.taker same is.taker);
}

turned_ends : (a b : Link) → HaveOwnEnds a b → HaveOwnEnds b a
turned_ends a b own = record {
  givers = λ same. own.givers (turned b.giver a.giver same);
  takers = λ same. own.takers (turned b.taker a.taker same);
}

pub none_joined : (even odd : List Part) → BothBegun even odd → AreJoined even odd []
none_joined even odd begun = record { begun = begun; linked = λ k link e. absurd (cc); apart = λ j k a b e f ne. absurd (cc) }

pub more_joined : (even odd even' odd' : List Part) (links : List Link) (link : Link) → KeptEndsAreOfOneRing → AreJoined even odd links → HaveJoined even odd link even' odd' → AreJoined even' odd' (links ++ link ∷ [])
more_joined even odd even' odd' links link rings are made = record {
  begun = made.begun;
  linked = λ k l e. elim (get_push links link l k e) [
    | inl old ↦ kept_linked even odd even' odd' l rings made.keep (are.linked k l old)
    | inr new ↦ subst (IsLinked even' odd') (sym new.1) made.linked
  ];
  apart = λ j k a b e f ne. elim (get_push links link a j e) [
    | inl first ↦ elim (get_push links link b k f) [
      | inl second ↦ are.apart j k a b first second ne
      | inr second ↦ subst (HaveOwnEnds a) (sym second.1) (own_ends even odd even' odd' a link (are.linked j a first) made)
    ]
    | inr first ↦ elim (get_push links link b k f) [
      | inl second ↦ subst (λ (l : Link). HaveOwnEnds l b) (sym first.1) (turned_ends b link (own_ends even odd even' odd' b link (are.linked k b second) made))
      | inr second ↦ absurd (ne (first.0 ∙ sym second.0))
    ]
  ];
}

-- turns keep the rings linked
ran_both : (kinds : List HostKind) (even odd even' odd' : List Part) → RunsKeepEnds → HaveRun kinds even even' → HaveRun kinds odd odd' → BothKeepEnds even odd even' odd'
ran_both kinds even odd even' odd' runs a b false = runs kinds even even' a
ran_both kinds even odd even' odd' runs a b true = runs kinds odd odd' b

pub ran_linked : (kinds : List HostKind) (even odd even' odd' : List Part) (links : List Link) → RunsKeepEnds → KeptEndsAreOfOneRing → HaveRun kinds even even' → HaveRun kinds odd odd' → AreLinked even odd links → AreLinked even' odd' links
ran_linked kinds even odd even' odd' links runs rings a b are = λ k link e. kept_linked even odd even' odd' link rings (ran_both kinds even odd even' odd' runs a b) (are k link e)

-- and so does a meeting
pub met_linked : (even odd even' odd' : List Part) (links : List Link) (m : ℕ) (link : Link) → KeptEndsAreOfOneRing → AreApart links → slice_get links m ≡ Some link → HasMetByHand even odd link even' odd' → AreLinked even odd links → AreLinked even' odd' links
met_linked even odd even' odd' links m link rings apart at met are = λ k l e. elim (cases_eq k m) [
  | inl same ↦
      let it : Some l ≡ Some link = sym e ∙ ap (slice_get links) same ∙ at in
      let is : link ≡ l = cc in
      subst (IsLinked even' odd') is met.linked
  | inr other ↦
      let own = apart k m l link e at other in
      rings (side even odd l.giver.odd) (side even odd l.taker.odd) (side even' odd' l.giver.odd) (side even' odd' l.taker.odd) l.giver.place l.taker.place
      (met.givers l.giver own.givers) (met.takers l.taker own.takers) (are k l e)
]

-- a part whose ends and items are all there
has_room : (what : ActorKind) (left items room : ℕ) → items + left ≤ room → HasRoom what left items room
has_room (Input n) left items room l = tt
has_room (Lit value) left items room l = tt
has_room (Op op) left items room l = tt
has_room (Host op) left items room l = tt
has_room (When word) left items room l = tt
has_room (Merge word) left items room l = tt
has_room (Fby first) left items room l = tt
has_room Pass left items room l = tt
has_room (Output output) left items room l = l

pub new_part : (p : Part) → IsBegun p → length p.givers.items ≡ length p.actor.gives → length p.takers.items ≡ length p.actor.takes → p.state.quota ≤ 1048576 → HasItems p.actor.kind p.state.quota (length p.input.items) → IsNew p
new_part p b givers takers quota items = record {
  usable = b.usable;
  state = b.state;
  givers = givers;
  takers = takers;
  quota = omega arith;
  items = items;
  room = has_room p.actor.kind (p.state.quota - p.state.fired) (length p.output.items) (vec_capacity p.output) (let r = b.room in omega arith);
  gave_few = All-weaker (λ (g : GiverView). g.given ≡ []) (λ (g : GiverView). length g.given ≤ few_moved) (λ g e. (let l : length g.given ≡ 0 = ap length e in omega arith)) p.givers.items b.given;
  took_few = All-weaker (λ (t : TakerView). t.taken ≡ []) (λ (t : TakerView). length t.taken ≤ few_moved) (λ t e. (let l : length t.taken ≡ 0 = ap length e in omega arith)) p.takers.items b.taken;
}

-- all actors of a net are usable
pub usable_all : (net : Net) (actors : List Actor) → ((a : ℕ) (actor : Actor) → slice_get net.actors a ≡ Some actor → IsUsable actor) → actors ≡ net.actors → All IsUsable actors
usable_all net actors each e = subst (All IsUsable) (sym e) (λ k d l. each k (get_or net.actors k d) (slice_get-get_or net.actors k d l))

-- the ends of one part more
pub ends_more : (ps : List Part) (k : ℕ) (p : Part) → k < length ps → p ≡ get_or ps k p → ends_by (take (k + 1) ps) ≡ ends_by (take k ps) + ends_of p
ends_more ps k p l e = sum_by_more ends_of ps k p l ∙ ap (λ (x : Part). ends_by (take k ps) + ends_of x) (sym e)

-- where the two ends of a ring are by the sides of its actors
pub ends_in : (even odd : List Part) (link : Link) (a b : Bool) → link.giver.odd ≡ a → link.taker.odd ≡ b → IsLinked even odd link → AreEndsAt (side even odd a) link.giver.place (side even odd b) link.taker.place
ends_in even odd link a b e f is = subst (λ (x : Bool). AreEndsAt (side even odd x) link.giver.place (side even odd b) link.taker.place) e (subst (λ (x : Bool). AreEndsAt (side even odd link.giver.odd) link.giver.place (side even odd x) link.taker.place) f is)

ends_from : (even odd : List Part) (link : Link) (a b : Bool) → link.giver.odd ≡ a → link.taker.odd ≡ b → AreEndsAt (side even odd a) link.giver.place (side even odd b) link.taker.place → IsLinked even odd link
ends_from even odd link a b e f is = subst (λ (x : Bool). AreEndsAt (side even odd x) link.giver.place (side even odd link.taker.odd) link.taker.place) (sym e) (subst (λ (x : Bool). AreEndsAt (side even odd a) link.giver.place (side even odd x) link.taker.place) (sym f) is)

-- which ends of one side a meeting changes
abbrev pub GivesHere : Link → Bool → EndPlace → Type 0
GivesHere link is_odd place = (link.giver.odd ≡ is_odd) × IsPlace link.giver.place place

abbrev pub TakesHere : Link → Bool → EndPlace → Type 0
TakesHere link is_odd place = (link.taker.odd ≡ is_odd) × IsPlace link.taker.place place

nobody : (link : Link) (is_odd : Bool) (ps : List Part) → OthersStay (GivesHere link is_odd) (TakesHere link is_odd) ps ps
nobody link is_odd ps = record { givers = λ place ne was. (was, refl); takers = λ place ne was. (was, refl) }

wider : (g t g' t' : EndPlace → Type 0) (ps qs : List Part) → OthersStay g t ps qs → ((p : EndPlace) → g p → g' p) → ((p : EndPlace) → t p → t' p) → OthersStay g' t' ps qs
wider g t g' t' ps qs stay givers takers = record {
  givers = λ place ne. stay.givers place (λ is. ne (givers place is));
  takers = λ place ne. stay.takers place (λ is. ne (takers place is));
}

side_giver : (even odd even' odd' : List Part) (is_odd : Bool) (place : EndPlace) → (is_odd ≡ false → KeepsGiver even even' place) → (is_odd ≡ true → KeepsGiver odd odd' place) → KeepsGiver (side even odd is_odd) (side even' odd' is_odd) place
side_giver even odd even' odd' false place e o = e refl
side_giver even odd even' odd' true place e o = o refl

side_taker : (even odd even' odd' : List Part) (is_odd : Bool) (place : EndPlace) → (is_odd ≡ false → KeepsTaker even even' place) → (is_odd ≡ true → KeepsTaker odd odd' place) → KeepsTaker (side even odd is_odd) (side even' odd' is_odd) place
side_taker even odd even' odd' false place e o = e refl
side_taker even odd even' odd' true place e o = o refl

met_by : (even odd even' odd' : List Part) (link : Link) → IsLinked even' odd' link → OthersStay (GivesHere link false) (TakesHere link false) even even' → OthersStay (GivesHere link true) (TakesHere link true) odd odd' → HasMetByHand even odd link even' odd'
met_by even odd even' odd' link linked e o = record {
  linked = linked;
  givers = λ end ne. side_giver even odd even' odd' end.odd end.place
      (λ f g. (let h = e.givers end.place (λ is. ne (f ∙ sym is.0, is.1)) g in (h.0, ap (λ (x : GiverView). x.ring) h.1)))
      (λ f g. (let h = o.givers end.place (λ is. ne (f ∙ sym is.0, is.1)) g in (h.0, ap (λ (x : GiverView). x.ring) h.1)));
  takers = λ end ne. side_taker even odd even' odd' end.odd end.place
      (λ f t. (let u = e.takers end.place (λ is. ne (f ∙ sym is.0, is.1)) t in (u.0, ap (λ (x : TakerView). x.ring) u.1)))
      (λ f t. (let u = o.takers end.place (λ is. ne (f ∙ sym is.0, is.1)) t in (u.0, ap (λ (x : TakerView). x.ring) u.1)));
}

pub met_even_even : (even odd even' : List Part) (link : Link) → OwnMeetingsKeepEnds → link.giver.odd ≡ false → link.taker.odd ≡ false → MetWithin even link.giver.place link.taker.place even' → HasMetByHand even odd link even' odd
met_even_even even odd even' link own e f met =
    let kept = own even even' link.giver.place link.taker.place met in
    met_by even odd even' odd link (ends_from even' odd link false false e f kept.0)
    (wider (IsPlace link.giver.place) (IsPlace link.taker.place) (GivesHere link false) (TakesHere link false) even even' kept.1 (λ p is. (e, is)) (λ p is. (f, is)))
    (nobody link true odd)

pub met_odd_odd : (even odd odd' : List Part) (link : Link) → OwnMeetingsKeepEnds → link.giver.odd ≡ true → link.taker.odd ≡ true → MetWithin odd link.giver.place link.taker.place odd' → HasMetByHand even odd link even odd'
met_odd_odd even odd odd' link own e f met =
    let kept = own odd odd' link.giver.place link.taker.place met in
    met_by even odd even odd' link (ends_from even odd' link true true e f kept.0) (nobody link false even)
    (wider (IsPlace link.giver.place) (IsPlace link.taker.place) (GivesHere link true) (TakesHere link true) odd odd' kept.1 (λ p is. (e, is)) (λ p is. (f, is)))

pub met_even_odd : (even odd even' odd' : List Part) (link : Link) → MeetingsKeepEnds → link.giver.odd ≡ false → link.taker.odd ≡ true → MetBetween even link.giver.place odd link.taker.place even' odd' → HasMetByHand even odd link even' odd'
met_even_odd even odd even' odd' link between e f met =
    let kept = between even odd even' odd' link.giver.place link.taker.place met in
    met_by even odd even' odd' link (ends_from even' odd' link false true e f kept.0)
    (wider (IsPlace link.giver.place) (λ (p : EndPlace). ⊥) (GivesHere link false) (TakesHere link false) even even' kept.1 (λ p is. (e, is)) (λ p none. absurd none))
    (wider (λ (p : EndPlace). ⊥) (IsPlace link.taker.place) (GivesHere link true) (TakesHere link true) odd odd' kept.2 (λ p none. absurd none) (λ p is. (f, is)))

pub met_odd_even : (even odd even' odd' : List Part) (link : Link) → MeetingsKeepEnds → link.giver.odd ≡ true → link.taker.odd ≡ false → MetBetween odd link.giver.place even link.taker.place odd' even' → HasMetByHand even odd link even' odd'
met_odd_even even odd even' odd' link between e f met =
    let kept = between odd even odd' even' link.giver.place link.taker.place met in
    met_by even odd even' odd' link (ends_from even' odd' link true false e f kept.0)
    (wider (λ (p : EndPlace). ⊥) (IsPlace link.taker.place) (GivesHere link false) (TakesHere link false) even even' kept.2 (λ p none. absurd none) (λ p is. (f, is)))
    (wider (IsPlace link.giver.place) (λ (p : EndPlace). ⊥) (GivesHere link true) (TakesHere link true) odd odd' kept.1 (λ p is. (e, is)) (λ p none. absurd none))
