-- What holds of a run of places, of the buffers among them, and of the calls made there.
use Rattle.std.proofs.Common.{◌≡◌, ◌+◌, ℕ, List, [], ◌∷◌, ◌++◌, length, length-append, ap, sym, ◌∙◌, subst, arith, append_assoc}
use Rattle.lucy_place.specs.declared.entry.PlaceEntry.{PlaceEntry}
use Rattle.lucy_place.specs.declared.entry.CallSite.{CallSite}
use Rattle.lucy_naming.specs.Numbering.{Next}
use Rattle.lucy_place.specs.Standing.{buffer_at, buffer_places}
use Rattle.lucy_naming.proofs.EachLaws.{Each, each_join, each_front, each_back}

-- a call, with how many results it has
pub record Call : Type 0 where
  pub site : CallSite
  pub results : ℕ

-- P holds of the places, Q of the buffers, and R of the calls, from these numbers on
pub record Spread (P : ℕ → PlaceEntry → Type 0) (Q : ℕ → ℕ → Type 0) (R : ℕ → Call → Type 0) (at : Next) (es : List PlaceEntry) (cs : List Call) : Type 0 where
  pub places : Each P at.place es
  pub buffers : Each Q at.buffer (buffer_places at.place es)
  pub calls : Each R at.call cs

-- the numbers behind places and calls
pub record Reaches (at to : Next) (es : List PlaceEntry) (cs : List Call) : Type 0 where
  pub place : to.place ≡ at.place + length es
  pub buffer : to.buffer ≡ at.buffer + length (buffer_places at.place es)
  pub call : to.call ≡ at.call + length cs

pub buffers_append : (from to : ℕ) (es fs : List PlaceEntry) → to ≡ from + length es → buffer_places from (es ++ fs) ≡ buffer_places from es ++ buffer_places to fs
buffers_append from to [] fs e = let f : from ≡ to = omega (arith, e) in ap (λ n. buffer_places n fs) f
buffers_append from to (x ∷ es) fs e =
    ap (λ l. buffer_at from x.kind ++ l) (buffers_append (from + 1) to es fs (omega (arith, e)))
    ∙ sym (append_assoc (buffer_at from x.kind) (buffer_places (from + 1) es) (buffer_places to fs))

pub reaches_none : (at : Next) → Reaches at at [] []
reaches_none at = record { place = omega arith; buffer = omega arith; call = omega arith }

pub reaches_join : (at to end : Next) (es fs : List PlaceEntry) (cs ds : List Call) → Reaches at to es cs → Reaches to end fs ds → Reaches at end (es ++ fs) (cs ++ ds)
reaches_join at to end es fs cs ds a b =
    let p : length (es ++ fs) ≡ length es + length fs = length-append es fs in
    let q : length (buffer_places at.place (es ++ fs)) ≡ length (buffer_places at.place es) + length (buffer_places to.place fs) =
    ap length (buffers_append at.place to.place es fs a.place) ∙ length-append (buffer_places at.place es) (buffer_places to.place fs) in
    let r : length (cs ++ ds) ≡ length cs + length ds = length-append cs ds in
    record {
      place = omega (arith, a.place, b.place);
      buffer = omega (arith, a.buffer, b.buffer);
      call = omega (arith, a.call, b.call);
    }

module _ (P : ℕ → PlaceEntry → Type 0) (Q : ℕ → ℕ → Type 0) (R : ℕ → Call → Type 0) (at to : Next) (es fs : List PlaceEntry) (cs ds : List Call) (reach : Reaches at to es cs) where
  pub spread_join : Spread P Q R at es cs → Spread P Q R to fs ds → Spread P Q R at (es ++ fs) (cs ++ ds)
  spread_join a b = record {
    places = each_join P at.place to.place es fs reach.place a.places b.places;
    buffers = subst (λ l. Each Q at.buffer l) (sym (buffers_append at.place to.place es fs reach.place))
        (each_join Q at.buffer to.buffer (buffer_places at.place es) (buffer_places to.place fs) reach.buffer a.buffers b.buffers);
    calls = each_join R at.call to.call cs ds reach.call a.calls b.calls;
  }

  split_buffers : Spread P Q R at (es ++ fs) (cs ++ ds) → Each Q at.buffer (buffer_places at.place es ++ buffer_places to.place fs)
  split_buffers s = subst (λ l. Each Q at.buffer l) (buffers_append at.place to.place es fs reach.place) s.buffers

  pub spread_front : Spread P Q R at (es ++ fs) (cs ++ ds) → Spread P Q R at es cs
  spread_front s = record {
    places = each_front P at.place es fs s.places;
    buffers = each_front Q at.buffer (buffer_places at.place es) (buffer_places to.place fs) (split_buffers s);
    calls = each_front R at.call cs ds s.calls;
  }

  pub spread_back : Spread P Q R at (es ++ fs) (cs ++ ds) → Spread P Q R to fs ds
  spread_back s = record {
    places = each_back P at.place to.place es fs reach.place s.places;
    buffers = each_back Q at.buffer to.buffer (buffer_places at.place es) (buffer_places to.place fs) reach.buffer (split_buffers s);
    calls = each_back R at.call to.call cs ds reach.call s.calls;
  }
