-- What numbering adds to a draft of a node's places.
use Rattle.std.specs.Prelude.{ℕ, ◌+◌, ◌≡◌, ◌≤◌, List, [], ◌++◌, length, Option, None}
use Rattle.lucy_word.specs.Bits.{Bits}
use Rattle.lucy_tree.specs.declared.span.Name.{Name}
use Rattle.lucy_place.specs.declared.entry.PlaceKind.{PlaceKind}
use Rattle.lucy_place.specs.declared.entry.PlaceKind.TheVariants as kind
use Rattle.lucy_naming.specs.declared.draft.Draft.{Draft}
use Rattle.lucy_place.specs.declared.entry.PlaceEntry.{PlaceEntry}
use Rattle.lucy_place.specs.declared.entry.CallSite.{CallSite}
use Rattle.lucy_naming.specs.Texts.{place_in}
use Rattle.lucy_naming.specs.Phrases.{Sampled, Followed, Buffered, Called, Phrase, Phrases, name, headed, none}
use Rattle.lucy_place.specs.Standing.{most_places}
use Rattle.lucy_naming.specs.Places.{Known, own_kind, own_bounds}
use Rattle.lucy_naming.specs.Numbering.{Next, past, past_all, entries, all_entries, sites, all_sites}

-- the numbers that come next in a draft
abbrev pub next_of : Known → Draft → Next
next_of k d = record { place = length k.streams + length d.places.items + 1; buffer = d.buffers + 1; call = length d.calls.items + 1 }

-- no number has passed the most
pub record IsSmall (at : Next) : Type 0 where
  pub place : at.place ≤ most_places + 1
  pub buffer : at.buffer ≤ most_places + 1
  pub call : at.call ≤ most_places + 1

-- the draft has gained these places and calls, and these numbers come next
pub record Gains (k : Known) (es : List PlaceEntry) (ss : List CallSite) (at : Next) (old new : Draft) : Type 0 where
  pub places : new.places.items ≡ old.places.items ++ es
  pub calls : new.calls.items ≡ old.calls.items ++ ss
  pub next : next_of k new ≡ at

-- the draft has gained an expression
abbrev pub Draws : Known → ℕ → Phrase → Draft → Draft → Type 0
Draws k results f old new = Gains k (entries k (next_of k old) results f) (sites k (next_of k old) results f) (past (next_of k old) results f) old new

-- the draft has gained operands
abbrev pub DrawsAll : Known → Phrases → Draft → Draft → Type 0
DrawsAll k fs old new = Gains k (all_entries k (next_of k old) fs) (all_sites k (next_of k old) fs) (past_all (next_of k old) fs) old new

-- a form that is no call
abbrev pub IsPlain : Phrase → Type 0
IsPlain (name n) = ⊥
IsPlain (headed (Called n base) span fs) = ⊥
IsPlain (headed h span fs) = Unit {0}

-- a form of one operand that is no operator's
abbrev pub IsSingle : Phrase → Type 0
IsSingle (headed (Sampled flip w) span fs) = Unit {0}
IsSingle (headed (Followed l) span fs) = Unit {0}
IsSingle (headed (Buffered most) span fs) = Unit {0}
IsSingle f = ⊥

-- the operands of a form
abbrev pub phrase_operands : Phrase → Phrases
phrase_operands (name n) = none
phrase_operands (headed h span fs) = fs

-- whether a form is a buffer, as a number
abbrev pub buffers_of : Phrase → ℕ
buffers_of (name n) = 0
buffers_of (headed h span fs) = length (own_bounds h)

-- what stands at the place of a form, with its number as a buffer and the places of its operands
abbrev pub kind_of : Known → ℕ → Phrase → List ℕ → PlaceKind
kind_of k n (name _) args = kind.Param
kind_of k n (headed h span fs) args = own_kind k n h args

-- what stands where a call is kept free
abbrev pub free_site : CallSite
free_site = record { node = 0; at = None; first = 0; args = [] }

-- the call of a node
abbrev pub site_of : Known → Name → Option Bits → ℕ → List ℕ → CallSite
site_of k n base first args = record { node = place_in k.nodes n.text; at = base; first = first; args = args }
