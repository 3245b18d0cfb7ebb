-- The numbers of places, and what stands at each, as the code counts them: by a walk over an expression for each of them. What callers believe of them is
-- in `Places.antt`, by one walk; that both agree is proved (`proofs/PartsLaws.antt`).
use Rattle.std.specs.Prelude.{ℕ, ◌+◌, List, [], ◌∷◌, ◌++◌, Option, length}
use Rattle.lucy_tree.specs.View.{DefTree, NodeTree}
use Rattle.lucy_place.specs.declared.entry.PlaceEntry.{PlaceEntry}
use Rattle.lucy_place.specs.declared.entry.CallSite.{CallSite}
use Rattle.lucy_naming.specs.Texts.{place_in}
use Rattle.lucy_naming.specs.Phrases.{Head, Called, Phrase, Phrases, name, headed, none, and, phrase_of}
use Rattle.lucy_naming.specs.Streams.{streams, result_count}
use Rattle.lucy_naming.specs.Places.{Known, stream_place, unnamed, results_from, own_kind, own_bounds}

-- how many places a form takes for itself: a call one for each of its results, and any other form one
abbrev pub own_rooms : ℕ → Head → ℕ
own_rooms results (Called n at) = results
own_rooms results h = 1

-- how many calls a form is
abbrev pub own_calls : Head → ℕ
own_calls (Called n at) = 1
own_calls h = 0

-- how many places an expression has, its buffers with their bounds, in order of the text, and how many calls it has
abbrev mutual
  pub rooms : ℕ → Phrase → ℕ
  rooms results (name n) = 0
  rooms results (headed h span fs) = own_rooms results h + all_rooms fs

  pub all_rooms : Phrases → ℕ
  all_rooms none = 0
  all_rooms (and f fs) = rooms 1 f + all_rooms fs

abbrev mutual
  pub bounds : Phrase → List (Option ℕ)
  bounds (name n) = []
  bounds (headed h span fs) = own_bounds h ++ all_bounds fs

  pub all_bounds : Phrases → List (Option ℕ)
  all_bounds none = []
  all_bounds (and f fs) = bounds f ++ all_bounds fs

abbrev mutual
  pub calls : Phrase → ℕ
  calls (name n) = 0
  calls (headed h span fs) = own_calls h + all_calls fs

  pub all_calls : Phrases → ℕ
  all_calls none = 0
  all_calls (and f fs) = calls f + all_calls fs

-- how many places the right sides of definitions take
abbrev pub def_rooms : List DefTree → ℕ
def_rooms [] = 0
def_rooms (d ∷ ds) = rooms (result_count d.left) (phrase_of d.right) + def_rooms ds

-- how many places a node has
abbrev pub node_rooms : NodeTree → ℕ
node_rooms n = length (streams n) + def_rooms n.defs

-- the numbers that the next place, the next buffer and the next call get
pub record Next : Type 0 where
  pub place : ℕ
  pub buffer : ℕ
  pub call : ℕ

-- behind an expression
abbrev pub past : Next → ℕ → Phrase → Next
past at results f = record { place = at.place + rooms results f; buffer = at.buffer + length (bounds f); call = at.call + calls f }

-- behind operands
abbrev pub past_all : Next → Phrases → Next
past_all at none = at
past_all at (and f fs) = past_all (past at 1 f) fs

-- behind a form's own places, where its operands begin
abbrev pub inside : Next → ℕ → Head → Next
inside at results h = record { place = at.place + own_rooms results h; buffer = at.buffer + length (own_bounds h); call = at.call + own_calls h }

-- the place of an expression: of a name its stream's, and of a form the first of its own
abbrev pub number : Known → Next → Phrase → ℕ
number k at (name n) = stream_place k n.text
number k at (headed h span fs) = at.place

-- the places of operands
abbrev pub numbers : Known → Next → Phrases → List ℕ
numbers k at none = []
numbers k at (and f fs) = number k at f ∷ numbers k (past at 1 f) fs

-- the places of a form itself
abbrev pub own_entries : Known → Next → ℕ → Head → List ℕ → List PlaceEntry
own_entries k at results (Called _ base) args = results_from at.call 0 results
own_entries k at results h args = unnamed (own_kind k at.buffer h args) ∷ []

-- the places of an expression: its own, then those of its operands from left to right
abbrev mutual
  pub entries : Known → Next → ℕ → Phrase → List PlaceEntry
  entries k at results (name n) = []
  entries k at results (headed h span fs) = own_entries k at results h (numbers k (inside at results h) fs) ++ all_entries k (inside at results h) fs

  pub all_entries : Known → Next → Phrases → List PlaceEntry
  all_entries k at none = []
  all_entries k at (and f fs) = entries k at 1 f ++ all_entries k (past at 1 f) fs

-- the call that a form is, if it is one
abbrev pub own_sites : Known → Next → Head → List ℕ → List CallSite
own_sites k at (Called n base) args = record { node = place_in k.nodes n.text; at = base; first = at.place; args = args } ∷ []
own_sites k at h args = []

-- the calls of an expression, in order of their names
abbrev mutual
  pub sites : Known → Next → ℕ → Phrase → List CallSite
  sites k at results (name n) = []
  sites k at results (headed h span fs) = own_sites k at h (numbers k (inside at results h) fs) ++ all_sites k (inside at results h) fs

  pub all_sites : Known → Next → Phrases → List CallSite
  all_sites k at none = []
  all_sites k at (and f fs) = sites k at 1 f ++ all_sites k (past at 1 f) fs
