-- When an assignment of words keeps the clock rules of a node (Cohen and others 2006; Mandel, Plateau and Pouzet 2010).
use Rattle.std.specs.Prelude.{ℕ, ◌≡◌, ◌≤◌, List, Option, Some, None, slice_get}
use Rattle.std.specs.List.{AllByRecursion}
use Rattle.lucy_word.specs.Bits.{Bits}
use Rattle.lucy_word.specs.Shortest.{Same}
use Rattle.lucy_word.specs.Sampling.{IsOn, IsOnNot}
use Rattle.lucy_word.specs.Adaptable.{IsAdaptable, IsSize}
use Rattle.lucy_word.specs.Always.{always}
use Rattle.lucy_place.specs.declared.entry.PlaceEntry.{PlaceEntry}
use Rattle.lucy_place.specs.declared.entry.PlaceKind.{PlaceKind}
use Rattle.lucy_place.specs.declared.entry.PlaceKind.TheVariants.{Param, Defined, Lit, Op, Host, When, Merge, Fby, Buffer, Result}
use Rattle.lucy_place.specs.declared.entry.CallSite.{CallSite}
use Rattle.lucy_place.specs.declared.placed.PlacedNode.{PlacedNode}
use Rattle.lucy_place.specs.Proper.{at_one, bound_of, Stands}
use Rattle.lucy_need.specs.Meeting.{Assignment, AreWordsIn}
use Rattle.lucy_clock.specs.declared.signature.Signature.{Signature}
use Rattle.lucy_clock.specs.Clocks.{call_clock, clocks_of}

-- the table of forms: how the word of a place stands to those of the places that it reads (the places of a call have a rule of
-- their own)
abbrev pub KeepsRule : Assignment → ℕ → PlaceKind → Type 0
KeepsRule w p Param = Unit {0}
KeepsRule w p (Defined e) = Same (w p) (w e)
KeepsRule w p (Lit l) = Unit {0}
KeepsRule w p (Op op args) = AllByRecursion (λ arg. Same (w p) (w arg)) args
KeepsRule w p (Host op a b) = Same (w p) (w a) × Same (w p) (w b)
KeepsRule w p (When e word) = IsOn (w e) word (w p)
KeepsRule w p (Merge word a b) = IsOn (w p) word (w a) × IsOnNot (w p) word (w b)
KeepsRule w p (Fby l e) = Same (w p) (w e)
KeepsRule w p (Buffer k e) = IsAdaptable (w e) (w p)
KeepsRule w p (Result call j) = Unit {0}

-- a buffer that is written on one clock and read on another keeps its bound, where one is written: its size, the greatest
-- number of items that wait in it, is at most the bound
abbrev pub KeepsBound : Option ℕ → Bits → Bits → Type 0
KeepsBound None write read = Unit {0}
KeepsBound (Some most) write read = (size : ℕ) × IsSize write read size × (size ≤ most)

-- the rule of a call: the word of its base is the written one, where one is written, and each argument and each result has the
-- bits of that base on the callee's word
pub record KeepsCall (above : List Signature) (n : PlacedNode) (w : Assignment) (call : ℕ) (site : CallSite) : Type 0 where
  pub at : (word : Bits) → site.at ≡ Some word → Same (w (call_clock n call)) word
  pub arguments : (callee : Signature) (j arg : ℕ) (word : Bits) → slice_get above site.node ≡ Some callee → slice_get site.args j ≡ Some arg →
      slice_get callee.params j ≡ Some word → IsOn (w (call_clock n call)) word (w arg)
  pub results : (callee : Signature) (p j : ℕ) (word : Bits) → slice_get above site.node ≡ Some callee → Stands n p (Result call j) →
      slice_get callee.results j ≡ Some word → IsOn (w (call_clock n call)) word (w p)

-- the assignment gives a word to the base, to each place and to the base of each call, and all of these hold at every instant:
-- the base has (1), the table of forms holds at each place, each buffer keeps its written bound, a written word is that of its
-- name, and the rule of each call holds
pub record IsWellClocked (above : List Signature) (n : PlacedNode) (w : Assignment) : Type 0 where
  pub words : AreWordsIn w (clocks_of n)
  pub base : Same (w 0) always
  pub forms : (p : ℕ) (entry : PlaceEntry) → at_one n.places p ≡ Some entry → KeepsRule w p entry.kind
  pub bounds : (p k e : ℕ) → Stands n p (Buffer k e) → KeepsBound (bound_of n k) (w e) (w p)
  pub written : (p : ℕ) (entry : PlaceEntry) (word : Bits) → at_one n.places p ≡ Some entry → entry.word ≡ Some word → Same (w p) word
  pub calls : (call : ℕ) (site : CallSite) → at_one n.calls call ≡ Some site → KeepsCall above n w call site
