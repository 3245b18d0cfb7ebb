-- What is written on a ring may be read from it, with the size of the buffer, or 0.
use Rattle.std.proofs.Common.{ℕ, suc, zero, ◌≡◌, ◌<◌, List, [], ◌∷◌, Option, Some, None, ap, sym, refl, ◌∙◌, subst, inl, inr}
use Rattle.lucy_word.specs.Bits.{Bits}
use Rattle.lucy_word.specs.Shortest.{Same}
use Rattle.lucy_word.specs.Sampling.{IsOn}
use Rattle.lucy_word.specs.Adaptable.{IsAdaptable, IsSize}
use Rattle.lucy_word.specs.Complement.{turned}
use Rattle.lucy_place.specs.declared.entry.PlaceKind.{PlaceKind}
use Rattle.lucy_place.specs.declared.entry.PlaceKind.TheVariants as place_kind
use Rattle.lucy_stream.specs.Forms.{Form, Given, Constant, Pointwise, Hosted, Kept, Merged, Delayed, Same as Alike}
use Rattle.lucy_net.specs.declared.kind.ActorKind.{ActorKind}
use Rattle.lucy_net.specs.declared.kind.ActorKind.TheVariants.{Input, Lit, Op, Host, When, Merge, Fby, Pass, Output}
use Rattle.lucy_net.specs.declared.net.RingSpec.{RingSpec}
use Rattle.lucy_net.specs.Plans as plans
use Rattle.lucy_net.specs.Proper.{output_of}
use Rattle.lucy_kahn.specs.Spots.{Spot, at, spot_form}
use Rattle.lucy_flat.specs.Flat.{actor_of, fires_at, ring_size}
use Rattle.lucy_flat.specs.declared.draft.Draft.{Draft}
use Rattle.lucy_flat.specs.Drafts.{IsDraftMade}
use Rattle.lucy_word.proofs.OnLaws.{on_one, same_self}
use Rattle.lucy_word.proofs.AdaptableLaws.{adaptable_self, size_self}
use Rattle.std.specs.Prelude.{◌⊎◌}
use Rattle.lucy_clock.specs.declared.node_clock.NodeClock.{NodeClock}
use Rattle.lucy_flat.specs.Assembly.{IsReadOn, IsFiring, HasKind}
use Rattle.lucy_tree.specs.Shaped.{HasZero}
use Rattle.lucy_place.specs.declared.placed.PlacedNode.{PlacedNode}
use Rattle.lucy_place.specs.Proper.{IsProperKind}
use Rattle.lucy_flat.proofs.SpotWords.{Feeds}

-- the form of the actor of a form
pub form_back : (form : Form) → plans.form_of (actor_of form) ≡ form
form_back (Given x) = refl
form_back (Constant v) = refl
form_back (Pointwise op) = refl
form_back (Hosted op) = refl
form_back (Kept p) = refl
form_back (Merged p) = refl
form_back (Delayed v) = refl
form_back Alike = refl

-- no place puts out
pub none_out : (form : Form) → output_of (actor_of form) ≡ []
none_out (Given x) = refl
none_out (Constant v) = refl
none_out (Pointwise op) = refl
none_out (Hosted op) = refl
none_out (Kept p) = refl
none_out (Merged p) = refl
none_out (Delayed v) = refl
none_out Alike = refl

-- so it is of the draft of an instance place
pub made_form : {nodes : List PlacedNode} {clocks : List NodeClock} {spot : Spot} {kind : PlaceKind} {d : Draft} → IsDraftMade nodes clocks spot kind d → plans.form_of d.kind ≡ spot_form spot kind
made_form {spot = spot} {kind = kind} made = ap plans.form_of made.does ∙ form_back (spot_form spot kind)

pub made_inner : {nodes : List PlacedNode} {clocks : List NodeClock} {spot : Spot} {kind : PlaceKind} {d : Draft} → IsDraftMade nodes clocks spot kind d → output_of d.kind ≡ []
made_inner {spot = spot} {kind = kind} made = ap output_of made.does ∙ none_out (spot_form spot kind)

-- the word on which a form takes an operand, by its own word and that on which the operand is written
abbrev pub ReadsBy : Form → ℕ → Bits → Bits → Bits → Type 0
ReadsBy (Kept p) k own write word = word ≡ write
ReadsBy (Merged p) zero own write word = IsOn own p word
ReadsBy (Merged p) (suc k) own write word = IsOn own (turned p) word
ReadsBy form k own write word = word ≡ own

pub form_reads : (kind : ActorKind) (k : ℕ) (own write word : Bits) → IsReadOn kind k own write word → ReadsBy (plans.form_of kind) k own write word
form_reads (Input x) k own write word is = is
form_reads (Lit v) k own write word is = is
form_reads (Op op) k own write word is = is
form_reads (Host op) k own write word is = is
form_reads (When p) k own write word is = is
form_reads (Merge p) zero own write word is = is
form_reads (Merge p) (suc k) own write word is = is
form_reads (Fby v) k own write word is = is
form_reads Pass k own write word is = is
form_reads (Output x) k own write word is = is

-- what is read on the ring is what is written, but at a buffer, where it is the buffer's own word
abbrev pub IsRingWord : PlaceKind → Bits → Bits → Bits → Type 0
IsRingWord (place_kind.Buffer n e) own write read = (read ≡ own) × IsAdaptable write read
IsRingWord kind own write read = Same write read

same_word : (write own read : Bits) → Same write own → read ≡ own → Same write read
same_word write own read same e = subst (λ t. Same write t) (sym e) same

pub ring_word : (path : List ℕ) (place : ℕ) (kind : PlaceKind) (k : ℕ) (write own read : Bits) → Feeds kind k write own → ReadsBy (spot_form (at path place) kind) k own write read → IsRingWord kind own write read
ring_word [] place place_kind.Param k write own read feeds is = same_word write own read feeds is
ring_word (call ∷ path) place place_kind.Param k write own read feeds is = same_word write own read feeds is
ring_word path place (place_kind.Defined e) k write own read feeds is = same_word write own read feeds is
ring_word path place (place_kind.Lit l) k write own read feeds is = same_word write own read feeds is
ring_word path place (place_kind.Op op args) k write own read feeds is = same_word write own read feeds is
ring_word path place (place_kind.Host op a b) k write own read feeds is = same_word write own read feeds is
ring_word path place (place_kind.When e p) k write own read feeds is = subst (λ t. Same write t) (sym is) (same_self write)
ring_word path place (place_kind.Merge p a b) zero write own read feeds is = on_one own p write read feeds is
ring_word path place (place_kind.Merge p a b) (suc k) write own read feeds is = on_one own (turned p) write read feeds is
ring_word path place (place_kind.Fby l e) k write own read feeds is = same_word write own read feeds is
ring_word path place (place_kind.Buffer n e) k write own read feeds is = (is, subst (λ t. IsAdaptable write t) (sym is) feeds)
ring_word path place (place_kind.Result c j) k write own read feeds is = same_word write own read feeds is

-- so it is adaptable
pub ring_adaptable : (kind : PlaceKind) (own write read : Bits) → IsRingWord kind own write read → IsAdaptable write read
ring_adaptable place_kind.Param own write read is = adaptable_self write read is
ring_adaptable (place_kind.Defined e) own write read is = adaptable_self write read is
ring_adaptable (place_kind.Lit l) own write read is = adaptable_self write read is
ring_adaptable (place_kind.Op op args) own write read is = adaptable_self write read is
ring_adaptable (place_kind.Host op a b) own write read is = adaptable_self write read is
ring_adaptable (place_kind.When e p) own write read is = adaptable_self write read is
ring_adaptable (place_kind.Merge p a b) own write read is = adaptable_self write read is
ring_adaptable (place_kind.Fby l e) own write read is = adaptable_self write read is
ring_adaptable (place_kind.Buffer n e) own write read is = is.1
ring_adaptable (place_kind.Result c j) own write read is = adaptable_self write read is

-- and its size is 0, but at a buffer
abbrev pub IsNoBuffer : PlaceKind → Type 0
IsNoBuffer (place_kind.Buffer n e) = ⊥
IsNoBuffer kind = Unit {0}

pub ring_empty : (kind : PlaceKind) (own write read : Bits) → IsNoBuffer kind → IsRingWord kind own write read → IsSize write read 0
ring_empty place_kind.Param own write read none is = size_self write read is
ring_empty (place_kind.Defined e) own write read none is = size_self write read is
ring_empty (place_kind.Lit l) own write read none is = size_self write read is
ring_empty (place_kind.Op op args) own write read none is = size_self write read is
ring_empty (place_kind.Host op a b) own write read none is = size_self write read is
ring_empty (place_kind.When e p) own write read none is = size_self write read is
ring_empty (place_kind.Merge p a b) own write read none is = size_self write read is
ring_empty (place_kind.Fby l e) own write read none is = size_self write read is
ring_empty (place_kind.Buffer n e) own write read none is = absurd none
ring_empty (place_kind.Result c j) own write read none is = size_self write read is

-- the word on which a form fires, by its own word and the ring of its first operand
abbrev pub FiresBy : Form → Bits → Option RingSpec → Bits → Type 0
FiresBy (Kept p) own (Some ring) firing = firing ≡ ring.write
FiresBy (Kept p) own None firing = ⊥
FiresBy form own first firing = firing ≡ own

pub form_fires : (kind : ActorKind) (own : Bits) (first : Option RingSpec) (firing : Bits) → IsFiring kind own first firing → FiresBy (plans.form_of kind) own first firing
form_fires (Input x) own first firing is = is
form_fires (Lit v) own first firing is = is
form_fires (Op op) own first firing is = is
form_fires (Host op) own first firing is = is
form_fires (When p) own (Some ring) firing is = is
form_fires (When p) own None firing is = is
form_fires (Merge p) own first firing is = is
form_fires (Fby v) own first firing is = is
form_fires Pass own first firing is = is
form_fires (Output x) own first firing is = is

-- so an instance place fires on the word of the place at which it does
pub fires : (P : Spot → Bits → Type 0) (path : List ℕ) (place : ℕ) (kind : PlaceKind) (own : Bits) (first : Option RingSpec) (firing : Bits) → FiresBy (spot_form (at path place) kind) own first firing → P (at path place) own →
    ((q : ℕ) (p : Bits) (ring : RingSpec) → kind ≡ place_kind.When q p → first ≡ Some ring → P (at path q) ring.write) → P (fires_at (at path place) kind) firing
fires P [] place place_kind.Param own first firing is word sampled = subst (P (at [] place)) (sym is) word
fires P (call ∷ path) place place_kind.Param own first firing is word sampled = subst (P (at (call ∷ path) place)) (sym is) word
fires P path place (place_kind.Defined e) own first firing is word sampled = subst (P (at path place)) (sym is) word
fires P path place (place_kind.Lit l) own first firing is word sampled = subst (P (at path place)) (sym is) word
fires P path place (place_kind.Op op args) own first firing is word sampled = subst (P (at path place)) (sym is) word
fires P path place (place_kind.Host op a b) own first firing is word sampled = subst (P (at path place)) (sym is) word
fires P path place (place_kind.When q p) own (Some ring) firing is word sampled = subst (P (at path q)) (sym is) (sampled q p ring refl refl)
fires P path place (place_kind.When q p) own None firing is word sampled = absurd is
fires P path place (place_kind.Merge p a b) own first firing is word sampled = subst (P (at path place)) (sym is) word
fires P path place (place_kind.Fby l e) own first firing is word sampled = subst (P (at path place)) (sym is) word
fires P path place (place_kind.Buffer n e) own first firing is word sampled = subst (P (at path place)) (sym is) word
fires P path place (place_kind.Result c j) own first firing is word sampled = subst (P (at path place)) (sym is) word

-- what assembly wants of a kind
abbrev pub HasForm : Form → ℕ → Type 0
HasForm (Kept p) count = 0 < count
HasForm (Merged p) count = HasZero p
HasForm form count = Unit {0}

pub form_has : (kind : ActorKind) (count : ℕ) → HasForm (plans.form_of kind) count → HasKind kind count
form_has (Input x) count is = is
form_has (Lit v) count is = is
form_has (Op op) count is = is
form_has (Host op) count is = is
form_has (When p) count is = is
form_has (Merge p) count is = is
form_has (Fby v) count is = is
form_has Pass count is = is
form_has (Output x) count is = is

pub place_has : (n : PlacedNode) (path : List ℕ) (place : ℕ) (kind : PlaceKind) (count : ℕ) → IsProperKind n place kind → ((q : ℕ) (p : Bits) → kind ≡ place_kind.When q p → 0 < count) → HasForm (spot_form (at path place) kind) count
place_has n [] place place_kind.Param count is sampled = tt
place_has n (call ∷ path) place place_kind.Param count is sampled = tt
place_has n path place (place_kind.Defined e) count is sampled = tt
place_has n path place (place_kind.Lit l) count is sampled = tt
place_has n path place (place_kind.Op op args) count is sampled = tt
place_has n path place (place_kind.Host op a b) count is sampled = tt
place_has n path place (place_kind.When q p) count is sampled = sampled q p refl
place_has n path place (place_kind.Merge p a b) count is sampled = is.1
place_has n path place (place_kind.Fby l e) count is sampled = tt
place_has n path place (place_kind.Buffer k e) count is sampled = tt
place_has n path place (place_kind.Result c j) count is sampled = tt

-- a place is a buffer, or its rings have size 0
pub buffer_or : (clocks : List NodeClock) (i : ℕ) (kind : PlaceKind) → ((number : ℕ) × (q : ℕ) × (kind ≡ place_kind.Buffer number q)) ⊎ (IsNoBuffer kind × (ring_size clocks i kind ≡ 0))
buffer_or clocks i place_kind.Param = inr (tt, refl)
buffer_or clocks i (place_kind.Defined e) = inr (tt, refl)
buffer_or clocks i (place_kind.Lit l) = inr (tt, refl)
buffer_or clocks i (place_kind.Op op args) = inr (tt, refl)
buffer_or clocks i (place_kind.Host op a b) = inr (tt, refl)
buffer_or clocks i (place_kind.When e p) = inr (tt, refl)
buffer_or clocks i (place_kind.Merge p a b) = inr (tt, refl)
buffer_or clocks i (place_kind.Fby l e) = inr (tt, refl)
buffer_or clocks i (place_kind.Buffer n e) = inl (n, e, refl)
buffer_or clocks i (place_kind.Result c j) = inr (tt, refl)
