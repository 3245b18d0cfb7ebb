-- The words of a net, one after another.
use Rattle.std.proofs.Common.{ℕ, suc, zero, ◌+◌, ◌<◌, ◌≡◌, List, [], ◌∷◌, ◌++◌, map, length, get_or, take, ap, sym, refl, ◌∙◌, subst, arith, length-append}
use Rattle.std.specs.Prelude.{All, Some, slice_get}
use Rattle.std.specs.Option.{option_map}
use Rattle.std.proofs.lemmas.Option.{slice_get_read, slice_get-map, slice_get_within, get_or_from_slice_get}
use Rattle.std.proofs.lemmas.List.{map_more, take_all, get_or_append_left, get_or-append-add}
use Rattle.std.proofs.lemmas.List.Elements.{All-append, All-cons, All-nil, All-head, All-tail}
use Rattle.lucy_word.specs.Bits.{Bits}
use Rattle.lucy_net.specs.declared.net.Net.{Net}
use Rattle.lucy_net.specs.declared.net.Actor.{Actor}
use Rattle.lucy_net.specs.declared.net.RingSpec.{RingSpec}
use Rattle.lucy_net.specs.Words.{ring_words, net_words}

pub front_all : (P : Bits → Type 0) (xs ys : List Bits) → All P (xs ++ ys) → All P xs
front_all P xs ys h k d l = subst P (get_or_append_left xs ys d k l) (h k d (omega (arith, length-append xs ys)))

pub back_all : (P : Bits → Type 0) (xs ys : List Bits) → All P (xs ++ ys) → All P ys
back_all P xs ys h k d l = subst P (get_or-append-add xs ys k d) (h (length xs + k) d (omega (arith, length-append xs ys)))

-- one actor more, and one ring more
pub more_actors : (items : List Actor) (i : ℕ) (actor : Actor) → i < length items → actor ≡ get_or items i actor → map (λ (a : Actor). a.firing) (take (i + 1) items) ≡ map (λ (a : Actor). a.firing) (take i items) ++ actor.firing ∷ []
more_actors items i actor l is = map_more (λ (a : Actor). a.firing) items i actor l ∙ ap (λ (x : Actor). map (λ (a : Actor). a.firing) (take i items) ++ x.firing ∷ []) (sym is)

pub rings_at : (rings : List RingSpec) (i : ℕ) (ring : RingSpec) → slice_get rings i ≡ Some ring → ring_words (take (suc i) rings) ≡ ring_words (take i rings) ++ ring.write ∷ ring.read ∷ []
rings_at [] i ring e = cc
rings_at (x ∷ rings) zero ring e = (let same : x ≡ ring = cc in ap (λ (r : RingSpec). r.write ∷ r.read ∷ []) same)
rings_at (x ∷ rings) (suc i) ring e = ap (λ ws. x.write ∷ x.read ∷ ws) (rings_at rings i ring e)

pub more_rings : (items : List RingSpec) (i : ℕ) (ring : RingSpec) → i < length items → ring ≡ get_or items i ring → ring_words (take (i + 1) items) ≡ ring_words (take i items) ++ ring.write ∷ ring.read ∷ []
more_rings items i ring l is =
    ap (λ n. ring_words (take n items)) (let z : i + 1 ≡ suc i = omega arith in z) ∙ rings_at items i ring (slice_get_read items (length items) i ring refl l is)

pub all_actors_more : (P : Bits → Type 0) (items : List Actor) (i : ℕ) (actor : Actor) → i < length items → actor ≡ get_or items i actor → All P (map (λ (a : Actor). a.firing) (take i items)) → P actor.firing → All P (map (λ (a : Actor). a.firing) (take (i + 1) items))
all_actors_more P items i actor l is now p =
    subst (All P) (sym (more_actors items i actor l is)) (All-append P (map (λ (a : Actor). a.firing) (take i items)) (actor.firing ∷ []) now (All-cons P actor.firing [] p (All-nil P)))

pub all_rings_more : (P : Bits → Type 0) (items : List RingSpec) (i : ℕ) (ring : RingSpec) → i < length items → ring ≡ get_or items i ring → All P (ring_words (take i items)) → P ring.write → P ring.read → All P (ring_words (take (i + 1) items))
all_rings_more P items i ring l is now p q =
    subst (All P) (sym (more_rings items i ring l is)) (All-append P (ring_words (take i items)) (ring.write ∷ ring.read ∷ []) now (All-cons P ring.write (ring.read ∷ []) p (All-cons P ring.read [] q (All-nil P))))

pub all_words : (P : Bits → Type 0) (net : Net) (actors : List Actor) (rings : List RingSpec) (n m : ℕ) → actors ≡ net.actors → rings ≡ net.rings → length actors ≡ n → length rings ≡ m → All P (map (λ (a : Actor). a.firing) (take n actors)) → All P (ring_words (take m rings)) →
    All P (net_words net)
all_words P net actors rings n m e f l k some more =
    All-append P (map (λ (a : Actor). a.firing) net.actors) (ring_words net.rings)
    (subst (λ (xs : List Actor). All P (map (λ (a : Actor). a.firing) xs)) (take_all n actors (omega arith) ∙ e) some) (subst (λ (xs : List RingSpec). All P (ring_words xs)) (take_all m rings (omega arith) ∙ f) more)

-- what holds of all words holds of each
pub actor_word : (P : Bits → Type 0) (net : Net) (a : ℕ) (actor : Actor) → All P (net_words net) → slice_get net.actors a ≡ Some actor → P actor.firing
actor_word P net a actor all e =
    let words : List Bits = map (λ (x : Actor). x.firing) net.actors in
    let at : slice_get words a ≡ Some actor.firing = slice_get-map (λ (x : Actor). x.firing) net.actors a ∙ ap (option_map (λ (x : Actor). x.firing)) e in
    subst P (get_or_from_slice_get words a actor.firing actor.firing at) (front_all P words (ring_words net.rings) all a actor.firing (slice_get_within words a actor.firing at))

ring_both : (P : Bits → Type 0) (rings : List RingSpec) (r : ℕ) (ring : RingSpec) → slice_get rings r ≡ Some ring → All P (ring_words rings) → P ring.write × P ring.read
ring_both P [] r ring e all = absurd (cc)
ring_both P (x ∷ rings) zero ring e all =
    (let same : x ≡ ring = cc in
    let w : P x.write = All-head P x.write (x.read ∷ ring_words rings) all in
    let d : P x.read = All-head P x.read (ring_words rings) (All-tail P x.write (x.read ∷ ring_words rings) all) in
    (subst (λ (y : RingSpec). P y.write) same w, subst (λ (y : RingSpec). P y.read) same d))
ring_both P (x ∷ rings) (suc r) ring e all = ring_both P rings r ring e (All-tail P x.read (ring_words rings) (All-tail P x.write (x.read ∷ ring_words rings) all))

pub ring_word : (P : Bits → Type 0) (net : Net) (r : ℕ) (ring : RingSpec) → All P (net_words net) → slice_get net.rings r ≡ Some ring → P ring.write × P ring.read
ring_word P net r ring all e = ring_both P net.rings r ring e (back_all P (map (λ (x : Actor). x.firing) net.actors) (ring_words net.rings) all)
