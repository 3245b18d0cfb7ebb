-- The values of items, stream by stream.
use Rattle.std.proofs.Common.{◌≡◌, ℕ, zero, suc, ◌+◌, ◌<◌, Bool, true, false, List, [], ◌∷◌, ◌++◌, length, refl, ap, sym, ◌∙◌, subst, inl, inr, arith, append-nil, length-append}
use Rattle.std.specs.Prelude.{ℤ, map, nat_eq, slice_set, slice_index_or, if◌then◌else◌}
use Rattle.std.specs.List.{filter, range_with_len}
use Rattle.std.proofs.lemmas.List.{map-append, get_or-set_same, get_or-set_other, length-set}
use Rattle.std.proofs.lemmas.List.Elements.{filter-append}
use Rattle.std.proofs.lemmas.List.FromFn.{fill_by_all, get_or-map-range_with_len, length-map-range_with_len, map-range_with_len_more}
use Rattle.std.proofs.lemmas.Bool.Decides.{eqb_tells}
use Rattle.lucy_lines.specs.declared.input.InputSpec.{InputSpec}
use Rattle.lucy_lines.specs.Cuts.{ItemOf}
use Rattle.lucy_lines.specs.Feeding.{values_of, values_by_stream}
use Rattle.lucy_lines.specs.Resuming.{AreCounts, ValuesInTurn}

-- more items
values_append : (stream : ℕ) (items others : List ItemOf) → values_of stream (items ++ others) ≡ values_of stream items ++ values_of stream others
values_append stream items others =
    let mine : ItemOf → Bool = λ j. nat_eq j.stream stream in
    let value : ItemOf → ℤ = λ j. j.value in
    ap (map value) (filter-append mine items others) ∙ map-append value (filter mine items) (filter mine others)

-- one item more
values_more : (stream : ℕ) (items : List ItemOf) (i : ItemOf) → values_of stream (items ++ i ∷ []) ≡ values_of stream items ++ values_of stream (i ∷ [])
values_more stream items i = values_append stream items (i ∷ [])

-- at each place of the lists of any streams
in_turn_at : (streams : List ℕ) (i : ℕ) (items others : List ItemOf) → slice_index_or (map (λ s. values_of s (items ++ others)) streams) i []
    ≡ slice_index_or (map (λ s. values_of s items) streams) i [] ++ slice_index_or (map (λ s. values_of s others) streams) i []
in_turn_at [] i items others = refl
in_turn_at (s ∷ streams) zero items others = values_append s items others
in_turn_at (s ∷ streams) (suc i) items others = in_turn_at streams i items others

pub values_in_turn : ValuesInTurn
values_in_turn streams i items others = in_turn_at (range_with_len 0 streams) i items others

-- there is no value among no items
none_at : (streams : List ℕ) (i : ℕ) → slice_index_or (map (λ s. values_of s []) streams) i [] ≡ []
none_at [] i = refl
none_at (s ∷ streams) zero = refl
none_at (s ∷ streams) (suc i) = none_at streams i

pub no_counts : (inputs : List InputSpec) (counts : List ℕ) → length counts ≡ length inputs → ((i : ℕ) → slice_index_or counts i 0 ≡ 0) → AreCounts inputs counts []
no_counts inputs counts many none = record { many = many; each = λ i. none i ∙ ap length (sym (none_at (range_with_len 0 (length inputs)) i)) }

-- one item is its stream's, and no other's
value_own : (i : ItemOf) (b : Bool) → nat_eq i.stream i.stream ≡ b → b ≡ true → values_of i.stream (i ∷ []) ≡ i.value ∷ []
value_own i b e t = let s : nat_eq i.stream i.stream ≡ true = e ∙ t in ap (λ u. map (λ j. j.value) (if u then i ∷ [] else [])) s

value_other : (stream : ℕ) (i : ItemOf) → nat_eq i.stream stream ≡ false → values_of stream (i ∷ []) ≡ []
value_other stream i s = ap (λ u. map (λ j. j.value) (if u then i ∷ [] else [])) s

-- the lists of so many streams are made one by one where there is no item
pub one_more_list : (streams next : ℕ) → next ≡ streams → values_by_stream (streams + 1) [] ≡ values_by_stream streams [] ++ [] ∷ []
one_more_list streams next e = map-range_with_len_more (λ stream. values_of stream []) 0 streams streams (omega arith)

-- the list at a place, behind one item more of a stream
list_at : (streams : ℕ) (items : List ItemOf) (i : ItemOf) (k : ℕ) → i.stream < streams → k < streams →
    slice_index_or (slice_set (values_by_stream streams items) i.stream (slice_index_or (values_by_stream streams items) i.stream [] ++ i.value ∷ [])) k [] ≡ values_of k (items ++ i ∷ [])
list_at streams items i k is h =
    let lists : List (List ℤ) = values_by_stream streams items in
    let at : List ℤ = slice_index_or lists i.stream [] ++ i.value ∷ [] in
    let f : ℕ → List ℤ = λ s. values_of s items in
    let long : length lists ≡ streams = length-map-range_with_len f 0 streams in
    elim (eqb_tells i.stream k) [
      | inl t ↦
          let same : k ≡ i.stream = sym t.1 in
          let here : slice_index_or lists i.stream [] ≡ f i.stream = get_or-map-range_with_len f 0 streams i.stream i.stream [] is (omega arith) in
          let own : values_of i.stream (i ∷ []) ≡ i.value ∷ [] = value_own i (nat_eq i.stream k) (ap (nat_eq i.stream) t.1) t.0 in
          ap (λ n. slice_index_or (slice_set lists i.stream at) n []) same ∙ get_or-set_same lists i.stream at [] (omega arith) ∙ ap (λ u. u ++ i.value ∷ []) here ∙
          ap (λ u. f i.stream ++ u) (sym own) ∙ sym (values_more i.stream items i) ∙ ap (λ n. values_of n (items ++ i ∷ [])) (sym same)
      | inr t ↦
          let there : slice_index_or lists k [] ≡ f k = get_or-map-range_with_len f 0 streams k k [] h (omega arith) in
          get_or-set_other lists i.stream k at [] (λ e. t.1 (sym e)) ∙ there ∙ sym (values_more k items i ∙ ap (λ u. f k ++ u) (value_other k i t.0) ∙ append-nil (f k))
    ]

-- one item more stands at the end of its stream's list
pub item_pushed : (streams : ℕ) (items : List ItemOf) (i : ItemOf) → i.stream < streams →
    slice_set (values_by_stream streams items) i.stream (slice_index_or (values_by_stream streams items) i.stream [] ++ i.value ∷ []) ≡ values_by_stream streams (items ++ i ∷ [])
item_pushed streams items i is =
    let lists : List (List ℤ) = values_by_stream streams items in
    let at : List ℤ = slice_index_or lists i.stream [] ++ i.value ∷ [] in
    let long : length (slice_set lists i.stream at) ≡ streams = length-set lists i.stream at ∙ length-map-range_with_len (λ s. values_of s items) 0 streams in
    fill_by_all (λ s. values_of s (items ++ i ∷ [])) (slice_set lists i.stream at) streams [] long (λ k h. list_at streams items i k is h)

-- one more is counted where a list has one item more
count_at : (counts : List ℕ) (lists : List (List ℤ)) (s k : ℕ) (v : ℤ) → s < length counts → s < length lists → ((i : ℕ) → slice_index_or counts i 0 ≡ length (slice_index_or lists i [])) →
    slice_index_or (slice_set counts s (slice_index_or counts s 0 + 1)) k 0 ≡ length (slice_index_or (slice_set lists s (slice_index_or lists s [] ++ v ∷ [])) k [])
count_at counts lists s k v known there each =
    let n : ℕ = slice_index_or counts s 0 + 1 in
    let list : List ℤ = slice_index_or lists s [] ++ v ∷ [] in
    elim (eqb_tells s k) [
      | inl t ↦
          let P : ℕ → Type 0 = λ m. slice_index_or (slice_set counts s n) m 0 ≡ length (slice_index_or (slice_set lists s list) m []) in
          let more : n ≡ length list = omega (arith, each s, length-append (slice_index_or lists s []) (v ∷ [])) in
          subst P t.1 (get_or-set_same counts s n 0 known ∙ more ∙ ap length (sym (get_or-set_same lists s list [] there)))
      | inr t ↦ get_or-set_other counts s k n 0 (λ e. t.1 (sym e)) ∙ each k ∙ ap length (sym (get_or-set_other lists s k list [] (λ e. t.1 (sym e))))
    ]

pub counts_more : (inputs : List InputSpec) (counts now : List ℕ) (items : List ItemOf) (i : ItemOf) → i.stream < length inputs → AreCounts inputs counts items →
    now ≡ slice_set counts i.stream (slice_index_or counts i.stream 0 + 1) → AreCounts inputs now (items ++ i ∷ [])
counts_more inputs counts now items i known c is =
    let lists : List (List ℤ) = values_by_stream (length inputs) items in
    let n : ℕ = slice_index_or counts i.stream 0 + 1 in
    let long : length lists ≡ length inputs = length-map-range_with_len (λ s. values_of s items) 0 (length inputs) in
    let pushed = item_pushed (length inputs) items i known in
    record {
      many = ap length is ∙ length-set counts i.stream n ∙ c.many;
      each = λ k. ap (λ u. slice_index_or u k 0) is ∙ count_at counts lists i.stream k i.value (omega (arith, c.many)) (omega arith) c.each ∙ ap (λ u. length (slice_index_or u k [])) pushed;
    }

-- a number that is there stands there whatever would stand for one that isn't
pub any_default : (numbers : List ℕ) (i a b : ℕ) → i < length numbers → slice_index_or numbers i a ≡ slice_index_or numbers i b
any_default [] i a b there = absurd (omega arith)
any_default (n ∷ numbers) zero a b there = refl
any_default (n ∷ numbers) (suc i) a b there = any_default numbers i a b (omega arith)

-- one more 0
pub zeros_more : (counts : List ℕ) → ((i : ℕ) → slice_index_or counts i 0 ≡ 0) → (i : ℕ) → slice_index_or (counts ++ 0 ∷ []) i 0 ≡ 0
zeros_more [] none zero = refl
zeros_more [] none (suc i) = refl
zeros_more (n ∷ counts) none zero = none zero
zeros_more (n ∷ counts) none (suc i) = zeros_more counts (λ k. none (suc k)) i
