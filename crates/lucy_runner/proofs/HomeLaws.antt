-- Homes that are used, and the numbers of their seats.
use Rattle.std.proofs.Common.{ℕ, suc, zero, ◌+◌, ◌<◌, ◌≤◌, ◌≡◌, Bool, true, false, cond, eqb, List, [], ◌∷◌, ◌++◌, map, length, get_or, set, ap, sym, refl, ◌∙◌, subst, inl, inr, arith}
use Rattle.std.specs.Prelude.{All, Some, slice_get, ◌||◌}
use Rattle.std.specs.List.{list_any}
use Rattle.std.proofs.lemmas.Bool.{cases_lt, cases_eq, cases_Bool, eqb-true, eq-eqb}
use Rattle.std.proofs.lemmas.List.{get_or_append_left, get_or_push, get_or_default, append-nil, length-map, map-append}
use Rattle.std.proofs.lemmas.Map.Keys.{any_passes_from_place}
use Rattle.std.proofs.lemmas.List.Elements.{All-push, All-map, All-get_or}
use Rattle.std.proofs.lemmas.Option.{slice_get-get_or, slice_get_within, get_or_from_slice_get}
use Rattle.lucy_net.specs.Proper.{numbers_where}
use Rattle.lucy_net.proofs.WhereLaws.{where_all, where_yes, where_no, where_same}
use Rattle.lucy_core.proofs.ListLaws.{get_push, get_set_other}
use Rattle.lucy_worker.proofs.WithinLaws.{get_set}
use Rattle.lucy_worker.specs.declared.part.Part.{Part}
use Rattle.lucy_runner.specs.declared.sitting.Bench.{Bench}
use Rattle.lucy_runner.specs.Homes.{is_home, at_home, crew_by}
use Rattle.lucy_runner.specs.Making.{benched, homes_in, is_used, HaveSeats}
use Rattle.lucy_runner.proofs.JoiningLaws.{where_at}
use Rattle.lucy_runner.specs.declared.sitting.Hall.{Hall}

-- one seat more, where the home is used
pub seats_more : (used : List Bool) (n : ℕ) (numbers : List ℕ) (count next : ℕ) → length numbers ≡ n → ((h : ℕ) → h < n → slice_get used h ≡ Some true → get_or numbers h 0 < count) → count ≤ next → (slice_get used n ≡ Some true → count < next) →
    (h : ℕ) → h < n + 1 → slice_get used h ≡ Some true → get_or (numbers ++ count ∷ []) h 0 < next
seats_more used n numbers count next len old le new h lt is = elim (cases_lt h n) [
  | inl before ↦
      let same : get_or (numbers ++ count ∷ []) h 0 ≡ get_or numbers h 0 = get_or_append_left numbers (count ∷ []) 0 h (omega (arith, len, before)) in
      omega (arith, same, old h before is)
  | inr last ↦
      let at : h ≡ n = omega arith in
      let same : get_or (numbers ++ count ∷ []) h 0 ≡ count = get_or_push numbers count 0 h (len ∙ sym at) in
      omega (arith, same, new (ap (slice_get used) (sym at) ∙ is))
]

-- one bench more, which is empty
pub none_more : (benches more : List Bench) (bench : Bench) → All (λ b. benched b ≡ []) benches → more ≡ benches ++ bench ∷ [] → benched bench ≡ [] → All (λ b. benched b ≡ []) more
none_more benches more bench none e new = subst (All (λ (b : Bench). benched b ≡ [])) (sym e) (All-push (λ (b : Bench). benched b ≡ []) benches bench none new)

-- a home that isn't used
pub not_used : (used : List Bool) (n : ℕ) → n < length used → get_or used n false ≡ false → slice_get used n ≡ Some true → ⊥
not_used used n l off on = absurd (let at : slice_get used n ≡ Some (get_or used n false) = slice_get-get_or used n false l in cc)

pub rows_none : (benches : List Bench) → All (λ b. benched b ≡ []) benches → All (λ row. row ≡ []) (map benched benches)
rows_none benches none = All-map (λ (row : List Part). row ≡ []) benched benches none

-- what stands among the numbers for which a test holds stands behind those before it, and is below the bound
where_place : (p : ℕ → Bool) (n s r : ℕ) → slice_get (numbers_where p n) s ≡ Some r → s ≡ length (numbers_where p r)
where_place p zero s r e = absurd (cc)
where_place p (suc n) s r e = elim (cases_Bool (p n)) [
  | inl y ↦ elim (get_push (numbers_where p n) n r s (ap (λ c. slice_get (numbers_where p n ++ cond c (n ∷ []) []) s) (sym y) ∙ e)) [
    | inl old ↦ where_place p n s r old
    | inr new ↦ new.0 ∙ ap (λ k. length (numbers_where p k)) (sym new.1)
  ]
  | inr y ↦ where_place p n s r (ap (λ xs. slice_get xs s) (sym (append-nil (numbers_where p n))) ∙ ap (λ c. slice_get (numbers_where p n ++ cond c (n ∷ []) []) s) (sym y) ∙ e)
]

where_below : (p : ℕ → Bool) (n s r : ℕ) → slice_get (numbers_where p n) s ≡ Some r → r < n
where_below p n s r e =
    let xs : List ℕ = numbers_where p n in
    subst (λ q. q < n) (get_or_from_slice_get xs s r r e) (All-get_or (λ q. q < n) xs s r (slice_get_within xs s r e) (where_all (λ q. q < n) p n (λ q l y. l)))

-- the number of a home's seat is that of the used homes before it
pub places_more : (p : ℕ → Bool) (n : ℕ) (numbers : List ℕ) (count : ℕ) → length numbers ≡ n → count ≡ length (numbers_where p n) → ((h : ℕ) → h < n → get_or numbers h 0 ≡ length (numbers_where p h)) →
    (h : ℕ) → h < n + 1 → get_or (numbers ++ count ∷ []) h 0 ≡ length (numbers_where p h)
places_more p n numbers count len new old h lt = elim (cases_lt h n) [
  | inl before ↦ get_or_append_left numbers (count ∷ []) 0 h (omega (arith, len, before)) ∙ old h before
  | inr last ↦
      let at : h ≡ n = omega arith in
      get_or_push numbers count 0 h (len ∙ sym at) ∙ new ∙ ap (λ k. length (numbers_where p k)) (sym at)
]

-- one bench more, of a home that is used
pub homes_more : (used : List Bool) (n : ℕ) (benches more : List Bench) (bench : Bench) → homes_in benches ≡ numbers_where (is_used used) n → more ≡ benches ++ bench ∷ [] → bench.home ≡ n → is_used used n ≡ true →
    homes_in more ≡ numbers_where (is_used used) (n + 1)
homes_more used n benches more bench homes e at y =
    let home : Bench → ℕ = λ (b : Bench). b.home in
    ap homes_in e ∙ map-append home benches (bench ∷ []) ∙ ap (λ hs. hs ++ bench.home ∷ []) homes ∙ ap (λ h. numbers_where (is_used used) n ++ h ∷ []) at ∙ sym (where_yes (is_used used) n y)

pub homes_same : (used : List Bool) (n : ℕ) (benches more : List Bench) → homes_in benches ≡ numbers_where (is_used used) n → more ≡ benches → is_used used n ≡ false → homes_in more ≡ numbers_where (is_used used) (n + 1)
homes_same used n benches more homes e y = ap homes_in e ∙ homes ∙ sym (where_no (is_used used) n y)

pub seat_count : (used : List Bool) (n : ℕ) (benches : List Bench) → homes_in benches ≡ numbers_where (is_used used) n → length benches ≡ length (numbers_where (is_used used) n)
seat_count used n benches homes = sym (length-map benches (λ (b : Bench). b.home)) ∙ ap length homes

-- the bench of a used home, and the home of a bench
used_on : (used : List Bool) (home : ℕ) → slice_get used home ≡ Some true → is_used used home ≡ true
used_on used home e = get_or_from_slice_get used home true false e

pub own_bench : (used : List Bool) (hall : Hall) (home : ℕ) → HaveSeats used hall → slice_get used home ≡ Some true → slice_get (homes_in hall.benches.items) (get_or hall.numbers.items home 0) ≡ Some home
own_bench used hall home has e =
    let l : home < length used = slice_get_within used home true e in
    ap (λ xs. slice_get xs (get_or hall.numbers.items home 0)) has.homes ∙ ap (slice_get (numbers_where (is_used used) (length used))) (has.places home l) ∙ where_at (is_used used) (length used) home l (used_on used home e)

pub known_bench : (used : List Bool) (hall : Hall) (k home : ℕ) → HaveSeats used hall → slice_get (homes_in hall.benches.items) k ≡ Some home → get_or hall.numbers.items home 0 ≡ k
known_bench used hall k home has e =
    let at : slice_get (numbers_where (is_used used) (length used)) k ≡ Some home = ap (λ xs. slice_get xs k) (sym has.homes) ∙ e in
    has.places home (where_below (is_used used) (length used) k home at) ∙ sym (where_place (is_used used) (length used) k home at)

-- a worker that is a home is that of an actor
any_there : (xs : List ℕ) (x : ℕ) → list_any (eqb x) xs ≡ true → (i : ℕ) × (slice_get xs i ≡ Some x)
any_there [] x e = absurd (cc)
any_there (y ∷ xs) x e = elim (cases_Bool (eqb x y)) [
  | inl same ↦ (0, ap Some (sym (eqb-true x y same)))
  | inr other ↦
      let (i, at) = any_there xs x (ap (λ b. b || list_any (eqb x) xs) (sym other) ∙ e) in
      (suc i, at)
]

-- the homes that are used are those of the actors
used_is : (used : List Bool) (homes : List ℕ) (home : ℕ) → home < length used → All (λ h. slice_get used h ≡ Some true) homes → ((h : ℕ) → slice_get used h ≡ Some true → is_home homes h ≡ true) → is_used used home ≡ is_home homes home
used_is used homes home l all only = elim (cases_Bool (is_used used home)) [
  | inl y ↦ y ∙ sym (only home (slice_get-get_or used home false l ∙ ap Some y))
  | inr y ↦ elim (cases_Bool (is_home homes home)) [
    | inl z ↦
        let (i, at) = any_there homes home z in
        let there : slice_get used (get_or homes i 0) ≡ Some true = All-get_or (λ h. slice_get used h ≡ Some true) homes i 0 (slice_get_within homes i home at) all in
        used_on used home (ap (slice_get used) (sym (get_or_from_slice_get homes i home 0 at)) ∙ there) ∙ sym z
    | inr z ↦ y ∙ sym z
  ]
]

-- so the benches have the actors that are at home in the workers that are homes
pub crew_here : (used : List Bool) (homes : List ℕ) (hall : Hall) (workers : ℕ) → HaveSeats used hall → length used ≡ workers → All (λ h. slice_get used h ≡ Some true) homes → ((h : ℕ) → slice_get used h ≡ Some true → is_home homes h ≡ true) →
    map (at_home homes) (homes_in hall.benches.items) ≡ crew_by workers homes
crew_here used homes hall workers has len all only =
    ap (map (at_home homes)) (has.homes ∙ where_same (is_used used) (is_home homes) (length used) (λ r l. used_is used homes r l all only) ∙ ap (numbers_where (is_home homes)) len)

-- one home more that is used
pub only_more : (used : List Bool) (homes : List ℕ) (i : ℕ) → i < length homes → ((home : ℕ) → slice_get used home ≡ Some true → is_home homes home ≡ true) →
    (home : ℕ) → slice_get (set used (get_or homes i 0) true) home ≡ Some true → is_home homes home ≡ true
only_more used homes i l only home e = elim (cases_eq (get_or homes i 0) home) [
  | inl same ↦ any_passes_from_place (eqb home) homes i home (slice_get-get_or homes i 0 l ∙ ap Some same) (eq-eqb home home refl)
  | inr other ↦ only home (sym (get_set_other used (get_or homes i 0) home true other) ∙ e)
]

pub marked_more : (used : List Bool) (homes : List ℕ) (i : ℕ) → i < length homes → get_or homes i 0 < length used → ((k d : ℕ) → k < i → slice_get used (get_or homes k d) ≡ Some true) →
    (k d : ℕ) → k < i + 1 → slice_get (set used (get_or homes i 0) true) (get_or homes k d) ≡ Some true
marked_more used homes i l inside marked k d less =
    let home : ℕ = get_or homes i 0 in
    elim (cases_eq home (get_or homes k d)) [
      | inl same ↦ ap (slice_get (set used home true)) (sym same) ∙ get_set used home (get_or used home false) true (slice_get-get_or used home false inside)
      | inr other ↦ get_set_other used home (get_or homes k d) true other ∙ elim (cases_lt k i) [
        | inl before ↦ marked k d before
        | inr last ↦ absurd (other (get_or_default homes i 0 d l ∙ ap (λ j. get_or homes j d) (let at : i ≡ k = omega arith in at)))
      ]
    ]
