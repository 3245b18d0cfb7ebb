-- Laws of the iterates: each list of one is a front of the same list in the next.
use Rattle.std.proofs.Common.{ℕ, suc, zero, ◌<◌, ◌≤◌, ◌≡◌, List, [], ◌∷◌, map, ap, sym, refl, subst, inl, inr, arith}
use Rattle.std.specs.Prelude.{ℤ, Some, slice_get}
use Rattle.std.proofs.lemmas.Bool.{cases_eq}
use Rattle.lucy_host.specs.declared.kind.HostKind.{HostKind}
use Rattle.lucy_stream.specs.Items.{list_at}
use Rattle.lucy_stream.specs.Fronts.{IsFront, AreFronts}
use Rattle.lucy_stream.specs.Forms.{Form, Given}
use Rattle.lucy_stream.specs.Lists.{form_list}
use Rattle.lucy_stream.specs.Iterates.{Place, lists_of, iterate}
use Rattle.lucy_stream.proofs.FrontLaws.{IsFront-refl, IsFront-trans, AreFronts-map}
use Rattle.lucy_stream.proofs.ListLaws.{form_list-front}

-- the lists of places that are read grow with all lists
pub lists_of-fronts : (lists longer : List (List ℤ)) (reads : List ℕ) → AreFronts lists longer → AreFronts (lists_of lists reads) (lists_of longer reads)
lists_of-fronts lists longer reads h = AreFronts-map (list_at lists) (list_at longer) reads h

empty-front : (places : List Place) (longer : List (List ℤ)) → AreFronts (map (λ place. []) places) longer
empty-front [] longer i = tt
empty-front (place ∷ places) longer zero = tt
empty-front (place ∷ places) [] (suc i) = empty-front places [] i
empty-front (place ∷ places) (list ∷ longer) (suc i) = empty-front places longer i

pub iterate-front : (kinds : List HostKind) (inputs : List (List ℤ)) (places : List Place) (n : ℕ) → AreFronts (iterate kinds inputs places n) (iterate kinds inputs places (suc n))
iterate-front kinds inputs places zero = empty-front places (iterate kinds inputs places 1)
iterate-front kinds inputs places (suc n) =
    let before : List (List ℤ) = iterate kinds inputs places n in
    let here : List (List ℤ) = iterate kinds inputs places (suc n) in
    AreFronts-map (λ place. form_list kinds inputs n place.form (lists_of before place.reads)) (λ place. form_list kinds inputs (suc n) place.form (lists_of here place.reads)) places
    (λ place. form_list-front kinds inputs n (suc n) place.form (lists_of before place.reads) (lists_of here place.reads) (omega arith) (lists_of-fronts before here place.reads (iterate-front kinds inputs places n)))

later : (kinds : List HostKind) (inputs : List (List ℤ)) (places : List Place) (n m i : ℕ) → n < m → IsFront (list_at (iterate kinds inputs places n) i) (list_at (iterate kinds inputs places m) i)
later kinds inputs places n zero i l = absurd (omega arith)
later kinds inputs places n (suc m) i l =
    let lists : ℕ → List (List ℤ) = iterate kinds inputs places in
    elim (cases_eq n m) [
      | inl same ↦ subst (λ (k : ℕ). IsFront (list_at (lists k) i) (list_at (lists (suc m)) i)) (sym same) (iterate-front kinds inputs places m i)
      | inr more ↦
          IsFront-trans (list_at (lists n) i) (list_at (lists m) i) (list_at (lists (suc m)) i)
          (later kinds inputs places n m i (omega arith)) (iterate-front kinds inputs places m i)
    ]

-- and in every later one
pub iterate-fronts : (kinds : List HostKind) (inputs : List (List ℤ)) (places : List Place) (n m : ℕ) → n ≤ m → AreFronts (iterate kinds inputs places n) (iterate kinds inputs places m)
iterate-fronts kinds inputs places n m l i =
    let lists : ℕ → List (List ℤ) = iterate kinds inputs places in
    elim (cases_eq n m) [
      | inl same ↦ subst (λ (k : ℕ). IsFront (list_at (lists n) i) (list_at (lists k) i)) same (IsFront-refl (list_at (lists n) i))
      | inr more ↦ later kinds inputs places n m i (omega arith)
    ]

-- where the inputs go on, the list of each form is as it was, but for that of an input, which goes on
form_list-inputs : (kinds : List HostKind) (inputs more : List (List ℤ)) (n : ℕ) (form : Form) (lists : List (List ℤ)) → AreFronts inputs more → IsFront (form_list kinds inputs n form lists) (form_list kinds more n form lists)
form_list-inputs kinds inputs more n (Given input) lists h = h input
form_list-inputs kinds inputs more n form lists h = IsFront-refl (form_list kinds inputs n form lists)

-- so each list of an iterate is a front of the same list of more inputs
pub iterate-inputs : (kinds : List HostKind) (inputs more : List (List ℤ)) (places : List Place) (n : ℕ) → AreFronts inputs more → AreFronts (iterate kinds inputs places n) (iterate kinds more places n)
iterate-inputs kinds inputs more places zero h = empty-front places (iterate kinds more places 0)
iterate-inputs kinds inputs more places (suc n) h =
    let fewer : List (List ℤ) = iterate kinds inputs places n in
    let longer : List (List ℤ) = iterate kinds more places n in
    AreFronts-map (λ place. form_list kinds inputs n place.form (lists_of fewer place.reads)) (λ place. form_list kinds more n place.form (lists_of longer place.reads)) places
    (λ place.
    IsFront-trans (form_list kinds inputs n place.form (lists_of fewer place.reads)) (form_list kinds inputs n place.form (lists_of longer place.reads)) (form_list kinds more n place.form (lists_of longer place.reads))
    (form_list-front kinds inputs n n place.form (lists_of fewer place.reads) (lists_of longer place.reads) (omega arith) (lists_of-fronts fewer longer place.reads (iterate-inputs kinds inputs more places n h)))
    (form_list-inputs kinds inputs more n place.form (lists_of longer place.reads) h))

-- the list of a place, of lists that are made of places
pub list_at_map : (f : Place → List ℤ) (places : List Place) (i : ℕ) (place : Place) → slice_get places i ≡ Some place → list_at (map f places) i ≡ f place
list_at_map f [] i place e = cc
list_at_map f (p ∷ places) zero place e = (let same : p ≡ place = cc in ap f same)
list_at_map f (p ∷ places) (suc i) place e = list_at_map f places i place e

-- that of a place is its form's list of what it reads
pub iterate-at : (kinds : List HostKind) (inputs : List (List ℤ)) (places : List Place) (n i : ℕ) (place : Place) → slice_get places i ≡ Some place →
    list_at (iterate kinds inputs places (suc n)) i ≡ form_list kinds inputs n place.form (lists_of (iterate kinds inputs places n) place.reads)
iterate-at kinds inputs places n i place e =
    list_at_map (λ place. form_list kinds inputs n place.form (lists_of (iterate kinds inputs places n) place.reads)) places i place e

-- the first iterate has no items
none_at : (places : List Place) (i : ℕ) → list_at (map (λ place. []) places) i ≡ []
none_at [] i = refl
none_at (place ∷ places) zero = refl
none_at (place ∷ places) (suc i) = none_at places i

pub iterate-none : (kinds : List HostKind) (inputs : List (List ℤ)) (places : List Place) (i : ℕ) → list_at (iterate kinds inputs places 0) i ≡ []
iterate-none kinds inputs places i = none_at places i
