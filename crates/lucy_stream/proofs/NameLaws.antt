-- Iterates of places that have names.
use Rattle.std.proofs.Common.{ℕ, suc, zero, ◌≡◌, List, [], ◌∷◌, map, ap, sym, refl, ◌∙◌}
use Rattle.std.specs.Prelude.{ℤ, All}
use Rattle.std.proofs.lemmas.List.Elements.{All-head, All-tail}
use Rattle.lucy_host.specs.declared.kind.HostKind.{HostKind}
use Rattle.lucy_stream.specs.Items.{list_at}
use Rattle.lucy_stream.specs.Lists.{form_list}
use Rattle.lucy_stream.specs.Iterates.{Place, iterate}
use Rattle.lucy_stream.specs.Names.{Named, AreIterates, AreNumbered}
use Rattle.lucy_stream.proofs.IterateLaws.{iterate-at, iterate-none}

map_same : {X : Type 0} (P : X → Type 0) (f : ℕ → List ℤ) (g : X → List ℤ) (number : X → ℕ) → ((x : X) → P x → f (number x) ≡ g x) → (xs : List X) → All P xs → map f (map number xs) ≡ map g xs
map_same P f g number h [] all = refl
map_same P f g number h (x ∷ xs) all =
    let a : f (number x) ≡ g x = h x (All-head P x xs all) in
    let b : map f (map number xs) ≡ map g xs = map_same P f g number h xs (All-tail P x xs all) in
    cc

pub named_iterates : (Name : Type 0) (named : Named Name) (number : Name → ℕ) (places : List Place) (kinds : List HostKind) (inputs : List (List ℤ)) (lists : ℕ → Name → List ℤ) (n : ℕ) (x : Name) →
    AreNumbered named number places → AreIterates named kinds inputs lists → named.IsThere x → list_at (iterate kinds inputs places n) (number x) ≡ lists n x
named_iterates Name named number places kinds inputs lists zero x numbered are there = iterate-none kinds inputs places (number x) ∙ sym (are.first x there)
named_iterates Name named number places kinds inputs lists (suc n) x numbered are there =
    let now : ℕ → List ℤ = list_at (iterate kinds inputs places n) in
    let read : map now (map number (named.reads x)) ≡ map (lists n) (named.reads x) =
    map_same named.IsThere now (lists n) number (λ y y_there. named_iterates Name named number places kinds inputs lists n y numbered are y_there) (named.reads x) (numbered.closed x there) in
    iterate-at kinds inputs places n (number x) (record { form = named.form x; reads = map number (named.reads x) }) (numbered.place x there)
    ∙ ap (form_list kinds inputs n (named.form x)) read ∙ sym (are.next n x there)
