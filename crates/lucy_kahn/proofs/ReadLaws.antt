-- What parameters and results of calls read, as the code comes to it.
use Rattle.std.proofs.Common.{ℕ, ◌-◌, ◌<◌, ◌≤◌, ◌≡◌, List, [], Some, None, length, get_or, ap, sym, refl, ◌∙◌, subst, arith}
use Rattle.std.specs.Prelude.{ℤ, slice_get, slice_index_or}
use Rattle.std.proofs.lemmas.Option.{slice_get_read}
use Rattle.lucy_host.specs.declared.kind.HostKind.{HostKind}
use Rattle.lucy_place.specs.declared.placed.PlacedNode.{PlacedNode}
use Rattle.lucy_place.specs.declared.entry.CallSite.{CallSite}
use Rattle.lucy_place.specs.declared.entry.PlaceKind.TheVariants.{Param, Result}
use Rattle.lucy_place.specs.Proper.{IsPlace}
use Rattle.lucy_kahn.specs.Spots.{node_at}
use Rattle.lucy_kahn.specs.declared.instances.Caller.{Caller}
use Rattle.lucy_kahn.specs.declared.instances.Instance.{Instance}
use Rattle.lucy_kahn.specs.declared.iterate.Iterate.{Iterate}
use Rattle.lucy_kahn.specs.Turns.{StandsIn, own_at, lists_in}
use Rattle.lucy_kahn.specs.Views.{IsBefore, list_after}
use Rattle.lucy_kahn.proofs.OwnLaws.{at_is}
use Rattle.lucy_kahn.proofs.TurnLaws.{main_param, call_param, call_result, lists_from, count_of_lists, count_of_iterate, HasArgument, IsArgument, HasResult}

module _ (it : Iterate) (kinds : List HostKind) (paths : ℕ → List ℕ) (b : IsBefore kinds it paths) (instance place : ℕ) (x : Instance)
    (within : instance < length it.instances.now.list.items) (is : x ≡ get_or it.instances.now.list.items instance x) where
  abbrev inputs : List (List ℤ)
  inputs = it.inputs.now

  abbrev nodes : List PlacedNode
  nodes = it.placed.now.nodes

  abbrev list : List Instance
  list = it.instances.now.list.items

  abbrev inner : List ℕ
  inner = it.instances.now.inner.items

  pub found : slice_get list instance ≡ Some x
  found = slice_get_read list (length list) instance x refl within is

  pub in_main : x.caller ≡ None → StandsIn nodes list instance place Param → (1 ≤ place) × (place - 1 < length inputs) × (list_after kinds it (paths instance) place ≡ slice_index_or inputs (place - 1) [])
  in_main none stands = main_param kinds inputs nodes list inner it.number it.lists.now paths b instance place x found none stands

  pub in_call : (by : Caller) → x.caller ≡ Some by → StandsIn nodes list instance place Param → HasArgument kinds inputs nodes list inner it.number it.lists.now paths b instance place by
  in_call by called stands = call_param kinds inputs nodes list inner it.number it.lists.now paths b instance place x by found called stands

  pub argument_at : (by : Caller) (m : PlacedNode) (calls : List CallSite) (site : CallSite) → x.caller ≡ Some by → StandsIn nodes list instance place Param → node_at nodes (paths by.instance) ≡ Some m →
      calls ≡ m.calls → site ≡ get_or calls (by.call - 1) site → IsArgument kinds inputs nodes list inner it.number it.lists.now paths b instance place by m site
  argument_at by m calls site called stands node same at =
      let h = in_call by called stands in
      let l : by.call - 1 < length calls = subst (λ (xs : List CallSite). by.call - 1 < length xs) (sym same) (h.call m node) in
      h.argument m site node (ap (λ (xs : List CallSite). slice_get xs (by.call - 1)) (sym same) ∙ slice_get_read calls (length calls) (by.call - 1) site refl l at)

  pub results_at : (call number first : ℕ) → slice_get inner instance ≡ Some first → StandsIn nodes list instance place (Result call number) → HasResult kinds inputs nodes list inner it.number it.lists.now paths b instance place call number first
  results_at call number first made stands = call_result kinds inputs nodes list inner it.number it.lists.now paths b instance place call number first x found made stands

  -- a list of another instance, at one of its places
  pub read_at : (other p : ℕ) (m : PlacedNode) (lists : List (List ℤ)) (got : List ℤ) → other < length list → node_at nodes (paths other) ≡ Some m → slice_get it.lists.now other ≡ Some lists → IsPlace m p → slice_get lists (p - 1) ≡ Some got →
      got ≡ own_at (lists_in kinds inputs nodes it.number (paths other)) p
  read_at other p m lists got l node e place_there g = at_is lists p got g ∙ ap (λ (xs : List (List ℤ)). own_at xs p) (lists_from kinds inputs nodes list inner it.number it.lists.now paths b other lists l e)

  pub place_within : (other p : ℕ) (m : PlacedNode) (lists : List (List ℤ)) → other < length list → node_at nodes (paths other) ≡ Some m → slice_get it.lists.now other ≡ Some lists → IsPlace m p → p ≤ length lists
  place_within other p m lists l node e place_there =
      let high : p ≤ length m.places = place_there.1 in
      omega (arith, count_of_lists kinds inputs nodes list inner it.number it.lists.now paths b other m lists node (lists_from kinds inputs nodes list inner it.number it.lists.now paths b other lists l e))

  pub other_there : (other : ℕ) → other < length list → other < length it.lists.now
  other_there other l = omega (arith, l, count_of_iterate kinds inputs nodes list inner it.number it.lists.now paths b)
