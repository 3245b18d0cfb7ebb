-- The faults of a node, part by part.
use Rattle.std.proofs.Common.{◌≡◌, ◌≤◌, ◌++◌, ℕ, true, false, not, List, [], length, map, nat_lt, ap, sym, ◌∙◌, subst, inl, inr, arith}
use Rattle.std.proofs.lemmas.Bool.{cases_lt}
use Rattle.std.proofs.lemmas.Bool.Decides.{nat_tests}
use Rattle.lucy_word.specs.declared.limit.Limit.TheVariants as limit
use Rattle.lucy_word.proofs.Lists.{front_empty, back_empty}
use Rattle.lucy_host.specs.Operators.{Operator}
use Rattle.lucy_tree.specs.View.{NodeTree, ProgramTree}
use Rattle.lucy_naming.specs.declared.error.NameError.{NameError}
use Rattle.lucy_naming.specs.declared.error.NameError.TheVariants.{Twice, TooMany}
use Rattle.lucy_naming.specs.Texts.{is_in}
use Rattle.lucy_naming.specs.Streams.{streams, node_names}
use Rattle.lucy_naming.specs.Faults.{Within, unless, repeats, def_faults, result_faults, node_faults, verdict}
use Rattle.lucy_place.specs.Standing.{most_places}
use Rattle.lucy_naming.specs.Places.{as_placed}
use Rattle.lucy_naming.specs.Numbering.{node_rooms}
use Rattle.lucy_naming.specs.Placing.{TellsFirstFault}
use Rattle.lucy_naming.specs.Views.{inner_faults, text_of}
use Rattle.lucy_naming.proofs.VerdictLaws.{tells_front, tells_back, all_faultless}
use Rattle.lucy_naming.proofs.OwnPlaces.{unless_holds}
use Rattle.lucy_naming.proofs.RoomLaws.{length_placed}

few_rooms : (most rooms : ℕ) → not (nat_lt most rooms) ≡ true → rooms ≤ most
few_rooms most rooms h = grind (arith, nat_tests)

rooms_many : (most rooms : ℕ) → (rooms ≤ most → ⊥) → not (nat_lt most rooms) ≡ false
rooms_many most rooms over = elim (cases_lt most rooms) [ inl many ↦ grind (arith, nat_tests) | inr few ↦ absurd (over few) ]

rooms_fit : (most rooms : ℕ) → rooms ≤ most → not (nat_lt most rooms) ≡ true
rooms_fit most rooms few = grind (arith, nat_tests)

-- what is told of a node whose own name and streams are good, and of any node
module _ (w : Within) (t : NodeTree) where
  abbrev in_defs : List NameError
  in_defs = def_faults w t.defs

  abbrev in_results : List NameError
  in_results = result_faults w.streams [] t.results

  abbrev all_places : ℕ
  all_places = length (as_placed w.operators w.above t).places

  abbrev in_rooms : List NameError
  in_rooms = unless (not (nat_lt most_places all_places)) (TooMany limit.Places)

  counted : all_places ≡ node_rooms t
  counted = length_placed w.operators w.above t

  pub tells_defs : (e : NameError) → TellsFirstFault in_defs e → TellsFirstFault (inner_faults w t) e
  tells_defs e h = tells_front in_defs (in_results ++ in_rooms) h

  module _ (defined : in_defs ≡ []) where
    pub tells_results : (e : NameError) → TellsFirstFault in_results e → TellsFirstFault (inner_faults w t) e
    tells_results e h = tells_back in_defs (in_results ++ in_rooms) defined (tells_front in_results in_rooms h)

    module _ (resulting : in_results ≡ []) where
      pub tells_rooms : (node_rooms t ≤ most_places → ⊥) → TellsFirstFault (inner_faults w t) (TooMany limit.Places)
      tells_rooms over =
          let h : TellsFirstFault in_rooms (TooMany limit.Places) = inr (ap (λ b. verdict (unless b (TooMany limit.Places))) (rooms_many most_places all_places (λ few. over (subst (λ n. n ≤ most_places) counted few)))) in
          tells_back in_defs (in_results ++ in_rooms) defined (tells_back in_results in_rooms resulting h)

      pub no_inner : node_rooms t ≤ most_places → inner_faults w t ≡ []
      no_inner few = all_faultless in_defs (in_results ++ in_rooms) defined (all_faultless in_results in_rooms resulting (ap (λ b. unless b (TooMany limit.Places)) (rooms_fit most_places all_places (subst (λ n. n ≤ most_places) (sym counted) few))))

module _ (ops : List Operator) (all above : ProgramTree) (t : NodeTree) where
  abbrev in_name : List NameError
  in_name = unless (not (is_in (node_names above) t.name.text)) (Twice t.name.span)

  abbrev pub in_streams : List NameError
  in_streams = repeats [] (streams t)

  abbrev inside : List NameError
  inside = inner_faults (record { operators = ops; all = all; above = above; streams = map text_of (streams t) }) t

  pub tells_name : is_in (node_names above) t.name.text ≡ true → TellsFirstFault (node_faults ops all above t) (Twice t.name.span)
  tells_name is = inr (ap (λ b. verdict (unless (not b) (Twice t.name.span) ++ (in_streams ++ inside))) is)

  module _ (new : is_in (node_names above) t.name.text ≡ false) where
    named : in_name ≡ []
    named = ap (λ b. unless (not b) (Twice t.name.span)) new

    pub tells_streams : (e : NameError) → TellsFirstFault in_streams e → TellsFirstFault (node_faults ops all above t) e
    tells_streams e h = tells_back in_name (in_streams ++ inside) named (tells_front in_streams inside h)

    module _ (texts : List (List ℕ)) (streamed : in_streams ≡ []) (known : texts ≡ map text_of (streams t)) where
      pub tells_inner : (e : NameError) → TellsFirstFault (inner_faults (record { operators = ops; all = all; above = above; streams = texts }) t) e → TellsFirstFault (node_faults ops all above t) e
      tells_inner e h =
          tells_back in_name (in_streams ++ inside) named
          (tells_back in_streams inside streamed (subst (λ s. TellsFirstFault (inner_faults (record { operators = ops; all = all; above = above; streams = s }) t) e) known h))

      pub no_faults : inner_faults (record { operators = ops; all = all; above = above; streams = texts }) t ≡ [] → node_faults ops all above t ≡ []
      no_faults none =
          all_faultless in_name (in_streams ++ inside) named
          (all_faultless in_streams inside streamed (ap (λ s. inner_faults (record { operators = ops; all = all; above = above; streams = s }) t) (sym known) ∙ none))

-- a node without faults has none of each kind
module _ (ops : List Operator) (all above : ProgramTree) (t : NodeTree) (none : node_faults ops all above t ≡ []) where
  abbrev texts : List (List ℕ)
  texts = map text_of (streams t)

  abbrev rooms_fault : List NameError
  rooms_fault = unless (not (nat_lt most_places (length (as_placed ops above t).places))) (TooMany limit.Places)

  pub streams_faultless : repeats [] (streams t) ≡ []
  streams_faultless = front_empty _ _ (back_empty _ _ none)

  after_streams : def_faults (record { operators = ops; all = all; above = above; streams = texts }) t.defs ++ (result_faults texts [] t.results ++ rooms_fault) ≡ []
  after_streams = back_empty _ _ (back_empty _ _ none)

  pub defs_faultless : def_faults (record { operators = ops; all = all; above = above; streams = texts }) t.defs ≡ []
  defs_faultless = front_empty _ _ after_streams

  pub results_faultless : result_faults texts [] t.results ≡ []
  results_faultless = front_empty _ _ (back_empty _ _ after_streams)

  pub rooms_few : node_rooms t ≤ most_places
  rooms_few =
      let few = few_rooms most_places (length (as_placed ops above t).places) (unless_holds _ _ (back_empty _ _ (back_empty _ _ after_streams))) in
      subst (λ n. n ≤ most_places) (length_placed ops above t) few
