-- The calls of expressions, with the places of their results; and how far the places, buffers and calls of expressions go.
use Rattle.std.proofs.Common.{◌≡◌, ◌+◌, ℕ, zero, suc, List, [], ◌∷◌, ◌++◌, length, map, refl, ap, ◌∙◌, subst, arith}
use Rattle.std.proofs.lemmas.List.{map-append}
use Rattle.lucy_tree.specs.View.{DefTree}
use Rattle.lucy_place.specs.declared.entry.CallSite.{CallSite}
use Rattle.lucy_naming.specs.Texts.{place_in}
use Rattle.lucy_naming.specs.Streams.{result_count}
use Rattle.lucy_naming.specs.Phrases.{Head, Literal, Applied, Host, Sampled, Merged, Followed, Buffered, Called, Phrase, Phrases, name, headed, none, and, phrase_of}
use Rattle.lucy_naming.specs.Numbering.{Next, past, past_all, inside, numbers, entries, all_entries, own_entries, own_sites, sites, all_sites}
use Rattle.lucy_naming.specs.Places.{Known, results_from}
use Rattle.lucy_naming.specs.Nodes.{past_def, past_defs, rights, def_sites}
use Rattle.lucy_place.specs.Standing.{buffer_places}
use Rattle.lucy_naming.proofs.DraftLaws.{length_results, inside_past}
use Rattle.lucy_naming.proofs.Spread.{Call, Reaches, reaches_none, reaches_join}

abbrev pub own_made : Known → Next → ℕ → Head → List ℕ → List Call
own_made k at results (Called n base) args = record { site = record { node = place_in k.nodes n.text; at = base; first = at.place; args = args }; results = results } ∷ []
own_made k at results h args = []

abbrev mutual
  pub made : Known → Next → ℕ → Phrase → List Call
  made k at results (name n) = []
  made k at results (headed h span fs) = own_made k at results h (numbers k (inside at results h) fs) ++ all_made k (inside at results h) fs

  pub all_made : Known → Next → Phrases → List Call
  all_made k at none = []
  all_made k at (and f fs) = made k at 1 f ++ all_made k (past at 1 f) fs

abbrev pub def_made : Known → Next → List DefTree → List Call
def_made k at [] = []
def_made k at (d ∷ ds) = made k at (result_count d.left) (phrase_of d.right) ++ def_made k (past_def at d) ds

-- they are the calls of the numbering
abbrev pub site : Call → CallSite
site c = c.site

own_sites_are : (k : Known) (at : Next) (r : ℕ) (h : Head) (args : List ℕ) → map site (own_made k at r h args) ≡ own_sites k at h args
own_sites_are k at r (Literal l) args = refl
own_sites_are k at r (Applied o) args = refl
own_sites_are k at r (Host n) args = refl
own_sites_are k at r (Sampled flip w) args = refl
own_sites_are k at r (Merged w) args = refl
own_sites_are k at r (Followed l) args = refl
own_sites_are k at r (Buffered most) args = refl
own_sites_are k at r (Called n base) args = refl

mutual
  sites_are : (k : Known) (at : Next) (r : ℕ) (f : Phrase) → map site (made k at r f) ≡ sites k at r f
  sites_are k at r (name n) = refl
  sites_are k at r (headed h span fs) =
      let in_ : Next = inside at r h in
      map-append site (own_made k at r h (numbers k in_ fs)) (all_made k in_ fs)
      ∙ ap (λ l. l ++ map site (all_made k in_ fs)) (own_sites_are k at r h (numbers k in_ fs)) ∙ ap (λ l. own_sites k at h (numbers k in_ fs) ++ l) (all_sites_are k in_ fs)

  all_sites_are : (k : Known) (at : Next) (fs : Phrases) → map site (all_made k at fs) ≡ all_sites k at fs
  all_sites_are k at none = refl
  all_sites_are k at (and f fs) =
      map-append site (made k at 1 f) (all_made k (past at 1 f) fs)
      ∙ ap (λ l. l ++ map site (all_made k (past at 1 f) fs)) (sites_are k at 1 f) ∙ ap (λ l. sites k at 1 f ++ l) (all_sites_are k (past at 1 f) fs)

pub def_sites_are : (k : Known) (at : Next) (ds : List DefTree) → map site (def_made k at ds) ≡ def_sites k at ds
def_sites_are k at [] = refl
def_sites_are k at (d ∷ ds) =
    let r : ℕ = result_count d.left in
    map-append site (made k at r (phrase_of d.right)) (def_made k (past_def at d) ds)
    ∙ ap (λ l. l ++ map site (def_made k (past_def at d) ds)) (sites_are k at r (phrase_of d.right)) ∙ ap (λ l. sites k at r (phrase_of d.right) ++ l) (def_sites_are k (past_def at d) ds)

-- no buffer stands at the results of a call
pub buffers_results : (from call first n : ℕ) → buffer_places from (results_from call first n) ≡ []
buffers_results from call first zero = refl
buffers_results from call first (suc n) = buffers_results (from + 1) call (first + 1) n

pub reaches_own : (k : Known) (at : Next) (r : ℕ) (h : Head) (args : List ℕ) → Reaches at (inside at r h) (own_entries k at r h args) (own_made k at r h args)
reaches_own k at r (Literal l) args = record { place = omega arith; buffer = omega arith; call = omega arith }
reaches_own k at r (Applied o) args = record { place = omega arith; buffer = omega arith; call = omega arith }
reaches_own k at r (Host n) args = record { place = omega arith; buffer = omega arith; call = omega arith }
reaches_own k at r (Sampled flip w) args = record { place = omega arith; buffer = omega arith; call = omega arith }
reaches_own k at r (Merged w) args = record { place = omega arith; buffer = omega arith; call = omega arith }
reaches_own k at r (Followed l) args = record { place = omega arith; buffer = omega arith; call = omega arith }
reaches_own k at r (Buffered most) args = record { place = omega arith; buffer = omega arith; call = omega arith }
reaches_own k at r (Called n base) args =
    let l = length_results at.call 0 r in
    let b : length (buffer_places at.place (results_from at.call 0 r)) ≡ 0 = ap length (buffers_results at.place at.call 0 r) in
    record { place = omega (arith, l); buffer = omega (arith, b); call = omega arith }

mutual
  pub reaches_phrase : (k : Known) (at : Next) (r : ℕ) (f : Phrase) → Reaches at (past at r f) (entries k at r f) (made k at r f)
  reaches_phrase k at r (name n) = record { place = omega arith; buffer = omega arith; call = omega arith }
  reaches_phrase k at r (headed h span fs) =
      let in_ : Next = inside at r h in
      let args : List ℕ = numbers k in_ fs in
      subst (λ t. Reaches at t (entries k at r (headed h span fs)) (made k at r (headed h span fs))) (inside_past at r h span fs)
      (reaches_join at in_ (past_all in_ fs) (own_entries k at r h args) (all_entries k in_ fs) (own_made k at r h args) (all_made k in_ fs) (reaches_own k at r h args) (reaches_all k in_ fs))

  pub reaches_all : (k : Known) (at : Next) (fs : Phrases) → Reaches at (past_all at fs) (all_entries k at fs) (all_made k at fs)
  reaches_all k at none = reaches_none at
  reaches_all k at (and f fs) =
      reaches_join at (past at 1 f) (past_all (past at 1 f) fs) (entries k at 1 f) (all_entries k (past at 1 f) fs) (made k at 1 f) (all_made k (past at 1 f) fs)
      (reaches_phrase k at 1 f) (reaches_all k (past at 1 f) fs)

pub reaches_defs : (k : Known) (at : Next) (ds : List DefTree) → Reaches at (past_defs at ds) (rights k at ds) (def_made k at ds)
reaches_defs k at [] = reaches_none at
reaches_defs k at (d ∷ ds) =
    let r : ℕ = result_count d.left in
    reaches_join at (past_def at d) (past_defs (past_def at d) ds) (entries k at r (phrase_of d.right)) (rights k (past_def at d) ds) (made k at r (phrase_of d.right)) (def_made k (past_def at d) ds)
    (reaches_phrase k at r (phrase_of d.right)) (reaches_defs k (past_def at d) ds)
