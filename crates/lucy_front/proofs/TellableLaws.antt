-- What is accepted can be reported, and what refuses can be told.
use Rattle.std.proofs.Common.{ℕ, ◌<◌, List, length, take, ap, sym, ◌∙◌, subst, inl, inr}
use Rattle.std.proofs.lemmas.Option.{slice_get_within}
use Rattle.lucy_host.specs.Operators.{Operator}
use Rattle.lucy_place.specs.declared.placed.PlacedNode.{PlacedNode}
use Rattle.lucy_place.specs.PlacedProgram.{PlacedProgram}
use Rattle.lucy_need.specs.declared.need.Term.{Term}
use Rattle.lucy_need.specs.declared.need.Need.{Need}
use Rattle.lucy_clock.specs.declared.signature.Signature.{Signature}
use Rattle.lucy_need.specs.declared.need.Need.TheVariants.{Equal, Adapt}
use Rattle.lucy_need.specs.declared.need.Needs.{Needs}
use Rattle.lucy_need.specs.Meeting.{Assignment, assigned}
use Rattle.lucy_check.specs.declared.fault.CheckFault.{CheckFault}
use Rattle.lucy_check.specs.Passing.{PassesTermLimit, RefusesNeed, IsFirstRefusal}
use Rattle.lucy_program.specs.declared.options.Options.{Options}
use Rattle.lucy_front.specs.declared.refusal.Refusal.{Refusal}
use Rattle.lucy_front.specs.declared.refusal.Refusal.TheVariants.{Syntax, Names, Types, Node, Cause, Limit as LimitPassed, OutOfMemory}
use Rattle.lucy_front.specs.declared.fault.NodeFault.{NodeFault}
use Rattle.lucy_front.specs.declared.fault.NodeFault.TheVariants.{NotWritten, Rates, Clocks, Check}
use Rattle.lucy_clock.specs.declared.node_clock.NodeClock.{NodeClock}
use Rattle.lucy_clock.specs.NodeClocks.{signatures}
use Rattle.lucy_front.specs.Unscheduled.{RefusesNet}
use Rattle.lucy_front.specs.Unclocked.{RefusesNode}
use Rattle.lucy_front.specs.Clocking.{IsTold}
use Rattle.lucy_front.specs.Refusing.{RefusesPhases, Refuses}
use Rattle.lucy_front.specs.Refusals.{NamesNeed, AreBelow, IsShown, IsTellable}
use Rattle.lucy_front.proofs.ClockedLaws.{check_told}
use Rattle.lucy_front.proofs.EvidenceLaws.{walk_there, cycle_there}

-- a limit isn't told as a fault of the checker
no_limit : (w : Assignment) (s t : Term) (number : ℕ) (e : CheckFault) → PassesTermLimit w s t number e → IsTold e → ⊥
no_limit w s t number e (inl (inl p)) told = subst IsTold p.0 told
no_limit w s t number e (inl (inr p)) told = subst IsTold p.0 told
no_limit w s t number e (inr p) told = subst IsTold p.0 told

-- the number in a refusal is that of the need
need_there : (w : Assignment) (needs : List Need) (number : ℕ) (need : Need) (e : CheckFault) → number < length needs → RefusesNeed w number need e → IsTold e → NamesNeed needs e
need_there w needs number (Equal s t) e l (inl p) told = absurd (no_limit w s t number e p told)
need_there w needs number (Equal s t) e l (inr d) told = subst (NamesNeed needs) (sym d.3.1) l
need_there w needs number (Adapt s t) e l (inl p) told = absurd (no_limit w s t number e p told)
need_there w needs number (Adapt s t) e l (inr d) told = elim d.3 [ inl r ↦ subst (NamesNeed needs) (sym r.0) l | inr r ↦ subst (NamesNeed needs) (sym r.1) l ]

first_there : (w : Assignment) (needs : List Need) (e : CheckFault) → IsFirstRefusal w needs e → IsTold e → NamesNeed needs e
first_there w needs e r told = need_there w needs r.number r.need e (slice_get_within needs r.number r.need r.stands) r.refused told

-- what shows a fault is there
fault_shown : (o : Options) (placed : PlacedProgram) (node : ℕ) (f : NodeFault) (above : List Signature) (n : PlacedNode) → RefusesNode o placed node f above n → IsShown f
fault_shown o placed node (NotWritten span) above n h = tt
fault_shown o placed node (Rates needs walk) above n h = subst (λ (x : Needs). AreBelow (length x.list) walk.items) (sym h.0.0) (walk_there _ o.scale o.lead walk h.1.1)
fault_shown o placed node (Clocks needs shape diffs cycle) above n h =
    let there = cycle_there _ o.scale o.lead shape diffs cycle h.1.1 in
    (there.0 ∙ ap (λ (x : Needs). x.clocks) (sym h.0.0), there.1, there.2)
fault_shown o placed node (Check needs e) above n h =
    let (are, (written, words, within, first), told) = check_told o placed node needs e above n h in
    subst (λ (x : Needs). NamesNeed x.list e) (sym are.0) (first_there (assigned words) _ e first told)

phase_tellable : (ops : List Operator) (o : Options) (text : List ℕ) (e : Refusal) → RefusesPhases ops o text e → IsTellable e
phase_tellable ops o text (Syntax e) h = tt
phase_tellable ops o text (Names e) h = tt
phase_tellable ops o text (Types placed node path) h = slice_get_within placed.nodes node h.1.n h.1.found
phase_tellable ops o text (Node placed node fault) h =
    (slice_get_within placed.nodes node h.2.n h.2.stands, fault_shown o placed node fault (signatures (take node placed.nodes) h.2.clocks) h.2.n h.2.refused)
phase_tellable ops o text (Cause net names instant items) h = tt
phase_tellable ops o text (LimitPassed l) h = tt
phase_tellable ops o text OutOfMemory h = tt

-- a refusal for the net is of a limit or of a cycle
net_tellable : (nodes : List PlacedNode) (clocks : List NodeClock) (e : Refusal) → RefusesNet nodes clocks e → IsTellable e
net_tellable nodes clocks (Syntax e) h = absurd h
net_tellable nodes clocks (Names e) h = absurd h
net_tellable nodes clocks (Types placed node path) h = absurd h
net_tellable nodes clocks (Node placed node fault) h = absurd h
net_tellable nodes clocks (Cause net names instant items) h = tt
net_tellable nodes clocks (LimitPassed l) h = tt
net_tellable nodes clocks OutOfMemory h = tt

pub tellable : (ops : List Operator) (o : Options) (text : List ℕ) (e : Refusal) → Refuses ops o text e → IsTellable e
tellable ops o text e (inl h) = phase_tellable ops o text e h
tellable ops o text e (inr h) = net_tellable h.0.nodes h.2 e h.4
