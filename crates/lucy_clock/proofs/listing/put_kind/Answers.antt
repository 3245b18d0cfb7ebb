use Rattle.std.proofs.Common.{◌≡◌, ◌++◌, ◌∷◌, [], ℕ, List, sym, ap, append-nil, subst}
use Rattle.std.specs.Result.{OnOk}
use Rattle.std.specs.Prelude.{Result, IfErr}
use Rattle.lucy_place.specs.declared.entry.PlaceKind.{PlaceKind}
use Rattle.lucy_place.specs.declared.placed.PlacedNode.{PlacedNode}
use Rattle.lucy_word.specs.Complement.{turned}
use Rattle.lucy_word.proofs.Results.{leaves}
use Rattle.lucy_need.specs.declared.need.Need.{Need}
use Rattle.lucy_need.specs.declared.need.Need.TheVariants.{Equal}
use Rattle.lucy_need.specs.Meeting.{alone, term}
use Rattle.lucy_clock.specs.declared.signature.Signature.{Signature}
use Rattle.lucy_clock.specs.declared.error.ClockError.{ClockError}
use Rattle.lucy_clock.specs.Listing.{kind_needs, operand_needs}
use Rattle.lucy_clock.specs.Drafts.{IsPast, IsListedKind}
use Rattle.lucy_clock.proofs.DraftLaws.{merged_ok, merged_refused, past_more}
use Rattle.lucy_clock.proofs.listing.put_kind.Goals as goal

-- what a call has put is what the kind of place asks for
abbrev Puts : {T : Type 0} → List Signature → PlacedNode → ℕ → (drafts new : List Need) → Result T ClockError → PlaceKind → Type 0
Puts above n p drafts new r kind = OnOk r (new ≡ drafts ++ kind_needs above n p kind)

abbrev Passes : {T : Type 0} → List Signature → PlacedNode → ℕ → (drafts : List Need) → Result T ClockError → PlaceKind → Type 0
Passes above n p drafts r kind = IfErr r (IsPast (drafts ++ kind_needs above n p kind))

pub returns-in-Param-clause-ok : goal.returns-in-Param-clause-ok
returns-in-Param-clause-ok c = subst (λ (k : PlaceKind). c.args.drafts.now ≡ c.args.drafts.now ++ kind_needs c.args.listing.above.now c.args.listing.node.now c.args.place k) (sym c.in-Param.is) (sym (append-nil c.args.drafts.now))

pub returns-in-Defined-clause-ok : goal.returns-in-Defined-clause-ok
returns-in-Defined-clause-ok c = subst (Puts c.args.listing.above.now c.args.listing.node.now c.args.place c.args.drafts.now c.same.new.self c.same.result) (sym c.in-Defined.is) c.same.ensures.ok

pub returns-in-Defined-clause-refused : goal.returns-in-Defined-clause-refused
returns-in-Defined-clause-refused c = subst (Passes c.args.listing.above.now c.args.listing.node.now c.args.place c.args.drafts.now c.same.result) (sym c.in-Defined.is) c.same.ensures.refused

pub returns-in-Op-clause-ok : goal.returns-in-Op-clause-ok
returns-in-Op-clause-ok c =
    subst (Puts c.args.listing.above.now c.args.listing.node.now c.args.place c.args.drafts.now c.put_operands.new.drafts c.put_operands.result) (sym c.in-Op.is)
    (subst (λ (args : List ℕ). OnOk c.put_operands.result (c.put_operands.new.drafts ≡ c.args.drafts.now ++ operand_needs c.args.place args)) c.list.ensures c.put_operands.ensures.ok)

pub returns-in-Op-clause-refused : goal.returns-in-Op-clause-refused
returns-in-Op-clause-refused c =
    subst (Passes c.args.listing.above.now c.args.listing.node.now c.args.place c.args.drafts.now c.put_operands.result) (sym c.in-Op.is)
    (subst (λ (args : List ℕ). IfErr c.put_operands.result (IsPast (c.args.drafts.now ++ operand_needs c.args.place args))) c.list.ensures c.put_operands.ensures.refused)

pub returns-in-Lit-clause-ok : goal.returns-in-Lit-clause-ok
returns-in-Lit-clause-ok c = subst (λ (k : PlaceKind). c.args.drafts.now ≡ c.args.drafts.now ++ kind_needs c.args.listing.above.now c.args.listing.node.now c.args.place k) (sym c.in-Lit.is) (sym (append-nil c.args.drafts.now))

pub returns-in-Host-clause-ok : goal.returns-in-Host-clause-ok
returns-in-Host-clause-ok c = subst (Puts c.args.listing.above.now c.args.listing.node.now c.args.place c.args.drafts.now c.put_operands-in-Host.new.drafts c.put_operands-in-Host.result) (sym c.in-Host.is) c.put_operands-in-Host.ensures.ok

pub returns-in-Host-clause-refused : goal.returns-in-Host-clause-refused
returns-in-Host-clause-refused c = subst (Passes c.args.listing.above.now c.args.listing.node.now c.args.place c.args.drafts.now c.put_operands-in-Host.result) (sym c.in-Host.is) c.put_operands-in-Host.ensures.refused

pub returns-in-When-clause-ok : goal.returns-in-When-clause-ok
returns-in-When-clause-ok c = subst (Puts c.args.listing.above.now c.args.listing.node.now c.args.place c.args.drafts.now c.on.new.self c.on.result) (sym c.in-When.is) c.on.ensures.ok

pub returns-in-When-clause-refused : goal.returns-in-When-clause-refused
returns-in-When-clause-refused c = subst (Passes c.args.listing.above.now c.args.listing.node.now c.args.place c.args.drafts.now c.on.result) (sym c.in-When.is) c.on.ensures.refused

pub returns-in-Fby-clause-ok : goal.returns-in-Fby-clause-ok
returns-in-Fby-clause-ok c = subst (Puts c.args.listing.above.now c.args.listing.node.now c.args.place c.args.drafts.now c.same-in-Fby.new.self c.same-in-Fby.result) (sym c.in-Fby.is) c.same-in-Fby.ensures.ok

pub returns-in-Fby-clause-refused : goal.returns-in-Fby-clause-refused
returns-in-Fby-clause-refused c = subst (Passes c.args.listing.above.now c.args.listing.node.now c.args.place c.args.drafts.now c.same-in-Fby.result) (sym c.in-Fby.is) c.same-in-Fby.ensures.refused

pub put_buffer-requires : goal.put_buffer-requires
put_buffer-requires c = subst (IsListedKind c.args.listing.above.now c.args.listing.node.now c.args.place) c.in-Buffer.is c.requires

pub returns-in-Buffer-clause-ok : goal.returns-in-Buffer-clause-ok
returns-in-Buffer-clause-ok c = subst (Puts c.args.listing.above.now c.args.listing.node.now c.args.place c.args.drafts.now c.put_buffer.new.drafts c.put_buffer.result) (sym c.in-Buffer.is) c.put_buffer.ensures.ok

pub returns-in-Buffer-clause-refused : goal.returns-in-Buffer-clause-refused
returns-in-Buffer-clause-refused c = subst (Passes c.args.listing.above.now c.args.listing.node.now c.args.place c.args.drafts.now c.put_buffer.result) (sym c.in-Buffer.is) c.put_buffer.ensures.refused

pub put_call-requires : goal.put_call-requires
put_call-requires c = subst (IsListedKind c.args.listing.above.now c.args.listing.node.now c.args.place) c.in-Result.is c.requires

pub returns-in-Result-clause-ok : goal.returns-in-Result-clause-ok
returns-in-Result-clause-ok c = subst (Puts c.args.listing.above.now c.args.listing.node.now c.args.place c.args.drafts.now c.put_call.new.drafts c.put_call.result) (sym c.in-Result.is) c.put_call.ensures.ok

pub returns-in-Result-clause-refused : goal.returns-in-Result-clause-refused
returns-in-Result-clause-refused c = subst (Passes c.args.listing.above.now c.args.listing.node.now c.args.place c.args.drafts.now c.put_call.result) (sym c.in-Result.is) c.put_call.ensures.refused

pub returns-in_err-on-in-Merge-clause-refused : goal.returns-in_err-on-in-Merge-clause-refused
returns-in_err-on-in-Merge-clause-refused c =
    let a : Need = Equal (alone c.in-Merge.one) (term c.args.place c.in-Merge.word) in
    let b : Need = Equal (alone c.in-Merge.zero) (term c.args.place (turned c.in-Merge.word)) in
    subst (Passes c.args.listing.above.now c.args.listing.node.now c.args.place c.args.drafts.now c.from_residual.result) (sym c.in-Merge.is)
    (leaves (IsPast (c.args.drafts.now ++ a ∷ [])) (IsPast (c.args.drafts.now ++ a ∷ b ∷ [])) _ c.from_residual.result c.from_residual.ensures.1 c.in_err-on-in-Merge.ensures.refused (past_more c.args.drafts.now a b))

pub on_turned-requires : goal.on_turned-requires
on_turned-requires c = subst (IsListedKind c.args.listing.above.now c.args.listing.node.now c.args.place) c.in-Merge.is c.requires

pub returns-in_ok-on-in-Merge-clause-ok : goal.returns-in_ok-on-in-Merge-clause-ok
returns-in_ok-on-in-Merge-clause-ok c =
    let a : Need = Equal (alone c.in-Merge.one) (term c.args.place c.in-Merge.word) in
    let b : Need = Equal (alone c.in-Merge.zero) (term c.args.place (turned c.in-Merge.word)) in
    subst (Puts c.args.listing.above.now c.args.listing.node.now c.args.place c.args.drafts.now c.on_turned.new.self c.on_turned.result) (sym c.in-Merge.is)
    (merged_ok c.args.drafts.now c.on-in-Merge.new.self c.on_turned.new.self a b c.on_turned.result c.in_ok-on-in-Merge.ensures.ok c.on_turned.ensures.ok)

pub returns-in_ok-on-in-Merge-clause-refused : goal.returns-in_ok-on-in-Merge-clause-refused
returns-in_ok-on-in-Merge-clause-refused c =
    let a : Need = Equal (alone c.in-Merge.one) (term c.args.place c.in-Merge.word) in
    let b : Need = Equal (alone c.in-Merge.zero) (term c.args.place (turned c.in-Merge.word)) in
    subst (Passes c.args.listing.above.now c.args.listing.node.now c.args.place c.args.drafts.now c.on_turned.result) (sym c.in-Merge.is)
    (merged_refused c.args.drafts.now c.on-in-Merge.new.self a b c.on_turned.result c.in_ok-on-in-Merge.ensures.ok c.on_turned.ensures.refused)
