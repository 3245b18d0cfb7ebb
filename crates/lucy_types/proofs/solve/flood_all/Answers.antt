use Rattle.std.proofs.Common.{length, ap, ◌∙◌, subst}
use Rattle.std.proofs.lemmas.Result.{on_ok_weaker}
use Rattle.lucy_host.specs.declared.data_type.DataType.TheVariants.{Int, Bool}
use Rattle.lucy_types.specs.declared.ty.Ty.TheVariants as ty
use Rattle.lucy_types.specs.declared.rule.Rule.TheVariants.{Is}
use Rattle.lucy_types.specs.Graphs.{HasTrue}
use Rattle.lucy_types.specs.Flooding.{FloodsForced}
use Rattle.lucy_types.proofs.SolutionLaws.{fixed_marks}
use Rattle.lucy_types.proofs.solve.flood_all.Goals as goal

pub flood_forced-requires-clause-all : goal.flood_forced-requires-clause-all
flood_forced-requires-clause-all c = ap length c.deref.ensures.value ∙ c.requires.graph.ints

pub flood_forced-requires-clause-first : goal.flood_forced-requires-clause-first
flood_forced-requires-clause-first c = λ p h. (c.requires.graph.fits (Is p Int) (subst (λ xs. HasTrue xs p) c.deref.ensures.value h)).0

pub flood_forced-requires-clause-begin : goal.flood_forced-requires-clause-begin
flood_forced-requires-clause-begin c = λ p h. subst (λ xs. HasTrue xs p) c.deref.ensures.value h

pub flood_forced-requires-2-clause-all : goal.flood_forced-requires-2-clause-all
flood_forced-requires-2-clause-all c = ap length c.deref-2.ensures.value ∙ c.requires.graph.bools

pub flood_forced-requires-2-clause-first : goal.flood_forced-requires-2-clause-first
flood_forced-requires-2-clause-first c = λ p h. (c.requires.graph.fits (Is p Bool) (subst (λ xs. HasTrue xs p) c.deref-2.ensures.value h)).0

pub flood_forced-requires-2-clause-begin : goal.flood_forced-requires-2-clause-begin
flood_forced-requires-2-clause-begin c = λ p h. subst (λ xs. HasTrue xs p) c.deref-2.ensures.value h

pub flood_open-requires-clause-fixed : goal.flood_open-requires-clause-fixed
flood_open-requires-clause-fixed c =
    fixed_marks c.args.graph.now c.args.flood.now c.flood_forced.new.flood c.flood_forced-2.new.flood c.requires.dry
    (subst (λ xs. FloodsForced c.args.graph.now (HasTrue xs) ty.Int c.args.flood.now c.flood_forced.new.flood) c.deref.ensures.value c.in_ok-flood_forced.ensures)
    (subst (λ xs. FloodsForced c.args.graph.now (HasTrue xs) ty.Bool c.flood_forced.new.flood c.flood_forced-2.new.flood) c.deref-2.ensures.value c.in_ok-flood_forced-2.ensures)

pub returns : goal.returns
returns c =
    on_ok_weaker c.flood_open.result (λ others. record {
      ints = c.flood_forced.new.flood;
      bools = c.flood_forced-2.new.flood;
      forced_ints = subst (λ xs. FloodsForced c.args.graph.now (HasTrue xs) ty.Int c.args.flood.now c.flood_forced.new.flood) c.deref.ensures.value c.in_ok-flood_forced.ensures;
      forced_bools = subst (λ xs. FloodsForced c.args.graph.now (HasTrue xs) ty.Bool c.flood_forced.new.flood c.flood_forced-2.new.flood) c.deref-2.ensures.value c.in_ok-flood_forced-2.ensures;
      others = others;
    }) c.flood_open.ensures
