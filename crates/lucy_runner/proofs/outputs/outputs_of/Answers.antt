use Rattle.std.proofs.Common.{ℕ, ◌+◌, ◌<◌, ◌≡◌, List, length, sym, refl, subst, Vec, arith}
use Rattle.std.specs.Prelude.{Some, slice_get}
use Rattle.std.proofs.lemmas.Option.{slice_get_read}
use Rattle.std.proofs.lemmas.List.{length-set}
use Rattle.std.specs.declared.alloc.Global.{Global}
use Rattle.lucy_net.specs.declared.net.Actor.{Actor}
use Rattle.lucy_runner.proofs.OutputNumbers.{AreNumbered, numbered_more, numbered_same}
use Rattle.lucy_runner.proofs.outputs.outputs_of.Goals as goal
use Rattle.lucy_runner.proofs.outputs.outputs_of.Goals.{in-Output, in_default}

pub loop-a-preserved : goal.loop-a-preserved
loop-a-preserved c =
    let actors : List Actor = c.args.actors.now in
    let a : ℕ = c.loop-a.a in
    let actor : Actor = c.index-actors-a.result in
    let outputs : List ℕ = c.loop-a.outputs.items in
    let there : slice_get actors a ≡ Some actor = slice_get_read actors (length actors) a actor refl c.loop-a-test.true c.index-actors-a.is in
    elim c.match-actor.branch [
      | in-Output w ↦
          let n : ℕ = w.in-Output.output in
          let room : n < length outputs = c.loop-a.invariant.room a n actor there w.in-Output.is in
          record {
            room = λ i m x e k. subst (λ (v : Vec ℕ Global). m < length v.items) (sym w.outputs-is) (omega (arith, length-set outputs n a, c.loop-a.invariant.room i m x e k));
            have = subst (λ (v : Vec ℕ Global). AreNumbered actors v.items (a + 1)) (sym w.outputs-is) (numbered_more actors outputs a n actor there w.in-Output.is room c.requires.apart c.loop-a.invariant.have);
          }
      | in_default w ↦ record {
        room = λ i m x e k. subst (λ (v : Vec ℕ Global). m < length v.items) (sym w.outputs-is) (c.loop-a.invariant.room i m x e k);
        have = subst (λ (v : Vec ℕ Global). AreNumbered actors v.items (a + 1)) (sym w.outputs-is) (numbered_same actors outputs a actor there w.in_default.not-Output c.loop-a.invariant.have);
      }
    ]
