use Rattle.std.proofs.Common.{◌≡◌, ◌≤◌, ◌-◌, List, length, drop}
use Rattle.lucy_token.specs.declared.token.Kind.{Kind}
use Rattle.lucy_token.specs.States.{state_of}
use Rattle.lucy_token.specs.Steps.{CutsSoFar, IsBounded}
use Rattle.lucy_token.proofs.scan.tokens.Given as goal

abbrev pub invariant-text : goal.invariant-text
invariant-text l = record {
  within : l.from ≤ length l.text;
  here : (ks : List Kind) × (l.context ≡ state_of ks) × CutsSoFar l.text l.list.items l.from ks (drop l.from l.text);
  bounded : IsBounded l.from l.context;
}

abbrev pub decreases-text : goal.decreases-text
decreases-text l = length l.text - l.from
