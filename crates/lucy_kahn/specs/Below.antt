-- Which nodes calls are of.
use Rattle.std.specs.Prelude.{ℕ, ◌<◌, List}
use Rattle.std.specs.List.{AllByRecursion}
use Rattle.lucy_place.specs.declared.entry.CallSite.{CallSite}

-- the calls are of nodes below this number
abbrev pub Below : ℕ → List CallSite → Type 0
Below k sites = AllByRecursion (λ (site : CallSite). site.node < k) sites
