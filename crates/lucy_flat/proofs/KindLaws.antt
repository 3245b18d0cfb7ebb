-- What holds of every kind of actor but samplings, and of every one but samplings and merges.
use Rattle.std.proofs.Common.{ℕ, ◌≡◌, Option, refl}
use Rattle.lucy_word.specs.Bits.{Bits}
use Rattle.lucy_net.specs.declared.kind.ActorKind.{ActorKind}
use Rattle.lucy_net.specs.declared.kind.ActorKind.TheVariants.{Input, Lit, Op, Host, When, Merge, Fby, Pass, Output}
use Rattle.lucy_net.specs.declared.net.RingSpec.{RingSpec}
use Rattle.lucy_flat.specs.Assembly.{IsReadOn, ReadsTooLong, IsFiring}

pub fires_else : (kind : ActorKind) (own : Bits) (first : Option RingSpec) → ((p : Bits) → kind ≡ When p → ⊥) → IsFiring kind own first own
fires_else (Input n) own first other = refl
fires_else (Lit n) own first other = refl
fires_else (Op op) own first other = refl
fires_else (Host n) own first other = refl
fires_else (When p) own first other = absurd (other p refl)
fires_else (Merge p) own first other = refl
fires_else (Fby n) own first other = refl
fires_else Pass own first other = refl
fires_else (Output n) own first other = refl

module _ (k : ℕ) (own : Bits) where
  pub reads_else : (kind : ActorKind) (write : Bits) → ((p : Bits) → kind ≡ When p → ⊥) → ((p : Bits) → kind ≡ Merge p → ⊥) → IsReadOn kind k own write own
  reads_else (Input n) write no_when no_merge = refl
  reads_else (Lit n) write no_when no_merge = refl
  reads_else (Op op) write no_when no_merge = refl
  reads_else (Host n) write no_when no_merge = refl
  reads_else (When p) write no_when no_merge = absurd (no_when p refl)
  reads_else (Merge p) write no_when no_merge = absurd (no_merge p refl)
  reads_else (Fby n) write no_when no_merge = refl
  reads_else Pass write no_when no_merge = refl
  reads_else (Output n) write no_when no_merge = refl

  pub short_else : (kind : ActorKind) → ((p : Bits) → kind ≡ Merge p → ⊥) → ReadsTooLong kind k own → ⊥
  short_else (Input n) no_merge long = long
  short_else (Lit n) no_merge long = long
  short_else (Op op) no_merge long = long
  short_else (Host n) no_merge long = long
  short_else (When p) no_merge long = long
  short_else (Merge p) no_merge long = absurd (no_merge p refl)
  short_else (Fby n) no_merge long = long
  short_else Pass no_merge long = long
  short_else (Output n) no_merge long = long
