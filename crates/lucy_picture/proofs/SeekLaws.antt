-- What is known of the search for a form.
use Rattle.std.proofs.Common.{ℕ, zero, suc, ◌≡◌, List, [], ◌∷◌, Some, None, refl, sym, ap, ◌∙◌}
use Rattle.std.specs.Prelude.{fold, slice_get}
use Rattle.lucy_tree.specs.Tree.{Tree}
use Rattle.lucy_picture.specs.Forms.{times}
use Rattle.lucy_picture.specs.Seeking.{Seek, seek}

-- what is found stays
seek_stays : (ts : List Tree) (skip : ℕ) (u : Tree) → (fold seek (record { skip = skip; found = Some u }) ts).found ≡ Some u
seek_stays [] skip u = refl
seek_stays (t ∷ ts) skip u = seek_stays ts skip u

-- the form of a number is found, where it is there
seek_from : (ts : List Tree) (skip : ℕ) → (fold seek (record { skip = skip; found = None }) ts).found ≡ slice_get ts skip
seek_from [] skip = refl
seek_from (t ∷ ts) zero = seek_stays ts 0 t
seek_from (t ∷ ts) (suc skip) = seek_from ts skip

pub seek_found : (ts : List Tree) (skip : ℕ) (start end : Seek) → start ≡ record { skip = skip; found = None } → end ≡ fold seek start ts → end.found ≡ slice_get ts skip
seek_found ts skip start end begins ends = ap (λ (s : Seek). s.found) ends ∙ ap (λ (s : Seek). (fold seek s ts).found) begins ∙ seek_from ts skip

-- past a form once more
pub seek_times : (t : Tree) (n m : ℕ) (s end : Seek) → n ≡ suc m → fold seek s (times n t) ≡ end → fold seek (seek s t) (times m t) ≡ end
seek_times t n m s end e before = sym (ap (λ k. fold seek s (times k t)) e) ∙ before
