-- Laws of refusals as they are handed on.
use Rattle.std.proofs.Common.{ℕ, ◌≡◌, ◌⊎◌, List, Result, Ok, Err, refl, sym, subst, inl, inr}
use Rattle.std.specs.Prelude.{IfOk, OnErr, IsErrAnd, MatchResult}
use Rattle.std.specs.declared.alloc.Global.{Global}
use Rattle.std.specs.declared.vec.Vec.{Vec}
use Rattle.lucy_word.specs.declared.limit.Limit.{Limit as Passed}
use Rattle.lucy_text.specs.Outside.{SeenSink}
use Rattle.lucy_text.specs.declared.shelf.ShelfError.{ShelfError}
use Rattle.lucy_front.specs.Refusals.{memory_line}
use Rattle.lucy_app.specs.World.{bytes_of}
use Rattle.lucy_app.specs.Answers.{limit_passed}
use Rattle.lucy_app.specs.Ends.{Tells}
use Rattle.lucy_tables.specs.Tables.{RefusesTable}
use Rattle.lucy_tables.specs.Refusals.{RefusesFile}
use Rattle.lucy_tables.specs.Seen.{loading_answer}
use Rattle.lucy_tables.specs.declared.error.TableError.TheVariants as table
use Rattle.lucy_tables.specs.declared.refusal.Refusal.{Refusal}
use Rattle.lucy_tables.specs.declared.refusal.Refusal.TheVariants.{OutOfMemory}

-- lines that were made were told, or that memory ran out
pub explained : {E : Type 0} (lines : Result (Vec ℕ Global) E) (told : ℕ) (text : List ℕ) (err err' : SeenSink) (status : ℕ) →
    IfOk lines (λ v. v.items ≡ text) → IfOk lines (λ v. Tells told v.items err err' status) → OnErr lines (Tells 7 memory_line err err' status) →
    Tells told text err err' status ⊎ Tells 7 memory_line err err' status
explained (Ok v) told text err err' status is tells memory = inl (subst (λ t. Tells told t err err' status) is tells)
explained (Err e) told text err err' status is tells memory = inr memory

-- what was told of a refusal, by what the refusal is
pub as_refused : (refusal e : Refusal) (err err' : SeenSink) (status : ℕ) → refusal ≡ e →
    Tells (loading_answer e).status (loading_answer e).err err err' status ⊎ Tells 7 memory_line err err' status →
    Tells (loading_answer refusal).status (loading_answer refusal).err err err' status ⊎ Tells 7 memory_line err err' status
as_refused refusal e err err' status is tells =
    subst (λ r. Tells (loading_answer r).status (loading_answer r).err err err' status ⊎ Tells 7 memory_line err err' status) (sym is) tells

-- a text with too many fields
pub many_refused : (name bytes : List ℕ) (fetched : Result (Vec ℕ Global) ShelfError) (text : Vec ℕ Global) (l : Passed) → fetched ≡ Ok text →
    bytes ≡ text.items → (table.Limit l ≡ table.OutOfMemory) ⊎ RefusesTable bytes (table.Limit l) → RefusesFile name (bytes_of fetched) (limit_passed l)
many_refused name bytes fetched text l is same (inl e) = cc e
many_refused name bytes fetched text l is same (inr why) =
    subst (λ f. RefusesFile name (bytes_of f) (limit_passed l)) (sym is) (table.Limit l, subst (λ b. RefusesTable b (table.Limit l)) same why, refl)

-- want of memory is answered as itself
pub memory_answered : {X : Type 0} (result : Result X Refusal) (Held : X → Type 0) (Owed : Refusal → Type 0) → IsErrAnd result (λ e. e ≡ OutOfMemory) →
    MatchResult result Held (λ e. (e ≡ OutOfMemory) ⊎ Owed e)
memory_answered (Ok x) Held Owed h = absurd h
memory_answered (Err e) Held Owed h = inl h
