-- What a plain actor does in a firing.
use Rattle.std.proofs.Common.{ℕ, ◌+◌, ◌-◌, ◌≡◌, List, length, refl}
use Rattle.std.specs.Prelude.{nat_lt, if◌then◌else◌}
use Rattle.lucy_stream.specs.Forms.{Form, Given, Constant, Pointwise, Hosted, Kept, Merged, Delayed, Same}
use Rattle.lucy_stream.specs.Operations.{firing_ops}
use Rattle.lucy_net.specs.declared.ends.EndMove.{EndMove}
use Rattle.lucy_net.specs.declared.ends.EndMove.TheVariants.{Take, Give}
use Rattle.lucy_net.specs.Cursors.{HasCursor}
use Rattle.lucy_net.specs.States.{IsPlain, operand_at, end_move_at}
use Rattle.lucy_net.proofs.FiringLaws.{two_lengths}

pub plain_end : (form : Form) (takes gives fired step : ℕ) → IsPlain form → (if nat_lt step takes then Take step else Give (step - takes)) ≡ end_move_at form takes gives fired step
plain_end (Kept word) takes gives fired step plain = absurd plain
plain_end (Merged word) takes gives fired step plain = absurd plain
plain_end (Delayed first) takes gives fired step plain = absurd plain
plain_end (Given input) takes gives fired step plain = refl
plain_end (Constant value) takes gives fired step plain = refl
plain_end (Pointwise op) takes gives fired step plain = refl
plain_end (Hosted op) takes gives fired step plain = refl
plain_end Same takes gives fired step plain = refl

pub plain_operand : (form : Form) (fired step : ℕ) → IsPlain form → step ≡ operand_at form fired step
plain_operand (Kept word) fired step plain = absurd plain
plain_operand (Merged word) fired step plain = absurd plain
plain_operand (Delayed first) fired step plain = absurd plain
plain_operand (Given input) fired step plain = refl
plain_operand (Constant value) fired step plain = refl
plain_operand (Pointwise op) fired step plain = refl
plain_operand (Hosted op) fired step plain = refl
plain_operand Same fired step plain = refl

pub plain_moves : (form : Form) (ts gs : List ℕ) (fired : ℕ) → IsPlain form → length (firing_ops form ts gs fired) ≡ length ts + length gs
plain_moves (Kept word) ts gs fired plain = absurd plain
plain_moves (Merged word) ts gs fired plain = absurd plain
plain_moves (Delayed first) ts gs fired plain = absurd plain
plain_moves (Given input) ts gs fired plain = two_lengths ts gs
plain_moves (Constant value) ts gs fired plain = two_lengths ts gs
plain_moves (Pointwise op) ts gs fired plain = two_lengths ts gs
plain_moves (Hosted op) ts gs fired plain = two_lengths ts gs
plain_moves Same ts gs fired plain = two_lengths ts gs

-- it reads no word
pub plain_cursor : (form : Form) (fired cursor : ℕ) → IsPlain form → HasCursor form fired cursor
plain_cursor (Kept word) fired cursor plain = absurd plain
plain_cursor (Merged word) fired cursor plain = absurd plain
plain_cursor (Delayed first) fired cursor plain = absurd plain
plain_cursor (Given input) fired cursor plain = tt
plain_cursor (Constant value) fired cursor plain = tt
plain_cursor (Pointwise op) fired cursor plain = tt
plain_cursor (Hosted op) fired cursor plain = tt
plain_cursor Same fired cursor plain = tt
