-- How a run that ended_answer so is answered: its status and its lines.
use Rattle.std.specs.Prelude.{ℕ, List, [], ◌++◌, codes}
use Rattle.std.specs.Fmt.{decimal}
use Rattle.lucy_word.specs.declared.limit.Limit.TheVariants as limit
use Rattle.lucy_lines.specs.declared.reader.TextFault.{TextFault}
use Rattle.lucy_lines.specs.declared.reader.TextFault.TheVariants.{BadLine, UnknownStream, BadValue, ReadFault, TooLong}
use Rattle.lucy_front.specs.Refusals.{limit_line, memory_line}
use Rattle.lucy_run.specs.declared.ending.Ending.{Ending}
use Rattle.lucy_run.specs.declared.ending.Ending.TheVariants.{Done, Input, Limit, WriteFault, OutOfMemory}
use Rattle.lucy_app.specs.Answers.{Answer, read_fault}

-- the status of a fault of the input, and its line
abbrev pub fault_told : TextFault → ℕ × List ℕ
fault_told (BadLine number) = (3, codes "lucy: input line " ++ (decimal number ++ codes ": not a name and a value\n"))
fault_told (UnknownStream number) = (3, codes "lucy: input line " ++ (decimal number ++ codes ": unknown stream\n"))
fault_told (BadValue number) = (3, codes "lucy: input line " ++ (decimal number ++ codes ": bad value\n"))
fault_told ReadFault = (4, read_fault.err)
fault_told TooLong = (6, limit_line limit.Input)

-- a write to the output failed
abbrev pub write_fault_line : List ℕ
write_fault_line = codes "lucy: write fault\n"

-- the status of the end of a run, and its lines
abbrev pub ending_told : Ending → ℕ × List ℕ
ending_told Done = (0, [])
ending_told (Input fault) = fault_told fault
ending_told (Limit passed) = (6, limit_line passed)
ending_told WriteFault = (5, write_fault_line)
ending_told OutOfMemory = (7, memory_line)

-- this stands on the output, and the run ended_answer so
abbrev pub ended_answer : (output : List ℕ) → Ending → Answer
ended_answer output end = record { status = (ending_told end).0; out = output; err = (ending_told end).1 }
