use Rattle.std.proofs.Common.{ℕ, suc, Some, None, Option}
use Rattle.platefile.specs.declared.reader.Lines.{Lines}
use Rattle.platefile.specs.Reading.{bytes_left}
use Rattle.plate_output.proofs.output.print_lines.Given as goal

-- the bytes that are still to be read, and one more while a record is to come
abbrev to_read : {C : Type 0} → Option (Lines C) → ℕ
to_read None = 0
to_read (Some lines) = suc (bytes_left lines)

abbrev pub decreases-loop-next : goal.decreases-loop-next
decreases-loop-next g l = to_read l.next
