-- What is printed of a plate file: its lines, their count and total, and the fault that ends it.
use Rattle.std.specs.Prelude.{ℕ, List, ◌++◌, codes, decimal}
use Rattle.lines.specs.Texts.{codes_text, preview_text}
use Rattle.records.specs.declared.fault.FileFault.{FileFault}
use Rattle.records.specs.Texts.{fault_text}
use Rattle.platefile.specs.Files.{Output, line_out, total_out, fault_out}

-- a line by its number, the text of its cost, its codes and its preview
abbrev pub line_bytes : ℕ → List ℕ → List ℕ → List ℕ → List ℕ
line_bytes number cost line preview =
    codes "line "
    ++ (decimal number ++ (codes " cost " ++ (cost ++ (codes " codes" ++ (codes_text line ++ (codes "\npreview" ++ (preview_text preview ++ codes "\n")))))))

-- how many lines, and the text of their total
abbrev pub total_bytes : ℕ → List ℕ → List ℕ
total_bytes lines total = codes "lines " ++ (decimal lines ++ (codes " total " ++ (total ++ codes "\n")))

-- the fault that ends a file
abbrev pub fault_bytes : FileFault → List ℕ
fault_bytes fault = fault_text fault ++ codes "\n"

-- the text of an output, where `words` is how a cost is written
abbrev pub output_bytes : {C : Type 0} → (C → List ℕ) → Output C → List ℕ
output_bytes words (line_out number line) = line_bytes number (words line.cost) line.codes line.preview
output_bytes words (total_out lines total) = total_bytes lines (words total)
output_bytes words (fault_out fault) = fault_bytes fault
