-- A code line and a preview as text: a word, and then each code or colour after a space.
use Rattle.std.specs.Prelude.{ℕ, List, ◌++◌, codes}
use Rattle.lines.specs.Texts.{codes_text, preview_text}

abbrev pub codes_line : List ℕ → List ℕ
codes_line line = codes "codes" ++ codes_text line

abbrev pub preview_line : List ℕ → List ℕ
preview_line colours = codes "preview" ++ preview_text colours
