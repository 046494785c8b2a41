-- What is printed of a file, piece by piece: each piece is the text of one output.
use Rattle.std.specs.Prelude.{◌≡◌, ℕ, ◌<◌, List, [], ◌∷◌, Some, None, IfSome, string_bytes, Option}
use Rattle.cost.specs.Kind.{Kind}
use Rattle.platefile.specs.declared.reader.Lines.{Lines}
use Rattle.platefile.specs.declared.pieces.Piece.{Piece}
use Rattle.platefile.specs.Files.{Output}
use Rattle.platefile.specs.Reading.{left_outputs, bytes_left}
use Rattle.platefile.specs.Texts.{output_bytes}

module _ {C : Type 0} (k : Kind C) (words : C → List ℕ) where
  -- the text is that of the first of these outputs, and the rest is still to come
  pub record Prints (outs : List (Output C)) (text : List ℕ) (rest : List (Output C)) : Type 0 where
    pub out : Output C
    pub first : outs ≡ out ∷ rest
    pub says : text ≡ output_bytes words out

  -- what is still to come out after a piece; after the last nothing comes
  abbrev pub outputs_after : Option (Lines C) → List (Output C)
  outputs_after (Some after) = left_outputs k after
  outputs_after None = []

  -- a line, and what is left after it; or the last text, after which nothing comes
  abbrev pub PieceRight : Lines C → Piece C → Type 0
  PieceRight before piece = Prints (left_outputs k before) (string_bytes piece.text) (outputs_after piece.left)

-- a piece that is not the last leaves fewer bytes to read
abbrev pub PieceShortens : {C : Type 0} → Lines C → Piece C → Type 0
PieceShortens before piece = IfSome piece.left (λ after. bytes_left after < bytes_left before)
