-- Refusals: the number, the layer and the place of each.
use Rattle.std.specs.Prelude.{ℕ}
use Rattle.lines.specs.declared.fault.Fault.{Fault}
use Rattle.lines.specs.declared.fault.Fault.TheVariants.{PlateFull, BadWidth, TooFewCells, LineFull, LineEmpty, TargetBytes, UnknownCode, NoWay, ShortBuffer, NoStep, BrokenCells}
use Rattle.lines.specs.declared.fault.Layer.{Layer}
use Rattle.lines.specs.declared.fault.Layer.TheVariants.{Trellis}

abbrev pub number_of : Fault → ℕ
number_of PlateFull = 1
number_of BadWidth = 2
number_of (TooFewCells pixel) = 3
number_of (LineFull pixel) = 4
number_of LineEmpty = 5
number_of (TargetBytes pixel) = 6
number_of (UnknownCode pixel) = 7
number_of (NoWay pixel) = 8
number_of (ShortBuffer pixel) = 9
number_of (NoStep pixel) = 10
number_of (BrokenCells pixel) = 11

abbrev pub layer_of : Fault → Layer
layer_of fault = Trellis

-- the pixel, counted from 0; at no single pixel, how many pixels the line has
abbrev pub place_of : Fault → ℕ
place_of PlateFull = 0
place_of BadWidth = 0
place_of (TooFewCells pixel) = pixel
place_of (LineFull pixel) = pixel
place_of LineEmpty = 0
place_of (TargetBytes pixel) = pixel
place_of (UnknownCode pixel) = pixel
place_of (NoWay pixel) = pixel
place_of (ShortBuffer pixel) = pixel
place_of (NoStep pixel) = pixel
place_of (BrokenCells pixel) = pixel
