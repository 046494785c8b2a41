-- The pixels of a line, by its targets and its pins.
use Rattle.std.specs.Prelude.{ℕ, ◌+◌, List, [], ◌∷◌}
use Rattle.display.specs.declared.colour.Target.{Target}
use Rattle.lines.specs.Lines.{targets_of}
use Rattle.records.specs.Records.{PinAt, pins_of, pin_at}
use Rattle.run.specs.Account.{Wanted}

-- the pixels of a line from place i on, by its targets and pins
abbrev pub pixels_from : ℕ → List PinAt → List Target → List Wanted
pixels_from i ps [] = []
pixels_from i ps (target ∷ targets) = record { target = target; pin = pin_at i ps } ∷ pixels_from (i + 1) ps targets

-- the pixels of an LN body under a PN body; without a PN that is empty
abbrev pub pixels_of_line : List ℕ → List ℕ → List Wanted
pixels_of_line pin_bytes target_bytes = pixels_from 0 (pins_of pin_bytes) (targets_of target_bytes)
