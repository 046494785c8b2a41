-- Records: a mark of two bytes, the body's length in two bytes, the low byte first, and the body.
use Rattle.std.specs.Prelude.{◌≡◌, ℕ, ◌+◌, ◌*◌, ◌%◌, Bool, true, cond, ◌&&◌, List, [], ◌∷◌, length, take, drop, is_some, Some, None, Option, ◌==◌, nat_le, nat_lt, slice_index}
use Rattle.trellis.specs.Calls.{widest}
use Rattle.records.specs.declared.fault.FileFault.{FileFault}
use Rattle.records.specs.declared.fault.FileFault.TheVariants.{NoRecord, UnknownMark, BadLength, PastEnd, Plate}
use Rattle.records.specs.declared.fault.PlateFault.TheVariants.{Misplaced}
use Rattle.records.specs.declared.record.Mark.{Mark}
use Rattle.records.specs.declared.record.Mark.TheVariants.{Header, Palette, Pins, Line, End}
use Rattle.records.specs.declared.record.Record.{Record}
use Rattle.records.specs.declared.record.Record.TheVariants.{Header as header, Palette as palette, Pins as pins, Line as line, End as end}
use Rattle.records.specs.declared.record.Stage.{Stage}
use Rattle.records.specs.declared.record.Stage.TheVariants.{Header as at_header, Palette as at_palette, Lines as at_lines, Pinned as at_pinned, Over as at_end}
use Rattle.records.specs.Letters.{machine_of, cost_of_letter, number_of_bytes, words}

-- HD, PL, PN, LN, EN
abbrev pub mark_of : ℕ → ℕ → Option Mark
mark_of a b =
    cond (a == 72 && b == 68) (Some Header)
    (cond (a == 80 && b == 76) (Some Palette)
    (cond (a == 80 && b == 78) (Some Pins)
    (cond (a == 76 && b == 78) (Some Line)
    (cond (a == 69 && b == 78) (Some End) None))))

-- the order of records: which may stand at each stage, and the stage that it leads to
abbrev pub next_stage : Stage → Mark → Option Stage
next_stage at_header Header = Some at_palette
next_stage at_header Palette = None
next_stage at_header Pins = None
next_stage at_header Line = None
next_stage at_header End = None
next_stage at_palette Header = None
next_stage at_palette Palette = Some at_lines
next_stage at_palette Pins = None
next_stage at_palette Line = None
next_stage at_palette End = None
next_stage at_lines Header = None
next_stage at_lines Palette = None
next_stage at_lines Pins = Some at_pinned
next_stage at_lines Line = Some at_lines
next_stage at_lines End = Some at_end
next_stage at_pinned Header = None
next_stage at_pinned Palette = None
next_stage at_pinned Pins = None
next_stage at_pinned Line = Some at_lines
next_stage at_pinned End = None
next_stage at_end mark = None

-- the body length that a mark asks, by the number of the palette's colours and the width
abbrev pub asks : ℕ → ℕ → Mark → ℕ → Bool
asks colours width Header n = n == 4
asks colours width Palette n = n == 2 * colours
asks colours width Pins n = n % 3 == 0 && nat_le 3 n
asks colours width Line n = n == 3 * width
asks colours width End n = n == 0

-- the mark, the length and the body of the record at the front of the input
abbrev pub mark_at : List ℕ → Option Mark
mark_at rest = mark_of (slice_index rest 0) (slice_index rest 1)

abbrev pub length_at : List ℕ → ℕ
length_at rest = number_of_bytes (slice_index rest 2) (slice_index rest 3)

abbrev pub body_at : List ℕ → List ℕ
body_at rest = take (length_at rest) (drop 4 rest)

-- what follows it
abbrev pub after_record : List ℕ → List ℕ
after_record rest = drop (4 + length_at rest) rest

module _ (colours width : ℕ) (stage : Stage) (at : ℕ) (rest : List ℕ) where
  -- 16, 17: the length is not the one asked, or the body runs past the input
  abbrev pub length_check : Mark → Option FileFault
  length_check mark =
      cond (asks colours width mark (length_at rest)) (cond (nat_lt (length rest) (4 + length_at rest)) (Some (PastEnd at)) None) (Some (BadLength at))

  -- 15: the record may not stand there
  abbrev pub stage_check : Mark → Option FileFault
  stage_check mark = cond (is_some (next_stage stage mark)) (length_check mark) (Some (Plate (Misplaced at)))

  -- 14: the mark is unknown
  abbrev pub mark_check : Option Mark → Option FileFault
  mark_check None = Some (UnknownMark at)
  mark_check (Some mark) = stage_check mark

  -- 13: fewer than four bytes remain; then 14 to 17
  abbrev pub record_check : Option FileFault
  record_check = cond (nat_lt (length rest) 4) (Some (NoRecord at)) (mark_check (mark_at rest))

-- a record is the one of this mark and body
abbrev pub RecordIs : Mark → List ℕ → Record → Type 0
RecordIs Header body (header machine cost width) =
    (machine ≡ slice_index body 0) × (cost ≡ slice_index body 1) × (width ≡ number_of_bytes (slice_index body 2) (slice_index body 3))
RecordIs Header body (palette colours) = ⊥
RecordIs Header body (pins bytes) = ⊥
RecordIs Header body (line targets) = ⊥
RecordIs Header body end = ⊥
RecordIs Palette body (header machine cost width) = ⊥
RecordIs Palette body (palette colours) = colours.now ≡ body
RecordIs Palette body (pins bytes) = ⊥
RecordIs Palette body (line targets) = ⊥
RecordIs Palette body end = ⊥
RecordIs Pins body (header machine cost width) = ⊥
RecordIs Pins body (palette colours) = ⊥
RecordIs Pins body (pins bytes) = bytes.now ≡ body
RecordIs Pins body (line targets) = ⊥
RecordIs Pins body end = ⊥
RecordIs Line body (header machine cost width) = ⊥
RecordIs Line body (palette colours) = ⊥
RecordIs Line body (pins bytes) = ⊥
RecordIs Line body (line targets) = targets.now ≡ body
RecordIs Line body end = ⊥
RecordIs End body (header machine cost width) = ⊥
RecordIs End body (palette colours) = ⊥
RecordIs End body (pins bytes) = ⊥
RecordIs End body (line targets) = ⊥
RecordIs End body end = Unit {0}

-- 18 for a header: a letter or the width is out of range
abbrev pub header_right : ℕ → ℕ → ℕ → Bool
header_right machine cost width = (is_some (machine_of machine) && is_some (cost_of_letter cost)) && (nat_le 1 width && nat_le width widest)

-- 18 for a palette: a colour is above 4,095
abbrev pub all_colours : List ℕ → Bool
all_colours [] = true
all_colours (colour ∷ colours) = nat_le colour 4095 && all_colours colours

abbrev pub palette_right : List ℕ → Bool
palette_right body = all_colours (words body)

-- the pins of a PN body: the place in two bytes, and the code
pub record PinAt : Type 0 where
  pub place : ℕ
  pub code : ℕ

abbrev pub pins_of : List ℕ → List PinAt
pins_of [] = []
pins_of (low ∷ []) = []
pins_of (low ∷ high ∷ []) = []
pins_of (low ∷ high ∷ code ∷ bytes) = record { place = number_of_bytes low high; code = code } ∷ pins_of bytes

-- 18 for pins: a place is not below the width, or not above the place before it
abbrev pub rising_from : ℕ → ℕ → List PinAt → Bool
rising_from width least [] = true
rising_from width least (p ∷ ps) = (nat_le least p.place && nat_lt p.place width) && rising_from width (p.place + 1) ps

abbrev pub pins_right : ℕ → List ℕ → Bool
pins_right width body = rising_from width 0 (pins_of body)

-- the code that a place is pinned to, if it is
abbrev pub pin_at : ℕ → List PinAt → Option ℕ
pin_at place [] = None
pin_at place (p ∷ ps) = cond (p.place == place) (Some p.code) (pin_at place ps)
