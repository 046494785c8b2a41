-- Every display of a file keeps a machine's laws.
use Rattle.std.proofs.Common.{rules}
use Rattle.display.specs.Machine.{Lawful}
use Rattle.records.specs.declared.display_kind.AnyDisplay.{AnyDisplay}
use Rattle.records.specs.declared.display_kind.AnyDisplay.TheVariants.{Ham, HalfBrite, Fill}
use Rattle.records.specs.Letters.{meaning_of}

pub sound : (display : AnyDisplay) → Lawful (meaning_of display)
sound (Ham ham) = search rules
sound (HalfBrite half_brite) = search rules
sound (Fill fill) = search rules
