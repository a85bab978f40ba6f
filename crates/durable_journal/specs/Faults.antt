-- What is said of a fault.
use Rattle.std.specs.Prelude.{ℕ, List, codes}
use Rattle.durable_journal.specs.declared.faults.AppendFault.{AppendFault}
use Rattle.durable_journal.specs.declared.faults.AppendFault.TheVariants as append
use Rattle.durable_journal.specs.declared.faults.ImageFault.{ImageFault}
use Rattle.durable_journal.specs.declared.faults.ImageFault.TheVariants as image

-- why an image was not opened, in words
abbrev pub image_text : ImageFault → List ℕ
image_text image.DiskFault = codes "a call of the disk failed"
image_text (image.BadImage place) = codes "the image is damaged"
image_text image.NoMemory = codes "no memory"

-- why a line was not appended, in words
abbrev pub append_text : AppendFault → List ℕ
append_text append.DiskFault = codes "a call of the disk failed"
append_text (append.TooLarge at size) = codes "the stored lines would be too large"
append_text (append.NoMemory at) = codes "no memory"
