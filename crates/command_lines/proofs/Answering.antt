-- Answers that are handed on.
use Rattle.std.proofs.Common.{◌≡◌, Option, None, Err}
use Rattle.command_lines.specs.declared.fault.LineFault.{LineFault}
use Rattle.command_lines.specs.declared.fault.LineFault.TheVariants as line_fault
use Rattle.command_lines.specs.Fault.{Answers}

-- a fault of one value is one of another
pub handed_on : {A B : Type 0} {inner : Option A} {outer : Option B} {fault : LineFault} → (inner ≡ None → outer ≡ None)
    → Answers inner (Err fault) → Answers outer (Err fault)
handed_on {fault = line_fault.Bad} none is = record { is = none is.is }
handed_on {fault = line_fault.NoMemory} none is = record { is = tt }
