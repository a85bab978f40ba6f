-- The fault of a text, by that of its first line that is not taken.
use Rattle.std.specs.Prelude.{ℕ, ◌++◌, List, codes, decimal}
use Rattle.command_lines.specs.declared.fault.LineFault.{LineFault}
use Rattle.command_lines.specs.declared.fault.LineFault.TheVariants as line_fault
use Rattle.market_text.specs.declared.fault.TextFault.{TextFault}
use Rattle.market_text.specs.declared.fault.TextFault.TheVariants as text_fault

-- a bad line is reported by its number, want of memory without one
abbrev pub fault_at : LineFault → ℕ → TextFault
fault_at line_fault.Bad line = text_fault.BadSession line
fault_at line_fault.NoMemory line = text_fault.NoMemory

-- the words of a fault, with the number of the first bad line
abbrev pub fault_text : TextFault → List ℕ
fault_text (text_fault.BadSession line) = codes "bad session, line " ++ decimal line
fault_text text_fault.NoMemory = codes "no memory"
