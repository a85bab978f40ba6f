-- What is answered to a line.
use Rattle.std.specs.Prelude.{◌≡◌, ℕ, List, codes, Option, Some, None, Result, Ok, Err}
use Rattle.command_lines.specs.declared.fault.LineFault.{LineFault}
use Rattle.command_lines.specs.declared.fault.LineFault.TheVariants as line_fault

-- the value that there is, or `Bad` where there is none; want of memory says nothing
abbrev pub IsAnswerOf : {A : Type 0} → Option A → Result A LineFault → Type 0
IsAnswerOf value (Ok answer) = value ≡ Some answer
IsAnswerOf value (Err line_fault.Bad) = value ≡ None
IsAnswerOf value (Err line_fault.NoMemory) = Unit {0}

-- a line is answered with the value that there is, or as a bad line where there is none
pub record Answers {A : Type 0} (value : Option A) (result : Result A LineFault) : Type 0 where
  pub is : IsAnswerOf value result

-- what a fault says of a line
abbrev pub fault_text : LineFault → List ℕ
fault_text line_fault.Bad = codes "the line is not of a form that may stand at its place, or breaks a rule of its form"
fault_text line_fault.NoMemory = codes "no memory"
