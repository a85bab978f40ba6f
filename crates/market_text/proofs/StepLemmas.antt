-- The steps of lines, by what their words are.
use Rattle.std.proofs.Common.{◌≡◌, ◌∙◌, ℕ, List, [], ◌∷◌, refl, true, false, Option, Some, Result, Ok, Err}
use Rattle.market_model.specs.declared.command.Command.{Command}
use Rattle.market_spelling.specs.Words.{heading_of, verb_of}
use Rattle.market_spelling.specs.declared.words.Heading.{Heading}
use Rattle.market_spelling.specs.declared.words.Verb.{Verb}
use Rattle.command_lines.specs.declared.fault.LineFault.{LineFault}
use Rattle.command_lines.specs.declared.fault.LineFault.TheVariants as line_fault
use Rattle.market_text.specs.declared.reader.Reader.{Reader}
use Rattle.command_lines.specs.CommandLines.{first_word, command_of}
use Rattle.command_lines.specs.Names.{place_of}
use Rattle.market_text.specs.Steps.{Takes, header_step, heading_step, command_step, verb_step, clock_step, entry_step, is_clock, take_commands}

-- a line with this heading
pub header_is : (reader : Reader) (all : List (List ℕ)) (word : List ℕ) (words : List (List ℕ)) (heading : Heading)
    → first_word all ≡ Some (word, words) → heading_of word ≡ Some heading
    → header_step reader all ≡ heading_step heading reader words
unfolding header_step
header_is reader all word words heading parts is = rw (parts, is) refl

-- a line of this caller and verb
pub command_is : (reader : Reader) (all : List (List ℕ)) (name : List ℕ) (rest : List (List ℕ)) (word : List ℕ) (words : List (List ℕ))
    (caller : ℕ) (verb : Verb) → first_word all ≡ Some (name, rest) → first_word rest ≡ Some (word, words)
    → place_of reader.callers name ≡ Some caller → verb_of word ≡ Some verb
    → command_step reader all ≡ verb_step verb caller reader words
unfolding command_step
command_is reader all name rest word words caller verb parts others place is = rw (parts, others, place, is) refl

-- the verb of a clock line
pub clock_is : (reader : Reader) (words : List (List ℕ)) (caller : ℕ) (verb : Verb) → is_clock verb ≡ true
    → verb_step verb caller reader words ≡ clock_step caller reader words
clock_is reader words caller verb is = rw is refl

-- another verb
pub entry_is : (reader : Reader) (words : List (List ℕ)) (caller : ℕ) (verb : Verb) → is_clock verb ≡ false
    → verb_step verb caller reader words ≡ entry_step verb caller reader words
entry_is reader words caller verb is = rw is refl

-- the one command of a line
pub entry_taken : (verb : Verb) (caller : ℕ) (reader : Reader) (words : List (List ℕ)) (command : Command) (commands : List Command)
    → command_of verb reader.zones words ≡ Some command → commands ≡ command ∷ []
    → entry_step verb caller reader words ≡ take_commands reader caller commands
unfolding entry_step
entry_taken verb caller reader words command commands is one = rw (is, one) refl

-- a line is taken as the same step says
pub taken : {a b : Option Reader} {read : Reader} {result : Result (Unit {0}) LineFault} → a ≡ b → Takes b read result → Takes a read result
taken {result = Ok _} same is = record { is = same ∙ is.is }
taken {result = Err line_fault.Bad} same is = record { is = same ∙ is.is }
taken {result = Err line_fault.NoMemory} same is = record { is = tt }
