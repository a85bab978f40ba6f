-- The generated texts are sessions of so many commands.
use Rattle.std.proofs.Common.{◌≡◌, ℕ, ◌+◌, ◌≤◌, List, [], ◌++◌, length, map, refl, ap, ◌∙◌, Option, Some, Ok}
use Rattle.std.specs.List.{range_with_len}
use Rattle.market_text.specs.declared.reader.Reader.{Reader}
use Rattle.market_text.specs.declared.session.Session.{Session}
use Rattle.market_text.specs.Steps.{nothing_read, callers_of, session_of}
use Rattle.market_text.specs.Text.{text_from, or_line, session_of_text}
use Rattle.market_text.proofs.ReadingLemmas.{finished}
use Rattle.laws_of_texts.proofs.Runs.{after_lines, lines_after, ended}
use Rattle.laws_of_texts.proofs.TextLines.{whole_parts}
use Rattle.load_maker.specs.Session.{header, command_line, session_text}
use Rattle.laws_of_texts.specs.GeneratedLaws.{IsSessionOf}
use Rattle.laws_of_texts.proofs.Commands.{value_of}
use Rattle.laws_of_texts.proofs.Read.{after_header, header_read, commands_read, are_lines}

-- the lines of the text for n commands
abbrev text_lines : ℕ → List (List ℕ)
text_lines n = header ++ map command_line (range_with_len 0 n)

-- the session at the end of the text
pub generated_texts : (n : ℕ) → n ≤ 262144 → IsSessionOf n (session_text n)
unfolding session_of_text
generated_texts n few =
    let commands = commands_read n few in
    let read : Reader = commands.read in
    let day = value_of read.day commands.after.day in
    let session : Session = record {
      setup = record { hours = day.0.hours; zones = read.zones; borders = read.borders; callers = callers_of read };
      commands = read.commands;
      turns = read.turns;
    } in
    let reached : after_lines nothing_read (text_lines n) ≡ Some read =
    lines_after header (map command_line (range_with_len 0 n)) nothing_read after_header header_read.reached ∙ commands.reached in
    let is : session_of read ≡ Some session =
    finished read day.0 day.0.hours read.zones (callers_of read) read.commands day.1 commands.after.begun refl refl refl refl in
    let answer : session_of_text (session_text n) ≡ Ok session =
    ap (text_from nothing_read 1) (whole_parts (text_lines n) (are_lines n))
    ∙ ended (text_lines n) [] nothing_read read 1 reached
    ∙ ap (λ (o : Option Session). or_line o (1 + length (text_lines n))) is in
    (session, answer, commands.after.turns)
