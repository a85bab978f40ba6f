-- The text of a generated session.
use Rattle.std.specs.Prelude.{ℕ, zero, suc, List, [], ◌∷◌, ◌++◌, map, codes}
use Rattle.std.specs.List.{range_with_len}
use Rattle.load_maker.specs.declared.drawn_lines.Given.{Given}
use Rattle.load_maker.specs.Commands.{borders, command_from, state_left}
use Rattle.load_maker.specs.Lines.{spaced, zone_name, trader_name, line_of, text_of}

-- the lines before the commands: the day, the zones, the borders, the callers
unfoldable pub header : List (List ℕ)
header =
    (codes "day 2025-06-17" ∷ [])
    ++ map (λ zone. spaced (codes "zone" ∷ zone_name zone ∷ [])) (range_with_len 0 12)
    ++ map (λ ends. spaced (codes "border" ∷ zone_name ends.0 ∷ zone_name ends.1 ∷ [])) borders
    ++ map (λ trader. spaced (codes "trader" ∷ trader_name trader ∷ [])) (range_with_len 1 6)
    ++ (codes "operator tso" ∷ codes "begin" ∷ [])

-- the state from which the command of this place, counted from 0, is drawn: 1 for the first command,
-- and for each other one the state that the command before it leaves
unfoldable pub state_before : (place : ℕ) → ℕ
state_before zero = 1
state_before (suc place) = state_left place (state_before place)

-- the command of this place
abbrev pub command_at : (place : ℕ) → Given
command_at place = command_from place (state_before place)

-- its line
unfoldable pub command_line : (place : ℕ) → List ℕ
command_line place = line_of (command_at place)

-- the text of the session of n commands
abbrev pub session_text : (n : ℕ) → List ℕ
session_text n = text_of (header ++ map command_line (range_with_len 0 n))
