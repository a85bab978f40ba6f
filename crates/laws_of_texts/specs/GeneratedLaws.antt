-- Each generated text is a session of so many commands.
use Rattle.std.specs.Prelude.{◌≡◌, ℕ, ◌≤◌, List, length, Ok}
use Rattle.market_text.specs.declared.session.Session.{Session}
use Rattle.market_text.specs.Text.{session_of_text}
use Rattle.load_maker.specs.Session.{session_text}

-- of the text a session is read, and it has exactly n commands
abbrev pub IsSessionOf : (n : ℕ) → (bytes : List ℕ) → Type 0
IsSessionOf n bytes = (session : Session) × (session_of_text bytes ≡ Ok session) × (length session.turns ≡ n)

-- the text that is generated for n commands is a session of n commands, up to the 262144 that a
-- session may have
abbrev pub GeneratedTextsAreSessions : Type 0
GeneratedTextsAreSessions = (n : ℕ) → n ≤ 262144 → IsSessionOf n (session_text n)
