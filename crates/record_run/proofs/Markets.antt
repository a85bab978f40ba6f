-- What is read of an input that a line divides: its session makes a market.
use Rattle.std.proofs.Common.{◌≡◌, ℕ, List, Option, Some, None, Result, Ok, Err, ap, refl}
use Rattle.zone_graph.specs.Grid.{JoinsZones}
use Rattle.zone_graph.specs.GridFault.{grid_fault}
use Rattle.market_model.specs.Grid.{graph_of}
use Rattle.market_text.specs.declared.session.Session.{Session}
use Rattle.market_text.specs.Text.{session_of_text}
use Rattle.laws_of_texts.proofs.Grids.{sessions-make-grids}
use Rattle.journal_audit.specs.Dividing.{Parts, division_of}
use Rattle.journal_audit.specs.Reading.{session_of_divided, session_of_parts, with_rest}

-- a session that stands before a rest was read
was-read : (rest behind : List ℕ) (read : Result Session ℕ) (session : Session) → with_rest rest read ≡ Ok (session, behind) → (read ≡ Ok session) × (rest ≡ behind)
was-read rest behind (Ok other) session is =
    let same = inside (other, rest) (session, behind) is in
    (ap Ok (ap (λ (p : Session × List ℕ). p.0) same), ap (λ (p : Session × List ℕ). p.1) same)
  where
    inside : (a b : Session × List ℕ) → let one : Result (Session × List ℕ) ℕ = Ok a in let two : Result (Session × List ℕ) ℕ = Ok b in one ≡ two → a ≡ b
    inside a b e = cc
was-read rest behind (Err line) session is = absurd (cc)

-- the parts of an input that was read: the text of its session, and the rest
pub record IsReadOf (word bytes rest : List ℕ) (session : Session) : Type 0 where
  pub parts : Parts
  pub divided : division_of word bytes ≡ Some parts
  pub text : session_of_text parts.text ≡ Ok session
  pub behind : parts.rest ≡ rest

pub read-parts : (word bytes rest : List ℕ) (session : Session) → session_of_divided word bytes ≡ Ok (session, rest) → IsReadOf word bytes rest session
unfolding session_of_divided
read-parts word bytes rest session is = by (division_of word bytes) refl is
  where
    by : (found : Option Parts) → division_of word bytes ≡ found → session_of_parts bytes found ≡ Ok (session, rest) → IsReadOf word bytes rest session
    by (Some parts) divided e =
        let read = was-read parts.rest rest (session_of_text parts.text) session e in
        record { parts = parts; divided = divided; text = read.0; behind = read.1 }
    by None divided e = absurd (cc)

-- so its session makes a grid
pub makes-grid : (word bytes rest : List ℕ) (session : Session) → session_of_divided word bytes ≡ Ok (session, rest)
    → JoinsZones (graph_of session.setup) × (grid_fault (graph_of session.setup) ≡ None)
makes-grid word bytes rest session is =
    let read = read-parts word bytes rest session is in
    sessions-make-grids read.parts.text session read.text
