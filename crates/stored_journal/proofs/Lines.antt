-- The stored lines of a journal that grows, and what they take on a disk.
use Rattle.std.proofs.Common.{◌≡◌, ◌∙◌, ℕ, ◌+◌, ◌-◌, ◌<◌, List, [], ◌∷◌, ◌++◌, codes, length, length-append, take, ap, arith}
use Rattle.std.proofs.lemmas.List.{take_at}
use Rattle.durable_journal.specs.Stored.{blocks, image_of}
use Rattle.durable_journal.specs.Appending.{size_behind}
use Rattle.durable_journal.proofs.Blocks.{length-blocks_more}
use Rattle.journal_print.specs.Json.{braces}
use Rattle.journal_print.specs.Line.{entry_line}
use Rattle.market_model.specs.declared.entry.Entry.{Entry}
use Rattle.market_model.specs.declared.setup.Setup.{Setup}
use Rattle.stored_journal.specs.Lines.{stored_from, stored_line, stored_lines}

-- the line of an entry but for its last byte, the line feed
pub without-feed : (line : List ℕ) → take (length (line ++ codes "\n") - 1) (line ++ codes "\n") ≡ line
without-feed line = take_at line (codes "\n") (length (line ++ codes "\n") - 1) (omega (arith, length-append line (codes "\n")))

-- a line has some bytes
pub some-line : (setup : Setup) (place : ℕ) (entry : Entry) → 0 < length (stored_line setup place entry)
unfolding braces
some-line setup place entry = omega arith

from-more : (setup : Setup) (place : ℕ) (entries : List Entry) (entry : Entry)
    → stored_from setup place (entries ++ entry ∷ []) ≡ stored_from setup place entries ++ stored_line setup (place + length entries) entry ∷ []
from-more setup place [] entry = ap (λ p. stored_line setup p entry ∷ []) (omega arith)
from-more setup place (first ∷ entries) entry =
    ap (λ lines. stored_line setup place first ∷ lines) (from-more setup (place + 1) entries entry)
    ∙ ap (λ p. stored_line setup place first ∷ (stored_from setup (place + 1) entries ++ stored_line setup p entry ∷ [])) (omega arith)

-- one more entry puts its line behind
pub lines-more : (setup : Setup) (entries : List Entry) (entry : Entry)
    → stored_lines setup (entries ++ entry ∷ []) ≡ stored_lines setup entries ++ stored_line setup (length entries + 1) entry ∷ []
lines-more setup entries entry =
    from-more setup 1 entries entry ∙ ap (λ p. stored_lines setup entries ++ stored_line setup p entry ∷ []) (omega arith)

-- how long an image is with one line more
pub image-more : (lines : List (List ℕ)) (line : List ℕ) (place : ℕ) → place ≡ length (blocks lines) → length (image_of (lines ++ line ∷ [])) ≡ size_behind place line
image-more lines line place end =
    omega (arith, end, length-append (blocks (lines ++ line ∷ [])) (0 ∷ []), length-blocks_more lines line)

-- so of a printed line
pub body-is : (line : List ℕ) (setup : Setup) (place : ℕ) (entry : Entry) → line ≡ entry_line setup place entry → take (length line - 1) line ≡ stored_line setup place entry
body-is line setup place entry is = ap (λ l. take (length l - 1) l) is ∙ without-feed (stored_line setup place entry)
