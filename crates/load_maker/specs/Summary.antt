-- The summary of a journal.
use Rattle.std.specs.Prelude.{ℕ, ◌-◌, ◌^◌, Bool, true, false, List, [], ◌∷◌, length, min, count_by, decimal, codes}
use Rattle.std.specs.List.{sum_by}
use Rattle.market_model.specs.declared.entry.Entry.{Entry}
use Rattle.market_model.specs.declared.event.Event.{Event}
use Rattle.market_model.specs.declared.event.Event.TheVariants as event
use Rattle.market_model.specs.declared.reply.Reply.{Reply}
use Rattle.market_model.specs.declared.reply.Reply.TheVariants as reply
use Rattle.market_model.specs.History.{events_of}
use Rattle.load_maker.specs.Lines.{spaced, text_of}

-- the reply is a refusal
abbrev pub refuses : Reply → Bool
refuses (reply.Refused refusal) = true
refuses _ = false

-- the command of an entry was refused
abbrev pub is_refused : Entry → Bool
is_refused entry = refuses entry.reply

-- two orders traded
abbrev pub is_leg : Event → Bool
is_leg (event.Leg contract leg) = true
is_leg _ = false

-- two blocks traded
abbrev pub is_block_leg : Event → Bool
is_block_leg (event.BlockLeg first last leg) = true
is_block_leg _ = false

-- the lots that an event trades: those of a leg of either kind, none of any other event
abbrev pub lots_of : Event → ℕ
lots_of (event.Leg contract leg) = leg.lots
lots_of (event.BlockLeg first last leg) = leg.lots
lots_of _ = 0

-- how many entries of a journal were refused
abbrev pub refused : List Entry → ℕ
refused entries = count_by is_refused entries

-- how many legs of orders the commands of a journal brought about
abbrev pub legs : List Entry → ℕ
legs entries = sum_by (λ entry. count_by is_leg (events_of entry.reply)) entries

-- how many legs of blocks they brought about
abbrev pub block_legs : List Entry → ℕ
block_legs entries = sum_by (λ entry. count_by is_block_leg (events_of entry.reply)) entries

-- how many lots the legs of both kinds traded
abbrev pub lots : List Entry → ℕ
lots entries = sum_by (λ entry. sum_by lots_of (events_of entry.reply)) entries

-- a number as far as it is written: at most 2^64 - 1
abbrev pub capped : ℕ → ℕ
capped number = min number (2 ^ 64 - 1)

-- a word and a number
abbrev pub count_line : (word : List ℕ) (number : ℕ) → List ℕ
count_line word number = spaced (word ∷ decimal (capped number) ∷ [])

-- the five lines of the summary
abbrev pub summary_text : List Entry → List ℕ
summary_text entries =
    text_of (count_line (codes "entries") (length entries)
    ∷ count_line (codes "refused") (refused entries)
    ∷ count_line (codes "legs") (legs entries)
    ∷ count_line (codes "blocklegs") (block_legs entries)
    ∷ count_line (codes "lots") (lots entries) ∷ [])
