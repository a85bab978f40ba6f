-- What the lines up to some place say, and what the reader has read after them.
use Rattle.std.proofs.Common.{◌≡◌, ℕ, ℤ, ◌+◌, ◌<◌, ◌≤◌, Bool, true, false, cond, List, [], ◌∷◌, ◌++◌, length, take, map, get_or, replicate, refl, sym, ap, ◌∙◌, All, Option, Some, None, IfSome, IsSome, length-append}
use Rattle.std.specs.Prelude.{option_map}
use Rattle.std.specs.List.{AllPairs, filter, filter_map, flat_map, cons_option}
use Rattle.std.proofs.lemmas.List.{append-nil, flat_map_more, length-replicate}
use Rattle.std.proofs.lemmas.List.Elements.{filter-append, filter_map-append}
use Rattle.std.proofs.lemmas.List.Sums.{fold-append}
use Rattle.zone_graph.specs.Name.{IsName}
use Rattle.contract_calendar.specs.Day.{DeliveryDay}
use Rattle.market_text.specs.declared.reader.Reader.{Reader}
use Rattle.market_text.specs.Steps.{day_of_word, nothing_read}
use Rattle.laws_of_texts.specs.Contents.{CallerLine, CommandLine, IsCommandLine, day_line, zone_line, border_line, caller_line, begin_line, command_line, caller_names, IsSamePair, is_line_of, clock_of, last_of, last_clock_of, all_commands, given_by, caller_number, turns_of, numbers_of}
use Rattle.laws_of_texts.proofs.Places.{AreDeclared}

-- what the lines so far say
pub record Draft : Type 0 where
  pub start : Option (List ℕ × DeliveryDay)
  pub zones : List (List ℕ)
  pub borders : List (List ℕ × List ℕ)
  pub callers : List CallerLine
  pub has_begun : Bool
  pub commands : List CommandLine

-- the delivery day
abbrev pub day_of_draft : Draft → Option DeliveryDay
day_of_draft draft = option_map (λ (start : List ℕ × DeliveryDay). start.1) draft.start

-- what the reader has read after these lines
abbrev pub reader_of : Draft → Reader
reader_of draft = record {
  day = day_of_draft draft;
  zones = draft.zones;
  borders = map (numbers_of draft.zones) draft.borders;
  callers = caller_names draft.callers;
  roles = map (λ (caller : CallerLine). caller.role) draft.callers;
  has_begun = draft.has_begun;
  commands = map (given_by draft.commands) (caller_names draft.callers);
  clocks = map (λ name. last_clock_of name draft.commands) (caller_names draft.callers);
  turns = turns_of (caller_names draft.callers) draft.commands;
}

-- the words of the first lines
abbrev pub start_rows : Option (List ℕ × DeliveryDay) → List (List (List ℕ))
start_rows None = []
start_rows (Some start) = day_line start.0 ∷ []

abbrev pub begin_rows : Bool → List (List (List ℕ))
begin_rows true = begin_line ∷ []
begin_rows false = []

-- the words of these lines
abbrev pub rows_of : Draft → List (List (List ℕ))
rows_of draft =
    start_rows draft.start ++ (map zone_line draft.zones ++ (map border_line draft.borders ++ (map caller_line draft.callers
    ++ (begin_rows draft.has_begun ++ map command_line draft.commands))))

-- before the first line
abbrev pub no_lines : Draft
no_lines = record { start = None; zones = []; borders = []; callers = []; has_begun = false; commands = [] }

-- nothing is read before it
pub nothing_is : reader_of no_lines ≡ nothing_read
unfolding turns_of
nothing_is = refl

-- the lines so far keep the rules
pub record IsDraft (draft : Draft) : Type 0 where
  pub day : IfSome draft.start (λ start. day_of_word start.0 ≡ Some start.1)
  pub day_first : 1 ≤ length draft.zones → IsSome draft.start
  pub few_zones : length draft.zones ≤ 64
  pub zone_names : All IsName draft.zones
  pub zones_differ : AllPairs (λ one other. ¬ (one ≡ other)) draft.zones
  pub few_borders : length draft.borders ≤ 128
  pub zones_joined : All (AreDeclared draft.zones) draft.borders
  pub borders_differ : AllPairs (λ one other. ¬ IsSamePair one other) draft.borders
  pub zone_first : 1 ≤ length draft.callers → 1 ≤ length draft.zones
  pub few_callers : length draft.callers ≤ 64
  pub names_of_callers : All IsName (caller_names draft.callers)
  pub callers_differ : AllPairs (λ one other. ¬ (one ≡ other)) (caller_names draft.callers)
  pub begun : draft.has_begun ≡ true → 1 ≤ length draft.zones
  pub not_begun : draft.has_begun ≡ false → length draft.commands ≡ 0
  pub commands : (day : DeliveryDay) → day_of_draft draft ≡ Some day → (k : ℕ) (d : CommandLine) → k < length draft.commands
      → IsCommandLine day draft.zones (caller_names draft.callers) (take k draft.commands) (get_or draft.commands k d)
  pub few_commands : length (all_commands draft.commands) ≤ 262144

-- the commands of all lines with one line more
pub all_more : (lines : List CommandLine) (line : CommandLine) → all_commands (lines ++ line ∷ []) ≡ all_commands lines ++ line.commands
all_more lines line = sym (flat_map_more (λ (l : CommandLine). l.commands) [] lines line)

-- a caller's commands with one line more, of that caller
pub given_more : (lines : List CommandLine) (line : CommandLine) (name : List ℕ) → is_line_of name line ≡ true
    → given_by (lines ++ line ∷ []) name ≡ given_by lines name ++ line.commands
unfolding given_by
given_more lines line name is =
    let last : filter (is_line_of name) (line ∷ []) ≡ line ∷ [] = ap (λ b. cond b (line ∷ []) []) is in
    ap all_commands (filter-append (is_line_of name) lines (line ∷ []) ∙ ap (λ (ls : List CommandLine). filter (is_line_of name) lines ++ ls) last)
    ∙ all_more (filter (is_line_of name) lines) line

-- of another caller
pub given_same : (lines : List CommandLine) (line : CommandLine) (name : List ℕ) → is_line_of name line ≡ false
    → given_by (lines ++ line ∷ []) name ≡ given_by lines name
unfolding given_by
given_same lines line name is =
    let last : filter (is_line_of name) (line ∷ []) ≡ [] = ap (λ b. cond b (line ∷ []) []) is in
    ap all_commands (filter-append (is_line_of name) lines (line ∷ []) ∙ ap (λ (ls : List CommandLine). filter (is_line_of name) lines ++ ls) last
    ∙ append-nil (filter (is_line_of name) lines))

-- the last clock line with one line more, a clock line of that caller
pub last_more : (lines : List CommandLine) (line : CommandLine) (name : List ℕ) (instant : ℤ) → clock_of name line ≡ Some instant
    → last_clock_of name (lines ++ line ∷ []) ≡ Some instant
unfolding last_clock_of
last_more lines line name instant is =
    let one : filter_map (clock_of name) (line ∷ []) ≡ instant ∷ [] = ap (λ (o : Option ℤ). cons_option o []) is in
    ap last_of (filter_map-append (clock_of name) lines (line ∷ []) ∙ ap (λ (is : List ℤ). filter_map (clock_of name) lines ++ is) one)
    ∙ fold-append (λ _ item. Some item) None (filter_map (clock_of name) lines) (instant ∷ [])

-- another line
pub last_same : (lines : List CommandLine) (line : CommandLine) (name : List ℕ) → clock_of name line ≡ None
    → last_clock_of name (lines ++ line ∷ []) ≡ last_clock_of name lines
unfolding last_clock_of
last_same lines line name is =
    let one : filter_map (clock_of name) (line ∷ []) ≡ [] = ap (λ (o : Option ℤ). cons_option o []) is in
    ap last_of (filter_map-append (clock_of name) lines (line ∷ []) ∙ ap (λ (is : List ℤ). filter_map (clock_of name) lines ++ is) one
    ∙ append-nil (filter_map (clock_of name) lines))

-- the turns with one line more
pub turns_more : (names : List (List ℕ)) (lines : List CommandLine) (line : CommandLine)
    → turns_of names (lines ++ line ∷ []) ≡ turns_of names lines ++ replicate (length line.commands) (caller_number names line.caller)
unfolding turns_of
turns_more names lines line =
    sym (flat_map_more (λ (l : CommandLine). replicate (length l.commands) (caller_number names l.caller)) [] lines line)

-- as many turns as commands
pub count_turns : (names : List (List ℕ)) (lines : List CommandLine) → length (turns_of names lines) ≡ length (all_commands lines)
unfolding turns_of
count_turns names [] = refl
count_turns names (line ∷ lines) =
    let rest = count_turns names lines in
    let own : length (replicate (length line.commands) (caller_number names line.caller)) ≡ length line.commands = length-replicate (length line.commands) (caller_number names line.caller) in
    length-append (replicate (length line.commands) (caller_number names line.caller)) (flat_map (λ (l : CommandLine). replicate (length l.commands) (caller_number names l.caller)) lines)
    ∙ ap (λ n. n + length (flat_map (λ (l : CommandLine). replicate (length l.commands) (caller_number names l.caller)) lines)) own
    ∙ ap (λ n. length line.commands + n) rest
    ∙ sym (length-append line.commands (all_commands lines))
