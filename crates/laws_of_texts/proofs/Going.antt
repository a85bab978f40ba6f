-- Lines that keep the rules so far can go on to the text of a session.
use Rattle.std.proofs.Common.{◌≡◌, ℕ, ◌+◌, ◌≤◌, ◌==◌, not, nat_lt, Bool, true, false, List, [], ◌∷◌, ◌++◌, length, refl, ap, ◌∙◌, arith, codes, All, Option, Some, None, IsSome, is_some}
use Rattle.std.specs.List.{list_all}
use Rattle.std.proofs.lemmas.Bool.Decides.{nat_tests}
use Rattle.std.proofs.lemmas.List.{length_push}
use Rattle.std.proofs.lemmas.List.Elements.{All-cons, All-nil, All-weaker}
use Rattle.std.proofs.lemmas.List.Sums.{AllPass-from_list_all}
use Rattle.zone_graph.specs.Name.{IsName}
use Rattle.contract_calendar.specs.Day.{DeliveryDay}
use Rattle.market_spelling.proofs.NameLemmas.{name_from_test}
use Rattle.market_spelling.specs.Chain.{◌>>=◌}
use Rattle.market_spelling.specs.Dates.{date_of, parts_of_date, date_of_parts}
use Rattle.market_spelling.specs.Numbers.{number_of, digits_value}
use Rattle.market_spelling.specs.Words.{is_name}
use Rattle.market_text.specs.declared.reader.Reader.{Reader}
use Rattle.market_text.specs.declared.session.Session.{Session}
use Rattle.command_lines.specs.Names.{place_of}
use Rattle.market_text.specs.Steps.{words_step, session_of, day_of_word}
use Rattle.laws_of_texts.specs.Contents.{day_line, zone_line, begin_line, session_of_contents}
use Rattle.laws_of_texts.specs.Lines.{IsLine, counting_lines}
use Rattle.laws_of_texts.proofs.Drafts.{Draft, IsDraft, reader_of}
use Rattle.laws_of_texts.proofs.HeaderSteps.{day_taken, zone_taken, begin_taken}
use Rattle.laws_of_texts.proofs.Places.{no_place}
use Rattle.laws_of_texts.proofs.Runs.{after_rows}
use Rattle.laws_of_texts.proofs.Sound.{no_zones, no_borders, no_callers}
use Rattle.laws_of_texts.proofs.SoundRows.{session_at_end, contents_of}

-- lines with which a text ends well
pub record Ending (draft : Draft) : Type 0 where
  pub lines : List (List ℕ)
  pub are_lines : All IsLine lines
  pub read : Reader
  pub reached : after_rows (reader_of draft) (counting_lines lines) ≡ Some read
  pub session : Session
  pub is_session : session_of read ≡ Some session

-- bytes that pass the test are a line
line_from_test : (bytes : List ℕ) → list_all (λ byte. not (byte == 10)) bytes ≡ true → IsLine bytes
line_from_test bytes test = All-weaker (λ byte. not (byte == 10) ≡ true) (λ byte. ¬ (byte ≡ 10)) each bytes (AllPass-from_list_all (λ byte. not (byte == 10)) bytes test)
  where
    each : (byte : ℕ) → not (byte == 10) ≡ true → ¬ (byte ≡ 10)
    each byte other = λ same. grind (arith, nat_tests)

-- a line in front of an ending
led_by : (draft next : Draft) (line : List ℕ) (row : List (List ℕ)) → list_all (λ byte. not (byte == 10)) line ≡ true
    → ((lines : List (List ℕ)) → counting_lines (line ∷ lines) ≡ row ∷ counting_lines lines)
    → words_step (reader_of draft) row ≡ Some (reader_of next) → Ending next → Ending draft
led_by draft next line row test counts step e = record {
  lines = line ∷ e.lines;
  are_lines = All-cons IsLine line e.lines (line_from_test line test) e.are_lines;
  read = e.read;
  reached = ap (after_rows (reader_of draft)) (counts e.lines) ∙ ap (λ (o : Option Reader). o >>= λ r. after_rows r (counting_lines e.lines)) step ∙ e.reached;
  session = e.session;
  is_session = e.is_session;
}

-- nothing is missing after `begin`
ends_begun : (draft : Draft) (start : List ℕ × DeliveryDay) → draft.start ≡ Some start → draft.has_begun ≡ true → Ending draft
ends_begun draft start is_start begun = record {
  lines = [];
  are_lines = All-nil IsLine;
  read = reader_of draft;
  reached = refl;
  session = session_of_contents (contents_of draft start);
  is_session = session_at_end draft start is_start begun;
}

-- `begin` is missing after the zones
ends_zones : (draft : Draft) (start : List ℕ × DeliveryDay) → draft.start ≡ Some start → draft.has_begun ≡ false → 1 ≤ length draft.zones → Ending draft
ends_zones draft start is_start begun some =
    led_by draft (record draft { has_begun = true }) (codes "begin") begin_line refl (λ lines. refl) (begin_taken draft begun some)
    (ends_begun (record draft { has_begun = true }) start is_start refl)

-- a name
short_name : is_name (codes "A") ≡ true
unfolding is_name
short_name = refl

-- a zone is missing after the day
ends_day : (draft : Draft) (start : List ℕ × DeliveryDay) → draft.start ≡ Some start → draft.has_begun ≡ false → length draft.zones ≡ 0
    → length draft.borders ≡ 0 → length draft.callers ≡ 0 → Ending draft
ends_day draft start is_start begun none borders callers =
    let next : Draft = record draft { zones = draft.zones ++ codes "A" ∷ [] } in
    let longer : length (draft.zones ++ codes "A" ∷ []) ≡ length draft.zones + 1 = length_push draft.zones (codes "A") in
    led_by draft next (codes "zone A") (zone_line (codes "A")) refl (λ lines. refl)
    (zone_taken draft (codes "A") begun (ap (λ (o : Option (List ℕ × DeliveryDay)). is_some o) is_start) borders callers (omega arith) name absent)
    (ends_zones next start is_start begun (omega arith))
  where
    name : IsName (codes "A")
    name = name_from_test (codes "A") short_name

    absent : place_of draft.zones (codes "A") ≡ None
    absent = no_place draft.zones (codes "A") (λ k d lt. absurd (omega arith))

-- a date that there is
date_there : is_some (day_of_word (codes "2000-01-01")) ≡ true
unfolding day_of_word date_of parts_of_date date_of_parts number_of digits_value
date_there = refl

-- its day
first_day : (day : DeliveryDay) × (day_of_word (codes "2000-01-01") ≡ Some day)
first_day = by (day_of_word (codes "2000-01-01")) refl date_there
  where
    by : (o : Option DeliveryDay) → day_of_word (codes "2000-01-01") ≡ o → is_some o ≡ true → (day : DeliveryDay) × (day_of_word (codes "2000-01-01") ≡ Some day)
    by None e never = absurd (clash never)
      where
        clash : ◌≡◌ {A = Bool} false true → ⊥
        clash never = cc
    by (Some day) e some = (day, e)

-- everything is missing
ends_nothing : (draft : Draft) → draft.start ≡ None → draft.has_begun ≡ false → length draft.zones ≡ 0 → length draft.borders ≡ 0 → length draft.callers ≡ 0
    → Ending draft
ends_nothing draft none begun zones borders callers =
    let next : Draft = record draft { start = Some (codes "2000-01-01", first_day.0) } in
    led_by draft next (codes "day 2000-01-01") (day_line (codes "2000-01-01")) refl (λ lines. refl)
    (day_taken draft (codes "2000-01-01") first_day.0 begun none first_day.1)
    (ends_day next (codes "2000-01-01", first_day.0) refl begun zones borders callers)

-- any lines that keep the rules
pub can_end : (draft : Draft) → IsDraft draft → Ending draft
can_end draft is = by draft.has_begun draft.start refl refl
  where
    clash : {A : Type 0} → ◌≡◌ {A = Bool} false true → A
    clash never = cc

    some_start : (start : Option (List ℕ × DeliveryDay)) → IsSome start → draft.start ≡ start → (s : List ℕ × DeliveryDay) × (draft.start ≡ Some s)
    some_start None some e = clash some
    some_start (Some start) some e = (start, e)

    by_zones : (b : Bool) → nat_lt 0 (length draft.zones) ≡ b → draft.has_begun ≡ false → (start : List ℕ × DeliveryDay) → draft.start ≡ Some start → Ending draft
    by_zones true zones begun start is_start = let some : 1 ≤ length draft.zones = grind (arith, nat_tests) in ends_zones draft start is_start begun some
    by_zones false zones begun start is_start =
        let none : length draft.zones ≡ 0 = grind (arith, nat_tests) in
        ends_day draft start is_start begun none (no_borders draft.zones draft.borders is.zones_joined none) (no_callers draft is none)

    by : (b : Bool) (start : Option (List ℕ × DeliveryDay)) → draft.has_begun ≡ b → draft.start ≡ start → Ending draft
    by true start begun e = let s = some_start draft.start (is.day_first (is.begun begun)) refl in ends_begun draft s.0 s.1 begun
    by false None begun e =
        let none = no_zones draft is e in
        ends_nothing draft e begun none (no_borders draft.zones draft.borders is.zones_joined none) (no_callers draft is none)
    by false (Some start) begun e = by_zones (nat_lt 0 (length draft.zones)) refl begun start e
