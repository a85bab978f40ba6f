-- What is read is what the lines so far say.
use Rattle.std.proofs.Common.{◌≡◌, ℕ, ◌+◌, ◌<◌, ◌≤◌, nat_lt, Bool, true, false, List, [], ◌∷◌, ◌++◌, length, map, refl, sym, ap, ◌∙◌, subst, arith, All, Option, Some, None, IsSome, is_none, is_some, append_assoc}
use Rattle.std.specs.Prelude.{option_map}
use Rattle.std.specs.List.{AllPairs}
use Rattle.std.proofs.lemmas.Bool.Decides.{nat_tests}
use Rattle.std.proofs.lemmas.List.{append-nil, length-map, length_push, map_push, nil_from_length}
use Rattle.std.proofs.lemmas.List.Elements.{All-push}
use Rattle.std.proofs.lemmas.List.Quantifiers.{all_pairs_push}
use Rattle.zone_graph.specs.Name.{IsName}
use Rattle.contract_calendar.specs.Day.{DeliveryDay}
use Rattle.market_model.specs.declared.setup.Role.{Role}
use Rattle.market_model.specs.declared.setup.Role.TheVariants as role
use Rattle.market_spelling.specs.declared.words.Heading.{Heading}
use Rattle.market_spelling.specs.declared.words.Heading.TheVariants as heading
use Rattle.market_text.specs.declared.reader.Reader.{Reader}
use Rattle.command_lines.specs.Names.{place_of}
use Rattle.market_text.specs.Steps.{words_step, heading_step, day_of_word}
use Rattle.market_text.proofs.ReadingLemmas.{allowed_zone, allowed_caller}
use Rattle.market_text.proofs.StepLemmas.{header_is}
use Rattle.laws_of_texts.specs.Contents.{CallerLine, day_line, zone_line, border_line, caller_line, begin_line, command_line, caller_names, IsSamePair, numbers_of}
use Rattle.laws_of_texts.proofs.Drafts.{Draft, IsDraft, reader_of, rows_of, start_rows, begin_rows}
use Rattle.laws_of_texts.proofs.HeaderSteps.{before_begin, day_taken, zone_taken, border_taken, caller_taken, begin_taken}
use Rattle.laws_of_texts.proofs.LinesRead.{heading_read, day_read, zone_read, zone_facts, border_read, join_facts, caller_read, caller_facts, begin_read}
use Rattle.laws_of_texts.proofs.Places.{AreDeclared, declared_at_place, none_equals, others_joined}
use Rattle.laws_of_texts.proofs.Spelled.{heading_word, heading_spelled, heading_of_role, role_spelled, first_is, only_is}

-- one line more, which keeps the rules
pub record Next (draft : Draft) (row : List (List ℕ)) (read : Reader) : Type 0 where
  pub next : Draft
  pub is_draft : IsDraft next
  pub rows : rows_of next ≡ rows_of draft ++ row ∷ []
  pub is_read : Some read ≡ Some (reader_of next)

-- no rows of no items
no_rows : {A : Type 0} (f : A → List (List ℕ)) (items : List A) → length items ≡ 0 → map f items ≡ []
no_rows f items none = ap (map f) (nil_from_length items none)

-- no lines after the callers
nothing_after_callers : (draft : Draft) → draft.has_begun ≡ false → length draft.commands ≡ 0
    → begin_rows draft.has_begun ++ map command_line draft.commands ≡ []
nothing_after_callers draft begun none = λ i. begin_rows (begun i) ++ no_rows command_line draft.commands none i

-- no lines after the borders
nothing_after_borders : (draft : Draft) → draft.has_begun ≡ false → length draft.commands ≡ 0 → length draft.callers ≡ 0
    → map caller_line draft.callers ++ (begin_rows draft.has_begun ++ map command_line draft.commands) ≡ []
nothing_after_borders draft begun none callers = λ i. no_rows caller_line draft.callers callers i ++ nothing_after_callers draft begun none i

-- no lines after the zones
nothing_after_zones : (draft : Draft) → draft.has_begun ≡ false → length draft.commands ≡ 0 → length draft.callers ≡ 0 → length draft.borders ≡ 0
    → map border_line draft.borders ++ (map caller_line draft.callers ++ (begin_rows draft.has_begun ++ map command_line draft.commands)) ≡ []
nothing_after_zones draft begun none callers borders = λ i. no_rows border_line draft.borders borders i ++ nothing_after_borders draft begun none callers i

-- one row more in a part after which nothing comes
one_more : {A : Type 0} (f : A → List (List ℕ)) (items : List A) (item : A) (tail : List (List (List ℕ))) → tail ≡ []
    → map f (items ++ item ∷ []) ++ tail ≡ (map f items ++ tail) ++ f item ∷ []
one_more f items item tail none =
    ap (λ (t : List (List (List ℕ))). map f (items ++ item ∷ []) ++ t) none
    ∙ append-nil (map f (items ++ item ∷ []))
    ∙ map_push f items item
    ∙ ap (λ (rows : List (List (List ℕ))). rows ++ f item ∷ []) (sym (append-nil (map f items)) ∙ ap (λ (t : List (List (List ℕ))). map f items ++ t) (sym none))

-- the same behind other rows
pub behind : (front rows more : List (List (List ℕ))) (row : List (List ℕ)) → more ≡ rows ++ row ∷ [] → front ++ more ≡ (front ++ rows) ++ row ∷ []
behind front rows more row is = ap (λ (r : List (List (List ℕ))). front ++ r) is ∙ sym (append_assoc front rows (row ∷ []))

-- no commands before `begin`
no_commands : (draft : Draft) → IsDraft draft → draft.has_begun ≡ false → length draft.commands ≡ 0
no_commands draft is begun = is.not_begun begun

-- nothing comes before the day
pub no_zones : (draft : Draft) → IsDraft draft → draft.start ≡ None → length draft.zones ≡ 0
no_zones draft is none = by (nat_lt 0 (length draft.zones)) refl
  where
    there : (start : Option (List ℕ × DeliveryDay)) → start ≡ None → IsSome start → ⊥
    there None e some = cc
    there (Some start) e some = cc

    by : (b : Bool) → nat_lt 0 (length draft.zones) ≡ b → length draft.zones ≡ 0
    by true e = let some : 1 ≤ length draft.zones = grind (arith, nat_tests) in absurd (there draft.start none (is.day_first some))
    by false e = grind (arith, nat_tests)

-- no border without zones
pub no_borders : (zones : List (List ℕ)) (borders : List (List ℕ × List ℕ)) → All (AreDeclared zones) borders → length zones ≡ 0 → length borders ≡ 0
no_borders zones [] declared none = refl
no_borders zones (border ∷ more) declared none =
    let first = declared 0 border (omega arith) in
    let within = first.0.1 in
    absurd (omega arith)

-- no caller without zones
pub no_callers : (draft : Draft) → IsDraft draft → length draft.zones ≡ 0 → length draft.callers ≡ 0
no_callers draft is none = by (nat_lt 0 (length draft.callers)) refl
  where
    by : (b : Bool) → nat_lt 0 (length draft.callers) ≡ b → length draft.callers ≡ 0
    by true e =
        let some : 1 ≤ length draft.callers = grind (arith, nat_tests) in
        let zone = is.zone_first some in absurd (omega arith)
    by false e = grind (arith, nat_tests)

-- the day comes next
next_day : (draft : Draft) (date : List ℕ) (day : DeliveryDay) (read : Reader) → IsDraft draft → draft.has_begun ≡ false → draft.start ≡ None
    → day_of_word date ≡ Some day → words_step (reader_of draft) (day_line date) ≡ Some read → Next draft (day_line date) read
next_day draft date day read is begun none is_day step =
    let zones = no_zones draft is none in
    let borders = no_borders draft.zones draft.borders is.zones_joined zones in
    let callers = no_callers draft is zones in
    let commands = no_commands draft is begun in
    let nothing : map zone_line draft.zones ++ (map border_line draft.borders ++ (map caller_line draft.callers ++ (begin_rows draft.has_begun ++ map command_line draft.commands))) ≡ [] =
    λ i. no_rows zone_line draft.zones zones i ++ nothing_after_zones draft begun commands callers borders i in
    record {
      next = record draft { start = Some (date, day) };
      is_draft = record {
        day = is_day;
        day_first = λ _. refl;
        few_zones = is.few_zones;
        zone_names = is.zone_names;
        zones_differ = is.zones_differ;
        few_borders = is.few_borders;
        zones_joined = is.zones_joined;
        borders_differ = is.borders_differ;
        zone_first = is.zone_first;
        few_callers = is.few_callers;
        names_of_callers = is.names_of_callers;
        callers_differ = is.callers_differ;
        begun = is.begun;
        not_begun = is.not_begun;
        commands = λ other same k d lt. absurd (omega arith);
        few_commands = is.few_commands;
      };
      rows = (λ i. day_line date ∷ nothing i) ∙ sym (λ i. (start_rows (none i) ++ nothing i) ++ day_line date ∷ []);
      is_read = sym step ∙ day_taken draft date day begun none is_day;
    }

-- a zone comes next
next_zone : (draft : Draft) (name : List ℕ) (read : Reader) → IsDraft draft → draft.has_begun ≡ false → IsSome draft.start
    → length draft.borders ≡ 0 → length draft.callers ≡ 0 → length draft.zones < 64 → IsName name → place_of draft.zones name ≡ None
    → words_step (reader_of draft) (zone_line name) ≡ Some read → Next draft (zone_line name) read
next_zone draft name read is begun start borders callers few named none step =
    let commands = no_commands draft is begun in
    let longer : length (draft.zones ++ name ∷ []) ≡ length draft.zones + 1 = length_push draft.zones name in
    record {
      next = record draft { zones = draft.zones ++ name ∷ [] };
      is_draft = record {
        day = is.day;
        day_first = λ _. start;
        few_zones = omega arith;
        zone_names = All-push IsName draft.zones name is.zone_names named;
        zones_differ = all_pairs_push (λ one other. ¬ (one ≡ other)) draft.zones name is.zones_differ (none_equals draft.zones name none);
        few_borders = is.few_borders;
        zones_joined = λ k d lt. absurd (omega arith);
        borders_differ = is.borders_differ;
        zone_first = λ _. omega arith;
        few_callers = is.few_callers;
        names_of_callers = is.names_of_callers;
        callers_differ = is.callers_differ;
        begun = λ _. omega arith;
        not_begun = is.not_begun;
        commands = λ other same k d lt. absurd (omega arith);
        few_commands = is.few_commands;
      };
      rows = behind (start_rows draft.start) _ _ (zone_line name)
          (one_more zone_line draft.zones name _ (nothing_after_zones draft begun commands callers borders));
      is_read = sym step ∙ zone_taken draft name begun start borders callers few named none;
    }

-- a border comes next
next_border : (draft : Draft) (names : List ℕ × List ℕ) (read : Reader) → IsDraft draft → draft.has_begun ≡ false → length draft.callers ≡ 0
    → length draft.borders < 128 → AreDeclared draft.zones names → All (λ earlier. ¬ IsSamePair earlier names) draft.borders
    → words_step (reader_of draft) (border_line names) ≡ Some read → Next draft (border_line names) read
next_border draft names read is begun callers few declared differ step =
    let commands = no_commands draft is begun in
    let longer : length (draft.borders ++ names ∷ []) ≡ length draft.borders + 1 = length_push draft.borders names in
    record {
      next = record draft { borders = draft.borders ++ names ∷ [] };
      is_draft = record {
        day = is.day;
        day_first = is.day_first;
        few_zones = is.few_zones;
        zone_names = is.zone_names;
        zones_differ = is.zones_differ;
        few_borders = omega arith;
        zones_joined = All-push (AreDeclared draft.zones) draft.borders names is.zones_joined declared;
        borders_differ = all_pairs_push (λ one other. ¬ IsSamePair one other) draft.borders names is.borders_differ differ;
        zone_first = is.zone_first;
        few_callers = is.few_callers;
        names_of_callers = is.names_of_callers;
        callers_differ = is.callers_differ;
        begun = is.begun;
        not_begun = is.not_begun;
        commands = λ other same k d lt. absurd (omega arith);
        few_commands = is.few_commands;
      };
      rows = behind (start_rows draft.start) _ _ (border_line names) (behind (map zone_line draft.zones) _ _ (border_line names)
          (one_more border_line draft.borders names _ (nothing_after_borders draft begun commands callers)));
      is_read = sym step ∙ border_taken draft names begun callers few is.zones_joined declared differ;
    }

-- a caller comes next
next_caller : (draft : Draft) (caller : CallerLine) (read : Reader) → IsDraft draft → draft.has_begun ≡ false → 1 ≤ length draft.zones
    → length draft.callers < 64 → IsName caller.name → place_of (caller_names draft.callers) caller.name ≡ None
    → words_step (reader_of draft) (caller_line caller) ≡ Some read → Next draft (caller_line caller) read
next_caller draft caller read is begun some few named none step =
    let commands = no_commands draft is begun in
    let longer : length (draft.callers ++ caller ∷ []) ≡ length draft.callers + 1 = length_push draft.callers caller in
    let names : caller_names draft.callers ++ caller.name ∷ [] ≡ caller_names (draft.callers ++ caller ∷ []) = sym (map_push (λ (c : CallerLine). c.name) draft.callers caller) in
    record {
      next = record draft { callers = draft.callers ++ caller ∷ [] };
      is_draft = record {
        day = is.day;
        day_first = is.day_first;
        few_zones = is.few_zones;
        zone_names = is.zone_names;
        zones_differ = is.zones_differ;
        few_borders = is.few_borders;
        zones_joined = is.zones_joined;
        borders_differ = is.borders_differ;
        zone_first = λ _. some;
        few_callers = omega arith;
        names_of_callers = subst (All IsName) names (All-push IsName (caller_names draft.callers) caller.name is.names_of_callers named);
        callers_differ = subst (AllPairs (λ one other. ¬ (one ≡ other))) names
            (all_pairs_push (λ one other. ¬ (one ≡ other)) (caller_names draft.callers) caller.name is.callers_differ (none_equals (caller_names draft.callers) caller.name none));
        begun = is.begun;
        not_begun = is.not_begun;
        commands = λ other same k d lt. absurd (omega arith);
        few_commands = is.few_commands;
      };
      rows = behind (start_rows draft.start) _ _ (caller_line caller) (behind (map zone_line draft.zones) _ _ (caller_line caller) (behind (map border_line draft.borders) _ _ (caller_line caller)
          (one_more caller_line draft.callers caller _ (nothing_after_callers draft begun commands))));
      is_read = sym step ∙ caller_taken draft caller begun some few commands named none;
    }

-- `begin` comes next
next_begin : (draft : Draft) (read : Reader) → IsDraft draft → draft.has_begun ≡ false → 1 ≤ length draft.zones
    → words_step (reader_of draft) begin_line ≡ Some read → Next draft begin_line read
next_begin draft read is begun some step =
    let commands = no_commands draft is begun in
    record {
      next = record draft { has_begun = true };
      is_draft = record {
        day = is.day;
        day_first = is.day_first;
        few_zones = is.few_zones;
        zone_names = is.zone_names;
        zones_differ = is.zones_differ;
        few_borders = is.few_borders;
        zones_joined = is.zones_joined;
        borders_differ = is.borders_differ;
        zone_first = is.zone_first;
        few_callers = is.few_callers;
        names_of_callers = is.names_of_callers;
        callers_differ = is.callers_differ;
        begun = λ _. some;
        not_begun = λ never. commands;
        commands = is.commands;
        few_commands = is.few_commands;
      };
      rows = behind (start_rows draft.start) _ _ begin_line (behind (map zone_line draft.zones) _ _ begin_line (behind (map border_line draft.borders) _ _ begin_line
          (behind (map caller_line draft.callers) (begin_rows draft.has_begun ++ map command_line draft.commands) (begin_line ∷ map command_line draft.commands) begin_line
          ((λ i. begin_line ∷ no_rows command_line draft.commands commands i) ∙ sym (λ i. nothing_after_callers draft begun commands i ++ begin_line ∷ [])))));
      is_read = sym step ∙ begin_taken draft begun some;
    }

-- the day that there is
day_is_there : (start : Option (List ℕ × DeliveryDay)) → is_some (option_map (λ (s : List ℕ × DeliveryDay). s.1) start) ≡ true → IsSome start
day_is_there None is = is
day_is_there (Some start) is = refl

-- no day yet
day_is_none : (start : Option (List ℕ × DeliveryDay)) → is_none (option_map (λ (s : List ℕ × DeliveryDay). s.1) start) ≡ true → start ≡ None
day_is_none None is = refl
day_is_none (Some start) is = absurd cc

-- the line after which a step goes on
pub moved : (draft : Draft) (row other : List (List ℕ)) (read : Reader) → row ≡ other → Next draft other read → Next draft row read
moved draft row other read same n = record {
  next = n.next;
  is_draft = n.is_draft;
  rows = n.rows ∙ ap (λ (r : List (List ℕ)). rows_of draft ++ r ∷ []) (sym same);
  is_read = n.is_read;
}

-- a line of a caller
caller_next : (draft : Draft) (given : Role) (words : List (List ℕ)) (read : Reader) → IsDraft draft → draft.has_begun ≡ false
    → words_step (reader_of draft) (heading_word (heading_of_role given) ∷ words) ≡ Some read
    → heading_step (heading_of_role given) (reader_of draft) words ≡ Some read
    → Next draft (heading_word (heading_of_role given) ∷ words) read
caller_next draft given words read is begun whole step = by given whole step
  where
    go : (given : Role) → words_step (reader_of draft) (heading_word (heading_of_role given) ∷ words) ≡ Some read
        → (c : (name : List ℕ) × (words ≡ name ∷ []) × (1 ≤ length draft.zones) × (length (caller_names draft.callers) < 64) × IsName name × (place_of (caller_names draft.callers) name ≡ None))
        → Next draft (heading_word (heading_of_role given) ∷ words) read
    go given whole c =
        let count : length (caller_names draft.callers) ≡ length draft.callers = length-map draft.callers (λ (c : CallerLine). c.name) in
        let row : heading_word (heading_of_role given) ∷ words ≡ caller_line (record { role = given; name = c.0 }) = λ i. sym (role_spelled given) i ∷ c.1 i in
        let few : length draft.callers < 64 = let h = c.3 in omega arith in
        moved draft _ _ read row
        (next_caller draft (record { role = given; name = c.0 }) read is begun c.2 few c.4 c.5 (ap (words_step (reader_of draft)) (sym row) ∙ whole))

    by : (given : Role) → words_step (reader_of draft) (heading_word (heading_of_role given) ∷ words) ≡ Some read
        → heading_step (heading_of_role given) (reader_of draft) words ≡ Some read → Next draft (heading_word (heading_of_role given) ∷ words) read
    by role.Trader whole step =
        let c = caller_read role.Trader (reader_of draft) words read step in
        let a = allowed_caller (reader_of draft) c.name c.may in
        go role.Trader whole (c.name, only_is words c.name c.only, caller_facts (reader_of draft) c.name c.may, a.0, a.1, a.2)
    by role.Operator whole step =
        let c = caller_read role.Operator (reader_of draft) words read step in
        let a = allowed_caller (reader_of draft) c.name c.may in
        go role.Operator whole (c.name, only_is words c.name c.only, caller_facts (reader_of draft) c.name c.may, a.0, a.1, a.2)

-- a line of a border
border_next : (draft : Draft) (words : List (List ℕ)) (read : Reader) → IsDraft draft → draft.has_begun ≡ false
    → words_step (reader_of draft) (heading_word heading.Border ∷ words) ≡ Some read
    → heading_step heading.Border (reader_of draft) words ≡ Some read
    → Next draft (heading_word heading.Border ∷ words) read
border_next draft words read is begun whole step =
    let b = border_read (reader_of draft) words read step in
    let f = join_facts (reader_of draft) b.one b.other b.may in
    let names : List ℕ × List ℕ = (b.parts.0, b.last) in
    let count : length (map (numbers_of draft.zones) draft.borders) ≡ length draft.borders = length-map draft.borders (numbers_of draft.zones) in
    let callers : length (caller_names draft.callers) ≡ length draft.callers = length-map draft.callers (λ (c : CallerLine). c.name) in
    let few : length draft.borders < 128 = let h = f.1 in omega arith in
    let none : length draft.callers ≡ 0 = let h = f.0 in omega arith in
    let row : heading_word heading.Border ∷ words ≡ border_line names =
    ap (λ (ws : List (List ℕ)). heading_word heading.Border ∷ ws) (first_is words b.parts.0 b.parts.1 b.first ∙ ap (λ (ws : List (List ℕ)). b.parts.0 ∷ ws) (only_is b.parts.1 b.last b.only)) in
    let apart : ¬ (b.parts.0 ≡ b.last) = λ same. f.2 (one_place b.one b.other (sym b.is_one ∙ ap (place_of draft.zones) same ∙ b.is_other)) in
    let declared : AreDeclared draft.zones names = (declared_at_place draft.zones b.parts.0 b.one b.is_one, declared_at_place draft.zones b.last b.other b.is_other, apart) in
    moved draft _ _ read row
    (next_border draft names read is begun none few declared
    (others_joined draft.zones b.parts.0 b.last b.one b.other draft.borders b.is_one b.is_other f.3)
    (ap (words_step (reader_of draft)) (sym row) ∙ whole))
  where
    one_place : (one other : ℕ) → Some one ≡ Some other → one ≡ other
    one_place one other same = cc

-- a line before the commands
pub header_next : (draft : Draft) (row : List (List ℕ)) (read : Reader) → IsDraft draft → draft.has_begun ≡ false
    → words_step (reader_of draft) row ≡ Some read → Next draft row read
header_next draft row read is begun whole =
    let step = sym (before_begin (reader_of draft) row begun) ∙ whole in
    let h = heading_read (reader_of draft) row read step in
    let word = heading_spelled h.parts.0 h.heading h.is in
    let same : row ≡ heading_word h.heading ∷ h.parts.1 = first_is row h.parts.0 h.parts.1 h.first ∙ ap (λ (w : List ℕ). w ∷ h.parts.1) word in
    moved draft row _ read same
    (by h.heading h.parts.1 (ap (words_step (reader_of draft)) (sym same) ∙ whole)
    (sym (header_is (reader_of draft) row h.parts.0 h.parts.1 h.heading h.first h.is) ∙ step))
  where
    by : (found : Heading) (words : List (List ℕ)) → words_step (reader_of draft) (heading_word found ∷ words) ≡ Some read
        → heading_step found (reader_of draft) words ≡ Some read → Next draft (heading_word found ∷ words) read
    by heading.Day words whole step =
        let d = day_read (reader_of draft) words read step in
        let row : heading_word heading.Day ∷ words ≡ day_line d.date = ap (λ (ws : List (List ℕ)). heading_word heading.Day ∷ ws) (only_is words d.date d.only) in
        moved draft _ _ read row
        (next_day draft d.date d.day read is begun (day_is_none draft.start d.no_day) d.is (ap (words_step (reader_of draft)) (sym row) ∙ whole))
    by heading.Zone words whole step =
        let z = zone_read (reader_of draft) words read step in
        let f = zone_facts (reader_of draft) z.name z.may in
        let a = allowed_zone (reader_of draft) z.name z.may in
        let row : heading_word heading.Zone ∷ words ≡ zone_line z.name = ap (λ (ws : List (List ℕ)). heading_word heading.Zone ∷ ws) (only_is words z.name z.only) in
        let borders : length draft.borders ≡ 0 = sym (length-map draft.borders (numbers_of draft.zones)) ∙ f.1 in
        let callers : length draft.callers ≡ 0 = sym (length-map draft.callers (λ (c : CallerLine). c.name)) ∙ f.2 in
        moved draft _ _ read row
        (next_zone draft z.name read is begun (day_is_there draft.start f.0) borders callers a.0 a.1 a.2 (ap (words_step (reader_of draft)) (sym row) ∙ whole))
    by heading.Border words whole step = border_next draft words read is begun whole step
    by heading.Trader words whole step = caller_next draft role.Trader words read is begun whole step
    by heading.Operator words whole step = caller_next draft role.Operator words read is begun whole step
    by heading.Begin words whole step =
        let b = begin_read (reader_of draft) words read step in
        let row : heading_word heading.Begin ∷ words ≡ begin_line = ap (λ (ws : List (List ℕ)). heading_word heading.Begin ∷ ws) (nil_from_length words b.0) in
        moved draft _ _ read row
        (next_begin draft read is begun b.1 (ap (words_step (reader_of draft)) (sym row) ∙ whole))
