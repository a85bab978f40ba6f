-- The lines of contents that keep the rules are read.
use Rattle.std.proofs.Common.{◌≡◌, ℕ, ◌+◌, ◌<◌, ◌≤◌, true, false, List, [], ◌∷◌, ◌++◌, length, take, map, get_or, refl, sym, ap, ◌∙◌, subst, arith, All, Option, Some, append_assoc, length-append}
use Rattle.std.specs.List.{AllPairs}
use Rattle.std.proofs.lemmas.List.{append-nil, map-append, get_or_append_left, get_or_at, take_at}
use Rattle.std.proofs.lemmas.List.Concat.{flat_map-append}
use Rattle.zone_graph.specs.Name.{IsName}
use Rattle.market_spelling.specs.Chain.{◌>>=◌}
use Rattle.market_text.specs.declared.reader.Reader.{Reader}
use Rattle.market_text.specs.Steps.{words_step, nothing_read}
use Rattle.laws_of_texts.specs.Contents.{CallerLine, CommandLine, Contents, IsAllowed, IsCommandLine, day_line, zone_line, border_line, caller_line, begin_line, command_line, caller_names, IsSamePair, all_commands, lines_of_contents}
use Rattle.laws_of_texts.proofs.CommandSteps.{command_taken}
use Rattle.laws_of_texts.proofs.Drafts.{Draft, reader_of, no_lines, nothing_is}
use Rattle.laws_of_texts.proofs.HeaderSteps.{day_taken, zone_taken, border_taken, caller_taken, begin_taken}
use Rattle.laws_of_texts.proofs.Places.{AreDeclared, no_place}
use Rattle.laws_of_texts.proofs.Runs.{after_rows, rows_after}

-- an item of a list in its place
abbrev pub IsAt : {X : Type 0} → List X → List X → X → List X → Type 0
IsAt all front item rest = all ≡ front ++ item ∷ rest

-- its place is within
within : {X : Type 0} (all front : List X) (item : X) (rest : List X) → IsAt all front item rest → length front < length all
within all front item rest is = omega (arith, ap length is, length-append front (item ∷ rest))

-- what holds of all holds of it
item_of_all : {X : Type 0} (P : X → Type 0) (all front : List X) (item : X) (rest : List X) → IsAt all front item rest → All P all → P item
item_of_all P all front item rest is holds =
    let at : get_or all (length front) item ≡ item = ap (λ (xs : List _). get_or xs (length front) item) is ∙ get_or_at front item rest item (length front) refl in
    subst P at (holds (length front) item (within all front item rest is))

-- what holds of all pairs holds of each earlier one and it
earlier : {X : Type 0} (R : X → X → Type 0) (all front : List X) (item : X) (rest : List X) → IsAt all front item rest → AllPairs R all
    → (k : ℕ) (d : X) → k < length front → R (get_or front k d) item
earlier {X} R all front item rest is pairs k d lt =
    let one : get_or all k d ≡ get_or front k d = ap (λ (xs : List X). get_or xs k d) is ∙ get_or_append_left front (item ∷ rest) d k lt in
    let other : get_or all (length front) d ≡ item = ap (λ (xs : List X). get_or xs (length front) d) is ∙ get_or_at front item rest d (length front) refl in
    subst (λ (x : X). R x item) one (subst (R (get_or all k d)) other (pairs k (length front) d lt (within all front item rest is)))

-- what holds of all holds of the front
front_of_all : {X : Type 0} (P : X → Type 0) (all front rest : List X) → all ≡ front ++ rest → All P all → All P front
front_of_all {X} P all front rest is holds k d lt =
    let one : get_or all k d ≡ get_or front k d = ap (λ (xs : List X). get_or xs k d) is ∙ get_or_append_left front rest d k lt in
    let longer : k < length all = omega (arith, ap length is, length-append front rest) in
    subst P one (holds k d longer)

-- the items after it
move_on : {X : Type 0} (all front : List X) (item : X) (rest : List X) → IsAt all front item rest → all ≡ (front ++ item ∷ []) ++ rest
move_on all front item rest is = is ∙ sym (append_assoc front (item ∷ []) rest)

-- one step and those after it
then_rows : (reader read : Reader) (row : List (List ℕ)) (rows : List (List (List ℕ))) (last : Option Reader) → words_step reader row ≡ Some read
    → after_rows read rows ≡ last → after_rows reader (row ∷ rows) ≡ last
then_rows reader read row rows last step rest = ap (λ (o : Option Reader). o >>= λ r. after_rows r rows) step ∙ rest

-- the draft of the first lines of contents
abbrev pub with_zones : Contents → List (List ℕ) → Draft
with_zones contents zones = record { start = Some (contents.date, contents.day); zones = zones; borders = []; callers = []; has_begun = false; commands = [] }

abbrev pub with_borders : Contents → List (List ℕ × List ℕ) → Draft
with_borders contents borders = record (with_zones contents contents.zones) { borders = borders }

abbrev pub with_callers : Contents → List CallerLine → Draft
with_callers contents callers = record (with_borders contents contents.borders) { callers = callers }

abbrev pub with_commands_of : Contents → List CommandLine → Draft
with_commands_of contents commands = record (with_callers contents contents.callers) { has_begun = true; commands = commands }

-- the zones are read
zones_read : (contents : Contents) → IsAllowed contents → (front rest : List (List ℕ)) → contents.zones ≡ front ++ rest
    → after_rows (reader_of (with_zones contents front)) (map zone_line rest) ≡ Some (reader_of (with_zones contents contents.zones))
zones_read contents is front [] all = ap (λ (zones : List (List ℕ)). Some (reader_of (with_zones contents zones))) (sym (append-nil front) ∙ sym all)
zones_read contents is front (name ∷ rest) all =
    let few : length front < 64 = let h = within contents.zones front name rest all in let most = is.few_zones in omega arith in
    let named = item_of_all IsName contents.zones front name rest all is.zone_names in
    let none = no_place front name (earlier (λ one other. ¬ (one ≡ other)) contents.zones front name rest all is.zones_differ) in
    then_rows (reader_of (with_zones contents front)) (reader_of (with_zones contents (front ++ name ∷ []))) (zone_line name) (map zone_line rest) _
    (zone_taken (with_zones contents front) name refl refl refl refl few named none)
    (zones_read contents is (front ++ name ∷ []) rest (move_on contents.zones front name rest all))

-- the borders are read
borders_read : (contents : Contents) → IsAllowed contents → (front rest : List (List ℕ × List ℕ)) → contents.borders ≡ front ++ rest
    → after_rows (reader_of (with_borders contents front)) (map border_line rest) ≡ Some (reader_of (with_borders contents contents.borders))
borders_read contents is front [] all = ap (λ (borders : List (List ℕ × List ℕ)). Some (reader_of (with_borders contents borders))) (sym (append-nil front) ∙ sym all)
borders_read contents is front (names ∷ rest) all =
    let few : length front < 128 = let h = within contents.borders front names rest all in let most = is.few_borders in omega arith in
    let declared = item_of_all (AreDeclared contents.zones) contents.borders front names rest all is.zones_joined in
    let before = front_of_all (AreDeclared contents.zones) contents.borders front (names ∷ rest) all is.zones_joined in
    let differ = earlier (λ one other. ¬ IsSamePair one other) contents.borders front names rest all is.borders_differ in
    then_rows (reader_of (with_borders contents front)) (reader_of (with_borders contents (front ++ names ∷ []))) (border_line names) (map border_line rest) _
    (border_taken (with_borders contents front) names refl refl few before declared differ)
    (borders_read contents is (front ++ names ∷ []) rest (move_on contents.borders front names rest all))

-- the callers are read
callers_read : (contents : Contents) → IsAllowed contents → (front rest : List CallerLine) → contents.callers ≡ front ++ rest
    → after_rows (reader_of (with_callers contents front)) (map caller_line rest) ≡ Some (reader_of (with_callers contents contents.callers))
callers_read contents is front [] all = ap (λ (callers : List CallerLine). Some (reader_of (with_callers contents callers))) (sym (append-nil front) ∙ sym all)
callers_read contents is front (caller ∷ rest) all =
    let few : length front < 64 = let h = within contents.callers front caller rest all in let most = is.few_callers in omega arith in
    let names : IsAt (caller_names contents.callers) (caller_names front) caller.name (caller_names rest) =
    ap caller_names all ∙ map-append (λ (c : CallerLine). c.name) front (caller ∷ rest) in
    let named = item_of_all IsName (caller_names contents.callers) (caller_names front) caller.name (caller_names rest) names is.names_of_callers in
    let none = no_place (caller_names front) caller.name
    (earlier (λ one other. ¬ (one ≡ other)) (caller_names contents.callers) (caller_names front) caller.name (caller_names rest) names is.callers_differ) in
    then_rows (reader_of (with_callers contents front)) (reader_of (with_callers contents (front ++ caller ∷ []))) (caller_line caller) (map caller_line rest) _
    (caller_taken (with_callers contents front) caller refl is.some_zone few refl named none)
    (callers_read contents is (front ++ caller ∷ []) rest (move_on contents.callers front caller rest all))

-- the commands of a front of the lines are no more than all
commands_of_front : (all front : List CommandLine) (line : CommandLine) (rest : List CommandLine) → IsAt all front line rest
    → length (all_commands all) ≤ 262144 → length (all_commands front) + length line.commands ≤ 262144
commands_of_front all front line rest is few =
    let whole : all_commands all ≡ all_commands front ++ (line.commands ++ all_commands rest) =
    ap all_commands is ∙ flat_map-append (λ (l : CommandLine). l.commands) front (line ∷ rest) in
    let count = ap length whole in
    let first = length-append (all_commands front) (line.commands ++ all_commands rest) in
    let second = length-append line.commands (all_commands rest) in
    omega (arith, count, first, second)

-- the commands are read
commands_read : (contents : Contents) → IsAllowed contents → (front rest : List CommandLine) → contents.commands ≡ front ++ rest
    → after_rows (reader_of (with_commands_of contents front)) (map command_line rest) ≡ Some (reader_of (with_commands_of contents contents.commands))
commands_read contents is front [] all = ap (λ (commands : List CommandLine). Some (reader_of (with_commands_of contents commands))) (sym (append-nil front) ∙ sym all)
commands_read contents is front (line ∷ rest) all =
    let few = commands_of_front contents.commands front line rest all is.few_commands in
    let there = within contents.commands front line rest all in
    let before : take (length front) contents.commands ≡ front = ap (take (length front)) all ∙ take_at front (line ∷ rest) (length front) refl in
    let at : get_or contents.commands (length front) line ≡ line = ap (λ (ls : List CommandLine). get_or ls (length front) line) all ∙ get_or_at front line rest line (length front) refl in
    let is_line : IsCommandLine contents.day contents.zones (caller_names contents.callers) front line =
    subst (λ (ls : List CommandLine). IsCommandLine contents.day contents.zones (caller_names contents.callers) ls line) before
    (subst (IsCommandLine contents.day contents.zones (caller_names contents.callers) (take (length front) contents.commands)) at
    (is.commands (length front) line there)) in
    then_rows (reader_of (with_commands_of contents front)) (reader_of (with_commands_of contents (front ++ line ∷ []))) (command_line line) (map command_line rest) _
    (command_taken (with_commands_of contents front) contents.day line refl refl is.callers_differ is_line few)
    (commands_read contents is (front ++ line ∷ []) rest (move_on contents.commands front line rest all))

-- the lines of contents are read
pub contents_read : (contents : Contents) → IsAllowed contents
    → after_rows nothing_read (lines_of_contents contents) ≡ Some (reader_of (with_commands_of contents contents.commands))
unfolding lines_of_contents
contents_read contents is =
    ap (λ (reader : Reader). after_rows reader (lines_of_contents contents)) (sym nothing_is)
    ∙ then_rows (reader_of no_lines) (reader_of (with_zones contents [])) (day_line contents.date) _ _ (day_taken no_lines contents.date contents.day refl refl is.day)
    (rows_after (map zone_line contents.zones) _ (reader_of (with_zones contents [])) (reader_of (with_zones contents contents.zones)) (zones_read contents is [] contents.zones refl)
    ∙ (rows_after (map border_line contents.borders) _ (reader_of (with_borders contents [])) (reader_of (with_borders contents contents.borders)) (borders_read contents is [] contents.borders refl)
    ∙ (rows_after (map caller_line contents.callers) _ (reader_of (with_callers contents [])) (reader_of (with_callers contents contents.callers)) (callers_read contents is [] contents.callers refl)
    ∙ then_rows (reader_of (with_callers contents contents.callers)) (reader_of (with_commands_of contents [])) begin_line (map command_line contents.commands) _
    (begin_taken (with_callers contents contents.callers) refl is.some_zone)
    (commands_read contents is [] contents.commands refl))))
