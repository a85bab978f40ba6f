-- Stored lines that are played, and what is recovered behind them.
use Rattle.std.proofs.Common.{◌≡◌, ◌∙◌, inl, inr, ℕ, ◌+◌, ◌<◌, ◌≤◌, true, false, true≢false, nat_lt, List, [], ◌∷◌, ◌++◌, codes, drop, get_or, length, length-append, length-drop, take, None, Option, Some, Result, Ok, Err, IfOk, OnOk, sym, ap, subst, arith}
use Rattle.std.specs.Str.{bytes_eq}
use Rattle.std.proofs.lemmas.Bool.{lt-ltb}
use Rattle.std.proofs.lemmas.List.{append_cancel_right, drop_all, drop_more, get_or-map, length-map, take_all, take_more}
use Rattle.std.proofs.lemmas.Slice.Eq.{bytes_eq-Decides}
use Rattle.disk_model.specs.Contents.{Contents}
use Rattle.durable_journal.specs.Appending.{most_stored}
use Rattle.durable_journal.specs.Resting.{HoldsLines}
use Rattle.durable_journal.specs.Stored.{Stores, blocks, image_of}
use Rattle.market_model.specs.declared.entry.Entry.{Entry}
use Rattle.market_text.specs.Commands.{commands_of}
use Rattle.market_text.specs.declared.session.Session.{Session}
use Rattle.trade_journal.specs.Journals.{made_by, room_of_caller}
use Rattle.journal_audit.specs.Audit.{IsFirstWrongAmong}
use Rattle.journal_audit.specs.Course.{IsNextLine, callers_of, entries_of, next_entry}
use Rattle.journal_audit.specs.Lines.{caller_named, ended_lines}
use Rattle.journal_audit.proofs.Audits.{AreAudited, IsJournal, callers-named, more-audited, nothing-audited, right-throughout, wrong-audited}
use Rattle.journal_audit.proofs.LineTexts.{named-ended}
use Rattle.journal_audit.proofs.NextEntries.{next-from, within}
use Rattle.stored_journal.specs.Lines.{stored_line, stored_lines}
use Rattle.stored_journal.proofs.Lines.{lines-more}
use Rattle.session_storing.specs.Playing.{IsPlayedOn, IsPlaying, PlayState, journal_in_order, lines_in_order, lines_played}
use Rattle.session_storing.specs.Recovering.{ArePlayed, IsPlayedLine, IsRecovered, IsTooLargeBehind, StoresRightLines, order_behind, turns_left}
use Rattle.session_storing.proofs.Appends.{played-lines}
use Rattle.session_storing.proofs.Plays.{room-is}

-- ---- one stored line

module _ (session : Session) (old : PlayState) (is : IsPlaying session old) (line : List ℕ) where
  abbrev ended : List ℕ
  ended = line ++ codes "\n"

  -- a line that names nobody is not the next one
  pub nobody-named : caller_named old.setup line ≡ None → (entry : Entry) → ¬ IsNextLine session old.entries ended entry
  nobody-named none entry next =
      let some : caller_named old.setup line ≡ Some entry.caller =
      ap (λ s. caller_named s line) is.setup ∙ sym (named-ended session.setup line) ∙ next.named in
      cc (none, some)

  module _ (caller : ℕ) (named : caller_named old.setup line ≡ Some caller) where
    -- the caller of the next one is the one that is named
    whose : (entry : Entry) → IsNextLine session old.entries ended entry → entry.caller ≡ caller
    whose entry next =
        let some : caller_named old.setup line ≡ Some entry.caller =
        ap (λ s. caller_named s line) is.setup ∙ sym (named-ended session.setup line) ∙ next.named in
        cc (named, some)

    -- where it has no command left there is none
    pub nothing-left : nat_lt (made_by old.entries caller) (room_of_caller old.setup caller) ≡ false → (entry : Entry) → ¬ IsNextLine session old.entries ended entry
    nothing-left none entry next =
        let same = whose entry next in
        let from = next-from session old.entries caller entry (subst (λ c. next_entry session old.entries c ≡ Some entry) same next.next) in
        let left = within (commands_of session.commands caller) (entries_of old.entries caller) from.command from.given in
        let room : room_of_caller old.setup caller ≡ length (commands_of session.commands caller) =
        ap (λ s. room_of_caller s caller) is.setup ∙ room-is session is.is_session caller in
        let less : made_by old.entries caller < room_of_caller old.setup caller = omega (arith, left, room) in
        true≢false (sym (lt-ltb (made_by old.entries caller) (room_of_caller old.setup caller) less) ∙ none)

    -- and where it has one, its command is played
    module _ (new : PlayState) (on : IsPlayedOn session old caller new) (last : Entry) (last_is : last ≡ on.entry) where
      abbrev printed : List ℕ
      printed = stored_line new.setup (length new.entries) last

      printed-is : printed ≡ stored_line session.setup (length old.entries + 1) on.entry
      printed-is =
          ap (λ s. stored_line s (length new.entries) last) on.playing.setup
          ∙ ap (λ n. stored_line session.setup n last) (ap length on.grew ∙ length-append old.entries (on.entry ∷ []))
          ∙ ap (stored_line session.setup (length old.entries + 1)) last_is

      -- a line that differs from what is printed is not the next one
      pub differs-wrong : bytes_eq printed line ≡ false → (entry : Entry) → ¬ IsNextLine session old.entries ended entry
      differs-wrong test entry next =
          let same = whose entry next in
          let its : next_entry session old.entries caller ≡ Some entry = subst (λ c. next_entry session old.entries c ≡ Some entry) same next.next in
          let one : entry ≡ on.entry = cc (its, on.next) in
          let text : ended ≡ printed ++ codes "\n" =
          next.text ∙ ap (λ e. stored_line session.setup (length old.entries + 1) e ++ codes "\n") one ∙ sym (ap (λ l. l ++ codes "\n") printed-is) in
          true≢false (sym ((bytes_eq-Decides printed line).1 (sym (append_cancel_right line printed (codes "\n") text))) ∙ test)

      -- and one that does not is
      pub same-right : bytes_eq printed line ≡ true → IsPlayedLine session old line new
      same-right test =
          let equal : printed ≡ line = (bytes_eq-Decides printed line).0 test in
          record {
            entry = on.entry;
            next = record {
              named = named-ended session.setup line ∙ ap (λ s. caller_named s line) (sym is.setup) ∙ named ∙ ap Some (sym on.whose);
              next = subst (λ c. next_entry session old.entries c ≡ Some on.entry) (sym on.whose) on.next;
              text = ap (λ l. l ++ codes "\n") (sym equal ∙ printed-is);
            };
            grew = on.grew;
            playing = on.playing;
            stored = (λ i. stored_lines (on.playing.setup i) (on.grew i))
                ∙ lines-more session.setup old.entries on.entry
                ∙ ap (λ l. stored_lines session.setup old.entries ++ l ∷ []) (sym printed-is ∙ equal)
                ∙ ap (λ s. stored_lines s old.entries ++ line ∷ []) (sym is.setup);
          }

-- ---- one after the other

-- the lines before a place were right and are played, and nothing else
pub record HasPlayed (session : Session) (lines : List (List ℕ)) (i : ℕ) (state : PlayState) : Type 0 where
  pub playing : IsPlaying session state
  pub audited : AreAudited session (ended_lines lines) (drop i (ended_lines lines)) state.entries
  pub stored : lines_played state ≡ take i lines

journal-of : (session : Session) (state : PlayState) → IsPlaying session state → IsJournal session state.entries
journal-of session state is = record { journal = is.journal; given = is.given }

pub none-played : (session : Session) (lines : List (List ℕ)) (state : PlayState) → IsPlaying session state → state.entries ≡ [] → HasPlayed session lines 0 state
none-played session lines state is begins = record {
  playing = is;
  audited = subst (AreAudited session (ended_lines lines) (ended_lines lines)) (sym begins) (nothing-audited session (ended_lines lines));
  stored = ap (stored_lines state.setup) begins;
}

module _ (session : Session) (lines : List (List ℕ)) (i : ℕ) (state : PlayState) (so_far : HasPlayed session lines i state) (there : i < length lines) where
  abbrev line : List ℕ
  line = get_or lines i []

  next-first : drop i (ended_lines lines) ≡ (line ++ codes "\n") ∷ drop (i + 1) (ended_lines lines)
  next-first =
      let size = length-map lines (λ (l : List ℕ). l ++ codes "\n") in
      drop_more (ended_lines lines) i [] (omega (arith, size, there))
      ∙ ap (λ l. l ∷ drop (i + 1) (ended_lines lines)) (get_or-map (λ (l : List ℕ). l ++ codes "\n") lines i [] [] there)

  pub more-played : (new : PlayState) → IsPlayedLine session state line new → HasPlayed session lines (i + 1) new
  more-played new played = record {
    playing = played.playing;
    audited = subst (AreAudited session (ended_lines lines) (drop (i + 1) (ended_lines lines))) (sym played.grew)
        (more-audited session (ended_lines lines) (drop i (ended_lines lines)) (drop (i + 1) (ended_lines lines)) state.entries (line ++ codes "\n") played.entry
        so_far.audited next-first played.next (subst (IsJournal session) played.grew (journal-of session new played.playing)));
    stored = played.stored ∙ ap (λ ls. ls ++ line ∷ []) so_far.stored ∙ sym (take_more lines i [] there);
  }

  -- so many entries there are
  count : length state.entries ≡ i
  count =
      let whole = ap length so_far.audited.whole ∙ length-append so_far.audited.lines (drop i (ended_lines lines)) in
      let size = length-map lines (λ (l : List ℕ). l ++ codes "\n") in
      let rest = length-drop i (ended_lines lines) in
      omega (arith, whole, size, rest, so_far.audited.size, there)

  pub wrong-played : ((entry : Entry) → ¬ IsNextLine session state.entries (line ++ codes "\n") entry) → IsFirstWrongAmong session (ended_lines lines) (i + 1)
  wrong-played none =
      subst (λ n. IsFirstWrongAmong session (ended_lines lines) (n + 1)) count
      (wrong-audited session (ended_lines lines) (drop i (ended_lines lines)) (drop (i + 1) (ended_lines lines)) state.entries (line ++ codes "\n")
      so_far.audited (journal-of session state so_far.playing) next-first none)

-- behind the last line
pub all-played : (session : Session) (lines : List (List ℕ)) (i : ℕ) (state : PlayState) → HasPlayed session lines i state → length lines ≤ i → ArePlayed session lines state
all-played session lines i state so_far end =
    let size = length-map lines (λ (l : List ℕ). l ++ codes "\n") in
    let nothing : drop i (ended_lines lines) ≡ [] = drop_all i (ended_lines lines) (omega (arith, size, end)) in
    let audited : AreAudited session (ended_lines lines) [] state.entries = subst (λ rest. AreAudited session (ended_lines lines) rest state.entries) nothing so_far.audited in
    record {
      playing = so_far.playing;
      right = right-throughout session (ended_lines lines) state.entries audited;
      callers = sym (callers-named session (ended_lines lines) state.entries audited);
      stored = so_far.stored ∙ take_all i lines end;
    }

-- ---- what is stored

-- the lines of an image are no longer than it is, but for the gate behind them
pub stored-fits : (image : List ℕ) (lines : List (List ℕ)) (place most : ℕ) → Stores image lines place → 1 ≤ most → length image ≤ most → length (image_of lines) ≤ most
stored-fits image lines place most (inl short) some few = subst (λ ls. length (image_of ls) ≤ most) (sym short.none) some
stored-fits image lines place most (inr ends) some few =
    let whole = ap length ends.whole ∙ length-append (blocks lines) (ends.gate ∷ ends.behind) in
    let all = length-append (blocks lines) (0 ∷ []) in
    omega (arith, whole, all, few)

-- what follows of a session whose commands behind the stored lines were played and appended
module _ (session : Session) (turns image : List ℕ) (lines : List (List ℕ)) (place : ℕ) (mid new : PlayState) (before after : Option Contents)
    (stores : Stores image lines place) (holds : HoldsLines before lines place) (played : ArePlayed session lines mid) where
  abbrev all_callers : List ℕ
  all_callers = callers_of mid.entries ++ turns_left (callers_of mid.entries) turns

  abbrev front : StoresRightLines session image
  front = record { lines = lines; stores = (place, stores); right = played.right }

  pub held : HoldsLines before (lines_played mid) place
  held = subst (λ ls. HoldsLines before ls place) (sym played.stored) holds

  order : all_callers ≡ order_behind session.setup turns lines
  order = ap (λ callers. callers ++ turns_left callers turns) played.callers

  pub too-large : most_stored < length (image_of (lines_in_order session all_callers)) → IsTooLargeBehind session turns image
  too-large large = record { front = front; large = subst (λ callers. most_stored < length (image_of (lines_in_order session callers))) order large }

  recovered : (end : ℕ) → IsPlaying session new → callers_of new.entries ≡ all_callers → HoldsLines after (lines_played new) end
      → (length (image_of (lines_played mid)) ≤ most_stored → length (image_of (lines_played new)) ≤ most_stored) → IsRecovered session turns image after new
  recovered end playing callers stored fits =
      let whole : lines_played new ≡ lines_in_order session (order_behind session.setup turns lines) =
      played-lines session new playing ∙ ap (lines_in_order session) (callers ∙ order) in
      record {
        front = front;
        playing = playing;
        entries = playing.journal ∙ ap (journal_in_order session) (callers ∙ order);
        place = end;
        holds = subst (λ ls. HoldsLines after ls end) whole stored;
        fits = λ short. subst (λ ls. length (image_of ls) ≤ most_stored) whole
            (fits (subst (λ ls. length (image_of ls) ≤ most_stored) (sym played.stored) (stored-fits image lines place most_stored stores (omega arith) short)));
      }

  pub recovered-if : {E : Type 0} (result : Result ℕ E) → OnOk result (IsPlaying session new) → OnOk result (callers_of new.entries ≡ all_callers)
      → IfOk result (λ end. HoldsLines before (lines_played mid) place → HoldsLines after (lines_played new) end)
      → OnOk result (HoldsLines before (lines_played mid) place → length (image_of (lines_played mid)) ≤ most_stored → length (image_of (lines_played new)) ≤ most_stored)
      → OnOk result (IsRecovered session turns image after new)
  recovered-if (Ok end) playing callers stored fits = recovered end playing callers (stored held) (fits held)
  recovered-if (Err error) playing callers stored fits = tt
