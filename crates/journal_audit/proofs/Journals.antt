-- The journal of a session that is read is complete, and its lines name its turns.
use Rattle.std.proofs.Common.{◌≡◌, ◌∙◌, ℕ, zero, suc, List, [], ◌∷◌, get_or, map, slice_get, unwrap_or, Ok, refl, sym, ap, subst, arith}
use Rattle.std.specs.Option.{option_map}
use Rattle.std.proofs.lemmas.List.{length-map}
use Rattle.journal_print.specs.Line.{caller_name}
use Rattle.market_model.specs.declared.setup.Caller.{Caller}
use Rattle.market_text.specs.declared.session.Session.{Session}
use Rattle.market_text.specs.Session.{IsSession}
use Rattle.market_text.specs.Text.{session_of_text}
use Rattle.laws_of_texts.specs.Contents.{CallerLine, CommandLine, Contents, IsAllowed, caller_names, caller_of_line, session_of_contents}
use Rattle.laws_of_texts.proofs.Sessions.{texts-are-sessions}
use Rattle.laws_of_texts.proofs.Texts.{accepted-in-grammar}
use Rattle.session_journal.specs.Turns.{AreTurnsOf, taking_turns}
use Rattle.session_journal.proofs.Once.{as-many}
use Rattle.session_journal.proofs.TakingTurns.{own-turns, taking-turns}
use Rattle.session_journal.specs.Journal.{journal_of_session}
use Rattle.journal_audit.specs.Audit.{IsJournalWith}
use Rattle.journal_audit.specs.Journal.{IsJournalOf, IsTradedJournalOf, text_of_session}
use Rattle.journal_audit.specs.Laws.{AreNamedApart, IsJournalInOrder, JournalsAreComplete, JournalsAreOne, LinesNameTheTurns, SessionsAreNamedApart}
use Rattle.journal_audit.specs.Lines.{callers_named, journal_lines}
use Rattle.journal_audit.proofs.Orders.{named-in-order, with-entries}

-- ---- names

-- a caller's name is the one at its place
name-at : (callers : List Caller) (k : ℕ) → unwrap_or (option_map (λ (own : Caller). own.name) (slice_get callers k)) [] ≡ get_or (map (λ (own : Caller). own.name) callers) k []
name-at [] zero = refl
name-at [] (suc k) = refl
name-at (own ∷ callers) zero = refl
name-at (own ∷ callers) (suc k) = name-at callers k

-- the names are those of the callers' lines
names-are : (lines : List CommandLine) (callers : List CallerLine) → map (λ (own : Caller). own.name) (map (caller_of_line lines) callers) ≡ caller_names callers
names-are lines [] = refl
names-are lines (caller ∷ callers) = ap (λ names. caller.name ∷ names) (names-are lines callers)

contents-apart : (contents : Contents) → IsAllowed contents → AreNamedApart (session_of_contents contents).setup
unfolding session_of_contents
contents-apart contents allowed caller other before within same =
    allowed.callers_differ caller other [] before
    (omega (arith, within, length-map contents.callers (caller_of_line contents.commands), length-map contents.callers (λ (own : CallerLine). own.name)))
    (sym (name caller) ∙ same ∙ name other)
  where
    name : (k : ℕ) → caller_name (session_of_contents contents).setup k ≡ get_or (caller_names contents.callers) k []
    name k =
        name-at (map (caller_of_line contents.commands) contents.callers) k
        ∙ ap (λ names. get_or names k []) (names-are contents.commands contents.callers)

pub named-apart : SessionsAreNamedApart
named-apart bytes session read =
    let text = accepted-in-grammar bytes session read in
    subst (λ (s : Session). AreNamedApart s.setup) (sym text.stands_for) (contents-apart text.contents text.allowed)

-- ---- the journal in the order of some turns

abbrev in-order : (session : Session) → IsSession session → (turns : List ℕ) → AreTurnsOf session turns → (written : List ℕ) → written ≡ text_of_session (taking_turns session turns)
    → IsJournalInOrder session written
in-order session is turns are written text = record {
  callers = turns;
  order = λ caller. sym (as-many (taking_turns session turns) (taking-turns session is turns are) caller);
  text = text;
}

-- a journal in the order of the session's lines is one in the order of its turns
abbrev as-traded : (bytes written : List ℕ) → IsJournalOf bytes written → IsTradedJournalOf bytes written
as-traded bytes written is = record {
  session = is.session;
  read = is.read;
  turns = is.session.turns;
  are = own-turns is.session (texts-are-sessions bytes is.session is.read);
  text = is.text;
}

module _ (bytes written : List ℕ) (is : IsTradedJournalOf bytes written) where
  is_session : IsSession is.session
  is_session = texts-are-sessions bytes is.session is.read

  abbrev traded-in-order : IsJournalInOrder is.session written
  traded-in-order = in-order is.session is_session is.turns is.are written is.text

  traded-named : callers_named is.session.setup (journal_lines written) ≡ is.turns
  traded-named = named-in-order is.session written is_session (named-apart bytes is.session is.read) traded-in-order

pub lines-name : LinesNameTheTurns
lines-name bytes written = (λ is. traded-named bytes written (as-traded bytes written is), λ is. traded-named bytes written is)

pub journals-one : JournalsAreOne
journals-one bytes written other = (replayed, λ is also. (forth is also, back is also))
  where
    one : (session next : Session) → session_of_text bytes ≡ Ok session → session_of_text bytes ≡ Ok next → session ≡ next
    one session next read again = cc

    replayed : IsJournalOf bytes written → IsJournalOf bytes other → written ≡ other
    replayed is also = is.text ∙ ap text_of_session (one is.session also.session is.read also.read) ∙ sym also.text

    forth : (is : IsTradedJournalOf bytes written) (also : IsTradedJournalOf bytes other) → written ≡ other → is.turns ≡ also.turns
    forth is also same =
        sym (traded-named bytes written is)
        ∙ ap (λ (s : Session). callers_named s.setup (journal_lines written)) (one is.session also.session is.read also.read)
        ∙ ap (λ text. callers_named also.session.setup (journal_lines text)) same
        ∙ traded-named bytes other also

    back : (is : IsTradedJournalOf bytes written) (also : IsTradedJournalOf bytes other) → is.turns ≡ also.turns → written ≡ other
    back is also same =
        is.text
        ∙ ap (λ session. text_of_session (taking_turns session is.turns)) (one is.session also.session is.read also.read)
        ∙ ap (λ turns. text_of_session (taking_turns also.session turns)) same
        ∙ sym also.text

pub journals-complete : JournalsAreComplete
journals-complete bytes written = (λ is. complete (as-traded bytes written is), λ is. complete is)
  where
    complete : (is : IsTradedJournalOf bytes written) → IsJournalWith is.session written (journal_of_session (taking_turns is.session is.turns))
    complete is = with-entries is.session written (is_session bytes written is) (named-apart bytes is.session is.read) (traded-in-order bytes written is)
