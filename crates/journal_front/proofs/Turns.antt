-- Each kind of step on the journal's word keeps the rule.
use Rattle.std.proofs.Common.{◌≡◌, ◌∙◌, inl, inr, ⊎_elim, ℕ, zero, suc, ◌+◌, ◌%◌, ◌^◌, ◌<◌, ◌≤◌, true, false, cond, List, [], ◌∷◌, ◌++◌, length, count_by, sum_by, refl, sym, ap, subst, arith, set, slice_index, length-append}
use Rattle.std.proofs.lemmas.Bool.{true≢false}
use Rattle.std.proofs.lemmas.List.{length-map}
use Rattle.std.proofs.lemmas.List.Sums.{sum_by-append}
use mathlib.Core.Option.{some, some-injective, some-ne-none}
use lib.ListN.{get_elem?}
use Rattle.zone_graph.specs.Route.{IsIn}
use Rattle.zone_graph.proofs.Membership.{IsIn-append, from_map}
use Rattle.atomic_table.proofs.Lists.{at_set, at_snoc, set_else}
use Rattle.atomic_table.specs.Table.{keeps, State}
use Rattle.market_model.specs.declared.entry.Entry.{Entry}
use Rattle.market_model.specs.declared.setup.Setup.{Setup}
use Rattle.market_model.specs.declared.who.Who.{Who}
use Rattle.market_model.specs.Concerned.{concerns, IsCurrent}
use Rattle.market_model.proofs.Concerned.{current-grows, current-self}
use Rattle.journal_front.specs.declared.view.Standing.{Standing}
use Rattle.journal_front.specs.declared.view.View.{View}
use Rattle.journal_front.specs.Ruled.{Fits, Holds, Stands}
use Rattle.journal_front.specs.Steps.{CommittingKeeps, Follows, HasConcerned, JoiningKeeps, Leads, LearningKeeps, LookingKeeps, MakingKeeps, SplittingKeeps}
use Rattle.journal_front.specs.Views.{everyone, first_view, fresh, is_leading, is_same, spent_view, times_in, view_dealt, view_grown, view_joined, view_left, view_told}
use Rattle.journal_front.proofs.Sums.{IsIn-first, IsIn-others, length-first, sum-alone, sum-first, sum-map, sum-set, sum-two, times-once}

-- ---- the table is made

-- a fresh standing fits the empty journal
fresh-holds : (setup : Setup) (someone : Who) → Holds setup [] (fresh someone)
fresh-holds setup someone = record { current = current-self setup someone []; known = omega arith }

first-fits : (setup : Setup) → Fits setup [] (first_view setup)
first-fits setup = record {
  same_setup = refl;
  leading = λ leads. refl;
  alone = λ follows. absurd (true≢false follows);
  standings = λ standing there.
      let found = from_map fresh standing (everyone setup) there in
      subst (Holds setup []) (sym found.2) (fresh-holds setup found.0);
}

alone-fits : (setup : Setup) (id : ℕ) (view : View) → get_elem? (first_view setup ∷ []) id ≡ some view → Fits setup [] view
alone-fits setup zero view at = subst (Fits setup []) (some-injective (first_view setup) view at) (first-fits setup)
alone-fits setup (suc id) view at = absurd (some-ne-none view (sym at))

pub making : MakingKeeps
making setup = (
  [],
  record {
    word = refl;
    room = omega arith;
    callers = λ entry there. absurd there;
    leader = refl;
    shared = λ someone.
        sum-alone (times_in someone) (first_view setup) ∙ sum-map (λ (standing : Standing). cond (is_same someone standing.who) 1 0) fresh (everyone setup);
    views = λ id view at live. alone-fits setup id view at;
  },
)

-- ---- a view is changed, and the journal perhaps

module _ (setup : Setup) (journal : List Entry) where
  module _ (state : State ℕ View) (stands : Stands setup journal state) (id : ℕ) (view changed : View) (at : get_elem? state.views id ≡ some view) where
    -- the sums over all views stay where they stay for the one that is changed
    still-leader : is_leading changed ≡ is_leading view → count_by is_leading (set state.views id changed) ≡ 1
    still-leader same =
        let weight : View → ℕ = λ v. cond (is_leading v) 1 0 in
        let equal : weight changed ≡ weight view = ap (λ b. cond b 1 0) same in
        omega (arith, sum-set weight state.views id view changed at, stands.leader, equal)

    still-shared : (someone : Who) → times_in someone changed ≡ times_in someone view
        → sum_by (times_in someone) (set state.views id changed) ≡ count_by (is_same someone) (everyone setup)
    still-shared someone same = omega (arith, sum-set (times_in someone) state.views id view changed at, stands.shared someone, same)

    -- the state after a step that changes the view, and adds entries to the journal or none
    pub stands-set : (longer : List Entry) → (words : List ℕ) → words ≡ length longer ∷ [] → length longer ≤ 2 ^ 31
        → ((entry : Entry) → IsIn entry longer → entry.caller < length setup.callers)
        → is_leading changed ≡ is_leading view
        → ((someone : Who) → times_in someone changed ≡ times_in someone view)
        → (changed.live ≡ true → Fits setup longer changed)
        → ((other : ℕ) (there : View) → ¬ (other ≡ id) → get_elem? state.views other ≡ some there → there.live ≡ true → Fits setup journal there → Fits setup longer there)
        → Stands setup longer (record { words = words; homes = state.homes; views = set state.views id changed })
    stands-set longer words words_are room callers leading times fits others = record {
      word = words_are;
      room = room;
      callers = callers;
      leader = still-leader leading;
      shared = λ someone. still-shared someone (times someone);
      views = λ other there found live. ⊎_elim
          (λ here. subst (λ (v : View). v.live ≡ true → Fits setup longer v) here.1 fits live)
          (λ else. others other there else.0 else.1 live (stands.views other there else.1 live))
          (at_set state.views id other changed there found);
    }

-- the word of a state that stands
word-is : (setup : Setup) (journal : List Entry) (state : State ℕ View) → Stands setup journal state → slice_index state.words 0 ≡ length journal
word-is setup journal state stands = ap (λ words. slice_index words 0) stands.word

-- ---- loads

pub learning : LearningKeeps
learning setup slots id view leads state ruled length_is at bound =
    let journal : List Entry = ruled.0 in
    let stands : Stands setup journal state = ruled.1 in
    let own = stands.views id view at leads.live in (
      view,
      keeps,
      tt,
      (
        journal,
        stands-set setup journal state stands id view view at journal (set state.words 0 (slice_index state.words 0))
            (ap (λ words. set words 0 (slice_index words 0)) stands.word) stands.room stands.callers refl (λ someone. refl) (λ live. own)
            (λ other there apart found live fits. fits),
      ),
      (
        refl,
        word-is setup journal state stands ∙ ap (λ (l : List Entry). length l) (sym (own.leading leads.leads)),
        λ standing there. subst (λ s. Holds s view.entries standing) (sym own.same_setup)
            (subst (λ l. Holds setup l standing) (sym (own.leading leads.leads)) (own.standings standing there)),
      ),
    )

-- a list that is current is no longer than the journal
current-short : (setup : Setup) (someone : Who) (entries journal : List Entry) → IsCurrent setup someone entries journal → length entries ≤ length journal
current-short setup someone entries journal current = omega (arith, ap (λ (l : List Entry). length l) current.whole, length-append entries current.later)

pub looking : LookingKeeps
looking setup slots id view follows state ruled length_is at bound =
    let journal : List Entry = ruled.0 in
    let stands : Stands setup journal state = ruled.1 in
    let own = stands.views id view at follows.live in
    let found : ℕ = slice_index state.words 0 in
    let is_length : found ≡ length journal = word-is setup journal state stands in
    let told : Standing → Standing = λ s. record { who = s.who; entries = s.entries; known = found } in (
      view_told found view,
      keeps,
      tt,
      (
        journal,
        stands-set setup journal state stands id view (view_told found view) at journal (set state.words 0 found)
            (ap (λ words. set words 0 (slice_index words 0)) stands.word) stands.room stands.callers refl
            (λ someone. sum-map (λ (s : Standing). cond (is_same someone s.who) 1 0) told view.standings)
            (λ live. record {
              same_setup = own.same_setup;
              leading = λ leads. absurd (true≢false (sym leads ∙ follows.follows));
              alone = λ again. length-map view.standings told ∙ own.alone again;
              standings = λ standing there.
                  let from = from_map told standing view.standings there in
                  subst (Holds setup journal) (sym from.2)
                  (record { current = (own.standings from.0 from.1).current; known = omega arith });
            })
            (λ other there apart found live fits. fits),
      ),
      (
        refl,
        λ standing there.
            let holds = own.standings standing there in
            (omega (arith, current-short setup standing.who standing.entries journal holds.current), omega (arith, holds.known)),
      ),
    )

-- ---- a commit

module _ (setup : Setup) (journal : List Entry) (state : State ℕ View) (stands : Stands setup journal state) (id : ℕ) (view : View) (entry : Entry)
    (at : get_elem? state.views id ≡ some view) (leads : Leads view) (has_concerned : HasConcerned setup entry view) where
  abbrev longer : List Entry
  longer = journal ++ entry ∷ []

  is_longer : length longer ≡ length journal + 1
  is_longer = length-append journal (entry ∷ [])

  own-fits : Fits setup journal view
  own-fits = stands.views id view at leads.live

  weight : View → ℕ
  weight v = cond (is_leading v) 1 0

  -- no other live view is that of the journal's seat
  one-leader : (other : ℕ) (there : View) → ¬ (other ≡ id) → get_elem? state.views other ≡ some there → there.live ≡ true → there.leads ≡ true → ⊥
  unfolding weight
  one-leader other there apart found live leading =
      let own : weight view ≡ 1 = ap (λ b. cond (cond b view.leads false) 1 0) leads.live ∙ ap (λ b. cond b 1 0) leads.leads in
      let more : weight there ≡ 1 = ap (λ b. cond (cond b there.leads false) 1 0) live ∙ ap (λ b. cond b 1 0) leading in
      absurd (omega (arith, sum-two weight state.views id other view there apart at found, stands.leader, own, more))

  -- nobody whom the entry concerns stands in another view
  not-concerned : (other : ℕ) (there : View) (standing : Standing) → ¬ (other ≡ id) → get_elem? state.views other ≡ some there → IsIn standing there.standings
      → concerns setup standing.who entry ≡ false
  not-concerned other there standing apart found inside =
      elim (concerns setup standing.who entry) as (λ b. concerns setup standing.who entry ≡ b → b ≡ false) [
        | true ↦ λ concerned. absurd (omega (
          arith,
          sum-two (times_in standing.who) state.views id other view there apart at found,
          stands.shared standing.who,
          has_concerned standing.who concerned,
          times-once standing there inside,
        ))
        | false ↦ λ other. refl
      ] refl

  others-fit : (other : ℕ) (there : View) → ¬ (other ≡ id) → get_elem? state.views other ≡ some there → there.live ≡ true → Fits setup journal there → Fits setup longer there
  others-fit other there apart found live fits = record {
    same_setup = fits.same_setup;
    leading = λ leading. absurd (one-leader other there apart found live leading);
    alone = fits.alone;
    standings = λ standing inside. record {
      current = current-grows setup standing.who standing.entries journal entry (fits.standings standing inside).current (not-concerned other there standing apart found inside);
      known = omega (arith, is_longer, (fits.standings standing inside).known);
    };
  }

  grown-fits : Fits setup longer (view_grown entry view)
  grown-fits =
      let same : view.entries ++ entry ∷ [] ≡ longer = ap (λ l. l ++ entry ∷ []) (own-fits.leading leads.leads) in
      let grown : Standing → Standing = λ s. record { who = s.who; entries = view.entries ++ entry ∷ []; known = s.known } in record {
        same_setup = own-fits.same_setup;
        leading = λ leading. same;
        alone = λ follows. absurd (true≢false (sym leads.leads ∙ follows));
        standings = λ standing inside.
            let from = from_map grown standing view.standings inside in
            subst (Holds setup longer) (sym from.2) (record {
              current = subst (λ l. IsCurrent setup from.0.who l longer) (sym same) (current-self setup from.0.who longer);
              known = omega (arith, is_longer, (own-fits.standings from.0 from.1).known);
            });
      }

  grown-times : (someone : Who) → times_in someone (view_grown entry view) ≡ times_in someone view
  grown-times someone = sum-map (λ (s : Standing). cond (is_same someone s.who) 1 0)
      (λ (s : Standing). record { who = s.who; entries = view.entries ++ entry ∷ []; known = s.known }) view.standings

  grown-word : length journal < 2 ^ 31 → set state.words 0 ((slice_index state.words 0 + 1) % 2 ^ 64) ≡ length longer ∷ []
  grown-word room =
      let small : (length journal + 1) % 2 ^ 64 ≡ length longer = omega (arith, is_longer) in
      ap (λ words. set words 0 ((slice_index words 0 + 1) % 2 ^ 64)) stands.word ∙ ap (λ n. n ∷ []) small

  grown-callers : entry.caller < length setup.callers → (other : Entry) → IsIn other longer → other.caller < length setup.callers
  grown-callers known other there = ⊎_elim
      (λ before. stands.callers other before)
      (λ last. elim last [ inl here ↦ let same = ap (λ (e : Entry). e.caller) here in omega (arith, same) | inr nowhere ↦ absurd nowhere ])
      (IsIn-append other journal (entry ∷ []) there)

  pub grown-stands : entry.caller < length setup.callers → length journal < 2 ^ 31
      → Stands setup longer (record { words = set state.words 0 ((slice_index state.words 0 + 1) % 2 ^ 64); homes = state.homes; views = set state.views id (view_grown entry view) })
  grown-stands known room =
      stands-set setup journal state stands id view (view_grown entry view) at longer (set state.words 0 ((slice_index state.words 0 + 1) % 2 ^ 64))
      (grown-word room) (omega (arith, is_longer)) (grown-callers known) refl grown-times (λ live. grown-fits) others-fit

pub committing : CommittingKeeps
committing setup slots id view entry leads has_concerned known room state ruled length_is at bound =
    let journal : List Entry = ruled.0 in
    let stands : Stands setup journal state = ruled.1 in
    let own = stands.views id view at leads.live in
    let same : length view.entries ≡ length journal = ap (λ (l : List Entry). length l) (own.leading leads.leads) in (
      view_grown entry view,
      keeps,
      tt,
      (
        journal ++ entry ∷ [],
        grown-stands setup journal state stands id view entry at leads has_concerned known (omega arith),
      ),
      (refl, word-is setup journal state stands ∙ sym same),
    )

-- ---- splits and joins

module _ (setup : Setup) (journal : List Entry) (state : State ℕ View) (stands : Stands setup journal state) (id : ℕ) (view : View)
    (at : get_elem? state.views id ≡ some view) (leads : Leads view) where
  lead-fits : Fits setup journal view
  lead-fits = stands.views id view at leads.live

  left-fits : Fits setup journal (view_left view)
  left-fits = record {
    same_setup = lead-fits.same_setup;
    leading = lead-fits.leading;
    alone = λ follows. absurd (true≢false (sym leads.leads ∙ follows));
    standings = λ standing inside. lead-fits.standings standing (IsIn-others standing view.standings inside);
  }

  dealt-fits : 0 < length view.standings → Fits setup journal (view_dealt view)
  dealt-fits some_there = record {
    same_setup = lead-fits.same_setup;
    leading = λ leading. absurd (true≢false (sym leading));
    alone = λ follows. length-first view.standings some_there;
    standings = λ standing inside. lead-fits.standings standing (IsIn-first standing view.standings inside);
  }

  split-stands : 0 < length view.standings → Stands setup journal (record { words = state.words; homes = state.homes; views = set state.views id (view_left view) ++ view_dealt view ∷ [] })
  split-stands some_there =
      let lead_weight : View → ℕ = λ v. cond (is_leading v) 1 0 in record {
        word = stands.word;
        room = stands.room;
        callers = stands.callers;
        leader =
            omega (
              arith,
              sum_by-append lead_weight (set state.views id (view_left view)) (view_dealt view ∷ []),
              sum-alone lead_weight (view_dealt view),
              still-leader setup journal state stands id view (view_left view) at refl,
            );
        shared = λ someone.
            omega (
              arith,
              sum_by-append (times_in someone) (set state.views id (view_left view)) (view_dealt view ∷ []),
              sum-alone (times_in someone) (view_dealt view),
              sum-set (times_in someone) state.views id view (view_left view) at,
              stands.shared someone,
              sum-first (λ (s : Standing). cond (is_same someone s.who) 1 0) view.standings,
            );
        views = λ other there found live. ⊎_elim
            (λ before. ⊎_elim
            (λ here. subst (Fits setup journal) here.1 left-fits)
            (λ else. stands.views other there else.1 live)
            (at_set state.views id other (view_left view) there before))
            (λ last. subst (Fits setup journal) last (dealt-fits some_there))
            (at_snoc (set state.views id (view_left view)) (view_dealt view) there other found);
      }

  module _ (other : ℕ) (joined : View) (follows : Follows joined) (apart : ¬ (other ≡ id)) (found : get_elem? (set state.views id (view_joined view joined)) other ≡ some joined) where
    joined-at : get_elem? state.views other ≡ some joined
    joined-at = sym (set_else state.views id other (view_joined view joined) apart) ∙ found

    follow-fits : Fits setup journal joined
    follow-fits = stands.views other joined joined-at follows.live

    both-fits : Fits setup journal (view_joined view joined)
    both-fits = record {
      same_setup = lead-fits.same_setup;
      leading = lead-fits.leading;
      alone = λ follows. absurd (true≢false (sym leads.leads ∙ follows));
      standings = λ standing inside. ⊎_elim (lead-fits.standings standing) (follow-fits.standings standing) (IsIn-append standing view.standings joined.standings inside);
    }

    join-stands : Stands setup journal (record { words = state.words; homes = state.homes; views = set (set state.views id (view_joined view joined)) other spent_view })
    join-stands =
        let views : List View = set state.views id (view_joined view joined) in
        let lead_weight : View → ℕ = λ v. cond (is_leading v) 1 0 in
        let none_leads : lead_weight joined ≡ 0 = ap (λ b. cond (cond b joined.leads false) 1 0) follows.live ∙ ap (λ b. cond b 1 0) follows.follows in record {
          word = stands.word;
          room = stands.room;
          callers = stands.callers;
          leader =
              omega (
                arith,
                sum-set lead_weight views other joined spent_view found,
                still-leader setup journal state stands id view (view_joined view joined) at refl,
                none_leads,
              );
          shared = λ someone.
              omega (
                arith,
                sum-set (times_in someone) views other joined spent_view found,
                sum-set (times_in someone) state.views id view (view_joined view joined) at,
                stands.shared someone,
                sum_by-append (λ (s : Standing). cond (is_same someone s.who) 1 0) view.standings joined.standings,
              );
          views = λ k there inside live. ⊎_elim
              (λ spent. absurd (true≢false (sym live ∙ ap (λ (v : View). v.live) (sym spent.1))))
              (λ else. ⊎_elim
              (λ here. subst (Fits setup journal) here.1 both-fits)
              (λ old. stands.views k there old.1 live)
              (at_set state.views id k (view_joined view joined) there else.1))
              (at_set views other k spent_view there inside);
        }

pub splitting : SplittingKeeps
splitting setup id view leads some_there state ruled at = (ruled.0, split-stands setup ruled.0 state ruled.1 id view at leads some_there)

pub joining : JoiningKeeps
joining setup id view other joined leads follows state ruled at apart found =
    (ruled.0, join-stands setup ruled.0 state ruled.1 id view at leads other joined follows apart found)
