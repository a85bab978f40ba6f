-- The passes of a venue's callers, from its opening to its end.
use Rattle.std.proofs.Common.{◌≡◌, ◌∙◌, inl, inr, ℕ, zero, suc, ◌+◌, ◌<◌, ◌≤◌, List, [], ◌∷◌, ◌++◌, get_or, length, map, take, refl, sym, ap, ap₂, subst, arith, add-zero, zero-add}
use Rattle.std.specs.List.{range_with_len}
use Rattle.zone_graph.specs.Route.{IsIn}
use Rattle.market_model.specs.declared.command.Command.{Command}
use Rattle.market_model.specs.declared.entry.Entry.{Entry}
use Rattle.journal_front.specs.Fronts.{FrontState}
use Rattle.trade_journal.specs.Journals.{room_of_caller}
use Rattle.trader_pass.specs.Passes.{IsOf, PassState}
use Rattle.session_journal.specs.Laws.{commands_in}
use Rattle.market_text.specs.declared.session.Session.{Session}
use Rattle.market_text.specs.Session.{IsSession}
use Rattle.venue_core.specs.Venues.{AreAllOf, EndsWith, IsOpenedFor, first_pass}
use Rattle.session_trade.specs.Callers.{AllGave, AllMayGive}
use Rattle.session_trade.proofs.Rooms.{room-is}

module _ (venue : FrontState) where
  -- at the opening each caller has its room
  pub opened-may : (commands : List (List Command)) (first : ℕ) → ((k : ℕ) → k < length commands → length (get_or commands k []) ≤ room_of_caller venue.setup (first + k))
      → AllMayGive venue commands (map (first_pass venue) (range_with_len first (length commands)))
  opened-may [] first room = tt
  opened-may (own ∷ commands) first room = (
    record { same_front = refl; same_setup = refl },
    subst (λ n. n ≤ room_of_caller venue.setup first) (sym (zero-add (length own)))
        (subst (λ k. length own ≤ room_of_caller venue.setup k) (add-zero first) (room 0 (omega arith))),
    opened-may commands (first + 1) (λ k within. subst (λ c. length (get_or commands k []) ≤ room_of_caller venue.setup c) (omega arith) (room (suc k) (omega (arith, within)))),
  )

  -- those who gave their commands have still the venue's passes
  gave-own : (commands : List (List Command)) (olds news : List PassState) → AllGave commands olds news → ((pass : PassState) → IsIn pass olds → IsOf venue pass)
      → (pass : PassState) → IsIn pass news → IsOf venue pass
  gave-own [] [] [] gave own pass i = absurd i
  gave-own [] [] (new ∷ news) gave own pass i = absurd gave
  gave-own [] (old ∷ olds) news gave own pass i = absurd gave
  gave-own (given ∷ commands) [] news gave own pass i = absurd gave
  gave-own (given ∷ commands) (old ∷ olds) [] gave own pass i = absurd gave
  gave-own (given ∷ commands) (old ∷ olds) (new ∷ news) gave own pass i = elim i [
    | inl same ↦
        let before = own old (inl refl) in
        subst (IsOf venue) (sym same) (record { same_front = gave.0.same_front ∙ before.same_front; same_setup = gave.0.same_setup ∙ before.same_setup })
    | inr j ↦ gave-own commands olds news gave.1 (λ other k. own other (inr k)) pass j
  ]

  first-own : (callers : List ℕ) (pass : PassState) → IsIn pass (map (first_pass venue) callers) → IsOf venue pass
  first-own [] pass i = absurd i
  first-own (caller ∷ callers) pass i = elim i [
    | inl same ↦ subst (IsOf venue) (sym same) (record { same_front = refl; same_setup = refl })
    | inr j ↦ first-own callers pass j
  ]

  gave-callers : (commands : List (List Command)) (callers : List ℕ) (news : List PassState) → AllGave commands (map (first_pass venue) callers) news
      → map (λ (pass : PassState). pass.caller) news ≡ callers
  gave-callers [] [] [] gave = refl
  gave-callers [] [] (new ∷ news) gave = absurd gave
  gave-callers [] (caller ∷ callers) news gave = absurd gave
  gave-callers (given ∷ commands) [] news gave = absurd gave
  gave-callers (given ∷ commands) (caller ∷ callers) [] gave = absurd gave
  gave-callers (given ∷ commands) (caller ∷ callers) (new ∷ news) gave = ap₂ ◌∷◌ gave.0.same_caller (gave-callers commands callers news gave.1)

  -- so all of them come back
  pub all-back : (commands : List (List Command)) (news : List PassState) → AllGave commands (map (first_pass venue) (range_with_len 0 (length venue.setup.callers))) news
      → AreAllOf venue news
  all-back commands news gave =
      let callers = range_with_len 0 (length venue.setup.callers) in
      record {
        callers = gave-callers commands callers news gave;
        own = gave-own commands (map (first_pass venue) callers) news gave (first-own callers);
      }

  -- and the pass of each caller has its commands
  pub record HasOwn (own : List Command) (caller : ℕ) (passes : List PassState) : Type 0 where
    pub pass : PassState
    pub there : IsIn pass passes
    pub its : pass.caller ≡ caller
    pub gave : map (λ (entry : Entry). entry.command) pass.mine ≡ own

  gave-each : (commands : List (List Command)) (first : ℕ) (news : List PassState) → AllGave commands (map (first_pass venue) (range_with_len first (length commands))) news
      → (k : ℕ) → k < length commands → HasOwn (get_or commands k []) (first + k) news
  gave-each [] first news gave k within = absurd (omega (arith, within))
  gave-each (own ∷ commands) first [] gave k within = absurd gave
  gave-each (own ∷ commands) first (new ∷ news) gave zero within = record {
    pass = new;
    there = inl refl;
    its = gave.0.same_caller ∙ omega arith;
    gave = ap (map (λ (entry : Entry). entry.command)) gave.0.mine ∙ gave.0.gave;
  }
  gave-each (own ∷ commands) first (new ∷ news) gave (suc k) within =
      let rest = gave-each commands (first + 1) news gave.1 k (omega (arith, within)) in
      record { pass = rest.pass; there = inr rest.there; its = rest.its ∙ omega arith; gave = rest.gave }

  -- and so has the journal
  pub journal-has : (commands : List (List Command)) (news : List PassState) (entries : List Entry) → AllGave commands (map (first_pass venue) (range_with_len 0 (length commands))) news
      → ((pass : PassState) → IsIn pass news → EndsWith entries pass) → (caller : ℕ) → caller < length commands → commands_in caller entries ≡ get_or commands caller []
  journal-has commands news entries gave ends caller within =
      let has = gave-each commands 0 news gave caller within in
      let end = ends has.pass has.there in
      let its : has.pass.caller ≡ caller = has.its ∙ omega arith in
      ap (λ c. commands_in c entries) (sym its) ∙ ap (map (λ (entry : Entry). entry.command)) (sym end.mine) ∙ has.gave

-- what is taken back of a list that was lent
take-whole : {X : Type 0} (xs rest : List X) → take (length xs) (xs ++ rest) ≡ xs
take-whole [] rest = refl
take-whole (x ∷ xs) rest = ap (λ ys. x ∷ ys) (take-whole xs rest)

pub lent-back : {X : Type 0} (count : ℕ) (lent rest back : List X) → count ≡ length lent → back ≡ take count (lent ++ rest) → back ≡ lent
lent-back count lent rest back same is = is ∙ ap (λ n. take n (lent ++ rest)) same ∙ take-whole lent rest

-- the venue of a session, whose callers give their commands
module _ (session : Session) (is : IsSession session) (venue : FrontState) (passes : List PassState) (opened : IsOpenedFor session.setup venue passes)
    (given : List (List Command)) (given_is : given ≡ session.commands) (lent : List PassState) (lent_is : lent ≡ passes) where
  passes-are : lent ≡ map (first_pass venue) (range_with_len 0 (length session.commands))
  passes-are = lent_is ∙ opened.passes_are ∙ ap (λ n. map (first_pass venue) (range_with_len 0 n)) (sym is.matched)

  room-there : (k : ℕ) → k < length session.commands → length (get_or session.commands k []) ≤ room_of_caller venue.setup (0 + k)
  room-there k within =
      subst (λ s. length (get_or session.commands k []) ≤ room_of_caller s (0 + k)) (sym opened.same_setup)
      (subst (λ c. length (get_or session.commands k []) ≤ room_of_caller session.setup c) (sym (zero-add k))
      (subst (λ n. length (get_or session.commands k []) ≤ n) (sym (room-is session is k)) (omega arith)))

  pub all-may : AllMayGive venue given lent
  all-may =
      subst (λ cs. AllMayGive venue cs lent) (sym given_is)
      (subst (AllMayGive venue session.commands) (sym passes-are) (opened-may venue session.commands 0 room-there))

  module _ (news : List PassState) (gave : AllGave given lent news) where
    all-gave : AllGave session.commands (map (first_pass venue) (range_with_len 0 (length session.commands))) news
    all-gave = subst (λ os. AllGave session.commands os news) passes-are (subst (λ cs. AllGave cs lent news) given_is gave)

    pub come-back : AreAllOf venue news
    come-back =
        all-back venue session.commands news
        (subst (λ n. AllGave session.commands (map (first_pass venue) (range_with_len 0 n)) news) (is.matched ∙ ap (λ s. length s.callers) (sym opened.same_setup)) all-gave)

    pub has-commands : (entries : List Entry) → ((pass : PassState) → IsIn pass news → EndsWith entries pass) → (caller : ℕ) → caller < length session.commands
        → commands_in caller entries ≡ get_or session.commands caller []
    has-commands entries ends = journal-has venue session.commands news entries all-gave ends

pub gave-many : (commands : List (List Command)) (olds news : List PassState) → AllGave commands olds news → length olds ≡ length news
gave-many [] [] [] gave = refl
gave-many [] [] (new ∷ news) gave = absurd gave
gave-many [] (old ∷ olds) news gave = absurd gave
gave-many (given ∷ commands) [] news gave = absurd gave
gave-many (given ∷ commands) (old ∷ olds) [] gave = absurd gave
gave-many (given ∷ commands) (old ∷ olds) (new ∷ news) gave = ap suc (gave-many commands olds news gave.1)
