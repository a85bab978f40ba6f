-- Lists by hour that gain and lose events.
use Rattle.std.proofs.Common.{◌≡◌, ◌∙◌, ◌-◌, ◌<◌, ℕ, Bool, true, false, cond, List, [], ◌∷◌, ◌++◌, filter, get_or, length, min, replicate, set, Result, Ok, Err, OnErr, refl, sym, ap, subst, if◌then◌else◌, ◌≤◌, arith}
use Rattle.std.proofs.lemmas.Bool.{le-ltb, lt-ltb}
use Rattle.std.proofs.lemmas.List.Elements.{filter-append}
use Rattle.std.proofs.lemmas.List.{ext_get_or, get_or-replicate, length-replicate, length_push, set-get_or, take_at}
use Rattle.market_model.specs.declared.event.Event.{Event}
use Rattle.market_model.specs.History.{of_hour, touches}
use Rattle.event_history.specs.ByHour.{AreByHour, Gain, Lose, at_hour, but_last, has_list, hour_count, is_from, listed}
use Rattle.event_history.specs.Near.{IsNear}

-- ---- an event comes, and goes again

pub but_last-push : (events : List Event) (event : Event) → but_last (events ++ event ∷ []) ≡ events
but_last-push events event = take_at events (event ∷ []) (length (events ++ event ∷ []) - 1) (omega (arith, length_push events event))

pub lose-gained : (takes : ℕ → Bool) (event : Event) (lists more back : List (List Event)) → length more ≡ length lists → length back ≡ length more
    → Gain takes event lists more → Lose takes more back → back ≡ lists
lose-gained takes event lists more back larger smaller gain lose = ext_get_or [] back lists (smaller ∙ larger) each
  where
    undone : (t : Bool) (was all back : List Event) → all ≡ cond t (was ++ event ∷ []) was → back ≡ cond t (but_last all) all → back ≡ was
    undone true was all back came went = went ∙ ap but_last came ∙ but_last-push was event
    undone false was all back came went = went ∙ came

    each : (hour : ℕ) → hour < length back → at_hour back hour ≡ at_hour lists hour
    each hour less =
        undone (takes hour) (at_hour lists hour) (at_hour more hour) (at_hour back hour) (gain hour (omega (arith, less, larger, smaller))) (lose hour (omega (arith, less, smaller)))

-- where the next list did not change, those before it are as they were
pub taken-back : (first end next : ℕ) (event : Event) (lists now back : List (List Event)) (one found : List Event) → next < end
    → length now ≡ length lists → length back ≡ length (set now next one) → Gain (is_from first (min end next)) event lists now
    → Lose (is_from first next) (set now next one) back → one ≡ get_or now next found → back ≡ lists
taken-back first end next event lists now back one found before larger smaller gain lose kept =
    let same : set now next one ≡ now = ap (set now next) kept ∙ set-get_or now next found in
    let end-is : min end next ≡ next = omega arith in
    lose-gained (is_from first next) event lists now back larger (smaller ∙ ap length same) (subst (λ e. Gain (is_from first e) event lists now) end-is gain)
    (subst (λ all. Lose (is_from first next) all back) same lose)

-- what follows where memory runs out
pub on-err : {T E P Q : Type 0} (r : Result T E) → (P → Q) → OnErr r P → OnErr r Q
on-err (Ok x) so h = h
on-err (Err e) so h = so h

-- ---- the lists of a history

pub by_hour-nil : AreByHour [] (replicate hour_count [])
by_hour-nil = record {
  size = length-replicate {A = List Event} hour_count [];
  each = λ hour less. get_or-replicate hour_count hour [] [] less;
}

-- ---- what is lent for an hour

filter-all : (events : List Event) → events ≡ filter (λ event. true) events
filter-all [] = refl
filter-all (event ∷ events) = ap (λ rest. event ∷ rest) (filter-all events)

pub near_all : (hour : ℕ) (events lent : List Event) → lent ≡ events → IsNear hour events lent
near_all hour events lent is = record {
  keeps = λ event. true;
  some = is ∙ filter-all events;
  all = λ event touch. refl;
}

-- the list of an hour that has its own, and of one that has none
pub listed_own : (hour : ℕ) (events lent : List Event) → hour < hour_count → lent ≡ of_hour hour events → lent ≡ listed hour events
listed_own hour events lent few is = is ∙ sym (ap (λ b. if b then of_hour hour events else events) (lt-ltb hour hour_count few))

pub listed_all : (hour : ℕ) (events lent : List Event) → hour_count ≤ hour → lent ≡ events → lent ≡ listed hour events
listed_all hour events lent many is = is ∙ sym (ap (λ b. if b then of_hour hour events else events) (le-ltb hour hour_count many))

-- the events of the list of an hour are some of all, among them those that touch it
pub listed_near : (hour : ℕ) (events lent : List Event) → lent ≡ listed hour events → IsNear hour events lent
listed_near hour events lent = go (has_list hour)
  where
    go : (b : Bool) → lent ≡ (if b then of_hour hour events else events) → IsNear hour events lent
    go true is = record { keeps = touches hour; some = is; all = λ event touch. touch }
    go false is = near_all hour events lent is

-- the list of an hour among more events
pub listed-append : (hour : ℕ) (events more : List Event) → listed hour (events ++ more) ≡ listed hour events ++ listed hour more
listed-append hour events more = go (has_list hour)
  where
    go : (b : Bool) → (if b then of_hour hour (events ++ more) else events ++ more) ≡ (if b then of_hour hour events else events) ++ (if b then of_hour hour more else more)
    go true = filter-append (touches hour) events more
    go false = refl
