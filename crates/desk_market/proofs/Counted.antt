-- How many entries of each caller are counted.
use Rattle.std.proofs.Common.{◌≡◌, ◌∙◌, ℕ, zero, suc, ◌+◌, ◌-◌, ◌*◌, ◌<◌, ◌≤◌, ◌^◌, Bool, true, false, cond, List, [], ◌∷◌, ◌++◌, length, nat_eq, replicate, slice_index, slice_set, eqb-true, get_or-set_same, get_or-set_other, refl, sym, ap, arith}
use Rattle.std.proofs.lemmas.Bool.{eqb-false}
use Rattle.std.proofs.lemmas.List.Sums.{count_by-le-length, sum_by-append}
use Rattle.market_model.specs.declared.entry.Entry.{Entry}
use Rattle.trade_journal.specs.Journals.{made_by}
use Rattle.trade_journal.proofs.Rooms.{made_by-more, one-other, one-own, one_if}

-- each caller's count is how many entries it has
abbrev pub AreCounted : List ℕ → List Entry → Type 0
AreCounted given entries = (caller : ℕ) → slice_index given caller ≡ made_by entries caller

pub none-counted : (callers : ℕ) → AreCounted (replicate callers 0) []
none-counted zero caller = refl
none-counted (suc callers) zero = refl
none-counted (suc callers) (suc caller) = none-counted callers caller

-- one more entry of a caller
pub count-more : (given : List ℕ) (entries : List Entry) (entry : Entry) → AreCounted given entries → entry.caller < length given
    → AreCounted (slice_set given entry.caller (slice_index given entry.caller + 1)) (entries ++ entry ∷ [])
count-more given entries entry counted known caller = go (nat_eq entry.caller caller) refl
  where
    more : ℕ
    more = slice_index given entry.caller + 1

    grown : made_by (entries ++ entry ∷ []) caller ≡ made_by entries caller + one_if entry caller
    grown =
        let both = sum_by-append (λ (e : Entry). cond (nat_eq e.caller caller) 1 0) entries (entry ∷ []) in
        let one = made_by-more entry [] caller in
        omega (arith, both, one)

    go : (b : Bool) → nat_eq entry.caller caller ≡ b → slice_index (slice_set given entry.caller more) caller ≡ made_by (entries ++ entry ∷ []) caller
    go true e =
        let same : entry.caller ≡ caller = eqb-true entry.caller caller e in
        let one = one-own entry caller same in
        let now : slice_index (slice_set given entry.caller more) caller ≡ more =
        ap (slice_index (slice_set given entry.caller more)) (sym same) ∙ get_or-set_same given entry.caller more 0 known in
        let before : slice_index given entry.caller ≡ made_by entries caller = counted entry.caller ∙ ap (made_by entries) same in
        omega (arith, now, before, grown, one)
    go false e =
        let apart = eqb-false entry.caller caller e in
        let none = one-other entry caller apart in
        let now : slice_index (slice_set given entry.caller more) caller ≡ slice_index given caller =
        get_or-set_other given entry.caller caller more 0 (λ other. apart (sym other)) in
        let before = counted caller in
        omega (arith, now, before, grown, none)

-- no count is greater than there are entries
pub count-few : (given : List ℕ) (entries : List Entry) (most caller : ℕ) → AreCounted given entries → length entries ≤ most → 8 * most < 2 ^ 32 - 1
    → slice_index given caller < 2 ^ 32 - 1
count-few given entries most caller counted within few =
    let own = counted caller in
    let less : made_by entries caller ≤ length entries = count_by-le-length (λ (e : Entry). nat_eq e.caller caller) entries in
    omega (arith, own, less, within, few)
