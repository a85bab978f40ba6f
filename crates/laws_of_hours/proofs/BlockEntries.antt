-- A block that enters rests in the book of the blocks of its hour.
use Rattle.std.proofs.Common.{◌≡◌, ◌∙◌, inl, ℕ, ◌+◌, ◌≤◌, Bool, true, false, cond, List, [], ◌∷◌, ◌++◌, filter, length, length-append, Some, None, eq-eqb, eqb-true, refl, sym, ap, subst, if◌then◌else◌, arith}
use Rattle.std.proofs.lemmas.Bool.{lt-ltb, ltb-true}
use Rattle.std.proofs.lemmas.List.Elements.{filter-append, filter_map-append}
use Rattle.std.specs.List.{cons_option, filter_map}
use Rattle.order_kinds.specs.declared.order.BlockOrder.{BlockOrder}
use Rattle.order_kinds.specs.declared.order.OrderName.{OrderName}
use Rattle.zone_graph.specs.Graph.{Graph}
use Rattle.zone_graph.specs.Route.{IsIn}
use Rattle.block_book.specs.Book.{block_of, with_block}
use Rattle.market_model.specs.declared.event.Event.{Event}
use Rattle.market_model.specs.declared.event.Event.TheVariants as event
use Rattle.market_model.specs.declared.setup.Setup.{Setup}
use Rattle.market_model.specs.History.{and_then}
use Rattle.market_model.specs.Orders.{is_open, left, name_given, open_names}
use Rattle.market_model.specs.WellFormed.{BlockEnters, FitAfter, Fits}
use Rattle.laws_of_market.proofs.Counts.{fewer-le}
use Rattle.laws_of_market.proofs.States.{left-more}
use Rattle.laws_of_market.proofs.LocalAnswers.{open_names-agree}
use Rattle.laws_of_market.proofs.LocalStates.{next_name-agree}
use Rattle.laws_of_market.proofs.OpenNames.{IsEntry, block-entry}
use Rattle.laws_of_books.proofs.Elsewhere as books
use Rattle.laws_of_books.specs.BlocksOf.{blocks_of, entered_resting_block}
use Rattle.laws_of_books.proofs.EnteredAndWithdrawn.{book-entered, number-free}
use Rattle.laws_of_books.proofs.WholeBlockBooks.{few-in_book}
use Rattle.laws_of_hours.proofs.OtherEvents.{others}
use Rattle.laws_of_hours.specs.NextEvents.{IsNext}
use Rattle.laws_of_hours.specs.BlockEvents.{BlocksEnter, RestsAsBlock}
use Rattle.laws_of_hours.proofs.NextEvents.{after, agrees, before, blocks-are, book-is, flows-from, flows-to, moment-is, next}

-- at most one more is open
module _ (setup : Setup) (history : List Event) (fit : FitAfter setup [] history) (name : OrderName) (caller : ℕ) (order : BlockOrder)
    (fits : Fits setup history (event.EnteredBlock name caller order)) where
  abbrev entry : Event
  entry = event.EnteredBlock name caller order

  abbrev hour : ℕ
  hour = order.first

  abbrev final : List Event
  final = and_then history entry

  abbrev olds : List OrderName
  olds = filter_map (name_given hour) history

  is_entry : IsEntry history name entry
  is_entry = block-entry setup history fit name caller order fits

  given : filter_map (name_given hour) final ≡ olds ++ name ∷ []
  given =
      filter_map-append (name_given hour) history (entry ∷ [])
      ∙ ap (λ o. olds ++ cons_option o []) (is_entry.gives hour ∙ ap (λ t. if t then Some name else None) (eq-eqb name.hour hour (ap (λ (n : OrderName). n.hour) fits.named)))

  opened : (other : OrderName) → IsIn other olds → is_open final other ≡ true → is_open history other ≡ true
  opened other i open_after =
      let some = ltb-true 0 (left final other) open_after in
      let falls = left-more history entry other (is_entry.enters_it other (λ same. is_entry.new hour other i (sym same))) in
      lt-ltb 0 (left history other) (omega (arith, some, falls))

  own-most : length (filter (is_open final) (name ∷ [])) ≤ 1
  own-most = go (is_open final name)
    where
      go : (b : Bool) → length (cond b (name ∷ []) []) ≤ 1
      go true = omega arith
      go false = omega arith

  pub one-more : length (open_names final hour) ≤ length (open_names history hour) + 1
  one-more =
      let parts : length (open_names final hour) ≡ length (filter (is_open final) olds) + length (filter (is_open final) (name ∷ [])) =
      ap (λ xs. length (filter (is_open final) xs)) given
      ∙ ap length (filter-append (is_open final) olds (name ∷ []))
      ∙ length-append (filter (is_open final) olds) (filter (is_open final) (name ∷ [])) in
      let few = fewer-le (is_open final) (is_open history) olds opened in
      let own = own-most in
      omega (arith, parts, few, own)

module _ (graph : Graph) (events : List Event) (name : OrderName) (caller : ℕ) (order : BlockOrder)
    (own : IsNext graph order.first events (event.EnteredBlock name caller order)) where
  rests : RestsAsBlock graph order.first events (and_then events (event.EnteredBlock name caller order)) name caller order
  rests =
      let e : Event = event.EnteredBlock name caller order in
      let first : ℕ = order.first in
      let old = before graph first events e own in
      let new = after graph first events e own in
      let named : BlockEnters own.setup own.history name caller order = own.fits in
      let blocks_old = blocks-are graph first events old in
      let names_old = open_names-agree (first ∷ []) events own.history (agrees graph first events old) first (inl refl) in
      let names_new = open_names-agree (first ∷ []) (and_then events e) (and_then own.history e) (agrees graph first (and_then events e) new) first (inl refl) in
      record {
        named = named.named ∙ sym (next_name-agree (first ∷ []) events own.history (agrees graph first events old) first (inl refl));
        free = ap (λ b. block_of b name.number) blocks_old ∙ number-free own.setup own.history own.fit name caller order own.fits;
        book = book-is graph first (and_then events e) new ∙ books.book-elsewhere own.setup own.history own.fit first e own.fits tt ∙ sym (book-is graph first events old);
        blocks = blocks-are graph first (and_then events e) new ∙ book-entered own.setup own.history own.fit name caller order own.fits
            ∙ ap (λ n. with_block (blocks_of own.history first) (entered_resting_block name caller order n)) (moment-is graph first events old)
            ∙ ap (λ b. with_block b (entered_resting_block name caller order (length events + 1))) (sym blocks_old);
        flows = λ flows is. flows-from graph first (and_then events e) new flows
            (others own.setup graph own.history e first flows own.fit own.fits (flows-to graph first events old flows is) tt);
        few = (let more = one-more own.setup own.history own.fit name caller order own.fits in
            let before_all = ap length names_old in let after_all = ap length names_new in omega (arith, more, before_all, after_all));
        fit = (let few = few-in_book own.setup own.history own.fit first in
            let all = ap length names_old in let same = ap length blocks_old in omega (arith, few, all, same));
      }

pub enters : BlocksEnter
enters graph hour events name caller order stands =
    let e : Event = event.EnteredBlock name caller order in
    let own = next graph hour events e stands in
    let named : BlockEnters own.setup own.history name caller order = own.fits in
    let in_hour : order.first ≡ hour = ap (λ (n : OrderName). n.hour) (sym named.named) ∙ eqb-true name.hour hour own.touched in
    subst (λ h. RestsAsBlock graph h events (and_then events e) name caller order) in_hour
    (rests graph events name caller order (subst (λ h. IsNext graph h events e) (sym in_hour) own))
