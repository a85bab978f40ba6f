-- Rows that rest on a line and rooms, where a draft of them is certified.
use Rattle.std.proofs.Common.{◌≡◌, ◌≢◌, ◌∙◌, ◌⊎◌, ◌+◌, ◌<◌, ℕ, Bool, true, false, IsTrue, List, [], inl, inr, get_or, get_or-set_other, get_or-set_same, length, set, refl, sym, ap, subst, arith}
use Rattle.std.proofs.lemmas.Bool.{true≢false}
use Rattle.std.proofs.lemmas.Bool.Decides.{eqb_tells}
use Rattle.std.proofs.lemmas.List.{length-set}
use Rattle.cut_proof.specs.ZoneSet.{holds}
use Rattle.order_kinds.specs.declared.side.Side.{Side}
use Rattle.zone_graph.specs.Graph.{Graph, HasZone, IsGraph, border_count, zone_count}
use Rattle.zone_graph.specs.Rooms.{room_of}
use Rattle.market_model.specs.declared.reply.ViewRow.{ViewRow}
use Rattle.market_model.specs.Board.{BoardState, resting_line}
use Rattle.local_view.specs.declared.footing.Certificate.{Certificate}
use Rattle.local_view.specs.declared.work.Work.{Work}
use Rattle.local_view.specs.Certified.{IsCertified}
use Rattle.local_view.specs.Drafts.{IsFlow}
use Rattle.local_view.specs.Footing.{AreTold, Certifies, RestOnWork, certificate_at, no_certificate}
use Rattle.local_view.specs.Moved.{cut_in, flow_in}
use Rattle.local_view.specs.Works.{IsLineWork}
use Rattle.local_view.specs.Boards.{view_of}
use Rattle.local_view.proofs.Certificates.{certified_view}
use Rattle.local_view.proofs.Hours.{hour-graph}
use Rattle.local_view.proofs.Wholes.{zones-resting}

module _ (graph : Graph) (board : BoardState) (part : ℕ) (side : Side) (same_grid : graph ≡ board.grid) (zone : ℕ) (known : HasZone graph zone) (work : Work) (of_line : IsLineWork board part side work)
    (certificate : Certificate) (rows : List ViewRow) where
  -- rows of a board's line that a certificate tells rest on it
  pub rest-told : AreTold certificate.is_whole graph work.of_part side zone (resting_line board part side) certificate rows → RestOnWork graph work side zone certificate rows
  rest-told told = record {
    graph = graph;
    is_graph = subst IsGraph (sym same_grid) (hour-graph board.grid board.hour board.events of_line.read.is_board.stands);
    zones_are = refl;
    borders_are = refl;
    has_zone = known;
    line = resting_line board part side;
    orders_are = of_line.read.orders;
    in_zones = λ order i. subst (λ (g : Graph). HasZone g order.order.zone) (sym same_grid) (zones-resting board of_line.hand part side work.whole of_line.read order i);
    told = told;
  }

  -- and are its view, where a flow and cuts do
  pub view-told : Certifies graph work.of_part side zone (resting_line board part side) certificate rows → work.whole.fits ≡ true → rows ≡ view_of board part side zone
  view-told told fits =
      told.rows_are
      ∙ certified_view board of_line.hand of_line.read.is_board part side zone (subst (λ (g : Graph). HasZone g zone) same_grid known) work.of_part of_line.rooms (flow_in certificate.flow) told.taken
      (cut_in certificate.cuts)
      (subst (λ (g : Graph). IsCertified g (room_of work.of_part) side zone (resting_line board part side) (flow_in certificate.flow) told.taken (cut_in certificate.cuts)) same_grid told.certified)
      (of_line.read.few fits)

-- ---- one zone after the other

-- so many first zones are gone along: of a set of them lists were made
pub record AreMade (graph : Graph) (work : Work) (side : Side) (made count : ℕ) (first certificates : List Certificate) (lists : List (List ViewRow)) (resting : ℕ) : Type 0 where
  pub size : length certificates ≡ zone_count graph
  pub flows : (zone : ℕ) → HasZone graph zone → IsFlow (border_count graph) (certificate_at certificates zone).flow
  pub others : (zone : ℕ) → holds made zone ≡ false → certificate_at certificates zone ≡ certificate_at first zone
  pub within : (zone : ℕ) → holds resting zone ≡ true → (zone < count) × (holds made zone ≡ true)
  pub rest : (zone : ℕ) → holds resting zone ≡ true → RestOnWork graph work side zone (certificate_at certificates zone) (get_or lists zone [])

module _ (graph : Graph) (work : Work) (side : Side) (made count : ℕ) (first certificates : List Certificate) (lists : List (List ViewRow)) (resting : ℕ)
    (are : AreMade graph work side made count first certificates lists resting) where
  -- one more, of which the list is made
  pub one_made : (row : List ViewRow) (new : Certificate) (is : Bool) (more : ℕ) → count < length lists → HasZone graph count → holds made count ≡ true → IsFlow (border_count graph) new.flow
      → (IsTrue is → RestOnWork graph work side count new row) → ((other : ℕ) → holds more other ≡ true → (holds resting other ≡ true) ⊎ ((other ≡ count) × (is ≡ true)))
      → AreMade graph work side made (count + 1) first (set certificates count new) (set lists count row) more
  one_made row new is more within known is_made flow rest either = record {
    size = length-set certificates count new ∙ are.size;
    flows = λ zone has. elim (eqb_tells zone count) [
      | inl same ↦
          subst (λ (c : Certificate). IsFlow (border_count graph) c.flow)
          (sym (ap (certificate_at (set certificates count new)) same.1 ∙ get_or-set_same certificates count new no_certificate (omega (arith, known, are.size)))) flow
      | inr apart ↦ subst (λ (c : Certificate). IsFlow (border_count graph) c.flow) (sym (get_or-set_other certificates count zone new no_certificate apart.1)) (are.flows zone has)
    ];
    others = λ zone none. elim (eqb_tells zone count) [
      | inl same ↦ absurd (true≢false (sym is_made ∙ ap (holds made) (sym same.1) ∙ none))
      | inr apart ↦ get_or-set_other certificates count zone new no_certificate apart.1 ∙ are.others zone none
    ];
    within = λ zone held. elim (either zone held) [
      | inl before ↦ (let less = (are.within zone before).0 in omega (arith, less), (are.within zone before).1)
      | inr here ↦ (omega (arith, here.0), ap (holds made) here.0 ∙ is_made)
    ];
    rest = λ zone held. elim (either zone held) [
      | inl before ↦
          let apart : zone ≢ count = λ e. let less = (are.within zone before).0 in absurd (omega (arith, less, e)) in
          subst (λ (c : Certificate). RestOnWork graph work side zone c (get_or (set lists count row) zone [])) (sym (get_or-set_other certificates count zone new no_certificate apart))
          (subst (RestOnWork graph work side zone (certificate_at certificates zone)) (sym (get_or-set_other lists count zone row [] apart)) (are.rest zone before))
      | inr here ↦
          subst (λ z. RestOnWork graph work side z (certificate_at (set certificates count new) z) (get_or (set lists count row) z [])) (sym here.0)
          (subst (λ (c : Certificate). RestOnWork graph work side count c (get_or (set lists count row) count [])) (sym (get_or-set_same certificates count new no_certificate (omega (arith, known, are.size))))
          (subst (RestOnWork graph work side count new) (sym (get_or-set_same lists count row [] within)) (rest here.1)))
    ];
  }

  -- one more, of which it is not
  pub none_made : (row : List ViewRow) → AreMade graph work side made (count + 1) first certificates (set lists count row) resting
  none_made row = record {
    size = are.size;
    flows = are.flows;
    others = are.others;
    within = λ zone held. (let less = (are.within zone held).0 in omega (arith, less), (are.within zone held).1);
    rest = λ zone held.
        let apart : zone ≢ count = λ e. let less = (are.within zone held).0 in absurd (omega (arith, less, e)) in
        subst (RestOnWork graph work side zone (certificate_at certificates zone)) (sym (get_or-set_other lists count zone row [] apart)) (are.rest zone held);
  }
