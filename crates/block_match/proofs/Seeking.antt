-- The walk that seeks the partner of a block: each block so far was none, and the next one is tried.
use Rattle.std.proofs.Common.{◌≡◌, ◌∙◌, ◌<◌, ℕ, Bool, true, false, List, ◌∷◌, length, find, Option, Some, None, if◌then◌else◌, refl, sym, ap}
use Rattle.std.specs.Option.{option_map}
use Rattle.zone_graph.specs.declared.route.Arc.{Arc}
use Rattle.zone_graph.specs.declared.route.RouteLeg.{RouteLeg}
use Rattle.zone_graph.specs.Graph.{Graph, HasZone}
use Rattle.zone_graph.specs.Route.{IsIn}
use Rattle.block_book.specs.declared.block.RestingBlock.{RestingBlock}
use Rattle.block_book.specs.Book.{IsBook, after_in, block_of, first_of}
use Rattle.block_match.specs.Meeting.{HaveZones, carries_whole, legs_between, legs_if_whole}
use Rattle.block_match.specs.Walking.{crossed_line, from_block, if_crossed, opposite_line, partner_with_legs, with_legs}
use Rattle.block_match.proofs.Crossing.{crossed-after, crossed-first}
use Rattle.block_match.proofs.Partners.{crossed-differ, from_crossed, in-book, number_of, opposite-in, opposite-strict, partner-is}
use Rattle.zone_graph.proofs.Walks.{GoesOn, StandsAt, fewer, goes-on, stands-at, stands-in}

-- what is there only where a test holds
pub there-not : {X : Type 0} (b : Bool) (x : X) → (if b then Some x else None) ≡ None → b ≡ false
there-not true x e = absurd (cc)
there-not false x e = refl

pub there : {X : Type 0} (b : Bool) (x y : X) → (if b then Some x else None) ≡ Some y → (b ≡ true) × (x ≡ y)
there true x y e = (refl, cc)
there false x y e = absurd (cc)

found-here : (p : RestingBlock → Bool) (x : RestingBlock) (xs : List RestingBlock) → p x ≡ true → find p (x ∷ xs) ≡ Some x
found-here p x xs e = ap (λ b. if b then Some x else find p xs) e

found-later : (p : RestingBlock → Bool) (x : RestingBlock) (xs : List RestingBlock) → p x ≡ false → find p (x ∷ xs) ≡ find p xs
found-later p x xs e = ap (λ b. if b then Some x else find p xs) e

module _ (graph : Graph) (room : Arc → ℕ) (book : List RestingBlock) (own : RestingBlock) (sound : IsBook book) where
  -- the first block that is crossed
  pub seek-first : (found : Option RestingBlock) → found ≡ if_crossed own (first_of (opposite_line book own)) → found ≡ first_of (crossed_line book own)
  seek-first found is = is ∙ sym (crossed-first own (opposite_line book own) (opposite-strict book sound own))

  module _ (found : Option RestingBlock) (stands : found ≡ first_of (from_block (crossed_line book own) found))
      (onward : find (carries_whole graph room own) (from_block (crossed_line book own) found) ≡ find (carries_whole graph room own) (crossed_line book own)) where
    -- no block is left
    pub seek-none : found ≡ None → partner_with_legs graph room book own ≡ None
    seek-none none =
        ap (option_map (with_legs graph room own))
        (sym (partner-is graph room book own) ∙ sym onward ∙ ap (λ o. find (carries_whole graph room own) (from_block (crossed_line book own) o)) none)

    module _ (block : RestingBlock) (is : found ≡ Some block) where
      at : StandsAt number_of (crossed_line book own) block
      at = stands-at number_of (crossed_line book own) found block is stands

      pub seek-line : IsIn block (opposite_line book own)
      seek-line = from_crossed book sound own block (stands-in number_of (crossed_line book own) block at)

      pub seek-known : block_of book block.number ≡ Some block
      seek-known = in-book book sound block (opposite-in book sound own block seek-line)

      pub seek-zone : HaveZones graph book → HasZone graph block.zone
      seek-zone zones = zones block (opposite-in book sound own block seek-line)

      -- the pour carries all to it
      pub seek-found : (legs : List RouteLeg) → legs_if_whole graph room own block ≡ Some legs → partner_with_legs graph room book own ≡ Some (record { block = block; legs = legs })
      seek-found legs whole =
          let both = there (carries_whole graph room own block) (legs_between graph room own block) legs whole in
          let here : from_block (crossed_line book own) found ≡ block ∷ at.back = ap (from_block (crossed_line book own)) is ∙ at.here in
          ap (option_map (with_legs graph room own))
          (sym (partner-is graph room book own) ∙ sym onward ∙ ap (find (carries_whole graph room own)) here ∙ found-here (carries_whole graph room own) block at.back both.0)
          ∙ ap (λ (l : List RouteLeg). Some (record { block = block; legs = l })) both.1

      -- it does not, and the walk goes on
      module _ (next : Option RestingBlock) (after : next ≡ if_crossed own (after_in block.number (opposite_line book own))) where
        goes : GoesOn number_of (crossed_line book own) found next block
        goes = goes-on number_of (crossed_line book own) found next block (crossed-differ book sound own) is stands
            (after ∙ sym (crossed-after own block.number (opposite_line book own) (opposite-strict book sound own)))

        pub seek-fewer : length (from_block (crossed_line book own) next) < length (from_block (crossed_line book own) found)
        seek-fewer = fewer number_of (crossed_line book own) found next block goes

        pub seek-stands : next ≡ first_of (from_block (crossed_line book own) next)
        seek-stands = goes.stands

        pub seek-onward : legs_if_whole graph room own block ≡ None
            → find (carries_whole graph room own) (from_block (crossed_line book own) next) ≡ find (carries_whole graph room own) (crossed_line book own)
        seek-onward part =
            ap (find (carries_whole graph room own)) goes.onward
            ∙ sym (found-later (carries_whole graph room own) block goes.back (there-not (carries_whole graph room own block) (legs_between graph room own block) part))
            ∙ ap (find (carries_whole graph room own)) (sym goes.was) ∙ onward
