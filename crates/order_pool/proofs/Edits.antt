-- A place leaves a chain or joins one, and what the writes of its neighbours' links leave as it was.
use Rattle.std.proofs.Common.{◌≡◌, ◌≢◌, ℕ, ◌<◌, List, [], ◌∷◌, ◌++◌, length, get_or, set, sym, ap, ◌∙◌, arith}
use Rattle.std.proofs.lemmas.List.{get_or-set_same, get_or-set_other, length-set}
use Rattle.order_pool.specs.Links.{IsChain}
use Rattle.order_pool.proofs.Chains.{Misses}

-- the place `at` is linked between `before` and `after`
pub record IsLinkedBetween (next previous : List ℕ) (before at after : ℕ) : Type 0 where
  pub forth_in : get_or next before 0 ≡ at
  pub forth_out : get_or next at 0 ≡ after
  pub back_out : get_or previous at 0 ≡ before
  pub back_in : get_or previous after 0 ≡ at
  pub before_within : before < length next
  pub after_within : after < length previous

module _ (next previous : List ℕ) (before at after : ℕ) (linked : IsLinkedBetween next previous before at after) where
  next' : List ℕ
  next' = set next before after

  previous' : List ℕ
  previous' = set previous after before

  -- a link that the place is no end of stays
  unlink_keeps_link : (x z : ℕ) → x ≢ at → z ≢ at → get_or next x 0 ≡ z → get_or previous z 0 ≡ x → (get_or next' x 0 ≡ z) × (get_or previous' z 0 ≡ x)
  unfolding next' previous'
  unlink_keeps_link x z x_apart z_apart forth back =
      let x_no : x ≢ before = λ e. z_apart (sym forth ∙ ap (λ i. get_or next i 0) e ∙ linked.forth_in) in
      let z_no : z ≢ after = λ e. x_apart (sym back ∙ ap (λ i. get_or previous i 0) e ∙ linked.back_in) in
      (get_or-set_other next before x after 0 x_no ∙ forth, get_or-set_other previous after z before 0 z_no ∙ back)

  -- the link that takes the place's stead
  unlink_joins : (get_or next' before 0 ≡ after) × (get_or previous' after 0 ≡ before)
  unfolding next' previous'
  unlink_joins = (get_or-set_same next before after 0 linked.before_within, get_or-set_same previous after before 0 linked.after_within)

  keeps_aside : (from to : ℕ) (xs : List ℕ) → from ≢ at → to ≢ at → Misses at xs → IsChain next previous from xs to → IsChain next' previous' from xs to
  keeps_aside from to [] from_no to_no misses c = unlink_keeps_link from to from_no to_no c.0 c.1
  keeps_aside from to (x ∷ xs) from_no to_no misses c =
      let link = unlink_keeps_link from x from_no misses.0 c.1 c.2 in
      (c.0, link.0, link.1, keeps_aside x to xs misses.0 to_no misses.1 c.3)

  joins_within : (from to : ℕ) (front back : List ℕ) → from ≢ at → to ≢ at → Misses at front → Misses at back → IsChain next previous from front at → IsChain next previous at back to → IsChain next' previous' from (front ++ back) to
  joins_within from to [] [] from_no to_no misses_front misses_back c d =
      let start : from ≡ before = sym c.1 ∙ linked.back_out in
      let end : to ≡ after = sym d.0 ∙ linked.forth_out in
      (ap (λ i. get_or next' i 0) start ∙ unlink_joins.0 ∙ sym end, ap (λ i. get_or previous' i 0) end ∙ unlink_joins.1 ∙ sym start)
  joins_within from to [] (y ∷ ys) from_no to_no misses_front misses_back c d =
      let start : from ≡ before = sym c.1 ∙ linked.back_out in
      let end : y ≡ after = sym d.1 ∙ linked.forth_out in (
        d.0,
        ap (λ i. get_or next' i 0) start ∙ unlink_joins.0 ∙ sym end,
        ap (λ i. get_or previous' i 0) end ∙ unlink_joins.1 ∙ sym start,
        keeps_aside y to ys misses_back.0 to_no misses_back.1 d.3,
      )
  joins_within from to (x ∷ front) back from_no to_no misses_front misses_back c d =
      let link = unlink_keeps_link from x from_no misses_front.0 c.1 c.2 in
      (c.0, link.0, link.1, joins_within x to front back misses_front.0 to_no misses_front.1 misses_back c.3 d)

  -- a chain that the place is not on stays a chain once the place is unlinked
  pub unlinked_aside : (from to : ℕ) (xs : List ℕ) → from ≢ at → to ≢ at → Misses at xs → IsChain next previous from xs to → IsChain (set next before after) (set previous after before) from xs to
  unfolding next' previous'
  unlinked_aside = keeps_aside

  -- the chain that the place was on is a chain without it
  pub unlinked_within : (from to : ℕ) (front back : List ℕ) → from ≢ at → to ≢ at → Misses at front → Misses at back → IsChain next previous from front at → IsChain next previous at back to → IsChain (set next before after) (set previous after before) from (front ++ back) to
  unfolding next' previous'
  unlinked_within = joins_within

-- the place `at` is to be linked between `before` and `after`, which are neighbours
pub record IsGap (next previous : List ℕ) (before at after : ℕ) : Type 0 where
  pub forth : get_or next before 0 ≡ after
  pub back : get_or previous after 0 ≡ before
  pub before_within : before < length next
  pub after_within : after < length previous
  pub next_within : at < length next
  pub previous_within : at < length previous
  pub not_before : before ≢ at
  pub not_after : after ≢ at

module _ (next previous : List ℕ) (before at after : ℕ) (gap : IsGap next previous before at after) where
  next'' : List ℕ
  next'' = set (set next before at) at after

  previous'' : List ℕ
  previous'' = set (set previous after at) at before

  -- a link that does not lead to `after` stays
  link_keeps_link : (x z : ℕ) → x ≢ at → z ≢ at → z ≢ after → get_or next x 0 ≡ z → get_or previous z 0 ≡ x → (get_or next'' x 0 ≡ z) × (get_or previous'' z 0 ≡ x)
  unfolding next'' previous''
  link_keeps_link x z x_apart z_apart z_no forth back =
      let x_no : x ≢ before = λ e. z_no (sym forth ∙ ap (λ i. get_or next i 0) e ∙ gap.forth) in (
        get_or-set_other (set next before at) at x after 0 x_apart ∙ get_or-set_other next before x at 0 x_no ∙ forth,
        get_or-set_other (set previous after at) at z before 0 z_apart ∙ get_or-set_other previous after z at 0 z_no ∙ back,
      )

  -- the two new links
  link_joins : (get_or next'' before 0 ≡ at) × (get_or previous'' at 0 ≡ before) × (get_or next'' at 0 ≡ after) × (get_or previous'' after 0 ≡ at)
  unfolding next'' previous''
  link_joins = (
    get_or-set_other (set next before at) at before after 0 gap.not_before ∙ get_or-set_same next before at 0 gap.before_within,
    get_or-set_same (set previous after at) at before 0 (omega (arith, length-set previous after at, gap.previous_within)),
    get_or-set_same (set next before at) at after 0 (omega (arith, length-set next before at, gap.next_within)),
    get_or-set_other (set previous after at) at after before 0 gap.not_after ∙ get_or-set_same previous after at 0 gap.after_within,
  )

  link_aside : (from to : ℕ) (xs : List ℕ) → from ≢ at → to ≢ at → to ≢ after → Misses at xs → Misses after xs → IsChain next previous from xs to → IsChain next'' previous'' from xs to
  link_aside from to [] from_no to_no to_apart misses apart c = link_keeps_link from to from_no to_no to_apart c.0 c.1
  link_aside from to (x ∷ xs) from_no to_no to_apart misses apart c =
      let link = link_keeps_link from x from_no misses.0 apart.0 c.1 c.2 in
      (c.0, link.0, link.1, link_aside x to xs misses.0 to_no to_apart misses.1 apart.1 c.3)

  link_at_end : (from : ℕ) (xs : List ℕ) → at < 4096 → from ≢ at → Misses at xs → Misses after xs → IsChain next previous from xs after → IsChain next'' previous'' from (xs ++ at ∷ []) after
  link_at_end from [] low from_no misses apart c =
      let start : from ≡ before = sym c.1 ∙ gap.back in
      (low, ap (λ i. get_or next'' i 0) start ∙ link_joins.0, link_joins.1 ∙ sym start, (link_joins.2, link_joins.3))
  link_at_end from (x ∷ xs) low from_no misses apart c =
      let link = link_keeps_link from x from_no misses.0 apart.0 c.1 c.2 in
      (c.0, link.0, link.1, link_at_end x xs low misses.0 misses.1 apart.1 c.3)

  -- a chain that does not lead to `after` stays a chain once the place is linked
  pub linked_aside : (from to : ℕ) (xs : List ℕ) → from ≢ at → to ≢ at → to ≢ after → Misses at xs → Misses after xs → IsChain next previous from xs to → IsChain (set (set next before at) at after) (set (set previous after at) at before) from xs to
  unfolding next'' previous''
  linked_aside = link_aside

  -- a chain to `after` is one with the place at its end
  pub linked_at_end : (from : ℕ) (xs : List ℕ) → at < 4096 → from ≢ at → Misses at xs → Misses after xs → IsChain next previous from xs after → IsChain (set (set next before at) at after) (set (set previous after at) at before) from (xs ++ at ∷ []) after
  unfolding next'' previous''
  linked_at_end = link_at_end
