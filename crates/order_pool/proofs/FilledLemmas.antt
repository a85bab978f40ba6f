-- Places of which the first ones hold what a list of items is mapped to.
use Rattle.std.proofs.Common.{◌≡◌, ℕ, zero, suc, ◌+◌, ◌-◌, ◌<◌, ◌≤◌, List, [], ◌∷◌, ◌++◌, length, map, get_or, set, replicate, Option, Some, None, refl, sym, ap, ◌∙◌, arith, append_assoc, length-append}
use Rattle.std.proofs.Math.Seq.{set-append_seam}
use Rattle.std.proofs.lemmas.List.{length-set, length-replicate, length-map, get_or-map, map-set, map-append, set-append_left, get_or_append_left, get_or-append_right, ext_get_or}
use Rattle.order_pool.specs.Cells.{filled, somes, AreLaid}

module _ {Y : Type 0} where
  abbrev nothing : Option Y
  nothing = None

  pub no_item : (count place : ℕ) → get_or (replicate count nothing) place None ≡ None
  no_item zero place = refl
  no_item (suc count) zero = refl
  no_item (suc count) (suc place) = no_item count place

module _ {X Y : Type 0} (f : X → Option Y) (items : List X) (count : ℕ) where
  rest : List (Option Y)
  rest = replicate (count - length items) None

  pub length-filled : length items ≤ count → length (filled f items count) ≡ count
  unfolding filled rest
  length-filled within = omega (arith, length-append (map f items) rest, length-map items f, length-replicate (count - length items) (nothing {Y = Y}))

  -- a place that holds an item, and one that does not
  pub filled_at : (k : ℕ) → k < length items → get_or (filled f items count) k None ≡ get_or (map f items) k None
  unfolding filled rest
  filled_at k low = get_or_append_left (map f items) rest None k (omega (arith, low, length-map items f))

  pub filled_past : (k : ℕ) → length items ≤ k → get_or (filled f items count) k None ≡ None
  unfolding filled rest
  filled_past k high = get_or-append_right (map f items) rest (length items) k None (length-map items f) high ∙ no_item (count - length items) (k - length items)

  -- another item
  pub filled-set : (k : ℕ) (item : X) → k < length items → filled f (set items k item) count ≡ set (filled f items count) k (f item)
  unfolding filled rest
  filled-set k item low =
      ap (λ n. map f (set items k item) ++ replicate (count - n) None) (length-set items k item)
      ∙ ap (λ l. l ++ rest) (map-set f items k item)
      ∙ sym (set-append_left (map f items) rest k (f item) (omega (arith, low, length-map items f)))

  -- one more item
  pub filled-push : (item : X) → length items < count → filled f (items ++ item ∷ []) count ≡ set (filled f items count) (length items) (f item)
  unfolding filled rest
  filled-push item more =
      let n = length items in
      let fewer : List (Option Y) = replicate (count - (n + 1)) None in
      let longer : length (items ++ item ∷ []) ≡ n + 1 = length-append items (item ∷ []) in
      let left : count - n ≡ suc (count - (n + 1)) = omega arith in
      ap (λ m. map f (items ++ item ∷ []) ++ replicate (count - m) None) longer
      ∙ ap (λ l. l ++ fewer) (map-append f items (item ∷ []))
      ∙ append_assoc (map f items) (f item ∷ []) fewer
      ∙ sym (set-append_seam (map f items) None fewer (f item))
      ∙ ap (λ m. set (map f items ++ None ∷ fewer) m (f item)) (length-map items f)
      ∙ ap (λ m. set (map f items ++ replicate m None) n (f item)) (sym left)

module _ {X : Type 0} where
  no_somes : (count : ℕ) → somes (replicate count (nothing {Y = X})) ≡ []
  no_somes zero = refl
  no_somes (suc count) = no_somes count

  somes_of : (items : List X) (count : ℕ) → somes (map Some items ++ replicate count None) ≡ items
  somes_of [] count = no_somes count
  somes_of (item ∷ items) count = ap (λ l. item ∷ l) (somes_of items count)

  pub somes-filled : (items : List X) (count : ℕ) → somes (filled Some items count) ≡ items
  unfolding filled
  somes-filled items count = somes_of items (count - length items)

  -- places that hold these items in order
  pub AreLaid-of : (slots : List (Option X)) (items : List X) (len room : ℕ) → slots ≡ filled Some items room → len ≡ length items → len ≤ room → AreLaid slots len room × (somes slots ≡ items)
  AreLaid-of slots items len room laid len_is within =
      let same : somes slots ≡ items = ap somes laid ∙ somes-filled items room in
      (record { laid = laid ∙ ap (λ l. filled Some l room) (sym same); len_is = len_is ∙ ap length (sym same); within = within }, same)

  module _ (slots : List (Option X)) (len room : ℕ) (is : AreLaid slots len room) where
    pub length-laid : length slots ≡ room
    length-laid = ap length is.laid ∙ length-filled Some (somes slots) room (omega (arith, is.within, is.len_is))

    pub laid_at : (k : ℕ) (d : X) → k < len → get_or slots k None ≡ Some (get_or (somes slots) k d)
    laid_at k d low =
        let inside : k < length (somes slots) = omega (arith, low, is.len_is) in
        ap (λ l. get_or l k None) is.laid ∙ filled_at Some (somes slots) room k inside ∙ get_or-map Some (somes slots) k d None inside

    -- an item that a place holds is the one of its index
    pub laid_is : (k : ℕ) (item : X) → k < len → get_or slots k None ≡ Some item → item ≡ get_or (somes slots) k item
    laid_is k item low holds =
        let same : Some item ≡ Some (get_or (somes slots) k item) = sym holds ∙ laid_at k item low in
        cc

    pub laid_past : (k : ℕ) → len ≤ k → get_or slots k None ≡ None
    laid_past k high = ap (λ l. get_or l k None) is.laid ∙ filled_past Some (somes slots) room k (omega (arith, high, is.len_is))

    pub laid_filled : (k : ℕ) → k < len → (item : X) × (get_or slots k None ≡ Some item)
    laid_filled k low = held (somes slots) k (omega (arith, low, is.len_is)) (λ d. laid_at k d low)
      where
        held : (items : List X) (k : ℕ) → k < length items → ((d : X) → get_or slots k None ≡ Some (get_or items k d)) → (item : X) × (get_or slots k None ≡ Some item)
        held [] k inside at = absurd (omega (arith, inside))
        held (item ∷ items) k inside at = (get_or (item ∷ items) k item, at item)

    -- another item at a place that holds one
    pub laid-set : (k : ℕ) (item : X) → k < len → AreLaid (set slots k (Some item)) len room × (somes (set slots k (Some item)) ≡ set (somes slots) k item)
    laid-set k item low =
        let inside : k < length (somes slots) = omega (arith, low, is.len_is) in
        AreLaid-of (set slots k (Some item)) (set (somes slots) k item) len room (ap (λ l. set l k (Some item)) is.laid ∙ sym (filled-set Some (somes slots) room k item inside)) (is.len_is ∙ sym (length-set (somes slots) k item)) is.within

    -- an item at the first empty place
    pub laid-push : (item : X) → len < room → AreLaid (set slots len (Some item)) (len + 1) room × (somes (set slots len (Some item)) ≡ somes slots ++ item ∷ [])
    laid-push item more =
        let fits : length (somes slots) < room = omega (arith, more, is.len_is) in
        AreLaid-of (set slots len (Some item)) (somes slots ++ item ∷ []) (len + 1) room
        (ap (λ l. set l len (Some item)) is.laid ∙ ap (λ n. set (filled Some (somes slots) room) n (Some item)) is.len_is ∙ sym (filled-push Some (somes slots) room item fits))
        (omega (arith, is.len_is, length-append (somes slots) (item ∷ []))) (omega (arith, more))

  -- a fresh block
  pub laid-none : (slots : List (Option X)) (room : ℕ) → slots ≡ replicate room None → AreLaid slots 0 room × (somes slots ≡ [])
  unfolding filled
  laid-none slots room empty =
      let all : room ≡ room - 0 = omega arith in
      AreLaid-of slots [] 0 room (empty ∙ ap (λ n. replicate n None) all) refl (omega arith)

  -- places that are all empty
  pub all_empty : (slots : List (Option X)) (room : ℕ) → length slots ≡ room → ((k : ℕ) → get_or slots k None ≡ None) → slots ≡ replicate room None
  all_empty slots room long none =
      ext_get_or None slots (replicate room None) (long ∙ sym (length-replicate room (nothing {Y = X}))) (λ k low. none k ∙ sym (no_item room k))
