-- Lists that are gone through place by place.
use Rattle.std.proofs.Common.{◌≡◌, ◌∙◌, inl, inr, ℕ, zero, suc, ◌+◌, ◌-◌, ◌<◌, ◌≤◌, Bool, true, false, find, if◌then◌else◌, List, [], ◌∷◌, ◌++◌, flat_map, get_or, map, drop, take, length, Option, Some, Result, Ok, Err, IfOk, OnErr, OnOk, refl, sym, ap, subst, arith, add-one, append_assoc, set, slice_get}
use Rattle.std.proofs.lemmas.List.{append-nil, length-append}
use Rattle.std.proofs.Math.ListN.{length-set}
use Rattle.zone_graph.specs.Route.{IsIn}
use Rattle.market_model.specs.Sweep.{first_answer, or_else}

-- what is true at any rate is true on an error
pub on-err : {T E P : Type 0} (r : Result T E) → P → OnErr r P
on-err (Ok x) p = tt
on-err (Err e) p = p

-- what two facts on a result say together
pub both-ok : {T E Q : Type 0} (P R : T → Type 0) (r : Result T E) → IfOk r P → OnOk r Q → ((x : T) → P x → Q → R x) → IfOk r R
both-ok P R (Ok x) p q both = both x p q
both-ok P R (Err e) p q both = tt

module _ {X : Type 0} where
  -- there is an item at each place
  pub get-within : (xs : List X) (i : ℕ) → i < length xs → (x : X) × (slice_get xs i ≡ Some x)
  get-within [] i within = absurd (omega arith)
  get-within (x ∷ xs) zero within = (x, refl)
  get-within (x ∷ xs) (suc i) within = get-within xs i (omega arith)

  drop-get_suc : (xs : List X) (i : ℕ) (x : X) → slice_get xs i ≡ Some x → drop i xs ≡ x ∷ drop (suc i) xs
  drop-get_suc [] i x at = cc
  drop-get_suc (y ∷ xs) zero x at = cc
  drop-get_suc (y ∷ xs) (suc i) x at = drop-get_suc xs i x at

  -- what comes from a place on begins with the item there
  pub drop-get : (xs : List X) (i : ℕ) (x : X) → slice_get xs i ≡ Some x → drop i xs ≡ x ∷ drop (i + 1) xs
  drop-get xs i x at = rw add-one (drop-get_suc xs i x at)

  pub IsIn-get : (xs : List X) (i : ℕ) (x : X) → slice_get xs i ≡ Some x → IsIn x xs
  IsIn-get [] i x at = cc
  IsIn-get (y ∷ xs) zero x at = inl (cc)
  IsIn-get (y ∷ xs) (suc i) x at = inr (IsIn-get xs i x at)

  -- a list whose items before a place are changed
  abbrev pub changed : (X → X) → (i : ℕ) → List X → List X
  changed f i xs = map f (take i xs) ++ drop i xs

  changed-get_suc : (f : X → X) (xs : List X) (i : ℕ) → slice_get (changed f i xs) i ≡ slice_get xs i
  changed-get_suc f [] zero = refl
  changed-get_suc f [] (suc i) = refl
  changed-get_suc f (x ∷ xs) zero = refl
  changed-get_suc f (x ∷ xs) (suc i) = changed-get_suc f xs i

  -- the item at the place is still the old one
  pub changed-get : (f : X → X) (xs ys : List X) (i : ℕ) (x : X) → ys ≡ changed f i xs → slice_get xs i ≡ Some x → slice_get ys i ≡ Some x
  changed-get f xs ys i x are at = ap (λ l. slice_get l i) are ∙ changed-get_suc f xs i ∙ at

  changed-set_suc : (f : X → X) (xs : List X) (i : ℕ) (x : X) → slice_get xs i ≡ Some x → set (changed f i xs) i (f x) ≡ changed f (suc i) xs
  changed-set_suc f [] i x at = cc
  changed-set_suc f (y ∷ xs) zero x at = ap (λ z. f z ∷ xs) (cc)
  changed-set_suc f (y ∷ xs) (suc i) x at = ap (λ l. f y ∷ l) (changed-set_suc f xs i x at)

  -- once it is changed too
  pub changed-next : (f : X → X) (xs ys after : List X) (i : ℕ) (x : X) → ys ≡ changed f i xs → slice_get xs i ≡ Some x → after ≡ set ys i (f x) → after ≡ changed f (i + 1) xs
  changed-next f xs ys after i x are at is = is ∙ ap (λ l. set l i (f x)) are ∙ rw add-one (changed-set_suc f xs i x at)

  length-changed_suc : (f : X → X) (xs : List X) (i : ℕ) → length (changed f i xs) ≡ length xs
  length-changed_suc f [] zero = refl
  length-changed_suc f [] (suc i) = refl
  length-changed_suc f (x ∷ xs) zero = refl
  length-changed_suc f (x ∷ xs) (suc i) = ap suc (length-changed_suc f xs i)

  pub length-changed : (f : X → X) (xs ys : List X) (i : ℕ) → ys ≡ changed f i xs → length ys ≡ length xs
  length-changed f xs ys i are = ap length are ∙ length-changed_suc f xs i

  changed-all_suc : (f : X → X) (xs : List X) (i : ℕ) → length xs ≤ i → changed f i xs ≡ map f xs
  changed-all_suc f [] zero end = refl
  changed-all_suc f [] (suc i) end = refl
  changed-all_suc f (x ∷ xs) zero end = absurd (omega arith)
  changed-all_suc f (x ∷ xs) (suc i) end = ap (λ l. f x ∷ l) (changed-all_suc f xs i (omega arith))

  -- all are changed at the end
  pub changed-all : (f : X → X) (xs ys : List X) (i : ℕ) → ys ≡ changed f i xs → length xs ≤ i → ys ≡ map f xs
  changed-all f xs ys i are end = are ∙ changed-all_suc f xs i end

  -- what is found from a place on
  pub find-here : (p : X → Bool) (xs : List X) (i : ℕ) (x : X) → slice_get xs i ≡ Some x → p x ≡ true → find p (drop i xs) ≡ Some x
  find-here p xs i x at holds = ap (find p) (drop-get xs i x at) ∙ ap (λ b. if b then Some x else find p (drop (i + 1) xs)) holds

  pub find-next : (p : X → Bool) (xs : List X) (i : ℕ) (x : X) → slice_get xs i ≡ Some x → p x ≡ false → find p (drop i xs) ≡ find p (drop (i + 1) xs)
  find-next p xs i x at fails = ap (find p) (drop-get xs i x at) ∙ ap (λ b. if b then Some x else find p (drop (i + 1) xs)) fails

  drop-end_suc : (xs : List X) (i : ℕ) → length xs ≤ i → drop i xs ≡ []
  drop-end_suc [] zero end = refl
  drop-end_suc [] (suc i) end = refl
  drop-end_suc (x ∷ xs) zero end = absurd (omega arith)
  drop-end_suc (x ∷ xs) (suc i) end = drop-end_suc xs i (omega arith)

  drop-behind : (xs : List X) (n : ℕ) (x : X) → n ≤ length xs → drop n (xs ++ x ∷ []) ≡ drop n xs ++ x ∷ []
  drop-behind xs zero x few = refl
  drop-behind [] (suc n) x few = absurd (omega arith)
  drop-behind (y ∷ xs) (suc n) x few = drop-behind xs n x (omega arith)

  -- one more behind others, those before a place left out
  pub appended-next : (start made after yielded : List X) (x : X) (place before left : ℕ) → before ≡ place - length yielded → made ≡ start ++ drop place yielded → left ≡ before - 1
      → (0 < before → after ≡ made) → (before ≡ 0 → after ≡ made ++ x ∷ [])
      → (left ≡ place - length (yielded ++ x ∷ [])) × (after ≡ start ++ drop place (yielded ++ x ∷ []))
  appended-next start made after yielded x place zero left before_is made_is left_is left_out put =
      let few : place ≤ length yielded = omega arith in
      let more = length-append yielded (x ∷ []) in (
        omega (arith, more),
        put refl ∙ ap (λ l. l ++ x ∷ []) made_is ∙ append_assoc start (drop place yielded) (x ∷ []) ∙ ap (λ l. start ++ l) (sym (drop-behind yielded place x few)),
      )
  appended-next start made after yielded x place (suc before) left before_is made_is left_is left_out put =
      let more = length-append yielded (x ∷ []) in
      let none : drop place yielded ≡ [] = drop-end_suc yielded place (omega arith) in
      let still : drop place (yielded ++ x ∷ []) ≡ [] = drop-end_suc (yielded ++ x ∷ []) place (omega (arith, more)) in
      (omega (arith, more), left_out (omega arith) ∙ made_is ∙ ap (λ l. start ++ l) (none ∙ sym still))

  -- nothing is left at the end
  pub drop-end : (xs : List X) (i : ℕ) → length xs ≤ i → drop i xs ≡ []
  drop-end = drop-end_suc

-- a list whose items behind the first and before a place are changed
abbrev pub changed-behind : {X : Type 0} → (X → X) → (i : ℕ) → List X → List X
changed-behind f i xs = take 1 xs ++ changed f i (drop 1 xs)

module _ {X : Type 0} (f : X → X) where
  behind-get : (xs : List X) (k : ℕ) → slice_get (changed-behind f k xs) (suc k) ≡ slice_get xs (suc k)
  behind-get [] zero = refl
  behind-get [] (suc k) = refl
  behind-get (x ∷ xs) k = changed-get_suc f xs k

  behind-set : (xs : List X) (k : ℕ) (x : X) → slice_get xs (suc k) ≡ Some x → set (changed-behind f k xs) (suc k) (f x) ≡ changed-behind f (suc k) xs
  behind-set [] k x at = cc
  behind-set (y ∷ xs) k x at = ap (λ l. y ∷ l) (changed-set_suc f xs k x at)

  -- the item at the place is still the old one
  pub behind-at : (old ys : List X) (i k : ℕ) → i ≡ suc k → ys ≡ changed-behind f k old → slice_get ys i ≡ slice_get old i
  behind-at old ys i k is are = ap (λ l. slice_get l i) are ∙ subst (λ (n : ℕ). slice_get (changed-behind f k old) n ≡ slice_get old n) (sym is) (behind-get old k)

  -- once it is changed too
  pub behind-next : (old ys after : List X) (i k : ℕ) (x : X) → i ≡ suc k → ys ≡ changed-behind f k old → slice_get old i ≡ Some x → after ≡ set ys i (f x)
      → after ≡ changed-behind f (i + 1 - 1) old
  behind-next old ys after i k x is are at done =
      let here = subst (λ (n : ℕ). slice_get old n ≡ Some x) is at in
      let same : suc k ≡ i + 1 - 1 = omega (arith, is) in
      done ∙ ap (λ l. set l i (f x)) are ∙ ap (λ n. set (changed-behind f k old) n (f x)) is ∙ behind-set old k x here ∙ ap (λ n. changed-behind f n old) same

  behind-length : (xs : List X) (k : ℕ) → length (changed-behind f k xs) ≡ length xs
  behind-length [] zero = refl
  behind-length [] (suc k) = refl
  behind-length (x ∷ xs) k = ap suc (length-changed_suc f xs k)

  pub behind-long : (old ys : List X) (k : ℕ) → ys ≡ changed-behind f k old → length ys ≡ length old
  behind-long old ys k are = ap length are ∙ behind-length old k

  pub behind-all : (old ys : List X) (k : ℕ) → ys ≡ changed-behind f k old → length old - 1 ≤ k → ys ≡ take 1 old ++ map f (drop 1 old)
  behind-all [] ys k are end = are ∙ changed-all_suc f [] k (omega arith)
  behind-all (x ∷ xs) ys k are end = are ∙ ap (λ l. x ∷ l) (changed-all_suc f xs k (omega arith))

module _ {X : Type 0} where
  -- an item behind the first
  pub IsIn-behind : (xs : List X) (i k : ℕ) (x : X) → i ≡ suc k → slice_get xs i ≡ Some x → IsIn x (drop 1 xs)
  IsIn-behind xs i k x is at = go xs (subst (λ (n : ℕ). slice_get xs n ≡ Some x) is at)
    where
      go : (ys : List X) → slice_get ys (suc k) ≡ Some x → IsIn x (drop 1 ys)
      go [] here = cc
      go (y ∷ ys) here = IsIn-get ys k x here

  pub drop-front : (front back : List X) (n : ℕ) → length front ≡ n → drop n (front ++ back) ≡ back
  drop-front front back n is = subst (λ (m : ℕ). drop m (front ++ back) ≡ back) is (go front)
    where
      go : (xs : List X) → drop (length xs) (xs ++ back) ≡ back
      go [] = refl
      go (x ∷ xs) = go xs

  pub take-end : (xs : List X) (n : ℕ) → length xs ≤ n → take n xs ≡ xs
  take-end [] zero end = refl
  take-end [] (suc n) end = refl
  take-end (x ∷ xs) zero end = absurd (omega arith)
  take-end (x ∷ xs) (suc n) end = ap (λ l. x ∷ l) (take-end xs n (omega arith))

module _ {X : Type 0} where
  pub IsIn-rest : (xs : List X) (x : X) → IsIn x (drop 1 xs) → IsIn x xs
  IsIn-rest [] x i = absurd i
  IsIn-rest (y ∷ xs) x i = inr i

  -- a list of which the first item is changed
  pub rest-set : (xs ys : List X) (x : X) → ys ≡ set xs 0 x → drop 1 ys ≡ drop 1 xs
  rest-set xs ys x is = ap (drop 1) is ∙ go xs
    where
      go : (zs : List X) → drop 1 (set zs 0 x) ≡ drop 1 zs
      go [] = refl
      go (z ∷ zs) = refl

  pub first-set : (f : X → X) (xs ys : List X) (x : X) → slice_get xs 0 ≡ Some x → ys ≡ set xs 0 (f x) → take 1 ys ++ map f (drop 1 ys) ≡ map f xs
  first-set f [] ys x at is = cc
  first-set f (y ∷ xs) ys x at is = let same : x ≡ y = cc in ap (λ l. take 1 l ++ map f (drop 1 l)) is ∙ ap (λ z. f z ∷ map f xs) same

  -- a list begins with its first item
  pub first-rest : (xs : List X) (x : X) → slice_get xs 0 ≡ Some x → xs ≡ x ∷ drop 1 xs
  first-rest [] x at = cc
  first-rest (y ∷ xs) x at = cc

module _ {X : Type 0} where
  take-more_suc : (xs : List X) (i : ℕ) (x : X) → slice_get xs i ≡ Some x → take (suc i) xs ≡ take i xs ++ x ∷ []
  take-more_suc [] i x at = cc
  take-more_suc (y ∷ xs) zero x at = cc
  take-more_suc (y ∷ xs) (suc i) x at = ap (λ l. y ∷ l) (take-more_suc xs i x at)

  -- what comes before the next place ends with the item at this one
  pub take-more : (xs : List X) (i : ℕ) (x : X) → slice_get xs i ≡ Some x → take (i + 1) xs ≡ take i xs ++ x ∷ []
  take-more xs i x at = rw add-one (take-more_suc xs i x at)

module _ {X Y : Type 0} (g : X → List Y) where
  -- what the items before the next place bring
  pub flat_map-take : (xs : List X) (k : ℕ) (x : X) → slice_get xs k ≡ Some x → flat_map g (take (suc k) xs) ≡ flat_map g (take k xs) ++ g x
  flat_map-take [] k x at = cc
  flat_map-take (y ∷ xs) zero x at = append-nil (g y) ∙ ap g (cc)
  flat_map-take (y ∷ xs) (suc k) x at = ap (λ l. g y ++ l) (flat_map-take xs k x at) ∙ sym (append_assoc (g y) (flat_map g (take k xs)) (g x))

  -- what one more behind the first brings
  pub flat_map-next : (old : List X) (i k : ℕ) (x : X) (start made after : List Y) → i ≡ suc k → slice_get old i ≡ Some x
      → made ≡ start ++ flat_map g (take k (drop 1 old)) → after ≡ made ++ g x → after ≡ start ++ flat_map g (take (i + 1 - 1) (drop 1 old))
  flat_map-next old i k x start made after is at made_is after_is =
      let here = behind old (subst (λ (n : ℕ). slice_get old n ≡ Some x) is at) in
      let same : suc k ≡ i + 1 - 1 = omega (arith, is) in
      after_is ∙ ap (λ l. l ++ g x) made_is ∙ append_assoc start (flat_map g (take k (drop 1 old))) (g x)
      ∙ ap (λ l. start ++ l) (sym (flat_map-take (drop 1 old) k x here) ∙ ap (λ n. flat_map g (take n (drop 1 old))) same)
    where
      behind : (ys : List X) → slice_get ys (suc k) ≡ Some x → slice_get (drop 1 ys) k ≡ Some x
      behind [] here = cc
      behind (y ∷ ys) here = here

module _ {X Y : Type 0} (ask : X → Option Y) where
  -- what is answered from a place on
  pub answer-from : (xs : List X) (i : ℕ) (x : X) (o : Option Y) → slice_get xs i ≡ Some x → ask x ≡ o
      → first_answer ask (drop i xs) ≡ or_else o (λ _. first_answer ask (drop (i + 1) xs))
  answer-from xs i x o at is = ap (first_answer ask) (drop-get xs i x at) ∙ ap (λ p. or_else p (λ _. first_answer ask (drop (i + 1) xs))) is

-- what the items before a place and the one there bring is some of what all bring
pub flat_map-upto : {X Y : Type 0} (g : X → List Y) (xs : List X) (i : ℕ) (x : X) → i < length xs → x ≡ get_or xs i x
    → length (flat_map g (take i xs)) + length (g x) ≤ length (flat_map g xs)
flat_map-upto g [] i x within is = absurd (omega arith)
flat_map-upto g (y ∷ xs) zero x within is =
    let same : length (g x) ≡ length (g y) = ap (λ z. length (g z)) is in
    omega (arith, same, length-append (g y) (flat_map g xs))
flat_map-upto g (y ∷ xs) (suc i) x within is =
    let more = flat_map-upto g xs i x (omega arith) is in
    omega (arith, more, length-append (g y) (flat_map g xs), length-append (g y) (flat_map g (take i xs)))

module _ {X : Type 0} where
  -- a list of which an item is changed is as long
  pub set-long : (xs ys : List X) (i : ℕ) (x : X) → ys ≡ set xs i x → length ys ≡ length xs
  set-long xs ys i x is = ap length is ∙ length-set xs i x

  -- and has the new item there
  pub set-first : (xs ys : List X) (x y : X) → slice_get xs 0 ≡ Some y → ys ≡ set xs 0 x → slice_get ys 0 ≡ Some x
  set-first [] ys x y at is = cc
  set-first (z ∷ xs) ys x y at is = ap (λ l. slice_get l 0) is
