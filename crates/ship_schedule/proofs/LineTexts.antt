-- Lines that are put behind one another.
use Rattle.std.proofs.Common.{◌≡◌, ◌∙◌, ◌+◌, ◌==◌, ℕ, zero, suc, Bool, true, false, ℤ, pos, negsuc, ◌-ℤ◌, List, [], ◌∷◌, ◌++◌, map, refl, sym, ap, eq-eqb, arith, if◌then◌else◌}
use Rattle.std.specs.Prelude.{codes}
use Rattle.std.specs.List.{flat_map, range_with_len}
use Rattle.std.proofs.lemmas.Bool.{ne_eqb, true≢false}
use Rattle.std.proofs.lemmas.Int.{ints}
use Rattle.std.proofs.lemmas.List.{append-nil, append_assoc}
use Rattle.std.proofs.lemmas.List.Concat.{flat_map-append}
use Rattle.std.proofs.lemmas.List.Folds.{flat_map-map}
use Rattle.std.proofs.lemmas.List.FromFn.{map-range_with_len_more}
use Rattle.ship_schedule.specs.declared.balance.Balance.{Balance}
use Rattle.ship_schedule.specs.Rows.{net}
use Rattle.ship_schedule.specs.ScheduleText.{is_none, line}

-- the text of one more number
lines_more : (f : ℕ → List ℕ) (n : ℕ) → flat_map f (range_with_len 0 (n + 1)) ≡ flat_map f (range_with_len 0 n) ++ f n
lines_more f n =
    sym (flat_map-map f (λ k. k) (range_with_len 0 (n + 1)))
    ∙ ap (flat_map f) (map-range_with_len_more (λ k. k) 0 n n (omega arith))
    ∙ flat_map-append f (map (λ k. k) (range_with_len 0 n)) (n ∷ [])
    ∙ ap (λ lines. lines ++ (f n ++ [])) (flat_map-map f (λ k. k) (range_with_len 0 n))
    ∙ ap (λ last. flat_map f (range_with_len 0 n) ++ last) (append-nil (f n))

-- it goes behind the text so far
pub text_more : (f : ℕ → List ℕ) (n : ℕ) (start before after : List ℕ) → before ≡ start ++ flat_map f (range_with_len 0 n)
    → after ≡ before ++ f n → after ≡ start ++ flat_map f (range_with_len 0 (n + 1))
text_more f n start before after so_far more =
    more ∙ ap (λ text. text ++ f n) so_far ∙ append_assoc start (flat_map f (range_with_len 0 n)) (f n)
    ∙ ap (λ text. start ++ text) (sym (lines_more f n))

-- ---- one line

-- what is put behind a text
behind : (page text more old new : List ℕ) → old ≡ page ++ text → new ≡ old ++ more → new ≡ page ++ (text ++ more)
behind page text more old new so_far put = put ∙ ap (λ t. t ++ more) so_far ∙ append_assoc page text more

border_words : (quarter from to traded granted : List ℕ)
    → (((((quarter ++ (32 ∷ [])) ++ from) ++ (62 ∷ [])) ++ to) ++ (32 ∷ (traded ++ (32 ∷ (granted ++ (10 ∷ []))))))
    ≡ (quarter ++ (32 ∷ ((from ++ (62 ∷ to)) ++ (32 ∷ (traded ++ (32 ∷ granted)))))) ++ (10 ∷ [])
border_words quarter from to traded granted =
    let rest : List ℕ = 32 ∷ (traded ++ (32 ∷ (granted ++ (10 ∷ [])))) in
    let left : (((((quarter ++ (32 ∷ [])) ++ from) ++ (62 ∷ [])) ++ to) ++ rest) ≡ quarter ++ (32 ∷ (from ++ (62 ∷ (to ++ rest)))) =
    append_assoc (((quarter ++ (32 ∷ [])) ++ from) ++ (62 ∷ [])) to rest
    ∙ append_assoc ((quarter ++ (32 ∷ [])) ++ from) (62 ∷ []) (to ++ rest)
    ∙ append_assoc (quarter ++ (32 ∷ [])) from (62 ∷ (to ++ rest))
    ∙ append_assoc quarter (32 ∷ []) (from ++ (62 ∷ (to ++ rest))) in
    let right : (quarter ++ (32 ∷ ((from ++ (62 ∷ to)) ++ (32 ∷ (traded ++ (32 ∷ granted)))))) ++ (10 ∷ []) ≡ quarter ++ (32 ∷ (from ++ (62 ∷ (to ++ rest)))) =
    append_assoc quarter (32 ∷ ((from ++ (62 ∷ to)) ++ (32 ∷ (traded ++ (32 ∷ granted))))) (10 ∷ [])
    ∙ ap (λ l. quarter ++ (32 ∷ l)) (append_assoc (from ++ (62 ∷ to)) (32 ∷ (traded ++ (32 ∷ granted))) (10 ∷ []))
    ∙ ap (λ l. quarter ++ (32 ∷ ((from ++ (62 ∷ to)) ++ (32 ∷ l)))) (append_assoc traded (32 ∷ granted) (10 ∷ []))
    ∙ ap (λ l. quarter ++ (32 ∷ l)) (append_assoc from (62 ∷ to) rest) in
    left ∙ sym right

zone_words : (quarter zone sold bought net : List ℕ)
    → (((quarter ++ (32 ∷ [])) ++ zone) ++ (32 ∷ (sold ++ (32 ∷ (bought ++ (32 ∷ (net ++ (10 ∷ []))))))))
    ≡ (quarter ++ (32 ∷ (zone ++ (32 ∷ (sold ++ (32 ∷ (bought ++ (32 ∷ net)))))))) ++ (10 ∷ [])
zone_words quarter zone sold bought net =
    let rest : List ℕ = 32 ∷ (sold ++ (32 ∷ (bought ++ (32 ∷ (net ++ (10 ∷ [])))))) in
    let left : (((quarter ++ (32 ∷ [])) ++ zone) ++ rest) ≡ quarter ++ (32 ∷ (zone ++ rest)) =
    append_assoc (quarter ++ (32 ∷ [])) zone rest ∙ append_assoc quarter (32 ∷ []) (zone ++ rest) in
    let right : (quarter ++ (32 ∷ (zone ++ (32 ∷ (sold ++ (32 ∷ (bought ++ (32 ∷ net)))))))) ++ (10 ∷ []) ≡ quarter ++ (32 ∷ (zone ++ rest)) =
    append_assoc quarter (32 ∷ (zone ++ (32 ∷ (sold ++ (32 ∷ (bought ++ (32 ∷ net))))))) (10 ∷ [])
    ∙ ap (λ l. quarter ++ (32 ∷ l)) (append_assoc zone (32 ∷ (sold ++ (32 ∷ (bought ++ (32 ∷ net))))) (10 ∷ []))
    ∙ ap (λ l. quarter ++ (32 ∷ (zone ++ (32 ∷ l)))) (append_assoc sold (32 ∷ (bought ++ (32 ∷ net))) (10 ∷ []))
    ∙ ap (λ l. quarter ++ (32 ∷ (zone ++ (32 ∷ (sold ++ (32 ∷ l)))))) (append_assoc bought (32 ∷ net) (10 ∷ [])) in
    left ∙ sym right

-- the words of a border's line, as they are put behind one another
pub border_put : (quarter from to traded granted page a b c d e : List ℕ)
    → a ≡ page ++ (codes "exchange" ++ (codes " " ++ (quarter ++ codes " "))) → b ≡ a ++ from → c ≡ b ++ codes ">" → d ≡ c ++ to
    → e ≡ d ++ (codes " " ++ (traded ++ (codes " " ++ (granted ++ codes "\n"))))
    → e ≡ page ++ line (codes "exchange" ∷ quarter ∷ (from ++ (codes ">" ++ to)) ∷ traded ∷ granted ∷ [])
border_put quarter from to traded granted page a b c d e first second third fourth fifth =
    let start : List ℕ = codes "exchange" ++ (codes " " ++ (quarter ++ codes " ")) in
    behind page (((start ++ from) ++ codes ">") ++ to) (codes " " ++ (traded ++ (codes " " ++ (granted ++ codes "\n")))) d e
    (behind page ((start ++ from) ++ codes ">") to c d
    (behind page (start ++ from) (codes ">") b c (behind page start from a b first second) third) fourth) fifth
    ∙ ap (λ words. page ++ (codes "exchange " ++ words)) (border_words quarter from to traded granted)

-- those of a zone's
pub zone_put : (quarter zone sold bought net page a b c : List ℕ)
    → a ≡ page ++ (codes "position" ++ (codes " " ++ (quarter ++ codes " "))) → b ≡ a ++ zone
    → c ≡ b ++ (codes " " ++ (sold ++ (codes " " ++ (bought ++ (codes " " ++ (net ++ codes "\n"))))))
    → c ≡ page ++ line (codes "position" ∷ quarter ∷ zone ∷ sold ∷ bought ∷ net ∷ [])
zone_put quarter zone sold bought net page a b c first second third =
    let start : List ℕ = codes "position" ++ (codes " " ++ (quarter ++ codes " ")) in
    behind page (start ++ zone) (codes " " ++ (sold ++ (codes " " ++ (bought ++ (codes " " ++ (net ++ codes "\n")))))) b c
    (behind page start zone a b first second) third
    ∙ ap (λ words. page ++ (codes "position " ++ words)) (zone_words quarter zone sold bought net)

-- a line that is shown
pub shown : (none : Bool) (page text new : List ℕ) → none ≡ false → new ≡ page ++ text → new ≡ page ++ (if none then [] else text)
shown true page text new is put = absurd (true≢false is)
shown false page text new is put = put

-- nothing is carried where as much is carried forward as back
none_of : (forward back : ℕ) (z : ℤ) → z ≡ pos forward -ℤ pos back → is_none z ≡ (forward == back)
none_of forward back (pos zero) e = sym (eq-eqb forward back (omega (arith, ints, e)))
none_of forward back (pos (suc n)) e =
    ne_eqb (suc n) 0 (λ same. let no : ⊥ = omega (arith, same) in no)
    ∙ sym (ne_eqb forward back (λ same. let no : ⊥ = omega (arith, ints, e, same) in no))
none_of forward back (negsuc n) e = sym (ne_eqb forward back (λ same. let no : ⊥ = omega (arith, ints, e, same) in no))

pub idle : (balance : Balance) → (balance.plus == balance.minus) ≡ is_none (net balance)
idle balance = sym (none_of balance.plus balance.minus (net balance) refl)
