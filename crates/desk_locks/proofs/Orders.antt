-- Desks that are held, place by place.
use Rattle.std.proofs.Common.{◌≡◌, ◌∙◌, ◌<◌, List, [], ◌∷◌, ◌++◌, map, length, refl, sym, ap, subst, arith, append_assoc}
use Rattle.std.proofs.lemmas.List.{length-append, map-append}
use Rattle.joint_plan.specs.Desk.{DeskState}
use Rattle.journal_front.specs.Fronts.{DeskSeatState}
use Rattle.desk_locks.specs.Held.{AllInPlace}
use Rattle.desk_locks.specs.declared.home.Taken.{Taken}
use Rattle.desk_locks.specs.Homes.{place_of_taken}
use Rattle.desk_locks.specs.Places.{AreInPlace, Place}

-- there are as many desks and seats as places
pub as_many : (places : List Place) (desks : List DeskState) (seats : List DeskSeatState) → AllInPlace places desks seats
    → (length desks ≡ length places) × (length seats ≡ length places)
as_many [] [] [] all = (refl, refl)
as_many (place ∷ places) (desk ∷ desks) (seat ∷ seats) all =
    let rest = as_many places desks seats all.1 in (omega (arith, rest.0), omega (arith, rest.1))
as_many _ _ _ all = absurd all

-- another one is in its place behind those that are in theirs
pub one-more : (places : List Place) (desks : List DeskState) (seats : List DeskSeatState) (place : Place) (desk : DeskState) (seat : DeskSeatState)
    → AllInPlace places desks seats → AreInPlace place desk seat → AllInPlace (places ++ place ∷ []) (desks ++ desk ∷ []) (seats ++ seat ∷ [])
one-more [] [] [] place desk seat all own = (own, tt)
one-more (p ∷ places) (d ∷ desks) (s ∷ seats) place desk seat all own = (all.0, one-more places desks seats place desk seat all.1 own)
one-more _ _ _ place desk seat all own = absurd all

-- where all are in their places the last one is, and so are those before it
pub last-one : (places : List Place) (desks : List DeskState) (seats : List DeskSeatState) (place : Place) (desk : DeskState) (seat : DeskSeatState)
    → length desks ≡ length places → length seats ≡ length places
    → AllInPlace (places ++ place ∷ []) (desks ++ desk ∷ []) (seats ++ seat ∷ []) → AllInPlace places desks seats × AreInPlace place desk seat
last-one [] [] [] place desk seat d s all = (tt, all.0)
last-one (p ∷ places) (d ∷ desks) (s ∷ seats) place desk seat ds ss all =
    let rest = last-one places desks seats place desk seat (omega arith) (omega arith) all.1 in ((all.0, rest.0), rest.1)
last-one [] (d ∷ desks) seats place desk seat ds ss all = absurd (omega arith)
last-one (p ∷ places) [] seats place desk seat ds ss all = absurd (omega arith)
last-one [] [] (s ∷ seats) place desk seat ds ss all = absurd (omega arith)
last-one (p ∷ places) (d ∷ desks) [] place desk seat ds ss all = absurd (omega arith)

-- the last place is taken away, with its desk and its seat
pub popped : (taken fewer : List Taken) (desks fewer_desks : List DeskState) (seats fewer_seats : List DeskSeatState) (last : Taken) (desk : DeskState) (seat : DeskSeatState)
    → taken ≡ fewer ++ last ∷ [] → desks ≡ fewer_desks ++ desk ∷ [] → seats ≡ fewer_seats ++ seat ∷ [] → AllInPlace (map place_of_taken taken) desks seats
    → AllInPlace (map place_of_taken fewer) fewer_desks fewer_seats × AreInPlace (place_of_taken last) desk seat
popped taken fewer desks fewer_desks seats fewer_seats last desk seat t d s all =
    let placed : map place_of_taken taken ≡ map place_of_taken fewer ++ place_of_taken last ∷ [] = ap (map place_of_taken) t ∙ map-append place_of_taken fewer (last ∷ []) in
    let whole : AllInPlace (map place_of_taken fewer ++ place_of_taken last ∷ []) (fewer_desks ++ desk ∷ []) (fewer_seats ++ seat ∷ []) =
    subst (λ (ps : List Place). AllInPlace ps (fewer_desks ++ desk ∷ []) (fewer_seats ++ seat ∷ [])) placed
    (subst (λ (ds : List DeskState). AllInPlace (map place_of_taken taken) ds (fewer_seats ++ seat ∷ [])) d
    (subst (λ (ss : List DeskSeatState). AllInPlace (map place_of_taken taken) desks ss) s all)) in
    let many = as_many (map place_of_taken fewer ++ place_of_taken last ∷ []) (fewer_desks ++ desk ∷ []) (fewer_seats ++ seat ∷ []) whole in
    let ps = length-append (map place_of_taken fewer) (place_of_taken last ∷ []) in
    let ds = length-append fewer_desks (desk ∷ []) in
    let ss = length-append fewer_seats (seat ∷ []) in
    last-one (map place_of_taken fewer) fewer_desks fewer_seats (place_of_taken last) desk seat (omega (arith, many.0, ps, ds)) (omega (arith, many.1, ps, ss)) whole

-- one place more is taken, with its desk and its seat
pub pushed : (taken more : List Taken) (desks more_desks : List DeskState) (seats more_seats : List DeskSeatState) (last : Taken) (desk : DeskState) (seat : DeskSeatState)
    → more ≡ taken ++ last ∷ [] → more_desks ≡ desks ++ desk ∷ [] → more_seats ≡ seats ++ seat ∷ [] → AllInPlace (map place_of_taken taken) desks seats
    → AreInPlace (place_of_taken last) desk seat → AllInPlace (map place_of_taken more) more_desks more_seats
pushed taken more desks more_desks seats more_seats last desk seat t d s all own =
    let placed : map place_of_taken more ≡ map place_of_taken taken ++ place_of_taken last ∷ [] = ap (map place_of_taken) t ∙ map-append place_of_taken taken (last ∷ []) in
    let whole = one-more (map place_of_taken taken) desks seats (place_of_taken last) desk seat all own in
    subst (λ (ps : List Place). AllInPlace ps more_desks more_seats) (sym placed)
    (subst (λ (ds : List DeskState). AllInPlace (map place_of_taken taken ++ place_of_taken last ∷ []) ds more_seats) (sym d)
    (subst (λ (ss : List DeskSeatState). AllInPlace (map place_of_taken taken ++ place_of_taken last ∷ []) (desks ++ desk ∷ []) ss) (sym s) whole))

-- the next place goes over from those that are left to those that are taken
pub moved-on : (taken more : List Taken) (last : Taken) (next : Place) (left : List Place) → more ≡ taken ++ last ∷ [] → place_of_taken last ≡ next
    → map place_of_taken more ++ left ≡ map place_of_taken taken ++ next ∷ left
moved-on taken more last next left t same =
    ap (λ (ts : List Taken). map place_of_taken ts ++ left) t
    ∙ ap (λ (ps : List Place). ps ++ left) (map-append place_of_taken taken (last ∷ []))
    ∙ append_assoc (map place_of_taken taken) (place_of_taken last ∷ []) left
    ∙ ap (λ (place : Place). map place_of_taken taken ++ place ∷ left) same

-- where a place is taken there is a desk, and a seat
pub some-left : (taken fewer : List Taken) (desks : List DeskState) (seats : List DeskSeatState) (last : Taken) → taken ≡ fewer ++ last ∷ []
    → AllInPlace (map place_of_taken taken) desks seats → (0 < length desks) × (0 < length seats)
some-left taken fewer desks seats last t all =
    let many = as_many (map place_of_taken taken) desks seats all in
    let size : length (map place_of_taken taken) ≡ length (map place_of_taken fewer ++ place_of_taken last ∷ []) =
    ap (λ (ts : List Taken). length (map place_of_taken ts)) t ∙ ap length (map-append place_of_taken fewer (last ∷ [])) in
    let more = length-append (map place_of_taken fewer) (place_of_taken last ∷ []) in
    (omega (arith, many.0, size, more), omega (arith, many.1, size, more))
