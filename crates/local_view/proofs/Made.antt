-- What refreshes make, of lists and of parts.
use Rattle.std.proofs.Common.{◌≡◌, ◌∙◌, ℕ, zero, suc, ◌+◌, ◌<◌, true, List, [], ◌∷◌, ◌++◌, get_or, length, replicate, Result, Ok, Err, OnOk, refl, ap, if◌then◌else◌, arith}
use Rattle.order_kinds.specs.declared.side.Side.{Side}
use Rattle.market_model.specs.declared.reply.ViewRow.{ViewRow}
use Rattle.market_model.specs.Board.{BoardState}
use Rattle.cut_proof.specs.ZoneSet.{holds}
use Rattle.local_view.specs.Boards.{view_of}
use Rattle.local_view.specs.Kept.{AreNext}
use Rattle.local_view.specs.Rows.{LineRows}
use Rattle.local_view.specs.Works.{HasMade}

replicate-push : {X : Type 0} (count : ℕ) (x : X) → replicate count x ++ x ∷ [] ≡ replicate (suc count) x
replicate-push zero x = refl
replicate-push (suc count) x = ap (λ xs. x ∷ xs) (replicate-push count x)

-- as many of one item, and one more
pub one_more_of : {X : Type 0} (x : X) (count : ℕ) (items after : List X) (added : X) → items ≡ replicate count x → added ≡ x → after ≡ items ++ added ∷ []
    → after ≡ replicate (count + 1) x
one_more_of x count items after added are is pushed =
    pushed ∙ ap (λ xs. xs ++ added ∷ []) are ∙ ap (λ y. replicate count x ++ y ∷ []) is ∙ replicate-push count x
    ∙ ap (λ n. replicate n x) (let next : suc count ≡ count + 1 = omega arith in next)

-- where all rows are computed they are the views
pub all_next : (board : BoardState) (part : ℕ) (side : Side) (zones : ℕ) (computed : ℕ) (kept : List (List ViewRow)) (line : LineRows) → length kept ≡ zones
    → ((zone : ℕ) → zone < zones → holds computed zone ≡ true) → HasMade computed board part side kept line → AreNext board part side zones line
all_next board part side zones computed kept line size all made = record {
  rows = made.rows;
  is = made.is;
  size = made.size ∙ size;
  each = λ zone less.
      let own = made.size in
      made.made zone (omega (arith, less, own, size)) ∙ ap (λ b. if b then view_of board part side zone else get_or kept zone []) (all zone less);
}

pub on_ok : {T E P : Type 0} (result : Result T E) → P → OnOk result P
on_ok (Ok x) p = p
on_ok (Err e) p = tt

pub on_ok_map : {T E P Q : Type 0} (result : Result T E) → (P → Q) → OnOk result P → OnOk result Q
on_ok_map (Ok x) f p = f p
on_ok_map (Err e) f p = tt
