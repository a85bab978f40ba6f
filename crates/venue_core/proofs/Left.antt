-- A list that is gone through to its end.
use Rattle.std.proofs.Common.{◌≡◌, ◌∙◌, List, [], ◌∷◌, ◌++◌, length, sym, arith}
use Rattle.std.proofs.lemmas.List.{append-nil}

-- where none are left, all are done
pub all-gone : {X : Type 0} (done left all : List X) → done ++ left ≡ all → length left ≡ 0 → done ≡ all
all-gone done [] all parts none = sym (append-nil done) ∙ parts
all-gone done (x ∷ left) all parts none = absurd (omega arith)
