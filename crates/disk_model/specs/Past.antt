-- What a crash since some moment might have left, by the contents at each moment.
use Rattle.std.specs.Prelude.{◌⊎◌, ℕ, List, [], ◌∷◌, length, drop}
use mathlib.Core.Logic.{inl, inr}
use Rattle.disk_model.specs.Contents.{Contents, IsImage}

-- one of these contents has this image
abbrev pub HadImage : List Contents → List ℕ → Type 0
HadImage [] image = ⊥
HadImage (contents ∷ later) image = IsImage contents image ⊎ HadImage later image

-- a crash might have left this image since a moment: an image of the contents now, or of those at
-- some moment from that one on
abbrev pub LeftSince : (past : List Contents) → (now : Contents) → (moment : ℕ) → List ℕ → Type 0
LeftSince past now moment image = IsImage now image ⊎ HadImage (drop moment past) image

none_later : (past : List Contents) (image : List ℕ) → HadImage (drop (length past) past) image → ⊥
none_later [] image had = had
none_later (contents ∷ past) image had = none_later past image had

-- since this moment there is no other
pub only_now : (past : List Contents) (now : Contents) (image : List ℕ) → LeftSince past now (length past) image → IsImage now image
only_now past now image (inl here) = here
only_now past now image (inr had) = absurd (none_later past image had)
