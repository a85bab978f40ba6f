-- What several writes to a sink make together.
use Rattle.std.proofs.Common.{◌≡◌, ◌∙◌, ◌++◌, ℕ, List, Option, take, drop, sym, ap, append_assoc, take-append-drop}
use Rattle.std.specs.Io.KnownBytes.{Appends}
use Rattle.std.proofs.KnownBytes.{Appends-trans}
use Rattle.session_io.specs.Writing.{Wrote}

-- one more write took the front of the rest
pub Wrote-more : (a b c : Option (List ℕ)) (line rest : List ℕ) (count : ℕ)
    → Wrote a b line rest → Appends b c (take count rest) → Wrote a c line (drop count rest)
Wrote-more a b c line rest count wrote taken = record {
  front = wrote.front ++ take count rest;
  whole = wrote.whole ∙ ap (λ l. wrote.front ++ l) (sym (take-append-drop count rest))
      ∙ sym (append_assoc wrote.front (take count rest) (drop count rest));
  appended = Appends-trans a b c wrote.front (take count rest) wrote.appended taken;
}

-- a line of the rest was written
pub Wrote-line : (a b c : Option (List ℕ)) (text rest line more : List ℕ) → Wrote a b text rest → rest ≡ line ++ more → Appends b c line → Wrote a c text more
Wrote-line a b c text rest line more wrote is written = record {
  front = wrote.front ++ line;
  whole = wrote.whole ∙ ap (λ l. wrote.front ++ l) is ∙ sym (append_assoc wrote.front line more);
  appended = Appends-trans a b c wrote.front line wrote.appended written;
}

-- a front of such a line was written
pub Wrote-part : (a b c : Option (List ℕ)) (text rest line more left : List ℕ) → Wrote a b text rest → rest ≡ line ++ more → Wrote b c line left
    → Wrote a c text (left ++ more)
Wrote-part a b c text rest line more left wrote is part = record {
  front = wrote.front ++ part.front;
  whole = wrote.whole ∙ ap (λ l. wrote.front ++ l) (is ∙ ap (λ l. l ++ more) part.whole ∙ append_assoc part.front left more)
      ∙ sym (append_assoc wrote.front part.front (left ++ more));
  appended = Appends-trans a b c wrote.front part.front wrote.appended part.appended;
}
