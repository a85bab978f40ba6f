-- Parts that are printed one after another.
use Rattle.std.proofs.Common.{◌≡◌, ◌∙◌, ℕ, ◌+◌, ◌<◌, List, [], ◌∷◌, ◌++◌, length, take, get_or, map, refl, sym, ap, append_assoc, arith}
use Rattle.std.specs.Prelude.{codes, ◌≤◌}
use Rattle.std.specs.List.{join_with_byte}
use Rattle.std.proofs.lemmas.List.{length-map, length-take-le, map-append, take_all, take_more}
use Rattle.journal_print.specs.Commas.{comma_before}
use Rattle.journal_print.specs.Json.{quote, row}

-- one part more
join-push : (parts : List (List ℕ)) (part : List ℕ)
    → join_with_byte 44 (parts ++ part ∷ []) ≡ join_with_byte 44 parts ++ (comma_before (length parts) ++ part)
join-push [] part = refl
join-push (first ∷ []) part = refl
join-push (first ∷ second ∷ parts) part =
    ap (λ rest. first ++ 44 ∷ rest) (join-push (second ∷ parts) part)
    ∙ sym (append_assoc first (44 ∷ join_with_byte 44 (second ∷ parts)) (44 ∷ part))

-- one item more of a list is printed behind its comma
pub joined-more : {A : Type 0} (f : A → List ℕ) (xs : List A) (i : ℕ) (d : A) (start old with_comma new : List ℕ) → i < length xs
    → old ≡ start ++ join_with_byte 44 (map f (take i xs)) → with_comma ≡ old ++ comma_before i → new ≡ with_comma ++ f (get_or xs i d)
    → new ≡ start ++ join_with_byte 44 (map f (take (i + 1) xs))
joined-more f xs i d start old with_comma new lt so_far comma is =
    let part = f (get_or xs i d) in
    let parts = map f (take i xs) in
    let joined = join_with_byte 44 parts in
    let more : map f (take (i + 1) xs) ≡ parts ++ part ∷ [] = ap (map f) (take_more xs i d lt) ∙ map-append f (take i xs) (get_or xs i d ∷ []) in
    let count : length parts ≡ i = length-map (take i xs) f ∙ length-take-le i xs (omega arith) in
    let all : join_with_byte 44 (map f (take (i + 1) xs)) ≡ joined ++ (comma_before i ++ part) =
    ap (join_with_byte 44) more ∙ join-push parts part ∙ ap (λ n. joined ++ (comma_before n ++ part)) count in
    let written : new ≡ ((start ++ joined) ++ comma_before i) ++ part =
    is ∙ ap (λ text. text ++ part) (comma ∙ ap (λ text. text ++ comma_before i) so_far) in
    written ∙ append_assoc (start ++ joined) (comma_before i) part ∙ append_assoc start joined (comma_before i ++ part)
    ∙ ap (λ text. start ++ text) (sym all)

-- all items of a list are printed, in brackets
pub row-printed : {A : Type 0} (f : A → List ℕ) (xs : List A) (i : ℕ) (old begun last new : List ℕ) → length xs ≤ i
    → begun ≡ old ++ codes "[" → last ≡ begun ++ join_with_byte 44 (map f (take i xs)) → new ≡ last ++ codes "]" → new ≡ old ++ row (map f xs)
unfolding row
row-printed f xs i old begun last new all begins joined ended =
    let joined_all = join_with_byte 44 (map f xs) in
    let whole : last ≡ (old ++ codes "[") ++ joined_all =
    joined ∙ ap (λ ys. begun ++ join_with_byte 44 (map f ys)) (take_all i xs all) ∙ ap (λ text. text ++ joined_all) begins in
    ended ∙ ap (λ text. text ++ codes "]") whole ∙ append_assoc (old ++ codes "[") joined_all (codes "]") ∙ append_assoc old (codes "[") (joined_all ++ codes "]")

-- ---- an array or an object whose parts are printed one by one

-- behind a text and an opening mark stand these parts
pub record IsBegun (mark : ℕ) (page : List ℕ) (parts : List (List ℕ)) (now : List ℕ) : Type 0 where
  pub text : now ≡ page ++ mark ∷ join_with_byte 44 parts

-- one part more, with its comma
pub next : {mark : ℕ} {page first : List ℕ} {parts : List (List ℕ)} {old : List ℕ} (part new : List ℕ) → IsBegun mark page (first ∷ parts) old
    → new ≡ old ++ 44 ∷ part → IsBegun mark page (first ∷ (parts ++ part ∷ [])) new
next {mark} {page} {first} {parts} part new so_far is = record {
  text =
      is ∙ ap (λ text. text ++ 44 ∷ part) so_far.text ∙ append_assoc page (mark ∷ join_with_byte 44 (first ∷ parts)) (44 ∷ part)
      ∙ ap (λ text. page ++ mark ∷ text) (sym (join-push (first ∷ parts) part));
}

-- the same where its front is put behind the comma first
pub next_behind : {mark : ℕ} {page first : List ℕ} {parts : List (List ℕ)} {old : List ℕ} (front rest with_front new : List ℕ)
    → IsBegun mark page (first ∷ parts) old → with_front ≡ old ++ 44 ∷ front → new ≡ with_front ++ rest
    → IsBegun mark page (first ∷ (parts ++ (front ++ rest) ∷ [])) new
next_behind {old = old} front rest with_front new so_far put is =
    next (front ++ rest) new so_far (is ∙ ap (λ text. text ++ rest) put ∙ append_assoc old (44 ∷ front) rest)

-- all of it, with its closing mark
pub ended : {mark : ℕ} {page : List ℕ} {parts : List (List ℕ)} {old : List ℕ} (close : ℕ) (new : List ℕ) → IsBegun mark page parts old
    → new ≡ old ++ close ∷ [] → new ≡ page ++ mark ∷ (join_with_byte 44 parts ++ close ∷ [])
ended {mark} {page} {parts} close new so_far is =
    is ∙ ap (λ text. text ++ close ∷ []) so_far.text ∙ append_assoc page (mark ∷ join_with_byte 44 parts) (close ∷ [])

-- the first two members of an entry's object
pub line-begun : (page caller nth one two three now : List ℕ) → one ≡ page ++ codes "{\"caller\":" → two ≡ one ++ quote caller
    → three ≡ two ++ codes ",\"command\":" → now ≡ three ++ nth
    → now ≡ page ++ (codes "{\"caller\":" ++ (quote caller ++ (codes ",\"command\":" ++ nth)))
line-begun page caller nth one two three now e0 e1 e2 e3 =
    let key = codes "{\"caller\":" in
    let next_key = codes ",\"command\":" in
    rw (e3, e2, e1, e0)
    (append_assoc ((page ++ key) ++ quote caller) next_key nth ∙ append_assoc (page ++ key) (quote caller) (next_key ++ nth)
    ∙ append_assoc page key (quote caller ++ (next_key ++ nth)))
