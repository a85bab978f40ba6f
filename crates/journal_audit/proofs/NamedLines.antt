-- The line of an entry begins with the name of its caller, and names nobody else.
use Rattle.std.proofs.Common.{◌≡◌, ◌∙◌, ℕ, zero, suc, ◌+◌, ◌<◌, Bool, true, false, not, cond, nat_lt, None, List, [], ◌∷◌, ◌++◌, append_assoc, codes, decimal, drop, length, nat_eq, Some, refl, sym, ap, subst, arith}
use Rattle.std.specs.Prelude.{option_map, slice_get, unwrap_or}
use Rattle.std.specs.List.{join_with_byte, position_or_len, starts_with}
use Rattle.std.proofs.lemmas.Bool.{and_parts, lt-ltb}
use Rattle.std.proofs.lemmas.Bool.Decides.{Decides-eqb}
use Rattle.std.proofs.lemmas.List.{append_cancel_left}
use Rattle.std.proofs.lemmas.Slice.Eq.{starts_is}
use Rattle.market_model.specs.declared.entry.Entry.{Entry}
use Rattle.market_model.specs.declared.reply.Reply.{Reply}
use Rattle.market_model.specs.declared.reply.Reply.TheVariants as reply
use Rattle.market_model.specs.declared.setup.Caller.{Caller}
use Rattle.market_model.specs.declared.setup.Setup.{Setup}
use Rattle.market_model.specs.Naming.{IsNamed}
use Rattle.journal_print.specs.Json.{IsPlain, braces, quote, row}
use Rattle.journal_print.specs.Line.{caller_name, entry_line, event_rows, refusal_parts, view_rows}
use Rattle.journal_print.proofs.Plain.{plain_byte_range}
use Rattle.journal_audit.specs.Laws.{AreNamedApart}
use Rattle.journal_audit.specs.Lines.{caller_named, line_start}
use Rattle.journal_audit.proofs.NextEntries.{there}
use Rattle.journal_audit.proofs.OneLines.{plain-caller}

-- a line begins with this start
pub record BeginsWith (line start : List ℕ) : Type 0 where
  pub rest : List ℕ
  pub is : line ≡ start ++ rest

-- an object whose first member is the caller
object-begins : (name rest : List ℕ) → BeginsWith ((codes "{" ++ (((quote (codes "caller") ++ (codes ":" ++ quote name)) ++ (44 ∷ rest)) ++ codes "}")) ++ codes "\n") (line_start name)
unfolding quote line_start
object-begins name rest = record {
  rest = (rest ++ codes "}") ++ codes "\n";
  is = ap (λ bytes. codes "{\"caller\":\"" ++ bytes) (simp append_assoc);
}

-- the line of an entry begins with its caller's name
pub line-begins : (setup : Setup) (place : ℕ) (entry : Entry) → BeginsWith (entry_line setup place entry) (line_start (caller_name setup entry.caller))
unfolding braces
line-begins setup place entry = by entry.reply
  where
    name : List ℕ
    name = caller_name setup entry.caller

    nth : List ℕ
    nth = quote (codes "command") ++ (codes ":" ++ decimal entry.nth)

    at : List ℕ
    at = quote (codes "entry") ++ (codes ":" ++ decimal place)

    by : (given : Reply) → BeginsWith (entry_line setup place (record { caller = entry.caller; nth = entry.nth; command = entry.command; reply = given })) (line_start name)
    by (reply.Done events) = object-begins name (join_with_byte 44 (nth ∷ (quote (codes "done") ++ (codes ":" ++ row (event_rows setup events))) ∷ at ∷ []))
    by (reply.Seen rows) = object-begins name (join_with_byte 44 (nth ∷ at ∷ (quote (codes "rows") ++ (codes ":" ++ row (view_rows rows))) ∷ []))
    by (reply.Refused broken) = object-begins name (join_with_byte 44 (nth ∷ at ∷ (quote (codes "refused") ++ (codes ":" ++ row (refusal_parts setup broken))) ∷ []))

-- ---- one name alone

-- plain texts up to a quotation mark
cut : (xs ys after other : List ℕ) → IsPlain xs → IsPlain ys → xs ++ (34 ∷ after) ≡ ys ++ (34 ∷ other) → xs ≡ ys
cut [] [] after other plain plain_y same = refl
cut [] (y ∷ ys) after other plain plain_y same =
    let first : 34 ≡ y = cc in
    let range = plain_byte_range y (and_parts _ _ plain_y).0 in
    absurd (omega (arith, first, range.0))
cut (x ∷ xs) [] after other plain plain_y same =
    let first : x ≡ 34 = cc in
    let range = plain_byte_range x (and_parts _ _ plain).0 in
    absurd (omega (arith, first, range.0))
cut (x ∷ xs) (y ∷ ys) after other plain plain_y same =
    let first : x ≡ y = cc in
    let rest : xs ++ (34 ∷ after) ≡ ys ++ (34 ∷ other) = cc in
    ap (λ byte. byte ∷ xs) first ∙ ap (λ bytes. y ∷ bytes) (cut xs ys after other (and_parts _ _ plain).1 (and_parts _ _ plain_y).1 rest)

-- a line begins with one name alone
same-name : (line name other : List ℕ) → IsPlain name → IsPlain other → BeginsWith line (line_start name) → BeginsWith line (line_start other) → name ≡ other
unfolding line_start
same-name line name other plain plain_other begins also =
    cut name other (44 ∷ begins.rest) (44 ∷ also.rest) plain plain_other
    (sym (append_assoc name (codes "\",") begins.rest)
    ∙ append_cancel_left (codes "{\"caller\":\"") ((name ++ codes "\",") ++ begins.rest) ((other ++ codes "\",") ++ also.rest) (sym begins.is ∙ also.is)
    ∙ append_assoc other (codes "\",") also.rest)

-- ---- who is named

-- the first that passes a test
first-place : (test : Caller → Bool) (callers : List Caller) (place : ℕ) (own : Caller) → slice_get callers place ≡ Some own → test own ≡ true
    → ((k : ℕ) (other : Caller) → k < place → slice_get callers k ≡ Some other → test other ≡ false) → position_or_len test callers ≡ place
first-place test [] place own is passes none = cc
first-place test (first ∷ callers) zero own is passes none =
    let same : first ≡ own = cc in
    ap (λ b. cond (not b) (1 + position_or_len test callers) 0) (ap test same ∙ passes)
first-place test (first ∷ callers) (suc place) own is passes none =
    let rest = first-place test callers place own is passes (λ k other below at. none (suc k) other (omega (arith, below)) at) in
    ap (λ b. cond (not b) (1 + position_or_len test callers) 0) (none zero first (omega arith) refl) ∙ omega (arith, rest)

-- a line that begins with a caller's name names that caller
pub caller-is : (setup : Setup) (caller : ℕ) (line : List ℕ) → IsNamed setup → AreNamedApart setup → caller < length setup.callers
    → BeginsWith line (line_start (caller_name setup caller)) → caller_named setup line ≡ Some caller
unfolding caller_named
caller-is setup caller line named apart known begins =
    let place = first-place test setup.callers caller own.0 own.1 passes none in
    ap (λ n. cond (nat_lt n (length setup.callers)) (Some n) None) place ∙ ap (λ b. cond b (Some caller) None) (lt-ltb caller (length setup.callers) known)
  where
    test : Caller → Bool
    test own = starts_with nat_eq line (line_start own.name)

    own : (own : Caller) × (slice_get setup.callers caller ≡ Some own)
    own = there setup.callers caller known

    name-of : (k : ℕ) (other : Caller) → slice_get setup.callers k ≡ Some other → caller_name setup k ≡ other.name
    name-of k other is = ap (λ o. unwrap_or (option_map (λ (known : Caller). known.name) o) []) is

    starts : (start : List ℕ) → (starts_with nat_eq line start ≡ true → line ≡ start ++ drop (length start) line) × ((rest : List ℕ) → line ≡ start ++ rest → starts_with nat_eq line start ≡ true)
    starts start = starts_is Decides-eqb line start (starts_with nat_eq line start) refl

    passes : test own.0 ≡ true
    passes = subst (λ name. starts_with nat_eq line (line_start name) ≡ true) (name-of caller own.0 own.1)
        ((starts (line_start (caller_name setup caller))).1 begins.rest begins.is)

    none : (k : ℕ) (other : Caller) → k < caller → slice_get setup.callers k ≡ Some other → test other ≡ false
    none k other below is = by (test other) refl
      where
        by : (b : Bool) → test other ≡ b → test other ≡ false
        by true e =
            let name = name-of k other is in
            let also : BeginsWith line (line_start (caller_name setup k)) = record {
              rest = drop (length (line_start (caller_name setup k))) line;
              is = (starts (line_start (caller_name setup k))).0 (subst (λ n. starts_with nat_eq line (line_start n) ≡ true) (sym name) e);
            } in
            absurd (apart k caller below known
            (same-name line (caller_name setup k) (caller_name setup caller) (plain-caller setup named k) (plain-caller setup named caller) also begins))
        by false e = e
