-- The ranges that are left, one by one.
use Rattle.std.proofs.Common.{◌≡◌, ℕ, zero, suc, ◌+◌, ◌-◌, ◌<◌, ◌≤◌, ◌^◌, List, [], ◌∷◌, refl, ap, ◌∙◌, subst, arith}
use Rattle.std.proofs.lemmas.List.Elements.{All-head, All-tail}
use Rattle.std.proofs.lemmas.List.Sums.{sum_by-cons}
use Rattle.std.specs.Prelude.{All}
use Rattle.rustc_lexer.specs.declared.token.Token.{Token}
use Rattle.tt_data.specs.declared.span.TextRange.{TextRange}
use Rattle.bridge.specs.TokenShares.{AreInText, HasRoom, ranges_left, share_of}
use Rattle.bridge.specs.declared.printing.token_share.Share.{Share}
use Rattle.bridge.specs.declared.printing.token_share.Share.TheVariants.{Times, QuoteAndName}
use Rattle.bridge.proofs.RangeLemmas.{total}

-- nothing shares the range, and no token is left
pub none_left : (s : Share) (r : TextRange) (at : ℕ) (ts : List Token) → s ≡ Times 0 → ts ≡ [] → ranges_left s r at ts ≡ []
none_left s r at ts e none = ap (λ s. ranges_left s r at ts) e ∙ ap (ranges_left (Times 0) r at) none

-- nothing shares the range, and the next token is taken up
pub takes_up : (s : Share) (r : TextRange) (at : ℕ) (ts : List Token) (t : Token) (more : List Token) → s ≡ Times 0 → ts ≡ t ∷ more
    → ranges_left s r at ts ≡ ranges_left (share_of t.kind) (record { start = at; «end» = at + t.len }) (at + t.len) more
takes_up s r at ts t more e is = ap (λ s. ranges_left s r at ts) e ∙ ap (ranges_left (Times 0) r at) is

-- so many tokens share the range, and one of them is given
pub one_less : (n : ℕ) (s : Share) (r : TextRange) (at : ℕ) (ts : List Token) → (n ≡ 0 → ⊥) → s ≡ Times n → ranges_left s r at ts ≡ r ∷ ranges_left (Times (n - 1)) r at ts
one_less zero s r at ts some e = absurd (some refl)
one_less (suc n) s r at ts some e =
    let less : n ≡ suc n - 1 = omega arith in
    ap (λ s. ranges_left s r at ts) e ∙ ap (λ m. r ∷ ranges_left (Times m) r at ts) less

-- the length of the next token
pub next_fits : (at : ℕ) (ts : List Token) (t : Token) (more : List Token) → ts ≡ t ∷ more → at + total ts ≡ (at + t.len) + total more
next_fits at ts t more is =
    let split : total ts ≡ t.len + total more = ap total is ∙ sum_by-cons (λ (t : Token). t.len) t more in
    omega (arith, split)

pub in_text_after : (s share : Share) (r : TextRange) (at : ℕ) (ts : List Token) (t : Token) (more : List Token) → AreInText s r at ts → ts ≡ t ∷ more
    → AreInText share (record { start = at; «end» = at + t.len }) (at + t.len) more
in_text_after s share r at ts t more inside is =
    let all : All (λ (t : Token). 1 ≤ t.len) (t ∷ more) = subst (All (λ (t : Token). 1 ≤ t.len)) is inside.3 in
    let some : 1 ≤ t.len = All-head (λ (t : Token). 1 ≤ t.len) t more all in
    let left : (at + t.len) + total more < 2 ^ 32 = subst (λ n. n < 2 ^ 32) (next_fits at ts t more is) inside.2 in
    (room share some, omega (arith, left), left, All-tail (λ (t : Token). 1 ≤ t.len) t more all)
  where
    room : (share : Share) → 1 ≤ t.len → HasRoom share (record { start = at; «end» = at + t.len })
    room (Times n) some = tt
    room QuoteAndName some = omega (arith, some)
