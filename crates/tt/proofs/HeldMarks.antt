-- A builder's marks, as it goes on.
use Rattle.std.proofs.Common.{◌≡◌, ◌⊎◌, ℕ, zero, suc, ◌+◌, ◌-◌, ◌<◌, ◌≤◌, List, [], ◌∷◌, ◌++◌, length, take, drop, set, map, reverse, refl, arith, Option, Some, None, IfSome, true, inl, inr}
use Rattle.std.proofs.lemmas.Bool.{le-ltb, cases_lt}
use Rattle.std.proofs.lemmas.List.{length-take, take_all}
use Rattle.tt_data.specs.declared.tree.Subtree.{Subtree}
use Rattle.tt_data.specs.declared.tree.TokenTree.{TokenTree}
use Rattle.tt_data.specs.declared.tree.TokenTree.TheVariants as token
use Rattle.token_bytes.specs.declared.mark.Mark.{Mark}
use Rattle.tt.specs.declared.top_subtree.builder.Opening.{Opening}
use Rattle.tt.specs.BuilderTokens.{IsHeld, IsCut, AreHeads, AreMarks, begins_invisible, moved_back}
use Rattle.token_bytes.specs.Marks.{mark_of, IsMarkIn, IsHeadIn}
use Rattle.token_bytes.proofs.MarkLemmas.{IsMarkIn-append, IsMarkIn-take, IsHeadIn-mark, IsHeadIn-append, IsHeadIn-take, last_head, head_from, start_marked, end_marked}
use Rattle.token_bytes.proofs.MarkChanges.{IsMarkIn-set_head, IsMarkIn-before, IsHeadIn-set_head, IsHeadIn-before, IsHeadIn-behind}
use Rattle.tt.specs.Tops.{IsOneGroup}
use Rattle.tt.proofs.Points.{kept_is}
use Rattle.token_bytes.proofs.ReadLemmas.{ReadAt}

pub top_head : (tokens : List TokenTree) (os : List Opening) → AreHeads tokens os → IsHeadIn (mark_of []) tokens
top_head tokens [] heads = heads
top_head tokens (o ∷ outer) heads = top_head tokens outer heads.1

-- more tokens
heads_append : (tokens more : List TokenTree) (os : List Opening) → AreHeads tokens os → AreHeads (tokens ++ more) os
heads_append tokens more [] heads = IsHeadIn-append (mark_of []) tokens more heads
heads_append tokens more (o ∷ outer) heads = (IsHeadIn-append o.at tokens more heads.0, heads_append tokens more outer heads.1)

closed_append : (tokens more : List TokenTree) (last : Option Mark) → IfSome last (λ m. IsMarkIn m tokens) → IfSome last (λ m. IsMarkIn m (tokens ++ more))
closed_append tokens more None closed = tt
closed_append tokens more (Some m) closed = IsMarkIn-append m tokens more closed

pub marks_append : (tokens more : List TokenTree) (os : List Opening) (last : Option Mark) (settled : Mark) → AreMarks tokens os last settled
    → AreMarks (tokens ++ more) os last settled
marks_append tokens more os last settled marks = record {
  heads = heads_append tokens more os marks.heads;
  closed = closed_append tokens more last marks.closed;
  known = IsMarkIn-append settled tokens more marks.known;
}

-- one more group open, whose head comes last
pub marks_opened : (tokens : List TokenTree) (s : Subtree) (o : Opening) (os : List Opening) (last : Option Mark) (settled : Mark) → o.at ≡ mark_of tokens
    → AreMarks tokens os last settled → AreMarks (tokens ++ token.Subtree s ∷ []) (o ∷ os) last settled
marks_opened tokens s o os last settled at_end marks =
    let more : List TokenTree = token.Subtree s ∷ [] in
    let after : AreMarks (tokens ++ more) os last settled = marks_append tokens more os last settled marks in
    record { heads = (rw at_end (last_head tokens s), after.heads); closed = after.closed; known = after.known }

-- a head in place of a head
heads_set : (tokens : List TokenTree) (at : Mark) (s : Subtree) (os : List Opening) → IsHeadIn at tokens → AreHeads tokens os
    → AreHeads (set tokens at.count (token.Subtree s)) os
heads_set tokens at s [] there heads = IsHeadIn-set_head (mark_of []) at tokens s there heads
heads_set tokens at s (o ∷ outer) there heads = (IsHeadIn-set_head o.at at tokens s there heads.0, heads_set tokens at s outer there heads.1)

-- the innermost group closed
pub marks_closed : (tokens : List TokenTree) (s : Subtree) (o : Opening) (outer : List Opening) (last : Option Mark) (settled first : Mark)
    → (first ≡ settled) ⊎ (first ≡ o.at) → AreMarks tokens (o ∷ outer) last settled
    → AreMarks (set tokens o.at.count (token.Subtree s)) outer (Some o.at) first
marks_closed tokens s o outer last settled first one marks =
    let there : IsHeadIn o.at tokens = marks.heads.0 in
    let at : IsMarkIn o.at (set tokens o.at.count (token.Subtree s)) = IsMarkIn-set_head o.at o.at tokens s there (IsHeadIn-mark o.at tokens there) in
    record {
      heads = heads_set tokens o.at s outer there marks.heads.1;
      closed = at;
      known = elim one [
        | inl same ↦ rw same (IsMarkIn-set_head settled o.at tokens s there marks.known)
        | inr same ↦ rw same at
      ];
    }

-- fewer than so many tokens come before each opening
abbrev AreBelow : ℕ → List Opening → Type 0
AreBelow n [] = 0 < n
AreBelow n (o ∷ outer) = (o.at.count < n) × AreBelow n outer

below_held : (n : ℕ) (tokens : List TokenTree) (os : List Opening) → length tokens ≤ n → IsHeld tokens os → AreBelow n os
below_held n tokens [] fits held = omega (arith, held.0, fits)
below_held n tokens (o ∷ outer) fits held =
    let less : length (take o.at.count tokens) ≤ n = omega (arith, fits, length-take o.at.count tokens) in
    (omega (arith, held.0, fits), below_held n (take o.at.count tokens) outer less held.2)

heads_take : (n : ℕ) (tokens : List TokenTree) (os : List Opening) → AreBelow n os → AreHeads tokens os → AreHeads (take n tokens) os
heads_take n tokens [] below heads = IsHeadIn-take (mark_of []) n tokens below heads
heads_take n tokens (o ∷ outer) below heads = (IsHeadIn-take o.at n tokens below.0 heads.0, heads_take n tokens outer below.1 heads.1)

heads_drop : (n : ℕ) (tokens : List TokenTree) (os : List Opening) → AreHeads tokens os → AreHeads tokens (drop n os)
heads_drop zero tokens os heads = heads
heads_drop (suc n) tokens [] heads = heads
heads_drop (suc n) tokens (o ∷ outer) heads = heads_drop n tokens outer heads.1

-- the outermost openings, as many as are kept
pub heads_kept : (tokens : List TokenTree) (items : List Opening) (depth : ℕ) → AreHeads tokens (reverse items)
    → AreHeads tokens (reverse (take depth items))
heads_kept tokens items depth heads =
    elim (cases_lt depth (length items)) [
      | inl less ↦ rw (kept_is items depth (omega (arith, less))) at (heads_drop (length (reverse items) - depth) tokens (reverse items) heads)
      | inr all ↦ rw (take_all depth items all) heads
    ]

-- the tokens cut back to a mark
pub heads_cut : (n : ℕ) (tokens : List TokenTree) (os : List Opening) → IsHeld (take n tokens) os → AreHeads tokens os → AreHeads (take n tokens) os
heads_cut n tokens os held heads =
    heads_take n tokens os (below_held n (take n tokens) os (omega (arith, length-take n tokens)) held) heads

pub marks_cut : (tokens : List TokenTree) (items : List Opening) (depth : ℕ) (last : Option Mark) (settled mark : Mark)
    → IsMarkIn mark tokens → IsHeld (take mark.count tokens) (reverse (take depth items)) → AreMarks tokens (reverse items) last settled
    → AreMarks (take mark.count tokens) (reverse (take depth items)) None mark
marks_cut tokens items depth last settled mark is held marks = record {
  heads = heads_cut mark.count tokens (reverse (take depth items)) held (heads_kept tokens items depth marks.heads);
  closed = tt;
  known = IsMarkIn-take mark mark.count tokens (omega arith) is;
}

-- no opening is at this index
abbrev AreBeside : ℕ → List Opening → Type 0
AreBeside at [] = 0 < at
AreBeside at (o ∷ outer) = ((o.at.count < at) ⊎ (at < o.at.count)) × AreBeside at outer

all_before : (at : ℕ) (os : List Opening) → AreBelow at os → AreBeside at os
all_before at [] below = below
all_before at (o ∷ outer) below = (inl below.0, all_before at outer below.1)

beside : (at : ℕ) (tokens : List TokenTree) (os : List Opening) → IsHeld tokens os → IsCut at tokens os → AreBeside at os
beside at tokens [] held cut = omega (arith, cut.0, length-take at tokens)
beside at tokens (o ∷ outer) held cut =
    elim cut [
      | inl within ↦
          let fits : length (take o.at.count tokens) ≤ at = omega (arith, within.0, length-take o.at.count tokens) in
          (inl within.0, all_before at outer (below_held at (take o.at.count tokens) outer fits held.2))
      | inr before ↦ (inr before.0, beside at (take o.at.count tokens) outer held.2 before.1)
    ]

-- a head taken out
heads_removed : (at : Mark) (tokens : List TokenTree) (os : List Opening) → IsHeadIn at tokens → AreBeside at.count os → AreHeads tokens os
    → AreHeads (take at.count tokens ++ drop (at.count + 1) tokens) (map (moved_back at.count) os)
heads_removed at tokens [] there beside heads = IsHeadIn-before (mark_of []) at tokens there beside heads
heads_removed at tokens (o ∷ outer) there beside heads =
    let rest : AreHeads (take at.count tokens ++ drop (at.count + 1) tokens) (map (moved_back at.count) outer) = heads_removed at tokens outer there beside.1 heads.1 in
    elim beside.0 [
      | inl before ↦ (rw (le-ltb at.count o.at.count (omega (arith, before))) (IsHeadIn-before o.at at tokens there before heads.0), rest)
      | inr behind ↦ (IsHeadIn-behind o.at at tokens there behind heads.0, rest)
    ]

pub marks_removed : (at : Mark) (tokens : List TokenTree) (os : List Opening) (last : Option Mark) (settled : Mark) → IsHeadIn at tokens
    → IsHeld tokens os → IsCut at.count tokens os → settled.count ≤ at.count → AreMarks tokens os last settled
    → AreMarks (take at.count tokens ++ drop (at.count + 1) tokens) (map (moved_back at.count) os) None settled
marks_removed at tokens os last settled there held cut le marks = record {
  heads = heads_removed at tokens os there (beside at.count tokens os held cut) marks.heads;
  closed = tt;
  known = IsMarkIn-before settled at tokens there le marks.known;
}

-- a group begins with its head
pub one_head : (tokens : List TokenTree) → IsOneGroup tokens → IsHeadIn (mark_of []) tokens
one_head [] one = absurd (grind (arith, one))
one_head (token.Leaf l ∷ more) one = absurd (grind (arith, one))
one_head (token.Subtree s ∷ more) one = head_from (mark_of []) (token.Subtree s ∷ more) (start_marked (token.Subtree s ∷ more)) refl

-- an invisible group has its head right after its mark
pub invisible_head : (m : Mark) (tokens : List TokenTree) (t : TokenTree) → IsMarkIn m tokens → ReadAt tokens m.count t → begins_invisible t ≡ true
    → IsHeadIn m tokens
invisible_head m tokens (token.Leaf l) is read seen = absurd (grind (arith, seen))
invisible_head m tokens (token.Subtree s) is read seen = head_from m tokens is (rw read.head refl)

-- a builder at the beginning has the top's head alone
pub marks_begun : (s : Subtree) → AreMarks (token.Subtree s ∷ []) [] None (mark_of (token.Subtree s ∷ []))
marks_begun s = record { heads = last_head [] s; closed = tt; known = end_marked (token.Subtree s ∷ []) }
