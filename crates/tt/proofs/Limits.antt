-- How many tokens a builder has, and what follows for the results of calls that add one.
use Rattle.std.proofs.Common.{◌≡◌, ◌↔◌, ℕ, ◌+◌, ◌<◌, ◌≤◌, length, List, [], ◌∷◌, take, drop, ap, sym, ◌∙◌, arith, Result, Err}
use Rattle.std.proofs.lemmas.List.{length-drop, length-take}
use Rattle.tt_data.specs.Forest.{Forest, IsPreorder, forest_of, size}
use Rattle.tt_data.proofs.ForestLemmas.{size-joined}
use Rattle.tt_data.specs.Flat.{length-preorder}
use Rattle.tt_data.specs.fault.TtFault.{TtFault}
use Rattle.tt_data.specs.fault.TtFault.TheVariants as fault
use Rattle.tt_data.specs.declared.tree.TokenTree.{TokenTree}
use Rattle.tt.specs.declared.top_subtree.builder.Opening.{Opening}
use Rattle.tt.specs.Building.{Building, count_in, count_of, extended, most_tokens}
use Rattle.tt.specs.BuilderTokens.{here_of, groups_of, IsHeld}

-- trees that are put in count
pub count-extended : (b : Building) (f : Forest) → count_of (extended b f) ≡ count_of b + size f
count-extended b f = let k = size-joined b.here f in omega (arith, k)

-- whole trees have as many tokens as their list
pub size-whole : (tokens : List TokenTree) → IsPreorder tokens → size (forest_of tokens) ≡ length tokens
size-whole tokens whole = sym (length-preorder (forest_of tokens)) ∙ ap length whole

-- a builder has the top's token, and those below it
pub counted : (tokens : List TokenTree) (openings : List Opening) → IsHeld tokens openings
    → size (here_of tokens openings) + count_in (groups_of tokens openings) + 1 ≡ length tokens
counted tokens [] held = omega (arith, held.0, size-whole (drop 1 tokens) held.1, length-drop 1 tokens)
counted tokens (o ∷ outer) held =
    omega (
      arith,
      held.0,
      size-whole (drop (o.at.count + 1) tokens) held.1,
      length-drop (o.at.count + 1) tokens,
      counted (take o.at.count tokens) outer held.2,
      length-take o.at.count tokens,
    )

-- whether a call was refused for the number of tokens
abbrev refused_as_full : Result (Unit {0}) TtFault → ℕ
refused_as_full (Err fault.Tokens) = 1
refused_as_full _ = 0

-- where there is room, a call that adds a token answers anything else
pub room_left : (r : Result (Unit {0}) TtFault) (n : ℕ) → refused_as_full r ≡ 0 → n < most_tokens → (r ≡ Err fault.Tokens) ↔ (n ≡ most_tokens)
room_left r n other room =
    (λ e. let no : 0 ≡ 1 = sym other ∙ ap refused_as_full e in omega (arith, no), λ e. absurd (omega (arith, e, room)))

-- the same for a call that adds several
pub room_for : (r : Result (Unit {0}) TtFault) (n : ℕ) → refused_as_full r ≡ 0 → n ≤ most_tokens → (r ≡ Err fault.Tokens) ↔ (most_tokens < n)
room_for r n other room =
    (λ e. let no : 0 ≡ 1 = sym other ∙ ap refused_as_full e in omega (arith, no), λ more. absurd (omega (arith, more, room)))
