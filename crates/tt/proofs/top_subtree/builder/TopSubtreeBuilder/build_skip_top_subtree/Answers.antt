-- If no group is open, the trees inside the top are whole, and one group if their forest is one.
use Rattle.std.proofs.Common.{◌≡◌, List, [], ap, refl, arith, drop, length, reverse, IsTrue, false, IsSome}
use Rattle.std.proofs.lemmas.Bool.{false≢true}
use Rattle.std.proofs.lemmas.List.{nil_from_length, length-drop, length-reverse}
use Rattle.tt_data.specs.Forest.{forest_of, IsPreorder}
use Rattle.tt_data.specs.declared.tree.TokenTree.{TokenTree}
use Rattle.tt.specs.BuilderTokens.{IsHeld}
use Rattle.tt.specs.Building.{Builder}
use Rattle.tt.specs.Tops.{IsOneGroup, only_group}
use Rattle.tt.specs.Views.{forest}
use Rattle.tt.specs.declared.top_subtree.builder.Opening.{Opening}
use Rattle.tt.proofs.Groups.{only_of_one, one_of_only}
use Rattle.tt.proofs.HeldMarks.{top_head}
use Rattle.tt.proofs.Points.{length-groups_of}
use Rattle.tt.proofs.top_subtree.builder.TopSubtreeBuilder.build_skip_top_subtree.Goals as goal

module _ (tokens : List TokenTree) (openings : List Opening) (held : IsHeld tokens (reverse openings)) (none : openings ≡ []) where
  whole : IsPreorder (drop 1 tokens)
  whole = (rw none at held).1

  one : IsSome (only_group (forest_of (drop 1 tokens))) → IsOneGroup (drop 1 tokens)
  one some = one_of_only (drop 1 tokens) whole some

pub returns-then-open_groups-gt0-clause-malformed : goal.returns-then-open_groups-gt0-clause-malformed
returns-then-open_groups-gt0-clause-malformed c =
    let os = reverse c.self.inside.openings.items in
    let some = length-groups_of c.self.inside.tokens os in
    λ e. absurd (omega (
      arith,
      c.if-open_groups-gt0.true,
      c.len-open_groups.ensures,
      c.self.inside.openings.ok.0,
      length-reverse c.self.inside.openings.items,
      some,
      ap (λ (b : Builder). length b.tree.groups) c.self.view_is,
      ap length e,
    ))

pub returns-then-open_groups-gt0-clause-built : goal.returns-then-open_groups-gt0-clause-built
returns-then-open_groups-gt0-clause-built c =
    let os = reverse c.self.inside.openings.items in
    let some = length-groups_of c.self.inside.tokens os in (
      λ no. absurd (false≢true no),
      λ both. absurd (omega (
        arith,
        c.if-open_groups-gt0.true,
        c.len-open_groups.ensures,
        c.self.inside.openings.ok.0,
        length-reverse c.self.inside.openings.items,
        some,
        ap (λ (b : Builder). length b.tree.groups) c.self.view_is,
        ap length both.0,
      )),
    )

pub invariant_of-inside : goal.invariant_of-inside
invariant_of-inside c =
    let none : c.self.inside.openings.items ≡ [] =
    nil_from_length _ (omega (arith, c.if-open_groups-gt0.false, c.len-open_groups.ensures, c.self.inside.openings.ok.0)) in
    rw (c.tokens_after-tokens.ensures, c.past_head-start.ensures.count, c.start.ensures) (record { whole = whole c.self.inside.tokens _ c.self.invariant.0 none })

pub returns-then-not-is_one_group-clause-built : goal.returns-then-not-is_one_group-clause-built
unfolding forest
returns-then-not-is_one_group-clause-built c =
    let none : c.self.inside.openings.items ≡ [] =
    nil_from_length _ (omega (arith, c.if-open_groups-gt0.false, c.len-open_groups.ensures, c.self.inside.openings.ok.0)) in
    let refused : IsSome (only_group (forest_of (drop 1 c.self.inside.tokens))) → IsTrue false =
    rw (c.tokens_after-tokens.ensures, c.past_head-start.ensures.count, c.start.ensures) at c.if-not-is_one_group.ensures.1 in
    (λ e. absurd (grind (arith, e)), λ both. refused (rw (← c.self.view_is, none) at both.1))

pub invariant_of-result : goal.invariant_of-result
unfolding forest
invariant_of-result c =
    let tokens = c.self.inside.tokens in
    let none : c.self.inside.openings.items ≡ [] =
    nil_from_length _ (omega (arith, c.if-open_groups-gt0.false, c.len-open_groups.ensures, c.self.inside.openings.ok.0)) in
    let passed : IsSome (only_group (forest_of (drop 1 tokens))) = rw (c.tokens_after-tokens.ensures, c.past_head-start.ensures.count, c.start.ensures) at (c.if-not-is_one_group.ensures.0 refl) in
    rw (c.remove_head.ensures, c.start-2.ensures) (one tokens _ c.self.invariant.0 none passed, omega (arith, c.self.invariant.1, length-drop 1 tokens))

pub returns-clause-ok : goal.returns-clause-ok
unfolding forest
returns-clause-ok c =
    let tokens = c.self.inside.tokens in
    let none : c.self.inside.openings.items ≡ [] =
    nil_from_length _ (omega (arith, c.if-open_groups-gt0.false, c.len-open_groups.ensures, c.self.inside.openings.ok.0)) in
    let passed : IsSome (only_group (forest_of (drop 1 tokens))) = rw (c.tokens_after-tokens.ensures, c.past_head-start.ensures.count, c.start.ensures) at (c.if-not-is_one_group.ensures.0 refl) in
    rw (← c.self.view_is, none, c.remove_head.ensures, c.start-2.ensures) (only_of_one (drop 1 tokens) (one tokens _ c.self.invariant.0 none passed))

pub returns-clause-built : goal.returns-clause-built
unfolding forest
returns-clause-built c =
    let tokens = c.self.inside.tokens in
    let none : c.self.inside.openings.items ≡ [] =
    nil_from_length _ (omega (arith, c.if-open_groups-gt0.false, c.len-open_groups.ensures, c.self.inside.openings.ok.0)) in
    let passed : IsSome (only_group (forest_of (drop 1 tokens))) = rw (c.tokens_after-tokens.ensures, c.past_head-start.ensures.count, c.start.ensures) at (c.if-not-is_one_group.ensures.0 refl) in
    let is_one = one tokens _ c.self.invariant.0 none passed in
    (λ _. (rw (← c.self.view_is, none) refl, rw (← c.self.view_is, none, only_of_one (drop 1 tokens) is_one) refl), λ _. refl)

pub remove_head-requires : goal.remove_head-requires
remove_head-requires c = rw c.start-2.ensures (top_head _ _ c.self.invariant.5.heads)
