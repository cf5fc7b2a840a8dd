use Rattle.std.proofs.Common.{◌≡◌, ◌∷◌, ◌∙◌, ap, arith, length}
use Rattle.std.proofs.lemmas.Bool.{eqb-true}
use Rattle.tt_data.specs.declared.tree.TokenTree.TheVariants as token
use Rattle.tt.proofs.Groups.{group_of, one_from, one_counts}
use Rattle.tt.proofs.flatten.is_one_group.Goals as goal

pub returns-then-counted-inside-clause-one : goal.returns-then-counted-inside-clause-one
returns-then-counted-inside-clause-one c =
    let head = c.in-Some-Subtree-default.head in
    let inside = c.in-Some-Subtree-default.inside.now in
    let all : c.args.tts.now ≡ token.Subtree head ∷ inside =
    c.in-Some-Subtree-default.ensures.cases.0 ∙ ap (λ t. t ∷ inside) c.in-Some-Subtree-default.field-0-0-is in
    let counts : head.len ≡ length inside = c.if-counted-inside.true in
    rw all (
      λ flat. one_from head inside counts (c.is_flat.ensures.0 flat),
      λ one. c.is_flat.ensures.1 (group_of (token.Subtree head ∷ inside) one).inside_whole,
    )

pub returns-then-counted-inside-clause-room : goal.returns-then-counted-inside-clause-room
returns-then-counted-inside-clause-room c = λ _.
    omega (arith, c.in-Some-Subtree-default.ensures.cases.1, c.if-counted-inside.true)

pub returns-else-counted-inside-clause-one : goal.returns-else-counted-inside-clause-one
returns-else-counted-inside-clause-one c =
    let head = c.in-Some-Subtree-default.head in
    let inside = c.in-Some-Subtree-default.inside.now in
    let all : c.args.tts.now ≡ token.Subtree head ∷ inside =
    c.in-Some-Subtree-default.ensures.cases.0 ∙ ap (λ t. t ∷ inside) c.in-Some-Subtree-default.field-0-0-is in
    rw all (
      λ same. absurd (c.if-counted-inside.false (eqb-true head.len (length inside) same)),
      λ one. absurd (c.if-counted-inside.false (one_counts head inside one)),
    )
