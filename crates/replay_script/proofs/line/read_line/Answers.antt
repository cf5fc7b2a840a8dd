use Rattle.std.proofs.Common.{◌∷◌, ◌++◌, [], ap, inl, inr, refl, subst, sym, ◌∙◌, List, ℕ}
use Rattle.std.specs.Prelude.{IfOk}
use Rattle.replay_script.proofs.EditLemmas.{is_empty, has_mark, lacks_all, lacks_before, lacks_mark, read_whole}
use Rattle.replay_script.specs.LineReads.{IsReadAs}
use Rattle.replay_script.specs.Words.{Lacks}
use Rattle.replay_script.proofs.line.read_line.Goals as goal

pub returns-in_default : goal.returns-in_default
returns-in_default c = absurd (c.requires.some (is_empty c.args.bytes.now c.in_default.ensures.cases))

pub returns-then-last-ne10 : goal.returns-then-last-ne10
returns-then-last-ne10 c =
    inl (c.requires.some, lacks_all c.args.bytes.now c.in-Some.line.now c.in-Some.last.now c.requires.stops c.in-Some.ensures.cases.0 c.if-last-ne10.true, refl)

pub returns-in_default-from_utf8 : goal.returns-in_default-from_utf8
returns-in_default-from_utf8 c =
    let is = c.in-Some.ensures.cases.0 in
    inr (
      c.in-Some.line.now,
      is ∙ ap (λ (b : ℕ). c.in-Some.line.now ++ b ∷ []) c.if-last-ne10.false,
      lacks_before c.args.bytes.now c.in-Some.line.now c.in-Some.last.now c.requires.stops is,
      c.in_default-from_utf8.ensures.cases.0,
    )

pub returns-then-is_some : goal.returns-then-is_some
returns-then-is_some c =
    let is = c.in-Some.ensures.cases.0 in
    inr (
      c.in-Some.line.now,
      is ∙ ap (λ (b : ℕ). c.in-Some.line.now ++ b ∷ []) c.if-last-ne10.false,
      lacks_before c.args.bytes.now c.in-Some.line.now c.in-Some.last.now c.requires.stops is,
      λ lacks. has_mark 13 c.in-Ok.line.now c.cut_at.result (λ p. p.0.now) (λ p. p.1.now) c.cut_at.ensures (sym c.if-is_some.ensures)
          (subst (Lacks 13) (sym c.in-Ok.ensures.cases.0) lacks),
    )

pub returns : goal.returns
returns c =
    let is = c.in-Some.ensures.cases.0 in
    let same = c.in-Ok.ensures.cases.0 in
    read_whole c.args.bytes.now c.in-Some.line.now c.line_of.result
    (is ∙ ap (λ (b : ℕ). c.in-Some.line.now ++ b ∷ []) c.if-last-ne10.false)
    (lacks_before c.args.bytes.now c.in-Some.line.now c.in-Some.last.now c.requires.stops is)
    c.in-Ok.ensures.cases.1
    (subst (Lacks 13) same (lacks_mark 13 c.in-Ok.line.now c.cut_at.result (λ p. p.0.now) (λ p. p.1.now) c.cut_at.ensures (sym c.if-is_some.ensures)))
    (subst (λ (l : List ℕ). IfOk c.line_of.result (IsReadAs l)) same c.line_of.ensures)
