use Rattle.std.proofs.Common.{◌++◌, ◌∷◌, [], ap, ◌∙◌}
use Rattle.tt.specs.CursorTokens.{IsKept}
use Rattle.tt.proofs.KeptLemmas.{one_more, one_for_another}
use Rattle.tt.proofs.buffer.keep.Goals.{then-is_full, else-is_full}
use Rattle.tt.proofs.buffer.keep.Goals as goal

pub returns : goal.returns
returns c =
    λ tokens all one. elim c.if-is_full.branch [
      | then-is_full w ↦ one_for_another (IsKept tokens) _ _ _ _ c.args.list (c.push.ensures.items ∙ ap (λ v. v.items ++ c.args.list ∷ []) w.kept-is)
          w.remove.ensures.items all one
      | else-is_full w ↦ one_more (IsKept tokens) _ _ c.args.list (c.push.ensures.items ∙ ap (λ v. v.items ++ c.args.list ∷ []) w.kept-is) all one
    ]
