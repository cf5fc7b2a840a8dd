use Rattle.std.proofs.Common.{List, subst, ◌∙◌, sym, IsTrue, false}
use Rattle.std.proofs.lemmas.Bool.{false≢true}
use Rattle.tt_data.specs.declared.tree.TokenTree.{TokenTree}
use Rattle.tt.specs.Tops.{IsOneGroup}
use Rattle.tt.proofs.Groups.{one_of_top}
use Rattle.tt.proofs.top_subtree.TopSubtree.from_serialized.Goals as goal

pub returns-then-not-is_one_group-clause-malformed : goal.returns-then-not-is_one_group-clause-malformed
returns-then-not-is_one_group-clause-malformed c =
    let refused : IsOneGroup c.as_slice.result.now → IsTrue false = c.if-not-is_one_group.ensures.one.1 in
    let P : List TokenTree → Type 0 = λ tokens. IsOneGroup tokens in
    λ _ t same. absurd (false≢true (refused (subst P (same ∙ sym c.as_slice.ensures.value) (one_of_top t))))
