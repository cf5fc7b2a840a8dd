use Rattle.std.proofs.Common.{◌≡◌, ◌∙◌, [], ap, sym, refl, Some}
use Rattle.token_bytes.specs.Packing.{records, table_after}
use Rattle.token_bytes.proofs.EqualLemmas.{same_stored}
use Rattle.token_bytes.proofs.PackingLemmas.{length-records}
use Rattle.tt.specs.Building.{Building, built, cut_back, point_of}
use Rattle.tt.specs.Tops.{tokens_of, tree_of}
use Rattle.tt.proofs.Groups.{tree_of-tokens_of}
use Rattle.tt.proofs.Reaching.{stands}
use Rattle.tt.proofs.laws.stored_trees.Goals as goal

pub returns-clause-same : goal.returns-clause-same
returns-clause-same c = λ a b. (
  λ parts. sym (tree_of-tokens_of a) ∙ ap tree_of ((same_stored (tokens_of a) (tokens_of b)).0 parts) ∙ tree_of-tokens_of b,
  λ e. (ap (λ t. records [] (tokens_of t)) e, ap (λ t. table_after [] (tokens_of t)) e),
)

pub returns-clause-size : goal.returns-clause-size
returns-clause-size c = λ t. length-records [] (tokens_of t)

same : (a b : Building) → Some a ≡ Some b → a ≡ b
same a b e = cc

pub returns-clause-restored : goal.returns-clause-restored
returns-clause-restored c = λ b t back reached cut.
    let is : back ≡ b = same back b (sym cut ∙ stands b t reached) in
    (ap (λ u. records [] (tokens_of (built u))) is, ap (λ u. table_after [] (tokens_of (built u))) is)
