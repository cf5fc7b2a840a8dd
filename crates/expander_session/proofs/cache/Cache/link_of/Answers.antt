use Rattle.std.proofs.Common.{◌≡◌, ◌∙◌, List, Some, ap, sym}
use Rattle.std.specs.Prelude.{slice_get}
use Rattle.expander_session.specs.MemoRefs.{plain_tops}
use Rattle.expander_scope.specs.Interning.{definition_tops}
use Rattle.expander_reparse.specs.RelativePieces.{tree_at}
use Rattle.expander_session.specs.declared.memo_ref.MemoRef.{MemoRef}
use Rattle.expander_session.proofs.MemoRefLemmas.{met_link}
use Rattle.expander_session.proofs.cache.Cache.link_of.Goals as goal

pub returns : goal.returns
returns c =
    let stands : slice_get c.args.self.now.links.items c.in-Some.at ≡ Some c.in-Some-link_at.link =
    ap (λ (links : List MemoRef). slice_get links c.in-Some.at) (sym c.as_slice.ensures.value) ∙ c.in-Some-link_at.ensures in
    met_link (plain_tops c.args.self.now.plains.items) (definition_tops c.args.self.now.definitions.items) c.args.self.now.sources c.args.self.now.links.items
    c.args.own.now.met (tree_at c.args.own.now) c.requires.linked c.requires.met c.in-Some.at c.in-Some.is c.in-Some-link_at.link stands
