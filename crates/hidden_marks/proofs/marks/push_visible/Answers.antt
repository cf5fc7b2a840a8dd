use Rattle.std.proofs.Common.{◌∙◌, sym}
use Rattle.hidden_marks.proofs.MarkLemmas.{marked_is_small}
use Rattle.hidden_marks.proofs.marks.push_visible.Goals as goal

pub push_mark-requires : goal.push_mark-requires
push_mark-requires c = marked_is_small c.args.c (sym c.is_marked.ensures ∙ c.if-is_marked.true)
