use Rattle.std.proofs.lemmas.Str.{IsCharBoundary-start}
use Rattle.client_texts.proofs.edit.edit_of.Goals as goal

pub returns-in-Whole-clause-start : goal.returns-in-Whole-clause-start
returns-in-Whole-clause-start c = IsCharBoundary-start c.args.text.now c.utf8.text
