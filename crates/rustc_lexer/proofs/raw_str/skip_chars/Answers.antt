use Rattle.std.proofs.Common.{◌∙◌, ap, drop, chars}
use Rattle.std.proofs.lemmas.List.{drop-drop}
use Rattle.rustc_lexer.proofs.raw_str.skip_chars.Goals as goal

pub loop-preserved : goal.loop-preserved
loop-preserved c = (
  c.behind-rest.utf8,
  c.behind-rest.ensures ∙ ap (drop 1) c.loop.invariant.1 ∙ drop-drop 1 c.loop.counter (chars c.args.text.now),
)
