use Rattle.std.proofs.Common.{slice_index_or, chars}
use Rattle.std.proofs.lemmas.List.Elements.{All-get_or}
use Rattle.rustc_lexer.specs.Lexing.{tokens_of}
use Rattle.rustc_lexer.specs.Relexing.{IsCheckpoint}
use Rattle.rustc_lexer.proofs.NearLemmas.{checkpoint_boundary}
use Rattle.rustc_lexer.proofs.relex.checkpoints.nearest.Goals as goal

pub is_clear-requires-clause-at : goal.is_clear-requires-clause-at
is_clear-requires-clause-at c =
    checkpoint_boundary c.args.text.now (slice_index_or c.args.checkpoints.now c.loop-k.k (record { tokens = 0; place = 0 })) c.utf8.text
    (All-get_or (IsCheckpoint (tokens_of (chars c.args.text.now))) c.args.checkpoints.now c.loop-k.k (record { tokens = 0; place = 0 }) c.loop-k-test.true c.requires.checkpoints)
