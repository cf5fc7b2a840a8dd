use Rattle.std.proofs.Common.{◌∙◌, subst}
use Rattle.token_bytes.specs.Runs.{AreDecoded}
use Rattle.token_bytes.proofs.MarkLemmas.{length-tokens_in}
use Rattle.token_bytes.proofs.RunLemmas.{decoded_packed}
use Rattle.token_bytes.proofs.StartLemmas.{starts_begin}
use Rattle.token_bytes.proofs.buffer.TokenBuffer.tokens.Goals as goal

pub of-requires : goal.of-requires
of-requires c =
    let bytes = c.self.inside.stored.records in
    let table = c.self.inside.stored.texts.texts.items in
    record {
      decoded = subst (λ n. AreDecoded n table bytes) (length-tokens_in c.self.inside.count table bytes) (decoded_packed _ bytes table c.self.invariant.0);
      starts = starts_begin 64 c.self.inside.stored.starts.items c.self.inside.count table bytes c.self.invariant.2;
    }

pub returns : goal.returns
returns c = c.of.ensures.items ∙ c.self.view_is
