use Rattle.std.proofs.Common.{◌∙◌, ◌∷◌, ap, sym}
use Rattle.token_bytes.specs.Items.{records_in, texts_in}
use Rattle.token_bytes.specs.Records.{first_token}
use Rattle.token_bytes.proofs.TokensLemmas.{first_item}
use Rattle.token_bytes.proofs.tokens.Tokens.rest.Goals as goal

pub returns : goal.returns
returns c =
    let t = c.args.self in
    first_item t c.requires ∙ ap (λ l. first_token (texts_in t) (records_in t) ∷ l) (sym c.past.ensures)
