use Rattle.token_bytes.specs.Items.{records_in, texts_in}
use Rattle.token_bytes.proofs.TokensLemmas.{first_there}
use Rattle.token_bytes.proofs.tokens.Tokens.parts.Goals as goal

pub returns-clause-begins : goal.returns-clause-begins
returns-clause-begins c =
    let t = c.args.self in
    rw (c.table.ensures, c.records.ensures) (first_there t.count (texts_in t) (records_in t) c.requires t.decoded)
