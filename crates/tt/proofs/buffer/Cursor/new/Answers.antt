use Rattle.std.proofs.lemmas.List.Elements.{All-nil}
use Rattle.tt.specs.CursorTokens.{IsKept}
use Rattle.token_bytes.specs.Items.{items}
use Rattle.tt.specs.Views.{forest}
use Rattle.tt.proofs.CursorLemmas.{at_beginning}
use Rattle.token_bytes.proofs.TokensLemmas.{start_placed}
use Rattle.tt.proofs.PlaceLemmas.{found, placed}
use Rattle.tt.proofs.buffer.Cursor.new.Goals as goal

pub invariant_of-result : goal.invariant_of-result
invariant_of-result c =
    let tokens = items c.args.origin.tokens in
    let begins = start_placed _ tokens c.start.ensures in
    let stands = start_placed _ tokens c.start-2.ensures in (
      rw (c.start.ensures, c.start-2.ensures) (placed _ _ _ _ (at_beginning _ c.args.origin.whole)),
      rw c.new.ensures (All-nil (IsKept tokens)),
      record { begins = begins; stands = stands },
    )

pub returns : goal.returns
unfolding forest
returns c = rw (c.start.ensures, c.start-2.ensures) (found _ _ _ _ (at_beginning _ c.args.origin.whole))
