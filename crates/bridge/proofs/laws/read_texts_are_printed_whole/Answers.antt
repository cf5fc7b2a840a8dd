use Rattle.std.proofs.Common.{arith}
use Rattle.bridge.proofs.EscapedLemmas.{escaped_long, escaped_short}
use Rattle.tt_data.specs.Walk.{walk}
use Rattle.bridge.proofs.ReadSpelledLemmas.{LeafLaws, TokenLaws, all_fit, comment_spelled, nothing_left_out, read_spelled, separated_spelled}
use Rattle.bridge.proofs.laws.read_texts_are_printed_whole.Goals as goal

pub returns-clause-escaped_text : goal.returns-clause-escaped_text
returns-clause-escaped_text c = λ text f u fits read.
    let laws : TokenLaws text = record {
      begin = c.tokens_begin.ensures text u;
      here = λ at left t ts. c.next_token.ensures.here text at left t ts u;
      others = λ at left t ts. c.next_token.ensures.others text at left t ts u;
      shape = λ at t. c.token_shapes.ensures.bytes text at t;
      within = λ at t. c.suffix_starts.ensures.within text at t;
      boundary = λ at t. c.suffix_starts.ensures.boundary text at t u;
      sums = c.token_lengths.ensures.whole;
      escaped = c.one_escaped_string.ensures;
    } in
    let leaves : LeafLaws (λ l. Unit {0}) text = record {
      leaf = λ at t more l fit. c.read_leaves_have_spellings.ensures.leaves text at t more l u (omega (arith, escaped_short text, fits));
      name = λ at t span fit. c.read_leaves_have_spellings.ensures.names text at t span u (omega (arith, escaped_short text, fits));
      comment = λ at t h style is_block class span fit. comment_spelled text laws fits at t h style is_block class span;
    } in
    nothing_left_out (walk f) (read_spelled text laws (λ l. Unit {0}) leaves f read (all_fit (walk f)))

pub returns-clause-escaped_pieces : goal.returns-clause-escaped_pieces
returns-clause-escaped_pieces c = λ text f u fits read.
    let laws : TokenLaws text = record {
      begin = c.tokens_begin.ensures text u;
      here = λ at left t ts. c.next_token.ensures.here text at left t ts u;
      others = λ at left t ts. c.next_token.ensures.others text at left t ts u;
      shape = λ at t. c.token_shapes.ensures.bytes text at t;
      within = λ at t. c.suffix_starts.ensures.within text at t;
      boundary = λ at t. c.suffix_starts.ensures.boundary text at t u;
      sums = c.token_lengths.ensures.whole;
      escaped = c.one_escaped_string.ensures;
    } in
    let leaves : LeafLaws (λ l. Unit {0}) text = record {
      leaf = λ at t more l fit. c.read_leaves_have_spellings.ensures.leaves text at t more l u (omega (arith, escaped_short text, fits));
      name = λ at t span fit. c.read_leaves_have_spellings.ensures.names text at t span u (omega (arith, escaped_short text, fits));
      comment = λ at t h style is_block class span fit. comment_spelled text laws fits at t h style is_block class span;
    } in
    nothing_left_out _ (separated_spelled f (read_spelled text laws (λ l. Unit {0}) leaves f read (all_fit (walk f))))

pub returns-clause-text : goal.returns-clause-text
returns-clause-text c = λ text f u fits. returns-clause-escaped_text c text f u (omega (arith, escaped_long text, fits))

pub returns-clause-pieces : goal.returns-clause-pieces
returns-clause-pieces c = λ text f u fits. returns-clause-escaped_pieces c text f u (omega (arith, escaped_long text, fits))
