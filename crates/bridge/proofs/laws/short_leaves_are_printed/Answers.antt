use Rattle.tt_data.specs.Walk.{walk}
use Rattle.bridge.specs.Lengths.{IsShort}
use Rattle.bridge.specs.Pieces.{separated}
use Rattle.bridge.proofs.LengthLemmas.{fit_of, not_separated, printed_short}
use Rattle.bridge.proofs.ReadSpelledLemmas.{LeafLaws, TokenLaws, nothing_left_out, read_spelled, separated_spelled, short_comment_spelled}
use Rattle.bridge.proofs.laws.short_leaves_are_printed.Goals as goal

pub returns-clause-text : goal.returns-clause-text
returns-clause-text c = λ text f u read.
    let laws : TokenLaws text = record {
      begin = c.tokens_begin.ensures text u;
      here = λ at left t ts. c.next_token.ensures.here text at left t ts u;
      others = λ at left t ts. c.next_token.ensures.others text at left t ts u;
      shape = λ at t. c.token_shapes.ensures.bytes text at t;
      within = λ at t. c.suffix_starts.ensures.within text at t;
      boundary = λ at t. c.suffix_starts.ensures.boundary text at t u;
      sums = c.token_lengths.ensures.whole;
      escaped = c.one_escaped_string.ensures;
    } in
    let leaves : LeafLaws IsShort text = record {
      leaf = λ at t more l fit. c.read_leaves_have_spellings.ensures.short_leaves text at t more l u fit;
      name = λ at t span fit. c.read_leaves_have_spellings.ensures.short_names text at t span u fit;
      comment = short_comment_spelled text laws;
    } in
    (printed_short (walk f), λ short. nothing_left_out (walk f) (read_spelled text laws IsShort leaves f read (fit_of (walk f) short)))

pub returns-clause-pieces : goal.returns-clause-pieces
returns-clause-pieces c = λ text f u read.
    let laws : TokenLaws text = record {
      begin = c.tokens_begin.ensures text u;
      here = λ at left t ts. c.next_token.ensures.here text at left t ts u;
      others = λ at left t ts. c.next_token.ensures.others text at left t ts u;
      shape = λ at t. c.token_shapes.ensures.bytes text at t;
      within = λ at t. c.suffix_starts.ensures.within text at t;
      boundary = λ at t. c.suffix_starts.ensures.boundary text at t u;
      sums = c.token_lengths.ensures.whole;
      escaped = c.one_escaped_string.ensures;
    } in
    let leaves : LeafLaws IsShort text = record {
      leaf = λ at t more l fit. c.read_leaves_have_spellings.ensures.short_leaves text at t more l u fit;
      name = λ at t span fit. c.read_leaves_have_spellings.ensures.short_names text at t span u fit;
      comment = short_comment_spelled text laws;
    } in (
      (λ e. not_separated f (printed_short (walk (separated f)) e)),
      λ short. nothing_left_out _ (separated_spelled f (read_spelled text laws IsShort leaves f read (fit_of (walk f) short))),
    )
