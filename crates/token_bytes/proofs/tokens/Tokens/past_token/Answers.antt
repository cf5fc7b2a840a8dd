use Rattle.std.proofs.Common.{◌∙◌, ◌<◌, ◌+◌, ap, arith, drop, length, length-drop, option_map, sym}
use Rattle.token_bytes.specs.Items.{items, records_in, texts_in}
use Rattle.token_bytes.specs.Records.{first_token}
use Rattle.token_bytes.proofs.RecordLemmas.{first_size-bound}
use Rattle.token_bytes.proofs.TokensLemmas.{count_fits, first_item, first_size-token, length-items, place_fits, place_most, place_next}
use Rattle.token_bytes.proofs.tokens.Tokens.past_token.Goals as goal

pub overflow_add-result : goal.overflow_add-result
overflow_add-result c = omega (
  arith,
  c.requires.some,
  length-items c.args.self,
  count_fits (option_map (λ s. s.now) c.args.self.stored) c.args.self.at c.args.self.count c.args.self.decoded,
  c.stored_size-size.ensures.size,
  c.stored_size-size.ensures.fits,
)

pub first_size-requires : goal.first_size-requires
first_size-requires c = omega (
  arith,
  c.requires.some,
  length-items c.after-rest.result,
  ap length c.after-rest.ensures,
  length-drop c.args.at.count (items c.args.self),
)

pub overflow_add-result-2 : goal.overflow_add-result-2
overflow_add-result-2 c = omega (
  arith,
  place_most c.args.at (items c.args.self) c.requires.marked,
  place_fits c.args.at (items c.args.self) c.requires.marked,
  length-items c.args.self,
  count_fits (option_map (λ s. s.now) c.args.self.stored) c.args.self.at c.args.self.count c.args.self.decoded,
  c.stored_size-size.ensures.size,
  c.stored_size-size.ensures.fits,
  c.first_size.ensures,
  first_size-bound (records_in c.after-rest.result),
)

pub returns-clause-marked : goal.returns-clause-marked
returns-clause-marked c =
    let rest = c.after-rest.result in
    let t = first_token (texts_in rest) (records_in rest) in
    let some : 0 < rest.count = omega (
      arith,
      c.requires.some,
      length-items rest,
      ap length c.after-rest.ensures,
      length-drop c.args.at.count (items c.args.self),
    ) in
    place_next c.args.at (items c.args.self) (drop 1 (items rest)) t _ c.requires.marked (sym c.after-rest.ensures ∙ first_item rest some)
    (ap (λ n. c.args.at.bytes + n) (c.first_size.ensures ∙ first_size-token (texts_in rest) (records_in rest)))
