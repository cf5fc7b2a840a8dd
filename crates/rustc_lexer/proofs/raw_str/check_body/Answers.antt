use Rattle.std.proofs.Common.{chars, sym, ◌∙◌, arith}
use Rattle.rustc_lexer.proofs.BodyLemmas.{raw_at_mark, raw_goes_on, raw_unended, shorter_behind}
use Rattle.rustc_lexer.proofs.RawFormLemmas.{after_shorter, finds_more, finds_no_more, found_all, is_terminated, too_few, with_end, without_end}
use Rattle.rustc_lexer.proofs.ReadLemmas.{leads_on}
use Rattle.rustc_lexer.proofs.raw_str.check_body.Goals as goal

pub read_hashes-hashes-requires : goal.read_hashes-hashes-requires
read_hashes-hashes-requires c =
    let l = after_shorter _ _ c.from_quote.ensures _ _ c.loop-after.invariant.0 c.from_quote.utf8 c.in-Some.ensures.utf8.1 c.in-Some.ensures.chars in
    omega (arith, l, c.loop-after.invariant.1, c.requires)

pub returns-then-hashes-n : goal.returns-then-hashes-n
returns-then-hashes-n c =
    let to_mark = leads_on c.loop-after.invariant.2 (raw_at_mark _ _ _ c.from_quote.ensures) in
    with_end c.args.start c.args.n (chars c.args.body.now) (sym to_mark.value
    ∙ is_terminated _ _ c.from_quote.ensures _ _ _ _ c.in-Some.ensures.chars c.read_hashes-hashes.ensures.value c.if-hashes-n.true)

pub overflow_sub-possible_terminator_offset : goal.overflow_sub-possible_terminator_offset
overflow_sub-possible_terminator_offset c =
    let l = after_shorter _ _ c.from_quote.ensures _ _ c.loop-after.invariant.0 c.from_quote.utf8 c.in-Some.ensures.utf8.1 c.in-Some.ensures.chars in
    omega (arith, l, c.loop-after.invariant.1)

pub loop-after-smaller-then-hashes-found : goal.loop-after-smaller-then-hashes-found
loop-after-smaller-then-hashes-found c = shorter_behind _ _ _ _ _ c.from_quote.ensures c.in-Some.ensures.chars

pub loop-after-smaller : goal.loop-after-smaller
loop-after-smaller c = shorter_behind _ _ _ _ _ c.from_quote.ensures c.in-Some.ensures.chars

pub loop-after-preserved-then-hashes-found : goal.loop-after-preserved-then-hashes-found
loop-after-preserved-then-hashes-found c =
    let l = after_shorter _ _ c.from_quote.ensures _ _ c.loop-after.invariant.0 c.from_quote.utf8 c.in-Some.ensures.utf8.1 c.in-Some.ensures.chars in (
      c.in-Some.ensures.utf8.1,
      omega (arith, l, c.loop-after.invariant.1),
      leads_on c.loop-after.invariant.2
          (raw_goes_on _ _ _ c.from_quote.ensures _ _ c.in-Some.ensures.chars (too_few _ _ (chars c.in-Some.after.now) c.read_hashes-hashes.ensures.value c.if-hashes-n.false)),
      finds_more _ _ c.from_quote.ensures _ _ _ _ _ _ _ c.in-Some.ensures.chars c.read_hashes-hashes.ensures.value c.if-hashes-found.true
          c.utf8.body c.in-Some.ensures.utf8.1 c.loop-after.invariant.3,
    )

pub loop-after-preserved : goal.loop-after-preserved
loop-after-preserved c =
    let l = after_shorter _ _ c.from_quote.ensures _ _ c.loop-after.invariant.0 c.from_quote.utf8 c.in-Some.ensures.utf8.1 c.in-Some.ensures.chars in (
      c.in-Some.ensures.utf8.1,
      omega (arith, l, c.loop-after.invariant.1),
      leads_on c.loop-after.invariant.2
          (raw_goes_on _ _ _ c.from_quote.ensures _ _ c.in-Some.ensures.chars (too_few _ _ (chars c.in-Some.after.now) c.read_hashes-hashes.ensures.value c.if-hashes-n.false)),
      finds_no_more _ _ c.from_quote.ensures _ _ _ _ _ _ _ c.in-Some.ensures.chars c.read_hashes-hashes.ensures.value
          (λ more. omega (arith, more, c.if-hashes-found.false)) c.loop-after.invariant.3,
    )

pub returns : goal.returns
returns c =
    let to_mark = leads_on c.loop-after.invariant.2 (raw_at_mark _ _ _ c.from_quote.ensures) in
    without_end c.args.start c.args.n (chars c.args.body.now) _ _ (sym to_mark.value ∙ sym (raw_unended _ _ c.in_default.ensures.chars c.from_quote.utf8).value)
    (found_all _ _ c.from_quote.ensures _ _ _ _ c.in_default.ensures.chars c.loop-after.invariant.3) c.loop-after.invariant.3.possible
