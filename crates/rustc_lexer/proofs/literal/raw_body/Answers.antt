use Rattle.rustc_lexer.proofs.ReadLemmas.{leads_on, read_at_end}
use Rattle.rustc_lexer.proofs.BodyLemmas.{raw_at_mark, raw_goes_on, raw_ends, raw_unended, shorter_behind}
use Rattle.rustc_lexer.proofs.literal.raw_body.Goals as goal

pub returns-in_default : goal.returns-in_default
returns-in_default c =
    read_at_end (leads_on c.loop-after.invariant.1 (raw_at_mark _ _ _ c.from_quote-mark.ensures))
    (raw_unended _ _ c.in_default.ensures.chars c.from_quote-mark.utf8)

pub returns-in-Some-skip_hashes : goal.returns-in-Some-skip_hashes
returns-in-Some-skip_hashes c =
    read_at_end (leads_on c.loop-after.invariant.1 (raw_at_mark _ _ _ c.from_quote-mark.ensures))
    (raw_ends _ _ _ c.from_quote-mark.ensures _ _ _ c.in-Some.ensures.chars
    c.in-Some-skip_hashes.ensures.hashes.0 c.in-Some-skip_hashes.ensures.hashes.1 c.in-Some-skip_hashes.ensures.utf8)

pub loop-after-smaller : goal.loop-after-smaller
loop-after-smaller c = shorter_behind _ _ _ _ _ c.from_quote-mark.ensures c.in-Some.ensures.chars

pub loop-after-preserved : goal.loop-after-preserved
loop-after-preserved c = (
  c.in-Some.ensures.utf8.1,
  leads_on c.loop-after.invariant.1
      (raw_goes_on _ _ _ c.from_quote-mark.ensures _ _ c.in-Some.ensures.chars c.in_default-skip_hashes.ensures.hashes),
)
