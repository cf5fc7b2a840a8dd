use Rattle.std.proofs.Common.{[]}
use Rattle.rustc_lexer.proofs.ReadLemmas.{leads_on, read_at_end}
use Rattle.rustc_lexer.proofs.BodyLemmas.{string_at_mark, string_goes_on, string_ends, string_unended, shorter_still}
use Rattle.rustc_lexer.proofs.literal.string_body.Goals as goal

pub returns-in_default : goal.returns-in_default
returns-in_default c =
    read_at_end (leads_on c.loop-c.invariant.1 (string_at_mark _ _ [] 0 c.from_quote_or_escape-mark.ensures))
    (string_unended _ c.in_default.ensures.chars c.from_quote_or_escape-mark.utf8)

pub returns-then-c-eq34 : goal.returns-then-c-eq34
returns-then-c-eq34 c =
    read_at_end (leads_on c.loop-c.invariant.1 (string_at_mark _ _ [] 0 c.from_quote_or_escape-mark.ensures))
    (string_ends _ _ _ c.in-Some.ensures.chars c.if-c-eq34.true c.in-Some.ensures.utf8.1)

pub loop-c-smaller : goal.loop-c-smaller
loop-c-smaller c = shorter_still _ _ _ _ _ _ c.from_quote_or_escape-mark.ensures c.in-Some.ensures.chars c.behind-rest.ensures

pub loop-c-preserved : goal.loop-c-preserved
loop-c-preserved c = (
  c.behind-rest.utf8,
  leads_on c.loop-c.invariant.1
      (string_goes_on _ _ _ _ c.from_quote_or_escape-mark.ensures _ c.in-Some.ensures.chars c.if-c-eq34.false c.behind-rest.ensures),
)
