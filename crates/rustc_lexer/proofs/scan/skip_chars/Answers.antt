use Rattle.std.proofs.Common.{◌≡◌, ◌∙◌, sym, true, false, rules}
use Rattle.std.proofs.lemmas.Str.{IsUtf8-past_char}
use Rattle.rustc_lexer.proofs.RunLemmas.{skip_more, skip_stops, skip_ends}
use Rattle.rustc_lexer.proofs.scan.skip_chars.Goals as goal

pub returns-then-not-test : goal.returns-then-not-test
returns-then-not-test g c =
    let fails : g.T.CharTest.passes c.in-Some.c ≡ false = search rules in
    sym (skip_stops g.T.CharTest.passes _ _ _ c.in-Some.ensures.chars fails) ∙ c.loop-c.invariant.1

pub returns-in_default : goal.returns-in_default
returns-in_default g c = sym (skip_ends g.T.CharTest.passes _ c.in_default.ensures.chars) ∙ c.loop-c.invariant.1

pub loop-c-preserved : goal.loop-c-preserved
loop-c-preserved g c =
    let passes : g.T.CharTest.passes c.in-Some.c ≡ true = search rules in (
      IsUtf8-past_char _ _ _ c.loop-c.invariant.0 c.in-Some.ensures.bytes,
      sym (skip_more g.T.CharTest.passes _ _ _ c.in-Some.ensures.chars passes) ∙ c.loop-c.invariant.1,
    )
