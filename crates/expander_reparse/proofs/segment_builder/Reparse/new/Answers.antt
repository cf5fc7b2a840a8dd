use Rattle.std.proofs.Common.{List, rules, subst, sym}
use Rattle.rustc_lexer.specs.declared.token.Token.{Token}
use Rattle.rustc_lexer.specs.TokensAt.{AreTokensFrom}
use Rattle.expander_reparse.specs.Reparsing.{IsBegun, IsReparse}
use Rattle.expander_reparse.specs.declared.segment_builder.Reparse.{Reparse}
use Rattle.expander_reparse.proofs.SegmentBuilderLemmas.{nothing_passed}
use Rattle.expander_reparse.proofs.segment_builder.Reparse.new.Goals as goal

pub returns : goal.returns
returns c = λ text here is.
    let now : Reparse = record { own = c.in_ok-own.own; list = c.in_ok-list.list; begun = c.begin.result; seeker = c.new.result } in
    subst (λ (ts : List Token). IsReparse c.args.held.now text 0 ts now) (sym is)
    (nothing_passed c.args.held.now text now (subst (AreTokensFrom text 0) is here) (search rules) (search rules)
    (subst (λ (ts : List Token). IsBegun text 0 ts now.begun) is (c.begin.ensures.begun text here)) c.begin.ensures.first c.begin.ensures.parts)
