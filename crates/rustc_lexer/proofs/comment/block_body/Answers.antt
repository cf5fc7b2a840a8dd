use Rattle.std.proofs.Common.{◌&&◌, arith, refl}
use Rattle.rustc_lexer.specs.Character.{is}
use Rattle.rustc_lexer.specs.Comments.{block_body}
use Rattle.rustc_lexer.proofs.ReadLemmas.{leads_on}
use Rattle.rustc_lexer.proofs.TokenLemmas.{chars_at_most}
use Rattle.rustc_lexer.proofs.BodyLemmas.{told_of, over_texts, comment_opens, comment_closes, comment_goes_on, room_for_one, room_opens, room_goes_on, room_closes}
use Rattle.rustc_lexer.proofs.comment.block_body.Goals as goal

pub overflow_add-depth : goal.overflow_add-depth
overflow_add-depth c =
    let room = room_for_one _ _ _ _ _ c.loop-c.invariant.2 c.in-Some.ensures.chars in
    omega (arith, room, chars_at_most c.args.text.now c.utf8.text)

pub loop-c-preserved-then-opens_comment : goal.loop-c-preserved-then-opens_comment
loop-c-preserved-then-opens_comment c =
    let opens = told_of (λ d. is "/" c.in-Some.c && is "*" d) _ _ _ _ c.opens_comment.ensures c.first-d.ensures c.if-opens_comment.true in (
      c.behind-rest.utf8,
      leads_on c.loop-c.invariant.1 (over_texts (block_body _) (block_body _) c.in-Some.ensures.chars c.behind-rest.ensures (comment_opens _ _ _ opens)),
      room_opens _ _ _ _ _ _ c.loop-c.invariant.2 c.in-Some.ensures.chars c.behind-rest.ensures,
    )

pub loop-c-preserved-then-not-ends_comment : goal.loop-c-preserved-then-not-ends_comment
loop-c-preserved-then-not-ends_comment c =
    let opens = told_of (λ d. is "/" c.in-Some.c && is "*" d) _ _ _ _ c.opens_comment.ensures c.first-d.ensures c.if-opens_comment.false in
    let ends = told_of (λ d. is "*" c.in-Some.c && is "/" d) _ _ _ _ c.ends_comment.ensures c.first-d.ensures c.if-not-ends_comment.true in (
      c.in-Some.ensures.utf8.1,
      leads_on c.loop-c.invariant.1 (over_texts (block_body _) (block_body _) c.in-Some.ensures.chars refl (comment_goes_on _ _ _ opens ends)),
      room_goes_on _ _ _ _ _ c.loop-c.invariant.2 c.in-Some.ensures.chars,
    )

pub loop-c-preserved : goal.loop-c-preserved
loop-c-preserved c =
    let opens = told_of (λ d. is "/" c.in-Some.c && is "*" d) _ _ _ _ c.opens_comment.ensures c.first-d.ensures c.if-opens_comment.false in
    let ends = told_of (λ d. is "*" c.in-Some.c && is "/" d) _ _ _ _ c.ends_comment.ensures c.first-d.ensures c.if-not-ends_comment.false in (
      c.behind-rest-else-depth-eq0.utf8,
      leads_on c.loop-c.invariant.1 (over_texts (block_body _) (block_body _) c.in-Some.ensures.chars c.behind-rest-else-depth-eq0.ensures (comment_closes _ _ _ opens ends c.if-depth-eq0.false)),
      room_closes _ _ _ _ _ _ c.loop-c.invariant.2 c.in-Some.ensures.chars c.behind-rest-else-depth-eq0.ensures,
    )
