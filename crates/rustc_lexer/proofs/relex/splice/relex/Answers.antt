use Rattle.std.proofs.Common.{◌≡◌, ◌<◌, length, chars, arith}
use Rattle.rustc_lexer.specs.Lexing.{tokens_of}
use Rattle.rustc_lexer.specs.Relexing.{total}
use Rattle.rustc_lexer.proofs.TokensAtLemmas.{lengths_whole}
use Rattle.rustc_lexer.proofs.MeetingLemmas.{walk_begins, walk_left, walk_new, walk_old, walk_room, walk_ends}
use Rattle.rustc_lexer.proofs.relex.splice.relex.Goals as goal

pub loop-place-init : goal.loop-place-init
loop-place-init c =
    let whole : total (tokens_of (chars c.args.text.now)) ≡ length c.args.text.now = lengths_whole c.args.text.now c.utf8.text in
    walk_begins _ _ _ _ _ _ (omega (arith, whole, c.requires.same_end)) c.new-fresh.ensures.items c.tokenize-tokens.ensures

pub lex_one-requires : goal.lex_one-requires
lex_one-requires c = walk_left _ _ _ _ _ _ _ _ _ c.loop-place.invariant c.if-place-boundary.true

pub loop-place-preserved-then-place-boundary : goal.loop-place-preserved-then-place-boundary
loop-place-preserved-then-place-boundary c =
    let one = c.in_ok-place.ensures.lexed in
    rw one.3 (walk_new _ _ _ _ _ _ _ _ _ _ _ _ c.loop-place.invariant c.if-place-boundary.true one.1 one.2)

pub loop-place-preserved : goal.loop-place-preserved
loop-place-preserved c =
    let w = c.loop-place.invariant in
    let before : c.loop-place.boundary < c.loop-place.place = omega arith in
    walk_old _ _ _ _ _ _ _ _ _ _ w before (walk_room _ _ _ _ _ _ _ _ _ w before)

pub returns-clause-fresh : goal.returns-clause-fresh
returns-clause-fresh c = (walk_ends _ _ _ _ _ _ _ _ _ c.loop-place.invariant c.loop-place-test.false).1

pub returns-clause-count : goal.returns-clause-count
returns-clause-count c = (walk_ends _ _ _ _ _ _ _ _ _ c.loop-place.invariant c.loop-place-test.false).0
