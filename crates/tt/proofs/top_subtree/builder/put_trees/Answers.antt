use Rattle.std.proofs.Common.{◌≡◌, ◌++◌, ◌∙◌, ap, arith, length, sym}
use Rattle.tt_data.specs.Forest.{preorder}
use Rattle.token_bytes.specs.Items.{items}
use Rattle.token_bytes.proofs.MarkLemmas.{IsMarkIn-append, end_marked}
use Rattle.tt.specs.BuilderTokens.{alone_where}
use Rattle.tt.specs.Views.{forest}
use Rattle.tt.proofs.LastAlone.{put_alone}
use Rattle.tt.proofs.Limits.{size-whole}
use Rattle.tt.proofs.top_subtree.builder.put_trees.Goals as goal

pub extend-requires : goal.extend-requires
unfolding forest
extend-requires c =
    let list = items c.args.trees.tokens in
    let counts : c.len-2.result ≡ length list = c.len-2.ensures.len ∙ size-whole list c.args.trees.whole in
    record { room = omega (arith, c.if-room-len.false, c.len.ensures, c.requires, counts) }

pub set_last_alone-requires : goal.set_last_alone-requires
set_last_alone-requires c =
    rw (c.end-end.ensures, c.in_ok-extend.ensures.ok) (IsMarkIn-append _ c.args.tokens.now (items c.args.trees.tokens) (end_marked c.args.tokens.now))

pub returns-then-is_alone-clause-ok : goal.returns-then-is_alone-clause-ok
unfolding forest
returns-then-is_alone-clause-ok c =
    let f = forest c.args.trees in
    let added : c.extend.new.self ≡ c.args.tokens.now ++ preorder f =
    c.in_ok-extend.ensures.ok ∙ ap (λ l. c.args.tokens.now ++ l) (sym c.args.trees.whole) in
    let counts : c.end-end.result.count ≡ length c.args.tokens.now = ap (λ m. m.count) c.end-end.ensures in
    let some = rw added at c.set_last_alone.ensures.some in
    let none = rw added at c.set_last_alone.ensures.none in
    put_alone c.args.tokens.now c.set_last_alone.new.tokens f c.end-end.result.count counts some none
    ∙ ap (λ b. c.args.tokens.now ++ preorder (alone_where b f)) (sym c.if-is_alone.true)

pub returns-else-is_alone-clause-ok : goal.returns-else-is_alone-clause-ok
unfolding forest
returns-else-is_alone-clause-ok c =
    let f = forest c.args.trees in
    let added : c.extend.new.self ≡ c.args.tokens.now ++ preorder f =
    c.in_ok-extend.ensures.ok ∙ ap (λ l. c.args.tokens.now ++ l) (sym c.args.trees.whole) in
    added ∙ ap (λ b. c.args.tokens.now ++ preorder (alone_where b f)) (sym c.if-is_alone.false)
