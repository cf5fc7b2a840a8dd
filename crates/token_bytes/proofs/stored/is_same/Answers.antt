use Rattle.std.proofs.Common.{◌≡◌, ◌∙◌, ap, sym, nat_eq, true}
use Rattle.std.specs.Cmp.Lexicographic.{pointwise}
use Rattle.token_bytes.proofs.EqualLemmas.{by_test}
use Rattle.token_bytes.proofs.stored.is_same.Goals as goal

pub returns-then-eq : goal.returns-then-eq
returns-then-eq c =
    let a = c.args.left.now in
    let b = c.args.right.now in
    let bytes : pointwise nat_eq a.records b.records ≡ true =
    ap (λ l. pointwise nat_eq l b.records) (sym c.bytes.ensures) ∙ ap (pointwise nat_eq c.bytes.result.now) (sym c.bytes-2.ensures) ∙ sym c.if-eq.ensures in
    by_test a.records b.records a.texts.texts.items b.texts.texts.items c.eq-then-eq.result bytes
    (c.eq-then-eq.ensures ∙ ap (λ l. pointwise (pointwise nat_eq) l c.as_slice-then-eq.result.now) c.as_slice.ensures.value
    ∙ ap (pointwise (pointwise nat_eq) a.texts.texts.items) c.as_slice-then-eq.ensures.value)
