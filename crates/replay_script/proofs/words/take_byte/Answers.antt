use Rattle.std.proofs.Common.{Bool, List, ℕ, ap, sym, ◌∙◌, ◌∷◌, false}
use Rattle.replay_script.specs.LineReads.{left_of}
use Rattle.replay_script.proofs.LineLemmas.{left_meant, left_plain}
use Rattle.replay_script.proofs.words.take_byte.Goals as goal

pub returns-then-is_escape : goal.returns-then-is_escape
returns-then-is_escape c = λ rest.
    let bytes = c.args.bytes.now.items in
    ap (λ (b : Bool). left_of b bytes (c.args.byte ∷ rest)) c.if-is_escape.true
    ∙ left_meant bytes rest c.args.byte c.in-Some.meant (sym c.escape_of.ensures ∙ c.in-Some.is)
    ∙ ap (λ (xs : List ℕ). left_of false xs rest) (sym c.in_ok-push.ensures.items)

pub returns : goal.returns
returns c = λ rest.
    let bytes = c.args.bytes.now.items in
    ap (λ (b : Bool). left_of b bytes (c.args.byte ∷ rest)) c.if-is_escape.false
    ∙ left_plain bytes rest c.args.byte (sym c.is_backslash.ensures ∙ c.if-is_backslash.false)
    ∙ ap (λ (xs : List ℕ). left_of false xs rest) (sym c.in_ok-push-2.ensures.items)
