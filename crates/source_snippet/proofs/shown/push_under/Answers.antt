use Rattle.std.proofs.Common.{◌∙◌, ◌++◌, List, ℕ, ap, sym, length, replicate}
use Rattle.std.proofs.lemmas.Iterator.{YieldsList-from_chars}
use Rattle.std.proofs.lemmas.Iterator.Consumers.{YieldsList-end}
use Rattle.std.proofs.lemmas.List.{map-id}
use Rattle.std.specs.Prelude.{string_bytes}
use Rattle.std.specs.List.{flat_map}
use Rattle.source_snippet.proofs.ShownLemmas.{one_more_under}
use Rattle.source_snippet.specs.Characters.{shown_character}
use Rattle.source_snippet.proofs.shown.push_under.Goals as goal

pub loop-c-preserved : goal.loop-c-preserved
loop-c-preserved c =
    one_more_under c.args.mark _ _ _ c.loop-c.yielded c.in-Some.c c.loop-c.invariant
    (c.in_ok-push_times.ensures ∙ ap (λ n. string_bytes c.loop-c.out ++ replicate n c.args.mark) c.width.ensures)

pub returns : goal.returns
returns c =
    let t = YieldsList-end (YieldsList-from_chars c.args.text.now c.utf8.text cc) c.loop-c.yielded _ c.loop-c.yielded_by _ _ c.in-None.is c.next.ensures.steps in
    c.loop-c.invariant
    ∙ ap (λ (cs : List ℕ). string_bytes c.args.out.now ++ replicate (length (flat_map shown_character cs)) c.args.mark) (sym (map-id c.loop-c.yielded) ∙ t.0)
