use Rattle.std.proofs.Common.{◌∙◌, ◌++◌, List, ℕ, ap, sym}
use Rattle.std.proofs.lemmas.Iterator.{YieldsList-from_chars}
use Rattle.std.proofs.lemmas.Iterator.Consumers.{YieldsList-end}
use Rattle.std.proofs.lemmas.List.{map-id}
use Rattle.std.specs.Prelude.{encode_utf8_all, string_bytes}
use Rattle.std.specs.List.{flat_map}
use Rattle.program_files.proofs.ShownLemmas.{one_more_character}
use Rattle.program_files.specs.Shown.{shown_character}
use Rattle.program_files.proofs.shown.push_shown.Goals as goal

pub loop-c-preserved : goal.loop-c-preserved
loop-c-preserved c = one_more_character _ _ _ c.loop-c.yielded c.in-Some.c c.loop-c.invariant c.in_ok-push_character.ensures

pub returns : goal.returns
returns c =
    let t = YieldsList-end (YieldsList-from_chars c.args.text.now c.utf8.text cc) c.loop-c.yielded _ c.loop-c.yielded_by _ _ c.in-None.is c.next.ensures.steps in
    c.loop-c.invariant ∙ ap (λ (cs : List ℕ). string_bytes c.args.line.now ++ encode_utf8_all (flat_map shown_character cs)) (sym (map-id c.loop-c.yielded) ∙ t.0)
