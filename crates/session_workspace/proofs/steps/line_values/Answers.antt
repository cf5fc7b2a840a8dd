use Rattle.std.proofs.Common.{◌≡◌, ◌∙◌, ◌++◌, ◌∷◌, [], ap, map, rules}
use Rattle.std.proofs.lemmas.List.{map-append}
use Rattle.serde_json.specs.View.{view}
use Rattle.session_workspace.proofs.LineLemmas.{last_line, no_line, one_line}
use Rattle.session_workspace.proofs.steps.line_values.Goals as goal

pub returns : goal.returns
returns c = last_line c.args.text.now c.loop-line.rest.now (map view c.loop-line.all.items)
    c.in_default.ensures c.loop-line.invariant.so_far

pub loop-line-init : goal.loop-line-init
loop-line-init c = record {
  text = search rules;
  so_far = rw c.new-all.ensures.items (no_line c.args.text.now);
}

pub loop-line-preserved : goal.loop-line-preserved
loop-line-preserved c =
    let added : map view c.push.new.self.items
    ≡ map view c.loop-line.all.items ++ view c.in_ok-value.value ∷ [] =
    ap (map view) c.in_ok-push.ensures.items
    ∙ map-append view c.loop-line.all.items (c.in_ok-value.value ∷ []) in
    record {
      text = search rules;
      so_far = one_line c.args.text.now c.loop-line.rest.now c.in-Some.line.now
          c.in-Some.behind.now (map view c.loop-line.all.items) (map view c.push.new.self.items)
          (view c.in_ok-value.value) c.in-Some.ensures.0 c.in-Some.ensures.1
          c.in_ok-value.ensures added c.loop-line.invariant.so_far;
    }
