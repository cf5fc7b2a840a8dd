-- One token more each time.
use Rattle.std.proofs.Common.{◌≡◌, ℕ, ◌+◌, ◌≤◌, List, Some, length, get_or, arith, sym, ap, ◌∙◌, subst}
use Rattle.std.proofs.lemmas.Option.{slice_get-get_or}
use Rattle.std.specs.BTreeMap.{get}
use Rattle.std.specs.List.{slice_get}
use Rattle.std.specs.Ordering.{nat_cmp}
use Rattle.bridge.specs.PrintedRanges.{read_ranges}
use Rattle.tt_data.specs.declared.span.TextRange.{TextRange}
use Rattle.program_files.proofs.EndLemmas.{all_passed, behind_token, one_more}
use Rattle.program_files.specs.EndsFound.{IsEndAmong, end_after}
use Rattle.program_files.proofs.module_ends.ends_in.Goals as goal

pub loop-i-preserved : goal.loop-i-preserved
loop-i-preserved c =
    let e = c.args.expansion.now in
    let i = c.loop-i.i in
    record {
      before = behind_token e i c.own_start-before.result c.own_start-before.ensures.own c.own_start-before.ensures.other;
      found = λ start.
          let ranges = c.args.ranges.now in
          let r : TextRange = get_or ranges i (record { start = 0; «end» = 0 }) in
          let old = get nat_cmp c.loop-i.ends start in
          let here : slice_get (read_ranges e.printed) i ≡ Some r =
          ap (λ (l : List TextRange). slice_get l i) (sym c.requires.ranges)
          ∙ slice_get-get_or ranges i (record { start = 0; «end» = 0 }) (omega arith) in
          let told : get nat_cmp c.push_end.new.ends start ≡ end_after e.printed c.loop-i.before r.start start old =
          c.in_ok-push_end.ensures start
          ∙ ap (λ (t : List ℕ). end_after t c.loop-i.before r.start start old) c.requires.text in
          subst (IsEndAmong e (i + 1) start) (sym told)
          (one_more e i start c.loop-i.before r old c.loop-i.invariant.before here (c.loop-i.invariant.found start));
    }

pub returns : goal.returns
returns c = λ start.
    let e = c.args.expansion.now in
    let same : length c.args.ranges.now ≡ length (read_ranges e.printed) = ap (λ (l : List TextRange). length l) c.requires.ranges in
    let most : length (read_ranges e.printed) ≤ c.loop-i.i = omega (arith, same) in
    all_passed e c.loop-i.i start (get nat_cmp c.loop-i.ends start) most (c.loop-i.invariant.found start)
