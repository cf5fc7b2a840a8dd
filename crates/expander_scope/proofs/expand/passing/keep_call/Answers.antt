use Rattle.std.proofs.Common.{◌≡◌, ◌∙◌, ap, true, refl}
use Rattle.expander_model.specs.PieceStates.{after_name}
use Rattle.expander_scope.specs.ListsLeft.{Place}
use Rattle.expander_scope.specs.Turns.{IsAt}
use Rattle.expander_scope.proofs.GoesLemmas.{entered, goes_kept, kept_less, never_at_end}
use Rattle.expander_scope.proofs.expand.passing.keep_call.Goals as goal

pub returns : goal.returns
returns g c = record {
  turn = λ dialect world scope levels edition p before at is begins.
      let inner : Place = record p { here = c.args.from_group; begun = after_name p.begun } in
      let at_group : IsAt (record c.args.walk.now { trees = record c.args.walk.now.trees { here = c.keep.new.trees }; begun = c.behind_name-walk.result }) c.args.search.now.locals inner =
      record { here = c.in_ok-keep.ensures.rest; begun = c.behind_name-walk.ensures ∙ ap after_name at.begun; standing = at.standing; locals = at.locals; groups = at.groups; levels = at.levels; nested = at.nested } in
      let more : c.in_ok-_entered._entered ≡ true =
      entered c.in_ok-_entered._entered (λ no. never_at_end c.args.from_group begins ((c.in_ok-_entered.ensures.end no).1 inner at_group).0) in
      goes_kept dialect world scope levels c.args.outer edition g.S.EventSink.has_taken c.args.search.now c.pass_event.new.search c.args.walk.now c.pass_event.new.walk p at
      before c.args.from_group _ _ refl refl
      (kept_less c.args.walk.now before c.args.from_group c.keep.new.trees (at.here ∙ is) c.in_ok-keep.ensures.rest)
      (c.in_ok-keep.ensures.adds before (at.here ∙ is))
      (c.in_ok-_entered.ensures.turn more dialect world scope levels edition inner at_group begins);
}
