use Rattle.std.proofs.Common.{refl, ap, ◌&&◌, ◌||◌}
use Rattle.mbe_rules.specs.declared.validation.Walk.{Walk}
use Rattle.mbe_rules.proofs.WalkLemmas.{left-nothing, left-endless, left-work}
use Rattle.mbe_rules.proofs.validation.Walk.leave.Goals as goal

pub returns-clause-nothing : goal.returns-clause-nothing
returns-clause-nothing c =
    let left : Walk = record {
      nothing = c.in-Some.outer.nothing && c.can_match_nothing.result;
      rest = c.in-Some.outer.rest;
      around = c.pop.new.self;
      endless = c.args.self.now.endless || c.is_endless.result;
    } in
    left-nothing c.args.self.now left c.pop.new.self.items c.in-Some.outer c.requires c.in-Some.ensures.items refl refl
    (ap (λ b. c.in-Some.outer.nothing && b) c.can_match_nothing.ensures)

pub returns-clause-endless : goal.returns-clause-endless
returns-clause-endless c =
    let left : Walk = record {
      nothing = c.in-Some.outer.nothing && c.can_match_nothing.result;
      rest = c.in-Some.outer.rest;
      around = c.pop.new.self;
      endless = c.args.self.now.endless || c.is_endless.result;
    } in
    left-endless c.args.self.now left c.pop.new.self.items c.in-Some.outer c.requires c.in-Some.ensures.items refl refl
    (ap (λ b. c.in-Some.outer.nothing && b) c.can_match_nothing.ensures) (ap (λ b. c.args.self.now.endless || b) c.is_endless.ensures)

pub returns-clause-fewer : goal.returns-clause-fewer
returns-clause-fewer c same =
    let left : Walk = record {
      nothing = c.in-Some.outer.nothing && c.can_match_nothing.result;
      rest = c.in-Some.outer.rest;
      around = c.pop.new.self;
      endless = c.args.self.now.endless || c.is_endless.result;
    } in
    left-work c.args.self.now left c.pop.new.self.items c.in-Some.outer c.requires c.in-Some.ensures.items refl refl
    (ap (λ b. c.in-Some.outer.nothing && b) c.can_match_nothing.ensures)
