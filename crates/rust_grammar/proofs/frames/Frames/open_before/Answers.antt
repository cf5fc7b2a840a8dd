use Rattle.std.proofs.Common.{ap, ◌∙◌, arith}
use Rattle.rust_grammar.specs.Frames.{has_room}
use Rattle.rust_grammar.proofs.FrameLemmas.{room-open, room-kept}
use Rattle.rust_grammar.proofs.frames.Frames.open_before.Goals as goal

pub push-requires : goal.push-requires
push-requires c =
    (omega arith, room-open c.self.inside.open.items c.self.inside.kept.items c.self.invariant.0 (ap has_room c.self.view_is ∙ c.requires.room))

pub push-requires-2 : goal.push-requires-2
push-requires-2 c =
    (omega arith, room-kept c.self.inside.open.items c.self.inside.kept.items c.self.invariant.0 (ap has_room c.self.view_is ∙ c.requires.room))
